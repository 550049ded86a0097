-- Symbols that begin and end with no token read.
use Rattle.std.proofs.Common.{◌≡◌, ℕ, false, List, [], ◌∷◌, ap, refl}
use Rattle.pan_tree.specs.declared.level.Level.{Level}
use Rattle.pan_tree.specs.declared.level.Level.TheVariants as level
use Rattle.pan_base.specs.declared.tokens.Sign.TheVariants as sign
use Rattle.pan_base.specs.declared.tokens.Keyword.TheVariants as keyword
use Rattle.pan_base.specs.Tokens.{Placed, Kind, Reserved, ASign}
use Rattle.pan_tree.specs.Grammar.{nesting_limit}
use Rattle.pan_parser.specs.Machine.{WantExpr, MayCompare, WantChain, WantOperand, MoreTerms, WantShift, MoreShifts, WantUnary, WantPrimary, MoreFields, Stack, Refused, begin, begin_primary, continues, step, go_on, run}
use Rattle.pan_parser.specs.Follow.{NoTerm, NoCompare}
use Rattle.pan_parser.specs.Reading.{is_prefix, NoPrefix}

pub expr_start : (a : List Placed) (k : ℕ) (K : Stack) → run nesting_limit a (WantExpr k ∷ K) ≡ run nesting_limit a (WantChain level.Or k ∷ MayCompare k ∷ K)
expr_start [] k K = refl
expr_start (t ∷ a) k K = refl

pub chain_start : (a : List Placed) (l : Level) (k : ℕ) (K : Stack) → run nesting_limit a (WantChain l k ∷ K) ≡ run nesting_limit a (WantOperand l k ∷ MoreTerms l k ∷ K)
chain_start [] l k K = refl
chain_start (t ∷ a) l k K = refl

pub or_start : (a : List Placed) (k : ℕ) (K : Stack) → run nesting_limit a (WantOperand level.Or k ∷ K) ≡ run nesting_limit a (WantChain level.Xor k ∷ K)
or_start [] k K = refl
or_start (t ∷ a) k K = refl

pub xor_start : (a : List Placed) (k : ℕ) (K : Stack) → run nesting_limit a (WantOperand level.Xor k ∷ K) ≡ run nesting_limit a (WantChain level.And k ∷ K)
xor_start [] k K = refl
xor_start (t ∷ a) k K = refl

pub and_start : (a : List Placed) (k : ℕ) (K : Stack) → run nesting_limit a (WantOperand level.And k ∷ K) ≡ run nesting_limit a (WantShift k ∷ K)
and_start [] k K = refl
and_start (t ∷ a) k K = refl

pub sum_start : (a : List Placed) (k : ℕ) (K : Stack) → run nesting_limit a (WantOperand level.Sum k ∷ K) ≡ run nesting_limit a (WantChain level.Product k ∷ K)
sum_start [] k K = refl
sum_start (t ∷ a) k K = refl

pub product_start : (a : List Placed) (k : ℕ) (K : Stack) → run nesting_limit a (WantOperand level.Product k ∷ K) ≡ run nesting_limit a (WantUnary k ∷ K)
product_start [] k K = refl
product_start (t ∷ a) k K = refl

pub shift_start : (a : List Placed) (k : ℕ) (K : Stack) → run nesting_limit a (WantShift k ∷ K) ≡ run nesting_limit a (WantChain level.Sum k ∷ MoreShifts ∷ K)
shift_start [] k K = refl
shift_start (t ∷ a) k K = refl

pub terms_end : (a : List Placed) (l : Level) (k : ℕ) (K : Stack) → NoTerm l a → run nesting_limit a (MoreTerms l k ∷ K) ≡ run nesting_limit a K
terms_end [] l k K none = refl
terms_end (t ∷ a) l k K none = ap (λ o. go_on (continues o (WantOperand l k ∷ MoreTerms l k ∷ K) (step nesting_limit K t)) (t ∷ a) (run nesting_limit a)) none

pub compare_end : (a : List Placed) (k : ℕ) (K : Stack) → NoCompare a → run nesting_limit a (MayCompare k ∷ K) ≡ run nesting_limit a K
compare_end [] k K none = refl
compare_end (t ∷ a) k K none = ap (λ o. go_on (continues o (WantChain level.Or k ∷ K) (step nesting_limit K t)) (t ∷ a) (run nesting_limit a)) none

pub postfix_start : (a : List Placed) (k : ℕ) (K : Stack) → NoPrefix a → run nesting_limit a (WantUnary k ∷ K) ≡ run nesting_limit a (WantPrimary k ∷ MoreFields ∷ K)
postfix_start [] k K none = refl
postfix_start (t ∷ a) k K none = ap (λ s. go_on s (t ∷ a) (run nesting_limit a)) (same t.kind none)
  where
    same : (v : Kind) → is_prefix v ≡ false → begin nesting_limit k v K Refused ≡ begin_primary nesting_limit k v (MoreFields ∷ K) Refused
    same (ASign sign.Minus) h = absurd (cc)
    same (Reserved keyword.Lds) h = absurd (cc)
    same (Reserved keyword.Ldb) h = absurd (cc)
    same _ h = refl

pub ruleset starts = (expr_start, chain_start, or_start, xor_start, and_start, sum_start, product_start, shift_start, terms_end, compare_end, postfix_start)
