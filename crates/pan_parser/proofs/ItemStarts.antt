-- Symbols of items that begin and end with no token read.
use Rattle.std.proofs.Common.{◌≡◌, ℕ, true, false, if◌then◌else◌, List, [], ◌∷◌, ap, refl}
use Rattle.pan_base.specs.declared.tokens.Sign.TheVariants as sign
use Rattle.pan_base.specs.Tokens.{Placed, Kind, Name}
use Rattle.pan_tree.specs.Grammar.{nesting_limit}
use Rattle.pan_parser.specs.Machine.{WantSign, WantName, WantShape, MayShape, WantParam, MoreParams, MayParams, Stack, Step, Goes, Refused, a_name, begin_shape, step, go_on, run}
use Rattle.pan_parser.specs.Follow.{NoSign}
use Rattle.pan_parser.specs.Reading.{is_name}
use Rattle.pan_parser.specs.Items.{begins_name}

pub param_start : (a : List Placed) (k : ℕ) (K : Stack) → run nesting_limit a (WantParam k ∷ K) ≡ run nesting_limit a (WantShape k ∷ WantName ∷ K)
param_start [] k K = refl
param_start (t ∷ a) k K = refl

pub params_start : (a : List Placed) (k : ℕ) (K : Stack) → NoSign sign.CloseParen a
    → run nesting_limit a (MayParams k ∷ WantSign sign.CloseParen ∷ K) ≡ run nesting_limit a (WantParam k ∷ MoreParams k ∷ WantSign sign.CloseParen ∷ K)
params_start [] k K none = refl
params_start (t ∷ a) k K none =
    ap (λ b. go_on (begin_shape nesting_limit k t.kind (WantName ∷ MoreParams k ∷ WantSign sign.CloseParen ∷ K) (if b then Goes K else Refused)) (t ∷ a) (run nesting_limit a)) none

unnamed : (v : Kind) (K : Stack) → is_name v ≡ false → a_name v K ≡ Refused
unnamed (Name x) K h = absurd (cc)
unnamed _ K h = refl

named : (k : ℕ) (v : Kind) (K : Stack) (other : Step) → is_name v ≡ true → begin_shape nesting_limit k v K other ≡ other
named k (Name x) K other h = refl
named k _ K other h = absurd (cc)

pub result_start : (a : List Placed) (k : ℕ) (K : Stack) → begins_name a ≡ false → run nesting_limit a (MayShape k ∷ WantName ∷ K) ≡ run nesting_limit a (WantShape k ∷ WantName ∷ K)
result_start [] k K h = refl
result_start (t ∷ a) k K h = ap (λ s. go_on (begin_shape nesting_limit k t.kind (WantName ∷ K) s) (t ∷ a) (run nesting_limit a)) (unnamed t.kind K h)

pub result_end : (a : List Placed) (k : ℕ) (K : Stack) → begins_name a ≡ true → run nesting_limit a (MayShape k ∷ K) ≡ run nesting_limit a K
result_end [] k K h = absurd (cc)
result_end (t ∷ a) k K h = ap (λ s. go_on s (t ∷ a) (run nesting_limit a)) (named k t.kind K (step nesting_limit K t) h)

pub ruleset starts = (param_start, params_start, result_start, result_end)
