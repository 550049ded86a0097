-- What the machine does with the symbols that a function reads.
use Rattle.std.proofs.Common.{◌≡◌, ℕ, List, [], ◌∷◌, ◌++◌, ap, ◌∙◌}
use Rattle.pan_base.specs.Tokens.{Placed}
use Rattle.pan_lexer.specs.TokenRow.{TokenRow}
use Rattle.pan_tree.specs.Grammar.{nesting_limit}
use Rattle.pan_parser.specs.Machine.{Symbol, Stack, Goes, step, go_on, run}
use Rattle.pan_parser.specs.Reading.{left, Comes, Reads}

-- ---- one symbol after another

-- the machine comes from the symbols J at a to the symbols L at b
pub record Passes (J : Stack) (a : List Placed) (L : Stack) (b : List Placed) : Type 0 where
  pub by : (K : Stack) → run nesting_limit a (J ++ K) ≡ run nesting_limit b (L ++ K)

pub on : {J L M : Stack} {a b c : List Placed} → Passes J a L b → Passes L b M c → Passes J a M c
on p q = record { by = λ K. p.by K ∙ q.by K }

pub one_read : {x : Symbol} {J : Stack} {a b : List Placed} → Reads (x ∷ []) a b → Passes (x ∷ J) a J b
one_read {J = J} r = record { by = λ K. r.by (J ++ K) }

-- ---- one token

-- the token takes the machine on, whatever is to come later
pub goes : (row : TokenRow) (at after : ℕ) (t : Placed) (J L : Stack) → Comes row at after t → ((K : Stack) → step nesting_limit (J ++ K) t ≡ Goes (L ++ K)) → Passes J (left row at) L (left row after)
goes row at after t J L comes on = record { by = λ K. ap (λ a. run nesting_limit a (J ++ K)) comes.all ∙ ap (λ s. go_on s (t ∷ left row after) (run nesting_limit (left row after))) (on K) }
