-- What the text of a function mentions, and when that is right: numbers below their counts, as many words passed as are taken, and numbers of lawful size.
use Rattle.std.specs.Prelude.{ℕ, ℤ, pos, negsuc, nat_lt, ◌==◌, ◌&&◌, ◌||◌, ◌^◌, Bool, false, List, [], ◌∷◌, length, map, Option, Some, None, slice_get}
use Rattle.pan_stage.specs.declared.program.Handler.{Handler}
use Rattle.pan_stage.specs.declared.program.Program.{Program}

pub data Mention : Type 0 where
  -- a call: so many words are passed, and so many variables take the result
  Called : (function arguments results : ℕ) → Mention
  TailCalled : (function arguments : ℕ) → Mention
  Returned : (words : ℕ) → Mention
  Raised : (exception words : ℕ) → Mention
  -- a handler of this exception, with so many variables
  Caught : (exception variables : ℕ) → Mention
  Foreign : (name : ℕ) → Mention
  -- a word of the text
  Number : (word : ℕ) → Mention
  -- an amount of a shift, which is below the bound
  Amount : (bound amount : ℕ) → Mention
  -- an immediate of an instruction
  Immediate : (immediate : ℤ) → Mention

-- a handler mentions its exception, and what its body does
abbrev pub handler_mentions : Option (Handler (List Mention)) → List Mention
handler_mentions None = []
handler_mentions (Some h) = Caught h.exception (length h.variables) ∷ h.body

-- how many words a function takes and returns
pub record Arity : Type 0 where
  pub parameters : ℕ
  pub results : ℕ

-- what of a program a text may mention
pub record Scope : Type 0 where
  pub arities : List Arity
  -- how many words each exception carries
  pub widths : List ℕ
  -- how many foreign names there are
  pub names : ℕ

abbrev pub scope_of : {F : Type 0} → (F → Arity) → Program F → Scope
scope_of arity p = record { arities = map arity p.functions; widths = p.exceptions; names = length p.names }

-- 12 bits with a sign
abbrev pub is_immediate : ℤ → Bool
is_immediate (pos n) = nat_lt n (2 ^ 11)
is_immediate (negsuc n) = nat_lt n (2 ^ 11)

-- there is such a thing, and the test holds of it
abbrev pub is_some_and : {A : Type 0} → (A → Bool) → Option A → Bool
is_some_and test None = false
is_some_and test (Some a) = test a

-- A mention is right in a function that returns so many words. A call whose result goes nowhere names no variables for it.
abbrev pub is_right : Scope → ℕ → Mention → Bool
is_right s own (Called f n m) = is_some_and (λ (a : Arity). n == a.parameters && (m == 0 || m == a.results)) (slice_get s.arities f)
is_right s own (TailCalled f n) = is_some_and (λ (a : Arity). n == a.parameters && a.results == own) (slice_get s.arities f)
is_right s own (Returned n) = n == own
is_right s own (Raised i n) = is_some_and (λ width. n == width) (slice_get s.widths i)
is_right s own (Caught i n) = is_some_and (λ width. n == width) (slice_get s.widths i)
is_right s own (Foreign i) = nat_lt i s.names
is_right s own (Number n) = nat_lt n (2 ^ 64)
is_right s own (Amount bound n) = nat_lt n bound
is_right s own (Immediate i) = is_immediate i
