-- What can't follow a part that took all that it could, and where the machine stops in the whole run.
use Rattle.std.specs.Prelude.{◌≡◌, ℕ, false, List, [], ◌∷◌, None}
use Rattle.pan_base.specs.declared.tokens.Sign.{Sign}
use Rattle.pan_base.specs.declared.tokens.Sign.TheVariants as sign
use Rattle.pan_base.specs.declared.tokens.Keyword.TheVariants as keyword
use Rattle.pan_base.specs.Tokens.{Placed, Kind}
use Rattle.pan_tree.specs.declared.level.Level.{Level}
use Rattle.pan_tree.specs.declared.level.Level.TheVariants as level
use Rattle.pan_tree.specs.Nodes.{operator_at, shift_operator, comparison}
use Rattle.pan_tree.specs.Grammar.{nesting_limit}
use Rattle.pan_parser.specs.declared.error.ParseError.{ParseError}
use Rattle.pan_parser.specs.declared.error.ParseError.TheVariants as error
use Rattle.pan_parser.specs.Machine.{is_sign, is_word, run, whole, Refuses, TooDeep}
use Rattle.pan_parser.specs.Answers.{place_of}

-- the tokens begin with none that does this
abbrev pub BeginsNot : (Kind → Type 0) → List Placed → Type 0
BeginsNot Does [] = Unit {0}
BeginsNot Does (t ∷ a) = Does t.kind

-- this sign doesn't come
abbrev pub NoSign : Sign → List Placed → Type 0
NoSign w = BeginsNot (λ v. is_sign w v ≡ false)

-- no operator of this level, no shift, no comparison, no handler comes
abbrev pub NoTerm : Level → List Placed → Type 0
NoTerm l = BeginsNot (λ v. operator_at l v ≡ None)

abbrev pub NoShift : List Placed → Type 0
NoShift = BeginsNot (λ v. shift_operator v ≡ None)

abbrev pub NoCompare : List Placed → Type 0
NoCompare = BeginsNot (λ v. comparison v ≡ None)

abbrev pub NoHandler : List Placed → Type 0
NoHandler = BeginsNot (λ v. is_word keyword.Handle v ≡ false)

-- what can't follow an operand of each level
abbrev pub AfterOperand : Level → List Placed → Type 0
AfterOperand level.Product a = NoSign sign.Dot a
AfterOperand level.Sum a = NoSign sign.Dot a × NoTerm level.Product a
AfterOperand level.And a = NoSign sign.Dot a × NoTerm level.Product a × NoTerm level.Sum a × NoShift a
AfterOperand level.Xor a = NoSign sign.Dot a × NoTerm level.Product a × NoTerm level.Sum a × NoShift a × NoTerm level.And a
AfterOperand level.Or a = NoSign sign.Dot a × NoTerm level.Product a × NoTerm level.Sum a × NoShift a × NoTerm level.And a × NoTerm level.Xor a

-- what can't follow a chain of each level
abbrev pub AfterChain : Level → List Placed → Type 0
AfterChain l a = AfterOperand l a × NoTerm l a

-- what can't follow an expression
abbrev pub AfterExpr : List Placed → Type 0
AfterExpr a = AfterChain level.Or a × NoCompare a

-- the machine stops in the whole run as the error says
abbrev pub Halts : ℕ → List Placed → ParseError → Type 0
Halts end ts error.NoMemory = Unit {0}
Halts end ts (error.Syntax place) = (rest : List Placed) × (place ≡ place_of rest end) × (run nesting_limit ts whole ≡ Refuses rest)
Halts end ts (error.TooDeep place) = (rest : List Placed) × (place ≡ place_of rest end) × (run nesting_limit ts whole ≡ TooDeep rest)
