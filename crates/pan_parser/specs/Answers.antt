-- What the parser answers.
use Rattle.std.specs.Prelude.{◌≡◌, ℕ, ◌<◌, ◌≤◌, List, [], ◌∷◌, ◌++◌, length, Result, Ok, Err}
use Rattle.pan_base.specs.Tokens.{Placed}
use Rattle.pan_tree.specs.declared.program.Program.{Program}
use Rattle.pan_tree.specs.Grammar.{IsProgram, Derives, Viable, nesting_limit}
use Rattle.pan_parser.specs.declared.error.ParseError.{ParseError}
use Rattle.pan_parser.specs.declared.error.ParseError.TheVariants.{Syntax, TooDeep, NoMemory}

-- a token that stands in front of these last ones nests within the limit
abbrev pub InFront : List Placed → ℕ → List Placed → Type 0
InFront more j rest = length more < length rest → j ≤ nesting_limit

-- some program begins with these tokens, none of which nests deeper than the limit
abbrev pub ViableWithin : List Placed → Type 0
ViableWithin tokens = (more : List Placed) × (p : Program) × IsProgram (InFront more) (tokens ++ more) p

-- the place of the first of these tokens, or the end's
abbrev pub place_of : List Placed → ℕ → ℕ
place_of [] end = end
place_of (t ∷ ts) end = t.span.start

-- the token that comes, or the end, continues no program
abbrev pub Breaks : List Placed → List Placed → Type 0
Breaks before [] = (p : Program) → ¬ Derives before p
Breaks before (t ∷ after) = ¬ Viable (before ++ t ∷ [])

-- the token that comes continues some program, and nests deeper than the limit in each
abbrev pub Nests : List Placed → List Placed → Type 0
Nests before [] = ⊥
Nests before (t ∷ after) = Viable (before ++ t ∷ []) × (¬ ViableWithin (before ++ t ∷ []))

-- the earliest place where the tokens break off
pub record IsSyntax (tokens : List Placed) (end place : ℕ) : Type 0 where
  pub before : List Placed
  pub after : List Placed
  pub all : tokens ≡ before ++ after
  pub there : place ≡ place_of after end
  pub viable : ViableWithin before
  pub breaks : Breaks before after

-- the earliest place where they nest too deep
pub record IsTooDeep (tokens : List Placed) (end place : ℕ) : Type 0 where
  pub before : List Placed
  pub after : List Placed
  pub all : tokens ≡ before ++ after
  pub there : place ≡ place_of after end
  pub viable : ViableWithin before
  pub nests : Nests before after

-- why the tokens spell no program within the limit
abbrev pub Refusal : List Placed → ℕ → ParseError → Type 0
Refusal tokens end (Syntax place) = IsSyntax tokens end place
Refusal tokens end (TooDeep place) = IsTooDeep tokens end place
Refusal tokens end NoMemory = ⊥

-- this program is answered, unless memory ran out
abbrev pub Gives : Result Program ParseError → Program → Type 0
Gives (Ok q) p = q ≡ p
Gives (Err e) p = e ≡ NoMemory
