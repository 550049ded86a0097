-- What a script says.
use Rattle.std.specs.Prelude.{ℕ, ◌+◌, Bool, if◌then◌else◌, List, [], ◌∷◌, ◌++◌, Result, Ok, Err}
use Rattle.std.specs.List.{list_any}
use Rattle.pan_base.specs.Events.{Asked, Load, Store, Foreign}
use Rattle.device_script.specs.declared.error.Cause.{Cause}
use Rattle.device_script.specs.declared.error.Cause.TheVariants as cause
use Rattle.device_script.specs.declared.line.Piece.{Piece}
use Rattle.device_script.specs.declared.line.Line.{Line}
use Rattle.device_script.specs.declared.line.Line.TheVariants as line
use Rattle.device_script.specs.declared.rules.Rule.{Rule}
use Rattle.device_script.specs.declared.rules.Rule.TheVariants as rule
use Rattle.device_script.specs.Lines.{lines, words}
use Rattle.device_script.specs.Rules.{answers}
use Rattle.device_script.specs.Saying.{said}

-- one request of each kind that the rule answers
abbrev pub requests_of : Rule → List Asked
requests_of (rule.Register size addr value) = Load size addr ∷ Store size addr 0 ∷ []
requests_of (rule.Queue size addr values) = Load size addr ∷ []
requests_of (rule.Counter size addr first step loads) = Load size addr ∷ []
requests_of (rule.Collector size addr left) = Store size addr 0 ∷ []
requests_of (rule.Foreign name effect) = Foreign 0 name [] [] ∷ []

-- one of the rules answers what this one would
abbrev pub is_taken : List Rule → Rule → Bool
is_taken rules r = list_any (λ q. list_any (λ s. answers s q) rules) (requests_of r)

-- the pieces of memory and the rules, in order
pub record Content : Type 0 where
  pub pieces : List Piece
  pub rules : List Rule

-- the script with what a line says, or what is wrong with the line
abbrev pub with_line : Content → Result Line Cause → Result Content Cause
with_line s (Ok line.Silence) = Ok s
with_line s (Ok (line.Piece p)) = Ok (record s { pieces = s.pieces ++ p ∷ [] })
with_line s (Ok (line.Rule r)) = if is_taken s.rules r then Err cause.Twice else Ok (record s { rules = s.rules ++ r ∷ [] })
with_line s (Err c) = Err c

-- a line that fits no rule, by its number, and what is wrong with it
pub record Refusal : Type 0 where
  pub line : ℕ
  pub cause : Cause

-- what comes after the line of this number, unless that is refused
abbrev pub or_refused : ℕ → Result Content Cause → (Content → Result Content Refusal) → Result Content Refusal
or_refused n (Ok s) more = more s
or_refused n (Err c) more = Err (record { line = n; cause = c })

-- the script with what the lines say that count from this number
abbrev pub with_lines : ℕ → Content → List (List ℕ) → Result Content Refusal
with_lines n s [] = Ok s
with_lines n s (line ∷ lines) = or_refused n (with_line s (said (words line))) (λ t. with_lines (n + 1) t lines)

-- what a file says, or its first line that fits no rule; lines count from 1
abbrev pub script_of_file : List ℕ → Result Content Refusal
script_of_file bytes = with_lines 1 (record { pieces = []; rules = [] }) (lines bytes)
