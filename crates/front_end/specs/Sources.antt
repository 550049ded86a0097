-- The sources whose programs keep every rule, and why others have no such program.
use Rattle.std.specs.Prelude.{ℕ, ◌≤◌, List, length}
use Rattle.pan_base.specs.Tokens.{Placed}
use Rattle.pan_base.specs.Lexing.{Lexes}
use Rattle.pan_tree.specs.Grammar.{Tree}
use Rattle.pan_tree.specs.Check.{IsWellShaped, IsFirst}
use Rattle.pan_tree.specs.declared.program.Program.{Program}
use Rattle.pan_lexer.specs.TokenRow.{source_limit}
use Rattle.pan_lexer.specs.Refusal as lexer
use Rattle.pan_parser.specs.Answers as parser
use Rattle.pan_parser.specs.declared.error.ParseError.{ParseError}
use Rattle.pan_shapes.specs.declared.error.CheckError.{CheckError}
use Rattle.pan_shapes.specs.declared.error.CheckError.TheVariants as check
use Rattle.front_end.specs.declared.error.SourceError.{SourceError}
use Rattle.front_end.specs.declared.error.SourceError.TheVariants as source

-- the bytes are a source of the program, which keeps every rule
pub record IsChecked (bytes : List ℕ) (program : Program) : Type 0 where
  pub size : length bytes ≤ source_limit
  pub tokens : List Placed
  pub lexed : Lexes bytes tokens
  pub tree : Tree tokens program
  pub shaped : IsWellShaped program

-- the bytes have tokens, which spell no program for this reason
pub record IsUnparsed (bytes : List ℕ) (e : ParseError) : Type 0 where
  pub size : length bytes ≤ source_limit
  pub tokens : List Placed
  pub lexed : Lexes bytes tokens
  pub refusal : parser.Refusal tokens (length bytes) e

-- this is the first that the program breaks
abbrev pub IsFirstBreak : Program → CheckError → Type 0
IsFirstBreak program (check.Breaks broken place) = IsFirst program (record { rule = broken; place = place })
IsFirstBreak program check.NoMemory = ⊥

-- the bytes are a source of a program that breaks this rule first
pub record IsBroken (bytes : List ℕ) (e : CheckError) : Type 0 where
  pub size : length bytes ≤ source_limit
  pub tokens : List Placed
  pub lexed : Lexes bytes tokens
  pub program : Program
  pub tree : Tree tokens program
  pub first : IsFirstBreak program e

-- why a source has no program that keeps every rule
abbrev pub Unchecked : List ℕ → SourceError → Type 0
Unchecked bytes (source.Lex e) = lexer.Refusal bytes e
Unchecked bytes (source.Parse e) = IsUnparsed bytes e
Unchecked bytes (source.Check e) = IsBroken bytes e
Unchecked bytes source.NoMemory = ⊥
