-- Texts that read as a program.
use Rattle.std.specs.Prelude.{ℕ, List}
use Rattle.pan_base.specs.Tokens.{Placed}
use Rattle.pan_base.specs.Lexing.{Lexes}
use Rattle.pan_tree.specs.declared.program.Program.{Program}
use Rattle.pan_tree.specs.Grammar.{Derives}
use Rattle.pan_printer.specs.Unspanned.{SameButSpans}

-- The text has tokens that spell this program, but for where its parts stand.
abbrev pub ReadsAs : List ℕ → Program → Type 0
ReadsAs text p = (tokens : List Placed) × (q : Program) × Lexes text tokens × Derives tokens q × SameButSpans p q

-- Some text reads as the program.
abbrev pub Spellable : Program → Type 0
Spellable p = (text : List ℕ) × ReadsAs text p
