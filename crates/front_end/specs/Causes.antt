-- The place and the name of what is wrong with a source.
use Rattle.std.specs.Prelude.{ℕ, List, codes}
use Rattle.pan_tree.specs.declared.rule.Rule.{Rule}
use Rattle.pan_tree.specs.declared.rule.Rule.TheVariants as rule
use Rattle.pan_lexer.specs.declared.error.LexError.TheVariants as lex
use Rattle.pan_parser.specs.declared.error.ParseError.TheVariants as parse
use Rattle.pan_shapes.specs.declared.error.CheckError.TheVariants as check
use Rattle.front_end.specs.declared.error.SourceError.{SourceError}
use Rattle.front_end.specs.declared.error.SourceError.TheVariants as source

-- the first byte of what is wrong, from 0 on, and 0 where no place is to blame
abbrev pub place_of : SourceError → ℕ
place_of (source.Lex lex.TooLong) = 0
place_of (source.Lex (lex.BadByte place)) = place
place_of (source.Lex (lex.BadNumber place)) = place
place_of (source.Lex (lex.OpenComment place)) = place
place_of (source.Lex lex.NoMemory) = 0
place_of (source.Parse (parse.Syntax place)) = place
place_of (source.Parse (parse.TooDeep place)) = place
place_of (source.Parse parse.NoMemory) = 0
place_of (source.Check (check.Breaks broken place)) = place
place_of (source.Check check.NoMemory) = 0
place_of source.NoMemory = 0

-- the name of a rule
abbrev pub rule_text : Rule → List ℕ
rule_text rule.TwoNames = codes "TwoNames"
rule_text rule.NoMain = codes "NoMain"
rule_text rule.MainShape = codes "MainShape"
rule_text rule.UnknownName = codes "UnknownName"
rule_text rule.UnknownFunction = codes "UnknownFunction"
rule_text rule.UnknownException = codes "UnknownException"
rule_text rule.WrongShape = codes "WrongShape"
rule_text rule.WrongCount = codes "WrongCount"
rule_text rule.NotStruct = codes "NotStruct"
rule_text rule.NoField = codes "NoField"
rule_text rule.NotWord = codes "NotWord"
rule_text rule.BadShift = codes "BadShift"
rule_text rule.LoopOutside = codes "LoopOutside"
rule_text rule.NoReturn = codes "NoReturn"
rule_text rule.ShapeTooWide = codes "ShapeTooWide"
rule_text rule.TooMany = codes "TooMany"
rule_text rule.FunctionTooHeavy = codes "FunctionTooHeavy"
rule_text rule.ProgramTooHeavy = codes "ProgramTooHeavy"

-- the name of what is wrong
abbrev pub cause_of : SourceError → List ℕ
cause_of (source.Lex lex.TooLong) = codes "TooLong"
cause_of (source.Lex (lex.BadByte place)) = codes "BadByte"
cause_of (source.Lex (lex.BadNumber place)) = codes "BadNumber"
cause_of (source.Lex (lex.OpenComment place)) = codes "OpenComment"
cause_of (source.Lex lex.NoMemory) = codes "NoMemory"
cause_of (source.Parse (parse.Syntax place)) = codes "Syntax"
cause_of (source.Parse (parse.TooDeep place)) = codes "TooDeep"
cause_of (source.Parse parse.NoMemory) = codes "NoMemory"
cause_of (source.Check (check.Breaks broken place)) = rule_text broken
cause_of (source.Check check.NoMemory) = codes "NoMemory"
cause_of source.NoMemory = codes "NoMemory"
