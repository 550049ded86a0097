-- Errors of the stages as errors of a source: want of memory is one error, whoever answers it.
use Rattle.pan_lexer.specs.declared.error.LexError.{LexError}
use Rattle.pan_lexer.specs.declared.error.LexError.TheVariants as lex
use Rattle.pan_parser.specs.declared.error.ParseError.{ParseError}
use Rattle.pan_parser.specs.declared.error.ParseError.TheVariants as parse
use Rattle.pan_shapes.specs.declared.error.CheckError.{CheckError}
use Rattle.pan_shapes.specs.declared.error.CheckError.TheVariants as check
use Rattle.front_end.specs.declared.error.SourceError.{SourceError}
use Rattle.front_end.specs.declared.error.SourceError.TheVariants.{Lex, Parse, Check, NoMemory}

abbrev pub of_lex : LexError → SourceError
of_lex lex.NoMemory = NoMemory
of_lex e = Lex e

abbrev pub of_parse : ParseError → SourceError
of_parse parse.NoMemory = NoMemory
of_parse e = Parse e

abbrev pub of_check : CheckError → SourceError
of_check check.NoMemory = NoMemory
of_check e = Check e
