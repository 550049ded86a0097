-- Why a source isn't built.
use Rattle.std.specs.Prelude.{ℕ, List}
use Rattle.front_end.specs.Sources.{Unchecked}
use Rattle.front_end.specs.declared.error.SourceError.{SourceError}
use Rattle.front_end.specs.declared.error.SourceError.TheVariants as source
use Rattle.pan_driver.specs.declared.error.BuildError.{BuildError}
use Rattle.pan_driver.specs.declared.error.BuildError.TheVariants.{Lex, Parse, Check, NoMemory}

-- an error of a source as one of a build
abbrev pub of_source : SourceError → BuildError
of_source (source.Lex e) = Lex e
of_source (source.Parse e) = Parse e
of_source (source.Check e) = Check e
of_source source.NoMemory = NoMemory

-- and back
abbrev pub source_error : BuildError → SourceError
source_error (Lex e) = source.Lex e
source_error (Parse e) = source.Parse e
source_error (Check e) = source.Check e
source_error NoMemory = source.NoMemory

-- the bytes are no source of a program that keeps every rule, for this reason
abbrev pub Unbuilt : List ℕ → BuildError → Type 0
Unbuilt bytes e = Unchecked bytes (source_error e)
