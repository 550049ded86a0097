-- What lines need of code.
use Rattle.std.specs.Prelude.{ℕ, ◌*◌, List, map}
use Rattle.pan_stage.specs.Sums.{sum_of}
use Rattle.lab_lang.specs.Layout.{longest}
use Rattle.lab_lang.specs.declared.syntax.Line.{Line}

-- the bytes of lines that are all at their longest
abbrev pub code : List Line → ℕ
code lines = 4 * sum_of (map longest lines)
