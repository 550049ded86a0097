-- The listing of code.
use Rattle.std.specs.Prelude.{ℕ, ◌*◌, ◌/◌, List, ◌++◌, length, codes}
use Rattle.std.specs.List.{flat_map, range_with_len}
use Rattle.pan_base.specs.declared.events.Size.TheVariants.{B4}
use Rattle.pan_base.specs.Bytes.{number_at}
use Rattle.riscv_isa.specs.Decoded.{decoded}
use Rattle.code_listing.specs.Operands.{eight_digits}
use Rattle.code_listing.specs.Assembly.{word_text}

-- the line of a word: where it stands in the code, the word, and what it stands for
unfoldable pub word_line : ℕ → ℕ → List ℕ
word_line offset word =
    eight_digits offset ++ codes " " ++ eight_digits word ++ codes " " ++ word_text (decoded word) ++ codes "\n"

-- the line of a code's word by its number from 0
abbrev pub line_of : List ℕ → ℕ → List ℕ
line_of code i = word_line (4 * i) (number_at B4 code (4 * i))

-- the lines of the words of some code, one after another
abbrev pub listing : List ℕ → List ℕ
listing code = flat_map (line_of code) (range_with_len 0 (length code / 4))
