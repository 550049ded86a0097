-- The text of operands.
use Rattle.std.specs.Prelude.{ℕ, ℤ, List, [], ◌∷◌, ◌++◌, ◌==◌, codes, if◌then◌else◌}
use Rattle.std.specs.Fmt.{decimal, signed_decimal}
use Rattle.std.specs.Int.{to_be_bytes, w32}
use Rattle.pan_base.specs.Trace.{hex_text}
use Rattle.code_listing.specs.declared.operand.Operand.{Operand}
use Rattle.code_listing.specs.declared.operand.Operand.TheVariants.{Register, Number, High, Address}

-- a number of 32 bits as eight hexadecimal digits
unfoldable pub eight_digits : ℕ → List ℕ
eight_digits n = hex_text (to_be_bytes w32 n)

-- digits without the zeros before the first other one, or before the last
abbrev pub significant : List ℕ → List ℕ
significant [] = []
significant (d ∷ []) = d ∷ []
significant (d ∷ e ∷ digits) = if d == 48 then significant (e ∷ digits) else d ∷ e ∷ digits

-- a register by its number
abbrev pub register : ℕ → List ℕ
register r = codes "x" ++ decimal r

-- a number in hexadecimal
abbrev pub hexadecimal : ℕ → List ℕ
hexadecimal n = codes "0x" ++ significant (eight_digits n)

-- an address: what is added to the register
abbrev pub address : ℤ → ℕ → List ℕ
address offset base = signed_decimal offset ++ codes "(" ++ register base ++ codes ")"

abbrev pub operand_text : Operand → List ℕ
operand_text (Register r) = register r
operand_text (Number n) = signed_decimal n
operand_text (High n) = hexadecimal n
operand_text (Address offset base) = address offset base
