-- Instructions that give a register a word.
use Rattle.std.specs.Prelude.{ℕ, Bool, zero, suc, ℤ, pos, negsuc, ◌+◌, ◌-◌, ◌%◌, ◌^◌, nat_eq, nat_lt, not, ◌&&◌, if◌then◌else◌, List, [], ◌∷◌, ◌++◌}
use Rattle.std.specs.Int.{trailing_zeros, w64}
use Rattle.pan_base.specs.Words.{shift}
use Rattle.pan_base.specs.declared.operators.ShOp.TheVariants.{Sar}
use Rattle.pan_base.specs.declared.operators.IOp.{IOp}
use Rattle.pan_base.specs.declared.operators.IOp.TheVariants.{Addi, Addiw}
use Rattle.pan_base.specs.declared.operators.ShiftOp.TheVariants.{Slli}
use Rattle.pan_base.specs.declared.operators.UOp.TheVariants.{Lui}
use Rattle.riscv_isa.specs.declared.instr.Instr.{Instr}
use Rattle.riscv_isa.specs.declared.instr.Instr.TheVariants as instr

-- the low 12 bits with their sign
abbrev pub low : ℕ → ℤ
low n = if nat_lt (n % 4096) 2048 then pos (n % 4096) else negsuc (4095 - n % 4096)

-- the word without them, divided by 2 ^ 12 in two's complement
abbrev pub high : ℕ → ℕ
high n = if nat_lt (n % 4096) 2048 then shift Sar n 12 else (shift Sar n 12 + 1) % 2 ^ 64

-- what adds the low bits to what the register has, where they aren't 0
abbrev pub with_low : IOp → (r n : ℕ) → List Instr
with_low op r n = if nat_eq (n % 4096) 0 then [] else instr.I op r r (low n) ∷ []

-- whether the word is 32 bits with their sign
abbrev pub is_half : ℕ → Bool
is_half n = nat_lt ((n + 2 ^ 31) % 2 ^ 64) (2 ^ 32)

-- the low bits alone, or 32 bits with their sign by LUI and ADDIW, or these instructions
abbrev pub constant_by : List Instr → (r n : ℕ) → List Instr
constant_by long r n =
    if nat_eq (high n) 0 then instr.I Addi r 0 (low n) ∷ []
    else (if is_half n then instr.U Lui r (high n % 2 ^ 20) ∷ with_low Addiw r n
    else long)

-- the zeros below the lowest bit of the high bits that is set, and the high bits without them
abbrev pub zeros : ℕ → ℕ
zeros n = trailing_zeros w64 (high n)

abbrev pub odd : ℕ → ℕ
odd n = shift Sar (high n) (zeros n)

-- whether LUI alone gives 2 ^ 12 times the word, and ADDI alone doesn't give the word
abbrev pub is_upper : ℕ → Bool
is_upper n = not (nat_eq (high n) 0) && nat_lt ((n + 2 ^ 19) % 2 ^ 64) (2 ^ 20)

-- what shifts the register to the left by s, and adds the word's low bits
abbrev pub shifted : (s r n : ℕ) → List Instr
shifted s r n = instr.Sh Slli r r s ∷ with_low Addi r n

-- the word's high bits without their zeros, by LUI or by these instructions, shifted to their place
abbrev pub shifted_by : List Instr → (r n : ℕ) → List Instr
shifted_by long r n = if is_upper (odd n) then instr.U Lui r (odd n % 2 ^ 20) ∷ shifted (zeros n) r n else long ++ shifted (12 + zeros n) r n

-- the same, where high bits that are too many for LUI come by a constant of their own, so many times
abbrev pub constant_in : ℕ → (r n : ℕ) → List Instr
constant_in zero r n = constant_by [] r n
constant_in (suc k) r n = constant_by (shifted_by (constant_in k r (odd n)) r n) r n

-- at most eight instructions, which give the register the word
abbrev pub constant : (r n : ℕ) → List Instr
constant r n = constant_in 3 r n
