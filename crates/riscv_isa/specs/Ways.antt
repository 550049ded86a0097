-- The way from one address of code to another: in one immediate, or in the 20 high bits of an AUIPC and the 12 low ones of the instruction after it.
use Rattle.std.specs.Prelude.{ℕ, ℤ, pos, negsuc, ◌+◌, ◌-◌, ◌/◌, ◌%◌, ◌^◌, ◌≤◌, nat_le, if◌then◌else◌}
use Rattle.pan_base.specs.Results.{upper}
use Rattle.pan_base.specs.Words.{signed}

-- an address in code, whose longest ends at 0x110001000, or up to 0x130000000 behind it
pub record IsNear (at : ℕ) : Type 0 where
  pub low : 0x100000000 ≤ at
  pub high : at ≤ 0x130000000

-- how far it is from one address to another
abbrev pub way : ℕ → ℕ → ℤ
way from to = if nat_le from to then pos (to - from) else negsuc (from - to - 1)

-- the 20 bits of an AUIPC at an address, on the way to another one
abbrev pub high_of : ℕ → ℕ → ℕ
high_of from to = (to + 2 ^ 64 - from + 2 ^ 11) / 2 ^ 12 % 2 ^ 20

-- what is left of the way then
abbrev pub low_of : ℕ → ℕ → ℤ
low_of from to = signed 12 ((to + 2 ^ 64 - from) % 2 ^ 12)

-- what the AUIPC makes
abbrev pub halfway : ℕ → ℕ → ℕ
halfway from to = (from + upper (high_of from to)) % 2 ^ 64
