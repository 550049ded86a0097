-- Accesses that lie within data memory.
use Rattle.std.specs.Prelude.{ℕ, ◌+◌, ◌≤◌, ◌<◌, ◌^◌, length}
use Rattle.riscv_isa.specs.declared.place.Place.{Place}
use Rattle.riscv_isa.specs.declared.place.Place.TheVariants.{In, Window, Nowhere}
use Rattle.riscv_isa.specs.Regions.{Memory, bytes_of}

-- an access that goes to a region ends within it
abbrev pub EndsWithin : Memory → ℕ → Place → Type 0
EndsWithin d size (In region at) = at + size ≤ length (bytes_of region d)
EndsWithin d size Window = Unit {0}
EndsWithin d size Nowhere = Unit {0}

-- regions are small: as many bytes as lie between their begins
pub record IsSmall (d : Memory) : Type 0 where
  pub block : length d.block < 2 ^ 26
  pub globals : length d.globals < 2 ^ 26
  pub local : length d.local ≤ 67108864
  pub stack : length d.stack ≤ 67108864
