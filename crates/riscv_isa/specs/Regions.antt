-- Data memory: its regions, and where an access goes.
use Rattle.std.specs.Prelude.{ℕ, ◌+◌, ◌≤◌, ◌-◌, ◌%◌, ◌==◌, Bool, if◌then◌else◌, List, length}
use Rattle.pan_base.specs.Bytes.{is_within}
use Rattle.riscv_isa.specs.declared.place.Region.{Region}
use Rattle.riscv_isa.specs.declared.place.Region.TheVariants.{Block, Globals, Local, Stack}
use Rattle.riscv_isa.specs.declared.place.Place.{Place}
use Rattle.riscv_isa.specs.declared.place.Place.TheVariants.{In, Window, Nowhere}

-- the bytes of each region
pub record Memory : Type 0 where
  pub block : List ℕ
  pub globals : List ℕ
  pub local : List ℕ
  pub stack : List ℕ

-- the address at which a region begins
abbrev pub begin : Region → ℕ
begin Block = 0x08000000
begin Globals = 0x0C000000
begin Local = 0x10000000
begin Stack = 0x20000000

-- the bytes of a region
abbrev pub bytes_of : Region → Memory → List ℕ
bytes_of Block d = d.block
bytes_of Globals d = d.globals
bytes_of Local d = d.local
bytes_of Stack d = d.stack

-- data memory with these bytes in a region
abbrev pub with_bytes : Region → List ℕ → Memory → Memory
with_bytes Block bytes d = record d { block = bytes }
with_bytes Globals bytes d = record d { globals = bytes }
with_bytes Local bytes d = record d { local = bytes }
with_bytes Stack bytes d = record d { stack = bytes }

-- the access lies wholly in the region
abbrev pub is_in : Region → Memory → ℕ → ℕ → Bool
is_in r d addr size = is_within (begin r) (length (bytes_of r d)) addr size

-- Where an access goes: its address is a multiple of its size, and it lies wholly in one region or in the shared window.
unfoldable pub place_of : Memory → ℕ → ℕ → Place
place_of d addr size =
    if addr % size == 0 then
    (if is_in Block d addr size then In Block (addr - begin Block)
    else (if is_in Globals d addr size then In Globals (addr - begin Globals)
    else (if is_in Local d addr size then In Local (addr - begin Local)
    else (if is_in Stack d addr size then In Stack (addr - begin Stack)
    else (if is_within 0x40000000 0x40000000 addr size then Window
    else Nowhere)))))
    else Nowhere

-- each region ends where the next one or the shared window begins, or before
pub record AreApart (d : Memory) : Type 0 where
  pub block : begin Block + length d.block ≤ begin Globals
  pub globals : begin Globals + length d.globals ≤ begin Local
  pub local : begin Local + length d.local ≤ begin Stack
  pub stack : begin Stack + length d.stack ≤ 0x40000000

-- so many bytes from an address on lie in a region
pub record IsInside (r : Region) (d : Memory) (addr size : ℕ) : Type 0 where
  pub from : begin r ≤ addr
  pub to : addr + size ≤ begin r + length (bytes_of r d)
