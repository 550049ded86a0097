-- Which local memories and stacks a program may be given.
use Rattle.std.specs.Prelude.{◌≡◌, ℕ, ◌%◌, ◌≤◌, List, length}
use Rattle.pan_base.specs.Words.{IsBytes}

-- a lawful local memory: bytes, a multiple of 8 of them and at most 67,108,864
pub record IsLawfulMemory (memory : List ℕ) : Type 0 where
  pub whole : length memory % 8 ≡ 0
  pub most : length memory ≤ 67108864
  pub bytes : IsBytes memory

-- a lawful number of bytes of stack: a multiple of 16 and at most 67,108,864
pub record IsLawfulStack (stack : ℕ) : Type 0 where
  pub whole : stack % 16 ≡ 0
  pub most : stack ≤ 67108864
