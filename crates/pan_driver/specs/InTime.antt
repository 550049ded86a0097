-- How long the machine of an image takes, and how long its code is, by the program.
use Rattle.std.specs.Prelude.{ℕ, ◌+◌, ◌*◌, ◌≤◌, List, length}
use Rattle.pan_base.specs.Events.{Replied}
use Rattle.pan_base.specs.Lawful.{IsLawfulMemory, IsLawfulStack}
use Rattle.pan_tree.specs.Check.{program_weight}
use Rattle.pan_tree.specs.Meaning.{source}
use Rattle.pan_tree.specs.declared.program.Program.{Program}
use Rattle.riscv_isa.specs.Image.{ImageParts}
use Rattle.riscv_isa.specs.Machine.{machine}
use Rattle.pan_agree.specs.Laws.{ForwardWithin}
use Rattle.pan_chain.specs.Whole.{most_instructions}

-- What the program does in so much fuel the machine does in at most 1,024 steps for each unit of its work and for the start, also where it runs out of stack.
abbrev pub IsInTime : Program → ImageParts → Type 0
IsInTime program parts =
    (stack : ℕ) (memory : List ℕ) (replies : List Replied) → IsLawfulStack stack → IsLawfulMemory memory
    → ForwardWithin stack (most_instructions (source program memory replies)) (source program memory replies) (machine parts memory stack replies)

-- the code has at most 4,096 bytes, and 1,024 for each unit of weight
abbrev pub IsShort : Program → ImageParts → Type 0
IsShort program parts = length parts.code ≤ 4096 + 1024 * program_weight program
