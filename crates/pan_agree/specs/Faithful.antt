-- An image that is faithful to a program of the source.
use Rattle.std.specs.Prelude.{ℕ, List}
use Rattle.pan_base.specs.Events.{Replied}
use Rattle.pan_base.specs.Lawful.{IsLawfulMemory, IsLawfulStack}
use Rattle.pan_tree.specs.Meaning.{source}
use Rattle.pan_tree.specs.declared.program.Program.{Program}
use Rattle.riscv_isa.specs.Machine.{machine}
use Rattle.riscv_isa.specs.Image.{ImageParts, ImageOf}
use Rattle.pan_agree.specs.Agree.{Agree}

-- The bytes are the image of these parts, and for every lawful local memory, every lawful stack and every list of replies the machine that is booted from it agrees with the program.
pub record Faithful (program : Program) (image : List ℕ) (parts : ImageParts) : Type 0 where
  pub layout : ImageOf image parts
  pub agree : (memory : List ℕ) (stack : ℕ) (replies : List Replied) → IsLawfulMemory memory → IsLawfulStack stack
      → Agree stack (source program memory replies) (machine parts memory stack replies)
