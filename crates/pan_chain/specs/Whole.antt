-- The source as the first stage, and the machine of an image as what runs in steps.
use Rattle.std.specs.Prelude.{ℕ, ◌+◌, ◌*◌, List}
use Rattle.pan_base.specs.Events.{Replied}
use Rattle.pan_control.specs.Seen.{Seen}
use Rattle.pan_stage.specs.Room.{allowed}
use Rattle.pan_stage.specs.Stage.{Site, Face, Stage, InSteps}
use Rattle.riscv_isa.specs.Image.{ImageParts}
use Rattle.riscv_isa.specs.Machine.{machine}

-- the most instructions that may be executed for what a source does with so much fuel, by its work
abbrev pub most_instructions : (ℕ → Seen) → ℕ → ℕ
most_instructions source n = 1024 * (1 + (source n).toll)

-- a source with this face and these sites, whose work is its toll, as a stage that needs all that is allowed, and whose toll is in instructions
abbrev pub source_stage : Face → List (List Site) → (List ℕ → List Replied → ℕ → Seen) → Stage
source_stage face sites source = record { face = face; sites = sites; needs = allowed face.costs; meaning = λ m r n. record (source m r n) { toll = most_instructions (source m r) n } }

-- what the machine of an image does
abbrev pub machine_of : ImageParts → InSteps
machine_of parts = λ size m r k. machine parts m size r k
