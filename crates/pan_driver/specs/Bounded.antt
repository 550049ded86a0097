-- What a bound on the stack says of a program and of its image.
use Rattle.std.specs.Prelude.{◌≡◌, ◌≢◌, ℕ, ◌%◌, ◌≤◌, List, slice_index}
use Rattle.pan_base.specs.Events.{Replied, Stack}
use Rattle.pan_base.specs.Lawful.{IsLawfulMemory, IsLawfulStack}
use Rattle.pan_stage.specs.Stage.{Site, Stage}
use Rattle.pan_tree.specs.Meaning.{source}
use Rattle.pan_tree.specs.declared.program.Program.{Program}
use Rattle.riscv_isa.specs.Image.{ImageParts}
use Rattle.riscv_isa.specs.Machine.{machine}
use Rattle.pan_agree.specs.Agree.{NeverFails}
use Rattle.crep_flatten.specs.Source.{face, stage}
use Rattle.stack_bound.specs.Calls.{Calls}
use Rattle.stack_bound.specs.Paths.{HasNoCycle, IsKeptCycle, IsPaid}
use Rattle.stack_bound.specs.declared.types.Bound.{Bound}
use Rattle.stack_bound.specs.declared.types.Bound.TheVariants.{Bytes, Cycle}

-- With a stack of at least so many bytes the machine runs out of it in no number of steps, wherever the source makes no failing step.
abbrev pub IsEnoughStack : Program → ImageParts → ℕ → Type 0
IsEnoughStack program parts bytes =
    (stack : ℕ) (memory : List ℕ) (replies : List Replied) → IsLawfulStack stack → IsLawfulMemory memory → bytes ≤ stack
    → NeverFails (source program memory replies) → (k : ℕ) → (machine parts memory stack replies k).ending ≢ Stack

-- the function f calls g in the source's text, by a tail call or not, each by its number
abbrev pub SourceCalls : Program → ℕ → ℕ → Type 0
SourceCalls p = Calls (stage p).sites

-- what an active call of a function costs, by its number
abbrev pub source_cost : Program → ℕ → ℕ
source_cost p f = slice_index (face p).costs f

-- so many bytes are a bound on the stack of the image
pub record BoundsStack (p : Program) (parts : ImageParts) (bytes : ℕ) : Type 0 where
  -- the calls that main reaches have no cycle
  pub no_cycle : HasNoCycle (SourceCalls p) (face p).main
  -- it is a multiple of 16, and some path of calls from main costs as much
  pub whole : bytes % 16 ≡ 0
  pub paid : IsPaid (SourceCalls p) (source_cost p) (face p).main bytes
  -- it is enough
  pub enough : IsEnoughStack p parts bytes

-- what a bound says: bytes come exactly where the calls that main reaches have no cycle
abbrev pub IsBoundOf : Program → ImageParts → Bound → Type 0
IsBoundOf p parts (Bytes n) = BoundsStack p parts n
IsBoundOf p parts (Cycle functions) = IsKeptCycle (SourceCalls p) (face p).main functions
