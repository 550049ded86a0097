-- What the answer says of a program.
use Rattle.std.specs.Prelude.{◌≡◌, ◌≢◌, ◌≤◌, ℕ, ◌%◌, List, map, slice_index}
use Rattle.pan_base.specs.Events.{Replied, Stack}
use Rattle.pan_stage.specs.Stage.{Site}
use Rattle.pan_stage.specs.declared.program.Program.{Program}
use Rattle.stack_lang.specs.Meaning.{meaning}
use Rattle.stack_lang.specs.Text.{sites}
use Rattle.stack_lang.specs.declared.syntax.StackFun.{StackFun}
use Rattle.stack_bound.specs.Calls.{calls_at, Calls}
use Rattle.stack_bound.specs.Paths.{HasNoCycle, IsKeptCycle, IsPaid}
use Rattle.stack_bound.specs.Depth.{IsDeepest}
use Rattle.stack_bound.specs.declared.types.Bound.{Bound}
use Rattle.stack_bound.specs.declared.types.Bound.TheVariants.{Bytes, Cycle}

-- the sites of each function
abbrev pub all_sites : Program StackFun → List (List Site)
all_sites p = map (λ (f : StackFun). sites f.body) p.functions

-- the bytes of a function's frame, by its number
abbrev pub frame_of : Program StackFun → ℕ → ℕ
frame_of p f = slice_index (map (λ (g : StackFun). g.frame) p.functions) f

-- what an active call of a function costs, by its number
abbrev pub cost_of : Program StackFun → ℕ → ℕ
cost_of p f = slice_index (map (λ (g : StackFun). g.cost) p.functions) f

-- with a stack of at least so many bytes the program never runs out of it, whatever is in memory and whatever is replied
abbrev pub Suffices : Program StackFun → ℕ → Type 0
Suffices p n = (size : ℕ) (m : List ℕ) (r : List Replied) (fuel : ℕ) → n ≤ size → ((meaning p size m r fuel).behaviour).ending ≢ Stack

-- the most that a path of calls can cost, and so the most that a bound can be
abbrev pub most_bytes : ℕ
most_bytes = 4456448

-- so many bytes are the bound of a program
pub record IsBound (p : Program StackFun) (n : ℕ) : Type 0 where
  -- the calls reachable from main have no cycle
  pub no_cycle : HasNoCycle (Calls (all_sites p)) p.main
  -- it is the most that frames take on a path of calls from main
  pub deepest : IsDeepest (calls_at (all_sites p)) (frame_of p) p.main n
  -- it is a lawful size of a stack
  pub whole : n % 16 ≡ 0
  pub small : n ≤ most_bytes
  -- some path of calls from main costs as much
  pub paid : IsPaid (Calls (all_sites p)) (cost_of p) p.main n
  -- it is enough
  pub enough : Suffices p n

-- what the answer says: bytes come exactly where there is no cycle
abbrev pub IsAnswer : Program StackFun → Bound → Type 0
IsAnswer p (Bytes n) = IsBound p n
IsAnswer p (Cycle fs) = IsKeptCycle (Calls (all_sites p)) p.main fs
