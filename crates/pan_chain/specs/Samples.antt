-- Stages and machines on which it is tried what a pass may do.
use Rattle.std.specs.Prelude.{ℕ, zero, suc, [], ◌∷◌}
use Rattle.pan_base.specs.Events.{Exit, Spent, Stack, Behaviour, only}
use Rattle.pan_stage.specs.Stage.{Face, Needs, Stage, StackStage}

-- one function, main
abbrev pub one_function : Face
one_function = record { main = 0; functions = [] ∷ []; costs = 64 ∷ []; widths = []; foreign_names = []; globals = [] }

-- a program that needs a frame of 64 bytes and no code, ends so after this toll, and whose calls cost so much
abbrev pub sample : Behaviour → (deepest toll : ℕ) → Stage
sample b deepest toll = record { face = one_function; sites = [] ∷ []; needs = record { frames = 64 ∷ []; code = 0 }; meaning = λ m r n. record { behaviour = b; deepest = deepest; toll = toll } }

-- one that needs so much
abbrev pub needing : Needs → Stage
needing needs = record (sample (only (Exit 0)) 64 0) { needs = needs }

-- a program that is out of any stack at once
abbrev pub without_stack : StackStage
without_stack = record { face = one_function; sites = [] ∷ []; needs = record { frames = 64 ∷ []; code = 0 }; meaning = λ size m r n. record { behaviour = only Stack; deepest = 0; toll = 0 } }

-- a machine that exits with 0 in its step after so many
abbrev pub exits_after : ℕ → ℕ → Behaviour
exits_after n zero = only Spent
exits_after zero (suc k) = only (Exit 0)
exits_after (suc n) (suc k) = exits_after n k
