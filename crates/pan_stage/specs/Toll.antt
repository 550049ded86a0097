-- How much the stages above instructions count as done: steps. A step allows 16 instructions and 64 bytes of code; the stages below need
-- no more for it, even where every variable is in memory.
use Rattle.std.specs.Prelude.{ℕ, ◌*◌}
use Rattle.pan_control.specs.World.{World, tolled}

abbrev pub instructions_in_step : ℕ
instructions_in_step = 16

abbrev pub bytes_in_step : ℕ
bytes_in_step = 64

-- what a call, a tail call, an entry, a return or a raise is worth beside the words that pass
abbrev pub passing_steps : ℕ
passing_steps = 8

-- what the begin and the end of a program are worth: each stage above instructions starts with so many steps done
abbrev pub starting_steps : ℕ
starting_steps = 1

-- so many steps are done
abbrev pub stepped : {G : Type 0} → ℕ → World G → World G
stepped n w = tolled (instructions_in_step * n) w

-- the bytes of code that stand outside of functions are at most so many
abbrev pub outer_bytes : ℕ
outer_bytes = 4096
