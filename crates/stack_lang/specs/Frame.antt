-- What a running function has: the machine as it sees it, the slots of its frame, and the stack below.
use Rattle.std.specs.Prelude.{ℕ, ◌+◌, ◌-◌, ◌%◌, ◌^◌, nat_eq, if◌then◌else◌, Option, Some, None}
use Rattle.riscv_isa.specs.Step.{State, with_reg}
use Rattle.stack_lang.specs.Shown.{hide}

-- what a function over a frame reads and changes beside the world
pub record Frame : Type 0 where
  -- what it sees of the machine
  pub seen : State
  -- the slots of its frame; one that it hasn't written has no word, as it holds what a former frame left there
  pub slots : ℕ → Option ℕ
  -- the bytes of the stack below its frame
  pub room : ℕ

-- no slot is written
abbrev pub no_slots : ℕ → Option ℕ
no_slots = λ k. None

abbrev pub set_slot : ℕ → ℕ → (ℕ → Option ℕ) → ℕ → Option ℕ
set_slot k n f = λ j. if nat_eq j k then Some n else f j

-- a value in a register
abbrev pub with_register : Frame → ℕ → ℕ → Frame
with_register v r n = record v { seen = hide (with_reg v.seen r n) }

-- a store keeps the low eight bytes
abbrev pub with_slot : Frame → ℕ → ℕ → Frame
with_slot v k n = record v { slots = set_slot k (n % 2 ^ 64) v.slots }

-- a caller goes on with its own frame, and with the machine as the callee left it
abbrev pub back_with : Frame → Frame → Frame
back_with caller x = record caller { seen = x.seen }

-- with a new frame of this size
abbrev pub framed : ℕ → Frame → Frame
framed size v = record v { slots = no_slots; room = v.room - size }

-- with the frame given up
abbrev pub unframed : ℕ → Frame → Frame
unframed size v = record v { room = v.room + size }
