-- A sink in memory.
use Rattle.std.specs.Prelude.{◌⊎◌, ℕ, ◌<◌, List, length, Some, Contains}
use Rattle.pan_base.specs.Sinks.{SinkState, feeds}

-- the bytes that it took, the room that is left, the number of the next put, the puts that fail, and how many failed
pub record MemSinkState : Type 0 where
  pub bytes : List ℕ
  pub room : ℕ
  pub calls : ℕ
  pub failing : List ℕ
  pub faults : ℕ

-- it tells its bytes and lines
abbrev pub mem_sink_told : MemSinkState → SinkState
mem_sink_told s = record { bytes = Some s.bytes; lines = Some (feeds s.bytes); faults = s.faults }

-- the next put is one of those that fail, or the piece doesn't fit in the room that is left
abbrev pub Refuses : MemSinkState → List ℕ → Type 0
Refuses s piece = Contains s.failing s.calls ⊎ (s.room < length piece)
