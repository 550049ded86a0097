-- What a device answers.
use Rattle.std.specs.Prelude.{◌≡◌, ℕ, ◌≤◌, List, Bool, true, false, if◌then◌else◌}
use Rattle.pan_base.specs.Counts.{next_count}
use Rattle.pan_base.specs.Events.{Asked, Replied, Value, Done, Bytes, Stop}
use Rattle.pan_port.specs.declared.device.Answer.{Answer}
use Rattle.pan_port.specs.declared.device.Answer.TheVariants as answer

-- a reply, or silence
pub data Given : Type 0 where
  Gave : (reply : Replied) → Given
  Silent : Given

-- what an answer to a load or a store gives
abbrev pub given : Answer → Given
given (answer.Value n) = Gave (Value n)
given answer.Done = Gave Done
given answer.Stop = Gave Stop
given answer.Quiet = Silent

-- what an answer to a foreign call gives, with the array as it is then
abbrev pub given_by_array : Answer → List ℕ → Given
given_by_array answer.Done array = Gave (Bytes array)
given_by_array (answer.Value n) array = Gave (Value n)
given_by_array answer.Stop array = Gave Stop
given_by_array answer.Quiet array = Silent

abbrev pub is_quiet : Answer → Bool
is_quiet answer.Quiet = true
is_quiet _ = false

abbrev pub is_stop : Answer → Bool
is_stop answer.Stop = true
is_stop _ = false

-- the counts don't fall, and each Stop and each Quiet is counted, and nothing else is
pub record Counted (a : Answer) (stops stops' silences silences' : ℕ) : Type 0 where
  pub stops_later : stops ≤ stops'
  pub silences_later : silences ≤ silences'
  pub each_stop : stops' ≡ (if is_stop a then next_count stops else stops)
  pub each_silence : silences' ≡ (if is_quiet a then next_count silences else silences)

-- what a device gives, from one state to another
abbrev pub Gives : Type 0 → Type 1
Gives D = D → Asked → Given → D → Type 0

-- from both the device may give the same to each request, and come to the same
pub record Alike {D : Type 0} (gives : Gives D) (a b : D) : Type 0 where
  pub to : (q : Asked) (g : Given) (next : D) → gives a q g next → gives b q g next
  pub from : (q : Asked) (g : Given) (next : D) → gives b q g next → gives a q g next
