-- What the source and every language below it share of their runs: how one begins, what it takes of a reply, how calls are nested, and what is seen of it.
use Rattle.std.specs.Prelude.{ℕ, zero, suc, List, [], Option, Some, None}
use Rattle.pan_base.specs.Events.{Foreign, Replied, Value, Bytes, Ending, Exit, Uncaught, Fails, Spent}
use Rattle.pan_control.specs.World.{World, tolled}
use Rattle.pan_control.specs.Seen.{Seen}
use Rattle.pan_control.specs.Memory.{bytes_at, with_bytes}
use Rattle.pan_control.specs.Control.{Outcome, Normal, Broken, Continued, Returned, Raised, Over, Meaning, Callee, with_value, ask, world_of}

-- the world at the start, with these globals, this memory, these replies and this fuel
abbrev pub start : {G : Type 0} → G → List ℕ → List Replied → ℕ → World G
start g m r n = record { memory = m; globals = g; replies = r; trace = []; fuel = n; active = 0; own = 0; deepest = 0; toll = 0 }

-- ---- replies

-- the value of a load's reply
abbrev pub number : Replied → ℕ
number (Value n) = n
number _ = 0

-- local memory with the bytes of a foreign call's reply in the place of the array
abbrev pub with_reply : List ℕ → ℕ → Replied → List ℕ
with_reply m addr (Bytes bytes) = with_bytes m addr bytes
with_reply m addr _ = m

-- what a foreign call asks, by the number and the bytes of its name, and two buffers by address and length
abbrev pub foreign : {V X G : Type 0} → ℕ → List ℕ → ℕ → ℕ → ℕ → ℕ → Meaning G V X
foreign i name conf conf_len array array_len v w =
    with_value (bytes_at w.memory conf conf_len) w (λ c. with_value (bytes_at w.memory array array_len) w (λ a.
    ask (Foreign i name c a) w (λ r w. Normal v (record w { memory = with_reply w.memory array r }))))

-- ---- loops and calls

-- a loop is about to be tested again, which is work as its condition weighs
abbrev pub tested_again : {V X G : Type 0} → (V → ℕ) → Outcome G V X → Outcome G V X
tested_again weight (Normal v w) = Normal v (tolled (weight v) w)
tested_again weight (Continued v w) = Continued v (tolled (weight v) w)
tested_again weight o = o

-- what a function does, with calls nested no deeper than the number, from what entering one does, where its calls do so
abbrev pub nested : {A X G : Type 0} → (ℕ → Callee G A X → Callee G A X) → ℕ → Callee G A X
nested enter zero f a w = Over Spent w
nested enter (suc d) f a w = enter d (nested enter d) f a w

-- ---- the end

-- the end of a program whose main returned this word, or none
abbrev pub exit_of : Option ℕ → Ending
exit_of None = Fails
exit_of (Some n) = Exit n

-- the end of a program whose main left so, by the word of what it returned
abbrev pub ending_of : {X G : Type 0} → (X → Option ℕ) → Outcome G (Unit {0}) X → Ending
ending_of word (Normal v w) = Fails
ending_of word (Broken v w) = Fails
ending_of word (Continued v w) = Fails
ending_of word (Returned x w) = exit_of (word x)
ending_of word (Raised i x w) = Uncaught i
ending_of word (Over e w) = e

-- what is seen of a program whose main left so, by the word of what it returned
abbrev pub seen : {X G : Type 0} → (X → Option ℕ) → Outcome G (Unit {0}) X → Seen
seen word o =
    record { behaviour = record { events = (world_of o).trace; ending = ending_of word o }; deepest = (world_of o).deepest; toll = (world_of o).toll }
