-- An asker, a device and a sink in one run.
use Rattle.std.specs.Prelude.{◌≡◌, ◌⊎◌, ℕ, ◌+◌, ◌≤◌, ◌==◌, not, List, [], ◌∷◌, ◌++◌, map, take, length, Some, None, IsSome, IsTrue, false}
use Rattle.std.specs.List.{list_all}
use Rattle.std.specs.Option.{option_map}
use Rattle.pan_base.specs.Causes.{Rose}
use Rattle.pan_base.specs.Events.{Asked, Foreign, Replied, Stop, Fits, Event, Ending, Stopped, Asks, Behaviour, end_of}
use Rattle.pan_base.specs.Sinks.{SinkState, Took, TookFront, wrapped}
use Rattle.pan_base.specs.Trace.{trace_text, event_line}
use Rattle.pan_base.specs.declared.events.End.{End}
use Rattle.pan_base.specs.declared.events.End.TheVariants as told_end
use Rattle.pan_base.specs.declared.events.Request.{Request}
use Rattle.pan_base.specs.declared.events.Request.TheVariants as request
use Rattle.pan_port.specs.Asker.{Meaning, IsAsking, Takes, Ends, Starves}
use Rattle.pan_port.specs.Device.{Given, Gave, Silent, Gives, given, given_by_array}
use Rattle.pan_port.specs.declared.device.Answer.{Answer}
use Rattle.pan_port.specs.declared.driving.Served.{Served}
use Rattle.pan_port.specs.declared.driving.Served.TheVariants as served

-- the replies of a trace
abbrev pub replies_of : List Event → List Replied
replies_of events = map (λ e. e.reply) events

-- events before the rest
abbrev pub after : List Event → Behaviour → Behaviour
after events rest = record { events = events ++ rest.events; ending = rest.ending }

-- the device gave the replies of these events, one after another
abbrev pub Answered : {D : Type 0} → Gives D → D → List Event → D → Type 0
Answered gives old [] new = new ≡ old
Answered {D} gives old (e ∷ events) new = (mid : D) × gives old e.request (Gave e.reply) mid × Answered gives mid events new

-- what the device gave at the end: one more reply, which doesn't fit, where the run stopped, and silence where it asks
abbrev pub Closes : {D : Type 0} → Gives D → D → Ending → List Replied → D → Type 0
Closes gives old (Stopped q) last new = (r : Replied) × (last ≡ r ∷ []) × (¬ Fits q r) × gives old q (Gave r) new
Closes gives old (Asks q) last new = (last ≡ []) × gives old q Silent new
Closes gives old _ last new = (last ≡ []) × (new ≡ old)

-- the replies are those that the device gave in this run, to the requests of its events and at its end
pub record AreGiven {D : Type 0} (gives : Gives D) (old : D) (run : Behaviour) (replies : List Replied) (new : D) : Type 0 where
  pub mid : D
  pub last : List Replied
  pub answered : Answered gives old run.events mid
  pub closes : Closes gives mid run.ending last new
  pub all : replies ≡ replies_of run.events ++ last

-- a reply stopped the run: Stop, which the device counts, or another that doesn't fit the open request
pub record StoppedBy (stops stops' : ℕ) (ending : Ending) (replies : List Replied) : Type 0 where
  pub request : Asked
  pub open_request : ending ≡ Stopped request
  pub front : List Replied
  pub last : Replied
  pub all : replies ≡ front ++ last ∷ []
  pub unfit : ¬ Fits request last
  pub counted : last ≡ Stop → Rose stops stops'

-- The run of an asker from a to a', which ends so: the device gave these replies, and the lines of its trace are put.
pub record Drove {D : Type 0} (gives : Gives D) (stops silences : D → ℕ) (a a' : Meaning) (old new : D) (was now : SinkState) (budget : ℕ) (end : End) : Type 0 where
  pub replies : List Replied
  pub took : Took was now (trace_text (a.go replies budget).events)
  pub ends : end_of (a.go replies budget).ending ≡ end
  -- the line feeds rise by the number of events
  pub lines : wrapped now.lines ≡ wrapped (option_map (λ n. n + length (a.go replies budget).events) was.lines)
  pub given : a.ended ≡ None → AreGiven gives old (a.go replies budget) replies new
  pub idle : IsSome a.ended → (replies ≡ []) × (new ≡ old)
  -- no run asks or stops by itself
  pub asks : end ≡ told_end.Asks → Rose (silences old) (silences new)
  pub stopped : end ≡ told_end.Stopped → ((q : Asked) × (a.ended ≡ Some (Stopped q))) ⊎ StoppedBy (stops old) (stops new) (a.go replies budget).ending replies
  -- it never wanted memory that wasn't there
  pub fed : (a.starved ≡ false) × (a'.starved ≡ false)
  -- with more replies and steps it would go on as what is left of the asker
  pub used : ℕ
  pub within : used ≤ budget
  pub resumes : (more : List Replied) (k : ℕ) → a.go (replies ++ more) (used + k) ≡ after (a.go replies budget).events (a'.go more k)

-- With so many steps used, the device gave the replies of these events, their lines are put, and what is left of the asker goes on from there.
pub record Did {D : Type 0} (gives : Gives D) (a a' : Meaning) (old new : D) (was now : SinkState) (used : ℕ) (events : List Event) : Type 0 where
  pub goes : (replies : List Replied) (k : ℕ) → a.go (replies_of events ++ replies) (used + k) ≡ after events (a'.go replies k)
  pub answered : Answered gives old events new
  pub took : Took was now (trace_text events)

-- The sink failed after the lines of these events, and a prefix of the next line is put: the asker still asks that request, which the device has answered.
pub record Unwritten {D : Type 0} (gives : Gives D) (a a' : Meaning) (old new : D) (was now : SinkState) (budget : ℕ) : Type 0 where
  pub events : List Event
  pub used : ℕ
  pub within : used ≤ budget
  pub mid : D
  pub put : SinkState
  pub did : Did gives a a' old mid was put used events
  pub request : Asked
  pub asking : IsAsking a' request
  pub reply : Replied
  pub fits : Fits request reply
  pub given : gives mid request (Gave reply) new
  pub front : TookFront put now (event_line request reply)
  pub prefix : TookFront was now (trace_text (a.go (replies_of events ++ reply ∷ []) budget).events)
  pub fault : Rose was.faults now.faults
  pub fed : (a.starved ≡ false) × (a'.starved ≡ false)

-- The asker found no memory after these events, and their lines are put.
pub record Hungry {D : Type 0} (gives : Gives D) (a a' : Meaning) (old new : D) (was now : SinkState) (budget : ℕ) : Type 0 where
  pub events : List Event
  pub used : ℕ
  pub within : used ≤ budget
  pub mid : Meaning
  pub did : Did gives a mid old new was now used events
  pub prefix : TookFront was now (trace_text (a.go (replies_of events) budget).events)
  pub starves : Starves mid a'
  pub wants : a.frugal ≡ false

-- what an answer to a request gives, where the reply to a foreign call is in the front of the room
abbrev pub given_in : Request → Answer → List ℕ → Given
given_in (request.Foreign number name conf array) answer room = given_by_array answer (take (length array.now) room)
given_in _ answer room = given answer

-- the name of a foreign call has no line feed
abbrev pub IsOneLine : Asked → Type 0
IsOneLine (Foreign number name conf array) = IsTrue (list_all (λ b. not (b == 10)) name)
IsOneLine _ = Unit {0}

-- the device's reply fits, its line is put, and the asker takes it
pub record Gained {D : Type 0} (gives : Gives D) (a a' : Meaning) (d d' : D) (was now : SinkState) (q : Asked) : Type 0 where
  pub reply : Replied
  pub fits : Fits q reply
  pub given : gives d q (Gave reply) d'
  pub one_line : IsOneLine q
  pub took : Took was now (event_line q reply)
  pub takes : Takes a a' q reply
  pub fed : a'.starved ≡ a.starved

-- the device's reply doesn't fit, and ends the asker
pub record GaveUp {D : Type 0} (gives : Gives D) (stops : D → ℕ) (a a' : Meaning) (d d' : D) (was now : SinkState) (q : Asked) : Type 0 where
  pub reply : Replied
  pub unfit : ¬ Fits q reply
  pub given : gives d q (Gave reply) d'
  pub put : now ≡ was
  pub ends : Ends a a' q reply
  pub fed : a'.starved ≡ a.starved
  pub stop : reply ≡ Stop → Rose (stops d) (stops d')

-- the device is silent
pub record WasSilent {D : Type 0} (gives : Gives D) (silences : D → ℕ) (a a' : Meaning) (d d' : D) (was now : SinkState) (q : Asked) : Type 0 where
  pub given : gives d q Silent d'
  pub put : now ≡ was
  pub same : a' ≡ a
  pub silence : Rose (silences d) (silences d')

-- the device's reply fits, and the sink failed at its line
pub record Unwrote {D : Type 0} (gives : Gives D) (a a' : Meaning) (d d' : D) (was now : SinkState) (q : Asked) : Type 0 where
  pub reply : Replied
  pub fits : Fits q reply
  pub given : gives d q (Gave reply) d'
  pub front : TookFront was now (event_line q reply)
  pub same : a' ≡ a
  pub fault : Rose was.faults now.faults

-- how a request was served, and what that left
abbrev pub ServedSo : {D : Type 0} → Gives D → (D → ℕ) → (D → ℕ) → Meaning → Meaning → D → D → SinkState → SinkState → Asked → Served → Type 0
ServedSo gives stops silences a a' d d' was now q served.Replied = Gained gives a a' d d' was now q
ServedSo gives stops silences a a' d d' was now q served.Stopped = GaveUp gives stops a a' d d' was now q
ServedSo gives stops silences a a' d d' was now q served.Silent = WasSilent gives silences a a' d d' was now q
ServedSo gives stops silences a a' d d' was now q served.Unwritten = Unwrote gives a a' d d' was now q

-- the asker stays as large and as frugal, and no count falls
pub record Keeps {D : Type 0} (stops silences : D → ℕ) (a a' : Meaning) (d d' : D) (was now : SinkState) : Type 0 where
  pub size : a'.size ≡ a.size
  pub frugal : a'.frugal ≡ a.frugal
  pub later_stops : stops d ≤ stops d'
  pub later_silences : silences d ≤ silences d'
  pub later_faults : was.faults ≤ now.faults
