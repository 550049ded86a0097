-- What a run over a device script is, and what is put of it.
use Rattle.std.specs.Prelude.{◌≡◌, ◌⊎◌, ℕ, List, [], ◌++◌, Bool, false}
use Rattle.pan_base.specs.Causes.{Rose}
use Rattle.pan_base.specs.Events.{Replied, Event, Behaviour, IsPrefix, end_of}
use Rattle.pan_base.specs.Sinks.{SinkState, Took, TookFront}
use Rattle.pan_base.specs.Trace.{trace_text, end_line}
use Rattle.pan_base.specs.declared.events.End.{End}
use Rattle.pan_port.specs.Drive.{Answered, replies_of}
use Rattle.device_script.specs.Device.{DeviceState, Steps}
use Rattle.device_script.specs.Runs.{device, IsGiven}
use Rattle.device_script.specs.Script.{Content}
use Rattle.pan_command.specs.declared.status.Status.{Status}
use Rattle.pan_command.specs.declared.status.Status.TheVariants as status

-- the trace and the end with these replies, within so many instructions or units of fuel
abbrev pub Goes : Type 0
Goes = List Replied → ℕ → Behaviour

-- The run over a script: what it does with the replies that the script's device gives to its requests, one after another.
pub record Plays (go : Goes) (script : Content) (steps : ℕ) (run : Behaviour) : Type 0 where
  pub replies : List Replied
  pub does : go replies steps ≡ run
  pub given : IsGiven script run replies

-- the first events of the run over a script, whose replies its device gave
pub record Begins (go : Goes) (script : Content) (steps : ℕ) (events : List Event) : Type 0 where
  pub last : DeviceState
  pub given : Answered Steps (device script) events last
  pub first : IsPrefix events (go (replies_of events) steps).events

-- the lines of a trace, and that of its end
abbrev pub text_of : Behaviour → List ℕ
text_of run = trace_text run.events ++ end_line (end_of run.ending)

-- In what follows `Prints text` says how far the text was put: all of it, or a prefix.

-- the run came to this end: the lines of its trace and its end
pub record Played (Prints : List ℕ → Type 0) (go : Goes) (script : Content) (steps : ℕ) (end : End) : Type 0 where
  pub run : Behaviour
  pub plays : Plays go script steps run
  pub ends : end_of run.ending ≡ end
  pub text : Prints (text_of run)

-- the run was broken off after some events: their lines
pub record Broken (Prints : List ℕ → Type 0) (go : Goes) (script : Content) (steps : ℕ) : Type 0 where
  pub events : List Event
  pub begins : Begins go script steps events
  pub text : Prints (trace_text events)

-- the run came to an end or was broken off, and a prefix of its lines is put
abbrev pub PlayedInPart : (List ℕ → Type 0) → Goes → Content → ℕ → Type 0
PlayedInPart Prints go script steps = ((end : End) × Played Prints go script steps end) ⊎ Broken Prints go script steps

-- what a run puts: all its lines, or a prefix where the sink failed, or those of its first events where there was no memory
abbrev pub PlaysOut : Bool → Goes → Content → ℕ → SinkState → SinkState → Status → Type 0
PlaysOut frugal go script steps old new (status.Ran end) = Played (Took old new) go script steps end
PlaysOut frugal go script steps old new status.Unput = Rose old.faults new.faults × PlayedInPart (TookFront old new) go script steps
PlaysOut frugal go script steps old new status.NoMemory = (frugal ≡ false) × Broken (Took old new) go script steps
PlaysOut frugal go script steps old new _ = ⊥

-- what the run of an image puts, or nothing where there was no memory for it
abbrev pub GoesOut : Goes → Content → ℕ → SinkState → SinkState → Status → Type 0
GoesOut go script steps old new (status.Ran end) = Played (Took old new) go script steps end
GoesOut go script steps old new status.Unput = Rose old.faults new.faults × PlayedInPart (TookFront old new) go script steps
GoesOut go script steps old new status.NoMemory = Took old new []
GoesOut go script steps old new _ = ⊥

-- what the run of a source puts, or the lines of its first events where there was no memory
abbrev pub MeansOut : Goes → Content → ℕ → SinkState → SinkState → Status → Type 0
MeansOut go script steps old new (status.Ran end) = Played (Took old new) go script steps end
MeansOut go script steps old new status.Unput = Rose old.faults new.faults × PlayedInPart (TookFront old new) go script steps
MeansOut go script steps old new status.NoMemory = Took old new [] ⊎ Broken (Took old new) go script steps
MeansOut go script steps old new _ = ⊥
