-- What a run puts, said of a behaviour that is the same.
use Rattle.std.proofs.Common.{◌≡◌, ℕ, sym, ◌∙◌, subst, List, inl, inr, Bool, true}
use Rattle.std.proofs.lemmas.Bool.{false≢true}
use Rattle.pan_base.specs.Events.{Replied, Event, Behaviour, IsPrefix}
use Rattle.pan_base.specs.Sinks.{SinkState, Took, TookFront}
use Rattle.pan_base.specs.declared.events.End.{End}
use Rattle.device_script.specs.Script.{Content}
use Rattle.pan_command.specs.declared.status.Status.{Status}
use Rattle.pan_command.specs.declared.status.Status.TheVariants as status
use Rattle.pan_command.specs.Playing.{Goes, Plays, Begins, Played, Broken, PlayedInPart, PlaysOut, GoesOut, MeansOut}

module _ (go went : Goes) (script : Content) (steps : ℕ) (same : (replies : List Replied) (k : ℕ) → go replies k ≡ went replies k) where
  plays_as : (run : Behaviour) → Plays go script steps run → Plays went script steps run
  plays_as run p = record { replies = p.replies; does = sym (same p.replies steps) ∙ p.does; given = p.given }

  begins_as : (events : List Event) → Begins go script steps events → Begins went script steps events
  begins_as events b = record { last = b.last; given = b.given; first = subst (λ (run : Behaviour). IsPrefix events run.events) (same _ steps) b.first }

  played_as : (Prints : List ℕ → Type 0) (end : End) → Played Prints go script steps end → Played Prints went script steps end
  played_as Prints end p = record { run = p.run; plays = plays_as p.run p.plays; ends = p.ends; text = p.text }

  broken_as : (Prints : List ℕ → Type 0) → Broken Prints go script steps → Broken Prints went script steps
  broken_as Prints b = record { events = b.events; begins = begins_as b.events b.begins; text = b.text }

  part_as : (Prints : List ℕ → Type 0) → PlayedInPart Prints go script steps → PlayedInPart Prints went script steps
  part_as Prints (inl p) = inl (p.0, played_as Prints p.0 p.1)
  part_as Prints (inr b) = inr (broken_as Prints b)

  -- a run that never wants memory
  pub goes_out : (frugal : Bool) (old new : SinkState) (s : Status) → frugal ≡ true → PlaysOut frugal go script steps old new s → GoesOut went script steps old new s
  goes_out frugal old new status.Done is h = absurd h
  goes_out frugal old new status.Usage is h = absurd h
  goes_out frugal old new status.Unread is h = absurd h
  goes_out frugal old new status.Refused is h = absurd h
  goes_out frugal old new status.NoImage is h = absurd h
  goes_out frugal old new status.NoScript is h = absurd h
  goes_out frugal old new status.Unwritten is h = absurd h
  goes_out frugal old new status.Unput is h = (h.0, part_as (TookFront old new) h.1)
  goes_out frugal old new status.NoMemory is h = absurd (false≢true (sym h.0 ∙ is))
  goes_out frugal old new (status.Ran end) is h = played_as (Took old new) end h

  pub means_out : (frugal : Bool) (old new : SinkState) (s : Status) → PlaysOut frugal go script steps old new s → MeansOut went script steps old new s
  means_out frugal old new status.Done h = absurd h
  means_out frugal old new status.Usage h = absurd h
  means_out frugal old new status.Unread h = absurd h
  means_out frugal old new status.Refused h = absurd h
  means_out frugal old new status.NoImage h = absurd h
  means_out frugal old new status.NoScript h = absurd h
  means_out frugal old new status.Unwritten h = absurd h
  means_out frugal old new status.Unput h = (h.0, part_as (TookFront old new) h.1)
  means_out frugal old new status.NoMemory h = inr (broken_as (Took old new) h.1)
  means_out frugal old new (status.Ran end) h = played_as (Took old new) end h
