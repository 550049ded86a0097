-- When a run goes on another, which has less fuel and fewer replies.
use Rattle.std.specs.Prelude.{◌≡◌, ◌≢◌, Bool, true, false, List, [], ◌∷◌, ◌++◌}
use Rattle.pan_base.specs.Events.{Asked, Replied, Stopped, Asks, Spent, Behaviour, IsPrefix, fits}
use Rattle.pan_control.specs.Seen.{Seen}

-- with a next reply, a run that asked this has one event more where the reply fits, and is stopped where it doesn't
abbrev pub AnsweredBy : Bool → Asked → Replied → Behaviour → Behaviour → Type 0
AnsweredBy true q r a b = IsPrefix (a.events ++ record { request = q; reply = r } ∷ []) b.events
AnsweredBy false q r a b = b ≡ record { events = a.events; ending = Stopped q }

-- what later replies make of a run that asked this: without any it still asks
abbrev pub Answered : List Replied → Asked → Behaviour → Behaviour → Type 0
Answered [] q a b = b ≡ a
Answered (r ∷ rs) q a b = AnsweredBy (fits q r) q r a b

-- the second run has more fuel and these later replies besides: the trace of the first is a prefix of its trace, a real end stays with all that is seen, and a run that asked goes on from its request
pub record GoesOn (later : List Replied) (a b : Seen) : Type 0 where
  pub front : IsPrefix (a.behaviour).events (b.behaviour).events
  pub same : (a.behaviour).ending ≢ Spent → ((q : Asked) → (a.behaviour).ending ≢ Asks q) → b ≡ a
  pub answered : (q : Asked) → (a.behaviour).ending ≡ Asks q → Answered later q a.behaviour b.behaviour
