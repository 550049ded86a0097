-- Runs that take their replies in order, of a source with some fuel or of a machine with some steps.
use Rattle.std.specs.Prelude.{◌≡◌, ◌≢◌, List, [], ◌∷◌, ◌++◌, map}
use Rattle.pan_base.specs.Events.{Asked, Replied, Ending, Exit, Uncaught, Stopped, Asks, Spent, Stack, Fault, Fails, Behaviour, fits}
use Rattle.pan_tree.specs.GoesOn.{AnsweredBy}

-- what may be left of the replies: none where the run asks, and the reply that didn't fit where it was stopped
abbrev pub Left : Ending → List Replied → Type 0
Left (Asks q) left = left ≡ []
Left (Stopped q) left = (r : Replied) × (more : List Replied) × (left ≡ r ∷ more)
Left (Exit n) left = Unit {0}
Left (Uncaught n) left = Unit {0}
Left Spent left = Unit {0}
Left Stack left = Unit {0}
Left Fault left = Unit {0}
Left Fails left = Unit {0}

-- the replies are those of the events, and what is left
pub record Uses (replies : List Replied) (b : Behaviour) : Type 0 where
  pub left : List Replied
  pub all : replies ≡ map (λ e. e.reply) b.events ++ left
  pub ends : Left b.ending left

-- A run takes its replies in order. What stands behind those that it took makes no difference, but where it asks: there the next one is its answer.
pub record TakesInOrder (run : List Replied → Behaviour) : Type 0 where
  pub uses : (replies : List Replied) → Uses replies (run replies)
  pub stays : (replies later : List Replied) → ((q : Asked) → (run replies).ending ≢ Asks q) → run (replies ++ later) ≡ run replies
  pub answered : (replies : List Replied) (r : Replied) (later : List Replied) (q : Asked) → (run replies).ending ≡ Asks q → AnsweredBy (fits q r) q r (run replies) (run (replies ++ r ∷ later))
