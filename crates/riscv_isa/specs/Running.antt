-- Runs of anything that goes in steps and asks.
use Rattle.std.specs.Prelude.{◌≡◌, ◌⊎◌, ℕ, zero, suc, ◌+◌, Bool, true, false, List, [], ◌∷◌}
use Rattle.pan_base.specs.Events.{Asked, Replied, Ending, Stopped, Asks, Spent, Behaviour, IsPrefix, only, before, fits}

-- a state runs, or waits with what is pending for a reply before it runs on, or the run is over
pub data Config (P S : Type 0) : Type 0 where
  Runs : (s : S) → Config P S
  Waits : (p : P) (s : S) → Config P S
  Over : (e : Ending) → Config P S

-- a reply that fits its request is an event before the rest, and another one ends the run
abbrev pub taken : Bool → Asked → Replied → Behaviour → Behaviour
taken true q r rest = before q r rest
taken false q r rest = only (Stopped q)

-- states that wait for the reply to what is asked, and are resumed by it
module _ {P S : Type 0} (asked : P → S → Asked) (resumed : P → S → Replied → S) where
  -- from a configuration, where `go` says how a state goes on
  abbrev pub continue : Config P S → (S → List Replied → Behaviour) → List Replied → Behaviour
  continue (Runs s) go replies = go s replies
  continue (Over e) go replies = only e
  continue (Waits p s) go [] = only (Asks (asked p s))
  continue (Waits p s) go (r ∷ replies) = taken (fits (asked p s) r) (asked p s) r (go (resumed p s r) replies)

-- and go in steps
module _ {P S : Type 0} (asked : P → S → Asked) (resumed : P → S → Replied → S) (step : S → Config P S) where
  -- at most so many steps
  unfoldable pub run : ℕ → S → List Replied → Behaviour
  run zero s replies = only Spent
  run (suc k) s replies = continue asked resumed (step s) (run k) replies

-- so many steps lead from one state to another, and none of them asks
abbrev pub Leads : {P S : Type 0} → (S → Config P S) → ℕ → S → S → Type 0
Leads step zero s t = s ≡ t
Leads {S = S} step (suc n) s t = (u : S) × (step s ≡ Runs u) × Leads step n u t

-- with more steps the events go on, and a run that has ended stays as it is
pub record IsSteady (runs : ℕ → Behaviour) : Type 0 where
  pub front : (k j : ℕ) → IsPrefix (runs k).events (runs (k + j)).events
  pub same : (k j : ℕ) → ((runs k).ending ≡ Spent) ⊎ (runs (k + j) ≡ runs k)
