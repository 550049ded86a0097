-- Runs that don't concur.
use Rattle.std.proofs.Common.{◌≡◌, ◌≢◌, ◌∙◌, ℕ, List, [], ◌∷◌, refl, ap}
use Rattle.pan_base.specs.Events.{Asked, Event, Exit, Stopped, Replied, Behaviour, only}
use Rattle.device_script.specs.Script.{Content}
use Rattle.device_script.specs.Runs.{IsGiven}
use Rattle.script_agreement.specs.Given.{Concur}

pub ends : (n m : ℕ) → n ≢ m → Concur (only (Exit n)) (only (Exit m)) → ⊥
ends n m apart c = let e : Exit n ≡ Exit m = ap (λ (b : Behaviour). b.ending) (c.same refl refl) in apart (cc e)

pub stopped : (n : ℕ) (q : Asked) → Concur (only (Exit n)) (only (Stopped q)) → ⊥
stopped n q c = let e : Exit n ≡ Stopped q = ap (λ (b : Behaviour). b.ending) (c.same refl refl) in cc e

pub event : (n : ℕ) (e : Event) → Concur (only (Exit n)) (record { events = e ∷ []; ending = Exit n }) → ⊥
event n e c = let all : [] ≡ e ∷ [] = ap (λ (b : Behaviour). b.events) (c.same refl refl) in cc all

pub unasked : (script : Content) (n : ℕ) (replies : List Replied) → IsGiven script (only (Exit n)) replies → replies ≡ []
unasked script n replies g = (g.1).all ∙ (g.1).closes.0
