-- Passes from words to words: both have the same globals, the second has done at most as much as the first, and the words that a function leaves are the same.
use Rattle.std.proofs.Common.{◌≡◌, ◌≢◌, ℕ, List, Bool, true, false, arith, refl, sym, ap, subst}
use Rattle.std.specs.Prelude.{if◌then◌else◌, Some}
use Rattle.pan_base.specs.Events.{Ending, Exit, Uncaught, Stopped, Asks, Spent, Stack, Fault, Fails}
use Rattle.pan_base.specs.declared.events.Size.{Size}
use Rattle.pan_control.specs.Control.{Normal, Broken, Continued, Returned, Raised, Over}
use Rattle.pan_control.specs.Runs.{exit_of, ending_of}
use Rattle.pan_stage.specs.Data.{World, Outcome, write, with_written}
use Rattle.pan_stage.specs.Stage.{IsSeenAs}
use Rattle.pan_stage.specs.Returns.{one_word, seen}
use Rattle.pan_stage.proofs.Follows.{Ends, Stops, Same, matched, cut, is_fails, value_same, raised}
use Rattle.pan_stage.proofs.Paid.{Within, same_globals, no_cuts, paid, left_paid}

-- the world in which so much is done
abbrev pub done : ℕ → World → World
done t w = record w { toll = t }

-- words are related where they are the same
abbrev pub Equal : List ℕ → World → List ℕ → Type 0
Equal ns w ms = ms ≡ ns

abbrev pub EqualOf : ℕ → List ℕ → World → List ℕ → Type 0
EqualOf i = Equal

-- where a statement goes on its variables are related by N, where it leaves a loop or its turn by B
abbrev pub ends : {V U : Type 0} → (N B : V → World → U → Type 0) → Ends (List ℕ) (List ℕ) V U (List ℕ) (List ℕ)
ends N B = paid same_globals no_cuts 1 0 N B B Equal EqualOf

-- how a function is left
abbrev pub Left : Outcome (Unit {0}) (List ℕ) → Outcome (Unit {0}) (List ℕ) → Type 0
Left o o' = Same (left_paid same_globals no_cuts 1 0 Equal EqualOf) o o'

module _ {V U : Type 0} (N B : V → World → U → Type 0) where
  -- both write the number to the same place
  pub written_same : (size : Size) (addr n : ℕ) (w : World) (t : ℕ) (go : World → Outcome V (List ℕ)) (go' : World → Outcome U (List ℕ))
      → ((globals local : List ℕ) → write size w.globals w.memory addr n ≡ Some (globals, local) → Same (ends N B) (go (record w { globals = globals; memory = local })) (go' (done t (record w { globals = globals; memory = local }))))
      → Same (ends N B) (with_written size addr n w go) (with_written size addr n (done t w) go')
  written_same size addr n w t go go' h = value_same (ends N B) (write size w.globals w.memory addr n) w (done t w) _ _ (λ d is. h d.0 d.1 is)

  -- an exception is caught by both or by none
  pub catch_same : (b : Bool) (i : ℕ) (x y : List ℕ) (t : ℕ) (w : World) (o : Outcome V (List ℕ)) (o' : Outcome U (List ℕ))
      → Equal x w y → Within 1 0 t w → (b ≡ true → Same (ends N B) o o') → Same (ends N B) (if b then o else Raised i x w) (if b then o' else Raised i y (done t w))
  catch_same false i x y t w o o' e within h = raised (ends N B) i x w y t (e, within)
  catch_same true i x y t w o o' e within h = h refl

-- ---- programs

ended : (e : Ending) (w : World) (o' : Outcome (Unit {0}) (List ℕ)) → Stops same_globals (λ w t. Within 1 0 t w) e w o' → IsSeenAs (seen (Over e w)) (seen o')
ended e w o' s = subst (λ o. IsSeenAs (seen (Over e w)) (seen o)) (sym s.is) (let h = s.holds in record { behaviour = refl; deepest = refl; toll = omega (arith, h) })

-- from what mains leave to what is seen of programs
pub seen_left : (o o' : Outcome (Unit {0}) (List ℕ)) → Left o o' → ending_of one_word o ≢ Fails → IsSeenAs (seen o) (seen o')
seen_left o o' (cut c) h = absurd c.holds
seen_left (Normal v w) o' (matched s) h = absurd (h refl)
seen_left (Broken v w) o' (matched s) h = absurd (h refl)
seen_left (Continued v w) o' (matched s) h = absurd (h refl)
seen_left (Returned ns w) o' (matched s) h = subst (λ o. IsSeenAs (seen (Returned ns w)) (seen o)) (sym s.is)
    (let p = s.holds in let b = p.1 in record { behaviour = ap (λ ns. record { events = w.trace; ending = exit_of (one_word ns) }) p.0; deepest = refl; toll = omega (arith, b) })
seen_left (Raised i x w) o' (matched s) h = subst (λ o. IsSeenAs (seen (Raised i x w)) (seen o)) (sym s.is) (let p = s.holds in let b = p.1 in record { behaviour = refl; deepest = refl; toll = omega (arith, b) })
seen_left (Over e w) o' (matched s) h = by e s h
  where
    by : (e : Ending) → (is_fails e ≡ false → Stops same_globals (λ w t. Within 1 0 t w) e w o') → e ≢ Fails → IsSeenAs (seen (Over e w)) (seen o')
    by Fails s h = absurd (h refl)
    by (Exit n) s h = ended (Exit n) w o' (s refl)
    by (Uncaught n) s h = ended (Uncaught n) w o' (s refl)
    by (Stopped q) s h = ended (Stopped q) w o' (s refl)
    by (Asks q) s h = ended (Asks q) w o' (s refl)
    by Spent s h = ended Spent w o' (s refl)
    by Stack s h = ended Stack w o' (s refl)
    by Fault s h = ended Fault w o' (s refl)
