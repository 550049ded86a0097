-- Each advance of a writer.
use Rattle.std.proofs.Common.{◌≡◌, ◌≢◌, ℕ, ◌-◌, zero, suc, refl, arith, one-add, zero-add, List, ◌∷◌, inl, inr}
use Rattle.std.specs.Prelude.{◌⊎◌, IsSome}
use Rattle.std.proofs.lemmas.Bool.{false≢true}
use Rattle.pan_base.specs.Events.{Replied, Value, Done, Bytes, Stop, Fits, Exit, before, end_of}
use Rattle.pan_base.specs.declared.events.End.{End}
use Rattle.pan_base.specs.declared.events.End.TheVariants as told_end
use Rattle.pan_port.specs.declared.asker.Pause.{Pause}
use Rattle.pan_port.specs.declared.asker.Pause.TheVariants as pause
use Rattle.pan_port.specs.Asker.{Advances, IsAsking, IsOver}
use Rattle.pan_port.specs.Writer.{writer, store_of, asking, running, ending}

takes : (n : ℕ) (r : Replied) (replies : List Replied) (k : ℕ) → Fits (store_of n) r → (writer pause.Asks n).go (r ∷ replies) k ≡ before (store_of n) r (running k (n - 1) replies)
takes n Done replies k fits = refl
takes n (Value m) replies k fits = absurd (cc)
takes n (Bytes m) replies k fits = absurd (cc)
takes n Stop replies k fits = absurd (cc)

is_asking : (n : ℕ) → IsAsking (writer pause.Asks n) (store_of n)
is_asking n = record {
  asks = refl;
  runs = refl;
  silent = λ k. refl;
  event = λ r replies k fits. (running k (n - 1) replies, takes n r replies k fits);
}

more_left : (n k : ℕ) (replies : List Replied) → n ≢ 0 → running (suc k) n replies ≡ asking n replies (λ rest. running k (n - 1) rest)
more_left zero k replies h = absurd (h refl)
more_left (suc n) k replies h = let e : suc n - 1 ≡ n = omega arith in rw e refl

runs_on : (n : ℕ) → IsSome (writer pause.Spent n).pending ⊎ IsSome (writer pause.Spent n).ended → ⊥
runs_on n (inl h) = false≢true h
runs_on n (inr h) = false≢true h

pub spent : (p : Pause) (n budget : ℕ) → p ≡ pause.Spent → budget ≡ 0 → Advances (writer p n) (writer p n) budget (record { used = 0; pause = pause.Spent })
spent p n budget e b = rw (e, b) record {
  within = omega arith;
  goes = λ replies k. rw zero-add refl;
  bound = λ k. omega arith;
  pauses = (refl, refl, refl, λ replies. refl);
  idle = λ h. absurd (runs_on n h);
  size = refl;
  frugal = refl;
  fed = (refl, refl);
}

pub exits : (p : Pause) (n budget : ℕ) → p ≡ pause.Spent → n ≡ 0 → budget ≢ 0 → Advances (writer p n) (writer (pause.Ended (told_end.Exit 0)) n) budget (record { used = 1; pause = pause.Ended (told_end.Exit 0) })
exits p n budget e l b = rw (e, l) record {
  within = omega arith;
  goes = λ replies k. rw one-add refl;
  bound = λ k. omega arith;
  pauses = (Exit 0, record { ended = refl; asks = refl; over = tt; goes = λ replies k. refl }, refl, λ q x. absurd (cc));
  idle = λ h. absurd (runs_on 0 h);
  size = refl;
  frugal = refl;
  fed = (refl, refl);
}

pub asks : (p : Pause) (n budget : ℕ) → p ≡ pause.Spent → n ≢ 0 → budget ≢ 0 → Advances (writer p n) (writer pause.Asks n) budget (record { used = 1; pause = pause.Asks })
asks p n budget e l b = rw e record {
  within = omega arith;
  goes = λ replies k. rw one-add (more_left n k replies l);
  bound = λ k. omega arith;
  pauses = (store_of n, is_asking n, refl);
  idle = λ h. absurd (runs_on n h);
  size = refl;
  frugal = refl;
  fed = (refl, refl);
}

pub still_asks : (p : Pause) (n budget : ℕ) → p ≡ pause.Asks → Advances (writer p n) (writer p n) budget (record { used = 0; pause = pause.Asks })
still_asks p n budget e = rw e record {
  within = omega arith;
  goes = λ replies k. rw zero-add refl;
  bound = λ k. omega arith;
  pauses = (store_of n, is_asking n, refl);
  idle = λ h. (refl, refl);
  size = refl;
  frugal = refl;
  fed = (refl, refl);
}

over_at : (end : End) (n : ℕ) → IsOver (ending end n)
over_at (told_end.Exit x) n = tt
over_at (told_end.Uncaught x) n = tt
over_at told_end.Stopped n = tt
over_at told_end.Asks n = tt
over_at told_end.Spent n = tt
over_at told_end.Stack n = tt
over_at told_end.Fault n = tt
over_at told_end.Fails n = tt

pub still_over : (p : Pause) (end told : End) (n budget : ℕ) → p ≡ pause.Ended end → end_of (ending end n) ≡ told → Advances (writer p n) (writer p n) budget (record { used = 0; pause = pause.Ended told })
still_over p end told n budget e same = rw e record {
  within = omega arith;
  goes = λ replies k. refl;
  bound = λ k. omega arith;
  pauses = (ending end n, record { ended = refl; asks = refl; over = over_at end n; goes = λ replies k. refl }, same, λ q x. refl);
  idle = λ h. (refl, refl);
  size = refl;
  frugal = refl;
  fed = (refl, refl);
}
