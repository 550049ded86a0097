-- A runner advances as an asker.
use Rattle.std.proofs.Common.{◌≡◌, ℕ, suc, ◌+◌, ◌<◌, ◌≤◌, List, [], ◌∷◌, length, Some, None, Bool, true, false, refl, sym, ap, ◌∙◌, subst, arith, inl, inr}
use Rattle.std.specs.Prelude.{◌⊎◌, IsSome}
use Rattle.std.proofs.lemmas.Bool.{false≢true}
use Rattle.pan_base.specs.Events.{Asked, Replied, Ending, Stopped, Asks, Spent, only, before, fits, end_of}
use Rattle.pan_base.specs.declared.events.End.TheVariants as told_end
use Rattle.pan_port.specs.declared.asker.Pause.{Pause}
use Rattle.pan_port.specs.declared.asker.Pause.TheVariants as pause
use Rattle.pan_port.specs.Asker.{Meaning, Advances, HasEnded, IsOver, IsAsking, PausesAt}
use Rattle.source_resolver.specs.Slots.{Variables}
use Rattle.source_resolver.specs.declared.resolved.Program.{Program}
use Rattle.pan_runner.specs.declared.phase.Ending.{Ending as OwnEnding}
use Rattle.pan_runner.specs.declared.phase.Ending.TheVariants as ending
use Rattle.pan_runner.specs.declared.phase.Phase.{Phase}
use Rattle.pan_runner.specs.declared.phase.Phase.TheVariants as phase
use Rattle.pan_runner.specs.declared.runner.Runner.{Runner}
use Rattle.pan_runner.specs.Machine.{Frame, Leave, Next, Pending, Config, Runs, Spends, Waits, Over, request_of, variables_after, memory_after, where_fits}
use Rattle.pan_runner.specs.Going.{going, goes, run_of}
use Rattle.pan_runner.specs.Weight.{config_weight}
use Rattle.pan_runner.specs.Ahead.{ahead}
use Rattle.pan_runner.specs.View.{stepped, is_running, is_spending, fed, config_in, pending_of, pending_in, ended_in, ending_of, PausedAt, IsGoing, IsUnstopped}
use Rattle.pan_runner.specs.Runner.{names_of, variables_of, frames_of, config_of, meaning_in, meaning_of, Keeps, GoesOn, IsBounded, ComesFrom, Settled, Went}
use Rattle.pan_runner.proofs.Steps.{step_keeps}
use Rattle.pan_runner.proofs.Lighter.{step_lighter}
use Rattle.pan_runner.proofs.Reaching.{step_ahead}
use Rattle.pan_runner.proofs.Unstopped.{stepped_unstopped, fed_unstopped}
use Rattle.pan_runner.proofs.Later.{going_event}

-- ---- configurations

module _ (names : List (List ℕ)) (p : Program) where
  stepped_keeps : (c : Config) (rs : List Replied) (k : ℕ) → goes names p c [] rs k ≡ goes names p (stepped names p c) [] rs k
  unfolding goes
  stepped_keeps (Runs d ks m) rs k = step_keeps names p d ks m [] rs k
  stepped_keeps (Spends d ks m) rs k = refl
  stepped_keeps (Waits q u ks m) rs k = refl
  stepped_keeps (Over e) rs k = refl

  stepped_lighter : (c : Config) → is_running c ≡ true → config_weight p (stepped names p c) < config_weight p c
  stepped_lighter (Runs d ks m) is = step_lighter names p d ks m
  stepped_lighter (Spends d ks m) is = absurd (cc)
  stepped_lighter (Waits q u ks m) is = absurd (cc)
  stepped_lighter (Over e) is = absurd (cc)

  stepped_ahead : (c : Config) (k : ℕ) → ahead p (stepped names p c) k ≤ ahead p c k
  stepped_ahead (Runs d ks m) k = step_ahead names p d ks m k
  stepped_ahead (Spends d ks m) k = omega arith
  stepped_ahead (Waits q u ks m) k = omega arith
  stepped_ahead (Over e) k = omega arith

  fed_goes : (c : Config) (rs : List Replied) (k : ℕ) → is_spending c ≡ true → goes names p c [] rs (suc k) ≡ goes names p (fed c) [] rs k
  unfolding goes
  fed_goes (Runs d ks m) rs k is = absurd (cc)
  fed_goes (Spends d ks m) rs k is = refl
  fed_goes (Waits q u ks m) rs k is = absurd (cc)
  fed_goes (Over e) rs k is = absurd (cc)

  fed_ahead : (c : Config) (k : ℕ) → is_spending c ≡ true → ahead p (fed c) k ≤ ahead p c (suc k)
  fed_ahead (Runs d ks m) k is = absurd (cc)
  fed_ahead (Spends d ks m) k is = omega arith
  fed_ahead (Waits q u ks m) k is = absurd (cc)
  fed_ahead (Over e) k is = absurd (cc)

  spends_goes : (c : Config) (rs : List Replied) → is_spending c ≡ true → goes names p c [] rs 0 ≡ only Spent
  unfolding goes
  spends_goes (Runs d ks m) rs is = absurd (cc)
  spends_goes (Spends d ks m) rs is = refl
  spends_goes (Waits q u ks m) rs is = absurd (cc)
  spends_goes (Over e) rs is = absurd (cc)

  over_goes : (e : Ending) (rs : List Replied) (k : ℕ) → goes names p (Over e) [] rs k ≡ only e
  unfolding goes
  over_goes e rs k = refl

  asks_goes : (q : Pending) (u : Variables) (ks : List Frame) (m : List ℕ) (k : ℕ) → goes names p (Waits q u ks m) [] [] k ≡ only (Asks (request_of q))
  unfolding goes
  asks_goes q u ks m k = refl

  -- a reply that fits makes an event
  taken_goes : (q : Pending) (u : Variables) (ks : List Frame) (m : List ℕ) (r : Replied) (rs : List Replied) (k : ℕ) → fits (request_of q) r ≡ true
      → goes names p (Waits q u ks m) [] (r ∷ rs) k ≡ before (request_of q) r (goes names p (Runs (Leave (Next (variables_after q r u))) ks (memory_after q r m)) [] rs k)
  unfolding goes
  taken_goes q u ks m r rs k fit =
      ap (λ b. where_fits b (going names p (Leave (Next (variables_after q r u))) ks (memory_after q r m) (record { request = request_of q; reply = r } ∷ []) rs k) (run_of [] (Stopped (request_of q)))) fit
      ∙ going_event names p (Leave (Next (variables_after q r u))) ks (memory_after q r m) (request_of q) r rs k

  pub takes_goes : (q : Pending) (u : Variables) (ks : List Frame) (m : List ℕ) (r : Replied) (rs : List Replied) (k : ℕ) → fits (request_of q) r ≡ true
      → goes names p (Waits q u ks m) [] (r ∷ rs) k ≡ before (request_of q) r (goes names p (Runs (Leave (Next (variables_after q r u))) ks (memory_after q r m)) [] rs k)
  takes_goes = taken_goes

  -- any other stops it
  pub stops_goes : (q : Pending) (u : Variables) (ks : List Frame) (m : List ℕ) (r : Replied) (rs : List Replied) (k : ℕ) → fits (request_of q) r ≡ false → goes names p (Waits q u ks m) [] (r ∷ rs) k ≡ only (Stopped (request_of q))
  unfolding goes
  stops_goes q u ks m r rs k unfit =
      ap (λ b. where_fits b (going names p (Leave (Next (variables_after q r u))) ks (memory_after q r m) (record { request = request_of q; reply = r } ∷ []) rs k) (run_of [] (Stopped (request_of q)))) unfit

  pub over_in : (e : Ending) (size : ℕ) (starved : Bool) → IsOver e → HasEnded (meaning_in names p (Over e) size starved) e
  over_in e size starved over = record { ended = refl; asks = refl; over = over; goes = λ rs k. over_goes e rs k }

  pub asking : (q : Pending) (u : Variables) (ks : List Frame) (m : List ℕ) (size : ℕ) (starved : Bool) → IsAsking (meaning_in names p (Waits q u ks m) size starved) (request_of q)
  asking q u ks m size starved = record {
    asks = refl;
    runs = refl;
    silent = λ k. asks_goes q u ks m k;
    event = λ r rs k fit. (goes names p (Runs (Leave (Next (variables_after q r u))) ks (memory_after q r m)) [] rs k, taken_goes q u ks m r rs k fit);
  }

running_going : (c : Config) → is_running c ≡ true → IsGoing c
running_going (Runs d ks m) is = (refl, refl)
running_going (Spends d ks m) is = absurd (cc)
running_going (Waits q u ks m) is = absurd (cc)
running_going (Over e) is = absurd (cc)

spending_going : (c : Config) → is_spending c ≡ true → IsGoing c
spending_going (Runs d ks m) is = absurd (cc)
spending_going (Spends d ks m) is = (refl, refl)
spending_going (Waits q u ks m) is = absurd (cc)
spending_going (Over e) is = absurd (cc)

-- ---- runners

pub keeps_same : (r : Runner) → Keeps r r
keeps_same r = record { checked = refl; program = refl; size = refl; starved = refl }

pub keeps_on : (old mid new : Runner) → Keeps old mid → Keeps mid new → Keeps old new
keeps_on old mid new a b = record { checked = b.checked ∙ a.checked; program = b.program ∙ a.program; size = b.size ∙ a.size; starved = b.starved ∙ a.starved }

pub goes_same : (r : Runner) → GoesOn r r 0
goes_same r rs k = let e : 0 + k ≡ k = omega arith in ap ((meaning_of r).go rs) e

pub bound_same : (r : Runner) → IsBounded r r 0
bound_same r k = let e : 0 + k ≡ k = omega arith in subst (λ n. (meaning_of r).ahead k ≤ (meaning_of r).ahead n) (sym e) (omega arith)

-- first so many units, and then so many
pub goes_on : (old mid new : Runner) (i j : ℕ) → GoesOn old mid i → GoesOn mid new j → GoesOn old new (i + j)
goes_on old mid new i j a b rs k = let e : i + j + k ≡ i + (j + k) = omega arith in ap ((meaning_of old).go rs) e ∙ a rs (j + k) ∙ b rs k

pub bound_on : (old mid new : Runner) (i j : ℕ) → IsBounded old mid i → IsBounded mid new j → IsBounded old new (i + j)
bound_on old mid new i j a b k =
    let e : i + (j + k) ≡ i + j + k = omega arith in
    let f = subst (λ n. (meaning_of mid).ahead (j + k) ≤ (meaning_of old).ahead n) e (a (j + k)) in
    omega (arith, b k, f)

module _ (mid new : Runner) (keeps : Keeps mid new) where
  -- a configuration of the new one goes as one of the old
  go_by : (c : Config) (rs : List Replied) (k : ℕ) → goes (names_of mid) mid.program c [] rs k ≡ goes (names_of new) new.program c [] rs k
  go_by c rs k = ap (λ (ch : _). goes (Rattle.pan_runner.specs.Runner.names_in ch.now) mid.program c [] rs k) (sym keeps.checked) ∙ ap (λ p. goes (names_of new) p c [] rs k) (sym keeps.program)

  ahead_by : (c : Config) (k : ℕ) → ahead new.program c k ≡ ahead mid.program c k
  ahead_by c k = ap (λ p. ahead p c k) keeps.program

  module _ (stepped_to : config_of new ≡ stepped (names_of mid) mid.program (config_of mid)) where
    pub steps_on : GoesOn mid new 0
    steps_on rs k =
        let e : 0 + k ≡ k = omega arith in
        ap ((meaning_of mid).go rs) e
        ∙ stepped_keeps (names_of mid) mid.program (config_of mid) rs k
        ∙ ap (λ c. goes (names_of mid) mid.program c [] rs k) (sym stepped_to)
        ∙ go_by (config_of new) rs k

    pub steps_bound : IsBounded mid new 0
    steps_bound k =
        let e : 0 + k ≡ k = omega arith in
        subst (λ n. (meaning_of new).ahead k ≤ (meaning_of mid).ahead n) (sym e)
        (subst (λ n. n ≤ ahead mid.program (config_of mid) k) (sym (ahead_by (config_of new) k ∙ ap (λ c. ahead mid.program c k) stepped_to)) (stepped_ahead (names_of mid) mid.program (config_of mid) k))

    pub steps_lighter : is_running (config_of mid) ≡ true → config_weight new.program (config_of new) < config_weight mid.program (config_of mid)
    steps_lighter is =
        let e : config_weight new.program (config_of new) ≡ config_weight mid.program (stepped (names_of mid) mid.program (config_of mid)) = ap (λ p. config_weight p (config_of new)) keeps.program ∙ ap (config_weight mid.program) stepped_to in
        subst (λ n. n < config_weight mid.program (config_of mid)) (sym e) (stepped_lighter (names_of mid) mid.program (config_of mid) is)

    pub steps_unstopped : is_running (config_of mid) ≡ true → IsUnstopped (config_of new)
    steps_unstopped is = subst IsUnstopped (sym stepped_to) (stepped_unstopped (names_of mid) mid.program (config_of mid) is)

  module _ (fed_to : config_of new ≡ fed (config_of mid)) (is : is_spending (config_of mid) ≡ true) where
    pub feeds_on : GoesOn mid new 1
    feeds_on rs k =
        let e : 1 + k ≡ suc k = omega arith in
        ap ((meaning_of mid).go rs) e
        ∙ fed_goes (names_of mid) mid.program (config_of mid) rs k is
        ∙ ap (λ c. goes (names_of mid) mid.program c [] rs k) (sym fed_to)
        ∙ go_by (config_of new) rs k

    pub feeds_bound : IsBounded mid new 1
    feeds_bound k =
        let e : 1 + k ≡ suc k = omega arith in
        subst (λ n. (meaning_of new).ahead k ≤ (meaning_of mid).ahead n) (sym e)
        (subst (λ n. n ≤ ahead mid.program (config_of mid) (suc k)) (sym (ahead_by (config_of new) k ∙ ap (λ c. ahead mid.program c k) fed_to)) (fed_ahead (names_of mid) mid.program (config_of mid) k is))

    pub feeds_unstopped : IsUnstopped (config_of new)
    feeds_unstopped = subst IsUnstopped (sym fed_to) (fed_unstopped (config_of mid) is)

-- what came so, and went on, was going
going_before : (old mid : Runner) (used : ℕ) → ComesFrom old mid used → IsGoing (config_of mid) → IsGoing (config_of old)
going_before old mid used (inl same) going = subst (λ r. IsGoing (config_of r)) same.0 going
going_before old mid used (inr p) going = p.0

pub steps_origin : (old mid new : Runner) → ComesFrom old mid 0 → is_running (config_of mid) ≡ true → IsUnstopped (config_of new) → ComesFrom old new 0
steps_origin old mid new origin is unstopped = inr (going_before old mid 0 origin (running_going (config_of mid) is), unstopped)

-- what settles after a unit was not stopped
settled_unstopped : (mid new : Runner) → ComesFrom mid new 0 → IsUnstopped (config_of mid) → IsUnstopped (config_of new)
settled_unstopped mid new (inl same) unstopped = subst (λ r. IsUnstopped (config_of r)) (sym same.0) unstopped
settled_unstopped mid new (inr p) unstopped = p.1

pub units_origin : (old mid given new : Runner) (used : ℕ) → ComesFrom old mid used → is_spending (config_of mid) ≡ true → IsUnstopped (config_of given) → ComesFrom given new 0 → ComesFrom old new (used + 1)
units_origin old mid given new used origin is unstopped settled = inr (going_before old mid used origin (spending_going (config_of mid) is), settled_unstopped given new settled unstopped)

-- ---- pauses

is_over : (e : OwnEnding) → IsOver (ending_of e)
is_over (ending.Exit n) = tt
is_over (ending.Uncaught n) = tt
is_over ending.Fails = tt

unstopped_end : (e : OwnEnding) (q : Asked) → ending_of e ≡ Stopped q → ⊥
unstopped_end (ending.Exit n) q e = cc
unstopped_end (ending.Uncaught n) q e = cc
unstopped_end ending.Fails q e = cc

not_idle : (c : Config) → IsGoing c → IsSome (pending_in c) ⊎ IsSome (ended_in c) → ⊥
not_idle c going (inl h) = false≢true (subst (λ o. IsSome o) going.0 h)
not_idle c going (inr h) = false≢true (subst (λ o. IsSome o) going.1 h)

module _ (old new : Runner) (budget used : ℕ) (went : Went old new budget used) where
  abbrev meant : Config → Meaning
  meant c = meaning_in (names_of new) new.program c (length new.memory) new.starved

  abbrev here : Phase → Config
  here ph = config_in ph (variables_of new) (frames_of new) new.memory

  ended_as : new ≡ old → ended_in (config_of old) ≡ ended_in (config_of new)
  ended_as e = sym (ap (λ r. ended_in (config_of r)) e)

  -- what asks had not ended before
  unended : ended_in (config_of new) ≡ None → ended_in (config_of old) ≡ None
  unended none = elim went.origin [ inl p ↦ ended_as p.0 ∙ none | inr p ↦ (p.0).1 ]

  -- what was stopped had been before
  stopped_before : (q : Asked) → config_of new ≡ Over (Stopped q) → ended_in (config_of old) ≡ Some (Stopped q)
  stopped_before q is = elim went.origin [
    | inl same ↦ ended_as same.0 ∙ ap ended_in is
    | inr p ↦ absurd (subst IsUnstopped is p.1)
  ]

  spends : (why : Pause) → is_spending (config_of new) ≡ true → pending_in (config_of new) ≡ None → ended_in (config_of new) ≡ None → why ≡ pause.Spent → PausesAt (meaning_of old) (meaning_of new) budget used why
  spends why is asks ended at =
      subst (λ w. PausesAt (meaning_of old) (meaning_of new) budget used w) (sym at)
      (went.spent is, asks, ended, λ rs. spends_goes (names_of new) new.program (config_of new) rs is)

  -- by the phase: one that runs is no more, and one that spends, asks or is over pauses so
  runs_not : (why : Pause) → is_running (config_of new) ≡ true → PausesAt (meaning_of old) (meaning_of new) budget used why
  runs_not why is = absurd (false≢true (sym went.still ∙ is))

  pauses : (ph : Phase) (why : Pause) → new.phase ≡ ph → PausedAt ph why → PausesAt (meaning_of old) (meaning_of new) budget used why
  pauses (phase.Enter f xs) why is at = runs_not why (ap (λ ph. is_running (here ph)) is)
  pauses phase.Next why is at = runs_not why (ap (λ ph. is_running (here ph)) is)
  pauses phase.Break why is at = runs_not why (ap (λ ph. is_running (here ph)) is)
  pauses phase.Continue why is at = runs_not why (ap (λ ph. is_running (here ph)) is)
  pauses (phase.Return a) why is at = runs_not why (ap (λ ph. is_running (here ph)) is)
  pauses (phase.Raise i a) why is at = runs_not why (ap (λ ph. is_running (here ph)) is)
  pauses (phase.Become f xs) why is at = runs_not why (ap (λ ph. is_running (here ph)) is)
  pauses (phase.Call f xs) why is at = spends why (ap (λ ph. is_spending (here ph)) is) (ap (λ ph. pending_in (here ph)) is) (ap (λ ph. ended_in (here ph)) is) at
  pauses (phase.TailCall f xs) why is at = spends why (ap (λ ph. is_spending (here ph)) is) (ap (λ ph. pending_in (here ph)) is) (ap (λ ph. ended_in (here ph)) is) at
  pauses phase.Turn why is at = spends why (ap (λ ph. is_spending (here ph)) is) (ap (λ ph. pending_in (here ph)) is) (ap (λ ph. ended_in (here ph)) is) at
  pauses (phase.Asks q) why is at =
      let p = pending_of q new.memory in
      subst (λ w. PausesAt (meaning_of old) (meaning_of new) budget used w) (sym at)
      (subst (λ ph. PausesAt (meaning_of old) (meant (here ph)) budget used pause.Asks) (sym is)
      (request_of p, asking (names_of new) new.program p (variables_of new) (frames_of new) new.memory (length new.memory) new.starved, unended (ap (λ ph. ended_in (here ph)) is)))
  pauses (phase.Refused q) why is at =
      let e = Stopped (request_of (pending_of q new.memory)) in
      subst (λ w. PausesAt (meaning_of old) (meaning_of new) budget used w) (sym at)
      (subst (λ ph. PausesAt (meaning_of old) (meant (here ph)) budget used (pause.Ended told_end.Stopped)) (sym is)
      (e, over_in (names_of new) new.program e (length new.memory) new.starved tt, refl, λ x f. stopped_before (request_of (pending_of q new.memory)) (ap here is)))
  pauses (phase.Ended end) why is at =
      let e = ending_of end in
      subst (λ w. PausesAt (meaning_of old) (meaning_of new) budget used w) (sym at)
      (subst (λ ph. PausesAt (meaning_of old) (meant (here ph)) budget used (pause.Ended (end_of (ending_of end)))) (sym is)
      (e, over_in (names_of new) new.program e (length new.memory) new.starved (is_over end), refl, λ x f. absurd (unstopped_end end x f)))

  idle : IsSome (meaning_of old).pending ⊎ IsSome (meaning_of old).ended → (used ≡ 0) × (meaning_of new ≡ meaning_of old)
  idle h = elim went.origin [ inl p ↦ (p.1, ap meaning_of p.0) | inr p ↦ absurd (not_idle (config_of old) p.0 h) ]

  pub advances : (why : Pause) → PausedAt new.phase why → old.starved ≡ false → Advances (meaning_of old) (meaning_of new) budget (record { used = used; pause = why })
  advances why at fed = record {
    within = went.within;
    goes = went.goes;
    bound = went.bound;
    pauses = pauses new.phase why refl at;
    idle = idle;
    size = (went.keeps).size;
    frugal = refl;
    fed = (fed, (went.keeps).starved ∙ fed);
  }
