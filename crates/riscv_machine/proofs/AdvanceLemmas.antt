-- A machine advances as an asker.
use Rattle.std.proofs.Common.{◌≡◌, ℕ, ◌+◌, ◌≤◌, suc, refl, sym, ap, ◌∙◌, subst, arith, inl, inr, List, Some, None, length}
use Rattle.std.specs.Prelude.{◌⊎◌, IsSome}
use Rattle.std.proofs.lemmas.Bool.{false≢true}
use Rattle.pan_base.specs.Events.{Asked, Replied, Ending, Stopped, Spent, only}
use Rattle.pan_port.specs.declared.asker.Pause.{Pause}
use Rattle.pan_port.specs.Asker.{Meaning, Advances, HasEnded, IsOver, PausesAt}
use Rattle.riscv_isa.specs.declared.pending.Pending.{Pending}
use Rattle.riscv_isa.specs.Step.{State, Config, Runs, Waits, Over, step, request_of}
use Rattle.riscv_isa.specs.Running.{run}
use Rattle.riscv_machine.specs.declared.machine.MachineEnd.{MachineEnd}
use Rattle.riscv_machine.specs.declared.machine.MachineEnd.TheVariants as machine_end
use Rattle.riscv_machine.specs.declared.machine.Machine.{Machine}
use Rattle.riscv_machine.specs.declared.machine.Phase.{Phase}
use Rattle.riscv_machine.specs.declared.machine.Phase.TheVariants as phase
use Rattle.riscv_machine.specs.View.{config_in, pending_in, ended_in, ahead_in, ending_of, IsUnrefused}
use Rattle.riscv_machine.specs.Machine.{state_of, config_of, goes, meaning_in, meaning_of, GoesOn, IsBounded, ComesFrom, Ran}
use Rattle.riscv_machine.specs.Taking.{PausedAt}
use Rattle.riscv_machine.proofs.AnswerLemmas.{asking}

-- a step is the first of the steps that are left
goes-suc : (s : State) (replies : List Replied) (k : ℕ) → goes (Runs s) replies (suc k) ≡ goes (step s) replies k
unfolding run
goes-suc s replies k = refl

goes-zero : (s : State) (replies : List Replied) → goes (Runs s) replies 0 ≡ only Spent
unfolding run
goes-zero s replies = refl

module _ (old mid new : Machine) (used : ℕ) (running : mid.phase ≡ phase.Running) (stepped : config_of new ≡ step (state_of mid)) where
  mid_is : config_of mid ≡ Runs (state_of mid)
  mid_is = ap (λ ph. config_in ph (state_of mid)) running

  -- a run goes on by a step
  pub goes_on : GoesOn old mid used → GoesOn old new (used + 1)
  goes_on so_far replies k =
      let e : used + 1 + k ≡ used + suc k = omega arith in
      ap (goes (config_of old) replies) e
      ∙ so_far replies (suc k)
      ∙ ap (λ c. goes c replies (suc k)) mid_is
      ∙ goes-suc (state_of mid) replies k
      ∙ ap (λ c. goes c replies k) (sym stepped)

  ahead-suc : (c : Config) (k : ℕ) → ahead_in c k ≤ suc k
  ahead-suc (Runs s) k = omega arith
  ahead-suc (Waits p s) k = omega arith
  ahead-suc (Over e) k = omega arith

  pub bound_on : IsBounded old mid used → IsBounded old new (used + 1)
  bound_on bound k =
      let ahead = ahead_in (config_of old) in
      let e : used + suc k ≡ used + 1 + k = omega arith in
      let f = subst (λ n. ahead_in (config_of mid) (suc k) ≤ ahead n) e (bound (suc k)) in
      let g = subst (λ c. ahead_in c (suc k) ≤ ahead (used + 1 + k)) mid_is f in
      omega (arith, ahead-suc (config_of new) k)

-- what runs began so
pub started : (old mid : Machine) (used : ℕ) → ComesFrom old mid used → mid.phase ≡ phase.Running → old.phase ≡ phase.Running
started old mid used (inl p) running = sym (ap (λ m. m.phase) p.0) ∙ running
started old mid used (inr p) running = p.0

over_in : (e : Ending) (size : ℕ) → IsOver e → HasEnded (meaning_in (Over e) size) e
over_in e size over = record { ended = refl; asks = refl; over = over; goes = λ replies k. refl }

is_over : (end : MachineEnd) → IsOver (ending_of end)
is_over (machine_end.Exit n) = tt
is_over (machine_end.Uncaught n) = tt
is_over machine_end.Stack = tt
is_over machine_end.Fault = tt

unstopped : (end : MachineEnd) (q : Asked) → ending_of end ≡ Stopped q → ⊥
unstopped (machine_end.Exit n) q e = cc
unstopped (machine_end.Uncaught n) q e = cc
unstopped machine_end.Stack q e = cc
unstopped machine_end.Fault q e = cc

-- it asks, or has ended
abbrev IsIdle : Config → Type 0
IsIdle c = IsSome (pending_in c) ⊎ IsSome (ended_in c)

runs_not_idle : (s : State) → IsIdle (Runs s) → ⊥
runs_not_idle s (inl h) = false≢true h
runs_not_idle s (inr h) = false≢true h

module _ (old new : Machine) (budget used : ℕ) (ran : Ran old new budget used) where
  abbrev size : ℕ
  size = length new.memory.local

  abbrev s : State
  s = state_of new

  abbrev before : Meaning
  before = meaning_of old

  ended_as : new ≡ old → ended_in (config_of old) ≡ ended_in (config_of new)
  ended_as e = sym (ap (λ m. ended_in (config_of m)) e)

  -- what ran had not ended before
  unended : ended_in (config_of new) ≡ None → ended_in (config_of old) ≡ None
  unended none = elim ran.origin [
    | inl p ↦ ended_as p.0 ∙ none
    | inr p ↦ ap (λ ph. ended_in (config_in ph (state_of old))) p.0
  ]

  -- what was stopped had been before
  stopped_before : (p : Pending) → new.phase ≡ phase.Refused p → ended_in (config_of old) ≡ Some (Stopped (request_of p s))
  stopped_before p is = elim ran.origin [
    | inl same ↦ ended_as same.0 ∙ ap (λ ph. ended_in (config_in ph s)) is
    | inr u ↦ absurd (subst (λ ph. IsUnrefused ph) is u.1)
  ]

  pauses : (ph : Phase) (why : Pause) → new.phase ≡ ph → PausedAt ph why → PausesAt before (meaning_in (config_in ph s) size) budget used why
  pauses phase.Running why is at =
      subst (λ w. PausesAt before (meaning_in (Runs s) size) budget used w) (sym at)
      (ran.spent is, refl, refl, λ replies. goes-zero s replies)
  pauses (phase.Waiting p) why is at =
      subst (λ w. PausesAt before (meaning_in (Waits p s) size) budget used w) (sym at)
      (request_of p s, asking p s size, unended (ap (λ ph. ended_in (config_in ph s)) is))
  pauses (phase.Refused p) why is at =
      let e = Stopped (request_of p s) in
      subst (λ w. PausesAt before (meaning_in (Over e) size) budget used w) (sym at)
      (e, over_in e size tt, refl, λ q f. stopped_before p is)
  pauses (phase.Ended end) why is at =
      let e = ending_of end in
      subst (λ w. PausesAt before (meaning_in (Over e) size) budget used w) (sym at)
      (e, over_in e size (is_over end), refl, λ q f. absurd (unstopped end q f))

  idle : IsSome before.pending ⊎ IsSome before.ended → (used ≡ 0) × (meaning_of new ≡ before)
  idle h = elim ran.origin [
    | inl p ↦ (p.1, ap meaning_of p.0)
    | inr p ↦ absurd (runs_not_idle (state_of old) (subst (λ ph. IsIdle (config_in ph (state_of old))) p.0 h))
  ]

  pub advances : (why : Pause) → PausedAt new.phase why → Advances before (meaning_of new) budget (record { used = used; pause = why })
  advances why at = record {
    within = ran.within;
    goes = ran.goes;
    bound = ran.bound;
    pauses = pauses new.phase why refl at;
    idle = idle;
    size = ran.size;
    frugal = refl;
    fed = (refl, refl);
  }
