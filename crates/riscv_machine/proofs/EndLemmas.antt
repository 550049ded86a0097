-- Where a machine that has ended stands.
use Rattle.std.proofs.Common.{◌≡◌, ℕ, ◌+◌, refl, sym, ap, subst, ◌∙◌}
use Rattle.riscv_isa.specs.Running.{Leads}
use Rattle.riscv_isa.specs.Step.{Runs, Over, step}
use Rattle.riscv_isa.proofs.RunLaws.{leads_on}
use Rattle.riscv_machine.specs.declared.machine.Machine.{Machine}
use Rattle.riscv_machine.specs.declared.machine.Phase.TheVariants as phase
use Rattle.riscv_machine.specs.View.{config_in, ending_of, IsKeptAtEnd}
use Rattle.riscv_machine.specs.Machine.{state_of, config_of, StandsAtEnd}

-- it came here by silent steps while it ran
abbrev pub CameHere : Machine → Machine → ℕ → Type 0
CameHere old mid used = old.phase ≡ phase.Running → mid.phase ≡ phase.Running → Leads step used (state_of old) (state_of mid)

module _ (old mid new : Machine) (used : ℕ) (running : mid.phase ≡ phase.Running) (stepped : config_of new ≡ step (state_of mid)) (came : CameHere old mid used) where
  pub came_on : CameHere old new (used + 1)
  came_on ran runs =
      let silent : step (state_of mid) ≡ Runs (state_of new) = sym stepped ∙ ap (λ ph. config_in ph (state_of new)) runs in
      leads_on step used 1 (state_of old) (state_of mid) (state_of new) (came ran running) (state_of new, silent, refl)

  pub ends_here : IsKeptAtEnd new.phase (state_of mid) (state_of new) → StandsAtEnd old new (used + 1)
  ends_here kept end ran is =
      let same : state_of new ≡ state_of mid = subst (λ ph. IsKeptAtEnd ph (state_of mid) (state_of new)) is kept in
      let over : step (state_of mid) ≡ Over (ending_of end) = sym stepped ∙ ap (λ ph. config_in ph (state_of new)) is in
      (used, refl, subst (Leads step used (state_of old)) (sym same) (came ran running), ap step same ∙ over)
