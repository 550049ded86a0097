-- Silent steps, of anything and of lines, and what a line does that is one instruction.
use Rattle.std.proofs.Common.{◌≡◌, ℕ, zero, suc, ◌≤◌, refl, ap, ◌∙◌, List, [], ◌∷◌, arith}
use Rattle.pan_base.specs.Events.{Asked, Replied, Spent, only}
use Rattle.riscv_isa.specs.Running.{Config, Runs, Waits, Over, continue, run, Leads}
use Rattle.riscv_isa.specs.Step as machine
use Rattle.lab_lang.specs.Meaning.{State, once, asks, replied, step, run as run_lines}
use Rattle.lab_lang.specs.declared.syntax.Line.{Line}

-- within silent steps a run is spent
pub spent_within : {P S : Type 0} (asks : P → S → Asked) (resume : P → S → Replied → S) (next : S → Config P S) (k n : ℕ) (s t : S) (replies : List Replied)
    → k ≤ n → Leads next n s t → run asks resume next k s replies ≡ only Spent
unfolding run
spent_within asks resume next zero n s t replies few leads = refl
spent_within asks resume next (suc k) zero s t replies few leads = absurd (omega arith)
spent_within asks resume next (suc k) (suc n) s t replies few (u, is, leads) =
    ap (λ c. continue asks resume c (run asks resume next k) replies) is ∙ spent_within asks resume next k n u t replies (omega arith) leads

-- a state that owes nothing
abbrev pub at_rest : machine.State → State
at_rest s = record { machine = s; owed = 0 }

-- what is owed is taken in silence
pub owed_leads : (lines : List Line) (layout : List (ℕ × ℕ)) (n : ℕ) (s : machine.State) → Leads (step lines layout) n (record { machine = s; owed = n }) (at_rest s)
owed_leads lines layout zero s = refl
owed_leads lines layout (suc n) s = (record { machine = s; owed = n }, refl, owed_leads lines layout n s)

-- a line that is one instruction goes on as the machine does
pub once_continues : (lines : List Line) (layout : List (ℕ × ℕ)) (c : machine.Config) (k : ℕ) (replies : List Replied)
    → continue asks replied (once c) (run_lines lines layout k) replies ≡ continue machine.request_of machine.resumed c (λ t. run_lines lines layout k (at_rest t)) replies
once_continues lines layout (Runs t) k replies = refl
once_continues lines layout (Over e) k replies = refl
once_continues lines layout (Waits p t) k [] = refl
once_continues lines layout (Waits p t) k (r ∷ replies) = refl
