-- What a runner comes to at its beginning.
use Rattle.std.proofs.Common.{◌≡◌, ℕ, List, [], Option, Some, None, ap, ◌∙◌}
use Rattle.std.specs.Prelude.{IsSome}
use Rattle.pan_base.specs.Events.{Replied}
use Rattle.pan_tree.specs.declared.program.Program.{Program as Source}
use Rattle.pan_tree.specs.Check.{foreign_names}
use Rattle.pan_tree.specs.Meaning.{source}
use Rattle.source_resolver.specs.declared.resolved.Program.{Program}
use Rattle.source_resolver.specs.Slots.{Variables, behaviour}
use Rattle.pan_runner.specs.Machine.{Config, Runs, Enter, or_fails, initial}
use Rattle.pan_runner.specs.View.{config_in, frames_onto, pending_in, ended_in}
use Rattle.pan_runner.specs.Told.{all_told}
use Rattle.pan_runner.specs.declared.phase.Phase.{Phase}
use Rattle.pan_runner.specs.declared.value.Value.{Value}
use Rattle.pan_runner.specs.declared.waiting.Waiting.{Waiting}
use Rattle.pan_runner.specs.Going.{goes}
use Rattle.pan_runner.specs.Runner.{names_in}
use Rattle.pan_runner.proofs.FewNames.{names_are}
use Rattle.pan_runner.proofs.Later.{initial_goes}

pub begins_as : (p : Source) (r : Program) (c : Config) (m : List ℕ) → ((m : List ℕ) (rs : List Replied) (k : ℕ) → behaviour (foreign_names p) r m rs k ≡ (source p m rs k).behaviour) → c ≡ initial r m
    → (rs : List Replied) (k : ℕ) → goes (names_in p) r c [] rs k ≡ (source p m rs k).behaviour
begins_as p r c m means starts rs k =
    ap (λ c. goes (names_in p) r c [] rs k) starts
    ∙ ap (λ names. goes names r (initial r m) [] rs k) (names_are p)
    ∙ initial_goes (foreign_names p) r m rs k
    ∙ means m rs k

-- it neither asks nor has ended
pub begins_running : (r : Program) (c : Config) (m : List ℕ) → IsSome r.main → c ≡ initial r m → (ended_in c ≡ None) × (pending_in c ≡ None)
begins_running r c m main starts = by r.main main starts
  where
    by : (o : Option ℕ) → IsSome o → c ≡ or_fails o (λ f. Runs (Enter f []) [] m) → (ended_in c ≡ None) × (pending_in c ≡ None)
    by None main e = absurd cc
    by (Some f) main e = (ap ended_in e, ap pending_in e)

-- from its parts
pub starts_so : (r : Program) (ph : Phase) (vs : List Value) (fs : List Waiting) (m given : List ℕ) → vs ≡ [] → fs ≡ [] → m ≡ given
    → ((u : Variables) (m : List ℕ) → config_in ph u [] m ≡ or_fails r.main (λ f. Runs (Enter f []) [] m))
    → config_in ph (all_told vs) (frames_onto fs []) m ≡ initial r given
starts_so r ph vs fs m given none empty same begins =
    ap (λ fs. config_in ph (all_told vs) (frames_onto fs []) m) empty ∙ begins (all_told vs) m ∙ ap (λ m. initial r m) same
