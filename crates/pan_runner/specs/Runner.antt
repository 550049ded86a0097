-- What a runner means.
use Rattle.std.specs.Prelude.{◌≡◌, ◌⊎◌, ℕ, ◌+◌, ◌≤◌, List, [], length, Bool, false, true}
use Rattle.pan_base.specs.Events.{Replied}
use Rattle.pan_port.specs.Asker.{Meaning}
use Rattle.pan_tree.specs.declared.program.Program.{Program as Source}
use Rattle.pan_tree.specs.Check.{foreign_names}
use Rattle.source_resolver.specs.Slots.{Variables}
use Rattle.pan_runner.specs.Told.{all_told}
use Rattle.source_resolver.specs.declared.resolved.Stmt.{Stmt}
use Rattle.source_resolver.specs.declared.resolved.Program.{Program}
use Rattle.pan_runner.specs.declared.runner.Runner.{Runner}
use Rattle.pan_runner.specs.Machine.{Frame, Config, begin, leave}
use Rattle.pan_runner.specs.Machine as machine
use Rattle.pan_runner.specs.Going.{goes}
use Rattle.pan_runner.specs.Ahead.{ahead}
use Rattle.pan_runner.specs.View.{frames_onto, config_in, pending_in, ended_in, is_running, is_spending, IsGoing, IsUnstopped}

-- the foreign names of a program, folded
unfoldable pub names_in : Source → List (List ℕ)
names_in p = foreign_names p

abbrev pub names_of : Runner → List (List ℕ)
names_of r = names_in r.checked.now

abbrev pub variables_of : Runner → Variables
variables_of r = all_told r.variables

abbrev pub frames_of : Runner → List Frame
frames_of r = frames_onto r.frames []

abbrev pub config_of : Runner → Config
config_of r = config_in r.phase (variables_of r) (frames_of r) r.memory

-- a statement's first step, from where a runner is
abbrev pub begins : Runner → Stmt → Config
begins r s = begin (names_of r) s (variables_of r) (frames_of r) r.memory

-- a statement is left in this way, where a runner is
abbrev pub leaves : Runner → machine.Way → Config
leaves r way = leave (names_of r) way (frames_of r) r.memory

-- what a configuration of a program means, with so many bytes of local memory
abbrev pub meaning_in : List (List ℕ) → Program → Config → ℕ → Bool → Meaning
meaning_in names p c size starved = record {
  go = λ replies k. goes names p c [] replies k;
  ahead = λ k. ahead p c k;
  pending = pending_in c;
  ended = ended_in c;
  size = size;
  frugal = false;
  starved = starved;
}

abbrev pub meaning_of : Runner → Meaning
meaning_of r = meaning_in (names_of r) r.program (config_of r) (length r.memory) r.starved

-- what no step changes
pub record Keeps (old new : Runner) : Type 0 where
  pub checked : new.checked ≡ old.checked
  pub program : new.program ≡ old.program
  pub size : length new.memory ≡ length old.memory
  pub starved : new.starved ≡ old.starved

-- the same, and the phase, the variables and memory
pub record KeepsAll (old new : Runner) : Type 0 where
  pub checked : new.checked ≡ old.checked
  pub program : new.program ≡ old.program
  pub phase : new.phase ≡ old.phase
  pub variables : new.variables ≡ old.variables
  pub memory : new.memory ≡ old.memory
  pub starved : new.starved ≡ old.starved

-- the old one does in so many units, and more, what the new one does in those
abbrev pub GoesOn : Runner → Runner → ℕ → Type 0
GoesOn old new used = (replies : List Replied) (k : ℕ) → (meaning_of old).go replies (used + k) ≡ (meaning_of new).go replies k

-- the bound on the events of the new one is within that of the old
abbrev pub IsBounded : Runner → Runner → ℕ → Type 0
IsBounded old new used = (k : ℕ) → (meaning_of new).ahead k ≤ (meaning_of old).ahead (used + k)

-- one that asked or had ended stays as it is, and one that went on was not stopped by a reply
abbrev pub ComesFrom : Runner → Runner → ℕ → Type 0
ComesFrom old new used = ((new ≡ old) × (used ≡ 0)) ⊎ (IsGoing (config_of old) × IsUnstopped (config_of new))

-- steps that cost no fuel were taken until none was left
pub record Settled (old new : Runner) : Type 0 where
  pub keeps : Keeps old new
  pub goes : GoesOn old new 0
  pub bound : IsBounded old new 0
  pub origin : ComesFrom old new 0
  pub still : is_running (config_of new) ≡ false

-- so many units of the budget were used
pub record Went (old new : Runner) (budget used : ℕ) : Type 0 where
  pub within : used ≤ budget
  pub keeps : Keeps old new
  pub goes : GoesOn old new used
  pub bound : IsBounded old new used
  pub origin : ComesFrom old new used
  pub still : is_running (config_of new) ≡ false
  pub spent : is_spending (config_of new) ≡ true → used ≡ budget
