-- A runner's parts as the definitions see them.
use Rattle.std.specs.Prelude.{◌≡◌, ℕ, ◌+◌, ◌==◌, ◌&&◌, not, nat_le, List, [], ◌∷◌, take, drop, Option, Some, None, unwrap_or, slice_get, Bool, true, false}
use Rattle.std.specs.List.{list_all}
use Rattle.pan_base.specs.Events.{Asked, Ending, Exit, Uncaught, Fails, Stopped, end_of}
use Rattle.pan_base.specs.Words.{base_address}
use Rattle.pan_base.specs.declared.events.End.TheVariants as told_end
use Rattle.pan_port.specs.declared.asker.Pause.{Pause}
use Rattle.pan_port.specs.declared.asker.Pause.TheVariants as pause
use Rattle.source_resolver.specs.Slots.{Variables}
use Rattle.pan_runner.specs.Told.{told, all_told}
use Rattle.pan_runner.specs.Machine.{Next, Breaks, Continues, Returns, Raises, Becomes, Enter, Leave, Frame, Block, Loop, Called, Pending, Loading, Storing, Calling, Config, Runs, Spends, Waits, Over, request_of, step}
use Rattle.source_resolver.specs.declared.resolved.Stmt.{Stmt}
use Rattle.source_resolver.specs.declared.resolved.Stmt.TheVariants as stmt
use Rattle.source_resolver.specs.declared.resolved.Program.{Program}
use Rattle.pan_runner.specs.declared.waiting.Waiting.{Waiting}
use Rattle.pan_runner.specs.declared.waiting.Waiting.TheVariants as waiting
use Rattle.pan_runner.specs.declared.questions.Buffer.{Buffer}
use Rattle.pan_runner.specs.declared.questions.Question.{Question}
use Rattle.pan_runner.specs.declared.questions.Question.TheVariants as question
use Rattle.pan_runner.specs.declared.phase.Ending.{Ending as OwnEnding}
use Rattle.pan_runner.specs.declared.phase.Ending.TheVariants as ending
use Rattle.pan_runner.specs.declared.phase.Phase.{Phase}
use Rattle.pan_runner.specs.declared.phase.Phase.TheVariants as phase

-- ---- frames

-- the statement at an index of a block; one that does nothing where there is none
abbrev pub statement_at : List Stmt → ℕ → Stmt
statement_at b at = unwrap_or (slice_get b at) stmt.Skip

abbrev pub frame_of : Waiting → Frame
frame_of (waiting.Block b next keep) = Block keep (drop next b)
frame_of (waiting.Loop b at) = Loop (statement_at b at)
frame_of (waiting.Called target handler vs) = Called target handler (all_told vs)

-- frames on others; the last of the list comes to stand on top
abbrev pub frames_onto : List Waiting → List Frame → List Frame
frames_onto [] ks = ks
frames_onto (f ∷ fs) ks = frames_onto fs (frame_of f ∷ ks)

-- ---- questions

-- a part of local memory
abbrev pub part : Buffer → List ℕ → List ℕ
part b m = take b.count (drop b.at m)

abbrev pub pending_of : Question → List ℕ → Pending
pending_of (question.Load size place addr) m = Loading size place addr
pending_of (question.Store size addr n) m = Storing size addr n
pending_of (question.Foreign number name conf array) m = Calling number name.now (part conf m) (array.at + base_address) (part array m)

abbrev pub is_inside : Buffer → ℕ → Bool
is_inside b size = nat_le (b.at + b.count) size

abbrev pub is_one_line : List ℕ → Bool
is_one_line name = list_all (λ b. not (b == 10)) name

-- the name of a foreign call has no line feed, and its buffers lie in so many bytes
abbrev pub is_sound : Phase → ℕ → Bool
is_sound (phase.Asks (question.Foreign number name conf array)) size = is_one_line name.now && is_inside conf size && is_inside array size
is_sound _ size = true

-- ---- configurations

abbrev pub ending_of : OwnEnding → Ending
ending_of (ending.Exit n) = Exit n
ending_of (ending.Uncaught i) = Uncaught i
ending_of ending.Fails = Fails

abbrev pub config_in : Phase → Variables → List Frame → List ℕ → Config
config_in (phase.Enter f xs) u ks m = Runs (Enter f (all_told xs)) ks m
config_in (phase.Call f xs) u ks m = Spends (Enter f (all_told xs)) ks m
config_in (phase.TailCall f xs) u ks m = Spends (Leave (Becomes f (all_told xs))) ks m
config_in phase.Turn u ks m = Spends (Leave (Next u)) ks m
config_in phase.Next u ks m = Runs (Leave (Next u)) ks m
config_in phase.Break u ks m = Runs (Leave (Breaks u)) ks m
config_in phase.Continue u ks m = Runs (Leave (Continues u)) ks m
config_in (phase.Return a) u ks m = Runs (Leave (Returns (told a))) ks m
config_in (phase.Raise i a) u ks m = Runs (Leave (Raises i (told a))) ks m
config_in (phase.Become f xs) u ks m = Runs (Leave (Becomes f (all_told xs))) ks m
config_in (phase.Asks q) u ks m = Waits (pending_of q m) u ks m
config_in (phase.Refused q) u ks m = Over (Stopped (request_of (pending_of q m)))
config_in (phase.Ended e) u ks m = Over (ending_of e)

-- one step where it runs
abbrev pub stepped : List (List ℕ) → Program → Config → Config
stepped names p (Runs d ks m) = step names p d ks m
stepped names p (Spends d ks m) = Spends d ks m
stepped names p (Waits q u ks m) = Waits q u ks m
stepped names p (Over e) = Over e

abbrev pub is_running : Config → Bool
is_running (Runs d ks m) = true
is_running _ = false

abbrev pub is_spending : Config → Bool
is_spending (Spends d ks m) = true
is_spending _ = false

-- a unit of fuel is given
abbrev pub fed : Config → Config
fed (Spends d ks m) = Runs d ks m
fed (Runs d ks m) = Runs d ks m
fed (Waits q u ks m) = Waits q u ks m
fed (Over e) = Over e

abbrev pub pending_in : Config → Option Asked
pending_in (Waits q u ks m) = Some (request_of q)
pending_in _ = None

abbrev pub ended_in : Config → Option Ending
ended_in (Over e) = Some e
ended_in _ = None

-- it neither asks nor has ended
abbrev pub IsGoing : Config → Type 0
IsGoing c = (pending_in c ≡ None) × (ended_in c ≡ None)

-- it has not been stopped by a reply
abbrev pub IsUnstopped : Config → Type 0
IsUnstopped (Over (Stopped q)) = ⊥
IsUnstopped _ = Unit {0}

-- why a runner pauses in a phase
abbrev pub PausedAt : Phase → Pause → Type 0
PausedAt (phase.Asks q) why = why ≡ pause.Asks
PausedAt (phase.Refused q) why = why ≡ pause.Ended told_end.Stopped
PausedAt (phase.Ended e) why = why ≡ pause.Ended (end_of (ending_of e))
PausedAt _ why = why ≡ pause.Spent
