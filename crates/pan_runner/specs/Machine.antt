-- The runner as a machine: a way to leave a statement over a stack of frames. It takes a unit of fuel at each call and at each turn of a loop, and counts no costs.
use Rattle.std.specs.Prelude.{ℕ, nat_eq, ◌*◌, ◌%◌, ◌^◌, Bool, true, false, if◌then◌else◌, List, [], ◌∷◌, ◌++◌, length, take, Option, Some, None, slice_get}
use Rattle.std.specs.Option.{option_map_or}
use Rattle.pan_base.specs.declared.events.Size.{Size}
use Rattle.pan_base.specs.Events.{Asked, Load, Store, Foreign, Replied, Ending, Uncaught, Fails, Stopped, byte_count, fits}
use Rattle.pan_control.specs.Memory.{is_shared, bytes_at, with_byte, with_words}
use Rattle.pan_control.specs.Control.{if_not_zero}
use Rattle.pan_control.specs.Runs.{exit_of, number, with_reply}
use Rattle.pan_tree.specs.Value.{Value, Word, word_of, words_in}
use Rattle.source_resolver.specs.Slots.{Variables, assigned, into, into_nothing, value, word, values}
use Rattle.source_resolver.specs.declared.resolved.Stmt.{Stmt, Stmt-F, out-Stmt}
use Rattle.source_resolver.specs.declared.resolved.Stmt.TheOpen as stmt
use Rattle.source_resolver.specs.declared.resolved.Target.{Target}
use Rattle.source_resolver.specs.declared.resolved.HandlerOf.{HandlerOf}
use Rattle.source_resolver.specs.declared.resolved.Function.{Function}
use Rattle.source_resolver.specs.declared.resolved.Program.{Program}

-- How a statement is left: it has ended normally, by a break, by a continue, with a value that the function returns, with an exception, or with
-- the call of a function that takes the place of the running one.
pub data Way : Type 0 where
  Next : Variables → Way
  Breaks : Variables → Way
  Continues : Variables → Way
  Returns : Value → Way
  Raises : ℕ → Value → Way
  Becomes : ℕ → List Value → Way

-- what is done next: the call of a function, or leaving a statement
pub data Doing : Type 0 where
  Enter : ℕ → List Value → Doing
  Leave : Way → Doing

-- What waits for a statement to be left: the statements of a block that are left, with the number of variables that stay when the block is left;
-- a loop, the whole statement; or a call, with where its result goes, what catches its exception, and the caller's variables.
pub data Frame : Type 0 where
  Block : (keep : ℕ) (all : List Stmt) → Frame
  Loop : Stmt → Frame
  Called : (target : Target) (handler : Option (HandlerOf (List Stmt))) (u : Variables) → Frame

-- What is asked: to load a variable from an address, to store a number at one, or a foreign call, whose array stands at an address.
pub data Pending : Type 0 where
  Loading : (size : Size) (place : Option ℕ) (addr : ℕ) → Pending
  Storing : (size : Size) (addr n : ℕ) → Pending
  Calling : (i : ℕ) (name conf : List ℕ) (addr : ℕ) (array : List ℕ) → Pending

-- It runs, on local memory; or goes on as soon as it has a unit of fuel; or waits for a reply, with the variables; or has ended.
pub data Config : Type 0 where
  Runs : Doing → List Frame → List ℕ → Config
  Spends : Doing → List Frame → List ℕ → Config
  Waits : Pending → Variables → List Frame → List ℕ → Config
  Over : Ending → Config

-- goes on with a value, or has failed
abbrev pub or_fails : {A : Type 0} → Option A → (A → Config) → Config
or_fails None go = Over Fails
or_fails (Some a) go = go a

-- goes on where the test holds, or has failed
abbrev pub unless_false : Bool → Config → Config
unless_false false c = Over Fails
unless_false true c = c

-- an exception that leaves a call is caught, or goes on, with the caller's variables
abbrev pub catch : Option (HandlerOf (List Stmt)) → Variables → ℕ → Value → List Frame → List ℕ → Config
catch None u i a ks m = Runs (Leave (Raises i a)) ks m
catch (Some h) u i a ks m = if option_map_or (nat_eq i) h.exception false then Runs (Leave (Next (u ++ a ∷ []))) (Block (length u) h.body ∷ ks) m else Runs (Leave (Raises i a)) ks m

-- a function is entered, if there is such a one and the arguments are as many as its parameters
abbrev pub enter : Option Function → List Value → List Frame → List ℕ → Config
enter None xs ks m = Over Fails
enter (Some f) xs ks m = unless_false (nat_eq (length xs) f.params) (Runs (Leave (Next xs)) (Block 0 f.body ∷ ks) m)

-- with the foreign names of the program
module _ (names : List (List ℕ)) where
  -- a foreign call asks
  abbrev pub ask_foreign : ℕ → ℕ → ℕ → ℕ → ℕ → Variables → List Frame → List ℕ → Config
  ask_foreign i conf conf_len array array_len u ks m =
      or_fails (slice_get names i) (λ name. or_fails (bytes_at m conf conf_len) (λ c. or_fails (bytes_at m array array_len) (λ a. Waits (Calling i name c array a) u ks m)))

  -- a statement's first step, from the statement and its layer
  abbrev pub act : Stmt → Stmt-F Stmt → Variables → List Frame → List ℕ → Config
  act s stmt.Skip u ks m = Runs (Leave (Next u)) ks m
  act s (stmt.Declare e) u ks m = or_fails (value e u m) (λ a. Runs (Leave (Next (u ++ a ∷ []))) ks m)
  act s (stmt.Assign place e) u ks m = or_fails (value e u m) (λ a. Runs (Leave (Next (assigned place a u))) ks m)
  act s (stmt.StoreWords a e) u ks m =
      or_fails (word a u m) (λ addr. or_fails (value e u m) (λ x. or_fails (with_words m addr (words_in x)) (λ m'. Runs (Leave (Next u)) ks m')))
  act s (stmt.StoreByte a e) u ks m =
      or_fails (word a u m) (λ addr. or_fails (word e u m) (λ n. or_fails (with_byte m addr (n % 256)) (λ m'. Runs (Leave (Next u)) ks m')))
  act s (stmt.If e first second) u ks m = or_fails (word e u m) (λ n. Runs (Leave (Next u)) (Block (length u) (if_not_zero n first second) ∷ ks) m)
  act s (stmt.While e b) u ks m =
      or_fails (word e u m) (λ n. if_not_zero n (Spends (Leave (Next u)) (Block (length u) b ∷ Loop s ∷ ks) m) (Runs (Leave (Next u)) ks m))
  act s stmt.Break u ks m = Runs (Leave (Breaks u)) ks m
  act s stmt.Continue u ks m = Runs (Leave (Continues u)) ks m
  act s (stmt.Call c) u ks m = or_fails c.function (λ f. or_fails (values c.args u m) (λ xs. Spends (Enter f xs) (Called c.into c.handler u ∷ ks) m))
  act s (stmt.Return e) u ks m = or_fails (value e u m) (λ a. Runs (Leave (Returns a)) ks m)
  act s (stmt.TailCall function args) u ks m = or_fails function (λ f. or_fails (values args u m) (λ xs. Spends (Leave (Becomes f xs)) ks m))
  act s (stmt.Raise exception e) u ks m = or_fails exception (λ i. or_fails (value e u m) (λ a. Runs (Leave (Raises i a)) ks m))
  act s (stmt.SharedLoad size place a) u ks m = or_fails (word a u m) (λ addr. unless_false (is_shared size addr) (Waits (Loading size place addr) u ks m))
  act s (stmt.SharedStore size a e) u ks m =
      or_fails (word a u m) (λ addr. or_fails (word e u m) (λ n.
      unless_false (is_shared size addr) (Waits (Storing size addr (n % 2 ^ (8 * byte_count size))) u ks m)))
  act s (stmt.Foreign name conf conf_len array array_len) u ks m =
      or_fails name (λ i.
      or_fails (word conf u m) (λ c. or_fails (word conf_len u m) (λ l.
      or_fails (word array u m) (λ a. or_fails (word array_len u m) (λ n. ask_foreign i c l a n u ks m)))))

  -- a statement's first step
  unfoldable pub begin : Stmt → Variables → List Frame → List ℕ → Config
  begin s u ks m = act s (out-Stmt s) u ks m

  -- a statement is left in this way, under a frame
  abbrev pub leave_frame : Way → Frame → List Frame → List ℕ → Config
  leave_frame (Next u) (Block keep []) ks m = Runs (Leave (Next (take keep u))) ks m
  leave_frame (Next u) (Block keep (s ∷ all)) ks m = begin s u (Block keep all ∷ ks) m
  leave_frame (Next u) (Loop s) ks m = begin s u ks m
  leave_frame (Next u) (Called t h v) ks m = Over Fails
  leave_frame (Breaks u) (Block keep all) ks m = Runs (Leave (Breaks (take keep u))) ks m
  leave_frame (Breaks u) (Loop s) ks m = Runs (Leave (Next u)) ks m
  leave_frame (Breaks u) (Called t h v) ks m = Over Fails
  leave_frame (Continues u) (Block keep all) ks m = Runs (Leave (Continues (take keep u))) ks m
  leave_frame (Continues u) (Loop s) ks m = begin s u ks m
  leave_frame (Continues u) (Called t h v) ks m = Over Fails
  leave_frame (Returns a) (Block keep all) ks m = Runs (Leave (Returns a)) ks m
  leave_frame (Returns a) (Loop s) ks m = Runs (Leave (Returns a)) ks m
  leave_frame (Returns a) (Called t h v) ks m = Runs (Leave (Next (into t a v))) ks m
  leave_frame (Raises i a) (Block keep all) ks m = Runs (Leave (Raises i a)) ks m
  leave_frame (Raises i a) (Loop s) ks m = Runs (Leave (Raises i a)) ks m
  leave_frame (Raises i a) (Called t h v) ks m = catch h (into_nothing t v) i a ks m
  leave_frame (Becomes f xs) (Block keep all) ks m = Runs (Leave (Becomes f xs)) ks m
  leave_frame (Becomes f xs) (Loop s) ks m = Runs (Leave (Becomes f xs)) ks m
  leave_frame (Becomes f xs) (Called t h v) ks m = Runs (Enter f xs) (Called t h v ∷ ks) m

  -- `main` is left in this way
  abbrev pub leave_main : Way → List ℕ → Config
  leave_main (Next u) m = Over Fails
  leave_main (Breaks u) m = Over Fails
  leave_main (Continues u) m = Over Fails
  leave_main (Returns a) m = Over (exit_of (word_of a))
  leave_main (Raises i a) m = Over (Uncaught i)
  leave_main (Becomes f xs) m = Runs (Enter f xs) [] m

  -- a statement is left in this way
  abbrev pub leave : Way → List Frame → List ℕ → Config
  leave way [] m = leave_main way m
  leave way (k ∷ ks) m = leave_frame way k ks m

  -- one step, which takes no fuel
  abbrev pub step : Program → Doing → List Frame → List ℕ → Config
  step p (Enter f xs) ks m = enter (slice_get p.functions f) xs ks m
  step p (Leave way) ks m = leave way ks m

-- the beginning, on this local memory
abbrev pub initial : Program → List ℕ → Config
initial p m = or_fails p.main (λ f. Runs (Enter f []) [] m)

-- ---- requests

-- what is asked for
abbrev pub request_of : Pending → Asked
request_of (Loading size place addr) = Load size addr
request_of (Storing size addr n) = Store size addr n
request_of (Calling i name conf addr array) = Foreign i name conf array

-- the variables after a reply
abbrev pub variables_after : Pending → Replied → Variables → Variables
variables_after (Loading size place addr) r u = assigned place (Word (number r)) u
variables_after (Storing size addr n) r u = u
variables_after (Calling i name conf addr array) r u = u

-- local memory after a reply
abbrev pub memory_after : Pending → Replied → List ℕ → List ℕ
memory_after (Loading size place addr) r m = m
memory_after (Storing size addr n) r m = m
memory_after (Calling i name conf addr array) r m = with_reply m addr r

-- goes on with a reply that fits
abbrev pub where_fits : {A : Type 0} → Bool → A → A → A
where_fits true a b = a
where_fits false a b = b

-- after a reply
abbrev pub replied_config : Pending → Variables → List Frame → List ℕ → Replied → Config
replied_config q u ks m r = where_fits (fits (request_of q) r) (Runs (Leave (Next (variables_after q r u))) ks (memory_after q r m)) (Over (Stopped (request_of q)))
