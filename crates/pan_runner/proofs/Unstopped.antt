-- No step comes to a stop by a reply.
use Rattle.std.proofs.Common.{◌≡◌, ℕ, zero, suc, List, [], ◌∷◌, ◌++◌, length, Option, Some, None, Bool, true, false}
use Rattle.std.specs.Prelude.{nat_eq, if◌then◌else◌, slice_get, ◌%◌}
use Rattle.std.specs.Option.{option_map_or}
use Rattle.pan_control.specs.Memory.{is_shared, bytes_at, with_byte, with_words}
use Rattle.pan_control.specs.Control.{if_not_zero}
use Rattle.pan_control.specs.Runs.{exit_of}
use Rattle.pan_tree.specs.Value.{Value, word_of, words_in}
use Rattle.source_resolver.specs.Slots.{Variables, into_nothing, value, word, values}
use Rattle.source_resolver.specs.declared.resolved.Stmt.{Stmt, Stmt-F, out-Stmt}
use Rattle.source_resolver.specs.declared.resolved.Stmt.TheOpen as stmt
use Rattle.source_resolver.specs.declared.resolved.HandlerOf.{HandlerOf}
use Rattle.source_resolver.specs.declared.resolved.Function.{Function}
use Rattle.source_resolver.specs.declared.resolved.Program.{Program}
use Rattle.pan_runner.specs.Machine.{Way, Next, Breaks, Continues, Returns, Raises, Becomes, Doing, Enter, Leave, Frame, Block, Loop, Called, Config, Runs, Spends, Waits, Over, or_fails, unless_false, ask_foreign, act, begin, enter, catch, leave_frame, leave_main, leave, step}
use Rattle.pan_runner.specs.View.{stepped, is_running, is_spending, fed, IsUnstopped}
use Rattle.pan_runner.proofs.Lighter.{either, unless}

given : {A : Type 0} (a : Option A) (next : A → Config) → ((a : A) → IsUnstopped (next a)) → IsUnstopped (or_fails a next)
given a next h = either IsUnstopped a next tt h

tested : (b : Bool) (next : Config) → IsUnstopped next → IsUnstopped (unless_false b next)
tested b next h = unless IsUnstopped b next tt h

module _ (names : List (List ℕ)) (u : Variables) (ks : List Frame) (m : List ℕ) where
  while_unstopped : (s : Stmt) (n : ℕ) (b : List Stmt) → IsUnstopped (if_not_zero n (Spends (Leave (Next u)) (Block (length u) b ∷ Loop s ∷ ks) m) (Runs (Leave (Next u)) ks m))
  while_unstopped s zero b = tt
  while_unstopped s (suc n) b = tt

  foreign_unstopped : (i conf conf_len array array_len : ℕ) → IsUnstopped (ask_foreign names i conf conf_len array array_len u ks m)
  foreign_unstopped i conf conf_len array array_len = given (slice_get names i) _ (λ name. given (bytes_at m conf conf_len) _ (λ c. given (bytes_at m array array_len) _ (λ a. tt)))

  act_unstopped : (s : Stmt) (y : Stmt-F Stmt) → IsUnstopped (act names s y u ks m)
  act_unstopped s stmt.Skip = tt
  act_unstopped s (stmt.Declare e) = given (value e u m) _ (λ a. tt)
  act_unstopped s (stmt.Assign x e) = given (value e u m) _ (λ a. tt)
  act_unstopped s (stmt.StoreWords a e) = given (word a u m) _ (λ addr. given (value e u m) _ (λ x. given (with_words m addr (words_in x)) _ (λ m. tt)))
  act_unstopped s (stmt.StoreByte a e) = given (word a u m) _ (λ addr. given (word e u m) _ (λ n. given (with_byte m addr (n % 256)) _ (λ m. tt)))
  act_unstopped s (stmt.If e first second) = given (word e u m) _ (λ n. tt)
  act_unstopped s (stmt.While e b) = given (word e u m) _ (λ n. while_unstopped s n b)
  act_unstopped s stmt.Break = tt
  act_unstopped s stmt.Continue = tt
  act_unstopped s (stmt.Call c) = given c.function _ (λ f. given (values c.args u m) _ (λ xs. tt))
  act_unstopped s (stmt.Return e) = given (value e u m) _ (λ a. tt)
  act_unstopped s (stmt.TailCall f args) = given f _ (λ f. given (values args u m) _ (λ xs. tt))
  act_unstopped s (stmt.Raise x e) = given x _ (λ i. given (value e u m) _ (λ a. tt))
  act_unstopped s (stmt.SharedLoad size x a) = given (word a u m) _ (λ addr. tested (is_shared size addr) _ tt)
  act_unstopped s (stmt.SharedStore size a e) = given (word a u m) _ (λ addr. given (word e u m) _ (λ n. tested (is_shared size addr) _ tt))
  act_unstopped s (stmt.Foreign name conf conf_len array array_len) =
      given name _ (λ i.
      given (word conf u m) _ (λ c. given (word conf_len u m) _ (λ l. given (word array u m) _ (λ a. given (word array_len u m) _ (λ n. foreign_unstopped i c l a n)))))

  begin_unstopped : (s : Stmt) → IsUnstopped (begin names s u ks m)
  unfolding begin
  begin_unstopped s = act_unstopped s (out-Stmt s)

module _ (names : List (List ℕ)) where
  catch_unstopped : (h : Option (HandlerOf (List Stmt))) (v : Variables) (i : ℕ) (a : Value) (ks : List Frame) (m : List ℕ) → IsUnstopped (catch h v i a ks m)
  catch_unstopped None v i a ks m = tt
  catch_unstopped (Some h) v i a ks m = by_number (option_map_or (nat_eq i) h.exception false)
    where
      by_number : (b : Bool) → IsUnstopped (if b then Runs (Leave (Next (v ++ a ∷ []))) (Block (length v) h.body ∷ ks) m else Runs (Leave (Raises i a)) ks m)
      by_number true = tt
      by_number false = tt

  frame_unstopped : (way : Way) (c : Frame) (ks : List Frame) (m : List ℕ) → IsUnstopped (leave_frame names way c ks m)
  frame_unstopped (Next u) (Block keep []) ks m = tt
  frame_unstopped (Next u) (Block keep (s ∷ all)) ks m = begin_unstopped names u (Block keep all ∷ ks) m s
  frame_unstopped (Next u) (Loop s) ks m = begin_unstopped names u ks m s
  frame_unstopped (Next u) (Called t h v) ks m = tt
  frame_unstopped (Breaks u) (Block keep all) ks m = tt
  frame_unstopped (Breaks u) (Loop s) ks m = tt
  frame_unstopped (Breaks u) (Called t h v) ks m = tt
  frame_unstopped (Continues u) (Block keep all) ks m = tt
  frame_unstopped (Continues u) (Loop s) ks m = begin_unstopped names u ks m s
  frame_unstopped (Continues u) (Called t h v) ks m = tt
  frame_unstopped (Returns a) (Block keep all) ks m = tt
  frame_unstopped (Returns a) (Loop s) ks m = tt
  frame_unstopped (Returns a) (Called t h v) ks m = tt
  frame_unstopped (Raises i a) (Block keep all) ks m = tt
  frame_unstopped (Raises i a) (Loop s) ks m = tt
  frame_unstopped (Raises i a) (Called t h v) ks m = catch_unstopped h (into_nothing t v) i a ks m
  frame_unstopped (Becomes f xs) (Block keep all) ks m = tt
  frame_unstopped (Becomes f xs) (Loop s) ks m = tt
  frame_unstopped (Becomes f xs) (Called t h v) ks m = tt

  exit_unstopped : (o : Option ℕ) → IsUnstopped (Over (exit_of o))
  exit_unstopped None = tt
  exit_unstopped (Some n) = tt

  main_unstopped : (way : Way) (m : List ℕ) → IsUnstopped (leave_main names way m)
  main_unstopped (Next u) m = tt
  main_unstopped (Breaks u) m = tt
  main_unstopped (Continues u) m = tt
  main_unstopped (Returns a) m = exit_unstopped (word_of a)
  main_unstopped (Raises i a) m = tt
  main_unstopped (Becomes f xs) m = tt

  leave_unstopped : (way : Way) (ks : List Frame) (m : List ℕ) → IsUnstopped (leave names way ks m)
  leave_unstopped way [] m = main_unstopped way m
  leave_unstopped way (c ∷ ks) m = frame_unstopped way c ks m

  enter_unstopped : (o : Option Function) (xs : List Value) (ks : List Frame) (m : List ℕ) → IsUnstopped (enter o xs ks m)
  enter_unstopped None xs ks m = tt
  enter_unstopped (Some f) xs ks m = tested (nat_eq (length xs) f.params) _ tt

  step_unstopped : (p : Program) (d : Doing) (ks : List Frame) (m : List ℕ) → IsUnstopped (step names p d ks m)
  step_unstopped p (Enter f xs) ks m = enter_unstopped (slice_get p.functions f) xs ks m
  step_unstopped p (Leave way) ks m = leave_unstopped way ks m

pub stepped_unstopped : (names : List (List ℕ)) (p : Program) (c : Config) → is_running c ≡ true → IsUnstopped (stepped names p c)
stepped_unstopped names p (Runs d ks m) is = step_unstopped names p d ks m
stepped_unstopped names p (Spends d ks m) is = absurd (cc)
stepped_unstopped names p (Waits q u ks m) is = absurd (cc)
stepped_unstopped names p (Over e) is = absurd (cc)

pub fed_unstopped : (c : Config) → is_spending c ≡ true → IsUnstopped (fed c)
fed_unstopped (Spends d ks m) is = tt
fed_unstopped (Runs d ks m) is = absurd (cc)
fed_unstopped (Waits q u ks m) is = absurd (cc)
fed_unstopped (Over e) is = absurd (cc)
