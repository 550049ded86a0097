-- Each step that takes no fuel makes the configuration lighter.
use Rattle.std.proofs.Common.{◌≡◌, ℕ, zero, suc, ◌+◌, ◌<◌, List, [], ◌∷◌, ◌++◌, map, length, Option, Some, None, Bool, true, false, refl, sym, ap, ◌∙◌, subst, arith}
use Rattle.std.specs.Prelude.{nat_eq, if◌then◌else◌, slice_get, ◌%◌}
use Rattle.std.specs.Option.{option_map_or}
use Rattle.pan_base.specs.Events.{Fails}
use Rattle.pan_control.specs.Memory.{is_shared, bytes_at, with_byte, with_words}
use Rattle.pan_control.specs.Control.{if_not_zero}
use Rattle.pan_tree.specs.Value.{Value, words_in}
use Rattle.source_resolver.specs.Slots.{Variables, into_nothing, value, word, values}
use Rattle.source_resolver.specs.declared.resolved.Stmt.{Stmt, Stmt-F, out-Stmt, roll-Stmt, map-Stmt, fold-roll-Stmt, roll-out-Stmt}
use Rattle.source_resolver.specs.declared.resolved.Stmt.TheOpen as stmt
use Rattle.source_resolver.specs.declared.resolved.Target.{Target}
use Rattle.source_resolver.specs.declared.resolved.HandlerOf.{HandlerOf}
use Rattle.source_resolver.specs.declared.resolved.Function.{Function}
use Rattle.source_resolver.specs.declared.resolved.Program.{Program}
use Rattle.pan_runner.specs.Machine.{Way, Next, Breaks, Continues, Returns, Raises, Becomes, Doing, Enter, Leave, Frame, Block, Loop, Called, Config, Runs, Spends, Over, or_fails, unless_false, ask_foreign, act, begin, enter, catch, leave_frame, leave_main, leave, step}
use Rattle.pan_runner.specs.Weight.{total, weight_layer, weight, row_weight, frame_weight, frames_weight, body_weight, config_weight, running_weight}

pub weight_roll : (x : Stmt-F Stmt) → weight (roll-Stmt x) ≡ weight_layer (map-Stmt Stmt ℕ weight x)
unfolding weight
weight_roll x = fold-roll-Stmt ℕ weight_layer x

pub weight_out : (s : Stmt) → weight s ≡ weight_layer (map-Stmt Stmt ℕ weight (out-Stmt s))
weight_out s = ap weight (sym (roll-out-Stmt s)) ∙ weight_roll (out-Stmt s)

pub total_row : (all : List Stmt) → total (map weight all) ≡ row_weight all
total_row [] = refl
total_row (s ∷ all) = ap (λ n. 1 + weight s + n) (total_row all)

-- what holds of the end at a failing step and of all that follows a value holds after the value
pub either : {A : Type 0} (P : Config → Type 0) (a : Option A) (next : A → Config) → P (Over Fails) → ((a : A) → P (next a)) → P (or_fails a next)
either P None next f h = f
either P (Some a) next f h = h a

pub unless : (P : Config → Type 0) (b : Bool) (next : Config) → P (Over Fails) → P next → P (unless_false b next)
unless P false next f h = f
unless P true next f h = h

module _ (names : List (List ℕ)) (p : Program) (u : Variables) (ks : List Frame) (m : List ℕ) where
  -- lighter than the statement before its first step
  abbrev Lighter : ℕ → Config → Type 0
  Lighter n c = config_weight p c < 1 + n + frames_weight ks

  choice_lighter : (n : ℕ) (first second : List Stmt) → Lighter (2 + total (map weight first) + total (map weight second)) (Runs (Leave (Next u)) (Block (length u) (if_not_zero n first second) ∷ ks) m)
  choice_lighter zero first second = omega (arith, total_row second)
  choice_lighter (suc n) first second = omega (arith, total_row first)

  while_lighter : (n : ℕ) (b : List Stmt) (s : Stmt) → Lighter 2 (if_not_zero n (Spends (Leave (Next u)) (Block (length u) b ∷ Loop s ∷ ks) m) (Runs (Leave (Next u)) ks m))
  while_lighter zero b s = omega arith
  while_lighter (suc n) b s = omega arith

  -- each of these is, where nothing else is to be looked at
  given : {A : Type 0} (a : Option A) (next : A → Config) → ((a : A) → Lighter 2 (next a)) → Lighter 2 (or_fails a next)
  given a next h = either (Lighter 2) a next (omega arith) h

  foreign_lighter : (i conf conf_len array array_len : ℕ) → Lighter 2 (ask_foreign names i conf conf_len array array_len u ks m)
  foreign_lighter i conf conf_len array array_len =
      given (slice_get names i) _ (λ name. given (bytes_at m conf conf_len) _ (λ c. given (bytes_at m array array_len) _ (λ a. omega arith)))

  -- with the weight of the layer
  layer_lighter : (s : Stmt) (y : Stmt-F Stmt) → Lighter (weight_layer (map-Stmt Stmt ℕ weight y)) (act names s y u ks m)
  layer_lighter s stmt.Skip = omega arith
  layer_lighter s (stmt.Declare e) = given (value e u m) _ (λ a. omega arith)
  layer_lighter s (stmt.Assign x e) = given (value e u m) _ (λ a. omega arith)
  layer_lighter s (stmt.StoreWords a e) = given (word a u m) _ (λ addr. given (value e u m) _ (λ x. given (with_words m addr (words_in x)) _ (λ m. omega arith)))
  layer_lighter s (stmt.StoreByte a e) = given (word a u m) _ (λ addr. given (word e u m) _ (λ n. given (with_byte m addr (n % 256)) _ (λ m. omega arith)))
  layer_lighter s (stmt.If e first second) =
      either (Lighter (2 + total (map weight first) + total (map weight second))) (word e u m) _ (omega arith) (λ n. choice_lighter n first second)
  layer_lighter s (stmt.While e b) = given (word e u m) _ (λ n. while_lighter n b s)
  layer_lighter s stmt.Break = omega arith
  layer_lighter s stmt.Continue = omega arith
  layer_lighter s (stmt.Call c) = given c.function _ (λ f. given (values c.args u m) _ (λ xs. omega arith))
  layer_lighter s (stmt.Return e) = given (value e u m) _ (λ a. omega arith)
  layer_lighter s (stmt.TailCall f args) = given f _ (λ f. given (values args u m) _ (λ xs. omega arith))
  layer_lighter s (stmt.Raise x e) = given x _ (λ i. given (value e u m) _ (λ a. omega arith))
  layer_lighter s (stmt.SharedLoad size x a) = given (word a u m) _ (λ addr. unless (Lighter 2) (is_shared size addr) _ (omega arith) (omega arith))
  layer_lighter s (stmt.SharedStore size a e) = given (word a u m) _ (λ addr. given (word e u m) _ (λ n. unless (Lighter 2) (is_shared size addr) _ (omega arith) (omega arith)))
  layer_lighter s (stmt.Foreign name conf conf_len array array_len) =
      given name _ (λ i.
      given (word conf u m) _ (λ c. given (word conf_len u m) _ (λ l. given (word array u m) _ (λ a. given (word array_len u m) _ (λ n. foreign_lighter i c l a n)))))

  pub begin_lighter : (s : Stmt) → config_weight p (begin names s u ks m) < 1 + weight s + frames_weight ks
  unfolding begin
  begin_lighter s = subst (λ n. config_weight p (act names s (out-Stmt s) u ks m) < 1 + n + frames_weight ks) (sym (weight_out s)) (layer_lighter s (out-Stmt s))

module _ (names : List (List ℕ)) (p : Program) where
  called_some : (t : Target) (h : Option (HandlerOf (List Stmt))) (u : Variables) → 0 < frame_weight (Called t h u)
  called_some t None u = omega arith
  called_some t (Some h) u = omega arith

  catch_lighter : (t : Target) (h : Option (HandlerOf (List Stmt))) (u v : Variables) (i : ℕ) (a : Value) (ks : List Frame) (m : List ℕ) → config_weight p (catch h v i a ks m) < 1 + (frame_weight (Called t h u) + frames_weight ks)
  catch_lighter t None u v i a ks m = omega arith
  catch_lighter t (Some h) u v i a ks m = by_number (option_map_or (nat_eq i) h.exception false)
    where
      by_number : (b : Bool) → config_weight p (if b then Runs (Leave (Next (v ++ a ∷ []))) (Block (length v) h.body ∷ ks) m else Runs (Leave (Raises i a)) ks m) < 1 + (2 + row_weight h.body + frames_weight ks)
      by_number true = omega arith
      by_number false = omega arith

  frame_lighter : (way : Way) (c : Frame) (ks : List Frame) (m : List ℕ) → config_weight p (leave_frame names way c ks m) < running_weight p (Leave way) (c ∷ ks)
  frame_lighter (Next u) (Block keep []) ks m = omega arith
  frame_lighter (Next u) (Block keep (s ∷ all)) ks m = omega (arith, begin_lighter names p u (Block keep all ∷ ks) m s)
  frame_lighter (Next u) (Loop s) ks m = omega (arith, begin_lighter names p u ks m s)
  frame_lighter (Next u) (Called t h v) ks m = omega arith
  frame_lighter (Breaks u) (Block keep all) ks m = omega arith
  frame_lighter (Breaks u) (Loop s) ks m = omega arith
  frame_lighter (Breaks u) (Called t h v) ks m = omega arith
  frame_lighter (Continues u) (Block keep all) ks m = omega arith
  frame_lighter (Continues u) (Loop s) ks m = omega (arith, begin_lighter names p u ks m s)
  frame_lighter (Continues u) (Called t h v) ks m = omega arith
  frame_lighter (Returns a) (Block keep all) ks m = omega arith
  frame_lighter (Returns a) (Loop s) ks m = omega arith
  frame_lighter (Returns a) (Called t h v) ks m = omega (arith, called_some t h v)
  frame_lighter (Raises i a) (Block keep all) ks m = omega arith
  frame_lighter (Raises i a) (Loop s) ks m = omega arith
  frame_lighter (Raises i a) (Called t h v) ks m = omega (arith, catch_lighter t h v (into_nothing t v) i a ks m)
  frame_lighter (Becomes f xs) (Block keep all) ks m = omega arith
  frame_lighter (Becomes f xs) (Loop s) ks m = omega arith
  frame_lighter (Becomes f xs) (Called t h v) ks m = omega arith

  main_lighter : (way : Way) (m : List ℕ) → config_weight p (leave_main names way m) < running_weight p (Leave way) []
  main_lighter (Next u) m = omega arith
  main_lighter (Breaks u) m = omega arith
  main_lighter (Continues u) m = omega arith
  main_lighter (Returns a) m = omega arith
  main_lighter (Raises i a) m = omega arith
  main_lighter (Becomes f xs) m = omega arith

  leave_lighter : (way : Way) (ks : List Frame) (m : List ℕ) → config_weight p (leave names way ks m) < running_weight p (Leave way) ks
  leave_lighter way [] m = main_lighter way m
  leave_lighter way (c ∷ ks) m = frame_lighter way c ks m

  enter_lighter : (o : Option Function) (xs : List Value) (ks : List Frame) (m : List ℕ) → config_weight p (enter o xs ks m) < 1 + body_weight o + frames_weight ks
  enter_lighter None xs ks m = omega arith
  enter_lighter (Some f) xs ks m = unless (λ c. config_weight p c < 1 + (2 + row_weight f.body) + frames_weight ks) (nat_eq (length xs) f.params) _ (omega arith) (omega arith)

  pub step_lighter : (d : Doing) (ks : List Frame) (m : List ℕ) → config_weight p (step names p d ks m) < config_weight p (Runs d ks m)
  step_lighter (Enter f xs) ks m = enter_lighter (slice_get p.functions f) xs ks m
  step_lighter (Leave way) ks m = leave_lighter way ks m
