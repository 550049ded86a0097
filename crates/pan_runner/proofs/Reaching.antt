-- The bound on events: no silent step and no unit of fuel raises it, and an answer lowers it.
use Rattle.std.proofs.Common.{◌≡◌, ℕ, zero, suc, ◌+◌, ◌*◌, ◌<◌, ◌≤◌, List, [], ◌∷◌, ◌++◌, length, Option, Some, None, Bool, true, false, refl, arith, max}
use Rattle.std.proofs.Math.Nat.{mul-le-mul_left}
use Rattle.std.specs.Prelude.{nat_eq, if◌then◌else◌, slice_get, ◌%◌}
use Rattle.std.specs.Option.{option_map_or}
use Rattle.pan_control.specs.Memory.{is_shared, bytes_at, with_byte, with_words}
use Rattle.pan_control.specs.Control.{if_not_zero}
use Rattle.pan_tree.specs.Value.{Value, words_in}
use Rattle.source_resolver.specs.Slots.{Variables, into_nothing, value, word, values}
use Rattle.source_resolver.specs.declared.resolved.Stmt.{Stmt, Stmt-F, out-Stmt, map-Stmt}
use Rattle.source_resolver.specs.declared.resolved.Stmt.TheOpen as stmt
use Rattle.source_resolver.specs.declared.resolved.Target.{Target}
use Rattle.source_resolver.specs.declared.resolved.HandlerOf.{HandlerOf}
use Rattle.source_resolver.specs.declared.resolved.Function.{Function}
use Rattle.source_resolver.specs.declared.resolved.Program.{Program}
use Rattle.pan_runner.specs.Machine.{Way, Next, Breaks, Continues, Returns, Raises, Becomes, Doing, Enter, Leave, Frame, Block, Loop, Called, Pending, Config, Runs, Spends, Waits, Over, or_fails, unless_false, ask_foreign, act, begin, enter, catch, leave_frame, leave_main, leave, step}
use Rattle.pan_runner.specs.Weight.{weight, row_weight, frame_weight, frames_weight, config_weight, running_weight}
use Rattle.pan_runner.specs.Ahead.{size_layer, size, row_size, frames_size, bodies_size, reach, ahead}
use Rattle.pan_runner.proofs.Lighter.{either, unless, step_lighter}
use Rattle.pan_runner.proofs.Sizes.{size_out, total_size, row_light, found_size, found_light, found_within}

-- the weight after the unit that it waits for
abbrev heft : Program → Config → ℕ
heft p (Runs d ks m) = running_weight p d ks
heft p (Spends d ks m) = running_weight p d ks
heft p (Waits q u ks m) = config_weight p (Waits q u ks m)
heft p (Over e) = 0

-- the greatest size of its frames
abbrev breadth : Config → ℕ
breadth (Runs d ks m) = frames_size ks
breadth (Spends d ks m) = frames_size ks
breadth (Waits q u ks m) = frames_size ks
breadth (Over e) = 0

-- no heavier, and no wider
record Within (p : Program) (n wide : ℕ) (c : Config) : Type 0 where
  pub light : heft p c ≤ n
  pub narrow : breadth c ≤ wide

module _ (p : Program) where
  over_within : (n wide : ℕ) (e : _) → Within p n wide (Over e)
  over_within n wide e = record { light = omega arith; narrow = omega arith }

  -- a function is entered behind a unit
  entering : (f : ℕ) → Rattle.pan_runner.specs.Weight.body_weight (slice_get p.functions f) ≤ 2 + bodies_size p.functions
  entering f = omega (arith, found_light (slice_get p.functions f), found_within p.functions f)

module _ (names : List (List ℕ)) (p : Program) (u : Variables) (ks : List Frame) (m : List ℕ) (wide : ℕ) (bodies : bodies_size p.functions ≤ wide) (frames : frames_size ks ≤ wide) where
  -- what a statement's first step may come to, from the statement's weight
  abbrev Fine : ℕ → Config → Type 0
  Fine n c = Within p (frames_weight ks + n + 5 + 2 * wide) wide c

  given : {A : Type 0} (n : ℕ) (a : Option A) (next : A → Config) → ((a : A) → Fine n (next a)) → Fine n (or_fails a next)
  given n a next h = either (Fine n) a next (over_within p (frames_weight ks + n + 5 + 2 * wide) wide _) h

  tested : (n : ℕ) (b : Bool) (next : Config) → Fine n next → Fine n (unless_false b next)
  tested n b next h = unless (Fine n) b next (over_within p (frames_weight ks + n + 5 + 2 * wide) wide _) h

  leaves_fine : (n : ℕ) (u : Variables) (m : List ℕ) → Fine n (Runs (Leave (Next u)) ks m)
  leaves_fine n u m = record { light = omega arith; narrow = omega (arith, frames) }

  asks_fine : (n : ℕ) (q : Pending) → Fine n (Waits q u ks m)
  asks_fine n q = record { light = omega arith; narrow = omega (arith, frames) }

  block_fine : (n : ℕ) (b : List Stmt) → row_size b ≤ wide → Fine n (Runs (Leave (Next u)) (Block (length u) b ∷ ks) m)
  block_fine n b le = record { light = omega (arith, row_light b); narrow = omega (arith, frames) }

  choice_fine : (n k : ℕ) (first second : List Stmt) → row_size first ≤ wide → row_size second ≤ wide → Fine n (Runs (Leave (Next u)) (Block (length u) (if_not_zero k first second) ∷ ks) m)
  choice_fine n zero first second le le' = block_fine n second le'
  choice_fine n (suc k) first second le le' = block_fine n first le

  while_fine : (s : Stmt) (k : ℕ) (b : List Stmt) → row_size b ≤ wide → size s ≤ wide → Fine (weight s) (if_not_zero k (Spends (Leave (Next u)) (Block (length u) b ∷ Loop s ∷ ks) m) (Runs (Leave (Next u)) ks m))
  while_fine s zero b le le' = leaves_fine (weight s) u m
  while_fine s (suc k) b le le' = record { light = omega (arith, row_light b); narrow = omega (arith, frames) }

  -- the handler's size
  abbrev handled : Option (HandlerOf (List Stmt)) → ℕ
  handled None = 0
  handled (Some h) = row_size h.body

  call_fine : (n f : ℕ) (xs : List Value) (t : Target) (h : Option (HandlerOf (List Stmt))) → handled h + 2 ≤ wide → Fine n (Spends (Enter f xs) (Called t h u ∷ ks) m)
  call_fine n f xs t None le = record { light = omega (arith, entering p f, bodies); narrow = omega (arith, frames) }
  call_fine n f xs t (Some h) le = record { light = omega (arith, entering p f, bodies, row_light h.body); narrow = omega (arith, frames) }

  tail_fine : (n f : ℕ) (xs : List Value) → Fine n (Spends (Leave (Becomes f xs)) ks m)
  tail_fine n f xs = record { light = omega (arith, entering p f, bodies); narrow = omega (arith, frames) }

  foreign_fine : (n i conf conf_len array array_len : ℕ) → Fine n (ask_foreign names i conf conf_len array array_len u ks m)
  foreign_fine n i conf conf_len array array_len =
      given n (slice_get names i) _ (λ name. given n (bytes_at m conf conf_len) _ (λ c. given n (bytes_at m array array_len) _ (λ a. asks_fine n _)))

  call_size : (t : Target) (f : Option ℕ) (args : List Rattle.source_resolver.specs.declared.resolved.Expr.Expr) (h : Option (HandlerOf (List Stmt))) → size_layer (map-Stmt Stmt ℕ size (stmt.Call (record { into = t; function = f; args = args; handler = h }))) ≡ handled h + 2
  call_size t f args None = refl
  call_size t f args (Some h) = let e = total_size h.body in omega arith

  act_fine : (s : Stmt) (y : Stmt-F Stmt) → size s ≤ wide → size_layer (map-Stmt Stmt ℕ size y) ≤ wide → Fine (weight s) (act names s y u ks m)
  act_fine s stmt.Skip le le' = leaves_fine (weight s) u m
  act_fine s (stmt.Declare e) le le' = given (weight s) (value e u m) _ (λ a. leaves_fine (weight s) _ m)
  act_fine s (stmt.Assign x e) le le' = given (weight s) (value e u m) _ (λ a. leaves_fine (weight s) _ m)
  act_fine s (stmt.StoreWords a e) le le' =
      given (weight s) (word a u m) _ (λ addr. given (weight s) (value e u m) _ (λ x. given (weight s) (with_words m addr (words_in x)) _ (λ m. leaves_fine (weight s) u m)))
  act_fine s (stmt.StoreByte a e) le le' =
      given (weight s) (word a u m) _ (λ addr. given (weight s) (word e u m) _ (λ n. given (weight s) (with_byte m addr (n % 256)) _ (λ m. leaves_fine (weight s) u m)))
  act_fine s (stmt.If e first second) le le' =
      given (weight s) (word e u m) _ (λ n. choice_fine (weight s) n first second (omega (arith, total_size first)) (omega (arith, total_size second)))
  act_fine s (stmt.While e b) le le' = given (weight s) (word e u m) _ (λ n. while_fine s n b (omega (arith, total_size b)) le)
  act_fine s stmt.Break le le' = record { light = omega arith; narrow = omega (arith, frames) }
  act_fine s stmt.Continue le le' = record { light = omega arith; narrow = omega (arith, frames) }
  act_fine s (stmt.Call c) le le' =
      given (weight s) c.function _ (λ f. given (weight s) (values c.args u m) _ (λ xs. call_fine (weight s) f xs c.into c.handler (omega (arith, call_size c.into c.function c.args c.handler))))
  act_fine s (stmt.Return e) le le' = given (weight s) (value e u m) _ (λ a. record { light = omega arith; narrow = omega (arith, frames) })
  act_fine s (stmt.TailCall f args) le le' = given (weight s) f _ (λ f. given (weight s) (values args u m) _ (λ xs. tail_fine (weight s) f xs))
  act_fine s (stmt.Raise x e) le le' = given (weight s) x _ (λ i. given (weight s) (value e u m) _ (λ a. record { light = omega arith; narrow = omega (arith, frames) }))
  act_fine s (stmt.SharedLoad size x a) le le' = given (weight s) (word a u m) _ (λ addr. tested (weight s) (is_shared size addr) _ (asks_fine (weight s) _))
  act_fine s (stmt.SharedStore size a e) le le' =
      given (weight s) (word a u m) _ (λ addr. given (weight s) (word e u m) _ (λ n. tested (weight s) (is_shared size addr) _ (asks_fine (weight s) _)))
  act_fine s (stmt.Foreign name conf conf_len array array_len) le le' =
      given (weight s) name _ (λ i.
      given (weight s) (word conf u m) _ (λ c. given (weight s) (word conf_len u m) _ (λ l.
      given (weight s) (word array u m) _ (λ a. given (weight s) (word array_len u m) _ (λ n. foreign_fine (weight s) i c l a n)))))

  begin_fine : (s : Stmt) → size s ≤ wide → Fine (weight s) (begin names s u ks m)
  unfolding begin
  begin_fine s le = act_fine s (out-Stmt s) le (omega (arith, size_out s))

module _ (names : List (List ℕ)) (p : Program) where
  -- the greatest size of frames and of functions' bodies
  abbrev widest : List Frame → ℕ
  widest ks = max (bodies_size p.functions) (frames_size ks)

  -- a step from frames of this weight
  abbrev Reached : ℕ → List Frame → Config → Type 0
  Reached n ks c = Within p (n + reach p ks) (widest ks) c

  fine_reached : (n n' wide : ℕ) (c : Config) → Within p n wide c → n ≤ n' → Within p n' wide c
  fine_reached n n' wide c f le = record { light = omega (arith, f.light); narrow = f.narrow }

  catch_reached : (t : Target) (h : Option (HandlerOf (List Stmt))) (u v : Variables) (i : ℕ) (a : Value) (ks : List Frame) (m : List ℕ) → Reached (frame_weight (Called t h u) + frames_weight ks) (Called t h u ∷ ks) (catch h v i a ks m)
  catch_reached t None u v i a ks m = record { light = omega arith; narrow = omega arith }
  catch_reached t (Some h) u v i a ks m = by_number (option_map_or (nat_eq i) h.exception false)
    where
      by_number : (b : Bool) → Reached (frame_weight (Called t (Some h) u) + frames_weight ks) (Called t (Some h) u ∷ ks) (if b then Runs (Leave (Next (v ++ a ∷ []))) (Block (length v) h.body ∷ ks) m else Runs (Leave (Raises i a)) ks m)
      by_number true = record { light = omega arith; narrow = omega arith }
      by_number false = record { light = omega arith; narrow = omega arith }

  loop_reached : (s : Stmt) (u : Variables) (ks : List Frame) (m : List ℕ) → Reached (1 + weight s + frames_weight ks) (Loop s ∷ ks) (begin names s u ks m)
  loop_reached s u ks m = fine_reached _ _ _ _ (begin_fine names p u ks m (widest (Loop s ∷ ks)) (omega arith) (omega arith) s (omega arith)) (omega arith)

  block_reached : (s : Stmt) (keep : ℕ) (all : List Stmt) (u : Variables) (ks : List Frame) (m : List ℕ) → Reached (2 + weight s + row_weight all + frames_weight ks) (Block keep (s ∷ all) ∷ ks) (begin names s u (Block keep all ∷ ks) m)
  block_reached s keep all u ks m = fine_reached _ _ _ _ (begin_fine names p u (Block keep all ∷ ks) m (widest (Block keep (s ∷ all) ∷ ks)) (omega arith) (omega arith) s (omega arith)) (omega arith)

  frame_reached : (way : Way) (c : Frame) (ks : List Frame) (m : List ℕ) → Reached (running_weight p (Leave way) (c ∷ ks)) (c ∷ ks) (leave_frame names way c ks m)
  frame_reached (Next u) (Block keep []) ks m = record { light = omega arith; narrow = omega arith }
  frame_reached (Next u) (Block keep (s ∷ all)) ks m = fine_reached _ _ _ _ (block_reached s keep all u ks m) (omega arith)
  frame_reached (Next u) (Loop s) ks m = fine_reached _ _ _ _ (loop_reached s u ks m) (omega arith)
  frame_reached (Next u) (Called t h v) ks m = over_within p _ _ _
  frame_reached (Breaks u) (Block keep all) ks m = record { light = omega arith; narrow = omega arith }
  frame_reached (Breaks u) (Loop s) ks m = record { light = omega arith; narrow = omega arith }
  frame_reached (Breaks u) (Called t h v) ks m = over_within p _ _ _
  frame_reached (Continues u) (Block keep all) ks m = record { light = omega arith; narrow = omega arith }
  frame_reached (Continues u) (Loop s) ks m = fine_reached _ _ _ _ (loop_reached s u ks m) (omega arith)
  frame_reached (Continues u) (Called t h v) ks m = over_within p _ _ _
  frame_reached (Returns a) (Block keep all) ks m = record { light = omega arith; narrow = omega arith }
  frame_reached (Returns a) (Loop s) ks m = record { light = omega arith; narrow = omega arith }
  frame_reached (Returns a) (Called t h v) ks m = record { light = omega arith; narrow = omega arith }
  frame_reached (Raises i a) (Block keep all) ks m = record { light = omega arith; narrow = omega arith }
  frame_reached (Raises i a) (Loop s) ks m = record { light = omega arith; narrow = omega arith }
  frame_reached (Raises i a) (Called t h v) ks m = fine_reached _ _ _ _ (catch_reached t h v (into_nothing t v) i a ks m) (omega arith)
  frame_reached (Becomes f xs) (Block keep all) ks m = record { light = omega arith; narrow = omega arith }
  frame_reached (Becomes f xs) (Loop s) ks m = record { light = omega arith; narrow = omega arith }
  frame_reached (Becomes f xs) (Called t h v) ks m = record { light = omega arith; narrow = omega arith }

  main_reached : (way : Way) (m : List ℕ) → Reached (running_weight p (Leave way) []) [] (leave_main names way m)
  main_reached (Next u) m = over_within p _ _ _
  main_reached (Breaks u) m = over_within p _ _ _
  main_reached (Continues u) m = over_within p _ _ _
  main_reached (Returns a) m = over_within p _ _ _
  main_reached (Raises i a) m = over_within p _ _ _
  main_reached (Becomes f xs) m = record { light = omega arith; narrow = omega arith }

  leave_reached : (way : Way) (ks : List Frame) (m : List ℕ) → Reached (running_weight p (Leave way) ks) ks (leave names way ks m)
  leave_reached way [] m = main_reached way m
  leave_reached way (c ∷ ks) m = frame_reached way c ks m

  enter_reached : (o : Option Function) (xs : List Value) (ks : List Frame) (m : List ℕ) → found_size o ≤ bodies_size p.functions → Reached (1 + Rattle.pan_runner.specs.Weight.body_weight o + frames_weight ks) ks (enter o xs ks m)
  enter_reached None xs ks m le = over_within p _ _ _
  enter_reached (Some f) xs ks m le =
      unless (Reached (1 + (2 + row_weight f.body) + frames_weight ks) ks) (nat_eq (length xs) f.params) _ (over_within p _ _ _) (record { light = omega arith; narrow = omega (arith, le) })

  step_reached : (d : Doing) (ks : List Frame) (m : List ℕ) → Reached (running_weight p d ks) ks (step names p d ks m)
  step_reached (Enter f xs) ks m = enter_reached (slice_get p.functions f) xs ks m (found_within p.functions f)
  step_reached (Leave way) ks m = leave_reached way ks m

  -- ---- the bound

  falls : (d : Doing) (ks : List Frame) (m : List ℕ) (c : Config) → config_weight p c < running_weight p d ks → Reached (running_weight p d ks) ks c → (k : ℕ) → ahead p c k ≤ ahead p (Runs d ks m) k
  falls d ks m (Over e) l r k = omega arith
  falls d ks m (Runs d' ks' m') l r k = let le : k * reach p ks' ≤ k * reach p ks = mul-le-mul_left k (omega (arith, r.narrow)) in omega (arith, le, l)
  falls d ks m (Waits q u ks' m') l r k = let le : k * reach p ks' ≤ k * reach p ks = mul-le-mul_left k (omega (arith, r.narrow)) in omega (arith, le, l)
  falls d ks m (Spends d' ks' m') l r zero = omega arith
  falls d ks m (Spends d' ks' m') l r (suc k) = let le : k * reach p ks' ≤ k * reach p ks = mul-le-mul_left k (omega (arith, r.narrow)) in omega (arith, le, r.light)

  -- a silent step doesn't raise it
  pub step_ahead : (d : Doing) (ks : List Frame) (m : List ℕ) (k : ℕ) → ahead p (step names p d ks m) k ≤ ahead p (Runs d ks m) k
  step_ahead d ks m k = falls d ks m (step names p d ks m) (step_lighter names p d ks m) (step_reached d ks m) k

-- an answer lowers it
pub answer_ahead : (p : Program) (q : Pending) (u u' : Variables) (ks : List Frame) (m m' : List ℕ) (k : ℕ) → ahead p (Runs (Leave (Next u')) ks m') k + 1 ≤ ahead p (Waits q u ks m) k
answer_ahead p q u u' ks m m' k = omega arith
