-- A statement renamed by homes that are accepted does what the statement does.
use Rattle.std.proofs.Common.{◌≡◌, ◌≢◌, inl, inr, ℕ, suc, ◌+◌, ◌*◌, ◌≤◌, Bool, true, false, List, [], ◌∷◌, map, length, Some, None, arith, refl, sym, ap, subst, ◌∙◌}
use Rattle.std.specs.Prelude.{ℤ, ◌%◌, ◌^◌, nat_eq, if◌then◌else◌, slice_get}
use Rattle.pan_base.specs.declared.events.Size.{Size}
use Rattle.pan_base.specs.declared.operators.LOp.{LOp}
use Rattle.pan_base.specs.declared.operators.SOp.{SOp}
use Rattle.pan_base.specs.Events.{Load, Store, Foreign, byte_count}
use Rattle.pan_base.specs.Results.{plus, r_result, i_result, sh_result, l_result, loads, stores}
use Rattle.pan_control.specs.World.{back_in, leaving}
use Rattle.pan_control.specs.Memory.{is_shared, bytes_at}
use Rattle.pan_control.specs.Control.{Normal, Broken, Continued, Returned, Raised, in_turn, with_value, if_not_zero, turns, call, tail_call}
use Rattle.pan_control.specs.Runs.{number, with_reply, foreign}
use Rattle.pan_flow.specs.Flow.{Reads, Writes, Leaves, AtEnd, AtBreak, AtContinue, Flow, Does as Act, Ends as Exits, Then, Either, Loop, Ways, act_first, ways, has, Live}
use Rattle.pan_flow.specs.Functions.{all_in_turn, reads, sets, leaves, calls, asks}
use Rattle.pan_flow.proofs.Ways.{Rest, Next, Test, Turn, after, head_has_turn}
use Rattle.pan_stage.specs.Data.{World, Outcome, Callee, read, write as write_memory, with_read, with_written}
use Rattle.pan_stage.specs.Locals.{Locals, write, write_all}
use Rattle.pan_stage.specs.Programs.{Does, call_from}
use Rattle.pan_stage.specs.Shared.{with_loaded, with_stored}
use Rattle.pan_stage.specs.Toll.{stepped}
use Rattle.pan_stage.specs.declared.program.Handler.{Handler}
use Rattle.pan_stage.proofs.Follows.{Ends, Same, normal, broken, continued, returned, raised, same_as, then_same, choice_same, value_same, where_same, ask_same, turns_same, call_same, tail_same}
use Rattle.pan_stage.proofs.Paid.{Within, Paid, same_globals, no_cuts, paid, left_paid}
use Rattle.pan_stage.proofs.Words.{done, Equal, EqualOf}
use Rattle.word_lang.specs.Meaning.{outcome, run_layer, run}
use Rattle.word_lang.specs.Steps.{passed, test_steps}
use Rattle.word_lang.specs.Text.{variables_read, flow_layer, flow_of}
use Rattle.word_lang.specs.declared.syntax.Test.{Test as WordTest}
use Rattle.word_lang.specs.declared.syntax.Stmt.{Stmt, Stmt-F, roll-Stmt, map-Stmt, fold-roll-Stmt}
use Rattle.word_lang.specs.declared.syntax.Stmt.TheOpen as o
use Rattle.word_lang.specs.declared.syntax.Stmt.TheVariants as s
use Rattle.word_lang.proofs.Equations.{stmt_induct}
use Rattle.reg_alloc.specs.Renamed.{rename_test, rename_layer, rename}
use Rattle.reg_alloc.proofs.Agree.{Agrees, Apart, agrees_within, read_agrees, read_one, read_two, read_at, has_this, has_later, past_read, past_write, past_leave, test_agrees}
use Rattle.reg_alloc.proofs.RenameRules.{rename_roll}

pub map_length : {A B : Type 0} (f : A → B) (xs : List A) → length (map f xs) ≡ length xs
map_length f [] = refl
map_length f (x ∷ xs) = ap suc (map_length f xs)

pub flow_roll : (y : Stmt-F Stmt) → flow_of (roll-Stmt y) ≡ flow_layer (map-Stmt Stmt Flow flow_of y)
unfolding flow_of
flow_roll y = fold-roll-Stmt Flow flow_layer y

pub run_roll : (names : List (List ℕ)) (d : ℕ) (c : Callee (List ℕ) (List ℕ)) (y : Stmt-F Stmt) → run names d c (roll-Stmt y) ≡ run_layer names d c (map-Stmt Stmt Does (run names d c) y)
unfolding run
run_roll names d c y = fold-roll-Stmt Does (run_layer names d c) y

module _ (home : ℕ → ℕ) where
  -- the variables that are live on these ways agree with their homes
  abbrev pub N : Ways → Locals → World → Locals → Type 0
  N from v w u = Agrees home from v u

  -- so at each exit that goes on from there
  abbrev pub R : Rest → Ends (List ℕ) (List ℕ) Locals Locals (List ℕ) (List ℕ)
  R r = paid same_globals no_cuts 1 0 (N (after r AtEnd)) (N (after r AtBreak)) (N (after r AtContinue)) Equal EqualOf

  -- wherever the statement stands with its writes apart from what is live, the second does what the first does
  pub record Stands (f : Flow) (m m' : Does) : Type 0 where
    pub at : (r : Rest) → Apart home f (after r) → (v : Locals) (w : World) (u : Locals) (t : ℕ) → Agrees home (ways f (after r)) v u → Within 1 0 t w → Same (R r) (m v w) (m' u (done t w))

  -- with steps before both
  stepped_stands : (k n : ℕ) (f : Flow) (m m' : Does) → n ≤ k → Stands f m m' → Stands f (λ v w. m v (stepped k w)) (λ u w. m' u (stepped n w))
  stepped_stands k n f m m' l h = record { at = λ r apart v w u t a within. h.at r apart v (stepped k w) u (t + 16 * n) a (omega (arith, l, within)) }

  -- ---- one construct each

  skip_stands : Stands (Exits AtEnd) (λ v w. Normal v w) (λ u w. Normal u w)
  skip_stands = record { at = λ r apart v w u t a within. normal (R r) v w u t (a, within) }

  break_stands : Stands (Exits AtBreak) (λ v w. Broken v w) (λ u w. Broken u w)
  break_stands = record { at = λ r apart v w u t a within. broken (R r) v w u t (a, within) }

  continue_stands : Stands (Exits AtContinue) (λ v w. Continued v w) (λ u w. Continued u w)
  continue_stands = record { at = λ r apart v w u t a within. continued (R r) v w u t (a, within) }

  const_stands : (x n : ℕ) → Stands (Act (Writes (x ∷ []))) (λ v w. Normal (write x n v) w) (λ u w. Normal (write (home x) n u) w)
  const_stands x n = record {
    at = λ r apart v w u t a within.
        normal (R r) (write x n v) w (write (home x) n u) t (past_write home (x ∷ []) (n ∷ []) (after r AtEnd) v u (λ i j ne h l. apart i j ne (h, l)) a, within);
  }

  -- a value is the same where what is read agrees
  abbrev Alike : {A : Type 0} → List ℕ → (Locals → A) → (Locals → A) → Type 1
  Alike xs value value' = (rest : Ways) (v u : Locals) → Agrees home (act_first (Reads xs) rest) v u → value v ≡ value' u

  -- what is written after reads agrees
  written_after : (xs : List ℕ) (x n : ℕ) (r : Rest) → Apart home (sets x xs) (after r) → (v u : Locals) → Agrees home (ways (sets x xs) (after r)) v u → Agrees home (after r AtEnd) (write x n v) (write (home x) n u)
  written_after xs x n r apart v u a = past_write home (x ∷ []) (n ∷ []) (after r AtEnd) v u (λ i j ne h l. apart i j ne (inr (h, l))) (past_read home xs _ v u a)

  set_stands : (xs : List ℕ) (x : ℕ) (value value' : Locals → ℕ) → Alike xs value value' → Stands (sets x xs) (λ v w. Normal (write x (value v) v) w) (λ u w. Normal (write (home x) (value' u) u) w)
  set_stands xs x value value' same = record {
    at = λ r apart v w u t a within.
        normal (R r) (write x (value v) v) w (write (home x) (value' u) u) t
        (subst (λ n. Agrees home (after r AtEnd) (write x (value v) v) (write (home x) n u)) (same _ v u a) (written_after xs x (value v) r apart v u a), within);
  }

  load_stands : (f : LOp) (x a : ℕ) (i : ℤ) → Stands (sets x (a ∷ []))
      (λ v w. with_read (loads f) (plus (v a) i) w (λ n. Normal (write x (l_result f n) v) w)) (λ u w. with_read (loads f) (plus (u (home a)) i) w (λ n. Normal (write (home x) (l_result f n) u) w))
  load_stands f x a i = record {
    at = λ r apart v w u t g within.
        same_as (R r) _ _ (with_read (loads f) (plus (v a) i) (done t w) (λ n. Normal (write (home x) (l_result f n) u) (done t w)))
        (ap (λ b. with_read (loads f) (plus b i) (done t w) (λ n. Normal (write (home x) (l_result f n) u) (done t w))) (sym (read_one home a [] _ v u g)))
        (value_same (R r) (read (loads f) w.globals w.memory (plus (v a) i)) w (done t w) _ _ (λ n is.
        normal (R r) (write x (l_result f n) v) w (write (home x) (l_result f n) u) t (written_after (a ∷ []) x (l_result f n) r apart v u g, within)));
  }

  store_stands : (f : SOp) (x a : ℕ) (i : ℤ) → Stands (reads (a ∷ x ∷ []))
      (λ v w. with_written (stores f) (plus (v a) i) (v x) w (λ w. Normal v w)) (λ u w. with_written (stores f) (plus (u (home a)) i) (u (home x)) w (λ w. Normal u w))
  store_stands f x a i = record {
    at = λ r apart v w u t g within.
        let go : ℕ → ℕ → Outcome Locals (List ℕ) = λ b n. with_written (stores f) (plus b i) n (done t w) (λ w. Normal u w) in
        same_as (R r) _ _ (go (v a) (v x)) (ap (λ b. go b (u (home x))) (sym (read_one home a (x ∷ []) _ v u g)) ∙ ap (go (v a)) (sym (read_two home a x _ v u g)))
        (value_same (R r) (write_memory (stores f) w.globals w.memory (plus (v a) i) (v x)) w (done t w) _ _ (λ d is.
        normal (R r) v (record w { globals = d.0; memory = d.1 }) u t (past_read home (a ∷ x ∷ []) _ v u g, within)));
  }

  shared_load_stands : (size : Size) (x a : ℕ) (i : ℤ) → Stands (sets x (a ∷ []))
      (λ v w. with_loaded size (plus (v a) i) w (λ n w. Normal (write x n v) w)) (λ u w. with_loaded size (plus (u (home a)) i) w (λ n w. Normal (write (home x) n u) w))
  shared_load_stands size x a i = record {
    at = λ r apart v w u t g within.
        let addr = plus (v a) i in
        same_as (R r) _ _ (with_loaded size addr (done t w) (λ n w. Normal (write (home x) n u) w))
        (ap (λ b. with_loaded size (plus b i) (done t w) (λ n w. Normal (write (home x) n u) w)) (sym (read_one home a [] _ v u g)))
        (where_same (R r) (is_shared size addr) w (done t w) _ _
        (ask_same (R r) (Load size addr) w t _ _ within (λ q rs es.
        normal (R r) (write x (number q) v) (record w { replies = rs; trace = es }) (write (home x) (number q) u) t (written_after (a ∷ []) x (number q) r apart v u g, within))));
  }

  shared_store_stands : (size : Size) (x a : ℕ) (i : ℤ) → Stands (reads (a ∷ x ∷ []))
      (λ v w. with_stored size (plus (v a) i) (v x) w (λ w. Normal v w)) (λ u w. with_stored size (plus (u (home a)) i) (u (home x)) w (λ w. Normal u w))
  shared_store_stands size x a i = record {
    at = λ r apart v w u t g within.
        let addr = plus (v a) i in
        let go : ℕ → ℕ → Outcome Locals (List ℕ) = λ b n. with_stored size (plus b i) n (done t w) (λ w. Normal u w) in
        same_as (R r) _ _ (go (v a) (v x)) (ap (λ b. go b (u (home x))) (sym (read_one home a (x ∷ []) _ v u g)) ∙ ap (go (v a)) (sym (read_two home a x _ v u g)))
        (where_same (R r) (is_shared size addr) w (done t w) _ _
        (ask_same (R r) (Store size addr (v x % 2 ^ (8 * byte_count size))) w t _ _ within (λ q rs es.
        normal (R r) v (record w { replies = rs; trace = es }) u t (past_read home (a ∷ x ∷ []) _ v u g, within))));
  }

  choice_stands : (y : WordTest) (f g : Flow) (m n m' n' : Does) → Stands f m m' → Stands g n n' → Stands (Then (reads (variables_read y)) (Either f g))
      (λ v w. if_not_zero (outcome y v) (m v w) (n v w)) (λ u w. if_not_zero (outcome (rename_test home y) u) (m' u w) (n' u w))
  choice_stands y f g m n m' n' hf hg = record {
    at = λ r apart v w u t a within.
        let b = past_read home (variables_read y) _ v u a in
        same_as (R r) _ _ (if_not_zero (outcome y v) (m' u (done t w)) (n' u (done t w)))
        (ap (λ i. if_not_zero i (m' u (done t w)) (n' u (done t w))) (sym (test_agrees home y _ v u a)))
        (choice_same (R r) (outcome y v) _ _ _ _
        (hf.at r (λ i j ne h. apart i j ne (inr (inl h))) v w u t (agrees_within home _ _ v u (λ way m. inl m) b) within)
        (hg.at r (λ i j ne h. apart i j ne (inr (inr h))) v w u t (agrees_within home _ _ v u (λ way m. inr m) b) within));
  }

  loop_stands : (d : ℕ) (y : WordTest) (f g : Flow) (m n m' n' : Does) → Stands f m m' → Stands g n n' → Stands (Loop (Then f (reads (variables_read y))) g)
      (turns d m (λ v w. Some (outcome y v)) n) (turns d m' (λ u w. Some (outcome (rename_test home y) u)) n')
  loop_stands d y f g m n m' n' hf hg = record {
    at = λ r apart v w u t a within.
        let xs = variables_read y in
        let test = Then f (reads xs) in
        let head = ways (Loop test g) (after r) in
        let at_test = Next (reads xs) (Test test g r) in
        turns_same (R r) (Paid 1 0 (N head)) (Paid 1 0 (N (after at_test AtEnd))) (Paid 1 0 (N (ways g (after (Turn test g r))))) d m (λ v w. Some (outcome y v)) n m' (λ u w. Some (outcome (rename_test home y) u)) n' (record {
          first = λ v w u t h. hf.at at_test (λ i j ne h. apart i j ne (inl (inl h))) v w u t (agrees_within home _ _ v u (head_has_turn test g (after r)) h.0) h.1;
          tests = λ v w u t n h is. ap Some (sym (test_agrees home y _ v u h.0)) ∙ is;
          leaves = λ v w u t h. (agrees_within home _ _ v u (λ way m. inl m) (past_read home xs _ v u h.0), h.1);
          begins = λ v w u t n h. (agrees_within home _ _ v u (λ way m. inr m) (past_read home xs _ v u h.0), h.1);
          inner = λ v w u t h. hg.at (Turn test g r) (λ i j ne h. apart i j ne (inr h)) v w u t h.0 h.1;
          spent = λ v w u t h. h.1;
          spent_at_head = λ v w u t h. h.1;
          before_onward = λ w after c. absurd c;
          body_onward = λ w after c. absurd c;
        }) v w u t (a, within);
  }

  return_stands : (xs : List ℕ) → Stands (leaves xs) (λ v w. Returned (map v xs) w) (λ u w. Returned (map u (map home xs)) w)
  return_stands xs = record { at = λ r apart v w u t a within. returned (R r) (map v xs) w (map u (map home xs)) t (sym (read_agrees home xs _ v u a), within) }

  raise_stands : (i : ℕ) (xs : List ℕ) → Stands (leaves xs) (λ v w. Raised i (map v xs) w) (λ u w. Raised i (map u (map home xs)) w)
  raise_stands i xs = record { at = λ r apart v w u t a within. raised (R r) i (map v xs) w (map u (map home xs)) t (sym (read_agrees home xs _ v u a), within) }

  foreign_stands : (names : List (List ℕ)) (i conf conf_len array array_len : ℕ) → Stands (asks (conf ∷ conf_len ∷ array ∷ array_len ∷ []))
      (λ v w. with_value (slice_get names i) w (λ name. foreign i name (v conf) (v conf_len) (v array) (v array_len) v w))
      (λ u w. with_value (slice_get names i) w (λ name. foreign i name (u (home conf)) (u (home conf_len)) (u (home array)) (u (home array_len)) u w))
  foreign_stands names i x y z q = record {
    at = λ r apart v w u t a within.
        let xs : List ℕ = x ∷ y ∷ z ∷ q ∷ [] in
        let w2 = done t w in
        let all : ℕ → ℕ → ℕ → ℕ → Outcome Locals (List ℕ) = λ p pl b bl. with_value (slice_get names i) w2 (λ name. foreign i name p pl b bl u w2) in
        let has_z = has_later x (y ∷ z ∷ q ∷ []) z (has_later y (z ∷ q ∷ []) z (has_this z (q ∷ []))) in
        let has_q = has_later x (y ∷ z ∷ q ∷ []) q (has_later y (z ∷ q ∷ []) q (has_later z (q ∷ []) q (has_this q []))) in
        let left = past_leave home [] [] (after r AtEnd) v u (λ i j ne h l. absurd (none i h)) (past_read home xs _ v u a) in
        same_as (R r) _ _ (all (v x) (v y) (v z) (v q))
        (ap (λ n. all n (u (home y)) (u (home z)) (u (home q))) (sym (read_at home xs x _ v u (has_this x (y ∷ z ∷ q ∷ [])) a)) ∙ ap (λ n. all (v x) n (u (home z)) (u (home q))) (sym (read_at home xs y _ v u (has_later x (y ∷ z ∷ q ∷ []) y (has_this y (z ∷ q ∷ []))) a))
        ∙ ap (λ n. all (v x) (v y) n (u (home q))) (sym (read_at home xs z _ v u has_z a)) ∙ ap (λ n. all (v x) (v y) (v z) n) (sym (read_at home xs q _ v u has_q a)))
        (value_same (R r) (slice_get names i) w w2 _ _ (λ name known.
        value_same (R r) (bytes_at w.memory (v x) (v y)) w w2 _ _ (λ conf is1.
        value_same (R r) (bytes_at w.memory (v z) (v q)) w w2 _ _ (λ array is2.
        ask_same (R r) (Foreign i name conf array) w t _ _ within (λ a rs es.
        normal (R r) v (record w { replies = rs; trace = es; memory = with_reply w.memory (v z) a }) u t (left, within))))));
  }
    where
      none : (i : ℕ) → has [] i ≡ true → ⊥
      none i h = cc h

  -- ---- calls

  module _ (c c' : Callee (List ℕ) (List ℕ)) where
    -- the second's functions do what the first's do
    abbrev pub Follow : Type 0
    Follow = (f : ℕ) (ns : List ℕ) (t : ℕ) (w : World) → Within 1 0 t w → Same (left_paid same_globals no_cuts 1 0 Equal EqualOf) (c f ns w) (c' f ns (done t w))

    call_does : Follow → (r : Rest) (f : ℕ) (ns ms : List ℕ) (w : World) (t : ℕ) (gave : List ℕ → World → Outcome Locals (List ℕ)) (threw : ℕ → List ℕ → World → Outcome Locals (List ℕ)) (gave' : List ℕ → World → Outcome Locals (List ℕ)) (threw' : ℕ → List ℕ → World → Outcome Locals (List ℕ)) → ms ≡ ns → Within 1 0 t w
        → ((x : List ℕ) (w : World) (t : ℕ) → Within 1 0 t w → Same (R r) (gave x w) (gave' x (done t w))) → ((i : ℕ) (x : List ℕ) (w : World) (t : ℕ) → Within 1 0 t w → Same (R r) (threw i x w) (threw' i x (done t w)))
        → Same (R r) (call c f (Some ns) w gave threw) (call c' f (Some ms) (done t w) gave' threw')
    call_does follow r f ns ms w t gave threw gave' threw' e within g h =
        subst (λ ms. Same (R r) (call c f (Some ns) w gave threw) (call c' f (Some ms) (done t w) gave' threw')) (sym e)
        (call_same (R r) (Paid 1 0 Equal) (λ i. Paid 1 0 (EqualOf i)) c c' f ns ns w t gave threw gave' threw' within (λ n. follow f ns t (record w { fuel = n }) within)
        (λ x w' y t q. subst (λ y. Same (R r) (gave x (back_in w w')) (gave' y (done t (back_in w w')))) (sym q.0) (g x (back_in w w') t q.1))
        (λ i x w' y t q. subst (λ y. Same (R r) (threw i x (back_in w w')) (threw' i y (done t (back_in w w')))) (sym q.0) (h i x (back_in w w') t q.1))
        (record { gave_grows = λ w after c. absurd c; threw_grows = λ w after c. absurd c }))

    -- where the call returns
    gives : (k : ℕ) (xs : List ℕ) (r : Rest) (v u : Locals) → ((i j : ℕ) → i ≢ j → has xs i ≡ true → Live (after r AtEnd) j → home i ≢ home j) → Agrees home (act_first (Leaves xs) (after r AtEnd)) v u
        → (ns : List ℕ) (w : World) (t : ℕ) → Within 1 0 t w → Same (R r) (Normal (write_all xs ns v) (stepped (length xs + k) w)) (Normal (write_all (map home xs) ns u) (stepped (length (map home xs) + k) (done t w)))
    gives k xs r v u apart a ns w t within =
        normal (R r) (write_all xs ns v) (stepped (length xs + k) w) (write_all (map home xs) ns u) (t + 16 * (length (map home xs) + k))
        (past_leave home xs ns (after r AtEnd) v u apart a, let e = map_length home xs in omega (arith, e, within))

    call_stands : Follow → (xs : List ℕ) (f : ℕ) (ys : List ℕ) → Stands (calls ys xs None) (λ v w. call_from c f (Some (map v ys)) xs None v w) (λ u w. call_from c' f (Some (map u (map home ys))) (map home xs) None u w)
    call_stands follow xs f ys = record {
      at = λ r apart v w u t a within.
          call_does follow r f (map v ys) (map u (map home ys)) w t _ _ _ _ (sym (read_agrees home ys _ v u a)) within
          (gives 0 xs r v u (λ i j ne h l. apart i j ne (inr (h, l))) (past_read home ys _ v u a))
          (λ i ns w t within. raised (R r) i ns w ns t (refl, within));
    }

    -- an exception is caught by both or by none
    catches : (r : Rest) (b : Bool) (i : ℕ) (ns : List ℕ) (w : World) (t : ℕ) (m m' : Outcome Locals (List ℕ)) → Within 1 0 t w → Same (R r) m m' → Same (R r) (if b then m else Raised i ns (stepped 1 w)) (if b then m' else Raised i ns (stepped 1 (done t w)))
    catches r true i ns w t m m' within h = h
    catches r false i ns w t m m' within h = raised (R r) i ns (stepped 1 w) ns (t + 16) (refl, omega (arith, within))

    caught_call_stands : Follow → (xs : List ℕ) (f : ℕ) (ys : List ℕ) (exception : ℕ) (zs : List ℕ) (g : Flow) (m m' : Does) → Stands g m m'
        → Stands (calls ys xs (Some (record { exception = exception; variables = zs; body = g }))) (λ v w. call_from c f (Some (map v ys)) xs (Some (record { exception = exception; variables = zs; body = m })) v w)
        (λ u w. call_from c' f (Some (map u (map home ys))) (map home xs) (Some (record { exception = exception; variables = map home zs; body = m' })) u w)
    caught_call_stands follow xs f ys exception zs g m m' hg = record {
      at = λ r apart v w u t a within.
          let b = past_read home ys _ v u a in
          call_does follow r f (map v ys) (map u (map home ys)) w t _ _ _ _ (sym (read_agrees home ys _ v u a)) within
          (gives 1 xs r v u (λ i j ne h l. apart i j ne (inr (inl (h, l)))) (agrees_within home _ _ v u (λ way m. inl m) b))
          (λ i ns w t within. catches r (nat_eq i exception) i ns w t _ _ within
          (hg.at r (λ i j ne h. apart i j ne (inr (inr (inr h)))) (write_all zs ns v) (stepped (1 + length zs) w) (write_all (map home zs) ns u) (t + 16 * (1 + length (map home zs)))
          (past_leave home zs ns (ways g (after r)) v u (λ i j ne h l. apart i j ne (inr (inr (inl (h, l))))) (agrees_within home _ _ v u (λ way m. inr m) b)) (let e = map_length home zs in omega (arith, e, within))));
    }

    tail_call_stands : Follow → (f : ℕ) (ys : List ℕ) → Stands (leaves ys) (λ v w. tail_call c f (Some (map v ys)) w) (λ u w. tail_call c' f (Some (map u (map home ys))) w)
    tail_call_stands follow f ys = record {
      at = λ r apart v w u t a within.
          same_as (R r) _ _ (tail_call c' f (Some (map v ys)) (done t w)) (ap (λ ns. tail_call c' f (Some ns) (done t w)) (sym (read_agrees home ys _ v u a)))
          (tail_same (R r) c c' f (map v ys) (map v ys) w t within (λ n. follow f (map v ys) t (leaving (record w { fuel = n })) within));
    }

    -- ---- all of them

    module _ (names : List (List ℕ)) (d : ℕ) where
      abbrev pub IsKept : Stmt → Type 0
      IsKept x = Stands (flow_of x) (run names d c x) (run names d c' (rename home x))

      -- the layer without the claims about its parts
      abbrev parts : Stmt-F ((x : Stmt) × IsKept x) → Stmt-F Stmt
      parts y = map-Stmt ((x : Stmt) × IsKept x) Stmt (λ p. p.0) y

      all_stand : (all : List ((x : Stmt) × IsKept x)) → Stands (all_in_turn (map flow_of (map (λ p. p.0) all))) (in_turn (map (run names d c) (map (λ p. p.0) all))) (in_turn (map (run names d c') (map (rename home) (map (λ p. p.0) all))))
      all_stand [] = record { at = λ r apart v w u t a within. normal (R r) v w u t (a, within) }
      all_stand (p ∷ all) = record {
        at = λ r apart v w u t a within.
            let rest = all_in_turn (map flow_of (map (λ p. p.0) all)) in
            then_same (R r) (Paid 1 0 (N (ways rest (after r)))) (run names d c p.0 v w) (run names d c' (rename home p.0) u (done t w)) _ _
            ((p.1).at (Next rest r) (λ i j ne h. apart i j ne (inl h)) v w u t a within)
            (λ v w u t h. (all_stand all).at r (λ i j ne h. apart i j ne (inr h)) v w u t h.0 h.1) (λ w after c. absurd c);
      }

      -- what a renamed statement does, at its layer, with its own steps
      at_layer : (y : Stmt-F Stmt) (x : Stmt) (f : Flow) (m : Does) → roll-Stmt y ≡ x → Stands f m (run_layer names d c' (map-Stmt Stmt Does (run names d c') y)) → Stands f m (run names d c' x)
      at_layer y x f m is h = subst (Stands f m) (sym (ap (run names d c') (sym is) ∙ run_roll names d c' y)) h

      -- what passes to another function
      passes : (f : Flow) (m m' : Does) (xs : List ℕ) → Stands f m m' → Stands f (λ v w. m v (stepped (passed xs) w)) (λ u w. m' u (stepped (passed (map home xs)) w))
      passes f m m' xs h = stepped_stands (passed xs) (passed (map home xs)) f m m' (let e = map_length home xs in omega (arith, e)) h

      -- one step
      one : (f : Flow) (m m' : Does) → Stands f m m' → Stands f (λ v w. m v (stepped 1 w)) (λ u w. m' u (stepped 1 w))
      one f m m' h = stepped_stands 1 1 f m m' (omega arith) h

      layer_stands : Follow → (y : Stmt-F ((x : Stmt) × IsKept x)) → Stands (flow_layer (map-Stmt Stmt Flow flow_of (parts y))) (run_layer names d c (map-Stmt Stmt Does (run names d c) (parts y))) (run names d c' (rename_layer home (map-Stmt Stmt Stmt (rename home) (parts y))))
      layer_stands follow o.Skip = at_layer o.Skip _ _ _ s.rolls-Skip (stepped_stands 0 0 _ _ _ (omega arith) skip_stands)
      layer_stands follow (o.Seq all) =
          let ss = map (rename home) (map (λ p. p.0) all) in at_layer (o.Seq ss) _ _ _ (s.rolls-Seq ss) (stepped_stands 0 0 _ _ _ (omega arith) (all_stand all))
      layer_stands follow (o.Const x n) = at_layer (o.Const (home x) n) _ _ _ (s.rolls-Const (home x) n) (one _ _ _ (const_stands x n))
      layer_stands follow (o.Reg f x a b) =
          at_layer (o.Reg f (home x) (home a) (home b)) _ _ _ (s.rolls-Reg f (home x) (home a) (home b))
          (one _ _ _ (set_stands (a ∷ b ∷ []) x (λ v. r_result f (v a) (v b)) (λ u. r_result f (u (home a)) (u (home b)))
          (λ rest v u h. ap (λ n. r_result f n (v b)) (read_one home a (b ∷ []) rest v u h) ∙ ap (r_result f (u (home a))) (read_two home a b rest v u h))))
      layer_stands follow (o.Imm f x a i) =
          at_layer (o.Imm f (home x) (home a) i) _ _ _ (s.rolls-Imm f (home x) (home a) i)
          (one _ _ _ (set_stands (a ∷ []) x (λ v. i_result f (v a) i) (λ u. i_result f (u (home a)) i) (λ rest v u h. ap (λ n. i_result f n i) (read_one home a [] rest v u h))))
      layer_stands follow (o.Sh f x a n) =
          at_layer (o.Sh f (home x) (home a) n) _ _ _ (s.rolls-Sh f (home x) (home a) n)
          (one _ _ _ (set_stands (a ∷ []) x (λ v. sh_result f (v a) n) (λ u. sh_result f (u (home a)) n) (λ rest v u h. ap (λ m. sh_result f m n) (read_one home a [] rest v u h))))
      layer_stands follow (o.Load f x a i) = at_layer (o.Load f (home x) (home a) i) _ _ _ (s.rolls-Load f (home x) (home a) i) (one _ _ _ (load_stands f x a i))
      layer_stands follow (o.Store f x a i) = at_layer (o.Store f (home x) (home a) i) _ _ _ (s.rolls-Store f (home x) (home a) i) (one _ _ _ (store_stands f x a i))
      layer_stands follow (o.If y p q) =
          let p' = rename home p.0 in let q' = rename home q.0 in
          at_layer (o.If (rename_test home y) p' q') _ _ _ (s.rolls-If (rename_test home y) p' q') (one _ _ _ (choice_stands y _ _ _ _ _ _ p.1 q.1))
      layer_stands follow (o.While all y q) =
          let ss = map (rename home) (map (λ p. p.0) all) in let q' = rename home q.0 in
          at_layer (o.While ss (rename_test home y) q') _ _ _ (s.rolls-While ss (rename_test home y) q')
          (one _ _ _ (loop_stands d y _ _ _ _ _ _ (stepped_stands test_steps test_steps _ _ _ (omega arith) (all_stand all)) q.1))
      layer_stands follow o.Break = at_layer o.Break _ _ _ s.rolls-Break (one _ _ _ break_stands)
      layer_stands follow o.Continue = at_layer o.Continue _ _ _ s.rolls-Continue (one _ _ _ continue_stands)
      layer_stands follow (o.Call xs f ys None) =
          at_layer (o.Call (map home xs) f (map home ys) None) _ _ _ (s.rolls-Call (map home xs) f (map home ys) None) (passes _ _ _ ys (call_stands follow xs f ys))
      layer_stands follow (o.Call xs f ys (Some h)) =
          let h' : Handler Stmt = record { exception = h.exception; variables = map home h.variables; body = rename home (h.body).0 } in
          at_layer (o.Call (map home xs) f (map home ys) (Some h')) _ _ _ (s.rolls-Call (map home xs) f (map home ys) (Some h'))
          (passes _ _ _ ys (caught_call_stands follow xs f ys h.exception h.variables (flow_of (h.body).0) (run names d c (h.body).0) (run names d c' (rename home (h.body).0)) (h.body).1))
      layer_stands follow (o.TailCall f ys) = at_layer (o.TailCall f (map home ys)) _ _ _ (s.rolls-TailCall f (map home ys)) (passes _ _ _ ys (tail_call_stands follow f ys))
      layer_stands follow (o.Return xs) = at_layer (o.Return (map home xs)) _ _ _ (s.rolls-Return (map home xs)) (passes _ _ _ xs (return_stands xs))
      layer_stands follow (o.Raise i xs) = at_layer (o.Raise i (map home xs)) _ _ _ (s.rolls-Raise i (map home xs)) (passes _ _ _ xs (raise_stands i xs))
      layer_stands follow (o.SharedLoad size x a i) = at_layer (o.SharedLoad size (home x) (home a) i) _ _ _ (s.rolls-SharedLoad size (home x) (home a) i) (one _ _ _ (shared_load_stands size x a i))
      layer_stands follow (o.SharedStore size x a i) = at_layer (o.SharedStore size (home x) (home a) i) _ _ _ (s.rolls-SharedStore size (home x) (home a) i) (one _ _ _ (shared_store_stands size x a i))
      layer_stands follow (o.Foreign i x y z q) =
          at_layer (o.Foreign i (home x) (home y) (home z) (home q)) _ _ _ (s.rolls-Foreign i (home x) (home y) (home z) (home q)) (stepped_stands 4 4 _ _ _ (omega arith) (foreign_stands names i x y z q))

      pub statement_stands : Follow → (x : Stmt) → IsKept x
      statement_stands follow = stmt_induct IsKept (λ y.
          subst (λ f. Stands f (run names d c (roll-Stmt (parts y))) (run names d c' (rename home (roll-Stmt (parts y))))) (sym (flow_roll (parts y)))
          (subst (λ m. Stands (flow_layer (map-Stmt Stmt Flow flow_of (parts y))) m (run names d c' (rename home (roll-Stmt (parts y))))) (sym (run_roll names d c (parts y)))
          (subst (λ x. Stands (flow_layer (map-Stmt Stmt Flow flow_of (parts y))) (run_layer names d c (map-Stmt Stmt Does (run names d c) (parts y))) (run names d c' x)) (sym (rename_roll home (parts y))) (layer_stands follow y))))
