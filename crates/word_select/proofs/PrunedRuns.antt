-- What is left of a statement does what the statement does, where variables are the same wherever they are used.
use Rattle.std.proofs.Common.{◌≡◌, ℕ, ◌+◌, ◌*◌, Bool, true, false, List, [], ◌∷◌, ◌++◌, map, length, Some, None, arith, refl, sym, ap, subst, ◌∙◌}
use Rattle.std.specs.Prelude.{ℤ, ◌%◌, ◌^◌, nat_eq, if◌then◌else◌, flat_map, slice_get}
use Rattle.pan_base.specs.declared.operators.LOp.{LOp}
use Rattle.pan_base.specs.Events.{Load, Store, Foreign, byte_count}
use Rattle.pan_base.specs.Results.{plus, r_result, i_result, sh_result, l_result, loads, stores}
use Rattle.pan_control.specs.World.{back_in, leaving}
use Rattle.pan_control.specs.Memory.{is_shared, bytes_at}
use Rattle.pan_control.specs.Control.{Normal, Raised, and_then, in_turn, with_value, if_not_zero, call, tail_call}
use Rattle.pan_control.specs.Runs.{number, with_reply, foreign}
use Rattle.pan_stage.specs.Data.{World, Outcome, Callee, read, with_read, with_written}
use Rattle.pan_stage.specs.Data as data_memory
use Rattle.pan_stage.specs.Locals.{Locals, write, write_all}
use Rattle.pan_stage.specs.Programs.{Does, caught}
use Rattle.pan_stage.specs.Shared.{with_loaded, with_stored}
use Rattle.pan_stage.specs.Toll.{stepped}
use Rattle.pan_stage.specs.declared.program.Handler.{Handler}
use Rattle.pan_stage.proofs.Follows.{Ends, Same, normal, broken, continued, returned, raised, same_as, then_same, choice_same, with_same, value_same, where_same, ask_same, call_same, tail_same}
use Rattle.pan_stage.proofs.Paid.{Within, Paid, same_globals, no_cuts, paid, left_paid}
use Rattle.pan_stage.proofs.Rows.{in_turn_append, then_normal}
use Rattle.pan_stage.proofs.Turning.{as_zero, turns_both}
use Rattle.pan_stage.proofs.Words.{done, Equal, EqualOf}
use Rattle.word_lang.specs.Meaning.{outcome, run}
use Rattle.word_lang.specs.Steps.{passed, test_steps}
use Rattle.word_lang.specs.Text.{variables_read}
use Rattle.word_lang.specs.declared.syntax.Test.{Test}
use Rattle.word_lang.specs.declared.syntax.Stmt.{Stmt}
use Rattle.word_lang.specs.declared.syntax.Stmt.TheVariants as s
use Rattle.word_lang.proofs.Equations.{run_skip, run_seq, run_const, run_reg, run_imm, run_sh, run_load, run_store, run_if, run_while, run_break, run_continue, run_call, run_tail_call, run_return, run_raise, run_shared_load, run_shared_store, run_foreign}
use Rattle.word_select.specs.Pruned.{others, used, where_used, pruned, pruned_row}
use Rattle.word_select.proofs.Above.{has_here, has_there, has_left, has_right}
use Rattle.word_select.proofs.Alike.{AreUsed, operands_used, Alike, alike_write, alike_write_all, alike_without, alike_map, outcome_alike}
use Rattle.word_select.proofs.PruneRules as left
use Rattle.word_select.proofs.UsedRules as uses
use Rattle.word_select.proofs.Variants.{plain, Cases, by_cases}

map_append : {A B : Type 0} (f : A → B) (xs ys : List A) → map f (xs ++ ys) ≡ map f xs ++ map f ys
map_append f [] ys = refl
map_append f (x ∷ xs) ys = ap (λ zs. f x ∷ zs) (map_append f xs ys)

module _ (names : List (List ℕ)) (d : ℕ) (callee callee' : Callee (List ℕ) (List ℕ)) (is_used : ℕ → Bool) where
  -- the variables that are used have the same words
  abbrev pub N : Locals → World → Locals → Type 0
  N v w u = Alike is_used v u

  abbrev pub R : Ends (List ℕ) (List ℕ) Locals Locals (List ℕ) (List ℕ)
  R = paid same_globals no_cuts 1 0 N N N Equal EqualOf

  abbrev pub Follow : Type 0
  Follow = (f : ℕ) (ns : List ℕ) (t : ℕ) (w : World) → Within 1 0 t w → Same (left_paid same_globals no_cuts 1 0 Equal EqualOf) (callee f ns w) (callee' f ns (done t w))

  abbrev pub first : Stmt → Does
  first = run names d callee

  abbrev pub second : Stmt → Does
  second = run names d callee'

  abbrev pub rows : List Stmt → Does
  rows ss = in_turn (map second ss)

  -- both in other words
  both_as : (o o1 o' o1' : Outcome Locals (List ℕ)) → o ≡ o1 → o' ≡ o1' → Same R o1 o1' → Same R o o'
  both_as o o1 o' o1' e e' h = same_as R o o' o1' e' (subst (λ o. Same R o o1') (sym e) h)

  one_row : (x : Stmt) (u : Locals) (w : World) → rows (x ∷ []) u w ≡ second x u w
  one_row x u w = then_normal (second x u w)

  pub seq_row : (ss : List Stmt) (u : Locals) (t : ℕ) (w : World) → second (s.Seq ss) u (done t w) ≡ rows ss u (done t w)
  seq_row ss u t w = run_seq names d callee' ss u (done t w) ∙ ap (λ n. rows ss u (done n w)) (omega arith)

  abbrev pub Means : Stmt → Type 0
  Means x = AreUsed is_used (used x) → (v u : Locals) (t : ℕ) (w : World) → Alike is_used v u → Within 1 0 t w → Same R (first x v w) (rows (pruned is_used x) u (done t w))

  -- by what is left of it, and by what it uses
  by_rows : (x : Stmt) (ss : List Stmt) (xs : List ℕ) → pruned is_used x ≡ ss → used x ≡ xs
      → (AreUsed is_used xs → (v u : Locals) (t : ℕ) (w : World) → Alike is_used v u → Within 1 0 t w → Same R (first x v w) (rows ss u (done t w))) → Means x
  by_rows x ss xs e e2 h all v u t w a within =
      same_as R _ _ (rows ss u (done t w)) (ap (λ ss. rows ss u (done t w)) e) (h (subst (AreUsed is_used) e2 all) v u t w a within)

  -- a statement that stays as it is, by what both do
  kept : (x : Stmt) (xs : List ℕ) (m m' : Does) → pruned is_used x ≡ x ∷ [] → used x ≡ xs → ((v : Locals) (w : World) → first x v w ≡ m v w) → ((u : Locals) (w : World) → second x u w ≡ m' u w)
      → (AreUsed is_used xs → (v u : Locals) (t : ℕ) (w : World) → Alike is_used v u → Within 1 0 t w → Same R (m v w) (m' u (done t w))) → Means x
  kept x xs m m' e e2 f g h = by_rows x (x ∷ []) xs e e2 (λ all v u t w a within. both_as _ _ _ _ (f v w) (one_row x u (done t w) ∙ g u (done t w)) (h all v u t w a within))

  -- ---- operations

  -- one that gives x a word, which is the same in both where x is used
  computed : (x n m : ℕ) (stmt : Stmt) (v u : Locals) (t : ℕ) (w : World) (b : Bool) → is_used x ≡ b → first stmt v w ≡ Normal (write x n v) (stepped 1 w) → second stmt u (done t w) ≡ Normal (write x m u) (done (t + 16) w)
      → (is_used x ≡ true → m ≡ n) → Alike is_used v u → Within 1 0 t w → Same R (first stmt v w) (rows (if b then stmt ∷ [] else []) u (done t w))
  computed x n m stmt v u t w true is f g e a within =
      both_as _ _ _ _ f (one_row stmt u (done t w) ∙ g) (normal R (write x n v) (stepped 1 w) (write x m u) (t + 16) (alike_write is_used x n m v u e a, omega (arith, within)))
  computed x n m stmt v u t w false is f g e a within =
      both_as _ _ _ _ f refl (normal R (write x n v) (stepped 1 w) u t (alike_without is_used x n v u is a, omega (arith, within)))

  -- the same of a load, which may fail
  loaded : (f : LOp) (x y : ℕ) (i : ℤ) (v u : Locals) (t : ℕ) (w : World) (b : Bool) → is_used x ≡ b → (is_used x ≡ true → u y ≡ v y) → Alike is_used v u → Within 1 0 t w
      → Same R (first (s.Load f x y i) v w) (rows (if b then s.Load f x y i ∷ [] else []) u (done t w))
  loaded f x y i v u t w true is e a within =
      let go : ℕ → Outcome Locals (List ℕ) = λ base. with_read (loads f) (plus base i) (done (t + 16) w) (λ n. Normal (write x (l_result f n) u) (done (t + 16) w)) in
      both_as _ _ _ (go (v y)) (run_load names d callee f x y i v w) (one_row (s.Load f x y i) u (done t w) ∙ run_load names d callee' f x y i u (done t w) ∙ ap go (e is))
      (value_same R (read (loads f) w.globals w.memory (plus (v y) i)) (stepped 1 w) (done (t + 16) w) _ _ (λ n k.
      normal R (write x (l_result f n) v) (stepped 1 w) (write x (l_result f n) u) (t + 16) (alike_write is_used x (l_result f n) (l_result f n) v u (λ h. refl) a, omega (arith, within))))
  loaded f x y i v u t w false is e a within =
      both_as _ _ _ _ (run_load names d callee f x y i v w) refl
      (with_same R (read (loads f) w.globals w.memory (plus (v y) i)) (stepped 1 w) _ _ (λ n k.
      normal R (write x (l_result f n) v) (stepped 1 w) u t (alike_without is_used x (l_result f n) v u is a, omega (arith, within))))

  -- ---- rows

  rows_mean : (all : List ((x : Stmt) × Means x)) → AreUsed is_used (flat_map (λ xs. xs) (map used (plain all))) → (v u : Locals) (t : ℕ) (w : World) → Alike is_used v u → Within 1 0 t w
      → Same R (in_turn (map first (plain all)) v w) (rows (pruned_row is_used (plain all)) u (done t w))
  rows_mean [] all v u t w a within = normal R v w u t (a, within)
  rows_mean (p ∷ ps) all v u t w a within =
      let rest = pruned_row is_used (plain ps) in
      same_as R _ _ (and_then (rows (pruned is_used p.0) u (done t w)) (rows rest))
      (ap (λ ms. in_turn ms u (done t w)) (map_append second (pruned is_used p.0) rest) ∙ in_turn_append (map second (pruned is_used p.0)) (map second rest) u (done t w))
      (then_same R (Paid 1 0 N) (first p.0 v w) (rows (pruned is_used p.0) u (done t w)) _ _
      (p.1 (λ z h. all z (has_left (used p.0) (flat_map (λ xs. xs) (map used (plain ps))) z h)) v u t w a within)
      (λ v w u t h. rows_mean ps (λ z h. all z (has_right (used p.0) (flat_map (λ xs. xs) (map used (plain ps))) z h)) v u t w h.0 h.1) (λ w after c. absurd c))

  -- ---- calls

  call_does : Follow → (results arguments : List ℕ) (f k : ℕ) (v u : Locals) (t : ℕ) (w : World) (threw threw' : ℕ → List ℕ → World → Outcome Locals (List ℕ)) → AreUsed is_used arguments → Alike is_used v u → Within 1 0 t w
      → ((i : ℕ) (x : List ℕ) (t : ℕ) (w : World) → Within 1 0 t w → Same R (threw i x w) (threw' i x (done t w)))
      → Same R (call callee f (Some (map v arguments)) w (λ ns w. Normal (write_all results ns v) (stepped k w)) threw) (call callee' f (Some (map u arguments)) (done t w) (λ ns w. Normal (write_all results ns u) (stepped k w)) threw')
  call_does follow results arguments f k v u t w threw threw' all a within catches =
      subst (λ ms. Same R (call callee f (Some (map v arguments)) w (λ ns w. Normal (write_all results ns v) (stepped k w)) threw) (call callee' f (Some ms) (done t w) (λ ns w. Normal (write_all results ns u) (stepped k w)) threw')) (sym (alike_map is_used arguments v u all a))
      (call_same R (Paid 1 0 Equal) (λ i. Paid 1 0 (EqualOf i)) callee callee' f (map v arguments) (map v arguments) w t _ threw _ threw' within (λ n. follow f (map v arguments) t (record w { fuel = n }) within)
      (λ x w' y t q.
      let l = q.1 in
      normal R (write_all results x v) (stepped k (back_in w w')) (write_all results y u) (t + 16 * k)
      (subst (λ y. Alike is_used (write_all results x v) (write_all results y u)) (sym q.0) (alike_write_all is_used results x v u a), omega (arith, l)))
      (λ i x w' y t q. subst (λ y. Same R (threw i x (back_in w w')) (threw' i y (done t (back_in w w')))) (sym q.0) (catches i x t (back_in w w') q.1))
      (record { gave_grows = λ w after c. absurd c; threw_grows = λ w after c. absurd c }))

  -- an exception is caught by both or by none
  catch_does : (exception : ℕ) (variables : List ℕ) (m m' : Does) (v u : Locals) (i : ℕ) (x : List ℕ) (t : ℕ) (w : World) → Alike is_used v u → Within 1 0 t w
      → ((v u : Locals) (t : ℕ) (w : World) → Alike is_used v u → Within 1 0 t w → Same R (m v w) (m' u (done t w)))
      → Same R (caught (Some (record { exception = exception; variables = variables; body = m })) v i x w) (caught (Some (record { exception = exception; variables = variables; body = m' })) u i x (done t w))
  catch_does exception variables m m' v u i x t w a within body = by (nat_eq i exception)
    where
      by : (b : Bool) → Same R (if b then m (write_all variables x v) (stepped (1 + length variables) w) else Raised i x (stepped 1 w)) (if b then m' (write_all variables x u) (stepped (1 + length variables) (done t w)) else Raised i x (stepped 1 (done t w)))
      by true = body (write_all variables x v) (write_all variables x u) (t + 16 * (1 + length variables)) (stepped (1 + length variables) w) (alike_write_all is_used variables x v u a) (omega (arith, within))
      by false = raised R i x (stepped 1 w) x (t + 16) (refl, omega (arith, within))

  -- ---- each variant

  if_means : (y : Test) (p q : Stmt) → Means p → Means q → Means (s.If y p q)
  if_means y p q f g =
      let p' = s.Seq (pruned is_used p) in let q' = s.Seq (pruned is_used q) in
      by_rows (s.If y p q) (s.If y p' q' ∷ []) (variables_read y ++ (used p ++ used q)) (left.pruned_if is_used y p q) (uses.used_by_if y p q) (λ all v u t w a within.
      let inner : AreUsed is_used (used p ++ used q) = λ z h. all z (has_right (variables_read y) (used p ++ used q) z h) in
      let tested = outcome_alike is_used y v u (λ z h. all z (has_left (variables_read y) (used p ++ used q) z h)) a in
      let w' = done (t + 16) w in
      both_as _ _ _ (if_not_zero (outcome y v) (rows (pruned is_used p) u w') (rows (pruned is_used q) u w')) (run_if names d callee y p q v w)
      (one_row (s.If y p' q') u (done t w) ∙ run_if names d callee' y p' q' u (done t w)
      ∙ ap (λ n. if_not_zero n (second p' u w') (second q' u w')) tested
      ∙ ap (λ o. if_not_zero (outcome y v) o (second q' u w')) (seq_row (pruned is_used p) u (t + 16) w)
      ∙ ap (if_not_zero (outcome y v) (rows (pruned is_used p) u w')) (seq_row (pruned is_used q) u (t + 16) w))
      (choice_same R (outcome y v) _ _ _ _
      (f (λ z h. inner z (has_left (used p) (used q) z h)) v u (t + 16) (stepped 1 w) a (omega (arith, within)))
      (g (λ z h. inner z (has_right (used p) (used q) z h)) v u (t + 16) (stepped 1 w) a (omega (arith, within)))))

  while_means : (all : List ((x : Stmt) × Means x)) (y : Test) (q : Stmt) → Means q → Means (s.While (plain all) y q)
  while_means all y q g =
      let ss = pruned_row is_used (plain all) in let q' = s.Seq (pruned is_used q) in
      let before = flat_map (λ xs. xs) (map used (plain all)) in
      by_rows (s.While (plain all) y q) (s.While ss y q' ∷ []) (before ++ (variables_read y ++ used q)) (left.pruned_while is_used (plain all) y q) (uses.used_by_while (plain all) y q) (λ are v u t w a within.
      let inner : AreUsed is_used (variables_read y ++ used q) = λ z h. are z (has_right before (variables_read y ++ used q) z h) in
      both_as _ _ _ _ (run_while names d callee (plain all) y q v w) (one_row (s.While ss y q') u (done t w) ∙ run_while names d callee' ss y q' u (done t w))
      (turns_both R (Paid 1 0 N) (Paid 1 0 N) (Paid 1 0 N) (first q) (second q') (record {
        leaves = λ v w u t h. h;
        begins = λ v w u t n h. h;
        inner = λ v w u t h. same_as R _ _ (rows (pruned is_used q) u (done t w)) (seq_row (pruned is_used q) u t w) (g (λ z h. inner z (has_right (variables_read y) (used q) z h)) v u t w h.0 h.1);
        spent = λ v w u t h. h.1;
        spent_at_head = λ v w u t h. h.1;
        onward = λ w after c. absurd c;
      })
      (λ v w. in_turn (map first (plain all)) v (stepped test_steps w)) (λ u w. in_turn (map second ss) u (stepped test_steps w)) (λ v w. Some (outcome y v)) (λ u w. Some (outcome y u))
      (λ v w u t h. let l = h.1 in rows_mean all (λ z m. are z (has_left before (variables_read y ++ used q) z m)) v u (t + 16) (stepped test_steps w) h.0 (omega (arith, l))) (λ w after c. absurd c)
      (λ v w u t n h is. (outcome y u, refl, let e : outcome y v ≡ n = cc in as_zero n (outcome y u) (sym e ∙ sym (outcome_alike is_used y v u (λ z m. inner z (has_left (variables_read y) (used q) z m)) h.0))))
      d v (stepped 1 w) u (t + 16) (a, omega (arith, within))))

  caught_call_means : Follow → (results : List ℕ) (f : ℕ) (arguments : List ℕ) (exception : ℕ) (variables : List ℕ) (body : Stmt) → Means body → Means (s.Call results f arguments (Some (record { exception = exception; variables = variables; body = body })))
  caught_call_means follow results f arguments exception variables body g =
      let h1 : Handler Stmt = record { exception = exception; variables = variables; body = body } in
      let h2 : Handler Stmt = record { exception = exception; variables = variables; body = s.Seq (pruned is_used body) } in
      let k = passed arguments in
      by_rows (s.Call results f arguments (Some h1)) (s.Call results f arguments (Some h2) ∷ []) (arguments ++ used body) (left.pruned_call is_used results f arguments (Some h1)) (uses.used_by_call results f arguments (Some h1)) (λ all v u t w a within.
      both_as _ _ _ _ (run_call names d callee results f arguments (Some h1) v w) (one_row (s.Call results f arguments (Some h2)) u (done t w) ∙ run_call names d callee' results f arguments (Some h2) u (done t w))
      (call_does follow results arguments f (length results + 1) v u (t + 16 * k) (stepped k w) _ _ (λ z h. all z (has_left arguments (used body) z h)) a (omega (arith, within))
      (λ i x t w within. catch_does exception variables (first body) (second (s.Seq (pruned is_used body))) v u i x t w a within
      (λ v u t w a within. same_as R _ _ (rows (pruned is_used body) u (done t w)) (seq_row (pruned is_used body) u t w) (g (λ z h. all z (has_right arguments (used body) z h)) v u t w a within)))))

  foreign_means : (i x y z q : ℕ) → Means (s.Foreign i x y z q)
  foreign_means i x y z q =
      let xs : List ℕ = x ∷ y ∷ z ∷ q ∷ [] in
      kept (s.Foreign i x y z q) xs _ _ (left.pruned_foreign is_used i x y z q) (uses.used_by_foreign i x y z q) (λ v w. run_foreign names d callee i x y z q v w) (λ u w. run_foreign names d callee' i x y z q u w) (λ all v u t w a within.
      let w' = stepped 4 w in let w2 = done (t + 64) w in
      let go : ℕ → ℕ → ℕ → ℕ → Outcome Locals (List ℕ) = λ p pl b bl. with_value (slice_get names i) w2 (λ name. foreign i name p pl b bl u w2) in
      let at_x = a.at x (all x (has_here x (y ∷ z ∷ q ∷ []) x refl)) in
      let at_y = a.at y (all y (has_there x (y ∷ z ∷ q ∷ []) y (has_here y (z ∷ q ∷ []) y refl))) in
      let at_z = a.at z (all z (has_there x (y ∷ z ∷ q ∷ []) z (has_there y (z ∷ q ∷ []) z (has_here z (q ∷ []) z refl)))) in
      let at_q = a.at q (all q (has_there x (y ∷ z ∷ q ∷ []) q (has_there y (z ∷ q ∷ []) q (has_there z (q ∷ []) q (has_here q [] q refl))))) in
      same_as R _ _ (go (v x) (v y) (v z) (v q))
      (ap (λ n. go n (u y) (u z) (u q)) at_x ∙ ap (λ n. go (v x) n (u z) (u q)) at_y ∙ ap (λ n. go (v x) (v y) n (u q)) at_z ∙ ap (go (v x) (v y) (v z)) at_q)
      (value_same R (slice_get names i) w' w2 _ _ (λ name known.
      value_same R (bytes_at w.memory (v x) (v y)) w' w2 _ _ (λ conf is1.
      value_same R (bytes_at w.memory (v z) (v q)) w' w2 _ _ (λ array is2.
      ask_same R (Foreign i name conf array) w' (t + 64) _ _ (omega (arith, within)) (λ r rs es.
      normal R v (record w' { replies = rs; trace = es; memory = with_reply w.memory (v z) r }) u (t + 64) (a, omega (arith, within))))))))

  all_cases : Follow → Cases Means
  all_cases follow = record {
    of_skip = by_rows s.Skip [] [] (left.pruned_skip is_used) uses.used_by_skip (λ all v u t w a within. both_as _ _ _ _ (run_skip names d callee v w) refl (normal R v (stepped 0 w) u t (a, omega (arith, within))));
    of_seq = λ ps. by_rows (s.Seq (plain ps)) (pruned_row is_used (plain ps)) (flat_map (λ xs. xs) (map used (plain ps))) (left.pruned_seq is_used (plain ps)) (uses.used_by_seq (plain ps)) (λ all v u t w a within.
        both_as _ _ _ _ (run_seq names d callee (plain ps) v w) refl (rows_mean ps all v u t (stepped 0 w) a (omega (arith, within))));
    of_const = λ x n. by_rows (s.Const x n) (where_used is_used x (s.Const x n)) [] (left.pruned_const is_used x n) (uses.used_by_const x n) (λ all v u t w a within.
        computed x n n (s.Const x n) v u t w (is_used x) refl (run_const names d callee x n v w) (run_const names d callee' x n u (done t w)) (λ h. refl) a within);
    of_reg = λ f x y z. by_rows (s.Reg f x y z) (where_used is_used x (s.Reg f x y z)) (others x (y ∷ z ∷ [])) (left.pruned_reg is_used f x y z) (uses.used_by_reg f x y z) (λ all v u t w a within.
        computed x (r_result f (v y) (v z)) (r_result f (u y) (u z)) (s.Reg f x y z) v u t w (is_used x) refl (run_reg names d callee f x y z v w) (run_reg names d callee' f x y z u (done t w)) (λ h.
        let operands = operands_used is_used x (y ∷ z ∷ []) all h in
        ap (λ n. r_result f n (u z)) (a.at y (operands y (has_here y (z ∷ []) y refl))) ∙ ap (r_result f (v y)) (a.at z (operands z (has_there y (z ∷ []) z (has_here z [] z refl))))) a within);
    of_imm = λ f x y i. by_rows (s.Imm f x y i) (where_used is_used x (s.Imm f x y i)) (others x (y ∷ [])) (left.pruned_imm is_used f x y i) (uses.used_by_imm f x y i) (λ all v u t w a within.
        computed x (i_result f (v y) i) (i_result f (u y) i) (s.Imm f x y i) v u t w (is_used x) refl (run_imm names d callee f x y i v w) (run_imm names d callee' f x y i u (done t w)) (λ h.
        ap (λ n. i_result f n i) (a.at y (operands_used is_used x (y ∷ []) all h y (has_here y [] y refl)))) a within);
    of_sh = λ f x y n. by_rows (s.Sh f x y n) (where_used is_used x (s.Sh f x y n)) (others x (y ∷ [])) (left.pruned_sh is_used f x y n) (uses.used_by_sh f x y n) (λ all v u t w a within.
        computed x (sh_result f (v y) n) (sh_result f (u y) n) (s.Sh f x y n) v u t w (is_used x) refl (run_sh names d callee f x y n v w) (run_sh names d callee' f x y n u (done t w)) (λ h.
        ap (λ m. sh_result f m n) (a.at y (operands_used is_used x (y ∷ []) all h y (has_here y [] y refl)))) a within);
    of_load = λ f x y i. by_rows (s.Load f x y i) (where_used is_used x (s.Load f x y i)) (others x (y ∷ [])) (left.pruned_load is_used f x y i) (uses.used_by_load f x y i) (λ all v u t w a within.
        loaded f x y i v u t w (is_used x) refl (λ h. a.at y (operands_used is_used x (y ∷ []) all h y (has_here y [] y refl))) a within);
    of_store = λ f x y i. kept (s.Store f x y i) (y ∷ x ∷ []) _ _ (left.pruned_store is_used f x y i) (uses.used_by_store f x y i) (λ v w. run_store names d callee f x y i v w) (λ u w. run_store names d callee' f x y i u w) (λ all v u t w a within.
        let go : ℕ → ℕ → Outcome Locals (List ℕ) = λ base n. with_written (stores f) (plus base i) n (done (t + 16) w) (λ w. Normal u w) in
        same_as R _ _ (go (v y) (v x)) (ap (λ base. go base (u x)) (a.at y (all y (has_here y (x ∷ []) y refl))) ∙ ap (go (v y)) (a.at x (all x (has_there y (x ∷ []) x (has_here x [] x refl)))))
        (value_same R (data_memory.write (stores f) w.globals w.memory (plus (v y) i) (v x)) (stepped 1 w) (done (t + 16) w) _ _ (λ mem is.
        normal R v (record (stepped 1 w) { globals = mem.0; memory = mem.1 }) u (t + 16) (a, omega (arith, within)))));
    of_if = if_means;
    of_while = while_means;
    of_break = kept s.Break [] _ _ (left.pruned_break is_used) uses.used_by_break (λ v w. run_break names d callee v w) (λ u w. run_break names d callee' u w) (λ all v u t w a within. broken R v (stepped 1 w) u (t + 16) (a, omega (arith, within)));
    of_continue = kept s.Continue [] _ _ (left.pruned_continue is_used) uses.used_by_continue (λ v w. run_continue names d callee v w) (λ u w. run_continue names d callee' u w) (λ all v u t w a within. continued R v (stepped 1 w) u (t + 16) (a, omega (arith, within)));
    of_call = λ results f arguments. kept (s.Call results f arguments None) (arguments ++ []) _ _ (left.pruned_call is_used results f arguments None) (uses.used_by_call results f arguments None) (λ v w. run_call names d callee results f arguments None v w) (λ u w. run_call names d callee' results f arguments None u w) (λ all v u t w a within.
        let k = passed arguments in
        call_does follow results arguments f (length results + 0) v u (t + 16 * k) (stepped k w) _ _ (λ z h. all z (has_left arguments [] z h)) a (omega (arith, within)) (λ i x t w within. raised R i x w x t (refl, within)));
    of_caught_call = caught_call_means follow;
    of_tail_call = λ f arguments. kept (s.TailCall f arguments) arguments _ _ (left.pruned_tail_call is_used f arguments) (uses.used_by_tail_call f arguments) (λ v w. run_tail_call names d callee f arguments v w) (λ u w. run_tail_call names d callee' f arguments u w) (λ all v u t w a within.
        let k = passed arguments in
        same_as R _ _ (tail_call callee' f (Some (map v arguments)) (done (t + 16 * k) (stepped k w))) (ap (λ ns. tail_call callee' f (Some ns) (done (t + 16 * k) w)) (alike_map is_used arguments v u all a))
        (tail_same R callee callee' f (map v arguments) (map v arguments) (stepped k w) (t + 16 * k) (omega (arith, within)) (λ n. follow f (map v arguments) (t + 16 * k) (leaving (record (stepped k w) { fuel = n })) (omega (arith, within)))));
    of_return = λ xs. kept (s.Return xs) xs _ _ (left.pruned_return is_used xs) (uses.used_by_return xs) (λ v w. run_return names d callee xs v w) (λ u w. run_return names d callee' xs u w) (λ all v u t w a within.
        returned R (map v xs) (stepped (passed xs) w) (map u xs) (t + 16 * passed xs) (alike_map is_used xs v u all a, omega (arith, within)));
    of_raise = λ i xs. kept (s.Raise i xs) xs _ _ (left.pruned_raise is_used i xs) (uses.used_by_raise i xs) (λ v w. run_raise names d callee i xs v w) (λ u w. run_raise names d callee' i xs u w) (λ all v u t w a within.
        raised R i (map v xs) (stepped (passed xs) w) (map u xs) (t + 16 * passed xs) (alike_map is_used xs v u all a, omega (arith, within)));
    of_shared_load = λ size x y i. kept (s.SharedLoad size x y i) (y ∷ []) _ _ (left.pruned_shared_load is_used size x y i) (uses.used_by_shared_load size x y i) (λ v w. run_shared_load names d callee size x y i v w) (λ u w. run_shared_load names d callee' size x y i u w) (λ all v u t w a within.
        let addr = plus (v y) i in
        same_as R _ _ (with_loaded size addr (done (t + 16) w) (λ n w. Normal (write x n u) w)) (ap (λ base. with_loaded size (plus base i) (done (t + 16) w) (λ n w. Normal (write x n u) w)) (a.at y (all y (has_here y [] y refl))))
        (where_same R (is_shared size addr) (stepped 1 w) (done (t + 16) w) _ _
        (ask_same R (Load size addr) (stepped 1 w) (t + 16) _ _ (omega (arith, within)) (λ r rs es.
        normal R (write x (number r) v) (record (stepped 1 w) { replies = rs; trace = es }) (write x (number r) u) (t + 16) (alike_write is_used x (number r) (number r) v u (λ h. refl) a, omega (arith, within))))));
    of_shared_store = λ size x y i. kept (s.SharedStore size x y i) (y ∷ x ∷ []) _ _ (left.pruned_shared_store is_used size x y i) (uses.used_by_shared_store size x y i) (λ v w. run_shared_store names d callee size x y i v w) (λ u w. run_shared_store names d callee' size x y i u w) (λ all v u t w a within.
        let addr = plus (v y) i in
        let go : ℕ → ℕ → Outcome Locals (List ℕ) = λ base n. with_stored size (plus base i) n (done (t + 16) w) (λ w. Normal u w) in
        same_as R _ _ (go (v y) (v x)) (ap (λ base. go base (u x)) (a.at y (all y (has_here y (x ∷ []) y refl))) ∙ ap (go (v y)) (a.at x (all x (has_there y (x ∷ []) x (has_here x [] x refl)))))
        (where_same R (is_shared size addr) (stepped 1 w) (done (t + 16) w) _ _
        (ask_same R (Store size addr (v x % 2 ^ (8 * byte_count size))) (stepped 1 w) (t + 16) _ _ (omega (arith, within)) (λ r rs es.
        normal R v (record (stepped 1 w) { replies = rs; trace = es }) u (t + 16) (a, omega (arith, within))))));
    of_foreign = foreign_means;
  }

  pub statement_means : Follow → (x : Stmt) → Means x
  statement_means follow = by_cases Means (all_cases follow)
