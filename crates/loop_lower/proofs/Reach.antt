-- The variables of a lowered statement stand below the limit.
use Rattle.std.proofs.Common.{◌≡◌, ℕ, ◌+◌, ◌≤◌, ◌<◌, Bool, true, false, List, [], ◌∷◌, ◌++◌, map, Option, Some, None, arith, refl, sym, ap, subst}
use Rattle.pan_flow.specs.Flow.{Flow}
use Rattle.pan_flow.specs.Functions.{above, variables, all_in_turn}
use Rattle.pan_stage.specs.Sums.{most}
use Rattle.pan_stage.specs.declared.program.Handler.{Handler}
use Rattle.crep_lang.specs.Needs.{temporaries, row_temporaries, between_layer, between}
use Rattle.crep_lang.specs.Steps.{row_steps}
use Rattle.crep_lang.specs.Text.{variables_read, all_read}
use Rattle.crep_lang.specs.Text as crep
use Rattle.crep_lang.specs.declared.syntax.Expr.{Expr}
use Rattle.crep_lang.specs.declared.syntax.Stmt.{Stmt as Crep, Stmt-F as Crep-F, roll-Stmt as roll-Crep, map-Stmt as map-Crep}
use Rattle.crep_lang.specs.declared.syntax.Stmt.TheOpen as c
use Rattle.loop_lang.specs.Text.{flow_of}
use Rattle.loop_lang.specs.declared.syntax.Stmt.{Stmt}
use Rattle.loop_lang.specs.declared.syntax.Stmt.TheVariants as s
use Rattle.loop_lang.proofs.Equations as at
use Rattle.loop_lower.specs.declared.places.Placed.{Placed}
use Rattle.loop_lower.specs.Lowered.{nth, most_words, capped, lower, planned, row_before, row_operands, behind, placed_row, placed_layer, placed}
use Rattle.loop_lower.proofs.Layers.{crep_induct, flow_roll, between_roll, placed_roll, above_append}
use Rattle.loop_lower.proofs.Plans.{plan_fits, planned_goes, goes_on, all_go_on}
use Rattle.loop_lower.proofs.Bounds.{reach, reach_all, reach_append, width_of, row_width, small, row_first, SmallRow, all_small}

-- what is said of a statement, by its flow
reach_is : (a : Stmt) (f : Flow) → flow_of a ≡ f → reach a ≡ above (variables f)
reach_is a f e = ap (λ f. above (variables f)) e

module _ (limit base : ℕ) (lawful : limit < most_words) where
  -- where the temporaries of a row fit behind the base, its plan fits
  fits_width : (apart : Bool) (start many few : ℕ) → (apart ≡ true → start + capped many ≤ limit) → (apart ≡ false → base + capped few ≤ limit → start + capped few ≤ limit) → base + few ≤ limit → start + width_of apart many few ≤ limit
  fits_width true start many few h k le = let a = h refl in omega (arith, a, lawful)
  fits_width false start many few h k le = let a = k refl (omega (arith, le)) in omega (arith, a, lawful)

  row_fits : (es : List Expr) (t : ℕ) → base ≤ t → base + row_temporaries es ≤ limit → (planned limit base es t).start + row_width (planned limit base es t).apart es ≤ limit
  row_fits es t l le =
      let p = planned limit base es t in
      let f = plan_fits limit base t (capped (row_steps es)) (capped (row_temporaries es)) l in
      fits_width p.apart p.start (row_steps es) (row_temporaries es) f.apart f.close le

  row_small : (es : List Expr) (t : ℕ) → base ≤ t → base + row_temporaries es ≤ limit → above (all_read es) ≤ base → SmallRow limit (row_before limit base es t) (row_operands limit base es t)
  row_small es t l le r = let p = planned limit base es t in all_small limit p.apart es p.start (omega (arith, r, le)) (row_fits es t l le)

  -- an expression is a row of its own
  one_few : (e : Expr) → row_temporaries (e ∷ []) ≡ temporaries e
  one_few e = let k = (small limit false e).some in omega (arith, k)

  one_read : (e : Expr) → above (all_read (e ∷ [])) ≡ above (variables_read e)
  one_read e = let k = above_append (variables_read e) [] in omega (arith, k)

  abbrev pub Reaches : Crep → Type 0
  Reaches x = (t : ℕ) → base ≤ t → base + between x ≤ limit → above (variables (crep.flow_of x)) ≤ base → reach (placed limit base x t).stmt ≤ limit

  reach_at : (y : Crep-F Crep) → ((t : ℕ) → base ≤ t → base + between_layer (map-Crep Crep ℕ between y) ≤ limit → above (variables (crep.flow_layer (map-Crep Crep Flow crep.flow_of y))) ≤ base
      → reach (placed_layer limit base (map-Crep Crep (ℕ → Placed) (placed limit base) y) t).stmt ≤ limit) → Reaches (roll-Crep y)
  reach_at y h t l b r =
      subst (λ (f : ℕ → Placed). reach (f t).stmt ≤ limit) (sym (placed_roll limit base y))
      (h t l (subst (λ k. base + k ≤ limit) (between_roll y) b) (subst (λ f. above (variables f) ≤ base) (flow_roll y) r))

  behind_reach : (es : List Expr) (t : ℕ) (step : List ℕ → Stmt) → base ≤ t → base + row_temporaries es ≤ limit → above (all_read es) ≤ base → (above (row_operands limit base es t) ≤ limit → reach (step (row_operands limit base es t)) ≤ limit)
      → reach (behind limit base es t step) ≤ limit
  behind_reach es t step l le r h =
      let last = step (row_operands limit base es t) in
      let first = row_before limit base es t in
      let g = row_small es t l le r in
      let e = reach_is (s.Seq (first ++ last ∷ [])) _ (at.flow_seq (first ++ last ∷ [])) in
      let e2 = reach_append first (last ∷ []) in
      let e3 = above_append (variables (flow_of last)) [] in
      let a = g.steps in let b = h g.operands in omega (arith, e, e2, e3, a, b)

  -- rows
  row_reaches : (all : List ((x : Crep) × Reaches x)) (t : ℕ) → base ≤ t → base + most (map between (map (λ c. c.0) all)) ≤ limit → above (variables (all_in_turn (map crep.flow_of (map (λ c. c.0) all)))) ≤ base
      → reach_all (placed_row limit base (map (placed limit base) (map (λ c. c.0) all)) t).stmts ≤ limit
  row_reaches [] t l b r = omega arith
  row_reaches (p ∷ all) t l b r =
      let xs = map (λ c. c.0) all in
      let a = placed limit base p.0 t in
      let ss = (placed_row limit base (map (placed limit base) xs) a.next).stmts in
      let k = above_append (variables (crep.flow_of p.0)) (variables (all_in_turn (map crep.flow_of xs))) in
      let e = above_append (variables (flow_of a.stmt)) (variables (all_in_turn (map flow_of ss))) in
      let f = p.1 t l (omega (arith, b)) (omega (arith, r, k)) in
      let g = row_reaches all a.next (goes_on limit base p.0 t l) (omega (arith, b)) (omega (arith, r, k)) in omega (arith, e, f, g)

  reach_layer : (y : Crep-F ((x : Crep) × Reaches x)) → Reaches (roll-Crep (map-Crep ((x : Crep) × Reaches x) Crep (λ c. c.0) y))
  reach_layer c.Skip = reach_at c.Skip (λ t l b r. let e = reach_is s.Skip _ at.flow_skip in omega (arith, e))
  reach_layer (c.Seq all) = reach_at (c.Seq (map (λ c. c.0) all)) (λ t l b r.
      let ss = (placed_row limit base (map (placed limit base) (map (λ c. c.0) all)) t).stmts in let e = reach_is (s.Seq ss) _ (at.flow_seq ss) in let h = row_reaches all t l b r in omega (arith, e, h))
  reach_layer (c.Assign x e) = reach_at (c.Assign x e) (λ t l b r.
      let p = planned limit base (e ∷ []) t in
      let ss = (lower p.apart e).into x p.start in
      let q = reach_is (s.Seq ss) _ (at.flow_seq ss) in
      let k = above_append (variables_read e) (x ∷ []) in
      let n = one_few e in
      let f = row_fits (e ∷ []) t l (omega (arith, b, n)) in
      let w = row_first limit p.apart e [] in
      let h = (small limit p.apart e).into (omega (arith, r, k, b)) x p.start (omega (arith, r, k, b)) (omega (arith, f, w)) in omega (arith, q, h))
  reach_layer (c.StoreWord a e) = reach_at (c.StoreWord a e) (λ t l b r. let xs = row_operands limit base (a ∷ e ∷ []) t in
      behind_reach (a ∷ e ∷ []) t (λ xs. s.StoreWord (nth 0 xs) (nth 1 xs)) l b r (λ h. let k = reach_is (s.StoreWord (nth 0 xs) (nth 1 xs)) _ (at.flow_store_word (nth 0 xs) (nth 1 xs)) in omega (arith, h, k)))
  reach_layer (c.StoreByte a e) = reach_at (c.StoreByte a e) (λ t l b r. let xs = row_operands limit base (a ∷ e ∷ []) t in
      behind_reach (a ∷ e ∷ []) t (λ xs. s.StoreByte (nth 0 xs) (nth 1 xs)) l b r (λ h. let k = reach_is (s.StoreByte (nth 0 xs) (nth 1 xs)) _ (at.flow_store_byte (nth 0 xs) (nth 1 xs)) in omega (arith, h, k)))
  reach_layer (c.If e p q) = reach_at (c.If e p.0 q.0) (λ t l b r.
      let x = nth 0 (row_operands limit base (e ∷ []) t) in
      let from = (planned limit base (e ∷ []) t).next in
      let first = placed limit base p.0 from in
      let second = placed limit base q.0 first.next in
      let starts = planned_goes limit base (e ∷ []) t l in
      let k1 = above_append (variables_read e) (variables (crep.flow_of p.0) ++ variables (crep.flow_of q.0)) in
      let k2 = above_append (variables (crep.flow_of p.0)) (variables (crep.flow_of q.0)) in
      let n = one_few e in let n2 = one_read e in
      let f = p.1 from starts (omega (arith, b)) (omega (arith, r, k1, k2)) in
      let g = q.1 first.next (goes_on limit base p.0 from starts) (omega (arith, b)) (omega (arith, r, k1, k2)) in
      behind_reach (e ∷ []) t (λ xs. s.If (nth 0 xs) first.stmt second.stmt) l (omega (arith, b, n)) (omega (arith, r, n2, k1)) (λ h.
      let k = reach_is (s.If x first.stmt second.stmt) _ (at.flow_if x first.stmt second.stmt) in
      let k3 = above_append (variables (flow_of first.stmt)) (variables (flow_of second.stmt)) in omega (arith, h, k, k3, f, g)))
  reach_layer (c.While all e p) = reach_at (c.While (map (λ c. c.0) all) e p.0) (λ t l b r.
      let xs = map (λ c. c.0) all in
      let row = placed_row limit base (map (placed limit base) xs) t in
      let es = e ∷ [] in
      let more = row_before limit base es row.next in
      let x = nth 0 (row_operands limit base es row.next) in
      let from = (planned limit base es row.next).next in
      let body = (placed limit base p.0 from).stmt in
      let lr = all_go_on limit base xs t l in
      let before_them = variables (all_in_turn (map crep.flow_of xs)) in
      let k1 = above_append (before_them ++ variables_read e) (variables (crep.flow_of p.0)) in
      let k2 = above_append before_them (variables_read e) in
      let n = one_few e in let n2 = one_read e in
      let f = row_reaches all t l (omega (arith, b)) (omega (arith, r, k1, k2)) in
      let small = row_small es row.next lr (omega (arith, b, n)) (omega (arith, r, n2, k1, k2)) in
      let h1 = small.steps in let h2 = small.operands in
      let g = p.1 from (planned_goes limit base es row.next lr) (omega (arith, b)) (omega (arith, r, k1)) in
      let steps = variables (all_in_turn (map flow_of (row.stmts ++ more))) in
      let q = reach_is (s.While [] (row.stmts ++ more) x body) _ (at.flow_while [] (row.stmts ++ more) x body) in
      let q1 = above_append (steps ++ x ∷ []) (variables (flow_of body)) in
      let q2 = above_append steps (x ∷ []) in
      let q3 = reach_append row.stmts more in omega (arith, q, q1, q2, q3, f, g, h1, h2))
  reach_layer c.Break = reach_at c.Break (λ t l b r. let e = reach_is s.Break _ at.flow_break in omega (arith, e))
  reach_layer c.Continue = reach_at c.Continue (λ t l b r. let e = reach_is s.Continue _ at.flow_continue in omega (arith, e))
  reach_layer (c.Call results f es None) = reach_at (c.Call results f es None) (λ t l b r.
      let xs = row_operands limit base es t in
      let k = above_append (all_read es) results in
      behind_reach es t (λ xs. s.Call [] results f xs None) l (omega (arith, b)) (omega (arith, r, k)) (λ h.
      let q = reach_is (s.Call [] results f xs None) _ (at.flow_call [] results f xs None) in let q2 = above_append xs results in omega (arith, h, q, q2, r, k, b)))
  reach_layer (c.Call results f es (Some h)) = reach_at (c.Call results f es (Some (record { exception = h.exception; variables = h.variables; body = h.body.0 }))) (λ t l b r.
      let xs = row_operands limit base es t in
      let from = (planned limit base es t).next in
      let body = (placed limit base h.body.0 from).stmt in
      let h2 : Option (Handler Stmt) = Some (record { exception = h.exception; variables = h.variables; body = body }) in
      let inner = variables (crep.flow_of h.body.0) in
      let k1 = above_append (all_read es) (results ++ (h.variables ++ inner)) in
      let k2 = above_append results (h.variables ++ inner) in
      let k3 = above_append h.variables inner in
      let g = h.body.1 from (planned_goes limit base es t l) (omega (arith, b)) (omega (arith, r, k1, k2, k3)) in
      behind_reach es t (λ xs. s.Call [] results f xs h2) l (omega (arith, b)) (omega (arith, r, k1)) (λ o.
      let mine = variables (flow_of body) in
      let q = reach_is (s.Call [] results f xs h2) _ (at.flow_call [] results f xs h2) in
      let q1 = above_append xs (results ++ (h.variables ++ mine)) in
      let q2 = above_append results (h.variables ++ mine) in
      let q3 = above_append h.variables mine in omega (arith, o, q, q1, q2, q3, r, k1, k2, k3, b, g)))
  reach_layer (c.TailCall f es) = reach_at (c.TailCall f es) (λ t l b r. let xs = row_operands limit base es t in let k = above_append (all_read es) [] in
      behind_reach es t (λ xs. s.TailCall f xs) l b (omega (arith, r, k)) (λ h. let q = reach_is (s.TailCall f xs) _ (at.flow_tail_call f xs) in let q2 = above_append xs [] in omega (arith, h, q, q2)))
  reach_layer (c.Return es) = reach_at (c.Return es) (λ t l b r. let xs = row_operands limit base es t in let k = above_append (all_read es) [] in
      behind_reach es t (λ xs. s.Return xs) l b (omega (arith, r, k)) (λ h. let q = reach_is (s.Return xs) _ (at.flow_return xs) in let q2 = above_append xs [] in omega (arith, h, q, q2)))
  reach_layer (c.Raise i es) = reach_at (c.Raise i es) (λ t l b r. let xs = row_operands limit base es t in let k = above_append (all_read es) [] in
      behind_reach es t (λ xs. s.Raise i xs) l b (omega (arith, r, k)) (λ h. let q = reach_is (s.Raise i xs) _ (at.flow_raise i xs) in let q2 = above_append xs [] in omega (arith, h, q, q2)))
  reach_layer (c.SharedLoad size x a) = reach_at (c.SharedLoad size x a) (λ t l b r. let y = nth 0 (row_operands limit base (a ∷ []) t) in
      let k = above_append (variables_read a) (x ∷ []) in let n = one_few a in let n2 = one_read a in
      behind_reach (a ∷ []) t (λ xs. s.SharedLoad size x (nth 0 xs)) l (omega (arith, b, n)) (omega (arith, r, k, n2)) (λ h. let q = reach_is (s.SharedLoad size x y) _ (at.flow_shared_load size x y) in omega (arith, h, q, r, k, b)))
  reach_layer (c.SharedStore size a e) = reach_at (c.SharedStore size a e) (λ t l b r. let xs = row_operands limit base (a ∷ e ∷ []) t in
      behind_reach (a ∷ e ∷ []) t (λ xs. s.SharedStore size (nth 0 xs) (nth 1 xs)) l b r (λ h. let k = reach_is (s.SharedStore size (nth 0 xs) (nth 1 xs)) _ (at.flow_shared_store size (nth 0 xs) (nth 1 xs)) in omega (arith, h, k)))
  reach_layer (c.Foreign i a b e f) = reach_at (c.Foreign i a b e f) (λ t l m r.
      let es = a ∷ b ∷ e ∷ f ∷ [] in let xs = row_operands limit base es t in let k = above_append (all_read es) [] in
      behind_reach es t (λ xs. s.Foreign [] i (nth 0 xs) (nth 1 xs) (nth 2 xs) (nth 3 xs)) l m (omega (arith, r, k))
      (λ h. let q = reach_is (s.Foreign [] i (nth 0 xs) (nth 1 xs) (nth 2 xs) (nth 3 xs)) _ (at.flow_foreign [] i (nth 0 xs) (nth 1 xs) (nth 2 xs) (nth 3 xs)) in omega (arith, h, q)))

  pub reaches : (x : Crep) → Reaches x
  reaches = crep_induct Reaches reach_layer
