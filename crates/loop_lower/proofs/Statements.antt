-- A lowered statement does what the statement does.
use Rattle.std.proofs.Common.{◌≡◌, ℕ, ◌+◌, ◌*◌, ◌≤◌, Bool, true, false, List, [], ◌∷◌, ◌++◌, map, length, Some, None, arith, refl, sym, ap, subst, ◌∙◌}
use Rattle.std.specs.Prelude.{nat_eq, if◌then◌else◌, slice_get}
use Rattle.std.proofs.lemmas.List.{map-append}
use Rattle.pan_base.specs.declared.events.Size.{Size}
use Rattle.pan_base.specs.declared.events.Size.TheVariants.{B1, B8}
use Rattle.pan_base.specs.Events.{Load, Store, Foreign}
use Rattle.pan_control.specs.World.{back_in, leaving}
use Rattle.pan_control.specs.Memory.{is_shared, bytes_at}
use Rattle.pan_control.specs.Control.{Normal, Broken, Continued, Returned, Raised, in_turn, with_value, if_not_zero, turns, call, tail_call}
use Rattle.pan_control.specs.Runs.{number, with_reply, foreign}
use Rattle.pan_flow.specs.Flow.{Flow}
use Rattle.pan_flow.specs.Functions.{above, variables, all_in_turn}
use Rattle.pan_stage.specs.Data.{World, Outcome, Meaning, Callee, write, with_written}
use Rattle.pan_stage.specs.Locals.{Locals, write as write_local, write_all}
use Rattle.pan_stage.specs.Programs.{Does, call_from, caught}
use Rattle.pan_stage.specs.Shared.{with_loaded, with_stored}
use Rattle.pan_stage.specs.Toll.{stepped}
use Rattle.pan_stage.specs.declared.program.Handler.{Handler}
use Rattle.pan_stage.proofs.Agreeing.{Agree, agree_write, agree_write_all, agree_into}
use Rattle.pan_stage.proofs.Follows.{Ends, Same, matched, normal, broken, continued, returned, raised, same_as, then_same, with_same, value_same, where_same, choice_same, ask_same, call_same, tail_same, less_same}
use Rattle.pan_stage.proofs.Paid.{Within, Paid, same_globals, no_cuts, paid, left_paid}
use Rattle.pan_stage.proofs.Rows.{in_turn_append}
use Rattle.pan_stage.proofs.Turning.{as_zero}
use Rattle.pan_stage.proofs.Words.{done, Equal, EqualOf}
use Rattle.crep_lang.specs.Meaning as crep
use Rattle.crep_lang.specs.Steps.{expr_steps, test_steps, passed}
use Rattle.crep_lang.specs.Text.{variables_read, all_read, flow_layer, flow_of}
use Rattle.crep_lang.specs.declared.syntax.Expr.{Expr}
use Rattle.crep_lang.specs.declared.syntax.Stmt.{Stmt as Crep, Stmt-F as Crep-F, roll-Stmt as roll-Crep, map-Stmt as map-Crep, fold-roll-Stmt as fold-roll-Crep}
use Rattle.crep_lang.specs.declared.syntax.Stmt.TheOpen as c
use Rattle.loop_lang.specs.Meaning.{run}
use Rattle.loop_lang.specs.Steps as loops
use Rattle.loop_lang.specs.declared.syntax.Stmt.{Stmt}
use Rattle.loop_lang.specs.declared.syntax.Stmt.TheVariants as s
use Rattle.loop_lang.proofs.Equations.{run_skip, run_seq, run_store_word, run_store_byte, run_if, run_while, run_break, run_continue, run_call, run_tail_call, run_return, run_raise, run_shared_load, run_shared_store, run_foreign}
use Rattle.loop_lower.specs.declared.places.Placed.{Placed}
use Rattle.loop_lower.specs.Lowered.{nth, lower, planned, row_before, row_operands, behind, placed_row, placed_layer, placed}
use Rattle.loop_lower.proofs.Layers.{crep_induct, flow_roll, placed_roll, words_more, above_append}
use Rattle.loop_lower.proofs.Plans.{plan_fits, planned_goes, goes_on, all_go_on}
use Rattle.loop_lower.proofs.Exprs.{after, means, runs}
use Rattle.loop_lower.proofs.Operands.{all_steps, row_is, operands_count, are_ready, behind_is}
use Rattle.loop_lower.proofs.Tested.{turns_tested}

crep_roll : (names : List (List ℕ)) (d : ℕ) (callee : Callee (List ℕ) (List ℕ)) (y : Crep-F Crep) → crep.run names d callee (roll-Crep y) ≡ crep.run_layer names d callee (map-Crep Crep Does (crep.run names d callee) y)
unfolding crep.run
crep_roll names d callee y = fold-roll-Crep Does (crep.run_layer names d callee) y

module _ (names : List (List ℕ)) (d limit base : ℕ) (callee callee' : Callee (List ℕ) (List ℕ)) where
  abbrev pub N : Locals → World → Locals → Type 0
  N v w u = Agree base v u

  -- with so much toll kept back
  abbrev pub R : ℕ → Ends (List ℕ) (List ℕ) Locals Locals (List ℕ) (List ℕ)
  R kept = paid same_globals no_cuts 1 kept N N N Equal EqualOf

  abbrev pub Follow : Type 0
  Follow = (kept f : ℕ) (ns : List ℕ) (t : ℕ) (w : World) → Within 1 kept t w → Same (left_paid same_globals no_cuts 1 kept Equal EqualOf) (callee f ns w) (callee' f ns (done t w))

  -- the second does what the first does, from variables that agree
  abbrev pub Does' : Meaning Locals (List ℕ) → Meaning Locals (List ℕ) → Flow → Type 0
  Does' m m' f = (kept : ℕ) (v u : Locals) (t : ℕ) (w : World) → above (variables f) ≤ base → Agree base v u → Within 1 kept t w → Same (R kept) (m v w) (m' u (done t w))

  abbrev pub Means : Crep → Type 0
  Means x = (at : ℕ) → base ≤ at → Does' (crep.run names d callee x) (run names d callee' (placed limit base x at).stmt) (flow_of x)

  abbrev one : Crep → Does
  one = crep.run names d callee

  abbrev two : Stmt → Does
  two = run names d callee'

  to_layer : (y : Crep-F Crep) → ((at : ℕ) → base ≤ at → Does' (crep.run_layer names d callee (map-Crep Crep Does one y)) (two (placed_layer limit base (map-Crep Crep (ℕ → Placed) (placed limit base) y) at).stmt) (flow_layer (map-Crep Crep Flow flow_of y))) → Means (roll-Crep y)
  to_layer y h at l kept v u t w le a within =
      subst (λ m. Same (R kept) (m v w) (two (placed limit base (roll-Crep y) at).stmt u (done t w))) (sym (crep_roll names d callee y))
      (subst (λ (f : ℕ → Placed). Same (R kept) (crep.run_layer names d callee (map-Crep Crep Does one y) v w) (two (f at).stmt u (done t w))) (sym (placed_roll limit base y))
      (h at l kept v u t w (subst (λ f. above (variables f) ≤ base) (flow_roll y) le) a within))

  -- ---- rows

  rows : (all : List ((x : Crep) × Means x)) (at : ℕ) → base ≤ at → Does' (in_turn (map one (map (λ c. c.0) all))) (in_turn (map two (placed_row limit base (map (placed limit base) (map (λ c. c.0) all)) at).stmts)) (all_in_turn (map flow_of (map (λ c. c.0) all)))
  rows [] at l kept v u t w le a within = normal (R kept) v w u t (a, within)
  rows (p ∷ all) at l kept v u t w le a within =
      let k = above_append (variables (flow_of p.0)) (variables (all_in_turn (map flow_of (map (λ c. c.0) all)))) in
      then_same (R kept) (Paid 1 kept N) (one p.0 v w) (two (placed limit base p.0 at).stmt u (done t w)) _ _ (p.1 at l kept v u t w (omega (arith, le, k)) a within)
      (λ v w u t h. rows all (placed limit base p.0 at).next (goes_on limit base p.0 at l) kept v u t w (omega (arith, le, k)) h.0 h.1) (λ w after c. absurd c)

  -- where a statement goes on normally more is kept back than elsewhere
  keeps_more : (more kept : ℕ) (o o' : Outcome Locals (List ℕ)) → Same (R (more + kept)) o o' → Same (record (R kept) { normal = Paid 1 (more + kept) N }) o o'
  keeps_more more kept o o' s =
      less_same (R (more + kept)) (record (R kept) { normal = Paid 1 (more + kept) N }) (record {
        normal = λ v w u t h. h;
        broken = λ v w u t h. (h.0, let l = h.1 in omega (arith, l));
        continued = λ v w u t h. (h.0, let l = h.1 in omega (arith, l));
        returned = λ x w y t h. (h.0, let l = h.1 in omega (arith, l));
        raised = λ i x w y t h. (h.0, let l = h.1 in omega (arith, l));
        stopped = λ w t h. h;
        cut = λ w after h. h;
      }) o o' s

  -- ---- a step behind its operands

  -- a statement that gets these words and then does `go`, and the step that does it
  behind_does : (es : List Expr) (at : ℕ) → base ≤ at → (own k : ℕ) → all_steps es + k ≤ own → (step : List ℕ → Stmt) (go : List ℕ → Does) (go' : List ℕ → Does)
      → ((u : Locals) (w : World) → two (step (row_operands limit base es at)) u w ≡ go' (map u (row_operands limit base es at)) u (stepped k w))
      → (kept : ℕ) (v u : Locals) (t : ℕ) (w : World) (ns : List ℕ) → above (all_read es) ≤ base → Agree base v u → Within 1 kept t w → crep.words es v w ≡ Some ns
      → ((u : Locals) (t : ℕ) → Agree base v u → Within 1 kept t (stepped own w) → Same (R kept) (go ns v (stepped own w)) (go' ns u (done t (stepped own w))))
      → Same (R kept) (go ns v (stepped own w)) (two (behind limit base es at step) u (done t w))
  behind_does es at l own k enough step go go' does kept v u t w ns le a within h rest =
      let g = are_ready names d callee' base limit es at v ns u t w l le h a in
      let xs = row_operands limit base es at in
      let t' = after g.now k in
      let near = g.within in
      same_as (R kept) _ _ (go' ns g.after_them (done t' (stepped own w)))
      (behind_is names d callee' base limit es at v ns u t w step g ∙ does g.after_them (done g.now w) ∙ ap (λ ms. go' ms g.after_them (done t' w)) g.gives)
      (rest g.after_them t' g.agrees (omega (arith, near, within, enough)))

  -- ---- calls

  abbrev gave : (results : List ℕ) (k : ℕ) → Locals → List ℕ → World → Outcome Locals (List ℕ)
  gave results k u ns w = Normal (write_all results ns u) (stepped k w)

  gave_same : (results : List ℕ) (k kept : ℕ) (v u : Locals) → Agree base v u → (x y : List ℕ) (t : ℕ) (w : World) → Equal x w y → Within 1 kept t w → Same (R kept) (gave results k v x w) (gave results k u y (done t w))
  gave_same results k kept v u a x y t w e within =
      let w' = stepped k w in
      normal (R kept) (write_all results x v) w' (write_all results y u) (after t k)
      (subst (λ y. Agree base (write_all results x v) (write_all results y u)) (sym e) (agree_write_all base results x v u a), omega (arith, within))

  call_does : Follow → (results : List ℕ) (k f : ℕ) (ns : List ℕ) (kept : ℕ) (v u : Locals) (t : ℕ) (w : World) (threw threw' : ℕ → List ℕ → World → Outcome Locals (List ℕ)) → Agree base v u → Within 1 kept t w
      → ((i : ℕ) (x : List ℕ) (t : ℕ) (w : World) → Within 1 kept t w → Same (R kept) (threw i x w) (threw' i x (done t w)))
      → Same (R kept) (call callee f (Some ns) w (gave results k v) threw) (call callee' f (Some ns) (done t w) (gave results k u) threw')
  call_does follow results k f ns kept v u t w threw threw' a within caught =
      call_same (R kept) (Paid 1 kept Equal) (λ i. Paid 1 kept (EqualOf i)) callee callee' f ns ns w t _ threw _ threw' (omega (arith, within)) (λ n. follow kept f ns t (record w { fuel = n }) within)
      (λ x w' y t q. gave_same results k kept v u a x y t (back_in w w') q.0 q.1)
      (λ i x w' y t q. subst (λ y. Same (R kept) (threw i x (back_in w w')) (threw' i y (done t (back_in w w')))) (sym q.0) (caught i x t (back_in w w') q.1))
      (record { gave_grows = λ w after c. absurd c; threw_grows = λ w after c. absurd c })

  -- an exception is caught by both or by none
  catch_does : (b : Bool) (kept i : ℕ) (x : List ℕ) (t : ℕ) (w : World) (o o' : Outcome Locals (List ℕ)) → Within 1 kept t w → Same (R kept) o o' → Same (R kept) (if b then o else Raised i x (stepped 1 w)) (if b then o' else Raised i x (done (after t 1) (stepped 1 w)))
  catch_does false kept i x t w o o' within h = raised (R kept) i x (stepped 1 w) x (after t 1) (refl, omega (arith, within))
  catch_does true kept i x t w o o' within h = h

  -- ---- data memory and the shared window

  written_does : (size : Size) (addr n kept : ℕ) (v u : Locals) (t : ℕ) (w : World) → Agree base v u → Within 1 kept t w → Same (R kept) (with_written size addr n w (λ w. Normal v w)) (with_written size addr n (done t w) (λ w. Normal u w))
  written_does size addr n kept v u t w a within =
      value_same (R kept) (write size w.globals w.memory addr n) w (done t w) _ _ (λ m is. normal (R kept) v (record w { globals = m.0; memory = m.1 }) u t (a, within))

  loaded_does : (size : Size) (x addr kept : ℕ) (v u : Locals) (t : ℕ) (w : World) → Agree base v u → Within 1 kept t w
      → Same (R kept) (with_loaded size addr w (λ n w. Normal (write_local x n v) w)) (with_loaded size addr (done t w) (λ n w. Normal (write_local x n u) w))
  loaded_does size x addr kept v u t w a within =
      where_same (R kept) (is_shared size addr) w (done t w) _ _ (ask_same (R kept) (Load size addr) w t _ _ (omega (arith, within))
      (λ r rs es. normal (R kept) (write_local x (number r) v) (record w { replies = rs; trace = es }) (write_local x (number r) u) t (agree_write base x (number r) (number r) v u refl a, within)))

  stored_does : (size : Size) (addr n kept : ℕ) (v u : Locals) (t : ℕ) (w : World) → Agree base v u → Within 1 kept t w → Same (R kept) (with_stored size addr n w (λ w. Normal v w)) (with_stored size addr n (done t w) (λ w. Normal u w))
  stored_does size addr n kept v u t w a within =
      where_same (R kept) (is_shared size addr) w (done t w) _ _ (ask_same (R kept) (Store size addr _) w t _ _ (omega (arith, within))
      (λ r rs es. normal (R kept) v (record w { replies = rs; trace = es }) u t (a, within)))

  asked_does : (i : ℕ) (name : List ℕ) (p l q m kept : ℕ) (v u : Locals) (t : ℕ) (w : World) → Agree base v u → Within 1 kept t w → Same (R kept) (foreign i name p l q m v w) (foreign i name p l q m u (done t w))
  asked_does i name p l q m kept v u t w a within =
      value_same (R kept) (bytes_at w.memory p l) w (done t w) _ _ (λ conf is.
      value_same (R kept) (bytes_at w.memory q m) w (done t w) _ _ (λ array is.
      ask_same (R kept) (Foreign i name conf array) w t _ _ (omega (arith, within))
      (λ r rs es. normal (R kept) v (record w { replies = rs; trace = es; memory = with_reply w.memory q r }) u t (a, within))))

  -- ---- all statements

  -- the word of one operand, and of two
  with_one : (e : Expr) (v : Locals) (w : World) (n : ℕ) → crep.word e v w.globals w.memory ≡ Some n → crep.words (e ∷ []) v w ≡ Some (n ∷ [])
  with_one e v w n h = words_more v w.globals w.memory e [] n [] h refl

  with_two : (e f : Expr) (v : Locals) (w : World) (n m : ℕ) → crep.word e v w.globals w.memory ≡ Some n → crep.word f v w.globals w.memory ≡ Some m → crep.words (e ∷ f ∷ []) v w ≡ Some (n ∷ m ∷ [])
  with_two e f v w n m h k = words_more v w.globals w.memory e (f ∷ []) n (m ∷ []) h (with_one f v w m k)

  module _ (follow : Follow) where
    means_layer : (y : Crep-F ((x : Crep) × Means x)) → Means (roll-Crep (map-Crep ((x : Crep) × Means x) Crep (λ c. c.0) y))
    means_layer c.Skip = to_layer c.Skip (λ at l kept v u t w le a within.
        same_as (R kept) _ _ (Normal u (done (after t 0) (stepped 0 w))) (run_skip names d callee' u (done t w)) (normal (R kept) v (stepped 0 w) u (after t 0) (a, omega (arith, within))))
    means_layer (c.Seq all) = to_layer (c.Seq (map (λ c. c.0) all)) (λ at l kept v u t w le a within.
        let ss = (placed_row limit base (map (placed limit base) (map (λ c. c.0) all)) at).stmts in
        same_as (R kept) _ _ (in_turn (map two ss) u (done (after t 0) (stepped 0 w))) (run_seq names d callee' ss u (done t w))
        (rows all at l kept v u (after t 0) (stepped 0 w) le a (omega (arith, within))))
    means_layer (c.Assign x e) = to_layer (c.Assign x e) (λ at l kept v u t w le a within.
        let p = planned limit base (e ∷ []) at in
        let ss = (lower p.apart e).into x p.start in
        let k = above_append (variables_read e) (x ∷ []) in
        let w' = stepped (1 + expr_steps e) w in
        with_same (R kept) (crep.word e v w.globals w.memory) w' _ _ (λ n is.
        let g = means names d callee' base p.apart e v w.globals w.memory n (omega (arith, le, k)) is in
        let starts = (plan_fits limit base at _ _ l).starts in
        let r = g.into x p.start u t w starts refl refl a in
        let near = r.within in matched (record {
          second = r.behind;
          toll = r.now;
          holds = (agree_into base x n v u r.behind a r.gives (λ y low ne. r.rest y (omega (arith, low, starts)) ne), omega (arith, near, within));
          is = run_seq names d callee' ss u (done t w) ∙ ap (λ n. runs names d callee' base ss u (done n w)) (omega arith) ∙ r.is;
        })))
    means_layer (c.StoreWord x e) = to_layer (c.StoreWord x e) (λ at l kept v u t w le a within.
        let own = 1 + expr_steps x + expr_steps e in
        let es = x ∷ e ∷ [] in
        let xs = row_operands limit base es at in
        with_same (R kept) (crep.word x v w.globals w.memory) (stepped own w) _ _ (λ addr h.
        with_same (R kept) (crep.word e v w.globals w.memory) (stepped own w) _ _ (λ n k.
        behind_does es at l own 1 (omega arith) (λ xs. s.StoreWord (nth 0 xs) (nth 1 xs)) (λ ns u w. with_written B8 (nth 0 ns) (nth 1 ns) w (λ w. Normal u w)) (λ ns u w. with_written B8 (nth 0 ns) (nth 1 ns) w (λ w. Normal u w))
        (run_store_word names d callee' (nth 0 xs) (nth 1 xs)) kept v u t w (addr ∷ n ∷ []) le a within (with_two x e v w addr n h k) (λ u t a within. written_does B8 addr n kept v u t (stepped own w) a within))))
    means_layer (c.StoreByte x e) = to_layer (c.StoreByte x e) (λ at l kept v u t w le a within.
        let own = 1 + expr_steps x + expr_steps e in
        let es = x ∷ e ∷ [] in
        let xs = row_operands limit base es at in
        with_same (R kept) (crep.word x v w.globals w.memory) (stepped own w) _ _ (λ addr h.
        with_same (R kept) (crep.word e v w.globals w.memory) (stepped own w) _ _ (λ n k.
        behind_does es at l own 1 (omega arith) (λ xs. s.StoreByte (nth 0 xs) (nth 1 xs)) (λ ns u w. with_written B1 (nth 0 ns) (nth 1 ns) w (λ w. Normal u w)) (λ ns u w. with_written B1 (nth 0 ns) (nth 1 ns) w (λ w. Normal u w))
        (run_store_byte names d callee' (nth 0 xs) (nth 1 xs)) kept v u t w (addr ∷ n ∷ []) le a within (with_two x e v w addr n h k) (λ u t a within. written_does B1 addr n kept v u t (stepped own w) a within))))
    means_layer (c.If e p q) = to_layer (c.If e p.0 q.0) (λ at l kept v u t w le a within.
        let own = 2 + expr_steps e in
        let es = e ∷ [] in
        let x = nth 0 (row_operands limit base es at) in
        let from = (planned limit base es at).next in
        let first = placed limit base p.0 from in
        let second = placed limit base q.0 first.next in
        let k1 = above_append (variables_read e) (variables (flow_of p.0) ++ variables (flow_of q.0)) in
        let k2 = above_append (variables (flow_of p.0)) (variables (flow_of q.0)) in
        let k3 = above_append (variables_read e) [] in
        with_same (R kept) (crep.word e v w.globals w.memory) (stepped own w) _ _ (λ n k.
        behind_does es at l own 2 (omega arith) (λ xs. s.If (nth 0 xs) first.stmt second.stmt) (λ ns u w. if_not_zero (nth 0 ns) (one p.0 u w) (one q.0 u w)) (λ ns u w. if_not_zero (nth 0 ns) (two first.stmt u w) (two second.stmt u w))
        (run_if names d callee' x first.stmt second.stmt) kept v u t w (n ∷ []) (omega (arith, le, k1, k3)) a within (with_one e v w n k) (λ u t a within.
        let starts = planned_goes limit base es at l in
        choice_same (R kept) n _ _ _ _ (p.1 from starts kept v u t (stepped own w) (omega (arith, le, k1, k2)) a within)
        (q.1 first.next (goes_on limit base p.0 from starts) kept v u t (stepped own w) (omega (arith, le, k1, k2)) a within))))
    means_layer (c.While all e p) = to_layer (c.While (map (λ c. c.0) all) e p.0) (λ at l kept v u t w le a within.
        let xs = map (λ c. c.0) all in
        let r = placed_row limit base (map (placed limit base) xs) at in
        let es = e ∷ [] in
        let more = row_before limit base es r.next in
        let x = nth 0 (row_operands limit base es r.next) in
        let from = (planned limit base es r.next).next in
        let body = (placed limit base p.0 from).stmt in
        let steps = 16 * expr_steps e in
        let lr = all_go_on limit base xs at l in
        let before_them = variables (all_in_turn (map flow_of xs)) in
        let k1 = above_append (before_them ++ variables_read e) (variables (flow_of p.0)) in
        let k2 = above_append before_them (variables_read e) in
        let k3 = above_append (variables_read e) [] in
        same_as (R kept) _ _ (turns d (λ u w. in_turn (map two (r.stmts ++ more)) u (stepped 2 w)) (λ u w. Some (u x)) (two body) u (done (after t 1) (stepped 1 w)))
        (run_while names d callee' [] (r.stmts ++ more) x body u (done t w))
        (turns_tested (R kept) (Paid 1 kept N) (Paid 1 (steps + kept) N) (Paid 1 kept N) (Paid 1 kept N)
        (λ v w. in_turn (map one xs) v (stepped (test_steps e) w)) (λ v w. crep.word e v w.globals w.memory) (one p.0)
        (λ u w. in_turn (map two (r.stmts ++ more)) u (stepped 2 w)) (λ u w. in_turn (map two r.stmts) u (stepped 2 w)) (in_turn (map two more)) (λ u w. Some (u x)) (two body)
        (record {
          splits = λ u w. ap (λ ms. in_turn ms u (stepped 2 w)) (map-append two r.stmts more) ∙ in_turn_append (map two r.stmts) (map two more) u (stepped 2 w);
          firsts = λ v w u t h. let q = h.1 in keeps_more steps kept _ _ (rows all at l (steps + kept) v u (after t 2) (stepped (test_steps e) w) (omega (arith, le, k1, k2)) h.0 (omega (arith, q)));
          tests = λ v w u t n h is.
              let g = are_ready names d callee' base limit es r.next v (n ∷ []) u t w lr (omega (arith, le, k1, k2, k3)) (with_one e v w n is) h.0 in
              let near = g.within in let q = h.1 in
              (g.after_them, g.now, g.after_them x, g.is, refl, as_zero n (g.after_them x) (ap (nth 0) (sym g.gives)), (g.agrees, omega (arith, near, q)));
          leaves = λ v w u t h. h;
          begins = λ v w u t n h. h;
          inner = λ v w u t h. p.1 from (planned_goes limit base es r.next lr) kept v u t w (omega (arith, le, k1)) h.0 h.1;
          spent = λ v w u t h. let q = h.1 in omega (arith, q);
          spent_at_head = λ v w u t h. let q = h.1 in omega (arith, q);
          before_onward = λ w after c. absurd c;
          body_onward = λ w after c. absurd c;
        })
        d v (stepped 1 w) u (after t 1) (a, omega (arith, within))))
    means_layer c.Break = to_layer c.Break (λ at l kept v u t w le a within.
        same_as (R kept) _ _ (Broken u (done (after t 1) (stepped 1 w))) (run_break names d callee' u (done t w)) (broken (R kept) v (stepped 1 w) u (after t 1) (a, omega (arith, within))))
    means_layer c.Continue = to_layer c.Continue (λ at l kept v u t w le a within.
        same_as (R kept) _ _ (Continued u (done (after t 1) (stepped 1 w))) (run_continue names d callee' u (done t w)) (continued (R kept) v (stepped 1 w) u (after t 1) (a, omega (arith, within))))
    means_layer (c.Call results f es None) = to_layer (c.Call results f es None) (λ at l kept v u t w le a within.
        let own = passed es in
        let xs = row_operands limit base es at in
        let k = above_append (all_read es) results in
        let m = row_is es in let n = operands_count limit base es at in
        with_same (R kept) (crep.words es v w) (stepped own w) _ _ (λ ns h.
        behind_does es at l own (loops.passed xs) (omega (arith, m, n)) (λ xs. s.Call [] results f xs None) (λ ns u w. call_from callee f (Some ns) results None u w) (λ ns u w. call_from callee' f (Some ns) results None u w)
        (run_call names d callee' [] results f xs None) kept v u t w ns (omega (arith, le, k)) a within h (λ u t a within.
        call_does follow results (length results + 0) f ns kept v u t (stepped own w) (caught None v) (caught None u) a within (λ i x t w within. raised (R kept) i x w x t (refl, within)))))
    means_layer (c.Call results f es (Some h)) = to_layer (c.Call results f es (Some (record { exception = h.exception; variables = h.variables; body = h.body.0 }))) (λ at l kept v u t w le a within.
        let own = passed es in
        let xs = row_operands limit base es at in
        let from = (planned limit base es at).next in
        let body = (placed limit base h.body.0 from).stmt in
        let h1 : Handler Does = record { exception = h.exception; variables = h.variables; body = one h.body.0 } in
        let h2 : Handler Stmt = record { exception = h.exception; variables = h.variables; body = body } in
        let h3 : Handler Does = record { exception = h.exception; variables = h.variables; body = two body } in
        let inner = variables (flow_of h.body.0) in
        let k1 = above_append (all_read es) (results ++ (h.variables ++ inner)) in
        let k2 = above_append results (h.variables ++ inner) in
        let k3 = above_append h.variables inner in
        let m = row_is es in let n = operands_count limit base es at in
        with_same (R kept) (crep.words es v w) (stepped own w) _ _ (λ ns is.
        behind_does es at l own (loops.passed xs) (omega (arith, m, n)) (λ xs. s.Call [] results f xs (Some h2)) (λ ns u w. call_from callee f (Some ns) results (Some h1) u w) (λ ns u w. call_from callee' f (Some ns) results (Some h3) u w)
        (run_call names d callee' [] results f xs (Some h2)) kept v u t w ns (omega (arith, le, k1)) a within is (λ u t a within.
        call_does follow results (length results + 1) f ns kept v u t (stepped own w) (caught (Some h1) v) (caught (Some h3) u) a within (λ i x t w within.
        let taken = 1 + length h.variables in
        catch_does (nat_eq i h.exception) kept i x t w _ _ within
        (h.body.1 from (planned_goes limit base es at l) kept (write_all h.variables x v) (write_all h.variables x u) (after t taken) (stepped taken w) (omega (arith, le, k1, k2, k3)) (agree_write_all base h.variables x v u a) (omega (arith, within)))))))
    means_layer (c.TailCall f es) = to_layer (c.TailCall f es) (λ at l kept v u t w le a within.
        let own = passed es in
        let xs = row_operands limit base es at in
        let k = above_append (all_read es) [] in
        let m = row_is es in let n = operands_count limit base es at in
        with_same (R kept) (crep.words es v w) (stepped own w) _ _ (λ ns h.
        behind_does es at l own (loops.passed xs) (omega (arith, m, n)) (λ xs. s.TailCall f xs) (λ ns u w. tail_call callee f (Some ns) w) (λ ns u w. tail_call callee' f (Some ns) w)
        (run_tail_call names d callee' f xs) kept v u t w ns (omega (arith, le, k)) a within h (λ u t a within.
        let w' = stepped own w in
        tail_same (R kept) callee callee' f ns ns w' t (omega (arith, within)) (λ left. follow kept f ns t (leaving (record w' { fuel = left })) within))))
    means_layer (c.Return es) = to_layer (c.Return es) (λ at l kept v u t w le a within.
        let own = passed es in
        let xs = row_operands limit base es at in
        let k = above_append (all_read es) [] in
        let m = row_is es in let n = operands_count limit base es at in
        with_same (R kept) (crep.words es v w) (stepped own w) _ _ (λ ns h.
        behind_does es at l own (loops.passed xs) (omega (arith, m, n)) (λ xs. s.Return xs) (λ ns u w. Returned ns w) (λ ns u w. Returned ns w)
        (run_return names d callee' xs) kept v u t w ns (omega (arith, le, k)) a within h (λ u t a within. returned (R kept) ns (stepped own w) ns t (refl, within))))
    means_layer (c.Raise i es) = to_layer (c.Raise i es) (λ at l kept v u t w le a within.
        let own = passed es in
        let xs = row_operands limit base es at in
        let k = above_append (all_read es) [] in
        let m = row_is es in let n = operands_count limit base es at in
        with_same (R kept) (crep.words es v w) (stepped own w) _ _ (λ ns h.
        behind_does es at l own (loops.passed xs) (omega (arith, m, n)) (λ xs. s.Raise i xs) (λ ns u w. Raised i ns w) (λ ns u w. Raised i ns w)
        (run_raise names d callee' i xs) kept v u t w ns (omega (arith, le, k)) a within h (λ u t a within. raised (R kept) i ns (stepped own w) ns t (refl, within))))
    means_layer (c.SharedLoad size x e) = to_layer (c.SharedLoad size x e) (λ at l kept v u t w le a within.
        let own = 1 + expr_steps e in
        let es = e ∷ [] in
        let y = nth 0 (row_operands limit base es at) in
        let k1 = above_append (variables_read e) (x ∷ []) in
        let k2 = above_append (variables_read e) [] in
        with_same (R kept) (crep.word e v w.globals w.memory) (stepped own w) _ _ (λ addr h.
        behind_does es at l own 1 (omega arith) (λ xs. s.SharedLoad size x (nth 0 xs)) (λ ns u w. with_loaded size (nth 0 ns) w (λ n w. Normal (write_local x n u) w)) (λ ns u w. with_loaded size (nth 0 ns) w (λ n w. Normal (write_local x n u) w))
        (run_shared_load names d callee' size x y) kept v u t w (addr ∷ []) (omega (arith, le, k1, k2)) a within (with_one e v w addr h) (λ u t a within. loaded_does size x addr kept v u t (stepped own w) a within)))
    means_layer (c.SharedStore size x e) = to_layer (c.SharedStore size x e) (λ at l kept v u t w le a within.
        let own = 1 + expr_steps x + expr_steps e in
        let es = x ∷ e ∷ [] in
        let xs = row_operands limit base es at in
        with_same (R kept) (crep.word x v w.globals w.memory) (stepped own w) _ _ (λ addr h.
        with_same (R kept) (crep.word e v w.globals w.memory) (stepped own w) _ _ (λ n k.
        behind_does es at l own 1 (omega arith) (λ xs. s.SharedStore size (nth 0 xs) (nth 1 xs)) (λ ns u w. with_stored size (nth 0 ns) (nth 1 ns) w (λ w. Normal u w)) (λ ns u w. with_stored size (nth 0 ns) (nth 1 ns) w (λ w. Normal u w))
        (run_shared_store names d callee' size (nth 0 xs) (nth 1 xs)) kept v u t w (addr ∷ n ∷ []) le a within (with_two x e v w addr n h k) (λ u t a within. stored_does size addr n kept v u t (stepped own w) a within))))
    means_layer (c.Foreign i e f g h) = to_layer (c.Foreign i e f g h) (λ at l kept v u t w le a within.
        let own = 4 + expr_steps e + expr_steps f + expr_steps g + expr_steps h in
        let es = e ∷ f ∷ g ∷ h ∷ [] in
        let xs = row_operands limit base es at in
        let gs = w.globals in let m = w.memory in
        let k = above_append (all_read es) [] in
        with_same (R kept) (slice_get names i) (stepped own w) _ _ (λ name known.
        with_same (R kept) (crep.word e v gs m) (stepped own w) _ _ (λ p k1.
        with_same (R kept) (crep.word f v gs m) (stepped own w) _ _ (λ pl k2.
        with_same (R kept) (crep.word g v gs m) (stepped own w) _ _ (λ q k3.
        with_same (R kept) (crep.word h v gs m) (stepped own w) _ _ (λ ql k4.
        let asks : List ℕ → ℕ → List ℕ → Does = λ name i ns u w. foreign i name (nth 0 ns) (nth 1 ns) (nth 2 ns) (nth 3 ns) u w in
        behind_does es at l own 4 (omega arith) (λ xs. s.Foreign [] i (nth 0 xs) (nth 1 xs) (nth 2 xs) (nth 3 xs)) (asks name i) (λ ns u w. with_value (slice_get names i) w (λ name. asks name i ns u w))
        (run_foreign names d callee' [] i (nth 0 xs) (nth 1 xs) (nth 2 xs) (nth 3 xs)) kept v u t w (p ∷ pl ∷ q ∷ ql ∷ []) (omega (arith, le, k)) a within
        (words_more v gs m e (f ∷ g ∷ h ∷ []) p (pl ∷ q ∷ ql ∷ []) k1 (words_more v gs m f (g ∷ h ∷ []) pl (q ∷ ql ∷ []) k2 (words_more v gs m g (h ∷ []) q (ql ∷ []) k3 (words_more v gs m h [] ql [] k4 refl))))
        (λ u t a within.
        let w' = stepped own w in
        same_as (R kept) _ _ (foreign i name p pl q ql u (done t w')) (ap (λ o. with_value o (done t w') (λ name. foreign i name p pl q ql u (done t w'))) known) (asked_does i name p pl q ql kept v u t w' a within))))))))

    pub statement_means : (x : Crep) → Means x
    statement_means = crep_induct Means means_layer
