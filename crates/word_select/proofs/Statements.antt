-- A selected statement does what the statement does.
use Rattle.std.proofs.Common.{◌≡◌, ◌≢◌, ℕ, zero, suc, ◌+◌, ◌-◌, ◌*◌, ◌%◌, ◌^◌, ◌≤◌, ◌<◌, Bool, true, false, List, [], ◌∷◌, ◌++◌, map, length, Option, Some, None, arith, refl, sym, ap, subst, ◌∙◌}
use Rattle.std.specs.Prelude.{pos, nat_eq, not, if◌then◌else◌, slice_get}
use Rattle.std.specs.Int.Bits.{or_zero_r}
use Rattle.std.proofs.lemmas.Bool.Decides.{nat_tests}
use Rattle.std.proofs.Math.Nat.{add_comm}
use Rattle.pan_base.specs.declared.events.Size.{Size}
use Rattle.pan_base.specs.declared.events.Size.TheVariants.{B1, B8}
use Rattle.pan_base.specs.declared.operators.BinOp.{BinOp}
use Rattle.pan_base.specs.declared.operators.BinOp.TheVariants as bin_op
use Rattle.pan_base.specs.declared.operators.Cmp.TheVariants as cmp
use Rattle.pan_base.specs.declared.operators.IOp.TheVariants as iop
use Rattle.pan_base.specs.declared.operators.LOp.{LOp}
use Rattle.pan_base.specs.declared.operators.LOp.TheVariants as lop
use Rattle.pan_base.specs.declared.operators.SOp.{SOp}
use Rattle.pan_base.specs.declared.operators.SOp.TheVariants as sop
use Rattle.pan_base.specs.Events.{Load, Store, Foreign, byte_count}
use Rattle.pan_base.specs.Results.{plus, l_result, loads, stores}
use Rattle.pan_base.specs.Words.{operate, shift, truth}
use Rattle.pan_control.specs.World.{back_in, leaving}
use Rattle.pan_control.specs.Memory.{is_shared, bytes_at}
use Rattle.pan_control.specs.Control.{Normal, Raised, in_turn, with_value, where_true, if_not_zero, ask, turns, call, tail_call}
use Rattle.pan_control.specs.Runs.{number, with_reply, foreign}
use Rattle.pan_flow.specs.Flow.{Flow}
use Rattle.pan_flow.specs.Functions.{variables, above, all_in_turn}
use Rattle.pan_stage.specs.Data.{World, Outcome, Meaning, Callee, read, write}
use Rattle.pan_stage.specs.Data as data_memory
use Rattle.pan_stage.specs.Locals.{Locals, write as write_local, write_all}
use Rattle.pan_stage.specs.Programs.{Does, caught}
use Rattle.pan_stage.specs.Shared.{with_loaded, with_stored}
use Rattle.pan_stage.specs.Toll.{stepped}
use Rattle.pan_stage.specs.declared.program.Handler.{Handler}
use Rattle.pan_stage.proofs.Follows.{Ends, Same, matched, normal, raised, same_as, then_same, with_same, value_same, ask_same, call_same, tail_same}
use Rattle.pan_stage.proofs.Paid.{Within, Paid, same_globals, no_cuts, paid, left_paid, relates_less}
use Rattle.pan_stage.proofs.Turning.{AsZero, as_zero, choice_as, turns_both}
use Rattle.pan_stage.proofs.Words.{done}
use Rattle.pan_stage.proofs.Agreeing.{Agree, write_same, write_other, agree_write, agree_write_all, agree_into}
use Rattle.loop_lang.specs.Meaning as loop
use Rattle.loop_lang.specs.Steps.{passed}
use Rattle.loop_lang.specs.Text.{flow_layer, flow_of}
use Rattle.loop_lang.specs.declared.syntax.Stmt.{Stmt as Loop, Stmt-F as Loop-F, roll-Stmt as roll-Loop, map-Stmt as map-Loop}
use Rattle.loop_lang.specs.declared.syntax.Stmt.TheOpen as c
use Rattle.word_lang.specs.Meaning.{run, operand as operand_word, outcome}
use Rattle.word_lang.specs.declared.syntax.Stmt.{Stmt}
use Rattle.word_lang.specs.declared.syntax.Stmt.TheVariants as s
use Rattle.word_lang.proofs.Equations.{run_skip, run_seq, run_const, run_imm, run_load, run_store, run_if, run_while, run_break, run_continue, run_call, run_tail_call, run_return, run_raise, run_shared_load, run_shared_store, run_foreign}
use Rattle.word_select.specs.declared.facts.Fact.{Fact}
use Rattle.word_select.specs.declared.facts.Fact.TheVariants.{Number, Sum, Compared}
use Rattle.word_select.specs.declared.operands.Address.{Address}
use Rattle.word_select.specs.Facts.{value_of, Facts, Holds, forget, learn, found, number_at, immediate_of, negated}
use Rattle.word_select.specs.Selected.{operation, right_sum, operation_facts, comparison, operand_of, operand, test_by, test_at, at_itself, address_by, address_at, Selects, in_row, shift_steps, select_layer, selected}
use Rattle.word_select.proofs.Above.{above_left, above_right}
use Rattle.word_select.proofs.FactLaws.{when_case, holds_forget, holds_learn, holds_found, number_holds, immediate_is, negated_sum}
use Rattle.word_select.proofs.LoopLayers.{stmt_induct, run_roll, flow_roll, selected_roll}
use Rattle.word_select.proofs.Operations.{rows, One, Many, operation_one, comparison_many, shift_many}
use Rattle.word_select.proofs.Reach.{IsReachable, read_reached, write_reached, still_reached, shared_reached, plus_nothing, reply_reached, ask_fitting, where_first}

-- ---- what is known behind an operation

right_sum_holds : (x a b : ℕ) (ps : Facts) (u : Locals) → Holds ps u → Holds (right_sum x a b ps) (write_local x ((u a + u b) % 2 ^ 64) u)
right_sum_holds x a b ps u h =
    let n = (u a + u b) % 2 ^ 64 in
    when_case (λ qs. Holds qs (write_local x n u)) (number_at b ps) _ _
    (λ c e. holds_learn ps x (Sum a c) u (write_local x n u) (λ y ne. write_other x n y u ne) (write_same x n u ∙ ap (λ c. (u a + c) % 2 ^ 64) (number_holds ps b c u e h)) h)
    (holds_forget ps x u (write_local x n u) (λ y ne. write_other x n y u ne) h)

holds_operation : (o : BinOp) (x a b : ℕ) (ps : Facts) (u : Locals) → Holds ps u → Holds (operation_facts o x a b ps) (write_local x (operate o (u a) (u b)) u)
holds_operation bin_op.Add x a b ps u h =
    let n = operate bin_op.Add (u a) (u b) in
    when_case (λ qs. Holds qs (write_local x n u)) (number_at b ps) _ _
    (λ c e. holds_learn ps x (Sum a c) u (write_local x n u) (λ y ne. write_other x n y u ne) (write_same x n u ∙ ap (λ c. (u a + c) % 2 ^ 64) (number_holds ps b c u e h)) h)
    (subst (λ m. Holds (right_sum x b a ps) (write_local x (m % 2 ^ 64) u)) (add_comm (u b) (u a)) (right_sum_holds x b a ps u h))
holds_operation bin_op.Sub x a b ps u h =
    let n = operate bin_op.Sub (u a) (u b) in
    when_case (λ qs. Holds qs (write_local x n u)) (number_at b ps) _ _
    (λ c e. holds_learn ps x (Sum a (negated c)) u (write_local x n u) (λ y ne. write_other x n y u ne) (write_same x n u ∙ ap (λ c. (u a + (2 ^ 64 - c)) % 2 ^ 64) (number_holds ps b c u e h) ∙ sym (negated_sum (u a) c)) h)
    (holds_forget ps x u (write_local x n u) (λ y ne. write_other x n y u ne) h)
holds_operation bin_op.Mul x a b ps u h = holds_forget ps x u _ (λ y ne. write_other x _ y u ne) h
holds_operation bin_op.And x a b ps u h = holds_forget ps x u _ (λ y ne. write_other x _ y u ne) h
holds_operation bin_op.Or x a b ps u h = holds_forget ps x u _ (λ y ne. write_other x _ y u ne) h
holds_operation bin_op.Xor x a b ps u h = holds_forget ps x u _ (λ y ne. write_other x _ y u ne) h

-- where x and t alone are written
holds_two : (ps : Facts) (x t : ℕ) (u u' : Locals) → ((y : ℕ) → y ≢ x → y ≢ t → u' y ≡ u y) → Holds ps u → Holds (forget x (forget t ps)) u'
holds_two ps x t u u' rest h =
    let u1 = write_local t (u' t) u in
    holds_forget (forget t ps) x u1 u' (λ y ne. by y ne (nat_eq y t) refl) (holds_forget ps t u u1 (λ y ne. write_other t (u' t) y u ne) h)
  where
    by : (y : ℕ) → y ≢ x → (b : Bool) → nat_eq y t ≡ b → u' y ≡ (if b then u' t else u y)
    by y ne true e = let k : y ≡ t = grind (arith, nat_tests) in ap u' k
    by y ne false e = rest y ne (λ k. grind (arith, nat_tests))

-- ---- tests and addresses

operand_holds : (ps : Facts) (x : ℕ) (u : Locals) → Holds ps u → operand_word (operand x ps) u ≡ u x
operand_holds ps x u h = by (number_at x ps) (λ c e. number_holds ps x c u e h)
  where
    by : (o : Option ℕ) → ((c : ℕ) → o ≡ Some c → u x ≡ c) → operand_word (operand_of o x) u ≡ u x
    by None f = refl
    by (Some zero) f = sym (f 0 refl)
    by (Some (suc n)) f = refl

nonzero : (n : ℕ) → AsZero n (truth cmp.Ne n 0)
nonzero zero = tt
nonzero (suc n) = by (nat_eq (suc n) 0) refl
  where
    by : (b : Bool) → nat_eq (suc n) 0 ≡ b → AsZero (suc n) (if not b then 1 else 0)
    by false e = tt
    by true e = absurd (grind (arith, nat_tests))

test_holds : (ps : Facts) (x : ℕ) (u : Locals) → Holds ps u → AsZero (u x) (outcome (test_at x ps) u)
test_holds ps x u h = by (found x ps) (λ f e. holds_found ps x f u e h) (λ a. operand_holds ps a u h)
  where
    by : (o : Option Fact) → ((f : Fact) → o ≡ Some f → u x ≡ value_of f u) → ((a : ℕ) → operand_word (operand a ps) u ≡ u a) → AsZero (u x) (outcome (test_by o x ps) u)
    by None is g = nonzero (u x)
    by (Some (Number zero)) is g = as_zero (u x) 0 (is (Number zero) refl)
    by (Some (Number (suc n))) is g = subst (λ m. AsZero m 1) (sym (is (Number (suc n)) refl)) tt
    by (Some (Sum a n)) is g = nonzero (u x)
    by (Some (Compared t a b)) is g =
        as_zero (u x) (truth t (operand_word (operand a ps) u) (operand_word (operand b ps) u))
        (is (Compared t a b) refl ∙ ap (λ n. truth t n (u b)) (sym (g a)) ∙ ap (truth t (operand_word (operand a ps) u)) (sym (g b)))

address_holds : (ps : Facts) (x : ℕ) (u : Locals) → Holds ps u → u x < 2 ^ 64 → plus (u (address_at x ps).base) (address_at x ps).offset ≡ u x
address_holds ps x u h l = by (found x ps) (λ f e. holds_found ps x f u e h)
  where
    by : (o : Option Fact) → ((f : Fact) → o ≡ Some f → u x ≡ value_of f u) → plus (u (address_by o x).base) (address_by o x).offset ≡ u x
    by None is = plus_nothing (u x) l
    by (Some (Number n)) is = plus_nothing (u x) l
    by (Some (Compared t a b)) is = plus_nothing (u x) l
    by (Some (Sum a n)) is =
        when_case (λ (at : Address). plus (u at.base) at.offset ≡ u x) (immediate_of n) (λ i. record { base = a; offset = i }) (at_itself x)
        (λ i e. (immediate_is n i e).sum (u a) ∙ sym (is (Sum a n) refl)) (plus_nothing (u x) l)

-- what the second has done is covered by what the first was worth
covered : (t k own : ℕ) (w : World) → k ≤ 16 * own → Within 1 0 t w → Within 1 0 (t + k) (stepped own w)
covered t k own w m h = omega (arith, m, h)

-- the words that a function leaves are the same, and data memory ends below 2 ^ 64
abbrev pub Given : List ℕ → World → List ℕ → Type 0
Given ns w ms = (ms ≡ ns) × IsReachable w

abbrev pub GivenOf : ℕ → List ℕ → World → List ℕ → Type 0
GivenOf i = Given

module _ (names : List (List ℕ)) (d count : ℕ) (callee callee' : Callee (List ℕ) (List ℕ)) where
  -- the variables of steps have the same words in operations, of which this is known
  abbrev pub N : Facts → Locals → World → Locals → Type 0
  N ps v w u = Agree count v u × Holds ps u × IsReachable w

  abbrev pub R : Facts → Ends (List ℕ) (List ℕ) Locals Locals (List ℕ) (List ℕ)
  R ps = paid same_globals no_cuts 1 0 (N ps) (N []) (N []) Given GivenOf

  abbrev pub S : Facts → Outcome Locals (List ℕ) → Outcome Locals (List ℕ) → Type 0
  S ps a b = Same (R ps) a b

  abbrev pub Follow : Type 0
  Follow = (f : ℕ) (ns : List ℕ) (t : ℕ) (w : World) → IsReachable w → Within 1 0 t w → Same (left_paid same_globals no_cuts 1 0 Given GivenOf) (callee f ns w) (callee' f ns (done t w))

  abbrev pub run' : Stmt → Does
  run' = run names d callee'

  abbrev pub loop_run : Loop → Does
  loop_run = loop.run names d callee

  abbrev pub Does' : Does → Selects → Flow → Type 0
  Does' m f flow = (ps : Facts) (v u : Locals) (t : ℕ) (w : World) → above (variables flow) ≤ count → Agree count v u × Holds ps u × IsReachable w → Within 1 0 t w → S (f ps).facts (m v w) (run' (f ps).stmt u (done t w))

  abbrev pub Means : Loop → Type 0
  Means x = Does' (loop_run x) (selected count x) (flow_of x)

  to_layer : (y : Loop-F Loop) → Does' (loop.run_layer names d callee (map-Loop Loop Does loop_run y)) (select_layer count (map-Loop Loop Selects (selected count) y)) (flow_layer (map-Loop Loop Flow flow_of y)) → Means (roll-Loop y)
  to_layer y h ps v u t w le a within =
      subst (λ (m : Does). S (selected count (roll-Loop y) ps).facts (m v w) (run' (selected count (roll-Loop y) ps).stmt u (done t w))) (sym (run_roll names d callee y))
      (subst (λ (f : Selects). S (f ps).facts (loop.run_layer names d callee (map-Loop Loop Does loop_run y) v w) (run' (f ps).stmt u (done t w))) (sym (selected_roll count y))
      (h ps v u t w (subst (λ f. above (variables f) ≤ count) (flow_roll y) le) a within))

  -- ---- what writes one variable

  one_set : (stmt : Stmt) (x n m : ℕ) (qs : Facts) (v u : Locals) (t : ℕ) (w : World) → One names d callee' stmt x m u → m ≡ n → Agree count v u → IsReachable w → Holds qs (write_local x m u) → Within 1 0 t w
      → S qs (Normal (write_local x n v) (stepped 1 w)) (run' stmt u (done t w))
  one_set stmt x n m qs v u t w one e a reach h within =
      matched (record { second = write_local x m u; toll = t + 16; holds = ((agree_write count x n m v u e a, h, reach), covered t 16 1 w (omega arith) within); is = one.at t w })

  many_set : (ss : List Stmt) (x y n m : ℕ) (qs : Facts) (v u : Locals) (t : ℕ) (w : World) → Many names d callee' ss 3 x m y u → m ≡ n → ((z : ℕ) → z < count → z ≢ x → z ≢ y) → Agree count v u → IsReachable w
      → ((u' : Locals) → u' x ≡ m → ((z : ℕ) → z ≢ x → z ≢ y → u' z ≡ u z) → Holds qs u') → Within 1 0 t w
      → S qs (Normal (write_local x n v) (stepped 3 w)) (run' (s.Seq ss) u (done t w))
  many_set ss x y n m qs v u t w many e other a reach h within =
      let r = many.at t w in let k = r.2 in
      matched (record {
        second = r.0;
        toll = t + r.1;
        holds = ((agree_into count x n v u r.0 a (r.4 ∙ e) (λ z l ne. r.5 z ne (other z l ne)), h r.0 r.4 r.5, reach), covered t r.1 3 w (omega (arith, k)) within);
        is = run_seq names d callee' ss u (done t w) ∙ ap (λ n. rows names d callee' ss u (done n w)) (omega arith) ∙ r.3;
      })

  -- ---- rows

  in_rows : (all : List ((x : Loop) × Means x)) (ps : Facts) (v u : Locals) (t : ℕ) (w : World) → above (variables (all_in_turn (map flow_of (map (λ c. c.0) all)))) ≤ count → Agree count v u × Holds ps u × IsReachable w → Within 1 0 t w
      → S (in_row (map (selected count) (map (λ c. c.0) all)) ps).facts (in_turn (map loop_run (map (λ c. c.0) all)) v w) (in_turn (map run' (in_row (map (selected count) (map (λ c. c.0) all)) ps).stmts) u (done t w))
  in_rows [] ps v u t w le a within = normal (R ps) v w u t (a, within)
  in_rows (p ∷ all) ps v u t w le a within =
      let one = selected count p.0 ps in
      let first = variables (flow_of p.0) in
      let others = variables (all_in_turn (map flow_of (map (λ c. c.0) all))) in
      then_same (R (in_row (map (selected count) (map (λ c. c.0) all)) one.facts).facts) (Paid 1 0 (N one.facts)) (loop_run p.0 v w) (run' one.stmt u (done t w)) _ _ (p.1 ps v u t w (above_left count first others le) a within)
      (λ v w u t h. in_rows all one.facts v u t w (above_right count first others le) h.0 h.1) (λ w after c. absurd c)

  -- nothing is known
  unknown : (qs : Facts) (x y : Outcome Locals (List ℕ)) → S qs x y → S [] x y
  unknown qs x y h = relates_less same_globals no_cuts 1 (N qs) (N []) (N []) Given GivenOf (N []) (N []) (N []) 0 x y (λ v w u a. (a.0, tt, a.2)) (λ v w u a. a) (λ v w u a. a) h

  words : (xs : List ℕ) (v u : Locals) → above xs ≤ count → Agree count v u → map u xs ≡ map v xs
  words [] v u l a = refl
  words (x ∷ xs) v u l a = ap (λ n. n ∷ map u xs) (a.at x (omega (arith, l))) ∙ ap (λ ns. v x ∷ ns) (words xs v u (omega (arith, l)) a)

  -- ---- calls

  call_does : Follow → (results arguments : List ℕ) (f k : ℕ) (v u : Locals) (t : ℕ) (w : World) (threw threw' : ℕ → List ℕ → World → Outcome Locals (List ℕ)) → map u arguments ≡ map v arguments → Agree count v u → IsReachable w → Within 1 0 t w
      → ((i : ℕ) (x : List ℕ) (t : ℕ) (w : World) → IsReachable w → Within 1 0 t w → S [] (threw i x w) (threw' i x (done t w)))
      → S [] (call callee f (Some (map v arguments)) w (λ ns w. Normal (write_all results ns v) (stepped k w)) threw) (call callee' f (Some (map u arguments)) (done t w) (λ ns w. Normal (write_all results ns u) (stepped k w)) threw')
  call_does follow results arguments f k v u t w threw threw' e a reach within caught =
      subst (λ ms. S [] (call callee f (Some (map v arguments)) w (λ ns w. Normal (write_all results ns v) (stepped k w)) threw) (call callee' f (Some ms) (done t w) (λ ns w. Normal (write_all results ns u) (stepped k w)) threw')) (sym e)
      (call_same (R []) (Paid 1 0 Given) (λ i. Paid 1 0 (GivenOf i)) callee callee' f (map v arguments) (map v arguments) w t _ threw _ threw' within (λ n. follow f (map v arguments) t (record w { fuel = n }) reach within)
      (λ x w' y t q.
      let l = q.1 in
      normal (R []) (write_all results x v) (stepped k (back_in w w')) (write_all results y u) (t + 16 * k)
      ((subst (λ y. Agree count (write_all results x v) (write_all results y u)) (sym (q.0).0) (agree_write_all count results x v u a), tt, (q.0).1), omega (arith, l)))
      (λ i x w' y t q. subst (λ y. S [] (threw i x (back_in w w')) (threw' i y (done t (back_in w w')))) (sym (q.0).0) (caught i x t (back_in w w') (q.0).1 q.1))
      (record { gave_grows = λ w after c. absurd c; threw_grows = λ w after c. absurd c }))

  -- an exception is caught by both or by none
  caught_does : (h g : Handler Does) (v u : Locals) (i : ℕ) (x : List ℕ) (t : ℕ) (w : World) → g.exception ≡ h.exception → g.variables ≡ h.variables → Agree count v u → IsReachable w → Within 1 0 t w
      → ((v u : Locals) (t : ℕ) (w : World) → Agree count v u → IsReachable w → Within 1 0 t w → S [] (h.body v w) (g.body u (done t w)))
      → S [] (caught (Some h) v i x w) (caught (Some g) u i x (done t w))
  caught_does h g v u i x t w e e2 a reach within body =
      subst (λ n. S [] (caught (Some h) v i x w) (if nat_eq i n then g.body (write_all g.variables x u) (stepped (1 + length g.variables) (done t w)) else Raised i x (stepped 1 (done t w)))) (sym e)
      (subst (λ ys. S [] (caught (Some h) v i x w) (if nat_eq i h.exception then g.body (write_all ys x u) (stepped (1 + length ys) (done t w)) else Raised i x (stepped 1 (done t w)))) (sym e2)
      (by (nat_eq i h.exception)))
    where
      by : (b : Bool) → S [] (if b then h.body (write_all h.variables x v) (stepped (1 + length h.variables) w) else Raised i x (stepped 1 w)) (if b then g.body (write_all h.variables x u) (stepped (1 + length h.variables) (done t w)) else Raised i x (stepped 1 (done t w)))
      by true = body (write_all h.variables x v) (write_all h.variables x u) (t + 16 * (1 + length h.variables)) (stepped (1 + length h.variables) w) (agree_write_all count h.variables x v u a) reach (omega (arith, within))
      by false = raised (R []) i x (stepped 1 w) x (t + 16) ((refl, reach), omega (arith, within))

  -- ---- accesses

  -- the address of an access that doesn't fail
  address_is : (ps : Facts) (y : ℕ) (v u : Locals) → y < count → Agree count v u → Holds ps u → v y < 2 ^ 64 → plus (u (address_at y ps).base) (address_at y ps).offset ≡ v y
  address_is ps y v u l a h word = let e = a.at y l in address_holds ps y u h (omega (arith, e, word)) ∙ e

  load_does : (o : LOp) (size : Size) (x y : ℕ) (ps : Facts) (v u : Locals) (t : ℕ) (w : World) → loads o ≡ size → ((n : ℕ) → l_result o n ≡ n) → y < count → Agree count v u × Holds ps u × IsReachable w → Within 1 0 t w
      → S (forget x ps) (data_memory.with_read size (v y) (stepped 1 w) (λ n. Normal (write_local x n v) (stepped 1 w))) (run' (s.Load o x (address_at y ps).base (address_at y ps).offset) u (done t w))
  load_does o size x y ps v u t w same plain l a within =
      let at = address_at y ps in
      with_same (R (forget x ps)) (read size w.globals w.memory (v y)) (stepped 1 w) _ _ (λ n is.
      let word = read_reached size w.globals w.memory (v y) n (a.2).globals (a.2).local is in
      matched (record {
        second = write_local x n u;
        toll = t + 16;
        holds = ((agree_write count x n n v u refl a.0, holds_forget ps x u (write_local x n u) (λ z ne. write_other x n z u ne) a.1, a.2), covered t 16 1 w (omega arith) within);
        is =
            run_load names d callee' o x at.base at.offset u (done t w)
            ∙ ap (λ size. data_memory.with_read size (plus (u at.base) at.offset) (done (t + 16) w) (λ n. Normal (write_local x (l_result o n) u) (done (t + 16) w))) same
            ∙ ap (λ o'. with_value o' (done (t + 16) w) (λ n. Normal (write_local x (l_result o n) u) (done (t + 16) w))) (ap (read size w.globals w.memory) (address_is ps y v u l a.0 a.1 word) ∙ is)
            ∙ ap (λ n. Normal (write_local x n u) (done (t + 16) w)) (plain n);
      }))

  store_does : (o : SOp) (size : Size) (y x : ℕ) (ps : Facts) (v u : Locals) (t : ℕ) (w : World) → stores o ≡ size → y < count → x < count → Agree count v u × Holds ps u × IsReachable w → Within 1 0 t w
      → S ps (data_memory.with_written size (v y) (v x) (stepped 1 w) (λ w. Normal v w)) (run' (s.Store o x (address_at y ps).base (address_at y ps).offset) u (done t w))
  store_does o size y x ps v u t w same l m a within =
      let at = address_at y ps in
      with_same (R ps) (write size w.globals w.memory (v y) (v x)) (stepped 1 w) _ _ (λ m' is.
      let word = write_reached size w (v y) (v x) m' a.2 is in
      matched (record {
        second = u;
        toll = t + 16;
        holds = ((a.0, a.1, still_reached size w (v y) (v x) m' a.2 is), covered t 16 1 w (omega arith) within);
        is =
            run_store names d callee' o x at.base at.offset u (done t w)
            ∙ ap (λ size. data_memory.with_written size (plus (u at.base) at.offset) (u x) (done (t + 16) w) (λ w. Normal u w)) same
            ∙ ap (λ o'. with_value o' (done (t + 16) w) (λ (e : List ℕ × List ℕ). Normal u (record w { globals = e.0; memory = e.1; toll = t + 16 })))
            (ap (λ n. write size w.globals w.memory n (u x)) (address_is ps y v u l a.0 a.1 word) ∙ ap (write size w.globals w.memory (v y)) ((a.0).at x m) ∙ is);
      }))

  module _ (follow : Follow) where
    means_layer : (y : Loop-F ((x : Loop) × Means x)) → Means (roll-Loop (map-Loop ((x : Loop) × Means x) Loop (λ c. c.0) y))
    means_layer c.Skip = to_layer c.Skip (λ ps v u t w le a within. matched (record { second = u; toll = t + 0; holds = (a, covered t 0 0 w (omega arith) within); is = run_skip names d callee' u (done t w) }))
    means_layer (c.Seq all) = to_layer (c.Seq (map (λ c. c.0) all)) (λ ps v u t w le a within.
        let ss = (in_row (map (selected count) (map (λ c. c.0) all)) ps).stmts in
        same_as (R (in_row (map (selected count) (map (λ c. c.0) all)) ps).facts) _ _ (in_turn (map run' ss) u (done (t + 0) (stepped 0 w))) (run_seq names d callee' ss u (done t w))
        (in_rows all ps v u (t + 0) (stepped 0 w) le a (covered t 0 0 w (omega arith) within)))
    means_layer (c.Const x n) = to_layer (c.Const x n) (λ ps v u t w le a within.
        one_set (s.Const x n) x n n (learn x (Number n) ps) v u t w (record { at = λ did w. run_const names d callee' x n u (done did w) }) refl a.0 a.2
        (holds_learn ps x (Number n) u (write_local x n u) (λ y ne. write_other x n y u ne) (write_same x n u) a.1) within)
    means_layer (c.Move x y) = to_layer (c.Move x y) (λ ps v u t w le a within.
        one_set (s.Imm iop.Ori x y (pos 0)) x (v y) (u y) (forget x ps) v u t w
        (record { at = λ did w. run_imm names d callee' iop.Ori x y (pos 0) u (done did w) ∙ ap (λ n. Normal (write_local x n u) (done (did + 16) w)) (or_zero_r (u y)) })
        ((a.0).at y (omega (arith, le))) a.0 a.2 (holds_forget ps x u (write_local x (u y) u) (λ z ne. write_other x (u y) z u ne) a.1) within)
    means_layer (c.Bin f x y z) = to_layer (c.Bin f x y z) (λ ps v u t w le a within.
        one_set (operation f x y z ps) x (operate f (v y) (v z)) (operate f (u y) (u z)) (operation_facts f x y z ps) v u t w (operation_one names d callee' f x y z ps u a.1)
        (ap (λ n. operate f n (u z)) ((a.0).at y (omega (arith, le))) ∙ ap (operate f (v y)) ((a.0).at z (omega (arith, le)))) a.0 a.2 (holds_operation f x y z ps u a.1) within)
    means_layer (c.Shift f x y n) = to_layer (c.Shift f x y n) (λ ps v u t w le a within.
        many_set (shift_steps count f x y n) x count (shift f (v y) n) (shift f (u y) n) (forget x (forget count ps)) v u t w
        (shift_many names d callee' f count x y n u (λ e. omega (arith, le, e)) (λ e. omega (arith, le, e)))
        (ap (λ m. shift f m n) ((a.0).at y (omega (arith, le)))) (λ z l ne e. omega (arith, l, e)) a.0 a.2 (λ u' is rest. holds_two ps x count u u' rest a.1) within)
    means_layer (c.Compare f x y z) = to_layer (c.Compare f x y z) (λ ps v u t w le a within.
        many_set (comparison f x y z ps) x x (truth f (v y) (v z)) (truth f (u y) (u z)) (learn x (Compared f y z) ps) v u t w
        (comparison_many names d callee' f x y z x ps u a.1)
        (ap (λ n. truth f n (u z)) ((a.0).at y (omega (arith, le))) ∙ ap (truth f (v y)) ((a.0).at z (omega (arith, le)))) (λ z l ne. ne) a.0 a.2
        (λ u' is rest. holds_learn ps x (Compared f y z) u u' (λ z ne. rest z ne ne) is a.1) within)
    means_layer (c.LoadWord x y) = to_layer (c.LoadWord x y) (λ ps v u t w le a within. load_does lop.Ld B8 x y ps v u t w refl (λ n. refl) (omega (arith, le)) a within)
    means_layer (c.LoadByte x y) = to_layer (c.LoadByte x y) (λ ps v u t w le a within. load_does lop.Lbu B1 x y ps v u t w refl (λ n. refl) (omega (arith, le)) a within)
    means_layer (c.StoreWord y x) = to_layer (c.StoreWord y x) (λ ps v u t w le a within. store_does sop.Sd B8 y x ps v u t w refl (omega (arith, le)) (omega (arith, le)) a within)
    means_layer (c.StoreByte y x) = to_layer (c.StoreByte y x) (λ ps v u t w le a within. store_does sop.Sb B1 y x ps v u t w refl (omega (arith, le)) (omega (arith, le)) a within)
    means_layer (c.If x p q) = to_layer (c.If x p.0 q.0) (λ ps v u t w le a within.
        let y = test_at x ps in
        let f = selected count p.0 ps in let g = selected count q.0 ps in
        let one = variables (flow_of p.0) in let two = variables (flow_of q.0) in
        let both : above (one ++ two) ≤ count = omega (arith, le) in
        let w' = stepped 2 w in
        let within' : Within 1 0 (t + 16) w' = covered t 16 2 w (omega arith) within in
        same_as (R []) _ _ (if_not_zero (outcome y u) (run' f.stmt u (done (t + 16) w')) (run' g.stmt u (done (t + 16) w'))) (run_if names d callee' y f.stmt g.stmt u (done t w))
        (choice_as (R []) (v x) (outcome y u) _ _ _ _ (subst (λ n. AsZero n (outcome y u)) ((a.0).at x (omega (arith, le))) (test_holds ps x u a.1))
        (unknown f.facts _ _ (p.1 ps v u (t + 16) w' (above_left count one two both) a within')) (unknown g.facts _ _ (q.1 ps v u (t + 16) w' (above_right count one two both) a within'))))
    means_layer (c.While live all x q) = to_layer (c.While live (map (λ c. c.0) all) x q.0) (λ ps v u t w le a within.
        let f = in_row (map (selected count) (map (λ c. c.0) all)) [] in
        let y = test_at x f.facts in
        let g = selected count q.0 f.facts in
        let before = variables (all_in_turn (map flow_of (map (λ c. c.0) all))) in
        let body = variables (flow_of q.0) in
        let tested : above (before ++ x ∷ []) ≤ count = above_left count (before ++ x ∷ []) body le in
        let test_below : above (x ∷ []) ≤ count = above_right count before (x ∷ []) tested in
        let start : World = stepped 1 w in
        same_as (R []) _ _ (turns d (λ u w. in_turn (map run' f.stmts) u (stepped 1 w)) (λ u w. Some (outcome y u)) (run' g.stmt) u (done (t + 16) start))
        (run_while names d callee' f.stmts y g.stmt u (done t w))
        (turns_both (R []) (Paid 1 0 (N [])) (Paid 1 0 (N f.facts)) (Paid 1 0 (N f.facts)) (loop_run q.0) (run' g.stmt) (record {
          leaves = λ v w u t h. (((h.0).0, tt, (h.0).2), h.1);
          begins = λ v w u t n h. h;
          inner = λ v w u t h. unknown g.facts _ _ (q.1 f.facts v u t w (above_right count (before ++ x ∷ []) body le) h.0 h.1);
          spent = λ v w u t h. h.1;
          spent_at_head = λ v w u t h. h.1;
          onward = λ w after c. absurd c;
        })
        (λ v w. in_turn (map loop_run (map (λ c. c.0) all)) v (stepped 2 w)) (λ u w. in_turn (map run' f.stmts) u (stepped 1 w)) (λ v w. Some (v x)) (λ u w. Some (outcome y u))
        (λ v w u t h. in_rows all [] v u (t + 16) (stepped 2 w) (above_left count before (x ∷ []) tested) h.0 (covered t 16 2 w (omega arith) h.1)) (λ w after c. absurd c)
        (λ v w u t n h is. let a = h.0 in (outcome y u, refl, let e : v x ≡ n = cc in subst (λ n. AsZero n (outcome y u)) ((a.0).at x (omega (arith, test_below)) ∙ e) (test_holds f.facts x u a.1)))
        d v start u (t + 16) ((a.0, tt, a.2), covered t 16 1 w (omega arith) within)))
    means_layer c.Break = to_layer c.Break (λ ps v u t w le a within. matched (record { second = u; toll = t + 16; holds = ((a.0, tt, a.2), covered t 16 1 w (omega arith) within); is = run_break names d callee' u (done t w) }))
    means_layer c.Continue = to_layer c.Continue (λ ps v u t w le a within. matched (record { second = u; toll = t + 16; holds = ((a.0, tt, a.2), covered t 16 1 w (omega arith) within); is = run_continue names d callee' u (done t w) }))
    means_layer (c.Call live results f arguments None) = to_layer (c.Call live results f arguments None) (λ ps v u t w le a within.
        let k = passed arguments in
        same_as (R []) _ _ _ (run_call names d callee' results f arguments None u (done t w))
        (call_does follow results arguments f (length results + 0) v u (t + 16 * k) (stepped k w) _ _ (words arguments v u (above_left count arguments results le) a.0) a.0 a.2 (omega (arith, within))
        (λ i x t w reach within. raised (R []) i x w x t ((refl, reach), within))))
    means_layer (c.Call live results f arguments (Some h)) = to_layer (c.Call live results f arguments (Some (record { exception = h.exception; variables = h.variables; body = h.body.0 }))) (λ ps v u t w le a within.
        let k = passed arguments in
        let g = selected count h.body.0 [] in
        let h1 : Handler Does = record { exception = h.exception; variables = h.variables; body = loop_run h.body.0 } in
        let h2 : Handler Stmt = record { exception = h.exception; variables = h.variables; body = g.stmt } in
        let h3 : Handler Does = record { exception = h.exception; variables = h.variables; body = run' g.stmt } in
        let inner = variables (flow_of h.body.0) in
        let out : above (results ++ (h.variables ++ inner)) ≤ count = above_right count arguments (results ++ (h.variables ++ inner)) le in
        let in_body : above inner ≤ count = above_right count h.variables inner (above_right count results (h.variables ++ inner) out) in
        same_as (R []) _ _ _ (run_call names d callee' results f arguments (Some h2) u (done t w))
        (call_does follow results arguments f (length results + 1) v u (t + 16 * k) (stepped k w) _ _ (words arguments v u (above_left count arguments (results ++ (h.variables ++ inner)) le) a.0) a.0 a.2 (omega (arith, within))
        (λ i x t w reach within. caught_does h1 h3 v u i x t w refl refl a.0 reach within
        (λ v u t w a reach within. unknown g.facts _ _ (h.body.1 [] v u t w in_body (a, tt, reach) within)))))
    means_layer (c.TailCall f arguments) = to_layer (c.TailCall f arguments) (λ ps v u t w le a within.
        let k = passed arguments in
        let w' = stepped k w in
        same_as (R []) _ _ (tail_call callee' f (Some (map v arguments)) (done (t + 16 * k) w'))
        (run_tail_call names d callee' f arguments u (done t w) ∙ ap (λ ns. tail_call callee' f (Some ns) (done (t + 16 * k) w)) (words arguments v u (above_left count arguments [] le) a.0))
        (tail_same (R []) callee callee' f (map v arguments) (map v arguments) w' (t + 16 * k) (omega (arith, within)) (λ left. follow f (map v arguments) (t + 16 * k) (leaving (record w' { fuel = left })) a.2 (omega (arith, within)))))
    means_layer (c.Return xs) = to_layer (c.Return xs) (λ ps v u t w le a within.
        matched (record { second = map u xs; toll = t + 16 * passed xs; holds = ((words xs v u (above_left count xs [] le) a.0, a.2), omega (arith, within)); is = run_return names d callee' xs u (done t w) }))
    means_layer (c.Raise i xs) = to_layer (c.Raise i xs) (λ ps v u t w le a within.
        matched (record { second = map u xs; toll = t + 16 * passed xs; holds = ((words xs v u (above_left count xs [] le) a.0, a.2), omega (arith, within)); is = run_raise names d callee' i xs u (done t w) }))
    means_layer (c.SharedLoad size x y) = to_layer (c.SharedLoad size x y) (λ ps v u t w le a within.
        let at = address_at y ps in
        let w' = stepped 1 w in
        let addr = v y in
        where_first (R (forget x ps)) (is_shared size addr) w' _ _ (λ inside.
        let word = shared_reached size addr inside in
        same_as (R (forget x ps)) _ _ (ask (Load size addr) (done (t + 16) w') (λ r w. Normal (write_local x (number r) u) w))
        (run_shared_load names d callee' size x at.base at.offset u (done t w)
        ∙ ap (λ addr. with_loaded size addr (done (t + 16) w) (λ n w. Normal (write_local x n u) w)) (address_is ps y v u (omega (arith, le)) a.0 a.1 word)
        ∙ ap (λ b. where_true b (done (t + 16) w) (ask (Load size addr) (done (t + 16) w) (λ r w. Normal (write_local x (number r) u) w))) inside)
        (ask_same (R (forget x ps)) (Load size addr) w' (t + 16) _ _ (covered t 16 1 w (omega arith) within)
        (λ r rs es. normal (R (forget x ps)) (write_local x (number r) v) (record w' { replies = rs; trace = es }) (write_local x (number r) u) (t + 16)
        ((agree_write count x (number r) (number r) v u refl a.0, holds_forget ps x u (write_local x (number r) u) (λ z ne. write_other x (number r) z u ne) a.1, a.2), covered t 16 1 w (omega arith) within)))))
    means_layer (c.SharedStore size y x) = to_layer (c.SharedStore size y x) (λ ps v u t w le a within.
        let at = address_at y ps in
        let w' = stepped 1 w in
        let addr = v y in
        let cut : ℕ → ℕ = λ n. n % 2 ^ (8 * byte_count size) in
        where_first (R ps) (is_shared size addr) w' _ _ (λ inside.
        let word = shared_reached size addr inside in
        same_as (R ps) _ _ (ask (Store size addr (cut (v x))) (done (t + 16) w') (λ r w. Normal u w))
        (run_shared_store names d callee' size x at.base at.offset u (done t w)
        ∙ ap (λ addr. with_stored size addr (u x) (done (t + 16) w) (λ w. Normal u w)) (address_is ps y v u (omega (arith, le)) a.0 a.1 word)
        ∙ ap (λ n. with_stored size addr n (done (t + 16) w) (λ w. Normal u w)) ((a.0).at x (omega (arith, le)))
        ∙ ap (λ b. where_true b (done (t + 16) w) (ask (Store size addr (cut (v x))) (done (t + 16) w) (λ r w. Normal u w))) inside)
        (ask_same (R ps) (Store size addr (cut (v x))) w' (t + 16) _ _ (covered t 16 1 w (omega arith) within)
        (λ r rs es. normal (R ps) v (record w' { replies = rs; trace = es }) u (t + 16) (a, covered t 16 1 w (omega arith) within)))))
    means_layer (c.Foreign live i x y z q) = to_layer (c.Foreign live i x y z q) (λ ps v u t w le a within.
        let w' = stepped 4 w in
        let w2 = done (t + 64) w in
        let all : ℕ → ℕ → ℕ → ℕ → Outcome Locals (List ℕ) = λ p pl q ql. with_value (slice_get names i) w2 (λ name. foreign i name p pl q ql u w2) in
        same_as (R []) _ _ (all (v x) (v y) (v z) (v q))
        (run_foreign names d callee' i x y z q u (done t w)
        ∙ ap (λ n. all n (u y) (u z) (u q)) ((a.0).at x (omega (arith, le))) ∙ ap (λ n. all (v x) n (u z) (u q)) ((a.0).at y (omega (arith, le)))
        ∙ ap (λ n. all (v x) (v y) n (u q)) ((a.0).at z (omega (arith, le))) ∙ ap (λ n. all (v x) (v y) (v z) n) ((a.0).at q (omega (arith, le))))
        (value_same (R []) (slice_get names i) w' w2 _ _ (λ name known.
        value_same (R []) (bytes_at w.memory (v x) (v y)) w' w2 _ _ (λ conf is1.
        value_same (R []) (bytes_at w.memory (v z) (v q)) w' w2 _ _ (λ array is2.
        ask_fitting (R []) (Foreign i name conf array) w' (t + 64) _ _ (covered t 64 4 w (omega arith) within)
        (λ r rs es fitting. normal (R []) v (record w' { replies = rs; trace = es; memory = with_reply w.memory (v z) r }) u (t + 64)
        ((a.0, tt, record { globals = (a.2).globals; local = reply_reached w i (v z) (v q) name conf array r a.2 is2 fitting }), covered t 64 4 w (omega arith) within)))))))

    pub statement_means : (x : Loop) → Means x
    statement_means = stmt_induct Means means_layer
