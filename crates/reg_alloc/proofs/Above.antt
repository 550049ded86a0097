-- Numbers above the variables of a statement, at each variant.
use Rattle.std.proofs.Common.{◌≡◌, ℕ, suc, ◌+◌, ◌<◌, Bool, true, false, List, [], ◌∷◌, ◌++◌, map, length, get_or, drop, drop-cons, Option, Some, None, arith, refl, sym, ap, ◌∙◌}
use Rattle.std.specs.Prelude.{ℤ, max, ◌==◌, ◌||◌}
use Rattle.std.proofs.lemmas.Bool.Decides.{nat_tests}
use Rattle.pan_base.specs.declared.events.Size.{Size}
use Rattle.pan_base.specs.declared.operators.ROp.{ROp}
use Rattle.pan_base.specs.declared.operators.IOp.{IOp}
use Rattle.pan_base.specs.declared.operators.ShiftOp.{ShiftOp}
use Rattle.pan_base.specs.declared.operators.LOp.{LOp}
use Rattle.pan_base.specs.declared.operators.SOp.{SOp}
use Rattle.pan_flow.specs.Flow.{Flow, has}
use Rattle.pan_flow.specs.Functions.{above, all_in_turn, variables}
use Rattle.pan_stage.specs.declared.program.Handler.{Handler}
use Rattle.word_lang.specs.Text.{flow_of, variables_of, variables_read}
use Rattle.word_lang.specs.declared.syntax.Test.{Test}
use Rattle.word_lang.specs.declared.syntax.Stmt.{Stmt}
use Rattle.word_lang.specs.declared.syntax.Stmt.TheVariants as stmt
use Rattle.word_lang.proofs.Equations as at
use Rattle.reg_alloc.specs.Variables.{variables_of_handler}

pub above_append : (xs ys : List ℕ) → above (xs ++ ys) ≡ max (above xs) (above ys)
above_append [] ys = omega arith
above_append (x ∷ xs) ys = ap (max (suc x)) (above_append xs ys) ∙ omega arith

pub append_none : {A : Type 0} (xs : List A) → xs ++ [] ≡ xs
append_none [] = refl
append_none (x ∷ xs) = ap (λ xs. x ∷ xs) (append_none xs)

pub has_below : (xs : List ℕ) (x : ℕ) → has xs x ≡ true → x < above xs
has_below [] x h = absurd cc
has_below (y ∷ ys) x h = by (has_below ys x) (x == y) refl h
  where
    by : (has ys x ≡ true → x < above ys) → (b : Bool) → (x == y) ≡ b → (b || has ys x) ≡ true → x < max (suc y) (above ys)
    by later true e h = let k : x ≡ y = grind (arith, nat_tests) in omega (arith, k)
    by later false e h = let l = later h in omega (arith, l)

-- the operands of a test
pub above_operands : (l r : Option ℕ) → max (above (variables_of (l ∷ []))) (above (variables_of (r ∷ []))) ≡ above (variables_of (l ∷ r ∷ []))
above_operands None None = refl
above_operands None (Some y) = omega arith
above_operands (Some x) None = omega arith
above_operands (Some x) (Some y) = omega arith

-- statements one after another
pub above_more : (s : Stmt) (ss : List Stmt) → above (variables (all_in_turn (map flow_of (s ∷ ss)))) ≡ max (above (variables (flow_of s))) (above (variables (all_in_turn (map flow_of ss))))
above_more s ss = above_append (variables (flow_of s)) (variables (all_in_turn (map flow_of ss)))

pub above_step : (all : List Stmt) (i most r next whole : ℕ) (x : Stmt) → i < length all → x ≡ get_or all i x → r ≡ above (variables (flow_of x)) → next ≡ max most r → max most (above (variables (all_in_turn (map flow_of (drop i all))))) ≡ whole
    → max next (above (variables (all_in_turn (map flow_of (drop (i + 1) all))))) ≡ whole
above_step all i most r next whole x l is is_r is_next h =
    let of : List Stmt → ℕ = λ ss. above (variables (all_in_turn (map flow_of ss))) in
    let after : suc i ≡ i + 1 = omega arith in
    let first : of (drop i all) ≡ of (x ∷ drop (i + 1) all) = ap of (drop-cons all i x l ∙ ap (λ y. y ∷ drop (suc i) all) (sym is) ∙ ap (λ j. x ∷ drop j all) after) in
    let more = above_more x (drop (i + 1) all) in
    omega (arith, first, more, is_r, is_next, h)

abbrev of_flow : Flow → ℕ
of_flow f = above (variables f)

pub above_skip : of_flow (flow_of stmt.Skip) ≡ 0
above_skip = ap of_flow at.flow_of_skip

pub above_seq : (all : List Stmt) → of_flow (flow_of (stmt.Seq all)) ≡ of_flow (all_in_turn (map flow_of all))
above_seq all = ap of_flow (at.flow_of_seq all)

pub above_const : (x n : ℕ) → of_flow (flow_of (stmt.Const x n)) ≡ above (x ∷ [])
above_const x n = ap of_flow (at.flow_of_const x n)

pub above_reg : (o : ROp) (x a b : ℕ) → of_flow (flow_of (stmt.Reg o x a b)) ≡ above (a ∷ b ∷ x ∷ [])
above_reg o x a b = ap of_flow (at.flow_of_reg o x a b)

pub above_imm : (o : IOp) (x a : ℕ) (i : ℤ) → of_flow (flow_of (stmt.Imm o x a i)) ≡ above (a ∷ x ∷ [])
above_imm o x a i = ap of_flow (at.flow_of_imm o x a i)

pub above_sh : (o : ShiftOp) (x a n : ℕ) → of_flow (flow_of (stmt.Sh o x a n)) ≡ above (a ∷ x ∷ [])
above_sh o x a n = ap of_flow (at.flow_of_sh o x a n)

pub above_load : (o : LOp) (x a : ℕ) (i : ℤ) → of_flow (flow_of (stmt.Load o x a i)) ≡ above (a ∷ x ∷ [])
above_load o x a i = ap of_flow (at.flow_of_load o x a i)

pub above_store : (o : SOp) (x a : ℕ) (i : ℤ) → of_flow (flow_of (stmt.Store o x a i)) ≡ above (a ∷ x ∷ [])
above_store o x a i = ap of_flow (at.flow_of_store o x a i)

pub above_if : (y : Test) (first second : Stmt) → of_flow (flow_of (stmt.If y first second)) ≡ max (above (variables_read y)) (max (of_flow (flow_of first)) (of_flow (flow_of second)))
above_if y first second =
    ap of_flow (at.flow_of_if y first second)
    ∙ above_append (variables_read y) (variables (flow_of first) ++ variables (flow_of second))
    ∙ ap (max (above (variables_read y))) (above_append (variables (flow_of first)) (variables (flow_of second)))

pub above_while : (before : List Stmt) (y : Test) (body : Stmt) → of_flow (flow_of (stmt.While before y body)) ≡ max (max (of_flow (all_in_turn (map flow_of before))) (above (variables_read y))) (of_flow (flow_of body))
above_while before y body =
    let row = variables (all_in_turn (map flow_of before)) in
    ap of_flow (at.flow_of_while before y body)
    ∙ above_append (row ++ variables_read y) (variables (flow_of body))
    ∙ ap (λ n. max n (of_flow (flow_of body))) (above_append row (variables_read y))

pub above_break : of_flow (flow_of stmt.Break) ≡ 0
above_break = ap of_flow at.flow_of_break

pub above_continue : of_flow (flow_of stmt.Continue) ≡ 0
above_continue = ap of_flow at.flow_of_continue

pub above_call : (results : List ℕ) (f : ℕ) (arguments : List ℕ) (h : Option (Handler Stmt)) → of_flow (flow_of (stmt.Call results f arguments h)) ≡ max (above arguments) (max (above results) (above (variables_of_handler h)))
above_call results f arguments None =
    ap of_flow (at.flow_of_call results f arguments None) ∙ above_append arguments results ∙ omega arith
above_call results f arguments (Some h) =
    let caught = h.variables ++ variables (flow_of h.body) in
    ap of_flow (at.flow_of_call results f arguments (Some h))
    ∙ above_append arguments (results ++ caught)
    ∙ ap (max (above arguments)) (above_append results caught)

above_left : (xs : List ℕ) → above (xs ++ []) ≡ above xs
above_left xs = ap above (append_none xs)

pub above_tail_call : (f : ℕ) (arguments : List ℕ) → of_flow (flow_of (stmt.TailCall f arguments)) ≡ above arguments
above_tail_call f arguments = ap of_flow (at.flow_of_tail_call f arguments) ∙ above_left arguments

pub above_return : (xs : List ℕ) → of_flow (flow_of (stmt.Return xs)) ≡ above xs
above_return xs = ap of_flow (at.flow_of_return xs) ∙ above_left xs

pub above_raise : (i : ℕ) (xs : List ℕ) → of_flow (flow_of (stmt.Raise i xs)) ≡ above xs
above_raise i xs = ap of_flow (at.flow_of_raise i xs) ∙ above_left xs

pub above_shared_load : (size : Size) (x a : ℕ) (i : ℤ) → of_flow (flow_of (stmt.SharedLoad size x a i)) ≡ above (a ∷ x ∷ [])
above_shared_load size x a i = ap of_flow (at.flow_of_shared_load size x a i)

pub above_shared_store : (size : Size) (x a : ℕ) (i : ℤ) → of_flow (flow_of (stmt.SharedStore size x a i)) ≡ above (a ∷ x ∷ [])
above_shared_store size x a i = ap of_flow (at.flow_of_shared_store size x a i)

pub above_foreign : (i conf conf_len array array_len : ℕ) → of_flow (flow_of (stmt.Foreign i conf conf_len array array_len)) ≡ above (conf ∷ conf_len ∷ array ∷ array_len ∷ [])
above_foreign i conf conf_len array array_len = ap of_flow (at.flow_of_foreign i conf conf_len array array_len)

pub ruleset above_rules = (above_skip, above_seq, above_const, above_reg, above_imm, above_sh, above_load, above_store, above_if, above_while, above_break, above_continue, above_call, above_tail_call, above_return, above_raise, above_shared_load, above_shared_store, above_foreign)
