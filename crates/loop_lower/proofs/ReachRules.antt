-- A number above the variables of expressions and statements, at each variant.
use Rattle.std.proofs.Common.{◌≡◌, ℕ, zero, suc, ◌≤◌, List, [], ◌∷◌, ◌++◌, map, length, get_or, drop, ◌+◌, ◌<◌, Option, Some, None, arith, refl, ap, ◌∙◌}
use Rattle.std.specs.Prelude.{max}
use Rattle.std.proofs.lemmas.List.{drop_more}
use Rattle.pan_base.specs.declared.events.Size.{Size}
use Rattle.pan_base.specs.declared.operators.BinOp.{BinOp}
use Rattle.pan_base.specs.declared.operators.ShOp.{ShOp}
use Rattle.pan_base.specs.declared.operators.Cmp.{Cmp}
use Rattle.pan_flow.specs.Functions.{variables, all_in_turn}
use Rattle.pan_stage.specs.Locals.{numbers_from}
use Rattle.pan_stage.specs.Sums.{above}
use Rattle.pan_stage.specs.declared.program.Handler.{Handler}
use Rattle.crep_lang.specs.Text.{variables_read, all_read, flow_of}
use Rattle.crep_lang.specs.declared.syntax.CrepFun.{CrepFun}
use Rattle.crep_lang.specs.declared.syntax.Expr.{Expr}
use Rattle.crep_lang.specs.declared.syntax.Expr.TheVariants as e
use Rattle.crep_lang.specs.declared.syntax.Stmt.{Stmt}
use Rattle.crep_lang.specs.declared.syntax.Stmt.TheVariants as c
use Rattle.crep_lang.proofs.Exprs.{steps_load_word, steps_load_byte, steps_bin, steps_shift, steps_compare, read_num, read_var, read_load_word, read_load_byte, read_bin, read_shift, read_compare}
use Rattle.crep_lang.proofs.Texts as at
use Rattle.loop_lower.specs.Lowered.{above_handler, first_free}
use Rattle.loop_lower.proofs.Layers.{above_append}

-- ---- expressions

pub above_num : (n : ℕ) → above (variables_read (e.Num n)) ≡ 0
above_num n = ap above (read_num n)

pub above_var : (x : ℕ) → above (variables_read (e.Var x)) ≡ suc x
above_var x = ap above (read_var x) ∙ omega arith

pub above_load_word : (a : Expr) → above (variables_read (e.LoadWord a)) ≡ above (variables_read a)
above_load_word a = ap above (read_load_word a)

pub above_load_byte : (a : Expr) → above (variables_read (e.LoadByte a)) ≡ above (variables_read a)
above_load_byte a = ap above (read_load_byte a)

pub above_bin : (o : BinOp) (a b : Expr) → above (variables_read (e.Bin o a b)) ≡ max (above (variables_read a)) (above (variables_read b))
above_bin o a b = ap above (read_bin o a b) ∙ above_append (variables_read a) (variables_read b)

pub above_shift : (o : ShOp) (a : Expr) (n : ℕ) → above (variables_read (e.Shift o a n)) ≡ above (variables_read a)
above_shift o a n = ap above (read_shift o a n)

pub above_compare : (o : Cmp) (a b : Expr) → above (variables_read (e.Compare o a b)) ≡ max (above (variables_read a)) (above (variables_read b))
above_compare o a b = ap above (read_compare o a b) ∙ above_append (variables_read a) (variables_read b)

pub ruleset expr_rules = (steps_load_word, steps_load_byte, steps_bin, steps_shift, steps_compare, above_num, above_var, above_load_word, above_load_byte, above_bin, above_shift, above_compare)

-- ---- rows

pub above_reads : (x : Expr) (xs : List Expr) → above (all_read (x ∷ xs)) ≡ max (above (variables_read x)) (above (all_read xs))
above_reads x xs = above_append (variables_read x) (all_read xs)

pub above_turn : (x : Stmt) (xs : List Stmt) → above (variables (all_in_turn (map flow_of (x ∷ xs)))) ≡ max (above (variables (flow_of x))) (above (variables (all_in_turn (map flow_of xs))))
above_turn x xs = above_append (variables (flow_of x)) (variables (all_in_turn (map flow_of xs)))

-- of what is left of a row, one further
pub above_reads_more : (xs : List Expr) (i : ℕ) (d : Expr) → i < length xs → above (all_read (drop i xs)) ≡ max (above (variables_read (get_or xs i d))) (above (all_read (drop (i + 1) xs)))
above_reads_more xs i d l = ap (λ ys. above (all_read ys)) (drop_more xs i d l) ∙ above_reads (get_or xs i d) (drop (i + 1) xs)

pub above_turn_more : (xs : List Stmt) (i : ℕ) (d : Stmt) → i < length xs
    → above (variables (all_in_turn (map flow_of (drop i xs)))) ≡ max (above (variables (flow_of (get_or xs i d)))) (above (variables (all_in_turn (map flow_of (drop (i + 1) xs)))))
above_turn_more xs i d l = ap (λ ys. above (variables (all_in_turn (map flow_of ys)))) (drop_more xs i d l) ∙ above_turn (get_or xs i d) (drop (i + 1) xs)

-- ---- statements

pub above_skip : above (variables (flow_of c.Skip)) ≡ 0
above_skip = ap (λ f. above (variables f)) at.flow_skip

pub above_seq : (all : List Stmt) → above (variables (flow_of (c.Seq all))) ≡ above (variables (all_in_turn (map flow_of all)))
above_seq all = ap (λ f. above (variables f)) (at.flow_seq all)

pub above_assign : (x : ℕ) (a : Expr) → above (variables (flow_of (c.Assign x a))) ≡ max (suc x) (above (variables_read a))
above_assign x a = ap (λ f. above (variables f)) (at.flow_assign x a) ∙ above_append (variables_read a) (x ∷ []) ∙ omega arith

two : (a b : Expr) → above (all_read (a ∷ b ∷ [])) ≡ max (above (variables_read a)) (above (variables_read b))
two a b = let k = above_append (variables_read a) (variables_read b ++ []) in let l = above_append (variables_read b) [] in omega (arith, k, l)

pub above_store_word : (a b : Expr) → above (variables (flow_of (c.StoreWord a b))) ≡ max (above (variables_read a)) (above (variables_read b))
above_store_word a b = ap (λ f. above (variables f)) (at.flow_store_word a b) ∙ two a b

pub above_store_byte : (a b : Expr) → above (variables (flow_of (c.StoreByte a b))) ≡ max (above (variables_read a)) (above (variables_read b))
above_store_byte a b = ap (λ f. above (variables f)) (at.flow_store_byte a b) ∙ two a b

pub above_if : (a : Expr) (p q : Stmt) → above (variables (flow_of (c.If a p q))) ≡ max (above (variables_read a)) (max (above (variables (flow_of p))) (above (variables (flow_of q))))
above_if a p q = ap (λ f. above (variables f)) (at.flow_if a p q) ∙ above_append (variables_read a) (variables (flow_of p) ++ variables (flow_of q)) ∙ ap (max (above (variables_read a))) (above_append (variables (flow_of p)) (variables (flow_of q)))

pub above_while : (all : List Stmt) (a : Expr) (p : Stmt) → above (variables (flow_of (c.While all a p))) ≡ max (above (variables (all_in_turn (map flow_of all)))) (max (above (variables_read a)) (above (variables (flow_of p))))
above_while all a p =
    let f = variables (all_in_turn (map flow_of all)) in
    let k = above_append (f ++ variables_read a) (variables (flow_of p)) in let l = above_append f (variables_read a) in
    ap (λ f. above (variables f)) (at.flow_while all a p) ∙ omega (arith, k, l)

pub above_break : above (variables (flow_of c.Break)) ≡ 0
above_break = ap (λ f. above (variables f)) at.flow_break

pub above_continue : above (variables (flow_of c.Continue)) ≡ 0
above_continue = ap (λ f. above (variables f)) at.flow_continue

pub above_call : (results : List ℕ) (f : ℕ) (es : List Expr) (h : Option (Handler Stmt)) → above (variables (flow_of (c.Call results f es h))) ≡ max (above (all_read es)) (max (above results) (above_handler h))
above_call results f es None = ap (λ f. above (variables f)) (at.flow_call results f es None) ∙ above_append (all_read es) results ∙ omega arith
above_call results f es (Some h) =
    let inner = variables (flow_of h.body) in
    let k = above_append (all_read es) (results ++ (h.variables ++ inner)) in
    let l = above_append results (h.variables ++ inner) in
    let m = above_append h.variables inner in
    ap (λ f. above (variables f)) (at.flow_call results f es (Some h)) ∙ omega (arith, k, l, m)

pub above_tail_call : (f : ℕ) (es : List Expr) → above (variables (flow_of (c.TailCall f es))) ≡ above (all_read es)
above_tail_call f es = ap (λ f. above (variables f)) (at.flow_tail_call f es) ∙ above_append (all_read es) [] ∙ omega arith

pub above_return : (es : List Expr) → above (variables (flow_of (c.Return es))) ≡ above (all_read es)
above_return es = ap (λ f. above (variables f)) (at.flow_return es) ∙ above_append (all_read es) [] ∙ omega arith

pub above_raise : (i : ℕ) (es : List Expr) → above (variables (flow_of (c.Raise i es))) ≡ above (all_read es)
above_raise i es = ap (λ f. above (variables f)) (at.flow_raise i es) ∙ above_append (all_read es) [] ∙ omega arith

pub above_shared_load : (size : Size) (x : ℕ) (a : Expr) → above (variables (flow_of (c.SharedLoad size x a))) ≡ max (suc x) (above (variables_read a))
above_shared_load size x a = ap (λ f. above (variables f)) (at.flow_shared_load size x a) ∙ above_append (variables_read a) (x ∷ []) ∙ omega arith

pub above_shared_store : (size : Size) (a b : Expr) → above (variables (flow_of (c.SharedStore size a b))) ≡ max (above (variables_read a)) (above (variables_read b))
above_shared_store size a b = ap (λ f. above (variables f)) (at.flow_shared_store size a b) ∙ two a b

pub above_foreign : (i : ℕ) (a b p q : Expr) → above (variables (flow_of (c.Foreign i a b p q))) ≡ max (max (above (variables_read a)) (above (variables_read b))) (max (above (variables_read p)) (above (variables_read q)))
above_foreign i a b p q =
    let k0 = above_append (all_read (a ∷ b ∷ p ∷ q ∷ [])) [] in
    let k1 = above_reads a (b ∷ p ∷ q ∷ []) in let k2 = above_reads b (p ∷ q ∷ []) in let k3 = above_reads p (q ∷ []) in let k4 = above_reads q [] in
    ap (λ f. above (variables f)) (at.flow_foreign i a b p q) ∙ omega (arith, k0, k1, k2, k3, k4)

pub ruleset stmt_rules = (above_skip, above_seq, above_assign, above_store_word, above_store_byte, above_if, above_while, above_break, above_continue, above_call, above_tail_call, above_return, above_raise, above_shared_load, above_shared_store, above_foreign)

-- ---- functions

above_numbers : (x k : ℕ) → above (numbers_from x k) ≤ x + k
above_numbers x zero = omega arith
above_numbers x (suc k) = let h = above_numbers (suc x) k in omega (arith, h)

numbers_above : (x k : ℕ) → 1 ≤ k → x + k ≤ above (numbers_from x k)
numbers_above x zero l = absurd (omega (arith, l))
numbers_above x (suc zero) l = omega arith
numbers_above x (suc (suc k)) l = let h = numbers_above (suc x) (suc k) (omega arith) in omega (arith, h)

above_parameters : (k : ℕ) → above (numbers_from 0 k) ≡ k
above_parameters zero = refl
above_parameters (suc k) = let a = above_numbers 0 (suc k) in let b = numbers_above 0 (suc k) (omega arith) in omega (arith, a, b)

pub above_of_function : (f : CrepFun) → first_free f ≡ max f.params (above (variables (flow_of f.body)))
above_of_function f = let k = above_append (numbers_from 0 f.params) (variables (flow_of f.body)) in let l = above_parameters f.params in omega (arith, k, l)
