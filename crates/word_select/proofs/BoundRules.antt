-- A number above the variables of a statement, at each variant.
use Rattle.std.proofs.Common.{◌≡◌, ℕ, zero, suc, ◌+◌, ◌-◌, ◌<◌, List, [], ◌∷◌, ◌++◌, map, length, drop, Option, Some, None, arith, refl, sym, ap, ◌∙◌, append_assoc}
use Rattle.std.specs.Prelude.{max, get_or}
use Rattle.std.proofs.lemmas.List.{at_drop_more}
use Rattle.pan_base.specs.declared.events.Size.{Size}
use Rattle.pan_base.specs.declared.operators.BinOp.{BinOp}
use Rattle.pan_base.specs.declared.operators.ShOp.{ShOp}
use Rattle.pan_base.specs.declared.operators.Cmp.{Cmp}
use Rattle.pan_flow.specs.Flow.{Flow}
use Rattle.pan_flow.specs.Functions.{variables, above, all_in_turn}
use Rattle.pan_stage.specs.Locals.{numbers_from}
use Rattle.pan_stage.specs.declared.program.Handler.{Handler}
use Rattle.loop_lang.specs.Text.{flow_layer, flow_of}
use Rattle.loop_lang.specs.declared.syntax.LoopFun.{LoopFun}
use Rattle.loop_lang.specs.declared.syntax.Stmt.{Stmt as Loop, Stmt-F as Loop-F, roll-Stmt as roll-Loop, map-Stmt as map-Loop}
use Rattle.loop_lang.specs.declared.syntax.Stmt.TheOpen as o
use Rattle.loop_lang.specs.declared.syntax.Stmt.TheVariants as c
use Rattle.word_select.specs.Bounds.{bound, row_bound, handler_bound}
use Rattle.word_select.specs.Selected.{first_free}
use Rattle.word_select.proofs.Above.{above_append}
use Rattle.word_select.proofs.LoopLayers.{flow_roll}

at : (y : Loop-F Loop) (x : Loop) → roll-Loop y ≡ x → bound x ≡ above (variables (flow_layer (map-Loop Loop Flow flow_of y)))
at y x is = ap bound (sym is) ∙ ap (λ f. above (variables f)) (flow_roll y)

-- nothing more in the row
no_more : (xs : List ℕ) → above (xs ++ []) ≡ above xs
no_more xs = let e = above_append xs [] in omega (arith, e)

-- a row of three parts
three : (xs ys zs : List ℕ) → above (xs ++ (ys ++ zs)) ≡ max (above xs) (max (above ys) (above zs))
three xs ys zs = above_append xs (ys ++ zs) ∙ ap (max (above xs)) (above_append ys zs)

pub skip_bound : bound c.Skip ≡ 0
skip_bound = at o.Skip _ c.rolls-Skip

pub seq_bound : (all : List Loop) → bound (c.Seq all) ≡ row_bound all
seq_bound all = at (o.Seq all) _ (c.rolls-Seq all)

pub const_bound : (x n : ℕ) → bound (c.Const x n) ≡ above (x ∷ [])
const_bound x n = at (o.Const x n) _ (c.rolls-Const x n)

pub move_bound : (x a : ℕ) → bound (c.Move x a) ≡ above (a ∷ x ∷ [])
move_bound x a = at (o.Move x a) _ (c.rolls-Move x a)

pub bin_bound : (f : BinOp) (x a b : ℕ) → bound (c.Bin f x a b) ≡ above (a ∷ b ∷ x ∷ [])
bin_bound f x a b = at (o.Bin f x a b) _ (c.rolls-Bin f x a b)

pub shift_bound : (f : ShOp) (x a n : ℕ) → bound (c.Shift f x a n) ≡ above (a ∷ x ∷ [])
shift_bound f x a n = at (o.Shift f x a n) _ (c.rolls-Shift f x a n)

pub compare_bound : (f : Cmp) (x a b : ℕ) → bound (c.Compare f x a b) ≡ above (a ∷ b ∷ x ∷ [])
compare_bound f x a b = at (o.Compare f x a b) _ (c.rolls-Compare f x a b)

pub load_word_bound : (x a : ℕ) → bound (c.LoadWord x a) ≡ above (a ∷ x ∷ [])
load_word_bound x a = at (o.LoadWord x a) _ (c.rolls-LoadWord x a)

pub load_byte_bound : (x a : ℕ) → bound (c.LoadByte x a) ≡ above (a ∷ x ∷ [])
load_byte_bound x a = at (o.LoadByte x a) _ (c.rolls-LoadByte x a)

pub store_word_bound : (a x : ℕ) → bound (c.StoreWord a x) ≡ above (a ∷ x ∷ [])
store_word_bound a x = at (o.StoreWord a x) _ (c.rolls-StoreWord a x)

pub store_byte_bound : (a x : ℕ) → bound (c.StoreByte a x) ≡ above (a ∷ x ∷ [])
store_byte_bound a x = at (o.StoreByte a x) _ (c.rolls-StoreByte a x)

pub branch_bound : (x : ℕ) (first second : Loop) → bound (c.If x first second) ≡ max (above (x ∷ [])) (max (bound first) (bound second))
branch_bound x first second = at (o.If x first second) _ (c.rolls-If x first second) ∙ three (x ∷ []) (variables (flow_of first)) (variables (flow_of second))

pub loop_bound : (live : List ℕ) (before : List Loop) (x : ℕ) (body : Loop) → bound (c.While live before x body) ≡ max (row_bound before) (max (above (x ∷ [])) (bound body))
loop_bound live before x body = at (o.While live before x body) _ (c.rolls-While live before x body) ∙ above_append (variables (all_in_turn (map flow_of before)) ++ x ∷ []) (variables (flow_of body)) ∙ ap (λ n. max n (bound body)) (above_append (variables (all_in_turn (map flow_of before))) (x ∷ [])) ∙ omega arith

pub leave_bound : bound c.Break ≡ 0
leave_bound = at o.Break _ c.rolls-Break

pub again_bound : bound c.Continue ≡ 0
again_bound = at o.Continue _ c.rolls-Continue

pub call_bound : (live results : List ℕ) (f : ℕ) (arguments : List ℕ) (h : Option (Handler Loop)) → bound (c.Call live results f arguments h) ≡ max (above arguments) (max (above results) (handler_bound h))
call_bound live results f arguments None = at (o.Call live results f arguments None) _ (c.rolls-Call live results f arguments None) ∙ above_append arguments results ∙ ap (max (above arguments)) (omega arith)
call_bound live results f arguments (Some h) = at (o.Call live results f arguments (Some h)) _ (c.rolls-Call live results f arguments (Some h)) ∙ three arguments results (h.variables ++ variables (flow_of h.body)) ∙ ap (λ n. max (above arguments) (max (above results) n)) (above_append h.variables (variables (flow_of h.body)))

pub tail_call_bound : (f : ℕ) (arguments : List ℕ) → bound (c.TailCall f arguments) ≡ above arguments
tail_call_bound f arguments = at (o.TailCall f arguments) _ (c.rolls-TailCall f arguments) ∙ no_more arguments

pub returns_bound : (xs : List ℕ) → bound (c.Return xs) ≡ above xs
returns_bound xs = at (o.Return xs) _ (c.rolls-Return xs) ∙ no_more xs

pub raises_bound : (i : ℕ) (xs : List ℕ) → bound (c.Raise i xs) ≡ above xs
raises_bound i xs = at (o.Raise i xs) _ (c.rolls-Raise i xs) ∙ no_more xs

pub shared_load_bound : (size : Size) (x a : ℕ) → bound (c.SharedLoad size x a) ≡ above (a ∷ x ∷ [])
shared_load_bound size x a = at (o.SharedLoad size x a) _ (c.rolls-SharedLoad size x a)

pub shared_store_bound : (size : Size) (a x : ℕ) → bound (c.SharedStore size a x) ≡ above (a ∷ x ∷ [])
shared_store_bound size a x = at (o.SharedStore size a x) _ (c.rolls-SharedStore size a x)

pub foreign_bound : (live : List ℕ) (i conf conf_len array array_len : ℕ) → bound (c.Foreign live i conf conf_len array array_len) ≡ above (conf ∷ conf_len ∷ array ∷ array_len ∷ [])
foreign_bound live i conf conf_len array array_len = at (o.Foreign live i conf conf_len array array_len) _ (c.rolls-Foreign live i conf conf_len array array_len)

-- statements one after another
pub row_more : (x : Loop) (all : List Loop) → row_bound (x ∷ all) ≡ max (bound x) (row_bound all)
row_more x all = above_append (variables (flow_of x)) (variables (all_in_turn (map flow_of all)))

-- one more of them is counted
pub row_step : (all : List Loop) (i least b m : ℕ) (x : Loop) → i < length all → x ≡ get_or all i x → b ≡ bound x → m ≡ max least b → max least (row_bound (drop i all)) ≡ row_bound all → max m (row_bound (drop (i + 1) all)) ≡ row_bound all
row_step all i least b m x l is e e2 h =
    let more = at_drop_more row_bound all i x l in
    let first = ap (λ y. row_bound (y ∷ drop (i + 1) all)) (sym is) in
    let both = row_more x (drop (i + 1) all) in omega (arith, more, first, both, e, e2, h)

-- ---- functions

numbers_above : (x k : ℕ) → above (numbers_from x (suc k)) ≡ x + suc k
numbers_above x zero = omega arith
numbers_above x (suc k) = let e = numbers_above (suc x) k in omega (arith, e)

-- the numbers that are left begin with the next
numbers_step : (x count : ℕ) → x < count → numbers_from x (count - x) ≡ x ∷ numbers_from (x + 1) (count - (x + 1))
numbers_step x count l =
    let e : count - x ≡ suc (count - (x + 1)) = omega (arith, l) in
    let next : suc x ≡ x + 1 = omega arith in ap (numbers_from x) e ∙ ap (λ y. x ∷ numbers_from y (count - (x + 1))) next

-- and stay complete behind it
pub numbers_more : (x count : ℕ) (xs ys whole : List ℕ) → x < count → ys ≡ xs ++ x ∷ [] → xs ++ numbers_from x (count - x) ≡ whole → ys ++ numbers_from (x + 1) (count - (x + 1)) ≡ whole
numbers_more x count xs ys whole l e h =
    let rest = numbers_from (x + 1) (count - (x + 1)) in
    ap (λ zs. zs ++ rest) e ∙ append_assoc xs (x ∷ []) rest ∙ ap (λ zs. xs ++ zs) (sym (numbers_step x count l)) ∙ h

-- as many parameters are below their number
parameters_above : (k : ℕ) → above (numbers_from 0 k) ≡ k
parameters_above zero = refl
parameters_above (suc k) = let e = numbers_above 0 k in omega (arith, e)

pub free_is : (f : LoopFun) → first_free f ≡ max f.params (bound f.body)
free_is f = above_append (numbers_from 0 f.params) (variables (flow_of f.body)) ∙ ap (λ n. max n (bound f.body)) (parameters_above f.params)

pub ruleset bound_rules = (row_more, skip_bound, seq_bound, const_bound, move_bound, bin_bound, shift_bound, compare_bound, load_word_bound, load_byte_bound, store_word_bound, store_byte_bound, branch_bound, loop_bound, leave_bound, again_bound, call_bound, tail_call_bound, returns_bound, raises_bound, shared_load_bound, shared_store_bound, foreign_bound)
