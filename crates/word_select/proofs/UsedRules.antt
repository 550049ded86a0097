-- The variables that a statement uses, at each variant.
use Rattle.std.proofs.Common.{◌≡◌, ℕ, List, [], ◌∷◌, ◌++◌, map, Option, Some, None, refl, sym, ap, ◌∙◌, append_assoc, append-nil}
use Rattle.std.specs.Prelude.{ℤ, flat_map}
use Rattle.pan_base.specs.declared.events.Size.{Size}
use Rattle.pan_base.specs.declared.operators.ROp.{ROp}
use Rattle.pan_base.specs.declared.operators.IOp.{IOp}
use Rattle.pan_base.specs.declared.operators.ShiftOp.{ShiftOp}
use Rattle.pan_base.specs.declared.operators.LOp.{LOp}
use Rattle.pan_base.specs.declared.operators.SOp.{SOp}
use Rattle.pan_stage.specs.declared.program.Handler.{Handler}
use Rattle.word_lang.specs.Text.{variables_of, variables_read}
use Rattle.word_lang.specs.declared.syntax.Test.{Test}
use Rattle.word_lang.specs.declared.syntax.Stmt.{Stmt, Stmt-F, roll-Stmt, map-Stmt, fold-roll-Stmt}
use Rattle.word_lang.specs.declared.syntax.Stmt.TheOpen as o
use Rattle.word_lang.specs.declared.syntax.Stmt.TheVariants as s
use Rattle.word_select.specs.Pruned.{others, used_layer, used, used_in_handler}

at : (y : Stmt-F Stmt) (x : Stmt) → roll-Stmt y ≡ x → used x ≡ used_layer (map-Stmt Stmt (List ℕ) used y)
unfolding used
at y x is = ap used (sym is) ∙ fold-roll-Stmt (List ℕ) used_layer y

pub used_by_skip : used s.Skip ≡ []
used_by_skip = at o.Skip _ s.rolls-Skip

pub used_by_seq : (all : List Stmt) → used (s.Seq all) ≡ flat_map (λ xs. xs) (map used all)
used_by_seq all = at (o.Seq all) _ (s.rolls-Seq all)

pub used_by_const : (x n : ℕ) → used (s.Const x n) ≡ []
used_by_const x n = at (o.Const x n) _ (s.rolls-Const x n)

pub used_by_reg : (f : ROp) (x a b : ℕ) → used (s.Reg f x a b) ≡ others x (a ∷ b ∷ [])
used_by_reg f x a b = at (o.Reg f x a b) _ (s.rolls-Reg f x a b)

pub used_by_imm : (f : IOp) (x a : ℕ) (i : ℤ) → used (s.Imm f x a i) ≡ others x (a ∷ [])
used_by_imm f x a i = at (o.Imm f x a i) _ (s.rolls-Imm f x a i)

pub used_by_sh : (f : ShiftOp) (x a n : ℕ) → used (s.Sh f x a n) ≡ others x (a ∷ [])
used_by_sh f x a n = at (o.Sh f x a n) _ (s.rolls-Sh f x a n)

pub used_by_load : (f : LOp) (x a : ℕ) (i : ℤ) → used (s.Load f x a i) ≡ others x (a ∷ [])
used_by_load f x a i = at (o.Load f x a i) _ (s.rolls-Load f x a i)

pub used_by_store : (f : SOp) (x a : ℕ) (i : ℤ) → used (s.Store f x a i) ≡ a ∷ x ∷ []
used_by_store f x a i = at (o.Store f x a i) _ (s.rolls-Store f x a i)

pub used_by_if : (y : Test) (first second : Stmt) → used (s.If y first second) ≡ variables_read y ++ (used first ++ used second)
used_by_if y first second = at (o.If y first second) _ (s.rolls-If y first second)

pub used_by_while : (before : List Stmt) (y : Test) (body : Stmt) → used (s.While before y body) ≡ flat_map (λ xs. xs) (map used before) ++ (variables_read y ++ used body)
used_by_while before y body = at (o.While before y body) _ (s.rolls-While before y body)

pub used_by_break : used s.Break ≡ []
used_by_break = at o.Break _ s.rolls-Break

pub used_by_continue : used s.Continue ≡ []
used_by_continue = at o.Continue _ s.rolls-Continue

pub used_by_call : (results : List ℕ) (f : ℕ) (arguments : List ℕ) (h : Option (Handler Stmt)) → used (s.Call results f arguments h) ≡ arguments ++ used_in_handler h
used_by_call results f arguments None = at (o.Call results f arguments None) _ (s.rolls-Call results f arguments None)
used_by_call results f arguments (Some h) = at (o.Call results f arguments (Some h)) _ (s.rolls-Call results f arguments (Some h))

pub used_by_tail_call : (f : ℕ) (arguments : List ℕ) → used (s.TailCall f arguments) ≡ arguments
used_by_tail_call f arguments = at (o.TailCall f arguments) _ (s.rolls-TailCall f arguments)

pub used_by_return : (xs : List ℕ) → used (s.Return xs) ≡ xs
used_by_return xs = at (o.Return xs) _ (s.rolls-Return xs)

pub used_by_raise : (i : ℕ) (xs : List ℕ) → used (s.Raise i xs) ≡ xs
used_by_raise i xs = at (o.Raise i xs) _ (s.rolls-Raise i xs)

pub used_by_shared_load : (size : Size) (x a : ℕ) (i : ℤ) → used (s.SharedLoad size x a i) ≡ a ∷ []
used_by_shared_load size x a i = at (o.SharedLoad size x a i) _ (s.rolls-SharedLoad size x a i)

pub used_by_shared_store : (size : Size) (x a : ℕ) (i : ℤ) → used (s.SharedStore size x a i) ≡ a ∷ x ∷ []
used_by_shared_store size x a i = at (o.SharedStore size x a i) _ (s.rolls-SharedStore size x a i)

pub used_by_foreign : (i conf conf_len array array_len : ℕ) → used (s.Foreign i conf conf_len array array_len) ≡ conf ∷ conf_len ∷ array ∷ array_len ∷ []
used_by_foreign i conf conf_len array array_len = at (o.Foreign i conf conf_len array array_len) _ (s.rolls-Foreign i conf conf_len array array_len)

-- the operands of a test
pub both_operands : (l r : Option ℕ) → variables_of (l ∷ []) ++ variables_of (r ∷ []) ≡ variables_of (l ∷ r ∷ [])
both_operands None r = refl
both_operands (Some x) r = refl

pub test_operands : (y : Test) → variables_of (y.left ∷ []) ++ variables_of (y.right ∷ []) ≡ variables_read y
test_operands y = both_operands y.left y.right

pub ruleset used_rules = (used_by_skip, used_by_seq, used_by_const, used_by_reg, used_by_imm, used_by_sh, used_by_load, used_by_store, used_by_if, used_by_while, used_by_break, used_by_continue, used_by_call, used_by_tail_call, used_by_return, used_by_raise, used_by_shared_load, used_by_shared_store, used_by_foreign, test_operands, append_assoc, append-nil)
