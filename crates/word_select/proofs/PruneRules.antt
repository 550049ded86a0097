-- What is left of a statement, at each variant.
use mathlib.Core.Path.{fun_ext}
use Rattle.std.proofs.Common.{◌≡◌, ℕ, Bool, List, [], ◌∷◌, ◌++◌, map, Option, Some, None, sym, ap, ◌∙◌, append_assoc, append-nil}
use Rattle.std.specs.Prelude.{ℤ}
use Rattle.pan_base.specs.declared.events.Size.{Size}
use Rattle.pan_base.specs.declared.operators.ROp.{ROp}
use Rattle.pan_base.specs.declared.operators.IOp.{IOp}
use Rattle.pan_base.specs.declared.operators.ShiftOp.{ShiftOp}
use Rattle.pan_base.specs.declared.operators.LOp.{LOp}
use Rattle.pan_base.specs.declared.operators.SOp.{SOp}
use Rattle.pan_flow.specs.Flow.{has}
use Rattle.pan_stage.specs.declared.program.Handler.{Handler}
use Rattle.word_lang.specs.declared.syntax.Test.{Test}
use Rattle.word_lang.specs.declared.syntax.Stmt.{Stmt, Stmt-F, roll-Stmt, map-Stmt, fold-roll-Stmt}
use Rattle.word_lang.specs.declared.syntax.Stmt.TheOpen as o
use Rattle.word_lang.specs.declared.syntax.Stmt.TheVariants as s
use Rattle.word_select.specs.Pruned.{used, is_set, where_used, pruned_layer, pruned, pruned_row, pruned_handler}

module _ (is_used : ℕ → Bool) where
  at : (y : Stmt-F Stmt) (x : Stmt) → roll-Stmt y ≡ x → pruned is_used x ≡ pruned_layer is_used (map-Stmt Stmt (List Stmt) (pruned is_used) y)
  unfolding pruned
  at y x is = ap (pruned is_used) (sym is) ∙ fold-roll-Stmt (List Stmt) (pruned_layer is_used) y

  pub pruned_skip : pruned is_used s.Skip ≡ []
  pruned_skip = at o.Skip _ s.rolls-Skip

  pub pruned_seq : (all : List Stmt) → pruned is_used (s.Seq all) ≡ pruned_row is_used all
  pruned_seq all = at (o.Seq all) _ (s.rolls-Seq all)

  pub pruned_const : (x n : ℕ) → pruned is_used (s.Const x n) ≡ where_used is_used x (s.Const x n)
  pruned_const x n = at (o.Const x n) _ (s.rolls-Const x n)

  pub pruned_reg : (f : ROp) (x a b : ℕ) → pruned is_used (s.Reg f x a b) ≡ where_used is_used x (s.Reg f x a b)
  pruned_reg f x a b = at (o.Reg f x a b) _ (s.rolls-Reg f x a b)

  pub pruned_imm : (f : IOp) (x a : ℕ) (i : ℤ) → pruned is_used (s.Imm f x a i) ≡ where_used is_used x (s.Imm f x a i)
  pruned_imm f x a i = at (o.Imm f x a i) _ (s.rolls-Imm f x a i)

  pub pruned_sh : (f : ShiftOp) (x a n : ℕ) → pruned is_used (s.Sh f x a n) ≡ where_used is_used x (s.Sh f x a n)
  pruned_sh f x a n = at (o.Sh f x a n) _ (s.rolls-Sh f x a n)

  pub pruned_load : (f : LOp) (x a : ℕ) (i : ℤ) → pruned is_used (s.Load f x a i) ≡ where_used is_used x (s.Load f x a i)
  pruned_load f x a i = at (o.Load f x a i) _ (s.rolls-Load f x a i)

  pub pruned_store : (f : SOp) (x a : ℕ) (i : ℤ) → pruned is_used (s.Store f x a i) ≡ s.Store f x a i ∷ []
  pruned_store f x a i = at (o.Store f x a i) _ (s.rolls-Store f x a i)

  pub pruned_if : (y : Test) (first second : Stmt) → pruned is_used (s.If y first second) ≡ s.If y (s.Seq (pruned is_used first)) (s.Seq (pruned is_used second)) ∷ []
  pruned_if y first second = at (o.If y first second) _ (s.rolls-If y first second)

  pub pruned_while : (before : List Stmt) (y : Test) (body : Stmt) → pruned is_used (s.While before y body) ≡ s.While (pruned_row is_used before) y (s.Seq (pruned is_used body)) ∷ []
  pruned_while before y body = at (o.While before y body) _ (s.rolls-While before y body)

  pub pruned_break : pruned is_used s.Break ≡ s.Break ∷ []
  pruned_break = at o.Break _ s.rolls-Break

  pub pruned_continue : pruned is_used s.Continue ≡ s.Continue ∷ []
  pruned_continue = at o.Continue _ s.rolls-Continue

  pub pruned_call : (results : List ℕ) (f : ℕ) (arguments : List ℕ) (h : Option (Handler Stmt)) → pruned is_used (s.Call results f arguments h) ≡ s.Call results f arguments (pruned_handler is_used h) ∷ []
  pruned_call results f arguments None = at (o.Call results f arguments None) _ (s.rolls-Call results f arguments None)
  pruned_call results f arguments (Some h) = at (o.Call results f arguments (Some h)) _ (s.rolls-Call results f arguments (Some h))

  pub pruned_tail_call : (f : ℕ) (arguments : List ℕ) → pruned is_used (s.TailCall f arguments) ≡ s.TailCall f arguments ∷ []
  pruned_tail_call f arguments = at (o.TailCall f arguments) _ (s.rolls-TailCall f arguments)

  pub pruned_return : (xs : List ℕ) → pruned is_used (s.Return xs) ≡ s.Return xs ∷ []
  pruned_return xs = at (o.Return xs) _ (s.rolls-Return xs)

  pub pruned_raise : (i : ℕ) (xs : List ℕ) → pruned is_used (s.Raise i xs) ≡ s.Raise i xs ∷ []
  pruned_raise i xs = at (o.Raise i xs) _ (s.rolls-Raise i xs)

  pub pruned_shared_load : (size : Size) (x a : ℕ) (i : ℤ) → pruned is_used (s.SharedLoad size x a i) ≡ s.SharedLoad size x a i ∷ []
  pruned_shared_load size x a i = at (o.SharedLoad size x a i) _ (s.rolls-SharedLoad size x a i)

  pub pruned_shared_store : (size : Size) (x a : ℕ) (i : ℤ) → pruned is_used (s.SharedStore size x a i) ≡ s.SharedStore size x a i ∷ []
  pruned_shared_store size x a i = at (o.SharedStore size x a i) _ (s.rolls-SharedStore size x a i)

  pub pruned_foreign : (i conf conf_len array array_len : ℕ) → pruned is_used (s.Foreign i conf conf_len array array_len) ≡ s.Foreign i conf conf_len array array_len ∷ []
  pruned_foreign i conf conf_len array array_len = at (o.Foreign i conf conf_len array array_len) _ (s.rolls-Foreign i conf conf_len array array_len)

pub ruleset prune_rules = (pruned_skip, pruned_seq, pruned_const, pruned_reg, pruned_imm, pruned_sh, pruned_load, pruned_store, pruned_if, pruned_while, pruned_break, pruned_continue, pruned_call, pruned_tail_call, pruned_return, pruned_raise, pruned_shared_load, pruned_shared_store, pruned_foreign, append_assoc, append-nil)

-- by flags that say what is used
pub pruned_by_flags : (flags : List Bool) (x : Stmt) → ((y : ℕ) → is_set flags y ≡ has (used x) y) → pruned (is_set flags) x ≡ pruned (has (used x)) x
pruned_by_flags flags x h = ap (λ (p : ℕ → Bool). pruned p x) (fun_ext h)
