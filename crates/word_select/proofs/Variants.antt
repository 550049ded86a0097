-- What holds of each variant of a statement whose parts it holds of holds of every statement.
use Rattle.std.proofs.Common.{ℕ, List, map, Some, None, sym, subst}
use Rattle.std.specs.Prelude.{ℤ}
use Rattle.pan_base.specs.declared.events.Size.{Size}
use Rattle.pan_base.specs.declared.operators.ROp.{ROp}
use Rattle.pan_base.specs.declared.operators.IOp.{IOp}
use Rattle.pan_base.specs.declared.operators.ShiftOp.{ShiftOp}
use Rattle.pan_base.specs.declared.operators.LOp.{LOp}
use Rattle.pan_base.specs.declared.operators.SOp.{SOp}
use Rattle.word_lang.specs.declared.syntax.Test.{Test}
use Rattle.word_lang.specs.declared.syntax.Stmt.{Stmt, Stmt-F, roll-Stmt, map-Stmt}
use Rattle.word_lang.specs.declared.syntax.Stmt.TheOpen as o
use Rattle.word_lang.specs.declared.syntax.Stmt.TheVariants as s
use Rattle.word_lang.proofs.Equations.{stmt_induct}

-- the statements alone, of some for which P holds
abbrev pub plain : {P : Stmt → Type 0} → List ((x : Stmt) × P x) → List Stmt
plain {P} all = map (λ (c : (x : Stmt) × P x). c.0) all

pub record Cases (P : Stmt → Type 0) : Type 0 where
  pub of_skip : P s.Skip
  pub of_seq : (all : List ((x : Stmt) × P x)) → P (s.Seq (plain all))
  pub of_const : (x n : ℕ) → P (s.Const x n)
  pub of_reg : (f : ROp) (x a b : ℕ) → P (s.Reg f x a b)
  pub of_imm : (f : IOp) (x a : ℕ) (i : ℤ) → P (s.Imm f x a i)
  pub of_sh : (f : ShiftOp) (x a n : ℕ) → P (s.Sh f x a n)
  pub of_load : (f : LOp) (x a : ℕ) (i : ℤ) → P (s.Load f x a i)
  pub of_store : (f : SOp) (x a : ℕ) (i : ℤ) → P (s.Store f x a i)
  pub of_if : (y : Test) (first second : Stmt) → P first → P second → P (s.If y first second)
  pub of_while : (before : List ((x : Stmt) × P x)) (y : Test) (body : Stmt) → P body → P (s.While (plain before) y body)
  pub of_break : P s.Break
  pub of_continue : P s.Continue
  pub of_call : (results : List ℕ) (f : ℕ) (arguments : List ℕ) → P (s.Call results f arguments None)
  pub of_caught_call : (results : List ℕ) (f : ℕ) (arguments : List ℕ) (exception : ℕ) (variables : List ℕ) (body : Stmt) → P body → P (s.Call results f arguments (Some (record { exception = exception; variables = variables; body = body })))
  pub of_tail_call : (f : ℕ) (arguments : List ℕ) → P (s.TailCall f arguments)
  pub of_return : (xs : List ℕ) → P (s.Return xs)
  pub of_raise : (i : ℕ) (xs : List ℕ) → P (s.Raise i xs)
  pub of_shared_load : (size : Size) (x a : ℕ) (i : ℤ) → P (s.SharedLoad size x a i)
  pub of_shared_store : (size : Size) (x a : ℕ) (i : ℤ) → P (s.SharedStore size x a i)
  pub of_foreign : (i conf conf_len array array_len : ℕ) → P (s.Foreign i conf conf_len array array_len)

module _ (P : Stmt → Type 0) (c : Cases P) where
  layer : (y : Stmt-F ((x : Stmt) × P x)) → P (roll-Stmt (map-Stmt ((x : Stmt) × P x) Stmt (λ c. c.0) y))
  layer o.Skip = subst P (sym s.rolls-Skip) c.of_skip
  layer (o.Seq all) = subst P (sym (s.rolls-Seq (plain all))) (c.of_seq all)
  layer (o.Const x n) = subst P (sym (s.rolls-Const x n)) (c.of_const x n)
  layer (o.Reg f x a b) = subst P (sym (s.rolls-Reg f x a b)) (c.of_reg f x a b)
  layer (o.Imm f x a i) = subst P (sym (s.rolls-Imm f x a i)) (c.of_imm f x a i)
  layer (o.Sh f x a n) = subst P (sym (s.rolls-Sh f x a n)) (c.of_sh f x a n)
  layer (o.Load f x a i) = subst P (sym (s.rolls-Load f x a i)) (c.of_load f x a i)
  layer (o.Store f x a i) = subst P (sym (s.rolls-Store f x a i)) (c.of_store f x a i)
  layer (o.If y p q) = subst P (sym (s.rolls-If y p.0 q.0)) (c.of_if y p.0 q.0 p.1 q.1)
  layer (o.While all y q) = subst P (sym (s.rolls-While (plain all) y q.0)) (c.of_while all y q.0 q.1)
  layer o.Break = subst P (sym s.rolls-Break) c.of_break
  layer o.Continue = subst P (sym s.rolls-Continue) c.of_continue
  layer (o.Call results f arguments None) = subst P (sym (s.rolls-Call results f arguments None)) (c.of_call results f arguments)
  layer (o.Call results f arguments (Some h)) =
      subst P (sym (s.rolls-Call results f arguments (Some (record { exception = h.exception; variables = h.variables; body = h.body.0 })))) (c.of_caught_call results f arguments h.exception h.variables h.body.0 h.body.1)
  layer (o.TailCall f arguments) = subst P (sym (s.rolls-TailCall f arguments)) (c.of_tail_call f arguments)
  layer (o.Return xs) = subst P (sym (s.rolls-Return xs)) (c.of_return xs)
  layer (o.Raise i xs) = subst P (sym (s.rolls-Raise i xs)) (c.of_raise i xs)
  layer (o.SharedLoad size x a i) = subst P (sym (s.rolls-SharedLoad size x a i)) (c.of_shared_load size x a i)
  layer (o.SharedStore size x a i) = subst P (sym (s.rolls-SharedStore size x a i)) (c.of_shared_store size x a i)
  layer (o.Foreign i conf conf_len array array_len) = subst P (sym (s.rolls-Foreign i conf conf_len array array_len)) (c.of_foreign i conf conf_len array array_len)

  pub by_cases : (x : Stmt) → P x
  by_cases = stmt_induct P layer
