-- What a renamed statement is, at each variant.
use Rattle.std.proofs.Common.{◌≡◌, ℕ, List, map, Option, Some, None, sym, ap, ◌∙◌}
use Rattle.std.specs.Prelude.{ℤ}
use Rattle.pan_base.specs.declared.events.Size.{Size}
use Rattle.pan_base.specs.declared.operators.ROp.{ROp}
use Rattle.pan_base.specs.declared.operators.IOp.{IOp}
use Rattle.pan_base.specs.declared.operators.ShiftOp.{ShiftOp}
use Rattle.pan_base.specs.declared.operators.LOp.{LOp}
use Rattle.pan_base.specs.declared.operators.SOp.{SOp}
use Rattle.pan_stage.specs.declared.program.Handler.{Handler}
use Rattle.word_lang.specs.declared.syntax.Test.{Test}
use Rattle.word_lang.specs.declared.syntax.Stmt.{Stmt, Stmt-F, roll-Stmt, map-Stmt, fold-roll-Stmt}
use Rattle.word_lang.specs.declared.syntax.Stmt.TheOpen as o
use Rattle.word_lang.specs.declared.syntax.Stmt.TheVariants as s
use Rattle.reg_alloc.specs.Renamed.{rename_test, rename_layer, rename, rename_handler}

pub rename_roll : (home : ℕ → ℕ) (y : Stmt-F Stmt) → rename home (roll-Stmt y) ≡ rename_layer home (map-Stmt Stmt Stmt (rename home) y)
unfolding rename
rename_roll home y = fold-roll-Stmt Stmt (rename_layer home) y

at : (home : ℕ → ℕ) (y : Stmt-F Stmt) (x : Stmt) → roll-Stmt y ≡ x → rename home x ≡ rename_layer home (map-Stmt Stmt Stmt (rename home) y)
at home y x is = ap (rename home) (sym is) ∙ rename_roll home y

module _ (home : ℕ → ℕ) where
  pub rename_skip : rename home s.Skip ≡ s.Skip
  rename_skip = at home o.Skip _ s.rolls-Skip

  pub rename_seq : (all : List Stmt) → rename home (s.Seq all) ≡ s.Seq (map (rename home) all)
  rename_seq all = at home (o.Seq all) _ (s.rolls-Seq all)

  pub rename_const : (x n : ℕ) → rename home (s.Const x n) ≡ s.Const (home x) n
  rename_const x n = at home (o.Const x n) _ (s.rolls-Const x n)

  pub rename_reg : (f : ROp) (x a b : ℕ) → rename home (s.Reg f x a b) ≡ s.Reg f (home x) (home a) (home b)
  rename_reg f x a b = at home (o.Reg f x a b) _ (s.rolls-Reg f x a b)

  pub rename_imm : (f : IOp) (x a : ℕ) (i : ℤ) → rename home (s.Imm f x a i) ≡ s.Imm f (home x) (home a) i
  rename_imm f x a i = at home (o.Imm f x a i) _ (s.rolls-Imm f x a i)

  pub rename_sh : (f : ShiftOp) (x a n : ℕ) → rename home (s.Sh f x a n) ≡ s.Sh f (home x) (home a) n
  rename_sh f x a n = at home (o.Sh f x a n) _ (s.rolls-Sh f x a n)

  pub rename_load : (f : LOp) (x a : ℕ) (i : ℤ) → rename home (s.Load f x a i) ≡ s.Load f (home x) (home a) i
  rename_load f x a i = at home (o.Load f x a i) _ (s.rolls-Load f x a i)

  pub rename_store : (f : SOp) (x a : ℕ) (i : ℤ) → rename home (s.Store f x a i) ≡ s.Store f (home x) (home a) i
  rename_store f x a i = at home (o.Store f x a i) _ (s.rolls-Store f x a i)

  pub rename_if : (y : Test) (first second : Stmt) → rename home (s.If y first second) ≡ s.If (rename_test home y) (rename home first) (rename home second)
  rename_if y first second = at home (o.If y first second) _ (s.rolls-If y first second)

  pub rename_while : (before : List Stmt) (y : Test) (body : Stmt) → rename home (s.While before y body) ≡ s.While (map (rename home) before) (rename_test home y) (rename home body)
  rename_while before y body = at home (o.While before y body) _ (s.rolls-While before y body)

  pub rename_break : rename home s.Break ≡ s.Break
  rename_break = at home o.Break _ s.rolls-Break

  pub rename_continue : rename home s.Continue ≡ s.Continue
  rename_continue = at home o.Continue _ s.rolls-Continue

  pub rename_call : (results : List ℕ) (f : ℕ) (arguments : List ℕ) (h : Option (Handler Stmt)) → rename home (s.Call results f arguments h) ≡ s.Call (map home results) f (map home arguments) (rename_handler home h)
  rename_call results f arguments None = at home (o.Call results f arguments None) _ (s.rolls-Call results f arguments None)
  rename_call results f arguments (Some h) = at home (o.Call results f arguments (Some h)) _ (s.rolls-Call results f arguments (Some h))

  pub rename_tail_call : (f : ℕ) (arguments : List ℕ) → rename home (s.TailCall f arguments) ≡ s.TailCall f (map home arguments)
  rename_tail_call f arguments = at home (o.TailCall f arguments) _ (s.rolls-TailCall f arguments)

  pub rename_return : (xs : List ℕ) → rename home (s.Return xs) ≡ s.Return (map home xs)
  rename_return xs = at home (o.Return xs) _ (s.rolls-Return xs)

  pub rename_raise : (i : ℕ) (xs : List ℕ) → rename home (s.Raise i xs) ≡ s.Raise i (map home xs)
  rename_raise i xs = at home (o.Raise i xs) _ (s.rolls-Raise i xs)

  pub rename_shared_load : (size : Size) (x a : ℕ) (i : ℤ) → rename home (s.SharedLoad size x a i) ≡ s.SharedLoad size (home x) (home a) i
  rename_shared_load size x a i = at home (o.SharedLoad size x a i) _ (s.rolls-SharedLoad size x a i)

  pub rename_shared_store : (size : Size) (x a : ℕ) (i : ℤ) → rename home (s.SharedStore size x a i) ≡ s.SharedStore size (home x) (home a) i
  rename_shared_store size x a i = at home (o.SharedStore size x a i) _ (s.rolls-SharedStore size x a i)

  pub rename_foreign : (i conf conf_len array array_len : ℕ) → rename home (s.Foreign i conf conf_len array array_len) ≡ s.Foreign i (home conf) (home conf_len) (home array) (home array_len)
  rename_foreign i conf conf_len array array_len = at home (o.Foreign i conf conf_len array array_len) _ (s.rolls-Foreign i conf conf_len array array_len)

pub ruleset rename_rules = (rename_skip, rename_seq, rename_const, rename_reg, rename_imm, rename_sh, rename_load, rename_store, rename_if, rename_while, rename_break, rename_continue, rename_call, rename_tail_call, rename_return, rename_raise, rename_shared_load, rename_shared_store, rename_foreign)
