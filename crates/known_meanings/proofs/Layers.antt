-- The equations of the meaning and of the weights, at the variants of the known programs.
use Rattle.std.proofs.Common.{◌≡◌, ℕ, List, sym, ap, ◌∙◌}
use Rattle.pan_base.specs.declared.operators.BinOp.{BinOp}
use Rattle.pan_tree.specs.Running.{World, Callee}
use Rattle.pan_tree.specs.Value.{Value}
use Rattle.pan_tree.specs.Check as check
use Rattle.pan_tree.specs.Check.{Context, State, Judging, judge_layer, judge_kind, Doing, do_layer, do_kind}
use Rattle.pan_tree.specs.Meaning.{Scopes, Giving, value_layer, value_kind, Does, run_layer, run_kind}
use Rattle.pan_tree.specs.Shapes.{Filling, fill_layer, filling}
use Rattle.pan_tree.specs.declared.shape.Shape.{Shape, Shape-F, roll-Shape, map-Shape, fold-roll-Shape}
use Rattle.pan_tree.specs.declared.shape.Shape.TheOpen as open_shape
use Rattle.pan_tree.specs.declared.shape.Shape.TheVariants as shape
use Rattle.pan_tree.specs.declared.program.Program.{Program}
use Rattle.pan_tree.specs.declared.spanned.Spanned.{Spanned}
use Rattle.pan_tree.specs.declared.syntax.CallOf.{CallOf}
use Rattle.pan_tree.specs.declared.syntax.ExprKind.{ExprKind, ExprKind-F, roll-ExprKind, map-ExprKind, fold-roll-ExprKind}
use Rattle.pan_tree.specs.declared.syntax.ExprKind.TheOpen as expr
use Rattle.pan_tree.specs.declared.syntax.ExprKind.TheVariants as e
use Rattle.pan_tree.specs.declared.syntax.StmtKind.{StmtKind, StmtKind-F, roll-StmtKind, map-StmtKind, fold-roll-StmtKind}
use Rattle.pan_tree.specs.declared.syntax.StmtKind.TheOpen as stmt
use Rattle.pan_tree.specs.declared.syntax.StmtKind.TheVariants as s

value_roll : (x : ExprKind-F ExprKind) → value_kind (roll-ExprKind x) ≡ value_layer (map-ExprKind ExprKind Giving value_kind x)
unfolding value_kind
value_roll x = fold-roll-ExprKind Giving value_layer x

judge_roll : (x : ExprKind-F ExprKind) → judge_kind (roll-ExprKind x) ≡ judge_layer (map-ExprKind ExprKind Judging judge_kind x)
unfolding judge_kind
judge_roll x = fold-roll-ExprKind Judging judge_layer x

pub value_number : (n : ℕ) (v : Scopes) (m : List ℕ) → value_kind (e.Number n) v m ≡ value_layer (expr.Number n) v m
value_number n v m = ap (λ f. f v m) (ap value_kind (sym (e.rolls-Number n)) ∙ value_roll (expr.Number n))

pub value_var : (x : List ℕ) (v : Scopes) (m : List ℕ) → value_kind (e.Var x) v m ≡ value_layer (expr.Var x) v m
value_var x v m = ap (λ f. f v m) (ap value_kind (sym (e.rolls-Var x)) ∙ value_roll (expr.Var x))

pub value_chain : (a : Spanned ExprKind) (ps : List (BinOp × Spanned ExprKind)) (v : Scopes) (m : List ℕ) → value_kind (e.Chain a ps) v m ≡ value_layer (map-ExprKind ExprKind Giving value_kind (expr.Chain a ps)) v m
value_chain a ps v m = ap (λ f. f v m) (ap value_kind (sym (e.rolls-Chain a ps)) ∙ value_roll (expr.Chain a ps))

pub judge_number : (n : ℕ) (place : ℕ) (v : check.Scopes) → judge_kind (e.Number n) place v ≡ judge_layer (expr.Number n) place v
judge_number n place v = ap (λ f. f place v) (ap judge_kind (sym (e.rolls-Number n)) ∙ judge_roll (expr.Number n))

pub judge_var : (x : List ℕ) (place : ℕ) (v : check.Scopes) → judge_kind (e.Var x) place v ≡ judge_layer (expr.Var x) place v
judge_var x place v = ap (λ f. f place v) (ap judge_kind (sym (e.rolls-Var x)) ∙ judge_roll (expr.Var x))

pub judge_chain : (a : Spanned ExprKind) (ps : List (BinOp × Spanned ExprKind)) (place : ℕ) (v : check.Scopes) → judge_kind (e.Chain a ps) place v ≡ judge_layer (map-ExprKind ExprKind Judging judge_kind (expr.Chain a ps)) place v
judge_chain a ps place v = ap (λ f. f place v) (ap judge_kind (sym (e.rolls-Chain a ps)) ∙ judge_roll (expr.Chain a ps))

do_roll : (x : StmtKind-F StmtKind) → do_kind (roll-StmtKind x) ≡ do_layer (map-StmtKind StmtKind Doing do_kind x)
unfolding do_kind
do_roll x = fold-roll-StmtKind Doing do_layer x

pub do_assign : (x : List ℕ) (a : Spanned ExprKind) (c : Context) (place : ℕ) (t : State) → do_kind (s.Assign x a) c place t ≡ do_layer (stmt.Assign x a) c place t
do_assign x a c place t = ap (λ f. f c place t) (ap do_kind (sym (s.rolls-Assign x a)) ∙ do_roll (stmt.Assign x a))

pub do_call : (k : CallOf (Spanned StmtKind)) (c : Context) (place : ℕ) (t : State) → do_kind (s.Call k) c place t ≡ do_layer (map-StmtKind StmtKind Doing do_kind (stmt.Call k)) c place t
do_call k c place t = ap (λ f. f c place t) (ap do_kind (sym (s.rolls-Call k)) ∙ do_roll (stmt.Call k))

pub do_return : (a : Spanned ExprKind) (c : Context) (place : ℕ) (t : State) → do_kind (s.Return a) c place t ≡ do_layer (stmt.Return a) c place t
do_return a c place t = ap (λ f. f c place t) (ap do_kind (sym (s.rolls-Return a)) ∙ do_roll (stmt.Return a))

pub do_tail_call : (f : List ℕ) (xs : List (Spanned ExprKind)) (c : Context) (place : ℕ) (t : State) → do_kind (s.TailCall f xs) c place t ≡ do_layer (stmt.TailCall f xs) c place t
do_tail_call f xs c place t = ap (λ f. f c place t) (ap do_kind (sym (s.rolls-TailCall f xs)) ∙ do_roll (stmt.TailCall f xs))

pub do_raise : (x : List ℕ) (a : Spanned ExprKind) (c : Context) (place : ℕ) (t : State) → do_kind (s.Raise x a) c place t ≡ do_layer (stmt.Raise x a) c place t
do_raise x a c place t = ap (λ f. f c place t) (ap do_kind (sym (s.rolls-Raise x a)) ∙ do_roll (stmt.Raise x a))

module _ (p : Program) (d : ℕ) (c : Callee (List Value) Value) where
  run_roll : (x : StmtKind-F StmtKind) → run_kind p d c (roll-StmtKind x) ≡ run_layer p d c (map-StmtKind StmtKind Does (run_kind p d c) x)
  unfolding run_kind
  run_roll x = fold-roll-StmtKind Does (run_layer p d c) x

  pub run_assign : (x : List ℕ) (a : Spanned ExprKind) (v : Scopes) (w : World) → run_kind p d c (s.Assign x a) v w ≡ run_layer p d c (stmt.Assign x a) v w
  run_assign x a v w = ap (λ f. f v w) (ap (run_kind p d c) (sym (s.rolls-Assign x a)) ∙ run_roll (stmt.Assign x a))

  pub run_call : (k : CallOf (Spanned StmtKind)) (v : Scopes) (w : World) → run_kind p d c (s.Call k) v w ≡ run_layer p d c (map-StmtKind StmtKind Does (run_kind p d c) (stmt.Call k)) v w
  run_call k v w = ap (λ f. f v w) (ap (run_kind p d c) (sym (s.rolls-Call k)) ∙ run_roll (stmt.Call k))

  pub run_return : (a : Spanned ExprKind) (v : Scopes) (w : World) → run_kind p d c (s.Return a) v w ≡ run_layer p d c (stmt.Return a) v w
  run_return a v w = ap (λ f. f v w) (ap (run_kind p d c) (sym (s.rolls-Return a)) ∙ run_roll (stmt.Return a))

  pub run_tail_call : (f : List ℕ) (xs : List (Spanned ExprKind)) (v : Scopes) (w : World) → run_kind p d c (s.TailCall f xs) v w ≡ run_layer p d c (stmt.TailCall f xs) v w
  run_tail_call f xs v w = ap (λ f. f v w) (ap (run_kind p d c) (sym (s.rolls-TailCall f xs)) ∙ run_roll (stmt.TailCall f xs))

  pub run_raise : (x : List ℕ) (a : Spanned ExprKind) (v : Scopes) (w : World) → run_kind p d c (s.Raise x a) v w ≡ run_layer p d c (stmt.Raise x a) v w
  run_raise x a v w = ap (λ f. f v w) (ap (run_kind p d c) (sym (s.rolls-Raise x a)) ∙ run_roll (stmt.Raise x a))

filling_roll : (x : Shape-F Shape) → filling (roll-Shape x) ≡ fill_layer (map-Shape Shape Filling filling x)
unfolding filling
filling_roll x = fold-roll-Shape Filling fill_layer x

pub filling_word : (ns : List ℕ) → filling shape.Word ns ≡ fill_layer open_shape.Word ns
filling_word ns = ap (λ f. f ns) (ap filling (sym shape.rolls-Word) ∙ filling_roll open_shape.Word)

pub ruleset value_rules = (value_number, value_var, value_chain)

pub ruleset weight_rules = (judge_number, judge_var, judge_chain, do_assign, do_call, do_return, do_tail_call, do_raise)

pub ruleset run_rules = (run_assign, run_call, run_return, run_tail_call, run_raise)
