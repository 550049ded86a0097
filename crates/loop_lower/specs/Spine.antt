-- Expressions from the first word that they compute outwards.
use Rattle.std.specs.Prelude.{ℕ, List, [], ◌∷◌, ◌++◌, Option, None, Bool}
use Rattle.crep_lang.specs.declared.syntax.Expr.{Expr}
use Rattle.crep_lang.specs.declared.syntax.Expr.TheVariants as e
use Rattle.loop_lang.specs.declared.syntax.Stmt.{Stmt}
use Rattle.loop_lang.specs.declared.syntax.Stmt.TheVariants as s
use Rattle.loop_lower.specs.declared.spine.Leaf.{Leaf}
use Rattle.loop_lower.specs.declared.spine.Leaf.TheVariants as leaf
use Rattle.loop_lower.specs.declared.spine.Unary.{Unary}
use Rattle.loop_lower.specs.declared.spine.Unary.TheVariants as unary
use Rattle.loop_lower.specs.declared.spine.Binary.{Binary}
use Rattle.loop_lower.specs.declared.spine.Binary.TheVariants as binary
use Rattle.loop_lower.specs.declared.spine.Operation.{Operation}
use Rattle.loop_lower.specs.declared.spine.Operation.TheVariants as operation
use Rattle.loop_lower.specs.declared.spine.Layer.{Layer}
use Rattle.loop_lower.specs.declared.spine.Layer.TheVariants as layer
use Rattle.loop_lower.specs.declared.spine.Spine.{Spine}
use Rattle.loop_lower.specs.Lowered.{before, operand, next, spot_of, or_spot, lower}

-- ---- the expressions that the parts make

abbrev pub leaf_expr : Leaf → Expr
leaf_expr (leaf.Num n) = e.Num n
leaf_expr (leaf.Var x) = e.Var x

abbrev pub unary_expr : Unary → Expr → Expr
unary_expr unary.LoadWord a = e.LoadWord a
unary_expr unary.LoadByte a = e.LoadByte a
unary_expr (unary.Shift o n) a = e.Shift o a n

abbrev pub binary_expr : Binary → Expr → Expr → Expr
binary_expr (binary.Bin o) a b = e.Bin o a b
binary_expr (binary.Compare c) a b = e.Compare c a b

-- an operation on a first operand
abbrev pub applied : Operation → Expr → Expr
applied (operation.Unary o) a = unary_expr o a
applied (operation.Binary o b) a = binary_expr o a b.now

-- the last operation first
abbrev pub all_applied : List Operation → Expr → Expr
all_applied [] a = a
all_applied (o ∷ os) a = applied o (all_applied os a)

abbrev pub layer_expr : Layer → Expr
layer_expr (layer.Leaf l) = leaf_expr l
layer_expr (layer.Operation a o) = applied o a.now

abbrev pub spine_expr : Spine → Expr
spine_expr spine = all_applied spine.operations (leaf_expr spine.leaf)

-- ---- their steps

abbrev pub unary_step : Unary → (target x : ℕ) → Stmt
unary_step unary.LoadWord target x = s.LoadWord target x
unary_step unary.LoadByte target x = s.LoadByte target x
unary_step (unary.Shift o n) target x = s.Shift o target x n

abbrev pub binary_step : Binary → (target x y : ℕ) → Stmt
binary_step (binary.Bin o) target x y = s.Bin o target x y
binary_step (binary.Compare c) target x y = s.Compare c target x y

-- Temporaries start at t, and the first operand has its word in x, behind which n is the first free one. The steps of the second operand and of the operator, and the first temporary that is then free.
abbrev pub steps_behind : (apart : Bool) (target : Option ℕ) → Operation → (x n t : ℕ) → List Stmt
steps_behind apart target (operation.Unary o) x n t = unary_step o (or_spot target (spot_of apart n t)) x ∷ []
steps_behind apart target (operation.Binary o b) x n t =
    let g = lower apart b.now in before g n ++ binary_step o (or_spot target (spot_of apart (next g n) t)) x (operand g n) ∷ []

abbrev pub spot_behind : (apart : Bool) → Operation → (n t : ℕ) → ℕ
spot_behind apart (operation.Unary o) n t = spot_of apart n t
spot_behind apart (operation.Binary o b) n t = spot_of apart (next (lower apart b.now) n) t

-- the target is that of the last operation alone
abbrev pub target_before : List Operation → Option ℕ → Option ℕ
target_before [] target = target
target_before (o ∷ os) target = None
