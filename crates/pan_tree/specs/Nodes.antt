-- Nodes of trees over the tokens that spell them.
use Rattle.std.specs.Prelude.{ℕ, ◌-◌, List, [], ◌∷◌, length, slice_get, Option, Some, None}
use Rattle.std.specs.Option.{option_map_or}
use Rattle.pan_base.specs.declared.operators.BinOp.{BinOp}
use Rattle.pan_base.specs.declared.operators.BinOp.TheVariants as bin_op
use Rattle.pan_base.specs.declared.operators.ShOp.{ShOp}
use Rattle.pan_base.specs.declared.operators.ShOp.TheVariants as sh_op
use Rattle.pan_base.specs.declared.operators.Cmp.{Cmp}
use Rattle.pan_base.specs.declared.operators.Cmp.TheVariants as cmp
use Rattle.pan_base.specs.declared.span.Span.{Span}
use Rattle.pan_base.specs.declared.tokens.Sign.TheVariants as sign
use Rattle.pan_base.specs.Tokens.{Placed, Kind, ASign}
use Rattle.pan_tree.specs.declared.level.Level.{Level}
use Rattle.pan_tree.specs.declared.level.Level.TheVariants.{Or, Xor, And, Sum, Product}
use Rattle.pan_tree.specs.declared.spanned.Spanned.{Spanned}
use Rattle.pan_tree.specs.declared.syntax.ExprKind.{ExprKind}
use Rattle.pan_tree.specs.declared.syntax.ExprKind.TheVariants as e

-- where the first of the tokens begins
abbrev pub start_of : List Placed → ℕ
start_of [] = 0
start_of (t ∷ ts) = t.span.start

-- Where the last token ends of those that come before a tail.
abbrev pub end_before : List Placed → List Placed → ℕ
end_before tokens tail = option_map_or (λ t. t.span.end) (slice_get tokens (length tokens - length tail - 1)) 0

-- from the first byte of the first token to the byte after the last one of those that come before a tail
abbrev pub between : List Placed → List Placed → Span
between tokens tail = record { start = start_of tokens; end = end_before tokens tail }

-- what the tokens before a tail spell, with its place
abbrev pub node : {K : Type 0} → List Placed → List Placed → K → Spanned K
node tokens tail kind = record { kind = kind; span = between tokens tail }

-- an expression, with its place
abbrev pub Expr : Type 0
Expr = Spanned ExprKind

-- a part and the operators of one level behind it: one node, or the part alone
abbrev pub chain : List Placed → List Placed → Expr → List (BinOp × Expr) → Expr
chain a b x [] = x
chain a b x (y ∷ ys) = node a b (e.Chain x (y ∷ ys))

-- a part and the shifts behind it
abbrev pub shifted : List Placed → List Placed → Expr → List (ShOp × ℕ) → Expr
shifted a b x [] = x
shifted a b x (n ∷ ns) = node a b (e.Shift x (n ∷ ns))

-- a part and the numbers of fields behind it
abbrev pub field : List Placed → List Placed → Expr → List ℕ → Expr
field a b x [] = x
field a b x (i ∷ is) = node a b (e.Field x (i ∷ is))

-- the operator of this level that a token is
abbrev pub operator_at : Level → Kind → Option BinOp
operator_at Or (ASign sign.Or) = Some bin_op.Or
operator_at Xor (ASign sign.Xor) = Some bin_op.Xor
operator_at And (ASign sign.And) = Some bin_op.And
operator_at Sum (ASign sign.Plus) = Some bin_op.Add
operator_at Sum (ASign sign.Minus) = Some bin_op.Sub
operator_at Product (ASign sign.Star) = Some bin_op.Mul
operator_at _ _ = None

-- the shift that a token is
abbrev pub shift_operator : Kind → Option ShOp
shift_operator (ASign sign.ShiftLeft) = Some sh_op.Shl
shift_operator (ASign sign.ShiftRight) = Some sh_op.Shr
shift_operator (ASign sign.ShiftSigned) = Some sh_op.Sar
shift_operator (ASign sign.Rotate) = Some sh_op.Ror
shift_operator _ = None

-- the comparison that a token is
abbrev pub comparison : Kind → Option Cmp
comparison (ASign sign.Equal) = Some cmp.Eq
comparison (ASign sign.NotEqual) = Some cmp.Ne
comparison (ASign sign.Less) = Some cmp.Lt
comparison (ASign sign.NotLess) = Some cmp.Ge
comparison (ASign sign.LessU) = Some cmp.Ltu
comparison (ASign sign.NotLessU) = Some cmp.Geu
comparison _ = None
