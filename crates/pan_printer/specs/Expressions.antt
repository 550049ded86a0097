-- The tokens of shapes and expressions.
use Rattle.std.specs.Prelude.{ℕ, nat_lt, if◌then◌else◌, List, [], ◌∷◌, ◌++◌, flat_map}
use Rattle.pan_base.specs.declared.operators.BinOp.{BinOp}
use Rattle.pan_base.specs.declared.operators.BinOp.TheVariants as bin_op
use Rattle.pan_base.specs.declared.operators.ShOp.{ShOp}
use Rattle.pan_base.specs.declared.operators.ShOp.TheVariants as sh_op
use Rattle.pan_base.specs.declared.operators.Cmp.{Cmp}
use Rattle.pan_base.specs.declared.operators.Cmp.TheVariants as cmp
use Rattle.pan_base.specs.declared.tokens.Keyword.TheVariants as keyword
use Rattle.pan_base.specs.declared.tokens.Sign.{Sign}
use Rattle.pan_base.specs.declared.tokens.Sign.TheVariants as signs
use Rattle.pan_base.specs.Tokens.{Base, Biw}
use Rattle.pan_tree.specs.declared.shape.Shape.{Shape, Shape-F, fold-Shape}
use Rattle.pan_tree.specs.declared.shape.Shape.TheOpen as shape
use Rattle.pan_tree.specs.declared.spanned.Spanned.{Spanned}
use Rattle.pan_tree.specs.declared.syntax.ExprKind.{ExprKind, ExprKind-F, fold-ExprKind}
use Rattle.pan_tree.specs.declared.syntax.ExprKind.TheOpen as expr
use Rattle.pan_printer.specs.declared.binding.Binding.{Binding}
use Rattle.pan_printer.specs.declared.binding.Binding.TheVariants as binding
use Rattle.pan_printer.specs.Pieces.{Piece, spaced, sign, word, name, number, with_commas}

-- ---- shapes

-- the tokens of a shape, from those of its parts
abbrev pub shape_layer : Shape-F (List Piece) → List Piece
shape_layer shape.Word = number 1 ∷ []
shape_layer (shape.Words n) = number n ∷ []
shape_layer (shape.Group parts) = sign signs.OpenBrace ∷ with_commas (λ part. part) parts ++ sign signs.CloseBrace ∷ []

unfoldable pub shape_pieces : Shape → List Piece
shape_pieces = fold-Shape (List Piece) shape_layer

-- ---- how tightly expressions bind

abbrev pub rank : Binding → ℕ
rank binding.Comparison = 0
rank binding.Or = 1
rank binding.Xor = 2
rank binding.And = 3
rank binding.Shift = 4
rank binding.Sum = 5
rank binding.Product = 6
rank binding.Unary = 7
rank binding.Field = 8
rank binding.Primary = 9

-- what the parts of a comparison, a chain, a shift or a field bind like at least
abbrev pub tighter : Binding → Binding
tighter binding.Comparison = binding.Or
tighter binding.Or = binding.Xor
tighter binding.Xor = binding.And
tighter binding.And = binding.Shift
tighter binding.Shift = binding.Sum
tighter binding.Sum = binding.Product
tighter binding.Product = binding.Unary
tighter binding.Unary = binding.Field
tighter binding.Field = binding.Primary
tighter binding.Primary = binding.Primary

-- an expression's tokens, and how tightly it binds
pub record Written : Type 0 where
  pub binding : Binding
  pub pieces : List Piece

abbrev pub written : Binding → List Piece → Written
written b pieces = record { binding = b; pieces = pieces }

-- An expression at a place that asks for what binds like `least` at least: in parentheses where it binds less.
abbrev pub at : Binding → Written → List Piece
at least w = if nat_lt (rank w.binding) (rank least) then sign signs.OpenParen ∷ w.pieces ++ sign signs.CloseParen ∷ [] else w.pieces

-- ---- operators

abbrev pub operator_sign : BinOp → Sign
operator_sign bin_op.Add = signs.Plus
operator_sign bin_op.Sub = signs.Minus
operator_sign bin_op.Mul = signs.Star
operator_sign bin_op.And = signs.And
operator_sign bin_op.Or = signs.Or
operator_sign bin_op.Xor = signs.Xor

abbrev pub shift_sign : ShOp → Sign
shift_sign sh_op.Shl = signs.ShiftLeft
shift_sign sh_op.Shr = signs.ShiftRight
shift_sign sh_op.Sar = signs.ShiftSigned
shift_sign sh_op.Ror = signs.Rotate

abbrev pub comparison_sign : Cmp → Sign
comparison_sign cmp.Eq = signs.Equal
comparison_sign cmp.Ne = signs.NotEqual
comparison_sign cmp.Lt = signs.Less
comparison_sign cmp.Ge = signs.NotLess
comparison_sign cmp.Ltu = signs.LessU
comparison_sign cmp.Geu = signs.NotLessU

-- how a chain of the operator binds
abbrev pub operator_binding : BinOp → Binding
operator_binding bin_op.Add = binding.Sum
operator_binding bin_op.Sub = binding.Sum
operator_binding bin_op.Mul = binding.Product
operator_binding bin_op.And = binding.And
operator_binding bin_op.Or = binding.Or
operator_binding bin_op.Xor = binding.Xor

-- A chain has one operator or more, all of one binding.
abbrev pub chain_binding : {X : Type 0} → List (BinOp × X) → Binding
chain_binding [] = binding.Primary
chain_binding (y ∷ ys) = operator_binding y.0

-- the operators of a chain, each with the part behind it
abbrev pub terms : {X : Type 0} → Binding → (X → Written) → List (BinOp × X) → List Piece
terms least part ys = flat_map (λ y. sign (operator_sign y.0) ∷ at least (part y.1)) ys

abbrev pub shifts : List (ShOp × ℕ) → List Piece
shifts ns = flat_map (λ n. sign (shift_sign n.0) ∷ number n.1 ∷ []) ns

abbrev pub fields : List ℕ → List Piece
fields is = flat_map (λ i. sign signs.Dot ∷ number i ∷ []) is

-- ---- expressions

-- how an expression is written, from how its parts are
abbrev pub expr_layer : ExprKind-F Written → Written
expr_layer (expr.Number n) = written binding.Primary (number n ∷ [])
expr_layer (expr.Var x) = written binding.Primary (name x ∷ [])
expr_layer expr.Base = written binding.Primary (spaced Base ∷ [])
expr_layer expr.Biw = written binding.Primary (spaced Biw ∷ [])
expr_layer (expr.Struct xs) = written binding.Primary (sign signs.Less ∷ with_commas (λ x. (x.kind).pieces) xs ++ sign signs.Greater ∷ [])
expr_layer (expr.Field x is) = written binding.Field (at binding.Primary x.kind ++ fields is)
expr_layer (expr.Load z x) = written binding.Unary (word keyword.Lds ∷ shape_pieces z ++ at binding.Unary x.kind)
expr_layer (expr.LoadByte x) = written binding.Unary (word keyword.Ldb ∷ at binding.Unary x.kind)
expr_layer (expr.Neg x) = written binding.Unary (sign signs.Minus ∷ at binding.Unary x.kind)
expr_layer (expr.Chain x ys) = written (chain_binding ys) (at (tighter (chain_binding ys)) x.kind ++ terms (tighter (chain_binding ys)) (λ y. y.kind) ys)
expr_layer (expr.Shift x ns) = written binding.Shift (at (tighter binding.Shift) x.kind ++ shifts ns)
expr_layer (expr.Compare o x y) = written binding.Comparison (at (tighter binding.Comparison) x.kind ++ sign (comparison_sign o) ∷ at (tighter binding.Comparison) y.kind)

unfoldable pub kind_written : ExprKind → Written
kind_written = fold-ExprKind Written expr_layer

-- the tokens of an expression that stands in no other expression
abbrev pub expr_pieces : Spanned ExprKind → List Piece
expr_pieces x = (kind_written x.kind).pieces
