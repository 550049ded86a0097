-- When an expression or a statement makes a failing step.
use Rattle.std.specs.Prelude.{◌≡◌, ℕ, ◌%◌, true, false, List, [], ◌∷◌, map, slice_get, Option, Some, None}
use Rattle.pan_base.specs.declared.events.Size.{Size}
use Rattle.pan_base.specs.declared.text.Text.{Text}
use Rattle.pan_control.specs.Memory.{is_shared, byte_at, with_byte, bytes_at, words_at, with_words}
use Rattle.pan_tree.specs.Shapes.{words_of, shaped}
use Rattle.pan_tree.specs.Nodes.{Expr}
use Rattle.pan_tree.specs.Value.{Value, words_in}
use Rattle.pan_tree.specs.Meaning.{Scopes, value, word}
use Rattle.pan_tree.specs.declared.shape.Shape.{Shape}
use Rattle.pan_tree.specs.declared.spanned.Spanned.{Spanned}
use Rattle.pan_tree.specs.declared.syntax.ExprKind.{ExprKind, ExprKind-F, out-ExprKind}
use Rattle.pan_tree.specs.declared.syntax.ExprKind.TheOpen as open_expr
use Rattle.pan_tree.specs.declared.syntax.ExprKind.TheVariants as expr
use Rattle.pan_tree.specs.declared.syntax.StmtKind.{StmtKind-F}
use Rattle.pan_tree.specs.declared.syntax.StmtKind.TheOpen as stmt

-- the expressions that one consists of
abbrev pub parts_layer : {A : Type 0} → ExprKind-F A → List (Spanned A)
parts_layer (open_expr.Struct es) = es
parts_layer (open_expr.Field e is) = e ∷ []
parts_layer (open_expr.Load s a) = a ∷ []
parts_layer (open_expr.LoadByte a) = a ∷ []
parts_layer (open_expr.Neg e) = e ∷ []
parts_layer (open_expr.Chain e es) = e ∷ map (λ p. p.1) es
parts_layer (open_expr.Shift e ns) = e ∷ []
parts_layer (open_expr.Compare c a b) = a ∷ b ∷ []
parts_layer _ = []

abbrev pub parts : ExprKind → List Expr
parts e = parts_layer (out-ExprKind e)

-- It reads words that don't lie wholly in local memory or whose address is no multiple of 8, or a byte outside local memory, or one of its parts does.
pub data MakesFailingStep (v : Scopes) (m : List ℕ) : ExprKind → Type 0 where
  reads_words : (s : Shape) (a : Expr) (addr : ℕ) → word a v m ≡ Some addr → words_at m addr (words_of s) ≡ None → MakesFailingStep v m (expr.Load s a)
  reads_byte : (a : Expr) (addr : ℕ) → word a v m ≡ Some addr → byte_at m addr ≡ None → MakesFailingStep v m (expr.LoadByte a)
  in_part : (e : ExprKind) (i : ℕ) (a : Expr) → slice_get (parts e) i ≡ Some a → MakesFailingStep v m a.kind → MakesFailingStep v m e

-- a value of this shape, or this holds
abbrev pub ShapedOr : Type 0 → Shape → Option Value → Type 0
ShapedOr fails s None = fails
ShapedOr fails s (Some x) = shaped s x ≡ true

-- the expressions that a statement evaluates
abbrev pub exprs : {A : Type 0} → StmtKind-F A → List Expr
exprs (stmt.Decl x e) = e ∷ []
exprs (stmt.Assign x e) = e ∷ []
exprs (stmt.StoreWords a e) = a ∷ e ∷ []
exprs (stmt.StoreByte a e) = a ∷ e ∷ []
exprs (stmt.If e x y) = e ∷ []
exprs (stmt.While e x) = e ∷ []
exprs (stmt.Call k) = k.args
exprs (stmt.Return e) = e ∷ []
exprs (stmt.TailCall f es) = es
exprs (stmt.Raise i e) = e ∷ []
exprs (stmt.SharedLoad size x a) = a ∷ []
exprs (stmt.SharedStore size a e) = a ∷ e ∷ []
exprs (stmt.Foreign x c l a n) = c ∷ l ∷ a ∷ n ∷ []
exprs _ = []

-- One of its expressions makes a failing step, or it writes where it may not, reaches out of the shared window, or hands over a buffer that isn't wholly in local memory.
pub data FailsByStep {A : Type 0} (v : Scopes) (m : List ℕ) : StmtKind-F A → Type 0 where
  in_expression : (y : StmtKind-F A) (i : ℕ) (e : Expr) → slice_get (exprs y) i ≡ Some e → MakesFailingStep v m e.kind → FailsByStep v m y
  writes_words : (a e : Expr) (addr : ℕ) (x : Value) → word a v m ≡ Some addr → value e v m ≡ Some x → with_words m addr (words_in x) ≡ None → FailsByStep v m (stmt.StoreWords a e)
  writes_byte : (a e : Expr) (addr n : ℕ) → word a v m ≡ Some addr → word e v m ≡ Some n → with_byte m addr (n % 256) ≡ None → FailsByStep v m (stmt.StoreByte a e)
  reads_outside : (size : Size) (x : Text) (a : Expr) (addr : ℕ) → word a v m ≡ Some addr → is_shared size addr ≡ false → FailsByStep v m (stmt.SharedLoad size x a)
  writes_outside : (size : Size) (a e : Expr) (addr : ℕ) → word a v m ≡ Some addr → is_shared size addr ≡ false → FailsByStep v m (stmt.SharedStore size a e)
  hands_configuration : (x : Text) (c l a n : Expr) (addr len : ℕ) → word c v m ≡ Some addr → word l v m ≡ Some len → bytes_at m addr len ≡ None → FailsByStep v m (stmt.Foreign x c l a n)
  hands_array : (x : Text) (c l a n : Expr) (addr len : ℕ) → word a v m ≡ Some addr → word n v m ≡ Some len → bytes_at m addr len ≡ None → FailsByStep v m (stmt.Foreign x c l a n)
