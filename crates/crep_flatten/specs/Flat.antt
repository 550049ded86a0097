-- The words of an expression.
use Rattle.std.specs.Prelude.{ℕ, ◌+◌, List, [], ◌∷◌, map, sum, take, flat_map, Option, Some, None, slice_get}
use Rattle.pan_base.specs.Words.{base_address, bytes_in_word}
use Rattle.pan_base.specs.declared.operators.BinOp.{BinOp}
use Rattle.pan_base.specs.declared.operators.BinOp.TheVariants as bin_op
use Rattle.pan_base.specs.declared.operators.ShOp.{ShOp}
use Rattle.pan_tree.specs.Scopes.{ScopeOf, ScopesOf, innermost}
use Rattle.pan_tree.specs.Shapes.{words_of, parts_of}
use Rattle.pan_tree.specs.declared.shape.Shape.{Shape}
use Rattle.pan_tree.specs.declared.shape.Shape.TheVariants as shape
use Rattle.pan_tree.specs.declared.spanned.Spanned.{Spanned}
use Rattle.pan_tree.specs.declared.syntax.ExprKind.{ExprKind, ExprKind-F, fold-ExprKind}
use Rattle.pan_tree.specs.declared.syntax.ExprKind.TheOpen as source
use Rattle.check_soundness.specs.Spread.{spread}
use Rattle.crep_lang.specs.declared.syntax.Expr.{Expr}
use Rattle.crep_lang.specs.declared.syntax.Expr.TheVariants as e
pub use Rattle.crep_flatten.specs.declared.exprs.Flat.{Flat}
use Rattle.crep_flatten.specs.declared.rows.Row.TheVariants as row
pub use Rattle.crep_flatten.specs.declared.scopes.Place.{Place}
use Rattle.crep_flatten.specs.Rows.{inlined, cut_rows}

-- ---- places

-- the variables of the blocks that are open, with their places
abbrev pub Places : Type 0
Places = ScopesOf Place

abbrev pub scope_words : ScopeOf Place → ℕ
scope_words [] = 0
scope_words (q ∷ qs) = words_of (q.1).shape + scope_words qs

-- how many words the variables have
abbrev pub count : Places → ℕ
count [] = 0
count (scope ∷ scopes) = count scopes + scope_words scope

-- ---- expressions

abbrev pub one : Expr → Flat
one x = record { shape = shape.Word; rows = row.One x ∷ [] }

abbrev pub first_of : List Expr → Expr
first_of [] = e.Num 0
first_of (x ∷ xs) = x

-- the word of an expression that has one
abbrev pub word_in : Flat → Expr
word_in f = first_of (inlined f.rows)

abbrev pub cut_flat : ℕ → Shape → Flat → Flat
cut_flat skip s f = record { shape = s; rows = cut_rows skip (words_of s) f.rows }

-- a struct of these
abbrev pub struct_of : List Flat → Flat
struct_of parts = record { shape = shape.Group (map (λ f. f.shape) parts); rows = flat_map (λ f. f.rows) parts }

-- what isn't there
abbrev pub nothing : Flat
nothing = one (e.Num 0)

abbrev pub part_found : Option Shape → List Shape → ℕ → Flat → Flat
part_found None ss i f = nothing
part_found (Some s) ss i f = cut_flat (sum (map words_of (take i ss))) s f

abbrev pub part_among : Option (List Shape) → ℕ → Flat → Flat
part_among None i f = nothing
part_among (Some ss) i f = part_found (slice_get ss i) ss i f

-- a part, and a part of it, and so on
abbrev pub parts_at : List ℕ → Flat → Flat
parts_at [] f = f
parts_at (i ∷ is) f = parts_at is (part_among (parts_of f.shape) i f)

abbrev pub chain : Expr → List (BinOp × Expr) → Expr
chain a [] = a
chain a (y ∷ ys) = chain (e.Bin y.0 a y.1) ys

abbrev pub shifts : Expr → List (ShOp × ℕ) → Expr
shifts a [] = a
shifts a (n ∷ ns) = shifts (e.Shift n.0 a n.1) ns

abbrev pub variable_at : Option Place → Flat
variable_at None = nothing
variable_at (Some q) = record { shape = q.shape; rows = row.Variables q.first (words_of q.shape) ∷ [] }

abbrev pub loaded : Shape → Expr → Flat
loaded s a = record { shape = spread s; rows = row.Loads a 0 (words_of s) ∷ [] }

abbrev pub flat_layer : ExprKind-F (Places → Flat) → Places → Flat
flat_layer (source.Number n) here = one (e.Num n)
flat_layer (source.Var x) here = variable_at (innermost x here)
flat_layer source.Base here = one (e.Num base_address)
flat_layer source.Biw here = one (e.Num bytes_in_word)
flat_layer (source.Struct xs) here = struct_of (map (λ (x : Spanned (Places → Flat)). x.kind here) xs)
flat_layer (source.Field x is) here = parts_at is (x.kind here)
flat_layer (source.Load s a) here = loaded s (word_in (a.kind here))
flat_layer (source.LoadByte a) here = one (e.LoadByte (word_in (a.kind here)))
flat_layer (source.Neg x) here = one (e.Bin bin_op.Sub (e.Num 0) (word_in (x.kind here)))
flat_layer (source.Chain x ys) here = one (chain (word_in (x.kind here)) (map (λ y. (y.0, word_in ((y.1).kind here))) ys))
flat_layer (source.Shift x ns) here = one (shifts (word_in (x.kind here)) ns)
flat_layer (source.Compare c x y) here = one (e.Compare c (word_in (x.kind here)) (word_in (y.kind here)))

unfoldable pub flat_kind : ExprKind → Places → Flat
flat_kind = fold-ExprKind (Places → Flat) flat_layer

abbrev pub flat : Spanned ExprKind → Places → Flat
flat x here = flat_kind x.kind here
