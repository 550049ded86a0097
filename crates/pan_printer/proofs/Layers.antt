-- How shapes and expressions are printed, at each variant.
use Rattle.std.proofs.Common.{◌≡◌, ℕ, Bool, true, false, List, [], ◌∷◌, ◌++◌, map, refl, sym, ap, ◌∙◌}
use Rattle.std.proofs.lemmas.List.Folds.{flat_map-map}
use Rattle.pan_base.specs.declared.operators.BinOp.{BinOp}
use Rattle.pan_base.specs.declared.operators.ShOp.{ShOp}
use Rattle.pan_base.specs.declared.operators.Cmp.{Cmp}
use Rattle.pan_base.specs.declared.tokens.Keyword.TheVariants as keyword
use Rattle.pan_base.specs.declared.tokens.Sign.TheVariants as signs
use Rattle.pan_base.specs.Tokens.{Base, Biw}
use Rattle.pan_tree.specs.declared.shape.Shape.{Shape, Shape-F, fold-roll-Shape, roll-Shape, map-Shape}
use Rattle.pan_tree.specs.declared.shape.Shape.TheOpen as open_shape
use Rattle.pan_tree.specs.declared.shape.Shape.TheVariants as shape
use Rattle.pan_tree.specs.declared.spanned.Spanned.{Spanned}
use Rattle.pan_tree.specs.declared.syntax.ExprKind.{ExprKind, ExprKind-F, fold-roll-ExprKind, roll-ExprKind, map-ExprKind}
use Rattle.pan_tree.specs.declared.syntax.ExprKind.TheOpen as open_expr
use Rattle.pan_tree.specs.declared.syntax.ExprKind.TheVariants as e
use Rattle.pan_printer.specs.declared.binding.Binding.{Binding}
use Rattle.pan_printer.specs.declared.binding.Binding.TheVariants as binding
use Rattle.pan_printer.specs.Pieces.{Piece, spaced, sign, word, name, number, with_commas}
use Rattle.pan_printer.specs.Expressions.{shape_layer, shape_pieces, tighter, Written, written, at, comparison_sign, operator_sign, operator_binding, chain_binding, terms, shifts, fields, expr_layer, kind_written, expr_pieces}
use Rattle.pan_printer.specs.Canonical.{is_word_layer, is_word}

-- ---- shapes

shape_roll : (x : Shape-F Shape) → shape_pieces (roll-Shape x) ≡ shape_layer (map-Shape Shape (List Piece) shape_pieces x)
unfolding shape_pieces
shape_roll x = fold-roll-Shape (List Piece) shape_layer x

pub shape_word : shape_pieces shape.Word ≡ number 1 ∷ []
shape_word = ap shape_pieces (sym shape.rolls-Word) ∙ shape_roll open_shape.Word

pub shape_words : (n : ℕ) → shape_pieces (shape.Words n) ≡ number n ∷ []
shape_words n = ap shape_pieces (sym (shape.rolls-Words n)) ∙ shape_roll (open_shape.Words n)

-- what parts are printed as makes the row
commas_map : {X Y : Type 0} (g : Y → List Piece) (f : X → Y) (xs : List X) → with_commas g (map f xs) ≡ with_commas (λ x. g (f x)) xs
commas_map g f [] = refl
commas_map g f (x ∷ xs) = ap (λ more. g (f x) ++ more) (flat_map-map (λ y. sign signs.Comma ∷ g y) f xs)

pub shape_group : (parts : List Shape) → shape_pieces (shape.Group parts) ≡ sign signs.OpenBrace ∷ with_commas shape_pieces parts ++ sign signs.CloseBrace ∷ []
shape_group parts = ap shape_pieces (sym (shape.rolls-Group parts)) ∙ shape_roll (open_shape.Group parts)
    ∙ ap (λ row. sign signs.OpenBrace ∷ row ++ sign signs.CloseBrace ∷ []) (commas_map (λ part. part) shape_pieces parts)

pub ruleset shape_rules = (shape_word, shape_words, shape_group)

is_word_roll : (x : Shape-F Shape) → is_word (roll-Shape x) ≡ is_word_layer (map-Shape Shape Bool is_word x)
unfolding is_word
is_word_roll x = fold-roll-Shape Bool is_word_layer x

pub is_word_word : is_word shape.Word ≡ true
is_word_word = ap is_word (sym shape.rolls-Word) ∙ is_word_roll open_shape.Word

pub is_word_words : (n : ℕ) → is_word (shape.Words n) ≡ false
is_word_words n = ap is_word (sym (shape.rolls-Words n)) ∙ is_word_roll (open_shape.Words n)

pub is_word_group : (parts : List Shape) → is_word (shape.Group parts) ≡ false
is_word_group parts = ap is_word (sym (shape.rolls-Group parts)) ∙ is_word_roll (open_shape.Group parts)

pub ruleset is_word_rules = (is_word_word, is_word_words, is_word_group)

-- ---- expressions

kind_roll : (x : ExprKind-F ExprKind) → kind_written (roll-ExprKind x) ≡ expr_layer (map-ExprKind ExprKind Written kind_written x)
unfolding kind_written
kind_roll x = fold-roll-ExprKind Written expr_layer x

pub kind_number : (n : ℕ) → kind_written (e.Number n) ≡ written binding.Primary (number n ∷ [])
kind_number n = ap kind_written (sym (e.rolls-Number n)) ∙ kind_roll (open_expr.Number n)

pub kind_var : (x : List ℕ) → kind_written (e.Var x) ≡ written binding.Primary (name x ∷ [])
kind_var x = ap kind_written (sym (e.rolls-Var x)) ∙ kind_roll (open_expr.Var x)

pub kind_base : kind_written e.Base ≡ written binding.Primary (spaced Base ∷ [])
kind_base = ap kind_written (sym e.rolls-Base) ∙ kind_roll open_expr.Base

pub kind_biw : kind_written e.Biw ≡ written binding.Primary (spaced Biw ∷ [])
kind_biw = ap kind_written (sym e.rolls-Biw) ∙ kind_roll open_expr.Biw

pub kind_struct : (xs : List (Spanned ExprKind)) → kind_written (e.Struct xs) ≡ written binding.Primary (sign signs.Less ∷ with_commas expr_pieces xs ++ sign signs.Greater ∷ [])
kind_struct xs =
    ap kind_written (sym (e.rolls-Struct xs)) ∙ kind_roll (open_expr.Struct xs)
    ∙ ap (λ row. written binding.Primary (sign signs.Less ∷ row ++ sign signs.Greater ∷ [])) (commas_map (λ x. (x.kind).pieces) _ xs)

pub kind_field : (x : Spanned ExprKind) (is : List ℕ) → kind_written (e.Field x is) ≡ written binding.Field (at binding.Primary (kind_written x.kind) ++ fields is)
kind_field x is = ap kind_written (sym (e.rolls-Field x is)) ∙ kind_roll (open_expr.Field x is)

pub kind_load : (z : Shape) (x : Spanned ExprKind) → kind_written (e.Load z x) ≡ written binding.Unary (word keyword.Lds ∷ shape_pieces z ++ at binding.Unary (kind_written x.kind))
kind_load z x = ap kind_written (sym (e.rolls-Load z x)) ∙ kind_roll (open_expr.Load z x)

pub kind_load_byte : (x : Spanned ExprKind) → kind_written (e.LoadByte x) ≡ written binding.Unary (word keyword.Ldb ∷ at binding.Unary (kind_written x.kind))
kind_load_byte x = ap kind_written (sym (e.rolls-LoadByte x)) ∙ kind_roll (open_expr.LoadByte x)

pub kind_neg : (x : Spanned ExprKind) → kind_written (e.Neg x) ≡ written binding.Unary (sign signs.Minus ∷ at binding.Unary (kind_written x.kind))
kind_neg x = ap kind_written (sym (e.rolls-Neg x)) ∙ kind_roll (open_expr.Neg x)

-- how the operators of a chain are written
abbrev pub terms_of : Binding → List (BinOp × Spanned ExprKind) → List Piece
terms_of least ys = terms least (λ y. kind_written y.kind) ys

pub kind_chain : (x : Spanned ExprKind) (ys : List (BinOp × Spanned ExprKind)) → kind_written (e.Chain x ys) ≡ written (chain_binding ys) (at (tighter (chain_binding ys)) (kind_written x.kind) ++ terms_of (tighter (chain_binding ys)) ys)
kind_chain x [] = ap kind_written (sym (e.rolls-Chain x [])) ∙ kind_roll (open_expr.Chain x [])
kind_chain x (y ∷ ys) =
    let least : Binding = tighter (operator_binding y.0) in
    let term : BinOp × Spanned Written → List Piece = λ y. sign (operator_sign y.0) ∷ at least (y.1).kind in
    ap kind_written (sym (e.rolls-Chain x (y ∷ ys))) ∙ kind_roll (open_expr.Chain x (y ∷ ys))
    ∙ ap (λ more. written (operator_binding y.0) (at least (kind_written x.kind) ++ (sign (operator_sign y.0) ∷ at least (kind_written (y.1).kind) ++ more))) (flat_map-map term _ ys)

pub kind_shift : (x : Spanned ExprKind) (ns : List (ShOp × ℕ)) → kind_written (e.Shift x ns) ≡ written binding.Shift (at binding.Sum (kind_written x.kind) ++ shifts ns)
kind_shift x ns = ap kind_written (sym (e.rolls-Shift x ns)) ∙ kind_roll (open_expr.Shift x ns)

pub kind_compare : (o : Cmp) (x y : Spanned ExprKind) → kind_written (e.Compare o x y) ≡ written binding.Comparison (at binding.Or (kind_written x.kind) ++ sign (comparison_sign o) ∷ at binding.Or (kind_written y.kind))
kind_compare o x y = ap kind_written (sym (e.rolls-Compare o x y)) ∙ kind_roll (open_expr.Compare o x y)

pub ruleset kind_rules = (kind_number, kind_var, kind_base, kind_biw, kind_struct, kind_field, kind_load, kind_load_byte, kind_neg, kind_chain, kind_shift, kind_compare)
