-- Expressions without their spans, at each variant: they are printed alike.
use Rattle.std.proofs.Common.{◌≡◌, ℕ, List, [], ◌∷◌, ◌++◌, map, refl, sym, ap, ◌∙◌, subst}
use Rattle.std.specs.Prelude.{flat_map}
use Rattle.std.proofs.lemmas.Simd.{map-map}
use Rattle.pan_base.specs.declared.operators.BinOp.{BinOp}
use Rattle.pan_base.specs.declared.operators.ShOp.{ShOp}
use Rattle.pan_base.specs.declared.operators.Cmp.{Cmp}
use Rattle.pan_base.specs.declared.tokens.Keyword.TheVariants as keyword
use Rattle.pan_base.specs.declared.tokens.Sign.TheVariants as signs
use Rattle.pan_tree.specs.declared.shape.Shape.{Shape}
use Rattle.pan_tree.specs.declared.spanned.Spanned.{Spanned}
use Rattle.pan_tree.specs.declared.syntax.ExprKind.{ExprKind, ExprKind-F, fold-roll-ExprKind, roll-ExprKind, map-ExprKind, ind-ExprKind}
use Rattle.pan_tree.specs.declared.syntax.ExprKind.TheOpen as open_expr
use Rattle.pan_tree.specs.declared.syntax.ExprKind.TheVariants as e
use Rattle.pan_printer.specs.declared.binding.Binding.{Binding}
use Rattle.pan_printer.specs.declared.binding.Binding.TheVariants as binding
use Rattle.pan_printer.specs.Pieces.{Piece, sign, word, with_commas}
use Rattle.pan_printer.specs.Expressions.{shape_pieces, written, at, tighter, operator_sign, comparison_sign, chain_binding, shifts, fields, kind_written, expr_pieces}
use Rattle.pan_printer.specs.Unspanned.{bare, unspanned_expr_layer, unspanned_kind, unspanned_expr}
use Rattle.pan_printer.proofs.Layers.{terms_of, kind_struct, kind_field, kind_load, kind_load_byte, kind_neg, kind_chain, kind_shift, kind_compare}

-- ---- the equations

unspanned_roll : (x : ExprKind-F ExprKind) → unspanned_kind (roll-ExprKind x) ≡ unspanned_expr_layer (map-ExprKind ExprKind ExprKind unspanned_kind x)
unfolding unspanned_kind
unspanned_roll x = fold-roll-ExprKind ExprKind unspanned_expr_layer x

at_variant : (y : ExprKind-F ExprKind) (x : ExprKind) → roll-ExprKind y ≡ x → unspanned_kind x ≡ unspanned_expr_layer (map-ExprKind ExprKind ExprKind unspanned_kind y)
at_variant y x is = ap unspanned_kind (sym is) ∙ unspanned_roll y

pub bare_number : (n : ℕ) → unspanned_kind (e.Number n) ≡ e.Number n
bare_number n = at_variant (open_expr.Number n) _ (e.rolls-Number n)

pub bare_var : (x : List ℕ) → unspanned_kind (e.Var x) ≡ e.Var x
bare_var x = at_variant (open_expr.Var x) _ (e.rolls-Var x)

pub bare_base : unspanned_kind e.Base ≡ e.Base
bare_base = at_variant open_expr.Base _ e.rolls-Base

pub bare_biw : unspanned_kind e.Biw ≡ e.Biw
bare_biw = at_variant open_expr.Biw _ e.rolls-Biw

pub bare_struct : (xs : List (Spanned ExprKind)) → unspanned_kind (e.Struct xs) ≡ e.Struct (map unspanned_expr xs)
bare_struct xs = at_variant (open_expr.Struct xs) _ (e.rolls-Struct xs) ∙ ap e.Struct (map-map bare _ xs)

pub bare_field : (x : Spanned ExprKind) (is : List ℕ) → unspanned_kind (e.Field x is) ≡ e.Field (unspanned_expr x) is
bare_field x is = at_variant (open_expr.Field x is) _ (e.rolls-Field x is)

pub bare_load : (z : Shape) (x : Spanned ExprKind) → unspanned_kind (e.Load z x) ≡ e.Load z (unspanned_expr x)
bare_load z x = at_variant (open_expr.Load z x) _ (e.rolls-Load z x)

pub bare_load_byte : (x : Spanned ExprKind) → unspanned_kind (e.LoadByte x) ≡ e.LoadByte (unspanned_expr x)
bare_load_byte x = at_variant (open_expr.LoadByte x) _ (e.rolls-LoadByte x)

pub bare_neg : (x : Spanned ExprKind) → unspanned_kind (e.Neg x) ≡ e.Neg (unspanned_expr x)
bare_neg x = at_variant (open_expr.Neg x) _ (e.rolls-Neg x)

abbrev pub unspanned_term : BinOp × Spanned ExprKind → BinOp × Spanned ExprKind
unspanned_term y = (y.0, unspanned_expr y.1)

pub bare_chain : (x : Spanned ExprKind) (ys : List (BinOp × Spanned ExprKind)) → unspanned_kind (e.Chain x ys) ≡ e.Chain (unspanned_expr x) (map unspanned_term ys)
bare_chain x ys = at_variant (open_expr.Chain x ys) _ (e.rolls-Chain x ys) ∙ ap (e.Chain (unspanned_expr x)) (map-map (λ (y : BinOp × Spanned ExprKind). (y.0, bare y.1)) _ ys)

pub bare_shift : (x : Spanned ExprKind) (ns : List (ShOp × ℕ)) → unspanned_kind (e.Shift x ns) ≡ e.Shift (unspanned_expr x) ns
bare_shift x ns = at_variant (open_expr.Shift x ns) _ (e.rolls-Shift x ns)

pub bare_compare : (o : Cmp) (x y : Spanned ExprKind) → unspanned_kind (e.Compare o x y) ≡ e.Compare o (unspanned_expr x) (unspanned_expr y)
bare_compare o x y = at_variant (open_expr.Compare o x y) _ (e.rolls-Compare o x y)

-- ---- rows of parts

-- it holds of each
abbrev pub Each : {X : Type 0} → (X → Type 0) → List X → Type 0
Each P [] = Unit {0}
Each P (x ∷ xs) = P x × Each P xs

pub flat_map_same : {X A : Type 0} (f : X → List A) (g : X → X) (xs : List X) → Each (λ x. f (g x) ≡ f x) xs → flat_map f (map g xs) ≡ flat_map f xs
flat_map_same f g [] h = refl
flat_map_same f g (x ∷ xs) h = ap (λ front. front ++ flat_map f (map g xs)) h.0 ∙ ap (λ back. f x ++ back) (flat_map_same f g xs h.1)

after_commas_same : {X : Type 0} (f : X → List Piece) (g : X → X) (xs : List X) → Each (λ x. f (g x) ≡ f x) xs → flat_map (λ x. sign signs.Comma ∷ f x) (map g xs) ≡ flat_map (λ x. sign signs.Comma ∷ f x) xs
after_commas_same f g [] h = refl
after_commas_same f g (x ∷ xs) h = ap (λ front. (sign signs.Comma ∷ front) ++ flat_map (λ x. sign signs.Comma ∷ f x) (map g xs)) h.0 ∙ ap (λ back. (sign signs.Comma ∷ f x) ++ back) (after_commas_same f g xs h.1)

pub commas_same : {X : Type 0} (f : X → List Piece) (g : X → X) (xs : List X) → Each (λ x. f (g x) ≡ f x) xs → with_commas f (map g xs) ≡ with_commas f xs
commas_same f g [] h = refl
commas_same f g (x ∷ xs) h = ap (λ front. front ++ flat_map (λ x. sign signs.Comma ∷ f x) (map g xs)) h.0 ∙ ap (λ back. f x ++ back) (after_commas_same f g xs h.1)

-- ---- without spans they are printed alike

abbrev Alike : ExprKind → Type 0
Alike x = kind_written (unspanned_kind x) ≡ kind_written x

abbrev Part : Type 0
Part = (x : ExprKind) × Alike x

-- a part without its claim
abbrev plain : Spanned Part → Spanned ExprKind
plain x = record { kind = (x.kind).0; span = x.span }

abbrev plain_term : BinOp × Spanned Part → BinOp × Spanned ExprKind
plain_term y = (y.0, plain y.1)

each_alike : (xs : List (Spanned Part)) → Each (λ x. expr_pieces (unspanned_expr x) ≡ expr_pieces x) (map plain xs)
each_alike [] = tt
each_alike (x ∷ xs) = (ap (λ w. w.pieces) (x.kind).1, each_alike xs)

terms_alike : (least : Binding) (ys : List (BinOp × Spanned Part)) → terms_of least (map unspanned_term (map plain_term ys)) ≡ terms_of least (map plain_term ys)
terms_alike least [] = refl
terms_alike least (y ∷ ys) =
    ap (λ w. (sign (operator_sign y.0) ∷ at least w) ++ terms_of least (map unspanned_term (map plain_term ys))) ((y.1).kind).1
    ∙ ap (λ back. (sign (operator_sign y.0) ∷ at least (kind_written (((y.1).kind).0))) ++ back) (terms_alike least ys)

chain_binding_same : (ys : List (BinOp × Spanned ExprKind)) → chain_binding (map unspanned_term ys) ≡ chain_binding ys
chain_binding_same [] = refl
chain_binding_same (y ∷ ys) = refl

-- the claim at a variant, from its two equations
alike_by : (y : ExprKind-F ExprKind) (x z : ExprKind) → roll-ExprKind y ≡ x → unspanned_kind x ≡ z → kind_written z ≡ kind_written x → Alike (roll-ExprKind y)
alike_by y x z is bare same = subst Alike (sym is) (ap kind_written bare ∙ same)

alike_layer : (y : ExprKind-F Part) → Alike (roll-ExprKind (map-ExprKind Part ExprKind (λ c. c.0) y))
alike_layer (open_expr.Number n) = alike_by (open_expr.Number n) _ _ (e.rolls-Number n) (bare_number n) refl
alike_layer (open_expr.Var x) = alike_by (open_expr.Var x) _ _ (e.rolls-Var x) (bare_var x) refl
alike_layer open_expr.Base = alike_by open_expr.Base _ _ e.rolls-Base bare_base refl
alike_layer open_expr.Biw = alike_by open_expr.Biw _ _ e.rolls-Biw bare_biw refl
alike_layer (open_expr.Struct xs) = alike_by (open_expr.Struct (map plain xs)) _ _ (e.rolls-Struct (map plain xs)) (bare_struct (map plain xs))
    (kind_struct (map unspanned_expr (map plain xs)) ∙ ap (λ row. written binding.Primary (sign signs.Less ∷ row ++ sign signs.Greater ∷ [])) (commas_same expr_pieces unspanned_expr (map plain xs) (each_alike xs)) ∙ sym (kind_struct (map plain xs)))
alike_layer (open_expr.Field x is) = alike_by (open_expr.Field (plain x) is) _ _ (e.rolls-Field (plain x) is) (bare_field (plain x) is)
    (kind_field (unspanned_expr (plain x)) is ∙ ap (λ w. written binding.Field (at binding.Primary w ++ fields is)) (x.kind).1 ∙ sym (kind_field (plain x) is))
alike_layer (open_expr.Load z x) = alike_by (open_expr.Load z (plain x)) _ _ (e.rolls-Load z (plain x)) (bare_load z (plain x))
    (kind_load z (unspanned_expr (plain x)) ∙ ap (λ w. written binding.Unary (word keyword.Lds ∷ shape_pieces z ++ at binding.Unary w)) (x.kind).1 ∙ sym (kind_load z (plain x)))
alike_layer (open_expr.LoadByte x) = alike_by (open_expr.LoadByte (plain x)) _ _ (e.rolls-LoadByte (plain x)) (bare_load_byte (plain x))
    (kind_load_byte (unspanned_expr (plain x)) ∙ ap (λ w. written binding.Unary (word keyword.Ldb ∷ at binding.Unary w)) (x.kind).1 ∙ sym (kind_load_byte (plain x)))
alike_layer (open_expr.Neg x) = alike_by (open_expr.Neg (plain x)) _ _ (e.rolls-Neg (plain x)) (bare_neg (plain x))
    (kind_neg (unspanned_expr (plain x)) ∙ ap (λ w. written binding.Unary (sign signs.Minus ∷ at binding.Unary w)) (x.kind).1 ∙ sym (kind_neg (plain x)))
alike_layer (open_expr.Chain x ys) = alike_by (open_expr.Chain (plain x) (map plain_term ys)) _ _ (e.rolls-Chain (plain x) (map plain_term ys)) (bare_chain (plain x) (map plain_term ys))
    (kind_chain (unspanned_expr (plain x)) (map unspanned_term (map plain_term ys))
    ∙ ap (λ b. written b (at (tighter b) (kind_written (unspanned_kind (x.kind).0)) ++ terms_of (tighter b) (map unspanned_term (map plain_term ys)))) (chain_binding_same (map plain_term ys))
    ∙ ap (λ w. written (chain_binding (map plain_term ys)) (at (tighter (chain_binding (map plain_term ys))) w ++ terms_of (tighter (chain_binding (map plain_term ys))) (map unspanned_term (map plain_term ys)))) (x.kind).1
    ∙ ap (λ more. written (chain_binding (map plain_term ys)) (at (tighter (chain_binding (map plain_term ys))) (kind_written (x.kind).0) ++ more)) (terms_alike (tighter (chain_binding (map plain_term ys))) ys)
    ∙ sym (kind_chain (plain x) (map plain_term ys)))
alike_layer (open_expr.Shift x ns) = alike_by (open_expr.Shift (plain x) ns) _ _ (e.rolls-Shift (plain x) ns) (bare_shift (plain x) ns)
    (kind_shift (unspanned_expr (plain x)) ns ∙ ap (λ w. written binding.Shift (at binding.Sum w ++ shifts ns)) (x.kind).1 ∙ sym (kind_shift (plain x) ns))
alike_layer (open_expr.Compare o x y) = alike_by (open_expr.Compare o (plain x) (plain y)) _ _ (e.rolls-Compare o (plain x) (plain y)) (bare_compare o (plain x) (plain y))
    (kind_compare o (unspanned_expr (plain x)) (unspanned_expr (plain y))
    ∙ ap (λ w. written binding.Comparison (at binding.Or w ++ sign (comparison_sign o) ∷ at binding.Or (kind_written (unspanned_kind (y.kind).0)))) (x.kind).1
    ∙ ap (λ w. written binding.Comparison (at binding.Or (kind_written (x.kind).0) ++ sign (comparison_sign o) ∷ at binding.Or w)) (y.kind).1
    ∙ sym (kind_compare o (plain x) (plain y)))

pub written_alike : (x : ExprKind) → Alike x
written_alike x = ind-ExprKind Alike (λ x y is. subst (λ x. Alike (roll-ExprKind x)) is (alike_layer y)) x
