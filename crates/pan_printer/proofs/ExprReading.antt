-- Each kind of printed expression is read as it is.
use Rattle.std.proofs.Common.{◌≡◌, ℕ, ◌+◌, List, [], ◌∷◌, ◌++◌, map, Some, refl, sym, ap, ◌∙◌}
use Rattle.std.specs.Prelude.{flat_map}
use Rattle.pan_base.specs.declared.operators.ShOp.{ShOp}
use Rattle.pan_base.specs.declared.operators.ShOp.TheVariants as sh_op
use Rattle.pan_base.specs.declared.operators.Cmp.{Cmp}
use Rattle.pan_base.specs.declared.operators.Cmp.TheVariants as cmp
use Rattle.pan_base.specs.declared.tokens.Keyword.TheVariants as keyword
use Rattle.pan_base.specs.declared.tokens.Sign.TheVariants as signs
use Rattle.pan_base.specs.Tokens.{Placed, Name, Number, Base, Biw, ASign}
use Rattle.pan_tree.specs.declared.shape.Shape.{Shape}
use Rattle.pan_tree.specs.declared.syntax.ExprKind.{ExprKind}
use Rattle.pan_tree.specs.declared.syntax.ExprKind.TheVariants as e
use Rattle.pan_tree.specs.Nodes.{Expr, node, shift_operator, comparison}
use Rattle.pan_tree.specs.Grammar.{Shifts, no_shift, next_shift, Fields, no_field, next_field, AnExpr, one_comparison, shift, negation, load_words, load_byte, postfix, number, variable, base, biw, struct, MoreExprs, no_expr, next_expr}
use Rattle.pan_printer.specs.declared.binding.Binding.TheVariants as binding
use Rattle.pan_printer.specs.Pieces as pieces
use Rattle.pan_printer.specs.Pieces.{Piece, spaced, sign, word, name, with_commas}
use Rattle.pan_printer.specs.Expressions.{shape_pieces, written, at, shift_sign, comparison_sign, shifts, fields, kind_written, expr_pieces}
use Rattle.pan_printer.specs.Unspanned.{no_span, unspanned_expr}
use Rattle.pan_printer.proofs.Begins.{Begins, done, next, split}
use Rattle.pan_printer.proofs.TokenTexts.{IsPrintable, Good, good_append}
use Rattle.pan_printer.proofs.Spans.{bare_struct, bare_field, bare_load, bare_load_byte, bare_neg, bare_shift, bare_compare}
use Rattle.pan_printer.proofs.ShapeReading.{May, ReadsShape}
use Rattle.pan_printer.proofs.Places.{ReadsAt, ReadsExpr, read_at, good_at, read_anywhere}

-- what is printed of an expression is read as it
abbrev pub Again : ExprKind → Type 0
Again x = ReadsExpr (kind_written x) x

-- an expression's part without its span
abbrev pub bare_part : ExprKind → Expr
bare_part x = record { kind = x; span = no_span }

-- ---- one token

number_read : (n k : ℕ) (a c : List Placed) → Begins (pieces.number n ∷ []) a c → ReadsAt binding.Primary k a c (e.Number n)
number_read n k _ _ (next _ t _ _ _ is (done c)) = record { tree = node (t ∷ c) c (e.Number n); derives = number k t c n is; same = refl }

pub number_again : (n : ℕ) → IsPrintable (Number n) → ReadsExpr (written binding.Primary (pieces.number n ∷ [])) (e.Number n)
number_again n g = record { good = (g, tt); reads = number_read n }

var_read : (x : List ℕ) (k : ℕ) (a c : List Placed) → Begins (name x ∷ []) a c → ReadsAt binding.Primary k a c (e.Var x)
var_read x k _ _ (next _ t _ _ _ is (done c)) = record { tree = node (t ∷ c) c (e.Var x); derives = variable k t c x is; same = refl }

pub var_again : (x : List ℕ) → IsPrintable (Name x) → ReadsExpr (written binding.Primary (name x ∷ [])) (e.Var x)
var_again x g = record { good = (g, tt); reads = var_read x }

base_read : (k : ℕ) (a c : List Placed) → Begins (spaced Base ∷ []) a c → ReadsAt binding.Primary k a c e.Base
base_read k _ _ (next _ t _ _ _ is (done c)) = record { tree = node (t ∷ c) c e.Base; derives = base k t c is; same = refl }

pub base_again : ReadsExpr (written binding.Primary (spaced Base ∷ [])) e.Base
base_again = record { good = (refl, tt); reads = base_read }

biw_read : (k : ℕ) (a c : List Placed) → Begins (spaced Biw ∷ []) a c → ReadsAt binding.Primary k a c e.Biw
biw_read k _ _ (next _ t _ _ _ is (done c)) = record { tree = node (t ∷ c) c e.Biw; derives = biw k t c is; same = refl }

pub biw_again : ReadsExpr (written binding.Primary (spaced Biw ∷ [])) e.Biw
biw_again = record { good = (refl, tt); reads = biw_read }

-- ---- further expressions, each behind a comma

abbrev pub more_exprs : List Expr → List Piece
more_exprs xs = flat_map (λ x. sign signs.Comma ∷ expr_pieces x) xs

pub record ReadsMore (k : ℕ) (a c : List Placed) (xs : List Expr) : Type 0 where
  pub trees : List Expr
  pub derives : MoreExprs May k a c trees
  pub same : map unspanned_expr trees ≡ map unspanned_expr xs

pub record MoreAgain (xs : List Expr) : Type 0 where
  pub good : Good (more_exprs xs)
  pub reads : (k : ℕ) (a c : List Placed) → Begins (more_exprs xs) a c → ReadsMore k a c xs

none_read : (k : ℕ) (a c : List Placed) → Begins [] a c → ReadsMore k a c []
none_read k _ _ (done c) = record { trees = []; derives = no_expr k c; same = refl }

pub none_again : MoreAgain []
none_again = record { good = tt; reads = none_read }

more_read : (x : Expr) (xs : List Expr) → Again x.kind → MoreAgain xs → (k : ℕ) (a c : List Placed) → Begins (more_exprs (x ∷ xs)) a c → ReadsMore k a c (x ∷ xs)
more_read x xs first others k _ c (next _ t _ a _ is h) =
    let s = split (expr_pieces x) (more_exprs xs) a c h in
    let y = read_anywhere (kind_written x.kind) x.kind first k a s.middle s.front in
    let ys = others.reads k s.middle c s.back in
    record {
      trees = y.tree ∷ ys.trees;
      derives = next_expr k t a s.middle c y.tree ys.trees is y.derives ys.derives;
      same = ap (λ k. bare_part k ∷ map unspanned_expr ys.trees) y.same ∙ ap (λ zs. unspanned_expr x ∷ zs) ys.same;
    }

pub more_again : (x : Expr) (xs : List Expr) → Again x.kind → MoreAgain xs → MoreAgain (x ∷ xs)
more_again x xs first others = record {
  good = (refl, good_append (expr_pieces x) (more_exprs xs) first.good others.good);
  reads = more_read x xs first others;
}

-- ---- structs

struct_end : (k : ℕ) (t : Placed) (a m c : List Placed) (x : Expr) (xs : List Expr) (b : List Placed) (y : Expr) (ys : List Expr) → t.kind ≡ ASign signs.Less → AnExpr May (k + 1) a b y → MoreExprs May (k + 1) b m ys
    → map unspanned_expr (y ∷ ys) ≡ map unspanned_expr (x ∷ xs) → Begins (sign signs.Greater ∷ []) m c → ReadsAt binding.Primary k (t ∷ a) c (e.Struct (x ∷ xs))
struct_end k t a _ _ x xs b y ys opens first others same (next _ u _ _ _ closes (done c)) = record {
  tree = node (t ∷ a) c (e.Struct (y ∷ ys));
  derives = struct k t u a b c y ys opens tt first others closes;
  same = bare_struct (y ∷ ys) ∙ ap e.Struct same ∙ sym (bare_struct (x ∷ xs));
}

struct_read : (x : Expr) (xs : List Expr) → Again x.kind → MoreAgain xs → (k : ℕ) (a c : List Placed) → Begins (sign signs.Less ∷ with_commas expr_pieces (x ∷ xs) ++ sign signs.Greater ∷ []) a c → ReadsAt binding.Primary k a c (e.Struct (x ∷ xs))
struct_read x xs first others k _ c (next _ t _ a _ is h) =
    let inside = split (with_commas expr_pieces (x ∷ xs)) (sign signs.Greater ∷ []) a c h in
    let s = split (expr_pieces x) (more_exprs xs) a inside.middle inside.front in
    let y = read_anywhere (kind_written x.kind) x.kind first (k + 1) a s.middle s.front in
    let ys = others.reads (k + 1) s.middle inside.middle s.back in
    struct_end k t a inside.middle c x xs s.middle y.tree ys.trees is y.derives ys.derives (ap (λ k. bare_part k ∷ map unspanned_expr ys.trees) y.same ∙ ap (λ zs. unspanned_expr x ∷ zs) ys.same) inside.back

pub struct_again : (x : Expr) (xs : List Expr) → Again x.kind → MoreAgain xs → ReadsExpr (written binding.Primary (sign signs.Less ∷ with_commas expr_pieces (x ∷ xs) ++ sign signs.Greater ∷ [])) (e.Struct (x ∷ xs))
struct_again x xs first others = record {
  good = (refl, good_append (expr_pieces x ++ more_exprs xs) (sign signs.Greater ∷ []) (good_append (expr_pieces x) (more_exprs xs) first.good others.good) (refl, tt));
  reads = struct_read x xs first others;
}

-- ---- prefix operators

neg_read : (x : Expr) → Again x.kind → (k : ℕ) (a c : List Placed) → Begins (sign signs.Minus ∷ at binding.Unary (kind_written x.kind)) a c → ReadsAt binding.Unary k a c (e.Neg x)
neg_read x r k _ c (next _ t _ a _ is h) =
    let y = read_at binding.Unary (kind_written x.kind) x.kind r (k + 1) a c h in
    record {
      tree = node (t ∷ a) c (e.Neg y.tree);
      derives = negation k t a c y.tree is tt y.derives;
      same = bare_neg y.tree ∙ ap (λ k. e.Neg (bare_part k)) y.same ∙ sym (bare_neg x);
    }

pub neg_again : (x : Expr) → Again x.kind → ReadsExpr (written binding.Unary (sign signs.Minus ∷ at binding.Unary (kind_written x.kind))) (e.Neg x)
neg_again x r = record { good = (refl, good_at binding.Unary (kind_written x.kind) r.good); reads = neg_read x r }

load_byte_read : (x : Expr) → Again x.kind → (k : ℕ) (a c : List Placed) → Begins (word keyword.Ldb ∷ at binding.Unary (kind_written x.kind)) a c → ReadsAt binding.Unary k a c (e.LoadByte x)
load_byte_read x r k _ c (next _ t _ a _ is h) =
    let y = read_at binding.Unary (kind_written x.kind) x.kind r (k + 1) a c h in
    record {
      tree = node (t ∷ a) c (e.LoadByte y.tree);
      derives = load_byte k t a c y.tree is tt y.derives;
      same = bare_load_byte y.tree ∙ ap (λ k. e.LoadByte (bare_part k)) y.same ∙ sym (bare_load_byte x);
    }

pub load_byte_again : (x : Expr) → Again x.kind → ReadsExpr (written binding.Unary (word keyword.Ldb ∷ at binding.Unary (kind_written x.kind))) (e.LoadByte x)
load_byte_again x r = record { good = (refl, good_at binding.Unary (kind_written x.kind) r.good); reads = load_byte_read x r }

load_read : (z : Shape) (x : Expr) → ReadsShape z (shape_pieces z) → Again x.kind → (k : ℕ) (a c : List Placed) → Begins (word keyword.Lds ∷ shape_pieces z ++ at binding.Unary (kind_written x.kind)) a c → ReadsAt binding.Unary k a c (e.Load z x)
load_read z x shaped r k _ c (next _ t _ a _ is h) =
    let s = split (shape_pieces z) (at binding.Unary (kind_written x.kind)) a c h in
    let y = read_at binding.Unary (kind_written x.kind) x.kind r (k + 1) s.middle c s.back in
    record {
      tree = node (t ∷ a) c (e.Load z y.tree);
      derives = load_words k t a s.middle c z y.tree is tt (shaped.reads (k + 1) a s.middle s.front) y.derives;
      same = bare_load z y.tree ∙ ap (λ k. e.Load z (bare_part k)) y.same ∙ sym (bare_load z x);
    }

pub load_again : (z : Shape) (x : Expr) → ReadsShape z (shape_pieces z) → Again x.kind → ReadsExpr (written binding.Unary (word keyword.Lds ∷ shape_pieces z ++ at binding.Unary (kind_written x.kind))) (e.Load z x)
load_again z x shaped r = record {
  good = (refl, good_append (shape_pieces z) (at binding.Unary (kind_written x.kind)) shaped.good (good_at binding.Unary (kind_written x.kind) r.good));
  reads = load_read z x shaped r;
}

-- ---- fields

pub record FieldsAgain (is : List ℕ) : Type 0 where
  pub good : Good (fields is)
  pub reads : (a c : List Placed) → Begins (fields is) a c → Fields a c is

no_fields_read : (a c : List Placed) → Begins [] a c → Fields a c []
no_fields_read _ _ (done c) = no_field c

pub no_fields_again : FieldsAgain []
no_fields_again = record { good = tt; reads = no_fields_read }

fields_read : (i : ℕ) (is : List ℕ) → FieldsAgain is → (a c : List Placed) → Begins (fields (i ∷ is)) a c → Fields a c (i ∷ is)
fields_read i is others _ c (next _ t _ _ _ dot (next _ u _ a _ at h)) = next_field t u a c i is dot at (others.reads a c h)

pub fields_again : (i : ℕ) (is : List ℕ) → IsPrintable (Number i) → FieldsAgain is → FieldsAgain (i ∷ is)
fields_again i is g others = record { good = (refl, (g, others.good)); reads = fields_read i is others }

field_read : (x : Expr) (i : ℕ) (is : List ℕ) → Again x.kind → FieldsAgain (i ∷ is) → (k : ℕ) (a c : List Placed) → Begins (at binding.Primary (kind_written x.kind) ++ fields (i ∷ is)) a c → ReadsAt binding.Field k a c (e.Field x (i ∷ is))
field_read x i is r path k a c h =
    let s = split (at binding.Primary (kind_written x.kind)) (fields (i ∷ is)) a c h in
    let y = read_at binding.Primary (kind_written x.kind) x.kind r k a s.middle s.front in
    record {
      tree = node a c (e.Field y.tree (i ∷ is));
      derives = postfix k a s.middle c y.tree (i ∷ is) y.derives (path.reads s.middle c s.back);
      same = bare_field y.tree (i ∷ is) ∙ ap (λ k. e.Field (bare_part k) (i ∷ is)) y.same ∙ sym (bare_field x (i ∷ is));
    }

pub field_again : (x : Expr) (i : ℕ) (is : List ℕ) → Again x.kind → FieldsAgain (i ∷ is) → ReadsExpr (written binding.Field (at binding.Primary (kind_written x.kind) ++ fields (i ∷ is))) (e.Field x (i ∷ is))
field_again x i is r path = record {
  good = good_append (at binding.Primary (kind_written x.kind)) (fields (i ∷ is)) (good_at binding.Primary (kind_written x.kind) r.good) path.good;
  reads = field_read x i is r path;
}

-- ---- shifts

shift_is : (o : ShOp) → shift_operator (ASign (shift_sign o)) ≡ Some o
shift_is sh_op.Shl = refl
shift_is sh_op.Shr = refl
shift_is sh_op.Sar = refl
shift_is sh_op.Ror = refl

pub record ShiftsAgain (ns : List (ShOp × ℕ)) : Type 0 where
  pub good : Good (shifts ns)
  pub reads : (a c : List Placed) → Begins (shifts ns) a c → Shifts a c ns

no_shifts_read : (a c : List Placed) → Begins [] a c → Shifts a c []
no_shifts_read _ _ (done c) = no_shift c

pub no_shifts_again : ShiftsAgain []
no_shifts_again = record { good = tt; reads = no_shifts_read }

shifts_read : (o : ShOp) (n : ℕ) (ns : List (ShOp × ℕ)) → ShiftsAgain ns → (a c : List Placed) → Begins (shifts ((o, n) ∷ ns)) a c → Shifts a c ((o, n) ∷ ns)
shifts_read o n ns others _ c (next _ t _ _ _ by (next _ u _ a _ at h)) = next_shift t u a c o n ns (ap shift_operator by ∙ shift_is o) at (others.reads a c h)

pub shifts_again : (o : ShOp) (n : ℕ) (ns : List (ShOp × ℕ)) → IsPrintable (Number n) → ShiftsAgain ns → ShiftsAgain ((o, n) ∷ ns)
shifts_again o n ns g others = record { good = (refl, (g, others.good)); reads = shifts_read o n ns others }

shift_read : (x : Expr) (n : ShOp × ℕ) (ns : List (ShOp × ℕ)) → Again x.kind → ShiftsAgain (n ∷ ns) → (k : ℕ) (a c : List Placed) → Begins (at binding.Sum (kind_written x.kind) ++ shifts (n ∷ ns)) a c → ReadsAt binding.Shift k a c (e.Shift x (n ∷ ns))
shift_read x n ns r by k a c h =
    let s = split (at binding.Sum (kind_written x.kind)) (shifts (n ∷ ns)) a c h in
    let y = read_at binding.Sum (kind_written x.kind) x.kind r k a s.middle s.front in
    record {
      tree = node a c (e.Shift y.tree (n ∷ ns));
      derives = shift k a s.middle c y.tree (n ∷ ns) y.derives (by.reads s.middle c s.back);
      same = bare_shift y.tree (n ∷ ns) ∙ ap (λ k. e.Shift (bare_part k) (n ∷ ns)) y.same ∙ sym (bare_shift x (n ∷ ns));
    }

pub shift_again : (x : Expr) (n : ShOp × ℕ) (ns : List (ShOp × ℕ)) → Again x.kind → ShiftsAgain (n ∷ ns) → ReadsExpr (written binding.Shift (at binding.Sum (kind_written x.kind) ++ shifts (n ∷ ns))) (e.Shift x (n ∷ ns))
shift_again x n ns r by = record {
  good = good_append (at binding.Sum (kind_written x.kind)) (shifts (n ∷ ns)) (good_at binding.Sum (kind_written x.kind) r.good) by.good;
  reads = shift_read x n ns r by;
}

-- ---- comparisons

comparison_is : (o : Cmp) → comparison (ASign (comparison_sign o)) ≡ Some o
comparison_is cmp.Eq = refl
comparison_is cmp.Ne = refl
comparison_is cmp.Lt = refl
comparison_is cmp.Ge = refl
comparison_is cmp.Ltu = refl
comparison_is cmp.Geu = refl

compare_end : (o : Cmp) (x y : Expr) → Again y.kind → (k : ℕ) (a m c : List Placed) → ReadsAt binding.Or k a m x.kind → Begins (sign (comparison_sign o) ∷ at binding.Or (kind_written y.kind)) m c → ReadsAt binding.Comparison k a c (e.Compare o x y)
compare_end o x y r k a _ c left (next _ t _ b _ is h) =
    let right = read_at binding.Or (kind_written y.kind) y.kind r k b c h in
    record {
      tree = node a c (e.Compare o left.tree right.tree);
      derives = one_comparison k t a b c o left.tree right.tree left.derives (ap comparison is ∙ comparison_is o) right.derives;
      same = bare_compare o left.tree right.tree ∙ ap (λ k. e.Compare o (bare_part k) (unspanned_expr right.tree)) left.same ∙ ap (λ k. e.Compare o (unspanned_expr x) (bare_part k)) right.same ∙ sym (bare_compare o x y);
    }

compare_read : (o : Cmp) (x y : Expr) → Again x.kind → Again y.kind → (k : ℕ) (a c : List Placed) → Begins (at binding.Or (kind_written x.kind) ++ sign (comparison_sign o) ∷ at binding.Or (kind_written y.kind)) a c → ReadsAt binding.Comparison k a c (e.Compare o x y)
compare_read o x y left right k a c h =
    let s = split (at binding.Or (kind_written x.kind)) (sign (comparison_sign o) ∷ at binding.Or (kind_written y.kind)) a c h in
    compare_end o x y right k a s.middle c (read_at binding.Or (kind_written x.kind) x.kind left k a s.middle s.front) s.back

pub compare_again : (o : Cmp) (x y : Expr) → Again x.kind → Again y.kind → ReadsExpr (written binding.Comparison (at binding.Or (kind_written x.kind) ++ sign (comparison_sign o) ∷ at binding.Or (kind_written y.kind))) (e.Compare o x y)
compare_again o x y left right = record {
  good = good_append (at binding.Or (kind_written x.kind)) (sign (comparison_sign o) ∷ at binding.Or (kind_written y.kind)) (good_at binding.Or (kind_written x.kind) left.good) (refl, good_at binding.Or (kind_written y.kind) right.good);
  reads = compare_read o x y left right;
}
