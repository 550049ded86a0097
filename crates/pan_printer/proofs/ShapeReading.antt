-- Printed shapes are read as they are.
use Rattle.std.proofs.Common.{◌≡◌, ℕ, ◌+◌, ◌≤◌, List, [], ◌∷◌, ◌++◌, sym, subst, refl}
use Rattle.std.specs.Prelude.{flat_map}
use Rattle.pan_base.specs.declared.tokens.Sign.TheVariants as signs
use Rattle.pan_base.specs.Tokens.{Placed}
use Rattle.pan_tree.specs.declared.shape.Shape.{Shape}
use Rattle.pan_tree.specs.declared.shape.Shape.TheVariants as shape
use Rattle.pan_tree.specs.Grammar.{AShape, one_word, many_words, group, MoreShapes, no_shape, next_shape}
use Rattle.pan_printer.specs.Pieces.{Piece, sign, number, with_commas}
use Rattle.pan_printer.specs.Expressions.{shape_pieces}
use Rattle.pan_printer.proofs.Begins.{Begins, done, next, split}
use Rattle.pan_printer.proofs.TokenTexts.{IsPrintable, Printable, Good, good_append}
use Rattle.pan_printer.proofs.Layers.{shape_word, shape_words, shape_group}

-- any token may open a bracket
abbrev pub May : ℕ → List Placed → Type 0
May j rest = Unit {0}

-- the tokens of the shape can be printed, and are read as it
pub record ReadsShape (z : Shape) (ps : List Piece) : Type 0 where
  pub good : Good ps
  pub reads : (k : ℕ) (a c : List Placed) → Begins ps a c → AShape May k a c z

-- those of further shapes
pub record ReadsShapes (zs : List Shape) (ps : List Piece) : Type 0 where
  pub good : Good ps
  pub reads : (k : ℕ) (a c : List Placed) → Begins ps a c → MoreShapes May k a c zs

-- each with a comma before it
abbrev more_shapes : List Shape → List Piece
more_shapes zs = flat_map (λ z. sign signs.Comma ∷ shape_pieces z) zs

word_read : (k : ℕ) (a c : List Placed) → Begins (number 1 ∷ []) a c → AShape May k a c shape.Word
word_read k _ _ (next _ t _ _ _ is (done c)) = one_word k t c is

words_read : (n : ℕ) → 2 ≤ n → (k : ℕ) (a c : List Placed) → Begins (number n ∷ []) a c → AShape May k a c (shape.Words n)
words_read n h k _ _ (next _ t _ _ _ is (done c)) = many_words k t c n is h

group_end : (k : ℕ) (t : Placed) (a b m c : List Placed) (z : Shape) (zs : List Shape) → t.kind ≡ (sign signs.OpenBrace).kind → AShape May (k + 1) a b z → MoreShapes May (k + 1) b m zs → Begins (sign signs.CloseBrace ∷ []) m c → AShape May k (t ∷ a) c (shape.Group (z ∷ zs))
group_end k t a b _ _ z zs opens first others (next _ u _ _ _ closes (done c)) = group k t u a b c z zs opens tt first others closes

group_read : (z : Shape) (zs : List Shape) → ReadsShape z (shape_pieces z) → ReadsShapes zs (more_shapes zs) → (k : ℕ) (a c : List Placed) → Begins (sign signs.OpenBrace ∷ with_commas shape_pieces (z ∷ zs) ++ sign signs.CloseBrace ∷ []) a c → AShape May k a c (shape.Group (z ∷ zs))
group_read z zs first others k _ c (next _ t _ a _ is h) =
    let inside = split (with_commas shape_pieces (z ∷ zs)) (sign signs.CloseBrace ∷ []) a c h in
    let parts = split (shape_pieces z) (more_shapes zs) a inside.middle inside.front in
    group_end k t a parts.middle inside.middle c z zs is (first.reads (k + 1) a parts.middle parts.front) (others.reads (k + 1) parts.middle inside.middle parts.back) inside.back

more_read : (z : Shape) (zs : List Shape) → ReadsShape z (shape_pieces z) → ReadsShapes zs (more_shapes zs) → (k : ℕ) (a c : List Placed) → Begins (more_shapes (z ∷ zs)) a c → MoreShapes May k a c (z ∷ zs)
more_read z zs first others k _ c (next _ t _ a _ is h) =
    let s = split (shape_pieces z) (more_shapes zs) a c h in
    next_shape k t a s.middle c z zs is (first.reads k a s.middle s.front) (others.reads k s.middle c s.back)

none_read : (k : ℕ) (a c : List Placed) → Begins [] a c → MoreShapes May k a c []
none_read k _ _ (done c) = no_shape k c

pub record ShapeAgain (z : Shape) (b : List Placed) : Type 0 where
  pub shape : ReadsShape z (shape_pieces z)
  pub behind : Printable b

pub record ShapesAgain (zs : List Shape) (b : List Placed) : Type 0 where
  pub shapes : ReadsShapes zs (more_shapes zs)
  pub behind : Printable b

mutual
  pub shape_again : (k : ℕ) (a b : List Placed) (z : Shape) → AShape May k a b z → Printable a → ShapeAgain z b
  shape_again k _ b _ (one_word _ t _ is) h = record {
    shape = subst (ReadsShape shape.Word) (sym shape_word) (record { good = (subst IsPrintable is h.0, tt); reads = word_read });
    behind = h.1;
  }
  shape_again k _ b _ (many_words _ t _ n is large) h = record {
    shape = subst (ReadsShape (shape.Words n)) (sym (shape_words n)) (record { good = (subst IsPrintable is h.0, tt); reads = words_read n large });
    behind = h.1;
  }
  shape_again k _ c _ (group _ t u a b _ z zs opens may first others closes) h =
      let x = shape_again (k + 1) a b z first h.1 in
      let xs = shapes_again (k + 1) b (u ∷ c) zs others x.behind in
      record {
        shape = subst (ReadsShape (shape.Group (z ∷ zs))) (sym (shape_group (z ∷ zs))) (record {
          good = (refl, good_append (shape_pieces z ++ more_shapes zs) (sign signs.CloseBrace ∷ []) (good_append (shape_pieces z) (more_shapes zs) (x.shape).good (xs.shapes).good) (refl, tt));
          reads = group_read z zs x.shape xs.shapes;
        });
        behind = (xs.behind).1;
      }

  pub shapes_again : (k : ℕ) (a b : List Placed) (zs : List Shape) → MoreShapes May k a b zs → Printable a → ShapesAgain zs b
  shapes_again k _ b _ (no_shape _ _) h = record { shapes = record { good = tt; reads = none_read }; behind = h }
  shapes_again k _ c _ (next_shape _ t a b _ z zs is first others) h =
      let x = shape_again k a b z first h.1 in
      let xs = shapes_again k b c zs others x.behind in
      record {
        shapes = record {
          good = (refl, good_append (shape_pieces z) (more_shapes zs) (x.shape).good (xs.shapes).good);
          reads = more_read z zs x.shape xs.shapes;
        };
        behind = xs.behind;
      }
