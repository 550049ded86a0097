-- Shapes of values.
use Rattle.std.specs.Prelude.{ℕ, ◌&&◌, Bool, true, false, List, [], ◌∷◌, sum, replicate, drop, slice_get, slice_index, Option, Some, None}
use Rattle.pan_tree.specs.declared.shape.Shape.{Shape, Shape-F, fold-Shape, out-Shape}
use Rattle.pan_tree.specs.declared.shape.Shape.TheOpen as open_shape
use Rattle.pan_tree.specs.declared.shape.Shape.TheVariants as shape
use Rattle.pan_tree.specs.Value.{Value, Word, Struct, Values, none, more, values_list, values_of}

-- ---- words

-- the number of words of a shape, from those of its parts
abbrev pub words_layer : Shape-F ℕ → ℕ
words_layer open_shape.Word = 1
words_layer (open_shape.Words n) = n
words_layer (open_shape.Group parts) = sum parts

-- the number of words of a shape
unfoldable pub words_of : Shape → ℕ
words_of = fold-Shape ℕ words_layer

-- ---- parts

-- the shapes of a struct's parts
abbrev pub parts_layer : Shape-F Shape → Option (List Shape)
parts_layer open_shape.Word = None
parts_layer (open_shape.Words n) = Some (replicate n shape.Word)
parts_layer (open_shape.Group parts) = Some parts

abbrev pub parts_of : Shape → Option (List Shape)
parts_of s = parts_layer (out-Shape s)

-- a part of a part, and so on: there is one, or a part is taken of a word, or a struct hasn't so many
pub data Part : Type 0 where
  APart : Shape → Part
  OfWord : Part
  NoPart : Part

abbrev pub found : Option Shape → Part
found None = NoPart
found (Some s) = APart s

abbrev pub part_among : Option (List Shape) → ℕ → Part
part_among None i = OfWord
part_among (Some parts) i = found (slice_get parts i)

abbrev pub part_at : Part → List ℕ → Part
part_at p [] = p
part_at (APart s) (i ∷ is) = part_at (part_among (parts_of s) i) is
part_at OfWord (i ∷ is) = OfWord
part_at NoPart (i ∷ is) = NoPart

-- ---- the same shape

-- of two lists, each of the one holds of its fellow in the other
abbrev pub holds_each : {X : Type 0} → List (X → Bool) → List X → Bool
holds_each [] [] = true
holds_each (p ∷ ps) (x ∷ xs) = p x && holds_each ps xs
holds_each [] (x ∷ xs) = false
holds_each (p ∷ ps) [] = false

abbrev pub is_none : {X : Type 0} → Option X → Bool
is_none None = true
is_none (Some x) = false

abbrev pub some_hold : {X : Type 0} → List (X → Bool) → Option (List X) → Bool
some_hold ps None = false
some_hold ps (Some xs) = holds_each ps xs

abbrev pub is_word : Shape → Bool
is_word s = is_none (parts_of s)

-- Two shapes are the same where both are a word, or both have as many parts and these are the same in turn.
abbrev pub same_layer : Shape-F (Shape → Bool) → Shape → Bool
same_layer open_shape.Word other = is_word other
same_layer (open_shape.Words n) other = some_hold (replicate n is_word) (parts_of other)
same_layer (open_shape.Group parts) other = some_hold parts (parts_of other)

unfoldable pub same : Shape → Shape → Bool
same = fold-Shape (Shape → Bool) same_layer

-- ---- values of a shape

abbrev pub value_parts : Value → Option (List Value)
value_parts (Word n) = None
value_parts (Struct vs) = Some (values_list vs)

-- the value is a word, or a struct with a value of the right shape for each part
abbrev pub shaped_layer : Shape-F (Value → Bool) → Value → Bool
shaped_layer open_shape.Word v = is_none (value_parts v)
shaped_layer (open_shape.Words n) v = some_hold (replicate n (λ w. is_none (value_parts w))) (value_parts v)
shaped_layer (open_shape.Group parts) v = some_hold parts (value_parts v)

unfoldable pub shaped : Shape → Value → Bool
shaped = fold-Shape (Value → Bool) shaped_layer

-- ---- values from words

-- The value of a shape with the first of these words, and the words that are left. Words that aren't there count as 0.
abbrev pub Filling : Type 0
Filling = List ℕ → Value × List ℕ

-- parts of such shapes, one after another
abbrev pub fill_each : List Filling → List ℕ → List Value × List ℕ
fill_each [] ns = ([], ns)
fill_each (f ∷ fs) ns =
    let one = f ns in
    let others = fill_each fs one.1 in
    (one.0 ∷ others.0, others.1)

abbrev pub struct_of : List Value × List ℕ → Value × List ℕ
struct_of parts = (Struct (values_of parts.0), parts.1)

abbrev pub fill_word : Filling
fill_word ns = (Word (slice_index ns 0), drop 1 ns)

abbrev pub fill_layer : Shape-F Filling → Filling
fill_layer open_shape.Word ns = fill_word ns
fill_layer (open_shape.Words n) ns = struct_of (fill_each (replicate n fill_word) ns)
fill_layer (open_shape.Group parts) ns = struct_of (fill_each parts ns)

unfoldable pub filling : Shape → Filling
filling = fold-Shape Filling fill_layer

-- the value of the shape with these words
abbrev pub filled : Shape → List ℕ → Value
filled s ns = (filling s ns).0

-- the value of the shape whose words are all 0
abbrev pub zero_of : Shape → Value
zero_of s = filled s []

-- the shape of a value, in which each struct is a group
abbrev mutual
  pub shape_in : Value → Shape
  shape_in (Word n) = shape.Word
  shape_in (Struct parts) = shape.Group (shapes_in parts)

  pub shapes_in : Values → List Shape
  shapes_in none = []
  shapes_in (more v vs) = shape_in v ∷ shapes_in vs
