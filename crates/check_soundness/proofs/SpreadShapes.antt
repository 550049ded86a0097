-- Shapes that are the same have one spread shape, and a value's shape is spread.
use Rattle.std.proofs.Common.{◌≡◌, ℕ, zero, suc, Bool, true, false, ◌&&◌, List, [], ◌∷◌, map, replicate, Option, Some, None, refl, sym, ap, subst, ◌∙◌}
use Rattle.std.specs.Prelude.{option_map}
use Rattle.pan_tree.specs.Value.{Value, Word, Struct, Values, none, more, values_list, values_of}
use Rattle.pan_tree.specs.Shapes.{parts_of, is_none, is_word, holds_each, some_hold, same, shape_in, shapes_in, Filling, filling, filled, fill_layer, fill_word, fill_each}
use Rattle.pan_tree.specs.declared.shape.Shape.{Shape, Shape-F, roll-Shape, out-Shape, roll-out-Shape, map-Shape, ind-Shape, fold-roll-Shape}
use Rattle.pan_tree.specs.declared.shape.Shape.TheOpen as open_shape
use Rattle.pan_tree.specs.declared.shape.Shape.TheVariants as shape
use Rattle.pan_tree.proofs.ShapeLayers.{parts_word, parts_words, parts_group, same_word, same_words, same_group}
use Rattle.check_soundness.specs.Spread.{spread, spread_layer}

-- ---- layers

filling_roll : (x : Shape-F Shape) → filling (roll-Shape x) ≡ fill_layer (map-Shape Shape Filling filling x)
unfolding filling
filling_roll x = fold-roll-Shape Filling fill_layer x

spread_roll : (x : Shape-F Shape) → spread (roll-Shape x) ≡ spread_layer (map-Shape Shape Shape spread x)
unfolding spread
spread_roll x = fold-roll-Shape Shape spread_layer x

pub shape_induct : (P : Shape → Type 0) → ((y : Shape-F ((s : Shape) × P s)) → P (roll-Shape (map-Shape ((s : Shape) × P s) Shape (λ c. c.0) y))) → (s : Shape) → P s
shape_induct P at k = ind-Shape P (λ x y is. subst (λ x. P (roll-Shape x)) is (at y)) k

pub spread_word : spread shape.Word ≡ shape.Word
spread_word = ap spread (sym shape.rolls-Word) ∙ spread_roll open_shape.Word

pub spread_words : (n : ℕ) → spread (shape.Words n) ≡ shape.Group (replicate n shape.Word)
spread_words n = ap spread (sym (shape.rolls-Words n)) ∙ spread_roll (open_shape.Words n)

pub spread_group : (ss : List Shape) → spread (shape.Group ss) ≡ shape.Group (map spread ss)
spread_group ss = ap spread (sym (shape.rolls-Group ss)) ∙ spread_roll (open_shape.Group ss)

all_words : (n : ℕ) → map spread (replicate n shape.Word) ≡ replicate n shape.Word
all_words zero = refl
all_words (suc n) = ap (λ s. s ∷ map spread (replicate n shape.Word)) spread_word ∙ ap (λ ss. shape.Word ∷ ss) (all_words n)

-- ---- parts

-- the parts of a spread shape are spread
pub spread_parts : (s : Shape) → parts_of (spread s) ≡ option_map (map spread) (parts_of s)
spread_parts s = subst (λ s. parts_of (spread s) ≡ option_map (map spread) (parts_of s)) (roll-out-Shape s) (at (out-Shape s))
  where
    at : (x : Shape-F Shape) → parts_of (spread (roll-Shape x)) ≡ option_map (map spread) (parts_of (roll-Shape x))
    at open_shape.Word = subst (λ s. parts_of (spread s) ≡ option_map (map spread) (parts_of s)) (sym shape.rolls-Word) (ap parts_of spread_word ∙ parts_word ∙ ap (option_map (map spread)) (sym parts_word))
    at (open_shape.Words n) = subst (λ s. parts_of (spread s) ≡ option_map (map spread) (parts_of s)) (sym (shape.rolls-Words n))
        (ap parts_of (spread_words n) ∙ parts_group (replicate n shape.Word) ∙ ap Some (sym (all_words n)) ∙ ap (option_map (map spread)) (sym (parts_words n)))
    at (open_shape.Group ss) = subst (λ s. parts_of (spread s) ≡ option_map (map spread) (parts_of s)) (sym (shape.rolls-Group ss))
        (ap parts_of (spread_group ss) ∙ parts_group (map spread ss) ∙ ap (option_map (map spread)) (sym (parts_group ss)))

abbrev spread_from : Option (List Shape) → Shape
spread_from None = shape.Word
spread_from (Some ss) = shape.Group (map spread ss)

by_parts : (t : Shape) → spread t ≡ spread_from (parts_of t)
by_parts t = subst (λ t. spread t ≡ spread_from (parts_of t)) (roll-out-Shape t) (at (out-Shape t))
  where
    at : (x : Shape-F Shape) → spread (roll-Shape x) ≡ spread_from (parts_of (roll-Shape x))
    at open_shape.Word = subst (λ t. spread t ≡ spread_from (parts_of t)) (sym shape.rolls-Word) (spread_word ∙ ap spread_from (sym parts_word))
    at (open_shape.Words n) = subst (λ t. spread t ≡ spread_from (parts_of t)) (sym (shape.rolls-Words n)) (spread_words n ∙ ap shape.Group (sym (all_words n)) ∙ ap spread_from (sym (parts_words n)))
    at (open_shape.Group ss) = subst (λ t. spread t ≡ spread_from (parts_of t)) (sym (shape.rolls-Group ss)) (spread_group ss ∙ ap spread_from (sym (parts_group ss)))

-- ---- shapes that are the same

pub both_true : (a b : Bool) → (a && b) ≡ true → (a ≡ true) × (b ≡ true)
both_true true b h = (refl, h)
both_true false b h = absurd cc

pub word_spread : (t : Shape) → is_word t ≡ true → spread t ≡ shape.Word
word_spread t h = by_parts t ∙ by (parts_of t) h
  where
    by : (o : Option (List Shape)) → is_none o ≡ true → spread_from o ≡ shape.Word
    by None h = refl
    by (Some ss) h = absurd cc

each_word : (n : ℕ) (ts : List Shape) → holds_each (replicate n is_word) ts ≡ true → replicate n shape.Word ≡ map spread ts
each_word zero [] h = refl
each_word zero (t ∷ ts) h = absurd cc
each_word (suc n) [] h = absurd cc
each_word (suc n) (t ∷ ts) h = let b = both_true (is_word t) (holds_each (replicate n is_word) ts) h in ap (λ s. s ∷ replicate n shape.Word) (sym (word_spread t b.0)) ∙ ap (λ ss. spread t ∷ ss) (each_word n ts b.1)

abbrev SameSpread : Shape → Type 0
SameSpread s = (t : Shape) → same s t ≡ true → spread s ≡ spread t

abbrev Known : Type 0
Known = (s : Shape) × SameSpread s

each_same : (ss : List Known) (ts : List Shape) → holds_each (map same (map (λ (c : Known). c.0) ss)) ts ≡ true → map spread (map (λ (c : Known). c.0) ss) ≡ map spread ts
each_same [] [] h = refl
each_same [] (t ∷ ts) h = absurd cc
each_same (s ∷ ss) [] h = absurd cc
each_same (s ∷ ss) (t ∷ ts) h =
    let b = both_true (same s.0 t) (holds_each (map same (map (λ (c : Known). c.0) ss)) ts) h in
    ap (λ x. x ∷ map spread (map (λ (c : Known). c.0) ss)) (s.1 t b.0) ∙ ap (λ xs. spread t ∷ xs) (each_same ss ts b.1)

same_layer_spread : (y : Shape-F Known) → SameSpread (roll-Shape (map-Shape Known Shape (λ c. c.0) y))
same_layer_spread open_shape.Word = subst SameSpread (sym shape.rolls-Word) (λ t h. spread_word ∙ sym (word_spread t (sym (same_word t) ∙ h)))
same_layer_spread (open_shape.Words n) = subst SameSpread (sym (shape.rolls-Words n)) (λ t h. spread_words n ∙ by n (parts_of t) (sym (same_words n t) ∙ h) ∙ sym (by_parts t))
  where
    by : (n : ℕ) (o : Option (List Shape)) → some_hold (replicate n is_word) o ≡ true → shape.Group (replicate n shape.Word) ≡ spread_from o
    by n None h = absurd cc
    by n (Some ts) h = ap shape.Group (each_word n ts h)
same_layer_spread (open_shape.Group ss) = subst SameSpread (sym (shape.rolls-Group (map (λ (c : Known). c.0) ss))) (λ t h. spread_group (map (λ (c : Known). c.0) ss) ∙ by ss (parts_of t) (sym (same_group (map (λ (c : Known). c.0) ss) t) ∙ h) ∙ sym (by_parts t))
  where
    by : (ss : List Known) (o : Option (List Shape)) → some_hold (map same (map (λ (c : Known). c.0) ss)) o ≡ true → shape.Group (map spread (map (λ (c : Known). c.0) ss)) ≡ spread_from o
    by ss None h = absurd cc
    by ss (Some ts) h = ap shape.Group (each_same ss ts h)

pub same_spread : (s t : Shape) → same s t ≡ true → spread s ≡ spread t
same_spread = shape_induct SameSpread same_layer_spread

-- ---- values

mutual
  pub spread_value : (a : Value) → spread (shape_in a) ≡ shape_in a
  spread_value (Word n) = spread_word
  spread_value (Struct vs) = spread_group (shapes_in vs) ∙ ap shape.Group (spread_values vs)

  spread_values : (vs : Values) → map spread (shapes_in vs) ≡ shapes_in vs
  spread_values none = refl
  spread_values (more v vs) = ap (λ s. s ∷ map spread (shapes_in vs)) (spread_value v) ∙ ap (λ ss. shape_in v ∷ ss) (spread_values vs)

pub list_of : (xs : List Value) → values_list (values_of xs) ≡ xs
list_of [] = refl
list_of (x ∷ xs) = ap (λ ys. x ∷ ys) (list_of xs)

pub shapes_list : (vs : Values) → shapes_in vs ≡ map shape_in (values_list vs)
shapes_list none = refl
shapes_list (more v vs) = ap (λ ss. shape_in v ∷ ss) (shapes_list vs)

-- ---- the shape of a value from words

abbrev Shaped : Shape → Type 0
Shaped s = (ns : List ℕ) → shape_in (filling s ns).0 ≡ spread s

abbrev KnownShape : Type 0
KnownShape = (s : Shape) × Shaped s

words_shaped : (n : ℕ) (ns : List ℕ) → shapes_in (values_of (fill_each (replicate n fill_word) ns).0) ≡ replicate n shape.Word
words_shaped zero ns = refl
words_shaped (suc n) ns = ap (λ ss. shape.Word ∷ ss) (words_shaped n _)

parts_shaped : (ps : List KnownShape) (ns : List ℕ) → shapes_in (values_of (fill_each (map filling (map (λ (c : KnownShape). c.0) ps)) ns).0) ≡ map spread (map (λ (c : KnownShape). c.0) ps)
parts_shaped [] ns = refl
parts_shaped (p ∷ ps) ns =
    ap (λ s. s ∷ shapes_in (values_of (fill_each (map filling (map (λ (c : KnownShape). c.0) ps)) (filling p.0 ns).1).0)) (p.1 ns)
    ∙ ap (λ ss. spread p.0 ∷ ss) (parts_shaped ps (filling p.0 ns).1)

shaped_layer : (y : Shape-F KnownShape) (ns : List ℕ) → shape_in (fill_layer (map-Shape Shape Filling filling (map-Shape KnownShape Shape (λ c. c.0) y)) ns).0 ≡ spread_layer (map-Shape Shape Shape spread (map-Shape KnownShape Shape (λ c. c.0) y))
shaped_layer open_shape.Word ns = refl
shaped_layer (open_shape.Words n) ns = ap shape.Group (words_shaped n ns)
shaped_layer (open_shape.Group ps) ns = ap shape.Group (parts_shaped ps ns)

pub filled_shape : (s : Shape) (ns : List ℕ) → shape_in (filled s ns) ≡ spread s
filled_shape = shape_induct Shaped (λ y ns.
    let x = map-Shape KnownShape Shape (λ c. c.0) y in
    ap (λ (f : Filling). shape_in (f ns).0) (filling_roll x) ∙ shaped_layer y ns ∙ sym (spread_roll x))
