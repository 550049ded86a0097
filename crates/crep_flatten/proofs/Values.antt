-- The words of values, and values from words.
use Rattle.std.proofs.Common.{◌≡◌, ℕ, zero, suc, ◌+◌, List, [], ◌∷◌, ◌++◌, map, sum, length, length-append, take, drop, replicate, append_assoc, append-nil, arith, refl, sym, ap, subst, ◌∙◌}
use Rattle.std.proofs.lemmas.List.{take-append-drop, length-take-le, length-drop}
use Rattle.pan_tree.specs.Value.{Value, Word, Struct, Values, none, more, values_of, words_in, words_in_all}
use Rattle.pan_tree.specs.Shapes.{words_of, words_layer, shape_in, shapes_in, Filling, filling, filled, fill_layer, fill_word, fill_each}
use Rattle.pan_tree.specs.declared.shape.Shape.{Shape, Shape-F, roll-Shape, map-Shape, fold-roll-Shape}
use Rattle.pan_tree.specs.declared.shape.Shape.TheOpen as open_shape
use Rattle.pan_tree.proofs.ShapeLayers.{words_word, words_group}
use Rattle.check_soundness.proofs.SpreadShapes.{shape_induct}
use Rattle.check_soundness.proofs.Alike.{sum_more}

-- a value has as many words as its shape
mutual
  pub words_shape : (a : Value) → words_of (shape_in a) ≡ length (words_in a)
  words_shape (Word n) = words_word
  words_shape (Struct vs) = words_group (shapes_in vs) ∙ words_shapes vs

  words_shapes : (vs : Values) → sum (map words_of (shapes_in vs)) ≡ length (words_in_all vs)
  words_shapes none = refl
  words_shapes (more v vs) = sum_more (words_of (shape_in v)) (map words_of (shapes_in vs)) ∙ ap (λ n. n + sum (map words_of (shapes_in vs))) (words_shape v) ∙ ap (λ n. length (words_in v) + n) (words_shapes vs) ∙ sym (length-append (words_in v) (words_in_all vs))

filling_roll : (x : Shape-F Shape) → filling (roll-Shape x) ≡ fill_layer (map-Shape Shape Filling filling x)
unfolding filling
filling_roll x = fold-roll-Shape Filling fill_layer x

words_roll : (x : Shape-F Shape) → words_of (roll-Shape x) ≡ words_layer (map-Shape Shape ℕ words_of x)
unfolding words_of
words_roll x = fold-roll-Shape ℕ words_layer x

-- ---- the words

-- what is made of some words and others behind them has these words, and leaves the others
pub record Fills (p : Value × List ℕ) (ns rest : List ℕ) : Type 0 where
  pub words : words_in p.0 ≡ ns
  pub left : p.1 ≡ rest

pub record FillsEach (p : List Value × List ℕ) (ns rest : List ℕ) : Type 0 where
  pub words : words_in_all (values_of p.0) ≡ ns
  pub left : p.1 ≡ rest

abbrev Filled : Shape → Type 0
Filled s = (ns rest : List ℕ) → length ns ≡ words_of s → Fills (filling s (ns ++ rest)) ns rest

one_word : (ns rest : List ℕ) → length ns ≡ 1 → Fills (fill_word (ns ++ rest)) ns rest
one_word [] rest h = absurd (omega (arith, h))
one_word (n ∷ []) rest h = record { words = refl; left = refl }
one_word (n ∷ k ∷ ks) rest h = absurd (omega (arith, h))

some_words : (n : ℕ) (ns rest : List ℕ) → length ns ≡ n → FillsEach (fill_each (replicate n fill_word) (ns ++ rest)) ns rest
some_words zero [] rest h = record { words = refl; left = refl }
some_words zero (n ∷ ns) rest h = absurd (omega (arith, h))
some_words (suc k) [] rest h = absurd (omega (arith, h))
some_words (suc k) (n ∷ ns) rest h = let r = some_words k ns rest (omega (arith, h)) in record { words = ap (λ ms. n ∷ ms) r.words; left = r.left }

abbrev Known : Type 0
Known = (s : Shape) × Filled s

-- what follows the first has what is left
then_each : (f : Filling) (fs : List Filling) (ms ns rest : List ℕ) → Fills (f (ms ++ (ns ++ rest))) ms (ns ++ rest) → FillsEach (fill_each fs (ns ++ rest)) ns rest → FillsEach (fill_each (f ∷ fs) (ms ++ (ns ++ rest))) (ms ++ ns) rest
then_each f fs ms ns rest one others = record {
  words = ap (λ k. words_in (f (ms ++ (ns ++ rest))).0 ++ words_in_all (values_of (fill_each fs k).0)) one.left ∙ ap (λ k. k ++ words_in_all (values_of (fill_each fs (ns ++ rest)).0)) one.words ∙ ap (λ k. ms ++ k) others.words;
  left = ap (λ k. (fill_each fs k).1) one.left ∙ others.left;
}

some_parts : (ps : List Known) (ns rest : List ℕ) → length ns ≡ sum (map words_of (map (λ (c : Known). c.0) ps)) → FillsEach (fill_each (map filling (map (λ (c : Known). c.0) ps)) (ns ++ rest)) ns rest
some_parts [] [] rest h = record { words = refl; left = refl }
some_parts [] (n ∷ ns) rest h = absurd (omega (arith, h))
some_parts (p ∷ ps) ns rest h =
    let k = words_of p.0 in
    let all : length ns ≡ k + sum (map words_of (map (λ (c : Known). c.0) ps)) = h ∙ sum_more k (map words_of (map (λ (c : Known). c.0) ps)) in
    let here : length (take k ns) ≡ k = length-take-le k ns (omega (arith, all)) in
    let whole : take k ns ++ (drop k ns ++ rest) ≡ ns ++ rest = sym (append_assoc (take k ns) (drop k ns) rest) ∙ ap (λ xs. xs ++ rest) (take-append-drop k ns) in
    subst (λ ms. FillsEach (fill_each (map filling (p.0 ∷ map (λ (c : Known). c.0) ps)) ms) ns rest) whole
    (subst (λ ms. FillsEach (fill_each (map filling (p.0 ∷ map (λ (c : Known). c.0) ps)) (take k ns ++ (drop k ns ++ rest))) ms rest) (take-append-drop k ns)
    (then_each (filling p.0) (map filling (map (λ (c : Known). c.0) ps)) (take k ns) (drop k ns) rest (p.1 (take k ns) (drop k ns ++ rest) here)
    (some_parts ps (drop k ns) rest (length-drop k ns ∙ omega (arith, all)))))

fills_layer : (y : Shape-F Known) (ns rest : List ℕ) → length ns ≡ words_layer (map-Shape Shape ℕ words_of (map-Shape Known Shape (λ c. c.0) y))
    → Fills (fill_layer (map-Shape Shape Filling filling (map-Shape Known Shape (λ c. c.0) y)) (ns ++ rest)) ns rest
fills_layer open_shape.Word ns rest h = one_word ns rest h
fills_layer (open_shape.Words n) ns rest h = let r = some_words n ns rest h in record { words = r.words; left = r.left }
fills_layer (open_shape.Group ps) ns rest h = let r = some_parts ps ns rest h in record { words = r.words; left = r.left }

fills : (s : Shape) → Filled s
fills = shape_induct Filled (λ y ns rest h.
    let x = map-Shape Known Shape (λ c. c.0) y in
    subst (λ (f : Filling). Fills (f (ns ++ rest)) ns rest) (sym (filling_roll x)) (fills_layer y ns rest (h ∙ words_roll x)))

pub filled_words : (s : Shape) (ns : List ℕ) → length ns ≡ words_of s → words_in (filled s ns) ≡ ns
filled_words s ns h = ap (λ ms. words_in (filling s ms).0) (sym (append-nil ns)) ∙ (fills s ns [] h).words
