-- A value of a shape passes the test of that shape.
use Rattle.std.proofs.Common.{◌≡◌, ℕ, zero, suc, Bool, true, ◌&&◌, List, [], ◌∷◌, map, replicate, Some, None, refl, sym, ap, subst, ◌∙◌}
use Rattle.pan_tree.specs.Value.{Value, Word, Struct, Values, none, more, values_list}
use Rattle.pan_tree.specs.Shapes.{parts_of, is_none, is_word, holds_each, some_hold, value_parts, shaped_layer, shaped, shape_in, shapes_in}
use Rattle.pan_tree.specs.declared.shape.Shape.{Shape, Shape-F, roll-Shape, map-Shape, fold-roll-Shape}
use Rattle.pan_tree.specs.declared.shape.Shape.TheOpen as open_shape
use Rattle.pan_tree.specs.declared.shape.Shape.TheVariants as shape
use Rattle.pan_tree.proofs.ShapeLayers.{parts_word, parts_group}
use Rattle.check_soundness.specs.Spread.{spread}
use Rattle.check_soundness.proofs.SpreadShapes.{shape_induct, spread_word, spread_words, spread_group, word_spread}

shaped_roll : (x : Shape-F Shape) → shaped (roll-Shape x) ≡ shaped_layer (map-Shape Shape (Value → Bool) shaped x)
unfolding shaped
shaped_roll x = fold-roll-Shape (Value → Bool) shaped_layer x

group_is : (ss ts : List Shape) → shape.Group ss ≡ shape.Group ts → ss ≡ ts
group_is ss ts e = let inner : Some ss ≡ Some ts = sym (parts_group ss) ∙ ap parts_of e ∙ parts_group ts in cc

word_no_group : (ss : List Shape) → shape.Word ≡ shape.Group ss → ⊥
word_no_group ss e = let no : None ≡ Some ss = sym parts_word ∙ ap parts_of e ∙ parts_group ss in absurd cc

abbrev PassesAs : (Value → Bool) → Shape → Type 0
PassesAs f s = (a : Value) → shape_in a ≡ spread s → f a ≡ true

abbrev Known : Type 0
Known = (s : Shape) × PassesAs (shaped s) s

-- a value whose shape is a word is one
pub is_a_word : (a : Value) → shape_in a ≡ shape.Word → is_none (value_parts a) ≡ true
is_a_word (Word n) e = refl
is_a_word (Struct vs) e = absurd (word_no_group (shapes_in vs) (sym e))

words_pass : (n : ℕ) (vs : Values) → shapes_in vs ≡ replicate n shape.Word → holds_each (replicate n (λ (w : Value). is_none (value_parts w))) (values_list vs) ≡ true
words_pass zero none e = refl
words_pass zero (more v vs) e = absurd cc
words_pass (suc n) none e = absurd cc
words_pass (suc n) (more v vs) e =
    let head : shape_in v ≡ shape.Word = cc in
    let tail : shapes_in vs ≡ replicate n shape.Word = cc in
    ap (λ b. b && holds_each (replicate n (λ (w : Value). is_none (value_parts w))) (values_list vs)) (is_a_word v head) ∙ words_pass n vs tail

parts_pass : (ss : List Known) (vs : Values) → shapes_in vs ≡ map spread (map (λ (c : Known). c.0) ss) → holds_each (map shaped (map (λ (c : Known). c.0) ss)) (values_list vs) ≡ true
parts_pass [] none e = refl
parts_pass [] (more v vs) e = absurd cc
parts_pass (s ∷ ss) none e = absurd cc
parts_pass (s ∷ ss) (more v vs) e =
    let head : shape_in v ≡ spread s.0 = cc in
    let tail : shapes_in vs ≡ map spread (map (λ (c : Known). c.0) ss) = cc in
    ap (λ b. b && holds_each (map shaped (map (λ (c : Known). c.0) ss)) (values_list vs)) (s.1 v head) ∙ parts_pass ss vs tail

layer_passes : (y : Shape-F Known) → let x = map-Shape Known Shape (λ c. c.0) y in PassesAs (shaped_layer (map-Shape Shape (Value → Bool) shaped x)) (roll-Shape x)
layer_passes open_shape.Word = subst (PassesAs (λ v. is_none (value_parts v))) (sym shape.rolls-Word) (λ a e. is_a_word a (e ∙ spread_word))
layer_passes (open_shape.Words n) = subst (PassesAs (λ v. some_hold (replicate n (λ (w : Value). is_none (value_parts w))) (value_parts v))) (sym (shape.rolls-Words n)) (λ a e. by a (e ∙ spread_words n))
  where
    by : (a : Value) → shape_in a ≡ shape.Group (replicate n shape.Word) → some_hold (replicate n (λ (w : Value). is_none (value_parts w))) (value_parts a) ≡ true
    by (Word k) e = absurd (word_no_group (replicate n shape.Word) e)
    by (Struct vs) e = words_pass n vs (group_is (shapes_in vs) (replicate n shape.Word) e)
layer_passes (open_shape.Group ss) =
    let xs = map (λ (c : Known). c.0) ss in
    subst (PassesAs (λ v. some_hold (map shaped xs) (value_parts v))) (sym (shape.rolls-Group xs)) (λ a e. by a (e ∙ spread_group xs))
  where
    by : (a : Value) → shape_in a ≡ shape.Group (map spread (map (λ (c : Known). c.0) ss)) → some_hold (map shaped (map (λ (c : Known). c.0) ss)) (value_parts a) ≡ true
    by (Word k) e = absurd (word_no_group (map spread (map (λ (c : Known). c.0) ss)) e)
    by (Struct vs) e = parts_pass ss vs (group_is (shapes_in vs) (map spread (map (λ (c : Known). c.0) ss)) e)

pub shaped_value : (s : Shape) (a : Value) → shape_in a ≡ spread s → shaped s a ≡ true
shaped_value = shape_induct (λ s. PassesAs (shaped s) s) (λ y. let x = map-Shape Known Shape (λ c. c.0) y in subst (λ f. PassesAs f (roll-Shape x)) (sym (shaped_roll x)) (layer_passes y))

-- a value whose shape is a word has a word
pub word_value : (s : Shape) (a : Value) → is_word s ≡ true → shape_in a ≡ spread s → (n : ℕ) × (a ≡ Word n)
word_value s (Word n) h e = (n, refl)
word_value s (Struct vs) h e = absurd (word_no_group (shapes_in vs) (sym (e ∙ word_spread s h)))
