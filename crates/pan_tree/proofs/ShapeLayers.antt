-- What the check asks of shapes, at each variant.
use Rattle.std.proofs.Common.{◌≡◌, ◌≢◌, ℕ, zero, suc, Bool, true, false, ◌&&◌, nat_eq, List, [], ◌∷◌, map, sum, length, replicate, Some, None, refl, sym, ap, subst, ◌∙◌}
use Rattle.std.proofs.Math.Dec.{eqb-zero-suc, eqb-suc-zero, eqb-suc-suc}
use Rattle.std.specs.List.{list_all}
use Rattle.pan_tree.specs.declared.shape.Shape.{Shape, Shape-F, fold-roll-Shape, roll-Shape, out-Shape, out-roll-Shape, roll-out-Shape, map-Shape}
use Rattle.pan_tree.specs.declared.shape.Shape.TheOpen as open_shape
use Rattle.pan_tree.specs.declared.shape.Shape.TheVariants as shape
use Rattle.pan_tree.specs.Shapes.{words_layer, words_of, parts_layer, parts_of, holds_each, is_none, some_hold, is_word, same_layer, same}

words_roll : (x : Shape-F Shape) → words_of (roll-Shape x) ≡ words_layer (map-Shape Shape ℕ words_of x)
unfolding words_of
words_roll x = fold-roll-Shape ℕ words_layer x

pub words_word : words_of shape.Word ≡ 1
words_word = ap words_of (sym shape.rolls-Word) ∙ words_roll open_shape.Word

pub words_words : (n : ℕ) → words_of (shape.Words n) ≡ n
words_words n = ap words_of (sym (shape.rolls-Words n)) ∙ words_roll (open_shape.Words n)

pub words_group : (parts : List Shape) → words_of (shape.Group parts) ≡ sum (map words_of parts)
words_group parts = ap words_of (sym (shape.rolls-Group parts)) ∙ words_roll (open_shape.Group parts)

pub ruleset words_rules = (words_word, words_words, words_group)

-- ---- parts

pub parts_word : parts_of shape.Word ≡ None
parts_word = ap parts_of (sym shape.rolls-Word) ∙ ap parts_layer (out-roll-Shape open_shape.Word)

pub parts_words : (n : ℕ) → parts_of (shape.Words n) ≡ Some (replicate n shape.Word)
parts_words n = ap parts_of (sym (shape.rolls-Words n)) ∙ ap parts_layer (out-roll-Shape (open_shape.Words n))

pub parts_group : (parts : List Shape) → parts_of (shape.Group parts) ≡ Some parts
parts_group parts = ap parts_of (sym (shape.rolls-Group parts)) ∙ ap parts_layer (out-roll-Shape (open_shape.Group parts))

pub is_word_word : is_word shape.Word ≡ true
is_word_word = ap is_none parts_word

pub is_word_words : (n : ℕ) → is_word (shape.Words n) ≡ false
is_word_words n = ap is_none (parts_words n)

pub is_word_group : (parts : List Shape) → is_word (shape.Group parts) ≡ false
is_word_group parts = ap is_none (parts_group parts)

pub ruleset is_word_rules = (is_word_word, is_word_words, is_word_group)

-- ---- the same shape

same_roll : (x : Shape-F Shape) → same (roll-Shape x) ≡ same_layer (map-Shape Shape (Shape → Bool) same x)
unfolding same
same_roll x = fold-roll-Shape (Shape → Bool) same_layer x

pub same_word : (s : Shape) → same shape.Word s ≡ is_word s
same_word s = ap (λ x. same x s) (sym shape.rolls-Word) ∙ ap (λ f. f s) (same_roll open_shape.Word)

pub same_words : (n : ℕ) (s : Shape) → same (shape.Words n) s ≡ some_hold (replicate n is_word) (parts_of s)
same_words n s = ap (λ x. same x s) (sym (shape.rolls-Words n)) ∙ ap (λ f. f s) (same_roll (open_shape.Words n))

pub same_group : (parts : List Shape) (s : Shape) → same (shape.Group parts) s ≡ some_hold (map same parts) (parts_of s)
same_group parts s = ap (λ x. same x s) (sym (shape.rolls-Group parts)) ∙ ap (λ f. f s) (same_roll (open_shape.Group parts))

pub same_words_word : (n : ℕ) → same (shape.Words n) shape.Word ≡ false
same_words_word n = same_words n shape.Word ∙ ap (some_hold (replicate n is_word)) parts_word

pub same_group_word : (parts : List Shape) → same (shape.Group parts) shape.Word ≡ false
same_group_word parts = same_group parts shape.Word ∙ ap (some_hold (map same parts)) parts_word

and_swap : (a b c : Bool) → (a && (b && c)) ≡ (b && (a && c))
and_swap true b c = refl
and_swap false true c = refl
and_swap false false c = refl

and_false : (a : Bool) → (a && false) ≡ false
and_false true = refl
and_false false = refl

-- words are the same as so many shapes of a word
words_each : (n : ℕ) (parts : List Shape) → holds_each (replicate n is_word) parts ≡ (nat_eq n (length parts) && list_all is_word parts)
words_each zero [] = refl
words_each zero (p ∷ ps) = ap (λ b. b && list_all is_word (p ∷ ps)) (sym (eqb-zero-suc (length ps)))
words_each (suc n) [] = ap (λ b. b && true) (sym (eqb-suc-zero n))
words_each (suc n) (p ∷ ps) =
    ap (λ b. is_word p && b) (words_each n ps)
    ∙ and_swap (is_word p) (nat_eq n (length ps)) (list_all is_word ps)
    ∙ ap (λ b. b && list_all is_word (p ∷ ps)) (sym (eqb-suc-suc n (length ps)))

words_words_each : (n m : ℕ) → holds_each (replicate n is_word) (replicate m shape.Word) ≡ nat_eq n m
words_words_each zero zero = refl
words_words_each zero (suc m) = sym (eqb-zero-suc m)
words_words_each (suc n) zero = sym (eqb-suc-zero n)
words_words_each (suc n) (suc m) =
    ap (λ b. b && holds_each (replicate n is_word) (replicate m shape.Word)) is_word_word
    ∙ words_words_each n m ∙ sym (eqb-suc-suc n m)

-- two shapes, of which the second is a word
same_as_word : (s : Shape) → same s shape.Word ≡ is_word s
same_as_word s = subst (λ s. same s shape.Word ≡ is_word s) (roll-out-Shape s) (at (out-Shape s))
  where
    at : (x : Shape-F Shape) → same (roll-Shape x) shape.Word ≡ is_word (roll-Shape x)
    at open_shape.Word = subst (λ s. same s shape.Word ≡ is_word s) (sym shape.rolls-Word) (same_word shape.Word)
    at (open_shape.Words n) = subst (λ s. same s shape.Word ≡ is_word s) (sym (shape.rolls-Words n)) (same_words_word n ∙ sym (is_word_words n))
    at (open_shape.Group parts) = subst (λ s. same s shape.Word ≡ is_word s) (sym (shape.rolls-Group parts)) (same_group_word parts ∙ sym (is_word_group parts))

each_as_word : (n : ℕ) (parts : List Shape) → holds_each (map same parts) (replicate n shape.Word) ≡ (nat_eq n (length parts) && list_all is_word parts)
each_as_word zero [] = refl
each_as_word zero (p ∷ ps) = ap (λ b. b && list_all is_word (p ∷ ps)) (sym (eqb-zero-suc (length ps)))
each_as_word (suc n) [] = ap (λ b. b && true) (sym (eqb-suc-zero n))
each_as_word (suc n) (p ∷ ps) =
    ap (λ b. b && holds_each (map same ps) (replicate n shape.Word)) (same_as_word p)
    ∙ ap (λ b. is_word p && b) (each_as_word n ps)
    ∙ and_swap (is_word p) (nat_eq n (length ps)) (list_all is_word ps)
    ∙ ap (λ b. b && list_all is_word (p ∷ ps)) (sym (eqb-suc-suc n (length ps)))

pub same_words_words : (n m : ℕ) → same (shape.Words n) (shape.Words m) ≡ nat_eq n m
same_words_words n m = same_words n (shape.Words m) ∙ ap (some_hold (replicate n is_word)) (parts_words m) ∙ words_words_each n m

pub same_words_group : (n : ℕ) (parts : List Shape) → same (shape.Words n) (shape.Group parts) ≡ (nat_eq n (length parts) && list_all is_word parts)
same_words_group n parts = same_words n (shape.Group parts) ∙ ap (some_hold (replicate n is_word)) (parts_group parts) ∙ words_each n parts

pub same_group_words : (n : ℕ) (parts : List Shape) → same (shape.Group parts) (shape.Words n) ≡ (nat_eq n (length parts) && list_all is_word parts)
same_group_words n parts = same_group parts (shape.Words n) ∙ ap (some_hold (map same parts)) (parts_words n) ∙ each_as_word n parts

pub same_group_group : (parts others : List Shape) → same (shape.Group parts) (shape.Group others) ≡ holds_each (map same parts) others
same_group_group parts others = same_group parts (shape.Group others) ∙ ap (some_hold (map same parts)) (parts_group others)

pub each_lengths : (xs ys : List Shape) → length xs ≢ length ys → holds_each (map same xs) ys ≡ false
each_lengths [] [] h = absurd (h refl)
each_lengths [] (y ∷ ys) h = refl
each_lengths (x ∷ xs) [] h = refl
each_lengths (x ∷ xs) (y ∷ ys) h = ap (λ b. same x y && b) (each_lengths xs ys (λ e. h (ap suc e))) ∙ and_false (same x y)

pub ruleset same_rules = (same_word, same_words_word, same_group_word, same_words_words, same_words_group, same_group_words, same_group_group, each_lengths)
