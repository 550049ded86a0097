-- Shapes whose spread shapes are equal have as many words, and are the same as the same shapes.
use Rattle.std.proofs.Common.{◌≡◌, ℕ, zero, suc, ◌+◌, Bool, true, false, ◌&&◌, List, [], ◌∷◌, map, sum, replicate, Option, Some, None, slice_get, refl, sym, ap, subst, arith, ◌∙◌}
use Rattle.std.specs.Prelude.{option_map}
use Rattle.std.proofs.lemmas.List.Sums.{sum_by-cons}
use Rattle.std.proofs.lemmas.Option.{slice_get-map}
use Rattle.pan_tree.specs.Shapes.{words_of, parts_of, Part, APart, OfWord, NoPart, part_at, part_among, found, is_none, is_word, holds_each, some_hold, same}
use Rattle.pan_tree.specs.Check.{part_shape, is_of_word, is_no_part}
use Rattle.pan_tree.specs.declared.shape.Shape.{Shape, Shape-F, roll-Shape, map-Shape}
use Rattle.pan_tree.specs.declared.shape.Shape.TheOpen as open_shape
use Rattle.pan_tree.specs.declared.shape.Shape.TheVariants as shape
use Rattle.pan_tree.proofs.ShapeLayers.{words_word, words_words, words_group, parts_group, is_word_word, same_word, same_words, same_group}
use Rattle.check_soundness.specs.Spread.{spread}
use Rattle.check_soundness.proofs.SpreadShapes.{shape_induct, spread_word, spread_words, spread_group, spread_parts, same_spread}

pub sum_more : (n : ℕ) (ns : List ℕ) → sum (n ∷ ns) ≡ n + sum ns
sum_more n ns = sum_by-cons (λ x. x) n ns

-- ---- words

abbrev AsLong : Shape → Type 0
AsLong s = words_of (spread s) ≡ words_of s

abbrev Known : Type 0
Known = (s : Shape) × AsLong s

ones : (n : ℕ) → sum (map words_of (replicate n shape.Word)) ≡ n
ones zero = refl
ones (suc n) = sum_more (words_of shape.Word) (map words_of (replicate n shape.Word)) ∙ ap (λ k. k + sum (map words_of (replicate n shape.Word))) words_word ∙ ap (λ k. 1 + k) (ones n) ∙ omega arith

all_long : (ss : List Known) → sum (map words_of (map spread (map (λ (c : Known). c.0) ss))) ≡ sum (map words_of (map (λ (c : Known). c.0) ss))
all_long [] = refl
all_long (s ∷ ss) =
    let xs = map (λ (c : Known). c.0) ss in
    sum_more (words_of (spread s.0)) (map words_of (map spread xs)) ∙ ap (λ k. k + sum (map words_of (map spread xs))) s.1 ∙ ap (λ k. words_of s.0 + k) (all_long ss) ∙ sym (sum_more (words_of s.0) (map words_of xs))

layer_long : (y : Shape-F Known) → AsLong (roll-Shape (map-Shape Known Shape (λ c. c.0) y))
layer_long open_shape.Word = subst AsLong (sym shape.rolls-Word) (ap words_of spread_word)
layer_long (open_shape.Words n) = subst AsLong (sym (shape.rolls-Words n)) (ap words_of (spread_words n) ∙ words_group (replicate n shape.Word) ∙ ones n ∙ sym (words_words n))
layer_long (open_shape.Group ss) =
    let xs = map (λ (c : Known). c.0) ss in
    subst AsLong (sym (shape.rolls-Group xs)) (ap words_of (spread_group xs) ∙ words_group (map spread xs) ∙ all_long ss ∙ sym (words_group xs))

pub spread_size : (s : Shape) → words_of (spread s) ≡ words_of s
spread_size = shape_induct AsLong layer_long

pub same_size : (s t : Shape) → spread s ≡ spread t → words_of s ≡ words_of t
same_size s t e = sym (spread_size s) ∙ ap words_of e ∙ spread_size t

-- ---- a word

spread_is_word : (s : Shape) → is_word (spread s) ≡ is_word s
spread_is_word s = ap is_none (spread_parts s) ∙ by (parts_of s)
  where
    by : (o : Option (List Shape)) → is_none (option_map (map spread) o) ≡ is_none o
    by None = refl
    by (Some ss) = refl

pub same_is_word : (s t : Shape) → spread s ≡ spread t → is_word s ≡ is_word t
same_is_word s t e = sym (spread_is_word s) ∙ ap is_word e ∙ spread_is_word t

-- ---- the same

abbrev IsSame : Shape → Type 0
IsSame s = (t : Shape) → spread s ≡ spread t → same s t ≡ true

abbrev KnownSame : Type 0
KnownSame = (s : Shape) × IsSame s

words_each : (n : ℕ) (ts : List Shape) → replicate n shape.Word ≡ map spread ts → holds_each (replicate n is_word) ts ≡ true
words_each zero [] e = refl
words_each zero (t ∷ ts) e = absurd cc
words_each (suc n) [] e = absurd cc
words_each (suc n) (t ∷ ts) e =
    let head : shape.Word ≡ spread t = cc in
    let tail : replicate n shape.Word ≡ map spread ts = cc in
    ap (λ b. b && holds_each (replicate n is_word) ts) (sym (spread_is_word t) ∙ ap is_word (sym head) ∙ is_word_word) ∙ words_each n ts tail

parts_each : (ss : List KnownSame) (ts : List Shape) → map spread (map (λ (c : KnownSame). c.0) ss) ≡ map spread ts → holds_each (map same (map (λ (c : KnownSame). c.0) ss)) ts ≡ true
parts_each [] [] e = refl
parts_each [] (t ∷ ts) e = absurd cc
parts_each (s ∷ ss) [] e = absurd cc
parts_each (s ∷ ss) (t ∷ ts) e =
    let head : spread s.0 ≡ spread t = cc in
    let tail : map spread (map (λ (c : KnownSame). c.0) ss) ≡ map spread ts = cc in
    ap (λ b. b && holds_each (map same (map (λ (c : KnownSame). c.0) ss)) ts) (s.1 t head) ∙ parts_each ss ts tail

-- a shape whose spread shape is a group has parts whose spread shapes are those of the group
group_parts : (ss : List Shape) (t : Shape) → shape.Group ss ≡ spread t → Some ss ≡ option_map (map spread) (parts_of t)
group_parts ss t e = sym (parts_group ss) ∙ ap parts_of e ∙ spread_parts t

layer_same : (y : Shape-F KnownSame) → IsSame (roll-Shape (map-Shape KnownSame Shape (λ c. c.0) y))
layer_same open_shape.Word = subst IsSame (sym shape.rolls-Word) (λ t e. same_word t ∙ sym (same_is_word shape.Word t e) ∙ is_word_word)
layer_same (open_shape.Words n) = subst IsSame (sym (shape.rolls-Words n)) (λ t e. same_words n t ∙ by (parts_of t) (group_parts (replicate n shape.Word) t (sym (spread_words n) ∙ e)))
  where
    by : (o : Option (List Shape)) → Some (replicate n shape.Word) ≡ option_map (map spread) o → some_hold (replicate n is_word) o ≡ true
    by None e = absurd cc
    by (Some ts) e = let inner : replicate n shape.Word ≡ map spread ts = cc in words_each n ts inner
layer_same (open_shape.Group ss) =
    let xs = map (λ (c : KnownSame). c.0) ss in
    subst IsSame (sym (shape.rolls-Group xs)) (λ t e. same_group xs t ∙ by (parts_of t) (group_parts (map spread xs) t (sym (spread_group xs) ∙ e)))
  where
    by : (o : Option (List Shape)) → Some (map spread (map (λ (c : KnownSame). c.0) ss)) ≡ option_map (map spread) o → some_hold (map same (map (λ (c : KnownSame). c.0) ss)) o ≡ true
    by None e = absurd cc
    by (Some ts) e = let inner : map spread (map (λ (c : KnownSame). c.0) ss) ≡ map spread ts = cc in parts_each ss ts inner

pub spread_same : (s t : Shape) → spread s ≡ spread t → same s t ≡ true
spread_same = shape_induct IsSame layer_same

pub same_alike : (s t s' t' : Shape) → spread s ≡ spread s' → spread t ≡ spread t' → same s t ≡ same s' t'
same_alike s t s' t' e f = by (same s t) (same s' t') refl refl
  where
    by : (a b : Bool) → same s t ≡ a → same s' t' ≡ b → a ≡ b
    by true true g h = refl
    by false false g h = refl
    by true false g h = let no : true ≡ false = sym (spread_same s' t' (sym e ∙ same_spread s t g ∙ f)) ∙ h in absurd cc
    by false true g h = let no : true ≡ false = sym (spread_same s t (e ∙ same_spread s' t' h ∙ sym f)) ∙ g in absurd cc

-- ---- parts of parts

abbrev pub spread_part : Part → Part
spread_part (APart s) = APart (spread s)
spread_part OfWord = OfWord
spread_part NoPart = NoPart

step_spread : (s : Shape) (i : ℕ) → part_among (parts_of (spread s)) i ≡ spread_part (part_among (parts_of s) i)
step_spread s i = ap (λ o. part_among o i) (spread_parts s) ∙ at (parts_of s)
  where
    one : (o : Option Shape) → found (option_map spread o) ≡ spread_part (found o)
    one None = refl
    one (Some t) = refl

    at : (o : Option (List Shape)) → part_among (option_map (map spread) o) i ≡ spread_part (part_among o i)
    at None = refl
    at (Some ss) = ap found (slice_get-map spread ss i) ∙ one (slice_get ss i)

pub part_spread : (p : Part) (is : List ℕ) → part_at (spread_part p) is ≡ spread_part (part_at p is)
part_spread p [] = refl
part_spread (APart s) (i ∷ is) = ap (λ q. part_at q is) (step_spread s i) ∙ part_spread (part_among (parts_of s) i) is
part_spread OfWord (i ∷ is) = refl
part_spread NoPart (i ∷ is) = refl

pub part_shape_alike : (p q : Part) → spread_part p ≡ spread_part q → spread (part_shape p) ≡ spread (part_shape q)
part_shape_alike (APart s) (APart t) e = cc
part_shape_alike (APart s) OfWord e = absurd cc
part_shape_alike (APart s) NoPart e = absurd cc
part_shape_alike OfWord (APart t) e = absurd cc
part_shape_alike OfWord OfWord e = refl
part_shape_alike OfWord NoPart e = refl
part_shape_alike NoPart (APart t) e = absurd cc
part_shape_alike NoPart OfWord e = refl
part_shape_alike NoPart NoPart e = refl

of_word_spread : (p : Part) → is_of_word (spread_part p) ≡ is_of_word p
of_word_spread (APart s) = refl
of_word_spread OfWord = refl
of_word_spread NoPart = refl

no_part_spread : (p : Part) → is_no_part (spread_part p) ≡ is_no_part p
no_part_spread (APart s) = refl
no_part_spread OfWord = refl
no_part_spread NoPart = refl

pub of_word_alike : (p q : Part) → spread_part p ≡ spread_part q → is_of_word p ≡ is_of_word q
of_word_alike p q e = sym (of_word_spread p) ∙ ap is_of_word e ∙ of_word_spread q

pub no_part_alike : (p q : Part) → spread_part p ≡ spread_part q → is_no_part p ≡ is_no_part q
no_part_alike p q e = sym (no_part_spread p) ∙ ap is_no_part e ∙ no_part_spread q
