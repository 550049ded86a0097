-- Parts of shapes, at each variant.
use Rattle.std.proofs.Common.{◌≡◌, ℕ, ◌+◌, ◌<◌, ◌≤◌, List, [], ◌∷◌, length, replicate, get_or, drop, refl, sym, ap, ◌∙◌, drop-cons, add-one, arith}
use Rattle.std.proofs.lemmas.List.{length-replicate, get_or-replicate}
use Rattle.std.proofs.lemmas.Option.{slice_get-get_or, slice_get_read, slice_get_past}
use Rattle.pan_tree.specs.declared.shape.Shape.{Shape}
use Rattle.pan_tree.specs.declared.shape.Shape.TheVariants as shape
use Rattle.pan_tree.specs.Shapes.{Part, APart, OfWord, NoPart, part_at, part_among, parts_of, found}
use Rattle.pan_tree.proofs.ShapeLayers.{parts_word, parts_words, parts_group}

pub of_word : (is : List ℕ) → part_at OfWord is ≡ OfWord
of_word [] = refl
of_word (i ∷ is) = refl

pub no_part : (is : List ℕ) → part_at NoPart is ≡ NoPart
no_part [] = refl
no_part (i ∷ is) = refl

-- a part of a part
pub next_part : (s at : Shape) (path : List ℕ) (i : ℕ) (part : Part) → part_at (APart at) (drop i path) ≡ part_at (APart s) path → i < length path → part_among (parts_of at) (get_or path i 0) ≡ part
    → part_at part (drop (i + 1) path) ≡ part_at (APart s) path
next_part s at path i part known h e =
    sym (ap (λ q. part_at q (drop (i + 1) path)) e)
    ∙ sym (ap (part_at (APart at)) (drop-cons path i 0 h ∙ ap (λ n. get_or path i 0 ∷ drop n path) (sym (add-one i))))
    ∙ known

-- ---- the part of this number

pub among_word : (at : Shape) (i : ℕ) → at ≡ shape.Word → part_among (parts_of at) i ≡ OfWord
among_word at i e = ap (λ s. part_among (parts_of s) i) e ∙ ap (λ q. part_among q i) parts_word

pub among_words : (at : Shape) (n i : ℕ) → at ≡ shape.Words n → i < n → part_among (parts_of at) i ≡ APart shape.Word
among_words at n i e h =
    let within : i < length (replicate n shape.Word) = omega (arith, h, length-replicate n shape.Word) in
    ap (λ s. part_among (parts_of s) i) e ∙ ap (λ q. part_among q i) (parts_words n)
    ∙ ap found (slice_get-get_or (replicate n shape.Word) i shape.Word within) ∙ ap APart (get_or-replicate n i shape.Word shape.Word h)

pub past_words : (at : Shape) (n i : ℕ) → at ≡ shape.Words n → n ≤ i → part_among (parts_of at) i ≡ NoPart
past_words at n i e h =
    let past : length (replicate n shape.Word) ≤ i = omega (arith, h, length-replicate n shape.Word) in
    ap (λ s. part_among (parts_of s) i) e ∙ ap (λ q. part_among q i) (parts_words n) ∙ ap found (slice_get_past (replicate n shape.Word) i past)

pub among_group : (at : Shape) (parts : List Shape) (i : ℕ) (s : Shape) → at ≡ shape.Group parts → i < length parts → s ≡ get_or parts i s → part_among (parts_of at) i ≡ APart s
among_group at parts i s e h is =
    ap (λ s. part_among (parts_of s) i) e ∙ ap (λ q. part_among q i) (parts_group parts) ∙ ap found (slice_get_read parts (length parts) i s refl h is)

pub past_group : (at : Shape) (parts : List Shape) (i : ℕ) → at ≡ shape.Group parts → length parts ≤ i → part_among (parts_of at) i ≡ NoPart
past_group at parts i e h = ap (λ s. part_among (parts_of s) i) e ∙ ap (λ q. part_among q i) (parts_group parts) ∙ ap found (slice_get_past parts i h)
