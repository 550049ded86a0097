-- Values that are read from local memory.
use Rattle.std.proofs.Common.{◌≡◌, ℕ, zero, suc, ◌+◌, ◌-◌, ◌*◌, ◌^◌, ◌<◌, ◌≤◌, min, Bool, false, List, [], ◌∷◌, take, drop, Option, Some, None, add-one, inl, inr, refl, sym, ap, ◌∙◌, arith}
use Rattle.std.specs.Prelude.{option_map, option_and_then, if◌then◌else◌}
use Rattle.std.specs.Int.{w64, from_le_bytes}
use Rattle.std.proofs.Math.Nat.{mod-eq_of_lt}
use Rattle.std.proofs.lemmas.Bool.{cases_lt}
use Rattle.std.proofs.lemmas.Bool.Decides.{nat_tests}
use Rattle.pan_base.specs.Words.{base_address, bytes_in_word}
use Rattle.pan_control.specs.Memory.{is_local_word, next_word, word_at, words_at}
use Rattle.pan_tree.specs.declared.shape.Shape.{Shape}
use Rattle.pan_tree.specs.declared.shape.Shape.TheVariants as shape
use Rattle.pan_tree.specs.Shapes.{filled, words_of}
use Rattle.pan_tree.specs.Value.{Value as Meant, word_of}
use Rattle.pan_tree.specs.Meaning.{as_word}
use Rattle.pan_tree.proofs.ShapeLayers.{words_word}
use Rattle.pan_runner.specs.Evaluating.{loaded}
use Rattle.pan_runner.proofs.FillLemmas.{filling_word, filling_words, filling_group}

-- ---- the word of such a value

none_given : (o : Option (List ℕ)) (s : Shape) → ((ns : List ℕ) → word_of (filled s ns) ≡ None) → as_word (option_map (filled s) o) ≡ None
none_given None s none = refl
none_given (Some ns) s none = none ns

pub loaded_words : (n : ℕ) (m : List ℕ) (a : ℕ) → as_word (loaded (shape.Words n) m (Some a)) ≡ None
loaded_words n m a = none_given (words_at m a (words_of (shape.Words n))) (shape.Words n) (λ ns. ap (λ p. word_of p.0) (filling_words n ns))

pub loaded_group : (shapes : List Shape) (m : List ℕ) (a : ℕ) → as_word (loaded (shape.Group shapes) m (Some a)) ≡ None
loaded_group shapes m a = none_given (words_at m a (words_of (shape.Group shapes))) (shape.Group shapes) (λ ns. ap (λ p. word_of p.0) (filling_group shapes ns))

first_word : (o : Option ℕ) → as_word (option_map (filled shape.Word) (option_and_then (λ a. option_map (λ others. a ∷ others) (Some [])) o)) ≡ o
first_word None = refl
first_word (Some n) = ap (λ p. word_of p.0) (filling_word (n ∷ []))

pub loaded_word : (m : List ℕ) (a : ℕ) → as_word (loaded shape.Word m (Some a)) ≡ word_at m a
loaded_word m a = ap (λ n. as_word (option_map (filled shape.Word) (words_at m a n))) words_word ∙ first_word (word_at m a)

pub ruleset load_rules = (loaded_word, loaded_words, loaded_group)

-- ---- so many words that no number counts them

behind_none : (o : Option ℕ) (others : Option (List ℕ)) → others ≡ None → option_and_then (λ a. option_map (λ ns. a ∷ ns) others) o ≡ None
behind_none None others none = refl
behind_none (Some a) others none = ap (option_map (λ ns. a ∷ ns)) none

-- there is no word below local memory
below_none : (m : List ℕ) (addr k : ℕ) → addr < base_address → words_at m addr (suc k) ≡ None
below_none m addr k low =
    let test : is_local_word m addr ≡ false = grind (arith, nat_tests) in
    ap (λ (b : Bool). let first : Option ℕ = if b then Some (from_le_bytes w64 (take bytes_in_word (drop (addr - base_address) m))) else None in option_and_then (λ a. option_map (λ ns. a ∷ ns) (words_at m (next_word addr) k)) first) test

-- words that go on to the last address don't go on from there
words_none : (m : List ℕ) (k addr : ℕ) → addr < 2 ^ 64 → 2 ^ 64 ≤ addr + 8 * k → words_at m addr (suc k) ≡ None
words_none m zero addr word far = absurd (omega arith)
words_none m (suc k) addr word far =
    behind_none (word_at m addr) (words_at m (next_word addr) (suc k))
    (
    elim (cases_lt (addr + 8) (2 ^ 64)) [
      | inl on ↦ ap (λ a. words_at m a (suc k)) (mod-eq_of_lt on) ∙ words_none m k (addr + 8) on (omega arith)
      | inr round ↦ below_none m (next_word addr) k (omega arith)
    ]
    )

words_far : (m : List ℕ) (addr n : ℕ) → addr < 2 ^ 64 → 2 ^ 64 - 1 ≤ n → words_at m addr n ≡ None
words_far m addr n word far =
    let k = n - 1 in
    let is : n ≡ k + 1 = omega arith in
    rw (is, add-one) (words_none m k addr word (omega arith))

words_capped : (m : List ℕ) (addr n k : ℕ) → addr < 2 ^ 64 → k ≡ min n (2 ^ 64 - 1) → words_at m addr k ≡ words_at m addr n
words_capped m addr n k word is =
    elim (cases_lt n (2 ^ 64 - 1)) [
      | inl few ↦ (let same : k ≡ n = omega arith in ap (words_at m addr) same)
      | inr many ↦ words_far m addr k word (omega arith) ∙ sym (words_far m addr n word many)
    ]

-- ---- as the code finds them

module _ (s : Shape) (m : List ℕ) (a k : ℕ) (word : a < 2 ^ 64) (count : k ≡ min (words_of s) (2 ^ 64 - 1)) where
  as_counted : loaded s m (Some a) ≡ option_map (filled s) (words_at m a k)
  as_counted = ap (option_map (filled s)) (sym (words_capped m a (words_of s) k word count))

  pub loaded_some : (ns : List ℕ) (v : Meant) → words_at m a k ≡ Some ns → v ≡ filled s ns → loaded s m (Some a) ≡ Some v
  loaded_some ns v here fills = as_counted ∙ ap (option_map (filled s)) here ∙ ap Some (sym fills)

  pub loaded_none : words_at m a k ≡ None → loaded s m (Some a) ≡ None
  loaded_none none = as_counted ∙ ap (option_map (filled s)) none
