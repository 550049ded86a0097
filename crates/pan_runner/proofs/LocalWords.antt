-- Words of local memory, one after another.
use Rattle.std.proofs.Common.{◌≡◌, ℕ, ◌+◌, ◌<◌, List, [], ◌∷◌, ◌++◌, length, get_or, drop, Option, Some, None, add-one, refl, sym, ap, subst, append_assoc, ◌∙◌}
use Rattle.std.proofs.lemmas.List.{append-nil, drop_more}
use Rattle.std.specs.Bool.{OnTrue, OnFalse}
use Rattle.std.specs.Option.{is_some}
use Rattle.std.specs.Prelude.{option_map, option_and_then}
use Rattle.pan_control.specs.Memory.{next_word, word_at, words_at, with_word, with_words}
use Rattle.pan_tree.specs.Value.{words_in}
use Rattle.pan_runner.specs.declared.value.Value.{Value}
use Rattle.pan_runner.specs.declared.value.Value.TheVariants as value
use Rattle.pan_runner.specs.Told.{told}
use Rattle.pan_runner.specs.Stored.{words_in_each, stored_on, IsStored}
use Rattle.pan_runner.proofs.ToldLayers.{told_word, told_struct}

-- ---- loads

-- words that follow these
abbrev pub behind : List ℕ → Option (List ℕ) → Option (List ℕ)
behind ws o = option_map (λ others. ws ++ others) o

behind_more : (ws : List ℕ) (n : ℕ) (o : Option (List ℕ)) → behind ws (option_map (λ others. n ∷ others) o) ≡ behind (ws ++ n ∷ []) o
behind_more ws n None = refl
behind_more ws n (Some others) = ap Some (sym (append_assoc ws (n ∷ []) others))

-- the words from the address on, of which the first is this, if it is there
abbrev from_first : List ℕ → List ℕ → ℕ → ℕ → Option ℕ → Option (List ℕ)
from_first ws m at n first = behind ws (option_and_then (λ a. option_map (λ others. a ∷ others) (words_at m (next_word at) n)) first)

pub word_missing : (ws m : List ℕ) (at n k : ℕ) → n ≡ k + 1 → word_at m at ≡ None → behind ws (words_at m at n) ≡ None
word_missing ws m at n k is missing = rw (is, add-one) (ap (from_first ws m at k) missing)

pub word_loaded : (ws m : List ℕ) (at n k a : ℕ) → n ≡ k + 1 → word_at m at ≡ Some a → behind ws (words_at m at n) ≡ behind (ws ++ a ∷ []) (words_at m (next_word at) k)
word_loaded ws m at n k a is loaded = rw (is, add-one) (ap (from_first ws m at k) loaded ∙ behind_more ws a (words_at m (next_word at) k))

-- ---- stores

word_stored : (m after : List ℕ) (addr n : ℕ) → with_word m addr n ≡ Some after → IsStored m addr (n ∷ []) after (Some (next_word addr))
word_stored m after addr n is more = ap (option_and_then (λ m. with_words m (next_word addr) more)) is

word_refused : (m after : List ℕ) (addr n : ℕ) → with_word m addr n ≡ None → IsStored m addr (n ∷ []) after None
word_refused m after addr n is more = ap (option_and_then (λ m. with_words m (next_word addr) more)) is

-- a value that is a word, and one that is a struct
module _ (v : Value) (m after : List ℕ) (addr : ℕ) where
  pub value_stored : (n : ℕ) → v ≡ value.Word n → with_word m addr n ≡ Some after → IsStored m addr (words_in (told v)) after (Some (next_word addr))
  value_stored n is done = subst (λ ns. IsStored m addr ns after (Some (next_word addr))) (sym (ap (λ v. words_in (told v)) is ∙ ap words_in (told_word n))) (word_stored m after addr n done)

  pub value_refused : (n : ℕ) → v ≡ value.Word n → with_word m addr n ≡ None → IsStored m addr (words_in (told v)) after None
  value_refused n is refused = subst (λ ns. IsStored m addr ns after None) (sym (ap (λ v. words_in (told v)) is ∙ ap words_in (told_word n))) (word_refused m after addr n refused)

  pub struct_stored : (parts : List Value) (next : Option ℕ) → v ≡ value.Struct parts → IsStored m addr (words_in_each parts) after next → IsStored m addr (words_in (told v)) after next
  struct_stored parts next is done = subst (λ ns. IsStored m addr ns after next) (sym (ap (λ v. words_in (told v)) is ∙ ap words_in (told_struct parts))) done

-- one more of the values
pub each_stored : (m after : List ℕ) (addr : ℕ) (vs : List Value) (i : ℕ) (v : Value) (next : Option ℕ) → i < length vs → v ≡ get_or vs i v → IsStored m addr (words_in (told v)) after next
    → (more : List ℕ) → with_words m addr (words_in_each (drop i vs) ++ more) ≡ stored_on after next (words_in_each (drop (i + 1) vs) ++ more)
each_stored m after addr vs i v next within is done more =
    ap (λ vs. with_words m addr (words_in_each vs ++ more)) (drop_more vs i v within ∙ ap (λ w. w ∷ drop (i + 1) vs) (sym is))
    ∙ ap (with_words m addr) (append_assoc (words_in (told v)) (words_in_each (drop (i + 1) vs)) more)
    ∙ done (words_in_each (drop (i + 1) vs) ++ more)

-- all of the words
pub all_stored : (m after : List ℕ) (addr : ℕ) (ns : List ℕ) (next : Option ℕ) → IsStored m addr ns after next → OnTrue (is_some next) (with_words m addr ns ≡ Some after)
all_stored m after addr ns None done = tt
all_stored m after addr ns (Some n) done = ap (with_words m addr) (sym (append-nil ns)) ∙ done []

pub some_refused : (m after : List ℕ) (addr : ℕ) (ns : List ℕ) (next : Option ℕ) → IsStored m addr ns after next → OnFalse (is_some next) (with_words m addr ns ≡ None)
some_refused m after addr ns None done = ap (with_words m addr) (sym (append-nil ns)) ∙ done []
some_refused m after addr ns (Some n) done = tt
