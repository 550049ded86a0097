-- The place of the first rule that passes a test.
use Rattle.std.proofs.Common.{◌≡◌, ℕ, zero, suc, ◌+◌, ◌<◌, Bool, true, false, ◌||◌, cond, List, [], ◌∷◌, ◌++◌, length, get_or, set, Option, Some, None, is_some, refl, ap, ◌∙◌, arith}
use Rattle.std.specs.List.{list_any}
use Rattle.std.specs.Option.{option_map}
use Rattle.device_script.specs.declared.rules.Rule.{Rule}
use Rattle.device_script.specs.Index.{place_where}

abbrev pub next : Option ℕ → Option ℕ
next o = option_map (λ i. i + 1) o

pub next_none : (o : Option ℕ) → next o ≡ None → o ≡ None
next_none None e = refl
next_none (Some i) e = absurd (cc)

pub next_some : (o : Option ℕ) (i : ℕ) → next o ≡ Some i → (j : ℕ) × (o ≡ Some j) × (i ≡ j + 1)
next_some None i e = absurd (cc)
next_some (Some j) i e = (j, refl, cc)

-- some rule passes where one has a place
pub is_some-place_where : (test : Rule → Bool) (rs : List Rule) → is_some (place_where test rs) ≡ list_any test rs
is_some-place_where test [] = refl
is_some-place_where test (r ∷ rs) = by (test r) (is_some-place_where test rs)
  where
    later : (o : Option ℕ) → is_some (next o) ≡ is_some o
    later None = refl
    later (Some i) = refl

    by : (t : Bool) → is_some (place_where test rs) ≡ list_any test rs → is_some (cond t (Some 0) (next (place_where test rs))) ≡ (t || list_any test rs)
    by true e = refl
    by false e = later (place_where test rs) ∙ e

none_of : (o : Option ℕ) → is_some o ≡ false → o ≡ None
none_of None e = refl
none_of (Some i) e = absurd (cc)

pub place_where-none : (test : Rule → Bool) (rs : List Rule) → list_any test rs ≡ false → place_where test rs ≡ None
place_where-none test rs e = none_of (place_where test rs) (is_some-place_where test rs ∙ e)

-- a rule more that doesn't pass
pub place_where-push_other : (test : Rule → Bool) (rs : List Rule) (r : Rule) → test r ≡ false → place_where test (rs ++ r ∷ []) ≡ place_where test rs
place_where-push_other test [] r other = ap (λ t. cond t (Some 0) None) other
place_where-push_other test (s ∷ rs) r other = ap (λ o. cond (test s) (Some 0) (next o)) (place_where-push_other test rs r other)

-- the first rule that passes
pub place_where-push : (test : Rule → Bool) (rs : List Rule) (r : Rule) → place_where test rs ≡ None → test r ≡ true → place_where test (rs ++ r ∷ []) ≡ Some (length rs)
place_where-push test [] r none passes = ap (λ t. cond t (Some 0) None) passes
place_where-push test (s ∷ rs) r none passes = by (test s) (λ none. place_where-push test rs r none passes) none
  where
    by : (t : Bool) → (place_where test rs ≡ None → place_where test (rs ++ r ∷ []) ≡ Some (length rs)) → cond t (Some 0) (next (place_where test rs)) ≡ None → cond t (Some 0) (next (place_where test (rs ++ r ∷ []))) ≡ Some (length (s ∷ rs))
    by true others none = absurd (cc)
    by false others none =
        let more : length rs + 1 ≡ length (s ∷ rs) = omega arith in
        ap next (others (next_none (place_where test rs) none)) ∙ ap Some more

-- a rule in the place of one that passes the same tests
pub place_where-set : (test : Rule → Bool) (rs : List Rule) (i : ℕ) (r d : Rule) → test r ≡ test (get_or rs i d) → place_where test (set rs i r) ≡ place_where test rs
place_where-set test [] i r d same = refl
place_where-set test (s ∷ rs) zero r d same = ap (λ t. cond t (Some 0) (next (place_where test rs))) same
place_where-set test (s ∷ rs) (suc i) r d same = ap (λ o. cond (test s) (Some 0) (next o)) (place_where-set test rs i r d same)

-- it's the place of a rule
pub place_where-within : (test : Rule → Bool) (rs : List Rule) (i : ℕ) → place_where test rs ≡ Some i → i < length rs
place_where-within test [] i some = absurd (cc)
place_where-within test (r ∷ rs) i some = by (test r) (λ j. place_where-within test rs j) some
  where
    by : (t : Bool) → ((j : ℕ) → place_where test rs ≡ Some j → j < length rs) → cond t (Some 0) (next (place_where test rs)) ≡ Some i → i < length (r ∷ rs)
    by true others some =
        let first : 0 ≡ i = cc in
        omega (arith, first)
    by false others some =
        let n = next_some (place_where test rs) i some in
        omega (arith, n.2, others n.0 n.1)
