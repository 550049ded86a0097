-- Flags for variables, set one after another.
use Rattle.std.proofs.Common.{◌≡◌, ℕ, zero, suc, ◌+◌, ◌<◌, Bool, true, false, List, [], ◌∷◌, length, drop, get_or, set, arith, refl, sym, ap, subst, ◌∙◌}
use Rattle.std.specs.Prelude.{max, nat_eq, ◌||◌}
use Rattle.std.proofs.lemmas.Bool.Decides.{nat_tests}
use Rattle.std.proofs.lemmas.List.{length-set, get_or-set_same, get_or-set_other, at_drop_more}
use Rattle.pan_flow.specs.Flow.{has}
use Rattle.pan_flow.specs.Functions.{above}
use Rattle.word_select.specs.Pruned.{is_set}
use Rattle.word_select.proofs.Above.{same}

-- each of a row is below a number that is above them
pub item_below : (xs : List ℕ) (i : ℕ) → i < length xs → get_or xs i 0 < above xs
item_below [] i l = absurd (omega (arith, l))
item_below (x ∷ xs) zero l = first
  where
    first : x < max (suc x) (above xs)
    first = omega arith
item_below (x ∷ xs) (suc i) l = later (item_below xs i (omega (arith, l)))
  where
    later : get_or xs i 0 < above xs → get_or xs i 0 < max (suc x) (above xs)
    later k = omega (arith, k)

flag_set : (flags : List Bool) (x y : ℕ) → x < length flags → is_set (set flags x true) y ≡ (nat_eq y x || is_set flags y)
flag_set flags x y l = by (nat_eq y x) refl
  where
    by : (b : Bool) → nat_eq y x ≡ b → get_or (set flags x true) y false ≡ (b || get_or flags y false)
    by true e = ap (λ n. get_or (set flags x true) n false) (same y x e) ∙ get_or-set_same flags x true false l
    by false e = get_or-set_other flags x y true false (λ k. grind (arith, nat_tests))

or_turned : (a b c : Bool) → ((a || b) || c) ≡ (b || (a || c))
or_turned true true c = refl
or_turned true false c = refl
or_turned false true c = refl
or_turned false false c = refl

-- There is a flag for each of a row, and those that are still to be set complete what is set.
abbrev pub Flagged : List ℕ → List Bool → ℕ → Type 0
Flagged xs flags i = (length flags ≡ above xs) × ((y : ℕ) → (is_set flags y || has (drop i xs) y) ≡ has xs y)

pub flags_more : (xs : List ℕ) (i : ℕ) (flags new : List Bool) → i < length xs → new ≡ set flags (get_or xs i 0) true → Flagged xs flags i → Flagged xs new (i + 1)
flags_more xs i flags new l is h =
    let x = get_or xs i 0 in
    let low = item_below xs i l in
    let long = h.0 in
    subst (λ fs. Flagged xs fs (i + 1)) (sym is) (
      length-set flags x true ∙ long,
      λ y.
          ap (λ b. b || has (drop (i + 1) xs) y) (flag_set flags x y (omega (arith, low, long)))
          ∙ or_turned (nat_eq y x) (is_set flags y) (has (drop (i + 1) xs) y) ∙ ap (λ b. is_set flags y || b) (sym (at_drop_more (λ ys. has ys y) xs i 0 l)) ∙ h.1 y,
    )
