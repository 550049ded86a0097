-- Variables that are the same wherever they are used.
use Rattle.std.proofs.Common.{◌≡◌, ◌≢◌, ◌⊎◌, inl, inr, ℕ, Bool, true, false, List, [], ◌∷◌, map, Option, Some, None, arith, refl, sym, ap, ◌∙◌}
use Rattle.std.specs.Prelude.{nat_eq, if◌then◌else◌}
use Rattle.std.proofs.lemmas.Bool.Decides.{nat_tests}
use Rattle.pan_base.specs.Words.{truth}
use Rattle.pan_flow.specs.Flow.{has}
use Rattle.pan_stage.specs.Locals.{Locals, write, write_all}
use Rattle.word_lang.specs.Meaning.{operand, outcome}
use Rattle.word_lang.specs.Text.{variables_of, variables_read}
use Rattle.word_lang.specs.declared.syntax.Test.{Test}
use Rattle.word_select.specs.Pruned.{others}
use Rattle.word_select.proofs.Above.{same, has_here, has_there, has_cases}

-- what is in a row is x, or among the others
pub others_have : (x : ℕ) (ys : List ℕ) (z : ℕ) → has ys z ≡ true → z ≢ x → has (others x ys) z ≡ true
others_have x [] z h ne = h
others_have x (y ∷ ys) z h ne = by (nat_eq y x) refl (has_cases y ys z h) (λ m. others_have x ys z m ne)
  where
    by : (b : Bool) → nat_eq y x ≡ b → (z ≡ y) ⊎ (has ys z ≡ true) → (has ys z ≡ true → has (others x ys) z ≡ true) → has (if b then others x ys else y ∷ others x ys) z ≡ true
    by true e (inl is) later = absurd (ne (is ∙ same y x e))
    by true e (inr m) later = later m
    by false e (inl is) later = has_here y (others x ys) z is
    by false e (inr m) later = has_there y (others x ys) z (later m)

module _ (is_used : ℕ → Bool) where
  -- each of these is used
  abbrev pub AreUsed : List ℕ → Type 0
  AreUsed xs = (z : ℕ) → has xs z ≡ true → is_used z ≡ true

  -- what an operation reads is used, where its variable is
  pub operands_used : (x : ℕ) (ys : List ℕ) → AreUsed (others x ys) → is_used x ≡ true → AreUsed ys
  operands_used x ys all here z h = by (nat_eq z x) refl
    where
      by : (b : Bool) → nat_eq z x ≡ b → is_used z ≡ true
      by true e = ap is_used (same z x e) ∙ here
      by false e = all z (others_have x ys z h (λ k. grind (arith, nat_tests)))

  pub record Alike (v u : Locals) : Type 0 where
    pub at : (z : ℕ) → is_used z ≡ true → u z ≡ v z

  -- both are written alike
  pub alike_write : (x n m : ℕ) (v u : Locals) → (is_used x ≡ true → m ≡ n) → Alike v u → Alike (write x n v) (write x m u)
  alike_write x n m v u e a = record { at = λ z h. by z h (nat_eq z x) refl }
    where
      by : (z : ℕ) → is_used z ≡ true → (b : Bool) → nat_eq z x ≡ b → (if b then m else u z) ≡ (if b then n else v z)
      by z h true is = e (ap is_used (sym (same z x is)) ∙ h)
      by z h false is = a.at z h

  pub alike_write_all : (xs ns : List ℕ) (v u : Locals) → Alike v u → Alike (write_all xs ns v) (write_all xs ns u)
  alike_write_all [] ns v u a = a
  alike_write_all (x ∷ xs) [] v u a = alike_write_all xs [] (write x 0 v) (write x 0 u) (alike_write x 0 0 v u (λ h. refl) a)
  alike_write_all (x ∷ xs) (n ∷ ns) v u a = alike_write_all xs ns (write x n v) (write x n u) (alike_write x n n v u (λ h. refl) a)

  -- the first alone is written, where nothing uses it
  pub alike_without : (x n : ℕ) (v u : Locals) → is_used x ≡ false → Alike v u → Alike (write x n v) u
  alike_without x n v u none a = record { at = λ z h. by z h (nat_eq z x) refl }
    where
      by : (z : ℕ) → is_used z ≡ true → (b : Bool) → nat_eq z x ≡ b → u z ≡ (if b then n else v z)
      by z h true is = absurd (cc (sym h ∙ (ap is_used (same z x is) ∙ none)))
      by z h false is = a.at z h

  pub alike_map : (xs : List ℕ) (v u : Locals) → AreUsed xs → Alike v u → map u xs ≡ map v xs
  alike_map [] v u all a = refl
  alike_map (x ∷ xs) v u all a = ap (λ n. n ∷ map u xs) (a.at x (all x (has_here x xs x refl))) ∙ ap (λ ns. v x ∷ ns) (alike_map xs v u (λ z h. all z (has_there x xs z h)) a)

  -- an operand and a test give the same
  operand_alike : (o : Option ℕ) (v u : Locals) → AreUsed (variables_of (o ∷ [])) → Alike v u → operand o u ≡ operand o v
  operand_alike None v u all a = refl
  operand_alike (Some x) v u all a = a.at x (all x (has_here x [] x refl))

  first_used : (l r : Option ℕ) → AreUsed (variables_of (l ∷ r ∷ [])) → AreUsed (variables_of (l ∷ []))
  first_used None r all z h = absurd (cc h)
  first_used (Some x) r all z h = elim (has_cases x [] z h) [ inl e ↦ all z (has_here x (variables_of (r ∷ [])) z e) | inr m ↦ absurd (cc m) ]

  second_used : (l r : Option ℕ) → AreUsed (variables_of (l ∷ r ∷ [])) → AreUsed (variables_of (r ∷ []))
  second_used None r all z h = all z h
  second_used (Some x) r all z h = all z (has_there x (variables_of (r ∷ [])) z h)

  pub outcome_alike : (y : Test) (v u : Locals) → AreUsed (variables_read y) → Alike v u → outcome y u ≡ outcome y v
  outcome_alike y v u all a =
      ap (λ n. truth y.comparison n (operand y.right u)) (operand_alike y.left v u (first_used y.left y.right all) a)
      ∙ ap (truth y.comparison (operand y.left v)) (operand_alike y.right v u (second_used y.left y.right all) a)
