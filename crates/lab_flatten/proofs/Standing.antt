-- Lines whose labels are distinct stand at their places, at every layout.
use Rattle.std.proofs.Common.{◌≡◌, ℕ, ◌+◌, ◌*◌, ◌%◌, ◌<◌, ◌≤◌, refl, sym, ap, ◌∙◌, subst, Bool, true, false, cond, List, [], ◌∷◌, Some, inl, inr, arith}
use Rattle.std.specs.Prelude.{◌⊎◌, ◌==◌, ◌&&◌, ◌||◌, nat_lt}
use Rattle.std.proofs.lemmas.Bool.Decides.{nat_tests}
use Rattle.lab_lang.specs.declared.syntax.Line.{Line}
use Rattle.lab_lang.specs.declared.syntax.Line.TheVariants as line
use Rattle.lab_lang.specs.Layout.{shortest, longest, IsLayout, found, is_label, address}
use Rattle.lab_flatten.proofs.Lines.{Here, Stands}

-- how many instructions a layout has
abbrev pub span : List (ℕ × ℕ) → ℕ
span [] = 0
span (y ∷ ys) = y.1 + span ys

-- the label is among the lines
abbrev pub has_label : List Line → ℕ → Bool
has_label [] l = false
has_label (x ∷ xs) l = is_label x l || has_label xs l

-- no label stands twice
abbrev pub AreDistinct : List Line → Type 0
AreDistinct [] = Unit {0}
AreDistinct (x ∷ xs) = ((l : ℕ) → is_label x l ≡ true → has_label xs l ≡ false) × AreDistinct xs

module _ (lines : List Line) (layout : List (ℕ × ℕ)) where
  -- what stands at an address is the first of the lines that are left
  first_found : (x : Line) (xs : List Line) (y : ℕ × ℕ) (ys : List (ℕ × ℕ)) (at : ℕ) → 0 < y.1 → 0x100000000 + y.0 ≡ at → found (x ∷ xs) (y ∷ ys) at ≡ Some (record { line = x; count = y.1 })
  first_found x xs y ys at some here =
      let test : (nat_lt 0 y.1 && 0x100000000 + y.0 == at) ≡ true = grind (arith, nat_tests) in
      ap (λ b. cond b (Some (record { line = x; count = y.1 })) (found xs ys at)) test

  later_found : (x : Line) (xs : List Line) (y : ℕ × ℕ) (ys : List (ℕ × ℕ)) (place at : ℕ) → y.0 ≡ place → 0x100000000 + (place + 4 * y.1) ≤ at → found (x ∷ xs) (y ∷ ys) at ≡ found xs ys at
  later_found x xs y ys place at here after =
      let test : (nat_lt 0 y.1 && 0x100000000 + y.0 == at) ≡ false = grind (arith, nat_tests) in
      ap (λ b. cond b (Some (record { line = x; count = y.1 })) (found xs ys at)) test

  here_first : (x : Line) (xs : List Line) (y : ℕ × ℕ) (ys : List (ℕ × ℕ)) (place : ℕ) → y.0 ≡ place → place % 4 ≡ 0 → place + 4 * y.1 ≤ 0x30000000 → (y.1 ≡ shortest x) ⊎ (y.1 ≡ longest x)
      → found lines layout (0x100000000 + place) ≡ found (x ∷ xs) (y ∷ ys) (0x100000000 + place)
      → ((l : ℕ) → has_label (x ∷ xs) l ≡ true → address lines layout l ≡ address (x ∷ xs) (y ∷ ys) l) → Here lines layout x y.1 (0x100000000 + place)
  here_first (line.Label l) xs y ys place at whole near counts f a =
      let none : y.1 ≡ 0 = none_of y.1 counts in
      let same : (l == l) ≡ true = grind (arith, nat_tests) in
      (none, a l (ap (λ b. b || has_label xs l) same) ∙ ap (λ b. cond b (Some (0x100000000 + y.0)) (address xs ys l)) same ∙ ap (λ n. Some (0x100000000 + n)) at, omega arith, omega arith)
    where
      none_of : (n : ℕ) → (n ≡ 0) ⊎ (n ≡ 0) → n ≡ 0
      none_of n (inl e) = e
      none_of n (inr e) = e
  here_first (line.Plain i) xs y ys place at whole near counts f a =
      let one : y.1 ≡ 1 = omega (arith, counts) in
      (one, f ∙ first_found (line.Plain i) xs y ys (0x100000000 + place) (omega arith) (ap (λ n. 0x100000000 + n) at))
  here_first (line.Jump l) xs y ys place at whole near counts f a = (counts, f ∙ first_found (line.Jump l) xs y ys (0x100000000 + place) (omega (arith, counts)) (ap (λ n. 0x100000000 + n) at))
  here_first (line.Branch op r1 r2 l) xs y ys place at whole near counts f a = (counts, f ∙ first_found (line.Branch op r1 r2 l) xs y ys (0x100000000 + place) (omega (arith, counts)) (ap (λ n. 0x100000000 + n) at))
  here_first (line.CallTo l) xs y ys place at whole near counts f a =
      (f ∙ first_found (line.CallTo l) xs y ys (0x100000000 + place) (omega (arith, counts)) (ap (λ n. 0x100000000 + n) at), omega (arith, counts), omega arith, omega arith)
  here_first (line.Address rd l) xs y ys place at whole near counts f a = (omega (arith, counts), f ∙ first_found (line.Address rd l) xs y ys (0x100000000 + place) (omega (arith, counts)) (ap (λ n. 0x100000000 + n) at))
  here_first (line.JumpReg r) xs y ys place at whole near counts f a = (omega (arith, counts), f ∙ first_found (line.JumpReg r) xs y ys (0x100000000 + place) (omega (arith, counts)) (ap (λ n. 0x100000000 + n) at))

  later_address : (x : Line) (xs : List Line) (y : ℕ × ℕ) (ys : List (ℕ × ℕ)) (l : ℕ) → ((l : ℕ) → is_label x l ≡ true → has_label xs l ≡ false) → has_label xs l ≡ true → address (x ∷ xs) (y ∷ ys) l ≡ address xs ys l
  later_address x xs y ys l once has = by_test (is_label x l) refl
    where
      by_test : (b : Bool) → is_label x l ≡ b → cond b (Some (0x100000000 + y.0)) (address xs ys l) ≡ address xs ys l
      by_test true is = absurd (true_false (sym has ∙ once l is))
        where
          true_false : true ≡ false → ⊥
          true_false e = cc
      by_test false is = refl

  or_right : (a b : Bool) → b ≡ true → (a || b) ≡ true
  or_right true b h = refl
  or_right false b h = h

  stands_from : (place : ℕ) (xs : List Line) (ys : List (ℕ × ℕ)) → IsLayout place xs ys → AreDistinct xs → place % 4 ≡ 0 → place + 4 * span ys ≤ 0x30000000
      → ((at : ℕ) → 0x100000000 + place ≤ at → found lines layout at ≡ found xs ys at)
      → ((l : ℕ) → has_label xs l ≡ true → address lines layout l ≡ address xs ys l)
      → Stands lines layout (0x100000000 + place) xs (0x100000000 + place + 4 * span ys)
  stands_from place [] [] lay once whole near f a = omega arith
  stands_from place [] (y ∷ ys) lay once whole near f a = absurd lay
  stands_from place (x ∷ xs) [] lay once whole near f a = absurd lay
  stands_from place (x ∷ xs) (y ∷ ys) lay once whole near f a =
      let rest = stands_from (place + 4 * y.1) xs ys lay.2 once.1 (omega arith) (omega arith)
      (λ at after. f at (omega arith) ∙ later_found x xs y ys place at lay.0 after)
      (λ l has. a l (or_right (is_label x l) (has_label xs l) has) ∙ later_address x xs y ys l once.0 has) in
      let from : 0x100000000 + (place + 4 * y.1) ≡ 0x100000000 + place + 4 * y.1 = omega arith in
      let to : 0x100000000 + (place + 4 * y.1) + 4 * span ys ≡ 0x100000000 + place + 4 * (y.1 + span ys) = omega arith in (
        y.1,
        here_first x xs y ys place lay.0 whole (omega arith) lay.1 (f (0x100000000 + place) (omega arith)) a,
        subst (λ n. Stands lines layout n xs (0x100000000 + place + 4 * (y.1 + span ys))) from (subst (Stands lines layout (0x100000000 + (place + 4 * y.1)) xs) to rest),
      )

-- lines stand in themselves
pub all_stand : (lines : List Line) (layout : List (ℕ × ℕ)) → IsLayout 0 lines layout → AreDistinct lines → 4 * span layout ≤ 0x30000000 → Stands lines layout 0x100000000 lines (0x100000000 + 4 * span layout)
all_stand lines layout lay once near = stands_from lines layout 0 lines layout lay once refl (omega arith) (λ at after. refl) (λ l has. refl)
