-- The layout, and the table of labels, made one line after another.
use Rattle.std.proofs.Common.{◌≡◌, ◌≢◌, ℕ, ◌+◌, ◌*◌, ◌<◌, ◌≤◌, refl, sym, ap, ◌∙◌, subst, Bool, true, false, cond, List, [], ◌∷◌, ◌++◌, append_assoc, length, drop, get_or, set, Option, Some, arith}
use Rattle.std.specs.Prelude.{unwrap_or, slice_index, ◌==◌}
use Rattle.std.proofs.lemmas.List.{append-nil, drop_more, drop_all, length-set, get_or-set_same, get_or-set_other}
use Rattle.std.proofs.lemmas.Bool.Decides.{nat_tests}
use Rattle.pan_stage.specs.Sums.{sum_of}
use Rattle.lab_lang.specs.declared.syntax.Line.{Line}
use Rattle.lab_lang.specs.declared.syntax.Line.TheVariants.{Label, Plain, Jump, Branch, CallTo, Address, JumpReg}
use Rattle.lab_lang.specs.Layout.{address_of, is_label, address}
use Rattle.lab_link.specs.Lengths.{laid_out}
use Rattle.lab_link.specs.Turns.{IsTable}

-- a line more of a layout of numbers
pub laid_more : (ns : List ℕ) (i place n : ℕ) (layout new whole : List (ℕ × ℕ)) → i < length ns → n ≡ get_or ns i 0 → new ≡ layout ++ (place, n) ∷ []
    → layout ++ laid_out place (drop i ns) ≡ whole → new ++ laid_out (place + 4 * n) (drop (i + 1) ns) ≡ whole
laid_more ns i place n layout new whole below count grown so_far =
    ap (λ l. l ++ laid_out (place + 4 * n) (drop (i + 1) ns)) grown
    ∙ append_assoc layout ((place, n) ∷ []) _
    ∙ ap (λ m. layout ++ (place, m) ∷ laid_out (place + 4 * m) (drop (i + 1) ns)) count
    ∙ ap (λ ls. layout ++ laid_out place ls) (sym (drop_more ns i 0 below))
    ∙ so_far

pub laid_all : (ns : List ℕ) (i place : ℕ) (layout whole : List (ℕ × ℕ)) → length ns ≤ i → layout ++ laid_out place (drop i ns) ≡ whole → layout ≡ whole
laid_all ns i place layout whole past so_far = sym (append-nil layout) ∙ ap (λ ls. layout ++ laid_out place ls) (sym (drop_all i ns past)) ∙ so_far

sum_more : (ns : List ℕ) (i : ℕ) → i < length ns → sum_of (drop i ns) ≡ get_or ns i 0 + sum_of (drop (i + 1) ns)
sum_more ns i below = ap sum_of (drop_more ns i 0 below)

sum_all : (ns : List ℕ) (i : ℕ) → length ns ≤ i → sum_of (drop i ns) ≡ 0
sum_all ns i past = ap sum_of (drop_all i ns past)

-- so many lines are laid out, by these numbers
pub record IsLaid (ns : List ℕ) (i place : ℕ) (layout : List (ℕ × ℕ)) : Type 0 where
  pub made : layout ++ laid_out place (drop i ns) ≡ laid_out 0 ns
  pub left : place + 4 * sum_of (drop i ns) ≡ 4 * sum_of ns

pub none_laid : (ns : List ℕ) → IsLaid ns 0 0 []
none_laid ns = record { made = refl; left = omega arith }

pub one_laid : (ns : List ℕ) (i place n : ℕ) (layout new : List (ℕ × ℕ)) → i < length ns → n ≡ get_or ns i 0 → new ≡ layout ++ (place, n) ∷ [] → IsLaid ns i place layout → IsLaid ns (i + 1) (place + 4 * n) new
one_laid ns i place n layout new below count grown h = record {
  made = laid_more ns i place n layout new (laid_out 0 ns) below count grown h.made;
  left = let a = sum_more ns i below in let b = h.left in omega arith;
}

pub all_laid : (ns : List ℕ) (i place : ℕ) (layout : List (ℕ × ℕ)) → length ns ≤ i → IsLaid ns i place layout → (layout ≡ laid_out 0 ns) × (place ≡ 4 * sum_of ns)
all_laid ns i place layout past h = (laid_all ns i place layout (laid_out 0 ns) past h.made, let a = sum_all ns i past in let b = h.left in omega arith)

-- ---- the table

-- the places in the table are those of the labels from the line of this number on
abbrev pub HasPlaces : List Line → List (ℕ × ℕ) → ℕ → List ℕ → Type 0
HasPlaces lines layout i table = IsTable (address (drop i lines) (drop i layout)) table

-- the address, by the first line
address_first : (x : Line) (xs : List Line) (y : ℕ × ℕ) (ys : List (ℕ × ℕ)) (i : ℕ) (lines : List Line) (layout : List (ℕ × ℕ)) (l : ℕ) → drop i lines ≡ x ∷ xs → drop i layout ≡ y ∷ ys
    → address (drop i lines) (drop i layout) l ≡ cond (is_label x l) (Some (address_of y.0)) (address xs ys l)
address_first x xs y ys i lines layout l e f = ap (λ ls. address ls (drop i layout) l) e ∙ ap (λ ls. address (x ∷ xs) ls l) f

module _ (lines : List Line) (layout : List (ℕ × ℕ)) (i : ℕ) (d : Line) (z : ℕ × ℕ) (below : i < length lines) (same : length layout ≡ length lines) where
  here : drop i lines ≡ get_or lines i d ∷ drop (i + 1) lines
  here = drop_more lines i d below

  there : drop i layout ≡ get_or layout i z ∷ drop (i + 1) layout
  there = drop_more layout i z (omega arith)

  choice_set : (b : Bool) (o : Option ℕ) (at n : ℕ) → (b ≡ true → n ≡ at) → (b ≡ false → address_of n ≡ unwrap_or o (address_of 0)) → address_of n ≡ unwrap_or (cond b (Some (address_of at)) o) (address_of 0)
  choice_set true o at n p q = ap address_of (p refl)
  choice_set false o at n p q = q refl

  pub table_label : (k : ℕ) (table : List ℕ) → get_or lines i d ≡ Label k → k < length table → HasPlaces lines layout (i + 1) table → HasPlaces lines layout i (set table k (get_or layout i z).0)
  table_label k table is small h l below_l =
      let at = (get_or layout i z).0 in
      let rest = address (drop (i + 1) lines) (drop (i + 1) layout) l in
      let first : address (drop i lines) (drop i layout) l ≡ cond (is_label (Label k) l) (Some (address_of at)) rest =
      address_first (get_or lines i d) (drop (i + 1) lines) (get_or layout i z) (drop (i + 1) layout) i lines layout l here there ∙ ap (λ x. cond (is_label x l) (Some (address_of at)) rest) is in
      let within : l < length table = omega (arith, length-set table k at) in
      choice_set (k == l) rest at (slice_index (set table k at) l)
      (λ is_true. let e : k ≡ l = grind (arith, nat_tests) in subst (λ m. slice_index (set table k at) m ≡ at) e (get_or-set_same table k at 0 small))
      (λ is_false. let ne : l ≢ k = grind (arith, nat_tests) in ap address_of (get_or-set_other table k l at 0 ne) ∙ h l within)
      ∙ ap (λ o. unwrap_or o (address_of 0)) (sym first)

  -- a line that is no label
  pub table_other : (table : List ℕ) → ((l : ℕ) → is_label (get_or lines i d) l ≡ false) → HasPlaces lines layout (i + 1) table → HasPlaces lines layout i table
  table_other table not h l below_l =
      let rest = address (drop (i + 1) lines) (drop (i + 1) layout) l in
      let first : address (drop i lines) (drop i layout) l ≡ rest =
      address_first (get_or lines i d) (drop (i + 1) lines) (get_or layout i z) (drop (i + 1) layout) i lines layout l here there
      ∙ ap (λ b. cond b (Some (address_of (get_or layout i z).0)) rest) (not l) in
      h l below_l ∙ ap (λ o. unwrap_or o (address_of 0)) (sym first)

pub no_label : (x : Line) → ((k : ℕ) → x ≡ Label k → ⊥) → (l : ℕ) → is_label x l ≡ false
no_label (Label k) h l = absurd (h k refl)
no_label (Plain i) h l = refl
no_label (Jump k) h l = refl
no_label (Branch op a b k) h l = refl
no_label (CallTo k) h l = refl
no_label (Address rd k) h l = refl
no_label (JumpReg r) h l = refl

-- from the line of number j, which comes after that of number i
pub step_other : (lines : List Line) (layout : List (ℕ × ℕ)) (i j : ℕ) (d : Line) (z : ℕ × ℕ) (table : List ℕ) → j ≡ i + 1 → i < length lines → length layout ≡ length lines
    → ((k : ℕ) → get_or lines i d ≡ Label k → ⊥) → HasPlaces lines layout j table → HasPlaces lines layout i table
step_other lines layout i j d z table e below same not h =
    table_other lines layout i d z below same table (no_label (get_or lines i d) not) (subst (λ n. HasPlaces lines layout n table) e h)

pub step_label : (lines : List Line) (layout : List (ℕ × ℕ)) (i j : ℕ) (d : Line) (z : ℕ × ℕ) (k : ℕ) (table : List ℕ) → j ≡ i + 1 → i < length lines → length layout ≡ length lines
    → get_or lines i d ≡ Label k → k < length table → HasPlaces lines layout j table → HasPlaces lines layout i (set table k (get_or layout i z).0)
step_label lines layout i j d z k table e below same is small h =
    table_label lines layout i d z below same k table is small (subst (λ n. HasPlaces lines layout n table) e h)
