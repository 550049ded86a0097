-- What the calls of a turn give together.
use Rattle.std.proofs.Common.{◌≡◌, ◌≢◌, ℕ, zero, suc, ◌+◌, ◌-◌, ◌*◌, ◌<◌, ◌≤◌, refl, sym, ap, ◌∙◌, subst, List, [], ◌∷◌, ◌++◌, length, map, drop, get_or, Bool, true, false, cond, Option, Some, arith}
use Rattle.std.specs.Prelude.{slice_index}
use Rattle.std.proofs.lemmas.List.{length-map, drop_more}
use Rattle.pan_stage.specs.Sums.{sum_of}
use Rattle.lab_lang.specs.declared.syntax.Line.{Line}
use Rattle.lab_lang.specs.Layout.{IsLayout, address_of, shortest, longest, address}
use Rattle.lab_link.specs.Reach.{reaches}
use Rattle.lab_link.specs.Lengths.{laid_out, AreFit}
use Rattle.lab_link.specs.Turns.{IsTable, AreCounts, lengthened}
use Rattle.lab_link.proofs.Places.{span}
use Rattle.lab_link.proofs.Counting.{counts_laid}
use Rattle.lab_link.proofs.Emitting.{place_within, same_length, table_near}
use Rattle.lab_link.proofs.Laying.{IsLaid, one_laid, all_laid}
use Rattle.lab_link.proofs.Needed.{shortest_counts, turn_counts, counts_span, one_short, IsTurn, next_turn, less_left, turns_end}

-- a layout of lawful numbers
abbrev pub HasCounts : List Line → List (ℕ × ℕ) → Type 0
HasCounts lines layout = (counts : List ℕ) × AreCounts lines counts × (layout ≡ laid_out 0 counts)

pub has_layout : (lines : List Line) (layout : List (ℕ × ℕ)) → HasCounts lines layout → IsLayout 0 lines layout
has_layout lines layout h = subst (IsLayout 0 lines) (sym h.2) (counts_laid 0 lines h.0 h.1)

pub has_length : (lines : List Line) (layout : List (ℕ × ℕ)) → HasCounts lines layout → length layout ≡ length lines
has_length lines layout h = same_length 0 lines layout (has_layout lines layout h)

pub has_near : (lines : List Line) (layout : List (ℕ × ℕ)) (i : ℕ) (z : ℕ × ℕ) → HasCounts lines layout → 4 * span lines ≤ 268439552 → i < length lines → (get_or layout i z).0 ≤ 0x30000000
has_near lines layout i z h most below = let n = place_within 0 lines layout i z (has_layout lines layout h) below in omega arith

-- ---- laying lines out

laid_room : (ns : List ℕ) (i place n most : ℕ) (layout : List (ℕ × ℕ)) → i < length ns → n ≡ get_or ns i 0 → 4 * sum_of ns ≤ most → IsLaid ns i place layout → place + 4 * n ≤ most
laid_room ns i place n most layout below count within h =
    let a : sum_of (drop i ns) ≡ get_or ns i 0 + sum_of (drop (i + 1) ns) = ap sum_of (drop_more ns i 0 below) in
    let b = h.left in
    omega arith

module _ (lines : List Line) (i place n : ℕ) (layout : List (ℕ × ℕ)) (d : Line) (below : i < length lines) (count : n ≡ shortest (get_or lines i d)) (h : IsLaid (map shortest lines) i place layout) where
  as_many : i < length (map shortest lines)
  as_many = let e = length-map lines shortest in omega arith

  count_is : n ≡ get_or (map shortest lines) i 0
  count_is = count ∙ sym (one_short lines i d below)

  pub short_room : 4 * span lines ≤ 268439552 → place + 4 * n ≤ 268439552
  short_room most = let s = counts_span lines (map shortest lines) (shortest_counts lines) in laid_room (map shortest lines) i place n 268439552 layout as_many count_is (omega arith) h

  pub short_laid : (new : List (ℕ × ℕ)) → new ≡ layout ++ (place, n) ∷ [] → IsLaid (map shortest lines) (i + 1) (place + 4 * n) new
  short_laid new grown = one_laid (map shortest lines) i place n layout new as_many count_is grown h

-- ---- a turn

lengthened_length : (xs : List Line) (ys : List (ℕ × ℕ)) (f : ℕ → Option ℕ) → length ys ≡ length xs → length (lengthened xs ys f) ≡ length xs
lengthened_length [] ys f e = refl
lengthened_length (x ∷ xs) [] f e = absurd (omega arith)
lengthened_length (x ∷ xs) (y ∷ ys) f e = let h = lengthened_length xs ys f (omega arith) in omega arith

lengthened_at : (xs : List Line) (ys : List (ℕ × ℕ)) (f : ℕ → Option ℕ) (i : ℕ) (d : Line) (z : ℕ × ℕ) → length ys ≡ length xs → i < length xs
    → get_or (lengthened xs ys f) i 0 ≡ cond (reaches (get_or xs i d) (address_of (get_or ys i z).0) f) (get_or ys i z).1 (longest (get_or xs i d))
lengthened_at [] ys f i d z e below = absurd (omega arith)
lengthened_at (x ∷ xs) [] f i d z e below = absurd (omega arith)
lengthened_at (x ∷ xs) (y ∷ ys) f zero d z e below = refl
lengthened_at (x ∷ xs) (y ∷ ys) f (suc i) d z e below = lengthened_at xs ys f i d z (omega arith) (omega arith)

pub pick_true : (b : Bool) (n p q : ℕ) → b ≡ true → n ≡ p → n ≡ cond b p q
pick_true b n p q is e = e ∙ ap (λ r. cond r p q) (sym is)

pub pick_false : (b : Bool) (n p q : ℕ) → b ≡ false → n ≡ q → n ≡ cond b p q
pick_false b n p q is e = e ∙ ap (λ r. cond r p q) (sym is)

module _ (lines : List Line) (layout : List (ℕ × ℕ)) (table : List ℕ) (i place n : ℕ) (longer : List (ℕ × ℕ)) (d : Line) (z : ℕ × ℕ) (reach : Bool) (h : HasCounts lines layout) (below : i < length lines)
    (count : n ≡ cond reach (get_or layout i z).1 (longest (get_or lines i d))) (is_reach : (f : ℕ → Option ℕ) → IsTable f table → reach ≡ reaches (get_or lines i d) (address_of (get_or layout i z).0) f)
    (so_far : (f : ℕ → Option ℕ) → IsTable f table → IsLaid (lengthened lines layout f) i place longer) where
  same : length layout ≡ length lines
  same = has_length lines layout h

  as_many_lines : (f : ℕ → Option ℕ) → i < length (lengthened lines layout f)
  as_many_lines f = let e = lengthened_length lines layout f same in omega arith

  number_is : (f : ℕ → Option ℕ) → IsTable f table → n ≡ get_or (lengthened lines layout f) i 0
  number_is f is = count ∙ ap (λ b. cond b (get_or layout i z).1 (longest (get_or lines i d))) (is_reach f is) ∙ sym (lengthened_at lines layout f i d z same below)

  pub turn_more : (new : List (ℕ × ℕ)) → new ≡ longer ++ (place, n) ∷ [] → (f : ℕ → Option ℕ) → IsTable f table → IsLaid (lengthened lines layout f) (i + 1) (place + 4 * n) new
  turn_more new grown f is = one_laid (lengthened lines layout f) i place n longer new (as_many_lines f) (number_is f is) grown (so_far f is)

  at_table : (f : ℕ → Option ℕ) → IsTable f table → 4 * span lines ≤ 268439552 → place + 4 * n ≤ 268439552
  at_table f is most =
      let lawful : AreCounts lines (lengthened lines layout f) = subst (λ ys. AreCounts lines (lengthened lines ys f)) (sym h.2) (turn_counts lines h.0 0 f h.1) in
      let s = counts_span lines (lengthened lines layout f) lawful in
      laid_room (lengthened lines layout f) i place n 268439552 longer (as_many_lines f) (number_is f is) (omega arith) (so_far f is)

  pub turn_room : 4 * span lines ≤ 268439552 → place + 4 * n ≤ 268439552
  turn_room most = at_table (λ l. Some (address_of (slice_index table l))) (λ l small. refl) most

pub turn_all : (lines : List Line) (layout : List (ℕ × ℕ)) (f : ℕ → Option ℕ) (i place : ℕ) (longer : List (ℕ × ℕ)) → HasCounts lines layout → length lines ≤ i → IsLaid (lengthened lines layout f) i place longer
    → (longer ≡ laid_out 0 (lengthened lines layout f)) × (place ≡ 4 * sum_of (lengthened lines layout f))
turn_all lines layout f i place longer h past laid = let e = lengthened_length lines layout f (has_length lines layout h) in all_laid (lengthened lines layout f) i place longer (omega arith) laid

-- ---- one turn after another

module _ (lines : List Line) (layout seen : List (ℕ × ℕ)) (size : ℕ) (items table : List ℕ) (h : IsTurn lines layout size) (is_seen : seen ≡ layout) (is_table : table ≡ items) (places : IsTable (address lines seen) items) where
  has_counts : HasCounts lines layout
  has_counts = (h.counts, h.lawful, h.laid)

  table_is : IsTable (address lines layout) table
  table_is = subst (IsTable (address lines layout)) (sym is_table) (subst (λ ys. IsTable (address lines ys) items) is_seen places)

  pub turn_near : 4 * span lines ≤ 268439552 → (l : ℕ) → l < length table → slice_index table l ≤ 0x30000000
  turn_near most l small = table_near lines layout table l (has_layout lines layout has_counts) most table_is small

  module _ (again next : List (ℕ × ℕ)) (longer : ℕ) (is_again : again ≡ layout) (made : (f : ℕ → Option ℕ) → IsTable f table → next ≡ laid_out 0 (lengthened lines again f))
      (sized : (f : ℕ → Option ℕ) → IsTable f table → longer ≡ 4 * sum_of (lengthened lines again f)) where
    made_is : next ≡ laid_out 0 (lengthened lines layout (address lines layout))
    made_is = made (address lines layout) table_is ∙ ap (λ ys. laid_out 0 (lengthened lines ys (address lines layout))) is_again

    sized_is : longer ≡ 4 * sum_of (lengthened lines layout (address lines layout))
    sized_is = sized (address lines layout) table_is ∙ ap (λ ys. 4 * sum_of (lengthened lines ys (address lines layout))) is_again

    pub turned : IsTurn lines next longer
    turned = next_turn lines layout next size longer h made_is sized_is

    pub turned_less : longer ≢ size → 4 * span lines - longer < 4 * span lines - size
    turned_less = less_left lines layout next size longer h made_is sized_is

    pub turned_last : longer ≡ size → AreFit lines layout
    turned_last = turns_end lines layout next size longer h made_is sized_is
