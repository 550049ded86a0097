-- Layouts of numbers of instructions: the places of lines and labels in them.
use Rattle.std.proofs.Common.{◌≡◌, ℕ, zero, suc, ◌+◌, ◌*◌, ◌<◌, ◌≤◌, refl, ap, ◌∙◌, List, [], ◌∷◌, length, map, get_or, set, Bool, true, false, cond, Some, None, arith}
use Rattle.std.specs.Prelude.{unwrap_or}
use Rattle.pan_stage.specs.Sums.{sum_of}
use Rattle.lab_lang.specs.declared.syntax.Line.{Line}
use Rattle.lab_lang.specs.Layout.{IsLayout, address_of, is_label, address}
use Rattle.lab_link.specs.Lengths.{laid_out}
use Rattle.lab_link.specs.Turns.{AreCounts}
use Rattle.lab_link.proofs.Places.{total}

-- the instructions before line i
abbrev pub before : ℕ → List ℕ → ℕ
before zero ns = 0
before (suc i) [] = 0
before (suc i) (n ∷ ns) = n + before i ns

-- each number is at most the one of the other list
abbrev pub Under : List ℕ → List ℕ → Type 0
Under [] [] = Unit {0}
Under [] (m ∷ ms) = ⊥
Under (n ∷ ns) [] = ⊥
Under (n ∷ ns) (m ∷ ms) = (n ≤ m) × Under ns ms

pub under_same : (ns : List ℕ) → Under ns ns
under_same [] = tt
under_same (n ∷ ns) = (omega arith, under_same ns)

pub under_set : (ns ms : List ℕ) (i v : ℕ) → Under ns ms → Under (set ns i v) (set ms i v)
under_set [] [] i v u = tt
under_set [] (m ∷ ms) i v u = absurd u
under_set (n ∷ ns) [] i v u = absurd u
under_set (n ∷ ns) (m ∷ ms) zero v u = (omega arith, u.1)
under_set (n ∷ ns) (m ∷ ms) (suc i) v u = (u.0, under_set ns ms i v u.1)

pub under_sum : (ns ms : List ℕ) → Under ns ms → sum_of ns ≤ sum_of ms
under_sum [] [] u = omega arith
under_sum [] (m ∷ ms) u = absurd u
under_sum (n ∷ ns) [] u = absurd u
under_sum (n ∷ ns) (m ∷ ms) u = let h = under_sum ns ms u.1 in let a = u.0 in omega arith

-- equal sums leave nothing
pub under_equal : (ns ms : List ℕ) → Under ns ms → sum_of ns ≡ sum_of ms → ns ≡ ms
under_equal [] [] u e = refl
under_equal [] (m ∷ ms) u e = absurd u
under_equal (n ∷ ns) [] u e = absurd u
under_equal (n ∷ ns) (m ∷ ms) u e =
    let h = under_sum ns ms u.1 in
    let a = u.0 in
    let same : n ≡ m = omega arith in
    let rest : sum_of ns ≡ sum_of ms = omega arith in
    ap (λ k. k ∷ ns) same ∙ ap (λ ks. m ∷ ks) (under_equal ns ms u.1 rest)

under_before : (ns ms : List ℕ) (j : ℕ) → Under ns ms → before j ns ≤ before j ms
under_before ns ms zero u = omega arith
under_before [] [] (suc j) u = omega arith
under_before [] (m ∷ ms) (suc j) u = absurd u
under_before (n ∷ ns) [] (suc j) u = absurd u
under_before (n ∷ ns) (m ∷ ms) (suc j) u = let h = under_before ns ms j u.1 in let a = u.0 in omega arith

pub before_more : (ns : List ℕ) (i j : ℕ) → i ≤ j → before i ns ≤ before j ns
before_more ns zero j le = omega arith
before_more ns (suc i) zero le = absurd (omega arith)
before_more [] (suc i) (suc j) le = omega arith
before_more (n ∷ ns) (suc i) (suc j) le = let h = before_more ns i j (omega arith) in omega arith

-- between two lines there are at most as many instructions
pub between : (ns ms : List ℕ) (i j : ℕ) → Under ns ms → i ≤ j → before j ns + before i ms ≤ before j ms + before i ns
between ns ms zero j u le = let h = under_before ns ms j u in omega arith
between ns ms (suc i) zero u le = absurd (omega arith)
between [] [] (suc i) (suc j) u le = omega arith
between [] (m ∷ ms) (suc i) (suc j) u le = absurd u
between (n ∷ ns) [] (suc i) (suc j) u le = absurd u
between (n ∷ ns) (m ∷ ms) (suc i) (suc j) u le = let h = between ns ms i j u.1 (omega arith) in omega arith

pub before_set : (ns : List ℕ) (i v : ℕ) → before i (set ns i v) ≡ before i ns
before_set ns zero v = refl
before_set [] (suc i) v = refl
before_set (n ∷ ns) (suc i) v = ap (λ k. n + k) (before_set ns i v)

-- ---- layouts

pub counts_of : (place : ℕ) (ns : List ℕ) → map (λ (y : ℕ × ℕ). y.1) (laid_out place ns) ≡ ns
counts_of place [] = refl
counts_of place (n ∷ ns) = ap (λ ks. n ∷ ks) (counts_of (place + 4 * n) ns)

pub laid_length : (place : ℕ) (ns : List ℕ) → length (laid_out place ns) ≡ length ns
laid_length place [] = refl
laid_length place (n ∷ ns) = let e = laid_length (place + 4 * n) ns in omega arith

pub laid_total : (place : ℕ) (ns : List ℕ) → total (laid_out place ns) ≡ sum_of ns
laid_total place [] = refl
laid_total place (n ∷ ns) = ap (λ k. n + k) (laid_total (place + 4 * n) ns)

pub laid_place : (place : ℕ) (ns : List ℕ) (i : ℕ) (z : ℕ × ℕ) → i < length ns → (get_or (laid_out place ns) i z).0 ≡ place + 4 * before i ns
laid_place place [] i z below = absurd (omega arith)
laid_place place (n ∷ ns) zero z below = omega arith
laid_place place (n ∷ ns) (suc i) z below = let e = laid_place (place + 4 * n) ns i z (omega arith) in omega arith

pub laid_count : (place : ℕ) (ns : List ℕ) (i : ℕ) (z : ℕ × ℕ) → i < length ns → (get_or (laid_out place ns) i z).1 ≡ get_or ns i 0
laid_count place [] i z below = absurd (omega arith)
laid_count place (n ∷ ns) zero z below = refl
laid_count place (n ∷ ns) (suc i) z below = laid_count (place + 4 * n) ns i z (omega arith)

pub counts_length : (xs : List Line) (ns : List ℕ) → AreCounts xs ns → length ns ≡ length xs
counts_length [] [] h = refl
counts_length [] (n ∷ ns) h = absurd h
counts_length (x ∷ xs) [] h = absurd h
counts_length (x ∷ xs) (n ∷ ns) h = let e = counts_length xs ns h.1 in omega arith

pub counts_laid : (place : ℕ) (xs : List Line) (ns : List ℕ) → AreCounts xs ns → IsLayout place xs (laid_out place ns)
counts_laid place [] [] h = tt
counts_laid place [] (n ∷ ns) h = absurd h
counts_laid place (x ∷ xs) [] h = absurd h
counts_laid place (x ∷ xs) (n ∷ ns) h = (refl, h.0, counts_laid (place + 4 * n) xs ns h.1)

-- ---- labels

-- the number of the line that the label stands at, in the layouts of any numbers
pub data Stands (xs : List Line) (l : ℕ) : Type 0 where
  at_line : (j : ℕ) → ((place : ℕ) (ns : List ℕ) → length ns ≡ length xs → address xs (laid_out place ns) l ≡ Some (address_of (place + 4 * before j ns))) → Stands xs l
  nowhere : ((place : ℕ) (ns : List ℕ) → length ns ≡ length xs → address xs (laid_out place ns) l ≡ None) → Stands xs l

first_stands : (x : Line) (xs : List Line) (l : ℕ) → is_label x l ≡ true → Stands (x ∷ xs) l
first_stands x xs l is = at_line 0 go
  where
    go : (place : ℕ) (ns : List ℕ) → length ns ≡ length (x ∷ xs) → address (x ∷ xs) (laid_out place ns) l ≡ Some (address_of (place + 4 * before 0 ns))
    go place [] e = absurd (omega arith)
    go place (n ∷ ns) e = ap (λ b. cond b (Some (address_of place)) (address xs (laid_out (place + 4 * n) ns) l)) is ∙ ap (λ p. Some (address_of p)) (omega arith)

later_stands : (x : Line) (xs : List Line) (l : ℕ) → is_label x l ≡ false → Stands xs l → Stands (x ∷ xs) l
later_stands x xs l isn't (at_line j h) = at_line (suc j) go
  where
    go : (place : ℕ) (ns : List ℕ) → length ns ≡ length (x ∷ xs) → address (x ∷ xs) (laid_out place ns) l ≡ Some (address_of (place + 4 * before (suc j) ns))
    go place [] e = absurd (omega arith)
    go place (n ∷ ns) e = ap (λ b. cond b (Some (address_of place)) (address xs (laid_out (place + 4 * n) ns) l)) isn't ∙ h (place + 4 * n) ns (omega arith) ∙ ap (λ p. Some (address_of p)) (omega arith)
later_stands x xs l isn't (nowhere h) = nowhere go
  where
    go : (place : ℕ) (ns : List ℕ) → length ns ≡ length (x ∷ xs) → address (x ∷ xs) (laid_out place ns) l ≡ None
    go place [] e = absurd (omega arith)
    go place (n ∷ ns) e = ap (λ b. cond b (Some (address_of place)) (address xs (laid_out (place + 4 * n) ns) l)) isn't ∙ h (place + 4 * n) ns (omega arith)

by_label : (x : Line) (xs : List Line) (l : ℕ) (b : Bool) → is_label x l ≡ b → Stands xs l → Stands (x ∷ xs) l
by_label x xs l true is later = first_stands x xs l is
by_label x xs l false is later = later_stands x xs l is later

stands : (xs : List Line) (l : ℕ) → Stands xs l
stands [] l = nowhere (λ place ns e. refl)
stands (x ∷ xs) l = by_label x xs l (is_label x l) refl (stands xs l)

-- where what names the label goes: to the line of one number, in all layouts
pub record Target (xs : List Line) (l : ℕ) : Type 0 where
  pub line : ℕ
  pub is : (ns : List ℕ) → length ns ≡ length xs → unwrap_or (address xs (laid_out 0 ns) l) (address_of 0) ≡ address_of (4 * before line ns)

of_stands : (xs : List Line) (l : ℕ) → Stands xs l → Target xs l
of_stands xs l (at_line j h) = record { line = j; is = λ ns e. ap (λ o. unwrap_or o (address_of 0)) (h 0 ns e) ∙ ap address_of (omega arith) }
of_stands xs l (nowhere h) = record { line = 0; is = λ ns e. ap (λ o. unwrap_or o (address_of 0)) (h 0 ns e) }

pub target : (xs : List Line) (l : ℕ) → Target xs l
target xs l = of_stands xs l (stands xs l)
