-- The slots of a function are numbered without gaps, each by a number of its own; and a frame is at most what its function needs.
use Rattle.std.proofs.Common.{◌≡◌, ℕ, suc, ◌+◌, ◌*◌, ◌/◌, ◌%◌, ◌<◌, ◌≤◌, List, [], ◌∷◌, length, Bool, true, false, refl, ap, ◌∙◌, subst, arith}
use Rattle.std.specs.Prelude.{nat_lt, nat_le, nat_eq, ◌&&◌, ◌||◌, not, if◌then◌else◌}
use Rattle.std.specs.List.{All}
use Rattle.std.proofs.lemmas.Bool.Decides.{nat_tests}
use Rattle.pan_flow.specs.Flow.{has}
use Rattle.pan_flow.specs.Functions.{variables, different}
use Rattle.word_lang.specs.Homes.{first_slot, is_home, IsOverHomes}
use Rattle.word_lang.specs.Needs.{frame_need}
use Rattle.word_lang.specs.Text.{flow_of_function}
use Rattle.word_lang.specs.declared.syntax.WordFun.{WordFun}
use Rattle.stack_lang.specs.Frames.{front}
use Rattle.stack_lang.proofs.WordsBefore.{front_small}
use Rattle.stack_frames.specs.Frames.{slots_of, below, slots, slot_in, body_of, frame_bytes}
use Rattle.stack_frames.proofs.Homes.{IsNumbered}

-- ---- the slots among homes

-- each slot is among them
slot_among : (x : ℕ) (xs : List ℕ) → nat_lt x first_slot ≡ false → has xs x ≡ true → has (slots_of xs) x ≡ true
slot_among x [] l h = h
slot_among x (y ∷ xs) l h = by (nat_eq x y) refl h (slot_among x xs l)
  where
    kept : (b : Bool) → (has xs x ≡ true → has (slots_of xs) x ≡ true) → has xs x ≡ true → has (if b then y ∷ slots_of xs else slots_of xs) x ≡ true
    kept true on h = later (nat_eq x y) (on h)
      where
        later : (b : Bool) → has (slots_of xs) x ≡ true → (b || has (slots_of xs) x) ≡ true
        later true h = refl
        later false h = h
    kept false on h = on h

    here : (b : Bool) → has xs y ≡ b → nat_eq x y ≡ true → (has xs x ≡ true → has (slots_of xs) x ≡ true) → has (if nat_le first_slot y && not b then y ∷ slots_of xs else slots_of xs) x ≡ true
    here true e is on = by_le (nat_le first_slot y)
      where
        by_le : (a : Bool) → has (if a && false then y ∷ slots_of xs else slots_of xs) x ≡ true
        by_le true = on (ap (λ z. has xs z) (let k : x ≡ y = grind (arith, nat_tests) in k) ∙ e)
        by_le false = on (ap (λ z. has xs z) (let k : x ≡ y = grind (arith, nat_tests) in k) ∙ e)
    here false e is on = by_le (nat_le first_slot y) (grind (arith, nat_tests))
      where
        by_le : (a : Bool) → a ≡ true → has (if a && true then y ∷ slots_of xs else slots_of xs) x ≡ true
        by_le true e = ap (λ b. b || has (slots_of xs) x) is
        by_le false e = cc e

    by : (b : Bool) → nat_eq x y ≡ b → (b || has xs x) ≡ true → (has xs x ≡ true → has (slots_of xs) x ≡ true) → has (slots_of (y ∷ xs)) x ≡ true
    by true is h on = here (has xs y) refl is on
    by false is h on = kept (nat_le first_slot y && not (has xs y)) on h

-- they are no more than the different ones
pub few_slots : (xs : List ℕ) → length (slots_of xs) ≤ different xs
few_slots [] = omega arith
few_slots (x ∷ xs) = by (nat_le first_slot x) (has xs x) (few_slots xs)
  where
    by : (a b : Bool) → length (slots_of xs) ≤ different xs → length (if a && not b then x ∷ slots_of xs else slots_of xs) ≤ (if b then different xs else suc (different xs))
    by true true h = h
    by true false h = omega (arith, h)
    by false true h = h
    by false false h = omega (arith, h)

-- ---- their numbers

below_less : (x y : ℕ) (xs : List ℕ) → x ≤ y → below x xs ≤ below y xs
below_less x y [] l = omega arith
below_less x y (z ∷ xs) l = by (nat_lt z x) (nat_lt z y) refl refl (below_less x y xs l)
  where
    by : (a b : Bool) → nat_lt z x ≡ a → nat_lt z y ≡ b → below x xs ≤ below y xs → (if a then 1 + below x xs else below x xs) ≤ (if b then 1 + below y xs else below y xs)
    by true true e f h = omega (arith, h)
    by true false e f h = absurd (grind (arith, nat_tests))
    by false true e f h = omega (arith, h)
    by false false e f h = h

below_apart : (x y : ℕ) (xs : List ℕ) → x < y → has xs x ≡ true → below x xs < below y xs
below_apart x y [] l h = absurd (cc h)
below_apart x y (z ∷ xs) l h = by (nat_eq x z) (nat_lt z x) (nat_lt z y) refl refl refl h (below_less x y xs (omega (arith, l))) (below_apart x y xs l)
  where
    by : (c a b : Bool) → nat_eq x z ≡ c → nat_lt z x ≡ a → nat_lt z y ≡ b → (c || has xs x) ≡ true → below x xs ≤ below y xs → (has xs x ≡ true → below x xs < below y xs) → (if a then 1 + below x xs else below x xs) < (if b then 1 + below y xs else below y xs)
    by true true b d e f h le on = absurd (grind (arith, nat_tests))
    by true false true d e f h le on = omega (arith, le)
    by true false false d e f h le on = absurd (grind (arith, nat_tests))
    by false true true d e f h le on = let k = on h in omega (arith, k)
    by false true false d e f h le on = absurd (grind (arith, nat_tests))
    by false false true d e f h le on = let k = on h in omega (arith, k)
    by false false false d e f h le on = on h

below_most : (x : ℕ) (xs : List ℕ) → below x xs ≤ length xs
below_most x [] = omega arith
below_most x (z ∷ xs) = by (nat_lt z x) (below_most x xs)
  where
    by : (a : Bool) → below x xs ≤ length xs → (if a then 1 + below x xs else below x xs) ≤ suc (length xs)
    by true h = omega (arith, h)
    by false h = omega (arith, h)

-- one that is there has a number below their count
below_within : (x : ℕ) (xs : List ℕ) → has xs x ≡ true → below x xs < length xs
below_within x [] h = absurd (cc h)
below_within x (z ∷ xs) h = by (nat_eq x z) (nat_lt z x) refl refl h (below_most x xs) (below_within x xs)
  where
    by : (c a : Bool) → nat_eq x z ≡ c → nat_lt z x ≡ a → (c || has xs x) ≡ true → below x xs ≤ length xs → (has xs x ≡ true → below x xs < length xs) → (if a then 1 + below x xs else below x xs) < suc (length xs)
    by true true d e h le on = absurd (grind (arith, nat_tests))
    by true false d e h le on = omega (arith, le)
    by false true d e h le on = let k = on h in omega (arith, k)
    by false false d e h le on = let k = on h in omega (arith, k)

-- ---- functions

-- what holds of all holds of one that is there
all_has : (P : ℕ → Type 0) (xs : List ℕ) (x : ℕ) → All P xs → has xs x ≡ true → P x
all_has P [] x h e = absurd (cc e)
all_has P (y ∷ xs) x h e = by (nat_eq x y) refl e (all_has P xs x (λ k d l. h (suc k) d (omega (arith, l))))
  where
    by : (b : Bool) → nat_eq x y ≡ b → (b || has xs x) ≡ true → (has xs x ≡ true → P x) → P x
    by true is e on = subst P (let k : y ≡ x = grind (arith, nat_tests) in k) (h 0 x (omega arith))
    by false is e on = on e

pub is_numbered : (f : WordFun) → IsOverHomes f → IsNumbered (slot_in f) (variables (flow_of_function f))
is_numbered f over =
    record {
      homes = λ x h. all_has (λ x. is_home x ≡ true) (variables (flow_of_function f)) x over.homes h;
      apart = λ x y hx hy lx ly e. same x y (slot_among x (variables (flow_of_function f)) lx hx) (slot_among y (variables (flow_of_function f)) ly hy) e (nat_lt x y) (nat_lt y x) refl refl;
    }
  where
    same : (x y : ℕ) → has (slots f) x ≡ true → has (slots f) y ≡ true → below x (slots f) ≡ below y (slots f) → (a b : Bool) → nat_lt x y ≡ a → nat_lt y x ≡ b → x ≡ y
    same x y hx hy e true b p q = let l : x < y = grind (arith, nat_tests) in let k = below_apart x y (slots f) l hx in absurd (omega (arith, e, k))
    same x y hx hy e false true p q = let l : y < x = grind (arith, nat_tests) in let k = below_apart y x (slots f) l hy in absurd (omega (arith, e, k))
    same x y hx hy e false false p q = grind (arith, nat_tests)

-- the slot of a home lies in the frame, behind the words before the slots
pub slot_inside : (f : WordFun) (x : ℕ) → has (variables (flow_of_function f)) x ≡ true → nat_lt x first_slot ≡ false → 8 * (front (body_of f) + slot_in f x + 1) ≤ frame_bytes f
slot_inside f x h l = inside (front (body_of f)) (slot_in f x) (length (slots f)) (below_within x (slots f) (slot_among x (variables (flow_of_function f)) l h))
  where
    inside : (m k n : ℕ) → k < n → 8 * (m + k + 1) ≤ 16 * ((m + n + 1) / 2)
    inside m k n l = omega (arith, l)

pub frame_whole : (f : WordFun) → frame_bytes f % 16 ≡ 0
frame_whole f = whole (front (body_of f)) (length (slots f))
  where
    whole : (m n : ℕ) → 16 * ((m + n + 1) / 2) % 16 ≡ 0
    whole m n = omega arith

pub frame_wide : (f : WordFun) → 8 * front (body_of f) ≤ frame_bytes f
frame_wide f = wide (front (body_of f)) (length (slots f))
  where
    wide : (m n : ℕ) → 8 * m ≤ 16 * ((m + n + 1) / 2)
    wide m n = omega arith

pub frame_fits : (f : WordFun) → frame_bytes f ≤ frame_need f
frame_fits f = fits (front (body_of f)) (front_small (body_of f)) (length (slots f)) (different (variables (flow_of_function f))) (few_slots (variables (flow_of_function f)))
  where
    fits : (k : ℕ) → k ≤ 3 → (n m : ℕ) → n ≤ m → 16 * ((k + n + 1) / 2) ≤ 8 * (m + 4)
    fits k few n m l = omega (arith, few, l)
