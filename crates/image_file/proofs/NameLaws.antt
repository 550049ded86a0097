-- The names part and the names that are read from it.
use Rattle.std.proofs.Common.{◌≡◌, ℕ, zero, suc, ◌+◌, ◌^◌, ◌<◌, ◌≤◌, Bool, true, false, cond, ltb, List, [], ◌∷◌, ◌++◌, length, take, drop, Option, Some, None, refl, sym, ap, subst, ◌∙◌, append_assoc, arith}
use Rattle.std.specs.Int.{w16, to_le_bytes}
use Rattle.std.specs.Option.{option_map, option_and_then}
use Rattle.std.proofs.lemmas.Bool.{ltb-false, le-ltb}
use Rattle.std.proofs.lemmas.List.{append-nil, take-append-drop, take_at, drop_at, drop-drop, length-take, length-drop, length-append, length_push}
use Rattle.std.proofs.lemmas.List.Concat.{flat_map-append}
use Rattle.byteorder.specs.Endian.{little_number}
use Rattle.byteorder.specs.Numbers.{little_number-reads_back}
use Rattle.pan_base.specs.Words.{IsBytes}
use Rattle.riscv_isa.specs.Image.{names_part, are_foreign_names}
use Rattle.image_file.specs.Faults.{first_fault, name_tests, is_bad_name}
use Rattle.image_file.specs.Fields.{front_name, names_at}
use Rattle.image_file.proofs.NameLemmas.{name_is_short, are_foreign_names-front, last_is_lawful}
use Rattle.image_file.proofs.Numbers.{IsBytes-drop, bytes_of_number}

-- a name after its length
abbrev pub named : List ℕ → List ℕ
named name = to_le_bytes w16 (length name) ++ name

-- a name and the bytes after it stand at the front of a part
pub record Takes (part name after : List ℕ) : Type 0 where
  pub parts : part ≡ named name ++ after
  pub rest : IsBytes after

abbrev pub some : {A : Type 0} → A → Option A
some x = Some x

pub some_is : {A : Type 0} (x y : A) → some x ≡ some y → x ≡ y
some_is x y e = cc

guard_some : {A : Type 0} (b : Bool) (x y : A) → cond b None (Some x) ≡ Some y → (b ≡ false) × (x ≡ y)
guard_some true x y e = absurd cc
guard_some false x y e = (refl, cc)

pub front_takes : (part name after : List ℕ) → IsBytes part → front_name part ≡ Some (name, after) → Takes part name after
unfolding front_name
front_takes part name after fits e =
    let n = little_number 2 part in
    let g = guard_some (ltb (length part) (2 + n)) (take n (drop 2 part), drop (2 + n) part) (name, after) e in
    let long : 2 + n ≤ length part = ltb-false (length part) (2 + n) g.0 in
    let name_is : take n (drop 2 part) ≡ name = ap (λ (p : List ℕ × List ℕ). p.0) g.1 in
    let after_is : drop (2 + n) part ≡ after = ap (λ (p : List ℕ × List ℕ). p.1) g.1 in
    let cut : length (take n (drop 2 part)) ≡ n = omega (arith, length-take n (drop 2 part), length-drop 2 part) in
    let len : length name ≡ n = rw (← name_is) cut in
    let front : to_le_bytes w16 (length name) ≡ take 2 part = rw len (bytes_of_number 2 part (omega arith) fits) in
    let behind : name ++ after ≡ drop 2 part = rw (← name_is, ← after_is, ← drop-drop n 2 part) (take-append-drop n (drop 2 part)) in
    record {
      parts = sym (take-append-drop 2 part) ∙ ap (λ (t : List ℕ). take 2 part ++ t) (sym behind) ∙ ap (λ (t : List ℕ). t ++ (name ++ after)) (sym front) ∙ sym (append_assoc (to_le_bytes w16 (length name)) name after);
      rest = rw (← after_is) (IsBytes-drop (2 + n) part fits);
    }

pub front_again : (name rest : List ℕ) → length name < 2 ^ 16 → front_name (named name ++ rest) ≡ Some (name, rest)
unfolding front_name
front_again name rest lt =
    let len : little_number 2 (named name ++ rest) ≡ length name = little_number-reads_back 2 (length name) (name ++ rest) lt in
    let long : ltb (length (named name ++ rest)) (2 + length name) ≡ false = le-ltb _ _ (omega (arith, length-append name rest)) in
    let behind : drop (2 + length name) (named name ++ rest) ≡ rest = drop_at (named name) rest (2 + length name) (omega arith) in
    rw (len, long, take_at name rest (length name) refl, behind) refl

-- ---- several names

names_part-push : (names : List (List ℕ)) (name after : List ℕ) → names_part names ++ (named name ++ after) ≡ names_part (names ++ name ∷ []) ++ after
names_part-push names name after =
    rw (flat_map-append named names (name ∷ []), append-nil (named name)) (sym (append_assoc (names_part names) (named name) after))

-- names that were read stand at the front of the part, and there are so many of them
pub record AreTaken (part : List ℕ) (k : ℕ) (names : List (List ℕ)) (rest : List ℕ) : Type 0 where
  pub parts : part ≡ names_part names ++ rest
  pub count : length names ≡ k
  pub rest_fits : IsBytes rest

some_map : {A B : Type 0} (f : A → B) (o : Option A) (y : B) → option_map f o ≡ Some y → (x : A) × (o ≡ Some x) × (f x ≡ y)
some_map f None y e = absurd cc
some_map f (Some x) y e = (x, refl, cc)

some_then : {A B : Type 0} (f : A → Option B) (o : Option A) (y : B) → option_and_then f o ≡ Some y → (x : A) × (o ≡ Some x) × (f x ≡ Some y)
some_then f None y e = absurd cc
some_then f (Some x) y e = (x, refl, e)

pub names_taken : (k : ℕ) (part : List ℕ) (names : List (List ℕ)) (rest : List ℕ) → IsBytes part → names_at k part ≡ Some (names, rest) → AreTaken part k names rest
unfolding names_at
names_taken zero part names rest fits e =
    subst (λ (p : List (List ℕ) × List ℕ). AreTaken part 0 p.0 p.1) (some_is ([], part) (names, rest) e) (record { parts = refl; count = refl; rest_fits = fits })
names_taken (suc k) part names rest fits e =
    let a = some_then (λ r. option_map (λ n. (r.0 ++ n.0 ∷ [], n.1)) (front_name r.1)) (names_at k part) (names, rest) e in
    let b = some_map (λ n. (a.0.0 ++ n.0 ∷ [], n.1)) (front_name a.0.1) (names, rest) a.2 in
    let before = names_taken k part a.0.0 a.0.1 fits a.1 in
    let next = front_takes a.0.1 b.0.0 b.0.1 before.rest_fits b.1 in
    subst (λ (p : List (List ℕ) × List ℕ). AreTaken part (suc k) p.0 p.1) b.2 (record {
      parts = before.parts ∙ ap (λ (t : List ℕ). names_part a.0.0 ++ t) next.parts ∙ names_part-push a.0.0 b.0.0 b.0.1;
      count = omega (arith, length_push a.0.0 b.0.0, before.count);
      rest_fits = next.rest;
    })

-- the names with the next one, where there is one
pub names_after : (part : List ℕ) (i : ℕ) (names : List (List ℕ)) (rest : List ℕ) → names_at i part ≡ Some (names, rest)
    → names_at (i + 1) part ≡ option_map (λ n. (names ++ n.0 ∷ [], n.1)) (front_name rest)
unfolding names_at
names_after part i names rest e = let k : i + 1 ≡ suc i = omega arith in rw (k, e) refl

-- names that stand in a row are read again, and none of them is bad
pub names_again : (part : List ℕ) (done more : List (List ℕ)) (rest : List ℕ) → names_at (length done) part ≡ Some (done, names_part more ++ rest) → are_foreign_names (done ++ more) ≡ true
    → (names_at (length done + length more) part ≡ Some (done ++ more, rest)) × (first_fault (name_tests part (length done) (length more)) ≡ None)
names_again part done [] rest at lawful =
    let same : length done + 0 ≡ length done = omega arith in (rw (same, append-nil done) at, refl)
names_again part done (name ∷ names) rest at lawful =
    let grouped : names_part (name ∷ names) ++ rest ≡ named name ++ (names_part names ++ rest) = append_assoc (named name) (names_part names) rest in
    let moved : (done ++ name ∷ []) ++ names ≡ done ++ (name ∷ names) = append_assoc done (name ∷ []) names in
    let longer : length (done ++ name ∷ []) ≡ length done + 1 = length_push done name in
    let front : are_foreign_names (done ++ name ∷ []) ≡ true = are_foreign_names-front (done ++ name ∷ []) names (rw moved lawful) in
    let short = name_is_short name (last_is_lawful done name front) in
    let next : front_name (names_part (name ∷ names) ++ rest) ≡ Some (name, names_part names ++ rest) = rw grouped (front_again name (names_part names ++ rest) (omega arith)) in
    let here : names_at (length done + 1) part ≡ Some (done ++ name ∷ [], names_part names ++ rest) = rw (names_after part (length done) done (names_part (name ∷ names) ++ rest) at, next) refl in
    let good : is_bad_name part (length done) ≡ false = rw (here, front) refl in
    let others = names_again part (done ++ name ∷ []) names rest (rw longer here) (rw moved lawful) in
    let count : length done + length (name ∷ names) ≡ length (done ++ name ∷ []) + length names = omega (arith, longer) in
    (rw (count, ← moved) others.0, rw (good, ← longer) others.1)
