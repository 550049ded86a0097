-- Lawful names.
use Rattle.std.proofs.Common.{◌≡◌, ℕ, ◌+◌, ◌-◌, ◌*◌, ◌^◌, ◌<◌, ◌≤◌, Bool, true, false, ◌&&◌, ◌||◌, not, List, [], ◌∷◌, ◌++◌, length, leb, All, IsTrue, Option, refl, sym, ap, ◌∙◌, arith}
use Rattle.std.specs.Int.{w16, to_le_bytes}
use Rattle.std.specs.List.{list_any, AllByRecursion}
use Rattle.std.specs.Option.{ForSome}
use Rattle.std.proofs.lemmas.List.{length-append}
use Rattle.std.specs.Str.{bytes_eq}
use Rattle.std.specs.Bool.{one_answer}
use Rattle.std.proofs.lemmas.Slice.Eq.{bytes_eq-Decides}
use Rattle.std.proofs.lemmas.List.Folds.{list_any-append}
use Rattle.std.proofs.lemmas.Bool.{and_parts, leb-true}
use Rattle.std.proofs.lemmas.List.Elements.{All-from_recursion}
use Rattle.pan_base.specs.Names.{is_foreign_name, is_short_foreign_name}
use Rattle.riscv_isa.specs.Image.{IsLawfulImage, IsLawfulCode, AreLawfulNames, are_foreign_names, names_part}

pub name_is_short : (name : List ℕ) → is_short_foreign_name name ≡ true → length name ≤ 64
name_is_short name h = leb-true (length name) 64 (and_parts (is_foreign_name name) (leb (length name) 64) h).1

-- what the names of a lawful row are
pub record Splits (name : List ℕ) (names : List (List ℕ)) : Type 0 where
  pub first : is_short_foreign_name name ≡ true
  pub apart : not (list_any (λ other. bytes_eq other name) names) ≡ true
  pub rest : are_foreign_names names ≡ true

pub names_split : (name : List ℕ) (names : List (List ℕ)) → are_foreign_names (name ∷ names) ≡ true → Splits name names
names_split name names h =
    let a = and_parts (is_short_foreign_name name && not (list_any (λ other. bytes_eq other name) names)) (are_foreign_names names) h in
    let b = and_parts (is_short_foreign_name name) (not (list_any (λ other. bytes_eq other name) names)) a.0 in
    record { first = b.0; apart = b.1; rest = a.1 }

each_is_short : (names : List (List ℕ)) → are_foreign_names names ≡ true → AllByRecursion (λ name. length name ≤ 64) names
each_is_short [] h = tt
each_is_short (name ∷ names) h =
    let s = names_split name names h in (name_is_short name s.first, each_is_short names s.rest)

pub names_are_short : (names : List (List ℕ)) → IsTrue (are_foreign_names names) → All (λ name. length name ≤ 64) names
names_are_short names h = All-from_recursion (λ name. length name ≤ 64) names (each_is_short names h)

-- a name takes at most 66 bytes of the names part
part_is_short : (names : List (List ℕ)) → AllByRecursion (λ name. length name ≤ 64) names → length (names_part names) ≤ 66 * length names
part_is_short [] h = omega arith
part_is_short (name ∷ names) h =
    let first : length name ≤ 64 = h.0 in
    let rest = part_is_short names h.1 in
    let part : length (names_part (name ∷ names)) ≡ 2 + length name + length (names_part names) =
    length-append (to_le_bytes w16 (length name) ++ name) (names_part names) ∙ ap (λ n. n + length (names_part names)) (length-append (to_le_bytes w16 (length name)) name) in
    omega arith

pub lawful_image : (code : List ℕ) (names : List (List ℕ)) (bound : Option ℕ) → IsLawfulCode code → AreLawfulNames names → ForSome bound (λ n. n < 2 ^ 64 - 1)
    → IsLawfulImage (record { code = code; names = names; bound = bound })
lawful_image code names bound c n bounded = record {
  whole = c.whole;
  most = c.most;
  bytes = c.bytes;
  named = n.named;
  count = n.count;
  part = let h = n.count in let k = part_is_short names (each_is_short names n.named) in omega arith;
  bounded = bounded;
}

-- ---- one name more

flips : (x y : List ℕ) → bytes_eq x y ≡ bytes_eq y x
flips x y = one_answer (bytes_eq x y) (bytes_eq y x) (bytes_eq-Decides x y) ((λ h. sym ((bytes_eq-Decides y x).0 h)), (λ e. (bytes_eq-Decides y x).1 (sym e)))

push_tests : (a b c d e f : Bool) → ((a && not (b || (c || false))) && (d && e && not f)) ≡ ((a && not b && d) && e && not (c || f))
push_tests false b c d e f = refl
push_tests true true c d e f = refl
push_tests true false true true true f = refl
push_tests true false true true false f = refl
push_tests true false true false e f = refl
push_tests true false false d e f = refl

-- a row with one name more is lawful if it was and the name is, and differs from the others
pub are_foreign_names-push : (names : List (List ℕ)) (name : List ℕ)
    → are_foreign_names (names ++ name ∷ []) ≡ (are_foreign_names names && is_short_foreign_name name && not (list_any (λ other. bytes_eq other name) names))
are_foreign_names-push [] name = elim (is_short_foreign_name name) as (λ b. (b && not false && true) ≡ (true && b && not false)) [ true ↦ refl | false ↦ refl ]
are_foreign_names-push (x ∷ xs) name =
    rw (list_any-append (λ other. bytes_eq other x) xs (name ∷ []), are_foreign_names-push xs name, flips name x)
    (push_tests (is_short_foreign_name x) (list_any (λ other. bytes_eq other x) xs) (bytes_eq x name) (are_foreign_names xs) (is_short_foreign_name name) (list_any (λ other. bytes_eq other name) xs))

-- ---- a front of a lawful row

not_or : (a b : Bool) → not (a || b) ≡ true → not a ≡ true
not_or true b h = absurd cc
not_or false b h = refl

pub are_foreign_names-front : (xs ys : List (List ℕ)) → are_foreign_names (xs ++ ys) ≡ true → are_foreign_names xs ≡ true
are_foreign_names-front [] ys h = refl
are_foreign_names-front (x ∷ xs) ys h =
    let s = names_split x (xs ++ ys) h in
    let apart : not (list_any (λ other. bytes_eq other x) xs) ≡ true = not_or (list_any (λ other. bytes_eq other x) xs) (list_any (λ other. bytes_eq other x) ys) (rw list_any-append at s.apart) in
    rw (s.first, apart, are_foreign_names-front xs ys s.rest) refl

pub last_is_lawful : (names : List (List ℕ)) (name : List ℕ) → are_foreign_names (names ++ name ∷ []) ≡ true → is_short_foreign_name name ≡ true
last_is_lawful names name h =
    let a = and_parts (are_foreign_names names && is_short_foreign_name name) (not (list_any (λ other. bytes_eq other name) names)) (sym (are_foreign_names-push names name) ∙ h) in
    (and_parts (are_foreign_names names) (is_short_foreign_name name) a.0).1
