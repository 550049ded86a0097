-- Names with numbers, as a map of their first says.
use Rattle.std.proofs.Common.{◌≡◌, ℕ, ◌+◌, arith, Bool, true, false, cond, nat_eq, nat_lt, length, suc, drop, slice_get, append_assoc, add-one, List, [], ◌∷◌, ◌++◌, map, Option, Some, None, Bor, refl, sym, ap, ◌∙◌}
use Rattle.std.specs.Prelude.{find, position}
use Rattle.std.specs.List.{position_from, position_or_len}
use Rattle.std.proofs.lemmas.Iterator.Adapters.{position_from-zero}
use Rattle.std.specs.Map.{lookup}
use Rattle.std.specs.Option.{option_map, option_copied, is_some}
use Rattle.std.specs.Slice.{IsItemAt}
use Rattle.std.specs.Str.{bytes_eq}
use Rattle.std.specs.Cmp.Lexicographic.{pointwise}
use Rattle.std.proofs.lemmas.Cmp.{nat_list_eq_equiv}
use Rattle.std.proofs.lemmas.List.{map-append}
use Rattle.std.proofs.lemmas.Slice.Eq.{bytes_eq-Decides}
use Rattle.std.proofs.lemmas.Option.{slice_get_past, slice_get-get_or, slice_get_within, get_or_from_slice_get}
use Rattle.std.proofs.Math.Seq.{drop-cons}
use Rattle.std.proofs.lemmas.Bool.Decides.{nat_tests}
use Rattle.std.proofs.lemmas.List.Folds.{find_at}
use Rattle.indexmap.specs.IndexMap.{IndexMap, insert_entry}
use Rattle.indexmap.proofs.CallerLemmas.{insert_entry-new}
use Rattle.pan_tree.specs.Scopes.{ScopeOf, in_scope, or_else}
use Rattle.source_resolver.specs.Numbering.{named, numbered}

found_map : {X Y : Type 0} (f : X → Y) (b : Bool) (x : X) (r : Option X) → cond b (Some (f x)) (option_map f r) ≡ option_map f (cond b (Some x) r)
found_map f true x r = refl
found_map f false x r = refl

-- what a map of names finds
pub named_reads : (name : List ℕ) (xs : List (Bor (List ℕ) × ℕ)) → lookup (λ k. pointwise nat_eq name k.now) xs ≡ in_scope name (named xs)
named_reads name [] = refl
named_reads name (x ∷ xs) =
    ap (λ b. cond b (Some x.1) (lookup (λ k. pointwise nat_eq name k.now) xs)) (nat_list_eq_equiv.symm name (x.0).now)
    ∙ ap (λ r. cond (pointwise nat_eq (x.0).now name) (Some x.1) r) (named_reads name xs)
    ∙ found_map (λ v. v.1) (pointwise nat_eq (x.0).now name) ((x.0).now, x.1) _

pub in_scope_append : {A : Type 0} (q : List ℕ) (xs ys : ScopeOf A) → in_scope q (xs ++ ys) ≡ or_else (in_scope q xs) (in_scope q ys)
in_scope_append q [] ys = refl
in_scope_append {A} q (x ∷ xs) ys = by (bytes_eq x.0 q) (in_scope_append q xs ys)
  where
    by : (c : Bool) → in_scope q (xs ++ ys) ≡ or_else (in_scope q xs) (in_scope q ys)
        → option_map (λ (v : List ℕ × A). v.1) (cond c (Some x) (find (λ (v : List ℕ × A). bytes_eq v.0 q) (xs ++ ys))) ≡ or_else (option_map (λ (v : List ℕ × A). v.1) (cond c (Some x) (find (λ (v : List ℕ × A). bytes_eq v.0 q) xs))) (in_scope q ys)
    by true h = refl
    by false h = h

-- the names of a map, and all names
abbrev AreFirsts : List (Bor (List ℕ) × ℕ) → List (Bor (List ℕ) × ℕ) → Type 0
AreFirsts firsts all = (q : List ℕ) → in_scope q (named firsts) ≡ in_scope q (named all)

named_more : (xs : List (Bor (List ℕ) × ℕ)) (k : Bor (List ℕ)) (n : ℕ) → named (xs ++ (k, n) ∷ []) ≡ named xs ++ (k.now, n) ∷ []
named_more xs k n = map-append (λ x. ((x.0).now, x.1)) xs ((k, n) ∷ [])

-- a name that is known already stands for what it stood for
pub known_stays : (firsts all new : List (Bor (List ℕ) × ℕ)) (k : Bor (List ℕ)) (n : ℕ) → AreFirsts firsts all → new ≡ all ++ (k, n) ∷ [] → is_some (in_scope k.now (named all)) ≡ true → AreFirsts firsts new
known_stays firsts all new k n h is known q =
    h q ∙ by (bytes_eq k.now q) ((bytes_eq-Decides k.now q).0) (in_scope q (named all)) refl
    ∙ sym (in_scope_append q (named all) ((k.now, n) ∷ [])) ∙ sym (ap (λ xs. in_scope q xs) (ap named is ∙ named_more all k n))
  where
    by : (c : Bool) → (c ≡ true → k.now ≡ q) → (o : Option ℕ) → in_scope q (named all) ≡ o → o ≡ or_else o (option_map (λ (v : List ℕ × ℕ). v.1) (cond c (Some (k.now, n)) None))
    by c e (Some i) at = refl
    by false e None at = refl
    by true e None at =
        let none : is_some (in_scope k.now (named all)) ≡ false = ap is_some (ap (λ x. in_scope x (named all)) (e refl) ∙ at) in
        absurd cc

-- two names that are spelled alike, as a map of names compares them
abbrev pub alike : Bor (List ℕ) → Bor (List ℕ) → Bool
alike a b = pointwise nat_eq a.now b.now

none_of : {X : Type 0} (o : Option X) → is_some o ≡ false → o ≡ None
none_of None h = refl
none_of (Some x) h = absurd cc

-- a name that is new stands for its number
pub new_counts : {S : Type 0} (m : IndexMap (Bor (List ℕ)) ℕ S) (all new : List (Bor (List ℕ) × ℕ)) (k : Bor (List ℕ)) (n : ℕ) → AreFirsts m.entries all → new ≡ all ++ (k, n) ∷ [] → is_some (in_scope k.now (named all)) ≡ false
    → AreFirsts (insert_entry alike m.entries k n) new
new_counts m all new k n h is unknown q =
    ap (λ xs. in_scope q (named xs)) (insert_entry-new alike m k n (named_reads k.now m.entries ∙ h k.now ∙ none_of (in_scope k.now (named all)) unknown))
    ∙ ap (λ xs. in_scope q xs) (named_more m.entries k n) ∙ in_scope_append q (named m.entries) ((k.now, n) ∷ []) ∙ ap (λ o. or_else o (in_scope q ((k.now, n) ∷ []))) (h q)
    ∙ sym (in_scope_append q (named all) ((k.now, n) ∷ [])) ∙ sym (ap (λ xs. in_scope q xs) (ap named is ∙ named_more all k n))

-- ---- names in a row

position_is_from : {X : Type 0} (test : X → Bool) (xs : List X) → position test xs ≡ position_from test 0 xs
position_is_from test xs = position_from-zero test xs

from_numbered : (q : List ℕ) (n : ℕ) (names : List (List ℕ)) → in_scope q (numbered n names) ≡ position_from (λ x. bytes_eq x q) n names
from_numbered q n [] = refl
from_numbered q n (x ∷ xs) = by (bytes_eq x q) (from_numbered q (n + 1) xs)
  where
    by : (c : Bool) → in_scope q (numbered (n + 1) xs) ≡ position_from (λ x. bytes_eq x q) (n + 1) xs
        → option_map (λ (v : List ℕ × ℕ). v.1) (cond c (Some (x, n)) (find (λ (v : List ℕ × ℕ). bytes_eq v.0 q) (numbered (n + 1) xs))) ≡ cond c (Some n) (position_from (λ x. bytes_eq x q) (n + 1) xs)
    by true h = refl
    by false h = h

from_named : {X : Type 0} (name : X → List ℕ) (q : List ℕ) (n : ℕ) (xs : List X) → position_from (λ x. bytes_eq x q) n (map name xs) ≡ position_from (λ x. bytes_eq (name x) q) n xs
from_named name q n [] = refl
from_named name q n (x ∷ xs) = ap (cond (bytes_eq (name x) q) (Some n)) (from_named name q (n + 1) xs)

-- the number of the first name that is spelled so is its place in the row
pub numbered_finds : (q : List ℕ) (names : List (List ℕ)) → in_scope q (numbered 0 names) ≡ position (λ x. bytes_eq x q) names
numbered_finds q names = from_numbered q 0 names ∙ sym (position_is_from (λ x. bytes_eq x q) names)

-- the same of things with names
pub numbered_named : {X : Type 0} (name : X → List ℕ) (q : List ℕ) (xs : List X) → in_scope q (numbered 0 (map name xs)) ≡ position (λ x. bytes_eq (name x) q) xs
numbered_named name q xs = from_numbered q 0 (map name xs) ∙ from_named name q 0 xs ∙ sym (position_is_from (λ x. bytes_eq (name x) q) xs)

-- the thing that stands at a number
abbrev pub standing : {X : Type 0} → List X → Option ℕ → Option X
standing xs None = None
standing xs (Some i) = slice_get xs i

find_standing : {X : Type 0} (test : X → Bool) (xs : List X) → find test xs ≡ standing xs (position test xs)
find_standing test xs = find_at test xs ∙ by (position_or_len test xs) (nat_lt (position_or_len test xs) (length xs)) refl
  where
    by : (n : ℕ) (b : Bool) → nat_lt n (length xs) ≡ b → slice_get xs n ≡ standing xs (cond b (Some n) None)
    by n true h = refl
    by n false h = slice_get_past xs n (grind (arith, nat_tests))

-- the first thing that is named so stands at its number
pub found_standing : {X : Type 0} (name : X → List ℕ) (q : List ℕ) (xs : List X) (numbers : List (List ℕ × ℕ)) (o : Option ℕ) → numbers ≡ numbered 0 (map name xs) → o ≡ in_scope q numbers → find (λ x. bytes_eq (name x) q) xs ≡ standing xs o
found_standing name q xs numbers o e is = find_standing (λ x. bytes_eq (name x) q) xs ∙ ap (standing xs) (sym (is ∙ ap (in_scope q) e ∙ numbered_named name q xs))

-- the next of a row
next_of : {X : Type 0} (xs : List X) (i : ℕ) (x : X) → Some x ≡ slice_get xs i → drop i xs ≡ x ∷ drop (i + 1) xs
next_of xs i x is =
    let at : slice_get xs i ≡ Some x = sym is in
    drop-cons xs i x (slice_get_within xs i x at) ∙ ap (λ y. y ∷ drop (suc i) xs) (get_or_from_slice_get xs i x x at) ∙ ap (λ n. x ∷ drop n xs) (sym (add-one i))

-- the next name has the next number
pub numbered_next : (names : List (List ℕ)) (i : ℕ) (x : List ℕ) (done new all : List (List ℕ × ℕ)) → Some x ≡ slice_get names i → new ≡ done ++ (x, i) ∷ [] → done ++ numbered i (drop i names) ≡ all
    → new ++ numbered (i + 1) (drop (i + 1) names) ≡ all
numbered_next names i x done new all is made h =
    ap (λ xs. xs ++ numbered (i + 1) (drop (i + 1) names)) made ∙ append_assoc done ((x, i) ∷ []) (numbered (i + 1) (drop (i + 1) names))
    ∙ sym (ap (λ xs. done ++ numbered i xs) (next_of names i x is)) ∙ h

-- what is lent of a row
pub lent : {X : Type 0} (xs : List X) (i : ℕ) (r : Option (Bor X)) → IsItemAt xs i r → option_copied r ≡ slice_get xs i
lent xs i None h = sym (slice_get_past xs i h.3)
lent xs i (Some x) h = sym (slice_get-get_or xs i x.now h.3.0 ∙ ap Some (sym h.1))
