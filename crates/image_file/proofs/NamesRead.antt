-- Reading names one after the other, as a loop does.
use Rattle.std.proofs.Common.{◌≡◌, ℕ, suc, ◌+◌, ◌-◌, ◌≤◌, ◌<◌, Bool, true, false, cond, ◌&&◌, ◌||◌, not, List, [], ◌∷◌, ◌++◌, Some, None, refl, sym, ◌∙◌, arith}
use Rattle.std.specs.BTreeSet as sorted
use Rattle.std.specs.BTreeSet.{BTreeSet}
use Rattle.std.specs.Cmp.Lexicographic.{slice_cmp}
use Rattle.std.specs.List.{list_any}
use Rattle.std.specs.Ordering.{nat_cmp}
use Rattle.std.specs.declared.cmp.Ordering.{Ordering}
use Rattle.std.specs.Str.{bytes_eq}
use Rattle.std.proofs.lemmas.List.Folds.{list_any-append}
use Rattle.std.proofs.lemmas.Map.Text.{is_eq-slice_cmp}
use denote.Ref.{Bor}
use Rattle.pan_base.specs.Names.{is_short_foreign_name}
use Rattle.riscv_isa.specs.Image.{are_foreign_names}
use Rattle.image_file.specs.declared.error.ImageError.TheVariants.{BadName}
use Rattle.image_file.specs.Faults.{first_fault, name_tests, is_bad_name}
use Rattle.image_file.specs.Fields.{front_name, names_at}
use Rattle.image_file.proofs.NameLemmas.{are_foreign_names-push}
use Rattle.image_file.proofs.NameLaws.{names_after}

-- the first i of so many names are lawful and were read, and rest is left
pub record HasRead (part : List ℕ) (count i : ℕ) (names : List (List ℕ)) (rest : List ℕ) : Type 0 where
  pub at : names_at i part ≡ Some (names, rest)
  pub lawful : are_foreign_names names ≡ true
  pub left : first_fault (name_tests part i (count - i)) ≡ first_fault (name_tests part 0 count)

pub HasRead-start : (part : List ℕ) (count : ℕ) → HasRead part count 0 [] part
unfolding names_at
HasRead-start part count = let e : count - 0 ≡ count = omega arith in record { at = refl; lawful = refl; left = rw e refl }

-- the next name is bad
bad_here : (part : List ℕ) (count i : ℕ) (names : List (List ℕ)) (rest : List ℕ) → HasRead part count i names rest → i < count → is_bad_name part i ≡ true
    → first_fault (name_tests part 0 count) ≡ Some (BadName i)
bad_here part count i names rest h lt bad =
    let k : count - i ≡ suc (count - (i + 1)) = omega arith in
    let here : first_fault (name_tests part i (count - i)) ≡ Some (BadName i) = rw (k, bad) refl in
    sym h.left ∙ here

pub ends_short : (part : List ℕ) (count i : ℕ) (names : List (List ℕ)) (rest : List ℕ) → HasRead part count i names rest → i < count → front_name rest ≡ None
    → first_fault (name_tests part 0 count) ≡ Some (BadName i)
ends_short part count i names rest h lt e =
    let bad : is_bad_name part i ≡ true = rw (names_after part i names rest h.at, e) refl in bad_here part count i names rest h lt bad

pub ends_unlawful : (part : List ℕ) (count i : ℕ) (names : List (List ℕ)) (rest name after : List ℕ) → HasRead part count i names rest → i < count → front_name rest ≡ Some (name, after)
    → (is_short_foreign_name name && not (list_any (λ other. bytes_eq other name) names)) ≡ false → first_fault (name_tests part 0 count) ≡ Some (BadName i)
ends_unlawful part count i names rest name after h lt e unlawful =
    let bad : is_bad_name part i ≡ true = rw (names_after part i names rest h.at, e, are_foreign_names-push names name, h.lawful, unlawful) refl in bad_here part count i names rest h lt bad

-- the next name is lawful
pub goes_on : (part : List ℕ) (count i : ℕ) (names : List (List ℕ)) (rest name after : List ℕ) → HasRead part count i names rest → i < count → front_name rest ≡ Some (name, after)
    → (is_short_foreign_name name && not (list_any (λ other. bytes_eq other name) names)) ≡ true → HasRead part count (i + 1) (names ++ name ∷ []) after
goes_on part count i names rest name after h lt e lawful =
    let k : count - i ≡ suc (count - (i + 1)) = omega arith in
    let more : are_foreign_names (names ++ name ∷ []) ≡ true = rw (are_foreign_names-push names name, h.lawful, lawful) refl in
    let good : is_bad_name part i ≡ false = rw (names_after part i names rest h.at, e, more) refl in
    let here : first_fault (name_tests part i (count - i)) ≡ first_fault (name_tests part (i + 1) (count - (i + 1))) = rw (k, good) refl in
    record { at = rw (names_after part i names rest h.at, e) refl; lawful = more; left = sym here ∙ h.left }

pub is_done : (part : List ℕ) (count i : ℕ) (names : List (List ℕ)) (rest : List ℕ) → HasRead part count i names rest → count ≤ i → first_fault (name_tests part 0 count) ≡ None
is_done part count i names rest h le =
    let k : count - i ≡ 0 = omega arith in
    let here : first_fault (name_tests part i (count - i)) ≡ None = rw k refl in
    sym h.left ∙ here

-- ---- the set of the names so far

abbrev pub ref_cmp : Bor (List ℕ) → Bor (List ℕ) → Ordering
ref_cmp x y = slice_cmp nat_cmp x.now y.now

pub record HasSeen (seen : BTreeSet (Bor (List ℕ))) (names : List (List ℕ)) : Type 0 where
  pub same : (q : Bor (List ℕ)) → sorted.contains ref_cmp seen q ≡ list_any (λ other. bytes_eq other q.now) names

pub HasSeen-push : (seen new : BTreeSet (Bor (List ℕ))) (names : List (List ℕ)) (name : Bor (List ℕ)) → HasSeen seen names → sorted.Updates ref_cmp seen new name true → HasSeen new (names ++ name.now ∷ [])
HasSeen-push seen new names name h u = record {
  same = λ q. u.0 q
      ∙ rw (is_eq-slice_cmp name.now q.now, h.same q, list_any-append (λ other. bytes_eq other q.now) names (name.now ∷ [])) (turn (bytes_eq name.now q.now) (list_any (λ other. bytes_eq other q.now) names));
}
  where
    turn : (a b : Bool) → cond a true b ≡ (b || (a || false))
    turn true true = refl
    turn true false = refl
    turn false true = refl
    turn false false = refl

pub HasSeen-start : (seen : BTreeSet (Bor (List ℕ))) → sorted.IsEmpty seen → HasSeen seen []
HasSeen-start seen e = record { same = λ q. rw e refl }
