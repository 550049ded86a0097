-- Rows of names.
use Rattle.std.proofs.Common.{◌≡◌, ℕ, Bool, true, false, if◌then◌else◌, List, [], ◌∷◌, ◌++◌, map, position, length, cond, nat_lt, Option, Some, None, refl, sym, ap, ◌∙◌}
use Rattle.std.specs.List.{list_any, position_or_len}
use Rattle.std.proofs.lemmas.List.{length-map}
use Rattle.std.specs.Str.{bytes_eq}
use Rattle.std.specs.Bool.{one_answer}
use Rattle.std.proofs.lemmas.Slice.Eq.{bytes_eq-Decides}
use Rattle.pan_tree.specs.Check.{with_name}
use denote.Ref.{Bor}

pub flips : (x y : List ℕ) → bytes_eq x y ≡ bytes_eq y x
flips x y = one_answer (bytes_eq x y) (bytes_eq y x) (bytes_eq-Decides x y) ((λ h. sym ((bytes_eq-Decides y x).0 h)), (λ e. (bytes_eq-Decides y x).1 (sym e)))

abbrev pub now_of : List (Bor (List ℕ)) → List (List ℕ)
now_of ks = map (λ (k : Bor (List ℕ)). k.now) ks

pub any_now : (q : List ℕ) (ks : List (Bor (List ℕ))) → list_any (λ (k : Bor (List ℕ)). bytes_eq q k.now) ks ≡ list_any (λ y. bytes_eq y q) (now_of ks)
any_now q [] = refl
any_now q (k ∷ ks) = rw (flips q k.now, any_now q ks) refl

place_now : (q : List ℕ) (ks : List (Bor (List ℕ))) → position_or_len (λ (k : Bor (List ℕ)). bytes_eq q k.now) ks ≡ position_or_len (λ y. bytes_eq y q) (now_of ks)
place_now q [] = refl
place_now q (k ∷ ks) = rw (flips q k.now, place_now q ks) refl

pub position_now : (q : List ℕ) (ks : List (Bor (List ℕ))) → position (λ (k : Bor (List ℕ)). bytes_eq q k.now) ks ≡ position (λ y. bytes_eq y q) (now_of ks)
position_now q ks =
    let there : ℕ → ℕ → Option ℕ = λ (at n : ℕ). cond (nat_lt at n) (Some at) None in
    ap (λ at. there at (length ks)) (place_now q ks) ∙ ap (there (position_or_len (λ y. bytes_eq y q) (now_of ks))) (sym (length-map ks (λ (k : Bor (List ℕ)). k.now)))

now_snoc : (ks : List (Bor (List ℕ))) (k : Bor (List ℕ)) → now_of (ks ++ k ∷ []) ≡ now_of ks ++ k.now ∷ []
now_snoc [] k = refl
now_snoc (x ∷ xs) k = ap (λ ys. x.now ∷ ys) (now_snoc xs k)

-- a name is added to the row that is seen
pub add_now : (ks : List (Bor (List ℕ))) (k : Bor (List ℕ)) → now_of (if list_any (λ (y : Bor (List ℕ)). bytes_eq k.now y.now) ks then ks else ks ++ k ∷ []) ≡ with_name k.now (now_of ks)
add_now ks k = rw (any_now k.now ks) (by (list_any (λ y. bytes_eq y k.now) (now_of ks)))
  where
    by : (b : Bool) → now_of (if b then ks else ks ++ k ∷ []) ≡ (if b then now_of ks else now_of ks ++ k.now ∷ [])
    by true = refl
    by false = now_snoc ks k
