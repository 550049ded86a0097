-- Decimal numbers are spellings of their numbers.
use Rattle.std.proofs.Common.{◌≡◌, ℕ, ◌+◌, ◌*◌, ◌/◌, ◌%◌, ◌^◌, ◌<◌, ◌≤◌, Bool, true, false, ◌&&◌, List, [], ◌∷◌, ◌++◌, refl, sym, ap, ◌∙◌, arith}
use Rattle.std.specs.Prelude.{decimal}
use Rattle.std.specs.List.{list_all}
use Rattle.std.proofs.lemmas.Fmt.{decimal_by_steps}
use Rattle.std.proofs.lemmas.Bool.Decides.{nat_tests}
use Rattle.pan_base.specs.Names.{is_digit}
use Rattle.pan_base.specs.Spelling.{digit_value, value_after, IsNumeral, Decimal}

-- the digits of a number, the first and the others
record Digits (n : ℕ) (ds : List ℕ) : Type 0 where
  first : ℕ
  others : List ℕ
  some : ds ≡ first ∷ others
  digits : list_all is_digit ds ≡ true
  value : value_after 10 0 ds ≡ n

last_digit : (r : ℕ) → r < 10 → is_digit (48 + r) ≡ true
last_digit r h = grind (arith, nat_tests)

last_value : (r : ℕ) → r < 10 → digit_value (48 + r) ≡ r
last_value r h = grind (arith, nat_tests)

value_append : (n : ℕ) (ds es : List ℕ) → value_after 10 n (ds ++ es) ≡ value_after 10 (value_after 10 n ds) es
value_append n [] es = refl
value_append n (d ∷ ds) es = value_append (n * 10 + digit_value d) ds es

all_append : (p : ℕ → Bool) (ds es : List ℕ) → list_all p ds ≡ true → list_all p es ≡ true → list_all p (ds ++ es) ≡ true
all_append p [] es h g = g
all_append p (d ∷ ds) es h g = both (p d) (list_all p ds) (list_all p (ds ++ es)) h (λ h. all_append p ds es h g)
  where
    both : (a b c : Bool) → a && b ≡ true → (b ≡ true → c ≡ true) → a && c ≡ true
    both true b c h k = k h
    both false b c h k = h

one_digit : (n : ℕ) → n < 10 → Digits n ((48 + n) ∷ [])
one_digit n h = record {
  first = 48 + n;
  others = [];
  some = refl;
  digits = rw (last_digit n h) refl;
  value = rw (last_value n h) (omega arith);
}

one_more : (n : ℕ) (ds : List ℕ) → 10 ≤ n → Digits (n / 10) ds → Digits n (ds ++ (48 + n % 10) ∷ [])
one_more n ds h d =
    let small : n % 10 < 10 = omega arith in
    let last : list_all is_digit ((48 + n % 10) ∷ []) ≡ true = rw (last_digit (n % 10) small) refl in
    record {
      first = d.first;
      others = d.others ++ (48 + n % 10) ∷ [];
      some = ap (λ ds. ds ++ (48 + n % 10) ∷ []) d.some;
      digits = all_append is_digit ds ((48 + n % 10) ∷ []) d.digits last;
      value = value_append 0 ds ((48 + n % 10) ∷ []) ∙ rw (d.value, last_value (n % 10) small) (omega arith);
    }

pub decimal_spells : (n : ℕ) → n < 2 ^ 64 → IsNumeral (decimal n) n
decimal_spells n h =
    let d = decimal_by_steps Digits one_digit one_more n h in
    Decimal d.first d.others d.some (ap (list_all is_digit) (sym d.some) ∙ d.digits) (sym d.value ∙ ap (value_after 10 0) d.some)
