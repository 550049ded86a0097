-- What `numeral` gives is spelled so, and what is spelled so it gives.
use Rattle.std.proofs.Common.{◌≡◌, ℕ, ◌*◌, ◌+◌, ◌^◌, ◌<◌, Bool, true, false, ◌&&◌, eqb, ltb, if◌then◌else◌, List, [], ◌∷◌, drop, take, ◌++◌, codes, Option, Some, None, sym, ap, ◌∙◌, subst, refl, arith}
use Rattle.std.proofs.lemmas.List.{take-append-drop}
use Rattle.std.proofs.lemmas.Slice.Eq.{bytes_eq-Decides}
use Rattle.std.specs.Str.{bytes_eq}
use Rattle.std.specs.List.{list_all}
use Rattle.std.proofs.lemmas.Bool.Decides.{nat_tests}
use Rattle.pan_base.specs.Names.{is_digit}
use Rattle.pan_base.specs.Spelling.{value_after, digit_value, is_hex_digit, number_of_digits, numeral, IsNumeral, Decimal, Hexadecimal}
use Rattle.pan_lexer.proofs.TestLemmas.{both_true}

-- the choice of `number_of_digits`, by its two tests
by_tests : (a b : Bool) (n : ℕ) → Option ℕ
by_tests a b n = if a && b then Some n else None

by_tests_some : (a b : Bool) (n m : ℕ) → by_tests a b n ≡ Some m → (a ≡ true) × (b ≡ true) × (m ≡ n)
unfolding by_tests
by_tests_some true true n m e = (refl, refl, cc)
by_tests_some true false n m e = absurd (cc)
by_tests_some false b n m e = absurd (cc)

by_tests_both : (a b : Bool) (n : ℕ) → a ≡ true → b ≡ true → by_tests a b n ≡ Some n
unfolding by_tests
by_tests_both a b n p q = rw (p, q) refl

-- what `number_of_digits` gives
record Value (base : ℕ) (is_one : ℕ → Bool) (ds : List ℕ) (n : ℕ) : Type 0 where
  first : ℕ
  others : List ℕ
  some : ds ≡ first ∷ others
  digits : list_all is_one (first ∷ others) ≡ true
  value : n ≡ value_after base 0 (first ∷ others)
  small : n < 2 ^ 64

value_of_some : (base : ℕ) (is_one : ℕ → Bool) (ds : List ℕ) (n : ℕ) → number_of_digits base is_one ds ≡ Some n → Value base is_one ds n
unfolding by_tests
value_of_some base is_one [] n e = absurd (cc)
value_of_some base is_one (d ∷ ds) n e =
    let p = by_tests_some (list_all is_one (d ∷ ds)) (ltb (value_after base (0 * base + digit_value d) ds) (2 ^ 64)) (value_after base (0 * base + digit_value d) ds) n e in
    record { first = d; others = ds; some = refl; digits = p.0; value = p.2; small = grind (arith, nat_tests) }

begins_0x : (word : List ℕ) → bytes_eq (codes "0x") (take 2 word) ≡ true → word ≡ codes "0x" ++ drop 2 word
begins_0x word e = sym (take-append-drop 2 word) ∙ ap (λ front. front ++ drop 2 word) (sym ((bytes_eq-Decides (codes "0x") (take 2 word)).0 e))

-- what `numeral` gives is spelled so
pub numeral_spelled : (word : List ℕ) (n : ℕ) → numeral word ≡ Some n → IsNumeral word n × (n < 2 ^ 64)
numeral_spelled word n e = by_test (bytes_eq (codes "0x") (take 2 word)) refl e
  where
    by_test : (t : Bool) → bytes_eq (codes "0x") (take 2 word) ≡ t → (if t then number_of_digits 16 is_hex_digit (drop 2 word) else number_of_digits 10 is_digit word) ≡ Some n → IsNumeral word n × (n < 2 ^ 64)
    by_test true is e =
        let v = value_of_some 16 is_hex_digit (drop 2 word) n e in
        (Hexadecimal v.first v.others (begins_0x word is ∙ ap (λ ds. codes "0x" ++ ds) v.some) v.digits v.value, v.small)
    by_test false is e = let v = value_of_some 10 is_digit word n e in (Decimal v.first v.others v.some v.digits v.value, v.small)

and_false : (a : Bool) → (a && false) ≡ false
and_false true = refl
and_false false = refl

digit_no_x : (b : ℕ) → is_digit b ≡ true → eqb 120 b ≡ false
digit_no_x b h = grind (arith, nat_tests)

-- no word of decimal digits begins with 0x
decimal_no_0x : (d : ℕ) (ds : List ℕ) → list_all is_digit (d ∷ ds) ≡ true → bytes_eq (codes "0x") (take 2 (d ∷ ds)) ≡ false
decimal_no_0x d [] all = and_false (eqb 48 d)
decimal_no_0x d (e ∷ ds) all =
    let digit = (both_true (is_digit e) (list_all is_digit ds) (both_true (is_digit d) (list_all is_digit (e ∷ ds)) all).1).0 in
    rw (digit_no_x e digit) (and_false (eqb 48 d))

number_of_small : (base : ℕ) (is_one : ℕ → Bool) (d : ℕ) (ds : List ℕ) (n : ℕ) → list_all is_one (d ∷ ds) ≡ true → n ≡ value_after base 0 (d ∷ ds) → n < 2 ^ 64 → number_of_digits base is_one (d ∷ ds) ≡ Some n
unfolding by_tests
number_of_small base is_one d ds n all value small =
    let under : value_after base (0 * base + digit_value d) ds < 2 ^ 64 = subst (λ m. m < 2 ^ 64) value small in
    let fits : ltb (value_after base (0 * base + digit_value d) ds) (2 ^ 64) ≡ true = grind (arith, nat_tests) in
    by_tests_both _ _ _ all fits ∙ ap Some (sym value)

-- what is spelled so is what `numeral` gives
pub numeral_is : (word : List ℕ) (n : ℕ) → IsNumeral word n → n < 2 ^ 64 → numeral word ≡ Some n
numeral_is word n (Decimal d ds is all value) small = ap numeral is ∙ rw (decimal_no_0x d ds all) (number_of_small 10 is_digit d ds n all value small)
numeral_is word n (Hexadecimal d ds is all value) small = ap numeral is ∙ number_of_small 16 is_hex_digit d ds n all value small
