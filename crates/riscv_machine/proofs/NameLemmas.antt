-- A lawful name of a foreign function has no line feed.
use Rattle.std.proofs.Common.{◌≡◌, ℕ, ◌<◌, zero, suc, refl, sym, subst, ◌∙◌, arith, List, [], ◌∷◌, length, get_or, Bool, true, false}
use Rattle.std.specs.Prelude.{◌==◌, ◌&&◌, not, nat_le, codes}
use Rattle.std.specs.List.{list_all, list_any}
use Rattle.std.specs.Str.{bytes_eq}
use Rattle.std.proofs.lemmas.Bool.{false≢true, eqb-true, and_parts}
use Rattle.pan_base.specs.Names.{is_word_byte, is_letter, is_spelled, is_foreign_name, is_short_foreign_name}
use Rattle.riscv_isa.specs.Image.{are_foreign_names}

abbrev is_no_feed : ℕ → Bool
is_no_feed b = not (b == 10)

-- a byte at which the line feed's value would be false
differs : (p : ℕ → Bool) (b : ℕ) → p 10 ≡ false → p b ≡ true → (v : Bool) → (b == 10) ≡ v → not v ≡ true
differs p b lacks has true e = let same : b ≡ 10 = eqb-true b 10 e in absurd (false≢true (sym lacks ∙ subst (λ n. p n ≡ true) same has))
differs p b lacks has false e = refl

word_byte : (b : ℕ) → is_word_byte b ≡ true → is_no_feed b ≡ true
word_byte b h = differs is_word_byte b refl h (b == 10) refl

letter : (b : ℕ) → is_letter b ≡ true → is_no_feed b ≡ true
letter b h = differs is_letter b refl h (b == 10) refl

both : (a b : Bool) → a ≡ true → b ≡ true → (a && b) ≡ true
both a b p q = rw (p, q) refl

word_bytes : (bs : List ℕ) → list_all is_word_byte bs ≡ true → list_all is_no_feed bs ≡ true
word_bytes [] h = refl
word_bytes (b ∷ bs) h =
    let p = and_parts (is_word_byte b) (list_all is_word_byte bs) h in
    both (is_no_feed b) (list_all is_no_feed bs) (word_byte b p.0) (word_bytes bs p.1)

spelled : (name : List ℕ) → is_spelled name ≡ true → list_all is_no_feed name ≡ true
spelled [] h = refl
spelled (b ∷ bs) h =
    let p = and_parts (is_letter b) (list_all is_word_byte bs) h in
    both (is_no_feed b) (list_all is_no_feed bs) (letter b p.0) (word_bytes bs p.1)

foreign : (name : List ℕ) → is_short_foreign_name name ≡ true → list_all is_no_feed name ≡ true
foreign name h =
    let base = not (bytes_eq name (codes "base")) in
    let biw = not (bytes_eq name (codes "biw")) in
    let p = and_parts (is_foreign_name name) (nat_le (length name) 64) h in
    let q = and_parts (is_spelled name && base) biw p.0 in
    spelled name (and_parts (is_spelled name) base q.0).0

-- each name of lawful names
pub no_feeds : (names : List (List ℕ)) (i : ℕ) (d : List ℕ) → are_foreign_names names ≡ true → i < length names → list_all (λ b. not (b == 10)) (get_or names i d) ≡ true
no_feeds [] i d h lt = absurd (omega arith)
no_feeds (name ∷ names) zero d h lt =
    let differs = not (list_any (λ other. bytes_eq other name) names) in
    let p = and_parts (is_short_foreign_name name && differs) (are_foreign_names names) h in
    foreign name (and_parts (is_short_foreign_name name) differs p.0).0
no_feeds (name ∷ names) (suc i) d h lt =
    let differs = not (list_any (λ other. bytes_eq other name) names) in
    let p = and_parts (is_short_foreign_name name && differs) (are_foreign_names names) h in
    no_feeds names i d p.1 (omega arith)
