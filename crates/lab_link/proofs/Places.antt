-- What is found at an address, and where labels stand.
use Rattle.std.proofs.Common.{◌≡◌, ℕ, ◌+◌, ◌*◌, ◌%◌, ◌≤◌, refl, sym, ap, ◌∙◌, subst, List, [], ◌∷◌, length, map, Bool, true, false, cond, Option, Some, None, inl, inr, arith}
use Rattle.std.specs.Prelude.{◌⊎◌, ◌==◌, ◌&&◌, nat_lt}
use Rattle.std.proofs.lemmas.Bool.Decides.{nat_tests}
use Rattle.pan_stage.specs.Sums.{sum_of}
use Rattle.riscv_isa.specs.Held.{AreAt}
use Rattle.riscv_isa.proofs.Fetching.{at_append}
use Rattle.lab_lang.specs.declared.syntax.Line.{Line}
use Rattle.lab_lang.specs.declared.syntax.Line.TheVariants.{Label, Plain, Jump, Branch, CallTo, Address, JumpReg}
use Rattle.lab_lang.specs.Layout.{shortest, longest, IsLayout, address_of, Laid, found, is_label, address}
use Rattle.lab_link.specs.Lowered.{jump_by, lowered, all_lowered}
use Rattle.lab_link.specs.Linked.{HasWord, HaveWords}
use Rattle.lab_link.proofs.Jumps.{IsPlace}

-- one of a line's two numbers of instructions
abbrev pub Counts : Line → ℕ → Type 0
Counts x n = (n ≡ shortest x) ⊎ (n ≡ longest x)

-- how many instructions a layout has
abbrev pub total : List (ℕ × ℕ) → ℕ
total [] = 0
total (y ∷ ys) = y.1 + total ys

-- how many instructions lines have at most
abbrev pub span : List Line → ℕ
span lines = sum_of (map longest lines)

-- the line at an address has its instructions there
pub record IsFound (f : ℕ → Option ℕ) (code : List ℕ) (x : Laid) (at : ℕ) : Type 0 where
  pub place : IsPlace at
  pub after : IsPlace (at + 4 * x.count)
  pub counts : Counts x.line x.count
  pub held : AreAt (lowered x.line x.count at f) code at

abbrev pub AllFound : (ℕ → Option ℕ) → List ℕ → Option Laid → ℕ → Type 0
AllFound f code None at = Unit {0}
AllFound f code (Some x) at = IsFound f code x at

jump_long : (rd by from to : ℕ) (n : ℕ) → (n ≡ 1) ⊎ (n ≡ 2) → length (jump_by n rd by from to) ≡ n
jump_long rd by from to n (inl e) = rw e refl
jump_long rd by from to n (inr e) = rw e refl

pub lowered_long : (x : Line) (n at : ℕ) (f : ℕ → Option ℕ) → Counts x n → length (lowered x n at f) ≡ n
lowered_long (Label l) n at f (inl e) = sym e
lowered_long (Label l) n at f (inr e) = sym e
lowered_long (Plain i) n at f (inl e) = sym e
lowered_long (Plain i) n at f (inr e) = sym e
lowered_long (Jump l) n at f h = jump_long 0 9 at _ n h
lowered_long (Branch op a b l) n at f (inl e) = rw e refl
lowered_long (Branch op a b l) n at f (inr e) = rw e refl
lowered_long (CallTo l) n at f h = jump_long 1 1 at _ n h
lowered_long (Address rd l) n at f (inl e) = sym e
lowered_long (Address rd l) n at f (inr e) = sym e
lowered_long (JumpReg r) n at f (inl e) = sym e
lowered_long (JumpReg r) n at f (inr e) = sym e

module _ (f : ℕ → Option ℕ) (code : List ℕ) where
  pub found_is : (place : ℕ) (xs : List Line) (ys : List (ℕ × ℕ)) (at : ℕ) → IsLayout place xs ys → place % 4 ≡ 0 → place + 4 * total ys ≤ 0x30000000
      → AreAt (all_lowered xs ys f) code (address_of place) → AllFound f code (found xs ys at) at
  found_is place [] ys at lay whole near held = tt
  found_is place (x ∷ xs) [] at lay whole near held = tt
  found_is place (x ∷ xs) (y ∷ ys) at lay whole near held = by_test (nat_lt 0 y.1 && address_of y.0 == at) refl (found_is (place + 4 * y.1) xs ys at lay.2 (omega arith) (omega arith) rest)
    where
      parts : AreAt (lowered x y.1 (address_of y.0) f) code (address_of place) × AreAt (all_lowered xs ys f) code (address_of place + 4 * length (lowered x y.1 (address_of y.0) f))
      parts = at_append (lowered x y.1 (address_of y.0) f) (all_lowered xs ys f) code (address_of place) held

      rest : AreAt (all_lowered xs ys f) code (address_of (place + 4 * y.1))
      rest =
          let e : address_of place + 4 * length (lowered x y.1 (address_of y.0) f) ≡ address_of (place + 4 * y.1) = let n = lowered_long x y.1 (address_of y.0) f lay.1 in omega arith in
          subst (AreAt (all_lowered xs ys f) code) e parts.1

      by_test : (b : Bool) → (nat_lt 0 y.1 && address_of y.0 == at) ≡ b → AllFound f code (found xs ys at) at → AllFound f code (cond b (Some (record { line = x; count = y.1 })) (found xs ys at)) at
      by_test true is later =
          let here : address_of y.0 ≡ at = grind (arith, nat_tests) in
          let e : address_of place ≡ at = ap address_of (sym lay.0) ∙ here in
          let counts : Counts x y.1 = lay.1 in
          record {
            place = record { near = record { low = omega arith; high = omega arith }; whole = omega arith };
            after = record { near = record { low = omega arith; high = omega arith }; whole = omega arith };
            counts = counts;
            held = subst (λ a. AreAt (lowered x y.1 a f) code at) here (subst (AreAt (lowered x y.1 (address_of y.0) f) code) e parts.0);
          }
      by_test false is later = later

-- where the label stands is an address of the code
abbrev pub AllPlaces : Option ℕ → Type 0
AllPlaces None = Unit {0}
AllPlaces (Some at) = IsPlace at

pub address_is : (place : ℕ) (xs : List Line) (ys : List (ℕ × ℕ)) (l : ℕ) → IsLayout place xs ys → place % 4 ≡ 0 → place + 4 * total ys ≤ 0x30000000 → AllPlaces (address xs ys l)
address_is place [] ys l lay whole near = tt
address_is place (x ∷ xs) [] l lay whole near = tt
address_is place (x ∷ xs) (y ∷ ys) l lay whole near = by_test (is_label x l) (address_is (place + 4 * y.1) xs ys l lay.2 (omega arith) (omega arith))
  where
    by_test : (b : Bool) → AllPlaces (address xs ys l) → AllPlaces (cond b (Some (address_of y.0)) (address xs ys l))
    by_test true later = let e = lay.0 in record { near = record { low = omega arith; high = omega arith }; whole = omega arith }
    by_test false later = later

-- the words of plain lines
has_word : (f : ℕ → Option ℕ) (code : List ℕ) (x : Line) (n at : ℕ) → AreAt (lowered x n at f) code at → HasWord x code at
has_word f code (Plain i) n at h = h.0
has_word f code (Label l) n at h = tt
has_word f code (Jump l) n at h = tt
has_word f code (Branch op a b l) n at h = tt
has_word f code (CallTo l) n at h = tt
has_word f code (Address rd l) n at h = tt
has_word f code (JumpReg r) n at h = tt

pub have_words : (f : ℕ → Option ℕ) (code : List ℕ) (place : ℕ) (xs : List Line) (ys : List (ℕ × ℕ)) → IsLayout place xs ys → AreAt (all_lowered xs ys f) code (address_of place) → HaveWords xs ys code
have_words f code place [] ys lay held = tt
have_words f code place (x ∷ xs) [] lay held = tt
have_words f code place (x ∷ xs) (y ∷ ys) lay held =
    let parts = at_append (lowered x y.1 (address_of y.0) f) (all_lowered xs ys f) code (address_of place) held in
    let e : address_of place + 4 * length (lowered x y.1 (address_of y.0) f) ≡ address_of (place + 4 * y.1) = let n = lowered_long x y.1 (address_of y.0) f lay.1 in omega arith in
    let here : address_of place ≡ address_of y.0 = ap address_of (sym lay.0) in (
      has_word f code x y.1 (address_of y.0) (subst (AreAt (lowered x y.1 (address_of y.0) f) code) here parts.0),
      have_words f code (place + 4 * y.1) xs ys lay.2 (subst (AreAt (all_lowered xs ys f) code) e parts.1),
    )
