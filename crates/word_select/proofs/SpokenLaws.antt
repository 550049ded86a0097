-- Of which variables facts speak.
use Rattle.std.proofs.Common.{◌≡◌, ◌⊎◌, inl, inr, ℕ, zero, suc, Bool, true, false, List, [], ◌∷◌, take, Option, Some, None, refl, subst}
use Rattle.std.specs.Prelude.{nat_eq, ◌||◌, if◌then◌else◌}
use Rattle.pan_base.specs.declared.operators.BinOp.{BinOp}
use Rattle.pan_base.specs.declared.operators.BinOp.TheVariants as bin_op
use Rattle.pan_flow.specs.Flow.{has}
use Rattle.word_lang.specs.Text.{variables_of, variables_read}
use Rattle.word_select.specs.declared.facts.Fact.{Fact}
use Rattle.word_select.specs.declared.facts.Fact.TheVariants.{Number, Sum, Compared}
use Rattle.word_select.specs.declared.operands.Address.{Address}
use Rattle.word_select.specs.Facts.{about, is_touched, Facts, forget, most_facts, learn, found, number_at, immediate_of, negated}
use Rattle.word_select.specs.Selected.{operation_facts, operand_of, operand, test_by, test_at, at_itself, address_by, address_at}
use Rattle.word_select.proofs.Above.{or_cases, or_left, or_right, same, test_of, has_here, has_there, has_cases, has_one}
use Rattle.word_select.proofs.FactLaws.{when_case}

-- some fact speaks of the variable
abbrev pub spoken : ℕ → Facts → Bool
spoken z [] = false
spoken z (p ∷ ps) = about z p.fact || spoken z ps

-- where the first set of facts speaks of a variable, P holds of it
abbrev pub Speak : Facts → (ℕ → Type 0) → Type 0
Speak ps P = (z : ℕ) → spoken z ps ≡ true → P z

abbrev pub IsSpoken : Facts → ℕ → Type 0
IsSpoken ps z = spoken z ps ≡ true

-- one of these variables, or one of which is spoken
abbrev pub IsOneOf : List ℕ → Facts → ℕ → Type 0
IsOneOf ys ps z = (has ys z ≡ true) ⊎ (spoken z ps ≡ true)

spoken_more : (x : ℕ) (ps qs : Facts) (z : ℕ) → (spoken z qs ≡ true → spoken z ps ≡ true) → (f : Fact) → (about z f || spoken z qs) ≡ true → (about z f || spoken z ps) ≡ true
spoken_more x ps qs z h f k = elim (or_cases (about z f) (spoken z qs) k) [ inl l ↦ or_left (about z f) (spoken z ps) l | inr m ↦ or_right (about z f) (spoken z ps) (h m) ]

pub forget_spoken : (x : ℕ) (ps : Facts) → Speak (forget x ps) (IsSpoken ps)
forget_spoken x [] z h = h
forget_spoken x (p ∷ ps) z h = by (is_touched x p) h (forget_spoken x ps z)
  where
    by : (b : Bool) → spoken z (if b then forget x ps else p ∷ forget x ps) ≡ true → (spoken z (forget x ps) ≡ true → spoken z ps ≡ true) → spoken z (p ∷ ps) ≡ true
    by true h others = or_right (about z p.fact) (spoken z ps) (others h)
    by false h others = spoken_more x ps (forget x ps) z others p.fact h

take_spoken : (k : ℕ) (ps : Facts) → Speak (take k ps) (IsSpoken ps)
take_spoken zero ps z h = absurd (cc h)
take_spoken (suc k) [] z h = h
take_spoken (suc k) (p ∷ ps) z h = spoken_more z ps (take k ps) z (take_spoken k ps z) p.fact h

pub learn_spoken : (x : ℕ) (f : Fact) (ps : Facts) → Speak (learn x f ps) (λ z. (about z f ≡ true) ⊎ (spoken z ps ≡ true))
learn_spoken x f ps z h = by (about x f) h
  where
    by : (b : Bool) → spoken z (if b then forget x ps else record { variable = x; fact = f } ∷ forget x (take most_facts ps)) ≡ true → (about z f ≡ true) ⊎ (spoken z ps ≡ true)
    by true h = inr (forget_spoken x ps z h)
    by false h = elim (or_cases (about z f) (spoken z (forget x (take most_facts ps))) h) [ inl l ↦ inl l | inr m ↦ inr (take_spoken most_facts ps z (forget_spoken x (take most_facts ps) z m)) ]

-- a fact of a sum speaks of a variable of the row
sum_spoken : (x a c : ℕ) (ys : List ℕ) (ps : Facts) → ((z : ℕ) → z ≡ a → has ys z ≡ true) → Speak (learn x (Sum a c) ps) (IsOneOf ys ps)
sum_spoken x a c ys ps among z h = elim (learn_spoken x (Sum a c) ps z h) [ inl l ↦ inl (among z (same z a l)) | inr m ↦ inr m ]

forgotten : (x : ℕ) (ys : List ℕ) (ps : Facts) → Speak (forget x ps) (IsOneOf ys ps)
forgotten x ys ps z h = inr (forget_spoken x ps z h)

pub operation_spoken : (o : BinOp) (x a b : ℕ) (ps : Facts) → Speak (operation_facts o x a b ps) (IsOneOf (a ∷ b ∷ []) ps)
operation_spoken bin_op.Add x a b ps =
    when_case (λ qs. Speak qs (IsOneOf (a ∷ b ∷ []) ps)) (number_at b ps) _ _ (λ c e. sum_spoken x a c (a ∷ b ∷ []) ps (λ z is. has_here a (b ∷ []) z is))
    (when_case (λ qs. Speak qs (IsOneOf (a ∷ b ∷ []) ps)) (number_at a ps) _ _ (λ c e. sum_spoken x b c (a ∷ b ∷ []) ps (λ z is. has_there a (b ∷ []) z (has_here b [] z is))) (forgotten x (a ∷ b ∷ []) ps))
operation_spoken bin_op.Sub x a b ps =
    when_case (λ qs. Speak qs (IsOneOf (a ∷ b ∷ []) ps)) (number_at b ps) _ _ (λ c e. sum_spoken x a (negated c) (a ∷ b ∷ []) ps (λ z is. has_here a (b ∷ []) z is)) (forgotten x (a ∷ b ∷ []) ps)
operation_spoken bin_op.Mul x a b ps = forgotten x (a ∷ b ∷ []) ps
operation_spoken bin_op.And x a b ps = forgotten x (a ∷ b ∷ []) ps
operation_spoken bin_op.Or x a b ps = forgotten x (a ∷ b ∷ []) ps
operation_spoken bin_op.Xor x a b ps = forgotten x (a ∷ b ∷ []) ps

-- what is found speaks of what is spoken of
pub found_spoken : (x : ℕ) (ps : Facts) (f : Fact) → found x ps ≡ Some f → (z : ℕ) → about z f ≡ true → spoken z ps ≡ true
found_spoken x [] f e z h = absurd (cc e)
found_spoken x (p ∷ ps) f e z h = by (nat_eq x p.variable) e (λ e. found_spoken x ps f e z h)
  where
    by : (b : Bool) → (if b then Some p.fact else found x ps) ≡ Some f → (found x ps ≡ Some f → spoken z ps ≡ true) → (about z p.fact || spoken z ps) ≡ true
    by true e others = let is : f ≡ p.fact = cc e in or_left (about z p.fact) (spoken z ps) (subst (λ f. about z f ≡ true) is h)
    by false e others = or_right (about z p.fact) (spoken z ps) (others e)

-- ---- tests and addresses

operand_read : (x : ℕ) (ps : Facts) (os : List (Option ℕ)) (z : ℕ) → has (variables_of (operand x ps ∷ os)) z ≡ true → (z ≡ x) ⊎ (has (variables_of os) z ≡ true)
operand_read x ps os z h = by (number_at x ps) h
  where
    by : (o : Option ℕ) → has (variables_of (operand_of o x ∷ os)) z ≡ true → (z ≡ x) ⊎ (has (variables_of os) z ≡ true)
    by None h = has_cases x (variables_of os) z h
    by (Some zero) h = inr h
    by (Some (suc n)) h = has_cases x (variables_of os) z h

-- a test reads the variable, or variables of which is spoken
pub test_read : (x : ℕ) (ps : Facts) (z : ℕ) → has (variables_read (test_at x ps)) z ≡ true → (z ≡ x) ⊎ (spoken z ps ≡ true)
test_read x ps z h = by (found x ps) (λ f e. found_spoken x ps f e z) h
  where
    by : (o : Option Fact) → ((f : Fact) → o ≡ Some f → about z f ≡ true → spoken z ps ≡ true) → has (variables_read (test_by o x ps)) z ≡ true → (z ≡ x) ⊎ (spoken z ps ≡ true)
    by None g h = inl (has_one x z h)
    by (Some (Number zero)) g h = absurd (cc h)
    by (Some (Number (suc n))) g h = absurd (cc h)
    by (Some (Sum a c)) g h = inl (has_one x z h)
    by (Some (Compared t a b)) g h = elim (operand_read a ps (operand b ps ∷ []) z h) [
      | inl e ↦ inr (g (Compared t a b) refl (or_left (nat_eq z a) (nat_eq z b) (test_of z a e)))
      | inr m ↦ elim (operand_read b ps [] z m) [ inl e ↦ inr (g (Compared t a b) refl (or_right (nat_eq z a) (nat_eq z b) (test_of z b e))) | inr n ↦ absurd (cc n) ]
    ]

-- so is the variable of an address
pub base_read : (x : ℕ) (ps : Facts) (z : ℕ) → z ≡ (address_at x ps).base → (z ≡ x) ⊎ (spoken z ps ≡ true)
base_read x ps z h = by (found x ps) (λ f e. found_spoken x ps f e z) h
  where
    by : (o : Option Fact) → ((f : Fact) → o ≡ Some f → about z f ≡ true → spoken z ps ≡ true) → z ≡ (address_by o x).base → (z ≡ x) ⊎ (spoken z ps ≡ true)
    by None g h = inl h
    by (Some (Number n)) g h = inl h
    by (Some (Compared t a b)) g h = inl h
    by (Some (Sum a c)) g h = (when_case (λ (at : Address). z ≡ at.base → (z ≡ x) ⊎ (spoken z ps ≡ true)) (immediate_of c) (λ i. record { base = a; offset = i }) (at_itself x) (λ i e k. inr (g (Sum a c) refl (test_of z a k))) (λ k. inl k)) h
