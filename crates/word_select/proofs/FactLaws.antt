-- What is known holds on, and what immediates are.
use Rattle.std.proofs.Common.{◌≡◌, ◌≢◌, ℕ, zero, suc, ◌+◌, ◌-◌, ◌%◌, ◌^◌, ◌<◌, Bool, true, false, [], ◌∷◌, take, Option, Some, None, arith, refl, sym, ap, subst, ◌∙◌}
use Rattle.std.specs.Prelude.{ℤ, pos, negsuc, nat_eq, nat_lt, ◌||◌, if◌then◌else◌, option_and_then}
use Rattle.std.proofs.lemmas.Bool.Decides.{nat_tests}
use Rattle.std.proofs.Math.Nat.{add-mod-mod}
use Rattle.pan_base.specs.Words.{truth}
use Rattle.pan_stage.specs.Locals.{Locals}
use Rattle.pan_base.specs.Results.{plus, immediate}
use Rattle.word_select.specs.declared.facts.Fact.{Fact}
use Rattle.word_select.specs.declared.facts.Fact.TheVariants.{Number, Sum, Compared}
use Rattle.word_select.specs.Facts.{value_of, about, is_touched, Facts, Holds, forget, most_facts, learn, found, when, number_of, number_at, immediate_of, immediate_at, negated, negated_at, exponent_below, exponent_of, exponent_at}

pub then_some : {A B : Type 0} (f : A → Option B) (o : Option A) (b : B) → option_and_then f o ≡ Some b → (a : A) × (o ≡ Some a) × (f a ≡ Some b)
then_some f None b h = absurd cc
then_some f (Some a) b h = (a, refl, h)

pub when_case : {A B : Type 0} (P : B → Type 0) (o : Option A) (f : A → B) (b : B) → ((a : A) → o ≡ Some a → P (f a)) → P b → P (when o f b)
when_case P None f b h g = g
when_case P (Some a) f b h g = h a refl

or_false : (a b : Bool) → a || b ≡ false → (a ≡ false) × (b ≡ false)
or_false true b h = absurd cc
or_false false b h = (refl, h)

differ : (x y : ℕ) → nat_eq x y ≡ false → y ≢ x
differ x y h e = grind (arith, nat_tests)

-- ---- facts

-- a fact that doesn't speak of x holds on where only x is written
value_same : (f : Fact) (x : ℕ) (u u' : Locals) → about x f ≡ false → ((y : ℕ) → y ≢ x → u' y ≡ u y) → value_of f u' ≡ value_of f u
value_same (Number c) x u u' n rest = refl
value_same (Sum a c) x u u' n rest = ap (λ m. (m + c) % 2 ^ 64) (rest a (differ x a n))
value_same (Compared c a b) x u u' n rest = let p = or_false (nat_eq x a) (nat_eq x b) n in ap (λ m. truth c m (u' b)) (rest a (differ x a p.0)) ∙ ap (truth c (u a)) (rest b (differ x b p.1))

pub holds_forget : (ps : Facts) (x : ℕ) (u u' : Locals) → ((y : ℕ) → y ≢ x → u' y ≡ u y) → Holds ps u → Holds (forget x ps) u'
holds_forget [] x u u' rest h = tt
holds_forget (p ∷ ps) x u u' rest h = by (is_touched x p) refl (holds_forget ps x u u' rest h.1)
  where
    by : (b : Bool) → is_touched x p ≡ b → Holds (forget x ps) u' → Holds (if b then forget x ps else p ∷ forget x ps) u'
    by true e others = others
    by false e others =
        let n = or_false (nat_eq x p.variable) (about x p.fact) e in
        (rest p.variable (differ x p.variable n.0) ∙ h.0 ∙ sym (value_same p.fact x u u' n.1 rest), others)

holds_take : (k : ℕ) (ps : Facts) (u : Locals) → Holds ps u → Holds (take k ps) u
holds_take zero ps u h = tt
holds_take (suc k) [] u h = tt
holds_take (suc k) (p ∷ ps) u h = (h.0, holds_take k ps u h.1)

pub holds_learn : (ps : Facts) (x : ℕ) (f : Fact) (u u' : Locals) → ((y : ℕ) → y ≢ x → u' y ≡ u y) → u' x ≡ value_of f u → Holds ps u → Holds (learn x f ps) u'
holds_learn ps x f u u' rest is h = by (about x f) refl
  where
    by : (b : Bool) → about x f ≡ b → Holds (if b then forget x ps else record { variable = x; fact = f } ∷ forget x (take most_facts ps)) u'
    by true e = holds_forget ps x u u' rest h
    by false e = (is ∙ sym (value_same f x u u' e rest), holds_forget (take most_facts ps) x u u' rest (holds_take most_facts ps u h))

pub holds_found : (ps : Facts) (x : ℕ) (f : Fact) (u : Locals) → found x ps ≡ Some f → Holds ps u → u x ≡ value_of f u
holds_found [] x f u e h = absurd cc
holds_found (p ∷ ps) x f u e h = by (nat_eq x p.variable) refl e (λ e. holds_found ps x f u e h.1)
  where
    by : (b : Bool) → nat_eq x p.variable ≡ b → (if b then Some p.fact else found x ps) ≡ Some f → (found x ps ≡ Some f → u x ≡ value_of f u) → u x ≡ value_of f u
    by true k e others = let same : x ≡ p.variable = grind (arith, nat_tests) in let is : p.fact ≡ f = cc in ap u same ∙ h.0 ∙ ap (λ f. value_of f u) is
    by false k e others = others e

number_is : (f : Fact) (c : ℕ) (u : Locals) → number_of f ≡ Some c → value_of f u ≡ c
number_is (Number n) c u h = cc
number_is (Sum a n) c u h = absurd cc
number_is (Compared t a b) c u h = absurd cc

pub number_holds : (ps : Facts) (x c : ℕ) (u : Locals) → number_at x ps ≡ Some c → Holds ps u → u x ≡ c
number_holds ps x c u e h = let s = then_some number_of (found x ps) c e in holds_found ps x s.0 u s.1 h ∙ number_is s.0 c u s.2

-- ---- immediates

-- an immediate is its word, alone and in sums
pub record IsImmediate (c : ℕ) (i : ℤ) : Type 0 where
  pub word : immediate i ≡ c
  pub sum : (a : ℕ) → plus a i ≡ (a + c) % 2 ^ 64

pub immediate_is : (c : ℕ) (i : ℤ) → immediate_of c ≡ Some i → IsImmediate c i
unfolding plus
immediate_is c i h = by (nat_lt c 2048) (nat_lt c (2 ^ 64 - 2048)) (nat_lt c (2 ^ 64)) refl h
  where
    by : (b b2 b3 : Bool) → nat_lt c (2 ^ 64) ≡ b3 → (if b then Some (pos c) else if b2 then None else if b3 then Some (negsuc (2 ^ 64 - 1 - c)) else None) ≡ Some i → IsImmediate c i
    by true b2 b3 e h = let is : pos c ≡ i = cc in subst (IsImmediate c) is (record { word = refl; sum = λ a. refl })
    by false true b3 e h = absurd cc
    by false false false e h = absurd cc
    by false false true e h =
        let is : negsuc (2 ^ 64 - 1 - c) ≡ i = cc in
        let below : c < 2 ^ 64 = grind (arith, nat_tests) in
        let same : 2 ^ 64 - 1 - (2 ^ 64 - 1 - c) ≡ c = omega (arith, below) in
        subst (IsImmediate c) is (record { word = same; sum = λ a. ap (λ n. (a + n) % 2 ^ 64) same })

pub immediate_holds : (ps : Facts) (x : ℕ) (i : ℤ) (u : Locals) → immediate_at x ps ≡ Some i → Holds ps u → IsImmediate (u x) i
immediate_holds ps x i u e h = let s = then_some immediate_of (number_at x ps) i e in subst (λ c. IsImmediate c i) (sym (number_holds ps x s.0 u s.1 h)) (immediate_is s.0 i s.2)

-- a difference is the sum with the number turned round
pub negated_sum : (a c : ℕ) → (a + negated c) % 2 ^ 64 ≡ (a + (2 ^ 64 - c)) % 2 ^ 64
negated_sum a c = add-mod-mod a (2 ^ 64 - c) (2 ^ 64)

pub negated_holds : (ps : Facts) (x : ℕ) (i : ℤ) (u : Locals) → negated_at x ps ≡ Some i → Holds ps u → (a : ℕ) → plus a i ≡ (a + (2 ^ 64 - u x)) % 2 ^ 64
negated_holds ps x i u e h a =
    let s = then_some (λ c. immediate_of (negated c)) (number_at x ps) i e in
    (immediate_is (negated s.0) i s.2).sum a ∙ negated_sum a s.0 ∙ ap (λ c. (a + (2 ^ 64 - c)) % 2 ^ 64) (sym (number_holds ps x s.0 u s.1 h))

exponent_is : (k c n : ℕ) → exponent_below k c ≡ Some n → c ≡ 2 ^ n
exponent_is zero c n h = absurd cc
exponent_is (suc k) c n h = by (nat_eq c (2 ^ k)) refl h (exponent_is k c n)
  where
    by : (b : Bool) → nat_eq c (2 ^ k) ≡ b → (if b then Some k else exponent_below k c) ≡ Some n → (exponent_below k c ≡ Some n → c ≡ 2 ^ n) → c ≡ 2 ^ n
    by true e h others = let is : k ≡ n = cc in let p : c ≡ 2 ^ k = grind (arith, nat_tests) in p ∙ ap (λ n. 2 ^ n) is
    by false e h others = others h

pub exponent_holds : (ps : Facts) (x n : ℕ) (u : Locals) → exponent_at x ps ≡ Some n → Holds ps u → u x ≡ 2 ^ n
exponent_holds ps x n u e h = let s = then_some exponent_of (number_at x ps) n e in number_holds ps x s.0 u s.1 h ∙ exponent_is 64 s.0 n s.2
