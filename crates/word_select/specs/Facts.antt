-- What is known of variables within a row of steps.
use Rattle.std.specs.Prelude.{◌≡◌, ℕ, ℤ, pos, negsuc, zero, suc, ◌+◌, ◌-◌, ◌%◌, ◌^◌, nat_eq, nat_lt, ◌||◌, Bool, false, if◌then◌else◌, List, [], ◌∷◌, take, Option, Some, None, option_and_then}
use Rattle.pan_base.specs.Words.{truth}
use Rattle.pan_stage.specs.Locals.{Locals}
use Rattle.word_select.specs.declared.facts.Known.{Known}
use Rattle.word_select.specs.declared.facts.Fact.{Fact}
use Rattle.word_select.specs.declared.facts.Fact.TheVariants.{Number, Sum, Compared}

-- the word that a fact gives
abbrev pub value_of : Fact → Locals → ℕ
value_of (Number c) u = c
value_of (Sum a c) u = (u a + c) % 2 ^ 64
value_of (Compared c a b) u = truth c (u a) (u b)

-- the fact speaks of the variable
abbrev pub about : ℕ → Fact → Bool
about x (Number c) = false
about x (Sum a c) = nat_eq x a
about x (Compared c a b) = nat_eq x a || nat_eq x b

-- what is known, the newest first
abbrev pub Facts : Type 0
Facts = List Known

-- each of them holds
abbrev pub Holds : Facts → Locals → Type 0
Holds [] u = Unit {0}
Holds (p ∷ ps) u = (u p.variable ≡ value_of p.fact u) × Holds ps u

-- the variable is known, or spoken of
abbrev pub is_touched : ℕ → Known → Bool
is_touched x p = nat_eq x p.variable || about x p.fact

-- what is still known when the variable is written
abbrev pub forget : ℕ → Facts → Facts
forget x [] = []
forget x (p ∷ ps) = if is_touched x p then forget x ps else p ∷ forget x ps

-- so many of the newest facts stay beside a new one
abbrev pub most_facts : ℕ
most_facts = 16

-- the variable is written, and this is known of it, in terms of others
abbrev pub learn : ℕ → Fact → Facts → Facts
learn x f ps = if about x f then forget x ps else record { variable = x; fact = f } ∷ forget x (take most_facts ps)

abbrev pub found : ℕ → Facts → Option Fact
found x [] = None
found x (p ∷ ps) = if nat_eq x p.variable then Some p.fact else found x ps

-- the first with what there is, else the second
abbrev pub when : {A B : Type 0} → Option A → (A → B) → B → B
when None f b = b
when (Some a) f b = f a

abbrev pub number_of : Fact → Option ℕ
number_of (Number c) = Some c
number_of _ = None

-- the number that a variable has
abbrev pub number_at : ℕ → Facts → Option ℕ
number_at x ps = option_and_then number_of (found x ps)

-- ---- immediates

-- a word as an immediate of 12 bits
abbrev pub immediate_of : ℕ → Option ℤ
immediate_of c = if nat_lt c 2048 then Some (pos c) else if nat_lt c (2 ^ 64 - 2048) then None else if nat_lt c (2 ^ 64) then Some (negsuc (2 ^ 64 - 1 - c)) else None

-- the immediate that a variable has
abbrev pub immediate_at : ℕ → Facts → Option ℤ
immediate_at x ps = option_and_then immediate_of (number_at x ps)

-- with the sign turned round
abbrev pub negated : ℕ → ℕ
negated c = (2 ^ 64 - c) % 2 ^ 64

abbrev pub negated_at : ℕ → Facts → Option ℤ
negated_at x ps = option_and_then (λ c. immediate_of (negated c)) (number_at x ps)

-- the exponent of a power of two, below the first number
abbrev pub exponent_below : ℕ → ℕ → Option ℕ
exponent_below zero c = None
exponent_below (suc n) c = if nat_eq c (2 ^ n) then Some n else exponent_below n c

abbrev pub exponent_of : ℕ → Option ℕ
exponent_of c = exponent_below 64 c

abbrev pub exponent_at : ℕ → Facts → Option ℕ
exponent_at x ps = option_and_then exponent_of (number_at x ps)
