-- What a result isn't at once.
use Rattle.std.proofs.Common.{◌≡◌, ap, inl, inr, Result, Ok, Err}
use Rattle.std.specs.Prelude.{◌⊎◌}
use Rattle.std.specs.Result.{IsErrAnd}

-- this is answered, or there is no memory
abbrev pub Gives : {A E : Type 0} → E → Result A E → Result A E → Type 0
Gives none r x = (r ≡ x) ⊎ (r ≡ Err none)

-- a value is no error
pub no_error : {A E : Type 0} (none e : E) (a : A) → Gives none (Ok a) (Err e) → ⊥
no_error none e a h = elim h [ inl x ↦ cc | inr x ↦ cc ]

-- a value is no other one
pub same_value : {A E : Type 0} (none : E) (a b : A) → Gives none (Ok a) (Ok b) → b ≡ a
same_value none a b h = elim h [ inl x ↦ cc | inr x ↦ cc ]

-- an error other than want of memory is no value and no other error
pub no_value : {A E : Type 0} (none e : E) (a : A) → (e ≡ none → ⊥) → Gives none (Err e) (Ok a) → ⊥
no_value none e a other h = elim h [ inl x ↦ cc | inr x ↦ other (cc) ]

pub same_error : {A E : Type 0} (none e f : E) → (f ≡ none → ⊥) → Gives {A = A} none (Err f) (Err e) → e ≡ f
same_error none e f other h = elim h as (λ _. e ≡ f) [ inl x ↦ cc | inr x ↦ absurd (other (cc)) ]

-- a reason, where it isn't want of memory
pub not_memory : {E : Type 0} (Why : E → Type 0) (none e : E) → (e ≡ none → ⊥) → (e ≡ none) ⊎ Why e → Why e
not_memory Why none e other h = elim h as (λ _. Why e) [ inl x ↦ absurd (other x) | inr x ↦ x ]

-- an error that is handed on
pub handed : {A E : Type 0} (r : Result A E) (e : E) → IsErrAnd r (λ f. f ≡ e) → r ≡ Err e
handed (Ok x) e h = absurd h
handed {E = E} (Err f) e h = ap (λ (x : E). Err x) h
