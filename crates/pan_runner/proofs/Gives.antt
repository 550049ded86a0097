-- What is given by steps that go on from what others gave.
use Rattle.std.proofs.Common.{◌≡◌, ℕ, Option, Some, None, sym, ap, subst, ◌∙◌}
use Rattle.std.specs.Prelude.{Result, Ok, Err}
use Rattle.std.specs.Option.{ok_or}
use Rattle.std.specs.Result.{IsErrAnd}
use Rattle.pan_runner.specs.Halting.{OnFails, Gives}
use Rattle.pan_runner.specs.declared.halt.Halt.{Halt}
use Rattle.pan_runner.specs.declared.halt.Halt.TheVariants as halt
use Rattle.pan_runner.proofs.Halts.{follows}

-- where one thing is missing, so is another
pub lacking : {X A B : Type 0} (see : X → A) (r : Result X Halt) (h : Halt) (o : Option B) (p : Option A) → IsErrAnd r (λ e. e ≡ h) → OnFails h (o ≡ None) → (o ≡ None → p ≡ None) → Gives see r p
lacking see (Ok x) h o p is missing so = absurd is
lacking see (Err e) h o p same missing so = subst (λ h. OnFails h (p ≡ None)) (sym same) (follows h (o ≡ None) (p ≡ None) so missing)

-- where what it is made of is missing
pub lacks : {X A B : Type 0} (see : X → A) (r : Result X Halt) (h : Halt) (f : Option B → Option A) (o : Option B) (p : Option A) → IsErrAnd r (λ e. e ≡ h) → OnFails h (o ≡ None) → p ≡ f o → f None ≡ None → Gives see r p
lacks see r h f o p is missing made none = lacking see r h o p is missing (λ q. made ∙ ap f q ∙ none)

-- the same by another name
pub gives_as : {X A : Type 0} (see : X → A) (r : Result X Halt) (o p : Option A) → o ≡ p → Gives see r o → Gives see r p
gives_as see r o p same = subst (Gives see r) same

-- a word that must be there
pub word_or : (r : Result ℕ Halt) (o p : Option ℕ) → r ≡ ok_or o halt.Fails → p ≡ o → Gives (λ n. n) r p
word_or r None p is same = subst (λ r. Gives (λ n. n) r p) (sym is) same
word_or r (Some n) p is same = subst (λ r. Gives (λ n. n) r p) (sym is) same
