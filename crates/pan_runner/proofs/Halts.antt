-- Steps that fail, and options that must be there.
use Rattle.std.proofs.Common.{◌≡◌, Option, Some, None, sym, ap, subst, ◌∙◌}
use Rattle.std.specs.Prelude.{Result, Ok, Err, MatchOption}
use Rattle.std.specs.Result.{IsErrAnd}
use Rattle.pan_base.specs.Events.{Fails}
use Rattle.pan_runner.specs.Machine.{Config, Over, or_fails}
use Rattle.pan_runner.specs.Halting.{OnFails, Comes}
use Rattle.pan_runner.specs.declared.halt.Halt.{Halt}
use Rattle.pan_runner.specs.declared.halt.Halt.TheVariants as halt

-- ---- errors

-- a fact that follows from another
pub follows : (h : Halt) (fact other : Type 0) → (fact → other) → OnFails h fact → OnFails h other
follows halt.Fails fact other f holds = f holds
follows halt.NoMemory fact other f holds = tt

-- a fact in any case
pub surely : (h : Halt) (fact : Type 0) → fact → OnFails h fact
surely halt.Fails fact holds = holds
surely halt.NoMemory fact holds = tt

-- what is missing at another name of the same
pub moved : {X A : Type 0} (h : Halt) (f : X → Option A) (x y : X) → x ≡ y → OnFails h (f x ≡ None) → OnFails h (f y ≡ None)
moved h f x y same = subst (λ x. OnFails h (f x ≡ None)) same

-- an error that is handed on
handed : {T : Type 0} (r : Result T Halt) (h : Halt) (now to : Config) → IsErrAnd r (λ e. e ≡ h) → OnFails h (to ≡ Over Fails) → Comes r now to
handed (Ok x) h now to is fails = absurd is
handed (Err e) h now to same fails = subst (λ h. OnFails h (to ≡ Over Fails)) (sym same) fails

-- a step of which a value is missing was to fail
pub halted : {T A : Type 0} (r : Result T Halt) (h : Halt) (o : Option A) (next : A → Config) (now to : Config) → IsErrAnd r (λ e. e ≡ h) → to ≡ or_fails o next → OnFails h (o ≡ None) → Comes r now to
halted r h o next now to is begins missing = handed r h now to is (follows h (o ≡ None) (to ≡ Over Fails) (λ none. begins ∙ ap (λ o. or_fails o next) none) missing)

-- ---- options

-- what is known of one that is there
pub found : {A : Type 0} (o : Option A) (a : A) (none : Type 0) (some : A → Type 0) → o ≡ Some a → MatchOption o none some → some a
found o a none some is holds = subst (λ o. MatchOption o none some) is holds
