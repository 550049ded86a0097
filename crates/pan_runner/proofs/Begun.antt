-- What the first step of a statement comes to, from what its expressions gave.
use Rattle.std.proofs.Common.{◌≡◌, ℕ, zero, suc, ◌++◌, List, [], ◌∷◌, length, Option, Some, None, Bool, true, false, refl, sym, ap, ◌∙◌}
use Rattle.std.specs.Prelude.{unwrap_or, slice_get}
use Rattle.std.proofs.lemmas.List.{map-append}
use Rattle.pan_base.specs.Events.{Fails}
use Rattle.pan_runner.specs.Told.{told, all_told}
use Rattle.source_resolver.specs.Slots.{Variables}
use Rattle.pan_control.specs.Control.{if_not_zero}
use Rattle.pan_runner.specs.Machine.{Frame, Block, Loop, Called, Next, Becomes, Enter, Leave, Config, Runs, Spends, Over, or_fails, unless_false}
use Rattle.pan_runner.specs.View.{config_in, frame_of, statement_at}
use Rattle.pan_runner.specs.Runner.{variables_of, frames_of, begins, leaves, KeepsAll}
use Rattle.pan_runner.specs.declared.runner.Runner.{Runner}
use Rattle.source_resolver.specs.declared.resolved.Expr.{Expr}
use Rattle.source_resolver.specs.declared.resolved.Stmt.{Stmt}
use Rattle.source_resolver.specs.declared.resolved.Stmt.TheVariants as stmt
use Rattle.source_resolver.specs.declared.resolved.Target.{Target}
use Rattle.source_resolver.specs.declared.resolved.HandlerOf.{HandlerOf}
use Rattle.pan_runner.specs.declared.waiting.Waiting.TheVariants as waiting
use Rattle.pan_runner.proofs.Equations.{begins_skip}
use Rattle.pan_runner.specs.declared.phase.Phase.{Phase}
use Rattle.pan_runner.specs.declared.phase.Phase.TheVariants as phase
use Rattle.pan_runner.specs.declared.value.Value.{Value}

-- ---- what follows

-- a value, and none
pub given : {A : Type 0} (o : Option A) (a : A) (next : A → Config) → o ≡ Some a → or_fails o next ≡ next a
given o a next is = ap (λ o. or_fails o next) is

pub missing : {A : Type 0} (o : Option A) (next : A → Config) → o ≡ None → or_fails o next ≡ Over Fails
missing o next none = ap (λ o. or_fails o next) none

-- a test that holds, and one that fails
pub where_so : (b : Bool) (next : Config) → b ≡ true → unless_false b next ≡ next
where_so b next e = ap (λ b. unless_false b next) e

pub where_not : (b : Bool) (next : Config) → b ≡ false → unless_false b next ≡ Over Fails
where_not b next e = ap (λ b. unless_false b next) e

-- ---- runners

-- one variable more
pub told_more : (vs : List Value) (v : Value) → all_told (vs ++ v ∷ []) ≡ all_told vs ++ told v ∷ []
told_more vs v = map-append told vs (v ∷ [])

-- in the phase `Next`
pub at_next : (ph : Phase) (u : Variables) (ks : List Frame) (m : List ℕ) → ph ≡ phase.Next → config_in ph u ks m ≡ Runs (Leave (Next u)) ks m
at_next ph u ks m e = ap (λ ph. config_in ph u ks m) e

-- where a block was opened
pub opened : (old new : Runner) (ks : List Frame) → old.phase ≡ phase.Next → KeepsAll old new → frames_of new ≡ ks
    → Rattle.pan_runner.specs.Runner.config_of new ≡ Runs (Leave (Next (variables_of old))) ks old.memory
opened old new ks is keeps to =
    at_next new.phase (variables_of new) (frames_of new) new.memory (keeps.phase ∙ is)
    ∙ ap (λ vs. Runs (Leave (Next (all_told vs))) (frames_of new) new.memory) keeps.variables
    ∙ ap (λ ks. Runs (Leave (Next (variables_of old))) ks new.memory) to
    ∙ ap (λ (m : List ℕ). Runs (Leave (Next (variables_of old))) ks m) keeps.memory

-- ---- words that are 0, and others

not_zero : {A : Type 0} (n : ℕ) (a b : A) → ¬ (n ≡ 0) → if_not_zero n a b ≡ a
not_zero zero a b other = absurd (other refl)
not_zero (suc n) a b other = refl

is_zero : {A : Type 0} (n : ℕ) (a b : A) → n ≡ 0 → if_not_zero n a b ≡ b
is_zero n a b same = ap (λ n. if_not_zero n a b) same

module _ (r : Runner) where
  abbrev chosen : List Stmt → Config
  chosen b = Runs (Leave (Next (variables_of r))) (Block (length (variables_of r)) b ∷ frames_of r) r.memory

  pub if_some : (n : ℕ) (first second : List Stmt) → ¬ (n ≡ 0) → chosen (if_not_zero n first second) ≡ chosen first
  if_some n first second other = ap chosen (not_zero n first second other)

  pub if_none : (n : ℕ) (first second : List Stmt) → n ≡ 0 → chosen (if_not_zero n first second) ≡ chosen second
  if_none n first second same = ap chosen (is_zero n first second same)

  abbrev again : Expr → List Stmt → Config
  again e b = Spends (Leave (Next (variables_of r))) (Block (length (variables_of r)) b ∷ Loop (stmt.While e b) ∷ frames_of r) r.memory

  abbrev on : Config
  on = Runs (Leave (Next (variables_of r))) (frames_of r) r.memory

  pub begins_turn : (n : ℕ) (e : Expr) (b : List Stmt) → ¬ (n ≡ 0) → if_not_zero n (again e b) on ≡ again e b
  begins_turn n e b other = not_zero n (again e b) on other

  pub ends_turn : (n : ℕ) (e : Expr) (b : List Stmt) → n ≡ 0 → if_not_zero n (again e b) on ≡ on
  ends_turn n e b same = is_zero n (again e b) on same

-- ---- frames

-- a loop and its body were put on the stack
pub turned : (old mid new : Runner) (shared block : List Stmt) (at : ℕ) (e : Expr) (body : List Stmt) → shared ≡ block → slice_get block at ≡ Some (stmt.While e body)
    → KeepsAll old mid → frames_of mid ≡ frame_of (waiting.Loop shared at) ∷ frames_of old
    → KeepsAll mid new → frames_of new ≡ Block (length (variables_of mid)) body ∷ frames_of mid
    → Spends (Leave (Next (variables_of new))) (frames_of new) new.memory ≡ again old e body
turned old mid new shared block at e body same place k pushed k' opened =
    let loop : statement_at shared at ≡ stmt.While e body = ap (λ b. statement_at b at) same ∙ ap (λ o. unwrap_or o stmt.Skip) place in
    let u : variables_of mid ≡ variables_of old = ap all_told k.variables in
    let v : variables_of new ≡ variables_of mid = ap all_told k'.variables in
    let ks : frames_of new ≡ Block (length (variables_of old)) body ∷ Loop (stmt.While e body) ∷ frames_of old =
    opened
    ∙ ap (λ u. Block (length u) body ∷ frames_of mid) u
    ∙ ap (λ ks. Block (length (variables_of old)) body ∷ ks) (pushed ∙ ap (λ s. Loop s ∷ frames_of old) loop) in
    ap (λ u. Spends (Leave (Next u)) (frames_of new) new.memory) (v ∙ u)
    ∙ ap (λ ks. Spends (Leave (Next (variables_of old))) ks new.memory) ks
    ∙ ap (λ (m : List ℕ). Spends (Leave (Next (variables_of old))) (Block (length (variables_of old)) body ∷ Loop (stmt.While e body) ∷ frames_of old) m) (k'.memory ∙ k.memory)

-- a call was put on the stack
pub called : (old new : Runner) (f : ℕ) (args : List Value) (into target : Target) (handler shared : Option (HandlerOf (List Stmt))) (vs : List Value)
    → target ≡ into → shared ≡ handler → vs ≡ old.variables
    → frames_of new ≡ frame_of (waiting.Called target shared vs) ∷ frames_of old → new.memory ≡ old.memory
    → Spends (Enter f (all_told args)) (frames_of new) new.memory ≡ Spends (Enter f (all_told args)) (Called into handler (variables_of old) ∷ frames_of old) old.memory
called old new f args into target handler shared vs t h v pushed m =
    ap (λ ks. Spends (Enter f (all_told args)) ks new.memory)
    (pushed ∙ ap (λ t. Called t shared (all_told vs) ∷ frames_of old) t ∙ ap (λ h. Called into h (all_told vs) ∷ frames_of old) h ∙ ap (λ vs. Called into handler (all_told vs) ∷ frames_of old) v)
    ∙ ap (λ (m : List ℕ). Spends (Enter f (all_told args)) (Called into handler (variables_of old) ∷ frames_of old) m) m

-- a function takes the place of main
pub becomes_first : (old new : Runner) (f : ℕ) (args : List Value) → frames_of old ≡ [] → frames_of new ≡ [] → new.memory ≡ old.memory
    → Runs (Enter f (all_told args)) (frames_of new) new.memory ≡ leaves old (Becomes f (all_told args))
becomes_first old new f args none empty m =
    ap (λ ks. Runs (Enter f (all_told args)) ks new.memory) empty
    ∙ ap (λ (m : List ℕ). Runs (Enter f (all_told args)) [] m) m
    ∙ sym (ap (λ ks. Rattle.pan_runner.specs.Machine.leave (Rattle.pan_runner.specs.Runner.names_of old) (Becomes f (all_told args)) ks old.memory) none)

-- ---- a statement that isn't there

pub skipped : (r : Runner) (block : List Stmt) (at : ℕ) → slice_get block at ≡ None → begins r (statement_at block at) ≡ Runs (Leave (Next (variables_of r))) (frames_of r) r.memory
skipped r block at none = ap (λ o. begins r (unwrap_or o stmt.Skip)) none ∙ begins_skip r
