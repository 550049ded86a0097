-- How each kind of statement begins.
use Rattle.std.proofs.Common.{◌≡◌, ℕ, List, [], ◌∷◌, ◌++◌, length, Option, ap, ◌%◌}
use Rattle.std.specs.Prelude.{◌*◌, ◌^◌}
use Rattle.pan_base.specs.declared.events.Size.{Size}
use Rattle.pan_base.specs.Events.{byte_count}
use Rattle.pan_control.specs.Memory.{is_shared, with_byte, with_words}
use Rattle.pan_control.specs.Control.{if_not_zero}
use Rattle.pan_tree.specs.Value.{words_in}
use Rattle.source_resolver.specs.Slots.{Variables, assigned, value, word, values}
use Rattle.source_resolver.specs.declared.resolved.Expr.{Expr}
use Rattle.source_resolver.specs.declared.resolved.Stmt.{Stmt, Stmt-F, out-Stmt}
use Rattle.source_resolver.specs.declared.resolved.Stmt.TheVariants as s
use Rattle.source_resolver.specs.declared.resolved.Stmt.TheOpen as stmt
use Rattle.source_resolver.specs.declared.resolved.CallOf.{CallOf}
use Rattle.pan_runner.specs.Machine.{Next, Breaks, Continues, Returns, Raises, Becomes, Enter, Leave, Frame, Block, Loop, Called, Loading, Storing, Runs, Spends, Waits, or_fails, unless_false, ask_foreign, act, begin}
use Rattle.pan_runner.specs.declared.runner.Runner.{Runner}
use Rattle.pan_runner.specs.Runner.{names_of, variables_of, frames_of, begins}

module _ (r : Runner) where
  abbrev u : Variables
  u = variables_of r

  abbrev ks : List Frame
  ks = frames_of r

  abbrev m : List ℕ
  m = r.memory

  at_variant : (x : Stmt) (y : Stmt-F Stmt) → out-Stmt x ≡ y → begins r x ≡ act (names_of r) x y u ks m
  unfolding begin
  at_variant x y is = ap (λ y. act (names_of r) x y u ks m) is

  pub begins_skip : begins r s.Skip ≡ Runs (Leave (Next u)) ks m
  begins_skip = at_variant s.Skip stmt.Skip s.outs-Skip

  pub begins_declare : (e : Expr) → begins r (s.Declare e) ≡ or_fails (value e u m) (λ a. Runs (Leave (Next (u ++ a ∷ []))) ks m)
  begins_declare e = at_variant (s.Declare e) (stmt.Declare e) (s.outs-Declare e)

  pub begins_assign : (place : Option ℕ) (e : Expr) → begins r (s.Assign place e) ≡ or_fails (value e u m) (λ a. Runs (Leave (Next (assigned place a u))) ks m)
  begins_assign place e = at_variant (s.Assign place e) (stmt.Assign place e) (s.outs-Assign place e)

  pub begins_store_words : (a e : Expr) → begins r (s.StoreWords a e)
      ≡ or_fails (word a u m) (λ addr. or_fails (value e u m) (λ x. or_fails (with_words m addr (words_in x)) (λ m'. Runs (Leave (Next u)) ks m')))
  begins_store_words a e = at_variant (s.StoreWords a e) (stmt.StoreWords a e) (s.outs-StoreWords a e)

  pub begins_store_byte : (a e : Expr) → begins r (s.StoreByte a e)
      ≡ or_fails (word a u m) (λ addr. or_fails (word e u m) (λ n. or_fails (with_byte m addr (n % 256)) (λ m'. Runs (Leave (Next u)) ks m')))
  begins_store_byte a e = at_variant (s.StoreByte a e) (stmt.StoreByte a e) (s.outs-StoreByte a e)

  pub begins_if : (e : Expr) (first second : List Stmt) → begins r (s.If e first second) ≡ or_fails (word e u m) (λ n. Runs (Leave (Next u)) (Block (length u) (if_not_zero n first second) ∷ ks) m)
  begins_if e first second = at_variant (s.If e first second) (stmt.If e first second) (s.outs-If e first second)

  pub begins_while : (e : Expr) (b : List Stmt) → begins r (s.While e b)
      ≡ or_fails (word e u m) (λ n. if_not_zero n (Spends (Leave (Next u)) (Block (length u) b ∷ Loop (s.While e b) ∷ ks) m) (Runs (Leave (Next u)) ks m))
  begins_while e b = at_variant (s.While e b) (stmt.While e b) (s.outs-While e b)

  pub begins_break : begins r s.Break ≡ Runs (Leave (Breaks u)) ks m
  begins_break = at_variant s.Break stmt.Break s.outs-Break

  pub begins_continue : begins r s.Continue ≡ Runs (Leave (Continues u)) ks m
  begins_continue = at_variant s.Continue stmt.Continue s.outs-Continue

  pub begins_call : (c : CallOf (List Stmt)) → begins r (s.Call c) ≡ or_fails c.function (λ f. or_fails (values c.args u m) (λ xs. Spends (Enter f xs) (Called c.into c.handler u ∷ ks) m))
  begins_call c = at_variant (s.Call c) (stmt.Call c) (s.outs-Call c)

  pub begins_return : (e : Expr) → begins r (s.Return e) ≡ or_fails (value e u m) (λ a. Runs (Leave (Returns a)) ks m)
  begins_return e = at_variant (s.Return e) (stmt.Return e) (s.outs-Return e)

  pub begins_tail_call : (f : Option ℕ) (args : List Expr) → begins r (s.TailCall f args) ≡ or_fails f (λ f. or_fails (values args u m) (λ xs. Spends (Leave (Becomes f xs)) ks m))
  begins_tail_call f args = at_variant (s.TailCall f args) (stmt.TailCall f args) (s.outs-TailCall f args)

  pub begins_raise : (x : Option ℕ) (e : Expr) → begins r (s.Raise x e) ≡ or_fails x (λ i. or_fails (value e u m) (λ a. Runs (Leave (Raises i a)) ks m))
  begins_raise x e = at_variant (s.Raise x e) (stmt.Raise x e) (s.outs-Raise x e)

  pub begins_load : (size : Size) (place : Option ℕ) (a : Expr) → begins r (s.SharedLoad size place a) ≡ or_fails (word a u m) (λ addr. unless_false (is_shared size addr) (Waits (Loading size place addr) u ks m))
  begins_load size place a = at_variant (s.SharedLoad size place a) (stmt.SharedLoad size place a) (s.outs-SharedLoad size place a)

  pub begins_store : (size : Size) (a e : Expr) → begins r (s.SharedStore size a e)
      ≡ or_fails (word a u m) (λ addr. or_fails (word e u m) (λ n. unless_false (is_shared size addr) (Waits (Storing size addr (n % 2 ^ (8 * byte_count size))) u ks m)))
  begins_store size a e = at_variant (s.SharedStore size a e) (stmt.SharedStore size a e) (s.outs-SharedStore size a e)

  pub begins_foreign : (name : Option ℕ) (conf conf_len array array_len : Expr) → begins r (s.Foreign name conf conf_len array array_len)
      ≡ or_fails name (λ i.
      or_fails (word conf u m) (λ c. or_fails (word conf_len u m) (λ l.
      or_fails (word array u m) (λ a. or_fails (word array_len u m) (λ n. ask_foreign (names_of r) i c l a n u ks m)))))
  begins_foreign name conf conf_len array array_len = at_variant (s.Foreign name conf conf_len array array_len) (stmt.Foreign name conf conf_len array array_len) (s.outs-Foreign name conf conf_len array array_len)

pub ruleset begin_rules = (begins_skip, begins_declare, begins_assign, begins_store_words, begins_store_byte, begins_if, begins_while, begins_break, begins_continue, begins_call, begins_return, begins_tail_call, begins_raise, begins_load, begins_store, begins_foreign)
