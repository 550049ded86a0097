-- Parameters, and functions whose heads break no rule.
use Rattle.std.proofs.Common.{◌≡◌, ℕ, ◌<◌, zero, suc, length, get_or, take, Bool, true, false, ◌||◌, cond, is_some, option_map, Option, Some, List, [], ◌∷◌, ◌++◌, map, arith, refl, sym, subst, ◌∙◌}
use Rattle.std.specs.List.{list_any}
use Rattle.std.specs.Str.{bytes_eq}
use Rattle.pan_tree.specs.declared.shape.Shape.{Shape}
use Rattle.pan_tree.specs.declared.program.Function.{Function}
use Rattle.pan_tree.specs.declared.program.Param.{Param}
use Rattle.pan_tree.specs.Check.{Break, repeats, parameters, in_scope, is_declared, function_heads}
use Rattle.pan_shapes.proofs.HeadLemmas.{twin_found, first_holds}

-- ---- parameters

is_found : (b a : Bool) (v : List ℕ × Shape) (r : Option (List ℕ × Shape)) → is_some (option_map (λ (v : List ℕ × Shape). v.1) r) ≡ a → is_some (option_map (λ (v : List ℕ × Shape). v.1) (cond b (Some v) r)) ≡ (b || a)
is_found true a v r e = refl
is_found false a v r e = e

scope_any : (x : List ℕ) (ps : List Param) → is_some (in_scope x (parameters ps)) ≡ list_any (λ y. bytes_eq y x) (map (λ (p : Param). p.name) ps)
scope_any x [] = refl
scope_any x (p ∷ ps) = is_found (bytes_eq p.name x) _ (p.name, p.shape) _ (scope_any x ps)

apart_before : (ps : List Param) (i : ℕ) (p : Param) → i < length ps → p ≡ get_or ps i p → repeats (map (λ (q : Param). q.name) ps) ≡ false → (b : Bool)
    → list_any (λ y. bytes_eq y p.name) (map (λ (q : Param). q.name) (take i ps)) ≡ b → b ≡ false
apart_before ps i p lt is apart true h = twin_found ps i p (map (λ (q : Param). q.name) (take i ps)) lt is refl h ∙ apart
apart_before ps i p lt is apart false h = refl

pub undeclared : (ps : List Param) (i : ℕ) (p : Param) → i < length ps → p ≡ get_or ps i p → repeats (map (λ (q : Param). q.name) ps) ≡ false → is_declared p.name (parameters (take i ps) ∷ []) ≡ false
undeclared ps i p lt is apart = scope_any p.name (take i ps) ∙ apart_before ps i p lt is apart _ refl

-- ---- heads

pub no_front : (bs cs : List Break) → bs ++ cs ≡ [] → bs ≡ []
no_front [] cs e = refl
no_front (b ∷ bs) cs e = absurd cc

pub no_back : (bs cs : List Break) → bs ++ cs ≡ [] → cs ≡ []
no_back [] cs e = e
no_back (b ∷ bs) cs e = absurd cc

second_holds : (a b : Bool) → (a || b) ≡ false → b ≡ false
second_holds true b e = absurd cc
second_holds false b e = e

pub heads_apart : (before fs : List Function) (i : ℕ) (f : Function) → function_heads before fs ≡ [] → i < length fs → f ≡ get_or fs i f → repeats (map (λ (p : Param). p.name) f.params) ≡ false
heads_apart before [] i f e lt is = absurd (omega arith)
heads_apart before (g ∷ gs) zero f e lt is =
    subst (λ (h : Function). repeats (map (λ (p : Param). p.name) h.params) ≡ false) (sym is)
    (second_holds (list_any (λ (h : Function). bytes_eq h.name g.name) before) (repeats (map (λ (p : Param). p.name) g.params)) (first_holds (g.span).start _ _ (no_front _ (function_heads (before ++ g ∷ []) gs) e)))
heads_apart before (g ∷ gs) (suc i) f e lt is = heads_apart (before ++ g ∷ []) gs i f (no_back _ (function_heads (before ++ g ∷ []) gs) e) (omega arith) is
