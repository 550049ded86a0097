-- A resolved program behaves as the source's does.
use Rattle.std.proofs.Common.{◌≡◌, ℕ, zero, suc, nat_eq, true, false, List, [], ◌∷◌, ◌++◌, map, length, Option, Some, None, slice_get, codes, append_assoc, refl, sym, ap, ◌∙◌}
use Rattle.std.specs.Option.{option_map}
use Rattle.std.proofs.Math.Dec.{eqb-zero-suc, eqb-suc-zero, eqb-suc-suc}
use Rattle.std.proofs.lemmas.Option.{slice_get-map}
use Rattle.std.proofs.lemmas.Simd.{map-map}
use Rattle.pan_base.specs.Events.{Replied}
use Rattle.pan_control.specs.World.{entered, tolled}
use Rattle.pan_control.specs.Control.{Normal, Broken, Continued, Returned, Raised, Over, in_turn, left, where_true, with_value}
use Rattle.pan_tree.specs.Running.{World, Outcome, Callee}
use Rattle.pan_tree.specs.Value.{Value}
use Rattle.pan_tree.specs.Check.{foreign_names, cost}
use Rattle.pan_tree.specs.Meaning as source
use Rattle.pan_tree.specs.Meaning.{Scope, Scopes, function_index, parameters, entry_weight, seen, start}
use Rattle.pan_tree.specs.declared.spanned.Spanned.{Spanned}
use Rattle.pan_tree.specs.declared.program.Param.{Param}
use Rattle.pan_tree.specs.declared.program.Function.{Function as SourceFunction}
use Rattle.pan_tree.specs.declared.program.Program.{Program as Source}
use Rattle.source_resolver.specs.declared.resolved.Program.{Program}
use Rattle.source_resolver.specs.Resolving.{Places, with_parameters, resolved_stmts, resolved_function, resolved}
use Rattle.source_resolver.specs.Slots as slots
use Rattle.source_resolver.specs.Slots.{Variables}
use Rattle.source_resolver.proofs.Images.{bare, image, left_image}
use Rattle.source_resolver.proofs.Placing.{contents, placed, flat, declare_placed}
use Rattle.source_resolver.proofs.ResolvedStmts.{order_means, all_mean, does}

-- ---- parameters

-- The arguments, if they are as many as the parameters, are the variables of the body's block, behind these.
abbrev Bound : List Param → List Value → Scope → Option Scope → Type 0
Bound ps xs front None = nat_eq (length xs) (length ps) ≡ false
Bound ps xs front (Some scope) = (nat_eq (length xs) (length ps) ≡ true) × (contents scope ≡ xs) × (placed ((front ++ scope) ∷ []) ≡ with_parameters ps (placed (front ∷ [])))

append_none : {X : Type 0} (xs : List X) → xs ++ [] ≡ xs
append_none [] = refl
append_none (x ∷ xs) = ap (λ ys. x ∷ ys) (append_none xs)

bound : (ps : List Param) (xs : List Value) (front : Scope) → Bound ps xs front (parameters ps xs)
bound [] [] front = (refl, refl, ap (λ s. placed (s ∷ [])) (append_none front))
bound [] (x ∷ xs) front = eqb-suc-zero (length xs)
bound (p ∷ ps) [] front = eqb-zero-suc (length ps)
bound (p ∷ ps) (x ∷ xs) front = by (parameters ps xs) (bound ps xs (front ++ (p.name, x) ∷ []))
  where
    by : (o : Option Scope) → Bound ps xs (front ++ (p.name, x) ∷ []) o → Bound (p ∷ ps) (x ∷ xs) front (option_map (λ others. (p.name, x) ∷ others) o)
    by None h = eqb-suc-suc (length xs) (length ps) ∙ h
    by (Some scope) h = (
      eqb-suc-suc (length xs) (length ps) ∙ h.0,
      ap (λ ys. x ∷ ys) h.1,
      ap (λ s. placed (s ∷ [])) (sym (append_assoc front ((p.name, x) ∷ []) scope)) ∙ h.2 ∙ ap (with_parameters ps) (declare_placed p.name x (front ∷ [])),
    )

-- ---- functions

module _ (p : Source) where
  abbrev names : List (List ℕ)
  names = foreign_names p

  body_means : (d : ℕ) (callee callee' : Callee (List Value) Value) → ((i : ℕ) (a : List Value) (w : World) → callee' i a (bare w) ≡ image (λ (u : Unit {0}). u) (callee i a w))
      → (f : SourceFunction) (xs : List Value) (w : World) → slots.body_of names d callee' (resolved_function p f) xs (bare w) ≡ image (λ (u : Unit {0}). u) (source.body_of p d callee f xs w)
  body_means d callee callee' means f xs w = by (parameters f.params xs) (bound f.params xs [])
    where
      by : (o : Option Scope) → Bound f.params xs [] o
          → slots.body_of names d callee' (resolved_function p f) xs (bare w) ≡ image (λ (u : Unit {0}). u) (with_value o w (λ scope.
          left (in_turn (map (λ s. source.run_kind p d callee s.kind) (f.body).stmts) (scope ∷ []) (entered (cost p f) (tolled (entry_weight f) w)))))
      by None h = ap (λ b. where_true b (bare w) (left (in_turn (map (slots.run names d callee') (resolved_function p f).body) xs (bare w)))) h
      by (Some scope) h =
          let ss = (f.body).stmts in
          let v : Scopes = scope ∷ [] in
          let inner = entered (cost p f) (tolled (entry_weight f) w) in
          let does_all = λ (ms : List source.Does). left {U = Unit {0}} (in_turn ms v inner) in
          let runs = λ (here : Places) (u : Variables). left {U = Unit {0}} (in_turn (map (slots.run names d callee') (resolved_stmts ss p here).0) u (bare w)) in
          let shown = order_means p d callee callee' means ss (all_mean p d callee callee' means ss) [] v inner refl in
          ap (λ b. where_true b (bare w) (runs (with_parameters f.params ([] ∷ [])) xs)) h.0 ∙ ap (λ here. runs here xs) (sym h.2) ∙ ap (runs (placed v)) (sym h.1)
          ∙ left_image flat (in_turn (map (λ s. s.kind) (map (does p d callee callee' means) ss)) v inner) _ shown.same
          ∙ ap (λ ms. image (λ (u : Unit {0}). u) (does_all ms)) (map-map (λ (s : Spanned source.Does). s.kind) (does p d callee callee' means) ss)

  calls_mean : (d f : ℕ) (xs : List Value) (w : World) → slots.calls names (resolved p) d f xs (bare w) ≡ image (λ (u : Unit {0}). u) (source.calls p d f xs w)
  calls_mean zero f xs w = refl
  calls_mean (suc d) f xs w =
      ap (λ o. with_value o (bare w) (λ g. slots.body_of names d (slots.calls names (resolved p) d) g xs (bare w))) (slice_get-map (resolved_function p) p.functions f)
      ∙ by (slice_get p.functions f) (λ g. body_means d (source.calls p d) (slots.calls names (resolved p) d) (calls_mean d) g xs w)
    where
      by : (o : Option SourceFunction) → ((g : SourceFunction) → slots.body_of names d (slots.calls names (resolved p) d) (resolved_function p g) xs (bare w) ≡ image (λ (u : Unit {0}). u) (source.body_of p d (source.calls p d) g xs w))
          → with_value (option_map (resolved_function p) o) (bare w) (λ g. slots.body_of names d (slots.calls names (resolved p) d) g xs (bare w)) ≡ image (λ (u : Unit {0}). u) (with_value o w (λ g. source.body_of p d (source.calls p d) g xs w))
      by None h = refl
      by (Some g) h = h g

  -- ---- programs

  seen_image : (o : Outcome (Unit {0}) Value) → (seen (image (λ (u : Unit {0}). u) o)).behaviour ≡ (seen o).behaviour
  seen_image (Normal v w) = refl
  seen_image (Broken v w) = refl
  seen_image (Continued v w) = refl
  seen_image (Returned x w) = refl
  seen_image (Raised i x w) = refl
  seen_image (Over e w) = refl

  pub resolving_means : (m : List ℕ) (r : List Replied) (n : ℕ) → slots.behaviour names (resolved p) m r n ≡ (source.source p m r n).behaviour
  resolving_means m r n = by (function_index (codes "main") p)
    where
      by : (o : Option ℕ) → (seen (with_value o (start m r n) (λ f. slots.calls names (resolved p) (suc n) f [] (start m r n)))).behaviour ≡ (seen (with_value o (start m r n) (λ f. source.calls p (suc n) f [] (start m r n)))).behaviour
      by None = refl
      by (Some f) = ap (λ (o : Outcome (Unit {0}) Value). (seen o).behaviour) (calls_mean (suc n) f [] (start m r n)) ∙ seen_image (source.calls p (suc n) f [] (start m r n))

pub means_so : (p : Source) (r : Program) → r ≡ resolved p → (m : List ℕ) (rs : List Replied) (n : ℕ) → slots.behaviour (foreign_names p) r m rs n ≡ (source.source p m rs n).behaviour
means_so p r is m rs n = ap (λ r. slots.behaviour (foreign_names p) r m rs n) is ∙ resolving_means p m rs n
