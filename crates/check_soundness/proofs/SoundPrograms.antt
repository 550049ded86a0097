-- A program that the check lets pass is seen to do the same in the guarded meaning.
use Rattle.std.proofs.Common.{◌≡◌, ℕ, zero, suc, Bool, true, false, not, ◌||◌, List, [], ◌∷◌, ◌++◌, map, length, drop, arith, Option, Some, None, slice_get, refl, sym, ap, subst, ◌∙◌}
use Rattle.std.specs.Prelude.{codes, nat_lt}
use Rattle.std.specs.Str.{bytes_eq}
use Rattle.pan_base.specs.Events.{Ending, Replied}
use Rattle.pan_control.specs.World.{entered, tolled}
use Rattle.pan_control.specs.Control.{Normal, Broken, Continued, Returned, Raised, Over, in_turn, with_value, left}
use Rattle.pan_tree.specs.Running.{World, Outcome, Callee}
use Rattle.pan_tree.specs.Value.{Value}
use Rattle.pan_tree.specs.Shapes.{is_word}
use Rattle.pan_tree.specs.Check as check
use Rattle.pan_tree.specs.Check.{State, broken, in_order, body, bodies, closes, cost, doing, foreign_names, names_after, function_of, main_breaks, exception_heads, function_heads, weight_breaks, IsWellShaped}
use Rattle.pan_tree.specs.Meaning.{Does, Scope, Scopes, run_kind, entry_weight, body_of, calls, source, seen, start}
use Rattle.pan_tree.specs.declared.rule.Rule.TheVariants.{MainShape, NoReturn}
use Rattle.pan_tree.specs.declared.shape.Shape.{Shape}
use Rattle.pan_tree.specs.declared.spanned.Spanned.{Spanned}
use Rattle.pan_tree.specs.declared.syntax.StmtKind.{StmtKind}
use Rattle.pan_tree.specs.declared.program.Param.{Param}
use Rattle.pan_tree.specs.declared.program.Function.{Function}
use Rattle.pan_tree.specs.declared.program.Program.{Program}
use Rattle.check_soundness.specs.Guarded.{unless_ill, with_sound, soundly_left, guarded_kind, guarded_body, guarded_calls, word_left, guarded, seen_so}
use Rattle.check_soundness.proofs.Rules.{unbroken, append_none, neither, not_false}
use Rattle.check_soundness.proofs.Fitting.{Fits, fits_more, ArgumentsFit, bound}
use Rattle.check_soundness.proofs.CheckedStmts.{Among, among_same, among_then, order_names}
use Rattle.check_soundness.proofs.Named.{found_at, less_true}
use Rattle.check_soundness.proofs.ShapedValues.{shaped_value, word_value}
use Rattle.check_soundness.proofs.Keeping.{Leaves, instead, Keeps}
use Rattle.check_soundness.proofs.SoundStmts.{Thrown, HasShape, SoundCallee, list_closes, guards, does, context, order_sound, all_sound}

-- ---- what the check says of each function

-- a function whose body breaks nothing after some foreign names, and closes
pub record Kept (p : Program) (f : Function) : Type 0 where
  pub names : List (List ℕ)
  pub breaks : (body p f names).breaks ≡ []
  pub closes : closes f.body ≡ true
  pub among : Among ((body p f names).state).names (foreign_names p)

body_grows : (p : Program) (f : Function) (names : List (List ℕ)) → Among names ((body p f names).state).names
body_grows p f names = order_names (f.body).stmts (record { program = p; result = f.result; in_loop = false }) (record { scopes = check.parameters f.params ∷ []; names = names })

after_grows : (p : Program) (fs : List Function) (names : List (List ℕ)) → Among names (names_after p fs names)
after_grows p [] names = among_same names
after_grows p (f ∷ fs) names = let next = ((body p f names).state).names in among_then names next (names_after p fs next) (body_grows p f names) (after_grows p fs next)

split : (p : Program) (f : Function) (fs : List Function) (names : List (List ℕ)) → bodies p (f ∷ fs) names ≡ [] → ((body p f names).breaks ≡ []) × (closes f.body ≡ true) × (bodies p fs ((body p f names).state).names ≡ [])
split p f fs names b =
    let one = body p f names in
    let rule = broken f.span.start ((NoReturn, not (closes f.body)) ∷ []) in
    let rest = bodies p fs (one.state).names in
    let all = append_none (one.breaks ++ rule) rest b in
    let both = append_none one.breaks rule all.0 in
    (both.0, not_false (closes f.body) (unbroken f.span.start NoReturn (not (closes f.body)) [] both.1).0, all.1)

all_kept : (p : Program) (fs : List Function) (names : List (List ℕ)) → bodies p fs names ≡ [] → Among (names_after p fs names) (foreign_names p) → (i : ℕ) (g : Function) → slice_get fs i ≡ Some g → Kept p g
all_kept p [] names b a i g h = absurd cc
all_kept p (f ∷ fs) names b a zero g h =
    let one = body p f names in
    let is : f ≡ g = cc in
    let kept = split p f fs names b in
    subst (Kept p) is (record {
      names = names;
      breaks = kept.0;
      closes = kept.1;
      among = among_then (one.state).names (names_after p fs (one.state).names) (foreign_names p) (after_grows p fs (one.state).names) a;
    })
all_kept p (f ∷ fs) names b a (suc i) g h = all_kept p fs ((body p f names).state).names (split p f fs names b).2 a i g h

-- ---- bodies

module _ (ill halt : Ending) (p : Program) where
  -- what a body leaves, where it closes and stands in no loop
  left_soundly : (f : Function) (t : check.Scopes) (closing : Bool) (o o' : Outcome Scopes Value) → closing ≡ true
      → Keeps halt (λ (v : Scopes). Fits t v × (closing ≡ false)) (λ (v : Scopes). (false ≡ true) × Fits [] (drop 1 v)) (HasShape f.result) (Thrown p) o o' → Keeps halt {V = Unit {0}} (λ u. ⊥) (λ u. ⊥) (HasShape f.result) (Thrown p) (soundly_left ill halt f.result o) (left o')
  left_soundly f t closing o o' c k = subst (λ (r : Outcome Scopes Value). Keeps halt {V = Unit {0}} (λ u. ⊥) (λ u. ⊥) (HasShape f.result) (Thrown p) (soundly_left ill halt f.result r) (left o')) (sym k.same) (by o' k.so)
    where
      by : (o : Outcome Scopes Value) → Leaves (λ (v : Scopes). Fits t v × (closing ≡ false)) (λ (v : Scopes). (false ≡ true) × Fits [] (drop 1 v)) (HasShape f.result) (Thrown p) o
          → Keeps halt {V = Unit {0}} (λ u. ⊥) (λ u. ⊥) (HasShape f.result) (Thrown p) (soundly_left ill halt f.result (instead halt o)) (left o)
      by (Normal v w) h = let no : true ≡ false = sym c ∙ h.1 in absurd cc
      by (Broken v w) h = let no : false ≡ true = h.0 in absurd cc
      by (Continued v w) h = let no : false ≡ true = h.0 in absurd cc
      by (Returned x w) h = record { same = ap (λ b. unless_ill ill halt b w (Returned x w)) (shaped_value f.result x h); so = h }
      by (Raised i x w) h = record { same = refl; so = h }
      by (Over e w) h = record { same = refl; so = tt }

  module _ (d : ℕ) (callee' callee : Callee (List Value) Value) (callees : SoundCallee halt p callee' callee) where
    each_guard : (r : Shape) (ss : List (Spanned StmtKind)) → map (λ (s : Spanned StmtKind). guarded_kind ill halt p r d callee' s.kind) ss ≡ map (λ (s : Spanned Does). s.kind) (map (guards ill halt p r d callee' callee callees) ss)
    each_guard r [] = refl
    each_guard r (s ∷ ss) = ap (λ ms. guarded_kind ill halt p r d callee' s.kind ∷ ms) (each_guard r ss)

    each_run : (r : Shape) (ss : List (Spanned StmtKind)) → map (λ (s : Spanned StmtKind). run_kind p d callee s.kind) ss ≡ map (λ (s : Spanned Does). s.kind) (map (does ill halt p r d callee' callee callees) ss)
    each_run r [] = refl
    each_run r (s ∷ ss) = ap (λ ms. run_kind p d callee s.kind ∷ ms) (each_run r ss)

    body_sound : (f : Function) → Kept p f → (xs : List Value) (w : World) → ArgumentsFit f.params xs → Keeps halt {V = Unit {0}} (λ u. ⊥) (λ u. ⊥) (HasShape f.result) (Thrown p) (guarded_body ill halt p d callee' f xs w) (body_of p d callee f xs w)
    body_sound f kept xs w fit =
        let b = bound f.params xs fit in
        let ss = (f.body).stmts in
        let begun = entered (cost p f) (tolled (entry_weight f) w) in
        let guarded_on = λ (scope : Scope). soundly_left ill halt f.result (in_turn (map (λ (s : Spanned StmtKind). guarded_kind ill halt p f.result d callee' s.kind) ss) (scope ∷ []) begun) in
        let real_on = λ (scope : Scope). let o : Outcome (Unit {0}) Value = left (in_turn (map (λ (s : Spanned StmtKind). run_kind p d callee s.kind) ss) (scope ∷ []) begun) in o in
        let s : State = record { scopes = check.parameters f.params ∷ []; names = kept.names } in
        let order = order_sound ill halt p f.result d callee' callee callees ss (all_sound ill halt p f.result d callee' callee callees ss) false s (b.scope ∷ []) begun
        (fits_more (check.parameters f.params) b.scope [] [] b.shapes (record { same = refl })) kept.breaks kept.among in
        subst (λ o. Keeps halt {V = Unit {0}} (λ u. ⊥) (λ u. ⊥) (HasShape f.result) (Thrown p) (with_sound ill halt o w guarded_on) (with_value o w real_on)) (sym b.is)
        (subst (λ ms. Keeps halt {V = Unit {0}} (λ u. ⊥) (λ u. ⊥) (HasShape f.result) (Thrown p) (soundly_left ill halt f.result (in_turn ms (b.scope ∷ []) begun)) (real_on b.scope)) (sym (each_guard f.result ss))
        (subst (λ ms. Keeps halt {V = Unit {0}} (λ u. ⊥) (λ u. ⊥) (HasShape f.result) (Thrown p) (soundly_left ill halt f.result (in_turn (map (λ (s : Spanned Does). s.kind) (map (guards ill halt p f.result d callee' callee callees) ss)) (b.scope ∷ []) begun)) (left (in_turn ms (b.scope ∷ []) begun))) (sym (each_run f.result ss))
        (left_soundly f ((in_order (map doing ss) (context ill halt p f.result d callee' callee callees false) s).state).scopes (list_closes ss) _ _ kept.closes order)))

  -- ---- programs

  module _ (keeps : (i : ℕ) (g : Function) → slice_get p.functions i ≡ Some g → Kept p g) where
    pub calls_sound : (d : ℕ) → SoundCallee halt p (guarded_calls ill halt p d) (calls p d)
    calls_sound zero = record { at = λ f g xs w is fit. record { same = refl; so = tt } }
    calls_sound (suc d) = record {
      at = λ f g xs w is fit.
          subst (λ o. Keeps halt {V = Unit {0}} (λ u. ⊥) (λ u. ⊥) (HasShape g.result) (Thrown p) (with_sound ill halt o w (λ g. guarded_body ill halt p d (guarded_calls ill halt p d) g xs w)) (with_value o w (λ g. body_of p d (calls p d) g xs w))) (sym is)
          (body_sound d (guarded_calls ill halt p d) (calls p d) (calls_sound d) g (keeps f g is) xs w fit);
    }

  no_arguments : (f : Function) → nat_lt 0 (length f.params) ≡ false → ArgumentsFit f.params []
  no_arguments f h = by f.params h
    where
      by : (ps : List Param) → nat_lt 0 (length ps) ≡ false → ArgumentsFit ps []
      by [] h = refl
      by (p ∷ ps) h = let no : true ≡ false = sym (less_true 0 (suc (length ps)) (omega arith)) ∙ h in absurd cc

  word_is_left : (s : Shape) (o o' : Outcome (Unit {0}) Value) → is_word s ≡ true → Keeps halt {V = Unit {0}} (λ u. ⊥) (λ u. ⊥) (HasShape s) (Thrown p) o o' → seen (word_left ill halt o) ≡ seen_so halt (seen o')
  word_is_left s o o' h k = ap (λ r. seen (word_left ill halt r)) k.same ∙ by o' k.so
    where
      by : (o : Outcome (Unit {0}) Value) → Leaves {V = Unit {0}} (λ u. ⊥) (λ u. ⊥) (HasShape s) (Thrown p) o → seen (word_left ill halt (instead halt o)) ≡ seen_so halt (seen o)
      by (Normal v w) q = absurd q
      by (Broken v w) q = absurd q
      by (Continued v w) q = absurd q
      by (Returned x w) q =
          let n = word_value s x h q in
          subst (λ a. seen (word_left ill halt (Returned a w)) ≡ seen_so halt (seen (Returned a w))) (sym n.1) refl
      by (Raised i x w) q = refl
      by (Over e w) q = refl

-- what main breaks
main_known : (o : Option Function) → main_breaks o ≡ [] → (f : Function) × (o ≡ Some f) × (nat_lt 0 (length f.params) ≡ false) × (is_word f.result ≡ true)
main_known None h = absurd cc
main_known (Some f) h =
    let both = neither (nat_lt 0 (length f.params)) (not (is_word f.result)) (unbroken f.span.start MainShape (nat_lt 0 (length f.params) || not (is_word f.result)) [] h).0 in
    (f, refl, both.0, not_false (is_word f.result) both.1)

-- each function of a program that keeps every rule
pub well_kept : (p : Program) → IsWellShaped p → (i : ℕ) (g : Function) → slice_get p.functions i ≡ Some g → Kept p g
well_kept p well =
    let main_rules = main_breaks (function_of (codes "main") p) in
    let heads = exception_heads [] p.exceptions ++ function_heads [] p.functions in
    let light = append_none (heads ++ main_rules ++ bodies p p.functions []) (weight_breaks p) well in
    all_kept p p.functions [] (append_none (heads ++ main_rules) (bodies p p.functions []) light.0).1 (among_same (foreign_names p))

pub guarded_same : (ill halt : Ending) (p : Program) (m : List ℕ) (r : List Replied) (n : ℕ) → IsWellShaped p → guarded ill halt p m r n ≡ seen_so halt (source p m r n)
guarded_same ill halt p m r n well =
    let heads = exception_heads [] p.exceptions ++ function_heads [] p.functions in
    let main_rules = main_breaks (function_of (codes "main") p) in
    let light = append_none (heads ++ main_rules ++ bodies p p.functions []) (weight_breaks p) well in
    let rest = append_none (heads ++ main_rules) (bodies p p.functions []) light.0 in
    let main = append_none heads main_rules rest.0 in
    let f = main_known (function_of (codes "main") p) main.1 in
    let at = found_at (λ (g : Function). bytes_eq g.name (codes "main")) p.functions f.0 f.1 in
    let sound = calls_sound ill halt p (well_kept p well) (suc n) in
    let k = sound.at at.number f.0 [] (start m r n) at.stands (no_arguments ill halt p f.0 f.2) in
    ap (λ o. seen (word_left ill halt (with_sound ill halt o (start m r n) (λ i. guarded_calls ill halt p (suc n) i [] (start m r n))))) at.is
    ∙ word_is_left ill halt p (f.0).result _ _ f.3 k
    ∙ ap (λ o. seen_so halt (seen (with_value o (start m r n) (λ i. calls p (suc n) i [] (start m r n))))) (sym at.is)
