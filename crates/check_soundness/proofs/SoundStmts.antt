-- A statement that the check lets pass does the same in the guarded meaning, and leaves variables and values of the check's shapes.
use Rattle.std.proofs.Common.{◌≡◌, ℕ, arith, ◌+◌, ◌%◌, ◌^◌, ◌*◌, Bool, true, false, ◌&&◌, ◌||◌, not, nat_eq, List, [], ◌∷◌, ◌++◌, map, length, drop, Option, Some, None, slice_get, refl, sym, ap, subst, ◌∙◌}
use Rattle.std.specs.Prelude.{option_map, if◌then◌else◌}
use Rattle.std.specs.Option.{is_some, option_map_or}
use Rattle.std.specs.Str.{bytes_eq}
use Rattle.std.proofs.lemmas.Bool.Decides.{nat_tests}
use Rattle.pan_base.specs.Events.{Ending, Spent, Load, Store, Foreign, byte_count}
use Rattle.pan_control.specs.World.{tolled}
use Rattle.pan_control.specs.Memory.{is_shared, bytes_at, with_byte, with_words}
use Rattle.pan_control.specs.Control.{Normal, Broken, Continued, Returned, Raised, Over, in_turn, with_value, turns, call, tail_call, if_not_zero}
use Rattle.pan_control.specs.Runs.{number, tested_again}
use Rattle.pan_tree.specs.Running.{World, Outcome, Callee}
use Rattle.pan_tree.specs.Nodes.{Expr}
use Rattle.pan_tree.specs.Scopes.{innermost}
use Rattle.pan_tree.specs.Value.{Value, Word, words_in}
use Rattle.pan_tree.specs.Shapes.{words_of, shape_in, is_word, same, zero_of}
use Rattle.pan_tree.specs.Check as check
use Rattle.pan_tree.specs.Check.{Context, State, Doing, Done, Judged, broken, breaks_of, has_no_word, in_order, block, doing, do_layer, do_kind, closes_layer, closes_kind, last_of, no_value, is_other, or_word, wrong_count, wrong_shape, differ, function_of, exception_of, result_of, is_new_twice, is_old_unknown, is_old_other, after_target, handler_unknown, foreign_names}
use Rattle.pan_tree.specs.Meaning as source
use Rattle.pan_tree.specs.Meaning.{Does, Scope, Scopes, scoped, into, into_nothing, caught, expr_weight, own_weight, value, values, word, function_index, exception_index, foreign_index, act_layer, run_layer, run_kind}
use Rattle.pan_tree.specs.declared.rule.Rule.{Rule}
use Rattle.pan_tree.specs.declared.rule.Rule.TheVariants.{TwoNames, UnknownName, UnknownFunction, UnknownException, WrongShape, WrongCount, NotWord, LoopOutside}
use Rattle.pan_tree.specs.declared.shape.Shape.{Shape}
use Rattle.pan_tree.specs.declared.shape.Shape.TheVariants as shape
use Rattle.pan_tree.specs.declared.spanned.Spanned.{Spanned}
use Rattle.pan_tree.specs.declared.syntax.BlockOf.{BlockOf}
use Rattle.pan_tree.specs.declared.syntax.HandlerOf.{HandlerOf}
use Rattle.pan_tree.specs.declared.syntax.Target.{Target}
use Rattle.pan_tree.specs.declared.syntax.Target.TheVariants as target
use Rattle.pan_tree.specs.declared.syntax.StmtKind.{StmtKind, StmtKind-F, roll-StmtKind, map-StmtKind, fold-roll-StmtKind}
use Rattle.pan_tree.specs.declared.syntax.StmtKind.TheOpen as stmt
use Rattle.pan_tree.specs.declared.program.Param.{Param}
use Rattle.pan_tree.specs.declared.program.Exception.{Exception}
use Rattle.pan_tree.specs.declared.program.Function.{Function}
use Rattle.pan_tree.specs.declared.program.Program.{Program}
use Rattle.pan_tree.proofs.CheckLayers.{do_roll, closes_roll}
use Rattle.pan_tree.proofs.MeaningLayers.{by_layers, run_roll}
use Rattle.pan_tree.proofs.OwnWeights.{own_weight_same}
use Rattle.check_soundness.specs.Spread.{spread}
use Rattle.check_soundness.specs.Guarded.{own_breaks, is_empty, has_number, breaks_nothing, alone, unless_ill, unless_failed, guarded_act, guarded_layer, guarded_kind}
use Rattle.check_soundness.proofs.SpreadShapes.{spread_word, word_spread, same_spread, filled_shape}
use Rattle.check_soundness.proofs.Alike.{spread_same}
use Rattle.check_soundness.proofs.AlikeScopes.{at_shape}
use Rattle.check_soundness.proofs.Rules.{unbroken, append_none, neither, not_false}
use Rattle.check_soundness.proofs.Fitting.{Fits, fits_alike, fits_declare, fits_assign, fits_drop, fits_more, value_fits, values_fit, variable_fits, ArgumentsFit, differ_none}
use Rattle.check_soundness.proofs.OwnRules.{own_alike}
use Rattle.check_soundness.proofs.CheckedStmts.{target_outer, handle_scopes, outer_order, outer_same, own_name, Among, among_then, order_names}
use Rattle.check_soundness.proofs.Named.{position_is, found_at, any_found, some_is}
use Rattle.check_soundness.proofs.Alone.{without_fuel, sure_choice, tested_alone}
use Rattle.check_soundness.proofs.OwnOfWhole.{whole_done, own_of_whole}
use Rattle.check_soundness.proofs.Keeping.{Leaves, instead, Keeps, keeps_as, keeps_less, then_keeps, with_leaves, where_leaves, ask_leaves, alone_keeps, first_keeps, sure_keeps, choice_keeps, on_keeps, nowhere, call_keeps, tail_keeps, Tried, turns_keeps}

-- an exception has a value of its shape
abbrev pub Thrown : Program → ℕ → Value → Type 0
Thrown p i a = (x : Exception) × (slice_get p.exceptions i ≡ Some x) × (shape_in a ≡ spread x.shape)

-- a value has this shape
abbrev pub HasShape : Shape → Value → Type 0
HasShape s a = shape_in a ≡ spread s

-- a callee with arguments of its parameters' shapes does the same, and returns a value of its shape
pub record SoundCallee (halt : Ending) (p : Program) (guarded real : Callee (List Value) Value) : Type 0 where
  pub at : (f : ℕ) (g : Function) (xs : List Value) (w : World) → slice_get p.functions f ≡ Some g → ArgumentsFit g.params xs → Keeps halt {V = Unit {0}} (λ u. ⊥) (λ u. ⊥) (HasShape g.result) (Thrown p) (guarded f xs w) (real f xs w)

-- the last of these closes
abbrev pub list_closes : List (Spanned StmtKind) → Bool
list_closes ss = option_map_or (λ (x : Spanned StmtKind). closes_kind x.kind) (last_of ss) false

closes_more : (x : Spanned StmtKind) (xs : List (Spanned StmtKind)) → closes_kind x.kind ≡ false → list_closes xs ≡ false → list_closes (x ∷ xs) ≡ false
closes_more x [] h g = h
closes_more x (y ∷ ys) h g = g

-- a known variable that is a word
word_variable : (o : Option Shape) → no_value o ≡ false → is_word (or_word o) ≡ true → is_other o shape.Word ≡ false
word_variable None h g = absurd cc
word_variable (Some r) h g = ap not (spread_same r shape.Word (word_spread r g ∙ sym spread_word))

known_is : {X : Type 0} (o : Option X) → no_value o ≡ false → (x : X) × (o ≡ Some x)
known_is None h = absurd cc
known_is (Some x) h = (x, refl)

same_number : (i j : ℕ) → nat_eq i j ≡ true → i ≡ j
same_number i j h = grind (arith, nat_tests)

hit_is : (i : ℕ) (o : Option ℕ) → option_map_or (nat_eq i) o false ≡ true → o ≡ Some i
hit_is i None h = absurd cc
hit_is i (Some j) h = ap Some (sym (same_number i j h))

-- the arguments of a call that breaks no rule
counted : (g : Function) (o : Option Function) (js : List Judged) → o ≡ Some g → wrong_count o js ≡ false → nat_eq (length g.params) (length js) ≡ true
counted g o js e h = not_false (nat_eq (length g.params) (length js)) (sym (ap (λ o. wrong_count o js) e) ∙ h)

arguments_fit : (g : Function) (o : Option Function) (js : List Judged) → o ≡ Some g → wrong_count o js ≡ false → wrong_shape o js ≡ false → map spread (map (λ (j : Judged). j.shape) js) ≡ map (λ (p : Param). spread p.shape) g.params
arguments_fit g o js e h k =
    let n = counted g o js e h in
    differ_none g.params js n (sym (ap (λ b. b && differ g.params js) n) ∙ sym (ap (λ o. wrong_shape o js) e) ∙ k)

module _ (ill halt : Ending) (p : Program) (result : Shape) (d : ℕ) (callee' callee : Callee (List Value) Value) (callees : SoundCallee halt p callee' callee) where
  abbrev pub run : StmtKind → Does
  run = run_kind p d callee

  abbrev pub guard : StmtKind → Does
  guard = guarded_kind ill halt p result d callee'

  guard_roll : (y : StmtKind-F StmtKind) → guard (roll-StmtKind y) ≡ guarded_layer ill halt p result d callee' (map-StmtKind StmtKind Does guard y)
  unfolding guarded_kind
  guard_roll y = fold-roll-StmtKind Does (guarded_layer ill halt p result d callee') y

  -- inside a loop or not
  abbrev pub context : Bool → Context
  context l = record { program = p; result = result; in_loop = l }

  -- where a statement goes on the variables are those of the check, and it doesn't close
  abbrev pub N : check.Scopes → Bool → Scopes → Type 0
  N t closes v = Fits t v × (closes ≡ false)

  -- where it leaves a loop or its turn, there is a loop, and the outer variables are those of the check
  abbrev pub B : Bool → check.Scopes → Scopes → Type 0
  B l t v = (l ≡ true) × Fits (drop 1 t) (drop 1 v)

  -- the same behind a block
  abbrev pub In : Bool → check.Scopes → Scopes → Type 0
  In l t v = (l ≡ true) × Fits t v

  abbrev pub DoesAlike : (Scopes → Type 0) → (Scopes → Type 0) → Outcome Scopes Value → Outcome Scopes Value → Type 0
  DoesAlike M C o o' = Keeps halt M C (HasShape result) (Thrown p) o o'

  -- what the check makes of a statement, whether it closes, and what it does
  abbrev pub SoundAs : Doing → Bool → Does → Does → Type 0
  SoundAs checked closes guarded real = (l : Bool) (place : ℕ) (s : State) (v : Scopes) (w : World) → let done = checked (context l) place s in
      Fits s.scopes v → done.breaks ≡ [] → Among (done.state).names (foreign_names p) → DoesAlike (N (done.state).scopes closes) (B l s.scopes) (guarded v w) (real v w)

  abbrev pub IsSound : StmtKind → Type 0
  IsSound k = SoundAs (do_kind k) (closes_kind k) (guard k) (run k)

  abbrev Known : Type 0
  Known = (k : StmtKind) × IsSound k

  abbrev plain : Spanned Known → Spanned StmtKind
  plain s = record { kind = s.kind.0; span = s.span }

  abbrev pub does : Spanned StmtKind → Spanned Does
  does s = record { kind = run s.kind; span = s.span }

  abbrev pub guards : Spanned StmtKind → Spanned Does
  guards s = record { kind = guard s.kind; span = s.span }

  abbrev pub AllSound : List (Spanned StmtKind) → Type 0
  AllSound [] = Unit {0}
  AllSound (s ∷ ss) = IsSound s.kind × AllSound ss

  all_known : (ss : List (Spanned Known)) → AllSound (map plain ss)
  all_known [] = tt
  all_known (s ∷ ss) = (s.kind.1, all_known ss)

  abbrev in_turn_of : (Spanned StmtKind → Spanned Does) → List (Spanned StmtKind) → Does
  in_turn_of f ss = in_turn (map (λ (s : Spanned Does). s.kind) (map f ss))

  -- ---- blocks

  pub order_sound : (ss : List (Spanned StmtKind)) → AllSound ss → (l : Bool) (s : State) (v : Scopes) (w : World) → let done = in_order (map doing ss) (context l) s in
      Fits s.scopes v → done.breaks ≡ [] → Among (done.state).names (foreign_names p) → DoesAlike (N (done.state).scopes (list_closes ss)) (B l s.scopes) (in_turn_of guards ss v w) (in_turn_of does ss v w)
  order_sound [] all l s v w f b a = record { same = refl; so = (f, refl) }
  order_sound (x ∷ xs) all l s v w f b a =
      let one = do_kind x.kind (context l) x.span.start s in
      let last = (in_order (map doing xs) (context l) one.state).state in
      let breaks = append_none one.breaks (in_order (map doing xs) (context l) one.state).breaks b in
      let names = among_then (one.state).names last.names (foreign_names p) (order_names xs (context l) one.state) a in
      then_keeps ill halt (HasShape result) (Thrown p) (N (one.state).scopes (closes_kind x.kind)) (B l s.scopes) (N last.scopes (list_closes (x ∷ xs))) (guard x.kind v w) (run x.kind v w) _ _
      (all.0 l x.span.start s v w f breaks.0 names)
      (λ t w n.
      keeps_less ill halt (HasShape result) (Thrown p) (N last.scopes (list_closes xs)) (B l (one.state).scopes) (N last.scopes (list_closes (x ∷ xs))) (B l s.scopes) (in_turn_of guards xs t w) (in_turn_of does xs t w)
      (λ u h. (h.0, closes_more x xs n.1 h.1)) (λ u h. (h.0, subst (λ scopes. Fits scopes (drop 1 u)) (outer_same x.kind (context l) x.span.start s) h.1))
      (order_sound xs all.1 l one.state t w n.0 breaks.1 a))

  -- a block of these statements
  abbrev block_of : (Spanned StmtKind → Spanned Does) → List (Spanned StmtKind) → BlockOf (Spanned Does)
  block_of f ss = record { stmts = map f ss }

  abbrev checked_block : check.Scope → List (Spanned StmtKind) → Bool → State → Done
  checked_block scope ss l s = block scope (record { stmts = map doing ss }) (context l) s

  block_sound : (scope : check.Scope) (first : Scope) (ss : List (Spanned StmtKind)) → AllSound ss → (l : Bool) (s : State) (v : Scopes) (w : World) → at_shape shape_in first ≡ at_shape spread scope → Fits s.scopes v
      → (checked_block scope ss l s).breaks ≡ [] → Among ((checked_block scope ss l s).state).names (foreign_names p) → DoesAlike (N s.scopes (list_closes ss)) (In l s.scopes) (scoped first (block_of guards ss) v w) (scoped first (block_of does ss) v w)
  block_sound scope first ss all l s v w e f b a =
      let start : State = record s { scopes = scope ∷ s.scopes } in
      let inner = (in_order (map doing ss) (context l) start).state in
      on_keeps ill halt (HasShape result) (Thrown p) (N inner.scopes (list_closes ss)) (B l start.scopes) (N s.scopes (list_closes ss)) (In l s.scopes) (drop 1) (in_turn_of guards ss (first ∷ v) w) (in_turn_of does ss (first ∷ v) w)
      (λ u h. (subst (λ scopes. Fits scopes (drop 1 u)) (outer_order ss (context l) start) (fits_drop inner.scopes u h.0), h.1)) (λ u h. h)
      (order_sound ss all l start (first ∷ v) w (fits_more scope first s.scopes v e f) b a)

  -- behind a block what is known is known behind its statement
  out_of : (l : Bool) (t : check.Scopes) (v : Scopes) → In l t v → B l t v
  out_of l t v h = (h.0, fits_drop t v h.1)

  -- ---- what is tried

  module _ (l : Bool) (place : ℕ) (s : State) where
    abbrev parts : StmtKind-F Known → StmtKind-F StmtKind
    parts y = map-StmtKind Known StmtKind (λ c. c.0) y

    abbrev done_of : StmtKind-F StmtKind → Done
    done_of y = whole_done (context l) place s y

    name_known : (x : List ℕ) → Among (check.with_name x s.names) (foreign_names p) → is_some (foreign_index x p) ≡ true
    name_known x a =
        let found = any_found (λ y. bytes_eq y x) (foreign_names p) (a.at x (own_name x s.names)) in
        let at = found_at (λ y. bytes_eq y x) (foreign_names p) found.0 found.1 in
        some_is (foreign_index x p) at.number at.is

    numbered : (y : StmtKind-F StmtKind) → Among ((done_of y).state).names (foreign_names p) → has_number p (map-StmtKind StmtKind Does guard y) ≡ true
    numbered (stmt.Foreign x e f g h) a = name_known x a
    numbered y a = refl

    empty_is : {A : Type 0} (xs : List A) → xs ≡ [] → is_empty xs ≡ true
    empty_is [] h = refl
    empty_is (x ∷ xs) h = absurd cc

    -- from variables of the check's shapes a statement that breaks nothing breaks nothing when it is reached
    nothing_broken : (y : StmtKind-F StmtKind) (v : Scopes) → Fits s.scopes v → (done_of y).breaks ≡ [] → Among ((done_of y).state).names (foreign_names p) → breaks_nothing p result (map-StmtKind StmtKind Does guard y) v ≡ true
    nothing_broken y v f b a =
        let own = (own_alike guard p result result l place s (source.shapes v) (fits_alike s.scopes v f) y).breaks refl (own_of_whole (context l) place s y b) in
        ap (λ x. x && has_number p (map-StmtKind StmtKind Does guard y)) (empty_is (own_breaks p result (map-StmtKind StmtKind Does guard y) v) own) ∙ numbered y a

    -- ---- calls

    abbrev handler_of : (Spanned StmtKind → Spanned Does) → Option (HandlerOf (Spanned Known)) → Option (HandlerOf (Spanned Does))
    handler_of f None = None
    handler_of f (Some h) = Some (record { exception = h.exception; name = h.name; body = block_of f (map plain (h.body).stmts) })

    abbrev handler_doing : Option (HandlerOf (Spanned Known)) → Option (HandlerOf (Spanned Doing))
    handler_doing None = None
    handler_doing (Some h) = Some (record { exception = h.exception; name = h.name; body = record { stmts = map doing (map plain (h.body).stmts) } })

    abbrev result_in : List ℕ → Shape
    result_in name = result_of (function_of name p)

    abbrev behind : Target → List ℕ → State
    behind t name = record s { scopes = after_target t (result_in name) s.scopes }

    abbrev arguments : List Expr → List Judged
    arguments es = map (λ x. check.judged x s.scopes) es

    abbrev call_rules : Target → List ℕ → List Expr → Bool → List (Rule × Bool)
    call_rules t name es unknown =
        let f = function_of name p in
        (TwoNames, is_new_twice t s.scopes) ∷ (UnknownName, is_old_unknown t s.scopes) ∷ (UnknownFunction, no_value f) ∷ (UnknownException, unknown)
        ∷ (WrongShape, wrong_shape f (arguments es) || is_old_other t f s.scopes) ∷ (WrongCount, wrong_count f (arguments es)) ∷ []

    abbrev call_done : Target → List ℕ → List Expr → Option (HandlerOf (Spanned Known)) → Done
    call_done t name es h =
        check.and_block
        (check.plain place (check.target_words t (result_in name) s.scopes + words_of (result_in name)) (arguments es) (call_rules t name es (handler_unknown (handler_doing h) p)) (behind t name))
        (check.handle (handler_doing h) (context l))

    -- what a call that breaks no rule keeps
    record Called (t : Target) (name : List ℕ) (es : List Expr) : Type 0 where
      unknown : is_old_unknown t s.scopes ≡ false
      callee_of : Function
      known : function_of name p ≡ Some callee_of
      shapes : wrong_shape (function_of name p) (arguments es) ≡ false
      other : is_old_other t (function_of name p) s.scopes ≡ false
      count : wrong_count (function_of name p) (arguments es) ≡ false

    called : (t : Target) (name : List ℕ) (es : List Expr) (unknown : Bool) → broken place (call_rules t name es unknown) ≡ [] → Called t name es
    called t name es unknown b =
        let f = function_of name p in
        let r5 : List (Rule × Bool) = (WrongCount, wrong_count f (arguments es)) ∷ [] in
        let r4 : List (Rule × Bool) = (WrongShape, wrong_shape f (arguments es) || is_old_other t f s.scopes) ∷ r5 in
        let r3 : List (Rule × Bool) = (UnknownException, unknown) ∷ r4 in
        let r2 : List (Rule × Bool) = (UnknownFunction, no_value f) ∷ r3 in
        let r1 : List (Rule × Bool) = (UnknownName, is_old_unknown t s.scopes) ∷ r2 in
        let b1 = unbroken place TwoNames (is_new_twice t s.scopes) r1 b in
        let b2 = unbroken place UnknownName (is_old_unknown t s.scopes) r2 b1.1 in
        let b3 = unbroken place UnknownFunction (no_value f) r3 b2.1 in
        let b4 = unbroken place UnknownException unknown r4 b3.1 in
        let b5 = unbroken place WrongShape (wrong_shape f (arguments es) || is_old_other t f s.scopes) r5 b4.1 in
        let b6 = unbroken place WrongCount (wrong_count f (arguments es)) [] b5.1 in
        let both = neither (wrong_shape f (arguments es)) (is_old_other t f s.scopes) b5.0 in
        let known = known_is f b3.0 in
        record { unknown = b2.0; callee_of = known.0; known = known.1; shapes = both.0; other = both.1; count = b6.0 }

    into_fits : (t : Target) (r : Shape) (g : Function) (o : Option Function) (a : Value) (v : Scopes) → Fits s.scopes v → o ≡ Some g → r ≡ g.result → is_old_unknown t s.scopes ≡ false → is_old_other t o s.scopes ≡ false → HasShape r a → Fits (after_target t r s.scopes) (into t a v)
    into_fits target.Nothing r g o a v f e is h k q = f
    into_fits (target.Old x) r g o a v f e is h k q =
        let b = variable_fits x g.result a s.scopes v f h (sym (ap (λ o. is_old_other (target.Old x) o s.scopes) e) ∙ k) (q ∙ ap spread is) in
        fits_assign x a b.0 s.scopes v b.1 b.2 f
    into_fits (target.New x) r g o a v f e is h k q = fits_declare x r a s.scopes v q f

    nothing_fits : (t : Target) (r : Shape) (v : Scopes) → Fits s.scopes v → Fits (after_target t r s.scopes) (into_nothing t r v)
    nothing_fits target.Nothing r v f = f
    nothing_fits (target.Old x) r v f = f
    nothing_fits (target.New x) r v f = fits_declare x r (zero_of r) s.scopes v (filled_shape r []) f

    caught_sound : (t : Target) (name : List ℕ) (h : Option (HandlerOf (Spanned Known))) (u : Scopes) → Fits (behind t name).scopes u → let done = check.handle (handler_doing h) (context l) (behind t name) in done.breaks ≡ [] → Among (done.state).names (foreign_names p)
        → (i : ℕ) (a : Value) (w : World) → Thrown p i a → DoesAlike (N (behind t name).scopes false) (B l s.scopes) (caught p (handler_of guards h) u i a w) (caught p (handler_of does h) u i a w)
    caught_sound t name None u f b names i a w x = record { same = refl; so = x }
    caught_sound t name (Some h) u f b names i a w x = by (option_map_or (nat_eq i) (exception_index h.exception p) false) refl
      where
        by : (c : Bool) → option_map_or (nat_eq i) (exception_index h.exception p) false ≡ c
            → DoesAlike (N (behind t name).scopes false) (B l s.scopes) (if c then scoped ((h.name, a) ∷ []) (block_of guards (map plain (h.body).stmts)) u w else Raised i a w) (if c then scoped ((h.name, a) ∷ []) (block_of does (map plain (h.body).stmts)) u w else Raised i a w)
        by false e = record { same = refl; so = x }
        by true e =
            let known : exception_of h.exception p ≡ Some x.0 = sym (position_is (λ (y : Exception). bytes_eq y.name h.exception) p.exceptions i (hit_is i (exception_index h.exception p) e)) ∙ x.1 in
            let value = option_map_or (λ (x : Exception). x.shape) (exception_of h.exception p) shape.Word in
            let is : value ≡ (x.0).shape = ap (λ o. option_map_or (λ (x : Exception). x.shape) o shape.Word) known in
            keeps_less ill halt (HasShape result) (Thrown p) (N (behind t name).scopes (list_closes (map plain (h.body).stmts))) (In l (behind t name).scopes) (N (behind t name).scopes false) (B l s.scopes) _ _
            (λ z k. (k.0, refl)) (λ z k. (k.0, subst (λ scopes. Fits scopes (drop 1 z)) (target_outer t (result_in name) s.scopes) (fits_drop (behind t name).scopes z k.1)))
            (block_sound ((h.name, value) ∷ []) ((h.name, a) ∷ []) (map plain (h.body).stmts) (all_known (h.body).stmts) l (behind t name) u w (ap (λ z. (h.name, z) ∷ []) (x.2 ∙ ap spread (sym is))) f b names)

    call_sound : (t : Target) (name : List ℕ) (es : List Expr) (h : Option (HandlerOf (Spanned Known))) (by_itself : Option (HandlerOf (Spanned Does))) (v : Scopes) (w : World) → Fits s.scopes v → (call_done t name es h).breaks ≡ []
        → Among ((call_done t name es h).state).names (foreign_names p)
        → DoesAlike (N ((call_done t name es h).state).scopes false) (B l s.scopes)
        (unless_failed ill halt (act_layer p 0 (nowhere ill halt (HasShape result) (Thrown p) (N [] false) (N [] false)) (stmt.Call (record { into = t; function = name; args = es; handler = by_itself })) v w)
        (act_layer p d callee' (stmt.Call (record { into = t; function = name; args = es; handler = handler_of guards h })) v w))
        (act_layer p d callee (stmt.Call (record { into = t; function = name; args = es; handler = handler_of does h })) v w)
    call_sound t name es h by_itself v w f b names =
        let rules = call_rules t name es (handler_unknown (handler_doing h) p) in
        let both = append_none (breaks_of (arguments es) ++ broken place rules) (check.handle (handler_doing h) (context l) (behind t name)).breaks b in
        let c = called t name es (handler_unknown (handler_doing h) p) (append_none (breaks_of (arguments es)) (broken place rules) both.0).1 in
        let g = c.callee_of in
        let is : result_in name ≡ g.result = ap result_of c.known in
        let u = into_nothing t (result_in name) v in
        let give = λ (a : Value) (w : World). let o : Outcome Scopes Value = Normal (into t a v) w in o in
        let guarded_calls = λ (i : ℕ). call callee' i (values es v w.memory) w give (caught p (handler_of guards h) u) in
        let real_calls = λ (i : ℕ). call callee i (values es v w.memory) w give (caught p (handler_of does h) u) in
        let calls_alone = λ (i : ℕ). call (λ f xs w. Over Spent w) i (values es v w.memory) w give (caught p by_itself u) in
        subst (λ scopes. DoesAlike (N scopes false) (B l s.scopes) (unless_failed ill halt (with_value (function_index name p) w calls_alone) (with_value (function_index name p) w guarded_calls)) (with_value (function_index name p) w real_calls)) (sym (handle_scopes (handler_doing h) (context l) (behind t name)))
        (first_keeps ill halt (HasShape result) (Thrown p) (N (behind t name).scopes false) (B l s.scopes) (function_index name p) w calls_alone guarded_calls real_calls (λ i found.
        call_keeps ill halt (HasShape result) (Thrown p) (N (behind t name).scopes false) (B l s.scopes) (HasShape g.result) callee' callee i (values es v w.memory) w give give (caught p (handler_of guards h) u) (caught p (handler_of does h) u) give (caught p by_itself u)
        (λ xs w' given.
        callees.at i g xs w' (position_is (λ (z : Function). bytes_eq z.name name) p.functions i found ∙ c.known) (values_fit es s.scopes v w.memory xs f given ∙ arguments_fit g (function_of name p) (arguments es) c.known c.count c.shapes))
        (λ a w' q. record { same = refl; so = (into_fits t (result_in name) g (function_of name p) a v f c.known is c.unknown c.other (q ∙ ap spread (sym is)), refl) })
        (λ j a w' x. caught_sound t name h u (nothing_fits t (result_in name) v f) both.1 names j a w' x)))

    -- ---- all statements

    abbrev tried_act : StmtKind-F Does → Does
    tried_act (stmt.While e body) v w =
        turns d (λ v w. unless_ill ill halt (breaks_nothing p result (stmt.While e body) v) w (unless_failed ill halt (alone p (stmt.While e body) v w) (Normal v w))) (λ v w. word e v w.memory) (λ v w. tested_again (expr_weight e) (scoped [] body v w)) v w
    tried_act y v w = unless_failed ill halt (alone p y v w) (act_layer p d callee' y v w)

    abbrev guarded_parts : StmtKind-F Known → StmtKind-F Does
    guarded_parts y = map-StmtKind StmtKind Does guard (parts y)

    abbrev running_parts : StmtKind-F Known → StmtKind-F Does
    running_parts y = map-StmtKind StmtKind Does run (parts y)

    abbrev closing : StmtKind-F Known → Bool
    closing y = closes_layer (map-StmtKind StmtKind Bool closes_kind (parts y))

    abbrev ActSound : StmtKind-F Known → Type 0
    ActSound y = (v : Scopes) (w : World) → Fits s.scopes v → (done_of (parts y)).breaks ≡ [] → Among ((done_of (parts y)).state).names (foreign_names p)
        → DoesAlike (N ((done_of (parts y)).state).scopes (closing y)) (B l s.scopes) (tried_act (guarded_parts y) v w) (act_layer p d callee (running_parts y) v w)

    rules_kept : (js : List Judged) (rules : List (Rule × Bool)) → breaks_of js ++ broken place rules ≡ [] → broken place rules ≡ []
    rules_kept js rules b = (append_none (breaks_of js) (broken place rules) b).1

    again_keeps : (M : Scopes → Type 0) (weight : Scopes → ℕ) (o o' : Outcome Scopes Value) → DoesAlike M M o o' → DoesAlike M M (tested_again weight o) (tested_again weight o')
    again_keeps M weight o o' k = record { same = ap (tested_again weight) k.same ∙ on o'; so = by o' k.so }
      where
        on : (o : Outcome Scopes Value) → tested_again weight (instead halt o) ≡ instead halt (tested_again weight o)
        on (Normal v w) = refl
        on (Broken v w) = refl
        on (Continued v w) = refl
        on (Returned x w) = refl
        on (Raised i x w) = refl
        on (Over e w) = refl

        by : (o : Outcome Scopes Value) → Leaves M M (HasShape result) (Thrown p) o → Leaves M M (HasShape result) (Thrown p) (tested_again weight o)
        by (Normal v w) h = h
        by (Broken v w) h = h
        by (Continued v w) h = h
        by (Returned x w) h = h
        by (Raised i x w) h = h
        by (Over e w) h = h

    and_false : (a b : Bool) → b ≡ false → (a && b) ≡ false
    and_false true b h = h
    and_false false b h = refl

    -- the closing of a block with what its statements close
    block_closing : (ss : List (Spanned Known)) → check.block_closes (record { stmts = map (λ (x : Spanned StmtKind). record { kind = closes_kind x.kind; span = x.span }) (map plain ss) }) ≡ list_closes (map plain ss)
    block_closing [] = refl
    block_closing (x ∷ []) = refl
    block_closing (x ∷ y ∷ ys) = block_closing (y ∷ ys)

    not_in_loop : broken place ((LoopOutside, not l) ∷ []) ≡ [] → l ≡ true
    not_in_loop b = not_false l (unbroken place LoopOutside (not l) [] b).0

    if_sound : (e : Expr) (x y : BlockOf (Spanned Known)) → ActSound (stmt.If e x y)
    if_sound e x y v w f b names =
        let first = checked_block [] (map plain x.stmts) l s in
        let test = check.plain place 0 (check.judged e s.scopes ∷ []) ((NotWord, has_no_word (check.judged e s.scopes ∷ [])) ∷ []) s in
        let second = checked_block [] (map plain y.stmts) l first.state in
        let all = append_none (test.breaks ++ first.breaks) second.breaks b in
        let before = append_none test.breaks first.breaks all.0 in
        let early = among_then (first.state).names (second.state).names (foreign_names p) (order_names (map plain y.stmts) (context l) (record first.state { scopes = [] ∷ s.scopes })) names in
        let c = closing (stmt.If e x y) in
        let xs = map guards (map plain x.stmts) in
        let ys = map guards (map plain y.stmts) in
        first_keeps ill halt (HasShape result) (Thrown p) (N s.scopes c) (B l s.scopes) (word e v w.memory) w (λ n. if_not_zero n (scoped [] (without_fuel xs) v w) (scoped [] (without_fuel ys) v w)) _ _ (λ n is.
        sure_keeps ill halt (HasShape result) (Thrown p) (N s.scopes c) (B l s.scopes) (if_not_zero n (scoped [] (without_fuel xs) v w) (scoped [] (without_fuel ys) v w)) _ _ (sure_choice ill halt n xs ys v w)
        (choice_keeps ill halt (HasShape result) (Thrown p) (N s.scopes c) (B l s.scopes) n _ _ _ _
        (keeps_less ill halt (HasShape result) (Thrown p) (N s.scopes (list_closes (map plain x.stmts))) (In l s.scopes) (N s.scopes c) (B l s.scopes) _ _
        (λ u h. (h.0, ap (λ z. z && check.block_closes (record { stmts = map (λ (x : Spanned StmtKind). record { kind = closes_kind x.kind; span = x.span }) (map plain y.stmts) })) (block_closing x.stmts ∙ h.1))) (out_of l s.scopes)
        (block_sound [] [] (map plain x.stmts) (all_known x.stmts) l s v w refl f before.1 early))
        (keeps_less ill halt (HasShape result) (Thrown p) (N s.scopes (list_closes (map plain y.stmts))) (In l s.scopes) (N s.scopes c) (B l s.scopes) _ _
        (λ u h. (h.0, and_false (check.block_closes (record { stmts = map (λ (x : Spanned StmtKind). record { kind = closes_kind x.kind; span = x.span }) (map plain x.stmts) })) _ (block_closing y.stmts ∙ h.1))) (out_of l s.scopes)
        (block_sound [] [] (map plain y.stmts) (all_known y.stmts) l first.state v w refl f all.1 names))))

    while_sound : (e : Expr) (x : BlockOf (Spanned Known)) → ((v : Scopes) → Fits s.scopes v → breaks_nothing p result (guarded_parts (stmt.While e x)) v ≡ true) → ActSound (stmt.While e x)
    while_sound e x kept v w f b names =
        let inner = checked_block [] (map plain x.stmts) true s in
        let test = check.plain place 0 (check.judged e s.scopes ∷ []) ((NotWord, has_no_word (check.judged e s.scopes ∷ [])) ∷ []) s in
        let both = append_none test.breaks inner.breaks b in
        let tried = breaks_nothing p result (guarded_parts (stmt.While e x)) in
        keeps_less ill halt (HasShape result) (Thrown p) (Fits s.scopes) (B l s.scopes) (N s.scopes false) (B l s.scopes) _ _ (λ u h. (h, refl)) (λ u h. h)
        (turns_keeps ill halt (HasShape result) (Thrown p) (Fits s.scopes) (B l s.scopes) (λ v w. unless_ill ill halt (tried v) w (unless_failed ill halt (alone p (guarded_parts (stmt.While e x)) v w) (Normal v w))) (λ v w. word e v w.memory)
        (λ v w. tested_again (expr_weight e) (scoped [] (block_of guards (map plain x.stmts)) v w)) (λ v w. tested_again (expr_weight e) (scoped [] (block_of does (map plain x.stmts)) v w))
        (λ u z h. subst (λ c. Tried ill halt (HasShape result) (Thrown p) (word e u z.memory) (unless_ill ill halt c z (unless_failed ill halt (alone p (guarded_parts (stmt.While e x)) u z) (Normal u z))) u z) (sym (kept u h)) (tested_alone ill halt p e (map guards (map plain x.stmts)) (HasShape result) (Thrown p) u z))
        (λ u z h.
        again_keeps (Fits s.scopes) (expr_weight e) _ _
        (keeps_less ill halt (HasShape result) (Thrown p) (N s.scopes (list_closes (map plain x.stmts))) (In true s.scopes) (Fits s.scopes) (Fits s.scopes) _ _ (λ u k. k.0) (λ u k. k.1)
        (block_sound [] [] (map plain x.stmts) (all_known x.stmts) true s u z refl h both.1 names)))
        d v w f)

    act_sound : (y : StmtKind-F Known) → ((v : Scopes) → Fits s.scopes v → breaks_nothing p result (guarded_parts y) v ≡ true) → ActSound y
    act_sound stmt.Skip kept v w f b names = record { same = refl; so = (f, refl) }
    act_sound (stmt.Decl x e) kept v w f b names =
        alone_keeps ill halt (HasShape result) (Thrown p) _ (B l s.scopes) _ (with_leaves ill halt (HasShape result) (Thrown p) _ (B l s.scopes) (value e v w.memory) w _ (λ a is. (fits_declare x (check.judged e s.scopes).shape a s.scopes v (value_fits e s.scopes v w.memory a f is) f, refl)))
    act_sound (stmt.Assign x e) kept v w f b names =
        let j = check.judged e s.scopes in
        let known = innermost x s.scopes in
        let one = unbroken place UnknownName (no_value known) ((WrongShape, is_other known j.shape) ∷ []) (rules_kept (j ∷ []) ((UnknownName, no_value known) ∷ (WrongShape, is_other known j.shape) ∷ []) b) in
        let two = unbroken place WrongShape (is_other known j.shape) [] one.1 in
        alone_keeps ill halt (HasShape result) (Thrown p) (N s.scopes false) (B l s.scopes) _ (with_leaves ill halt (HasShape result) (Thrown p) (N s.scopes false) (B l s.scopes) (value e v w.memory) w _ (λ a is.
        let old = variable_fits x j.shape a s.scopes v f one.0 two.0 (value_fits e s.scopes v w.memory a f is) in
        (fits_assign x a old.0 s.scopes v old.1 old.2 f, refl)))
    act_sound (stmt.StoreWords a e) kept v w f b names =
        alone_keeps ill halt (HasShape result) (Thrown p) (N s.scopes false) (B l s.scopes) _ (with_leaves ill halt (HasShape result) (Thrown p) (N s.scopes false) (B l s.scopes) (word a v w.memory) w _ (λ addr is. with_leaves ill halt (HasShape result) (Thrown p) (N s.scopes false) (B l s.scopes) (value e v w.memory) w _ (λ x is.
        with_leaves ill halt (HasShape result) (Thrown p) (N s.scopes false) (B l s.scopes) (with_words w.memory addr (words_in x)) w _ (λ m is. (f, refl)))))
    act_sound (stmt.StoreByte a e) kept v w f b names =
        alone_keeps ill halt (HasShape result) (Thrown p) (N s.scopes false) (B l s.scopes) _ (with_leaves ill halt (HasShape result) (Thrown p) (N s.scopes false) (B l s.scopes) (word a v w.memory) w _ (λ addr is. with_leaves ill halt (HasShape result) (Thrown p) (N s.scopes false) (B l s.scopes) (word e v w.memory) w _ (λ n is.
        with_leaves ill halt (HasShape result) (Thrown p) (N s.scopes false) (B l s.scopes) (with_byte w.memory addr (n % 256)) w _ (λ m is. (f, refl)))))
    act_sound (stmt.If e x y) kept v w f b names = if_sound e x y v w f b names
    act_sound (stmt.While e x) kept v w f b names = while_sound e x kept v w f b names
    act_sound stmt.Break kept v w f b names = record { same = refl; so = (not_in_loop b, fits_drop s.scopes v f) }
    act_sound stmt.Continue kept v w f b names = record { same = refl; so = (not_in_loop b, fits_drop s.scopes v f) }
    act_sound (stmt.Call k) kept v w f b names = handled k.into k.function k.args k.handler v w f b names
      where
        handled : (t : Target) (name : List ℕ) (es : List Expr) (h : Option (HandlerOf (Spanned Known))) → ActSound (stmt.Call (record { into = t; function = name; args = es; handler = h }))
        handled t name es None v w f b names = call_sound t name es None None v w f b names
        handled t name es (Some h) v w f b names = call_sound t name es (Some h) (Some (record { exception = h.exception; name = h.name; body = without_fuel (map guards (map plain (h.body).stmts)) })) v w f b names
    act_sound (stmt.Return e) kept v w f b names =
        let j = check.judged e s.scopes in
        let one = unbroken place WrongShape (not (same result j.shape)) [] (rules_kept (j ∷ []) ((WrongShape, not (same result j.shape)) ∷ []) b) in
        alone_keeps ill halt (HasShape result) (Thrown p) (N s.scopes true) (B l s.scopes) _ (with_leaves ill halt (HasShape result) (Thrown p) (N s.scopes true) (B l s.scopes) (value e v w.memory) w _ (λ a is.
        value_fits e s.scopes v w.memory a f is ∙ sym (same_spread result j.shape (not_false (same result j.shape) one.0))))
    act_sound (stmt.TailCall name es) kept v w f b names =
        let g = function_of name p in
        let other = is_other (option_map (λ (z : Function). z.result) g) result in
        let r3 : List (Rule × Bool) = (WrongCount, wrong_count g (arguments es)) ∷ [] in
        let r2 : List (Rule × Bool) = (WrongShape, wrong_shape g (arguments es) || other) ∷ r3 in
        let one = unbroken place UnknownFunction (no_value g) r2 (rules_kept (arguments es) ((UnknownFunction, no_value g) ∷ r2) b) in
        let two = unbroken place WrongShape (wrong_shape g (arguments es) || other) r3 one.1 in
        let three = unbroken place WrongCount (wrong_count g (arguments es)) [] two.1 in
        let both = neither (wrong_shape g (arguments es)) other two.0 in
        let known = known_is g one.0 in
        let alike = not_false (same (known.0).result result) (sym (ap (λ o. is_other (option_map (λ (z : Function). z.result) o) result) known.1) ∙ both.1) in
        first_keeps ill halt (HasShape result) (Thrown p) (N s.scopes true) (B l s.scopes) (function_index name p) w (λ i. tail_call (λ f xs w. Over Spent w) i (values es v w.memory) w) _ _ (λ i found.
        tail_keeps ill halt (HasShape result) (Thrown p) (N s.scopes true) (B l s.scopes) (HasShape (known.0).result) callee' callee i (values es v w.memory) w
        (λ xs w' given.
        callees.at i known.0 xs w' (position_is (λ (z : Function). bytes_eq z.name name) p.functions i found ∙ known.1) (values_fit es s.scopes v w.memory xs f given ∙ arguments_fit known.0 g (arguments es) known.1 three.0 both.0))
        (λ a q. q ∙ same_spread (known.0).result result alike))
    act_sound (stmt.Raise i e) kept v w f b names =
        let j = check.judged e s.scopes in
        let known = exception_of i p in
        let other = is_other (option_map (λ (x : Exception). x.shape) known) j.shape in
        let one = unbroken place UnknownException (no_value known) ((WrongShape, other) ∷ []) (rules_kept (j ∷ []) ((UnknownException, no_value known) ∷ (WrongShape, other) ∷ []) b) in
        let two = unbroken place WrongShape other [] one.1 in
        let x = known_is known one.0 in
        let alike = not_false (same (x.0).shape j.shape) (sym (ap (λ o. is_other (option_map (λ (x : Exception). x.shape) o) j.shape) x.1) ∙ two.0) in
        alone_keeps ill halt (HasShape result) (Thrown p) (N s.scopes true) (B l s.scopes) _ (with_leaves ill halt (HasShape result) (Thrown p) (N s.scopes true) (B l s.scopes) (exception_index i p) w _ (λ n found. with_leaves ill halt (HasShape result) (Thrown p) (N s.scopes true) (B l s.scopes) (value e v w.memory) w _ (λ a is.
        (x.0, position_is (λ (z : Exception). bytes_eq z.name i) p.exceptions n found ∙ x.1, value_fits e s.scopes v w.memory a f is ∙ sym (same_spread (x.0).shape j.shape alike)))))
    act_sound (stmt.SharedLoad size x a) kept v w f b names =
        let known = innermost x s.scopes in
        let js = check.judged a s.scopes ∷ [] in
        let r3 : List (Rule × Bool) = (NotWord, has_no_word js) ∷ [] in
        let r2 : List (Rule × Bool) = (WrongShape, not (is_word (or_word known))) ∷ r3 in
        let one = unbroken place UnknownName (no_value known) r2 (rules_kept js ((UnknownName, no_value known) ∷ r2) b) in
        let two = unbroken place WrongShape (not (is_word (or_word known))) r3 one.1 in
        alone_keeps ill halt (HasShape result) (Thrown p) (N s.scopes false) (B l s.scopes) _ (with_leaves ill halt (HasShape result) (Thrown p) (N s.scopes false) (B l s.scopes) (word a v w.memory) w _ (λ addr is. where_leaves ill halt (HasShape result) (Thrown p) (N s.scopes false) (B l s.scopes) (is_shared size addr) w _
        (ask_leaves ill halt (HasShape result) (Thrown p) (N s.scopes false) (B l s.scopes) (Load size addr) w _ (λ r w'.
        let old = variable_fits x shape.Word (Word (number r)) s.scopes v f one.0 (word_variable known one.0 (not_false (is_word (or_word known)) two.0)) (sym spread_word) in
        (fits_assign x (Word (number r)) old.0 s.scopes v old.1 old.2 f, refl)))))
    act_sound (stmt.SharedStore size a e) kept v w f b names =
        alone_keeps ill halt (HasShape result) (Thrown p) (N s.scopes false) (B l s.scopes) _ (with_leaves ill halt (HasShape result) (Thrown p) (N s.scopes false) (B l s.scopes) (word a v w.memory) w _ (λ addr is. with_leaves ill halt (HasShape result) (Thrown p) (N s.scopes false) (B l s.scopes) (word e v w.memory) w _ (λ n is.
        where_leaves ill halt (HasShape result) (Thrown p) (N s.scopes false) (B l s.scopes) (is_shared size addr) w _ (ask_leaves ill halt (HasShape result) (Thrown p) (N s.scopes false) (B l s.scopes) (Store size addr (n % 2 ^ (8 * byte_count size))) w _ (λ r w'. (f, refl))))))
    act_sound (stmt.Foreign x a c g e) kept v w f b names =
        let M = N s.scopes false in
        let C = B l s.scopes in
        alone_keeps ill halt (HasShape result) (Thrown p) M C _ (with_leaves ill halt (HasShape result) (Thrown p) M C (foreign_index x p) w _ (λ i is. with_leaves ill halt (HasShape result) (Thrown p) M C (word a v w.memory) w _ (λ conf is. with_leaves ill halt (HasShape result) (Thrown p) M C (word c v w.memory) w _ (λ conf_len is.
        with_leaves ill halt (HasShape result) (Thrown p) M C (word g v w.memory) w _ (λ array is. with_leaves ill halt (HasShape result) (Thrown p) M C (word e v w.memory) w _ (λ array_len is.
        with_leaves ill halt (HasShape result) (Thrown p) M C (bytes_at w.memory conf conf_len) w _ (λ first is. with_leaves ill halt (HasShape result) (Thrown p) M C (bytes_at w.memory array array_len) w _ (λ second is.
        ask_leaves ill halt (HasShape result) (Thrown p) M C (Foreign i x first second) w _ (λ r w'. (f, refl))))))))))

  -- the guard of a layer holds, and what it then does takes the work of the statement
  acts : (place : ℕ) (l : Bool) (s : State) (y : StmtKind-F Does) (v : Scopes) (w : World) → breaks_nothing p result y v ≡ true → guarded_act ill halt p result d callee' y v w ≡ tried_act l place s y v w
  acts place l s (stmt.While e body) v w kept = refl
  acts place l s y v w kept = ap (λ c. unless_ill ill halt c w (unless_failed ill halt (alone p y v w) (act_layer p d callee' y v w))) kept

  layer_sound : (y : StmtKind-F Known) → let x = map-StmtKind Known StmtKind (λ c. c.0) y in
      SoundAs (do_layer (map-StmtKind StmtKind Doing do_kind x)) (closes_layer (map-StmtKind StmtKind Bool closes_kind x)) (guarded_layer ill halt p result d callee' (map-StmtKind StmtKind Does guard x)) (run_layer p d callee (map-StmtKind StmtKind Does run x))
  layer_sound y l place s v w f b names =
      let x = map-StmtKind Known StmtKind (λ c. c.0) y in
      let gs = map-StmtKind StmtKind Does guard x in
      let rs = map-StmtKind StmtKind Does run x in
      let kept = λ (v : Scopes) (f : Fits s.scopes v). nothing_broken l place s x v f b names in
      keeps_as ill halt (HasShape result) (Thrown p) _ (B l s.scopes) (guarded_layer ill halt p result d callee' gs v w) (tried_act l place s gs v (tolled (own_weight p x v) w)) (run_layer p d callee rs v w) (act_layer p d callee rs v (tolled (own_weight p x v) w))
      (acts place l s gs v (tolled (own_weight p gs v) w) (kept v f) ∙ ap (λ n. tried_act l place s gs v (tolled n w)) (own_weight_same guard p x v))
      (ap (λ n. act_layer p d callee rs v (tolled n w)) (own_weight_same run p x v))
      (act_sound l place s y kept v (tolled (own_weight p x v) w) f b names)

  pub kind_sound : (k : StmtKind) → IsSound k
  kind_sound = by_layers IsSound (λ y.
      let x = map-StmtKind Known StmtKind (λ c. c.0) y in
      let k = roll-StmtKind x in
      subst (λ (f : Doing). SoundAs f (closes_kind k) (guard k) (run k)) (sym (do_roll x))
      (subst (λ c. SoundAs (do_layer (map-StmtKind StmtKind Doing do_kind x)) c (guard k) (run k)) (sym (closes_roll x))
      (subst (λ (g : Does). SoundAs (do_layer (map-StmtKind StmtKind Doing do_kind x)) (closes_layer (map-StmtKind StmtKind Bool closes_kind x)) g (run k)) (sym (guard_roll x))
      (subst (λ (r : Does). SoundAs (do_layer (map-StmtKind StmtKind Doing do_kind x)) (closes_layer (map-StmtKind StmtKind Bool closes_kind x)) (guarded_layer ill halt p result d callee' (map-StmtKind StmtKind Does guard x)) r) (sym (run_roll p d callee x))
      (layer_sound y)))))

  pub all_sound : (ss : List (Spanned StmtKind)) → AllSound ss
  all_sound [] = tt
  all_sound (s ∷ ss) = (kind_sound s.kind, all_sound ss)
