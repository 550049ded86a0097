-- Calls with their targets and handlers, in words, do what the source's do.
use Rattle.std.proofs.Common.{◌≡◌, ℕ, zero, suc, ◌+◌, ◌*◌, ◌≤◌, ◌||◌, Bool, true, false, nat_eq, List, [], ◌∷◌, ◌++◌, map, length, replicate, Option, Some, None, slice_get, arith, refl, sym, ap, subst, ◌∙◌}
use Rattle.std.specs.Prelude.{if◌then◌else◌}
use Rattle.std.specs.Option.{option_map_or}
use Rattle.std.specs.Str.{bytes_eq}
use Rattle.std.proofs.lemmas.Bool.Decides.{nat_tests}
use Rattle.std.proofs.lemmas.List.{length-replicate}
use Rattle.pan_base.specs.declared.text.Text.{Text}
use Rattle.pan_control.specs.World.{tolled, back_in}
use Rattle.pan_control.specs.Control.{Normal, Raised, in_turn, with_value, call}
use Rattle.pan_stage.specs.Locals.{Locals, write_all, numbers_from, read_from}
use Rattle.pan_stage.specs.Toll.{stepped}
use Rattle.pan_stage.specs.Programs as programs
use Rattle.pan_stage.specs.Programs.{handled}
use Rattle.pan_stage.specs.declared.program.Handler.{Handler}
use Rattle.pan_stage.specs.Data.{Callee as WordCallee, Outcome as WordOutcome, World as WordWorld}
use Rattle.pan_stage.proofs.Follows.{Ends, Same, normal, raised, same_as, with_same, call_same}
use Rattle.pan_stage.proofs.Paid.{Within, Paid, paid}
use Rattle.pan_tree.specs.Running.{Callee, Outcome, World}
use Rattle.pan_tree.specs.Scopes.{innermost, declare}
use Rattle.pan_tree.specs.Scopes as scopes
use Rattle.pan_tree.specs.Value.{Value, values_of, words_in, words_in_all}
use Rattle.pan_tree.specs.Shapes.{words_of, shape_in, zero_of}
use Rattle.pan_tree.specs.Check as check
use Rattle.pan_tree.specs.Check.{State, doing, in_order, do_layer, breaks_of, no_value, is_other, wrong_count, wrong_shape, function_of, exception_of, result_of, foreign_names, is_new_twice, is_old_unknown, is_old_other, handler_unknown}
use Rattle.pan_tree.specs.Meaning as source
use Rattle.pan_tree.specs.Meaning.{Does, Scope, Scopes, shapes, own_weight, run_layer, function_index, exception_index, into, into_nothing, caught, scoped}
use Rattle.pan_tree.specs.declared.rule.Rule.TheVariants.{TwoNames, UnknownName, UnknownFunction, UnknownException, WrongShape, WrongCount}
use Rattle.pan_tree.specs.declared.shape.Shape.{Shape}
use Rattle.pan_tree.specs.declared.shape.Shape.TheVariants as shape
use Rattle.pan_tree.specs.declared.spanned.Spanned.{Spanned}
use Rattle.pan_tree.specs.declared.syntax.CallOf.{CallOf}
use Rattle.pan_tree.specs.declared.syntax.HandlerOf.{HandlerOf}
use Rattle.pan_tree.specs.declared.syntax.ExprKind.{ExprKind}
use Rattle.pan_tree.specs.declared.syntax.Target.{Target}
use Rattle.pan_tree.specs.declared.syntax.Target.TheVariants as target
use Rattle.pan_tree.specs.declared.syntax.StmtKind.TheOpen as source_stmt
use Rattle.pan_tree.specs.declared.program.Exception.{Exception}
use Rattle.pan_tree.specs.declared.program.Function.{Function}
use Rattle.pan_tree.specs.declared.program.Program.{Program as Source}
use Rattle.check_soundness.specs.Spread.{spread}
use Rattle.check_soundness.proofs.SpreadShapes.{filled_shape}
use Rattle.check_soundness.proofs.Alike.{spread_size}
use Rattle.check_soundness.proofs.Rules.{unbroken, append_none, neither}
use Rattle.check_soundness.proofs.Fitting.{Fits, variable_fits}
use Rattle.check_soundness.proofs.Named.{position_is, At, found_at}
use Rattle.check_soundness.proofs.SoundStmts.{HasShape}
use Rattle.crep_lang.specs.Meaning.{run}
use Rattle.crep_lang.specs.Steps.{passed}
use Rattle.crep_lang.specs.declared.syntax.Expr.TheVariants as e
use Rattle.crep_lang.specs.declared.syntax.Stmt.{Stmt}
use Rattle.crep_lang.specs.declared.syntax.Stmt.TheVariants as stmt
use Rattle.crep_lang.proofs.Handlers.{with_body}
use Rattle.crep_lang.proofs.Runs.{run_call}
use Rattle.crep_flatten.specs.Rows.{settle}
use Rattle.crep_flatten.specs.Flat.{Place, Places, count}
use Rattle.crep_flatten.specs.Flattened.{rows_of, numbered, place_at, new_place, results, after_target, cleared, exception_shape, assign_row, flat_all, Flattening, flattening, block, flat_layer}
use Rattle.crep_flatten.proofs.Values.{words_shape}
use Rattle.crep_flatten.proofs.Holding.{size, placed, Holds, Agree, holds_agree, write_from, below_written, behind_written, written_read}
use Rattle.crep_flatten.proofs.WordLemmas.{runs_on, words_more}
use Rattle.crep_flatten.proofs.FlatExprs.{all_code, after}
use Rattle.crep_flatten.proofs.Costs.{Static}
use Rattle.crep_flatten.proofs.Assigning.{puts}
use Rattle.crep_flatten.proofs.RowRuns.{row_runs}
use Rattle.crep_flatten.proofs.Straight.{alike, declares, declared_placed, write_row}
use Rattle.crep_flatten.proofs.Places.{static_fits, static_target, static_more, declared_count, zero_words}
use Rattle.crep_flatten.proofs.Worth.{cleared_worth}
use Rattle.crep_flatten.proofs.Statements.{Inside, inside_as, Behind, Around, IsReturned, IsRaised, seq_to, last_runs}
use Rattle.crep_flatten.proofs.Calls.{flats, arguments_give, arguments_worth, arguments_fit, known_is, Callees}
use Rattle.crep_flatten.proofs.Blocks.{context, does, Ends', does', Known, plain, block_means, around_same}
use Rattle.crep_flatten.proofs.Beside.{with_toll, word_num, words}

-- ---- targets

-- the variables have these places and are held
abbrev Landed : Places → Places → Scopes → Locals → Type 0
Landed outer behind v u = Inside outer v × (placed v ≡ behind) × Holds v u

pub count_numbers : (x k : ℕ) → length (numbers_from x k) ≡ k
count_numbers x zero = refl
count_numbers x (suc k) = ap suc (count_numbers (suc x) k)

-- the words of a result go to the target
landed : (t : Target) (g : Function) (outer : Places) (s : check.Scopes) (v : Scopes) (u : Locals) (a : Value) (ns : List ℕ) → Inside outer v → Holds v u → Fits s v → is_old_unknown t s ≡ false → is_old_other t (Some g) s ≡ false → ns ≡ words_in a → HasShape g.result a
    → Landed outer (after_target t (spread g.result) (placed v)) (into t a v) (write_all (results t (spread g.result) (placed v)) ns u)
landed target.Nothing g outer s v u a ns i holds fits known other is shaped = (i, refl, holds)
landed (target.Old x) g outer s v u a ns i holds fits known other is shaped =
    let b = variable_fits x g.result a s v fits known other shaped in
    let put = puts x a b.0 v b.1 b.2 in
    let q = place_at (innermost x (placed v)) in
    let at : q ≡ put.place = ap place_at put.is in
    let long : length ns ≡ words_of (spread g.result) = ap length is ∙ sym (words_shape a) ∙ ap words_of shaped in (
      inside_as outer v (scopes.assign x a v) i put.places,
      put.places,
      subst (Holds (scopes.assign x a v)) (sym (write_row q.first (words_of (spread g.result)) ns u long ∙ ap (λ ns. write_from q.first ns u) is))
          (subst (λ (q : Place). Holds (scopes.assign x a v) (write_from q.first (words_in a) u)) (sym at) (put.holds u holds)),
    )
landed (target.New x) g outer s [] u a ns i holds fits known other is shaped = absurd i
landed (target.New x) g outer s (scope ∷ scopes) u a ns i holds fits known other is shaped =
    let v : Scopes = scope ∷ scopes in
    let long : length ns ≡ words_of (spread g.result) = ap length is ∙ sym (words_shape a) ∙ ap words_of shaped in (
      i,
      declared_placed x a scope scopes ∙ ap (λ s. declare x (new_place s (placed v)) (placed v)) shaped,
      subst (Holds (declare x a v)) (sym (write_row (count (placed v)) (words_of (spread g.result)) ns u long ∙ ap (λ ns. write_from (count (placed v)) ns u) is)) (declares x a scope scopes u holds),
    )

results_few : (t : Target) (s : Shape) (here : Places) → length (results t s here) ≤ words_of s
results_few target.Nothing s here = omega arith
results_few (target.Old x) s here = let c = count_numbers (place_at (innermost x here)).first (words_of s) in omega (arith, c)
results_few (target.New x) s here = let c = count_numbers (count here) (words_of s) in omega (arith, c)

-- ---- in a handler

zeros : (n : ℕ) (u : Locals) (m : List ℕ) → words (replicate n (e.Num 0)) u m ≡ Some (replicate n 0)
zeros zero u m = refl
zeros (suc n) u m = words_more u m (e.Num 0) (replicate n (e.Num 0)) 0 (replicate n 0) (word_num 0 u m) (zeros n u m)

module _ (p : Source) (d : ℕ) (callee' : WordCallee (List ℕ) (List ℕ)) where
  -- behind the words of a handler's value a new variable gets words 0
  record Cleared (t : Target) (r : Shape) (outer : Places) (v : Scopes) (name : List ℕ) (x : Value) (u : Locals) (did : ℕ) (w : World) : Type 0 where
    pub behind : Locals
    pub toll : ℕ
    pub worth : toll ≤ did + 16 * (2 * words_of r)
    pub inside : Inside outer (into_nothing t r v)
    pub places : placed (into_nothing t r v) ≡ after_target t (spread r) (placed v)
    pub holds : Holds (((name, x) ∷ []) ∷ into_nothing t r v) behind
    pub is : in_turn (map (run (foreign_names p) d callee') (cleared t (spread r) (placed v))) (write_from (count (after_target t (spread r) (placed v))) (words_in x) u) (with_toll did w) ≡ Normal behind (with_toll toll w)

  held : (name : List ℕ) (x : Value) (v : Scopes) (u : Locals) → Holds v u → Holds (((name, x) ∷ []) ∷ v) (write_from (count (placed v)) (words_in x) u)
  held name x v u h =
      let n = count (placed v) in
      let u' = write_from n (words_in x) u in
      ((ap (λ k. read_from n k u') (words_shape x) ∙ written_read n (words_in x) u, tt), holds_agree v u u' (record { at = λ y p l. below_written n (words_in x) u y l }) h)

  clears : (t : Target) (r : Shape) (outer : Places) (v : Scopes) (name : List ℕ) (x : Value) (u : Locals) (did : ℕ) (w : World) → Inside outer v → Holds v u → Cleared t r outer v name x u did w
  clears target.Nothing r outer v name x u did w i h =
      record { behind = write_from (count (placed v)) (words_in x) u; toll = did; worth = omega arith; inside = i; places = refl; holds = held name x v u h; is = refl }
  clears (target.Old y) r outer v name x u did w i h =
      record { behind = write_from (count (placed v)) (words_in x) u; toll = did; worth = omega arith; inside = i; places = refl; holds = held name x v u h; is = refl }
  clears (target.New y) r outer [] name x u did w i h = absurd i
  clears (target.New y) r outer (scope ∷ scopes) name x u did w i h =
      let v : Scopes = scope ∷ scopes in
      let z = zero_of r in
      let v' = declare y z v in
      let n = words_of (spread r) in
      let size_r = spread_size r in
      let first = count (placed v) in
      let shaped = filled_shape r [] in
      let at = declared_placed y z scope scopes ∙ ap (λ s. declare y (new_place s (placed v)) (placed v)) shaped in
      let many : count (placed v') ≡ first + n = declared_count y z scope scopes ∙ ap (λ s. first + words_of s) shaped in
      let behind_new = count (declare y (new_place (spread r) (placed v)) (placed v)) in
      let same : behind_new ≡ first + n = ap count (sym at) ∙ many in
      let u1 = write_from behind_new (words_in x) u in
      let zs : List ℕ = replicate n 0 in
      let u2 = write_from first zs u1 in
      let long = length-replicate {A = ℕ} n 0 in
      let words_z : words_in z ≡ zs = zero_words r ∙ ap (λ k. replicate k 0) (sym size_r) in
      let ss = assign_row first (replicate n (e.Num 0)) in
      let worth = cleared_worth first n in
      -- below the handler's value the variables are as if only the zeros had been written
      let now : Holds v' u2 = holds_agree v' (write_from first (words_in z) u) u2
      (record { at = λ k q l. alike first zs u u1 k (below_written behind_new (words_in x) u k (omega (arith, l, many, same))) ∙ ap (λ ns. write_from first ns u k) (sym words_z) }) (declares y z scope scopes u h) in
      record {
        behind = u2;
        toll = after did (all_code ss);
        worth = omega (arith, worth, size_r);
        inside = i;
        places = at;
        holds = (
          (
            read_same (count (placed v')) (size x) u1 u2 (record { at = λ k q l. behind_written first zs u1 k (omega (arith, q, many, long)) })
                ∙ ap (λ b. read_from (count (placed v')) (size x) (write_from b (words_in x) u)) (same ∙ sym many) ∙ ap (λ k. read_from (count (placed v')) k (write_from (count (placed v')) (words_in x) u)) (words_shape x) ∙ written_read (count (placed v')) (words_in x) u,
            tt,
          ),
          now,
        );
        is = row_runs (foreign_names p) d callee' w.memory (replicate n (e.Num 0)) zs first u1 did w refl (λ u' o. zeros n u' w.memory);
      }
    where
      read_same : (x k : ℕ) (u u' : Locals) → Agree x (x + k) u u' → read_from x k u' ≡ read_from x k u
      read_same x zero u u' a = refl
      read_same x (suc k) u u' a = ap (λ n. n ∷ read_from (suc x) k u') (a.at x (omega arith) (omega arith)) ∙ ap (λ ns. u x ∷ ns) (read_same (suc x) k u u' (record { at = λ y p q. a.at y (omega arith) (omega arith) }))

-- ---- calls

same_number : (i j : ℕ) → nat_eq i j ≡ true → i ≡ j
same_number i j h = grind (arith, nat_tests)

module _ (p : Source) (result : Shape) (d : ℕ) (callee : Callee (List Value) Value) (callee' : WordCallee (List ℕ) (List ℕ)) (callees : Callees p callee callee') where
  module _ (kept : ℕ) (outer : Places) (v : Scopes) (u : Locals) (t : ℕ) (w : World) (i : Inside outer v) (holds : Holds v u) (within : Within 1024 kept t w)
      (target_is : Target) (name : List ℕ) (es : List (Spanned ExprKind)) (extra : ℕ) where
    abbrev here : Places
    here = placed v

    abbrev r : Shape
    r = result_of (function_of name p)

    abbrev behind : Places
    behind = after_target target_is (spread r) here

    abbrev E : Ends (Unit {0}) (List ℕ) Scopes Locals Value (List ℕ)
    E = Ends' p result d callee callee' kept (Behind outer behind) (Around outer)

    -- what is kept back over the callee
    abbrev more : ℕ
    more = 16 * (3 * words_of r + extra + 2)

    -- A call whose exceptions are dealt with.
    call_core : (hd : Option (Handler Stmt)) (threw : ℕ → Value → World → Outcome Scopes Value) (own : ℕ) (s : check.Scopes) (c : check.Context)
        → c.program ≡ p → Static here s → 4 + check.weights (map (λ x. check.judged x (shapes v)) es) + words_of r + extra ≤ own
        → no_value (function_of name c.program) ≡ false → wrong_count (function_of name c.program) (map (λ x. check.judged x s) es) ≡ false → wrong_shape (function_of name c.program) (map (λ x. check.judged x s) es) ≡ false
        → is_old_unknown target_is s ≡ false → is_old_other target_is (function_of name c.program) s ≡ false → handled (with_body (does' p result d callee callee') hd) ≤ 1
        → ((j : ℕ) (x : Value) (w' : World) (ns : List ℕ) (t' : ℕ) (u' : Locals) → IsRaised p j x w' ns → Within 1024 (more + kept) t' w' → Holds v u' → Same E (threw j x w') (programs.caught (with_body (does' p result d callee callee') hd) u' j ns (with_toll t' w')))
        → Same E (with_value (function_index name p) (tolled own w) (λ f. call callee f (source.values es v w.memory) (tolled own w) (λ a w. Normal (into target_is a v) w) threw))
        (let q = settle (rows_of (flats es here)) (count here) in does' p result d callee callee' (stmt.Seq (q.before ++ stmt.Call (results target_is (spread r) here) (numbered (function_index name p)) q.words hd ∷ [])) u (with_toll t w))
    call_core hd threw own s c cp st heavy one three both known other few caught_so =
        let W = tolled own w in
        let rs = rows_of (flats es here) in
        let q = settle rs (count here) in
        let js = map (λ y. check.judged y s) es in
        let o = function_of name c.program in
        let there = known_is o one in
        let g = there.0 in
        let at : function_of name p ≡ Some g = ap (function_of name) (sym cp) ∙ there.1 in
        let r_is : r ≡ g.result = ap result_of at in
        let fits = static_fits v s st in
        with_same E (function_index name p) W _ _ (λ f fi.
        with_same E (source.values es v w.memory) W _ _ (λ xs is.
        let gs = arguments_give es v w.memory u xs holds is in
        let n = numbered (function_index name p) in
        let last = stmt.Call (results target_is (spread r) here) n q.words hd in
        let ns = words_in_all (values_of xs) in
        let l = last_runs p result d callee callee' kept rs (count here) ns last v u t W gs.words holds (omega arith) in
        let t' = after t (all_code q.before) in
        let t'' = after t' (passed q.words) in
        let worth = arguments_worth v es (count here) in
        let paid : Within 1024 (more + kept) t'' W = omega (arith, within, worth, heavy) in
        let stands : slice_get p.functions f ≡ Some g = position_is (λ (y : Function). bytes_eq y.name name) p.functions f fi ∙ at in
        let fit = arguments_fit g o es s v w.memory xs there.1 three both fits is in
        let hb = with_body (does' p result d callee callee') hd in
        let gave' : List ℕ → WordWorld → WordOutcome Locals (List ℕ) = λ ns w. Normal (write_all (results target_is (spread r) here) ns l.behind) (stepped (length (results target_is (spread r) here) + handled hb) w) in
        let threw' : ℕ → List ℕ → WordWorld → WordOutcome Locals (List ℕ) = programs.caught hb l.behind in
        same_as E _ _ _ (l.is ∙ run_call (foreign_names p) d callee' (results target_is (spread r) here) n q.words hd l.behind (with_toll t' W)
        ∙ ap (λ o. call callee' n o (with_toll t'' W) gave' threw') l.words ∙ ap (λ o. call callee' (numbered o) (Some ns) (with_toll t'' W) gave' threw') fi)
        (call_same E (Paid 1024 (more + kept) (IsReturned g.result)) (λ j. Paid 1024 (more + kept) (IsRaised p j)) callee callee' f xs ns W t'' (λ a w. Normal (into target_is a v) w) threw gave' threw' (omega (arith, paid))
        (λ k. callees.at (more + kept) f g xs (record W { fuel = k }) ns t'' stands fit refl paid)
        (λ x w' y t1 h.
        let few_results = results_few target_is (spread r) here in
        let size_r = spread_size r in
        let steps = length (results target_is (spread r) here) + handled hb in
        let w2 = back_in W w' in
        let spent = h.1 in
        let lands = landed target_is g outer s v l.behind x y i l.holds fits known (ap (λ o. is_old_other target_is o s) (sym there.1) ∙ other) (h.0).0 (h.0).1 in
        normal E (into target_is x v) w2 (write_all (results target_is (spread r) here) y l.behind) (after t1 steps)
        (subst (λ z. Landed outer (after_target target_is (spread z) here) (into target_is x v) (write_all (results target_is (spread z) here) y l.behind)) (sym r_is) lands, omega (arith, spent, few_results, size_r, few)))
        (λ j x w' y t1 h. caught_so j x (back_in W w') y t1 l.behind h.0 h.1 l.holds)
        (record { gave_grows = λ w after c. absurd c; threw_grows = λ w after c. absurd c }))))

    -- ---- handlers

    module _ (h : HandlerOf (Spanned (Known p result d callee callee'))) (l : Bool) (s : State) where
      abbrev stmts : List (Spanned (Known p result d callee callee'))
      stmts = (h.body).stmts

      abbrev source_handler : HandlerOf (Spanned Does)
      source_handler = record { exception = h.exception; name = h.name; body = record { stmts = map (does p result d callee callee') (map (plain p result d callee callee') stmts) } }

      abbrev value : Shape
      value = option_map_or (λ (x : Exception). x.shape) (exception_of h.exception p) shape.Word

      abbrev shape_is : Shape
      shape_is = exception_shape (exception_of h.exception p)

      abbrev word_handler : Handler Stmt
      word_handler = record {
        exception = numbered (exception_index h.exception p);
        variables = numbers_from (count behind) (words_of shape_is);
        body = block ((h.name, new_place shape_is behind) ∷ []) (cleared target_is (spread r) here) (record { stmts = map flattening (map (plain p result d callee callee') stmts) }) p behind;
      }

      catches : (j : ℕ) (x : Value) (w' : World) (ns : List ℕ) (t' : ℕ) (u' : Locals) → extra ≡ 4 + words_of value + 0 → Static here s.scopes
          → (known : Exception) → exception_of h.exception p ≡ Some known
          → (in_order (map doing (map (plain p result d callee callee') stmts)) (context p result d callee callee' l) (record s { scopes = ((h.name, value) ∷ []) ∷ check.after_target target_is r s.scopes })).breaks ≡ []
          → IsRaised p j x w' ns → Within 1024 (more + kept) t' w' → Holds v u'
          → Same E (caught p (Some source_handler) (into_nothing target_is r v) j x w') (programs.caught (with_body (does' p result d callee callee') (Some word_handler)) u' j ns (with_toll t' w'))
      catches j x w' ns t' u' extra_is st known k_is none raised_so paid h' =
          subst (λ o. Same E (if option_map_or (nat_eq j) o false then first else Raised j x w') (if nat_eq j (numbered o) then second else Raised j ns (stepped 1 (with_toll t' w')))) (sym found.is) (by (nat_eq j found.number) refl)
        where
          found : At (λ (y : Exception). bytes_eq y.name h.exception) p.exceptions known
          found = found_at (λ (y : Exception). bytes_eq y.name h.exception) p.exceptions known k_is

          first : Outcome Scopes Value
          first = scoped ((h.name, x) ∷ []) source_handler.body (into_nothing target_is r v) w'

          second : WordOutcome Locals (List ℕ)
          second = does' p result d callee callee' word_handler.body (write_all word_handler.variables ns u') (stepped (1 + length word_handler.variables) (with_toll t' w'))

          caught_so : j ≡ found.number → Same E first second
          caught_so e =
              let thrown = raised_so.1 in
              let known_same : Some thrown.0 ≡ Some known = sym thrown.1 ∙ ap (slice_get p.exceptions) e ∙ found.stands in
              let known_as : thrown.0 ≡ known = cc in
              let value_is : value ≡ known.shape = ap (λ o. option_map_or (λ (x : Exception). x.shape) o shape.Word) k_is in
              let spread_is : shape_is ≡ spread known.shape = ap exception_shape k_is in
              let shaped : shape_in x ≡ shape_is = thrown.2 ∙ ap (λ (y : Exception). spread y.shape) known_as ∙ sym spread_is in
              let n = words_of shape_is in
              let long : length ns ≡ n = ap length raised_so.0 ∙ sym (words_shape x) ∙ ap words_of shaped in
              let v' = into_nothing target_is r v in
              let t2 = after t' (1 + length word_handler.variables) in
              let c = clears p d callee' target_is r outer v h.name x u' t2 w' i h' in
              let written = write_row (count behind) n ns u' long ∙ ap (λ ns. write_from (count behind) ns u') raised_so.0 in
              let inner : Places = ((h.name, new_place shape_is behind) ∷ []) ∷ behind in
              let at : placed (((h.name, x) ∷ []) ∷ v') ≡ inner = ap (λ ps. ((h.name, record { first = count ps; shape = shape_in x }) ∷ []) ∷ ps) c.places ∙ ap (λ z. ((h.name, record { first = count behind; shape = z }) ∷ []) ∷ behind) shaped in
              let ss = (flat_all (map flattening (map (plain p result d callee callee') stmts)) p inner).0 in
              let s' : State = record s { scopes = check.after_target target_is r s.scopes } in
              let st' = static_more h.name (new_place shape_is behind) value behind s'.scopes (spread_is ∙ ap spread (sym value_is)) (static_target target_is r here s.scopes st) in
              let few = count_numbers (count behind) n in
              let size_v : n ≡ words_of value = ap words_of spread_is ∙ spread_size known.shape ∙ ap words_of (sym value_is) in
              let worth = c.worth in
              let block_same = block_means p result d callee callee' stmts kept l s' ((h.name, value) ∷ []) ((h.name, x) ∷ []) outer v' c.behind c.toll w' (subst (λ ps. Static ps (((h.name, value) ∷ []) ∷ s'.scopes)) (sym at) st') c.inside c.holds none (omega (arith, paid, extra_is, few, size_v, worth)) in
              let around = around_same p result d callee callee' kept outer v' _ _ block_same in
              same_as E _ _ _
              (ap (λ z. does' p result d callee callee' word_handler.body z (with_toll t2 w')) written ∙ seq_to p result d callee callee' kept (cleared target_is (spread r) here ++ ss) (write_from (count behind) (words_in x) u') t2 w'
              ∙ runs_on (foreign_names p) d callee' (cleared target_is (spread r) here) ss (write_from (count behind) (words_in x) u') c.behind (with_toll t2 w') (with_toll c.toll w') c.is)
              (subst (λ ps. Same (Ends' p result d callee callee' kept (Behind outer ps) (Around outer)) first (in_turn (map (does' p result d callee callee') ss) c.behind (with_toll c.toll w'))) c.places
              (subst (λ ps. Same (Ends' p result d callee callee' kept (Behind outer (placed v')) (Around outer)) first (in_turn (map (does' p result d callee callee') (flat_all (map flattening (map (plain p result d callee callee') stmts)) p ps).0) c.behind (with_toll c.toll w'))) at around))

          by : (b : Bool) → nat_eq j found.number ≡ b → Same E (if b then first else Raised j x w') (if b then second else Raised j ns (stepped 1 (with_toll t' w')))
          by true e = caught_so (same_number j found.number e)
          by false e = raised E j x w' ns (after t' 1) (raised_so, omega (arith, paid))

  -- ---- the statement

  module _ (kept : ℕ) (l : Bool) (place : ℕ) (s : State) (outer : Places) (v : Scopes) (u : Locals) (t : ℕ) (w : World) (st : Static (placed v) s.scopes) (i : Inside outer v) (holds : Holds v u) (within : Within 1024 kept t w) where
    abbrev DoesCall : CallOf (Spanned Does) → CallOf (Spanned Flattening) → Type 0
    DoesCall k k' = Same (Ends' p result d callee callee' kept (Behind outer (flat_layer (source_stmt.Call k') p (placed v)).1) (Around outer)) (run_layer p d callee (source_stmt.Call k) v w) (does' p result d callee callee' (flat_layer (source_stmt.Call k') p (placed v)).0 u (with_toll t w))

    pub call_means : (target_is : Target) (name : Text) (es : List (Spanned ExprKind)) → (do_layer (source_stmt.Call (record { into = target_is; function = name; args = es; handler = None })) (context p result d callee callee' l) place s).breaks ≡ []
        → DoesCall (record { into = target_is; function = name; args = es; handler = None }) (record { into = target_is; function = name; args = es; handler = None })
    call_means target_is name es none =
        let js = map (λ y. check.judged y s.scopes) es in
        let o = function_of name p in
        let plain_breaks = (append_none _ [] none).0 in
        let parts = append_none (breaks_of js) _ plain_breaks in
        let a = unbroken place TwoNames (is_new_twice target_is s.scopes) _ parts.1 in
        let b = unbroken place UnknownName (is_old_unknown target_is s.scopes) _ a.1 in
        let c = unbroken place UnknownFunction (no_value o) ((UnknownException, false) ∷ (WrongShape, wrong_shape o js || is_old_other target_is o s.scopes) ∷ (WrongCount, wrong_count o js) ∷ []) b.1 in
        let f = unbroken place WrongShape (wrong_shape o js || is_old_other target_is o s.scopes) ((WrongCount, wrong_count o js) ∷ []) c.1 in
        let g = unbroken place WrongCount (wrong_count o js) [] f.1 in
        let both = neither (wrong_shape o js) (is_old_other target_is o s.scopes) f.0 in
        let r' = result_of (function_of name p) in
        let own = own_weight {A = Does} p (source_stmt.Call (record { into = target_is; function = name; args = es; handler = None })) v in
        call_core kept outer v u t w i holds within target_is name es 0 None (caught p None (into_nothing target_is r' v)) own s.scopes (context p result d callee callee' l) refl st (omega arith)
        c.0 g.0 both.0 b.0 both.1 (omega arith)
        (λ j x w' ns t' u' thrown paid h'. raised (Ends' p result d callee callee' kept (Behind outer (after_target target_is (spread r') (placed v))) (Around outer)) j x w' ns t' (thrown, omega (arith, paid)))

    pub catch_means : (target_is : Target) (name : Text) (es : List (Spanned ExprKind)) (h : HandlerOf (Spanned (Known p result d callee callee')))
        → let stmts = (h.body).stmts in
        (do_layer (source_stmt.Call (record { into = target_is; function = name; args = es; handler = Some (record { exception = h.exception; name = h.name; body = record { stmts = map doing (map (plain p result d callee callee') stmts) } }) })) (context p result d callee callee' l) place s).breaks ≡ []
        → DoesCall (record { into = target_is; function = name; args = es; handler = Some (record { exception = h.exception; name = h.name; body = record { stmts = map (does p result d callee callee') (map (plain p result d callee callee') stmts) } }) })
        (record { into = target_is; function = name; args = es; handler = Some (record { exception = h.exception; name = h.name; body = record { stmts = map flattening (map (plain p result d callee callee') stmts) } }) })
    catch_means target_is name es h none =
        let js = map (λ y. check.judged y s.scopes) es in
        let o = function_of name p in
        let known = exception_of h.exception p in
        let value_is = option_map_or (λ (x : Exception). x.shape) known shape.Word in
        let r' = result_of (function_of name p) in
        let inner = in_order (map doing (map (plain p result d callee callee') (h.body).stmts)) (context p result d callee callee' l) (record s { scopes = ((h.name, value_is) ∷ []) ∷ check.after_target target_is r' s.scopes }) in
        let split = append_none _ inner.breaks none in
        let parts = append_none (breaks_of js) _ split.0 in
        let a = unbroken place TwoNames (is_new_twice target_is s.scopes) _ parts.1 in
        let b = unbroken place UnknownName (is_old_unknown target_is s.scopes) _ a.1 in
        let c = unbroken place UnknownFunction (no_value o) _ b.1 in
        let e = unbroken place UnknownException (no_value known) _ c.1 in
        let f = unbroken place WrongShape (wrong_shape o js || is_old_other target_is o s.scopes) _ e.1 in
        let g = unbroken place WrongCount (wrong_count o js) [] f.1 in
        let both = neither (wrong_shape o js) (is_old_other target_is o s.scopes) f.0 in
        let there = known_is known e.0 in
        let extra = 4 + words_of value_is + 0 in
        let sh : HandlerOf (Spanned Does) = record { exception = h.exception; name = h.name; body = record { stmts = map (does p result d callee callee') (map (plain p result d callee callee') (h.body).stmts) } } in
        let own = own_weight {A = Does} p (source_stmt.Call (record { into = target_is; function = name; args = es; handler = Some sh })) v in
        call_core kept outer v u t w i holds within target_is name es extra (Some (word_handler kept outer v u t w i holds within target_is name es extra h l s)) (caught p (Some sh) (into_nothing target_is r' v)) own s.scopes (context p result d callee callee' l) refl st (omega arith)
        c.0 g.0 both.0 b.0 both.1 (omega arith)
        (λ j x w' ns t' u' thrown paid h'. catches kept outer v u t w i holds within target_is name es extra h l s j x w' ns t' u' refl st there.0 there.1 split.1 thrown paid h')
