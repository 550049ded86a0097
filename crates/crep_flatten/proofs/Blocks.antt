-- Blocks and loops in words do what the source's do.
use Rattle.std.proofs.Common.{◌≡◌, ℕ, ◌+◌, ◌*◌, ◌≤◌, Bool, true, List, [], ◌∷◌, map, drop, Some, arith, refl, sym, subst}
use Rattle.pan_control.specs.World.{tolled}
use Rattle.pan_control.specs.Control.{Normal, Broken, Continued, Returned, Raised, Over, in_turn, if_not_zero}
use Rattle.pan_control.specs.Runs.{tested_again}
use Rattle.pan_stage.specs.Locals.{Locals}
use Rattle.pan_stage.specs.Data.{Callee as WordCallee, Outcome as WordOutcome, World as WordWorld}
use Rattle.pan_stage.proofs.Follows.{Ends, Same, matched, cut, Follows, inside, normal, same_as, then_same, choice_same, on_same, turns_same}
use Rattle.pan_stage.proofs.Paid.{Within, Paid, no_cuts, relates_less}
use Rattle.pan_tree.specs.Running.{Callee, Outcome, World}
use Rattle.pan_tree.specs.Value.{Value, Word}
use Rattle.pan_tree.specs.Check as check
use Rattle.pan_tree.specs.Check.{State, doing, do_kind, do_layer, in_order, breaks_of, foreign_names}
use Rattle.pan_tree.specs.Meaning as source
use Rattle.pan_tree.specs.Meaning.{Does, Scope, Scopes, shapes, scoped, own_weight, expr_weight, run_kind, run_layer}
use Rattle.pan_tree.specs.declared.shape.Shape.{Shape}
use Rattle.pan_tree.specs.declared.spanned.Spanned.{Spanned}
use Rattle.pan_tree.specs.declared.syntax.BlockOf.{BlockOf}
use Rattle.pan_tree.specs.declared.syntax.ExprKind.{ExprKind}
use Rattle.pan_tree.specs.declared.syntax.StmtKind.{StmtKind}
use Rattle.pan_tree.specs.declared.syntax.StmtKind.TheOpen as source_stmt
use Rattle.pan_tree.specs.declared.program.Program.{Program as Source}
use Rattle.check_soundness.proofs.Rules.{append_none}
use Rattle.crep_lang.specs.Meaning.{run}
use Rattle.crep_lang.specs.Steps.{expr_steps, test_steps}
use Rattle.crep_lang.specs.declared.syntax.Expr.{Expr}
use Rattle.crep_lang.specs.declared.syntax.Stmt.{Stmt}
use Rattle.crep_lang.specs.declared.syntax.Stmt.TheVariants as stmt
use Rattle.crep_lang.proofs.Runs.{run_if, run_while}
use Rattle.crep_flatten.specs.Flat.{Places, flat, word_in}
use Rattle.crep_flatten.specs.Flattened.{flat_all, flat_stmt, flattening, block}
use Rattle.crep_flatten.proofs.Holding.{placed, Holds}
use Rattle.crep_flatten.proofs.FlatExprs.{after, gives_word, as_word_some, kind_means}
use Rattle.crep_flatten.proofs.Costs.{Static, weights_more}
use Rattle.crep_flatten.proofs.Places.{static_behind, static_block}
use Rattle.crep_flatten.proofs.Statements.{Inside, inside_as, Behind, Around, IsReturned, IsRaised, cheap_here, word_worth, word_same, ends, seq_to}
use Rattle.crep_flatten.proofs.Beside.{no_globals, with_toll, word}

module _ (p : Source) (result : Shape) (d : ℕ) (callee : Callee (List Value) Value) (callee' : WordCallee (List ℕ) (List ℕ)) where
  abbrev pub context : Bool → check.Context
  context l = record { program = p; result = result; in_loop = l }

  abbrev pub does : Spanned StmtKind → Spanned Does
  does x = record { kind = run_kind p d callee x.kind; span = x.span }

  abbrev pub Ends' : ℕ → (Scopes → World → Locals → Type 0) → (Scopes → World → Locals → Type 0) → Ends (Unit {0}) (List ℕ) Scopes Locals Value (List ℕ)
  Ends' kept N B = ends p result d callee callee' kept N B

  abbrev pub does' : Stmt → Locals → WordWorld → WordOutcome Locals (List ℕ)
  does' = run (foreign_names p) d callee'

  -- A statement that breaks no rule, in words, does what the source's does, from wherever the variables have their places.
  abbrev pub Means : StmtKind → Type 0
  Means k = (kept : ℕ) (l : Bool) (place : ℕ) (s : State) (outer here : Places) → Static here s.scopes → (do_kind k (context l) place s).breaks ≡ []
      → Follows (Ends' kept (Behind outer (flat_stmt k p here).1) (Around outer)) (Paid 1024 kept (Behind outer here)) (run_kind p d callee k) (does' (flat_stmt k p here).0)

  abbrev pub Known : Type 0
  Known = (k : StmtKind) × Means k

  abbrev pub plain : Spanned Known → Spanned StmtKind
  plain x = record { kind = x.kind.0; span = x.span }

  -- one after another
  pub order_means : (ss : List (Spanned Known)) (kept : ℕ) (l : Bool) (s : State) (outer here : Places) → Static here s.scopes → (in_order (map doing (map plain ss)) (context l) s).breaks ≡ []
      → Follows (Ends' kept (Behind outer (flat_all (map flattening (map plain ss)) p here).1) (Around outer)) (Paid 1024 kept (Behind outer here)) (in_turn (map (λ (x : Spanned Does). x.kind) (map does (map plain ss)))) (in_turn (map does' (flat_all (map flattening (map plain ss)) p here).0))
  order_means [] kept l s outer here st none v w u t q = normal (Ends' kept (Behind outer here) (Around outer)) v w u t q
  order_means (x ∷ xs) kept l s outer here st none v w u t q =
      let one = do_kind x.kind.0 (context l) x.span.start s in
      let both = append_none one.breaks (in_order (map doing (map plain xs)) (context l) one.state).breaks none in
      let next = (flat_stmt x.kind.0 p here).1 in
      then_same (Ends' kept (Behind outer (flat_all (map flattening (map plain xs)) p next).1) (Around outer)) (Paid 1024 kept (Behind outer next)) (run_kind p d callee x.kind.0 v w) (does' (flat_stmt x.kind.0 p here).0 u (with_toll t w))
      (in_turn (map (λ (x : Spanned Does). x.kind) (map does (map plain xs)))) (in_turn (map does' (flat_all (map flattening (map plain xs)) p next).0)) (x.kind.1 kept l x.span.start s outer here st both.0 v w u t q)
      (order_means xs kept l one.state outer next (static_behind (context l) x.span.start s here st x.kind.0) both.1) (λ w after c. absurd c)

  -- a block leaves the variables around it
  pub block_means : (ss : List (Spanned Known)) (kept : ℕ) (l : Bool) (s : State) (scope : check.Scope) (first : Scope) (outer : Places) (v : Scopes) (u : Locals) (t : ℕ) (w : World)
      → Static (placed (first ∷ v)) (scope ∷ s.scopes) → Inside outer v → Holds (first ∷ v) u → (in_order (map doing (map plain ss)) (context l) (record s { scopes = scope ∷ s.scopes })).breaks ≡ [] → Within 1024 kept t w
      → Same (Ends' kept (Behind outer (placed v)) (Behind outer (placed v))) (scoped first (record { stmts = map does (map plain ss) }) v w) (in_turn (map does' (flat_all (map flattening (map plain ss)) p (placed (first ∷ v))).0) u (with_toll t w))
  block_means ss kept l s scope first outer v u t w st i holds none within =
      let here = placed (first ∷ v) in
      on_same (Ends' kept (Behind (placed v) (flat_all (map flattening (map plain ss)) p here).1) (Around (placed v))) (drop 1) (Ends' kept (Behind outer (placed v)) (Behind outer (placed v))) _ _
      (λ v' w' u' t' q. (left_behind v' w' u' (q.0).0 (q.0).2, q.1)) (λ v' w' u' t' q. (left_behind v' w' u' (q.0).0 (q.0).1, q.1)) (λ v' w' u' t' q. (left_behind v' w' u' (q.0).0 (q.0).1, q.1))
      (order_means ss kept l (record s { scopes = scope ∷ s.scopes }) (placed v) here st none (first ∷ v) w u t ((refl, refl, holds), within))
    where
      left_behind : (v' : Scopes) (w' : World) (u' : Locals) → Inside (placed v) v' → Holds v' u' → Behind outer (placed v) (drop 1 v') w' u'
      left_behind [] w' u' j h = absurd j
      left_behind (scope ∷ others) w' u' j h = (inside_as outer v others i j, j, h.1)

  -- a block without variables of its own, as a statement
  pub inner_means : (ss : List (Spanned Known)) (kept : ℕ) (l : Bool) (s : State) (outer : Places) (v : Scopes) (u : Locals) (t : ℕ) (w : World)
      → Static (placed v) s.scopes → Inside outer v → Holds v u → (in_order (map doing (map plain ss)) (context l) (record s { scopes = [] ∷ s.scopes })).breaks ≡ [] → Within 1024 kept t w
      → Same (Ends' kept (Behind outer (placed v)) (Behind outer (placed v))) (scoped [] (record { stmts = map does (map plain ss) }) v w) (does' (block [] [] (record { stmts = map flattening (map plain ss) }) p (placed v)) u (with_toll t w))
  inner_means ss kept l s outer v u t w st i holds none within =
      same_as (Ends' kept (Behind outer (placed v)) (Behind outer (placed v))) _ _ _ (seq_to p result d callee callee' kept (flat_all (map flattening (map plain ss)) p ([] ∷ placed v)).0 u t w)
      (block_means ss kept l s [] [] outer v u t w (static_block (placed v) s.scopes st) i (tt, holds) none within)

  pub around_same : (kept : ℕ) (outer : Places) (v : Scopes) (o : Outcome Scopes Value) (o' : WordOutcome Locals (List ℕ)) → Same (Ends' kept (Behind outer (placed v)) (Behind outer (placed v))) o o' → Same (Ends' kept (Behind outer (placed v)) (Around outer)) o o'
  around_same kept outer v o o' =
      let N = Behind outer (placed v) in
      relates_less no_globals no_cuts 1024 N N N (IsReturned result) (IsRaised p) N (Around outer) (Around outer) kept o o' (λ v w u h. h) (λ v w u h. (h.0, h.2)) (λ v w u h. (h.0, h.2))

  module _ (kept : ℕ) (l : Bool) (place : ℕ) (s : State) (outer : Places) (v : Scopes) (u : Locals) (t : ℕ) (w : World) (st : Static (placed v) s.scopes) (i : Inside outer v) (holds : Holds v u) (within : Within 1024 kept t w) where
    pub if_means : (e : Spanned ExprKind) (ys zs : List (Spanned Known)) → let b1 = λ (ss : List (Spanned Known)). let b : BlockOf (Spanned Does) = record { stmts = map does (map plain ss) } in b in
        (do_layer (source_stmt.If e (record { stmts = map doing (map plain ys) }) (record { stmts = map doing (map plain zs) })) (context l) place s).breaks ≡ []
        → Same (Ends' kept (Behind outer (placed v)) (Around outer)) (run_layer p d callee (source_stmt.If e (b1 ys) (b1 zs)) v w)
        (does' (stmt.If (word_in (flat e (placed v))) (block [] [] (record { stmts = map flattening (map plain ys) }) p (placed v)) (block [] [] (record { stmts = map flattening (map plain zs) }) p (placed v))) u (with_toll t w))
    if_means e ys zs none =
        let first : BlockOf (Spanned Does) = record { stmts = map does (map plain ys) } in
        let second : BlockOf (Spanned Does) = record { stmts = map does (map plain zs) } in
        let W = tolled (own_weight {A = Does} p (source_stmt.If e first second) v) w in
        let here = placed v in
        let x = word_in (flat e here) in
        let t' = after t (2 + expr_steps x) in
        let r = Ends' kept (Behind outer here) (Around outer) in
        let worth = word_worth v e in
        let weighs = weights_more (check.judged e (shapes v)) [] in
        let paid : Within 1024 kept t' W = omega (arith, within, worth, weighs) in
        let one = in_order (map doing (map plain ys)) (context l) (record s { scopes = [] ∷ s.scopes }) in
        let s' : State = record { scopes = s.scopes; names = (one.state).names } in
        let two = in_order (map doing (map plain zs)) (context l) (record s' { scopes = [] ∷ s.scopes }) in
        let both = append_none _ two.breaks none in
        let parts = append_none _ one.breaks both.0 in
        let a' = block [] [] (record { stmts = map flattening (map plain ys) }) p here in
        let b' = block [] [] (record { stmts = map flattening (map plain zs) }) p here in
        same_as r _ _ _ (run_if (foreign_names p) d callee' x a' b' u (with_toll t w))
        (word_same r e v u t' W _ (λ n. if_not_zero n (does' a' u (with_toll t' W)) (does' b' u (with_toll t' W))) holds (λ n is.
        choice_same r n _ _ _ _
        (around_same kept outer v _ _ (inner_means ys kept l s outer v u t' W st i holds parts.1 paid))
        (around_same kept outer v _ _ (inner_means zs kept l s' outer v u t' W st i holds both.1 paid))))

    -- ---- loops

    module _ (e : Spanned ExprKind) (ss : List (Spanned Known)) where
      abbrev here : Places
      here = placed v

      abbrev x : Expr
      x = word_in (flat e here)

      abbrev body' : Stmt
      body' = block [] [] (record { stmts = map flattening (map plain ss) }) p here

      abbrev N : Scopes → World → Locals → Type 0
      N = Behind outer here

      -- what the test is worth is kept back at the loop's head
      abbrev Head : Scopes → World → Locals → ℕ → Type 0
      Head = Paid 1024 (16 * test_steps x + kept) N

      tests : (v1 : Scopes) (w1 : World) (u1 : Locals) (n : ℕ) → placed v1 ≡ here → Holds v1 u1 → source.word e v1 w1.memory ≡ Some n → word x u1 w1.memory ≡ Some n
      tests v1 w1 u1 n at h is =
          subst (λ ps. word (word_in (flat e ps)) u1 w1.memory ≡ Some n) at
          (gives_word v1 w1.memory (flat e (placed v1)) n (kind_means e.kind v1 w1.memory u1 (Word n) h (as_word_some v1 w1.memory (source.value e v1 w1.memory) n is)) u1 h)

      -- behind a turn: the next test is worth as much in the source
      covered : (v1 : Scopes) (t1 : ℕ) (w1 : World) → placed v1 ≡ here → Within 1024 kept t1 w1 → Within 1024 (16 * test_steps x + kept) t1 (tolled (expr_weight e v1) w1)
      covered v1 t1 w1 at h =
          let worth = subst (λ ps. expr_steps (word_in (flat e ps)) ≤ 2 * (check.judged e (shapes v1)).weight) at (word_worth v1 e) in
          let c = cheap_here v1 e in
          let some = c.some in
          omega (arith, worth, some, h)

      turned : (o : Outcome Scopes Value) (o' : WordOutcome Locals (List ℕ)) → Same (Ends' kept N N) o o' → Same (inside Head (Ends' kept N N)) (tested_again (expr_weight e) o) o'
      turned o o' (cut c) = absurd c.holds
      turned (Normal v1 w1) o' (matched s) = let q = s.holds in matched (record { second = s.second; toll = s.toll; holds = (q.0, covered v1 s.toll w1 (q.0).1 q.1); is = s.is })
      turned (Continued v1 w1) o' (matched s) = let q = s.holds in matched (record { second = s.second; toll = s.toll; holds = (q.0, covered v1 s.toll w1 (q.0).1 q.1); is = s.is })
      turned (Broken v1 w1) o' (matched s) = matched s
      turned (Returned a w1) o' (matched s) = matched s
      turned (Raised j a w1) o' (matched s) = matched s
      turned (Over f w1) o' (matched s) = matched s

      body_does : (in_order (map doing (map plain ss)) (context true) (record s { scopes = [] ∷ s.scopes })).breaks ≡ [] → Follows (Ends' kept N N) (Paid 1024 kept N) (λ v w. scoped [] (record { stmts = map does (map plain ss) }) v w) (does' body')
      body_does none v1 w1 u1 t1 q =
          let at = (q.0).1 in
          subst (λ ps. Same (Ends' kept (Behind outer ps) (Behind outer ps)) (scoped [] (record { stmts = map does (map plain ss) }) v1 w1) (does' (block [] [] (record { stmts = map flattening (map plain ss) }) p ps) u1 (with_toll t1 w1))) at
          (inner_means ss kept true s outer v1 u1 t1 w1 (subst (λ ps. Static ps s.scopes) (sym at) st) (q.0).0 (q.0).2 none q.1)

      pub while_means : (do_layer (source_stmt.While e (record { stmts = map doing (map plain ss) })) (context l) place s).breaks ≡ []
          → Same (Ends' kept (Behind outer (placed v)) (Around outer)) (run_layer p d callee (source_stmt.While e (record { stmts = map does (map plain ss) })) v w)
          (does' (stmt.While [] (word_in (flat e (placed v))) (block [] [] (record { stmts = map flattening (map plain ss) }) p (placed v))) u (with_toll t w))
      while_means none =
          let body : BlockOf (Spanned Does) = record { stmts = map does (map plain ss) } in
          let W = tolled (own_weight {A = Does} p (source_stmt.While e body) v) w in
          let t' = after t 1 in
          let worth = word_worth v e in
          let weighs = weights_more (check.judged e (shapes v)) [] in
          let inner = in_order (map doing (map plain ss)) (context true) (record s { scopes = [] ∷ s.scopes }) in
          let both = append_none _ inner.breaks none in
          same_as (Ends' kept N (Around outer)) _ _ _ (run_while (foreign_names p) d callee' [] x body' u (with_toll t w))
          (around_same kept outer v _ _
          (turns_same (Ends' kept N N) Head (Paid 1024 kept N) (Paid 1024 kept N) d _ _ _ _ _ _
          (record {
            first = λ v1 w1 u1 t1 q. normal (Ends' kept N N) v1 w1 u1 (after t1 (test_steps x)) (q.0, let h = q.1 in omega (arith, h));
            tests = λ v1 w1 u1 t1 n q is. tests v1 w1 u1 n (q.0).1 (q.0).2 is;
            leaves = λ v1 w1 u1 t1 q. q;
            begins = λ v1 w1 u1 t1 n q. q;
            inner = λ v1 w1 u1 t1 q. turned _ _ (body_does both.1 v1 w1 u1 t1 q);
            spent = λ v1 w1 u1 t1 q. let h = q.1 in omega (arith, h);
            spent_at_head = λ v1 w1 u1 t1 q. let h = q.1 in omega (arith, h);
            before_onward = λ w after c. absurd c;
            body_onward = λ w after c. absurd c;
          }) v W u t' ((i, refl, holds), omega (arith, within, worth, weighs))))
