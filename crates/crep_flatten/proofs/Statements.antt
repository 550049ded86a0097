-- Statements without blocks and calls, in words, do what the source's do, within what they weigh.
use Rattle.std.proofs.Common.{◌≡◌, ℕ, ◌+◌, ◌*◌, ◌%◌, ◌^◌, ◌≤◌, true, false, not, List, [], ◌∷◌, ◌++◌, map, drop, Option, Some, None, arith, refl, sym, ap, subst, ◌∙◌}
use Rattle.pan_base.specs.Events.{Load, Store, byte_count}
use Rattle.pan_base.specs.declared.events.Size.{Size}
use Rattle.pan_base.specs.declared.events.Size.TheVariants.{B1}
use Rattle.pan_base.specs.declared.text.Text.{Text}
use Rattle.pan_control.specs.World.{tolled}
use Rattle.pan_control.specs.Memory.{is_shared, with_byte, with_words}
use Rattle.pan_control.specs.Control.{Normal, Returned, in_turn, with_value}
use Rattle.pan_control.specs.Runs.{number}
use Rattle.pan_stage.specs.Locals.{Locals, write}
use Rattle.pan_stage.specs.Shared.{with_loaded, with_stored}
use Rattle.pan_stage.specs.Data.{Callee as WordCallee, Meaning as WordMeaning, Outcome as WordOutcome, World as WordWorld, with_written}
use Rattle.pan_stage.proofs.DataLaws.{byte_written, low_bytes_written}
use Rattle.pan_stage.proofs.Follows.{Ends, Same, normal, broken, continued, returned, same_as, with_same, where_same, ask_same}
use Rattle.pan_stage.proofs.Paid.{Within, no_cuts, paid}
use Rattle.pan_stage.proofs.Rows.{then_normal}
use Rattle.pan_tree.specs.Running.{Callee, Outcome, World}
use Rattle.pan_tree.specs.Scopes.{innermost, declare}
use Rattle.pan_tree.specs.Scopes as scopes
use Rattle.pan_tree.specs.Value.{Value, Word, words_in}
use Rattle.pan_tree.specs.Shapes.{words_of, is_word, same}
use Rattle.pan_tree.specs.Check as check
use Rattle.pan_tree.specs.Check.{Judged, broken as broken_rules, breaks_of, no_value, is_other, or_word, foreign_names, exception_of}
use Rattle.pan_tree.specs.Meaning as source
use Rattle.pan_tree.specs.Meaning.{Does, Scope, Scopes, shapes, own_weight, run_layer, exception_index, foreign_index}
use Rattle.pan_tree.specs.declared.rule.Rule.TheVariants.{UnknownName, WrongShape}
use Rattle.pan_tree.specs.declared.shape.Shape.{Shape}
use Rattle.pan_tree.specs.declared.shape.Shape.TheVariants as shape
use Rattle.pan_tree.specs.declared.spanned.Spanned.{Spanned}
use Rattle.pan_tree.specs.declared.syntax.ExprKind.{ExprKind}
use Rattle.pan_tree.specs.declared.syntax.StmtKind.TheOpen as source_stmt
use Rattle.pan_tree.specs.declared.program.Program.{Program as Source}
use Rattle.check_soundness.specs.Spread.{spread}
use Rattle.check_soundness.proofs.SpreadShapes.{spread_word, word_spread, same_spread}
use Rattle.check_soundness.proofs.Alike.{spread_same}
use Rattle.check_soundness.proofs.Rules.{unbroken, append_none, not_false}
use Rattle.check_soundness.proofs.Fitting.{value_fits, variable_fits}
use Rattle.check_soundness.proofs.SoundStmts.{Thrown, HasShape}
use Rattle.crep_lang.specs.Meaning.{run}
use Rattle.crep_lang.specs.Steps.{expr_steps, passed}
use Rattle.crep_lang.specs.declared.syntax.Stmt.{Stmt}
use Rattle.crep_lang.specs.declared.syntax.Stmt.TheVariants as stmt
use Rattle.crep_lang.proofs.Runs.{run_skip, run_seq, run_store_byte, run_break, run_continue, run_return, run_shared_load, run_shared_store}
use Rattle.crep_flatten.specs.declared.rows.Row.{Row}
use Rattle.crep_flatten.specs.Rows.{inlined, settle}
use Rattle.crep_flatten.specs.Flat.{Place, Places, count, flat, word_in}
use Rattle.crep_flatten.specs.Flattened.{assign_row, assigned, stored, place_at, new_place, flat_layer}
use Rattle.crep_flatten.proofs.Values.{words_shape}
use Rattle.crep_flatten.proofs.Holding.{size, number as number_places, placed, Holds, Agree, agree_sub, holds_agree, write_from}
use Rattle.crep_flatten.proofs.WordLemmas.{runs_on}
use Rattle.crep_flatten.proofs.FlatExprs.{all_code, after, gives_word, as_word_some, kind_means, settle_gives}
use Rattle.crep_flatten.proofs.Costs.{Static, Cheap, kind_cheap, first_cheap, weights_more, settled_well}
use Rattle.crep_flatten.proofs.Assigning.{puts}
use Rattle.crep_flatten.proofs.Straight.{assigned_runs, declared_runs, stored_runs, declares, declared_placed}
use Rattle.crep_flatten.proofs.Places.{placed_static, static_fits, declared_count}
use Rattle.crep_flatten.proofs.Worth.{assigned_worth, declared_worth, stored_worth, row_worth}
use Rattle.crep_flatten.proofs.Beside.{no_globals, with_toll, word, words}

-- ---- relations

-- these variables, in an inner block and in the blocks that have these places
abbrev pub Inside : Places → Scopes → Type 0
Inside outer [] = ⊥
Inside outer (scope ∷ scopes) = placed scopes ≡ outer

pub inside_as : (outer : Places) (v t : Scopes) → Inside outer v → placed t ≡ placed v → Inside outer t
inside_as outer [] t i h = absurd i
inside_as outer (scope ∷ scopes) [] i h = let no : [] ≡ number_places (count (placed scopes)) scope ∷ placed scopes = h in absurd cc
inside_as outer (scope ∷ scopes) (other ∷ others) i h = ap (drop 1) h ∙ i

-- where a statement goes on, the variables in words hold the source's, which have these places; where it leaves a loop or its turn, they hold them
abbrev pub Behind : Places → Places → Scopes → World → Locals → Type 0
Behind outer here v w u = Inside outer v × (placed v ≡ here) × Holds v u

abbrev pub Around : Places → Scopes → World → Locals → Type 0
Around outer v w u = Inside outer v × Holds v u

-- what is returned and raised are the words of the source's values, which have the shapes that the check gives them
abbrev pub IsReturned : Shape → Value → World → List ℕ → Type 0
IsReturned s a w ns = (ns ≡ words_in a) × HasShape s a

abbrev pub IsRaised : Source → ℕ → Value → World → List ℕ → Type 0
IsRaised p i a w ns = (ns ≡ words_in a) × Thrown p i a

-- ---- expressions

module _ (v : Scopes) (e : Spanned ExprKind) where
  abbrev judged_here : Judged
  judged_here = check.judged e (shapes v)

  pub cheap_here : Cheap (flat e (placed v)) judged_here
  cheap_here = kind_cheap e.kind e.span.start (placed v) (shapes v) (placed_static v)

  pub word_worth : expr_steps (word_in (flat e (placed v))) ≤ 2 * judged_here.weight
  word_worth = let c = cheap_here in let s = c.some in first_cheap (2 * judged_here.weight) (flat e (placed v)).rows (omega (arith, s)) c.each

-- the word of an expression, unless the source has none
pub word_same : {V X Y : Type 0} (r : Ends (Unit {0}) (List ℕ) V Locals X Y) (e : Spanned ExprKind) (v : Scopes) (u : Locals) (t : ℕ) (w : World) (go : ℕ → Outcome V X) (go' : ℕ → WordOutcome Locals Y) → Holds v u
    → ((n : ℕ) → source.word e v w.memory ≡ Some n → Same r (go n) (go' n)) → Same r (with_value (source.word e v w.memory) w go) (with_value (word (word_in (flat e (placed v))) u w.memory) (with_toll t w) go')
word_same r e v u t w go go' holds h =
    with_same r (source.word e v w.memory) w go _ (λ n is.
    same_as r (go n) _ (go' n)
    (ap (λ o. with_value o (with_toll t w) go') (gives_word v w.memory (flat e (placed v)) n (kind_means e.kind v w.memory u (Word n) holds (as_word_some v w.memory (source.value e v w.memory) n is)) u holds)) (h n is))

-- a known variable that is a word
word_variable : (o : Option Shape) → no_value o ≡ false → is_word (or_word o) ≡ true → is_other o shape.Word ≡ false
word_variable None h g = absurd cc
word_variable (Some r) h g = ap not (spread_same r shape.Word (word_spread r g ∙ sym spread_word))

module _ (p : Source) (result : Shape) (d : ℕ) (callee : Callee (List Value) Value) (callee' : WordCallee (List ℕ) (List ℕ)) (kept : ℕ) where
  abbrev pub run' : Stmt → WordMeaning Locals (List ℕ)
  run' = run (foreign_names p) d callee'

  abbrev pub ends : (Scopes → World → Locals → Type 0) → (Scopes → World → Locals → Type 0) → Ends (Unit {0}) (List ℕ) Scopes Locals Value (List ℕ)
  ends N B = paid no_globals no_cuts 1024 kept N B B (IsReturned result) (IsRaised p)

  -- statements one after another
  pub seq_to : (ss : List Stmt) (u : Locals) (t : ℕ) (w : World) → run' (stmt.Seq ss) u (with_toll t w) ≡ in_turn (map run' ss) u (with_toll t w)
  seq_to ss u t w = run_seq (foreign_names p) d callee' ss u (with_toll t w) ∙ ap (λ n. in_turn (map run' ss) u (with_toll n w)) (omega arith)

  -- the last of some statements, behind those that compute addresses
  pub record Last (rs : List Row) (t0 : ℕ) (ns : List ℕ) (last : Stmt) (v : Scopes) (u : Locals) (t : ℕ) (w : World) : Type 0 where
    pub behind : Locals
    pub low : Agree 0 t0 u behind
    pub holds : Holds v behind
    pub words : words (settle rs t0).words behind w.memory ≡ Some ns
    pub is : run' (stmt.Seq ((settle rs t0).before ++ last ∷ [])) u (with_toll t w) ≡ run' last behind (with_toll (after t (all_code (settle rs t0).before)) w)

  pub last_runs : (rs : List Row) (t0 : ℕ) (ns : List ℕ) (last : Stmt) (v : Scopes) (u : Locals) (t : ℕ) (w : World) → ((u : Locals) → Holds v u → words (inlined rs) u w.memory ≡ Some ns) → Holds v u → count (placed v) ≤ t0 → Last rs t0 ns last v u t w
  last_runs rs t0 ns last v u t w g holds le =
      let s = settle_gives v w.memory rs t0 ns le g in
      let q = settle rs t0 in
      let r = s.run (foreign_names p) d callee' u t w refl holds in
      let kept = holds_agree v u r.behind (agree_sub 0 t0 0 (count (placed v)) u r.behind (omega arith) le r.low) holds in
      let w' = with_toll (after t (all_code q.before)) w in
      record {
        behind = r.behind;
        low = r.low;
        holds = kept;
        words = r.gives r.behind kept (record { at = λ y p q. refl });
        is = seq_to (q.before ++ last ∷ []) u t w ∙ runs_on (foreign_names p) d callee' q.before (last ∷ []) u r.behind (with_toll t w) w' r.is ∙ then_normal (run' last r.behind w');
      }

  module _ (outer : Places) (v : Scopes) (u : Locals) (t : ℕ) (w : World) (inside : Inside outer v) (holds : Holds v u) (within : Within 1024 kept t w) where
    abbrev N : Places → Scopes → World → Locals → Type 0
    N = Behind outer

    abbrev B : Scopes → World → Locals → Type 0
    B = Around outer

    pub skip_same : Same (ends (N (placed v)) B) (run_layer p d callee source_stmt.Skip v w) (run' stmt.Skip u (with_toll t w))
    skip_same =
        same_as (ends (N (placed v)) B) _ _ _ (run_skip (foreign_names p) d callee' u (with_toll t w))
        (normal (ends (N (placed v)) B) v (tolled (own_weight {A = Does} p source_stmt.Skip v) w) u (after t 0) ((inside, refl, holds), omega (arith, within)))

    pub break_same : Same (ends (N (placed v)) B) (run_layer p d callee source_stmt.Break v w) (run' stmt.Break u (with_toll t w))
    break_same =
        same_as (ends (N (placed v)) B) _ _ _ (run_break (foreign_names p) d callee' u (with_toll t w))
        (broken (ends (N (placed v)) B) v (tolled (own_weight {A = Does} p source_stmt.Break v) w) u (after t 1) ((inside, holds), omega (arith, within)))

    pub continue_same : Same (ends (N (placed v)) B) (run_layer p d callee source_stmt.Continue v w) (run' stmt.Continue u (with_toll t w))
    continue_same =
        same_as (ends (N (placed v)) B) _ _ _ (run_continue (foreign_names p) d callee' u (with_toll t w))
        (continued (ends (N (placed v)) B) v (tolled (own_weight {A = Does} p source_stmt.Continue v) w) u (after t 1) ((inside, holds), omega (arith, within)))

    -- ---- variables

    pub assign_same : (x : Text) (e : Spanned ExprKind) (c : check.Context) (place : ℕ) (s : check.State) → Static (placed v) s.scopes → (check.do_layer (source_stmt.Assign x e) c place s).breaks ≡ []
        → Same (ends (N (placed v)) B) (run_layer p d callee (source_stmt.Assign x e) v w) (run' (flat_layer (source_stmt.Assign x e) p (placed v)).0 u (with_toll t w))
    assign_same x e c place s st none =
        let own = own_weight {A = Does} p (source_stmt.Assign x e) v in
        let W = tolled own w in
        let here = placed v in
        let f = flat e here in
        let known = innermost x s.scopes in
        let j = check.judged e s.scopes in
        let parts = append_none (breaks_of (j ∷ [])) _ none in
        let one = unbroken place UnknownName (no_value known) ((WrongShape, is_other known j.shape) ∷ []) parts.1 in
        let two = unbroken place WrongShape (is_other known j.shape) [] one.1 in
        let fits = static_fits v s.scopes st in
        with_same (ends (N here) B) (source.value e v w.memory) W _ _ (λ a is.
        let g = kind_means e.kind v w.memory u a holds is in
        let b = variable_fits x j.shape a s.scopes v fits one.0 two.0 (value_fits e s.scopes v w.memory a fits is) in
        let put = puts x a b.0 v b.1 b.2 in
        let q = place_at (innermost x here) in
        let at : q ≡ put.place = ap place_at put.is in
        let long = words_shape a in
        let room = subst (λ (q : Place). q.first + size a ≤ count here) (sym at) put.to in
        let ss = assigned q.first f.rows (count here) in
        let came = assigned_runs (foreign_names p) d callee' v f.rows (words_in a) q.first (count here) u t W g.words holds (omega arith) (omega (arith, long, room)) in
        let written : Holds (scopes.assign x a v) (write_from q.first (words_in a) u) = subst (λ (q : Place). Holds (scopes.assign x a v) (write_from q.first (words_in a) u)) (sym at) (put.holds u holds) in
        let now = holds_agree (scopes.assign x a v) (write_from q.first (words_in a) u) came.behind (subst (λ ps. Agree 0 (count ps) (write_from q.first (words_in a) u) came.behind) (sym put.places) came.so) written in
        let k = cheap_here v e in
        let worth = assigned_worth q.first f.rows (count here) in
        let weighs = weights_more (check.judged e (shapes v)) [] in
        let wide = k.wide in
        let sum = k.sum in
        let size_is = k.size in
        same_as (ends (N here) B) _ _ _ (seq_to ss u t W ∙ came.is)
        (normal (ends (N here) B) (scopes.assign x a v) W came.behind (after t (all_code ss)) ((inside_as outer v (scopes.assign x a v) inside put.places, put.places, now), omega (arith, within, worth, weighs, wide, sum, size_is))))

    pub decl_same : (x : Text) (e : Spanned ExprKind)
        → Same (ends (N (flat_layer (source_stmt.Decl x e) p (placed v)).1) B) (run_layer p d callee (source_stmt.Decl x e) v w) (run' (flat_layer (source_stmt.Decl x e) p (placed v)).0 u (with_toll t w))
    decl_same x e = by v inside holds
      where
        by : (v : Scopes) → Inside outer v → Holds v u
            → Same (ends (Behind outer (flat_layer (source_stmt.Decl x e) p (placed v)).1) (Around outer)) (run_layer p d callee (source_stmt.Decl x e) v w) (run' (flat_layer (source_stmt.Decl x e) p (placed v)).0 u (with_toll t w))
        by [] i holds = absurd i
        by (scope ∷ scopes) i holds =
            let v : Scopes = scope ∷ scopes in
            let W = tolled (own_weight {A = Does} p (source_stmt.Decl x e) v) w in
            let here = placed v in
            let f = flat e here in
            let n = count here in
            let r = ends (Behind outer (declare x (new_place f.shape here) here)) (Around outer) in
            with_same r (source.value e v w.memory) W _ _ (λ a is.
            let g = kind_means e.kind v w.memory u a holds is in
            let long = words_shape a in
            let wide = ap words_of g.shape in
            let q = settle f.rows (n + words_of f.shape) in
            let ss = q.before ++ assign_row n q.words in
            let came = declared_runs (foreign_names p) d callee' v f.rows (words_in a) (words_of f.shape) u t W g.words holds (omega (arith, long, wide)) in
            let many = declared_count x a scope scopes in
            let now = holds_agree (declare x a v) (write_from n (words_in a) u) came.behind (subst (λ k. Agree 0 k (write_from n (words_in a) u) came.behind) (omega (arith, many, long)) came.so) (declares x a scope scopes u holds) in
            let at = declared_placed x a scope scopes ∙ ap (λ s. declare x (new_place s here) here) (sym g.shape) in
            let k = cheap_here v e in
            let worth = declared_worth n f.rows (n + words_of f.shape) in
            let weighs = weights_more (check.judged e (shapes v)) [] in
            let kw = k.wide in
            let ks = k.sum in
            let kz = k.size in
            same_as r _ _ _ (seq_to ss u t W ∙ came.is) (normal r (declare x a v) W came.behind (after t (all_code ss)) ((i, at, now), omega (arith, within, worth, weighs, kw, ks, kz))))

    -- ---- memory

    pub store_same : (a e : Spanned ExprKind) → Same (ends (N (placed v)) B) (run_layer p d callee (source_stmt.StoreWords a e) v w) (run' (flat_layer (source_stmt.StoreWords a e) p (placed v)).0 u (with_toll t w))
    store_same a e =
        let W = tolled (own_weight {A = Does} p (source_stmt.StoreWords a e) v) w in
        let here = placed v in
        let f = flat e here in
        let address = word_in (flat a here) in
        let r = ends (N here) B in
        with_same r (source.word a v w.memory) W _ _ (λ addr ia.
        with_same r (source.value e v w.memory) W _ _ (λ x ix.
        with_same r (with_words w.memory addr (words_in x)) W _ _ (λ m' im.
        let ss = stored address f.rows (count here) in
        let ga = kind_means a.kind v w.memory u (Word addr) holds (as_word_some v w.memory (source.value a v w.memory) addr ia) in
        let gx = kind_means e.kind v w.memory u x holds ix in
        let came = stored_runs (foreign_names p) d callee' v address addr f.rows (words_in x) (count here) u t W m' (λ u' h. gives_word v w.memory (flat a here) addr ga u' h) gx.words holds (omega arith) im in
        let k = cheap_here v e in
        let wa = word_worth v a in
        let worth = stored_worth address f.rows (count here) in
        let weighs = weights_more (check.judged a (shapes v)) (check.judged e (shapes v) ∷ []) in
        let more = weights_more (check.judged e (shapes v)) [] in
        let kw = k.wide in
        let ks = k.sum in
        let kz = k.size in
        same_as r _ _ _ (seq_to ss u t W ∙ came.is)
        (normal r v (record W { memory = m' }) came.behind (after t (all_code ss)) ((inside, refl, holds_agree v u came.behind came.so holds), omega (arith, within, worth, weighs, more, kw, ks, kz, wa))))))

    pub store_byte_same : (a e : Spanned ExprKind) → Same (ends (N (placed v)) B) (run_layer p d callee (source_stmt.StoreByte a e) v w) (run' (flat_layer (source_stmt.StoreByte a e) p (placed v)).0 u (with_toll t w))
    store_byte_same a e =
        let W = tolled (own_weight {A = Does} p (source_stmt.StoreByte a e) v) w in
        let here = placed v in
        let i = word_in (flat a here) in
        let j = word_in (flat e here) in
        let t' = after t (1 + expr_steps i + expr_steps j) in
        let r = ends (N here) B in
        let wa = word_worth v a in
        let we = word_worth v e in
        let weighs = weights_more (check.judged a (shapes v)) (check.judged e (shapes v) ∷ []) in
        let more = weights_more (check.judged e (shapes v)) [] in
        same_as r _ _ _ (run_store_byte (foreign_names p) d callee' i j u (with_toll t W))
        (word_same r a v u t' W _ (λ addr. with_value (word j u w.memory) (with_toll t' W) (λ n. with_written B1 addr n (with_toll t' W) (λ w. Normal u w))) holds (λ addr ia.
        word_same r e v u t' W _ (λ n. with_written B1 addr n (with_toll t' W) (λ w. Normal u w)) holds (λ n ie.
        with_same r (with_byte w.memory addr (n % 256)) W _ _ (λ m' im.
        let is = sym (low_bytes_written B1 [] w.memory addr n) ∙ byte_written [] w.memory m' addr (n % 256) (omega arith) im in
        same_as r _ _ _ (ap (λ o. written_on o u (with_toll t' W)) is)
        (normal r v (record W { memory = m' }) u t' ((inside, refl, holds), omega (arith, within, wa, we, weighs, more)))))))
      where
        written_on : Option (List ℕ × List ℕ) → Locals → WordWorld → WordOutcome Locals (List ℕ)
        written_on o u w = with_value o w (λ d. Normal u (record w { globals = d.0; memory = d.1 }))

    -- ---- ways out

    pub return_same : (e : Spanned ExprKind) (c : check.Context) (place : ℕ) (s : check.State) → c.result ≡ result → Static (placed v) s.scopes → (check.do_layer (source_stmt.Return e) c place s).breaks ≡ []
        → Same (ends (N (placed v)) B) (run_layer p d callee (source_stmt.Return e) v w) (run' (flat_layer (source_stmt.Return e) p (placed v)).0 u (with_toll t w))
    return_same e c place s cr st none =
        let W = tolled (own_weight {A = Does} p (source_stmt.Return e) v) w in
        let here = placed v in
        let f = flat e here in
        let r = ends (N here) B in
        let q = settle f.rows (count here) in
        let j = check.judged e s.scopes in
        let parts = append_none (breaks_of (j ∷ [])) _ none in
        let alike = not_false (same c.result j.shape) (unbroken place WrongShape (not (same c.result j.shape)) [] parts.1).0 in
        let fits = static_fits v s.scopes st in
        with_same r (source.value e v w.memory) W _ _ (λ a is.
        let g = kind_means e.kind v w.memory u a holds is in
        let l = last_runs f.rows (count here) (words_in a) (stmt.Return q.words) v u t W g.words holds (omega arith) in
        let t' = after t (all_code q.before) in
        let t'' = after t' (passed q.words) in
        let k = cheap_here v e in
        let sw = settled_well f.rows (count here) in
        let worth = sw.worth in
        let many = sw.size in
        let rw_ = row_worth q.words in
        let weighs = weights_more (check.judged e (shapes v)) [] in
        let kw = k.wide in
        let ks = k.sum in
        let kz = k.size in
        let shaped : HasShape result a = value_fits e s.scopes v w.memory a fits is ∙ sym (same_spread c.result j.shape alike) ∙ ap spread cr in
        same_as r _ _ _ (l.is ∙ run_return (foreign_names p) d callee' q.words l.behind (with_toll t' W) ∙ ap (λ o. with_value o (with_toll t'' W) (λ ns. Returned ns (with_toll t'' W))) l.words)
        (returned r a W (words_in a) t'' ((refl, shaped), omega (arith, within, worth, many, rw_, weighs, kw, ks, kz))))

    -- ---- requests

    pub shared_store_same : (z : Size) (a e : Spanned ExprKind) → Same (ends (N (placed v)) B) (run_layer p d callee (source_stmt.SharedStore z a e) v w) (run' (flat_layer (source_stmt.SharedStore z a e) p (placed v)).0 u (with_toll t w))
    shared_store_same z a e =
        let W = tolled (own_weight {A = Does} p (source_stmt.SharedStore z a e) v) w in
        let here = placed v in
        let i = word_in (flat a here) in
        let j = word_in (flat e here) in
        let t' = after t (1 + expr_steps i + expr_steps j) in
        let r = ends (N here) B in
        let wa = word_worth v a in
        let we = word_worth v e in
        let weighs = weights_more (check.judged a (shapes v)) (check.judged e (shapes v) ∷ []) in
        let more = weights_more (check.judged e (shapes v)) [] in
        let paid : Within 1024 kept t' W = omega (arith, within, wa, we, weighs, more) in
        same_as r _ _ _ (run_shared_store (foreign_names p) d callee' z i j u (with_toll t W))
        (word_same r a v u t' W _ (λ addr. with_value (word j u w.memory) (with_toll t' W) (λ n. with_stored z addr n (with_toll t' W) (λ w. Normal u w))) holds (λ addr ia.
        word_same r e v u t' W _ (λ n. with_stored z addr n (with_toll t' W) (λ w. Normal u w)) holds (λ n ie.
        where_same r (is_shared z addr) W (with_toll t' W) _ _
        (ask_same r (Store z addr (n % 2 ^ (8 * byte_count z))) W t' (λ a w. Normal v w) (λ a w. Normal u w) (omega (arith, paid)) (λ a rs es. normal r v (record W { replies = rs; trace = es }) u t' ((inside, refl, holds), omega (arith, paid)))))))

    pub shared_load_same : (z : Size) (x : Text) (a : Spanned ExprKind) (c : check.Context) (place : ℕ) (s : check.State) → Static (placed v) s.scopes → (check.do_layer (source_stmt.SharedLoad z x a) c place s).breaks ≡ []
        → Same (ends (N (placed v)) B) (run_layer p d callee (source_stmt.SharedLoad z x a) v w) (run' (flat_layer (source_stmt.SharedLoad z x a) p (placed v)).0 u (with_toll t w))
    shared_load_same z x a c place s st none =
        let W = tolled (own_weight {A = Does} p (source_stmt.SharedLoad z x a) v) w in
        let here = placed v in
        let i = word_in (flat a here) in
        let t' = after t (1 + expr_steps i) in
        let r = ends (N here) B in
        let known = innermost x s.scopes in
        let parts = append_none (breaks_of (check.judged a s.scopes ∷ [])) _ none in
        let one = unbroken place UnknownName (no_value known) _ parts.1 in
        let two = unbroken place WrongShape (not (is_word (or_word known))) _ one.1 in
        let fits = static_fits v s.scopes st in
        let wa = word_worth v a in
        let weighs = weights_more (check.judged a (shapes v)) [] in
        let paid : Within 1024 kept t' W = omega (arith, within, wa, weighs) in
        let q = place_at (innermost x here) in
        same_as r _ _ _ (run_shared_load (foreign_names p) d callee' z q.first i u (with_toll t W))
        (word_same r a v u t' W _ (λ addr. with_loaded z addr (with_toll t' W) (λ n w. Normal (write q.first n u) w)) holds (λ addr ia.
        where_same r (is_shared z addr) W (with_toll t' W) _ _
        (ask_same r (Load z addr) W t' (λ a w. Normal (scopes.assign x (Word (number a)) v) w) (λ a w. Normal (write q.first (number a) u) w) (omega (arith, paid)) (λ a rs es.
        let n = number a in
        let b = variable_fits x shape.Word (Word n) s.scopes v fits one.0 (word_variable known one.0 (not_false (is_word (or_word known)) two.0)) (sym spread_word) in
        let put = puts x (Word n) b.0 v b.1 b.2 in
        let at : q ≡ put.place = ap place_at put.is in
        let now : Holds (scopes.assign x (Word n) v) (write q.first n u) = subst (λ (q : Place). Holds (scopes.assign x (Word n) v) (write q.first n u)) (sym at) (put.holds u holds) in
        normal r (scopes.assign x (Word n) v) (record W { replies = rs; trace = es }) (write q.first n u) t' ((inside_as outer v (scopes.assign x (Word n) v) inside put.places, put.places, now), omega (arith, paid))))))
