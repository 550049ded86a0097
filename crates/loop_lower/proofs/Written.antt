-- Where a variable is live before the steps of a statement, it is live before the statement: so lowering adds none that is read before it is written.
use Rattle.std.proofs.Common.{◌≡◌, ◌≢◌, ◌⊎◌, inl, inr, ℕ, Bool, true, false, List, [], ◌∷◌, ◌++◌, map, Option, Some, None, arith, refl, sym, ap, subst, ◌∙◌}
use Rattle.std.specs.Prelude.{◌==◌, ◌||◌, ◌&&◌, not}
use Rattle.std.proofs.lemmas.Bool.Decides.{nat_tests}
use Rattle.pan_flow.specs.Flow.{Writes, Leaves, Exit, AtEnd, AtBreak, AtContinue, AtReturn, Flow, Does, Ends, Then, Either, Loop, with_end, has}
use Rattle.pan_flow.specs.Functions.{all_in_turn, reads, sets, IsWritten}
use Rattle.pan_flow.specs.Live.{live_before}
use Rattle.pan_stage.specs.Locals.{numbers_from}
use Rattle.pan_stage.specs.declared.program.Handler.{Handler}
use Rattle.crep_lang.specs.Text.{read_layer, variables_read, all_read}
use Rattle.crep_lang.specs.Text as crep
use Rattle.crep_lang.specs.declared.syntax.CrepFun.{CrepFun}
use Rattle.crep_lang.specs.declared.syntax.Expr.{Expr, Expr-F, roll-Expr, map-Expr}
use Rattle.crep_lang.specs.declared.syntax.Expr.TheOpen as expr
use Rattle.crep_lang.specs.declared.syntax.Stmt.{Stmt as Crep, Stmt-F as Crep-F, roll-Stmt as roll-Crep, map-Stmt as map-Crep}
use Rattle.crep_lang.specs.declared.syntax.Stmt.TheOpen as c
use Rattle.loop_lang.specs.Text.{flow_of, flow_of_function}
use Rattle.loop_lang.specs.declared.syntax.Stmt.{Stmt}
use Rattle.loop_lang.specs.declared.syntax.Stmt.TheVariants as s
use Rattle.loop_lang.proofs.Equations as at
use Rattle.loop_lower.specs.declared.places.Plan.{Plan}
use Rattle.loop_lower.specs.declared.places.Placed.{Placed}
use Rattle.loop_lower.specs.Lowered.{Lowered, before_of, operand_of, before, operand, next, before_all, operands, nth, of_one, of_two, lower_layer, lower, planned, row_before, row_operands, behind, placed_row, placed_layer, placed, first_free, limit_of, lower_function}
use Rattle.loop_lower.proofs.Layers.{expr_induct, read_roll, lower_roll, crep_induct, flow_roll, placed_roll, append_none}
use Rattle.loop_lower.proofs.Narrow.{True, or_true, left_true, right_true, and_true, has_append, end_twice, not_of_one, apart_from_one, Narrow, end_narrow, writes_narrow, leaves_narrow, either_narrow, then_narrow, loop_narrow, narrow_written}

module _ (x : ℕ) where
  -- live before steps
  abbrev live : List Stmt → (Exit → Bool) → Bool
  live ss k = live_before x (all_in_turn (map flow_of ss)) k

  live_append : (ss ts : List Stmt) (k : Exit → Bool) → live (ss ++ ts) k ≡ live ss (with_end (live ts k) k)
  live_append [] ts k = refl
  live_append (s1 ∷ ss) ts k = ap (λ b. live_before x (flow_of s1) (with_end b k)) (live_append ss ts k) ∙ ap (live_before x (flow_of s1)) (sym (end_twice (live ss (with_end (live ts k) k)) (live ts k) k))

  -- where x is live before what computes into z, it is read there, or it isn't z and is live behind
  abbrev Into : ℕ → List ℕ → List Stmt → Type 0
  Into z xs ss = (k : Exit → Bool) → True (live ss k) → True (has xs x) ⊎ ((x ≢ z) × True (k AtEnd))

  -- one step that reads ys and writes z
  step_into : (z : ℕ) (ys : List ℕ) (step : Stmt) → flow_of step ≡ sets z ys → Into z ys (step ∷ [])
  step_into z ys step is k h = by (or_true (has ys x) _ (subst (λ f. True (live_before x f (with_end (k AtEnd) k))) is h))
    where
      by : True (has ys x) ⊎ True (not (has (z ∷ []) x) && k AtEnd) → True (has ys x) ⊎ ((x ≢ z) × True (k AtEnd))
      by (inl h) = inl h
      by (inr h) = let p = and_true (not (has (z ∷ []) x)) (k AtEnd) h in inr (apart_from_one x z p.0, p.1)

  before_into : (f : Lowered) (t : ℕ) (xs : List ℕ) → ((y : ℕ) → f.place ≡ Some y → has xs x ≡ has (y ∷ []) x) → ((z t : ℕ) → Into z xs (f.into z t)) → Into (operand f t) xs (before f t)
  before_into f t xs places h = by f.place places
    where
      by : (o : Option ℕ) → ((y : ℕ) → o ≡ Some y → has xs x ≡ has (y ∷ []) x) → Into (operand_of o (f.spot t)) xs (before_of o (f.into (f.spot t) t))
      by None p k l = h (f.spot t) t k l
      by (Some y) p k l = one (x == y) refl
        where
          one : (b : Bool) → (x == y) ≡ b → True (has xs x) ⊎ ((x ≢ y) × True (k AtEnd))
          one true e = inl (p y refl ∙ left_true (x == y) false e)
          one false e = inr (λ same. grind (arith, nat_tests), l)

  -- ---- expressions

  record Reads' (f : Lowered) (xs : List ℕ) : Type 0 where
    places : (y : ℕ) → f.place ≡ Some y → has xs x ≡ has (y ∷ []) x
    into : (z t : ℕ) → Into z xs (f.into z t)

  module _ (apart : Bool) where
    one_reads : (f : Lowered) (xs : List ℕ) (step : ℕ → ℕ → Stmt) → ((z y : ℕ) → flow_of (step z y) ≡ sets z (y ∷ [])) → Reads' f xs → Reads' (of_one apart f step) xs
    one_reads f xs step is h = record {
      places = λ y e. absurd cc;
      into = λ z t k l. by z t k (before_into f t xs h.places h.into _ (subst True (live_append (before f t) (step z (operand f t) ∷ []) k) l));
    }
      where
        by : (z t : ℕ) (k : Exit → Bool) → True (has xs x) ⊎ ((x ≢ operand f t) × True (live (step z (operand f t) ∷ []) k)) → True (has xs x) ⊎ ((x ≢ z) × True (k AtEnd))
        by z t k (inl h) = inl h
        by z t k (inr p) = last (step_into z (operand f t ∷ []) (step z (operand f t)) (is z (operand f t)) k p.1)
          where
            last : True (has (operand f t ∷ []) x) ⊎ ((x ≢ z) × True (k AtEnd)) → True (has xs x) ⊎ ((x ≢ z) × True (k AtEnd))
            last (inl h) = absurd (not_of_one x (operand f t) p.0 h)
            last (inr q) = inr q

    two_reads : (f g : Lowered) (xs ys : List ℕ) (step : ℕ → ℕ → ℕ → Stmt) → ((z a b : ℕ) → flow_of (step z a b) ≡ sets z (a ∷ b ∷ [])) → Reads' f xs → Reads' g ys → Reads' (of_two apart f g step) (xs ++ ys)
    two_reads f g xs ys step is hf hg = record {
      places = λ y e. absurd cc;
      into = λ z t k l.
          let last = step z (operand f t) (operand g (next f t)) in
          by z t k (before_into f t xs hf.places hf.into _ (subst True (live_append (before f t) (before g (next f t) ++ last ∷ []) k) l));
    }
      where
        by : (z t : ℕ) (k : Exit → Bool) → True (has xs x) ⊎ ((x ≢ operand f t) × True (live (before g (next f t) ++ step z (operand f t) (operand g (next f t)) ∷ []) k)) → True (has (xs ++ ys) x) ⊎ ((x ≢ z) × True (k AtEnd))
        by z t k (inl h) = inl (has_append xs ys x (inl h))
        by z t k (inr p) = second (before_into g (next f t) ys hg.places hg.into _ (subst True (live_append (before g (next f t)) (step z (operand f t) (operand g (next f t)) ∷ []) k) p.1))
          where
            second : True (has ys x) ⊎ ((x ≢ operand g (next f t)) × True (live (step z (operand f t) (operand g (next f t)) ∷ []) k)) → True (has (xs ++ ys) x) ⊎ ((x ≢ z) × True (k AtEnd))
            second (inl h) = inl (has_append xs ys x (inr h))
            second (inr q) = last (step_into z (operand f t ∷ operand g (next f t) ∷ []) (step z (operand f t) (operand g (next f t))) (is z (operand f t) (operand g (next f t))) k q.1)
              where
                last : True (has (operand f t ∷ operand g (next f t) ∷ []) x) ⊎ ((x ≢ z) × True (k AtEnd)) → True (has (xs ++ ys) x) ⊎ ((x ≢ z) × True (k AtEnd))
                last (inl h) = either (or_true (x == operand f t) (has (operand g (next f t) ∷ []) x) h)
                  where
                    either : True (x == operand f t) ⊎ True (has (operand g (next f t) ∷ []) x) → True (has (xs ++ ys) x) ⊎ ((x ≢ z) × True (k AtEnd))
                    either (inl h) = absurd (not_of_one x (operand f t) p.0 (left_true (x == operand f t) false h))
                    either (inr h) = absurd (not_of_one x (operand g (next f t)) q.0 h)
                last (inr r) = inr r

    abbrev Reading : Expr → Type 0
    Reading e = Reads' (lower apart e) (variables_read e)

    reads_at : (y : Expr-F Expr) → Reads' (lower_layer apart (map-Expr Expr Lowered (lower apart) y)) (read_layer (map-Expr Expr (List ℕ) variables_read y)) → Reading (roll-Expr y)
    reads_at y h = subst (λ f. Reads' f (variables_read (roll-Expr y))) (sym (lower_roll apart y)) (subst (Reads' (lower_layer apart (map-Expr Expr Lowered (lower apart) y))) (sym (read_roll y)) h)

    reading_layer : (y : Expr-F ((e : Expr) × Reading e)) → Reading (roll-Expr (map-Expr ((e : Expr) × Reading e) Expr (λ c. c.0) y))
    reading_layer (expr.Num n) = reads_at (expr.Num n) (record { places = λ y e. absurd cc; into = λ z t. step_into z [] (s.Const z n) (at.flow_const z n) })
    reading_layer (expr.Var y) = reads_at (expr.Var y) (record { places = λ z e. let k : y ≡ z = cc in ap (λ y. has (y ∷ []) x) k; into = λ z t. step_into z (y ∷ []) (s.Move z y) (at.flow_move z y) })
    reading_layer (expr.LoadWord p) = reads_at (expr.LoadWord p.0) (one_reads (lower apart p.0) (variables_read p.0) (λ z y. s.LoadWord z y) at.flow_load_word p.1)
    reading_layer (expr.LoadByte p) = reads_at (expr.LoadByte p.0) (one_reads (lower apart p.0) (variables_read p.0) (λ z y. s.LoadByte z y) at.flow_load_byte p.1)
    reading_layer (expr.Bin o p q) = reads_at (expr.Bin o p.0 q.0) (two_reads (lower apart p.0) (lower apart q.0) (variables_read p.0) (variables_read q.0) (λ z a b. s.Bin o z a b) (at.flow_bin o) p.1 q.1)
    reading_layer (expr.Shift o p n) = reads_at (expr.Shift o p.0 n) (one_reads (lower apart p.0) (variables_read p.0) (λ z y. s.Shift o z y n) (λ z y. at.flow_shift o z y n) p.1)
    reading_layer (expr.Compare o p q) = reads_at (expr.Compare o p.0 q.0) (two_reads (lower apart p.0) (lower apart q.0) (variables_read p.0) (variables_read q.0) (λ z a b. s.Compare o z a b) (at.flow_compare o) p.1 q.1)

    reading_of : (e : Expr) → Reading e
    reading_of = expr_induct Reading reading_layer

    -- ---- rows

    -- where x is live before operands, it is read there, or it is none of them and is live behind
    abbrev IntoAll : List Expr → List ℕ → (Exit → Bool) → Type 0
    IntoAll es xs k = True (has (all_read es) x) ⊎ ((True (has xs x) → ⊥) × True (k AtEnd))

    all_into : (es : List Expr) (t : ℕ) (k : Exit → Bool) → True (live (before_all (map (lower apart) es) t) k) → IntoAll es (operands (map (lower apart) es) t) k
    all_into [] t k h = inr (λ n. absurd cc, h)
    all_into (e ∷ es) t k h =
        by (before_into f t (variables_read e) (reading_of e).places (reading_of e).into _ (subst True (live_append (before f t) rest k) h)) (λ l. all_into es (next f t) k l)
      where
        f : Lowered
        f = lower apart e

        rest : List Stmt
        rest = before_all (map (lower apart) es) (next f t)

        xs : List ℕ
        xs = operands (map (lower apart) es) (next f t)

        by : True (has (variables_read e) x) ⊎ ((x ≢ operand f t) × True (live rest k)) → (True (live rest k) → IntoAll es xs k) → IntoAll (e ∷ es) (operand f t ∷ xs) k
        by (inl h) g = inl (has_append (variables_read e) (all_read es) x (inl h))
        by (inr p) g = more (g p.1)
          where
            more : IntoAll es xs k → IntoAll (e ∷ es) (operand f t ∷ xs) k
            more (inl h) = inl (has_append (variables_read e) (all_read es) x (inr h))
            more (inr q) = inr (λ h. either (or_true (x == operand f t) _ h), q.1)
              where
                either : True (x == operand f t) ⊎ True (has xs x) → ⊥
                either (inl h) = not_of_one x (operand f t) p.0 (left_true (x == operand f t) false h)
                either (inr h) = q.0 h

  -- ---- statements

  module _ (limit base : ℕ) where
    -- A step behind its operands, which reads them and then does the rest. What the operands read is given as the statement has it.
    behind_narrow : (es : List Expr) (t : ℕ) (step : List ℕ → Stmt) (ys : List ℕ) (rest' rest : Flow) → all_read es ≡ ys
        → ((k : Exit → Bool) → live_before x (flow_of (step (row_operands limit base es t))) k ≡ has (row_operands limit base es t) x || live_before x rest' k) → Narrow x rest' rest
        → Narrow x (flow_of (behind limit base es t step)) (Then (reads ys) rest)
    behind_narrow es t step ys rest' rest same is narrow k' k more h =
        subst (λ ys. True (has ys x || live_before x rest k)) same
        (by (all_into p.apart es p.start _ (subst True (live_append first (last ∷ []) k') (subst (λ f. True (live_before x f k')) (at.flow_seq (first ++ last ∷ [])) h))))
      where
        p : Plan
        p = planned limit base es t

        xs : List ℕ
        xs = row_operands limit base es t

        first : List Stmt
        first = row_before limit base es t

        last : Stmt
        last = step xs

        by : IntoAll p.apart es xs (λ e. live_before x (flow_of last) (with_end (k' AtEnd) k')) → True (has (all_read es) x || live_before x rest k)
        by (inl h) = left_true (has (all_read es) x) _ h
        by (inr q) = right_true (has (all_read es) x) _ (after (or_true (has xs x) _ (subst True (is (with_end (k' AtEnd) k')) q.1)))
          where
            exits : (e : Exit) → True (with_end (k' AtEnd) k' e) → True (k e)
            exits AtEnd h = more AtEnd h
            exits AtBreak h = more AtBreak h
            exits AtContinue h = more AtContinue h
            exits AtReturn h = more AtReturn h

            after : True (has xs x) ⊎ True (live_before x rest' (with_end (k' AtEnd) k')) → True (live_before x rest k)
            after (inl h) = absurd (q.0 h)
            after (inr h) = narrow (with_end (k' AtEnd) k') k exits h

    one_read : (e : Expr) → all_read (e ∷ []) ≡ variables_read e
    one_read e = append_none (variables_read e)

    abbrev Narrows : Crep → Type 0
    Narrows a = (t : ℕ) → Narrow x (flow_of (placed limit base a t).stmt) (crep.flow_of a)

    narrow_at : (y : Crep-F Crep) → ((t : ℕ) → Narrow x (flow_of (placed_layer limit base (map-Crep Crep (ℕ → Placed) (placed limit base) y) t).stmt) (crep.flow_layer (map-Crep Crep Flow crep.flow_of y))) → Narrows (roll-Crep y)
    narrow_at y h t =
        subst (λ (f : ℕ → Placed). Narrow x (flow_of (f t).stmt) (crep.flow_of (roll-Crep y))) (sym (placed_roll limit base y))
        (subst (Narrow x (flow_of (placed_layer limit base (map-Crep Crep (ℕ → Placed) (placed limit base) y) t).stmt)) (sym (flow_roll y)) (h t))

    -- by the flow of what a statement becomes
    as_flow : (z : Stmt) (f g : Flow) → flow_of z ≡ f → Narrow x f g → Narrow x (flow_of z) g
    as_flow z f g e h = subst (λ f. Narrow x f g) (sym e) h

    flow_at : (z : Stmt) (f : Flow) → flow_of z ≡ f → (k : Exit → Bool) → live_before x (flow_of z) k ≡ live_before x f k
    flow_at z f e k = ap (λ f. live_before x f k) e

    all_narrow : (all : List ((a : Crep) × Narrows a)) (t : ℕ) → Narrow x (all_in_turn (map flow_of (placed_row limit base (map (placed limit base) (map (λ c. c.0) all)) t).stmts)) (all_in_turn (map crep.flow_of (map (λ c. c.0) all)))
    all_narrow [] t = end_narrow x AtEnd
    all_narrow (p ∷ all) t =
        let a = placed limit base p.0 t in
        let xs = map (λ c. c.0) all in
        then_narrow x (flow_of a.stmt) (all_in_turn (map flow_of (placed_row limit base (map (placed limit base) xs) a.next).stmts)) (crep.flow_of p.0) (all_in_turn (map crep.flow_of xs)) (p.1 t) (all_narrow all a.next)

    -- the steps before a loop's test, behind other statements, and the test
    test_narrow : (e : Expr) (t : ℕ) (ss : List Stmt) (f : Flow) → Narrow x (all_in_turn (map flow_of ss)) f
        → Narrow x (Then (all_in_turn (map flow_of (ss ++ row_before limit base (e ∷ []) t))) (reads (nth 0 (row_operands limit base (e ∷ []) t) ∷ []))) (Then f (reads (variables_read e)))
    test_narrow e t ss f narrow k' k more h =
        narrow (with_end (live rest tested) tested) (with_end (has (variables_read e) x || k AtEnd) k) exits (subst True (live_append ss rest tested) h)
      where
        p : Plan
        p = planned limit base (e ∷ []) t

        rest : List Stmt
        rest = row_before limit base (e ∷ []) t

        xs : List ℕ
        xs = row_operands limit base (e ∷ []) t

        tested : Exit → Bool
        tested = with_end (has xs x || k' AtEnd) k'

        at_end : IntoAll p.apart (e ∷ []) xs tested → True (has (variables_read e) x || k AtEnd)
        at_end (inl h) = left_true (has (variables_read e) x) _ (subst (λ ys. True (has ys x)) (one_read e) h)
        at_end (inr q) = right_true (has (variables_read e) x) _ (after (or_true (has xs x) _ q.1))
          where
            after : True (has xs x) ⊎ True (k' AtEnd) → True (k AtEnd)
            after (inl h) = absurd (q.0 h)
            after (inr h) = more AtEnd h

        exits : (z : Exit) → True (with_end (live rest tested) tested z) → True (with_end (has (variables_read e) x || k AtEnd) k z)
        exits AtEnd h = at_end (all_into p.apart (e ∷ []) p.start tested h)
        exits AtBreak h = more AtBreak h
        exits AtContinue h = more AtContinue h
        exits AtReturn h = more AtReturn h

    assign_narrow : (z : ℕ) (e : Expr) (t : ℕ) → let p = planned limit base (e ∷ []) t in let ss = (lower p.apart e).into z p.start in Narrow x (all_in_turn (map flow_of ss)) (sets z (variables_read e))
    assign_narrow z e t k' k more h = by ((reading_of p.apart e).into z p.start k' h)
      where
        p : Plan
        p = planned limit base (e ∷ []) t

        by : True (has (variables_read e) x) ⊎ ((x ≢ z) × True (k' AtEnd)) → True (has (variables_read e) x || (not (has (z ∷ []) x) && k AtEnd))
        by (inl h) = left_true (has (variables_read e) x) _ h
        by (inr q) = right_true (has (variables_read e) x) _ (last (has (z ∷ []) x) refl)
          where
            last : (b : Bool) → has (z ∷ []) x ≡ b → True (not b && k AtEnd)
            last true h = absurd (not_of_one x z q.0 h)
            last false h = more AtEnd q.1

    narrow_layer : (y : Crep-F ((a : Crep) × Narrows a)) → Narrows (roll-Crep (map-Crep ((a : Crep) × Narrows a) Crep (λ c. c.0) y))
    narrow_layer c.Skip = narrow_at c.Skip (λ t. as_flow s.Skip _ (Ends AtEnd) at.flow_skip (end_narrow x AtEnd))
    narrow_layer (c.Seq all) = narrow_at (c.Seq (map (λ c. c.0) all)) (λ t. let ss = (placed_row limit base (map (placed limit base) (map (λ c. c.0) all)) t).stmts in as_flow (s.Seq ss) _ (all_in_turn (map crep.flow_of (map (λ c. c.0) all))) (at.flow_seq ss) (all_narrow all t))
    narrow_layer (c.Assign z e) = narrow_at (c.Assign z e) (λ t. let p = planned limit base (e ∷ []) t in let ss = (lower p.apart e).into z p.start in as_flow (s.Seq ss) _ (sets z (variables_read e)) (at.flow_seq ss) (assign_narrow z e t))
    narrow_layer (c.StoreWord a e) = narrow_at (c.StoreWord a e) (λ t. let xs = row_operands limit base (a ∷ e ∷ []) t in
        behind_narrow (a ∷ e ∷ []) t (λ xs. s.StoreWord (nth 0 xs) (nth 1 xs)) (all_read (a ∷ e ∷ [])) (Ends AtEnd) (Ends AtEnd) refl (flow_at (s.StoreWord (nth 0 xs) (nth 1 xs)) _ (at.flow_store_word (nth 0 xs) (nth 1 xs))) (end_narrow x AtEnd))
    narrow_layer (c.StoreByte a e) = narrow_at (c.StoreByte a e) (λ t. let xs = row_operands limit base (a ∷ e ∷ []) t in
        behind_narrow (a ∷ e ∷ []) t (λ xs. s.StoreByte (nth 0 xs) (nth 1 xs)) (all_read (a ∷ e ∷ [])) (Ends AtEnd) (Ends AtEnd) refl (flow_at (s.StoreByte (nth 0 xs) (nth 1 xs)) _ (at.flow_store_byte (nth 0 xs) (nth 1 xs))) (end_narrow x AtEnd))
    narrow_layer (c.If e p q) = narrow_at (c.If e p.0 q.0) (λ t.
        let z = nth 0 (row_operands limit base (e ∷ []) t) in
        let from = (planned limit base (e ∷ []) t).next in
        let first = placed limit base p.0 from in
        let second = placed limit base q.0 first.next in
        behind_narrow (e ∷ []) t (λ xs. s.If (nth 0 xs) first.stmt second.stmt) (variables_read e) (Either (flow_of first.stmt) (flow_of second.stmt)) (Either (crep.flow_of p.0) (crep.flow_of q.0)) (one_read e)
        (flow_at (s.If z first.stmt second.stmt) _ (at.flow_if z first.stmt second.stmt)) (either_narrow x (flow_of first.stmt) (flow_of second.stmt) (crep.flow_of p.0) (crep.flow_of q.0) (p.1 from) (q.1 first.next)))
    narrow_layer (c.While all e p) = narrow_at (c.While (map (λ c. c.0) all) e p.0) (λ t.
        let xs = map (λ c. c.0) all in
        let r = placed_row limit base (map (placed limit base) xs) t in
        let more = row_before limit base (e ∷ []) r.next in
        let z = nth 0 (row_operands limit base (e ∷ []) r.next) in
        let from = (planned limit base (e ∷ []) r.next).next in
        let body = (placed limit base p.0 from).stmt in
        as_flow (s.While [] (r.stmts ++ more) z body) _ (Loop (Then (all_in_turn (map crep.flow_of xs)) (reads (variables_read e))) (crep.flow_of p.0)) (at.flow_while [] (r.stmts ++ more) z body)
        (loop_narrow x (Then (all_in_turn (map flow_of (r.stmts ++ more))) (reads (z ∷ []))) (flow_of body) (Then (all_in_turn (map crep.flow_of xs)) (reads (variables_read e))) (crep.flow_of p.0)
        (test_narrow e r.next r.stmts (all_in_turn (map crep.flow_of xs)) (all_narrow all t)) (p.1 from)))
    narrow_layer c.Break = narrow_at c.Break (λ t. as_flow s.Break _ (Ends AtBreak) at.flow_break (end_narrow x AtBreak))
    narrow_layer c.Continue = narrow_at c.Continue (λ t. as_flow s.Continue _ (Ends AtContinue) at.flow_continue (end_narrow x AtContinue))
    narrow_layer (c.Call results f es None) = narrow_at (c.Call results f es None) (λ t. let xs = row_operands limit base es t in
        behind_narrow es t (λ xs. s.Call [] results f xs None) (all_read es) (Does (Leaves results)) (Does (Leaves results)) refl (flow_at (s.Call [] results f xs None) _ (at.flow_call [] results f xs None)) (leaves_narrow x results))
    narrow_layer (c.Call results f es (Some h)) = narrow_at (c.Call results f es (Some (record { exception = h.exception; variables = h.variables; body = h.body.0 }))) (λ t.
        let xs = row_operands limit base es t in
        let from = (planned limit base es t).next in
        let body = (placed limit base h.body.0 from).stmt in
        let h2 : Option (Handler Stmt) = Some (record { exception = h.exception; variables = h.variables; body = body }) in
        let takes : Flow = Does (Leaves h.variables) in
        behind_narrow es t (λ xs. s.Call [] results f xs h2) (all_read es) (Either (Does (Leaves results)) (Then takes (flow_of body))) (Either (Does (Leaves results)) (Then takes (crep.flow_of h.body.0))) refl
        (flow_at (s.Call [] results f xs h2) _ (at.flow_call [] results f xs h2))
        (either_narrow x (Does (Leaves results)) (Then takes (flow_of body)) (Does (Leaves results)) (Then takes (crep.flow_of h.body.0)) (leaves_narrow x results)
        (then_narrow x takes (flow_of body) takes (crep.flow_of h.body.0) (leaves_narrow x h.variables) (h.body.1 from))))
    narrow_layer (c.TailCall f es) = narrow_at (c.TailCall f es) (λ t. let xs = row_operands limit base es t in
        behind_narrow es t (λ xs. s.TailCall f xs) (all_read es) (Ends AtReturn) (Ends AtReturn) refl (flow_at (s.TailCall f xs) _ (at.flow_tail_call f xs)) (end_narrow x AtReturn))
    narrow_layer (c.Return es) = narrow_at (c.Return es) (λ t. let xs = row_operands limit base es t in
        behind_narrow es t (λ xs. s.Return xs) (all_read es) (Ends AtReturn) (Ends AtReturn) refl (flow_at (s.Return xs) _ (at.flow_return xs)) (end_narrow x AtReturn))
    narrow_layer (c.Raise i es) = narrow_at (c.Raise i es) (λ t. let xs = row_operands limit base es t in
        behind_narrow es t (λ xs. s.Raise i xs) (all_read es) (Ends AtReturn) (Ends AtReturn) refl (flow_at (s.Raise i xs) _ (at.flow_raise i xs)) (end_narrow x AtReturn))
    narrow_layer (c.SharedLoad size z a) = narrow_at (c.SharedLoad size z a) (λ t. let y = nth 0 (row_operands limit base (a ∷ []) t) in
        behind_narrow (a ∷ []) t (λ xs. s.SharedLoad size z (nth 0 xs)) (variables_read a) (Does (Writes (z ∷ []))) (Does (Writes (z ∷ []))) (one_read a) (λ k. flow_at (s.SharedLoad size z y) _ (at.flow_shared_load size z y) k) (writes_narrow x (z ∷ [])))
    narrow_layer (c.SharedStore size a e) = narrow_at (c.SharedStore size a e) (λ t. let xs = row_operands limit base (a ∷ e ∷ []) t in
        behind_narrow (a ∷ e ∷ []) t (λ xs. s.SharedStore size (nth 0 xs) (nth 1 xs)) (all_read (a ∷ e ∷ [])) (Ends AtEnd) (Ends AtEnd) refl (flow_at (s.SharedStore size (nth 0 xs) (nth 1 xs)) _ (at.flow_shared_store size (nth 0 xs) (nth 1 xs))) (end_narrow x AtEnd))
    narrow_layer (c.Foreign i a b e f) = narrow_at (c.Foreign i a b e f) (λ t. let es = a ∷ b ∷ e ∷ f ∷ [] in let xs = row_operands limit base es t in
        behind_narrow es t (λ xs. s.Foreign [] i (nth 0 xs) (nth 1 xs) (nth 2 xs) (nth 3 xs)) (all_read es) (Does (Leaves [])) (Does (Leaves [])) refl
        (flow_at (s.Foreign [] i (nth 0 xs) (nth 1 xs) (nth 2 xs) (nth 3 xs)) _ (at.flow_foreign [] i (nth 0 xs) (nth 1 xs) (nth 2 xs) (nth 3 xs))) (leaves_narrow x []))

    narrows : (a : Crep) → Narrows a
    narrows = crep_induct Narrows narrow_layer

-- no lowered function reads a variable before it is written
pub lower_written : (f : CrepFun) → IsWritten (crep.flow_of_function f) → IsWritten (flow_of_function (lower_function f))
lower_written f h =
    let entry : Flow = Does (Writes (numbers_from 0 f.params)) in
    let body = (placed (limit_of f) (first_free f) f.body (first_free f)).stmt in
    narrow_written (flow_of_function (lower_function f)) (crep.flow_of_function f)
    (λ x. then_narrow x entry (flow_of body) entry (crep.flow_of f.body) (writes_narrow x (numbers_from 0 f.params)) (narrows x (limit_of f) (first_free f) f.body (first_free f))) h
