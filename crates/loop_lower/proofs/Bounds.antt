-- The variables of a lowered statement stand below the limit.
use Rattle.std.proofs.Common.{◌≡◌, ℕ, suc, ◌+◌, ◌≤◌, ◌<◌, Bool, true, false, List, [], ◌∷◌, ◌++◌, map, Option, Some, None, arith, refl, sym, ap, subst}
use Rattle.std.specs.Prelude.{max}
use Rattle.pan_flow.specs.Functions.{above, variables, all_in_turn}
use Rattle.crep_lang.specs.Needs.{temporaries_layer, temporaries, row_temporaries}
use Rattle.crep_lang.specs.Steps.{expr_layer, expr_steps, row_steps}
use Rattle.crep_lang.specs.Text.{read_layer, variables_read, all_read}
use Rattle.crep_lang.specs.declared.syntax.Expr.{Expr, Expr-F, roll-Expr, map-Expr}
use Rattle.crep_lang.specs.declared.syntax.Expr.TheOpen as expr
use Rattle.loop_lang.specs.Text.{flow_of}
use Rattle.loop_lang.specs.declared.syntax.Stmt.{Stmt}
use Rattle.loop_lang.specs.declared.syntax.Stmt.TheVariants as s
use Rattle.loop_lang.proofs.Equations as at
use Rattle.loop_lower.specs.Lowered.{Lowered, next_of, before, operand, next, before_all, operands, of_one, of_two, lower_layer, lower}
use Rattle.loop_lower.proofs.Layers.{expr_induct, steps_roll, temporaries_roll, read_roll, lower_roll, above_append}

-- the variables of a statement, and of statements one after another, are below this
abbrev pub reach : Stmt → ℕ
reach a = above (variables (flow_of a))

abbrev pub reach_all : List Stmt → ℕ
reach_all ss = above (variables (all_in_turn (map flow_of ss)))

pub reach_append : (ss ts : List Stmt) → reach_all (ss ++ ts) ≡ max (reach_all ss) (reach_all ts)
reach_append [] ts = omega arith
reach_append (a ∷ ss) ts =
    let e = above_append (variables (flow_of a)) (variables (all_in_turn (map flow_of (ss ++ ts)))) in
    let e2 = above_append (variables (flow_of a)) (variables (all_in_turn (map flow_of ss))) in
    let e3 = reach_append ss ts in omega (arith, e, e2, e3)

reach_one : (a : Stmt) → reach_all (a ∷ []) ≡ reach a
reach_one a = let e = above_append (variables (flow_of a)) [] in omega (arith, e)

-- how many temporaries are enough, where results stand apart and where they don't
abbrev pub width_of : Bool → (many few : ℕ) → ℕ
width_of true many few = many
width_of false many few = few

abbrev pub width : Bool → Expr → ℕ
width apart e = width_of apart (expr_steps e) (temporaries e)

abbrev pub row_width : Bool → List Expr → ℕ
row_width apart es = width_of apart (row_steps es) (row_temporaries es)

-- below any bound
module _ (bound : ℕ) where
  -- into x with temporaries from t on, so many of which stand below the bound
  pub record Small (apart : Bool) (f : Lowered) (wide : ℕ) (xs : List ℕ) : Type 0 where
    pub some : 1 ≤ wide
    pub place : above xs ≤ bound → (y : ℕ) → f.place ≡ Some y → y < bound
    pub near : (t : ℕ) → f.spot t < t + wide
    -- where results don't stand apart, each stands first
    pub first : apart ≡ false → (t : ℕ) → f.spot t ≤ t
    pub into : above xs ≤ bound → (x t : ℕ) → x < bound → t + wide ≤ bound → reach_all (f.into x t) ≤ bound

  -- as an operand
  pub record SmallOperand (f : Lowered) (wide t : ℕ) : Type 0 where
    pub here : operand f t < bound
    pub near : next f t ≤ t + wide
    pub before : reach_all (before f t) ≤ bound

  small_operand : (apart : Bool) (f : Lowered) (wide : ℕ) (xs : List ℕ) (t : ℕ) → Small apart f wide xs → above xs ≤ bound → t + wide ≤ bound → SmallOperand f wide t
  small_operand apart f wide xs t h r le = by f.place (h.place r)
    where
      by : (o : Option ℕ) → ((y : ℕ) → o ≡ Some y → y < bound) → SmallOperand (record f { place = o }) wide t
      by None p = let n = h.near t in record { here = omega (arith, n, le); near = n; before = h.into r (f.spot t) t (omega (arith, n, le)) le }
      by (Some y) p = record { here = p y refl; near = omega arith; before = omega arith }

  next_first : (f : Lowered) → ((t : ℕ) → f.spot t ≤ t) → (t : ℕ) → next f t ≤ suc t
  next_first f h t = by f.place
    where
      by : (o : Option ℕ) → next_of o t (f.spot t) ≤ suc t
      by None = let l = h t in omega (arith, l)
      by (Some y) = omega arith

  next_near : (apart : Bool) (f : Lowered) (wide : ℕ) (xs : List ℕ) → Small apart f wide xs → (t : ℕ) → next f t ≤ t + wide
  next_near apart f wide xs h t = by f.place
    where
      by : (o : Option ℕ) → next_of o t (f.spot t) ≤ t + wide
      by None = h.near t
      by (Some y) = omega arith

  -- a step that reads these and writes that
  one_reach : (a : Stmt) (x y : ℕ) → above (variables (flow_of a)) ≡ above (y ∷ x ∷ []) → x < bound → y < bound → reach_all (a ∷ []) ≤ bound
  one_reach a x y e l m = let k = reach_one a in omega (arith, e, k, l, m)

  two_reach : (a : Stmt) (x y z : ℕ) → above (variables (flow_of a)) ≡ above (y ∷ z ∷ x ∷ []) → x < bound → y < bound → z < bound → reach_all (a ∷ []) ≤ bound
  two_reach a x y z e l m n = let k = reach_one a in omega (arith, e, k, l, m, n)

  module _ (f : Lowered) (xs : List ℕ) (own : ℕ) (step : ℕ → ℕ → Stmt) (sets : (x y : ℕ) → above (variables (flow_of (step x y))) ≡ above (y ∷ x ∷ [])) where
    one_into : (apart : Bool) (wide all : ℕ) → Small apart f wide xs → wide ≤ all → above xs ≤ bound → (x t : ℕ) → x < bound → t + all ≤ bound → reach_all ((of_one apart f step).into x t) ≤ bound
    one_into apart wide all h le r x t l m =
        let g = small_operand apart f wide xs t h r (omega (arith, le, m)) in
        let e = reach_append (before f t) (step x (operand f t) ∷ []) in
        let a = g.before in let b = one_reach (step x (operand f t)) x (operand f t) (sets x (operand f t)) l g.here in omega (arith, e, a, b)

    one_small : (apart : Bool) (many few : ℕ) → 1 ≤ own → Small apart f (width_of apart many few) xs → Small apart (of_one apart f step) (width_of apart (own + many) few) xs
    one_small true many few o h = record {
      some = omega (arith, o);
      place = λ r y e. absurd cc;
      near = λ t. let n = next_near true f many xs h t in omega (arith, n, o);
      first = λ e. absurd cc;
      into = one_into true many (own + many) h (omega arith);
    }
    one_small false many few o h = record {
      some = h.some;
      place = λ r y e. absurd cc;
      near = λ t. let n = h.some in omega (arith, n);
      first = λ e t. omega arith;
      into = one_into false few few h (omega arith);
    }

  module _ (f g : Lowered) (xs ys : List ℕ) (own : ℕ) (step : ℕ → ℕ → ℕ → Stmt) (sets : (x y z : ℕ) → above (variables (flow_of (step x y z))) ≡ above (y ∷ z ∷ x ∷ [])) where
    two_into : (apart : Bool) (k l all : ℕ) → Small apart f k xs → Small apart g l ys → above (xs ++ ys) ≤ bound → (x t : ℕ) → x < bound → t + all ≤ bound → k ≤ all → next f t + l ≤ t + all → reach_all ((of_two apart f g step).into x t) ≤ bound
    two_into apart k l all hf hg r x t le m first second =
        let p = above_append xs ys in
        let a = small_operand apart f k xs t hf (omega (arith, r, p)) (omega (arith, m, first)) in
        let b = small_operand apart g l ys (next f t) hg (omega (arith, r, p)) (omega (arith, m, second)) in
        let last = step x (operand f t) (operand g (next f t)) in
        let e = reach_append (before f t) (before g (next f t) ++ last ∷ []) in
        let e2 = reach_append (before g (next f t)) (last ∷ []) in
        let h1 = a.before in let h2 = b.before in let h3 = two_reach last x (operand f t) (operand g (next f t)) (sets x (operand f t) (operand g (next f t))) le a.here b.here in
        omega (arith, e, e2, h1, h2, h3)

    two_small : (apart : Bool) (many few many2 few2 : ℕ) → 1 ≤ own → Small apart f (width_of apart many few) xs → Small apart g (width_of apart many2 few2) ys
        → Small apart (of_two apart f g step) (width_of apart (own + many + many2) (max few (1 + few2))) (xs ++ ys)
    two_small true many few many2 few2 o hf hg = record {
      some = omega (arith, o);
      place = λ r y e. absurd cc;
      near = λ t. let n = next_near true f many xs hf t in let m = next_near true g many2 ys hg (next f t) in omega (arith, n, m, o);
      first = λ e. absurd cc;
      into = λ r x t l m. let n = next_near true f many xs hf t in two_into true many many2 (own + many + many2) hf hg r x t l m (omega arith) (omega (arith, n));
    }
    two_small false many few many2 few2 o hf hg = record {
      some = omega arith;
      place = λ r y e. absurd cc;
      near = λ t. omega arith;
      first = λ e t. omega arith;
      into = λ r x t l m. let n = next_first f (hf.first refl) t in two_into false few few2 (max few (1 + few2)) hf hg r x t l m (omega arith) (omega (arith, n));
    }

  module _ (apart : Bool) where
    abbrev IsSmall : Expr → Type 0
    IsSmall e = Small apart (lower apart e) (width apart e) (variables_read e)

    small_at : (y : Expr-F Expr) → Small apart (lower_layer apart (map-Expr Expr Lowered (lower apart) y)) (width_of apart (expr_layer (map-Expr Expr ℕ expr_steps y)) (temporaries_layer (map-Expr Expr ℕ temporaries y))) (read_layer (map-Expr Expr (List ℕ) variables_read y)) → IsSmall (roll-Expr y)
    small_at y h =
        let e = roll-Expr y in
        subst (λ f. Small apart f (width apart e) (variables_read e)) (sym (lower_roll apart y))
        (let f = lower_layer apart (map-Expr Expr Lowered (lower apart) y) in
        subst (λ k. Small apart f (width_of apart k (temporaries e)) (variables_read e)) (sym (steps_roll y))
        (let k = expr_layer (map-Expr Expr ℕ expr_steps y) in
        subst (λ l. Small apart f (width_of apart k l) (variables_read e)) (sym (temporaries_roll y))
        (subst (Small apart f (width_of apart k (temporaries_layer (map-Expr Expr ℕ temporaries y)))) (sym (read_roll y)) h)))

    one_wide : (apart : Bool) → width_of apart 1 1 ≡ 1
    one_wide true = refl
    one_wide false = refl

    small_layer : (y : Expr-F ((e : Expr) × IsSmall e)) → IsSmall (roll-Expr (map-Expr ((e : Expr) × IsSmall e) Expr (λ c. c.0) y))
    small_layer (expr.Num n) = small_at (expr.Num n) (let o = one_wide apart in record {
      some = omega (arith, o);
      place = λ r y e. absurd cc;
      near = λ t. omega (arith, o);
      first = λ e t. omega arith;
      into = λ r x t l m. let k = reach_one (s.Const x n) in let e = ap (λ f. above (variables f)) (at.flow_const x n) in omega (arith, k, e, l);
    })
    small_layer (expr.Var z) = small_at (expr.Var z) (let o = one_wide apart in record {
      some = omega (arith, o);
      place = λ r y e. let k : z ≡ y = cc in omega (arith, k, r);
      near = λ t. omega (arith, o);
      first = λ e t. omega arith;
      into = λ r x t l m. let k = reach_one (s.Move x z) in let e = ap (λ f. above (variables f)) (at.flow_move x z) in omega (arith, k, e, l, r);
    })
    small_layer (expr.LoadWord p) = small_at (expr.LoadWord p.0) (one_small (lower apart p.0) (variables_read p.0) 1 (λ x y. s.LoadWord x y) (λ x y. ap (λ f. above (variables f)) (at.flow_load_word x y)) apart (expr_steps p.0) (temporaries p.0) (omega arith) p.1)
    small_layer (expr.LoadByte p) = small_at (expr.LoadByte p.0) (one_small (lower apart p.0) (variables_read p.0) 1 (λ x y. s.LoadByte x y) (λ x y. ap (λ f. above (variables f)) (at.flow_load_byte x y)) apart (expr_steps p.0) (temporaries p.0) (omega arith) p.1)
    small_layer (expr.Bin o p q) = small_at (expr.Bin o p.0 q.0) (two_small (lower apart p.0) (lower apart q.0) (variables_read p.0) (variables_read q.0) 1 (λ x y z. s.Bin o x y z) (λ x y z. ap (λ f. above (variables f)) (at.flow_bin o x y z)) apart (expr_steps p.0) (temporaries p.0) (expr_steps q.0) (temporaries q.0) (omega arith) p.1 q.1)
    small_layer (expr.Shift o p n) = small_at (expr.Shift o p.0 n) (one_small (lower apart p.0) (variables_read p.0) 3 (λ x y. s.Shift o x y n) (λ x y. ap (λ f. above (variables f)) (at.flow_shift o x y n)) apart (expr_steps p.0) (temporaries p.0) (omega arith) p.1)
    small_layer (expr.Compare o p q) = small_at (expr.Compare o p.0 q.0) (two_small (lower apart p.0) (lower apart q.0) (variables_read p.0) (variables_read q.0) 3 (λ x y z. s.Compare o x y z) (λ x y z. ap (λ f. above (variables f)) (at.flow_compare o x y z)) apart (expr_steps p.0) (temporaries p.0) (expr_steps q.0) (temporaries q.0) (omega arith) p.1 q.1)

    pub small : (e : Expr) → IsSmall e
    small = expr_induct IsSmall small_layer

  -- ---- rows

  pub record SmallRow (ss : List Stmt) (xs : List ℕ) : Type 0 where
    pub steps : reach_all ss ≤ bound
    pub operands : above xs ≤ bound

  row_next : (apart : Bool) (e : Expr) (es : List Expr) (t : ℕ) → next (lower apart e) t + row_width apart es ≤ t + row_width apart (e ∷ es)
  row_next true e es t = let n = next_near true (lower true e) (expr_steps e) (variables_read e) (small true e) t in omega (arith, n)
  row_next false e es t = let n = next_first (lower false e) ((small false e).first refl) t in omega (arith, n)

  pub row_first : (apart : Bool) (e : Expr) (es : List Expr) → width apart e ≤ row_width apart (e ∷ es)
  row_first true e es = omega arith
  row_first false e es = omega arith

  pub all_small : (apart : Bool) (es : List Expr) (t : ℕ) → above (all_read es) ≤ bound → t + row_width apart es ≤ bound → SmallRow (before_all (map (lower apart) es) t) (operands (map (lower apart) es) t)
  all_small apart [] t r le = record { steps = omega arith; operands = omega arith }
  all_small apart (e ∷ es) t r le =
      let f = lower apart e in
      let p = above_append (variables_read e) (all_read es) in
      let k = row_first apart e es in let n = row_next apart e es t in
      let one = small_operand apart f (width apart e) (variables_read e) t (small apart e) (omega (arith, r, p)) (omega (arith, le, k)) in
      let others = all_small apart es (next f t) (omega (arith, r, p)) (omega (arith, le, n)) in
      let e = reach_append (before f t) (before_all (map (lower apart) es) (next f t)) in
      let a = one.before in let b = one.here in let c = others.steps in let d = others.operands in
      record { steps = omega (arith, e, a, c); operands = omega (arith, b, d) }
