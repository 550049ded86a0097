-- The steps of an expression compute its word.
use Rattle.std.proofs.Common.{◌≡◌, ◌≢◌, ℕ, ◌+◌, ◌*◌, ◌≤◌, ◌<◌, Bool, true, false, List, [], ◌∷◌, ◌++◌, map, Option, Some, None, arith, refl, sym, ap, subst, ◌∙◌}
use Rattle.std.specs.Prelude.{option_map}
use Rattle.std.proofs.lemmas.List.{map-append}
use Rattle.pan_base.specs.declared.events.Size.{Size}
use Rattle.pan_base.specs.declared.events.Size.TheVariants.{B1, B8}
use Rattle.pan_base.specs.Words.{operate, shift, truth}
use Rattle.pan_control.specs.Control.{Normal, and_then, in_turn, with_value}
use Rattle.pan_flow.specs.Functions.{above}
use Rattle.pan_stage.specs.Data.{World, Callee, Meaning, read, with_read}
use Rattle.pan_stage.specs.Locals.{Locals, write}
use Rattle.pan_stage.specs.Toll.{stepped, instructions_in_step}
use Rattle.pan_stage.proofs.Agreeing.{Agree, write_same, write_other}
use Rattle.pan_stage.proofs.Rows.{in_turn_append, then_normal}
use Rattle.pan_stage.proofs.Words.{done}
use Rattle.crep_lang.specs.Meaning.{Giving, word_layer, word}
use Rattle.crep_lang.specs.Steps.{expr_layer, expr_steps}
use Rattle.crep_lang.specs.Text.{read_layer, variables_read}
use Rattle.crep_lang.specs.declared.syntax.Expr.{Expr, Expr-F, roll-Expr, map-Expr}
use Rattle.crep_lang.specs.declared.syntax.Expr.TheOpen as expr
use Rattle.loop_lang.specs.Meaning.{run}
use Rattle.loop_lang.specs.declared.syntax.Stmt.{Stmt}
use Rattle.loop_lang.specs.declared.syntax.Stmt.TheVariants as s
use Rattle.loop_lang.proofs.Equations.{run_const, run_move, run_bin, run_shift, run_compare, run_load_word, run_load_byte}
use Rattle.loop_lower.specs.Lowered.{Lowered, next_of, before, operand, next, spot_of, of_one, of_two, lower_layer, lower}
use Rattle.loop_lower.proofs.Layers.{expr_induct, word_roll, steps_roll, read_roll, lower_roll, map_some, then_some, above_append}

-- so much is done after so many steps
abbrev pub after : ℕ → ℕ → ℕ
after t n = t + instructions_in_step * n

-- a spot is the first temporary or behind the operands
pub spot_grows : (apart : Bool) (behind t : ℕ) → t ≤ behind → t ≤ spot_of apart behind t
spot_grows true behind t l = l
spot_grows false behind t l = omega arith

module _ (names : List (List ℕ)) (d : ℕ) (callee : Callee (List ℕ) (List ℕ)) (count : ℕ) where
  abbrev pub runs : List Stmt → Meaning Locals (List ℕ)
  runs ss = in_turn (map (run names d callee) ss)

  pub runs_on : (ss ts : List Stmt) (u u' : Locals) (w w' : World) → runs ss u w ≡ Normal u' w' → runs (ss ++ ts) u w ≡ runs ts u' w'
  runs_on ss ts u u' w w' h =
      ap (λ ms. in_turn ms u w) (map-append (run names d callee) ss ts)
      ∙ in_turn_append (map (run names d callee) ss) (map (run names d callee) ts) u w
      ∙ ap (λ o. and_then o (runs ts)) h

  -- Steps have run within so many steps: a variable has the word n, and those below `low` but for `but` are as they were.
  pub record Ran (ss : List Stmt) (steps x n low but : ℕ) (u : Locals) (did : ℕ) (w : World) : Type 0 where
    pub behind : Locals
    pub now : ℕ
    pub within : now ≤ after did steps
    pub is : runs ss u (done did w) ≡ Normal behind (done now w)
    pub gives : behind x ≡ n
    pub rest : (y : ℕ) → y < low → y ≢ but → behind y ≡ u y

  -- from variables that agree with v, the steps compute the word n
  pub record Gives (f : Lowered) (steps : ℕ) (v : Locals) (gs m : List ℕ) (n : ℕ) : Type 0 where
    pub place : (x : ℕ) → f.place ≡ Some x → (x < count) × (v x ≡ n)
    pub spots : (t : ℕ) → t ≤ f.spot t
    pub into : (x t : ℕ) (u : Locals) (did : ℕ) (w : World) → count ≤ t → w.globals ≡ gs → w.memory ≡ m → Agree count v u → Ran (f.into x t) steps x n t x u did w

  -- ---- operands

  -- the same of an operand, which stands below the next temporary
  pub record Stands (f : Lowered) (steps t n : ℕ) (u : Locals) (did : ℕ) (w : World) : Type 0 where
    pub behind : Locals
    pub now : ℕ
    pub within : now ≤ after did steps
    pub is : runs (before f t) u (done did w) ≡ Normal behind (done now w)
    pub gives : behind (operand f t) ≡ n
    pub rest : (y : ℕ) → y < t → behind y ≡ u y
    pub below : operand f t < next f t
    pub grows : t ≤ next f t

  pub stands : (f : Lowered) (steps : ℕ) (v : Locals) (gs m : List ℕ) (n t : ℕ) (u : Locals) (did : ℕ) (w : World) → Gives f steps v gs m n → count ≤ t → w.globals ≡ gs → w.memory ≡ m → Agree count v u → Stands f steps t n u did w
  stands f steps v gs m n t u did w g le gl is a = by f.place g.place
    where
      by : (o : Option ℕ) → ((x : ℕ) → o ≡ Some x → (x < count) × (v x ≡ n)) → Stands (record f { place = o }) steps t n u did w
      by None h = let fr = g.spots t in let r = g.into (f.spot t) t u did w le gl is a in record {
        behind = r.behind;
        now = r.now;
        within = r.within;
        is = r.is;
        gives = r.gives;
        rest = λ y l. r.rest y l (λ e. omega (arith, l, e, fr));
        below = omega arith;
        grows = omega (arith, fr);
      }
      by (Some x) h = let k = h x refl in record {
        behind = u;
        now = did;
        within = omega arith;
        is = refl;
        gives = a.at x k.0 ∙ k.1;
        rest = λ y l. refl;
        below = let l = k.0 in omega (arith, l, le);
        grows = omega arith;
      }

  next_grows : (f : Lowered) → ((t : ℕ) → t ≤ f.spot t) → (t : ℕ) → t ≤ next f t
  next_grows f h t = by f.place
    where
      by : (o : Option ℕ) → t ≤ next_of o t (f.spot t)
      by None = let l = h t in omega (arith, l)
      by (Some x) = omega arith

  -- ---- the two forms of operations

  module _ (apart : Bool) where
    one_gives : (f : Lowered) (cost own : ℕ) (step : ℕ → ℕ → Stmt) (v : Locals) (gs m : List ℕ) (a n : ℕ) → Gives f cost v gs m a
        → ((x y : ℕ) (u : Locals) (w : World) → w.globals ≡ gs → w.memory ≡ m → u y ≡ a → run names d callee (step x y) u w ≡ Normal (write x n u) (stepped own w))
        → Gives (of_one apart f step) (own + cost) v gs m n
    one_gives f cost own step v gs m a n g does = record {
      place = λ x e. absurd cc;
      spots = λ t. spot_grows apart (next f t) t (next_grows f g.spots t);
      into = λ x t u did w le gl is ag.
          let r = stands f cost v gs m a t u did w g le gl is ag in
          record {
            behind = write x n r.behind;
            now = after r.now own;
            within = let l = r.within in omega (arith, l);
            is = runs_on (before f t) (step x (operand f t) ∷ []) u r.behind (done did w) (done r.now w) r.is
                ∙ then_normal (run names d callee (step x (operand f t)) r.behind (done r.now w)) ∙ does x (operand f t) r.behind (done r.now w) gl is r.gives;
            gives = write_same x n r.behind;
            rest = λ y l ne. write_other x n y r.behind ne ∙ r.rest y l;
          };
    }

    two_gives : (f g : Lowered) (cost cost2 own : ℕ) (step : ℕ → ℕ → ℕ → Stmt) (v : Locals) (gs m : List ℕ) (a b n : ℕ) → Gives f cost v gs m a → Gives g cost2 v gs m b
        → ((x y z : ℕ) (u : Locals) (w : World) → w.globals ≡ gs → w.memory ≡ m → u y ≡ a → u z ≡ b → run names d callee (step x y z) u w ≡ Normal (write x n u) (stepped own w))
        → Gives (of_two apart f g step) (own + cost + cost2) v gs m n
    two_gives f g cost cost2 own step v gs m a b n gf gg does = record {
      place = λ x e. absurd cc;
      spots = λ t. spot_grows apart (next g (next f t)) t (let a = next_grows f gf.spots t in let b = next_grows g gg.spots (next f t) in omega (arith, a, b));
      into = λ x t u did w le gl is ag.
          let r = stands f cost v gs m a t u did w gf le gl is ag in
          let low = r.grows in
          let q = stands g cost2 v gs m b (next f t) r.behind r.now w gg (omega (arith, le, low)) gl is (record { at = λ y l. r.rest y (omega (arith, l, le)) ∙ ag.at y l }) in
          let last = step x (operand f t) (operand g (next f t)) in
          record {
            behind = write x n q.behind;
            now = after q.now own;
            within = let l = r.within in let l2 = q.within in omega (arith, l, l2);
            is = runs_on (before f t) (before g (next f t) ++ last ∷ []) u r.behind (done did w) (done r.now w) r.is
                ∙ runs_on (before g (next f t)) (last ∷ []) r.behind q.behind (done r.now w) (done q.now w) q.is
                ∙ then_normal (run names d callee last q.behind (done q.now w)) ∙ does x (operand f t) (operand g (next f t)) q.behind (done q.now w) gl is (q.rest (operand f t) r.below ∙ r.gives) q.gives;
            gives = write_same x n q.behind;
            rest = λ y l ne. write_other x n y q.behind ne ∙ q.rest y (omega (arith, l, low)) ∙ r.rest y l;
          };
    }

    -- ---- all expressions

    abbrev pub MeansBy : Giving → Lowered → ℕ → List ℕ → Type 0
    MeansBy g f steps xs = (v : Locals) (gs m : List ℕ) (n : ℕ) → above xs ≤ count → g v gs m ≡ Some n → Gives f steps v gs m n

    abbrev pub Means : Expr → Type 0
    Means e = MeansBy (word e) (lower apart e) (expr_steps e) (variables_read e)

    to_layer : (y : Expr-F Expr) → MeansBy (word_layer (map-Expr Expr Giving word y)) (lower_layer apart (map-Expr Expr Lowered (lower apart) y)) (expr_layer (map-Expr Expr ℕ expr_steps y)) (read_layer (map-Expr Expr (List ℕ) variables_read y)) → Means (roll-Expr y)
    to_layer y h v gs m n le is =
        subst (λ f. Gives f (expr_steps (roll-Expr y)) v gs m n) (sym (lower_roll apart y))
        (subst (λ k. Gives (lower_layer apart (map-Expr Expr Lowered (lower apart) y)) k v gs m n) (sym (steps_roll y))
        (h v gs m n (subst (λ xs. above xs ≤ count) (read_roll y) le) (ap (λ (g : Giving). g v gs m) (sym (word_roll y)) ∙ is)))

    -- a load of this size
    load_does : (size : Size) (x n : ℕ) (u : Locals) (w : World) (gs m : List ℕ) (a b : ℕ) → w.globals ≡ gs → w.memory ≡ m → b ≡ a → read size gs m a ≡ Some n → with_read {X = List ℕ} size b (stepped 1 w) (λ n. Normal (write x n u) (stepped 1 w)) ≡ Normal (write x n u) (stepped 1 w)
    load_does size x n u w gs m a b gl mem e is =
        ap (λ o. with_value o (stepped 1 w) (λ n. Normal (write x n u) (stepped 1 w))) (ap (λ gs. read size gs w.memory b) gl ∙ ap (λ m. read size gs m b) mem ∙ ap (read size gs m) e ∙ is)

    means_layer : (y : Expr-F ((e : Expr) × Means e)) → Means (roll-Expr (map-Expr ((e : Expr) × Means e) Expr (λ c. c.0) y))
    means_layer (expr.Num k) = to_layer (expr.Num k) (λ v gs m n le is. let e : k ≡ n = cc in record {
      place = λ x e. absurd cc;
      spots = λ t. omega arith;
      into = λ x t u did w le gl mem ag. record {
        behind = write x n u;
        now = after did 1;
        within = omega arith;
        is = then_normal (run names d callee (s.Const x k) u (done did w)) ∙ run_const names d callee x k u (done did w) ∙ ap (λ n. Normal (write x n u) (done (after did 1) w)) e;
        gives = write_same x n u;
        rest = λ y l ne. write_other x n y u ne;
      };
    })
    means_layer (expr.Var z) = to_layer (expr.Var z) (λ v gs m n le is. let e : v z ≡ n = cc in record {
      place = λ x is. let k : z ≡ x = cc in (omega (arith, le, k), ap v (sym k) ∙ e);
      spots = λ t. omega arith;
      into = λ x t u did w low gl mem ag. record {
        behind = write x n u;
        now = after did 1;
        within = omega arith;
        is = then_normal (run names d callee (s.Move x z) u (done did w)) ∙ run_move names d callee x z u (done did w) ∙ ap (λ n. Normal (write x n u) (done (after did 1) w)) (ag.at z (omega (arith, le)) ∙ e);
        gives = write_same x n u;
        rest = λ y l ne. write_other x n y u ne;
      };
    })
    means_layer (expr.LoadWord p) = to_layer (expr.LoadWord p.0) (λ v gs m n le is.
        let h = then_some (read B8 gs m) (word p.0 v gs m) n is in
        one_gives (lower apart p.0) (expr_steps p.0) 1 (λ x a. s.LoadWord x a) v gs m h.0 n (p.1 v gs m h.0 le h.1)
        (λ x y u w gl mem e. run_load_word names d callee x y u w ∙ load_does B8 x n u w gs m h.0 (u y) gl mem e h.2))
    means_layer (expr.LoadByte p) = to_layer (expr.LoadByte p.0) (λ v gs m n le is.
        let h = then_some (read B1 gs m) (word p.0 v gs m) n is in
        one_gives (lower apart p.0) (expr_steps p.0) 1 (λ x a. s.LoadByte x a) v gs m h.0 n (p.1 v gs m h.0 le h.1)
        (λ x y u w gl mem e. run_load_byte names d callee x y u w ∙ load_does B1 x n u w gs m h.0 (u y) gl mem e h.2))
    means_layer (expr.Bin o p q) = to_layer (expr.Bin o p.0 q.0) (λ v gs m n le is.
        let h = then_some (λ x. option_map (operate o x) (word q.0 v gs m)) (word p.0 v gs m) n is in
        let k = map_some (operate o h.0) (word q.0 v gs m) n h.2 in
        let r = above_append (variables_read p.0) (variables_read q.0) in
        two_gives (lower apart p.0) (lower apart q.0) (expr_steps p.0) (expr_steps q.0) 1 (λ x a b. s.Bin o x a b) v gs m h.0 k.0 n (p.1 v gs m h.0 (omega (arith, le, r)) h.1) (q.1 v gs m k.0 (omega (arith, le, r)) k.1)
        (λ x y z u w gl mem e f. run_bin names d callee o x y z u w ∙ ap (λ n. Normal (write x n u) (stepped 1 w)) (ap (λ a. operate o a (u z)) e ∙ ap (operate o h.0) f ∙ k.2)))
    means_layer (expr.Shift o p i) = to_layer (expr.Shift o p.0 i) (λ v gs m n le is.
        let h = map_some (λ x. shift o x i) (word p.0 v gs m) n is in
        one_gives (lower apart p.0) (expr_steps p.0) 3 (λ x a. s.Shift o x a i) v gs m h.0 n (p.1 v gs m h.0 le h.1)
        (λ x y u w gl mem e. run_shift names d callee o x y i u w ∙ ap (λ n. Normal (write x n u) (stepped 3 w)) (ap (λ a. shift o a i) e ∙ h.2)))
    means_layer (expr.Compare c p q) = to_layer (expr.Compare c p.0 q.0) (λ v gs m n le is.
        let h = then_some (λ x. option_map (truth c x) (word q.0 v gs m)) (word p.0 v gs m) n is in
        let k = map_some (truth c h.0) (word q.0 v gs m) n h.2 in
        let r = above_append (variables_read p.0) (variables_read q.0) in
        two_gives (lower apart p.0) (lower apart q.0) (expr_steps p.0) (expr_steps q.0) 3 (λ x a b. s.Compare c x a b) v gs m h.0 k.0 n (p.1 v gs m h.0 (omega (arith, le, r)) h.1) (q.1 v gs m k.0 (omega (arith, le, r)) k.1)
        (λ x y z u w gl mem e f. run_compare names d callee c x y z u w ∙ ap (λ n. Normal (write x n u) (stepped 3 w)) (ap (λ a. truth c a (u z)) e ∙ ap (truth c h.0) f ∙ k.2)))

    pub means : (e : Expr) → Means e
    means = expr_induct Means means_layer
