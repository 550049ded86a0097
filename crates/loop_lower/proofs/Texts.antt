-- Lowering keeps the sites of a statement, needs no more code, and mentions nothing that the statement doesn't.
use Rattle.std.proofs.Common.{◌≡◌, ℕ, ◌+◌, ◌≤◌, Bool, true, false, List, [], ◌∷◌, ◌++◌, map, length, Option, Some, None, arith, append_assoc, refl, sym, ap, subst, ◌∙◌}
use Rattle.std.specs.Prelude.{◌&&◌, flat_map}
use Rattle.std.specs.List.{list_all}
use Rattle.std.proofs.lemmas.List.Folds.{list_all-append}
use Rattle.pan_stage.specs.Mentions.{Mention}
use Rattle.pan_stage.specs.Mentions as mention
use Rattle.pan_stage.specs.Stage.{Site}
use Rattle.pan_stage.specs.Stage as site
use Rattle.pan_stage.specs.Sums.{sum_of}
use Rattle.pan_stage.specs.declared.program.Handler.{Handler}
use Rattle.crep_lang.specs.Needs as crep
use Rattle.crep_lang.specs.Steps.{expr_layer, expr_steps}
use Rattle.crep_lang.specs.Text.{mentioned_layer, mentioned, all_mentioned}
use Rattle.crep_lang.specs.Text as crep_text
use Rattle.crep_lang.specs.declared.syntax.Expr.{Expr, Expr-F, roll-Expr, map-Expr}
use Rattle.crep_lang.specs.declared.syntax.Expr.TheOpen as expr
use Rattle.crep_lang.specs.declared.syntax.Stmt.{Stmt as Crep, Stmt-F as Crep-F, roll-Stmt as roll-Crep, map-Stmt as map-Crep}
use Rattle.crep_lang.specs.declared.syntax.Stmt.TheOpen as c
use Rattle.loop_lang.specs.Needs.{code}
use Rattle.loop_lang.specs.Steps as loops
use Rattle.loop_lang.specs.Text.{sites, mentions}
use Rattle.loop_lang.specs.declared.syntax.Stmt.{Stmt}
use Rattle.loop_lang.specs.declared.syntax.Stmt.TheVariants as s
use Rattle.loop_lang.proofs.Equations as at
use Rattle.loop_lower.specs.declared.places.Placed.{Placed}
use Rattle.loop_lower.specs.Lowered.{Lowered, before_of, before, operand, next, before_all, nth, of_one, of_two, lower_layer, lower, planned, row_before, row_operands, behind, placed_row, placed_layer, placed}
use Rattle.loop_lower.proofs.Layers.{expr_induct, steps_roll, mentioned_roll, lower_roll, crep_induct, sites_roll, mentions_roll, code_roll, placed_roll, append_none}
use Rattle.loop_lower.proofs.Operands.{all_steps, row_is, operands_count}

-- ---- statements one after another

abbrev pub all_sites : List Stmt → List Site
all_sites ss = flat_map (λ s. s) (map sites ss)

abbrev pub all_code : List Stmt → ℕ
all_code ss = sum_of (map code ss)

abbrev pub all_mentions : List Stmt → List Mention
all_mentions ss = flat_map (λ s. s) (map mentions ss)

sites_append : (ss ts : List Stmt) → all_sites (ss ++ ts) ≡ all_sites ss ++ all_sites ts
sites_append [] ts = refl
sites_append (a ∷ ss) ts = ap (λ xs. sites a ++ xs) (sites_append ss ts) ∙ sym (append_assoc (sites a) (all_sites ss) (all_sites ts))

code_append : (ss ts : List Stmt) → all_code (ss ++ ts) ≡ all_code ss + all_code ts
code_append [] ts = omega arith
code_append (a ∷ ss) ts = ap (λ n. code a + n) (code_append ss ts) ∙ omega arith

mentions_append : (ss ts : List Stmt) → all_mentions (ss ++ ts) ≡ all_mentions ss ++ all_mentions ts
mentions_append [] ts = refl
mentions_append (a ∷ ss) ts = ap (λ xs. mentions a ++ xs) (mentions_append ss ts) ∙ sym (append_assoc (mentions a) (all_mentions ss) (all_mentions ts))

-- where mentions are right, by any rule
module _ (rule : Mention → Bool) where
  abbrev pub Right : List Mention → Type 0
  Right ms = list_all rule ms ≡ true

  both_true : (a b : Bool) → (a && b) ≡ true → (a ≡ true) × (b ≡ true)
  both_true true b h = (refl, h)
  both_true false b h = absurd cc

  are_true : (a b : Bool) → a ≡ true → b ≡ true → (a && b) ≡ true
  are_true true b h k = k
  are_true false b h k = absurd cc

  pub split : (xs ys : List Mention) → Right (xs ++ ys) → Right xs × Right ys
  split xs ys h = both_true (list_all rule xs) (list_all rule ys) (sym (list_all-append rule xs ys) ∙ h)

  pub join : (xs ys : List Mention) → Right xs → Right ys → Right (xs ++ ys)
  join xs ys h k = list_all-append rule xs ys ∙ are_true (list_all rule xs) (list_all rule ys) h k

  pub split_first : (m : Mention) (ms : List Mention) → Right (m ∷ ms) → Right (m ∷ []) × Right ms
  split_first m ms h = split (m ∷ []) ms h

  -- ---- steps

  -- Steps have no sites, are worth at most so many in code, and what they mention is right where this is.
  pub record Plain (ss : List Stmt) (steps : ℕ) (ms : List Mention) : Type 0 where
    pub sites : all_sites ss ≡ []
    pub code : all_code ss ≤ steps
    pub right : Right ms → Right (all_mentions ss)

  none_plain : (steps : ℕ) (ms : List Mention) → Plain [] steps ms
  none_plain steps ms = record { sites = refl; code = omega arith; right = λ h. refl }

  step_plain : (step : Stmt) (own : ℕ) (ms : List Mention) → sites step ≡ [] → code step ≡ own → mentions step ≡ ms → Plain (step ∷ []) own ms
  step_plain step own ms si co me = record {
    sites = append_none (sites step) ∙ si;
    code = omega (arith, co);
    right = λ h. subst Right (sym (append_none (mentions step) ∙ me)) h;
  }

  then_plain : (ss ts : List Stmt) (k l : ℕ) (ms ns : List Mention) → Plain ss k ms → Plain ts l ns → Plain (ss ++ ts) (k + l) (ms ++ ns)
  then_plain ss ts k l ms ns f g = record {
    sites = sites_append ss ts ∙ ap (λ xs. xs ++ all_sites ts) f.sites ∙ g.sites;
    code = let e = code_append ss ts in let a = f.code in let b = g.code in omega (arith, e, a, b);
    right = λ h. let p = split ms ns h in subst Right (sym (mentions_append ss ts)) (join (all_mentions ss) (all_mentions ts) (f.right p.0) (g.right p.1));
  }

  more_plain : (ss : List Stmt) (k l : ℕ) (ms ns : List Mention) → k ≤ l → (Right ns → Right ms) → Plain ss k ms → Plain ss l ns
  more_plain ss k l ms ns le more h = record { sites = h.sites; code = let a = h.code in omega (arith, a, le); right = λ r. h.right (more r) }

  abbrev IsPlain : Lowered → ℕ → List Mention → Type 0
  IsPlain f steps ms = (d t : ℕ) → Plain (f.into d t) steps ms

  before_plain : (f : Lowered) (steps : ℕ) (ms : List Mention) (t : ℕ) → IsPlain f steps ms → Plain (before f t) steps ms
  before_plain f steps ms t h = by f.place
    where
      by : (p : Option ℕ) → Plain (before_of p (f.into (f.spot t) t)) steps ms
      by None = h (f.spot t) t
      by (Some x) = none_plain steps ms

  module _ (apart : Bool) where
    one_plain : (f : Lowered) (step : ℕ → ℕ → Stmt) (steps own : ℕ) (ms ns all : List Mention) → ((d a : ℕ) → sites (step d a) ≡ []) → ((d a : ℕ) → code (step d a) ≡ own) → ((d a : ℕ) → mentions (step d a) ≡ ns)
        → (Right all → Right ms × Right ns) → IsPlain f steps ms → IsPlain (of_one apart f step) (own + steps) all
    one_plain f step steps own ms ns all si co me more h d t =
        let a = operand f t in
        more_plain (before f t ++ step d a ∷ []) (steps + own) (own + steps) (ms ++ ns) all (omega arith) (λ r. let p = more r in join ms ns p.0 p.1)
        (then_plain (before f t) (step d a ∷ []) steps own ms ns (before_plain f steps ms t h) (step_plain (step d a) own ns (si d a) (co d a) (me d a)))

    two_plain : (f g : Lowered) (step : ℕ → ℕ → ℕ → Stmt) (k l own : ℕ) (ms ns : List Mention) → ((d a b : ℕ) → sites (step d a b) ≡ []) → ((d a b : ℕ) → code (step d a b) ≡ own) → ((d a b : ℕ) → mentions (step d a b) ≡ [])
        → IsPlain f k ms → IsPlain g l ns → IsPlain (of_two apart f g step) (own + k + l) (ms ++ ns)
    two_plain f g step k l own ms ns si co me hf hg d t =
        let a = operand f t in let b = operand g (next f t) in
        let last = step d a b ∷ [] in
        more_plain (before f t ++ (before g (next f t) ++ last)) (k + (l + own)) (own + k + l) (ms ++ (ns ++ [])) (ms ++ ns) (omega arith) (λ r. let p = split ms ns r in join ms (ns ++ []) p.0 (join ns [] p.1 refl))
        (then_plain (before f t) (before g (next f t) ++ last) k (l + own) ms (ns ++ []) (before_plain f k ms t hf)
        (then_plain (before g (next f t)) last l own ns [] (before_plain g l ns (next f t) hg) (step_plain (step d a b) own [] (si d a b) (co d a b) (me d a b))))

    abbrev PlainExpr : Expr → Type 0
    PlainExpr e = IsPlain (lower apart e) (expr_steps e) (mentioned e)

    plain_at : (y : Expr-F Expr) → IsPlain (lower_layer apart (map-Expr Expr Lowered (lower apart) y)) (expr_layer (map-Expr Expr ℕ expr_steps y)) (mentioned_layer (map-Expr Expr (List Mention) mentioned y)) → PlainExpr (roll-Expr y)
    plain_at y h =
        subst (λ f. IsPlain f (expr_steps (roll-Expr y)) (mentioned (roll-Expr y))) (sym (lower_roll apart y))
        (subst (λ k. IsPlain (lower_layer apart (map-Expr Expr Lowered (lower apart) y)) k (mentioned (roll-Expr y))) (sym (steps_roll y))
        (subst (λ ms. IsPlain (lower_layer apart (map-Expr Expr Lowered (lower apart) y)) (expr_layer (map-Expr Expr ℕ expr_steps y)) ms) (sym (mentioned_roll y)) h))

    plain_layer : (y : Expr-F ((e : Expr) × PlainExpr e)) → PlainExpr (roll-Expr (map-Expr ((e : Expr) × PlainExpr e) Expr (λ c. c.0) y))
    plain_layer (expr.Num n) = plain_at (expr.Num n) (λ d t. step_plain (s.Const d n) 1 (mention.Number n ∷ []) (at.sites_const d n) (at.code_const d n) (at.mentions_const d n))
    plain_layer (expr.Var x) = plain_at (expr.Var x) (λ d t. step_plain (s.Move d x) 1 [] (at.sites_move d x) (at.code_move d x) (at.mentions_move d x))
    plain_layer (expr.LoadWord p) = plain_at (expr.LoadWord p.0) (one_plain (lower apart p.0) (λ d a. s.LoadWord d a) (expr_steps p.0) 1 (mentioned p.0) [] (mentioned p.0) at.sites_load_word at.code_load_word at.mentions_load_word (λ r. (r, refl)) p.1)
    plain_layer (expr.LoadByte p) = plain_at (expr.LoadByte p.0) (one_plain (lower apart p.0) (λ d a. s.LoadByte d a) (expr_steps p.0) 1 (mentioned p.0) [] (mentioned p.0) at.sites_load_byte at.code_load_byte at.mentions_load_byte (λ r. (r, refl)) p.1)
    plain_layer (expr.Bin o p q) = plain_at (expr.Bin o p.0 q.0) (two_plain (lower apart p.0) (lower apart q.0) (λ d a b. s.Bin o d a b) (expr_steps p.0) (expr_steps q.0) 1 (mentioned p.0) (mentioned q.0) (at.sites_bin o) (at.code_bin o) (at.mentions_bin o) p.1 q.1)
    plain_layer (expr.Shift o p n) = plain_at (expr.Shift o p.0 n) (one_plain (lower apart p.0) (λ d a. s.Shift o d a n) (expr_steps p.0) 3 (mentioned p.0) (mention.Amount 64 n ∷ []) (mention.Amount 64 n ∷ mentioned p.0)
        (λ d a. at.sites_shift o d a n) (λ d a. at.code_shift o d a n) (λ d a. at.mentions_shift o d a n) (λ r. let k = split_first (mention.Amount 64 n) (mentioned p.0) r in (k.1, k.0)) p.1)
    plain_layer (expr.Compare o p q) = plain_at (expr.Compare o p.0 q.0) (two_plain (lower apart p.0) (lower apart q.0) (λ d a b. s.Compare o d a b) (expr_steps p.0) (expr_steps q.0) 3 (mentioned p.0) (mentioned q.0) (at.sites_compare o) (at.code_compare o) (at.mentions_compare o) p.1 q.1)

    pub plain : (e : Expr) → PlainExpr e
    plain = expr_induct PlainExpr plain_layer

    all_plain : (es : List Expr) (t : ℕ) → Plain (before_all (map (lower apart) es) t) (all_steps es) (all_mentioned es)
    all_plain [] t = none_plain 0 []
    all_plain (e ∷ es) t =
        let f = lower apart e in
        then_plain (before f t) (before_all (map (lower apart) es) (next f t)) (expr_steps e) (all_steps es) (mentioned e) (all_mentioned es) (before_plain f (expr_steps e) (mentioned e) t (plain e)) (all_plain es (next f t))

  -- ---- statements

  -- a statement with these sites, at most so much code, and mentions that are right where these are
  pub record Like (xs : List Site) (k : ℕ) (ms : List Mention) (a : Stmt) : Type 0 where
    pub sites : sites a ≡ xs
    pub code : code a ≤ k
    pub right : Right ms → Right (mentions a)

  module _ (limit base : ℕ) where
    abbrev KeptBy : Crep → (ℕ → Placed) → Type 0
    KeptBy x f = (t : ℕ) → Like (crep_text.sites x) (crep.code x) (crep_text.mentions x) (f t).stmt

    abbrev pub Kept : Crep → Type 0
    Kept x = KeptBy x (placed limit base x)

    like_at : (y : Crep-F Crep) → ((t : ℕ) → Like (crep_text.sites_layer (map-Crep Crep (List Site) crep_text.sites y)) (crep.code_layer (map-Crep Crep ℕ crep.code y)) (crep_text.mentions_layer (map-Crep Crep (List Mention) crep_text.mentions y))
        (placed_layer limit base (map-Crep Crep (ℕ → Placed) (placed limit base) y) t).stmt) → Kept (roll-Crep y)
    like_at y h t =
        let x = roll-Crep y in
        subst (λ (f : ℕ → Placed). Like (crep_text.sites x) (crep.code x) (crep_text.mentions x) (f t).stmt) (sym (placed_roll limit base y))
        (let f = placed_layer limit base (map-Crep Crep (ℕ → Placed) (placed limit base) y) in
        subst (λ xs. Like xs (crep.code x) (crep_text.mentions x) (f t).stmt) (sym (sites_roll y))
        (subst (λ k. Like (crep_text.sites_layer (map-Crep Crep (List Site) crep_text.sites y)) k (crep_text.mentions x) (f t).stmt) (sym (code_roll y))
        (subst (λ ms. Like (crep_text.sites_layer (map-Crep Crep (List Site) crep_text.sites y)) (crep.code_layer (map-Crep Crep ℕ crep.code y)) ms (f t).stmt) (sym (mentions_roll y)) (h t))))

    -- a step as it stands
    step_like : (a : Stmt) (xs : List Site) (k : ℕ) (ms : List Mention) → sites a ≡ xs → code a ≡ k → mentions a ≡ ms → Like xs k ms a
    step_like a xs k ms si co me = record { sites = si; code = omega (arith, co); right = λ h. subst Right (sym me) h }

    row_plain : (es : List Expr) (t : ℕ) → Plain (row_before limit base es t) (all_steps es) (all_mentioned es)
    row_plain es t = let p = planned limit base es t in all_plain p.apart es p.start

    -- a step behind its operands
    behind_like : (es : List Expr) (t : ℕ) (step : List ℕ → Stmt) (xs : List Site) (k own : ℕ) (ms ns : List Mention) → Like xs own ns (step (row_operands limit base es t)) → all_steps es + own ≤ k → (Right ms → Right (all_mentioned es) × Right ns)
        → Like xs k ms (behind limit base es t step)
    behind_like es t step xs k own ms ns h le more =
        let last = step (row_operands limit base es t) in
        let first = row_before limit base es t in
        let p = row_plain es t in
        record {
          sites = at.sites_seq (first ++ last ∷ []) ∙ sites_append first (last ∷ []) ∙ ap (λ xs. xs ++ (sites last ++ [])) p.sites ∙ append_none (sites last) ∙ h.sites;
          code = let e = at.code_seq (first ++ last ∷ []) in let e2 = code_append first (last ∷ []) in let a = p.code in let b = h.code in omega (arith, e, e2, a, b, le);
          right = λ r.
              let q = more r in
              subst Right (sym (at.mentions_seq (first ++ last ∷ []) ∙ mentions_append first (last ∷ []))) (join (all_mentions first) (mentions last ++ []) (p.right q.0) (join (mentions last) [] (h.right q.1) refl));
        }

    -- rows
    pub record LikeAll (xs : List Crep) (ss : List Stmt) : Type 0 where
      pub sites : all_sites ss ≡ flat_map (λ s. s) (map crep_text.sites xs)
      pub code : all_code ss ≤ sum_of (map crep.code xs)
      pub right : Right (flat_map (λ s. s) (map crep_text.mentions xs)) → Right (all_mentions ss)

    row_like : (all : List ((x : Crep) × Kept x)) (t : ℕ) → LikeAll (map (λ c. c.0) all) (placed_row limit base (map (placed limit base) (map (λ c. c.0) all)) t).stmts
    row_like [] t = record { sites = refl; code = omega arith; right = λ h. refl }
    row_like (p ∷ all) t =
        let a = placed limit base p.0 t in
        let f = p.1 t in
        let g = row_like all a.next in
        let ss = (placed_row limit base (map (placed limit base) (map (λ c. c.0) all)) a.next).stmts in
        let xs = map (λ c. c.0) all in
        record {
          sites = ap (λ ys. ys ++ all_sites ss) f.sites ∙ ap (λ ys. crep_text.sites p.0 ++ ys) g.sites;
          code = let a = f.code in let b = g.code in omega (arith, a, b);
          right = λ r. let q = split (crep_text.mentions p.0) (flat_map (λ s. s) (map crep_text.mentions xs)) r in join (mentions a.stmt) (all_mentions ss) (f.right q.0) (g.right q.1);
        }

    -- what mentions one thing, behind its operands
    first_of : (m : Mention) (ms : List Mention) → Right (m ∷ ms) → Right ms × Right (m ∷ [])
    first_of m ms r = let k = split_first m ms r in (k.1, k.0)

    -- as many words are passed as there are operands
    counted : (es : List Expr) (t : ℕ) (make : ℕ → Mention) → Right (make (length es) ∷ []) → Right (make (length (row_operands limit base es t)) ∷ [])
    counted es t make r = subst (λ n. Right (make n ∷ [])) (sym (operands_count limit base es t)) r

    -- the mentions of one operand, of two
    one_of : (e : Expr) → Right (mentioned e) → Right (all_mentioned (e ∷ []))
    one_of e r = join (mentioned e) [] r refl

    two_of : (a e : Expr) → Right (mentioned a ++ mentioned e) → Right (all_mentioned (a ∷ e ∷ []))
    two_of a e r = let k = split (mentioned a) (mentioned e) r in join (mentioned a) (mentioned e ++ []) k.0 (one_of e k.1)

    kept_layer : (y : Crep-F ((x : Crep) × Kept x)) → Kept (roll-Crep (map-Crep ((x : Crep) × Kept x) Crep (λ c. c.0) y))
    kept_layer c.Skip = like_at c.Skip (λ t. step_like s.Skip [] 0 [] at.sites_skip at.code_skip at.mentions_skip)
    kept_layer (c.Seq all) = like_at (c.Seq (map (λ c. c.0) all)) (λ t.
        let h = row_like all t in let ss = (placed_row limit base (map (placed limit base) (map (λ c. c.0) all)) t).stmts in
        record { sites = at.sites_seq ss ∙ h.sites; code = let e = at.code_seq ss in let k = h.code in omega (arith, e, k); right = λ r. subst Right (sym (at.mentions_seq ss)) (h.right r) })
    kept_layer (c.Assign x e) = like_at (c.Assign x e) (λ t.
        let p = planned limit base (e ∷ []) t in let ss = (lower p.apart e).into x p.start in let h = plain p.apart e x p.start in
        record { sites = at.sites_seq ss ∙ h.sites; code = let q = at.code_seq ss in let k = h.code in omega (arith, q, k); right = λ r. subst Right (sym (at.mentions_seq ss)) (h.right r) })
    kept_layer (c.StoreWord a e) = like_at (c.StoreWord a e) (λ t. let xs = row_operands limit base (a ∷ e ∷ []) t in let x = nth 0 xs in let y = nth 1 xs in
        behind_like (a ∷ e ∷ []) t (λ xs. s.StoreWord (nth 0 xs) (nth 1 xs)) [] _ 1 _ [] (step_like (s.StoreWord x y) [] 1 [] (at.sites_store_word x y) (at.code_store_word x y) (at.mentions_store_word x y)) (omega arith) (λ r. (two_of a e r, refl)))
    kept_layer (c.StoreByte a e) = like_at (c.StoreByte a e) (λ t. let xs = row_operands limit base (a ∷ e ∷ []) t in let x = nth 0 xs in let y = nth 1 xs in
        behind_like (a ∷ e ∷ []) t (λ xs. s.StoreByte (nth 0 xs) (nth 1 xs)) [] _ 1 _ [] (step_like (s.StoreByte x y) [] 1 [] (at.sites_store_byte x y) (at.code_store_byte x y) (at.mentions_store_byte x y)) (omega arith) (λ r. (two_of a e r, refl)))
    kept_layer (c.If e p q) = like_at (c.If e p.0 q.0) (λ t.
        let x = nth 0 (row_operands limit base (e ∷ []) t) in
        let first = placed limit base p.0 (planned limit base (e ∷ []) t).next in
        let second = placed limit base q.0 first.next in
        let f = p.1 (planned limit base (e ∷ []) t).next in
        let g = q.1 first.next in
        let ms = crep_text.mentions p.0 in let ns = crep_text.mentions q.0 in
        behind_like (e ∷ []) t (λ xs. s.If (nth 0 xs) first.stmt second.stmt) (crep_text.sites p.0 ++ crep_text.sites q.0) _ (2 + crep.code p.0 + crep.code q.0) (mentioned e ++ (ms ++ ns)) (ms ++ ns)
        (record {
          sites = at.sites_if x first.stmt second.stmt ∙ ap (λ ys. ys ++ sites second.stmt) f.sites ∙ ap (λ ys. crep_text.sites p.0 ++ ys) g.sites;
          code = let h = at.code_if x first.stmt second.stmt in let a = f.code in let b = g.code in omega (arith, h, a, b);
          right = λ r. let k = split ms ns r in subst Right (sym (at.mentions_if x first.stmt second.stmt)) (join (mentions first.stmt) (mentions second.stmt) (f.right k.0) (g.right k.1));
        }) (omega arith) (λ r. let k = split (mentioned e) (ms ++ ns) r in (one_of e k.0, k.1)))
    kept_layer (c.While all e p) = like_at (c.While (map (λ c. c.0) all) e p.0) (λ t.
        let xs = map (λ c. c.0) all in
        let r = placed_row limit base (map (placed limit base) xs) t in
        let es = e ∷ [] in
        let more = row_before limit base es r.next in
        let x = nth 0 (row_operands limit base es r.next) in
        let from = (planned limit base es r.next).next in
        let body = (placed limit base p.0 from).stmt in
        let f = row_like all t in let g = row_plain es r.next in let h = p.1 from in
        let ms = flat_map (λ s. s) (map crep_text.mentions xs) in
        record {
          sites = at.sites_while [] (r.stmts ++ more) x body ∙ ap (λ ys. ys ++ sites body) (sites_append r.stmts more ∙ ap (λ ys. all_sites r.stmts ++ ys) g.sites ∙ append_none (all_sites r.stmts) ∙ f.sites) ∙ ap (λ ys. flat_map (λ s. s) (map crep_text.sites xs) ++ ys) h.sites;
          code = let q = at.code_while [] (r.stmts ++ more) x body in let q2 = code_append r.stmts more in let a = f.code in let b = g.code in let c = h.code in omega (arith, q, q2, a, b, c);
          right = λ k.
              let k1 = split ms (mentioned e ++ crep_text.mentions p.0) k in
              let k2 = split (mentioned e) (crep_text.mentions p.0) k1.1 in
              subst Right (sym (at.mentions_while [] (r.stmts ++ more) x body ∙ ap (λ ys. ys ++ mentions body) (mentions_append r.stmts more)))
              (join (all_mentions r.stmts ++ all_mentions more) (mentions body) (join (all_mentions r.stmts) (all_mentions more) (f.right k1.0) (g.right (one_of e k2.0))) (h.right k2.1));
        })
    kept_layer c.Break = like_at c.Break (λ t. step_like s.Break [] 1 [] at.sites_break at.code_break at.mentions_break)
    kept_layer c.Continue = like_at c.Continue (λ t. step_like s.Continue [] 1 [] at.sites_continue at.code_continue at.mentions_continue)
    kept_layer (c.Call results f es None) = like_at (c.Call results f es None) (λ t.
        let xs = row_operands limit base es t in
        let a = s.Call [] results f xs None in
        let n = row_is es in let n2 = operands_count limit base es t in
        let called = mention.Called f (length es) (length results) in
        behind_like es t (λ xs. s.Call [] results f xs None) (site.Called f ∷ []) _ (loops.passed xs + length results + 0) (called ∷ (all_mentioned es ++ [])) (called ∷ [])
        (record {
          sites = at.sites_call [] results f xs None;
          code = let h = at.code_call [] results f xs None in omega (arith, h);
          right = λ r. subst Right (sym (at.mentions_call [] results f xs None)) (counted es t (λ n. mention.Called f n (length results)) r);
        }) (omega (arith, n, n2)) (λ r. let k = first_of called (all_mentioned es ++ []) r in ((split (all_mentioned es) [] k.0).0, k.1)))
    kept_layer (c.Call results f es (Some h)) = like_at (c.Call results f es (Some (record { exception = h.exception; variables = h.variables; body = h.body.0 }))) (λ t.
        let xs = row_operands limit base es t in
        let from = (planned limit base es t).next in
        let body = (placed limit base h.body.0 from).stmt in
        let h2 : Option (Handler Stmt) = Some (record { exception = h.exception; variables = h.variables; body = body }) in
        let g = h.body.1 from in
        let n = row_is es in let n2 = operands_count limit base es t in
        let called = mention.Called f (length es) (length results) in
        let caught = mention.Caught h.exception (length h.variables) in
        let ms = caught ∷ crep_text.mentions h.body.0 in
        behind_like es t (λ xs. s.Call [] results f xs h2) (site.Called f ∷ crep_text.sites h.body.0) _ (loops.passed xs + length results + (3 + length h.variables + crep.code h.body.0)) (called ∷ (all_mentioned es ++ ms)) (called ∷ ms)
        (record {
          sites = at.sites_call [] results f xs h2 ∙ ap (λ ys. site.Called f ∷ ys) g.sites;
          code = let q = at.code_call [] results f xs h2 in let a = g.code in omega (arith, q, a);
          right = λ r.
              let k = split_first called ms r in let k2 = split_first caught (crep_text.mentions h.body.0) k.1 in
              subst Right (sym (at.mentions_call [] results f xs h2))
              (join (mention.Called f (length xs) (length results) ∷ []) (caught ∷ mentions body) (counted es t (λ n. mention.Called f n (length results)) k.0) (join (caught ∷ []) (mentions body) k2.0 (g.right k2.1)));
        }) (omega (arith, n, n2)) (λ r. let k = first_of called (all_mentioned es ++ ms) r in let k2 = split (all_mentioned es) ms k.0 in (k2.0, join (called ∷ []) ms k.1 k2.1)))
    kept_layer (c.TailCall f es) = like_at (c.TailCall f es) (λ t.
        let xs = row_operands limit base es t in let n = row_is es in let n2 = operands_count limit base es t in
        behind_like es t (λ xs. s.TailCall f xs) (site.TailCalled f ∷ []) _ (loops.passed xs) _ (mention.TailCalled f (length es) ∷ [])
        (record { sites = at.sites_tail_call f xs; code = let h = at.code_tail_call f xs in omega (arith, h); right = λ r. subst Right (sym (at.mentions_tail_call f xs)) (counted es t (λ n. mention.TailCalled f n) r) }) (omega (arith, n, n2)) (first_of (mention.TailCalled f (length es)) (all_mentioned es)))
    kept_layer (c.Return es) = like_at (c.Return es) (λ t.
        let xs = row_operands limit base es t in let n = row_is es in let n2 = operands_count limit base es t in
        behind_like es t (λ xs. s.Return xs) [] _ (loops.passed xs) _ (mention.Returned (length es) ∷ [])
        (record { sites = at.sites_return xs; code = let h = at.code_return xs in omega (arith, h); right = λ r. subst Right (sym (at.mentions_return xs)) (counted es t (λ n. mention.Returned n) r) }) (omega (arith, n, n2)) (first_of (mention.Returned (length es)) (all_mentioned es)))
    kept_layer (c.Raise i es) = like_at (c.Raise i es) (λ t.
        let xs = row_operands limit base es t in let n = row_is es in let n2 = operands_count limit base es t in
        behind_like es t (λ xs. s.Raise i xs) [] _ (loops.passed xs) _ (mention.Raised i (length es) ∷ [])
        (record { sites = at.sites_raise i xs; code = let h = at.code_raise i xs in omega (arith, h); right = λ r. subst Right (sym (at.mentions_raise i xs)) (counted es t (λ n. mention.Raised i n) r) }) (omega (arith, n, n2)) (first_of (mention.Raised i (length es)) (all_mentioned es)))
    kept_layer (c.SharedLoad size x a) = like_at (c.SharedLoad size x a) (λ t. let y = nth 0 (row_operands limit base (a ∷ []) t) in
        behind_like (a ∷ []) t (λ xs. s.SharedLoad size x (nth 0 xs)) (site.Loaded size ∷ []) _ 1 _ [] (step_like (s.SharedLoad size x y) (site.Loaded size ∷ []) 1 [] (at.sites_shared_load size x y) (at.code_shared_load size x y) (at.mentions_shared_load size x y)) (omega arith) (λ r. (one_of a r, refl)))
    kept_layer (c.SharedStore size a e) = like_at (c.SharedStore size a e) (λ t. let xs = row_operands limit base (a ∷ e ∷ []) t in let x = nth 0 xs in let y = nth 1 xs in
        behind_like (a ∷ e ∷ []) t (λ xs. s.SharedStore size (nth 0 xs) (nth 1 xs)) (site.Stored size ∷ []) _ 1 _ [] (step_like (s.SharedStore size x y) (site.Stored size ∷ []) 1 [] (at.sites_shared_store size x y) (at.code_shared_store size x y) (at.mentions_shared_store size x y)) (omega arith) (λ r. (two_of a e r, refl)))
    kept_layer (c.Foreign i a b e f) = like_at (c.Foreign i a b e f) (λ t.
        let es = a ∷ b ∷ e ∷ f ∷ [] in
        let xs = row_operands limit base es t in let x = nth 0 xs in let y = nth 1 xs in let z = nth 2 xs in let v = nth 3 xs in
        behind_like es t (λ xs. s.Foreign [] i (nth 0 xs) (nth 1 xs) (nth 2 xs) (nth 3 xs)) (site.Foreign i ∷ []) _ 4 _ (mention.Foreign i ∷ [])
        (step_like (s.Foreign [] i x y z v) (site.Foreign i ∷ []) 4 (mention.Foreign i ∷ []) (at.sites_foreign [] i x y z v) (at.code_foreign [] i x y z v) (at.mentions_foreign [] i x y z v)) (omega arith) (first_of (mention.Foreign i) (all_mentioned es)))

    pub kept : (x : Crep) → Kept x
    kept = crep_induct Kept kept_layer
