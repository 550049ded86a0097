-- The words of an expression mention lawful numbers alone.
use Rattle.std.proofs.Common.{◌≡◌, ℕ, zero, suc, ◌+◌, ◌*◌, ◌-◌, ◌^◌, ◌≤◌, ◌<◌, ◌&&◌, ◌||◌, Bool, true, false, List, [], ◌∷◌, ◌++◌, map, sum, take, Option, Some, None, slice_get, arith, refl, sym, ap, subst, ◌∙◌}
use Rattle.std.specs.Prelude.{nat_lt}
use Rattle.std.specs.List.{list_all, list_any}
use Rattle.std.proofs.lemmas.Bool.Decides.{nat_tests}
use Rattle.std.proofs.lemmas.List.Folds.{list_all-append}
use Rattle.pan_base.specs.Words.{base_address, bytes_in_word}
use Rattle.pan_base.specs.declared.operators.BinOp.{BinOp}
use Rattle.pan_base.specs.declared.operators.BinOp.TheVariants as bin_op
use Rattle.pan_base.specs.declared.operators.ShOp.{ShOp}
use Rattle.pan_stage.specs.Mentions.{Mention, Scope, is_right}
use Rattle.pan_tree.specs.Scopes.{innermost}
use Rattle.pan_tree.specs.Shapes.{words_of, parts_of}
use Rattle.pan_tree.specs.Check as check
use Rattle.pan_tree.specs.Check.{Judged, Judging, judge_layer, judge_kind, breaks_of, broken, is_wide, max_words, has_no_word}
use Rattle.pan_tree.specs.declared.rule.Rule.TheVariants.{NotWord, ShapeTooWide, BadShift}
use Rattle.pan_tree.proofs.CheckLayers.{judge_roll}
use Rattle.pan_tree.specs.declared.shape.Shape.{Shape}
use Rattle.pan_tree.specs.declared.spanned.Spanned.{Spanned}
use Rattle.pan_tree.specs.declared.syntax.ExprKind.{ExprKind, ExprKind-F, roll-ExprKind, map-ExprKind, fold-roll-ExprKind}
use Rattle.pan_tree.specs.declared.syntax.ExprKind.TheOpen as source_expr
use Rattle.check_soundness.proofs.SpreadShapes.{both_true}
use Rattle.check_soundness.proofs.Rules.{unbroken, append_none}
use Rattle.crep_lang.specs.Text.{mentioned, all_mentioned}
use Rattle.crep_lang.specs.declared.syntax.Expr.{Expr}
use Rattle.crep_lang.specs.declared.syntax.Expr.TheVariants as e
use Rattle.crep_lang.proofs.Exprs.{mentioned_num, mentioned_var, mentioned_load_word, mentioned_load_byte, mentioned_bin, mentioned_shift, mentioned_compare}
use Rattle.crep_flatten.specs.declared.rows.Row.{Row}
use Rattle.crep_flatten.specs.declared.rows.Row.TheVariants as row
use Rattle.crep_flatten.specs.Rows.{far, loads, variables, inlined, row_size, cut_row, cut_rows}
use Rattle.crep_flatten.specs.Flat.{Place, Places, first_of, Flat, word_in, part_found, part_among, parts_at, chain, shifts, variable_at, flat_layer, flat_kind}
use Rattle.crep_flatten.specs.Flattened.{rows_of}
use Rattle.crep_flatten.specs.Literals.{expr_layer, expr_fits}
use Rattle.crep_flatten.proofs.FlatExprs.{flat_roll, expr_induct}

pub both_hold : (a b : Bool) → a ≡ true → b ≡ true → (a && b) ≡ true
both_hold a b h g = ap (λ a. a && b) h ∙ g

module _ (sc : Scope) (own : ℕ) where
  -- these mentions are right
  abbrev pub AreOk : List Mention → Type 0
  AreOk ms = list_all (is_right sc own) ms ≡ true

  pub ok_append : (ms ns : List Mention) → AreOk ms → AreOk ns → AreOk (ms ++ ns)
  ok_append ms ns h g = list_all-append (is_right sc own) ms ns ∙ both_hold (list_all (is_right sc own) ms) (list_all (is_right sc own) ns) h g

  abbrev pub WordOk : Expr → Type 0
  WordOk w = AreOk (mentioned w)

  num_ok : (n : ℕ) → nat_lt n (2 ^ 64) ≡ true → WordOk (e.Num n)
  num_ok n h = ap (list_all (is_right sc own)) (mentioned_num n) ∙ both_hold (nat_lt n (2 ^ 64)) true h refl

  small_ok : (n : ℕ) → n < 2 ^ 64 → WordOk (e.Num n)
  small_ok n l = num_ok n (grind (arith, nat_tests))

  pub var_ok : (x : ℕ) → WordOk (e.Var x)
  var_ok x = ap (list_all (is_right sc own)) (mentioned_var x)

  bin_ok : (o : BinOp) (a b : Expr) → WordOk a → WordOk b → WordOk (e.Bin o a b)
  bin_ok o a b h g = ap (list_all (is_right sc own)) (mentioned_bin o a b) ∙ ok_append (mentioned a) (mentioned b) h g

  pub load_ok : (a : Expr) → WordOk a → WordOk (e.LoadWord a)
  load_ok a h = ap (list_all (is_right sc own)) (mentioned_load_word a) ∙ h

  pub far_ok : (a : Expr) (i : ℕ) → i ≤ 16384 → WordOk a → WordOk (far a i)
  far_ok a zero le h = h
  far_ok a (suc i) le h = bin_ok bin_op.Add a (e.Num (bytes_in_word * suc i)) h (small_ok (bytes_in_word * suc i) (omega (arith, le)))

  -- ---- rows

  abbrev pub RowOk : Row → Type 0
  RowOk (row.Variables x n) = Unit {0}
  RowOk (row.Loads a i n) = (1 ≤ n → i + n ≤ 64) × WordOk a
  RowOk (row.One x) = WordOk x

  abbrev pub RowsOk : List Row → Type 0
  RowsOk [] = Unit {0}
  RowsOk (r ∷ rs) = RowOk r × RowsOk rs

  pub rows_append : (rs ss : List Row) → RowsOk rs → RowsOk ss → RowsOk (rs ++ ss)
  rows_append [] ss h g = g
  rows_append (r ∷ rs) ss h g = (h.0, rows_append rs ss h.1 g)

  cut_row_ok : (s n : ℕ) (r : Row) → RowOk r → RowsOk (cut_row s n r)
  cut_row_ok s n (row.Variables x m) h = (tt, tt)
  cut_row_ok s n (row.Loads a i m) h = ((λ some. let g = h.0 (omega (arith, some)) in omega (arith, some, g), h.1), tt)
  cut_row_ok zero zero (row.One x) h = tt
  cut_row_ok zero (suc n) (row.One x) h = (h, tt)
  cut_row_ok (suc s) n (row.One x) h = tt

  cut_ok : (s n : ℕ) (rs : List Row) → RowsOk rs → RowsOk (cut_rows s n rs)
  cut_ok s n [] h = tt
  cut_ok s n (r ∷ rs) h = let m = row_size r in rows_append (cut_row s n r) (cut_rows (s - m) (n - (m - s)) rs) (cut_row_ok s n r h.0) (cut_ok (s - m) (n - (m - s)) rs h.1)

  pub first_ok : (rs : List Row) → RowsOk rs → WordOk (first_of (inlined rs))
  first_ok [] h = small_ok 0 (omega arith)
  first_ok (row.Variables x zero ∷ rs) h = first_ok rs h.1
  first_ok (row.Variables x (suc n) ∷ rs) h = var_ok x
  first_ok (row.Loads a i zero ∷ rs) h = first_ok rs h.1
  first_ok (row.Loads a i (suc n) ∷ rs) h = let g = (h.0).0 (omega arith) in load_ok (far a i) (far_ok a i (omega (arith, g)) (h.0).1)
  first_ok (row.One x ∷ rs) h = h.0

  -- ---- several words

  abbrev pub WordsOk : List Expr → Type 0
  WordsOk [] = Unit {0}
  WordsOk (w ∷ ws) = WordOk w × WordsOk ws

  pub words_ok_append : (ws xs : List Expr) → WordsOk ws → WordsOk xs → WordsOk (ws ++ xs)
  words_ok_append [] xs h g = g
  words_ok_append (w ∷ ws) xs h g = (h.0, words_ok_append ws xs h.1 g)

  pub all_ok : (ws : List Expr) → WordsOk ws → AreOk (all_mentioned ws)
  all_ok [] h = refl
  all_ok (w ∷ ws) h = ok_append (mentioned w) (all_mentioned ws) h.0 (all_ok ws h.1)

  pub variables_ok : (x n : ℕ) → WordsOk (variables x n)
  variables_ok x zero = tt
  variables_ok x (suc n) = (var_ok x, variables_ok (suc x) n)

  pub loads_ok : (a : Expr) (i n : ℕ) → (1 ≤ n → i + n ≤ 64) → WordOk a → WordsOk (loads a i n)
  loads_ok a i zero le h = tt
  loads_ok a i (suc n) le h = let g = le (omega arith) in (load_ok (far a i) (far_ok a i (omega (arith, g)) h), loads_ok a (suc i) n (λ some. omega (arith, g)) h)

  pub zeros_ok : (n : ℕ) → WordOk (e.Num 0)
  zeros_ok n = small_ok 0 (omega arith)

  -- ---- expressions

  part_ok : (f : Flat) (i : ℕ) → RowsOk f.rows → RowsOk (part_among (parts_of f.shape) i f).rows
  part_ok f i h = by (parts_of f.shape)
    where
      found : (o : Option Shape) (ss : List Shape) → RowsOk (part_found o ss i f).rows
      found None ss = (small_ok 0 (omega arith), tt)
      found (Some s) ss = cut_ok (sum (map words_of (take i ss))) (words_of s) f.rows h

      by : (o : Option (List Shape)) → RowsOk (part_among o i f).rows
      by None = (small_ok 0 (omega arith), tt)
      by (Some ss) = found (slice_get ss i) ss

  parts_ok : (is : List ℕ) (f : Flat) → RowsOk f.rows → RowsOk (parts_at is f).rows
  parts_ok [] f h = h
  parts_ok (i ∷ is) f h = parts_ok is (part_among (parts_of f.shape) i f) (part_ok f i h)

  abbrev IsOk : ExprKind → Type 0
  IsOk k = (place : ℕ) (here : Places) (v : check.Scopes) → (judge_kind k place v).breaks ≡ [] → expr_fits k ≡ true → RowsOk (flat_kind k here).rows

  abbrev Known : Type 0
  Known = (k : ExprKind) × IsOk k

  abbrev plain : Spanned Known → Spanned ExprKind
  plain x = record { kind = x.kind.0; span = x.span }

  abbrev judging : Spanned ExprKind → Spanned Judging
  judging x = record { kind = judge_kind x.kind; span = x.span }

  abbrev flattening : Spanned ExprKind → Spanned (Places → Flat)
  flattening x = record { kind = flat_kind x.kind; span = x.span }

  abbrev fitting : Spanned ExprKind → Spanned Bool
  fitting x = record { kind = expr_fits x.kind; span = x.span }

  module _ (place : ℕ) (here : Places) (v : check.Scopes) where
    abbrev judged_here : Spanned Known → Judged
    judged_here x = judge_kind (x.kind).0 x.span.start v

    made_ok : (x : Spanned Known) → (judged_here x).breaks ≡ [] → expr_fits (x.kind).0 ≡ true → WordOk (word_in (flat_kind (x.kind).0 here))
    made_ok x none fit = first_ok (flat_kind (x.kind).0 here).rows ((x.kind).1 x.span.start here v none fit)

    -- one part alone
    alone_none : (j : Judged) (rest : List check.Break) → breaks_of (j ∷ []) ++ rest ≡ [] → j.breaks ≡ []
    alone_none j rest h = (append_none j.breaks [] (append_none (breaks_of (j ∷ [])) rest h).0).0

    all_rows_ok : (xs : List (Spanned Known)) → breaks_of (map (λ (x : Spanned Judging). x.kind x.span.start v) (map judging (map plain xs))) ≡ [] → list_all (λ (x : Spanned Bool). x.kind) (map fitting (map plain xs)) ≡ true
        → RowsOk (rows_of (map (λ (x : Spanned (Places → Flat)). x.kind here) (map flattening (map plain xs))))
    all_rows_ok [] none fit = tt
    all_rows_ok (x ∷ xs) none fit =
        let both = append_none (judged_here x).breaks _ none in
        let f = both_true (expr_fits (x.kind).0) (list_all (λ (x : Spanned Bool). x.kind) (map fitting (map plain xs))) fit in
        rows_append (flat_kind (x.kind).0 here).rows _ ((x.kind).1 x.span.start here v both.0 f.0) (all_rows_ok xs both.1 f.1)

    abbrev flats_of : List (BinOp × Spanned Known) → List (BinOp × Expr)
    flats_of ys = map (λ (y : BinOp × Spanned (Places → Flat)). (y.0, word_in ((y.1).kind here))) (map (λ (x : BinOp × Spanned ExprKind). (x.0, flattening x.1)) (map (λ (x : BinOp × Spanned Known). (x.0, plain x.1)) ys))

    abbrev judged_of : List (BinOp × Spanned Known) → List Judged
    judged_of ys = map (λ (y : BinOp × Spanned Judging). check.judge y.1 v) (map (λ (x : BinOp × Spanned ExprKind). (x.0, judging x.1)) (map (λ (x : BinOp × Spanned Known). (x.0, plain x.1)) ys))

    chain_ok : (ys : List (BinOp × Spanned Known)) (a : Expr) → breaks_of (map (λ (y : BinOp × Spanned Judging). (y.1).kind (y.1).span.start v) (map (λ (x : BinOp × Spanned ExprKind). (x.0, judging x.1)) (map (λ (x : BinOp × Spanned Known). (x.0, plain x.1)) ys))) ≡ []
        → list_all (λ (y : BinOp × Spanned Bool). (y.1).kind) (map (λ (x : BinOp × Spanned ExprKind). (x.0, fitting x.1)) (map (λ (x : BinOp × Spanned Known). (x.0, plain x.1)) ys)) ≡ true → WordOk a → WordOk (chain a (flats_of ys))
    chain_ok [] a none fit h = h
    chain_ok (y ∷ ys) a none fit h =
        let both = append_none (judged_here y.1).breaks _ none in
        let f = both_true (expr_fits ((y.1).kind).0) _ fit in
        let w = word_in (flat_kind ((y.1).kind).0 here) in
        chain_ok ys (e.Bin y.0 a w) both.1 f.1 (bin_ok y.0 a w h (made_ok y.1 both.0 f.0))

    shifts_ok : (ns : List (ShOp × ℕ)) (a : Expr) → list_any (λ n. nat_lt 63 n.1) ns ≡ false → WordOk a → WordOk (shifts a ns)
    shifts_ok [] a fit h = h
    shifts_ok (n ∷ ns) a fit h = by (nat_lt 63 n.1) (λ b. grind (arith, nat_tests, b)) fit (λ g k. shifts_ok ns (e.Shift n.0 a n.1) g k)
      where
        by : (b : Bool) → (b ≡ false → nat_lt n.1 64 ≡ true) → (b || list_any (λ n. nat_lt 63 n.1) ns) ≡ false → (list_any (λ n. nat_lt 63 n.1) ns ≡ false → WordOk (e.Shift n.0 a n.1) → WordOk (shifts (e.Shift n.0 a n.1) ns)) → WordOk (shifts (e.Shift n.0 a n.1) ns)
        by true f fit go = absurd cc
        by false f fit go = go fit (ap (list_all (is_right sc own)) (mentioned_shift n.0 a n.1) ∙ both_hold (nat_lt n.1 64) (list_all (is_right sc own) (mentioned a)) (f refl) h)

    variable_ok : (o : Option Place) → RowsOk (variable_at o).rows
    variable_ok None = (small_ok 0 (omega arith), tt)
    variable_ok (Some q) = (tt, tt)

    layer_ok : (y : ExprKind-F Known) → (judge_layer (map-ExprKind ExprKind Judging judge_kind (map-ExprKind Known ExprKind (λ c. c.0) y)) place v).breaks ≡ [] → expr_layer (map-ExprKind ExprKind Bool expr_fits (map-ExprKind Known ExprKind (λ c. c.0) y)) ≡ true
        → RowsOk (flat_layer (map-ExprKind ExprKind (Places → Flat) flat_kind (map-ExprKind Known ExprKind (λ c. c.0) y)) here).rows
    layer_ok (source_expr.Number n) none fit = (num_ok n fit, tt)
    layer_ok (source_expr.Var x) none fit = variable_ok (innermost x here)
    layer_ok source_expr.Base none fit = (small_ok base_address (omega arith), tt)
    layer_ok source_expr.Biw none fit = (small_ok bytes_in_word (omega arith), tt)
    layer_ok (source_expr.Struct xs) none fit = all_rows_ok xs (append_none (breaks_of (map (λ (x : Spanned Judging). x.kind x.span.start v) (map judging (map plain xs)))) _ none).0 fit
    layer_ok (source_expr.Field x is) none fit = parts_ok is (flat_kind (x.kind).0 here) ((x.kind).1 x.span.start here v (alone_none (judged_here x) _ none) fit)
    layer_ok (source_expr.Load s a) none fit =
        let parts = append_none (breaks_of (judged_here a ∷ [])) _ none in
        let one = unbroken place NotWord (has_no_word (judged_here a ∷ [])) ((ShapeTooWide, is_wide s) ∷ []) parts.1 in
        let two = unbroken place ShapeTooWide (is_wide s) [] one.1 in
        ((λ some. narrow (words_of s) two.0, made_ok a (alone_none (judged_here a) _ none) fit), tt)
      where
        narrow : (n : ℕ) → nat_lt max_words n ≡ false → 0 + n ≤ 64
        narrow n h = grind (arith, nat_tests, h)
    layer_ok (source_expr.LoadByte a) none fit = let w = word_in (flat_kind (a.kind).0 here) in (ap (list_all (is_right sc own)) (mentioned_load_byte w) ∙ made_ok a (alone_none (judged_here a) _ none) fit, tt)
    layer_ok (source_expr.Neg x) none fit = (bin_ok bin_op.Sub (e.Num 0) (word_in (flat_kind (x.kind).0 here)) (small_ok 0 (omega arith)) (made_ok x (alone_none (judged_here x) _ none) fit), tt)
    layer_ok (source_expr.Chain x ys) none fit =
        let js = judged_of ys in
        let parts = append_none (breaks_of (judged_here x ∷ js)) (broken place ((NotWord, has_no_word (judged_here x ∷ js)) ∷ [])) none in
        let both = append_none (judged_here x).breaks _ parts.0 in
        let f = both_true (expr_fits (x.kind).0) _ fit in
        (chain_ok ys (word_in (flat_kind (x.kind).0 here)) both.1 f.1 (made_ok x both.0 f.0), tt)
    layer_ok (source_expr.Shift x ns) none fit =
        let parts = append_none (breaks_of (judged_here x ∷ [])) _ none in
        let one = unbroken place NotWord (has_no_word (judged_here x ∷ [])) ((BadShift, list_any (λ n. nat_lt 63 n.1) ns) ∷ []) parts.1 in
        let two = unbroken place BadShift (list_any (λ n. nat_lt 63 n.1) ns) [] one.1 in
        (shifts_ok ns (word_in (flat_kind (x.kind).0 here)) two.0 (made_ok x (alone_none (judged_here x) _ none) fit), tt)
    layer_ok (source_expr.Compare c a b) none fit =
        let parts = append_none (breaks_of (judged_here a ∷ judged_here b ∷ [])) _ none in
        let first = append_none (judged_here a).breaks _ parts.0 in
        let second = append_none (judged_here b).breaks [] first.1 in
        let f = both_true (expr_fits (a.kind).0) (expr_fits (b.kind).0) fit in
        let i = word_in (flat_kind (a.kind).0 here) in
        let j = word_in (flat_kind (b.kind).0 here) in
        (ap (list_all (is_right sc own)) (mentioned_compare c i j) ∙ ok_append (mentioned i) (mentioned j) (made_ok a first.0 f.0) (made_ok b second.0 f.1), tt)

  fits_roll : (y : ExprKind-F ExprKind) → expr_fits (roll-ExprKind y) ≡ expr_layer (map-ExprKind ExprKind Bool expr_fits y)
  unfolding expr_fits
  fits_roll y = fold-roll-ExprKind Bool expr_layer y

  pub kind_ok : (k : ExprKind) → IsOk k
  kind_ok = expr_induct IsOk (λ y place here v none fit.
      let x = map-ExprKind Known ExprKind (λ c. c.0) y in
      subst (λ (f : Places → Flat). RowsOk (f here).rows) (sym (flat_roll x)) (layer_ok place here v y (sym (ap (λ (j : Judging). (j place v).breaks) (judge_roll x)) ∙ none) (sym (fits_roll x) ∙ fit)))
