-- The words of an expression read no variables above those that are there, and need no more temporary words than it weighs.
use Rattle.std.proofs.Common.{◌≡◌, ℕ, zero, suc, ◌+◌, ◌*◌, ◌-◌, ◌≤◌, Bool, true, false, cond, List, [], ◌∷◌, ◌++◌, map, sum, length, take, Option, Some, None, slice_get, arith, refl, sym, ap, subst, ◌∙◌}
use Rattle.std.specs.Prelude.{max, option_map, find}
use Rattle.std.specs.Str.{bytes_eq}
use Rattle.pan_base.specs.Words.{base_address, bytes_in_word}
use Rattle.pan_base.specs.declared.operators.BinOp.{BinOp}
use Rattle.pan_base.specs.declared.operators.BinOp.TheVariants as bin_op
use Rattle.pan_base.specs.declared.operators.ShOp.{ShOp}
use Rattle.pan_stage.specs.Locals.{numbers_from}
use Rattle.pan_stage.specs.Sums.{above}
use Rattle.pan_tree.specs.Scopes.{ScopeOf, in_scope, or_else, innermost, declare}
use Rattle.pan_tree.specs.Shapes.{words_of, parts_of}
use Rattle.pan_tree.specs.Check as check
use Rattle.pan_tree.specs.Check.{Judged, Judging, judge_layer, judge_kind, weights, or_word}
use Rattle.pan_tree.proofs.CheckLayers.{judge_roll}
use Rattle.pan_tree.specs.declared.shape.Shape.{Shape}
use Rattle.pan_tree.specs.declared.spanned.Spanned.{Spanned}
use Rattle.pan_tree.specs.declared.syntax.ExprKind.{ExprKind, ExprKind-F, roll-ExprKind, map-ExprKind}
use Rattle.pan_tree.specs.declared.syntax.ExprKind.TheOpen as source_expr
use Rattle.crep_lang.specs.Needs.{temporaries}
use Rattle.crep_lang.specs.Text.{variables_read}
use Rattle.crep_lang.specs.declared.syntax.Expr.{Expr}
use Rattle.crep_lang.specs.declared.syntax.Expr.TheVariants as e
use Rattle.crep_lang.proofs.Exprs.{temporaries_num, temporaries_var, temporaries_load_word, temporaries_load_byte, temporaries_bin, temporaries_shift, temporaries_compare, read_num, read_var, read_load_word, read_load_byte, read_bin, read_shift, read_compare}
use Rattle.crep_flatten.specs.declared.rows.Row.{Row}
use Rattle.crep_flatten.specs.declared.rows.Row.TheVariants as row
use Rattle.crep_flatten.specs.Rows.{far, loads, variables, inlined, row_size, cut_row, cut_rows}
use Rattle.crep_flatten.specs.Flat.{Place, Places, scope_words, count, first_of, Flat, word_in, part_found, part_among, parts_at, chain, shifts, variable_at, flat_layer, flat_kind}
use Rattle.crep_flatten.specs.Flattened.{new_place, rows_of}
use Rattle.crep_flatten.proofs.FlatExprs.{flat_roll, expr_induct}
use Rattle.crep_flatten.proofs.Costs.{Static, kind_cheap, weights_more}

-- ---- places in order

-- each place begins where the one before it ends
abbrev pub InOrder : ℕ → ScopeOf Place → Type 0
InOrder n [] = Unit {0}
InOrder n (q ∷ qs) = ((q.1).first ≡ n) × InOrder (n + words_of (q.1).shape) qs

abbrev pub Placed : Places → Type 0
Placed [] = Unit {0}
Placed (scope ∷ scopes) = InOrder (count scopes) scope × Placed scopes

abbrev pub Within : ℕ → Option Place → Type 0
Within n None = Unit {0}
Within n (Some q) = q.first + words_of q.shape ≤ n

within_more : (n m : ℕ) (o : Option Place) → n ≤ m → Within n o → Within m o
within_more n m None le h = tt
within_more n m (Some q) le h = omega (arith, le, h)

in_scope_within : (x : List ℕ) (n : ℕ) (scope : ScopeOf Place) → InOrder n scope → Within (n + scope_words scope) (in_scope x scope)
in_scope_within x n [] h = tt
in_scope_within x n (q ∷ qs) h = by (bytes_eq q.0 x) (in_scope_within x (n + words_of (q.1).shape) qs h.1)
  where
    by : (c : Bool) → Within (n + words_of (q.1).shape + scope_words qs) (in_scope x qs) → Within (n + (words_of (q.1).shape + scope_words qs)) (option_map (λ (z : List ℕ × Place). z.1) (cond c (Some q) (find (λ (z : List ℕ × Place). bytes_eq z.0 x) qs)))
    by true g = let f = h.0 in omega (arith, f)
    by false g = within_more (n + words_of (q.1).shape + scope_words qs) (n + (words_of (q.1).shape + scope_words qs)) (in_scope x qs) (omega arith) g

pub innermost_within : (x : List ℕ) (here : Places) → Placed here → Within (count here) (innermost x here)
innermost_within x [] h = tt
innermost_within x (scope ∷ scopes) h = by (in_scope x scope) (in_scope_within x (count scopes) scope h.0) (innermost_within x scopes h.1)
  where
    by : (o : Option Place) → Within (count scopes + scope_words scope) o → Within (count scopes) (innermost x scopes) → Within (count scopes + scope_words scope) (or_else o (innermost x scopes))
    by None f g = within_more (count scopes) (count scopes + scope_words scope) (innermost x scopes) (omega arith) g
    by (Some q) f g = f

scope_more : (n : ℕ) (x : List ℕ) (s : Shape) (scope : ScopeOf Place) → InOrder n scope → InOrder n (scope ++ (x, record { first = n + scope_words scope; shape = s }) ∷ [])
scope_more n x s [] h = (omega arith, tt)
scope_more n x s (q ∷ qs) h = (h.0, subst (λ k. InOrder (n + words_of (q.1).shape) (qs ++ (x, record { first = k; shape = s }) ∷ [])) (omega arith) (scope_more (n + words_of (q.1).shape) x s qs h.1))

pub placed_declare : (x : List ℕ) (s : Shape) (here : Places) → Placed here → Placed (declare x (new_place s here) here)
placed_declare x s [] h = tt
placed_declare x s (scope ∷ scopes) h = (scope_more (count scopes) x s scope h.0, h.1)

scope_count : (x : List ℕ) (q : Place) (scope : ScopeOf Place) → scope_words (scope ++ (x, q) ∷ []) ≡ scope_words scope + words_of q.shape
scope_count x q [] = omega arith
scope_count x q (y ∷ ys) = ap (λ n. words_of (y.1).shape + n) (scope_count x q ys) ∙ omega arith

pub declare_count : (x : List ℕ) (q : Place) (here : Places) → count (declare x q here) ≤ count here + words_of q.shape
declare_count x q [] = omega arith
declare_count x q (scope ∷ scopes) = let c = scope_count x q scope in omega (arith, c)

-- ---- variables

pub above_append : (xs ys : List ℕ) → above (xs ++ ys) ≡ max (above xs) (above ys)
above_append [] ys = omega arith
above_append (x ∷ xs) ys = ap (λ n. max (suc x) n) (above_append xs ys) ∙ omega arith

pub above_numbers : (x k : ℕ) → above (numbers_from x k) ≤ x + k
above_numbers x zero = omega arith
above_numbers x (suc k) = let r = above_numbers (suc x) k in omega (arith, r)

-- a word that needs so many temporary words, and reads variables below c
pub record WordLow (k c : ℕ) (w : Expr) : Type 0 where
  pub temporary : temporaries w ≤ k
  pub below : above (variables_read w) ≤ c

pub word_more : (k l c d : ℕ) (w : Expr) → k ≤ l → c ≤ d → WordLow k c w → WordLow l d w
word_more k l c d w le ld h = let a = h.temporary in let b = h.below in record { temporary = omega (arith, le, a); below = omega (arith, ld, b) }

pub low_num : (k c n : ℕ) → 1 ≤ k → WordLow k c (e.Num n)
low_num k c n some = let t = temporaries_num n in let r = ap above (read_num n) in record { temporary = omega (arith, t, some); below = omega (arith, r) }

pub low_var : (k c x : ℕ) → 1 ≤ k → x + 1 ≤ c → WordLow k c (e.Var x)
low_var k c x some le = let t = temporaries_var x in let r = ap above (read_var x) in record { temporary = omega (arith, t, some); below = omega (arith, r, le) }

low_bin : (i j k c : ℕ) (o : BinOp) (a b : Expr) → i ≤ k → 1 + j ≤ k → WordLow i c a → WordLow j c b → WordLow k c (e.Bin o a b)
low_bin i j k c o a b li lj ha hb =
    let t = temporaries_bin o a b in
    let r = ap above (read_bin o a b) ∙ above_append (variables_read a) (variables_read b) in
    let x = ha.temporary in
    let y = hb.temporary in
    let z = ha.below in
    let u = hb.below in
    record { temporary = omega (arith, t, x, y, li, lj); below = omega (arith, r, z, u) }

pub low_far : (k c : ℕ) (a : Expr) (i : ℕ) → 2 ≤ k → WordLow k c a → WordLow k c (far a i)
low_far k c a zero some h = h
low_far k c a (suc i) some h = low_bin k 1 k c bin_op.Add a (e.Num (bytes_in_word * suc i)) (omega arith) (omega (arith, some)) h (low_num 1 c (bytes_in_word * suc i) (omega arith))

low_load : (k c : ℕ) (a : Expr) → WordLow k c a → WordLow k c (e.LoadWord a)
low_load k c a h = let t = temporaries_load_word a in let r = ap above (read_load_word a) in let x = h.temporary in let y = h.below in record { temporary = omega (arith, t, x); below = omega (arith, r, y) }

-- ---- rows

abbrev pub RowLow : ℕ → ℕ → Row → Type 0
RowLow k c (row.Variables x n) = (1 ≤ k) × (1 ≤ n → x + n ≤ c)
RowLow k c (row.Loads a i n) = (1 ≤ n → 2 ≤ k) × WordLow k c a
RowLow k c (row.One x) = WordLow k c x

abbrev pub RowsLow : ℕ → ℕ → List Row → Type 0
RowsLow k c [] = Unit {0}
RowsLow k c (r ∷ rs) = RowLow k c r × RowsLow k c rs

pub low_append : (k c : ℕ) (rs ss : List Row) → RowsLow k c rs → RowsLow k c ss → RowsLow k c (rs ++ ss)
low_append k c [] ss h g = g
low_append k c (r ∷ rs) ss h g = (h.0, low_append k c rs ss h.1 g)

row_low_more : (k l c : ℕ) (r : Row) → k ≤ l → RowLow k c r → RowLow l c r
row_low_more k l c (row.Variables x n) le h = (let a = h.0 in omega (arith, a, le), h.1)
row_low_more k l c (row.Loads a i n) le h = (λ some. let g = h.0 some in omega (arith, g, le), word_more k l c c a le (omega arith) h.1)
row_low_more k l c (row.One x) le h = word_more k l c c x le (omega arith) h

pub low_more : (k l c : ℕ) (rs : List Row) → k ≤ l → RowsLow k c rs → RowsLow l c rs
low_more k l c [] le h = tt
low_more k l c (r ∷ rs) le h = (row_low_more k l c r le h.0, low_more k l c rs le h.1)

cut_row_low : (k c s n : ℕ) (r : Row) → RowLow k c r → RowsLow k c (cut_row s n r)
cut_row_low k c s n (row.Variables x m) h = ((h.0, λ some. let g = h.1 (omega (arith, some)) in omega (arith, some, g)), tt)
cut_row_low k c s n (row.Loads a i m) h = ((λ some. h.0 (omega (arith, some)), h.1), tt)
cut_row_low k c zero zero (row.One x) h = tt
cut_row_low k c zero (suc n) (row.One x) h = (h, tt)
cut_row_low k c (suc s) n (row.One x) h = tt

cut_low : (k c s n : ℕ) (rs : List Row) → RowsLow k c rs → RowsLow k c (cut_rows s n rs)
cut_low k c s n [] h = tt
cut_low k c s n (r ∷ rs) h = let m = row_size r in low_append k c (cut_row s n r) (cut_rows (s - m) (n - (m - s)) rs) (cut_row_low k c s n r h.0) (cut_low k c (s - m) (n - (m - s)) rs h.1)

pub first_low : (k c : ℕ) (rs : List Row) → 1 ≤ k → RowsLow k c rs → WordLow k c (first_of (inlined rs))
first_low k c [] some h = low_num k c 0 some
first_low k c (row.Variables x zero ∷ rs) some h = first_low k c rs some h.1
first_low k c (row.Variables x (suc n) ∷ rs) some h = let g = (h.0).1 (omega arith) in low_var k c x some (omega (arith, g))
first_low k c (row.Loads a i zero ∷ rs) some h = first_low k c rs some h.1
first_low k c (row.Loads a i (suc n) ∷ rs) some h = low_load k c (far a i) (low_far k c a i ((h.0).0 (omega arith)) (h.0).1)
first_low k c (row.One x ∷ rs) some h = h.0

-- ---- several words

abbrev pub WordsLow : ℕ → ℕ → List Expr → Type 0
WordsLow k c [] = Unit {0}
WordsLow k c (w ∷ ws) = WordLow k c w × WordsLow k c ws

pub words_append : (k c : ℕ) (ws xs : List Expr) → WordsLow k c ws → WordsLow k c xs → WordsLow k c (ws ++ xs)
words_append k c [] xs h g = g
words_append k c (w ∷ ws) xs h g = (h.0, words_append k c ws xs h.1 g)

pub words_more : (k l c d : ℕ) (ws : List Expr) → k ≤ l → c ≤ d → WordsLow k c ws → WordsLow l d ws
words_more k l c d [] le ld h = tt
words_more k l c d (w ∷ ws) le ld h = (word_more k l c d w le ld h.0, words_more k l c d ws le ld h.1)

pub variables_low : (k c x n : ℕ) → 1 ≤ k → (1 ≤ n → x + n ≤ c) → WordsLow k c (variables x n)
variables_low k c x zero some le = tt
variables_low k c x (suc n) some le = let g = le (omega arith) in (low_var k c x some (omega (arith, g)), variables_low k c (suc x) n some (λ h. omega (arith, g)))

pub loads_low : (k c : ℕ) (a : Expr) (i n : ℕ) → (1 ≤ n → 2 ≤ k) → WordLow k c a → WordsLow k c (loads a i n)
loads_low k c a i zero some h = tt
loads_low k c a i (suc n) some h = let two = some (omega arith) in (low_load k c (far a i) (low_far k c a i two h), loads_low k c a (suc i) n (λ g. two) h)

-- ---- expressions

part_low : (k c : ℕ) (f : Flat) (i : ℕ) → 1 ≤ k → RowsLow k c f.rows → RowsLow k c (part_among (parts_of f.shape) i f).rows
part_low k c f i some h = by (parts_of f.shape)
  where
    found : (o : Option Shape) (ss : List Shape) → RowsLow k c (part_found o ss i f).rows
    found None ss = (low_num k c 0 some, tt)
    found (Some s) ss = cut_low k c (sum (map words_of (take i ss))) (words_of s) f.rows h

    by : (o : Option (List Shape)) → RowsLow k c (part_among o i f).rows
    by None = (low_num k c 0 some, tt)
    by (Some ss) = found (slice_get ss i) ss

parts_low : (k c : ℕ) (is : List ℕ) (f : Flat) → 1 ≤ k → RowsLow k c f.rows → RowsLow k c (parts_at is f).rows
parts_low k c [] f some h = h
parts_low k c (i ∷ is) f some h = parts_low k c is (part_among (parts_of f.shape) i f) some (part_low k c f i some h)

abbrev pub IsLow : ExprKind → Type 0
IsLow k = (place : ℕ) (here : Places) (v : check.Scopes) → Static here v → Placed here → RowsLow (judge_kind k place v).weight (count here) (flat_kind k here).rows

abbrev Known : Type 0
Known = (k : ExprKind) × IsLow k

abbrev plain : Spanned Known → Spanned ExprKind
plain x = record { kind = x.kind.0; span = x.span }

abbrev judging : Spanned ExprKind → Spanned Judging
judging x = record { kind = judge_kind x.kind; span = x.span }

abbrev flattening : Spanned ExprKind → Spanned (Places → Flat)
flattening x = record { kind = flat_kind x.kind; span = x.span }

module _ (place : ℕ) (here : Places) (v : check.Scopes) (st : Static here v) (in_order : Placed here) where
  abbrev judged_here : Spanned Known → Judged
  judged_here x = judge_kind (x.kind).0 x.span.start v

  abbrev made_here : Spanned Known → Flat
  made_here x = flat_kind (x.kind).0 here

  part_is : (x : Spanned Known) → RowsLow (judged_here x).weight (count here) (made_here x).rows
  part_is x = (x.kind).1 x.span.start here v st in_order

  some_is : (x : Spanned Known) → 1 ≤ (judged_here x).weight
  some_is x = let c = kind_cheap (x.kind).0 x.span.start here v st in c.some

  word_is : (x : Spanned Known) → WordLow (judged_here x).weight (count here) (word_in (made_here x))
  word_is x = first_low (judged_here x).weight (count here) (made_here x).rows (some_is x) (part_is x)

  all_low : (xs : List (Spanned Known)) → RowsLow (weights (map (λ (x : Spanned Judging). x.kind x.span.start v) (map judging (map plain xs)))) (count here) (rows_of (map (λ (x : Spanned (Places → Flat)). x.kind here) (map flattening (map plain xs))))
  all_low [] = tt
  all_low (x ∷ xs) =
      let js = map (λ (x : Spanned Judging). x.kind x.span.start v) (map judging (map plain xs)) in
      let w = weights_more (judged_here x) js in
      let others = rows_of (map (λ (x : Spanned (Places → Flat)). x.kind here) (map flattening (map plain xs))) in
      low_append (weights (judged_here x ∷ js)) (count here) (made_here x).rows others (low_more (judged_here x).weight (weights (judged_here x ∷ js)) (count here) (made_here x).rows (omega (arith, w)) (part_is x))
      (low_more (weights js) (weights (judged_here x ∷ js)) (count here) others (omega (arith, w)) (all_low xs))

  abbrev flats_of : List (BinOp × Spanned Known) → List (BinOp × Expr)
  flats_of ys = map (λ (y : BinOp × Spanned (Places → Flat)). (y.0, word_in ((y.1).kind here))) (map (λ (x : BinOp × Spanned ExprKind). (x.0, flattening x.1)) (map (λ (x : BinOp × Spanned Known). (x.0, plain x.1)) ys))

  abbrev judged_of : List (BinOp × Spanned Known) → List Judged
  judged_of ys = map (λ (y : BinOp × Spanned Judging). (y.1).kind (y.1).span.start v) (map (λ (x : BinOp × Spanned ExprKind). (x.0, judging x.1)) (map (λ (x : BinOp × Spanned Known). (x.0, plain x.1)) ys))

  chain_low : (ys : List (BinOp × Spanned Known)) (a : Expr) (n : ℕ) → WordLow n (count here) a → WordLow (n + (length ys + weights (judged_of ys))) (count here) (chain a (flats_of ys))
  chain_low [] a n h = word_more n (n + (0 + weights [])) (count here) (count here) a (omega arith) (omega arith) h
  chain_low (y ∷ ys) a n h =
      let k = n + 1 + (judged_here y.1).weight in
      let w = weights_more (judged_here y.1) (judged_of ys) in
      let b = low_bin n (judged_here y.1).weight k (count here) y.0 a (word_in (made_here y.1)) (omega arith) (omega arith) h (word_is y.1) in
      word_more (k + (length ys + weights (judged_of ys))) (n + (length (y ∷ ys) + weights (judged_of (y ∷ ys)))) (count here) (count here) _ (omega (arith, w)) (omega arith) (chain_low ys (e.Bin y.0 a (word_in (made_here y.1))) k b)

  shifts_low : (ns : List (ShOp × ℕ)) (a : Expr) (n : ℕ) → WordLow n (count here) a → WordLow n (count here) (shifts a ns)
  shifts_low [] a n h = h
  shifts_low (s ∷ ns) a n h =
      let t = temporaries_shift s.0 a s.1 in
      let r = ap above (read_shift s.0 a s.1) in
      let x = h.temporary in
      let y = h.below in
      shifts_low ns (e.Shift s.0 a s.1) n (record { temporary = omega (arith, t, x); below = omega (arith, r, y) })

  lengths : (ys : List (BinOp × Spanned Known)) → length {A = BinOp × Spanned Judging} (map (λ (x : BinOp × Spanned ExprKind). (x.0, judging x.1)) (map (λ (x : BinOp × Spanned Known). (x.0, plain x.1)) ys)) ≡ length ys
  lengths [] = refl
  lengths (y ∷ ys) = ap suc (lengths ys)

  variable_low : (o : Option Place) (n : ℕ) → 1 ≤ n → Within (count here) o → RowsLow n (count here) (variable_at o).rows
  variable_low None n some h = (low_num n (count here) 0 some, tt)
  variable_low (Some q) n some h = ((some, λ g. h), tt)

  layer_low : (y : ExprKind-F Known) → RowsLow (judge_layer (map-ExprKind ExprKind Judging judge_kind (map-ExprKind Known ExprKind (λ c. c.0) y)) place v).weight (count here) (flat_layer (map-ExprKind ExprKind (Places → Flat) flat_kind (map-ExprKind Known ExprKind (λ c. c.0) y)) here).rows
  layer_low (source_expr.Number n) = (low_num _ (count here) n (omega arith), tt)
  layer_low (source_expr.Var x) = variable_low (innermost x here) _ (omega arith) (innermost_within x here in_order)
  layer_low source_expr.Base = (low_num _ (count here) base_address (omega arith), tt)
  layer_low source_expr.Biw = (low_num _ (count here) bytes_in_word (omega arith), tt)
  layer_low (source_expr.Struct xs) = let js = map (λ (x : Spanned Judging). x.kind x.span.start v) (map judging (map plain xs)) in low_more (weights js) _ (count here) _ (omega arith) (all_low xs)
  layer_low (source_expr.Field x is) =
      let w = weights_more (judged_here x) [] in
      low_more (judged_here x).weight _ (count here) _ (omega (arith, w)) (parts_low (judged_here x).weight (count here) is (made_here x) (some_is x) (part_is x))
  layer_low (source_expr.Load s a) =
      let w = weights_more (judged_here a) [] in
      ((λ some. omega (arith, some), word_more (judged_here a).weight _ (count here) (count here) (word_in (made_here a)) (omega (arith, w)) (omega arith) (word_is a)), tt)
  layer_low (source_expr.LoadByte a) =
      let w = weights_more (judged_here a) [] in
      let h = word_is a in
      let t = temporaries_load_byte (word_in (made_here a)) in
      let r = ap above (read_load_byte (word_in (made_here a))) in
      let x = h.temporary in
      let y = h.below in
      (record { temporary = omega (arith, t, x, w); below = omega (arith, r, y) }, tt)
  layer_low (source_expr.Neg a) =
      let w = weights_more (judged_here a) [] in
      (low_bin 1 (judged_here a).weight _ (count here) bin_op.Sub (e.Num 0) (word_in (made_here a)) (omega arith) (omega (arith, w)) (low_num 1 (count here) 0 (omega arith)) (word_is a), tt)
  layer_low (source_expr.Chain x ys) =
      let w = weights_more (judged_here x) (judged_of ys) in
      let l = lengths ys in
      (word_more ((judged_here x).weight + (length ys + weights (judged_of ys))) _ (count here) (count here) (chain (word_in (made_here x)) (flats_of ys)) (omega (arith, w, l)) (omega arith) (chain_low ys (word_in (made_here x)) (judged_here x).weight (word_is x)), tt)
  layer_low (source_expr.Shift x ns) =
      let w = weights_more (judged_here x) [] in
      (word_more (judged_here x).weight _ (count here) (count here) (shifts (word_in (made_here x)) ns) (omega (arith, w)) (omega arith) (shifts_low ns (word_in (made_here x)) (judged_here x).weight (word_is x)), tt)
  layer_low (source_expr.Compare c a b) =
      let w = weights_more (judged_here a) (judged_here b ∷ []) in
      let z = weights_more (judged_here b) [] in
      let i = word_in (made_here a) in
      let j = word_in (made_here b) in
      let t = temporaries_compare c i j in
      let r = ap above (read_compare c i j) ∙ above_append (variables_read i) (variables_read j) in
      let ha = word_is a in
      let hb = word_is b in
      let x = ha.temporary in
      let y = hb.temporary in
      let p = ha.below in
      let q = hb.below in
      (record { temporary = omega (arith, t, x, y, w, z); below = omega (arith, r, p, q) }, tt)

pub kind_low : (k : ExprKind) → IsLow k
kind_low = expr_induct IsLow (λ y place here v st in_order.
    let x = map-ExprKind Known ExprKind (λ c. c.0) y in
    subst (λ (f : Places → Flat). RowsLow (judge_kind (roll-ExprKind x) place v).weight (count here) (f here).rows) (sym (flat_roll x))
    (subst (λ (j : Judging). RowsLow (j place v).weight (count here) (flat_layer (map-ExprKind ExprKind (Places → Flat) flat_kind x) here).rows) (sym (judge_roll x)) (layer_low place here v st in_order y)))
