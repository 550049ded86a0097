-- What is made of an expression has the spread shape that the check gives it, as many words as that, and is worth no more steps than it weighs, but for a factor.
use Rattle.std.proofs.Common.{◌≡◌, ℕ, zero, suc, ◌+◌, ◌*◌, ◌-◌, ◌≤◌, Bool, true, false, List, [], ◌∷◌, ◌++◌, map, sum, length, take, drop, replicate, Option, Some, None, slice_get, length-append, arith, refl, sym, ap, subst, ◌∙◌}
use Rattle.std.specs.Prelude.{option_map, nat_le, if◌then◌else◌}
use Rattle.std.proofs.lemmas.Option.{slice_get-map}
use Rattle.std.proofs.lemmas.List.{length-take, length-drop}
use Rattle.std.proofs.lemmas.Bool.Decides.{nat_tests}
use Rattle.pan_base.specs.Words.{base_address, bytes_in_word}
use Rattle.pan_base.specs.declared.operators.BinOp.{BinOp}
use Rattle.pan_base.specs.declared.operators.BinOp.TheVariants as bin_op
use Rattle.pan_base.specs.declared.operators.ShOp.{ShOp}
use Rattle.pan_tree.specs.Scopes.{innermost}
use Rattle.pan_tree.specs.Shapes.{words_of, parts_of, Part, APart, OfWord, NoPart, part_at}
use Rattle.pan_tree.specs.Shapes as shapes
use Rattle.pan_tree.specs.Check as check
use Rattle.pan_tree.specs.Check.{Judged, Judging, judge_layer, judge_kind, weights, or_word, part_shape}
use Rattle.pan_tree.proofs.CheckLayers.{judge_roll}
use Rattle.pan_tree.proofs.ShapeLayers.{words_word, words_group, parts_word, parts_group}
use Rattle.pan_tree.specs.declared.shape.Shape.{Shape, Shape-F, roll-Shape, out-Shape, roll-out-Shape}
use Rattle.pan_tree.specs.declared.shape.Shape.TheOpen as open_shape
use Rattle.pan_tree.specs.declared.shape.Shape.TheVariants as shape
use Rattle.pan_tree.specs.declared.spanned.Spanned.{Spanned}
use Rattle.pan_tree.specs.declared.syntax.ExprKind.{ExprKind, ExprKind-F, roll-ExprKind, map-ExprKind}
use Rattle.pan_tree.specs.declared.syntax.ExprKind.TheOpen as source_expr
use Rattle.check_soundness.specs.Spread.{spread}
use Rattle.check_soundness.proofs.SpreadShapes.{spread_word, spread_words, spread_group, spread_parts}
use Rattle.check_soundness.proofs.Alike.{sum_more, spread_size}
use Rattle.check_soundness.proofs.AlikeScopes.{at_shapes, innermost_shapes}
use Rattle.crep_lang.specs.Steps.{expr_steps}
use Rattle.crep_lang.specs.declared.syntax.Expr.{Expr}
use Rattle.crep_lang.specs.declared.syntax.Expr.TheVariants as e
use Rattle.crep_lang.specs.declared.syntax.Stmt.TheVariants as stmt
use Rattle.crep_lang.proofs.Exprs.{steps_num, steps_var, steps_load_word, steps_load_byte, steps_bin, steps_shift, steps_compare}
use Rattle.crep_lang.proofs.Sizes.{code_assign}
use Rattle.crep_flatten.specs.declared.rows.Row.{Row}
use Rattle.crep_flatten.specs.declared.rows.Row.TheVariants as row
use Rattle.crep_flatten.specs.Rows.{far, loads, variables, row_words, inlined, row_size, cut_row, cut_rows, Settled, settle}
use Rattle.crep_flatten.specs.Flat.{Place, Places, first_of, Flat, one, word_in, nothing, part_found, part_among, parts_at, chain, shifts, variable_at, loaded, flat_layer, flat_kind}
use Rattle.crep_flatten.specs.Flattened.{rows_of}
use Rattle.crep_flatten.proofs.RowWords.{count_variables, count_loads, inlined_append, cut_inlined}
use Rattle.crep_flatten.proofs.FlatExprs.{all_code, flat_roll, expr_induct}

-- the places have the names and the shapes of the check's variables
pub record Static (here : Places) (v : check.Scopes) : Type 0 where
  pub same : at_shapes (λ (q : Place). q.shape) here ≡ at_shapes spread v

-- ---- steps

abbrev pub sum_steps : List Expr → ℕ
sum_steps [] = 0
sum_steps (x ∷ xs) = expr_steps x + sum_steps xs

pub sum_append : (xs ys : List Expr) → sum_steps (xs ++ ys) ≡ sum_steps xs + sum_steps ys
sum_append [] ys = omega arith
sum_append (x ∷ xs) ys = ap (λ n. expr_steps x + n) (sum_append xs ys) ∙ omega arith

-- ---- rows

-- the most that the words of rows are worth, with their addresses
abbrev pub row_worth : Row → ℕ
row_worth (row.Variables x n) = n
row_worth (row.Loads a i n) = 1 + expr_steps a + 4 * n
row_worth (row.One x) = expr_steps x

abbrev pub rows_worth : List Row → ℕ
rows_worth [] = 0
rows_worth (r ∷ rs) = row_worth r + rows_worth rs

-- how many addresses there are in rows
abbrev pub row_loads : Row → ℕ
row_loads (row.Variables x n) = 0
row_loads (row.Loads a i n) = 1
row_loads (row.One x) = 0

abbrev pub rows_loads : List Row → ℕ
rows_loads [] = 0
rows_loads (r ∷ rs) = row_loads r + rows_loads rs

-- each word by itself is worth at most so much
abbrev pub RowCheap : ℕ → Row → Type 0
RowCheap k (row.Variables x n) = 1 ≤ k
RowCheap k (row.Loads a i n) = 1 ≤ n → 3 + expr_steps a ≤ k
RowCheap k (row.One x) = expr_steps x ≤ k

abbrev pub RowsCheap : ℕ → List Row → Type 0
RowsCheap k [] = Unit {0}
RowsCheap k (r ∷ rs) = RowCheap k r × RowsCheap k rs

worth_append : (rs ss : List Row) → rows_worth (rs ++ ss) ≡ rows_worth rs + rows_worth ss
worth_append [] ss = omega arith
worth_append (r ∷ rs) ss = ap (λ n. row_worth r + n) (worth_append rs ss) ∙ omega arith

loads_append : (rs ss : List Row) → rows_loads (rs ++ ss) ≡ rows_loads rs + rows_loads ss
loads_append [] ss = omega arith
loads_append (r ∷ rs) ss = ap (λ n. row_loads r + n) (loads_append rs ss) ∙ omega arith

cheap_append : (k : ℕ) (rs ss : List Row) → RowsCheap k rs → RowsCheap k ss → RowsCheap k (rs ++ ss)
cheap_append k [] ss h g = g
cheap_append k (r ∷ rs) ss h g = (h.0, cheap_append k rs ss h.1 g)

row_more : (k l : ℕ) (r : Row) → k ≤ l → RowCheap k r → RowCheap l r
row_more k l (row.Variables x n) le h = omega arith
row_more k l (row.Loads a i n) le h = λ some. let g = h some in omega (arith, g)
row_more k l (row.One x) le h = omega arith

cheap_more : (k l : ℕ) (rs : List Row) → k ≤ l → RowsCheap k rs → RowsCheap l rs
cheap_more k l [] le h = tt
cheap_more k l (r ∷ rs) le h = (row_more k l r le h.0, cheap_more k l rs le h.1)

-- parts are worth no more than the whole
record CutLess (k : ℕ) (rs ss : List Row) : Type 0 where
  pub worth : rows_worth ss ≤ rows_worth rs
  pub loads : rows_loads ss ≤ rows_loads rs
  pub each : RowsCheap k rs → RowsCheap k ss

cut_row_less : (k s n : ℕ) (r : Row) → CutLess k (r ∷ []) (cut_row s n r)
cut_row_less k s n (row.Variables x m) = record { worth = omega arith; loads = omega arith; each = λ h. h }
cut_row_less k s n (row.Loads a i m) = record { worth = omega arith; loads = omega arith; each = λ h. (λ some. h.0 (omega (arith, some)), tt) }
cut_row_less k zero zero (row.One x) = record { worth = omega arith; loads = omega arith; each = λ h. tt }
cut_row_less k zero (suc n) (row.One x) = record { worth = omega arith; loads = omega arith; each = λ h. h }
cut_row_less k (suc s) n (row.One x) = record { worth = omega arith; loads = omega arith; each = λ h. tt }

cut_less : (k s n : ℕ) (rs : List Row) → CutLess k rs (cut_rows s n rs)
cut_less k s n [] = record { worth = omega arith; loads = omega arith; each = λ h. tt }
cut_less k s n (r ∷ rs) =
    let one = cut_row_less k s n r in
    let m = row_size r in
    let others = cut_rows (s - m) (n - (m - s)) rs in
    let rest = cut_less k (s - m) (n - (m - s)) rs in
    let a = worth_append (cut_row s n r) others in
    let b = loads_append (cut_row s n r) others in
    record {
      worth = omega (arith, a, one.worth, rest.worth);
      loads = omega (arith, b, one.loads, rest.loads);
      each = λ h. cheap_append k (cut_row s n r) others (one.each (h.0, tt)) (rest.each h.1);
    }

-- ---- what rows are worth

pub far_steps : (a : Expr) (i : ℕ) → expr_steps (far a i) ≤ 2 + expr_steps a
far_steps a zero = omega arith
far_steps a (suc i) = let s = steps_bin bin_op.Add a (e.Num (bytes_in_word * suc i)) in let n = steps_num (bytes_in_word * suc i) in omega (arith, s, n)

loads_steps : (a : Expr) (i k : ℕ) → sum_steps (loads a i k) ≤ k * (3 + expr_steps a)
loads_steps a i zero = omega arith
loads_steps a i (suc k) =
    let s = steps_load_word (far a i) in
    let f = far_steps a i in
    let r = loads_steps a (suc i) k in
    let m : suc k * (3 + expr_steps a) ≡ (3 + expr_steps a) + k * (3 + expr_steps a) = omega arith in
    omega (arith, s, f, r, m)

pub variables_steps : (x k : ℕ) → sum_steps (variables x k) ≡ k
variables_steps x zero = refl
variables_steps x (suc k) = let s = steps_var x in let r = variables_steps (suc x) k in omega (arith, s, r)

-- from a free variable on: how much the statements and the words are worth, how many words there are, and which variables are taken
pub record SettledWell (rs : List Row) (t : ℕ) (g : Settled) : Type 0 where
  pub worth : all_code g.before + sum_steps g.words ≤ rows_worth rs
  pub size : length g.words ≡ length (inlined rs)
  pub low : t ≤ g.next
  pub high : g.next ≤ t + rows_loads rs

well_more : (r : Row) (ws : List Expr) (rs : List Row) (t : ℕ) (g : Settled) → sum_steps ws ≤ row_worth r → length ws ≡ length (row_words r) → SettledWell rs t g → SettledWell (r ∷ rs) t (record g { words = ws ++ g.words })
well_more r ws rs t g worth size w =
    let a = sum_append ws g.words in
    let b = length-append ws g.words in
    let c = length-append (row_words r) (inlined rs) in
    record { worth = omega (arith, a, worth, w.worth); size = omega (arith, b, c, size, w.size); low = w.low; high = omega (arith, w.high) }

pub settled_well : (rs : List Row) (t : ℕ) → SettledWell rs t (settle rs t)
settled_well [] t = record { worth = omega arith; size = refl; low = omega arith; high = omega arith }
settled_well (row.Variables x n ∷ rs) t = let s = variables_steps x n in well_more (row.Variables x n) (variables x n) rs t (settle rs t) (omega (arith, s)) refl (settled_well rs t)
settled_well (row.One x ∷ rs) t = well_more (row.One x) (x ∷ []) rs t (settle rs t) (omega arith) refl (settled_well rs t)
settled_well (row.Loads a i n ∷ rs) t = by (nat_le 2 n) (λ b. grind (arith, nat_tests, b)) (settled_well rs t) (settled_well rs (suc t))
  where
    by : (b : Bool) → (b ≡ false → n ≤ 1) → SettledWell rs t (settle rs t) → SettledWell rs (suc t) (settle rs (suc t))
        → SettledWell (row.Loads a i n ∷ rs) t (if b then (let g = settle rs (suc t) in record g { before = stmt.Assign t a ∷ g.before; words = loads (e.Var t) i n ++ g.words }) else (let g = settle rs t in record g { words = loads a i n ++ g.words }))
    by true few w w' =
        let g = settle rs (suc t) in
        let ws = loads (e.Var t) i n in
        let s = loads_steps (e.Var t) i n in
        let v = steps_var t in
        let four : n * (3 + expr_steps (e.Var t)) ≡ n * 4 = ap (λ k. n * (3 + k)) v in
        let c = code_assign t a in
        let p = sum_append ws g.words in
        let q = length-append ws g.words in
        let r = length-append (loads a i n) (inlined rs) in
        let x = count_loads (e.Var t) i n in
        let y = count_loads a i n in
        record { worth = omega (arith, s, four, c, p, w'.worth); size = omega (arith, q, r, x, y, w'.size); low = omega (arith, w'.low); high = omega (arith, w'.high) }
    by false few w w' =
        let s = loads_steps a i n in
        let l : n * (3 + expr_steps a) ≤ 1 + expr_steps a + 4 * n = at_most n (few refl) in
        well_more (row.Loads a i n) (loads a i n) rs t (settle rs t) (omega (arith, s, l)) refl w
      where
        at_most : (k : ℕ) → k ≤ 1 → k * (3 + expr_steps a) ≤ 1 + expr_steps a + 4 * k
        at_most zero le = omega arith
        at_most (suc zero) le = omega arith
        at_most (suc (suc k)) le = absurd (omega (arith, le))

-- what is made of an expression of this shape and weight
pub record Cheap (f : Flat) (j : Judged) : Type 0 where
  pub shape : f.shape ≡ spread j.shape
  pub size : length (inlined f.rows) ≡ words_of f.shape
  pub some : 1 ≤ j.weight
  pub wide : rows_loads f.rows + words_of f.shape ≤ j.weight
  pub each : RowsCheap (2 * j.weight) f.rows
  pub sum : rows_worth f.rows ≤ 4 * j.weight

-- the word that stands first
pub first_cheap : (k : ℕ) (rs : List Row) → 1 ≤ k → RowsCheap k rs → expr_steps (first_of (inlined rs)) ≤ k
first_cheap k [] some h = let s = steps_num 0 in omega (arith, s, some)
first_cheap k (row.Variables x zero ∷ rs) some h = first_cheap k rs some h.1
first_cheap k (row.Variables x (suc n) ∷ rs) some h = let s = steps_var x in omega (arith, s, some)
first_cheap k (row.Loads a i zero ∷ rs) some h = first_cheap k rs some h.1
first_cheap k (row.Loads a i (suc n) ∷ rs) some h = let s = steps_load_word (far a i) in let f = far_steps a i in let g = h.0 (omega arith) in omega (arith, s, f, g)
first_cheap k (row.One x ∷ rs) some h = h.0

cheap_one : (x : Expr) (j : Judged) → j.shape ≡ shape.Word → 1 ≤ j.weight → expr_steps x ≤ 2 * j.weight → Cheap (one x) j
cheap_one x j s some le =
    let w = words_word in
    record {
      shape = sym spread_word ∙ ap spread (sym s);
      size = sym words_word;
      some = some;
      wide = omega (arith, w, some);
      each = (le, tt);
      sum = omega (arith, le);
    }

-- ---- several

-- what is made of each of some expressions
abbrev pub AllAreCheap : List Flat → List Judged → Type 0
AllAreCheap [] [] = Unit {0}
AllAreCheap (f ∷ fs) (j ∷ js) = Cheap f j × AllAreCheap fs js
AllAreCheap _ _ = ⊥

pub weights_more : (j : Judged) (js : List Judged) → weights (j ∷ js) ≡ j.weight + weights js
weights_more j js = sum_more j.weight (map (λ (j : Judged). j.weight) js)

-- the same of the rows of all of them
pub record RowsWell (fs : List Flat) (js : List Judged) : Type 0 where
  pub shapes : map (λ (f : Flat). f.shape) fs ≡ map spread (map (λ (j : Judged). j.shape) js)
  pub size : length (inlined (rows_of fs)) ≡ sum (map words_of (map (λ (f : Flat). f.shape) fs))
  pub wide : rows_loads (rows_of fs) + length (inlined (rows_of fs)) ≤ weights js
  pub each : RowsCheap (2 * weights js) (rows_of fs)
  pub sum : rows_worth (rows_of fs) ≤ 4 * weights js

pub rows_well : (fs : List Flat) (js : List Judged) → AllAreCheap fs js → RowsWell fs js
rows_well [] [] h = record { shapes = refl; size = refl; wide = omega arith; each = tt; sum = omega arith }
rows_well [] (j ∷ js) h = absurd h
rows_well (f ∷ fs) [] h = absurd h
rows_well (f ∷ fs) (j ∷ js) h =
    let w = weights_more j js in
    let c = h.0 in
    let r = rows_well fs js h.1 in
    let a = ap length (inlined_append f.rows (rows_of fs)) ∙ length-append (inlined f.rows) (inlined (rows_of fs)) in
    let b = sum_more (words_of f.shape) (map words_of (map (λ (f : Flat). f.shape) fs)) in
    let l = loads_append f.rows (rows_of fs) in
    let n = worth_append f.rows (rows_of fs) in
    record {
      shapes = ap (λ s. s ∷ map (λ (f : Flat). f.shape) fs) c.shape ∙ ap (λ ss. spread j.shape ∷ ss) r.shapes;
      size = omega (arith, a, b, c.size, r.size);
      wide = omega (arith, a, l, w, c.size, c.wide, r.wide);
      each = cheap_append (2 * weights (j ∷ js)) f.rows (rows_of fs) (cheap_more (2 * j.weight) (2 * weights (j ∷ js)) f.rows (omega (arith, w)) c.each) (cheap_more (2 * weights js) (2 * weights (j ∷ js)) (rows_of fs) (omega (arith, w)) r.each);
      sum = omega (arith, n, w, c.sum, r.sum);
    }

-- ---- parts

-- a part of what was made
record PartCheap (f : Flat) (p : Part) (n : ℕ) : Type 0 where
  pub shape : f.shape ≡ spread (part_shape p)
  pub size : length (inlined f.rows) ≡ words_of f.shape
  pub loads : rows_loads f.rows ≤ n
  pub each : RowsCheap (2 * n) f.rows
  pub sum : rows_worth f.rows ≤ 4 * n

part_nothing : (p : Part) (n : ℕ) → 1 ≤ n → part_shape p ≡ shape.Word → PartCheap nothing p n
part_nothing p n some e = let z = steps_num 0 in record { shape = sym spread_word ∙ ap spread (sym e); size = sym words_word; loads = omega arith; each = (omega (arith, z), tt); sum = omega (arith, z) }

-- the words before a part, and its own, are words of the whole
parts_before : (ss : List Shape) (i : ℕ) (s : Shape) → slice_get ss i ≡ Some s → sum (map words_of (take i ss)) + words_of s ≤ sum (map words_of ss)
parts_before [] i s h = absurd cc
parts_before (t ∷ ts) zero s h = let e : t ≡ s = cc in let w : words_of t ≡ words_of s = ap words_of e in let a = sum_more (words_of t) (map words_of ts) in omega (arith, w, a)
parts_before (t ∷ ts) (suc i) s h =
    let r = parts_before ts i s h in
    let a = sum_more (words_of t) (map words_of ts) in
    let b = sum_more (words_of t) (map words_of (take i ts)) in
    omega (arith, r, a, b)

-- a spread shape with parts is a group of them
group_of : (s : Shape) (ss : List Shape) → parts_of (spread s) ≡ Some ss → spread s ≡ shape.Group ss
group_of s ss h = subst (λ s. parts_of (spread s) ≡ Some ss → spread s ≡ shape.Group ss) (roll-out-Shape s) (at (out-Shape s)) h
  where
    no_parts : None ≡ Some ss → ⊥
    no_parts h = cc

    as_group : (s : Shape) (ts : List Shape) → s ≡ shape.Group ts → parts_of s ≡ Some ss → s ≡ shape.Group ss
    as_group s ts e h = let k : Some ts ≡ Some ss = sym (parts_group ts) ∙ ap parts_of (sym e) ∙ h in let same : ts ≡ ss = cc in e ∙ ap shape.Group same

    at : (x : Shape-F Shape) → parts_of (spread (roll-Shape x)) ≡ Some ss → spread (roll-Shape x) ≡ shape.Group ss
    at open_shape.Word = subst (λ s. parts_of (spread s) ≡ Some ss → spread s ≡ shape.Group ss) (sym shape.rolls-Word) (λ h. absurd (no_parts (sym (ap parts_of spread_word ∙ parts_word) ∙ h)))
    at (open_shape.Words n) = subst (λ s. parts_of (spread s) ≡ Some ss → spread s ≡ shape.Group ss) (sym (shape.rolls-Words n)) (λ h. as_group (spread (shape.Words n)) (replicate n shape.Word) (spread_words n) h)
    at (open_shape.Group ts) = subst (λ s. parts_of (spread s) ≡ Some ss → spread s ≡ shape.Group ss) (sym (shape.rolls-Group ts)) (λ h. as_group (spread (shape.Group ts)) (map spread ts) (spread_group ts) h)

-- a shape with parts, spread
spread_from_parts : (s : Shape) (ss : List Shape) → parts_of s ≡ Some ss → spread s ≡ shape.Group (map spread ss)
spread_from_parts s ss h = group_of s (map spread ss) (spread_parts s ∙ ap (option_map (map spread)) h)

part_step : (f : Flat) (p : Part) (n i : ℕ) → 1 ≤ n → PartCheap f p n → (q : Part) → part_at p (i ∷ []) ≡ q → PartCheap (part_among (parts_of f.shape) i f) q n
part_step f OfWord n i some c q e = subst (λ o. PartCheap (part_among o i f) q n) (sym (ap parts_of (c.shape ∙ spread_word) ∙ parts_word)) (subst (λ q. PartCheap nothing q n) e (part_nothing OfWord n some refl))
part_step f NoPart n i some c q e = subst (λ o. PartCheap (part_among o i f) q n) (sym (ap parts_of (c.shape ∙ spread_word) ∙ parts_word)) (subst (λ q. PartCheap nothing q n) e (part_nothing NoPart n some refl))
part_step f (APart s) n i some c q e =
    subst (λ o. PartCheap (part_among o i f) q n) (sym (ap parts_of c.shape ∙ spread_parts s)) (subst (λ q. PartCheap (part_among (option_map (map spread) (parts_of s)) i f) q n) e (at (parts_of s) refl))
  where
    found : (ss : List Shape) (o : Option Shape) → slice_get ss i ≡ o → words_of f.shape ≡ sum (map words_of (map spread ss)) → PartCheap (part_found (option_map spread o) (map spread ss) i f) (shapes.found o) n
    found ss None h long = part_nothing NoPart n some refl
    found ss (Some s) h long =
        let skip = sum (map words_of (take i (map spread ss))) in
        let k = words_of (spread s) in
        let less = cut_less (2 * n) skip k f.rows in
        let inside = parts_before (map spread ss) i (spread s) (slice_get-map spread ss i ∙ ap (option_map spread) h) in
        let a = ap length (cut_inlined skip k f.rows) in
        let b = length-take k (drop skip (inlined f.rows)) in
        let d = length-drop skip (inlined f.rows) in
        let m = c.size in
        record {
          shape = refl;
          size = omega (arith, a, b, d, m, long, inside);
          loads = let l = less.loads in let g = c.loads in omega (arith, l, g);
          each = less.each c.each;
          sum = let l = less.worth in let g = c.sum in omega (arith, l, g);
        }

    long_as : (ss : List Shape) → parts_of s ≡ Some ss → words_of f.shape ≡ sum (map words_of (map spread ss))
    long_as ss h = ap words_of (c.shape ∙ spread_from_parts s ss h) ∙ words_group (map spread ss)

    at : (o : Option (List Shape)) → parts_of s ≡ o → PartCheap (part_among (option_map (map spread) o) i f) (shapes.part_among o i) n
    at None h = part_nothing OfWord n some refl
    at (Some ss) h = subst (λ o. PartCheap (part_found o (map spread ss) i f) (shapes.found (slice_get ss i)) n) (sym (slice_get-map spread ss i)) (found ss (slice_get ss i) refl (long_as ss h))

part_more : (p : Part) (i : ℕ) (is : List ℕ) → part_at p (i ∷ is) ≡ part_at (part_at p (i ∷ [])) is
part_more (APart s) i is = refl
part_more OfWord i [] = refl
part_more OfWord i (j ∷ is) = refl
part_more NoPart i [] = refl
part_more NoPart i (j ∷ is) = refl

parts_cheap : (is : List ℕ) (f : Flat) (p : Part) (n : ℕ) → 1 ≤ n → PartCheap f p n → PartCheap (parts_at is f) (part_at p is) n
parts_cheap [] f p n some c = c
parts_cheap (i ∷ is) f p n some c = subst (λ q. PartCheap (parts_at is (part_among (parts_of f.shape) i f)) q n) (sym (part_more p i is)) (parts_cheap is (part_among (parts_of f.shape) i f) (part_at p (i ∷ [])) n some (part_step f p n i some c (part_at p (i ∷ [])) refl))

-- ---- expressions

abbrev pub IsCheap : ExprKind → Type 0
IsCheap k = (place : ℕ) (here : Places) (v : check.Scopes) → Static here v → Cheap (flat_kind k here) (judge_kind k place v)

abbrev Known : Type 0
Known = (k : ExprKind) × IsCheap k

abbrev plain : Spanned Known → Spanned ExprKind
plain e = record { kind = e.kind.0; span = e.span }

abbrev judging : Spanned ExprKind → Spanned Judging
judging e = record { kind = judge_kind e.kind; span = e.span }

abbrev flattening : Spanned ExprKind → Spanned (Places → Flat)
flattening e = record { kind = flat_kind e.kind; span = e.span }

module _ (place : ℕ) (here : Places) (v : check.Scopes) (st : Static here v) where
  abbrev judged_here : Spanned Known → Judged
  judged_here e = judge_kind (e.kind).0 e.span.start v

  abbrev made_here : Spanned Known → Flat
  made_here e = flat_kind (e.kind).0 here

  part_is : (e : Spanned Known) → Cheap (made_here e) (judged_here e)
  part_is e = (e.kind).1 e.span.start here v st

  word_is : (e : Spanned Known) → expr_steps (word_in (made_here e)) ≤ 2 * (judged_here e).weight
  word_is e = let c = part_is e in first_cheap (2 * (judged_here e).weight) (made_here e).rows (omega (arith, c.some)) c.each

  alone_weighs : (j : Judged) → weights (j ∷ []) ≡ j.weight
  alone_weighs j = weights_more j [] ∙ omega arith

  pair_weighs : (i j : Judged) → weights (i ∷ j ∷ []) ≡ i.weight + j.weight
  pair_weighs i j = weights_more i (j ∷ []) ∙ ap (λ n. i.weight + n) (alone_weighs j)

  all_are : (es : List (Spanned Known)) → AllAreCheap (map (λ (e : Spanned (Places → Flat)). e.kind here) (map flattening (map plain es))) (map (λ (e : Spanned Judging). e.kind e.span.start v) (map judging (map plain es)))
  all_are [] = tt
  all_are (e ∷ es) = (part_is e, all_are es)

  cheap_row_as : (s : Shape) (j : Judged) (q : Place) → j.shape ≡ s → q.shape ≡ spread s → j.weight ≡ 1 + words_of s → Cheap (variable_at (Some q)) j
  cheap_row_as s j q is same w =
      let n = words_of q.shape in
      let size : n ≡ words_of s = ap words_of same ∙ spread_size s in
      let long = length-append (variables q.first n) [] in
      let many = count_variables q.first n in
      record {
        shape = same ∙ ap spread (sym is);
        size = omega (arith, long, many);
        some = omega (arith, w);
        wide = omega (arith, w, size);
        each = (omega (arith, w), tt);
        sum = omega (arith, w, size);
      }

  cheap_variable : (o : Option Place) (b : Option Shape) (j : Judged) → option_map (λ (q : Place). q.shape) o ≡ option_map spread b → j.shape ≡ or_word b → j.weight ≡ 1 + words_of (or_word b) → Cheap (variable_at o) j
  cheap_variable None None j h s w = let z = steps_num 0 in cheap_one (e.Num 0) j s (omega (arith, w)) (omega (arith, z, w))
  cheap_variable None (Some b) j h s w = absurd cc
  cheap_variable (Some q) None j h s w = absurd cc
  cheap_variable (Some q) (Some b) j h s w = let same : q.shape ≡ spread b = cc in cheap_row_as b j q s same w

  cheap_load : (s : Shape) (a : Expr) (n : ℕ) (j : Judged) → 1 ≤ n → expr_steps a ≤ 2 * n → j.shape ≡ s → j.weight ≡ 1 + words_of s + n → Cheap (loaded s a) j
  cheap_load s a n j some le is w =
      let size = spread_size s in
      let long = length-append (loads a 0 (words_of s)) [] in
      let many = count_loads a 0 (words_of s) in
      record {
        shape = ap spread (sym is);
        size = omega (arith, long, many, size);
        some = omega (arith, w);
        wide = omega (arith, w, size, some);
        each = (λ h. omega (arith, w, le, h), tt);
        sum = omega (arith, w, le);
      }

  abbrev flats_of : List (BinOp × Spanned Known) → List (BinOp × Expr)
  flats_of ys = map (λ (y : BinOp × Spanned (Places → Flat)). (y.0, word_in ((y.1).kind here))) (map (λ (e : BinOp × Spanned ExprKind). (e.0, flattening e.1)) (map (λ (e : BinOp × Spanned Known). (e.0, plain e.1)) ys))

  abbrev judged_of : List (BinOp × Spanned Known) → List Judged
  judged_of ys = map (λ (y : BinOp × Spanned Judging). (y.1).kind (y.1).span.start v) (map (λ (e : BinOp × Spanned ExprKind). (e.0, judging e.1)) (map (λ (e : BinOp × Spanned Known). (e.0, plain e.1)) ys))

  cheap_chain : (ys : List (BinOp × Spanned Known)) (a : Expr) (n : ℕ) → expr_steps a ≤ n → expr_steps (chain a (flats_of ys)) ≤ n + (length ys + 2 * weights (judged_of ys))
  cheap_chain [] a n h = omega (arith, h)
  cheap_chain (y ∷ ys) a n h =
      let w = word_in (made_here y.1) in
      let b = steps_bin y.0 a w in
      let i = word_is y.1 in
      let k = 1 + n + 2 * (judged_here y.1).weight in
      let rest = cheap_chain ys (e.Bin y.0 a w) k (omega (arith, b, i, h)) in
      let m = weights_more (judged_here y.1) (judged_of ys) in
      omega (arith, rest, m)

  cheap_shifts : (ns : List (ShOp × ℕ)) (a : Expr) (n : ℕ) → expr_steps a ≤ n → expr_steps (shifts a ns) ≤ n + 3 * length ns
  cheap_shifts [] a n h = omega (arith, h)
  cheap_shifts (s ∷ ns) a n h =
      let b = steps_shift s.0 a s.1 in
      let rest = cheap_shifts ns (e.Shift s.0 a s.1) (3 + n) (omega (arith, b, h)) in
      omega (arith, rest)

  lengths : (ys : List (BinOp × Spanned Known)) → length {A = BinOp × Spanned Judging} (map (λ (e : BinOp × Spanned ExprKind). (e.0, judging e.1)) (map (λ (e : BinOp × Spanned Known). (e.0, plain e.1)) ys)) ≡ length ys
  lengths [] = refl
  lengths (y ∷ ys) = ap suc (lengths ys)

  layer_cheap : (y : ExprKind-F Known) → Cheap (flat_layer (map-ExprKind ExprKind (Places → Flat) flat_kind (map-ExprKind Known ExprKind (λ c. c.0) y)) here) (judge_layer (map-ExprKind ExprKind Judging judge_kind (map-ExprKind Known ExprKind (λ c. c.0) y)) place v)
  layer_cheap (source_expr.Number n) = let w = words_word in let s = steps_num n in cheap_one (e.Num n) _ refl (omega (arith, w)) (omega (arith, w, s))
  layer_cheap (source_expr.Var x) =
      cheap_variable (innermost x here) (innermost x v) _ (sym (innermost_shapes (λ (q : Place). q.shape) x here) ∙ ap (innermost x) st.same ∙ innermost_shapes spread x v) refl (omega arith)
  layer_cheap source_expr.Base = let w = words_word in let s = steps_num base_address in cheap_one (e.Num base_address) _ refl (omega (arith, w)) (omega (arith, w, s))
  layer_cheap source_expr.Biw = let w = words_word in let s = steps_num bytes_in_word in cheap_one (e.Num bytes_in_word) _ refl (omega (arith, w)) (omega (arith, w, s))
  layer_cheap (source_expr.Struct es) =
      let fs = map (λ (e : Spanned (Places → Flat)). e.kind here) (map flattening (map plain es)) in
      let js = map (λ (e : Spanned Judging). e.kind e.span.start v) (map judging (map plain es)) in
      let r = rows_well fs js (all_are es) in
      let s = spread_group (map (λ (j : Judged). j.shape) js) in
      let g = words_group (map (λ (f : Flat). f.shape) fs) in
      let k = ap words_of (ap shape.Group r.shapes ∙ sym s) ∙ spread_size (shape.Group (map (λ (j : Judged). j.shape) js)) in
      record {
        shape = ap shape.Group r.shapes ∙ sym s;
        size = r.size ∙ sym g;
        some = omega arith;
        wide = let w = r.wide in let z = r.size in omega (arith, w, z, g, k);
        each = cheap_more (2 * weights js) _ (rows_of fs) (omega arith) r.each;
        sum = let h = r.sum in omega (arith, h);
      }
  layer_cheap (source_expr.Field k is) =
      let c = part_is k in
      let j = judged_here k in
      let w = alone_weighs j in
      let r = parts_cheap is (made_here k) (APart j.shape) j.weight c.some (record { shape = c.shape; size = c.size; loads = let l = c.wide in omega (arith, l); each = c.each; sum = c.sum }) in
      let s = ap words_of r.shape ∙ spread_size (part_shape (part_at (APart j.shape) is)) in
      record {
        shape = r.shape;
        size = r.size;
        some = omega arith;
        wide = let l = r.loads in omega (arith, l, s, w);
        each = cheap_more (2 * j.weight) _ (parts_at is (made_here k)).rows (omega (arith, w)) r.each;
        sum = let h = r.sum in omega (arith, h, w);
      }
  layer_cheap (source_expr.Load s a) = cheap_load s (word_in (made_here a)) (judged_here a).weight _ (part_is a).some (word_is a) refl (ap (λ n. 1 + words_of s + n) (alone_weighs (judged_here a)))
  layer_cheap (source_expr.LoadByte a) =
      let w = alone_weighs (judged_here a) in let o = words_word in let i = word_is a in let s = steps_load_byte (word_in (made_here a)) in
      cheap_one (e.LoadByte (word_in (made_here a))) _ refl (omega arith) (omega (arith, w, o, i, s))
  layer_cheap (source_expr.Neg k) =
      let w = alone_weighs (judged_here k) in let o = words_word in let i = word_is k in let z = steps_num 0 in let s = steps_bin bin_op.Sub (e.Num 0) (word_in (made_here k)) in
      cheap_one (e.Bin bin_op.Sub (e.Num 0) (word_in (made_here k))) _ refl (omega arith) (omega (arith, w, o, i, z, s))
  layer_cheap (source_expr.Chain k ys) =
      let w = weights_more (judged_here k) (judged_of ys) in
      let l = lengths ys in
      let c = cheap_chain ys (word_in (made_here k)) (2 * (judged_here k).weight) (word_is k) in
      let some = (part_is k).some in
      cheap_one (chain (word_in (made_here k)) (flats_of ys)) _ refl (omega (arith, w, l, some)) (omega (arith, w, l, c))
  layer_cheap (source_expr.Shift k ns) =
      let w = alone_weighs (judged_here k) in
      let c = cheap_shifts ns (word_in (made_here k)) (2 * (judged_here k).weight) (word_is k) in
      let some = (part_is k).some in
      cheap_one (shifts (word_in (made_here k)) ns) _ refl (omega (arith, w, some)) (omega (arith, w, c))
  layer_cheap (source_expr.Compare c a b) =
      let w = pair_weighs (judged_here a) (judged_here b) in let o = words_word in let i = word_is a in let j = word_is b in let s = steps_compare c (word_in (made_here a)) (word_in (made_here b)) in
      cheap_one (e.Compare c (word_in (made_here a)) (word_in (made_here b))) _ refl (omega arith) (omega (arith, w, o, i, j, s))

pub kind_cheap : (k : ExprKind) → IsCheap k
kind_cheap = expr_induct IsCheap (λ y place here v st.
    let x = map-ExprKind Known ExprKind (λ c. c.0) y in
    subst (λ (f : Places → Flat). Cheap (f here) (judge_kind (roll-ExprKind x) place v)) (sym (flat_roll x))
    (subst (λ (j : Judging). Cheap (flat_layer (map-ExprKind ExprKind (Places → Flat) flat_kind x) here) (j place v)) (sym (judge_roll x)) (layer_cheap place here v st y)))
