-- The words of a flat expression are those of the source's value, and so are those of rows whose addresses are computed once.
use Rattle.std.proofs.Common.{◌≡◌, ℕ, zero, suc, ◌+◌, ◌*◌, ◌%◌, ◌^◌, ◌≤◌, List, [], ◌∷◌, ◌++◌, map, sum, take, drop, append-nil, length, Bool, true, false, Option, Some, None, slice_get, arith, refl, sym, ap, subst, ◌∙◌}
use Rattle.std.specs.Prelude.{option_map, option_and_then, nat_le, if◌then◌else◌}
use Rattle.std.proofs.Math.Seq.{take-append_seam, drop-append-add}
use Rattle.std.proofs.lemmas.Bool.Decides.{nat_tests}
use Rattle.std.proofs.lemmas.List.{take-append-drop}
use Rattle.pan_base.specs.Words.{operate, shift, negate, truth, base_address, bytes_in_word}
use Rattle.pan_base.specs.declared.operators.BinOp.{BinOp}
use Rattle.pan_base.specs.declared.operators.BinOp.TheVariants as bin_op
use Rattle.pan_base.specs.declared.operators.ShOp.{ShOp}
use Rattle.pan_base.specs.declared.events.Size.TheVariants.{B1}
use Rattle.pan_control.specs.Memory.{byte_at, words_at}
use Rattle.pan_stage.specs.Data.{read}
use Rattle.pan_stage.proofs.DataLaws.{byte_read}
use Rattle.pan_control.specs.Control.{Normal, in_turn, with_value}
use Rattle.pan_stage.specs.Locals.{Locals, write, read_from}
use Rattle.pan_stage.specs.Toll.{instructions_in_step}
use Rattle.pan_stage.proofs.Rows.{then_normal}
use Rattle.pan_tree.specs.Scopes.{innermost}
use Rattle.pan_tree.specs.Value.{Value, Word, Struct, Values, none, more, values_list, values_of, part, part_of_part, words_in, words_in_all}
use Rattle.pan_tree.specs.Shapes.{words_of, parts_of, shape_in, shapes_in, filled}
use Rattle.pan_tree.specs.Meaning as source
use Rattle.pan_tree.specs.Meaning.{Scopes, as_word, all_given, shifted}
use Rattle.pan_tree.proofs.ShapeLayers.{parts_group}
use Rattle.pan_tree.specs.declared.shape.Shape.{Shape}
use Rattle.pan_tree.specs.declared.shape.Shape.TheVariants as shape
use Rattle.pan_tree.specs.declared.spanned.Spanned.{Spanned}
use Rattle.pan_tree.specs.declared.syntax.ExprKind.{ExprKind, ExprKind-F, ind-ExprKind, roll-ExprKind, map-ExprKind, fold-roll-ExprKind}
use Rattle.pan_tree.specs.declared.syntax.ExprKind.TheOpen as source_expr
use Rattle.crep_lang.specs.Meaning.{run}
use Rattle.crep_lang.specs.Steps.{expr_steps}
use Rattle.crep_lang.specs.Needs.{code}
use Rattle.crep_lang.specs.declared.syntax.Expr.{Expr}
use Rattle.crep_lang.specs.declared.syntax.Expr.TheVariants as e
use Rattle.crep_lang.specs.declared.syntax.Stmt.{Stmt}
use Rattle.crep_lang.specs.declared.syntax.Stmt.TheVariants as stmt
use Rattle.crep_lang.proofs.Sizes.{code_assign}
use Rattle.crep_lang.proofs.Runs.{run_assign}
use Rattle.check_soundness.proofs.SpreadShapes.{list_of, shapes_list, filled_shape}
use Rattle.check_soundness.proofs.Alike.{sum_more}
use Rattle.crep_flatten.specs.declared.rows.Row.{Row}
use Rattle.crep_flatten.specs.declared.rows.Row.TheVariants as row
use Rattle.crep_flatten.specs.Rows.{loads, variables, inlined, Settled, settle}
use Rattle.crep_flatten.specs.Flattened.{rows_of}
use Rattle.crep_flatten.specs.Flat.{Place, Places, count, Flat, one, word_in, cut_flat, part_found, part_among, parts_at, chain, shifts, variable_at, loaded, flat_layer, flat_kind}
use Rattle.crep_flatten.proofs.Values.{words_shape, filled_words}
use Rattle.crep_flatten.proofs.RowWords.{cut, inlined_append, cut_inlined, loads_same, address_of}
use Rattle.crep_flatten.proofs.Holding.{placed, Holds, Agree, agree_sub, agree_then, holds_agree, FoundAt, Finds, found, write_same, write_other}
use Rattle.crep_flatten.proofs.WordLemmas.{map_some, then_some, words_more, words_append, words_drop, words_take, first_word, words_row, words_loads, words_at_length, runs_on}
use Rattle.pan_tree.specs.Running.{World}
use Rattle.pan_stage.specs.Data.{World as WordWorld, Callee as WordCallee, Outcome as WordOutcome}
use Rattle.crep_flatten.proofs.Beside.{with_toll, word, word_bin, word_byte, word_compare, word_num, word_shift, word_var, words}

-- ---- layers

source_roll : (y : ExprKind-F ExprKind) → source.value_kind (roll-ExprKind y) ≡ source.value_layer (map-ExprKind ExprKind source.Giving source.value_kind y)
unfolding source.value_kind
source_roll y = fold-roll-ExprKind source.Giving source.value_layer y

pub flat_roll : (y : ExprKind-F ExprKind) → flat_kind (roll-ExprKind y) ≡ flat_layer (map-ExprKind ExprKind (Places → Flat) flat_kind y)
unfolding flat_kind
flat_roll y = fold-roll-ExprKind (Places → Flat) flat_layer y

pub expr_induct : (P : ExprKind → Type 0) → ((y : ExprKind-F ((k : ExprKind) × P k)) → P (roll-ExprKind (map-ExprKind ((k : ExprKind) × P k) ExprKind (λ c. c.0) y))) → (k : ExprKind) → P k
expr_induct P at k = ind-ExprKind P (λ x y is. subst (λ x. P (roll-ExprKind x)) is (at y)) k

-- ---- what is to be shown

-- the steps of statements one after another
abbrev pub all_code : List Stmt → ℕ
all_code [] = 0
all_code (s ∷ ss) = code s + all_code ss

pub all_code_append : (ss ts : List Stmt) → all_code (ss ++ ts) ≡ all_code ss + all_code ts
all_code_append [] ts = omega arith
all_code_append (s ∷ ss) ts = ap (λ n. code s + n) (all_code_append ss ts) ∙ omega arith

-- so much is with_toll after so many steps
abbrev pub after : ℕ → ℕ → ℕ
after t n = t + instructions_in_step * n

module _ (v : Scopes) (m : List ℕ) where
  -- Statements have run: the variables below t are as they were, and wherever the source's variables are held and those from t to `next` are as they are now, some expressions give these words.
  pub record Ran (o : WordOutcome Locals (List ℕ)) (t : ℕ) (g : Settled) (ns : List ℕ) (u : Locals) (w : World) (did : ℕ) : Type 0 where
    pub behind : Locals
    pub is : o ≡ Normal behind (with_toll (after did (all_code g.before)) w)
    pub low : Agree 0 t u behind
    pub gives : (u' : Locals) → Holds v u' → Agree t g.next behind u' → words g.words u' m ≡ Some ns

  -- from a free variable on, the statements and the words that come of them are these
  pub record GivesShared (g : Settled) (t : ℕ) (ns : List ℕ) : Type 0 where
    pub next : t ≤ g.next
    pub run : (names : List (List ℕ)) (d : ℕ) (callee : WordCallee (List ℕ) (List ℕ)) (u : Locals) (did : ℕ) (w : World) → w.memory ≡ m → Holds v u
        → Ran (in_turn (map (run names d callee) g.before) u (with_toll did w)) t g ns u w did

  pub record Gives (f : Flat) (x : Value) : Type 0 where
    pub shape : f.shape ≡ shape_in x
    pub words : (u : Locals) → Holds v u → words (inlined f.rows) u m ≡ Some (words_in x)

  -- ---- words alone

  pub shared_alone : (xs : List Expr) (ns : List ℕ) (t : ℕ) → count (placed v) ≤ t → ((u : Locals) → Holds v u → words xs u m ≡ Some ns) → GivesShared (record { before = []; words = xs; next = t }) t ns
  shared_alone xs ns t le h = record {
    next = omega arith;
    run = λ names d callee u did w is holds. record {
      behind = u;
      is = ap (λ n. Normal u (with_toll n w)) (omega arith);
      low = record { at = λ y p q. refl };
      gives = λ u' holds' a. h u' holds';
    };
  }

  gives_one : (x : Expr) (n : ℕ) → ((u : Locals) → Holds v u → word x u m ≡ Some n) → Gives (one x) (Word n)
  gives_one x n h = record { shape = refl; words = λ u holds. words_more u m x [] n [] (h u holds) refl }

  pub gives_word : (f : Flat) (n : ℕ) → Gives f (Word n) → (u : Locals) → Holds v u → word (word_in f) u m ≡ Some n
  gives_word f n g u h = first_word u m (inlined f.rows) n (g.words u h)

  -- ---- one after another

  shared_then : (a b : Settled) (t : ℕ) (ns ms : List ℕ) → count (placed v) ≤ t → GivesShared a t ns → GivesShared b a.next ms → GivesShared (record { before = a.before ++ b.before; words = a.words ++ b.words; next = b.next }) t (ns ++ ms)
  shared_then a b t ns ms le f g = record {
    next = omega (arith, f.next, g.next);
    run = λ names d callee u did w is holds.
        let one = f.run names d callee u did w is holds in
        let kept = holds_agree v u one.behind (agree_sub 0 t 0 (count (placed v)) u one.behind (omega arith) le one.low) holds in
        let two = g.run names d callee one.behind (after did (all_code a.before)) w is kept in
        record {
          behind = two.behind;
          is = runs_on names d callee a.before b.before u one.behind (with_toll did w) (with_toll (after did (all_code a.before)) w) one.is ∙ two.is
              ∙ ap (λ n. Normal two.behind (with_toll n w)) (sums did (all_code a.before) (all_code b.before) (all_code (a.before ++ b.before)) (all_code_append a.before b.before));
          low = agree_then 0 t u one.behind two.behind one.low (agree_sub 0 a.next 0 t one.behind two.behind (omega arith) f.next two.low);
          gives = λ u' holds' ag. words_append u' m a.words b.words ns ms
              (one.gives u' holds' (agree_then t a.next one.behind two.behind u' (agree_sub 0 a.next t a.next one.behind two.behind (omega arith) (omega arith) two.low) (agree_sub t b.next t a.next two.behind u' (omega arith) g.next ag)))
              (two.gives u' holds' (agree_sub t b.next a.next b.next two.behind u' f.next (omega arith) ag));
        };
  }
    where
      sums : (did i j k : ℕ) → k ≡ i + j → after (after did i) j ≡ after did k
      sums did i j k h = omega arith

  -- ---- rows

  -- the words of rows behind some words
  behind : (xs : List Expr) (ys : List Expr) (ns : List ℕ) → ((u : Locals) → Holds v u → words (xs ++ ys) u m ≡ Some ns)
      → ((u : Locals) → Holds v u → words xs u m ≡ Some (take (length xs) ns)) × ((u : Locals) → Holds v u → words ys u m ≡ Some (drop (length xs) ns)) × (take (length xs) ns ++ drop (length xs) ns ≡ ns)
  behind xs ys ns h = (
    λ u holds. ap (λ zs. words zs u m) (sym (take-append_seam xs ys)) ∙ words_take u m (length xs) (xs ++ ys) ns (h u holds),
    λ u holds. ap (λ zs. words zs u m) (sym (drop_seam xs ys)) ∙ words_drop u m (length xs) (xs ++ ys) ns (h u holds),
    take-append-drop (length xs) ns,
  )
    where
      drop_seam : (xs ys : List Expr) → drop (length xs) (xs ++ ys) ≡ ys
      drop_seam [] ys = refl
      drop_seam (x ∷ xs) ys = drop_seam xs ys

  -- an address that is computed once
  gives_once : (a : Expr) (i k t : ℕ) (ns : List ℕ) → count (placed v) ≤ t → ((u : Locals) → Holds v u → words (loads a i (suc k)) u m ≡ Some ns)
      → GivesShared (record { before = stmt.Assign t a ∷ []; words = loads (e.Var t) i (suc k); next = suc t }) t ns
  gives_once a i k t ns le h = record {
    next = omega arith;
    run = λ names d callee u did w is holds.
        let at = address_of u m a i k ns (h u holds) in
        record {
          behind = write t at.0 u;
          is = then_normal (run names d callee (stmt.Assign t a) u (with_toll did w)) ∙ run_assign names d callee t a u (with_toll did w)
              ∙ ap (λ o. act_after o t u (with_toll (after did (1 + expr_steps a)) w)) (ap (word a u) is ∙ at.1)
              ∙ ap (λ n. Normal (write t at.0 u) (with_toll n w)) (ap (after did) (sym (ap (λ k. k + 0) (code_assign t a) ∙ omega arith)));
          low = record { at = λ y p q. write_other t at.0 u y (omega arith) };
          gives = λ u' holds' ag.
              loads_same (e.Var t) a i (suc k) u' u m (word_var t u' m ∙ ap Some (ag.at t (omega arith) (omega arith) ∙ write_same t at.0 u) ∙ sym at.1) ∙ h u holds;
        };
  }
    where
      act_after : Option ℕ → ℕ → Locals → WordWorld → WordOutcome Locals (List ℕ)
      act_after o t u w = with_value o w (λ n. Normal (write t n u) w)

  pub settle_gives : (rs : List Row) (t : ℕ) (ns : List ℕ) → count (placed v) ≤ t → ((u : Locals) → Holds v u → words (inlined rs) u m ≡ Some ns) → GivesShared (settle rs t) t ns
  settle_gives [] t ns le h = shared_alone [] ns t le h
  settle_gives (row.Variables x n ∷ rs) t ns le h =
      let s = behind (variables x n) (inlined rs) ns h in
      let k = length (variables x n) in
      subst (GivesShared (settle (row.Variables x n ∷ rs) t) t) s.2
      (shared_then (record { before = []; words = variables x n; next = t }) (settle rs t) t (take k ns) (drop k ns) le (shared_alone (variables x n) (take k ns) t le s.0) (settle_gives rs t (drop k ns) le s.1))
  settle_gives (row.One x ∷ rs) t ns le h =
      let s = behind (x ∷ []) (inlined rs) ns h in
      subst (GivesShared (settle (row.One x ∷ rs) t) t) s.2
      (shared_then (record { before = []; words = x ∷ []; next = t }) (settle rs t) t (take 1 ns) (drop 1 ns) le (shared_alone (x ∷ []) (take 1 ns) t le s.0) (settle_gives rs t (drop 1 ns) le s.1))
  settle_gives (row.Loads a i n ∷ rs) t ns le h =
      let s = behind (loads a i n) (inlined rs) ns h in
      let k = length (loads a i n) in
      subst (GivesShared (settle (row.Loads a i n ∷ rs) t) t) s.2
      (by (nat_le 2 n) n (take k ns) (drop k ns) (λ b. grind (arith, nat_tests, b)) s.0 (settle_gives rs t (drop k ns) le s.1) (settle_gives rs (suc t) (drop k ns) (omega arith) s.1))
    where
      by : (b : Bool) (n : ℕ) (ks ms : List ℕ) → (b ≡ true → 2 ≤ n) → ((u : Locals) → Holds v u → words (loads a i n) u m ≡ Some ks) → GivesShared (settle rs t) t ms → GivesShared (settle rs (suc t)) (suc t) ms
          → GivesShared (if b then (let g = settle rs (suc t) in record g { before = stmt.Assign t a ∷ g.before; words = loads (e.Var t) i n ++ g.words }) else (let g = settle rs t in record g { words = loads a i n ++ g.words })) t (ks ++ ms)
      by true zero ks ms wide h g g' = absurd (let w = wide refl in omega (arith, w))
      by true (suc n) ks ms wide h g g' = shared_then (record { before = stmt.Assign t a ∷ []; words = loads (e.Var t) i (suc n); next = suc t }) (settle rs (suc t)) t ks ms le (gives_once a i n t ks le h) g'
      by false n ks ms wide h g g' = shared_then (record { before = []; words = loads a i n; next = t }) (settle rs t) t ks ms le (shared_alone (loads a i n) ks t le h) g

  pub settled_gives : (f : Flat) (x : Value) (t : ℕ) → count (placed v) ≤ t → Gives f x → GivesShared (settle f.rows t) t (words_in x)
  settled_gives f x t le g = settle_gives f.rows t (words_in x) le g.words

  -- ---- structs

  -- each part gives its value
  pub record GivesAll (fs : List Flat) (xs : List Value) : Type 0 where
    pub shapes : map (λ f. f.shape) fs ≡ map shape_in xs
    pub words : (u : Locals) → Holds v u → words (inlined (rows_of fs)) u m ≡ Some (words_in_all (values_of xs))

  pub gives_none : GivesAll [] []
  gives_none = record { shapes = refl; words = λ u h. refl }

  pub gives_more : (f : Flat) (fs : List Flat) (x : Value) (xs : List Value) → Gives f x → GivesAll fs xs → GivesAll (f ∷ fs) (x ∷ xs)
  gives_more f fs x xs g gs = record {
    shapes = ap (λ s. s ∷ map (λ f. f.shape) fs) g.shape ∙ ap (λ ss. shape_in x ∷ ss) gs.shapes;
    words = λ u h. ap (λ ws. words ws u m) (inlined_append f.rows (rows_of fs)) ∙ words_append u m (inlined f.rows) (inlined (rows_of fs)) (words_in x) (words_in_all (values_of xs)) (g.words u h) (gs.words u h);
  }

  gives_struct : (fs : List Flat) (xs : List Value) → GivesAll fs xs → Gives (record { shape = shape.Group (map (λ f. f.shape) fs); rows = rows_of fs }) (Struct (values_of xs))
  gives_struct fs xs g = record {
    shape = ap shape.Group (g.shapes ∙ ap (map shape_in) (sym (list_of xs)) ∙ sym (shapes_list (values_of xs)));
    words = g.words;
  }

  -- ---- parts

  cut_words : (vs : Values) (i : ℕ) (z : Value) → slice_get (values_list vs) i ≡ Some z
      → (slice_get (shapes_in vs) i ≡ Some (shape_in z)) × (cut (sum (map words_of (take i (shapes_in vs)))) (words_of (shape_in z)) (words_in_all vs) ≡ words_in z)
  cut_words none i z h = absurd cc
  cut_words (more a vs) zero z h =
      let e : a ≡ z = cc in
      subst (λ z. (Some (shape_in a) ≡ Some (shape_in z)) × (take (words_of (shape_in z)) (words_in a ++ words_in_all vs) ≡ words_in z)) e
      (refl, ap (λ n. take n (words_in a ++ words_in_all vs)) (words_shape a) ∙ take-append_seam (words_in a) (words_in_all vs))
  cut_words (more a vs) (suc i) z h =
      let r = cut_words vs i z h in
      let skip = sum (map words_of (take i (shapes_in vs))) in (
        r.0,
        ap (λ n. take (words_of (shape_in z)) (drop n (words_in a ++ words_in_all vs))) (sum_more (words_of (shape_in a)) (map words_of (take i (shapes_in vs))) ∙ ap (λ n. n + skip) (words_shape a))
            ∙ ap (take (words_of (shape_in z))) (drop-append-add (words_in a) (words_in_all vs) skip) ∙ r.1,
      )

  gives_cut : (f : Flat) (x z : Value) (skip : ℕ) → Gives f x → cut skip (words_of (shape_in z)) (words_in x) ≡ words_in z → Gives (cut_flat skip (shape_in z) f) z
  gives_cut f x z skip g e = record {
    shape = refl;
    words = λ u h.
        let n = words_of (shape_in z) in
        ap (λ ws. words ws u m) (cut_inlined skip n f.rows)
        ∙ words_take u m n (drop skip (inlined f.rows)) (drop skip (words_in x)) (words_drop u m skip (inlined f.rows) (words_in x) (g.words u h)) ∙ ap Some e;
  }

  gives_part : (f : Flat) (x z : Value) (i : ℕ) → Gives f x → part x i ≡ Some z → Gives (part_among (parts_of f.shape) i f) z
  gives_part f (Word n) z i g h = absurd cc
  gives_part f (Struct vs) z i g h =
      let found = cut_words vs i z h in
      let is : parts_of f.shape ≡ Some (shapes_in vs) = ap parts_of g.shape ∙ parts_group (shapes_in vs) in
      subst (λ o. Gives (part_among o i f) z) (sym is) (at (slice_get (shapes_in vs) i) found.0 found.1)
    where
      at : (o : Option Shape) → o ≡ Some (shape_in z) → cut (sum (map words_of (take i (shapes_in vs)))) (words_of (shape_in z)) (words_in_all vs) ≡ words_in z
          → Gives (part_found o (shapes_in vs) i f) z
      at None h e = absurd cc
      at (Some s) h e = let same : s ≡ shape_in z = cc in
          subst (λ s. Gives (cut_flat (sum (map words_of (take i (shapes_in vs)))) s f) z) (sym same) (gives_cut f (Struct vs) z (sum (map words_of (take i (shapes_in vs)))) g e)

  no_part : (is : List ℕ) (y : Value) → part_of_part None is ≡ Some y → ⊥
  no_part [] y h = absurd cc
  no_part (i ∷ is) y h = no_part is y h

  gives_parts : (is : List ℕ) (f : Flat) (x y : Value) → Gives f x → part_of_part (Some x) is ≡ Some y → Gives (parts_at is f) y
  gives_parts [] f x y g h = let e : x ≡ y = cc in subst (Gives f) e g
  gives_parts (i ∷ is) f x y g h = by (part x i) refl h (λ z g' h'. gives_parts is (part_among (parts_of f.shape) i f) z y g' h')
    where
      by : (o : Option Value) → part x i ≡ o → part_of_part o is ≡ Some y → ((z : Value) → Gives (part_among (parts_of f.shape) i f) z → part_of_part (Some z) is ≡ Some y → Gives (parts_at is (part_among (parts_of f.shape) i f)) y)
          → Gives (parts_at is (part_among (parts_of f.shape) i f)) y
      by None is' h go = absurd (no_part is y h)
      by (Some z) is' h go = go z (gives_part f x z i g is') h

  -- ---- loads

  gives_load : (s : Shape) (a : Expr) (addr : ℕ) (ns : List ℕ) → ((u : Locals) → Holds v u → word a u m ≡ Some addr) → words_at m addr (words_of s) ≡ Some ns → Gives (loaded s a) (filled s ns)
  gives_load s a addr ns ha hm =
      let are : words_in (filled s ns) ≡ ns = filled_words s ns (words_at_length m addr (words_of s) ns hm) in
      record {
        shape = sym (filled_shape s ns);
        words = λ u h. ap (λ ws. words ws u m) (append-nil (loads a 0 (words_of s))) ∙ words_loads u m a addr 0 (words_of s) ns (ha u h) hm ∙ ap Some (sym are);
      }

  -- ---- variables

  gives_variable : (x : List ℕ) (a : Value) → innermost x v ≡ Some a → (w : Locals) → Holds v w → Gives (variable_at (innermost x (placed v))) a
  gives_variable x a h w held =
      let f = at w held in
      subst (λ o. Gives (variable_at o) a) (sym f.is)
      (record {
        shape = f.shape;
        words = λ u holds.
            let g = at u holds in
            let same : Some f.place ≡ Some g.place = sym f.is ∙ g.is in
            let place : f.place ≡ g.place = cc in
            ap (λ ws. words ws u m) (append-nil (variables f.place.first (words_of f.place.shape))) ∙ words_row u m f.place.first (words_of f.place.shape)
            ∙ ap Some (ap (λ (q : Place). read_from q.first (words_of q.shape) u) place ∙ ap (λ s. read_from g.place.first (words_of s) u) g.shape ∙ g.holds);
      })
    where
      at : (u : Locals) → Holds v u → FoundAt (innermost x (placed v)) a u
      at u holds = subst (λ o. Finds o (innermost x (placed v)) u) h (found x v u holds)

  -- ---- chains and shifts

  pub as_word_some : (o : Option Value) (n : ℕ) → as_word o ≡ Some n → o ≡ Some (Word n)
  as_word_some None n h = absurd cc
  as_word_some (Some (Word k)) n h = let e : k ≡ n = cc in ap (λ n. Some (Word n)) e
  as_word_some (Some (Struct vs)) n h = absurd cc

-- ---- expressions

abbrev pub Means : ExprKind → Type 0
Means k = (v : Scopes) (m : List ℕ) (u : Locals) (x : Value) → Holds v u → source.value_kind k v m ≡ Some x → Gives v m (flat_kind k (placed v)) x

abbrev Known : Type 0
Known = (k : ExprKind) × Means k

abbrev plain : Spanned Known → Spanned ExprKind
plain e = record { kind = e.kind.0; span = e.span }

abbrev giving : Spanned ExprKind → Spanned source.Giving
giving e = record { kind = source.value_kind e.kind; span = e.span }

abbrev flattening : Spanned ExprKind → Spanned (Places → Flat)
flattening e = record { kind = flat_kind e.kind; span = e.span }

module _ (v : Scopes) (m : List ℕ) (u : Locals) (held : Holds v u) where
  abbrev flat_here : Spanned (Places → Flat) → Flat
  flat_here e = e.kind (placed v)

  -- the word of a part
  word_gives : (e : Spanned Known) (n : ℕ) → as_word (source.value_kind (e.kind).0 v m) ≡ Some n → (u' : Locals) → Holds v u' → word (word_in (flat_kind (e.kind).0 (placed v))) u' m ≡ Some n
  word_gives e n h = gives_word v m (flat_kind (e.kind).0 (placed v)) n ((e.kind).1 v m u (Word n) held (as_word_some v m (source.value_kind (e.kind).0 v m) n h))

  each_gives : (es : List (Spanned Known)) (xs : List Value) → all_given (map (λ (e : Spanned source.Giving). e.kind v m) (map giving (map plain es))) ≡ Some xs → GivesAll v m (map flat_here (map flattening (map plain es))) xs
  each_gives [] xs h = let e : [] ≡ xs = cc in subst (GivesAll v m []) e (gives_none v m)
  each_gives (e ∷ es) xs h = by (source.value_kind (e.kind).0 v m) refl h (each_gives es)
    where
      by : (o : Option Value) → source.value_kind (e.kind).0 v m ≡ o → all_given (o ∷ map (λ (e : Spanned source.Giving). e.kind v m) (map giving (map plain es))) ≡ Some xs
          → ((xs : List Value) → all_given (map (λ (e : Spanned source.Giving). e.kind v m) (map giving (map plain es))) ≡ Some xs → GivesAll v m (map flat_here (map flattening (map plain es))) xs)
          → GivesAll v m (flat_kind (e.kind).0 (placed v) ∷ map flat_here (map flattening (map plain es))) xs
      by None is h go = absurd cc
      by (Some x) is h go =
          let s = map_some (λ others. x ∷ others) (all_given (map (λ (e : Spanned source.Giving). e.kind v m) (map giving (map plain es)))) xs h in
          subst (GivesAll v m (flat_kind (e.kind).0 (placed v) ∷ map flat_here (map flattening (map plain es)))) s.2
          (gives_more v m (flat_kind (e.kind).0 (placed v)) (map flat_here (map flattening (map plain es))) x s.0 ((e.kind).1 v m u x held is) (go s.0 s.1))

  -- operators from the left, with what is left of a chain
  abbrev sources_of : List (BinOp × Spanned Known) → List (BinOp × Spanned source.Giving)
  sources_of ys = map (λ (e : BinOp × Spanned ExprKind). (e.0, giving e.1)) (map (λ (e : BinOp × Spanned Known). (e.0, plain e.1)) ys)

  abbrev flats_of : List (BinOp × Spanned Known) → List (BinOp × Expr)
  flats_of ys = map (λ (y : BinOp × Spanned (Places → Flat)). (y.0, word_in ((y.1).kind (placed v)))) (map (λ (e : BinOp × Spanned ExprKind). (e.0, flattening e.1)) (map (λ (e : BinOp × Spanned Known). (e.0, plain e.1)) ys))

  abbrev GivesWord : Expr → ℕ → Type 0
  GivesWord a n = (u' : Locals) → Holds v u' → word a u' m ≡ Some n

  no_chain : (es : List (BinOp × Spanned source.Giving)) (n : ℕ) → source.chain None es v m ≡ Some n → ⊥
  no_chain [] n h = absurd cc
  no_chain (e ∷ es) n h = absurd cc

  chain_by : (a : Option ℕ) (o : BinOp) (i : ℕ) (ys : List (BinOp × Spanned source.Giving)) (n : ℕ) (Goal : Type 0) → source.chain (option_map (operate o i) a) ys v m ≡ Some n
      → ((j : ℕ) → a ≡ Some j → source.chain (Some (operate o i j)) ys v m ≡ Some n → Goal) → Goal
  chain_by None o i ys n Goal g go = absurd (no_chain ys n g)
  chain_by (Some j) o i ys n Goal g go = go j refl g

  chain_gives : (ys : List (BinOp × Spanned Known)) (a : Expr) (i n : ℕ) → GivesWord a i → source.chain (Some i) (sources_of ys) v m ≡ Some n → GivesWord (chain a (flats_of ys)) n
  chain_gives [] a i n h g = λ u' held'. h u' held' ∙ g
  chain_gives (y ∷ ys) a i n h g =
      let w = word_in (flat_kind ((y.1).kind).0 (placed v)) in
      chain_by (as_word (source.value_kind ((y.1).kind).0 v m)) y.0 i (sources_of ys) n (GivesWord (chain (e.Bin y.0 a w) (flats_of ys)) n) g (λ j at g'.
      chain_gives ys (e.Bin y.0 a w) (operate y.0 i j) n (λ u' held'.
      word_bin y.0 a w u' m ∙ ap (option_and_then (λ x. option_map (operate y.0 x) (word w u' m))) (h u' held') ∙ ap (option_map (operate y.0 i)) (word_gives y.1 j at u' held')) g')

  shifts_give : (a : Expr) (ns : List (ShOp × ℕ)) (i : ℕ) → ((u' : Locals) → Holds v u' → word a u' m ≡ Some i) → (u' : Locals) → Holds v u' → word (shifts a ns) u' m ≡ Some (shifted ns i)
  shifts_give a [] i h = h
  shifts_give a (n ∷ ns) i h = shifts_give (e.Shift n.0 a n.1) ns (shift n.0 i n.1) (λ u' held'. word_shift n.0 a n.1 u' m ∙ ap (option_map (λ x. shift n.0 x n.1)) (h u' held'))

  chain_first : (o : Option ℕ) (es : List (BinOp × Spanned source.Giving)) (n : ℕ) → source.chain o es v m ≡ Some n → (i : ℕ) × (o ≡ Some i)
  chain_first None es n h = absurd (no_chain es n h)
  chain_first (Some i) es n h = (i, refl)

  layer_means : (y : ExprKind-F Known) (x : Value) → source.value_layer (map-ExprKind ExprKind source.Giving source.value_kind (map-ExprKind Known ExprKind (λ c. c.0) y)) v m ≡ Some x
      → Gives v m (flat_layer (map-ExprKind ExprKind (Places → Flat) flat_kind (map-ExprKind Known ExprKind (λ c. c.0) y)) (placed v)) x
  layer_means (source_expr.Number n) x h = let is : Word n ≡ x = cc in subst (Gives v m (one (e.Num n))) is (gives_one v m (e.Num n) n (λ u' held'. word_num n u' m))
  layer_means (source_expr.Var name) x h = gives_variable v m name x h u held
  layer_means source_expr.Base x h = let is : Word base_address ≡ x = cc in subst (Gives v m (one (e.Num base_address))) is (gives_one v m (e.Num base_address) base_address (λ u' held'. word_num base_address u' m))
  layer_means source_expr.Biw x h = let is : Word bytes_in_word ≡ x = cc in subst (Gives v m (one (e.Num bytes_in_word))) is (gives_one v m (e.Num bytes_in_word) bytes_in_word (λ u' held'. word_num bytes_in_word u' m))
  layer_means (source_expr.Struct es) x h =
      let s = map_some (λ vs. Struct (values_of vs)) (all_given (map (λ (e : Spanned source.Giving). e.kind v m) (map giving (map plain es)))) x h in
      let fs = map flat_here (map flattening (map plain es)) in
      subst (Gives v m (record { shape = shape.Group (map (λ f. f.shape) fs); rows = rows_of fs })) s.2 (gives_struct v m fs s.0 (each_gives es s.0 s.1))
  layer_means (source_expr.Field k is) x h =
      by (source.value_kind (k.kind).0 v m) refl h
    where
      by : (o : Option Value) → source.value_kind (k.kind).0 v m ≡ o → part_of_part o is ≡ Some x → Gives v m (parts_at is (flat_kind (k.kind).0 (placed v))) x
      by None e h = absurd (no_part v m is x h)
      by (Some z) e h = gives_parts v m is (flat_kind (k.kind).0 (placed v)) z x ((k.kind).1 v m u z held e) h
  layer_means (source_expr.Load s a) x h =
      let one = then_some (λ addr. option_map (filled s) (words_at m addr (words_of s))) (as_word (source.value_kind (a.kind).0 v m)) x h in
      let two = map_some (filled s) (words_at m one.0 (words_of s)) x one.2 in
      subst (Gives v m (loaded s (word_in (flat_kind (a.kind).0 (placed v))))) two.2 (gives_load v m s (word_in (flat_kind (a.kind).0 (placed v))) one.0 two.0 (word_gives a one.0 one.1) two.1)
  layer_means (source_expr.LoadByte a) x h =
      let w = word_in (flat_kind (a.kind).0 (placed v)) in
      let s = map_some Word (option_and_then (byte_at m) (as_word (source.value_kind (a.kind).0 v m))) x h in
      let t = then_some (byte_at m) (as_word (source.value_kind (a.kind).0 v m)) s.0 s.1 in
      subst (Gives v m (one (e.LoadByte w))) s.2 (gives_one v m (e.LoadByte w) s.0 (λ u' held'. word_byte w u' m ∙ ap (option_and_then (read B1 [] m)) (word_gives a t.0 t.1 u' held') ∙ byte_read [] m t.0 s.0 t.2))
  layer_means (source_expr.Neg k) x h =
      let w = word_in (flat_kind (k.kind).0 (placed v)) in
      let s = map_some (λ n. Word (negate n)) (as_word (source.value_kind (k.kind).0 v m)) x h in
      subst (Gives v m (one (e.Bin bin_op.Sub (e.Num 0) w))) s.2 (gives_one v m (e.Bin bin_op.Sub (e.Num 0) w) (negate s.0) (λ u' held'.
      word_bin bin_op.Sub (e.Num 0) w u' m ∙ ap (option_and_then (λ x. option_map (operate bin_op.Sub x) (word w u' m))) (word_num 0 u' m) ∙ ap (option_map (operate bin_op.Sub 0)) (word_gives k s.0 s.1 u' held')
      ∙ ap (λ n. Some (n % 2 ^ 64)) (omega arith)))
  layer_means (source_expr.Chain k ys) x h =
      let rest = map (λ (e : BinOp × Spanned ExprKind). (e.0, giving e.1)) (map (λ (e : BinOp × Spanned Known). (e.0, plain e.1)) ys) in
      let w = word_in (flat_kind (k.kind).0 (placed v)) in
      let s = map_some Word (source.chain (as_word (source.value_kind (k.kind).0 v m)) rest v m) x h in
      let f = chain_first (as_word (source.value_kind (k.kind).0 v m)) rest s.0 s.1 in
      let all = chain w (map (λ (y : BinOp × Spanned (Places → Flat)). (y.0, word_in ((y.1).kind (placed v)))) (map (λ (e : BinOp × Spanned ExprKind). (e.0, flattening e.1)) (map (λ (e : BinOp × Spanned Known). (e.0, plain e.1)) ys))) in
      subst (Gives v m (one all)) s.2 (gives_one v m all s.0 (chain_gives ys w f.0 s.0 (word_gives k f.0 f.1) (ap (λ o. source.chain o rest v m) (sym f.1) ∙ s.1)))
  layer_means (source_expr.Shift k ns) x h =
      let w = word_in (flat_kind (k.kind).0 (placed v)) in
      let s = map_some (λ n. Word (shifted ns n)) (as_word (source.value_kind (k.kind).0 v m)) x h in
      subst (Gives v m (one (shifts w ns))) s.2 (gives_one v m (shifts w ns) (shifted ns s.0) (shifts_give w ns s.0 (word_gives k s.0 s.1)))
  layer_means (source_expr.Compare c a b) x h =
      let i = word_in (flat_kind (a.kind).0 (placed v)) in
      let j = word_in (flat_kind (b.kind).0 (placed v)) in
      let s = then_some (λ x. option_map (λ y. Word (truth c x y)) (as_word (source.value_kind (b.kind).0 v m))) (as_word (source.value_kind (a.kind).0 v m)) x h in
      let t = map_some (λ y. Word (truth c s.0 y)) (as_word (source.value_kind (b.kind).0 v m)) x s.2 in
      subst (Gives v m (one (e.Compare c i j))) t.2 (gives_one v m (e.Compare c i j) (truth c s.0 t.0) (λ u' held'.
      word_compare c i j u' m ∙ ap (option_and_then (λ x. option_map (truth c x) (word j u' m))) (word_gives a s.0 s.1 u' held') ∙ ap (option_map (truth c s.0)) (word_gives b t.0 t.1 u' held')))

pub kind_means : (k : ExprKind) → Means k
kind_means = expr_induct Means (λ y v m u x held h.
    subst (λ (f : Places → Flat). Gives v m (f (placed v)) x) (sym (flat_roll (map-ExprKind Known ExprKind (λ c. c.0) y)))
    (layer_means v m u held y x (sym (ap (λ (g : source.Giving). g v m) (source_roll (map-ExprKind Known ExprKind (λ c. c.0) y))) ∙ h)))
