-- Places beside the check's variables and beside the source's.
use Rattle.std.proofs.Common.{◌≡◌, ℕ, zero, suc, ◌+◌, Bool, true, List, [], ◌∷◌, ◌++◌, map, sum, replicate, Some, None, slice_get, arith, refl, sym, ap, subst, ◌∙◌}
use Rattle.std.specs.Prelude.{position}
use Rattle.std.proofs.Math.ListN.{get_or}
use Rattle.std.proofs.lemmas.Option.{slice_get-get_or}
use Rattle.std.proofs.lemmas.List.Quantifiers.{position-Some}
use Rattle.pan_tree.specs.Scopes.{declare}
use Rattle.pan_tree.specs.Value.{Value, values_of, words_in, words_in_all}
use Rattle.pan_tree.specs.Shapes.{words_of, words_layer, shape_in, Filling, filling, zero_of, fill_layer, fill_word, fill_each}
use Rattle.pan_tree.specs.Check as check
use Rattle.pan_tree.specs.Check.{State, Doing, do_layer, do_kind, result_of, function_of}
use Rattle.pan_tree.specs.Meaning.{Scope, Scopes, shapes}
use Rattle.pan_tree.specs.declared.shape.Shape.{Shape, Shape-F, roll-Shape, map-Shape, fold-roll-Shape}
use Rattle.pan_tree.specs.declared.shape.Shape.TheOpen as open_shape
use Rattle.pan_tree.specs.declared.syntax.Target.{Target}
use Rattle.pan_tree.specs.declared.syntax.Target.TheVariants as target
use Rattle.pan_tree.specs.declared.syntax.StmtKind.{StmtKind, StmtKind-F, out-StmtKind, roll-StmtKind, roll-out-StmtKind, map-StmtKind, fold-roll-StmtKind}
use Rattle.pan_tree.specs.declared.syntax.StmtKind.TheOpen as stmt
use Rattle.pan_tree.proofs.CheckLayers.{do_roll}
use Rattle.check_soundness.specs.Spread.{spread}
use Rattle.check_soundness.proofs.SpreadShapes.{shape_induct, spread_value}
use Rattle.check_soundness.proofs.Alike.{sum_more}
use Rattle.check_soundness.proofs.AlikeScopes.{at_shape, at_shapes, declare_shapes, spread_shapes}
use Rattle.check_soundness.proofs.Fitting.{Fits}
use Rattle.crep_flatten.specs.Flat.{Place, Places, count, flat}
use Rattle.crep_flatten.specs.Flattened.{new_place, after_target, Flattening, flat_layer, flat_stmt}
use Rattle.crep_flatten.proofs.Holding.{size, number, placed, block_size, placed_count}
use Rattle.crep_flatten.proofs.Costs.{Static, kind_cheap}

abbrev pub shape_at : Place → Shape
shape_at q = q.shape

-- ---- the source's variables

numbered_shapes : (n : ℕ) (scope : Scope) → at_shape shape_at (number n scope) ≡ at_shape spread (at_shape shape_in scope)
numbered_shapes n [] = refl
numbered_shapes n (x ∷ xs) =
    ap (λ s. (x.0, s) ∷ at_shape shape_at (number (n + size x.1) xs)) (sym (spread_value x.1)) ∙ ap (λ qs. (x.0, spread (shape_in x.1)) ∷ qs) (numbered_shapes (n + size x.1) xs)

placed_shapes : (v : Scopes) → at_shapes shape_at (placed v) ≡ at_shapes spread (shapes v)
placed_shapes [] = refl
placed_shapes (scope ∷ scopes) = ap (λ qs. qs ∷ at_shapes shape_at (placed scopes)) (numbered_shapes (count (placed scopes)) scope) ∙ ap (λ qs. at_shape spread (at_shape shape_in scope) ∷ qs) (placed_shapes scopes)

-- the shapes by which the source counts work are those of the places
pub placed_static : (v : Scopes) → Static (placed v) (shapes v)
placed_static v = record { same = placed_shapes v }

pub static_fits : (v : Scopes) (s : check.Scopes) → Static (placed v) s → Fits s v
static_fits v s st = record { same = sym (spread_shapes v) ∙ sym (placed_shapes v) ∙ st.same }

pub fits_static : (v : Scopes) (s : check.Scopes) → Fits s v → Static (placed v) s
fits_static v s f = record { same = placed_shapes v ∙ spread_shapes v ∙ f.same }

block_more : (x : List ℕ) (a : Value) (scope : Scope) → block_size (scope ++ (x, a) ∷ []) ≡ block_size scope + size a
block_more x a [] = omega arith
block_more x a (y ∷ ys) = ap (λ n. size y.1 + n) (block_more x a ys) ∙ omega arith

pub declared_count : (x : List ℕ) (a : Value) (scope : Scope) (scopes : Scopes) → count (placed (declare x a (scope ∷ scopes))) ≡ count (placed (scope ∷ scopes)) + size a
declared_count x a scope scopes = let b = placed_count scope scopes in let c = placed_count (scope ++ (x, a) ∷ []) scopes in let e = block_more x a scope in omega (arith, b, c, e)

-- ---- the check's variables

pub static_declare : (x : List ℕ) (q : Place) (t : Shape) (here : Places) (s : check.Scopes) → q.shape ≡ spread t → Static here s → Static (declare x q here) (declare x t s)
static_declare x q t here s e st = record { same = declare_shapes shape_at x q here ∙ ap (λ b. declare x b (at_shapes shape_at here)) e ∙ ap (declare x (spread t)) st.same ∙ sym (declare_shapes spread x t s) }

pub static_more : (x : List ℕ) (q : Place) (t : Shape) (here : Places) (s : check.Scopes) → q.shape ≡ spread t → Static here s → Static (((x, q) ∷ []) ∷ here) (((x, t) ∷ []) ∷ s)
static_more x q t here s e st = record { same = ap (λ b. ((x, b) ∷ []) ∷ at_shapes shape_at here) e ∙ ap (λ o. ((x, spread t) ∷ []) ∷ o) st.same }

pub static_block : (here : Places) (s : check.Scopes) → Static here s → Static ([] ∷ here) ([] ∷ s)
static_block here s st = record { same = ap (λ o. [] ∷ o) st.same }

pub static_target : (t : Target) (r : Shape) (here : Places) (s : check.Scopes) → Static here s → Static (after_target t (spread r) here) (check.after_target t r s)
static_target target.Nothing r here s st = st
static_target (target.Old x) r here s st = st
static_target (target.New x) r here s st = static_declare x (new_place (spread r) here) r here s refl st

pub stmt_roll : (y : StmtKind-F StmtKind) → flat_stmt (roll-StmtKind y) ≡ flat_layer (map-StmtKind StmtKind Flattening flat_stmt y)
unfolding flat_stmt
stmt_roll y = fold-roll-StmtKind Flattening flat_layer y

module _ (c : check.Context) (place : ℕ) (s : State) (here : Places) (st : Static here s.scopes) where
  static_layer : (y : StmtKind-F StmtKind) → Static (flat_layer (map-StmtKind StmtKind Flattening flat_stmt y) c.program here).1 ((do_layer (map-StmtKind StmtKind Doing do_kind y) c place s).state).scopes
  static_layer stmt.Skip = st
  static_layer (stmt.Decl x e) = let k = kind_cheap e.kind e.span.start here s.scopes st in static_declare x (new_place (flat e here).shape here) (check.judged e s.scopes).shape here s.scopes k.shape st
  static_layer (stmt.Assign x e) = st
  static_layer (stmt.StoreWords a e) = st
  static_layer (stmt.StoreByte a e) = st
  static_layer (stmt.If e a b) = st
  static_layer (stmt.While e b) = st
  static_layer stmt.Break = st
  static_layer stmt.Continue = st
  static_layer (stmt.Call k) =
      let r = result_of (function_of k.function c.program) in
      handled k.handler (static_target k.into r here s.scopes st)
    where
      handled : (h : _) → Static (after_target k.into (spread (result_of (function_of k.function c.program))) here) (check.after_target k.into (result_of (function_of k.function c.program)) s.scopes)
          → Static (flat_layer (map-StmtKind StmtKind Flattening flat_stmt (stmt.Call (record k { handler = h }))) c.program here).1 ((do_layer (map-StmtKind StmtKind Doing do_kind (stmt.Call (record k { handler = h }))) c place s).state).scopes
      handled None q = q
      handled (Some h) q = q
  static_layer (stmt.Return e) = st
  static_layer (stmt.TailCall f es) = st
  static_layer (stmt.Raise i e) = st
  static_layer (stmt.SharedLoad size x a) = st
  static_layer (stmt.SharedStore size a e) = st
  static_layer (stmt.Foreign x a b d e) = st

  -- the places behind a statement are those of the check's variables behind it
  pub static_behind : (k : StmtKind) → Static (flat_stmt k c.program here).1 ((do_kind k c place s).state).scopes
  static_behind k =
      subst (λ k. Static (flat_stmt k c.program here).1 ((do_kind k c place s).state).scopes) (roll-out-StmtKind k)
      (subst (λ (f : Flattening). Static (f c.program here).1 ((do_kind (roll-StmtKind (out-StmtKind k)) c place s).state).scopes) (sym (stmt_roll (out-StmtKind k)))
      (subst (λ (f : Doing). Static (flat_layer (map-StmtKind StmtKind Flattening flat_stmt (out-StmtKind k)) c.program here).1 ((f c place s).state).scopes) (sym (do_roll (out-StmtKind k))) (static_layer (out-StmtKind k))))

-- ---- words 0

filling_roll : (x : Shape-F Shape) → filling (roll-Shape x) ≡ fill_layer (map-Shape Shape Filling filling x)
unfolding filling
filling_roll x = fold-roll-Shape Filling fill_layer x

words_roll : (x : Shape-F Shape) → words_of (roll-Shape x) ≡ words_layer (map-Shape Shape ℕ words_of x)
unfolding words_of
words_roll x = fold-roll-Shape ℕ words_layer x

abbrev zeros : ℕ → List ℕ
zeros n = replicate n 0

plus_none : (m : ℕ) → m ≡ zero + m
plus_none m = omega arith

plus_more : (n m : ℕ) → suc (n + m) ≡ suc n + m
plus_more n m = omega arith

zeros_append : (n m : ℕ) → zeros n ++ zeros m ≡ zeros (n + m)
zeros_append zero m = ap zeros (plus_none m)
zeros_append (suc n) m = ap (λ ns. 0 ∷ ns) (zeros_append n m) ∙ ap zeros (plus_more n m)

-- what is made of no words has words 0 alone, and leaves none
record Zeros (p : Value × List ℕ) (n : ℕ) : Type 0 where
  pub words : words_in p.0 ≡ replicate n 0
  pub left : p.1 ≡ []

record ZerosEach (p : List Value × List ℕ) (n : ℕ) : Type 0 where
  pub words : words_in_all (values_of p.0) ≡ replicate n 0
  pub left : p.1 ≡ []

abbrev IsZero : Shape → Type 0
IsZero s = Zeros (filling s []) (words_of s)

abbrev Known : Type 0
Known = (s : Shape) × IsZero s

zero_words_of : (n : ℕ) → ZerosEach (fill_each (replicate n fill_word) []) n
zero_words_of zero = record { words = refl; left = refl }
zero_words_of (suc n) = let r = zero_words_of n in record { words = ap (λ ns. 0 ∷ ns) r.words; left = r.left }

zero_parts : (ps : List Known) → ZerosEach (fill_each (map filling (map (λ (c : Known). c.0) ps)) []) (sum (map words_of (map (λ (c : Known). c.0) ps)))
zero_parts [] = record { words = refl; left = refl }
zero_parts (p ∷ ps) =
    let one = p.1 in
    let rest = zero_parts ps in
    let fs = map filling (map (λ (c : Known). c.0) ps) in
    record {
      words = ap (λ k. words_in (filling p.0 []).0 ++ words_in_all (values_of (fill_each fs k).0)) one.left ∙ ap (λ k. k ++ words_in_all (values_of (fill_each fs []).0)) one.words ∙ ap (λ k. zeros (words_of p.0) ++ k) rest.words
          ∙ zeros_append (words_of p.0) (sum (map words_of (map (λ (c : Known). c.0) ps))) ∙ ap (λ k. replicate k 0) (sym (sum_more (words_of p.0) (map words_of (map (λ (c : Known). c.0) ps))));
      left = ap (λ k. (fill_each fs k).1) one.left ∙ rest.left;
    }

zero_layer : (y : Shape-F Known) → Zeros (fill_layer (map-Shape Shape Filling filling (map-Shape Known Shape (λ c. c.0) y)) []) (words_layer (map-Shape Shape ℕ words_of (map-Shape Known Shape (λ c. c.0) y)))
zero_layer open_shape.Word = record { words = refl; left = refl }
zero_layer (open_shape.Words n) = let r = zero_words_of n in record { words = r.words; left = r.left }
zero_layer (open_shape.Group ps) = let r = zero_parts ps in record { words = r.words; left = r.left }

pub zero_words : (s : Shape) → words_in (zero_of s) ≡ replicate (words_of s) 0
zero_words s = let z = all_zero s in z.words
  where
    all_zero : (s : Shape) → IsZero s
    all_zero = shape_induct IsZero (λ y.
        let x = map-Shape Known Shape (λ c. c.0) y in
        subst (λ (f : Filling). Zeros (f []) (words_of (roll-Shape x))) (sym (filling_roll x)) (subst (λ n. Zeros (fill_layer (map-Shape Shape Filling filling x) []) n) (sym (words_roll x)) (zero_layer y)))

-- ---- numbers

-- what has the number stands there, and passes the test
pub record Numbered {X : Type 0} (p : X → Bool) (xs : List X) (i : ℕ) : Type 0 where
  pub at : X
  pub stands : slice_get xs i ≡ Some at
  pub passes : p at ≡ true

pub numbered_at : {X : Type 0} (p : X → Bool) (xs : List X) (i : ℕ) → position p xs ≡ Some i → Numbered p xs i
numbered_at p [] i h = absurd cc
numbered_at p (x ∷ xs) i h =
    let s = position-Some p (x ∷ xs) i x h in
    record { at = get_or (x ∷ xs) i x; stands = slice_get-get_or (x ∷ xs) i x s.0; passes = s.1 }
