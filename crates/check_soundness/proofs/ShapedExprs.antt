-- An expression that breaks no rule gives a value of its shape, or makes a failing step.
use Rattle.std.proofs.Common.{◌≡◌, ℕ, suc, Bool, true, false, not, List, [], ◌∷◌, ◌++◌, map, length, Option, Some, None, slice_get, refl, sym, ap, subst, ◌∙◌}
use Rattle.std.specs.Prelude.{option_map, option_and_then, nat_lt}
use Rattle.std.specs.Option.{is_some}
use Rattle.std.specs.List.{list_any}
use Rattle.std.proofs.lemmas.Option.{slice_get-map}
use Rattle.pan_base.specs.Words.{operate, negate, truth}
use Rattle.pan_base.specs.declared.operators.BinOp.{BinOp}
use Rattle.pan_base.specs.declared.operators.ShOp.{ShOp}
use Rattle.pan_control.specs.Memory.{byte_at, words_at}
use Rattle.pan_tree.specs.Nodes.{Expr}
use Rattle.pan_tree.specs.Scopes.{innermost}
use Rattle.pan_tree.specs.Value.{Value, Word, Struct, Values, values_list, values_of, part, part_of_part}
use Rattle.pan_tree.specs.Shapes.{words_of, parts_of, shape_in, shapes_in, is_word, filled, Part, APart, OfWord, NoPart, part_at, part_among, found}
use Rattle.pan_tree.specs.Check as check
use Rattle.pan_tree.specs.Check.{Judged, Judging, broken, breaks_of, has_no_word, whole, operators, or_word, part_shape, is_of_word, is_no_part, is_wide, judge_layer, judge_kind}
use Rattle.pan_tree.specs.Meaning as source
use Rattle.pan_tree.specs.Meaning.{Scopes, Giving, shapes, as_word, all_given, shifted, value_layer, value_kind, value, values}
use Rattle.pan_tree.specs.declared.rule.Rule.{Rule}
use Rattle.pan_tree.specs.declared.rule.Rule.TheVariants.{UnknownName, ShapeTooWide, NotStruct, NoField, NotWord, BadShift}
use Rattle.pan_tree.specs.declared.shape.Shape.{Shape}
use Rattle.pan_tree.specs.declared.shape.Shape.TheVariants as shape
use Rattle.pan_tree.specs.declared.spanned.Spanned.{Spanned}
use Rattle.pan_tree.specs.declared.syntax.ExprKind.{ExprKind, ExprKind-F, roll-ExprKind, out-roll-ExprKind, map-ExprKind, fold-roll-ExprKind}
use Rattle.pan_tree.specs.declared.syntax.ExprKind.TheOpen as expr
use Rattle.pan_tree.specs.declared.syntax.ExprKind.TheVariants as variant
use Rattle.pan_tree.proofs.CheckLayers.{judge_roll}
use Rattle.pan_tree.proofs.ShapeLayers.{parts_word, parts_group}
use Rattle.check_soundness.specs.Spread.{spread}
use Rattle.check_soundness.specs.FailingSteps.{parts_layer, MakesFailingStep, reads_words, reads_byte, in_part}
use Rattle.check_soundness.proofs.SpreadShapes.{spread_word, spread_group, spread_parts, spread_value, word_spread, list_of, shapes_list, filled_shape}
use Rattle.check_soundness.proofs.AlikeScopes.{innermost_shapes}
use Rattle.check_soundness.proofs.AlikeExprs.{expr_induct}
use Rattle.check_soundness.proofs.Rules.{unbroken, append_none, head_breaks, head_word}

pub value_roll : (y : ExprKind-F ExprKind) → value_kind (roll-ExprKind y) ≡ value_layer (map-ExprKind ExprKind Giving value_kind y)
unfolding value_kind
value_roll y = fold-roll-ExprKind Giving value_layer y

-- a value has the shape that was judged; without one, where no rule is broken, it is so
abbrev pub ComesTo : Option Value → Judged → Type 0 → Type 0
ComesTo (Some a) j F = shape_in a ≡ spread j.shape
ComesTo None j F = j.breaks ≡ [] → F

-- ---- words

pub word_or_struct : (vs : Values) (s : Shape) → is_word s ≡ true → shape_in (Struct vs) ≡ spread s → ⊥
word_or_struct vs s h e =
    let no : Some (shapes_in vs) ≡ None = sym (parts_group (shapes_in vs)) ∙ ap parts_of (e ∙ word_spread s h) ∙ parts_word in
    absurd cc

-- what hangs on a part that must be a word
word_part : (go : Option ℕ → Option Value) (o : Option Value) (j J : Judged) (F G : Type 0) → ComesTo o j F → (J.breaks ≡ [] → (j.breaks ≡ []) × (is_word j.shape ≡ true)) → (F → G) → go None ≡ None
    → ((n : ℕ) → o ≡ Some (Word n) → ComesTo (go (Some n)) J G) → ComesTo (go (as_word o)) J G
word_part go None j J F G c inner lift none at = subst (λ o. ComesTo o J G) (sym none) (λ b. lift (c (inner b).0))
word_part go (Some (Word n)) j J F G c inner lift none at = at n refl
word_part go (Some (Struct vs)) j J F G c inner lift none at = subst (λ o. ComesTo o J G) (sym none) (λ b. absurd (word_or_struct vs j.shape (inner b).1 c))

-- a part of an expression of one part
one_part : (place : ℕ) (s : Shape) (j : Judged) (rules : List (Rule × Bool)) → let J = whole place s (j ∷ []) ((NotWord, has_no_word (j ∷ [])) ∷ rules) in J.breaks ≡ [] → (j.breaks ≡ []) × (is_word j.shape ≡ true)
one_part place s j rules b =
    let both = append_none (breaks_of (j ∷ [])) (broken place ((NotWord, has_no_word (j ∷ [])) ∷ rules)) b in
    let rule = unbroken place NotWord (has_no_word (j ∷ [])) rules both.1 in
    ((head_breaks j [] both.0).0, (head_word j [] rule.0).0)

-- ---- several

-- the values of some expressions have the shapes that were judged
abbrev pub AllComeTo : Option (List Value) → List Judged → Type 0 → Type 0
AllComeTo (Some xs) js F = map shape_in xs ≡ map spread (map (λ (j : Judged). j.shape) js)
AllComeTo None js F = breaks_of js ≡ [] → F

pub all_come : (o : Option Value) (os : List (Option Value)) (j : Judged) (js : List Judged) (F : Type 0) → ComesTo o j F → AllComeTo (all_given os) js F → AllComeTo (all_given (o ∷ os)) (j ∷ js) F
all_come None os j js F c h = λ b. c (head_breaks j js b).0
all_come (Some a) os j js F c h = by (all_given os) h
  where
    by : (r : Option (List Value)) → AllComeTo r js F → AllComeTo (option_map (λ others. a ∷ others) r) (j ∷ js) F
    by None h = λ b. h (head_breaks j js b).1
    by (Some xs) h = ap (λ s. s ∷ map shape_in xs) c ∙ ap (λ ss. spread j.shape ∷ ss) h

-- ---- parts of values

-- of a value that is there the part of the shape is, and has its shape
abbrev PartComes : Option Value → Part → Type 0 → Type 0
PartComes (Some a) (APart s) F = shape_in a ≡ spread s
PartComes (Some a) OfWord F = ⊥
PartComes (Some a) NoPart F = ⊥
PartComes None (APart s) F = F
PartComes None OfWord F = Unit {0}
PartComes None NoPart F = Unit {0}

part_none : (p : Part) (F : Type 0) → F → PartComes None p F
part_none (APart s) F f = f
part_none OfWord F f = tt
part_none NoPart F f = tt

part_step : (i : ℕ) (o : Option Value) (p : Part) (F : Type 0) → PartComes o p F → PartComes (option_and_then (λ v. part v i) o) (part_at p (i ∷ [])) F
part_step i None (APart s) F c = part_none (part_at (APart s) (i ∷ [])) F c
part_step i None OfWord F c = tt
part_step i None NoPart F c = tt
part_step i (Some a) OfWord F c = absurd c
part_step i (Some a) NoPart F c = absurd c
part_step i (Some (Word n)) (APart s) F c = by (parts_of s) (sym (spread_parts s) ∙ ap parts_of (sym c) ∙ parts_word)
  where
    by : (o : Option (List Shape)) → option_map (map spread) o ≡ None → PartComes None (part_among o i) F
    by None e = tt
    by (Some ss) e = absurd cc
part_step i (Some (Struct vs)) (APart s) F c = by (parts_of s) (sym (spread_parts s) ∙ ap parts_of (sym c) ∙ parts_group (shapes_in vs))
  where
    at : (a : Option Value) (t : Option Shape) → option_map shape_in a ≡ option_map spread t → PartComes a (found t) F
    at None None e = tt
    at None (Some t) e = absurd cc
    at (Some a) None e = absurd cc
    at (Some a) (Some t) e = cc

    by : (o : Option (List Shape)) → option_map (map spread) o ≡ Some (shapes_in vs) → PartComes (slice_get (values_list vs) i) (part_among o i) F
    by None e = absurd cc
    by (Some ss) e =
        let inner : map spread ss ≡ shapes_in vs = cc in
        at (slice_get (values_list vs) i) (slice_get ss i) (sym (slice_get-map shape_in (values_list vs) i) ∙ ap (λ xs. slice_get xs i) (sym (shapes_list vs) ∙ sym inner) ∙ slice_get-map spread ss i)

part_more : (p : Part) (i : ℕ) (is : List ℕ) → part_at p (i ∷ is) ≡ part_at (part_at p (i ∷ [])) is
part_more (APart s) i is = refl
part_more OfWord i [] = refl
part_more OfWord i (j ∷ is) = refl
part_more NoPart i [] = refl
part_more NoPart i (j ∷ is) = refl

parts_come : (is : List ℕ) (o : Option Value) (p : Part) (F : Type 0) → PartComes o p F → PartComes (part_of_part o is) (part_at p is) F
parts_come [] o p F c = c
parts_come (i ∷ is) o p F c = subst (λ q. PartComes (part_of_part (option_and_then (λ v. part v i) o) is) q F) (sym (part_more p i is)) (parts_come is (option_and_then (λ v. part v i) o) (part_at p (i ∷ [])) F (part_step i o p F c))

-- ---- expressions

module _ (v : Scopes) (m : List ℕ) where
  abbrev pub IsShaped : ExprKind → Type 0
  IsShaped k = (place : ℕ) → ComesTo (value_kind k v m) (judge_kind k place (shapes v)) (MakesFailingStep v m k)

  abbrev Known : Type 0
  Known = (k : ExprKind) × IsShaped k

  abbrev plain : Spanned Known → Spanned ExprKind
  plain e = record { kind = e.kind.0; span = e.span }

  abbrev judging : Spanned ExprKind → Spanned Judging
  judging e = record { kind = judge_kind e.kind; span = e.span }

  abbrev giving : Spanned ExprKind → Spanned Giving
  giving e = record { kind = value_kind e.kind; span = e.span }

  abbrev given_here : Spanned Known → Option Value
  given_here e = value_kind (e.kind).0 v m

  abbrev judged_here : Spanned Known → Judged
  judged_here e = judge_kind (e.kind).0 e.span.start (shapes v)

  abbrev Fails : Spanned Known → Type 0
  Fails e = MakesFailingStep v m (e.kind).0

  comes : (e : Spanned Known) → ComesTo (given_here e) (judged_here e) (Fails e)
  comes e = (e.kind).1 e.span.start

  -- a failing step of a part is one of the whole
  lift : (y : ExprKind-F ExprKind) (i : ℕ) (a : Expr) → slice_get (parts_layer y) i ≡ Some a → MakesFailingStep v m a.kind → MakesFailingStep v m (roll-ExprKind y)
  lift y i a h f = in_part (roll-ExprKind y) i a (ap (λ x. slice_get (parts_layer x) i) (out-roll-ExprKind y) ∙ h) f

  less : (o : Option Value) (j : Judged) (F G : Type 0) → (F → G) → ComesTo o j F → ComesTo o j G
  less None j F G f c = λ b. f (c b)
  less (Some a) j F G f c = c

  abbrev given_all : List (Spanned Known) → List (Option Value)
  given_all es = map (λ (e : Spanned Giving). e.kind v m) (map giving (map plain es))

  abbrev judged_all : List (Spanned Known) → List Judged
  judged_all es = map (λ (e : Spanned Judging). e.kind e.span.start (shapes v)) (map judging (map plain es))

  struct_parts : (es : List (Spanned Known)) (G : Type 0) → ((i : ℕ) (a : Expr) → slice_get (map plain es) i ≡ Some a → MakesFailingStep v m a.kind → G) → AllComeTo (all_given (given_all es)) (judged_all es) G
  struct_parts [] G up = refl
  struct_parts (e ∷ es) G up = all_come (given_here e) (given_all es) (judged_here e) (judged_all es) G (less (given_here e) (judged_here e) (Fails e) G (up 0 (plain e) refl) (comes e)) (struct_parts es G (λ i a h. up (suc i) a h))

  abbrev givings : List (BinOp × Spanned Known) → List (BinOp × Spanned Giving)
  givings ys = map (λ (e : BinOp × Spanned ExprKind). (e.0, giving e.1)) (map (λ (e : BinOp × Spanned Known). (e.0, plain e.1)) ys)

  abbrev judged_of : List (BinOp × Spanned Known) → List Judged
  judged_of ys = map (λ (y : BinOp × Spanned Judging). (y.1).kind (y.1).span.start (shapes v)) (map (λ (e : BinOp × Spanned ExprKind). (e.0, judging e.1)) (map (λ (e : BinOp × Spanned Known). (e.0, plain e.1)) ys))

  no_chain : (ys : List (BinOp × Spanned Known)) → option_map Word (source.chain None (givings ys) v m) ≡ None
  no_chain [] = refl
  no_chain (y ∷ ys) = refl

  chain_part : (ys : List (BinOp × Spanned Known)) (a : ℕ) (J : Judged) (G : Type 0) → J.shape ≡ shape.Word → (J.breaks ≡ [] → (breaks_of (judged_of ys) ≡ []) × (has_no_word (judged_of ys) ≡ false))
      → ((i : ℕ) (a : Expr) → slice_get (map (λ (p : BinOp × Expr). p.1) (map (λ (e : BinOp × Spanned Known). (e.0, plain e.1)) ys)) i ≡ Some a → MakesFailingStep v m a.kind → G) → ComesTo (option_map Word (source.chain (Some a) (givings ys) v m)) J G
  chain_part [] a J G word inner up = sym spread_word ∙ ap spread (sym word)
  chain_part (y ∷ ys) a J G word inner up =
      word_part (λ o. option_map Word (source.chain (option_map (operate y.0 a) o) (givings ys) v m)) (given_here y.1) (judged_here y.1) J (Fails y.1) G (comes y.1)
      (λ b. ((head_breaks (judged_here y.1) (judged_of ys) (inner b).0).0, (head_word (judged_here y.1) (judged_of ys) (inner b).1).0)) (up 0 (plain y.1) refl) (no_chain ys)
      (λ n is. chain_part ys (operate y.0 a n) J G word (λ b. ((head_breaks (judged_here y.1) (judged_of ys) (inner b).0).1, (head_word (judged_here y.1) (judged_of ys) (inner b).1).1)) (λ i a h. up (suc i) a h))

  -- a part that is no word is among those of a whole that breaks a rule
  several : (place : ℕ) (js : List Judged) (rules : List (Rule × Bool)) → (breaks_of js ++ broken place ((NotWord, has_no_word js) ∷ rules)) ≡ [] → (breaks_of js ≡ []) × (has_no_word js ≡ false)
  several place js rules b =
      let both = append_none (breaks_of js) (broken place ((NotWord, has_no_word js) ∷ rules)) b in
      (both.0, (unbroken place NotWord (has_no_word js) rules both.1).0)

  variable : (place : ℕ) (F : Type 0) (o : Option Value) (q : Option Shape) → q ≡ option_map shape_in o → ComesTo o (whole place (or_word q) [] ((UnknownName, not (is_some q)) ∷ [])) F
  variable place F None None e = λ b. let no = (unbroken place UnknownName true [] b).0 in absurd cc
  variable place F None (Some s) e = absurd cc
  variable place F (Some a) None e = absurd cc
  variable place F (Some a) (Some s) e = let is : s ≡ shape_in a = cc in sym (ap spread is ∙ spread_value a)

  layer_shaped : (y : ExprKind-F Known) (place : ℕ)
      → let x = map-ExprKind Known ExprKind (λ c. c.0) y in ComesTo (value_layer (map-ExprKind ExprKind Giving value_kind x) v m) (judge_layer (map-ExprKind ExprKind Judging judge_kind x) place (shapes v)) (MakesFailingStep v m (roll-ExprKind x))
  layer_shaped (expr.Number n) place = sym spread_word
  layer_shaped (expr.Var x) place = variable place (MakesFailingStep v m _) (innermost x v) (innermost x (shapes v)) (innermost_shapes shape_in x v)
  layer_shaped expr.Base place = sym spread_word
  layer_shaped expr.Biw place = sym spread_word
  layer_shaped (expr.Struct es) place = by (all_given (given_all es)) (struct_parts es (MakesFailingStep v m (roll-ExprKind (expr.Struct (map plain es)))) (lift (expr.Struct (map plain es))))
    where
      by : (o : Option (List Value)) → AllComeTo o (judged_all es) (MakesFailingStep v m (roll-ExprKind (expr.Struct (map plain es))))
          → ComesTo (option_map (λ vs. Struct (values_of vs)) o) (judge_layer (expr.Struct (map judging (map plain es))) place (shapes v)) (MakesFailingStep v m (roll-ExprKind (expr.Struct (map plain es))))
      by None h = λ b. h (append_none (breaks_of (judged_all es)) _ b).0
      by (Some xs) h = ap shape.Group (shapes_list (values_of xs) ∙ ap (map shape_in) (list_of xs) ∙ h) ∙ sym (spread_group (map (λ (j : Judged). j.shape) (judged_all es)))
  layer_shaped (expr.Field e is) place =
      by (part_of_part (given_here e) is) (part_at (APart (judged_here e).shape) is) (parts_come is (given_here e) (APart (judged_here e).shape) ((judged_here e).breaks ≡ [] → MakesFailingStep v m (roll-ExprKind (expr.Field (plain e) is))) (begin (given_here e) (comes e)))
    where
      begin : (o : Option Value) → ComesTo o (judged_here e) (Fails e) → PartComes o (APart (judged_here e).shape) ((judged_here e).breaks ≡ [] → MakesFailingStep v m (roll-ExprKind (expr.Field (plain e) is)))
      begin None c = λ b. lift (expr.Field (plain e) is) 0 (plain e) refl (c b)
      begin (Some a) c = c

      by : (o : Option Value) (p : Part) → PartComes o p ((judged_here e).breaks ≡ [] → MakesFailingStep v m (roll-ExprKind (expr.Field (plain e) is))) → ComesTo o (whole place (part_shape p) (judged_here e ∷ []) ((NotStruct, is_of_word p) ∷ (NoField, is_no_part p) ∷ [])) (MakesFailingStep v m (roll-ExprKind (expr.Field (plain e) is)))
      by (Some a) (APart s) c = c
      by (Some a) OfWord c = absurd c
      by (Some a) NoPart c = absurd c
      by None (APart s) c = λ b. c (head_breaks (judged_here e) [] (append_none (breaks_of (judged_here e ∷ [])) _ b).0).0
      by None OfWord c = λ b. let no = (unbroken place NotStruct true ((NoField, false) ∷ []) (append_none (breaks_of (judged_here e ∷ [])) _ b).1).0 in absurd cc
      by None NoPart c = λ b. let no = (unbroken place NoField true [] (append_none (breaks_of (judged_here e ∷ [])) _ b).1).0 in absurd cc
  layer_shaped (expr.Load s a) place =
      word_part (option_and_then (λ addr. option_map (filled s) (words_at m addr (words_of s)))) (given_here a) (judged_here a) (whole place s (judged_here a ∷ []) ((NotWord, has_no_word (judged_here a ∷ [])) ∷ (ShapeTooWide, is_wide s) ∷ [])) (Fails a) _ (comes a)
      (one_part place s (judged_here a) ((ShapeTooWide, is_wide s) ∷ [])) (lift (expr.Load s (plain a)) 0 (plain a) refl) refl
      (λ n is. by n (ap as_word is) (words_at m n (words_of s)) refl)
    where
      by : (n : ℕ) → as_word (given_here a) ≡ Some n → (o : Option (List ℕ)) → words_at m n (words_of s) ≡ o
          → ComesTo (option_map (filled s) o) (whole place s (judged_here a ∷ []) ((NotWord, has_no_word (judged_here a ∷ [])) ∷ (ShapeTooWide, is_wide s) ∷ [])) (MakesFailingStep v m (roll-ExprKind (expr.Load s (plain a))))
      by n is None h = λ b. subst (MakesFailingStep v m) (sym (variant.rolls-Load s (plain a))) (reads_words s (plain a) n is h)
      by n is (Some ns) h = filled_shape s ns
  layer_shaped (expr.LoadByte a) place =
      word_part (λ o. option_map Word (option_and_then (byte_at m) o)) (given_here a) (judged_here a) (whole place shape.Word (judged_here a ∷ []) ((NotWord, has_no_word (judged_here a ∷ [])) ∷ [])) (Fails a) _ (comes a)
      (one_part place shape.Word (judged_here a) []) (lift (expr.LoadByte (plain a)) 0 (plain a) refl) refl
      (λ n is. by n (ap as_word is) (byte_at m n) refl)
    where
      by : (n : ℕ) → as_word (given_here a) ≡ Some n → (o : Option ℕ) → byte_at m n ≡ o
          → ComesTo (option_map Word o) (whole place shape.Word (judged_here a ∷ []) ((NotWord, has_no_word (judged_here a ∷ [])) ∷ [])) (MakesFailingStep v m (roll-ExprKind (expr.LoadByte (plain a))))
      by n is None h = λ b. subst (MakesFailingStep v m) (sym (variant.rolls-LoadByte (plain a))) (reads_byte (plain a) n is h)
      by n is (Some k) h = sym spread_word
  layer_shaped (expr.Neg a) place =
      word_part (option_map (λ n. Word (negate n))) (given_here a) (judged_here a) (whole place shape.Word (judged_here a ∷ []) ((NotWord, has_no_word (judged_here a ∷ [])) ∷ [])) (Fails a) _ (comes a)
      (one_part place shape.Word (judged_here a) []) (lift (expr.Neg (plain a)) 0 (plain a) refl) refl (λ n is. sym spread_word)
  layer_shaped (expr.Chain a ys) place =
      let js = judged_here a ∷ judged_of ys in
      let J = operators place (length ys) js ((NotWord, has_no_word js) ∷ []) in
      word_part (λ o. option_map Word (source.chain o (givings ys) v m)) (given_here a) (judged_here a) _ (Fails a) _ (comes a)
      (λ b. let s = several place js [] b in ((head_breaks (judged_here a) (judged_of ys) s.0).0, (head_word (judged_here a) (judged_of ys) s.1).0))
      (lift (expr.Chain (plain a) (map (λ (e : BinOp × Spanned Known). (e.0, plain e.1)) ys)) 0 (plain a) refl) (no_chain ys)
      (λ n is. chain_part ys n _ _ refl
      (λ b. let s = several place js [] b in ((head_breaks (judged_here a) (judged_of ys) s.0).1, (head_word (judged_here a) (judged_of ys) s.1).1))
      (λ i e h. lift (expr.Chain (plain a) (map (λ (e : BinOp × Spanned Known). (e.0, plain e.1)) ys)) (suc i) e h))
  layer_shaped (expr.Shift a ns) place =
      word_part (option_map (λ n. Word (shifted ns n))) (given_here a) (judged_here a) _ (Fails a) _ (comes a)
      (λ b. let s = several place (judged_here a ∷ []) ((BadShift, list_any (λ (n : ShOp × ℕ). nat_lt 63 n.1) ns) ∷ []) b in ((head_breaks (judged_here a) [] s.0).0, (head_word (judged_here a) [] s.1).0))
      (lift (expr.Shift (plain a) ns) 0 (plain a) refl) refl (λ n is. sym spread_word)
  layer_shaped (expr.Compare c a b) place =
      let js = judged_here a ∷ judged_here b ∷ [] in
      word_part (option_and_then (λ x. option_map (λ y. Word (truth c x y)) (as_word (given_here b)))) (given_here a) (judged_here a) _ (Fails a) _ (comes a)
      (λ r. let s = several place js [] r in ((head_breaks (judged_here a) (judged_here b ∷ []) s.0).0, (head_word (judged_here a) (judged_here b ∷ []) s.1).0))
      (lift (expr.Compare c (plain a) (plain b)) 0 (plain a) refl) refl
      (λ n is. word_part (option_map (λ k. Word (truth c n k))) (given_here b) (judged_here b) _ (Fails b) _ (comes b)
      (λ r. let s = several place js [] r in ((head_breaks (judged_here b) [] (head_breaks (judged_here a) (judged_here b ∷ []) s.0).1).0, (head_word (judged_here b) [] (head_word (judged_here a) (judged_here b ∷ []) s.1).1).0))
      (lift (expr.Compare c (plain a) (plain b)) 1 (plain b) refl) refl (λ k is. sym spread_word))

  pub kind_shaped : (k : ExprKind) → IsShaped k
  kind_shaped = expr_induct IsShaped (λ y place.
      let x = map-ExprKind Known ExprKind (λ c. c.0) y in
      subst (λ (g : Giving). ComesTo (g v m) (judge_kind (roll-ExprKind x) place (shapes v)) (MakesFailingStep v m (roll-ExprKind x))) (sym (value_roll x))
      (subst (λ (j : Judging). ComesTo (value_layer (map-ExprKind ExprKind Giving value_kind x) v m) (j place (shapes v)) (MakesFailingStep v m (roll-ExprKind x))) (sym (judge_roll x)) (layer_shaped y place)))

-- an expression comes to a value of its shape, or makes a failing step
pub expr_shaped : (e : Expr) (v : Scopes) (m : List ℕ) → ComesTo (value e v m) (check.judged e (shapes v)) (MakesFailingStep v m e.kind)
expr_shaped e v m = kind_shaped v m e.kind e.span.start
