-- The tokens spell one program.
use Rattle.std.proofs.Common.{◌≡◌, ℕ, List, [], ◌∷◌, sym, ap, ap₂, ◌∙◌, subst, refl}
use Rattle.pan_base.specs.declared.tokens.Keyword.TheVariants as keyword
use Rattle.pan_base.specs.declared.tokens.Sign.TheVariants as sign
use Rattle.pan_base.specs.Tokens.{Placed}
use Rattle.pan_tree.specs.declared.shape.Shape.{Shape}
use Rattle.pan_tree.specs.declared.program.Param.{Param}
use Rattle.pan_tree.specs.declared.program.Exception.{Exception}
use Rattle.pan_tree.specs.declared.program.Function.{Function}
use Rattle.pan_tree.specs.declared.program.Program.{Program}
use Rattle.pan_tree.specs.Nodes.{between}
use Rattle.pan_tree.specs.Grammar.{Block, Is, IsName, AParam, param, MoreParams, no_param, next_param, Params, no_params, params, Result, no_result, result, AnException, exception, AFunction, function, Items, no_item, next_exception, next_function, IsProgram}
use Rattle.pan_parser.specs.Machine.{is_word}
use Rattle.pan_parser.specs.Follow.{NoSign}
use Rattle.pan_parser.proofs.Ends.{apart, word_is, exception_begins, function_begins, sign_not, no_sign, Begins, begins_shape, begins_not, shape_begins}
use Rattle.pan_parser.proofs.UniqueExprs.{Same, tail_of, same_name, unique_shape}
use Rattle.pan_parser.proofs.UniqueStmts.{unique_block}

-- ---- nodes as functions of their parts

abbrev param_of : List ℕ → Shape → Param
param_of x z = record { name = x; shape = z }

abbrev exception_of : List Placed → List ℕ → Shape → List Placed → Exception
exception_of a x z b = record { name = x; shape = z; span = between a b }

abbrev function_of : List Placed → Shape → List ℕ → List Param → Block → List Placed → Function
function_of a z f xs y b = record { name = f; params = xs; result = z; body = y; span = between a b }

same_function : {z w : Shape} {f g : List ℕ} {xs ys : List Param} {x y : Block} {b c : List Placed} (a : List Placed)
    → z ≡ w → f ≡ g → xs ≡ ys → x ≡ y → b ≡ c → function_of a z f xs x b ≡ function_of a w g ys y c
same_function {w = w} {f = f} {g = g} {xs = xs} {ys = ys} {x = x} {y = y} {b = b} a p q r s t =
    ap₂ (λ z f. function_of a z f xs x b) p q ∙ ap₂ (λ xs x. function_of a w g xs x b) r s ∙ ap (function_of a w g ys y) t

abbrev program_of : List Exception → List Function → Program
program_of xs fs = record { exceptions = xs; functions = fs }

module _ (M N : ℕ → List Placed → Type 0) where
  -- ---- parameters and results

  unique_param : {k j : ℕ} {a b c f : List Placed} {x y : Param} → AParam M k a c x → AParam N j b f y → a ≡ b → Same c f x y
  unique_param (param k t a c z x p m) (param j t3 b f z3 x3 q n) e =
      let one = unique_shape M N p q e in
      (tail_of one.0, ap₂ param_of (same_name one.0 m n) one.1)

  unique_more_params : {k j : ℕ} {a b c f : List Placed} {xs ys : List Param} → MoreParams M k a c xs → MoreParams N j b f ys → a ≡ b → NoSign sign.Comma c → NoSign sign.Comma f → Same c f xs ys
  unique_more_params (no_param k a) (no_param j b) e h i = (e, refl)
  unique_more_params (no_param k a) (next_param j t b d f y ys n p q) e h i = absurd (sign_not sign.Comma t b n (subst (NoSign sign.Comma) e h))
  unique_more_params (next_param k t a d c x xs m p q) (no_param j b) e h i = absurd (sign_not sign.Comma t a m (subst (NoSign sign.Comma) (sym e) i))
  unique_more_params (next_param k t a d c x xs m p q) (next_param j t3 b d3 f y ys n p3 q3) e h i =
      let one = unique_param p p3 (tail_of e) in
      let rest = unique_more_params q q3 one.0 h i in
      (rest.0, ap₂ (λ x xs. x ∷ xs) one.1 rest.1)

  param_begins : (May : ℕ → List Placed → Type 0) {k : ℕ} {a b : List Placed} {x : Param} → AParam May k a b x → Begins begins_shape a
  param_begins May (param k t a b z x p m) = shape_begins May p

  unique_params : {k j : ℕ} {u v : Placed} {a b c f : List Placed} {xs ys : List Param} → Params M k a (u ∷ c) xs → Params N j b (v ∷ f) ys → a ≡ b
      → Is sign.CloseParen u → Is sign.CloseParen v → Same (u ∷ c) (v ∷ f) xs ys
  unique_params (no_params k _) (no_params j _) e m n = (e, refl)
  unique_params {u = u} {c = c} (no_params k _) (params j b d _ y ys p q) e m n = absurd (begins_not begins_shape u c _ m (subst (Begins begins_shape) (sym e) (param_begins N p)) refl)
  unique_params {v = v} {f = f} (params k a d _ x xs p q) (no_params j _) e m n = absurd (begins_not begins_shape v f _ n (subst (Begins begins_shape) e (param_begins M p)) refl)
  unique_params {u = u} {v = v} {c = c} {f = f} (params k a d _ x xs p q) (params j b d3 _ y ys p3 q3) e m n =
      let one = unique_param p p3 e in
      let rest = unique_more_params q q3 one.0 (no_sign sign.Comma u c _ m refl) (no_sign sign.Comma v f _ n refl) in
      (rest.0, ap₂ (λ x xs. x ∷ xs) one.1 rest.1)

  unique_result : {k j : ℕ} {u v : Placed} {a b c f : List Placed} {x y : List ℕ} {z w : Shape} → Result M k a (u ∷ c) z → Result N j b (v ∷ f) w → a ≡ b
      → IsName x u → IsName y v → Same (u ∷ c) (v ∷ f) z w
  unique_result (no_result k _) (no_result j _) e m n = (e, refl)
  unique_result {u = u} {c = c} (no_result k _) (result j b _ w q) e m n = absurd (begins_not begins_shape u c _ m (subst (Begins begins_shape) (sym e) (shape_begins N q)) refl)
  unique_result {v = v} {f = f} (result k a _ z p) (no_result j _) e m n = absurd (begins_not begins_shape v f _ n (subst (Begins begins_shape) e (shape_begins M p)) refl)
  unique_result (result k a _ z p) (result j b _ w q) e m n = unique_shape M N p q e

  -- ---- items

  not_both : (a : List Placed) → Begins (is_word keyword.Exception) a → Begins (is_word keyword.Fun) a → ⊥
  not_both [] h i = h
  not_both (t ∷ a) h i = apart t.kind _ _ (word_is keyword.Exception t.kind h) (word_is keyword.Fun t.kind i) refl

  unique_exception : {a b c f : List Placed} {x y : Exception} → AnException M a c x → AnException N b f y → a ≡ b → Same c f x y
  unique_exception (exception t u v a c x z m n p o) (exception t3 u3 v3 b f x3 z3 m3 n3 p3 o3) e =
      let one = unique_shape M N p p3 (tail_of (tail_of e)) in
      let end = tail_of one.0 in
      (end, ap (λ a. exception_of a x z c) e ∙ ap₂ (λ x z. exception_of (t3 ∷ u3 ∷ b) x z c) (same_name (tail_of e) n n3) one.1 ∙ ap (exception_of (t3 ∷ u3 ∷ b) x3 z3) end)

  unique_function : {a b c f : List Placed} {x y : Function} → AFunction M a c x → AFunction N b f y → a ≡ b → Same c f x y
  unique_function (function t u v w a b c d z f xs y m p n o q r s) (function t3 u3 v3 w3 a3 b3 c3 d3 z3 f3 xs3 y3 m3 p3 n3 o3 q3 r3 s3) e =
      let one = unique_result p p3 (tail_of e) n n3 in
      let two = unique_params q q3 (tail_of (tail_of one.0)) r r3 in
      let three = unique_block M N s s3 (tail_of two.0) in
      (three.0, ap (λ a. function_of a z f xs y d) e ∙ same_function (t3 ∷ a3) one.1 (same_name one.0 n n3) two.1 three.1 three.0)

  unique_items : {a b : List Placed} {xs ys : List Exception} {fs gs : List Function} → Items M a xs fs → Items N b ys gs → a ≡ b → (xs ≡ ys) × (fs ≡ gs)
  unique_items no_item no_item e = (refl, refl)
  unique_items no_item (next_exception a b y ys gs p q) e = absurd (subst (Begins (is_word keyword.Exception)) (sym e) (exception_begins N p))
  unique_items no_item (next_function a b g ys gs p q) e = absurd (subst (Begins (is_word keyword.Fun)) (sym e) (function_begins N p))
  unique_items (next_exception a b x xs fs p q) no_item e = absurd (subst (Begins (is_word keyword.Exception)) e (exception_begins M p))
  unique_items (next_function a b f xs fs p q) no_item e = absurd (subst (Begins (is_word keyword.Fun)) e (function_begins M p))
  unique_items (next_exception a c x xs fs p q) (next_function b d g ys gs p3 q3) e = absurd (not_both b (subst (Begins (is_word keyword.Exception)) e (exception_begins M p)) (function_begins N p3))
  unique_items (next_function a c f xs fs p q) (next_exception b d y ys gs p3 q3) e = absurd (not_both a (subst (Begins (is_word keyword.Exception)) (sym e) (exception_begins N p3)) (function_begins M p))
  unique_items (next_exception a c x xs fs p q) (next_exception b d y ys gs p3 q3) e =
      let one = unique_exception p p3 e in
      let rest = unique_items q q3 one.0 in
      (ap₂ (λ x xs. x ∷ xs) one.1 rest.0, rest.1)
  unique_items (next_function a c f xs fs p q) (next_function b d g ys gs p3 q3) e =
      let one = unique_function p p3 e in
      let rest = unique_items q q3 one.0 in
      (rest.0, ap₂ (λ f fs. f ∷ fs) one.1 rest.1)

  pub unique_program : (ts : List Placed) (p q : Program) → IsProgram M ts p → IsProgram N ts q → p ≡ q
  unique_program ts p q d e = let same = unique_items d e refl in ap₂ program_of same.0 same.1
