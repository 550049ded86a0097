-- Variables whose shapes are the same up to spreading.
use Rattle.std.proofs.Common.{◌≡◌, ℕ, Bool, true, false, cond, if◌then◌else◌, List, [], ◌∷◌, ◌++◌, map, drop, Option, Some, None, refl, sym, ap, ◌∙◌}
use Rattle.std.specs.Prelude.{option_map, find}
use Rattle.std.specs.Option.{is_some}
use Rattle.std.specs.Str.{bytes_eq}
use Rattle.pan_tree.specs.Scopes.{ScopeOf, ScopesOf, in_scope, or_else, innermost, is_declared, declare, assign_in, assign}
use Rattle.pan_tree.specs.Value.{Value}
use Rattle.pan_tree.specs.Shapes.{shape_in}
use Rattle.pan_tree.specs.Check as check
use Rattle.pan_tree.specs.Meaning.{Scopes, shapes}
use Rattle.pan_tree.specs.declared.shape.Shape.{Shape}
use Rattle.check_soundness.specs.Spread.{spread}
use Rattle.check_soundness.proofs.SpreadShapes.{spread_value}

-- names with shapes instead of what they stand for
abbrev pub at_shape : {A : Type 0} → (A → Shape) → ScopeOf A → ScopeOf Shape
at_shape f scope = map (λ q. (q.0, f q.1)) scope

abbrev pub at_shapes : {A : Type 0} → (A → Shape) → ScopesOf A → ScopesOf Shape
at_shapes f v = map (at_shape f) v

-- the same names, whose shapes have the same spread shapes
pub record AlikeScopes (s t : check.Scopes) : Type 0 where
  pub same : at_shapes spread s ≡ at_shapes spread t

pub alike_back : (s t : check.Scopes) → AlikeScopes s t → AlikeScopes t s
alike_back s t a = record { same = sym a.same }

-- ---- finding

in_scope_shapes : {A : Type 0} (f : A → Shape) (x : List ℕ) (scope : ScopeOf A) → in_scope x (at_shape f scope) ≡ option_map f (in_scope x scope)
in_scope_shapes f x [] = refl
in_scope_shapes {A} f x (q ∷ qs) = by (bytes_eq q.0 x) (in_scope_shapes f x qs)
  where
    by : (c : Bool) → in_scope x (map (λ q. (q.0, f q.1)) qs) ≡ option_map f (in_scope x qs)
        → option_map (λ (z : List ℕ × Shape). z.1) (cond c (Some (q.0, f q.1)) (find (λ (z : List ℕ × Shape). bytes_eq z.0 x) (map (λ q. (q.0, f q.1)) qs))) ≡ option_map f (option_map (λ (z : List ℕ × A). z.1) (cond c (Some q) (find (λ (z : List ℕ × A). bytes_eq z.0 x) qs)))
    by true h = refl
    by false h = h

pub innermost_shapes : {A : Type 0} (f : A → Shape) (x : List ℕ) (v : ScopesOf A) → innermost x (at_shapes f v) ≡ option_map f (innermost x v)
innermost_shapes f x [] = refl
innermost_shapes {A} f x (scope ∷ scopes) = ap (λ o. or_else o (innermost x (at_shapes f scopes))) (in_scope_shapes f x scope) ∙ by (in_scope x scope) (innermost_shapes f x scopes)
  where
    by : (o : Option A) → innermost x (at_shapes f scopes) ≡ option_map f (innermost x scopes) → or_else (option_map f o) (innermost x (at_shapes f scopes)) ≡ option_map f (or_else o (innermost x scopes))
    by None h = h
    by (Some a) h = refl

some_map : {A B : Type 0} (f : A → B) (o : Option A) → is_some (option_map f o) ≡ is_some o
some_map f None = refl
some_map f (Some a) = refl

declared_shapes : {A : Type 0} (f : A → Shape) (x : List ℕ) (v : ScopesOf A) → is_declared x (at_shapes f v) ≡ is_declared x v
declared_shapes f x [] = refl
declared_shapes f x (scope ∷ scopes) = ap is_some (in_scope_shapes f x scope) ∙ some_map f (in_scope x scope)

pub alike_innermost : (s t : check.Scopes) → AlikeScopes s t → (x : List ℕ) → option_map spread (innermost x s) ≡ option_map spread (innermost x t)
alike_innermost s t a x = sym (innermost_shapes spread x s) ∙ ap (innermost x) a.same ∙ innermost_shapes spread x t

pub alike_declared : (s t : check.Scopes) → AlikeScopes s t → (x : List ℕ) → is_declared x s ≡ is_declared x t
alike_declared s t a x = sym (declared_shapes spread x s) ∙ ap (is_declared x) a.same ∙ declared_shapes spread x t

-- ---- declaring and assigning

map_last : {A B : Type 0} (f : A → B) (xs : List A) (a : A) → map f (xs ++ a ∷ []) ≡ map f xs ++ f a ∷ []
map_last f [] a = refl
map_last f (x ∷ xs) a = ap (λ ys. f x ∷ ys) (map_last f xs a)

pub declare_shapes : {A : Type 0} (f : A → Shape) (x : List ℕ) (a : A) (v : ScopesOf A) → at_shapes f (declare x a v) ≡ declare x (f a) (at_shapes f v)
declare_shapes f x a [] = refl
declare_shapes {A} f x a (scope ∷ scopes) = ap (λ s. s ∷ at_shapes f scopes) (map_last {A = List ℕ × A} (λ q. (q.0, f q.1)) scope (x, a))

pub drop_shapes : {A : Type 0} (f : A → Shape) (v : ScopesOf A) → at_shapes f (drop 1 v) ≡ drop 1 (at_shapes f v)
drop_shapes f [] = refl
drop_shapes f (scope ∷ scopes) = refl

pub alike_declare : (x : List ℕ) (a b : Shape) (s t : check.Scopes) → spread a ≡ spread b → AlikeScopes s t → AlikeScopes (declare x a s) (declare x b t)
alike_declare x a b s t e h = record { same = declare_shapes spread x a s ∙ ap (λ c. declare x c (at_shapes spread s)) e ∙ ap (declare x (spread b)) h.same ∙ sym (declare_shapes spread x b t) }

pub alike_drop : (s t : check.Scopes) → AlikeScopes s t → AlikeScopes (drop 1 s) (drop 1 t)
alike_drop s t h = record { same = drop_shapes spread s ∙ ap (drop 1) h.same ∙ sym (drop_shapes spread t) }

pub alike_more : (scope other : check.Scope) (s t : check.Scopes) → at_shape spread scope ≡ at_shape spread other → AlikeScopes s t → AlikeScopes (scope ∷ s) (other ∷ t)
alike_more scope other s t e h = record { same = ap (λ x. x ∷ at_shapes spread s) e ∙ ap (λ xs. at_shape spread other ∷ xs) h.same }

-- a variable that gets a value of its shape
assign_in_same : (x : List ℕ) (a b : Value) (scope : ScopeOf Value) → in_scope x scope ≡ Some b → shape_in a ≡ shape_in b → at_shape shape_in (assign_in x a scope) ≡ at_shape shape_in scope
assign_in_same x a b [] h e = refl
assign_in_same x a b (q ∷ qs) h e = by (bytes_eq q.0 x) h (λ g. assign_in_same x a b qs g e)
  where
    by : (c : Bool) → option_map (λ (z : List ℕ × Value). z.1) (cond c (Some q) (find (λ (z : List ℕ × Value). bytes_eq z.0 x) qs)) ≡ Some b → (in_scope x qs ≡ Some b → at_shape shape_in (assign_in x a qs) ≡ at_shape shape_in qs)
        → at_shape shape_in (if c then ((q.0, a) ∷ qs) else (q ∷ assign_in x a qs)) ≡ at_shape shape_in (q ∷ qs)
    by true h rest = let is : q.1 ≡ b = cc in ap (λ s. (q.0, s) ∷ at_shape shape_in qs) (e ∙ ap shape_in (sym is))
    by false h rest = ap (λ xs. (q.0, shape_in q.1) ∷ xs) (rest h)

pub assign_same : (x : List ℕ) (a b : Value) (v : Scopes) → innermost x v ≡ Some b → shape_in a ≡ shape_in b → shapes (assign x a v) ≡ shapes v
assign_same x a b [] h e = refl
assign_same x a b (scope ∷ scopes) h e = by (in_scope x scope) refl h (λ g. assign_same x a b scopes g e)
  where
    by : (o : Option Value) → in_scope x scope ≡ o → or_else o (innermost x scopes) ≡ Some b → (innermost x scopes ≡ Some b → shapes (assign x a scopes) ≡ shapes scopes)
        → shapes (if is_some o then (assign_in x a scope ∷ scopes) else (scope ∷ assign x a scopes)) ≡ shapes (scope ∷ scopes)
    by None is h rest = ap (λ xs. at_shape shape_in scope ∷ xs) (rest h)
    by (Some c) is h rest = ap (λ s. s ∷ shapes scopes) (assign_in_same x a b scope (is ∙ h) e)

-- ---- values

-- the shapes of variables are spread
pub spread_shapes : (v : Scopes) → at_shapes spread (shapes v) ≡ shapes v
spread_shapes [] = refl
spread_shapes (scope ∷ scopes) = ap (λ s. s ∷ at_shapes spread (shapes scopes)) (one scope) ∙ ap (λ xs. at_shape shape_in scope ∷ xs) (spread_shapes scopes)
  where
    one : (scope : ScopeOf Value) → at_shape spread (at_shape shape_in scope) ≡ at_shape shape_in scope
    one [] = refl
    one (q ∷ qs) = ap (λ s. (q.0, s) ∷ at_shape spread (at_shape shape_in qs)) (spread_value q.1) ∙ ap (λ xs. (q.0, shape_in q.1) ∷ xs) (one qs)
