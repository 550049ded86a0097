-- The variables of the source with the places of their words, and the variables in words that hold them.
use Rattle.std.proofs.Common.{◌≡◌, ◌≢◌, ℕ, zero, suc, ◌+◌, ◌<◌, ◌≤◌, Bool, true, false, cond, List, [], ◌∷◌, length, Option, Some, None, arith, refl, sym, ap, subst, ◌∙◌}
use Rattle.std.specs.Prelude.{find}
use Rattle.std.specs.Option.{option_map}
use Rattle.std.specs.Str.{bytes_eq}
use Rattle.std.proofs.lemmas.Bool.Decides.{nat_tests}
use Rattle.pan_stage.specs.Locals.{Locals, write, read_from}
use Rattle.pan_tree.specs.Scopes.{ScopeOf, in_scope, or_else, innermost}
use Rattle.pan_tree.specs.Value.{Value, words_in}
use Rattle.pan_tree.specs.Shapes.{words_of, shape_in}
use Rattle.pan_tree.specs.Meaning.{Scope, Scopes}
use Rattle.crep_flatten.specs.Flat.{Place, Places, scope_words, count}

-- a value's words
abbrev pub size : Value → ℕ
size a = words_of (shape_in a)

-- a block's variables with their places, the first of which is this one
abbrev pub number : ℕ → Scope → ScopeOf Place
number n [] = []
number n (x ∷ xs) = (x.0, record { first = n; shape = shape_in x.1 }) ∷ number (n + size x.1) xs

abbrev pub placed : Scopes → Places
placed [] = []
placed (scope ∷ scopes) = number (count (placed scopes)) scope ∷ placed scopes

-- the variables from n on hold the values of a block
abbrev pub HoldsIn : ℕ → Scope → Locals → Type 0
HoldsIn n [] u = Unit {0}
HoldsIn n (x ∷ xs) u = (read_from n (size x.1) u ≡ words_in x.1) × HoldsIn (n + size x.1) xs u

-- the variables hold the source's
abbrev pub Holds : Scopes → Locals → Type 0
Holds [] u = Unit {0}
Holds (scope ∷ scopes) u = HoldsIn (count (placed scopes)) scope u × Holds scopes u

-- ---- reading

-- variables from n to m are the same
pub record Agree (n m : ℕ) (u u' : Locals) : Type 0 where
  pub at : (y : ℕ) → n ≤ y → y < m → u' y ≡ u y

pub agree_sub : (n m i j : ℕ) (u u' : Locals) → n ≤ i → j ≤ m → Agree n m u u' → Agree i j u u'
agree_sub n m i j u u' l h a = record { at = λ y p q. a.at y (omega arith) (omega arith) }

pub agree_then : (n m : ℕ) (u u' u'' : Locals) → Agree n m u u' → Agree n m u' u'' → Agree n m u u''
agree_then n m u u' u'' a b = record { at = λ y p q. b.at y p q ∙ a.at y p q }

pub read_agree : (x k : ℕ) (u u' : Locals) → Agree x (x + k) u u' → read_from x k u' ≡ read_from x k u
read_agree x zero u u' a = refl
read_agree x (suc k) u u' a = ap (λ n. n ∷ read_from (suc x) k u') (a.at x (omega arith) (omega arith)) ∙ ap (λ ns. u x ∷ ns) (read_agree (suc x) k u u' (record { at = λ y p q. a.at y (omega arith) (omega arith) }))

-- how many words a block has
abbrev pub block_size : Scope → ℕ
block_size [] = 0
block_size (x ∷ xs) = size x.1 + block_size xs

pub number_words : (n : ℕ) (scope : Scope) → scope_words (number n scope) ≡ block_size scope
number_words n [] = refl
number_words n (x ∷ xs) = ap (λ k. size x.1 + k) (number_words (n + size x.1) xs)

pub placed_count : (scope : Scope) (scopes : Scopes) → count (placed (scope ∷ scopes)) ≡ count (placed scopes) + block_size scope
placed_count scope scopes = ap (λ k. count (placed scopes) + k) (number_words (count (placed scopes)) scope)

pub holds_in_agree : (n : ℕ) (scope : Scope) (u u' : Locals) → Agree n (n + block_size scope) u u' → HoldsIn n scope u → HoldsIn n scope u'
holds_in_agree n [] u u' a h = tt
holds_in_agree n (x ∷ xs) u u' a h = (
  read_agree n (size x.1) u u' (record { at = λ y p q. a.at y p (omega arith) }) ∙ h.0,
  holds_in_agree (n + size x.1) xs u u' (record { at = λ y p q. a.at y (omega arith) (omega arith) }) h.1,
)

pub holds_agree : (v : Scopes) (u u' : Locals) → Agree 0 (count (placed v)) u u' → Holds v u → Holds v u'
holds_agree [] u u' a h = tt
holds_agree (scope ∷ scopes) u u' a h =
    let c = placed_count scope scopes in (
      holds_in_agree (count (placed scopes)) scope u u' (record { at = λ y p q. a.at y (omega arith) (omega (arith, c)) }) h.0,
      holds_agree scopes u u' (record { at = λ y p q. a.at y (omega arith) (omega (arith, c)) }) h.1,
    )

-- ---- finding

-- a variable that was found has a place, from which the variables hold its value
pub record FoundAt (o : Option Place) (a : Value) (u : Locals) : Type 0 where
  pub place : Place
  pub is : o ≡ Some place
  pub shape : place.shape ≡ shape_in a
  pub holds : read_from place.first (size a) u ≡ words_in a

abbrev pub Finds : Option Value → Option Place → Locals → Type 0
Finds None o u = o ≡ None
Finds (Some a) o u = FoundAt o a u

found_in : (x : List ℕ) (n : ℕ) (scope : Scope) (u : Locals) → HoldsIn n scope u → Finds (in_scope x scope) (in_scope x (number n scope)) u
found_in x n [] u h = refl
found_in x n (y ∷ ys) u h = by (bytes_eq y.0 x) (found_in x (n + size y.1) ys u h.1)
  where
    by : (c : Bool) → Finds (in_scope x ys) (in_scope x (number (n + size y.1) ys)) u
        → Finds (option_map (λ z. z.1) (cond c (Some y) (find (λ z. bytes_eq z.0 x) ys))) (option_map (λ z. z.1) (cond c (Some (y.0, record { first = n; shape = shape_in y.1 })) (find (λ z. bytes_eq z.0 x) (number (n + size y.1) ys)))) u
    by true f = record { place = record { first = n; shape = shape_in y.1 }; is = refl; shape = refl; holds = h.0 }
    by false f = f

pub found : (x : List ℕ) (v : Scopes) (u : Locals) → Holds v u → Finds (innermost x v) (innermost x (placed v)) u
found x [] u h = refl
found x (scope ∷ scopes) u h = by (in_scope x scope) (in_scope x (number (count (placed scopes)) scope)) (found_in x (count (placed scopes)) scope u h.0) (found x scopes u h.1)
  where
    by : (b : Option Value) (o : Option Place) → Finds b o u → Finds (innermost x scopes) (innermost x (placed scopes)) u → Finds (or_else b (innermost x scopes)) (or_else o (innermost x (placed scopes))) u
    by None o f g = subst (λ (o : Option Place). Finds (innermost x scopes) (or_else o (innermost x (placed scopes))) u) (sym f) g
    by (Some a) o f g = subst (λ (o : Option Place). FoundAt (or_else o (innermost x (placed scopes))) a u) (sym f.is) (record { place = f.place; is = refl; shape = f.shape; holds = f.holds })

-- ---- writing

-- words to the variables from this one on
abbrev pub write_from : ℕ → List ℕ → Locals → Locals
write_from x [] u = u
write_from x (n ∷ ns) u = write_from (suc x) ns (write x n u)

pub write_same : (x n : ℕ) (u : Locals) → write x n u x ≡ n
write_same x n u = grind (arith, nat_tests)

pub write_other : (x n : ℕ) (u : Locals) (y : ℕ) → y ≢ x → write x n u y ≡ u y
write_other x n u y h = grind (arith, nat_tests)

-- what is written from x on leaves what is below, and what is behind it
pub below_written : (x : ℕ) (ns : List ℕ) (u : Locals) (y : ℕ) → y < x → write_from x ns u y ≡ u y
below_written x [] u y l = refl
below_written x (n ∷ ns) u y l = below_written (suc x) ns (write x n u) y (omega arith) ∙ write_other x n u y (omega arith)

pub behind_written : (x : ℕ) (ns : List ℕ) (u : Locals) (y : ℕ) → x + length ns ≤ y → write_from x ns u y ≡ u y
behind_written x [] u y l = refl
behind_written x (n ∷ ns) u y l = behind_written (suc x) ns (write x n u) y (omega arith) ∙ write_other x n u y (omega arith)

pub written_read : (x : ℕ) (ns : List ℕ) (u : Locals) → read_from x (length ns) (write_from x ns u) ≡ ns
written_read x [] u = refl
written_read x (n ∷ ns) u = ap (λ m. m ∷ read_from (suc x) (length ns) (write_from (suc x) ns (write x n u))) (below_written (suc x) ns (write x n u) x (omega arith) ∙ write_same x n u) ∙ ap (λ ms. n ∷ ms) (written_read (suc x) ns (write x n u))
