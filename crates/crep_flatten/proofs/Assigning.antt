-- The variables in words after a variable of the source gets a value, or is declared.
use Rattle.std.proofs.Common.{◌≡◌, ℕ, ◌+◌, ◌≤◌, Bool, true, false, cond, List, [], ◌∷◌, Option, Some, None, arith, refl, sym, ap, subst, ◌∙◌}
use Rattle.std.specs.Prelude.{find, if◌then◌else◌}
use Rattle.std.specs.Option.{is_some, option_map}
use Rattle.std.specs.Str.{bytes_eq}
use Rattle.pan_stage.specs.Locals.{Locals, read_from}
use Rattle.pan_tree.specs.Scopes.{in_scope, or_else, innermost, assign_in, assign}
use Rattle.pan_tree.specs.Value.{Value, words_in}
use Rattle.pan_tree.specs.Shapes.{words_of, shape_in}
use Rattle.pan_tree.specs.Meaning.{Scope, Scopes}
use Rattle.crep_flatten.specs.Flat.{Place, count}
use Rattle.crep_flatten.proofs.Values.{words_shape}
use Rattle.crep_flatten.proofs.Holding.{write_from, size, number, placed, HoldsIn, Holds, block_size, placed_count, holds_in_agree, holds_agree, read_agree, below_written, behind_written, written_read}

-- ---- one block

-- A value goes to a variable of the same shape that was found at a place in a block: the place lies in the block, no place changes, and the words are written there.
pub record Puts (a : Value) (n : ℕ) (scope scope' : Scope) (o : Option Place) : Type 0 where
  pub place : Place
  pub is : o ≡ Some place
  pub from : n ≤ place.first
  pub to : place.first + size a ≤ n + block_size scope
  pub places : number n scope' ≡ number n scope
  pub holds : (u : Locals) → HoldsIn n scope u → HoldsIn n scope' (write_from place.first (words_in a) u)

-- what is written below leaves a block
held_behind : (a : Value) (n i : ℕ) (scope : Scope) (u : Locals) → i + size a ≤ n → HoldsIn n scope u → HoldsIn n scope (write_from i (words_in a) u)
held_behind a n i scope u le h =
    holds_in_agree n scope u (write_from i (words_in a) u) (record { at = λ y p q. behind_written i (words_in a) u y (omega (arith, words_shape a, le, p)) }) h

-- a name that a block lacks has no place in it
absent_in : (x : List ℕ) (n : ℕ) (scope : Scope) → in_scope x scope ≡ None → in_scope x (number n scope) ≡ None
absent_in x n [] h = refl
absent_in x n (y ∷ ys) h = by (bytes_eq y.0 x) h (absent_in x (n + size y.1) ys)
  where
    by : (c : Bool) → option_map (λ z. z.1) (cond c (Some y) (find (λ z. bytes_eq z.0 x) ys)) ≡ None → (in_scope x ys ≡ None → in_scope x (number (n + size y.1) ys) ≡ None)
        → option_map (λ z. z.1) (cond c (Some (y.0, record { first = n; shape = shape_in y.1 })) (find (λ z. bytes_eq z.0 x) (number (n + size y.1) ys))) ≡ None
    by true h go = absurd cc
    by false h go = go h

puts_in : (x : List ℕ) (a b : Value) (n : ℕ) (scope : Scope) → in_scope x scope ≡ Some b → shape_in a ≡ shape_in b → Puts a n scope (assign_in x a scope) (in_scope x (number n scope))
puts_in x a b n [] h s = absurd cc
puts_in x a b n (y ∷ ys) h s = by (bytes_eq y.0 x) h (λ h. puts_in x a b (n + size y.1) ys h s)
  where
    by : (c : Bool) → option_map (λ z. z.1) (cond c (Some y) (find (λ z. bytes_eq z.0 x) ys)) ≡ Some b
        → (in_scope x ys ≡ Some b → Puts a (n + size y.1) ys (assign_in x a ys) (in_scope x (number (n + size y.1) ys)))
        → Puts a n (y ∷ ys) (if c then (y.0, a) ∷ ys else y ∷ assign_in x a ys) (option_map (λ z. z.1) (cond c (Some (y.0, record { first = n; shape = shape_in y.1 })) (find (λ z. bytes_eq z.0 x) (number (n + size y.1) ys))))
    by true h go =
        let e : y.1 ≡ b = cc in
        let same : shape_in a ≡ shape_in y.1 = s ∙ ap shape_in (sym e) in
        let k : size a ≡ size y.1 = ap words_of same in
        record {
          place = record { first = n; shape = shape_in y.1 };
          is = refl;
          from = omega arith;
          to = omega (arith, k);
          places = ap (λ s. (y.0, record { first = n; shape = s }) ∷ number (n + words_of s) ys) same;
          holds = λ u held. (
            ap (λ i. read_from n i (write_from n (words_in a) u)) (words_shape a) ∙ written_read n (words_in a) u,
            subst (λ i. HoldsIn (n + i) ys (write_from n (words_in a) u)) (sym k) (held_behind a (n + size y.1) n ys u (omega (arith, k)) held.1),
          );
        }
    by false h go =
        let r = go h in
        record {
          place = r.place;
          is = r.is;
          from = omega (arith, r.from);
          to = omega (arith, r.to);
          places = ap (λ qs. (y.0, record { first = n; shape = shape_in y.1 }) ∷ qs) r.places;
          holds = λ u held. (
            read_agree n (size y.1) u (write_from r.place.first (words_in a) u) (record { at = λ z p q. below_written r.place.first (words_in a) u z (omega (arith, r.from, q)) }) ∙ held.0,
            r.holds u held.1,
          );
        }

-- ---- all blocks

pub record PutsAt (a : Value) (v v' : Scopes) (o : Option Place) : Type 0 where
  pub place : Place
  pub is : o ≡ Some place
  pub to : place.first + size a ≤ count (placed v)
  pub places : placed v' ≡ placed v
  pub holds : (u : Locals) → Holds v u → Holds v' (write_from place.first (words_in a) u)

pub puts : (x : List ℕ) (a b : Value) (v : Scopes) → innermost x v ≡ Some b → shape_in a ≡ shape_in b → PutsAt a v (assign x a v) (innermost x (placed v))
puts x a b [] h s = absurd cc
puts x a b (scope ∷ scopes) h s = by (in_scope x scope) refl h (λ h. puts x a b scopes h s)
  where
    c : count (placed (scope ∷ scopes)) ≡ count (placed scopes) + block_size scope
    c = placed_count scope scopes

    by : (o : Option Value) → in_scope x scope ≡ o → or_else o (innermost x scopes) ≡ Some b → (innermost x scopes ≡ Some b → PutsAt a scopes (assign x a scopes) (innermost x (placed scopes)))
        → PutsAt a (scope ∷ scopes) (if is_some o then assign_in x a scope ∷ scopes else scope ∷ assign x a scopes) (or_else (in_scope x (number (count (placed scopes)) scope)) (innermost x (placed scopes)))
    by None is h go =
        let r = go h in
        let absent = absent_in x (count (placed scopes)) scope is in
        record {
          place = r.place;
          is = ap (λ o. or_else o (innermost x (placed scopes))) absent ∙ r.is;
          to = omega (arith, r.to, c);
          places = ap (λ qs. number (count qs) scope ∷ qs) r.places;
          holds = λ u held. (
            subst (λ n. HoldsIn n scope (write_from r.place.first (words_in a) u)) (sym (ap count r.places)) (held_behind a (count (placed scopes)) r.place.first scope u r.to held.0),
            r.holds u held.1,
          );
        }
    by (Some z) is h go =
        let e : z ≡ b = cc in
        let r = puts_in x a b (count (placed scopes)) scope (is ∙ ap Some e) s in
        record {
          place = r.place;
          is = ap (λ o. or_else o (innermost x (placed scopes))) r.is;
          to = omega (arith, r.to, c);
          places = ap (λ qs. qs ∷ placed scopes) r.places;
          holds = λ u held. (r.holds u held.0, holds_agree scopes u (write_from r.place.first (words_in a) u) (record { at = λ y p q. below_written r.place.first (words_in a) u y (omega (arith, q, r.from)) }) held.1);
        }
