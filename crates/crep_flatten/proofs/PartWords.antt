-- The first words of variables and of memory, and the words of parts.
use Rattle.std.proofs.Common.{◌≡◌, ℕ, zero, suc, ◌<◌, ◌≤◌, List, [], ◌∷◌, length, Option, Some, None, arith, refl, ap, ◌∙◌}
use Rattle.std.proofs.lemmas.Option.{slice_get_past}
use Rattle.pan_tree.specs.Shapes.{words_of}
use Rattle.pan_tree.specs.declared.shape.Shape.{Shape}
use Rattle.crep_lang.specs.declared.syntax.Expr.{Expr}
use Rattle.crep_lang.specs.declared.syntax.Expr.TheVariants as e
use Rattle.crep_flatten.specs.declared.rows.Row.TheVariants as row
use Rattle.crep_flatten.specs.Rows.{inlined}
use Rattle.crep_flatten.specs.Flat.{Place, Flat, first_of, word_in, variable_at, loaded, nothing, part_found, part_among}

-- ---- first words

first_variable : (x n : ℕ) → 0 < n → first_of (inlined (row.Variables x n ∷ [])) ≡ e.Var x
first_variable x zero l = absurd (omega (arith, l))
first_variable x (suc n) l = refl

first_load : (a : Expr) (n : ℕ) → 0 < n → first_of (inlined (row.Loads a 0 n ∷ [])) ≡ e.LoadWord a
first_load a zero l = absurd (omega (arith, l))
first_load a (suc n) l = refl

pub no_variable : (q : Place) → words_of q.shape ≡ 0 → word_in (variable_at (Some q)) ≡ e.Num 0
no_variable q h = ap (λ n. first_of (inlined (row.Variables q.first n ∷ []))) h

pub some_variable : (q : Place) → 0 < words_of q.shape → word_in (variable_at (Some q)) ≡ e.Var q.first
some_variable q h = first_variable q.first (words_of q.shape) h

pub no_load : (s : Shape) (a : Expr) → words_of s ≡ 0 → word_in (loaded s a) ≡ e.Num 0
no_load s a h = ap (λ n. first_of (inlined (row.Loads a 0 n ∷ []))) h

pub some_load : (s : Shape) (a : Expr) → 0 < words_of s → word_in (loaded s a) ≡ e.LoadWord a
some_load s a h = first_load a (words_of s) h

pub ruleset first_rules = (no_variable, some_variable, no_load, some_load)

-- ---- parts

pub part_of_word : (o : Option (List Shape)) (i : ℕ) (f : Flat) → o ≡ None → part_among o i f ≡ nothing
part_of_word o i f h = ap (λ o. part_among o i f) h

pub part_past : (o : Option (List Shape)) (ss : List Shape) (i : ℕ) (f : Flat) → o ≡ Some ss → length ss ≤ i → part_among o i f ≡ nothing
part_past o ss i f h l = ap (λ o. part_among o i f) h ∙ ap (λ o. part_found o ss i f) (slice_get_past ss i l)

pub ruleset part_rules = (part_of_word, part_past)
