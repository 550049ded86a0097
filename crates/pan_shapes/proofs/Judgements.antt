-- How an expression is answered, from the answers for its parts.
use Rattle.std.proofs.Common.{◌≡◌, ℕ, ◌+◌, ◌*◌, ◌-◌, ◌^◌, min, Bool, true, false, not, ◌||◌, nat_lt, List, [], ◌∷◌, ◌++◌, map, sum, Ok, Result, refl, sym, ap, subst, ◌∙◌, append_assoc, arith}
use Rattle.std.specs.List.{list_any, fold}
use Rattle.std.specs.Result.{IsErrAnd}
use Rattle.std.proofs.lemmas.List.{append-nil}
use Rattle.pan_base.specs.declared.operators.ShOp.{ShOp}
use Rattle.pan_tree.specs.declared.rule.Rule.TheVariants.{NotStruct, NoField, NotWord, BadShift, ShapeTooWide}
use Rattle.pan_tree.specs.declared.shape.Shape.{Shape}
use Rattle.pan_tree.specs.declared.shape.Shape.TheVariants as shape
use Rattle.pan_tree.specs.Shapes.{APart, part_at, words_of, is_word}
use Rattle.pan_tree.specs.Check.{Break, Scopes, Judged, broken, breaks_of, weights, is_wide, part_shape, is_of_word, is_no_part}
use Rattle.pan_tree.proofs.ShapeLayers.{words_word}
use Rattle.pan_shapes.specs.declared.error.CheckError.{CheckError}
use Rattle.pan_shapes.specs.declared.judging.Judged.{Judged as Answer}
use Rattle.pan_shapes.specs.declared.judging.Parts.{Parts}
use Rattle.pan_shapes.specs.declared.judging.Terms.{Terms}
use Rattle.pan_shapes.specs.Answers.{IsAnswer}
use Rattle.pan_shapes.specs.Judging.{IsMade, IsJudged, Tells, TellsParts, TellsTerms}
use Rattle.pan_shapes.proofs.ExprLayers.{a_word, a_struct, word_from, a_field, a_load, a_chain, a_shift}
use Rattle.pan_shapes.proofs.Combining.{Refused, refused, handed_on, answered}

pub or_false : (b : Bool) → b ≡ (b || false)
or_false true = refl
or_false false = refl

-- ---- a part is refused

pub parts_refused : (j : Judged) (parts : List Judged) (own : List Break) (e : CheckError) (r : Result Answer CheckError) → j.breaks ≡ breaks_of parts ++ own → IsErrAnd r (λ y. y ≡ e) → Refused (breaks_of parts) e → IsJudged j r
parts_refused j parts own e r is err a = handed_on (Tells j) j.breaks e r err (refused (breaks_of parts) own j.breaks e is a)

pub first_refused : (j first : Judged) (others : List Judged) (own : List Break) (e : CheckError) (r : Result Answer CheckError) → j.breaks ≡ breaks_of (first ∷ others) ++ own → IsErrAnd r (λ y. y ≡ e) → Refused first.breaks e → IsJudged j r
first_refused j first others own e r is err a =
    handed_on (Tells j) j.breaks e r err (refused first.breaks (breaks_of others ++ own) j.breaks e (is ∙ append_assoc first.breaks (breaks_of others) own) a)

pub others_refused : (j first : Judged) (others : List Judged) (own : List Break) (e : CheckError) (r : Result Answer CheckError) → j.breaks ≡ breaks_of (first ∷ others) ++ own → first.breaks ≡ [] → IsErrAnd r (λ y. y ≡ e) → Refused (breaks_of others) e → IsJudged j r
others_refused j first others own e r is none err a =
    handed_on (Tells j) j.breaks e r err (refused (breaks_of others) own j.breaks e (is ∙ ap (λ b. (b ++ breaks_of others) ++ own) none) a)

pub second_refused : (j first second : Judged) (own : List Break) (e : CheckError) (r : Result Answer CheckError) → j.breaks ≡ breaks_of (first ∷ second ∷ []) ++ own → first.breaks ≡ [] → IsErrAnd r (λ y. y ≡ e) → Refused second.breaks e → IsJudged j r
second_refused j first second own e r is none err a = others_refused j first (second ∷ []) own e r is none err (subst (λ b. Refused b e) (sym (append-nil second.breaks)) a)

-- ---- the parts break no rule

abbrev pub Passes : Judged → Answer → Type 0
Passes j k = (j.breaks ≡ []) × Tells j k

own_answer : (j : Judged) (parts own told : List Break) (G : Answer → Type 0) (r : Result Answer CheckError) → j.breaks ≡ parts ++ own → parts ≡ [] → told ≡ own → ((k : Answer) → G k → Tells j k) → IsAnswer told G r → IsJudged j r
own_answer j parts own told G r is none same good a = answered G (Tells j) told j.breaks r (is ∙ ap (λ b. b ++ own) none ∙ sym same) good a

sum_from : (a : ℕ) (xs : List ℕ) → fold ◌+◌ a xs ≡ a + sum xs
sum_from a [] = omega arith
sum_from a (x ∷ xs) =
    let here = sum_from (a + x) xs in
    let whole = sum_from (0 + x) xs in
    omega (arith, here, whole)

weights_of_more : (j : Judged) (js : List Judged) → weights (j ∷ js) ≡ j.weight + weights js
weights_of_more j js = let all = sum_from (0 + j.weight) (map (λ j. j.weight) js) in omega (arith, all)

chain_weight : (n a b x y k : ℕ) → x ≡ min a (2 ^ 64 - 1) → y ≡ min b (2 ^ 64 - 1) → k ≡ min (2 * n + (x + y)) (2 ^ 64 - 1) → k ≡ min (2 * n + (a + b)) (2 ^ 64 - 1)
chain_weight n a b x y k x_is y_is k_is = omega (arith, x_is, y_is, k_is)

-- at a place, among these variables
module _ (place : ℕ) (v : Scopes) (r : Result Answer CheckError) where
  pub word_passes : (k : Answer) → IsMade shape.Word (1 + words_of shape.Word + 0) k → IsJudged (a_word place v) (Ok k)
  word_passes k made = (refl, made)

  pub struct_passes : (js : List Judged) (p : Parts) → (breaks_of js ≡ []) × TellsParts js p
      → IsAnswer (broken place ((ShapeTooWide, is_wide (shape.Group p.shapes)) ∷ [])) (IsMade (shape.Group p.shapes) (1 + words_of (shape.Group p.shapes) + p.weight)) r → IsJudged (a_struct place v js) r
  struct_passes js p (none, tells) a =
      let group : shape.Group p.shapes ≡ shape.Group (map (λ j. j.shape) js) = ap shape.Group tells.0 in
      own_answer (a_struct place v js) (breaks_of js) _ _ (IsMade (shape.Group p.shapes) (1 + words_of (shape.Group p.shapes) + p.weight)) r refl none (ap (λ s. broken place ((ShapeTooWide, is_wide s) ∷ [])) group)
      (λ k made. (made.0 ∙ group, omega (arith, made.1, tells.1, ap words_of group))) a

  pub field_passes : (j : Judged) (of : Answer) (is : List ℕ) → Passes j of
      → IsAnswer (broken place ((NotStruct, is_of_word (part_at (APart of.shape) is)) ∷ (NoField, is_no_part (part_at (APart of.shape) is)) ∷ [])) (IsMade (part_shape (part_at (APart of.shape) is)) (1 + words_of (part_shape (part_at (APart of.shape) is)) + of.weight)) r
      → IsJudged (a_field place v j is) r
  field_passes j of is (none, tells) a =
      let part = ap (λ s. part_at (APart s) is) tells.0 in
      own_answer (a_field place v j is) (j.breaks ++ []) _ _ (IsMade (part_shape (part_at (APart of.shape) is)) (1 + words_of (part_shape (part_at (APart of.shape) is)) + of.weight)) r refl (append-nil j.breaks ∙ none)
      (ap (λ p. broken place ((NotStruct, is_of_word p) ∷ (NoField, is_no_part p) ∷ [])) part)
      (λ k made. (made.0 ∙ ap part_shape part, omega (arith, made.1, tells.1, ap (λ p. words_of (part_shape p)) part))) a

  pub load_passes : (s : Shape) (j : Judged) (of : Answer) → Passes j of
      → IsAnswer (broken place ((NotWord, not (is_word of.shape)) ∷ (ShapeTooWide, is_wide s) ∷ [])) (IsMade s (1 + words_of s + of.weight)) r → IsJudged (a_load place v s j) r
  load_passes s j of (none, tells) a =
      let no_word = ap (λ s. not (is_word s)) tells.0 ∙ or_false (not (is_word j.shape)) in
      own_answer (a_load place v s j) (j.breaks ++ []) _ _ (IsMade s (1 + words_of s + of.weight)) r refl (append-nil j.breaks ∙ none)
      (ap (λ b. broken place ((NotWord, b) ∷ (ShapeTooWide, is_wide s) ∷ [])) no_word) (λ k made. (made.0, omega (arith, made.1, tells.1))) a

  pub word_from_one : (j : Judged) (of : Answer) → Passes j of
      → IsAnswer (broken place ((NotWord, not (is_word of.shape)) ∷ [])) (IsMade shape.Word (2 + of.weight)) r → IsJudged (word_from place v (j ∷ [])) r
  word_from_one j of (none, tells) a =
      let no_word = ap (λ s. not (is_word s)) tells.0 ∙ or_false (not (is_word j.shape)) in
      own_answer (word_from place v (j ∷ [])) (j.breaks ++ []) _ _ (IsMade shape.Word (2 + of.weight)) r refl (append-nil j.breaks ∙ none)
      (ap (λ b. broken place ((NotWord, b) ∷ [])) no_word) (λ k made. (made.0, omega (arith, made.1, tells.1, words_word))) a

  pub word_from_both : (j i : Judged) (left right : Answer) → Passes j left → Passes i right
      → IsAnswer (broken place ((NotWord, not (is_word left.shape) || not (is_word right.shape)) ∷ [])) (IsMade shape.Word (2 + (left.weight + right.weight))) r → IsJudged (word_from place v (j ∷ i ∷ [])) r
  word_from_both j i left right (none, tells) (none', tells') a =
      let has_no_word = ap (λ s. not (is_word s) || not (is_word right.shape)) tells.0 ∙ ap (λ s. not (is_word j.shape) || not (is_word s)) tells'.0 ∙ ap (λ b. not (is_word j.shape) || b) (or_false (not (is_word i.shape))) in
      own_answer (word_from place v (j ∷ i ∷ [])) (j.breaks ++ (i.breaks ++ [])) _ _ (IsMade shape.Word (2 + (left.weight + right.weight))) r refl (ap (λ b. b ++ (i.breaks ++ [])) none ∙ append-nil i.breaks ∙ none')
      (ap (λ b. broken place ((NotWord, b) ∷ [])) has_no_word) (λ k made. (made.0, omega (arith, made.1, tells.1, tells'.1, words_word))) a

  pub chain_passes : (n : ℕ) (j : Judged) (js : List Judged) (first : Answer) (terms : Terms) → Passes j first → (breaks_of js ≡ []) × TellsTerms js terms
      → IsAnswer (broken place ((NotWord, not (is_word first.shape) || terms.has_no_word) ∷ [])) (IsMade shape.Word (2 * n + (first.weight + terms.weight))) r → IsJudged (a_chain place v n j js) r
  chain_passes n j js first terms (none, tells) (none', tells') a =
      let words = ap (λ s. not (is_word s) || terms.has_no_word) tells.0 ∙ ap (λ b. not (is_word j.shape) || b) tells'.0 in
      own_answer (a_chain place v n j js) (j.breaks ++ breaks_of js) _ _ (IsMade shape.Word (2 * n + (first.weight + terms.weight))) r refl (ap (λ b. b ++ breaks_of js) none ∙ none')
      (ap (λ b. broken place ((NotWord, b) ∷ [])) words) (λ k made. (made.0, chain_weight n j.weight (weights js) first.weight terms.weight k.weight tells.1 tells'.1 made.1 ∙ ap (λ w. min (2 * n + w) (2 ^ 64 - 1)) (sym (weights_of_more j js)))) a

  pub shift_passes : (ns : List (ShOp × ℕ)) (n : ℕ) (j : Judged) (of : Answer) → Passes j of
      → IsAnswer (broken place ((NotWord, not (is_word of.shape)) ∷ (BadShift, list_any (λ n. nat_lt 63 n.1) ns) ∷ [])) (IsMade shape.Word (2 * n + of.weight)) r → IsJudged (a_shift place v n ns j) r
  shift_passes ns n j of (none, tells) a =
      let no_word = ap (λ s. not (is_word s)) tells.0 ∙ or_false (not (is_word j.shape)) in
      own_answer (a_shift place v n ns j) (j.breaks ++ []) _ _ (IsMade shape.Word (2 * n + of.weight)) r refl (append-nil j.breaks ∙ none)
      (ap (λ b. broken place ((NotWord, b) ∷ (BadShift, list_any (λ n. nat_lt 63 n.1) ns) ∷ [])) no_word) (λ k made. (made.0, omega (arith, made.1, tells.1))) a
