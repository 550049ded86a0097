-- What it says that no rule is broken.
use Rattle.std.proofs.Common.{◌≡◌, ℕ, Bool, true, false, ◌||◌, not, List, [], ◌∷◌, ◌++◌, refl}
use Rattle.pan_tree.specs.Shapes.{is_word}
use Rattle.pan_tree.specs.Check.{Judged, broken, breaks_of, has_no_word}
use Rattle.pan_tree.specs.declared.rule.Rule.{Rule}

-- of rules of which none is broken the first isn't, and the others aren't
pub unbroken : (place : ℕ) (rule : Rule) (b : Bool) (rules : List (Rule × Bool)) → broken place ((rule, b) ∷ rules) ≡ [] → (b ≡ false) × (broken place rules ≡ [])
unbroken place rule false rules h = (refl, h)
unbroken place rule true rules h = absurd cc

pub append_none : {X : Type 0} (xs ys : List X) → xs ++ ys ≡ [] → (xs ≡ []) × (ys ≡ [])
append_none [] ys h = (refl, h)
append_none (x ∷ xs) ys h = absurd cc

pub none_append : {X : Type 0} (xs ys : List X) → xs ≡ [] → ys ≡ [] → xs ++ ys ≡ []
none_append [] ys h g = g
none_append (x ∷ xs) ys h g = absurd cc

pub not_false : (b : Bool) → not b ≡ false → b ≡ true
not_false true h = refl
not_false false h = absurd cc

pub neither : (a b : Bool) → (a || b) ≡ false → (a ≡ false) × (b ≡ false)
neither false b h = (refl, h)
neither true b h = absurd cc

-- which rules are broken doesn't hang on the place
pub anywhere : (place other : ℕ) (rules : List (Rule × Bool)) → broken place rules ≡ [] → broken other rules ≡ []
anywhere place other [] h = refl
anywhere place other ((rule, false) ∷ rules) h = anywhere place other rules h
anywhere place other ((rule, true) ∷ rules) h = absurd cc

-- the parts of what breaks nothing break nothing
pub head_breaks : (j : Judged) (js : List Judged) → breaks_of (j ∷ js) ≡ [] → (j.breaks ≡ []) × (breaks_of js ≡ [])
head_breaks j js h = append_none j.breaks (breaks_of js) h

-- each of these is a word
pub head_word : (j : Judged) (js : List Judged) → has_no_word (j ∷ js) ≡ false → (is_word j.shape ≡ true) × (has_no_word js ≡ false)
head_word j js h = let n = neither (not (is_word j.shape)) (has_no_word js) h in (not_false (is_word j.shape) n.0, n.1)
