-- How the answers of parts make the answer of the whole.
use Rattle.std.proofs.Common.{◌≡◌, ℕ, ◌+◌, ◌-◌, ◌^◌, min, ◌<◌, ◌≤◌, arith, List, ◌∷◌, ◌++◌, map, drop, length, get_or, Ok, Err, Result, sym, ap, subst, ◌∙◌, drop-cons, add-one}
use Rattle.std.specs.Result.{IsErrAnd}
use Rattle.std.proofs.lemmas.Result.{err_from_is_err_and}
use Rattle.pan_tree.specs.Check.{Break, Judged, breaks_of}
use Rattle.pan_shapes.specs.declared.error.CheckError.{CheckError}
use Rattle.pan_shapes.specs.declared.error.CheckError.TheVariants as error
use Rattle.pan_shapes.specs.Answers.{IsAnswer}

-- what breaks these rules is answered by this error
abbrev pub Refused : List Break → CheckError → Type 0
Refused breaks e = IsAnswer {X = Unit {0}} breaks (λ _. Unit {0}) (Err e)

-- a part is refused, and nothing before it breaks a rule
pub refused : (bs cs all : List Break) (e : CheckError) → all ≡ bs ++ cs → Refused bs e → Refused all e
refused bs cs all (error.Breaks rule place) is (others, e) = (others ++ cs, is ∙ ap (λ b. b ++ cs) e)
refused bs cs all error.NoMemory is a = tt

-- the error is handed on
pub handed_on : {X : Type 0} (H : X → Type 0) (all : List Break) (e : CheckError) (r : Result X CheckError) → IsErrAnd r (λ y. y ≡ e) → Refused all e → IsAnswer all H r
handed_on H all e r is a = let p = err_from_is_err_and r is in subst (λ r. IsAnswer all H r) (sym (p.1 ∙ ap Err p.2)) a

-- the answer of the last part, where nothing before it breaks a rule
pub answered : {X : Type 0} (G H : X → Type 0) (cs all : List Break) (r : Result X CheckError) → all ≡ cs → ((x : X) → G x → H x) → IsAnswer cs G r → IsAnswer all H r
answered G H cs all (Ok x) is good (none, g) = (is ∙ none, good x g)
answered G H cs all (Err (error.Breaks rule place)) is good (others, e) = (others, is ∙ e)
answered G H cs all (Err error.NoMemory) is good a = tt

-- what a sum has come to, where nothing is left to add
pub weight_at_end : (w all : ℕ) → w ≤ 2 ^ 64 - 1 → min (w + 0) (2 ^ 64 - 1) ≡ min all (2 ^ 64 - 1) → w ≡ min all (2 ^ 64 - 1)
weight_at_end w all h e = omega (arith, h, e)

-- ---- the items of a list, judged one after another

module _ {X : Type 0} (f : X → Judged) where
  abbrev pub breaks_in : List X → List Break
  breaks_in xs = breaks_of (map f xs)

  pub next_item : (xs : List X) (i : ℕ) (x : X) → i < length xs → x ≡ get_or xs i x → drop i xs ≡ x ∷ drop (i + 1) xs
  next_item xs i x h is = drop-cons xs i x h ∙ ap (λ n. get_or xs i x ∷ drop n xs) (sym (add-one i)) ∙ ap (λ y. y ∷ drop (i + 1) xs) (sym is)

  -- the item at hand is refused
  pub item_refused : (xs : List X) (i : ℕ) (x : X) (e : CheckError) → i < length xs → x ≡ get_or xs i x → breaks_in xs ≡ breaks_in (drop i xs) → Refused (f x).breaks e → Refused (breaks_in xs) e
  item_refused xs i x e h is before a = refused (f x).breaks (breaks_in (drop (i + 1) xs)) (breaks_in xs) e (before ∙ ap breaks_in (next_item xs i x h is)) a
