use Rattle.std.proofs.Common.{◌≡◌, ℕ, zero, suc, ◌+◌, List, [], ◌∷◌, ◌++◌, drop, append_assoc, Some, slice_get, sym, ap, subst, ◌∙◌, arith}
use Rattle.pan_tree.specs.Check.{foreign_names}
use Rattle.crep_flatten.proofs.flattening.foreign_names.Goals as goal

next_of : (names : List (List ℕ)) (i : ℕ) (x : List ℕ) → Some x ≡ slice_get names i → drop i names ≡ x ∷ drop (i + 1) names
next_of [] i x is = absurd (cc is)
next_of (y ∷ names) zero x is = let e : y ≡ x = cc is in ap (λ z. z ∷ names) e
next_of (y ∷ names) (suc i) x is = let e : suc i + 1 ≡ suc (i + 1) = omega arith in subst (λ n. drop i names ≡ x ∷ drop n (y ∷ names)) (sym e) (next_of names i x is)

-- one more name is copied
copied_next : (names : List (List ℕ)) (i : ℕ) (x : List ℕ) (done new : List (List ℕ)) → Some x ≡ slice_get names i → new ≡ done ++ x ∷ [] → done ++ drop i names ≡ names → new ++ drop (i + 1) names ≡ names
copied_next names i x done new is made h = ap (λ xs. xs ++ drop (i + 1) names) made ∙ append_assoc done (x ∷ []) (drop (i + 1) names) ∙ sym (ap (λ xs. done ++ xs) (next_of names i x is)) ∙ h

pub loop-i-preserved : goal.loop-i-preserved
loop-i-preserved c =
    copied_next (foreign_names c.args.checked.now) c.loop-i.i c.name.result.now c.loop-i.names c.push.new.self c.name.ensures.same (c.in_ok-push.ensures.ok ∙ ap (λ x. c.loop-i.names ++ x ∷ []) c.in_ok-from_slice.ensures) c.loop-i.invariant
