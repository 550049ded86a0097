use Rattle.std.proofs.Common.{◌≡◌, ◌+◌, ◌*◌, ◌++◌, map, drop}
use Rattle.std.specs.List.{list_all}
use Rattle.crep_flatten.specs.Flat.{Flat, word_in, flat}
use Rattle.crep_flatten.specs.Flattened.{rows_of}
use Rattle.crep_flatten.specs.Literals.{fits}
use Rattle.crep_flatten.proofs.exprs.+flatten_expr.Given as goal

-- what is left completes what is done
abbrev pub invariant-flatten_struct-loop-part : goal.invariant-flatten_struct-loop-part
invariant-flatten_struct-loop-part l =
    (l.shapes ++ map (λ (f : Flat). f.shape) (map (λ x. flat x l.here) (drop l.part-index l.parts)) ≡ map (λ (f : Flat). f.shape) (map (λ x. flat x l.here) l.parts))
    × ((l.rows ++ rows_of (map (λ x. flat x l.here) (drop l.part-index l.parts)) ≡ rows_of (map (λ x. flat x l.here) l.parts))
    × (list_all fits (drop l.part-index l.parts) ≡ list_all fits l.parts))

abbrev pub invariant-flatten_terms-loop-operator : goal.invariant-flatten_terms-loop-operator
invariant-flatten_terms-loop-operator l =
    (l.all ++ map (λ y. (y.0, word_in (flat y.1 l.here))) (drop l.operator-index l.terms) ≡ map (λ y. (y.0, word_in (flat y.1 l.here))) l.terms)
    × (list_all (λ y. fits y.1) (drop l.operator-index l.terms) ≡ list_all (λ y. fits y.1) l.terms)

-- an expression's words are those of a word or of parts
abbrev pub decreases-flatten_expr : goal.decreases-flatten_expr
decreases-flatten_expr l = 3 * goal.size-flatten_expr l + 1

abbrev pub decreases-flatten_word : goal.decreases-flatten_word
decreases-flatten_word l = 3 * goal.size-flatten_word l

abbrev pub decreases-flatten_boxed : goal.decreases-flatten_boxed
decreases-flatten_boxed l = 3 * goal.size-flatten_boxed l + 1

abbrev pub decreases-flatten_struct : goal.decreases-flatten_struct
decreases-flatten_struct l = 3 * goal.size-flatten_struct l + 2

abbrev pub decreases-flatten_field : goal.decreases-flatten_field
decreases-flatten_field l = 3 * goal.size-flatten_field l + 2

abbrev pub decreases-flatten_terms : goal.decreases-flatten_terms
decreases-flatten_terms l = 3 * goal.size-flatten_terms l + 2
