use Rattle.std.proofs.Common.{◌≡◌, ◌∷◌, ◌++◌, ◌+◌, ◌*◌, drop}
use Rattle.std.specs.Prelude.{flat_map}
use Rattle.pan_base.specs.declared.tokens.Sign.TheVariants as signs
use Rattle.pan_printer.specs.Pieces.{sign, text_of}
use Rattle.pan_printer.specs.Expressions.{expr_pieces, terms, kind_written}
use Rattle.pan_printer.proofs.expressions.+expr.Given as goal

-- what is left to do completes what is done
abbrev pub invariant-put_exprs-loop-expr : goal.invariant-put_exprs-loop-expr
invariant-put_exprs-loop-expr l =
    l.out ++ text_of (flat_map (λ x. sign signs.Comma ∷ expr_pieces x) (drop l.expr-index l.more)) ≡ l.initial.out ++ text_of (flat_map (λ x. sign signs.Comma ∷ expr_pieces x) l.more)

abbrev pub invariant-put_terms-loop-operator : goal.invariant-put_terms-loop-operator
invariant-put_terms-loop-operator l =
    l.out ++ text_of (terms l.least (λ y. kind_written y.kind) (drop l.operator-index l.rest)) ≡ l.initial.out ++ text_of (terms l.least (λ y. kind_written y.kind) l.rest)

-- a part calls its expression, terms call parts, and a row calls expressions
abbrev pub decreases-put_expr : goal.decreases-put_expr
decreases-put_expr l = 3 * goal.size-put_expr l

abbrev pub decreases-put_part : goal.decreases-put_part
decreases-put_part l = 3 * goal.size-put_part l + 1

abbrev pub decreases-put_exprs : goal.decreases-put_exprs
decreases-put_exprs l = 3 * goal.size-put_exprs l + 1

abbrev pub decreases-put_terms : goal.decreases-put_terms
decreases-put_terms l = 3 * goal.size-put_terms l + 2
