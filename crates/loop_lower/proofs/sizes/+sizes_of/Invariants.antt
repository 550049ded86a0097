use Rattle.std.proofs.Common.{◌≡◌, ◌+◌, ◌≤◌}
use Rattle.std.specs.Prelude.{max}
use Rattle.crep_lang.specs.Needs.{temporaries}
use Rattle.crep_lang.specs.Steps.{expr_steps}
use Rattle.loop_lower.specs.Lowered.{capped, most_words}
use Rattle.loop_lower.proofs.sizes.+sizes_of.Given as goal

-- what stands behind the rest of the expression
abbrev pub invariant-operands : goal.invariant-operands
invariant-operands l =
    (expr_steps l.rest ≤ expr_steps l.expr)
    × (l.behind.many ≤ most_words)
    × (l.behind.few ≤ most_words)
    × (capped (l.behind.many + expr_steps l.rest) ≡ capped (expr_steps l.expr))
    × (capped (max l.behind.few (temporaries l.rest)) ≡ capped (temporaries l.expr))

abbrev pub decreases-sizes_of : goal.decreases-sizes_of
decreases-sizes_of l = expr_steps l.expr.now
