use Rattle.std.proofs.Common.{◌+◌, length, sym, ap, ◌∙◌, subst}
use Rattle.std.proofs.lemmas.List.{length_push}
use Rattle.stack_bound.specs.Walks.{AreUnseen}
use Rattle.stack_bound.specs.declared.walk.Mark.TheVariants.{Unseen}
use Rattle.stack_bound.proofs.Marks.{unseen_push}
use Rattle.stack_bound.proofs.walk.unseen.Goals as goal

pub loop-preserved : goal.loop-preserved
loop-preserved c =
    let is = c.in_ok-push.ensures.ok in
    (ap length is ∙ length_push c.loop.marks Unseen ∙ ap (λ n. n + 1) c.loop.invariant.0, subst AreUnseen (sym is) (unseen_push c.loop.marks c.loop.invariant.1))
