use Rattle.std.proofs.Common.{◌≡◌, cond, sym, ap, ◌∙◌, subst}
use Rattle.std.proofs.lemmas.List.{get_or_default}
use Rattle.stack_bound.specs.Nodes.{frame_by, no_node}
use Rattle.stack_bound.specs.declared.calls.Node.{Node}
use Rattle.stack_bound.proofs.Walking.{counts}
use Rattle.stack_bound.proofs.walk.Walk.count.Goals as goal
use Rattle.stack_bound.proofs.walk.Walk.count.Goals.{then-call, else-call}

pub returns : goal.returns
returns c =
    let own : c.if-call.own ≡ cond c.args.call.tail 0 (frame_by c.args.nodes.now c.args.self.now.current.function) =
    elim c.if-call.branch [
      | then-call w ↦ subst (λ t. c.if-call.own ≡ cond t 0 (frame_by c.args.nodes.now c.args.self.now.current.function)) (sym w.if-call.true) w.own-is
      | else-call w ↦ subst (λ t. c.if-call.own ≡ cond t 0 (frame_by c.args.nodes.now c.args.self.now.current.function)) (sym w.if-call.false) (w.own-is ∙ ap (λ (n : Node). n.frame) (get_or_default c.args.nodes.now c.args.self.now.current.function w.index-nodes-self.result no_node c.requires.walk.current.inside))
    ] in
    counts c.args.nodes.now c.args.self.now c.args.call c.args.below c.if-call.own c.max-self.result c.requires.walk c.requires.next c.requires.done own c.max-self.ensures
