use Rattle.std.proofs.Common.{arith}
use Rattle.lab_lang.specs.declared.syntax.Line.TheVariants.{Label}
use Rattle.lab_link.proofs.Turning.{short_room, short_laid}
use Rattle.lab_link.proofs.layout.lay.Goals as goal

pub overflow_add-size : goal.overflow_add-size
overflow_add-size c =
    let room = short_room c.args.lines.now c.loop-line.line-index c.loop-line.size c.shortest_of-count.result c.loop-line.layout (Label 0) (omega arith) c.shortest_of-count.ensures c.loop-line.invariant c.requires in
    omega arith

pub loop-line-preserved : goal.loop-line-preserved
loop-line-preserved c =
    short_laid c.args.lines.now c.loop-line.line-index c.loop-line.size c.shortest_of-count.result c.loop-line.layout (Label 0) (omega arith) c.shortest_of-count.ensures c.loop-line.invariant
    c.push.new.self c.in_ok-push.ensures.ok
