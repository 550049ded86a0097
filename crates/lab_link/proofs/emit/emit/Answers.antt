use Rattle.std.proofs.Common.{arith}
use Rattle.lab_lang.specs.declared.syntax.Line.TheVariants.{Label}
use Rattle.lab_link.proofs.Emitting.{emitted_more, place_low, same_length}
use Rattle.lab_link.proofs.emit.emit.Goals as goal

pub bounds-layout-i : goal.bounds-layout-i
bounds-layout-i c = omega (arith, same_length 0 c.args.lines.now c.args.layout.now c.requires.layout)

pub bounds-layout-i-in-loop-i : goal.bounds-layout-i-in-loop-i
bounds-layout-i-in-loop-i c = omega (arith, same_length 0 c.args.lines.now c.args.layout.now c.requires.layout)

pub push_line-requires-clause-from : goal.push_line-requires-clause-from
push_line-requires-clause-from c = place_low c.args.lines.now c.args.layout.now c.loop-i.i (0, 0) c.requires.layout c.requires.most (omega arith)

pub loop-i-preserved : goal.loop-i-preserved
loop-i-preserved c =
    emitted_more c.args.lines.now c.args.layout.now c.args.table.now c.loop-i.i (Label 0) (0, 0) c.loop-i.instrs c.push_line.new.instrs c.requires.layout (omega arith) c.loop-i.invariant
    c.in_ok-push_line.ensures
