use Rattle.std.proofs.Common.{◌-◌, arith}
use Rattle.lab_lang.specs.declared.syntax.Line.TheVariants.{Label}
use Rattle.lab_link.proofs.Laying.{step_other}
use Rattle.lab_link.proofs.layout.places.Goals as goal

pub loop-i-preserved : goal.loop-i-preserved
loop-i-preserved c = (
  c.loop-i.invariant.0,
  omega arith,
  step_other c.args.lines.now c.args.layout.now (c.loop-i.i - 1) c.loop-i.i (Label 0) (0, 0) c.loop-i.table.items (omega arith) (omega arith) c.requires.layout c.in_default.not-Label c.loop-i.invariant.2,
)
