use Rattle.std.proofs.Common.{arith}
use Rattle.pan_base.proofs.TookLemmas.{Took-slice}
use Rattle.pan_base.proofs.sinks.put_all.Goals as goal

pub loop-done-preserved : goal.loop-done-preserved
loop-done-preserved g c = record {
  within = omega (arith, c.in_ok-done.ensures.took.0);
  took = Took-slice _ _ _ c.args.bytes.now c.loop-done.done c.in_ok-done.field-0 c.loop-done.invariant.took c.in_ok-done.ensures.took.2;
  later = omega (arith, c.in_ok-done.ensures.cause);
}
