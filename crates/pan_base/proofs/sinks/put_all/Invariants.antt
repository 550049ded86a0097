use Rattle.std.proofs.Common.{◌≤◌, ◌-◌, length, take}
use Rattle.pan_base.specs.Sinks.{Took}
use Rattle.pan_base.proofs.sinks.put_all.Given as goal

abbrev pub invariant-loop-done : goal.invariant-loop-done
invariant-loop-done g l = record {
  within : l.done ≤ length l.bytes;
  took : Took (g.O.Sink.state l.fn.out) (g.O.Sink.state l.out) (take l.done l.bytes);
  later : (g.O.Sink.state l.fn.out).faults ≤ (g.O.Sink.state l.out).faults;
}

abbrev pub decreases-loop-done : goal.decreases-loop-done
decreases-loop-done g l = length l.bytes - l.done
