use Rattle.std.proofs.Common.{◌≤◌, take}
use Rattle.pan_base.specs.Pieces.{PassedOn}
use Rattle.pan_base.specs.Trace.{hex_text}
use Rattle.pan_base.proofs.trace.Line.add_hex.Given as goal

abbrev pub invariant-loop-byte : goal.invariant-loop-byte
invariant-loop-byte g l = record {
  passed : PassedOn (g.O.Sink.state l.fn.out) (g.O.Sink.state l.out) l.fn.self l.self (hex_text (take l.byte-index l.bytes));
  later : (g.O.Sink.state l.fn.out).faults ≤ (g.O.Sink.state l.out).faults;
}
