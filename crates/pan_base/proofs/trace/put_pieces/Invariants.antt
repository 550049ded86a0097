use Rattle.std.proofs.Common.{◌≤◌, take, []}
use Rattle.std.specs.List.{flat_map}
use Rattle.pan_base.specs.Pieces.{PassedOn, piece_text}
use Rattle.pan_base.proofs.trace.put_pieces.Given as goal

abbrev pub invariant-loop-piece : goal.invariant-loop-piece
invariant-loop-piece g l = record {
  passed : PassedOn (g.O.Sink.state l.fn.out) (g.O.Sink.state l.out) [] l.line (flat_map piece_text (take l.piece-index l.pieces));
  later : (g.O.Sink.state l.fn.out).faults ≤ (g.O.Sink.state l.out).faults;
}
