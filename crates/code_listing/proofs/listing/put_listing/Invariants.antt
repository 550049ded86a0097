use Rattle.std.proofs.Common.{◌≤◌, ◌/◌, take, length}
use Rattle.std.specs.List.{flat_map, range_with_len}
use Rattle.pan_base.specs.Sinks.{Took}
use Rattle.code_listing.specs.Listing.{line_of}
use Rattle.code_listing.proofs.listing.put_listing.Given as goal

abbrev pub invariant-loop-i : goal.invariant-loop-i
invariant-loop-i g l = record {
  took : Took (g.O.Sink.state l.fn.out) (g.O.Sink.state l.out) (flat_map (line_of l.code) (take l.i (range_with_len 0 (length l.code / 4))));
  later : (g.O.Sink.state l.fn.out).faults ≤ (g.O.Sink.state l.out).faults;
}
