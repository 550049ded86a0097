use Rattle.std.proofs.Common.{arith, ◌≡◌, ◌++◌, take}
use Rattle.std.proofs.lemmas.Grind.{common_steps}
use Rattle.pan_base.proofs.ReadLemmas.{Consumes-none, Consumes-more, Consumes-nothing}
use Rattle.pan_base.proofs.real.read_all.Goals as goal

pub pieces-init : goal.pieces-init
pieces-init g c = record {
  room = omega (arith, c.in_ok-piece.ensures.len);
  bytes = rw c.new-bytes.ensures.items (Consumes-none (g.F.Read.remaining c.args.file.now));
}

pub returns-then-count-eq0-clause-bytes : goal.returns-then-count-eq0-clause-bytes
returns-then-count-eq0-clause-bytes g c =
    Consumes-nothing _ (g.F.Read.remaining c.pieces.file) _ _ c.pieces.invariant.bytes (rw c.if-count-eq0.true at c.in_ok-count.ensures.bytes.0)

pub pieces-preserved : goal.pieces-preserved
pieces-preserved g c =
    let grown : c.extend_from_slice.new.self.items ≡ c.pieces.bytes.items ++ take c.in_ok-count.count c.read_piece.new.piece = grind (arith, common_steps) in
    record {
      room = c.pieces.invariant.room;
      bytes = rw grown (Consumes-more _ (g.F.Read.remaining c.pieces.file) _ _ _ c.pieces.invariant.bytes c.in_ok-count.ensures.bytes.0);
    }
