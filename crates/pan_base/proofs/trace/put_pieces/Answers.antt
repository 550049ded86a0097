use Rattle.std.proofs.Common.{◌≡◌, arith, [], take}
use Rattle.std.proofs.lemmas.List.{take_all}
use Rattle.std.proofs.lemmas.Result.{err_from_is_err_and}
use Rattle.pan_base.specs.declared.trace.Piece.TheVariants.{Text}
use Rattle.pan_base.specs.Pieces.{piece_text}
use Rattle.pan_base.proofs.TookLemmas.{joined_at}
use Rattle.pan_base.proofs.LineLemmas.{passed_more, passed_front, all_put, next_text}
use Rattle.pan_base.proofs.trace.put_pieces.Goals as goal

pub returns-in_err-add_piece-clause-took : goal.returns-in_err-add_piece-clause-took
returns-in_err-add_piece-clause-took g c =
    let p = err_from_is_err_and c.from_residual.result c.from_residual.ensures.1 in
    rw p.1 (passed_front _ _ _ _ _ _ _ _ _ c.loop-piece.invariant.passed c.in_err-add_piece.ensures.took (joined_at piece_text c.args.pieces.now c.loop-piece.piece-index (Text record { ref_ptr = (0, 0); now = [] }) c.loop-piece-test.true))

pub loop-piece-preserved : goal.loop-piece-preserved
loop-piece-preserved g c = record {
  passed = rw (next_text piece_text c.args.pieces.now c.loop-piece.piece-index (Text record { ref_ptr = (0, 0); now = [] }) c.loop-piece-test.true) (passed_more _ _ _ _ _ _ _ _ c.loop-piece.invariant.passed c.in_ok-add_piece.ensures.took);
  later = omega (arith, c.in_ok-add_piece.ensures.cause);
}

pub returns-clause-took : goal.returns-clause-took
returns-clause-took g c =
    let e : take c.loop-piece.piece-index c.args.pieces.now ≡ c.args.pieces.now = take_all c.loop-piece.piece-index c.args.pieces.now c.loop-piece-test.false in
    all_put c.put.result _ _ _ _ _ (rw e at c.loop-piece.invariant.passed) c.put.ensures.took
