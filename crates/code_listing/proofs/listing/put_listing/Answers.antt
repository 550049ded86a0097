use Rattle.std.proofs.Common.{◌≡◌, ◌/◌, length, arith}
use Rattle.std.proofs.lemmas.Result.{err_from_is_err_and}
use Rattle.pan_base.proofs.TookLemmas.{TookFront-on, Took-more}
use Rattle.code_listing.specs.Listing.{line_of}
use Rattle.code_listing.proofs.Lines.{line_among, next_line, all_lines}
use Rattle.code_listing.proofs.listing.put_listing.Goals as goal

pub returns-in_err-put_all-clause-took : goal.returns-in_err-put_all-clause-took
returns-in_err-put_all-clause-took g c =
    let p = err_from_is_err_and c.from_residual.result c.from_residual.ensures.1 in
    let line : c.as_slice.result.now ≡ line_of c.args.code.now c.loop-i.i = cc in
    rw p.1 (TookFront-on _ _ _ _ _ _ _ c.loop-i.invariant.took (rw line at c.in_err-put_all.ensures.took) (line_among (line_of c.args.code.now) (length c.args.code.now / 4) c.loop-i.i c.loop-i-test.true))

pub loop-i-preserved : goal.loop-i-preserved
loop-i-preserved g c =
    let line : c.as_slice.result.now ≡ line_of c.args.code.now c.loop-i.i = cc in
    record {
      took = rw (next_line (line_of c.args.code.now) (length c.args.code.now / 4) c.loop-i.i c.loop-i-test.true) (Took-more _ _ _ _ _ c.loop-i.invariant.took (rw line at c.in_ok-put_all.ensures.took));
      later = omega (arith, c.in_ok-put_all.ensures.cause);
    }

pub returns-clause-took : goal.returns-clause-took
returns-clause-took g c =
    let e = all_lines (line_of c.args.code.now) (length c.args.code.now / 4) c.loop-i.i c.loop-i-test.false in
    rw e at c.loop-i.invariant.took
