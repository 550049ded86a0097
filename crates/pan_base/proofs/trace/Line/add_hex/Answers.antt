use Rattle.std.proofs.Common.{arith, ◌∷◌, []}
use Rattle.std.proofs.lemmas.Result.{err_from_is_err_and}
use Rattle.pan_base.specs.Trace.{hex_text}
use Rattle.pan_base.proofs.TookLemmas.{joined_at}
use Rattle.pan_base.proofs.LineLemmas.{passed_more, passed_front, next_text}
use Rattle.pan_base.proofs.trace.Line.add_hex.Goals as goal

pub returns-in_err-add-clause-took : goal.returns-in_err-add-clause-took
returns-in_err-add-clause-took g c =
    let p = err_from_is_err_and c.from_residual.result c.from_residual.ensures.1 in
    let h = c.in_err-add.ensures.took in
    let k = rw c.byte_digits.ensures at h in
    rw p.1 (passed_front _ _ _ _ _ _ _ _ _ c.loop-byte.invariant.passed k (joined_at (λ b. hex_text (b ∷ [])) c.args.bytes.now c.loop-byte.byte-index 0 c.loop-byte-test.true))

pub loop-byte-preserved : goal.loop-byte-preserved
loop-byte-preserved g c =
    let h = c.in_ok-add.ensures.took in
    let k = rw c.byte_digits.ensures at h in
    record {
      passed = rw (next_text (λ b. hex_text (b ∷ [])) c.args.bytes.now c.loop-byte.byte-index 0 c.loop-byte-test.true) (passed_more _ _ _ _ _ _ _ _ c.loop-byte.invariant.passed k);
      later = omega (arith, c.in_ok-add.ensures.cause);
    }
