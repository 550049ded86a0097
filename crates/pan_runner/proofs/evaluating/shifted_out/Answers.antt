use Rattle.std.proofs.Common.{sym, ap, ◌∙◌, inl, inr}
use Rattle.pan_base.specs.Words.{shift}
use Rattle.pan_runner.proofs.ShiftLemmas.{shl_out, shr_out, sar_low_out, sar_high_out, ror_out}
use Rattle.pan_runner.proofs.evaluating.shifted_out.Goals as goal

pub returns-in-Shl : goal.returns-in-Shl
returns-in-Shl c =
    let a = c.args.word in
    let n = c.args.amount in
    elim c.in-Shl.is [ inl is ↦ sym (ap (λ op. shift op a n) is ∙ shl_out a n c.ranges.word.fits c.requires) | inr is ↦ sym (ap (λ op. shift op a n) is ∙ shr_out a n c.ranges.word.fits c.requires) ]

pub returns-then-word : goal.returns-then-word
returns-then-word c =
    let a = c.args.word in
    let n = c.args.amount in
    sym (ap (λ op. shift op a n) c.in-Sar.is ∙ sar_low_out a n c.ranges.word.fits c.requires c.if-word.true)

pub returns-else-word : goal.returns-else-word
returns-else-word c =
    let a = c.args.word in
    let n = c.args.amount in
    sym (ap (λ op. shift op a n) c.in-Sar.is ∙ sar_high_out a n c.ranges.word.fits c.requires c.if-word.false)

pub returns-in-Ror : goal.returns-in-Ror
returns-in-Ror c =
    let a = c.args.word in
    let n = c.args.amount in
    sym (ap (λ op. shift op a n) c.in-Ror.is ∙ ror_out a n c.ranges.word.fits c.requires)
