use Rattle.std.proofs.Common.{◌≡◌, ◌+◌, ◌<◌, ◌||◌, not, true, false, length, drop, arith, sym, ◌∙◌, ap}
use Rattle.pan_tree.specs.Shapes.{same}
use Rattle.pan_shapes.specs.Arguments.{differing}
use Rattle.pan_shapes.proofs.ArgumentLemmas.{differing_step, told_shapes}
use Rattle.pan_shapes.proofs.calls.differ.Goals as goal

pub returns-then-not-same : goal.returns-then-not-same
returns-then-not-same c =
    let ps = c.args.params.now in
    let ks = c.args.args.now in
    let i = c.loop-i.i in
    let p = c.index-params-i.result in
    let k = c.index-args-i.result in
    let lt : i < length ks = omega arith in
    let apart : same p.shape k.shape ≡ false = cc in
    sym (c.loop-i.invariant ∙ differing_step ps ks i p k c.loop-i-test.true lt c.index-params-i.is c.index-args-i.is
    ∙ ap (λ b. not b || differing (drop (i + 1) ps) (told_shapes (drop (i + 1) ks))) apart)

pub loop-i-preserved : goal.loop-i-preserved
loop-i-preserved c =
    let ps = c.args.params.now in
    let ks = c.args.args.now in
    let i = c.loop-i.i in
    let p = c.index-params-i.result in
    let k = c.index-args-i.result in
    let lt : i < length ks = omega arith in
    let alike : same p.shape k.shape ≡ true = cc in
    c.loop-i.invariant ∙ differing_step ps ks i p k c.loop-i-test.true lt c.index-params-i.is c.index-args-i.is
    ∙ ap (λ b. not b || differing (drop (i + 1) ps) (told_shapes (drop (i + 1) ks))) alike
