use Rattle.std.proofs.Common.{◌+◌, ◌-◌, ◌^◌, min, ap, sym, ◌∙◌}
use Rattle.pan_tree.specs.Shapes.{words_of}
use Rattle.pan_shapes.proofs.ExprLayers.{var_known, var_unknown}
use Rattle.pan_shapes.proofs.judging.judge_var.Goals as goal

pub returns-in_ok-copy_shape-in-Some : goal.returns-in_ok-copy_shape-in-Some
returns-in_ok-copy_shape-in-Some c =
    let copied = c.in_ok-copy_shape-in-Some.ensures in
    let made = c.made_of.ensures in
    var_known c.args.place c.args.scopes.now c.args.name.now c.in-Some.shape.now c.made_of.result (sym c.in-Some.ensures)
    (made.shaped ∙ copied, made.weighs ∙ ap (λ s. min (1 + words_of s + 0) (2 ^ 64 - 1)) copied)

pub returns-in-None : goal.returns-in-None
returns-in-None c = var_unknown c.args.place c.args.scopes.now c.args.name.now (sym c.in-None.ensures)
