use Rattle.std.proofs.Common.{ap, ◌∙◌}
use Rattle.pan_tree.specs.Check.{is_declared, Scopes}
use Rattle.pan_shapes.proofs.BodyLemmas.{undeclared}
use Rattle.pan_shapes.proofs.bodies.declare_params.Goals as goal

pub declare-requires : goal.declare-requires
declare-requires c =
    ap (λ x. is_declared x c.loop-param.scopes) c.as_bytes.ensures ∙ ap (λ (v : Scopes). is_declared (c.param-item.result).name v) c.loop-param.invariant
    ∙ undeclared c.args.params.now c.loop-param.param-index c.param-item.result c.loop-param-test.true c.param-item.is c.requires.apart
