use Rattle.std.proofs.Common.{ap, ◌∙◌}
use Rattle.pan_tree.specs.Check.{in_scope}
use Rattle.pan_shapes.proofs.Scoping.{in_scope_seen}
use Rattle.pan_shapes.proofs.scopes.Block.shape.Goals as goal

pub returns : goal.returns
returns c =
    c.get.ensures.value ∙ in_scope_seen c.args.name.now c.self.inside.variables.entries ∙ ap (in_scope c.args.name.now) c.self.view_is
