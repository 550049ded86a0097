use Rattle.std.proofs.Common.{ap, ◌∙◌, ◌++◌, [], ◌∷◌}
use Rattle.pan_tree.specs.Check.{in_scope}
use Rattle.pan_shapes.proofs.Scoping.{seen, declared_seen}
use Rattle.pan_shapes.proofs.scopes.Block.declare.Goals as goal

pub returns-clause-declared : goal.returns-clause-declared
returns-clause-declared c =
    ap seen c.in_ok-insert.ensures.entries
    ∙ declared_seen c.self.inside.variables c.args.name c.args.shape (ap (in_scope c.args.name.now) c.self.view_is ∙ c.requires)
    ∙ ap (λ b. b ++ (c.args.name.now, c.args.shape) ∷ []) c.self.view_is
