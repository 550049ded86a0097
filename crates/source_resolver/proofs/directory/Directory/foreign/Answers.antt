use Rattle.std.proofs.Common.{ap, ◌∙◌}
use Rattle.pan_tree.specs.Scopes.{in_scope}
use Rattle.pan_tree.specs.Check.{foreign_names}
use Rattle.pan_tree.specs.Meaning.{foreign_index}
use Rattle.source_resolver.proofs.NumberLemmas.{numbered_finds}
use Rattle.source_resolver.proofs.directory.Directory.foreign.Goals as goal

pub returns : goal.returns
returns c =
    c.find.ensures ∙ ap (in_scope c.args.name.now) c.self.invariant.2 ∙ numbered_finds c.args.name.now (foreign_names (c.self.inside.program).now) ∙ ap (foreign_index c.args.name.now) c.self.view_is
