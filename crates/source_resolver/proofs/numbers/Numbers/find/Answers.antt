use Rattle.std.proofs.Common.{ap, ◌∙◌}
use Rattle.pan_tree.specs.Scopes.{in_scope}
use Rattle.source_resolver.proofs.NumberLemmas.{named_reads}
use Rattle.source_resolver.proofs.numbers.Numbers.find.Goals as goal

pub returns : goal.returns
returns c = c.copied.ensures ∙ c.get.ensures.value ∙ named_reads c.args.name.now (c.self.inside.firsts).entries ∙ c.self.invariant c.args.name.now ∙ ap (in_scope c.args.name.now) c.self.view_is
