use Rattle.std.proofs.Common.{List, ap, ◌∙◌}
use Rattle.pan_tree.specs.Scopes.{in_scope}
use Rattle.pan_tree.specs.declared.program.Exception.{Exception}
use Rattle.pan_tree.specs.Meaning.{exception_index}
use Rattle.source_resolver.proofs.NumberLemmas.{numbered_named}
use Rattle.source_resolver.proofs.directory.Directory.exception.Goals as goal

pub returns : goal.returns
returns c =
    let xs : List Exception = ((c.self.inside.program).now).exceptions in
    c.find.ensures ∙ ap (in_scope c.args.name.now) c.self.invariant.1 ∙ numbered_named (λ (x : Exception). x.name) c.args.name.now xs ∙ ap (exception_index c.args.name.now) c.self.view_is
