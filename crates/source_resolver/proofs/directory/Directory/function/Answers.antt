use Rattle.std.proofs.Common.{List, ap, ◌∙◌}
use Rattle.pan_tree.specs.Scopes.{in_scope}
use Rattle.pan_tree.specs.declared.program.Function.{Function}
use Rattle.pan_tree.specs.Meaning.{function_index}
use Rattle.source_resolver.proofs.NumberLemmas.{numbered_named}
use Rattle.source_resolver.proofs.directory.Directory.function.Goals as goal

pub returns : goal.returns
returns c =
    let xs : List Function = ((c.self.inside.program).now).functions in
    c.find.ensures ∙ ap (in_scope c.args.name.now) c.self.invariant.0 ∙ numbered_named (λ (x : Function). x.name) c.args.name.now xs ∙ ap (function_index c.args.name.now) c.self.view_is
