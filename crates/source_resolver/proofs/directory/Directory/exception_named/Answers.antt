use Rattle.std.proofs.Common.{List, None, Some, slice_get, sym, ap, ◌∙◌}
use Rattle.pan_tree.specs.declared.program.Exception.{Exception}
use Rattle.pan_tree.specs.Check.{exception_of}
use Rattle.source_resolver.proofs.NumberLemmas.{found_standing, lent}
use Rattle.source_resolver.proofs.directory.Directory.exception_named.Goals as goal

pub returns-in-None : goal.returns-in-None
returns-in-None c =
    let xs : List Exception = ((c.self.inside.program).now).exceptions in
    sym (found_standing (λ (x : Exception). x.name) c.args.name.now xs c.self.inside.exceptions None c.self.invariant.1 c.in-None.ensures) ∙ ap (exception_of c.args.name.now) c.self.view_is

pub returns-in-Some : goal.returns-in-Some
returns-in-Some c =
    let xs : List Exception = ((c.self.inside.program).now).exceptions in
    lent c.as_slice.result.now c.in-Some.i c.get.result c.get.ensures.lookup ∙ ap (λ (xs : List Exception). slice_get xs c.in-Some.i) c.as_slice.ensures
    ∙ sym (found_standing (λ (x : Exception). x.name) c.args.name.now xs c.self.inside.exceptions (Some c.in-Some.i) c.self.invariant.1 c.in-Some.ensures) ∙ ap (exception_of c.args.name.now) c.self.view_is
