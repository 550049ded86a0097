use Rattle.std.proofs.Common.{List, None, Some, slice_get, sym, ap, ◌∙◌}
use Rattle.pan_tree.specs.declared.program.Function.{Function}
use Rattle.pan_tree.specs.Check.{function_of}
use Rattle.source_resolver.proofs.NumberLemmas.{found_standing, lent}
use Rattle.source_resolver.proofs.directory.Directory.function_named.Goals as goal

pub returns-in-None : goal.returns-in-None
returns-in-None c =
    let fs : List Function = ((c.self.inside.program).now).functions in
    sym (found_standing (λ (f : Function). f.name) c.args.name.now fs c.self.inside.functions None c.self.invariant.0 c.in-None.ensures) ∙ ap (function_of c.args.name.now) c.self.view_is

pub returns-in-Some : goal.returns-in-Some
returns-in-Some c =
    let fs : List Function = ((c.self.inside.program).now).functions in
    lent c.as_slice.result.now c.in-Some.i c.get.result c.get.ensures.lookup ∙ ap (λ (xs : List Function). slice_get xs c.in-Some.i) c.as_slice.ensures
    ∙ sym (found_standing (λ (f : Function). f.name) c.args.name.now fs c.self.inside.functions (Some c.in-Some.i) c.self.invariant.0 c.in-Some.ensures) ∙ ap (function_of c.args.name.now) c.self.view_is
