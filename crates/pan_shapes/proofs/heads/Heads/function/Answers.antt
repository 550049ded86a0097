use Rattle.std.proofs.Common.{List, Some, None, sym, ap, ◌∙◌, get_or}
use Rattle.pan_tree.specs.declared.program.Function.{Function}
use Rattle.pan_tree.specs.Check.{function_of}
use Rattle.pan_shapes.proofs.HeadLemmas.{find_named, standing_at, stands_within}
use Rattle.pan_shapes.proofs.heads.Heads.function.Goals as goal

pub returns-in-None : goal.returns-in-None
returns-in-None c =
    sym (find_named (λ (x : Function). x.name) c.args.name.now ((c.self.inside.program).now).functions c.self.inside.functions None c.self.invariant.1 c.in-None.ensures) ∙ ap (function_of c.args.name.now) c.self.view_is

pub returns-in-Some : goal.returns-in-Some
returns-in-Some c =
    let xs : List Function = ((c.self.inside.program).now).functions in
    let i = c.in-Some.i in
    let within = stands_within (λ (x : Function). x.name) c.args.name.now xs c.self.inside.functions i c.self.invariant.1 c.in-Some.ensures in
    let is = c.index-as_slice-i.is ∙ ap (λ (ys : List Function). get_or ys i c.index-as_slice-i.result) c.as_slice.ensures in
    sym (standing_at xs i c.index-as_slice-i.result within is)
    ∙ sym (find_named (λ (x : Function). x.name) c.args.name.now xs c.self.inside.functions (Some i) c.self.invariant.1 c.in-Some.ensures)
    ∙ ap (function_of c.args.name.now) c.self.view_is
