use Rattle.std.proofs.Common.{◌≤◌, ◌++◌, ◌∷◌, [], map, length, drop, sym, ap, ◌∙◌, subst, arith}
use Rattle.std.proofs.lemmas.List.{take_all, take_rest}
use Rattle.stack_bound.specs.declared.walk.Visit.{Visit}
use Rattle.stack_bound.proofs.Marks.{drop_numbers}
use Rattle.stack_bound.proofs.walk.Walk.functions_from.Goals as goal

pub returns : goal.returns
returns c =
    let callers = c.args.self.now.callers in
    let last = c.args.self.now.current.function in
    let index = c.loop-visit.visit-index in
    let le : length (drop c.args.place callers) ≤ index = subst (λ vs. length (drop c.args.place vs) ≤ index) c.as_slice.ensures (let rest = ap length (take_rest c.as_slice.result.now c.args.place) in omega arith) in
    c.in_ok-push-2.ensures.items ∙ ap (λ ns. ns ++ last ∷ []) (c.loop-visit.invariant ∙ ap (map (λ (v : Visit). v.function)) (take_all index (drop c.args.place callers) le))
    ∙ sym (drop_numbers (λ (v : Visit). v.function) callers last c.args.place c.requires)
