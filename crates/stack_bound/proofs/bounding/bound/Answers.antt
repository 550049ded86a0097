use Rattle.std.proofs.Common.{◌≡◌, map, ap, ◌∙◌}
use Rattle.std.proofs.lemmas.Result.{IfOk-weaker}
use Rattle.stack_bound.specs.Bounds.{IsAnswer}
use Rattle.stack_bound.specs.Nodes.{node_of}
use Rattle.stack_bound.specs.Walks.{IsFound}
use Rattle.stack_bound.proofs.Whole.{sound_as, main_as, answers_as}
use Rattle.stack_bound.proofs.bounding.bound.Goals as goal

pub walk_from-requires-clause-sound : goal.walk_from-requires-clause-sound
walk_from-requires-clause-sound c = sound_as c.args.prog.now.program c.args.prog.now.well_formed _ (c.as_slice-2.ensures ∙ c.in_ok-nodes.ensures ∙ ap (map node_of) c.as_slice.ensures)

pub walk_from-requires-clause-main : goal.walk_from-requires-clause-main
walk_from-requires-clause-main c = main_as c.args.prog.now.program c.args.prog.now.well_formed _ (c.as_slice-2.ensures ∙ c.in_ok-nodes.ensures ∙ ap (map node_of) c.as_slice.ensures)

pub returns : goal.returns
returns c =
    let p = c.args.prog.now.program in
    let row = c.as_slice-2.result.now in
    let is : row ≡ map node_of p.functions = c.as_slice-2.ensures ∙ c.in_ok-nodes.ensures ∙ ap (map node_of) c.as_slice.ensures in
    IfOk-weaker c.walk_from.result (IsFound row p.main) (IsAnswer p) (answers_as p c.args.prog.now.well_formed row is) c.walk_from.ensures
