use Rattle.std.proofs.Common.{◌≡◌, ◌∷◌, [], false, List, ap, ◌∙◌}
use Rattle.pan_tree.specs.declared.program.Param.{Param}
use Rattle.pan_tree.specs.Check.{Context, State, parameters}
use Rattle.pan_shapes.specs.Doings.{state}
use Rattle.pan_shapes.proofs.DoSteps.{block_done}
use Rattle.pan_shapes.proofs.bodies.check_body.Goals as goal

pub returns : goal.returns
returns c =
    let f = c.args.function.now in
    let ctx : Context = record { program = c.args.heads.now; result = f.result; in_loop = false } in
    let s : State = record { scopes = []; names = (c.args.walk.now).names } in
    let entered : c.declare_params.new.scopes ≡ parameters f.params ∷ [] = c.in_ok-declare_params.ensures ∙ ap (λ (ps : List Param). parameters ps ∷ []) c.as_slice.ensures in
    block_done (parameters f.params) (f.body).stmts c.as_slice-2.result.now ctx s (state c.check_stmts.new.walk) c.declare_params.new.scopes c.leave.new.self c.in_ok-weight.weight
    entered c.as_slice-2.ensures c.in_ok-weight.ensures c.leave.ensures
