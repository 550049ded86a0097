use Rattle.std.proofs.Common.{map, sym, ap, subst, ◌∙◌}
use Rattle.std.specs.List.{All}
use Rattle.crep_lang.specs.Stage as crep_stage
use Rattle.loop_lang.specs.Stage as loop_stage
use Rattle.loop_lang.specs.WellFormed.{IsWellFormed}
use Rattle.pan_stage.specs.Programs.{with_functions}
use Rattle.pan_stage.specs.Stage.{Keeps}
use Rattle.loop_lower.specs.Lowered.{IsPriced, lower_function as lowered}
use Rattle.loop_lower.proofs.Kept.{all_priced, lower_keeps, lower_formed}
use Rattle.loop_lower.proofs.functions.lower.Goals as goal

pub lower_functions-requires : goal.lower_functions-requires
lower_functions-requires c = let p = c.args.prog.now in subst (All IsPriced) (sym c.as_slice.ensures) (all_priced p.program (p.well_formed).room)

pub invariant_of-result : goal.invariant_of-result
invariant_of-result c =
    let p = c.args.prog.now in
    let is = c.in_ok-program.ensures ∙ ap (with_functions p.program) (c.in_ok-functions.ensures ∙ ap (map lowered) c.as_slice.ensures) in
    record { well_formed = subst IsWellFormed (sym is) (lower_formed p.program p.well_formed) }

pub returns : goal.returns
returns c =
    let p = c.args.prog.now in
    let is = c.in_ok-program.ensures ∙ ap (with_functions p.program) (c.in_ok-functions.ensures ∙ ap (map lowered) c.as_slice.ensures) in
    subst (λ q. Keeps (crep_stage.stage p.program) (loop_stage.stage q)) (sym is) (lower_keeps p.program (p.well_formed).room)
