use Rattle.std.proofs.Common.{◌≡◌, map, sym, ap, ◌∙◌, subst}
use Rattle.pan_stage.specs.Programs.{with_functions}
use Rattle.pan_stage.specs.Stage.{KeepsOverStack}
use Rattle.word_lang.specs.Stage as words
use Rattle.stack_lang.specs.Stage as stacks
use Rattle.stack_lang.specs.WellFormed.{IsWellFormed}
use Rattle.stack_frames.specs.Frames.{framed_function, framed_program}
use Rattle.stack_frames.proofs.Kept.{keeps, well_formed}
use Rattle.stack_frames.proofs.framing.frames.Goals as goal

pub invariant_of-result : goal.invariant_of-result
invariant_of-result c =
    let p = c.args.prog.now.program in
    let is : c.in_ok-program.program ≡ framed_program p = c.in_ok-program.ensures ∙ ap (with_functions p) (c.in_ok-functions.ensures ∙ ap (map framed_function) c.as_slice.ensures) in
    record { well_formed = subst IsWellFormed (sym is) (well_formed p c.args.prog.now.well_formed c.requires) }

pub returns : goal.returns
returns c =
    let p = c.args.prog.now.program in
    let is : c.in_ok-program.program ≡ framed_program p = c.in_ok-program.ensures ∙ ap (with_functions p) (c.in_ok-functions.ensures ∙ ap (map framed_function) c.as_slice.ensures) in
    subst (λ q. KeepsOverStack (words.stage p) (stacks.stage q)) (sym is) (keeps p c.args.prog.now.well_formed c.requires)
