use Rattle.std.proofs.Common.{map, ℕ, ◌∙◌, List, ◌++◌, sym, ap, subst}
use Rattle.pan_stage.specs.Stage.{KeepsInSteps}
use Rattle.lab_lang.specs.Layout.{IsLayout}
use Rattle.lab_lang.specs.Meaning.{behaviour}
use Rattle.lab_lang.specs.Stage as labs
use Rattle.lab_lang.specs.WellFormed.{IsWellFormed}
use Rattle.stack_lang.specs.Stage as stacks
use Rattle.lab_flatten.specs.Contract.{RunsOnFuel}
use Rattle.pan_stage.specs.Programs.{with_functions}
use Rattle.lab_flatten.specs.Flatten.{lab_function, start_lines, lab_program}
use Rattle.lab_flatten.proofs.Facts.{frame_of}
use Rattle.lab_flatten.proofs.Kept.{program_keeps, program_takes, program_well}
use Rattle.lab_flatten.proofs.Rules.{frames_all, labels_are, program_is}
use Rattle.lab_flatten.proofs.flattening.flatten_code.Goals as goal

pub flatten_functions-requires : goal.flatten_functions-requires
flatten_functions-requires c =
    frames_all c.args.prog.now.program.functions c.as_slice-functions.result.now c.as_slice-functions.ensures
    (λ f fn is. frame_of c.args.prog.now.program c.args.prog.now.well_formed f fn is)

pub invariant_of-result : goal.invariant_of-result
invariant_of-result c =
    let lines = program_is c.args.prog.now.program.functions c.as_slice-functions.result.now c.args.prog.now.program.main c.in_ok-count.count c.in_ok-unwind.unwind c.in_ok-uncaught.uncaught c.in_ok-free.free
    c.put_start.new.lines c.put_stub.new.lines c.put_unwind.new.lines c.flatten_functions.new.lines
    c.as_slice-functions.ensures c.in_ok-count.ensures c.in_ok-unwind.ensures c.in_ok-uncaught.ensures c.in_ok-free.ensures
    (c.in_ok-put_start.ensures ∙ ap (λ ls. ls ++ start_lines c.args.prog.now.program.main) c.new-lines.ensures) c.in_ok-put_stub.ensures c.in_ok-put_unwind.ensures c.in_ok-labels.ensures.lines in
    let labels = labels_are c.args.prog.now.program.functions c.as_slice-functions.result.now c.in_ok-count.count c.in_ok-unwind.unwind c.in_ok-free.free c.in_ok-labels.labels
    c.as_slice-functions.ensures c.in_ok-count.ensures c.in_ok-unwind.ensures c.in_ok-free.ensures c.in_ok-labels.ensures.labels in
    record {
      well_formed = subst (λ q. IsWellFormed q c.flatten_functions.new.lines c.in_ok-labels.labels) (sym (c.in_ok-program.ensures ∙ ap (λ fs. with_functions c.args.prog.now.program fs) (c.in_ok-shown.ensures ∙ ap (map lab_function) c.as_slice-functions.ensures)))
          (subst (λ ls. IsWellFormed (lab_program c.args.prog.now.program) ls c.in_ok-labels.labels) lines (program_well c.args.prog.now.program c.args.prog.now.well_formed c.in_ok-labels.labels labels));
    }

pub returns-clause-keeps : goal.returns-clause-keeps
returns-clause-keeps c =
    let lines = program_is c.args.prog.now.program.functions c.as_slice-functions.result.now c.args.prog.now.program.main c.in_ok-count.count c.in_ok-unwind.unwind c.in_ok-uncaught.uncaught c.in_ok-free.free
    c.put_start.new.lines c.put_stub.new.lines c.put_unwind.new.lines c.flatten_functions.new.lines
    c.as_slice-functions.ensures c.in_ok-count.ensures c.in_ok-unwind.ensures c.in_ok-uncaught.ensures c.in_ok-free.ensures
    (c.in_ok-put_start.ensures ∙ ap (λ ls. ls ++ start_lines c.args.prog.now.program.main) c.new-lines.ensures) c.in_ok-put_stub.ensures c.in_ok-put_unwind.ensures c.in_ok-labels.ensures.lines in
    subst (λ q. (layout : List (ℕ × ℕ)) → IsLayout 0 c.flatten_functions.new.lines layout → KeepsInSteps (stacks.stage c.args.prog.now.program) (labs.stage q c.flatten_functions.new.lines layout)) (sym (c.in_ok-program.ensures ∙ ap (λ fs. with_functions c.args.prog.now.program fs) (c.in_ok-shown.ensures ∙ ap (map lab_function) c.as_slice-functions.ensures)))
    (subst (λ ls. (layout : List (ℕ × ℕ)) → IsLayout 0 ls layout → KeepsInSteps (stacks.stage c.args.prog.now.program) (labs.stage (lab_program c.args.prog.now.program) ls layout)) lines
    (program_keeps c.args.prog.now.program c.args.prog.now.well_formed))

pub returns-clause-fuel : goal.returns-clause-fuel
returns-clause-fuel c =
    let lines = program_is c.args.prog.now.program.functions c.as_slice-functions.result.now c.args.prog.now.program.main c.in_ok-count.count c.in_ok-unwind.unwind c.in_ok-uncaught.uncaught c.in_ok-free.free
    c.put_start.new.lines c.put_stub.new.lines c.put_unwind.new.lines c.flatten_functions.new.lines
    c.as_slice-functions.ensures c.in_ok-count.ensures c.in_ok-unwind.ensures c.in_ok-uncaught.ensures c.in_ok-free.ensures
    (c.in_ok-put_start.ensures ∙ ap (λ ls. ls ++ start_lines c.args.prog.now.program.main) c.new-lines.ensures) c.in_ok-put_stub.ensures c.in_ok-put_unwind.ensures c.in_ok-labels.ensures.lines in
    subst (λ q. (layout : List (ℕ × ℕ)) → IsLayout 0 c.flatten_functions.new.lines layout → RunsOnFuel c.args.prog.now.program (behaviour q c.flatten_functions.new.lines layout)) (sym (c.in_ok-program.ensures ∙ ap (λ fs. with_functions c.args.prog.now.program fs) (c.in_ok-shown.ensures ∙ ap (map lab_function) c.as_slice-functions.ensures)))
    (subst (λ ls. (layout : List (ℕ × ℕ)) → IsLayout 0 ls layout → RunsOnFuel c.args.prog.now.program (behaviour (lab_program c.args.prog.now.program) ls layout)) lines
    (program_takes c.args.prog.now.program c.args.prog.now.well_formed))
