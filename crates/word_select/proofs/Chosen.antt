-- What `select` gives: the selected program, pruned twice, keeps the program, and is well formed.
use Rattle.std.proofs.Common.{◌≡◌, List, [], ◌∷◌, map, refl, sym, ap, subst}
use Rattle.pan_stage.specs.Programs.{with_functions}
use Rattle.pan_stage.specs.Stage.{Keeps}
use Rattle.pan_stage.specs.declared.program.Program.{Program}
use Rattle.pan_stage.proofs.Chain.{keeps_then}
use Rattle.loop_lang.specs.Stage as loops
use Rattle.loop_lang.specs.WellFormed as loop_well_formed
use Rattle.loop_lang.specs.declared.syntax.LoopFun.{LoopFun}
use Rattle.word_lang.specs.Stage as words
use Rattle.word_lang.specs.WellFormed.{IsWellFormed}
use Rattle.word_select.specs.Selected.{select_function, select_program}
use Rattle.word_select.specs.Pruned.{pruned_function, pruned_program, chosen_function, chosen_program}
use Rattle.word_select.proofs.Kept.{select_keeps, select_well_formed}
use Rattle.word_select.proofs.PrunedPrograms.{pruned_keeps, pruned_well_formed}

functions_are : (fs : List LoopFun) → map chosen_function fs ≡ map pruned_function (map pruned_function (map select_function fs))
functions_are [] = refl
functions_are (f ∷ fs) = ap (λ gs. chosen_function f ∷ gs) (functions_are fs)

program_is : (p : Program LoopFun) → chosen_program p ≡ pruned_program (pruned_program (select_program p))
program_is p = ap (with_functions p) (functions_are p.functions)

pub chosen_keeps : (p : Program LoopFun) → loop_well_formed.IsWellFormed p → Keeps (loops.stage p) (words.stage (chosen_program p))
chosen_keeps p h =
    let q = select_program p in
    subst (λ r. Keeps (loops.stage p) (words.stage r)) (sym (program_is p))
    (keeps_then (loops.stage p) (words.stage (pruned_program q)) (words.stage (pruned_program (pruned_program q))) (keeps_then (loops.stage p) (words.stage q) (words.stage (pruned_program q)) (select_keeps p h) (pruned_keeps q)) (pruned_keeps (pruned_program q)))

pub chosen_well_formed : (p : Program LoopFun) → loop_well_formed.IsWellFormed p → IsWellFormed (chosen_program p)
chosen_well_formed p h = subst IsWellFormed (sym (program_is p)) (pruned_well_formed (pruned_program (select_program p)) (pruned_well_formed (select_program p) (select_well_formed p h)))
