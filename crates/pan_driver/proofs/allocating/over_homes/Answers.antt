use Rattle.std.proofs.Common.{◌≡◌, sym, ap, subst, ◌∙◌}
use Rattle.pan_stage.specs.Programs.{with_functions}
use Rattle.word_lang.specs.Homes.{AreOverHomes}
use Rattle.word_lang.specs.WellFormed.{IsWellFormed}
use Rattle.pan_driver.specs.Chained.{renamed}
use Rattle.pan_driver.proofs.Homes.{is_renamed}
use Rattle.pan_driver.proofs.allocating.over_homes.Goals as goal

pub invariant_of-result : goal.invariant_of-result
invariant_of-result c =
    let p = (c.args.words.now).program in
    let cs = c.args.colours.now in
    let is = c.in_ok-program.ensures ∙ ap (with_functions p) (c.in_ok-functions.ensures ∙ ap (λ fs. renamed fs cs) c.as_slice.ensures) in
    let both = c.renamed_is_well_formed.ensures p (with_functions p (renamed p.functions cs)) (is_renamed p cs c.requires) (c.args.words.now).well_formed in
    record { well_formed = subst IsWellFormed (sym is) both.0 }

pub returns-clause-homes : goal.returns-clause-homes
returns-clause-homes c =
    let p = (c.args.words.now).program in
    let cs = c.args.colours.now in
    let is = c.in_ok-program.ensures ∙ ap (with_functions p) (c.in_ok-functions.ensures ∙ ap (λ fs. renamed fs cs) c.as_slice.ensures) in
    let both = c.renamed_is_well_formed.ensures p (with_functions p (renamed p.functions cs)) (is_renamed p cs c.requires) (c.args.words.now).well_formed in
    subst AreOverHomes (sym is) both.1
