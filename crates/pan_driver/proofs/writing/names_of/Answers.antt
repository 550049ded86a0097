use Rattle.std.proofs.Common.{◌≡◌, true, take, List, [], ◌∷◌, ◌++◌, length, ap, sym, subst, ◌∙◌, arith}
use Rattle.std.specs.List.{list_all}
use Rattle.std.proofs.lemmas.List.{take_all}
use Rattle.pan_base.specs.Names.{is_short_foreign_name}
use Rattle.pan_tree.specs.Check.{foreign_names}
use Rattle.riscv_isa.specs.Image.{AreLawfulNames}
use Rattle.pan_driver.proofs.ForeignNames.{first_names_more, lawful_more, foreign_so}
use Rattle.pan_driver.proofs.writing.names_of.Goals as goal

pub loop-i-preserved : goal.loop-i-preserved
loop-i-preserved c =
    let names = foreign_names c.args.checked.now in
    let x = c.name-name.result.now in
    let is = c.in_ok-push.ensures.ok ∙ ap (λ y. c.loop-i.list ++ y ∷ []) c.in_ok-from_slice.ensures in
    record {
      same = is ∙ first_names_more names c.loop-i.list c.loop-i.i x c.loop-i.invariant.same c.name-name.ensures.same;
      lawful = ap (list_all is_short_foreign_name) is ∙ lawful_more c.loop-i.list x c.loop-i.invariant.lawful c.name-name.ensures.lawful c.name-name.ensures.short;
    }

pub invariant_of-result : goal.invariant_of-result
invariant_of-result c =
    let names = foreign_names c.args.checked.now in
    let count = c.name_count-i-end.ensures in
    let done = c.loop-i-test.false in
    let all = c.loop-i.invariant.same ∙ take_all c.loop-i.i names (omega (arith, count, done)) in
    record {
      lawful = subst AreLawfulNames (sym all) (record {
        named = foreign_so c.args.checked.now (ap (list_all is_short_foreign_name) (sym all) ∙ c.loop-i.invariant.lawful);
        count = c.requires;
      });
    }
