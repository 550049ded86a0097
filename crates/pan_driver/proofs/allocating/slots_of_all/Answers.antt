use Rattle.std.proofs.Common.{◌+◌, take, subst, sym}
use Rattle.std.specs.List.{AllZip}
use Rattle.pan_driver.specs.Chained.{AreColoursOf}
use Rattle.pan_driver.proofs.Homes.{colours_more}
use Rattle.pan_driver.proofs.allocating.slots_of_all.Goals as goal

pub loop-function-preserved : goal.loop-function-preserved
loop-function-preserved c =
    let fs = c.args.functions.now in
    let k = c.loop-function.function-index in
    let own : AreColoursOf c.function-item.result c.in_ok-slots.field-0 = record { count = c.in_ok-slots.ensures.count; own = c.in_ok-slots.ensures.homes; accepted = c.in_ok-slots.ensures.accepted } in
    subst (AllZip AreColoursOf (take (k + 1) fs)) (sym c.in_ok-push.ensures.ok)
    (colours_more fs c.loop-function.colours k c.function-item.result c.in_ok-slots.field-0 c.loop-function-test.true c.function-item.is own c.loop-function.invariant)
