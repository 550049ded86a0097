use Rattle.std.proofs.Common.{◌≡◌, ◌+◌, List, [], ◌∷◌, ◌++◌, length, take, sym, ap, subst, ◌∙◌, arith}
use Rattle.std.proofs.lemmas.List.{take_all, length_push}
use Rattle.std.proofs.lemmas.Slice.Zip.{zip_turn, zip_end, AllZip-long}
use Rattle.reg_alloc.specs.Homes.{home_number}
use Rattle.reg_alloc.specs.Renamed.{rename_function}
use Rattle.pan_driver.specs.Chained.{AreColoursOf, renamed}
use Rattle.pan_driver.proofs.Homes.{colours_here, renamed_more}
use Rattle.pan_driver.proofs.allocating.apply_all.Goals as goal

pub apply-requires-clause-count : goal.apply-requires-clause-count
apply-requires-clause-count c =
    let fs = c.args.functions.now in
    let cs = c.args.colours.now in
    let turn = zip_turn fs cs c.loop-function.yielded c.into_iter-function-iterator.result c.loop-function.function-iterator c.next.new.self c.next.result (cc) (cc) c.loop-function.yielded_by (c.in-Some.function, c.in-Some.own) c.in-Some.is c.next.ensures.steps in
    (colours_here fs cs (length c.loop-function.yielded) c.in-Some.function.now c.in-Some.own.now c.requires turn.0 (turn.2 c.in-Some.function.now) (turn.3 c.in-Some.own.now)).count

pub apply-requires-clause-accepted : goal.apply-requires-clause-accepted
apply-requires-clause-accepted c =
    let fs = c.args.functions.now in
    let cs = c.args.colours.now in
    let turn = zip_turn fs cs c.loop-function.yielded c.into_iter-function-iterator.result c.loop-function.function-iterator c.next.new.self c.next.result (cc) (cc) c.loop-function.yielded_by (c.in-Some.function, c.in-Some.own) c.in-Some.is c.next.ensures.steps in
    (colours_here fs cs (length c.loop-function.yielded) c.in-Some.function.now c.in-Some.own.now c.requires turn.0 (turn.2 c.in-Some.function.now) (turn.3 c.in-Some.own.now)).accepted

pub loop-function-preserved : goal.loop-function-preserved
loop-function-preserved c =
    let fs = c.args.functions.now in
    let cs = c.args.colours.now in
    let n = length c.loop-function.yielded in
    let turn = zip_turn fs cs c.loop-function.yielded c.into_iter-function-iterator.result c.loop-function.function-iterator c.next.new.self c.next.result (cc) (cc) c.loop-function.yielded_by (c.in-Some.function, c.in-Some.own) c.in-Some.is c.next.ensures.steps in
    let more = renamed_more fs cs n c.in-Some.function.now c.in-Some.own.now turn.0 turn.1 (turn.2 c.in-Some.function.now) (turn.3 c.in-Some.own.now) in
    let long = length_push c.loop-function.yielded (c.in-Some.function, c.in-Some.own) in
    let made : c.push.new.self ≡ renamed (take (n + 1) fs) (take (n + 1) cs) =
    c.in_ok-push.ensures.ok ∙ ap (λ g. c.loop-function.made ++ g ∷ []) c.in_ok-apply.ensures.renamed ∙ ap (λ gs. gs ++ rename_function (home_number (c.in-Some.own.now).homes) c.in-Some.function.now ∷ []) c.loop-function.invariant ∙ sym more in
    subst (λ k. c.push.new.self ≡ renamed (take k fs) (take k cs)) (sym long) made

pub returns : goal.returns
returns c =
    let fs = c.args.functions.now in
    let cs = c.args.colours.now in
    let n = length c.loop-function.yielded in
    let turned = zip_end fs cs c.loop-function.yielded c.into_iter-function-iterator.result c.loop-function.function-iterator c.next.new.self c.next.result (cc) (cc) c.loop-function.yielded_by c.in-None.is c.next.ensures.steps in
    let same = AllZip-long AreColoursOf fs cs c.requires in
    c.loop-function.invariant ∙ ap (λ gs. renamed gs (take n cs)) (take_all n fs (omega (arith, turned, same))) ∙ ap (λ ds. renamed fs ds) (take_all n cs (omega (arith, turned, same)))
