use Rattle.std.proofs.Common.{◌≡◌, ◌∙◌, cond, get_or, arith}
use Rattle.lab_lang.specs.Layout.{longest}
use Rattle.lab_lang.specs.declared.syntax.Line.TheVariants.{Label}
use Rattle.lab_link.proofs.Turning.{has_length, has_near, pick_true, pick_false, turn_room, turn_more, turn_all}
use Rattle.lab_link.proofs.layout.lengthen.Goals as goal
use Rattle.lab_link.proofs.layout.lengthen.Goals.{then-does_reach, else-does_reach}

pub bounds-layout-i : goal.bounds-layout-i
bounds-layout-i c = omega (arith, has_length c.args.lines.now c.args.layout.now c.requires.layout)

pub bounds-layout-i-in-loop-i : goal.bounds-layout-i-in-loop-i
bounds-layout-i-in-loop-i c = omega (arith, has_length c.args.lines.now c.args.layout.now c.requires.layout)

pub does_reach-requires-clause-from : goal.does_reach-requires-clause-from
does_reach-requires-clause-from c = has_near c.args.lines.now c.args.layout.now c.loop-i.i (0, 0) c.requires.layout c.requires.most (omega arith)

pub overflow_mul-size : goal.overflow_mul-size
overflow_mul-size c =
    let pick : c.if-does_reach.needed ≡ cond c.does_reach.result (get_or c.args.layout.now c.loop-i.i (0, 0)).1 (longest (get_or c.args.lines.now c.loop-i.i (Label 0))) =
    elim c.if-does_reach.branch [
      | then-does_reach w ↦ pick_true c.does_reach.result _ _ _ w.if-does_reach.true w.needed-is
      | else-does_reach w ↦ pick_false c.does_reach.result _ _ _ w.if-does_reach.false (w.needed-is ∙ w.longest_of-needed.ensures)
    ] in
    let room = turn_room c.args.lines.now c.args.layout.now c.args.table.now c.loop-i.i c.loop-i.size c.if-does_reach.needed c.loop-i.longer (Label 0) (0, 0) c.does_reach.result c.requires.layout (omega arith) pick c.does_reach.ensures
    c.loop-i.invariant c.requires.most in
    omega arith

pub overflow_add-size : goal.overflow_add-size
overflow_add-size c =
    let pick : c.if-does_reach.needed ≡ cond c.does_reach.result (get_or c.args.layout.now c.loop-i.i (0, 0)).1 (longest (get_or c.args.lines.now c.loop-i.i (Label 0))) =
    elim c.if-does_reach.branch [
      | then-does_reach w ↦ pick_true c.does_reach.result _ _ _ w.if-does_reach.true w.needed-is
      | else-does_reach w ↦ pick_false c.does_reach.result _ _ _ w.if-does_reach.false (w.needed-is ∙ w.longest_of-needed.ensures)
    ] in
    let room = turn_room c.args.lines.now c.args.layout.now c.args.table.now c.loop-i.i c.loop-i.size c.if-does_reach.needed c.loop-i.longer (Label 0) (0, 0) c.does_reach.result c.requires.layout (omega arith) pick c.does_reach.ensures
    c.loop-i.invariant c.requires.most in
    omega arith

pub loop-i-preserved : goal.loop-i-preserved
loop-i-preserved c =
    let pick : c.if-does_reach.needed ≡ cond c.does_reach.result (get_or c.args.layout.now c.loop-i.i (0, 0)).1 (longest (get_or c.args.lines.now c.loop-i.i (Label 0))) =
    elim c.if-does_reach.branch [
      | then-does_reach w ↦ pick_true c.does_reach.result _ _ _ w.if-does_reach.true w.needed-is
      | else-does_reach w ↦ pick_false c.does_reach.result _ _ _ w.if-does_reach.false (w.needed-is ∙ w.longest_of-needed.ensures)
    ] in
    turn_more c.args.lines.now c.args.layout.now c.args.table.now c.loop-i.i c.loop-i.size c.if-does_reach.needed c.loop-i.longer (Label 0) (0, 0) c.does_reach.result c.requires.layout (omega arith) pick c.does_reach.ensures
    c.loop-i.invariant c.push.new.self c.in_ok-push.ensures.ok

pub returns-clause-layout : goal.returns-clause-layout
returns-clause-layout c = λ f is. (turn_all c.args.lines.now c.args.layout.now f c.loop-i.i c.loop-i.size c.loop-i.longer c.requires.layout (omega arith) (c.loop-i.invariant f is)).0

pub returns-clause-size : goal.returns-clause-size
returns-clause-size c = λ f is. (turn_all c.args.lines.now c.args.layout.now f c.loop-i.i c.loop-i.size c.loop-i.longer c.requires.layout (omega arith) (c.loop-i.invariant f is)).1
