use Rattle.std.proofs.Common.{ap, ◌∙◌, length}
use Rattle.lab_link.proofs.Needed.{first_turn, turn_laid}
use Rattle.lab_link.proofs.Turning.{has_length, turn_near, turned, turned_less, turned_last}
use Rattle.lab_link.proofs.growing.grow.Goals as goal

pub loop-laid-init : goal.loop-laid-init
loop-laid-init c = first_turn c.args.lines.now c.in_ok-laid.laid.layout c.in_ok-laid.laid.size c.in_ok-laid.ensures.layout c.in_ok-laid.ensures.size

pub places-requires-clause-layout : goal.places-requires-clause-layout
places-requires-clause-layout c = ap length c.as_slice.ensures ∙ has_length c.args.lines.now c.loop-laid.laid.layout (turn_laid c.args.lines.now c.loop-laid.laid.layout c.loop-laid.laid.size c.loop-laid.invariant)

pub lengthen-requires-clause-near : goal.lengthen-requires-clause-near
lengthen-requires-clause-near c =
    turn_near c.args.lines.now c.loop-laid.laid.layout c.as_slice.result.now c.loop-laid.laid.size c.in_ok-table.table.items c.as_slice-in-loop-laid-2.result.now c.loop-laid.invariant
    c.as_slice.ensures c.as_slice-in-loop-laid-2.ensures.value c.in_ok-table.ensures.places c.requires.most

pub loop-laid-preserved : goal.loop-laid-preserved
loop-laid-preserved c =
    turned c.args.lines.now c.loop-laid.laid.layout c.as_slice.result.now c.loop-laid.laid.size c.in_ok-table.table.items c.as_slice-in-loop-laid-2.result.now c.loop-laid.invariant
    c.as_slice.ensures c.as_slice-in-loop-laid-2.ensures.value c.in_ok-table.ensures.places
    c.as_slice-in-loop-laid.result.now c.in_ok-next.next.layout c.in_ok-next.next.size c.as_slice-in-loop-laid.ensures c.in_ok-next.ensures.layout c.in_ok-next.ensures.size

pub loop-laid-smaller : goal.loop-laid-smaller
loop-laid-smaller c =
    turned_less c.args.lines.now c.loop-laid.laid.layout c.as_slice.result.now c.loop-laid.laid.size c.in_ok-table.table.items c.as_slice-in-loop-laid-2.result.now c.loop-laid.invariant
    c.as_slice.ensures c.as_slice-in-loop-laid-2.ensures.value c.in_ok-table.ensures.places
    c.as_slice-in-loop-laid.result.now c.in_ok-next.next.layout c.in_ok-next.next.size c.as_slice-in-loop-laid.ensures c.in_ok-next.ensures.layout c.in_ok-next.ensures.size
    c.if-next-laid.false

pub returns-then-next-laid-clause-fit : goal.returns-then-next-laid-clause-fit
returns-then-next-laid-clause-fit c =
    turned_last c.args.lines.now c.loop-laid.laid.layout c.as_slice.result.now c.loop-laid.laid.size c.in_ok-table.table.items c.as_slice-in-loop-laid-2.result.now c.loop-laid.invariant
    c.as_slice.ensures c.as_slice-in-loop-laid-2.ensures.value c.in_ok-table.ensures.places
    c.as_slice-in-loop-laid.result.now c.in_ok-next.next.layout c.in_ok-next.next.size c.as_slice-in-loop-laid.ensures c.in_ok-next.ensures.layout c.in_ok-next.ensures.size
    c.if-next-laid.true
