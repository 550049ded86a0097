use Rattle.lab_link.proofs.Joining.{laid_seen, near, in_range, whole, lawful}
use Rattle.lab_link.proofs.linking.link.Goals as goal

pub emit-requires-clause-layout : goal.emit-requires-clause-layout
emit-requires-clause-layout c =
    laid_seen c.args.prog.now.program c.args.prog.now.lines c.as_slice-lines.result.now c.args.prog.now.labels c.in_ok-grown.grown.layout c.as_slice.result.now c.in_ok-grown.grown.table.items c.as_slice-2.result.now
    c.args.prog.now.well_formed c.as_slice-lines.ensures c.in_ok-grown.ensures.layout c.in_ok-grown.ensures.fit c.as_slice.ensures c.as_slice-2.ensures.value c.in_ok-grown.ensures.places

pub emit-requires-clause-near : goal.emit-requires-clause-near
emit-requires-clause-near c =
    near c.args.prog.now.program c.args.prog.now.lines c.as_slice-lines.result.now c.args.prog.now.labels c.in_ok-grown.grown.layout c.as_slice.result.now c.in_ok-grown.grown.table.items c.as_slice-2.result.now
    c.args.prog.now.well_formed c.as_slice-lines.ensures c.in_ok-grown.ensures.layout c.in_ok-grown.ensures.fit c.as_slice.ensures c.as_slice-2.ensures.value c.in_ok-grown.ensures.places

pub spell-requires : goal.spell-requires
spell-requires c =
    in_range c.args.prog.now.program c.args.prog.now.lines c.as_slice-lines.result.now c.args.prog.now.labels c.in_ok-grown.grown.layout c.as_slice.result.now c.in_ok-grown.grown.table.items c.as_slice-2.result.now
    c.args.prog.now.well_formed c.as_slice-lines.ensures c.in_ok-grown.ensures.layout c.in_ok-grown.ensures.fit c.as_slice.ensures c.as_slice-2.ensures.value c.in_ok-grown.ensures.places
    c.in_ok-instrs.instrs c.as_slice-3.result.now c.in_ok-instrs.ensures c.as_slice-3.ensures

pub invariant_of-result : goal.invariant_of-result
invariant_of-result c = record {
  lawful = lawful c.args.prog.now.program c.args.prog.now.lines c.as_slice-lines.result.now c.args.prog.now.labels c.in_ok-grown.grown.layout c.as_slice.result.now c.in_ok-grown.grown.table.items c.as_slice-2.result.now
      c.args.prog.now.well_formed c.as_slice-lines.ensures c.in_ok-grown.ensures.layout c.in_ok-grown.ensures.fit c.as_slice.ensures c.as_slice-2.ensures.value c.in_ok-grown.ensures.places
      c.in_ok-instrs.instrs c.as_slice-3.result.now c.in_ok-instrs.ensures c.as_slice-3.ensures
      c.in_ok-bytes.bytes.items c.in_ok-bytes.ensures c.from_vec.result c.from_vec.ensures;
}

pub returns : goal.returns
returns c =
    whole c.args.prog.now.program c.args.prog.now.lines c.as_slice-lines.result.now c.args.prog.now.labels c.in_ok-grown.grown.layout c.as_slice.result.now c.in_ok-grown.grown.table.items c.as_slice-2.result.now
    c.args.prog.now.well_formed c.as_slice-lines.ensures c.in_ok-grown.ensures.layout c.in_ok-grown.ensures.fit c.as_slice.ensures c.as_slice-2.ensures.value c.in_ok-grown.ensures.places
    c.in_ok-instrs.instrs c.as_slice-3.result.now c.in_ok-instrs.ensures c.as_slice-3.ensures
    c.in_ok-bytes.bytes.items c.in_ok-bytes.ensures c.from_vec.result c.from_vec.ensures
