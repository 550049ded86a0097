use Rattle.pan_tree.specs.Check.{foreign_names}
use Rattle.source_resolver.specs.Numbering.{numbered}
use Rattle.source_resolver.proofs.NumberLemmas.{numbered_next}
use Rattle.source_resolver.proofs.directory.foreign_numbers.Goals as goal

pub loop-i-preserved : goal.loop-i-preserved
loop-i-preserved c =
    let names = foreign_names c.args.checked.now in
    numbered_next names c.loop-i.i c.name.result.now c.loop-i.numbers c.add.new.self (numbered 0 names) c.name.ensures.same c.in_ok-add.ensures.added c.loop-i.invariant
