use Rattle.std.proofs.Common.{arith}
use Rattle.pan_parser.proofs.ItemTrees.{items_none, items_more, items_done}
use Rattle.pan_parser.proofs.ForeignNames.{lawful_tree}
use Rattle.pan_parser.proofs.items.program.Goals as goal

pub items-init : goal.items-init
items-init c = items_none _ _ c.new.ensures c.new-2.ensures

pub items-preserved : goal.items-preserved
items-preserved c = rw c.in_ok-put.ensures (items_more _ _ _ _ _ c.items.invariant c.in_ok-next.ensures.tree c.in_ok-next.ensures.reads c.in_ok-next.ensures.ahead.1)

pub returns-clause-tree : goal.returns-clause-tree
returns-clause-tree c = items_done _ _ _ c.items.invariant (omega arith)

pub returns-clause-lawful : goal.returns-clause-lawful
returns-clause-lawful c = lawful_tree c.args.tokens.now.tokens c.items.program (items_done _ _ _ c.items.invariant (omega arith)) c.len.ensures.lawful.spelled
