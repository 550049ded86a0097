use Rattle.pan_parser.proofs.StmtTrees.{foreign_tree}
use Rattle.pan_parser.proofs.simple.foreign.Goals as goal

pub returns-clause-tree : goal.returns-clause-tree
returns-clause-tree c = foreign_tree _ _ _ _ _ _ _ _ _ _ _ _ _ _ c.in_ok-after.ensures.ok c.in_ok-config.ensures.tree c.in_ok-config_len.ensures.tree c.in_ok-array.ensures.tree c.in_ok-array_len.ensures.tree c.in_ok-after-2.ensures.ok
