use Rattle.pan_parser.proofs.StmtTrees.{raise_tree}
use Rattle.pan_parser.proofs.simple.raised.Goals as goal

pub returns-clause-tree : goal.returns-clause-tree
returns-clause-tree c = raise_tree _ _ _ _ _ _ _ c.in_ok-exception.ensures.ok c.in_ok-value.ensures.tree
