use Rattle.pan_parser.proofs.Unique.{unique_program}
use Rattle.pan_parser.proofs.laws.one_tree.Goals as goal

pub returns : goal.returns
returns c = λ ts p q d f. unique_program (λ j rest. Unit {0}) (λ j rest. Unit {0}) ts p q d f
