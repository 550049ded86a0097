use Rattle.pan_tree.specs.Grammar.{Within}
use Rattle.pan_parser.proofs.Exact.{one_refusal, spelled_unrefused}
use Rattle.pan_parser.proofs.Unique.{unique_program}
use Rattle.pan_parser.proofs.laws.one_answer.Goals as goal

pub returns-clause-program : goal.returns-clause-program
returns-clause-program c = λ ts p q d f. unique_program Within Within ts p q d f

pub returns-clause-reason : goal.returns-clause-reason
returns-clause-reason c = one_refusal

pub returns-clause-apart : goal.returns-clause-apart
returns-clause-apart c = spelled_unrefused
