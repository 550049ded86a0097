use Rattle.pan_lexer.proofs.RowLemmas.{row_or_stuck}
use Rattle.pan_lexer.proofs.laws.row_or_stuck.Goals as goal

pub returns : goal.returns
returns c = row_or_stuck
