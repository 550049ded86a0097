use Rattle.pan_lexer.proofs.RowLemmas.{one_row}
use Rattle.pan_lexer.proofs.laws.one_row.Goals as goal

pub returns : goal.returns
returns c = one_row
