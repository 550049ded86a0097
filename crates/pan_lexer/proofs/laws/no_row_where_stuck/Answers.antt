use Rattle.pan_lexer.proofs.RowLemmas.{no_row_where_stuck}
use Rattle.pan_lexer.proofs.laws.no_row_where_stuck.Goals as goal

pub returns : goal.returns
returns c = no_row_where_stuck
