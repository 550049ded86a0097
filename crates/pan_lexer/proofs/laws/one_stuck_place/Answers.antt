use Rattle.pan_lexer.proofs.RowLemmas.{one_stuck_place}
use Rattle.pan_lexer.proofs.laws.one_stuck_place.Goals as goal

pub returns : goal.returns
returns c = one_stuck_place
