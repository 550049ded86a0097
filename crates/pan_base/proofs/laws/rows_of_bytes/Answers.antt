use Rattle.pan_base.proofs.ByteLaws.{small_append, small_take, small_drop}
use Rattle.pan_base.proofs.laws.rows_of_bytes.Goals as goal

pub returns : goal.returns
returns c = record { front = small_take; rest = small_drop; joined = small_append }
