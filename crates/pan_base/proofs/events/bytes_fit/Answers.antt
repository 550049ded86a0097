use Rattle.std.proofs.Common.{arith}
use Rattle.pan_base.proofs.ByteLemmas.{all_bytes, same_and}
use Rattle.pan_base.proofs.events.bytes_fit.Goals as goal

pub returns : goal.returns
returns c = same_and _ _ (all_bytes c.args.bytes.now (λ i. omega (arith, c.type_inv.bytes i)))
