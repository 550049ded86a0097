use Rattle.std.proofs.Common.{append_assoc}
use Rattle.pan_gen.specs.Generated.{calling_function}
use Rattle.pan_gen.proofs.generator.add_function.Goals as goal

pub returns : goal.returns
unfolding calling_function
returns c = simp append_assoc c.in_ok-write.ensures.bytes
