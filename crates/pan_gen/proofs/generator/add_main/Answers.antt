use Rattle.std.proofs.Common.{append_assoc}
use Rattle.pan_gen.specs.Generated.{main_function}
use Rattle.pan_gen.proofs.generator.add_main.Goals as goal

pub returns : goal.returns
unfolding main_function
returns c = simp append_assoc c.in_ok-write.ensures.bytes
