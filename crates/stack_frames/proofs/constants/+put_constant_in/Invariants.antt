use Rattle.stack_frames.proofs.constants.+put_constant_in.Given as goal

abbrev pub decreases-put_constant_in : goal.decreases-put_constant_in
decreases-put_constant_in l = l.depth
