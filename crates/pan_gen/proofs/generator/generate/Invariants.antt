use Rattle.std.proofs.Common.{◌≡◌, ◌++◌, string_bytes}
use Rattle.pan_gen.specs.Generated.{first_function, calling_functions}
use Rattle.pan_gen.proofs.generator.generate.Given as goal

abbrev pub invariant-loop-callee : goal.invariant-loop-callee
invariant-loop-callee l = string_bytes l.text ≡ first_function ++ calling_functions l.callee
