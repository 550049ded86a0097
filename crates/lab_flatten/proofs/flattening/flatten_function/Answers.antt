use Rattle.std.proofs.Common.{arith}
use Rattle.stack_lang.proofs.WordsBefore.{front_small}
use Rattle.lab_flatten.proofs.flattening.flatten_function.Goals as goal

pub flatten_stmt-requires-clause-front : goal.flatten_stmt-requires-clause-front
flatten_stmt-requires-clause-front c =
    let few = front_small c.args.function.now.body in
    let same = c.words_before_slots-front.ensures in
    omega (arith, few, same)
