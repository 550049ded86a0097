use Rattle.std.proofs.Common.{arith}
use Rattle.reg_alloc.proofs.SlotNumbers.{slots_length, slots_home, slots_lawful, slots_accepted}
use Rattle.reg_alloc.proofs.own_slots.slots.Goals as goal

pub invariant_of-result : goal.invariant_of-result
invariant_of-result c = record { lawful = slots_lawful c.in_ok-homes.homes c.above_function-count.result c.in_ok-homes.ensures (omega arith) }

pub returns-clause-count : goal.returns-clause-count
returns-clause-count c = let e = slots_length c.in_ok-homes.homes c.above_function-count.result c.in_ok-homes.ensures in let f = c.above_function-count.ensures in omega (arith, e, f)

pub returns-clause-homes : goal.returns-clause-homes
returns-clause-homes c = slots_home c.in_ok-homes.homes c.above_function-count.result c.in_ok-homes.ensures

pub returns-clause-accepted : goal.returns-clause-accepted
returns-clause-accepted c = slots_accepted c.in_ok-homes.homes c.above_function-count.result c.in_ok-homes.ensures c.args.fun.now c.above_function-count.ensures
