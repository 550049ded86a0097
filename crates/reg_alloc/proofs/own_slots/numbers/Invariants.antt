use Rattle.std.proofs.Common.{◌≡◌}
use Rattle.pan_stage.specs.Locals.{numbers_from}
use Rattle.word_lang.specs.Homes.{first_slot}
use Rattle.reg_alloc.proofs.own_slots.numbers.Given as goal

abbrev pub invariant-loop-v : goal.invariant-loop-v
invariant-loop-v l = l.homes ≡ numbers_from first_slot l.v
