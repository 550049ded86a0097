use Rattle.pan_agree.proofs.BothWays.{IsOrder, agrees, in_time}
use Rattle.pan_agree.proofs.laws.both_ways.Goals as goal

pub returns : goal.returns
returns c =
    let prefixes = c.prefixes.ensures in
    let order : IsOrder = record { reflexive = prefixes.reflexive; transitive = prefixes.transitive } in
    record { agree = agrees order; in_time = in_time }
