use Rattle.std.proofs.Common.{rules}
use Rattle.reg_alloc.proofs.Applied.{is_renamed}
use Rattle.reg_alloc.proofs.renaming.apply.Goals as goal

pub returns-clause-homes : goal.returns-clause-homes
returns-clause-homes c = is_renamed c.args.colours.now.homes c.args.fun.now _ c.args.colours.now.lawful c.requires.count c.requires.accepted (search rules)
