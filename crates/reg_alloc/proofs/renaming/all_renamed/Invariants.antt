use Rattle.std.proofs.Common.{◌≡◌, ◌++◌, map, drop}
use Rattle.reg_alloc.specs.Homes.{home_number}
use Rattle.reg_alloc.proofs.renaming.all_renamed.Given as goal

-- what is left to do completes what is done
abbrev pub invariant-loop-i : goal.invariant-loop-i
invariant-loop-i l = l.all ++ map (home_number l.homes) (drop l.i l.xs) ≡ map (home_number l.homes) l.xs
