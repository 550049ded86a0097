use Rattle.std.proofs.Common.{◌≡◌, ◌++◌, map, drop}
use Rattle.reg_alloc.specs.Homes.{home_number}
use Rattle.reg_alloc.specs.Renamed.{rename}
use Rattle.reg_alloc.proofs.renaming.+rename.Given as goal

-- what is left to do completes what is done
abbrev pub invariant-rename_row-loop-i : goal.invariant-rename_row-loop-i
invariant-rename_row-loop-i l = l.row ++ map (rename (home_number l.homes)) (drop l.i l.all) ≡ map (rename (home_number l.homes)) l.all
