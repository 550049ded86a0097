use Rattle.std.proofs.Common.{◌≡◌, true, take}
use Rattle.std.specs.List.{list_all}
use Rattle.pan_base.specs.Names.{is_short_foreign_name}
use Rattle.pan_tree.specs.Check.{foreign_names}
use Rattle.pan_driver.proofs.writing.names_of.Given as goal

-- the names so far are the first ones, and each is lawful
abbrev pub invariant-loop-i : goal.invariant-loop-i
invariant-loop-i l = record {
  same : l.list ≡ take l.i (foreign_names l.checked);
  lawful : list_all is_short_foreign_name l.list ≡ true;
}
