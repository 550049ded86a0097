use Rattle.std.proofs.Common.{refl}
use Rattle.pan_printer.proofs.Sample.{return_7_spellable}
use Rattle.pan_printer.proofs.tests.return_7.Goals as goal

pub returns : goal.returns
returns c = return_7_spellable _ _ _ c.in_ok-from_str.ensures c.new.ensures refl c.in_ok-stmts.ensures c.at-2.ensures c.at.ensures _ _ c.new-exceptions.ensures c.in_ok-functions.ensures
