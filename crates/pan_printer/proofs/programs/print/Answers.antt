use Rattle.std.proofs.Common.{sym, subst}
use Rattle.pan_printer.specs.ReadsBack.{ReadsAs}
use Rattle.pan_printer.proofs.ProgramReading.{canonical_reads}
use Rattle.pan_printer.proofs.programs.print.Goals as goal

pub returns-clause-reads_back : goal.returns-clause-reads_back
returns-clause-reads_back c = subst (λ text. ReadsAs text c.args.program.now) (sym c.in_ok-text.ensures) (canonical_reads c.args.program.now c.requires)
