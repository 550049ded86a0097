use Rattle.std.proofs.Common.{◌≡◌, [], subst, sym, arith, List, ℕ, not, true}
use Rattle.std.specs.Prelude.{◌==◌}
use Rattle.std.specs.List.{list_all}
use Rattle.riscv_machine.proofs.NameLemmas.{no_feeds}
use Rattle.riscv_machine.proofs.machine.Machine.foreign_request.Goals as goal

pub returns-clause-buffers : goal.returns-clause-buffers
returns-clause-buffers c = (
  omega arith,
  omega arith,
  subst (λ (name : List ℕ). list_all (λ b. not (b == 10)) name ≡ true) (sym c.name.ensures)
      (no_feeds c.args.self.now.image.names c.args.number [] c.args.self.now.named c.requires.number),
)
