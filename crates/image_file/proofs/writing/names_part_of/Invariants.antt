use Rattle.std.proofs.Common.{◌≡◌, ◌++◌, drop}
use Rattle.riscv_isa.specs.Image.{names_part}
use Rattle.image_file.proofs.writing.names_part_of.Given as goal

abbrev pub invariant-loop-name : goal.invariant-loop-name
invariant-loop-name l = l.part.items ++ names_part (drop l.name-index l.names) ≡ names_part l.names
