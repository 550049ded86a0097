use Rattle.std.proofs.Common.{ℕ, List, ◌++◌, drop}
use Rattle.riscv_isa.specs.Held.{Spells}
use Rattle.riscv_isa.proofs.words.spell.Given as goal

-- the words of the instructions that are left complete the bytes
abbrev pub invariant-loop-instr : goal.invariant-loop-instr
invariant-loop-instr l = (more : List ℕ) → Spells more (drop l.instr-index l.instrs) → Spells (l.bytes.items ++ more) l.instrs
