use Rattle.std.proofs.Common.{◌≡◌, drop, length, ◌-◌}
use Rattle.crep_lang.specs.Needs.{row_temporaries}
use Rattle.crep_lang.specs.Steps.{row_steps}
use Rattle.loop_lower.specs.Lowered.{capped}
use Rattle.loop_lower.proofs.sizes.sizes_of_row.Given as goal

-- the row from behind
abbrev pub invariant-loop-i : goal.invariant-loop-i
invariant-loop-i l = (l.row.many ≡ capped (row_steps (drop (length l.exprs - l.i) l.exprs))) × (l.row.few ≡ capped (row_temporaries (drop (length l.exprs - l.i) l.exprs)))
