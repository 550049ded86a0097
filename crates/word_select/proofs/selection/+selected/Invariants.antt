use Rattle.std.proofs.Common.{◌≡◌, ◌++◌, map, drop}
use Rattle.word_select.specs.Selected.{in_row, selected}
use Rattle.word_select.proofs.selection.+selected.Given as goal

-- what is left to do completes what is done
abbrev pub invariant-select_row-loop-i : goal.invariant-select_row-loop-i
invariant-select_row-loop-i l =
    let rest = in_row (map (selected l.free) (drop l.i l.all)) l.facts in
    let whole = in_row (map (selected l.free) l.all) l.known in
    (l.stmts ++ rest.stmts ≡ whole.stmts) × (rest.facts ≡ whole.facts)
