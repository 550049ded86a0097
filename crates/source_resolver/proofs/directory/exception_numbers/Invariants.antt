use Rattle.std.proofs.Common.{◌≡◌, ◌++◌, map, drop}
use Rattle.pan_tree.specs.declared.program.Exception.{Exception}
use Rattle.source_resolver.specs.Numbering.{numbered}
use Rattle.source_resolver.proofs.directory.exception_numbers.Given as goal

-- what is left completes what is done
abbrev pub invariant-loop-i : goal.invariant-loop-i
invariant-loop-i l =
    l.numbers ++ numbered l.i (map (λ (x : Exception). x.name) (drop l.i l.exceptions)) ≡ numbered 0 (map (λ (x : Exception). x.name) l.exceptions)
