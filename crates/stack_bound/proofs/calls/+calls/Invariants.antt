use Rattle.std.proofs.Common.{◌≡◌, ◌++◌, drop}
use Rattle.std.specs.List.{flat_map}
use Rattle.stack_bound.specs.Calls.{calls_in}
use Rattle.stack_bound.proofs.calls.+calls.Given as goal

-- what is left to put completes what was put
abbrev pub invariant-put_calls_of-loop-stmt : goal.invariant-put_calls_of-loop-stmt
invariant-put_calls_of-loop-stmt l = l.calls ++ flat_map calls_in (drop l.stmt-index l.stmts) ≡ l.fn.calls ++ flat_map calls_in l.stmts
