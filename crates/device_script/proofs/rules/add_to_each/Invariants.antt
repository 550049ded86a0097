use Rattle.std.proofs.Common.{◌≡◌, ◌+◌, ◌%◌, ◌++◌, map, take, drop}
use Rattle.device_script.proofs.rules.add_to_each.Given as goal

-- the bytes before have grown
abbrev pub invariant-loop-byte : goal.invariant-loop-byte
invariant-loop-byte l = l.array ≡ map (λ b. (b + l.fn.n) % 256) (take l.byte-index l.initial.array) ++ drop l.byte-index l.initial.array
