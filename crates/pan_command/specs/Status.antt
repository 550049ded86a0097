-- The exit status of each way to end.
use Rattle.std.specs.Prelude.{◌≡◌, ◌⊎◌, ℕ}
use Rattle.pan_base.specs.declared.events.End.{End}
use Rattle.pan_base.specs.declared.events.End.TheVariants as told_end
use Rattle.pan_command.specs.declared.status.Status.{Status}
use Rattle.pan_command.specs.declared.status.Status.TheVariants as status

-- the exit status of an end of a run
abbrev pub end_code : End → ℕ
end_code (told_end.Exit n) = 0
end_code told_end.Spent = 10
end_code told_end.Stack = 11
end_code told_end.Stopped = 12
end_code told_end.Fault = 13
end_code told_end.Fails = 13
end_code (told_end.Uncaught n) = 14
end_code told_end.Asks = 15

abbrev pub code : Status → ℕ
code status.Done = 0
code status.Usage = 2
code status.Unread = 3
code status.Refused = 4
code status.NoImage = 5
code status.NoScript = 6
code status.Unwritten = 7
code status.Unput = 7
code status.NoMemory = 8
code (status.Ran end) = end_code end

-- a status of `compile`
abbrev pub IsCompileCode : ℕ → Type 0
IsCompileCode n = (n ≡ 0) ⊎ ((n ≡ 3) ⊎ ((n ≡ 4) ⊎ ((n ≡ 7) ⊎ (n ≡ 8))))
