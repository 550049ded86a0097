-- Which distances an instruction reaches, and which lines reach their labels in one.
use Rattle.std.specs.Prelude.{ℕ, ◌+◌, ◌&&◌, nat_le, Bool, true, Option, unwrap_or}
use Rattle.lab_lang.specs.Layout.{address_of}
use Rattle.lab_lang.specs.declared.syntax.Line.{Line}
use Rattle.lab_lang.specs.declared.syntax.Line.TheVariants.{Label, Plain, Jump, Branch, CallTo, Address, JumpReg}

-- `to` is at most so many bytes before `from`, and at most so many behind it
abbrev pub is_within : (back on from to : ℕ) → Bool
is_within back on from to = nat_le from (to + back) && nat_le to (from + on)

-- the signed 13 bits of a branch, whose lowest is 0
abbrev pub branch_reaches : (from to : ℕ) → Bool
branch_reaches = is_within 4096 4094

-- the signed 21 bits of a JAL, whose lowest is 0
abbrev pub jump_reaches : (from to : ℕ) → Bool
jump_reaches = is_within 1048576 1048574

-- One instruction at an address is enough for the line's jump, where `at` says where labels stand. What names a label that stands nowhere goes to the begin of the code. A line that has one number of instructions alone always has enough.
abbrev pub reaches : Line → (from : ℕ) → (ℕ → Option ℕ) → Bool
reaches (Label l) from at = true
reaches (Plain i) from at = true
reaches (Jump l) from at = jump_reaches from (unwrap_or (at l) (address_of 0))
reaches (Branch c a b l) from at = branch_reaches from (unwrap_or (at l) (address_of 0))
reaches (CallTo l) from at = jump_reaches from (unwrap_or (at l) (address_of 0))
reaches (Address rd l) from at = true
reaches (JumpReg r) from at = true
