-- Homes of variables by their numbers: a number below 32 stands for the register of that number, and 32 + k for slot k of the frame.
use Rattle.std.specs.Prelude.{ℕ, ◌+◌, ◌-◌, ◌^◌, ◌<◌, ◌≤◌, ◌&&◌, nat_lt, List, get_or, length, IsTrue}
use Rattle.std.specs.List.{All}
use Rattle.word_lang.specs.Homes.{first_slot, is_register, is_home}
use Rattle.reg_alloc.specs.declared.homes.Home.{Home}
use Rattle.reg_alloc.specs.declared.homes.Home.TheVariants.{Reg, Slot}

abbrev pub number_of : Home → ℕ
number_of (Reg r) = r
number_of (Slot k) = first_slot + k

-- the number of a variable's home, in a table with one for each variable; of others nothing is said
abbrev pub home_number : List ℕ → ℕ → ℕ
home_number homes x = get_or homes x 0

-- A home of one of so many variables: one of the 16 registers for variables, or a slot whose number is below theirs.
abbrev pub IsAmong : ℕ → Home → Type 0
IsAmong count (Reg r) = IsTrue (is_register r)
IsAmong count (Slot k) = k < count

-- These are the numbers of homes for as many variables as they are.
pub record AreHomes (homes : List ℕ) : Type 0 where
  -- a home's number has 32 bits
  pub few : length homes ≤ 2 ^ 32 - first_slot
  pub each : All (λ n. IsTrue (is_home n && nat_lt n (first_slot + length homes))) homes
