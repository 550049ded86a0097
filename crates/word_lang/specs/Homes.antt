-- Functions whose variables are homes: a number below 32 stands for the register of that number, and 32 + k for slot k of the frame. A list that
-- names a home twice is written in its order, as one of any variables is, so that its last word stays.
use Rattle.std.specs.Prelude.{ℕ, ◌<◌, ◌||◌, ◌&&◌, nat_eq, nat_le, nat_lt, Bool, IsTrue}
use Rattle.std.specs.List.{All}
use Rattle.pan_flow.specs.Functions.{variables}
use Rattle.pan_stage.specs.declared.program.Program.{Program}
use Rattle.word_lang.specs.Live.{Across}
use Rattle.word_lang.specs.Text.{flow_of_function}
use Rattle.word_lang.specs.declared.syntax.WordFun.{WordFun}

-- the number of the first slot
abbrev pub first_slot : ℕ
first_slot = 32

-- one of the 16 registers for variables: x15, x16, and x18 to x31
abbrev pub is_register : ℕ → Bool
is_register x = nat_eq x 15 || nat_eq x 16 || (nat_le 18 x && nat_lt x first_slot)

-- a register for variables, or a slot
abbrev pub is_home : ℕ → Bool
is_home x = is_register x || nat_le first_slot x

pub record IsOverHomes (f : WordFun) : Type 0 where
  -- each variable that occurs is a home
  pub homes : All (λ x. IsTrue (is_home x)) (variables (flow_of_function f))
  -- no register is across: a call may change each of them
  pub across : (x : ℕ) → x < first_slot → ¬ Across f x

-- every function is over homes
abbrev pub AreOverHomes : Program WordFun → Type 0
AreOverHomes p = All IsOverHomes p.functions
