-- When a program of lines is well formed.
use Rattle.std.specs.Prelude.{ℕ, ◌<◌, ◌≤◌, List, length, map}
use Rattle.std.specs.List.{All}
use Rattle.std.proofs.Props.{props}
use Rattle.pan_stage.specs.Room.{AreCosts, allowed}
use Rattle.pan_stage.specs.WellFormed.{AreNumbers}
use Rattle.pan_stage.specs.declared.program.Program.{Program}
use Rattle.riscv_isa.specs.Table.{InRange}
use Rattle.machine_start.specs.Ranges.{InRange-prop}
use Rattle.lab_lang.specs.Needs.{code}
use Rattle.lab_lang.specs.declared.syntax.LabFun.{LabFun}
use Rattle.lab_lang.specs.declared.syntax.Line.{Line}
use Rattle.lab_lang.specs.declared.syntax.Line.TheVariants.{Label, Plain, Jump, Branch, CallTo, Address, JumpReg}

-- the line's fields are in range, and its label is one of so many
abbrev pub IsLine : ℕ → Line → Type 0
IsLine labels (Label l) = l < labels
IsLine labels (Plain i) = InRange i
IsLine labels (Jump l) = l < labels
IsLine labels (Branch c a b l) = (a < 32) × (b < 32) × (l < labels)
IsLine labels (CallTo l) = l < labels
IsLine labels (Address rd l) = (rd < 32) × (l < labels)
IsLine labels (JumpReg r) = r < 32

pub record IsWellFormed (p : Program LabFun) (lines : List Line) (labels : ℕ) : Type 0 where
  -- its numbers are lawful
  pub numbers : AreNumbers p
  -- main is a function
  pub main : p.main < length p.functions
  -- the fields of each line are in range
  pub each : All (IsLine labels) lines
  -- its code fits what the functions cost
  pub priced : AreCosts (map (λ (f : LabFun). f.cost) p.functions)
  pub within : code lines ≤ (allowed (map (λ (f : LabFun). f.cost) p.functions)).code

-- one proof of it is as good as another
pub IsLine-prop : (labels : ℕ) (x : Line) → IsProp (IsLine labels x)
IsLine-prop labels (Label l) = Prim.hlevel props
IsLine-prop labels (Plain i) = InRange-prop i
IsLine-prop labels (Jump l) = Prim.hlevel props
IsLine-prop labels (Branch c a b l) = Prim.hlevel props
IsLine-prop labels (CallTo l) = Prim.hlevel props
IsLine-prop labels (Address rd l) = Prim.hlevel props
IsLine-prop labels (JumpReg r) = Prim.hlevel props
