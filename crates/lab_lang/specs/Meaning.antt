-- What lines do at a layout, in steps of one instruction each.
use Rattle.std.specs.Prelude.{ℕ, pos, zero, suc, ◌+◌, ◌-◌, ◌*◌, ◌==◌, List, Option, Some, None, if◌then◌else◌}
use Rattle.pan_base.specs.Events.{Asked, Replied, Fails, Behaviour}
use Rattle.pan_base.specs.Words.{compare}
use Rattle.pan_stage.specs.Stage.{InSteps}
use Rattle.pan_stage.specs.declared.program.Program.{Program}
use Rattle.machine_start.specs.Start.{started}
use Rattle.riscv_isa.specs.Running as running
use Rattle.riscv_isa.specs.Running.{Runs, Waits, Over}
use Rattle.riscv_isa.specs.Step as machine
use Rattle.riscv_isa.specs.Step.{reg, with_reg, act, request_of, resumed}
use Rattle.riscv_isa.specs.Ways.{halfway}
use Rattle.riscv_isa.specs.declared.instr.Instr.TheVariants.{Jalr}
use Rattle.riscv_isa.specs.declared.pending.Pending.{Pending}
use Rattle.lab_lang.specs.Layout.{Laid, found, address}
use Rattle.lab_lang.specs.declared.syntax.LabFun.{LabFun}
use Rattle.lab_lang.specs.declared.syntax.Line.{Line}
use Rattle.lab_lang.specs.declared.syntax.Line.TheVariants.{Label, Plain, Jump, Branch, CallTo, Address, JumpReg}

-- ---- states

-- The machine, without code, whose pc is the address of the next line. The last line did what it does at its first instruction, and still takes so many steps.
pub record State : Type 0 where
  pub machine : machine.State
  pub owed : ℕ

abbrev pub Config : Type 0
Config = running.Config Pending State

-- where the machine goes on, with nothing owed
abbrev pub once : machine.Config → Config
once (Runs s) = Runs (record { machine = s; owed = 0 })
once (Waits p s) = Waits p (record { machine = s; owed = 0 })
once (Over e) = Over e

-- the machine comes to an address in so many steps
abbrev pub comes : ℕ → ℕ → machine.State → Config
comes steps to s = Runs (record { machine = record s { pc = to }; owed = steps - 1 })

-- what a state has asked, and where it goes on with the reply
abbrev pub asks : Pending → State → Asked
asks p s = request_of p s.machine

abbrev pub replied : Pending → State → Replied → State
replied p s r = record s { machine = resumed p s.machine r }

-- ---- lines

-- where a label stands; to one that stands nowhere nothing goes
abbrev pub aimed : Option ℕ → (ℕ → Config) → Config
aimed None go = Over Fails
aimed (Some to) go = go to

-- A jump of one instruction goes straight, and a longer one, whose AUIPC is at `from`, by way of x9, where that leaves what it makes.
abbrev pub by_way : ℕ → (from to : ℕ) → machine.State → machine.State
by_way count from to s = if count == 1 then s else with_reg s 9 (halfway from to)

-- a line of so many instructions, where `at` says where labels stand
abbrev pub act_line : Line → ℕ → (ℕ → Option ℕ) → machine.State → Config
act_line (Label l) count at s = Over Fails
act_line (Plain i) count at s = once (act i s)
act_line (Jump l) count at s = aimed (at l) (λ to. comes count to (by_way count s.pc to s))
act_line (Branch c a b l) count at s = if compare c (reg s a) (reg s b) then aimed (at l) (λ to. comes count to (by_way count (s.pc + 4) to s)) else comes 1 (s.pc + 4 * count) s
act_line (CallTo l) count at s = aimed (at l) (λ to. comes count to (with_reg s 1 (s.pc + 4 * count)))
act_line (Address rd l) count at s = aimed (at l) (λ to. comes count (s.pc + 4 * count) (with_reg s rd to))
act_line (JumpReg r) count at s = once (act (Jalr 0 r (pos 0)) s)

-- where no line begins, the run fails
abbrev pub act_laid : Option Laid → (ℕ → Option ℕ) → machine.State → Config
act_laid None at s = Over Fails
act_laid (Some x) at s = act_line x.line x.count at s

-- ---- runs

-- lines at a layout
module _ (lines : List Line) (layout : List (ℕ × ℕ)) where
  -- the next line, where nothing is owed
  abbrev pub step_owing : ℕ → machine.State → Config
  step_owing zero s = act_laid (found lines layout s.pc) (address lines layout) s
  step_owing (suc n) s = Runs (record { machine = s; owed = n })

  abbrev pub step : State → Config
  step s = step_owing s.owed s.machine

  -- at most so many steps
  abbrev pub run : ℕ → State → List Replied → Behaviour
  run = running.run asks replied step

-- The trace and the end of lines at a layout, over a stack of this size, on local memory m, with replies r and at most k steps.
abbrev pub behaviour : Program LabFun → List Line → List (ℕ × ℕ) → InSteps
behaviour p lines layout size m r k = run lines layout k (record { machine = started p m size; owed = 0 }) r
