-- When a program over frames is well formed.
use Rattle.std.specs.Prelude.{◌≡◌, ℕ, ◌+◌, ◌*◌, ◌%◌, ◌<◌, ◌≤◌, length, map}
use Rattle.std.specs.List.{All}
use Rattle.std.proofs.Props.{props}
use Rattle.pan_stage.specs.Room.{HasRoom}
use Rattle.pan_stage.specs.WellFormed.{AreNumbers}
use Rattle.pan_stage.specs.declared.program.Program.{Program}
use Rattle.riscv_isa.specs.declared.instr.Instr.{Instr}
use Rattle.riscv_isa.specs.declared.instr.Instr.TheVariants as instr
use Rattle.riscv_isa.specs.Table.{InRange}
use Rattle.machine_start.specs.Ranges.{InRange-prop}
use Rattle.stack_lang.specs.Frames.{front_words}
use Rattle.stack_lang.specs.Needs.{needs}
use Rattle.stack_lang.specs.Shown.{IsVisible, IsWritable, IsShown}
use Rattle.stack_lang.specs.Text.{Mention, Instruction, Read, Written, Slot, Function, Exception, Foreign, mentions}
use Rattle.stack_lang.specs.declared.syntax.StackFun.{StackFun}

-- what a text may mention: slots of a frame of this size, which stand behind so many words, and so many functions, exceptions and foreign names
pub record Scope : Type 0 where
  pub frame : ℕ
  pub front : ℕ
  pub functions : ℕ
  pub exceptions : ℕ
  pub names : ℕ

abbrev pub scope_of : Program StackFun → StackFun → Scope
scope_of p f = record { frame = f.frame; front = front_words f; functions = length p.functions; exceptions = length p.exceptions; names = length p.names }

-- A mention is right. A slot is the frame's, with all of its word.
abbrev pub IsRight : Scope → Mention → Type 0
IsRight s (Instruction i) = InRange i × IsShown i
IsRight s (Read r) = (r < 32) × IsVisible r
IsRight s (Written r) = (r < 32) × IsWritable r
IsRight s (Slot k) = 8 * (s.front + k + 1) ≤ s.frame
IsRight s (Function f) = f < s.functions
IsRight s (Exception i) = i < s.exceptions
IsRight s (Foreign i) = i < s.names

IsShown-prop : (i : Instr) → IsProp (IsShown i)
IsShown-prop (instr.R op rd rs1 rs2) = Prim.hlevel props
IsShown-prop (instr.I op rd rs1 imm) = Prim.hlevel props
IsShown-prop (instr.Sh op rd rs1 amount) = Prim.hlevel props
IsShown-prop (instr.S op rs1 rs2 imm) = Prim.hlevel props
IsShown-prop (instr.U op rd high) = Prim.hlevel props
IsShown-prop (instr.L op rd rs1 imm) = Prim.hlevel props
IsShown-prop (instr.B op rs1 rs2 imm) = Prim.hlevel
IsShown-prop (instr.Jal rd imm) = Prim.hlevel
IsShown-prop (instr.Jalr rd rs1 imm) = Prim.hlevel
IsShown-prop (instr.Fence high rd) = Prim.hlevel
IsShown-prop instr.Ecall = Prim.hlevel
IsShown-prop instr.Ebreak = Prim.hlevel

-- one proof of it is as good as another
pub IsRight-prop : (s : Scope) (m : Mention) → IsProp (IsRight s m)
IsRight-prop s (Instruction i) = Prim.hlevel (props, InRange-prop, IsShown-prop)
IsRight-prop s (Read r) = Prim.hlevel props
IsRight-prop s (Written r) = Prim.hlevel props
IsRight-prop s (Slot k) = Prim.hlevel props
IsRight-prop s (Function f) = Prim.hlevel props
IsRight-prop s (Exception i) = Prim.hlevel props
IsRight-prop s (Foreign i) = Prim.hlevel props

-- a frame has room for so many words before its slots, and the stack stays aligned
pub record IsFrame (front size : ℕ) : Type 0 where
  pub wide : 8 * front ≤ size
  pub whole : size % 16 ≡ 0

pub record IsWellFormed (p : Program StackFun) : Type 0 where
  -- its numbers are lawful
  pub numbers : AreNumbers p
  -- main is a function
  pub main : p.main < length p.functions
  -- so are its frames
  pub frames : All (λ (f : StackFun). IsFrame (front_words f) f.frame) p.functions
  -- what its functions mention is there
  pub right : All (λ (f : StackFun). All (IsRight (scope_of p f)) (mentions f.body)) p.functions
  -- frames and code fit what the functions cost
  pub room : HasRoom (map (λ (f : StackFun). f.cost) p.functions) (needs p)
