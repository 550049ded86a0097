-- One step of the machine.
use Rattle.std.specs.Prelude.{ℕ, ◌+◌, ◌-◌, ◌*◌, ◌/◌, ◌%◌, ◌^◌, ◌==◌, ◌&&◌, nat_lt, List, [], length, Option, Some, None, unwrap_or, if◌then◌else◌, slice_get, slice_index, slice_set}
use Rattle.pan_base.specs.declared.events.Size.{Size}
use Rattle.pan_base.specs.declared.operators.LOp.{LOp}
use Rattle.pan_base.specs.Words.{compare}
use Rattle.pan_base.specs.Events.{Asked, Load, Store, Foreign, Replied, Value, Bytes, Ending, Exit, Uncaught, Stack, Fault, byte_count}
use Rattle.riscv_isa.specs.declared.instr.Instr.{Instr}
use Rattle.riscv_isa.specs.declared.instr.Instr.TheVariants as instr
use Rattle.riscv_isa.specs.declared.place.Place.{Place}
use Rattle.riscv_isa.specs.declared.place.Place.TheVariants as place
use Rattle.riscv_isa.specs.declared.place.Region.TheVariants as region
use Rattle.riscv_isa.specs.declared.pending.Buffer.{Buffer}
use Rattle.riscv_isa.specs.declared.pending.Pending.{Pending}
use Rattle.riscv_isa.specs.declared.pending.Pending.TheVariants as pending
use Rattle.riscv_isa.specs.Decoded.{decoded}
use Rattle.riscv_isa.specs.Held.{word_at}
use Rattle.riscv_isa.specs.Running as running
pub use Rattle.riscv_isa.specs.Running.{Runs, Waits, Over}
use Rattle.pan_base.specs.Bytes.{number_at, with_number, part, with_part}
use Rattle.riscv_isa.specs.Regions.{Memory, begin, bytes_of, with_bytes, is_in, place_of}
use Rattle.pan_base.specs.Results.{r_result, i_result, sh_result, u_result, l_result, loads, stores}
unfoldable pub use Rattle.pan_base.specs.Results.{plus, upper}

-- the 32 registers, the program counter, the bytes of the code, the names of the foreign functions, and data memory
pub record State : Type 0 where
  pub registers : List ℕ
  pub pc : ℕ
  pub code : List ℕ
  pub names : List (List ℕ)
  pub memory : Memory

-- what a step leads to: a state that runs, or waits for a reply, or the end
abbrev pub Config : Type 0
Config = running.Config Pending State

-- register 0 reads as 0
unfoldable pub reg : State → ℕ → ℕ
reg s i = if i == 0 then 0 else slice_index s.registers i

-- writes to register 0 are dropped
abbrev pub with_reg : State → ℕ → ℕ → State
with_reg s i n = record s { registers = if i == 0 then s.registers else slice_set s.registers i n }

-- at the next instruction
abbrev pub next : State → State
next s = record s { pc = s.pc + 4 }

-- A jump. One to an address that is no multiple of 4 is a fault; whether the address lies in the code is seen at the next instruction.
abbrev pub jump : ℕ → State → Config
jump target s = if target % 4 == 0 then Runs (record s { pc = target }) else Over Fault

-- with the address of the next instruction in a register
abbrev pub linked : ℕ → State → State
linked rd s = with_reg s rd (s.pc + 4)

-- a load, which extends what it reads and puts it into a register
abbrev pub load : Place → LOp → ℕ → ℕ → State → Config
load (place.In region at) op rd addr s = Runs (next (with_reg s rd (l_result op (number_at (loads op) (bytes_of region s.memory) at))))
load place.Window op rd addr s = Waits (pending.Load op rd addr) (next s)
load place.Nowhere op rd addr s = Over Fault

-- a store of the value's low bytes
abbrev pub store : Place → Size → ℕ → ℕ → State → Config
store (place.In region at) size addr value s = Runs (next (record s { memory = with_bytes region (with_number size (bytes_of region s.memory) at value) s.memory }))
store place.Window size addr value s = Waits (pending.Store size addr (value % 2 ^ (8 * byte_count size))) (next s)
store place.Nowhere size addr value s = Over Fault

-- an end that the program asks for
abbrev pub ended : ℕ → ℕ → Ending
ended kind value = if kind == 0 then Exit value else (if kind == 1 then Uncaught value else (if kind == 2 then Stack else Fault))

-- so many bytes from an address in local memory on
abbrev pub buffer : ℕ → ℕ → Buffer
buffer addr count = record { at = addr - begin region.Local; count = count }

-- A call of the foreign function whose number is in x14, on the buffers of x10 and x11 and of x12 and x13.
abbrev pub foreign : State → Config
foreign s =
    if nat_lt (reg s 14) (length s.names) && is_in region.Local s.memory (reg s 10) (reg s 11) && is_in region.Local s.memory (reg s 12) (reg s 13)
    then Waits (pending.Foreign (reg s 14) (buffer (reg s 10) (reg s 11)) (buffer (reg s 12) (reg s 13))) (next s)
    else Over Fault

-- a call of the environment: the end, or a foreign function
abbrev pub ecall : ℕ → State → Config
ecall call s = if call == 0 then Over (ended (reg s 10) (reg s 11)) else (if call == 1 then foreign s else Over Fault)

-- one instruction
abbrev pub act : Instr → State → Config
act (instr.R op rd rs1 rs2) s = Runs (next (with_reg s rd (r_result op (reg s rs1) (reg s rs2))))
act (instr.I op rd rs1 imm) s = Runs (next (with_reg s rd (i_result op (reg s rs1) imm)))
act (instr.Sh op rd rs1 amount) s = Runs (next (with_reg s rd (sh_result op (reg s rs1) amount)))
act (instr.U op rd high) s = Runs (next (with_reg s rd (u_result op s.pc high)))
act (instr.L op rd rs1 imm) s = load (place_of s.memory (plus (reg s rs1) imm) (byte_count (loads op))) op rd (plus (reg s rs1) imm) s
act (instr.S op rs1 rs2 imm) s = store (place_of s.memory (plus (reg s rs1) imm) (byte_count (stores op))) (stores op) (plus (reg s rs1) imm) (reg s rs2) s
act (instr.B op rs1 rs2 imm) s = if compare op (reg s rs1) (reg s rs2) then jump (plus s.pc imm) s else Runs (next s)
act (instr.Jal rd imm) s = jump (plus s.pc imm) (linked rd s)
act (instr.Jalr rd rs1 imm) s = jump (plus (reg s rs1) imm / 2 * 2) (linked rd s)
act (instr.Fence high rd) s = Runs (next s)
act instr.Ecall s = ecall (reg s 17) s
act instr.Ebreak s = Over Fault

-- a word outside the table, or a pc outside the code, is a fault
abbrev pub act_some : Option Instr → State → Config
act_some None s = Over Fault
act_some (Some i) s = act i s

-- the word at pc, where it lies in the code
abbrev pub fetched : State → Option ℕ
fetched s = word_at s.code s.pc

abbrev pub decoded_some : Option ℕ → Option Instr
decoded_some None = None
decoded_some (Some w) = decoded w

-- one step
unfoldable pub step : State → Config
step s = act_some (decoded_some (fetched s)) s

-- what a machine that waits has asked
abbrev pub request_of : Pending → State → Asked
request_of (pending.Load op rd addr) s = Load (loads op) addr
request_of (pending.Store size addr value) s = Store size addr value
request_of (pending.Foreign number conf array) s =
    Foreign number (unwrap_or (slice_get s.names number) []) (part s.memory.local conf.at conf.count) (part s.memory.local array.at array.count)

-- a value comes for a load
abbrev pub loaded : LOp → ℕ → State → Replied → State
loaded op rd s (Value n) = with_reg s rd (l_result op n)
loaded op rd s _ = s

-- bytes come for the array of a foreign call
abbrev pub replaced : Buffer → State → Replied → State
replaced array s (Bytes bytes) = record s { memory = with_bytes region.Local (with_part s.memory.local array.at bytes) s.memory }
replaced array s _ = s

-- a reply that fits comes
abbrev pub resumed : Pending → State → Replied → State
resumed (pending.Load op rd addr) s r = loaded op rd s r
resumed (pending.Store size addr value) s r = s
resumed (pending.Foreign number conf array) s r = replaced array s r
