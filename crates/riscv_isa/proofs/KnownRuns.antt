-- Runs of small programs, as an assembler spells them, and what they must do: examples that the definitions of the machine are held against.
use Rattle.std.proofs.Common.{◌≡◌, ℕ, refl, List, [], ◌∷◌, None}
use Rattle.std.specs.Prelude.{codes}
use Rattle.std.specs.List.{flat_map}
use Rattle.std.specs.Int.{w32, to_le_bytes}
use Rattle.pan_base.specs.declared.events.Size.TheVariants.{B1, B2, B4}
use Rattle.pan_base.specs.Events.{Load, Store, Foreign, Replied, Value, Done, Bytes, Exit, Uncaught, Stopped, Asks, Spent, Stack, Fault, only, before, Behaviour}
use Rattle.riscv_isa.specs.Running.{run}
use Rattle.riscv_isa.specs.Machine.{machine}
use Rattle.riscv_isa.specs.Step.{step, reg}
use Rattle.pan_base.specs.Results.{plus, upper, sign_extended}
use Rattle.riscv_isa.specs.Regions.{place_of}
use Rattle.riscv_isa.specs.Decoded.{decoded, r_read, i_read, s_read, l_read, b_read, j_read, jalr_read, fence_read, sh_read}

-- so many steps of these words, with the foreign functions `a` and `bc`, the bytes 1 to 8 as local memory and 16 bytes of stack
abbrev after : ℕ → List ℕ → List Replied → Behaviour
after k words replies = machine (record { code = flat_map (to_le_bytes w32) words; names = codes "a" ∷ codes "bc" ∷ []; bound = None }) (1 ∷ 2 ∷ 3 ∷ 4 ∷ 5 ∷ 6 ∷ 7 ∷ 8 ∷ []) 16 replies k

record KnownRuns : Type 0 where
  -- a branch back, taken four times: addi x5, x0, 5; add x11, x11, x5; addi x5, x5, -1; bne x5, x0, -8; ecall
  loops : after 40 (0x00500293 ∷ 0x005585b3 ∷ 0xfff28293 ∷ 0xfe029ce3 ∷ 0x00000073 ∷ []) [] ≡ only (Exit 15)
  -- a call and its return: jal x1, 12; add x11, x11, x11; ecall; addi x11, x0, 21; jalr x0, 0(x1)
  calls : after 40 (0x00c000ef ∷ 0x00b585b3 ∷ 0x00000073 ∷ 0x01500593 ∷ 0x00008067 ∷ []) [] ≡ only (Exit 42)
  -- a jump through the register that it links in, to an odd sum: auipc x1, 0; jalr x1, 13(x1); ebreak; auipc x11, 0; sub x11, x11, x1; ecall
  links_last : after 40 (0x00000097 ∷ 0x00d080e7 ∷ 0x00100073 ∷ 0x00000597 ∷ 0x401585b3 ∷ 0x00000073 ∷ []) [] ≡ only (Exit 4)
  -- a write to register 0, after a fence: fence; addi x0, x0, 7; addi x11, x0, 0; ecall
  drops : after 40 (0x0ff0000f ∷ 0x00700013 ∷ 0x00000593 ∷ 0x00000073 ∷ []) [] ≡ only (Exit 0)
  -- a taken branch to an address that is no multiple of 4: beq x0, x5, 6
  misaligned_branch : after 1 (0x00500363 ∷ []) [] ≡ only Fault
  -- one that is not taken: bne x0, x5, 6
  misaligned_branch_not_taken : after 1 (0x00501363 ∷ []) [] ≡ only Spent
  -- a jump to an address that is no multiple of 4: jal x1, 2
  misaligned_jump : after 1 (0x002000ef ∷ []) [] ≡ only Fault
  -- a jump out of the code: jal x1, 8
  leaves : after 1 (0x008000ef ∷ []) [] ≡ only Spent
  -- the step after it: jal x1, 8
  left : after 2 (0x008000ef ∷ []) [] ≡ only Fault
  -- the last byte of the stack: addi x5, x0, -2; sb x5, 15(x4); lb x11, 15(x4); ecall
  extends_the_sign : after 40 (0xffe00293 ∷ 0x005207a3 ∷ 0x00f20583 ∷ 0x00000073 ∷ []) [] ≡ only (Exit 18446744073709551614)
  -- the high half of a word in the block: addi x5, x0, -2; sw x5, 0(x3); lhu x11, 2(x3); ecall
  extends_with_zeros : after 40 (0xffe00293 ∷ 0x0051a023 ∷ 0x0021d583 ∷ 0x00000073 ∷ []) [] ≡ only (Exit 65535)
  -- local memory, whose bytes are 1 to 8: lui x5, 0x10000; ld x11, 0(x5); ecall
  little_endian : after 40 (0x100002b7 ∷ 0x0002b583 ∷ 0x00000073 ∷ []) [] ≡ only (Exit 0x0807060504030201)
  -- an access whose address is no multiple of its size: lw x11, 2(x4)
  misaligned_load : after 1 (0x00222583 ∷ []) [] ≡ only Fault
  -- an access past the stack, of 16 bytes: sd x5, 16(x4)
  past_the_stack : after 1 (0x00523823 ∷ []) [] ≡ only Fault
  -- and past the block: lb x5, 1024(x3)
  past_the_block : after 1 (0x40018283 ∷ []) [] ≡ only Fault
  -- the globals, of which there are none: lui x5, 0xC000; lb x6, 0(x5)
  no_globals : after 2 (0x0c0002b7 ∷ 0x00028303 ∷ []) [] ≡ only Fault
  -- a store to the window and a load from it: lui x5, 0x40000; addi x6, x0, -2; sh x6, 2(x5); lw x11, 4(x5); ecall
  window : after 40 (0x400002b7 ∷ 0xffe00313 ∷ 0x00629123 ∷ 0x0042a583 ∷ 0x00000073 ∷ []) (Done ∷ Value 0x80000000 ∷ []) ≡ before (Store B2 0x40000002 0xfffe) Done (before (Load B4 0x40000004) (Value 0x80000000) (only (Exit 18446744071562067968)))
  -- LUI extends the sign, so that this address is far above the window: lui x5, 0x80000; lbu x11, -1(x5)
  far_above : after 40 (0x800002b7 ∷ 0xfff2c583 ∷ []) [] ≡ only Fault
  -- the last byte of the window: addi x5, x0, 1; slli x5, x5, 31; lbu x11, -1(x5)
  window_last : after 40 (0x00100293 ∷ 0x01f29293 ∷ 0xfff2c583 ∷ []) [] ≡ only (Asks (Load B1 0x7fffffff))
  -- and the byte after it: addi x5, x0, 1; slli x5, x5, 31; lbu x11, 0(x5)
  past_the_window : after 40 (0x00100293 ∷ 0x01f29293 ∷ 0x0002c583 ∷ []) [] ≡ only Fault
  -- -1 is less than 0 with the sign, and not without: addi x5, x0, -1; blt x5, x0, 8; ebreak; bltu x5, x0, -4; bge x0, x5, 8; ebreak; bgeu x0, x5, -4; ecall
  signed_branch : after 40 (0xfff00293 ∷ 0x0002c463 ∷ 0x00100073 ∷ 0xfe02eee3 ∷ 0x00505463 ∷ 0x00100073 ∷ 0xfe507ee3 ∷ 0x00000073 ∷ []) [] ≡ only (Exit 0)
  -- no reply is left: lui x5, 0x40000; lbu x11, 1(x5)
  no_reply : after 40 (0x400002b7 ∷ 0x0012c583 ∷ []) [] ≡ only (Asks (Load B1 0x40000001))
  -- a reply that is too large: lui x5, 0x40000; lbu x11, 1(x5)
  wide_reply : after 40 (0x400002b7 ∷ 0x0012c583 ∷ []) (Value 256 ∷ []) ≡ only (Stopped (Load B1 0x40000001))
  -- a call of `bc`, whose array is replaced: lui x10, 0x10000; addi x11, x0, 3; addi x12, x10, 4; addi x13, x0, 2; addi x14, x0, 1; addi x17, x0, 1; ecall; ld x11, 0(x10); addi x10, x0, 0; addi x17, x0, 0; ecall
  foreign_call : after 40 (0x10000537 ∷ 0x00300593 ∷ 0x00450613 ∷ 0x00200693 ∷ 0x00100713 ∷ 0x00100893 ∷ 0x00000073 ∷ 0x00053583 ∷ 0x00000513 ∷ 0x00000893 ∷ 0x00000073 ∷ []) (Bytes (10 ∷ 9 ∷ []) ∷ []) ≡ before (Foreign 1 (codes "bc") (1 ∷ 2 ∷ 3 ∷ []) (5 ∷ 6 ∷ [])) (Bytes (10 ∷ 9 ∷ [])) (only (Exit 0x0807090a04030201))
  -- empty buffers at the begin and at the end of local memory: lui x10, 0x10000; addi x12, x10, 8; addi x17, x0, 1; ecall
  empty_buffers : after 40 (0x10000537 ∷ 0x00850613 ∷ 0x00100893 ∷ 0x00000073 ∷ []) [] ≡ only (Asks (Foreign 0 (codes "a") [] []))
  -- a buffer that is not whole in local memory: lui x10, 0x10000; addi x12, x10, 8; addi x13, x0, 1; addi x17, x0, 1; ecall
  long_buffer : after 40 (0x10000537 ∷ 0x00850613 ∷ 0x00100693 ∷ 0x00100893 ∷ 0x00000073 ∷ []) [] ≡ only Fault
  -- a number with no name: lui x10, 0x10000; addi x12, x10, 8; addi x14, x0, 2; addi x17, x0, 1; ecall
  no_name : after 40 (0x10000537 ∷ 0x00850613 ∷ 0x00200713 ∷ 0x00100893 ∷ 0x00000073 ∷ []) [] ≡ only Fault
  -- a call that is none: addi x17, x0, 2; ecall
  other_call : after 40 (0x00200893 ∷ 0x00000073 ∷ []) [] ≡ only Fault
  -- one that only its low half is: addi x17, x0, 1; slli x17, x17, 32; ecall
  whole_register : after 40 (0x00100893 ∷ 0x02089893 ∷ 0x00000073 ∷ []) [] ≡ only Fault
  -- a breakpoint: ebreak
  breakpoint : after 1 (0x00100073 ∷ []) [] ≡ only Fault
  -- an exception leaves main: addi x10, x0, 1; addi x11, x0, 9; ecall
  uncaught : after 40 (0x00100513 ∷ 0x00900593 ∷ 0x00000073 ∷ []) [] ≡ only (Uncaught 9)
  -- the stack was too small: addi x10, x0, 2; ecall
  stack_end : after 40 (0x00200513 ∷ 0x00000073 ∷ []) [] ≡ only Stack

known_runs : KnownRuns
unfolding run step reg plus upper sign_extended place_of decoded r_read i_read s_read l_read b_read j_read jalr_read fence_read sh_read
known_runs = record {
  loops = refl;
  calls = refl;
  links_last = refl;
  drops = refl;
  misaligned_branch = refl;
  misaligned_branch_not_taken = refl;
  misaligned_jump = refl;
  leaves = refl;
  left = refl;
  extends_the_sign = refl;
  extends_with_zeros = refl;
  little_endian = refl;
  misaligned_load = refl;
  past_the_stack = refl;
  past_the_block = refl;
  no_globals = refl;
  window = refl;
  far_above = refl;
  window_last = refl;
  past_the_window = refl;
  signed_branch = refl;
  no_reply = refl;
  wide_reply = refl;
  foreign_call = refl;
  empty_buffers = refl;
  long_buffer = refl;
  no_name = refl;
  other_call = refl;
  whole_register = refl;
  breakpoint = refl;
  uncaught = refl;
  stack_end = refl;
}
