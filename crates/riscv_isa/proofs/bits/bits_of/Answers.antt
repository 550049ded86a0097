use Rattle.std.proofs.Common.{◌≡◌, ◌*◌, ◌^◌, ◌%◌, arith, refl}
use Rattle.std.proofs.lemmas.Nat.{one_shl, and_mask, pow_pos}
use Rattle.riscv_isa.proofs.bits.bits_of.Goals as goal

pub returns : goal.returns
returns c =
    let e : 1 * 2 ^ c.args.count % 4294967296 ≡ 2 ^ c.args.count = one_shl c.args.count 32 c.requires.count in
    rw (e, and_mask _ c.args.count) (record { value = refl; bound = omega (arith, pow_pos c.args.count) })
