use Rattle.std.proofs.Common.{◌≡◌, ◌*◌, ◌^◌, ◌%◌, arith}
use Rattle.std.proofs.lemmas.Nat.{or_shifted}
use Rattle.riscv_isa.proofs.bits.join.Goals as goal

pub returns : goal.returns
returns c =
    let e : c.args.high * 2 ^ c.args.count % 4294967296 ≡ c.args.high * 2 ^ c.args.count = omega (arith, c.requires.fits) in
    rw e (or_shifted c.args.high c.args.count c.args.low c.requires.low)
