use Rattle.riscv_isa.specs.Image.{ImageOf}
use Rattle.image_file.specs.Parts.{parts_of}
use Rattle.image_file.proofs.laws.read_written.Goals as goal

pub returns : goal.returns
returns c =
    let image : ImageOf c.as_slice.result.now (parts_of c.args.code.now c.args.names.now c.args.bound) = rw c.as_slice.ensures c.in_ok-image.ensures in
    c.read_image.ensures.complete (parts_of c.args.code.now c.args.names.now c.args.bound) image
