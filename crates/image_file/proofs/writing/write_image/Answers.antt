use Rattle.std.proofs.Common.{rules}
use Rattle.riscv_isa.specs.Image.{IsLawfulImage}
use Rattle.image_file.specs.Parts.{parts_of}
use Rattle.image_file.proofs.NameLemmas.{names_are_short, lawful_image}
use Rattle.image_file.proofs.writing.write_image.Goals as goal

pub names_part_of-requires : goal.names_part_of-requires
names_part_of-requires c = rw c.as_slice-names.ensures (names_are_short c.args.names.now.list c.args.names.now.lawful.named)

pub overflow_cast-len : goal.overflow_cast-len
overflow_cast-len c =
    let image : IsLawfulImage (parts_of c.args.code.now c.args.names.now c.args.bound) = lawful_image c.args.code.now.bytes c.args.names.now.list c.args.bound c.args.code.now.lawful c.args.names.now.lawful c.requires in
    let most = image.part in
    search rules

pub join-requires-clause-part : goal.join-requires-clause-part
join-requires-clause-part c =
    let image : IsLawfulImage (parts_of c.args.code.now c.args.names.now c.args.bound) = lawful_image c.args.code.now.bytes c.args.names.now.list c.args.bound c.args.code.now.lawful c.args.names.now.lawful c.requires in
    let most = image.part in
    search rules

pub returns : goal.returns
returns c =
    let image : IsLawfulImage (parts_of c.args.code.now c.args.names.now c.args.bound) = lawful_image c.args.code.now.bytes c.args.names.now.list c.args.bound c.args.code.now.lawful c.args.names.now.lawful c.requires in
    search rules
