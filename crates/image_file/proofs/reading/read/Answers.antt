use Rattle.std.proofs.Common.{None, Some, inr, sym, ◌∙◌, arith}
use Rattle.std.proofs.lemmas.Result.{err_from_is_err_and}
use Rattle.image_file.proofs.FaultLaws.{in_header}
use Rattle.image_file.proofs.ReadLaws.{names_fault, end_fault, image_found}
use Rattle.image_file.proofs.reading.read.Goals as goal

pub returns-in_err-header-clause-fault : goal.returns-in_err-header-clause-fault
returns-in_err-header-clause-fault c =
    let p = err_from_is_err_and c.from_residual.result c.from_residual.ensures.1 in
    rw (p.1, p.2) (inr (in_header c.args.bytes.now c.in_err-header.field-0.0 c.in_err-header.ensures.fault))

pub returns-in_err-names-clause-fault : goal.returns-in_err-names-clause-fault
returns-in_err-names-clause-fault c =
    let p = err_from_is_err_and c.from_residual-in_err-names.result c.from_residual-in_err-names.ensures.1 in
    let x = c.parts_of-parts.result in
    rw (p.1, p.2) (names_fault c.args.bytes.now c.in_ok-header.header c.in_ok-header.ensures.right c.in_ok-header.ensures.value x.names.now x.padding.now x.code.now x.tail.now c.parts_of-parts.ensures c.in_err-names.field-0.0 c.in_err-names.ensures.fault)

pub returns-in-Some-clause-fault : goal.returns-in-Some-clause-fault
returns-in-Some-clause-fault c =
    let x = c.parts_of-parts.result in
    inr (end_fault c.args.bytes.now c.in_ok-header.header c.in_ok-header.ensures.right c.in_ok-header.ensures.value x.names.now x.padding.now x.code.now x.tail.now c.parts_of-parts.ensures c.in_ok-names.names c.in_ok-names.left.now (Some c.in-Some.error) c.in_ok-names.ensures.value c.in_ok-names.ensures.right (sym c.in-Some.is ∙ c.wrong_end.ensures))

pub new-requires : goal.new-requires
new-requires c =
    let x = c.parts_of-parts.result in
    let image = image_found c.args.bytes.now c.in_ok-header.header c.in_ok-header.ensures.right c.in_ok-header.ensures.value x.names.now x.padding.now x.code.now x.tail.now c.parts_of-parts.ensures c.in_ok-names.names c.in_ok-names.left.now (λ i. omega (arith, c.type_inv.bytes i)) c.in_ok-names.ensures.value c.in_ok-names.ensures.lawful (sym c.in_default.is ∙ c.wrong_end.ensures) in
    rw (c.in_ok-code.ensures, c.bound_of.ensures) image.lawful

pub returns-clause-found : goal.returns-clause-found
returns-clause-found c =
    let x = c.parts_of-parts.result in
    let image = image_found c.args.bytes.now c.in_ok-header.header c.in_ok-header.ensures.right c.in_ok-header.ensures.value x.names.now x.padding.now x.code.now x.tail.now c.parts_of-parts.ensures c.in_ok-names.names c.in_ok-names.left.now (λ i. omega (arith, c.type_inv.bytes i)) c.in_ok-names.ensures.value c.in_ok-names.ensures.lawful (sym c.in_default.is ∙ c.wrong_end.ensures) in
    rw (c.new.ensures, c.in_ok-code.ensures, c.bound_of.ensures) image

pub returns-clause-right : goal.returns-clause-right
returns-clause-right c =
    let x = c.parts_of-parts.result in
    end_fault c.args.bytes.now c.in_ok-header.header c.in_ok-header.ensures.right c.in_ok-header.ensures.value x.names.now x.padding.now x.code.now x.tail.now c.parts_of-parts.ensures c.in_ok-names.names c.in_ok-names.left.now None c.in_ok-names.ensures.value c.in_ok-names.ensures.right (sym c.in_default.is ∙ c.wrong_end.ensures)
