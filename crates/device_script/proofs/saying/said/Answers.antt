use Rattle.std.proofs.Common.{◌≡◌, false, codes, sym, ap, ◌∙◌}
use Rattle.std.specs.Str.{bytes_eq}
use Rattle.device_script.specs.Lines.{words}
use Rattle.device_script.proofs.SayingLemmas.{unknown_word}
use Rattle.device_script.proofs.saying.said.Goals as goal

pub returns-else-eq-6 : goal.returns-else-eq-6
returns-else-eq-6 c =
    let first = c.in-Some.first.now in
    let memory : bytes_eq first (codes "memory") ≡ false = ap (bytes_eq first) (sym c.as_slice.ensures) ∙ sym c.eq.ensures ∙ c.if-eq.false in
    let register : bytes_eq first (codes "register") ≡ false = ap (bytes_eq first) (sym c.as_slice-else-eq.ensures) ∙ sym c.eq-else-eq.ensures ∙ c.if-eq-2.false in
    let queue : bytes_eq first (codes "queue") ≡ false = ap (bytes_eq first) (sym c.as_slice-else-eq-2.ensures) ∙ sym c.eq-else-eq-2.ensures ∙ c.if-eq-3.false in
    let counter : bytes_eq first (codes "counter") ≡ false = ap (bytes_eq first) (sym c.as_slice-else-eq-3.ensures) ∙ sym c.eq-else-eq-3.ensures ∙ c.if-eq-4.false in
    let collector : bytes_eq first (codes "collector") ≡ false = ap (bytes_eq first) (sym c.as_slice-else-eq-4.ensures) ∙ sym c.eq-else-eq-4.ensures ∙ c.if-eq-5.false in
    let foreign : bytes_eq first (codes "foreign") ≡ false = ap (bytes_eq first) (sym c.as_slice-else-eq-5.ensures) ∙ sym c.eq-else-eq-5.ensures ∙ c.if-eq-6.false in
    unknown_word (words c.args.line.now) first (words c.in-Some.rest.now) c.in-Some.ensures.word (sym c.starts_with.ensures.value ∙ c.if-starts_with.false) memory register queue counter collector foreign
