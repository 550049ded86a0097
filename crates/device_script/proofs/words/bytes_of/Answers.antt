use Rattle.std.proofs.Common.{◌≡◌, ℕ, List, false, codes, Ok, Err, sym, ap, ◌∙◌, subst}
use Rattle.std.specs.Str.{bytes_eq}
use Rattle.device_script.specs.Saying.{hex_said}
use Rattle.device_script.specs.Told.{Tells}
use Rattle.device_script.specs.declared.error.LineError.{LineError}
use Rattle.device_script.proofs.SayingLemmas.{hex_ok, hex_told}
use Rattle.device_script.proofs.words.bytes_of.Goals as goal

pub returns-in-Ok : goal.returns-in-Ok
returns-in-Ok c =
    let some : bytes_eq c.args.word.now (codes "-") ≡ false = ap (bytes_eq c.args.word.now) (sym c.as_slice.ensures) ∙ sym c.eq.ensures ∙ c.if-eq.false in
    hex_ok c.args.word.now c.in-Ok.bytes.items some c.in-Ok.ensures.ok ∙ ap Ok (sym c.from_vec-in-Ok.ensures)

pub returns-in-Err : goal.returns-in-Err
returns-in-Err c =
    let some : bytes_eq c.args.word.now (codes "-") ≡ false = ap (bytes_eq c.args.word.now) (sym c.as_slice.ensures) ∙ sym c.eq.ensures ∙ c.if-eq.false in
    subst (λ (e : LineError). Tells {X = List ℕ} (Err e) (hex_said c.args.word.now)) (sym c.refusal_of.ensures) (hex_told c.args.word.now c.in-Err.error some c.in-Err.ensures.err)
