use Rattle.std.proofs.Common.{Err, sym, ap, ◌∙◌, inl, inr, subst}
use Rattle.pan_parser.specs.Answers as parser
use Rattle.front_end.specs.declared.error.SourceError.{SourceError}
use Rattle.front_end.proofs.Reasons.{no_error, is_shaped, reasons, handed, accepted_so, first_told}
use Rattle.front_end.proofs.reading.read_program.Goals as goal

pub returns-in_err-checked-clause-passes : goal.returns-in_err-checked-clause-passes
returns-in_err-checked-clause-passes c = λ program s.
    let shaped = is_shaped _ _ _ c.in_ok-tokens.ensures.lexed c.in_ok-program.ensures.only program s in
    let none = accepted_so c.in_err-checked.field-0.0 (c.in_err-checked.ensures.accepted shaped) in
    inr (handed _ _ c.from_residual-in_err-checked.ensures.1 ∙ ap (λ (e : SourceError). Err e) none)

pub returns-in_err-checked-clause-exact : goal.returns-in_err-checked-clause-exact
returns-in_err-checked-clause-exact c = λ e unchecked.
    let why = reasons _ _ _ c.in_ok-tokens.ensures.lexed c.in_ok-program.ensures.only
    (λ e h. no_error _ _ _ (c.in_ok-tokens.ensures.stuck e h))
    (λ e h. no_error _ _ _ (c.in_ok-program.ensures.exact e (subst (λ n. parser.Refusal c.in_ok-tokens.tokens.tokens n e) (sym c.in_ok-tokens.ensures.source) h))) e unchecked in
    let told = handed _ _ c.from_residual-in_err-checked.ensures.1 in
    elim (first_told c.in_ok-program.program c.in_err-checked.field-0.0 why.0 c.in_err-checked.ensures.refused why.2) [
      | inl same ↦ inl (told ∙ ap (λ (e : SourceError). Err e) (same ∙ sym why.1))
      | inr none ↦ inr (told ∙ ap (λ (e : SourceError). Err e) none)
    ]
