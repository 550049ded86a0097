use Rattle.std.specs.Prelude.{map}
use Rattle.std.proofs.lemmas.Result.{err_from_is_err_and}
use Rattle.pan_base.specs.Tokens.{placed}
use Rattle.pan_lexer.proofs.RefusalLemmas.{error_lexed, error_answers, lexed_no_refusal, lexed_lawful}
use Rattle.pan_lexer.proofs.RowLemmas.{one_row}
use Rattle.pan_lexer.proofs.lexing.lex.Goals as goal

pub returns-in_err-tokens-clause-lexed : goal.returns-in_err-tokens-clause-lexed
returns-in_err-tokens-clause-lexed c =
    let p = err_from_is_err_and c.from_residual.result c.from_residual.ensures.1 in
    rw (p.1, p.2) (λ row lexes short. error_lexed c.args.bytes.now c.in_err-tokens.field-0.0 c.in_err-tokens.ensures.err row lexes)

pub returns-in_err-tokens-clause-stuck : goal.returns-in_err-tokens-clause-stuck
returns-in_err-tokens-clause-stuck c =
    let p = err_from_is_err_and c.from_residual.result c.from_residual.ensures.1 in
    rw (p.1, p.2) (λ e refusal. error_answers c.args.bytes.now c.in_err-tokens.field-0.0 c.if-bytes-gt-MAX_SOURCE_LEN.false c.in_err-tokens.ensures.err e refusal)

pub new-requires : goal.new-requires
new-requires c = lexed_lawful c.args.bytes.now (map placed c.in_ok-tokens.tokens) c.if-bytes-gt-MAX_SOURCE_LEN.false c.in_ok-tokens.ensures.ok

pub returns-clause-lexed : goal.returns-clause-lexed
returns-clause-lexed c = λ row lexes short. rw c.new.ensures (one_row c.args.bytes.now (map placed c.in_ok-tokens.tokens) row c.in_ok-tokens.ensures.ok lexes)

pub returns-clause-stuck : goal.returns-clause-stuck
returns-clause-stuck c = λ e refusal. absurd (lexed_no_refusal c.args.bytes.now (map placed c.in_ok-tokens.tokens) c.if-bytes-gt-MAX_SOURCE_LEN.false c.in_ok-tokens.ensures.ok e refusal)
