use Rattle.pan_lexer.proofs.RefusalLemmas.{one_refusal, lexed_no_refusal}
use Rattle.pan_lexer.proofs.laws.one_refusal.Goals as goal

pub returns-clause-reason : goal.returns-clause-reason
returns-clause-reason c = one_refusal

pub returns-clause-apart : goal.returns-clause-apart
returns-clause-apart c = lexed_no_refusal
