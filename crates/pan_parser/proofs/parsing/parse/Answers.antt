use Rattle.std.proofs.lemmas.Result.{err_from_is_err_and}
use Rattle.pan_parser.proofs.Places.{refusal_at, no_halt}
use Rattle.pan_parser.proofs.Answered.{one_answer}
use Rattle.pan_parser.proofs.Exact.{refused_answer, tree_no_refusal}
use Rattle.pan_parser.proofs.parsing.parse.Goals as goal

pub returns-in_err-program : goal.returns-in_err-program
returns-in_err-program c =
    let p = err_from_is_err_and c.from_residual.result c.from_residual.ensures.1 in
    rw (p.1, p.2) (record {
      tree = tt;
      lawful = tt;
      only = λ p d. no_halt c.args.tokens.now.tokens c.args.tokens.now.source_len _ p d c.in_err-program.ensures.err;
      refused = refusal_at c.args.tokens.now.tokens c.args.tokens.now.source_len _ c.in_err-program.ensures.err;
      exact = λ e r. refused_answer c.args.tokens.now.tokens c.args.tokens.now.source_len _ e c.in_err-program.ensures.err r;
    })

pub returns-clause-only : goal.returns-clause-only
returns-clause-only c = λ p d. one_answer c.args.tokens.now.tokens c.in_ok-program.program p c.in_ok-program.ensures.tree d

pub returns-clause-exact : goal.returns-clause-exact
returns-clause-exact c = λ e r. absurd (tree_no_refusal c.args.tokens.now.tokens c.args.tokens.now.source_len c.in_ok-program.program e c.in_ok-program.ensures.tree r)
