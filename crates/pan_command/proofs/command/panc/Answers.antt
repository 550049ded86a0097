use Rattle.std.proofs.Common.{sym, ◌∙◌}
use Rattle.command_words.specs.declared.order.Action.TheVariants.{Compile, Check, Run, Meaning, Show, Dis, Bound}
use Rattle.pan_command.proofs.Keeping.{compile_keeps, check_keeps, run_keeps, meaning_keeps, show_keeps, dis_keeps, bound_keeps}
use Rattle.pan_command.proofs.WordsGiven.{acts, usage_at, unlawful_at, failed_at}
use Rattle.pan_command.proofs.command.panc.Goals as goal

pub returns-clause-failed : goal.returns-clause-failed
returns-clause-failed g c = λ seven. failed_at c.args.words.now _ c.act.result c.act.ensures (sym c.code.ensures ∙ seven)

pub returns-clause-usage : goal.returns-clause-usage
returns-clause-usage g c = λ two. usage_at c.args.words.now _ c.act.result c.act.ensures (sym c.code.ensures ∙ two)

pub returns-clause-usage_complete : goal.returns-clause-usage_complete
returns-clause-usage_complete g c = λ unlawful. rw c.code.ensures (unlawful_at c.args.words.now _ c.act.result c.act.ensures unlawful)

pub returns-clause-compile : goal.returns-clause-compile
returns-clause-compile g c = λ source image options given.
    rw c.code.ensures (compile_keeps source image _ c.act.result (acts c.args.words.now _ (Compile source image) options c.act.result given c.act.ensures))

pub returns-clause-check : goal.returns-clause-check
returns-clause-check g c = λ source options given.
    rw c.code.ensures (check_keeps source _ c.act.result (acts c.args.words.now _ (Check source) options c.act.result given c.act.ensures))

pub returns-clause-run : goal.returns-clause-run
returns-clause-run g c = λ image script options given.
    rw c.code.ensures (run_keeps options image script _ c.act.result (acts c.args.words.now _ (Run image script) options c.act.result given c.act.ensures))

pub returns-clause-meaning : goal.returns-clause-meaning
returns-clause-meaning g c = λ source script options given.
    rw c.code.ensures (meaning_keeps options source script _ c.act.result (acts c.args.words.now _ (Meaning source script) options c.act.result given c.act.ensures))

pub returns-clause-show : goal.returns-clause-show
returns-clause-show g c = λ source options given.
    rw c.code.ensures (show_keeps options.stage source _ c.act.result (acts c.args.words.now _ (Show source) options c.act.result given c.act.ensures))

pub returns-clause-dis : goal.returns-clause-dis
returns-clause-dis g c = λ image options given.
    rw c.code.ensures (dis_keeps image _ c.act.result (acts c.args.words.now _ (Dis image) options c.act.result given c.act.ensures))

pub returns-clause-bound : goal.returns-clause-bound
returns-clause-bound g c = λ source options given.
    rw c.code.ensures (bound_keeps source _ c.act.result (acts c.args.words.now _ (Bound source) options c.act.result given c.act.ensures))
