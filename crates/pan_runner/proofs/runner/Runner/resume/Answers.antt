use Rattle.std.proofs.Common.{sym, ap, ◌∙◌}
use Rattle.pan_base.specs.Events.{replied}
use Rattle.pan_base.specs.declared.events.Reply.{Reply}
use Rattle.pan_runner.specs.Machine.{Next, Leave, Runs, variables_after, memory_after}
use Rattle.source_resolver.specs.Slots.{assigned}
use Rattle.pan_runner.specs.Runner.{variables_of, frames_of}
use Rattle.pan_runner.proofs.ToldLayers.{told_word}
use Rattle.pan_runner.specs.View.{pending_of}
use Rattle.pan_runner.specs.declared.questions.Question.{Question}
use Rattle.pan_runner.specs.declared.questions.Question.TheVariants as question
use Rattle.pan_runner.proofs.runner.Runner.resume.Goals as goal

pub returns-in-Load-Value-clause-config : goal.returns-in-Load-Value-clause-config
returns-in-Load-Value-clause-config c =
    let r = c.args.self.now in
    let load = question.Load c.in-Load-Value.size-0 c.in-Load-Value.place c.in-Load-Value.addr-0 in
    let after = λ (q : Question) (x : Reply). Runs (Leave (Next (variables_after (pending_of q r.memory) (replied x) (variables_of r)))) (frames_of r) (memory_after (pending_of q r.memory) (replied x) r.memory) in
    ap (λ u. Runs (Leave (Next u)) (frames_of r) r.memory) (c.assign.ensures ∙ ap (λ a. assigned c.in-Load-Value.place a (variables_of r)) (told_word c.in-Load-Value.n))
    ∙ sym (ap (λ q. after q c.args.reply) c.in-Load-Value.is-0 ∙ ap (after load) c.in-Load-Value.is-1)
