use Rattle.std.proofs.Common.{sym, ap, ◌∙◌}
use Rattle.device_script.specs.Lines.{words}
use Rattle.device_script.specs.Saying.{numbers_said}
use Rattle.device_script.proofs.SayingLemmas.{one_more, after_values}
use Rattle.device_script.proofs.saying.values.Goals as goal

pub words-preserved : goal.words-preserved
words-preserved c =
    one_more (numbers_said (words c.args.rest.now)) c.words.values (words c.words.rest.now) c.in-Some.word.now (words c.in-Some.after.now) c.in_ok-number_of.field-0 c.words.invariant c.in-Some.ensures.word (sym c.number_of.ensures ∙ c.in_ok-number_of.was)
    ∙ ap (λ vs. after_values vs (numbers_said (words c.in-Some.after.now))) (sym c.in_ok-push.ensures)
