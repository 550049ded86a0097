use Rattle.std.proofs.Common.{ℕ, List, sym, subst}
use Rattle.command_words.specs.declared.order.Action.{Action}
use Rattle.command_words.specs.declared.order.Options.{Options}
use Rattle.pan_command.specs.declared.status.Status.{Status}
use Rattle.pan_command.specs.Outside.{Call, the_call}
use Rattle.pan_command.specs.Run.{RunEnds}
use Rattle.pan_command.specs.Meaning.{MeaningEnds}
use Rattle.pan_command.specs.Command.{ActionEnds}
use Rattle.pan_command.proofs.command.perform.Goals as goal

pub returns-in-Run : goal.returns-in-Run
returns-in-Run g c =
    let options : Options = c.args.order.now.options in
    let call : Call = the_call (g.W.Workspace.state c.args.files.now) (g.O.Sink.state c.args.out.now) (g.W.Workspace.state c.run.new.files) (g.O.Sink.state c.run.new.out) in
    let s : Status = c.run.result in
    let first = subst (λ (n : List ℕ). RunEnds options n c.as_str-in-Run-2.result.now call s) c.as_str-in-Run.ensures c.run.ensures in
    let second = subst (λ (n : List ℕ). RunEnds options c.in-Run.image n call s) c.as_str-in-Run-2.ensures first in
    subst (λ (a : Action). ActionEnds a options call s) (sym c.in-Run.is) second

pub returns-in-Meaning : goal.returns-in-Meaning
returns-in-Meaning g c =
    let options : Options = c.args.order.now.options in
    let call : Call = the_call (g.W.Workspace.state c.args.files.now) (g.O.Sink.state c.args.out.now) (g.W.Workspace.state c.meaning.new.files) (g.O.Sink.state c.meaning.new.out) in
    let s : Status = c.meaning.result in
    let first = subst (λ (n : List ℕ). MeaningEnds options n c.as_str-in-Meaning-2.result.now call s) c.as_str-in-Meaning.ensures c.meaning.ensures in
    let second = subst (λ (n : List ℕ). MeaningEnds options c.in-Meaning.source n call s) c.as_str-in-Meaning-2.ensures first in
    subst (λ (a : Action). ActionEnds a options call s) (sym c.in-Meaning.is) second
