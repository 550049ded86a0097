use Rattle.std.proofs.Common.{◌≡◌, ◌∙◌, ap, sym, subst, inl}
use Rattle.pan_base.specs.Causes.{Rose}
use Rattle.pan_base.specs.Sinks.{SinkState, Took, TookFront}
use Rattle.pan_printer.specs.Canonical.{canonical}
use Rattle.pan_printer.specs.ReadsBack.{Spellable}
use Rattle.pan_command.specs.Outside.{outside}
use Rattle.pan_command.specs.Reading.{SourceRead}
use Rattle.pan_command.proofs.Spelled.{spellable}
use Rattle.pan_command.proofs.showing.show_program.Goals as goal

pub print-requires : goal.print-requires
print-requires g c =
    let q = c.in-Ok.ensures in
    subst Spellable (sym c.program-2.ensures.same) (spellable q.1.0 c.in-Ok.program (q.1.2).checked)

pub returns-in-Ok-put_all : goal.returns-in-Ok-put_all
returns-in-Ok-put_all g c =
    let q = c.in-Ok.ensures in
    let read : SourceRead (outside (g.W.Workspace.state c.args.files.now) (g.O.Sink.state c.args.out.now)) c.args.source.now = record { bytes = q.1.0; held = q.1.1; program = c.in-Ok.program; source = q.1.2 } in
    let same : c.as_slice.result.now ≡ canonical c.in-Ok.program = c.as_slice.ensures ∙ c.in-Ok-print.ensures.text ∙ ap canonical c.program-2.ensures.same in
    let text : Took (g.O.Sink.state c.args.out.now) (g.O.Sink.state c.put_all.new.out) (canonical c.in-Ok.program) =
    subst (λ (o : SinkState). Took o (g.O.Sink.state c.put_all.new.out) (canonical c.in-Ok.program)) q.1.3.out (rw same at c.in-Ok-put_all.ensures.took) in
    (q.0, record { read = read; text = text })

pub returns : goal.returns
returns g c =
    let q = c.in-Ok.ensures in
    let read : SourceRead (outside (g.W.Workspace.state c.args.files.now) (g.O.Sink.state c.args.out.now)) c.args.source.now = record { bytes = q.1.0; held = q.1.1; program = c.in-Ok.program; source = q.1.2 } in
    let same : c.as_slice.result.now ≡ canonical c.in-Ok.program = c.as_slice.ensures ∙ c.in-Ok-print.ensures.text ∙ ap canonical c.program-2.ensures.same in
    let cause : Rose (g.O.Sink.state c.args.out.now).faults (g.O.Sink.state c.put_all.new.out).faults =
    subst (λ (o : SinkState). Rose o.faults (g.O.Sink.state c.put_all.new.out).faults) q.1.3.out c.in-Err-put_all.ensures.cause.failed in
    let text : TookFront (g.O.Sink.state c.args.out.now) (g.O.Sink.state c.put_all.new.out) (canonical c.in-Ok.program) =
    subst (λ (o : SinkState). TookFront o (g.O.Sink.state c.put_all.new.out) (canonical c.in-Ok.program)) q.1.3.out (rw same at c.in-Err-put_all.ensures.took) in
    (q.0, record { cause = cause; text = inl (record { read = read; text = text }) })
