use Rattle.std.proofs.Common.{◌≡◌, ◌∙◌, ap, subst, inl}
use Rattle.pan_base.specs.Causes.{Rose}
use Rattle.pan_base.specs.Sinks.{SinkState, Took, TookFront}
use Rattle.pan_command.specs.Bound.{bound_text}
use Rattle.pan_command.specs.Building.{SourceBuilt}
use Rattle.pan_command.specs.Outside.{outside}
use Rattle.pan_command.proofs.bounding.bound.Goals as goal

pub returns-in-Ok-put_all : goal.returns-in-Ok-put_all
returns-in-Ok-put_all g c =
    let q = c.in-Ok.ensures in
    let s = c.in-Ok.built.stages in
    let built : SourceBuilt (outside (g.W.Workspace.state c.args.files.now) (g.O.Sink.state c.args.out.now)) c.args.source.now = record { bytes = q.1.0; held = q.1.1; stages = s; image = c.in-Ok.built.image; built = q.1.2 } in
    let same : c.as_slice.result.now ≡ bound_text s.checked s.bound =
    c.as_slice.ensures ∙ c.in-Ok-text_of.ensures ∙ ap (λ p. bound_text p c.bound.result.now) (c.program.ensures.same ∙ c.checked.ensures) ∙ ap (bound_text s.checked) c.bound.ensures in
    let text : Took (g.O.Sink.state c.args.out.now) (g.O.Sink.state c.put_all.new.out) (bound_text s.checked s.bound) =
    subst (λ (o : SinkState). Took o (g.O.Sink.state c.put_all.new.out) (bound_text s.checked s.bound)) q.1.3.out (rw same at c.in-Ok-put_all.ensures.took) in
    (q.0, record { built = built; text = text })

pub returns : goal.returns
returns g c =
    let q = c.in-Ok.ensures in
    let s = c.in-Ok.built.stages in
    let built : SourceBuilt (outside (g.W.Workspace.state c.args.files.now) (g.O.Sink.state c.args.out.now)) c.args.source.now = record { bytes = q.1.0; held = q.1.1; stages = s; image = c.in-Ok.built.image; built = q.1.2 } in
    let same : c.as_slice.result.now ≡ bound_text s.checked s.bound =
    c.as_slice.ensures ∙ c.in-Ok-text_of.ensures ∙ ap (λ p. bound_text p c.bound.result.now) (c.program.ensures.same ∙ c.checked.ensures) ∙ ap (bound_text s.checked) c.bound.ensures in
    let cause : Rose (g.O.Sink.state c.args.out.now).faults (g.O.Sink.state c.put_all.new.out).faults =
    subst (λ (o : SinkState). Rose o.faults (g.O.Sink.state c.put_all.new.out).faults) q.1.3.out c.in-Err-put_all.ensures.cause.failed in
    let text : TookFront (g.O.Sink.state c.args.out.now) (g.O.Sink.state c.put_all.new.out) (bound_text s.checked s.bound) =
    subst (λ (o : SinkState). TookFront o (g.O.Sink.state c.put_all.new.out) (bound_text s.checked s.bound)) q.1.3.out (rw same at c.in-Err-put_all.ensures.took) in
    (q.0, record { cause = cause; text = inl (record { built = built; text = text }) })
