use Rattle.std.proofs.Common.{◌≡◌, ◌∙◌, ap, subst, inl}
use Rattle.pan_base.specs.Causes.{Rose}
use Rattle.pan_base.specs.Sinks.{SinkState, Took, TookFront}
use Rattle.riscv_isa.specs.declared.code.Code.{Code}
use Rattle.code_listing.specs.Listing.{listing}
use Rattle.pan_command.specs.Building.{SourceBuilt}
use Rattle.pan_command.specs.Outside.{outside}
use Rattle.pan_command.proofs.showing.show_code.Goals as goal

pub returns-in-Ok-put_listing : goal.returns-in-Ok-put_listing
returns-in-Ok-put_listing g c =
    let q = c.in-Ok.ensures in
    let built : SourceBuilt (outside (g.W.Workspace.state c.args.files.now) (g.O.Sink.state c.args.out.now)) c.args.source.now = record { bytes = q.1.0; held = q.1.1; stages = c.in-Ok.built.stages; image = c.in-Ok.built.image; built = q.1.2 } in
    let same : c.as_slice.result.now ≡ c.in-Ok.built.stages.code.bytes = c.as_slice.ensures ∙ ap (λ (k : Code). k.bytes) c.code.ensures in
    let text : Took (g.O.Sink.state c.args.out.now) (g.O.Sink.state c.put_listing.new.out) (listing c.in-Ok.built.stages.code.bytes) =
    subst (λ (o : SinkState). Took o (g.O.Sink.state c.put_listing.new.out) (listing c.in-Ok.built.stages.code.bytes)) q.1.3.out (rw same at c.in-Ok-put_listing.ensures.took) in
    (q.0, record { built = built; text = text })

pub returns : goal.returns
returns g c =
    let q = c.in-Ok.ensures in
    let built : SourceBuilt (outside (g.W.Workspace.state c.args.files.now) (g.O.Sink.state c.args.out.now)) c.args.source.now = record { bytes = q.1.0; held = q.1.1; stages = c.in-Ok.built.stages; image = c.in-Ok.built.image; built = q.1.2 } in
    let same : c.as_slice.result.now ≡ c.in-Ok.built.stages.code.bytes = c.as_slice.ensures ∙ ap (λ (k : Code). k.bytes) c.code.ensures in
    let cause : Rose (g.O.Sink.state c.args.out.now).faults (g.O.Sink.state c.put_listing.new.out).faults =
    subst (λ (o : SinkState). Rose o.faults (g.O.Sink.state c.put_listing.new.out).faults) q.1.3.out c.in-Err-put_listing.ensures.cause.failed in
    let text : TookFront (g.O.Sink.state c.args.out.now) (g.O.Sink.state c.put_listing.new.out) (listing c.in-Ok.built.stages.code.bytes) =
    subst (λ (o : SinkState). TookFront o (g.O.Sink.state c.put_listing.new.out) (listing c.in-Ok.built.stages.code.bytes)) q.1.3.out (rw same at c.in-Err-put_listing.ensures.took) in
    (q.0, record { cause = cause; text = inl (record { built = built; text = text }) })
