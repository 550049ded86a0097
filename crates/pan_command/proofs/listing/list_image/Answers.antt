use Rattle.std.proofs.Common.{subst, inl}
use Rattle.pan_base.specs.Causes.{Rose}
use Rattle.pan_base.specs.Sinks.{SinkState, Took, TookFront}
use Rattle.code_listing.specs.Listing.{listing}
use Rattle.pan_command.specs.Outside.{outside}
use Rattle.pan_command.specs.Reading.{ImageRead}
use Rattle.pan_command.proofs.listing.list_image.Goals as goal

pub returns-in-Ok-put_listing : goal.returns-in-Ok-put_listing
returns-in-Ok-put_listing g c =
    let q = c.in-Ok.ensures in
    let read : ImageRead (outside (g.W.Workspace.state c.args.files.now) (g.O.Sink.state c.args.out.now)) c.args.image.now = record { bytes = q.1.0; held = q.1.1; parts = c.in-Ok.loaded; image = q.1.2 } in
    let text : Took (g.O.Sink.state c.args.out.now) (g.O.Sink.state c.put_listing.new.out) (listing c.in-Ok.loaded.code) =
    subst (λ (o : SinkState). Took o (g.O.Sink.state c.put_listing.new.out) (listing c.in-Ok.loaded.code)) q.1.3.out (rw c.code.ensures.code at c.in-Ok-put_listing.ensures.took) in
    (q.0, record { read = read; text = text })

pub returns : goal.returns
returns g c =
    let q = c.in-Ok.ensures in
    let read : ImageRead (outside (g.W.Workspace.state c.args.files.now) (g.O.Sink.state c.args.out.now)) c.args.image.now = record { bytes = q.1.0; held = q.1.1; parts = c.in-Ok.loaded; image = q.1.2 } in
    let cause : Rose (g.O.Sink.state c.args.out.now).faults (g.O.Sink.state c.put_listing.new.out).faults =
    subst (λ (o : SinkState). Rose o.faults (g.O.Sink.state c.put_listing.new.out).faults) q.1.3.out c.in-Err-put_listing.ensures.cause.failed in
    let text : TookFront (g.O.Sink.state c.args.out.now) (g.O.Sink.state c.put_listing.new.out) (listing c.in-Ok.loaded.code) =
    subst (λ (o : SinkState). TookFront o (g.O.Sink.state c.put_listing.new.out) (listing c.in-Ok.loaded.code)) q.1.3.out (rw c.code.ensures.code at c.in-Err-put_listing.ensures.took) in
    (q.0, record { cause = cause; text = inl (record { read = read; text = text }) })
