use Rattle.std.proofs.Common.{rules, ◌≡◌, ℕ, List, subst, inr}
use Rattle.pan_base.specs.Causes.{Rose}
use Rattle.pan_base.specs.Sinks.{SinkState, Took, TookFront}
use Rattle.pan_driver.specs.Errors.{source_error}
use Rattle.pan_driver.specs.declared.error.BuildError.TheVariants.{NoMemory}
use Rattle.pan_command.specs.Outside.{outside, Holds}
use Rattle.pan_command.specs.Reading.{source_line}
use Rattle.pan_command.proofs.Refusals.{OneReading, built_so, unbuilt_so}
use Rattle.pan_command.proofs.loading.load_built.Goals as goal

pub returns-in-Ok-build : goal.returns-in-Ok-build
returns-in-Ok-build g c =
    let q = c.in-Ok.ensures in
    let bytes : List ℕ = c.as_slice.result.now in
    let held : Holds (g.W.Workspace.state c.args.files.now).files c.args.name.now bytes = rw c.as_slice.ensures q.1.0 in
    let one : OneReading = record { program = c.one_reading.ensures.program; reason = c.one_reading.ensures.reason; apart = c.one_reading.ensures.apart } in
    let b = c.in-Ok-build in
    (q.0, (bytes, held, built_so one bytes b.built.stages b.built.image b.ensures.chained b.ensures.faithful b.ensures.in_time b.ensures.code b.ensures.bounded, q.1.1))

pub returns-in-Ok-put_source_line : goal.returns-in-Ok-put_source_line
returns-in-Ok-put_source_line g c =
    let q = c.in-Ok.ensures in
    let bytes : List ℕ = c.as_slice.result.now in
    let held : Holds (g.W.Workspace.state c.args.files.now).files c.args.name.now bytes = rw c.as_slice.ensures q.1.0 in
    let one : OneReading = record { program = c.one_reading.ensures.program; reason = c.one_reading.ensures.reason; apart = c.one_reading.ensures.apart } in
    let b = c.in-Err-build in
    let other : b.error ≡ NoMemory → ⊥ = search rules in
    let line : Took (g.O.Sink.state c.args.out.now) (g.O.Sink.state c.put_source_line.new.out) (source_line (source_error b.error)) =
    subst (λ (o : SinkState). Took o (g.O.Sink.state c.put_source_line.new.out) (source_line (source_error b.error))) q.1.1.out (rw c.source_error.ensures at c.in-Ok-put_source_line.ensures.took) in (
      q.0,
      unbuilt_so one (outside (g.W.Workspace.state c.args.files.now) (g.O.Sink.state c.args.out.now)) c.args.name.now bytes held b.error other b.ensures.refused
          (Took (g.O.Sink.state c.args.out.now) (g.O.Sink.state c.put_source_line.new.out)) line,
    )

pub returns : goal.returns
returns g c =
    let q = c.in-Ok.ensures in
    let bytes : List ℕ = c.as_slice.result.now in
    let held : Holds (g.W.Workspace.state c.args.files.now).files c.args.name.now bytes = rw c.as_slice.ensures q.1.0 in
    let one : OneReading = record { program = c.one_reading.ensures.program; reason = c.one_reading.ensures.reason; apart = c.one_reading.ensures.apart } in
    let b = c.in-Err-build in
    let other : b.error ≡ NoMemory → ⊥ = search rules in
    let cause : Rose (g.O.Sink.state c.args.out.now).faults (g.O.Sink.state c.put_source_line.new.out).faults =
    subst (λ (o : SinkState). Rose o.faults (g.O.Sink.state c.put_source_line.new.out).faults) q.1.1.out c.in-Err-put_source_line.ensures.cause.failed in
    let line : TookFront (g.O.Sink.state c.args.out.now) (g.O.Sink.state c.put_source_line.new.out) (source_line (source_error b.error)) =
    subst (λ (o : SinkState). TookFront o (g.O.Sink.state c.put_source_line.new.out) (source_line (source_error b.error))) q.1.1.out (rw c.source_error.ensures at c.in-Err-put_source_line.ensures.took) in
    let refused = unbuilt_so one (outside (g.W.Workspace.state c.args.files.now) (g.O.Sink.state c.args.out.now)) c.args.name.now bytes held b.error other b.ensures.refused
    (TookFront (g.O.Sink.state c.args.out.now) (g.O.Sink.state c.put_source_line.new.out)) line in
    (q.0, (cause, inr refused))
