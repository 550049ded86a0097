use Rattle.std.proofs.Common.{rules, ◌≡◌, ℕ, List, inr, refl}
use Rattle.pan_base.specs.Causes.{Rose}
use Rattle.pan_base.specs.Sinks.{Took, TookFront}
use Rattle.image_file.specs.declared.error.ImageError.TheVariants.{NoMemory}
use Rattle.pan_command.specs.Outside.{outside, Holds}
use Rattle.pan_command.specs.Run.{image_line}
use Rattle.pan_command.proofs.Refusals.{image_so, no_image_so}
use Rattle.pan_command.proofs.loading.load_image.Goals as goal

pub returns-in-Ok-read_image : goal.returns-in-Ok-read_image
returns-in-Ok-read_image g c =
    let q = c.in-Ok.ensures in
    let bytes : List ℕ = c.as_slice.result.now in
    let held : Holds (g.W.Workspace.state c.args.files.now).files c.args.name.now bytes = rw c.as_slice.ensures q.1.0 in
    let read = c.in-Ok-read_image in
    (q.0, (bytes, held, image_so bytes read.image read.ensures.ok (read.ensures.complete), q.1.1))

pub returns-in-Ok-put_image_line : goal.returns-in-Ok-put_image_line
returns-in-Ok-put_image_line g c =
    let q = c.in-Ok.ensures in
    let bytes : List ℕ = c.as_slice.result.now in
    let held : Holds (g.W.Workspace.state c.args.files.now).files c.args.name.now bytes = rw c.as_slice.ensures q.1.0 in
    let read = c.in-Err-read_image in
    let other : read.fault ≡ NoMemory → ⊥ = search rules in
    let line : Took (g.O.Sink.state c.args.out.now) (g.O.Sink.state c.put_image_line.new.out) (image_line read.fault) = search rules in (
      q.0,
      no_image_so (outside (g.W.Workspace.state c.args.files.now) (g.O.Sink.state c.args.out.now)) c.args.name.now bytes read.fault held other
          (read.ensures.faults read.fault refl other) (read.ensures.complete) (Took (g.O.Sink.state c.args.out.now) (g.O.Sink.state c.put_image_line.new.out)) line,
    )

pub returns : goal.returns
returns g c =
    let q = c.in-Ok.ensures in
    let bytes : List ℕ = c.as_slice.result.now in
    let held : Holds (g.W.Workspace.state c.args.files.now).files c.args.name.now bytes = rw c.as_slice.ensures q.1.0 in
    let read = c.in-Err-read_image in
    let other : read.fault ≡ NoMemory → ⊥ = search rules in
    let cause : Rose (g.O.Sink.state c.args.out.now).faults (g.O.Sink.state c.put_image_line.new.out).faults = search rules in
    let line : TookFront (g.O.Sink.state c.args.out.now) (g.O.Sink.state c.put_image_line.new.out) (image_line read.fault) = search rules in
    let wrong = no_image_so (outside (g.W.Workspace.state c.args.files.now) (g.O.Sink.state c.args.out.now)) c.args.name.now bytes read.fault held other
    (read.ensures.faults read.fault refl other) (read.ensures.complete) (TookFront (g.O.Sink.state c.args.out.now) (g.O.Sink.state c.put_image_line.new.out)) line in
    (q.0, (cause, inr wrong))
