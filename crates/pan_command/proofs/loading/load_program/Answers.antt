use Rattle.std.proofs.Common.{rules, ◌≡◌, ℕ, List, inr}
use Rattle.pan_base.specs.Causes.{Rose}
use Rattle.pan_base.specs.Sinks.{Took, TookFront}
use Rattle.front_end.specs.declared.error.SourceError.TheVariants.{NoMemory}
use Rattle.pan_command.specs.Reading.{source_line}
use Rattle.pan_command.specs.Outside.{outside, Holds}
use Rattle.pan_command.proofs.Refusals.{source_so, unpassed_so}
use Rattle.pan_command.proofs.loading.load_program.Goals as goal

pub returns-in-Ok-read_program : goal.returns-in-Ok-read_program
returns-in-Ok-read_program g c =
    let q = c.in-Ok.ensures in
    let bytes : List ℕ = c.as_slice.result.now in
    let held : Holds (g.W.Workspace.state c.args.files.now).files c.args.name.now bytes = rw c.as_slice.ensures q.1.0 in
    let read = c.in-Ok-read_program in
    (q.0, (bytes, held, source_so bytes read.program read.ensures.checked read.ensures.passes read.ensures.exact, q.1.1))

pub returns-in-Ok-put_source_line : goal.returns-in-Ok-put_source_line
returns-in-Ok-put_source_line g c =
    let q = c.in-Ok.ensures in
    let bytes : List ℕ = c.as_slice.result.now in
    let held : Holds (g.W.Workspace.state c.args.files.now).files c.args.name.now bytes = rw c.as_slice.ensures q.1.0 in
    let read = c.in-Err-read_program in
    let other : read.error ≡ NoMemory → ⊥ = search rules in
    let line : Took (g.O.Sink.state c.args.out.now) (g.O.Sink.state c.put_source_line.new.out) (source_line read.error) = search rules in (
      q.0,
      unpassed_so (outside (g.W.Workspace.state c.args.files.now) (g.O.Sink.state c.args.out.now)) c.args.name.now bytes held
          (Took (g.O.Sink.state c.args.out.now) (g.O.Sink.state c.put_source_line.new.out)) read.error other read.ensures.refused read.ensures.passes read.ensures.exact line,
    )

pub returns : goal.returns
returns g c =
    let q = c.in-Ok.ensures in
    let bytes : List ℕ = c.as_slice.result.now in
    let held : Holds (g.W.Workspace.state c.args.files.now).files c.args.name.now bytes = rw c.as_slice.ensures q.1.0 in
    let read = c.in-Err-read_program in
    let other : read.error ≡ NoMemory → ⊥ = search rules in
    let cause : Rose (g.O.Sink.state c.args.out.now).faults (g.O.Sink.state c.put_source_line.new.out).faults = search rules in
    let line : TookFront (g.O.Sink.state c.args.out.now) (g.O.Sink.state c.put_source_line.new.out) (source_line read.error) = search rules in
    let unpassed = unpassed_so (outside (g.W.Workspace.state c.args.files.now) (g.O.Sink.state c.args.out.now)) c.args.name.now bytes held
    (TookFront (g.O.Sink.state c.args.out.now) (g.O.Sink.state c.put_source_line.new.out)) read.error other read.ensures.refused read.ensures.passes read.ensures.exact line in
    (q.0, (cause, inr unpassed))
