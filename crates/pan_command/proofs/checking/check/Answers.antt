use Rattle.std.proofs.Common.{rules, inl}
use Rattle.pan_base.specs.Causes.{Rose}
use Rattle.pan_base.specs.Sinks.{Took, TookFront}
use Rattle.pan_tree.specs.Check.{program_weight}
use Rattle.pan_command.specs.Check.{weight_line}
use Rattle.pan_command.specs.Outside.{outside}
use Rattle.pan_command.specs.Reading.{SourceRead}
use Rattle.pan_command.proofs.checking.check.Goals as goal

pub returns-in-Ok-put_weight_line : goal.returns-in-Ok-put_weight_line
returns-in-Ok-put_weight_line g c =
    let q = c.in-Ok.ensures in
    let read : SourceRead (outside (g.W.Workspace.state c.args.files.now) (g.O.Sink.state c.args.out.now)) c.args.source.now =
    record { bytes = q.1.0; held = q.1.1; program = c.in-Ok.program; source = q.1.2 } in
    let line : Took (g.O.Sink.state c.args.out.now) (g.O.Sink.state c.put_weight_line.new.out) (weight_line (program_weight c.in-Ok.program)) = search rules in
    (q.0, record { read = read; line = line })

pub returns : goal.returns
returns g c =
    let q = c.in-Ok.ensures in
    let read : SourceRead (outside (g.W.Workspace.state c.args.files.now) (g.O.Sink.state c.args.out.now)) c.args.source.now =
    record { bytes = q.1.0; held = q.1.1; program = c.in-Ok.program; source = q.1.2 } in
    let cause : Rose (g.O.Sink.state c.args.out.now).faults (g.O.Sink.state c.put_weight_line.new.out).faults = search rules in
    let line : TookFront (g.O.Sink.state c.args.out.now) (g.O.Sink.state c.put_weight_line.new.out) (weight_line (program_weight c.in-Ok.program)) = search rules in
    (q.0, record { cause = cause; line = inl (record { read = read; line = line }) })
