use Rattle.pan_command.specs.Building.{SourceBuilt}
use Rattle.pan_command.specs.Outside.{Outside, outside, the_call}
use Rattle.pan_command.proofs.Loaded.{compile_unbuilt}
use Rattle.pan_command.proofs.Storing.{compile_ends}
use Rattle.pan_command.proofs.compiling.compile.Goals as goal

pub returns-in-Err : goal.returns-in-Err
returns-in-Err g c =
    let q = c.in-Err.ensures in
    compile_unbuilt (the_call (g.W.Workspace.state c.args.files.now) (g.O.Sink.state c.args.out.now) (g.W.Workspace.state c.load_built.new.files) (g.O.Sink.state c.load_built.new.out))
    c.args.source.now c.args.image.now c.in-Err.status q.0 q.1

pub returns : goal.returns
returns g c =
    let q = c.in-Ok.ensures in
    let before : Outside = outside (g.W.Workspace.state c.args.files.now) (g.O.Sink.state c.args.out.now) in
    let mid : Outside = outside (g.W.Workspace.state c.load_built.new.files) (g.O.Sink.state c.load_built.new.out) in
    let after : Outside = outside (g.W.Workspace.state c.store.new.files) (g.O.Sink.state c.store.new.out) in
    let made : SourceBuilt before c.args.source.now = record { bytes = q.1.0; held = q.1.1; stages = c.in-Ok.built.stages; image = c.in-Ok.built.image; built = q.1.2 } in
    compile_ends before mid after c.args.source.now c.args.image.now made q.0 q.1.3.writes q.1.3.out c.store.result (rw c.bytes.ensures at (rw c.image.ensures at c.store.ensures))
