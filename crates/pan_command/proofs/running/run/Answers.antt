use Rattle.pan_command.specs.Outside.{Outside, outside}
use Rattle.pan_command.specs.Reading.{ImageRead, ScriptRead}
use Rattle.pan_command.proofs.Following.{same_after, quiet_after, read_before}
use Rattle.pan_command.proofs.RunEnding.{script_ends, go_ends}
use Rattle.pan_command.proofs.running.run.Goals as goal

pub returns-in-Err-load_script : goal.returns-in-Err-load_script
returns-in-Err-load_script g c =
    let q = c.in-Ok.ensures in
    let r = c.in-Err-load_script.ensures in
    let before : Outside = outside (g.W.Workspace.state c.args.files.now) (g.O.Sink.state c.args.out.now) in
    let mid : Outside = outside (g.W.Workspace.state c.load_image.new.files) (g.O.Sink.state c.load_image.new.out) in
    let after : Outside = outside (g.W.Workspace.state c.load_script.new.files) (g.O.Sink.state c.load_script.new.out) in
    let read : ImageRead before c.args.image.now = record { bytes = q.1.0; held = q.1.1; parts = c.in-Ok.loaded; image = q.1.2 } in
    (same_after _ _ _ q.0 r.0, script_ends c.args.options before mid after c.args.image.now c.args.script.now read q.0 q.1.3 c.in-Err-load_script.status r.1)

pub returns : goal.returns
returns g c =
    let q = c.in-Ok.ensures in
    let r = c.in-Ok-load_script.ensures in
    let before : Outside = outside (g.W.Workspace.state c.args.files.now) (g.O.Sink.state c.args.out.now) in
    let mid : Outside = outside (g.W.Workspace.state c.load_image.new.files) (g.O.Sink.state c.load_image.new.out) in
    let late : Outside = outside (g.W.Workspace.state c.load_script.new.files) (g.O.Sink.state c.load_script.new.out) in
    let after : Outside = outside (g.W.Workspace.state c.load_script.new.files) (g.O.Sink.state c.go.new.out) in
    let read : ImageRead before c.args.image.now = record { bytes = q.1.0; held = q.1.1; parts = c.in-Ok.loaded; image = q.1.2 } in
    let script : ScriptRead before c.args.script.now = read_before before mid late q.0 q.1.3 c.args.script.now r.1.0 c.in-Ok-load_script.script r.1.1 r.1.2 in
    (same_after _ _ _ q.0 r.0, go_ends c.args.options before after c.args.image.now c.args.script.now read script late (quiet_after before mid late q.1.3 r.1.3) c.go.result c.go.ensures)
