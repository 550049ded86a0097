use Rattle.pan_port.proofs.Runs.{SoFar}
use Rattle.pan_port.specs.Drive.{Keeps}
use Rattle.pan_port.proofs.driving.drive.Given as goal

abbrev pub invariant-turns : goal.invariant-turns
invariant-turns g l = record {
  so_far : SoFar g.D.Device.gives (g.A.Asker.meaning l.fn.asker) (g.A.Asker.meaning l.asker) l.fn.device l.device (g.O.Sink.state l.fn.out) (g.O.Sink.state l.out) l.fn.budget l.left;
  keeps : Keeps g.D.Device.stops g.D.Device.silences (g.A.Asker.meaning l.fn.asker) (g.A.Asker.meaning l.asker) l.fn.device l.device (g.O.Sink.state l.fn.out) (g.O.Sink.state l.out);
}

abbrev pub decreases-turns : goal.decreases-turns
decreases-turns g l = (g.A.Asker.meaning l.asker).ahead l.left
