use Rattle.std.proofs.Common.{arith, refl, ◌∙◌}
use Rattle.pan_port.proofs.Runs.{nothing, hungry, goes_on, spent, over, gave_up, silent, unwritten}
use Rattle.pan_port.proofs.driving.drive.Goals as goal

pub turns-init : goal.turns-init
turns-init g c = record {
  so_far = nothing g.D.Device.gives _ _ _ _;
  keeps = record { size = refl; frugal = refl; later_stops = omega arith; later_silences = omega arith; later_faults = omega arith };
}

pub turns-preserved : goal.turns-preserved
turns-preserved g c =
    let m = c.in-Ok.ensures in
    let p = rw c.in-Asks.is at m.pauses in
    let before = c.turns.invariant.keeps in
    let now = c.serve.ensures.keeps in
    record {
      so_far = goes_on g.D.Device.gives _ _ _ _ _ _ _ _ _ _ c.turns.invariant.so_far m _ _ _ p.0 p.2 (c.in-Replied.ensures.served p.0 p.1.asks);
      keeps = record {
        size = now.size ∙ m.size ∙ before.size;
        frugal = now.frugal ∙ m.frugal ∙ before.frugal;
        later_stops = omega (arith, now.later_stops, before.later_stops);
        later_silences = omega (arith, now.later_silences, before.later_silences);
        later_faults = omega (arith, now.later_faults, before.later_faults);
      };
    }

pub returns-in-Spent-clause-ran : goal.returns-in-Spent-clause-ran
returns-in-Spent-clause-ran g c =
    let m = c.in-Ok.ensures in
    let p = rw c.in-Spent.is at m.pauses in
    spent g.D.Device.gives _ _ _ _ _ _ _ _ _ _ c.turns.invariant.so_far m g.D.Device.stops g.D.Device.silences p.0 p.3

pub returns-in-Ended-clause-ran : goal.returns-in-Ended-clause-ran
returns-in-Ended-clause-ran g c =
    let m = c.in-Ok.ensures in
    let p = rw c.in-Ended.is at m.pauses in
    over g.D.Device.gives _ _ _ _ _ _ _ _ _ _ c.turns.invariant.so_far m g.D.Device.stops g.D.Device.silences p.0 _ p.1 p.2 p.3

pub returns-in-Stopped-clause-ran : goal.returns-in-Stopped-clause-ran
returns-in-Stopped-clause-ran g c =
    let m = c.in-Ok.ensures in
    let p = rw c.in-Asks.is at m.pauses in
    gave_up g.D.Device.gives _ _ _ _ _ _ _ _ _ _ c.turns.invariant.so_far m g.D.Device.stops g.D.Device.silences _ _ _ p.0 p.2 c.turns.invariant.keeps.later_stops (c.in-Stopped.ensures.served p.0 p.1.asks)

pub returns-in-Silent-clause-ran : goal.returns-in-Silent-clause-ran
returns-in-Silent-clause-ran g c =
    let m = c.in-Ok.ensures in
    let p = rw c.in-Asks.is at m.pauses in
    silent g.D.Device.gives _ _ _ _ _ _ _ _ _ _ c.turns.invariant.so_far m g.D.Device.stops g.D.Device.silences _ _ _ p.0 p.1 p.2 c.turns.invariant.keeps.later_silences (c.in-Silent.ensures.served p.0 p.1.asks)

pub returns-in-Unwritten-clause-write : goal.returns-in-Unwritten-clause-write
returns-in-Unwritten-clause-write g c _ =
    let m = c.in-Ok.ensures in
    let p = rw c.in-Asks.is at m.pauses in
    unwritten g.D.Device.gives _ _ _ _ _ _ _ _ _ _ c.turns.invariant.so_far m _ _ _ p.0 p.1 c.turns.invariant.keeps.later_faults (c.in-Unwritten.ensures.served p.0 p.1.asks)

pub returns-in-Err-clause-memory : goal.returns-in-Err-clause-memory
returns-in-Err-clause-memory g c _ =
    hungry g.D.Device.gives _ _ _ _ _ _ _ _ _ c.turns.invariant.keeps.frugal c.turns.invariant.so_far c.in-Err.ensures
