use Rattle.pan_driver.proofs.lowering.rear_of.Goals as goal

pub back_of-requires : goal.back_of-requires
back_of-requires c = c.in_ok-middle.ensures.over_homes

pub returns : goal.returns
returns c = record {
  colours = c.in_ok-middle.ensures.colours;
  homes = c.in_ok-middle.ensures.homes;
  stack = c.in_ok-back.ensures.stack;
  lab = c.in_ok-back.ensures.lab;
  fuel = c.in_ok-back.ensures.fuel;
  bound = c.in_ok-back.ensures.bound;
  code = c.in_ok-back.ensures.code;
}
