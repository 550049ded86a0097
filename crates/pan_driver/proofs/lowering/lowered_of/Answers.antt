use Rattle.pan_driver.proofs.lowering.lowered_of.Goals as goal

pub returns : goal.returns
returns c = record {
  crep = c.in_ok-front.ensures.crep;
  loops = c.in_ok-front.ensures.loops;
  words = c.in_ok-front.ensures.words;
  colours = c.in_ok-rear.ensures.colours;
  homes = c.in_ok-rear.ensures.homes;
  stack = c.in_ok-rear.ensures.stack;
  lab = c.in_ok-rear.ensures.lab;
  fuel = c.in_ok-rear.ensures.fuel;
  bound = c.in_ok-rear.ensures.bound;
  code = c.in_ok-rear.ensures.code;
}
