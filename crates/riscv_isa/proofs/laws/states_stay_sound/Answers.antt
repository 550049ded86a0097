use Rattle.riscv_isa.proofs.Fixed.{act_fixes, step_fixes, leads_fixes}
use Rattle.riscv_isa.proofs.SoundLaws.{act_sound, step_sound, leads_sound, booted_sound}
use Rattle.riscv_isa.proofs.laws.states_stay_sound.Goals as goal

pub returns : goal.returns
returns c = record {
  booted = booted_sound;
  step = step_sound;
  instruction = act_sound;
  silent = leads_sound;
  fixed = step_fixes;
  fixed_instruction = act_fixes;
  fixed_silent = leads_fixes;
}
