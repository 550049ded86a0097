use Rattle.pan_agree.proofs.WrongMachines.{no_fault, no_stack, no_exit, no_event, no_idleness, right}
use Rattle.pan_agree.proofs.refuted.refuses_wrong_machines.Goals as goal

pub returns : goal.returns
returns c = record { fault = no_fault; no_stack = no_stack; exit = no_exit; event = no_event; idle = no_idleness; right = right }
