use Rattle.check_soundness.proofs.Refusing.{unknown_variable, falls_off, stores_outside, skip_never_fails, variable_never_fails}
use Rattle.check_soundness.proofs.laws.refuses_what_is_ill.Goals as goal

pub returns : goal.returns
returns c = record {
  unknown = unknown_variable;
  falls_off = falls_off;
  outside = stores_outside;
  harmless = skip_never_fails;
  nothing = variable_never_fails;
}
