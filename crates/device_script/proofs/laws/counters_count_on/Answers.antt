use Rattle.std.proofs.Common.{ap}
use Rattle.pan_base.specs.Events.{Value}
use Rattle.pan_port.specs.Device.{Gave}
use Rattle.device_script.specs.declared.rules.Rule.TheVariants as rule
use Rattle.device_script.proofs.LawLemmas.{counter_given, counter_kept}
use Rattle.device_script.proofs.laws.counters_count_on.Goals as goal

pub returns : goal.returns
returns c = record {
  given = λ size addr first step k. ap (λ n. Gave (Value n)) (counter_given size first step k);
  kept = λ size addr first step k. ap (rule.Counter size addr first step) (counter_kept k);
}
