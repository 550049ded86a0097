use Rattle.std.proofs.Common.{false}
use Rattle.pan_flow.specs.Flow.{behind}
use Rattle.pan_flow.proofs.Exact.{exact}
use Rattle.pan_flow.proofs.laws.pass_is_exact.Goals as goal

pub returns : goal.returns
returns c = λ f x. exact x f (λ e. false) behind (λ e. (λ h. cc, λ l. absurd l.1))
