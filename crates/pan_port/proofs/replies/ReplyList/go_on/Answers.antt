use Rattle.std.proofs.Common.{◌≡◌, ◌+◌, length, drop, rules, arith, ap, ◌∙◌}
use Rattle.std.specs.Prelude.{min}
use Rattle.pan_port.proofs.ReplyLemmas.{one_less}
use Rattle.pan_port.proofs.replies.ReplyList.go_on.Goals as goal

pub returns-clause-left : goal.returns-clause-left
returns-clause-left c =
    let e : c.min-self-inside.result ≡ min (c.self.inside.next + 1) (length c.self.inside.replies) = omega arith in
    let view : drop c.self.inside.next c.self.inside.replies ≡ c.args.self.now.left = search rules in
    ap (λ k. drop k c.self.inside.replies) e ∙ one_less c.self.inside.replies c.self.inside.next c.self.invariant ∙ ap (drop 1) view
