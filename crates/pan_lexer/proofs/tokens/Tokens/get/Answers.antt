use Rattle.std.proofs.Common.{◌<◌, length, ap, arith}
use Rattle.std.specs.Prelude.{map}
use Rattle.pan_base.specs.Tokens.{placed}
use Rattle.pan_lexer.proofs.OrderLemmas.{within_order, spelled_at}
use Rattle.pan_lexer.proofs.tokens.Tokens.get.Goals as goal

pub returns-clause-some : goal.returns-clause-some
returns-clause-some c =
    let below : c.args.i < length (map placed c.self.inside.tokens) = omega (arith, c.requires, ap (λ r. length r.tokens) c.self.view_is) in
    rw c.as_slice.ensures (within_order 0 c.self.inside.source_len c.args.i c.self.inside.tokens _ below c.self.invariant.in_order).0

pub returns-clause-within : goal.returns-clause-within
returns-clause-within c =
    let below : c.args.i < length (map placed c.self.inside.tokens) = omega (arith, c.requires, ap (λ r. length r.tokens) c.self.view_is) in
    rw (c.as_slice.ensures, ← ap (λ r. r.source_len) c.self.view_is)
    (within_order 0 c.self.inside.source_len c.args.i c.self.inside.tokens _ below c.self.invariant.in_order).1

pub returns-clause-spelled : goal.returns-clause-spelled
returns-clause-spelled c =
    let below : c.args.i < length (map placed c.self.inside.tokens) = omega (arith, c.requires, ap (λ r. length r.tokens) c.self.view_is) in
    rw c.as_slice.ensures (spelled_at c.args.i c.self.inside.tokens _ below c.self.invariant.spelled)
