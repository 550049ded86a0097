use Rattle.std.proofs.Common.{false, ◌≤◌, List, length, arith, sym, ap, ◌∙◌}
use Rattle.std.proofs.lemmas.Bool.Decides.{nat_tests}
use Rattle.std.specs.Option.{option_map_or}
use Rattle.pan_tree.specs.declared.spanned.Spanned.{Spanned}
use Rattle.pan_tree.specs.declared.syntax.StmtKind.{StmtKind}
use Rattle.pan_tree.specs.Check.{closes, closes_kind}
use Rattle.pan_shapes.proofs.ClosingLayers.{last_is}
use Rattle.pan_shapes.proofs.closing.+closes.Goals as goal

pub closes-returns : goal.closes-returns
closes-returns t c =
    let stmts : List (Spanned StmtKind) = c.as_slice-stmts.result.now in
    let some : 1 ≤ length stmts = grind (arith, nat_tests) in
    let last = last_is stmts c.index-stmts-stmts.result c.index-stmts-stmts.result some c.index-stmts-stmts.is in
    c.stmt_closes.ensures ∙ sym (ap (λ o. option_map_or (λ (x : Spanned StmtKind). closes_kind x.kind) o false) last) ∙ ap (λ ss. closes (record { stmts = ss })) c.as_slice-stmts.ensures
