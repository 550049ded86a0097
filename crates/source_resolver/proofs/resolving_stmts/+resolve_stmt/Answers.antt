use Rattle.std.proofs.Common.{drop, ap, ◌∙◌}
use Rattle.source_resolver.proofs.ResolvingStmts.{kept_behind, variable_keeps}
use Rattle.source_resolver.proofs.resolving_stmts.+resolve_stmt.Goals as goal

pub resolve_block-returns-clause-kept : goal.resolve_block-returns-clause-kept
resolve_block-returns-clause-kept t c =
    kept_behind c.as_slice.result.now c.args.directory.now c.enter.new.self c.resolve_stmts.new.places c.leave.new.self c.args.places.now (ap (drop 1) c.in_ok-enter.ensures.opened) c.in_ok-stmts.ensures.after c.leave.ensures

pub resolve_handler-returns-in_ok-new-in-Some-clause-kept : goal.resolve_handler-returns-in_ok-new-in-Some-clause-kept
resolve_handler-returns-in_ok-new-in-Some-clause-kept t c =
    let opened = ap (drop 1) c.in_ok-declare-in-Some.ensures.declared ∙ variable_keeps c.as_bytes.result.now c.enter.new.self ∙ ap (drop 1) c.in_ok-enter-in-Some.ensures.opened in
    kept_behind c.as_slice.result.now c.args.directory.now c.declare.new.self c.resolve_stmts.new.places c.leave.new.self c.args.places.now opened c.in_ok-body-in-Some.ensures.after c.leave.ensures
