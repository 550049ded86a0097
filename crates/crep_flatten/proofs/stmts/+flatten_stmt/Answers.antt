use Rattle.std.proofs.Common.{drop, ap, sym, ◌∙◌}
use Rattle.crep_lang.specs.declared.syntax.Stmt.{Stmt}
use Rattle.crep_flatten.specs.Flat.{Places}
use Rattle.crep_flatten.proofs.FlatStmts.{flat_call, called_from, fits_call, kept_behind}
use Rattle.crep_flatten.proofs.stmts.+flatten_stmt.Goals as goal

pub flatten_block-returns-clause-kept : goal.flatten_block-returns-clause-kept
flatten_block-returns-clause-kept t c =
    kept_behind c.as_slice.result.now c.args.directory.now c.enter.new.self c.flatten_stmts.new.here c.leave.new.self c.args.here.now (ap (drop 1) c.in_ok-enter.ensures) c.in_ok-stmts.ensures.after c.leave.ensures

pub flatten_handler-returns-clause-kept : goal.flatten_handler-returns-clause-kept
flatten_handler-returns-clause-kept t c =
    kept_behind c.as_slice.result.now c.args.directory.now c.open_handler.new.here c.flatten_stmts.new.here c.leave.new.self c.args.here.now (ap (drop 1) c.in_ok-catch.ensures.opened) c.in_ok-stmts.ensures.after c.leave.ensures

pub flatten_call-returns-clause-stmt : goal.flatten_call-returns-clause-stmt
flatten_call-returns-clause-stmt t c =
    let head = c.in_ok-head.ensures in
    called_from c.args.directory.now c.args.here.now c.args.call.now _ _ _ _ _ _ head.before head.results head.function head.args c.in_ok-handler.ensures.handler c.in_ok-call.ensures

pub flatten_call-returns-clause-after : goal.flatten_call-returns-clause-after
flatten_call-returns-clause-after t c = c.in_ok-handler.ensures.after ∙ sym (ap (λ (q : Stmt × Places). q.1) (flat_call c.args.directory.now c.args.here.now c.args.call.now))

pub flatten_call-returns-clause-fits : goal.flatten_call-returns-clause-fits
flatten_call-returns-clause-fits t c = fits_call c.args.call.now c.in_ok-head.ensures.fits c.in_ok-handler.ensures.fits
