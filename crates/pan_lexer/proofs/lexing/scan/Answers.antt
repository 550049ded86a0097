use Rattle.std.proofs.Common.{◌≡◌, ◌-◌, length, sym, subst, inr, arith}
use Rattle.std.specs.Prelude.{map}
use Rattle.pan_base.specs.Lexing.{IsStuckAt}
use Rattle.pan_base.specs.Tokens.{placed}
use Rattle.pan_lexer.specs.Found.{kind_in}
use Rattle.pan_lexer.proofs.RowLemmas.{scanned_none, scanned_more, scanned_shorter, scanned_all, scanned_stuck}
use Rattle.pan_lexer.proofs.lexing.scan.Goals as goal

pub pieces-init : goal.pieces-init
pieces-init c = rw c.new-tokens.ensures (scanned_none c.args.bytes.now)

pub returns-in_default-clause-err : goal.returns-in_default-clause-err
returns-in_default-clause-err c =
    let stuck = scanned_stuck c.args.bytes.now c.pieces.rest.now (map placed c.pieces.tokens) c.pieces-test.ensures (sym c.in_default.ensures) c.pieces.invariant in
    let place : length c.args.bytes.now - length c.pieces.rest.now ≡ c.place_of-start.result = sym c.place_of-start.ensures in
    inr (c.place_of-start.result, c.pieces.rest.now, subst (λ n. IsStuckAt c.args.bytes.now n c.pieces.rest.now) place stuck, c.error_at.ensures)

pub place_of-end-requires-clause-within : goal.place_of-end-requires-clause-within
place_of-end-requires-clause-within c =
    omega (arith, scanned_shorter c.pieces.rest.now c.in-Some.after.now (kind_in c.in-Some.piece) (sym c.in-Some.ensures), c.pieces.invariant.within)

pub pieces-smaller : goal.pieces-smaller
pieces-smaller c = scanned_shorter c.pieces.rest.now c.in-Some.after.now (kind_in c.in-Some.piece) (sym c.in-Some.ensures)

pub pieces-preserved : goal.pieces-preserved
pieces-preserved c =
    rw (c.in_ok-put.ensures, c.place_of-start.ensures, c.place_of-end.ensures)
    (scanned_more c.args.bytes.now c.pieces.rest.now c.in-Some.after.now (map placed c.pieces.tokens) (kind_in c.in-Some.piece) (sym c.in-Some.ensures) c.pieces.invariant)

pub returns-clause-ok : goal.returns-clause-ok
returns-clause-ok c = scanned_all c.args.bytes.now c.pieces.rest.now (map placed c.pieces.tokens) c.pieces-test.ensures c.pieces.invariant
