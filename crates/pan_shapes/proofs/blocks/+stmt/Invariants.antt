use Rattle.std.proofs.Common.{◌≡◌, ℕ, ◌+◌, ◌*◌, ◌-◌, ◌^◌, ◌≤◌, min, max, map, drop}
use denote.Param.Weighed.{most}
use Rattle.pan_tree.specs.declared.spanned.Spanned.{Spanned}
use Rattle.pan_tree.specs.declared.syntax.BlockOf.{BlockOf}
use Rattle.pan_tree.specs.declared.syntax.StmtKind.{StmtKind, size-StmtKind}
use Rattle.pan_tree.specs.Check.{in_order, doing}
use Rattle.pan_shapes.specs.Doings.{context, state}
use Rattle.pan_shapes.proofs.blocks.+stmt.Given as goal

abbrev depth : BlockOf (Spanned StmtKind) → ℕ
depth b = most (λ x. size-StmtKind x.kind) b.stmts

-- what is left to do completes what is done
abbrev pub invariant-check_stmts-loop-stmt : goal.invariant-check_stmts-loop-stmt
invariant-check_stmts-loop-stmt l =
    let all = in_order (map doing l.stmts) (context l.fn.around) (state l.initial.walk) in
    let left = in_order (map doing (drop l.stmt-index l.stmts)) (context l.fn.around) (state l.walk) in
    record {
      breaks : all.breaks ≡ left.breaks;
      weight : min all.weight (2 ^ 64 - 1) ≡ min (l.weight + left.weight) (2 ^ 64 - 1);
      state : all.state ≡ left.state;
      fits : l.weight ≤ 2 ^ 64 - 1;
    }

-- a statement calls what checks it with its blocks, this calls blocks and a handler, these call statements one after
-- another, and those each one
abbrev pub decreases-check_stmt : goal.decreases-check_stmt
decreases-check_stmt l = 4 * goal.size-check_stmt l

abbrev pub decreases-check_stmts : goal.decreases-check_stmts
decreases-check_stmts l = 4 * goal.size-check_stmts l + 1

abbrev pub decreases-check_block : goal.decreases-check_block
decreases-check_block l = 4 * goal.size-check_block l + 2

abbrev pub decreases-check_handler : goal.decreases-check_handler
decreases-check_handler l = 4 * goal.size-check_handler l + 2

abbrev pub decreases-check_if : goal.decreases-check_if
decreases-check_if l = 4 * max (depth l.then_do.now) (depth l.else_do.now) + 3

abbrev pub decreases-check_while : goal.decreases-check_while
decreases-check_while l = 4 * depth l.body.now + 3

abbrev pub decreases-check_call : goal.decreases-check_call
decreases-check_call l = 4 * goal.size-check_call l + 3
