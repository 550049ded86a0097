use Rattle.std.proofs.Common.{ap}
use Rattle.pan_base.specs.declared.tokens.Keyword.TheVariants as keyword
use Rattle.pan_base.specs.Tokens.{kind_of}
use Rattle.pan_tree.specs.Grammar.{no_handler}
use Rattle.pan_parser.specs.Reading.{left}
use Rattle.pan_parser.proofs.StmtTrees.{behind, behind_word, skip_tree, break_tree, continue_tree, store_words_tree, store_byte_tree, shared_store_tree, called_tree, call_end_tree, handler_tree, declaration_tree, declaration_call_tree, assignment_tree, assignment_call_tree, shared_load_tree, branch_tree, loop_tree, block_tree, stmts_more, stmts_done}
use Rattle.pan_parser.proofs.statements.+stmts.Goals as goal

pub handler-returns-in_default-clause-tree : goal.handler-returns-in_default-clause-tree
handler-returns-in_default-clause-tree t c = no_handler c.args.depth (left c.args.tokens.now c.args.at)

pub handler-returns-clause-tree : goal.handler-returns-clause-tree
handler-returns-clause-tree t c = handler_tree _ _ _ _ _ _ _ _ _ _ c.in-Some.ensures.some c.in_ok-exception.ensures.ok c.in_ok-name.ensures.ok c.in_ok-body.ensures.tree

pub call_end-returns-clause-tree : goal.call_end-returns-clause-tree
call_end-returns-clause-tree t c = call_end_tree _ _ _ _ _ _ _ _ _ c.in_ok-function.ensures.tree c.in_ok-handler.ensures.tree c.in_ok-after.ensures.ok

pub declared-returns-then-begins_call-clause-tree : goal.declared-returns-then-begins_call-clause-tree
declared-returns-then-begins_call-clause-tree t c = declaration_call_tree _ _ _ _ _ _ _ _ c.in_ok-name.ensures.ok c.in_ok-after.ensures.ok c.in_ok-call.ensures.tree c.in_ok-call.ensures.into

pub declared-returns-clause-tree : goal.declared-returns-clause-tree
declared-returns-clause-tree t c = declaration_tree _ _ _ _ _ _ _ _ c.in_ok-name.ensures.ok c.in_ok-after.ensures.ok c.in_ok-value.ensures.tree

pub assigned-returns-in-Some-clause-tree : goal.assigned-returns-in-Some-clause-tree
assigned-returns-in-Some-clause-tree t c = shared_load_tree _ _ _ _ _ _ _ _ c.in-Some.ensures.some c.in_ok-addr.ensures.tree

pub assigned-returns-then-begins_call-clause-tree : goal.assigned-returns-then-begins_call-clause-tree
assigned-returns-then-begins_call-clause-tree t c = assignment_call_tree _ _ _ _ _ c.in_ok-call.ensures.tree c.in_ok-call.ensures.into

pub assigned-returns-clause-tree : goal.assigned-returns-clause-tree
assigned-returns-clause-tree t c = assignment_tree _ _ _ _ _ c.in_ok-value.ensures.tree

pub called-returns-clause-tree : goal.called-returns-clause-tree
called-returns-clause-tree t c = called_tree _ _ _ _ c.in_ok-call.ensures.tree c.in_ok-call.ensures.into

pub branch-returns-clause-tree : goal.branch-returns-clause-tree
branch-returns-clause-tree t c = branch_tree _ _ _ _ _ _ _ _ _ _ c.in_ok-test.ensures.tree c.in_ok-yes_block.ensures.tree c.in_ok-after.ensures.ok c.in_ok-no_block.ensures.tree

pub repeated-returns-clause-tree : goal.repeated-returns-clause-tree
repeated-returns-clause-tree t c = loop_tree _ _ _ _ _ _ c.in_ok-test.ensures.tree c.in_ok-body.ensures.tree

pub worded-returns-in_ok-expect-in-Skip-clause-tree : goal.worded-returns-in_ok-expect-in-Skip-clause-tree
worded-returns-in_ok-expect-in-Skip-clause-tree t c = behind_word _ _ _ _ _ _ keyword.Skip _ c.requires.word c.in-Skip.is (skip_tree _ _ _ _ c.in_ok-expect-in-Skip.ensures.ok)

pub worded-returns-in_ok-expect-in-Break-clause-tree : goal.worded-returns-in_ok-expect-in-Break-clause-tree
worded-returns-in_ok-expect-in-Break-clause-tree t c = behind_word _ _ _ _ _ _ keyword.Break _ c.requires.word c.in-Break.is (break_tree _ _ _ _ c.in_ok-expect-in-Break.ensures.ok)

pub worded-returns-in_ok-expect-in-Continue-clause-tree : goal.worded-returns-in_ok-expect-in-Continue-clause-tree
worded-returns-in_ok-expect-in-Continue-clause-tree t c = behind_word _ _ _ _ _ _ keyword.Continue _ c.requires.word c.in-Continue.is (continue_tree _ _ _ _ c.in_ok-expect-in-Continue.ensures.ok)

pub worded-returns-in_ok-addr-in-St-clause-tree : goal.worded-returns-in_ok-addr-in-St-clause-tree
worded-returns-in_ok-addr-in-St-clause-tree t c = behind_word _ _ _ _ _ _ keyword.St _ c.requires.word c.in-St.is (store_words_tree _ _ _ _ _ c.in_ok-addr-in-St.ensures.tree)

pub worded-returns-in_ok-addr-in-Stb-clause-tree : goal.worded-returns-in_ok-addr-in-Stb-clause-tree
worded-returns-in_ok-addr-in-Stb-clause-tree t c = behind_word _ _ _ _ _ _ keyword.Stb _ c.requires.word c.in-Stb.is (store_byte_tree _ _ _ _ _ c.in_ok-addr-in-Stb.ensures.tree)

pub stmt_kind-returns-in_ok-addr-in-Store-clause-tree : goal.stmt_kind-returns-in_ok-addr-in-Store-clause-tree
stmt_kind-returns-in_ok-addr-in-Store-clause-tree t c = behind _ _ _ _ _ _ _ _ c.in-Some.ensures.some (ap kind_of c.in-Store.is) (shared_store_tree _ _ _ _ _ _ c.in_ok-addr-in-Store.ensures.tree)

pub stmts-stmts-preserved : goal.stmts-stmts-preserved
stmts-stmts-preserved t c = rw c.in_ok-push.ensures.ok (stmts_more _ _ _ _ _ _ _ c.stmts.invariant c.in_default.ensures.none c.in_ok-next.ensures.tree c.in_ok-next.ensures.reads c.in_ok-next.ensures.ahead)

pub stmts-returns-in-Some-clause-tree : goal.stmts-returns-in-Some-clause-tree
stmts-returns-in-Some-clause-tree t c = stmts_done _ _ _ _ _ _ c.stmts.invariant c.in-Some.ensures.some

pub block-returns-clause-tree : goal.block-returns-clause-tree
block-returns-clause-tree t c = block_tree _ _ _ _ _ _ _ c.in-Some.ensures.some c.in_ok-depth.ensures.ok c.in_ok-stmts.ensures.tree
