use Rattle.std.proofs.Common.{rules, ap}
use Rattle.std.proofs.lemmas.Result.{IfOk-weaker}
use Rattle.pan_base.specs.Tokens.{kind_of}
use Rattle.pan_tree.specs.Grammar.{no_comparison, of_or, of_xor, of_and, of_sum, of_product}
use Rattle.pan_parser.specs.Reading.{left}
use Rattle.pan_parser.proofs.ExprWays.{exprs_one, exprs_more, exprs_done, terms_more, terms_done}
use Rattle.pan_parser.proofs.ExprTrees.{chain_tree, shift_tree, postfix_tree, compare_tree, negation_tree, load_byte_tree, load_words_tree, number_tree, base_tree, biw_tree, variable_tree, parentheses_tree, struct_tree}
use Rattle.pan_parser.proofs.expressions.+expr.Goals as goal

pub chain-terms-preserved : goal.chain-terms-preserved
chain-terms-preserved t c = rw c.in_ok-push.ensures.ok (terms_more _ _ _ _ _ _ _ _ _ _ c.terms.invariant c.in-Some.ensures.some c.in_ok-term.ensures.tree c.in_ok-term.ensures.reads c.in_ok-term.ensures.ahead)

pub chain-returns-clause-tree : goal.chain-returns-clause-tree
chain-returns-clause-tree t c = chain_tree _ _ _ _ _ _ _ _ c.in_ok-part.ensures.tree (terms_done _ _ _ _ _ _ c.terms.invariant) c.in_ok-whole.ensures

pub expr-returns-in_default-clause-tree : goal.expr-returns-in_default-clause-tree
expr-returns-in_default-clause-tree t c = no_comparison _ _ _ _ c.in_ok-one.ensures.tree

pub expr-returns-clause-tree : goal.expr-returns-clause-tree
expr-returns-clause-tree t c = compare_tree _ _ _ _ _ _ _ _ _ _ _ _ c.in_ok-one.ensures.tree c.in-Some.ensures.some c.in_ok-other.ensures.tree c.in_ok-one-2.ensures c.in_ok-other-2.ensures c.node.ensures

pub exprs-parts-init : goal.exprs-parts-init
exprs-parts-init t c = rw c.in_ok-parts.ensures (exprs_one _ _ _ _ _ c.in_ok-part.ensures.tree c.in_ok-part.ensures.reads c.in_ok-part.ensures.ahead)

pub exprs-parts-preserved : goal.exprs-parts-preserved
exprs-parts-preserved t c = rw c.in_ok-push.ensures.ok (exprs_more _ _ _ _ _ _ _ _ c.parts.invariant c.in-Some.ensures.some c.in_ok-part-2.ensures.tree c.in_ok-part-2.ensures.reads c.in_ok-part-2.ensures.ahead)

pub exprs-returns-clause-tree : goal.exprs-returns-clause-tree
exprs-returns-clause-tree t c = exprs_done _ _ _ _ _ c.parts.invariant

pub operand-returns-in-Or-clause-tree : goal.operand-returns-in-Or-clause-tree
operand-returns-in-Or-clause-tree t c = rw c.in-Or.is (IfOk-weaker c.chain.result _ _ (λ r p. of_or c.args.depth (left c.args.tokens.now c.args.at) (left c.args.tokens.now r.1) r.0 p) c.chain.ensures.tree)

pub operand-returns-in-Xor-clause-tree : goal.operand-returns-in-Xor-clause-tree
operand-returns-in-Xor-clause-tree t c = rw c.in-Xor.is (IfOk-weaker c.chain-in-Xor.result _ _ (λ r p. of_xor c.args.depth (left c.args.tokens.now c.args.at) (left c.args.tokens.now r.1) r.0 p) c.chain-in-Xor.ensures.tree)

pub operand-returns-in-And-clause-tree : goal.operand-returns-in-And-clause-tree
operand-returns-in-And-clause-tree t c = rw c.in-And.is (IfOk-weaker c.shift.result _ _ (λ r p. of_and c.args.depth (left c.args.tokens.now c.args.at) (left c.args.tokens.now r.1) r.0 p) c.shift.ensures.tree)

pub operand-returns-in-Sum-clause-tree : goal.operand-returns-in-Sum-clause-tree
operand-returns-in-Sum-clause-tree t c = rw c.in-Sum.is (IfOk-weaker c.chain-in-Sum.result _ _ (λ r p. of_sum c.args.depth (left c.args.tokens.now c.args.at) (left c.args.tokens.now r.1) r.0 p) c.chain-in-Sum.ensures.tree)

pub operand-returns-in-Product-clause-tree : goal.operand-returns-in-Product-clause-tree
operand-returns-in-Product-clause-tree t c = rw c.in-Product.is (IfOk-weaker c.unary.result _ _ (λ r p. of_product c.args.depth (left c.args.tokens.now c.args.at) (left c.args.tokens.now r.1) r.0 p) c.unary.ensures.tree)

pub shift-returns-clause-tree : goal.shift-returns-clause-tree
shift-returns-clause-tree t c = shift_tree _ _ _ _ _ _ _ c.in_ok-part.ensures.tree c.in_ok-amounts.ensures.tree c.in_ok-whole.ensures

pub postfix-returns-clause-tree : goal.postfix-returns-clause-tree
postfix-returns-clause-tree t c = postfix_tree _ _ _ _ _ _ _ c.in_ok-part.ensures.tree c.in_ok-indices.ensures.tree c.in_ok-whole.ensures

pub unary-returns-in_ok-new-in-Sign-Minus-clause-tree : goal.unary-returns-in_ok-new-in-Sign-Minus-clause-tree
unary-returns-in_ok-new-in-Sign-Minus-clause-tree t c = negation_tree _ _ _ _ _ _ _ _ _ _ c.in-Some.ensures.some (let h = c.in-Sign-Minus in search rules) c.in_ok-depth-in-Sign-Minus.ensures.ok c.in_ok-part-in-Sign-Minus.ensures.tree c.in_ok-new-in-Sign-Minus.ensures c.node.ensures

pub unary-returns-in_ok-new-in-Reserved-Lds-clause-tree : goal.unary-returns-in_ok-new-in-Reserved-Lds-clause-tree
unary-returns-in_ok-new-in-Reserved-Lds-clause-tree t c = load_words_tree _ _ _ _ _ _ _ _ _ _ _ _ c.in-Some.ensures.some (let h = c.in-Reserved-Lds in search rules) c.in_ok-depth-in-Reserved-Lds.ensures.ok c.in_ok-shape-in-Reserved-Lds.ensures.tree c.in_ok-part-in-Reserved-Lds.ensures.tree c.in_ok-new-in-Reserved-Lds.ensures c.node-in-Reserved-Lds.ensures

pub unary-returns-in_ok-new-in-Reserved-Ldb-clause-tree : goal.unary-returns-in_ok-new-in-Reserved-Ldb-clause-tree
unary-returns-in_ok-new-in-Reserved-Ldb-clause-tree t c = load_byte_tree _ _ _ _ _ _ _ _ _ _ c.in-Some.ensures.some (let h = c.in-Reserved-Ldb in search rules) c.in_ok-depth-in-Reserved-Ldb.ensures.ok c.in_ok-part-in-Reserved-Ldb.ensures.tree c.in_ok-new-in-Reserved-Ldb.ensures c.node-in-Reserved-Ldb.ensures

pub primary-returns-in-Number-clause-tree : goal.primary-returns-in-Number-clause-tree
primary-returns-in-Number-clause-tree t c = number_tree _ _ _ _ _ c.in-Some.ensures.some c.in-Number.n _ (ap kind_of c.in-Number.is) c.node.ensures

pub primary-returns-in-Base-clause-tree : goal.primary-returns-in-Base-clause-tree
primary-returns-in-Base-clause-tree t c = base_tree _ _ _ _ _ c.in-Some.ensures.some _ (ap kind_of c.in-Base.is) c.node-in-Base.ensures

pub primary-returns-in-Biw-clause-tree : goal.primary-returns-in-Biw-clause-tree
primary-returns-in-Biw-clause-tree t c = biw_tree _ _ _ _ _ c.in-Some.ensures.some _ (ap kind_of c.in-Biw.is) c.node-in-Biw.ensures

pub primary-returns-in_ok-name-in-Name-clause-tree : goal.primary-returns-in_ok-name-in-Name-clause-tree
primary-returns-in_ok-name-in-Name-clause-tree t c = variable_tree _ _ _ _ _ c.in-Some.ensures.some c.in-Name.name.now _ _ (ap kind_of c.in-Name.is) c.in_ok-name-in-Name.ensures c.node-in-Name.ensures

pub primary-returns-in_ok-after-in-Sign-OpenParen-clause-tree : goal.primary-returns-in_ok-after-in-Sign-OpenParen-clause-tree
primary-returns-in_ok-after-in-Sign-OpenParen-clause-tree t c = parentheses_tree _ _ _ _ _ c.in-Some.ensures.some _ _ _ _ (let h = c.in-Sign-OpenParen in search rules) c.in_ok-depth-in-Sign-OpenParen.ensures.ok c.in_ok-inner-in-Sign-OpenParen.ensures.tree c.in_ok-after-in-Sign-OpenParen.ensures.ok

pub primary-returns-in_ok-after-in-Sign-Less-clause-tree : goal.primary-returns-in_ok-after-in-Sign-Less-clause-tree
primary-returns-in_ok-after-in-Sign-Less-clause-tree t c = struct_tree _ _ _ _ _ c.in-Some.ensures.some _ _ _ _ _ (let h = c.in-Sign-Less in search rules) c.in_ok-depth-in-Sign-Less.ensures.ok c.in_ok-parts-in-Sign-Less.ensures.tree c.in_ok-after-in-Sign-Less.ensures.ok c.node-in-Sign-Less.ensures
