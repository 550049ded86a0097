use Rattle.std.proofs.Common.{rules, ap}
use Rattle.pan_base.specs.Tokens.{kind_of}
use Rattle.pan_parser.proofs.ShapeWays.{takes_width, takes_group, shapes_more, shapes_done}
use Rattle.pan_parser.proofs.shapes.+shapes.Goals as goal

pub shape-returns-in-Some-width-clause-tree : goal.shape-returns-in-Some-width-clause-tree
shape-returns-in-Some-width-clause-tree t c = takes_width c.args.tokens.now c.args.depth c.args.at c.in-Some.after c.in-Number.n _ c.in-Some-width.shape c.in-Some.ensures.some (ap kind_of c.in-Number.is) (search rules)

pub shape-returns-in_ok-after-in-Sign-OpenBrace-clause-tree :
    goal.shape-returns-in_ok-after-in-Sign-OpenBrace-clause-tree
shape-returns-in_ok-after-in-Sign-OpenBrace-clause-tree t c = takes_group c.args.tokens.now c.args.depth _ c.args.at c.in-Some.after _ c.in_ok-after-in-Sign-OpenBrace.after _ _ c.in-Some.ensures.some (let h = c.in-Sign-OpenBrace in search rules) c.in_ok-depth-in-Sign-OpenBrace.ensures.ok c.in_ok-parts-in-Sign-OpenBrace.ensures.tree c.in_ok-after-in-Sign-OpenBrace.ensures.ok

pub shapes-parts-preserved : goal.shapes-parts-preserved
shapes-parts-preserved t c = rw c.in_ok-push-2.ensures.ok (shapes_more c.args.tokens.now c.args.depth c.args.at c.parts.rest c.in-Some.after c.in_ok-part-2.after c.parts.parts c.in_ok-part-2.part c.parts.invariant c.in-Some.ensures.some c.in_ok-part-2.ensures.tree c.in_ok-part-2.ensures.reads c.in_ok-part-2.ensures.ahead)

pub shapes-returns-clause-tree : goal.shapes-returns-clause-tree
shapes-returns-clause-tree t c = shapes_done c.args.tokens.now c.args.depth c.args.at c.parts.rest c.parts.parts c.parts.invariant
