use Rattle.std.proofs.Common.{◌≡◌, ◌-◌, ◌++◌, [], ◌∷◌, ap, arith, ◌∙◌}
use Rattle.crep_lang.specs.declared.syntax.Expr.TheVariants as e
use Rattle.crep_flatten.specs.Rows.{far, loads}
use Rattle.crep_flatten.proofs.SettledRows.{more_loads}
use Rattle.crep_flatten.proofs.settling.push_loads.Goals as goal

pub loop-left-preserved : goal.loop-left-preserved
loop-left-preserved c =
    let g = c.in_ok-push.ensures in
    let l = c.loop-left in
    let a = e.Var c.args.address in
    let put : c.push.new.self ≡ l.words ++ e.LoadWord (far a l.next) ∷ [] = g.ok ∙ ap (λ x. l.words ++ e.LoadWord x ∷ []) (c.in_ok-new.ensures ∙ c.in_ok-at.ensures) in
    more_loads a l.words c.push.new.self (c.args.words.now ++ loads a c.args.skip c.args.count) l.next c.in-Some.after l.left (l.left - 1) c.loop-left-test.true put (omega (arith, c.in-Some.ensures)) (omega arith) l.invariant
