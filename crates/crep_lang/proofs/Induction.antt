-- Induction on expressions and on statements, by what stands at the top.
use Rattle.std.proofs.Common.{subst}
use Rattle.crep_lang.specs.declared.syntax.Expr.{Expr, Expr-F, roll-Expr, map-Expr, ind-Expr}
use Rattle.crep_lang.specs.declared.syntax.Stmt.{Stmt, Stmt-F, roll-Stmt, map-Stmt, ind-Stmt}

pub expr_induct : (P : Expr → Type 0) → ((y : Expr-F ((e : Expr) × P e)) → P (roll-Expr (map-Expr ((e : Expr) × P e) Expr (λ c. c.0) y))) → (e : Expr) → P e
expr_induct P at e = ind-Expr P (λ x y is. subst (λ x. P (roll-Expr x)) is (at y)) e

pub stmt_induct : (P : Stmt → Type 0) → ((y : Stmt-F ((s : Stmt) × P s)) → P (roll-Stmt (map-Stmt ((s : Stmt) × P s) Stmt (λ c. c.0) y))) → (s : Stmt) → P s
stmt_induct P at s = ind-Stmt P (λ x y is. subst (λ x. P (roll-Stmt x)) is (at y)) s
