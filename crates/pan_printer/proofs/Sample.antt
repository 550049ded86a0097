-- The program `fun main() { return 7; }` is the reading of a text.
use Rattle.std.proofs.Common.{◌≡◌, List, [], ◌∷◌, refl, sym, subst, arith}
use Rattle.std.specs.Prelude.{codes}
use Rattle.pan_tree.specs.declared.shape.Shape.TheVariants as shape
use Rattle.pan_tree.specs.declared.syntax.ExprKind.TheVariants as e
use Rattle.pan_tree.specs.declared.syntax.StmtKind.TheVariants as s
use Rattle.pan_tree.specs.declared.program.Exception.{Exception}
use Rattle.pan_tree.specs.declared.program.Function.{Function}
use Rattle.pan_tree.specs.Nodes.{Expr}
use Rattle.pan_tree.specs.Grammar.{Stmt}
use Rattle.pan_printer.specs.Canonical.{kind_pieces, stmt_pieces}
use Rattle.pan_printer.specs.ReadsBack.{Spellable}
use Rattle.pan_base.specs.Tokens.{Name}
use Rattle.pan_printer.proofs.TokenTexts.{IsPrintable}
use Rattle.pan_printer.proofs.Decimals.{decimal_spells}
use Rattle.pan_printer.proofs.Layers.{kind_number}
use Rattle.pan_printer.proofs.StmtLayers.{stmt_return}
use Rattle.pan_printer.proofs.Places.{ReadsExpr}
use Rattle.pan_printer.proofs.ExprReading.{Again, number_again}
use Rattle.pan_printer.proofs.PartReading.{StmtAgain, BlockAgain, block_again, stmts_again, no_stmts_again}
use Rattle.pan_printer.proofs.StmtReading.{return_again}
use Rattle.pan_printer.proofs.ProgramReading.{one_function}

seven_again : (y : Expr) → y.kind ≡ e.Number 7 → Again y.kind
seven_again y is = subst Again (sym is) (subst (λ w. ReadsExpr w (e.Number 7)) (sym (kind_number 7)) (number_again 7 (decimal_spells 7 (omega arith), omega arith)))

return_stmt_again : (x : Stmt) (y : Expr) → x.kind ≡ s.Return y → Again y.kind → StmtAgain (stmt_pieces x) x.kind
return_stmt_again x y is r = subst (λ k. StmtAgain (kind_pieces k) k) (sym is) (subst (λ ps. StmtAgain ps (s.Return y)) (sym (stmt_return y)) (return_again y r))

pub return_7_spellable : (f : Function) (x : Stmt) (y : Expr) → f.name ≡ codes "main" → f.params ≡ [] → f.result ≡ shape.Word → (f.body).stmts ≡ x ∷ [] → x.kind ≡ s.Return y → y.kind ≡ e.Number 7
    → (xs : List Exception) (fs : List Function) → xs ≡ [] → fs ≡ f ∷ [] → Spellable (record { exceptions = xs; functions = fs })
return_7_spellable f x y named empty word body returns seven xs fs none one =
    let g : IsPrintable (Name f.name) = subst (λ x. IsPrintable (Name x)) (sym named) (refl, refl, refl) in
    let inside : BlockAgain (record { stmts = x ∷ [] }) = block_again (x ∷ []) (stmts_again x [] (return_stmt_again x y returns (seven_again y seven)) no_stmts_again) in
    let braced : BlockAgain f.body = subst (λ ss. BlockAgain (record { stmts = ss })) (sym body) inside in
    let alone = one_function f g empty word braced in
    subst (λ xs. Spellable (record { exceptions = xs; functions = fs })) (sym none) (subst (λ fs. Spellable (record { exceptions = []; functions = fs })) (sym one) alone)
