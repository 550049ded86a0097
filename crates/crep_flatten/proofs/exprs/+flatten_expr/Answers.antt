use Rattle.std.proofs.Common.{◌≡◌, map, sym, ap, subst, ◌∙◌}
use Rattle.std.specs.Prelude.{IfOk}
use Rattle.pan_base.specs.declared.operators.BinOp.{BinOp}
use Rattle.pan_tree.specs.declared.spanned.Spanned.{Spanned}
use Rattle.pan_tree.specs.declared.syntax.ExprKind.{ExprKind}
use Rattle.crep_lang.specs.declared.syntax.Expr.{Expr}
use Rattle.crep_flatten.specs.Flat.{Flat, flat_kind, flat, struct_of, chain, word_in}
use Rattle.crep_flatten.proofs.FlatLayers.{flat_struct, word_chain}
use Rattle.crep_flatten.proofs.exprs.+flatten_expr.Goals as goal

pub flatten_expr-returns-in-Struct-clause-flat : goal.flatten_expr-returns-in-Struct-clause-flat
flatten_expr-returns-in-Struct-clause-flat t c =
    let here = c.args.here.now in
    let whole : struct_of (map (λ (x : Spanned ExprKind). flat x here) c.as_slice.result.now) ≡ flat c.args.expr.now here =
    ap (λ xs. struct_of (map (λ (x : Spanned ExprKind). flat x here) xs)) c.as_slice.ensures ∙ sym (flat_struct here c.in-Struct.parts) ∙ ap (λ k. flat_kind k here) (sym c.in-Struct.is) in
    subst (λ (f' : Flat). IfOk c.flatten_struct.result (λ f. f ≡ f')) whole c.flatten_struct.ensures.flat

pub flatten_word-returns-in_ok-rest-in-Chain-clause-word : goal.flatten_word-returns-in_ok-rest-in-Chain-clause-word
flatten_word-returns-in_ok-rest-in-Chain-clause-word t c =
    let here = c.args.here.now in
    let first = c.in_ok-first-in-Chain in
    let rest = c.in_ok-rest-in-Chain in
    let whole : chain first.first rest.rest ≡ word_in (flat c.args.expr.now here) =
    ap (λ w. chain w rest.rest) (first.ensures.word ∙ ap (λ (x : Spanned ExprKind). word_in (flat x here)) c.get-in-Chain.ensures)
    ∙ ap (chain (word_in (flat c.in-Chain.first here))) (rest.ensures.words ∙ ap (map (λ (y : BinOp × Spanned ExprKind). (y.0, word_in (flat y.1 here)))) c.as_slice-in-Chain.ensures)
    ∙ sym (word_chain here c.in-Chain.first c.in-Chain.rest) ∙ ap (λ k. word_in (flat_kind k here)) (sym c.in-Chain.is) in
    subst (λ (w' : Expr). IfOk c.chained.result (λ w. w ≡ w')) whole c.chained.ensures
