-- How statements are printed, at each variant.
use Rattle.std.proofs.Common.{◌≡◌, ℕ, List, [], ◌∷◌, ◌++◌, map, Option, Some, None, sym, ap, ◌∙◌}
use Rattle.std.proofs.lemmas.List.Folds.{flat_map-map}
use Rattle.std.specs.Prelude.{flat_map}
use Rattle.pan_base.specs.declared.events.Size.{Size}
use Rattle.pan_base.specs.declared.tokens.Keyword.TheVariants as keyword
use Rattle.pan_base.specs.declared.tokens.Sign.TheVariants as signs
use Rattle.pan_base.specs.Tokens.{Load, Store, Foreign, ASign}
use Rattle.pan_tree.specs.declared.spanned.Spanned.{Spanned}
use Rattle.pan_tree.specs.declared.syntax.ExprKind.{ExprKind}
use Rattle.pan_tree.specs.declared.syntax.BlockOf.{BlockOf}
use Rattle.pan_tree.specs.declared.syntax.HandlerOf.{HandlerOf}
use Rattle.pan_tree.specs.declared.syntax.CallOf.{CallOf}
use Rattle.pan_tree.specs.declared.syntax.Target.{Target}
use Rattle.pan_tree.specs.declared.syntax.StmtKind.{StmtKind, StmtKind-F, fold-roll-StmtKind, roll-StmtKind, map-StmtKind}
use Rattle.pan_tree.specs.declared.syntax.StmtKind.TheOpen as open_stmt
use Rattle.pan_tree.specs.declared.syntax.StmtKind.TheVariants as s
use Rattle.pan_printer.specs.Pieces.{Piece, spaced, ending, sign, word, name, semicolon, with_commas}
use Rattle.pan_printer.specs.Expressions.{expr_pieces}
use Rattle.pan_printer.specs.Canonical.{block, handler, plain_call, target_pieces, two_exprs, stmt_layer, kind_pieces, stmt_pieces}

stmt_roll : (x : StmtKind-F StmtKind) → kind_pieces (roll-StmtKind x) ≡ stmt_layer (map-StmtKind StmtKind (List Piece) kind_pieces x)
unfolding kind_pieces
stmt_roll x = fold-roll-StmtKind (List Piece) stmt_layer x

at_variant : (y : StmtKind-F StmtKind) (x : StmtKind) → roll-StmtKind y ≡ x → kind_pieces x ≡ stmt_layer (map-StmtKind StmtKind (List Piece) kind_pieces y)
at_variant y x is = ap kind_pieces (sym is) ∙ stmt_roll y

-- the statements in a block are printed
abbrev printed : Spanned StmtKind → Spanned (List Piece)
printed s = record { kind = kind_pieces s.kind; span = s.span }

inside_is : (ss : List (Spanned StmtKind)) → flat_map (λ (s : Spanned (List Piece)). s.kind) (map printed ss) ≡ flat_map stmt_pieces ss
inside_is ss = flat_map-map (λ (s : Spanned (List Piece)). s.kind) printed ss

abbrev braced : List Piece → List Piece
braced inside = ending (ASign signs.OpenBrace) ∷ inside ++ ending (ASign signs.CloseBrace) ∷ []

pub stmt_skip : kind_pieces s.Skip ≡ word keyword.Skip ∷ semicolon ∷ []
stmt_skip = at_variant open_stmt.Skip s.Skip s.rolls-Skip

pub stmt_decl : (x : List ℕ) (e : Spanned ExprKind) → kind_pieces (s.Decl x e) ≡ word keyword.Var ∷ name x ∷ sign signs.Assign ∷ expr_pieces e ++ semicolon ∷ []
stmt_decl x e = at_variant (open_stmt.Decl x e) (s.Decl x e) (s.rolls-Decl x e)

pub stmt_assign : (x : List ℕ) (e : Spanned ExprKind) → kind_pieces (s.Assign x e) ≡ name x ∷ sign signs.Assign ∷ expr_pieces e ++ semicolon ∷ []
stmt_assign x e = at_variant (open_stmt.Assign x e) (s.Assign x e) (s.rolls-Assign x e)

pub stmt_store_words : (a e : Spanned ExprKind) → kind_pieces (s.StoreWords a e) ≡ word keyword.St ∷ two_exprs a e
stmt_store_words a e = at_variant (open_stmt.StoreWords a e) (s.StoreWords a e) (s.rolls-StoreWords a e)

pub stmt_store_byte : (a e : Spanned ExprKind) → kind_pieces (s.StoreByte a e) ≡ word keyword.Stb ∷ two_exprs a e
stmt_store_byte a e = at_variant (open_stmt.StoreByte a e) (s.StoreByte a e) (s.rolls-StoreByte a e)

pub stmt_if : (e : Spanned ExprKind) (a b : BlockOf (Spanned StmtKind)) → kind_pieces (s.If e a b) ≡ word keyword.If ∷ expr_pieces e ++ block stmt_pieces a ++ word keyword.Else ∷ block stmt_pieces b
stmt_if e a b =
    at_variant (open_stmt.If e a b) (s.If e a b) (s.rolls-If e a b)
    ∙ ap (λ inside. word keyword.If ∷ expr_pieces e ++ braced inside ++ word keyword.Else ∷ braced (flat_map (λ (s : Spanned (List Piece)). s.kind) (map printed b.stmts))) (inside_is a.stmts)
    ∙ ap (λ inside. word keyword.If ∷ expr_pieces e ++ block stmt_pieces a ++ word keyword.Else ∷ braced inside) (inside_is b.stmts)

pub stmt_while : (e : Spanned ExprKind) (b : BlockOf (Spanned StmtKind)) → kind_pieces (s.While e b) ≡ word keyword.While ∷ expr_pieces e ++ block stmt_pieces b
stmt_while e b =
    at_variant (open_stmt.While e b) (s.While e b) (s.rolls-While e b)
    ∙ ap (λ inside. word keyword.While ∷ expr_pieces e ++ braced inside) (inside_is b.stmts)

pub stmt_break : kind_pieces s.Break ≡ word keyword.Break ∷ semicolon ∷ []
stmt_break = at_variant open_stmt.Break s.Break s.rolls-Break

pub stmt_continue : kind_pieces s.Continue ≡ word keyword.Continue ∷ semicolon ∷ []
stmt_continue = at_variant open_stmt.Continue s.Continue s.rolls-Continue

call_by : (into : Target) (f : List ℕ) (args : List (Spanned ExprKind)) (h : Option (HandlerOf (Spanned StmtKind)))
    → kind_pieces (s.Call (record { into = into; function = f; args = args; handler = h })) ≡ target_pieces into ++ plain_call f args ++ handler stmt_pieces h ++ semicolon ∷ []
call_by into f args None =
    at_variant (open_stmt.Call (record { into = into; function = f; args = args; handler = None })) _ (s.rolls-Call (record { into = into; function = f; args = args; handler = None }))
call_by into f args (Some h) =
    at_variant (open_stmt.Call (record { into = into; function = f; args = args; handler = Some h })) _ (s.rolls-Call (record { into = into; function = f; args = args; handler = Some h }))
    ∙ ap (λ inside. target_pieces into ++ plain_call f args ++ (word keyword.Handle ∷ name h.exception ∷ name h.name ∷ braced inside) ++ semicolon ∷ []) (inside_is (h.body).stmts)

pub stmt_call : (c : CallOf (Spanned StmtKind)) → kind_pieces (s.Call c) ≡ target_pieces c.into ++ plain_call c.function c.args ++ handler stmt_pieces c.handler ++ semicolon ∷ []
stmt_call c = call_by c.into c.function c.args c.handler

pub stmt_return : (e : Spanned ExprKind) → kind_pieces (s.Return e) ≡ word keyword.Return ∷ expr_pieces e ++ semicolon ∷ []
stmt_return e = at_variant (open_stmt.Return e) (s.Return e) (s.rolls-Return e)

pub stmt_tail_call : (f : List ℕ) (args : List (Spanned ExprKind)) → kind_pieces (s.TailCall f args) ≡ word keyword.Return ∷ plain_call f args ++ semicolon ∷ []
stmt_tail_call f args = at_variant (open_stmt.TailCall f args) (s.TailCall f args) (s.rolls-TailCall f args)

pub stmt_raise : (x : List ℕ) (e : Spanned ExprKind) → kind_pieces (s.Raise x e) ≡ word keyword.Raise ∷ name x ∷ expr_pieces e ++ semicolon ∷ []
stmt_raise x e = at_variant (open_stmt.Raise x e) (s.Raise x e) (s.rolls-Raise x e)

pub stmt_shared_load : (n : Size) (x : List ℕ) (a : Spanned ExprKind) → kind_pieces (s.SharedLoad n x a) ≡ name x ∷ sign signs.Assign ∷ spaced (Load n) ∷ expr_pieces a ++ semicolon ∷ []
stmt_shared_load n x a = at_variant (open_stmt.SharedLoad n x a) (s.SharedLoad n x a) (s.rolls-SharedLoad n x a)

pub stmt_shared_store : (n : Size) (a e : Spanned ExprKind) → kind_pieces (s.SharedStore n a e) ≡ spaced (Store n) ∷ two_exprs a e
stmt_shared_store n a e = at_variant (open_stmt.SharedStore n a e) (s.SharedStore n a e) (s.rolls-SharedStore n a e)

pub stmt_foreign : (f : List ℕ) (a b c d : Spanned ExprKind) → kind_pieces (s.Foreign f a b c d) ≡ spaced (Foreign f) ∷ sign signs.OpenParen ∷ with_commas expr_pieces (a ∷ b ∷ c ∷ d ∷ []) ++ sign signs.CloseParen ∷ semicolon ∷ []
stmt_foreign f a b c d = at_variant (open_stmt.Foreign f a b c d) (s.Foreign f a b c d) (s.rolls-Foreign f a b c d)

pub ruleset stmt_rules = (stmt_skip, stmt_decl, stmt_assign, stmt_store_words, stmt_store_byte, stmt_if, stmt_while, stmt_break, stmt_continue, stmt_call, stmt_return, stmt_tail_call, stmt_raise, stmt_shared_load, stmt_shared_store, stmt_foreign)
