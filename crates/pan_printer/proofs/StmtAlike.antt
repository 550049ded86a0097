-- Without spans statements and programs are printed alike.
use Rattle.std.proofs.Common.{◌≡◌, ℕ, List, [], ◌∷◌, ◌++◌, map, Option, Some, None, refl, sym, ap, ◌∙◌, subst}
use Rattle.std.specs.Prelude.{flat_map}
use Rattle.pan_base.specs.declared.tokens.Keyword.TheVariants as keyword
use Rattle.pan_base.specs.declared.tokens.Sign.TheVariants as signs
use Rattle.pan_base.specs.Tokens.{Load, Store, Foreign, ASign}
use Rattle.pan_tree.specs.declared.spanned.Spanned.{Spanned}
use Rattle.pan_tree.specs.declared.syntax.Target.{Target}
use Rattle.pan_tree.specs.declared.syntax.BlockOf.{BlockOf}
use Rattle.pan_tree.specs.declared.syntax.HandlerOf.{HandlerOf}
use Rattle.pan_tree.specs.declared.syntax.StmtKind.{StmtKind, StmtKind-F, roll-StmtKind, map-StmtKind, ind-StmtKind}
use Rattle.pan_tree.specs.declared.syntax.StmtKind.TheOpen as open_stmt
use Rattle.pan_tree.specs.declared.syntax.StmtKind.TheVariants as s
use Rattle.pan_tree.specs.declared.program.Program.{Program}
use Rattle.pan_tree.specs.declared.program.Function.{Function}
use Rattle.pan_tree.specs.declared.program.Exception.{Exception}
use Rattle.pan_tree.specs.Nodes.{Expr}
use Rattle.pan_tree.specs.Grammar.{Stmt, Block, Handler}
use Rattle.pan_printer.specs.Pieces.{Piece, spaced, ending, sign, word, name, semicolon, with_commas}
use Rattle.pan_printer.specs.Expressions.{expr_pieces}
use Rattle.pan_printer.specs.Canonical.{block, handler, plain_call, target_pieces, two_exprs, kind_pieces, stmt_pieces, result_pieces, param_pieces, exception_pieces, function_pieces, program_pieces}
use Rattle.pan_printer.specs.Unspanned.{unspanned_expr, unspanned_stmt_kind, unspanned_stmt, unspanned_block, unspanned_exception, unspanned_function, unspanned, SameButSpans}
use Rattle.pan_printer.proofs.Spans.{written_alike, Each, flat_map_same, commas_same}
use Rattle.pan_printer.proofs.StmtLayers.{stmt_decl, stmt_assign, stmt_store_words, stmt_store_byte, stmt_if, stmt_while, stmt_call, stmt_return, stmt_tail_call, stmt_raise, stmt_shared_load, stmt_shared_store, stmt_foreign}
use Rattle.pan_printer.proofs.StmtSpans.{unspanned_handler, call_of, bare_skip, bare_decl, bare_assign, bare_store_words, bare_store_byte, bare_if, bare_while, bare_break, bare_continue, bare_call_at, bare_return, bare_tail_call, bare_raise, bare_shared_load, bare_shared_store, bare_foreign}

-- ---- the expressions of a statement

expr_alike : (x : Expr) → expr_pieces (unspanned_expr x) ≡ expr_pieces x
expr_alike x = ap (λ w. w.pieces) (written_alike x.kind)

exprs_alike : (xs : List Expr) → Each (λ x. expr_pieces (unspanned_expr x) ≡ expr_pieces x) xs
exprs_alike [] = tt
exprs_alike (x ∷ xs) = (expr_alike x, exprs_alike xs)

two_alike : (x y : Expr) → two_exprs (unspanned_expr x) (unspanned_expr y) ≡ two_exprs x y
two_alike x y = ap (λ ps. ps ++ sign signs.Comma ∷ expr_pieces (unspanned_expr y) ++ semicolon ∷ []) (expr_alike x) ∙ ap (λ ps. expr_pieces x ++ sign signs.Comma ∷ ps ++ semicolon ∷ []) (expr_alike y)

row_alike : (xs : List Expr) → with_commas expr_pieces (map unspanned_expr xs) ≡ with_commas expr_pieces xs
row_alike xs = commas_same expr_pieces unspanned_expr xs (exprs_alike xs)

call_alike : (f : List ℕ) (xs : List Expr) → plain_call f (map unspanned_expr xs) ≡ plain_call f xs
call_alike f xs = ap (λ ps. name f ∷ sign signs.OpenParen ∷ ps ++ sign signs.CloseParen ∷ []) (row_alike xs)

-- ---- statements

abbrev Alike : StmtKind → Type 0
Alike x = kind_pieces (unspanned_stmt_kind x) ≡ kind_pieces x

abbrev Part : Type 0
Part = (x : StmtKind) × Alike x

-- a statement without its claim
abbrev plain : Spanned Part → Stmt
plain x = record { kind = (x.kind).0; span = x.span }

abbrev plain_block : BlockOf (Spanned Part) → Block
plain_block b = record { stmts = map plain b.stmts }

each_alike : (ss : List (Spanned Part)) → Each (λ s. stmt_pieces (unspanned_stmt s) ≡ stmt_pieces s) (map plain ss)
each_alike [] = tt
each_alike (x ∷ ss) = ((x.kind).1, each_alike ss)

abbrev braced : List Piece → List Piece
braced ps = ending (ASign signs.OpenBrace) ∷ ps ++ ending (ASign signs.CloseBrace) ∷ []

part_block_alike : (b : BlockOf (Spanned Part)) → block stmt_pieces (unspanned_block (plain_block b)) ≡ block stmt_pieces (plain_block b)
part_block_alike b = ap braced (flat_map_same stmt_pieces unspanned_stmt (map plain b.stmts) (each_alike b.stmts))

-- the claim at a variant, from its two equations
alike_by : (y : StmtKind-F StmtKind) (x z : StmtKind) → roll-StmtKind y ≡ x → unspanned_stmt_kind x ≡ z → kind_pieces z ≡ kind_pieces x → Alike (roll-StmtKind y)
alike_by y x z is bare same = subst Alike (sym is) (ap kind_pieces bare ∙ same)

abbrev plain_handler : Option (HandlerOf (Spanned Part)) → Option Handler
plain_handler None = None
plain_handler (Some h) = Some (record { exception = h.exception; name = h.name; body = plain_block h.body })

handler_alike : (h : Option (HandlerOf (Spanned Part))) → handler stmt_pieces (unspanned_handler (plain_handler h)) ≡ handler stmt_pieces (plain_handler h)
handler_alike None = refl
handler_alike (Some h) = ap (λ ps. word keyword.Handle ∷ name h.exception ∷ name h.name ∷ ps) (part_block_alike h.body)

-- the claim of a call
abbrev WholeCall : Target → List ℕ → List Expr → Option Handler → Type 0
WholeCall into f args h = kind_pieces (s.Call (call_of into f (map unspanned_expr args) (unspanned_handler h))) ≡ kind_pieces (s.Call (call_of into f args h))

whole_call : (into : Target) (f : List ℕ) (args : List Expr) (h : Option (HandlerOf (Spanned Part))) → WholeCall into f args (plain_handler h)
whole_call into f args h =
    stmt_call (call_of into f (map unspanned_expr args) (unspanned_handler (plain_handler h)))
    ∙ ap (λ ps. target_pieces into ++ ps ++ handler stmt_pieces (unspanned_handler (plain_handler h)) ++ semicolon ∷ []) (call_alike f args)
    ∙ ap (λ ps. target_pieces into ++ plain_call f args ++ ps ++ semicolon ∷ []) (handler_alike h)
    ∙ sym (stmt_call (call_of into f args (plain_handler h)))

call_layer : (into : Target) (f : List ℕ) (args : List Expr) (h : Option (HandlerOf (Spanned Part))) → Alike (roll-StmtKind (map-StmtKind Part StmtKind (λ c. c.0) (open_stmt.Call (record { into = into; function = f; args = args; handler = h }))))
call_layer into f args None = alike_by (open_stmt.Call (call_of into f args None)) _ _ (s.rolls-Call (call_of into f args None)) (bare_call_at (call_of into f args None)) (whole_call into f args None)
call_layer into f args (Some h) = alike_by (open_stmt.Call (call_of into f args (plain_handler (Some h)))) _ _ (s.rolls-Call (call_of into f args (plain_handler (Some h)))) (bare_call_at (call_of into f args (plain_handler (Some h)))) (whole_call into f args (Some h))

alike_layer : (y : StmtKind-F Part) → Alike (roll-StmtKind (map-StmtKind Part StmtKind (λ c. c.0) y))
alike_layer open_stmt.Skip = alike_by open_stmt.Skip _ _ s.rolls-Skip bare_skip refl
alike_layer (open_stmt.Decl x e) = alike_by (open_stmt.Decl x e) _ _ (s.rolls-Decl x e) (bare_decl x e)
    (stmt_decl x (unspanned_expr e) ∙ ap (λ ps. word keyword.Var ∷ name x ∷ sign signs.Assign ∷ ps ++ semicolon ∷ []) (expr_alike e) ∙ sym (stmt_decl x e))
alike_layer (open_stmt.Assign x e) = alike_by (open_stmt.Assign x e) _ _ (s.rolls-Assign x e) (bare_assign x e)
    (stmt_assign x (unspanned_expr e) ∙ ap (λ ps. name x ∷ sign signs.Assign ∷ ps ++ semicolon ∷ []) (expr_alike e) ∙ sym (stmt_assign x e))
alike_layer (open_stmt.StoreWords a e) = alike_by (open_stmt.StoreWords a e) _ _ (s.rolls-StoreWords a e) (bare_store_words a e)
    (stmt_store_words (unspanned_expr a) (unspanned_expr e) ∙ ap (λ ps. word keyword.St ∷ ps) (two_alike a e) ∙ sym (stmt_store_words a e))
alike_layer (open_stmt.StoreByte a e) = alike_by (open_stmt.StoreByte a e) _ _ (s.rolls-StoreByte a e) (bare_store_byte a e)
    (stmt_store_byte (unspanned_expr a) (unspanned_expr e) ∙ ap (λ ps. word keyword.Stb ∷ ps) (two_alike a e) ∙ sym (stmt_store_byte a e))
alike_layer (open_stmt.If e a b) = alike_by (open_stmt.If e (plain_block a) (plain_block b)) _ _ (s.rolls-If e (plain_block a) (plain_block b)) (bare_if e (plain_block a) (plain_block b))
    (stmt_if (unspanned_expr e) (unspanned_block (plain_block a)) (unspanned_block (plain_block b))
    ∙ ap (λ ps. word keyword.If ∷ ps ++ block stmt_pieces (unspanned_block (plain_block a)) ++ word keyword.Else ∷ block stmt_pieces (unspanned_block (plain_block b))) (expr_alike e)
    ∙ ap (λ ps. word keyword.If ∷ expr_pieces e ++ ps ++ word keyword.Else ∷ block stmt_pieces (unspanned_block (plain_block b))) (part_block_alike a)
    ∙ ap (λ ps. word keyword.If ∷ expr_pieces e ++ block stmt_pieces (plain_block a) ++ word keyword.Else ∷ ps) (part_block_alike b)
    ∙ sym (stmt_if e (plain_block a) (plain_block b)))
alike_layer (open_stmt.While e b) = alike_by (open_stmt.While e (plain_block b)) _ _ (s.rolls-While e (plain_block b)) (bare_while e (plain_block b))
    (stmt_while (unspanned_expr e) (unspanned_block (plain_block b))
    ∙ ap (λ ps. word keyword.While ∷ ps ++ block stmt_pieces (unspanned_block (plain_block b))) (expr_alike e)
    ∙ ap (λ ps. word keyword.While ∷ expr_pieces e ++ ps) (part_block_alike b)
    ∙ sym (stmt_while e (plain_block b)))
alike_layer open_stmt.Break = alike_by open_stmt.Break _ _ s.rolls-Break bare_break refl
alike_layer open_stmt.Continue = alike_by open_stmt.Continue _ _ s.rolls-Continue bare_continue refl
alike_layer (open_stmt.Call c) = call_layer c.into c.function c.args c.handler
alike_layer (open_stmt.Return e) = alike_by (open_stmt.Return e) _ _ (s.rolls-Return e) (bare_return e)
    (stmt_return (unspanned_expr e) ∙ ap (λ ps. word keyword.Return ∷ ps ++ semicolon ∷ []) (expr_alike e) ∙ sym (stmt_return e))
alike_layer (open_stmt.TailCall f args) = alike_by (open_stmt.TailCall f args) _ _ (s.rolls-TailCall f args) (bare_tail_call f args)
    (stmt_tail_call f (map unspanned_expr args) ∙ ap (λ ps. word keyword.Return ∷ ps ++ semicolon ∷ []) (call_alike f args) ∙ sym (stmt_tail_call f args))
alike_layer (open_stmt.Raise x e) = alike_by (open_stmt.Raise x e) _ _ (s.rolls-Raise x e) (bare_raise x e)
    (stmt_raise x (unspanned_expr e) ∙ ap (λ ps. word keyword.Raise ∷ name x ∷ ps ++ semicolon ∷ []) (expr_alike e) ∙ sym (stmt_raise x e))
alike_layer (open_stmt.SharedLoad n x a) = alike_by (open_stmt.SharedLoad n x a) _ _ (s.rolls-SharedLoad n x a) (bare_shared_load n x a)
    (stmt_shared_load n x (unspanned_expr a) ∙ ap (λ ps. name x ∷ sign signs.Assign ∷ spaced (Load n) ∷ ps ++ semicolon ∷ []) (expr_alike a) ∙ sym (stmt_shared_load n x a))
alike_layer (open_stmt.SharedStore n a e) = alike_by (open_stmt.SharedStore n a e) _ _ (s.rolls-SharedStore n a e) (bare_shared_store n a e)
    (stmt_shared_store n (unspanned_expr a) (unspanned_expr e) ∙ ap (λ ps. spaced (Store n) ∷ ps) (two_alike a e) ∙ sym (stmt_shared_store n a e))
alike_layer (open_stmt.Foreign f a b c d) = alike_by (open_stmt.Foreign f a b c d) _ _ (s.rolls-Foreign f a b c d) (bare_foreign f a b c d)
    (stmt_foreign f (unspanned_expr a) (unspanned_expr b) (unspanned_expr c) (unspanned_expr d) ∙ ap (λ ps. spaced (Foreign f) ∷ sign signs.OpenParen ∷ ps ++ sign signs.CloseParen ∷ semicolon ∷ []) (row_alike (a ∷ b ∷ c ∷ d ∷ [])) ∙ sym (stmt_foreign f a b c d))

stmt_kind_alike : (x : StmtKind) → Alike x
stmt_kind_alike x = ind-StmtKind Alike (λ x y is. subst (λ x. Alike (roll-StmtKind x)) is (alike_layer y)) x

-- ---- programs

stmts_alike : (ss : List Stmt) → Each (λ s. stmt_pieces (unspanned_stmt s) ≡ stmt_pieces s) ss
stmts_alike [] = tt
stmts_alike (x ∷ ss) = (stmt_kind_alike x.kind, stmts_alike ss)

exceptions_alike : (xs : List Exception) → Each (λ x. exception_pieces (unspanned_exception x) ≡ exception_pieces x) xs
exceptions_alike [] = tt
exceptions_alike (x ∷ xs) = (refl, exceptions_alike xs)

abbrev head_pieces : Function → List Piece
head_pieces f = word keyword.Fun ∷ result_pieces f.result ++ name f.name ∷ sign signs.OpenParen ∷ with_commas param_pieces f.params

function_alike : (f : Function) → function_pieces (unspanned_function f) ≡ function_pieces f
function_alike f = ap (λ ps. head_pieces f ++ sign signs.CloseParen ∷ braced ps) (flat_map_same stmt_pieces unspanned_stmt (f.body).stmts (stmts_alike (f.body).stmts))

functions_alike : (fs : List Function) → Each (λ f. function_pieces (unspanned_function f) ≡ function_pieces f) fs
functions_alike [] = tt
functions_alike (f ∷ fs) = (function_alike f, functions_alike fs)

program_alike : (p : Program) → program_pieces (unspanned p) ≡ program_pieces p
program_alike p =
    ap (λ ps. ps ++ flat_map function_pieces (map unspanned_function p.functions)) (flat_map_same exception_pieces unspanned_exception p.exceptions (exceptions_alike p.exceptions))
    ∙ ap (λ ps. flat_map exception_pieces p.exceptions ++ ps) (flat_map_same function_pieces unspanned_function p.functions (functions_alike p.functions))

-- programs that are the same but for spans have the same tokens
pub same_pieces : (p q : Program) → SameButSpans p q → program_pieces p ≡ program_pieces q
same_pieces p q same = sym (program_alike p) ∙ ap program_pieces same ∙ program_alike q
