-- The tokens of statements and of programs, and the canonical text of a program.
use Rattle.std.specs.Prelude.{ℕ, Bool, true, false, if◌then◌else◌, List, [], ◌∷◌, ◌++◌, flat_map, Option, Some, None}
use Rattle.pan_base.specs.declared.tokens.Keyword.TheVariants as keyword
use Rattle.pan_base.specs.declared.tokens.Sign.TheVariants as signs
use Rattle.pan_base.specs.Tokens.{Load, Store, Foreign, ASign}
use Rattle.pan_tree.specs.declared.shape.Shape.{Shape, Shape-F, fold-Shape}
use Rattle.pan_tree.specs.declared.shape.Shape.TheOpen as shape
use Rattle.pan_tree.specs.declared.spanned.Spanned.{Spanned}
use Rattle.pan_tree.specs.declared.syntax.ExprKind.{ExprKind}
use Rattle.pan_tree.specs.declared.syntax.Target.{Target}
use Rattle.pan_tree.specs.declared.syntax.Target.TheVariants as target
use Rattle.pan_tree.specs.declared.syntax.BlockOf.{BlockOf}
use Rattle.pan_tree.specs.declared.syntax.HandlerOf.{HandlerOf}
use Rattle.pan_tree.specs.declared.syntax.StmtKind.{StmtKind, StmtKind-F, fold-StmtKind}
use Rattle.pan_tree.specs.declared.syntax.StmtKind.TheOpen as stmt
use Rattle.pan_tree.specs.declared.program.Param.{Param}
use Rattle.pan_tree.specs.declared.program.Exception.{Exception}
use Rattle.pan_tree.specs.declared.program.Function.{Function}
use Rattle.pan_tree.specs.declared.program.Program.{Program}
use Rattle.pan_printer.specs.Pieces.{Piece, spaced, ending, sign, word, name, semicolon, with_commas, text_of}
use Rattle.pan_printer.specs.Expressions.{shape_pieces, expr_pieces}

-- ---- statements

-- A block of statements, whose braces end their lines.
abbrev pub block : {S : Type 0} → (S → List Piece) → BlockOf S → List Piece
block pieces b = ending (ASign signs.OpenBrace) ∷ flat_map pieces b.stmts ++ ending (ASign signs.CloseBrace) ∷ []

-- what catches an exception, if there is one
abbrev pub handler : {S : Type 0} → (S → List Piece) → Option (HandlerOf S) → List Piece
handler pieces None = []
handler pieces (Some h) = word keyword.Handle ∷ name h.exception ∷ name h.name ∷ block pieces h.body

-- the name of a function and the arguments of a call
abbrev pub plain_call : List ℕ → List (Spanned ExprKind) → List Piece
plain_call function args = name function ∷ sign signs.OpenParen ∷ with_commas expr_pieces args ++ sign signs.CloseParen ∷ []

-- what stands before a call
abbrev pub target_pieces : Target → List Piece
target_pieces target.Nothing = []
target_pieces (target.Old x) = name x ∷ sign signs.Assign ∷ []
target_pieces (target.New x) = word keyword.Var ∷ name x ∷ sign signs.Assign ∷ []

abbrev pub two_exprs : Spanned ExprKind → Spanned ExprKind → List Piece
two_exprs x y = expr_pieces x ++ sign signs.Comma ∷ expr_pieces y ++ semicolon ∷ []

-- the tokens of a statement, from those of the statements in it
abbrev pub stmt_layer : StmtKind-F (List Piece) → List Piece
stmt_layer stmt.Skip = word keyword.Skip ∷ semicolon ∷ []
stmt_layer (stmt.Decl x e) = word keyword.Var ∷ name x ∷ sign signs.Assign ∷ expr_pieces e ++ semicolon ∷ []
stmt_layer (stmt.Assign x e) = name x ∷ sign signs.Assign ∷ expr_pieces e ++ semicolon ∷ []
stmt_layer (stmt.StoreWords a e) = word keyword.St ∷ two_exprs a e
stmt_layer (stmt.StoreByte a e) = word keyword.Stb ∷ two_exprs a e
stmt_layer (stmt.If e then_do else_do) = word keyword.If ∷ expr_pieces e ++ block (λ s. s.kind) then_do ++ word keyword.Else ∷ block (λ s. s.kind) else_do
stmt_layer (stmt.While e body) = word keyword.While ∷ expr_pieces e ++ block (λ s. s.kind) body
stmt_layer stmt.Break = word keyword.Break ∷ semicolon ∷ []
stmt_layer stmt.Continue = word keyword.Continue ∷ semicolon ∷ []
stmt_layer (stmt.Call c) = target_pieces c.into ++ plain_call c.function c.args ++ handler (λ s. s.kind) c.handler ++ semicolon ∷ []
stmt_layer (stmt.Return e) = word keyword.Return ∷ expr_pieces e ++ semicolon ∷ []
stmt_layer (stmt.TailCall function args) = word keyword.Return ∷ plain_call function args ++ semicolon ∷ []
stmt_layer (stmt.Raise exception e) = word keyword.Raise ∷ name exception ∷ expr_pieces e ++ semicolon ∷ []
stmt_layer (stmt.SharedLoad size x a) = name x ∷ sign signs.Assign ∷ spaced (Load size) ∷ expr_pieces a ++ semicolon ∷ []
stmt_layer (stmt.SharedStore size a e) = spaced (Store size) ∷ two_exprs a e
stmt_layer (stmt.Foreign f a b c d) = spaced (Foreign f) ∷ sign signs.OpenParen ∷ with_commas expr_pieces (a ∷ b ∷ c ∷ d ∷ []) ++ sign signs.CloseParen ∷ semicolon ∷ []

unfoldable pub kind_pieces : StmtKind → List Piece
kind_pieces = fold-StmtKind (List Piece) stmt_layer

abbrev pub stmt_pieces : Spanned StmtKind → List Piece
stmt_pieces s = kind_pieces s.kind

-- ---- programs

-- the shape is one word
abbrev pub is_word_layer : Shape-F Bool → Bool
is_word_layer shape.Word = true
is_word_layer _ = false

unfoldable pub is_word : Shape → Bool
is_word = fold-Shape Bool is_word_layer

-- The shape of a result: one word is left out.
abbrev pub result_pieces : Shape → List Piece
result_pieces z = if is_word z then [] else shape_pieces z

abbrev pub param_pieces : Param → List Piece
param_pieces p = shape_pieces p.shape ++ name p.name ∷ []

abbrev pub exception_pieces : Exception → List Piece
exception_pieces x = word keyword.Exception ∷ name x.name ∷ shape_pieces x.shape ++ semicolon ∷ []

abbrev pub function_pieces : Function → List Piece
function_pieces f =
    word keyword.Fun ∷ result_pieces f.result ++ name f.name ∷ sign signs.OpenParen ∷ with_commas param_pieces f.params
    ++ sign signs.CloseParen ∷ block stmt_pieces f.body

-- exceptions first, then functions
abbrev pub program_pieces : Program → List Piece
program_pieces p = flat_map exception_pieces p.exceptions ++ flat_map function_pieces p.functions

-- the canonical text of a program
abbrev pub canonical : Program → List ℕ
canonical p = text_of (program_pieces p)
