-- The parts of printed statements are read as they are.
use Rattle.std.proofs.Common.{◌≡◌, ℕ, ◌+◌, List, [], ◌∷◌, ◌++◌, map, Option, Some, None, refl, ap, ◌∙◌}
use Rattle.std.specs.Prelude.{flat_map}
use Rattle.pan_base.specs.declared.tokens.Sign.TheVariants as signs
use Rattle.pan_base.specs.Tokens.{Placed, Name, ASign}
use Rattle.pan_tree.specs.declared.syntax.StmtKind.{StmtKind}
use Rattle.pan_tree.specs.Nodes.{Expr}
use Rattle.pan_tree.specs.Grammar.{Stmt, Block, Handler, Arguments, no_argument, arguments, Plain, plain, ExprEnd, expr_end, TwoExprs, two_exprs, AStmt, MayHandle, no_handler, handler, ABlock, block, Stmts, no_stmt, next_stmt, CallEnd, call_end}
use Rattle.pan_printer.specs.declared.binding.Binding.TheVariants as binding
use Rattle.pan_printer.specs.Pieces.{Piece, ending, sign, semicolon, with_commas}
use Rattle.pan_printer.specs.Expressions.{kind_written, expr_pieces}
use Rattle.pan_printer.specs.Canonical as canonical
use Rattle.pan_printer.specs.Canonical.{plain_call, kind_pieces, stmt_pieces}
use Rattle.pan_printer.specs.Unspanned.{no_span, unspanned_kind, unspanned_expr, unspanned_stmt_kind, unspanned_stmt, unspanned_block}
use Rattle.pan_printer.proofs.Begins.{Begins, done, next, split}
use Rattle.pan_printer.proofs.TokenTexts.{IsPrintable, Good, good_append}
use Rattle.pan_printer.proofs.ShapeReading.{May}
use Rattle.pan_printer.proofs.Places.{ReadsAt, read_anywhere}
use Rattle.pan_printer.proofs.ExprReading.{Again, bare_part, more_exprs, MoreAgain}
use Rattle.pan_printer.proofs.StmtSpans.{unspanned_handler}

-- ---- an expression that ends a statement

pub record ReadsEnd (k : ℕ) (a c : List Placed) (x : Expr) : Type 0 where
  pub tree : Expr
  pub derives : ExprEnd May k a c tree
  pub same : unspanned_kind tree.kind ≡ unspanned_kind x.kind

end_close : (k : ℕ) (a m c : List Placed) (x : Expr) → ReadsAt binding.Comparison k a m x.kind → Begins (semicolon ∷ []) m c → ReadsEnd k a c x
end_close k a _ _ x r (next _ t _ _ _ is (done c)) = record { tree = r.tree; derives = expr_end k t a c r.tree r.derives is; same = r.same }

pub end_read : (x : Expr) → Again x.kind → (k : ℕ) (a c : List Placed) → Begins (expr_pieces x ++ semicolon ∷ []) a c → ReadsEnd k a c x
end_read x r k a c h =
    let s = split (expr_pieces x) (semicolon ∷ []) a c h in
    end_close k a s.middle c x (read_anywhere (kind_written x.kind) x.kind r k a s.middle s.front) s.back

pub good_end : (x : Expr) → Again x.kind → Good (expr_pieces x ++ semicolon ∷ [])
good_end x r = good_append (expr_pieces x) (semicolon ∷ []) r.good (refl, tt)

-- ---- two expressions that end one

pub record ReadsTwo (k : ℕ) (a c : List Placed) (x y : Expr) : Type 0 where
  pub left : Expr
  pub right : Expr
  pub derives : TwoExprs May k a c left right
  pub same_left : unspanned_kind left.kind ≡ unspanned_kind x.kind
  pub same_right : unspanned_kind right.kind ≡ unspanned_kind y.kind

two_close : (k : ℕ) (a m n c : List Placed) (x y : Expr) → ReadsAt binding.Comparison k a m x.kind → Again y.kind → Begins (sign signs.Comma ∷ expr_pieces y) m n → Begins (semicolon ∷ []) n c → ReadsTwo k a c x y
two_close k a _ n c x y left r (next _ t _ b _ is h) ends =
    let right = end_close k b n c y (read_anywhere (kind_written y.kind) y.kind r k b n h) ends in
    record { left = left.tree; right = right.tree; derives = two_exprs k t a b c left.tree right.tree left.derives is right.derives; same_left = left.same; same_right = right.same }

pub two_read : (x y : Expr) → Again x.kind → Again y.kind → (k : ℕ) (a c : List Placed) → Begins (canonical.two_exprs x y) a c → ReadsTwo k a c x y
two_read x y left right k a c h =
    let ends = split (expr_pieces x ++ sign signs.Comma ∷ expr_pieces y) (semicolon ∷ []) a c h in
    let s = split (expr_pieces x) (sign signs.Comma ∷ expr_pieces y) a ends.middle ends.front in
    two_close k a s.middle ends.middle c x y (read_anywhere (kind_written x.kind) x.kind left k a s.middle s.front) right s.back ends.back

pub good_two : (x y : Expr) → Again x.kind → Again y.kind → Good (canonical.two_exprs x y)
good_two x y left right = good_append (expr_pieces x ++ sign signs.Comma ∷ expr_pieces y) (semicolon ∷ []) (good_append (expr_pieces x) (sign signs.Comma ∷ expr_pieces y) left.good (refl, right.good)) (refl, tt)

-- ---- arguments

pub record ReadsArgs (k : ℕ) (a c : List Placed) (xs : List Expr) : Type 0 where
  pub trees : List Expr
  pub derives : Arguments May k a c trees
  pub same : map unspanned_expr trees ≡ map unspanned_expr xs

pub record ArgsAgain (xs : List Expr) : Type 0 where
  pub good : Good (with_commas expr_pieces xs)
  pub reads : (k : ℕ) (a c : List Placed) → Begins (with_commas expr_pieces xs) a c → ReadsArgs k a c xs

no_args_read : (k : ℕ) (a c : List Placed) → Begins [] a c → ReadsArgs k a c []
no_args_read k _ _ (done c) = record { trees = []; derives = no_argument k c; same = refl }

pub no_args_again : ArgsAgain []
no_args_again = record { good = tt; reads = no_args_read }

args_read : (x : Expr) (xs : List Expr) → Again x.kind → MoreAgain xs → (k : ℕ) (a c : List Placed) → Begins (with_commas expr_pieces (x ∷ xs)) a c → ReadsArgs k a c (x ∷ xs)
args_read x xs first others k a c h =
    let s = split (expr_pieces x) (more_exprs xs) a c h in
    let y = read_anywhere (kind_written x.kind) x.kind first k a s.middle s.front in
    let ys = others.reads k s.middle c s.back in
    record {
      trees = y.tree ∷ ys.trees;
      derives = arguments k a s.middle c y.tree ys.trees y.derives ys.derives;
      same = ap (λ k. bare_part k ∷ map unspanned_expr ys.trees) y.same ∙ ap (λ zs. unspanned_expr x ∷ zs) ys.same;
    }

pub args_again : (x : Expr) (xs : List Expr) → Again x.kind → MoreAgain xs → ArgsAgain (x ∷ xs)
args_again x xs first others = record { good = good_append (expr_pieces x) (more_exprs xs) first.good others.good; reads = args_read x xs first others }

-- ---- the name of a function and its arguments

pub record ReadsPlain (k : ℕ) (a c : List Placed) (f : List ℕ) (xs : List Expr) : Type 0 where
  pub trees : List Expr
  pub derives : Plain May k a c f trees
  pub same : map unspanned_expr trees ≡ map unspanned_expr xs

pub record PlainAgain (f : List ℕ) (xs : List Expr) : Type 0 where
  pub good : Good (plain_call f xs)
  pub reads : (k : ℕ) (a c : List Placed) → Begins (plain_call f xs) a c → ReadsPlain k a c f xs

plain_close : (f : List ℕ) (xs : List Expr) (k : ℕ) (t u : Placed) (a m c : List Placed) → t.kind ≡ Name f → u.kind ≡ ASign signs.OpenParen → ReadsArgs k a m xs → Begins (sign signs.CloseParen ∷ []) m c → ReadsPlain k (t ∷ u ∷ a) c f xs
plain_close f xs k t u a _ _ named opens r (next _ v _ _ _ closes (done c)) = record { trees = r.trees; derives = plain k t u v a c f r.trees named opens r.derives closes; same = r.same }

plain_read : (f : List ℕ) (xs : List Expr) → ArgsAgain xs → (k : ℕ) (a c : List Placed) → Begins (plain_call f xs) a c → ReadsPlain k a c f xs
plain_read f xs r k _ c (next _ t _ _ _ named (next _ u _ a _ opens h)) =
    let s = split (with_commas expr_pieces xs) (sign signs.CloseParen ∷ []) a c h in
    plain_close f xs k t u a s.middle c named opens (r.reads k a s.middle s.front) s.back

pub plain_again : (f : List ℕ) (xs : List Expr) → IsPrintable (Name f) → ArgsAgain xs → PlainAgain f xs
plain_again f xs g r = record { good = (g, (refl, good_append (with_commas expr_pieces xs) (sign signs.CloseParen ∷ []) r.good (refl, tt))); reads = plain_read f xs r }

-- ---- statements and blocks

pub record ReadsStmt (k : ℕ) (a c : List Placed) (x : StmtKind) : Type 0 where
  pub tree : Stmt
  pub derives : AStmt May k a c tree
  pub same : unspanned_stmt_kind tree.kind ≡ unspanned_stmt_kind x

-- the tokens of a statement can be printed, and are read as it
pub record StmtAgain (ps : List Piece) (x : StmtKind) : Type 0 where
  pub good : Good ps
  pub reads : (k : ℕ) (a c : List Placed) → Begins ps a c → ReadsStmt k a c x

pub record ReadsStmts (k : ℕ) (a c : List Placed) (ss : List Stmt) : Type 0 where
  pub trees : List Stmt
  pub derives : Stmts May k a c trees
  pub same : map unspanned_stmt trees ≡ map unspanned_stmt ss

pub record StmtsAgain (ss : List Stmt) : Type 0 where
  pub good : Good (flat_map stmt_pieces ss)
  pub reads : (k : ℕ) (a c : List Placed) → Begins (flat_map stmt_pieces ss) a c → ReadsStmts k a c ss

no_stmts_read : (k : ℕ) (a c : List Placed) → Begins [] a c → ReadsStmts k a c []
no_stmts_read k _ _ (done c) = record { trees = []; derives = no_stmt k c; same = refl }

pub no_stmts_again : StmtsAgain []
no_stmts_again = record { good = tt; reads = no_stmts_read }

-- a statement's part without its span
abbrev pub bare_stmt : StmtKind → Stmt
bare_stmt x = record { kind = x; span = no_span }

stmts_read : (x : Stmt) (ss : List Stmt) → StmtAgain (stmt_pieces x) x.kind → StmtsAgain ss → (k : ℕ) (a c : List Placed) → Begins (flat_map stmt_pieces (x ∷ ss)) a c → ReadsStmts k a c (x ∷ ss)
stmts_read x ss first others k a c h =
    let s = split (stmt_pieces x) (flat_map stmt_pieces ss) a c h in
    let y = first.reads k a s.middle s.front in
    let ys = others.reads k s.middle c s.back in
    record {
      trees = y.tree ∷ ys.trees;
      derives = next_stmt k a s.middle c y.tree ys.trees y.derives ys.derives;
      same = ap (λ k. bare_stmt k ∷ map unspanned_stmt ys.trees) y.same ∙ ap (λ zs. unspanned_stmt x ∷ zs) ys.same;
    }

pub stmts_again : (x : Stmt) (ss : List Stmt) → StmtAgain (stmt_pieces x) x.kind → StmtsAgain ss → StmtsAgain (x ∷ ss)
stmts_again x ss first others = record { good = good_append (stmt_pieces x) (flat_map stmt_pieces ss) first.good others.good; reads = stmts_read x ss first others }

pub record ReadsBlock (k : ℕ) (a c : List Placed) (b : Block) : Type 0 where
  pub tree : Block
  pub derives : ABlock May k a c tree
  pub same : unspanned_block tree ≡ unspanned_block b

pub record BlockAgain (b : Block) : Type 0 where
  pub good : Good (canonical.block stmt_pieces b)
  pub reads : (k : ℕ) (a c : List Placed) → Begins (canonical.block stmt_pieces b) a c → ReadsBlock k a c b

abbrev of_stmts : List Stmt → Block
of_stmts ss = record { stmts = ss }

block_close : (ss : List Stmt) (k : ℕ) (t : Placed) (a m c : List Placed) → t.kind ≡ ASign signs.OpenBrace → ReadsStmts (k + 1) a m ss → Begins (ending (ASign signs.CloseBrace) ∷ []) m c → ReadsBlock k (t ∷ a) c (of_stmts ss)
block_close ss k t a _ _ opens r (next _ u _ _ _ closes (done c)) = record { tree = of_stmts r.trees; derives = block k t u a c r.trees opens tt r.derives closes; same = ap of_stmts r.same }

block_read : (ss : List Stmt) → StmtsAgain ss → (k : ℕ) (a c : List Placed) → Begins (canonical.block stmt_pieces (of_stmts ss)) a c → ReadsBlock k a c (of_stmts ss)
block_read ss r k _ c (next _ t _ a _ opens h) =
    let s = split (flat_map stmt_pieces ss) (ending (ASign signs.CloseBrace) ∷ []) a c h in
    block_close ss k t a s.middle c opens (r.reads (k + 1) a s.middle s.front) s.back

pub block_again : (ss : List Stmt) → StmtsAgain ss → BlockAgain (of_stmts ss)
block_again ss r = record { good = (refl, good_append (flat_map stmt_pieces ss) (ending (ASign signs.CloseBrace) ∷ []) r.good (refl, tt)); reads = block_read ss r }

-- ---- handlers

pub record ReadsHandler (k : ℕ) (a c : List Placed) (h : Option Handler) : Type 0 where
  pub tree : Option Handler
  pub derives : MayHandle May k a c tree
  pub same : unspanned_handler tree ≡ unspanned_handler h

pub record HandlerAgain (h : Option Handler) : Type 0 where
  pub good : Good (canonical.handler stmt_pieces h)
  pub reads : (k : ℕ) (a c : List Placed) → Begins (canonical.handler stmt_pieces h) a c → ReadsHandler k a c h

no_handler_read : (k : ℕ) (a c : List Placed) → Begins [] a c → ReadsHandler k a c None
no_handler_read k _ _ (done c) = record { tree = None; derives = no_handler k c; same = refl }

pub no_handler_again : HandlerAgain None
no_handler_again = record { good = tt; reads = no_handler_read }

abbrev pub handler_of : List ℕ → List ℕ → Block → Option Handler
handler_of i x b = Some (record { exception = i; name = x; body = b })

handler_read : (i x : List ℕ) (b : Block) → BlockAgain b → (k : ℕ) (a c : List Placed) → Begins (canonical.handler stmt_pieces (handler_of i x b)) a c → ReadsHandler k a c (handler_of i x b)
handler_read i x b r k _ c (next _ t _ _ _ handles (next _ u _ _ _ named (next _ v _ a _ bound h))) =
    let y = r.reads k a c h in
    record { tree = handler_of i x y.tree; derives = handler k t u v a c i x y.tree handles named bound y.derives; same = ap (handler_of i x) y.same }

pub handler_again : (i x : List ℕ) (b : Block) → IsPrintable (Name i) → IsPrintable (Name x) → BlockAgain b → HandlerAgain (handler_of i x b)
handler_again i x b g g' r = record { good = (refl, (g, (g', r.good))); reads = handler_read i x b r }

-- ---- calls

pub record ReadsCall (k : ℕ) (a c : List Placed) (f : List ℕ) (xs : List Expr) (h : Option Handler) : Type 0 where
  pub trees : List Expr
  pub caught : Option Handler
  pub derives : CallEnd May k a c f trees caught
  pub same : map unspanned_expr trees ≡ map unspanned_expr xs
  pub same_caught : unspanned_handler caught ≡ unspanned_handler h

pub call_close : (f : List ℕ) (xs : List Expr) (h : Option Handler) (k : ℕ) (a m n c : List Placed) → ReadsPlain k a m f xs → ReadsHandler k m n h → Begins (semicolon ∷ []) n c → ReadsCall k a c f xs h
call_close f xs h k a m _ _ called caught (next _ t _ _ _ ends (done c)) = record {
  trees = called.trees;
  caught = caught.tree;
  derives = call_end k t a m c f called.trees caught.tree called.derives caught.derives ends;
  same = called.same;
  same_caught = caught.same;
}
