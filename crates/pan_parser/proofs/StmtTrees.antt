-- The trees of statements, behind what they begin with.
use Rattle.std.proofs.Common.{◌≡◌, ℕ, ◌+◌, ◌<◌, ◌≤◌, List, [], ◌∷◌, ◌++◌, length, Option, Some, sym, ap, ◌∙◌, subst, arith, append_assoc, append-nil}
use Rattle.pan_base.specs.declared.events.Size.{Size}
use Rattle.pan_base.specs.declared.tokens.Keyword.{Keyword}
use Rattle.pan_base.specs.declared.tokens.Keyword.TheVariants as keyword
use Rattle.pan_base.specs.declared.tokens.Sign.TheVariants as sign
use Rattle.pan_base.specs.Tokens.{Placed, Kind, Name, Reserved, Load, Store, Foreign, ASign}
use Rattle.pan_lexer.specs.TokenRow.{TokenRow}
use Rattle.pan_tree.specs.declared.syntax.CallOf.{CallOf}
use Rattle.pan_tree.specs.declared.syntax.StmtKind.{StmtKind}
use Rattle.pan_tree.specs.declared.syntax.StmtKind.TheVariants as s
use Rattle.pan_tree.specs.declared.syntax.Target.TheVariants as target
use Rattle.pan_tree.specs.Nodes.{Expr, node}
use Rattle.pan_tree.specs.Grammar as grammar
use Rattle.pan_tree.specs.Grammar.{Stmt, Block, Handler, Is, IsName, nesting_limit, Within, AnExpr, Plain, ExprEnd, TwoExprs, AStmt, CallEnd, MayHandle, ABlock, Stmts}
use Rattle.pan_parser.specs.Machine.{MoreStmts, WantStmt, WantSign}
use Rattle.pan_parser.specs.Follow.{NoSign}
use Rattle.pan_parser.specs.Reading.{left, Comes, IsOne, Reads, Behind, BehindAssign, ExprThen, ClosedStmts}
use Rattle.pan_parser.proofs.Ways.{Passes, on, one_read}
use Rattle.pan_parser.proofs.StmtStarts.{stmts_start}

-- a statement whose first token has come
pub behind : (row : TokenRow) (k at next : ℕ) (c : List Placed) (t : Placed) (v : Kind) (x : StmtKind) → Comes row at next t → t.kind ≡ v → Behind v k (left row next) c x
    → AStmt Within k (left row at) c (node (left row at) c x)
behind row k at next c t v x comes is p = subst (λ a. AStmt Within k a c (node a c x)) (sym comes.all) (p t is)

pub behind_word : (row : TokenRow) (k at next : ℕ) (c : List Placed) (w v : Keyword) (x : StmtKind) → IsOne row at next (Reserved w) → w ≡ v → Behind (Reserved v) k (left row next) c x
    → AStmt Within k (left row at) c (node (left row at) c x)
behind_word row k at next c w v x one same p = behind row k at next c one.token (Reserved v) x one.comes (one.is ∙ ap Reserved same) p

-- ---- statements of one word

-- the list is the token that ends a statement, and what follows it
module _ (row : TokenRow) (k at after : ℕ) (end : IsOne row at after (ASign sign.Semicolon)) where
  ended : (v : Kind) (x : StmtKind) → ((t : Placed) → t.kind ≡ v → AStmt Within k (t ∷ end.token ∷ left row after) (left row after) (node (t ∷ end.token ∷ left row after) (left row after) x))
      → Behind v k (left row at) (left row after) x
  ended v x p = λ t is. subst (λ a. AStmt Within k (t ∷ a) (left row after) (node (t ∷ a) (left row after) x)) (sym end.comes.all) (p t is)

  pub skip_tree : Behind (Reserved keyword.Skip) k (left row at) (left row after) s.Skip
  skip_tree = ended (Reserved keyword.Skip) s.Skip (λ t is. grammar.skip k t end.token (left row after) is end.is)

  pub break_tree : Behind (Reserved keyword.Break) k (left row at) (left row after) s.Break
  break_tree = ended (Reserved keyword.Break) s.Break (λ t is. grammar.break k t end.token (left row after) is end.is)

  pub continue_tree : Behind (Reserved keyword.Continue) k (left row at) (left row after) s.Continue
  continue_tree = ended (Reserved keyword.Continue) s.Continue (λ t is. grammar.continue k t end.token (left row after) is end.is)

-- ---- statements of expressions

pub return_tree : (k : ℕ) (a c : List Placed) (x : Expr) → ExprEnd Within k a c x → Behind (Reserved keyword.Return) k a c (s.Return x)
return_tree k a c x p = λ t is. grammar.return k t a c x is p

pub tail_call_tree : (row : TokenRow) (k at b after : ℕ) (f : List ℕ) (xs : List Expr) → Plain Within k (left row at) (left row b) f xs → IsOne row b after (ASign sign.Semicolon)
    → Behind (Reserved keyword.Return) k (left row at) (left row after) (s.TailCall f xs)
tail_call_tree row k at b after f xs p end = λ t is.
    grammar.tail_call k t end.token (left row at) (left row after) f xs is (subst (λ b. Plain Within k (left row at) b f xs) end.comes.all p) end.is

pub raise_tree : (row : TokenRow) (k at b : ℕ) (c : List Placed) (x : List ℕ) (y : Expr) → IsOne row at b (Name x) → ExprEnd Within k (left row b) c y
    → Behind (Reserved keyword.Raise) k (left row at) c (s.Raise x y)
raise_tree row k at b c x y name p = λ t is.
    subst (λ a. AStmt Within k (t ∷ a) c (node (t ∷ a) c (s.Raise x y))) (sym name.comes.all) (grammar.raise k t name.token (left row b) c x y is name.is p)

pub store_words_tree : (k : ℕ) (a c : List Placed) (x y : Expr) → TwoExprs Within k a c x y → Behind (Reserved keyword.St) k a c (s.StoreWords x y)
store_words_tree k a c x y p = λ t is. grammar.store_words k t a c x y is p

pub store_byte_tree : (k : ℕ) (a c : List Placed) (x y : Expr) → TwoExprs Within k a c x y → Behind (Reserved keyword.Stb) k a c (s.StoreByte x y)
store_byte_tree k a c x y p = λ t is. grammar.store_byte k t a c x y is p

pub shared_store_tree : (k : ℕ) (a c : List Placed) (n : Size) (x y : Expr) → TwoExprs Within k a c x y → Behind (Store n) k a c (s.SharedStore n x y)
shared_store_tree k a c n x y p = λ t is. grammar.shared_store k t a c n x y is p

pub foreign_tree : (row : TokenRow) (k at b c d f e end : ℕ) (x : List ℕ) (p q r z : Expr) → IsOne row at b (ASign sign.OpenParen) → ExprThen sign.Comma k (left row b) (left row c) p
    → ExprThen sign.Comma k (left row c) (left row d) q → ExprThen sign.Comma k (left row d) (left row f) r → ExprThen sign.CloseParen k (left row f) (left row e) z
    → IsOne row e end (ASign sign.Semicolon) → Behind (Foreign x) k (left row at) (left row end) (s.Foreign x p q r z)
foreign_tree row k at b c d f e end x p q r z paren one two three four semicolon = λ t is.
    subst (λ a. AStmt Within k (t ∷ a) (left row end) (node (t ∷ a) (left row end) (s.Foreign x p q r z))) (sym paren.comes.all)
    (grammar.foreign k t paren.token one.close two.close three.close four.close semicolon.token (left row b) (left row c) (left row d) (left row f) (left row end) x p q r z is paren.is
    one.tree one.is two.tree two.is three.tree three.is (subst (λ e. AnExpr Within k (left row f) (four.close ∷ e) z) semicolon.comes.all four.tree) four.is semicolon.is)

-- ---- calls

pub called_tree : (k : ℕ) (a c : List Placed) (x : CallOf Stmt) → CallEnd Within k a c x.function x.args x.handler → x.into ≡ target.Nothing → AStmt Within k a c (node a c (s.Call x))
called_tree k a c x p into =
    subst (λ i. AStmt Within k a c (node a c (s.Call (record { into = i; function = x.function; args = x.args; handler = x.handler })))) (sym into)
    (grammar.call k a c x.function x.args x.handler p)

pub call_end_tree : (row : TokenRow) (k at b c after : ℕ) (f : List ℕ) (xs : List Expr) (h : Option Handler) → Plain Within k (left row at) (left row b) f xs
    → MayHandle Within k (left row b) (left row c) h → IsOne row c after (ASign sign.Semicolon) → CallEnd Within k (left row at) (left row after) f xs h
call_end_tree row k at b c after f xs h p q end =
    grammar.call_end k end.token (left row at) (left row b) (left row after) f xs h p (subst (λ c. MayHandle Within k (left row b) c h) end.comes.all q) end.is

pub handler_tree : (row : TokenRow) (k at b c d : ℕ) (e : List Placed) (i x : List ℕ) (y : Block) → IsOne row at b (Reserved keyword.Handle) → IsOne row b c (Name i) → IsOne row c d (Name x)
    → ABlock Within k (left row d) e y → MayHandle Within k (left row at) e (Some (record { exception = i; name = x; body = y }))
handler_tree row k at b c d e i x y word one two p =
    let all : left row at ≡ word.token ∷ one.token ∷ two.token ∷ left row d = word.comes.all ∙ ap (λ a. word.token ∷ a) (one.comes.all ∙ ap (λ a. one.token ∷ a) two.comes.all) in
    subst (λ a. MayHandle Within k a e (Some (record { exception = i; name = x; body = y }))) (sym all)
    (grammar.handler k word.token one.token two.token (left row d) e i x y word.is one.is two.is p)

-- ---- declarations and assignments

pub declaration_tree : (row : TokenRow) (k at b c : ℕ) (d : List Placed) (x : List ℕ) (y : Expr) → IsOne row at b (Name x) → IsOne row b c (ASign sign.Assign) → ExprEnd Within k (left row c) d y
    → Behind (Reserved keyword.Var) k (left row at) d (s.Decl x y)
declaration_tree row k at b c d x y name assign p = λ t is.
    let all : left row at ≡ name.token ∷ assign.token ∷ left row c = name.comes.all ∙ ap (λ a. name.token ∷ a) assign.comes.all in
    subst (λ a. AStmt Within k (t ∷ a) d (node (t ∷ a) d (s.Decl x y))) (sym all)
    (grammar.declaration k t name.token assign.token (left row c) d x y is name.is assign.is p)

pub declaration_call_tree : (row : TokenRow) (k at b c : ℕ) (d : List Placed) (x : List ℕ) (y : CallOf Stmt) → IsOne row at b (Name x) → IsOne row b c (ASign sign.Assign)
    → CallEnd Within k (left row c) d y.function y.args y.handler → y.into ≡ target.New x → Behind (Reserved keyword.Var) k (left row at) d (s.Call y)
declaration_call_tree row k at b c d x y name assign p into = λ t is.
    let all : left row at ≡ name.token ∷ assign.token ∷ left row c = name.comes.all ∙ ap (λ a. name.token ∷ a) assign.comes.all in
    subst (λ a. AStmt Within k (t ∷ a) d (node (t ∷ a) d (s.Call y))) (sym all)
    (subst (λ i. AStmt Within k (t ∷ name.token ∷ assign.token ∷ left row c) d (node (t ∷ name.token ∷ assign.token ∷ left row c) d (s.Call (record { into = i; function = y.function; args = y.args; handler = y.handler })))) (sym into)
    (grammar.declaration_call k t name.token assign.token (left row c) d x y.function y.args y.handler is name.is assign.is p))

pub assignment_tree : (k : ℕ) (a d : List Placed) (x : List ℕ) (y : Expr) → ExprEnd Within k a d y → BehindAssign x k a d (s.Assign x y)
assignment_tree k a d x y p = λ t u is assign. grammar.assignment k t u a d x y is assign p

pub assignment_call_tree : (k : ℕ) (a d : List Placed) (x : List ℕ) (y : CallOf Stmt) → CallEnd Within k a d y.function y.args y.handler → y.into ≡ target.Old x → BehindAssign x k a d (s.Call y)
assignment_call_tree k a d x y p into = λ t u is assign.
    subst (λ i. AStmt Within k (t ∷ u ∷ a) d (node (t ∷ u ∷ a) d (s.Call (record { into = i; function = y.function; args = y.args; handler = y.handler })))) (sym into)
    (grammar.assignment_call k t u a d x y.function y.args y.handler is assign p)

pub shared_load_tree : (row : TokenRow) (k at b : ℕ) (d : List Placed) (x : List ℕ) (n : Size) (y : Expr) → IsOne row at b (Load n) → ExprEnd Within k (left row b) d y
    → BehindAssign x k (left row at) d (s.SharedLoad n x y)
shared_load_tree row k at b d x n y load p = λ t u is assign.
    subst (λ a. AStmt Within k (t ∷ u ∷ a) d (node (t ∷ u ∷ a) d (s.SharedLoad n x y))) (sym load.comes.all)
    (grammar.shared_load k t u load.token (left row b) d x n y is assign load.is p)

-- ---- blocks

pub branch_tree : (row : TokenRow) (k at b c d : ℕ) (f : List Placed) (x : Expr) (y z : Block) → AnExpr Within k (left row at) (left row b) x → ABlock Within k (left row b) (left row c) y
    → IsOne row c d (Reserved keyword.Else) → ABlock Within k (left row d) f z → Behind (Reserved keyword.If) k (left row at) f (s.If x y z)
branch_tree row k at b c d f x y z p q word r = λ t is.
    grammar.branch k t word.token (left row at) (left row b) (left row d) f x y z is p (subst (λ c. ABlock Within k (left row b) c y) word.comes.all q) word.is r

pub loop_tree : (k : ℕ) (a b c : List Placed) (x : Expr) (y : Block) → AnExpr Within k a b x → ABlock Within k b c y → Behind (Reserved keyword.While) k a c (s.While x y)
loop_tree k a b c x y p q = λ t is. grammar.loop k t a b c x y is p q

pub block_tree : (row : TokenRow) (k d at b : ℕ) (c : List Placed) (xs : List Stmt) → IsOne row at b (ASign sign.OpenBrace) → (d ≡ k + 1) × (k < nesting_limit) → ClosedStmts d (left row b) c xs
    → ABlock Within k (left row at) c (record { stmts = xs })
block_tree row k d at b c xs brace deep given =
    let closed : ClosedStmts (k + 1) (left row b) c xs = subst (λ d. ClosedStmts d (left row b) c xs) deep.0 given in
    subst (λ a. ABlock Within k a c (record { stmts = xs })) (sym brace.comes.all)
    (grammar.block k brace.token closed.close (left row b) c xs brace.is (omega (arith, deep.1)) closed.stmts closed.is)

-- what has been read of a block
pub record StmtsSo (row : TokenRow) (k from at : ℕ) (all : List Stmt) : Type 0 where
  pub tree : (c : List Placed) (ys : List Stmt) → Stmts Within k (left row at) c ys → Stmts Within k (left row from) c (all ++ ys)
  pub way : Passes (MoreStmts k ∷ WantSign sign.CloseBrace ∷ []) (left row from) (MoreStmts k ∷ WantSign sign.CloseBrace ∷ []) (left row at)
  pub ahead : from ≤ at

pub stmts_more : (row : TokenRow) (k from at after : ℕ) (all : List Stmt) (x : Stmt) → StmtsSo row k from at all → NoSign sign.CloseBrace (left row at)
    → AStmt Within k (left row at) (left row after) x → Reads (WantStmt k ∷ []) (left row at) (left row after) → (at < after) × (after ≤ length row.tokens) → StmtsSo row k from after (all ++ x ∷ [])
stmts_more row k from at after all x so none p reads ahead = record {
  tree = λ c ys more.
      subst (Stmts Within k (left row from) c) (sym (append_assoc all (x ∷ []) ys)) (so.tree c (x ∷ ys) (grammar.next_stmt k (left row at) (left row after) c x ys p more));
  way = on so.way (on (record { by = λ K. stmts_start (left row at) k K none }) (one_read reads));
  ahead = omega (arith, so.ahead, ahead.0);
}

pub stmts_done : (row : TokenRow) (k from at after : ℕ) (all : List Stmt) → StmtsSo row k from at all → IsOne row at after (ASign sign.CloseBrace) → ClosedStmts k (left row from) (left row after) all
stmts_done row k from at after all so close = record {
  close = close.token;
  is = close.is;
  stmts = subst (λ c. Stmts Within k (left row from) c all) close.comes.all
      (subst (Stmts Within k (left row from) (left row at)) (append-nil all) (so.tree (left row at) [] (grammar.no_stmt k (left row at))));
}
