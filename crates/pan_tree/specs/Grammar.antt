-- Which tokens spell which program, one case for each production of the grammar.
-- `AnExpr May k before after x`: the tokens of `before` that come before its tail `after` spell x, where k brackets and prefix operators are open.
-- A token that opens one more must be allowed to: `May j rest` says of `rest`, which begins with it, that it may stand there j deep.
use Rattle.std.specs.Prelude.{◌≡◌, ℕ, ◌+◌, ◌≤◌, List, [], ◌∷◌, ◌++◌, Option, Some, None}
use Rattle.pan_base.specs.declared.operators.BinOp.{BinOp}
use Rattle.pan_base.specs.declared.operators.ShOp.{ShOp}
use Rattle.pan_base.specs.declared.operators.Cmp.{Cmp}
use Rattle.pan_base.specs.declared.events.Size.{Size}
use Rattle.pan_base.specs.declared.tokens.Keyword.{Keyword}
use Rattle.pan_base.specs.declared.tokens.Keyword.TheVariants as keyword
use Rattle.pan_base.specs.declared.tokens.Sign.{Sign}
use Rattle.pan_base.specs.declared.tokens.Sign.TheVariants as sign
use Rattle.pan_base.specs.Tokens.{Placed, Name, Reserved, Number, Load, Store, Foreign, Base, Biw, ASign}
use Rattle.pan_tree.specs.declared.level.Level.{Level}
use Rattle.pan_tree.specs.declared.level.Level.TheVariants as level
use Rattle.pan_tree.specs.declared.shape.Shape.{Shape}
use Rattle.pan_tree.specs.declared.shape.Shape.TheVariants as shape
use Rattle.pan_tree.specs.declared.spanned.Spanned.{Spanned}
use Rattle.pan_tree.specs.declared.syntax.ExprKind.TheVariants as e
use Rattle.pan_tree.specs.declared.syntax.StmtKind.{StmtKind}
use Rattle.pan_tree.specs.declared.syntax.StmtKind.TheVariants as s
use Rattle.pan_tree.specs.declared.syntax.Target.TheVariants as target
use Rattle.pan_tree.specs.declared.syntax.BlockOf.{BlockOf}
use Rattle.pan_tree.specs.declared.syntax.HandlerOf.{HandlerOf}
use Rattle.pan_tree.specs.declared.program.Param.{Param}
use Rattle.pan_tree.specs.declared.program.Exception.{Exception}
use Rattle.pan_tree.specs.declared.program.Function.{Function}
use Rattle.pan_tree.specs.declared.program.Program.{Program}
use Rattle.pan_tree.specs.Nodes.{Expr, between, node, chain, shifted, field, operator_at, shift_operator, comparison}

-- statements, blocks and handlers of the source
abbrev pub Stmt : Type 0
Stmt = Spanned StmtKind

abbrev pub Block : Type 0
Block = BlockOf Stmt

abbrev pub Handler : Type 0
Handler = HandlerOf Stmt

-- the token is this sign, this reserved word, this name
abbrev pub Is : Sign → Placed → Type 0
Is w t = t.kind ≡ ASign w

abbrev pub IsWord : Keyword → Placed → Type 0
IsWord w t = t.kind ≡ Reserved w

abbrev pub IsName : List ℕ → Placed → Type 0
IsName x t = t.kind ≡ Name x

-- {('<<' | '>>>' | '>>' | '#>>') NUMBER}
pub data Shifts : List Placed → List Placed → List (ShOp × ℕ) → Type 0 where
  no_shift : (a : List Placed) → Shifts a a []
  next_shift : (t u : Placed) (a b : List Placed) (o : ShOp) (n : ℕ) (ns : List (ShOp × ℕ))
      → shift_operator t.kind ≡ Some o → u.kind ≡ Number n → Shifts a b ns → Shifts (t ∷ u ∷ a) b ((o, n) ∷ ns)

-- {'.' NUMBER}
pub data Fields : List Placed → List Placed → List ℕ → Type 0 where
  no_field : (a : List Placed) → Fields a a []
  next_field : (t u : Placed) (a b : List Placed) (i : ℕ) (is : List ℕ)
      → Is sign.Dot t → u.kind ≡ Number i → Fields a b is → Fields (t ∷ u ∷ a) b (i ∷ is)

module _ (May : ℕ → List Placed → Type 0) where
  -- ---- shapes

  mutual
    -- shape := NUMBER (at least 1) | '{' shape {',' shape} '}'
    pub data AShape : ℕ → List Placed → List Placed → Shape → Type 0 where
      one_word : (k : ℕ) (t : Placed) (a : List Placed) → t.kind ≡ Number 1 → AShape k (t ∷ a) a shape.Word
      many_words : (k : ℕ) (t : Placed) (a : List Placed) (n : ℕ) → t.kind ≡ Number n → 2 ≤ n → AShape k (t ∷ a) a (shape.Words n)
      group : (k : ℕ) (t u : Placed) (a b c : List Placed) (x : Shape) (xs : List Shape)
          → Is sign.OpenBrace t → May (k + 1) (t ∷ a) → AShape (k + 1) a b x → MoreShapes (k + 1) b (u ∷ c) xs → Is sign.CloseBrace u
          → AShape k (t ∷ a) c (shape.Group (x ∷ xs))

    -- {',' shape}
    pub data MoreShapes : ℕ → List Placed → List Placed → List Shape → Type 0 where
      no_shape : (k : ℕ) (a : List Placed) → MoreShapes k a a []
      next_shape : (k : ℕ) (t : Placed) (a b c : List Placed) (x : Shape) (xs : List Shape)
          → Is sign.Comma t → AShape k a b x → MoreShapes k b c xs → MoreShapes k (t ∷ a) c (x ∷ xs)

  -- ---- expressions

  mutual
    -- expr := bor [('==' | '!=' | '<' | '>=' | '<+' | '>=+') bor]
    pub data AnExpr : ℕ → List Placed → List Placed → Expr → Type 0 where
      no_comparison : (k : ℕ) (a b : List Placed) (x : Expr) → Chain level.Or k a b x → AnExpr k a b x
      one_comparison : (k : ℕ) (t : Placed) (a b c : List Placed) (o : Cmp) (x y : Expr)
          → Chain level.Or k a (t ∷ b) x → comparison t.kind ≡ Some o → Chain level.Or k b c y
          → AnExpr k a c (node a c (e.Compare o x y))

    -- bor := bxor {'|' bxor}; bxor := band {'^' band}; band := shift {'&' shift}; sum := product {('+' | '-') product}; product := unary {'*' unary}
    pub data Chain : Level → ℕ → List Placed → List Placed → Expr → Type 0 where
      chained : (l : Level) (k : ℕ) (a b c : List Placed) (x : Expr) (ys : List (BinOp × Expr))
          → Operand l k a b x → Terms l k b c ys → Chain l k a c (chain a c x ys)

    -- what stands between the operators of a level
    pub data Operand : Level → ℕ → List Placed → List Placed → Expr → Type 0 where
      of_or : (k : ℕ) (a b : List Placed) (x : Expr) → Chain level.Xor k a b x → Operand level.Or k a b x
      of_xor : (k : ℕ) (a b : List Placed) (x : Expr) → Chain level.And k a b x → Operand level.Xor k a b x
      of_and : (k : ℕ) (a b : List Placed) (x : Expr) → AShift k a b x → Operand level.And k a b x
      of_sum : (k : ℕ) (a b : List Placed) (x : Expr) → Chain level.Product k a b x → Operand level.Sum k a b x
      of_product : (k : ℕ) (a b : List Placed) (x : Expr) → Unary k a b x → Operand level.Product k a b x

    -- the operators of a level, each with what stands behind it
    pub data Terms : Level → ℕ → List Placed → List Placed → List (BinOp × Expr) → Type 0 where
      no_term : (l : Level) (k : ℕ) (a : List Placed) → Terms l k a a []
      next_term : (l : Level) (k : ℕ) (t : Placed) (a b c : List Placed) (o : BinOp) (y : Expr) (ys : List (BinOp × Expr))
          → operator_at l t.kind ≡ Some o → Operand l k a b y → Terms l k b c ys → Terms l k (t ∷ a) c ((o, y) ∷ ys)

    -- shift := sum {('<<' | '>>>' | '>>' | '#>>') NUMBER}
    pub data AShift : ℕ → List Placed → List Placed → Expr → Type 0 where
      shift : (k : ℕ) (a b c : List Placed) (x : Expr) (ns : List (ShOp × ℕ))
          → Chain level.Sum k a b x → Shifts b c ns → AShift k a c (shifted a c x ns)

    -- unary := '-' unary | 'lds' shape unary | 'ldb' unary | postfix, where postfix := primary {'.' NUMBER}
    pub data Unary : ℕ → List Placed → List Placed → Expr → Type 0 where
      negation : (k : ℕ) (t : Placed) (a b : List Placed) (x : Expr)
          → Is sign.Minus t → May (k + 1) (t ∷ a) → Unary (k + 1) a b x → Unary k (t ∷ a) b (node (t ∷ a) b (e.Neg x))
      load_words : (k : ℕ) (t : Placed) (a b c : List Placed) (z : Shape) (x : Expr)
          → IsWord keyword.Lds t → May (k + 1) (t ∷ a) → AShape (k + 1) a b z → Unary (k + 1) b c x
          → Unary k (t ∷ a) c (node (t ∷ a) c (e.Load z x))
      load_byte : (k : ℕ) (t : Placed) (a b : List Placed) (x : Expr)
          → IsWord keyword.Ldb t → May (k + 1) (t ∷ a) → Unary (k + 1) a b x → Unary k (t ∷ a) b (node (t ∷ a) b (e.LoadByte x))
      postfix : (k : ℕ) (a b c : List Placed) (x : Expr) (is : List ℕ)
          → Primary k a b x → Fields b c is → Unary k a c (field a c x is)

    -- primary := NUMBER | NAME | '@base' | '@biw' | '(' expr ')' | '<' expr {',' expr} '>'
    pub data Primary : ℕ → List Placed → List Placed → Expr → Type 0 where
      number : (k : ℕ) (t : Placed) (a : List Placed) (n : ℕ) → t.kind ≡ Number n → Primary k (t ∷ a) a (node (t ∷ a) a (e.Number n))
      variable : (k : ℕ) (t : Placed) (a : List Placed) (x : List ℕ) → IsName x t → Primary k (t ∷ a) a (node (t ∷ a) a (e.Var x))
      base : (k : ℕ) (t : Placed) (a : List Placed) → t.kind ≡ Base → Primary k (t ∷ a) a (node (t ∷ a) a e.Base)
      biw : (k : ℕ) (t : Placed) (a : List Placed) → t.kind ≡ Biw → Primary k (t ∷ a) a (node (t ∷ a) a e.Biw)
      parentheses : (k : ℕ) (t u : Placed) (a b : List Placed) (x : Expr)
          → Is sign.OpenParen t → May (k + 1) (t ∷ a) → AnExpr (k + 1) a (u ∷ b) x → Is sign.CloseParen u → Primary k (t ∷ a) b x
      struct : (k : ℕ) (t u : Placed) (a b c : List Placed) (x : Expr) (xs : List Expr)
          → Is sign.Less t → May (k + 1) (t ∷ a) → AnExpr (k + 1) a b x → MoreExprs (k + 1) b (u ∷ c) xs → Is sign.Greater u
          → Primary k (t ∷ a) c (node (t ∷ a) c (e.Struct (x ∷ xs)))

    -- {',' expr}
    pub data MoreExprs : ℕ → List Placed → List Placed → List Expr → Type 0 where
      no_expr : (k : ℕ) (a : List Placed) → MoreExprs k a a []
      next_expr : (k : ℕ) (t : Placed) (a b c : List Placed) (x : Expr) (xs : List Expr)
          → Is sign.Comma t → AnExpr k a b x → MoreExprs k b c xs → MoreExprs k (t ∷ a) c (x ∷ xs)

  -- ---- statements

  -- [expr {',' expr}]
  pub data Arguments : ℕ → List Placed → List Placed → List Expr → Type 0 where
    no_argument : (k : ℕ) (a : List Placed) → Arguments k a a []
    arguments : (k : ℕ) (a b c : List Placed) (x : Expr) (xs : List Expr) → AnExpr k a b x → MoreExprs k b c xs → Arguments k a c (x ∷ xs)

  -- plain := NAME '(' [expr {',' expr}] ')'
  pub data Plain : ℕ → List Placed → List Placed → List ℕ → List Expr → Type 0 where
    plain : (k : ℕ) (t u v : Placed) (a b : List Placed) (f : List ℕ) (xs : List Expr)
        → IsName f t → Is sign.OpenParen u → Arguments k a (v ∷ b) xs → Is sign.CloseParen v → Plain k (t ∷ u ∷ a) b f xs

  -- expr ';'
  pub data ExprEnd : ℕ → List Placed → List Placed → Expr → Type 0 where
    expr_end : (k : ℕ) (t : Placed) (a b : List Placed) (x : Expr) → AnExpr k a (t ∷ b) x → Is sign.Semicolon t → ExprEnd k a b x

  -- expr ',' expr ';'
  pub data TwoExprs : ℕ → List Placed → List Placed → Expr → Expr → Type 0 where
    two_exprs : (k : ℕ) (t : Placed) (a b c : List Placed) (x y : Expr)
        → AnExpr k a (t ∷ b) x → Is sign.Comma t → ExprEnd k b c y → TwoExprs k a c x y

  mutual
    pub data AStmt : ℕ → List Placed → List Placed → Stmt → Type 0 where
      -- 'skip' ';'
      skip : (k : ℕ) (t u : Placed) (a : List Placed) → IsWord keyword.Skip t → Is sign.Semicolon u → AStmt k (t ∷ u ∷ a) a (node (t ∷ u ∷ a) a s.Skip)
      -- 'var' NAME '=' (call | expr) ';'
      declaration : (k : ℕ) (t u v : Placed) (a b : List Placed) (x : List ℕ) (y : Expr)
          → IsWord keyword.Var t → IsName x u → Is sign.Assign v → ExprEnd k a b y
          → AStmt k (t ∷ u ∷ v ∷ a) b (node (t ∷ u ∷ v ∷ a) b (s.Decl x y))
      declaration_call : (k : ℕ) (t u v : Placed) (a b : List Placed) (x f : List ℕ) (ys : List Expr) (h : Option Handler)
          → IsWord keyword.Var t → IsName x u → Is sign.Assign v → CallEnd k a b f ys h
          → AStmt k (t ∷ u ∷ v ∷ a) b (node (t ∷ u ∷ v ∷ a) b (s.Call (record { into = target.New x; function = f; args = ys; handler = h })))
      -- NAME '=' (call | LOAD expr | expr) ';'
      assignment : (k : ℕ) (t u : Placed) (a b : List Placed) (x : List ℕ) (y : Expr)
          → IsName x t → Is sign.Assign u → ExprEnd k a b y → AStmt k (t ∷ u ∷ a) b (node (t ∷ u ∷ a) b (s.Assign x y))
      assignment_call : (k : ℕ) (t u : Placed) (a b : List Placed) (x f : List ℕ) (ys : List Expr) (h : Option Handler)
          → IsName x t → Is sign.Assign u → CallEnd k a b f ys h
          → AStmt k (t ∷ u ∷ a) b (node (t ∷ u ∷ a) b (s.Call (record { into = target.Old x; function = f; args = ys; handler = h })))
      shared_load : (k : ℕ) (t u v : Placed) (a b : List Placed) (x : List ℕ) (n : Size) (y : Expr)
          → IsName x t → Is sign.Assign u → v.kind ≡ Load n → ExprEnd k a b y
          → AStmt k (t ∷ u ∷ v ∷ a) b (node (t ∷ u ∷ v ∷ a) b (s.SharedLoad n x y))
      -- call ';'
      call : (k : ℕ) (a b : List Placed) (f : List ℕ) (ys : List Expr) (h : Option Handler)
          → CallEnd k a b f ys h → AStmt k a b (node a b (s.Call (record { into = target.Nothing; function = f; args = ys; handler = h })))
      -- 'st' expr ',' expr ';' and 'stb' expr ',' expr ';'
      store_words : (k : ℕ) (t : Placed) (a b : List Placed) (x y : Expr)
          → IsWord keyword.St t → TwoExprs k a b x y → AStmt k (t ∷ a) b (node (t ∷ a) b (s.StoreWords x y))
      store_byte : (k : ℕ) (t : Placed) (a b : List Placed) (x y : Expr)
          → IsWord keyword.Stb t → TwoExprs k a b x y → AStmt k (t ∷ a) b (node (t ∷ a) b (s.StoreByte x y))
      -- 'if' expr block 'else' block
      branch : (k : ℕ) (t u : Placed) (a b c d : List Placed) (x : Expr) (y z : Block)
          → IsWord keyword.If t → AnExpr k a b x → ABlock k b (u ∷ c) y → IsWord keyword.Else u → ABlock k c d z
          → AStmt k (t ∷ a) d (node (t ∷ a) d (s.If x y z))
      -- 'while' expr block
      loop : (k : ℕ) (t : Placed) (a b c : List Placed) (x : Expr) (y : Block)
          → IsWord keyword.While t → AnExpr k a b x → ABlock k b c y → AStmt k (t ∷ a) c (node (t ∷ a) c (s.While x y))
      -- 'break' ';' and 'continue' ';'
      break : (k : ℕ) (t u : Placed) (a : List Placed) → IsWord keyword.Break t → Is sign.Semicolon u → AStmt k (t ∷ u ∷ a) a (node (t ∷ u ∷ a) a s.Break)
      continue : (k : ℕ) (t u : Placed) (a : List Placed) → IsWord keyword.Continue t → Is sign.Semicolon u → AStmt k (t ∷ u ∷ a) a (node (t ∷ u ∷ a) a s.Continue)
      -- 'return' (plain | expr) ';'
      return : (k : ℕ) (t : Placed) (a b : List Placed) (x : Expr)
          → IsWord keyword.Return t → ExprEnd k a b x → AStmt k (t ∷ a) b (node (t ∷ a) b (s.Return x))
      tail_call : (k : ℕ) (t u : Placed) (a b : List Placed) (f : List ℕ) (xs : List Expr)
          → IsWord keyword.Return t → Plain k a (u ∷ b) f xs → Is sign.Semicolon u → AStmt k (t ∷ a) b (node (t ∷ a) b (s.TailCall f xs))
      -- 'raise' NAME expr ';'
      raise : (k : ℕ) (t u : Placed) (a b : List Placed) (x : List ℕ) (y : Expr)
          → IsWord keyword.Raise t → IsName x u → ExprEnd k a b y → AStmt k (t ∷ u ∷ a) b (node (t ∷ u ∷ a) b (s.Raise x y))
      -- STORE expr ',' expr ';'
      shared_store : (k : ℕ) (t : Placed) (a b : List Placed) (n : Size) (x y : Expr)
          → t.kind ≡ Store n → TwoExprs k a b x y → AStmt k (t ∷ a) b (node (t ∷ a) b (s.SharedStore n x y))
      -- FOREIGN '(' expr ',' expr ',' expr ',' expr ')' ';'
      foreign : (k : ℕ) (t u v w m n o : Placed) (a b c d f : List Placed) (x : List ℕ) (p q r z : Expr)
          → t.kind ≡ Foreign x → Is sign.OpenParen u → AnExpr k a (v ∷ b) p → Is sign.Comma v → AnExpr k b (w ∷ c) q → Is sign.Comma w
          → AnExpr k c (m ∷ d) r → Is sign.Comma m → AnExpr k d (n ∷ o ∷ f) z → Is sign.CloseParen n → Is sign.Semicolon o
          → AStmt k (t ∷ u ∷ a) f (node (t ∷ u ∷ a) f (s.Foreign x p q r z))

    -- call ';' where call := plain ['handle' NAME NAME block]
    pub data CallEnd : ℕ → List Placed → List Placed → List ℕ → List Expr → Option Handler → Type 0 where
      call_end : (k : ℕ) (t : Placed) (a b c : List Placed) (f : List ℕ) (xs : List Expr) (h : Option Handler)
          → Plain k a b f xs → MayHandle k b (t ∷ c) h → Is sign.Semicolon t → CallEnd k a c f xs h

    -- ['handle' NAME NAME block]
    pub data MayHandle : ℕ → List Placed → List Placed → Option Handler → Type 0 where
      no_handler : (k : ℕ) (a : List Placed) → MayHandle k a a None
      handler : (k : ℕ) (t u v : Placed) (a b : List Placed) (i x : List ℕ) (y : Block)
          → IsWord keyword.Handle t → IsName i u → IsName x v → ABlock k a b y
          → MayHandle k (t ∷ u ∷ v ∷ a) b (Some (record { exception = i; name = x; body = y }))

    -- block := '{' stmt* '}'
    pub data ABlock : ℕ → List Placed → List Placed → Block → Type 0 where
      block : (k : ℕ) (t u : Placed) (a b : List Placed) (xs : List Stmt)
          → Is sign.OpenBrace t → May (k + 1) (t ∷ a) → Stmts (k + 1) a (u ∷ b) xs → Is sign.CloseBrace u
          → ABlock k (t ∷ a) b (record { stmts = xs })

    -- stmt*
    pub data Stmts : ℕ → List Placed → List Placed → List Stmt → Type 0 where
      no_stmt : (k : ℕ) (a : List Placed) → Stmts k a a []
      next_stmt : (k : ℕ) (a b c : List Placed) (x : Stmt) (xs : List Stmt) → AStmt k a b x → Stmts k b c xs → Stmts k a c (x ∷ xs)

  -- ---- programs

  -- param := shape NAME
  pub data AParam : ℕ → List Placed → List Placed → Param → Type 0 where
    param : (k : ℕ) (t : Placed) (a b : List Placed) (z : Shape) (x : List ℕ)
        → AShape k a (t ∷ b) z → IsName x t → AParam k a b (record { name = x; shape = z })

  -- {',' param}
  pub data MoreParams : ℕ → List Placed → List Placed → List Param → Type 0 where
    no_param : (k : ℕ) (a : List Placed) → MoreParams k a a []
    next_param : (k : ℕ) (t : Placed) (a b c : List Placed) (x : Param) (xs : List Param)
        → Is sign.Comma t → AParam k a b x → MoreParams k b c xs → MoreParams k (t ∷ a) c (x ∷ xs)

  -- [param {',' param}]
  pub data Params : ℕ → List Placed → List Placed → List Param → Type 0 where
    no_params : (k : ℕ) (a : List Placed) → Params k a a []
    params : (k : ℕ) (a b c : List Placed) (x : Param) (xs : List Param) → AParam k a b x → MoreParams k b c xs → Params k a c (x ∷ xs)

  -- [shape], where none is one word
  pub data Result : ℕ → List Placed → List Placed → Shape → Type 0 where
    no_result : (k : ℕ) (a : List Placed) → Result k a a shape.Word
    result : (k : ℕ) (a b : List Placed) (z : Shape) → AShape k a b z → Result k a b z

  -- 'exception' NAME shape ';'
  pub data AnException : List Placed → List Placed → Exception → Type 0 where
    exception : (t u v : Placed) (a b : List Placed) (x : List ℕ) (z : Shape)
        → IsWord keyword.Exception t → IsName x u → AShape 0 a (v ∷ b) z → Is sign.Semicolon v
        → AnException (t ∷ u ∷ a) b (record { name = x; shape = z; span = between (t ∷ u ∷ a) b })

  -- 'fun' [shape] NAME '(' [param {',' param}] ')' block
  pub data AFunction : List Placed → List Placed → Function → Type 0 where
    function : (t u v w : Placed) (a b c d : List Placed) (z : Shape) (f : List ℕ) (xs : List Param) (y : Block)
        → IsWord keyword.Fun t → Result 0 a (u ∷ v ∷ b) z → IsName f u → Is sign.OpenParen v → Params 0 b (w ∷ c) xs → Is sign.CloseParen w → ABlock 0 c d y
        → AFunction (t ∷ a) d (record { name = f; params = xs; result = z; body = y; span = between (t ∷ a) d })

  -- item*, where an item is an exception or a function
  pub data Items : List Placed → List Exception → List Function → Type 0 where
    no_item : Items [] [] []
    next_exception : (a b : List Placed) (x : Exception) (xs : List Exception) (fs : List Function)
        → AnException a b x → Items b xs fs → Items a (x ∷ xs) fs
    next_function : (a b : List Placed) (f : Function) (xs : List Exception) (fs : List Function)
        → AFunction a b f → Items b xs fs → Items a xs (f ∷ fs)

-- program := item*
abbrev pub IsProgram : (ℕ → List Placed → Type 0) → List Placed → Program → Type 0
IsProgram May tokens p = Items May tokens p.exceptions p.functions

-- the tokens spell the program, however deep it nests
abbrev pub Derives : List Placed → Program → Type 0
Derives tokens p = IsProgram (λ j rest. Unit {0}) tokens p

-- how deep a program may nest
abbrev pub nesting_limit : ℕ
nesting_limit = 128

-- a token that nests j deep may stand
abbrev pub Within : ℕ → List Placed → Type 0
Within j rest = j ≤ nesting_limit

-- the tokens spell the program, and none nests deeper than the limit
abbrev pub Tree : List Placed → Program → Type 0
Tree tokens p = IsProgram Within tokens p

-- some program begins with these tokens
abbrev pub Viable : List Placed → Type 0
Viable tokens = (more : List Placed) × (p : Program) × Derives (tokens ++ more) p
