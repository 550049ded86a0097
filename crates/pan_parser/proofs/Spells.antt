-- What the symbols of a stack spell of the tokens, one after another.
use Rattle.std.proofs.Common.{◌≡◌, ◌⊎◌, ℕ, Bool, true, false, List, [], ◌∷◌, Option}
use Rattle.pan_base.specs.declared.operators.BinOp.{BinOp}
use Rattle.pan_base.specs.declared.operators.ShOp.{ShOp}
use Rattle.pan_base.specs.declared.events.Size.{Size}
use Rattle.pan_base.specs.Tokens.{Placed, Number, Load}
use Rattle.pan_tree.specs.declared.level.Level.TheVariants as level
use Rattle.pan_tree.specs.declared.shape.Shape.{Shape}
use Rattle.pan_tree.specs.declared.program.Param.{Param}
use Rattle.pan_tree.specs.declared.program.Exception.{Exception}
use Rattle.pan_tree.specs.declared.program.Function.{Function}
use Rattle.pan_tree.specs.Nodes.{Expr}
use Rattle.pan_tree.specs.Grammar as grammar
use Rattle.pan_tree.specs.Grammar.{Stmt, Block, Handler, Is, IsWord, IsName}
use Rattle.pan_parser.specs.Machine as machine
use Rattle.pan_parser.specs.Machine.{Symbol, WantSign, WantWord, WantName, WantNumber, WantShape, MayShape, WantExpr, MayCompare, WantChain, WantOperand, MoreTerms, WantShift, MoreShifts, WantUnary, WantPrimary, MoreFields, MayArguments, WantPlain, WantDeclared, WantAssigned, WantReturned, AfterName, AfterStmtName, WantStmt, MoreStmts, WantBlock, WantParam, MayParams, MoreItems, Stack, Step, Goes, Refused, Deep}

module _ (May : ℕ → List Placed → Type 0) where
  -- a call, which may have a handler or not
  abbrev pub Call : Bool → ℕ → List Placed → List Placed → Type 0
  Call false k a b = (f : List ℕ) × (xs : List Expr) × grammar.Plain May k a b f xs
  Call true k a b = (f : List ℕ) × (xs : List Expr) × (c : List Placed) × (h : Option Handler) × grammar.Plain May k a c f xs × grammar.MayHandle May k c b h

  -- an expression, or a call
  abbrev pub Value : Bool → ℕ → List Placed → List Placed → Type 0
  Value handles k a b = ((x : Expr) × grammar.AnExpr May k a b x) ⊎ Call handles k a b

  -- the load of a shared value
  abbrev pub SharedLoad : ℕ → List Placed → List Placed → Type 0
  SharedLoad k a b = (t : Placed) × (c : List Placed) × (n : Size) × (x : Expr) × (a ≡ t ∷ c) × (t.kind ≡ Load n) × grammar.AnExpr May k c b x

  -- The tokens of a that come before b spell what the symbol says. A symbol that ends what began before it says what it makes of each beginning.
  abbrev pub Reads : Symbol → List Placed → List Placed → Type 0
  Reads (WantSign w) a b = (t : Placed) × (a ≡ t ∷ b) × Is w t
  Reads (WantWord w) a b = (t : Placed) × (a ≡ t ∷ b) × IsWord w t
  Reads WantName a b = (t : Placed) × (x : List ℕ) × (a ≡ t ∷ b) × IsName x t
  Reads WantNumber a b = (t : Placed) × (i : ℕ) × (a ≡ t ∷ b) × (t.kind ≡ Number i)
  Reads (WantShape k) a b = (z : Shape) × grammar.AShape May k a b z
  Reads (machine.MoreShapes k) a b = (zs : List Shape) × grammar.MoreShapes May k a b zs
  Reads (MayShape k) a b = (z : Shape) × grammar.Result May k a b z
  Reads (WantExpr k) a b = (x : Expr) × grammar.AnExpr May k a b x
  Reads (MayCompare k) a b = (p : List Placed) (x : Expr) → grammar.Chain May level.Or k p a x → (y : Expr) × grammar.AnExpr May k p b y
  Reads (WantChain l k) a b = (x : Expr) × grammar.Chain May l k a b x
  Reads (WantOperand l k) a b = (x : Expr) × grammar.Operand May l k a b x
  Reads (MoreTerms l k) a b = (ys : List (BinOp × Expr)) × grammar.Terms May l k a b ys
  Reads (WantShift k) a b = (x : Expr) × grammar.AShift May k a b x
  Reads MoreShifts a b = (ns : List (ShOp × ℕ)) × grammar.Shifts a b ns
  Reads (WantUnary k) a b = (x : Expr) × grammar.Unary May k a b x
  Reads (WantPrimary k) a b = (x : Expr) × grammar.Primary May k a b x
  Reads MoreFields a b = (is : List ℕ) × grammar.Fields a b is
  Reads (machine.MoreExprs k) a b = (xs : List Expr) × grammar.MoreExprs May k a b xs
  Reads (MayArguments k) a b = (xs : List Expr) × grammar.Arguments May k a b xs
  Reads (WantPlain k) a b = Call false k a b
  Reads (WantDeclared k) a b = Value true k a b
  Reads (WantAssigned k) a b = Value true k a b ⊎ SharedLoad k a b
  Reads (WantReturned k) a b = Value false k a b
  Reads (AfterName handles k) a b = (t : Placed) (x : List ℕ) → IsName x t → Value handles k (t ∷ a) b
  Reads (AfterStmtName k) a b = (t : Placed) (x : List ℕ) → IsName x t → (y : Stmt) × grammar.AStmt May k (t ∷ a) b y
  Reads (machine.MayHandle k) a b = (h : Option Handler) × grammar.MayHandle May k a b h
  Reads (WantStmt k) a b = (x : Stmt) × grammar.AStmt May k a b x
  Reads (MoreStmts k) a b = (xs : List Stmt) × grammar.Stmts May k a b xs
  Reads (WantBlock k) a b = (y : Block) × grammar.ABlock May k a b y
  Reads (WantParam k) a b = (x : Param) × grammar.AParam May k a b x
  Reads (machine.MoreParams k) a b = (xs : List Param) × grammar.MoreParams May k a b xs
  Reads (MayParams k) a b = (xs : List Param) × grammar.Params May k a b xs
  Reads MoreItems a b = (xs : List Exception) (fs : List Function) → grammar.Items May b xs fs → (ys : List Exception) × (gs : List Function) × grammar.Items May a ys gs

  -- the tokens spell the symbols of the stack, one after the other, down to the end
  abbrev pub Spells : Stack → List Placed → Type 0
  Spells [] a = a ≡ []
  Spells (x ∷ K) a = (b : List Placed) × Reads x a b × Spells K b

  -- what must come behind a step; where Free holds, a bracket too many may be opened
  abbrev pub After : Type 0 → Step → List Placed → Type 0
  After Free (Goes K) a = Spells K a
  After Free Refused a = ⊥
  After Free (Deep K) a = Free × Spells K a
