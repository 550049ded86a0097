-- What a reading function promises of the machine: that it has read some symbols, or where it stops in them.
use Rattle.std.specs.Prelude.{◌≡◌, ℕ, zero, suc, ◌<◌, ◌≤◌, Bool, true, false, ◌&&◌, List, [], ◌∷◌, ◌++◌, length, drop, Option, Some, None}
use Rattle.pan_base.specs.declared.tokens.Sign.{Sign}
use Rattle.pan_base.specs.declared.tokens.Sign.TheVariants as sign
use Rattle.pan_base.specs.declared.tokens.Keyword.TheVariants as keyword
use Rattle.pan_base.specs.Tokens.{Placed, Kind, Name, Reserved, Load, ASign}
use Rattle.pan_lexer.specs.TokenRow.{TokenRow, IsSpelled}
use Rattle.pan_tree.specs.declared.shape.Shape.{Shape}
use Rattle.pan_tree.specs.declared.shape.Shape.TheVariants as shape
use Rattle.pan_tree.specs.declared.syntax.StmtKind.{StmtKind}
use Rattle.pan_tree.specs.Nodes.{Expr, node}
use Rattle.pan_tree.specs.Grammar.{Is, IsName, Stmt, nesting_limit, Within, AShape, MoreShapes, AnExpr, MoreExprs, Arguments, AStmt, Stmts}
use Rattle.pan_parser.specs.declared.error.ParseError.{ParseError}
use Rattle.pan_parser.specs.declared.error.ParseError.TheVariants as error
use Rattle.pan_parser.specs.Machine.{Stack, WantSign, WantExpr, is_sign, run, Refuses, TooDeep}
use Rattle.pan_parser.specs.Answers.{place_of}
use Rattle.pan_parser.specs.Follow.{BeginsNot, NoSign}

-- the tokens from this one on
unfoldable pub left : TokenRow → ℕ → List Placed
left row at = drop at row.tokens

-- this token stands between the two places
pub record Comes (row : TokenRow) (at after : ℕ) (t : Placed) : Type 0 where
  pub all : left row at ≡ t ∷ left row after
  pub ahead : at < after
  pub within : after ≤ length row.tokens
  pub spelled : IsSpelled t.kind

-- one token stands between the two places, and it is this
pub record IsOne (row : TokenRow) (at after : ℕ) (kind : Kind) : Type 0 where
  pub token : Placed
  pub comes : Comes row at after token
  pub is : token.kind ≡ kind

-- one token stands between the two places, and it has this meaning
pub record Means {A : Type 0} (row : TokenRow) (at after : ℕ) (meaning : Kind → Option A) (a : A) : Type 0 where
  pub token : Placed
  pub comes : Comes row at after token
  pub is : meaning token.kind ≡ Some a

-- whatever is to come later, the machine reads these symbols from the one place to the other
pub record Reads (J : Stack) (a b : List Placed) : Type 0 where
  pub by : (K : Stack) → run nesting_limit a (J ++ K) ≡ run nesting_limit b K

-- whatever is to come later, the machine stops in these symbols as the error says
abbrev pub StopsIn : ℕ → Stack → List Placed → ParseError → Type 0
StopsIn end J a error.NoMemory = Unit {0}
StopsIn end J a (error.Syntax place) = (rest : List Placed) × (place ≡ place_of rest end) × ((K : Stack) → run nesting_limit a (J ++ K) ≡ Refuses rest)
StopsIn end J a (error.TooDeep place) = (rest : List Placed) × (place ≡ place_of rest end) × ((K : Stack) → run nesting_limit a (J ++ K) ≡ TooDeep rest)

pub record Stops (end : ℕ) (J : Stack) (a : List Placed) (e : ParseError) : Type 0 where
  pub by : StopsIn end J a e

-- ---- shapes

-- the shape of so many words
abbrev pub width : ℕ → Option Shape
width zero = None
width (suc zero) = Some shape.Word
width (suc (suc n)) = Some (shape.Words (suc (suc n)))

-- shape {',' shape}
pub record SomeShapes (k : ℕ) (a c : List Placed) (zs : List Shape) : Type 0 where
  pub one : Shape
  pub others : List Shape
  pub are : zs ≡ one ∷ others
  pub between : List Placed
  pub first : AShape Within k a between one
  pub more : MoreShapes Within k between c others

-- ---- expressions

-- expr {',' expr}
pub record SomeExprs (k : ℕ) (a c : List Placed) (zs : List Expr) : Type 0 where
  pub one : Expr
  pub others : List Expr
  pub are : zs ≡ one ∷ others
  pub between : List Placed
  pub first : AnExpr Within k a between one
  pub more : MoreExprs Within k between c others

-- the token is an operator before an expression
abbrev pub is_prefix : Kind → Bool
is_prefix (ASign sign.Minus) = true
is_prefix (Reserved keyword.Lds) = true
is_prefix (Reserved keyword.Ldb) = true
is_prefix _ = false

-- no such operator comes
abbrev pub NoPrefix : List Placed → Type 0
NoPrefix = BeginsNot (λ v. is_prefix v ≡ false)

-- ---- calls

abbrev pub is_name : Kind → Bool
is_name (Name x) = true
is_name _ = false

-- a name and a parenthesis come
abbrev pub begins_call : List Placed → Bool
begins_call (t ∷ u ∷ a) = is_name t.kind && is_sign sign.OpenParen u.kind
begins_call _ = false

-- [expr {',' expr}] ')'
pub record ClosedArguments (k : ℕ) (a c : List Placed) (xs : List Expr) : Type 0 where
  pub close : Placed
  pub is : Is sign.CloseParen close
  pub arguments : Arguments Within k a (close ∷ c) xs

-- an expression, and this sign behind it
pub record ExprThen (w : Sign) (k : ℕ) (a c : List Placed) (x : Expr) : Type 0 where
  pub close : Placed
  pub is : Is w close
  pub tree : AnExpr Within k a (close ∷ c) x

-- ---- statements

-- the token is a load of shared memory
abbrev pub is_load : Kind → Bool
is_load (Load size) = true
is_load _ = false

-- no load comes
abbrev pub NoLoad : List Placed → Type 0
NoLoad = BeginsNot (λ v. is_load v ≡ false)

-- a name comes, and no `=` behind it
abbrev pub NoAssignment : List Placed → Type 0
NoAssignment [] = ⊥
NoAssignment (t ∷ a) = (is_name t.kind ≡ true) × NoSign sign.Assign a

-- a token of this kind and what follows it spell the statement
abbrev pub Behind : Kind → ℕ → List Placed → List Placed → StmtKind → Type 0
Behind v k a b s = (t : Placed) → t.kind ≡ v → AStmt Within k (t ∷ a) b (node (t ∷ a) b s)

-- a name, `=` and what follows them spell the statement
abbrev pub BehindAssign : List ℕ → ℕ → List Placed → List Placed → StmtKind → Type 0
BehindAssign x k a b s = (t u : Placed) → IsName x t → Is sign.Assign u → AStmt Within k (t ∷ u ∷ a) b (node (t ∷ u ∷ a) b s)

-- what follows the name of a foreign function
abbrev pub foreign_rest : ℕ → Stack
foreign_rest k =
    WantSign sign.OpenParen ∷ WantExpr k ∷ WantSign sign.Comma ∷ WantExpr k ∷ WantSign sign.Comma ∷ WantExpr k ∷ WantSign sign.Comma ∷ WantExpr k
    ∷ WantSign sign.CloseParen ∷ WantSign sign.Semicolon ∷ []

-- stmt* '}'
pub record ClosedStmts (k : ℕ) (a c : List Placed) (xs : List Stmt) : Type 0 where
  pub close : Placed
  pub is : Is sign.CloseBrace close
  pub stmts : Stmts Within k a (close ∷ c) xs
