-- The grammar as a machine: what must still come is a stack of symbols, and each token takes one step.
use Rattle.std.specs.Prelude.{ℕ, zero, suc, ◌+◌, Bool, true, false, if◌then◌else◌, List, [], ◌∷◌, Option, Some, None, nat_eq, nat_lt}
use Rattle.pan_base.specs.declared.tokens.Keyword.{Keyword}
use Rattle.pan_base.specs.declared.tokens.Keyword.TheVariants as keyword
use Rattle.pan_base.specs.declared.tokens.Sign.{Sign}
use Rattle.pan_base.specs.declared.tokens.Sign.TheVariants as sign
use Rattle.pan_base.specs.Tokens.{Placed, Kind, Name, Reserved, Number, Load, Store, Foreign, Base, Biw, ASign}
use Rattle.pan_tree.specs.declared.level.Level.{Level}
use Rattle.pan_tree.specs.declared.level.Level.TheVariants as level
use Rattle.pan_tree.specs.Nodes.{operator_at, shift_operator, comparison}

-- What may come: `Want..` must, `More..` may again and again, `May..` may once. Each carries how many brackets and prefix operators are open there.
pub data Symbol : Type 0 where
  WantSign : Sign → Symbol
  WantWord : Keyword → Symbol
  WantName : Symbol
  WantNumber : Symbol
  WantShape : ℕ → Symbol
  MoreShapes : ℕ → Symbol
  MayShape : ℕ → Symbol
  WantExpr : ℕ → Symbol
  MayCompare : ℕ → Symbol
  WantChain : Level → ℕ → Symbol
  WantOperand : Level → ℕ → Symbol
  MoreTerms : Level → ℕ → Symbol
  WantShift : ℕ → Symbol
  MoreShifts : Symbol
  WantUnary : ℕ → Symbol
  WantPrimary : ℕ → Symbol
  MoreFields : Symbol
  MoreExprs : ℕ → Symbol
  MayArguments : ℕ → Symbol
  WantPlain : ℕ → Symbol
  -- an expression or a call, with a handler or without one, after `var NAME =`, after `NAME =` and after `return`
  WantDeclared : ℕ → Symbol
  WantAssigned : ℕ → Symbol
  WantReturned : ℕ → Symbol
  -- after a name that begins an expression or a call, which may have a handler or not
  AfterName : Bool → ℕ → Symbol
  -- after a name that begins a statement
  AfterStmtName : ℕ → Symbol
  MayHandle : ℕ → Symbol
  WantStmt : ℕ → Symbol
  MoreStmts : ℕ → Symbol
  WantBlock : ℕ → Symbol
  WantParam : ℕ → Symbol
  MoreParams : ℕ → Symbol
  MayParams : ℕ → Symbol
  MoreItems : Symbol

abbrev pub Stack : Type 0
Stack = List Symbol

-- what a token does: it goes on, or continues nothing, or goes on but is one bracket too many
pub data Step : Type 0 where
  Goes : Stack → Step
  Refused : Step
  Deep : Stack → Step

-- ---- tokens

-- the number of a sign
abbrev pub sign_order : Sign → ℕ
sign_order sign.OpenParen = 0
sign_order sign.CloseParen = 1
sign_order sign.OpenBrace = 2
sign_order sign.CloseBrace = 3
sign_order sign.Less = 4
sign_order sign.Greater = 5
sign_order sign.Comma = 6
sign_order sign.Semicolon = 7
sign_order sign.Dot = 8
sign_order sign.Assign = 9
sign_order sign.Plus = 10
sign_order sign.Minus = 11
sign_order sign.Star = 12
sign_order sign.And = 13
sign_order sign.Or = 14
sign_order sign.Xor = 15
sign_order sign.Equal = 16
sign_order sign.NotEqual = 17
sign_order sign.NotLess = 18
sign_order sign.LessU = 19
sign_order sign.NotLessU = 20
sign_order sign.ShiftLeft = 21
sign_order sign.ShiftRight = 22
sign_order sign.ShiftSigned = 23
sign_order sign.Rotate = 24

-- the number of a reserved word
abbrev pub word_order : Keyword → ℕ
word_order keyword.Exception = 0
word_order keyword.Fun = 1
word_order keyword.Skip = 2
word_order keyword.Var = 3
word_order keyword.St = 4
word_order keyword.Stb = 5
word_order keyword.If = 6
word_order keyword.Else = 7
word_order keyword.While = 8
word_order keyword.Break = 9
word_order keyword.Continue = 10
word_order keyword.Handle = 11
word_order keyword.Return = 12
word_order keyword.Raise = 13
word_order keyword.Lds = 14
word_order keyword.Ldb = 15

abbrev pub is_sign : Sign → Kind → Bool
is_sign w (ASign v) = nat_eq (sign_order w) (sign_order v)
is_sign w _ = false

abbrev pub is_word : Keyword → Kind → Bool
is_word w (Reserved v) = nat_eq (word_order w) (word_order v)
is_word w _ = false

-- ---- steps

-- one more is open
abbrev pub opens : ℕ → ℕ → Stack → Step
opens n k K = if nat_lt k n then Goes K else Deep K

abbrev pub a_name : Kind → Stack → Step
a_name (Name x) K = Goes K
a_name _ K = Refused

abbrev pub a_number : Kind → Stack → Step
a_number (Number i) K = Goes K
a_number _ K = Refused

-- more of a chain, of shifts, a comparison, or else
abbrev pub continues : {A : Type 0} → Option A → Stack → Step → Step
continues None K other = other
continues (Some o) K other = Goes K

-- a shape of a number begins here, or else
abbrev pub a_width : ℕ → Stack → Step → Step
a_width zero K other = other
a_width (suc n) K other = Goes K

-- a shape begins, or else
abbrev pub begin_shape : ℕ → ℕ → Kind → Stack → Step → Step
begin_shape n k (Number i) K other = a_width i K other
begin_shape n k (ASign sign.OpenBrace) K other = opens n k (WantShape (k + 1) ∷ MoreShapes (k + 1) ∷ WantSign sign.CloseBrace ∷ K)
begin_shape n k _ K other = other

-- a primary begins, or else
abbrev pub begin_primary : ℕ → ℕ → Kind → Stack → Step → Step
begin_primary n k (Number i) K other = Goes K
begin_primary n k (Name x) K other = Goes K
begin_primary n k Base K other = Goes K
begin_primary n k Biw K other = Goes K
begin_primary n k (ASign sign.OpenParen) K other = opens n k (WantExpr (k + 1) ∷ WantSign sign.CloseParen ∷ K)
begin_primary n k (ASign sign.Less) K other = opens n k (WantExpr (k + 1) ∷ MoreExprs (k + 1) ∷ WantSign sign.Greater ∷ K)
begin_primary n k _ K other = other

-- a unary expression begins, or else
abbrev pub begin : ℕ → ℕ → Kind → Stack → Step → Step
begin n k (ASign sign.Minus) K other = opens n k (WantUnary (k + 1) ∷ K)
begin n k (Reserved keyword.Lds) K other = opens n k (WantShape (k + 1) ∷ WantUnary (k + 1) ∷ K)
begin n k (Reserved keyword.Ldb) K other = opens n k (WantUnary (k + 1) ∷ K)
begin n k v K other = begin_primary n k v (MoreFields ∷ K) other

-- what may follow the first unary expression of an operand of each level
abbrev pub operand_rest : Level → ℕ → Stack → Stack
operand_rest level.Product k K = K
operand_rest level.Sum k K = MoreTerms level.Product k ∷ K
operand_rest level.And k K = MoreTerms level.Product k ∷ MoreTerms level.Sum k ∷ MoreShifts ∷ K
operand_rest level.Xor k K = MoreTerms level.Product k ∷ MoreTerms level.Sum k ∷ MoreShifts ∷ MoreTerms level.And k ∷ K
operand_rest level.Or k K = MoreTerms level.Product k ∷ MoreTerms level.Sum k ∷ MoreShifts ∷ MoreTerms level.And k ∷ MoreTerms level.Xor k ∷ K

-- what may follow the first unary expression of an expression
abbrev pub expr_rest : ℕ → Stack → Stack
expr_rest k K = operand_rest level.Or k (MoreTerms level.Or k ∷ MayCompare k ∷ K)

-- what may follow a name that is an expression's first primary, or else
abbrev pub after_name : ℕ → Kind → Stack → Step → Step
after_name k v K other =
    if is_sign sign.Dot v then Goes (WantNumber ∷ MoreFields ∷ expr_rest k K)
    else continues (operator_at level.Product v) (WantOperand level.Product k ∷ expr_rest k K)
    (continues (operator_at level.Sum v) (WantOperand level.Sum k ∷ MoreTerms level.Sum k ∷ MoreShifts ∷ MoreTerms level.And k ∷ MoreTerms level.Xor k ∷ MoreTerms level.Or k ∷ MayCompare k ∷ K)
    (continues (shift_operator v) (WantNumber ∷ MoreShifts ∷ MoreTerms level.And k ∷ MoreTerms level.Xor k ∷ MoreTerms level.Or k ∷ MayCompare k ∷ K)
    (continues (operator_at level.And v) (WantOperand level.And k ∷ MoreTerms level.And k ∷ MoreTerms level.Xor k ∷ MoreTerms level.Or k ∷ MayCompare k ∷ K)
    (continues (operator_at level.Xor v) (WantOperand level.Xor k ∷ MoreTerms level.Xor k ∷ MoreTerms level.Or k ∷ MayCompare k ∷ K)
    (continues (operator_at level.Or v) (WantOperand level.Or k ∷ MoreTerms level.Or k ∷ MayCompare k ∷ K)
    (continues (comparison v) (WantChain level.Or k ∷ K) other))))))

-- what follows the parenthesis of a call's arguments, without and with a handler
abbrev pub call_rest : Bool → ℕ → Stack → Stack
call_rest false k K = MayArguments k ∷ WantSign sign.CloseParen ∷ K
call_rest true k K = MayArguments k ∷ WantSign sign.CloseParen ∷ MayHandle k ∷ K

-- a call or an expression begins
abbrev pub begin_value : ℕ → Bool → ℕ → Kind → Stack → Step
begin_value n handles k (Name x) K = Goes (AfterName handles k ∷ K)
begin_value n handles k v K = begin n k v (expr_rest k K) Refused

-- what is assigned begins
abbrev pub begin_assigned : ℕ → ℕ → Kind → Stack → Step
begin_assigned n k (Load size) K = Goes (WantExpr k ∷ K)
begin_assigned n k v K = begin_value n true k v K

-- what follows a name that begins a statement
abbrev pub after_stmt_name : ℕ → Kind → Stack → Step
after_stmt_name k (ASign sign.Assign) K = Goes (WantAssigned k ∷ WantSign sign.Semicolon ∷ K)
after_stmt_name k (ASign sign.OpenParen) K = Goes (call_rest true k (WantSign sign.Semicolon ∷ K))
after_stmt_name k _ K = Refused

-- two expressions and the end of the statement
abbrev pub two_exprs : ℕ → Stack → Stack
two_exprs k K = WantExpr k ∷ WantSign sign.Comma ∷ WantExpr k ∷ WantSign sign.Semicolon ∷ K

-- a statement begins, or else
abbrev pub begin_stmt : ℕ → Kind → Stack → Step → Step
begin_stmt k (Name x) K other = Goes (AfterStmtName k ∷ K)
begin_stmt k (Reserved keyword.Skip) K other = Goes (WantSign sign.Semicolon ∷ K)
begin_stmt k (Reserved keyword.Var) K other = Goes (WantName ∷ WantSign sign.Assign ∷ WantDeclared k ∷ WantSign sign.Semicolon ∷ K)
begin_stmt k (Reserved keyword.St) K other = Goes (two_exprs k K)
begin_stmt k (Reserved keyword.Stb) K other = Goes (two_exprs k K)
begin_stmt k (Reserved keyword.If) K other = Goes (WantExpr k ∷ WantBlock k ∷ WantWord keyword.Else ∷ WantBlock k ∷ K)
begin_stmt k (Reserved keyword.While) K other = Goes (WantExpr k ∷ WantBlock k ∷ K)
begin_stmt k (Reserved keyword.Break) K other = Goes (WantSign sign.Semicolon ∷ K)
begin_stmt k (Reserved keyword.Continue) K other = Goes (WantSign sign.Semicolon ∷ K)
begin_stmt k (Reserved keyword.Return) K other = Goes (WantReturned k ∷ WantSign sign.Semicolon ∷ K)
begin_stmt k (Reserved keyword.Raise) K other = Goes (WantName ∷ WantExpr k ∷ WantSign sign.Semicolon ∷ K)
begin_stmt k (Store size) K other = Goes (two_exprs k K)
begin_stmt k (Foreign x) K other =
    Goes (WantSign sign.OpenParen ∷ WantExpr k ∷ WantSign sign.Comma ∷ WantExpr k ∷ WantSign sign.Comma ∷ WantExpr k ∷ WantSign sign.Comma ∷ WantExpr k
    ∷ WantSign sign.CloseParen ∷ WantSign sign.Semicolon ∷ K)
begin_stmt k _ K other = other

-- an item begins, or else
abbrev pub begin_item : Kind → Stack → Step → Step
begin_item (Reserved keyword.Exception) K other = Goes (WantName ∷ WantShape 0 ∷ WantSign sign.Semicolon ∷ K)
begin_item (Reserved keyword.Fun) K other =
    Goes (MayShape 0 ∷ WantName ∷ WantSign sign.OpenParen ∷ MayParams 0 ∷ WantSign sign.CloseParen ∷ WantBlock 0 ∷ K)
begin_item _ K other = other

-- one token, where no more than n may be open
abbrev pub step : ℕ → Stack → Placed → Step
step n [] t = Refused
step n (WantSign w ∷ K) t = if is_sign w t.kind then Goes K else Refused
step n (WantWord w ∷ K) t = if is_word w t.kind then Goes K else Refused
step n (WantName ∷ K) t = a_name t.kind K
step n (WantNumber ∷ K) t = a_number t.kind K
step n (WantShape k ∷ K) t = begin_shape n k t.kind K Refused
step n (MoreShapes k ∷ K) t = if is_sign sign.Comma t.kind then Goes (WantShape k ∷ MoreShapes k ∷ K) else step n K t
step n (MayShape k ∷ K) t = begin_shape n k t.kind K (step n K t)
step n (WantExpr k ∷ K) t = begin n k t.kind (expr_rest k K) Refused
step n (MayCompare k ∷ K) t = continues (comparison t.kind) (WantChain level.Or k ∷ K) (step n K t)
step n (WantChain l k ∷ K) t = begin n k t.kind (operand_rest l k (MoreTerms l k ∷ K)) Refused
step n (WantOperand l k ∷ K) t = begin n k t.kind (operand_rest l k K) Refused
step n (MoreTerms l k ∷ K) t = continues (operator_at l t.kind) (WantOperand l k ∷ MoreTerms l k ∷ K) (step n K t)
step n (WantShift k ∷ K) t = begin n k t.kind (operand_rest level.And k K) Refused
step n (MoreShifts ∷ K) t = continues (shift_operator t.kind) (WantNumber ∷ MoreShifts ∷ K) (step n K t)
step n (WantUnary k ∷ K) t = begin n k t.kind K Refused
step n (WantPrimary k ∷ K) t = begin_primary n k t.kind K Refused
step n (MoreFields ∷ K) t = if is_sign sign.Dot t.kind then Goes (WantNumber ∷ MoreFields ∷ K) else step n K t
step n (MoreExprs k ∷ K) t = if is_sign sign.Comma t.kind then Goes (WantExpr k ∷ MoreExprs k ∷ K) else step n K t
step n (MayArguments k ∷ K) t = begin n k t.kind (expr_rest k (MoreExprs k ∷ K)) (step n K t)
step n (WantPlain k ∷ K) t = a_name t.kind (WantSign sign.OpenParen ∷ call_rest false k K)
step n (WantDeclared k ∷ K) t = begin_value n true k t.kind K
step n (WantAssigned k ∷ K) t = begin_assigned n k t.kind K
step n (WantReturned k ∷ K) t = begin_value n false k t.kind K
step n (AfterName handles k ∷ K) t = if is_sign sign.OpenParen t.kind then Goes (call_rest handles k K) else after_name k t.kind K (step n K t)
step n (AfterStmtName k ∷ K) t = after_stmt_name k t.kind K
step n (MayHandle k ∷ K) t = if is_word keyword.Handle t.kind then Goes (WantName ∷ WantName ∷ WantBlock k ∷ K) else step n K t
step n (WantStmt k ∷ K) t = begin_stmt k t.kind K Refused
step n (MoreStmts k ∷ K) t = begin_stmt k t.kind (MoreStmts k ∷ K) (step n K t)
step n (WantBlock k ∷ K) t = if is_sign sign.OpenBrace t.kind then opens n k (MoreStmts (k + 1) ∷ WantSign sign.CloseBrace ∷ K) else Refused
step n (WantParam k ∷ K) t = begin_shape n k t.kind (WantName ∷ K) Refused
step n (MoreParams k ∷ K) t = if is_sign sign.Comma t.kind then Goes (WantParam k ∷ MoreParams k ∷ K) else step n K t
step n (MayParams k ∷ K) t = begin_shape n k t.kind (WantName ∷ MoreParams k ∷ K) (step n K t)
step n (MoreItems ∷ K) t = begin_item t.kind (MoreItems ∷ K) (step n K t)

-- ---- runs

-- how a run ends; a refusal with the tokens that were left
pub data Verdict : Type 0 where
  Accepted : Verdict
  Refuses : List Placed → Verdict
  TooDeep : List Placed → Verdict

-- nothing more must come
abbrev pub ended : Stack → Verdict
ended [] = Accepted
ended (MoreShapes k ∷ K) = ended K
ended (MayShape k ∷ K) = ended K
ended (MayCompare k ∷ K) = ended K
ended (MoreTerms l k ∷ K) = ended K
ended (MoreShifts ∷ K) = ended K
ended (MoreFields ∷ K) = ended K
ended (MoreExprs k ∷ K) = ended K
ended (MayArguments k ∷ K) = ended K
ended (AfterName handles k ∷ K) = ended K
ended (MayHandle k ∷ K) = ended K
ended (MoreStmts k ∷ K) = ended K
ended (MoreParams k ∷ K) = ended K
ended (MayParams k ∷ K) = ended K
ended (MoreItems ∷ K) = ended K
ended _ = Refuses []

abbrev pub go_on : Step → List Placed → (Stack → Verdict) → Verdict
go_on (Goes K) left rest = rest K
go_on Refused left rest = Refuses left
go_on (Deep K) left rest = TooDeep left

-- all the tokens
abbrev pub run : ℕ → List Placed → Stack → Verdict
run n [] K = ended K
run n (t ∷ ts) K = go_on (step n K t) (t ∷ ts) (run n ts)

-- a program
abbrev pub whole : Stack
whole = MoreItems ∷ []
