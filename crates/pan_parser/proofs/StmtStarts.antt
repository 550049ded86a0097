-- Calls, values, statements and items that begin and end with no token read.
use Rattle.std.proofs.Common.{◌≡◌, ℕ, Bool, true, false, if◌then◌else◌, ◌&&◌, List, [], ◌∷◌, sym, ap, ◌∙◌, refl}
use Rattle.pan_base.specs.declared.events.Size.{Size}
use Rattle.pan_base.specs.declared.tokens.Sign.TheVariants as sign
use Rattle.pan_base.specs.Tokens.{Placed, Kind, Name, Load}
use Rattle.pan_tree.specs.Grammar.{IsName, nesting_limit}
use Rattle.pan_parser.specs.Machine as machine
use Rattle.pan_parser.specs.Machine.{WantExpr, MoreExprs, MayArguments, WantPlain, WantName, WantSign, Stack, Goes, Refused, begin, expr_rest, begin_stmt, step, go_on, run}
use Rattle.pan_parser.specs.Follow.{NoSign, NoHandler}
use Rattle.pan_parser.specs.Reading.{is_name, begins_call, is_load, NoLoad, NoAssignment}
use Rattle.pan_parser.proofs.Ends.{sign_is}
use Rattle.pan_parser.proofs.Leads.{Comes}
use Rattle.pan_parser.proofs.LeadsValues.{NoCall}
use Rattle.pan_parser.proofs.LeadsValues as values
use Rattle.pan_parser.proofs.Names.{both}

pub arguments_start : (a : List Placed) (k : ℕ) (K : Stack) → NoSign sign.CloseParen a
    → run nesting_limit a (MayArguments k ∷ WantSign sign.CloseParen ∷ K) ≡ run nesting_limit a (WantExpr k ∷ MoreExprs k ∷ WantSign sign.CloseParen ∷ K)
arguments_start [] k K none = refl
arguments_start (t ∷ a) k K none =
    ap (λ b. go_on (begin nesting_limit k t.kind (expr_rest k (MoreExprs k ∷ WantSign sign.CloseParen ∷ K)) (if b then Goes K else Refused)) (t ∷ a) (run nesting_limit a)) none

pub plain_start : (a : List Placed) (k : ℕ) (K : Stack) → run nesting_limit a (WantPlain k ∷ K) ≡ run nesting_limit a (WantName ∷ WantSign sign.OpenParen ∷ MayArguments k ∷ WantSign sign.CloseParen ∷ K)
plain_start [] k K = refl
plain_start (t ∷ a) k K = refl

-- ---- values

call_comes : (t : Placed) (a : List Placed) → begins_call (t ∷ a) ≡ true → ((x : List ℕ) × IsName x t) × Comes sign.OpenParen a
call_comes t [] h = absurd (cc)
call_comes t (u ∷ a) h = (named t.kind (both (is_name t.kind) (machine.is_sign sign.OpenParen u.kind) h).0, sign_is sign.OpenParen u.kind (both (is_name t.kind) (machine.is_sign sign.OpenParen u.kind) h).1)
  where
    named : (v : Kind) → is_name v ≡ true → (x : List ℕ) × (v ≡ Name x)
    named (Name x) h = (x, refl)
    named _ h = absurd (cc)

no_call_comes : (a : List Placed) → begins_call a ≡ false → NoCall a
no_call_comes [] h = tt
no_call_comes (t ∷ []) h = λ x e. tt
no_call_comes (t ∷ u ∷ a) h = λ x e. unsigned x t.kind e (machine.is_sign sign.OpenParen u.kind) h
  where
    unsigned : (x : List ℕ) (v : Kind) → v ≡ Name x → (b : Bool) → (is_name v && b) ≡ false → b ≡ false
    unsigned x v e b h = ap (λ v. is_name v && b) (sym e) ∙ h

pub declared_call : (a : List Placed) (k : ℕ) (K : Stack) → begins_call a ≡ true
    → run nesting_limit a (machine.WantDeclared k ∷ K) ≡ run nesting_limit a (WantPlain k ∷ machine.MayHandle k ∷ K)
declared_call [] k K h = absurd (cc)
declared_call (t ∷ a) k K h = let p = call_comes t a h in values.declared_call nesting_limit p.0.0 t a k K p.0.1 p.1

pub assigned_call : (a : List Placed) (k : ℕ) (K : Stack) → begins_call a ≡ true
    → run nesting_limit a (machine.WantAssigned k ∷ K) ≡ run nesting_limit a (WantPlain k ∷ machine.MayHandle k ∷ K)
assigned_call [] k K h = absurd (cc)
assigned_call (t ∷ a) k K h = let p = call_comes t a h in values.assigned_call nesting_limit p.0.0 t a k K p.0.1 p.1

pub returned_call : (a : List Placed) (k : ℕ) (K : Stack) → begins_call a ≡ true
    → run nesting_limit a (machine.WantReturned k ∷ K) ≡ run nesting_limit a (WantPlain k ∷ K)
returned_call [] k K h = absurd (cc)
returned_call (t ∷ a) k K h = let p = call_comes t a h in values.returned_call nesting_limit p.0.0 t a k K p.0.1 p.1

pub declared_expr : (a : List Placed) (k : ℕ) (K : Stack) → begins_call a ≡ false
    → run nesting_limit a (machine.WantDeclared k ∷ K) ≡ run nesting_limit a (WantExpr k ∷ K)
declared_expr a k K h = values.declared_expr nesting_limit a k K (no_call_comes a h)

pub returned_expr : (a : List Placed) (k : ℕ) (K : Stack) → begins_call a ≡ false
    → run nesting_limit a (machine.WantReturned k ∷ K) ≡ run nesting_limit a (WantExpr k ∷ K)
returned_expr a k K h = values.returned_expr nesting_limit a k K (no_call_comes a h)

pub assigned_expr : (a : List Placed) (k : ℕ) (K : Stack) → begins_call a ≡ false → NoLoad a
    → run nesting_limit a (machine.WantAssigned k ∷ K) ≡ run nesting_limit a (WantExpr k ∷ K)
assigned_expr a k K h l = values.assigned_expr nesting_limit a k K (no_load_comes a l) (no_call_comes a h)
  where
    no_load_comes : (a : List Placed) → NoLoad a → values.NoLoad a
    no_load_comes [] l = tt
    no_load_comes (t ∷ a) l = λ size e. load_is t.kind size e l
      where
        load_is : (v : Kind) (size : Size) → v ≡ Load size → is_load v ≡ false → ⊥
        load_is v size e l = let h : is_load (Load size) ≡ false = ap is_load (sym e) ∙ l in cc

-- ---- statements

pub called_start : (a : List Placed) (k : ℕ) (K : Stack) → NoAssignment a
    → run nesting_limit a (machine.WantStmt k ∷ K) ≡ run nesting_limit a (WantPlain k ∷ machine.MayHandle k ∷ WantSign sign.Semicolon ∷ K)
called_start [] k K h = absurd h
called_start (t ∷ a) k K h = by_kind t.kind refl h.0
  where
    by_kind : (v : Kind) → t.kind ≡ v → is_name v ≡ true → run nesting_limit (t ∷ a) (machine.WantStmt k ∷ K) ≡ run nesting_limit (t ∷ a) (WantPlain k ∷ machine.MayHandle k ∷ WantSign sign.Semicolon ∷ K)
    by_kind (Name x) e is = values.stmt_call nesting_limit x t a k K e h.1
    by_kind _ e is = absurd (cc)

pub stmts_start : (a : List Placed) (k : ℕ) (K : Stack) → NoSign sign.CloseBrace a
    → run nesting_limit a (machine.MoreStmts k ∷ WantSign sign.CloseBrace ∷ K) ≡ run nesting_limit a (machine.WantStmt k ∷ machine.MoreStmts k ∷ WantSign sign.CloseBrace ∷ K)
stmts_start [] k K none = refl
stmts_start (t ∷ a) k K none =
    ap (λ b. go_on (begin_stmt k t.kind (machine.MoreStmts k ∷ WantSign sign.CloseBrace ∷ K) (if b then Goes K else Refused)) (t ∷ a) (run nesting_limit a)) none

pub handler_end : (a : List Placed) (k : ℕ) (K : Stack) → NoHandler a → run nesting_limit a (machine.MayHandle k ∷ K) ≡ run nesting_limit a K
handler_end [] k K none = refl
handler_end (t ∷ a) k K none = ap (λ b. go_on (if b then Goes (WantName ∷ WantName ∷ machine.WantBlock k ∷ K) else step nesting_limit K t) (t ∷ a) (run nesting_limit a)) none

pub ruleset starts = (arguments_start, plain_start, declared_call, assigned_call, returned_call, declared_expr, assigned_expr, returned_expr, called_start, stmts_start, handler_end)
