-- What the check makes of statements: the outer variables stay, foreign names only come, and what breaks nothing has parts that break nothing.
use Rattle.std.proofs.Common.{◌≡◌, ℕ, Bool, true, false, ◌||◌, List, [], ◌∷◌, ◌++◌, map, drop, Option, Some, None, refl, sym, ap, subst, ◌∙◌}
use Rattle.std.specs.Prelude.{if◌then◌else◌}
use Rattle.std.specs.List.{list_any}
use Rattle.std.specs.Option.{option_map_or}
use Rattle.std.specs.Str.{bytes_eq}
use Rattle.std.proofs.lemmas.List.Folds.{list_any-append}
use Rattle.std.proofs.lemmas.Slice.Eq.{bytes_eq-Decides}
use Rattle.pan_tree.specs.Scopes.{declare}
use Rattle.pan_tree.specs.Check as check
use Rattle.pan_tree.specs.Check.{Context, State, Doing, Done, in_order, do_layer, do_kind, doing, with_name, after_target, closes_layer, closes_kind, last_of}
use Rattle.pan_tree.specs.declared.program.Exception.{Exception}
use Rattle.pan_tree.specs.declared.shape.Shape.{Shape}
use Rattle.pan_tree.specs.declared.shape.Shape.TheVariants as shape
use Rattle.pan_tree.specs.declared.spanned.Spanned.{Spanned}
use Rattle.pan_tree.specs.declared.syntax.HandlerOf.{HandlerOf}
use Rattle.pan_tree.specs.declared.syntax.Target.{Target}
use Rattle.pan_tree.specs.declared.syntax.Target.TheVariants as target
use Rattle.pan_tree.specs.declared.syntax.StmtKind.{StmtKind, StmtKind-F, out-StmtKind, roll-out-StmtKind, map-StmtKind}
use Rattle.pan_tree.specs.declared.syntax.StmtKind.TheOpen as stmt
use Rattle.pan_tree.proofs.CheckLayers.{do_roll}
use Rattle.pan_tree.proofs.MeaningLayers.{by_layers}

-- ---- the outer variables

declare_outer : (x : List ℕ) (a : Shape) (v : check.Scopes) → drop 1 (declare x a v) ≡ drop 1 v
declare_outer x a [] = refl
declare_outer x a (scope ∷ scopes) = refl

pub target_outer : (t : Target) (a : Shape) (v : check.Scopes) → drop 1 (after_target t a v) ≡ drop 1 v
target_outer target.Nothing a v = refl
target_outer (target.Old x) a v = refl
target_outer (target.New x) a v = declare_outer x a v

pub handle_scopes : (h : Option (HandlerOf (Spanned Doing))) (c : Context) (s : State) → ((check.handle h c s).state).scopes ≡ s.scopes
handle_scopes None c s = refl
handle_scopes (Some h) c s = refl

outer_layer : (y : StmtKind-F Doing) (c : Context) (place : ℕ) (s : State) → drop 1 ((do_layer y c place s).state).scopes ≡ drop 1 s.scopes
outer_layer stmt.Skip c place s = refl
outer_layer (stmt.Decl x e) c place s = declare_outer x (check.judged e s.scopes).shape s.scopes
outer_layer (stmt.Assign x e) c place s = refl
outer_layer (stmt.StoreWords a e) c place s = refl
outer_layer (stmt.StoreByte a e) c place s = refl
outer_layer (stmt.If e a b) c place s = refl
outer_layer (stmt.While e b) c place s = refl
outer_layer stmt.Break c place s = refl
outer_layer stmt.Continue c place s = refl
outer_layer (stmt.Call k) c place s =
    let result = check.result_of (check.function_of k.function c.program) in
    ap (drop 1) (handle_scopes k.handler c (record s { scopes = after_target k.into result s.scopes })) ∙ target_outer k.into result s.scopes
outer_layer (stmt.Return e) c place s = refl
outer_layer (stmt.TailCall f es) c place s = refl
outer_layer (stmt.Raise i e) c place s = refl
outer_layer (stmt.SharedLoad size x a) c place s = refl
outer_layer (stmt.SharedStore size a e) c place s = refl
outer_layer (stmt.Foreign x a b d e) c place s = refl

pub outer_same : (k : StmtKind) (c : Context) (place : ℕ) (s : State) → drop 1 ((do_kind k c place s).state).scopes ≡ drop 1 s.scopes
outer_same k c place s =
    subst (λ k. drop 1 ((do_kind k c place s).state).scopes ≡ drop 1 s.scopes) (roll-out-StmtKind k)
    (subst (λ (f : Doing). drop 1 ((f c place s).state).scopes ≡ drop 1 s.scopes) (sym (do_roll (out-StmtKind k))) (outer_layer (map-StmtKind StmtKind Doing do_kind (out-StmtKind k)) c place s))

pub outer_order : (ss : List (Spanned StmtKind)) (c : Context) (s : State) → drop 1 ((in_order (map doing ss) c s).state).scopes ≡ drop 1 s.scopes
outer_order [] c s = refl
outer_order (x ∷ xs) c s = outer_order xs c (do_kind x.kind c x.span.start s).state ∙ outer_same x.kind c x.span.start s

-- ---- foreign names

-- the name is one of these
abbrev pub has_name : List ℕ → List (List ℕ) → Bool
has_name x names = list_any (λ y. bytes_eq y x) names

-- each of these names is one of those
pub record Among (names others : List (List ℕ)) : Type 0 where
  pub at : (x : List ℕ) → has_name x names ≡ true → has_name x others ≡ true

pub among_same : (names : List (List ℕ)) → Among names names
among_same names = record { at = λ x h. h }

pub among_then : (a b c : List (List ℕ)) → Among a b → Among b c → Among a c
among_then a b c f g = record { at = λ x h. g.at x (f.at x h) }

name_kept : (x : List ℕ) (names : List (List ℕ)) → Among names (with_name x names)
name_kept x names = record { at = λ y h. by y (has_name x names) h }
  where
    by : (y : List ℕ) (b : Bool) → has_name y names ≡ true → has_name y (if b then names else (names ++ x ∷ [])) ≡ true
    by y true h = h
    by y false h = list_any-append (λ z. bytes_eq z y) names (x ∷ []) ∙ ap (λ b. b || has_name y (x ∷ [])) h

-- the name itself is among them then
pub own_name : (x : List ℕ) (names : List (List ℕ)) → has_name x (with_name x names) ≡ true
own_name x names = by (has_name x names) refl
  where
    by : (b : Bool) → has_name x names ≡ b → has_name x (if b then names else (names ++ x ∷ [])) ≡ true
    by true h = h
    by false h = list_any-append (λ z. bytes_eq z x) names (x ∷ []) ∙ ap (λ b. b || has_name x (x ∷ [])) h ∙ ap (λ b. b || false) ((bytes_eq-Decides x x).1 refl)

abbrev Grows : StmtKind → Type 0
Grows k = (c : Context) (place : ℕ) (s : State) → Among s.names ((do_kind k c place s).state).names

abbrev Growing : Type 0
Growing = (k : StmtKind) × Grows k

abbrev plain : Spanned Growing → Spanned StmtKind
plain s = record { kind = s.kind.0; span = s.span }

order_grows : (ss : List (Spanned Growing)) (c : Context) (s : State) → Among s.names ((in_order (map doing (map plain ss)) c s).state).names
order_grows [] c s = among_same s.names
order_grows (x ∷ xs) c s =
    let next = (do_kind x.kind.0 c x.span.start s).state in
    among_then s.names next.names ((in_order (map doing (map plain xs)) c next).state).names (x.kind.1 c x.span.start s) (order_grows xs c next)

layer_grows : (y : StmtKind-F Growing) (c : Context) (place : ℕ) (s : State)
    → Among s.names ((do_layer (map-StmtKind StmtKind Doing do_kind (map-StmtKind Growing StmtKind (λ c. c.0) y)) c place s).state).names
layer_grows stmt.Skip c place s = among_same s.names
layer_grows (stmt.Decl x e) c place s = among_same s.names
layer_grows (stmt.Assign x e) c place s = among_same s.names
layer_grows (stmt.StoreWords a e) c place s = among_same s.names
layer_grows (stmt.StoreByte a e) c place s = among_same s.names
layer_grows (stmt.If e a b) c place s =
    let first = order_grows a.stmts c (record s { scopes = [] ∷ s.scopes }) in
    let next = ((in_order (map doing (map plain a.stmts)) c (record s { scopes = [] ∷ s.scopes })).state).names in
    among_then s.names next _ first (order_grows b.stmts c (record { scopes = [] ∷ s.scopes; names = next }))
layer_grows (stmt.While e b) c place s = order_grows b.stmts (record c { in_loop = true }) (record s { scopes = [] ∷ s.scopes })
layer_grows stmt.Break c place s = among_same s.names
layer_grows stmt.Continue c place s = among_same s.names
layer_grows (stmt.Call k) c place s = handled k.into k.function k.handler
  where
    handled : (t : Target) (f : List ℕ) (h : Option (HandlerOf (Spanned Growing)))
        → let y : StmtKind-F Growing = stmt.Call (record { into = t; function = f; args = k.args; handler = h }) in
        Among s.names ((do_layer (map-StmtKind StmtKind Doing do_kind (map-StmtKind Growing StmtKind (λ c. c.0) y)) c place s).state).names
    handled t f None = among_same s.names
    handled t f (Some h) =
        let value = option_map_or (λ (x : Exception). x.shape) (check.exception_of h.exception c.program) shape.Word in
        order_grows (h.body).stmts c (record s { scopes = ((h.name, value) ∷ []) ∷ after_target t (check.result_of (check.function_of f c.program)) s.scopes })
layer_grows (stmt.Return e) c place s = among_same s.names
layer_grows (stmt.TailCall f es) c place s = among_same s.names
layer_grows (stmt.Raise i e) c place s = among_same s.names
layer_grows (stmt.SharedLoad size x a) c place s = among_same s.names
layer_grows (stmt.SharedStore size a e) c place s = among_same s.names
layer_grows (stmt.Foreign x a b d e) c place s = name_kept x s.names

pub names_grow : (k : StmtKind) → Grows k
names_grow = by_layers Grows (λ y c place s.
    subst (λ (f : Doing). Among s.names ((f c place s).state).names) (sym (do_roll (map-StmtKind Growing StmtKind (λ c. c.0) y))) (layer_grows y c place s))

pub order_names : (ss : List (Spanned StmtKind)) (c : Context) (s : State) → Among s.names ((in_order (map doing ss) c s).state).names
order_names [] c s = among_same s.names
order_names (x ∷ xs) c s =
    let next = (do_kind x.kind c x.span.start s).state in
    among_then s.names next.names ((in_order (map doing xs) c next).state).names (names_grow x.kind c x.span.start s) (order_names xs c next)
