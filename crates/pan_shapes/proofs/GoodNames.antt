-- The foreign names of a program that breaks no rule are lawful and short.
use Rattle.std.proofs.Common.{◌≡◌, ℕ, Bool, true, false, ◌&&◌, ◌||◌, not, nat_lt, if◌then◌else◌, List, [], ◌∷◌, ◌++◌, map, length, Option, Some, None, refl, sym, ap, subst, ◌∙◌}
use Rattle.std.specs.List.{list_any, list_all}
use Rattle.std.specs.Str.{bytes_eq}
use Rattle.std.specs.Option.{option_map_or}
use Rattle.std.proofs.lemmas.Bool.{and_parts}
use Rattle.std.proofs.lemmas.List.Folds.{list_all-append}
use Rattle.pan_base.specs.Names.{is_foreign_name}
use Rattle.pan_tree.specs.declared.rule.Rule.TheVariants.{NoReturn, NotWord, TooMany}
use Rattle.pan_tree.specs.declared.shape.Shape.TheVariants as shape
use Rattle.pan_tree.specs.declared.spanned.Spanned.{Spanned}
use Rattle.pan_tree.specs.declared.syntax.ExprKind.{ExprKind}
use Rattle.pan_tree.specs.declared.syntax.Target.{Target}
use Rattle.pan_tree.specs.declared.syntax.HandlerOf.{HandlerOf}
use Rattle.pan_tree.specs.declared.syntax.BlockOf.{BlockOf}
use Rattle.pan_tree.specs.declared.syntax.StmtKind.{StmtKind, StmtKind-F, fold-roll-StmtKind, roll-StmtKind, map-StmtKind}
use Rattle.pan_tree.specs.declared.syntax.StmtKind.TheOpen as open_stmt
use Rattle.pan_tree.specs.declared.program.Exception.{Exception}
use Rattle.pan_tree.specs.declared.program.Function.{Function}
use Rattle.pan_tree.specs.declared.program.Program.{Program}
use Rattle.pan_tree.specs.Check.{Scope, Context, State, Doing, broken, doing, do_kind, do_layer, in_order, block, body, bodies, names_after, parameters, exception_of, with_name, is_too_many, breaks_of, judged, has_no_word, lawful_layer, lawful_kind, closes}
use Rattle.pan_tree.proofs.CheckLayers.{do_roll, lawful_roll}
use Rattle.pan_shapes.specs.Kept.{is_short_foreign}
use Rattle.pan_shapes.proofs.Answering.{one_holds, others_hold}
use Rattle.pan_shapes.proofs.BodyLemmas.{no_front, no_back}
use Rattle.pan_shapes.proofs.Inducting.{statement_induct}

abbrev Good : List (List ℕ) → Type 0
Good names = list_all is_short_foreign names ≡ true

-- a statement that breaks no rule adds only good names
abbrev Clean : Doing → Type 0
Clean d = (c : Context) (place : ℕ) (s : State) → (d c place s).breaks ≡ [] → Good s.names → Good ((d c place s).state).names

abbrev Known : Type 0
Known = (k : StmtKind) × (lawful_kind k ≡ true → Clean (do_kind k))

abbrev plain_stmt : Spanned Known → Spanned StmtKind
plain_stmt x = record { kind = x.kind.0; span = x.span }

abbrev do_all : List (Spanned Known) → List (Spanned Doing)
do_all xs = map doing (map plain_stmt xs)

abbrev lawful : Spanned StmtKind → Spanned Bool
lawful x = record { kind = lawful_kind x.kind; span = x.span }

abbrev all_lawful : List (Spanned Known) → Bool
all_lawful xs = list_all (λ (x : Spanned Bool). x.kind) (map lawful (map plain_stmt xs))

order_clean : (xs : List (Spanned Known)) (c : Context) (s : State) → all_lawful xs ≡ true → (in_order (do_all xs) c s).breaks ≡ [] → Good s.names → Good ((in_order (do_all xs) c s).state).names
order_clean [] c s law none good = good
order_clean (x ∷ xs) c s law none good =
    let laws = and_parts (lawful_kind x.kind.0) (all_lawful xs) law in
    let one = do_kind x.kind.0 c (x.span).start s in
    let more = in_order (do_all xs) c one.state in
    order_clean xs c one.state laws.1 (no_back one.breaks more.breaks none) (x.kind.1 laws.0 c (x.span).start s (no_front one.breaks more.breaks none) good)

abbrev do_block : BlockOf (Spanned Known) → BlockOf (Spanned Doing)
do_block b = record { stmts = do_all b.stmts }

block_clean : (scope : Scope) (b : BlockOf (Spanned Known)) (c : Context) (s : State) → all_lawful b.stmts ≡ true → (block scope (do_block b) c s).breaks ≡ [] → Good s.names → Good ((block scope (do_block b) c s).state).names
block_clean scope b c s law none good = order_clean b.stmts c (record s { scopes = scope ∷ s.scopes }) law none good

-- ---- one name more

and_true : (a b : Bool) → a ≡ true → b ≡ true → (a && b) ≡ true
and_true true b p q = q
and_true false b p q = absurd cc

name_added : (x : List ℕ) (names : List (List ℕ)) → is_short_foreign x ≡ true → Good names → Good (with_name x names)
name_added x names short good = by (list_any (λ y. bytes_eq y x) names)
  where
    by : (b : Bool) → Good (if b then names else names ++ x ∷ [])
    by true = good
    by false = list_all-append is_short_foreign names (x ∷ []) ∙ and_true (list_all is_short_foreign names) (is_short_foreign x && true) good (and_true (is_short_foreign x) true short refl)

or_false : (a b : Bool) → (a || b) ≡ false → a ≡ false
or_false true b e = absurd cc
or_false false b e = refl

foreign_clean : (x : List ℕ) (a b d e : Spanned ExprKind) → is_foreign_name x ≡ true → Clean (do_layer (open_stmt.Foreign x a b d e))
foreign_clean x a b d e law c place s none good =
    let parts = map (λ y. judged y s.scopes) (a ∷ b ∷ d ∷ e ∷ []) in
    let rules = no_back (breaks_of parts) (broken place ((NotWord, has_no_word parts) ∷ (TooMany, is_too_many x s.names) ∷ [])) none in
    let few = one_holds place TooMany (is_too_many x s.names) [] (others_hold place NotWord (has_no_word parts) ((TooMany, is_too_many x s.names) ∷ []) rules) in
    let short : nat_lt 64 (length x) ≡ false = or_false (nat_lt 64 (length x)) _ few in
    name_added x s.names (and_true (is_foreign_name x) (not (nat_lt 64 (length x))) law (ap not short)) good

-- ---- each kind

call_clean : (into : Target) (f : List ℕ) (args : List (Spanned ExprKind)) (h : Option (HandlerOf (Spanned Known)))
    → lawful_layer (map-StmtKind StmtKind Bool lawful_kind (map-StmtKind Known StmtKind (λ c. c.0) (open_stmt.Call (record { into = into; function = f; args = args; handler = h })))) ≡ true
    → Clean (do_layer (map-StmtKind StmtKind Doing do_kind (map-StmtKind Known StmtKind (λ c. c.0) (open_stmt.Call (record { into = into; function = f; args = args; handler = h })))))
call_clean into f args None law c place s none good = good
call_clean into f args (Some h) law c place s none good =
    let value = option_map_or (λ (x : Exception). x.shape) (exception_of h.exception c.program) shape.Word in
    order_clean (h.body).stmts c _ law (no_back _ _ none) good

abbrev Fits : StmtKind-F Known → Type 0
Fits y = lawful_layer (map-StmtKind StmtKind Bool lawful_kind (map-StmtKind Known StmtKind (λ c. c.0) y)) ≡ true → Clean (do_layer (map-StmtKind StmtKind Doing do_kind (map-StmtKind Known StmtKind (λ c. c.0) y)))

layer_clean : (y : StmtKind-F Known) → Fits y
layer_clean open_stmt.Skip law c place s none good = good
layer_clean (open_stmt.Decl x e) law c place s none good = good
layer_clean (open_stmt.Assign x e) law c place s none good = good
layer_clean (open_stmt.StoreWords a e) law c place s none good = good
layer_clean (open_stmt.StoreByte a e) law c place s none good = good
layer_clean (open_stmt.If e a b) law c place s none good =
    let laws = and_parts (all_lawful a.stmts) (all_lawful b.stmts) law in
    let first = block [] (do_block a) c s in
    let second = block [] (do_block b) c (record { scopes = s.scopes; names = (first.state).names }) in
    let front = no_front (_ ++ first.breaks) second.breaks none in
    block_clean [] b c (record { scopes = s.scopes; names = (first.state).names }) laws.1 (no_back (_ ++ first.breaks) second.breaks none) (block_clean [] a c s laws.0 (no_back _ first.breaks front) good)
layer_clean (open_stmt.While e b) law c place s none good =
    let inner = block [] (do_block b) (record c { in_loop = true }) s in
    block_clean [] b (record c { in_loop = true }) s law (no_back _ inner.breaks none) good
layer_clean open_stmt.Break law c place s none good = good
layer_clean open_stmt.Continue law c place s none good = good
layer_clean (open_stmt.Call k) law c place s none good = call_clean k.into k.function k.args k.handler law c place s none good
layer_clean (open_stmt.Return e) law c place s none good = good
layer_clean (open_stmt.TailCall f xs) law c place s none good = good
layer_clean (open_stmt.Raise i e) law c place s none good = good
layer_clean (open_stmt.SharedLoad n x a) law c place s none good = good
layer_clean (open_stmt.SharedStore n a e) law c place s none good = good
layer_clean (open_stmt.Foreign f a b d e) law c place s none good = foreign_clean f a b d e law c place s none good

kind_clean : (k : StmtKind) → lawful_kind k ≡ true → Clean (do_kind k)
kind_clean =
    statement_induct (λ k. lawful_kind k ≡ true → Clean (do_kind k))
    (λ y law. let x = map-StmtKind Known StmtKind (λ c. c.0) y in subst Clean (sym (do_roll x)) (layer_clean y (sym (lawful_roll x) ∙ law)))

-- ---- functions

abbrev all_known : List (Spanned StmtKind) → List (Spanned Known)
all_known xs = map (λ x. record { kind = (x.kind, kind_clean x.kind); span = x.span }) xs

same_all : (xs : List (Spanned StmtKind)) → do_all (all_known xs) ≡ map doing xs
same_all [] = refl
same_all (x ∷ xs) = ap (λ ds. doing x ∷ ds) (same_all xs)

same_laws : (xs : List (Spanned StmtKind)) → all_lawful (all_known xs) ≡ list_all (λ (x : Spanned StmtKind). lawful_kind x.kind) xs
same_laws [] = refl
same_laws (x ∷ xs) = ap (λ b. lawful_kind x.kind && b) (same_laws xs)

abbrev is_lawful_function : Function → Bool
is_lawful_function f = list_all (λ (x : Spanned StmtKind). lawful_kind x.kind) (f.body).stmts

body_clean : (p : Program) (f : Function) (names : List (List ℕ)) → is_lawful_function f ≡ true → (body p f names).breaks ≡ [] → Good names → Good ((body p f names).state).names
body_clean p f names law none good =
    let c : Context = record { program = p; result = f.result; in_loop = false } in
    let s : State = record { scopes = parameters f.params ∷ []; names = names } in
    let inner = λ (ds : List (Spanned Doing)). in_order ds c s in
    let same = same_all (f.body).stmts in
    subst (λ ds. Good ((inner ds).state).names) same
    (order_clean (all_known (f.body).stmts) c s (same_laws (f.body).stmts ∙ law) (ap (λ ds. (inner ds).breaks) same ∙ none) good)

pub names_good : (p : Program) (fs : List Function) (names : List (List ℕ)) → list_all is_lawful_function fs ≡ true → bodies p fs names ≡ [] → list_all is_short_foreign names ≡ true → list_all is_short_foreign (names_after p fs names) ≡ true
names_good p [] names law none good = good
names_good p (f ∷ fs) names law none good =
    let laws = and_parts (is_lawful_function f) (list_all is_lawful_function fs) law in
    let one = body p f names in
    let closed = broken (f.span).start ((NoReturn, not (closes f.body)) ∷ []) in
    let others = bodies p fs (one.state).names in
    names_good p fs (one.state).names laws.1 (no_back (one.breaks ++ closed) others none) (body_clean p f names laws.0 (no_front one.breaks closed (no_front (one.breaks ++ closed) others none)) good)
