-- A program that breaks no rule has at most 1,024 foreign names, and none has a line feed.
use Rattle.std.proofs.Common.{◌≡◌, ℕ, ◌≤◌, Bool, true, false, ◌&&◌, ◌||◌, not, nat_lt, List, [], ◌∷◌, ◌++◌, map, length, Option, Some, None, refl, sym, ap, subst, ◌∙◌, arith}
use Rattle.std.specs.Prelude.{◌==◌, codes}
use Rattle.std.specs.List.{list_all}
use Rattle.std.specs.Str.{bytes_eq}
use Rattle.std.proofs.lemmas.Bool.{and_parts, false≢true, eqb-true}
use Rattle.pan_base.specs.Names.{is_word_byte, is_letter, is_spelled, is_foreign_name}
use Rattle.pan_tree.specs.declared.rule.Rule.{Rule}
use Rattle.pan_tree.specs.declared.rule.Rule.TheVariants.{NoReturn, NotWord, TooMany}
use Rattle.pan_tree.specs.declared.spanned.Spanned.{Spanned}
use Rattle.pan_tree.specs.declared.syntax.ExprKind.{ExprKind}
use Rattle.pan_tree.specs.declared.syntax.Target.{Target}
use Rattle.pan_tree.specs.declared.syntax.HandlerOf.{HandlerOf}
use Rattle.pan_tree.specs.declared.syntax.BlockOf.{BlockOf}
use Rattle.pan_tree.specs.declared.syntax.StmtKind.{StmtKind, StmtKind-F, fold-roll-StmtKind, roll-StmtKind, map-StmtKind}
use Rattle.pan_tree.specs.declared.syntax.StmtKind.TheOpen as open_stmt
use Rattle.pan_tree.specs.declared.program.Function.{Function}
use Rattle.pan_tree.specs.declared.program.Program.{Program}
use Rattle.pan_tree.specs.Check.{Scope, Context, State, Doing, broken, doing, do_kind, do_layer, in_order, block, body, bodies, names_after, parameters, exception_heads, function_heads, function_of, main_breaks, weight_breaks, with_name, is_too_many, breaks_of, judged, has_no_word, closes, foreign_names, IsWellShaped}
use Rattle.pan_runner.specs.View.{is_one_line}
use Rattle.pan_runner.specs.Runner.{names_in}
use Rattle.source_resolver.proofs.Mains.{no_front, no_back}
use Rattle.source_resolver.proofs.ResolvedStmts.{statement_induct}

do_roll : (x : StmtKind-F StmtKind) → do_kind (roll-StmtKind x) ≡ do_layer (map-StmtKind StmtKind Doing do_kind x)
unfolding do_kind
do_roll x = fold-roll-StmtKind Doing do_layer x

one_holds : (place : ℕ) (rule : Rule) (b : Bool) (rules : List (Rule × Bool)) → broken place ((rule, b) ∷ rules) ≡ [] → b ≡ false
one_holds place rule true rules e = absurd cc
one_holds place rule false rules e = refl

others_hold : (place : ℕ) (rule : Rule) (b : Bool) (rules : List (Rule × Bool)) → broken place ((rule, b) ∷ rules) ≡ [] → broken place rules ≡ []
others_hold place rule true rules e = absurd cc
others_hold place rule false rules e = e

or_second : (a b : Bool) → (a || b) ≡ false → b ≡ false
or_second true b e = absurd cc
or_second false b e = e

abbrev Few : List (List ℕ) → Type 0
Few names = nat_lt 1024 (length names) ≡ false

-- a statement that breaks no rule keeps the names few
abbrev Clean : Doing → Type 0
Clean d = (c : Context) (place : ℕ) (s : State) → (d c place s).breaks ≡ [] → Few s.names → Few ((d c place s).state).names

abbrev Known : Type 0
Known = (k : StmtKind) × Clean (do_kind k)

abbrev plain_stmt : Spanned Known → Spanned StmtKind
plain_stmt x = record { kind = x.kind.0; span = x.span }

abbrev do_all : List (Spanned Known) → List (Spanned Doing)
do_all xs = map doing (map plain_stmt xs)

order_clean : (xs : List (Spanned Known)) (c : Context) (s : State) → (in_order (do_all xs) c s).breaks ≡ [] → Few s.names → Few ((in_order (do_all xs) c s).state).names
order_clean [] c s none few = few
order_clean (x ∷ xs) c s none few =
    let one = do_kind x.kind.0 c (x.span).start s in
    let more = in_order (do_all xs) c one.state in
    order_clean xs c one.state (no_back one.breaks more.breaks none) (x.kind.1 c (x.span).start s (no_front one.breaks more.breaks none) few)

abbrev do_block : BlockOf (Spanned Known) → BlockOf (Spanned Doing)
do_block b = record { stmts = do_all b.stmts }

block_clean : (scope : Scope) (b : BlockOf (Spanned Known)) (c : Context) (s : State) → (block scope (do_block b) c s).breaks ≡ [] → Few s.names → Few ((block scope (do_block b) c s).state).names
block_clean scope b c s none few = order_clean b.stmts c (record s { scopes = scope ∷ s.scopes }) none few

foreign_clean : (x : List ℕ) (a b d e : Spanned ExprKind) → Clean (do_layer (open_stmt.Foreign x a b d e))
foreign_clean x a b d e c place s none few =
    let parts = map (λ y. judged y s.scopes) (a ∷ b ∷ d ∷ e ∷ []) in
    let rules = no_back (breaks_of parts) (broken place ((NotWord, has_no_word parts) ∷ (TooMany, is_too_many x s.names) ∷ [])) none in
    let fits = one_holds place TooMany (is_too_many x s.names) [] (others_hold place NotWord (has_no_word parts) ((TooMany, is_too_many x s.names) ∷ []) rules) in
    or_second (nat_lt 64 (length x)) (nat_lt 1024 (length (with_name x s.names))) fits

call_clean : (into : Target) (f : List ℕ) (args : List (Spanned ExprKind)) (h : Option (HandlerOf (Spanned Known)))
    → Clean (do_layer (map-StmtKind StmtKind Doing do_kind (map-StmtKind Known StmtKind (λ c. c.0) (open_stmt.Call (record { into = into; function = f; args = args; handler = h })))))
call_clean into f args None c place s none few = few
call_clean into f args (Some h) c place s none few = order_clean (h.body).stmts c _ (no_back _ _ none) few

layer_clean : (y : StmtKind-F Known) → Clean (do_layer (map-StmtKind StmtKind Doing do_kind (map-StmtKind Known StmtKind (λ c. c.0) y)))
layer_clean open_stmt.Skip c place s none few = few
layer_clean (open_stmt.Decl x e) c place s none few = few
layer_clean (open_stmt.Assign x e) c place s none few = few
layer_clean (open_stmt.StoreWords a e) c place s none few = few
layer_clean (open_stmt.StoreByte a e) c place s none few = few
layer_clean (open_stmt.If e a b) c place s none few =
    let first = block [] (do_block a) c s in
    let second = block [] (do_block b) c (record { scopes = s.scopes; names = (first.state).names }) in
    let front = no_front (_ ++ first.breaks) second.breaks none in
    block_clean [] b c (record { scopes = s.scopes; names = (first.state).names }) (no_back (_ ++ first.breaks) second.breaks none) (block_clean [] a c s (no_back _ first.breaks front) few)
layer_clean (open_stmt.While e b) c place s none few =
    let inner = block [] (do_block b) (record c { in_loop = true }) s in
    block_clean [] b (record c { in_loop = true }) s (no_back _ inner.breaks none) few
layer_clean open_stmt.Break c place s none few = few
layer_clean open_stmt.Continue c place s none few = few
layer_clean (open_stmt.Call k) c place s none few = call_clean k.into k.function k.args k.handler c place s none few
layer_clean (open_stmt.Return e) c place s none few = few
layer_clean (open_stmt.TailCall f xs) c place s none few = few
layer_clean (open_stmt.Raise i e) c place s none few = few
layer_clean (open_stmt.SharedLoad n x a) c place s none few = few
layer_clean (open_stmt.SharedStore n a e) c place s none few = few
layer_clean (open_stmt.Foreign f a b d e) c place s none few = foreign_clean f a b d e c place s none few

kind_clean : (k : StmtKind) → Clean (do_kind k)
kind_clean = statement_induct (λ k. Clean (do_kind k)) (λ y. let x = map-StmtKind Known StmtKind (λ c. c.0) y in subst Clean (sym (do_roll x)) (layer_clean y))

-- ---- functions

abbrev all_known : List (Spanned StmtKind) → List (Spanned Known)
all_known xs = map (λ x. record { kind = (x.kind, kind_clean x.kind); span = x.span }) xs

same_all : (xs : List (Spanned StmtKind)) → do_all (all_known xs) ≡ map doing xs
same_all [] = refl
same_all (x ∷ xs) = ap (λ ds. doing x ∷ ds) (same_all xs)

body_clean : (p : Program) (f : Function) (names : List (List ℕ)) → (body p f names).breaks ≡ [] → Few names → Few ((body p f names).state).names
body_clean p f names none few =
    let c : Context = record { program = p; result = f.result; in_loop = false } in
    let s : State = record { scopes = parameters f.params ∷ []; names = names } in
    let inner = λ (ds : List (Spanned Doing)). in_order ds c s in
    let same = same_all (f.body).stmts in
    subst (λ ds. Few ((inner ds).state).names) same (order_clean (all_known (f.body).stmts) c s (ap (λ ds. (inner ds).breaks) same ∙ none) few)

names_few : (p : Program) (fs : List Function) (names : List (List ℕ)) → bodies p fs names ≡ [] → Few names → Few (names_after p fs names)
names_few p [] names none few = few
names_few p (f ∷ fs) names none few =
    let one = body p f names in
    let closed = broken (f.span).start ((NoReturn, not (closes f.body)) ∷ []) in
    let others = bodies p fs (one.state).names in
    names_few p fs (one.state).names (no_back (one.breaks ++ closed) others none) (body_clean p f names (no_front one.breaks closed (no_front (one.breaks ++ closed) others none)) few)

-- a program's bodies break no rule
bodies_clean : (p : Program) → IsWellShaped p → bodies p p.functions [] ≡ []
bodies_clean p shaped =
    let heads = exception_heads [] p.exceptions ++ function_heads [] p.functions ++ main_breaks (function_of (codes "main") p) in
    no_back heads (bodies p p.functions []) (no_front (heads ++ bodies p p.functions []) (weight_breaks p) shaped)

pub few_names : (p : Program) → IsWellShaped p → length (foreign_names p) ≤ 1024
few_names p shaped = let few = names_few p p.functions [] (bodies_clean p shaped) refl in grind (arith, few)

-- ---- line feeds

abbrev is_no_feed : ℕ → Bool
is_no_feed b = not (b == 10)

-- a byte at which the line feed's value would be false
differs : (p : ℕ → Bool) (b : ℕ) → p 10 ≡ false → p b ≡ true → (v : Bool) → (b == 10) ≡ v → not v ≡ true
differs p b lacks has true e = let same : b ≡ 10 = eqb-true b 10 e in absurd (false≢true (sym lacks ∙ subst (λ n. p n ≡ true) same has))
differs p b lacks has false e = refl

both : (a b : Bool) → a ≡ true → b ≡ true → (a && b) ≡ true
both a b p q = rw (p, q) refl

word_bytes : (bs : List ℕ) → list_all is_word_byte bs ≡ true → list_all is_no_feed bs ≡ true
word_bytes [] h = refl
word_bytes (b ∷ bs) h =
    let p = and_parts (is_word_byte b) (list_all is_word_byte bs) h in
    both (is_no_feed b) (list_all is_no_feed bs) (differs is_word_byte b refl p.0 (b == 10) refl) (word_bytes bs p.1)

spelled : (name : List ℕ) → is_spelled name ≡ true → list_all is_no_feed name ≡ true
spelled [] h = refl
spelled (b ∷ bs) h =
    let p = and_parts (is_letter b) (list_all is_word_byte bs) h in
    both (is_no_feed b) (list_all is_no_feed bs) (differs is_letter b refl p.0 (b == 10) refl) (word_bytes bs p.1)

pub one_line : (name : List ℕ) → is_foreign_name name ≡ true → is_one_line name ≡ true
one_line name h =
    let base = not (bytes_eq name (codes "base")) in
    let biw = not (bytes_eq name (codes "biw")) in
    spelled name (and_parts (is_spelled name) base (and_parts (is_spelled name && base) biw h).0).0

-- ---- folded names

pub names_are : (p : Program) → names_in p ≡ foreign_names p
unfolding names_in
names_are p = refl
