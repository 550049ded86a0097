-- The foreign names of a program differ from one another, and are those of an image where each is lawful.
use Rattle.std.proofs.Common.{◌≡◌, ℕ, ◌+◌, ◌≤◌, Bool, true, false, ◌&&◌, ◌||◌, not, nat_le, if◌then◌else◌, List, [], ◌∷◌, ◌++◌, map, length, take, slice_get, Option, Some, None, arith, refl, sym, ap, subst, ◌∙◌}
use Rattle.std.specs.List.{list_any, list_all}
use Rattle.std.specs.Str.{bytes_eq}
use Rattle.std.proofs.lemmas.Bool.{and_parts}
use Rattle.std.specs.Bool.{one_answer}
use Rattle.std.proofs.lemmas.Bool.Decides.{nat_tests}
use Rattle.std.proofs.lemmas.List.{take_more}
use Rattle.std.proofs.lemmas.List.Folds.{list_any-append, list_all-append}
use Rattle.std.proofs.lemmas.Option.{slice_get_within, get_or_from_slice_get}
use Rattle.std.proofs.lemmas.Slice.Eq.{bytes_eq-Decides}
use Rattle.pan_base.specs.Names.{is_foreign_name, is_short_foreign_name}
use Rattle.pan_tree.specs.Check as check
use Rattle.pan_tree.specs.Check.{State, Doing, doing, in_order, do_layer, do_kind, body, with_name, foreign_names, names_after}
use Rattle.pan_tree.specs.declared.spanned.Spanned.{Spanned}
use Rattle.pan_tree.specs.declared.syntax.HandlerOf.{HandlerOf}
use Rattle.pan_tree.specs.declared.syntax.StmtKind.{StmtKind, StmtKind-F, map-StmtKind}
use Rattle.pan_tree.specs.declared.syntax.StmtKind.TheOpen as stmt
use Rattle.pan_tree.specs.declared.program.Function.{Function}
use Rattle.pan_tree.specs.declared.program.Program.{Program}
use Rattle.pan_tree.proofs.CheckLayers.{do_roll}
use Rattle.pan_tree.proofs.MeaningLayers.{by_layers}
use Rattle.riscv_isa.specs.Image.{are_foreign_names}

-- no name stands twice
abbrev pub are_different : List (List ℕ) → Bool
are_different [] = true
are_different (x ∷ xs) = not (list_any (λ y. bytes_eq y x) xs) && are_different xs

flips : (x y : List ℕ) → bytes_eq x y ≡ bytes_eq y x
flips x y = one_answer (bytes_eq x y) (bytes_eq y x) (bytes_eq-Decides x y) ((λ h. sym ((bytes_eq-Decides y x).0 h)), (λ e. (bytes_eq-Decides y x).1 (sym e)))

-- ---- one name more

neither : (a b : Bool) → (a || b) ≡ false → (a ≡ false) × (b ≡ false)
neither true b h = absurd cc
neither false b h = (refl, h)

pushed : (a b c : Bool) → (not a && b) ≡ true → c ≡ false → (not (a || (c || false)) && b) ≡ true
pushed a b true h e = absurd cc
pushed true b false h e = absurd cc
pushed false b false h e = h

different-push : (xs : List (List ℕ)) (x : List ℕ) → are_different xs ≡ true → list_any (λ y. bytes_eq y x) xs ≡ false → are_different (xs ++ x ∷ []) ≡ true
different-push [] x d new = refl
different-push (y ∷ ys) x d new =
    let apart = neither (bytes_eq y x) (list_any (λ z. bytes_eq z x) ys) new in
    let both = and_parts (not (list_any (λ z. bytes_eq z y) ys)) (are_different ys) d in
    let rest = different-push ys x both.1 apart.1 in
    let first : (not (list_any (λ z. bytes_eq z y) (ys ++ x ∷ [])) && are_different (ys ++ x ∷ [])) ≡ (not (list_any (λ z. bytes_eq z y) ys || (bytes_eq x y || false)) && true) =
    ap (λ b. not b && are_different (ys ++ x ∷ [])) (list_any-append (λ z. bytes_eq z y) ys (x ∷ [])) ∙ ap (λ b. not (list_any (λ z. bytes_eq z y) ys || (bytes_eq x y || false)) && b) rest in
    first ∙ pushed (list_any (λ z. bytes_eq z y) ys) true (bytes_eq x y) (ap (λ b. b && true) both.0) (flips x y ∙ apart.0)

chosen : (b : Bool) (x : List ℕ) (names : List (List ℕ)) → list_any (λ y. bytes_eq y x) names ≡ b → are_different names ≡ true → are_different (if b then names else names ++ x ∷ []) ≡ true
chosen true x names e d = d
chosen false x names e d = different-push names x d e

with_different : (x : List ℕ) (names : List (List ℕ)) → are_different names ≡ true → are_different (with_name x names) ≡ true
with_different x names d = chosen (list_any (λ y. bytes_eq y x) names) x names refl d

-- ---- statements keep names different

abbrev KeepsDifferent : StmtKind → Type 0
KeepsDifferent k = (c : check.Context) (place : ℕ) (s : State) → are_different s.names ≡ true → are_different ((do_kind k c place s).state).names ≡ true

abbrev Known : Type 0
Known = (k : StmtKind) × KeepsDifferent k

abbrev plain : Spanned Known → Spanned StmtKind
plain x = record { kind = x.kind.0; span = x.span }

order_different : (ss : List (Spanned Known)) (c : check.Context) (s : State) → are_different s.names ≡ true → are_different ((in_order (map doing (map plain ss)) c s).state).names ≡ true
order_different [] c s d = d
order_different (x ∷ xs) c s d = order_different xs c (do_kind x.kind.0 c x.span.start s).state (x.kind.1 c x.span.start s d)

layer_different : (y : StmtKind-F Known) (c : check.Context) (place : ℕ) (s : State) → are_different s.names ≡ true
    → let z = map-StmtKind Known StmtKind (λ c. c.0) y in are_different ((do_layer (map-StmtKind StmtKind Doing do_kind z) c place s).state).names ≡ true
layer_different stmt.Skip c place s d = d
layer_different (stmt.Decl x e) c place s d = d
layer_different (stmt.Assign x e) c place s d = d
layer_different (stmt.StoreWords a e) c place s d = d
layer_different (stmt.StoreByte a e) c place s d = d
layer_different (stmt.If e a b) c place s d =
    let first : State = record { scopes = [] ∷ s.scopes; names = s.names } in
    let one = in_order (map doing (map plain a.stmts)) c first in
    order_different b.stmts c (record { scopes = [] ∷ s.scopes; names = (one.state).names }) (order_different a.stmts c first d)
layer_different (stmt.While e b) c place s d = order_different b.stmts (record c { in_loop = true }) (record s { scopes = [] ∷ s.scopes }) d
layer_different stmt.Break c place s d = d
layer_different stmt.Continue c place s d = d
layer_different (stmt.Call k) c place s d = handled k.handler
  where
    handled : (h : Option (HandlerOf (Spanned Known))) → let y : StmtKind-F Known = stmt.Call (record { into = k.into; function = k.function; args = k.args; handler = h }) in let z = map-StmtKind Known StmtKind (λ c. c.0) y in
        are_different ((do_layer (map-StmtKind StmtKind Doing do_kind z) c place s).state).names ≡ true
    handled None = d
    handled (Some h) = order_different (h.body).stmts c _ d
layer_different (stmt.Return e) c place s d = d
layer_different (stmt.TailCall f es) c place s d = d
layer_different (stmt.Raise i e) c place s d = d
layer_different (stmt.SharedLoad z x a) c place s d = d
layer_different (stmt.SharedStore z a e) c place s d = d
layer_different (stmt.Foreign x a b e f) c place s d = with_different x s.names d

stays_different : (k : StmtKind) → KeepsDifferent k
stays_different = by_layers KeepsDifferent (λ y c place s d.
    let z = map-StmtKind Known StmtKind (λ c. c.0) y in
    subst (λ (f : Doing). are_different ((f c place s).state).names ≡ true) (sym (do_roll z)) (layer_different y c place s d))

all_different : (ss : List (Spanned StmtKind)) (c : check.Context) (s : State) → are_different s.names ≡ true → are_different ((in_order (map doing ss) c s).state).names ≡ true
all_different [] c s d = d
all_different (x ∷ xs) c s d = all_different xs c (do_kind x.kind c x.span.start s).state (stays_different x.kind c x.span.start s d)

different_after : (p : Program) (fs : List Function) (names : List (List ℕ)) → are_different names ≡ true → are_different (names_after p fs names) ≡ true
different_after p [] names d = d
different_after p (f ∷ fs) names d = different_after p fs ((body p f names).state).names (all_different (f.body).stmts _ _ d)

-- ---- an image's names

both_tests : (a b c : Bool) → a ≡ true → b ≡ true → c ≡ true → (a && b && c) ≡ true
both_tests a b c e f g = ap (λ x. x && b && c) e ∙ ap (λ x. x && c) f ∙ g

foreign : (names : List (List ℕ)) → are_different names ≡ true → list_all is_short_foreign_name names ≡ true → are_foreign_names names ≡ true
foreign [] d good = refl
foreign (x ∷ xs) d good =
    let apart = and_parts (not (list_any (λ y. bytes_eq y x) xs)) (are_different xs) d in
    let short = and_parts (is_short_foreign_name x) (list_all is_short_foreign_name xs) good in
    both_tests (is_short_foreign_name x) (not (list_any (λ y. bytes_eq y x) xs)) (are_foreign_names xs) short.0 apart.0 (foreign xs apart.1 short.1)

-- the foreign names of a program are those of an image, where each is lawful
pub foreign_so : (p : Program) → list_all is_short_foreign_name (foreign_names p) ≡ true → are_foreign_names (foreign_names p) ≡ true
foreign_so p good = foreign (foreign_names p) (different_after p p.functions [] refl) good

-- ---- one name after another

-- the first names with the next one
pub first_names_more : (names done : List (List ℕ)) (i : ℕ) (x : List ℕ) → done ≡ take i names → Some x ≡ slice_get names i → done ++ x ∷ [] ≡ take (i + 1) names
first_names_more names done i x is at =
    sym (take_more names i x (slice_get_within names i x (sym at)) ∙ ap (λ y. take i names ++ y ∷ []) (get_or_from_slice_get names i x x (sym at)) ∙ ap (λ ys. ys ++ x ∷ []) (sym is))

short_so : (x : List ℕ) → is_foreign_name x ≡ true → length x ≤ 64 → is_short_foreign_name x ≡ true
short_so x h l = let t : nat_le (length x) 64 ≡ true = grind (arith, nat_tests) in ap (λ b. b && nat_le (length x) 64) h ∙ t

pub lawful_more : (done : List (List ℕ)) (x : List ℕ) → list_all is_short_foreign_name done ≡ true → is_foreign_name x ≡ true → length x ≤ 64 → list_all is_short_foreign_name (done ++ x ∷ []) ≡ true
lawful_more done x good h l =
    list_all-append is_short_foreign_name done (x ∷ []) ∙ ap (λ b. b && (is_short_foreign_name x && true)) good ∙ ap (λ b. b && true) (short_so x h l)
