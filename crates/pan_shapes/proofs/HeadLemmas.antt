-- Heads one after another, and names in a row.
use Rattle.std.proofs.Common.{◌≡◌, ℕ, ◌+◌, ◌<◌, suc, length, get_or, take, drop, Bool, true, false, ◌||◌, not, nat_lt, List, [], ◌∷◌, ◌++◌, map, find, position, slice_get, cond, Option, Some, None, arith, refl, sym, ap, ◌∙◌}
use Rattle.std.specs.List.{list_any, position_or_len}
use Rattle.std.specs.Str.{bytes_eq}
use Rattle.std.proofs.Math.Seq.{drop-cons}
use Rattle.std.proofs.Math.Numerals.{add-one}
use Rattle.std.proofs.lemmas.List.{length-map, take_more, take-append-drop, map-append}
use Rattle.std.proofs.lemmas.List.Folds.{list_any-append, find_at}
use Rattle.std.proofs.lemmas.Option.{slice_get_past, slice_get-get_or}
use Rattle.std.proofs.lemmas.Bool.Decides.{nat_tests}
use Rattle.pan_tree.specs.declared.rule.Rule.{Rule}
use Rattle.pan_tree.specs.declared.rule.Rule.TheVariants.{TwoNames, ShapeTooWide, TooMany}
use Rattle.pan_tree.specs.declared.program.Exception.{Exception}
use Rattle.pan_tree.specs.declared.program.Function.{Function}
use Rattle.pan_tree.specs.declared.program.Param.{Param}
use Rattle.pan_tree.specs.Check.{broken, repeats, exception_heads, function_heads, is_wide, with_name}
use Rattle.pan_shapes.proofs.NameLemmas.{flips}
use Rattle.pan_shapes.specs.HeadRules.{exception_head, function_head, head_is_wide}

-- ---- the next of a row

pub next : {X : Type 0} (xs : List X) (i : ℕ) (x : X) → i < length xs → x ≡ get_or xs i x → drop i xs ≡ x ∷ drop (i + 1) xs
next xs i x lt is = drop-cons xs i x lt ∙ ap (λ y. y ∷ drop (suc i) xs) (sym is) ∙ ap (λ n. x ∷ drop n xs) (sym (add-one i))

pub one_more : {X : Type 0} (xs : List X) (i : ℕ) (x : X) → i < length xs → x ≡ get_or xs i x → take (i + 1) xs ≡ take i xs ++ x ∷ []
one_more xs i x lt is = take_more xs i x lt ∙ ap (λ y. take i xs ++ y ∷ []) (sym is)

-- ---- names

pub any_named : {X : Type 0} (name : X → List ℕ) (q : List ℕ) (xs : List X) → list_any (λ y. bytes_eq y q) (map name xs) ≡ list_any (λ x. bytes_eq (name x) q) xs
any_named name q [] = refl
any_named name q (x ∷ xs) = ap (λ b. bytes_eq (name x) q || b) (any_named name q xs)

pub new_name : (x : List ℕ) (names new : List (List ℕ)) → new ≡ with_name x names → list_any (λ y. bytes_eq y x) names ≡ false → new ≡ names ++ x ∷ []
new_name x names new e h = let f : with_name x names ≡ names ++ x ∷ [] = rw h refl in e ∙ f

-- the names of one more
pub names_more : {X : Type 0} (name : X → List ℕ) (xs : List X) (i : ℕ) (x : X) (names new : List (List ℕ)) → i < length xs → x ≡ get_or xs i x → names ≡ map name (take i xs)
    → new ≡ with_name (name x) names → list_any (λ y. bytes_eq y (name x)) names ≡ false → new ≡ map name (take (i + 1) xs)
names_more name xs i x names new lt is e w h =
    new_name (name x) names new w h ∙ ap (λ ns. ns ++ name x ∷ []) e ∙ sym (ap (map name) (one_more xs i x lt is) ∙ map-append name (take i xs) (x ∷ []))

-- ---- rules that hold

pub first_holds : (place : ℕ) (b : Bool) (rules : List (Rule × Bool)) → broken place ((TwoNames, b) ∷ rules) ≡ [] → b ≡ false
first_holds place true rules e = absurd cc
first_holds place false rules e = refl

-- ---- heads

pub exception_step : (xs : List Exception) (i : ℕ) (x : Exception) (names : List (List ℕ)) → i < length xs → x ≡ get_or xs i x → names ≡ map (λ (y : Exception). y.name) (take i xs)
    → exception_heads (take i xs) (drop i xs) ≡ exception_head names x ++ exception_heads (take (i + 1) xs) (drop (i + 1) xs)
exception_step xs i x names lt is e =
    let name = λ (y : Exception). y.name in
    let known : list_any (λ (y : Exception). bytes_eq y.name x.name) (take i xs) ≡ list_any (λ y. bytes_eq y x.name) names = sym (any_named name x.name (take i xs)) ∙ ap (list_any (λ y. bytes_eq y x.name)) (sym e) in
    let before : length (take i xs) ≡ length names = sym (length-map (take i xs) name) ∙ ap length (sym e) in
    ap (exception_heads (take i xs)) (next xs i x lt is)
    ∙ ap (λ b. broken x.span.start ((TwoNames, b) ∷ (ShapeTooWide, is_wide x.shape) ∷ (TooMany, not (nat_lt (length (take i xs)) 1024)) ∷ []) ++ exception_heads (take i xs ++ x ∷ []) (drop (i + 1) xs)) known
    ∙ ap (λ n. broken x.span.start ((TwoNames, list_any (λ y. bytes_eq y x.name) names) ∷ (ShapeTooWide, is_wide x.shape) ∷ (TooMany, not (nat_lt n 1024)) ∷ []) ++ exception_heads (take i xs ++ x ∷ []) (drop (i + 1) xs)) before
    ∙ ap (λ front. exception_head names x ++ exception_heads front (drop (i + 1) xs)) (sym (one_more xs i x lt is))

pub function_step : (fs : List Function) (i : ℕ) (f : Function) (names : List (List ℕ)) → i < length fs → f ≡ get_or fs i f → names ≡ map (λ (g : Function). g.name) (take i fs)
    → function_heads (take i fs) (drop i fs) ≡ function_head names f ++ function_heads (take (i + 1) fs) (drop (i + 1) fs)
function_step fs i f names lt is e =
    let name = λ (g : Function). g.name in
    let twins = repeats (map (λ (p : Param). p.name) f.params) in
    let known : list_any (λ (g : Function). bytes_eq g.name f.name) (take i fs) ≡ list_any (λ y. bytes_eq y f.name) names = sym (any_named name f.name (take i fs)) ∙ ap (list_any (λ y. bytes_eq y f.name)) (sym e) in
    let before : length (take i fs) ≡ length names = sym (length-map (take i fs) name) ∙ ap length (sym e) in
    ap (function_heads (take i fs)) (next fs i f lt is)
    ∙ ap (λ b. broken f.span.start ((TwoNames, b || twins) ∷ (ShapeTooWide, head_is_wide f) ∷ (TooMany, not (nat_lt (length (take i fs)) 4096)) ∷ []) ++ function_heads (take i fs ++ f ∷ []) (drop (i + 1) fs)) known
    ∙ ap (λ n. broken f.span.start ((TwoNames, list_any (λ y. bytes_eq y f.name) names || twins) ∷ (ShapeTooWide, head_is_wide f) ∷ (TooMany, not (nat_lt n 4096)) ∷ []) ++ function_heads (take i fs ++ f ∷ []) (drop (i + 1) fs)) before
    ∙ ap (λ front. function_head names f ++ function_heads front (drop (i + 1) fs)) (sym (one_more fs i f lt is))

-- ---- twins

or_true : (a b : Bool) → a ≡ true → (a || b) ≡ true
or_true true b h = refl
or_true false b h = absurd cc

shuffle : (a b c d : Bool) → ((a || (b || false)) || (c || d)) ≡ ((a || c) || (b || d))
shuffle true b c d = refl
shuffle false true true d = refl
shuffle false true false d = refl
shuffle false false true d = refl
shuffle false false false d = refl

pub repeats_more : (ns : List (List ℕ)) (x : List ℕ) → repeats (ns ++ x ∷ []) ≡ (repeats ns || list_any (λ y. bytes_eq y x) ns)
repeats_more [] x = refl
repeats_more (z ∷ zs) x =
    rw (list_any-append (λ y. bytes_eq y z) zs (x ∷ []), repeats_more zs x, flips x z)
    (shuffle (list_any (λ y. bytes_eq y z) zs) (bytes_eq z x) (repeats zs) (list_any (λ y. bytes_eq y x) zs))

pub repeats_front : (ns ms : List (List ℕ)) → repeats ns ≡ true → repeats (ns ++ ms) ≡ true
repeats_front [] ms h = absurd cc
repeats_front (z ∷ zs) ms h =
    rw (list_any-append (λ y. bytes_eq y z) zs ms) (by (list_any (λ y. bytes_eq y z) zs) (list_any (λ y. bytes_eq y z) ms) (repeats zs) (repeats (zs ++ ms)) h (repeats_front zs ms))
  where
    by : (a b c d : Bool) → (a || c) ≡ true → (c ≡ true → d ≡ true) → ((a || b) || d) ≡ true
    by true b c d h f = refl
    by false true c d h f = refl
    by false false c d h f = f h

-- a parameter has the name of one before
pub twin_found : (ps : List Param) (i : ℕ) (p : Param) (names : List (List ℕ)) → i < length ps → p ≡ get_or ps i p → names ≡ map (λ (q : Param). q.name) (take i ps)
    → list_any (λ y. bytes_eq y p.name) names ≡ true → true ≡ repeats (map (λ (q : Param). q.name) ps)
twin_found ps i p names lt is e h =
    let name = λ (q : Param). q.name in
    let front : repeats (names ++ p.name ∷ []) ≡ true = rw (repeats_more names p.name, h) (ends (repeats names)) in
    let all : map name ps ≡ (names ++ p.name ∷ []) ++ map name (drop (i + 1) ps) =
    ap (map name) (sym (take-append-drop (i + 1) ps)) ∙ map-append name (take (i + 1) ps) (drop (i + 1) ps)
    ∙ ap (λ ns. ns ++ map name (drop (i + 1) ps)) (ap (map name) (one_more ps i p lt is) ∙ map-append name (take i ps) (p ∷ []) ∙ ap (λ ns. ns ++ p.name ∷ []) (sym e)) in
    sym (ap repeats all ∙ repeats_front (names ++ p.name ∷ []) (map name (drop (i + 1) ps)) front)
  where
    ends : (b : Bool) → (b || true) ≡ true
    ends true = refl
    ends false = refl

pub still_apart : (names new : List (List ℕ)) (x : List ℕ) → new ≡ with_name x names → list_any (λ y. bytes_eq y x) names ≡ false → repeats names ≡ false → repeats new ≡ false
still_apart names new x w h apart = ap repeats (new_name x names new w h) ∙ rw (repeats_more names x, h, apart) refl

pub known_holds : (a b : Bool) → (a || b) ≡ false → a ≡ false
known_holds true b e = absurd cc
known_holds false b e = refl

-- ---- by name

place_named : {X : Type 0} (name : X → List ℕ) (q : List ℕ) (xs : List X) → position_or_len (λ y. bytes_eq y q) (map name xs) ≡ position_or_len (λ x. bytes_eq (name x) q) xs
place_named name q [] = refl
place_named name q (x ∷ xs) = rw (place_named name q xs) refl

-- the item that stands there
abbrev pub standing : {X : Type 0} → List X → Option ℕ → Option X
standing xs None = None
standing xs (Some i) = slice_get xs i

-- the first item of this name stands where its name does
pub find_named : {X : Type 0} (name : X → List ℕ) (q : List ℕ) (xs : List X) (names : List (List ℕ)) (o : Option ℕ) → names ≡ map name xs → o ≡ position (λ y. bytes_eq y q) names
    → find (λ x. bytes_eq (name x) q) xs ≡ standing xs o
find_named name q xs names o e is =
    let n = position_or_len (λ x. bytes_eq (name x) q) xs in
    let there : o ≡ cond (nat_lt n (length xs)) (Some n) None = is ∙ ap (position (λ y. bytes_eq y q)) e ∙ rw (place_named name q xs, length-map xs name) refl in
    find_at (λ x. bytes_eq (name x) q) xs ∙ by n (nat_lt n (length xs)) refl ∙ ap (standing xs) (sym there)
  where
    by : (n : ℕ) (b : Bool) → nat_lt n (length xs) ≡ b → slice_get xs n ≡ standing xs (cond b (Some n) None)
    by n true h = refl
    by n false h = slice_get_past xs n (grind (arith, nat_tests))

pub stands_within : {X : Type 0} (name : X → List ℕ) (q : List ℕ) (xs : List X) (names : List (List ℕ)) (i : ℕ) → names ≡ map name xs → Some i ≡ position (λ y. bytes_eq y q) names → i < length xs
stands_within name q xs names i e is =
    let n = position_or_len (λ x. bytes_eq (name x) q) xs in
    let there : Some i ≡ cond (nat_lt n (length xs)) (Some n) None = is ∙ ap (position (λ y. bytes_eq y q)) e ∙ rw (place_named name q xs, length-map xs name) refl in
    by n (nat_lt n (length xs)) refl there
  where
    by : (n : ℕ) (b : Bool) → nat_lt n (length xs) ≡ b → Some i ≡ cond b (Some n) None → i < length xs
    by n true h e = let same : i ≡ n = cc in grind (arith, nat_tests)
    by n false h e = absurd cc

pub standing_at : {X : Type 0} (xs : List X) (i : ℕ) (x : X) → i < length xs → x ≡ get_or xs i x → slice_get xs i ≡ Some x
standing_at xs i x lt is = slice_get-get_or xs i x lt ∙ ap Some (sym is)
