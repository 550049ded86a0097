-- Tables of the places of variables, as blocks are opened and closed and variables declared.
use Rattle.std.proofs.Common.{◌≡◌, ℕ, zero, suc, ◌+◌, ◌-◌, ◌<◌, ◌≤◌, Bool, true, false, ◌&&◌, cond, nat_lt, ◌==◌, List, [], ◌∷◌, ◌++◌, map, length, take, drop, reverse, get_or, slice_get, Option, Some, None, length-append, arith, refl, sym, ap, subst, ◌∙◌}
use Rattle.std.specs.Prelude.{find, option_map, option_and_then}
use Rattle.std.specs.List.{list_all}
use Rattle.std.specs.Str.{bytes_eq}
use Rattle.std.proofs.lemmas.Bool.Decides.{nat_tests}
use Rattle.std.proofs.lemmas.List.{map-append, get_or_append_left, get_or-take, length-take-le, reverse-append, reverse-reverse}
use Rattle.std.proofs.lemmas.List.Folds.{list_all-append}
use Rattle.std.proofs.lemmas.Option.{slice_get-get_or}
use Rattle.std.proofs.Math.Seq.{get_or-append_seam, take-append_seam}
use Rattle.pan_tree.specs.Scopes.{ScopeOf, ScopesOf, in_scope, or_else, innermost, declare}
use Rattle.pan_tree.specs.Shapes.{words_of}
use Rattle.check_soundness.proofs.SpreadShapes.{both_true}
use Rattle.source_resolver.specs.Resolving as resolving
use Rattle.source_resolver.specs.Resolving.{with_variable}
use Rattle.crep_flatten.specs.Flat.{Place, scope_words, count}
use Rattle.crep_flatten.specs.ScopeTables.{nowhere, at_number, placed, are_numbered, outer_counts, Tabled}

-- ---- numbers that are low

abbrev Low : ℕ → ScopeOf ℕ → Type 0
Low n scope = list_all (λ (x : List ℕ × ℕ). nat_lt x.1 n) scope ≡ true

low_number : (i n : ℕ) → nat_lt i n ≡ true → i < n
low_number i n h = grind (arith, nat_tests)

number_low : (i n : ℕ) → i < n → nat_lt i n ≡ true
number_low i n h = grind (arith, nat_tests)

first_low : (x : List ℕ × ℕ) (xs : ScopeOf ℕ) (n : ℕ) → Low n (x ∷ xs) → (x.1 < n) × Low n xs
first_low x xs n h = let both = both_true (nat_lt x.1 n) (list_all (λ (x : List ℕ × ℕ). nat_lt x.1 n) xs) h in (low_number x.1 n both.0, both.1)

low_more : (n m : ℕ) (scope : ScopeOf ℕ) → n ≤ m → Low n scope → Low m scope
low_more n m [] le h = refl
low_more n m (x ∷ xs) le h =
    let both = first_low x xs n h in
    let low = both.0 in
    ap (λ b. b && list_all (λ (x : List ℕ × ℕ). nat_lt x.1 m) xs) (number_low x.1 m (omega (arith, low, le))) ∙ low_more n m xs le both.1

-- ---- tables that agree

abbrev Agree : ℕ → List Place → List Place → Type 0
Agree n table other = (i : ℕ) → i < n → get_or table i nowhere ≡ get_or other i nowhere

same_scope : (n : ℕ) (table other : List Place) → Agree n table other → (scope : ScopeOf ℕ) → Low n scope → map (at_number table) scope ≡ map (at_number other) scope
same_scope n table other same [] h = refl
same_scope n table other same (x ∷ xs) h =
    let both = first_low x xs n h in
    ap (λ q. (x.0, q) ∷ map (at_number table) xs) (same x.1 both.0) ∙ ap (λ qs. at_number other x ∷ qs) (same_scope n table other same xs both.1)

same_scopes : (n : ℕ) (table other : List Place) → Agree n table other → (scopes : ScopesOf ℕ) → resolving.count scopes ≤ n → are_numbered scopes ≡ true → placed table scopes ≡ placed other scopes
same_scopes n table other same [] le h = refl
same_scopes n table other same (scope ∷ scopes) le h =
    let both = both_true (list_all (λ (x : List ℕ × ℕ). nat_lt x.1 (resolving.count (scope ∷ scopes))) scope) (are_numbered scopes) h in
    ap (λ qs. qs ∷ placed table scopes) (same_scope n table other same scope (low_more (resolving.count (scope ∷ scopes)) n scope le both.0))
    ∙ ap (λ qs. map (at_number other) scope ∷ qs) (same_scopes n table other same scopes (omega (arith, le)) both.1)

-- ---- a name

found_at : (x : List ℕ) (table : List Place) (scope : ScopeOf ℕ) → Low (length table) scope → in_scope x (map (at_number table) scope) ≡ option_and_then (slice_get table) (in_scope x scope)
found_at x table [] h = refl
found_at x table (y ∷ ys) h = let both = first_low y ys (length table) h in by (bytes_eq y.0 x) both.0 (found_at x table ys both.1)
  where
    by : (c : Bool) → y.1 < length table → in_scope x (map (at_number table) ys) ≡ option_and_then (slice_get table) (in_scope x ys)
        → option_map (λ (z : List ℕ × Place). z.1) (cond c (Some (at_number table y)) (find (λ (z : List ℕ × Place). bytes_eq z.0 x) (map (at_number table) ys)))
        ≡ option_and_then (slice_get table) (option_map (λ (z : List ℕ × ℕ). z.1) (cond c (Some y) (find (λ (z : List ℕ × ℕ). bytes_eq z.0 x) ys)))
    by true low h = sym (slice_get-get_or table y.1 nowhere low)
    by false low h = h

found_in : (x : List ℕ) (table : List Place) (scopes : ScopesOf ℕ) → resolving.count scopes ≤ length table → are_numbered scopes ≡ true → innermost x (placed table scopes) ≡ option_and_then (slice_get table) (innermost x scopes)
found_in x table [] le h = refl
found_in x table (scope ∷ scopes) le h =
    let both = both_true (list_all (λ (x : List ℕ × ℕ). nat_lt x.1 (resolving.count (scope ∷ scopes))) scope) (are_numbered scopes) h in
    let low = low_more (resolving.count (scope ∷ scopes)) (length table) scope le both.0 in
    ap (λ o. or_else o (innermost x (placed table scopes))) (found_at x table scope low)
    ∙ by (in_scope x scope) (within x scope low) (found_in x table scopes (omega (arith, le)) both.1)
  where
    Within : Option ℕ → Type 0
    Within o = (i : ℕ) → o ≡ Some i → i < length table

    within : (x : List ℕ) (scope : ScopeOf ℕ) → Low (length table) scope → Within (in_scope x scope)
    within x [] h = λ i is. absurd cc
    within x (y ∷ ys) h = let both = first_low y ys (length table) h in at (bytes_eq y.0 x) both.0 (within x ys both.1)
      where
        at : (c : Bool) → y.1 < length table → Within (in_scope x ys) → Within (option_map (λ (z : List ℕ × ℕ). z.1) (cond c (Some y) (find (λ (z : List ℕ × ℕ). bytes_eq z.0 x) ys)))
        at true low h = λ i is. let same : y.1 ≡ i = cc in omega (arith, low, same)
        at false low h = h

    by : (o : Option ℕ) → Within o → innermost x (placed table scopes) ≡ option_and_then (slice_get table) (innermost x scopes)
        → or_else (option_and_then (slice_get table) o) (innermost x (placed table scopes)) ≡ option_and_then (slice_get table) (or_else o (innermost x scopes))
    by None low h = h
    by (Some i) low h = let is = slice_get-get_or table i nowhere (low i refl) in ap (λ o. or_else o (innermost x (placed table scopes))) is ∙ sym is

-- the place of a name is that of its number
pub found : (x : List ℕ) (scopes : ScopesOf ℕ) (table : List Place) (outside : List ℕ) (words : ℕ) → Tabled scopes table outside words → innermost x (placed table scopes) ≡ option_and_then (slice_get table) (innermost x scopes)
found x scopes table outside words h = let full = h.full in found_in x table scopes (omega (arith, full)) h.numbered

-- ---- opening a block

pub none : (scopes : ScopesOf ℕ) (table : List Place) (outside : List ℕ) → scopes ≡ [] → table ≡ [] → outside ≡ [] → Tabled scopes table outside 0
none scopes table outside s t o = subst (λ s. Tabled s table outside 0) (sym s) (record { numbered = refl; full = ap length t; outer = ap reverse o; counted = refl })

pub opened : (scopes : ScopesOf ℕ) (table : List Place) (outside more : List ℕ) (words : ℕ) → Tabled scopes table outside words → more ≡ outside ++ words ∷ [] → Tabled ([] ∷ scopes) table more words
opened scopes table outside more words h is = record {
  numbered = h.numbered;
  full = h.full ∙ omega arith;
  outer = ap reverse is ∙ reverse-append outside (words ∷ []) ∙ ap (λ n. n ∷ reverse outside) h.counted ∙ ap (λ ns. count (placed table scopes) ∷ ns) h.outer;
  counted = h.counted ∙ omega arith;
}

-- ---- closing a block

-- without a block there are no words outside of any
pub none_open : (scopes : ScopesOf ℕ) (table : List Place) (outside : List ℕ) (words : ℕ) → Tabled scopes table outside words → outside ≡ [] → scopes ≡ []
none_open [] table outside words h is = refl
none_open (scope ∷ scopes) table outside words h is = let no : [] ≡ outer_counts (placed table (scope ∷ scopes)) = ap reverse (sym is) ∙ h.outer in absurd cc

pub record Closed (scopes left : ScopesOf ℕ) (table rest : List Place) (outside : List ℕ) (words : ℕ) : Type 0 where
  pub tabled : Tabled left rest outside words
  pub same : placed rest left ≡ drop 1 (placed table scopes)

pub closed : (scopes left : ScopesOf ℕ) (table rest : List Place) (outside fewer : List ℕ) (words last : ℕ) → Tabled scopes table outside words → outside ≡ fewer ++ last ∷ [] → left ≡ drop 1 scopes → rest ≡ take (resolving.count left) table → Closed scopes left table rest fewer last
closed [] left table rest outside fewer words last h is l r = let no : last ∷ reverse fewer ≡ [] = sym (ap reverse is ∙ reverse-append fewer (last ∷ [])) ∙ h.outer in absurd cc
closed (scope ∷ scopes) left table rest outside fewer words last h is l r =
    let both = both_true (list_all (λ (x : List ℕ × ℕ). nat_lt x.1 (resolving.count (scope ∷ scopes))) scope) (are_numbered scopes) h.numbered in
    let n = resolving.count scopes in
    let full = h.full in
    let r' : rest ≡ take n table = r ∙ ap (λ s. take (resolving.count s) table) l in
    let same : placed rest scopes ≡ placed table scopes = ap (λ t. placed t scopes) r' ∙ same_scopes n (take n table) table (λ i low. get_or-take n table i nowhere low) scopes (omega arith) both.1 in
    let outer : last ∷ reverse fewer ≡ count (placed table scopes) ∷ outer_counts (placed table scopes) = sym (ap reverse is ∙ reverse-append fewer (last ∷ [])) ∙ h.outer in
    let first : last ≡ count (placed table scopes) = cc in
    let others : reverse fewer ≡ outer_counts (placed table scopes) = cc in
    subst (λ s. Closed (scope ∷ scopes) s table rest fewer last) (sym l) (record {
      tabled = record {
        numbered = both.1;
        full = ap length r' ∙ length-take-le n table (omega (arith, full));
        outer = others ∙ ap outer_counts (sym same);
        counted = first ∙ ap count (sym same);
      };
      same = same;
    })

-- ---- declaring a variable

-- the number of the new variable is that of the variables before
low_with : (x : List ℕ) (scope : ScopeOf ℕ) (n m : ℕ) → n < m → Low n scope → Low m (scope ++ (x, n) ∷ [])
low_with x scope n m l h =
    list_all-append (λ (x : List ℕ × ℕ). nat_lt x.1 m) scope ((x, n) ∷ [])
    ∙ ap (λ b. b && (nat_lt n m && true)) (low_more n m scope (omega (arith, l)) h) ∙ ap (λ b. b && true) (number_low n m l)

words_with : (x : List ℕ) (q : Place) (scope : ScopeOf Place) → scope_words (scope ++ (x, q) ∷ []) ≡ scope_words scope + words_of q.shape
words_with x q [] = omega arith
words_with x q (y ∷ ys) = ap (λ n. words_of (y.1).shape + n) (words_with x q ys) ∙ omega arith

pub record Declared (x : List ℕ) (q : Place) (scopes left : ScopesOf ℕ) (table rest : List Place) (outside : List ℕ) (words : ℕ) : Type 0 where
  pub tabled : Tabled left rest outside words
  pub same : placed rest left ≡ declare x q (placed table scopes)

pub declared : (x : List ℕ) (q : Place) (scopes left : ScopesOf ℕ) (table rest : List Place) (outside : List ℕ) (words more : ℕ) → Tabled scopes table outside words → ¬ (outside ≡ []) → left ≡ with_variable x scopes → rest ≡ table ++ q ∷ [] → more ≡ words + words_of q.shape
    → Declared x q scopes left table rest outside more
declared x q [] left table rest outside words more h some l r m = absurd (some (empty h.outer))
  where
    empty : reverse outside ≡ [] → outside ≡ []
    empty h = sym (reverse-reverse outside) ∙ ap reverse h
declared x q (scope ∷ scopes) left table rest outside words more h some l r m =
    let n = resolving.count (scope ∷ scopes) in
    let both = both_true (list_all (λ (x : List ℕ × ℕ). nat_lt x.1 n) scope) (are_numbered scopes) h.numbered in
    let full = h.full in
    let agree : Agree n rest table = λ i low. ap (λ t. get_or t i nowhere) r ∙ get_or_append_left table (q ∷ []) nowhere i (omega (arith, full, low)) in
    let new : get_or rest n nowhere ≡ q = ap (λ t. get_or t n nowhere) r ∙ ap (λ k. get_or (table ++ q ∷ []) k nowhere) (sym full) ∙ get_or-append_seam table q [] nowhere in
    let inner : map (at_number rest) (scope ++ (x, n) ∷ []) ≡ map (at_number table) scope ++ (x, q) ∷ [] =
    map-append (at_number rest) scope ((x, n) ∷ []) ∙ ap (λ qs. qs ++ (x, get_or rest n nowhere) ∷ []) (same_scope n rest table agree scope both.0) ∙ ap (λ q. map (at_number table) scope ++ (x, q) ∷ []) new in
    let same : placed rest (with_variable x (scope ∷ scopes)) ≡ declare x q (placed table (scope ∷ scopes)) =
    ap (λ qs. qs ∷ placed rest scopes) inner ∙ ap (λ qs. (map (at_number table) scope ++ (x, q) ∷ []) ∷ qs) (same_scopes n rest table agree scopes (omega arith) both.1) in
    let long : length (scope ++ (x, n) ∷ []) ≡ length scope + 1 = length-append scope ((x, n) ∷ []) in
    let many = words_with x q (map (at_number table) scope) in
    let counted = h.counted in
    subst (λ s. Declared x q (scope ∷ scopes) s table rest outside more) (sym l) (record {
      tabled = record {
        numbered = ap (λ b. b && are_numbered scopes) (low_with x scope n (resolving.count scopes + length (scope ++ (x, n) ∷ [])) (omega (arith, long)) both.0) ∙ both.1;
        full = ap length r ∙ length-append table (q ∷ []) ∙ omega (arith, full, long);
        outer = h.outer ∙ ap outer_counts (sym same);
        counted = m ∙ omega (arith, counted, many) ∙ ap count (sym same);
      };
      same = same;
    })

-- a block is open
pub some_open : (outside : List ℕ) (n : ℕ) (b : Bool) → n ≡ length outside → b ≡ (n == 0) → b ≡ false → ¬ (outside ≡ [])
some_open outside zero b l e f is = absurd cc
some_open [] (suc n) b l e f is = absurd cc
some_open (x ∷ xs) (suc n) b l e f is = absurd cc

-- a place that was put into the table is taken out again
pub undone : (scopes left : ScopesOf ℕ) (q : Place) (table pushed rest : List Place) (outside : List ℕ) (words n : ℕ) → Tabled scopes table outside words → left ≡ scopes → pushed ≡ table ++ q ∷ [] → n ≡ length table + 1 → rest ≡ take (n - 1) pushed → Tabled left rest outside words
undone scopes left q table pushed rest outside words n h l p m r =
    let same : rest ≡ table = r ∙ ap (λ k. take k pushed) (omega (arith, m)) ∙ ap (take (length table)) p ∙ take-append_seam table (q ∷ []) in
    subst (λ s. Tabled s rest outside words) (sym l) (subst (λ t. Tabled scopes t outside words) (sym same) h)
