-- Variables of blocks, of which the last of a row is the innermost.
use Rattle.std.proofs.Common.{length-append, ◌≡◌, ℕ, ◌+◌, ◌≤◌, set, arith, length, take, reverse, get_or, List, [], ◌∷◌, ◌++◌, sym, ap, ◌∙◌}
use Rattle.std.proofs.Math.Seq.{set-append_seam}
use Rattle.std.proofs.lemmas.List.{take_all, length-take-le, take_more, reverse-append, length-reverse, set-get_or}
use Rattle.pan_tree.specs.Scopes.{ScopeOf, declare}
use Rattle.source_resolver.specs.Resolving.{Places, count, with_variable}

-- a declaration in the last block
declared_last : (name : List ℕ) (n : ℕ) (blocks : List (ScopeOf ℕ)) (i : ℕ) (block new : ScopeOf ℕ) → length blocks ≡ i + 1 → block ≡ get_or blocks i block → new ≡ block ++ (name, n) ∷ []
    → reverse (set blocks i new) ≡ declare name n (reverse blocks)
declared_last name n blocks i block new many at made =
    let outer : List (ScopeOf ℕ) = take i blocks in
    let last : ScopeOf ℕ = get_or blocks i block in
    let parts : blocks ≡ outer ++ last ∷ [] = sym (take_all (i + 1) blocks (omega (arith, many))) ∙ take_more blocks i block (omega (arith, many)) in
    let len : length outer ≡ i = length-take-le i blocks (omega (arith, many)) in
    let after : set blocks i new ≡ outer ++ new ∷ [] = ap (λ bs. set bs i new) parts ∙ ap (λ k. set (outer ++ last ∷ []) k new) (sym len) ∙ set-append_seam outer last [] new in
    ap reverse after ∙ reverse-append outer (new ∷ [])
    ∙ ap (λ b. b ∷ reverse outer) (made ∙ ap (λ b. b ++ (name, n) ∷ []) at)
    ∙ sym (ap (declare name n) (ap reverse parts ∙ reverse-append outer (last ∷ [])))

-- the next place is declared in the last block
pub variable_last : (name : List ℕ) (total : ℕ) (blocks : List (ScopeOf ℕ)) (i : ℕ) (block new : ScopeOf ℕ) → total ≡ count (reverse blocks) → length blocks ≡ i + 1 → block ≡ get_or blocks i block → new ≡ block ++ (name, total) ∷ []
    → reverse (set blocks i new) ≡ with_variable name (reverse blocks)
variable_last name total blocks i block new is many at made = declared_last name total blocks i block new many at made ∙ ap (λ n. declare name n (reverse blocks)) is

count_declared : (name : List ℕ) (n : ℕ) (v : Places) → 0 + 1 ≤ length v → count (declare name n v) ≡ count v + 1
count_declared name n [] h = absurd (omega arith)
count_declared name n (scope ∷ scopes) h = ap (λ k. count scopes + k) (length-append scope ((name, n) ∷ [])) ∙ omega arith

-- and then there is one variable more
pub one_more : (name : List ℕ) (total : ℕ) (blocks : List (ScopeOf ℕ)) (i : ℕ) (block new : ScopeOf ℕ) → total ≡ count (reverse blocks) → length blocks ≡ i + 1 → block ≡ get_or blocks i block → new ≡ block ++ (name, total) ∷ []
    → total + 1 ≡ count (reverse (set blocks i new))
one_more name total blocks i block new is many at made =
    let some : 0 + 1 ≤ length (reverse blocks) = omega (arith, length-reverse blocks, many) in
    ap (λ n. n + 1) is ∙ sym (count_declared name total (reverse blocks) some) ∙ sym (ap count (declared_last name total blocks i block new many at made))

-- the last block stays
pub same_last : (blocks : List (ScopeOf ℕ)) (i : ℕ) (block new : ScopeOf ℕ) → block ≡ get_or blocks i block → new ≡ block → set blocks i new ≡ blocks
same_last blocks i block new at same = ap (set blocks i) (same ∙ at) ∙ set-get_or blocks i block
