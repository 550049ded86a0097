-- A block's variables, as its map of them says.
use Rattle.std.proofs.Common.{◌≡◌, ℕ, ◌+◌, ◌<◌, ◌≤◌, set, OnOk, Result, Ok, Err, arith, length, take, reverse, get_or, Bool, true, false, cond, nat_eq, List, [], ◌∷◌, ◌++◌, map, Option, Some, None, Bor, refl, sym, ap, subst, ◌∙◌}
use Rattle.std.specs.Map.{lookup}
use Rattle.std.specs.Option.{option_map}
use Rattle.std.specs.Cmp.Lexicographic.{pointwise}
use Rattle.std.proofs.lemmas.Cmp.{nat_list_eq_equiv}
use Rattle.pan_tree.specs.declared.shape.Shape.{Shape}
use Rattle.std.specs.Option.{option_or}
use Rattle.std.proofs.Math.Seq.{set-append_seam}
use Rattle.std.proofs.lemmas.List.{map-append, take_all, length-take-le, take_more, reverse-append}
use Rattle.indexmap.specs.IndexMap.{IndexMap, insert_entry}
use Rattle.indexmap.proofs.CallerLemmas.{insert_entry-new}
use Rattle.pan_tree.specs.Check.{in_scope, shape_of, declare}

abbrev pub seen : List (Bor (List ℕ) × Shape) → List (List ℕ × Shape)
seen es = map (λ v. ((v.0).now, v.1)) es

found_map : {X Y : Type 0} (f : X → Y) (b : Bool) (x : X) (r : Option X) → cond b (Some (f x)) (option_map f r) ≡ option_map f (cond b (Some x) r)
found_map f true x r = refl
found_map f false x r = refl

pub in_scope_seen : (name : List ℕ) (es : List (Bor (List ℕ) × Shape)) → lookup (λ k. pointwise nat_eq name k.now) es ≡ in_scope name (seen es)
in_scope_seen name [] = refl
in_scope_seen name (e ∷ es) =
    ap (λ b. cond b (Some e.1) (lookup (λ k. pointwise nat_eq name k.now) es)) (nat_list_eq_equiv.symm name (e.0).now)
    ∙ ap (λ r. cond (pointwise nat_eq (e.0).now name) (Some e.1) r) (in_scope_seen name es)
    ∙ found_map (λ v. v.1) (pointwise nat_eq (e.0).now name) ((e.0).now, e.1) _

-- two names that are spelled alike, as a map of names compares them
abbrev pub alike : Bor (List ℕ) → Bor (List ℕ) → Bool
alike a b = pointwise nat_eq a.now b.now

pub declared_seen : {S : Type 0} (m : IndexMap (Bor (List ℕ)) Shape S) (name : Bor (List ℕ)) (s : Shape) → in_scope name.now (seen m.entries) ≡ None → seen (insert_entry alike m.entries name s) ≡ seen m.entries ++ (name.now, s) ∷ []
declared_seen m name s none =
    ap seen (insert_entry-new alike m name s (in_scope_seen name.now m.entries ∙ none)) ∙ map-append (λ v. ((v.0).now, v.1)) m.entries ((name, s) ∷ [])

-- ---- blocks, of which the last is the innermost

abbrev pub Blocks : Type 0
Blocks = List (List (List ℕ × Shape))

pub shape_of_block : (name : List ℕ) (block : List (List ℕ × Shape)) (blocks : Blocks) → shape_of name (block ∷ blocks) ≡ option_or (in_scope name block) (shape_of name blocks)
shape_of_block name block blocks = refl

-- of the first blocks, the last is looked through first
pub shape_of_last : (name : List ℕ) (blocks : Blocks) (i : ℕ) (d : List (List ℕ × Shape)) → i < length blocks → shape_of name (reverse (take (i + 1) blocks)) ≡ option_or (in_scope name (get_or blocks i d)) (shape_of name (reverse (take i blocks)))
shape_of_last name blocks i d h =
    ap (λ bs. shape_of name (reverse bs)) (take_more blocks i d h)
    ∙ ap (shape_of name) (reverse-append (take i blocks) (get_or blocks i d ∷ []))

-- a declaration in the last block
pub declared_last : (name : List ℕ) (s : Shape) (blocks : Blocks) (i : ℕ) (block new : List (List ℕ × Shape)) → length blocks ≡ i + 1 → block ≡ get_or blocks i block → new ≡ block ++ (name, s) ∷ []
    → reverse (set blocks i new) ≡ declare name s (reverse blocks)
declared_last name s blocks i block new many at made =
    let outer : Blocks = take i blocks in
    let last : List (List ℕ × Shape) = get_or blocks i block in
    let parts : blocks ≡ outer ++ last ∷ [] = sym (take_all (i + 1) blocks (omega (arith, many))) ∙ take_more blocks i block (omega (arith, many)) in
    let len : length outer ≡ i = length-take-le i blocks (omega (arith, many)) in
    let after : set blocks i new ≡ outer ++ new ∷ [] = ap (λ bs. set bs i new) parts ∙ ap (λ n. set (outer ++ last ∷ []) n new) (sym len) ∙ set-append_seam outer last [] new in
    ap reverse after ∙ reverse-append outer (new ∷ [])
    ∙ ap (λ b. b ∷ reverse outer) (made ∙ ap (λ b. b ++ (name, s) ∷ []) at)
    ∙ sym (ap (declare name s) (ap reverse parts ∙ reverse-append outer (last ∷ [])))

pub declared_nowhere : (name : List ℕ) (s : Shape) (blocks : Blocks) → length blocks ≤ 0 → reverse blocks ≡ declare name s (reverse blocks)
declared_nowhere name s [] h = refl
declared_nowhere name s (b ∷ bs) h = let no : ⊥ = omega (arith, h) in absurd no

-- what follows from what holds of an Ok
pub on_ok : {X E : Type 0} (P Q : Type 0) (r : Result X E) → OnOk r P → (P → Q) → OnOk r Q
on_ok P Q (Ok x) p f = f p
on_ok P Q (Err e) p f = tt

pub on_ok_as : {X E : Type 0} (P Q : Type 0) (r s : Result X E) → s ≡ r → OnOk r P → (P → Q) → OnOk s Q
on_ok_as P Q r s e p f = subst (λ r. OnOk r Q) (sym e) (on_ok P Q r p f)

pub ok_as : {X E : Type 0} (Q : Type 0) (x : X) (r : Result X E) → r ≡ Ok x → Q → OnOk r Q
ok_as Q x r e q = subst (λ r. OnOk r Q) (sym e) q
