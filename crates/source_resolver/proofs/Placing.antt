-- Variables with their places: the values of a source's variables, from the outermost block on, are the variables of the resolved program.
use Rattle.std.proofs.Common.{◌≡◌, ℕ, suc, ◌+◌, Bool, true, false, cond, if◌then◌else◌, List, [], ◌∷◌, ◌++◌, map, length, take, drop, set, Option, Some, None, slice_get, append_assoc, length-append, arith, refl, sym, ap, subst, ◌∙◌}
use Rattle.std.specs.Prelude.{find}
use Rattle.std.specs.Option.{is_some, option_map}
use Rattle.std.specs.Str.{bytes_eq}
use Rattle.std.proofs.Math.Seq.{set-append_seam}
use Rattle.std.proofs.lemmas.List.{length-map, map-append}
use Rattle.pan_tree.specs.Scopes.{ScopeOf, in_scope, or_else, innermost, declare, assign_in, assign}
use Rattle.pan_tree.specs.Value.{Value}
use Rattle.pan_tree.specs.Meaning.{Scope, Scopes}
use Rattle.source_resolver.specs.Resolving.{Places, count, with_variable}
use Rattle.source_resolver.specs.Slots.{Variables, variable, assigned}

-- a block's variables with their places, the first of which is this one
abbrev pub number : ℕ → Scope → ScopeOf ℕ
number n [] = []
number n (x ∷ xs) = (x.0, n) ∷ number (suc n) xs

-- the variables of a source with their places
abbrev pub placed : Scopes → Places
placed [] = []
placed (scope ∷ scopes) = number (count scopes) scope ∷ placed scopes

-- their values, from the outermost block on
abbrev pub contents : Scope → Variables
contents scope = map (λ x. x.1) scope

abbrev pub flat : Scopes → Variables
flat [] = []
flat (scope ∷ scopes) = flat scopes ++ contents scope

-- ---- counting

number_length : (n : ℕ) (scope : Scope) → length (number n scope) ≡ length scope
number_length n [] = refl
number_length n (x ∷ xs) = ap suc (number_length (suc n) xs)

pub placed_count : (v : Scopes) → count (placed v) ≡ count v
placed_count [] = refl
placed_count (scope ∷ scopes) = ap (λ n. n + length (number (count scopes) scope)) (placed_count scopes) ∙ ap (λ n. count scopes + n) (number_length (count scopes) scope)

pub flat_length : (v : Scopes) → length (flat v) ≡ count v
flat_length [] = refl
flat_length (scope ∷ scopes) = length-append (flat scopes) (contents scope) ∙ ap (λ n. n + length (contents scope)) (flat_length scopes) ∙ ap (λ n. count scopes + n) (length-map scope (λ x. x.1))

-- ---- finding

-- A name that was found at this place, if anywhere, stands for the value that the variables have there, and writing there gives what assigning it does.
abbrev Found : Option Value → Variables → (Value → Variables) → Option ℕ → Type 0
Found here u after None = here ≡ None
Found here u after (Some i) = (b : Value) × (here ≡ Some b) × (slice_get u i ≡ Some b) × ((a : Value) → set u i a ≡ after a)

moved : (here : Option Value) (u u' : Variables) (after after' : Value → Variables) (o : Option ℕ) → u ≡ u' → ((a : Value) → after a ≡ after' a) → Found here u after o → Found here u' after' o
moved here u u' after after' None e f h = h
moved here u u' after after' (Some i) e f h = (h.0, h.1, ap (λ u. slice_get u i) (sym e) ∙ h.2, λ a. ap (λ u. set u i a) (sym e) ∙ h.3 a ∙ f a)

get_seam : {X : Type 0} (xs : List X) (y : X) (ys : List X) → slice_get (xs ++ y ∷ ys) (length xs) ≡ Some y
get_seam [] y ys = refl
get_seam (x ∷ xs) y ys = get_seam xs y ys

one_longer : {X : Type 0} (xs : List X) (y : X) → length (xs ++ y ∷ []) ≡ suc (length xs)
one_longer xs y = length-append xs (y ∷ []) ∙ omega arith

-- in a block, whose variables stand between others
found_in : (x : List ℕ) (scope : Scope) (before behind : Variables)
    → Found (in_scope x scope) (before ++ (contents scope ++ behind)) (λ a. before ++ (contents (assign_in x a scope) ++ behind)) (in_scope x (number (length before) scope))
found_in x [] before behind = refl
found_in x (y ∷ ys) before behind = by (bytes_eq y.0 x) (found_in x ys (before ++ y.1 ∷ []) behind)
  where
    by : (c : Bool)
        → Found (in_scope x ys) ((before ++ y.1 ∷ []) ++ (contents ys ++ behind)) (λ a. (before ++ y.1 ∷ []) ++ (contents (assign_in x a ys) ++ behind)) (in_scope x (number (length (before ++ y.1 ∷ [])) ys))
        → Found (option_map (λ z. z.1) (cond c (Some y) (find (λ z. bytes_eq z.0 x) ys))) (before ++ (y.1 ∷ (contents ys ++ behind)))
        (λ a. before ++ (contents (if c then (y.0, a) ∷ ys else y ∷ assign_in x a ys) ++ behind)) (option_map (λ z. z.1) (cond c (Some (y.0, length before)) (find (λ z. bytes_eq z.0 x) (number (suc (length before)) ys))))
    by true h = (y.1, refl, get_seam before y.1 (contents ys ++ behind), λ a. set-append_seam before y.1 (contents ys ++ behind) a)
    by false h =
        let o = in_scope x (number (length (before ++ y.1 ∷ [])) ys) in
        let e : o ≡ in_scope x (number (suc (length before)) ys) = ap (λ n. in_scope x (number n ys)) (one_longer before y.1) in
        let whole = λ (us : Variables). append_assoc before (y.1 ∷ []) (us ++ behind) in
        subst (Found (in_scope x ys) (before ++ (y.1 ∷ (contents ys ++ behind))) (λ a. before ++ (y.1 ∷ (contents (assign_in x a ys) ++ behind)))) e
        (moved _ _ _ _ _ o (whole (contents ys)) (λ a. whole (contents (assign_in x a ys))) h)

-- among all blocks, before other variables
found : (x : List ℕ) (v : Scopes) (behind : Variables) → Found (innermost x v) (flat v ++ behind) (λ a. flat (assign x a v) ++ behind) (innermost x (placed v))
found x [] behind = refl
found x (scope ∷ scopes) behind =
    let here : Found (in_scope x scope) (flat scopes ++ (contents scope ++ behind)) (λ a. flat scopes ++ (contents (assign_in x a scope) ++ behind)) (in_scope x (number (count scopes) scope)) =
    subst (λ n. Found (in_scope x scope) (flat scopes ++ (contents scope ++ behind)) (λ a. flat scopes ++ (contents (assign_in x a scope) ++ behind)) (in_scope x (number n scope))) (flat_length scopes)
    (found_in x scope (flat scopes) behind) in
    by (in_scope x (number (count scopes) scope)) (in_scope x scope) here (found x scopes (contents scope ++ behind))
  where
    by : (o : Option ℕ) (b : Option Value) → Found b (flat scopes ++ (contents scope ++ behind)) (λ a. flat scopes ++ (contents (assign_in x a scope) ++ behind)) o
        → Found (innermost x scopes) (flat scopes ++ (contents scope ++ behind)) (λ a. flat (assign x a scopes) ++ (contents scope ++ behind)) (innermost x (placed scopes))
        → Found (or_else b (innermost x scopes)) ((flat scopes ++ contents scope) ++ behind) (λ a. flat (if is_some b then assign_in x a scope ∷ scopes else scope ∷ assign x a scopes) ++ behind) (or_else o (innermost x (placed scopes)))
    by None None here others =
        moved _ _ _ _ _ (innermost x (placed scopes)) (sym (append_assoc (flat scopes) (contents scope) behind)) (λ a. sym (append_assoc (flat (assign x a scopes)) (contents scope) behind)) others
    by None (Some b) here others = absurd cc
    by (Some i) None here others = let no : None ≡ Some here.0 = here.1 in absurd cc
    by (Some i) (Some b) here others =
        moved (Some b) _ _ (λ a. flat scopes ++ (contents (assign_in x a scope) ++ behind)) _ (Some i) (sym (append_assoc (flat scopes) (contents scope) behind))
        (λ a. sym (append_assoc (flat scopes) (contents (assign_in x a scope)) behind)) here

append_none : {X : Type 0} (xs : List X) → xs ++ [] ≡ xs
append_none [] = refl
append_none (x ∷ xs) = ap (λ ys. x ∷ ys) (append_none xs)

found_here : (x : List ℕ) (v : Scopes) → Found (innermost x v) (flat v) (λ a. flat (assign x a v)) (innermost x (placed v))
found_here x v = moved _ _ _ (λ a. flat (assign x a v) ++ []) _ (innermost x (placed v)) (append_none (flat v)) (λ a. append_none (flat (assign x a v))) (found x v [])

pub variable_reads : (x : List ℕ) (v : Scopes) → variable (innermost x (placed v)) (flat v) ≡ innermost x v
variable_reads x v = by (innermost x (placed v)) (found_here x v)
  where
    by : (o : Option ℕ) → Found (innermost x v) (flat v) (λ a. flat (assign x a v)) o → variable o (flat v) ≡ innermost x v
    by None h = sym h
    by (Some i) h = h.2 ∙ sym h.1

-- ---- assigning

number_assign : (n : ℕ) (x : List ℕ) (a : Value) (scope : Scope) → number n (assign_in x a scope) ≡ number n scope
number_assign n x a [] = refl
number_assign n x a (y ∷ ys) = by (bytes_eq y.0 x) (number_assign (suc n) x a ys)
  where
    by : (c : Bool) → number (suc n) (assign_in x a ys) ≡ number (suc n) ys → number n (if c then (y.0, a) ∷ ys else y ∷ assign_in x a ys) ≡ (y.0, n) ∷ number (suc n) ys
    by true h = refl
    by false h = ap (λ zs. (y.0, n) ∷ zs) h

pub assign_placed : (x : List ℕ) (a : Value) (v : Scopes) → placed (assign x a v) ≡ placed v
assign_placed x a [] = refl
assign_placed x a (scope ∷ scopes) = by (is_some (in_scope x scope)) (assign_placed x a scopes)
  where
    by : (c : Bool) → placed (assign x a scopes) ≡ placed scopes → placed (if c then assign_in x a scope ∷ scopes else scope ∷ assign x a scopes) ≡ number (count scopes) scope ∷ placed scopes
    by true h = ap (λ s. s ∷ placed scopes) (number_assign (count scopes) x a scope)
    by false h =
        let same : count (assign x a scopes) ≡ count scopes = sym (placed_count (assign x a scopes)) ∙ ap count h ∙ placed_count scopes in
        ap (λ n. number n scope ∷ placed (assign x a scopes)) same ∙ ap (λ s. number (count scopes) scope ∷ s) h

-- assigning to a name that no variable has changes nothing
unknown_stays : (x : List ℕ) (a : Value) (v : Scopes) → innermost x v ≡ None → assign x a v ≡ v
unknown_stays x a [] h = refl
unknown_stays x a (scope ∷ scopes) h = by (in_scope x scope) h (unknown_stays x a scopes)
  where
    by : (o : Option Value) → or_else o (innermost x scopes) ≡ None → (innermost x scopes ≡ None → assign x a scopes ≡ scopes)
        → (if is_some o then assign_in x a scope ∷ scopes else scope ∷ assign x a scopes) ≡ scope ∷ scopes
    by None h others = ap (λ vs. scope ∷ vs) (others h)
    by (Some b) h others = absurd cc

pub assigned_flat : (x : List ℕ) (a : Value) (v : Scopes) → assigned (innermost x (placed v)) a (flat v) ≡ flat (assign x a v)
assigned_flat x a v = by (innermost x (placed v)) (found_here x v)
  where
    by : (o : Option ℕ) → Found (innermost x v) (flat v) (λ a. flat (assign x a v)) o → assigned o a (flat v) ≡ flat (assign x a v)
    by None h = ap flat (sym (unknown_stays x a v h))
    by (Some i) h = h.3 a

-- ---- blocks

-- these variables, in an inner block and in the blocks that have these
abbrev pub Inside : Places → Scopes → Type 0
Inside outer [] = ⊥
Inside outer (scope ∷ scopes) = placed scopes ≡ outer

-- where the variables have the same places, they are in the same blocks
pub inside_as : (outer : Places) (v t : Scopes) → Inside outer v → placed t ≡ placed v → Inside outer t
inside_as outer [] t i h = absurd i
inside_as outer (scope ∷ scopes) [] i h = let no : [] ≡ number (count scopes) scope ∷ placed scopes = h in absurd cc
inside_as outer (scope ∷ scopes) (other ∷ others) i h = ap (drop 1) h ∙ i

pub inside_assign : (outer : Places) (x : List ℕ) (a : Value) (v : Scopes) → Inside outer v → Inside outer (assign x a v)
inside_assign outer x a v i = inside_as outer v (assign x a v) i (assign_placed x a v)

pub inside_declare : (outer : Places) (x : List ℕ) (a : Value) (v : Scopes) → Inside outer v → Inside outer (declare x a v)
inside_declare outer x a [] i = absurd i
inside_declare outer x a (scope ∷ scopes) i = i

number_more : (n : ℕ) (x : List ℕ) (a : Value) (scope : Scope) → number n (scope ++ (x, a) ∷ []) ≡ number n scope ++ (x, n + length scope) ∷ []
number_more n x a [] = ap (λ k. (x, k) ∷ []) (omega arith)
number_more n x a (y ∷ ys) = ap (λ zs. (y.0, n) ∷ zs) (number_more (suc n) x a ys) ∙ ap (λ k. (y.0, n) ∷ (number (suc n) ys ++ (x, k) ∷ [])) (omega arith)

pub declare_placed : (x : List ℕ) (a : Value) (v : Scopes) → placed (declare x a v) ≡ with_variable x (placed v)
declare_placed x a [] = refl
declare_placed x a (scope ∷ scopes) =
    ap (λ s. s ∷ placed scopes) (number_more (count scopes) x a scope)
    ∙ ap (λ k. (number (count scopes) scope ++ (x, k) ∷ []) ∷ placed scopes) (sym (placed_count (scope ∷ scopes)))

pub declared_flat : (outer : Places) (x : List ℕ) (a : Value) (v : Scopes) → Inside outer v → flat v ++ a ∷ [] ≡ flat (declare x a v)
declared_flat outer x a [] i = absurd i
declared_flat outer x a (scope ∷ scopes) i = append_assoc (flat scopes) (contents scope) (a ∷ []) ∙ ap (λ us. flat scopes ++ us) (sym (map-append (λ x. x.1) scope ((x, a) ∷ [])))

take_front : {X : Type 0} (n : ℕ) (xs ys : List X) → length xs ≡ n → take n (xs ++ ys) ≡ xs
take_front n [] ys h = subst (λ n. take n ys ≡ []) h refl
take_front n (x ∷ xs) ys h = subst (λ n. take n (x ∷ (xs ++ ys)) ≡ x ∷ xs) h (ap (λ zs. x ∷ zs) (take_front (length xs) xs ys refl))

-- of the variables in and around a block, those around it
pub left_flat : (v t : Scopes) → Inside (placed v) t → take (length (flat v)) (flat t) ≡ flat (drop 1 t)
left_flat v [] i = absurd i
left_flat v (scope ∷ scopes) i =
    take_front (length (flat v)) (flat scopes) (contents scope) (flat_length scopes ∙ sym (placed_count scopes) ∙ ap count i ∙ placed_count v ∙ sym (flat_length v))

pub left_placed : (outer : Places) (t : Scopes) → Inside outer t → placed (drop 1 t) ≡ outer
left_placed outer [] i = absurd i
left_placed outer (scope ∷ scopes) i = i
