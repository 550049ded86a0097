-- Names in nested blocks, with what each stands for: a shape, a value, or a place.
use Rattle.std.specs.Prelude.{ℕ, if◌then◌else◌, Bool, false, List, [], ◌∷◌, ◌++◌, find, Option, Some, None, option_map}
use Rattle.std.specs.Option.{is_some}
use Rattle.std.specs.Str.{bytes_eq}

-- the names of a block, in the order of their declarations
abbrev pub ScopeOf : Type 0 → Type 0
ScopeOf A = List (List ℕ × A)

-- those of the blocks that are open, the innermost first
abbrev pub ScopesOf : Type 0 → Type 0
ScopesOf A = List (ScopeOf A)

abbrev pub in_scope : {A : Type 0} → List ℕ → ScopeOf A → Option A
in_scope x scope = option_map (λ v. v.1) (find (λ v. bytes_eq v.0 x) scope)

abbrev pub or_else : {A : Type 0} → Option A → Option A → Option A
or_else None other = other
or_else (Some a) other = Some a

-- what the innermost of this name stands for
abbrev pub innermost : {A : Type 0} → List ℕ → ScopesOf A → Option A
innermost x [] = None
innermost x (scope ∷ scopes) = or_else (in_scope x scope) (innermost x scopes)

-- the innermost block has the name
abbrev pub is_declared : {A : Type 0} → List ℕ → ScopesOf A → Bool
is_declared x [] = false
is_declared x (scope ∷ scopes) = is_some (in_scope x scope)

-- the innermost block has the name besides
abbrev pub declare : {A : Type 0} → List ℕ → A → ScopesOf A → ScopesOf A
declare x a [] = []
declare x a (scope ∷ scopes) = (scope ++ (x, a) ∷ []) ∷ scopes

-- the first of this name in a block stands for something else
abbrev pub assign_in : {A : Type 0} → List ℕ → A → ScopeOf A → ScopeOf A
assign_in x a [] = []
assign_in x a (v ∷ vs) = if bytes_eq v.0 x then (v.0, a) ∷ vs else v ∷ assign_in x a vs

-- the innermost of this name stands for something else
abbrev pub assign : {A : Type 0} → List ℕ → A → ScopesOf A → ScopesOf A
assign x a [] = []
assign x a (scope ∷ scopes) = if is_some (in_scope x scope) then assign_in x a scope ∷ scopes else scope ∷ assign x a scopes
