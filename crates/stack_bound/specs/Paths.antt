-- Paths by calls, what they cost, and cycles, where one function calls another: for programs of any stage.
use Rattle.std.specs.Prelude.{◌≡◌, ◌≤◌, ℕ, List, [], ◌∷◌, ◌++◌, map}
use Rattle.std.specs.List.{All}
use Rattle.pan_stage.specs.Sums.{sum_of}

-- the last of a first function and others
abbrev pub last_of : ℕ → List ℕ → ℕ
last_of f [] = f
last_of f (g ∷ gs) = last_of g gs

-- none is less than the first
abbrev pub BeginsLeast : List ℕ → Type 0
BeginsLeast [] = Unit {0}
BeginsLeast (f ∷ fs) = All (λ g. f ≤ g) fs

module _ (calls : ℕ → ℕ → Type 0) where
  -- of f and the others each calls the next
  abbrev pub IsPath : ℕ → List ℕ → Type 0
  IsPath f [] = Unit {0}
  IsPath f (g ∷ gs) = calls f g × IsPath g gs

  -- a path leads from f to g, of any length
  pub record Reaches (f g : ℕ) : Type 0 where
    pub through : List ℕ
    pub path : IsPath f through
    pub ends : last_of f through ≡ g

  -- main reaches the first, each calls the next, and the last the first
  abbrev pub IsReachedCycle : ℕ → List ℕ → Type 0
  IsReachedCycle main [] = ⊥
  IsReachedCycle main (f ∷ fs) = Reaches main f × IsPath f (fs ++ f ∷ [])

  -- a cycle as it is kept: it begins with its least function
  abbrev pub IsKeptCycle : ℕ → List ℕ → Type 0
  IsKeptCycle main fs = IsReachedCycle main fs × BeginsLeast fs

  -- the calls reachable from main have no cycle
  abbrev pub HasNoCycle : ℕ → Type 0
  HasNoCycle main = (fs : List ℕ) → IsReachedCycle main fs → ⊥

  -- some path from main costs at least so much
  pub record IsPaid (cost : ℕ → ℕ) (main n : ℕ) : Type 0 where
    pub through : List ℕ
    pub path : IsPath main through
    pub within : n ≤ sum_of (map cost (main ∷ through))
