-- The bytes of stack that frames take on paths of calls, some of which are tail calls.
use Rattle.std.specs.Prelude.{◌≡◌, ◌≤◌, ℕ, ◌+◌, List, [], ◌∷◌, if◌then◌else◌}
use Rattle.std.specs.List.{Contains}
use Rattle.stack_bound.specs.declared.calls.Call.{Call}

-- with a call's bytes below, and the caller's own frame above them unless the call is a tail call, which gives it up
abbrev pub with_caller : ℕ → Call → ℕ → ℕ
with_caller own c below = if c.tail then below else own + below

module _ (calls : ℕ → List Call) where
  -- a path from f: each call is one of the function that the call before it leads to
  abbrev pub IsCallPath : ℕ → List Call → Type 0
  IsCallPath f [] = Unit {0}
  IsCallPath f (c ∷ cs) = Contains (calls f) c × IsCallPath c.function cs

  module _ (frame : ℕ → ℕ) where
    -- the bytes of the frames that are active at the end of a path
    abbrev pub bytes : ℕ → List Call → ℕ
    bytes f [] = frame f
    bytes f (c ∷ cs) = with_caller (frame f) c (bytes c.function cs)

    -- no path from f takes more bytes, and one takes as many
    pub record IsDeepest (f n : ℕ) : Type 0 where
      pub most : (cs : List Call) → IsCallPath f cs → bytes f cs ≤ n
      pub some : (cs : List Call) × IsCallPath f cs × (bytes f cs ≡ n)
