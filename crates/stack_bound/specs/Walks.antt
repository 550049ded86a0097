-- What the walk over the calls knows.
use Rattle.std.specs.Prelude.{◌≡◌, ◌<◌, ◌≤◌, ℕ, ◌+◌, List, [], ◌∷◌, ◌++◌, length, map, drop, slice_index, slice_index_or}
use Rattle.std.specs.List.{All}
use Rattle.pan_stage.specs.Sums.{sum_of}
use Rattle.stack_bound.specs.Calls.{CallsBy}
use Rattle.stack_bound.specs.Paths.{IsPath, HasNoCycle, IsKeptCycle}
use Rattle.stack_bound.specs.Depth.{with_caller, IsCallPath, bytes, IsDeepest}
use Rattle.stack_bound.specs.Nodes.{calls_by, frame_by}
use Rattle.stack_bound.specs.declared.calls.Call.{Call}
use Rattle.stack_bound.specs.declared.calls.Node.{Node}
use Rattle.stack_bound.specs.declared.types.Bound.{Bound}
use Rattle.stack_bound.specs.declared.types.Bound.TheVariants.{Bytes, Cycle}
use Rattle.stack_bound.specs.declared.walk.Mark.{Mark}
use Rattle.stack_bound.specs.declared.walk.Mark.TheVariants.{Unseen, Open, Done}
use Rattle.stack_bound.specs.declared.walk.Visit.{Visit}
use Rattle.stack_bound.specs.declared.walk.Walk.{Walk}

-- the second is the first with some of its front at the end
pub record IsTurned (xs ys : List ℕ) : Type 0 where
  pub front : List ℕ
  pub rest : List ℕ
  pub before : xs ≡ front ++ rest
  pub after : ys ≡ rest ++ front

-- each is unseen
abbrev pub AreUnseen : List Mark → Type 0
AreUnseen marks = (f : ℕ) → slice_index_or marks f Unseen ≡ Unseen

-- the functions on the way from main, main first
abbrev pub way : Walk → List ℕ
way w = map (λ (v : Visit). v.function) w.callers ++ (w.current).function ∷ []

-- the first of them
abbrev pub main_of : Walk → ℕ
main_of w = slice_index (way w) 0

-- what of these numbers is that of unseen functions
abbrev pub of_unseen : List ℕ → List Mark → ℕ
of_unseen [] ms = 0
of_unseen (n ∷ ns) [] = 0
of_unseen (n ∷ ns) (Unseen ∷ ms) = n + of_unseen ns ms
of_unseen (n ∷ ns) (Open place ∷ ms) = of_unseen ns ms
of_unseen (n ∷ ns) (Done bytes ∷ ms) = of_unseen ns ms

module _ (nodes : List Node) where
  -- calls lead to functions, and the frames of all are within what a program may cost
  pub record AreSound : Type 0 where
    pub inside : All (λ (node : Node). All (λ (c : Call). c.function < length nodes) node.calls) nodes
    pub small : sum_of (map (λ (node : Node). node.frame) nodes) ≤ 4456448

  -- so much it takes with all that it calls, among which there is no cycle
  pub record IsFinished (f n : ℕ) : Type 0 where
    pub no_cycle : HasNoCycle (CallsBy (calls_by nodes)) f
    pub deepest : IsDeepest (calls_by nodes) (frame_by nodes) f n

  -- a call of f whose bytes are within what f takes
  pub record IsCounted (f n : ℕ) (c : Call) : Type 0 where
    pub below : ℕ
    pub finished : IsFinished c.function below
    pub within : with_caller (frame_by nodes f) c below ≤ n

  -- A function on the way. What was finished before takes at most so many bytes.
  pub record IsVisit (finished : ℕ) (v : Visit) : Type 0 where
    pub inside : v.function < length nodes
    pub ahead : v.ahead ≤ length (calls_by nodes v.function)
    pub counted : All (IsCounted v.function v.bytes) (drop v.ahead (calls_by nodes v.function))
    pub own : frame_by nodes v.function ≤ v.bytes
    pub some : (cs : List Call) × IsCallPath (calls_by nodes) v.function cs × (bytes (calls_by nodes) (frame_by nodes) v.function cs ≡ v.bytes)
    pub small : v.bytes ≤ frame_by nodes v.function + finished

  -- the last of the calls that are still to be counted
  pub record IsNext (v : Visit) (c : Call) : Type 0 where
    pub before : ℕ
    pub ahead : v.ahead ≡ before + 1
    pub call : slice_index_or (calls_by nodes v.function) before c ≡ c

  -- what a mark says of a function: that it stands on the way, or that it is finished
  abbrev pub IsMarked : List ℕ → ℕ → ℕ → Mark → Type 0
  IsMarked functions finished f Unseen = Unit {0}
  IsMarked functions finished f (Open place) = (place < length functions) × (slice_index functions place ≡ f)
  IsMarked functions finished f (Done n) = IsFinished f n × (n ≤ finished)

  -- each calls the next
  abbrev pub IsWay : List ℕ → Type 0
  IsWay [] = ⊥
  IsWay (f ∷ gs) = IsPath (CallsBy (calls_by nodes)) f gs

  abbrev pub own_frame : Visit → ℕ
  own_frame v = frame_by nodes v.function

  pub record IsWalk (w : Walk) : Type 0 where
    pub count : length w.marks ≡ length nodes
    pub path : IsWay (way w)
    -- the frames of all functions that are finished
    pub finished : ℕ
    pub marks : (f : ℕ) → IsMarked (way w) finished f (slice_index_or w.marks f Unseen)
    pub callers : All (IsVisit finished) w.callers
    pub current : IsVisit finished w.current
    -- each frame is counted once
    pub within : finished + of_unseen (map (λ (node : Node). node.frame) nodes) w.marks + sum_of (map own_frame w.callers) + own_frame w.current ≤ sum_of (map (λ (node : Node). node.frame) nodes)

  -- the steps that are left for a function on the way
  abbrev pub unlooked : Visit → ℕ
  unlooked v = 1 + v.ahead

  -- the steps that are left at most
  abbrev pub left : Walk → ℕ
  left w = of_unseen (map (λ (node : Node). 2 + length node.calls) nodes) w.marks + sum_of (map unlooked w.callers) + unlooked w.current

  -- the walk has gone on by a step
  pub record GoesOn (w w' : Walk) : Type 0 where
    pub walk : IsWalk w'
    pub main : main_of w' ≡ main_of w
    pub less : left w' < left w

  -- it takes so much, which is at most all frames together
  pub record IsWhole (main n : ℕ) : Type 0 where
    pub finished : IsFinished main n
    pub small : n ≤ sum_of (map (λ (node : Node). node.frame) nodes)

  -- what the walk from main finds
  abbrev pub IsFound : ℕ → Bound → Type 0
  IsFound main (Bytes n) = IsWhole main n
  IsFound main (Cycle fs) = IsKeptCycle (CallsBy (calls_by nodes)) main fs
