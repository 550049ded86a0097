-- What passes say of the toll: the second's is within so many times the first's, and so much of it is kept back for what runs later.
use Rattle.std.proofs.Common.{ℕ, ◌+◌, ◌*◌, ◌<◌, ◌≤◌, arith}
use Rattle.std.proofs.Math.Nat.{mul-le-mul_left}
use Rattle.pan_base.specs.Events.{IsPrefix}
use Rattle.pan_base.proofs.PrefixLaws.{prefix_trans}
use Rattle.pan_control.specs.World.{World}
use Rattle.pan_control.specs.Control.{Outcome, Normal, Meaning, Callee, and_then}
use Rattle.pan_stage.proofs.Grows.{Extends}
use Rattle.pan_stage.proofs.Follows.{View, keeping, beside, Ends, Same, Nothing, Follows, less_same, more_same}

-- both have the same memory and globals, as from words on
abbrev pub same_globals : {G : Type 0} → View G G
same_globals = keeping (λ g. g)

-- So much is done by the second, and so much is kept back: together at most k times as much as the first has done in this world.
abbrev pub Within : {G : Type 0} → ℕ → ℕ → ℕ → World G → Type 0
Within k kept t w = t + kept ≤ k * w.toll

-- related so, with the toll within
abbrev pub Paid : {A B G : Type 0} → ℕ → ℕ → (A → World G → B → Type 0) → A → World G → B → ℕ → Type 0
Paid k kept R a w b t = R a w b × Within k kept t w

-- where the second's stack may be exhausted
pub record Cuts (G G' : Type 0) : Type 1 where
  pub cut : World G → World G' → Type 0
  pub stays : (w w' : World G) (after : World G') → Extends w w' → cut w after → cut w' after

-- nowhere
abbrev pub no_cuts : {G G' : Type 0} → Cuts G G'
no_cuts = record { cut = λ w after. ⊥; stays = λ w w' after e h. h }

-- The costs of the active calls have been more than the size of the stack, and what the second did is the front of what the first did.
pub record Exhausted {G G' : Type 0} (size k : ℕ) (w : World G) (after : World G') : Type 0 where
  pub deeper : size < w.deepest
  pub front : IsPrefix after.trace w.trace
  pub toll : after.toll ≤ k * w.toll

-- in a stack of this size
abbrev pub exhausting : {G G' : Type 0} → ℕ → ℕ → Cuts G G'
exhausting size k = record {
  cut = Exhausted size k;
  stays = λ w w' after e h. record {
    deeper = let a = e.deepest in let b = h.deeper in omega (arith, a, b);
    front = prefix_trans after.trace w.trace w'.trace h.front e.trace;
    toll = let a = mul-le-mul_left k e.toll in let b = h.toll in omega (arith, a, b);
  };
}

-- relations that say nothing of the toll, with so much of it kept back at each end
abbrev pub paid : {G G' V U X Y : Type 0} (view : View G G') (cuts : Cuts G G') (k kept : ℕ) (N B C : V → World G → U → Type 0) (Q : X → World G → Y → Type 0) (E : ℕ → X → World G → Y → Type 0) → Ends G G' V U X Y
paid view cuts k kept N B C Q E = record {
  view = view;
  normal = Paid k kept N;
  broken = Paid k kept B;
  continued = Paid k kept C;
  returned = Paid k kept Q;
  raised = λ i. Paid k kept (E i);
  stopped = λ w t. Within k 0 t w;
  cut = cuts.cut;
  stays = cuts.stays;
}

-- where a function is left, with so much kept back
abbrev pub left_paid : {G G' X Y : Type 0} (view : View G G') (cuts : Cuts G G') (k kept : ℕ) (Q : X → World G → Y → Type 0) (E : ℕ → X → World G → Y → Type 0) → Ends G G' (Unit {0}) (Unit {0}) X Y
left_paid view cuts k kept Q E = record {
  view = view;
  normal = Nothing;
  broken = Nothing;
  continued = Nothing;
  returned = Paid k kept Q;
  raised = λ i. Paid k kept (E i);
  stopped = λ w t. Within k 0 t w;
  cut = cuts.cut;
  stays = cuts.stays;
}

-- the functions of the second do what those of the first do, from related arguments; what is related at their ends may speak of what the second got
abbrev pub CalleeFollows : {G G' A A' X Y : Type 0} (view : View G G') (cuts : Cuts G G') (k : ℕ) (P : A → World G → A' → Type 0) (Q : A' → X → World G → Y → Type 0) (E : A' → ℕ → X → World G → Y → Type 0) → Callee G A X → Callee G' A' Y → Type 0
CalleeFollows {G = G} view cuts k P Q E c c' = (kept f : ℕ) → (a : _) (w : World G) (a' : _) (t : ℕ) → Paid k kept P a w a' t → Same (left_paid view cuts k kept (Q a') (E a')) (c f a w) (c' f a' (beside view t w))

module _ {G G' : Type 0} (view : View G G') (cuts : Cuts G G') (k : ℕ) {V U X Y : Type 0} (N B C : V → World G → U → Type 0) (Q : X → World G → Y → Type 0) (E : ℕ → X → World G → Y → Type 0) where
  -- less is kept back
  pub keeps_less : (more kept : ℕ) (o : Outcome G V X) (o' : Outcome G' U Y) → Same (paid view cuts k (more + kept) N B C Q E) o o' → Same (paid view cuts k kept N B C Q E) o o'
  keeps_less more kept o o' s =
      less_same (paid view cuts k (more + kept) N B C Q E) (paid view cuts k kept N B C Q E) (record {
        normal = λ v w u t h. (h.0, let l = h.1 in omega (arith, l));
        broken = λ v w u t h. (h.0, let l = h.1 in omega (arith, l));
        continued = λ v w u t h. (h.0, let l = h.1 in omega (arith, l));
        returned = λ x w y t h. (h.0, let l = h.1 in omega (arith, l));
        raised = λ i x w y t h. (h.0, let l = h.1 in omega (arith, l));
        stopped = λ w t h. h;
        cut = λ w after h. h;
      }) o o' s

  -- where the variables are related by more
  pub relates_less : (M K F : V → World G → U → Type 0) (kept : ℕ) (o : Outcome G V X) (o' : Outcome G' U Y) → ((v : V) (w : World G) (u : U) → N v w u → M v w u) → ((v : V) (w : World G) (u : U) → B v w u → K v w u) → ((v : V) (w : World G) (u : U) → C v w u → F v w u)
      → Same (paid view cuts k kept N B C Q E) o o' → Same (paid view cuts k kept M K F Q E) o o'
  relates_less M K F kept o o' n b c s =
      less_same (paid view cuts k kept N B C Q E) (paid view cuts k kept M K F Q E) (record {
        normal = λ v w u t h. (n v w u h.0, h.1);
        broken = λ v w u t h. (b v w u h.0, h.1);
        continued = λ v w u t h. (c v w u h.0, h.1);
        returned = λ x w y t h. h;
        raised = λ i x w y t h. h;
        stopped = λ w t h. h;
        cut = λ w after h. h;
      }) o o' s

  -- more of the second alone, for which toll was kept back
  pub more_paid : (P : V → World G → U → Type 0) (more kept : ℕ) (o : Outcome G V X) (o' : Outcome G' U Y) (m' : Meaning G' U Y) → Same (paid view cuts k (more + kept) P B C Q E) o o'
      → Follows (paid view cuts k kept N B C Q E) (Paid k (more + kept) P) (λ v w. Normal v w) m' → Same (paid view cuts k kept N B C Q E) o (and_then o' m')
  more_paid P more kept o o' m' s f =
      more_same (paid view cuts k kept N B C Q E) (Paid k (more + kept) P) o o' m'
      (less_same (paid view cuts k (more + kept) P B C Q E) (record (paid view cuts k kept N B C Q E) { normal = Paid k (more + kept) P }) (record {
        normal = λ v w u t h. h;
        broken = λ v w u t h. (h.0, let l = h.1 in omega (arith, l));
        continued = λ v w u t h. (h.0, let l = h.1 in omega (arith, l));
        returned = λ x w y t h. (h.0, let l = h.1 in omega (arith, l));
        raised = λ i x w y t h. (h.0, let l = h.1 in omega (arith, l));
        stopped = λ w t h. h;
        cut = λ w after h. h;
      }) o o' s) f

-- less is said of the results
pub results_less : {G G' X Y : Type 0} (view : View G G') (cuts : Cuts G G') (k kept : ℕ) (Q R : X → World G → Y → Type 0) (E F : ℕ → X → World G → Y → Type 0) (o : Outcome G (Unit {0}) X) (o' : Outcome G' (Unit {0}) Y)
    → ((x : X) (w : World G) (y : Y) → Q x w y → R x w y) → ((i : ℕ) (x : X) (w : World G) (y : Y) → E i x w y → F i x w y) → Same (left_paid view cuts k kept Q E) o o' → Same (left_paid view cuts k kept R F) o o'
results_less view cuts k kept Q R E F o o' q e s =
    less_same (left_paid view cuts k kept Q E) (left_paid view cuts k kept R F) (record {
      normal = λ v w u t h. h;
      broken = λ v w u t h. h;
      continued = λ v w u t h. h;
      returned = λ x w y t h. (q x w y h.0, h.1);
      raised = λ i x w y t h. (e i x w y h.0, h.1);
      stopped = λ w t h. h;
      cut = λ w after h. h;
    }) o o' s
