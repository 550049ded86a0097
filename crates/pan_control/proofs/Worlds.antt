-- From related worlds the same meaning comes to related worlds. What a relation needs for it is said once.
use Rattle.std.proofs.Common.{◌≡◌, ℕ, zero, suc, List, [], ◌∷◌, ◌++◌, Option, Some, None, Bool, true, false, refl, sym, ap, subst}
use Rattle.pan_base.specs.Events.{Asked, Replied, Event, fits}
use Rattle.pan_control.specs.World.{World, entered, leaving, back_in}
use Rattle.pan_control.specs.Control.{Outcome, Normal, Broken, Continued, Returned, Raised, Over, Meaning, and_then, in_turn, with_value, if_not_zero, spend_of, spend, ask_fit, ask_of, ask, after_body, turn, turns, after_call, tail_call, call, where_true, on_variables, Callee, left}

-- Related worlds hold the same memory, replies and fuel, and stay related by all that happens to a world. The relation does not see the sums of costs.
pub record Kept {G : Type 0} (R : World G → World G → Type 0) : Type 0 where
  pub memory : (w w' : World G) → R w w' → w'.memory ≡ w.memory
  pub replies : (w w' : World G) → R w w' → w'.replies ≡ w.replies
  pub fuel : (w w' : World G) → R w w' → w'.fuel ≡ w.fuel
  pub spent : (w w' : World G) → R w w' → (n : ℕ) → R (record w { fuel = n }) (record w' { fuel = n })
  pub asked : (w w' : World G) → R w w' → (rs : List Replied) (e : Event) → R (record w { replies = rs; trace = w.trace ++ e ∷ [] }) (record w' { replies = rs; trace = w'.trace ++ e ∷ [] })
  pub written : (w w' : World G) → R w w' → (m : List ℕ) → R (record w { memory = m }) (record w' { memory = m })
  pub entered : (w w' : World G) → R w w' → (cost : ℕ) → R (entered cost w) (entered cost w')
  pub leaving : (w w' : World G) → R w w' → R (leaving w) (leaving w')
  pub back : (c c' w w' : World G) → R w w' → R (back_in c w) (back_in c' w')

module _ {G : Type 0} (R : World G → World G → Type 0) (kept : Kept R) where
  module _ {V X : Type 0} where
    -- the second ends as the first does, in a related world
    abbrev pub In : Outcome G V X → Outcome G V X → Type 0
    In (Normal v w) o = (w' : World G) × R w w' × (o ≡ Normal v w')
    In (Broken v w) o = (w' : World G) × R w w' × (o ≡ Broken v w')
    In (Continued v w) o = (w' : World G) × R w w' × (o ≡ Continued v w')
    In (Returned x w) o = (w' : World G) × R w w' × (o ≡ Returned x w')
    In (Raised i x w) o = (w' : World G) × R w w' × (o ≡ Raised i x w')
    In (Over e w) o = (w' : World G) × R w w' × (o ≡ Over e w')

    -- the meaning comes to related worlds from related worlds
    pub record Even (m : Meaning G V X) : Type 0 where
      pub at : (v : V) (w w' : World G) → R w w' → In (m v w) (m v w')

    pub then_in : (o o' : Outcome G V X) (m : Meaning G V X) → In o o' → Even m → In (and_then o m) (and_then o' m)
    then_in (Normal v w) o' m s e = subst (λ (x : Outcome G V X). In (m v w) (and_then x m)) (sym s.2) (e.at v w s.0 s.1)
    then_in (Broken v w) o' m s e = (s.0, s.1, ap (λ (x : Outcome G V X). and_then x m) s.2)
    then_in (Continued v w) o' m s e = (s.0, s.1, ap (λ (x : Outcome G V X). and_then x m) s.2)
    then_in (Returned y w) o' m s e = (s.0, s.1, ap (λ (x : Outcome G V X). and_then x m) s.2)
    then_in (Raised i y w) o' m s e = (s.0, s.1, ap (λ (x : Outcome G V X). and_then x m) s.2)
    then_in (Over d w) o' m s e = (s.0, s.1, ap (λ (x : Outcome G V X). and_then x m) s.2)

    pub body_in : (o o' : Outcome G V X) (m : Meaning G V X) → In o o' → Even m → In (after_body o m) (after_body o' m)
    body_in (Normal v w) o' m s e = subst (λ (x : Outcome G V X). In (m v w) (after_body x m)) (sym s.2) (e.at v w s.0 s.1)
    body_in (Broken v w) o' m s e = (s.0, s.1, ap (λ (x : Outcome G V X). after_body x m) s.2)
    body_in (Continued v w) o' m s e = subst (λ (x : Outcome G V X). In (m v w) (after_body x m)) (sym s.2) (e.at v w s.0 s.1)
    body_in (Returned y w) o' m s e = (s.0, s.1, ap (λ (x : Outcome G V X). after_body x m) s.2)
    body_in (Raised i y w) o' m s e = (s.0, s.1, ap (λ (x : Outcome G V X). after_body x m) s.2)
    body_in (Over d w) o' m s e = (s.0, s.1, ap (λ (x : Outcome G V X). after_body x m) s.2)

    pub choice_in : (n : ℕ) (a b a' b' : Outcome G V X) → In a a' → In b b' → In (if_not_zero n a b) (if_not_zero n a' b')
    choice_in zero a b a' b' s t = t
    choice_in (suc n) a b a' b' s t = s

    spend_of_in : (n : ℕ) (w w' : World G) (go go' : World G → Outcome G V X) → R w w' → ((w w' : World G) → R w w' → In (go w) (go' w')) → In (spend_of n w go) (spend_of n w' go')
    spend_of_in zero w w' go go' r h = (w', r, refl)
    spend_of_in (suc n) w w' go go' r h = h _ _ (kept.spent w w' r n)

    pub spend_in : (w w' : World G) (go go' : World G → Outcome G V X) → R w w' → ((w w' : World G) → R w w' → In (go w) (go' w')) → In (spend w go) (spend w' go')
    spend_in w w' go go' r h = subst (λ n. In (spend_of w.fuel w go) (spend_of n w' go')) (sym (kept.fuel w w' r)) (spend_of_in w.fuel w w' go go' r h)

    fit_in : (b : Bool) (q : Asked) (r : Replied) (w w' : World G) (rs : List Replied) (go : Replied → World G → Outcome G V X) → R w w' → ((r : Replied) (w w' : World G) → R w w' → In (go r w) (go r w')) → In (ask_fit b q r w rs go) (ask_fit b q r w' rs go)
    fit_in false q r w w' rs go h f = (w', h, refl)
    fit_in true q r w w' rs go h f = f r _ _ (kept.asked w w' h rs (record { request = q; reply = r }))

    ask_of_in : (rs : List Replied) (q : Asked) (w w' : World G) (go : Replied → World G → Outcome G V X) → R w w' → ((r : Replied) (w w' : World G) → R w w' → In (go r w) (go r w')) → In (ask_of rs q w go) (ask_of rs q w' go)
    ask_of_in [] q w w' go h f = (w', h, refl)
    ask_of_in (r ∷ rs) q w w' go h f = fit_in (fits q r) q r w w' rs go h f

    pub ask_in : (q : Asked) (w w' : World G) (go : Replied → World G → Outcome G V X) → R w w' → ((r : Replied) (w w' : World G) → R w w' → In (go r w) (go r w')) → In (ask q w go) (ask q w' go)
    ask_in q w w' go h f = subst (λ rs. In (ask_of w.replies q w go) (ask_of rs q w' go)) (sym (kept.replies w w' h)) (ask_of_in w.replies q w w' go h f)

    pub value_in : {A : Type 0} (a : Option A) (w w' : World G) (go go' : A → Outcome G V X) → R w w' → ((a : A) → In (go a) (go' a)) → In (with_value a w go) (with_value a w' go')
    value_in None w w' go go' r h = (w', r, refl)
    value_in (Some a) w w' go go' r h = h a

    pub where_in : (b : Bool) (w w' : World G) (o o' : Outcome G V X) → R w w' → In o o' → In (where_true b w o) (where_true b w' o')
    where_in false w w' o o' r h = (w', r, refl)
    where_in true w w' o o' r h = h

    -- what is computed from memory is computed alike
    pub memory_in : (f : List ℕ → World G → Outcome G V X) (w w' : World G) → R w w' → ((m : List ℕ) → In (f m w) (f m w')) → In (f w.memory w) (f w'.memory w')
    memory_in f w w' r h = subst (λ m. In (f w.memory w) (f m w')) (sym (kept.memory w w' r)) (h w.memory)

    -- a test of the variables and of memory
    turn_even : (test : V → List ℕ → Option ℕ) (body again : Meaning G V X) → Even body → Even again → Even (turn (λ v w. Normal v w) (λ v w. test v w.memory) body again)
    turn_even test body again b a =
        record {
          at = λ v w w' r.
              memory_in (λ m w. with_value (test v m) w (λ n. if_not_zero n (spend w (λ w. after_body (body v w) again)) (Normal v w))) w w' r (λ m.
              value_in (test v m) w w' _ _ r (λ n. choice_in n _ _ _ _ (spend_in w w' _ _ r (λ w w' r. body_in _ _ again (b.at v w w' r) a)) (w', r, refl)));
        }

    pub turns_even : (d : ℕ) (test : V → List ℕ → Option ℕ) (body : Meaning G V X) → Even body → Even (turns d (λ v w. Normal v w) (λ v w. test v w.memory) body)
    turns_even zero test body b = turn_even test body _ b (record { at = λ v w w' r. (w', r, refl) })
    turns_even (suc d) test body b = turn_even test body _ b (turns_even d test body b)

    -- each is even
    abbrev pub AllEven : List (Meaning G V X) → Type 0
    AllEven [] = Unit {0}
    AllEven (m ∷ ms) = Even m × AllEven ms

    pub in_turn_even : (ms : List (Meaning G V X)) → AllEven ms → Even (in_turn ms)
    in_turn_even [] h = record { at = λ v w w' r. (w', r, refl) }
    in_turn_even (m ∷ ms) h = record { at = λ v w w' r. then_in (m v w) (m v w') (in_turn ms) ((h.0).at v w w' r) (in_turn_even ms h.1) }

  pub after_call_in : {V X : Type 0} (c c' : World G) (o o' : Outcome G (Unit {0}) X) (gave : X → World G → Outcome G V X) (threw : ℕ → X → World G → Outcome G V X) → In o o' → ((x : X) (w w' : World G) → R w w' → In (gave x w) (gave x w')) → ((i : ℕ) (x : X) (w w' : World G) → R w w' → In (threw i x w) (threw i x w')) → In (after_call c o gave threw) (after_call c' o' gave threw)
  after_call_in c c' (Normal v w) o' gave threw s g t = (s.0, s.1, ap (λ o. after_call c' o gave threw) s.2)
  after_call_in c c' (Broken v w) o' gave threw s g t = (s.0, s.1, ap (λ o. after_call c' o gave threw) s.2)
  after_call_in c c' (Continued v w) o' gave threw s g t = (s.0, s.1, ap (λ o. after_call c' o gave threw) s.2)
  after_call_in {V} {X} c c' (Returned x w) o' gave threw s g t = subst (λ (o : Outcome G (Unit {0}) X). In (gave x (back_in c w)) (after_call c' o gave threw)) (sym s.2) (g x _ _ (kept.back c c' w s.0 s.1))
  after_call_in {V} {X} c c' (Raised i x w) o' gave threw s g t = subst (λ (o : Outcome G (Unit {0}) X). In (threw i x (back_in c w)) (after_call c' o gave threw)) (sym s.2) (t i x _ _ (kept.back c c' w s.0 s.1))
  after_call_in c c' (Over e w) o' gave threw s g t = (s.0, s.1, ap (λ o. after_call c' o gave threw) s.2)

  pub left_in : {V X : Type 0} (U : Type 0) (o o' : Outcome G V X) → In o o' → In (left {U = U} o) (left {U = U} o')
  left_in U (Normal v w) o' s = (s.0, s.1, ap left s.2)
  left_in U (Broken v w) o' s = (s.0, s.1, ap left s.2)
  left_in U (Continued v w) o' s = (s.0, s.1, ap left s.2)
  left_in U (Returned x w) o' s = (s.0, s.1, ap left s.2)
  left_in U (Raised i x w) o' s = (s.0, s.1, ap left s.2)
  left_in U (Over e w) o' s = (s.0, s.1, ap left s.2)

  pub on_in : {V U X : Type 0} (f : V → U) (o o' : Outcome G V X) → In o o' → In (on_variables f o) (on_variables f o')
  on_in f (Normal v w) o' s = (s.0, s.1, ap (on_variables f) s.2)
  on_in f (Broken v w) o' s = (s.0, s.1, ap (on_variables f) s.2)
  on_in f (Continued v w) o' s = (s.0, s.1, ap (on_variables f) s.2)
  on_in f (Returned x w) o' s = (s.0, s.1, ap (on_variables f) s.2)
  on_in f (Raised i x w) o' s = (s.0, s.1, ap (on_variables f) s.2)
  on_in f (Over e w) o' s = (s.0, s.1, ap (on_variables f) s.2)

  -- functions come to related worlds from related worlds
  abbrev pub EvenCallee : {A X : Type 0} → Callee G A X → Type 0
  EvenCallee {A} {X} c = (f : ℕ) (xs : A) (w w' : World G) → R w w' → In (c f xs w) (c f xs w')

  module _ {V X A : Type 0} (c : Callee G A X) (even : EvenCallee c) where
    pub call_in : (f : ℕ) (arguments : Option A) (w w' : World G) (gave : X → World G → Outcome G V X) (threw : ℕ → X → World G → Outcome G V X) → R w w' → ((x : X) (w w' : World G) → R w w' → In (gave x w) (gave x w')) → ((i : ℕ) (x : X) (w w' : World G) → R w w' → In (threw i x w) (threw i x w')) → In (call c f arguments w gave threw) (call c f arguments w' gave threw)
    call_in f arguments w w' gave threw r g t = value_in arguments w w' _ _ r (λ xs. spend_in w w' _ _ r (λ u u' s. after_call_in w w' _ _ gave threw (even f xs u u' s) g t))

  pub tail_in : (U : Type 0) {A X : Type 0} (c : Callee G A X) → EvenCallee c → (f : ℕ) (arguments : Option A) (w w' : World G) → R w w' → In (tail_call {V = U} c f arguments w) (tail_call {V = U} c f arguments w')
  tail_in U c even f arguments w w' r = value_in arguments w w' _ _ r (λ xs. spend_in w w' _ _ r (λ u u' s. left_in U _ _ (even f xs (leaving u) (leaving u') (kept.leaving u u' s))))
