-- Two meanings do the same, and what they leave is so.
use Rattle.std.proofs.Common.{◌≡◌, ℕ, zero, suc, List, [], ◌∷◌, Option, Some, None, Bool, true, false, refl, sym, ap, subst, ◌∙◌}
use Rattle.pan_base.specs.Events.{Asked, Replied, Ending, Exit, Uncaught, Stopped, Asks, Spent, Stack, Fault, Fails, fits}
use Rattle.pan_control.specs.World.{leaving}
use Rattle.pan_control.specs.Control.{Normal, Broken, Continued, Returned, Raised, Over, and_then, with_value, where_true, if_not_zero, spend_of, spend, ask_fit, ask_of, ask, left, on_variables, after_body, turn, turns, after_call, call, tail_call}
use Rattle.pan_tree.specs.Running.{World, Outcome, Meaning, Callee}
use Rattle.pan_tree.specs.Value.{Value}
use Rattle.check_soundness.specs.Guarded.{unless_failed, failing_so}

-- what is so of the variables where a statement goes on, and where it leaves the loop or its turn, of a value that is returned, and of an exception with its value
abbrev pub Leaves : {V X : Type 0} → (V → Type 0) → (V → Type 0) → (X → Type 0) → (ℕ → X → Type 0) → Outcome V X → Type 0
Leaves N B Q E (Normal v w) = N v
Leaves N B Q E (Broken v w) = B v
Leaves N B Q E (Continued v w) = B v
Leaves N B Q E (Returned x w) = Q x
Leaves N B Q E (Raised i x w) = E i x
Leaves N B Q E (Over e w) = Unit {0}

-- the outcome, with this end where it fails
abbrev pub instead : {V X : Type 0} → Ending → Outcome V X → Outcome V X
instead halt (Over e w) = Over (failing_so halt e) w
instead halt o = o

pub record Keeps (halt : Ending) {V : Type 0} (N B : V → Type 0) (Q : Value → Type 0) (E : ℕ → Value → Type 0) (o o' : Outcome V Value) : Type 0 where
  pub same : o ≡ instead halt o'
  pub so : Leaves N B Q E o'

module _ (ill halt : Ending) {V : Type 0} (Q : Value → Type 0) (E : ℕ → Value → Type 0) where
  pub keeps_as : (N B : V → Type 0) (o r o' r' : Outcome V Value) → o ≡ r → o' ≡ r' → Keeps halt N B Q E r r' → Keeps halt N B Q E o o'
  keeps_as N B o r o' r' e f k = record { same = e ∙ k.same ∙ ap (instead halt) (sym f); so = subst (Leaves N B Q E) (sym f) k.so }

  -- what is known is less
  pub keeps_less : (N B M C : V → Type 0) (o o' : Outcome V Value) → ((v : V) → N v → M v) → ((v : V) → B v → C v) → Keeps halt N B Q E o o' → Keeps halt M C Q E o o'
  keeps_less N B M C o o' n b k = record { same = k.same; so = by o' k.so }
    where
      by : (o : Outcome V Value) → Leaves N B Q E o → Leaves M C Q E o
      by (Normal v w) h = n v h
      by (Broken v w) h = b v h
      by (Continued v w) h = b v h
      by (Returned x w) h = h
      by (Raised i x w) h = h
      by (Over e w) h = tt

  module _ (N B : V → Type 0) where
    pub then_keeps : (M : V → Type 0) (o o' : Outcome V Value) (m m' : Meaning V Value) → Keeps halt N B Q E o o' → ((v : V) (w : World) → N v → Keeps halt M B Q E (m v w) (m' v w)) → Keeps halt M B Q E (and_then o m) (and_then o' m')
    then_keeps M o o' m m' k h = subst (λ (r : Outcome V Value). Keeps halt M B Q E (and_then r m) (and_then o' m')) (sym k.same) (by o' k.so)
      where
        by : (o : Outcome V Value) → Leaves N B Q E o → Keeps halt M B Q E (and_then (instead halt o) m) (and_then o m')
        by (Normal v w) n = h v w n
        by (Broken v w) b = record { same = refl; so = b }
        by (Continued v w) b = record { same = refl; so = b }
        by (Returned x w) q = record { same = refl; so = q }
        by (Raised i x w) e = record { same = refl; so = e }
        by (Over e w) u = record { same = refl; so = tt }

    -- ---- what is left

    pub with_leaves : {A : Type 0} (a : Option A) (w : World) (go : A → Outcome V Value) → ((x : A) → a ≡ Some x → Leaves N B Q E (go x)) → Leaves N B Q E (with_value a w go)
    with_leaves None w go h = tt
    with_leaves (Some x) w go h = h x refl

    pub where_leaves : (b : Bool) (w : World) (o : Outcome V Value) → Leaves N B Q E o → Leaves N B Q E (where_true b w o)
    where_leaves false w o h = tt
    where_leaves true w o h = h

    fit_leaves : (b : Bool) (q : Asked) (r : Replied) (w : World) (rs : List Replied) (go : Replied → World → Outcome V Value) → ((r : Replied) (w : World) → Leaves N B Q E (go r w)) → Leaves N B Q E (ask_fit b q r w rs go)
    fit_leaves false q r w rs go h = tt
    fit_leaves true q r w rs go h = h r _

    ask_of_leaves : (rs : List Replied) (q : Asked) (w : World) (go : Replied → World → Outcome V Value) → ((r : Replied) (w : World) → Leaves N B Q E (go r w)) → Leaves N B Q E (ask_of rs q w go)
    ask_of_leaves [] q w go h = tt
    ask_of_leaves (r ∷ rs) q w go h = fit_leaves (fits q r) q r w rs go h

    pub ask_leaves : (q : Asked) (w : World) (go : Replied → World → Outcome V Value) → ((r : Replied) (w : World) → Leaves N B Q E (go r w)) → Leaves N B Q E (ask q w go)
    ask_leaves q w go h = ask_of_leaves w.replies q w go h

    -- a statement that does by itself all that it does
    pub alone_keeps : (o : Outcome V Value) → Leaves N B Q E o → Keeps halt N B Q E (unless_failed ill halt o o) o
    alone_keeps o h = record { same = by o; so = h }
      where
        by : (o : Outcome V Value) → unless_failed ill halt o o ≡ instead halt o
        by (Normal v w) = refl
        by (Broken v w) = refl
        by (Continued v w) = refl
        by (Returned x w) = refl
        by (Raised i x w) = refl
        by (Over (Exit n) w) = refl
        by (Over (Uncaught i) w) = refl
        by (Over (Stopped q) w) = refl
        by (Over (Asks q) w) = refl
        by (Over Spent w) = refl
        by (Over Stack w) = refl
        by (Over Fault w) = refl
        by (Over Fails w) = refl

    -- one that by itself takes this value first
    pub first_keeps : {A : Type 0} (a : Option A) (w : World) (by_itself go go' : A → Outcome V Value) → ((x : A) → a ≡ Some x → Keeps halt N B Q E (unless_failed ill halt (by_itself x) (go x)) (go' x))
        → Keeps halt N B Q E (unless_failed ill halt (with_value a w by_itself) (with_value a w go)) (with_value a w go')
    first_keeps None w by_itself go go' h = record { same = refl; so = tt }
    first_keeps (Some x) w by_itself go go' h = h x refl

    -- one that by itself doesn't fail any more
    pub sure_keeps : (by_itself o o' : Outcome V Value) → ((r : Outcome V Value) → unless_failed ill halt by_itself r ≡ r) → Keeps halt N B Q E o o' → Keeps halt N B Q E (unless_failed ill halt by_itself o) o'
    sure_keeps by_itself o o' e k = record { same = e o ∙ k.same; so = k.so }

    pub choice_keeps : (n : ℕ) (o r o' r' : Outcome V Value) → Keeps halt N B Q E o o' → Keeps halt N B Q E r r' → Keeps halt N B Q E (if_not_zero n o r) (if_not_zero n o' r')
    choice_keeps zero o r o' r' h g = g
    choice_keeps (suc n) o r o' r' h g = h

    spend_of_keeps : (n : ℕ) (w : World) (go go' : World → Outcome V Value) → ((w : World) → Keeps halt N B Q E (go w) (go' w)) → Keeps halt N B Q E (spend_of n w go) (spend_of n w go')
    spend_of_keeps zero w go go' h = record { same = refl; so = tt }
    spend_of_keeps (suc n) w go go' h = h (record w { fuel = n })

    pub spend_keeps : (w : World) (go go' : World → Outcome V Value) → ((w : World) → Keeps halt N B Q E (go w) (go' w)) → Keeps halt N B Q E (spend w go) (spend w go')
    spend_keeps w go go' h = spend_of_keeps w.fuel w go go' h

    -- what is left of the variables
    pub on_keeps : (M C : V → Type 0) (f : V → V) (o o' : Outcome V Value) → ((v : V) → N v → M (f v)) → ((v : V) → B v → C (f v)) → Keeps halt N B Q E o o' → Keeps halt M C Q E (on_variables f o) (on_variables f o')
    on_keeps M C f o o' n b k = record { same = ap (on_variables f) k.same ∙ on o'; so = by o' k.so }
      where
        on : (o : Outcome V Value) → on_variables f (instead halt o) ≡ instead halt (on_variables f o)
        on (Normal v w) = refl
        on (Broken v w) = refl
        on (Continued v w) = refl
        on (Returned x w) = refl
        on (Raised i x w) = refl
        on (Over e w) = refl

        by : (o : Outcome V Value) → Leaves N B Q E o → Leaves M C Q E (on_variables f o)
        by (Normal v w) h = n v h
        by (Broken v w) h = b v h
        by (Continued v w) h = b v h
        by (Returned x w) h = h
        by (Raised i x w) h = h
        by (Over e w) h = tt

    -- ---- calls

    -- fuel that is spent before what has none
    sure_of : (n : ℕ) (w : World) (go : World → Outcome V Value) → ((w : World) (r : Outcome V Value) → unless_failed ill halt (go w) r ≡ r) → (r : Outcome V Value) → unless_failed ill halt (spend_of n w go) r ≡ r
    sure_of zero w go h r = refl
    sure_of (suc n) w go h r = h (record w { fuel = n }) r

    pub spend_sure : (w : World) (go : World → Outcome V Value) → ((w : World) (r : Outcome V Value) → unless_failed ill halt (go w) r ≡ r) → (r : Outcome V Value) → unless_failed ill halt (spend w go) r ≡ r
    spend_sure w go h r = sure_of w.fuel w go h r

    abbrev pub nowhere : {A : Type 0} → Callee A Value
    nowhere f xs w = Over Spent w

    -- a callee only returns, raises or ends the run
    module _ (P : Value → Type 0) where
      after_call_keeps : (caller : World) (o o' : Outcome (Unit {0}) Value) (gave gave' : Value → World → Outcome V Value) (threw threw' : ℕ → Value → World → Outcome V Value) → Keeps halt (λ u. ⊥) (λ u. ⊥) P E o o'
          → ((x : Value) (w : World) → P x → Keeps halt N B Q E (gave x w) (gave' x w)) → ((i : ℕ) (x : Value) (w : World) → E i x → Keeps halt N B Q E (threw i x w) (threw' i x w)) → Keeps halt N B Q E (after_call caller o gave threw) (after_call caller o' gave' threw')
      after_call_keeps caller o o' gave gave' threw threw' k g t = subst (λ (r : Outcome (Unit {0}) Value). Keeps halt N B Q E (after_call caller r gave threw) (after_call caller o' gave' threw')) (sym k.same) (by o' k.so)
        where
          by : (o : Outcome (Unit {0}) Value) → Leaves (λ (u : Unit {0}). ⊥) (λ (u : Unit {0}). ⊥) P E o → Keeps halt N B Q E (after_call caller (instead halt o) gave threw) (after_call caller o gave' threw')
          by (Normal v w) h = absurd h
          by (Broken v w) h = absurd h
          by (Continued v w) h = absurd h
          by (Returned x w) h = g x _ h
          by (Raised i x w) h = t i x _ h
          by (Over e w) h = record { same = refl; so = tt }

      pub call_keeps : {A : Type 0} (callee callee' : Callee A Value) (f : ℕ) (arguments : Option A) (w : World) (gave gave' : Value → World → Outcome V Value) (threw threw' : ℕ → Value → World → Outcome V Value) (give : Value → World → Outcome V Value) (throw : ℕ → Value → World → Outcome V Value)
          → ((a : A) (w : World) → arguments ≡ Some a → Keeps halt (λ u. ⊥) (λ u. ⊥) P E (callee f a w) (callee' f a w)) → ((x : Value) (w : World) → P x → Keeps halt N B Q E (gave x w) (gave' x w)) → ((i : ℕ) (x : Value) (w : World) → E i x → Keeps halt N B Q E (threw i x w) (threw' i x w))
          → Keeps halt N B Q E (unless_failed ill halt (call nowhere f arguments w give throw) (call callee f arguments w gave threw)) (call callee' f arguments w gave' threw')
      call_keeps callee callee' f arguments w gave gave' threw threw' give throw c g t =
          first_keeps arguments w (λ a. spend w (λ inner. after_call w (nowhere f a inner) give throw)) _ _ (λ a is.
          sure_keeps (spend w (λ inner. after_call w (nowhere f a inner) give throw)) _ _ (spend_sure w (λ inner. after_call w (nowhere f a inner) give throw) (λ inner r. refl))
          (spend_keeps w _ _ (λ inner. after_call_keeps w (callee f a inner) (callee' f a inner) gave gave' threw threw' (c a inner is) g t)))

      left_keeps : (o o' : Outcome (Unit {0}) Value) → Keeps halt (λ u. ⊥) (λ u. ⊥) P E o o' → ((x : Value) → P x → Q x) → Keeps halt N B Q E (left o) (left o')
      left_keeps o o' k g = subst (λ (r : Outcome (Unit {0}) Value). Keeps halt N B Q E (left r) (left o')) (sym k.same) (by o' k.so)
        where
          by : (o : Outcome (Unit {0}) Value) → Leaves (λ (u : Unit {0}). ⊥) (λ (u : Unit {0}). ⊥) P E o → Keeps halt N B Q E (left (instead halt o)) (left o)
          by (Normal v w) h = absurd h
          by (Broken v w) h = absurd h
          by (Continued v w) h = absurd h
          by (Returned x w) h = record { same = refl; so = g x h }
          by (Raised i x w) h = record { same = refl; so = h }
          by (Over e w) h = record { same = refl; so = tt }

      pub tail_keeps : {A : Type 0} (callee callee' : Callee A Value) (f : ℕ) (arguments : Option A) (w : World) → ((a : A) (w : World) → arguments ≡ Some a → Keeps halt (λ u. ⊥) (λ u. ⊥) P E (callee f a w) (callee' f a w)) → ((x : Value) → P x → Q x)
          → Keeps halt N B Q E (unless_failed ill halt (tail_call nowhere f arguments w) (tail_call callee f arguments w)) (tail_call callee' f arguments w)
      tail_keeps callee callee' f arguments w c g =
          first_keeps arguments w (λ a. spend w (λ inner. left (nowhere f a (leaving inner)))) _ _ (λ a is.
          sure_keeps (spend w (λ inner. left (nowhere f a (leaving inner)))) _ _ (spend_sure w (λ inner. left (nowhere f a (leaving inner))) (λ inner r. refl))
          (spend_keeps w _ _ (λ inner. left_keeps (callee f a (leaving inner)) (callee' f a (leaving inner)) (c a (leaving inner) is) g)))

  -- ---- loops, which end where their body breaks

  -- before a test that fails the first has ended so, and before one that gives a word it goes on
  abbrev pub Tried : Option ℕ → Outcome V Value → V → World → Type 0
  Tried None o v w = o ≡ Over halt w
  Tried (Some n) o v w = o ≡ Normal v w

  module _ (N C : V → Type 0) where
    after_body_keeps : (o o' : Outcome V Value) (m m' : Meaning V Value) → Keeps halt N N Q E o o' → ((v : V) (w : World) → N v → Keeps halt N C Q E (m v w) (m' v w)) → Keeps halt N C Q E (after_body o m) (after_body o' m')
    after_body_keeps o o' m m' k h = subst (λ (r : Outcome V Value). Keeps halt N C Q E (after_body r m) (after_body o' m')) (sym k.same) (by o' k.so)
      where
        by : (o : Outcome V Value) → Leaves N N Q E o → Keeps halt N C Q E (after_body (instead halt o) m) (after_body o m')
        by (Normal v w) n = h v w n
        by (Broken v w) n = record { same = refl; so = n }
        by (Continued v w) n = h v w n
        by (Returned x w) q = record { same = refl; so = q }
        by (Raised i x w) e = record { same = refl; so = e }
        by (Over e w) u = record { same = refl; so = tt }

    module _ (before : Meaning V Value) (test : V → World → Option ℕ) (body body' : Meaning V Value) (tried : (v : V) (w : World) → N v → Tried (test v w) (before v w) v w) (does : (v : V) (w : World) → N v → Keeps halt N N Q E (body v w) (body' v w)) where
      turn_keeps : (again again' : Meaning V Value) → ((v : V) (w : World) → N v → Keeps halt N C Q E (again v w) (again' v w)) → (v : V) (w : World) → N v → Keeps halt N C Q E (turn before test body again v w) (turn (λ v w. Normal v w) test body' again' v w)
      turn_keeps again again' h v w n = by (test v w) refl (tried v w n)
        where
          go : Meaning V Value → Meaning V Value → V → World → ℕ → Outcome V Value
          go body again v w k = if_not_zero k (spend w (λ w. after_body (body v w) again)) (Normal v w)

          by : (o : Option ℕ) → test v w ≡ o → Tried o (before v w) v w → Keeps halt N C Q E (and_then (before v w) (λ v w. with_value (test v w) w (go body again v w))) (with_value o w (go body' again' v w))
          by None is t = subst (λ (r : Outcome V Value). Keeps halt N C Q E (and_then r (λ v w. with_value (test v w) w (go body again v w))) (Over Fails w)) (sym t) (record { same = refl; so = tt })
          by (Some k) is t =
              subst (λ (r : Outcome V Value). Keeps halt N C Q E (and_then r (λ v w. with_value (test v w) w (go body again v w))) (go body' again' v w k)) (sym t)
              (subst (λ o. Keeps halt N C Q E (with_value o w (go body again v w)) (go body' again' v w k)) (sym is)
              (choice_keeps N C k _ _ _ _ (spend_keeps N C w _ _ (λ w. after_body_keeps (body v w) (body' v w) again again' (does v w n) h)) (record { same = refl; so = n })))

      pub turns_keeps : (d : ℕ) (v : V) (w : World) → N v → Keeps halt N C Q E (turns d before test body v w) (turns d (λ v w. Normal v w) test body' v w)
      turns_keeps zero v w n = turn_keeps (λ v w. Over Spent w) (λ v w. Over Spent w) (λ v w n. record { same = refl; so = tt }) v w n
      turns_keeps (suc d) v w n = turn_keeps _ _ (turns_keeps d) v w n
