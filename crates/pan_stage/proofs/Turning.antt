-- Loops whose tests differ: the second may have steps before its test that the first hasn't, and its test may be another number, if that is 0 where the first's is.
use Rattle.std.proofs.Common.{◌≡◌, ℕ, zero, suc, Option, Some, arith, ap, ◌∙◌}
use Rattle.pan_base.specs.Events.{Spent}
use Rattle.pan_control.specs.World.{World}
use Rattle.pan_control.specs.Control.{Outcome, Normal, Over, Meaning, and_then, with_value, if_not_zero, spend, turn, turns, after_body}
use Rattle.pan_stage.proofs.Grows.{extends_self, Grows, value_grown, choice_grown, spend_grown, body_grown, turns_grow}
use Rattle.pan_stage.proofs.Follows.{beside, Ends, Same, Follows, Onward, inside, normal, over, same_as, then_same, with_same, spend_same, body_same}

-- both are 0 or neither
abbrev pub AsZero : ℕ → ℕ → Type 0
AsZero zero zero = Unit {0}
AsZero zero (suc n) = ⊥
AsZero (suc n) zero = ⊥
AsZero (suc n) (suc m) = Unit {0}

pub as_zero : (n m : ℕ) → n ≡ m → AsZero n m
as_zero zero zero e = tt
as_zero zero (suc m) e = omega (arith, e)
as_zero (suc n) zero e = omega (arith, e)
as_zero (suc n) (suc m) e = tt

module _ {G G' V U X Y : Type 0} (r : Ends G G' V U X Y) where
  pub choice_as : (n m : ℕ) (a b : Outcome G V X) (a' b' : Outcome G' U Y) → AsZero n m → Same r a a' → Same r b b' → Same r (if_not_zero n a b) (if_not_zero m a' b')
  choice_as zero zero a b a' b' z s t = t
  choice_as zero (suc m) a b a' b' z s t = absurd z
  choice_as (suc n) zero a b a' b' z s t = absurd z
  choice_as (suc n) (suc m) a b a' b' z s t = s

  -- H holds at the head, T behind the test, I where the body begins
  pub record Body (H T I : V → World G → U → ℕ → Type 0) (body : Meaning G V X) (body' : Meaning G' U Y) : Type 0 where
    pub leaves : (v : V) (w : World G) (u : U) (t : ℕ) → T v w u t → r.normal v w u t
    pub begins : (v : V) (w : World G) (u : U) (t n : ℕ) → T v w u t → I v (record w { fuel = n }) u t
    pub inner : Follows (inside H r) I body body'
    pub spent : (v : V) (w : World G) (u : U) (t : ℕ) → T v w u t → r.stopped w t
    pub spent_at_head : (v : V) (w : World G) (u : U) (t : ℕ) → H v w u t → r.stopped w t
    pub onward : Onward r body

  module _ (H T I : V → World G → U → ℕ → Type 0) (body : Meaning G V X) (body' : Meaning G' U Y) (k : Body H T I body body') where
    -- behind the test
    tested : (again : Meaning G V X) (again' : Meaning G' U Y) → Follows r H again again' → Onward r again → (n m : ℕ) (v : V) (w : World G) (u : U) (t : ℕ) → AsZero n m → T v w u t
        → Same r (if_not_zero n (spend w (λ w. after_body (body v w) again)) (Normal v w)) (if_not_zero m (spend (beside r.view t w) (λ w. after_body (body' u w) again')) (Normal u (beside r.view t w)))
    tested again again' f g n m v w u t z h =
        choice_as n m _ _ _ _ z
        (spend_same r w t (λ w. after_body (body v w) again) (λ w. after_body (body' u w) again') (k.spent v w u t h) (λ n.
        body_same r H (body v (record w { fuel = n })) (body' u (beside r.view t (record w { fuel = n }))) again again' (k.inner v (record w { fuel = n }) u t (k.begins v w u t n h)) f g))
        (normal r v w u t (k.leaves v w u t h))

    -- The first only tests, and the second has steps before its test. Nothing is asked of them where the first's test fails.
    module _ (g : World G → World G) (grows : (w : World G) (after : World G') → r.cut w after → Grows {V = V} {X = X} (λ v w. Normal v (g w))) (test : V → World G → Option ℕ) (before' : Meaning G' U Y) (test' : U → World G' → Option ℕ)
        (steps : (v : V) (w : World G) (u : U) (t n : ℕ) → H v w u t → test v (g w) ≡ Some n
        → (u' : U) × (t' : ℕ) × (m : ℕ) × (before' u (beside r.view t w) ≡ Normal u' (beside r.view t' (g w))) × (test' u' (beside r.view t' (g w)) ≡ Some m) × AsZero n m × T v (g w) u' t') where
      turn_steps : (again : Meaning G V X) (again' : Meaning G' U Y) → Follows r H again again' → Onward r again → Follows r H (turn (λ v w. Normal v (g w)) test body again) (turn before' test' body' again')
      turn_steps again again' f on v w u t h =
          with_same r (test v (g w)) (g w) _ _ (λ n is.
          let s = steps v w u t n h is in
          let rest : U → World G' → Outcome G' U Y = λ u w. with_value (test' u w) w (λ n. if_not_zero n (spend w (λ w. after_body (body' u w) again')) (Normal u w)) in
          let w' : World G' = beside r.view s.1 (g w) in
          same_as r _ (turn before' test' body' again' u (beside r.view t w)) (if_not_zero s.2 (spend w' (λ w. after_body (body' s.0 w) again')) (Normal s.0 w'))
          (ap (λ o. and_then o rest) s.3 ∙ ap (λ o. with_value o w' (λ n. if_not_zero n (spend w' (λ w. after_body (body' s.0 w) again')) (Normal s.0 w'))) s.4)
          (tested again again' f on n s.2 v (g w) s.0 s.1 s.5 s.6))

      pub turns_steps : (d : ℕ) → Follows r H (turns d (λ v w. Normal v (g w)) test body) (turns d before' test' body')
      turns_steps zero = turn_steps (λ v w. Over Spent w) (λ v w. Over Spent w) (λ v w u t h. over r Spent w t (k.spent_at_head v w u t h)) (λ w after c. record { at = λ v w. record { by = extends_self w } })
      turns_steps (suc d) = turn_steps (turns d (λ v w. Normal v (g w)) test body) (turns d before' test' body') (turns_steps d) (λ w after c. turns_grow d (λ v w. Normal v (g w)) test body (grows w after c) (k.onward w after c))

    -- Both have steps before their tests.
    module _ (before : Meaning G V X) (before' : Meaning G' U Y) (test : V → World G → Option ℕ) (test' : U → World G' → Option ℕ) (first : Follows (record r { normal = T }) H before before') (before_onward : Onward r before)
        (tests : (v : V) (w : World G) (u : U) (t n : ℕ) → T v w u t → test v w ≡ Some n → (m : ℕ) × (test' u (beside r.view t w) ≡ Some m) × AsZero n m) where
      turn_both : (again : Meaning G V X) (again' : Meaning G' U Y) → Follows r H again again' → Onward r again → Follows r H (turn before test body again) (turn before' test' body' again')
      turn_both again again' f on v w u t h =
          then_same r T (before v w) (before' u (beside r.view t w)) go go' (first v w u t h) then_tested
          (λ w after c. record { at = λ v w. value_grown (test v w) w _ (λ n. choice_grown n w _ _ (spend_grown w _ (λ w'. body_grown w' (body v w') again ((k.onward _ after c).at v w') (on _ after c))) (record { by = extends_self w })) })
        where
          go : Meaning G V X
          go v w = with_value (test v w) w (λ n. if_not_zero n (spend w (λ w. after_body (body v w) again)) (Normal v w))

          go' : Meaning G' U Y
          go' u w = with_value (test' u w) w (λ n. if_not_zero n (spend w (λ w. after_body (body' u w) again')) (Normal u w))

          then_tested : Follows r T go go'
          then_tested v w u t h =
              with_same r (test v w) w _ _ (λ n is.
              let s = tests v w u t n h is in
              let w' : World G' = beside r.view t w in
              same_as r _ (go' u w') (if_not_zero s.0 (spend w' (λ w. after_body (body' u w) again')) (Normal u w'))
              (ap (λ o. with_value o w' (λ n. if_not_zero n (spend w' (λ w. after_body (body' u w) again')) (Normal u w'))) s.1)
              (tested again again' f on n s.0 v w u t s.2 h))

      pub turns_both : (d : ℕ) → Follows r H (turns d before test body) (turns d before' test' body')
      turns_both zero = turn_both (λ v w. Over Spent w) (λ v w. Over Spent w) (λ v w u t h. over r Spent w t (k.spent_at_head v w u t h)) (λ w after c. record { at = λ v w. record { by = extends_self w } })
      turns_both (suc d) = turn_both (turns d before test body) (turns d before' test' body') (turns_both d) (λ w after c. turns_grow d before test body (before_onward w after c) (k.onward w after c))
