-- Loops whose second has further steps between what stands before the test and the test.
use Rattle.std.proofs.Common.{◌≡◌, ℕ, zero, suc, Option, Some, refl, sym, ap, ◌∙◌}
use Rattle.pan_base.specs.Events.{Spent}
use Rattle.pan_control.specs.World.{World}
use Rattle.pan_control.specs.Control.{Normal, Over, Meaning, and_then, with_value, if_not_zero, spend, turn, turns, after_body}
use Rattle.pan_stage.proofs.Grows.{extends_self, value_grown, choice_grown, spend_grown, body_grown, turns_grow}
use Rattle.pan_stage.proofs.Rows.{then_twice}
use Rattle.pan_stage.proofs.Follows.{beside, Ends, Follows, Onward, inside, normal, over, same_as, then_same, with_same, spend_same, body_same}
use Rattle.pan_stage.proofs.Turning.{AsZero, choice_as}

module _ {G G' V U X Y : Type 0} (r : Ends G G' V U X Y) where
  -- H holds at the head, P where the first is to test, T behind the test, I where the body begins. Nothing is asked of the steps where the first's test fails.
  pub record Testing (H P T I : V → World G → U → ℕ → Type 0) (before : Meaning G V X) (test : V → World G → Option ℕ) (body : Meaning G V X) (before' first steps : Meaning G' U Y) (test' : U → World G' → Option ℕ) (body' : Meaning G' U Y) : Type 0 where
    pub splits : (u : U) (w : World G') → before' u w ≡ and_then (first u w) steps
    pub firsts : Follows (record r { normal = P }) H before first
    pub tests : (v : V) (w : World G) (u : U) (t n : ℕ) → P v w u t → test v w ≡ Some n
        → (u' : U) × (t' : ℕ) × (m : ℕ) × (steps u (beside r.view t w) ≡ Normal u' (beside r.view t' w)) × (test' u' (beside r.view t' w) ≡ Some m) × AsZero n m × T v w u' t'
    pub leaves : (v : V) (w : World G) (u : U) (t : ℕ) → T v w u t → r.normal v w u t
    pub begins : (v : V) (w : World G) (u : U) (t n : ℕ) → T v w u t → I v (record w { fuel = n }) u t
    pub inner : Follows (inside H r) I body body'
    pub spent : (v : V) (w : World G) (u : U) (t : ℕ) → T v w u t → r.stopped w t
    pub spent_at_head : (v : V) (w : World G) (u : U) (t : ℕ) → H v w u t → r.stopped w t
    pub before_onward : Onward r before
    pub body_onward : Onward r body

  module _ (H P T I : V → World G → U → ℕ → Type 0) (before : Meaning G V X) (test : V → World G → Option ℕ) (body : Meaning G V X) (before' first steps : Meaning G' U Y) (test' : U → World G' → Option ℕ) (body' : Meaning G' U Y) (k : Testing H P T I before test body before' first steps test' body') where
    turn_tested : (again : Meaning G V X) (again' : Meaning G' U Y) → Follows r H again again' → Onward r again → Follows r H (turn before test body again) (turn before' test' body' again')
    turn_tested again again' f on v w u t h =
        same_as r _ (turn before' test' body' again' u (beside r.view t w)) (and_then (first u (beside r.view t w)) (λ u w. and_then (steps u w) go'))
        (ap (λ o. and_then o go') (k.splits u (beside r.view t w)) ∙ sym (then_twice (first u (beside r.view t w)) steps go' (λ u w. and_then (steps u w) go') (λ u w. refl)))
        (then_same r P (before v w) (first u (beside r.view t w)) go (λ u w. and_then (steps u w) go') (k.firsts v w u t h) then_tested
        (λ w after c. record { at = λ v w. value_grown (test v w) w _ (λ n. choice_grown n w _ _ (spend_grown w _ (λ w'. body_grown w' (body v w') again ((k.body_onward _ after c).at v w') (on _ after c))) (record { by = extends_self w })) }))
      where
        go : Meaning G V X
        go v w = with_value (test v w) w (λ n. if_not_zero n (spend w (λ w. after_body (body v w) again)) (Normal v w))

        go' : Meaning G' U Y
        go' u w = with_value (test' u w) w (λ n. if_not_zero n (spend w (λ w. after_body (body' u w) again')) (Normal u w))

        then_tested : Follows r P go (λ u w. and_then (steps u w) go')
        then_tested v w u t h =
            with_same r (test v w) w _ _ (λ n is.
            let s = k.tests v w u t n h is in
            let w' : World G' = beside r.view s.1 w in
            same_as r _ (and_then (steps u (beside r.view t w)) go') (if_not_zero s.2 (spend w' (λ w. after_body (body' s.0 w) again')) (Normal s.0 w'))
            (ap (λ o. and_then o go') s.3 ∙ ap (λ o. with_value o w' (λ n. if_not_zero n (spend w' (λ w. after_body (body' s.0 w) again')) (Normal s.0 w'))) s.4)
            (choice_as r n s.2 _ _ _ _ s.5
            (spend_same r w s.1 (λ w. after_body (body v w) again) (λ w. after_body (body' s.0 w) again') (k.spent v w s.0 s.1 s.6) (λ n.
            body_same r H (body v (record w { fuel = n })) (body' s.0 (beside r.view s.1 (record w { fuel = n }))) again again' (k.inner v (record w { fuel = n }) s.0 s.1 (k.begins v w s.0 s.1 n s.6)) f on))
            (normal r v w s.0 s.1 (k.leaves v w s.0 s.1 s.6))))

    pub turns_tested : (d : ℕ) → Follows r H (turns d before test body) (turns d before' test' body')
    turns_tested zero = turn_tested (λ v w. Over Spent w) (λ v w. Over Spent w) (λ v w u t h. over r Spent w t (k.spent_at_head v w u t h)) (λ w after c. record { at = λ v w. record { by = extends_self w } })
    turns_tested (suc d) = turn_tested (turns d before test body) (turns d before' test' body') (turns_tested d) (λ w after c. turns_grow d before test body (k.before_onward w after c) (k.body_onward w after c))
