-- Where temporaries stand.
use Rattle.std.proofs.Common.{◌≡◌, ℕ, ◌+◌, ◌≤◌, Bool, true, false, List, [], ◌∷◌, map, Some, None, arith, refl, sym, subst}
use Rattle.std.specs.Prelude.{nat_le, if◌then◌else◌}
use Rattle.std.proofs.lemmas.Bool.Decides.{nat_tests}
use Rattle.crep_lang.specs.declared.syntax.Stmt.{Stmt as Crep, Stmt-F as Crep-F, roll-Stmt as roll-Crep, map-Stmt as map-Crep}
use Rattle.crep_lang.specs.declared.syntax.Stmt.TheOpen as c
use Rattle.loop_lower.specs.declared.places.Plan.{Plan}
use Rattle.loop_lower.specs.declared.places.Placed.{Placed}
use Rattle.loop_lower.specs.Lowered.{plan, planned, placed_row, placed_layer, placed}
use Rattle.loop_lower.proofs.Layers.{crep_induct, placed_roll}

-- what a plan says: both starts are at the base or above, and what the statement needs fits
pub record Fits (limit base many few : ℕ) (p : Plan) : Type 0 where
  pub starts : base ≤ p.start
  pub goes_on : base ≤ p.next
  pub apart : p.apart ≡ true → p.start + many ≤ limit
  pub close : p.apart ≡ false → base + few ≤ limit → p.start + few ≤ limit

pub plan_fits : (limit base t many few : ℕ) → base ≤ t → Fits limit base many few (plan limit base t many few)
plan_fits limit base t many few l = by (nat_le (t + many) limit) (nat_le (t + few) limit) refl refl
  where
    by : (a b : Bool) → nat_le (t + many) limit ≡ a → nat_le (t + few) limit ≡ b
        → Fits limit base many few (if a then record { apart = true; start = t; next = t + many } else (if b then record { apart = false; start = t; next = t + few } else record { apart = false; start = base; next = t }))
    by true b e f = record { starts = l; goes_on = omega (arith, l); apart = λ h. grind (arith, nat_tests); close = λ h. absurd cc }
    by false true e f = record { starts = l; goes_on = omega (arith, l); apart = λ h. absurd cc; close = λ h k. grind (arith, nat_tests) }
    by false false e f = record { starts = omega arith; goes_on = l; apart = λ h. absurd cc; close = λ h k. k }

module _ (limit base : ℕ) where
  -- the temporaries of what follows start at the base or above
  abbrev Goes : (ℕ → Placed) → Type 0
  Goes f = (t : ℕ) → base ≤ t → base ≤ (f t).next

  abbrev GoesOn : Crep → Type 0
  GoesOn x = Goes (placed limit base x)

  goes_at : (y : Crep-F Crep) → Goes (placed_layer limit base (map-Crep Crep (ℕ → Placed) (placed limit base) y)) → GoesOn (roll-Crep y)
  goes_at y h t l = subst (λ (f : ℕ → Placed). base ≤ (f t).next) (sym (placed_roll limit base y)) (h t l)

  pub planned_goes : (es : _) (t : ℕ) → base ≤ t → base ≤ (planned limit base es t).next
  planned_goes es t l = (plan_fits limit base t _ _ l).goes_on

  row_goes : (all : List ((x : Crep) × GoesOn x)) (t : ℕ) → base ≤ t → base ≤ (placed_row limit base (map (placed limit base) (map (λ c. c.0) all)) t).next
  row_goes [] t l = l
  row_goes (p ∷ all) t l = row_goes all (placed limit base p.0 t).next (p.1 t l)

  goes_layer : (y : Crep-F ((x : Crep) × GoesOn x)) → GoesOn (roll-Crep (map-Crep ((x : Crep) × GoesOn x) Crep (λ c. c.0) y))
  goes_layer c.Skip = goes_at c.Skip (λ t l. l)
  goes_layer (c.Seq all) = goes_at (c.Seq (map (λ c. c.0) all)) (λ t l. row_goes all t l)
  goes_layer (c.Assign x e) = goes_at (c.Assign x e) (λ t l. planned_goes (e ∷ []) t l)
  goes_layer (c.StoreWord a e) = goes_at (c.StoreWord a e) (λ t l. planned_goes (a ∷ e ∷ []) t l)
  goes_layer (c.StoreByte a e) = goes_at (c.StoreByte a e) (λ t l. planned_goes (a ∷ e ∷ []) t l)
  goes_layer (c.If e p q) = goes_at (c.If e p.0 q.0) (λ t l. q.1 _ (p.1 _ (planned_goes (e ∷ []) t l)))
  goes_layer (c.While all e p) = goes_at (c.While (map (λ c. c.0) all) e p.0) (λ t l. p.1 _ (planned_goes (e ∷ []) _ (row_goes all t l)))
  goes_layer c.Break = goes_at c.Break (λ t l. l)
  goes_layer c.Continue = goes_at c.Continue (λ t l. l)
  goes_layer (c.Call results f es None) = goes_at (c.Call results f es None) (λ t l. planned_goes es t l)
  goes_layer (c.Call results f es (Some h)) = goes_at (c.Call results f es (Some (record { exception = h.exception; variables = h.variables; body = h.body.0 }))) (λ t l. h.body.1 _ (planned_goes es t l))
  goes_layer (c.TailCall f es) = goes_at (c.TailCall f es) (λ t l. planned_goes es t l)
  goes_layer (c.Return es) = goes_at (c.Return es) (λ t l. planned_goes es t l)
  goes_layer (c.Raise i es) = goes_at (c.Raise i es) (λ t l. planned_goes es t l)
  goes_layer (c.SharedLoad size x a) = goes_at (c.SharedLoad size x a) (λ t l. planned_goes (a ∷ []) t l)
  goes_layer (c.SharedStore size a e) = goes_at (c.SharedStore size a e) (λ t l. planned_goes (a ∷ e ∷ []) t l)
  goes_layer (c.Foreign i a b e f) = goes_at (c.Foreign i a b e f) (λ t l. planned_goes (a ∷ b ∷ e ∷ f ∷ []) t l)

  pub goes_on : (x : Crep) → GoesOn x
  goes_on = crep_induct GoesOn goes_layer

  pub all_go_on : (xs : List Crep) (t : ℕ) → base ≤ t → base ≤ (placed_row limit base (map (placed limit base) xs) t).next
  all_go_on [] t l = l
  all_go_on (x ∷ xs) t l = all_go_on xs (placed limit base x t).next (goes_on x t l)
