-- Laws of paths and cycles.
use Rattle.std.proofs.Common.{◌≡◌, ℕ, List, [], ◌∷◌, ◌++◌, append_assoc, refl, sym, ap, ◌∙◌, subst}
use Rattle.std.proofs.lemmas.List.{append-nil}
use Rattle.stack_bound.specs.Paths.{last_of, IsPath, IsReachedCycle, HasNoCycle}

pub last_append : (f : ℕ) (gs : List ℕ) (h : ℕ) (hs : List ℕ) → last_of f (gs ++ h ∷ hs) ≡ last_of h hs
last_append f [] h hs = refl
last_append f (g ∷ gs) h hs = last_append g gs h hs

module _ (calls : ℕ → ℕ → Type 0) where
  -- a path on from where one ends
  pub path_on : (f : ℕ) (gs hs : List ℕ) → IsPath calls f gs → IsPath calls (last_of f gs) hs → IsPath calls f (gs ++ hs)
  path_on f [] hs p q = q
  path_on f (g ∷ gs) hs p q = (p.0, path_on g gs hs p.1 q)

  pub path_front : (f : ℕ) (gs hs : List ℕ) → IsPath calls f (gs ++ hs) → IsPath calls f gs
  path_front f [] hs p = tt
  path_front f (g ∷ gs) hs p = (p.0, path_front g gs hs p.1)

  pub path_rest : (f : ℕ) (gs hs : List ℕ) → IsPath calls f (gs ++ hs) → IsPath calls (last_of f gs) hs
  path_rest f [] hs p = p
  path_rest f (g ∷ gs) hs p = path_rest g gs hs p.1

  -- through a function of the path
  pub path_behind : (f : ℕ) (gs : List ℕ) (h : ℕ) (hs : List ℕ) → IsPath calls f (gs ++ h ∷ hs) → IsPath calls h hs
  path_behind f gs h hs p = (path_rest f gs (h ∷ hs) p).1

  pub path_upto : (f : ℕ) (gs : List ℕ) (h : ℕ) (hs : List ℕ) → IsPath calls f (gs ++ h ∷ hs) → IsPath calls f (gs ++ h ∷ [])
  path_upto f gs h hs p = path_on f gs (h ∷ []) (path_front f gs (h ∷ hs) p) ((path_rest f gs (h ∷ hs) p).0, tt)

  pub path_through : (f : ℕ) (gs : List ℕ) (h : ℕ) (hs : List ℕ) → IsPath calls f (gs ++ h ∷ []) → IsPath calls h hs → IsPath calls f (gs ++ h ∷ hs)
  path_through f gs h hs p q = path_on f gs (h ∷ hs) (path_front f gs (h ∷ []) p) ((path_rest f gs (h ∷ []) p).0, q)

  -- ---- cycles

  -- where none is reached from what f calls, none is reached from f
  pub no_cycle_above : (f : ℕ) → ((g : ℕ) → calls f g → HasNoCycle calls g) → HasNoCycle calls f
  no_cycle_above f below [] h = h
  no_cycle_above f below (g ∷ gs) h = from (h.0).through (h.0).path (h.0).ends
    where
      p : IsPath calls g (gs ++ g ∷ [])
      p = h.1

      around : (gs : List ℕ) → f ≡ g → IsPath calls g (gs ++ g ∷ []) → ⊥
      around [] is p = below g (subst (λ x. calls x g) (sym is) p.0) (g ∷ []) (record { through = []; path = tt; ends = refl }, p)
      around (h ∷ hs) is p =
          below h (subst (λ x. calls x h) (sym is) p.0) (g ∷ (h ∷ hs)) (record { through = hs ++ g ∷ []; path = p.1; ends = last_append h hs g [] }, p)

      from : (through : List ℕ) → IsPath calls f through → last_of f through ≡ g → ⊥
      from [] q e = around gs e p
      from (h ∷ hs) q e = below h q.0 (g ∷ gs) (record { through = hs; path = q.1; ends = e }, p)

  -- a cycle that is turned is a cycle
  pub turned_cycle : (main : ℕ) (front rest : List ℕ) → IsReachedCycle calls main (front ++ rest) → IsReachedCycle calls main (rest ++ front)
  turned_cycle main [] rest h = subst (IsReachedCycle calls main) (sym (append-nil rest)) h
  turned_cycle main (f ∷ fs) [] h = subst (IsReachedCycle calls main) (append-nil (f ∷ fs)) h
  turned_cycle main (f ∷ fs) (g ∷ gs) h =
      let r = h.0 in
      let whole : IsPath calls f (fs ++ g ∷ (gs ++ f ∷ [])) = subst (IsPath calls f) (append_assoc fs (g ∷ gs) (f ∷ [])) h.1 in
      let first : IsPath calls f (fs ++ g ∷ []) = path_upto f fs g (gs ++ f ∷ []) whole in
      let second : IsPath calls g (gs ++ f ∷ []) = path_behind f fs g (gs ++ f ∷ []) whole in
      let at_f : last_of main r.through ≡ f = r.ends in (
        record {
          through = r.through ++ (fs ++ g ∷ []);
          path = path_on main r.through (fs ++ g ∷ []) r.path (subst (λ x. IsPath calls x (fs ++ g ∷ [])) (sym at_f) first);
          ends = ap (λ xs. last_of main xs) (sym (append_assoc r.through fs (g ∷ []))) ∙ last_append main (r.through ++ fs) g [];
        },
        subst (IsPath calls g) (sym (append_assoc gs (f ∷ fs) (g ∷ []))) (path_through g gs f (fs ++ g ∷ []) second first),
      )
