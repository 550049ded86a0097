-- The machine does under a device what the source does, as far as both go. The forward direction alone is wanted for it.
use Rattle.std.proofs.Common.{◌≡◌, ◌≢◌, ℕ, ◌+◌, ◌-◌, ◌≤◌, ◌<◌, List, [], ◌∷◌, ◌++◌, false, refl, sym, ap, ◌∙◌, subst, arith, inl, inr}
use Rattle.std.specs.Prelude.{◌⊎◌, IsTrue}
use Rattle.std.proofs.lemmas.List.{append-nil}
use Rattle.std.proofs.lemmas.Bool.{false≢true}
use Rattle.pan_base.specs.Events.{Asked, Replied, Event, Ending, Asks, Spent, Stack, Fails, Behaviour, IsPrefix}
use Rattle.pan_control.specs.Seen.{Seen}
use Rattle.pan_port.specs.Device.{Gives}
use Rattle.pan_port.specs.Drive.{AreGiven}
use Rattle.pan_agree.specs.Agree.{Overflows}
use Rattle.riscv_isa.specs.Running.{IsSteady}
use Rattle.script_agreement.specs.Given.{is_whole, Concur}
use Rattle.pan_tree.specs.InOrder.{TakesInOrder}
use Rattle.script_agreement.proofs.Cut.{IsDetermined, Stand, Same, Shorter, Longer, stand, Wants, cut, wants_one, wants_none}

-- ---- on one list of replies

-- how one run stands to another of the same machine
data Near (a b : Behaviour) : Type 0 where
  Before : a.ending ≡ Spent → IsPrefix a.events b.events → Near a b
  There : a ≡ b → Near a b
  Past : b.ending ≡ Spent → IsPrefix b.events a.events → Near a b

-- how a run of the machine stands to one of the source: it is spent before that, is the same, goes on where the source is spent, or has no stack
data Meets (a c : Behaviour) : Type 0 where
  Behind : a.ending ≡ Spent → IsPrefix a.events c.events → Meets a c
  Equal : a ≡ c → Meets a c
  Ahead : c.ending ≡ Spent → IsPrefix c.events a.events → Meets a c
  Full : a.ending ≡ Stack → IsPrefix a.events c.events → Meets a c

module _ (machine : ℕ → Behaviour) (steady : IsSteady machine) where
  up : (k j : ℕ) → Near (machine k) (machine (k + j))
  up k j = elim (steady.same k j) [ inl e ↦ Before e (steady.front k j) | inr e ↦ There (sym e) ]

  down : (k j : ℕ) → Near (machine (k + j)) (machine k)
  down k j = elim (steady.same k j) [ inl e ↦ Past e (steady.front k j) | inr e ↦ There e ]

  split : (k l : ℕ) → (k ≤ l) ⊎ (l < k)
  split k l = grind (arith)

  near : (k l : ℕ) → Near (machine k) (machine l)
  near k l =
      elim (split k l) [
        | inl h ↦ (let e : k + (l - k) ≡ l = omega arith in subst (λ m. Near (machine k) (machine m)) e (up k (l - k)))
        | inr h ↦ (let e : l + (k - l) ≡ k = omega arith in subst (λ m. Near (machine m) (machine l)) e (down l (k - l)))
      ]

spent_stack : (e : Ending) → e ≡ Spent → e ≡ Stack → ⊥
spent_stack e a b = cc

-- what the crate below says of prefixes
abbrev IsTransitive : Type 0
IsTransitive = (xs ys zs : List Event) → IsPrefix xs ys → IsPrefix ys zs → IsPrefix xs zs

meets : IsTransitive → (stack : ℕ) (s : Seen) (a b : Behaviour) → Near a b → (b ≡ s.behaviour) ⊎ Overflows stack s b → Meets a s.behaviour
meets prefix_trans stack s a b (Before e f) (inl is) = Behind e (subst (λ (b : Behaviour). IsPrefix a.events b.events) is f)
meets prefix_trans stack s a b (There e) (inl is) = Equal (e ∙ is)
meets prefix_trans stack s a b (Past e f) (inl is) = Ahead (sym (ap (λ (b : Behaviour). b.ending) is) ∙ e) (subst (λ (b : Behaviour). IsPrefix b.events a.events) is f)
meets prefix_trans stack s a b (Before e f) (inr o) = Behind e (prefix_trans a.events b.events _ f o.front)
meets prefix_trans stack s a b (There e) (inr o) = Full (ap (λ (b : Behaviour). b.ending) e ∙ o.stack_end) (subst (λ (b : Behaviour). IsPrefix b.events ((s.behaviour).events)) (sym e) o.front)
meets prefix_trans stack s a b (Past e f) (inr o) = absurd (spent_stack b.ending e o.stack_end)

-- two runs that ask meet in one alone
asks_equal : (a c : Behaviour) (q r : Asked) → a.ending ≡ Asks q → c.ending ≡ Asks r → Meets a c → a ≡ c
asks_equal a c q r e f (Behind x p) = absurd (cc)
asks_equal a c q r e f (Equal x) = x
asks_equal a c q r e f (Ahead x p) = absurd (cc)
asks_equal a c q r e f (Full x p) = absurd (cc)

-- ---- how they concur

no_whole : (e x : Ending) → e ≡ x → is_whole x ≡ false → IsTrue (is_whole e) → ⊥
no_whole e x is none whole = false≢true (sym none ∙ ap is_whole (sym is) ∙ whole)

concur_at : (a c : Behaviour) → Meets a c → Concur c a
concur_at a c (Behind e p) = record { fronts = inr p; same = λ _ whole. absurd (no_whole a.ending Spent e refl whole) }
concur_at a c (Equal e) = record { fronts = inl (subst (λ (b : Behaviour). IsPrefix c.events b.events) (sym e) (record { rest = []; all = sym (append-nil c.events) })); same = λ _ _. sym e }
concur_at a c (Ahead e p) = record { fronts = inl p; same = λ whole _. absurd (no_whole c.ending Spent e refl whole) }
concur_at a c (Full e p) = record { fronts = inr p; same = λ _ whole. absurd (no_whole a.ending Stack e refl whole) }

module _ (prefix_trans : IsTransitive) {D : Type 0} (gives : Gives D) (determined : IsDetermined gives) (start : D) (stack k : ℕ) (source : List Replied → Seen) (machine : List Replied → ℕ → Behaviour)
    (source_is : TakesInOrder (λ replies. (source replies).behaviour)) (machine_is : TakesInOrder (λ replies. machine replies k)) (steady : (replies : List Replied) → IsSteady (machine replies))
    (forward : (replies : List Replied) → ((source replies).behaviour).ending ≢ Fails → (l : ℕ) × ((machine replies l ≡ (source replies).behaviour) ⊎ Overflows stack (source replies) (machine replies l))) where
  abbrev meant : List Replied → Behaviour
  meant replies = (source replies).behaviour

  abbrev ran : List Replied → Behaviour
  ran replies = machine replies k

  meet : (replies : List Replied) → (meant replies).ending ≢ Fails → Meets (ran replies) (meant replies)
  meet replies kept = let f = forward replies kept in meets prefix_trans stack (source replies) (ran replies) (machine replies f.0) (near (machine replies) (steady replies) k f.0) f.1

  asks_no_fail : (e : Ending) (q : Asked) → e ≡ Asks q → e ≢ Fails
  asks_no_fail e q asks fails = cc

  -- ---- one is given more replies than the other

  -- the machine asks for more, on the replies of the source
  longer_machine : (replies : List Replied) (new : D) (r : Replied) (longer : Behaviour) → AreGiven gives start (meant replies) replies new → Wants gives start (ran replies) replies r → IsPrefix (ran replies).events longer.events
      → Meets (ran replies) (meant replies) → Concur (meant replies) longer
  longer_machine replies new r longer g w p (Behind e f) = absurd (let h = w.asks in cc)
  longer_machine replies new r longer g w p (Equal e) = absurd (wants_none gives determined start (meant replies) replies replies new r g (subst (λ b. Wants gives start b replies r) e w))
  longer_machine replies new r longer g w p (Ahead e f) = record { fronts = inl (prefix_trans _ _ _ f p); same = λ whole _. absurd (no_whole (meant replies).ending Spent e refl whole) }
  longer_machine replies new r longer g w p (Full e f) = absurd (let h = w.asks in cc)

  -- the source asks for more, on the replies of the machine
  longer_source : (replies : List Replied) (new : D) (r : Replied) (longer : Behaviour) → AreGiven gives start (ran replies) replies new → Wants gives start (meant replies) replies r → IsPrefix (meant replies).events longer.events
      → Meets (ran replies) (meant replies) → Concur longer (ran replies)
  longer_source replies new r longer g w p (Behind e f) = record { fronts = inr (prefix_trans _ _ _ f p); same = λ _ whole. absurd (no_whole (ran replies).ending Spent e refl whole) }
  longer_source replies new r longer g w p (Equal e) = absurd (wants_none gives determined start (ran replies) replies replies new r g (subst (λ b. Wants gives start b replies r) (sym e) w))
  longer_source replies new r longer g w p (Ahead e f) = absurd (let h = w.asks in cc)
  longer_source replies new r longer g w p (Full e f) = record { fronts = inr (prefix_trans _ _ _ f p); same = λ _ whole. absurd (no_whole (ran replies).ending Stack e refl whole) }

  module _ (asked got : List Replied) (new new' : D) (given : AreGiven gives start (meant asked) asked new) (given' : AreGiven gives start (ran got) got new') (no_fail : (meant asked).ending ≢ Fails) where
    abbrev source_cut : (front : List Replied) (r : Replied) (rest : List Replied) → asked ≡ front ++ r ∷ rest → Wants gives start (meant front) front r × IsPrefix (meant front).events (meant (front ++ r ∷ rest)).events
    source_cut front r rest e = cut gives start new meant source_is front r rest (subst (λ l. AreGiven gives start (meant l) l new) e given)

    abbrev machine_cut : (front : List Replied) (r : Replied) (rest : List Replied) → got ≡ front ++ r ∷ rest → Wants gives start (ran front) front r × IsPrefix (ran front).events (ran (front ++ r ∷ rest)).events
    machine_cut front r rest e = cut gives start new' ran machine_is front r rest (subst (λ l. AreGiven gives start (ran l) l new') e given')

    -- after the same replies both ask the same
    same_next : (front : List Replied) (r r' : Replied) (rest rest' : List Replied) → asked ≡ front ++ r ∷ rest → got ≡ front ++ r' ∷ rest' → r ≡ r'
    same_next front r r' rest rest' e f =
        let a = (source_cut front r rest e).0 in
        let b = (machine_cut front r' rest' f).0 in
        let equal : ran front ≡ meant front = asks_equal (ran front) (meant front) b.request a.request b.asks a.asks (meet front (asks_no_fail (meant front).ending a.request a.asks)) in
        wants_one gives determined start (meant front) front front r r' a (subst (λ x. Wants gives start x front r') equal b)

    concur_so : Stand asked got → Concur (meant asked) (ran got)
    concur_so (Same e) = subst (λ l. Concur (meant asked) (ran l)) e (concur_at (ran asked) (meant asked) (meet asked no_fail))
    concur_so (Shorter r rest e) =
        let c = machine_cut asked r rest e in
        longer_machine asked new r (ran got) given c.0 (subst (λ l. IsPrefix (ran asked).events (ran l).events) (sym e) c.1) (meet asked no_fail)
    concur_so (Longer r rest e) =
        let c = source_cut got r rest e in
        longer_source got new' r (meant asked) given' c.0 (subst (λ l. IsPrefix (meant got).events (meant l).events) (sym e) c.1) (meet got (asks_no_fail (meant got).ending (c.0).request (c.0).asks))

    pub concur : Concur (meant asked) (ran got)
    concur = concur_so (stand asked got same_next [] asked got refl refl)
