-- A run that a device gave its replies, and the same run with fewer of them.
use Rattle.std.proofs.Common.{◌≡◌, ◌≢◌, ◌+◌, ◌≤◌, suc, List, [], ◌∷◌, ◌++◌, length, Bool, true, false, refl, sym, ap, ◌∙◌, subst, append_assoc, arith, length-append}
use Rattle.std.proofs.lemmas.List.{append-nil, append_cancel_left}
use Rattle.pan_base.specs.Events.{Asked, Replied, Event, Ending, Exit, Uncaught, Stopped, Asks, Spent, Stack, Fault, Fails, Behaviour, IsPrefix, fits}
use Rattle.pan_port.specs.Device.{Gives, Given, Gave, Silent}
use Rattle.pan_port.specs.Drive.{replies_of, Answered, Closes, AreGiven}
use Rattle.pan_tree.specs.GoesOn.{AnsweredBy}
use Rattle.pan_tree.specs.InOrder.{Left, TakesInOrder}
use Rattle.script_agreement.proofs.MachineOrder.{same_request}

-- a device that has one answer to each request, and one next state
pub record IsDetermined {D : Type 0} (gives : Gives D) : Type 0 where
  pub one : (old : D) (q : Asked) (g g' : Given) (new new' : D) → gives old q g new → gives old q g' new' → (g ≡ g') × (new ≡ new')

-- ---- two lists of replies

-- the first is the same as the second, or goes on with this reply, or the second does
pub data Stand (a b : List Replied) : Type 0 where
  Same : a ≡ b → Stand a b
  Shorter : (r : Replied) (rest : List Replied) → b ≡ a ++ r ∷ rest → Stand a b
  Longer : (r : Replied) (rest : List Replied) → a ≡ b ++ r ∷ rest → Stand a b

-- where after each common front the next replies are the same, one list is a front of the other
pub stand : (a b : List Replied) → ((front : List Replied) (r r' : Replied) (rest rest' : List Replied) → a ≡ front ++ r ∷ rest → b ≡ front ++ r' ∷ rest' → r ≡ r')
    → (front rest rest' : List Replied) → a ≡ front ++ rest → b ≡ front ++ rest' → Stand a b
stand a b one front [] [] e f = Same (e ∙ sym f)
stand a b one front [] (r ∷ rest) e f = Shorter r rest (f ∙ ap (λ l. l ++ r ∷ rest) (sym (e ∙ append-nil front)))
stand a b one front (r ∷ rest) [] e f = Longer r rest (e ∙ ap (λ l. l ++ r ∷ rest) (sym (f ∙ append-nil front)))
stand a b one front (r ∷ rest) (r' ∷ rest') e f =
    let same : r ≡ r' = one front r r' rest rest' e f in
    stand a b one (front ++ r ∷ []) rest rest' (e ∙ sym (append_assoc front (r ∷ []) rest)) (f ∙ ap (λ x. front ++ x ∷ rest') (sym same) ∙ sym (append_assoc front (r ∷ []) rest'))

-- ---- what the device gave

module _ {D : Type 0} (gives : Gives D) where
  answered_front : (events more : List Event) (old new : D) → Answered gives old (events ++ more) new → (mid : D) × Answered gives old events mid × Answered gives mid more new
  answered_front [] more old new a = (old, refl, a)
  answered_front (e ∷ events) more old new a = let s = answered_front events more a.0 new a.2 in (s.0, (a.0, a.1, s.1), s.2)

  -- A run that asks for the next reply: it used all replies so far, and the device gives this one.
  pub record Wants (start : D) (run : Behaviour) (replies : List Replied) (r : Replied) : Type 0 where
    pub request : Asked
    pub mid : D
    pub next : D
    pub asks : run.ending ≡ Asks request
    pub answered : Answered gives start run.events mid
    pub given : gives mid request (Gave r) next

  last_within : (e : Ending) (last left : List Replied) (mid new : D) → Closes gives mid e last new → Left e left → length last ≤ length left
  last_within (Stopped q) last left mid new c l =
      let a : length last ≡ 1 = ap length c.1 in
      let b : length left ≡ suc (length l.1) = ap length l.2 in
      omega (arith, a, b)
  last_within (Asks q) last left mid new c l = let a : length last ≡ 0 = ap length c.0 in omega (arith, a)
  last_within (Exit n) last left mid new c l = let a : length last ≡ 0 = ap length c.0 in omega (arith, a)
  last_within (Uncaught n) last left mid new c l = let a : length last ≡ 0 = ap length c.0 in omega (arith, a)
  last_within Spent last left mid new c l = let a : length last ≡ 0 = ap length c.0 in omega (arith, a)
  last_within Stack last left mid new c l = let a : length last ≡ 0 = ap length c.0 in omega (arith, a)
  last_within Fault last left mid new c l = let a : length last ≡ 0 = ap length c.0 in omega (arith, a)
  last_within Fails last left mid new c l = let a : length last ≡ 0 = ap length c.0 in omega (arith, a)

  module _ (start new : D) (run : List Replied → Behaviour) (is : TakesInOrder run) (front : List Replied) (r : Replied) (rest : List Replied) (given : AreGiven gives start (run (front ++ r ∷ rest)) (front ++ r ∷ rest) new) where
    -- the run with fewer replies
    abbrev part : Behaviour
    part = run front

    abbrev whole : Behaviour
    whole = run (front ++ r ∷ rest)

    -- a run that doesn't ask uses no more than it has
    asks_more : ((q : Asked) → part.ending ≢ Asks q) → ⊥
    asks_more never =
        let g = subst (λ b. AreGiven gives start b (front ++ r ∷ rest) new) (is.stays front (r ∷ rest) never) given in
        let u = is.uses front in
        let total : length front + length (r ∷ rest) ≡ length (replies_of part.events) + length g.last = sym (length-append front (r ∷ rest)) ∙ ap length g.all ∙ length-append (replies_of part.events) g.last in
        let had : length front ≡ length (replies_of part.events) + length u.left = ap length u.all ∙ length-append (replies_of part.events) u.left in
        let within = last_within part.ending g.last u.left g.mid new g.closes u.ends in
        let more : length (r ∷ rest) ≡ suc (length rest) = refl in
        omega (arith, total, had, within, more)

    first_reply : (xs : List Replied) (y : Replied) → r ∷ rest ≡ xs → xs ≡ y ∷ [] → y ≡ r
    first_reply xs y e f = cc

    all_used : (q : Asked) → part.ending ≡ Asks q → front ≡ replies_of part.events
    all_used q asks =
        let u = is.uses front in
        let none : u.left ≡ [] = subst (λ e. Left e u.left) asks u.ends in
        u.all ∙ ap (λ l. replies_of part.events ++ l) none ∙ append-nil (replies_of part.events)

    -- what the cut run asks, by whether the reply fits
    wanted : (t : Bool) (q : Asked) → part.ending ≡ Asks q → AnsweredBy t q r part whole → Wants start part front r × IsPrefix part.events whole.events
    wanted true q asks h =
        let e : List Event = record { request = q; reply = r } ∷ [] in
        let first = answered_front (part.events ++ e) h.rest start given.mid (subst (λ es. Answered gives start es given.mid) h.all given.answered) in
        let second = answered_front part.events e start first.0 first.1 in (
          record { request = q; mid = second.0; next = (second.2).0; asks = asks; answered = second.1; given = (second.2).1 },
          record { rest = e ++ h.rest; all = h.all ∙ append_assoc part.events e h.rest },
        )
    wanted false q asks h =
        let g = subst (λ b. AreGiven gives start b (front ++ r ∷ rest) new) h given in
        let c = g.closes in
        let tail : r ∷ rest ≡ g.last = append_cancel_left front (r ∷ rest) g.last (g.all ∙ ap (λ l. l ++ g.last) (sym (all_used q asks))) in
        let same : c.0 ≡ r = first_reply g.last c.0 tail c.1 in (
          record { request = q; mid = g.mid; next = new; asks = asks; answered = g.answered; given = subst (λ x. gives g.mid q (Gave x) new) same c.3 },
          subst (λ (b : Behaviour). IsPrefix part.events b.events) (sym h) (record { rest = []; all = sym (append-nil part.events) }),
        )

    cut_at : (e : Ending) → part.ending ≡ e → Wants start part front r × IsPrefix part.events whole.events
    cut_at (Asks q) asks = wanted (fits q r) q asks (is.answered front r rest q asks)
    cut_at (Exit n) e = absurd (asks_more (λ q asks. cc))
    cut_at (Uncaught n) e = absurd (asks_more (λ q asks. cc))
    cut_at (Stopped q) e = absurd (asks_more (λ q asks. cc))
    cut_at Spent e = absurd (asks_more (λ q asks. cc))
    cut_at Stack e = absurd (asks_more (λ q asks. cc))
    cut_at Fault e = absurd (asks_more (λ q asks. cc))
    cut_at Fails e = absurd (asks_more (λ q asks. cc))

    -- A run with fewer replies than it was given wants the next of them.
    pub cut : Wants start part front r × IsPrefix part.events whole.events
    cut = cut_at part.ending refl

module _ {D : Type 0} (gives : Gives D) (determined : IsDetermined gives) where
  answered_same : (events : List Event) (old new new' : D) → Answered gives old events new → Answered gives old events new' → new ≡ new'
  answered_same [] old new new' a b = a ∙ sym b
  answered_same (e ∷ events) old new new' a b =
      let s = determined.one old e.request _ _ a.0 b.0 a.1 b.1 in
      answered_same events b.0 new new' (subst (λ m. Answered gives m events new) s.1 a.2) b.2

  gave_same : (r r' : Replied) → Gave r ≡ Gave r' → r ≡ r'
  gave_same r r' e = cc

  -- one run wants one next reply
  pub wants_one : (start : D) (run : Behaviour) (front front' : List Replied) (r r' : Replied) → Wants gives start run front r → Wants gives start run front' r' → r ≡ r'
  wants_one start run front front' r r' a b =
      let q : a.request ≡ b.request = same_request (sym a.asks ∙ b.asks) in
      let m : a.mid ≡ b.mid = answered_same run.events start a.mid b.mid a.answered b.answered in
      let h = subst (λ q. gives b.mid q (Gave r) a.next) q (subst (λ m. gives m a.request (Gave r) a.next) m a.given) in
      gave_same r r' (determined.one b.mid b.request _ _ a.next b.next h b.given).0

  -- a run that was given its replies wants none
  pub wants_none : (start : D) (run : Behaviour) (replies front : List Replied) (new : D) (r : Replied) → AreGiven gives start run replies new → Wants gives start run front r → ⊥
  wants_none start run replies front new r g a =
      let m : a.mid ≡ g.mid = answered_same run.events start a.mid g.mid a.answered g.answered in
      let c = subst (λ e. Closes gives g.mid e g.last new) a.asks g.closes in
      let h = subst (λ m. gives m a.request (Gave r) a.next) m a.given in
      let e : Gave r ≡ Silent = (determined.one g.mid a.request _ _ a.next new h c.1).0 in
      cc

  module _ (start : D) (run : List Replied → Behaviour) (is : TakesInOrder run) where
    -- the run is given these replies
    abbrev pub IsGivenTo : List Replied → D → Type 0
    IsGivenTo replies new = AreGiven gives start (run replies) replies new

    cut_of : (replies : List Replied) (new : D) → IsGivenTo replies new → (front : List Replied) (r : Replied) (rest : List Replied) → replies ≡ front ++ r ∷ rest → Wants gives start (run front) front r
    cut_of replies new g front r rest e = (cut gives start new run is front r rest (subst (λ l. IsGivenTo l new) e g)).0

    once_so : (a b : List Replied) (new new' : D) → IsGivenTo a new → IsGivenTo b new' → Stand a b → a ≡ b
    once_so a b new new' g h (Same e) = e
    once_so a b new new' g h (Shorter r rest e) = absurd (wants_none start (run a) a a new r g (cut_of b new' h a r rest e))
    once_so a b new new' g h (Longer r rest e) = absurd (wants_none start (run b) b b new' r h (cut_of a new g b r rest e))

    -- one list of replies alone is given to it
    pub once : (a b : List Replied) (new new' : D) → IsGivenTo a new → IsGivenTo b new' → a ≡ b
    once a b new new' g h =
        once_so a b new new' g h
        (stand a b (λ front r r' rest rest' e f. wants_one start (run front) front front r r' (cut_of a new g front r rest e) (cut_of b new' h front r' rest' f)) [] a b refl refl)
