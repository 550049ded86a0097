-- A run so far, and how it goes on and ends.
use Rattle.std.proofs.Common.{◌≡◌, ℕ, ◌+◌, ◌-◌, ◌≤◌, List, [], ◌∷◌, ◌++◌, length, Option, Some, None, refl, sym, ap, ◌∙◌, subst, arith, false, append_assoc, length-append, zero-add, inl, inr}
use Rattle.std.specs.Prelude.{IsSome, ◌⊎◌}
use Rattle.std.proofs.lemmas.List.{append-nil}
use Rattle.std.proofs.lemmas.List.Concat.{flat_map-append}
use Rattle.std.proofs.lemmas.Bool.{false≢true}
use Rattle.pan_base.specs.declared.events.End.{End}
use Rattle.pan_base.specs.declared.events.End.TheVariants as told_end
use Rattle.pan_base.specs.Causes.{Rose}
use Rattle.pan_base.specs.Events.{Asked, Replied, Event, Ending, Exit, Uncaught, Stopped, Asks, Spent, Stack, Fault, Fails, Behaviour, only, before, end_of}
use Rattle.pan_base.specs.Sinks.{SinkState, feeds}
use Rattle.pan_base.specs.Trace.{trace_text, event_line}
use Rattle.pan_base.proofs.TookLemmas.{Took-none, Took-more, TookFront-on}
use Rattle.pan_port.specs.declared.asker.Advance.{Advance}
use Rattle.pan_port.specs.Asker.{Meaning, Advances, IsAsking, IsOver, HasEnded, Starves}
use Rattle.pan_port.specs.Device.{Gives, Gave}
use Rattle.pan_port.specs.Drive.{Answered, replies_of, after, Closes, Drove, Did, Unwritten, Hungry, Gained, GaveUp, WasSilent, Unwrote, StoppedBy}
use Rattle.pan_port.proofs.LineFeeds.{feeds-append, line_feed}

-- what was done so far, from the asker a and the device d to a' and d', with so many steps left of the budget
pub record SoFar {D : Type 0} (gives : Gives D) (a a' : Meaning) (d d' : D) (was now : SinkState) (budget left : ℕ) : Type 0 where
  pub events : List Event
  pub used : ℕ
  pub steps : used + left ≡ budget
  pub did : Did gives a a' d d' was now used events
  pub feeds : feeds (trace_text events) ≡ length events
  pub same : a'.ended ≡ a.ended
  pub fed : a'.starved ≡ a.starved
  pub idle : IsSome a.ended → (events ≡ []) × (d' ≡ d)

no_some : (o : Option Ending) → o ≡ None → IsSome o → ⊥
no_some o e some = false≢true (subst (λ o. IsSome o) e some)

after-push : (events : List Event) (e : Event) (rest : Behaviour) → after events (before e.request e.reply rest) ≡ after (events ++ e ∷ []) rest
after-push events e rest = ap (λ all. record { events = all; ending = rest.ending }) (sym (append_assoc events (e ∷ []) rest.events))

replies-push : (events : List Event) (e : Event) (rest : List Replied) → replies_of (events ++ e ∷ []) ++ rest ≡ replies_of events ++ (e.reply ∷ rest)
replies-push [] e rest = refl
replies-push (f ∷ events) e rest = ap (λ t. f.reply ∷ t) (replies-push events e rest)

text-push : (events : List Event) (e : Event) → trace_text (events ++ e ∷ []) ≡ trace_text events ++ event_line e.request e.reply
text-push events e = flat_map-append (λ e. event_line e.request e.reply) events (e ∷ []) ∙ ap (λ t. trace_text events ++ t) (append-nil (event_line e.request e.reply))

text-front : (events more : List Event) → trace_text (events ++ more) ≡ trace_text events ++ trace_text more
text-front events more = flat_map-append (λ e. event_line e.request e.reply) events more

module _ {D : Type 0} (gives : Gives D) where
  Answered-push : (d mid new : D) (events : List Event) (e : Event) → Answered gives d events mid → gives mid e.request (Gave e.reply) new → Answered gives d (events ++ e ∷ []) new
  Answered-push d mid new [] e h g = (new, subst (λ m. gives m e.request (Gave e.reply) new) h g, refl)
  Answered-push d mid new (f ∷ events) e h g = (h.0, h.1, Answered-push h.0 mid new events e h.2 g)

  -- nothing is done yet
  pub nothing : (a : Meaning) (d : D) (was : SinkState) (budget : ℕ) → SoFar gives a a d d was was budget budget
  nothing a d was budget = record {
    events = [];
    used = 0;
    steps = omega arith;
    did = record { goes = λ replies k. rw zero-add refl; answered = refl; took = Took-none was };
    feeds = refl;
    same = refl;
    fed = refl;
    idle = λ _. (refl, refl);
  }

  -- there was no memory
  pub hungry : (a a' a'' : Meaning) (d d' : D) (was now : SinkState) (budget left : ℕ) → a'.frugal ≡ a.frugal → SoFar gives a a' d d' was now budget left → Starves a' a'' → Hungry gives a a'' d d' was now budget
  hungry a a' a'' d d' was now budget left frugal s starves = record {
    events = s.events;
    used = s.used;
    within = omega (arith, s.steps);
    mid = a';
    did = s.did;
    prefix =
        let run = ap (λ r. a.go r budget) (sym (append-nil (replies_of s.events))) ∙ ap (a.go (replies_of s.events ++ [])) (sym s.steps) ∙ s.did.goes [] left in
        TookFront-on was now now (trace_text s.events) [] (trace_text (a'.go [] left).events) _ s.did.took record { count = 0; within = omega arith; took = Took-none now } (ap (λ o. trace_text o.events) run ∙ text-front s.events (a'.go [] left).events);
    starves = starves;
    wants = sym frugal ∙ starves.wants;
  }

  module _ (a a' a'' : Meaning) (d d' : D) (was now : SinkState) (budget left : ℕ) (step : Advance) (s : SoFar gives a a' d d' was now budget left) (m : Advances a' a'' left step) where
    spent_steps : s.used + step.used + (left - step.used) ≡ budget
    spent_steps = omega (arith, m.within, s.steps)

    was_fed : a.starved ≡ false
    was_fed = sym s.fed ∙ m.fed.0

    -- after an advance
    moved : Did gives a a'' d d' was now (s.used + step.used) s.events
    moved = record {
      goes = λ replies k.
          let sum : s.used + step.used + k ≡ s.used + (step.used + k) = omega arith in
          rw sum (s.did.goes replies (step.used + k) ∙ ap (after s.events) (m.goes replies k));
      answered = s.did.answered;
      took = s.did.took;
    }

    -- after a request that was served
    pub goes_on : (a''' : Meaning) (d'' : D) (now' : SinkState) (q : Asked) → a'.ended ≡ None → Gained gives a'' a''' d' d'' now now' q → SoFar gives a a''' d d'' was now' budget (left - step.used)
    goes_on a''' d'' now' q running gained =
        let e : Event = record { request = q; reply = gained.reply } in
        record {
          events = s.events ++ e ∷ [];
          used = s.used + step.used;
          steps = spent_steps;
          did = record {
            goes = λ replies k. ap (λ r. a.go r (s.used + step.used + k)) (replies-push s.events e replies) ∙ moved.goes (gained.reply ∷ replies) k ∙ ap (after s.events) (gained.takes.goes replies k) ∙ after-push s.events e (a'''.go replies k);
            answered = Answered-push d d' d'' s.events e s.did.answered gained.given;
            took = rw (text-push s.events e) (Took-more was now now' (trace_text s.events) (event_line q gained.reply) s.did.took gained.took);
          };
          feeds = rw (text-push s.events e, feeds-append (trace_text s.events) (event_line q gained.reply), line_feed q gained.reply gained.fits gained.one_line, length-append s.events (e ∷ []), s.feeds) refl;
          same = gained.takes.runs.1 ∙ sym running ∙ s.same;
          fed = gained.fed ∙ m.fed.1 ∙ sym was_fed;
          idle = λ some. absurd (no_some a.ended (sym s.same ∙ running) some);
        }

    -- a line could not be put
    pub unwritten : (b : Meaning) (d'' : D) (now' : SinkState) (q : Asked) → IsAsking a'' q → was.faults ≤ now.faults → Unwrote gives a'' b d' d'' now now' q → Unwritten gives a b d d'' was now' budget
    unwritten b d'' now' q asking later u = record {
      events = s.events;
      used = s.used + step.used;
      within = omega (arith, spent_steps);
      mid = d';
      put = now;
      did = rw u.same moved;
      request = q;
      asking = rw u.same asking;
      reply = u.reply;
      fits = u.fits;
      given = u.given;
      front = u.front;
      prefix =
          let next = asking.event u.reply [] (left - step.used) u.fits in
          let e : Event = record { request = q; reply = u.reply } in
          let run = ap (a.go (replies_of s.events ++ u.reply ∷ [])) (sym spent_steps) ∙ moved.goes (u.reply ∷ []) (left - step.used) ∙ ap (after s.events) next.1 in
          TookFront-on was now now' (trace_text s.events) (event_line q u.reply) (trace_text next.0.events) _ s.did.took u.front (ap (λ o. trace_text o.events) run ∙ text-front s.events (e ∷ next.0.events));
      fault = omega (arith, u.fault, later);
      fed = (was_fed, rw u.same m.fed.1);
    }

    -- the run, where no reply comes, or one more
    module _ (stops silences : D → ℕ) (b : Meaning) (new : D) (last : List Replied) (x : Ending) (end : End) (next : (more : List Replied) (k : ℕ) → a''.go (last ++ more) k ≡ b.go more k) (ends_so : b.go [] (left - step.used) ≡ only x) (is : end_of x ≡ end) (b_fed : b.starved ≡ false) where
      abbrev all_replies : List Replied
      all_replies = replies_of s.events ++ last

      resumes : (more : List Replied) (k : ℕ) → a.go (all_replies ++ more) (s.used + step.used + k) ≡ after s.events (b.go more k)
      resumes more k = rw (append_assoc (replies_of s.events) last more) (moved.goes (last ++ more) k ∙ ap (after s.events) (next more k))

      run : a.go all_replies budget ≡ after s.events (only x)
      run = ap (λ r. a.go r budget) (sym (append-nil all_replies)) ∙ ap (a.go (all_replies ++ [])) (sym spent_steps) ∙ resumes [] (left - step.used) ∙ ap (after s.events) ends_so

      run-events : (a.go all_replies budget).events ≡ s.events
      run-events = ap (λ o. o.events) run ∙ append-nil s.events

      run-ending : (a.go all_replies budget).ending ≡ x
      run-ending = ap (λ o. o.ending) run

      finish : (a.ended ≡ None → Closes gives d' x last new) → (IsSome a.ended → (last ≡ []) × (new ≡ d')) → (end ≡ told_end.Asks → Rose (silences d) (silences new)) → (end ≡ told_end.Stopped → ((q : Asked) × (a.ended ≡ Some (Stopped q))) ⊎ StoppedBy (stops d) (stops new) x all_replies) → Drove gives stops silences a b d new was now budget end
      finish closes idle asks stopped = record {
        replies = all_replies;
        took = rw run-events s.did.took;
        ends = ap end_of run-ending ∙ is;
        lines = rw (run-events, ← s.feeds) s.did.took.lines;
        given = λ none. record {
          mid = d';
          last = last;
          answered = rw run-events s.did.answered;
          closes = rw run-ending (closes none);
          all = rw run-events refl;
        };
        idle = λ some. let i = s.idle some in let j = idle some in (rw (i.0, j.0) refl, j.1 ∙ i.1);
        asks = asks;
        stopped = λ e. rw run-ending (stopped e);
        fed = (was_fed, b_fed);
        used = s.used + step.used;
        within = omega (arith, spent_steps);
        resumes = λ more k. rw run-events (resumes more k);
      }

    -- the steps are used up
    pub spent : (stops silences : D → ℕ) → step.used ≡ left → ((replies : List Replied) → a''.go replies 0 ≡ only Spent) → Drove gives stops silences a a'' d d' was now budget told_end.Spent
    spent stops silences used law =
        let none : left - step.used ≡ 0 = omega (arith, used) in
        finish stops silences a'' d' [] Spent told_end.Spent (λ more k. refl) (ap (a''.go []) none ∙ law []) refl m.fed.1 (λ _. (refl, refl)) (λ _. (refl, refl)) (λ e. absurd (cc)) (λ e. absurd (cc))

    closes_over : (x : Ending) → IsOver x → ((q : Asked) → x ≡ Stopped q → ⊥) → Closes gives d' x [] d'
    closes_over (Exit n) over not = (refl, refl)
    closes_over (Uncaught n) over not = (refl, refl)
    closes_over (Stopped q) over not = absurd (not q refl)
    closes_over Stack over not = (refl, refl)
    closes_over Fault over not = (refl, refl)
    closes_over Fails over not = (refl, refl)
    closes_over (Asks q) over not = absurd over
    closes_over Spent over not = absurd over

    open_request : (x : Ending) (end : End) → end_of x ≡ end → end ≡ told_end.Stopped → (q : Asked) × (x ≡ Stopped q)
    open_request (Stopped q) end is e = (q, refl)
    open_request (Exit n) end is e = absurd (cc)
    open_request (Uncaught n) end is e = absurd (cc)
    open_request Stack end is e = absurd (cc)
    open_request Fault end is e = absurd (cc)
    open_request Fails end is e = absurd (cc)
    open_request (Asks q) end is e = absurd (cc)
    open_request Spent end is e = absurd (cc)

    not_asks : (x : Ending) (end : End) → end_of x ≡ end → IsOver x → end ≡ told_end.Asks → ⊥
    not_asks (Asks q) end is over e = over
    not_asks (Stopped q) end is over e = cc
    not_asks (Exit n) end is over e = cc
    not_asks (Uncaught n) end is over e = cc
    not_asks Stack end is over e = cc
    not_asks Fault end is over e = cc
    not_asks Fails end is over e = cc
    not_asks Spent end is over e = cc

    -- it has ended
    pub over : (stops silences : D → ℕ) (x : Ending) (end : End) → HasEnded a'' x → end_of x ≡ end → ((q : Asked) → x ≡ Stopped q → a'.ended ≡ Some x) → Drove gives stops silences a a'' d d' was now budget end
    over stops silences x end h is before_it =
        finish stops silences a'' d' [] x end (λ more k. refl) (h.goes [] (left - step.used)) is m.fed.1
        (λ none. closes_over x h.over (λ q e. let f = before_it q e in let g = sym s.same ∙ f in let h = sym none ∙ g in cc))
        (λ _. (refl, refl))
        (λ e. absurd (not_asks x end is h.over e))
        (λ e. let p = open_request x end is e in inl (p.0, sym s.same ∙ before_it p.0 p.1 ∙ ap Some p.1))

    -- the device stopped it
    pub gave_up : (stops silences : D → ℕ) (b : Meaning) (d'' : D) (now' : SinkState) (q : Asked) → a'.ended ≡ None → stops d ≤ stops d' → GaveUp gives stops a'' b d' d'' now now' q → Drove gives stops silences a b d d'' was now' budget told_end.Stopped
    gave_up stops silences b d'' now' q running later g =
        rw g.put (finish stops silences b d'' (g.reply ∷ []) (Stopped q) told_end.Stopped (λ more k. g.ends.goes more k ∙ sym (g.ends.over.goes more k)) (g.ends.over.goes [] (left - step.used)) refl (g.fed ∙ m.fed.1)
        (λ _. (g.reply, refl, g.unfit, g.given))
        (λ some. absurd (no_some a.ended (sym s.same ∙ running) some))
        (λ e. absurd (cc))
        (λ _. inr record { request = q; open_request = refl; front = replies_of s.events; last = g.reply; all = refl; unfit = g.unfit; counted = λ e. omega (arith, g.stop e) }))

    -- the device is silent
    pub silent : (stops silences : D → ℕ) (b : Meaning) (d'' : D) (now' : SinkState) (q : Asked) → IsAsking a'' q → a'.ended ≡ None → silences d ≤ silences d' → WasSilent gives silences a'' b d' d'' now now' q → Drove gives stops silences a b d d'' was now' budget told_end.Asks
    silent stops silences b d'' now' q asking running later w =
        rw (w.put, w.same) (finish stops silences a'' d'' [] (Asks q) told_end.Asks (λ more k. refl) (asking.silent (left - step.used)) refl m.fed.1
        (λ _. (refl, w.given))
        (λ some. absurd (no_some a.ended (sym s.same ∙ running) some))
        (λ _. omega (arith, w.silence))
        (λ e. absurd (cc)))
