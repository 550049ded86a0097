-- What a run over a script puts, by how it was driven.
use Rattle.std.proofs.Common.{◌≡◌, ℕ, ◌+◌, ◌-◌, ◌≤◌, sym, ap, ◌∙◌, subst, List, [], ◌∷◌, ◌++◌, append_assoc, refl, None, arith}
use Rattle.std.proofs.lemmas.List.{append-nil}
use Rattle.std.proofs.lemmas.List.Concat.{flat_map-append}
use Rattle.pan_base.specs.Events.{Asked, Replied, Event, Behaviour, before}
use Rattle.pan_base.specs.Sinks.{SinkState, Took, TookFront}
use Rattle.pan_base.specs.Trace.{event_line, trace_text, end_line}
use Rattle.pan_base.specs.declared.events.End.{End}
use Rattle.pan_port.specs.Asker.{Meaning}
use Rattle.pan_port.specs.Device.{Gave}
use Rattle.pan_port.specs.Drive.{replies_of, after, Answered, AreGiven, Drove, Unwritten, Hungry}
use Rattle.device_script.specs.Device.{DeviceState, Steps}
use Rattle.device_script.specs.Script.{Content}
use Rattle.device_script.specs.Runs.{device}
use Rattle.pan_command.specs.Playing.{Plays, text_of, Played, Broken}

-- what is known of sinks: texts are put one after another, and a front of a text after others
pub record SinksGoOn : Type 0 where
  pub more : (a b c : SinkState) (first second : List ℕ) → Took a b first → Took b c second → Took a c (first ++ second)
  pub front : (a b c : SinkState) (first second rest all : List ℕ) → Took a b first → TookFront b c second → all ≡ first ++ (second ++ rest) → TookFront a c all

-- ---- events

replies_of-more : (events : List Event) (e : Event) → replies_of (events ++ e ∷ []) ≡ replies_of events ++ e.reply ∷ []
replies_of-more [] e = refl
replies_of-more (f ∷ events) e = ap (λ rest. f.reply ∷ rest) (replies_of-more events e)

answered_more : (events : List Event) (old mid new : DeviceState) (q : Asked) (r : Replied) → Answered Steps old events mid → Steps mid q (Gave r) new
    → Answered Steps old (events ++ record { request = q; reply = r } ∷ []) new
answered_more [] old mid new q r all given = (new, subst (λ s. Steps s q (Gave r) new) all given, refl)
answered_more (e ∷ events) old mid new q r all given = (all.0, all.1, answered_more events all.0 mid new q r all.2 given)

-- ---- the run came to an end

module _ (sinks : SinksGoOn) (a a' : Meaning) (script : Content) (d d' : DeviceState) (was now : SinkState) (steps : ℕ) (end : End) (is : d ≡ device script) (fresh : a.ended ≡ None)
    (ran : Drove Steps (λ s. s.stops) (λ s. s.silences) a a' d d' was now steps end) where
  plays : Plays a.go script steps (a.go ran.replies steps)
  plays = record {
    replies = ran.replies;
    does = refl;
    given = (d', subst (λ s. AreGiven Steps s (a.go ran.replies steps) ran.replies d') is (ran.given fresh));
  }

  -- the text is the lines of the trace, and the line of the end
  text_is : text_of (a.go ran.replies steps) ≡ trace_text (a.go ran.replies steps).events ++ end_line end
  text_is = ap (λ e. trace_text (a.go ran.replies steps).events ++ end_line e) ran.ends

  pub played : (new : SinkState) → Took now new (end_line end) → Played (Took was new) a.go script steps end
  played new line = record {
    run = a.go ran.replies steps;
    plays = plays;
    ends = ran.ends;
    text = subst (Took was new) (sym text_is) (sinks.more was now new _ _ ran.took line);
  }

  pub played_in_part : (new : SinkState) → TookFront now new (end_line end) → Played (TookFront was new) a.go script steps end
  played_in_part new line = record {
    run = a.go ran.replies steps;
    plays = plays;
    ends = ran.ends;
    text = sinks.front was now new _ (end_line end) [] _ ran.took line (text_is ∙ ap (λ t. trace_text (a.go ran.replies steps).events ++ t) (sym (append-nil (end_line end))));
  }

-- ---- the run was broken off

module _ (sinks : SinksGoOn) (a a' : Meaning) (script : Content) (d d' : DeviceState) (was now : SinkState) (steps : ℕ) (is : d ≡ device script) where
  -- the sink failed at the line of an event
  pub broken_at_line : Unwritten Steps a a' d d' was now steps → Broken (TookFront was now) a.go script steps
  broken_at_line u =
      let e : Event = record { request = u.request; reply = u.reply } in
      let events : List Event = u.events ++ e ∷ [] in
      let within : u.used ≤ steps = u.within in
      let split : steps ≡ u.used + (steps - u.used) = omega (arith, within) in
      let on = (u.asking).event u.reply [] (steps - u.used) u.fits in
      let goes : a.go (replies_of events) steps ≡ after u.events (before u.request u.reply on.0) =
      ap (λ k. a.go (replies_of events) k) split ∙ ap (λ rs. a.go rs (u.used + (steps - u.used))) (replies_of-more u.events e)
      ∙ (u.did).goes (u.reply ∷ []) (steps - u.used) ∙ ap (after u.events) on.1 in
      let first : (a.go (replies_of events) steps).events ≡ events ++ (on.0).events =
      ap (λ (b : Behaviour). b.events) goes ∙ sym (append_assoc u.events (e ∷ []) (on.0).events) in
      let text : trace_text events ≡ trace_text u.events ++ (event_line u.request u.reply ++ []) =
      flat_map-append (λ (e : Event). event_line e.request e.reply) u.events (e ∷ []) in
      record {
        events = events;
        begins = record {
          last = d';
          given = subst (λ s. Answered Steps s events d') is (answered_more u.events d u.mid d' u.request u.reply (u.did).answered u.given);
          first = record { rest = (on.0).events; all = first };
        };
        text = sinks.front was u.put now (trace_text u.events) (event_line u.request u.reply) [] (trace_text events) (u.did).took u.front text;
      }

  -- the asker found no memory
  pub broken_hungry : Hungry Steps a a' d d' was now steps → Broken (Took was now) a.go script steps
  broken_hungry h =
      let within : h.used ≤ steps = h.within in
      let split : steps ≡ h.used + (steps - h.used) = omega (arith, within) in
      let goes : a.go (replies_of h.events) steps ≡ after h.events ((h.mid).go [] (steps - h.used)) =
      ap (λ k. a.go (replies_of h.events) k) split ∙ ap (λ rs. a.go rs (h.used + (steps - h.used))) (sym (append-nil (replies_of h.events)))
      ∙ (h.did).goes [] (steps - h.used) in
      record {
        events = h.events;
        begins = record {
          last = d';
          given = subst (λ s. Answered Steps s h.events d') is (h.did).answered;
          first = record { rest = ((h.mid).go [] (steps - h.used)).events; all = ap (λ (b : Behaviour). b.events) goes };
        };
        text = (h.did).took;
      }
