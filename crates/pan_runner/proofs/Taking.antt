-- A runner that waits takes an answer.
use Rattle.std.proofs.Common.{◌≡◌, ℕ, refl, sym, ap, ◌∙◌, subst, List, length, Some, Bool, true, false}
use Rattle.std.specs.Prelude.{IsTrue}
use Rattle.pan_base.specs.Events.{Asked, Replied, Fits, fits, Stopped}
use Rattle.pan_port.specs.Asker.{Meaning, Answers, Takes, Ends}
use Rattle.source_resolver.specs.Slots.{Variables}
use Rattle.source_resolver.specs.declared.resolved.Program.{Program}
use Rattle.pan_runner.specs.declared.phase.Phase.TheVariants as phase
use Rattle.pan_runner.specs.declared.questions.Question.{Question}
use Rattle.pan_runner.specs.declared.runner.Runner.{Runner}
use Rattle.pan_runner.specs.Machine.{Frame, Leave, Next, Pending, Runs, Waits, Over, request_of, variables_after, memory_after, where_fits, replied_config}
use Rattle.pan_runner.specs.View.{config_in, pending_of, pending_in}
use Rattle.pan_runner.specs.Runner.{names_of, names_in, variables_of, frames_of, config_of, meaning_in, meaning_of, Keeps}
use Rattle.pan_runner.proofs.Reaching.{answer_ahead}
use Rattle.pan_runner.proofs.Advancing.{takes_goes, stops_goes, over_in}

false_of : (b : Bool) → ¬ IsTrue b → b ≡ false
false_of true h = absurd (h refl)
false_of false h = refl

module _ (names : List (List ℕ)) (p : Program) (q : Pending) (u : Variables) (ks : List Frame) (m : List ℕ) (size : ℕ) (starved : Bool) where
  abbrev waiting : Meaning
  waiting = meaning_in names p (Waits q u ks m) size starved

  -- by whether the reply fits
  abbrev after : Bool → Replied → Meaning
  after b r = meaning_in names p (where_fits b (Runs (Leave (Next (variables_after q r u))) ks (memory_after q r m)) (Over (Stopped (request_of q)))) size starved

  takes : (r : Replied) → fits (request_of q) r ≡ true → Takes waiting (after true r) (request_of q) r
  takes r e = record {
    goes = λ rs k. takes_goes names p q u ks m r rs k e;
    bound = λ k. answer_ahead p q u (variables_after q r u) ks m (memory_after q r m) k;
    runs = (refl, refl);
  }

  ends : (r : Replied) → fits (request_of q) r ≡ false → Ends waiting (after false r) (request_of q) r
  ends r e = record {
    goes = λ rs k. stops_goes names p q u ks m r rs k e;
    over = over_in names p (Stopped (request_of q)) size starved tt;
  }

  same_request : (asked : Asked) → pending_in (Waits q u ks m) ≡ Some asked → request_of q ≡ asked
  same_request asked e = cc

  takes_fit : (r : Replied) → Fits (request_of q) r → Takes waiting (after (fits (request_of q) r) r) (request_of q) r
  takes_fit r fit = subst (λ b. Takes waiting (after b r) (request_of q) r) (sym fit) (takes r fit)

  ends_unfit : (r : Replied) → ¬ Fits (request_of q) r → Ends waiting (after (fits (request_of q) r) r) (request_of q) r
  ends_unfit r unfit = let e = false_of (fits (request_of q) r) unfit in subst (λ b. Ends waiting (after b r) (request_of q) r) (sym e) (ends r e)

  answers : (r : Replied) → Answers waiting (meaning_in names p (replied_config q u ks m r) size starved) r
  answers r = record {
    fits = λ asked e fit.
        let same = same_request asked e in
        subst (λ a. Takes waiting (after (fits (request_of q) r) r) a r) same (takes_fit r (subst (λ a. Fits a r) (sym same) fit));
    unfit = λ asked e unfit.
        let same = same_request asked e in
        subst (λ a. Ends waiting (after (fits (request_of q) r) r) a r) same (ends_unfit r (λ fit. unfit (subst (λ a. Fits a r) same fit)));
    size = refl;
    frugal = refl;
    starved = refl;
  }

-- what a runner that was kept means in a configuration
kept_meaning : (old new : Runner) → Keeps old new → meaning_of new ≡ meaning_in (names_of old) old.program (config_of new) (length old.memory) old.starved
kept_meaning old new keeps =
    ap (λ (ch : _). meaning_in (names_in ch.now) new.program (config_of new) (length new.memory) new.starved) keeps.checked
    ∙ ap (λ p. meaning_in (names_of old) p (config_of new) (length new.memory) new.starved) keeps.program
    ∙ ap (λ n. meaning_in (names_of old) old.program (config_of new) n new.starved) keeps.size
    ∙ ap (λ b. meaning_in (names_of old) old.program (config_of new) (length old.memory) b) keeps.starved

-- a runner that waits answers
pub runner_answers : (old new : Runner) (question : Question) (r : Replied) → old.phase ≡ phase.Asks question → Keeps old new
    → config_of new ≡ replied_config (pending_of question old.memory) (variables_of old) (frames_of old) old.memory r → Answers (meaning_of old) (meaning_of new) r
runner_answers old new question r waits keeps after =
    let q = pending_of question old.memory in
    let u = variables_of old in
    let ks = frames_of old in
    let size = length old.memory in
    let waiting = meaning_in (names_of old) old.program (Waits q u ks old.memory) size old.starved in
    let f = answers (names_of old) old.program q u ks old.memory size old.starved r in
    let g = subst (λ c. Answers waiting (meaning_in (names_of old) old.program c size old.starved) r) (sym after) f in
    let h = subst (λ n. Answers waiting n r) (sym (kept_meaning old new keeps)) g in
    subst (λ ph. Answers (meaning_in (names_of old) old.program (config_in ph u ks old.memory) size old.starved) (meaning_of new) r) (sym waits) h
