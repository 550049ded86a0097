-- A program without the operations whose variable nothing uses stands in Keeps to the program, and is well formed.
use Rattle.std.proofs.Common.{◌≡◌, ◌≢◌, ℕ, zero, suc, ◌+◌, ◌*◌, ◌≤◌, Bool, true, false, List, [], ◌∷◌, map, length, Option, Some, None, arith, refl, sym, ap, subst, ◌∙◌}
use Rattle.std.specs.Prelude.{◌==◌, ◌&&◌, ◌↔◌, slice_get, slice_index_or, option_map}
use Rattle.std.specs.List.{list_all}
use Rattle.std.proofs.lemmas.List.Elements.{All-map}
use Rattle.std.proofs.lemmas.Option.{slice_get-map}
use Rattle.pan_base.specs.Events.{Replied, Spent, Fails}
use Rattle.pan_control.specs.World.{entered}
use Rattle.pan_control.specs.Control.{with_value}
use Rattle.pan_control.specs.Runs.{nested}
use Rattle.pan_flow.specs.Flow.{Flow, Live, ways, behind, has}
use Rattle.pan_flow.specs.Functions.{variables, IsWritten}
use Rattle.pan_flow.specs.Live.{live_before}
use Rattle.pan_flow.proofs.Exact.{exact}
use Rattle.pan_stage.specs.Data.{World, Callee, start}
use Rattle.pan_stage.specs.Locals.{no_locals, write_all}
use Rattle.pan_stage.specs.Mentions.{is_some_and, is_right, scope_of}
use Rattle.pan_stage.specs.Room.{HasRoom}
use Rattle.pan_stage.specs.Stage.{Face, AtMost, NeedsNoMore, IsSeenAs, Keeps}
use Rattle.pan_stage.specs.Sums.{sum_of}
use Rattle.pan_stage.specs.Toll.{stepped, passing_steps}
use Rattle.pan_stage.specs.WellFormed.{IsArity, AreCounts, AreRight}
use Rattle.pan_stage.specs.declared.program.Program.{Program}
use Rattle.pan_stage.proofs.Chain.{room_kept}
use Rattle.pan_stage.proofs.Follows.{Nothing, Same, over, same_as, with_same, left_same}
use Rattle.pan_stage.proofs.Paid.{Within, same_globals, no_cuts, left_paid}
use Rattle.pan_stage.proofs.Words.{done, Equal, EqualOf, seen_left}
use Rattle.word_lang.specs.Meaning.{enter, meaning}
use Rattle.word_lang.specs.Needs.{frame_need, function_code, needs}
use Rattle.word_lang.specs.Stage.{stage}
use Rattle.word_lang.specs.Text.{sites, mentions, arity, flow_of_function}
use Rattle.word_lang.specs.WellFormed.{IsWellFormed}
use Rattle.word_lang.specs.declared.syntax.WordFun.{WordFun}
use Rattle.word_select.specs.Pruned.{used, pruned, pruned_function, pruned_program}
use Rattle.word_select.proofs.Above.{different_within}
use Rattle.word_select.proofs.FewerWays.{Fewer, fewer_writes, fewer_then}
use Rattle.word_select.proofs.PrunedRuns.{R, seq_row, statement_means}
use Rattle.word_select.proofs.PrunedTexts.{Less, less_seq, statement_less}
use Rattle.word_select.proofs.Texts.{word_text}

-- what a function uses
abbrev is_used : WordFun → ℕ → Bool
is_used f = has (used f.body)

-- what is the same of each function is the same of all
map_kept : {A : Type 0} (of : WordFun → A) → ((f : WordFun) → of (pruned_function f) ≡ of f) → (fs : List WordFun) → map of (map pruned_function fs) ≡ map of fs
map_kept of h [] = refl
map_kept of h (f ∷ fs) = ap (λ a. a ∷ map of (map pruned_function fs)) (h f) ∙ ap (λ as1. of f ∷ as1) (map_kept of h fs)

-- ---- one function

body_less : (f : WordFun) → Less (is_used f) (word_text f.body) (word_text (pruned_function f).body)
body_less f = less_seq (is_used f) (word_text f.body) (pruned (is_used f) f.body) (statement_less (is_used f) f.body (λ z h. h))

function_flow : (f : WordFun) → Fewer (is_used f) (flow_of_function (pruned_function f)) (flow_of_function f)
function_flow f = fewer_then (is_used f) _ _ _ _ (fewer_writes (is_used f) f.params) (body_less f).flows

written_kept : (f : WordFun) → IsWritten (flow_of_function f) → IsWritten (flow_of_function (pruned_function f))
written_kept f h = record { none = λ x l. h.none x ((exits_exact x (flow_of_function f)).0 ((function_flow f).live x (λ e. false) (λ e. false) (λ e m. absurd (cc m)) ((exits_exact x (flow_of_function (pruned_function f))).1 l)).0) }
  where
    exits_exact : (x : ℕ) (g : Flow) → (live_before x g (λ e. false) ≡ true) ↔ Live (ways g behind) x
    exits_exact x g = exact x g (λ e. false) behind (λ e. (λ h. cc, λ l. absurd l.1))

frame_kept : (f : WordFun) → frame_need (pruned_function f) ≤ frame_need f
frame_kept f = let l = different_within (variables (flow_of_function (pruned_function f))) (variables (flow_of_function f)) (function_flow f).touched in omega (arith, l)

code_kept : (f : WordFun) → function_code (pruned_function f) ≤ function_code f
code_kept f = let l = (body_less f).no_longer in omega (arith, l)

-- ---- all functions

frames_kept : (fs : List WordFun) → AtMost (map frame_need (map pruned_function fs)) (map frame_need fs)
frames_kept [] = tt
frames_kept (f ∷ fs) = (frame_kept f, frames_kept fs)

codes_kept : (fs : List WordFun) → sum_of (map function_code (map pruned_function fs)) ≤ sum_of (map function_code fs)
codes_kept [] = omega arith
codes_kept (f ∷ fs) = let a = code_kept f in let b = codes_kept fs in omega (arith, a, b)

needs_kept : (p : Program WordFun) → NeedsNoMore (needs p) (needs (pruned_program p))
needs_kept p = record { frames = frames_kept p.functions; code = let l = codes_kept p.functions in omega (arith, l) }

costs_kept : (p : Program WordFun) → map (λ (f : WordFun). f.cost) (map pruned_function p.functions) ≡ map (λ (f : WordFun). f.cost) p.functions
costs_kept p = map_kept (λ (f : WordFun). f.cost) (λ f. refl) p.functions

scope_kept : (p : Program WordFun) → scope_of arity (pruned_program p) ≡ scope_of arity p
scope_kept p = ap (λ as1. record { arities = as1; widths = p.exceptions; names = length p.names }) (map_kept arity (λ f. refl) p.functions)

counts_kept : (p : Program WordFun) → AreCounts arity p → AreCounts arity (pruned_program p)
counts_kept p c = record {
  numbers = record { exceptions = (c.numbers).exceptions; names = (c.numbers).names; globals = (c.numbers).globals; words = (c.numbers).words };
  main = ap (is_some_and (λ (f : WordFun). (arity f).parameters == 0 && (arity f).results == 1)) (slice_get-map pruned_function p.functions p.main) ∙ by (slice_get p.functions p.main) c.main;
  arities = All-map (λ f. IsArity (arity f)) pruned_function p.functions c.arities;
  widths = c.widths;
}
  where
    by : (o : Option WordFun) → is_some_and (λ (f : WordFun). (arity f).parameters == 0 && (arity f).results == 1) o ≡ true → is_some_and (λ (f : WordFun). (arity f).parameters == 0 && (arity f).results == 1) (option_map pruned_function o) ≡ true
    by None h = h
    by (Some f) h = h

right_kept : (p : Program WordFun) → AreRight arity (λ (f : WordFun). mentions f.body) p → AreRight arity (λ (f : WordFun). mentions f.body) (pruned_program p)
right_kept p h = All-map (λ f. list_all (is_right (scope_of arity (pruned_program p)) (arity f).results) (mentions f.body) ≡ true) pruned_function p.functions (λ k d l. of_function (slice_index_or p.functions k d) (h k d l))
  where
    of_function : (f : WordFun) → list_all (is_right (scope_of arity p) f.results) (mentions f.body) ≡ true → list_all (is_right (scope_of arity (pruned_program p)) f.results) (mentions (pruned_function f).body) ≡ true
    of_function f r = ap (λ scope. list_all (is_right scope f.results) (mentions (pruned_function f).body)) (scope_kept p) ∙ (body_less f).right (scope_of arity p) f.results r

pub pruned_well_formed : (p : Program WordFun) → IsWellFormed p → IsWellFormed (pruned_program p)
pruned_well_formed p h = record {
  counts = counts_kept p h.counts;
  right = right_kept p h.right;
  written = All-map (λ f. IsWritten (flow_of_function f)) pruned_function p.functions (λ k d l. written_kept (slice_index_or p.functions k d) (h.written k d l));
  room = subst (λ costs. HasRoom costs (needs (pruned_program p))) (sym (costs_kept p)) (room_kept (map (λ (f : WordFun). f.cost) p.functions) (needs p) (needs (pruned_program p)) (needs_kept p) h.room);
}

-- ---- runs

module _ (p : Program WordFun) where
  -- what a call does, where calls do so
  abbrev calls_of : Program WordFun → ℕ → Callee (List ℕ) (List ℕ) → Callee (List ℕ) (List ℕ)
  calls_of p d callee f ns w = with_value (slice_get p.functions f) w (λ g. enter p d callee g ns w)

  abbrev Calls : Callee (List ℕ) (List ℕ) → Callee (List ℕ) (List ℕ) → Type 0
  Calls c c' = (f : ℕ) (ns : List ℕ) (t : ℕ) (w : World) → Within 1 0 t w → Same (left_paid same_globals no_cuts 1 0 Equal EqualOf) (c f ns w) (c' f ns (done t w))

  function_follows : (d : ℕ) (c c' : Callee (List ℕ) (List ℕ)) (f : WordFun) → Calls c c' → (ns : List ℕ) (t : ℕ) (w : World) → Within 1 0 t w
      → Same (left_paid same_globals no_cuts 1 0 Equal EqualOf) (enter p d c f ns w) (enter (pruned_program p) d c' (pruned_function f) ns (done t w))
  function_follows d c c' f follow ns t w within =
      let u = write_all f.params ns no_locals in
      let steps = 16 * (passing_steps + length f.params) in
      let w1 = entered f.cost (stepped (passing_steps + length f.params) w) in
      left_same (R p.names d c c' (is_used f)) Nothing Nothing Nothing _ _
      (same_as (R p.names d c c' (is_used f)) _ _ _ (seq_row p.names d c c' (is_used f) (pruned (is_used f) f.body) u (t + steps) w1)
      (statement_means p.names d c c' (is_used f) follow f.body (λ z h. h) u u (t + steps) w1 (record { at = λ z h. refl }) (omega (arith, within))))

  calls_follow : (d : ℕ) → Calls (nested (calls_of p) d) (nested (calls_of (pruned_program p)) d)
  calls_follow zero f ns t w within = over (left_paid same_globals no_cuts 1 0 Equal EqualOf) Spent w t within
  calls_follow (suc d) f ns t w within =
      let Q = left_paid same_globals no_cuts 1 0 Equal EqualOf in
      let c = nested (calls_of p) d in let c' = nested (calls_of (pruned_program p)) d in
      with_same Q (slice_get p.functions f) w _ _ (λ g is.
      same_as Q _ _ (enter (pruned_program p) d c' (pruned_function g) ns (done t w))
      (ap (λ o. with_value o (done t w) (λ (g : WordFun). enter (pruned_program p) d c' g ns (done t w))) (slice_get-map pruned_function p.functions f ∙ ap (option_map pruned_function) is))
      (function_follows d c c' g (calls_follow d) ns t w within))

  pub program_seen : (m : List ℕ) (r : List Replied) (n : ℕ) → ((meaning p m r n).behaviour).ending ≢ Fails → IsSeenAs (meaning p m r n) (meaning (pruned_program p) m r n)
  program_seen m r n h =
      seen_left (nested (calls_of p) (suc n) p.main [] (start p.globals m r n)) (nested (calls_of (pruned_program p)) (suc n) p.main [] (start p.globals m r n))
      (calls_follow (suc n) p.main [] 16 (start p.globals m r n) (omega arith)) h

pub pruned_keeps : (p : Program WordFun) → Keeps (stage p) (stage (pruned_program p))
pruned_keeps p =
    let face : List (List ℕ) → List ℕ → Face = λ names costs. record { main = p.main; functions = names; costs = costs; widths = p.exceptions; foreign_names = p.names; globals = p.globals } in
    record {
      face = ap (λ ns. face ns (map (λ (f : WordFun). f.cost) (map pruned_function p.functions))) (map_kept (λ (f : WordFun). f.name) (λ f. refl) p.functions) ∙ ap (face (map (λ (f : WordFun). f.name) p.functions)) (costs_kept p);
      sites = map_kept (λ (f : WordFun). sites f.body) (λ f. (body_less f).sites_kept) p.functions;
      needs = needs_kept p;
      seen = λ m r n lawful. program_seen p m r n;
    }
