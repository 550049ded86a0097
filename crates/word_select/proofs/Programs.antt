-- The selected program keeps what the program does.
use Rattle.std.proofs.Common.{◌≡◌, ◌≢◌, ℕ, zero, suc, ◌+◌, ◌*◌, ◌≤◌, ◌^◌, List, [], length, arith, refl, ap, ◌∙◌}
use Rattle.std.specs.Prelude.{slice_get, option_map}
use Rattle.std.proofs.lemmas.Option.{slice_get-map}
use Rattle.pan_base.specs.Events.{Replied, Spent, Fails}
use Rattle.pan_control.specs.World.{entered}
use Rattle.pan_control.specs.Control.{with_value}
use Rattle.pan_control.specs.Runs.{nested}
use Rattle.pan_flow.specs.Functions.{variables}
use Rattle.pan_stage.specs.Data.{World, Callee, start}
use Rattle.pan_stage.specs.Locals.{entry, numbers_from}
use Rattle.pan_stage.specs.Stage.{IsSeenAs}
use Rattle.pan_stage.specs.Toll.{stepped, passing_steps}
use Rattle.pan_stage.specs.declared.program.Program.{Program}
use Rattle.pan_stage.proofs.DataLaws.{words_bytes_length}
use Rattle.pan_stage.proofs.Follows.{Nothing, Same, over, same_as, with_same, left_same}
use Rattle.pan_stage.proofs.Paid.{Within, same_globals, no_cuts, left_paid, results_less}
use Rattle.pan_stage.proofs.Words.{done, Equal, EqualOf, seen_left}
use Rattle.loop_lang.specs.Meaning as loop
use Rattle.loop_lang.specs.Text.{flow_of}
use Rattle.loop_lang.specs.declared.syntax.LoopFun.{LoopFun}
use Rattle.word_lang.specs.Meaning as word
use Rattle.word_lang.specs.declared.syntax.WordFun.{WordFun}
use Rattle.word_select.specs.Selected.{first_free, selected, select_function, select_program}
use Rattle.word_select.proofs.Above.{above_right}
use Rattle.word_select.proofs.Reach.{IsReachable}
use Rattle.word_select.proofs.Statements.{Given, GivenOf, R, Follow, statement_means}

pub numbers_length : (x k : ℕ) → length (numbers_from x k) ≡ k
numbers_length x zero = refl
numbers_length x (suc k) = ap suc (numbers_length (suc x) k)

module _ (p : Program LoopFun) where
  -- what a call does, where calls do so
  abbrev loop_calls : ℕ → Callee (List ℕ) (List ℕ) → Callee (List ℕ) (List ℕ)
  loop_calls d callee f ns w = with_value (slice_get p.functions f) w (λ g. loop.enter p d callee g ns w)

  abbrev word_calls : ℕ → Callee (List ℕ) (List ℕ) → Callee (List ℕ) (List ℕ)
  word_calls d callee f ns w = with_value (slice_get (select_program p).functions f) w (λ g. word.enter (select_program p) d callee g ns w)

  body_follows : (d : ℕ) (g : LoopFun) → Follow p.names d 0 (nested loop_calls d) (nested word_calls d) → (ns : List ℕ) (t : ℕ) (w : World) → IsReachable w → Within 1 0 t w
      → Same (left_paid same_globals no_cuts 1 0 Given GivenOf) (loop.enter p d (nested loop_calls d) g ns w) (word.enter (select_program p) d (nested word_calls d) (select_function g) ns (done t w))
  body_follows d g follow ns t w reach within =
      let c = nested loop_calls d in let c' = nested word_calls d in
      let n = first_free g in
      let u = entry g.params ns in
      let k = numbers_length 0 g.params in
      let steps = 16 * (passing_steps + length (numbers_from 0 g.params)) in
      let w' = entered g.cost (stepped (passing_steps + g.params) w) in
      let f = selected n g.body [] in
      left_same (R p.names d n c c' f.facts) Nothing Nothing Nothing _ _
      (statement_means p.names d n c c' follow g.body [] u u (t + steps) w' (above_right n (numbers_from 0 g.params) (variables (flow_of g.body)) (omega arith)) (record { at = λ y l. refl }, tt, reach) (omega (arith, within, k)))

  calls_follow : (d : ℕ) → Follow p.names d 0 (nested loop_calls d) (nested word_calls d)
  calls_follow zero f ns t w reach within = over (left_paid same_globals no_cuts 1 0 Given GivenOf) Spent w t within
  calls_follow (suc d) f ns t w reach within =
      with_same (left_paid same_globals no_cuts 1 0 Given GivenOf) (slice_get p.functions f) w _ _ (λ g is.
      same_as (left_paid same_globals no_cuts 1 0 Given GivenOf) _ _ (word.enter (select_program p) d (nested word_calls d) (select_function g) ns (done t w))
      (ap (λ o. with_value o (done t w) (λ (g : WordFun). word.enter (select_program p) d (nested word_calls d) g ns (done t w))) (slice_get-map select_function p.functions f ∙ ap (option_map select_function) is))
      (body_follows d g (calls_follow d) ns t w reach within))

  pub program_seen : (m : List ℕ) (r : List Replied) (n : ℕ) → length m ≤ 2 ^ 32 → length p.globals ≤ 1024 → ((loop.meaning p m r n).behaviour).ending ≢ Fails → IsSeenAs (loop.meaning p m r n) (word.meaning (select_program p) m r n)
  program_seen m r n less few h =
      let globals = words_bytes_length p.globals in
      let first = nested loop_calls (suc n) p.main [] (start p.globals m r n) in
      let second = nested word_calls (suc n) p.main [] (start p.globals m r n) in
      seen_left first second
      (results_less same_globals no_cuts 1 0 Given Equal GivenOf EqualOf first second (λ x w y q. q.0) (λ i x w y q. q.0)
      (calls_follow (suc n) p.main [] 16 (start p.globals m r n) (record { globals = omega (arith, globals, few); local = less }) (omega arith))) h
