-- The lowered program is seen as the program.
use Rattle.std.proofs.Common.{◌≢◌, ℕ, zero, suc, ◌+◌, List, [], arith, refl, ap, ◌∙◌}
use Rattle.std.specs.Prelude.{slice_get, option_map}
use Rattle.std.proofs.lemmas.Option.{slice_get-map}
use Rattle.pan_base.specs.Events.{Replied, Spent, Fails}
use Rattle.pan_control.specs.World.{entered}
use Rattle.pan_control.specs.Control.{with_value}
use Rattle.pan_control.specs.Runs.{nested}
use Rattle.pan_flow.specs.Functions.{variables}
use Rattle.pan_stage.specs.Data.{World, Callee, start}
use Rattle.pan_stage.specs.Locals.{entry, numbers_from}
use Rattle.pan_stage.specs.Stage.{IsSeenAs}
use Rattle.pan_stage.specs.Toll.{stepped, passing_steps}
use Rattle.pan_stage.specs.declared.program.Program.{Program}
use Rattle.pan_stage.proofs.Follows.{Nothing, Same, over, same_as, with_same, left_same}
use Rattle.pan_stage.proofs.Paid.{Within, same_globals, no_cuts, left_paid}
use Rattle.pan_stage.proofs.Words.{done, Equal, EqualOf, seen_left}
use Rattle.crep_lang.specs.Meaning as crep
use Rattle.crep_lang.specs.Text.{flow_of}
use Rattle.crep_lang.specs.declared.syntax.CrepFun.{CrepFun}
use Rattle.loop_lang.specs.Meaning as loops
use Rattle.loop_lang.specs.declared.syntax.LoopFun.{LoopFun}
use Rattle.loop_lower.specs.Lowered.{first_free, limit_of, lower_function, lower_program}
use Rattle.loop_lower.proofs.Layers.{above_append}
use Rattle.loop_lower.proofs.Exprs.{after}
use Rattle.loop_lower.proofs.Statements.{R, statement_means}

module _ (p : Program CrepFun) where
  abbrev q : Program LoopFun
  q = lower_program p

  -- what calls of either do, with so many nested
  abbrev calls : ℕ → Callee (List ℕ) (List ℕ)
  calls = nested (λ d callee f ns w. with_value (slice_get p.functions f) w (λ g. crep.enter p d callee g ns w))

  abbrev calls' : ℕ → Callee (List ℕ) (List ℕ)
  calls' = nested (λ d callee f ns w. with_value (slice_get q.functions f) w (λ g. loops.enter q d callee g ns w))

  abbrev Followed : Callee (List ℕ) (List ℕ) → Callee (List ℕ) (List ℕ) → Type 0
  Followed c c' = (kept f : ℕ) (ns : List ℕ) (t : ℕ) (w : World) → Within 1 kept t w → Same (left_paid same_globals no_cuts 1 kept Equal EqualOf) (c f ns w) (c' f ns (done t w))

  body_follows : (d : ℕ) (g : CrepFun) → Followed (calls d) (calls' d) → (kept : ℕ) (ns : List ℕ) (t : ℕ) (w : World) → Within 1 kept t w
      → Same (left_paid same_globals no_cuts 1 kept Equal EqualOf) (crep.enter p d (calls d) g ns w) (loops.enter q d (calls' d) (lower_function g) ns (done t w))
  body_follows d g follow kept ns t w within =
      let base = first_free g in
      let u = entry g.params ns in
      let w' = entered g.cost (stepped (passing_steps + g.params) w) in
      let k = above_append (numbers_from 0 g.params) (variables (flow_of g.body)) in
      left_same (R p.names d (limit_of g) base (calls d) (calls' d) kept) Nothing Nothing Nothing _ _
      (statement_means p.names d (limit_of g) base (calls d) (calls' d) follow g.body base (omega arith) kept u u (after t (passing_steps + g.params)) w' (omega (arith, k)) (record { at = λ y l. refl }) (omega (arith, within)))

  calls_follow : (d : ℕ) → Followed (calls d) (calls' d)
  calls_follow zero kept f ns t w within = over (left_paid same_globals no_cuts 1 kept Equal EqualOf) Spent w t (omega (arith, within))
  calls_follow (suc d) kept f ns t w within =
      with_same (left_paid same_globals no_cuts 1 kept Equal EqualOf) (slice_get p.functions f) w _ _ (λ g is.
      same_as (left_paid same_globals no_cuts 1 kept Equal EqualOf) _ _ (loops.enter q d (calls' d) (lower_function g) ns (done t w))
      (ap (λ o. with_value o (done t w) (λ g. loops.enter q d (calls' d) g ns (done t w))) (slice_get-map lower_function p.functions f ∙ ap (option_map lower_function) is))
      (body_follows d g (calls_follow d) kept ns t w within))

  pub program_seen : (m : List ℕ) (r : List Replied) (n : ℕ) → ((crep.meaning p m r n).behaviour).ending ≢ Fails → IsSeenAs (crep.meaning p m r n) (loops.meaning q m r n)
  program_seen m r n h = seen_left (calls (suc n) p.main [] (start p.globals m r n)) (calls' (suc n) p.main [] (start p.globals m r n)) (calls_follow (suc n) 0 p.main [] 16 (start p.globals m r n) (omega arith)) h
