-- A program whose functions are renamed keeps what the program does.
use Rattle.std.proofs.Common.{◌≡◌, ◌≢◌, inl, inr, ℕ, zero, suc, ◌+◌, ◌*◌, List, [], ◌∷◌, map, length, Some, arith, refl, sym, ap, subst, ◌∙◌}
use Rattle.std.specs.Prelude.{slice_get}
use Rattle.std.specs.List.{AllZip}
use Rattle.pan_base.specs.Events.{Replied, Spent, Fails}
use Rattle.pan_control.specs.World.{entered}
use Rattle.pan_control.specs.Control.{with_value}
use Rattle.pan_control.specs.Runs.{nested}
use Rattle.pan_flow.specs.Flow.{Live, ways, behind}
use Rattle.pan_flow.proofs.Ways.{Behind}
use Rattle.pan_stage.specs.Data.{World, Callee, start}
use Rattle.pan_stage.specs.Locals.{no_locals}
use Rattle.pan_stage.specs.Returns.{seen}
use Rattle.pan_stage.specs.Stage.{IsSeenAs}
use Rattle.pan_stage.specs.Toll.{stepped, passing_steps}
use Rattle.pan_stage.specs.declared.program.Program.{Program}
use Rattle.pan_stage.proofs.Follows.{Nothing, Same, over, same_as, with_same, left_same}
use Rattle.pan_stage.proofs.Paid.{Within, same_globals, no_cuts, left_paid}
use Rattle.pan_stage.proofs.Words.{done, Equal, EqualOf, seen_left}
use Rattle.word_lang.specs.Meaning.{enter, meaning}
use Rattle.word_lang.specs.Text.{flow_of}
use Rattle.word_lang.specs.declared.syntax.WordFun.{WordFun}
use Rattle.reg_alloc.specs.Accepts.{Accepts, IsRenamedFunction, IsRenamed}
use Rattle.reg_alloc.specs.Renamed.{rename_function}
use Rattle.reg_alloc.proofs.Agree.{written_agrees}
use Rattle.reg_alloc.proofs.Statements.{map_length, R, Follow, statement_stands}

-- what stands at a place of the first stands there renamed in the second
pub renamed_at : (fs gs : List WordFun) (i : ℕ) (f : WordFun) → AllZip IsRenamedFunction fs gs → slice_get fs i ≡ Some f → (g : WordFun) × (slice_get gs i ≡ Some g) × IsRenamedFunction f g
renamed_at [] gs i f all is = absurd cc
renamed_at (x ∷ fs) [] i f all is = absurd all
renamed_at (x ∷ fs) (y ∷ gs) zero f all is = let e : x ≡ f = cc in (y, refl, subst (λ f. IsRenamedFunction f y) e all.0)
renamed_at (x ∷ fs) (y ∷ gs) (suc i) f all is = renamed_at fs gs i f all.1 is

module _ (p q : Program WordFun) (renamed : IsRenamed p q) where
  -- what a call does, where calls do so
  abbrev calls_of : Program WordFun → ℕ → Callee (List ℕ) (List ℕ) → Callee (List ℕ) (List ℕ)
  calls_of p d callee f ns w = with_value (slice_get p.functions f) w (λ g. enter p d callee g ns w)

  -- a function, whose parameters come home
  function_follows : (d : ℕ) (c c' : Callee (List ℕ) (List ℕ)) (home : ℕ → ℕ) (f : WordFun) → Accepts home f → Follow home c c' → (ns : List ℕ) (t : ℕ) (w : World) → Within 1 0 t w
      → Same (left_paid same_globals no_cuts 1 0 Equal EqualOf) (enter p d c f ns w) (enter p d c' (rename_function home f) ns (done t w))
  function_follows d c c' home f ok follow ns t w within =
      let k = map_length home f.params in
      left_same (R home Behind) Nothing Nothing Nothing _ _
      ((statement_stands home c c' p.names d follow f.body).at Behind (λ i j ne h. ok.apart i j (ne, inl (inr h))) _ (entered f.cost (stepped (passing_steps + length f.params) w)) _ (t + 16 * (passing_steps + length (map home f.params)))
      (written_agrees home (Live (ways (flow_of f.body) behind)) f.params ns no_locals no_locals (λ i j g l ne. ok.apart i j (ne, inl (inl (g, l)))) (λ x g l. refl)) (omega (arith, k, within)))

  calls_follow : (home : ℕ → ℕ) (d : ℕ) → Follow home (nested (calls_of p) d) (nested (calls_of q) d)
  calls_follow home zero f ns t w within = over (left_paid same_globals no_cuts 1 0 Equal EqualOf) Spent w t within
  calls_follow home (suc d) f ns t w within =
      let Q = left_paid same_globals no_cuts 1 0 Equal EqualOf in
      let c = nested (calls_of p) d in let c' = nested (calls_of q) d in
      with_same Q (slice_get p.functions f) w _ _ (λ g is.
      let a = renamed_at p.functions q.functions f g renamed.functions is in
      let n = a.2 in
      same_as Q _ _ (enter p d c' (rename_function n.home g) ns (done t w))
      (ap (λ o. with_value o (done t w) (λ (g : WordFun). enter q d c' g ns (done t w))) a.1 ∙ ap (λ g. enter q d c' g ns (done t w)) n.same
      ∙ ap (λ (names : List (List ℕ)). enter (record p { names = names }) d c' (rename_function n.home g) ns (done t w)) renamed.names)
      (function_follows d c c' n.home g n.accepted (calls_follow n.home d) ns t w within))

  pub program_seen : (m : List ℕ) (r : List Replied) (n : ℕ) → ((meaning p m r n).behaviour).ending ≢ Fails → IsSeenAs (meaning p m r n) (meaning q m r n)
  program_seen m r n h =
      let first = nested (calls_of p) (suc n) p.main [] (start p.globals m r n) in
      let second = λ (main : ℕ) (globals : List ℕ). nested (calls_of q) (suc n) main [] (start globals m r n) in
      subst (λ main. IsSeenAs (meaning p m r n) (seen (second main q.globals))) (sym renamed.main)
      (subst (λ globals. IsSeenAs (meaning p m r n) (seen (second p.main globals))) (sym renamed.globals)
      (seen_left first (second p.main p.globals) (calls_follow (λ x. x) (suc n) p.main [] 16 (start p.globals m r n) (omega arith)) h))
