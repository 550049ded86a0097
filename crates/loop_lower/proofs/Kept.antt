-- The lowered program keeps what the program shows and means, needs no more, and is well formed.
use Rattle.std.proofs.Common.{◌≡◌, ℕ, ◌+◌, ◌*◌, ◌≤◌, ◌<◌, Bool, true, List, [], ◌∷◌, map, length, Option, Some, None, arith, refl, sym, ap, subst, ◌∙◌}
use Rattle.std.specs.Prelude.{◌==◌, ◌&&◌, slice_get, option_map, IsTrue}
use Rattle.std.specs.List.{All, list_all}
use Rattle.std.proofs.lemmas.List.Elements.{All-nil, All-head, All-tail, All-cons}
use Rattle.std.proofs.lemmas.Option.{slice_get-map}
use Rattle.pan_flow.specs.Functions.{variables, IsWritten}
use Rattle.pan_stage.specs.Locals.{numbers_from}
use Rattle.pan_stage.specs.Mentions.{Arity, Mention, Scope, is_right, is_some_and, scope_of}
use Rattle.pan_stage.specs.Room.{IsCost, HasRoom}
use Rattle.pan_stage.specs.Stage.{Face, AtMost, NeedsNoMore, Keeps}
use Rattle.pan_stage.specs.Sums.{sum_of}
use Rattle.pan_stage.specs.WellFormed.{AreNumbers, AreCounts, AreRight, IsArity}
use Rattle.pan_stage.specs.declared.program.Program.{Program}
use Rattle.pan_stage.proofs.Chain.{room_kept}
use Rattle.crep_lang.specs.Needs as crep
use Rattle.crep_lang.specs.Stage as crep_stage
use Rattle.crep_lang.specs.Text as crep_text
use Rattle.crep_lang.specs.WellFormed as crep_formed
use Rattle.crep_lang.specs.declared.syntax.CrepFun.{CrepFun}
use Rattle.loop_lang.specs.Needs as loops
use Rattle.loop_lang.specs.Stage as loop_stage
use Rattle.loop_lang.specs.Text as loop_text
use Rattle.loop_lang.specs.WellFormed as loop_formed
use Rattle.loop_lang.specs.declared.syntax.LoopFun.{LoopFun}
use Rattle.loop_lower.specs.Lowered.{IsPriced, most_words, placed, first_free, limit_of, lower_function, lower_program}
use Rattle.loop_lower.proofs.Layers.{above_append}
use Rattle.loop_lower.proofs.Programs.{program_seen}
use Rattle.loop_lower.proofs.Texts.{kept}
use Rattle.loop_lower.proofs.Reach.{reaches}
use Rattle.loop_lower.proofs.Written.{lower_written}

-- what is the same of each function is the same of all
map_kept : {A : Type 0} (f : LoopFun → A) (g : CrepFun → A) → ((x : CrepFun) → f (lower_function x) ≡ g x) → (xs : List CrepFun) → map f (map lower_function xs) ≡ map g xs
map_kept f g h [] = refl
map_kept f g h (x ∷ xs) = ap (λ a. a ∷ map f (map lower_function xs)) (h x) ∙ ap (λ as1. g x ∷ as1) (map_kept f g h xs)

-- what follows for each function follows for all
all_kept : (P : CrepFun → Type 0) (Q : LoopFun → Type 0) → ((x : CrepFun) → P x → Q (lower_function x)) → (xs : List CrepFun) → All P xs → All Q (map lower_function xs)
all_kept P Q h [] all = All-nil Q
all_kept P Q h (x ∷ xs) all = All-cons Q (lower_function x) (map lower_function xs) (h x (All-head P x xs all)) (all_kept P Q h xs (All-tail P x xs all))

any_mention : Mention → Bool
any_mention m = true

-- ---- needs

-- the temporaries of a function fit
pub record HasTemporaries (f : CrepFun) : Type 0 where
  pub lawful : limit_of f < most_words
  pub room : first_free f + crep.between f.body ≤ limit_of f
  pub whole : 8 * (limit_of f + 5) ≤ f.cost

pub has_temporaries : (f : CrepFun) → IsPriced f → HasTemporaries f
has_temporaries f h = let le = h.frame in let c = h.cost in let w = c.whole in let l = c.light in record { lawful = omega (arith, w, l); room = omega (arith, le); whole = omega (arith, le) }

one_frame : (f : CrepFun) → HasTemporaries f → loops.frame_need (lower_function f) ≤ crep.frame_need f
one_frame f h =
    let base = first_free f in
    let body = (placed (limit_of f) base f.body base).stmt in
    let room = h.room in let whole = h.whole in
    let k = above_append (numbers_from 0 f.params) (variables (crep_text.flow_of f.body)) in
    let k2 = above_append (numbers_from 0 f.params) (variables (loop_text.flow_of body)) in
    let r = reaches (limit_of f) base h.lawful f.body base (omega arith) room (omega (arith, k)) in
    omega (arith, k, k2, r, room, whole)

are_priced : (fs : List CrepFun) → AtMost (map crep.frame_need fs) (map (λ (f : CrepFun). f.cost) fs) → All IsCost (map (λ (f : CrepFun). f.cost) fs) → All IsPriced fs
are_priced [] m c = All-nil IsPriced
are_priced (f ∷ fs) m c =
    let costs = map (λ (f : CrepFun). f.cost) fs in
    All-cons IsPriced f fs (record { frame = m.0; cost = All-head IsCost f.cost costs c }) (are_priced fs m.1 (All-tail IsCost f.cost costs c))

frames_kept : (fs : List CrepFun) → All IsPriced fs → AtMost (map loops.frame_need (map lower_function fs)) (map crep.frame_need fs)
frames_kept [] h = tt
frames_kept (f ∷ fs) h = (one_frame f (has_temporaries f (All-head IsPriced f fs h)), frames_kept fs (All-tail IsPriced f fs h))

code_kept : (fs : List CrepFun) → sum_of (map loops.function_code (map lower_function fs)) ≤ sum_of (map crep.function_code fs)
code_kept [] = omega arith
code_kept (f ∷ fs) = let a = (kept any_mention (limit_of f) (first_free f) f.body (first_free f)).code in let b = code_kept fs in omega (arith, a, b)

module _ (p : Program CrepFun) where
  costs_kept : map (λ (f : LoopFun). f.cost) (map lower_function p.functions) ≡ map (λ (f : CrepFun). f.cost) p.functions
  costs_kept = map_kept (λ (f : LoopFun). f.cost) (λ (f : CrepFun). f.cost) (λ x. refl) p.functions

  pub all_priced : HasRoom (map (λ (f : CrepFun). f.cost) p.functions) (crep.needs p) → All IsPriced p.functions
  all_priced h = are_priced p.functions (h.within).frames (h.priced).each

  needs_kept : HasRoom ((crep_stage.stage p).face).costs (crep.needs p) → NeedsNoMore (crep.needs p) (loops.needs (lower_program p))
  needs_kept h = record { frames = frames_kept p.functions (all_priced h); code = let c = code_kept p.functions in omega (arith, c) }

  pub lower_keeps : HasRoom ((crep_stage.stage p).face).costs (crep.needs p) → Keeps (crep_stage.stage p) (loop_stage.stage (lower_program p))
  lower_keeps h =
      let face : List (List ℕ) → List ℕ → Face = λ names costs. record { main = p.main; functions = names; costs = costs; widths = p.exceptions; foreign_names = p.names; globals = p.globals } in
      record {
        face = ap (λ ns. face ns (map (λ (f : LoopFun). f.cost) (map lower_function p.functions))) (map_kept (λ (f : LoopFun). f.name) (λ (f : CrepFun). f.name) (λ x. refl) p.functions) ∙ ap (λ cs. face (map (λ (f : CrepFun). f.name) p.functions) cs) costs_kept;
        sites = map_kept (λ (f : LoopFun). loop_text.sites f.body) (λ (f : CrepFun). crep_text.sites f.body) (λ x. (kept any_mention (limit_of x) (first_free x) x.body (first_free x)).sites) p.functions;
        needs = needs_kept h;
        seen = λ m r n lawful. program_seen p m r n;
      }

  -- ---- the lowered program is well formed

  arities_kept : map loop_text.arity (map lower_function p.functions) ≡ map crep_text.arity p.functions
  arities_kept = map_kept loop_text.arity crep_text.arity (λ x. refl) p.functions

  scope_kept : scope_of loop_text.arity (lower_program p) ≡ scope_of crep_text.arity p
  scope_kept = ap (λ (as1 : List Arity). record { arities = as1; widths = p.exceptions; names = length p.names }) arities_kept

  some_kept : (test : LoopFun → Bool) (o : Option CrepFun) → IsTrue (is_some_and (λ f. test (lower_function f)) o) → IsTrue (is_some_and test (option_map lower_function o))
  some_kept test None h = h
  some_kept test (Some f) h = h

  numbers_kept : AreNumbers p → AreNumbers (lower_program p)
  numbers_kept n = record { exceptions = n.exceptions; names = n.names; globals = n.globals; words = n.words }

  counts_kept : AreCounts crep_text.arity p → AreCounts loop_text.arity (lower_program p)
  counts_kept h = record {
    numbers = numbers_kept h.numbers;
    main =
        let test : LoopFun → Bool = λ f. (loop_text.arity f).parameters == 0 && (loop_text.arity f).results == 1 in
        subst (λ o. IsTrue (is_some_and test o)) (sym (slice_get-map lower_function p.functions p.main)) (some_kept test (slice_get p.functions p.main) h.main);
    arities = all_kept (λ f. IsArity (crep_text.arity f)) (λ f. IsArity (loop_text.arity f)) (λ x a. record { parameters = a.parameters; results = a.results }) p.functions h.arities;
    widths = h.widths;
  }

  right_kept : AreRight crep_text.arity (λ (f : CrepFun). crep_text.mentions f.body) p → AreRight loop_text.arity (λ (f : LoopFun). loop_text.mentions f.body) (lower_program p)
  right_kept h = subst (λ (s : Scope). All (λ (f : LoopFun). IsTrue (list_all (is_right s (loop_text.arity f).results) (loop_text.mentions f.body))) (map lower_function p.functions)) (sym scope_kept)
      (let s = scope_of crep_text.arity p in
      all_kept (λ (f : CrepFun). IsTrue (list_all (is_right s (crep_text.arity f).results) (crep_text.mentions f.body))) (λ (f : LoopFun). IsTrue (list_all (is_right s (loop_text.arity f).results) (loop_text.mentions f.body)))
      (λ x right. (kept (is_right s x.results) (limit_of x) (first_free x) x.body (first_free x)).right right) p.functions h)

  pub lower_formed : crep_formed.IsWellFormed p → loop_formed.IsWellFormed (lower_program p)
  lower_formed h = record {
    counts = counts_kept h.counts;
    right = right_kept h.right;
    written = all_kept (λ f. IsWritten (crep_text.flow_of_function f)) (λ f. IsWritten (loop_text.flow_of_function f)) lower_written p.functions h.written;
    room = subst (λ cs. HasRoom cs (loops.needs (lower_program p))) (sym costs_kept) (room_kept ((crep_stage.stage p).face).costs (crep.needs p) (loops.needs (lower_program p)) (needs_kept h.room) h.room);
  }
