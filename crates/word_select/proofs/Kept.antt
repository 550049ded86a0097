-- The selected program is well formed, and stands in Keeps to the program.
use Rattle.std.proofs.Common.{◌≡◌, inl, inr, ℕ, suc, ◌≤◌, ◌<◌, Bool, true, false, List, [], ◌∷◌, ◌++◌, map, length, Option, Some, None, arith, refl, sym, ap, subst, ◌∙◌}
use Rattle.std.specs.Prelude.{not, ◌==◌, ◌&&◌, ◌↔◌, slice_get, slice_index_or, option_map}
use Rattle.std.specs.List.{list_all}
use Rattle.std.proofs.lemmas.List.Elements.{All-map}
use Rattle.std.proofs.lemmas.Option.{slice_get-map}
use Rattle.pan_stage.specs.Locals.{numbers_from}
use Rattle.pan_stage.specs.Mentions.{Arity, is_some_and, is_right, scope_of}
use Rattle.pan_stage.specs.Room.{HasRoom}
use Rattle.pan_stage.specs.Stage.{Face, AtMost, NeedsNoMore, Keeps}
use Rattle.pan_stage.specs.Sums.{sum_of}
use Rattle.pan_stage.specs.WellFormed.{IsArity, AreCounts, AreRight}
use Rattle.pan_stage.specs.declared.program.Program.{Program}
use Rattle.pan_stage.proofs.Chain.{room_kept}
use Rattle.pan_flow.specs.Flow.{Flow, Live, ways, behind, has}
use Rattle.pan_flow.specs.Functions.{variables, IsWritten}
use Rattle.pan_flow.specs.Live.{live_before}
use Rattle.pan_flow.proofs.Exact.{exact}
use Rattle.loop_lang.specs.Needs as loop_needs
use Rattle.loop_lang.specs.Stage as loops
use Rattle.loop_lang.specs.Text as loop
use Rattle.loop_lang.specs.WellFormed as loop_well_formed
use Rattle.loop_lang.specs.declared.syntax.LoopFun.{LoopFun}
use Rattle.word_lang.specs.Needs.{frame_need, function_code, needs}
use Rattle.word_lang.specs.Stage as words
use Rattle.word_lang.specs.Text as word
use Rattle.word_lang.specs.WellFormed.{IsWellFormed}
use Rattle.word_lang.specs.declared.syntax.WordFun.{WordFun}
use Rattle.word_select.specs.Selected.{first_free, select_function, select_program}
use Rattle.word_select.proofs.Above.{has_both, has_left, has_right, above_each, below, different_few}
use Rattle.word_select.proofs.Programs.{numbers_length, program_seen}
use Rattle.word_select.proofs.SelectedTexts.{statement_fine}
use Rattle.word_select.proofs.Texts.{and_cases}

-- what is the same of each function is the same of all
map_kept : {A : Type 0} (f : WordFun → A) (g : LoopFun → A) → ((x : LoopFun) → f (select_function x) ≡ g x) → (xs : List LoopFun) → map f (map select_function xs) ≡ map g xs
map_kept f g h [] = refl
map_kept f g h (x ∷ xs) = ap (λ a. a ∷ map f (map select_function xs)) (h x) ∙ ap (λ as1. g x ∷ as1) (map_kept f g h xs)

-- ---- counts

arity_kept : (f : LoopFun) → word.arity (select_function f) ≡ loop.arity f
arity_kept f = ap (λ n. record { parameters = n; results = f.results }) (numbers_length 0 f.params)

-- main takes nothing and returns a word
abbrev main_right : Arity → Bool
main_right a = a.parameters == 0 && a.results == 1

main_kept : (o : Option LoopFun) → is_some_and (λ f. main_right (loop.arity f)) o ≡ true → is_some_and (λ f. main_right (word.arity f)) (option_map select_function o) ≡ true
main_kept None h = h
main_kept (Some f) h = ap main_right (arity_kept f) ∙ h

counts_kept : (p : Program LoopFun) → AreCounts loop.arity p → AreCounts word.arity (select_program p)
counts_kept p c = record {
  numbers = record {
    exceptions = (c.numbers).exceptions;
    names = (c.numbers).names;
    globals = (c.numbers).globals;
    words = (c.numbers).words;
  };
  main = ap (is_some_and (λ f. main_right (word.arity f))) (slice_get-map select_function p.functions p.main) ∙ main_kept (slice_get p.functions p.main) c.main;
  arities = All-map (λ f. IsArity (word.arity f)) select_function p.functions (λ k d l. subst IsArity (sym (arity_kept (slice_index_or p.functions k d))) (c.arities k d l));
  widths = c.widths;
}

-- ---- mentions

scope_kept : (p : Program LoopFun) → scope_of word.arity (select_program p) ≡ scope_of loop.arity p
scope_kept p = ap (λ as1. record { arities = as1; widths = p.exceptions; names = length p.names }) (map_kept word.arity loop.arity arity_kept p.functions)

right_kept : (p : Program LoopFun) → AreRight loop.arity (λ (f : LoopFun). loop.mentions f.body) p → AreRight word.arity (λ (f : WordFun). word.mentions f.body) (select_program p)
right_kept p h = All-map (λ f. list_all (is_right (scope_of word.arity (select_program p)) (word.arity f).results) (word.mentions f.body) ≡ true) select_function p.functions (λ k d l. of_function (slice_index_or p.functions k d) (h k d l))
  where
    of_function : (f : LoopFun) → list_all (is_right (scope_of loop.arity p) f.results) (loop.mentions f.body) ≡ true → list_all (is_right (scope_of word.arity (select_program p)) f.results) (word.mentions (select_function f).body) ≡ true
    of_function f r = ap (λ scope. list_all (is_right scope f.results) (word.mentions (select_function f).body)) (scope_kept p) ∙ (statement_fine (first_free f) f.body []).right (scope_of loop.arity p) f.results r

-- ---- variables that are written before they are read

written_kept : (f : LoopFun) → IsWritten (loop.flow_of_function f) → IsWritten (word.flow_of_function (select_function f))
written_kept f h = record { none = λ x l. h.none x ((exits_exact x (loop.flow_of_function f)).0 (live_kept x ((exits_exact x (word.flow_of_function (select_function f))).1 l))) }
  where
    exits_exact : (x : ℕ) (g : Flow) → (live_before x g (λ e. false) ≡ true) ↔ Live (ways g behind) x
    exits_exact x g = exact x g (λ e. false) behind (λ e. (λ h. cc, λ l. absurd l.1))

    live_kept : (x : ℕ) → live_before x (word.flow_of_function (select_function f)) (λ e. false) ≡ true → live_before x (loop.flow_of_function f) (λ e. false) ≡ true
    live_kept x l =
        let b = not (has (numbers_from 0 f.params) x) in
        let k = and_cases b (live_before x (word.flow_of (select_function f).body) (λ e. false)) l in
        elim ((statement_fine (first_free f) f.body []).live x (λ e. false) (λ e. false) (record { at_end = λ h. absurd (cc h); at_break = λ h. h; at_continue = λ h. h; at_return = λ h. h }) k.1) [
          | inl m ↦ ap (λ c. c && live_before x (loop.flow_of f.body) (λ e. false)) k.0 ∙ m
          | inr q ↦ absurd (cc q)
        ]

-- ---- needs

frame_kept : (f : LoopFun) → frame_need (select_function f) ≤ loop_needs.frame_need f
frame_kept f =
    let mine = variables (word.flow_of_function (select_function f)) in
    let few = different_few mine in
    let each = above_each (suc (first_free f)) mine within in omega (arith, few, each)
  where
    theirs : List ℕ
    theirs = variables (loop.flow_of f.body)

    within : (z : ℕ) → has (variables (word.flow_of_function (select_function f))) z ≡ true → z < suc (first_free f)
    within z h =
        elim (has_both (numbers_from 0 f.params) (variables (word.flow_of (select_function f).body)) z h) [
          | inl m ↦ let l = below (numbers_from 0 f.params ++ theirs) z (has_left (numbers_from 0 f.params) theirs z m) in omega (arith, l)
          | inr m ↦ elim ((statement_fine (first_free f) f.body []).touched z m) [
            | inl v ↦ let l = below (numbers_from 0 f.params ++ theirs) z (has_right (numbers_from 0 f.params) theirs z v) in omega (arith, l)
            | inr v ↦ elim v [ inl e ↦ omega (arith, e) | inr q ↦ absurd (cc q) ]
          ]
        ]

function_code_kept : (f : LoopFun) → function_code (select_function f) ≤ loop_needs.function_code f
function_code_kept f = let k = numbers_length 0 f.params in let l = (statement_fine (first_free f) f.body []).no_longer in omega (arith, k, l)

frames_kept : (fs : List LoopFun) → AtMost (map frame_need (map select_function fs)) (map loop_needs.frame_need fs)
frames_kept [] = tt
frames_kept (f ∷ fs) = (frame_kept f, frames_kept fs)

code_kept : (fs : List LoopFun) → sum_of (map function_code (map select_function fs)) ≤ sum_of (map loop_needs.function_code fs)
code_kept [] = omega arith
code_kept (f ∷ fs) = let a = function_code_kept f in let b = code_kept fs in omega (arith, a, b)

needs_kept : (p : Program LoopFun) → NeedsNoMore (loop_needs.needs p) (needs (select_program p))
needs_kept p = record { frames = frames_kept p.functions; code = let l = code_kept p.functions in omega (arith, l) }

-- ---- the program

costs_kept : (p : Program LoopFun) → map (λ (f : WordFun). f.cost) (map select_function p.functions) ≡ map (λ (f : LoopFun). f.cost) p.functions
costs_kept p = map_kept (λ (f : WordFun). f.cost) (λ (f : LoopFun). f.cost) (λ x. refl) p.functions

pub select_well_formed : (p : Program LoopFun) → loop_well_formed.IsWellFormed p → IsWellFormed (select_program p)
select_well_formed p h = record {
  counts = counts_kept p h.counts;
  right = right_kept p h.right;
  written = All-map (λ f. IsWritten (word.flow_of_function f)) select_function p.functions (λ k d l. written_kept (slice_index_or p.functions k d) (h.written k d l));
  room = subst (λ costs. HasRoom costs (needs (select_program p))) (sym (costs_kept p)) (room_kept (map (λ (f : LoopFun). f.cost) p.functions) (loop_needs.needs p) (needs (select_program p)) (needs_kept p) h.room);
}

pub select_keeps : (p : Program LoopFun) → loop_well_formed.IsWellFormed p → Keeps (loops.stage p) (words.stage (select_program p))
select_keeps p h =
    let face : List (List ℕ) → List ℕ → Face = λ names costs. record { main = p.main; functions = names; costs = costs; widths = p.exceptions; foreign_names = p.names; globals = p.globals } in
    let names = map_kept (λ (f : WordFun). f.name) (λ (f : LoopFun). f.name) (λ x. refl) p.functions in
    record {
      face = ap (λ ns. face ns (map (λ (f : WordFun). f.cost) (map select_function p.functions))) names ∙ ap (face (map (λ (f : LoopFun). f.name) p.functions)) (costs_kept p);
      sites = map_kept (λ (f : WordFun). word.sites f.body) (λ (f : LoopFun). loop.sites f.body) (λ x. (statement_fine (first_free x) x.body []).sites_kept) p.functions;
      needs = needs_kept p;
      seen = λ m r n lawful. program_seen p m r n (let l = lawful.most in omega (arith, l)) ((h.counts).numbers).globals;
    }
