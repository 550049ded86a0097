-- The program over frames is kept, and well formed.
use Rattle.std.proofs.Common.{◌≡◌, ℕ, zero, suc, ◌+◌, ◌*◌, ◌<◌, ◌≤◌, List, [], ◌∷◌, map, length, Option, Some, None, true, refl, sym, ap, ◌∙◌, subst, arith}
use Rattle.std.specs.Prelude.{◌&&◌, ◌==◌, slice_get}
use Rattle.std.specs.List.{All}
use Rattle.std.proofs.lemmas.List.{length-map}
use Rattle.std.proofs.lemmas.Option.{slice_get_within}
use Rattle.pan_flow.specs.Functions.{variables}
use Rattle.pan_stage.specs.Mentions.{is_some_and, scope_of}
use Rattle.pan_stage.specs.Room.{HasRoom}
use Rattle.pan_stage.specs.Stage.{AtMost, KeepsOverStack}
use Rattle.pan_stage.specs.Sums.{sum_of}
use Rattle.pan_stage.specs.declared.program.Program.{Program}
use Rattle.word_lang.specs.Homes.{AreOverHomes}
use Rattle.word_lang.specs.Needs.{frame_need, code, function_code, needs}
use Rattle.word_lang.specs.Stage as words
use Rattle.word_lang.specs.Text.{arity, flow_of, flow_of_function, sites}
use Rattle.word_lang.specs.WellFormed.{IsWellFormed}
use Rattle.word_lang.specs.declared.syntax.WordFun.{WordFun}
use Rattle.stack_lang.specs.Frames.{front_words}
use Rattle.stack_lang.specs.Needs as stack
use Rattle.stack_lang.specs.Stage as stacks
use Rattle.stack_lang.specs.Text as stack_text
use Rattle.stack_lang.specs.WellFormed as well
use Rattle.stack_lang.specs.declared.syntax.StackFun.{StackFun}
use Rattle.stack_frames.specs.Frames.{slot_in, fetches, framed, framed_function, framed_program}
use Rattle.stack_frames.proofs.Flows.{has_left, has_right}
use Rattle.stack_frames.proofs.Slots.{is_numbered, slot_inside, frame_whole, frame_wide, frame_fits}
use Rattle.stack_frames.proofs.Programs.{IsFramable, framable, few_arities, few_widths}
use Rattle.stack_frames.proofs.Texts.{each_all, row_append}
use Rattle.stack_frames.proofs.Shapes.{Texture, Text, text_seq, text_row, shape_of, fetch_all}
use Rattle.stack_frames.proofs.Whole.{frames_seen}

-- ---- lists of functions

-- what holds of each function holds of all
each_function : {B : Type 0} (P : B → Type 0) (g : WordFun → B) (fs : List WordFun) → ((i : ℕ) (f : WordFun) → slice_get fs i ≡ Some f → P (g f)) → All P (map g fs)
each_function P g [] h k d l = absurd (omega (arith, l))
each_function P g (f ∷ fs) h zero d l = h 0 f refl
each_function P g (f ∷ fs) h (suc k) d l = each_function P g fs (λ i f e. h (suc i) f e) k d (omega (arith, l))

same_for_each : {B C : Type 0} (g : WordFun → C) (a : WordFun → B) (b : C → B) (fs : List WordFun) → ((i : ℕ) (f : WordFun) → slice_get fs i ≡ Some f → b (g f) ≡ a f) → map b (map g fs) ≡ map a fs
same_for_each g a b [] h = refl
same_for_each g a b (f ∷ fs) h = ap (λ x. x ∷ map b (map g fs)) (h 0 f refl) ∙ ap (λ xs. a f ∷ xs) (same_for_each g a b fs (λ i f e. h (suc i) f e))

at_most_each : {C : Type 0} (g : WordFun → C) (a : WordFun → ℕ) (b : C → ℕ) (fs : List WordFun) → ((i : ℕ) (f : WordFun) → slice_get fs i ≡ Some f → b (g f) ≤ a f) → AtMost (map b (map g fs)) (map a fs)
at_most_each g a b [] h = tt
at_most_each g a b (f ∷ fs) h = (h 0 f refl, at_most_each g a b fs (λ i f e. h (suc i) f e))

less_in_all : {C : Type 0} (g : WordFun → C) (a : WordFun → ℕ) (b : C → ℕ) (fs : List WordFun) → ((i : ℕ) (f : WordFun) → slice_get fs i ≡ Some f → b (g f) ≤ 16 * a f) → sum_of (map b (map g fs)) ≤ 16 * sum_of (map a fs)
less_in_all g a b [] h = omega arith
less_in_all g a b (f ∷ fs) h = let x = h 0 f refl in let y = less_in_all g a b fs (λ i f e. h (suc i) f e) in omega (arith, x, y)

at_most_on : (xs ys zs : List ℕ) → AtMost xs ys → AtMost ys zs → AtMost xs zs
at_most_on [] [] [] h k = tt
at_most_on [] [] (z ∷ zs) h k = absurd k
at_most_on [] (y ∷ ys) zs h k = absurd h
at_most_on (x ∷ xs) [] zs h k = absurd h
at_most_on (x ∷ xs) (y ∷ ys) [] h k = absurd k
at_most_on (x ∷ xs) (y ∷ ys) (z ∷ zs) h k = (let a = h.0 in let b = k.0 in omega (arith, a, b), at_most_on xs ys zs h.1 k.1)

module _ (p : Program WordFun) (formed : IsWellFormed p) (homes : AreOverHomes p) where
  abbrev framed_p : Program StackFun
  framed_p = framed_program p

  -- ---- texts

  module _ (i : ℕ) (f : WordFun) (is : slice_get p.functions i ≡ Some f) where
    abbrev fine : IsFramable p f
    fine = framable p formed homes i f is

    abbrev texture : Texture
    texture = record {
      word_scope = scope_of arity p;
      own = f.results;
      few_arities = few_arities p formed homes;
      few_widths = few_widths p formed homes;
      few_results = (fine.few).results;
      scope = well.scope_of framed_p (framed_function f);
      slot = slot_in f;
      named = variables (flow_of_function f);
      numbered = is_numbered f fine.over;
      inside = slot_inside f;
      functions = λ g a e. let b = slice_get_within (map arity p.functions) g a e in let l = length-map p.functions arity in let k = length-map p.functions framed_function in omega (arith, b, l, k);
      exceptions = λ i n e. slice_get_within p.exceptions i n e;
      names = (let e : length p.names ≤ length p.names = omega arith in e);
    }

    function_text : Text (well.scope_of framed_p (framed_function f)) (sites f.body) (4 * length f.params + 16 * code f.body) ((framed_function f).body)
    function_text =
        let scope = well.scope_of framed_p (framed_function f) in
        text_seq scope (sites f.body) _ _
        (row_append scope [] (sites f.body) (4 * length f.params) (16 * code f.body) (fetches (slot_in f) 0 f.params) (framed (slot_in f) f.body ∷ [])
        (fetch_all texture f.params (fine.few).parameters (λ x h. has_left x f.params (variables (flow_of f.body)) h))
        (text_row scope (sites f.body) _ (framed (slot_in f) f.body) (shape_of texture f.body (λ x h. has_right x f.params (variables (flow_of f.body)) h) fine.right)))

  -- ---- the stage

  pub frames_less : AtMost (map (λ (f : StackFun). f.frame) framed_p.functions) (map frame_need p.functions)
  frames_less = at_most_each framed_function frame_need (λ (f : StackFun). f.frame) p.functions (λ i f e. frame_fits f)

  code_less : (stack.needs framed_p).code ≤ (needs p).code
  code_less =
      let h = less_in_all framed_function function_code stack.function_code p.functions (λ i f e. let t = (function_text i f e).short in omega (arith, t)) in
      omega (arith, h)

  pub keeps : KeepsOverStack (words.stage p) (stacks.stage framed_p)
  keeps =
      record {
        face =
            ap (λ ns. record { main = p.main; functions = ns; costs = map (λ (f : StackFun). f.cost) framed_p.functions; widths = p.exceptions; foreign_names = p.names; globals = p.globals }) (same_for_each framed_function (λ (f : WordFun). f.name) (λ (f : StackFun). f.name) p.functions (λ i f e. refl))
            ∙ ap (λ ns. record { main = p.main; functions = map (λ (f : WordFun). f.name) p.functions; costs = ns; widths = p.exceptions; foreign_names = p.names; globals = p.globals }) (same_for_each framed_function (λ (f : WordFun). f.cost) (λ (f : StackFun). f.cost) p.functions (λ i f e. refl));
        sites = same_for_each framed_function (λ (f : WordFun). sites f.body) (λ (f : StackFun). stack_text.sites f.body) p.functions (λ i f e. (function_text i f e).sites_are);
        needs = record { frames = frames_less; code = code_less };
        seen = frames_seen p formed homes;
      }

  -- ---- well formed

  main_within : (o : Option WordFun) → slice_get p.functions p.main ≡ o → is_some_and (λ (f : WordFun). (arity f).parameters == 0 && (arity f).results == 1) o ≡ true → p.main < length framed_p.functions
  main_within None e h = absurd (cc h)
  main_within (Some f) e h = let b = slice_get_within p.functions p.main f e in let l = length-map p.functions framed_function in omega (arith, b, l)

  pub well_formed : well.IsWellFormed framed_p
  well_formed =
      record {
        numbers = let n = (formed.counts).numbers in record { exceptions = n.exceptions; names = n.names; globals = n.globals; words = n.words };
        main = main_within (slice_get p.functions p.main) refl (formed.counts).main;
        frames = each_function (λ (f : StackFun). well.IsFrame (front_words f) f.frame) framed_function p.functions (λ i f e. record { wide = frame_wide f; whole = frame_whole f });
        right = each_function (λ (f : StackFun). All (well.IsRight (well.scope_of framed_p f)) (stack_text.mentions f.body)) framed_function p.functions
            (λ i f e. each_all (well.IsRight (well.scope_of framed_p (framed_function f))) (stack_text.mentions (framed_function f).body) (function_text i f e).right);
        room = let r = formed.room in let costs = same_for_each framed_function (λ (f : WordFun). f.cost) (λ (f : StackFun). f.cost) p.functions (λ i f e. refl) in
            subst (λ costs. HasRoom costs (stack.needs framed_p)) (sym costs)
            (record {
              priced = r.priced;
              within = record { frames = at_most_on _ _ _ frames_less (r.within).frames; code = let a = (r.within).code in let b = code_less in omega (arith, a, b) };
            });
      }
