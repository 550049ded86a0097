-- A program over frames keeps what the program over homes does, or exhausts the stack.
use Rattle.std.proofs.Common.{◌≡◌, inr, ℕ, zero, suc, ◌+◌, ◌-◌, ◌*◌, ◌<◌, ◌≤◌, List, [], ◌∷◌, ◌++◌, map, length, Option, Some, None, Bool, true, false, refl, sym, ap, ◌∙◌, subst, arith}
use Rattle.std.specs.Prelude.{nat_le, max, slice_get, option_map}
use Rattle.std.specs.List.{All, AllZip, list_all}
use Rattle.std.proofs.lemmas.Option.{slice_get-map}
use Rattle.std.proofs.lemmas.Bool.Decides.{nat_tests}
use Rattle.pan_base.specs.Events.{Spent, Stack}
use Rattle.pan_control.specs.World.{entered, tolled}
use Rattle.pan_control.specs.Control.{Over, with_value, left, world_of}
use Rattle.pan_flow.specs.Flow.{has, ways, Live}
use Rattle.pan_flow.specs.Functions.{variables, IsWritten}
use Rattle.pan_flow.proofs.Ways.{Behind, after, live_past_write}
use Rattle.pan_stage.specs.Data.{World, Outcome}
use Rattle.pan_stage.specs.Locals.{Locals, no_locals, write_all}
use Rattle.pan_stage.specs.Mentions.{Arity, Scope, is_right, scope_of}
use Rattle.pan_stage.specs.Toll.{stepped}
use Rattle.pan_stage.specs.WellFormed.{IsArity, most_words}
use Rattle.pan_stage.specs.declared.program.Program.{Program}
use Rattle.pan_stage.proofs.Grows.{Extends, extends_on, entered_extends, tolled_extends, left_on}
use Rattle.pan_stage.proofs.Follows.{beside, Same, cut, Nothing, over, left_same}
use Rattle.pan_stage.proofs.Paid.{Within, exhausting, paid, left_paid}
use Rattle.word_lang.specs.Homes.{IsOverHomes, AreOverHomes}
use Rattle.word_lang.specs.Meaning.{run, enter}
use Rattle.word_lang.specs.Needs.{frame_need}
use Rattle.word_lang.specs.Text.{arity, mentions, flow_of, flow_of_function}
use Rattle.word_lang.specs.WellFormed.{IsWellFormed}
use Rattle.word_lang.specs.declared.syntax.WordFun.{WordFun}
use Rattle.stack_lang.specs.Frame.{Frame, no_slots}
use Rattle.stack_lang.specs.Frame as frame
use Rattle.stack_lang.specs.Meaning as stack
use Rattle.stack_lang.specs.declared.syntax.StackFun.{StackFun}
use Rattle.stack_lang.specs.declared.syntax.Stmt.TheVariants as s
use Rattle.stack_frames.specs.Frames.{slot_in, frame_bytes, fetches, framed, framed_function}
use Rattle.stack_frames.proofs.Homes.{carries_on}
use Rattle.stack_frames.proofs.WordGrows.{run_grows, word_calls, calls_grow}
use Rattle.stack_frames.proofs.Flows.{has_left, has_right}
use Rattle.stack_frames.proofs.Following.{view, Given, Gives, Raises, CalleesFollow, Setting, Held, does, after_code, in_sequence, last}
use Rattle.stack_frames.proofs.Leaving.{FetchedIn, fetching, fetched_held}
use Rattle.stack_frames.proofs.Slots.{is_numbered, frame_fits}
use Rattle.stack_frames.proofs.Statements.{is_framed}

-- ---- lists

all_at : {A : Type 0} (P : A → Type 0) (xs : List A) (i : ℕ) (x : A) → All P xs → slice_get xs i ≡ Some x → P x
all_at P [] i x h e = absurd (cc e)
all_at {A} P (y ∷ xs) zero x h e = subst P (some e) (h 0 y (omega arith))
  where
    some : {a b : A} → Some a ≡ Some b → a ≡ b
    some e = cc e
all_at P (y ∷ xs) (suc i) x h e = all_at P xs i x (λ k d l. h (suc k) d (omega (arith, l))) e

zip_at : (need cost : WordFun → ℕ) (fs : List WordFun) (i : ℕ) (f : WordFun) → AllZip (λ n m. n ≤ m) (map need fs) (map cost fs) → slice_get fs i ≡ Some f → need f ≤ cost f
zip_at need cost [] i f h e = absurd (cc e)
zip_at need cost (g ∷ fs) zero f h e = subst (λ f. need f ≤ cost f) (some e) h.0
  where
    some : {a b : WordFun} → Some a ≡ Some b → a ≡ b
    some e = cc e
zip_at need cost (g ∷ fs) (suc i) f h e = zip_at need cost fs i f h.1 e

-- ---- what a well-formed program over homes gives for each of its functions

-- what is said of a function of a program over homes
pub record IsFramable (p : Program WordFun) (f : WordFun) : Type 0 where
  pub over : IsOverHomes f
  pub right : list_all (is_right (scope_of arity p) f.results) (mentions f.body) ≡ true
  pub written : IsWritten (flow_of_function f)
  pub few : IsArity (arity f)
  pub fits : frame_bytes f ≤ f.cost

module _ (p : Program WordFun) (formed : IsWellFormed p) (homes : AreOverHomes p) where
  pub framable : (i : ℕ) (f : WordFun) → slice_get p.functions i ≡ Some f → IsFramable p f
  framable i f e =
      record {
        over = all_at IsOverHomes p.functions i f homes e;
        right = all_at (λ (f : WordFun). list_all (is_right (scope_of arity p) (arity f).results) (mentions f.body) ≡ true) p.functions i f formed.right e;
        written = all_at (λ f. IsWritten (flow_of_function f)) p.functions i f formed.written e;
        few = all_at (λ f. IsArity (arity f)) p.functions i f (formed.counts).arities e;
        fits = let a = frame_fits f in let b = zip_at frame_need (λ (f : WordFun). f.cost) p.functions i f (((formed.room).within).frames) e in omega (arith, a, b);
      }

  abbrev scope : Scope
  scope = scope_of arity p

  pub arity_of : (o : Option WordFun) (a : Arity) → option_map arity o ≡ Some a → (f : WordFun) × (o ≡ Some f) × (arity f ≡ a)
  arity_of None a e = absurd (cc e)
  arity_of (Some f) a e = (f, refl, some e)
    where
      some : {a b : Arity} → Some a ≡ Some b → a ≡ b
      some e = cc e

  pub few_arities : (f : ℕ) (a : Arity) → slice_get scope.arities f ≡ Some a → IsArity a
  few_arities f a e = let g = arity_of (slice_get p.functions f) a (sym (slice_get-map arity p.functions f) ∙ e) in subst IsArity g.2 (all_at (λ f. IsArity (arity f)) p.functions f g.0 (formed.counts).arities g.1)

  pub few_widths : (i n : ℕ) → slice_get scope.widths i ≡ Some n → n ≤ most_words
  few_widths i n e = all_at (λ n. n ≤ most_words) p.exceptions i n (formed.counts).widths e

  -- ---- functions

  module _ (total : ℕ) where
    abbrev Follow : ℕ → Type 0
    Follow d = CalleesFollow p.names scope total (word_calls p d) (stack.leaves (map framed_function p.functions) d)

    abbrev pub SameLeft : ℕ → ℕ → Outcome (Unit {0}) (List ℕ) → stack.Outcome (Unit {0}) Frame → Type 0
    SameLeft count c o o' = Same (left_paid view (exhausting total 1) 1 c (Gives p.names count) (Raises p.names p.exceptions)) o o'

    module _ (d : ℕ) (follow : Follow d) (f : WordFun) (fine : IsFramable p f) (c : ℕ) (ns : List ℕ) (w : World) (u : Frame) (t : ℕ) (count : length ns ≡ length f.params) (g : Given p.names total ns w u) (le : Within 1 c t w) where
      abbrev inner : World
      inner = entered f.cost (stepped (8 + length f.params) w)

      abbrev before : Frame
      before = frame.framed (frame_bytes f) u

      abbrev variables_at_start : Locals
      variables_at_start = write_all f.params ns no_locals

      abbrev first : Outcome (Unit {0}) (List ℕ)
      first = left (run p.names d (word_calls p d) f.body variables_at_start inner)

      -- the frame doesn't fit
      exhausted : nat_le (frame_bytes f) u.room ≡ false → SameLeft f.results c first (Over Stack (beside view (t + 9) w))
      exhausted lacks =
          let o = run p.names d (word_calls p d) f.body variables_at_start inner in
          let n = 16 * (8 + length f.params) in
          let w1 : World = tolled n w in
          let e : Extends inner (world_of first) = extends_on inner (world_of o) _ ((run_grows p.names d (word_calls p d) (calls_grow p d) f.body).at variables_at_start inner).by (left_on (Unit {0}) o) in
          let x : Extends w (world_of first) = extends_on w w1 _ (tolled_extends n w) (extends_on w1 inner _ (entered_extends f.cost w1) e) in
          cut (record {
            after = beside view (t + 9) w;
            holds = record {
              deeper = let m = more (frame_bytes f) lacks fine.fits in let h = e.deepest in omega (arith, m, h);
              front = x.trace;
              toll = let h = e.toll in omega (arith, le, h);
            };
            is = refl;
          })
        where
          more : (n : ℕ) → nat_le n u.room ≡ false → n ≤ f.cost → total < max w.deepest (w.active + f.cost)
          more n lacks fits = let l : u.room < n = grind (arith, nat_tests) in let b = g.budget in omega (arith, l, fits, b)

      fits_in : (n : ℕ) → nat_le n u.room ≡ true → total ≤ u.room - n + n + (w.active + f.cost - f.cost)
      fits_in n y = let l : n ≤ u.room = grind (arith, nat_tests) in let b = g.budget in omega (arith, l, b)

      -- where it fits
      module _ (enough : nat_le (frame_bytes f) u.room ≡ true) where
        abbrev setting : Setting
        setting = record {
          names = p.names;
          slot = slot_in f;
          named = variables (flow_of_function f);
          numbered = is_numbered f fine.over;
          scope = scope;
          results = f.results;
          few_arities = few_arities;
          few_widths = few_widths;
          few_results = (fine.few).results;
          total = total;
          size = frame_bytes f;
          turns = d;
          room = u.room - frame_bytes f;
          act = w.active + f.cost;
          own = f.cost;
          costs = fine.fits;
          stands = let e : f.cost ≤ w.active + f.cost = omega arith in e;
          budget = fits_in (frame_bytes f) enough;
          word_callee = word_calls p d;
          stack_callee = stack.leaves (map framed_function p.functions) d;
          grows = calls_grow p d;
          follows = follow;
        }

        abbrev N : ℕ → Type 0
        N = Live (λ way. ⊥)

        abbrev live : ℕ → Type 0
        live = Live (ways (flow_of f.body) (after Behind))

        -- nothing but the parameters is live where the body begins
        dead : (x : ℕ) → has f.params x ≡ false → live x → ⊥
        dead x h l = (fine.written).none x (live_past_write f.params (ways (flow_of f.body) (after Behind)) x h l)

        runs_in : SameLeft f.results c first (left (does setting (s.Seq (fetches (slot_in f) 0 f.params ++ framed (slot_in f) f.body ∷ [])) before (beside view (t + 6) inner)))
        runs_in =
            left_same (paid view (exhausting total 1) 1 c (Held setting N) (Held setting N) (Held setting N) (Gives p.names f.results) (Raises p.names p.exceptions)) Nothing Nothing Nothing
            (run p.names d (word_calls p d) f.body variables_at_start inner) (does setting (s.Seq (fetches (slot_in f) 0 f.params ++ framed (slot_in f) f.body ∷ [])) before (beside view (t + 6) inner))
            (in_sequence setting N N N c _ (fetches (slot_in f) 0 f.params ++ framed (slot_in f) f.body ∷ []) before (beside view (t + 6) inner)
            (after_code setting N N N c (4 * length f.params) (fetches (slot_in f) 0 f.params) (framed (slot_in f) f.body ∷ []) _ inner before (t + 6) (FetchedIn setting inner live variables_at_start before)
            (fetching setting N N N c live f.params ns no_locals inner before (fine.few).parameters (omega (arith, count)) (λ x h. has_left x f.params (variables (flow_of f.body)) h) (carries_on 0 ns u before (λ j le. refl) (g.carried).carries) (g.carried).machine
            (λ x h l. absurd (dead x l.0 l.1)))
            (λ u' t' q lt. last setting N N N c _ (framed (slot_in f) f.body) u' (beside view t' inner) _ refl
            (is_framed setting f.body Behind (record {
              named = λ x h. has_right x f.params (variables (flow_of f.body)) h;
              right = fine.right;
              clear = λ x l h. (fine.over).across x (grind (arith, nat_tests)) (inr h);
            }) c variables_at_start inner u' t' (fetched_held setting N N N c live variables_at_start inner before u' q refl refl refl, omega (arith, le, lt))))))

      body_same : SameLeft f.results c (enter p d (word_calls p d) f ns w) (stack.enter d (stack.leaves (map framed_function p.functions) d) (framed_function f) u (beside view t w))
      body_same = by (nat_le (frame_bytes f) u.room) refl
        where
          by : (b : Bool) → nat_le (frame_bytes f) u.room ≡ b → SameLeft f.results c first (stack.body_of b d (stack.leaves (map framed_function p.functions) d) (framed_function f) u (beside view t w))
          by true enough = runs_in enough
          by false lacks = exhausted lacks

    pub calls_follow : (d : ℕ) → Follow d
    calls_follow zero kept f a known ns w u t count given = over (left_paid view (exhausting total 1) 1 kept (Gives p.names a.results) (Raises p.names p.exceptions)) Spent w t (let le = given.1 in omega (arith, le))
    calls_follow (suc d) kept f a known ns w u t count given =
        by (slice_get p.functions f) (arity_of (slice_get p.functions f) a (sym (slice_get-map arity p.functions f) ∙ known)) refl (calls_follow d)
      where
        enters : WordFun → Outcome (Unit {0}) (List ℕ)
        enters g = enter p d (word_calls p d) g ns w

        enters' : StackFun → stack.Outcome (Unit {0}) Frame
        enters' g = stack.enter d (stack.leaves (map framed_function p.functions) d) g u (beside view t w)

        by : (o : Option WordFun) → (g : WordFun) × (o ≡ Some g) × (arity g ≡ a) → slice_get p.functions f ≡ o → Follow d
            → SameLeft a.results kept (with_value (slice_get p.functions f) w enters) (with_value (slice_get (map framed_function p.functions) f) (beside view t w) enters')
        by o (g, is, same) e follow =
            let is_g : slice_get p.functions f ≡ Some g = e ∙ is in
            subst (λ o. SameLeft a.results kept (with_value (slice_get p.functions f) w enters) (with_value o (beside view t w) enters')) (sym (slice_get-map framed_function p.functions f ∙ ap (λ o. option_map framed_function o) is_g))
            (subst (λ o. SameLeft a.results kept (with_value o w enters) (enters' (framed_function g))) (sym is_g)
            (subst (λ (a : Arity). SameLeft a.results kept (enters g) (enters' (framed_function g))) same
            (body_same d follow g (framable f g is_g) kept ns w u t (count ∙ sym (ap (λ (a : Arity). a.parameters) same)) given.0 given.1)))
