-- Statements that leave a function, or call another one.
use Rattle.std.proofs.Common.{◌≡◌, ℕ, ◌+◌, ◌-◌, ◌*◌, ◌≤◌, List, [], ◌∷◌, ◌++◌, map, length, Some, Bool, true, false, refl, sym, ap, ◌∙◌, subst, arith}
use Rattle.std.specs.Prelude.{nat_lt, if◌then◌else◌, slice_get}
use Rattle.std.proofs.lemmas.List.{length-map}
use Rattle.pan_base.specs.Words.{IsWord}
use Rattle.pan_control.specs.World.{leaving}
use Rattle.pan_control.specs.Control.{Returned, Raised, tail_call}
use Rattle.pan_flow.specs.Flow.{has}
use Rattle.pan_stage.specs.Data.{World, Outcome}
use Rattle.pan_stage.specs.Locals.{Locals, write_all}
use Rattle.pan_stage.specs.Mentions.{Arity}
use Rattle.pan_stage.specs.Toll.{stepped}
use Rattle.pan_stage.specs.WellFormed.{most_words}
use Rattle.pan_stage.proofs.Follows.{beside, Ends, Same, matched, same_as, tail_same as tails_same}
use Rattle.pan_stage.proofs.Paid.{Within, exhausting, left_paid}
use Rattle.word_lang.specs.Homes.{first_slot}
use Rattle.riscv_isa.specs.Step.{reg}
use Rattle.stack_lang.specs.Frame.{Frame, back_with, unframed}
use Rattle.stack_lang.specs.Meaning as stack
use Rattle.stack_lang.specs.declared.syntax.Stmt.{Stmt}
use Rattle.stack_lang.specs.declared.syntax.Stmt.TheVariants as s
use Rattle.stack_lang.specs.declared.syntax.Stmt.TheOpen as o_s
use Rattle.stack_frames.specs.Frames.{passes, fetches}
use Rattle.stack_frames.proofs.Machine.{Machine}
use Rattle.stack_frames.proofs.Homes.{Carries, carries_on}
use Rattle.stack_frames.proofs.Rows.{stack_at}
use Rattle.stack_frames.proofs.Moves.{Reads, Passing, passes_ran, Fetched, fetches_ran}
use Rattle.stack_frames.proofs.Flows.{has_first, has_rest}
use Rattle.stack_frames.proofs.Following.{view, Carried, Gives, Raises, Setting, value, KeptIn, RanIn, does, Held, ends, SameAt, after_code, in_sequence, last}

module _ (at : Setting) where
  abbrev pub ReadsIn : World → List ℕ → List ℕ → Frame → Type 0
  ReadsIn w = Reads at.names at.slot at.named at.numbered w.globals w.memory at.size at.turns at.stack_callee

  abbrev pub PassingIn : World → ℕ → List ℕ → Frame → Frame → Type 0
  PassingIn w = Passing at.names at.slot at.named at.numbered w.globals w.memory at.size at.turns at.stack_callee

  abbrev pub FetchedIn : World → (ℕ → Type 0) → Locals → Frame → Frame → Type 0
  FetchedIn w = Fetched at.names at.slot at.named at.numbered w.globals w.memory at.size at.turns at.stack_callee

  -- each of these is named
  abbrev pub AllNamed : List ℕ → Type 0
  AllNamed xs = (x : ℕ) → has xs x ≡ true → has at.named x ≡ true

  -- the words of live variables
  pub reads_held : (L : ℕ → Type 0) (xs : List ℕ) (v : Locals) (w : World) (u : Frame) → AllNamed xs → ((x : ℕ) → has xs x ≡ true → L x) → Held at L v w u → ReadsIn w xs (map v xs) u
  reads_held L [] v w u hs f r = tt
  reads_held L (x ∷ xs) v w u hs f r =
      let p = r.words x (hs x (has_first x xs)) (f x (has_first x xs)) in
      (hs x (has_first x xs), p.0, p.1, reads_held L xs v w u (λ y h. hs y (has_rest x y xs h)) (λ y h. f y (has_rest x y xs h)) r)

  module _ (N B C : ℕ → Type 0) (c : ℕ) where
    -- words are passed, and then a statement follows
    pub passing_same : (L : ℕ → Type 0) (xs : List ℕ) (x : Stmt) (o : Outcome Locals (List ℕ)) (v : Locals) (w w' : World) (u : Frame) (t : ℕ) → length xs ≤ most_words → AllNamed xs → ((y : ℕ) → has xs y ≡ true → L y) → Held at L v w u
        → ((t : ℕ) → beside view t w ≡ beside view t w')
        → ((u' : Frame) (t' : ℕ) → PassingIn w 0 (map v xs) u u' → t' ≤ t + 4 * length xs → SameAt at N B C c o (does at x u' (beside view t' w')))
        → SameAt at N B C c o (does at (s.Seq (passes at.slot 0 xs ++ x ∷ [])) u (beside view t w))
    passing_same L xs x o v w w' u t few hs live r same f =
        in_sequence at N B C c o (passes at.slot 0 xs ++ x ∷ []) u (beside view t w)
        (after_code at N B C c (4 * length xs) (passes at.slot 0 xs) (x ∷ []) o w u t (PassingIn w 0 (map v xs) u)
        (passes_ran at.names at.slot at.named at.numbered w.globals w.memory at.size at.turns at.stack_callee 0 xs (map v xs) u (omega (arith, few)) (reads_held L xs v w u hs live r) r.machine)
        (λ u' t' p le. last at N B C c o x u' (beside view t' w) _ (ap (λ z. does at x u' z) (same t')) (f u' t' p le)))

    -- ---- leaving

    pub return_same : (L : ℕ → Type 0) (xs : List ℕ) (v : Locals) (w : World) (u : Frame) (t : ℕ) → length xs ≡ at.results → AllNamed xs → ((y : ℕ) → has xs y ≡ true → L y) → Held at L v w u → Within 1 c t w
        → SameAt at N B C c (Returned (map v xs) (stepped (8 + length xs) w)) (does at (s.Seq (passes at.slot 0 xs ++ s.Return ∷ [])) u (beside view t w))
    return_same L xs v w u t count hs live r le =
        let w' : World = stepped (8 + length xs) w in
        passing_same L xs s.Return (Returned (map v xs) w') v w w' u t (let few = at.few_results in omega (arith, count, few)) hs live r (λ t. refl)
        (λ u' t' p lt.
        same_as (ends at N B C c) _ _ (Returned u' (beside view (t' + 5) w')) (stack_at at.size at.turns at.stack_callee o_s.Return s.Return s.rolls-Return u' (beside view t' w'))
        (matched (record { second = u'; toll = t' + 5; holds = (record { count_is = length-map xs v ∙ count; carried = record { carries = p.carries; machine = p.beside } }, omega (arith, le, lt)); is = refl })))

    pub raise_same : (L : ℕ → Type 0) (i : ℕ) (xs : List ℕ) (v : Locals) (w : World) (u : Frame) (t : ℕ) → slice_get (at.scope).widths i ≡ Some (length xs) → AllNamed xs → ((y : ℕ) → has xs y ≡ true → L y) → Held at L v w u → Within 1 c t w
        → SameAt at N B C c (Raised i (map v xs) (stepped (8 + length xs) w)) (does at (s.Seq (passes at.slot 0 xs ++ s.Raise i ∷ [])) u (beside view t w))
    raise_same L i xs v w u t known hs live r le =
        let w' : World = stepped (8 + length xs) w in
        passing_same L xs (s.Raise i) (Raised i (map v xs) w') v w w' u t (at.few_widths i (length xs) known) hs live r (λ t. refl)
        (λ u' t' p lt.
        same_as (ends at N B C c) _ _ (Raised i u' (beside view (t' + 3) w')) (stack_at at.size at.turns at.stack_callee (o_s.Raise i) (s.Raise i) (s.rolls-Raise i) u' (beside view t' w'))
        (matched (record {
          second = u';
          toll = t' + 3;
          holds = (record { known = known ∙ ap Some (sym (length-map xs v)); carried = record { carries = p.carries; machine = p.beside } }, omega (arith, le, lt));
          is = refl;
        })))

    -- the arguments of a function are passed, and the stack that is left is enough for what the costs say
    pub given : (ns : List ℕ) (w : World) (u u' : Frame) → PassingIn w 0 ns u u' → (w' : World) → w'.globals ≡ w.globals → w'.memory ≡ w.memory → Carried at.names ns w' u'
    given ns w u u' p w' g m =
        record { carries = p.carries; machine = subst (λ g. Machine at.names g w'.memory u'.seen) (sym g) (subst (λ m. Machine at.names w.globals m u'.seen) (sym m) p.beside) }

    pub tail_same : (L : ℕ → Type 0) (f : ℕ) (a : Arity) (xs : List ℕ) (v : Locals) (w : World) (u : Frame) (t : ℕ) → slice_get (at.scope).arities f ≡ Some a → length xs ≡ a.parameters → a.results ≡ at.results → AllNamed xs → ((y : ℕ) → has xs y ≡ true → L y) → Held at L v w u → Within 1 c t w
        → SameAt at N B C c (tail_call at.word_callee f (Some (map v xs)) (stepped (8 + length xs) w)) (does at (s.Seq (passes at.slot 0 xs ++ s.TailCall f ∷ [])) u (beside view t w))
    tail_same L f a xs v w u t known count gives hs live r le =
        let w' : World = stepped (8 + length xs) w in
        passing_same L xs (s.TailCall f) _ v w w' u t (let k = at.few_arities f a known in let few = k.parameters in omega (arith, count, few)) hs live r (λ t. refl)
        (λ u' t' p lt.
        same_as (ends at N B C c) _ _ (tail_call (stack.after 6 at.stack_callee) f (Some (unframed at.size u')) (beside view t' w')) (stack_at at.size at.turns at.stack_callee (o_s.TailCall f) (s.TailCall f) (s.rolls-TailCall f) u' (beside view t' w'))
        (tails_same (ends at N B C c) at.word_callee (stack.after 6 at.stack_callee) f (map v xs) (unframed at.size u') w' t' (omega (arith, le, lt))
        (λ n.
        let w2 : World = leaving (record w' { fuel = n }) in
        subst (λ k. Same (left_with_results k) (at.word_callee f (map v xs) w2) (at.stack_callee f (unframed at.size u') (beside view (t' + 6) w2))) gives
        (at.follows c f a known (map v xs) w2 (unframed at.size u') (t' + 6) (length-map xs v ∙ count)
        (record { carried = record { carries = carries_on 0 (map v xs) u' (unframed at.size u') (λ j le. refl) p.carries; machine = p.beside }; budget = enough u' w2 ((p.kept).room ∙ r.room_is) (ap (λ n. n - w2.own) r.active ∙ ap (λ n. at.act - n) r.own_is) }, omega (arith, le, lt))))))
      where
        left_with_results : ℕ → Ends (List ℕ) (Unit {0}) (Unit {0}) (Unit {0}) (List ℕ) Frame
        left_with_results k = left_paid view (exhausting at.total 1) 1 c (Gives at.names k) (Raises at.names (at.scope).widths)

        enough : (u' : Frame) (w2 : World) → u'.room ≡ at.room → w2.active ≡ at.act - at.own → at.total ≤ u'.room + at.size + w2.active
        enough u' w2 e f = let b = at.budget in omega (arith, b, e, f)

    -- ---- calls

    -- the variables that a call leaves, in the frame, whatever the callee does to registers
    pub back_words : (L M : ℕ → Type 0) (v : Locals) (w : World) (u u1 y : Frame) → KeptIn at u u1 → ((x : ℕ) → nat_lt x first_slot ≡ true → M x → ⊥) → ((x : ℕ) → M x → L x) → Held at L v w u
        → (x : ℕ) → has at.named x ≡ true → M x → (value at x (back_with u1 y) ≡ Some (v x)) × IsWord (v x)
    back_words L M v w u u1 y p across live r x h l = let q = r.words x h (live x l) in (by (nat_lt x first_slot) refl (p.homes x h ∙ q.0), q.1)
      where
        by : (b : Bool) → nat_lt x first_slot ≡ b → (if b then Some (reg u1.seen x) else u1.slots (at.slot x)) ≡ Some (v x) → (if b then Some (reg y.seen x) else u1.slots (at.slot x)) ≡ Some (v x)
        by true is e = absurd (across x is l)
        by false is e = e

    -- the words that are passed go to their variables
    pub fetching : (M : ℕ → Type 0) (xs ns : List ℕ) (v : Locals) (w : World) (u : Frame) → length xs ≤ most_words → length xs ≤ length ns → AllNamed xs → Carries 0 ns u → Machine at.names w.globals w.memory u.seen
        → ((x : ℕ) → has at.named x ≡ true → (has xs x ≡ false) × M x → (value at x u ≡ Some (v x)) × IsWord (v x)) → RanIn at (4 * length xs) (fetches at.slot 0 xs) u (FetchedIn w M (write_all xs ns v) u)
    fetching M xs ns v w u few fit hs cs m h = fetches_ran at.names at.slot at.named at.numbered w.globals w.memory at.size at.turns at.stack_callee 0 xs ns M v u (omega (arith, few)) fit hs cs h m

    pub fetched_held : (M : ℕ → Type 0) (v : Locals) (w : World) (u u' : Frame) → FetchedIn w M v u u' → u.room ≡ at.room → w.active ≡ at.act → w.own ≡ at.own → Held at M v w u'
    fetched_held M v w u u' p room active own = record { words = p.words; machine = p.beside; room_is = p.room ∙ room; active = active; own_is = own }
