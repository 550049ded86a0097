-- Calls, and the exceptions that come out of them.
use Rattle.std.proofs.Common.{◌≡◌, ℕ, ◌+◌, ◌*◌, ◌≤◌, List, [], ◌∷◌, ◌++◌, map, length, Some, Bool, true, false, refl, sym, ap, ◌∙◌, subst, arith, inl, inr}
use Rattle.std.specs.Prelude.{◌⊎◌, nat_lt, nat_eq, if◌then◌else◌, slice_get}
use Rattle.std.proofs.lemmas.Bool.Decides.{nat_tests}
use Rattle.std.proofs.lemmas.List.{length-map}
use Rattle.pan_control.specs.World.{back_in, tolled}
use Rattle.pan_control.specs.Control.{Normal, Raised, and_then, call}
use Rattle.pan_flow.specs.Flow.{has}
use Rattle.pan_stage.specs.Data.{World, Outcome}
use Rattle.pan_stage.specs.Locals.{Locals, write_all}
use Rattle.pan_stage.specs.Mentions.{Arity}
use Rattle.pan_stage.specs.Programs.{Does, caught}
use Rattle.pan_stage.specs.Toll.{stepped}
use Rattle.pan_stage.specs.WellFormed.{most_words}
use Rattle.pan_stage.proofs.Grows.{Grown}
use Rattle.pan_stage.proofs.Follows.{beside, matched, same_as, call_same as calls_same}
use Rattle.pan_stage.proofs.Paid.{Within, Paid}
use Rattle.word_lang.specs.Homes.{first_slot}
use Rattle.stack_lang.specs.Frame.{Frame, back_with}
use Rattle.stack_lang.specs.Meaning as stack
use Rattle.stack_lang.specs.declared.syntax.Stmt.{Stmt}
use Rattle.stack_lang.specs.declared.syntax.Stmt.TheVariants as s
use Rattle.stack_frames.specs.Frames.{passes, fetches}
use Rattle.stack_frames.proofs.Machine.{Machine}
use Rattle.stack_frames.proofs.Homes.{carries_on}
use Rattle.stack_frames.proofs.Following.{view, StackWorld, Gives, Raises, Setting, KeptIn, does, Held, ends, SameAt, FollowsAt, after_code, code_ends, in_sequence, last, run_seq}
use Rattle.stack_frames.proofs.Leaving.{FetchedIn, AllNamed, passing_same, back_words, fetching, fetched_held}

module _ (at : Setting) (N B C : ℕ → Type 0) (c : ℕ) where
  -- no register has a word that is wanted after a call
  abbrev pub Clear : (ℕ → Type 0) → Type 0
  Clear M = (x : ℕ) → nat_lt x first_slot ≡ true → M x → ⊥

  -- what is live after a way out of a call that writes these
  abbrev pub Past : List ℕ → (ℕ → Type 0) → ℕ → Type 0
  Past xs M x = (has xs x ≡ false) × M x

  module _ (L : ℕ → Type 0) (f : ℕ) (a : Arity) (known : slice_get (at.scope).arities f ≡ Some a) (v : Locals) (w : World) (u : Frame) (r : Held at L v w u) where
    abbrev Gave : World → Locals → (Frame → Frame → StackWorld → stack.Outcome Frame Frame) → (List ℕ → World → Outcome Locals (List ℕ)) → Type 0
    Gave w0 v gave' gave =
        (u1 : Frame) (ns : List ℕ) (w : World) (y : Frame) (t : ℕ) → KeptIn at u u1 → Gives at.names a.results ns w y → w.active ≡ at.act → w.own ≡ at.own → Within 1 c t w → SameAt at N B C c (gave ns w) (gave' u1 y (beside view t w))

    abbrev Threw : (Frame → ℕ → Frame → StackWorld → stack.Outcome Frame Frame) → (ℕ → List ℕ → World → Outcome Locals (List ℕ)) → Type 0
    Threw threw' threw =
        (u1 : Frame) (i : ℕ) (ns : List ℕ) (w : World) (y : Frame) (t : ℕ) → KeptIn at u u1 → Raises at.names (at.scope).widths i ns w y → w.active ≡ at.act → w.own ≡ at.own → Within 1 c t w → SameAt at N B C c (threw i ns w) (threw' u1 i y (beside view t w))

    pub call_same : (n : ℕ) (xs : List ℕ) (x : Stmt) (t : ℕ) (gave : List ℕ → World → Outcome Locals (List ℕ)) (threw : ℕ → List ℕ → World → Outcome Locals (List ℕ)) (gave' : Frame → Frame → StackWorld → stack.Outcome Frame Frame) (threw' : Frame → ℕ → Frame → StackWorld → stack.Outcome Frame Frame)
        → n ≤ 7 → length xs ≡ a.parameters → AllNamed at xs → ((y : ℕ) → has xs y ≡ true → L y) → Within 1 c t w
        → ((u1 : Frame) (w : StackWorld) → does at x u1 w ≡ call (stack.after n at.stack_callee) f (Some u1) w (gave' u1) (threw' u1))
        → Gave w v gave' gave → Threw threw' threw → ((ns : List ℕ) (w : World) → Grown w (gave ns w)) → ((i : ℕ) (ns : List ℕ) (w : World) → Grown w (threw i ns w))
        → SameAt at N B C c (call at.word_callee f (Some (map v xs)) (stepped (8 + length xs) w) gave threw) (does at (s.Seq (passes at.slot 0 xs ++ x ∷ [])) u (beside view t w))
    call_same n xs x t gave threw gave' threw' few_n count hs live le is gv th gave_grows threw_grows =
        let w' : World = stepped (8 + length xs) w in
        passing_same at N B C c L xs x _ v w w' u t (let k = at.few_arities f a known in let few = k.parameters in omega (arith, count, few)) hs live r (λ t. refl)
        (λ u1 t1 p lt.
        same_as (ends at N B C c) _ _ (call (stack.after n at.stack_callee) f (Some u1) (beside view t1 w') (gave' u1) (threw' u1)) (is u1 (beside view t1 w'))
        (calls_same (ends at N B C c) (Paid 1 c (Gives at.names a.results)) (λ i. Paid 1 c (Raises at.names (at.scope).widths i)) at.word_callee (stack.after n at.stack_callee) f (map v xs) u1 w' t1 gave threw (gave' u1) (threw' u1) (omega (arith, le, lt))
        (λ m.
        let w2 : World = record w' { fuel = m } in
        at.follows c f a known (map v xs) w2 u1 (t1 + n) (length-map xs v ∙ count)
        (record { carried = record { carries = p.carries; machine = p.beside }; budget = enough u1 w2 ((p.kept).room ∙ r.room_is) r.active }, omega (arith, le, lt, few_n)))
        (λ ns w3 y t3 q. gv u1 ns (back_in w' w3) y t3 p.kept (gives_on ns w3 (back_in w' w3) y q.0 refl refl) r.active r.own_is q.1)
        (λ i ns w3 y t3 q. th u1 i ns (back_in w' w3) y t3 p.kept (raises_on i ns w3 (back_in w' w3) y q.0 refl refl) r.active r.own_is q.1)
        (record { gave_grows = λ w0 after h ns w. gave_grows ns w; threw_grows = λ w0 after h i ns w. threw_grows i ns w })))
      where
        enough : (u1 : Frame) (w2 : World) → u1.room ≡ at.room → w2.active ≡ at.act → at.total ≤ u1.room + w2.active
        enough u1 w2 e f = let b = at.budget in let k = at.costs in let l = at.stands in omega (arith, b, k, l, e, f)

        gives_on : (ns : List ℕ) (w w' : World) (y : Frame) → Gives at.names a.results ns w y → w'.globals ≡ w.globals → w'.memory ≡ w.memory → Gives at.names a.results ns w' y
        gives_on ns w w' y q g m =
            record { count_is = q.count_is; carried = record { carries = (q.carried).carries; machine = subst (λ g. Machine at.names g w'.memory y.seen) (sym g) (subst (λ m. Machine at.names w.globals m y.seen) (sym m) (q.carried).machine) } }

        raises_on : (i : ℕ) (ns : List ℕ) (w w' : World) (y : Frame) → Raises at.names (at.scope).widths i ns w y → w'.globals ≡ w.globals → w'.memory ≡ w.memory → Raises at.names (at.scope).widths i ns w' y
        raises_on i ns w w' y q g m =
            record { known = q.known; carried = record { carries = (q.carried).carries; machine = subst (λ g. Machine at.names g w'.memory y.seen) (sym g) (subst (λ m. Machine at.names w.globals m y.seen) (sym m) (q.carried).machine) } }

    -- ---- results

    fitting : (xs ns : List ℕ) → (length xs ≡ 0) ⊎ (length xs ≡ a.results) → length ns ≡ a.results → length xs ≤ length ns
    fitting xs ns (inl e) f = omega (arith, e)
    fitting xs ns (inr e) f = omega (arith, e, f)

    few : (xs : List ℕ) → (length xs ≡ 0) ⊎ (length xs ≡ a.results) → length xs ≤ most_words
    few xs (inl e) = omega (arith, e)
    few xs (inr e) = let k = at.few_arities f a known in let l = k.results in omega (arith, e, l)

    module _ (xs : List ℕ) (many : (length xs ≡ 0) ⊎ (length xs ≡ a.results)) (hs : AllNamed at xs) (clear : Clear (Past xs N)) (live : (x : ℕ) → Past xs N x → L x) where
      -- where the call returns, without a handler
      pub results_same : Gave w v (λ u1 y w. does at (s.Seq (fetches at.slot 0 xs)) (back_with u1 y) w) (λ ns w. Normal (write_all xs ns v) (stepped (length xs + 0) w))
      results_same u1 ns w' y t k g active own le =
          in_sequence at N B C c _ (fetches at.slot 0 xs) (back_with u1 y) (beside view t w')
          (code_ends at N B C c (4 * length xs) (fetches at.slot 0 xs) (write_all xs ns v) w' (stepped (length xs + 0) w') (back_with u1 y) t (FetchedIn at w' N (write_all xs ns v) (back_with u1 y))
          (fetching at N B C c N xs ns v w' (back_with u1 y) (few xs many) (fitting xs ns many g.count_is) hs (carries_on 0 ns y (back_with u1 y) (λ j le. refl) (g.carried).carries) (g.carried).machine
          (back_words at N B C c L (Past xs N) v w u u1 y k clear live r))
          (λ u2 p. fetched_held at N B C c N (write_all xs ns v) (stepped (length xs + 0) w') (back_with u1 y) u2 (record { words = p.words; room = p.room; beside = p.beside }) (k.room ∙ r.room_is) active own) (omega (arith, le)) (λ t. refl))

      -- and under one, whose record is taken away
      pub handled_results_same : Gave w v (λ u1 y w. and_then (does at (s.Seq (fetches at.slot 0 xs)) (back_with u1 y) (tolled 1 w)) (stack.more 2)) (λ ns w. Normal (write_all xs ns v) (stepped (length xs + 1) w))
      handled_results_same u1 ns w' y t k g active own le =
          let code_ran = fetching at N B C c N xs ns v w' (back_with u1 y) (few xs many) (fitting xs ns many g.count_is) hs (carries_on 0 ns y (back_with u1 y) (λ j le. refl) (g.carried).carries) (g.carried).machine
          (back_words at N B C c L (Past xs N) v w u u1 y k clear live r) in
          let p = code_ran.holds in
          matched (record {
            second = code_ran.after;
            toll = t + 1 + code_ran.cost + 2;
            holds = (fetched_held at N B C c N (write_all xs ns v) (stepped (length xs + 1) w') (back_with u1 y) code_ran.after (record { words = p.words; room = p.room; beside = p.beside }) (k.room ∙ r.room_is) active own, let l = code_ran.le in omega (arith, l, le));
            is = ap (λ o. and_then o (stack.more 2)) (run_seq at N B C c (fetches at.slot 0 xs) (back_with u1 y) (beside view (t + 1) w') ∙ code_ran.is (beside view (t + 1) w'));
          })

    -- ---- exceptions

    -- without a handler it goes on
    pub thrown_same : Threw (λ u1 i y w. Raised i y w) (λ i ns w. Raised i ns w)
    thrown_same u1 i ns w' y t k g active own le = matched (record { second = y; toll = t; holds = (g, le); is = refl })

    -- the handler's variables get its words, or it goes on
    pub caught_same : (M : ℕ → Type 0) (e : ℕ) (xs : List ℕ) (m : Does) (x : Stmt) → slice_get (at.scope).widths e ≡ Some (length xs) → AllNamed at xs → Clear (Past xs M) → ((x : ℕ) → Past xs M x → L x) → FollowsAt at N B C M m (does at x)
        → Threw (stack.caught (record { exception = e; body = does at (s.Seq (fetches at.slot 0 xs ++ x ∷ [])) })) (caught (Some (record { exception = e; variables = xs; body = m })) v)
    caught_same M e xs m x known_e hs clear live fm u1 i ns w' y t k g active own le = choose (nat_eq i e) refl
      where
        some : {A : Type 0} {a b : A} → Some a ≡ Some b → a ≡ b
        some e = cc e

        same_count : nat_eq i e ≡ true → length xs ≡ length ns
        same_count is = let same : i ≡ e = grind (arith, nat_tests) in some (sym known_e ∙ ap (λ i. slice_get (at.scope).widths i) (sym same) ∙ g.known)

        choose : (b : Bool) → nat_eq i e ≡ b
            → SameAt at N B C c (if b then m (write_all xs ns v) (stepped (1 + length xs) w') else Raised i ns (stepped 1 w')) (if b then does at (s.Seq (fetches at.slot 0 xs ++ x ∷ [])) (back_with u1 y) (beside view (t + 7) w') else Raised i y (beside view (t + 9) w'))
        choose true is =
            let w1 : World = stepped (1 + length xs) w' in
            in_sequence at N B C c (m (write_all xs ns v) w1) (fetches at.slot 0 xs ++ x ∷ []) (back_with u1 y) (beside view (t + 7) w1)
            (after_code at N B C c (4 * length xs) (fetches at.slot 0 xs) (x ∷ []) (m (write_all xs ns v) w1) w1 (back_with u1 y) (t + 7) (FetchedIn at w1 M (write_all xs ns v) (back_with u1 y))
            (fetching at N B C c M xs ns v w1 (back_with u1 y) (at.few_widths e (length xs) known_e) (let q = same_count is in omega (arith, q)) hs (carries_on 0 ns y (back_with u1 y) (λ j le. refl) (g.carried).carries) (g.carried).machine
            (back_words at N B C c L (Past xs M) v w u u1 y k clear live r))
            (λ u2 t2 p lt. last at N B C c (m (write_all xs ns v) w1) x u2 (beside view t2 w1) _ refl
            (fm c (write_all xs ns v) w1 u2 t2 (fetched_held at N B C c M (write_all xs ns v) w1 (back_with u1 y) u2 p (k.room ∙ r.room_is) active own, omega (arith, le, lt)))))
        choose false is = matched (record { second = y; toll = t + 9; holds = (record { known = g.known; carried = record { carries = (g.carried).carries; machine = (g.carried).machine } }, omega (arith, le)); is = refl })
