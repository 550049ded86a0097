-- The code of a statement follows the statement.
use Rattle.std.proofs.Common.{◌≡◌, ◌⊎◌, inl, inr, ℕ, ℤ, pos, negsuc, ◌+◌, ◌≤◌, List, [], ◌∷◌, ◌++◌, map, length, Option, Some, None, Bool, true, false, refl, sym, ap, ◌∙◌, subst, arith}
use Rattle.std.specs.Prelude.{nat_lt, nat_eq, ◌&&◌, ◌||◌, ◌==◌, flat_map, slice_get}
use Rattle.std.specs.List.{list_all}
use Rattle.std.proofs.lemmas.Bool.Decides.{nat_tests}
use Rattle.pan_base.specs.Results.{plus, immediate, r_result, i_result, sh_result, l_result, loads, stores}
use Rattle.pan_base.specs.Words.{IsWord}
use Rattle.pan_base.proofs.ResultLaws.{r_result_is_word, i_result_is_word, sh_result_is_word, l_result_is_word}
use Rattle.pan_control.specs.World.{tolled}
use Rattle.pan_control.specs.Control.{Normal, Broken, Continued, Raised, and_then, in_turn}
use Rattle.pan_flow.specs.Flow.{Reads, Writes, Leaves, AtEnd, AtBreak, AtContinue, Flow, Then, Loop, Ways, act_first, either_way, ways, in_body, Live, Somewhere, LiveAfterCall}
use Rattle.pan_flow.specs.Functions.{variables, all_in_turn, reads}
use Rattle.pan_flow.proofs.Ways.{Rest, Next, Test, Turn, after, head_has_turn, live_within, live_read, live_past_read, live_past_leave}
use Rattle.pan_stage.specs.Data.{World, Meaning, read, write as write_data}
use Rattle.pan_stage.specs.Locals.{Locals}
use Rattle.pan_stage.specs.Mentions.{Mention, Arity, is_right, is_some_and, is_immediate}
use Rattle.pan_stage.specs.Mentions as mention
use Rattle.pan_stage.specs.Programs.{Does}
use Rattle.pan_stage.specs.Toll.{stepped}
use Rattle.pan_stage.specs.declared.program.Handler.{Handler}
use Rattle.pan_stage.proofs.DataLaws.{number_fits}
use Rattle.pan_stage.proofs.Grows.{extends_self}
use Rattle.pan_stage.proofs.Follows.{beside, matched, same_as, then_same, normal, with_same}
use Rattle.pan_stage.proofs.Paid.{Paid}
use Rattle.riscv_isa.specs.declared.instr.Instr.TheVariants as instr
use Rattle.riscv_isa.specs.Step.{Runs, reg, with_reg, next}
use Rattle.word_lang.specs.Homes.{first_slot}
use Rattle.word_lang.specs.Meaning.{run_layer, run}
use Rattle.word_lang.specs.Text.{flow_layer, flow_of, mentions_layer, mentions, variables_read}
use Rattle.word_lang.specs.declared.syntax.Stmt.{Stmt as WordStmt, Stmt-F, roll-Stmt, map-Stmt, fold-roll-Stmt}
use Rattle.word_lang.specs.declared.syntax.Stmt.TheOpen as tree
use Rattle.word_lang.proofs.Equations.{stmt_induct}
use Rattle.stack_lang.specs.Frame.{back_with}
use Rattle.stack_lang.specs.Meaning as stack
use Rattle.stack_lang.specs.declared.syntax.Catch.{Catch}
use Rattle.stack_lang.specs.declared.syntax.Stmt.{Stmt}
use Rattle.stack_lang.specs.declared.syntax.Stmt.TheVariants as s
use Rattle.stack_lang.specs.declared.syntax.Stmt.TheOpen as o_s
use Rattle.stack_frames.specs.Constants.{constant}
use Rattle.stack_frames.specs.Frames.{register_of, puts, passes, fetches, framed_layer, framed}
use Rattle.stack_frames.proofs.Rows.{stack_at, plain_writes}
use Rattle.stack_frames.proofs.Moves.{passes_ran, Passing}
use Rattle.stack_frames.proofs.Operations.{constant_put, one_put, two_put, load_runs, Stored, store_put}
use Rattle.stack_frames.proofs.WordGrows.{word_roll, run_grows, row_grows, gave_grows, caught_grows}
use Rattle.stack_frames.proofs.Flows.{has_first, has_rest, has_left, has_right, all_left, all_right, all_head, all_tail, live_past_set, live_past_write_one}
use Rattle.stack_frames.proofs.Following.{view, Setting, code, does, Held, ends, SameAt, FollowsAt, fewer, kept_held, after_code, code_ends, in_sequence, put_same}
use Rattle.stack_frames.proofs.Asking.{shared_load_same, shared_store_same}
use Rattle.stack_frames.proofs.ForeignCalls.{foreign_same}
use Rattle.stack_frames.proofs.Leaving.{AllNamed, reads_held, return_same, raise_same, tail_same}
use Rattle.stack_frames.proofs.Calls.{call_same, results_same, handled_results_same, thrown_same, caught_same}
use Rattle.stack_frames.proofs.Choices.{if_same, while_same}

-- ---- layers

pub flow_roll : (y : Stmt-F WordStmt) → flow_of (roll-Stmt y) ≡ flow_layer (map-Stmt WordStmt Flow flow_of y)
unfolding flow_of
flow_roll y = fold-roll-Stmt Flow flow_layer y

pub mentions_roll : (y : Stmt-F WordStmt) → mentions (roll-Stmt y) ≡ mentions_layer (map-Stmt WordStmt (List Mention) mentions y)
unfolding mentions
mentions_roll y = fold-roll-Stmt (List Mention) mentions_layer y

pub framed_roll : (slot : ℕ → ℕ) (y : Stmt-F WordStmt) → framed slot (roll-Stmt y) ≡ framed_layer slot (map-Stmt WordStmt Stmt (framed slot) y)
unfolding framed
framed_roll slot y = fold-roll-Stmt Stmt (framed_layer slot) y

-- ---- what the mentions say

immediate_is_small : (i : ℤ) → is_immediate i ≡ true → IsWord (immediate i)
immediate_is_small (pos n) h = grind (arith, nat_tests)
immediate_is_small (negsuc n) h = omega arith

-- a call mentions a function that takes as many words, and returns as many or they go nowhere
pub record IsCalled (arities : List Arity) (f n m : ℕ) : Type 0 where
  pub arity : Arity
  pub known : slice_get arities f ≡ Some arity
  pub takes : n ≡ arity.parameters
  pub gives : (m ≡ 0) ⊎ (m ≡ arity.results)

pub is_called : (arities : List Arity) (f n m : ℕ) → is_some_and (λ (a : Arity). n == a.parameters && (m == 0 || m == a.results)) (slice_get arities f) ≡ true → IsCalled arities f n m
is_called arities f n m = by (slice_get arities f) refl
  where
    gives_so : (a : Arity) → (m == 0 || m == a.results) ≡ true → (m ≡ 0) ⊎ (m ≡ a.results)
    gives_so a = cases (nat_eq m 0) (nat_eq m a.results) refl refl
      where
        cases : (x y : Bool) → nat_eq m 0 ≡ x → nat_eq m a.results ≡ y → (x || y) ≡ true → (m ≡ 0) ⊎ (m ≡ a.results)
        cases true y e f h = inl (grind (arith, nat_tests))
        cases false true e f h = inr (grind (arith, nat_tests))
        cases false false e f h = absurd (cc h)

    by : (o : Option Arity) → slice_get arities f ≡ o → is_some_and (λ (a : Arity). n == a.parameters && (m == 0 || m == a.results)) o ≡ true → IsCalled arities f n m
    by None e h = absurd (cc h)
    by (Some a) e h = two (nat_eq n a.parameters) refl h
      where
        two : (x : Bool) → nat_eq n a.parameters ≡ x → (x && (m == 0 || m == a.results)) ≡ true → IsCalled arities f n m
        two true k h = record { arity = a; known = e; takes = grind (arith, nat_tests); gives = gives_so a h }
        two false k h = absurd (cc h)

pub record IsTailCalled (arities : List Arity) (f n own : ℕ) : Type 0 where
  pub arity : Arity
  pub known : slice_get arities f ≡ Some arity
  pub takes : n ≡ arity.parameters
  pub gives : arity.results ≡ own

pub is_tail_called : (arities : List Arity) (f n own : ℕ) → is_some_and (λ (a : Arity). n == a.parameters && a.results == own) (slice_get arities f) ≡ true → IsTailCalled arities f n own
is_tail_called arities f n own = by (slice_get arities f) refl
  where
    by : (o : Option Arity) → slice_get arities f ≡ o → is_some_and (λ (a : Arity). n == a.parameters && a.results == own) o ≡ true → IsTailCalled arities f n own
    by None e h = absurd (cc h)
    by (Some a) e h = two (nat_eq n a.parameters) (nat_eq a.results own) refl refl h
      where
        two : (x y : Bool) → nat_eq n a.parameters ≡ x → nat_eq a.results own ≡ y → (x && y) ≡ true → IsTailCalled arities f n own
        two true true k l h = record { arity = a; known = e; takes = grind (arith, nat_tests); gives = grind (arith, nat_tests) }
        two true false k l h = absurd (cc h)
        two false y k l h = absurd (cc h)

-- an exception carries so many words
pub is_width : (widths : List ℕ) (i n : ℕ) → is_some_and (λ width. n == width) (slice_get widths i) ≡ true → slice_get widths i ≡ Some n
is_width widths i n = by (slice_get widths i)
  where
    by : (o : Option ℕ) → is_some_and (λ width. n == width) o ≡ true → o ≡ Some n
    by None h = absurd (cc h)
    by (Some k) h = ap Some (let e : k ≡ n = grind (arith, nat_tests) in e)

-- ---- all statements

module _ (at : Setting) where
  -- what is asked of a statement, by its flow, what it mentions, and what comes after it
  pub record Formed (flow : Flow) (ms : List Mention) (r : Rest) : Type 0 where
    pub named : AllNamed at (variables flow)
    pub right : list_all (is_right at.scope at.results) ms ≡ true
    pub clear : (x : ℕ) → nat_lt x first_slot ≡ true → Somewhere (LiveAfterCall x) flow (after r) → ⊥

  -- this code follows this meaning, where the flow says what is live
  abbrev pub FollowsFlow : Flow → Rest → Meaning Locals (List ℕ) → stack.Does → Type 0
  FollowsFlow flow r m m' = FollowsAt at (Live (after r AtEnd)) (Live (after r AtBreak)) (Live (after r AtContinue)) (Live (ways flow (after r))) m m'

  abbrev word_run : WordStmt → Does
  word_run = run at.names at.turns at.word_callee

  abbrev pub IsFramed : WordStmt → Type 0
  IsFramed x = (r : Rest) → Formed (flow_of x) (mentions x) r → FollowsFlow (flow_of x) r (word_run x) (does at (framed at.slot x))

  abbrev parts : Stmt-F ((x : WordStmt) × IsFramed x) → Stmt-F WordStmt
  parts y = map-Stmt ((x : WordStmt) × IsFramed x) WordStmt (λ p. p.0) y

  firsts : List ((x : WordStmt) × IsFramed x) → List WordStmt
  firsts all = map (λ p. p.0) all

  -- ---- rows

  sequence_same : (all : List ((x : WordStmt) × IsFramed x)) (r : Rest) → Formed (all_in_turn (map flow_of (map (λ p. p.0) all))) (flat_map (λ s. s) (map mentions (map (λ p. p.0) all))) r
      → FollowsFlow (all_in_turn (map flow_of (map (λ p. p.0) all))) r (in_turn (map word_run (map (λ p. p.0) all))) (code at (map (framed at.slot) (map (λ p. p.0) all)))
  sequence_same [] r fm c v w u t given = normal (ends at (Live (after r AtEnd)) (Live (after r AtBreak)) (Live (after r AtContinue)) c) v w u t given
  sequence_same (p ∷ all) r fm c v w u t given =
      let g : Flow = all_in_turn (map flow_of (map (λ p. p.0) all)) in
      then_same (ends at (Live (after r AtEnd)) (Live (after r AtBreak)) (Live (after r AtContinue)) c) (Paid 1 c (Held at (Live (ways g (after r))))) (word_run p.0 v w) (does at (framed at.slot p.0) u (beside view t w))
      (in_turn (map word_run (map (λ p. p.0) all))) (code at (map (framed at.slot) (map (λ p. p.0) all)))
      (p.1 (Next g r) (record {
        named = λ x h. fm.named x (has_left x (variables (flow_of p.0)) (variables g) h);
        right = all_left (is_right at.scope at.results) (mentions p.0) (flat_map (λ s. s) (map mentions (map (λ p. p.0) all))) fm.right;
        clear = λ x l h. fm.clear x l (inl h);
      }) c v w u t given)
      (sequence_same all r (record {
        named = λ x h. fm.named x (has_right x (variables (flow_of p.0)) (variables g) h);
        right = all_right (is_right at.scope at.results) (mentions p.0) (flat_map (λ s. s) (map mentions (map (λ p. p.0) all))) fm.right;
        clear = λ x l h. fm.clear x l (inr h);
      }) c)
      (λ w after h. row_grows at.names at.turns at.word_callee at.grows (map (λ p. p.0) all))

  -- ---- each statement

  live_left : (a b : Ways) (x : ℕ) → Live a x → Live (either_way a b) x
  live_left a b x l = (l.0, inl l.1, l.2)

  live_right : (a b : Ways) (x : ℕ) → Live b x → Live (either_way a b) x
  live_right a b x l = (l.0, inr l.1, l.2)

  framed_same : (z : Stmt-F ((x : WordStmt) × IsFramed x)) (r : Rest) → Formed (flow_layer (map-Stmt WordStmt Flow flow_of (parts z))) (mentions_layer (map-Stmt WordStmt (List Mention) mentions (parts z))) r
      → FollowsFlow (flow_layer (map-Stmt WordStmt Flow flow_of (parts z))) r (run_layer at.names at.turns at.word_callee (map-Stmt WordStmt Does word_run (parts z))) (does at (framed_layer at.slot (map-Stmt WordStmt Stmt (framed at.slot) (parts z))))
  framed_same tree.Skip r fm c v w u t given =
      let le = given.1 in
      in_sequence at (Live (after r AtEnd)) (Live (after r AtBreak)) (Live (after r AtContinue)) c _ [] u (beside view t w)
      (matched (record { second = u; toll = t; holds = (fewer at _ _ v w (stepped 0 w) u (λ x l. l) refl refl refl refl given.0, omega (arith, le)); is = refl }))
  framed_same (tree.Seq all) r fm c v w u t given =
      let le = given.1 in
      in_sequence at (Live (after r AtEnd)) (Live (after r AtBreak)) (Live (after r AtContinue)) c _ (map (framed at.slot) (map (λ p. p.0) all)) u (beside view t w)
      (sequence_same all r fm c v (stepped 0 w) u t (fewer at _ _ v w (stepped 0 w) u (λ x l. l) refl refl refl refl given.0, omega (arith, le)))
  framed_same (tree.Const x n) r fm c v w u t given =
      let le = given.1 in let m = (given.0).machine in
      let small : IsWord n = (let h = all_head (is_right at.scope at.results) (mention.Number n) [] fm.right in grind (arith, nat_tests)) in
      let hx = fm.named x (has_first x []) in
      put_same at (Live (after r AtEnd)) (Live (after r AtBreak)) (Live (after r AtContinue)) c (Live (act_first (Writes (x ∷ [])) (after r AtEnd))) 11 x n (map s.Plain (constant (register_of 5 x) n) ++ puts at.slot x 5) v w u t
      (let e : 11 ≤ 16 = omega arith in e) small (λ y ne l. live_past_write_one x (after r AtEnd) y ne l) given.0 le
      (constant_put at.names at.slot at.named at.numbered w.globals w.memory at.size at.turns at.stack_callee x n u hx small m)
  framed_same (tree.Reg o x a b) r fm c v w u t given =
      let le = given.1 in let h = given.0 in
      let named_a = fm.named a (has_first a (b ∷ x ∷ [])) in
      let named_b = fm.named b (has_rest a b (b ∷ x ∷ []) (has_first b (x ∷ []))) in
      let named_x = fm.named x (has_rest a x (b ∷ x ∷ []) (has_rest b x (x ∷ []) (has_first x []))) in
      let wa = h.words a named_a (live_read (a ∷ b ∷ []) _ a (has_first a (b ∷ []))) in
      let wb = h.words b named_b (live_read (a ∷ b ∷ []) _ b (has_rest a b (b ∷ []) (has_first b []))) in
      let n = r_result o (v a) (v b) in
      let small = r_result_is_word o (v a) (v b) wa.1 wb.1 in
      put_same at (Live (after r AtEnd)) (Live (after r AtBreak)) (Live (after r AtContinue)) c (Live (ways (flow_layer (tree.Reg o x a b)) (after r))) 10 x n _ v w u t (let e : 10 ≤ 16 = omega arith in e) small (λ y ne l. live_past_set x (a ∷ b ∷ []) (after r AtEnd) y ne l) h le
      (two_put at.names at.slot at.named at.numbered w.globals w.memory at.size at.turns at.stack_callee (λ d r s'. s.Plain (instr.R o d r s')) x a b (v a) (v b) n u named_x named_a named_b wa.0 wb.0 small h.machine
      (λ u1 e f w1. plain_writes at.size at.turns at.stack_callee (instr.R o (register_of 5 x) (register_of 5 a) (register_of 6 b)) (register_of 5 x) n u1
      (ap (λ k. Runs (next (with_reg u1.seen (register_of 5 x) (r_result o k (reg u1.seen (register_of 6 b)))))) e ∙ ap (λ k. Runs (next (with_reg u1.seen (register_of 5 x) (r_result o (v a) k)))) f) w1))
  framed_same (tree.Imm o x a i) r fm c v w u t given =
      let le = given.1 in let h = given.0 in
      let named_a = fm.named a (has_first a (x ∷ [])) in
      let named_x = fm.named x (has_rest a x (x ∷ []) (has_first x [])) in
      let wa = h.words a named_a (live_read (a ∷ []) _ a (has_first a [])) in
      let n = i_result o (v a) i in
      let small = i_result_is_word o (v a) i wa.1 (immediate_is_small i (all_head (is_right at.scope at.results) (mention.Immediate i) [] fm.right)) in
      put_same at (Live (after r AtEnd)) (Live (after r AtBreak)) (Live (after r AtContinue)) c (Live (ways (flow_layer (tree.Imm o x a i)) (after r))) 7 x n _ v w u t (let e : 7 ≤ 16 = omega arith in e) small (λ y ne l. live_past_set x (a ∷ []) (after r AtEnd) y ne l) h le
      (one_put at.names at.slot at.named at.numbered w.globals w.memory at.size at.turns at.stack_callee (λ d r. s.Plain (instr.I o d r i)) x a (v a) n u named_x wa.0 small h.machine
      (λ u1 k b e w1. plain_writes at.size at.turns at.stack_callee (instr.I o (register_of 5 x) (register_of 5 a) i) (register_of 5 x) n u1 (ap (λ k. Runs (next (with_reg u1.seen (register_of 5 x) (i_result o k i)))) e) w1))
  framed_same (tree.Sh o x a j) r fm c v w u t given =
      let le = given.1 in let h = given.0 in
      let named_a = fm.named a (has_first a (x ∷ [])) in
      let named_x = fm.named x (has_rest a x (x ∷ []) (has_first x [])) in
      let wa = h.words a named_a (live_read (a ∷ []) _ a (has_first a [])) in
      let n = sh_result o (v a) j in
      let small = sh_result_is_word o (v a) j wa.1 in
      put_same at (Live (after r AtEnd)) (Live (after r AtBreak)) (Live (after r AtContinue)) c (Live (ways (flow_layer (tree.Sh o x a j)) (after r))) 7 x n _ v w u t (let e : 7 ≤ 16 = omega arith in e) small (λ y ne l. live_past_set x (a ∷ []) (after r AtEnd) y ne l) h le
      (one_put at.names at.slot at.named at.numbered w.globals w.memory at.size at.turns at.stack_callee (λ d r. s.Plain (instr.Sh o d r j)) x a (v a) n u named_x wa.0 small h.machine
      (λ u1 k b e w1. plain_writes at.size at.turns at.stack_callee (instr.Sh o (register_of 5 x) (register_of 5 a) j) (register_of 5 x) n u1 (ap (λ k. Runs (next (with_reg u1.seen (register_of 5 x) (sh_result o k j)))) e) w1))
  framed_same (tree.Load o x a i) r fm c v w u t given =
      let le = given.1 in let h = given.0 in
      let named_a = fm.named a (has_first a (x ∷ [])) in
      let named_x = fm.named x (has_rest a x (x ∷ []) (has_first x [])) in
      let wa = h.words a named_a (live_read (a ∷ []) _ a (has_first a [])) in
      let m = h.machine in
      with_same (ends at (Live (after r AtEnd)) (Live (after r AtBreak)) (Live (after r AtContinue)) c) (read (loads o) w.globals w.memory (plus (v a) i)) (stepped 1 w) _ _
      (λ n is.
      let small = l_result_is_word o n (number_fits (loads o) w.globals w.memory (plus (v a) i) n m.global_bytes m.local_bytes is) in
      put_same at (Live (after r AtEnd)) (Live (after r AtBreak)) (Live (after r AtContinue)) c (Live (ways (flow_layer (tree.Load o x a i)) (after r))) 7 x (l_result o n) _ v w u t (let e : 7 ≤ 16 = omega arith in e) small (λ y ne l. live_past_set x (a ∷ []) (after r AtEnd) y ne l) h le
      (one_put at.names at.slot at.named at.numbered w.globals w.memory at.size at.turns at.stack_callee (λ d r. s.Plain (instr.L o d r i)) x a (v a) (l_result o n) u named_x wa.0 small m
      (λ u1 k b e w1. load_runs at.names at.slot at.named at.numbered w.globals w.memory at.size at.turns at.stack_callee o (register_of 5 x) (register_of 5 a) (plus (v a) i) n i u1 b (ap (λ z. plus z i) e) is w1)))
  framed_same (tree.Store o x a i) r fm c v w u t given =
      let le = given.1 in let h = given.0 in
      let named_a = fm.named a (has_first a (x ∷ [])) in
      let named_x = fm.named x (has_rest a x (x ∷ []) (has_first x [])) in
      let wa = h.words a named_a (live_read (a ∷ x ∷ []) _ a (has_first a (x ∷ []))) in
      let wx = h.words x named_x (live_read (a ∷ x ∷ []) _ x (has_rest a x (x ∷ []) (has_first x []))) in
      let w1 : World = stepped 1 w in
      with_same (ends at (Live (after r AtEnd)) (Live (after r AtBreak)) (Live (after r AtContinue)) c) (write_data (stores o) w.globals w.memory (plus (v a) i) (v x)) w1 _ _
      (λ d is.
      let w2 : World = record w1 { globals = d.0; memory = d.1 } in
      in_sequence at (Live (after r AtEnd)) (Live (after r AtBreak)) (Live (after r AtContinue)) c (Normal v w2) _ u (beside view t w)
      (code_ends at (Live (after r AtEnd)) (Live (after r AtBreak)) (Live (after r AtContinue)) c 7 _ v w w2 u t (Stored at.names at.slot at.named at.numbered w.globals w.memory at.size at.turns at.stack_callee d.0 d.1 u)
      (store_put at.names at.slot at.named at.numbered w.globals w.memory at.size at.turns at.stack_callee o x a (plus (v a) i) (v a) (v x) i u d named_a named_x wa.0 wx.0 h.machine refl is)
      (λ u' p. kept_held at _ (Live (after r AtEnd)) v w w2 u u' (λ y l. live_past_read (a ∷ x ∷ []) (after r AtEnd) y l) p.kept p.beside refl refl h) (omega (arith, le)) (λ t. refl)))
  framed_same (tree.If y x z) r fm c v w u t given =
      let F = flow_of x.0 in let G = flow_of z.0 in
      let a = ways F (after r) in let b = ways G (after r) in
      if_same at (Live (after r AtEnd)) (Live (after r AtBreak)) (Live (after r AtContinue)) c (Live (act_first (Reads (variables_read y)) (either_way a b))) (Live a) (Live b) y (word_run x.0) (word_run z.0) (framed at.slot x.0) (framed at.slot z.0) v w u t
      (λ q h. fm.named q (has_left q (variables_read y) (variables F ++ variables G) h)) (λ q h. live_read (variables_read y) (either_way a b) q h)
      (λ q l. live_past_read (variables_read y) (either_way a b) q (live_left a b q l)) (λ q l. live_past_read (variables_read y) (either_way a b) q (live_right a b q l))
      (x.1 r (record {
        named = λ q h. fm.named q (has_right q (variables_read y) (variables F ++ variables G) (has_left q (variables F) (variables G) h));
        right = all_left (is_right at.scope at.results) (mentions x.0) (mentions z.0) fm.right;
        clear = λ q l h. fm.clear q l (inr (inl h));
      }))
      (z.1 r (record {
        named = λ q h. fm.named q (has_right q (variables_read y) (variables F ++ variables G) (has_right q (variables F) (variables G) h));
        right = all_right (is_right at.scope at.results) (mentions x.0) (mentions z.0) fm.right;
        clear = λ q l h. fm.clear q l (inr (inr h));
      }))
      given.0 given.1
  framed_same (tree.While before y x) r fm c v w u t given =
      let A = all_in_turn (map flow_of (map (λ p. p.0) before)) in
      let R = reads (variables_read y) in
      let F = Then A R in
      let G = flow_of x.0 in
      let K = after r in
      let head = ways (Loop F G) K in
      let inner = ways G (in_body head K) in
      let tested = either_way (K AtEnd) inner in
      while_same at (Live (K AtEnd)) (Live (K AtBreak)) (Live (K AtContinue)) c (Live head) (Live (act_first (Reads (variables_read y)) tested)) (Live tested) (Live inner) (map word_run (map (λ p. p.0) before)) y (word_run x.0) (map (framed at.slot) (map (λ p. p.0) before)) (framed at.slot x.0) v w u t
      (λ q h. fm.named q (has_left q (variables A ++ variables_read y) (variables G) (has_right q (variables A) (variables_read y) h)))
      (λ q h. live_read (variables_read y) tested q h) (λ q l. live_past_read (variables_read y) tested q l) (λ q l. live_left (K AtEnd) inner q l) (λ q l. live_right (K AtEnd) inner q l)
      (λ c v w u t h. sequence_same before (Next R (Test F G r)) (record {
        named = λ q h. fm.named q (has_left q (variables A ++ variables_read y) (variables G) (has_left q (variables A) (variables_read y) h));
        right = all_left (is_right at.scope at.results) (flat_map (λ s. s) (map mentions (map (λ p. p.0) before))) (mentions x.0) fm.right;
        clear = λ q l h. fm.clear q l (inl (inl h));
      }) c v w u t (fewer at (Live head) _ v w w u (λ q l. live_within _ head q (head_has_turn F G K) l) refl refl refl refl h.0, h.1))
      (x.1 (Turn F G r) (record {
        named = λ q h. fm.named q (has_right q (variables A ++ variables_read y) (variables G) h);
        right = all_right (is_right at.scope at.results) (flat_map (λ s. s) (map mentions (map (λ p. p.0) before))) (mentions x.0) fm.right;
        clear = λ q l h. fm.clear q l (inr h);
      }))
      (row_grows at.names at.turns at.word_callee at.grows (map (λ p. p.0) before)) (run_grows at.names at.turns at.word_callee at.grows x.0)
      given.0 given.1
  framed_same tree.Break r fm c v w u t given =
      let le = given.1 in
      same_as (ends at (Live (after r AtEnd)) (Live (after r AtBreak)) (Live (after r AtContinue)) c) _ _ (Broken u (beside view (t + 2) w)) (stack_at at.size at.turns at.stack_callee o_s.Break s.Break s.rolls-Break u (beside view t w))
      (matched (record { second = u; toll = t + 2; holds = (fewer at _ _ v w (stepped 1 w) u (λ x l. l) refl refl refl refl given.0, omega (arith, le)); is = refl }))
  framed_same tree.Continue r fm c v w u t given =
      let le = given.1 in
      same_as (ends at (Live (after r AtEnd)) (Live (after r AtBreak)) (Live (after r AtContinue)) c) _ _ (Continued u (beside view (t + 2) w)) (stack_at at.size at.turns at.stack_callee o_s.Continue s.Continue s.rolls-Continue u (beside view t w))
      (matched (record { second = u; toll = t + 2; holds = (fewer at _ _ v w (stepped 1 w) u (λ x l. l) refl refl refl refl given.0, omega (arith, le)); is = refl }))
  framed_same (tree.Call xs f args None) r fm c v w u t given =
      let K = after r in
      let q = is_called (at.scope).arities f (length args) (length xs) (all_head (is_right at.scope at.results) (mention.Called f (length args) (length xs)) [] fm.right) in
      let L = Live (act_first (Reads args) (act_first (Leaves xs) (K AtEnd))) in
      let x : Stmt = s.Call f (s.Seq (fetches at.slot 0 xs)) None in
      let hs : AllNamed at xs = λ y h. fm.named y (has_right y args xs h) in
      call_same at (Live (K AtEnd)) (Live (K AtBreak)) (Live (K AtContinue)) c L f q.arity q.known v w u given.0 2 args x t _ _ (λ u1 y w. does at (s.Seq (fetches at.slot 0 xs)) (back_with u1 y) w) (λ u1 i y w. Raised i y w)
      (let e : 2 ≤ 7 = omega arith in e) q.takes (λ y h. fm.named y (has_left y args xs h)) (λ y h. live_read args (act_first (Leaves xs) (K AtEnd)) y h) given.1
      (λ u1 w1. stack_at at.size at.turns at.stack_callee (o_s.Call f (s.Seq (fetches at.slot 0 xs)) None) x (s.rolls-Call f (s.Seq (fetches at.slot 0 xs)) None) u1 w1)
      (results_same at (Live (K AtEnd)) (Live (K AtBreak)) (Live (K AtContinue)) c L f q.arity q.known v w u given.0 xs q.gives hs (λ y l p. fm.clear y l (inr p)) (λ y p. live_past_read args (act_first (Leaves xs) (K AtEnd)) y (live_past_leave xs (K AtEnd) y p.0 p.1)))
      (thrown_same at (Live (K AtEnd)) (Live (K AtBreak)) (Live (K AtContinue)) c L f q.arity q.known v w u given.0)
      (λ ns w. gave_grows at.names at.turns at.word_callee at.grows (length xs + 0) xs v ns w) (λ i ns w. record { by = extends_self w })
  framed_same (tree.Call xs f args (Some h)) r fm c v w u t given =
      let K = after r in
      let G = flow_of (h.body).0 in
      let out = either_way (act_first (Leaves xs) (K AtEnd)) (act_first (Leaves h.variables) (ways G K)) in
      let q = is_called (at.scope).arities f (length args) (length xs) (all_head (is_right at.scope at.results) (mention.Called f (length args) (length xs)) (mention.Caught h.exception (length h.variables) ∷ mentions (h.body).0) fm.right) in
      let rest = all_tail (is_right at.scope at.results) (mention.Called f (length args) (length xs)) (mention.Caught h.exception (length h.variables) ∷ mentions (h.body).0) fm.right in
      let width = is_width (at.scope).widths h.exception (length h.variables) (all_head (is_right at.scope at.results) (mention.Caught h.exception (length h.variables)) (mentions (h.body).0) rest) in
      let L = Live (act_first (Reads args) out) in
      let inner : Stmt = s.Seq (fetches at.slot 0 h.variables ++ framed at.slot (h.body).0 ∷ []) in
      let h' : Catch Stmt = record { exception = h.exception; body = inner } in
      let x : Stmt = s.Call f (s.Seq (fetches at.slot 0 xs)) (Some h') in
      let threw : Handler Does = record { exception = h.exception; variables = h.variables; body = word_run (h.body).0 } in
      let hs : AllNamed at xs = λ y k. fm.named y (has_right y args (xs ++ (h.variables ++ variables G)) (has_left y xs (h.variables ++ variables G) k)) in
      let hv : AllNamed at h.variables = λ y k. fm.named y (has_right y args (xs ++ (h.variables ++ variables G)) (has_right y xs (h.variables ++ variables G) (has_left y h.variables (variables G) k))) in
      call_same at (Live (K AtEnd)) (Live (K AtBreak)) (Live (K AtContinue)) c L f q.arity q.known v w u given.0 7 args x t _ _ (λ u1 y w. and_then (does at (s.Seq (fetches at.slot 0 xs)) (back_with u1 y) (tolled 1 w)) (stack.more 2)) (stack.caught (record { exception = h.exception; body = does at inner }))
      (let e : 7 ≤ 7 = omega arith in e) q.takes (λ y k. fm.named y (has_left y args (xs ++ (h.variables ++ variables G)) k)) (λ y k. live_read args out y k) given.1
      (λ u1 w1. stack_at at.size at.turns at.stack_callee (o_s.Call f (s.Seq (fetches at.slot 0 xs)) (Some h')) x (s.rolls-Call f (s.Seq (fetches at.slot 0 xs)) (Some h')) u1 w1)
      (handled_results_same at (Live (K AtEnd)) (Live (K AtBreak)) (Live (K AtContinue)) c L f q.arity q.known v w u given.0 xs q.gives hs (λ y l p. fm.clear y l (inr (inl p)))
      (λ y p. live_past_read args out y (live_left (act_first (Leaves xs) (K AtEnd)) (act_first (Leaves h.variables) (ways G K)) y (live_past_leave xs (K AtEnd) y p.0 p.1))))
      (caught_same at (Live (K AtEnd)) (Live (K AtBreak)) (Live (K AtContinue)) c L f q.arity q.known v w u given.0 (Live (ways G K)) h.exception h.variables (word_run (h.body).0) (framed at.slot (h.body).0) width hv (λ y l p. fm.clear y l (inr (inr (inl p))))
      (λ y p. live_past_read args out y (live_right (act_first (Leaves xs) (K AtEnd)) (act_first (Leaves h.variables) (ways G K)) y (live_past_leave h.variables (ways G K) y p.0 p.1)))
      ((h.body).1 r (record {
        named = λ y k. fm.named y (has_right y args (xs ++ (h.variables ++ variables G)) (has_right y xs (h.variables ++ variables G) (has_right y h.variables (variables G) k)));
        right = all_tail (is_right at.scope at.results) (mention.Caught h.exception (length h.variables)) (mentions (h.body).0) rest;
        clear = λ y l k. fm.clear y l (inr (inr (inr k)));
      })))
      (λ ns w. gave_grows at.names at.turns at.word_callee at.grows (length xs + 1) xs v ns w)
      (λ i ns w. caught_grows at.names at.turns at.word_callee at.grows threw (run_grows at.names at.turns at.word_callee at.grows (h.body).0) v i ns w)
  framed_same (tree.TailCall f args) r fm c v w u t given =
      let q = is_tail_called (at.scope).arities f (length args) at.results (all_head (is_right at.scope at.results) (mention.TailCalled f (length args)) [] fm.right) in
      tail_same at (Live (after r AtEnd)) (Live (after r AtBreak)) (Live (after r AtContinue)) c _ f q.arity args v w u t q.known q.takes q.gives (λ y h. fm.named y (has_left y args [] h)) (λ y h. live_read args (after r _) y h) given.0 given.1
  framed_same (tree.Return xs) r fm c v w u t given =
      let h = all_head (is_right at.scope at.results) (mention.Returned (length xs)) [] fm.right in
      return_same at (Live (after r AtEnd)) (Live (after r AtBreak)) (Live (after r AtContinue)) c _ xs v w u t (grind (arith, nat_tests)) (λ y h. fm.named y (has_left y xs [] h)) (λ y h. live_read xs (after r _) y h) given.0 given.1
  framed_same (tree.Raise i xs) r fm c v w u t given =
      raise_same at (Live (after r AtEnd)) (Live (after r AtBreak)) (Live (after r AtContinue)) c _ i xs v w u t (is_width (at.scope).widths i (length xs) (all_head (is_right at.scope at.results) (mention.Raised i (length xs)) [] fm.right))
      (λ y h. fm.named y (has_left y xs [] h)) (λ y h. live_read xs (after r _) y h) given.0 given.1
  framed_same (tree.SharedLoad size x a i) r fm c v w u t given =
      let named_a = fm.named a (has_first a (x ∷ [])) in
      let named_x = fm.named x (has_rest a x (x ∷ []) (has_first x [])) in
      shared_load_same at (Live (after r AtEnd)) (Live (after r AtBreak)) (Live (after r AtContinue)) (Live (ways (flow_layer (tree.SharedLoad size x a i)) (after r))) c size x a i v w u t named_x named_a (live_read (a ∷ []) _ a (has_first a [])) (λ y ne l. live_past_set x (a ∷ []) (after r AtEnd) y ne l) given.0 given.1
  framed_same (tree.SharedStore size x a i) r fm c v w u t given =
      let named_a = fm.named a (has_first a (x ∷ [])) in
      let named_x = fm.named x (has_rest a x (x ∷ []) (has_first x [])) in
      shared_store_same at (Live (after r AtEnd)) (Live (after r AtBreak)) (Live (after r AtContinue)) (Live (act_first (Reads (a ∷ x ∷ [])) (after r AtEnd))) c size x a i v w u t named_x named_a (live_read (a ∷ x ∷ []) _ x (has_rest a x (x ∷ []) (has_first x []))) (live_read (a ∷ x ∷ []) _ a (has_first a (x ∷ [])))
      (λ y l. live_past_read (a ∷ x ∷ []) (after r AtEnd) y l) given.0 given.1
  framed_same (tree.Foreign i conf conf_len array array_len) r fm c v w u t given =
      let le = given.1 in let h = given.0 in
      let xs : List ℕ = conf ∷ conf_len ∷ array ∷ array_len ∷ [] in
      let K = after r in
      let w1 : World = stepped 4 w in
      in_sequence at (Live (K AtEnd)) (Live (K AtBreak)) (Live (K AtContinue)) c _ (passes at.slot 0 xs ++ s.Foreign i ∷ []) u (beside view t w)
      (after_code at (Live (K AtEnd)) (Live (K AtBreak)) (Live (K AtContinue)) c 16 (passes at.slot 0 xs) (s.Foreign i ∷ []) _ w u t (Passing at.names at.slot at.named at.numbered w.globals w.memory at.size at.turns at.stack_callee 0 (map v xs) u)
      (passes_ran at.names at.slot at.named at.numbered w.globals w.memory at.size at.turns at.stack_callee 0 xs (map v xs) u (let e : 4 ≤ 128 = omega arith in e)
      (reads_held at _ xs v w u (λ y k. fm.named y (has_left y xs [] k)) (λ y k. live_read xs (act_first (Leaves []) (K AtEnd)) y k) h) h.machine)
      (λ u1 t1 p lt.
      let cs = p.carries in
      foreign_same at (Live (K AtEnd)) (Live (K AtBreak)) (Live (K AtContinue)) (Live (K AtEnd)) c (λ y l. l) i (v conf) (v conf_len) (v array) (v array_len) v w1 u1 t1
      (kept_held at _ (Live (K AtEnd)) v w w1 u u1 (λ y l. live_past_read xs (act_first (Leaves []) (K AtEnd)) y (live_past_leave [] (K AtEnd) y refl l)) p.kept p.beside refl refl h)
      cs.0 (cs.2).0 ((cs.2).2).0 (((cs.2).2).2).0 (omega (arith, le, lt))))

  pub is_framed : (x : WordStmt) → IsFramed x
  is_framed = stmt_induct IsFramed (λ z r fm c v w u t given.
      let p = parts z in
      subst (λ m. SameAt at (Live (after r AtEnd)) (Live (after r AtBreak)) (Live (after r AtContinue)) c (m v w) (does at (framed at.slot (roll-Stmt p)) u (beside view t w))) (sym (word_roll at.names at.turns at.word_callee p))
      (subst (λ x. SameAt at (Live (after r AtEnd)) (Live (after r AtBreak)) (Live (after r AtContinue)) c (run_layer at.names at.turns at.word_callee (map-Stmt WordStmt Does word_run p) v w) (does at x u (beside view t w))) (sym (framed_roll at.slot p))
      (framed_same z r (subst (λ f. Formed f (mentions_layer (map-Stmt WordStmt (List Mention) mentions p)) r) (flow_roll p) (subst (λ ms. Formed (flow_of (roll-Stmt p)) ms r) (mentions_roll p) fm)) c v w u t
      (subst (λ f. Held at (Live (ways f (after r))) v w u) (flow_roll p) given.0, given.1))))
