-- Tests, and the statements that go on by them.
use Rattle.std.proofs.Common.{◌≡◌, ℕ, ◌+◌, ◌≤◌, List, [], ◌∷◌, ◌++◌, map, Option, Some, None, Bool, true, false, refl, sym, ap, ◌∙◌, arith}
use Rattle.std.specs.Prelude.{if◌then◌else◌}
use Rattle.pan_base.specs.Words.{compare, truth}
use Rattle.pan_control.specs.Control.{Normal, and_then, in_turn, if_not_zero, turns}
use Rattle.pan_flow.specs.Flow.{has}
use Rattle.pan_stage.specs.Data.{World}
use Rattle.pan_stage.specs.Locals.{Locals}
use Rattle.pan_stage.specs.Programs.{Does}
use Rattle.pan_stage.specs.Toll.{stepped}
use Rattle.pan_stage.proofs.Grows.{Grows}
use Rattle.pan_stage.proofs.Rows.{then_twice}
use Rattle.pan_stage.proofs.Follows.{beside, matched, same_as, Follows, turns_same}
use Rattle.pan_stage.proofs.Paid.{Within, Paid, exhausting, paid, more_paid}
use Rattle.riscv_isa.specs.Step.{reg}
use Rattle.riscv_isa.proofs.Registers.{zero_is}
use Rattle.word_lang.specs.Meaning.{outcome, operand as word_of}
use Rattle.word_lang.specs.Text.{variables_of, variables_read}
use Rattle.word_lang.specs.declared.syntax.Test.{Test}
use Rattle.stack_lang.specs.Frame.{Frame}
use Rattle.stack_lang.specs.Meaning as stack
use Rattle.stack_lang.specs.declared.syntax.Stmt.{Stmt}
use Rattle.stack_lang.specs.declared.syntax.Stmt.TheVariants as s
use Rattle.stack_lang.specs.declared.syntax.Stmt.TheOpen as o_s
use Rattle.stack_frames.specs.Frames.{gets, operand, gets_both}
use Rattle.stack_frames.proofs.Machine.{Machine}
use Rattle.stack_frames.proofs.Homes.{spare_5, spare_6, kept_self}
use Rattle.stack_frames.proofs.Rows.{stack_at, ran_none, ran_append, ran_within, runs_append}
use Rattle.stack_frames.proofs.Moves.{gets_ran, Got}
use Rattle.stack_frames.proofs.Operations.{both_ran, Both}
use Rattle.stack_frames.proofs.WordGrows.{headed_grows}
use Rattle.stack_frames.proofs.Flows.{has_first, has_rest}
use Rattle.stack_frames.proofs.Following.{view, StackWorld, Gives, Raises, Setting, KeptIn, RanIn, code, does, Held, ends, SameAt, FollowsAt, fewer, kept_held, after_code, in_sequence, last}
use Rattle.stack_frames.proofs.Leaving.{AllNamed}

module _ (at : Setting) where
  -- both operands of a test have their words in registers
  pub record Compared (l r : Option ℕ) (v : Locals) (w : World) (u u' : Frame) : Type 0 where
    pub kept : KeptIn at u u'
    pub machine : Machine at.names w.globals w.memory u'.seen
    pub left : reg u'.seen (operand 5 l) ≡ word_of l v
    pub right : reg u'.seen (operand 6 r) ≡ word_of r v

  pub operands_ran : (L : ℕ → Type 0) (l r : Option ℕ) (v : Locals) (w : World) (u : Frame) → AllNamed at (variables_of (l ∷ r ∷ [])) → ((x : ℕ) → has (variables_of (l ∷ r ∷ [])) x ≡ true → L x) → Held at L v w u
      → RanIn at 6 (gets_both at.slot l r) u (Compared l r v w u)
  operands_ran L None None v w u hs live h =
      ran_within at.size at.turns at.stack_callee 0 6 [] u (Compared None None v w u) (Compared None None v w u) (let e : 0 ≤ 6 = omega arith in e) (λ u' p. p)
      (ran_none at.size at.turns at.stack_callee u (Compared None None v w u) (record { kept = kept_self at.names at.slot at.named at.numbered u; machine = h.machine; left = zero_is u.seen; right = zero_is u.seen }))
  operands_ran L (Some a) None v w u hs live h =
      ran_append at.size at.turns at.stack_callee 3 3 (gets at.slot 5 a) [] u (Got at.names at.slot at.named at.numbered w.globals w.memory at.size at.turns at.stack_callee 5 a (v a) u) (Compared (Some a) None v w u)
      (gets_ran at.names at.slot at.named at.numbered w.globals w.memory at.size at.turns at.stack_callee 5 a (v a) u spare_5 (let e : 5 ≤ 9 = omega arith in e) (h.words a (hs a (has_first a [])) (live a (has_first a []))).0 h.machine)
      (λ u1 g. ran_within at.size at.turns at.stack_callee 0 3 [] u1 (Compared (Some a) None v w u) (Compared (Some a) None v w u) (let e : 0 ≤ 3 = omega arith in e) (λ u' p. p)
      (ran_none at.size at.turns at.stack_callee u1 (Compared (Some a) None v w u) (record { kept = g.kept; machine = g.beside; left = g.value_is; right = zero_is u1.seen })))
  operands_ran L None (Some b) v w u hs live h =
      ran_within at.size at.turns at.stack_callee 3 6 (gets at.slot 6 b) u (Got at.names at.slot at.named at.numbered w.globals w.memory at.size at.turns at.stack_callee 6 b (v b) u) (Compared None (Some b) v w u) (let e : 3 ≤ 6 = omega arith in e)
      (λ u1 g. record { kept = g.kept; machine = g.beside; left = zero_is u1.seen; right = g.value_is })
      (gets_ran at.names at.slot at.named at.numbered w.globals w.memory at.size at.turns at.stack_callee 6 b (v b) u spare_6 (let e : 6 ≤ 9 = omega arith in e) (h.words b (hs b (has_first b [])) (live b (has_first b []))).0 h.machine)
  operands_ran L (Some a) (Some b) v w u hs live h =
      let second = has_rest a b (b ∷ []) (has_first b []) in
      ran_within at.size at.turns at.stack_callee 6 6 (gets at.slot 5 a ++ gets at.slot 6 b) u (Both at.names at.slot at.named at.numbered w.globals w.memory at.size at.turns at.stack_callee a b (v a) (v b) u) (Compared (Some a) (Some b) v w u) (let e : 6 ≤ 6 = omega arith in e)
      (λ u1 g. record { kept = g.kept; machine = g.beside; left = g.first; right = g.second })
      (both_ran at.names at.slot at.named at.numbered w.globals w.memory at.size at.turns at.stack_callee a b (v a) (v b) u (hs a (has_first a (b ∷ []))) (hs b second)
      (h.words a (hs a (has_first a (b ∷ []))) (live a (has_first a (b ∷ [])))).0 (h.words b (hs b second) (live b second)).0 h.machine)

  -- ---- choices

  module _ (N B C : ℕ → Type 0) (c : ℕ) where
    pub if_same : (L M K : ℕ → Type 0) (y : Test) (m k : Does) (x z : Stmt) (v : Locals) (w : World) (u : Frame) (t : ℕ) → AllNamed at (variables_read y) → ((x : ℕ) → has (variables_read y) x ≡ true → L x) → ((x : ℕ) → M x → L x) → ((x : ℕ) → K x → L x)
        → FollowsAt at N B C M m (does at x) → FollowsAt at N B C K k (does at z) → Held at L v w u → Within 1 c t w
        → SameAt at N B C c (if_not_zero (outcome y v) (m v (stepped 1 w)) (k v (stepped 1 w))) (does at (s.Seq (gets_both at.slot y.left y.right ++ s.If y.comparison (operand 5 y.left) (operand 6 y.right) x z ∷ [])) u (beside view t w))
    if_same L M K y m k x z v w u t hs live lm lk fm fk r le =
        in_sequence at N B C c _ (gets_both at.slot y.left y.right ++ chosen ∷ []) u (beside view t w)
        (after_code at N B C c 6 (gets_both at.slot y.left y.right) (chosen ∷ []) _ w u t (Compared y.left y.right v w u) (operands_ran L y.left y.right v w u hs live r)
        (λ u1 t1 p lt. last at N B C c _ chosen u1 (beside view t1 w) (by_test (compare y.comparison (word_of y.left v) (word_of y.right v)) u1 t1) (is u1 t1 p) (by (compare y.comparison (word_of y.left v) (word_of y.right v)) u1 t1 p lt)))
      where
        w1 : World
        w1 = stepped 1 w

        chosen : Stmt
        chosen = s.If y.comparison (operand 5 y.left) (operand 6 y.right) x z

        by_test : Bool → Frame → ℕ → stack.Outcome Frame Frame
        by_test b u1 t1 = if b then does at x u1 (beside view (t1 + 3) w1) else and_then (does at z u1 (beside view (t1 + 3) w1)) (stack.more 2)

        is : (u1 : Frame) (t1 : ℕ) → Compared y.left y.right v w u u1 → does at chosen u1 (beside view t1 w) ≡ by_test (compare y.comparison (word_of y.left v) (word_of y.right v)) u1 t1
        is u1 t1 p =
            stack_at at.size at.turns at.stack_callee (o_s.If y.comparison (operand 5 y.left) (operand 6 y.right) x z) chosen (s.rolls-If y.comparison (operand 5 y.left) (operand 6 y.right) x z) u1 (beside view t1 w)
            ∙ ap (λ n. by_test (compare y.comparison n (reg u1.seen (operand 6 y.right))) u1 t1) p.left
            ∙ ap (λ n. by_test (compare y.comparison (word_of y.left v) n) u1 t1) p.right

        held : (u1 : Frame) → Compared y.left y.right v w u u1 → (M : ℕ → Type 0) → ((x : ℕ) → M x → L x) → Held at M v w1 u1
        held u1 p M f = kept_held at L M v w w1 u u1 f p.kept p.machine refl refl r

        by : (b : Bool) (u1 : Frame) (t1 : ℕ) → Compared y.left y.right v w u u1 → t1 ≤ t + 6 → SameAt at N B C c (if_not_zero (if b then 1 else 0) (m v w1) (k v w1)) (by_test b u1 t1)
        by true u1 t1 p lt = fm c v w1 u1 (t1 + 3) (held u1 p M lm, omega (arith, le, lt))
        by false u1 t1 p lt =
            more_paid view (exhausting at.total 1) 1 (Held at N) (Held at B) (Held at C) (Gives at.names at.results) (Raises at.names (at.scope).widths) (Held at N) 2 c (k v w1) (does at z u1 (beside view (t1 + 3) w1)) (stack.more 2)
            (fk (2 + c) v w1 u1 (t1 + 3) (held u1 p K lk, omega (arith, le, lt)))
            (λ v w u t h. matched (record { second = u; toll = t + 2; holds = (h.0, let l = h.1 in omega (arith, l)); is = refl }))

    -- ---- loops

    -- behind the test
    pub record Tested (T : ℕ → Type 0) (y : Test) (v : Locals) (w : World) (u : Frame) : Type 0 where
      pub held : Held at T v w u
      pub left : reg u.seen (operand 5 y.left) ≡ word_of y.left v
      pub right : reg u.seen (operand 6 y.right) ≡ word_of y.right v

    -- at the head H is live, in front of the operands R, behind the test T, and where the body begins I
    pub while_same : (H R T I : ℕ → Type 0) (before : List Does) (y : Test) (m : Does) (before' : List Stmt) (x : Stmt) (v : Locals) (w : World) (u : Frame) (t : ℕ) → AllNamed at (variables_read y) → ((x : ℕ) → has (variables_read y) x ≡ true → R x) → ((x : ℕ) → T x → R x) → ((x : ℕ) → N x → T x) → ((x : ℕ) → I x → T x)
        → FollowsAt at R B C H (in_turn before) (code at before') → FollowsAt at H N H I m (does at x) → Grows (in_turn before) → Grows m → Held at H v w u → Within 1 c t w
        → SameAt at N B C c (turns at.turns (λ u w. in_turn before u (stepped 1 w)) (λ u w. Some (outcome y u)) m v (stepped 1 w)) (does at (s.While (before' ++ gets_both at.slot y.left y.right) y.comparison (operand 5 y.left) (operand 6 y.right) x) u (beside view t w))
    while_same H R T I before y m before' x v w u t hs live tr nt it fb fm grow_before grow_m r le =
        same_as (ends at N B C c) _ _ (turns at.turns before_second test_second (does at x) u (beside view (t + 2) w1))
        (stack_at at.size at.turns at.stack_callee (o_s.While (before' ++ gets_both at.slot y.left y.right) y.comparison (operand 5 y.left) (operand 6 y.right) x) (s.While (before' ++ gets_both at.slot y.left y.right) y.comparison (operand 5 y.left) (operand 6 y.right) x)
        (s.rolls-While (before' ++ gets_both at.slot y.left y.right) y.comparison (operand 5 y.left) (operand 6 y.right) x) u (beside view t w))
        (turns_same (ends at N B C c) (Paid 1 c (Held at H)) (Paid 1 c (Tested T y)) (Paid 1 c (Held at I)) at.turns (λ u w. in_turn before u (stepped 1 w)) (λ u w. Some (outcome y u)) m before_second test_second (does at x)
        (record {
          first = first;
          tests = λ v w u t n h e. ap (λ n. Some (truth y.comparison n (reg u.seen (operand 6 y.right)))) (h.0).left ∙ ap (λ n. Some (truth y.comparison (word_of y.left v) n)) (h.0).right ∙ e;
          leaves = λ v w u t h. (fewer at T N v w w u nt refl refl refl refl (h.0).held, h.1);
          begins = λ v w u t n h. (fewer at T I v w (record w { fuel = n }) u it refl refl refl refl (h.0).held, h.1);
          inner = fm c;
          spent = λ v w u t h. let l = h.1 in omega (arith, l);
          spent_at_head = λ v w u t h. let l = h.1 in omega (arith, l);
          before_onward = λ w after h. grows_headed;
          body_onward = λ w after h. grow_m;
        })
        v w1 u (t + 2) (fewer at H H v w w1 u (λ x l. l) refl refl refl refl r, omega (arith, le)))
      where
        w1 : World
        w1 = stepped 1 w

        before_second : stack.Does
        before_second v w = and_then (in_turn (map (does at) (before' ++ gets_both at.slot y.left y.right)) v w) (stack.more 3)

        test_second : Frame → StackWorld → Option ℕ
        test_second v w = Some (truth y.comparison (reg v.seen (operand 5 y.left)) (reg v.seen (operand 6 y.right)))

        grows_headed : Grows (λ (u : Locals) (w : World). in_turn before u (stepped 1 w))
        grows_headed = headed_grows 1 (in_turn before) grow_before

        behind : stack.Does
        behind v w = and_then (code at (gets_both at.slot y.left y.right) v w) (stack.more 3)

        tests_after : Follows (paid view (exhausting at.total 1) 1 c (Tested T y) (Held at B) (Held at C) (Gives at.names at.results) (Raises at.names (at.scope).widths)) (Paid 1 (9 + c) (Held at R)) (λ v w. Normal v w) behind
        tests_after v w u t h =
            let a = operands_ran R y.left y.right v w u hs live h.0 in
            let p = a.holds in
            matched (record {
              second = a.after;
              toll = t + a.cost + 3;
              holds = (record { held = kept_held at R T v w w u a.after tr p.kept p.machine refl refl h.0; left = p.left; right = p.right }, let l = h.1 in let k = a.le in omega (arith, l, k));
              is = ap (λ o. and_then o (stack.more 3)) (a.is (beside view t w));
            })

        first : Follows (record (ends at N B C c) { normal = Paid 1 c (Tested T y) }) (Paid 1 c (Held at H)) (λ u w. in_turn before u (stepped 1 w)) before_second
        first v w u t h =
            same_as (record (ends at N B C c) { normal = Paid 1 c (Tested T y) }) _ _ (and_then (code at before' u (beside view t w)) behind)
            (ap (λ o. and_then o (stack.more 3)) (runs_append at.size at.turns at.stack_callee before' (gets_both at.slot y.left y.right) u (beside view t w))
            ∙ sym (then_twice (code at before' u (beside view t w)) (code at (gets_both at.slot y.left y.right)) (stack.more 3) behind (λ v w. refl)))
            (more_paid view (exhausting at.total 1) 1 (Tested T y) (Held at B) (Held at C) (Gives at.names at.results) (Raises at.names (at.scope).widths) (Held at R) 9 c (in_turn before v (stepped 1 w)) (code at before' u (beside view t w)) behind
            (fb (9 + c) v (stepped 1 w) u t (fewer at H H v w (stepped 1 w) u (λ x l. l) refl refl refl refl h.0, let l = h.1 in omega (arith, l)))
            tests_after)
