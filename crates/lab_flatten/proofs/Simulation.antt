-- The lines of a statement do what it does, at every layout.
use Rattle.std.proofs.Common.{◌≡◌, ℕ, pos, zero, suc, ◌+◌, ◌*◌, ◌^◌, ◌<◌, ◌≤◌, refl, sym, ap, ◌∙◌, subst, Bool, true, false, cond, List, [], ◌∷◌, ◌++◌, map, set, eqb, Some, None, arith}
use Rattle.std.specs.Prelude.{◌&&◌, not, flat_map}
use Rattle.std.specs.List.{AllByRecursion}
use Rattle.pan_base.specs.Words.{compare, truth}
use Rattle.pan_base.specs.Events.{Spent}
use Rattle.pan_base.specs.declared.operators.Cmp.{Cmp}
use Rattle.pan_base.specs.declared.operators.Cmp.TheVariants.{Eq, Ne, Lt, Ge, Ltu, Geu}
use Rattle.pan_base.specs.declared.operators.IOp.TheVariants.{Addi}
use Rattle.pan_control.specs.World.{tolled}
use Rattle.pan_control.specs.Control.{Normal, Broken, Continued, Returned, Raised, Over, and_then, in_turn, if_not_zero, spend_of, spend, after_body, turn, turns}
use Rattle.pan_stage.specs.Sums.{most}
use Rattle.riscv_isa.specs.declared.instr.Instr.{Instr}
use Rattle.riscv_isa.specs.declared.instr.Instr.TheVariants as instr
use Rattle.riscv_isa.specs.Running.{run as machine_run}
use Rattle.riscv_isa.specs.Step.{State, reg, with_reg, next, act}
use Rattle.lab_lang.specs.declared.syntax.Line.{Line}
use Rattle.lab_lang.specs.declared.syntax.Line.TheVariants as line
use Rattle.lab_lang.specs.Layout.{found, address}
use Rattle.lab_lang.specs.Meaning.{act_laid}
use Rattle.stack_lang.specs.Shown.{hide, IsVisible, IsWritable, IsShown, load_of, store_of}
use Rattle.stack_lang.specs.declared.syntax.Stmt.{Stmt, Stmt-F, roll-Stmt, map-Stmt, fold-roll-Stmt}
use Rattle.stack_lang.specs.declared.syntax.Stmt.TheOpen as stmt
use Rattle.stack_lang.specs.Frame.{Frame}
use Rattle.stack_lang.specs.Meaning.{World, Outcome, Callee, Does, ran, asked, aimed, more, run_layer, run}
use Rattle.stack_lang.specs.Text.{Mention, Read, Exception, mentions_layer, mentions}
use Rattle.stack_lang.specs.WellFormed.{IsRight}
use Rattle.stack_lang.specs.Frames.{front_layer, front as front_of}
use Rattle.stack_lang.proofs.Equations.{stmt_induct, run_roll, mentions_roll, front_roll}
use Rattle.stack_lang.proofs.WordsBefore.{front_small}
use Rattle.lab_flatten.specs.Flatten.{Flat, ends, none_of, row, inverse, choice_head, choice_middle, choice_end, choice_last, loop_head, loop_turn, flat_layer, flat, unwind_lines}
use Rattle.lab_flatten.proofs.Hiding.{apart, mask_set, act_agrees, ecall_agrees, reg_hide, follows_reg}
use Rattle.lab_flatten.proofs.Machine.{IsFrame, Ready, kept_self, kept_on, follows_kept, ready_kept}
use Rattle.lab_flatten.proofs.Lines.{past_label, At, Here, Stands, stands_split, stands_at, goes_none, goes_on, constant, Moved, branch_moved}
use Rattle.lab_flatten.proofs.Lands.{Sees, follows_sees, Steps, steps_goes, Comes, stops_spent, moved_comes, Lands, Enters, lands_by, LandsFrom, after_comes, then_lands, ran_lands, asked_lands}
use Rattle.lab_flatten.proofs.Calls.{plain_call}
use Rattle.lab_flatten.proofs.Leaving.{jump_lands, guarded_call, tail_lands, return_lands, raise_lands, get_lands, put_lands}

-- ---- each layer's equation

pub flat_roll : (front size unwind : ℕ) (x : Stmt-F Stmt) → flat front size unwind (roll-Stmt x) ≡ flat_layer front size unwind (map-Stmt Stmt Flat (flat front size unwind) x)
unfolding flat
flat_roll front size unwind x = fold-roll-Stmt Flat (flat_layer front size unwind) x

-- ---- statements without lines

both_true : (a b : Bool) → (a && b) ≡ true → (a ≡ true) × (b ≡ true)
both_true true true h = (refl, refl)
both_true true false h = absurd (cc h)
both_true false b h = absurd (cc h)

module _ (front size unwind : ℕ) where
  abbrev pub HasNoLines : Flat → Type 0
  HasNoLines f = (n b c : ℕ) (last : Bool) → f.none last ≡ true → f.lines n b c last ≡ []

  abbrev parts_of : Stmt-F ((s : Stmt) × HasNoLines (flat front size unwind s)) → Stmt-F Stmt
  parts_of y = map-Stmt ((s : Stmt) × HasNoLines (flat front size unwind s)) Stmt (λ p. p.0) y

  row_none : (ss : List ((s : Stmt) × HasNoLines (flat front size unwind s))) (n b c : ℕ) (last : Bool) → none_of (map (flat front size unwind) (map (λ p. p.0) ss)) last ≡ true → row (map (flat front size unwind) (map (λ p. p.0) ss)) n b c last ≡ []
  row_none [] n b c last none = refl
  row_none (x ∷ xs) n b c last none =
      let after = ends (map (flat front size unwind) (map (λ p. p.0) xs)) last in
      let h = both_true ((flat front size unwind x.0).none after) (none_of (map (flat front size unwind) (map (λ p. p.0) xs)) last) none in
      ap (λ zs. zs ++ row (map (flat front size unwind) (map (λ p. p.0) xs)) (n + (flat front size unwind x.0).labels) b c last) (x.1 n b c after h.0) ∙ row_none xs (n + (flat front size unwind x.0).labels) b c last h.1

  layer_none : (y : Stmt-F ((s : Stmt) × HasNoLines (flat front size unwind s))) → HasNoLines (flat_layer front size unwind (map-Stmt Stmt Flat (flat front size unwind) (parts_of y)))
  layer_none (stmt.Seq all) n b c last none = row_none all n b c last none
  layer_none (stmt.Plain i) n b c last none = absurd (cc none)
  layer_none (stmt.Get r k) n b c last none = absurd (cc none)
  layer_none (stmt.Put k r) n b c last none = absurd (cc none)
  layer_none (stmt.SharedLoad z rd rs1 imm) n b c last none = absurd (cc none)
  layer_none (stmt.SharedStore z rs1 rs2 imm) n b c last none = absurd (cc none)
  layer_none (stmt.Foreign i) n b c last none = absurd (cc none)
  layer_none (stmt.If op x y s t) n b c last none =
      let h = both_true ((flat front size unwind s.0).none last) ((flat front size unwind t.0).none last) none in
      by ((flat front size unwind s.0).none last) ((flat front size unwind t.0).none last) h.0 h.1 (s.1 (n + 2 + (flat front size unwind t.0).labels) b c last h.0) (t.1 (n + 2) b c last h.1)
    where
      by : (f g : Bool) → f ≡ true → g ≡ true → (flat front size unwind s.0).lines (n + 2 + (flat front size unwind t.0).labels) b c last ≡ [] → (flat front size unwind t.0).lines (n + 2) b c last ≡ []
          → choice_head f g op x y n ++ ((flat front size unwind t.0).lines (n + 2) b c (choice_last f g last) ++ (choice_middle f g n ++ ((flat front size unwind s.0).lines (n + 2 + (flat front size unwind t.0).labels) b c last ++ choice_end f g n))) ≡ []
      by true true f g no_xs no_ys = ap (λ ys. ys ++ ((flat front size unwind s.0).lines (n + 2 + (flat front size unwind t.0).labels) b c last ++ [])) no_ys ∙ ap (λ xs. xs ++ []) no_xs
      by true false f g no_xs no_ys = absurd (cc g)
      by false g f h no_xs no_ys = absurd (cc f)
  layer_none (stmt.While before op x y t) n b c last none = absurd (cc none)
  layer_none stmt.Break n b c last none = absurd (cc none)
  layer_none stmt.Continue n b c true none = refl
  layer_none stmt.Continue n b c false none = absurd (cc none)
  layer_none (stmt.Call f s None) n b c last none = absurd (cc none)
  layer_none (stmt.Call f s (Some h)) n b c last none = absurd (cc none)
  layer_none (stmt.TailCall f) n b c last none = absurd (cc none)
  layer_none stmt.Return n b c last none = absurd (cc none)
  layer_none (stmt.Raise i) n b c last none = absurd (cc none)

  pub no_lines : (s : Stmt) → HasNoLines (flat front size unwind s)
  no_lines = stmt_induct (λ s. HasNoLines (flat front size unwind s)) (λ y. subst HasNoLines (sym (flat_roll front size unwind (parts_of y))) (layer_none y))

-- ---- choices

-- a second side without lines is told what is behind the choice
told : (f g last : Bool) → g ≡ true → choice_last f g last ≡ last
told true true last h = refl
told true false last h = refl
told false true last h = refl
told false false last h = absurd (cc h)

last_parts : (f g last : Bool) → choice_last f g last ≡ true → (choice_last f g true ≡ true) × (last ≡ true)
last_parts true true last h = (refl, h)
last_parts true false last h = (refl, h)
last_parts false true last h = (refl, h)
last_parts false false last h = absurd (cc h)

not_not : (b : Bool) → b ≡ not (not b)
not_not true = refl
not_not false = refl

inverse_not : (op : Cmp) (a b : ℕ) → compare (inverse op) a b ≡ not (compare op a b)
inverse_not Eq a b = refl
inverse_not Ne a b = not_not (compare Eq a b)
inverse_not Lt a b = refl
inverse_not Ge a b = not_not (compare Lt a b)
inverse_not Ltu a b = refl
inverse_not Geu a b = not_not (compare Ltu a b)

-- ---- registers of a foreign call

writable : (r : ℕ) → eqb r 1 ≡ false → eqb r 9 ≡ false → eqb r 2 ≡ false → eqb r 8 ≡ false → eqb r 4 ≡ false → IsWritable r
writable r a b c d e = (apart r 1 a, apart r 9 b, apart r 2 c, apart r 8 d, apart r 4 e)

hide_aimed : (t : State) (i : ℕ) → hide (next (with_reg (next (with_reg t 14 i)) 17 1)) ≡ aimed i (hide t)
hide_aimed t i =
    let visible : (r : ℕ) → eqb r 1 ≡ false → eqb r 9 ≡ false → eqb r 2 ≡ false → eqb r 8 ≡ false → IsVisible r = λ r a b c d. (apart r 1 a, apart r 9 b, apart r 2 c, apart r 8 d) in
    ap (λ xs. record (hide t) { registers = xs })
    (sym (ap (λ ys. set ys 17 1) (mask_set t.registers 14 i (visible 14 refl refl refl refl)) ∙ mask_set (set t.registers 14 i) 17 1 (visible 17 refl refl refl refl)))

-- ---- mentions

pub every_parts : {A : Type 0} (P : A → Type 0) (xs ys : List A) → AllByRecursion P (xs ++ ys) → AllByRecursion P xs × AllByRecursion P ys
every_parts P [] ys h = (tt, h)
every_parts P (x ∷ xs) ys h = let r = every_parts P xs ys h.1 in ((h.0, r.0), r.1)

-- ---- parts of the toll

and_more : (o : Outcome Frame Frame) (n : ℕ) (m : Does) → and_then (and_then o (more n)) m ≡ and_then o (λ s w. m s (tolled n w))
and_more (Normal s w) n m = refl
and_more (Broken s w) n m = refl
and_more (Continued s w) n m = refl
and_more (Returned s w) n m = refl
and_more (Raised i s w) n m = refl
and_more (Over e w) n m = refl

no_more : (at n : ℕ) → n ≡ 0 → at + 4 * n ≡ at
no_more at n e = omega arith

-- the comparison, by what is seen
compare_seen : (op : Cmp) (a b front size : ℕ) (v : Frame) (t : State) → Sees front size v t → IsVisible a → IsVisible b → compare op (reg v.seen a) (reg v.seen b) ≡ compare op (reg t a) (reg t b)
compare_seen op a b front size v t s p q =
    ap (λ (h : State). compare op (reg h a) (reg h b)) (sym s.seen) ∙ ap (λ n. compare op n (reg (hide t) b)) (reg_hide t a p) ∙ ap (λ n. compare op (reg t a) n) (reg_hide t b q)

module _ (lines : List Line) (layout : List (ℕ × ℕ)) (unwind_at : ℕ) (front size : ℕ) where
  abbrev From : Does → ℕ → ℕ → ℕ → ℕ → Type 0
  From m at on out again = LandsFrom lines layout unwind_at front size m at on out again

  abbrev To : Outcome Frame Frame → State → World → ℕ → ℕ → ℕ → Type 0
  To o t w on out again = Lands lines layout unwind_at front size o t w on out again

  -- a branch, with its part of the toll, and maybe a unit of fuel
  branch_comes : (t : State) (v : Frame) (w w' : World) (op : Cmp) (a b l n at hit : ℕ) (c : Bool) → Ready front size t → Sees front size v t → t.pc ≡ at → Here lines layout (line.Branch op a b l) n at → At lines layout l hit
      → compare op (reg t a) (reg t b) ≡ c → w'.replies ≡ w.replies → w'.trace ≡ w.trace → w.fuel ≤ 1 + w'.fuel → cond c 3 1 + w.toll ≤ w'.toll → Comes lines layout front size t w v w' (cond c hit (at + 4 * n))
  branch_comes t v w w' op a b l n at hit c r s e branch there is replies trace fuel toll =
      moved_comes lines layout front size t (cond c hit (at + 4 * n)) (cond c 3 1) v w w'
      (subst (λ p. Moved lines layout t (cond c hit (p + 4 * n)) (cond c 3 1)) e (branch_moved lines layout t op a b l n hit c r.count (subst (Here lines layout (line.Branch op a b l) n) (sym e) branch) there is)) s replies trace fuel toll

  -- ---- a choice

  choice_test : (op : Cmp) (a b l nb : ℕ) (ms mt : Does) (at hit to out again : ℕ) (c : Bool) (t : State) (v : Frame) (w : World) → t.pc ≡ at → Ready front size t → Sees front size v t
      → Here lines layout (line.Branch op a b l) nb at → At lines layout l hit → compare op (reg t a) (reg t b) ≡ c
      → From ms hit to out again → From mt (at + 4 * nb) to out again → To (cond c (ms v (tolled 3 w)) (mt v (tolled 3 w))) t w to out again
  choice_test op a b l nb ms mt at hit to out again true t v w e r s branch there is land_s land_t =
      after_comes lines layout unwind_at front size ms t w v (tolled 3 w) hit to out again r (branch_comes t v w (tolled 3 w) op a b l nb at hit true r s e branch there is refl refl (omega arith) (omega arith)) land_s
  choice_test op a b l nb ms mt at hit to out again false t v w e r s branch there is land_s land_t =
      after_comes lines layout unwind_at front size mt t w v (tolled 3 w) (at + 4 * nb) to out again r (branch_comes t v w (tolled 3 w) op a b l nb at hit false r s e branch there is refl refl (omega arith) (omega arith)) land_t

  -- where nothing is done, only counted
  idle : (t : State) (w w' : World) → w'.replies ≡ w.replies → w'.trace ≡ w.trace → w'.fuel ≡ w.fuel → w.toll ≤ w'.toll → Steps lines layout t w t w'
  idle t w w' replies trace fuel toll = steps_goes lines layout t w t w' 0 (goes_none lines layout t) replies trace (omega arith) (omega arith)

  more_lands : (k at to out again : ℕ) → at ≡ to → From (more k) at to out again
  more_lands k at to out again same t v e r s w = record { state = t; sees = s; pc = e ∙ same; kept = kept_self front size t; by = idle t w (tolled k w) refl refl refl (omega arith) }

  -- what is behind an empty side
  module _ (op : Cmp) (a b : ℕ) (ms mt : Does) (out again : ℕ) (p : IsVisible a) (q : IsVisible b) where
    abbrev second : Does
    second v w = and_then (mt v w) (more 2)

    abbrev chosen : Does
    chosen v w = cond (compare op (reg v.seen a) (reg v.seen b)) (ms v (tolled 3 w)) (second v (tolled 3 w))

    flip : (c : Bool) (x y : Outcome Frame Frame) (t : State) (w : World) (to : ℕ) → To (cond (not c) x y) t w to out again → To (cond c y x) t w to out again
    flip true x y t w to h = h
    flip false x y t w to h = h

    -- by the test of the machine
    tested : (t : State) (v : Frame) (w : World) (to : ℕ) → Sees front size v t → To (cond (compare op (reg t a) (reg t b)) (ms v (tolled 3 w)) (second v (tolled 3 w))) t w to out again → To (chosen v w) t w to out again
    tested t v w to s h = subst (λ c. To (cond c (ms v (tolled 3 w)) (second v (tolled 3 w))) t w to out again) (sym (compare_seen op a b front size v t s p q)) h

    neither_lands : (at to : ℕ) → at ≡ to → From ms at to out again → From mt at at out again → From chosen at to out again
    neither_lands at to same land_s land_t t v e r s w = by (compare op (reg v.seen a) (reg v.seen b))
      where
        by : (c : Bool) → To (cond c (ms v (tolled 3 w)) (second v (tolled 3 w))) t w to out again
        by true = lands_by lines layout unwind_at front size (ms v (tolled 3 w)) t w t (tolled 3 w) to out again (kept_self front size t) (idle t w (tolled 3 w) refl refl refl (omega arith)) (land_s t v e r s (tolled 3 w))
        by false =
            lands_by lines layout unwind_at front size (second v (tolled 3 w)) t w t (tolled 3 w) to out again (kept_self front size t) (idle t w (tolled 3 w) refl refl refl (omega arith))
            (then_lands lines layout unwind_at front size (mt v (tolled 3 w)) (more 2) t (tolled 3 w) at to out again r (land_t t v e r s (tolled 3 w)) (more_lands 2 at to out again same))

    -- the branch goes over the second side
    over_second : (n nb at to : ℕ) → Here lines layout (line.Branch op a b n) nb at → At lines layout n to → From ms to to out again → From mt (at + 4 * nb) to out again → From chosen at to out again
    over_second n nb at to branch there land_s land_t t v e r s w =
        tested t v w to s
        (choice_test op a b n nb ms second at to to out again (compare op (reg t a) (reg t b)) t v w e r s branch there refl land_s
        (λ t v e r s w. then_lands lines layout unwind_at front size (mt v w) (more 2) t w to to out again r (land_t t v e r s w) (more_lands 2 to to out again refl)))

    -- the branch goes over the first side
    over_first : (n nb at to : ℕ) → Here lines layout (line.Branch (inverse op) a b n) nb at → At lines layout n to → From ms (at + 4 * nb) to out again → From mt to to out again → From chosen at to out again
    over_first n nb at to branch there land_s land_t t v e r s w =
        tested t v w to s
        (flip (compare op (reg t a) (reg t b)) (second v (tolled 3 w)) (ms v (tolled 3 w)) t w to
        (choice_test (inverse op) a b n nb second ms at to to out again (not (compare op (reg t a) (reg t b))) t v w e r s branch there (inverse_not op (reg t a) (reg t b))
        (λ t v e r s w. then_lands lines layout unwind_at front size (mt v w) (more 2) t w to to out again r (land_t t v e r s w) (more_lands 2 to to out again refl)) land_s))

    both_land : (n : ℕ) (xs ys : List Line) (at to : ℕ) → Stands lines layout at (line.Branch op a b n ∷ (ys ++ line.Jump (n + 1) ∷ line.Label n ∷ (xs ++ line.Label (n + 1) ∷ []))) to
        → ((at : ℕ) → Stands lines layout at xs to → From ms at to out again) → ((at mid : ℕ) → Stands lines layout at ys mid → From mt at mid out again) → From chosen at to out again
    both_land n xs ys at to (nb, branch, h) land_s land_t t v e r0 s w =
        let r = stands_split lines layout (at + 4 * nb) ys (line.Jump (n + 1) ∷ line.Label n ∷ (xs ++ line.Label (n + 1) ∷ [])) to h in
        let mid = r.0 in
        let nj = (r.2).0 in
        let jump = (r.2).1 in
        let nl = ((r.2).2).0 in
        let label = ((r.2).2).1 in
        let x = stands_split lines layout (mid + 4 * nj + 4 * nl) xs (line.Label (n + 1) ∷ []) to ((r.2).2).2 in
        let last : mid + 4 * nj + 4 * nl ≡ mid + 4 * nj = no_more (mid + 4 * nj) nl label.0 in
        let end : x.0 ≡ to = sym (no_more x.0 (x.2).0 ((x.2).1).0) ∙ (x.2).2 in
        let at_end : At lines layout (n + 1) to = ((x.2).1).1 ∙ ap (λ a. Some a) end in
        let sx : Stands lines layout (mid + 4 * nj) xs to = subst (λ a. Stands lines layout a xs to) last (subst (Stands lines layout (mid + 4 * nj + 4 * nl) xs) end x.1) in
        let jumped : From second (at + 4 * nb) to out again = λ t v e r0 s w.
        then_lands lines layout unwind_at front size (mt v w) (more 2) t w mid to out again r0 (land_t (at + 4 * nb) mid r.1 t v e r0 s w) (λ t v e r0 s w. jump_lands lines layout unwind_at front size (n + 1) nj mid to t v w e r0 s jump at_end) in
        tested t v w to s (choice_test op a b n nb ms second at (mid + 4 * nj) to out again (compare op (reg t a) (reg t b)) t v w e r0 s branch label.1 refl (land_s (mid + 4 * nj) sx) jumped)

    -- at a label
    end_at : (n mid to : ℕ) → Stands lines layout mid (line.Label n ∷ []) to → (mid ≡ to) × At lines layout n to
    end_at n mid to (nl, label, same) = let e : mid ≡ to = sym (no_more mid nl label.0) ∙ same in (e, label.1 ∙ ap (λ a. Some a) e)

    choice_lands : (f g : Bool) (n : ℕ) (xs ys : List Line) (at to : ℕ) → (f ≡ true → xs ≡ []) → (g ≡ true → ys ≡ [])
        → Stands lines layout at (choice_head f g op a b n ++ (ys ++ (choice_middle f g n ++ (xs ++ choice_end f g n)))) to
        → ((at : ℕ) → Stands lines layout at xs to → From ms at to out again) → ((at mid : ℕ) → Stands lines layout at ys mid → (choice_last f g true ≡ true → mid ≡ to) → From mt at mid out again) → From chosen at to out again
    choice_lands true true n xs ys at to no_xs no_ys h land_s land_t =
        let same : at ≡ to = subst (λ xs. Stands lines layout at (xs ++ []) to) (no_xs refl) (subst (λ ys. Stands lines layout at (ys ++ (xs ++ [])) to) (no_ys refl) h) in
        neither_lands at to same (land_s at (subst (λ xs. Stands lines layout at xs to) (sym (no_xs refl)) same)) (land_t at at (subst (λ ys. Stands lines layout at ys at) (sym (no_ys refl)) refl) (λ is. same))
    choice_lands true false n xs ys at to no_xs no_ys (nb, branch, h) land_s land_t =
        let r = stands_split lines layout (at + 4 * nb) ys (line.Label n ∷ []) to (subst (λ xs. Stands lines layout (at + 4 * nb) (ys ++ (xs ++ line.Label n ∷ [])) to) (no_xs refl) h) in
        let e = end_at n r.0 to r.2 in
        over_second n nb at to branch e.1 (land_s to (subst (λ xs. Stands lines layout to xs to) (sym (no_xs refl)) refl)) (land_t (at + 4 * nb) to (subst (λ to. Stands lines layout (at + 4 * nb) ys to) e.0 r.1) (λ is. refl))
    choice_lands false true n xs ys at to no_xs no_ys (nb, branch, h) land_s land_t =
        let r = stands_split lines layout (at + 4 * nb) xs (line.Label n ∷ []) to (subst (λ ys. Stands lines layout (at + 4 * nb) (ys ++ (xs ++ line.Label n ∷ [])) to) (no_ys refl) h) in
        let e = end_at n r.0 to r.2 in
        over_first n nb at to branch e.1 (land_s (at + 4 * nb) (subst (λ to. Stands lines layout (at + 4 * nb) xs to) e.0 r.1)) (land_t to to (subst (λ ys. Stands lines layout to ys to) (sym (no_ys refl)) refl) (λ is. refl))
    choice_lands false false n xs ys at to no_xs no_ys h land_s land_t = both_land n xs ys at to h land_s (λ at mid h. land_t at mid h (λ is. absurd (cc is)))

  -- ---- a loop, whose lines are in place: its test is at the head, behind the body

  module _ (op : Cmp) (a b head_label in_label : ℕ) (ms mt : Does) (head mid inside out again nb : ℕ) (p : IsVisible a) (q : IsVisible b)
      (at_head : At lines layout head_label head) (at_in : At lines layout in_label inside)
      (branch : Here lines layout (line.Branch op a b in_label) nb mid)
      (land_s : From ms head mid out again) (land_t : From mt inside head (mid + 4 * nb) head) where
    abbrev end : ℕ
    end = mid + 4 * nb

    body_lands : (o : Outcome Frame Frame) (next : Does) (t : State) (w : World) → Ready front size t → From next head end out again → To o t w head end head → To (after_body o next) t w end out again
    body_lands (Normal s1 w1) next t w r go h = after_comes lines layout unwind_at front size next t w s1 w1 head end out again r h go
    body_lands (Broken s1 w1) next t w r go h = h
    body_lands (Continued s1 w1) next t w r go h = after_comes lines layout unwind_at front size next t w s1 w1 head end out again r h go
    body_lands (Returned s1 w1) next t w r go h = h
    body_lands (Raised i s1 w1) next t w r go h = h
    body_lands (Over e w1) next t w r go h = h

    -- the test, and what follows it
    abbrev rest : Does → Does
    rest next s w = if_not_zero (truth op (reg s.seen a) (reg s.seen b)) (spend w (λ w. after_body (mt s w) next)) (Normal s w)

    by_fuel : (next : Does) → From next head end out again → (t : State) (v : Frame) → t.pc ≡ mid → Ready front size t → Sees front size v t → (w : World) → compare op (reg t a) (reg t b) ≡ true → (f : ℕ) → w.fuel ≡ f
        → To (spend_of f (tolled 3 w) (λ w. after_body (mt v w) next)) t w end out again
    unfolding machine_run
    by_fuel next go t v e r s w is zero fuel = λ ok. record { steps = 0; enough = omega arith; within = omega arith; is = refl }
    by_fuel next go t v e r s w is (suc f) fuel =
        let w3 = record (tolled 3 w) { fuel = f } in
        after_comes lines layout unwind_at front size (λ s w. after_body (mt s w) next) t w v w3 inside end out again r
        (branch_comes t v w w3 op a b in_label nb mid inside true r s e branch at_in is refl refl (omega arith) (omega arith))
        (λ u v e r s w. body_lands (mt v w) next u w r go (land_t u v e r s w))

    by_test : (next : Does) → From next head end out again → (t : State) (v : Frame) → t.pc ≡ mid → Ready front size t → Sees front size v t → (w : World) → (c : Bool) → compare op (reg t a) (reg t b) ≡ c
        → To (if_not_zero (cond c 1 0) (spend (tolled 3 w) (λ w. after_body (mt v w) next)) (Normal v (tolled 3 w))) t w end out again
    by_test next go t v e r s w true is = by_fuel next go t v e r s w is w.fuel refl
    by_test next go t v e r s w false is = branch_comes t v w (tolled 3 w) op a b in_label nb mid inside false r s e branch at_in is refl refl (omega arith) (omega arith)

    rest_lands : (next : Does) → From next head end out again → From (λ s w. rest next s (tolled 3 w)) mid end out again
    rest_lands next go t v e r s w =
        subst (λ c. To (if_not_zero (cond c 1 0) (spend (tolled 3 w) (λ w. after_body (mt v w) next)) (Normal v (tolled 3 w))) t w end out again) (sym (compare_seen op a b front size v t s p q))
        (by_test next go t v e r s w (compare op (reg t a) (reg t b)) refl)

    abbrev testing : Does
    testing s w = and_then (ms s w) (more 3)

    turn_lands : (next : Does) → From next head end out again → From (turn testing (λ s w. Some (truth op (reg s.seen a) (reg s.seen b))) mt next) head end out again
    turn_lands next go t v e r s w =
        subst (λ o. To o t w end out again) (sym (and_more (ms v w) 3 (rest next)))
        (then_lands lines layout unwind_at front size (ms v w) (λ s w. rest next s (tolled 3 w)) t w mid end out again r (land_s t v e r s w) (rest_lands next go))

    loop_lands : (d : ℕ) → From (turns d testing (λ s w. Some (truth op (reg s.seen a) (reg s.seen b))) mt) head end out again
    loop_lands zero = turn_lands (λ s w. Over Spent w) (λ t v e r s w. λ ok. stops_spent lines layout t w w refl refl refl)
    loop_lands (suc d) = turn_lands (turns d testing (λ s w. Some (truth op (reg s.seen a) (reg s.seen b))) mt) (loop_lands d)

  -- ---- instructions

  module _ (at to out again : ℕ) where
    -- an instruction that has to run on
    plain_lands : (i : Instr) → IsShown i → Stands lines layout at (line.Plain i ∷ []) to → From (λ v w. ran v (act i v.seen) (tolled 1 w)) at to out again
    plain_lands i h st t v e r s w =
        let one = (st.1).0 in let end = st.2 in
        let next : t.pc + 4 ≡ to = omega arith in
        subst (λ y. To (ran v (act i y) (tolled 1 w)) t w to out again) s.seen
        (subst (λ on. To (ran v (act i (hide t)) (tolled 1 w)) t w on out again) next
        (ran_lands lines layout unwind_at front size t v s w out again (act i (hide t)) (act i t) (ap (λ o. act_laid o (address lines layout) t) (ap (found lines layout) e ∙ (st.1).1)) (act_agrees t (r.map).stack i h)))

    -- one that has to ask
    shared_lands : (i : Instr) → IsShown i → Stands lines layout at (line.Plain i ∷ []) to → From (λ v w. asked v (act i v.seen) (tolled 1 w)) at to out again
    shared_lands i h st t v e r s w =
        let one = (st.1).0 in let end = st.2 in
        let next : t.pc + 4 ≡ to = omega arith in
        subst (λ y. To (asked v (act i y) (tolled 1 w)) t w to out again) s.seen
        (subst (λ on. To (asked v (act i (hide t)) (tolled 1 w)) t w on out again) next
        (asked_lands lines layout unwind_at front size t v s w out again (tolled 1 w) refl refl refl (omega arith) (act i (hide t)) (act i t)
        (ap (λ o. act_laid o (address lines layout) t) (ap (found lines layout) e ∙ (st.1).1)) (act_agrees t (r.map).stack i h)))

    -- a call of a foreign function
    foreign_lands : (i : ℕ) → i < 2 ^ 11 → Stands lines layout at (line.Plain (instr.I Addi 14 0 (pos i)) ∷ line.Plain (instr.I Addi 17 0 (pos 1)) ∷ line.Plain instr.Ecall ∷ []) to
        → From (λ v w. asked v (act instr.Ecall (aimed i v.seen)) (tolled 3 w)) at to out again
    foreign_lands i few st t v e r s w =
        let last = line.Plain instr.Ecall ∷ [] in
        let g1 = constant lines layout 14 i (line.Plain (instr.I Addi 17 0 (pos 1)) ∷ last) to t (omega arith) (stands_at lines layout at t.pc (line.Plain (instr.I Addi 14 0 (pos i)) ∷ line.Plain (instr.I Addi 17 0 (pos 1)) ∷ last) to (sym e) st) in
        let u1 = next (with_reg t 14 i) in
        let g2 = constant lines layout 17 1 last to u1 (omega arith) g1.1 in
        let u2 = next (with_reg u1 17 1) in
        let f1 = follows_reg t 14 i (writable 14 refl refl refl refl refl) in
        let f2 = follows_reg u1 17 1 (writable 17 refl refl refl refl refl) in
        let kept = kept_on front size t u1 u2 (follows_kept front size t u1 f1) (follows_kept front size u1 u2 f2) in
        let sees = follows_sees front size (record v { seen = hide u1 }) u1 u2 f2 (follows_sees front size v t u1 f1 s) in
        let stack = ((ready_kept front size t u2 r kept).map).stack in
        let one = ((g2.1).1).0 in let end = (g2.1).2 in
        let on : u2.pc + 4 ≡ to = omega arith in
        let is : hide u2 ≡ aimed i v.seen = hide_aimed t i ∙ ap (aimed i) s.seen in
        lands_by lines layout unwind_at front size (asked v (act instr.Ecall (aimed i v.seen)) (tolled 3 w)) t w u2 (tolled 2 w) to out again kept
        (steps_goes lines layout t w u2 (tolled 2 w) 2 (goes_on lines layout t u1 u2 1 1 g1.0 g2.0) refl refl (omega arith) (omega arith))
        (subst (λ y. To (asked v (act instr.Ecall y) (tolled 3 w)) u2 (tolled 2 w) to out again) is
        (subst (λ on. To (asked v (act instr.Ecall (hide u2)) (tolled 3 w)) u2 (tolled 2 w) on out again) on
        (asked_lands lines layout unwind_at front size u2 (record v { seen = hide u2 }) sees (tolled 2 w) out again (tolled 3 w) refl refl refl (omega arith) (act instr.Ecall (hide u2)) (act instr.Ecall u2)
        (ap (λ o. act_laid o (address lines layout) u2) ((g2.1).1).1) (ecall_agrees u2 stack))))

  -- ---- statements

  module _ (unwind uncaught unwind_end : ℕ) (unwind_stands : Stands lines layout unwind_at (unwind_lines unwind uncaught) unwind_end) (frame : IsFrame front size) (d functions exceptions names : ℕ)
      (few_exceptions : exceptions ≤ 1024) (few_names : names ≤ 1024) (g : Callee) (enters : Enters lines layout unwind_at g) (stands : (f : ℕ) → f < functions → (entry : ℕ) × At lines layout f entry) where
    at_unwind : At lines layout unwind unwind_at
    at_unwind = (unwind_stands.1).1

    -- what it mentions is right
    abbrev pub AreRight : List Mention → Type 0
    AreRight ms = AllByRecursion (IsRight (record { frame = size; front = front; functions = functions; exceptions = exceptions; names = names })) ms

    split : (xs ys : List Mention) → AreRight (xs ++ ys) → AreRight xs × AreRight ys
    split xs ys h = every_parts (IsRight (record { frame = size; front = front; functions = functions; exceptions = exceptions; names = names })) xs ys h

    -- its lines do what it does, wherever they stand
    abbrev pub IsFlattened : Stmt → Type 0
    IsFlattened s = AreRight (mentions s) → front_of s ≤ front → (n b c at to out again : ℕ) (last : Bool) → Stands lines layout at ((flat front size unwind s).lines n b c last) to → At lines layout b out → At lines layout c again → (last ≡ true → to ≡ again) → From (run size d g s) at to out again

    -- the same at a layer
    abbrev LayerFlattened : Does → Flat → Type 0
    LayerFlattened m f = (n b c at to out again : ℕ) (last : Bool) → Stands lines layout at (f.lines n b c last) to → At lines layout b out → At lines layout c again → (last ≡ true → to ≡ again) → From m at to out again

    abbrev parts : Stmt-F ((s : Stmt) × IsFlattened s) → Stmt-F Stmt
    parts y = map-Stmt ((s : Stmt) × IsFlattened s) Stmt (λ p. p.0) y

    -- statements one after another
    abbrev all_of : List ((s : Stmt) × IsFlattened s) → List Stmt
    all_of ss = map (λ p. p.0) ss

    row_lands : (ss : List ((s : Stmt) × IsFlattened s)) → AreRight (flat_map (λ s. s) (map mentions (all_of ss))) → most (map front_of (all_of ss)) ≤ front → (n b c at to out again : ℕ) (last : Bool)
        → Stands lines layout at (row (map (flat front size unwind) (all_of ss)) n b c last) to → At lines layout b out → At lines layout c again → (last ≡ true → to ≡ again) → From (in_turn (map (run size d g) (all_of ss))) at to out again
    row_lands [] right wide n b c at to out again last h at_b at_c behind t v e r s w = record { state = t; sees = s; pc = e ∙ h; kept = kept_self front size t; by = λ k. (k, omega arith, omega arith, refl) }
    row_lands (x ∷ xs) right wide n b c at to out again last h at_b at_c behind t v e r s w =
        let m = split (mentions x.0) (flat_map (λ s. s) (map mentions (all_of xs))) right in
        let after = ends (map (flat front size unwind) (all_of xs)) last in
        let y = stands_split lines layout at ((flat front size unwind x.0).lines n b c after) (row (map (flat front size unwind) (all_of xs)) (n + (flat front size unwind x.0).labels) b c last) to h in
        then_lands lines layout unwind_at front size (run size d g x.0 v w) (in_turn (map (run size d g) (all_of xs))) t w y.0 to out again r
        (x.1 m.0 (omega (arith, wide)) n b c at y.0 out again after y.1 at_b at_c (at_end xs (n + (flat front size unwind x.0).labels) y.0 y.2) t v e r s w)
        (row_lands xs m.1 (omega (arith, wide)) (n + (flat front size unwind x.0).labels) b c y.0 to out again last y.2 at_b at_c behind)
      where
        -- behind the last one
        at_end : (xs : List ((s : Stmt) × IsFlattened s)) (k mid : ℕ) → Stands lines layout mid (row (map (flat front size unwind) (all_of xs)) k b c last) to → ends (map (flat front size unwind) (all_of xs)) last ≡ true → mid ≡ again
        at_end [] k mid same is = same ∙ behind is
        at_end (z ∷ zs) k mid h is = absurd (cc is)

    module _ (op : Cmp) (a b n : ℕ) (xs ys : List Line) (ms mt : Does) (at to out again : ℕ) (p : IsVisible a) (q : IsVisible b)
        (land_s : (at to : ℕ) → Stands lines layout at xs to → From ms at to out again) (land_t : (at to end : ℕ) → Stands lines layout at ys to → At lines layout (n + 1) end → At lines layout n to → From mt at to end to) where
      abbrev looping : Does
      looping v w = turns d (λ s w. and_then (ms s w) (more 3)) (λ s w. Some (truth op (reg s.seen a) (reg s.seen b))) mt v w

      -- from the test, where the body stands
      test_lands : (head inside label : ℕ) → At lines layout n head → At lines layout label inside → Stands lines layout head (xs ++ line.Branch op a b label ∷ line.Label (n + 1) ∷ []) to → ((end : ℕ) → At lines layout (n + 1) end → From mt inside head end head) → From looping head to out again
      test_lands head inside label at_head at_in h body =
          let y = stands_split lines layout head xs (line.Branch op a b label ∷ line.Label (n + 1) ∷ []) to h in
          let mid = y.0 in
          let nb = (y.2).0 in
          let z = (y.2).2 in
          let end : mid + 4 * nb ≡ to = sym (no_more (mid + 4 * nb) z.0 (z.1).0) ∙ z.2 in
          subst (λ to. From looping head to out again) end (loop_lands op a b n label ms mt head mid inside out again nb p q at_head at_in (y.2).1 (land_s head mid y.1) (body (mid + 4 * nb) (z.1).1) d)

      while_lands : (e : Bool) → (e ≡ true → ys ≡ []) → Stands lines layout at (loop_head e n ++ (ys ++ line.Label n ∷ (xs ++ line.Branch op a b (loop_turn e n) ∷ line.Label (n + 1) ∷ []))) to → From (λ v w. looping v (tolled 2 w)) at to out again
      while_lands true no_ys h t v e r s w =
          let here = subst (λ ys. Stands lines layout at (ys ++ line.Label n ∷ (xs ++ line.Branch op a b n ∷ line.Label (n + 1) ∷ [])) to) (no_ys refl) h in
          let at_head : At lines layout n at = (here.1).1 in
          lands_by lines layout unwind_at front size (looping v (tolled 2 w)) t w t (tolled 2 w) to out again (kept_self front size t) (idle t w (tolled 2 w) refl refl refl (omega arith))
          (test_lands at at n at_head at_head (past_label lines layout n at (xs ++ line.Branch op a b n ∷ line.Label (n + 1) ∷ []) to here)
          (λ end at_end. land_t at at end (subst (λ ys. Stands lines layout at ys at) (sym (no_ys refl)) refl) at_end at_head) t v e r s (tolled 2 w))
      while_lands false no_ys (n0, jump, l) t v e r s w =
          let inside = at + 4 * n0 in
          let first = past_label lines layout (n + 2) inside (ys ++ line.Label n ∷ (xs ++ line.Branch op a b (n + 2) ∷ line.Label (n + 1) ∷ [])) to l in
          let x = stands_split lines layout inside ys (line.Label n ∷ (xs ++ line.Branch op a b (n + 2) ∷ line.Label (n + 1) ∷ [])) to first in
          let head = x.0 in
          let at_head : At lines layout n head = ((x.2).1).1 in
          after_comes lines layout unwind_at front size looping t w v (tolled 2 w) head to out again r (jump_lands lines layout unwind_at front size n n0 at head t v w e r s jump at_head)
          (test_lands head inside (n + 2) at_head (l.1).1 (past_label lines layout n head (xs ++ line.Branch op a b (n + 2) ∷ line.Label (n + 1) ∷ []) to x.2) (λ end at_end. land_t inside head end x.1 at_end at_head))

    layer_lands : (y : Stmt-F ((s : Stmt) × IsFlattened s)) → AreRight (mentions_layer (map-Stmt Stmt (List Mention) mentions (parts y))) → front_layer (map-Stmt Stmt ℕ front_of (parts y)) ≤ front
        → LayerFlattened (run_layer size d g (map-Stmt Stmt Does (run size d g) (parts y))) (flat_layer front size unwind (map-Stmt Stmt Flat (flat front size unwind) (parts y)))
    layer_lands (stmt.Seq all) right wide n b c at to out again last h at_b at_c behind = row_lands all right wide n b c at to out again last h at_b at_c behind
    layer_lands (stmt.Plain i) right wide n b c at to out again last h at_b at_c behind = plain_lands at to out again i (right.0).1 h
    layer_lands (stmt.Get r k) right wide n b c at to out again last h at_b at_c behind = get_lands lines layout unwind_at front size frame r k at to out again (right.0).1 (right.1).0 h
    layer_lands (stmt.Put k r) right wide n b c at to out again last h at_b at_c behind = put_lands lines layout unwind_at front size frame k r at to out again (right.0).1 (right.1).0 h
    layer_lands (stmt.SharedLoad z rd rs1 imm) right wide n b c at to out again last h at_b at_c behind = shared_lands at to out again (load_of z rd rs1 imm) (right.0).1 h
    layer_lands (stmt.SharedStore z rs1 rs2 imm) right wide n b c at to out again last h at_b at_c behind = shared_lands at to out again (store_of z rs1 rs2 imm) (right.0).1 h
    layer_lands (stmt.Foreign i) right wide n b c at to out again last h at_b at_c behind = let less = right.0 in foreign_lands at to out again i (omega arith) h
    layer_lands (stmt.If op x y s t) right wide n b c at to out again last h at_b at_c behind =
        let m = split (mentions s.0) (mentions t.0) (right.1).1 in
        let no_first = (flat front size unwind s.0).none last in
        let no_second = (flat front size unwind t.0).none last in
        let xs = (flat front size unwind s.0).lines (n + 2 + (flat front size unwind t.0).labels) b c last in
        let ys = (flat front size unwind t.0).lines (n + 2) b c (choice_last no_first no_second last) in
        choice_lands op x y (run size d g s.0) (run size d g t.0) out again (right.0).1 ((right.1).0).1 no_first no_second n xs ys at to
        (λ none. no_lines front size unwind s.0 (n + 2 + (flat front size unwind t.0).labels) b c last none) (λ none. ap (λ last. (flat front size unwind t.0).lines (n + 2) b c last) (told no_first no_second last none) ∙ no_lines front size unwind t.0 (n + 2) b c last none) h
        (λ at h. s.1 m.0 (omega (arith, wide)) (n + 2 + (flat front size unwind t.0).labels) b c at to out again last h at_b at_c behind)
        (λ at mid h at_to. t.1 m.1 (omega (arith, wide)) (n + 2) b c at mid out again (choice_last no_first no_second last) h at_b at_c (λ is. let k = last_parts no_first no_second last is in at_to k.0 ∙ behind k.1))
    layer_lands (stmt.While before op x y t) right wide n b c at to out again last h at_b at_c behind =
        let m = split (flat_map (λ s. s) (map mentions (all_of before))) (Read x ∷ Read y ∷ mentions t.0) right in
        while_lands op x y n (row (map (flat front size unwind) (all_of before)) (n + 3 + (flat front size unwind t.0).labels) b c false) ((flat front size unwind t.0).lines (n + 3) (n + 1) n true) (in_turn (map (run size d g) (all_of before))) (run size d g t.0) at to out again
        ((m.1).0).1 (((m.1).1).0).1
        (λ at to h. row_lands before m.0 (omega (arith, wide)) (n + 3 + (flat front size unwind t.0).labels) b c at to out again false h at_b at_c (λ is. absurd (cc is)))
        (λ at to end h at_end at_head. t.1 ((m.1).1).1 (omega (arith, wide)) (n + 3) (n + 1) n at to end to true h at_end at_head (λ is. refl))
        ((flat front size unwind t.0).none true) (λ none. no_lines front size unwind t.0 (n + 3) (n + 1) n true none) h
    layer_lands stmt.Break right wide n b c at to out again last h at_b at_c behind = λ t v e r s w. jump_lands lines layout unwind_at front size b h.0 at out t v w e r s h.1 at_b
    layer_lands stmt.Continue right wide n b c at to out again true h at_b at_c behind = λ t v e r s w. record { state = t; sees = s; pc = e ∙ h ∙ behind refl; kept = kept_self front size t; by = idle t w (tolled 2 w) refl refl refl (omega arith) }
    layer_lands stmt.Continue right wide n b c at to out again false h at_b at_c behind = λ t v e r s w. jump_lands lines layout unwind_at front size c h.0 at again t v w e r s h.1 at_c
    layer_lands (stmt.Call f s None) right wide n b c at to out again last h at_b at_c behind =
        let y = stands f right.0 in
        let m = split (mentions s.0) [] right.1 in
        plain_call lines layout unwind_at front size d (omega (arith, wide)) g enters f h.0 y.0 at to out again (run size d g s.0) h.1 y.1 (s.1 m.0 (omega (arith, wide)) n b c (at + 4 * h.0) to out again last h.2 at_b at_c behind)
    layer_lands (stmt.Call f s (Some x)) right wide n b c at to out again last h at_b at_c behind =
        let y = stands f right.0 in
        let m = split (mentions s.0) (Exception x.exception ∷ mentions (x.body).0) right.1 in
        let less = (m.1).0 in
        guarded_call lines layout unwind_at unwind uncaught unwind_end unwind_stands front size frame wide d g enters f n y.0 at to out again ((flat front size unwind s.0).lines (n + 2) b c false) ((flat front size unwind (x.body).0).lines (n + 2 + (flat front size unwind s.0).labels) b c last)
        (run size d g s.0) (record { exception = x.exception; body = run size d g (x.body).0 }) (omega arith) h y.1
        (λ at mid h. s.1 m.0 (let few = front_small s.0 in omega (arith, wide, few)) (n + 2) b c at mid out again false h at_b at_c (λ is. absurd (cc is)))
        (λ at h. (x.body).1 (m.1).1 (let few = front_small (x.body).0 in omega (arith, wide, few)) (n + 2 + (flat front size unwind s.0).labels) b c at to out again last h at_b at_c behind)
    layer_lands (stmt.TailCall f) right wide n b c at to out again last h at_b at_c behind = let y = stands f right.0 in tail_lands lines layout unwind_at front size frame g enters f y.0 at to out again h y.1
    layer_lands stmt.Return right wide n b c at to out again last h at_b at_c behind = return_lands lines layout unwind_at front size frame at to out again h
    layer_lands (stmt.Raise i) right wide n b c at to out again last h at_b at_c behind = let less = right.0 in raise_lands lines layout unwind_at front size i unwind at to out again (omega arith) at_unwind h

    pub flattened : (s : Stmt) → IsFlattened s
    flattened =
        stmt_induct IsFlattened (λ y right wide.
        let here = layer_lands y (subst AreRight (mentions_roll (parts y)) right) (subst (λ n. n ≤ front) (front_roll (parts y)) wide) in
        let same_code = subst (λ f. LayerFlattened (run_layer size d g (map-Stmt Stmt Does (run size d g) (parts y))) f) (sym (flat_roll front size unwind (parts y))) here in
        subst (λ m. LayerFlattened m (flat front size unwind (roll-Stmt (parts y)))) (sym (run_roll size d g (parts y))) same_code)
