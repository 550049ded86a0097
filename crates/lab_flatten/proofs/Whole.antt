-- A program's lines do what the program does.
use Rattle.std.proofs.Common.{◌≡◌, ◌≢◌, ℕ, pos, negsuc, zero, suc, ◌+◌, ◌*◌, ◌%◌, ◌^◌, ◌<◌, ◌≤◌, refl, sym, ap, ◌∙◌, subst, true, List, [], ◌∷◌, ◌++◌, length, replicate, Option, Some, arith}
use Rattle.std.specs.Prelude.{slice_get}
use Rattle.std.specs.List.{All}
use Rattle.std.proofs.lemmas.Bool.Decides.{nat_tests}
use Rattle.std.proofs.lemmas.List.{length-replicate, append-nil}
use Rattle.pan_base.specs.Lawful.{IsLawfulMemory, IsLawfulStack}
use Rattle.pan_base.specs.Results.{plus}
use Rattle.pan_base.specs.Words.{compare}
use Rattle.pan_base.specs.Events.{Replied, Ending, Exit, Uncaught, Spent, Fails}
use Rattle.pan_base.specs.declared.operators.Cmp.TheVariants.{Eq}
use Rattle.pan_base.specs.declared.operators.LOp.TheVariants.{Ld}
use Rattle.pan_base.specs.declared.operators.IOp.TheVariants.{Addi}
use Rattle.pan_control.specs.World.{tolled}
use Rattle.pan_control.specs.Control.{Normal, Broken, Continued, Returned, Raised, Over, world_of}
use Rattle.pan_control.specs.Runs.{start, ending_of}
use Rattle.pan_stage.specs.Stage.{IsDoneInSteps}
use Rattle.pan_stage.specs.declared.program.Program.{Program}
use Rattle.pan_stage.proofs.DataLaws.{words_bytes_length}
use Rattle.riscv_isa.specs.declared.instr.Instr.TheVariants as instr
use Rattle.riscv_isa.specs.Step.{State, reg, with_reg, next, ended}
use Rattle.riscv_isa.proofs.Fetching.{with_reg_32}
use Rattle.lab_lang.specs.declared.syntax.Line.{Line}
use Rattle.lab_lang.specs.declared.syntax.Line.TheVariants as line
use Rattle.lab_lang.specs.Layout.{IsLayout}
use Rattle.lab_lang.specs.Meaning.{behaviour}
use Rattle.stack_lang.specs.Shown.{hide}
use Rattle.stack_lang.specs.Frame.{Frame, no_slots}
use Rattle.machine_start.specs.Start.{started}
use Rattle.stack_lang.specs.Meaning.{World, Outcome, main_leaves, meaning}
use Rattle.stack_lang.specs.Text.{mentions}
use Rattle.stack_lang.specs.WellFormed.{IsRight, scope_of, IsWellFormed}
use Rattle.stack_lang.specs.Frames.{front_words}
use Rattle.stack_lang.specs.declared.syntax.StackFun.{StackFun}
use Rattle.stack_lang.proofs.Spending.{NoneIfSpent, leaves_use}
use Rattle.lab_flatten.specs.Flatten.{flat, function_lines, functions_lines, start_lines, stub_lines, unwind_lines, program_lines, lab_program}
use Rattle.lab_flatten.specs.Contract.{TakesFuelAsSteps}
use Rattle.lab_flatten.proofs.Hiding.{apart, reg_hide}
use Rattle.lab_flatten.proofs.Machine.{IsFrame, reg_same, reg_other, reg_pc, plus_zero}
use Rattle.lab_flatten.proofs.Lines.{At, Stands, stands_split, stands_at, past_label, goes_on, constant, step_reg, branch_moved, Called, call_moved}
use Rattle.lab_flatten.proofs.Lands.{steps_on, steps_goes, Stops, stops_by, Leaves}
use Rattle.lab_flatten.proofs.Calls.{reg_zero, Caller, begins_of}
use Rattle.lab_flatten.proofs.Functions.{ends, AllStand, all_enter}
use Rattle.lab_flatten.proofs.Standing.{span, all_stand}
use Rattle.lab_flatten.proofs.Labels.{program_distinct}
use Rattle.lab_flatten.proofs.Facts.{frame_of, right_of}

-- ---- where the functions stand

module _ (lines : List Line) (layout : List (ℕ × ℕ)) (stub unwind : ℕ) where
  same_number : (f k : ℕ) → f + 1 + k ≡ f + suc k
  same_number f k = omega arith

  first_number : (f : ℕ) → f ≡ f + 0
  first_number f = omega arith

  functions_stand : (gs : List StackFun) (f n at to : ℕ) → Stands lines layout at (functions_lines stub unwind gs f n) to → (k : ℕ) (fn : StackFun) → slice_get gs k ≡ Some fn
      → (label : ℕ) × (entry : ℕ) × (end : ℕ) × Stands lines layout entry (function_lines (f + k) label stub unwind fn) end
  functions_stand [] f n at to h k fn is = absurd (cc)
  functions_stand (g ∷ gs) f n at to h zero fn is =
      let s = stands_split lines layout at (function_lines f n stub unwind g) (functions_lines stub unwind gs (f + 1) (n + (flat (front_words g) g.frame unwind g.body).labels)) to h in
      (n, at, s.0, subst (λ k. Stands lines layout at (function_lines k n stub unwind fn) s.0) (first_number f) (subst (λ g. Stands lines layout at (function_lines f n stub unwind g) s.0) (same g fn is) s.1))
    where
      same : (a b : StackFun) → Some a ≡ Some b → a ≡ b
      same a b e = cc
  functions_stand (g ∷ gs) f n at to h (suc k) fn is =
      let s = stands_split lines layout at (function_lines f n stub unwind g) (functions_lines stub unwind gs (f + 1) (n + (flat (front_words g) g.frame unwind g.body).labels)) to h in
      let r = functions_stand gs (f + 1) (n + (flat (front_words g) g.frame unwind g.body).labels) s.0 to s.2 k fn is in
      (r.0, r.1, r.2, subst (λ m. Stands lines layout r.1 (function_lines m r.0 stub unwind fn) r.2) (same_number f k) r.3)

  functions_at : (gs : List StackFun) (f n at to : ℕ) → Stands lines layout at (functions_lines stub unwind gs f n) to → (k : ℕ) → k < length gs → (entry : ℕ) × At lines layout (f + k) entry
  functions_at [] f n at to h k less = absurd (omega arith)
  functions_at (g ∷ gs) f n at to h zero less = (at, subst (λ k. At lines layout k at) (first_number f) (h.1).1)
  functions_at (g ∷ gs) f n at to h (suc k) less =
      let s = stands_split lines layout at (function_lines f n stub unwind g) (functions_lines stub unwind gs (f + 1) (n + (flat (front_words g) g.frame unwind g.body).labels)) to h in
      let r = functions_at gs (f + 1) (n + (flat (front_words g) g.frame unwind g.body).labels) s.0 to s.2 k (let long : length (g ∷ gs) ≡ suc (length gs) = refl in omega arith) in
      (r.0, subst (λ m. At lines layout m r.0) (same_number f k) r.1)

-- ---- the two ends

next_reg : (s : State) (q : ℕ) → reg (next s) q ≡ reg s q
next_reg s q = reg_pc s (s.pc + 4) q

next_32 : (t : State) (r n : ℕ) → length t.registers ≡ 32 → length (next (with_reg t r n)).registers ≡ 32
next_32 t r n c = with_reg_32 t r n c

plus_nothing : (n : ℕ) → plus n (pos 0) ≡ n % 2 ^ 64
unfolding plus
plus_nothing n = let e : n + 0 ≡ n = omega arith in ap (λ m. m % 2 ^ 64) e

module _ (lines : List Line) (layout : List (ℕ × ℕ)) where
  -- the code that is common to both ends: x11 has the value, then the kind is set, and x17
  finish : (kind value : ℕ) (e : Ending) (end : ℕ) (t : State) → kind < 2 ^ 64 → length t.registers ≡ 32 → reg t 11 ≡ value → reg t 17 ≡ 0 → reg t 10 ≡ kind → ended kind value ≡ e → (xs : List Line) → Stands lines layout t.pc (line.Plain instr.Ecall ∷ xs) end
      → (w w' : World) → w'.trace ≡ w.trace → w.fuel ≤ 1 + w'.fuel → 1 + w.toll ≤ w'.toll → Stops lines layout t w e w'
  finish kind value e end t small count eleven seventeen ten is xs h w w' trace fuel toll =
      ends lines layout e xs end t h seventeen (ap (λ n. ended n (reg t 11)) ten ∙ ap (λ n. ended kind n) eleven ∙ is) w w' trace fuel toll

  -- after main's return
  exits : (end : ℕ) (t : State) (n : ℕ) → length t.registers ≡ 32 → reg t 10 ≡ n
      → Stands lines layout t.pc (line.Plain (instr.I Addi 11 10 (pos 0)) ∷ line.Plain (instr.I Addi 10 0 (pos 0)) ∷ line.Plain (instr.I Addi 17 0 (pos 0)) ∷ line.Plain instr.Ecall ∷ []) end
      → (w : World) → Stops lines layout t w (Exit (n % 2 ^ 64)) (tolled 7 w)
  exits end t n count ten h w =
      let v = plus (reg t 10) (pos 0) in
      let u1 = next (with_reg t 11 v) in
      let g1 = step_reg lines layout (instr.I Addi 11 10 (pos 0)) (line.Plain (instr.I Addi 10 0 (pos 0)) ∷ line.Plain (instr.I Addi 17 0 (pos 0)) ∷ line.Plain instr.Ecall ∷ []) end t 11 v h refl in
      let c1 = next_32 t 11 v count in
      let u2 = next (with_reg u1 10 0) in
      let g2 = constant lines layout 10 0 (line.Plain (instr.I Addi 17 0 (pos 0)) ∷ line.Plain instr.Ecall ∷ []) end u1 (omega arith) g1.1 in
      let c2 = next_32 u1 10 0 c1 in
      let u3 = next (with_reg u2 17 0) in
      let g3 = constant lines layout 17 0 (line.Plain instr.Ecall ∷ []) end u2 (omega arith) g2.1 in
      let c3 = next_32 u2 17 0 c2 in
      let w1 = tolled 3 w in
      let eleven : reg u3 11 ≡ n % 2 ^ 64 = next_reg (with_reg u2 17 0) 11 ∙ reg_other u2 17 0 11 (apart 11 17 refl) ∙ next_reg (with_reg u1 10 0) 11 ∙ reg_other u1 10 0 11 (apart 11 10 refl) ∙ next_reg (with_reg t 11 v) 11 ∙ reg_same t 11 v refl (omega arith) count ∙ ap (λ n. plus n (pos 0)) ten ∙ plus_nothing n in
      let is_ten : reg u3 10 ≡ 0 = next_reg (with_reg u2 17 0) 10 ∙ reg_other u2 17 0 10 (apart 10 17 refl) ∙ next_reg (with_reg u1 10 0) 10 ∙ reg_same u1 10 0 refl (omega arith) c1 in
      let seventeen : reg u3 17 ≡ 0 = next_reg (with_reg u2 17 0) 17 ∙ reg_same u2 17 0 refl (omega arith) c2 in
      stops_by lines layout t w u3 w1 (Exit (n % 2 ^ 64)) (tolled 7 w) (steps_goes lines layout t w u3 w1 (1 + (1 + 1)) (goes_on lines layout t u1 u3 1 (1 + 1) g1.0 (goes_on lines layout u1 u2 u3 1 1 g2.0 g3.0)) refl refl (omega arith) (omega arith))
      (finish 0 (n % 2 ^ 64) (Exit (n % 2 ^ 64)) end u3 (omega arith) c3 eleven seventeen is_ten refl [] g3.1 w1 (tolled 7 w) refl (omega arith) (omega arith))

  -- where no record is
  uncaught_ends : (unwind uncaught end i : ℕ) (t : State) → length t.registers ≡ 32 → Stands lines layout t.pc (unwind_lines unwind uncaught) end → reg t 8 ≡ 0 → reg t 1 ≡ i → i < 2 ^ 64 → (w : World) → Stops lines layout t w (Uncaught i) (tolled 7 w)
  uncaught_ends unwind uncaught end i t count stands none code small w =
      let last = line.Plain (instr.I Addi 17 0 (pos 0)) ∷ line.Plain (instr.I Addi 10 0 (pos 1)) ∷ line.Plain (instr.I Addi 11 1 (pos 0)) ∷ line.Plain instr.Ecall ∷ [] in
      let b = past_label lines layout unwind t.pc (line.Branch Eq 8 0 uncaught ∷ line.Plain (instr.L Ld 9 8 (pos 8)) ∷ line.Plain (instr.I Addi 2 8 (negsuc 7)) ∷ line.Plain (instr.L Ld 8 8 (pos 0)) ∷ line.JumpReg 9 ∷ line.Label uncaught ∷ last) end stands in
      let r1 = b.2 in let r2 = r1.2 in let r3 = r2.2 in let r4 = r3.2 in let lab = r4.2 in
      let hit = t.pc + 4 * b.0 + 4 * r1.0 + 4 * r2.0 + 4 * r3.0 + 4 * r4.0 in
      let m = branch_moved lines layout t Eq 8 0 uncaught b.0 hit true count b.1 (lab.1).1 (equal (reg t 8) (reg t 0) none (reg_zero t)) in
      let u0 = m.state in
      let c0 = (m.sets).count ∙ count in
      let at = stands_at lines layout hit u0.pc last end (sym m.pc) (past_label lines layout uncaught hit last end lab) in
      let u1 = next (with_reg u0 17 0) in
      let g1 = constant lines layout 17 0 (line.Plain (instr.I Addi 10 0 (pos 1)) ∷ line.Plain (instr.I Addi 11 1 (pos 0)) ∷ line.Plain instr.Ecall ∷ []) end u0 (omega arith) at in
      let c1 = next_32 u0 17 0 c0 in
      let u2 = next (with_reg u1 10 1) in
      let g2 = constant lines layout 10 1 (line.Plain (instr.I Addi 11 1 (pos 0)) ∷ line.Plain instr.Ecall ∷ []) end u1 (omega arith) g1.1 in
      let c2 = next_32 u1 10 1 c1 in
      let v = plus (reg u2 1) (pos 0) in
      let u3 = next (with_reg u2 11 v) in
      let g3 = step_reg lines layout (instr.I Addi 11 1 (pos 0)) (line.Plain instr.Ecall ∷ []) end u2 11 v g2.1 refl in
      let c3 = next_32 u2 11 v c2 in
      let one : reg u2 1 ≡ i = next_reg (with_reg u1 10 1) 1 ∙ reg_other u1 10 1 1 (apart 1 10 refl) ∙ next_reg (with_reg u0 17 0) 1 ∙ reg_other u0 17 0 1 (apart 1 17 refl) ∙ (m.sets).other 1 (apart 1 9 refl) ∙ code in
      let eleven : reg u3 11 ≡ i = next_reg (with_reg u2 11 v) 11 ∙ reg_same u2 11 v refl (omega arith) c2 ∙ ap (λ n. plus n (pos 0)) one ∙ plus_zero i small in
      let ten : reg u3 10 ≡ 1 = next_reg (with_reg u2 11 v) 10 ∙ reg_other u2 11 v 10 (apart 10 11 refl) ∙ next_reg (with_reg u1 10 1) 10 ∙ reg_same u1 10 1 refl (omega arith) c1 in
      let seventeen : reg u3 17 ≡ 0 = next_reg (with_reg u2 11 v) 17 ∙ reg_other u2 11 v 17 (apart 17 11 refl) ∙ next_reg (with_reg u1 10 1) 17 ∙ reg_other u1 10 1 17 (apart 17 10 refl) ∙ next_reg (with_reg u0 17 0) 17 ∙ reg_same u0 17 0 refl (omega arith) c0 in
      let w1 = tolled 6 w in
      let few = m.few in
      stops_by lines layout t w u3 w1 (Uncaught i) (tolled 7 w)
      (steps_goes lines layout t w u3 w1 (m.steps + (1 + (1 + 1))) (goes_on lines layout t u0 u3 m.steps (1 + (1 + 1)) m.goes (goes_on lines layout u0 u1 u3 1 (1 + 1) g1.0 (goes_on lines layout u1 u2 u3 1 1 g2.0 g3.0))) refl refl (omega arith) (omega arith))
      (finish 1 i (Uncaught i) end u3 (omega arith) c3 eleven seventeen ten refl [] g3.1 w1 (tolled 7 w) refl (omega arith) (omega arith))
    where
      equal : (a b : ℕ) → a ≡ 0 → b ≡ 0 → compare Eq a b ≡ true
      equal a b e f = grind (arith, nat_tests)

-- ---- the start

module _ (p : Program StackFun) (m : List ℕ) (size : ℕ) where
  boot_count : length (started p m size).registers ≡ 32
  boot_count = refl

  boot_sp : reg (started p m size) 2 ≡ 0x20000000 + size
  unfolding reg
  boot_sp = refl

  boot_limit : reg (started p m size) 4 ≡ 0x20000000
  unfolding reg
  boot_limit = refl

  boot_newest : reg (started p m size) 8 ≡ 0
  unfolding reg
  boot_newest = refl

  zeros_long : (n : ℕ) → length (replicate {A = ℕ} n 0) ≡ n
  zeros_long n = length-replicate n 0

  boot_caller : (lines : List Line) (layout : List (ℕ × ℕ)) → IsLawfulMemory m → IsLawfulStack size → length p.globals ≤ 1024 → Caller lines layout (started p m size)
  boot_caller lines layout lawful whole few =
      let sp = boot_sp in
      let newest = boot_newest in
      let long = zeros_long size in
      let block = zeros_long 1024 in
      let bytes = words_bytes_length p.globals in
      let even = whole.whole in let most = whole.most in let local = lawful.most in
      record {
        map = record { block = omega arith; globals = omega arith; local = omega arith; stack = omega arith };
        count = boot_count;
        whole = omega arith;
        low = omega arith;
        limit = boot_limit;
        top = omega arith;
        newest = omega arith;
      }

-- ---- a program

-- the word of what main leaves
abbrev word_of : Frame → Option ℕ
word_of v = Some (reg v.seen 10 % 2 ^ 64)

module _ (p : Program StackFun) (fine : IsWellFormed p) (layout : List (ℕ × ℕ)) (lay : IsLayout 0 (program_lines p.functions p.main) layout) (near : 4 * span layout ≤ 0x30000000)
    (size : ℕ) (m : List ℕ) (lawful : IsLawfulMemory m) (whole : IsLawfulStack size) (replies : List Replied) (n : ℕ) where
  abbrev lines : List Line
  lines = program_lines p.functions p.main

  abbrev boot : State
  boot = started p m size

  abbrev w0 : World
  w0 = tolled 7 (start tt [] replies n)

  abbrev w1 : World
  w1 = tolled 9 (start tt [] replies n)

  abbrev outcome : Outcome (Unit {0}) Frame
  outcome = main_leaves p size m replies n

  -- what main leaves ends the run
  main_ends : (unwind_at unwind_end start_end back entry : ℕ) → (c : Called lines layout boot back entry) → Stands lines layout unwind_at (unwind_lines (length p.functions + 1) (length p.functions + 2)) unwind_end
      → Stands lines layout back (line.Plain (instr.I Addi 11 10 (pos 0)) ∷ line.Plain (instr.I Addi 10 0 (pos 0)) ∷ line.Plain (instr.I Addi 17 0 (pos 0)) ∷ line.Plain instr.Ecall ∷ []) start_end
      → (o : Outcome (Unit {0}) Frame) → Leaves lines layout unwind_at o c.state w1 → ending_of word_of o ≢ Fails → Stops lines layout boot w0 (ending_of word_of o) (tolled 7 (world_of o))
  main_ends unwind_at unwind_end start_end back entry c unwinds exit (Normal x w') b ok = absurd (ok refl)
  main_ends unwind_at unwind_end start_end back entry c unwinds exit (Broken x w') b ok = absurd (ok refl)
  main_ends unwind_at unwind_end start_end back entry c unwinds exit (Continued x w') b ok = absurd (ok refl)
  main_ends unwind_at unwind_end start_end back entry c unwinds exit (Returned x w') b ok =
      let few = c.few in
      let u = b.state in
      let ten : reg u 10 ≡ reg x.seen 10 = sym (reg_hide u 10 (apart 10 1 refl, apart 10 9 refl, apart 10 2 refl, apart 10 8 refl)) ∙ ap (λ s. reg s 10) b.seen in
      stops_by lines layout boot w0 u w' (Exit (reg x.seen 10 % 2 ^ 64)) (tolled 7 w')
      (steps_on lines layout boot w0 c.state w1 u w' (steps_goes lines layout boot w0 c.state w1 c.steps c.goes refl refl (omega arith) (omega arith)) b.by)
      (exits lines layout start_end u (reg x.seen 10) ((b.outer).count ∙ (c.sets).count ∙ boot_count p m size) ten (stands_at lines layout back u.pc (line.Plain (instr.I Addi 11 10 (pos 0)) ∷ line.Plain (instr.I Addi 10 0 (pos 0)) ∷ line.Plain (instr.I Addi 17 0 (pos 0)) ∷ line.Plain instr.Ecall ∷ []) start_end (sym (b.pc ∙ (c.sets).value)) exit) w')
  main_ends unwind_at unwind_end start_end back entry c unwinds exit (Raised i x w') b ok =
      let few = c.few in
      let u = b.state in
      stops_by lines layout boot w0 u w' (Uncaught i) (tolled 7 w')
      (steps_on lines layout boot w0 c.state w1 u w' (steps_goes lines layout boot w0 c.state w1 c.steps c.goes refl refl (omega arith) (omega arith)) b.by)
      (uncaught_ends lines layout (length p.functions + 1) (length p.functions + 2) unwind_end i u ((b.outer).count ∙ (c.sets).count ∙ boot_count p m size)
      (stands_at lines layout unwind_at u.pc (unwind_lines (length p.functions + 1) (length p.functions + 2)) unwind_end (sym b.pc) unwinds)
      ((b.outer).newest ∙ (c.sets).other 8 (apart 8 1 refl) ∙ boot_newest p m size) b.code b.small w')
  main_ends unwind_at unwind_end start_end back entry c unwinds exit (Over e w') b ok =
      let few = c.few in
      let s = stops_by lines layout boot w0 c.state w1 e w' (steps_goes lines layout boot w0 c.state w1 c.steps c.goes refl refl (omega arith) (omega arith)) (b ok) in
      record { steps = s.steps; enough = s.enough; within = (let h = s.within in omega arith); is = s.is }

  pub program_runs : ((meaning p size m replies n).behaviour).ending ≢ Fails → TakesFuelAsSteps n outcome (meaning p size m replies n).behaviour (meaning p size m replies n).toll (behaviour (lab_program p) lines layout size m replies)
  program_runs ok =
      let fs = p.functions in
      let F = length fs in
      let to = 0x100000000 + 4 * span layout in
      let stand = all_stand lines layout lay (program_distinct fs p.main) near in
      let functions = functions_lines F (F + 1) fs 0 (F + 3) in
      let s1 = stands_split lines layout 0x100000000 (start_lines p.main) (stub_lines F ++ (unwind_lines (F + 1) (F + 2) ++ functions)) to stand in
      let s2 = stands_split lines layout s1.0 (stub_lines F) (unwind_lines (F + 1) (F + 2) ++ functions) to s1.2 in
      let s3 = stands_split lines layout s2.0 (unwind_lines (F + 1) (F + 2)) functions to s2.2 in
      let places : (k : ℕ) → k < F → (entry : ℕ) × At lines layout k entry = λ k less.
      let r = functions_at lines layout F (F + 1) fs 0 (F + 3) s3.0 to s3.2 k less in (r.0, subst (λ k. At lines layout k r.0) (zero_plus k) r.1) in
      let all : AllStand lines layout s2.0 fs F (F + 1) (F + 2) = record {
        stub_at = s1.0;
        stub_to = s2.0;
        stub_stands = s2.1;
        unwind_end = s3.0;
        unwind_stands = s3.1;
        places = places;
        stand = λ k fn is. let r = functions_stand lines layout F (F + 1) fs 0 (F + 3) s3.0 to s3.2 k fn is in (r.0, r.1, r.2, subst (λ k. Stands lines layout r.1 (function_lines k r.0 F (F + 1) fn) r.2) (zero_plus k) r.3);
      } in
      let e = places p.main fine.main in
      let count = (s1.1).0 in
      let here = (s1.1).1 in
      let c = call_moved lines layout boot p.main count e.0 (boot_count p m size) here e.1 in
      let begins = begins_of lines layout boot c.state (0x100000000 + 4 * count) (boot_caller p m size lines layout lawful whole fine.numbers.globals) c.sets here.2 here.3 in
      let sound : (f : ℕ) (fn : StackFun) → slice_get fs f ≡ Some fn → IsFrame (front_words fn) fn.frame × All (IsRight (scope_of p fn)) (mentions fn.body) = λ f fn is. (frame_of p fine f fn is, right_of p fine f fn is) in
      let left = all_enter lines layout s2.0 p fine.numbers.exceptions fine.numbers.names sound F (F + 1) (F + 2) all (suc n) p.main e.0 e.1 c.state c.pc begins (record { seen = hide boot; slots = no_slots; room = size }) (c.sets).seen ((c.sets).other 2 (apart 2 1 refl) ∙ boot_sp p m size) w1 in
      let s = main_ends s2.0 s3.0 s1.0 (0x100000000 + 4 * count) e.0 c s3.1 (s1.1).2 outcome left ok in
      record {
        steps = s.steps;
        same = s.is ∙ ap (λ es. record { events = es; ending = ending_of word_of outcome }) (append-nil (world_of outcome).trace);
        fuel = s.enough;
        toll = within s.steps (world_of outcome).toll s.within;
      }
    where
      zero_plus : (k : ℕ) → 0 + k ≡ k
      zero_plus k = omega arith

      within : (k n : ℕ) → k + 7 ≤ n + 7 → k ≤ n
      within k n h = omega arith

  pub program_done : ((meaning p size m replies n).behaviour).ending ≢ Fails → IsDoneInSteps n (meaning p size m replies n) (behaviour (lab_program p) lines layout size m replies)
  program_done ok =
      let r = program_runs ok in
      let spending = leaves_use p.functions (suc n) p.main (record { seen = hide boot; slots = no_slots; room = size }) w1 (omega arith) in
      record { steps = r.steps; same = r.same; fuel = λ spent. enough r.steps (world_of outcome).fuel r.fuel (fuel_gone outcome spending.none spent); toll = r.toll }
    where
      enough : (k left : ℕ) → n ≤ k + left → left ≡ 0 → n ≤ k
      enough k left h none = omega arith

      -- a run that is spent has no fuel left
      fuel_gone : (o : Outcome (Unit {0}) Frame) → NoneIfSpent o → ending_of word_of o ≡ Spent → (world_of o).fuel ≡ 0
      fuel_gone (Normal x w) h e = absurd (cc e)
      fuel_gone (Broken x w) h e = absurd (cc e)
      fuel_gone (Continued x w) h e = absurd (cc e)
      fuel_gone (Returned x w) h e = absurd (cc e)
      fuel_gone (Raised i x w) h e = absurd (cc e)
      fuel_gone (Over f w) h e = h e
