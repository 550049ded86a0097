-- The fields of a program's lines are in range, and their labels below the count.
use Rattle.std.proofs.Common.{◌≡◌, ℕ, ℤ, pos, negsuc, suc, ◌+◌, ◌-◌, ◌%◌, ◌^◌, ◌<◌, ◌≤◌, refl, sym, ap, ◌∙◌, subst, Bool, true, false, cond, List, [], ◌∷◌, ◌++◌, append-nil, map, Some, None, length, arith}
use Rattle.std.specs.Prelude.{◌≤ℤ◌, nat_eq, flat_map, slice_get}
use Rattle.std.specs.List.{AllByRecursion}
use Rattle.std.proofs.lemmas.List.Elements.{recursion_from_All}
use Rattle.std.proofs.lemmas.Bool.Decides.{nat_tests}
use Rattle.pan_base.specs.Words.{signed}
use Rattle.pan_base.specs.declared.operators.Cmp.TheVariants.{Ltu, Ne}
use Rattle.pan_base.specs.declared.operators.UOp.TheVariants.{Lui}
use Rattle.pan_base.specs.declared.operators.ROp.TheVariants.{Add, Sub}
use Rattle.pan_base.specs.declared.operators.SOp.TheVariants.{Sd}
use Rattle.pan_base.specs.declared.operators.LOp.TheVariants.{Ld}
use Rattle.pan_base.specs.declared.operators.IOp.TheVariants.{Addi}
use Rattle.pan_stage.specs.declared.program.Program.{Program}
use Rattle.riscv_isa.specs.declared.instr.Instr.TheVariants as instr
use Rattle.lab_lang.specs.WellFormed.{IsLine}
use Rattle.lab_lang.specs.declared.syntax.Line.{Line}
use Rattle.lab_lang.specs.declared.syntax.Line.TheVariants as line
use Rattle.stack_lang.specs.Text.{Mention, Read, Exception, mentions_layer, mentions}
use Rattle.stack_lang.specs.WellFormed.{IsRight, scope_of, IsWellFormed}
use Rattle.stack_lang.specs.Frames.{front_words}
use Rattle.stack_lang.specs.declared.syntax.StackFun.{StackFun}
use Rattle.stack_lang.specs.declared.syntax.Stmt.{Stmt, Stmt-F, map-Stmt}
use Rattle.stack_lang.specs.declared.syntax.Stmt.TheOpen as stmt
use Rattle.stack_lang.proofs.Equations.{stmt_induct, mentions_roll}
use Rattle.pan_base.specs.declared.operators.Cmp.{Cmp}
use Rattle.lab_flatten.specs.Flatten.{ends, choice_head, choice_middle, choice_end, choice_last, loop_head, loop_turn, labels_in, Flat, row, labels_of, flat_layer, flat, high, low, base, rest, is_near, reach, where_some, below, front_lines, off, slot_at, function_lines, functions_lines, start_lines, stub_lines, unwind_lines, program_lines}
use Rattle.lab_flatten.proofs.Facts.{frame_of, right_of}
use Rattle.lab_flatten.proofs.Simulation.{every_parts, flat_roll}

-- ---- offsets

-- an immediate of 12 bits
abbrev IsImmediate : ℤ → Type 0
IsImmediate z = (negsuc 2047 ≤ℤ z) × (z ≤ℤ pos 2047)

low_fits : (d : ℕ) → IsImmediate (low d)
low_fits d = let m : d % 2 ^ 12 < 2 ^ 12 = omega arith in by (d % 2 ^ 12) m
  where
    by : (m : ℕ) → m < 2 ^ 12 → IsImmediate (signed 12 m)
    by m small = (grind (arith, nat_tests), grind (arith, nat_tests))

near_fits : (d : ℕ) → is_near d ≡ true → IsImmediate (pos d)
near_fits d near = (grind (arith, nat_tests), grind (arith, nat_tests))

under_fits : (d : ℕ) → is_near d ≡ true → IsImmediate (negsuc (d - 1))
under_fits d near = (grind (arith, nat_tests), grind (arith, nat_tests))

rest_fits : (d : ℕ) → IsImmediate (rest d)
rest_fits d = by (is_near d) refl
  where
    by : (b : Bool) → is_near d ≡ b → IsImmediate (cond b (pos d) (low d))
    by true near = near_fits d near
    by false near = low_fits d

base_fits : (d : ℕ) → base d < 32
base_fits d = by (is_near d)
  where
    by : (b : Bool) → cond b 2 9 < 32
    by true = omega arith
    by false = omega arith

number_fits : (n : ℕ) → n < 2 ^ 11 → IsImmediate (pos n)
number_fits n small = (grind (arith, nat_tests), grind (arith, nat_tests))

module _ (labels : ℕ) where
  abbrev pub AreLines : List Line → Type 0
  AreLines xs = AllByRecursion (IsLine labels) xs

  lines_append : (xs ys : List Line) → AreLines xs → AreLines ys → AreLines (xs ++ ys)
  lines_append [] ys a b = b
  lines_append (x ∷ xs) ys a b = (a.0, lines_append xs ys a.1 b)

  sum_line : (rd rs1 n : ℕ) → rd < 32 → rs1 < 32 → n < 2 ^ 11 → IsLine labels (line.Plain (instr.I Addi rd rs1 (pos n)))
  sum_line rd rs1 n a b small = let h = number_fits n small in (a, b, h.0, h.1)

  reach_lines : (d : ℕ) (xs : List Line) → d ≤ 0x7F000 → AreLines xs → AreLines (reach d ++ xs)
  reach_lines d xs few h = by (is_near d)
    where
      by : (b : Bool) → AreLines (cond b [] (line.Plain (instr.U Lui 9 (high d)) ∷ line.Plain (instr.R Add 9 9 2) ∷ []) ++ xs)
      by true = h
      by false = ((omega arith, omega arith), ((omega arith, omega arith, omega arith), h))

  -- a load, a store or a sum at an offset from x2
  far_load : (d r : ℕ) → d ≤ 0x7F000 → r < 32 → AreLines (reach d ++ line.Plain (instr.L Ld r (base d) (rest d)) ∷ [])
  far_load d r few small = let h = rest_fits d in reach_lines d (line.Plain (instr.L Ld r (base d) (rest d)) ∷ []) few ((small, base_fits d, h.0, h.1), tt)

  far_store : (d r : ℕ) → d ≤ 0x7F000 → r < 32 → AreLines (reach d ++ line.Plain (instr.S Sd (base d) r (rest d)) ∷ [])
  far_store d r few small = let h = rest_fits d in reach_lines d (line.Plain (instr.S Sd (base d) r (rest d)) ∷ []) few ((base_fits d, small, h.0, h.1), tt)

  far_sum : (d : ℕ) (xs : List Line) → d ≤ 0x7F000 → AreLines xs → AreLines (reach d ++ line.Plain (instr.I Addi 2 (base d) (rest d)) ∷ xs)
  far_sum d xs few rest_lines = let h = rest_fits d in reach_lines d (line.Plain (instr.I Addi 2 (base d) (rest d)) ∷ xs) few ((omega arith, base_fits d, h.0, h.1), rest_lines)

  some_lines : (n : ℕ) (xs ys : List Line) → AreLines xs → AreLines ys → AreLines (where_some n xs ++ ys)
  some_lines n xs ys hx hy = by (nat_eq n 0)
    where
      by : (b : Bool) → AreLines (cond b [] xs ++ ys)
      by true = hy
      by false = lines_append xs ys hx hy

  off_lines : (front size : ℕ) (ys : List Line) → size ≤ 0x7F000 → AreLines ys → AreLines (off front size ys)
  off_lines front size ys few h =
      let z = number_fits 0 (omega arith) in
      let up = reach size ++ line.Plain (instr.I Addi 2 (base size) (rest size)) ∷ [] in
      some_lines front (line.Plain (instr.L Ld 1 2 (pos 0)) ∷ []) (where_some size up ++ ys) ((omega arith, omega arith, z.0, z.1), tt) (some_lines size up ys (far_sum size [] few tt) h)

  below_lines : (d : ℕ) (xs : List Line) → d ≤ 0x7F000 → AreLines xs → AreLines (below d ++ xs)
  below_lines d xs few h = by (is_near d) refl
    where
      by : (b : Bool) → is_near d ≡ b → AreLines (cond b (line.Plain (instr.I Addi 9 2 (negsuc (d - 1))) ∷ []) (line.Plain (instr.U Lui 9 (high d)) ∷ line.Plain (instr.I Addi 9 9 (low d)) ∷ line.Plain (instr.R Sub 9 2 9) ∷ []) ++ xs)
      by true near = let z = under_fits d near in ((omega arith, omega arith, z.0, z.1), h)
      by false near = let z = low_fits d in ((omega arith, omega arith), ((omega arith, omega arith, z.0, z.1), ((omega arith, omega arith, omega arith), h)))

  entry_lines : (front size stub : ℕ) (ys : List Line) → size ≤ 0x7F000 → stub < labels → AreLines ys → AreLines (front_lines front size stub ++ ys)
  entry_lines front size stub ys few less h =
      let z = number_fits 0 (omega arith) in
      let test = line.Branch Ltu 9 4 stub ∷ line.Plain (instr.I Addi 2 9 (pos 0)) ∷ [] in
      let link = line.Plain (instr.S Sd 2 1 (pos 0)) ∷ [] in
      let under = below_lines size test few ((omega arith, omega arith, less), (sum_line 2 9 0 (omega arith) (omega arith) (omega arith), tt)) in
      lines_append (front_lines front size stub) ys (some_lines size (below size ++ test) (where_some front link) under (subst AreLines (append-nil (where_some front link)) (some_lines front link [] ((omega arith, omega arith, z.0, z.1), tt) tt))) h

  choice_lines : (f g : Bool) (op : Cmp) (a b n : ℕ) (xs ys : List Line) → a < 32 → b < 32 → n + 1 < labels → AreLines xs → AreLines ys → AreLines (choice_head f g op a b n ++ (ys ++ (choice_middle f g n ++ (xs ++ choice_end f g n))))
  choice_lines true true op a b n xs ys p q le hx hy = lines_append ys (xs ++ []) hy (lines_append xs [] hx tt)
  choice_lines true false op a b n xs ys p q le hx hy = ((p, q, omega arith), lines_append ys (xs ++ line.Label n ∷ []) hy (lines_append xs (line.Label n ∷ []) hx (omega arith, tt)))
  choice_lines false true op a b n xs ys p q le hx hy = ((p, q, omega arith), lines_append ys (xs ++ line.Label n ∷ []) hy (lines_append xs (line.Label n ∷ []) hx (omega arith, tt)))
  choice_lines false false op a b n xs ys p q le hx hy =
      ((p, q, omega arith), lines_append ys (line.Jump (n + 1) ∷ line.Label n ∷ (xs ++ line.Label (n + 1) ∷ [])) hy (omega arith, (omega arith, lines_append xs (line.Label (n + 1) ∷ []) hx (omega arith, tt))))

  loop_lines : (e : Bool) (op : Cmp) (a b n : ℕ) (xs ys : List Line) → a < 32 → b < 32 → n + 2 < labels → AreLines xs → AreLines ys → AreLines (loop_head e n ++ (ys ++ line.Label n ∷ (xs ++ line.Branch op a b (loop_turn e n) ∷ line.Label (n + 1) ∷ [])))
  loop_lines true op a b n xs ys p q le hx hy =
      lines_append ys (line.Label n ∷ (xs ++ line.Branch op a b n ∷ line.Label (n + 1) ∷ [])) hy (omega arith, lines_append xs (line.Branch op a b n ∷ line.Label (n + 1) ∷ []) hx ((p, q, omega arith), (omega arith, tt)))
  loop_lines false op a b n xs ys p q le hx hy =
      (omega arith, (omega arith, lines_append ys (line.Label n ∷ (xs ++ line.Branch op a b (n + 2) ∷ line.Label (n + 1) ∷ [])) hy (omega arith, lines_append xs (line.Branch op a b (n + 2) ∷ line.Label (n + 1) ∷ []) hx ((p, q, omega arith), (omega arith, tt)))))

  -- ---- statements

  module _ (front size unwind functions exceptions names : ℕ) (few : size ≤ 0x7F000) (few_exceptions : exceptions ≤ 1024) (few_names : names ≤ 1024) (unwind_below : unwind < labels) (functions_below : functions ≤ labels) where
    abbrev AreRight : List Mention → Type 0
    AreRight ms = AllByRecursion (IsRight (record { frame = size; front = front; functions = functions; exceptions = exceptions; names = names })) ms

    split : (xs ys : List Mention) → AreRight (xs ++ ys) → AreRight xs × AreRight ys
    split xs ys h = every_parts (IsRight (record { frame = size; front = front; functions = functions; exceptions = exceptions; names = names })) xs ys h

    -- of its lines
    abbrev HasLines : Flat → Type 0
    HasLines f = (n b c : ℕ) (last : Bool) → n + f.labels ≤ labels → b < labels → c < labels → AreLines (f.lines n b c last)

    abbrev StmtLines : Stmt → Type 0
    StmtLines s = AreRight (mentions s) → HasLines (flat front size unwind s)

    abbrev parts : Stmt-F ((s : Stmt) × StmtLines s) → Stmt-F Stmt
    parts y = map-Stmt ((s : Stmt) × StmtLines s) Stmt (λ p. p.0) y

    abbrev all_of : List ((s : Stmt) × StmtLines s) → List Stmt
    all_of ss = map (λ p. p.0) ss

    row_lines : (ss : List ((s : Stmt) × StmtLines s)) → AreRight (flat_map (λ s. s) (map mentions (all_of ss))) → (n b c : ℕ) (last : Bool) → n + labels_of (map (flat front size unwind) (all_of ss)) ≤ labels → b < labels → c < labels
        → AreLines (row (map (flat front size unwind) (all_of ss)) n b c last)
    row_lines [] right n b c last le b_below c_below = tt
    row_lines (x ∷ xs) right n b c last le b_below c_below =
        let after = ends (map (flat front size unwind) (all_of xs)) last in
        let m = split (mentions x.0) (flat_map (λ s. s) (map mentions (all_of xs))) right in
        lines_append ((flat front size unwind x.0).lines n b c after) (row (map (flat front size unwind) (all_of xs)) (n + (flat front size unwind x.0).labels) b c last)
        (x.1 m.0 n b c after (omega arith) b_below c_below) (row_lines xs m.1 (n + (flat front size unwind x.0).labels) b c last (omega arith) b_below c_below)

    layer_lines : (y : Stmt-F ((s : Stmt) × StmtLines s)) → AreRight (mentions_layer (map-Stmt Stmt (List Mention) mentions (parts y))) → HasLines (flat_layer front size unwind (map-Stmt Stmt Flat (flat front size unwind) (parts y)))
    layer_lines (stmt.Seq all) right n b c last le b_below c_below = row_lines all right n b c last le b_below c_below
    layer_lines (stmt.Plain i) right n b c last le b_below c_below = ((right.0).0, tt)
    layer_lines (stmt.Get r k) right n b c last le b_below c_below = let inside = (right.1).0 in far_load (slot_at front k) r (omega arith) (right.0).0
    layer_lines (stmt.Put k r) right n b c last le b_below c_below = let inside = (right.1).0 in far_store (slot_at front k) r (omega arith) (right.0).0
    layer_lines (stmt.SharedLoad z rd rs1 imm) right n b c last le b_below c_below = ((right.0).0, tt)
    layer_lines (stmt.SharedStore z rs1 rs2 imm) right n b c last le b_below c_below = ((right.0).0, tt)
    layer_lines (stmt.Foreign i) right n b c last le b_below c_below =
        let less = right.0 in (sum_line 14 0 i (omega arith) (omega arith) (omega arith), (sum_line 17 0 1 (omega arith) (omega arith) (omega arith), (tt, tt)))
    layer_lines (stmt.If op x y s t) right n b c last le b_below c_below =
        let m = split (mentions s.0) (mentions t.0) (right.1).1 in
        let f = (flat front size unwind s.0).none last in
        let g = (flat front size unwind t.0).none last in
        choice_lines f g op x y n ((flat front size unwind s.0).lines (n + 2 + (flat front size unwind t.0).labels) b c last) ((flat front size unwind t.0).lines (n + 2) b c (choice_last f g last)) (right.0).0 ((right.1).0).0 (omega arith)
        (s.1 m.0 (n + 2 + (flat front size unwind t.0).labels) b c last (omega arith) b_below c_below) (t.1 m.1 (n + 2) b c (choice_last f g last) (omega arith) b_below c_below)
    layer_lines (stmt.While before op x y t) right n b c last le b_below c_below =
        let m = split (flat_map (λ s. s) (map mentions (all_of before))) (Read x ∷ Read y ∷ mentions t.0) right in
        loop_lines ((flat front size unwind t.0).none true) op x y n (row (map (flat front size unwind) (all_of before)) (n + 3 + (flat front size unwind t.0).labels) b c false) ((flat front size unwind t.0).lines (n + 3) (n + 1) n true) ((m.1).0).0 (((m.1).1).0).0 (omega arith)
        (row_lines before m.0 (n + 3 + (flat front size unwind t.0).labels) b c false (omega arith) b_below c_below) (t.1 ((m.1).1).1 (n + 3) (n + 1) n true (omega arith) (omega arith) (omega arith))
    layer_lines stmt.Break right n b c last le b_below c_below = (b_below, tt)
    layer_lines stmt.Continue right n b c true le b_below c_below = tt
    layer_lines stmt.Continue right n b c false le b_below c_below = (c_below, tt)
    layer_lines (stmt.Call f s None) right n b c last le b_below c_below = let less = right.0 in let m = split (mentions s.0) [] right.1 in (omega arith, s.1 m.0 n b c last le b_below c_below)
    layer_lines (stmt.Call f s (Some x)) right n b c last le b_below c_below =
        let less = right.0 in
        let m = split (mentions s.0) (Exception x.exception ∷ mentions (x.body).0) right.1 in
        let small = (m.1).0 in
        let xs = (flat front size unwind s.0).lines (n + 2) b c false in
        let ys = (flat front size unwind (x.body).0).lines (n + 2 + (flat front size unwind s.0).labels) b c last in
        let eight = number_fits 8 (omega arith) in let sixteen = number_fits 16 (omega arith) in
        let body = lines_append ys (line.Label (n + 1) ∷ []) ((x.body).1 (m.1).1 (n + 2 + (flat front size unwind s.0).labels) b c last (omega arith) b_below c_below) (omega arith, tt) in
        let handles : AreLines (line.Jump (n + 1) ∷ line.Label n ∷ line.Plain (instr.I Addi 9 0 (pos x.exception)) ∷ line.Branch Ne 1 9 unwind ∷ (ys ++ line.Label (n + 1) ∷ []))
        = (omega arith, (omega arith, (sum_line 9 0 x.exception (omega arith) (omega arith) (omega arith), ((omega arith, omega arith, unwind_below), body)))) in
        let returned = lines_append xs (line.Jump (n + 1) ∷ line.Label n ∷ line.Plain (instr.I Addi 9 0 (pos x.exception)) ∷ line.Branch Ne 1 9 unwind ∷ (ys ++ line.Label (n + 1) ∷ [])) (s.1 m.0 (n + 2) b c false (omega arith) b_below c_below) handles in
        ((omega arith, omega arith, eight.0, eight.1), ((omega arith, omega arith), ((omega arith, omega arith, sixteen.0, sixteen.1), (sum_line 8 2 8 (omega arith) (omega arith) (omega arith), (omega arith, ((omega arith, omega arith, eight.0, eight.1), returned))))))
    layer_lines (stmt.TailCall f) right n b c last le b_below c_below =
        let less = right.0 in off_lines front size (line.Jump f ∷ []) few (omega arith, tt)
    layer_lines stmt.Return right n b c last le b_below c_below = off_lines front size (line.JumpReg 1 ∷ []) few (omega arith, tt)
    layer_lines (stmt.Raise i) right n b c last le b_below c_below = let less = right.0 in (sum_line 1 0 i (omega arith) (omega arith) (omega arith), (unwind_below, tt))

    pub stmt_lines : (s : Stmt) → StmtLines s
    stmt_lines = stmt_induct StmtLines (λ y right. subst HasLines (sym (flat_roll front size unwind (parts y))) (layer_lines y (subst AreRight (mentions_roll (parts y)) right)))

-- ---- functions and programs

module _ (p : Program StackFun) (fine : IsWellFormed p) (labels : ℕ) (enough : length p.functions + 3 + labels_in (length p.functions + 1) p.functions ≤ labels) where
  abbrev count : ℕ
  count = length p.functions

  -- those from number k on are the program's
  abbrev AreTheirs : List StackFun → ℕ → Type 0
  AreTheirs gs k = (j : ℕ) (g : StackFun) → slice_get gs j ≡ Some g → slice_get p.functions (k + j) ≡ Some g

  functions_are : (gs : List StackFun) (f n : ℕ) → AreTheirs gs f → f + length gs ≤ labels → n + labels_in (count + 1) gs ≤ labels → AreLines labels (functions_lines count (count + 1) gs f n)
  functions_are [] f n theirs less le = tt
  functions_are (g ∷ gs) f n theirs less le =
      let body = (flat (front_words g) g.frame (count + 1) g.body).lines n count count false in
      let last = n + (flat (front_words g) g.frame (count + 1) g.body).labels in
      let here : slice_get p.functions f ≡ Some g = ap (slice_get p.functions) (none f) ∙ theirs 0 g refl in
      let frame = frame_of p fine f g here in
      let right = recursion_from_All (IsRight (scope_of p g)) (mentions g.body) (right_of p fine f g here) in
      let inside = stmt_lines labels (front_words g) g.frame (count + 1) count (length p.exceptions) (length p.names) frame.most fine.numbers.exceptions fine.numbers.names (omega arith) (omega arith) g.body right n count count false (omega arith) (omega arith) (omega arith) in
      let one : AreLines labels (function_lines f n count (count + 1) g) = (omega arith, entry_lines labels (front_words g) g.frame count body frame.most (omega arith) inside) in
      lines_append labels (function_lines f n count (count + 1) g) (functions_lines count (count + 1) gs (f + 1) last) one
      (functions_are gs (f + 1) last (λ j h is. ap (slice_get p.functions) (next f j) ∙ theirs (suc j) h is) (omega arith) (omega arith))
    where
      none : (f : ℕ) → f ≡ f + 0
      none f = omega arith

      next : (f j : ℕ) → f + 1 + j ≡ f + suc j
      next f j = omega arith

  -- each line of the program is in range
  pub program_are : AreLines labels (program_lines p.functions p.main)
  program_are =
      let main = fine.main in
      let eight = number_fits 8 (omega arith) in
      let none = number_fits 0 (omega arith) in
      let functions = functions_lines count (count + 1) p.functions 0 (count + 3) in
      let all = functions_are p.functions 0 (count + 3) (λ j g is. ap (slice_get p.functions) (same j) ∙ is) (omega arith) (omega arith) in
      let zero_sum : (rd rs1 n : ℕ) → rd < 32 → rs1 < 32 → n < 2 ^ 11 → IsLine labels (line.Plain (instr.I Addi rd rs1 (pos n))) = sum_line labels in
      let uncaught : AreLines labels (line.Label (count + 2) ∷ line.Plain (instr.I Addi 17 0 (pos 0)) ∷ line.Plain (instr.I Addi 10 0 (pos 1)) ∷ line.Plain (instr.I Addi 11 1 (pos 0)) ∷ line.Plain instr.Ecall ∷ [])
      = (omega arith, (zero_sum 17 0 0 (omega arith) (omega arith) (omega arith), (zero_sum 10 0 1 (omega arith) (omega arith) (omega arith), (zero_sum 11 1 0 (omega arith) (omega arith) (omega arith), (tt, tt))))) in
      let unwinding : AreLines labels (unwind_lines (count + 1) (count + 2))
      = (omega arith, ((omega arith, omega arith, omega arith), ((omega arith, omega arith, eight.0, eight.1), ((omega arith, omega arith, search (arith), search (arith)), ((omega arith, omega arith, none.0, none.1), (omega arith, uncaught)))))) in
      let stub : AreLines labels (stub_lines count) = (omega arith, (zero_sum 17 0 0 (omega arith) (omega arith) (omega arith), (zero_sum 10 0 2 (omega arith) (omega arith) (omega arith), (tt, tt)))) in
      let start : AreLines labels (start_lines p.main)
      = (omega arith, (zero_sum 11 10 0 (omega arith) (omega arith) (omega arith), (zero_sum 10 0 0 (omega arith) (omega arith) (omega arith), (zero_sum 17 0 0 (omega arith) (omega arith) (omega arith), (tt, tt))))) in
      lines_append labels (start_lines p.main) (stub_lines count ++ (unwind_lines (count + 1) (count + 2) ++ functions)) start
      (lines_append labels (stub_lines count) (unwind_lines (count + 1) (count + 2) ++ functions) stub (lines_append labels (unwind_lines (count + 1) (count + 2)) functions unwinding all))
    where
      same : (j : ℕ) → 0 + j ≡ j
      same j = omega arith
