-- How many instructions a program's lines have at most.
use Rattle.std.proofs.Common.{◌≡◌, ℕ, pos, negsuc, ◌+◌, ◌-◌, ◌*◌, ◌≤◌, ap, Bool, true, false, cond, List, [], ◌∷◌, ◌++◌, map, Some, None, length, arith}
use Rattle.pan_base.specs.declared.operators.Cmp.TheVariants.{Ltu, Ne}
use Rattle.pan_base.specs.declared.operators.UOp.TheVariants.{Lui}
use Rattle.pan_base.specs.declared.operators.ROp.TheVariants.{Add, Sub}
use Rattle.pan_base.specs.declared.operators.SOp.TheVariants.{Sd}
use Rattle.pan_base.specs.declared.operators.LOp.TheVariants.{Ld}
use Rattle.pan_base.specs.declared.operators.IOp.TheVariants.{Addi}
use Rattle.std.specs.Prelude.{nat_eq}
use Rattle.pan_stage.specs.Sums.{sum_of}
use Rattle.riscv_isa.specs.declared.instr.Instr.TheVariants as instr
use Rattle.lab_lang.specs.Layout.{shortest, longest, IsLayout}
use Rattle.lab_lang.specs.declared.syntax.Line.{Line}
use Rattle.lab_lang.specs.declared.syntax.Line.TheVariants as line
use Rattle.stack_lang.specs.Needs.{code_layer, code, function_code}
use Rattle.stack_lang.specs.Frames.{front_words}
use Rattle.stack_lang.specs.declared.syntax.StackFun.{StackFun}
use Rattle.stack_lang.specs.declared.syntax.Stmt.{Stmt, Stmt-F, roll-Stmt, map-Stmt}
use Rattle.stack_lang.specs.declared.syntax.Stmt.TheOpen as stmt
use Rattle.stack_lang.proofs.Equations.{stmt_induct, code_roll}
use Rattle.pan_base.specs.declared.operators.Cmp.{Cmp}
use Rattle.lab_flatten.specs.Flatten.{ends, choice_head, choice_middle, choice_end, choice_last, loop_head, loop_turn, Flat, row, flat_layer, flat, high, low, base, rest, is_near, reach, below, slot_at, where_some, front_lines, off, function_lines, functions_lines, start_lines, stub_lines, unwind_lines, program_lines}
use Rattle.lab_flatten.proofs.Simulation.{flat_roll}
use Rattle.lab_flatten.proofs.Standing.{span}

-- how many instructions lines have at their longest
abbrev pub most_of : List Line → ℕ
most_of xs = sum_of (map longest xs)

most_append : (xs ys : List Line) → most_of (xs ++ ys) ≡ most_of xs + most_of ys
most_append [] ys = omega arith
most_append (x ∷ xs) ys = let e = most_append xs ys in omega arith

shortest_least : (x : Line) → shortest x ≤ longest x
shortest_least (line.Label l) = omega arith
shortest_least (line.Plain i) = omega arith
shortest_least (line.Jump l) = omega arith
shortest_least (line.Branch c a b l) = omega arith
shortest_least (line.CallTo l) = omega arith
shortest_least (line.Address rd l) = omega arith
shortest_least (line.JumpReg r) = omega arith

-- a layout has no more
pub layout_fits : (place : ℕ) (xs : List Line) (ys : List (ℕ × ℕ)) → IsLayout place xs ys → span ys ≤ most_of xs
layout_fits place [] [] lay = omega arith
layout_fits place [] (y ∷ ys) lay = absurd lay
layout_fits place (x ∷ xs) [] lay = absurd lay
layout_fits place (x ∷ xs) (y ∷ ys) lay = let r = layout_fits (place + 4 * y.1) xs ys lay.2 in let s = shortest_least x in let counts = lay.1 in omega arith

most_reach : (d : ℕ) (ys : List Line) → most_of (reach d ++ ys) ≤ 2 + most_of ys
most_reach d ys = by (is_near d)
  where
    by : (b : Bool) → most_of (cond b [] (line.Plain (instr.U Lui 9 (high d)) ∷ line.Plain (instr.R Add 9 9 2) ∷ []) ++ ys) ≤ 2 + most_of ys
    by true = omega arith
    by false = omega arith

most_some : (n : ℕ) (xs : List Line) → most_of (where_some n xs) ≤ most_of xs
most_some n xs = by (nat_eq n 0)
  where
    by : (b : Bool) → most_of (cond b [] xs) ≤ most_of xs
    by true = omega arith
    by false = omega arith

most_off : (front size : ℕ) (ys : List Line) → most_of (off front size ys) ≤ 4 + most_of ys
most_off front size ys =
    let link = line.Plain (instr.L Ld 1 2 (pos 0)) ∷ [] in
    let sum = line.Plain (instr.I Addi 2 (base size) (rest size)) ∷ [] in
    let a = most_append (where_some front link) (where_some size (reach size ++ sum) ++ ys) in
    let b = most_append (where_some size (reach size ++ sum)) ys in
    let c = most_some front link in
    let d = most_some size (reach size ++ sum) in
    let e = most_reach size sum in
    omega arith

module _ (front size unwind : ℕ) where
  abbrev Fits : Stmt → Type 0
  Fits s = (n b c : ℕ) (last : Bool) → most_of ((flat front size unwind s).lines n b c last) ≤ code s

  abbrev parts : Stmt-F ((s : Stmt) × Fits s) → Stmt-F Stmt
  parts y = map-Stmt ((s : Stmt) × Fits s) Stmt (λ p. p.0) y

  row_fits : (ss : List ((s : Stmt) × Fits s)) (n b c : ℕ) (last : Bool) → most_of (row (map (flat front size unwind) (map (λ p. p.0) ss)) n b c last) ≤ sum_of (map code (map (λ p. p.0) ss))
  row_fits [] n b c last = omega arith
  row_fits (x ∷ xs) n b c last =
      let after = ends (map (flat front size unwind) (map (λ p. p.0) xs)) last in
      let e = most_append ((flat front size unwind x.0).lines n b c after) (row (map (flat front size unwind) (map (λ p. p.0) xs)) (n + (flat front size unwind x.0).labels) b c last) in
      let h = x.1 n b c after in
      let r = row_fits xs (n + (flat front size unwind x.0).labels) b c last in
      omega arith

  choice_fits : (f g : Bool) (op : Cmp) (a b n : ℕ) (xs ys : List Line) → most_of (choice_head f g op a b n ++ (ys ++ (choice_middle f g n ++ (xs ++ choice_end f g n)))) ≤ 5 + most_of xs + most_of ys
  choice_fits true true op a b n xs ys = let e = most_append ys (xs ++ []) in let h = most_append xs [] in omega arith
  choice_fits true false op a b n xs ys = let e = most_append ys (xs ++ line.Label n ∷ []) in let h = most_append xs (line.Label n ∷ []) in omega arith
  choice_fits false true op a b n xs ys = let e = most_append ys (xs ++ line.Label n ∷ []) in let h = most_append xs (line.Label n ∷ []) in omega arith
  choice_fits false false op a b n xs ys = let e = most_append ys (line.Jump (n + 1) ∷ line.Label n ∷ (xs ++ line.Label (n + 1) ∷ [])) in let h = most_append xs (line.Label (n + 1) ∷ []) in omega arith

  loop_fits : (e : Bool) (op : Cmp) (a b n : ℕ) (xs ys : List Line) → most_of (loop_head e n ++ (ys ++ line.Label n ∷ (xs ++ line.Branch op a b (loop_turn e n) ∷ line.Label (n + 1) ∷ []))) ≤ 5 + most_of xs + most_of ys
  loop_fits true op a b n xs ys = let e = most_append ys (line.Label n ∷ (xs ++ line.Branch op a b n ∷ line.Label (n + 1) ∷ [])) in let h = most_append xs (line.Branch op a b n ∷ line.Label (n + 1) ∷ []) in omega arith
  loop_fits false op a b n xs ys = let e = most_append ys (line.Label n ∷ (xs ++ line.Branch op a b (n + 2) ∷ line.Label (n + 1) ∷ [])) in let h = most_append xs (line.Branch op a b (n + 2) ∷ line.Label (n + 1) ∷ []) in omega arith

  layer_fits : (y : Stmt-F ((s : Stmt) × Fits s)) (n b c : ℕ) (last : Bool) → most_of ((flat_layer front size unwind (map-Stmt Stmt Flat (flat front size unwind) (parts y))).lines n b c last) ≤ code_layer (map-Stmt Stmt ℕ code (parts y))
  layer_fits (stmt.Seq all) n b c last = row_fits all n b c last
  layer_fits (stmt.Plain i) n b c last = omega arith
  layer_fits (stmt.Get r k) n b c last = let e = most_reach (slot_at front k) (line.Plain (instr.L Ld r (base (slot_at front k)) (rest (slot_at front k))) ∷ []) in omega arith
  layer_fits (stmt.Put k r) n b c last = let e = most_reach (slot_at front k) (line.Plain (instr.S Sd (base (slot_at front k)) r (rest (slot_at front k))) ∷ []) in omega arith
  layer_fits (stmt.SharedLoad z rd rs1 imm) n b c last = omega arith
  layer_fits (stmt.SharedStore z rs1 rs2 imm) n b c last = omega arith
  layer_fits (stmt.Foreign i) n b c last = omega arith
  layer_fits (stmt.If op x y s t) n b c last =
      let f = (flat front size unwind s.0).none last in
      let g = (flat front size unwind t.0).none last in
      let e = choice_fits f g op x y n ((flat front size unwind s.0).lines (n + 2 + (flat front size unwind t.0).labels) b c last) ((flat front size unwind t.0).lines (n + 2) b c (choice_last f g last)) in
      let h = s.1 (n + 2 + (flat front size unwind t.0).labels) b c last in
      let k = t.1 (n + 2) b c (choice_last f g last) in
      omega arith
  layer_fits (stmt.While before op x y t) n b c last =
      let e = loop_fits ((flat front size unwind t.0).none true) op x y n (row (map (flat front size unwind) (map (λ p. p.0) before)) (n + 3 + (flat front size unwind t.0).labels) b c false) ((flat front size unwind t.0).lines (n + 3) (n + 1) n true) in
      let h = row_fits before (n + 3 + (flat front size unwind t.0).labels) b c false in
      let k = t.1 (n + 3) (n + 1) n true in
      omega arith
  layer_fits stmt.Break n b c last = omega arith
  layer_fits stmt.Continue n b c true = omega arith
  layer_fits stmt.Continue n b c false = omega arith
  layer_fits (stmt.Call f s None) n b c last = let g = s.1 n b c last in omega arith
  layer_fits (stmt.Call f s (Some k)) n b c last =
      let xs = (flat front size unwind s.0).lines (n + 2) b c false in
      let ys = (flat front size unwind (k.body).0).lines (n + 2 + (flat front size unwind s.0).labels) b c last in
      let e = most_append xs (line.Jump (n + 1) ∷ line.Label n ∷ line.Plain (instr.I Addi 9 0 (pos k.exception)) ∷ line.Branch Ne 1 9 unwind ∷ (ys ++ line.Label (n + 1) ∷ [])) in
      let f = most_append ys (line.Label (n + 1) ∷ []) in
      let g = s.1 (n + 2) b c false in
      let h = (k.body).1 (n + 2 + (flat front size unwind s.0).labels) b c last in
      omega arith
  layer_fits (stmt.TailCall f) n b c last = let e = most_off front size (line.Jump f ∷ []) in omega arith
  layer_fits stmt.Return n b c last = let e = most_off front size (line.JumpReg 1 ∷ []) in omega arith
  layer_fits (stmt.Raise i) n b c last = omega arith

  -- a statement's lines have no more instructions than it needs
  pub fits : (s : Stmt) → Fits s
  fits = stmt_induct Fits (λ y n b c last.
      let h = layer_fits y n b c last in
      let e : most_of ((flat front size unwind (roll-Stmt (parts y))).lines n b c last) ≡ most_of ((flat_layer front size unwind (map-Stmt Stmt Flat (flat front size unwind) (parts y))).lines n b c last) = ap (λ (f : Flat). most_of (f.lines n b c last)) (flat_roll front size unwind (parts y)) in
      let f = code_roll (parts y) in
      omega arith)

most_below : (n : ℕ) (ys : List Line) → most_of (below n ++ ys) ≤ 3 + most_of ys
most_below n ys = by (is_near n)
  where
    by : (b : Bool) → most_of (cond b (line.Plain (instr.I Addi 9 2 (negsuc (n - 1))) ∷ []) (line.Plain (instr.U Lui 9 (high n)) ∷ line.Plain (instr.I Addi 9 9 (low n)) ∷ line.Plain (instr.R Sub 9 2 9) ∷ []) ++ ys) ≤ 3 + most_of ys
    by true = omega arith
    by false = omega arith

most_front : (front size stub : ℕ) (ys : List Line) → most_of (front_lines front size stub ++ ys) ≤ 8 + most_of ys
most_front front size stub ys =
    let test = line.Branch Ltu 9 4 stub ∷ line.Plain (instr.I Addi 2 9 (pos 0)) ∷ [] in
    let link = line.Plain (instr.S Sd 2 1 (pos 0)) ∷ [] in
    let a = most_append (front_lines front size stub) ys in
    let b = most_append (where_some size (below size ++ test)) (where_some front link) in
    let c = most_some size (below size ++ test) in
    let d = most_some front link in
    let e = most_below size test in
    omega arith

functions_fit : (stub unwind : ℕ) (gs : List StackFun) (f n : ℕ) → most_of (functions_lines stub unwind gs f n) ≤ sum_of (map function_code gs)
functions_fit stub unwind [] f n = omega arith
functions_fit stub unwind (g ∷ gs) f n =
    let body = (flat (front_words g) g.frame unwind g.body).lines n stub stub false in
    let a = most_append (function_lines f n stub unwind g) (functions_lines stub unwind gs (f + 1) (n + (flat (front_words g) g.frame unwind g.body).labels)) in
    let e = most_front (front_words g) g.frame stub body in
    let h = fits (front_words g) g.frame unwind g.body n stub stub false in
    let r = functions_fit stub unwind gs (f + 1) (n + (flat (front_words g) g.frame unwind g.body).labels) in
    omega arith

-- a program's lines have no more than 20 instructions beside its functions
pub program_fits : (fs : List StackFun) (main : ℕ) → most_of (program_lines fs main) ≤ 20 + sum_of (map function_code fs)
program_fits fs main =
    let F = length fs in
    let functions = functions_lines F (F + 1) fs 0 (F + 3) in
    let a = most_append (start_lines main) (stub_lines F ++ (unwind_lines (F + 1) (F + 2) ++ functions)) in
    let b = most_append (stub_lines F) (unwind_lines (F + 1) (F + 2) ++ functions) in
    let c = most_append (unwind_lines (F + 1) (F + 2)) functions in
    let d = functions_fit F (F + 1) fs 0 (F + 3) in
    omega arith
