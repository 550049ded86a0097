-- The equations of flattening, one for each statement.
use Rattle.std.specs.Prelude.{◌&&◌, not, nat_eq}
use Rattle.std.proofs.Common.{Bool, true, false, length-drop, ◌-◌, ◌≡◌, ℕ, ℤ, pos, zero, suc, ◌+◌, ◌^◌, ◌<◌, ◌≤◌, refl, sym, ap, ◌∙◌, subst, List, [], ◌∷◌, ◌++◌, append_assoc, length, map, drop, get_or, Option, Some, None, arith}
use Rattle.std.proofs.lemmas.List.{append-nil, drop_more, drop_all}
use Rattle.std.proofs.lemmas.Bool.Decides.{nat_tests}
use Rattle.pan_base.specs.declared.events.Size.{Size}
use Rattle.pan_base.specs.declared.operators.Cmp.{Cmp}
use Rattle.pan_base.specs.declared.operators.Cmp.TheVariants.{Ne}
use Rattle.pan_base.specs.declared.operators.LOp.TheVariants.{Ld}
use Rattle.pan_base.specs.declared.operators.IOp.TheVariants.{Addi}
use Rattle.riscv_isa.specs.declared.instr.Instr.TheVariants as instr
use Rattle.riscv_isa.specs.declared.instr.Instr.{Instr}
use Rattle.lab_lang.specs.declared.syntax.Line.{Line}
use Rattle.lab_lang.specs.declared.syntax.Line.TheVariants as line
use Rattle.lab_flatten.specs.Flatten.{ends, none_of, choice_head, choice_middle, choice_end, choice_last, loop_head, loop_turn, all_empty, empty_layer, empty, Flat, row, labels_of, flat_call, flat_layer, flat, flat_handler, pushed, function_lines, functions_lines, start_lines, stub_lines, unwind_lines, program_lines, labels_in}
use Rattle.stack_lang.specs.declared.syntax.Stmt.{Stmt, Stmt-F, roll-Stmt, map-Stmt, fold-roll-Stmt}
use Rattle.stack_lang.specs.declared.syntax.Stmt.TheVariants as s
use Rattle.stack_lang.specs.declared.syntax.Stmt.TheOpen as stmt
use Rattle.stack_lang.specs.declared.syntax.Catch.{Catch}
use Rattle.stack_lang.specs.Frames.{front_words}
use Rattle.stack_lang.specs.declared.syntax.StackFun.{StackFun}
use Rattle.lab_flatten.proofs.Machine.{IsFrame}
use Rattle.stack_lang.proofs.Equations.{stmt_induct}
use Rattle.lab_flatten.proofs.Simulation.{flat_roll}
use Rattle.std.specs.Prelude.{slice_get}

at : (front size unwind : ℕ) (y : Stmt-F Stmt) (x : Stmt) → roll-Stmt y ≡ x → flat front size unwind x ≡ flat_layer front size unwind (map-Stmt Stmt Flat (flat front size unwind) y)
at front size unwind y x is = ap (flat front size unwind) (sym is) ∙ flat_roll front size unwind y

pub flat_seq : (front size unwind : ℕ) (all : List Stmt) → flat front size unwind (s.Seq all) ≡ flat_layer front size unwind (stmt.Seq (map (flat front size unwind) all))
flat_seq front size unwind all = at front size unwind (stmt.Seq all) (s.Seq all) (s.rolls-Seq all)

pub flat_plain : (front size unwind : ℕ) (i : Instr) → flat front size unwind (s.Plain i) ≡ flat_layer front size unwind (stmt.Plain i)
flat_plain front size unwind i = at front size unwind (stmt.Plain i) (s.Plain i) (s.rolls-Plain i)

pub flat_get : (front size unwind r k : ℕ) → flat front size unwind (s.Get r k) ≡ flat_layer front size unwind (stmt.Get r k)
flat_get front size unwind r k = at front size unwind (stmt.Get r k) (s.Get r k) (s.rolls-Get r k)

pub flat_put : (front size unwind k r : ℕ) → flat front size unwind (s.Put k r) ≡ flat_layer front size unwind (stmt.Put k r)
flat_put front size unwind k r = at front size unwind (stmt.Put k r) (s.Put k r) (s.rolls-Put k r)

pub flat_if : (front size unwind : ℕ) (op : Cmp) (a b : ℕ) (x y : Stmt) → flat front size unwind (s.If op a b x y) ≡ flat_layer front size unwind (stmt.If op a b (flat front size unwind x) (flat front size unwind y))
flat_if front size unwind op a b x y = at front size unwind (stmt.If op a b x y) (s.If op a b x y) (s.rolls-If op a b x y)

pub flat_shared_load : (front size unwind : ℕ) (z : Size) (rd rs1 : ℕ) (imm : ℤ) → flat front size unwind (s.SharedLoad z rd rs1 imm) ≡ flat_layer front size unwind (stmt.SharedLoad z rd rs1 imm)
flat_shared_load front size unwind z rd rs1 imm = at front size unwind (stmt.SharedLoad z rd rs1 imm) (s.SharedLoad z rd rs1 imm) (s.rolls-SharedLoad z rd rs1 imm)

pub flat_shared_store : (front size unwind : ℕ) (z : Size) (rs1 rs2 : ℕ) (imm : ℤ) → flat front size unwind (s.SharedStore z rs1 rs2 imm) ≡ flat_layer front size unwind (stmt.SharedStore z rs1 rs2 imm)
flat_shared_store front size unwind z rs1 rs2 imm = at front size unwind (stmt.SharedStore z rs1 rs2 imm) (s.SharedStore z rs1 rs2 imm) (s.rolls-SharedStore z rs1 rs2 imm)

pub flat_foreign : (front size unwind i : ℕ) → flat front size unwind (s.Foreign i) ≡ flat_layer front size unwind (stmt.Foreign i)
flat_foreign front size unwind i = at front size unwind (stmt.Foreign i) (s.Foreign i) (s.rolls-Foreign i)

pub flat_while : (front size unwind : ℕ) (before : List Stmt) (op : Cmp) (a b : ℕ) (y : Stmt) → flat front size unwind (s.While before op a b y) ≡ flat_layer front size unwind (stmt.While (map (flat front size unwind) before) op a b (flat front size unwind y))
flat_while front size unwind before op a b y = at front size unwind (stmt.While before op a b y) (s.While before op a b y) (s.rolls-While before op a b y)

pub flat_break : (front size unwind : ℕ) → flat front size unwind s.Break ≡ flat_layer front size unwind stmt.Break
flat_break front size unwind = at front size unwind stmt.Break s.Break s.rolls-Break

pub flat_continue : (front size unwind : ℕ) → flat front size unwind s.Continue ≡ flat_layer front size unwind stmt.Continue
flat_continue front size unwind = at front size unwind stmt.Continue s.Continue s.rolls-Continue

pub flat_called : (front size unwind f : ℕ) (x : Stmt) (h : Option (Catch Stmt)) → flat front size unwind (s.Call f x h) ≡ flat_call front size unwind f (flat front size unwind x) (flat_handler front size unwind h)
flat_called front size unwind f x None = at front size unwind (stmt.Call f x None) (s.Call f x None) (s.rolls-Call f x None)
flat_called front size unwind f x (Some h) = at front size unwind (stmt.Call f x (Some h)) (s.Call f x (Some h)) (s.rolls-Call f x (Some h))

pub flat_tail : (front size unwind f : ℕ) → flat front size unwind (s.TailCall f) ≡ flat_layer front size unwind (stmt.TailCall f)
flat_tail front size unwind f = at front size unwind (stmt.TailCall f) (s.TailCall f) (s.rolls-TailCall f)

pub flat_return : (front size unwind : ℕ) → flat front size unwind s.Return ≡ flat_layer front size unwind stmt.Return
flat_return front size unwind = at front size unwind stmt.Return s.Return s.rolls-Return

pub flat_raise : (front size unwind i : ℕ) → flat front size unwind (s.Raise i) ≡ flat_layer front size unwind (stmt.Raise i)
flat_raise front size unwind i = at front size unwind (stmt.Raise i) (s.Raise i) (s.rolls-Raise i)

pub ruleset flat_rules = (append_assoc, flat_seq, flat_plain, flat_get, flat_put, flat_shared_load, flat_shared_store, flat_foreign, flat_if, flat_while, flat_break, flat_continue, flat_called, flat_tail, flat_return, flat_raise)

pub ruleset offset_rules = (append_assoc, nat_tests)

pub ruleset block_rules = (append_assoc, append-nil)

-- ---- statements without lines

empty_at : (y : Stmt-F Stmt) (x : Stmt) → roll-Stmt y ≡ x → empty x ≡ empty_layer (map-Stmt Stmt (Bool → Bool) empty y)
unfolding empty
empty_at y x is = ap empty (sym is) ∙ fold-roll-Stmt (Bool → Bool) empty_layer y

-- the same at what it is told
empty_told : (y : Stmt-F Stmt) (x : Stmt) (last : Bool) → roll-Stmt y ≡ x → empty x last ≡ empty_layer (map-Stmt Stmt (Bool → Bool) empty y) last
empty_told y x last is = ap (λ (e : Bool → Bool). e last) (empty_at y x is)

pub empty_seq : (all : List Stmt) (last : Bool) → empty (s.Seq all) last ≡ all_empty (map empty all) last
empty_seq all last = empty_told (stmt.Seq all) (s.Seq all) last (s.rolls-Seq all)

pub empty_if : (op : Cmp) (a b : ℕ) (x y : Stmt) (last : Bool) → empty (s.If op a b x y) last ≡ (empty x last && empty y last)
empty_if op a b x y last = empty_told (stmt.If op a b x y) (s.If op a b x y) last (s.rolls-If op a b x y)

pub empty_continue : (last : Bool) → empty s.Continue last ≡ last
empty_continue last = empty_told stmt.Continue s.Continue last s.rolls-Continue

pub empty_plain : (i : Instr) (last : Bool) → empty (s.Plain i) last ≡ false
empty_plain i last = empty_told (stmt.Plain i) (s.Plain i) last (s.rolls-Plain i)

pub empty_get : (r k : ℕ) (last : Bool) → empty (s.Get r k) last ≡ false
empty_get r k last = empty_told (stmt.Get r k) (s.Get r k) last (s.rolls-Get r k)

pub empty_put : (k r : ℕ) (last : Bool) → empty (s.Put k r) last ≡ false
empty_put k r last = empty_told (stmt.Put k r) (s.Put k r) last (s.rolls-Put k r)

pub empty_shared_load : (z : Size) (rd rs1 : ℕ) (imm : ℤ) (last : Bool) → empty (s.SharedLoad z rd rs1 imm) last ≡ false
empty_shared_load z rd rs1 imm last = empty_told (stmt.SharedLoad z rd rs1 imm) (s.SharedLoad z rd rs1 imm) last (s.rolls-SharedLoad z rd rs1 imm)

pub empty_shared_store : (z : Size) (rs1 rs2 : ℕ) (imm : ℤ) (last : Bool) → empty (s.SharedStore z rs1 rs2 imm) last ≡ false
empty_shared_store z rs1 rs2 imm last = empty_told (stmt.SharedStore z rs1 rs2 imm) (s.SharedStore z rs1 rs2 imm) last (s.rolls-SharedStore z rs1 rs2 imm)

pub empty_foreign : (i : ℕ) (last : Bool) → empty (s.Foreign i) last ≡ false
empty_foreign i last = empty_told (stmt.Foreign i) (s.Foreign i) last (s.rolls-Foreign i)

pub empty_while : (before : List Stmt) (op : Cmp) (a b : ℕ) (y : Stmt) (last : Bool) → empty (s.While before op a b y) last ≡ false
empty_while before op a b y last = empty_told (stmt.While before op a b y) (s.While before op a b y) last (s.rolls-While before op a b y)

pub empty_break : (last : Bool) → empty s.Break last ≡ false
empty_break last = empty_told stmt.Break s.Break last s.rolls-Break

pub empty_call : (f : ℕ) (x : Stmt) (h : Option (Catch Stmt)) (last : Bool) → empty (s.Call f x h) last ≡ false
empty_call f x None last = empty_told (stmt.Call f x None) (s.Call f x None) last (s.rolls-Call f x None)
empty_call f x (Some h) last = empty_told (stmt.Call f x (Some h)) (s.Call f x (Some h)) last (s.rolls-Call f x (Some h))

pub empty_tail : (f : ℕ) (last : Bool) → empty (s.TailCall f) last ≡ false
empty_tail f last = empty_told (stmt.TailCall f) (s.TailCall f) last (s.rolls-TailCall f)

pub empty_return : (last : Bool) → empty s.Return last ≡ false
empty_return last = empty_told stmt.Return s.Return last s.rolls-Return

pub empty_raise : (i : ℕ) (last : Bool) → empty (s.Raise i) last ≡ false
empty_raise i last = empty_told (stmt.Raise i) (s.Raise i) last (s.rolls-Raise i)

pub ruleset empty_rules = (empty_seq, empty_if, empty_continue, empty_plain, empty_get, empty_put, empty_shared_load, empty_shared_store, empty_foreign, empty_while, empty_break, empty_call, empty_tail, empty_return, empty_raise)

-- those before number i have no lines
pub record AreEmptyTo (all : List Stmt) (i : ℕ) (last : Bool) : Type 0 where
  pub same : all_empty (map empty (drop i all)) last ≡ all_empty (map empty all) last

ends_at : (all : List Stmt) (i : ℕ) (last behind : Bool) → i < length all → behind ≡ (last && nat_eq (i + 1) (length all)) → ends (map empty (drop (i + 1) all)) last ≡ behind
ends_at all i last behind below is = by (drop (i + 1) all) (length-drop (i + 1) all)
  where
    by : (rest : List Stmt) → length rest ≡ length all - (i + 1) → ends (map empty rest) last ≡ behind
    by [] long = let e : nat_eq (i + 1) (length all) ≡ true = (let m : i + 1 ≡ length all = omega arith in grind (arith, nat_tests)) in sym (is ∙ ap (λ b. last && b) e ∙ and_true last)
      where
        and_true : (b : Bool) → (b && true) ≡ b
        and_true true = refl
        and_true false = refl
    by (x ∷ xs) long = let e : nat_eq (i + 1) (length all) ≡ false = (let m : i + 1 < length all = omega arith in grind (arith, nat_tests)) in sym (is ∙ ap (λ b. last && b) e ∙ and_false last)
      where
        and_false : (b : Bool) → (b && false) ≡ false
        and_false true = refl
        and_false false = refl

empty_here : (all : List Stmt) (i : ℕ) (x : Stmt) (last behind : Bool) → i < length all → x ≡ get_or all i x → behind ≡ (last && nat_eq (i + 1) (length all))
    → all_empty (map empty (drop i all)) last ≡ (empty x behind && all_empty (map empty (drop (i + 1) all)) last)
empty_here all i x last behind below is told =
    let here : drop i all ≡ x ∷ drop (i + 1) all = drop_more all i x below ∙ ap (λ y. y ∷ drop (i + 1) all) (sym is) in
    ap (λ ss. all_empty (map empty ss) last) here ∙ ap (λ b. empty x b && all_empty (map empty (drop (i + 1) all)) last) (ends_at all i last behind below told)

pub empty_more : (all : List Stmt) (i : ℕ) (x : Stmt) (last behind : Bool) → i < length all → x ≡ get_or all i x → behind ≡ (last && nat_eq (i + 1) (length all)) → empty x behind ≡ true → AreEmptyTo all i last → AreEmptyTo all (i + 1) last
empty_more all i x last behind below is told none so_far = record { same = sym (empty_here all i x last behind below is told ∙ ap (λ b. b && all_empty (map empty (drop (i + 1) all)) last) none) ∙ so_far.same }

pub empty_not : (all : List Stmt) (i : ℕ) (x : Stmt) (last behind : Bool) → i < length all → x ≡ get_or all i x → behind ≡ (last && nat_eq (i + 1) (length all)) → empty x behind ≡ false → AreEmptyTo all i last → all_empty (map empty all) last ≡ false
empty_not all i x last behind below is told some so_far = sym so_far.same ∙ empty_here all i x last behind below is told ∙ ap (λ b. b && all_empty (map empty (drop (i + 1) all)) last) some

pub empty_end : (all : List Stmt) (i : ℕ) (last : Bool) → length all ≤ i → AreEmptyTo all i last → all_empty (map empty all) last ≡ true
empty_end all i last past so_far = sym so_far.same ∙ ap (λ ss. all_empty (map empty ss) last) (drop_all i all past)

module _ (front size unwind : ℕ) where
  abbrev IsNone : Stmt → Type 0
  IsNone s = (last : Bool) → (flat front size unwind s).none last ≡ empty s last

  abbrev parts : Stmt-F ((s : Stmt) × IsNone s) → Stmt-F Stmt
  parts y = map-Stmt ((s : Stmt) × IsNone s) Stmt (λ p. p.0) y

  row_is : (ss : List ((s : Stmt) × IsNone s)) (last : Bool) → none_of (map (flat front size unwind) (map (λ p. p.0) ss)) last ≡ all_empty (map empty (map (λ p. p.0) ss)) last
  row_is [] last = refl
  row_is (x ∷ xs) last = ap (λ b. b && none_of (map (flat front size unwind) (map (λ p. p.0) xs)) last) (x.1 (ends (map (flat front size unwind) (map (λ p. p.0) xs)) last) ∙ ap (empty x.0) (same xs)) ∙ ap (λ b. empty x.0 (ends (map empty (map (λ p. p.0) xs)) last) && b) (row_is xs last)
    where
      same : (xs : List ((s : Stmt) × IsNone s)) → ends (map (flat front size unwind) (map (λ p. p.0) xs)) last ≡ ends (map empty (map (λ p. p.0) xs)) last
      same [] = refl
      same (x ∷ xs) = refl

  layer_is : (y : Stmt-F ((s : Stmt) × IsNone s)) (last : Bool) → (flat_layer front size unwind (map-Stmt Stmt Flat (flat front size unwind) (parts y))).none last ≡ empty_layer (map-Stmt Stmt (Bool → Bool) empty (parts y)) last
  layer_is (stmt.Seq all) last = row_is all last
  layer_is (stmt.If op a b x z) last = ap (λ b. b && (flat front size unwind z.0).none last) (x.1 last) ∙ ap (λ b. empty x.0 last && b) (z.1 last)
  layer_is stmt.Continue last = refl
  layer_is (stmt.Plain i) last = refl
  layer_is (stmt.Get r k) last = refl
  layer_is (stmt.Put k r) last = refl
  layer_is (stmt.SharedLoad z rd rs1 imm) last = refl
  layer_is (stmt.SharedStore z rs1 rs2 imm) last = refl
  layer_is (stmt.Foreign i) last = refl
  layer_is (stmt.While before op a b z) last = refl
  layer_is stmt.Break last = refl
  layer_is (stmt.Call f x None) last = refl
  layer_is (stmt.Call f x (Some h)) last = refl
  layer_is (stmt.TailCall f) last = refl
  layer_is stmt.Return last = refl
  layer_is (stmt.Raise i) last = refl

  pub none_is : (s : Stmt) → IsNone s
  none_is = stmt_induct IsNone (λ y last. ap (λ (f : Flat). f.none last) (flat_roll front size unwind (parts y)) ∙ layer_is y last ∙ sym (empty_told (parts y) (roll-Stmt (parts y)) last refl))

-- ---- statements one after another

ends_are : (front size unwind : ℕ) (ss : List Stmt) (last : Bool) → ends (map (flat front size unwind) ss) last ≡ ends (map empty ss) last
ends_are front size unwind [] last = refl
ends_are front size unwind (x ∷ xs) last = refl

-- lines for the statements from number i on complete the lines
pub record IsFlatTo (front size unwind : ℕ) (all : List Stmt) (i free at out again : ℕ) (last : Bool) (old lines : List Line) : Type 0 where
  pub made : lines ++ row (map (flat front size unwind) (drop i all)) at out again last ≡ old ++ row (map (flat front size unwind) all) free out again last
  pub count : at + labels_of (map (flat front size unwind) (drop i all)) ≡ free + labels_of (map (flat front size unwind) all)

pub flat_more : (front size unwind : ℕ) (all : List Stmt) (i : ℕ) (x : Stmt) (free at next out again : ℕ) (last behind : Bool) (old lines new : List Line) → i < length all → x ≡ get_or all i x → behind ≡ (last && nat_eq (i + 1) (length all))
    → IsFlatTo front size unwind all i free at out again last old lines → new ≡ lines ++ (flat front size unwind x).lines at out again behind → next ≡ at + (flat front size unwind x).labels → IsFlatTo front size unwind all (i + 1) free next out again last old new
flat_more front size unwind all i x free at next out again last behind old lines new below is told so_far grown step =
    let here : drop i all ≡ x ∷ drop (i + 1) all = drop_more all i x below ∙ ap (λ y. y ∷ drop (i + 1) all) (sym is) in
    let rest = map (flat front size unwind) (drop (i + 1) all) in
    let after : ends rest last ≡ behind = ends_are front size unwind (drop (i + 1) all) last ∙ ends_at all i last behind below told in
    record {
      made = ap (λ ls. ls ++ row rest next out again last) grown ∙ append_assoc lines ((flat front size unwind x).lines at out again behind) (row rest next out again last)
          ∙ ap (λ n. lines ++ ((flat front size unwind x).lines at out again behind ++ row rest n out again last)) step ∙ ap (λ b. lines ++ ((flat front size unwind x).lines at out again b ++ row rest (at + (flat front size unwind x).labels) out again last)) (sym after)
          ∙ ap (λ ss. lines ++ row (map (flat front size unwind) ss) at out again last) (sym here) ∙ so_far.made;
      count = let e : labels_of (map (flat front size unwind) (drop i all)) ≡ (flat front size unwind x).labels + labels_of rest = ap (λ ss. labels_of (map (flat front size unwind) ss)) here in let c = so_far.count in omega arith;
    }

pub flat_end : (front size unwind : ℕ) (all : List Stmt) (i free at out again : ℕ) (last : Bool) (old lines : List Line) → length all ≤ i → IsFlatTo front size unwind all i free at out again last old lines
    → (lines ≡ old ++ row (map (flat front size unwind) all) free out again last) × (at ≡ free + labels_of (map (flat front size unwind) all))
flat_end front size unwind all i free at out again last old lines past so_far =
    let none = drop_all i all past in (
      sym (append-nil lines) ∙ ap (λ ss. lines ++ row (map (flat front size unwind) ss) at out again last) (sym none) ∙ so_far.made,
      (let e : labels_of (map (flat front size unwind) (drop i all)) ≡ 0 = ap (λ ss. labels_of (map (flat front size unwind) ss)) none in let c = so_far.count in omega arith),
    )

-- five pieces one after another
five : (old a l1 l2 l3 l4 l5 xs b ys c : List Line) → l1 ≡ old ++ a → l2 ≡ l1 ++ xs → l3 ≡ l2 ++ b → l4 ≡ l3 ++ ys → l5 ≡ l4 ++ c → l5 ≡ old ++ (a ++ (xs ++ (b ++ (ys ++ c))))
five old a l1 l2 l3 l4 l5 xs b ys c p1 p2 p3 p4 p5 = p5 ∙ ap (λ z. z ++ c) (p4 ∙ ap (λ z. z ++ ys) (p3 ∙ ap (λ z. z ++ b) (p2 ∙ ap (λ z. z ++ xs) p1))) ∙ simp append_assoc

pub if_lines : (front size unwind : ℕ) (stmt x y x' y' : Stmt) (op : Cmp) (a b free out again first next : ℕ) (f g last inner : Bool) (old l1 l2 l3 l4 l5 : List Line) → stmt ≡ s.If op a b x y → x' ≡ x → y' ≡ y
    → first ≡ free + 2 → next ≡ first + (flat front size unwind y').labels → f ≡ empty x last → g ≡ empty y last → inner ≡ choice_last f g last
    → l1 ≡ old ++ choice_head f g op a b free → l2 ≡ l1 ++ (flat front size unwind y').lines first out again inner → l3 ≡ l2 ++ choice_middle f g free → l4 ≡ l3 ++ (flat front size unwind x').lines next out again last
    → l5 ≡ l4 ++ choice_end f g free → l5 ≡ old ++ (flat front size unwind stmt).lines free out again last
if_lines front size unwind stmt x y x' y' op a b free out again first next f g last inner old l1 l2 l3 l4 l5 is ex ey ef en no_first no_second told p1 p2 p3 p4 p5 =
    let whole : Stmt → Stmt → ℕ → ℕ → Bool → Bool → Bool → List Line =
    λ x y first next f g inner. old ++ (choice_head f g op a b free ++ ((flat front size unwind y).lines first out again inner ++ (choice_middle f g free ++ ((flat front size unwind x).lines next out again last ++ choice_end f g free)))) in
    let end : next ≡ free + 2 + (flat front size unwind y).labels = en ∙ ap (λ z. first + (flat front size unwind z).labels) ey ∙ ap (λ n. n + (flat front size unwind y).labels) ef in
    let ff : f ≡ (flat front size unwind x).none last = no_first ∙ sym (none_is front size unwind x last) in
    let gg : g ≡ (flat front size unwind y).none last = no_second ∙ sym (none_is front size unwind y last) in
    five old (choice_head f g op a b free) l1 l2 l3 l4 l5 ((flat front size unwind y').lines first out again inner) (choice_middle f g free) ((flat front size unwind x').lines next out again last) (choice_end f g free) p1 p2 p3 p4 p5
    ∙ ap (λ z. whole z y' first next f g inner) ex ∙ ap (λ z. whole x z first next f g inner) ey ∙ ap (λ n. whole x y n next f g inner) ef ∙ ap (λ n. whole x y (free + 2) n f g inner) end
    ∙ ap (λ i. whole x y (free + 2) (free + 2 + (flat front size unwind y).labels) f g i) told ∙ ap (λ f. whole x y (free + 2) (free + 2 + (flat front size unwind y).labels) f g (choice_last f g last)) ff
    ∙ ap (λ g. whole x y (free + 2) (free + 2 + (flat front size unwind y).labels) ((flat front size unwind x).none last) g (choice_last ((flat front size unwind x).none last) g last)) gg
    ∙ ap (λ (f : Flat). old ++ f.lines free out again last) (sym (ap (flat front size unwind) is ∙ flat_if front size unwind op a b x y))

pub while_lines : (front size unwind : ℕ) (stmt y y' : Stmt) (before before' : List Stmt) (op : Cmp) (a b free out again first end next : ℕ) (e last : Bool) (old l1 l2 l3 l4 l5 : List Line) → stmt ≡ s.While before op a b y → before' ≡ before → y' ≡ y
    → first ≡ free + 3 → end ≡ free + 1 → next ≡ first + (flat front size unwind y').labels → e ≡ empty y true
    → l1 ≡ old ++ loop_head e free → l2 ≡ l1 ++ (flat front size unwind y').lines first end free true → l3 ≡ l2 ++ line.Label free ∷ [] → l4 ≡ l3 ++ row (map (flat front size unwind) before') next out again false
    → l5 ≡ l4 ++ line.Branch op a b (loop_turn e free) ∷ line.Label (free + 1) ∷ [] → l5 ≡ old ++ (flat front size unwind stmt).lines free out again last
while_lines front size unwind stmt y y' before before' op a b free out again first end next e last old l1 l2 l3 l4 l5 is ex ey ef ee en no_body p1 p2 p3 p4 p5 =
    let whole : List Stmt → Stmt → ℕ → ℕ → ℕ → Bool → List Line =
    λ before y first end next e. old ++ (loop_head e free ++ ((flat front size unwind y).lines first end free true ++ line.Label free ∷ (row (map (flat front size unwind) before) next out again false ++ line.Branch op a b (loop_turn e free) ∷ line.Label (free + 1) ∷ []))) in
    let far : next ≡ free + 3 + (flat front size unwind y).labels = en ∙ ap (λ z. first + (flat front size unwind z).labels) ey ∙ ap (λ n. n + (flat front size unwind y).labels) ef in
    let none : e ≡ (flat front size unwind y).none true = no_body ∙ sym (none_is front size unwind y true) in
    five old (loop_head e free) l1 l2 l3 l4 l5 ((flat front size unwind y').lines first end free true) (line.Label free ∷ []) (row (map (flat front size unwind) before') next out again false) (line.Branch op a b (loop_turn e free) ∷ line.Label (free + 1) ∷ []) p1 p2 p3 p4 p5
    ∙ ap (λ z. whole z y' first end next e) ex ∙ ap (λ z. whole before z first end next e) ey ∙ ap (λ n. whole before y n end next e) ef ∙ ap (λ n. whole before y (free + 3) n next e) ee ∙ ap (λ n. whole before y (free + 3) (free + 1) n e) far
    ∙ ap (λ e. whole before y (free + 3) (free + 1) (free + 3 + (flat front size unwind y).labels) e) none
    ∙ ap (λ (f : Flat). old ++ f.lines free out again last) (sym (ap (flat front size unwind) is ∙ flat_while front size unwind before op a b y))

pub called_lines : (front size unwind : ℕ) (stmt x y : Stmt) (f free out again : ℕ) (last : Bool) (h : Option (Catch Stmt)) (old l1 : List Line) → stmt ≡ s.Call f x h → h ≡ None → y ≡ x → l1 ≡ old ++ line.CallTo f ∷ []
    → l1 ++ (flat front size unwind y).lines free out again last ≡ old ++ (flat front size unwind stmt).lines free out again last
called_lines front size unwind stmt x y f free out again last h old l1 is none same p =
    ap (λ z. z ++ (flat front size unwind y).lines free out again last) p ∙ append_assoc old (line.CallTo f ∷ []) ((flat front size unwind y).lines free out again last)
    ∙ ap (λ z. old ++ line.CallTo f ∷ (flat front size unwind z).lines free out again last) same
    ∙ ap (λ (g : Flat). old ++ g.lines free out again last) (sym (ap (flat front size unwind) (is ∙ ap (s.Call f x) none) ∙ flat_called front size unwind f x None))

pub guarded_lines : (front size unwind : ℕ) (stmt x y z : Stmt) (f free out again first end next : ℕ) (last : Bool) (h : Option (Catch Stmt)) (k : Catch Stmt) (old l1 l2 l3 l4 l5 : List Line) → stmt ≡ s.Call f x h → h ≡ Some k → y ≡ x → z ≡ k.body
    → first ≡ free + 2 → end ≡ free + 1 → next ≡ first + (flat front size unwind y).labels
    → l1 ≡ old ++ pushed free (line.CallTo f ∷ line.Plain (instr.L Ld 8 2 (pos 8)) ∷ []) → l2 ≡ l1 ++ (flat front size unwind y).lines first out again false
    → l3 ≡ l2 ++ line.Jump end ∷ line.Label free ∷ line.Plain (instr.I Addi 9 0 (pos k.exception)) ∷ line.Branch Ne 1 9 unwind ∷ [] → l4 ≡ l3 ++ (flat front size unwind z).lines next out again last → l5 ≡ l4 ++ line.Label end ∷ []
    → l5 ≡ old ++ (flat front size unwind stmt).lines free out again last
guarded_lines front size unwind stmt x y z f free out again first end next last h k old l1 l2 l3 l4 l5 is some same body ef ee en p1 p2 p3 p4 p5 =
    let whole : Stmt → Stmt → ℕ → ℕ → ℕ → List Line = λ x y first end next.
    old ++ pushed free (line.CallTo f ∷ line.Plain (instr.L Ld 8 2 (pos 8)) ∷ ((flat front size unwind x).lines first out again false ++ line.Jump end ∷ line.Label free ∷ line.Plain (instr.I Addi 9 0 (pos k.exception)) ∷ line.Branch Ne 1 9 unwind ∷ ((flat front size unwind y).lines next out again last ++ line.Label end ∷ []))) in
    let far : next ≡ free + 2 + (flat front size unwind x).labels = en ∙ ap (λ z. first + (flat front size unwind z).labels) same ∙ ap (λ n. n + (flat front size unwind x).labels) ef in
    five old (pushed free (line.CallTo f ∷ line.Plain (instr.L Ld 8 2 (pos 8)) ∷ [])) l1 l2 l3 l4 l5 ((flat front size unwind y).lines first out again false) (line.Jump end ∷ line.Label free ∷ line.Plain (instr.I Addi 9 0 (pos k.exception)) ∷ line.Branch Ne 1 9 unwind ∷ []) ((flat front size unwind z).lines next out again last) (line.Label end ∷ []) p1 p2 p3 p4 p5
    ∙ ap (λ x. whole x z first end next) same ∙ ap (λ y. whole x y first end next) body ∙ ap (λ n. whole x k.body n end next) ef ∙ ap (λ n. whole x k.body (free + 2) n next) ee ∙ ap (λ n. whole x k.body (free + 2) (free + 1) n) far
    ∙ ap (λ (g : Flat). old ++ g.lines free out again last) (sym (ap (flat front size unwind) (is ∙ ap (s.Call f x) some) ∙ flat_called front size unwind f x (Some k)))

pub continue_lines : (front size unwind : ℕ) (x : Stmt) (free out again : ℕ) (last : Bool) (old : List Line) → x ≡ s.Continue → not last ≡ false → old ≡ old ++ (flat front size unwind x).lines free out again last
continue_lines front size unwind x free out again last old is told =
    sym (append-nil old) ∙ ap (λ b. old ++ (flat_layer front size unwind stmt.Continue).lines free out again b) (sym (said last told)) ∙ ap (λ (f : Flat). old ++ f.lines free out again last) (sym (ap (flat front size unwind) is ∙ flat_continue front size unwind))
  where
    said : (b : Bool) → not b ≡ false → b ≡ true
    said true h = refl
    said false h = absurd (cc h)

-- ---- functions

-- lines for the functions from number i on complete the lines
pub record IsCodeTo (stub unwind : ℕ) (all : List StackFun) (i free number at : ℕ) (old lines : List Line) : Type 0 where
  pub made : lines ++ functions_lines stub unwind (drop i all) number at ≡ old ++ functions_lines stub unwind all 0 free
  pub count : at + labels_in unwind (drop i all) ≡ free + labels_in unwind all

pub code_more : (stub unwind : ℕ) (all : List StackFun) (i : ℕ) (x : StackFun) (free number at next_number next : ℕ) (old lines new : List Line) → i < length all → x ≡ get_or all i x → IsCodeTo stub unwind all i free number at old lines
    → new ≡ lines ++ function_lines number at stub unwind x → next ≡ at + (flat (front_words x) x.frame unwind x.body).labels → next_number ≡ number + 1 → IsCodeTo stub unwind all (i + 1) free next_number next old new
code_more stub unwind all i x free number at next_number next old lines new below is so_far grown step counts =
    let here : drop i all ≡ x ∷ drop (i + 1) all = drop_more all i x below ∙ ap (λ y. y ∷ drop (i + 1) all) (sym is) in
    let rest = drop (i + 1) all in
    record {
      made = ap (λ ls. ls ++ functions_lines stub unwind rest next_number next) grown ∙ append_assoc lines (function_lines number at stub unwind x) (functions_lines stub unwind rest next_number next)
          ∙ ap (λ n. lines ++ (function_lines number at stub unwind x ++ functions_lines stub unwind rest next_number n)) step
          ∙ ap (λ n. lines ++ (function_lines number at stub unwind x ++ functions_lines stub unwind rest n (at + (flat (front_words x) x.frame unwind x.body).labels))) counts
          ∙ ap (λ fs. lines ++ functions_lines stub unwind fs number at) (sym here) ∙ so_far.made;
      count = let e : labels_in unwind (drop i all) ≡ (flat (front_words x) x.frame unwind x.body).labels + labels_in unwind rest = ap (labels_in unwind) here in let c = so_far.count in omega arith;
    }

pub code_end : (stub unwind : ℕ) (all : List StackFun) (i free number at : ℕ) (old lines : List Line) → length all ≤ i → IsCodeTo stub unwind all i free number at old lines
    → (lines ≡ old ++ functions_lines stub unwind all 0 free) × (at ≡ free + labels_in unwind all)
code_end stub unwind all i free number at old lines past so_far =
    let none = drop_all i all past in (
      sym (append-nil lines) ∙ ap (λ fs. lines ++ functions_lines stub unwind fs number at) (sym none) ∙ so_far.made,
      (let e : labels_in unwind (drop i all) ≡ 0 = ap (labels_in unwind) none in let c = so_far.count in omega arith),
    )

-- ---- programs

-- the frames are not too big
pub frames_all : (fs gs : List StackFun) → gs ≡ fs → ((f : ℕ) (fn : StackFun) → slice_get fs f ≡ Some fn → IsFrame (front_words fn) fn.frame) → (k : ℕ) (d : StackFun) → k < length gs → (get_or gs k d).frame < 2 ^ 40
frames_all fs gs e h = subst (λ gs. (k : ℕ) (d : StackFun) → k < length gs → (get_or gs k d).frame < 2 ^ 40) (sym e) (go fs h)
  where
    small : (fn : StackFun) → IsFrame (front_words fn) fn.frame → fn.frame < 2 ^ 40
    small fn f = let b = f.most in omega arith

    go : (fs : List StackFun) → ((f : ℕ) (fn : StackFun) → slice_get fs f ≡ Some fn → IsFrame (front_words fn) fn.frame) → (k : ℕ) (d : StackFun) → k < length fs → (get_or fs k d).frame < 2 ^ 40
    go [] h k d less = absurd (omega arith)
    go (x ∷ xs) h zero d less = small x (h 0 x refl)
    go (x ∷ xs) h (suc k) d less = go xs (λ f fn is. h (suc f) fn is) k d (let long : length (x ∷ xs) ≡ suc (length xs) = refl in omega arith)

pub program_is : (fs gs : List StackFun) (main count unwind uncaught free : ℕ) (l1 l2 l3 l4 : List Line) → gs ≡ fs → count ≡ length gs → unwind ≡ count + 1 → uncaught ≡ count + 2 → free ≡ count + 3
    → l1 ≡ start_lines main → l2 ≡ l1 ++ stub_lines count → l3 ≡ l2 ++ unwind_lines unwind uncaught → l4 ≡ l3 ++ functions_lines count unwind gs 0 free → program_lines fs main ≡ l4
program_is fs gs main count unwind uncaught free l1 l2 l3 l4 same ec eu ev ef p1 p2 p3 p4 =
    let whole : List StackFun → ℕ → ℕ → ℕ → ℕ → List Line = λ gs c u v f. start_lines main ++ (stub_lines c ++ (unwind_lines u v ++ functions_lines c u gs 0 f)) in
    let c : count ≡ length fs = ec ∙ ap length same in
    sym
    (p4 ∙ ap (λ z. z ++ functions_lines count unwind gs 0 free) (p3 ∙ ap (λ z. z ++ unwind_lines unwind uncaught) (p2 ∙ ap (λ z. z ++ stub_lines count) p1))
    ∙ append_assoc (start_lines main ++ stub_lines count) (unwind_lines unwind uncaught) (functions_lines count unwind gs 0 free)
    ∙ append_assoc (start_lines main) (stub_lines count) (unwind_lines unwind uncaught ++ functions_lines count unwind gs 0 free)
    ∙ ap (λ gs. whole gs count unwind uncaught free) same ∙ ap (λ n. whole fs count unwind uncaught n) (ef ∙ ap (λ n. n + 3) c) ∙ ap (λ n. whole fs count unwind n (length fs + 3)) (ev ∙ ap (λ n. n + 2) c)
    ∙ ap (λ n. whole fs count n (length fs + 2) (length fs + 3)) (eu ∙ ap (λ n. n + 1) c) ∙ ap (λ n. whole fs n (length fs + 1) (length fs + 2) (length fs + 3)) c)

-- the labels of all statements are free
pub labels_are : (fs gs : List StackFun) (count unwind free labels : ℕ) → gs ≡ fs → count ≡ length gs → unwind ≡ count + 1 → free ≡ count + 3 → labels ≡ free + labels_in unwind gs → length fs + 3 + labels_in (length fs + 1) fs ≤ labels
labels_are fs gs count unwind free labels same ec eu ef el =
    let c : count ≡ length fs = ec ∙ ap length same in
    let u : labels_in unwind gs ≡ labels_in (length fs + 1) fs = ap (λ n. labels_in n gs) (eu ∙ ap (λ n. n + 1) c) ∙ ap (labels_in (length fs + 1)) same in
    omega arith
