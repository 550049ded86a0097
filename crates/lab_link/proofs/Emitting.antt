-- The instructions of lines, made one line after another, and their ranges.
use Rattle.std.proofs.Common.{◌≡◌, ℕ, pos, negsuc, zero, suc, ◌+◌, ◌-◌, ◌*◌, ◌%◌, ◌^◌, ◌<◌, ◌≤◌, ◌≤ℤ◌, refl, sym, ap, ◌∙◌, List, [], ◌∷◌, ◌++◌, append_assoc, length, drop, get_or, Option, Some, None, Bool, true, false, cond, inl, inr, subst, arith}
use Rattle.std.specs.Prelude.{◌⊎◌, unwrap_or, slice_index, slice_get, nat_le}
use Rattle.pan_base.specs.declared.operators.Cmp.{Cmp}
use Rattle.std.specs.List.{All}
use Rattle.std.proofs.lemmas.List.{append-nil, drop_more, drop_all}
use Rattle.std.proofs.lemmas.List.Elements.{All-nil, All-cons, All-append, All-head, All-tail}
use Rattle.std.proofs.lemmas.Bool.Decides.{nat_tests}
use Rattle.pan_base.specs.declared.operators.IOp.TheVariants.{Addi}
use Rattle.pan_base.specs.declared.operators.UOp.TheVariants.{Auipc}
use Rattle.riscv_isa.specs.declared.instr.Instr.{Instr}
use Rattle.riscv_isa.specs.declared.instr.Instr.TheVariants as instr
use Rattle.riscv_isa.specs.Table.{InRange, IsEven}
use Rattle.lab_lang.specs.declared.syntax.Line.{Line}
use Rattle.lab_lang.specs.declared.syntax.Line.TheVariants.{Label, Plain, Jump, Branch, CallTo, Address, JumpReg}
use Rattle.lab_lang.specs.Layout.{IsLayout, address_of, shortest, address}
use Rattle.lab_lang.specs.WellFormed.{IsLine}
use Rattle.riscv_isa.specs.Ways.{way, high_of, low_of}
use Rattle.lab_link.specs.Lowered.{inverse, far_jump, jump_by, branch_by, lowered, all_lowered}
use Rattle.lab_link.specs.Reach.{is_within, branch_reaches, jump_reaches, reaches}
use Rattle.lab_link.specs.Turns.{IsTable}
use Rattle.lab_link.proofs.Needed.{count_within}
use Rattle.lab_link.proofs.Places.{Counts, total, span, AllPlaces, address_is}

-- where a line stands, and in how many instructions
pub place_within : (place : ℕ) (xs : List Line) (ys : List (ℕ × ℕ)) (i : ℕ) (z : ℕ × ℕ) → IsLayout place xs ys → i < length xs → (get_or ys i z).0 ≤ place + 4 * span xs
place_within place [] ys i z laid below = absurd (omega arith)
place_within place (x ∷ xs) [] i z laid below = absurd laid
place_within place (x ∷ xs) (y ∷ ys) zero z laid below = let e = laid.0 in omega arith
place_within place (x ∷ xs) (y ∷ ys) (suc i) z laid below =
    let h = place_within (place + 4 * y.1) xs ys i z laid.2 (omega arith) in
    let c = count_within x y.1 laid.1 in
    omega arith

pub same_length : (place : ℕ) (xs : List Line) (ys : List (ℕ × ℕ)) → IsLayout place xs ys → length ys ≡ length xs
same_length place [] [] laid = refl
same_length place [] (y ∷ ys) laid = absurd laid
same_length place (x ∷ xs) [] laid = absurd laid
same_length place (x ∷ xs) (y ∷ ys) laid = let e = same_length (place + 4 * y.1) xs ys laid.2 in omega arith

pub total_within : (place : ℕ) (xs : List Line) (ys : List (ℕ × ℕ)) → IsLayout place xs ys → total ys ≤ span xs
total_within place [] [] laid = omega arith
total_within place [] (y ∷ ys) laid = absurd laid
total_within place (x ∷ xs) [] laid = absurd laid
total_within place (x ∷ xs) (y ∷ ys) laid =
    let h = total_within (place + 4 * y.1) xs ys laid.2 in
    let c = count_within x y.1 laid.1 in
    omega arith

pub emit_more : (lines : List Line) (layout : List (ℕ × ℕ)) (f : ℕ → Option ℕ) (i : ℕ) (d : Line) (z : ℕ × ℕ) (n : ℕ) (old new all : List Instr) → i < length lines → length layout ≡ length lines
    → (get_or layout i z).1 ≡ n → new ≡ old ++ lowered (get_or lines i d) n (address_of (get_or layout i z).0) f
    → old ++ all_lowered (drop i lines) (drop i layout) f ≡ all → new ++ all_lowered (drop (i + 1) lines) (drop (i + 1) layout) f ≡ all
emit_more lines layout f i d z n old new all below same count grown so_far =
    let x = get_or lines i d in
    let y = get_or layout i z in
    let rest = all_lowered (drop (i + 1) lines) (drop (i + 1) layout) f in
    ap (λ is. is ++ rest) grown
    ∙ append_assoc old (lowered x n (address_of y.0) f) rest
    ∙ ap (λ m. old ++ (lowered x m (address_of y.0) f ++ rest)) (sym count)
    ∙ ap (λ ls. old ++ all_lowered (x ∷ drop (i + 1) lines) ls f) (sym (drop_more layout i z (omega arith)))
    ∙ ap (λ ls. old ++ all_lowered ls (drop i layout) f) (sym (drop_more lines i d below))
    ∙ so_far

pub emit_all : (lines : List Line) (layout : List (ℕ × ℕ)) (f : ℕ → Option ℕ) (i : ℕ) (old all : List Instr) → length lines ≤ i → old ++ all_lowered (drop i lines) (drop i layout) f ≡ all → old ≡ all
emit_all lines layout f i old all past so_far = sym (append-nil old) ∙ ap (λ ls. old ++ all_lowered ls (drop i layout) f) (sym (drop_all i lines past)) ∙ so_far

-- ---- ranges

low_low : (from to : ℕ) → negsuc 2047 ≤ℤ low_of from to
low_low from to = let m : (to + 2 ^ 64 - from) % 2 ^ 12 < 2 ^ 12 = omega arith in grind (arith, nat_tests)

low_high : (from to : ℕ) → low_of from to ≤ℤ pos 2047
low_high from to = let m : (to + 2 ^ 64 - from) % 2 ^ 12 < 2 ^ 12 = omega arith in grind (arith, nat_tests)

even_back : (n : ℕ) → 0 < n → n % 4 ≡ 0 → (n - 1) % 2 ≡ 1
even_back n some whole = omega arith

even_on : (from to : ℕ) → from ≤ to → from % 4 ≡ 0 → to % 4 ≡ 0 → (to - from) % 2 ≡ 0
even_on from to le a b = omega arith

back_within : (back n : ℕ) → n ≤ back → negsuc back ≤ℤ negsuc n
back_within back n h = first_of (grind (arith, nat_tests), omega arith)

on_within : (n on : ℕ) → n ≤ on → pos n ≤ℤ pos on
on_within n on h = first_of (grind (arith, nat_tests), omega arith)

back_on : (back n : ℕ) → negsuc back ≤ℤ pos n
back_on back n = first_of (omega arith, grind (arith, nat_tests))

-- a way between places that is in reach is in range
way_in_range : (back on from to : ℕ) → from % 4 ≡ 0 → to % 4 ≡ 0 → is_within (suc back) on from to ≡ true → (negsuc back ≤ℤ way from to) × (way from to ≤ℤ pos on) × IsEven (way from to)
way_in_range back on from to a b h =
    let most : (to ≤ from + on) × (from ≤ to + suc back) = (grind (arith, nat_tests), grind (arith, nat_tests)) in
    by_order most.0 most.1 (nat_le from to) refl
  where
    by_order : to ≤ from + on → from ≤ to + suc back → (o : Bool) → nat_le from to ≡ o
        → (negsuc back ≤ℤ cond o (pos (to - from)) (negsuc (from - to - 1))) × (cond o (pos (to - from)) (negsuc (from - to - 1)) ≤ℤ pos on) × IsEven (cond o (pos (to - from)) (negsuc (from - to - 1)))
    by_order far near true is =
        let le : from ≤ to = grind (arith, nat_tests) in
        (back_on back (to - from), on_within (to - from) on (omega arith), even_on from to le a b)
    by_order far near false is =
        let less : to < from = grind (arith, nat_tests) in
        (back_within back (from - to - 1) (omega arith), back_on (from - to - 1) on, even_back (from - to) (omega arith) (omega arith))

far_in_range : (rd by from to : ℕ) → rd < 32 → by < 32 → All InRange (far_jump rd by from to)
far_in_range rd by from to a b =
    All-cons InRange (instr.U Auipc by (high_of from to)) (instr.Jalr rd by (low_of from to) ∷ []) (b, omega arith)
    (All-cons InRange (instr.Jalr rd by (low_of from to)) [] (a, b, low_low from to, low_high from to) (All-nil InRange))

-- a line that is short where it reaches
abbrev IsShortInReach : Line → ℕ → ℕ → (ℕ → Option ℕ) → Type 0
IsShortInReach x n from f = n ≡ shortest x → reaches x from f ≡ true

-- a label stands at a whole place
abbrev IsWhole : (ℕ → Option ℕ) → Type 0
IsWhole f = (l : ℕ) → unwrap_or (f l) (address_of 0) % 4 ≡ 0

jump_in_range : (n rd by from to : ℕ) → rd < 32 → by < 32 → from % 4 ≡ 0 → to % 4 ≡ 0 → (n ≡ 1) ⊎ (n ≡ 2) → (n ≡ 1 → jump_reaches from to ≡ true) → All InRange (jump_by n rd by from to)
jump_in_range n rd by from to a b p q (inl is) h =
    let w = way_in_range 1048575 1048574 from to p q (h is) in
    subst (λ m. All InRange (jump_by m rd by from to)) (sym is) (All-cons InRange (instr.Jal rd (way from to)) [] (a, w.0, w.1, w.2) (All-nil InRange))
jump_in_range n rd by from to a b p q (inr is) h = subst (λ m. All InRange (jump_by m rd by from to)) (sym is) (far_in_range rd by from to a b)

branch_in_range : (n : ℕ) (op : Cmp) (a b from to : ℕ) → a < 32 → b < 32 → from % 4 ≡ 0 → to % 4 ≡ 0 → (n ≡ 1) ⊎ (n ≡ 3) → (n ≡ 1 → branch_reaches from to ≡ true) → All InRange (branch_by n op a b from to)
branch_in_range n op a b from to p q r s (inl is) h =
    let w = way_in_range 4095 4094 from to r s (h is) in
    subst (λ m. All InRange (branch_by m op a b from to)) (sym is) (All-cons InRange (instr.B op a b (way from to)) [] (p, q, w.0, w.1, w.2) (All-nil InRange))
branch_in_range n op a b from to p q r s (inr is) h =
    subst (λ m. All InRange (branch_by m op a b from to)) (sym is)
    (All-cons InRange (instr.B (inverse op) a b (pos 12)) (far_jump 0 9 (from + 4) to) (p, q, omega arith, omega arith, refl) (far_in_range 0 9 (from + 4) to (omega arith) (omega arith)))

lowered_in_range : (labels : ℕ) (x : Line) (n from : ℕ) (f : ℕ → Option ℕ) → IsLine labels x → Counts x n → from % 4 ≡ 0 → IsWhole f → IsShortInReach x n from f → All InRange (lowered x n from f)
lowered_in_range labels (Label l) n from f h c p q r = All-nil InRange
lowered_in_range labels (Plain i) n from f h c p q r = All-cons InRange i [] h (All-nil InRange)
lowered_in_range labels (Jump l) n from f h c p q r = jump_in_range n 0 9 from (unwrap_or (f l) (address_of 0)) (omega arith) (omega arith) p (q l) c r
lowered_in_range labels (Branch op a b l) n from f h c p q r = branch_in_range n op a b from (unwrap_or (f l) (address_of 0)) h.0 h.1 p (q l) c r
lowered_in_range labels (CallTo l) n from f h c p q r = jump_in_range n 1 1 from (unwrap_or (f l) (address_of 0)) (omega arith) (omega arith) p (q l) c r
lowered_in_range labels (Address rd l) n from f h c p q r =
    let to = unwrap_or (f l) (address_of 0) in
    All-cons InRange (instr.U Auipc rd (high_of from to)) (instr.I Addi rd rd (low_of from to) ∷ []) (h.0, omega arith)
    (All-cons InRange (instr.I Addi rd rd (low_of from to)) [] (h.0, h.0, low_low from to, low_high from to) (All-nil InRange))
lowered_in_range labels (JumpReg r) n from f h c p q s = All-cons InRange (instr.Jalr 0 r (pos 0)) [] (omega arith, h, omega arith, omega arith) (All-nil InRange)

-- each line that is short reaches its label
pub record AllReach (xs : List Line) (ys : List (ℕ × ℕ)) (f : ℕ → Option ℕ) : Type 0 where
  pub each : (i : ℕ) (x : Line) (y : ℕ × ℕ) → slice_get xs i ≡ Some x → slice_get ys i ≡ Some y → y.1 ≡ shortest x → reaches x (address_of y.0) f ≡ true

pub all_in_range : (labels place : ℕ) (xs : List Line) (ys : List (ℕ × ℕ)) (f : ℕ → Option ℕ) → All (IsLine labels) xs → IsLayout place xs ys → place % 4 ≡ 0 → IsWhole f → AllReach xs ys f → All InRange (all_lowered xs ys f)
all_in_range labels place [] ys f h laid whole fine short = All-nil InRange
all_in_range labels place (x ∷ xs) [] f h laid whole fine short = All-nil InRange
all_in_range labels place (x ∷ xs) (y ∷ ys) f h laid whole fine short =
    let here : y.0 ≡ place = laid.0 in
    All-append InRange (lowered x y.1 (address_of y.0) f) (all_lowered xs ys f)
    (lowered_in_range labels x y.1 (address_of y.0) f (All-head (IsLine labels) x xs h) laid.1 (omega arith) fine (short.each 0 x y refl refl))
    (all_in_range labels (place + 4 * y.1) xs ys f (All-tail (IsLine labels) x xs h) laid.2 (omega arith) fine (record { each = λ i. short.each (suc i) }))

whole_of : (o : Option ℕ) → AllPlaces o → unwrap_or o (address_of 0) % 4 ≡ 0
whole_of None p = refl
whole_of (Some at) p = p.whole

pub all_whole : (xs : List Line) (ys : List (ℕ × ℕ)) → IsLayout 0 xs ys → 4 * span xs ≤ 268439552 → IsWhole (address xs ys)
all_whole xs ys laid most l = let t = total_within 0 xs ys laid in whole_of (address xs ys l) (address_is 0 xs ys l laid refl (omega arith))

-- the places in the table are those of the code, or its end
near_of : (o : Option ℕ) (n : ℕ) → AllPlaces o → address_of n ≡ unwrap_or o (address_of 0) → n ≤ 0x30000000
near_of None n p e = omega arith
near_of (Some at) n p e = let h = (p.near).high in omega arith

pub table_near : (lines : List Line) (layout : List (ℕ × ℕ)) (table : List ℕ) (l : ℕ) → IsLayout 0 lines layout → 4 * span lines ≤ 268439552 → IsTable (address lines layout) table → l < length table
    → slice_index table l ≤ 0x30000000
table_near lines layout table l laid most h small =
    let t = total_within 0 lines layout laid in
    near_of (address lines layout l) (slice_index table l) (address_is 0 lines layout l laid refl (omega arith)) (h l small)

-- what one turn of the loop over the lines shows
pub record IsEmitted (lines : List Line) (layout : List (ℕ × ℕ)) (table : List ℕ) (i : ℕ) (instrs : List Instr) : Type 0 where
  pub made : (f : ℕ → Option ℕ) → IsTable f table → instrs ++ all_lowered (drop i lines) (drop i layout) f ≡ all_lowered lines layout f

pub emitted_more : (lines : List Line) (layout : List (ℕ × ℕ)) (table : List ℕ) (i : ℕ) (d : Line) (z : ℕ × ℕ) (old new : List Instr) → IsLayout 0 lines layout → i < length lines
    → IsEmitted lines layout table i old → ((f : ℕ → Option ℕ) → IsTable f table → new ≡ old ++ lowered (get_or lines i d) (get_or layout i z).1 (address_of (get_or layout i z).0) f)
    → IsEmitted lines layout table (i + 1) new
emitted_more lines layout table i d z old new laid below so_far grown = record {
  made = λ f is. emit_more lines layout f i d z (get_or layout i z).1 old new (all_lowered lines layout f) below (same_length 0 lines layout laid) refl (grown f is) (so_far.made f is);
}

pub place_low : (lines : List Line) (layout : List (ℕ × ℕ)) (i : ℕ) (z : ℕ × ℕ) → IsLayout 0 lines layout → 4 * span lines ≤ 268439552 → i < length lines → (get_or layout i z).0 + 4 < 0x30000000
place_low lines layout i z laid most below = let h = place_within 0 lines layout i z laid below in omega arith
