-- The machine does on the code what the lines do.
use Rattle.std.proofs.Common.{◌≡◌, ◌≢◌, ℕ, pos, zero, suc, ◌+◌, ◌-◌, ◌*◌, ◌<◌, ◌≤◌, refl, sym, ap, ◌∙◌, subst, List, Bool, true, false, cond, eqb, Option, Some, None, inl, inr, arith}
use Rattle.std.specs.Prelude.{◌⊎◌, unwrap_or}
use Rattle.pan_base.specs.Events.{Replied, Fails}
use Rattle.pan_base.specs.Words.{compare}
use Rattle.pan_base.specs.declared.operators.Cmp.{Cmp}
use Rattle.riscv_isa.specs.Held.{IsAt, AreAt}
use Rattle.riscv_isa.specs.Ways.{halfway}
use Rattle.riscv_isa.specs.Machine as image
use Rattle.riscv_isa.specs.Running.{Runs, Waits, Over, continue, Leads}
use Rattle.riscv_isa.specs.Running as running
use Rattle.riscv_isa.specs.Step as machine
use Rattle.riscv_isa.specs.Step.{State, reg, with_reg, act, request_of, resumed}
use Rattle.riscv_isa.specs.declared.instr.Instr.{Instr}
use Rattle.riscv_isa.specs.declared.instr.Instr.TheVariants.{Jalr}
use Rattle.riscv_isa.proofs.Fetching.{with_code, run_with, Has32, with_reg_32, act_32, continue_unless}
use Rattle.riscv_isa.proofs.RunLaws.{run_on}
use Rattle.lab_lang.specs.Layout.{address_of, IsLayout, Laid, found, address}
use Rattle.lab_lang.specs.Meaning.{Config, once, comes, asks, replied, aimed, by_way, act_line, act_laid, step, run}
use Rattle.lab_lang.specs.declared.syntax.Line.{Line}
use Rattle.lab_lang.specs.declared.syntax.Line.TheVariants.{Label, Plain, Jump, Branch, CallTo, Address, JumpReg}
use Rattle.lab_link.specs.Lowered.{jump_by, branch_by, address_by, all_lowered}
use Rattle.lab_link.proofs.Jumps.{IsPlace, jump_leads, call_leads, address_leads, taken_leads, passed_leads}
use Rattle.lab_link.proofs.Places.{total, IsFound, AllFound, found_is, AllPlaces, address_is}
use Rattle.lab_lang.proofs.Silent.{spent_within, at_rest, owed_leads, once_continues}

module _ (lines : List Line) (layout : List (ℕ × ℕ)) (code : List ℕ) where
  -- what is to be shown at this many steps and fewer
  abbrev Until : ℕ → Type 0
  Until n = (k : ℕ) → k ≤ n → (s : State) → Has32 s → (replies : List Replied) → (run lines layout k (at_rest s) replies).ending ≢ Fails
      → image.run k (with_code code s) replies ≡ run lines layout k (at_rest s) replies

  -- what a line does, with k steps left after its first one
  abbrev Does : ℕ → State → List Replied → Config → Type 0
  Does k s replies c = (continue asks replied c (run lines layout k) replies).ending ≢ Fails → image.run (suc k) (with_code code s) replies ≡ continue asks replied c (run lines layout k) replies

  module _ (k : ℕ) (until : Until k) (s : State) (has : Has32 s) (replies : List Replied) where
    plain_does : (i : Instr) → IsAt i code s.pc → Does k s replies (once (act i s))
    plain_does i at ok =
        let is = once_continues lines layout (act i s) k replies in
        run_with code k s i replies at
        ∙ continue_unless Has32 (act i s) (λ t. run lines layout k (at_rest t)) (λ t. image.run k (with_code code t)) replies (act_32 i s has) (subst (λ b. b.ending ≢ Fails) is ok)
        (λ t now rs fine. until k (omega arith) t now rs fine)
        ∙ sym is

    -- the machine comes to a state in as many silent steps as the line
    silent_does : (n : ℕ) (t : State) → Leads machine.step (suc n) (with_code code s) (with_code code t) → Has32 t → Does k s replies (Runs (record { machine = t; owed = n }))
    silent_does n t leads now ok = by_steps (steps k n)
      where
        steps : (k n : ℕ) → (k ≤ n) ⊎ ((j : ℕ) × (j ≤ k) × (k ≡ n + j))
        steps k zero = inr (k, omega arith, omega arith)
        steps zero (suc n) = inl (omega arith)
        steps (suc k) (suc n) = elim (steps k n) as (λ _. (suc k ≤ suc n) ⊎ ((j : ℕ) × (j ≤ suc k) × (suc k ≡ suc n + j))) [ inl few ↦ inl (omega arith) | inr (j, least, is) ↦ inr (j, omega arith, omega arith) ]

        by_steps : (k ≤ n) ⊎ ((j : ℕ) × (j ≤ k) × (k ≡ n + j)) → image.run (suc k) (with_code code s) replies ≡ run lines layout k (record { machine = t; owed = n }) replies
        by_steps (inl few) =
            spent_within request_of resumed machine.step (suc k) (suc n) (with_code code s) (with_code code t) replies (omega arith) leads
            ∙ sym (spent_within asks replied (step lines layout) k n (record { machine = t; owed = n }) (at_rest t) replies few (owed_leads lines layout n t))
        by_steps (inr (j, least, is)) =
            let owed : run lines layout k (record { machine = t; owed = n }) replies ≡ run lines layout j (at_rest t) replies =
            ap (λ m. run lines layout m (record { machine = t; owed = n }) replies) is ∙ run_on asks replied (step lines layout) n j (record { machine = t; owed = n }) (at_rest t) replies (owed_leads lines layout n t) in
            let all : suc k ≡ suc n + j = omega arith in
            ap (λ m. image.run m (with_code code s) replies) all
            ∙ run_on request_of resumed machine.step (suc n) j (with_code code s) (with_code code t) replies leads
            ∙ until j least t now replies (subst (λ b. b.ending ≢ Fails) owed ok)
            ∙ sym owed

    -- ---- with the code

    with_way : (b : Bool) (t : State) (h : ℕ) → cond b (with_code code t) (with_reg (with_code code t) 9 h) ≡ with_code code (cond b t (with_reg t 9 h))
    with_way true t h = refl
    with_way false t h = refl

    way_32 : (b : Bool) (h : ℕ) → Has32 (cond b s (with_reg s 9 h))
    way_32 true h = has
    way_32 false h = with_reg_32 s 9 h has

    -- by way of x9 or not, it comes to an address
    comes_by_way : (count from to : ℕ) → 0 < count → Leads machine.step count (with_code code s) (record (by_way count from to (with_code code s)) { pc = to }) → Does k s replies (comes count to (by_way count from to s))
    comes_by_way count from to some leads =
        let e : count ≡ suc (count - 1) = omega arith in
        let t = record (by_way count from to s) { pc = to } in
        silent_does (count - 1) t
        (subst (λ n. Leads machine.step n (with_code code s) (with_code code t)) e
        (subst (λ (u : State). Leads machine.step count (with_code code s) (record u { pc = to })) (with_way (eqb count 1) s (halfway from to)) leads))
        (way_32 (eqb count 1) (halfway from to))

    -- with a number in a register or not, it comes to an address
    comes_with_reg : (count to rd n : ℕ) → 0 < count → Leads machine.step count (with_code code s) (record (with_reg (with_code code s) rd n) { pc = to }) → Does k s replies (comes count to (with_reg s rd n))
    comes_with_reg count to rd n some leads =
        let e : count ≡ suc (count - 1) = omega arith in
        silent_does (count - 1) (record (with_reg s rd n) { pc = to }) (subst (λ m. Leads machine.step m (with_code code s) (record (with_reg (with_code code s) rd n) { pc = to })) e leads) (with_reg_32 s rd n has)

    -- ---- lines, by where the label stands

    some_count : (n m : ℕ) → 0 < m → (n ≡ 1) ⊎ (n ≡ m) → 0 < n
    some_count n m some (inl is) = omega arith
    some_count n m some (inr is) = omega arith

    jump_does : (o : Option ℕ) (n : ℕ) → AllPlaces o → (n ≡ 1) ⊎ (n ≡ 2) → IsPlace s.pc → AreAt (jump_by n 0 9 s.pc (unwrap_or o (address_of 0))) code s.pc → Does k s replies (aimed o (λ to. comes n to (by_way n s.pc to s)))
    jump_does None n p counts here held ok = absurd (ok refl)
    jump_does (Some to) n p counts here held ok = comes_by_way n s.pc to (some_count n 2 (omega arith) counts) (jump_leads n to (with_code code s) counts has here.near p held) ok

    call_does : (o : Option ℕ) (n : ℕ) → AllPlaces o → (n ≡ 1) ⊎ (n ≡ 2) → IsPlace s.pc → AreAt (jump_by n 1 1 s.pc (unwrap_or o (address_of 0))) code s.pc
        → Does k s replies (aimed o (λ to. comes n to (with_reg s 1 (s.pc + 4 * n))))
    call_does None n p counts here held ok = absurd (ok refl)
    call_does (Some to) n p counts here held ok = comes_with_reg n to 1 (s.pc + 4 * n) (some_count n 2 (omega arith) counts) (call_leads n to (with_code code s) counts has here.near p held) ok

    address_does : (rd : ℕ) (o : Option ℕ) (n : ℕ) → AllPlaces o → n ≡ 2 → IsPlace s.pc → AreAt (address_by rd s.pc (unwrap_or o (address_of 0))) code s.pc
        → Does k s replies (aimed o (λ to. comes n (s.pc + 4 * n) (with_reg s rd to)))
    address_does rd None n p is here held ok = absurd (ok refl)
    address_does rd (Some to) n p is here held ok =
        let small : rd < 32 = let e = ((held.0).stands).at_rd in omega arith in
        subst (λ m. Does k s replies (comes m (s.pc + 4 * m) (with_reg s rd to))) (sym is)
        (comes_with_reg 2 (s.pc + 8) rd to (omega arith) (address_leads rd to (with_code code s) small has here.near p held)) ok

    taken_does : (c : Cmp) (a b : ℕ) (o : Option ℕ) (n : ℕ) → compare c (reg s a) (reg s b) ≡ true → AllPlaces o → (n ≡ 1) ⊎ (n ≡ 3) → IsPlace s.pc → IsPlace (s.pc + 4 * n)
        → AreAt (branch_by n c a b s.pc (unwrap_or o (address_of 0))) code s.pc → Does k s replies (aimed o (λ to. comes n to (by_way n (s.pc + 4) to s)))
    unfolding reg
    taken_does c a b None n holds p counts here after held ok = absurd (ok refl)
    taken_does c a b (Some to) n holds p counts here after held ok =
        comes_by_way n (s.pc + 4) to (some_count n 3 (omega arith) counts) (taken_leads c a b n to (with_code code s) holds counts has here.near after p held) ok

    branch_does : (c : Cmp) (a b : ℕ) (o : Option ℕ) (n : ℕ) (holds : Bool) → compare c (reg s a) (reg s b) ≡ holds → AllPlaces o → (n ≡ 1) ⊎ (n ≡ 3) → IsPlace s.pc → IsPlace (s.pc + 4 * n)
        → AreAt (branch_by n c a b s.pc (unwrap_or o (address_of 0))) code s.pc
        → Does k s replies (cond holds (aimed o (λ to. comes n to (by_way n (s.pc + 4) to s))) (comes 1 (s.pc + 4 * n) s))
    unfolding reg
    branch_does c a b o n true holds p counts here after held ok = taken_does c a b o n holds p counts here after held ok
    branch_does c a b o n false fails p counts here after held ok =
        silent_does 0 (record s { pc = s.pc + 4 * n }) (passed_leads c a b n (unwrap_or o (address_of 0)) (with_code code s) fails counts here.near after held) has ok

    two : (n : ℕ) → (n ≡ 2) ⊎ (n ≡ 2) → n ≡ 2
    two n (inl is) = is
    two n (inr is) = is

    line_does : (x : Line) (n : ℕ) → ((l : ℕ) → AllPlaces (address lines layout l)) → IsFound (address lines layout) code (record { line = x; count = n }) s.pc → Does k s replies (act_line x n (address lines layout) s)
    line_does (Label l) n labels f ok = absurd (ok refl)
    line_does (Plain i) n labels f ok = plain_does i (f.held).0 ok
    line_does (Jump l) n labels f ok = jump_does (address lines layout l) n (labels l) f.counts f.place f.held ok
    line_does (Branch c a b l) n labels f ok = branch_does c a b (address lines layout l) n (compare c (reg s a) (reg s b)) refl (labels l) f.counts f.place f.after f.held ok
    line_does (CallTo l) n labels f ok = call_does (address lines layout l) n (labels l) f.counts f.place f.held ok
    line_does (Address rd l) n labels f ok = address_does rd (address lines layout l) n (labels l) (two n f.counts) f.place f.held ok
    line_does (JumpReg r) n labels f ok = plain_does (Jalr 0 r (pos 0)) (f.held).0 ok

    laid_does : (o : Option Laid) → ((l : ℕ) → AllPlaces (address lines layout l)) → AllFound (address lines layout) code o s.pc → Does k s replies (act_laid o (address lines layout) s)
    laid_does None labels f ok = absurd (ok refl)
    laid_does (Some x) labels f ok = line_does x.line x.count labels f ok

  module _ (laid : IsLayout 0 lines layout) (size : 4 * total layout ≤ 0x30000000) (held : AreAt (all_lowered lines layout (address lines layout)) code (address_of 0)) where
    from_zero : 0 + 4 * total layout ≤ 0x30000000
    from_zero = omega arith

    labels : (l : ℕ) → AllPlaces (address lines layout l)
    labels l = address_is 0 lines layout l laid refl from_zero

    -- The machine does on the code what the lines do, wherever these don't fail.
    pub until : (n : ℕ) → Until n
    unfolding running.run
    until n zero le s h replies ok = refl
    until zero (suc k) le s h replies ok = absurd (omega arith)
    until (suc n) (suc k) le s h replies ok =
        laid_does k (λ j small. until n j (omega arith)) s h replies (found lines layout s.pc) labels
        (found_is (address lines layout) code 0 lines layout s.pc laid refl from_zero held) ok
