-- Operations that ask nothing: what their code leaves in homes and in memory.
use Rattle.std.proofs.Common.{◌≡◌, ◌≢◌, ℕ, ◌≤◌, List, [], ◌∷◌, ◌++◌, map, Option, Some, Bool, true, false, refl, sym, ap, ◌∙◌, subst, arith}
use Rattle.std.specs.Prelude.{nat_lt, if◌then◌else◌}
use Rattle.std.proofs.lemmas.Bool.Decides.{nat_tests}
use Rattle.pan_base.specs.declared.operators.LOp.{LOp}
use Rattle.pan_base.specs.declared.operators.SOp.{SOp}
use Rattle.pan_base.specs.Bytes.{with_number}
use Rattle.pan_base.specs.Events.{byte_count}
use Rattle.pan_base.specs.Results.{plus, l_result, loads, stores}
use Rattle.pan_base.specs.Words.{IsWord}
use Rattle.pan_control.specs.World.{tolled}
use Rattle.pan_control.specs.Control.{Normal}
use Rattle.pan_flow.specs.Flow.{has}
use Rattle.pan_stage.specs.Data.{read, write}
use Rattle.riscv_isa.specs.declared.instr.Instr.TheVariants as instr
use Rattle.riscv_isa.specs.Regions.{Memory, bytes_of, with_bytes}
use Rattle.riscv_isa.specs.Regions as machine
use Rattle.riscv_isa.specs.Step.{Runs, reg, with_reg, next, load as load_at, store as store_at}
use Rattle.word_lang.specs.Homes.{first_slot, is_home}
use Rattle.stack_lang.specs.Frame.{Frame, with_register}
use Rattle.stack_lang.specs.Shown.{hide}
use Rattle.stack_lang.specs.Meaning.{World, Callee, run}
use Rattle.stack_lang.specs.declared.syntax.Stmt.{Stmt}
use Rattle.stack_lang.specs.declared.syntax.Stmt.TheVariants as stack
use Rattle.stack_frames.specs.Constants.{constant}
use Rattle.stack_frames.specs.Frames.{register_of, gets, puts}
use Rattle.stack_frames.proofs.Masked.{IsUsable, seen}
use Rattle.stack_frames.proofs.Machine.{Machine, data_read, data_written}
use Rattle.stack_frames.proofs.Homes.{IsNumbered, home_usable, spare_5, spare_6, home_value, passed, Kept, kept_on, memory_kept}
use Rattle.stack_frames.proofs.Rows.{Ran, ran_append, ran_within, ran_one, plain_runs, plain_writes, constant_ran}
use Rattle.stack_frames.proofs.Moves.{Beside, Got, gets_ran, Put, puts_ran, put_on}

module _ (names : List (List ℕ)) (slot : ℕ → ℕ) (named : List ℕ) (numbered : IsNumbered slot named) (globals local : List ℕ) (size d : ℕ) (callee : Callee) where
  abbrev value : ℕ → Frame → Option ℕ
  value = home_value names slot named numbered

  abbrev KeptOf : Frame → Frame → Type 0
  KeptOf = Kept names slot named numbered

  abbrev BesideOf : Frame → Type 0
  BesideOf = Beside names slot named numbered globals local size d callee

  abbrev GotOf : (r x n : ℕ) → Frame → Frame → Type 0
  GotOf = Got names slot named numbered globals local size d callee

  abbrev pub PutOf : (x n : ℕ) → Frame → Frame → Type 0
  PutOf = Put names slot named numbered globals local size d callee

  abbrev RanOf : ℕ → List Stmt → Frame → (Frame → Type 0) → Type 0
  RanOf = Ran size d callee

  abbrev of : ℕ → ℕ → ℕ
  of = register_of

  -- the register of a home, or one that stands in for a slot, is one that the code writes
  pub of_usable : (x : ℕ) → has named x ≡ true → IsUsable (of 5 x)
  of_usable x h = by (nat_lt x first_slot) refl
    where
      by : (b : Bool) → nat_lt x first_slot ≡ b → IsUsable (if b then x else 5)
      by true l = home_usable x (numbered.homes x h) l
      by false l = spare_5.usable

  not_six : (x : ℕ) → has named x ≡ true → 6 ≢ of 5 x
  not_six x h = by (nat_lt x first_slot) refl
    where
      home_least : (x : ℕ) → is_home x ≡ true → 15 ≤ x
      home_least x e = grind (arith, nat_tests)

      by : (b : Bool) → nat_lt x first_slot ≡ b → 6 ≢ (if b then x else 5)
      by true l = let g = home_least x (numbered.homes x h) in λ e. omega (arith, e, g)
      by false l = λ e. omega (arith, e)

  -- ---- operands

  -- two homes have their words in registers
  pub record Both (a b n m : ℕ) (u u' : Frame) : Type 0 where
    pub kept : KeptOf u u'
    pub first : reg u'.seen (of 5 a) ≡ n
    pub second : reg u'.seen (of 6 b) ≡ m
    pub beside : BesideOf u'
    pub passing : (j : ℕ) → passed j u' ≡ passed j u

  pub both_ran : (a b n m : ℕ) (u : Frame) → has named a ≡ true → has named b ≡ true → value a u ≡ Some n → value b u ≡ Some m → BesideOf u → RanOf 6 (gets slot 5 a ++ gets slot 6 b) u (Both a b n m u)
  both_ran a b n m u ha hb e f mc =
      ran_append size d callee 3 3 (gets slot 5 a) (gets slot 6 b) u (GotOf 5 a n u) (Both a b n m u) (gets_ran names slot named numbered globals local size d callee 5 a n u spare_5 (omega arith) e mc)
      (λ u1 g. ran_within size d callee 3 3 (gets slot 6 b) u1 (GotOf 6 b m u1) (Both a b n m u) (omega arith)
      (λ u2 k. record {
        kept = kept_on names slot named numbered u u1 u2 g.kept k.kept;
        first = k.others (of 5 a) (not_six a ha) (seen (of 5 a) (of_usable a ha)) ∙ g.value_is;
        second = k.value_is;
        beside = k.beside;
        passing = λ j. k.passing j ∙ g.passing j;
      })
      (gets_ran names slot named numbered globals local size d callee 6 b m u1 spare_6 (omega arith) ((g.kept).homes b hb ∙ f) g.beside))

  -- ---- results

  -- an instruction gives a home a word
  put_ran : (x n : ℕ) (i : Stmt) (u : Frame) → has named x ≡ true → IsWord n → BesideOf u → ((w : World) → run size d callee i u w ≡ Normal (with_register u (of 5 x) n) (tolled 1 w)) → RanOf 4 (i ∷ puts slot x 5) u (PutOf x n u)
  put_ran x n i u h small m e =
      ran_append size d callee 1 3 (i ∷ []) (puts slot x 5) u (λ u'. u' ≡ with_register u (of 5 x) n) (PutOf x n u)
      (ran_one size d callee 1 1 i u (with_register u (of 5 x) n) (λ u'. u' ≡ with_register u (of 5 x) n) (omega arith) e refl)
      (λ u1 is. subst (λ u1. RanOf 3 (puts slot x 5) u1 (PutOf x n u)) (sym is) (puts_ran names slot named numbered globals local size d callee x n u h small m))

  pub constant_put : (x n : ℕ) (u : Frame) → has named x ≡ true → IsWord n → BesideOf u → RanOf 11 (map stack.Plain (constant (of 5 x) n) ++ puts slot x 5) u (PutOf x n u)
  constant_put x n u h small m =
      ran_append size d callee 8 3 (map stack.Plain (constant (of 5 x) n)) (puts slot x 5) u (λ u'. u' ≡ with_register u (of 5 x) n) (PutOf x n u)
      (constant_ran size d callee (of 5 x) (of_usable x h) n u small m.count)
      (λ u1 is. subst (λ u1. RanOf 3 (puts slot x 5) u1 (PutOf x n u)) (sym is) (puts_ran names slot named numbered globals local size d callee x n u h small m))

  -- what an instruction makes of a home's word
  pub one_put : (i : ℕ → ℕ → Stmt) (x a n m : ℕ) (u : Frame) → has named x ≡ true → value a u ≡ Some n → IsWord m → BesideOf u
      → ((u1 : Frame) → KeptOf u u1 → BesideOf u1 → reg u1.seen (of 5 a) ≡ n → (w : World) → run size d callee (i (of 5 x) (of 5 a)) u1 w ≡ Normal (with_register u1 (of 5 x) m) (tolled 1 w))
      → RanOf 7 (gets slot 5 a ++ i (of 5 x) (of 5 a) ∷ puts slot x 5) u (PutOf x m u)
  one_put i x a n m u hx e small mc f =
      ran_append size d callee 3 4 (gets slot 5 a) (i (of 5 x) (of 5 a) ∷ puts slot x 5) u (GotOf 5 a n u) (PutOf x m u) (gets_ran names slot named numbered globals local size d callee 5 a n u spare_5 (omega arith) e mc)
      (λ u1 g. ran_within size d callee 4 4 _ u1 (PutOf x m u1) (PutOf x m u) (omega arith) (λ u2 p. put_on names slot named numbered globals local size d callee x m u u1 u2 g.kept g.passing p)
      (put_ran x m (i (of 5 x) (of 5 a)) u1 hx small g.beside (f u1 g.kept g.beside g.value_is)))

  -- and of two
  pub two_put : (i : ℕ → ℕ → ℕ → Stmt) (x a b n m k : ℕ) (u : Frame) → has named x ≡ true → has named a ≡ true → has named b ≡ true → value a u ≡ Some n → value b u ≡ Some m → IsWord k → BesideOf u
      → ((u1 : Frame) → reg u1.seen (of 5 a) ≡ n → reg u1.seen (of 6 b) ≡ m → (w : World) → run size d callee (i (of 5 x) (of 5 a) (of 6 b)) u1 w ≡ Normal (with_register u1 (of 5 x) k) (tolled 1 w))
      → RanOf 10 ((gets slot 5 a ++ gets slot 6 b) ++ i (of 5 x) (of 5 a) (of 6 b) ∷ puts slot x 5) u (PutOf x k u)
  two_put i x a b n m k u hx ha hb e f small mc step =
      ran_append size d callee 6 4 (gets slot 5 a ++ gets slot 6 b) (i (of 5 x) (of 5 a) (of 6 b) ∷ puts slot x 5) u (Both a b n m u) (PutOf x k u) (both_ran a b n m u ha hb e f mc)
      (λ u1 g. ran_within size d callee 4 4 _ u1 (PutOf x k u1) (PutOf x k u) (omega arith) (λ u2 p. put_on names slot named numbered globals local size d callee x k u u1 u2 g.kept g.passing p)
      (put_ran x k (i (of 5 x) (of 5 a) (of 6 b)) u1 hx small g.beside (step u1 g.first g.second)))

  -- ---- memory

  -- a load of data memory
  pub load_runs : (o : LOp) (r a addr n : ℕ) (imm : _) (u : Frame) → BesideOf u → plus (reg u.seen a) imm ≡ addr → read (loads o) globals local addr ≡ Some n
      → (w : World) → run size d callee (stack.Plain (instr.L o r a imm)) u w ≡ Normal (with_register u r (l_result o n)) (tolled 1 w)
  load_runs o r a addr n imm u m at is =
      let k = data_read names globals local u.seen m (loads o) addr n is in
      plain_writes size d callee (instr.L o r a imm) r (l_result o n) u
      (ap (λ addr. load_at (machine.place_of (u.seen).memory addr (byte_count (loads o))) o r addr u.seen) at
      ∙ ap (λ p. load_at p o r addr u.seen) k.goes
      ∙ ap (λ n. Runs (next (with_reg u.seen r (l_result o n)))) k.is)

  -- other data memory, and else all as it was
  pub record Stored (g l : List ℕ) (u u' : Frame) : Type 0 where
    pub kept : KeptOf u u'
    pub beside : Machine names g l u'.seen

  store_ran : (o : SOp) (r a addr n : ℕ) (imm : _) (u : Frame) (g : List ℕ × List ℕ) → BesideOf u → plus (reg u.seen a) imm ≡ addr → reg u.seen r ≡ n → write (stores o) globals local addr n ≡ Some g
      → RanOf 1 (stack.Plain (instr.S o a r imm) ∷ []) u (Stored g.0 g.1 u)
  store_ran o r a addr n imm u g m at has_n is =
      let k = data_written names globals local u.seen m (stores o) addr n g is in
      let after : Memory = with_bytes k.region (with_number (stores o) (bytes_of k.region (u.seen).memory) k.at n) (u.seen).memory in
      ran_one size d callee 1 1 (stack.Plain (instr.S o a r imm)) u (record u { seen = hide (record u.seen { memory = after }) }) (Stored g.0 g.1 u) (omega arith)
      (plain_runs size d callee (instr.S o a r imm) (next (record u.seen { memory = after })) u
      (ap (λ addr. store_at (machine.place_of (u.seen).memory addr (byte_count (stores o))) (stores o) addr (reg u.seen r) u.seen) at
      ∙ ap (λ n. store_at (machine.place_of (u.seen).memory addr (byte_count (stores o))) (stores o) addr n u.seen) has_n
      ∙ ap (λ p. store_at p (stores o) addr n u.seen) k.goes))
      (record { kept = memory_kept names slot named numbered after u; beside = k.machine_is })

  -- a store of a home's low bytes to data memory
  pub store_put : (o : SOp) (x a addr n m : ℕ) (imm : _) (u : Frame) (g : List ℕ × List ℕ) → has named a ≡ true → has named x ≡ true → value a u ≡ Some n → value x u ≡ Some m → BesideOf u → plus n imm ≡ addr → write (stores o) globals local addr m ≡ Some g
      → RanOf 7 ((gets slot 5 a ++ gets slot 6 x) ++ stack.Plain (instr.S o (of 5 a) (of 6 x) imm) ∷ []) u (Stored g.0 g.1 u)
  store_put o x a addr n m imm u g ha hx e f mc at is =
      ran_append size d callee 6 1 (gets slot 5 a ++ gets slot 6 x) (stack.Plain (instr.S o (of 5 a) (of 6 x) imm) ∷ []) u (Both a x n m u) (Stored g.0 g.1 u) (both_ran a x n m u ha hx e f mc)
      (λ u1 k. ran_within size d callee 1 1 _ u1 (Stored g.0 g.1 u1) (Stored g.0 g.1 u) (omega arith) (λ u2 p. record { kept = kept_on names slot named numbered u u1 u2 k.kept p.kept; beside = p.beside })
      (store_ran o (of 6 x) (of 5 a) addr m imm u1 g k.beside (ap (λ n. plus n imm) k.first ∙ at) k.second is))
