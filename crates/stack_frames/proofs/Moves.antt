-- Moves of words: between homes and registers, and to and from the places where words are passed.
use Rattle.std.proofs.Common.{◌≡◌, ◌≢◌, ℕ, ◌+◌, ◌-◌, ◌*◌, ◌%◌, ◌^◌, ◌<◌, ◌≤◌, pos, List, [], ◌∷◌, ◌++◌, length, Option, Some, Bool, true, false, refl, sym, ap, ◌∙◌, subst, arith, inl}
use Rattle.std.specs.Prelude.{nat_eq, nat_lt, ◌||◌, if◌then◌else◌}
use Rattle.std.proofs.lemmas.Bool.Decides.{nat_tests}
use Rattle.pan_base.specs.declared.events.Size.TheVariants.{B8}
use Rattle.pan_base.specs.declared.operators.IOp.TheVariants.{Addi}
use Rattle.pan_base.specs.declared.operators.LOp.TheVariants.{Ld}
use Rattle.pan_base.specs.declared.operators.SOp.TheVariants.{Sd}
use Rattle.pan_base.specs.Bytes.{number_at, with_number}
use Rattle.pan_base.specs.Results.{plus}
use Rattle.pan_base.specs.Words.{IsWord}
use Rattle.pan_base.proofs.ByteLaws.{number_read_back, number_elsewhere}
use Rattle.pan_control.specs.World.{tolled}
use Rattle.pan_control.specs.Control.{Normal}
use Rattle.pan_flow.specs.Flow.{has}
use Rattle.pan_stage.specs.Locals.{Locals, write, write_all}
use Rattle.riscv_isa.specs.declared.instr.Instr.TheVariants as instr
use Rattle.riscv_isa.specs.Step.{Runs, reg, with_reg, next, load as loads_at, store as stores_at}
use Rattle.word_lang.specs.Homes.{first_slot}
use Rattle.stack_lang.specs.Frame.{Frame, with_register, with_slot}
use Rattle.stack_lang.specs.Shown.{hide, IsVisible}
use Rattle.stack_lang.specs.Meaning.{World, Callee, run}
use Rattle.stack_lang.specs.declared.syntax.Stmt.TheVariants as stack
use Rattle.stack_frames.specs.Frames.{register_of, gets, puts, load, save, distance, pass, fetch, passes, fetches}
use Rattle.stack_frames.proofs.Masked.{reg_written, reg_unwritten, reg_hide, reg_memory}
use Rattle.stack_frames.proofs.Machine.{Machine, register_machine, block_placed}
use Rattle.stack_frames.proofs.Homes.{IsSpare, IsNumbered, spare_low, spare_5, home_value, passed, Carries, carries_on, Kept, Written, kept_self, kept_on, written_on, register_kept, memory_kept, register_passing, with_home, home_machine, written, with_block, block_machine}
use Rattle.stack_frames.proofs.Rows.{Ran, ran_none, ran_append, ran_within, ran_one, plain_runs, plain_writes, run_get, run_put}

pub plus_zero : (n : ℕ) → IsWord n → plus n (pos 0) ≡ n
unfolding plus
plus_zero n small = omega (arith, small)

pub same_value : {A : Type 0} (a b : A) → Some a ≡ Some b → a ≡ b
same_value a b e = cc e

module _ (names : List (List ℕ)) (slot : ℕ → ℕ) (named : List ℕ) (numbered : IsNumbered slot named) (globals local : List ℕ) (size d : ℕ) (callee : Callee) where
  -- the machine beside the globals and local memory
  abbrev pub Beside : Frame → Type 0
  Beside u = Machine names globals local u.seen

  abbrev value : ℕ → Frame → Option ℕ
  value = home_value names slot named numbered

  abbrev KeptOf : Frame → Frame → Type 0
  KeptOf = Kept names slot named numbered

  abbrev WrittenOf : ℕ → ℕ → Frame → Frame → Type 0
  WrittenOf = Written names slot named numbered

  abbrev home_with : ℕ → ℕ → Frame → Frame
  home_with = with_home names slot named numbered

  abbrev block_with : Frame → ℕ → ℕ → Frame
  block_with = with_block names slot named numbered

  -- ---- a home's word in a register

  pub record Got (r x n : ℕ) (u u' : Frame) : Type 0 where
    pub kept : KeptOf u u'
    pub value_is : reg u'.seen (register_of r x) ≡ n
    pub beside : Beside u'
    pub passing : (j : ℕ) → passed j u' ≡ passed j u
    pub others : (q : ℕ) → r ≢ q → IsVisible q → reg u'.seen q ≡ reg u.seen q

  pub gets_ran : (r x n : ℕ) (u : Frame) → IsSpare r → r ≤ 9 → value x u ≡ Some n → Beside u → Ran size d callee 3 (gets slot r x) u (Got r x n u)
  gets_ran r x n u s le e m = by (nat_lt x first_slot) refl e
    where
      by : (b : Bool) → nat_lt x first_slot ≡ b → (if b then Some (reg u.seen x) else u.slots (slot x)) ≡ Some n → Ran size d callee 3 (if b then [] else stack.Get r (slot x) ∷ []) u (Got r x n u)
      by true l e =
          ran_within size d callee 0 3 [] u (Got r x n u) (Got r x n u) (omega arith) (λ u' p. p)
          (ran_none size d callee u (Got r x n u) (record {
            kept = kept_self names slot named numbered u;
            value_is = ap (λ b. reg u.seen (if b then x else r)) l ∙ same_value _ _ e;
            beside = m;
            passing = λ j. refl;
            others = λ q ne v. refl;
          }))
      by false l e =
          ran_one size d callee 3 3 (stack.Get r (slot x)) u (with_register u r n) (Got r x n u) (omega arith) (run_get size d callee r (slot x) n u e)
          (record {
            kept = register_kept names slot named numbered r n u s;
            value_is = ap (λ b. reg (hide (with_reg u.seen r n)) (if b then x else r)) l ∙ reg_written u.seen r n s.usable m.count;
            beside = register_machine names globals local u.seen m r n s.usable;
            passing = λ j. register_passing names slot named numbered r n j u s.usable (inl le);
            others = λ q ne v. reg_unwritten u.seen r q n ne v;
          })

  -- a home is written
  pub record Put (x n : ℕ) (u u' : Frame) : Type 0 where
    pub written_is : WrittenOf x n u u'
    pub beside : Beside u'

  pub home_put : (x n : ℕ) (u : Frame) → has named x ≡ true → IsWord n → Beside u → Put x n u (home_with x n u)
  home_put x n u h small m = record { written_is = written names slot named numbered x n u h small m.count; beside = home_machine names slot named numbered globals local x n u h m }

  pub put_on : (x n : ℕ) (u u1 u' : Frame) → KeptOf u u1 → ((j : ℕ) → passed j u1 ≡ passed j u) → Put x n u1 u' → Put x n u u'
  put_on x n u u1 u' k s p = record { written_is = written_on names slot named numbered x n u u1 u' k s p.written_is; beside = p.beside }

  -- where the register of a home, or the one that stands in for its slot, has got its word
  pub puts_ran : (x n : ℕ) (u : Frame) → has named x ≡ true → IsWord n → Beside u → Ran size d callee 3 (puts slot x 5) (with_register u (register_of 5 x) n) (Put x n u)
  puts_ran x n u h small m = by (nat_lt x first_slot) refl
    where
      by : (b : Bool) → nat_lt x first_slot ≡ b → Ran size d callee 3 (if b then [] else stack.Put (slot x) 5 ∷ []) (with_register u (if b then x else 5) n) (Put x n u)
      by true l =
          ran_within size d callee 0 3 [] (with_register u x n) (Put x n u) (Put x n u) (omega arith) (λ u' p. p)
          (ran_none size d callee (with_register u x n) (Put x n u) (subst (λ b. Put x n u (if b then with_register u x n else with_slot u (slot x) n)) l (home_put x n u h small m)))
      by false l =
          let u1 : Frame = with_register u 5 n in
          let m1 : Beside u1 = register_machine names globals local u.seen m 5 n spare_5.usable in
          let p : Put x n u (home_with x n u1) = put_on x n u u1 (home_with x n u1) (register_kept names slot named numbered 5 n u spare_5) (λ j. register_passing names slot named numbered 5 n j u spare_5.usable (inl (omega arith))) (home_put x n u1 h small m1) in
          ran_one size d callee 3 3 (stack.Put (slot x) 5) u1 (with_slot u1 (slot x) n) (Put x n u) (omega arith)
          (run_put size d callee (slot x) 5 n u1 (reg_written u.seen 5 n spare_5.usable m.count))
          (subst (λ b. Put x n u (if b then with_register u1 x n else with_slot u1 (slot x) n)) l p)

  -- ---- one move

  load_ran : (r x n : ℕ) (u : Frame) → value x u ≡ Some n → IsWord n → Ran size d callee 3 (load slot r x ∷ []) u (λ u'. u' ≡ with_register u r n)
  load_ran r x n u e small = by (nat_lt x first_slot) e
    where
      by : (b : Bool) → (if b then Some (reg u.seen x) else u.slots (slot x)) ≡ Some n → Ran size d callee 3 ((if b then stack.Plain (instr.I Addi r x (pos 0)) else stack.Get r (slot x)) ∷ []) u (λ u'. u' ≡ with_register u r n)
      by true e =
          ran_one size d callee 1 3 (stack.Plain (instr.I Addi r x (pos 0))) u (with_register u r n) (λ u'. u' ≡ with_register u r n) (omega arith)
          (plain_writes size d callee (instr.I Addi r x (pos 0)) r n u (ap (λ a. Runs (next (with_reg u.seen r a))) (ap (λ a. plus a (pos 0)) (same_value _ _ e) ∙ plus_zero n small))) refl
      by false e = ran_one size d callee 3 3 (stack.Get r (slot x)) u (with_register u r n) (λ u'. u' ≡ with_register u r n) (omega arith) (run_get size d callee r (slot x) n u e) refl

  save_ran : (x r n : ℕ) (u : Frame) → reg u.seen r ≡ n → IsWord n → Ran size d callee 3 (save slot x r ∷ []) u (λ u'. u' ≡ home_with x n u)
  save_ran x r n u e small = by (nat_lt x first_slot)
    where
      by : (b : Bool) → Ran size d callee 3 ((if b then stack.Plain (instr.I Addi x r (pos 0)) else stack.Put (slot x) r) ∷ []) u (λ u'. u' ≡ (if b then with_register u x n else with_slot u (slot x) n))
      by true =
          ran_one size d callee 1 3 (stack.Plain (instr.I Addi x r (pos 0))) u (with_register u x n) (λ u'. u' ≡ with_register u x n) (omega arith)
          (plain_writes size d callee (instr.I Addi x r (pos 0)) x n u (ap (λ a. Runs (next (with_reg u.seen x a))) (ap (λ a. plus a (pos 0)) e ∙ plus_zero n small))) refl
      by false = ran_one size d callee 3 3 (stack.Put (slot x) r) u (with_slot u (slot x) n) (λ u'. u' ≡ with_slot u (slot x) n) (omega arith) (run_put size d callee (slot x) r n u e) refl

  -- ---- what is passed

  -- homes are as they were, the k-th place has this word, and so have the places before
  pub record Passes (k n : ℕ) (u u' : Frame) : Type 0 where
    pub kept : KeptOf u u'
    pub here : passed k u' ≡ n
    pub before : (j : ℕ) → j < k → passed j u' ≡ passed j u
    pub beside : Beside u'

  early_passes : (k n : ℕ) (u : Frame) → nat_lt k 5 ≡ true → Beside u → Passes k n u (with_register u (10 + k) n)
  early_passes k n u l m =
      record {
        kept = register_kept names slot named numbered (10 + k) n u spare;
        here = ap (λ b. if b then reg (hide (with_reg u.seen (10 + k) n)) (10 + k) else number_at B8 ((u.seen).memory).block (8 * (k - 5))) l ∙ reg_written u.seen (10 + k) n spare.usable m.count;
        before = λ j lt. by j lt (nat_lt j 5);
        beside = register_machine names globals local u.seen m (10 + k) n spare.usable;
      }
    where
      spare : IsSpare (10 + k)
      spare = spare_low (10 + k) (omega arith) (grind (arith, nat_tests))

      by : (j : ℕ) → j < k → (b : Bool) → (if b then reg (hide (with_reg u.seen (10 + k) n)) (10 + j) else number_at B8 ((u.seen).memory).block (8 * (j - 5))) ≡ (if b then reg u.seen (10 + j) else number_at B8 ((u.seen).memory).block (8 * (j - 5)))
      by j lt true = reg_unwritten u.seen (10 + k) (10 + j) n (λ e. omega (arith, e, lt)) (λ e. omega (arith, e), λ e. omega (arith, e), λ e. omega (arith, e), λ e. omega (arith, e))
      by j lt false = refl

  late_passes : (k n : ℕ) (u : Frame) → nat_lt k 5 ≡ false → k < 128 → IsWord n → Beside u → Passes k n u (block_with u (k - 5) n)
  late_passes k n u l lt small m =
      record {
        kept = memory_kept names slot named numbered (record (u.seen).memory { block = with_number B8 ((u.seen).memory).block (8 * (k - 5)) n }) u;
        here =
            ap (λ b. if b then reg (block_with u (k - 5) n).seen (10 + k) else number_at B8 (with_number B8 ((u.seen).memory).block (8 * (k - 5)) n) (8 * (k - 5))) l
            ∙ number_read_back B8 ((u.seen).memory).block (8 * (k - 5)) n (let h = m.block in omega (arith, h, lt)) ∙ (let e : n % 2 ^ 64 ≡ n = omega (arith, small) in e);
        before = λ j lj. by j lj (nat_lt j 5) refl;
        beside = block_machine names slot named numbered globals local (k - 5) n u (omega (arith, lt)) m;
      }
    where
      by : (j : ℕ) → j < k → (b : Bool) → nat_lt j 5 ≡ b
          → (if b then reg (block_with u (k - 5) n).seen (10 + j) else number_at B8 (with_number B8 ((u.seen).memory).block (8 * (k - 5)) n) (8 * (j - 5))) ≡ (if b then reg u.seen (10 + j) else number_at B8 ((u.seen).memory).block (8 * (j - 5)))
      by j lj true f =
          reg_hide (record u.seen { memory = record (u.seen).memory { block = with_number B8 ((u.seen).memory).block (8 * (k - 5)) n } }) (10 + j) (λ e. omega (arith, e), λ e. omega (arith, e), λ e. omega (arith, e), λ e. omega (arith, e))
          ∙ reg_memory u.seen (10 + j) (record (u.seen).memory { block = with_number B8 ((u.seen).memory).block (8 * (k - 5)) n })
      by j lj false f =
          number_elsewhere B8 B8 ((u.seen).memory).block (8 * (k - 5)) n (8 * (j - 5)) (let h = m.block in omega (arith, h, lt)) (inl (let g : 5 ≤ j = grind (arith, nat_tests) in omega (arith, g, lj)))

  pass_ran : (k x n : ℕ) (u : Frame) → k < 128 → value x u ≡ Some n → IsWord n → Beside u → Ran size d callee 4 (pass slot k x) u (Passes k n u)
  pass_ran k x n u lt e small m = by (nat_lt k 5) refl
    where
      stored : (u1 : Frame) → Got 5 x n u u1 → (w : World) → run size d callee (stack.Plain (instr.S Sd 3 (register_of 5 x) (pos (distance k)))) u1 w ≡ Normal (block_with u1 (k - 5) n) (tolled 1 w)
      stored u1 g =
          plain_runs size d callee (instr.S Sd 3 (register_of 5 x) (pos (distance k))) (next (record u1.seen { memory = record (u1.seen).memory { block = with_number B8 ((u1.seen).memory).block (8 * (k - 5)) n } })) u1
          (ap (λ p. stores_at p B8 (plus (reg u1.seen 3) (pos (8 * (k - 5)))) (reg u1.seen (register_of 5 x)) u1.seen) (block_placed names globals local u1.seen g.beside (k - 5) (omega (arith, lt)))
          ∙ ap (λ n. Runs (next (record u1.seen { memory = record (u1.seen).memory { block = with_number B8 ((u1.seen).memory).block (8 * (k - 5)) n } }))) g.value_is)

      late : nat_lt k 5 ≡ false → (u1 : Frame) → Got 5 x n u u1 → Passes k n u (block_with u1 (k - 5) n)
      late l u1 g =
          let p = late_passes k n u1 l lt small g.beside in
          record { kept = kept_on names slot named numbered u u1 (block_with u1 (k - 5) n) g.kept p.kept; here = p.here; before = λ j lj. p.before j lj ∙ g.passing j; beside = p.beside }

      by : (b : Bool) → nat_lt k 5 ≡ b → Ran size d callee 4 (if b then load slot (10 + k) x ∷ [] else gets slot 5 x ++ stack.Plain (instr.S Sd 3 (register_of 5 x) (pos (distance k))) ∷ []) u (Passes k n u)
      by true l =
          ran_within size d callee 3 4 _ u (λ u'. u' ≡ with_register u (10 + k) n) (Passes k n u) (omega arith) (λ u' is. subst (Passes k n u) (sym is) (early_passes k n u l m)) (load_ran (10 + k) x n u e small)
      by false l =
          ran_append size d callee 3 1 (gets slot 5 x) (stack.Plain (instr.S Sd 3 (register_of 5 x) (pos (distance k))) ∷ []) u (Got 5 x n u) (Passes k n u) (gets_ran 5 x n u spare_5 (omega arith) e m)
          (λ u1 g. ran_one size d callee 1 1 (stack.Plain (instr.S Sd 3 (register_of 5 x) (pos (distance k)))) u1 (block_with u1 (k - 5) n) (Passes k n u) (omega arith) (stored u1 g) (late l u1 g))

  -- the words of these homes
  abbrev pub Reads : List ℕ → List ℕ → Frame → Type 0
  Reads [] [] u = Unit {0}
  Reads [] (n ∷ ns) u = ⊥
  Reads (x ∷ xs) [] u = ⊥
  Reads (x ∷ xs) (n ∷ ns) u = (has named x ≡ true) × (value x u ≡ Some n) × IsWord n × Reads xs ns u

  reads_kept : (xs ns : List ℕ) (u u' : Frame) → KeptOf u u' → Reads xs ns u → Reads xs ns u'
  reads_kept [] [] u u' k r = tt
  reads_kept [] (n ∷ ns) u u' k r = absurd r
  reads_kept (x ∷ xs) [] u u' k r = absurd r
  reads_kept (x ∷ xs) (n ∷ ns) u u' k r = (r.0, k.homes x r.0 ∙ r.1, r.2, reads_kept xs ns u u' k r.3)

  -- these words are passed, and the places before are as they were
  pub record Passing (k : ℕ) (ns : List ℕ) (u u' : Frame) : Type 0 where
    pub kept : KeptOf u u'
    pub carries : Carries k ns u'
    pub before : (j : ℕ) → j < k → passed j u' ≡ passed j u
    pub beside : Beside u'

  pub passes_ran : (k : ℕ) (xs ns : List ℕ) (u : Frame) → k + length xs ≤ 128 → Reads xs ns u → Beside u → Ran size d callee (4 * length xs) (passes slot k xs) u (Passing k ns u)
  passes_ran k [] [] u le r m = ran_none size d callee u (Passing k [] u) (record { kept = kept_self names slot named numbered u; carries = tt; before = λ j l. refl; beside = m })
  passes_ran k [] (n ∷ ns) u le r m = absurd r
  passes_ran k (x ∷ xs) [] u le r m = absurd r
  passes_ran k (x ∷ xs) (n ∷ ns) u le r m =
      ran_within size d callee (4 + 4 * length xs) (4 * length (x ∷ xs)) (pass slot k x ++ passes slot (k + 1) xs) u (Passing k (n ∷ ns) u) (Passing k (n ∷ ns) u) (omega arith) (λ u' p. p)
      (ran_append size d callee 4 (4 * length xs) (pass slot k x) (passes slot (k + 1) xs) u (Passes k n u) (Passing k (n ∷ ns) u) (pass_ran k x n u (omega (arith, le)) r.1 r.2 m)
      (λ u1 p. ran_within size d callee (4 * length xs) (4 * length xs) (passes slot (k + 1) xs) u1 (Passing (k + 1) ns u1) (Passing k (n ∷ ns) u) (omega arith)
      (λ u2 q. record {
        kept = kept_on names slot named numbered u u1 u2 p.kept q.kept;
        carries = (q.before k (omega arith) ∙ p.here, r.2, q.carries);
        before = λ j l. q.before j (omega (arith, l)) ∙ p.before j l;
        beside = q.beside;
      })
      (passes_ran (k + 1) xs ns u1 (omega (arith, le)) (reads_kept xs ns u u1 p.kept r.3) p.beside)))

  -- ---- what is fetched

  fetch_ran : (k x n : ℕ) (u : Frame) → k < 128 → has named x ≡ true → passed k u ≡ n → IsWord n → Beside u → Ran size d callee 4 (fetch slot k x) u (Put x n u)
  fetch_ran k x n u lt h e small m = by (nat_lt k 5) e
    where
      loaded : number_at B8 ((u.seen).memory).block (8 * (k - 5)) ≡ n → (w : World) → run size d callee (stack.Plain (instr.L Ld (register_of 5 x) 3 (pos (distance k)))) u w ≡ Normal (with_register u (register_of 5 x) n) (tolled 1 w)
      loaded e =
          plain_writes size d callee (instr.L Ld (register_of 5 x) 3 (pos (distance k))) (register_of 5 x) n u
          (ap (λ p. loads_at p Ld (register_of 5 x) (plus (reg u.seen 3) (pos (8 * (k - 5)))) u.seen) (block_placed names globals local u.seen m (k - 5) (omega (arith, lt)))
          ∙ ap (λ n. Runs (next (with_reg u.seen (register_of 5 x) n))) e)

      by : (b : Bool) → (if b then reg u.seen (10 + k) else number_at B8 ((u.seen).memory).block (8 * (k - 5))) ≡ n
          → Ran size d callee 4 (if b then save slot x (10 + k) ∷ [] else stack.Plain (instr.L Ld (register_of 5 x) 3 (pos (distance k))) ∷ puts slot x 5) u (Put x n u)
      by true e = ran_within size d callee 3 4 _ u (λ u'. u' ≡ home_with x n u) (Put x n u) (omega arith) (λ u' is. subst (Put x n u) (sym is) (home_put x n u h small m)) (save_ran x (10 + k) n u e small)
      by false e =
          ran_append size d callee 1 3 (stack.Plain (instr.L Ld (register_of 5 x) 3 (pos (distance k))) ∷ []) (puts slot x 5) u (λ u'. u' ≡ with_register u (register_of 5 x) n) (Put x n u)
          (ran_one size d callee 1 1 (stack.Plain (instr.L Ld (register_of 5 x) 3 (pos (distance k)))) u (with_register u (register_of 5 x) n) (λ u'. u' ≡ with_register u (register_of 5 x) n) (omega arith) (loaded e) refl)
          (λ u1 is. subst (λ u1. Ran size d callee 3 (puts slot x 5) u1 (Put x n u)) (sym is) (puts_ran x n u h small m))

  -- the variables of which P holds have their words in their homes
  abbrev pub Holds : (ℕ → Type 0) → Locals → Frame → Type 0
  Holds P v u = (x : ℕ) → has named x ≡ true → P x → (value x u ≡ Some (v x)) × IsWord (v x)

  -- variables have their words, and the room is as it was
  pub record Fetched (P : ℕ → Type 0) (v : Locals) (u u' : Frame) : Type 0 where
    pub words : Holds P v u'
    pub room : u'.room ≡ u.room
    pub beside : Beside u'

  -- each is named
  abbrev pub AreNamed : List ℕ → Type 0
  AreNamed xs = (x : ℕ) → has xs x ≡ true → has named x ≡ true

  itself : (x : ℕ) (xs : List ℕ) → has (x ∷ xs) x ≡ true
  itself x xs = grind (arith, nat_tests)

  pub has_rest : (x y : ℕ) (xs : List ℕ) → has xs y ≡ true → has (x ∷ xs) y ≡ true
  has_rest x y xs h = by (nat_eq y x)
    where
      by : (b : Bool) → (b || has xs y) ≡ true
      by true = refl
      by false = h

  -- a variable is written
  pub put_holds : (P Q : ℕ → Type 0) (x n : ℕ) (v : Locals) (u u' : Frame) → Put x n u u' → IsWord n → ((y : ℕ) → nat_eq y x ≡ false → Q y → P y) → Holds P v u → Holds Q (write x n v) u'
  put_holds P Q x n v u u' p small f h y hy l = by (nat_eq y x) refl
    where
      by : (b : Bool) → nat_eq y x ≡ b → (value y u' ≡ Some (if b then n else v y)) × IsWord (if b then n else v y)
      by true is = (ap (λ y. value y u') (let e : y ≡ x = grind (arith, nat_tests) in e) ∙ (p.written_is).here, small)
      by false is = let k = h y hy (f y is l) in ((p.written_is).others y hy is ∙ k.0, k.1)

  pub fetches_ran : (k : ℕ) (xs ns : List ℕ) (P : ℕ → Type 0) (v : Locals) (u : Frame) → k + length xs ≤ 128 → length xs ≤ length ns → AreNamed xs → Carries k ns u → Holds (λ x. (has xs x ≡ false) × P x) v u → Beside u
      → Ran size d callee (4 * length xs) (fetches slot k xs) u (Fetched P (write_all xs ns v) u)
  fetches_ran k [] ns P v u le fit hs c h m = ran_none size d callee u (Fetched P v u) (record { words = λ x hx p. h x hx (refl, p); room = refl; beside = m })
  fetches_ran k (x ∷ xs) [] P v u le fit hs c h m = absurd (omega (arith, fit))
  fetches_ran k (x ∷ xs) (n ∷ ns) P v u le fit hs c h m =
      ran_within size d callee (4 + 4 * length xs) (4 * length (x ∷ xs)) (fetch slot k x ++ fetches slot (k + 1) xs) u (Fetched P (write_all xs ns (write x n v)) u) (Fetched P (write_all xs ns (write x n v)) u) (omega arith) (λ u p. p)
      (ran_append size d callee 4 (4 * length xs) (fetch slot k x) (fetches slot (k + 1) xs) u (Put x n u) (Fetched P (write_all xs ns (write x n v)) u) (fetch_ran k x n u (omega (arith, le)) (hs x (itself x xs)) c.0 c.1 m)
      (λ u1 p. ran_within size d callee (4 * length xs) (4 * length xs) (fetches slot (k + 1) xs) u1 (Fetched P (write_all xs ns (write x n v)) u1) (Fetched P (write_all xs ns (write x n v)) u) (omega arith)
      (λ u2 q. record { words = q.words; room = q.room ∙ (p.written_is).room; beside = q.beside })
      (fetches_ran (k + 1) xs ns P (write x n v) u1 (omega (arith, le)) (omega (arith, fit)) (λ y hy. hs y (has_rest x y xs hy)) (carries_on (k + 1) ns u u1 (λ j le. (p.written_is).passing j) c.2)
      (put_holds (λ y. (has (x ∷ xs) y ≡ false) × P y) (λ y. (has xs y ≡ false) × P y) x n v u u1 p c.1 (λ y ne q. (ap (λ b. b || has xs y) ne ∙ q.0, q.1)) h) p.beside)))
