-- What is seen of the program over frames.
use Rattle.std.proofs.Common.{◌≡◌, ◌≢◌, inl, inr, ℕ, suc, ◌+◌, ◌*◌, ◌%◌, ◌^◌, ◌<◌, ◌≤◌, List, [], ◌∷◌, Option, Some, None, Bool, true, false, refl, sym, ap, ◌∙◌, subst, arith}
use Rattle.std.specs.Prelude.{◌⊎◌, nat_eq, ◌&&◌, ◌==◌, map, slice_get, option_map}
use Rattle.std.proofs.lemmas.List.{length-replicate}
use Rattle.std.proofs.lemmas.Option.{slice_get-map}
use Rattle.std.proofs.lemmas.Bool.Decides.{nat_tests}
use Rattle.pan_base.specs.Events.{Replied, Ending, Exit, Uncaught, Stopped, Asks, Spent, Stack, Fault, Fails, IsPrefix}
use Rattle.pan_base.specs.Lawful.{IsLawfulMemory, IsLawfulStack}
use Rattle.pan_control.specs.Seen.{Seen}
use Rattle.pan_control.specs.Control.{Normal, Broken, Continued, Returned, Raised, Over, world_of}
use Rattle.pan_control.specs.Runs.{exit_of, ending_of}
use Rattle.pan_control.specs.Runs as control
use Rattle.pan_stage.specs.Data.{World, Outcome, start, words_bytes}
use Rattle.pan_stage.specs.Mentions.{Arity, is_some_and}
use Rattle.pan_stage.specs.Returns.{one_word}
use Rattle.pan_stage.specs.Returns as returns
use Rattle.pan_stage.specs.Stage.{IsSeenAs, IsCutShort}
use Rattle.pan_stage.specs.WellFormed.{AreNumbers}
use Rattle.pan_stage.specs.declared.program.Program.{Program}
use Rattle.pan_stage.proofs.DataLaws.{words_bytes_length, words_are_bytes}
use Rattle.pan_stage.proofs.Follows.{beside, Stops, Cut, matched, cut, is_fails}
use Rattle.pan_stage.proofs.Paid.{Within, Exhausted}
use Rattle.riscv_isa.specs.Step.{reg}
use Rattle.machine_start.specs.Start.{started}
use Rattle.word_lang.specs.Homes.{AreOverHomes}
use Rattle.word_lang.specs.Meaning as word
use Rattle.word_lang.specs.Text.{arity}
use Rattle.word_lang.specs.WellFormed.{IsWellFormed}
use Rattle.word_lang.specs.declared.syntax.WordFun.{WordFun}
use Rattle.stack_lang.specs.Frame.{Frame, no_slots}
use Rattle.stack_lang.specs.Meaning as stack
use Rattle.stack_lang.specs.Shown.{hide}
use Rattle.stack_frames.specs.Frames.{framed_program}
use Rattle.stack_frames.proofs.Masked.{hide_hide, hidden_count, reg_hide}
use Rattle.stack_frames.proofs.Machine.{Machine, three}
use Rattle.stack_frames.proofs.Following.{view, Gives}
use Rattle.stack_frames.proofs.WordGrows.{word_calls}
use Rattle.stack_frames.proofs.Programs.{SameLeft, calls_follow}

-- the word that main leaves in x10
abbrev exit_word : Frame → Option ℕ
exit_word v = Some (reg v.seen 10 % 2 ^ 64)

-- the second over a stack of this size is seen as the first, or is cut short
abbrev pub Shown : ℕ → Seen → Seen → Type 0
Shown size a b = IsSeenAs a b ⊎ IsCutShort size a b

-- ---- the start

three_at_start : (p : Program WordFun) (m : List ℕ) (size : ℕ) → reg (started (framed_program p) m size) 3 ≡ 0x08000000
unfolding reg
three_at_start p m size = refl

machine_at_start : (p : Program WordFun) (m : List ℕ) (size : ℕ) → AreNumbers p → IsLawfulMemory m → Machine p.names (words_bytes p.globals) m (hide (started (framed_program p) m size))
machine_at_start p m size numbers lawful =
    record {
      hidden = hide_hide (started (framed_program p) m size);
      count = hidden_count (started (framed_program p) m size);
      block_at = reg_hide (started (framed_program p) m size) 3 three ∙ three_at_start p m size;
      block = length-replicate {A = ℕ} 1024 0;
      globals_are = refl;
      local_are = refl;
      names_are = refl;
      few = let e = words_bytes_length p.globals in let l = numbers.globals in omega (arith, e, l);
      small = let l = lawful.most in omega (arith, l);
      global_bytes = words_are_bytes p.globals;
      local_bytes = lawful.bytes;
    }

-- main is a function that takes nothing and returns a word
record IsMain (p : Program WordFun) : Type 0 where
  arity_is : Arity
  known : slice_get (map arity p.functions) p.main ≡ Some arity_is
  takes : arity_is.parameters ≡ 0
  gives : arity_is.results ≡ 1

is_main : (p : Program WordFun) → is_some_and (λ (f : WordFun). (arity f).parameters == 0 && (arity f).results == 1) (slice_get p.functions p.main) ≡ true → IsMain p
is_main p = by (slice_get p.functions p.main) refl
  where
    by : (o : Option WordFun) → slice_get p.functions p.main ≡ o → is_some_and (λ (f : WordFun). (arity f).parameters == 0 && (arity f).results == 1) o ≡ true → IsMain p
    by None e h = absurd (cc h)
    by (Some f) e h = two (nat_eq (arity f).parameters 0) (nat_eq (arity f).results 1) refl refl h
      where
        two : (a b : Bool) → nat_eq (arity f).parameters 0 ≡ a → nat_eq (arity f).results 1 ≡ b → (a && b) ≡ true → IsMain p
        two true true k l h = record { arity_is = arity f; known = slice_get-map arity p.functions p.main ∙ ap (λ o. option_map arity o) e; takes = grind (arith, nat_tests); gives = grind (arith, nat_tests) }
        two true false k l h = absurd (cc h)
        two false b k l h = absurd (cc h)

-- ---- the end

module _ (p : Program WordFun) (formed : IsWellFormed p) (homes : AreOverHomes p) (total : ℕ) where
  abbrev seen : Outcome (Unit {0}) (List ℕ) → Seen
  seen o = returns.seen o

  abbrev seen' : stack.Outcome (Unit {0}) Frame → Seen
  seen' o = control.seen exit_word o

  ended : (e : Ending) (w : World) (o' : stack.Outcome (Unit {0}) Frame) → Stops view (λ w t. Within 1 0 t w) e w o' → Shown total (seen (Over e w)) (seen' o')
  ended e w o' s = subst (λ o. Shown total (seen (Over e w)) (seen' o)) (sym s.is) (let h = s.holds in inl (record { behaviour = refl; deepest = refl; toll = omega (arith, h) }))

  returned : (ns : List ℕ) (w : World) (y : Frame) (t : ℕ) → Gives p.names 1 ns w y → t + 0 ≤ 1 * w.toll → exit_of (one_word ns) ≢ Fails → Shown total (seen (Returned ns w)) (seen' (Returned y (beside view t w)))
  returned [] w y t g le h = absurd (h refl)
  returned (n ∷ []) w y t g le h =
      let cs = (g.carried).carries in
      inl (record { behaviour = ap (λ k. record { events = w.trace; ending = Exit k }) (exits (reg y.seen 10) cs.0 cs.1); deepest = refl; toll = omega (arith, le) })
    where
      exits : (k : ℕ) → k ≡ n → n < 2 ^ 64 → k % 2 ^ 64 ≡ n
      exits k e l = omega (arith, e, l)
  returned (n ∷ m ∷ ns) w y t g le h = absurd (h refl)

  -- from what mains leave to what is seen of programs
  seen_left : (o : Outcome (Unit {0}) (List ℕ)) (o' : stack.Outcome (Unit {0}) Frame) → SameLeft p formed homes total 1 0 o o' → ending_of one_word o ≢ Fails → Shown total (seen o) (seen' o')
  seen_left o o' (cut k) h = inr (record { ends = ap (λ o. ((seen' o).behaviour).ending) k.is; deeper = (k.holds).deeper; front = prefix k; toll = lower k })
    where
      prefix : Cut (Exhausted total 1) (world_of o) o' → IsPrefix ((seen' o').behaviour).events (world_of o).trace
      prefix k = subst (λ x. IsPrefix (world_of x).trace (world_of o).trace) (sym k.is) (k.holds).front

      lower : Cut (Exhausted total 1) (world_of o) o' → (seen' o').toll ≤ (seen o).toll
      lower k = subst (λ x. (world_of x).toll ≤ (world_of o).toll) (sym k.is) (let l = (k.holds).toll in omega (arith, l))
  seen_left (Normal v w) o' (matched s) h = absurd (h refl)
  seen_left (Broken v w) o' (matched s) h = absurd (h refl)
  seen_left (Continued v w) o' (matched s) h = absurd (h refl)
  seen_left (Returned ns w) o' (matched s) h = subst (λ o. Shown total (seen (Returned ns w)) (seen' o)) (sym s.is) (returned ns w s.second s.toll (s.holds).0 (s.holds).1 h)
  seen_left (Raised i ns w) o' (matched s) h =
      subst (λ o. Shown total (seen (Raised i ns w)) (seen' o)) (sym s.is) (let l = (s.holds).1 in inl (record { behaviour = refl; deepest = refl; toll = omega (arith, l) }))
  seen_left (Over e w) o' (matched s) h = by e s h
    where
      by : (e : Ending) → (is_fails e ≡ false → Stops view (λ w t. Within 1 0 t w) e w o') → e ≢ Fails → Shown total (seen (Over e w)) (seen' o')
      by Fails s h = absurd (h refl)
      by (Exit n) s h = ended (Exit n) w o' (s refl)
      by (Uncaught n) s h = ended (Uncaught n) w o' (s refl)
      by (Stopped q) s h = ended (Stopped q) w o' (s refl)
      by (Asks q) s h = ended (Asks q) w o' (s refl)
      by Spent s h = ended Spent w o' (s refl)
      by Stack s h = ended Stack w o' (s refl)
      by Fault s h = ended Fault w o' (s refl)

pub frames_seen : (p : Program WordFun) → IsWellFormed p → AreOverHomes p → (size : ℕ) (m : List ℕ) (r : List Replied) (n : ℕ) → IsLawfulStack size → IsLawfulMemory m → ((word.meaning p m r n).behaviour).ending ≢ Fails
    → Shown size (word.meaning p m r n) (stack.meaning (framed_program p) size m r n)
frames_seen p formed homes size m r n stack_lawful lawful h =
    let main = is_main p (formed.counts).main in
    let o = word_calls p (suc n) p.main [] (start p.globals m r n) in
    let o' = stack.main_leaves (framed_program p) size m r n in
    seen_left p formed homes size o o'
    (subst (λ k. SameLeft p formed homes size k 0 o o') main.gives
    (calls_follow p formed homes size (suc n) 0 p.main main.arity_is main.known [] (start p.globals m r n) (record { seen = hide (started (framed_program p) m size); slots = no_slots; room = size }) 9 (sym main.takes)
    (record { carried = record { carries = tt; machine = machine_at_start p m size (formed.counts).numbers lawful }; budget = omega arith }, omega arith))) h
