-- Statements that ask the outside: the code of a frame asks the same, and takes the same replies.
use Rattle.std.proofs.Common.{◌≡◌, ℕ, ◌+◌, ◌*◌, ◌%◌, ◌^◌, ◌<◌, ◌≤◌, List, [], ◌∷◌, ◌++◌, Bool, true, false, refl, sym, ap, ◌∙◌, subst, arith}
use Rattle.std.specs.Prelude.{ℤ, nat_eq}
use Rattle.std.proofs.lemmas.Bool.Decides.{nat_tests}
use Rattle.pan_base.specs.declared.events.Size.{Size}
use Rattle.pan_base.specs.declared.events.Size.TheVariants.{B1, B2, B4, B8}
use Rattle.pan_base.specs.Events.{Asked, Replied, Event, Load, Store, Value, Done, Bytes, Stop, Asks, Stopped, fits, byte_count}
use Rattle.pan_base.specs.Results.{plus, l_result, loads}
use Rattle.pan_base.specs.Words.{IsWord}
use Rattle.pan_control.specs.World.{World as WorldOf, tolled}
use Rattle.pan_control.specs.Memory.{is_shared}
use Rattle.pan_control.specs.Control.{Outcome as OutcomeOf, Normal, and_then, where_true, ask_fit, ask_of, ask}
use Rattle.pan_control.specs.Runs.{number}
use Rattle.pan_flow.specs.Flow.{has}
use Rattle.pan_stage.specs.Data.{World, Outcome}
use Rattle.pan_stage.specs.Locals.{Locals, write}
use Rattle.pan_stage.specs.Shared.{with_loaded, with_stored}
use Rattle.pan_stage.specs.Toll.{stepped}
use Rattle.pan_stage.proofs.Follows.{beside, Ends, Same, matched, failed, over, same_as}
use Rattle.pan_stage.proofs.Paid.{Within}
use Rattle.riscv_isa.specs.declared.pending.Pending.TheVariants as pending
use Rattle.riscv_isa.specs.declared.place.Place.TheVariants as place
use Rattle.riscv_isa.specs.Regions.{Memory, with_bytes, is_in}
use Rattle.riscv_isa.specs.Regions as machine
use Rattle.riscv_isa.specs.Step.{State, Waits, reg, next, act, load as load_at, store as store_at, loaded}
use Rattle.riscv_isa.proofs.Places.{in_window}
use Rattle.stack_lang.specs.Frame.{Frame, with_register}
use Rattle.stack_lang.specs.Shown.{hide, zero_extending, load_of, store_of}
use Rattle.stack_lang.specs.Meaning.{asked}
use Rattle.stack_lang.specs.declared.syntax.Stmt.{Stmt}
use Rattle.stack_lang.specs.declared.syntax.Stmt.TheVariants as s
use Rattle.stack_lang.specs.declared.syntax.Stmt.TheOpen as o_s
use Rattle.stack_frames.specs.Frames.{register_of, gets, puts}
use Rattle.stack_frames.proofs.Machine.{Machine, are_apart}
use Rattle.stack_frames.proofs.Homes.{spare_5}
use Rattle.stack_frames.proofs.Rows.{stack_at}
use Rattle.stack_frames.proofs.Moves.{Got, gets_ran, puts_ran, put_on}
use Rattle.stack_frames.proofs.Operations.{Both, both_ran}
use Rattle.stack_frames.proofs.Following.{view, StackWorld, Setting, PutIn, code, does, Held, ends, SameAt, kept_held, put_held, after_code, code_ends, in_sequence, last}

-- ---- replies that fit

module _ {G G' V U X Y : Type 0} (r : Ends G G' V U X Y) where
  -- after a reply that fits the world has other replies and a longer trace
  abbrev pub Fitting : Asked → WorldOf G → (Replied → WorldOf G → OutcomeOf G V X) → ℕ → (Replied → WorldOf G' → OutcomeOf G' U Y) → Type 0
  Fitting q w go t go' =
      (a : Replied) (rs : List Replied) (es : List Event) → fits q a ≡ true → Same r (go a (record w { replies = rs; trace = es })) (go' a (beside r.view t (record w { replies = rs; trace = es })))

  fit_same : (b : Bool) (q : Asked) (a : Replied) (w : WorldOf G) (t : ℕ) (rs : List Replied) (go : Replied → WorldOf G → OutcomeOf G V X) (go' : Replied → WorldOf G' → OutcomeOf G' U Y) → r.stopped w t → fits q a ≡ b → Fitting q w go t go' → Same r (ask_fit b q a w rs go) (ask_fit b q a (beside r.view t w) rs go')
  fit_same false q a w t rs go go' s e h = over r (Stopped q) w t s
  fit_same true q a w t rs go go' s e h = h a rs _ e

  ask_of_fits : (rs : List Replied) (q : Asked) (w : WorldOf G) (t : ℕ) (go : Replied → WorldOf G → OutcomeOf G V X) (go' : Replied → WorldOf G' → OutcomeOf G' U Y) → r.stopped w t → Fitting q w go t go' → Same r (ask_of rs q w go) (ask_of rs q (beside r.view t w) go')
  ask_of_fits [] q w t go go' s h = over r (Asks q) w t s
  ask_of_fits (a ∷ rs) q w t go go' s h = fit_same (fits q a) q a w t rs go go' s refl h

  pub ask_fits : (q : Asked) (w : WorldOf G) (t : ℕ) (go : Replied → WorldOf G → OutcomeOf G V X) (go' : Replied → WorldOf G' → OutcomeOf G' U Y) → r.stopped w t → Fitting q w go t go' → Same r (ask q w go) (ask q (beside r.view t w) go')
  ask_fits q w t go go' s h = ask_of_fits w.replies q w t go go' s h

-- what follows a request follows each reply
ask_then : {G V X : Type 0} (q : Asked) (w : WorldOf G) (go : Replied → WorldOf G → OutcomeOf G V X) (f : V → WorldOf G → OutcomeOf G V X) → and_then (ask q w go) f ≡ ask q w (λ r w. and_then (go r w) f)
ask_then {G} {V} {X} q w go f = by w.replies
  where
    fit : (b : Bool) (a : Replied) (rs : List Replied) → and_then (ask_fit b q a w rs go) f ≡ ask_fit b q a w rs (λ r w. and_then (go r w) f)
    fit false a rs = refl
    fit true a rs = refl

    by : (rs : List Replied) → and_then (ask_of rs q w go) f ≡ ask_of rs q w (λ r w. and_then (go r w) f)
    by [] = refl
    by (a ∷ rs) = fit (fits q a) a rs

-- ---- the machine asks

some_bytes : (size : Size) → 0 < byte_count size
some_bytes B1 = omega arith
some_bytes B2 = omega arith
some_bytes B4 = omega arith
some_bytes B8 = omega arith

value_is_word : (size : Size) (n : ℕ) → n < 2 ^ (8 * byte_count size) → IsWord n
value_is_word B1 n l = omega (arith, l)
value_is_word B2 n l = omega (arith, l)
value_is_word B4 n l = omega (arith, l)
value_is_word B8 n l = l

in_the_window : (names : List (List ℕ)) (globals local : List ℕ) (t : State) (m : Machine names globals local t) (size : Size) (addr : ℕ) → is_shared size addr ≡ true → machine.place_of t.memory addr (byte_count size) ≡ place.Window
in_the_window names globals local t m size addr h =
    in_window t.memory addr (byte_count size) (are_apart names globals local t m) (some_bytes size) (grind (arith, nat_tests)) (grind (arith, nat_tests)) (grind (arith, nat_tests))

load_waits : (size : Size) (rd rs1 : ℕ) (imm : ℤ) (addr : ℕ) (t : State) → plus (reg t rs1) imm ≡ addr → machine.place_of t.memory addr (byte_count size) ≡ place.Window → act (load_of size rd rs1 imm) t ≡ Waits (pending.Load (zero_extending size) rd addr) (next t)
load_waits B1 rd rs1 imm addr t e w = ap (λ addr. load_at (machine.place_of t.memory addr 1) (zero_extending B1) rd addr t) e ∙ ap (λ p. load_at p (zero_extending B1) rd addr t) w
load_waits B2 rd rs1 imm addr t e w = ap (λ addr. load_at (machine.place_of t.memory addr 2) (zero_extending B2) rd addr t) e ∙ ap (λ p. load_at p (zero_extending B2) rd addr t) w
load_waits B4 rd rs1 imm addr t e w = ap (λ addr. load_at (machine.place_of t.memory addr 4) (zero_extending B4) rd addr t) e ∙ ap (λ p. load_at p (zero_extending B4) rd addr t) w
load_waits B8 rd rs1 imm addr t e w = ap (λ addr. load_at (machine.place_of t.memory addr 8) (zero_extending B8) rd addr t) e ∙ ap (λ p. load_at p (zero_extending B8) rd addr t) w

size_loaded : (size : Size) → loads (zero_extending size) ≡ size
size_loaded B1 = refl
size_loaded B2 = refl
size_loaded B4 = refl
size_loaded B8 = refl

same_loaded : (size : Size) (n : ℕ) → l_result (zero_extending size) n ≡ n
same_loaded B1 n = refl
same_loaded B2 n = refl
same_loaded B4 n = refl
same_loaded B8 n = refl

store_waits : (size : Size) (rs1 rs2 : ℕ) (imm : ℤ) (addr n : ℕ) (t : State) → plus (reg t rs1) imm ≡ addr → reg t rs2 ≡ n → machine.place_of t.memory addr (byte_count size) ≡ place.Window
    → act (store_of size rs1 rs2 imm) t ≡ Waits (pending.Store size addr (n % 2 ^ (8 * byte_count size))) (next t)
store_waits B1 rs1 rs2 imm addr n t e f w = ap (λ addr. store_at (machine.place_of t.memory addr 1) B1 addr (reg t rs2) t) e ∙ ap (λ n. store_at (machine.place_of t.memory addr 1) B1 addr n t) f ∙ ap (λ p. store_at p B1 addr n t) w
store_waits B2 rs1 rs2 imm addr n t e f w = ap (λ addr. store_at (machine.place_of t.memory addr 2) B2 addr (reg t rs2) t) e ∙ ap (λ n. store_at (machine.place_of t.memory addr 2) B2 addr n t) f ∙ ap (λ p. store_at p B2 addr n t) w
store_waits B4 rs1 rs2 imm addr n t e f w = ap (λ addr. store_at (machine.place_of t.memory addr 4) B4 addr (reg t rs2) t) e ∙ ap (λ n. store_at (machine.place_of t.memory addr 4) B4 addr n t) f ∙ ap (λ p. store_at p B4 addr n t) w
store_waits B8 rs1 rs2 imm addr n t e f w = ap (λ addr. store_at (machine.place_of t.memory addr 8) B8 addr (reg t rs2) t) e ∙ ap (λ n. store_at (machine.place_of t.memory addr 8) B8 addr n t) f ∙ ap (λ p. store_at p B8 addr n t) w

module _ (at : Setting) where
  abbrev of : ℕ → ℕ → ℕ
  of = register_of

  -- ---- the shared window

  load_asks : (size : Size) (rd rs1 : ℕ) (imm : ℤ) (addr : ℕ) (u : Frame) (w : StackWorld) → plus (reg u.seen rs1) imm ≡ addr → machine.place_of (u.seen).memory addr (byte_count size) ≡ place.Window
      → does at (s.SharedLoad size rd rs1 imm) u w ≡ ask (Load size addr) (tolled 1 w) (λ r w. Normal (record u { seen = hide (loaded (zero_extending size) rd (next u.seen) r) }) w)
  load_asks size rd rs1 imm addr u w e p =
      stack_at at.size at.turns at.stack_callee (o_s.SharedLoad size rd rs1 imm) (s.SharedLoad size rd rs1 imm) (s.rolls-SharedLoad size rd rs1 imm) u w
      ∙ ap (λ c. asked u c (tolled 1 w)) (load_waits size rd rs1 imm addr u.seen e p)
      ∙ ap (λ size'. ask (Load size' addr) (tolled 1 w) (λ r w. Normal (record u { seen = hide (loaded (zero_extending size) rd (next u.seen) r) }) w)) (size_loaded size)

  module _ (N B C L : ℕ → Type 0) (c : ℕ) where
    pub shared_load_same : (size : Size) (x a : ℕ) (imm : ℤ) (v : Locals) (w : World) (u : Frame) (t : ℕ) → has at.named x ≡ true → has at.named a ≡ true → L a → ((y : ℕ) → nat_eq y x ≡ false → N y → L y) → Held at L v w u → Within 1 c t w
        → SameAt at N B C c (with_loaded size (plus (v a) imm) (stepped 1 w) (λ n w. Normal (write x n v) w)) (does at (s.Seq (gets at.slot 5 a ++ s.SharedLoad size (of 5 x) (of 5 a) imm ∷ puts at.slot x 5)) u (beside view t w))
    shared_load_same size x a imm v w u t hx ha la f r le = by (is_shared size addr) refl
      where
        addr : ℕ
        addr = plus (v a) imm

        w1 : World
        w1 = stepped 1 w

        row : List Stmt
        row = s.SharedLoad size (of 5 x) (of 5 a) imm ∷ puts at.slot x 5

        go : Replied → World → Outcome Locals (List ℕ)
        go a w = Normal (write x (number a) v) w

        -- after a reply
        replied : (u1 : Frame) (t1 : ℕ) → Got at.names at.slot at.named at.numbered w.globals w.memory at.size at.turns at.stack_callee 5 a (v a) u u1 → t1 ≤ t + 3 → (reply : Replied) (rs : List Replied) (es : List Event) → fits (Load size addr) reply ≡ true
            → SameAt at N B C c (go reply (record w1 { replies = rs; trace = es })) (code at (puts at.slot x 5) (record u1 { seen = hide (loaded (zero_extending size) (of 5 x) (next u1.seen) reply) }) (beside view (t1 + 1) (record w1 { replies = rs; trace = es })))
        replied u1 t1 g lt (Value n) rs es fit =
            let w2 : World = record w1 { replies = rs; trace = es } in
            let small : IsWord n = value_is_word size n (grind (arith, nat_tests)) in
            same_as (ends at N B C c) _ _ (code at (puts at.slot x 5) (with_register u1 (of 5 x) n) (beside view (t1 + 1) w2)) (ap (λ n. code at (puts at.slot x 5) (with_register u1 (of 5 x) n) (beside view (t1 + 1) w2)) (same_loaded size n))
            (code_ends at N B C c 3 (puts at.slot x 5) (write x n v) w2 w2 (with_register u1 (of 5 x) n) (t1 + 1) (PutIn at w.globals w.memory x n u1)
            (puts_ran at.names at.slot at.named at.numbered w.globals w.memory at.size at.turns at.stack_callee x n u1 hx small g.beside)
            (λ u2 p. put_held at L N x n v w w2 u u2 (put_on at.names at.slot at.named at.numbered w.globals w.memory at.size at.turns at.stack_callee x n u u1 u2 g.kept g.passing p) small f refl refl r)
            (omega (arith, le, lt)) (λ t. refl))
        replied u1 t1 g lt Done rs es fit = absurd (cc fit)
        replied u1 t1 g lt (Bytes bytes) rs es fit = absurd (cc fit)
        replied u1 t1 g lt Stop rs es fit = absurd (cc fit)

        by : (b : Bool) → is_shared size addr ≡ b → SameAt at N B C c (where_true b w1 (ask (Load size addr) w1 go)) (does at (s.Seq (gets at.slot 5 a ++ row)) u (beside view t w))
        by false is = failed (ends at N B C c) w1 _
        by true is =
            in_sequence at N B C c _ (gets at.slot 5 a ++ row) u (beside view t w)
            (after_code at N B C c 3 (gets at.slot 5 a) row _ w u t _ (gets_ran at.names at.slot at.named at.numbered w.globals w.memory at.size at.turns at.stack_callee 5 a (v a) u spare_5 (omega arith) (r.words a ha la).0 r.machine)
            (λ u1 t1 g lt.
            let m = g.beside in
            same_as (ends at N B C c) _ _ (ask (Load size addr) (beside view (t1 + 1) w1) (λ r w. code at (puts at.slot x 5) (record u1 { seen = hide (loaded (zero_extending size) (of 5 x) (next u1.seen) r) }) w))
            (ap (λ o. and_then o (code at (puts at.slot x 5))) (load_asks size (of 5 x) (of 5 a) imm addr u1 (beside view t1 w) (ap (λ n. plus n imm) g.value_is) (in_the_window at.names w.globals w.memory u1.seen m size addr is))
            ∙ ask_then (Load size addr) (beside view (t1 + 1) w1) (λ r w. Normal (record u1 { seen = hide (loaded (zero_extending size) (of 5 x) (next u1.seen) r) }) w) (code at (puts at.slot x 5)))
            (ask_fits (ends at N B C c) (Load size addr) w1 (t1 + 1) go (λ r w. code at (puts at.slot x 5) (record u1 { seen = hide (loaded (zero_extending size) (of 5 x) (next u1.seen) r) }) w)
            (omega (arith, le, lt)) (replied u1 t1 g lt))))

    pub shared_store_same : (size : Size) (x a : ℕ) (imm : ℤ) (v : Locals) (w : World) (u : Frame) (t : ℕ) → has at.named x ≡ true → has at.named a ≡ true → L x → L a → ((y : ℕ) → N y → L y) → Held at L v w u → Within 1 c t w
        → SameAt at N B C c (with_stored size (plus (v a) imm) (v x) (stepped 1 w) (λ w. Normal v w)) (does at (s.Seq ((gets at.slot 5 a ++ gets at.slot 6 x) ++ s.SharedStore size (of 5 a) (of 6 x) imm ∷ [])) u (beside view t w))
    shared_store_same size x a imm v w u t hx ha lx la f r le = by (is_shared size addr) refl
      where
        addr : ℕ
        addr = plus (v a) imm

        w1 : World
        w1 = stepped 1 w

        q : Asked
        q = Store size addr (v x % 2 ^ (8 * byte_count size))

        row : List Stmt
        row = s.SharedStore size (of 5 a) (of 6 x) imm ∷ []

        BothOf : Frame → Type 0
        BothOf = Both at.names at.slot at.named at.numbered w.globals w.memory at.size at.turns at.stack_callee a x (v a) (v x) u

        store_asks : (u1 : Frame) (w : StackWorld) → BothOf u1 → machine.place_of (u1.seen).memory addr (byte_count size) ≡ place.Window → does at (s.SharedStore size (of 5 a) (of 6 x) imm) u1 w ≡ ask q (tolled 1 w) (λ r w. Normal (record u1 { seen = hide u1.seen }) w)
        store_asks u1 w g p =
            stack_at at.size at.turns at.stack_callee (o_s.SharedStore size (of 5 a) (of 6 x) imm) (s.SharedStore size (of 5 a) (of 6 x) imm) (s.rolls-SharedStore size (of 5 a) (of 6 x) imm) u1 w
            ∙ ap (λ c. asked u1 c (tolled 1 w)) (store_waits size (of 5 a) (of 6 x) imm addr (v x) u1.seen (ap (λ n. plus n imm) g.first) g.second p)

        held : (u1 : Frame) → BothOf u1 → (w2 : World) → w2.globals ≡ w.globals → w2.memory ≡ w.memory → w2.active ≡ w.active → w2.own ≡ w.own → Held at N v w2 (record u1 { seen = hide u1.seen })
        held u1 g w2 eg em ea eo =
            let m : Machine at.names w2.globals w2.memory u1.seen = subst (λ g. Machine at.names g w2.memory u1.seen) (sym eg) (subst (λ m. Machine at.names w.globals m u1.seen) (sym em) g.beside) in
            subst (λ z. Held at N v w2 (record u1 { seen = z })) (sym m.hidden) (kept_held at L N v w w2 u u1 f g.kept m ea eo r)

        by : (b : Bool) → is_shared size addr ≡ b → SameAt at N B C c (where_true b w1 (ask q w1 (λ r w. Normal v w))) (does at (s.Seq ((gets at.slot 5 a ++ gets at.slot 6 x) ++ row)) u (beside view t w))
        by false is = failed (ends at N B C c) w1 _
        by true is =
            in_sequence at N B C c _ ((gets at.slot 5 a ++ gets at.slot 6 x) ++ row) u (beside view t w)
            (after_code at N B C c 6 (gets at.slot 5 a ++ gets at.slot 6 x) row _ w u t BothOf
            (both_ran at.names at.slot at.named at.numbered w.globals w.memory at.size at.turns at.stack_callee a x (v a) (v x) u ha hx (r.words a ha la).0 (r.words x hx lx).0 r.machine)
            (λ u1 t1 g lt.
            let m = g.beside in
            last at N B C c _ (s.SharedStore size (of 5 a) (of 6 x) imm) u1 (beside view t1 w) (ask q (beside view (t1 + 1) w1) (λ r w. Normal (record u1 { seen = hide u1.seen }) w))
            (store_asks u1 (beside view t1 w) g (in_the_window at.names w.globals w.memory u1.seen m size addr is))
            (ask_fits (ends at N B C c) q w1 (t1 + 1) (λ r w. Normal v w) (λ r w. Normal (record u1 { seen = hide u1.seen }) w) (omega (arith, le, lt))
            (λ reply rs es fit.
            let w2 : World = record w1 { replies = rs; trace = es } in
            matched (record { second = record u1 { seen = hide u1.seen }; toll = t1 + 1; holds = (held u1 g w2 refl refl refl refl, omega (arith, le, lt)); is = refl })))))
