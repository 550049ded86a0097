-- The machine takes its replies in order.
use Rattle.std.proofs.Common.{◌≡◌, ◌≢◌, ℕ, zero, suc, ◌==◌, ◌%◌, ◌/◌, ◌*◌, refl, ap, subst, List, [], ◌∷◌, ◌++◌, Option, Some, None, Bool, true, false}
use Rattle.std.specs.Prelude.{if◌then◌else◌, nat_lt, ◌&&◌, length}
use Rattle.pan_base.specs.declared.events.Size.{Size}
use Rattle.pan_base.specs.declared.operators.LOp.{LOp}
use Rattle.pan_base.specs.Events.{Asked, Replied, Ending, Exit, Uncaught, Stopped, Asks, Spent, Stack, Fault, Fails, Behaviour, only, before, byte_count, fits}
use Rattle.riscv_isa.specs.declared.instr.Instr.{Instr}
use Rattle.riscv_isa.specs.declared.instr.Instr.TheVariants as instr
use Rattle.riscv_isa.specs.declared.place.Place.{Place}
use Rattle.riscv_isa.specs.declared.place.Place.TheVariants as place
use Rattle.riscv_isa.specs.declared.place.Region.TheVariants as region
use Rattle.riscv_isa.specs.Regions.{is_in, place_of}
use Rattle.pan_base.specs.Results.{loads, stores, plus}
use Rattle.pan_base.specs.Words.{compare}
use Rattle.riscv_isa.specs.Step.{State, Config, act, act_some, decoded_some, ended, fetched, foreign, jump, linked, load, reg, request_of, resumed, step, store}
use Rattle.riscv_isa.specs.Running as running
use Rattle.riscv_isa.specs.Running.{Runs, Waits, Over, taken}
use Rattle.riscv_isa.specs.Image.{ImageParts}
use Rattle.riscv_isa.specs.Machine.{continue, run, booted, machine}
use Rattle.pan_tree.specs.GoesOn.{AnsweredBy}
use Rattle.pan_tree.specs.InOrder.{Left, Uses, TakesInOrder}

-- ---- a step ends the machine in no way that a reply would

abbrev IsOwn : Ending → Type 0
IsOwn (Exit n) = Unit {0}
IsOwn (Uncaught n) = Unit {0}
IsOwn (Stopped q) = ⊥
IsOwn (Asks q) = ⊥
IsOwn Spent = Unit {0}
IsOwn Stack = Unit {0}
IsOwn Fault = Unit {0}
IsOwn Fails = Unit {0}

abbrev EndsOwn : Config → Type 0
EndsOwn (Runs s) = Unit {0}
EndsOwn (Waits p s) = Unit {0}
EndsOwn (Over e) = IsOwn e

own_either : (b : Bool) (c d : Config) → EndsOwn c → EndsOwn d → EndsOwn (if b then c else d)
own_either true c d h k = h
own_either false c d h k = k

own_end : (b : Bool) (e f : Ending) → IsOwn e → IsOwn f → IsOwn (if b then e else f)
own_end true e f h k = h
own_end false e f h k = k

own_jump : (target : ℕ) (s : State) → EndsOwn (jump target s)
own_jump target s = own_either (target % 4 == 0) _ _ tt tt

own_load : (p : Place) (op : LOp) (rd addr : ℕ) (s : State) → EndsOwn (load p op rd addr s)
own_load (place.In region at) op rd addr s = tt
own_load place.Window op rd addr s = tt
own_load place.Nowhere op rd addr s = tt

own_store : (p : Place) (size : Size) (addr value : ℕ) (s : State) → EndsOwn (store p size addr value s)
own_store (place.In region at) size addr value s = tt
own_store place.Window size addr value s = tt
own_store place.Nowhere size addr value s = tt

own_ended : (kind value : ℕ) → IsOwn (ended kind value)
own_ended kind value = own_end (kind == 0) _ _ tt (own_end (kind == 1) _ _ tt (own_end (kind == 2) _ _ tt tt))

own_foreign : (s : State) → EndsOwn (foreign s)
own_foreign s = own_either (nat_lt (reg s 14) (length s.names) && is_in region.Local s.memory (reg s 10) (reg s 11) && is_in region.Local s.memory (reg s 12) (reg s 13)) _ _ tt tt

own_ecall : (call kind value : ℕ) (s : State) → EndsOwn (if call == 0 then Over (ended kind value) else (if call == 1 then foreign s else Over Fault))
own_ecall call kind value s = own_either (call == 0) _ _ (own_ended kind value) (own_either (call == 1) _ _ (own_foreign s) tt)

own_act : (i : Instr) (s : State) → EndsOwn (act i s)
own_act (instr.R op rd rs1 rs2) s = tt
own_act (instr.I op rd rs1 imm) s = tt
own_act (instr.Sh op rd rs1 amount) s = tt
own_act (instr.U op rd high) s = tt
own_act (instr.L op rd rs1 imm) s = own_load (place_of s.memory (plus (reg s rs1) imm) (byte_count (loads op))) op rd (plus (reg s rs1) imm) s
own_act (instr.S op rs1 rs2 imm) s = own_store (place_of s.memory (plus (reg s rs1) imm) (byte_count (stores op))) (stores op) (plus (reg s rs1) imm) (reg s rs2) s
own_act (instr.B op rs1 rs2 imm) s = own_either (compare op (reg s rs1) (reg s rs2)) _ _ (own_jump (plus s.pc imm) s) tt
own_act (instr.Jal rd imm) s = own_jump (plus s.pc imm) (linked rd s)
own_act (instr.Jalr rd rs1 imm) s = own_jump (plus (reg s rs1) imm / 2 * 2) (linked rd s)
own_act (instr.Fence high rd) s = tt
own_act instr.Ecall s = own_ecall (reg s 17) (reg s 10) (reg s 11) s
own_act instr.Ebreak s = tt

own_some : (i : Option Instr) (s : State) → EndsOwn (act_some i s)
own_some None s = tt
own_some (Some i) s = own_act i s

own_step : (s : State) → EndsOwn (step s)
unfolding step
own_step s = own_some (decoded_some (fetched s)) s

-- ---- what is used

own_leaves : (e : Ending) (rest : List Replied) → IsOwn e → Left e rest
own_leaves (Exit n) rest h = tt
own_leaves (Uncaught n) rest h = tt
own_leaves (Stopped q) rest h = absurd h
own_leaves (Asks q) rest h = absurd h
own_leaves Spent rest h = tt
own_leaves Stack rest h = tt
own_leaves Fault rest h = tt
own_leaves Fails rest h = tt

uses_taken : (t : Bool) (q : Asked) (r : Replied) (replies : List Replied) (b : Behaviour) → Uses replies b → Uses (r ∷ replies) (taken t q r b)
uses_taken true q r replies b u = record { left = u.left; all = ap (λ l. r ∷ l) u.all; ends = u.ends }
uses_taken false q r replies b u = record { left = r ∷ replies; all = refl; ends = (r, replies, refl) }

uses_on : (c : Config) (f : State → List Replied → Behaviour) → EndsOwn c → ((s : State) (replies : List Replied) → Uses replies (f s replies)) → (replies : List Replied) → Uses replies (continue c f replies)
uses_on (Runs s) f own u replies = u s replies
uses_on (Over e) f own u replies = record { left = replies; all = refl; ends = own_leaves e replies own }
uses_on (Waits p s) f own u [] = record { left = []; all = refl; ends = refl }
uses_on (Waits p s) f own u (r ∷ replies) = uses_taken (fits (request_of p s) r) (request_of p s) r replies _ (u (resumed p s r) replies)

uses : (k : ℕ) (s : State) (replies : List Replied) → Uses replies (run k s replies)
unfolding running.run
uses zero s replies = record { left = replies; all = refl; ends = tt }
uses (suc k) s replies = uses_on (step s) (run k) (own_step s) (λ t rs. uses k t rs) replies

-- ---- what stands behind the replies that are used

abbrev NeverAsks : Behaviour → Type 0
NeverAsks b = (q : Asked) → b.ending ≢ Asks q

taken_stays : (t : Bool) (q : Asked) (r : Replied) (a b : Behaviour) → (NeverAsks a → b ≡ a) → NeverAsks (taken t q r a) → taken t q r b ≡ taken t q r a
taken_stays true q r a b h never = ap (before q r) (h never)
taken_stays false q r a b h never = refl

stays_on : (c : Config) (f : State → List Replied → Behaviour) → ((s : State) (replies later : List Replied) → NeverAsks (f s replies) → f s (replies ++ later) ≡ f s replies)
    → (replies later : List Replied) → NeverAsks (continue c f replies) → continue c f (replies ++ later) ≡ continue c f replies
stays_on (Runs s) f h replies later never = h s replies later never
stays_on (Over e) f h replies later never = refl
stays_on (Waits p s) f h [] later never = absurd (never (request_of p s) refl)
stays_on (Waits p s) f h (r ∷ replies) later never = taken_stays (fits (request_of p s) r) (request_of p s) r _ _ (h (resumed p s r) replies later) never

stays : (k : ℕ) (s : State) (replies later : List Replied) → NeverAsks (run k s replies) → run k s (replies ++ later) ≡ run k s replies
unfolding running.run
stays zero s replies later never = refl
stays (suc k) s replies later never = stays_on (step s) (run k) (λ t rs more h. stays k t rs more h) replies later never

-- ---- a next reply is the answer to the open request

pub same_request : {q r : Asked} → Asks q ≡ Asks r → q ≡ r
same_request {q} {r} e = ap (λ (x : Ending). asked_of x) e
  where
    asked_of : Ending → Asked
    asked_of (Exit n) = q
    asked_of (Uncaught n) = q
    asked_of (Stopped x) = q
    asked_of (Asks x) = x
    asked_of Spent = q
    asked_of Stack = q
    asked_of Fault = q
    asked_of Fails = q

answered_now : (t : Bool) (q : Asked) (r : Replied) (b : Behaviour) → AnsweredBy t q r (only (Asks q)) (taken t q r b)
answered_now true q r b = record { rest = b.events; all = refl }
answered_now false q r b = refl

answered_before : (t : Bool) (q : Asked) (r : Replied) (q' : Asked) (r' : Replied) (a b : Behaviour) → AnsweredBy t q r a b → AnsweredBy t q r (before q' r' a) (before q' r' b)
answered_before true q r q' r' a b h = record { rest = h.rest; all = ap (λ es. record { request = q'; reply = r' } ∷ es) h.all }
answered_before false q r q' r' a b h = ap (before q' r') h

-- a run that asks, with this reply to come
abbrev AnsweredNext : Replied → Behaviour → Behaviour → Type 0
AnsweredNext r a b = (q : Asked) → a.ending ≡ Asks q → AnsweredBy (fits q r) q r a b

answered_taken : (t : Bool) (q : Asked) (r' r : Replied) (a b : Behaviour) → AnsweredNext r a b → AnsweredNext r (taken t q r' a) (taken t q r' b)
answered_taken true q r' r a b h = λ x is. answered_before (fits x r) x r q r' a b (h x is)
answered_taken false q r' r a b h = λ x is. absurd (cc)

answered_on : (c : Config) (f : State → List Replied → Behaviour) → EndsOwn c → ((s : State) (replies : List Replied) (r : Replied) (later : List Replied) → AnsweredNext r (f s replies) (f s (replies ++ r ∷ later)))
    → (replies : List Replied) (r : Replied) (later : List Replied) → AnsweredNext r (continue c f replies) (continue c f (replies ++ r ∷ later))
answered_on (Runs s) f own h replies r later = h s replies r later
answered_on (Over e) f own h replies r later = λ q is. absurd (subst IsOwn is own)
answered_on (Waits p s) f own h [] r later = λ q is.
    let asked = request_of p s in
    let b = taken (fits asked r) asked r (f (resumed p s r) later) in
    subst (λ x. AnsweredBy (fits x r) x r (only (Asks asked)) b) (same_request is) (answered_now (fits asked r) asked r (f (resumed p s r) later))
answered_on (Waits p s) f own h (r' ∷ replies) r later = answered_taken (fits (request_of p s) r') (request_of p s) r' r _ _ (h (resumed p s r') replies r later)

answered : (k : ℕ) (s : State) (replies : List Replied) (r : Replied) (later : List Replied) → AnsweredNext r (run k s replies) (run k s (replies ++ r ∷ later))
unfolding running.run
answered zero s replies r later = λ q is. absurd (cc)
answered (suc k) s replies r later = answered_on (step s) (run k) (own_step s) (λ t rs x more. answered k t rs x more) replies r later

pub machine_in_order : (parts : ImageParts) (memory : List ℕ) (stack k : ℕ) → TakesInOrder (λ replies. machine parts memory stack replies k)
machine_in_order parts memory stack k = record {
  uses = λ replies. uses k (booted parts memory stack) replies;
  stays = λ replies later never. stays k (booted parts memory stack) replies later never;
  answered = λ replies r later q is. answered k (booted parts memory stack) replies r later q is;
}
