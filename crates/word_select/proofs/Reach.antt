-- Addresses at which something lies are words, since memory stays as long as it is; and what a reply that fits leaves.
use Rattle.std.proofs.Common.{◌≡◌, ℕ, ◌+◌, ◌-◌, ◌^◌, ◌≤◌, ◌<◌, Bool, true, false, List, [], ◌∷◌, length, take, drop, Some, None, arith, refl, sym, ap, ◌∙◌, length-drop}
use Rattle.std.specs.Prelude.{pos, ◌&&◌, nat_eq, if◌then◌else◌}
use Rattle.std.proofs.lemmas.Bool.Decides.{nat_tests}
use Rattle.std.proofs.lemmas.List.{length-take-le}
use Rattle.pan_base.specs.declared.events.Size.{Size}
use Rattle.pan_base.specs.Events.{Asked, Replied, Value, Done, Bytes, Stop, Event, Foreign, fits}
use Rattle.pan_base.specs.Results.{plus}
use Rattle.pan_base.specs.Words.{base_address}
use Rattle.pan_base.proofs.ByteLaws.{part_length}
use Rattle.pan_control.specs.World.{World as WorldOf}
use Rattle.pan_control.specs.Control.{Outcome, ask_fit, ask_of, ask, where_true}
use Rattle.pan_control.specs.Memory.{is_shared, is_local, bytes_at, with_bytes}
use Rattle.pan_control.specs.Runs.{with_reply}
use Rattle.pan_stage.specs.Data.{World, Place, InLocal, InGlobals, Nowhere, place_of, read_at, read, write}
use Rattle.pan_stage.proofs.DataLaws.{IsAt, found, same_lengths, read_before}
use Rattle.pan_stage.proofs.Follows.{beside, Ends, Same, over, failed}

-- globals and local memory end below 2 ^ 64
pub record AreReachable (gs m : List ℕ) : Type 0 where
  pub globals : length gs ≤ 2 ^ 32
  pub local : length m ≤ 2 ^ 32

abbrev pub IsReachable : World → Type 0
IsReachable w = AreReachable w.globals w.memory

-- a number that is read lies at a word
pub read_reached : (size : Size) (globals local : List ℕ) (addr n : ℕ) → length globals ≤ 2 ^ 32 → length local ≤ 2 ^ 32 → read size globals local addr ≡ Some n → addr < 2 ^ 64
read_reached size globals local addr n few less is = by (place_of size (length globals) (length local) addr) (found size (length globals) (length local) addr) is
  where
    by : (p : Place) → IsAt size (length globals) (length local) addr p → read_at p size globals local ≡ Some n → addr < 2 ^ 64
    by (InLocal at) i e = omega (arith, i.high, less)
    by (InGlobals at) i e = omega (arith, i.high, few)
    by Nowhere i e = absurd (cc e)

-- and so does one that is written
pub write_reached : (size : Size) (w : World) (addr n : ℕ) (d : List ℕ × List ℕ) → IsReachable w → write size w.globals w.memory addr n ≡ Some d → addr < 2 ^ 64
write_reached size w addr n d h is = let r = read_before size w.globals w.memory addr n d is in read_reached size w.globals w.memory addr r.0 h.globals h.local r.1

pub still_reached : (size : Size) (w : World) (addr n : ℕ) (d : List ℕ × List ℕ) → IsReachable w → write size w.globals w.memory addr n ≡ Some d → IsReachable (record w { globals = d.0; memory = d.1 })
still_reached size w addr n d h is =
    let same = same_lengths size w.globals w.memory addr n d is in
    let a = h.globals in let b = h.local in record { globals = omega (arith, a, same.0); local = omega (arith, b, same.1) }

and_true : (a b : Bool) → (a && b) ≡ true → (a ≡ true) × (b ≡ true)
and_true true b h = (refl, h)
and_true false b h = absurd cc

pub shared_reached : (size : Size) (addr : ℕ) → is_shared size addr ≡ true → addr < 2 ^ 64
shared_reached size addr h = grind (arith, nat_tests)

-- without an offset a word is its own address
pub plus_nothing : (a : ℕ) → a < 2 ^ 64 → plus a (pos 0) ≡ a
unfolding plus
plus_nothing a l = omega (arith, l)

-- ---- replies

-- a reply to a foreign call that fits leaves memory as long as it was
pub reply_reached : (w : World) (i addr count : ℕ) (name conf array : List ℕ) (r : Replied) → IsReachable w → bytes_at w.memory addr count ≡ Some array → fits (Foreign i name conf array) r ≡ true → length (with_reply w.memory addr r) ≤ 2 ^ 32
reply_reached w i addr count name conf array (Value n) h is f = h.local
reply_reached w i addr count name conf array Done h is f = h.local
reply_reached w i addr count name conf array Stop h is f = h.local
reply_reached w i addr count name conf array (Bytes bytes) h is f = by (is_local w.memory addr count) refl is
  where
    by : (b : Bool) → is_local w.memory addr count ≡ b → (if b then Some (take count (drop (addr - base_address) w.memory)) else None) ≡ Some array → length (with_bytes w.memory addr bytes) ≤ 2 ^ 32
    by false e is = absurd (cc is)
    by true e is =
        let low : base_address ≤ addr = grind (arith, nat_tests) in
        let high : addr + count ≤ base_address + length w.memory = grind (arith, nat_tests) in
        let rest = length-drop (addr - base_address) w.memory in
        let all : length (take count (drop (addr - base_address) w.memory)) ≡ count = length-take-le count (drop (addr - base_address) w.memory) (omega (arith, rest, low, high)) in
        let array_is : take count (drop (addr - base_address) w.memory) ≡ array = cc is in
        let long : length array ≡ count = ap length (sym array_is) ∙ all in
        let test = (and_true (nat_eq (length bytes) (length array)) _ f).0 in
        let same : length bytes ≡ length array = grind (arith, nat_tests) in
        let l = part_length w.memory (addr - base_address) bytes (omega (arith, same, long, low, high)) in
        let k = h.local in omega (arith, l, k)

module _ {G G' V U X Y : Type 0} (r : Ends G G' V U X Y) where
  -- after a reply that fits
  abbrev pub Fitting : Asked → WorldOf G → (Replied → WorldOf G → Outcome G V X) → ℕ → (Replied → WorldOf G' → Outcome G' U Y) → Type 0
  Fitting q w go t go' = (a : Replied) (rs : List Replied) (es : List Event) → fits q a ≡ true → Same r (go a (record w { replies = rs; trace = es })) (go' a (beside r.view t (record w { replies = rs; trace = es })))

  fit_same : (b : Bool) (q : Asked) (a : Replied) (w : WorldOf G) (t : ℕ) (rs : List Replied) (go : Replied → WorldOf G → Outcome G V X) (go' : Replied → WorldOf G' → Outcome G' U Y) → fits q a ≡ b → r.stopped w t → Fitting q w go t go' → Same r (ask_fit b q a w rs go) (ask_fit b q a (beside r.view t w) rs go')
  fit_same false q a w t rs go go' e s h = over r _ w t s
  fit_same true q a w t rs go go' e s h = h a rs _ e

  ask_of_fitting : (rs : List Replied) (q : Asked) (w : WorldOf G) (t : ℕ) (go : Replied → WorldOf G → Outcome G V X) (go' : Replied → WorldOf G' → Outcome G' U Y) → r.stopped w t → Fitting q w go t go' → Same r (ask_of rs q w go) (ask_of rs q (beside r.view t w) go')
  ask_of_fitting [] q w t go go' s h = over r _ w t s
  ask_of_fitting (a ∷ rs) q w t go go' s h = fit_same (fits q a) q a w t rs go go' refl s h

  pub ask_fitting : (q : Asked) (w : WorldOf G) (t : ℕ) (go : Replied → WorldOf G → Outcome G V X) (go' : Replied → WorldOf G' → Outcome G' U Y) → r.stopped w t → Fitting q w go t go' → Same r (ask q w go) (ask q (beside r.view t w) go')
  ask_fitting q w t go go' s h = ask_of_fitting w.replies q w t go go' s h

  -- the first's test holds, or it fails
  pub where_first : (b : Bool) (w : WorldOf G) (o : Outcome G V X) (o' : Outcome G' U Y) → (b ≡ true → Same r o o') → Same r (where_true b w o) o'
  where_first false w o o' h = failed r w o'
  where_first true w o o' h = h refl
