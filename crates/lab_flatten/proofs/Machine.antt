-- What instructions that structured code doesn't see do to the machine: writes to hidden registers, and words of the stack.
use Rattle.std.proofs.Common.{◌≡◌, ◌≢◌, ℕ, ℤ, pos, negsuc, ◌+◌, ◌-◌, ◌*◌, ◌%◌, ◌^◌, ◌<◌, ◌≤◌, refl, sym, ap, ◌∙◌, subst, Bool, true, false, cond, eqb, length, set, take, drop, inl, inr, arith}
use Rattle.std.specs.Prelude.{◌⊎◌, ◌==◌, nat_eq}
use Rattle.std.specs.Int.{w64, from_le_bytes}
use Rattle.std.proofs.lemmas.List.{length-set}
use Rattle.std.proofs.lemmas.Bool.Decides.{nat_tests}
use Rattle.pan_base.specs.declared.events.Size.TheVariants.{B8}
use Rattle.pan_base.specs.declared.operators.LOp.TheVariants.{Ld}
use Rattle.pan_base.specs.declared.operators.SOp.TheVariants.{Sd}
use Rattle.riscv_isa.specs.declared.instr.Instr.TheVariants as instr
use Rattle.riscv_isa.specs.declared.place.Place.TheVariants as place
use Rattle.riscv_isa.specs.declared.place.Region.TheVariants as region
use Rattle.pan_base.specs.Bytes.{is_within, number_at, with_number}
use Rattle.riscv_isa.specs.Regions.{Memory, with_bytes, place_of}
use Rattle.pan_base.specs.Results.{plus}
use Rattle.riscv_isa.specs.Step.{State, Runs, reg, with_reg, next, act, load, store}
use Rattle.stack_lang.specs.Shown.{hide}
use Rattle.riscv_isa.proofs.Registers.{written, unwritten}
use Rattle.lab_flatten.proofs.Hiding.{apart, Hidden, SameSizes, same_sizes, Follows, number_long}
use Rattle.lab_flatten.proofs.Bytes.{word_read, word_below, above_write}

-- ---- registers

pub reg_same : (t : State) (r n : ℕ) → eqb r 0 ≡ false → r < 32 → length t.registers ≡ 32 → reg (with_reg t r n) r ≡ n
reg_same t r n some small count = written t r n (apart r 0 some) (omega (arith, small, count))

pub reg_other : (t : State) (r n q : ℕ) → q ≢ r → reg (with_reg t r n) q ≡ reg t q
reg_other t r n q other = unwritten t r q n (λ e. other (sym e))

-- a register that structured code doesn't see is written, and nothing else
pub record Sets (r n : ℕ) (t u : State) : Type 0 where
  pub seen : hide u ≡ hide t
  pub memory : u.memory ≡ t.memory
  pub count : length u.registers ≡ length t.registers
  pub value : reg u r ≡ n
  pub other : (q : ℕ) → q ≢ r → reg u q ≡ reg t q

pub sets_reg : (r : ℕ) → Hidden r → (t : State) (n at : ℕ) → length t.registers ≡ 32 → Sets r n t (record (with_reg t r n) { pc = at })
unfolding reg
sets_reg r h t n at count = record { seen = seen_of; memory = refl; count = count_of; value = value_of; other = other_of }
  where
    seen_of : hide (record (with_reg t r n) { pc = at }) ≡ hide t
    seen_of = by (eqb r 0) h.some
      where
        by : (b : Bool) → b ≡ false → hide (record t { registers = cond b t.registers (set t.registers r n); pc = at }) ≡ hide t
        by false e = ap (λ xs. record (hide t) { registers = xs }) (h.masked t.registers n)
        by true e = absurd (cc)

    count_of : length (record (with_reg t r n) { pc = at }).registers ≡ length t.registers
    count_of = by (eqb r 0)
      where
        by : (b : Bool) → length (cond b t.registers (set t.registers r n)) ≡ length t.registers
        by false = length-set t.registers r n
        by true = refl

    value_of : reg (record (with_reg t r n) { pc = at }) r ≡ n
    value_of = reg_same t r n h.some h.below count

    other_of : (q : ℕ) → q ≢ r → reg (record (with_reg t r n) { pc = at }) q ≡ reg t q
    other_of q o = reg_other t r n q o

-- one write after another to the same register
pub sets_on : (r m n : ℕ) (t u v : State) → Sets r m t u → Sets r n u v → Sets r n t v
sets_on r m n t u v a b = record { seen = b.seen ∙ a.seen; memory = b.memory ∙ a.memory; count = b.count ∙ a.count; value = b.value; other = λ q o. b.other q o ∙ a.other q o }

pub sets_none : (r : ℕ) (t : State) → Sets r (reg t r) t t
sets_none r t = record { seen = refl; memory = refl; count = refl; value = refl; other = λ q o. refl }

pub reg_pc : (t : State) (at q : ℕ) → reg (record t { pc = at }) q ≡ reg t q
unfolding reg
reg_pc t at q = refl

-- a jump leaves all but the place
pub sets_pc : (r : ℕ) (t : State) (at : ℕ) → Sets r (reg t r) t (record t { pc = at })
sets_pc r t at = record { seen = refl; memory = refl; count = refl; value = reg_pc t at r; other = λ q o. reg_pc t at q }

-- ---- words of the stack

pub stack_start : ℕ
stack_start = 0x20000000

-- the word at an address of the stack
abbrev pub word : State → ℕ → ℕ
word t a = number_at B8 t.memory.stack (a - 0x20000000)

-- the stack from an address on is the same
abbrev pub SameFrom : ℕ → State → State → Type 0
SameFrom top t u = (m : ℕ) → top ≤ 0x20000000 + m → drop m (u.memory).stack ≡ drop m t.memory.stack

pub same_word : (top a : ℕ) (t u : State) → SameFrom top t u → top ≤ a → 0x20000000 ≤ a → word u a ≡ word t a
same_word top a t u same le low = ap (λ xs. from_le_bytes w64 (take 8 xs)) (same (a - 0x20000000) (omega (arith, le, low)))

-- the regions of data memory don't meet each other or the window
pub record IsMap (m : Memory) : Type 0 where
  pub block : length m.block ≤ 0x4000000
  pub globals : length m.globals ≤ 0x4000000
  pub local : length m.local ≤ 0x10000000
  pub stack : length m.stack ≤ 0x20000000

pub map_kept : (m n : Memory) → IsMap m → SameSizes m n → IsMap n
map_kept m n h s = record {
  block = omega (arith, h.block, s.block);
  globals = omega (arith, h.globals, s.globals);
  local = omega (arith, h.local, s.local);
  stack = omega (arith, h.stack, s.stack);
}

-- an aligned word of the stack
pub record IsWord (t : State) (a : ℕ) : Type 0 where
  pub map : IsMap t.memory
  pub whole : a % 8 ≡ 0
  pub low : 0x20000000 ≤ a
  pub high : a + 8 ≤ 0x20000000 + length t.memory.stack

-- it is in no other region
in_stack : (t : State) (a : ℕ) → IsWord t a → place_of t.memory a 8 ≡ place.In region.Stack (a - 0x20000000)
unfolding place_of
in_stack t a w =
    let m = t.memory in
    let h = w.map in
    let low = w.low in
    let high = w.high in
    let p : is_within 0x08000000 (length m.block) a 8 ≡ false = (let x = h.block in grind (arith, nat_tests)) in
    let q : is_within 0x0C000000 (length m.globals) a 8 ≡ false = (let x = h.globals in grind (arith, nat_tests)) in
    let r : is_within 0x10000000 (length m.local) a 8 ≡ false = (let x = h.local in grind (arith, nat_tests)) in
    let s : is_within 0x20000000 (length m.stack) a 8 ≡ true = grind (arith, nat_tests) in
    by_tests (is_within 0x08000000 (length m.block) a 8) (is_within 0x0C000000 (length m.globals) a 8) (is_within 0x10000000 (length m.local) a 8) (is_within 0x20000000 (length m.stack) a 8) (a % 8) p q r s w.whole
  where
    by_tests : (x y z v : Bool) (n : ℕ) → x ≡ false → y ≡ false → z ≡ false → v ≡ true → n ≡ 0
        → cond (n == 0) (cond x (place.In region.Block (a - 0x08000000)) (cond y (place.In region.Globals (a - 0x0C000000)) (cond z (place.In region.Local (a - 0x10000000)) (cond v (place.In region.Stack (a - 0x20000000)) (cond (is_within 0x40000000 0x40000000 a 8) place.Window place.Nowhere))))) place.Nowhere
        ≡ place.In region.Stack (a - 0x20000000)
    by_tests x y z v n p q r s e = rw (p, q, r, s, e) refl

-- a load of it
pub loads_word : (t : State) (rd rs : ℕ) (imm : ℤ) (a : ℕ) → IsWord t a → plus (reg t rs) imm ≡ a → act (instr.L Ld rd rs imm) t ≡ Runs (next (with_reg t rd (word t a)))
loads_word t rd rs imm a w at =
    ap (λ a. load (place_of t.memory a 8) Ld rd a t) at ∙ ap (λ p. load p Ld rd a t) (in_stack t a w)

-- a store of it
abbrev pub stored : State → ℕ → ℕ → State
stored t a n = next (record t { memory = with_bytes region.Stack (with_number B8 t.memory.stack (a - 0x20000000) n) t.memory })

pub stores_word : (t : State) (rs1 rs2 : ℕ) (imm : ℤ) (a : ℕ) → IsWord t a → plus (reg t rs1) imm ≡ a → act (instr.S Sd rs1 rs2 imm) t ≡ Runs (stored t a (reg t rs2))
stores_word t rs1 rs2 imm a w at =
    ap (λ a. store (place_of t.memory a 8) B8 a (reg t rs2) t) at ∙ ap (λ p. store p B8 a (reg t rs2) t) (in_stack t a w)

-- what a store leaves
pub record Stored (a n : ℕ) (t u : State) : Type 0 where
  pub seen : hide u ≡ hide t
  pub regs : (q : ℕ) → reg u q ≡ reg t q
  pub count : length u.registers ≡ length t.registers
  pub sizes : SameSizes t.memory u.memory
  pub here : word u a ≡ n % 2 ^ 64
  pub under : (b : ℕ) → 0x20000000 ≤ b → b + 8 ≤ a → word u b ≡ word t b
  pub above : SameFrom (a + 8) t u

pub stored_is : (t : State) (a n : ℕ) → IsWord t a → Stored a n t (stored t a n)
unfolding reg
stored_is t a n w =
    let low = w.low in let high = w.high in
    let inside : a - 0x20000000 + 8 ≤ length t.memory.stack = omega arith in
    record {
      seen = refl;
      regs = regs_of;
      count = refl;
      sizes = record { block = refl; globals = refl; local = refl; stack = number_long t (w.map).stack B8 t.memory.stack (a - 0x20000000) n inside };
      here = word_read t.memory.stack (a - 0x20000000) n inside;
      under = λ b lo le. word_below t.memory.stack (a - 0x20000000) n (b - 0x20000000) inside (omega arith);
      above = λ m le. above_write t.memory.stack (a - 0x20000000) n m inside (omega arith);
    }
  where
    regs_of : (q : ℕ) → reg (stored t a n) q ≡ reg t q
    regs_of q = refl

-- a word that is kept by a store elsewhere
pub stored_keeps : (a n b : ℕ) (t u : State) → Stored a n t u → 0x20000000 ≤ b → (b + 8 ≤ a) ⊎ (a + 8 ≤ b) → word u b ≡ word t b
stored_keeps a n b t u s low (inl le) = s.under b low le
stored_keeps a n b t u s low (inr le) = same_word (a + 8) b t u s.above le low

-- ---- sums

pub plus_zero : (n : ℕ) → n < 2 ^ 64 → plus n (pos 0) ≡ n
unfolding plus
plus_zero n small = omega arith

pub plus_small : (n d : ℕ) → n + d < 2 ^ 64 → plus n (pos d) ≡ n + d
unfolding plus
plus_small n d small = omega arith

pub plus_down : (n d : ℕ) → 0 < d → d ≤ n → n < 2 ^ 64 → d < 2 ^ 63 → plus n (negsuc (d - 1)) ≡ n - d
unfolding plus
plus_down n d some le small few = omega arith

-- ---- what is kept of the machine beside the frame

-- from an address on the stack is kept, and so are the sizes, the limit and the newest record
pub record Outer (top : ℕ) (t u : State) : Type 0 where
  pub sizes : SameSizes t.memory u.memory
  pub count : length u.registers ≡ length t.registers
  pub limit : reg u 4 ≡ reg t 4
  pub newest : reg u 8 ≡ reg t 8
  pub above : SameFrom top t u

pub sizes_on : (a b c : Memory) → SameSizes a b → SameSizes b c → SameSizes a c
sizes_on a b c p q = record { block = q.block ∙ p.block; globals = q.globals ∙ p.globals; local = q.local ∙ p.local; stack = q.stack ∙ p.stack }

pub sizes_is : (m n : Memory) → n ≡ m → SameSizes m n
sizes_is m n e = subst (λ n. SameSizes m n) (sym e) (same_sizes m)

pub outer_on : (top top' : ℕ) (t u v : State) → Outer top t u → Outer top' u v → top' ≤ top → Outer top t v
outer_on top top' t u v a b le = record {
  sizes = sizes_on t.memory u.memory v.memory a.sizes b.sizes;
  count = b.count ∙ a.count;
  limit = b.limit ∙ a.limit;
  newest = b.newest ∙ a.newest;
  above = λ m h. b.above m (omega (arith, le, h)) ∙ a.above m h;
}

pub sets_outer : (r n top : ℕ) (t u : State) → Sets r n t u → 4 ≢ r → 8 ≢ r → Outer top t u
sets_outer r n top t u s four eight = record {
  sizes = sizes_is t.memory u.memory s.memory;
  count = s.count;
  limit = s.other 4 four;
  newest = s.other 8 eight;
  above = λ m h. ap (λ (d : Memory). drop m d.stack) s.memory;
}

pub stored_outer : (a n top : ℕ) (t u : State) → Stored a n t u → a + 8 ≤ top → Outer top t u
stored_outer a n top t u s le = record { sizes = s.sizes; count = s.count; limit = s.regs 4; newest = s.regs 8; above = λ m h. s.above m (omega (arith, le, h)) }

-- the return address of the running function: where its frame has words before the slots, the first of them, else still in x1
abbrev pub saved : ℕ → State → ℕ
saved front t = cond (nat_eq front 0) (reg t 1) (word t (reg t 2))

pub saved_same : (front : ℕ) (t u : State) → (front ≡ 0 → reg u 1 ≡ reg t 1) → (0 < front → word u (reg u 2) ≡ word t (reg t 2)) → saved front u ≡ saved front t
saved_same front t u one first = by (nat_eq front 0) refl
  where
    by : (b : Bool) → nat_eq front 0 ≡ b → cond b (reg u 1) (word u (reg u 2)) ≡ cond b (reg t 1) (word t (reg t 2))
    by true is = one (let e : front ≡ 0 = grind (arith, nat_tests) in e)
    by false is = first (let e : 0 < front = grind (arith, nat_tests) in e)

-- all but the frame of this size is kept, and in it the return address
pub record Kept (front size : ℕ) (t u : State) : Type 0 where
  pub outer : Outer (reg t 2 + size) t u
  pub sp : reg u 2 ≡ reg t 2
  pub link : saved front u ≡ saved front t

pub kept_self : (front size : ℕ) (t : State) → Kept front size t t
kept_self front size t = record { outer = record { sizes = same_sizes t.memory; count = refl; limit = refl; newest = refl; above = λ m h. refl }; sp = refl; link = refl }

pub kept_on : (front size : ℕ) (t u v : State) → Kept front size t u → Kept front size u v → Kept front size t v
kept_on front size t u v a b = record {
  outer = outer_on (reg t 2 + size) (reg u 2 + size) t u v a.outer b.outer (omega (arith, a.sp));
  sp = b.sp ∙ a.sp;
  link = b.link ∙ a.link;
}

pub sets_kept : (r n front size : ℕ) (t u : State) → Sets r n t u → 4 ≢ r → 8 ≢ r → 2 ≢ r → 1 ≢ r → Kept front size t u
sets_kept r n front size t u s four eight two one = record {
  outer = sets_outer r n (reg t 2 + size) t u s four eight;
  sp = s.other 2 two;
  link = saved_same front t u (λ none. s.other 1 one) (λ some. ap (word u) (s.other 2 two) ∙ ap (λ (m : Memory). number_at B8 m.stack (reg t 2 - 0x20000000)) s.memory);
}

pub follows_kept : (front size : ℕ) (t u : State) → Follows t u → Kept front size t u
unfolding reg
follows_kept front size t u f = record {
  outer = record { sizes = f.sizes; count = f.count; limit = f.limit; newest = f.newest; above = λ m h. ap (drop m) f.stack };
  sp = f.sp;
  link = saved_same front t u (λ none. f.link) (λ some. ap (word u) f.sp ∙ ap (λ xs. number_at B8 xs (reg t 2 - 0x20000000)) f.stack);
}

-- ---- inside a function, and where it begins

-- a frame has room for the words before its slots, is whole, and is in reach of two instructions
pub record IsFrame (front size : ℕ) : Type 0 where
  pub wide : 8 * front ≤ size
  pub whole : size % 8 ≡ 0
  pub most : size ≤ 0x7F000

pub record Ready (front size : ℕ) (t : State) : Type 0 where
  pub map : IsMap t.memory
  pub count : length t.registers ≡ 32
  pub whole : reg t 2 % 8 ≡ 0
  pub low : 0x20000000 ≤ reg t 2
  pub limit : reg t 4 ≡ 0x20000000
  pub frame : reg t 2 + size ≤ 0x20000000 + length t.memory.stack
  pub back : saved front t % 4 ≡ 0
  pub back_word : saved front t < 2 ^ 64
  pub newest : reg t 8 < 2 ^ 64

pub record Begins (t : State) : Type 0 where
  pub map : IsMap t.memory
  pub count : length t.registers ≡ 32
  pub whole : reg t 2 % 8 ≡ 0
  pub low : 0x20000000 ≤ reg t 2
  pub limit : reg t 4 ≡ 0x20000000
  pub top : reg t 2 ≤ 0x20000000 + length t.memory.stack
  pub link : reg t 1 % 4 ≡ 0
  pub link_word : reg t 1 < 2 ^ 64
  pub newest : reg t 8 < 2 ^ 64

pub ready_kept : (front size : ℕ) (t u : State) → Ready front size t → Kept front size t u → Ready front size u
ready_kept front size t u r k =
    let e = k.link in
    let sp = k.sp in
    let o = k.outer in
    record {
      map = map_kept t.memory u.memory r.map o.sizes;
      count = o.count ∙ r.count;
      whole = ap (λ n. n % 8) sp ∙ r.whole;
      low = let h = r.low in omega arith;
      limit = o.limit ∙ r.limit;
      frame = let h = r.frame in let s = (o.sizes).stack in omega arith;
      back = ap (λ n. n % 4) e ∙ r.back;
      back_word = let h = r.back_word in omega arith;
      newest = let h = r.newest in let n = o.newest in omega arith;
    }

-- a word of the frame
pub frame_word : (front size d : ℕ) (t : State) → Ready front size t → d % 8 ≡ 0 → d + 8 ≤ size → IsWord t (reg t 2 + d)
frame_word front size d t r whole le = record {
  map = r.map;
  whole = let h = r.whole in omega arith;
  low = let h = r.low in omega arith;
  high = let h = r.frame in omega arith;
}
