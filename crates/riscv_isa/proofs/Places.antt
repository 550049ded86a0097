-- Where accesses go.
use Rattle.std.proofs.Common.{◌≡◌, ℕ, ◌+◌, ◌-◌, ◌%◌, ◌≤◌, ◌<◌, arith}
use Rattle.std.specs.Prelude.{◌↔◌}
use Rattle.std.proofs.lemmas.Bool.Decides.{nat_tests}
use Rattle.riscv_isa.specs.declared.place.Region.{Region}
use Rattle.riscv_isa.specs.declared.place.Region.TheVariants.{Block, Globals, Local, Stack}
use Rattle.riscv_isa.specs.declared.place.Place.TheVariants.{In, Window}
use Rattle.riscv_isa.specs.Regions.{Memory, AreApart, IsInside, begin, place_of}

pub placed : (r : Region) (d : Memory) (addr size : ℕ) → AreApart d → 0 < size → addr % size ≡ 0 → IsInside r d addr size → place_of d addr size ≡ In r (addr - begin r)
unfolding place_of
placed Block d addr size apart some whole h = let a = h.from in let b = h.to in grind (arith, nat_tests)
placed Globals d addr size apart some whole h = let a = h.from in let b = h.to in let c = apart.block in grind (arith, nat_tests)
placed Local d addr size apart some whole h = let a = h.from in let b = h.to in let c = apart.block in let e = apart.globals in grind (arith, nat_tests)
placed Stack d addr size apart some whole h = let a = h.from in let b = h.to in let c = apart.block in let e = apart.globals in let f = apart.local in grind (arith, nat_tests)

-- what an access that goes to a region is
pub record Goes (r : Region) (d : Memory) (addr size at : ℕ) : Type 0 where
  pub whole : addr % size ≡ 0
  pub inside : IsInside r d addr size
  pub at_is : at ≡ addr - begin r

pub place_is : (r : Region) (d : Memory) (addr size at : ℕ) → place_of d addr size ≡ In r at → Goes r d addr size at
unfolding place_of
place_is Block d addr size at h = record { whole = grind (arith, nat_tests); inside = record { from = grind (arith, nat_tests); to = grind (arith, nat_tests) }; at_is = grind (arith, nat_tests) }
place_is Globals d addr size at h = record { whole = grind (arith, nat_tests); inside = record { from = grind (arith, nat_tests); to = grind (arith, nat_tests) }; at_is = grind (arith, nat_tests) }
place_is Local d addr size at h = record { whole = grind (arith, nat_tests); inside = record { from = grind (arith, nat_tests); to = grind (arith, nat_tests) }; at_is = grind (arith, nat_tests) }
place_is Stack d addr size at h = record { whole = grind (arith, nat_tests); inside = record { from = grind (arith, nat_tests); to = grind (arith, nat_tests) }; at_is = grind (arith, nat_tests) }

pub in_window : (d : Memory) (addr size : ℕ) → AreApart d → 0 < size → addr % size ≡ 0 → 0x40000000 ≤ addr → addr + size ≤ 0x80000000 → place_of d addr size ≡ Window
unfolding place_of
in_window d addr size apart some whole from to = let c = apart.block in let e = apart.globals in let f = apart.local in let g = apart.stack in grind (arith, nat_tests)

pub record GoesOut (addr size : ℕ) : Type 0 where
  pub whole : addr % size ≡ 0
  pub from : 0x40000000 ≤ addr
  pub to : addr + size ≤ 0x80000000

pub window_is : (d : Memory) (addr size : ℕ) → place_of d addr size ≡ Window → GoesOut addr size
unfolding place_of
window_is d addr size h = record { whole = grind (arith, nat_tests); from = grind (arith, nat_tests); to = grind (arith, nat_tests) }

-- ---- exactly there

pub placed_exactly : (r : Region) (d : Memory) (addr size : ℕ) → AreApart d → 0 < size → (place_of d addr size ≡ In r (addr - begin r)) ↔ ((addr % size ≡ 0) × IsInside r d addr size)
placed_exactly r d addr size apart some = (
  λ is. let g = place_is r d addr size (addr - begin r) is in (g.whole, g.inside),
  λ h. placed r d addr size apart some h.0 h.1,
)

pub windowed_exactly : (d : Memory) (addr size : ℕ) → AreApart d → 0 < size → (place_of d addr size ≡ Window) ↔ ((addr % size ≡ 0) × (0x40000000 ≤ addr) × (addr + size ≤ 0x80000000))
windowed_exactly d addr size apart some = (
  λ is. let g = window_is d addr size is in (g.whole, g.from, g.to),
  λ h. in_window d addr size apart some h.0 h.1 h.2,
)
