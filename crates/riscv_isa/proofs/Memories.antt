-- Data memory with other bytes in a region, and what a write leaves to be read.
use Rattle.std.proofs.Common.{◌≡◌, ◌≢◌, ℕ, ◌+◌, ◌*◌, ◌%◌, ◌^◌, ◌≤◌, zero, suc, refl, ap, ◌∙◌, List, [], ◌∷◌, length, true, ltb, arith}
use Rattle.std.specs.Prelude.{◌⊎◌, nat_lt}
use Rattle.std.specs.List.{list_all}
use Rattle.std.proofs.lemmas.Bool.{and_parts, ltb-true}
use Rattle.pan_base.specs.declared.events.Size.{Size}
use Rattle.pan_base.specs.Words.{IsBytes}
use Rattle.pan_base.specs.Bytes.{number_at, with_number}
use Rattle.pan_base.specs.Events.{byte_count}
use Rattle.pan_base.proofs.ByteLaws.{number_read_back, number_elsewhere}
use Rattle.riscv_isa.specs.declared.place.Region.{Region}
use Rattle.riscv_isa.specs.declared.place.Region.TheVariants.{Block, Globals, Local, Stack}
use Rattle.riscv_isa.specs.Regions.{Memory, AreApart, bytes_of, with_bytes}

-- what holds of the new bytes of a region and of the bytes of each region before holds of all
pub everywhere : (P : Region → List ℕ → Type 0) (r : Region) (bs : List ℕ) (d : Memory) → P r bs → ((q : Region) → P q (bytes_of q d)) → (q : Region) → P q (bytes_of q (with_bytes r bs d))
everywhere P Block bs d new old Block = new
everywhere P Block bs d new old q = old q
everywhere P Globals bs d new old Globals = new
everywhere P Globals bs d new old q = old q
everywhere P Local bs d new old Local = new
everywhere P Local bs d new old q = old q
everywhere P Stack bs d new old Stack = new
everywhere P Stack bs d new old q = old q

pub bytes_there : (r : Region) (bs : List ℕ) (d : Memory) → bytes_of r (with_bytes r bs d) ≡ bs
bytes_there Block bs d = refl
bytes_there Globals bs d = refl
bytes_there Local bs d = refl
bytes_there Stack bs d = refl

pub bytes_elsewhere : (r q : Region) (bs : List ℕ) (d : Memory) → r ≢ q → bytes_of q (with_bytes r bs d) ≡ bytes_of q d
bytes_elsewhere r q bs d apart = everywhere (λ p ys. p ≡ q → ys ≡ bytes_of q d) r bs d (λ e. absurd (apart e)) (λ p e. ap (λ x. bytes_of x d) e) q refl

pub sizes_kept : (r : Region) (bs : List ℕ) (d : Memory) → length bs ≡ length (bytes_of r d) → (q : Region) → length (bytes_of q (with_bytes r bs d)) ≡ length (bytes_of q d)
sizes_kept r bs d same = everywhere (λ q ys. length ys ≡ length (bytes_of q d)) r bs d same (λ q. refl)

pub stay_apart : (d e : Memory) → AreApart d → ((r : Region) → length (bytes_of r e) ≡ length (bytes_of r d)) → AreApart e
stay_apart d e h same = record {
  block = let a = h.block in let b = same Block in omega arith;
  globals = let a = h.globals in let b = same Globals in omega arith;
  local = let a = h.local in let b = same Local in omega arith;
  stack = let a = h.stack in let b = same Stack in omega arith;
}

-- ---- numbers in regions

-- data memory with a number's low bytes at a place of a region
abbrev pub with_stored : Region → Size → ℕ → ℕ → Memory → Memory
with_stored r size at n d = with_bytes r (with_number size (bytes_of r d) at n) d

-- the number there
abbrev pub stored_at : Region → Size → ℕ → Memory → ℕ
stored_at r size at d = number_at size (bytes_of r d) at

pub read_back : (r : Region) (size : Size) (at n : ℕ) (d : Memory) → at + byte_count size ≤ length (bytes_of r d) → stored_at r size at (with_stored r size at n d) ≡ n % 2 ^ (8 * byte_count size)
read_back r size at n d inside = ap (λ bs. number_at size bs at) (bytes_there r _ d) ∙ number_read_back size (bytes_of r d) at n (omega arith)

pub read_beside : (r : Region) (size other : Size) (at n from : ℕ) (d : Memory) → at + byte_count size ≤ length (bytes_of r d) → (from + byte_count other ≤ at) ⊎ (at + byte_count size ≤ from)
    → stored_at r other from (with_stored r size at n d) ≡ stored_at r other from d
read_beside r size other at n from d inside apart = ap (λ bs. number_at other bs from) (bytes_there r _ d) ∙ number_elsewhere size other (bytes_of r d) at n from inside apart

pub read_elsewhere : (r q : Region) (size other : Size) (at n from : ℕ) (d : Memory) → r ≢ q → stored_at q other from (with_stored r size at n d) ≡ stored_at q other from d
read_elsewhere r q size other at n from d apart = ap (λ bs. number_at other bs from) (bytes_elsewhere r q _ d apart)

-- ---- bytes that come with a reply

pub all_bytes : (bs : List ℕ) → list_all (λ b. nat_lt b 256) bs ≡ true → IsBytes bs
all_bytes [] h i = omega arith
all_bytes (b ∷ bs) h zero = ltb-true b 256 (and_parts (ltb b 256) (list_all (λ b. ltb b 256) bs) h).0
all_bytes (b ∷ bs) h (suc i) = all_bytes bs (and_parts (ltb b 256) (list_all (λ b. ltb b 256) bs) h).1 i
