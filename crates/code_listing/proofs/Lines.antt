-- The lines of numbers from 0 on, one after another.
use Rattle.std.proofs.Common.{◌≡◌, ℕ, ◌+◌, ◌<◌, ◌≤◌, List, ◌++◌, length, get_or, take, drop, ap, subst, arith}
use Rattle.std.specs.List.{flat_map, range_with_len}
use Rattle.std.proofs.lemmas.List.{take_all}
use Rattle.std.proofs.lemmas.List.FromFn.{get_or-range_with_len, length-range_with_len}
use Rattle.pan_base.proofs.TookLemmas.{joined_at}
use Rattle.pan_base.proofs.LineLemmas.{next_text}

module _ (line : ℕ → List ℕ) (n i : ℕ) where
  abbrev numbers : List ℕ
  numbers = range_with_len 0 n

  within : i < n → i < length numbers
  within h = omega (arith, length-range_with_len 0 n)

  at : i < n → get_or numbers i 0 ≡ i
  at h = omega (arith, get_or-range_with_len 0 n i 0 h)

  pub line_among : i < n → flat_map line (range_with_len 0 n) ≡ flat_map line (take i (range_with_len 0 n)) ++ (line i ++ flat_map line (drop (i + 1) (range_with_len 0 n)))
  line_among h =
      subst (λ k. flat_map line numbers ≡ flat_map line (take i numbers) ++ (line k ++ flat_map line (drop (i + 1) numbers))) (at h) (joined_at line numbers i 0 (within h))

  pub next_line : i < n → flat_map line (take (i + 1) (range_with_len 0 n)) ≡ flat_map line (take i (range_with_len 0 n)) ++ line i
  next_line h =
      subst (λ k. flat_map line (take (i + 1) numbers) ≡ flat_map line (take i numbers) ++ line k) (at h) (next_text line numbers i 0 (within h))

  pub all_lines : n ≤ i → flat_map line (take i (range_with_len 0 n)) ≡ flat_map line (range_with_len 0 n)
  all_lines h = ap (flat_map line) (take_all i numbers (omega (arith, length-range_with_len 0 n)))
