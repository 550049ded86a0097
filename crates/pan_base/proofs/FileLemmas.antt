-- Files in memory after one of them was stored.
use Rattle.std.proofs.Common.{◌≡◌, ◌≢◌, ℕ, take, Option, inl, inr, ◌<◌, ◌≤◌, List, [], ◌∷◌, ◌++◌, length, get_or, set, suc, zero, Some, None, refl, ap, ◌∙◌, arith, true, false}
use Rattle.std.specs.Prelude.{position, min}
use Rattle.std.specs.List.{position_or_len}
use Rattle.std.specs.Str.{bytes_eq}
use Rattle.std.proofs.lemmas.Slice.Eq.{bytes_eq-Decides}
use Rattle.std.proofs.lemmas.List.Quantifiers.{position-Some}
use Rattle.pan_base.specs.Files.{Stored, StoredBelow, StoredInPart}
use Rattle.pan_base.specs.MemFiles.{file_at, with_file, kept}

same_name : (name : List ℕ) → bytes_eq name name ≡ true
same_name name = (bytes_eq-Decides name name).1 refl

pub file_at-with_file : (files : List (List ℕ × List ℕ)) (name bytes : List ℕ) → file_at (with_file files name bytes) name ≡ Some bytes
file_at-with_file [] name bytes = rw (same_name name) refl
file_at-with_file (file ∷ files) name bytes = grind (arith, same_name name, file_at-with_file files name bytes)

pub file_at-with_file-other : (files : List (List ℕ × List ℕ)) (name bytes other : List ℕ) → other ≢ name → file_at (with_file files name bytes) other ≡ file_at files other
file_at-with_file-other [] name bytes other h = grind (arith, bytes_eq-Decides name other)
file_at-with_file-other (file ∷ files) name bytes other h = grind (arith, bytes_eq-Decides name other, bytes_eq-Decides file.0 name, bytes_eq-Decides file.0 other, file_at-with_file-other files name bytes other h)

-- the file that is found is replaced
stored_at : (files : List (List ℕ × List ℕ)) (name bytes : List ℕ) (at : ℕ) → at < length files → bytes_eq (get_or files at (name, bytes)).0 name ≡ true → ((k : ℕ) → k < at → bytes_eq (get_or files k (name, bytes)).0 name ≡ false) → with_file files name bytes ≡ set files at (name, bytes)
stored_at [] name bytes at within here before = absurd (omega arith)
stored_at (file ∷ files) name bytes zero within here before = rw here refl
stored_at (file ∷ files) name bytes (suc at) within here before =
    rw (before 0 (omega arith)) (ap (λ rest. file ∷ rest) (stored_at files name bytes at (omega arith) here (λ k h. before (suc k) (omega arith))))

pub with_file-Some : (files : List (List ℕ × List ℕ)) (name bytes : List ℕ) (at : ℕ) → position (λ f. bytes_eq f.0 name) files ≡ Some at → with_file files name bytes ≡ set files at (name, bytes)
with_file-Some files name bytes at h =
    let p = position-Some (λ f. bytes_eq f.0 name) files at (name, bytes) h in
    stored_at files name bytes at p.0 p.1 p.2

-- a file that isn't found comes after the others
pub with_file-None : (files : List (List ℕ × List ℕ)) (name bytes : List ℕ) → position (λ f. bytes_eq f.0 name) files ≡ None → with_file files name bytes ≡ files ++ (name, bytes) ∷ []
with_file-None files name bytes h = stored_last files name bytes (grind arith)
  where
    stored_last : (files : List (List ℕ × List ℕ)) (name bytes : List ℕ) → length files ≤ position_or_len (λ f. bytes_eq f.0 name) files → with_file files name bytes ≡ files ++ (name, bytes) ∷ []
    stored_last [] name bytes h = refl
    stored_last (file ∷ files) name bytes h = grind (arith, stored_last files name bytes)

pub stored_whole : (files : List (List ℕ × List ℕ)) (name bytes : List ℕ) → Stored (Some (file_at files)) (Some (file_at (with_file files name bytes))) name bytes
stored_whole files name bytes = (file_at-with_file files name bytes, file_at-with_file-other files name bytes)

pub stored_nothing : (limit : ℕ) (files : List (List ℕ × List ℕ)) (name bytes : List ℕ) → StoredBelow limit (Some (file_at files)) (Some (file_at files)) name bytes
stored_nothing limit files name bytes = (inl refl, λ other h. refl)

-- what a failing write keeps is a front of the bytes
pub stored_kept : (keep : Option ℕ) (files : List (List ℕ × List ℕ)) (name bytes : List ℕ) → StoredInPart (Some (file_at files)) (Some (file_at (kept keep files name bytes))) name bytes
stored_kept None files name bytes = stored_nothing _ files name bytes
stored_kept (Some n) files name bytes =
    (inr (min n (length bytes), omega arith, file_at-with_file files name (take n bytes) ∙ ap Some (take_min n bytes)), file_at-with_file-other files name (take n bytes))
  where
    take_min : (n : ℕ) (xs : List ℕ) → take n xs ≡ take (min n (length xs)) xs
    take_min zero xs =
        let e : min zero (length xs) ≡ zero = omega arith in
        rw e refl
    take_min (suc n) [] =
        let e : min (suc n) zero ≡ zero = omega arith in
        rw e refl
    take_min (suc n) (x ∷ xs) =
        let e : min (suc n) (suc (length xs)) ≡ suc (min n (length xs)) = omega arith in
        rw e (ap (λ rest. x ∷ rest) (take_min n xs))
