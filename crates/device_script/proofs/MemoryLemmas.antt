-- Bytes over bytes.
use Rattle.std.proofs.Common.{◌≡◌, inl, inr, ℕ, ◌+◌, ◌-◌, ◌≤◌, min, List, [], ◌++◌, length, take, drop, sym, ap, ◌∙◌, arith, append_assoc}
use Rattle.std.proofs.lemmas.Bool.{cases_lt}
use Rattle.std.proofs.lemmas.List.{length-take-le, length-drop, take_all, take_min, drop_all, drop-drop, append-nil, take-append-le}
use Rattle.std.proofs.Math.Seq.{take-append-add}
use borrow.Rule.Slice.PartMut.{put_mid}
use Rattle.device_script.specs.Memory.{overwritten}

-- after the front: all bytes, where there is room
all_fit : (memory bytes : List ℕ) (offset start : ℕ) → start ≡ min offset (length memory) → length bytes ≤ length memory - start
    → take (length memory - start) (bytes ++ drop (offset + length bytes) memory) ≡ bytes ++ drop (start + length bytes) memory
all_fit memory bytes offset start at room =
    let split : length memory - start ≡ length bytes + (length memory - start - length bytes) = omega arith in
    let rest = drop (offset + length bytes) memory in
    let same : take (length memory - start - length bytes) rest ≡ drop (start + length bytes) memory =
    elim (cases_lt (length memory) offset) [
      | inl past ↦
          let none : drop (start + length bytes) memory ≡ [] = drop_all (start + length bytes) memory (omega arith) in
          let all : rest ≡ [] = drop_all (offset + length bytes) memory (omega arith) in
          let cut = take_all (length memory - start - length bytes) rest (omega (arith, ap length all)) in
          cut ∙ all ∙ sym none
      | inr within ↦
          let same_start : start ≡ offset = omega arith in
          let len = length-drop (offset + length bytes) memory in
          take_all (length memory - start - length bytes) rest (omega (arith, len)) ∙ ap (λ n. drop (n + length bytes) memory) (sym same_start)
    ] in
    ap (λ n. take n (bytes ++ rest)) split ∙ take-append-add bytes rest (length memory - start - length bytes) ∙ ap (λ back. bytes ++ back) same

-- after the front: as many bytes as there is room for
cut_off : (memory bytes rest : List ℕ) (start : ℕ) → length memory - start ≤ length bytes → start ≤ length memory
    → take (length memory - start) (bytes ++ rest) ≡ take (length memory - start) bytes ++ drop (start + (length memory - start)) memory
cut_off memory bytes rest start room within =
    let none : drop (start + (length memory - start)) memory ≡ [] = drop_all (start + (length memory - start)) memory (omega arith) in
    take-append-le (length memory - start) bytes rest room ∙ sym (append-nil (take (length memory - start) bytes)) ∙ ap (λ back. take (length memory - start) bytes ++ back) (sym none)

after_front : (memory bytes : List ℕ) (offset start count : ℕ) → start ≡ min offset (length memory) → count ≡ min (length bytes) (length memory - start)
    → take (length memory - start) (bytes ++ drop (offset + length bytes) memory) ≡ take count bytes ++ drop (start + count) memory
after_front memory bytes offset start count at many =
    elim (cases_lt (length memory - start) (length bytes)) [
      | inl cut ↦
          let all : count ≡ length memory - start = omega arith in
          cut_off memory bytes (drop (offset + length bytes) memory) start (omega arith) (omega arith) ∙ ap (λ n. take n bytes ++ drop (start + n) memory) (sym all)
      | inr fit ↦
          let all : count ≡ length bytes = omega arith in
          all_fit memory bytes offset start at (omega arith)
          ∙ ap (λ front. front ++ drop (start + length bytes) memory) (sym (take_all (length bytes) bytes (omega arith)))
          ∙ ap (λ n. take n bytes ++ drop (start + n) memory) (sym all)
    ]

pub overwritten_is : (memory bytes : List ℕ) (offset start count : ℕ) → start ≡ min offset (length memory) → count ≡ min (length bytes) (length memory - start)
    → take start memory ++ (take count bytes ++ drop (start + count) memory) ≡ overwritten memory offset bytes
overwritten_is memory bytes offset start count at many =
    let rest = drop (offset + length bytes) memory in
    let front : take start memory ≡ take offset memory = ap (λ n. take n memory) at ∙ take_min offset memory in
    let len : length (take start memory) ≡ start = length-take-le start memory (omega arith) in
    let split : length memory ≡ length (take start memory) + (length memory - start) = omega (arith, len) in
    sym (
    ap (λ xs. take (length memory) xs) (append_assoc (take offset memory) bytes rest)
    ∙ ap (λ xs. take (length memory) (xs ++ (bytes ++ rest))) (sym front)
    ∙ ap (λ n. take n (take start memory ++ (bytes ++ rest))) split
    ∙ take-append-add (take start memory) (bytes ++ rest) (length memory - start)
    ∙ ap (λ back. take start memory ++ back) (after_front memory bytes offset start count at many)
    )

-- as the code writes it
pub put_mid-overwrites : (memory bytes new : List ℕ) (offset start count : ℕ) → start ≡ min offset (length memory) → count ≡ min (length bytes) (length memory - start) → new ≡ take count bytes
    → put_mid start (start + count - start) memory new ≡ overwritten memory offset bytes
put_mid-overwrites memory bytes new offset start count at many written =
    let len : start + count - start ≡ count = omega arith in
    ap (λ k. take start memory ++ (new ++ drop k (drop start memory))) len
    ∙ ap (λ back. take start memory ++ (new ++ back)) (drop-drop count start memory)
    ∙ ap (λ front. take start memory ++ (front ++ drop (start + count) memory)) written
    ∙ overwritten_is memory bytes offset start count at many
