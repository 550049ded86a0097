-- Bytes without a fault are an image, and the bytes of an image have none.
use Rattle.std.proofs.Common.{◌≡◌, ℕ, ◌+◌, ◌-◌, ◌%◌, ◌^◌, ◌<◌, ◌≤◌, Bool, true, false, cond, ltb, leb, eqb, ◌&&◌, not, List, [], ◌∷◌, ◌++◌, length, take, drop, replicate, codes, Some, None, refl, sym, ap, ◌∙◌, arith}
use Rattle.std.specs.List.{list_any, starts_with}
use Rattle.std.specs.Option.{unwrap_or, ForSome}
use Rattle.std.proofs.lemmas.Bool.{and_parts, or_parts, not-false, ltb-false, leb-true, eqb-true, eqb-false, le-ltb, le-leb, eq-eqb}
use Rattle.std.proofs.lemmas.List.{append-nil, take_all, length-take, length-drop, nil_from_length}
use Rattle.std.proofs.lemmas.Slice.Eq.{bytes_eq-Decides}
use Rattle.pan_base.specs.Words.{IsBytes}
use Rattle.riscv_isa.specs.Image.{ImageOf, names_part, are_foreign_names}
use Rattle.image_file.specs.declared.error.FieldName.TheVariants as field
use Rattle.image_file.specs.declared.error.ImageError.TheVariants.{Magic, Short, Field, Padding, Tail}
use Rattle.image_file.specs.declared.header.Header.{Header}
use Rattle.image_file.specs.Faults.{first_fault, header_tests}
use Rattle.image_file.specs.Fields.{header_of, padding, size, names_bytes, padding_bytes, code_bytes, tail_bytes, names_at, left_after}
use Rattle.image_file.specs.Split.{bound_in}
use Rattle.image_file.proofs.FaultLaws.{none_holds, tests_of_end}
use Rattle.image_file.proofs.HeaderLaws.{fields_are, join, bound_fits, header-header_of}
use Rattle.image_file.proofs.NameLaws.{names_taken}
use Rattle.image_file.proofs.Numbers.{IsBytes-drop, IsBytes-take}

-- what a header without a fault says
pub record IsRight (bytes : List ℕ) (h : Header) : Type 0 where
  pub magic : starts_with eqb (codes "PNK1") (take 4 bytes) ≡ true
  pub long : 32 ≤ length bytes
  pub whole : h.code_len % 4 ≡ 0
  pub most : h.code_len ≤ 268439552
  pub entry : h.entry ≡ 0
  pub count : h.name_count ≤ 1024
  pub names : h.names_len ≤ 67584
  pub zero : h.zero ≡ 0
  pub there : size h ≤ length bytes

not_and : (a b : Bool) → not (a && b) ≡ false → (a ≡ true) × (b ≡ true)
not_and a b h = and_parts a b (not-false (a && b) h)

pub header_is_right : (bytes : List ℕ) → first_fault (header_tests bytes) ≡ None → IsRight bytes (header_of bytes)
header_is_right bytes e =
    let h = header_of bytes in
    let a = none_holds (not (starts_with eqb (codes "PNK1") (take 4 bytes))) Magic _ e in
    let b = none_holds (ltb (length bytes) 32) Short _ a.1 in
    let c = none_holds (not (eqb (h.code_len % 4) 0 && leb h.code_len 268439552)) (Field field.Code) _ b.1 in
    let d = none_holds (not (eqb h.entry 0)) (Field field.Entry) _ c.1 in
    let f = none_holds (ltb 1024 h.name_count) (Field field.Count) _ d.1 in
    let g = none_holds (ltb 67584 h.names_len) (Field field.Names) _ f.1 in
    let k = none_holds (not (eqb h.zero 0)) (Field field.Zero) _ g.1 in
    let l = none_holds (ltb (length bytes) (size h)) Short _ k.1 in
    let code = not_and (eqb (h.code_len % 4) 0) (leb h.code_len 268439552) c.0 in
    record {
      magic = not-false _ a.0;
      long = ltb-false _ _ b.0;
      whole = eqb-true _ _ code.0;
      most = leb-true _ _ code.1;
      entry = eqb-true _ _ (not-false _ d.0);
      count = ltb-false _ _ f.0;
      names = ltb-false _ _ g.0;
      zero = eqb-true _ _ (not-false _ k.0);
      there = ltb-false _ _ l.0;
    }

pub right_header : (bytes : List ℕ) → IsRight bytes (header_of bytes) → first_fault (header_tests bytes) ≡ None
right_header bytes r =
    let h = header_of bytes in
    let a : ltb (length bytes) 32 ≡ false = le-ltb _ _ r.long in
    let b : eqb (h.code_len % 4) 0 ≡ true = eq-eqb _ _ r.whole in
    let c : leb h.code_len 268439552 ≡ true = le-leb _ _ r.most in
    let d : ltb 1024 h.name_count ≡ false = le-ltb _ _ r.count in
    let e : ltb 67584 h.names_len ≡ false = le-ltb _ _ r.names in
    let f : ltb (length bytes) (size h) ≡ false = le-ltb _ _ r.there in
    rw (r.magic, a, b, c, r.entry, d, e, r.zero, f) refl

-- ---- the parts

zeros : (bs : List ℕ) → list_any (λ b. not (eqb b 0)) bs ≡ false → bs ≡ replicate (length bs) 0
zeros [] h = refl
zeros (b ∷ bs) h =
    let p = or_parts (not (eqb b 0)) (list_any (λ b. not (eqb b 0)) bs) h in
    let e : b ≡ 0 = eqb-true b 0 (not-false (eqb b 0) p.0) in
    rw e (ap (λ (t : List ℕ). 0 ∷ t) (zeros bs p.1))

magic_is : (bytes : List ℕ) → 4 ≤ length bytes → starts_with eqb (codes "PNK1") (take 4 bytes) ≡ true → take 4 bytes ≡ codes "PNK1"
magic_is bytes le h =
    let len : length (take 4 bytes) ≡ 4 = omega (arith, length-take 4 bytes) in
    (bytes_eq-Decides (take 4 bytes) (take (length (take 4 bytes)) (codes "PNK1"))).0 h ∙ ap (λ (n : ℕ). take n (codes "PNK1")) len

-- the word that stands for the bound that a word stands for
word_by : (b : Bool) (w : ℕ) → eqb w (2 ^ 64 - 1) ≡ b → unwrap_or (cond b None (Some w)) (2 ^ 64 - 1) ≡ w
word_by true w e = sym (eqb-true w (2 ^ 64 - 1) e)
word_by false w e = refl

bounded_by : (b : Bool) (w : ℕ) → w < 2 ^ 64 → eqb w (2 ^ 64 - 1) ≡ b → ForSome (cond b None (Some w)) (λ n. n < 2 ^ 64 - 1)
bounded_by true w lt e n is = absurd cc
bounded_by false w lt e n is =
    let apart = eqb-false w (2 ^ 64 - 1) e in let same : w ≡ n = cc in omega arith

assemble : (bytes head part pad code : List ℕ) (n p c : ℕ) → head ≡ take 32 bytes → part ≡ take n (drop 32 bytes) → pad ≡ take p (drop (32 + n) bytes) → code ≡ take c (drop (32 + n + p) bytes)
    → length bytes ≤ 32 + n + p + c → head ++ part ++ pad ++ code ≡ bytes
assemble bytes head part pad code n p c eh en ep ec le =
    rw (eh, en, join 32 n bytes, ep, join (32 + n) p bytes, ec, join (32 + n + p) c bytes) (take_all (32 + n + p + c) bytes le)

-- bytes without a fault are the image of their parts
pub is_image : (bytes : List ℕ) (names : List (List ℕ)) (left : List ℕ) → IsBytes bytes → first_fault (header_tests bytes) ≡ None → names_at (header_of bytes).name_count (names_bytes bytes) ≡ Some (names, left)
    → are_foreign_names names ≡ true → first_fault (tests_of_end bytes) ≡ None → ImageOf bytes (record { code = code_bytes bytes; names = names; bound = bound_in (header_of bytes).bound })
is_image bytes names left fits header_none at lawful end_none =
    let h = header_of bytes in
    let r = header_is_right bytes header_none in
    let t = names_taken h.name_count (names_bytes bytes) names left (IsBytes-take h.names_len (drop 32 bytes) (IsBytes-drop 32 bytes fits)) at in
    let f1 = none_holds (ltb 0 (length (left_after h.name_count (names_bytes bytes)))) (Field field.Names) _ end_none in
    let f2 = none_holds (list_any (λ b. not (eqb b 0)) (padding_bytes bytes)) Padding _ f1.1 in
    let f3 = none_holds (ltb 0 (length (tail_bytes bytes))) Tail _ f2.1 in
    let more : ltb 0 (length left) ≡ false = rw at at f1.0 in
    let left_none : left ≡ [] = nil_from_length left (let k = ltb-false 0 (length left) more in omega arith) in
    let le : length bytes ≤ size h = let k = ltb-false 0 (length (tail_bytes bytes)) f3.0 in omega (arith, length-drop (size h) bytes) in
    let there = r.there in
    let cut32 = length-drop 32 bytes in
    let part : names_part names ≡ names_bytes bytes = sym (t.parts ∙ rw left_none (append-nil (names_part names))) in
    let part_len : length (names_part names) ≡ h.names_len = rw part (omega (arith, length-take h.names_len (drop 32 bytes))) in
    let pad_len : length (padding_bytes bytes) ≡ padding h.names_len = omega (arith, length-take (padding h.names_len) (drop (32 + h.names_len) bytes), length-drop (32 + h.names_len) bytes) in
    let code_len : length (code_bytes bytes) ≡ h.code_len = omega (arith, length-take h.code_len (drop (32 + h.names_len + padding h.names_len) bytes), length-drop (32 + h.names_len + padding h.names_len) bytes) in
    let pad_is : padding (length (names_part names)) ≡ length (padding_bytes bytes) = rw part_len (sym pad_len) in
    let pad : replicate (padding (length (names_part names))) 0 ≡ padding_bytes bytes = ap (λ (k : ℕ). replicate k 0) pad_is ∙ sym (zeros (padding_bytes bytes) f2.0) in
    let word : unwrap_or (bound_in h.bound) (2 ^ 64 - 1) ≡ h.bound = word_by _ h.bound refl in
    let says = fields_are h (length (code_bytes bytes)) (length names) (unwrap_or (bound_in h.bound) (2 ^ 64 - 1)) (length (names_part names)) r.entry r.zero (sym code_len) (sym t.count) (sym word) (sym part_len) in
    let head = header-header_of bytes (length (code_bytes bytes)) (length names) (unwrap_or (bound_in h.bound) (2 ^ 64 - 1)) (length (names_part names)) r.long fits (magic_is bytes (omega arith) r.magic) says in
    let all = assemble bytes _ (names_part names) (replicate (padding (length (names_part names))) 0) (code_bytes bytes) h.names_len (padding h.names_len) h.code_len head part pad refl le in
    record {
      lawful = record {
        whole = rw code_len r.whole;
        most = rw code_len r.most;
        bytes = IsBytes-take h.code_len _ (IsBytes-drop (32 + h.names_len + padding h.names_len) bytes fits);
        named = lawful;
        count = rw t.count r.count;
        part = rw part_len r.names;
        bounded = bounded_by _ h.bound (bound_fits bytes fits) refl;
      };
      spelled = sym all;
    }
