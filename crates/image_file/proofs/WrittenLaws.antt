-- What is read from the bytes of an image.
use Rattle.std.proofs.Common.{◌≡◌, ℕ, zero, suc, ◌+◌, ◌-◌, ◌^◌, ◌<◌, ◌≤◌, true, false, eqb, not, List, [], ◌++◌, length, take, drop, replicate, codes, Option, Some, None, refl, sym, ap, subst, ◌∙◌, append_assoc, arith, IsTrue}
use Rattle.std.specs.List.{list_any, starts_with}
use Rattle.std.specs.Option.{unwrap_or, ForSome}
use Rattle.std.proofs.lemmas.Bool.{ne_eqb}
use Rattle.std.proofs.lemmas.List.{append-nil, take_all, take_at, drop_all, drop_at, drop-drop, length-append, length-replicate}
use Rattle.riscv_isa.specs.Image.{ImageParts, IsLawfulImage, ImageOf, layout, names_part, are_foreign_names}
use Rattle.image_file.specs.Faults.{first_fault, name_tests, fault_of}
use Rattle.image_file.specs.Fields.{header_of, padding, size, names_bytes, padding_bytes, code_bytes, tail_bytes, names_at, left_after}
use Rattle.image_file.specs.Split.{header, bound_in}
use Rattle.image_file.proofs.FaultLaws.{at_end, tests_of_end}
use Rattle.image_file.proofs.HeaderLaws.{fields, header_of-header}
use Rattle.image_file.proofs.ImageLaws.{IsRight, right_header}
use Rattle.image_file.proofs.NameLaws.{names_again, some_is}

-- the bytes are read as these parts, and nothing is wrong with them
pub record Reads (bytes : List ℕ) (parts : ImageParts) : Type 0 where
  pub code_is : code_bytes bytes ≡ parts.code
  pub names_are : names_at (header_of bytes).name_count (names_bytes bytes) ≡ Some (parts.names, [])
  pub bound_is : bound_in (header_of bytes).bound ≡ parts.bound
  pub right : fault_of bytes ≡ None

none_other : (n : ℕ) → list_any (λ b. not (eqb b 0)) (replicate n 0) ≡ false
none_other zero = refl
none_other (suc n) = none_other n

word_below : (bound : Option ℕ) → ForSome bound (λ n. n < 2 ^ 64 - 1) → unwrap_or bound (2 ^ 64 - 1) < 2 ^ 64
word_below None h = omega arith
word_below (Some n) h = let lt = h n refl in omega arith

bound_back : (bound : Option ℕ) → ForSome bound (λ n. n < 2 ^ 64 - 1) → bound_in (unwrap_or bound (2 ^ 64 - 1)) ≡ bound
bound_back None h = refl
bound_back (Some n) h =
    let lt = h n refl in
    let apart : n ≡ 2 ^ 64 - 1 → ⊥ = λ e. omega arith in
    rw (ne_eqb n (2 ^ 64 - 1) apart) refl

-- the names of a written part
names_back : (names : List (List ℕ)) (lawful : IsTrue (are_foreign_names names)) → (names_at (length names) (names_part names) ≡ Some (names, [])) × (first_fault (name_tests (names_part names) 0 (length names)) ≡ None)
unfolding names_at
names_back names lawful =
    let start : names_at 0 (names_part names) ≡ Some ([], names_part names ++ []) = rw (append-nil (names_part names)) refl in
    let all = names_again (names_part names) [] names [] start lawful in
    let k : 0 + length names ≡ length names = omega arith in
    (rw k at all.0, all.1)

reads_layout : (bytes : List ℕ) (parts : ImageParts) → IsLawfulImage parts → bytes ≡ layout parts → Reads bytes parts
reads_layout bytes parts l spelled =
    let code = parts.code in
    let names = parts.names in
    let bound = parts.bound in
    let part = names_part names in
    let n = length part in
    let pad : List ℕ = replicate (padding n) 0 in
    let word = unwrap_or bound (2 ^ 64 - 1) in
    let head = header (length code) (length names) word n in
    let front : bytes ≡ head ++ (part ++ (pad ++ code)) = spelled ∙ append_assoc (head ++ part) pad code ∙ append_assoc head part (pad ++ code) in
    let says : header_of bytes ≡ fields (length code) (length names) word n = ap header_of front ∙ header_of-header (length code) (length names) word n (part ++ (pad ++ code)) (omega arith) (omega arith) (word_below bound l.bounded) (omega arith) in
    let behind_header : drop 32 bytes ≡ part ++ (pad ++ code) = ap (drop 32) front in
    let behind_names : drop (32 + n) bytes ≡ pad ++ code = sym (drop-drop n 32 bytes) ∙ ap (drop n) behind_header ∙ drop_at part (pad ++ code) n refl in
    let behind_padding : drop (32 + n + padding n) bytes ≡ code = sym (drop-drop (padding n) (32 + n) bytes) ∙ ap (drop (padding n)) behind_names ∙ drop_at pad code (padding n) (length-replicate (padding n) 0) in
    let part_is : names_bytes bytes ≡ part = rw (says, behind_header) (take_at part (pad ++ code) n refl) in
    let pad_is : padding_bytes bytes ≡ pad = rw (says, behind_names) (take_at pad code (padding n) (length-replicate (padding n) 0)) in
    let pad_len : length pad ≡ padding n = length-replicate (padding n) 0 in
    let whole : length bytes ≡ size (fields (length code) (length names) word n) =
    rw front (omega (arith, length-append part (pad ++ code), length-append pad code, pad_len)) in
    let b = names_back names l.named in
    let names_are : names_at (header_of bytes).name_count (names_bytes bytes) ≡ Some (names, []) = rw (part_is, says) b.0 in
    let no_name : first_fault (name_tests (names_bytes bytes) 0 (header_of bytes).name_count) ≡ None = rw (part_is, says) b.1 in
    let magic : starts_with eqb (codes "PNK1") (take 4 bytes) ≡ true = ap (λ (bs : List ℕ). starts_with eqb (codes "PNK1") (take 4 bs)) front in
    let there : size (fields (length code) (length names) word n) ≤ length bytes = omega arith in
    let right : IsRight bytes (header_of bytes) = subst (IsRight bytes) (sym says) (record { magic = magic; long = omega arith; whole = l.whole; most = l.most; entry = refl; count = l.count; names = l.part; zero = refl; there = there }) in
    let no_left : left_after (header_of bytes).name_count (names_bytes bytes) ≡ [] = rw names_are refl in
    let no_other : list_any (λ b. not (eqb b 0)) (padding_bytes bytes) ≡ false = rw pad_is (none_other (padding n)) in
    let within : length bytes ≤ size (header_of bytes) = rw says (omega arith) in
    let no_tail : tail_bytes bytes ≡ [] = drop_all (size (header_of bytes)) bytes within in
    let end : first_fault (tests_of_end bytes) ≡ None = rw (no_left, no_other, no_tail) refl in
    record {
      code_is = rw (says, behind_padding) (take_all (length code) code (omega arith));
      names_are = names_are;
      bound_is = rw says (bound_back bound l.bounded);
      right = at_end bytes None (right_header bytes right) no_name end;
    }

pub image_reads : (bytes : List ℕ) (parts : ImageParts) → ImageOf bytes parts → Reads bytes parts
image_reads bytes parts image = reads_layout bytes parts image.lawful image.spelled

-- one row of bytes is one image
pub same_image : (bytes : List ℕ) (parts others : ImageParts) → ImageOf bytes parts → ImageOf bytes others → parts ≡ others
same_image bytes parts others a b =
    let r = image_reads bytes parts a in
    let s = image_reads bytes others b in
    let code : parts.code ≡ others.code = sym r.code_is ∙ s.code_is in
    let names : parts.names ≡ others.names = ap (λ (p : List (List ℕ) × List ℕ). p.0) (some_is (parts.names, []) (others.names, []) (sym r.names_are ∙ s.names_are)) in
    let bound : parts.bound ≡ others.bound = sym r.bound_is ∙ s.bound_is in
    λ i. record { code = code i; names = names i; bound = bound i }
