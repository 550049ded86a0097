-- Images: what they hold, and their bytes.
use Rattle.std.specs.Prelude.{◌≡◌, ℕ, ◌-◌, ◌%◌, ◌^◌, ◌<◌, ◌≤◌, ◌&&◌, not, Bool, true, List, [], ◌∷◌, ◌++◌, length, replicate, codes, Option, unwrap_or, IsTrue}
use Rattle.std.specs.List.{flat_map, list_any}
use Rattle.std.specs.Option.{ForSome}
use Rattle.std.specs.Str.{bytes_eq}
use Rattle.std.specs.Int.{w16, w32, w64, to_le_bytes}
use Rattle.pan_base.specs.Names.{is_short_foreign_name}
use Rattle.pan_base.specs.Words.{IsBytes}

-- what an image holds: the code, the names of foreign functions by number, and the bound on the stack in bytes, if it has one
pub record ImageParts : Type 0 where
  pub code : List ℕ
  pub names : List (List ℕ)
  pub bound : Option ℕ

-- each is a short foreign name that differs from the names before it
abbrev pub are_foreign_names : List (List ℕ) → Bool
are_foreign_names [] = true
are_foreign_names (name ∷ names) = is_short_foreign_name name && not (list_any (λ other. bytes_eq other name) names) && are_foreign_names names

-- the names part: each name after its length
abbrev pub names_part : List (List ℕ) → List ℕ
names_part names = flat_map (λ name. to_le_bytes w16 (length name) ++ name) names

-- The layout: the bytes PNK1, then the code's length, the entry 0, the number of names, the bound, the length of the names part,
-- zero, the names part with zeros up to a multiple of 4, and the code.
abbrev pub layout : ImageParts → List ℕ
layout parts =
    codes "PNK1" ++ to_le_bytes w32 (length parts.code) ++ to_le_bytes w32 0 ++ to_le_bytes w32 (length parts.names) ++ to_le_bytes w64 (unwrap_or parts.bound (2 ^ 64 - 1))
    ++ to_le_bytes w32 (length (names_part parts.names)) ++ to_le_bytes w32 0
    ++ names_part parts.names ++ replicate ((4 - length (names_part parts.names) % 4) % 4) 0 ++ parts.code

-- code that an image may hold: whole words, and at most 268,439,552 bytes
pub record IsLawfulCode (code : List ℕ) : Type 0 where
  pub whole : length code % 4 ≡ 0
  pub most : length code ≤ 268439552
  pub bytes : IsBytes code

-- names that an image may hold: at most 1,024 short foreign names that differ
pub record AreLawfulNames (names : List (List ℕ)) : Type 0 where
  pub named : IsTrue (are_foreign_names names)
  pub count : length names ≤ 1024

-- what an image may hold
pub record IsLawfulImage (parts : ImageParts) : Type 0 where
  pub whole : length parts.code % 4 ≡ 0
  pub most : length parts.code ≤ 268439552
  pub bytes : IsBytes parts.code
  pub named : IsTrue (are_foreign_names parts.names)
  pub count : length parts.names ≤ 1024
  pub part : length (names_part parts.names) ≤ 67584
  pub bounded : ForSome parts.bound (λ n. n < 2 ^ 64 - 1)

-- these bytes are the image of these parts
pub record ImageOf (image : List ℕ) (parts : ImageParts) : Type 0 where
  pub lawful : IsLawfulImage parts
  pub spelled : image ≡ layout parts
