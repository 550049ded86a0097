-- What words say, one after another.
use Rattle.std.proofs.Common.{◌≡◌, ◌⊎◌, inl, inr, ℕ, List, [], ◌∷◌, ◌++◌, cond, false, Result, Ok, Err, refl, sym, ap, ◌∙◌, append_assoc, arith}
use Rattle.std.proofs.lemmas.List.{append-nil}
use Rattle.std.specs.List.{starts_with}
use Rattle.std.specs.Option.{ok_or}
use Rattle.std.specs.Result.{result_ok}
use Rattle.std.specs.Str.{bytes_eq}
use Rattle.std.specs.Prelude.{codes, nat_eq}
use Rattle.std.proofs.lemmas.Bool.Decides.{nat_tests}
use Rattle.hex.specs.Hex.{decode_of}
use Rattle.hex.specs.declared.error.FromHexError.{FromHexError}
use Rattle.hex.specs.declared.error.FromHexError.TheVariants as hex
use Rattle.device_script.specs.declared.error.Cause.{Cause}
use Rattle.device_script.specs.declared.error.Cause.TheVariants as cause
use Rattle.device_script.specs.Saying.{number_said, numbers_said, bytes_of_digits, hex_said, ◌>>=◌, is_comment, said}
use Rattle.device_script.specs.Told.{Tells, hex_refusal}
use Rattle.device_script.proofs.HexLemmas.{digits_read}

-- ---- values

-- the values that were read, and then these
abbrev pub after_values : List ℕ → Result (List ℕ) Cause → Result (List ℕ) Cause
after_values vs (Ok ns) = Ok (vs ++ ns)
after_values vs (Err c) = Err c

pub no_values : (r : Result (List ℕ) Cause) → r ≡ after_values [] r
no_values (Ok ns) = refl
no_values (Err c) = refl

value_before : ℕ → Result (List ℕ) Cause → Result (List ℕ) Cause
value_before n (Ok ns) = Ok (n ∷ ns)
value_before n (Err c) = Err c

numbers_first : (word : List ℕ) (words : List (List ℕ)) (n : ℕ) → number_said word ≡ Ok n → numbers_said (word ∷ words) ≡ value_before n (numbers_said words)
unfolding value_before
numbers_first word words n e = rw e (by (numbers_said words))
  where
    by : (r : Result (List ℕ) Cause) → (r >>= (λ ns. Ok (n ∷ ns))) ≡ value_before n r
    by (Ok ns) = refl
    by (Err c) = refl

value_moves : (vs : List ℕ) (n : ℕ) (r : Result (List ℕ) Cause) → after_values vs (value_before n r) ≡ after_values (vs ++ n ∷ []) r
unfolding value_before
value_moves vs n (Ok ns) = ap Ok (sym (append_assoc vs (n ∷ []) ns))
value_moves vs n (Err c) = refl

pub one_more : (whole : Result (List ℕ) Cause) (vs : List ℕ) (words : List (List ℕ)) (word : List ℕ) (rest : List (List ℕ)) (n : ℕ)
    → whole ≡ after_values vs (numbers_said words) → words ≡ word ∷ rest → number_said word ≡ Ok n → whole ≡ after_values (vs ++ n ∷ []) (numbers_said rest)
one_more whole vs words word rest n so_far first read =
    so_far ∙ ap (λ ws. after_values vs (numbers_said ws)) first ∙ ap (after_values vs) (numbers_first word rest n read) ∙ value_moves vs n (numbers_said rest)

pub wrong_number : (whole : Result (List ℕ) Cause) (vs : List ℕ) (words : List (List ℕ)) (word : List ℕ) (rest : List (List ℕ)) (c : Cause)
    → whole ≡ after_values vs (numbers_said words) → words ≡ word ∷ rest → number_said word ≡ Err c → whole ≡ Err c
wrong_number whole vs words word rest c so_far first read =
    so_far ∙ ap (λ ws. after_values vs (numbers_said ws)) first ∙ rw read refl

pub all_values : (whole : Result (List ℕ) Cause) (vs : List ℕ) (words : List (List ℕ))
    → whole ≡ after_values vs (numbers_said words) → words ≡ [] → whole ≡ Ok vs
all_values whole vs words so_far none = so_far ∙ ap (λ ws. after_values vs (numbers_said ws)) none ∙ ap Ok (append-nil vs)

-- ---- bytes

pub hex_ok : (word bytes : List ℕ) → bytes_eq word (codes "-") ≡ false → decode_of word ≡ Ok bytes → hex_said word ≡ Ok bytes
hex_ok word bytes some read =
    ap (λ t. cond t (Ok []) (ok_or (bytes_of_digits word) cause.Hex)) some ∙ ap (λ o. ok_or o cause.Hex) (digits_read word ∙ ap result_ok read)

pub hex_wrong : (word : List ℕ) (e : FromHexError) → bytes_eq word (codes "-") ≡ false → decode_of word ≡ Err e → hex_said word ≡ Err cause.Hex
hex_wrong word e some read =
    ap (λ t. cond t (Ok []) (ok_or (bytes_of_digits word) cause.Hex)) some ∙ ap (λ o. ok_or o cause.Hex) (digits_read word ∙ ap result_ok read)

-- whatever kept the digits from being read
pub hex_told : (word : List ℕ) (e : FromHexError) → bytes_eq word (codes "-") ≡ false → (e ≡ hex.OutOfMemory) ⊎ (decode_of word ≡ Err e) → Tells {X = List ℕ} (Err (hex_refusal e)) (hex_said word)
hex_told word (hex.InvalidHexCharacter c i) some (inl out) = absurd (cc)
hex_told word (hex.InvalidHexCharacter c i) some (inr bad) = hex_wrong word (hex.InvalidHexCharacter c i) some bad
hex_told word hex.OddLength some (inl out) = absurd (cc)
hex_told word hex.OddLength some (inr bad) = hex_wrong word hex.OddLength some bad
hex_told word hex.InvalidStringLength some (inl out) = absurd (cc)
hex_told word hex.InvalidStringLength some (inr bad) = hex_wrong word hex.InvalidStringLength some bad
hex_told word hex.OutOfMemory some out = tt

-- ---- the first word

comment_begins : (word : List ℕ) → starts_with nat_eq word (codes "#") ≡ is_comment word
comment_begins [] = refl
comment_begins (b ∷ bs) = grind (arith, nat_tests)

-- it begins no comment and no rule
pub unknown_word : (words : List (List ℕ)) (first : List ℕ) (rest : List (List ℕ)) → words ≡ first ∷ rest
    → starts_with nat_eq first (codes "#") ≡ false → bytes_eq first (codes "memory") ≡ false → bytes_eq first (codes "register") ≡ false → bytes_eq first (codes "queue") ≡ false
    → bytes_eq first (codes "counter") ≡ false → bytes_eq first (codes "collector") ≡ false → bytes_eq first (codes "foreign") ≡ false
    → said words ≡ Err cause.Word
unknown_word words first rest is none memory register queue counter collector foreign =
    let no_comment : is_comment first ≡ false = sym (comment_begins first) ∙ none in
    ap said is ∙ simp (no_comment, memory, register, queue, counter, collector, foreign)
