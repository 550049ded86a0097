-- What is told goes on by nothing, and by one text after another.
use Rattle.std.proofs.Common.{◌≡◌, ℕ, ◌+◌, ◌-◌, ◌%◌, ◌^◌, ◌≤◌, ◌<◌, List, [], ◌∷◌, ◌++◌, length, get_or, take, drop, Option, Some, None, refl, sym, ap, ◌∙◌, arith, add-zero, append_assoc, length-append}
use Rattle.std.proofs.lemmas.List.{append-nil, take_rest, take-append-le, take-append-drop, drop_more}
use Rattle.std.proofs.lemmas.List.Concat.{flat_map-append}
use Rattle.std.specs.List.{flat_map}
use Rattle.std.proofs.Math.Seq.{take-add, take-append-add}
use Rattle.std.proofs.lemmas.Grind.{common_steps}
use Rattle.std.specs.Option.{option_map}
use Rattle.pan_base.specs.Sinks.{SinkState, Took, TookFront, wrapped, feeds}

feeds-append : (xs ys : List ℕ) → feeds (xs ++ ys) ≡ feeds xs + feeds ys
feeds-append xs ys = grind (arith, common_steps)

more_bytes : (a b c : Option (List ℕ)) (xs ys : List ℕ) → b ≡ option_map (λ l. l ++ xs) a → c ≡ option_map (λ l. l ++ ys) b → c ≡ option_map (λ l. l ++ (xs ++ ys)) a
more_bytes None b c xs ys e f = rw e at f
more_bytes (Some l) b c xs ys e f = (rw e at f) ∙ ap Some (append_assoc l xs ys)

same_mod : (m n k j : ℕ) → m % 2 ^ 64 ≡ (n + k) % 2 ^ 64 → (m + j) % 2 ^ 64 ≡ (n + (k + j)) % 2 ^ 64
same_mod m n k j e = omega arith

more_lines : (a b c : Option ℕ) (j k : ℕ) → wrapped b ≡ wrapped (option_map (λ n. n + j) a) → wrapped c ≡ wrapped (option_map (λ n. n + k) b) → wrapped c ≡ wrapped (option_map (λ n. n + (j + k)) a)
more_lines None None c j k e f = f
more_lines None (Some b) c j k e f = cc
more_lines (Some a) None c j k e f = cc
more_lines (Some a) (Some b) c j k e f = f ∙ ap Some (same_mod b a j k (cc))

none_bytes : (a : Option (List ℕ)) → a ≡ option_map (λ l. l ++ []) a
none_bytes None = refl
none_bytes (Some l) = ap Some (sym (append-nil l))

none_lines : (a : Option ℕ) → wrapped a ≡ wrapped (option_map (λ n. n + 0) a)
none_lines None = refl
none_lines (Some n) = rw add-zero refl

pub Took-none : (a : SinkState) → Took a a []
Took-none a = record { bytes = none_bytes a.bytes; lines = none_lines a.lines }

pub Took-more : (a b c : SinkState) (xs ys : List ℕ) → Took a b xs → Took b c ys → Took a c (xs ++ ys)
Took-more a b c xs ys p q = record {
  bytes = more_bytes a.bytes b.bytes c.bytes xs ys p.bytes q.bytes;
  lines = rw (feeds-append xs ys) (more_lines a.lines b.lines c.lines (feeds xs) (feeds ys) p.lines q.lines);
}

-- the piece from i on is put in part
pub Took-slice : (a b c : SinkState) (bs : List ℕ) (i n : ℕ) → Took a b (take i bs) → Took b c (take n (take (length bs - i) (drop i bs))) → Took a c (take (i + n) bs)
Took-slice a b c bs i n p q = rw (take-add i n bs) (Took-more a b c (take i bs) (take n (drop i bs)) p (rw take_rest at q))

-- the first bytes were put, and a front of the next
pub TookFront-on : (a b c : SinkState) (xs ys zs all : List ℕ) → Took a b xs → TookFront b c ys → all ≡ xs ++ (ys ++ zs) → TookFront a c all
TookFront-on a b c xs ys zs all p q e =
    let within : q.count ≤ length ys = q.within in
    rw e (record {
      count = length xs + q.count;
      within = omega (arith, length-append xs (ys ++ zs), length-append ys zs);
      took = rw (take-append-add xs (ys ++ zs) q.count, take-append-le q.count ys zs within) (Took-more a b c xs (take q.count ys) p q.took);
    })

-- the text of one piece among the others
pub joined_at : {X : Type 0} (f : X → List ℕ) (xs : List X) (i : ℕ) (d : X) → i < length xs → flat_map f xs ≡ flat_map f (take i xs) ++ (f (get_or xs i d) ++ flat_map f (drop (i + 1) xs))
joined_at f xs i d h =
    ap (flat_map f) (sym (take-append-drop i xs) ∙ ap (λ t. take i xs ++ t) (drop_more xs i d h)) ∙ flat_map-append f (take i xs) (get_or xs i d ∷ drop (i + 1) xs)
