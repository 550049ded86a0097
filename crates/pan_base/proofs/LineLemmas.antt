-- A line that is put in parts: what is put and what is held back go on by one text after another.
use Rattle.std.proofs.Common.{◌≡◌, ℕ, ◌+◌, ◌<◌, List, [], ◌∷◌, ◌++◌, length, take, get_or, Result, Ok, Err, sym, ap, ◌∙◌, append_assoc}
use Rattle.std.specs.List.{flat_map}
use Rattle.std.proofs.lemmas.List.{append-nil, take_more}
use Rattle.std.proofs.lemmas.List.Concat.{flat_map-append}
use Rattle.pan_base.specs.Sinks.{SinkState, Took, TookFront, PutsAll}
use Rattle.pan_base.specs.Pieces.{PassedOn, Passes}
use Rattle.pan_base.proofs.TookLemmas.{Took-none, Took-more, TookFront-on}

pub passed_none : (a : SinkState) (held : List ℕ) → PassedOn a a held held []
passed_none a held = record { put = []; all = append-nil held; took = Took-none a }

pub passed_more : (a b c : SinkState) (held kept last xs ys : List ℕ) → PassedOn a b held kept xs → PassedOn b c kept last ys → PassedOn a c held last (xs ++ ys)
passed_more a b c held kept last xs ys p q = record {
  put = p.put ++ q.put;
  all = sym (append_assoc held xs ys) ∙ ap (λ t. t ++ ys) p.all ∙ append_assoc p.put kept ys ∙ ap (λ t. p.put ++ t) q.all ∙ sym (append_assoc p.put q.put last);
  took = Took-more a b c p.put q.put p.took q.took;
}

-- it fails at a text that others come before and after
pub passed_front : (a b c : SinkState) (held kept xs ys zs all : List ℕ) → PassedOn a b held kept xs → TookFront b c (kept ++ ys) → all ≡ xs ++ (ys ++ zs) → TookFront a c (held ++ all)
passed_front a b c held kept xs ys zs all p q e =
    TookFront-on a b c p.put (kept ++ ys) zs (held ++ all) p.took q
    (ap (λ t. held ++ t) e ∙ sym (append_assoc held xs (ys ++ zs)) ∙ ap (λ t. t ++ (ys ++ zs)) p.all ∙ append_assoc p.put kept (ys ++ zs) ∙ ap (λ t. p.put ++ t) (sym (append_assoc kept ys zs)))

-- what is held back is put last
pub all_put : {A E : Type 0} (r : Result A E) (a b c : SinkState) (kept bs : List ℕ) → PassedOn a b [] kept bs → PutsAll b c r kept → PutsAll a c r bs
all_put (Ok x) a b c kept bs p q = rw p.all (Took-more a b c p.put kept p.took q)
all_put (Err e) a b c kept bs p q = TookFront-on a b c p.put kept [] bs p.took q (p.all ∙ ap (λ t. p.put ++ t) (sym (append-nil kept)))

-- what is held back is put, and then a text
pub put_whole : {A E : Type 0} (r : Result A E) (a b c : SinkState) (held kept text : List ℕ) → Took a b held → kept ≡ [] → PutsAll b c r text → Passes a c r held kept text
put_whole (Ok x) a b c held kept text p e q = record { put = held ++ text; all = sym (ap (λ t. held ++ text ++ t) e ∙ append-nil (held ++ text)); took = Took-more a b c held text p q }
put_whole (Err x) a b c held kept text p e q = TookFront-on a b c held text [] (held ++ text) p q (ap (λ t. held ++ t) (sym (append-nil text)))

-- the texts up to one, and that one
pub next_text : {X : Type 0} (f : X → List ℕ) (xs : List X) (i : ℕ) (d : X) → i < length xs → flat_map f (take (i + 1) xs) ≡ flat_map f (take i xs) ++ f (get_or xs i d)
next_text f xs i d h =
    ap (flat_map f) (take_more xs i d h) ∙ flat_map-append f (take i xs) (get_or xs i d ∷ []) ∙ ap (λ t. flat_map f (take i xs) ++ t) (append-nil (f (get_or xs i d)))
