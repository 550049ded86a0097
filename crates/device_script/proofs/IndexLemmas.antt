-- An index with one rule more, and over rules that keep something else.
use Rattle.std.proofs.Common.{◌≡◌, ℕ, zero, suc, Bool, true, false, ◌&&◌, ◌||◌, cond, eqb, List, [], ◌∷◌, ◌++◌, length, get_or, set, Option, Some, is_some, refl, sym, ap, ◌∙◌, subst, rules}
use Rattle.std.specs.BTreeMap.{BTreeMap, Updates, is_at}
use Rattle.std.specs.Cmp.Lexicographic.{slice_cmp}
use Rattle.std.specs.Map.{KeepsOthers, IsKeyTest, AreApart}
use Rattle.std.specs.Ordering.{is_eq, eq_by_cmp, nat_cmp, ordering_then}
use Rattle.std.specs.declared.cmp.Ordering.{Ordering}
use Rattle.std.specs.declared.cmp.Ordering.TheVariants.{Less, Equal, Greater}
use Rattle.std.specs.declared.vec.Vec.{Vec}
use Rattle.std.specs.Str.{bytes_eq}
use Rattle.std.specs.List.{list_any}
use Rattle.std.proofs.lemmas.Bool.{and_parts, or_parts, or_left, eqb-true}
use Rattle.std.proofs.Math.Bool.{or-false}
use Rattle.std.proofs.lemmas.Map.Text.{is_eq-slice_cmp}
use Rattle.std.proofs.lemmas.Slice.Eq.{bytes_eq-Decides}
use Rattle.std.specs.declared.alloc.Global.{Global}
use Rattle.pan_base.specs.declared.events.Size.{Size}
use Rattle.pan_base.specs.Events.{byte_count}
use Rattle.pan_port.specs.Device.{Given}
use Rattle.device_script.specs.declared.index.Index.{Index}
use Rattle.device_script.specs.declared.rules.Effect.{Effect}
use Rattle.device_script.specs.declared.rules.Rule.{Rule}
use Rattle.device_script.specs.declared.rules.Rule.TheVariants as rule
use Rattle.device_script.specs.Rules.{answers_load, answers_store, answers_call, answer_load, answer_store}
use Rattle.device_script.specs.Index.{place_where, access_cmp, at_access, at_name, IsIndex}
use Rattle.device_script.specs.Script.{is_taken}
use Rattle.device_script.proofs.StepLemmas.{answered}
use Rattle.device_script.proofs.PlaceLemmas.{is_some-place_where, place_where-none, place_where-push, place_where-push_other, place_where-set}

-- ---- which keys are equal

is_eq-nat_cmp : (a b : ℕ) → is_eq (nat_cmp a b) ≡ eqb a b
is_eq-nat_cmp a b = search rules

is_eq-ordering_then : (p q : Ordering) → is_eq (ordering_then p q) ≡ (is_eq p && is_eq q)
is_eq-ordering_then Less q = refl
is_eq-ordering_then Equal q = refl
is_eq-ordering_then Greater q = refl

is_same_access : (bytes addr b a : ℕ) → is_at (access_cmp (bytes, addr)) (b, a) ≡ (eqb bytes b && eqb addr a)
is_same_access bytes addr b a =
    is_eq-ordering_then (nat_cmp bytes b) (nat_cmp addr a) ∙ ap (λ t. t && is_eq (nat_cmp addr a)) (is_eq-nat_cmp bytes b) ∙ ap (λ t. eqb bytes b && t) (is_eq-nat_cmp addr a)

-- ---- one rule more

-- the map of accesses has the new rule where it answers
pub access_pushed : (m n : BTreeMap (ℕ × ℕ) ℕ) (test : Rule → ℕ → ℕ → Bool) (rs : List Rule) (r : Rule) (bytes addr at : ℕ)
    → Updates access_cmp m n (bytes, addr) (Some at)
    → ((b a : ℕ) → at_access m b a ≡ place_where (λ s. test s b a) rs)
    → at ≡ length rs
    → ((b a : ℕ) → test r b a ≡ (eqb bytes b && eqb addr a))
    → list_any (λ s. test s bytes addr) rs ≡ false
    → (b a : ℕ) → at_access n b a ≡ place_where (λ s. test s b a) (rs ++ r ∷ [])
access_pushed m n test rs r bytes addr at updates before last new free b a =
    updates.0 (b, a) ∙ by (eqb bytes b && eqb addr a) refl
  where
    by : (t : Bool) → (eqb bytes b && eqb addr a) ≡ t → cond (is_at (access_cmp (bytes, addr)) (b, a)) (Some at) (at_access m b a) ≡ place_where (λ s. test s b a) (rs ++ r ∷ [])
    by true is =
        let parts = and_parts (eqb bytes b) (eqb addr a) is in
        let here : list_any (λ s. test s b a) rs ≡ false = rw (← eqb-true bytes b parts.0, ← eqb-true addr a parts.1) free in
        ap (λ t. cond t (Some at) (at_access m b a)) (is_same_access bytes addr b a ∙ is)
        ∙ ap Some last
        ∙ sym (place_where-push (λ s. test s b a) rs r (place_where-none (λ s. test s b a) rs here) (new b a ∙ is))
    by false is =
        ap (λ t. cond t (Some at) (at_access m b a)) (is_same_access bytes addr b a ∙ is)
        ∙ before b a
        ∙ sym (place_where-push_other (λ s. test s b a) rs r (new b a ∙ is))

-- the map of names has the new rule at its name
pub name_pushed : {Y : Type 0} (m n : BTreeMap (Vec ℕ Y) ℕ) (rs : List Rule) (r : Rule) (key : Vec ℕ Y) (at : ℕ)
    → Updates (λ x y. slice_cmp nat_cmp x.items y.items) m n key (Some at)
    → ((name : List ℕ) → at_name m name ≡ place_where (λ s. answers_call s name) rs)
    → at ≡ length rs
    → ((name : List ℕ) → answers_call r name ≡ bytes_eq key.items name)
    → list_any (λ s. answers_call s key.items) rs ≡ false
    → (name : List ℕ) → at_name n name ≡ place_where (λ s. answers_call s name) (rs ++ r ∷ [])
unfolding KeepsOthers
name_pushed {Y} m n rs r key at updates before last new free name = by (bytes_eq key.items name) refl
  where
    by : (t : Bool) → bytes_eq key.items name ≡ t → at_name n name ≡ place_where (λ s. answers_call s name) (rs ++ r ∷ [])
    by true is =
        let same : key.items ≡ name = (bytes_eq-Decides key.items name).0 is in
        let here : list_any (λ s. answers_call s name) rs ≡ false = rw (← same) free in
        ap (at_name n) (sym same) ∙ updates.1 ∙ ap Some last
        ∙ sym (place_where-push (λ s. answers_call s name) rs r (place_where-none (λ s. answers_call s name) rs here) (new name ∙ is))
    by false is =
        updates.3 (λ k. is_eq (slice_cmp nat_cmp name k.items)) one apart
        ∙ before name
        ∙ sym (place_where-push_other (λ s. answers_call s name) rs r (new name ∙ is))
      where
        one : IsKeyTest (eq_by_cmp (λ (x y : Vec ℕ Y). slice_cmp nat_cmp x.items y.items)) (λ (k : Vec ℕ Y). is_eq (slice_cmp nat_cmp name k.items))
        one x y passes =
            let same : name ≡ x.items = (bytes_eq-Decides name x.items).0 (sym (is_eq-slice_cmp name x.items) ∙ passes) in
            ap (λ (name : List ℕ). is_eq (slice_cmp nat_cmp name y.items)) same

        apart : AreApart (is_at (λ (k : Vec ℕ Y). slice_cmp nat_cmp key.items k.items)) (λ (k : Vec ℕ Y). is_eq (slice_cmp nat_cmp name k.items))
        apart k passes = other (is_eq (slice_cmp nat_cmp name k.items)) refl
          where
            other : (t : Bool) → is_eq (slice_cmp nat_cmp name k.items) ≡ t → t ≡ false
            other false e = refl
            other true e =
                let first : key.items ≡ k.items = (bytes_eq-Decides key.items k.items).0 (sym (is_eq-slice_cmp key.items k.items) ∙ passes) in
                let second : name ≡ k.items = (bytes_eq-Decides name k.items).0 (sym (is_eq-slice_cmp name k.items) ∙ e) in
                let equal : bytes_eq key.items name ≡ true = (bytes_eq-Decides key.items name).1 (first ∙ sym second) in
                absurd (cc)

-- a map that stays, where the new rule doesn't answer
pub access_kept : (m : BTreeMap (ℕ × ℕ) ℕ) (test : Rule → ℕ → ℕ → Bool) (rs : List Rule) (r : Rule)
    → ((b a : ℕ) → at_access m b a ≡ place_where (λ s. test s b a) rs)
    → ((b a : ℕ) → test r b a ≡ false)
    → (b a : ℕ) → at_access m b a ≡ place_where (λ s. test s b a) (rs ++ r ∷ [])
access_kept m test rs r before other b a = before b a ∙ sym (place_where-push_other (λ s. test s b a) rs r (other b a))

pub name_kept : {Y : Type 0} (m : BTreeMap (Vec ℕ Y) ℕ) (rs : List Rule) (r : Rule)
    → ((name : List ℕ) → at_name m name ≡ place_where (λ s. answers_call s name) rs)
    → ((name : List ℕ) → answers_call r name ≡ false)
    → (name : List ℕ) → at_name m name ≡ place_where (λ s. answers_call s name) (rs ++ r ∷ [])
name_kept m rs r before other name = before name ∙ sym (place_where-push_other (λ s. answers_call s name) rs r (other name))

-- ---- a rule that keeps something else

-- both answer the same requests
pub record AnswersAs (r s : Rule) : Type 0 where
  pub load : (bytes addr : ℕ) → answers_load r bytes addr ≡ answers_load s bytes addr
  pub store : (bytes addr : ℕ) → answers_store r bytes addr ≡ answers_store s bytes addr
  pub call : (name : List ℕ) → answers_call r name ≡ answers_call s name

same : (r : Rule) → AnswersAs r r
same r = record { load = λ b a. refl; store = λ b a. refl; call = λ n. refl }

pub after_load : (r : Rule) → AnswersAs (answer_load r).1 r
after_load (rule.Register size addr value) = same (rule.Register size addr value)
after_load (rule.Queue size addr []) = same (rule.Queue size addr [])
after_load (rule.Queue size addr (value ∷ values)) = record { load = λ b a. refl; store = λ b a. refl; call = λ n. refl }
after_load (rule.Counter size addr first step loads) = record { load = λ b a. refl; store = λ b a. refl; call = λ n. refl }
after_load (rule.Collector size addr left) = same (rule.Collector size addr left)
after_load (rule.Foreign name effect) = same (rule.Foreign name effect)

pub after_store : (r : Rule) (value : ℕ) → AnswersAs (answer_store r value).1 r
after_store (rule.Register size addr old) value = record { load = λ b a. refl; store = λ b a. refl; call = λ n. refl }
after_store (rule.Queue size addr values) value = same (rule.Queue size addr values)
after_store (rule.Counter size addr first step loads) value = same (rule.Counter size addr first step loads)
after_store (rule.Collector size addr zero) value = same (rule.Collector size addr zero)
after_store (rule.Collector size addr (suc left)) value = record { load = λ b a. refl; store = λ b a. refl; call = λ n. refl }
after_store (rule.Foreign name effect) value = same (rule.Foreign name effect)

pub index_set : (index : Index) (rs : List Rule) (i : ℕ) (r d : Rule) → AnswersAs r (get_or rs i d) → IsIndex index rs → IsIndex index (set rs i r)
index_set index rs i r d as_before before = record {
  loads = λ b a. before.loads b a ∙ sym (place_where-set (λ s. answers_load s b a) rs i r d (as_before.load b a));
  stores = λ b a. before.stores b a ∙ sym (place_where-set (λ s. answers_store s b a) rs i r d (as_before.store b a));
  calls = λ name. before.calls name ∙ sym (place_where-set (λ s. answers_call s name) rs i r d (as_before.call name));
}

-- the rule that answered keeps what it then keeps
pub load_kept : (index : Index) (rs : List Rule) (i : ℕ) (r new : Rule) (g : Given) → IsIndex index rs → r ≡ get_or rs i r → answered g new ≡ answer_load r → IsIndex index (set rs i new)
load_kept index rs i r new g before at gave =
    let kept : (answer_load r).1 ≡ new = ap (λ (a : Given × Rule). a.1) (sym gave) in
    index_set index rs i new r (subst (λ s. AnswersAs new s) at (subst (λ n. AnswersAs n r) kept (after_load r))) before

pub store_kept : (index : Index) (rs : List Rule) (i : ℕ) (r new : Rule) (g : Given) (value : ℕ) → IsIndex index rs → r ≡ get_or rs i r → answered g new ≡ answer_store r value → IsIndex index (set rs i new)
store_kept index rs i r new g value before at gave =
    let kept : (answer_store r value).1 ≡ new = ap (λ (a : Given × Rule). a.1) (sym gave) in
    index_set index rs i new r (subst (λ s. AnswersAs new s) at (subst (λ n. AnswersAs n r) kept (after_store r value))) before

-- ---- one rule more, as the code puts it in

abbrev TakesLoad : List Rule → ℕ → ℕ → Bool
TakesLoad rs bytes addr = list_any (λ s. answers_load s bytes addr) rs

abbrev TakesStore : List Rule → ℕ → ℕ → Bool
TakesStore rs bytes addr = list_any (λ s. answers_store s bytes addr) rs

abbrev Grown : Index → List Rule → Rule → Type 0
Grown index rs r = is_taken rs r ≡ false → IsIndex index (rs ++ r ∷ [])

pub register_pushed : (index : Index) (loads stores : BTreeMap (ℕ × ℕ) ℕ) (rs : List Rule) (r : Rule) (size : Size) (addr value bytes bytes' at : ℕ)
    → r ≡ rule.Register size addr value → bytes ≡ byte_count size → bytes' ≡ byte_count size
    → Updates access_cmp index.loads loads (bytes, addr) (Some at) → Updates access_cmp index.stores stores (bytes', addr) (Some at)
    → IsIndex index rs → at ≡ length rs
    → Grown (record index { loads = loads; stores = stores }) rs r
register_pushed index loads stores rs r size addr value bytes bytes' at is is_bytes is_bytes' put_load put_store before last =
    subst (Grown (record index { loads = loads; stores = stores }) rs) (sym is) (λ free.
    let parts = or_parts (TakesLoad rs (byte_count size) addr) (TakesStore rs (byte_count size) addr || false) free in
    let store = or_parts (TakesStore rs (byte_count size) addr) false parts.1 in
    let new = rule.Register size addr value in
    record {
      loads = access_pushed index.loads loads answers_load rs new (byte_count size) addr at (subst (λ b. Updates access_cmp index.loads loads (b, addr) (Some at)) is_bytes put_load) before.loads last (λ b a. refl) parts.0;
      stores = access_pushed index.stores stores answers_store rs new (byte_count size) addr at (subst (λ b. Updates access_cmp index.stores stores (b, addr) (Some at)) is_bytes' put_store) before.stores last (λ b a. refl) store.0;
      calls = name_kept index.calls rs new before.calls (λ name. refl);
    })

pub queue_pushed : (index : Index) (loads : BTreeMap (ℕ × ℕ) ℕ) (rs : List Rule) (r : Rule) (size : Size) (addr : ℕ) (values : List ℕ) (bytes at : ℕ)
    → r ≡ rule.Queue size addr values → bytes ≡ byte_count size
    → Updates access_cmp index.loads loads (bytes, addr) (Some at)
    → IsIndex index rs → at ≡ length rs
    → Grown (record index { loads = loads }) rs r
queue_pushed index loads rs r size addr values bytes at is is_bytes put_load before last =
    subst (Grown (record index { loads = loads }) rs) (sym is) (λ free.
    let parts = or_parts (TakesLoad rs (byte_count size) addr) false free in
    let new = rule.Queue size addr values in
    record {
      loads = access_pushed index.loads loads answers_load rs new (byte_count size) addr at (subst (λ b. Updates access_cmp index.loads loads (b, addr) (Some at)) is_bytes put_load) before.loads last (λ b a. refl) parts.0;
      stores = access_kept index.stores answers_store rs new before.stores (λ b a. refl);
      calls = name_kept index.calls rs new before.calls (λ name. refl);
    })

pub counter_pushed : (index : Index) (loads : BTreeMap (ℕ × ℕ) ℕ) (rs : List Rule) (r : Rule) (size : Size) (addr first step count : ℕ) (bytes at : ℕ)
    → r ≡ rule.Counter size addr first step count → bytes ≡ byte_count size
    → Updates access_cmp index.loads loads (bytes, addr) (Some at)
    → IsIndex index rs → at ≡ length rs
    → Grown (record index { loads = loads }) rs r
counter_pushed index loads rs r size addr first step count bytes at is is_bytes put_load before last =
    subst (Grown (record index { loads = loads }) rs) (sym is) (λ free.
    let parts = or_parts (TakesLoad rs (byte_count size) addr) false free in
    let new = rule.Counter size addr first step count in
    record {
      loads = access_pushed index.loads loads answers_load rs new (byte_count size) addr at (subst (λ b. Updates access_cmp index.loads loads (b, addr) (Some at)) is_bytes put_load) before.loads last (λ b a. refl) parts.0;
      stores = access_kept index.stores answers_store rs new before.stores (λ b a. refl);
      calls = name_kept index.calls rs new before.calls (λ name. refl);
    })

pub collector_pushed : (index : Index) (stores : BTreeMap (ℕ × ℕ) ℕ) (rs : List Rule) (r : Rule) (size : Size) (addr left : ℕ) (bytes at : ℕ)
    → r ≡ rule.Collector size addr left → bytes ≡ byte_count size
    → Updates access_cmp index.stores stores (bytes, addr) (Some at)
    → IsIndex index rs → at ≡ length rs
    → Grown (record index { stores = stores }) rs r
collector_pushed index stores rs r size addr left bytes at is is_bytes put_store before last =
    subst (Grown (record index { stores = stores }) rs) (sym is) (λ free.
    let parts = or_parts (TakesStore rs (byte_count size) addr) false free in
    let new = rule.Collector size addr left in
    record {
      loads = access_kept index.loads answers_load rs new before.loads (λ b a. refl);
      stores = access_pushed index.stores stores answers_store rs new (byte_count size) addr at (subst (λ b. Updates access_cmp index.stores stores (b, addr) (Some at)) is_bytes put_store) before.stores last (λ b a. refl) parts.0;
      calls = name_kept index.calls rs new before.calls (λ name. refl);
    })

pub foreign_pushed : (index : Index) (calls : BTreeMap (Vec ℕ Global) ℕ) (rs : List Rule) (r : Rule) (name : List ℕ) (effect : Effect) (key : Vec ℕ Global) (at : ℕ)
    → r ≡ rule.Foreign name effect → key.items ≡ name
    → Updates (λ x y. slice_cmp nat_cmp x.items y.items) index.calls calls key (Some at)
    → IsIndex index rs → at ≡ length rs
    → Grown (record index { calls = calls }) rs r
foreign_pushed index calls rs r name effect key at is is_key put before last =
    subst (Grown (record index { calls = calls }) rs) (sym (is ∙ ap (λ name. rule.Foreign name effect) (sym is_key))) (λ free.
    let parts = or_parts (list_any (λ s. answers_call s key.items) rs) false free in
    let new = rule.Foreign key.items effect in
    record {
      loads = access_kept index.loads answers_load rs new before.loads (λ b a. refl);
      stores = access_kept index.stores answers_store rs new before.stores (λ b a. refl);
      calls = name_pushed index.calls calls rs new key at put before.calls last (λ name. refl) parts.0;
    })

-- ---- whether a rule is taken, as the code finds it

abbrev Taken : List Rule → Bool → Rule → Type 0
Taken rs t r = t ≡ is_taken rs r

-- where its loads are taken
pub register_taken : (rs : List Rule) (r : Rule) (size : Size) (addr value : ℕ) (found : Option ℕ) → r ≡ rule.Register size addr value
    → found ≡ place_where (λ s. answers_load s (byte_count size) addr) rs → is_some found ≡ true → Taken rs true r
register_taken rs r size addr value found is place taken =
    subst (Taken rs true) (sym is) (sym (or_left (TakesLoad rs (byte_count size) addr) (TakesStore rs (byte_count size) addr || false)
    (sym (is_some-place_where (λ s. answers_load s (byte_count size) addr) rs) ∙ ap is_some (sym place) ∙ taken)))

-- where its loads are free
pub register_stores_taken : (rs : List Rule) (r : Rule) (size : Size) (addr value : ℕ) (found stored : Option ℕ) → r ≡ rule.Register size addr value
    → found ≡ place_where (λ s. answers_load s (byte_count size) addr) rs → is_some found ≡ false
    → stored ≡ place_where (λ s. answers_store s (byte_count size) addr) rs → Taken rs (is_some stored) r
register_stores_taken rs r size addr value found stored is place free place' =
    let loads : TakesLoad rs (byte_count size) addr ≡ false = sym (is_some-place_where (λ s. answers_load s (byte_count size) addr) rs) ∙ ap is_some (sym place) ∙ free in
    let stores : is_some stored ≡ TakesStore rs (byte_count size) addr = ap is_some place' ∙ is_some-place_where (λ s. answers_store s (byte_count size) addr) rs in
    subst (Taken rs (is_some stored)) (sym is)
    (stores ∙ sym (or-false (TakesStore rs (byte_count size) addr)) ∙ ap (λ t. t || (TakesStore rs (byte_count size) addr || false)) (sym loads))

pub queue_taken : (rs : List Rule) (r : Rule) (size : Size) (addr : ℕ) (values : List ℕ) (found : Option ℕ) → r ≡ rule.Queue size addr values
    → found ≡ place_where (λ s. answers_load s (byte_count size) addr) rs → Taken rs (is_some found) r
queue_taken rs r size addr values found is place =
    subst (Taken rs (is_some found)) (sym is)
    (ap is_some place ∙ is_some-place_where (λ s. answers_load s (byte_count size) addr) rs ∙ sym (or-false (TakesLoad rs (byte_count size) addr)))

pub counter_taken : (rs : List Rule) (r : Rule) (size : Size) (addr first step count : ℕ) (found : Option ℕ) → r ≡ rule.Counter size addr first step count
    → found ≡ place_where (λ s. answers_load s (byte_count size) addr) rs → Taken rs (is_some found) r
counter_taken rs r size addr first step count found is place =
    subst (Taken rs (is_some found)) (sym is)
    (ap is_some place ∙ is_some-place_where (λ s. answers_load s (byte_count size) addr) rs ∙ sym (or-false (TakesLoad rs (byte_count size) addr)))

pub collector_taken : (rs : List Rule) (r : Rule) (size : Size) (addr left : ℕ) (found : Option ℕ) → r ≡ rule.Collector size addr left
    → found ≡ place_where (λ s. answers_store s (byte_count size) addr) rs → Taken rs (is_some found) r
collector_taken rs r size addr left found is place =
    subst (Taken rs (is_some found)) (sym is)
    (ap is_some place ∙ is_some-place_where (λ s. answers_store s (byte_count size) addr) rs ∙ sym (or-false (TakesStore rs (byte_count size) addr)))

pub foreign_taken : (rs : List Rule) (r : Rule) (name : List ℕ) (effect : Effect) (found : Option ℕ) → r ≡ rule.Foreign name effect
    → found ≡ place_where (λ s. answers_call s name) rs → Taken rs (is_some found) r
foreign_taken rs r name effect found is place =
    subst (Taken rs (is_some found)) (sym is)
    (ap is_some place ∙ is_some-place_where (λ s. answers_call s name) rs ∙ sym (or-false (list_any (λ s. answers_call s name) rs)))
