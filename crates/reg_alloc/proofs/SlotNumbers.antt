-- The numbers of slots in order, and functions that have them as homes.
use Rattle.std.proofs.Common.{◌≡◌, ◌≢◌, ℕ, zero, suc, ◌+◌, ◌-◌, ◌^◌, ◌<◌, ◌≤◌, true, List, [], ◌∷◌, ◌++◌, length, get_or, arith, refl, sym, ap, subst, ◌∙◌}
use Rattle.std.specs.Prelude.{◌&&◌, nat_lt, IsTrue}
use Rattle.std.proofs.lemmas.Bool.Decides.{nat_tests}
use Rattle.std.proofs.lemmas.List.Elements.{All-from_get_or}
use Rattle.pan_flow.specs.Flow.{Flow, has}
use Rattle.pan_flow.specs.Functions.{above, variables}
use Rattle.pan_stage.specs.Locals.{numbers_from}
use Rattle.word_lang.specs.Homes.{first_slot, is_home}
use Rattle.word_lang.specs.Text.{flow_of_function}
use Rattle.word_lang.specs.declared.syntax.WordFun.{WordFun}
use Rattle.reg_alloc.specs.Homes.{home_number, AreHomes}
use Rattle.reg_alloc.specs.Accepts.{Accepts}
use Rattle.reg_alloc.proofs.Above.{has_below}
use Rattle.reg_alloc.proofs.Occur.{across_occurs, meeting_occur}

pub numbers_more : (x k : ℕ) → numbers_from x (suc k) ≡ numbers_from x k ++ (x + k) ∷ []
numbers_more x zero = ap (λ n. n ∷ []) (omega arith)
numbers_more x (suc k) = ap (λ ns. x ∷ ns) (numbers_more (suc x) k ∙ ap (λ n. numbers_from (suc x) k ++ n ∷ []) (omega arith))

pub numbers_length : (x k : ℕ) → length (numbers_from x k) ≡ k
numbers_length x zero = refl
numbers_length x (suc k) = ap suc (numbers_length (suc x) k)

pub number_at : (x k v d : ℕ) → v < k → get_or (numbers_from x k) v d ≡ x + v
number_at x zero v d l = absurd (omega (arith, l))
number_at x (suc k) zero d l = omega arith
number_at x (suc k) (suc v) d l = number_at (suc x) k v d (omega (arith, l)) ∙ omega arith

slot_is_home : (count n : ℕ) → first_slot ≤ n → n < first_slot + count → IsTrue (is_home n && nat_lt n (first_slot + count))
slot_is_home count n l m = grind (arith, nat_tests)

pub slots_are_homes : (k : ℕ) → k ≤ 2 ^ 32 - first_slot → AreHomes (numbers_from first_slot k)
slots_are_homes k l = record {
  few = let e = numbers_length first_slot k in omega (arith, e, l);
  each =
      let e = numbers_length first_slot k in
      All-from_get_or (λ n. IsTrue (is_home n && nat_lt n (first_slot + length (numbers_from first_slot k)))) (numbers_from first_slot k) 0
      (λ i below. slot_is_home (length (numbers_from first_slot k)) (get_or (numbers_from first_slot k) i 0)
      (let at = number_at first_slot k i 0 (omega (arith, below, e)) in omega (arith, at)) (let at = number_at first_slot k i 0 (omega (arith, below, e)) in omega (arith, at, below)));
}

-- homes that are all slots, and different, are accepted
pub different_slots : (homes : List ℕ) (f : WordFun) → length homes ≡ above (variables (flow_of_function f)) → ((a b : ℕ) → a < length homes → b < length homes → a ≢ b → home_number homes a ≢ home_number homes b)
    → ((v : ℕ) → v < length homes → first_slot ≤ home_number homes v) → Accepts (home_number homes) f
different_slots homes f e different slots = record {
  apart = λ a b m. let t = meeting_occur flow a b m in different a b (below a t.0) (below b t.1) m.0;
  across = λ x m. slots x (below x (across_occurs flow x m));
}
  where
    flow : Flow
    flow = flow_of_function f

    below : (x : ℕ) → has (variables (flow_of_function f)) x ≡ true → x < length homes
    below x h = let l = has_below (variables (flow_of_function f)) x h in omega (arith, l, e)

module _ (homes : List ℕ) (k : ℕ) (is : homes ≡ numbers_from first_slot k) where
  pub slots_length : length homes ≡ k
  slots_length = ap length is ∙ numbers_length first_slot k

  pub slots_home : (v : ℕ) → v < length homes → home_number homes v ≡ first_slot + v
  slots_home v l = ap (λ ns. get_or ns v 0) is ∙ number_at first_slot k v 0 (omega (arith, l, slots_length))

  pub slots_lawful : k ≤ 2 ^ 32 - first_slot → AreHomes homes
  slots_lawful l = subst AreHomes (sym is) (slots_are_homes k l)

  pub slots_accepted : (f : WordFun) → k ≡ above (variables (flow_of_function f)) → Accepts (home_number homes) f
  slots_accepted f e =
      different_slots homes f (slots_length ∙ e)
      (λ a b la lb ne same. ne (let ha = slots_home a la in let hb = slots_home b lb in omega (arith, ha, hb, same)))
      (λ v l. let h = slots_home v l in omega (arith, h))
