-- A function to which lawful homes are applied is renamed to homes that it accepts.
use Rattle.std.proofs.Common.{◌≡◌, ℕ, ◌+◌, ◌<◌, ◌≤◌, Bool, true, false, List, [], ◌∷◌, length, arith, refl}
use Rattle.std.specs.Prelude.{◌&&◌, nat_lt, IsTrue}
use Rattle.std.specs.List.{All}
use Rattle.std.proofs.lemmas.List.Elements.{All-nil, All-cons, All-get_or}
use Rattle.pan_flow.specs.Functions.{above, variables}
use Rattle.word_lang.specs.Homes.{first_slot, is_home}
use Rattle.word_lang.specs.Text.{flow_of_function}
use Rattle.word_lang.specs.declared.syntax.WordFun.{WordFun}
use Rattle.reg_alloc.specs.Homes.{home_number, AreHomes}
use Rattle.reg_alloc.specs.Accepts.{Accepts, IsRenamedFunction}
use Rattle.reg_alloc.specs.Renamed.{rename_function}

-- what holds below a number holds of numbers that it is above
all_below : (P : ℕ → Type 0) (n : ℕ) (xs : List ℕ) → above xs ≤ n → ((x : ℕ) → x < n → P x) → All P xs
all_below P n [] l h = All-nil P
all_below P n (x ∷ xs) l h = All-cons P x xs (h x (omega (arith, l))) (all_below P n xs (omega (arith, l)) h)

first_true : (a b : Bool) → IsTrue (a && b) → IsTrue a
first_true true b h = refl
first_true false b h = h

pub is_renamed : (homes : List ℕ) (f g : WordFun) → AreHomes homes → length homes ≡ above (variables (flow_of_function f)) → Accepts (home_number homes) f → g ≡ rename_function (home_number homes) f → IsRenamedFunction f g
is_renamed homes f g lawful e ok is = record {
  home = home_number homes;
  accepted = ok;
  homes =
      all_below (λ x. IsTrue (is_home (home_number homes x))) (length homes) (variables (flow_of_function f)) (omega (arith, e))
      (λ x l. first_true (is_home (home_number homes x)) (nat_lt (home_number homes x) (first_slot + length homes))
      (All-get_or (λ n. IsTrue (is_home n && nat_lt n (first_slot + length homes))) homes x 0 l lawful.each));
  same = is;
}
