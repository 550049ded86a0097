-- Programs whose functions are renamed by their colours.
use Rattle.std.proofs.Common.{◌≡◌, ℕ, zero, suc, ◌+◌, ◌<◌, Bool, true, ◌&&◌, List, [], ◌∷◌, ◌++◌, length, take, get_or, nat_lt, arith, refl, sym, ap, subst, ◌∙◌}
use Rattle.std.specs.Prelude.{max, IsTrue}
use Rattle.std.specs.List.{AllZip}
use Rattle.std.proofs.lemmas.Bool.{and_parts}
use Rattle.std.proofs.lemmas.List.{take_more, length-take-le}
use Rattle.std.proofs.lemmas.Slice.Zip.{all_zipped_more}
use Rattle.pan_flow.specs.Functions.{above, variables}
use Rattle.pan_stage.specs.Programs.{with_functions}
use Rattle.pan_stage.specs.declared.program.Program.{Program}
use Rattle.word_lang.specs.Homes.{is_home, first_slot}
use Rattle.word_lang.specs.Text.{flow_of_function}
use Rattle.word_lang.specs.declared.syntax.WordFun.{WordFun}
use Rattle.reg_alloc.specs.Accepts.{IsRenamedFunction, IsRenamed}
use Rattle.reg_alloc.specs.Homes.{home_number}
use Rattle.reg_alloc.specs.Renamed.{rename_function}
use Rattle.reg_alloc.specs.declared.homes.Colours.{Colours}
use Rattle.pan_driver.specs.Chained.{AreColoursOf, renamed}

-- ---- the renamed program

below_above : (xs : List ℕ) (k d : ℕ) → k < length xs → get_or xs k d < above xs
below_above [] k d l = absurd (omega (arith, l))
below_above (x ∷ xs) zero d l = omega arith
below_above (x ∷ xs) (suc k) d l = let h = below_above xs k d (omega (arith, l)) in omega (arith, h)

home_of : (c : Colours) (x : ℕ) → x < length c.homes → IsTrue (is_home (home_number c.homes x))
home_of c x l = (and_parts (is_home (home_number c.homes x)) (nat_lt (home_number c.homes x) (first_slot + length c.homes)) ((c.lawful).each x 0 l)).0

renamed_by : (f : WordFun) (c : Colours) → AreColoursOf f c → IsRenamedFunction f (rename_function (home_number c.homes) f)
renamed_by f c own = record {
  home = home_number c.homes;
  accepted = own.accepted;
  homes = λ k d l. let h = below_above (variables (flow_of_function f)) k d l in let n = own.count in home_of c (get_or (variables (flow_of_function f)) k d) (omega (arith, h, n));
  same = refl;
}

renamed_each : (fs : List WordFun) (cs : List Colours) → AllZip AreColoursOf fs cs → AllZip IsRenamedFunction fs (renamed fs cs)
renamed_each [] [] own = tt
renamed_each [] (c ∷ cs) own = absurd own
renamed_each (f ∷ fs) [] own = absurd own
renamed_each (f ∷ fs) (c ∷ cs) own = (renamed_by f c own.0, renamed_each fs cs own.1)

-- a program whose functions are renamed by their colours is a renamed one
pub is_renamed : (p : Program WordFun) (cs : List Colours) → AllZip AreColoursOf p.functions cs → IsRenamed p (with_functions p (renamed p.functions cs))
is_renamed p cs own = record { functions = renamed_each p.functions cs own; main = refl; exceptions = refl; names = refl; globals = refl }

-- ---- one function after another

-- the colours at a place are those of the function at it
colours_at : (fs : List WordFun) (cs : List Colours) (k : ℕ) (d : WordFun) (e : Colours) → AllZip AreColoursOf fs cs → k < length fs → AreColoursOf (get_or fs k d) (get_or cs k e)
colours_at [] cs k d e own l = absurd (omega (arith, l))
colours_at (f ∷ fs) [] k d e own l = absurd own
colours_at (f ∷ fs) (c ∷ cs) zero d e own l = own.0
colours_at (f ∷ fs) (c ∷ cs) (suc k) d e own l = colours_at fs cs k d e own.1 (omega (arith, l))

pub colours_here : (fs : List WordFun) (cs : List Colours) (k : ℕ) (f : WordFun) (c : Colours) → AllZip AreColoursOf fs cs → k < length fs → f ≡ get_or fs k f → c ≡ get_or cs k c → AreColoursOf f c
colours_here fs cs k f c own l is_f is_c = subst (λ g. AreColoursOf g c) (sym is_f) (subst (AreColoursOf (get_or fs k f)) (sym is_c) (colours_at fs cs k f c own l))

next_function : (fs : List WordFun) (k : ℕ) (f : WordFun) → k < length fs → f ≡ get_or fs k f → take (k + 1) fs ≡ take k fs ++ f ∷ []
next_function fs k f l is = take_more fs k f l ∙ ap (λ g. take k fs ++ g ∷ []) (sym is)

-- one more function has its colours
pub colours_more : (fs : List WordFun) (cs : List Colours) (k : ℕ) (f : WordFun) (c : Colours) → k < length fs → f ≡ get_or fs k f → AreColoursOf f c → AllZip AreColoursOf (take k fs) cs
    → AllZip AreColoursOf (take (k + 1) fs) (cs ++ c ∷ [])
colours_more fs cs k f c l is own so_far = subst (λ gs. AllZip AreColoursOf gs (cs ++ c ∷ [])) (sym (next_function fs k f l is)) (all_zipped_more AreColoursOf (take k fs) cs f c so_far own)

renamed_push : (fs : List WordFun) (cs : List Colours) (f : WordFun) (c : Colours) → length fs ≡ length cs → renamed (fs ++ f ∷ []) (cs ++ c ∷ []) ≡ renamed fs cs ++ rename_function (home_number c.homes) f ∷ []
renamed_push [] [] f c same = refl
renamed_push [] (d ∷ cs) f c same = absurd (omega (arith, same))
renamed_push (g ∷ fs) [] f c same = absurd (omega (arith, same))
renamed_push (g ∷ fs) (d ∷ cs) f c same = ap (λ gs. rename_function (home_number d.homes) g ∷ gs) (renamed_push fs cs f c (omega (arith, same)))

-- one more function is renamed
pub renamed_more : (fs : List WordFun) (cs : List Colours) (k : ℕ) (f : WordFun) (c : Colours) → k < length fs → k < length cs → f ≡ get_or fs k f → c ≡ get_or cs k c
    → renamed (take (k + 1) fs) (take (k + 1) cs) ≡ renamed (take k fs) (take k cs) ++ rename_function (home_number c.homes) f ∷ []
renamed_more fs cs k f c lf lc is_f is_c =
    let more_f = next_function fs k f lf is_f in
    let more_c : take (k + 1) cs ≡ take k cs ++ c ∷ [] = take_more cs k c lc ∙ ap (λ d. take k cs ++ d ∷ []) (sym is_c) in
    let long_f = length-take-le k fs (omega (arith, lf)) in
    let long_c = length-take-le k cs (omega (arith, lc)) in
    ap (λ gs. renamed gs (take (k + 1) cs)) more_f ∙ ap (λ ds. renamed (take k fs ++ f ∷ []) ds) more_c ∙ renamed_push (take k fs) (take k cs) f c (long_f ∙ sym long_c)
