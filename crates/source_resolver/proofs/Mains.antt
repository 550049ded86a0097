-- A program that keeps every rule has a `main`, and so has the resolved one.
use Rattle.std.proofs.Common.{◌≡◌, ◌<◌, ℕ, suc, ◌+◌, Bool, true, false, not, List, [], ◌∷◌, ◌++◌, length, Option, Some, None, refl, sym, ap, subst, ◌∙◌, arith}
use Rattle.std.specs.Prelude.{cond, codes, nat_lt, IsSome}
use Rattle.std.specs.List.{find, position_or_len}
use Rattle.std.proofs.lemmas.Bool.{lt-ltb}
use Rattle.std.specs.Str.{bytes_eq}
use Rattle.pan_tree.specs.declared.program.Function.{Function}
use Rattle.pan_tree.specs.declared.program.Program.{Program as Source}
use Rattle.pan_tree.specs.Check.{Break, IsWellShaped, function_of, exception_heads, function_heads, main_breaks, bodies, weight_breaks}
use Rattle.source_resolver.specs.declared.resolved.Program.{Program}
use Rattle.source_resolver.specs.Resolving.{resolved}

-- ---- rules that are kept

pub no_front : (bs cs : List Break) → bs ++ cs ≡ [] → bs ≡ []
no_front [] cs e = refl
no_front (b ∷ bs) cs e = absurd cc

pub no_back : (bs cs : List Break) → bs ++ cs ≡ [] → cs ≡ []
no_back [] cs e = e
no_back (b ∷ bs) cs e = absurd cc

main_clean : (p : Source) → IsWellShaped p → main_breaks (function_of (codes "main") p) ≡ []
main_clean p shaped =
    let heads = exception_heads [] p.exceptions ++ function_heads [] p.functions in
    let main = main_breaks (function_of (codes "main") p) in
    no_back heads main (no_front (heads ++ main) (bodies p p.functions []) (no_front (heads ++ main ++ bodies p p.functions []) (weight_breaks p) shaped))

-- ---- main

-- where one passes there is a first that does
place_within : {X : Type 0} (p : X → Bool) (xs : List X) (x : X) → find p xs ≡ Some x → position_or_len p xs < length xs
place_within p [] x e = absurd cc
place_within {X} p (y ∷ xs) x e = by (p y) (place_within p xs x) e
  where
    by : (b : Bool) → (find p xs ≡ Some x → position_or_len p xs < length xs) → cond b (Some y) (find p xs) ≡ Some x → cond (not b) (1 + position_or_len p xs) 0 < suc (length xs)
    by true h e = omega arith
    by false h e = omega (arith, h e)

has_main : (p : Source) → IsWellShaped p → (f : ℕ) × ((resolved p).main ≡ Some f)
has_main p shaped = by (function_of (codes "main") p) refl (main_clean p shaped)
  where
    by : (o : Option Function) → function_of (codes "main") p ≡ o → main_breaks o ≡ [] → (f : ℕ) × ((resolved p).main ≡ Some f)
    by None is none = absurd cc
    by (Some g) is none =
        let test = λ (f : Function). bytes_eq f.name (codes "main") in
        let at = position_or_len test p.functions in
        let within : at < length p.functions = place_within test p.functions g is in
        let e : nat_lt at (length p.functions) ≡ true = lt-ltb at (length p.functions) within in
        (at, ap (λ b. cond b (Some at) None) e)

pub main_so : (p : Source) (r : Program) → IsWellShaped p → r ≡ resolved p → IsSome r.main
main_so p r shaped is =
    let main = has_main p shaped in
    let here : r.main ≡ Some main.0 = ap (λ (r : Program). r.main) is ∙ main.1 in
    subst (λ (o : Option ℕ). IsSome o) (sym here) refl
