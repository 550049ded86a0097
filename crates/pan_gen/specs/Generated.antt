-- The text of a source with a chain of functions.
use Rattle.std.specs.Prelude.{ℕ, zero, suc, ◌-◌, List, [], ◌++◌, codes}
use Rattle.std.specs.Fmt.{decimal}

-- the function that calls no other
abbrev pub first_function : List ℕ
first_function = codes "fun f0(1 x) { !st64 0x40000000, x; return x + 1; }\n"

-- the function of this number, from 1 on, which calls the one before it
unfoldable pub calling_function : ℕ → List ℕ
calling_function k =
    codes "fun f" ++ decimal k ++ codes "(1 x) { var y = f" ++ decimal (k - 1) ++ codes "(x * 3 + " ++ decimal k
    ++ codes "); !st64 0x40000000, y; return y ^ " ++ decimal k ++ codes "; }\n"

-- the functions of the numbers from 1 to n
abbrev pub calling_functions : ℕ → List ℕ
calling_functions zero = []
calling_functions (suc n) = calling_functions n ++ calling_function (suc n)

-- the function that calls the last one, with its number
unfoldable pub main_function : ℕ → List ℕ
main_function n = codes "fun main() { var r = f" ++ decimal n ++ codes "(" ++ decimal n ++ codes "); return r; }\n"

-- a source of n + 2 functions
unfoldable pub generated : ℕ → List ℕ
generated n = first_function ++ calling_functions n ++ main_function n
