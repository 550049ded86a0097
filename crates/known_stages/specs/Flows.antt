-- Small flows of functions.
use Rattle.std.specs.Prelude.{ℕ, List, [], ◌∷◌, Option, Some, None}
use Rattle.pan_stage.specs.declared.program.Handler.{Handler}
use Rattle.pan_flow.specs.Flow.{Exit, Flow, Ends, Then, Either, Loop}
use Rattle.pan_flow.specs.Functions.{all_in_turn, reads, sets, leaves, calls, asks, of_function}

-- ---- what flows are made of

-- a function with these parameters
abbrev pub function : List ℕ → List Flow → Flow
function parameters all = of_function parameters (all_in_turn all)

-- a handler that gives an exception's words to these variables, and returns some
abbrev pub handler : (variables returned : List ℕ) → Option (Handler Flow)
handler variables returned = Some (record { exception = 0; variables = variables; body = leaves returned })

-- ---- for what is live

-- variable 0 is written where a condition holds, and returned
abbrev pub one_side : Flow
one_side = function (1 ∷ []) (reads (1 ∷ []) ∷ Either (sets 0 []) (all_in_turn []) ∷ leaves (0 ∷ []) ∷ [])

-- it is written on both sides
abbrev pub both_sides : Flow
both_sides = function (1 ∷ []) (reads (1 ∷ []) ∷ Either (sets 0 []) (sets 0 []) ∷ leaves (0 ∷ []) ∷ [])

-- it is written in a loop's body, and returned behind the loop
abbrev pub in_turns : Flow
in_turns = function (1 ∷ []) (Loop (reads (1 ∷ [])) (sets 0 []) ∷ leaves (0 ∷ []) ∷ [])

-- it is written before a loop's test
abbrev pub before_tests : Flow
before_tests = function (1 ∷ []) (Loop (Then (sets 0 []) (reads (1 ∷ []))) (all_in_turn []) ∷ leaves (0 ∷ []) ∷ [])

-- a loop writes it in its body, and reads it there in the next turn
abbrev pub next_turn : Flow
next_turn = function (1 ∷ []) (Loop (reads (1 ∷ [])) (all_in_turn (Either (reads (0 ∷ [])) (all_in_turn []) ∷ sets 0 [] ∷ [])) ∷ leaves (1 ∷ []) ∷ [])

-- what stands behind a return
abbrev pub behind_return : Flow
behind_return = function (1 ∷ []) (leaves (1 ∷ []) ∷ leaves (0 ∷ []) ∷ [])

-- ---- for what is across

-- f(); return x
abbrev pub past_call : Flow
past_call = function (0 ∷ []) (calls [] [] None ∷ leaves (0 ∷ []) ∷ [])

-- x = f(); return x
abbrev pub from_call : Flow
from_call = function (0 ∷ []) (calls [] (0 ∷ []) None ∷ leaves (0 ∷ []) ∷ [])

-- y = f(), or return x, where x is 0, y is 1, and the exception's word is 2; return y
abbrev pub in_handler : Flow
in_handler = function (0 ∷ []) (calls [] (1 ∷ []) (handler (2 ∷ []) (0 ∷ [])) ∷ leaves (1 ∷ []) ∷ [])

-- y = f(), or return the exception's word; return y
abbrev pub own_of_handler : Flow
own_of_handler = function (0 ∷ []) (calls [] (1 ∷ []) (handler (2 ∷ []) (2 ∷ [])) ∷ leaves (1 ∷ []) ∷ [])

-- while y { read x; f() }, and return y
abbrev pub round_loop : Flow
round_loop = function (0 ∷ 1 ∷ []) (Loop (reads (1 ∷ [])) (Then (reads (0 ∷ [])) (calls [] [] None)) ∷ leaves (1 ∷ []) ∷ [])

-- read x; f(); return y
abbrev pub not_round : Flow
not_round = function (0 ∷ 1 ∷ []) (reads (0 ∷ []) ∷ calls [] [] None ∷ leaves (1 ∷ []) ∷ [])

-- a foreign call, and return x
abbrev pub past_foreign : Flow
past_foreign = function (0 ∷ 1 ∷ []) (asks (1 ∷ 1 ∷ 1 ∷ 1 ∷ []) ∷ leaves (0 ∷ []) ∷ [])

-- a tail call of x
abbrev pub tail_call : Flow
tail_call = function (0 ∷ []) (leaves (0 ∷ []) ∷ [])

-- ---- for what meets

-- x, y = f(); return some
abbrev pub two_results : List ℕ → Flow
two_results returned = function (2 ∷ []) (calls [] (0 ∷ 1 ∷ []) None ∷ leaves returned ∷ [])

-- while z { x = ..; y = ..; and the body ends so }, and return some
abbrev pub ends_turn : Exit → List ℕ → Flow
ends_turn e returned = function (2 ∷ []) (Loop (reads (2 ∷ [])) (all_in_turn (sets 0 [] ∷ sets 1 [] ∷ Ends e ∷ [])) ∷ leaves returned ∷ [])
