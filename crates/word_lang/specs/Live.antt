-- Which variables of a function are live, meet, and are across.
use Rattle.std.specs.Prelude.{ℕ}
use Rattle.pan_flow.specs.Flow.{After, ways}
use Rattle.pan_flow.specs.Flow as flow
use Rattle.word_lang.specs.Text.{flow_of, flow_of_function}
use Rattle.word_lang.specs.declared.syntax.WordFun.{WordFun}
use Rattle.word_lang.specs.declared.syntax.Stmt.{Stmt}

-- the variable is live before the statement, with these ways from each of its exits on: on some way from there it is read before it is written
abbrev pub Live : Stmt → After → ℕ → Type 0
Live s after x = flow.Live (ways (flow_of s) after) x

-- they differ, and one is written at a point of the function after which the other is live
abbrev pub Meet : WordFun → ℕ → ℕ → Type 0
Meet f a b = flow.Meet (flow_of_function f) a b

-- the variable is live after some way out of a call that doesn't write it
abbrev pub Across : WordFun → ℕ → Type 0
Across f x = flow.Across (flow_of_function f) x
