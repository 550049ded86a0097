-- A function with each variable renamed to its home.
use Rattle.std.specs.Prelude.{ℕ, map, Option, Some, None, option_map}
use Rattle.pan_stage.specs.declared.program.Handler.{Handler}
use Rattle.word_lang.specs.declared.syntax.Test.{Test}
use Rattle.word_lang.specs.declared.syntax.WordFun.{WordFun}
use Rattle.word_lang.specs.declared.syntax.Stmt.{Stmt, Stmt-F, fold-Stmt}
use Rattle.word_lang.specs.declared.syntax.Stmt.TheOpen as stmt
use Rattle.word_lang.specs.declared.syntax.Stmt.TheVariants as s

module _ (home : ℕ → ℕ) where
  abbrev pub rename_test : Test → Test
  rename_test y = record { comparison = y.comparison; left = option_map home y.left; right = option_map home y.right }

  -- a handler whose body is renamed
  abbrev pub rename_caught : Option (Handler Stmt) → Option (Handler Stmt)
  rename_caught None = None
  rename_caught (Some h) = Some (record { exception = h.exception; variables = map home h.variables; body = h.body })

  abbrev pub rename_layer : Stmt-F Stmt → Stmt
  rename_layer stmt.Skip = s.Skip
  rename_layer (stmt.Seq all) = s.Seq all
  rename_layer (stmt.Const x n) = s.Const (home x) n
  rename_layer (stmt.Reg o x a b) = s.Reg o (home x) (home a) (home b)
  rename_layer (stmt.Imm o x a i) = s.Imm o (home x) (home a) i
  rename_layer (stmt.Sh o x a n) = s.Sh o (home x) (home a) n
  rename_layer (stmt.Load o x a i) = s.Load o (home x) (home a) i
  rename_layer (stmt.Store o x a i) = s.Store o (home x) (home a) i
  rename_layer (stmt.If y first second) = s.If (rename_test y) first second
  rename_layer (stmt.While before y body) = s.While before (rename_test y) body
  rename_layer stmt.Break = s.Break
  rename_layer stmt.Continue = s.Continue
  rename_layer (stmt.Call results f arguments handler) = s.Call (map home results) f (map home arguments) (rename_caught handler)
  rename_layer (stmt.TailCall f arguments) = s.TailCall f (map home arguments)
  rename_layer (stmt.Return xs) = s.Return (map home xs)
  rename_layer (stmt.Raise i xs) = s.Raise i (map home xs)
  rename_layer (stmt.SharedLoad size x a i) = s.SharedLoad size (home x) (home a) i
  rename_layer (stmt.SharedStore size x a i) = s.SharedStore size (home x) (home a) i
  rename_layer (stmt.Foreign i conf conf_len array array_len) = s.Foreign i (home conf) (home conf_len) (home array) (home array_len)

  -- a statement with each variable renamed
  unfoldable pub rename : Stmt → Stmt
  rename = fold-Stmt Stmt rename_layer

  abbrev pub rename_handler : Option (Handler Stmt) → Option (Handler Stmt)
  rename_handler None = None
  rename_handler (Some h) = Some (record { exception = h.exception; variables = map home h.variables; body = rename h.body })

  abbrev pub rename_function : WordFun → WordFun
  rename_function f = record { name = f.name; cost = f.cost; params = map home f.params; results = f.results; body = rename f.body }
