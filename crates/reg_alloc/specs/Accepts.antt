-- Which homes a function accepts, and programs whose functions are renamed by such.
use Rattle.std.specs.Prelude.{◌≡◌, ◌≢◌, ℕ, ◌≤◌, IsTrue}
use Rattle.std.specs.List.{All, AllZip}
use Rattle.pan_flow.specs.Functions.{variables}
use Rattle.pan_stage.specs.declared.program.Program.{Program}
use Rattle.word_lang.specs.Homes.{first_slot, is_home}
use Rattle.word_lang.specs.Live.{Meet, Across}
use Rattle.word_lang.specs.Text.{flow_of_function}
use Rattle.word_lang.specs.declared.syntax.WordFun.{WordFun}
use Rattle.reg_alloc.specs.Renamed.{rename_function}

pub record Accepts (home : ℕ → ℕ) (f : WordFun) : Type 0 where
  -- two variables that meet have different homes
  pub apart : (a b : ℕ) → Meet f a b → home a ≢ home b
  -- one that is across has a slot
  pub across : (x : ℕ) → Across f x → first_slot ≤ home x

-- the second is the first with its variables renamed to homes that it accepts
pub record IsRenamedFunction (f g : WordFun) : Type 0 where
  pub home : ℕ → ℕ
  pub accepted : Accepts home f
  pub homes : All (λ x. IsTrue (is_home (home x))) (variables (flow_of_function f))
  pub same : g ≡ rename_function home f

-- each function of the second is so renamed, and all else is the first's
pub record IsRenamed (p q : Program WordFun) : Type 0 where
  pub functions : AllZip IsRenamedFunction p.functions q.functions
  pub main : q.main ≡ p.main
  pub exceptions : q.exceptions ≡ p.exceptions
  pub names : q.names ≡ p.names
  pub globals : q.globals ≡ p.globals
