-- How a call of the program ends.
use Rattle.std.specs.Prelude.{◌≡◌, ◌⊎◌, ℕ, List, [], codes}
use Rattle.command_words.specs.declared.order.Action.{Action}
use Rattle.command_words.specs.declared.order.Action.TheVariants as action
use Rattle.command_words.specs.declared.order.Options.{Options}
use Rattle.command_words.specs.declared.order.Order.{Order}
use Rattle.command_words.specs.Words.{IsOrder}
use Rattle.pan_command.specs.declared.status.Status.{Status}
use Rattle.pan_command.specs.declared.status.Status.TheVariants as status
use Rattle.pan_command.specs.Outside.{Call, NoFileChanged, IsPut, IsPutInPart, PutFailed}
use Rattle.pan_command.specs.Compile.{CompileEnds}
use Rattle.pan_command.specs.Check.{CheckEnds}
use Rattle.pan_command.specs.Run.{RunEnds}
use Rattle.pan_command.specs.Meaning.{MeaningEnds}
use Rattle.pan_command.specs.Show.{ShowEnds}
use Rattle.pan_command.specs.Dis.{DisEnds}
use Rattle.pan_command.specs.Bound.{BoundEnds}

-- the words are lawful words of this action with these options
abbrev pub AreWordsOf : List (List ℕ) → Action → Options → Type 0
AreWordsOf words action options = IsOrder words (record { action = action; options = options })

-- the words are lawful words of no action
abbrev pub AreUnlawful : List (List ℕ) → Type 0
AreUnlawful words = (order : Order) → ¬ IsOrder words order

-- how a call with unlawful words ends
abbrev pub UsageEnds : Call → Status → Type 0
UsageEnds call status.Usage = NoFileChanged call × IsPut call (codes "usage\n")
UsageEnds call status.Unput =
    NoFileChanged call × PutFailed call × IsPutInPart call (codes "usage\n")
UsageEnds call _ = ⊥

-- how an action ends with these options
abbrev pub ActionEnds : Action → Options → Call → Status → Type 0
ActionEnds (action.Compile source image) options call s = CompileEnds source image call s
ActionEnds (action.Check source) options call s = CheckEnds source call s
ActionEnds (action.Run image script) options call s = RunEnds options image script call s
ActionEnds (action.Meaning source script) options call s = MeaningEnds options source script call s
ActionEnds (action.Show source) options call s = ShowEnds options.stage source call s
ActionEnds (action.Dis image) options call s = DisEnds image call s
ActionEnds (action.Bound source) options call s = BoundEnds source call s

-- the words give one order, and its action ended
pub record OrderEnds (words : List (List ℕ)) (call : Call) (s : Status) : Type 0 where
  pub order : Order
  pub given : IsOrder words order
  pub only : (other : Order) → IsOrder words other → other ≡ order
  pub ends : ActionEnds order.action order.options call s

-- there was no memory to read the words, and nothing is put
pub record WordsStarved (call : Call) (s : Status) : Type 0 where
  pub status : s ≡ status.NoMemory
  pub same : NoFileChanged call
  pub line : IsPut call []

-- how a call ends
abbrev pub Ends : List (List ℕ) → Call → Status → Type 0
Ends words call s = OrderEnds words call s ⊎ ((AreUnlawful words × UsageEnds call s) ⊎ WordsStarved call s)
