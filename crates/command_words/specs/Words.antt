-- The order that the words of the command line give.
use Rattle.std.specs.Prelude.{◌≡◌, ℕ, ◌%◌, ◌≤◌, if◌then◌else◌, List, [], codes, Option, Some, None}
use Rattle.std.specs.Str.{bytes_eq}
use Rattle.pan_base.specs.Spelling.{numeral}
use Rattle.command_words.specs.declared.order.Action.{Action}
use Rattle.command_words.specs.declared.order.Action.TheVariants.{Compile, Check, Run, Meaning, Show, Dis, Bound}
use Rattle.command_words.specs.declared.order.Options.{Options}
use Rattle.command_words.specs.declared.order.Order.{Order}
use Rattle.command_words.specs.declared.order.Stage.{Stage}
use Rattle.command_words.specs.declared.order.Stage.TheVariants.{Parse, Code}
use Rattle.command_words.specs.Panc.{faults, given}

-- the word for an action
abbrev pub action_word : Action → List ℕ
action_word (Compile source image) = codes "compile"
action_word (Check source) = codes "check"
action_word (Run image script) = codes "run"
action_word (Meaning source script) = codes "meaning"
action_word (Show source) = codes "show"
action_word (Dis image) = codes "dis"
action_word (Bound source) = codes "bound"

-- the name that follows it
abbrev pub first_name : Action → List ℕ
first_name (Compile source image) = source
first_name (Check source) = source
first_name (Run image script) = image
first_name (Meaning source script) = source
first_name (Show source) = source
first_name (Dis image) = image
first_name (Bound source) = source

-- the second name, where the action has two
abbrev pub second_name : Action → Option (List ℕ)
second_name (Compile source image) = Some image
second_name (Check source) = None
second_name (Run image script) = Some script
second_name (Meaning source script) = Some script
second_name (Show source) = None
second_name (Dis image) = None
second_name (Bound source) = None

-- In what follows `value` tells the values that the words give, by the name of the argument.

-- the words say this action
pub record Says (value : List ℕ → Option (List ℕ)) (action : Action) : Type 0 where
  pub word : value (codes "ACTION") ≡ Some (action_word action)
  pub first : value (codes "FIRST") ≡ Some (first_name action)
  pub second : value (codes "SECOND") ≡ second_name action

-- the number that an option's value spells, or this one where the words don't give the option
abbrev pub number_or : ℕ → Option (List ℕ) → Option ℕ
number_or n None = Some n
number_or n (Some text) = numeral text

-- the stage that an option's value names, or `code` where the words don't give the option
abbrev pub stage_or_code : Option (List ℕ) → Option Stage
stage_or_code None = Some Code
stage_or_code (Some text) =
    if bytes_eq text (codes "parse") then Some Parse else (if bytes_eq text (codes "code") then Some Code else None)

-- a lawful number of bytes: a multiple of `unit` and at most 67,108,864
pub record IsSize (unit bytes : ℕ) : Type 0 where
  pub whole : bytes % unit ≡ 0
  pub most : bytes ≤ 67108864

-- the words give these options
pub record Gives (value : List ℕ → Option (List ℕ)) (options : Options) : Type 0 where
  pub stack : number_or 65536 (value (codes "stack")) ≡ Some options.stack
  pub stack_size : IsSize 16 options.stack
  pub local : number_or 65536 (value (codes "local")) ≡ Some options.local
  pub local_size : IsSize 8 options.local
  pub steps : number_or 1000000 (value (codes "steps")) ≡ Some options.steps
  pub stage : stage_or_code (value (codes "stage")) ≡ Some options.stage

-- The words are lawful, and this is the order that they give: `clap` finds nothing wrong with them, and the values that it
-- matches say the action and give the options. Each option is checked, also one that the action doesn't use.
pub record IsOrder (words : List (List ℕ)) (order : Order) : Type 0 where
  pub formed : faults words ≡ []
  pub action : Says (given words) order.action
  pub options : Gives (given words) order.options
