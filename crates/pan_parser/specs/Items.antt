-- What the functions say that read the items of a program.
use Rattle.std.specs.Prelude.{◌≡◌, ℕ, Bool, false, List, [], ◌∷◌, ◌++◌}
use Rattle.pan_base.specs.declared.tokens.Sign.TheVariants as sign
use Rattle.pan_base.specs.Tokens.{Placed}
use Rattle.pan_tree.specs.declared.shape.Shape.{Shape}
use Rattle.pan_tree.specs.declared.program.Param.{Param}
use Rattle.pan_tree.specs.declared.program.Program.{Program}
use Rattle.pan_tree.specs.Grammar.{Is, IsName, Within, Result, AParam, MoreParams, Params, AnException, AFunction}
use Rattle.pan_parser.specs.declared.items.Item.{Item}
use Rattle.pan_parser.specs.declared.items.Item.TheVariants as item
use Rattle.pan_parser.specs.Machine.{Stack, WantName, WantShape, WantSign, WantBlock, MayShape, MayParams}
use Rattle.pan_parser.specs.Reading.{is_name}

-- a name comes
abbrev pub begins_name : List Placed → Bool
begins_name [] = false
begins_name (t ∷ a) = is_name t.kind

-- [shape] NAME
pub record NamedResult (a c : List Placed) (z : Shape) (f : List ℕ) : Type 0 where
  pub name : Placed
  pub is : IsName f name
  pub result : Result Within 0 a (name ∷ c) z

-- param {',' param}
pub record SomeParams (a c : List Placed) (zs : List Param) : Type 0 where
  pub one : Param
  pub others : List Param
  pub are : zs ≡ one ∷ others
  pub between : List Placed
  pub first : AParam Within 0 a between one
  pub more : MoreParams Within 0 between c others

-- [param {',' param}] ')'
pub record ClosedParams (a c : List Placed) (xs : List Param) : Type 0 where
  pub close : Placed
  pub is : Is sign.CloseParen close
  pub params : Params Within 0 a (close ∷ c) xs

-- what follows the word of an item
abbrev pub exception_rest : Stack
exception_rest = WantName ∷ WantShape 0 ∷ WantSign sign.Semicolon ∷ []

abbrev pub function_rest : Stack
function_rest = MayShape 0 ∷ WantName ∷ WantSign sign.OpenParen ∷ MayParams 0 ∷ WantSign sign.CloseParen ∷ WantBlock 0 ∷ []

-- the tokens spell the item
abbrev pub AnItem : List Placed → List Placed → Item → Type 0
AnItem a b (item.Exception x) = AnException Within a b x
AnItem a b (item.Function f) = AFunction Within a b f

-- the program with the item behind the others of its kind
abbrev pub with_item : Program → Item → Program
with_item p (item.Exception x) = record { exceptions = p.exceptions ++ x ∷ []; functions = p.functions }
with_item p (item.Function f) = record { exceptions = p.exceptions; functions = p.functions ++ f ∷ [] }
