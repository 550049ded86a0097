-- What the whole run says of the answer.
use Rattle.std.proofs.Common.{◌≡◌, List}
use Rattle.pan_base.specs.Tokens.{Placed}
use Rattle.pan_tree.specs.declared.program.Program.{Program}
use Rattle.pan_tree.specs.Grammar.{Within, Tree}
use Rattle.pan_parser.proofs.Unique.{unique_program}

pub one_answer : (ts : List Placed) (q p : Program) → Tree ts q → Tree ts p → q ≡ p
one_answer ts q p d c = unique_program Within Within ts q p d c
