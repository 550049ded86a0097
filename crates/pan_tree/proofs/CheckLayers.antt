-- The equations of what the check asks, at each layer.
use Rattle.std.proofs.Common.{◌≡◌, Bool, sym, ap, ◌∙◌}
use Rattle.pan_tree.specs.Check.{Judging, Doing, judge_layer, judge_kind, do_layer, do_kind, closes_layer, closes_kind, lawful_layer, lawful_kind}
use Rattle.pan_tree.specs.declared.syntax.ExprKind.{ExprKind, ExprKind-F, fold-roll-ExprKind, roll-ExprKind, map-ExprKind}
use Rattle.pan_tree.specs.declared.syntax.StmtKind.{StmtKind, StmtKind-F, fold-roll-StmtKind, roll-StmtKind, map-StmtKind}

pub judge_roll : (x : ExprKind-F ExprKind) → judge_kind (roll-ExprKind x) ≡ judge_layer (map-ExprKind ExprKind Judging judge_kind x)
unfolding judge_kind
judge_roll x = fold-roll-ExprKind Judging judge_layer x

pub do_roll : (x : StmtKind-F StmtKind) → do_kind (roll-StmtKind x) ≡ do_layer (map-StmtKind StmtKind Doing do_kind x)
unfolding do_kind
do_roll x = fold-roll-StmtKind Doing do_layer x

pub closes_roll : (x : StmtKind-F StmtKind) → closes_kind (roll-StmtKind x) ≡ closes_layer (map-StmtKind StmtKind Bool closes_kind x)
unfolding closes_kind
closes_roll x = fold-roll-StmtKind Bool closes_layer x

pub lawful_roll : (x : StmtKind-F StmtKind) → lawful_kind (roll-StmtKind x) ≡ lawful_layer (map-StmtKind StmtKind Bool lawful_kind x)
unfolding lawful_kind
lawful_roll x = fold-roll-StmtKind Bool lawful_layer x

-- ---- at a variant

pub do_at : (y : StmtKind-F StmtKind) (x : StmtKind) → roll-StmtKind y ≡ x → do_kind x ≡ do_layer (map-StmtKind StmtKind Doing do_kind y)
do_at y x is = ap do_kind (sym is) ∙ do_roll y

pub closes_at : (y : StmtKind-F StmtKind) (x : StmtKind) → roll-StmtKind y ≡ x → closes_kind x ≡ closes_layer (map-StmtKind StmtKind Bool closes_kind y)
closes_at y x is = ap closes_kind (sym is) ∙ closes_roll y

pub lawful_at : (y : StmtKind-F StmtKind) (x : StmtKind) → roll-StmtKind y ≡ x → lawful_kind x ≡ lawful_layer (map-StmtKind StmtKind Bool lawful_kind y)
lawful_at y x is = ap lawful_kind (sym is) ∙ lawful_roll y
