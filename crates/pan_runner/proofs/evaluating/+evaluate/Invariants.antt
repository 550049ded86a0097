use Rattle.std.proofs.Common.{◌≡◌, ◌+◌, ◌*◌, Some, map, drop}
use Rattle.pan_runner.specs.Told.{all_told}
use Rattle.source_resolver.specs.Slots.{chain, values}
use Rattle.pan_runner.specs.Evaluating.{term}
use Rattle.pan_runner.proofs.GivingLayers.{behind}
use Rattle.pan_runner.proofs.evaluating.+evaluate.Given as goal

-- what is left completes what is done
abbrev pub invariant-evaluate_chain-loop-op : goal.invariant-evaluate_chain-loop-op
invariant-evaluate_chain-loop-op l =
    chain (Some l.word) (map term (drop l.op-index l.rest)) (all_told l.variables) l.memory ≡ chain (Some l.initial.word) (map term l.rest) (all_told l.variables) l.memory

abbrev pub invariant-evaluate_all-loop-expr : goal.invariant-evaluate_all-loop-expr
invariant-evaluate_all-loop-expr l =
    behind (all_told l.all) (values (drop l.expr-index l.exprs) (all_told l.variables) l.memory) ≡ values l.exprs (all_told l.variables) l.memory

-- An expression is asked for a word, and for a value where it is no word. Parts, terms and what a field is of are smaller.
abbrev pub decreases-evaluate_word : goal.decreases-evaluate_word
decreases-evaluate_word l = 3 * goal.size-evaluate_word l

abbrev pub decreases-evaluate : goal.decreases-evaluate
decreases-evaluate l = 3 * goal.size-evaluate l + 1

abbrev pub decreases-evaluate_field : goal.decreases-evaluate_field
decreases-evaluate_field l = 3 * goal.size-evaluate_field l + 2

abbrev pub decreases-evaluate_field_word : goal.decreases-evaluate_field_word
decreases-evaluate_field_word l = 3 * goal.size-evaluate_field_word l + 2

abbrev pub decreases-evaluate_chain : goal.decreases-evaluate_chain
decreases-evaluate_chain l = 3 * goal.size-evaluate_chain l + 2

abbrev pub decreases-evaluate_all : goal.decreases-evaluate_all
decreases-evaluate_all l = 3 * goal.size-evaluate_all l + 2
