use Rattle.std.proofs.Common.{◌≡◌, ◌-◌, ◌+◌, Some, ap, sym, ◌∙◌, arith}
use Rattle.std.proofs.lemmas.List.{append-nil}
use Rattle.pan_control.specs.Memory.{words_at}
use Rattle.pan_runner.proofs.LocalWords.{behind, word_missing, word_loaded}
use Rattle.pan_runner.proofs.memory.load_words.Goals as goal

pub returns-in-None : goal.returns-in-None
returns-in-None c =
    let n = c.args.count - c.loop.counter in
    let k = c.args.count - (c.loop.counter + 1) in
    sym (word_missing c.loop.words c.args.memory.now c.loop.at n k (omega arith) (sym c.in-None.ensures)) ∙ c.loop.invariant

pub loop-preserved : goal.loop-preserved
loop-preserved c =
    let n = c.args.count - c.loop.counter in
    let k = c.args.count - (c.loop.counter + 1) in
    let pushed = c.in_ok-push-in-Some.ensures.ok in
    let loaded = word_loaded c.loop.words c.args.memory.now c.loop.at n k c.in-Some.word (omega arith) (sym c.in-Some.ensures) in
    let before = c.loop.invariant in
    cc

pub returns : goal.returns
returns c =
    let n = c.args.count - c.loop.counter in
    let none : n ≡ 0 = omega arith in
    ap Some (sym (append-nil c.loop.words)) ∙ sym (ap (λ n. behind c.loop.words (words_at c.args.memory.now c.loop.at n)) none) ∙ c.loop.invariant
