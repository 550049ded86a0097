use Rattle.std.proofs.Common.{sym, ap, ◌∙◌}
use Rattle.device_script.specs.Rules.{answers_call}
use Rattle.device_script.specs.Index.{place_where}
use Rattle.device_script.proofs.IndexLemmas.{register_taken, register_stores_taken, queue_taken, counter_taken, collector_taken, foreign_taken}
use Rattle.device_script.proofs.index.Index.is_taken.Goals as goal

pub returns-then-is_some : goal.returns-then-is_some
returns-then-is_some c = λ rs h.
    let r = c.in-Register in
    c.if-is_some.true ∙ register_taken rs c.args.rule.now r.size r.addr r.value c.load.result r.is (c.load.ensures rs h) (sym c.is_some.ensures ∙ c.if-is_some.true)

pub returns-else-is_some : goal.returns-else-is_some
returns-else-is_some c = λ rs h.
    let r = c.in-Register in
    c.is_some-else-is_some.ensures ∙ register_stores_taken rs c.args.rule.now r.size r.addr r.value c.load.result c.store.result r.is (c.load.ensures rs h) (sym c.is_some.ensures ∙ c.if-is_some.false) (c.store.ensures rs h)

pub returns-in-Queue : goal.returns-in-Queue
returns-in-Queue c = λ rs h.
    let r = c.in-Queue in
    c.is_some-in-Queue.ensures ∙ queue_taken rs c.args.rule.now r.size r.addr r.values c.load-in-Queue.result r.is (c.load-in-Queue.ensures rs h)

pub returns-in-Counter : goal.returns-in-Counter
returns-in-Counter c = λ rs h.
    let r = c.in-Counter in
    c.is_some-in-Counter.ensures ∙ counter_taken rs c.args.rule.now r.size r.addr r.first r.step r.loads c.load-in-Counter.result r.is (c.load-in-Counter.ensures rs h)

pub returns-in-Collector : goal.returns-in-Collector
returns-in-Collector c = λ rs h.
    let r = c.in-Collector in
    c.is_some-in-Collector.ensures ∙ collector_taken rs c.args.rule.now r.size r.addr r.left c.store-in-Collector.result r.is (c.store-in-Collector.ensures rs h)

pub returns-in-Foreign : goal.returns-in-Foreign
returns-in-Foreign c = λ rs h.
    let r = c.in-Foreign in
    c.is_some-in-Foreign.ensures ∙ foreign_taken rs c.args.rule.now r.name r.effect c.call.result r.is (c.call.ensures rs h ∙ ap (λ name. place_where (λ s. answers_call s name) rs) c.as_slice.ensures)
