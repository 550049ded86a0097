use Rattle.std.proofs.Common.{◌∙◌}
use Rattle.device_script.proofs.IndexLemmas.{register_pushed, queue_pushed, counter_pushed, collector_pushed, foreign_pushed}
use Rattle.device_script.proofs.index.Index.insert.Goals as goal

pub returns-in_ok-insert-in-Register-2 : goal.returns-in_ok-insert-in-Register-2
returns-in_ok-insert-in-Register-2 c = λ rs h last.
    let r = c.in-Register in
    register_pushed c.args.self.now c.insert.new.self c.insert-in-Register.new.self rs c.args.rule.now r.size r.addr r.value c.bytes.result c.bytes-in-Register.result c.args.at r.is c.bytes.ensures.value c.bytes-in-Register.ensures.value c.in_ok-insert-in-Register.ensures.updates c.in_ok-insert-in-Register-2.ensures.updates h last

pub returns-in_ok-insert-in-Queue : goal.returns-in_ok-insert-in-Queue
returns-in_ok-insert-in-Queue c = λ rs h last.
    let r = c.in-Queue in
    queue_pushed c.args.self.now c.insert-in-Queue.new.self rs c.args.rule.now r.size r.addr r.values c.bytes-in-Queue.result c.args.at r.is c.bytes-in-Queue.ensures.value c.in_ok-insert-in-Queue.ensures.updates h last

pub returns-in_ok-insert-in-Counter : goal.returns-in_ok-insert-in-Counter
returns-in_ok-insert-in-Counter c = λ rs h last.
    let r = c.in-Counter in
    counter_pushed c.args.self.now c.insert-in-Counter.new.self rs c.args.rule.now r.size r.addr r.first r.step r.loads c.bytes-in-Counter.result c.args.at r.is c.bytes-in-Counter.ensures.value c.in_ok-insert-in-Counter.ensures.updates h last

pub returns-in_ok-insert-in-Collector : goal.returns-in_ok-insert-in-Collector
returns-in_ok-insert-in-Collector c = λ rs h last.
    let r = c.in-Collector in
    collector_pushed c.args.self.now c.insert-in-Collector.new.self rs c.args.rule.now r.size r.addr r.left c.bytes-in-Collector.result c.args.at r.is c.bytes-in-Collector.ensures.value c.in_ok-insert-in-Collector.ensures.updates h last

pub returns-in_ok-insert-in-Foreign : goal.returns-in_ok-insert-in-Foreign
returns-in_ok-insert-in-Foreign c = λ rs h last.
    let r = c.in-Foreign in
    foreign_pushed c.args.self.now c.insert-in-Foreign.new.self rs c.args.rule.now r.name r.effect c.in_ok-from_slice-in-Foreign.field-0 c.args.at r.is (c.in_ok-from_slice-in-Foreign.ensures.items ∙ c.as_slice.ensures) c.in_ok-insert-in-Foreign.ensures.updates h last
