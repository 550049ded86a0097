use Rattle.front_end.proofs.Readings.{one_program, one_reason, apart}
use Rattle.front_end.proofs.laws.one_reading.Goals as goal

pub returns-clause-program : goal.returns-clause-program
returns-clause-program c =
    one_program (record {
      one_row = c.one_row.ensures;
      one_stop = c.one_refusal.ensures.reason;
      lexed = c.one_refusal.ensures.apart;
      one_tree = c.one_answer.ensures.program;
      one_refusal = c.one_answer.ensures.reason;
      parsed = c.one_answer.ensures.apart;
    })

pub returns-clause-reason : goal.returns-clause-reason
returns-clause-reason c =
    one_reason (record {
      one_row = c.one_row.ensures;
      one_stop = c.one_refusal.ensures.reason;
      lexed = c.one_refusal.ensures.apart;
      one_tree = c.one_answer.ensures.program;
      one_refusal = c.one_answer.ensures.reason;
      parsed = c.one_answer.ensures.apart;
    })

pub returns-clause-apart : goal.returns-clause-apart
returns-clause-apart c =
    apart (record {
      one_row = c.one_row.ensures;
      one_stop = c.one_refusal.ensures.reason;
      lexed = c.one_refusal.ensures.apart;
      one_tree = c.one_answer.ensures.program;
      one_refusal = c.one_answer.ensures.reason;
      parsed = c.one_answer.ensures.apart;
    })
