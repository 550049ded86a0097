use Rattle.std.proofs.Common.{◌≡◌, subst, inr, Err}
use Rattle.pan_base.specs.Causes.{Rose}
use Rattle.pan_base.specs.Sinks.{SinkState, Took, TookFront}
use Rattle.device_script.specs.Script.{Refusal, script_of_file}
use Rattle.pan_command.specs.Reading.{script_line}
use Rattle.pan_command.proofs.loading.load_script.Goals as goal

pub returns-in-Ok-put_script_line : goal.returns-in-Ok-put_script_line
returns-in-Ok-put_script_line g c =
    let q = c.in-Ok.ensures in
    let refusal : Refusal = record { line = c.in-Err-Line.line; cause = c.in-Err-Line.cause } in
    let refused : script_of_file c.as_slice.result.now ≡ Err refusal = rw c.in-Err-Line.field-0-is at c.in-Err-Line.ensures.refused in (
      q.0,
      record {
        bytes = c.as_slice.result.now;
        held = rw c.as_slice.ensures q.1.0;
        refusal = refusal;
        refused = refused;
        line = subst (λ (o : SinkState). Took o (g.O.Sink.state c.put_script_line.new.out) (script_line refusal)) q.1.1.out c.in-Ok-put_script_line.ensures.took;
      },
    )

pub returns : goal.returns
returns g c =
    let q = c.in-Ok.ensures in
    let refusal : Refusal = record { line = c.in-Err-Line.line; cause = c.in-Err-Line.cause } in
    let refused : script_of_file c.as_slice.result.now ≡ Err refusal = rw c.in-Err-Line.field-0-is at c.in-Err-Line.ensures.refused in (
      q.0,
      (
        subst (λ (o : SinkState). Rose o.faults (g.O.Sink.state c.put_script_line.new.out).faults) q.1.1.out c.in-Err-put_script_line.ensures.cause.failed,
        inr (record {
          bytes = c.as_slice.result.now;
          held = rw c.as_slice.ensures q.1.0;
          refusal = refusal;
          refused = refused;
          line = subst (λ (o : SinkState). TookFront o (g.O.Sink.state c.put_script_line.new.out) (script_line refusal)) q.1.1.out c.in-Err-put_script_line.ensures.took;
        }),
      ),
    )
