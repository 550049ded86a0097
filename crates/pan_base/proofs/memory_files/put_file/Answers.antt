use Rattle.std.proofs.Common.{◌≡◌, rules, arith, Some, None}
use Rattle.std.specs.Prelude.{position}
use Rattle.std.specs.Str.{bytes_eq}
use Rattle.std.proofs.lemmas.Grind.{common_steps}
use Rattle.pan_base.proofs.FileLemmas.{with_file-Some, with_file-None}
use Rattle.pan_base.proofs.memory_files.put_file.Goals as goal

pub returns-in-Some-clause-ok : goal.returns-in-Some-clause-ok
returns-in-Some-clause-ok c =
    let h : position (λ f. bytes_eq f.0 c.args.name.now) c.args.files.now ≡ Some c.in-Some.at = search rules in
    let e = with_file-Some c.args.files.now c.args.name.now c.args.bytes.now c.in-Some.at h in
    grind (arith, common_steps, e)

pub returns-in_ok-push-in-None-clause-ok : goal.returns-in_ok-push-in-None-clause-ok
returns-in_ok-push-in-None-clause-ok c =
    let h : position (λ f. bytes_eq f.0 c.args.name.now) c.args.files.now ≡ None = search rules in
    let e = with_file-None c.args.files.now c.args.name.now c.args.bytes.now h in
    grind (arith, common_steps, e)
