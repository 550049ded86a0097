use Rattle.std.proofs.Common.{◌-◌, sym, ◌∙◌, drop, arith, length-drop}
use Rattle.pan_lexer.proofs.CommentLemmas.{short_no_close}
use Rattle.pan_lexer.proofs.comments.after_close.Goals as goal

pub returns : goal.returns
returns c =
    sym (c.loop-i.invariant ∙ short_no_close (drop (c.loop-i.i - 1) c.args.bytes.now) (omega (arith, length-drop (c.loop-i.i - 1) c.args.bytes.now)))
