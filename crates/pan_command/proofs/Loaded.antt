-- How an action ends whose file gave nothing to go on with.
use Rattle.std.proofs.Common.{ℕ, List, Err, inl, inr}
use Rattle.command_words.specs.declared.order.Stage.{Stage}
use Rattle.pan_command.specs.declared.status.Status.{Status}
use Rattle.pan_command.specs.declared.status.Status.TheVariants as status
use Rattle.pan_command.specs.Outside.{Call, NoFileChanged}
use Rattle.pan_command.specs.Loading.{ImageCases, ProgramCases}
use Rattle.pan_command.specs.Compile.{CompileEnds}
use Rattle.pan_command.specs.Show.{ShowCases}
use Rattle.pan_command.specs.Dis.{DisCases}

pub compile_unbuilt : (call : Call) (source image : List ℕ) (s : Status) → NoFileChanged call → ProgramCases source call (Err s) → CompileEnds source image call s
compile_unbuilt call source image status.Done same h = absurd h
compile_unbuilt call source image status.Usage same h = absurd h
compile_unbuilt call source image status.Unread same h = (same, h)
compile_unbuilt call source image status.Refused same h = (same, h)
compile_unbuilt call source image status.NoImage same h = absurd h
compile_unbuilt call source image status.NoScript same h = absurd h
compile_unbuilt call source image status.Unwritten same h = absurd h
compile_unbuilt call source image status.Unput same h = record {
  cause = h.0;
  line = elim h.1 [ inl u ↦ inr (inl (same, u)) | inr r ↦ inr (inr (inl (same, r))) ];
}
compile_unbuilt call source image status.NoMemory same h = record { left = inl same; line = h }
compile_unbuilt call source image (status.Ran end) same h = absurd h

pub show_unread : (stage : Stage) (call : Call) (source : List ℕ) (s : Status) → ProgramCases source call (Err s) → ShowCases stage source call s
show_unread stage call source status.Done h = absurd h
show_unread stage call source status.Usage h = absurd h
show_unread stage call source status.Unread h = h
show_unread stage call source status.Refused h = h
show_unread stage call source status.NoImage h = absurd h
show_unread stage call source status.NoScript h = absurd h
show_unread stage call source status.Unwritten h = absurd h
show_unread stage call source status.Unput h = record {
  cause = h.0;
  text = elim h.1 [ inl u ↦ inr (inr u) | inr r ↦ inr (inl r) ];
}
show_unread stage call source status.NoMemory h = h
show_unread stage call source (status.Ran end) h = absurd h

pub dis_unread : (call : Call) (image : List ℕ) (s : Status) → ImageCases image call (Err s) → DisCases image call s
dis_unread call image status.Done h = absurd h
dis_unread call image status.Usage h = absurd h
dis_unread call image status.Unread h = h
dis_unread call image status.Refused h = absurd h
dis_unread call image status.NoImage h = h
dis_unread call image status.NoScript h = absurd h
dis_unread call image status.Unwritten h = absurd h
dis_unread call image status.Unput h = record {
  cause = h.0;
  text = elim h.1 [ inl u ↦ inr (inr u) | inr w ↦ inr (inl w) ];
}
dis_unread call image status.NoMemory h = h
dis_unread call image (status.Ran end) h = absurd h
