-- The promises of each action, from how it ended.
use Rattle.std.proofs.Common.{ℕ, List, refl}
use Rattle.command_words.specs.declared.order.Options.{Options}
use Rattle.command_words.specs.declared.order.Stage.{Stage}
use Rattle.pan_command.specs.declared.status.Status.{Status}
use Rattle.pan_command.specs.Status.{code}
use Rattle.pan_command.specs.Outside.{Call}
use Rattle.pan_command.specs.Compile.{CompileEnds}
use Rattle.pan_command.specs.Check.{CheckEnds}
use Rattle.pan_command.specs.Run.{RunEnds}
use Rattle.pan_command.specs.Meaning.{MeaningEnds}
use Rattle.pan_command.specs.Show.{ShowEnds}
use Rattle.pan_command.specs.Bound.{BoundEnds}
use Rattle.pan_command.specs.Dis.{DisEnds}
use Rattle.pan_command.specs.Promises.{CompileKeeps, CheckKeeps, RunKeeps, MeaningKeeps, ShowKeeps, DisKeeps, BoundKeeps}
use Rattle.pan_command.proofs.CompileCompleteness as compiling
use Rattle.pan_command.proofs.CheckCompleteness as checking
use Rattle.pan_command.proofs.RunCompleteness as running
use Rattle.pan_command.proofs.MeaningCompleteness as meaning
use Rattle.pan_command.proofs.ShowCompleteness as showing
use Rattle.pan_command.proofs.BoundCompleteness as bounding
use Rattle.pan_command.proofs.DisCompleteness as listing

pub compile_keeps : (source image : List ℕ) (call : Call) (s : Status) → CompileEnds source image call s → CompileKeeps source image call (code s)
compile_keeps source image call s h = record {
  ends = (s, refl, h);
  writes = compiling.compiled_at call source image s h;
  unread = compiling.unread_at call source image s h;
  refused = compiling.refused_at call source image s h;
  starved = compiling.starved_at call source image s h;
  only = compiling.compile_code call source image s h;
  complete = λ files program fine has. compiling.checked_ends call files source image fine has.0 program has.1 has.2 s h;
  refuses = λ files reason fine has. compiling.refused_ends call files source image fine has.0 reason has.1 has.2 s h;
  missing = λ files fine gone. compiling.missing_ends call files source image fine gone s h;
}

pub check_keeps : (source : List ℕ) (call : Call) (s : Status) → CheckEnds source call s → CheckKeeps source call (code s)
check_keeps source call s h = record {
  ends = (s, refl, h);
  complete = λ files program fine has. checking.passed_ends call files source fine has.0 has.1 program has.2 s h.1;
  refuses = λ files reason fine has. checking.unpassed_ends call files source fine has.0 has.1 reason has.2 s h.1;
  missing = λ files fine gone. checking.missing_ends call files source fine gone s h.1;
}

pub run_keeps : (options : Options) (image script : List ℕ) (call : Call) (s : Status) → RunEnds options image script call s → RunKeeps options image script call (code s)
run_keeps options image script call s h = record {
  ends = (s, refl, h);
  complete = λ files parts content fine has says. running.completes options call files image script (code s) fine has.0 has.1 parts has.2 says.0 says.1 content says.2
      (running.found options call image script s fine.puts h.1);
  refuses = λ files bytes fine there wrong. running.refused options call files image script (code s) fine bytes there wrong (running.found options call image script s fine.puts h.1);
  missing = λ files fine gone. running.missing options call files image script (code s) fine gone (running.found options call image script s fine.puts h.1);
  script_refuses = λ files parts refusal fine has says. running.script_refused options call files image script (code s) fine has.0 has.1 parts has.2 says.0 says.1 refusal says.2
      (running.found options call image script s fine.puts h.1);
  script_missing = λ files parts fine has gone. running.script_missing options call files image script (code s) fine has.0 has.1 parts has.2 gone
      (running.found options call image script s fine.puts h.1);
}

pub meaning_keeps : (options : Options) (source script : List ℕ) (call : Call) (s : Status) → MeaningEnds options source script call s → MeaningKeeps options source script call (code s)
meaning_keeps options source script call s h = record {
  ends = (s, refl, h);
  complete = λ files program content fine has says. meaning.completes options call files source script (code s) fine has.0 has.1 program has.2 says.0 says.1 content says.2
      (meaning.found options call source script s fine.puts h.1);
  refuses = λ files reason fine has. meaning.refused options call files source script (code s) fine has.0 has.1 reason has.2 (meaning.found options call source script s fine.puts h.1);
  missing = λ files fine gone. meaning.missing options call files source script (code s) fine gone (meaning.found options call source script s fine.puts h.1);
  script_refuses = λ files program refusal fine has says. meaning.script_refused options call files source script (code s) fine has.0 has.1 program has.2 says.0 says.1 refusal says.2
      (meaning.found options call source script s fine.puts h.1);
  script_missing = λ files program fine has gone. meaning.script_missing options call files source script (code s) fine has.0 has.1 program has.2 gone
      (meaning.found options call source script s fine.puts h.1);
}

pub show_keeps : (stage : Stage) (source : List ℕ) (call : Call) (s : Status) → ShowEnds stage source call s → ShowKeeps stage source call (code s)
show_keeps stage source call s h = record {
  ends = (s, refl, h);
  complete = λ files program fine has. showing.passed_ends stage call files source fine has.0 has.1 program has.2 s h.1;
  refuses = λ files reason fine has. showing.unpassed_ends stage call files source fine has.0 has.1 reason has.2 s h.1;
  missing = λ files fine gone. showing.missing_ends stage call files source fine gone s h.1;
}

pub dis_keeps : (image : List ℕ) (call : Call) (s : Status) → DisEnds image call s → DisKeeps image call (code s)
dis_keeps image call s h = record {
  ends = (s, refl, h);
  complete = λ files parts fine has. listing.listed_ends call files image fine has.0 has.1 parts has.2 s h.1;
  refuses = λ files bytes fine there wrong. listing.refused_ends call files image fine bytes there wrong s h.1;
  missing = λ files fine gone. listing.missing_ends call files image fine gone s h.1;
}

pub bound_keeps : (source : List ℕ) (call : Call) (s : Status) → BoundEnds source call s → BoundKeeps source call (code s)
bound_keeps source call s h = record {
  ends = (s, refl, h);
  complete = λ files program fine has. bounding.passed_ends call files source fine has.0 has.1 program has.2 s h.1;
  refuses = λ files reason fine has. bounding.unpassed_ends call files source fine has.0 has.1 reason has.2 s h.1;
  missing = λ files fine gone. bounding.missing_ends call files source fine gone s h.1;
}
