use Rattle.std.proofs.Common.{◌≡◌, ◌∙◌, ap, ap₂, false, true, codes}
use Rattle.std.proofs.lemmas.Result.{IfOk-weaker}
use Rattle.clap.specs.Words.{AddsArg, App, Rule, app_of, new_app, rule_of, with_rule}
use Rattle.clap.specs.Simple.{app_of_fields, on_top}
use Rattle.clap.specs.declared.builder.arg.Arg.{Arg}
use Rattle.clap.specs.declared.builder.command.Command.{Command}
use Rattle.command_words.specs.Panc.{panc}
use Rattle.command_words.proofs.command.panc_command.Goals as goal

-- what a command is with one more argument
added : {old new : Command} {a : Arg} {x : App} {r : Rule} → AddsArg old a new → a.global ≡ false → rule_of a ≡ r → app_of old ≡ x → app_of new ≡ with_rule x r
added adds own rule old = adds.shape own ∙ ap₂ with_rule old rule

pub returns : goal.returns
unfolding panc
returns c =
    let named : app_of c.no_binary_name.result ≡ on_top (λ top. record top { no_binary_name = true }) (new_app (codes "panc")) =
    ap app_of_fields c.no_binary_name.ensures ∙ ap (on_top (λ top. record top { no_binary_name = true })) c.new.ensures.app in
    let bare = ap app_of_fields c.disable_help_flag.ensures ∙ ap (on_top (λ top. record top { disable_help_flag = true })) named in
    let third = added c.in_ok-arg-3.ensures c.new-2.ensures.optional.1 c.new-2.ensures.rule
    (added c.in_ok-arg-2.ensures c.needed-2.ensures.own c.needed-2.ensures.rule (added c.in_ok-arg.ensures c.needed.ensures.own c.needed.ensures.rule bare)) in
    let sixth = added c.in_ok-arg-6.ensures c.valued-3.ensures.own c.valued-3.ensures.rule
    (added c.in_ok-arg-5.ensures c.valued-2.ensures.own c.valued-2.ensures.rule (added c.in_ok-arg-4.ensures c.valued.ensures.own c.valued.ensures.rule third)) in
    IfOk-weaker c.arg-7.result _ _ (λ command adds. added adds c.valued-4.ensures.own c.valued-4.ensures.rule sixth) c.arg-7.ensures
