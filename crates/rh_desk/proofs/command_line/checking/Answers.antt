use Rattle.std.proofs.Common.{rules, ap₂, ◌∙◌, ◌≡◌, codes}
use Rattle.std.proofs.lemmas.Result.{IfOk-weaker}
use Rattle.clap.specs.Words.{app_of, new_app, rule_of, with_rule}
use Rattle.rh_desk.specs.CommandLine.{needed_rule, slot_rule}
use Rattle.rh_desk.proofs.command_line.checking.Goals as goal

pub returns : goal.returns
returns c =
    let slot_is : rule_of c.action-slot.result ≡ slot_rule = search rules in
    let file_is : rule_of c.action-file.result ≡ needed_rule (codes "file") = search rules in
    let top_is : app_of c.after_help.result ≡ new_app (codes "check") = rw (c.after_help.ensures, c.about.ensures) c.new-3.ensures.app in
    IfOk-weaker c.arg-2.result _ _ (λ command added. added.shape (search rules)
    ∙ ap₂ with_rule (c.in_ok-arg.ensures.shape (search rules) ∙ ap₂ with_rule top_is slot_is) file_is) c.arg-2.ensures
