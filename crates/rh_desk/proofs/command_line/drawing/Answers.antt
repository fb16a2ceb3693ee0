use Rattle.std.proofs.Common.{ap₂, ◌∙◌, ◌≡◌, codes}
use Rattle.std.proofs.lemmas.Result.{IfOk-weaker}
use Rattle.clap.specs.Words.{app_of, new_app, with_rule}
use Rattle.rh_desk.proofs.command_line.drawing.Goals as goal

pub returns : goal.returns
returns c =
    let top_is : app_of c.after_help.result ≡ new_app (codes "draw") = rw (c.after_help.ensures, c.about.ensures) c.new.ensures.app in
    let one = c.in_ok-arg.ensures.shape c.pages_arg.ensures.local ∙ ap₂ with_rule top_is c.pages_arg.ensures.rule in
    let two = c.in_ok-arg-2.ensures.shape c.marked_arg.ensures.local ∙ ap₂ with_rule one c.marked_arg.ensures.rule in
    let three = c.in_ok-arg-3.ensures.shape c.lens_arg.ensures.local ∙ ap₂ with_rule two c.lens_arg.ensures.rule in
    let four = c.in_ok-arg-4.ensures.shape c.script_arg.ensures.local ∙ ap₂ with_rule three c.script_arg.ensures.rule in
    IfOk-weaker c.arg-5.result _ _
    (λ command added. added.shape c.files_arg.ensures.local ∙ ap₂ with_rule four c.files_arg.ensures.rule) c.arg-5.ensures
