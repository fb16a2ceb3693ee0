use Rattle.std.proofs.Common.{◌∙◌, sym, rules}
use Rattle.rh_explained.specs.Help.{command_help}
use Rattle.rh_lines.proofs.PenLemmas.{done_as, wrote}
use Rattle.rh_desk.proofs.words.print_help.Goals as goal

pub returns : goal.returns
returns g c =
    let text = command_help c.args.kind in
    let made = c.new-pen.ensures in
    let offered = c.finish.ensures.same ∙ c.put_command_help.ensures in
    let w = wrote c.new-pen.result c.finish.new.self text offered in
    let same = sym (w.same_reference ∙ made.same_reference) in
    let p = done_as c.new-pen.result c.finish.new.self _ _ text c.finish.result offered made.begun made.text c.finish.ensures.written in
    search rules
