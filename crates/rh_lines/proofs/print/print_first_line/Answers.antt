use Rattle.std.proofs.Common.{◌∙◌, sym, rules}
use Rattle.rh_defs.specs.Questions.{Nothing}
use Rattle.rh_defs.specs.Text.{first_line}
use Rattle.rh_lines.proofs.PenLemmas.{done_as, wrote}
use Rattle.rh_lines.proofs.print.print_first_line.Goals as goal

pub returns : goal.returns
returns g c =
    let text = first_line c.args.reply.now Nothing in
    let made = c.new-pen.ensures in
    let offered = c.finish.ensures.same ∙ c.put_first_line.ensures in
    let w = wrote c.new-pen.result c.finish.new.self text offered in
    let same = sym (w.same_reference ∙ made.same_reference) in
    let p = done_as c.new-pen.result c.finish.new.self _ _ text c.finish.result offered made.begun made.text c.finish.ensures.written in
    search rules
