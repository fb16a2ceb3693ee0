use Rattle.std.proofs.Common.{◌∙◌, sym, rules}
use Rattle.rh_defs.specs.Text.{reply_text}
use Rattle.rh_lines.proofs.PenLemmas.{done_as, wrote}
use Rattle.rh_script.proofs.print.print_reply.Goals as goal

pub returns : goal.returns
returns g c =
    let text = reply_text c.args.world.now.desk c.args.command.now c.args.reply.now in
    let made = c.new-pen.ensures in
    let offered = c.finish.ensures.same ∙ c.put_reply.ensures in
    let w = wrote c.new-pen.result c.finish.new.self text offered in
    let same = sym (w.same_reference ∙ made.same_reference) in
    let p = done_as c.new-pen.result c.finish.new.self _ _ text c.finish.result offered made.begun made.text c.finish.ensures.written in
    search rules
