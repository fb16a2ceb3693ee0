use Rattle.std.proofs.Common.{◌∙◌, sym, rules}
use Rattle.rh_lines.proofs.PenLemmas.{done_as, wrote}
use Rattle.rh_desk.specs.Telling.{lost_file_text}
use Rattle.rh_desk.proofs.TellLemmas.{puts_tells}
use Rattle.rh_desk.proofs.telling.tell_file.Goals as goal

pub returns-clause-errors : goal.returns-clause-errors
returns-clause-errors g c =
    let text = lost_file_text c.args.path.now c.args.loss in
    let made = c.new-pen.ensures in
    let offered = c.finish-told.ensures.same ∙ c.put_lost_file.ensures in
    let w = wrote c.new-pen.result c.finish-told.new.self text offered in
    let same = sym (w.same_reference ∙ made.same_reference) in
    let p = done_as c.new-pen.result c.finish-told.new.self _ _ text c.finish-told.result offered made.begun made.text c.finish-told.ensures.written in
    puts_tells c.finish-told.result (search rules)
