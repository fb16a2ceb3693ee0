use Rattle.rh_pictures.proofs.Common.{◌∙◌, rules, sym}
use Rattle.rh_lines.proofs.PenLemmas.{done_as, wrote}
use Rattle.rh_pictures.specs.Inner.Heads.{head_of}
use Rattle.rh_pictures.proofs.SheetRunLemmas.{head-offered}
use Rattle.rh_pictures.proofs.sheet.painter.write_head.Goals as goal

pub returns : goal.returns
returns g c =
    let text = head_of c.args.name.now c.args.pages in
    let made = c.new-pen.ensures in
    let offered = c.finish.ensures.same ∙ head-offered c.args.name.now c.args.pages _ c.print_head.ensures in
    let w = wrote c.new-pen.result c.finish.new.self text offered in
    let same = sym (w.same_reference ∙ made.same_reference) in
    let p = done_as c.new-pen.result c.finish.new.self _ _ text c.finish.result offered made.begun made.text c.finish.ensures.written in
    search rules
