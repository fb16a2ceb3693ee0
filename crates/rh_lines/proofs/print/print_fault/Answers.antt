use Rattle.std.proofs.Common.{◌∙◌, sym, rules}
use Rattle.rh_defs.specs.Text.{fault_text}
use Rattle.rh_lines.proofs.PenLemmas.{done_as, wrote}
use Rattle.rh_lines.proofs.print.print_fault.Goals as goal

pub returns : goal.returns
returns g c =
    let text = fault_text c.args.fault.now in
    let made = c.new-pen.ensures in
    let offered = c.finish.ensures.same ∙ c.put_fault.ensures in
    let w = wrote c.new-pen.result c.finish.new.self text offered in
    let same = sym (w.same_reference ∙ made.same_reference) in
    let p = done_as c.new-pen.result c.finish.new.self _ _ text c.finish.result offered made.begun made.text c.finish.ensures.written in
    search rules
