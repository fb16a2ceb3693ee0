use Rattle.rh_pictures.proofs.Common.{refl, Some, step, reply_to}
use Rattle.rh_pictures.proofs.SheetStepLemmas.{took-command}
use Rattle.rh_pictures.proofs.sheet.painter.Painter.pass.Goals as goal

pub returns-clause-left : goal.returns-clause-left
returns-clause-left g c = λ o line.
    let desk = g.D.Sight.desk in
    let m = c.args.self.now in
    let b = record m { drawn = c.change.new.drawn; messages = c.new-sender.new.messages } in
    let command = c.args.command.now in
    let reply = (step (desk m.drawn) command).1 in
    took-command desk m b c.leave_out.new.self o o line (record { marked = refl; progress = refl; notes = refl }) command reply _
    c.change.ensures (record { still = refl; marks = λ after kept. refl }) refl refl
    (c.leave_out.ensures.left _ c.new-sender.ensures o line (Some command) reply (reply_to (desk m.drawn) command))
