use Rattle.rh_pictures.proofs.Common.{refl, reply_to}
use Rattle.rh_pictures.proofs.SheetStepLemmas.{took-command}
use Rattle.rh_pictures.proofs.sheet.painter.Painter.carry_out.Goals as goal

pub returns-clause-drew : goal.returns-clause-drew
returns-clause-drew g c =
    let desk = g.D.Sight.desk in
    let m = c.args.self.now in
    let b = record m { drawn = c.answer-reply.new.drawn; messages = c.messages.new.list; front = c.answer-reply.new.front } in
    took-command desk m b c.take_step.new.self (g.P.Pen.offered c.args.pen.now) (g.P.Pen.offered c.take_step.new.pen) c.args.line.now
    (record { marked = refl; progress = refl; notes = refl }) c.args.command.now _ _ c.answer-reply.ensures.desk c.answer-reply.ensures.reply
    c.new-kept.ensures refl
    (c.take_step.ensures.text (reply_to (desk m.drawn) c.args.command.now) c.answer-reply.ensures.excerpt)
