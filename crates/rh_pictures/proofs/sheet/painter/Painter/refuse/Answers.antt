use Rattle.rh_pictures.proofs.Common.{refl, true, None, fault_text}
use Rattle.rh_defs.specs.declared.reply.Reply.TheVariants.{Done}
use Rattle.rh_pictures.proofs.SheetStepLemmas.{took-fault}
use Rattle.rh_pictures.proofs.sheet.painter.Painter.refuse.Goals as goal

pub returns-then-not-shows_next-clause-drew : goal.returns-then-not-shows_next-clause-drew
returns-then-not-shows_next-clause-drew g c =
    let desk = g.D.Sight.desk in
    let m = c.args.self.now in
    let b = record m { has_bad_line = true; messages = c.new-sender.new.messages } in
    let o = g.P.Pen.offered c.args.pen.now in
    let line = c.args.line.now in
    took-fault desk m b c.leave_out.new.self o o line (record { marked = refl; progress = refl; notes = refl }) c.args.fault.now _ refl refl refl
    (c.leave_out.ensures.left _ c.new-sender.ensures o line None Done (fault_text c.args.fault.now))

pub returns-clause-drew : goal.returns-clause-drew
returns-clause-drew g c =
    let desk = g.D.Sight.desk in
    let m = c.args.self.now in
    let b = record m { has_bad_line = true; messages = c.messages.new.list; front = c.excerpt_fault-count.new.front } in
    took-fault desk m b c.take_step.new.self (g.P.Pen.offered c.args.pen.now) (g.P.Pen.offered c.take_step.new.pen) c.args.line.now
    (record { marked = refl; progress = refl; notes = refl }) c.args.fault.now _ refl c.new-kept.ensures refl
    (c.take_step.ensures.text (fault_text c.args.fault.now) c.excerpt_fault-count.ensures)
