use Rattle.rh_pictures.proofs.Common.{List, ℕ, ap, subst, sym, option_map, marks_of, Share, Happened, happened_at}
use Rattle.rh_pictures.specs.DrawnReplies.{Excerpts}
use Rattle.rh_map.specs.Replies.{front_of}
use Rattle.rh_pictures.proofs.SheetStepLemmas.{IsNoted, took-shown, wrote-over}
use Rattle.rh_pictures.proofs.sheet.painter.Painter.take_step.Goals as goal

pub returns-clause-text : goal.returns-clause-text
returns-clause-text g c = λ text excerpt.
    let desk = g.D.Sight.desk in
    let m = c.args.self.now in
    let deed = c.args.deed in
    let n = c.begin_step.new.self in
    let b = record n { messages = c.messages.new.list } in
    let P : List ℕ → Type 0 = λ z. Excerpts z deed.count text in
    let command = option_map (λ z. z.now) deed.command in
    let h : Share → Happened = λ s. happened_at (desk m.drawn) s deed.kept.now command deed.reply.now text in
    let is : IsNoted m b h = record {
      drawn = ap (λ z. z.drawn) c.begin_step.ensures.rest;
      marked = ap (λ z. z.marked) c.begin_step.ensures.rest;
      bad = ap (λ z. z.has_bad_line) c.begin_step.ensures.rest;
      progress = c.begin_step.ensures.next;
      notes = λ s. c.begin_step.ensures.notes s deed.kept.now (marks_of (desk m.drawn) deed.kept.now command deed.reply.now) c.sender.ensures;
    } in
    let o = g.P.Pen.offered c.args.pen.now in
    let p = g.P.Pen.offered c.show.new.pen in
    took-shown desk m b c.show.new.self o p c.args.line.now h deed.wanted c.requires.wanted is c.requires.shown
    (wrote-over desk b c.show.new.self o p c.args.line.now deed.wanted
    deed.kept.now command deed.reply.now text is.drawn
    (c.show.ensures.text text (subst P (sym (ap (λ z. front_of z.front) c.begin_step.ensures.rest)) excerpt)))
