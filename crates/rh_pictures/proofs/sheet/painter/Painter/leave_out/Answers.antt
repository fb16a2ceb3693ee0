use Rattle.rh_pictures.proofs.Common.{ap, marks_of, Share, Happened, happened_at}
use Rattle.rh_pictures.proofs.ShareLemmas.{is_shared}
use Rattle.rh_pictures.proofs.SheetStepLemmas.{IsNoted, took-left}
use Rattle.rh_pictures.proofs.sheet.painter.Painter.leave_out.Goals as goal

pub returns-clause-left : goal.returns-clause-left
returns-clause-left g c = λ before is-sender o line command r reply.
    let desk = g.D.Sight.desk in
    let m = c.args.self.now in
    let b = c.begin_step.new.self in
    let n = record b { progress = c.leave_out.new.self } in
    let h : Share → Happened = λ s. happened_at (desk m.drawn) s before command r reply in
    let is : IsNoted m b h = record {
      drawn = ap (λ z. z.drawn) c.begin_step.ensures.rest;
      marked = ap (λ z. z.marked) c.begin_step.ensures.rest;
      bad = ap (λ z. z.has_bad_line) c.begin_step.ensures.rest;
      progress = c.begin_step.ensures.next;
      notes = λ s. c.begin_step.ensures.notes s before (marks_of (desk m.drawn) before command r) is-sender;
    } in
    took-left desk m b n o line h is c.requires.hidden _ (is_shared (desk b.drawn) c.recall_desk.ensures)
    (ap (λ p. record b { progress = p }) c.leave_out.ensures)
