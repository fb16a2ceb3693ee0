use Rattle.rh_pictures.proofs.Common.{[], ◌≡◌, ◌+◌, ◌∙◌, ◌||◌, ap, ap₂, false, length, refl, sym, true, ◌&&◌, ◌==◌, if◌then◌else◌, nat_lt, not, offered_as}
use Rattle.rh_pictures.proofs.Common.{PaintStand, walk_in}
use Rattle.rh_defs.specs.Line.{words_of}
use Rattle.rh_pictures.proofs.ShareLemmas.{is_shared}
use Rattle.rh_figure.specs.Map.{is_mark}
use Rattle.rh_sheet.specs.Sheet.{is_shown_remark}
use Rattle.rh_sheet.specs.SheetSteps.{step_open}
use Rattle.rh_sheet.specs.declared.sizes.TheConstants.{MOST_STEPS}
use Rattle.rh_pictures.proofs.SheetStepLemmas.{skip-hidden, skip-shown}
use Rattle.rh_pictures.proofs.TextPuts.{text_then}
use Rattle.rh_pictures.proofs.sheet.painter.Painter.skip.Goals as goal

pub returns-then-not-shows-clause-drew : goal.returns-then-not-shows-clause-drew
returns-then-not-shows-clause-drew g c =
    let m = c.args.self.now in
    let n = record m { progress = c.count_line.new.self } in
    let line = c.args.line.now in
    let desk = g.D.Sight.desk in
    let w-is : c.is_wanted-wanted.result ≡ (m.progress.wanted || is_mark line) = c.is_wanted-wanted.ensures ∙ ap (λ b. b || is_mark line) c.wanted.ensures in
    let progress : c.count_line.new.self ≡ record m.progress { lines = m.progress.lines + 1; wanted = m.progress.wanted || is_mark line } =
    c.count_line.ensures.next ∙ ap (λ w. record m.progress { lines = m.progress.lines + 1; wanted = w }) w-is in
    let test : is_shown_remark m.marked (walk_in desk m) line ≡ false =
    sym (c.shows.ensures.value ∙ ap₂ (λ (p : PaintStand) w. not (length (words_of line) == 0) &&
    (nat_lt p.shown MOST_STEPS && (not m.marked || w))) progress w-is)
    ∙ c.if-not-shows.true in
    skip-hidden desk m n (g.P.Pen.offered c.args.pen.now) line refl refl refl refl progress test _ (is_shared (desk m.drawn) c.recall_desk.ensures)

pub returns-clause-drew : goal.returns-clause-drew
returns-clause-drew g c =
    let m = c.args.self.now in
    let n = record m { progress = c.open.new.self } in
    let line = c.args.line.now in
    let desk = g.D.Sight.desk in
    let w-is : c.is_wanted-wanted.result ≡ (m.progress.wanted || is_mark line) = c.is_wanted-wanted.ensures ∙ ap (λ b. b || is_mark line) c.wanted.ensures in
    let progress : c.count_line.new.self ≡ record m.progress { lines = m.progress.lines + 1; wanted = m.progress.wanted || is_mark line } =
    c.count_line.ensures.next ∙ ap (λ w. record m.progress { lines = m.progress.lines + 1; wanted = w }) w-is in
    let test : is_shown_remark m.marked (walk_in desk m) line ≡ true =
    sym (c.shows.ensures.value ∙ ap₂ (λ (p : PaintStand) w. not (length (words_of line) == 0) &&
    (nat_lt p.shown MOST_STEPS && (not m.marked || w))) progress w-is)
    ∙ c.if-not-shows.false in
    let opening-is = ap (λ (p : PaintStand). if p.opened then [] else step_open (p.shown + 1)) progress in
    skip-shown desk m n (g.P.Pen.offered c.args.pen.now) line refl refl refl refl
    (c.open.ensures ∙ ap (λ (p : PaintStand). record p { opened = true }) progress) test _ (is_shared (desk m.drawn) c.recall_desk.ensures)
    (text_then _ _ _ (offered_as _ opening-is c.open_step.ensures) c.print_remark.ensures)
