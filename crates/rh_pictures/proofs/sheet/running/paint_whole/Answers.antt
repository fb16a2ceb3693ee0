use Rattle.std.proofs.Common.{[], Err, Ok, append-nil, refl, sym}
use Rattle.rh_lines.specs.Flow.{unread}
use Rattle.rh_session.proofs.RunLemmas.{if_err}
use Rattle.rh_pictures.proofs.SheetRunLemmas.{began, broke-off, painted, painted-head, painted-until}
use Rattle.rh_pictures.proofs.sheet.running.paint_whole.Goals as goal

pub returns-in_err-begin-clause-write_failed : goal.returns-in_err-begin-clause-write_failed
returns-in_err-begin-clause-write_failed g c =
    let script = c.args.script.now in
    if_err c.from_residual.result (λ e d h.
    painted-head c.args.form c.args.name.now d (unread script) (unread []) script (sym (append-nil script))
    (broke-off g.D.Sight.desk d (g.met.D.Drawn.alike _ d h) c.args.name.now c.new-painter.result c.begin.new.self c.new-painter.ensures
    (Err c.in_err-begin.field-0.0) refl c.in_err-begin.ensures.text))

pub returns-in_err-feed_whole-clause-write_failed : goal.returns-in_err-feed_whole-clause-write_failed
returns-in_err-feed_whole-clause-write_failed g c =
    if_err c.from_residual-in_err-feed_whole.result (λ e d h.
    let alike = g.met.D.Drawn.alike _ d h in
    let start = began g.D.Sight.desk d alike c.args.name.now c.new-painter.result c.begin.new.self c.new-painter.ensures c.in_ok-begin.ensures.rest
    (Ok c.in_ok-begin.field-0) refl c.in_ok-begin.ensures.text in
    painted-until c.args.name.now start.stands start.well start.begun c.in_err-feed_whole.ensures.write_failed)

pub returns-clause-ok : goal.returns-clause-ok
returns-clause-ok g c = λ d h.
    let alike = g.met.D.Drawn.alike _ d h in
    let start = began g.D.Sight.desk d alike c.args.name.now c.new-painter.result c.begin.new.self c.new-painter.ensures c.in_ok-begin.ensures.rest
    (Ok c.in_ok-begin.field-0) refl c.in_ok-begin.ensures.text in
    painted c.args.name.now start.stands start.well start.begun c.status.result c.in_ok-feed_whole.ensures.ok c.status.ensures
