use Rattle.std.proofs.Common.{◌∙◌, [], sym}
use Rattle.rh_session.proofs.RunLemmas.{same_fault}
use Rattle.rh_session.proofs.FeedLemmas.{Consumes-none}
use Rattle.rh_session.specs.declared.fault.FeedFault.TheVariants as feed
use Rattle.rh_pictures.proofs.SheetRunLemmas.{began, broke-off, painted, painted-head, painted-so-far, painted-until}
use Rattle.rh_pictures.proofs.sheet.running.paint_script.Goals as goal

pub returns-then-is_err-clause-write_failed : goal.returns-then-is_err-clause-write_failed
returns-then-is_err-clause-write_failed g c = λ e d h.
    let input = g.R.Source.input c.args.reader.now in
    painted-head c.args.form c.args.name.now d input input [] (Consumes-none input.left)
    (broke-off g.D.Sight.desk d (g.met.D.Drawn.alike _ d h) c.args.name.now c.new-painter.result c.begin.new.self c.new-painter.ensures c.begin.result
    (sym c.is_err.ensures.value ∙ c.if-is_err.true) c.begin.ensures.text)

pub returns-in-Ok-clause-ok : goal.returns-in-Ok-clause-ok
returns-in-Ok-clause-ok g c = λ d h.
    let alike = g.met.D.Drawn.alike _ d h in
    let start = began g.D.Sight.desk d alike c.args.name.now c.new-painter.result c.begin.new.self c.new-painter.ensures c.begin.ensures.rest c.begin.result
    (sym c.is_err.ensures.value ∙ c.if-is_err.false) c.begin.ensures.text in
    painted c.args.name.now start.stands start.well start.begun c.status.result c.in-Ok.ensures.ok c.status.ensures

pub returns-clause-read_failed : goal.returns-clause-read_failed
returns-clause-read_failed g c = λ e. c.in-Err.ensures.read_failed (same_fault feed.ReadFailed c.run_fault.ensures e)

pub returns-clause-read_painted : goal.returns-clause-read_painted
returns-clause-read_painted g c = λ e d h.
    let alike = g.met.D.Drawn.alike _ d h in
    let start = began g.D.Sight.desk d alike c.args.name.now c.new-painter.result c.begin.new.self c.new-painter.ensures c.begin.ensures.rest c.begin.result
    (sym c.is_err.ensures.value ∙ c.if-is_err.false) c.begin.ensures.text in
    painted-so-far c.args.name.now start.stands start.well start.begun (c.in-Err.ensures.read_taken (same_fault feed.ReadFailed c.run_fault.ensures e))

pub returns-clause-too_long : goal.returns-clause-too_long
returns-clause-too_long g c = λ e. c.in-Err.ensures.too_long (same_fault feed.TooLong c.run_fault.ensures e)

pub returns-clause-long_painted : goal.returns-clause-long_painted
returns-clause-long_painted g c = λ e d h.
    let alike = g.met.D.Drawn.alike _ d h in
    let start = began g.D.Sight.desk d alike c.args.name.now c.new-painter.result c.begin.new.self c.new-painter.ensures c.begin.ensures.rest c.begin.result
    (sym c.is_err.ensures.value ∙ c.if-is_err.false) c.begin.ensures.text in
    painted-so-far c.args.name.now start.stands start.well start.begun (c.in-Err.ensures.long_taken (same_fault feed.TooLong c.run_fault.ensures e))

pub returns-clause-write_failed : goal.returns-clause-write_failed
returns-clause-write_failed g c = λ e d h.
    let alike = g.met.D.Drawn.alike _ d h in
    let start = began g.D.Sight.desk d alike c.args.name.now c.new-painter.result c.begin.new.self c.new-painter.ensures c.begin.ensures.rest c.begin.result
    (sym c.is_err.ensures.value ∙ c.if-is_err.false) c.begin.ensures.text in
    painted-until c.args.name.now start.stands start.well start.begun (c.in-Err.ensures.write_failed (same_fault feed.WriteFailed c.run_fault.ensures e))
