use Rattle.rh_session.proofs.RunLemmas.{if_err, started}
use Rattle.rh_explained.proofs.SaidLemmas.{broke, explained}
use Rattle.rh_explained.proofs.running.explain_whole.Goals as goal

pub returns-in_err-feed_whole-clause-write_failed : goal.returns-in_err-feed_whole-clause-write_failed
returns-in_err-feed_whole-clause-write_failed g c =
    let new = c.new-explainer.ensures in
    if_err c.from_residual.result
    (λ e d h. broke d (started g.D.Desktop.spells d new.desktop h) new.lines new.well c.in_err-feed_whole.ensures.write_failed)

pub returns-clause-ok : goal.returns-clause-ok
returns-clause-ok g c = λ d h.
    let new = c.new-explainer.ensures in
    explained d (started g.D.Desktop.spells d new.desktop h) new.lines new.well _ c.in_ok-feed_whole.ensures.ok c.status.ensures
