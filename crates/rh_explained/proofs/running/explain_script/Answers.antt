use Rattle.rh_session.specs.declared.fault.FeedFault.TheVariants as feed
use Rattle.rh_session.proofs.RunLemmas.{same_fault, started}
use Rattle.rh_explained.proofs.SaidLemmas.{broke, explained, so_far}
use Rattle.rh_explained.proofs.running.explain_script.Goals as goal

pub returns-in-Ok-clause-ok : goal.returns-in-Ok-clause-ok
returns-in-Ok-clause-ok g c = λ d h.
    let new = c.new-explainer.ensures in
    explained d (started g.D.Desktop.spells d new.desktop h) new.lines new.well _ c.in-Ok.ensures.ok c.status.ensures

pub returns-clause-read_explained : goal.returns-clause-read_explained
returns-clause-read_explained g c = λ e d h.
    let new = c.new-explainer.ensures in
    so_far d (started g.D.Desktop.spells d new.desktop h) new.lines new.well
    (c.in-Err.ensures.read_taken (same_fault feed.ReadFailed c.run_fault.ensures e))

pub returns-clause-long_explained : goal.returns-clause-long_explained
returns-clause-long_explained g c = λ e d h.
    let new = c.new-explainer.ensures in
    so_far d (started g.D.Desktop.spells d new.desktop h) new.lines new.well
    (c.in-Err.ensures.long_taken (same_fault feed.TooLong c.run_fault.ensures e))

pub returns-clause-write_failed : goal.returns-clause-write_failed
returns-clause-write_failed g c = λ e d h.
    let new = c.new-explainer.ensures in
    broke d (started g.D.Desktop.spells d new.desktop h) new.lines new.well
    (c.in-Err.ensures.write_failed (same_fault feed.WriteFailed c.run_fault.ensures e))
