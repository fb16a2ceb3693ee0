use Rattle.rh_session.proofs.RunLemmas.{if_err}
use Rattle.rh_pictures.proofs.MapRunLemmas.{mapped, mapped_until, stands_first}
use Rattle.rh_pictures.proofs.map.running.map_whole.Goals as goal

pub returns-in_err-feed_whole-clause-write_failed : goal.returns-in_err-feed_whole-clause-write_failed
returns-in_err-feed_whole-clause-write_failed g c =
    if_err c.from_residual.result (λ e d h.
    mapped_until (stands_first d (g.met.D.Drawn.alike _ d h) c.new-mapper.ensures) c.new-mapper.ensures.well c.in_err-feed_whole.ensures.write_failed)

pub returns-clause-ok : goal.returns-clause-ok
returns-clause-ok g c = λ d h.
    let first = c.new-mapper.ensures in
    mapped (stands_first d (g.met.D.Drawn.alike _ d h) first) first.well _ c.in_ok-feed_whole.ensures.ok c.status.ensures
