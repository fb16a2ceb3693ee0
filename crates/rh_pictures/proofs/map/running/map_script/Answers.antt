use Rattle.rh_session.specs.declared.fault.FeedFault.TheVariants as feed
use Rattle.rh_session.proofs.RunLemmas.{same_fault}
use Rattle.rh_pictures.proofs.MapRunLemmas.{mapped, mapped_so_far, mapped_until, stands_first}
use Rattle.rh_pictures.proofs.map.running.map_script.Goals as goal

pub returns-in-Ok-clause-ok : goal.returns-in-Ok-clause-ok
returns-in-Ok-clause-ok g c = λ d h.
    let first = c.new-mapper.ensures in
    mapped (stands_first d (g.met.D.Drawn.alike _ d h) first) first.well _ c.in-Ok.ensures.ok c.status.ensures

pub returns-clause-read_mapped : goal.returns-clause-read_mapped
returns-clause-read_mapped g c = λ e d h.
    mapped_so_far (stands_first d (g.met.D.Drawn.alike _ d h) c.new-mapper.ensures) c.new-mapper.ensures.well
    (c.in-Err.ensures.read_taken (same_fault feed.ReadFailed c.run_fault.ensures e))

pub returns-clause-long_mapped : goal.returns-clause-long_mapped
returns-clause-long_mapped g c = λ e d h.
    mapped_so_far (stands_first d (g.met.D.Drawn.alike _ d h) c.new-mapper.ensures) c.new-mapper.ensures.well
    (c.in-Err.ensures.long_taken (same_fault feed.TooLong c.run_fault.ensures e))

pub returns-clause-write_failed : goal.returns-clause-write_failed
returns-clause-write_failed g c = λ e d h.
    mapped_until (stands_first d (g.met.D.Drawn.alike _ d h) c.new-mapper.ensures) c.new-mapper.ensures.well
    (c.in-Err.ensures.write_failed (same_fault feed.WriteFailed c.run_fault.ensures e))
