use Rattle.rh_defs.specs.Desk.{Desk}
use Rattle.rh_defs.specs.Runs.{start}
use Rattle.rh_run.proofs.ReplyLaws.{same-desk}
use Rattle.rh_run.proofs.explaining.explain_over.Goals as goal

pub returns-clause-write_failed : goal.returns-clause-write_failed
returns-clause-write_failed g c = λ e.
    let d : Desk = start (g.S.Words.memory c.args.store).pages (g.F.NamedFiles.contents c.args.files) in
    c.explain_script.ensures.write_failed e d (same-desk c.new-world.ensures)
