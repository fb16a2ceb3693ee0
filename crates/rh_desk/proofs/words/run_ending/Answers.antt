use Rattle.rh_defs.specs.Runs.{start}
use Rattle.rh_desk.proofs.DoneLemmas.{run-over}
use Rattle.rh_desk.proofs.words.run_ending.Goals as goal

pub returns-clause-over : goal.returns-clause-over
returns-clause-over g c =
    rw c.ended.ensures.ending (run-over (start c.args.pages c.args.files) _ c.run.result c.run.ensures.ok c.run.ensures.no_memory c.run.ensures.read_failed
    c.run.ensures.read_answered
    c.run.ensures.too_long c.run.ensures.long_answered c.run.ensures.write_failed c.ended.ensures.quiet c.ended.ensures.errors)
