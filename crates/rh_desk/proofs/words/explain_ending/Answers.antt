use Rattle.rh_defs.specs.Runs.{start}
use Rattle.rh_desk.proofs.DoneLemmas.{explain-over}
use Rattle.rh_desk.proofs.words.explain_ending.Goals as goal

pub returns-clause-over : goal.returns-clause-over
returns-clause-over g c =
    rw c.ended.ensures.ending (explain-over (start c.args.pages c.args.files) _ c.explain.result c.explain.ensures.ok c.explain.ensures.no_memory
    c.explain.ensures.read_failed c.explain.ensures.read_explained
    c.explain.ensures.too_long c.explain.ensures.long_explained c.explain.ensures.write_failed c.ended.ensures.quiet c.ended.ensures.errors)
