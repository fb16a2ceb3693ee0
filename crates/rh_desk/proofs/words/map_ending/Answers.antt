use Rattle.rh_defs.specs.Runs.{start}
use Rattle.rh_desk.proofs.DoneLemmas.{map-over}
use Rattle.rh_desk.proofs.words.map_ending.Goals as goal

pub returns-clause-over : goal.returns-clause-over
returns-clause-over g c =
    let drew = c.draw_map.ensures in
    rw c.ended.ensures.ending
    (map-over c.args.marked (start c.args.pages c.args.files) _ c.draw_map.result drew.ok drew.no_memory drew.read_failed drew.read_mapped
    drew.too_long drew.long_mapped drew.write_failed c.ended.ensures.quiet c.ended.ensures.errors)
