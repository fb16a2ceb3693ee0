use Rattle.rh_defs.specs.Runs.{start}
use Rattle.rh_desk.proofs.DoneLemmas.{sheet-over}
use Rattle.rh_desk.proofs.words.sheet_ending.Goals as goal

pub returns-clause-over : goal.returns-clause-over
returns-clause-over g c =
    let drew = c.draw_sheet.ensures in
    let request = c.args.request.now in
    rw (c.ended.ensures.ending, ← c.sheet_name-name.ensures)
    (sheet-over c.args.form c.sheet_name-name.result.now (start request.pages c.args.files) _ c.draw_sheet.result drew.ok drew.no_memory drew.read_failed
    drew.read_painted
    drew.too_long drew.long_painted drew.write_failed c.ended.ensures.quiet c.ended.ensures.errors)
