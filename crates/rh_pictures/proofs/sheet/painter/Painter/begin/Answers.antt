use Rattle.rh_pictures.proofs.Common.{◌∙◌}
use Rattle.rh_pictures.proofs.SheetRunLemmas.{head-put}
use Rattle.rh_pictures.proofs.sheet.painter.Painter.begin.Goals as goal

pub returns-clause-text : goal.returns-clause-text
returns-clause-text g c =
    head-put c.args.name.now (c.len.ensures.value ∙ c.page_list.ensures.all) c.write_head.result c.write_head.ensures
