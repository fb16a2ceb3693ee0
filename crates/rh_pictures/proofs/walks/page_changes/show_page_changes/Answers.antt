use Rattle.rh_pictures.proofs.Common.{sym, flat_map, holdings, scene_at, offered_as}
use Rattle.rh_figure.specs.Changes.{freed_pages, freed_text, takes_text}
use Rattle.rh_pictures.proofs.ElementLemmas.{parts-both}
use Rattle.rh_pictures.proofs.TextPuts.{text_then}
use Rattle.rh_pictures.proofs.walks.page_changes.show_page_changes.Goals as goal

pub returns : goal.returns
returns g c =
    let x = scene_at (g.S.Sight.desk c.args.sight.now) c.args.step.now in
    offered_as _ (sym (parts-both g.A.Artist.change_text (flat_map (takes_text x) (holdings x.desk)) (freed_text (freed_pages x))))
    (text_then _ _ _ c.show_takes.ensures c.show_freed.ensures)
