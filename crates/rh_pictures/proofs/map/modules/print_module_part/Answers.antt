use Rattle.rh_pictures.proofs.Common.{ℕ, ◌++◌, [], ◌∷◌, length, ap, refl, ◌∙◌, arith, codes, module_pages, shown_cards, heading_line, Text, area_rows, AreaOf}
use Rattle.rh_pictures.proofs.Common.{shown_lines, scene_at, card_lines, offered_as}
use Rattle.rh_figure.specs.Cards.{module_cards}
use Rattle.rh_figure.specs.Figure.{module_drawing}
use Rattle.rh_figure.specs.Map.{name_with_mark}
use Rattle.rh_figure.specs.Phrases.{pages_text}
use Rattle.rh_scene.specs.declared.sight.PagesOf.TheVariants as pages
use Rattle.rh_pictures.proofs.CardLemmas.{cards-lined}
use Rattle.rh_pictures.proofs.DrawingLemmas.{rows-are}
use Rattle.rh_pictures.proofs.PageLemmas.{owned, owned-few, seen-fixed}
use Rattle.rh_pictures.proofs.PlaceLemmas.{lines_then, offered_line}
use Rattle.rh_pictures.proofs.map.modules.print_module_part.Goals as goal

abbrev heading : ℕ → Text
heading n = heading_line (name_with_mark [] (codes "Module area") 49) (pages_text n)

pub print_area-requires-clause-few : goal.print_area-requires-clause-few
print_area-requires-clause-few g c =
    let ps = c.args.step.now.pages.now in
    let seen = seen-fixed c.recall_desk.ensures 1 (omega arith) in
    let is = owned c.recall_desk.ensures ps c.requires.shared (pages.Fixed 1) (AreaOf 1) c.pages_of.result.now seen c.pages_of.ensures in
    omega (arith, ap length is, owned-few c.recall_desk.ensures ps c.requires.shared (pages.Fixed 1) (AreaOf 1) seen c.requires.all)

pub returns : goal.returns
returns g c =
    let d = g.S.Sight.desk c.args.sight.now in
    let x = scene_at d c.args.step.now in
    let is = owned c.recall_desk.ensures c.args.step.now.pages.now c.requires.shared (pages.Fixed 1) (AreaOf 1) c.pages_of.result.now
    (seen-fixed c.recall_desk.ensures 1 (omega arith)) c.pages_of.ensures in
    lines_then _ (heading (module_pages d) ∷ []) (area_rows (module_drawing x) ++ card_lines (shown_cards (module_cards x)))
    (offered_line _ (ap heading c.fixed_pages.ensures) c.print_module_heading.ensures)
    (lines_then _ (area_rows (module_drawing x)) (card_lines (shown_cards (module_cards x)))
    (offered_as _ (ap shown_lines (rows-are (module_drawing x) _ _ _ refl is (c.deref.ensures.0 ∙ c.module_pieces.ensures))) c.print_area.ensures)
    (offered_as _ (cards-lined 0 (shown_cards (module_cards x))) c.show_heap_cards.ensures))
