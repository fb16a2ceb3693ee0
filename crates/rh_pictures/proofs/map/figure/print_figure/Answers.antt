use Rattle.rh_pictures.proofs.Common.{[], ◌∷◌, ◌++◌, codes, ap, sym, refl, shown_lines, scene_at, area_part, lines_of_slots, offered_as}
use Rattle.rh_figure.specs.Changes.{changes}
use Rattle.rh_figure.specs.Figure.{area_panels}
use Rattle.rh_pictures.specs.Parts.{letter_part, lines_of_module, pool_part, transfer_part}
use Rattle.rh_pictures.specs.Inner.PartsBehind.{change_part}
use Rattle.rh_pictures.proofs.FigureLemmas.{behind_areas, behind_changes, behind_module, figure-parts, panels-shown}
use Rattle.rh_pictures.proofs.PlaceLemmas.{lines_then, offered_line, shown-each}
use Rattle.rh_pictures.proofs.map.figure.print_figure.Goals as goal

pub returns : goal.returns
returns g c =
    let x = scene_at (g.S.Sight.desk c.args.sight.now) c.args.step.now in
    offered_as _ (ap shown_lines (sym (figure-parts x)))
    (lines_then _ (change_part x) (behind_changes x) (offered_as _ (shown-each (λ line. codes "  " ++ line) (changes x)) c.show_changes.ensures)
    (lines_then _ ([] ∷ []) (pool_part x ++ (area_part x ++ behind_areas x)) (offered_line {x = []} _ refl c.put_line.ensures)
    (lines_then _ (pool_part x) (area_part x ++ behind_areas x) c.print_pool_part.ensures
    (lines_then _ (area_part x) (behind_areas x) (offered_as _ (panels-shown (area_panels x)) c.show_areas.ensures)
    (lines_then _ (lines_of_slots x) (lines_of_module x ++ behind_module x) c.print_slot_part.ensures
    (lines_then _ (lines_of_module x) (behind_module x) c.print_module_part.ensures
    (lines_then _ (letter_part x) (transfer_part x ++ [] ∷ []) c.print_letter_part.ensures
    (lines_then _ (transfer_part x) ([] ∷ []) (c.print_transfer_part.ensures x.share x.before x.marks)
    (offered_line {x = []} _ refl c.put_line-2.ensures)))))))))
