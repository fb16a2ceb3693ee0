-- The parts of a figure, one after the other.
use Rattle.rh_pictures.proofs.Common.{◌≡◌, ap, ◌∙◌, List, [], ◌∷◌, ◌++◌, map, append_assoc, codes, range_with_len, Panel, figure, owner_of, slot_panel, Text}
use Rattle.rh_pictures.proofs.Common.{page_mark, Scene, area_part, flat_map, panel_part, shown_lines, slot_panels, lines_of_slots, sym}
use Rattle.std.proofs.lemmas.List.FromFn.{length-map-range_with_len}
use Rattle.std.proofs.lemmas.List.Folds.{flat_map-map}
use Rattle.rh_defs.specs.Desk.{free_pages}
use Rattle.rh_figure.specs.Map.{figure_lines, marked_heading, panel_lines, pool_heading, pool_line, shown_line}
use Rattle.rh_pictures.proofs.TextWalks.{text-flat}
use Rattle.rh_figure.specs.Rows.{marks_rows, pool_rows}
use Rattle.rh_pictures.proofs.MarkLemmas.{map-twice}
use Rattle.rh_pictures.specs.Parts.{letter_part, lines_of_module, pool_part, transfer_part}
use Rattle.rh_pictures.specs.Inner.PartsBehind.{change_part}

abbrev pub behind_module : Scene → List Text
behind_module x = letter_part x ++ (transfer_part x ++ [] ∷ [])

abbrev pub behind_areas : Scene → List Text
behind_areas x = lines_of_slots x ++ (lines_of_module x ++ behind_module x)

abbrev pub behind_changes : Scene → List Text
behind_changes x = ([] ∷ []) ++ (pool_part x ++ (area_part x ++ behind_areas x))

six : (a b c d e f g : List Text) → ((((((a ++ b) ++ c) ++ d) ++ e) ++ f) ++ g) ≡ a ++ (b ++ (c ++ (d ++ (e ++ (f ++ g)))))
six a b c d e f g = simp append_assoc

-- all of it
pub figure-parts : (x : Scene) → figure_lines (figure x) ≡ change_part x ++ behind_changes x
unfolding figure
figure-parts x =
    let rows = pool_rows (figure x) in
    let heading = pool_heading (figure x) in
    ap (λ z. change_part x ++ (([] ∷ []) ++ (heading ∷ z)))
    (ap (λ z. ((((((rows ++ area_part x) ++ z) ++ lines_of_module x) ++ letter_part x) ++ transfer_part x) ++ [] ∷ []))
    (flat_map-map (λ (p : Panel). panel_lines (marked_heading (slot_panels x) (codes "Slot ") p) p) (slot_panel x) x.desk.tasks)
    ∙ six rows (area_part x) (lines_of_slots x) (lines_of_module x) (letter_part x) (transfer_part x) ([] ∷ []))

-- areas that are pages alone, panel by panel
pub panels-shown : (panels : List Panel) → flat_map (λ (p : Panel). shown_lines (panel_lines p.name p)) panels ≡ shown_lines (panel_part panels)
panels-shown panels = sym (text-flat (λ line. shown_line line ++ codes "\n") (λ (p : Panel). panel_lines p.name p) panels)

-- ---- the pool

pub pool-heading : (x : Scene) → pool_heading (figure x) ≡ pool_line (free_pages x.desk) x.desk.pool
unfolding figure
pool-heading x = ap (pool_line (free_pages x.desk)) (length-map-range_with_len (owner_of x) 0 x.desk.pool)

pub pool-rows : (x : Scene) → pool_rows (figure x) ≡ marks_rows (map (λ k. page_mark (slot_panels x) (owner_of x k)) (range_with_len 0 x.desk.pool))
unfolding figure
pool-rows x = ap marks_rows (map-twice (page_mark (slot_panels x)) (owner_of x) (range_with_len 0 x.desk.pool))
