use Rattle.rh_script.proofs.Common.{◌≡◌, [], ◌∷◌, ◌++◌, Ok, refl, ap, decimal, flat_map, ok, area_items, area_line}
use Rattle.rh_defs.specs.Desk.{Desk, free_pages}
use Rattle.rh_defs.specs.Questions.{areas}
use Rattle.rh_defs.specs.Text.{answer_text, first_line, later_lines}
use Rattle.rh_script.proofs.listed.print_areas.Goals as goal

areas_text : (d : Desk) → ok (decimal (free_pages d) ∷ []) ++ flat_map area_line (area_items d) ≡ answer_text (Ok (areas d))
unfolding answer_text first_line later_lines
areas_text d = refl

pub returns : goal.returns
returns g c = rw (← areas_text c.args.world.now.desk) (rw (ap (λ p. p.0) c.areas-free.ensures.item) at c.print_entries.ensures)
