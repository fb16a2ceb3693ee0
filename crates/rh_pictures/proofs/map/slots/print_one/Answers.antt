use Rattle.rh_pictures.proofs.Common.{◌≡◌, Bool, true, false, [], ◌∷◌, Some, None, ap, sym, ◌∙◌, arith, if◌then◌else◌, slice_get_within, shown_lines}
use Rattle.rh_pictures.proofs.Common.{IsTaskSeen, scene_at, offered_as}
use Rattle.rh_figure.specs.Figure.{is_drawn, slot_drawing}
use Rattle.rh_figure.specs.Map.{drawing_lines}
use Rattle.rh_pictures.specs.Inner.PartsBehind.{slot_heading}
use Rattle.rh_pictures.proofs.DrawingLemmas.{seen-same, slot-stands}
use Rattle.rh_pictures.proofs.PlaceLemmas.{lines_then}
use Rattle.rh_pictures.proofs.map.slots.print_one.Goals as goal

pub print_heading-requires : goal.print_heading-requires
print_heading-requires g c =
    let r = c.requires.task in
    omega (arith, c.recall_desk.ensures.few, slice_get_within (g.S.Sight.desk c.args.sight.now).tasks c.args.i r.0 r.1)

pub returns-then-not-is_drawn : goal.returns-then-not-is_drawn
returns-then-not-is_drawn g c = λ t e.
    let d = g.S.Sight.desk c.args.sight.now in
    let x = scene_at d c.args.step.now in
    let r = c.requires.task in
    let seen = seen-same (IsTaskSeen c.args.task.now) d.tasks c.args.i r.0 t r.1 e r.2 in
    let off : is_drawn x t ≡ false = sym (c.is_drawn.ensures d t c.requires.tasks seen.handle) ∙ c.if-not-is_drawn.true in
    offered_as _ (ap (λ (b : Bool). shown_lines (slot_heading x t ∷ drawing_lines (if b then Some (slot_drawing x t) else None))) (sym off))
    (c.print_heading.ensures x t seen e (slot-stands c.recall_desk.ensures x c.args.i t e))

pub returns : goal.returns
returns g c = λ t e.
    let d = g.S.Sight.desk c.args.sight.now in
    let x = scene_at d c.args.step.now in
    let r = c.requires.task in
    let seen = seen-same (IsTaskSeen c.args.task.now) d.tasks c.args.i r.0 t r.1 e r.2 in
    let on : is_drawn x t ≡ true = sym (c.is_drawn.ensures d t c.requires.tasks seen.handle) ∙ c.if-not-is_drawn.false in
    offered_as _ (ap (λ (b : Bool). shown_lines (slot_heading x t ∷ drawing_lines (if b then Some (slot_drawing x t) else None))) (sym on))
    (lines_then _ (slot_heading x t ∷ []) (drawing_lines (Some (slot_drawing x t)))
    (c.print_heading.ensures x t seen e (slot-stands c.recall_desk.ensures x c.args.i t e)) (c.print_slot.ensures t e))
