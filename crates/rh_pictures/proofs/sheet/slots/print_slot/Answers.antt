use Rattle.rh_pictures.proofs.Common.{◌≡◌, ◌++◌, Bool, true, false, ap, sym, ◌∙◌, where_so, heading_text, IsTaskSeen, scene_at, offered_as}
use Rattle.rh_pictures.proofs.DrawingLemmas.{seen-same}
use Rattle.rh_figure.specs.Figure.{is_drawn, slot_note}
use Rattle.rh_pictures.specs.SheetForms.{looks_of}
use Rattle.rh_pictures.proofs.TextPuts.{text_last, text_then}
use Rattle.rh_pictures.proofs.sheet.slots.print_slot.Goals as goal

pub returns-then-not-is_drawn : goal.returns-then-not-is_drawn
returns-then-not-is_drawn g c = λ t e.
    let d = g.S.Sight.desk c.args.sight.now in
    let x = scene_at d c.args.step.now in
    let r = c.requires.task in
    let seen = seen-same (IsTaskSeen c.args.task.now) d.tasks c.args.i r.0 t r.1 e r.2 in
    let off : is_drawn x t ≡ false = sym (c.is_drawn.ensures d t c.requires.tasks seen.handle) ∙ c.if-not-is_drawn.true in
    offered_as _ (ap (λ (b : Bool). heading_text t.name (slot_note t) ++ where_so b ((looks_of c.args.lens).slot x t)) (sym off))
    (text_last _ _ (c.print_slot_heading.ensures t seen))

pub returns : goal.returns
returns g c = λ t e.
    let d = g.S.Sight.desk c.args.sight.now in
    let x = scene_at d c.args.step.now in
    let r = c.requires.task in
    let seen = seen-same (IsTaskSeen c.args.task.now) d.tasks c.args.i r.0 t r.1 e r.2 in
    let on : is_drawn x t ≡ true = sym (c.is_drawn.ensures d t c.requires.tasks seen.handle) ∙ c.if-not-is_drawn.false in
    offered_as _ (ap (λ (b : Bool). heading_text t.name (slot_note t) ++ where_so b ((looks_of c.args.lens).slot x t)) (sym on))
    (text_then _ _ _ (c.print_slot_heading.ensures t seen) (c.print_bytes.ensures t e))
