use Rattle.std.proofs.Common.{ap, ap₂, length, ◌∙◌}
use Rattle.std.specs.Prelude.{codes}
use Rattle.rh_elements.proofs.RowLemmas.{added}
use Rattle.rh_elements.proofs.WriteLemmas.{offered_as, offered_last}
use Rattle.rh_defs.specs.Slot.{slot_start}
use Rattle.rh_lens.specs.Lens.{anchors_text, band_heading}
use Rattle.rh_lens.specs.LensBands.{heap_room, heap_spots}
use Rattle.rh_lens.specs.LensParts.{parts_text}
use Rattle.rh_lens.specs.LensSpots.{spots}
use Rattle.rh_lens.specs.Views.{look_of}
use Rattle.rh_lens.proofs.lens.print_lower.Goals as goal

pub returns : goal.returns
returns g c =
    let v = look_of (g.C.Contents.item c.args.contents.now) c.args.view.now in
    let w = c.args.width in
    let s = c.args.scale in
    let top = c.heap_top-top.ensures.value in
    let left = c.heap_left-left.ensures.value in
    added (g.P.Pen.offered c.args.pen.now) _ _ (offered_as _ (ap (λ t. anchors_text t v.anchors) top) c.print_anchors.ensures)
    (added (g.P.Pen.offered c.print_anchors.new.pen) _ _
    (offered_as _ (ap₂ (band_heading (codes "C heap")) left top) c.print_band_heading.ensures)
    (offered_last (g.P.Pen.offered c.print_band_heading.new.pen) _
    (offered_as _ (ap (λ r. parts_text slot_start v.tint r s c.heap_left-left.result c.heap_foot.result (spots r s v.heap)) c.heap_room.ensures
    ∙ ap₂ (λ l n. parts_text slot_start v.tint (heap_room w (length v.anchors)) s l n
    (heap_spots v w s)) left c.heap_foot.ensures.value) c.print_band.ensures)))
