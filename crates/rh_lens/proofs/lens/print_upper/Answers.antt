use Rattle.std.proofs.Common.{◌<◌, ap, ap₂, arith, length}
use Rattle.std.specs.Prelude.{nat_lt}
use Rattle.rh_elements.proofs.RowLemmas.{added}
use Rattle.rh_elements.proofs.WriteLemmas.{offered_as, offered_last}
use Rattle.rh_defs.specs.Slot.{slot_start}
use Rattle.rh_lens.specs.LensArrows.{arrows_text}
use Rattle.rh_lens.specs.LensBands.{flex_spots}
use Rattle.rh_lens.specs.LensParts.{parts_text}
use Rattle.rh_lens.specs.Views.{look_of}
use Rattle.rh_lens.proofs.LoopLemmas.{no-more, nothing-where, some-more, written-where}
use Rattle.rh_lens.proofs.lens.print_upper.Goals as goal

pub returns-then-rows-eq0 : goal.returns-then-rows-eq0
returns-then-rows-eq0 g c = nothing-where (nat_lt 0 c.args.rows) _ _ (no-more 0 c.args.rows (omega arith))

pub returns : goal.returns
returns g c =
    let v = look_of (g.C.Contents.item c.args.contents.now) c.args.view.now in
    let w = c.args.width in
    let s = c.args.scale in
    let some : 0 < c.args.rows = omega arith in
    let foot = c.flex_foot.ensures.value in
    written-where (nat_lt 0 c.args.rows) (g.P.Pen.offered c.args.pen.now) _ (some-more 0 c.args.rows some)
    (added (g.P.Pen.offered c.args.pen.now) _ _ c.print_band_heading.ensures
    (added (g.P.Pen.offered c.print_band_heading.new.pen) _ _
    (offered_as _ (ap (λ n. parts_text slot_start v.tint w s 0 n (flex_spots v w s)) foot) c.print_band.ensures)
    (offered_last (g.P.Pen.offered c.print_band.new.pen) _
    (offered_as _ (ap₂ (λ t n. arrows_text t n (length v.anchors) v.anchors (flex_spots v w s)) c.heap_top.ensures.value foot)
    c.print_arrows.ensures))))
