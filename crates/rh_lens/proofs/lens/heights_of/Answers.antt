use Rattle.std.proofs.Common.{ℕ, ap, ap₂, length, ◌∙◌}
use Rattle.rh_lens.specs.LensBands as bands
use Rattle.rh_lens.specs.LensSpots.{rows_of, spots}
use Rattle.rh_lens.specs.Views.{look_of}
use Rattle.rh_lens.proofs.lens.heights_of.Goals as goal

abbrev heights_with : ℕ → ℕ → ℕ → bands.Heights
heights_with anchors flex heap = record { flex = flex; heap = heap; anchors = anchors }

pub returns-clause-value : goal.returns-clause-value
returns-clause-value g c =
    let v = look_of (g.C.Contents.item c.args.contents.now) c.args.view.now in
    ap₂ (heights_with (length v.anchors)) c.count_rows.ensures.value
    (c.count_rows-2.ensures.value ∙ ap (λ r. rows_of (spots r c.args.scale v.heap)) c.heap_room.ensures)
