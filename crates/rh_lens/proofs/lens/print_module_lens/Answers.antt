use Rattle.std.proofs.Common.{◌≡◌, ◌+◌, ap, ap₂, ◌∙◌}
use Rattle.std.specs.Prelude.{codes}
use Rattle.rh_elements.proofs.RowLemmas.{added}
use Rattle.rh_elements.proofs.WriteLemmas.{offered_as, offered_last}
use Rattle.rh_defs.specs.Desk.{module_start}
use Rattle.rh_sheet.specs.Markup.{figure_open}
use Rattle.rh_lens.specs.Lens.{area_lens_text, module_foot}
use Rattle.rh_lens.specs.LensParts.{parts_text}
use Rattle.rh_lens.specs.LensSpots.{rows_height, spots}
use Rattle.rh_lens.specs.Views.{module_look_of}
use Rattle.rh_lens.proofs.TellableLemmas.{drawable}
use Rattle.rh_lens.proofs.lens.print_module_lens.Goals as goal

pub put_sentences-requires-clause-pieces : goal.put_sentences-requires-clause-pieces
put_sentences-requires-clause-pieces g c = drawable
    (g.C.Contents.has_piece c.args.contents.now) c.args.view.now.pieces.now c.requires.view.parts

pub returns : goal.returns
returns g c =
    let item = g.C.Contents.item c.args.contents.now in
    let v = module_look_of item c.args.view.now in
    let w = c.args.width in
    let s = c.min-scale.result in
    let foot : c.module_top.result + c.rows_height.result ≡ module_foot v w s =
    ap₂ (λ a b. a + b) c.module_top.ensures.value (c.rows_height.ensures.value ∙ ap rows_height c.count_rows.ensures.value) in
    offered_as _ (ap (area_lens_text v w) c.min-scale.ensures) (added (g.P.Pen.offered c.args.pen.now) _ _
    (offered_as _ (ap (λ n. figure_open w (n + 3) (codes "The module area")) foot) c.print_figure_open.ensures)
    (added (g.P.Pen.offered c.print_figure_open.new.pen) _ _ (c.put_sentences.ensures item c.recall_items.ensures)
    (added (g.P.Pen.offered c.put_sentences.new.pen) _ _ c.print_described.ensures
    (added (g.P.Pen.offered c.print_described.new.pen) _ _
    (added (g.P.Pen.offered c.print_described.new.pen) _ _ (c.print_module_strip.ensures item)
    (offered_as _ (ap (λ n. parts_text module_start v.tint w s 0 n (spots w s v.parts)) foot) c.print_band.ensures))
    (offered_last (g.P.Pen.offered c.print_band.new.pen) _ c.print_figure_end.ensures)))))
