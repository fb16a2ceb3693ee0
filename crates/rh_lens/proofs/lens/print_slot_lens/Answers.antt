use Rattle.std.proofs.Common.{◌≡◌, ℕ, ◌+◌, ◌++◌, List, ap, ap₂, sym, ◌∙◌}
use Rattle.std.specs.Prelude.{codes}
use Rattle.std.proofs.lemmas.Grind.{flat_map-append}
use Rattle.rh_elements.proofs.RowLemmas.{added}
use Rattle.rh_elements.proofs.WriteLemmas.{offered_as, offered_last}
use Rattle.rh_sheet.specs.Markup.{escape, escaped_byte, figure_open}
use Rattle.rh_defs.specs.Slot.{slot_start}
use Rattle.rh_lens.specs.Items.{Item}
use Rattle.rh_lens.specs.LensBands as bands
use Rattle.rh_lens.specs.LensParts.{sentence_of, sentences_of}
use Rattle.rh_lens.specs.Lens.{lower_text, upper_text}
use Rattle.rh_lens.specs.Views.{look_of}
use Rattle.rh_lens.proofs.TellableLemmas.{drawable}
use Rattle.rh_lens.proofs.lens.print_slot_lens.Goals as goal

-- what is read out of some parts, and of others behind them
read-both : (start : ℕ) (xs ys : List Item)
    → escape (sentences_of start xs) ++ escape (sentences_of start ys) ≡ escape (sentences_of start (xs ++ ys))
read-both start xs ys =
    sym (flat_map-append escaped_byte (sentences_of start xs) (sentences_of start ys))
    ∙ ap escape (sym (flat_map-append (sentence_of start) xs ys))

pub put_sentences-requires-clause-pieces : goal.put_sentences-requires-clause-pieces
put_sentences-requires-clause-pieces g c = drawable
    (g.C.Contents.has_piece c.args.contents.now) c.args.view.now.heap.now c.requires.view.heap

pub put_sentences-requires-2-clause-pieces : goal.put_sentences-requires-2-clause-pieces
put_sentences-requires-2-clause-pieces g c = drawable
    (g.C.Contents.has_piece c.args.contents.now) c.args.view.now.flex.now c.requires.view.flex

pub returns : goal.returns
returns g c =
    let item = g.C.Contents.item c.args.contents.now in
    let v = look_of item c.args.view.now in
    let w = c.args.width in
    let s = c.args.scale in
    let same = c.heights_of-heights.ensures.value in
    let high = ap (λ n. n + 3) (c.heap_foot.ensures.value ∙ ap bands.heap_foot same) in
    let title = c.as_slice.ensures
    ∙ (c.text-2.ensures ∙ ap (λ z. z ++ v.name) (c.text.ensures ∙ ap (λ z. z ++ codes "The slot of ") c.new-title.ensures)) in
    added (g.P.Pen.offered c.args.pen.now) _ _ (offered_as _ (ap₂ (figure_open w) high title) c.print_figure_open.ensures)
    (added (g.P.Pen.offered c.print_figure_open.new.pen) _ _
    (offered_as _ (read-both slot_start v.heap v.flex)
    (added (g.P.Pen.offered c.print_figure_open.new.pen) _ _
    (c.put_sentences.ensures item c.recall_items.ensures) (c.put_sentences-2.ensures item c.recall_items.ensures)))
    (added (g.P.Pen.offered c.put_sentences-2.new.pen) _ _ c.print_described.ensures
    (added (g.P.Pen.offered c.print_described.new.pen) _ _
    (added (g.P.Pen.offered c.print_described.new.pen) _ _ c.print_strip.ensures
    (added (g.P.Pen.offered c.print_strip.new.pen) _ _
    (offered_as _ (ap (λ (h : bands.Heights). upper_text v w s h.flex) same) c.print_upper.ensures)
    (offered_last (g.P.Pen.offered c.print_upper.new.pen) _ (offered_as _ (ap (lower_text v w s) same) c.print_lower.ensures))))
    (offered_last (g.P.Pen.offered c.print_lower.new.pen) _ c.print_figure_end.ensures))))
