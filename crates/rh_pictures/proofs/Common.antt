-- Names that many of the proofs here cite, passed on in one place.
pub use Rattle.std.proofs.Common.{Bool, Err, List, None, Ok, Option, Result, Some, [], add-one, ap, append-nil, append_assoc, ap₂, arith, drop, eq-eqb, eqb}
pub use Rattle.std.proofs.Common.{false, get_or, inl, inr, length, map, refl, rules, set, subst, suc, sym, take, true, zero, ℕ, ◌%◌, ◌*◌, ◌++◌, ◌+◌, ◌-◌, ◌/◌}
pub use Rattle.std.proofs.Common.{◌<◌, ◌∙◌, ◌∷◌, ◌≡◌, ◌≢◌, ◌≤◌, ◌⊎◌}
pub use Rattle.std.proofs.lemmas.Bool.{eqb-true, ne_eqb}
pub use Rattle.std.proofs.lemmas.Bool.Decides.{nat_tests}
pub use Rattle.std.proofs.lemmas.Grind.{flat_map-append}
pub use Rattle.std.proofs.lemmas.List.{drop_all, drop_more, length-append, length-drop, length-map, length-take, map-append, take_all}
pub use Rattle.std.proofs.lemmas.Option.{slice_get-get_or, slice_get_within}
pub use Rattle.std.specs.Fmt.{decimal}
pub use Rattle.std.specs.List.{AllByRecursion, concat, enumerate_from, flat_map, list_any, position, range_with_len}
pub use Rattle.std.specs.Option.{option_map}
pub use Rattle.std.specs.Prelude.{IfNone, IfSome, IsTrue, codes, filter, find, if◌then◌else◌, insert, is_err, max, min, nat_le, nat_lt, not, replicate}
pub use Rattle.std.specs.Prelude.{slice_get, slice_index, ◌&&◌, ◌==◌, ◌^◌, ◌||◌}
pub use Rattle.rh_defs.specs.Commands.{step}
pub use Rattle.rh_defs.specs.Desk.{Desk, Made, Task, module_pages, task_at, task_pages}
pub use Rattle.rh_defs.specs.Heap.{Heap, base}
pub use Rattle.rh_defs.specs.Laws.{IsDesk, Rise}
pub use Rattle.rh_defs.specs.Line.{Meaning}
unfoldable pub use Rattle.rh_defs.specs.Line.{line_means}
pub use Rattle.rh_defs.specs.Messages.{Parcel, action_of}
pub use Rattle.rh_defs.specs.Order.{IsReordered, with_queue}
pub use Rattle.rh_defs.specs.Questions.{Nothing, asked, block_items, in_item, out_item}
pub use Rattle.rh_defs.specs.Records.{in_id}
pub use Rattle.rh_defs.specs.Script.{ended, unended}
pub use Rattle.rh_defs.specs.Slot.{flex_start, heap_start}
unfoldable pub use Rattle.rh_defs.specs.Text.{answer_text, fault_text, first_line}
pub use Rattle.rh_defs.specs.declared.command.Command.{Command}
pub use Rattle.rh_defs.specs.declared.fault.LineFault.{LineFault}
pub use Rattle.rh_defs.specs.declared.fault.LineFault.TheVariants.{TooLong}
pub use Rattle.rh_defs.specs.declared.message.MessageItem.{MessageItem}
pub use Rattle.rh_defs.specs.declared.question.BlockItem.{BlockItem}
pub use Rattle.rh_defs.specs.declared.reply.Reply.{Reply}
pub use Rattle.rh_defs.specs.declared.transfer.Incoming.{Incoming}
pub use Rattle.rh_defs.specs.declared.transfer.Outgoing.{Outgoing}
pub use Rattle.rh_elements.proofs.WriteLemmas.{offered_as}
pub use Rattle.rh_session.proofs.LineLemmas.{kept_means}
unfoldable pub use Rattle.rh_session.specs.Lines.{kept}
pub use Rattle.rh_figure.specs.Cards.{Card, flex_cards, heap_cards, module_cards, more_card, shown_cards}
pub use Rattle.rh_figure.specs.Changes.{block_change, changes, gone_line, has_anchor, item_with_anchor, slide_of, slides, taken_line}
pub use Rattle.rh_figure.specs.Figure.{Panel, Side, fixed_panel, has_id, letterboxes, made_panel, owner_of, slot_panel, transfers}
unfoldable pub use Rattle.rh_figure.specs.Figure.{figure}
pub use Rattle.rh_figure.specs.Layout.{is_fresh_flex}
pub use Rattle.rh_figure.specs.Map.{Place, Read, Stage, after_read, card_line, heading_line, is_mark, letterbox_line, lines_of_read, read_line, transfer_line}
pub use Rattle.rh_figure.specs.Map.{under, written_lines}
pub use Rattle.rh_figure.specs.Phrases.{Text, area_name, cut, is_returned, owner_name, size_text, task_name, where_so}
pub use Rattle.rh_figure.specs.Rows.{area_rows, page_mark}
pub use Rattle.rh_figure.specs.Scene.{Before, Scene, marks_of, message_of_scene, scene_of}
pub use Rattle.rh_figure.specs.Share.{AreaOf, Holding, IsShared, Owner, Share, SlotOf, count_of, fixed_holding, holdings}
pub use Rattle.rh_figure.specs.Whole.{AreShared}
pub use Rattle.rh_figure.specs.declared.piece.Piece.{Piece}
pub use Rattle.rh_lines.proofs.FlowLemmas.{takes_more}
pub use Rattle.rh_lines.specs.Flow.{Breaks, Output, Puts, Takes}
pub use Rattle.rh_map.proofs.Left.{Left, left_less, left_none}
pub use Rattle.rh_map.proofs.SeamLemmas.{shown-append}
pub use Rattle.rh_map.specs.Written.{shown_lines}
pub use Rattle.rh_scene.proofs.Heaps.{task-slot}
pub use Rattle.rh_scene.proofs.Holders.{at-some}
pub use Rattle.rh_scene.proofs.PieceWalks.{items-long}
pub use Rattle.rh_scene.proofs.Places.{rest-none, rest-some}
pub use Rattle.rh_scene.proofs.SlotPieces.{few-blocks}
pub use Rattle.rh_scene.specs.Seen.{IsTaskSeen, SeesBlock, heap_seen, heap_start_of}
pub use Rattle.rh_scene.specs.SightMessages.{held_on, lies_in, message_items, waiting_on}
pub use Rattle.rh_scene.specs.SightPages.{share_in}
pub use Rattle.rh_scene.specs.Steps.{scene_at}
pub use Rattle.rh_scene.specs.declared.walk.Census.{Census}
pub use Rattle.rh_sheet.specs.Chart.{arrow_sentence, arrows, inserted, steps_in, tasks_in}
pub use Rattle.rh_sheet.specs.Fates.{followed, noted}
pub use Rattle.rh_sheet.specs.Markup.{escape, escaped_byte, figure_open, heading_text}
pub use Rattle.rh_sheet.specs.Sheet.{Happened, Walk, behind_read, fault_happened, happened_text, read_text, sheet_lines}
pub use Rattle.rh_sheet.specs.SheetAreas.{lens_below, ticks_text}
pub use Rattle.rh_sheet.specs.SheetLaws.{at_desk}
pub use Rattle.rh_sheet.specs.SheetRows.{Plot}
pub use Rattle.rh_sheet.specs.SheetSteps.{changes_text, said_end, slot_part, step_end, step_text}
unfoldable pub use Rattle.rh_sheet.specs.SheetSteps.{figure_text}
pub use Rattle.rh_sheet.specs.Tables.{letterbox_row, messages_table, transfer_row, transfers_table}
pub use Rattle.rh_sheet.specs.declared.frame.Frame.{Frame}
pub use Rattle.rh_sheet.specs.declared.note.Note.{Note}
pub use Rattle.rh_pictures.proofs.TextPuts.{left_from, left_last, offered_none}
pub use Rattle.rh_pictures.specs.Bands.{band_cards}
pub use Rattle.rh_pictures.specs.Deeds.{reply_to, rest_means}
pub use Rattle.rh_pictures.specs.DrawnCards.{count_shown}
pub use Rattle.rh_pictures.specs.DrawnLetters.{has_letters_in}
pub use Rattle.rh_pictures.specs.DrawnPlaces.{Drew, TookLine, place_in}
pub use Rattle.rh_pictures.specs.DrawnReplies.{Excerpts}
pub use Rattle.rh_pictures.specs.DrawnSides.{ins_of, outs_of}
pub use Rattle.rh_pictures.specs.DrawnSlides.{summary_of}
pub use Rattle.rh_pictures.specs.Inner.BandTexts.{band_text_from}
pub use Rattle.rh_pictures.specs.Inner.CardsBehind.{cards_behind, place_behind}
pub use Rattle.rh_pictures.specs.Inner.Charts.{beat_in, path_in, words_in}
pub use Rattle.rh_pictures.specs.Inner.Figures.{IsSlotPlan}
pub use Rattle.rh_pictures.specs.Inner.LettersBehind.{letterboxes_in}
pub use Rattle.rh_pictures.specs.Inner.Marked.{made_pages, marked, marked_all, slot_pages_from}
pub use Rattle.rh_pictures.specs.Inner.Notes.{code_among, seen_among}
pub use Rattle.rh_pictures.specs.Inner.PaintedSteps.{happened_at}
pub use Rattle.rh_pictures.specs.Inner.PartsBehind.{area_part, card_lines, panel_part}
pub use Rattle.rh_pictures.specs.Inner.ReturnLines.{return_lines}
pub use Rattle.rh_pictures.specs.Inner.Surveys.{IsSurvey, is_fresh_card, with_items}
pub use Rattle.rh_pictures.specs.Inner.TransferWays.{alone_among, comes_alone, goes_out, ins_named, outs_named}
pub use Rattle.rh_pictures.specs.PaintedBands.{form_text}
pub use Rattle.rh_pictures.specs.PaintedOwners.{who_seen}
pub use Rattle.rh_pictures.specs.PaintedProgress.{PaintStand}
pub use Rattle.rh_pictures.specs.PaintedWalks.{PaintedLine, TookPaintedLine, walk_in}
pub use Rattle.rh_pictures.specs.Parts.{lines_of_slots, slot_panels}
pub use Rattle.rh_pictures.specs.Ways.{arrow_of, arrows_seen}
pub use Rattle.rh_pictures.specs.declared.map.mapper.Mapper.{Mapper}
pub use Rattle.rh_pictures.specs.declared.sheet.painter.Painter.{Painter}
pub use Rattle.rh_pictures.specs.declared.sheet.ways.MessageArrow.{MessageArrow}
