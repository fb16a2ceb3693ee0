-- Names that many of the proofs here cite, passed on in one place.
pub use Prim.Native.String.{String}
pub use borrow.Author.Tests.{eqb-true}
pub use Rattle.std.proofs.Common.{Bool, List, None, Option, Some, ap, arith, cond, eqb, false, inl, inr, leb, length, length-append, length-drop, length-take}
pub use Rattle.std.proofs.Common.{lit≤, ltb, map, not, refl, subst, suc, sym, take, true, zero, ℕ, [], ◌%◌, ◌&&◌, ◌*◌, ◌++◌, ◌+◌, ◌-◌, ◌/◌, ◌<◌, ◌^◌, ◌∙◌}
pub use Rattle.std.proofs.Common.{◌∷◌, ◌≡◌, ◌≢◌, ◌≤◌, ◌⊎◌}
pub use Rattle.std.proofs.lemmas.Bool.{eq-eqb}
pub use Rattle.std.proofs.lemmas.Bool.Decides.{eqb_tells, leb_tells, nat_tests}
pub use Rattle.std.proofs.lemmas.List.{drop-map, length-map, length-replicate, map-append, take-map}
pub use Rattle.std.proofs.lemmas.Slice.Eq.{bytes_eq-Decides}
pub use Rattle.std.specs.Char.{is_ascii_digit}
pub use Rattle.std.specs.Fmt.{decimal, signed_decimal}
unfoldable pub use Rattle.std.specs.Fmt.{digits}
pub use Rattle.std.specs.List.{AllByRecursion, join_with_byte, list_all, list_any}
pub use Rattle.std.specs.Option.{option_map}
pub use Rattle.std.specs.Prelude.{Err, IfSome, Ok, Result, codes, drop, filter, find, fold, if◌then◌else◌, is_none, is_ok, is_some, max, min, nat_eq, nat_le}
pub use Rattle.std.specs.Prelude.{nat_lt, negsuc, pos, replicate, slice_get, slice_index, slice_index_or, unwrap_or, ℤ, ◌==◌, ◌||◌}
pub use Rattle.std.specs.Str.{bytes_eq}
unfoldable pub use Rattle.hex.proofs.OnLiterals.{hex_on_literals}
pub use Rattle.hex.specs.Hex.{encode_lower}
pub use Rattle.rh_defs.proofs.Chains.{OnGrant, chosen, granted, granted-both, granted-past, granted-then, granted-unless, granted-with, or_else-keeps}
pub use Rattle.rh_defs.proofs.Follows.{Follows, follows-as, follows-equal, follows-then}
pub use Rattle.rh_defs.proofs.HeapLists.{eqb_apart, eqb_same, leb_no, leb_yes}
pub use Rattle.rh_defs.proofs.Lists.{all-mono, append-all}
pub use Rattle.rh_defs.proofs.Steps.{after-is, start-is, step-keeps}
pub use Rattle.rh_defs.specs.Bytes.{space}
pub use Rattle.rh_defs.specs.Chain.{Granted}
unfoldable pub use Rattle.rh_defs.specs.Chain.{found_or, or_else, refuse_if, ◌>>=◌, ◌>>◌}
pub use Rattle.rh_defs.specs.Commands.{Answer}
unfoldable pub use Rattle.rh_defs.specs.Commands.{alloc, budge, claim, extend, free, kill, load, make, mid, put, release, resize, start_task}
pub use Rattle.rh_defs.specs.Desk.{Desk, Scrap, Task, edit_task, free_pages, has_name, next_ref, task_at, with_post, with_sending, with_slot, with_taking}
unfoldable pub use Rattle.rh_defs.specs.Desk.{idle_block, named, send_letter, with_delivered, with_task}
pub use Rattle.rh_defs.specs.Files.{FileList}
pub use Rattle.rh_defs.specs.Forms.{is_delta, is_leaf, is_name, number_of}
unfoldable pub use Rattle.rh_defs.specs.Forms.{is_decimal}
pub use Rattle.rh_defs.specs.Grammar.{Choice, Maybe, Number, GrammarRow}
unfoldable pub use Rattle.rh_defs.specs.Grammar.{rows}
pub use Rattle.rh_defs.specs.Heap.{Heap, Hole, Placed, Segment, Used, base, block_around, block_room, bytes_of, claim_growing, first_place, fitted}
pub use Rattle.rh_defs.specs.Heap.{free_bytes, hole_for, hole_size, is_hole_for, largest, largest_hole, need, new_size, place_after, placed_in, raised}
pub use Rattle.rh_defs.specs.Heap.{resize_growing, resize_need, segment_size, size_of, way_to}
pub use Rattle.rh_defs.specs.IncomingEvents.{without_buffer}
unfoldable pub use Rattle.rh_defs.specs.IncomingEvents.{accept, ack_back, append, appended, ask, taking_ended, fetch_more, load_file, loaded}
unfoldable pub use Rattle.rh_defs.specs.IncomingEvents.{perform_take, take_with, took}
pub use Rattle.rh_defs.specs.Laws.{IsDesk, Rise}
pub use Rattle.rh_defs.specs.Letters.{load_ack_letter, save_letter}
pub use Rattle.rh_defs.specs.Line.{command_of, hex_number, is_skipped, longest_line, grammar_row, nth_word}
unfoldable pub use Rattle.rh_defs.specs.Line.{line_means}
pub use Rattle.rh_defs.specs.Questions.{Bytes, Told, asked}
pub use Rattle.rh_defs.specs.Messages.{Parcel, action_of}
unfoldable pub use Rattle.rh_defs.specs.Module.{module_claim}
pub use Rattle.rh_defs.specs.OutgoingEvents.{Handled, ignored, refused}
unfoldable pub use Rattle.rh_defs.specs.OutgoingEvents.{fail_sending, perform_send, save_scrap, send_with, transmit}
pub use Rattle.rh_defs.specs.Pieces.{Split, lacks_pages, moved, total, written, zeros}
pub use Rattle.rh_defs.specs.Places.{buffer_at, with_heap_bytes, written_in}
pub use Rattle.rh_defs.specs.Post.{Post, Seat, as_returned, bounce_held, first_for, has_seat, held_by, taken_from}
unfoldable pub use Rattle.rh_defs.specs.Post.{post_join, post_poll, post_send}
unfoldable pub use Rattle.rh_defs.specs.Questions.{heap}
pub use Rattle.rh_defs.specs.Range.{all_in_range}
unfoldable pub use Rattle.rh_defs.specs.Range.{in_range}
pub use Rattle.rh_defs.specs.Records.{active_of, asking_of, in_id, is_buffer_of, is_open, open_of, out_id, with_id}
pub use Rattle.rh_defs.specs.Runs.{after, replies, start_with}
pub use Rattle.rh_defs.specs.Slot.{Flex, Slot, block_of, flex_address, flex_weight, heap_block_at, heap_start, lacks_room, length_with, slot_pages}
pub use Rattle.rh_defs.specs.Slot.{with_placed}
unfoldable pub use Rattle.rh_defs.specs.Slot.{slot_alloc, slot_begin, slot_block, slot_claim, slot_extend, slot_free, slot_mid, slot_put, slot_release}
unfoldable pub use Rattle.rh_defs.specs.Slot.{slot_resize}
pub use Rattle.rh_defs.specs.Commands.{change, event, step}
unfoldable pub use Rattle.rh_defs.specs.Commands.{cancel_in, cancel_out, poll, poll_taken, repeat, save}
pub use Rattle.rh_defs.specs.Text.{Words}
unfoldable pub use Rattle.rh_defs.specs.Text.{address}
pub use Rattle.rh_defs.specs.Transfer.{answers_none}
unfoldable pub use Rattle.rh_defs.specs.Transfer.{delivered, bounced_to, handled}
pub use Rattle.rh_defs.specs.declared.command.Command.{Command}
pub use Rattle.rh_defs.specs.declared.command.Manner.{Manner}
pub use Rattle.rh_defs.specs.declared.fault.LineFault.TheVariants.{Unknown}
pub use Rattle.rh_defs.specs.declared.message.Body.{Body}
pub use Rattle.rh_defs.specs.declared.message.EventCode.{EventCode}
pub use Rattle.rh_defs.specs.declared.message.EventCode.TheVariants.{Acknowledge, Recorded, User}
pub use Rattle.rh_defs.specs.declared.message.Letter.{Letter}
pub use Rattle.rh_defs.specs.declared.question.Question.{Question}
pub use Rattle.rh_defs.specs.declared.refusal.Refusal.{Refusal}
pub use Rattle.rh_defs.specs.declared.refusal.Refusal.TheVariants.{AnchorInUse, BadRange, BadSize, Busy, NoBlock, NoBudge, NoName, NoRoom, NoTask, NotABlock}
pub use Rattle.rh_defs.specs.declared.refusal.Refusal.TheVariants.{NotOpen, NothingSent}
pub use Rattle.rh_defs.specs.declared.reply.Outcome.{Outcome}
pub use Rattle.rh_defs.specs.declared.reply.Reply.{Reply}
pub use Rattle.rh_defs.specs.declared.transfer.Asked.{Asked}
pub use Rattle.rh_defs.specs.declared.transfer.Incoming.{Incoming}
pub use Rattle.rh_defs.specs.declared.transfer.Outgoing.{Outgoing}
pub use Rattle.rh_defs.specs.declared.transfer.Sending.{Sending}
pub use Rattle.rh_defs.specs.declared.transfer.Taking.{Taking}
pub use Rattle.rh_defs.specs.declared.transfer_action.Append.{Append}
pub use Rattle.rh_defs.specs.declared.transfer_action.Claim.{Claim}
pub use Rattle.rh_defs.specs.declared.transfer_action.Fetch.{Fetch}
pub use Rattle.rh_defs.specs.declared.transfer_action.LoadFile.{LoadFile}
pub use Rattle.rh_defs.specs.declared.transfer_action.Next.{Next}
pub use Rattle.rh_defs.specs.declared.transfer_action.Part.{Part}
pub use Rattle.rh_defs.specs.declared.transfer_action.SaveFile.{SaveFile}
pub use Rattle.rh_defs.specs.declared.transfer_action.SendAction.{SendAction}
pub use Rattle.rh_defs.specs.declared.transfer_action.TakeAction.{TakeAction}
pub use Rattle.rh_defs.specs.declared.transfer_action.Transmit.{Transmit}
pub use Rattle.rh_safety.proofs.Basics.{Ascend, and_left, and_right, asking_is, contains_of, either, first_is, has_of, is_equal, none_some, open_is, put_other}
pub use Rattle.rh_safety.proofs.Basics.{put_same, same_value}
pub use Rattle.rh_safety.proofs.Ends.{Active, Edits, Has, Message, Offers}
pub use Rattle.rh_safety.proofs.Invariant.{Good}
pub use Rattle.rh_defs.proofs.Changes.{Changed, IsOnMemory, in_areas, in_made, in_module, in_nothing, in_slot}
pub use Rattle.rh_defs.proofs.Steps.{granted-on}
pub use Rattle.rh_safety.proofs.Acts.{any-grant}
pub use Rattle.rh_safety.proofs.SafetyRows.{fresh, script}
pub use Rattle.rh_safety.proofs.SeenBlocks.{found_name, ok_is}
pub use Rattle.rh_safety.proofs.SeenDesks.{fits}
pub use Rattle.rh_safety.proofs.SeenFrames.{Fits, is_found, the_task}
pub use Rattle.rh_safety.proofs.SeenLaws.{keeps}
pub use Rattle.rh_safety.proofs.SeenTasks.{Same, field_is, found_task, live_of}
pub use Rattle.rh_safety.proofs.View.{blocks_of, buffers_of, seen_parcel, task_of, view}
pub use Rattle.rh_safety.proofs.WrongBodies.{Rules, landed, run_of}
pub use Rattle.rh_safety.specs.Held.{held}
pub use Rattle.rh_safety.specs.Offered.{at_place}
