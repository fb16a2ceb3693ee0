-- Names that many of the proofs here cite, passed on in one place.
pub use Rattle.std.proofs.Common.{Bool, List, SFits, ap, arith, cond, false, inl, inr, length, refl, subst, suc, sym, true, w32, zero, ℕ, [], ◌%◌, ◌*◌, ◌++◌}
pub use Rattle.std.proofs.Common.{◌+◌, ◌-◌, ◌/◌, ◌<◌, ◌^◌, ◌∙◌, ◌∷◌, ◌≡◌, ◌≢◌, ◌≤◌, ◌⊎◌}
pub use Rattle.std.proofs.Math.ListN.{get_or, length-append, set}
pub use Rattle.std.proofs.lemmas.Bool.{cases_eq, cases_lt, eqb-true}
pub use Rattle.std.proofs.lemmas.Bool.Decides.{nat_tests}
pub use Rattle.std.proofs.lemmas.Int.{ints, to_z-of_z}
pub use Rattle.std.proofs.lemmas.List.{length-map, length-take, map-append, take_all}
pub use Rattle.std.proofs.lemmas.Option.{slice_get-get_or, slice_get-map, slice_get_within}
pub use Rattle.std.proofs.lemmas.Result.{err_from_is_err_and}
pub use Rattle.std.specs.List.{AllByRecursion, list_any, position, remove}
pub use Rattle.std.specs.Option.{option_map}
pub use Rattle.std.specs.Prelude.{Err, IfOk, IfSome, IsErr, IsNone, IsOk, IsSome, IsTrue, None, Ok, OnErr, Option, Result, Some, SomeIff, codes, drop, filter}
pub use Rattle.std.specs.Prelude.{find, if◌then◌else◌, is_err, is_ok, is_some, map, min, nat_le, nat_lt, negsuc, not, ok_or, pos, replicate, slice_get}
pub use Rattle.std.specs.Prelude.{slice_index, slice_set, take, unwrap_or, ℤ, ◌&&◌, ◌==◌, ◌||◌, ◌↔◌}
pub use Rattle.rh_defs.proofs.BytesLaws.{length-part, part-drop}
pub use Rattle.rh_defs.proofs.Chains.{OnGrant, grant-holds}
pub use Rattle.rh_defs.proofs.Cuts.{IsCut, cut-total, first_at-cuts}
pub use Rattle.rh_defs.proofs.MemoryLaws.{OnlyArea-grown, OnlyArea-self, area-opened, length-grown, open_below-opened}
pub use Rattle.rh_defs.proofs.SlotKeeps.{IsRoomed}
unfoldable pub use Rattle.rh_defs.specs.Bytes.{part}
pub use Rattle.rh_defs.specs.Chain.{Granted, answer_of, left_of, no_answer, outcome_of, result_or}
unfoldable pub use Rattle.rh_defs.specs.Chain.{found_or, or_else, refuse_if, ◌>>=◌, ◌>>◌}
pub use Rattle.rh_defs.specs.Commands.{Answer}
pub use Rattle.rh_defs.specs.Desk.{module_start}
pub use Rattle.rh_defs.specs.Desk.{Desk, Made, Scrap, Task, edit_task, free_pages, next_ref, task_at, task_pages, used_pages, with_post, with_sending}
pub use Rattle.rh_defs.specs.Desk.{with_slot, with_taking}
unfoldable pub use Rattle.rh_defs.specs.Desk.{idle_block, idle_buffer, named, send_letter, with_delivered, with_task}
pub use Rattle.rh_defs.specs.Files.{FileList}
pub use Rattle.rh_defs.specs.Heap.{Heap, Hole, Segment, Used, base, block_at, block_size, bytes_of, claim_growing, empty_heap, first_place, need, segment_at}
pub use Rattle.rh_defs.specs.Heap.{size_of}
unfoldable pub use Rattle.rh_defs.specs.IncomingEvents.{accept, appended}
pub use Rattle.rh_defs.specs.Laws.{IsDesk}
pub use Rattle.rh_defs.specs.Letters.{fetch_letter}
pub use Rattle.rh_defs.specs.Questions.{block_items, segment_item}
pub use Rattle.rh_defs.specs.Memory.{IsOpen, Memory, OnlyArea, closed, grown, open_below, opened}
unfoldable pub use Rattle.rh_defs.specs.Memory.{bytes}
pub use Rattle.rh_defs.specs.Messages.{Parcel}
unfoldable pub use Rattle.rh_defs.specs.Module.{module_change, module_claim, module_resize}
pub use Rattle.rh_defs.specs.Order.{IsReordered, with_queue}
pub use Rattle.rh_defs.specs.OutgoingEvents.{Handled, ignored, is_bad_range, refused, scrap_shortage, wider}
pub use Rattle.rh_defs.specs.Pieces.{Split, first_at, page_size, pages_for, total, zeros}
pub use Rattle.rh_defs.specs.Places.{buffer_at, first_bytes, overlap}
pub use Rattle.rh_defs.specs.Post.{Post, post_poll}
unfoldable pub use Rattle.rh_defs.specs.Post.{post_send, post_send_pages}
unfoldable pub use Rattle.rh_defs.specs.Range.{in_range}
pub use Rattle.rh_defs.specs.Records.{is_full, is_going}
pub use Rattle.rh_defs.specs.Slot.{Flex, HaveAnchors, Slot, anchor_count, flex_address, flex_start, heap_block_at, heap_start, holds, slot_length, slot_start}
pub use Rattle.rh_defs.specs.Slot.{weight}
unfoldable pub use Rattle.rh_defs.specs.Slot.{slot_alloc, slot_block, slot_claim, slot_put, slot_size, slot_take_pages}
pub use Rattle.rh_defs.specs.SlotImage.{flex_place}
pub use Rattle.rh_defs.specs.Commands.{change}
pub use Rattle.rh_defs.specs.declared.command.Command.{Command}
pub use Rattle.rh_defs.specs.declared.question.BlockItem.{BlockItem}
pub use Rattle.rh_defs.specs.declared.question.SegmentItem.{SegmentItem}
pub use Rattle.rh_defs.specs.declared.message.EventCode.{EventCode}
pub use Rattle.rh_defs.specs.declared.message.EventCode.TheVariants.{User}
pub use Rattle.rh_defs.specs.declared.message.Letter.{Letter}
pub use Rattle.rh_defs.specs.declared.message.Message.{Message}
pub use Rattle.rh_defs.specs.declared.refusal.Refusal.{Refusal}
pub use Rattle.rh_defs.specs.declared.refusal.Refusal.TheVariants.{BadRange, BadSize, Busy, NoBlock, NoName, NoRoom, NoTask, NotABlock}
pub use Rattle.rh_defs.specs.declared.reply.Outcome.{Outcome}
pub use Rattle.rh_defs.specs.declared.reply.Reply.{Reply}
pub use Rattle.rh_defs.specs.declared.sizes.TheConstants.{MAX_AREAS, PAGE}
pub use Rattle.rh_defs.specs.declared.transfer.Incoming.{Incoming}
pub use Rattle.rh_defs.specs.declared.transfer.Outgoing.{Outgoing}
pub use Rattle.rh_defs.specs.declared.transfer.Sending.{Sending}
pub use Rattle.rh_module.specs.ModuleArea.{IsModule, module_heap_in}
pub use Rattle.rh_slot.proofs.Ranges.{Standing}
pub use Rattle.rh_slot.specs.SlotArea.{IsSlotIn, slot_in}
pub use Rattle.rh_slot.specs.SlotCalls.{LeavesSlotIn}
unfoldable pub use Rattle.rh_slot.specs.Flex.{slot_append}
pub use Rattle.rh_wimp.specs.QueueCalls.{Answers, IsQueue}
pub use Rattle.rh_wimp.specs.Chains.{Chains, HasEntry, SpellsPostIn, joined_chains}
pub use Rattle.rh_wimp.specs.PostIn.{post_in}
pub use Rattle.rh_tasks.specs.Finding.{FoundSeat, Owns, looked}
pub use Rattle.rh_tasks.specs.WorldLetters.{with_last}
pub use Rattle.rh_tasks.specs.WorldLists.{segment_items_at}
pub use Rattle.rh_tasks.specs.WorldPolls.{Becomes}
pub use Rattle.rh_tasks.specs.Inner.PollSteps.{IsAt, IsFor, IsFreeAnchor, IsPortion, Sends}
pub use Rattle.rh_tasks.specs.Inner.Saves.{source_block}
pub use Rattle.rh_tasks.specs.Shown.{Shown}
pub use Rattle.rh_defs.specs.Places.{bytes_held}
pub use Rattle.rh_tasks.specs.View.{AreDistinct, Avoids, HasAreas, HasSlot, IsAbove, IsWorld, Kept, desk_of, fixed, is_named, kept_of, made_area, scrap_from}
pub use Rattle.rh_tasks.specs.View.{scrap_size, shown_of, slot_area, the_module}
unfoldable pub use Rattle.rh_tasks.specs.View.{fixed_pages, made_of, pages_at, scrap_of, task_of}
pub use Rattle.rh_tasks.specs.declared.made.MadeArea.{MadeArea}
pub use Rattle.rh_tasks.specs.declared.scrap.ScrapFile.{ScrapFile}
pub use Rattle.rh_tasks.specs.declared.seat.Seat.{Seat}
pub use Rattle.rh_tasks.proofs.Chains.{begins, done-refused, ends, granted-same, le-false, le-true, lt-false, lt-true, past, stops}
pub use Rattle.rh_tasks.proofs.Finding.{named-is, nobody, sits}
pub use Rattle.rh_tasks.proofs.Frames.{Stay, count-stays, fixed-opened, fixed-stay, if_apart, if_same, mades-opened, mades-stay, module-stays, pages-stay}
pub use Rattle.rh_tasks.proofs.Frames.{post-stays, queue-stays, scrap-fits, scrap-stays, slots-stay, tasks-stay}
pub use Rattle.rh_tasks.proofs.Leaves.{changed, granted, module-granted, slid}
pub use Rattle.rh_tasks.proofs.Lists.{Sits, all-at, all-map, avoids-at, avoids-back, avoids-below, cons, set_same}
pub use Rattle.rh_tasks.proofs.Moves.{Moves, Slid, found-named, moved-desk, moved-world, owned}
pub use Rattle.rh_tasks.proofs.Places.{mapped-at, mapped-is, member-at, reordered-at, task-found}
pub use Rattle.rh_tasks.proofs.Reorders.{edit-alike, reordered-refl, same-alike}
pub use Rattle.rh_tasks.proofs.Worlds.{few-made, few-seats, free-is, granted-keeps, numbers, same-desk}
