-- Names that many of the proofs here cite, passed on in one place.
pub use Prim.Native.String.{String}
pub use Rattle.std.proofs.Common.{Bool, List, None, Option, Some, ap, append_assoc, arith, cond, drop, false, inl, inr, length, length-append, length-drop}
pub use Rattle.std.proofs.Common.{length-take, refl, subst, suc, sym, take, true, zero, ℕ, [], ◌&&◌, ◌*◌, ◌++◌, ◌+◌, ◌-◌, ◌/◌, ◌<◌, ◌||◌, ◌∙◌, ◌∷◌, ◌≡◌, ◌≢◌}
pub use Rattle.std.proofs.Common.{◌≤◌, ◌⊎◌}
pub use Rattle.std.proofs.lemmas.Bool.{eq-eqb}
pub use Rattle.std.proofs.lemmas.Bool.Decides.{eqb_tells, leb_tells}
pub use Rattle.std.proofs.lemmas.List.{append-nil, length-replicate, take_all}
pub use Rattle.std.specs.List.{filter_map, list_any}
pub use Rattle.std.specs.Option.{option_map}
pub use Rattle.std.specs.Prelude.{Err, IfSome, Ok, Result, codes, filter, find, if◌then◌else◌, is_some, map, min, nat_eq, nat_le, nat_lt, not, ℤ, ◌==◌, ◌^◌}
pub use Rattle.std.specs.Str.{bytes_eq}
unfoldable pub use Rattle.hex.proofs.OnLiterals.{hex_on_literals}
pub use Rattle.rh_defs.proofs.Chains.{OnGrant, chosen, granted, granted-past, granted-then, granted-with, or_else-keeps}
pub use Rattle.rh_defs.specs.Chain.{Granted}
unfoldable pub use Rattle.rh_defs.specs.Chain.{found_or, or_else, refuse_if, ◌>>=◌, ◌>>◌}
pub use Rattle.rh_defs.specs.Commands.{Answer}
unfoldable pub use Rattle.rh_defs.specs.Commands.{free, kill, make, mid, start_task}
pub use Rattle.rh_defs.specs.Desk.{Desk, Scrap, Task, free_pages, has_name, next_ref, task_at, with_post, with_sending, with_slot, with_taking}
unfoldable pub use Rattle.rh_defs.specs.Desk.{idle_block, named, send_letter, with_delivered, with_task}
pub use Rattle.rh_defs.specs.Forms.{is_name}
pub use Rattle.rh_defs.specs.Heap.{GrowsAtTop, GrowsIntoHole, Heap, Hole, MovesToHole, MovesToTop, Placed, Segment, Shrinks, Stays, Used, Way, bytes_of}
pub use Rattle.rh_defs.specs.Heap.{first_place, fitted, is_block_at, place_after, released, size_of}
pub use Rattle.rh_defs.specs.IncomingEvents.{is_deaf}
unfoldable pub use Rattle.rh_defs.specs.IncomingEvents.{accept, ack_back, append, appended, ask, fetch_more, load_file, loaded, perform_take, take_with}
unfoldable pub use Rattle.rh_defs.specs.IncomingEvents.{taking_ended, took}
pub use Rattle.rh_defs.specs.Laws.{Always, IsDesk}
pub use Rattle.rh_defs.specs.Letters.{fetch_letter, load_letter, transmit_letter}
pub use Rattle.rh_defs.specs.Messages.{Parcel, action_of, is_recorded}
pub use Rattle.rh_defs.specs.OutgoingEvents.{Handled, ignored, refused, scrap_shortage, wider}
unfoldable pub use Rattle.rh_defs.specs.OutgoingEvents.{fail_sending, perform_send, save_scrap, send_with, transmit}
pub use Rattle.rh_defs.specs.Pieces.{Split, behind, first_at, total, with_here, written, zeros}
pub use Rattle.rh_defs.specs.Places.{buffer_at, free_anchor}
pub use Rattle.rh_defs.specs.Post.{Post, Seat, answers_held, bounce_all, bounce_held, bounced, has_seat, held_by, put_down, queued_in, taken_from, with_held}
pub use Rattle.rh_defs.specs.Post.{without_block}
unfoldable pub use Rattle.rh_defs.specs.Post.{post_death, post_is_live, post_join, post_poll, post_send}
unfoldable pub use Rattle.rh_defs.specs.Range.{in_range}
pub use Rattle.rh_defs.specs.Records.{is_full, is_open, open_of}
pub use Rattle.rh_defs.specs.Runs.{after, start_with}
pub use Rattle.rh_defs.specs.Slot.{Flex, Slot, block_of, flex_address, flex_start, heap_block_at, heap_start, new_slot, weight}
unfoldable pub use Rattle.rh_defs.specs.Slot.{slot_alloc, slot_block, slot_claim, slot_extend, slot_put}
pub use Rattle.rh_defs.specs.Commands.{step}
unfoldable pub use Rattle.rh_defs.specs.Commands.{cancel_in, cancel_out, poll, poll_taken, repeat, save}
pub use Rattle.rh_defs.specs.Transfer.{answers_none}
unfoldable pub use Rattle.rh_defs.specs.Transfer.{delivered, bounced_to, handled}
pub use Rattle.rh_defs.specs.declared.command.Command.{Command}
pub use Rattle.rh_defs.specs.declared.command.Manner.{Manner}
pub use Rattle.rh_defs.specs.declared.message.Body.{Body}
pub use Rattle.rh_defs.specs.declared.message.EventCode.{EventCode}
pub use Rattle.rh_defs.specs.declared.message.EventCode.TheVariants.{Acknowledge, Recorded, User}
pub use Rattle.rh_defs.specs.declared.refusal.Refusal.{Refusal}
pub use Rattle.rh_defs.specs.declared.refusal.Refusal.TheVariants.{AnchorInUse, BadRange, Busy, NoBlock, NoRoom, NoTask}
pub use Rattle.rh_defs.specs.declared.reply.Outcome.{Outcome}
pub use Rattle.rh_defs.specs.declared.reply.Reply.{Reply}
pub use Rattle.rh_defs.specs.declared.transfer.Asked.{Asked}
pub use Rattle.rh_defs.specs.declared.transfer.Incoming.{Incoming}
pub use Rattle.rh_defs.specs.declared.transfer.Outgoing.{Outgoing}
pub use Rattle.rh_defs.specs.declared.transfer.Sending.{Sending}
pub use Rattle.rh_defs.specs.declared.transfer.Taking.{Taking}
pub use Rattle.rh_defs.specs.declared.transfer_action.Append.{Append}
pub use Rattle.rh_defs.specs.declared.transfer_action.Claim.{Claim}
pub use Rattle.rh_defs.specs.declared.transfer_action.Fetch.{Fetch}
pub use Rattle.rh_defs.specs.declared.transfer_action.LoadFile.{LoadFile}
pub use Rattle.rh_defs.specs.declared.transfer_action.Next.{Next}
pub use Rattle.rh_defs.specs.declared.transfer_action.Part.{Part}
pub use Rattle.rh_defs.specs.declared.transfer_action.SaveFile.{SaveFile}
pub use Rattle.rh_defs.specs.declared.transfer_action.SendAction.{SendAction}
pub use Rattle.rh_defs.specs.declared.transfer_action.TakeAction.{TakeAction}
pub use Rattle.rh_defs.specs.declared.transfer_action.Transmit.{Transmit}
pub use Rattle.rh_safety.proofs.Basics.{Ascend, FoundActive, active_is, and_left, and_right, asking_is, drains, either, fetches, first_is, has_of, is_equal}
pub use Rattle.rh_safety.proofs.Basics.{length_take, none_some, one_of_id, open_is, put_all, put_other, put_same, same_value, with_ascends}
pub use Rattle.rh_safety.proofs.Ends.{Active, Asking, Code, DataLoad, DataSave, Draining, Edits, Fetching, Has, In, In_done, In_failed, Letter, Message}
pub use Rattle.rh_safety.proofs.Ends.{Offers, Open, Out, Out_done, Out_failed, Plain, RamFetch, RamTransmit, any, first_for, how_many, in_anchor, in_id}
pub use Rattle.rh_safety.proofs.Ends.{is_going, is_growing, one_more, out_id, put, with_id, without_first}
pub use Rattle.rh_safety.proofs.Invariant.{Begins, Counted, Counts, Good, HasBuffer, Inv, IsGood, IsLive, IsWaiting, Knows, LetterCarries, LetterIn, LiveFile}
pub use Rattle.rh_safety.proofs.Invariant.{Offered, Order, PendingAt, Unread, Untouched, kept, known_by, latest, queued, rests, waits}
pub use Rattle.rh_safety.proofs.SeenFrames.{Fits, HaveOwnSeats, bind, done, instead_of, is_found, test, the_task}
pub use Rattle.rh_safety.proofs.SeenTasks.{Same, block_view, buffer_view, field_is, ins_view, live_of, outs_view, same_desk, slot_at, slot_is}
pub use Rattle.rh_safety.proofs.Sight.{sent, still_held, would_answer}
pub use Rattle.rh_safety.proofs.View.{address_in, amount_in, blocks_of, buffers_of, field, flex_map, of, seen_last, seen_letter, seen_parcel, seen_scrap}
pub use Rattle.rh_safety.proofs.View.{task_of, view}
