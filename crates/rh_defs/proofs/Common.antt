-- Names that many of the proofs here cite, passed on in one place.
pub use borrow.Author.Tests.{eqb-false, eqb-true, ltb-false}
pub use Rattle.std.proofs.Common.{Bool, List, add-zero, add_assoc, ap, append-nil, arith, cond, drop, eqb, false, get_or, inl, inr, leb, length}
pub use Rattle.std.proofs.Common.{length-append, length-drop, length-take, lit<, ltb, map, refl, rules, set, subst, suc, sym, true, zero, ℕ, [], ◌%◌, ◌*◌}
pub use Rattle.std.proofs.Common.{◌++◌, ◌+◌, ◌-◌, ◌/◌, ◌<◌, ◌^◌, ◌∙◌, ◌∷◌, ◌≡◌, ◌≢◌, ◌≤◌, ◌⊎◌}
pub use Rattle.std.proofs.lemmas.Bool.{cases_eq, cases_lt}
pub use Rattle.std.proofs.lemmas.Bool.Decides.{eqb_tells, nat_tests}
pub use Rattle.std.proofs.lemmas.List.{append_assoc, length-replicate}
pub use Rattle.std.specs.List.{AllByRecursion}
pub use Rattle.std.specs.Option.{option_map}
pub use Rattle.std.specs.Prelude.{Err, IfSome, IsNone, IsSome, None, Ok, Option, Result, Some, Vec, codes, filter, find, if◌then◌else◌, is_some, nat_le}
pub use Rattle.std.specs.Prelude.{nat_lt, negsuc, not, ok_or, pos, replicate, slice_index, slice_set, take, unwrap_or, ℤ, ◌&&◌, ◌==◌, ◌||◌}
unfoldable pub use Rattle.hex.proofs.OnLiterals.{hex_on_literals}
pub use Rattle.rh_defs.specs.Blocks.{PutsBlock, block_bytes, poked}
pub use Rattle.rh_defs.specs.Bytes.{SameIn, SameOutside}
unfoldable pub use Rattle.rh_defs.specs.Bytes.{part, with_part, word}
pub use Rattle.rh_defs.specs.Chain.{Granted, answer_of, left_of}
unfoldable pub use Rattle.rh_defs.specs.Chain.{found_or, or_else, refuse_if, ◌>>=◌, ◌>>◌}
pub use Rattle.rh_defs.specs.Commands.{Answer}
pub use Rattle.rh_defs.specs.Desk.{file_length, scrap_area}
pub use Rattle.rh_defs.specs.Desk.{Desk, Scrap, Task, free_pages}
unfoldable pub use Rattle.rh_defs.specs.Desk.{named, with_delivered}
pub use Rattle.rh_defs.specs.Files.{contents_of, has_file}
pub use Rattle.rh_defs.specs.Heap.{GrowsAtTop, GrowsIntoHole, Heap, Hole, IsHeap, IsTidy, MovesToHole, MovesToTop, Placed, Segment, Shrinks, Stays, Used, Way}
pub use Rattle.rh_defs.specs.Heap.{base, block_at, block_room, bytes_of, claim_block, claim_growing, end_for, first_place, fitted, hole_for, is_block_at}
pub use Rattle.rh_defs.specs.Heap.{is_hole_for, joined, need, new_size, place_after, placed_block, placed_in, raised, release_block, release_found, released}
pub use Rattle.rh_defs.specs.Heap.{resize_growing, resize_need, resized_by, segment_size, shortage_in, size_of, way_beyond, way_to, way_to_grow, with_hole}
pub use Rattle.rh_defs.specs.HeapImage.{Spells, Stand}
pub use Rattle.rh_defs.specs.HeapParts.{HasRoom}
pub use Rattle.rh_defs.specs.Laws.{IsDesk}
pub use Rattle.rh_defs.specs.MessageImage.{SpellWords}
pub use Rattle.rh_defs.specs.Messages.{Fits, Parcel, encoded_length, is_recorded, parcel_size}
unfoldable pub use Rattle.rh_defs.specs.Messages.{encoded, parcel_bytes}
pub use Rattle.rh_defs.specs.Module.{FillsPages, changed_length}
unfoldable pub use Rattle.rh_defs.specs.Module.{module_change, module_claim, module_free, module_need_pages, module_resize}
pub use Rattle.rh_defs.specs.Pieces.{Split, behind, first_at, lacks_pages, moved, page_size, pages_for, total, zeros}
pub use Rattle.rh_defs.specs.Post.{Post, Seat, answers_held, as_returned, bounce_all, bounce_held, bounced, first_for, has_seat, held_by, message_of, posted}
pub use Rattle.rh_defs.specs.Post.{put_down, queued_in, taken_from, with_held, without_block}
unfoldable pub use Rattle.rh_defs.specs.Post.{post_death, post_join, post_poll, post_send, sendable}
pub use Rattle.rh_defs.specs.Questions.{asked}
pub use Rattle.rh_defs.specs.Runs.{start_with}
pub use Rattle.rh_defs.specs.Slot.{Flex, HaveAnchors, IsFree, IsSlot, Slot, anchor_count, flex_start, flex_weight, heap_start, slot_length, slot_pages}
pub use Rattle.rh_defs.specs.Slot.{weight, with_heap}
pub use Rattle.rh_defs.specs.Commands.{step}
unfoldable pub use Rattle.rh_defs.specs.Transfer.{handled}
pub use Rattle.rh_defs.specs.declared.command.Command.{Command}
pub use Rattle.rh_defs.specs.declared.heap.HeapRefusal.{HeapRefusal}
pub use Rattle.rh_defs.specs.declared.message.Body.{Body}
pub use Rattle.rh_defs.specs.declared.message.Body.TheVariants.{DataLoad, DataLoadAck, DataSave, DataSaveAck, Other, RamFetch, RamTransmit}
pub use Rattle.rh_defs.specs.declared.message.EventCode.{EventCode}
pub use Rattle.rh_defs.specs.declared.message.EventCode.TheVariants.{Acknowledge, Recorded, User}
pub use Rattle.rh_defs.specs.declared.message.Letter.{Letter}
pub use Rattle.rh_defs.specs.declared.message.Message.{Message}
pub use Rattle.rh_defs.specs.declared.refusal.Refusal.{Refusal}
pub use Rattle.rh_defs.specs.declared.refusal.Refusal.TheVariants.{BadSize, NoRoom, NotABlock}
pub use Rattle.rh_defs.specs.declared.transfer.Incoming.{Incoming}
pub use Rattle.rh_defs.proofs.BytesLaws.{length-put, part_same, word_same}
