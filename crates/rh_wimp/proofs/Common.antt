-- Names that many of the proofs here cite, passed on in one place.
pub use Rattle.std.proofs.Common.{Bool, List, ap, append-nil, arith, cond, drop, eqb, false, get_or, inl, inr, leb, length, ltb, map, refl, replicate, set}
pub use Rattle.std.proofs.Common.{subst, suc, sym, take, true, zero, ℕ, [], ◌%◌, ◌*◌, ◌++◌, ◌+◌, ◌-◌, ◌/◌, ◌<◌, ◌^◌, ◌∙◌, ◌∷◌, ◌≡◌, ◌≢◌, ◌≤◌, ◌⊎◌}
pub use Rattle.std.proofs.lemmas.Bool.{cases_eq, cases_lt}
pub use Rattle.std.proofs.lemmas.Bool.Decides.{eqb_tells}
pub use Rattle.std.proofs.lemmas.List.{append_assoc, get_or-set_other, get_or-set_same, length-append, length-map, length-set, length-take}
pub use Rattle.std.proofs.lemmas.List.Elements.{filter-append}
pub use Rattle.std.proofs.lemmas.Result.{err_from_is_err_and}
pub use Rattle.std.specs.List.{list_any, position}
pub use Rattle.std.specs.Option.{option_map}
pub use Rattle.std.specs.Prelude.{Err, IfSome, IsSome, None, Ok, Option, Result, Some, filter, if◌then◌else◌, not, unwrap_or, ℤ, ◌==◌, ◌||◌}
pub use Rattle.rh_defs.proofs.BlockCalls.{module_claim-puts, room_enough}
pub use Rattle.rh_defs.proofs.BlockLaws.{has-less, poked-other, poked-pokes, release-frees}
pub use Rattle.rh_defs.proofs.HeapLists.{cond_false, cond_true, eqb_apart, eqb_same}
pub use Rattle.rh_defs.proofs.MemoryLaws.{OnlyArea-both}
pub use Rattle.rh_defs.proofs.MessageLaws.{encoded-most, length-encoded, length-word_bytes}
pub use Rattle.rh_defs.proofs.ParcelLaws.{code_read, from_read, length-padded, length_read, link_read, message_read, padded-least, padded-relinked, ref_read}
pub use Rattle.rh_defs.proofs.ShapeLaws.{module_claim-alike, poked-shape, release-alike, shape-both}
pub use Rattle.rh_defs.specs.Blocks.{HasBlock, SameShape, block_bytes, poked}
pub use Rattle.rh_defs.specs.Bytes.{part, with_part}
unfoldable pub use Rattle.rh_defs.specs.Bytes.{word, word_bytes}
pub use Rattle.rh_defs.specs.Chain.{Granted, answer_of, left_of}
pub use Rattle.rh_defs.specs.Heap.{Heap, block_room, release_block}
pub use Rattle.rh_defs.specs.Memory.{Memory, OnlyArea}
unfoldable pub use Rattle.rh_defs.specs.Memory.{bytes}
unfoldable pub use Rattle.rh_defs.specs.AnyMessage.{any_decoded}
unfoldable pub use Rattle.rh_defs.specs.MessageImage.{decoded}
pub use Rattle.rh_defs.specs.Messages.{Parcel, action_at, action_number, action_of, code_number, data_words, encoded_length, is_recorded, parcel_size, words}
unfoldable pub use Rattle.rh_defs.specs.Messages.{body_bytes, encoded, padded, parcel_bytes}
pub use Rattle.rh_defs.specs.Module.{module_claim}
pub use Rattle.rh_defs.specs.Pieces.{total, zeros}
pub use Rattle.rh_defs.specs.Post.{Post, Seat, answers_held, as_returned, bounce_held, bounced, count_held, first_for, has_seat, held_by, holds_such}
pub use Rattle.rh_defs.specs.Post.{live_count, most_messages, taken, taken_from, with_held, without_block}
unfoldable pub use Rattle.rh_defs.specs.Post.{post_death, post_join, post_poll}
pub use Rattle.rh_defs.specs.declared.message.Action.{Action}
pub use Rattle.rh_defs.specs.declared.message.Body.{Body}
pub use Rattle.rh_defs.specs.declared.message.Body.TheVariants.{DataLoad, DataLoadAck, DataSave, DataSaveAck, Other, RamFetch, RamTransmit}
pub use Rattle.rh_defs.specs.declared.message.EventCode.{EventCode}
pub use Rattle.rh_defs.specs.declared.message.Message.{Message}
pub use Rattle.rh_defs.specs.declared.message.MessageFault.{MessageFault}
pub use Rattle.rh_defs.specs.declared.sizes.TheConstants.{LONGEST_MESSAGE}
pub use Rattle.rh_module.proofs.BlockBytes.{block_within}
pub use Rattle.rh_module.specs.ModuleArea.{IsModule, module_heap_in}
pub use Rattle.rh_module.specs.declared.module.Module.{Module}
pub use Rattle.rh_store.proofs.Slices.{written}
pub use Rattle.rh_store.specs.Limits.{area_limit}
pub use Rattle.rh_wimp.specs.QueueCalls.{IsQueue}
pub use Rattle.rh_wimp.specs.Chains.{AllLie, AllLive, Apart, Chain, Chains, Clear, HasEntry, Holds, IsLinked, ArePostChains, Lies, LiesAt}
pub use Rattle.rh_wimp.specs.Inner.LooseMessages.{Lifted, Loose}
pub use Rattle.rh_wimp.specs.Inner.LooseMessages.{MayBounce}
pub use Rattle.rh_wimp.specs.Chains.{Off, SeatRow, RowLies, RowsLie, SpellsPostIn, emptied, entry_at, first_block, held_list, last_block}
pub use Rattle.rh_wimp.specs.Inner.ChainEdits.{emptied_chains}
pub use Rattle.rh_wimp.specs.Chains.{lengthened, no_entry, no_row, row_at, seat_row, row_parcels, rows_of}
pub use Rattle.rh_wimp.specs.Inner.Deaths.{ended_from, lifted, queue_to, settled_from, without_seat}
pub use Rattle.rh_wimp.specs.QueueItems.{LinksAt, held_items, message_item_of, waiting_items}
pub use Rattle.rh_wimp.specs.Moves.{Turns, relinked}
pub use Rattle.rh_wimp.specs.PostIn.{by_seats, in_order}
pub use Rattle.rh_wimp.specs.Inner.Searches.{wants}
pub use Rattle.rh_wimp.specs.declared.chain.Entry.{Entry}
