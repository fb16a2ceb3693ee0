-- Names that many of the proofs here cite, passed on in one place.
pub use Rattle.std.proofs.Common.{Bool, List, SFits, ap, append_assoc, arith, drop, eqb, false, get_or, inl, inr, leb, length, length-append, ltb, refl}
pub use Rattle.std.proofs.Common.{replicate, rules, subst, suc, sym, take, to_z, true, zero, ℕ, [], ◌%◌, ◌*◌, ◌++◌, ◌+◌, ◌-◌, ◌/◌, ◌<◌, ◌^◌, ◌∙◌, ◌∷◌, ◌≡◌}
pub use Rattle.std.proofs.Common.{◌≢◌, ◌≤◌, ◌⊎◌}
pub use Rattle.std.proofs.lemmas.Bool.{cases_eq, cases_lt}
pub use Rattle.std.proofs.lemmas.Bool.Decides.{nat_tests}
pub use Rattle.std.proofs.lemmas.Int.{to_z-of_z}
pub use Rattle.std.proofs.lemmas.List.{append-nil, length-replicate, length-take-le, take_all}
pub use Rattle.std.proofs.lemmas.Result.{err_from_is_err_and}
pub use Rattle.std.specs.Int.{w32}
pub use Rattle.std.specs.Prelude.{Err, IfSome, IsErr, IsErrOf, IsNone, IsOk, IsTrue, None, Ok, OnOk, Option, Result, Some, cond, if◌then◌else◌, is_some, map}
pub use Rattle.std.specs.Prelude.{nat_le, nat_lt, negsuc, not, ok_or, pos, slice_get, unwrap_or, ℤ, ◌&&◌, ◌==◌, ◌||◌, ◌↔◌}
pub use Rattle.rh_defs.proofs.BytesLaws.{SameOutside-self, length-part, length-put, part_same, put_outside, word_same}
pub use Rattle.rh_defs.proofs.Chains.{refuse_if-false, refuse_if-true}
pub use Rattle.rh_defs.proofs.HeapLists.{IsCut, cond_false, cond_true, eqb_apart, eqb_same, first_at-cuts, ltb_no, ltb_yes, sum-append}
pub use Rattle.rh_defs.proofs.MemoryLaws.{OnlyArea-both, OnlyArea-from_Edited, bytes-with_bytes}
pub use Rattle.rh_defs.proofs.SlotImageLaws.{SpellsSlot-with_heap}
pub use Rattle.rh_defs.proofs.SlotLaws.{Carried, Anchored-same, Anchored-split, HaveAnchors-cut, Lie-same, Lie-split, Spells-same}
pub use Rattle.rh_defs.proofs.SlotLaws.{block_of-at, in_above, in_below}
pub use Rattle.rh_defs.proofs.SlotLaws.{in_both, part_of, same_both, wider}
pub use Rattle.rh_defs.specs.Bytes.{SameIn, SameOutside, with_part}
unfoldable pub use Rattle.rh_defs.specs.Bytes.{part, word}
pub use Rattle.rh_defs.specs.Chain.{Granted, left_of, no_answer}
unfoldable pub use Rattle.rh_defs.specs.Chain.{found_or, refuse_if, ◌>>=◌}
pub use Rattle.rh_defs.specs.Heap.{Heap, Hole, Segment, Used, base, block_at, bytes_of, claim_growing, fitted, need, raised, size_of}
pub use Rattle.rh_defs.specs.HeapImage.{Spells, Stand, fault_of}
pub use Rattle.rh_defs.specs.Questions.{block_items}
pub use Rattle.rh_defs.specs.Memory.{Edited, IsOpen, Memory, OnlyArea, Resized}
unfoldable pub use Rattle.rh_defs.specs.Memory.{bytes}
pub use Rattle.rh_defs.specs.Pieces.{Split, moved, pages_for, total, written, zeros}
pub use Rattle.rh_defs.specs.Slot.{Flex, HaveAnchors, IsFree, Slot, anchor_count, flex_address, flex_start, flex_weight, heap_block_at, heap_start}
pub use Rattle.rh_defs.specs.Slot.{lacks_room, slot_length, slot_pages, slot_start, weight, with_block, with_block_bytes}
unfoldable pub use Rattle.rh_defs.specs.Slot.{slot_block, slot_put}
pub use Rattle.rh_defs.specs.SlotImage.{Anchored, Lie, SlotWords, SpellsSlot, flex_place, heap_place, is_block}
unfoldable pub use Rattle.rh_defs.specs.SlotImage.{flex_in, slot_of}
pub use Rattle.rh_defs.specs.declared.question.BlockItem.{BlockItem}
pub use Rattle.rh_defs.specs.declared.refusal.Refusal.{Refusal}
pub use Rattle.rh_defs.specs.declared.refusal.Refusal.TheVariants.{NoBlock, NoRoom}
pub use Rattle.rh_defs.specs.declared.sizes.TheConstants.{PAGE}
pub use Rattle.rh_heap.specs.HeapSpans.{heap_in}
pub use Rattle.rh_heap.specs.declared.span.Span.{Span}
pub use Rattle.rh_slot.specs.SlotArea.{IsSlotIn, SpellsSlotIn, slot_in}
pub use Rattle.rh_slot.specs.Inner.CHeap.{lengthened}
pub use Rattle.rh_slot.specs.SlotCalls.{LeavesSlotIn}
pub use Rattle.rh_slot.specs.Inner.FoundBlocks.{FoundFlex, FoundAt}
unfoldable pub use Rattle.rh_slot.specs.SlotChecks.{are_hung}
pub use Rattle.rh_slot.specs.Row.{BlockRow, Shifted, WalksIn}
pub use Rattle.rh_slot.specs.Inner.RowWalks.{HangsApart, Walked, row_item}
pub use Rattle.rh_slot.specs.declared.image.SlotFault.TheVariants.{BadAnchor, BadSize, SparePage}
