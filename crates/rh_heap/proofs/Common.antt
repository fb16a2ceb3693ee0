-- Names that many of the proofs here cite, passed on in one place.
pub use Rattle.std.proofs.Common.{Bool, List, ap, append_assoc, arith, cond, eqb, false, get_or, inl, inr, leb, length, length-append, length-take, ltb, max}
pub use Rattle.std.proofs.Common.{refl, replicate, set, subst, suc, sym, take, true, zero, ℕ, [], ◌%◌, ◌*◌, ◌++◌, ◌+◌, ◌-◌, ◌/◌, ◌<◌, ◌^◌, ◌∙◌, ◌∷◌, ◌≡◌, ◌≢◌}
pub use Rattle.std.proofs.Common.{◌≤◌, ◌⊎◌}
pub use Rattle.std.proofs.lemmas.Bool.{cases_eq, cases_lt}
pub use Rattle.std.proofs.lemmas.Int.{to_z-of_z}
pub use Rattle.std.proofs.lemmas.List.{append-nil, length-replicate}
pub use Rattle.std.specs.Int.{w32}
pub use Rattle.std.specs.Option.{option_map}
pub use Rattle.std.specs.Prelude.{Err, IfSome, MatchResult, None, Ok, Option, Result, Some, bit_and, is_some, nat_le, ok_or, ℤ, ◌&&◌, ◌==◌}
pub use Rattle.rh_defs.proofs.BytesLaws.{length-part, part_more}
pub use Rattle.rh_defs.proofs.HeapCalls.{released_at-some}
pub use Rattle.rh_defs.proofs.HeapLaws.{HasNone, Stand-split, heap_of-Spells, last_link-append, last_link-none}
pub use Rattle.rh_defs.proofs.HeapLists.{HasRoom-append, HasRoom-from_tidy, NonePass-append, cond_false, cond_true, eqb_apart, eqb_same, first_at-found}
pub use Rattle.rh_defs.proofs.HeapLists.{first_at-none, leb_no, no_segments, tidy_after, tidy_before, tidy_behind_hole, tidy_behind_used, tidy_front}
pub use Rattle.rh_defs.proofs.HeapLists.{total-append}
pub use Rattle.rh_defs.proofs.HeapStretch.{HasStretch-kept, closed, link_place, opened}
pub use Rattle.rh_defs.proofs.MemoryLaws.{Edited-both, Edited-wider}
pub use Rattle.rh_defs.specs.Bytes.{SameOutside, part, word}
pub use Rattle.rh_defs.specs.Chain.{left_of, no_answer}
pub use Rattle.rh_defs.specs.Heap.{Heap, Hole, IsTidy, Placed, Segment, Used, base, block_at, bytes_of, fitted, hole_for, is_block_at, placed_block}
pub use Rattle.rh_defs.specs.Heap.{release_block}
pub use Rattle.rh_defs.specs.Heap.{released_at, resized_by, segment_at, segment_size, shortage_in, size_of, way_to, with_hole}
pub use Rattle.rh_defs.specs.HeapImage.{Spells, Stand}
pub use Rattle.rh_defs.specs.HeapParts.{Await, HasRoom, HasStretch, LinksTo, last_link}
pub use Rattle.rh_defs.specs.Memory.{Memory}
pub use Rattle.rh_defs.specs.Pieces.{Split, first_at, is_inside, moved, total, zeros}
pub use Rattle.rh_defs.specs.Inner.NonePassing.{NonePass}
pub use Rattle.rh_defs.specs.declared.heap.HeapFault.TheVariants.{BadLink}
pub use Rattle.rh_defs.specs.declared.heap.HeapRefusal.{HeapRefusal}
pub use Rattle.rh_store.specs.Starts.{IsIndex, bit, hole_at, once, used_at}
pub use Rattle.rh_store.specs.declared.starts.TheConstants.{BITS, HOLES, USED}
pub use Rattle.rh_heap.specs.Holes.{FoundHole}
pub use Rattle.rh_heap.specs.HeapChecks.{listed}
pub use Rattle.rh_heap.specs.Segments.{FoundSegment, FoundBlock, GapIs, HereIs, Reached, a_gap, hole_here, no_gap, used_here}
pub use Rattle.rh_heap.specs.HeapSpans.{IsSpan, SpellsHeapIn, bytes_in, heap_in}
pub use Rattle.rh_heap.specs.HeapStarts.{Became, LastBit}
pub use Rattle.rh_heap.specs.Stretches.{IsStretch, Settles, StretchBetween}
pub use Rattle.rh_heap.specs.HeapWays.{WayIs, WithBlock, into_hole, resized_in}
pub use Rattle.rh_heap.specs.declared.span.Span.{Span}
pub use Rattle.rh_heap.specs.declared.span.holes.Gap.{Gap}
pub use Rattle.rh_heap.specs.declared.span.segments.Spot.{Spot}
pub use Rattle.rh_heap.specs.declared.span.stretch.Stretch.{Stretch}
