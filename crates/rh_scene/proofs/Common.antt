-- Names that many of the proofs here cite, passed on in one place.
pub use Rattle.std.proofs.Common.{Bool, List, None, Option, Some, ap, ap₂, arith, drop, eq-eqb, eqb, false, get_or, length, refl, rules, subst, suc, sym}
pub use Rattle.std.proofs.Common.{take, true, zero, ℕ, [], ◌*◌, ◌++◌, ◌+◌, ◌-◌, ◌<◌, ◌∙◌, ◌∷◌, ◌≡◌, ◌≤◌}
pub use Rattle.std.proofs.lemmas.Bool.{eqb-true, ne_eqb}
pub use Rattle.std.proofs.lemmas.List.{append_assoc, length-append, length-take, map-append, take-append-drop, take_all}
pub use Rattle.std.proofs.lemmas.Option.{slice_get_within}
pub use Rattle.std.specs.List.{AllByRecursion, enumerate_from}
pub use Rattle.std.specs.Option.{option_map}
pub use Rattle.std.specs.Prelude.{IfSome, IsSome, filter, find, if◌then◌else◌, map, slice_get, slice_index, ◌&&◌, ◌==◌, ◌||◌}
pub use Rattle.rh_defs.proofs.Cuts.{total-append}
pub use Rattle.rh_defs.specs.Desk.{Desk, Made, Task, free_pages, task_pages}
pub use Rattle.rh_defs.specs.Heap.{Heap, Hole, Segment, Used, first_place, place_after, size_of}
pub use Rattle.rh_defs.specs.Laws.{IsDesk}
pub use Rattle.rh_defs.specs.Questions.{block_items, segment_item, segment_items_from}
pub use Rattle.rh_defs.specs.Pieces.{total}
pub use Rattle.rh_defs.specs.declared.question.BlockItem.{BlockItem}
pub use Rattle.rh_defs.specs.declared.message.MessageItem.{MessageItem}
pub use Rattle.rh_defs.specs.declared.question.SegmentItem.{SegmentItem}
pub use Rattle.rh_defs.specs.declared.sizes.TheConstants.{SEGMENTS_AT_ONCE}
pub use Rattle.rh_figure.specs.Layout.{Legend, heap_pieces, more_pieces, segment_pieces}
pub use Rattle.rh_figure.specs.Scene.{Scene}
pub use Rattle.rh_figure.specs.Share.{Holding, count_of, fixed_holding, holdings}
pub use Rattle.rh_figure.specs.declared.piece.Piece.{Piece}
pub use Rattle.rh_scene.specs.SightMessages.{lies_in}
pub use Rattle.rh_scene.specs.SightOwners.{holdings_of}
pub use Rattle.rh_scene.specs.Inner.Holdings.{made_holding, slot_holding}
pub use Rattle.rh_scene.specs.Seen.{heap_seen, heap_start_of, owner_seen}
pub use Rattle.rh_scene.specs.Steps.{scene_at}
pub use Rattle.rh_scene.specs.Walks.{ComesToRest, item_end}
pub use Rattle.rh_scene.specs.Inner.WalkItems.{area_start_of, item_pieces, item_weight, legend_of}
pub use Rattle.rh_scene.specs.declared.sight.HeapOf.{HeapOf}
pub use Rattle.rh_scene.specs.declared.walk.Census.{Census}
