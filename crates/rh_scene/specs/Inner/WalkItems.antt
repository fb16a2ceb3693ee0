-- What a walk over the items of a heap or a slot gathers.
use Rattle.std.specs.Prelude.{ℕ, ◌+◌, ◌≤◌, Bool, List, [], ◌∷◌}
use Rattle.rh_defs.specs.declared.question.BlockItem.{BlockItem}
use Rattle.rh_defs.specs.declared.question.SegmentItem.{SegmentItem}
use Rattle.rh_defs.specs.declared.question.SegmentItem.TheVariants as segment
use Rattle.rh_defs.specs.Slot.{slot_start, flex_weight}
use Rattle.rh_defs.specs.Desk.{module_start}
use Rattle.rh_figure.specs.Scene.{Scene}
use Rattle.rh_figure.specs.declared.piece.Kind.{Kind}
use Rattle.rh_figure.specs.declared.piece.Piece.{Piece}
use Rattle.rh_figure.specs.Layout.{Legend, slot_legend, module_legend, flex_piece, is_fresh_flex}
use Rattle.rh_scene.specs.declared.sight.HeapOf.{HeapOf}
use Rattle.rh_scene.specs.declared.sight.HeapOf.TheVariants as heap_of

-- the first address of the area that has the heap
abbrev pub area_start_of : HeapOf → ℕ
area_start_of (heap_of.Task i) = slot_start
area_start_of heap_of.Module = module_start

-- what the segments of a heap are, for the task with the handle or for the module area
abbrev pub legend_of : Scene → HeapOf → ℕ → Legend
legend_of x (heap_of.Task i) handle = slot_legend x handle
legend_of x heap_of.Module handle = module_legend x

-- what a block at an address is, and whether it has changed
abbrev pub kind_and_freshness : Legend → ℕ → ℕ → Kind × Bool
kind_and_freshness g address size = (g.kind_of address size, g.is_fresh address)

-- a segment lies in the area that has the heap
abbrev pub IsInArea : HeapOf → SegmentItem → Type 0
IsInArea heap (segment.Used address size) = area_start_of heap + 4 ≤ address
IsInArea heap (segment.Hole address size) = area_start_of heap ≤ address

-- how many bytes a flex block takes with its header
abbrev pub item_weight : BlockItem → ℕ
item_weight b = flex_weight b.size

-- flex blocks that lie from an offset on
abbrev pub item_pieces : Scene → ℕ → ℕ → List BlockItem → List Piece
item_pieces x h at [] = []
item_pieces x h at (b ∷ blocks) =
    flex_piece at b.anchor b.size (is_fresh_flex x h b.anchor b.size) ∷ item_pieces x h (at + item_weight b) blocks
