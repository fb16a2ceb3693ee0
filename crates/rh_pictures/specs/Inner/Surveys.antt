-- What a first walk over a heap finds: which blocks have changed, and how many segments there are.
use Rattle.std.specs.Prelude.{◌≡◌, ℕ, ◌+◌, ◌-◌, ◌==◌, ◌&&◌, nat_le, Bool, if◌then◌else◌, List, [], ◌∷◌, Option, Some, None}
use Rattle.rh_defs.specs.declared.question.SegmentItem.{SegmentItem}
use Rattle.rh_defs.specs.declared.question.SegmentItem.TheVariants as segment
use Rattle.rh_defs.specs.Messages.{Parcel}
use Rattle.rh_defs.specs.Heap.{Heap, first_place}
use Rattle.rh_defs.specs.Desk.{module_start}
use Rattle.rh_defs.specs.Questions.{segment_items_from}
use Rattle.rh_figure.specs.Scene.{Scene, message_of_scene}
use Rattle.rh_figure.specs.Layout.{is_fresh_block, is_new_message, vacates}
use Rattle.rh_figure.specs.declared.limits.TheConstants.{MOST_CARDS}
use Rattle.rh_scene.specs.declared.sight.HeapOf.{HeapOf}
use Rattle.rh_scene.specs.declared.sight.HeapOf.TheVariants as heap_of
use Rattle.rh_scene.specs.Seen.{handle_for, heap_start_of}
use Rattle.rh_pictures.specs.declared.walks.heap_cards.Band.{Band}
use Rattle.rh_pictures.specs.declared.walks.heap_cards.Survey.{Survey}

-- whether the command made or changed the block, by the message that may lie in it
abbrev pub is_fresh_or_posted : Scene → ℕ → Option Parcel → Bool
is_fresh_or_posted x address None = x.marks.module_block == address
is_fresh_or_posted x address (Some p) = is_new_message x (Some p)

-- whether the block at an address of a heap has changed
abbrev pub is_fresh_at : Scene → ℕ → HeapOf → ℕ → Bool
is_fresh_at x handle (heap_of.Task i) address = is_fresh_block x handle address
is_fresh_at x handle heap_of.Module address = is_fresh_or_posted x address (message_of_scene x (address - module_start))

abbrev pub is_fresh_card : Scene → Band → SegmentItem → Bool
is_fresh_card x b (segment.Used address size) = is_fresh_at x b.handle b.heap address
is_fresh_card x b (segment.Hole address size) = vacates (handle_for b.heap b.handle) address size x.marks.heap_effect

-- whether the block at an address of a heap, which is no message, has changed
abbrev pub is_fresh_block_of : Scene → ℕ → HeapOf → ℕ → Bool
is_fresh_block_of x handle (heap_of.Task i) address = is_fresh_block x handle address
is_fresh_block_of x handle heap_of.Module address = x.marks.module_block == address

abbrev pub is_fresh_used : Scene → Band → ℕ → Bool
is_fresh_used x b address = is_fresh_block_of x b.handle b.heap address

-- a survey with one more segment, of which it is known whether it has changed
abbrev pub with_item : SegmentItem → Bool → Survey → Survey
with_item item fresh s = record {
  count = s.count + 1;
  fresh = first_of s.fresh;
}
  where
    first_of : Option SegmentItem → Option SegmentItem
    first_of None = if nat_le (MOST_CARDS - 2) s.count && fresh then Some item else None
    first_of (Some found) = Some found

-- the survey with more segments
abbrev pub with_items : (SegmentItem → Bool) → List SegmentItem → Survey → Survey
with_items test [] s = s
with_items test (item ∷ items) s = with_items test items (with_item item (test item) s)

-- the survey of a whole heap
abbrev pub IsSurvey : Scene → Band → Heap → Survey → Type 0
IsSurvey x b h s =
    s ≡ with_items (is_fresh_card x b) (segment_items_from (heap_start_of b.heap + first_place) h.segments)
    (record { count = 0; fresh = None })
