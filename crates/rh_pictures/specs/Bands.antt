-- The cards of a heap: a task's C heap, or that of the module area.
use Rattle.std.specs.Prelude.{◌≡◌, ℕ, ◌+◌, false, List, [], slice_get, Option, Some, None}
use Rattle.rh_defs.specs.Heap.{Segment, Heap, first_place}
use Rattle.rh_defs.specs.Desk.{Desk, Task}
use Rattle.rh_figure.specs.Scene.{Scene}
use Rattle.rh_figure.specs.Cards.{Card, hole_card, heap_card, module_card, cards_from}
use Rattle.rh_scene.specs.declared.sight.HeapOf.{HeapOf}
use Rattle.rh_scene.specs.declared.sight.HeapOf.TheVariants as heap_of
use Rattle.rh_scene.specs.Seen.{heap_start_of}
use Rattle.rh_pictures.specs.declared.walks.heap_cards.Band.{Band}

-- a band is of the task at the place, or of the module area
abbrev pub IsBandFor : Desk → Band → HeapOf → Type 0
IsBandFor d b (heap_of.Task i) =
    (t : Task) × (slice_get d.tasks i ≡ Some t) × (b.handle ≡ t.handle) × (b.taking.now ≡ t.taking)
IsBandFor d b heap_of.Module = b.taking.now ≡ []

abbrev pub IsBandOf : Desk → Band → Type 0
IsBandOf d b = IsBandFor d b b.heap

-- the card of a segment of a task's heap at an address, a hole's where the task isn't there
abbrev pub card_of_task : Scene → Option Task → ℕ → Segment → Card
card_of_task x None address segment = hole_card address 0 false
card_of_task x (Some t) address segment = heap_card x t address segment

-- the card of a segment of a task's heap, or of the module area's, at an address
abbrev pub card_for : Scene → Desk → HeapOf → ℕ → Segment → Card
card_for x d (heap_of.Task i) = card_of_task x (slice_get d.tasks i)
card_for x d heap_of.Module = module_card x

abbrev pub band_card : Scene → Desk → Band → ℕ → Segment → Card
band_card x d b address segment = card_for x d b.heap address segment

-- the cards of all segments of a heap
abbrev pub band_cards : Scene → Desk → Band → Heap → List Card
band_cards x d b h = cards_from (band_card x d b) (heap_start_of b.heap + first_place) h.segments
