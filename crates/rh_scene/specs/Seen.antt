-- What is seen of a desk.
use Rattle.std.specs.Prelude.{◌≡◌, ℕ, ◌+◌, List, ◌∷◌, ◌++◌, length, slice_get, slice_index, Option, Some, None, false, if◌then◌else◌, ◌==◌}
use Rattle.std.specs.Option.{option_map}
use Rattle.std.specs.Borrow.{Bor}
use Rattle.rh_defs.specs.declared.question.BlockItem.{BlockItem}
use Rattle.rh_defs.specs.declared.message.Letter.{Letter}
use Rattle.rh_defs.specs.Heap.{Segment, Used, Heap, place_after}
use Rattle.rh_defs.specs.Questions.{block_items}
use Rattle.rh_defs.specs.Slot.{Flex, heap_start}
use Rattle.rh_defs.specs.Post.{post_is_message}
use Rattle.rh_defs.specs.Desk.{Desk, Task, Made, Scrap, task_pages, module_pages, module_area, module_start}
use Rattle.rh_figure.specs.Share.{Owner, AreaOf, SlotOf}
use Rattle.rh_scene.specs.declared.sight.TaskSight.{TaskSight}
use Rattle.rh_scene.specs.declared.sight.HeapOf.{HeapOf}
use Rattle.rh_scene.specs.declared.sight.HeapOf.TheVariants as heap_of
use Rattle.rh_scene.specs.declared.sight.PagesOf.{PagesOf}
use Rattle.rh_scene.specs.declared.sight.PagesOf.TheVariants as pages

-- a letter that was sent, with its ref
abbrev pub letter_seen : Bor Letter × ℕ → Letter × ℕ
letter_seen sent = (sent.0.now, sent.1)

-- what is seen of a task is so
pub record IsTaskSeen (s : TaskSight) (t : Task) : Type 0 where
  pub handle : s.handle ≡ t.handle
  pub name : s.name.now ≡ t.name
  pub buffer : s.buffer ≡ t.buffer
  pub manner : s.manner ≡ t.manner
  pub pages : s.pages ≡ task_pages t
  pub budging : s.budging ≡ t.slot.budging
  pub heap_end : s.heap_end ≡ t.slot.heap.end
  pub sending : s.sending.now ≡ t.sending
  pub taking : s.taking.now ≡ t.taking
  pub last_sent : option_map letter_seen s.last_sent ≡ t.last_sent

-- the heap that is looked at, where there is one
abbrev pub heap_seen : HeapOf → Desk → Option Heap
heap_seen (heap_of.Task i) d = option_map (λ (t : Task). t.slot.heap) (slice_get d.tasks i)
heap_seen heap_of.Module d = Some d.post.heap

-- where it begins
abbrev pub heap_start_of : HeapOf → ℕ
heap_start_of (heap_of.Task i) = heap_start
heap_start_of heap_of.Module = module_start

-- the handle by which the effect on a heap is told: that of its task, 0 for the module area's heap
abbrev pub handle_for : HeapOf → ℕ → ℕ
handle_for (heap_of.Task i) handle = handle
handle_for heap_of.Module handle = 0

-- a segment begins at the place, and is a block with these bytes
pub record IsBlockAt (h : Heap) (place : ℕ) (bytes : List ℕ) : Type 0 where
  pub below : List Segment
  pub above : List Segment
  pub whole : h.segments ≡ below ++ Used bytes ∷ above
  pub at : place ≡ place_after below

-- a heap is there, and a block with these bytes begins at the place in it
abbrev pub SeesBlock : Option Heap → ℕ → List ℕ → Type 0
SeesBlock None place bytes = ⊥
SeesBlock (Some h) place bytes = IsBlockAt h place bytes

-- a flex block of a task that may be there, as it is listed, has these bytes
pub record HasFlex (t : Option Task) (item : BlockItem) (bytes : List ℕ) : Type 0 where
  pub task : Task
  pub is : t ≡ Some task
  pub place : ℕ
  pub listed : slice_get (block_items task.slot) place ≡ Some item
  pub block : Flex
  pub stands : slice_get task.slot.blocks place ≡ Some block
  pub bytes_are : bytes ≡ block.bytes

-- no message lies in the block whose segment begins at the place
abbrev pub SeesFree : HeapOf → ℕ → Desk → Type 0
SeesFree (heap_of.Task i) place d = Unit {0}
SeesFree heap_of.Module place d = post_is_message (place + 4) d.post ≡ false

-- the area with the number has so many pages, those of the module area being told by its heap
abbrev pub IsAreaSeen : ℕ → ℕ → Desk → Type 0
IsAreaSeen number count d = count ≡ (if number == module_area then module_pages d else slice_index d.areas number)

-- who has the pages that are looked at, where there is such an owner
abbrev pub owner_seen : PagesOf → Desk → Option Owner
owner_seen (pages.Fixed number) d = option_map (λ _. AreaOf number) (slice_get d.areas number)
owner_seen (pages.Made i) d = option_map (λ (m : Made). AreaOf m.number) (slice_get d.made i)
owner_seen (pages.Slot i) d = option_map (λ (t : Task). SlotOf t.handle) (slice_get d.tasks i)

-- the scrap file's bytes, and the ref of its DataLoad
abbrev pub scrap_seen : Desk → Option (ℕ × ℕ)
scrap_seen d = option_map (λ (s : Scrap). (length s.bytes, s.load)) d.scrap
