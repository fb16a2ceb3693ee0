-- What is read of a desk beside what its questions answer: tasks and made areas by their places, a task's blocks by its
-- handle, the module area, messages.
use Rattle.std.specs.Prelude.{◌≡◌, ℕ, ◌+◌, not, nat_lt, List, length, take, drop, Option, Some, None, Ok}
use Rattle.std.specs.Option.{option_copied, option_map}
use Rattle.rh_defs.specs.declared.refusal.Refusal.TheVariants.{NoTask, BadRange}
use Rattle.rh_defs.specs.declared.question.BlockItem.{BlockItem}
use Rattle.rh_defs.specs.declared.question.SegmentItem.{SegmentItem}
use Rattle.rh_defs.specs.Chain.{Granted, ◌>>=◌, ◌>>◌, refuse_if, found_or}
use Rattle.rh_defs.specs.Heap.{bytes_of, largest, free_bytes}
use Rattle.rh_defs.specs.Slot.{holds}
use Rattle.rh_defs.specs.Messages.{Parcel}
use Rattle.rh_defs.specs.Places.{bytes_held}
use Rattle.rh_defs.specs.Post.{post_poll}
use Rattle.rh_defs.specs.Desk.{Desk, Task, Made, Scrap, named, task_at, task_pages}
use Rattle.rh_defs.specs.Commands.{own_block}
use Rattle.rh_defs.specs.Questions.{block_items}
use Rattle.rh_tasks.specs.declared.sights.LiveTask.{LiveTask}
use Rattle.rh_tasks.specs.declared.sights.MadeSight.{MadeSight}
use Rattle.rh_tasks.specs.declared.scrap.ScrapFile.{ScrapFile}
use Rattle.rh_tasks.specs.WorldLists.{segment_items_at}
use Rattle.rh_tasks.specs.View.{last_of}

-- ---- a task

-- what is seen is the task
pub record IsSightOf (s : LiveTask) (t : Task) : Type 0 where
  pub handle : s.handle ≡ t.handle
  pub name : s.name.now ≡ t.name
  pub buffer : s.buffer ≡ t.buffer
  pub manner : s.manner ≡ t.manner
  pub pages : s.pages ≡ task_pages t
  pub budging : s.budging ≡ t.slot.budging
  pub heap : s.heap ≡ (t.slot.heap.end, largest t.slot.heap, free_bytes t.slot.heap)
  pub sending : s.sending.now ≡ t.sending
  pub taking : s.taking.now ≡ t.taking
  pub last_sent : option_map last_of (option_copied s.last_sent) ≡ t.last_sent

-- a task is seen where there is one
abbrev pub IsSeen : Option LiveTask → Option Task → Type 0
IsSeen None None = Unit {0}
IsSeen (Some s) (Some t) = IsSightOf s t
IsSeen _ _ = ⊥

-- ---- a task's blocks, by its handle

-- its flex blocks from below
unfoldable pub blocks_in : Desk → ℕ → Granted (List BlockItem)
blocks_in d handle = do
  t ← found_or (task_at handle d) NoTask
  Ok (block_items t.slot)

-- up to 64 segments of its C heap, from the one that begins at a place on
unfoldable pub segments_in : Desk → ℕ → ℕ → Granted (List SegmentItem)
segments_in d handle place = do
  t ← found_or (task_at handle d) NoTask
  Ok (segment_items_at place t.slot.heap)

-- n bytes at an address of its slot, in the block that holds them
unfoldable pub slot_bytes : Desk → ℕ → ℕ → ℕ → Granted (List ℕ)
slot_bytes d handle address n = do
  t ← found_or (task_at handle d) NoTask
  refuse_if (not (holds address n t.slot)) BadRange
  Ok (bytes_held address n t.slot)

-- how many bytes are asked for at an address of the slot of the task with the name, where one live block has them
abbrev pub size_read : Desk → List ℕ → ℕ → ℕ → Granted ℕ
size_read d name address n = named name d >>= λ t. refuse_if (not (holds address n t.slot)) BadRange >> Ok n

-- n bytes at an address of the slot of the task with the name
unfoldable pub bytes_read : Desk → List ℕ → ℕ → ℕ → Granted (List ℕ)
bytes_read d name address n = do
  t ← named name d
  refuse_if (not (holds address n t.slot)) BadRange
  Ok (bytes_held address n t.slot)

-- ---- the module area

-- the size of a block that a command claimed there, and n of its bytes from an offset on
unfoldable pub module_shown : Desk → ℕ → ℕ → ℕ → Granted (ℕ × List ℕ)
module_shown d address offset n = do
  b ← own_block address d
  refuse_if (nat_lt (length (bytes_of b.here)) (offset + n)) BadRange
  Ok (length (bytes_of b.here), take n (drop offset (bytes_of b.here)))

-- ---- messages, made areas, the scrap file

-- the message that the task's next poll would hand out, as it would then be
unfoldable pub next_message : Desk → List ℕ → Granted (Option Parcel)
next_message d name = do
  t ← named name d
  Ok (post_poll t.handle d.post).1

-- a made area
abbrev pub made_of_sight : MadeSight → Made
made_of_sight s = record { number = s.number; most = s.most; pages = s.pages }

-- the scrap file, by the length of its bytes
abbrev pub scrap_file_of : Scrap → ScrapFile
scrap_file_of s = record { load = s.load; size = length s.bytes }
