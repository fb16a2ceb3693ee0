-- What holds of every desk of a run, and of all bytes that spell a heap or a slot. Read Runs, Blocks and SlotImage
-- first. d is a desk, t a task, m a made area, s a seat or a slot, p a message in its block, h a heap before a call and
-- k the one after; least and next bound numbers that go up: from least on, below next.
use Rattle.std.specs.Prelude.{ℕ, ◌+◌, ◌*◌, ◌^◌, ◌<◌, ◌≤◌, ◌≡◌, true, Some, Ok, List, [], ◌∷◌, length, map, slice_index, IfSome}
use Rattle.std.specs.List.{AllByRecursion}
use Rattle.rh_defs.specs.declared.command.Command.{Command}
use Rattle.rh_defs.specs.declared.sizes.TheConstants.{FIXED_AREAS, MIN_PAGES}
use Rattle.rh_defs.specs.Forms.{most_pages, first_made, last_made}
use Rattle.rh_defs.specs.Pieces.{page_size, zeros}
use Rattle.rh_defs.specs.Bytes.{with_part}
use Rattle.rh_defs.specs.Heap.{Heap, block_room}
use Rattle.rh_defs.specs.Blocks.{block_bytes, poked, PutsBlock, Frees, Pokes}
use Rattle.rh_defs.specs.HeapImage.{IsImage, Spells, heap_of}
use Rattle.rh_defs.specs.Module.{FillsPages, module_claim, module_free}
use Rattle.rh_defs.specs.Range.{all_in_range}
use Rattle.rh_defs.specs.Files.{FileList}
use Rattle.rh_defs.specs.Slot.{Slot, IsSlot, slot_start, slot_pages}
use Rattle.rh_defs.specs.SlotImage.{SpellsSlot, slot_of}
use Rattle.rh_defs.specs.Messages.{Parcel, is_recorded}
use Rattle.rh_defs.specs.Post.{Seat, Post, most_messages, has_seat, live_count}
use Rattle.rh_defs.specs.Desk.{Desk, Task, Made, most_tasks, module_pages, used_pages, free_pages, module_area, module_start, scrap_area, most_made, file_length}
use Rattle.rh_defs.specs.Runs.{start_with, after}
use Rattle.rh_defs.specs.Spans.{AreLaidOut, slot_spans, module_spans}

-- ---- what every command keeps of a desk

-- the members' numbers go up, from the least one on, and stay below the next one
abbrev pub Rise : {A : Type 0} → (A → ℕ) → ℕ → ℕ → List A → Type 0
Rise number least next [] = least ≤ next
Rise number least next (x ∷ xs) = (least ≤ number x) × Rise number (number x + 1) next xs

-- the tasks' handles go up
abbrev pub Ascend : ℕ → ℕ → List Task → Type 0
Ascend least next tasks = Rise (λ (t : Task). t.handle) least next tasks

-- the handles of tasks, and those of seats, in their order
abbrev pub task_handles : List Task → List ℕ
task_handles tasks = map (λ (t : Task). t.handle) tasks

abbrev pub seat_handles : List Seat → List ℕ
seat_handles seats = map (λ (s : Seat). s.handle) seats

-- a queued message has a ref that was given, and is for a live handle
pub record IsQueued (next : ℕ) (seats : List Seat) (p : Parcel) : Type 0 where
  pub given : p.message.my_ref < next
  pub live : has_seat p.to seats ≡ true

-- a held message has a ref that was given, and is a recorded one for the handle that holds it
pub record IsHeld (next h : ℕ) (p : Parcel) : Type 0 where
  pub given : p.message.my_ref < next
  pub own : p.to ≡ h
  pub recorded : is_recorded p.code ≡ true

-- the seat holds such a message, or none
abbrev pub HoldsOwn : ℕ → Seat → Type 0
HoldsOwn next s = IfSome s.holds (IsHeld next s.handle)

-- what every call keeps of a post
pub record IsPost (post : Post) : Type 0 where
  pub heap : FillsPages post.heap
  pub few : live_count post ≤ most_messages
  pub refs : post.next_ref ≤ 2 ^ 32
  pub queued : AllByRecursion (IsQueued post.next_ref post.seats) post.queued
  pub held : AllByRecursion (HoldsOwn post.next_ref) post.seats

-- areas 0 to 5, where the module area's pages are told by its heap
pub record AreFixed (areas : List ℕ) : Type 0 where
  pub six : length areas ≡ FIXED_AREAS
  pub module_area : slice_index areas module_area ≡ 0

-- the made areas stand in order of number, and none is larger than it may be
pub record AreMade (next : ℕ) (made : List Made) : Type 0 where
  pub few : length made ≤ most_made
  pub numbers : Rise (λ (m : Made). m.number) first_made next made
  pub last : next ≤ last_made + 1
  pub sizes : AllByRecursion (λ (m : Made). m.pages ≤ m.most) made

-- what every command keeps of a desk
pub record IsDesk (d : Desk) : Type 0 where
  pub pool : d.pool ≤ most_pages
  pub pages : used_pages d ≤ d.pool
  pub handles : Ascend 0 d.next_handle d.tasks
  pub last : d.next_handle ≤ 2 ^ 32
  pub few : length d.tasks ≤ most_tasks
  pub slots : AllByRecursion (λ t. IsSlot t.slot) d.tasks
  pub seats : seat_handles d.post.seats ≡ task_handles d.tasks
  pub post : IsPost d.post
  pub areas : AreFixed d.areas
  pub made : AreMade d.next_area d.made
  pub scrap : file_length d.scrap ≤ page_size * slice_index d.areas scrap_area

-- the free pages and those of all areas and slots are the pool's
abbrev pub IsBalanced : Desk → Type 0
IsBalanced d = free_pages d + used_pages d ≡ d.pool

-- The live blocks lie in their slots and in the module area, and no two of one overlap.
pub record HasApartBlocks (d : Desk) : Type 0 where
  pub slots : AllByRecursion (λ t. AreLaidOut slot_start (page_size * slot_pages t.slot) (slot_spans t.slot)) d.tasks
  pub module_area : AreLaidOut module_start (page_size * module_pages d) (module_spans d.post.heap)

-- what a run starts from: a pool of as many pages as there may be, and a next handle and ref from 1 up to the last 32-bit word
pub record IsStart (pool handle ref : ℕ) : Type 0 where
  pub least : MIN_PAGES ≤ pool
  pub most : pool ≤ most_pages
  pub first_handle : 1 ≤ handle
  pub last_handle : handle < 2 ^ 32
  pub first_ref : 1 ≤ ref
  pub last_ref : ref < 2 ^ 32

-- P holds of the desk after each list of commands in range, from each start
abbrev pub Always : (Desk → Type 0) → Type 0
Always P =
    (pool handle ref : ℕ) (files : FileList) (commands : List Command) → IsStart pool handle ref →
    all_in_range commands ≡ true → P (after (start_with pool files handle ref) commands)

-- bytes that spell a heap spell the one that is read from them, and no other
abbrev pub HaveOneHeap : Type 0
HaveOneHeap = (b : List ℕ) (at : ℕ) (h : Heap) → Spells b at h → heap_of b at ≡ h

-- bytes that spell a slot spell the one that is read from them, and no other; they don't say whether budging is on
abbrev pub HaveOneSlot : Type 0
HaveOneSlot = (b : List ℕ) (s : Slot) → SpellsSlot b s → slot_of s.budging b ≡ s

-- ---- blocks by their addresses

-- a block that is claimed is a new one of zeros, and no other changes
abbrev pub ClaimsOne : Type 0
ClaimsOne =
    (free n : ℕ) (h k : Heap) (address : ℕ) → module_claim free n h ≡ Ok (k, address) → PutsBlock (zeros (block_room n)) h k address

-- a block that is freed is gone, and no other changes
abbrev pub FreesOne : Type 0
FreesOne = (address : ℕ) (h k : Heap) → module_free address h ≡ Ok k → Frees address h k

-- bytes that are written inside a block change it alone, and where the heap was spelled, the one with that block is
abbrev pub WritesOne : Type 0
WritesOne =
    (b : List ℕ) (h : Heap) (address offset : ℕ) (old bytes : List ℕ) → IsImage b h → block_bytes address h ≡ Some old →
    offset + length bytes ≤ length old →
    IsImage (with_part b (address + offset) bytes) (poked address offset bytes h)
    × Pokes address (with_part old offset bytes) h (poked address offset bytes h)
