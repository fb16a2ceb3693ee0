-- The desk: the live tasks, the post, the areas, the scrap file, the files, and what is given next.
-- Read Slot, Post and Records first. d is a desk, t a task, h a handle, k an anchor, m a made area, l a letter, p a
-- post. `-` of naturals doesn't have to stop in *free_pages*: no desk of a run has more pages in use than its pool
-- (Laws). A step alone in a `do` counts for its refusal alone.
use Rattle.std.specs.Prelude.{ℕ, ◌+◌, ◌-◌, ◌/◌, Bool, ◌||◌, ◌==◌, if◌then◌else◌, List, [], ◌∷◌, length, Option, Some, None, find, Ok}
use Rattle.std.specs.List.{list_any}
use Rattle.std.specs.Str.{bytes_eq}
use Rattle.rh_defs.specs.declared.refusal.Refusal.TheVariants.{NoName, NotABlock, Busy}
use Rattle.rh_defs.specs.declared.command.Manner.{Manner}
use Rattle.rh_defs.specs.declared.message.Letter.{Letter}
use Rattle.rh_defs.specs.declared.transfer.Outgoing.{Outgoing}
use Rattle.rh_defs.specs.declared.transfer.Incoming.{Incoming}
use Rattle.rh_defs.specs.declared.sizes.TheConstants.{MADE_AREAS, MAX_TASKS, MODULE_START}
use Rattle.rh_defs.specs.Chain.{Granted, ◌>>=◌, ◌>>◌, refuse_if, found_or}
use Rattle.rh_defs.specs.Pieces.{page_size, total, Split}
use Rattle.rh_defs.specs.Heap.{Segment, Heap}
use Rattle.rh_defs.specs.Slot.{Slot, Flex, slot_pages, slot_block, heap_block_at}
use Rattle.rh_defs.specs.Files.{FileList}
use Rattle.rh_defs.specs.Records.{is_source, is_document, is_buffer_of}
use Rattle.rh_defs.specs.Post.{Post, post_is_live, post_send}

-- a live task; buffer is the size in bytes of its receive buffer, last_sent the last letter that it sent, with its ref
pub record Task : Type 0 where
  pub handle : ℕ
  pub name : List ℕ
  pub buffer : ℕ
  pub manner : Manner
  pub slot : Slot
  pub sending : List Outgoing
  pub taking : List Incoming
  pub last_sent : Option (Letter × ℕ)

-- an area made at run: its number, the most pages that it may have, and its pages
pub record Made : Type 0 where
  pub number : ℕ
  pub most : ℕ
  pub pages : ℕ

-- the scrap file: the ref of its DataLoad, and its bytes, which are the first of area 5
pub record Scrap : Type 0 where
  pub load : ℕ
  pub bytes : List ℕ

-- The live tasks in order of handle. Areas are the pages of areas 0 to 5, 0 for the module area, whose heap the post has;
-- the made areas stand in order of number; the pool is the number of all pages.
pub record Desk : Type 0 where
  pub tasks : List Task
  pub post : Post
  pub areas : List ℕ
  pub made : List Made
  pub scrap : Option Scrap
  pub pool : ℕ
  pub files : FileList
  pub next_handle : ℕ
  pub next_area : ℕ

-- at most so many tasks are live
abbrev pub most_tasks : ℕ
most_tasks = MAX_TASKS

-- so many made areas are live at most
abbrev pub most_made : ℕ
most_made = MADE_AREAS

-- the module area is area 1, and its first byte has this address
abbrev pub module_area : ℕ
module_area = 1

abbrev pub module_start : ℕ
module_start = MODULE_START

-- the scrap file lies in area 5
abbrev pub scrap_area : ℕ
scrap_area = 5

-- the bytes of a file, if there is one
abbrev pub file_length : Option Scrap → ℕ
file_length None = 0
file_length (Some file) = length file.bytes

-- the ref of the next message
abbrev pub next_ref : Desk → ℕ
next_ref d = d.post.next_ref

-- ---- pages

-- the pages of the module area
abbrev pub module_pages : Desk → ℕ
module_pages d = d.post.heap.end / page_size

-- the pages of a task's slot
abbrev pub task_pages : Task → ℕ
task_pages t = slot_pages t.slot

-- the pages of all areas and slots
abbrev pub used_pages : Desk → ℕ
used_pages d =
    total (λ pages. pages) d.areas + module_pages d + total (λ (m : Made). m.pages) d.made + total task_pages d.tasks

-- the rest of the pool is free
abbrev pub free_pages : Desk → ℕ
free_pages d = d.pool - used_pages d

-- ---- finding

-- whether a task has the name
abbrev pub has_name : List ℕ → Task → Bool
has_name name t = bytes_eq t.name name

-- the live task with the name
unfoldable pub named : List ℕ → Desk → Granted Task
named name d = found_or (find (has_name name) d.tasks) NoName

-- the live task with the handle
abbrev pub task_at : ℕ → Desk → Option Task
task_at h d = find (λ t. t.handle == h) d.tasks

-- a block is busy that is the source of an open transfer, or a document that grows
abbrev pub is_busy_block : ℕ → Task → Bool
is_busy_block k t = list_any (is_source k) t.sending || list_any (is_document k) t.taking

-- a block of the C heap is busy that is a transfer's buffer
abbrev pub is_busy_buffer : ℕ → Task → Bool
is_busy_buffer address t = list_any (is_buffer_of address) t.taking

-- the anchor's block, which isn't busy
unfoldable pub idle_block : ℕ → Task → Granted (Split Flex)
idle_block k t = do
  b ← slot_block k t.slot
  refuse_if (is_busy_block k t) Busy
  Ok b

-- the block of the C heap at the address, which isn't busy
unfoldable pub idle_buffer : ℕ → Task → Granted (Split Segment)
idle_buffer address t = do
  b ← found_or (heap_block_at address t.slot) NotABlock
  refuse_if (is_busy_buffer address t) Busy
  Ok b

-- ---- edits

-- the list with the task of the handle edited
abbrev pub edit_task : ℕ → (Task → Task) → List Task → List Task
edit_task h edit [] = []
edit_task h edit (t ∷ tasks) = if t.handle == h then edit t ∷ tasks else t ∷ edit_task h edit tasks

-- the desk with the task of the handle edited
unfoldable pub with_task : ℕ → (Task → Task) → Desk → Desk
with_task h edit d = record d { tasks = edit_task h edit d.tasks }

-- the desk with another slot for the task of the handle
abbrev pub with_slot : ℕ → Slot → Desk → Desk
with_slot h s d = with_task h (λ t. record t { slot = s }) d

-- the desk with other records of transfers that go out
abbrev pub with_sending : ℕ → (List Outgoing → List Outgoing) → Desk → Desk
with_sending h edit d = with_task h (λ t. record t { sending = edit t.sending }) d

-- the desk with other records of transfers that come in
abbrev pub with_taking : ℕ → (List Incoming → List Incoming) → Desk → Desk
with_taking h edit d = with_task h (λ t. record t { taking = edit t.taking }) d

-- the desk with another heap in its module area
abbrev pub with_module : Heap → Desk → Desk
with_module h d = record d { post = record d.post { heap = h } }

-- the desk with another post
abbrev pub with_post : Post → Desk → Desk
with_post p d = record d { post = p }

-- the scrap file, while its DataLoad is queued or held
abbrev pub kept_scrap : Post → Option Scrap → Option Scrap
kept_scrap p None = None
kept_scrap p (Some file) = if post_is_live file.load p then Some file else None

-- the desk with a post out of which messages went: a scrap file whose DataLoad is gone is given up
unfoldable pub with_delivered : Post → Desk → Desk
with_delivered p d = record d { post = p; scrap = kept_scrap p d.scrap }

-- the task's letter is sent, and is its last
unfoldable pub send_letter : Letter → Desk → Granted Desk
send_letter l d = do
  sent ← post_send (free_pages d) l d.post
  Ok (with_task l.from (λ t. record t { last_sent = Some (l, sent.1) }) (with_post sent.0 d))
