-- The desk that the seats, the made areas and the store's memory spell, and what holds of every world.
use Rattle.std.specs.Prelude.{◌≡◌, ◌≢◌, ◌==◌, ℕ, ◌+◌, ◌/◌, ◌≤◌, List, [], ◌∷◌, ◌++◌, length, map, take, if◌then◌else◌, Option, Some, None, Bool}
use Rattle.std.specs.List.{AllByRecursion}
use Rattle.std.specs.Option.{option_map}
use Rattle.std.specs.Str.{bytes_eq}
use Rattle.rh_defs.specs.Memory.{Memory, IsOpen, bytes, open_below}
use Rattle.rh_defs.specs.Pieces.{page_size}
use Rattle.rh_defs.specs.Files.{FileList}
use Rattle.rh_defs.specs.Post.{Post, post_is_live}
use Rattle.rh_defs.specs.Desk.{Desk, Task, Made, Scrap, scrap_area, used_pages}
use Rattle.rh_defs.specs.Laws.{IsDesk}
use Rattle.rh_defs.specs.declared.message.Letter.{Letter}
use Rattle.rh_defs.specs.declared.sizes.TheConstants.{FIXED_AREAS, MAX_AREAS}
use Rattle.rh_module.specs.declared.module.Module.{Module}
use Rattle.rh_module.specs.ModuleArea.{IsModule}
use Rattle.rh_slot.specs.SlotArea.{IsSlotIn, slot_in}
use Rattle.rh_wimp.specs.QueueCalls.{IsQueue}
use Rattle.rh_wimp.specs.Chains.{Chains}
use Rattle.rh_wimp.specs.PostIn.{post_in}
use Rattle.rh_tasks.specs.declared.seat.Seat.{Seat}
use Rattle.rh_tasks.specs.declared.seat.SentLetter.{SentLetter}
use Rattle.rh_tasks.specs.declared.made.MadeArea.{MadeArea}
use Rattle.rh_tasks.specs.declared.next_numbers.NextNumbers.{NextNumbers}
use Rattle.rh_tasks.specs.declared.scrap.ScrapFile.{ScrapFile}
use Rattle.rh_tasks.specs.Shown.{Shown}

-- ---- the desk

-- areas 0 to 5 are the store's areas of these numbers, and area 1 is the module area
abbrev pub the_module : Module
the_module = record { area = record { 0 = 1 } }

abbrev pub fixed : List ℕ
fixed = 0 ∷ 1 ∷ 2 ∷ 3 ∷ 4 ∷ 5 ∷ []

-- how many pages an area has
unfoldable pub pages_at : Memory → ℕ → ℕ
pages_at m id = length (bytes m id) / page_size

-- what a seat has of the last letter that its task sent
abbrev pub last_of : SentLetter → Letter × ℕ
last_of sent = (sent.letter, sent.my_ref)

-- a seat's task
unfoldable pub task_of : Memory → Seat → Task
task_of m s = record {
  handle = s.handle;
  name = s.name;
  buffer = s.buffer;
  manner = s.manner;
  slot = slot_in m s.slot;
  sending = s.sending;
  taking = s.taking;
  last_sent = option_map last_of s.last_sent;
}

-- a made area as the desk has it
unfoldable pub made_of : Memory → MadeArea → Made
made_of m a = record { number = a.number; most = a.most; pages = pages_at m a.area.0 }

-- the pages of areas 0 and 2 to 5; the module area's are told by its heap
unfoldable pub fixed_pages : Memory → List ℕ
fixed_pages m = pages_at m 0 ∷ 0 ∷ pages_at m 2 ∷ pages_at m 3 ∷ pages_at m 4 ∷ pages_at m 5 ∷ []

-- what is kept beside seats, made areas and files: the numbers given next, the queue's entries, and the scrap file
pub record Kept : Type 0 where
  pub next : NextNumbers
  pub queue : Chains
  pub scrap : Option ScrapFile

abbrev pub kept_of : NextNumbers → Chains → Option ScrapFile → Kept
kept_of next queue scrap = record { next = next; queue = queue; scrap = scrap }

-- the bytes of the scrap file, none where there is none
abbrev pub scrap_size : Option ScrapFile → ℕ
scrap_size None = 0
scrap_size (Some file) = file.size

-- the scrap file, while its DataLoad is queued or held
abbrev pub kept_file : Post → Option ScrapFile → Option ScrapFile
kept_file post None = None
kept_file post (Some file) = if post_is_live file.load post then Some file else None

-- the scrap file as the desk has it, from the bytes of its area
abbrev pub scrap_from : List ℕ → ScrapFile → Scrap
scrap_from b file = record { load = file.load; bytes = take file.size b }

unfoldable pub scrap_of : Memory → Option ScrapFile → Option Scrap
scrap_of m scrap = option_map (scrap_from (bytes m scrap_area)) scrap

-- the desk
abbrev pub desk_of : Memory → List Seat → List MadeArea → FileList → Kept → Desk
desk_of m seats made files kept = record {
  tasks = map (task_of m) seats;
  post = post_in m the_module kept.queue;
  areas = fixed_pages m;
  made = map (made_of m) made;
  scrap = scrap_of m kept.scrap;
  pool = m.pages;
  files = files;
  next_handle = kept.next.handle;
  next_area = kept.next.area;
}

-- the area of a seat's slot
abbrev pub slot_area : Seat → ℕ
slot_area s = s.slot.area.0

-- the area of a made area
abbrev pub made_area : MadeArea → ℕ
made_area a = a.area.0

-- the store's areas in the order of a list of areas: areas 0 to 5, the made ones and the slots
abbrev pub ids_of : List Seat → List MadeArea → List ℕ
ids_of seats made = (fixed ++ map made_area made) ++ map slot_area seats

-- the desk, the bytes and lengths of the areas, and which they are
abbrev pub shown_of : Memory → List Seat → List MadeArea → FileList → Kept → Shown
shown_of m seats made files kept = record {
  desk = desk_of m seats made files kept;
  module_bytes = bytes m 1;
  slots = map (λ (s : Seat). bytes m s.slot.area.0) seats;
  areas = map (λ id. length (bytes m id)) fixed;
  made = map (λ (a : MadeArea). length (bytes m a.area.0)) made;
  scrap = take (scrap_size kept.scrap) (bytes m scrap_area);
  free = m.free;
  ids = ids_of seats made;
}

-- ---- what holds of every world

-- an area is none of these
abbrev pub Avoids : ℕ → List ℕ → Type 0
Avoids id ids = AllByRecursion (λ other. other ≢ id) ids

-- no two are one
abbrev pub AreDistinct : List ℕ → Type 0
AreDistinct [] = Unit {0}
AreDistinct (id ∷ ids) = Avoids id ids × AreDistinct ids

-- a seat's area holds a slot
abbrev pub HasSlot : Memory → Seat → Type 0
HasSlot m s = IsSlotIn m s.slot

-- an area is none of areas 0 to 5
abbrev pub IsAbove : ℕ → Type 0
IsAbove id = FIXED_AREAS ≤ id

-- the store's open areas are areas 0 to 5, those of the seats' slots, and the made ones
pub record HasAreas (m : Memory) (seats : List Seat) (made : List MadeArea) : Type 0 where
  pub fixed_open : AllByRecursion (IsOpen m) fixed
  pub module_area : IsModule m the_module
  pub slots : AllByRecursion (HasSlot m) seats
  pub made_open : AllByRecursion (λ (a : MadeArea). IsOpen m a.area.0) made
  pub slots_above : AllByRecursion (λ (s : Seat). IsAbove s.slot.area.0) seats
  pub made_above : AllByRecursion (λ (a : MadeArea). IsAbove a.area.0) made
  pub slots_apart : AreDistinct (map slot_area seats)
  pub made_apart : AreDistinct (map made_area made)
  pub beside : AllByRecursion (λ (s : Seat). Avoids s.slot.area.0 (map made_area made)) seats
  pub count : open_below m.area MAX_AREAS ≡ FIXED_AREAS + length seats + length made

-- whether a seat has the name
abbrev pub is_named : List ℕ → Seat → Bool
is_named name s = bytes_eq s.name name

-- what holds of every world
pub record IsWorld (m : Memory) (seats : List Seat) (made : List MadeArea) (files : FileList) (kept : Kept) : Type 0 where
  pub desk : IsDesk (desk_of m seats made files kept)
  pub areas : HasAreas m seats made
  pub queue : IsQueue m the_module kept.queue
  pub scrap : scrap_size kept.scrap ≤ length (bytes m scrap_area)
  pub ledger : m.free + used_pages (desk_of m seats made files kept) ≡ m.pages

-- whether a made area has the number
abbrev pub has_number : ℕ → MadeArea → Bool
has_number k a = a.number == k
