-- What callers see of a world: the desk, and beside it the bytes and the lengths of the store's areas, which spell it.
use Rattle.std.specs.Prelude.{◌≡◌, ℕ, ◌+◌, ◌*◌, ◌==◌, if◌then◌else◌, List, [], ◌∷◌, length, map, Option, Some, None}
use Rattle.std.specs.List.{enumerate_from}
use Rattle.rh_defs.specs.Pieces.{page_size, total}
use Rattle.rh_defs.specs.HeapImage.{IsImage}
use Rattle.rh_defs.specs.SlotImage.{SpellsSlot}
use Rattle.rh_defs.specs.Slot.{slot_start}
use Rattle.rh_defs.specs.Spans.{AreLaidOut, slot_spans, module_spans}
use Rattle.rh_defs.specs.Heap.{Heap}
use Rattle.rh_defs.specs.Messages.{Parcel}
use Rattle.rh_defs.specs.Post.{Post}
use Rattle.rh_defs.specs.Desk.{Desk, Task, Made, Scrap, module_pages, free_pages, module_area, module_start}
use Rattle.rh_wimp.specs.Chains.{AllLie, Apart, rows_of}
use Rattle.rh_wimp.specs.PostIn.{parcels_of, unlinked}

-- The desk; the bytes of the module area, and of each slot in order of handle; the lengths of areas 0 to 5 and of the
-- made areas in order of number; the scrap file's bytes, which are the first of area 5; the free pages; and which of the
-- store's areas these are: areas 0 to 5, the made areas in order of number, and the slots in order of handle.
pub record Shown : Type 0 where
  pub desk : Desk
  pub module_bytes : List ℕ
  pub slots : List (List ℕ)
  pub areas : List ℕ
  pub made : List ℕ
  pub scrap : List ℕ
  pub free : ℕ
  pub ids : List ℕ

-- all messages: for each seat those queued for it, and the one that it holds
abbrev pub messages_of : Post → List Parcel
messages_of post = parcels_of (rows_of post)

-- each list of bytes spells its task's slot
abbrev pub SpellSlots : List (List ℕ) → List Task → Type 0
SpellSlots [] [] = Unit {0}
SpellSlots (b ∷ bs) (t ∷ tasks) = SpellsSlot b t.slot × SpellSlots bs tasks
SpellSlots _ _ = ⊥

-- the bytes of one of areas 0 to 5, from its number and the pages that the desk's list has for it
abbrev pub length_of_area : Desk → ℕ × ℕ → ℕ
length_of_area d area = page_size * (if area.0 == module_area then module_pages d else area.1)

-- the bytes of the scrap file, none where there is none
abbrev pub scrap_bytes : Option Scrap → List ℕ
scrap_bytes None = []
scrap_bytes (Some file) = file.bytes

-- The bytes spell the post's heap, but for the link words of messages, which are 0 in the post's heap; there each message's
-- block has the message, and no two messages lie in one block.
pub record SpellsPost (b : List ℕ) (post : Post) : Type 0 where
  pub heap : Heap
  pub spelled : IsImage b heap
  pub but_links : unlinked (messages_of post) heap ≡ post.heap
  pub messages : AllLie post.heap (messages_of post)
  pub apart : Apart (messages_of post)

-- the bytes and lengths spell the desk
pub record IsSpelled (s : Shown) : Type 0 where
  pub module_area : SpellsPost s.module_bytes s.desk.post
  pub slots : SpellSlots s.slots s.desk.tasks
  pub areas : s.areas ≡ map (length_of_area s.desk) (enumerate_from 0 s.desk.areas)
  pub made : s.made ≡ map (λ (m : Made). page_size * m.pages) s.desk.made
  pub scrap : s.scrap ≡ scrap_bytes s.desk.scrap
  pub free : s.free ≡ free_pages s.desk

-- the free pages and those of all areas that are open, made ones and slots included, are the pool
abbrev pub ShowsBalance : Shown → Type 0
ShowsBalance s = page_size * s.free + (total (λ n. n) s.areas + (total (λ n. n) s.made + total length s.slots)) ≡ page_size * s.desk.pool

-- each task's blocks lie in its slot's bytes, and no two overlap
abbrev pub LieApart : List (List ℕ) → List Task → Type 0
LieApart [] [] = Unit {0}
LieApart (b ∷ bs) (t ∷ tasks) = AreLaidOut slot_start (length b) (slot_spans t.slot) × LieApart bs tasks
LieApart _ _ = ⊥

-- all live blocks lie in the areas of the store, and no two of one area overlap
pub record ShowsApartBlocks (s : Shown) : Type 0 where
  pub slots : LieApart s.slots s.desk.tasks
  pub module_area : AreLaidOut module_start (length s.module_bytes) (module_spans s.desk.post.heap)
