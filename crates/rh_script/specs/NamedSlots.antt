-- What the slot of a named task has, where a desk with no such task has a slot with nothing in it.
use Rattle.std.specs.Prelude.{◌≡◌, ℕ, true, List, [], length, Option, Some, None, find, Ok}
use Rattle.rh_defs.specs.Heap.{Heap, empty_heap, first_place}
use Rattle.rh_defs.specs.Pieces.{Split}
use Rattle.rh_defs.specs.Slot.{Slot, Flex, block_of}
use Rattle.rh_defs.specs.Places.{bytes_held}
use Rattle.rh_defs.specs.Desk.{Desk, Task, has_name}
use Rattle.rh_tasks.specs.Sights.{bytes_read}

-- the task's slot, or one with no block and an empty C heap
abbrev pub slot_or_empty : Option Task → Slot
slot_or_empty None = record { heap = empty_heap first_place; blocks = []; budging = true }
slot_or_empty (Some t) = t.slot

-- the slot of the task with the name
abbrev pub slot_named : List ℕ → Desk → Slot
slot_named name d = slot_or_empty (find (has_name name) d.tasks)

-- its C heap
abbrev pub heap_of_named : List ℕ → Desk → Heap
heap_of_named name d = (slot_named name d).heap

-- the bytes of a flex block, none where there is no block
abbrev pub bytes_of_cut : Option (Split Flex) → List ℕ
bytes_of_cut None = []
bytes_of_cut (Some b) = b.here.bytes

-- the bytes of the slot's flex block at an anchor, none where there is no block
abbrev pub bytes_of_named : List ℕ → ℕ → Desk → List ℕ
bytes_of_named name k d = bytes_of_cut (block_of k (slot_named name d))

-- n bytes at an address of the slot
abbrev pub bytes_named_at : List ℕ → ℕ → ℕ → Desk → List ℕ
bytes_named_at name x n d = bytes_held x n (slot_named name d)

-- they are whole in one live block
pub record AreHeld (name : List ℕ) (x n : ℕ) (d : Desk) : Type 0 where
  pub read : bytes_read d name x n ≡ Ok (bytes_named_at name x n d)
  pub long : length (bytes_named_at name x n d) ≡ n
