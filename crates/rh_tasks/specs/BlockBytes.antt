-- Bytes of a live block that is told by its address: a task's block of either kind, or one of the module area.
use Rattle.std.specs.Prelude.{ℕ, ◌+◌, ◌-◌, ◌==◌, nat_lt, List, length, take, drop, find, Option, Some, None, Ok}
use Rattle.std.specs.Option.{option_map}
use Rattle.rh_defs.specs.declared.question.BlockItem.{BlockItem}
use Rattle.rh_defs.specs.declared.refusal.Refusal.TheVariants.{BadRange, NotABlock}
use Rattle.rh_defs.specs.declared.reply.Reply.TheVariants as reply
use Rattle.rh_defs.specs.Blocks.{block_bytes, poked}
use Rattle.rh_defs.specs.Chain.{Granted, ◌>>=◌, ◌>>◌, found_or, refuse_if}
use Rattle.rh_defs.specs.Commands.{Answer, own_block, put}
use Rattle.rh_defs.specs.Desk.{Desk, idle_buffer, module_start, named, with_module, with_slot}
use Rattle.rh_defs.specs.Heap.{Heap}
use Rattle.rh_defs.specs.Questions.{shown_at}
use Rattle.rh_defs.specs.Slot.{Slot, heap_start, with_heap}
use Rattle.rh_tasks.specs.WorldLists.{blocks_of}

-- ---- which kind

-- the anchor of the flex block that begins at an address of the task's slot, if one does
unfoldable pub anchor_at : Desk → List ℕ → ℕ → Granted (Option ℕ)
anchor_at d name address = do
  items ← blocks_of d name
  Ok (option_map (λ (b : BlockItem). b.anchor) (find (λ (b : BlockItem). b.address == address) items))

-- ---- read

-- the size of the block at an address of the task's C heap, and n of its bytes from an offset on
unfoldable pub heap_shown : Desk → List ℕ → ℕ → ℕ → ℕ → Granted (ℕ × List ℕ)
heap_shown d name address offset n = do
  t ← named name d
  old ← found_or (block_bytes (address - heap_start) t.slot.heap) NotABlock
  refuse_if (nat_lt (length old) (offset + n)) BadRange
  Ok (length old, take n (drop offset old))

-- the size and n bytes of an anchor's block, or where there is no anchor of the C heap's block at the address
abbrev pub shown_there : Option ℕ → Desk → List ℕ → ℕ → ℕ → ℕ → Granted (ℕ × List ℕ)
shown_there (Some k) d name address offset n = shown_at d name k offset n
shown_there None d name address offset n = heap_shown d name address offset n

-- the size and n bytes of the task's block at an address: a flex block, or one of the C heap
unfoldable pub block_shown : Desk → List ℕ → ℕ → ℕ → ℕ → Granted (ℕ × List ℕ)
block_shown d name address offset n = do
  k ← anchor_at d name address
  shown_there k d name address offset n

-- ---- written

-- bytes written into the block at an address of a heap, from an offset on
unfoldable pub heap_written : ℕ → ℕ → List ℕ → Heap → Granted Heap
heap_written address offset bytes h = do
  old ← found_or (block_bytes address h) NotABlock
  refuse_if (nat_lt (length old) (offset + length bytes)) BadRange
  Ok (poked address offset bytes h)

-- bytes written into the block at an address of a slot's C heap, from an offset on
unfoldable pub slot_written : ℕ → ℕ → List ℕ → Slot → Granted Slot
slot_written address offset bytes s = do
  h ← heap_written (address - heap_start) offset bytes s.heap
  Ok (with_heap h s)

-- a block of the task's C heap is written as `put` writes an anchor's
unfoldable pub heap_put : Desk → List ℕ → ℕ → ℕ → List ℕ → Granted Answer
heap_put d name address offset bytes = do
  t ← named name d
  _ ← idle_buffer address t
  s ← slot_written address offset bytes t.slot
  Ok (with_slot t.handle s d, reply.Done)

-- an anchor's block is put, or where there is no anchor the C heap's block at the address
abbrev pub put_there : Option ℕ → Desk → List ℕ → ℕ → ℕ → List ℕ → Granted Answer
put_there (Some k) d name address offset bytes = put d name k offset bytes
put_there None d name address offset bytes = heap_put d name address offset bytes

-- the task's block at an address, of either kind, is written
unfoldable pub block_written : Desk → List ℕ → ℕ → ℕ → List ℕ → Granted Answer
block_written d name address offset bytes = do
  k ← anchor_at d name address
  put_there k d name address offset bytes

-- a block of the module area that holds no message is written
unfoldable pub module_written : Desk → ℕ → ℕ → List ℕ → Granted Answer
module_written d address offset bytes = do
  _ ← own_block address d
  h ← heap_written (address - module_start) offset bytes d.post.heap
  Ok (with_module h d, reply.Done)
