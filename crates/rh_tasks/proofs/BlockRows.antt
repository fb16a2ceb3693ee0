-- Worked blocks that are told by their addresses: the definitions compute what is read of them and written.
use Rattle.rh_tasks.proofs.Common.{◌≡◌, refl, [], ◌∷◌, codes, Some, None, Ok, Err, Slot, Desk, Heap, Used, Hole, NoName, with_slot}
use Rattle.rh_defs.specs.Bytes.{with_part}
use Rattle.rh_defs.specs.Desk.{with_module}
use Rattle.rh_defs.specs.Messages.{Parcel}
use Rattle.rh_defs.specs.Inner.Computing.{computing_chain, computing_commands, computing_desk, computing_post, computing_slot}
use Rattle.rh_defs.specs.Questions.{shown_at}
use Rattle.rh_defs.specs.Slot.{with_heap}
use Rattle.rh_defs.specs.declared.refusal.Refusal.TheVariants.{BadRange, NotABlock, NotYours}
use Rattle.rh_defs.specs.declared.reply.Reply.TheVariants as reply
use Rattle.rh_defs.proofs.BlockRows.{two_blocks}
use Rattle.rh_tasks.specs.BlockBytes.{anchor_at, block_shown, block_written, heap_put, heap_shown, heap_written, module_written, slot_written}
use Rattle.rh_tasks.specs.WorldLists.{blocks_of}
use Rattle.rh_tasks.proofs.Examples.{one_task, two_by_two}

-- ---- which kind

-- at &8138 lies the block of anchor 7, at &8114 one of the C heap
anchors : (anchor_at one_task (codes "a") 0x8138 ≡ Ok (Some 7)) × (anchor_at one_task (codes "a") 0x8114 ≡ Ok None)
unfolding computing_chain computing_desk blocks_of anchor_at
anchors = (refl, refl)

anchor_of_nobody : anchor_at one_task (codes "b") 0x8138 ≡ Err NoName
unfolding computing_chain computing_desk blocks_of anchor_at
anchor_of_nobody = refl

-- ---- read

-- three bytes of five, and two of four
shown : (block_shown one_task (codes "a") 0x8138 1 3 ≡ Ok (5, 2 ∷ 3 ∷ 4 ∷ [])) × (block_shown one_task (codes "a") 0x8124 1 2 ≡ Ok (4, 6 ∷ 7 ∷ []))
unfolding computing_chain computing_slot computing_desk shown_at blocks_of anchor_at heap_shown block_shown
shown = (refl, refl)

-- up to a block's end, and a byte more
shown_to_the_end : (block_shown one_task (codes "a") 0x8124 1 3 ≡ Ok (4, 6 ∷ 7 ∷ 8 ∷ [])) × (block_shown one_task (codes "a") 0x8124 1 4 ≡ Err BadRange)
unfolding computing_chain computing_slot computing_desk shown_at blocks_of anchor_at heap_shown block_shown
shown_to_the_end = (refl, refl)

-- a hole, and a place inside a block, are no blocks
no_block_shown : (block_shown one_task (codes "a") 0x8118 0 0 ≡ Err NotABlock) × (block_shown one_task (codes "a") 0x8139 0 0 ≡ Err NotABlock)
unfolding computing_chain computing_slot computing_desk shown_at blocks_of anchor_at heap_shown block_shown
no_block_shown = (refl, refl)

-- ---- written

-- the two blocks with 9 and 10 behind the first byte of the second
abbrev written_blocks : Heap
written_blocks = record two_blocks { segments = Used (1 ∷ 2 ∷ 3 ∷ 4 ∷ []) ∷ Hole 8 ∷ Used (5 ∷ 9 ∷ 10 ∷ 8 ∷ []) ∷ [] }

in_a_heap : (heap_written 36 1 (9 ∷ 10 ∷ []) two_blocks ≡ Ok written_blocks) × (heap_written 36 3 (9 ∷ 10 ∷ []) two_blocks ≡ Err BadRange)
    × (heap_written 24 0 [] two_blocks ≡ Err NotABlock)
unfolding computing_chain with_part heap_written
in_a_heap = (refl, refl, refl)

in_a_slot : block_written one_task (codes "a") 0x8124 1 (9 ∷ 10 ∷ []) ≡ Ok (with_slot 1 (with_heap written_blocks two_by_two) one_task, reply.Done)
unfolding computing_chain with_part computing_slot computing_desk computing_commands blocks_of anchor_at heap_written slot_written heap_put block_written
in_a_slot = refl

-- the bytes of anchor 7's block from the fourth on
abbrev with_eight : Slot
with_eight = record two_by_two { blocks = record { anchor = 7; bytes = 1 ∷ 2 ∷ 3 ∷ 8 ∷ 9 ∷ [] } ∷ record { anchor = 1; bytes = [] } ∷ [] }

at_an_anchor : block_written one_task (codes "a") 0x8138 3 (8 ∷ 9 ∷ []) ≡ Ok (with_slot 1 with_eight one_task, reply.Done)
unfolding computing_chain with_part computing_slot computing_desk computing_commands blocks_of anchor_at heap_written slot_written heap_put block_written
at_an_anchor = refl

-- a module area of these two blocks, with no message in it
abbrev two_claimed : Desk
two_claimed = with_module two_blocks one_task

in_the_module_area : module_written two_claimed 0x1800024 1 (9 ∷ 10 ∷ []) ≡ Ok (with_module written_blocks one_task, reply.Done)
unfolding computing_chain with_part computing_post computing_commands heap_written module_written
in_the_module_area = refl

no_block_of_the_module_area : module_written two_claimed 0x1800025 0 [] ≡ Err NotABlock
unfolding computing_chain with_part computing_commands heap_written module_written
no_block_of_the_module_area = refl

-- the same area with a message in the second block
abbrev with_message : Parcel → Desk
with_message p = record two_claimed { post = record two_claimed.post { queued = record p { block = 36 } ∷ [] } }

messages_stay : (p : Parcel) → module_written (with_message p) 0x1800024 0 [] ≡ Err NotYours
unfolding computing_chain computing_post computing_commands heap_written module_written
messages_stay p = refl
