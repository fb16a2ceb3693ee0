-- Worked lists of a task's blocks and segments: the definitions compute these answers.
use Rattle.rh_tasks.proofs.Common.{◌≡◌, refl, [], ◌∷◌, codes, true, None, Ok, Err, NoName, Slot, Desk, Task, segment_items_at}
use Rattle.rh_defs.specs.declared.command.Manner.TheVariants.{Plain}
use Rattle.rh_defs.specs.declared.question.SegmentItem.TheVariants.{Used, Hole}
use Rattle.rh_defs.specs.Runs.{start}
use Rattle.rh_defs.specs.Inner.Computing.{computing_chain, computing_desk}
use Rattle.rh_defs.proofs.BlockRows.{two_blocks}
use Rattle.rh_tasks.specs.WorldLists.{blocks_of, segments_of}

-- a block of 5 bytes at anchor 7 and an empty one at anchor 1, above a heap of 48 bytes
abbrev pub two_by_two : Slot
two_by_two =
    record { heap = two_blocks; blocks = record { anchor = 7; bytes = 1 ∷ 2 ∷ 3 ∷ 4 ∷ 5 ∷ [] } ∷ record { anchor = 1; bytes = [] } ∷ []; budging = true }

abbrev pub task_a : Task
task_a = record { handle = 1; name = codes "a"; buffer = 100; manner = Plain; slot = two_by_two; sending = []; taking = []; last_sent = None }

abbrev pub one_task : Desk
one_task = record (start 8 []) { tasks = task_a ∷ [] }

pub listed_blocks : blocks_of one_task (codes "a") ≡ Ok (record { anchor = 7; address = 0x8138; size = 5 } ∷ record
    { anchor = 1; address = 0x8148; size = 0 } ∷ [])
unfolding computing_chain computing_desk blocks_of
listed_blocks = refl

pub blocks_of_nobody : blocks_of one_task (codes "b") ≡ Err NoName
unfolding computing_chain computing_desk blocks_of
blocks_of_nobody = refl

pub items_from_the_first : segment_items_at 16 two_blocks ≡ Used 0x8114 4 ∷ Hole 0x8118 8 ∷ Used 0x8124 4 ∷ []
items_from_the_first = refl

pub listed_segments : segments_of one_task (codes "a") 24 ≡ Ok (Hole 0x8118 8 ∷ Used 0x8124 4 ∷ [])
unfolding computing_chain computing_desk segments_of
listed_segments = refl

pub segments_of_nobody : segments_of one_task (codes "b") 24 ≡ Err NoName
unfolding computing_chain computing_desk segments_of
segments_of_nobody = refl
