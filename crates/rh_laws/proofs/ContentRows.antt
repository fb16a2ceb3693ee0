-- Worked runs of what stands in a buffer, and a run with one definition changed, on which contents_law fails.
use Rattle.rh_laws.proofs.Common.{◌≡◌, ℕ, List, [], ◌∷◌, ◌++◌, Option, Some, refl, String, Ok, codes, hex_on_literals, script, fresh, named, Granted}
use Rattle.rh_laws.proofs.Common.{◌>>=◌, ◌>>◌, refuse_if, found_or, or_else, Answer, Desk, NoTask, Task, after, task_at, with_task}
use Rattle.std.specs.Prelude.{not}
use Rattle.std.specs.Option.{option_and_then}
use Rattle.rh_defs.specs.declared.command.Command.TheVariants as command
use Rattle.rh_defs.specs.declared.raw_command.RawCommand.TheVariants as raw
use Rattle.rh_defs.specs.declared.refusal.Refusal.TheVariants.{WrongManner}
use Rattle.rh_defs.specs.declared.reply.Reply.TheVariants as reply
use Rattle.rh_defs.specs.Inner.Computing.{computing_script}
use Rattle.rh_defs.specs.Places.{bytes_held, written_held}
use Rattle.rh_defs.specs.RawTasks.{is_raw}
use Rattle.rh_safety.specs.Buffers.{bytes_of_buffer}
use Rattle.rh_laws.specs.Contents.{contents, contents_next}

-- the bytes of the block at an address of b's C heap
abbrev block_of_b : ℕ → Desk → Option (List ℕ)
block_of_b address d = option_and_then (λ (t : Task). bytes_of_buffer t.slot address) (task_at 1 d)

-- what stands in the buffer of b's record with the id, and in the block at the address
abbrev standing : List String → ℕ → ℕ → List ℕ × Option (List ℕ)
standing lines id address = (contents fresh (script lines) 1 id, block_of_b address (after fresh (script lines)))

-- ---- one buffer

-- b opens a buffer of six bytes to r, in a block of twelve
abbrev opened : List String
opened =
    "task b 6" ∷ "task r 1 raw" ∷ "alloc r 0 6" ∷ "write r &9008 010203040506"
    ∷ "send r 18 1 0 1 0000000000000000000000000000000009000000fd0f0000646f6300" ∷ "poll b" ∷ []

at_first : standing opened 1 0x8114 ≡
    (0 ∷ 0 ∷ 0 ∷ 0 ∷ 0 ∷ 0 ∷ 0 ∷ 0 ∷ 0 ∷ 0 ∷ 0 ∷ 0 ∷ [], Some (0 ∷ 0 ∷ 0 ∷ 0 ∷ 0 ∷ 0 ∷ 0 ∷ 0 ∷ 0 ∷ 0 ∷ 0 ∷ 0 ∷ []))
unfolding computing_script hex_on_literals
at_first = refl

-- r moves the first two of its bytes behind the first of the buffer's, and three to its end, over one of these
abbrev moved : List String
moved = opened ++ "transfer r &9008 1 &8115 2" ∷ "transfer r &900B 1 &8116 3" ∷ []

two_moves : standing moved 1 0x8114 ≡
    (0 ∷ 1 ∷ 4 ∷ 5 ∷ 6 ∷ 0 ∷ 0 ∷ 0 ∷ 0 ∷ 0 ∷ 0 ∷ 0 ∷ [], Some (0 ∷ 1 ∷ 4 ∷ 5 ∷ 6 ∷ 0 ∷ 0 ∷ 0 ∷ 0 ∷ 0 ∷ 0 ∷ 0 ∷ []))
unfolding computing_script hex_on_literals
two_moves = refl

-- b takes all six and fetches again: they stay
full_taken : standing (moved ++ "send r 18 1 2 7 1481000006000000" ∷ "poll b" ∷ []) 1 0x8114 ≡
    (0 ∷ 1 ∷ 4 ∷ 5 ∷ 6 ∷ 0 ∷ 0 ∷ 0 ∷ 0 ∷ 0 ∷ 0 ∷ 0 ∷ [], Some (0 ∷ 1 ∷ 4 ∷ 5 ∷ 6 ∷ 0 ∷ 0 ∷ 0 ∷ 0 ∷ 0 ∷ 0 ∷ 0 ∷ []))
unfolding computing_script hex_on_literals
full_taken = refl

-- a range that isn't whole in the buffer's six bytes is refused
none_beyond : standing (opened ++ "transfer r &9008 1 &8117 4" ∷ []) 1 0x8114 ≡
    (0 ∷ 0 ∷ 0 ∷ 0 ∷ 0 ∷ 0 ∷ 0 ∷ 0 ∷ 0 ∷ 0 ∷ 0 ∷ 0 ∷ [], Some (0 ∷ 0 ∷ 0 ∷ 0 ∷ 0 ∷ 0 ∷ 0 ∷ 0 ∷ 0 ∷ 0 ∷ 0 ∷ 0 ∷ []))
unfolding computing_script hex_on_literals
none_beyond = refl

-- ---- the next record

-- the first transfer ends, and the next one's buffer, at the same address, is a new block
next_record : standing
    (moved ++ "send r 17 1 2 7 1481000002000000" ∷ "poll b"
    ∷ "send r 18 1 0 1 0000000000000000000000000000000009000000fd0f0000646f6300" ∷ "poll b" ∷ "transfer r &9008 1 &8119 1" ∷ []) 4 0x8114 ≡
    (0 ∷ 0 ∷ 0 ∷ 0 ∷ 0 ∷ 1 ∷ 0 ∷ 0 ∷ 0 ∷ 0 ∷ 0 ∷ 0 ∷ [], Some (0 ∷ 0 ∷ 0 ∷ 0 ∷ 0 ∷ 1 ∷ 0 ∷ 0 ∷ 0 ∷ 0 ∷ 0 ∷ 0 ∷ []))
unfolding computing_script hex_on_literals
next_record = refl

-- ---- a transfer into any live block of the task at the other end

-- another task with code of its own
abbrev beside : List String
beside = moved ++ "task q 1 raw" ∷ "claim q 4" ∷ "write q &8114 ffffffff" ∷ []

abbrev moves_anywhere : Desk → List ℕ → ℕ → ℕ → ℕ → ℕ → Granted Answer
moves_anywhere d name x h y n = do
  t ← named name d
  r ← found_or (task_at h d) NoTask
  refuse_if (not (is_raw t.manner)) WrongManner
  Ok (with_task r.handle (λ r. record r { slot = written_held y (bytes_held x n t.slot) r.slot }) d, reply.Done)

abbrev at_beside : Desk
at_beside = after fresh (script beside)

abbrev moved_so : Answer
moved_so = or_else (moves_anywhere at_beside (codes "q") 0x8114 1 0x8114 2) (λ refusal. (at_beside, reply.Refused refusal))

abbrev standing_so : List ℕ × Option (List ℕ)
standing_so = (
  contents_next (contents fresh (script beside)) at_beside (command.Raw (raw.Transfer (codes "q") 0x8114 1 0x8114 2)) moved_so.1 1 1,
  block_of_b 0x8114 moved_so.0,
)

-- its bytes stand in the buffer, and aren't r's
wrong_law : standing_so ≡
    (0 ∷ 1 ∷ 4 ∷ 5 ∷ 6 ∷ 0 ∷ 0 ∷ 0 ∷ 0 ∷ 0 ∷ 0 ∷ 0 ∷ [], Some (255 ∷ 255 ∷ 4 ∷ 5 ∷ 6 ∷ 0 ∷ 0 ∷ 0 ∷ 0 ∷ 0 ∷ 0 ∷ 0 ∷ []))
unfolding computing_script hex_on_literals
wrong_law = refl

-- as the definitions have it, the transfer is refused
right_place : standing (beside ++ "transfer q &8114 1 &8114 2" ∷ []) 1 0x8114 ≡
    (0 ∷ 1 ∷ 4 ∷ 5 ∷ 6 ∷ 0 ∷ 0 ∷ 0 ∷ 0 ∷ 0 ∷ 0 ∷ 0 ∷ [], Some (0 ∷ 1 ∷ 4 ∷ 5 ∷ 6 ∷ 0 ∷ 0 ∷ 0 ∷ 0 ∷ 0 ∷ 0 ∷ 0 ∷ []))
unfolding computing_script hex_on_literals
right_place = refl
