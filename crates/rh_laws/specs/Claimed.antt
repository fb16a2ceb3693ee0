-- The blocks of a task's C heap: those that it claimed and hasn't released, and the buffers of its transfers.
-- Read Offered of rh_safety first, for *at_place*, and Slot of rh_defs.
-- c is a map from handles and addresses to sizes, d a desk, h a handle, n a size, r a reply, s a slot, t a task.
-- *claims_next* follows one command by its reply, *claims_from* all commands.
use Rattle.std.specs.Prelude.{◌≡◌, ℕ, ◌+◌, ℤ, true, false, List, [], ◌∷◌, length, filter, find, Option, Some, None}
use Rattle.std.specs.Option.{option_map}
use Rattle.rh_defs.specs.declared.command.Command.{Command}
use Rattle.rh_defs.specs.declared.command.Command.TheVariants as command
use Rattle.rh_defs.specs.declared.reply.Reply.{Reply}
use Rattle.rh_defs.specs.declared.reply.Reply.TheVariants as reply
use Rattle.rh_defs.specs.declared.transfer.Incoming.{Incoming}
use Rattle.rh_defs.specs.Files.{FileList}
use Rattle.rh_defs.specs.Pieces.{Split, moved}
use Rattle.rh_defs.specs.Heap.{Segment, block_room, bytes_of}
use Rattle.rh_defs.specs.Slot.{Slot, heap_block_at}
use Rattle.rh_defs.specs.Laws.{IsStart}
use Rattle.rh_defs.specs.Range.{all_in_range}
use Rattle.rh_defs.specs.Records.{is_buffer_of}
use Rattle.rh_defs.specs.Desk.{Desk, Task, has_name, is_busy_buffer, task_at}
use Rattle.rh_defs.specs.Commands.{step}
use Rattle.rh_defs.specs.Runs.{after, start_with}
use Rattle.rh_safety.specs.Offered.{at_place}

-- ---- claimed: what the tasks of a run claimed and haven't released

-- by handle and address, the number of bytes of a block that the task claimed and hasn't released
abbrev pub Claims : Type 0
Claims = ℕ → ℕ → Option ℕ

-- the claims with another size, or none, at one address of a task
abbrev pub noted : Claims → ℕ → ℕ → Option ℕ → Claims
noted c h address size = at_place c h (at_place (c h) address size)

-- a block of n bytes at least was claimed: it has as many as its segment has room for
abbrev pub claimed_at : Claims → Option Task → ℕ → ℕ → Claims
claimed_at c None n address = c
claimed_at c (Some t) n address = noted c t.handle address (Some (block_room n))

-- a claim that was granted answers an address
abbrev pub claimed_next : Claims → Desk → List ℕ → ℕ → Reply → Claims
claimed_next c d name n (reply.Block address) = claimed_at c (find (has_name name) d.tasks) n address
claimed_next c d name n _ = c

-- a block was released
abbrev pub claims_released_at : Claims → Option Task → ℕ → Claims
claims_released_at c None address = c
claims_released_at c (Some t) address = noted c t.handle address None

-- a release that was granted answers Done
abbrev pub released_next : Claims → Desk → List ℕ → ℕ → Reply → Claims
released_next c d name address reply.Done = claims_released_at c (find (has_name name) d.tasks) address
released_next c d name address _ = c

-- the size of a block that had another one, with delta bytes more
abbrev pub size_after : ℤ → Option ℕ → Option ℕ
size_after delta size = option_map (λ n. block_room (moved n delta)) size

-- a block got another size, there or at another address
abbrev pub resized_at : Claims → Option Task → ℕ → ℤ → ℕ → Claims
resized_at c None from delta to = c
resized_at c (Some t) from delta to =
    noted (noted c t.handle from None) t.handle to (size_after delta (c t.handle from))

-- a resize that was granted answers the block's address from then on
abbrev pub resized_next : Claims → Desk → List ℕ → ℕ → ℤ → Reply → Claims
resized_next c d name from delta (reply.Block to) = resized_at c (find (has_name name) d.tasks) from delta to
resized_next c d name from delta _ = c

-- the claims after one more command, by the command's reply
abbrev pub claims_next : Claims → Desk → Command → Reply → Claims
claims_next c d (command.Claim name n) r = claimed_next c d name n r
claims_next c d (command.Release name address) r = released_next c d name address r
claims_next c d (command.Resize name address delta) r = resized_next c d name address delta r
claims_next c d _ r = c

-- the claims after commands
abbrev pub claims_from : Claims → Desk → List Command → Claims
claims_from c d [] = c
claims_from c d (command ∷ commands) =
    claims_from (claims_next c d command (step d command).1) (step d command).0 commands

-- by address, the blocks that the handle's task claimed and hasn't released, in a run of the commands from the desk
abbrev pub claimed : Desk → List Command → ℕ → ℕ → Option ℕ
claimed d commands h = claims_from (λ k address. None) d commands h

-- ---- blocks and what they are

-- the number of bytes of the block of a slot's C heap at an address
abbrev pub size_at : Slot → ℕ → Option ℕ
size_at s address = option_map (λ (b : Split Segment). length (bytes_of b.here)) (heap_block_at address s)

-- how many records fetch or drain by the buffer at an address
abbrev pub holders : ℕ → List Incoming → ℕ
holders address records = length (filter (is_buffer_of address) records)

-- 1 where there is a size
abbrev pub one_if_some : Option ℕ → ℕ
one_if_some None = 0
one_if_some (Some n) = 1

-- Of one address: there is a block just where one is claimed or a record has it as its buffer, never both, and never two
-- records. A block that is claimed has the size that was granted.
pub record IsAccounted (block claim : Option ℕ) (holding : ℕ) : Type 0 where
  pub count : one_if_some block ≡ one_if_some claim + holding
  pub size : (n : ℕ) → claim ≡ Some n → block ≡ Some n

-- no record of the task fetches or drains
abbrev pub HoldsNone : Task → Type 0
HoldsNone t = (address : ℕ) → is_busy_buffer address t ≡ false

-- By what the task claimed: each block of its C heap is accounted for. So where no record fetches or drains, the blocks
-- are just those that are claimed, and where none is claimed either, the C heap is one free stretch as at first.
pub record LeaksNone (claims : ℕ → Option ℕ) (t : Task) : Type 0 where
  pub accounted : (address : ℕ) → IsAccounted (size_at t.slot address) (claims address) (holders address t.taking)
  pub settled : HoldsNone t → (address : ℕ) → size_at t.slot address ≡ claims address
  pub emptied : HoldsNone t → ((address : ℕ) → claims address ≡ None) → t.slot.heap.segments ≡ []

-- so it is of each live task after each list of commands in range, from each start
abbrev pub AlwaysLeaksNone : Type 0
AlwaysLeaksNone =
    (pool handle ref : ℕ) (files : FileList) (commands : List Command) → IsStart pool handle ref →
    all_in_range commands ≡ true →
    let d : Desk = start_with pool files handle ref in
    (h : ℕ) (t : Task) → task_at h (after d commands) ≡ Some t → LeaksNone (claimed d commands h) t
