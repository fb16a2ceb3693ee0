-- Worked runs with a task that has code of its own: what it reaches, what its messages change, and the scrap file that it spools.
use Rattle.rh_laws.proofs.Common.{◌≡◌, refl, false, true, ℕ, Answer, List, [], ◌∷◌, ◌++◌, Option, Some, None, String, codes, option_map, hex_on_literals}
use Rattle.rh_laws.proofs.Common.{Segment, Used, Incoming, Desk}
use Rattle.rh_laws.proofs.Common.{Scrap, Task, task_at, step, after, fresh, script, BadRange, Busy}
use Rattle.rh_defs.specs.declared.command.Command.TheVariants as command
use Rattle.rh_defs.specs.declared.raw_command.RawCommand.TheVariants as raw
use Rattle.rh_defs.specs.declared.reply.Reply.TheVariants as reply
use Rattle.rh_defs.specs.declared.transfer.Incoming.TheVariants as incoming
use Rattle.rh_defs.specs.Inner.Computing.{computing_script}
use Rattle.rh_laws.specs.Moved.{went_out}

-- ---- what it reaches

-- b has a block of its own, and then a buffer that it opened to r; so has it one for a
abbrev opened : List String
opened =
    "task a 4" ∷ "task b 4" ∷ "task r 1 raw" ∷ "alloc a 0 6" ∷ "claim b 4" ∷ "alloc r 0 6" ∷ "write r &9008 010203040506"
    ∷ "save a 0 b doc" ∷ "poll b" ∷ "send r 18 2 0 1 0000000000000000000000000000000006000000fd0f0000646f6300" ∷ "poll b" ∷ []

abbrev at_opened : Desk
at_opened = after fresh (script opened)

-- the command that moves four bytes of r to an address of b
abbrev moves : ℕ → Answer
moves y = step at_opened (command.Raw (raw.Transfer (codes "r") 0x9008 2 y 4))

-- it reaches neither b's own block nor the buffer for a
own_block_shut : (moves 0x8114).1 ≡ reply.Refused BadRange
unfolding computing_script hex_on_literals
own_block_shut = refl

other_buffer_shut : (moves 0x811C).1 ≡ reply.Refused BadRange
unfolding computing_script hex_on_literals
other_buffer_shut = refl

-- it fills the buffer that b opened to it
abbrev heap_of : Desk → Option (List Segment)
heap_of d = option_map (λ (t : Task). t.slot.heap.segments) (task_at 2 d)

own_buffer_filled : heap_of (moves 0x8124).0 ≡
    Some (Used (0 ∷ 0 ∷ 0 ∷ 0 ∷ []) ∷ Used (0 ∷ 0 ∷ 0 ∷ 0 ∷ []) ∷ Used (1 ∷ 2 ∷ 3 ∷ 4 ∷ []) ∷ [])
unfolding computing_script hex_on_literals
own_buffer_filled = refl

-- ---- whom a poll changes records for

-- of the two records of b, its poll changes the one whose other end sent the transmit
abbrev records : List String → Option (List Incoming)
records lines = option_map (λ (t : Task). t.taking) (task_at 2 (after fresh (script (opened ++ lines))))

abbrev of_first : Incoming
of_first = incoming.Fetching (record {
  id = 1;
  sender = 1;
  anchor = 0;
  buffer = 0x811C;
  count = 0;
  fetch = 2;
  raw = false;
})

-- r answers the fetch for a: nothing changes
forged_record : records ("send r 17 2 2 7 1c81000000000000" ∷ "poll b" ∷ []) ≡ records []
unfolding computing_script hex_on_literals
forged_record = refl

-- it answers its own
own_record : records ("transfer r &9008 2 &8124 2" ∷ "send r 17 2 4 7 2481000002000000" ∷ "poll b" ∷ []) ≡
    Some (of_first ∷ incoming.Done 3 1 2 ∷ [])
unfolding computing_script hex_on_literals
own_record = refl

-- ---- what b cancels

-- b's record of r ends at once, and its buffer is gone
ended_record : records ("cancel b in 3" ∷ []) ≡ Some (of_first ∷ incoming.Failed 3 1 0 ∷ [])
unfolding computing_script hex_on_literals
ended_record = refl

buffer_gone : heap_of (after at_opened (script ("cancel b in 3" ∷ []))) ≡
    Some (Used (0 ∷ 0 ∷ 0 ∷ 0 ∷ []) ∷ Used (0 ∷ 0 ∷ 0 ∷ 0 ∷ []) ∷ [])
unfolding computing_script hex_on_literals
buffer_gone = refl

-- its record of a drains
abbrev of_second : Incoming
of_second = incoming.Fetching (record {
  id = 3;
  sender = 3;
  anchor = 1;
  buffer = 0x8124;
  count = 0;
  fetch = 4;
  raw = true;
})

drained_record : records ("cancel b in 1" ∷ []) ≡ Some (incoming.Draining (record {
  id = 1;
  sender = 1;
  anchor = 0;
  buffer = 0x811C;
  count = 0;
  fetch = 2;
  raw = false;
}) ∷ of_second ∷ [])
unfolding computing_script hex_on_literals
drained_record = refl

-- ---- what goes out to it

-- r fetches twice from a
abbrev fetched : List String
fetched =
    "task a 4" ∷ "task r 1 raw" ∷ "alloc a 0 6" ∷ "put a 0 0 010203040506" ∷ "claim r 8" ∷ "save a 0 r doc"
    ∷ "send r 18 1 1 6 1481000004000000" ∷ "poll a" ∷ []

moved_first : went_out fresh (script fetched) 1 ≡ 1 ∷ 2 ∷ 3 ∷ 4 ∷ []
unfolding computing_script hex_on_literals
moved_first = refl

moved_all : went_out fresh (script (fetched ++ "send r 18 1 3 6 1481000004000000" ∷ "poll a" ∷ [])) 1 ≡ 1 ∷ 2 ∷ 3 ∷ 4 ∷ 5 ∷ 6 ∷ []
unfolding computing_script hex_on_literals
moved_all = refl

-- it says that it loaded the file: no byte went out
told_of_none : went_out fresh (script ("task a 4" ∷ "task r 1 raw" ∷ "alloc a 0 5" ∷ "save a 0 r doc"
    ∷ "send r 17 1 1 4 0000000000000000000000000000000005000000fd0f0000646f6300" ∷ "poll a" ∷ [])) 1 ≡ []
unfolding computing_script hex_on_literals
told_of_none = refl

-- ---- the scrap file

-- b asks r for a file
abbrev asked_for : List String
asked_for =
    "task b 4" ∷ "task r 1 raw" ∷ "alloc r 0 3" ∷ "write r &9008 010203"
    ∷ "send r 18 1 0 1 0000000000000000000000000000000003000000fd0f0000646f6300" ∷ "poll b" ∷ "poll r" ∷ "poll r"
    ∷ "poll b" ∷ "poll r" ∷ []

abbrev file_after : List String → Option Scrap
file_after lines = (after fresh (script (asked_for ++ lines))).scrap

-- a spool makes it, with the ref of its DataLoad, where there is none
spool_makes : file_after ("spool r 0 1 3" ∷ []) ≡ Some (record { load = 4; bytes = 1 ∷ 2 ∷ 3 ∷ [] })
unfolding computing_script hex_on_literals
spool_makes = refl

none_is_written_over : (step (after fresh (script (asked_for ++ "spool r 0 1 3" ∷ []))) (command.Raw (raw.Spool (codes "r") 0 1 3))).1 ≡ reply.Refused Busy
unfolding computing_script hex_on_literals
none_is_written_over = refl

-- it goes as b loads it, or where b ends
load_takes : file_after ("spool r 0 1 3" ∷ "poll b" ∷ []) ≡ None
unfolding computing_script hex_on_literals
load_takes = refl

death_gives_up : file_after ("spool r 0 1 3" ∷ "kill r" ∷ "kill b" ∷ []) ≡ None
unfolding computing_script hex_on_literals
death_gives_up = refl
