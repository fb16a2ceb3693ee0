-- Runs with one definition of tasks with code of their own changed, on which a law fails.
use Rattle.rh_laws.proofs.Common.{◌≡◌, refl, ℕ, Bool, false, true, ◌==◌, if◌then◌else◌, List, [], ◌∷◌, ◌++◌, Option, Some, Ok, String, codes}
use Rattle.rh_laws.proofs.Common.{map, find, option_map, hex_on_literals, Granted, ◌>>=◌, found_or, NoTask, NotOpen, Busy, in_id, with_id}
use Rattle.rh_laws.proofs.Common.{Segment, Used, Incoming, Desk, Task, named, task_at, with_taking, Answer, step, after, fresh, script, Rules, landed}
use Rattle.rh_laws.proofs.Common.{run_of}
use Rattle.rh_defs.specs.declared.command.Command.TheVariants as command
use Rattle.rh_defs.specs.declared.message.EventCode.TheVariants.{Acknowledge}
use Rattle.rh_defs.specs.declared.reply.Reply.TheVariants as reply
use Rattle.rh_defs.specs.declared.transfer.Incoming.TheVariants as incoming
use Rattle.rh_defs.specs.Desk.{has_name, idle_block, next_ref, send_letter, with_sending, with_task}
use Rattle.rh_defs.specs.Inner.Computing.{computing_script}
use Rattle.rh_defs.specs.Letters.{save_letter}
use Rattle.rh_defs.specs.Messages.{Parcel}
use Rattle.rh_defs.specs.Places.{written_held}
use Rattle.rh_defs.specs.RawCommands.{raw_letter}
use Rattle.rh_defs.specs.Receiver as receiver
use Rattle.rh_defs.specs.Sender as sender
use Rattle.rh_safety.specs.Held.{held_of}

-- two tasks that the desk plays, of which one asks for the bytes of the other's document
abbrev asked : List String
asked = "task a 4" ∷ "task b 4" ∷ "task r 1 raw" ∷ "alloc a 0 3" ∷ "put a 0 0 010203" ∷ "save a 0 b x" ∷ "poll b" ∷ []

abbrev heap_of : Desk → Option (List Segment)
heap_of d = option_map (λ (t : Task). t.slot.heap.segments) (task_at 2 d)

abbrev records_of : Desk → Option (List Incoming)
records_of d = option_map (λ (t : Task). t.taking) (task_at 2 d)

-- ---- a send that says of a message that it came back

-- the message of the number new as the recipient's own of the ref, come back
abbrev come_back : ℕ → ℕ → Parcel → Parcel
come_back new ref p =
    if p.message.my_ref == new
    then record p { code = Acknowledge; message = record p.message { from = p.to; my_ref = ref } }
    else p

abbrev returned : Desk → List ℕ → Bool → ℕ → ℕ → ℕ → List ℕ → Granted Answer
returned d name recorded h ref a bytes = do
  t ← named name d
  sent ← send_letter (raw_letter t.handle recorded h 0 a bytes) d
  Ok (record sent { post = record sent.post { queued = map (come_back (next_ref d) ref) sent.post.queued } }, reply.Done)

abbrev sends_what_came_back : Rules
sends_what_came_back = record landed { sends = returned }

-- the fetch is said to have come back, and the task that sent it claims a block of its own
abbrev said_back : List String
said_back = asked ++ "send r 17 2 2 6 1481000004000000" ∷ "poll b" ∷ "claim b 4" ∷ []

-- the other's poll writes into that block: it answers a fetch for which nobody holds a buffer
block_written : heap_of (run_of sends_what_came_back (said_back ++ "poll a" ∷ [])).desk ≡ Some (Used (1 ∷ 2 ∷ 3 ∷ 0 ∷ []) ∷ [])
unfolding computing_script hex_on_literals
block_written = refl

block_left : heap_of (run_of landed (said_back ++ "poll a" ∷ [])).desk ≡
    Some (Used (1 ∷ 2 ∷ 3 ∷ 0 ∷ []) ∷ Used (0 ∷ 0 ∷ 0 ∷ 0 ∷ []) ∷ [])
unfolding computing_script hex_on_literals
block_left = refl

-- ---- bytes written at an address of any task

abbrev written_anywhere : Desk → Desk
written_anywhere = with_task 2 (λ (t : Task). record t { slot = written_held 0x8114 (255 ∷ 255 ∷ []) t.slot })

-- between the sender's bytes and their being taken, the buffer is written
written_between : held_of (task_at 2 (after (written_anywhere (after fresh (script (asked ++ "poll a" ∷ [])))) (script ("poll b" ∷ [])))) 1 false ≡
    Some (255 ∷ 255 ∷ 3 ∷ [])
unfolding computing_script hex_on_literals
written_between = refl

-- ---- a cancel that drains, whoever sent the file

abbrev drained : Incoming → Incoming
drained (incoming.Fetching f) = incoming.Draining f
drained r = receiver.cancelled r

abbrev drains : Desk → List ℕ → Option ℕ → Granted Answer
drains d name id = do
  t ← named name d
  r ← found_or (find (receiver.is_wanted id) t.taking) NotOpen
  Ok (with_taking t.handle (with_id in_id (in_id r) (drained r)) d, reply.Done)

abbrev drains_for_all : Rules
drains_for_all = record landed { cancels = drains }

-- the task with code of its own answers nothing, and ends
abbrev unanswered : List String
unanswered =
    "task a 4" ∷ "task b 4" ∷ "task r 1 raw" ∷ "send r 18 2 0 1 0000000000000000000000000000000005000000fd0f0000646f6300"
    ∷ "poll b" ∷ "poll r" ∷ "ack r" ∷ "cancel b in" ∷ "poll b" ∷ "poll r" ∷ "kill r" ∷ "poll b" ∷ []

-- no message is left, and the record waits for one: its buffer is never freed
waits_for_ever : records_of (run_of drains_for_all unanswered).desk ≡ Some (incoming.Draining (record {
  id = 1;
  sender = 3;
  anchor = 0;
  buffer = 0x8114;
  count = 0;
  fetch = 2;
  raw = true;
}) ∷ [])
unfolding computing_script hex_on_literals
waits_for_ever = refl

ended_at_once : records_of (run_of landed unanswered).desk ≡ Some (incoming.Failed 1 0 0 ∷ [])
unfolding computing_script hex_on_literals
ended_at_once = refl

-- ---- a save of a task with code of its own

abbrev saves_of_all : Desk → List ℕ → ℕ → List ℕ → List ℕ → Granted Answer
saves_of_all d name k to leaf = do
  t ← named name d
  b ← idle_block k t
  r ← found_or (find (has_name to) d.tasks) NoTask
  sent ← send_letter (save_letter t.handle r.handle 3 leaf) d
  Ok (with_sending t.handle (sender.sending_offered (next_ref d) r.handle k) sent, reply.Sent (next_ref d))

abbrev programs_save : Rules
programs_save = record landed { saves = saves_of_all }

-- nobody answers for it, and its recipient ends
abbrev saved : List String
saved = "task r 1 raw" ∷ "task b 4" ∷ "alloc r 0 3" ∷ "save r 0 b x" ∷ "poll b" ∷ "poll r" ∷ "poll r" ∷ "kill b" ∷ "poll r" ∷ "poll r" ∷ []

-- its block is busy for ever
block_kept : (step (run_of programs_save saved).desk (command.Free (codes "r") 0)).1 ≡ reply.Refused Busy
unfolding computing_script hex_on_literals
block_kept = refl

block_free : (step (run_of landed saved).desk (command.Free (codes "r") 0)).1 ≡ reply.Done
unfolding computing_script hex_on_literals
block_free = refl
