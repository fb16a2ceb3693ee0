-- Worked runs with a task that has code of its own, and runs with one definition changed, on which a law fails: so the
-- laws say something of what such tasks may do.
use Rattle.rh_safety.proofs.Common.{◌≡◌, refl, ℕ, Bool, true, false, not, ◌==◌, List, [], ◌∷◌, ◌++◌, Option, Some, None, Ok}
use Rattle.rh_safety.proofs.Common.{option_map, hex_on_literals, String, BadRange, NoTask, Parcel, Incoming, Granted, ◌>>=◌, ◌>>◌, refuse_if, found_or, held_by}
use Rattle.rh_safety.proofs.Common.{Desk, Task, Scrap, named, next_ref, send_letter, slot_block, task_at, with_task, list_any, Answer, perform_take}
use Rattle.rh_safety.proofs.Common.{Command, after, is_some, map}
use Rattle.rh_defs.specs.declared.reply.Reply.TheVariants as reply
use Rattle.rh_defs.specs.declared.transfer.Incoming.TheVariants as incoming
use Rattle.rh_defs.specs.Inner.Computing.{computing_script}
use Rattle.rh_defs.specs.Pieces.{is_inside}
use Rattle.rh_defs.specs.Places.{bytes_held, written_held}
use Rattle.rh_defs.specs.RawCommands.{after_answer, raw_letter}
use Rattle.rh_defs.specs.RawTasks.{opens_range}
use Rattle.rh_defs.specs.Receiver as receiver
use Rattle.rh_defs.specs.Records.{asking_of}
use Rattle.rh_defs.specs.Slot.{holds}
use Rattle.rh_safety.specs.Given.{given as taken_of}
use Rattle.rh_safety.specs.Held.{held}
use Rattle.rh_safety.specs.Offered.{offered}
use Rattle.rh_safety.specs.RawIds.{has_raw, is_raw_id}
use Rattle.rh_safety.proofs.RecordRows.{counts, waits_for_load}
use Rattle.rh_safety.proofs.SafetyRows.{fresh, script}
use Rattle.rh_safety.proofs.WrongBodies.{Rules, held_offered, landed, run_of}

-- ---- what is theirs

-- six bytes by a buffer of four, from such a task
abbrev given : List String
given =
    "task b 4" ∷ "task r 1 raw" ∷ "alloc r 0 6" ∷ "write r &9008 010203040506"
    ∷ "send r 18 1 0 1 0000000000000000000000000000000006000000af0f000068746d6c00000000" ∷ "poll b" ∷ "poll r"
    ∷ "transfer r &9008 1 &8114 4" ∷ "send r 18 1 2 7 1481000004000000" ∷ "poll b" ∷ "poll r"
    ∷ "transfer r &900C 1 &8114 2" ∷ "send r 17 1 4 7 1481000002000000" ∷ "poll b" ∷ []

-- it is held, and nobody offered it: its id is theirs
given_has_raw : has_raw (script given) ≡ true
unfolding computing_script hex_on_literals
given_has_raw = refl

given_is_theirs : is_raw_id fresh (script given) 1 ≡ true
unfolding computing_script hex_on_literals
given_is_theirs = refl

given_unoffered : offered fresh (script given) 1 ≡ None
unfolding computing_script hex_on_literals
given_unoffered = refl

given_is_held : held fresh (script given) 1 1 ≡ Some (1 ∷ 2 ∷ 3 ∷ 4 ∷ 5 ∷ 6 ∷ [])
unfolding computing_script hex_on_literals
given_is_held = refl

-- what b's polls took is all of it: four bytes, and then two
given_is_taken : taken_of fresh (script given) 1 ≡ 1 ∷ 2 ∷ 3 ∷ 4 ∷ 5 ∷ 6 ∷ []
unfolding computing_script hex_on_literals
given_is_taken = refl

-- the last transmit says more than was moved since: zeros of the claim, and bytes that were moved before
abbrev lied : List String
lied =
    "task b 4" ∷ "task r 1 raw" ∷ "alloc r 0 6" ∷ "write r &9008 010203040506"
    ∷ "send r 18 1 0 1 0000000000000000000000000000000006000000af0f000068746d6c00000000" ∷ "poll b" ∷ "poll r"
    ∷ "transfer r &9008 1 &8114 2" ∷ "send r 18 1 2 7 1481000004000000" ∷ "poll b" ∷ "poll r"
    ∷ "transfer r &900C 1 &8114 1" ∷ "send r 17 1 4 7 1481000003000000" ∷ "poll b" ∷ []

lied_is_taken : taken_of fresh (script lied) 1 ≡ 1 ∷ 2 ∷ 0 ∷ 0 ∷ 5 ∷ 2 ∷ 0 ∷ []
unfolding computing_script hex_on_literals
lied_is_taken = refl

lied_is_held : held fresh (script lied) 1 1 ≡ Some (1 ∷ 2 ∷ 0 ∷ 0 ∷ 5 ∷ 2 ∷ 0 ∷ [])
unfolding computing_script hex_on_literals
lied_is_held = refl

-- a file that such a task spools is taken whole
abbrev spooled : List String
spooled =
    "task b 4" ∷ "task r 1 raw" ∷ "alloc r 0 6" ∷ "write r &9008 010203040506"
    ∷ "send r 18 1 0 1 0000000000000000000000000000000006000000fd0f0000646f6300" ∷ "poll b" ∷ "poll r" ∷ "poll r"
    ∷ "poll b" ∷ "poll r" ∷ "spool r 0 1 3" ∷ "poll b" ∷ []

spooled_is_taken : taken_of fresh (script spooled) 1 ≡ 1 ∷ 2 ∷ 3 ∷ 4 ∷ 5 ∷ 6 ∷ []
unfolding computing_script hex_on_literals
spooled_is_taken = refl

spooled_is_held : held fresh (script spooled) 1 1 ≡ Some (1 ∷ 2 ∷ 3 ∷ 4 ∷ 5 ∷ 6 ∷ [])
unfolding computing_script hex_on_literals
spooled_is_held = refl

-- ---- whose transfers fetch

-- the flags of the records of task 1 that fetch, and whether anybody offered
abbrev flag_of : Desk → List Command → Incoming → Option (Bool × Bool)
flag_of d commands (incoming.Fetching f) = Some (f.raw, is_some (offered d commands f.id))
flag_of d commands _ = None

abbrev flags_of : List String → Option (List (Option (Bool × Bool)))
flags_of lines = option_map (λ (t : Task). map (flag_of fresh (script lines)) t.taking) (task_at 1 (after fresh (script lines)))

-- one transfer of each kind
abbrev both_fetch : List String
both_fetch =
    "task b 4" ∷ "task r 1 raw" ∷ "task a 4" ∷ "alloc a 0 6"
    ∷ "send r 18 1 0 1 0000000000000000000000000000000006000000fd0f0000646f6300" ∷ "save a 0 b doc" ∷ "poll b" ∷ "poll b" ∷ []

flags_told : flags_of both_fetch ≡ Some (Some (true, false) ∷ Some (false, true) ∷ [])
unfolding computing_script hex_on_literals
flags_told = refl

-- the fetches that b sent between are not theirs
fetch_is_not : is_raw_id fresh (script given) 2 ≡ false
unfolding computing_script hex_on_literals
fetch_is_not = refl

-- ---- a third task that forges a transmit, a fetch, a DataLoadAck and two transfers

abbrev forged : List String
forged =
    "task a 4" ∷ "task b 4" ∷ "task r 1 raw" ∷ "alloc a 0 6" ∷ "put a 0 0 010203040506" ∷ "save a 0 b doc" ∷ "poll b"
    ∷ "send r 17 2 2 7 1481000000000000" ∷ "send r 18 1 1 6 0080000004000000"
    ∷ "send r 17 1 1 4 0000000000000000000000000000000006000000fd0f00003c57696d702453637261703e00000000"
    ∷ "poll b" ∷ "poll a" ∷ "poll a" ∷ "poll a" ∷ "transfer r &8114 2 &8114 0" ∷ "claim r 12"
    ∷ "transfer r &8114 2 &8114 4" ∷ "poll b" ∷ "poll a" ∷ "poll b" ∷ []

forged_for_nothing : held_offered landed forged 1 2 ≡ (
  Some (1 ∷ 2 ∷ 3 ∷ 4 ∷ 5 ∷ 6 ∷ []),
  Some (1 ∷ 2 ∷ 3 ∷ 4 ∷ 5 ∷ 6 ∷ []),
)
unfolding computing_script hex_on_literals
forged_for_nothing = refl

-- ---- a transfer of bytes to where nobody opened a place

-- two tasks that the desk plays, and one with code of its own that has four bytes of 255
abbrev three_tasks : List String
three_tasks = "task a 2" ∷ "task b 2" ∷ "task r 1 raw" ∷ "alloc a 0 3" ∷ "put a 0 0 010203" ∷ "claim r 12"
    ∷ "write r &8114 ffffffff" ∷ []

-- bytes moved where the test lets them
abbrev moved_where : (Task → Bool) → Desk → List ℕ → ℕ → ℕ → ℕ → ℕ → Granted Answer
moved_where is_open d name x h y n = do
  t ← named name d
  refuse_if (not (holds x n t.slot)) BadRange
  r ← found_or (task_at h d) NoTask
  refuse_if (not (is_open r)) BadRange
  Ok (with_task r.handle (λ r. record r { slot = written_held y (bytes_held x n t.slot) r.slot }) d, reply.Done)

-- into any live block
abbrev into_any_block : Rules
into_any_block = record landed { transfers = λ d name x h y n. moved_where (λ r. holds y n r.slot) d name x h y n }

-- into the buffer of any record that fetches
abbrev fetches_into : ℕ → ℕ → ℕ → Incoming → Bool
fetches_into room y n (incoming.Fetching f) = is_inside y n f.buffer room
fetches_into room y n _ = false

abbrev into_any_buffer : Rules
into_any_buffer = record landed {
  transfers = λ d name x h y n. moved_where (λ r. list_any (fetches_into r.buffer y n) r.taking) d name x h y n;
}

-- between the sender's bytes and their being taken
abbrev moved_between : List String
moved_between = three_tasks ++ "save a 0 b x" ∷ "poll b" ∷ "poll a" ∷ "transfer r &8114 2 &8114 2" ∷ "poll b" ∷ []

right_place : held_offered landed moved_between 1 2 ≡ (Some (1 ∷ 2 ∷ []), Some (1 ∷ 2 ∷ 3 ∷ []))
unfolding computing_script hex_on_literals
right_place = refl

wrong_block : held_offered into_any_block moved_between 1 2 ≡ (Some (255 ∷ 255 ∷ []), Some (1 ∷ 2 ∷ 3 ∷ []))
unfolding computing_script hex_on_literals
wrong_block = refl

wrong_buffer : held_offered into_any_buffer moved_between 1 2 ≡ (Some (255 ∷ 255 ∷ []), Some (1 ∷ 2 ∷ 3 ∷ []))
unfolding computing_script hex_on_literals
wrong_buffer = refl

-- ---- a transfer by the fetch that is held alone, whatever the record says now

abbrev opens_held : ℕ → ℕ → Option Parcel → Task → Bool
opens_held y n held r = opens_range r.handle y n held

abbrev by_held_fetch : Rules
by_held_fetch = record landed {
  transfers = λ d name x h y n.
      named name d >>= λ t. moved_where (opens_held y n (held_by t.handle d.post.seats)) d name x h y n;
}

-- a fetch that was answered before it was taken, and the same buffer for another transfer
abbrev answered_early : List String
answered_early = three_tasks ++
    "send r 18 2 0 1 0000000000000000000000000000000005000000fd0f0000646f6300" ∷ "poll b"
    ∷ "send r 17 2 2 7 1481000000000000" ∷ "poll b" ∷ "save a 0 b x" ∷ "poll b" ∷ "poll r" ∷ "poll a"
    ∷ "transfer r &8114 2 &8114 2" ∷ "poll b" ∷ []

right_fetch_held : held_offered landed answered_early 4 2 ≡ (Some (1 ∷ 2 ∷ []), Some (1 ∷ 2 ∷ 3 ∷ []))
unfolding computing_script hex_on_literals
right_fetch_held = refl

wrong_fetch_held : held_offered by_held_fetch answered_early 4 2 ≡ (Some (255 ∷ 255 ∷ []), Some (1 ∷ 2 ∷ 3 ∷ []))
unfolding computing_script hex_on_literals
wrong_fetch_held = refl

-- ---- a message whose sender the task writes

-- as of task 1
abbrev sent_as_first : Desk → List ℕ → Bool → ℕ → ℕ → ℕ → List ℕ → Granted Answer
sent_as_first d name recorded h ref a bytes = do
  t ← named name d
  sent ← send_letter (raw_letter 1 recorded h ref a bytes) d
  Ok (after_answer sent, reply.Sent (next_ref d))

abbrev any_sender : Rules
any_sender = record landed { sends = sent_as_first }

-- a transmit of no bytes
abbrev transmit_forged : List String
transmit_forged = three_tasks ++ "save a 0 b x" ∷ "poll b" ∷ "send r 17 2 2 7 1481000000000000" ∷ "poll b" ∷ []

right_sender : counts landed transmit_forged 2 ≡ (false, 0, Some 3) ∷ []
unfolding computing_script hex_on_literals
right_sender = refl

wrong_sender : counts any_sender transmit_forged 2 ≡ (true, 0, Some 3) ∷ []
unfolding computing_script hex_on_literals
wrong_sender = refl

-- ---- a scrap file written over

abbrev spooled_over : Desk → List ℕ → ℕ → ℕ → ℕ → Granted Answer
spooled_over d name k h ref = do
  t ← named name d
  b ← slot_block k t.slot
  Ok (record d { scrap = option_map (λ (file : Scrap). record file { bytes = b.here.bytes }) d.scrap }, reply.Done)

abbrev over_a_file : Rules
over_a_file = record landed { spools = spooled_over }

abbrev file_between : List String
file_between =
    "task a 2 file" ∷ "task b 2" ∷ "task r 1 raw" ∷ "alloc a 0 3" ∷ "put a 0 0 010203" ∷ "alloc r 0 3"
    ∷ "write r &9008 ffffff" ∷ "save a 0 b x" ∷ "poll b" ∷ "poll a" ∷ "poll a" ∷ "poll b" ∷ "poll a"
    ∷ "spool r 0 2 0" ∷ "poll b" ∷ []

right_spool : held_offered landed file_between 1 2 ≡ (Some (1 ∷ 2 ∷ 3 ∷ []), Some (1 ∷ 2 ∷ 3 ∷ []))
unfolding computing_script hex_on_literals
right_spool = refl

wrong_spool : held_offered over_a_file file_between 1 2 ≡ (Some (255 ∷ 255 ∷ 255 ∷ []), Some (1 ∷ 2 ∷ 3 ∷ []))
unfolding computing_script hex_on_literals
wrong_spool = refl

-- ---- a DataLoad that is taken whoever sent it

abbrev loads_of_all : Rules
loads_of_all = record landed {
  takes_file = λ d t m. perform_take d t (option_map (receiver.load_for m.message.from m.message.my_ref)
      (asking_of (λ q. m.message.your_ref == q.ack) t.taking));
}

abbrev load_forged : List String
load_forged =
    "task a 2 file" ∷ "task b 2" ∷ "task r 1 raw" ∷ "alloc a 0 3" ∷ "put a 0 0 010203" ∷ "alloc r 0 3"
    ∷ "write r &9008 ffffff" ∷ "save a 0 b x" ∷ "poll b" ∷ "poll a" ∷ "poll a" ∷ "poll b" ∷ "spool r 0 2 3"
    ∷ "poll b" ∷ []

right_load_sender : held_offered landed load_forged 1 2 ≡ (Some [], Some (1 ∷ 2 ∷ 3 ∷ []))
unfolding computing_script hex_on_literals
right_load_sender = refl

wrong_load_sender : held_offered loads_of_all load_forged 1 2 ≡ (Some (255 ∷ 255 ∷ 255 ∷ []), Some (1 ∷ 2 ∷ 3 ∷ []))
unfolding computing_script hex_on_literals
wrong_load_sender = refl

-- ---- an answer of any kind that keeps the scrap file

abbrev sent_alone : Desk → List ℕ → Bool → ℕ → ℕ → ℕ → List ℕ → Granted Answer
sent_alone d name recorded h ref a bytes = do
  t ← named name d
  sent ← send_letter (raw_letter t.handle recorded h ref a bytes) d
  Ok (sent, reply.Sent (next_ref d))

abbrev keeps_file : Rules
keeps_file = record landed { sends = sent_alone }

-- the task answers a DataSave by a DataSaveAck, and the DataLoad by nothing that the desk knows
abbrev load_answered : List String
load_answered =
    "task a 2" ∷ "task r 1 raw" ∷ "alloc a 0 3" ∷ "save a 0 r x"
    ∷ "send r 18 1 1 2 00000000000000000000000000000000fffffffffd0f00003c57696d702453637261703e00000000"
    ∷ "poll a" ∷ "poll r" ∷ "poll r" ∷ "send r 17 2 3 9" ∷ []

right_answer : waits_for_load (run_of landed load_answered).desk ≡ None
unfolding computing_script hex_on_literals
right_answer = refl

wrong_answer : waits_for_load (run_of keeps_file load_answered).desk ≡ Some false
unfolding computing_script hex_on_literals
wrong_answer = refl
