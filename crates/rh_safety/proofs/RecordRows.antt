-- Worked runs of what records name, and runs with one definition changed, on which record_law or scrap_law fails.
use Rattle.rh_safety.proofs.Common.{◌≡◌, refl, ℕ, Bool, true, false, ◌==◌, if◌then◌else◌, List, [], ◌∷◌, ◌++◌, length, map, codes, Option, Some, None, Ok}
use Rattle.rh_safety.proofs.Common.{filter_map, option_map, hex_on_literals, String, Refusal, AnchorInUse, NoBlock, Sending, Asked, Outgoing, Incoming}
use Rattle.rh_safety.proofs.Common.{Granted, ◌>>=◌, found_or, or_else, Split, Flex, new_slot, slot_block, slot_claim, Parcel, post_is_live, post_poll}
use Rattle.rh_safety.proofs.Common.{fetch_letter, load_letter, in_id, open_of, free_anchor, Desk, Task, Scrap, next_ref, free_pages, task_at, with_slot}
use Rattle.rh_safety.proofs.Common.{with_sending, Claim, SaveFile, LoadFile, with_taking, send_letter, with_post, Handled, ignored, refused, scrap_shortage}
use Rattle.rh_safety.proofs.Common.{wider, appended, loaded, after}
use Rattle.rh_defs.specs.declared.command.Manner.TheVariants as manner
use Rattle.rh_defs.specs.declared.command.Command.TheVariants as command
use Rattle.rh_defs.specs.declared.reply.Outcome.TheVariants as outcome
use Rattle.rh_defs.specs.declared.transfer.Outgoing.TheVariants as outgoing
use Rattle.rh_defs.specs.declared.transfer.Incoming.TheVariants as incoming
use Rattle.rh_defs.specs.Records.{asking_of}
use Rattle.rh_defs.specs.Sender as sender
use Rattle.rh_defs.specs.Receiver as receiver
use Rattle.rh_defs.specs.Commands.{with_new_task}
use Rattle.rh_defs.specs.RawTasks.{is_raw_at}
use Rattle.rh_defs.specs.Inner.Computing.{computing_script}
use Rattle.rh_safety.specs.Offered.{bytes_of_block}
use Rattle.rh_safety.specs.Buffers.{bytes_of_buffer, failed_by}
use Rattle.rh_safety.proofs.SafetyRows.{fresh, script}
use Rattle.rh_safety.specs.Counts.{counted_in, is_done}
use Rattle.rh_safety.proofs.WrongBodies.{Rules, Run, landed, run_of, step_by}

-- a record that fetches: its count, the length of its document, and that of its buffer
abbrev Measured : Type 0
Measured = ℕ × Option ℕ × Option ℕ

abbrev measured : Task → Incoming → Option Measured
measured t (incoming.Fetching f) = Some (
  f.count,
  option_map (λ (bytes : List ℕ). length bytes) (bytes_of_block t.slot f.anchor),
  option_map (λ (bytes : List ℕ). length bytes) (bytes_of_buffer t.slot f.buffer),
)
measured t _ = None

-- those of a live task
abbrev measures : Option Task → List Measured
measures None = []
measures (Some t) = filter_map (measured t) t.taking

-- the refusal that the task's next poll names
abbrev poll_fails : Rules → List String → String → Option Refusal
poll_fails rules lines name = failed_by (step_by rules (run_of rules lines).desk (command.Poll (codes name))).1

-- ---- a document for each transfer

-- six bytes by a buffer of four, of which four were taken, and a transfer that has taken none
abbrev two_transfers : List String
two_transfers = "task a 4" ∷ "task b 4" ∷ "alloc a 0 6" ∷ "alloc a 1 9" ∷ "save a 0 b x" ∷ "save a 1 b y" ∷ "poll b"
    ∷ "poll b" ∷ "poll a" ∷ "poll b" ∷ []

right_measures : measures (task_at 2 (run_of landed two_transfers).desk) ≡ (4, Some 4, Some 4) ∷ (0, Some 0, Some 4) ∷ []
unfolding computing_script hex_on_literals
right_measures = refl

-- a receiver that makes no document
abbrev accepts_bare : Desk → Task → Claim → Granted Handled
accepts_bare d t a = do
  k ← found_or (free_anchor t.slot) AnchorInUse
  b ← slot_claim (free_pages d) t.buffer t.slot
  sent ← send_letter (fetch_letter t.handle (receiver.first_fetch a b.1 t.buffer)) (with_slot t.handle b.0 d)
  Ok (with_taking t.handle (receiver.taking_claimed a k b.1 (next_ref d)) sent, outcome.Fetch (next_ref d))

abbrev no_document : Rules
no_document = record landed {
  takes_save = λ d t m. or_else (accepts_bare d t (record {
    id = m.message.my_ref;
    sender = m.message.from;
    raw = is_raw_at m.message.from d;
  })) (λ refusal. ignored d);
}

abbrev answered : List String
answered = "task a 4" ∷ "task b 4" ∷ "alloc a 0 6" ∷ "save a 0 b x" ∷ "poll b" ∷ "poll a" ∷ []

wrong_document : measures (task_at 2 (run_of no_document answered).desk) ≡ (0, None, Some 4) ∷ []
unfolding computing_script hex_on_literals
wrong_document = refl

right_document : measures (task_at 2 (run_of landed answered).desk) ≡ (0, Some 0, Some 4) ∷ []
unfolding computing_script hex_on_literals
right_document = refl

-- and its poll then answers that the block is missing
wrong_poll : poll_fails no_document answered "b" ≡ Some NoBlock
unfolding computing_script hex_on_literals
wrong_poll = refl

right_poll : poll_fails landed answered "b" ≡ None
unfolding computing_script hex_on_literals
right_poll = refl

-- ---- counts

-- of each transfer that comes in: whether it is Done, what its record counts, and how many bytes were offered
abbrev pub counts : Rules → List String → ℕ → List (Bool × ℕ × Option ℕ)
counts rules lines h = let r = run_of rules lines in map (λ w. (is_done w, counted_in w, offered_length r (in_id w)))
    (taking_of (task_at h r.desk))
  where
    taking_of : Option Task → List Incoming
    taking_of None = []
    taking_of (Some t) = t.taking

    offered_length : Run → ℕ → Option ℕ
    offered_length r id = option_map (λ (bytes : List ℕ). length bytes) (r.offers id)

-- one transfer ends and its document grows; another is given up after four bytes
abbrev done_and_failed : List String
done_and_failed = "task a 4" ∷ "task b 4" ∷ "alloc a 0 6" ∷ "save a 0 b x" ∷ "poll b" ∷ "poll a" ∷ "poll b" ∷ "poll a"
    ∷ "poll b" ∷ "extend b 0 9" ∷ "save a 0 b y" ∷ "poll b" ∷ "poll a" ∷ "poll b" ∷ "cancel b in" ∷ []

right_counts : counts landed done_and_failed 2 ≡ (true, 6, Some 6) ∷ (false, 4, Some 6) ∷ []
unfolding computing_script hex_on_literals
right_counts = refl

-- a receiver that counts no byte of the file that it loads
abbrev loads_uncounted : Desk → Task → Parcel → Option Asked → Option Scrap → Handled
loads_uncounted d t m (Some q) (Some file) =
    let a : LoadFile = record { transfer = q; to = m.message.from; answers = m.message.my_ref } in
    or_else
    (appended d t q.anchor file.bytes >>= λ longer. Ok (loaded (record longer { scrap = None }) t a 0))
    (λ refusal. ignored d)
loads_uncounted d t m _ _ = ignored d

abbrev uncounted : Rules
uncounted = record landed {
  takes_file = λ d t m. loads_uncounted d t m (asking_of (receiver.is_load m.message.from m.message.your_ref) t.taking) d.scrap;
}

abbrev by_file : List String
by_file = "task a 100 file" ∷ "task b 100" ∷ "alloc a 0 3" ∷ "save a 0 b x" ∷ "poll b" ∷ "poll a" ∷ "poll a" ∷ "poll b"
    ∷ "poll a" ∷ "poll b" ∷ []

right_file_count : counts landed by_file 2 ≡ (true, 3, Some 3) ∷ []
unfolding computing_script hex_on_literals
right_file_count = refl

wrong_file_count : counts uncounted by_file 2 ≡ (true, 0, Some 3) ∷ []
unfolding computing_script hex_on_literals
wrong_file_count = refl

-- ---- names

-- handles and names of the live tasks
abbrev names_of : Desk → List (ℕ × List ℕ)
names_of d = map (λ (t : Task). (t.handle, t.name)) d.tasks

-- a task that begins under a name in use
abbrev one_more_a : Desk → Desk
one_more_a d = with_new_task (codes "a") 4 manner.Plain new_slot d

wrong_name : names_of (one_more_a (after fresh (script ("task a 4" ∷ [])))) ≡ (1, codes "a") ∷ (2, codes "a") ∷ []
unfolding computing_script hex_on_literals
wrong_name = refl

-- the name is free again once its task has ended
right_name : names_of (after fresh (script ("task a 4" ∷ "task a 4" ∷ "task b 4" ∷ "kill a" ∷ "task a 4" ∷ [])))
    ≡ (2, codes "b") ∷ (3, codes "a") ∷ []
unfolding computing_script hex_on_literals
right_name = refl

-- ---- the scrap file

abbrev sent_last : ℕ → Outgoing → Option ℕ
sent_last ref (outgoing.Open x) = if x.last == ref then Some x.id else None
sent_last ref _ = None

-- the ids of the task's open records that sent the scrap file's DataLoad last
abbrev owners : Option Scrap → Option Task → List ℕ
owners (Some file) (Some t) = filter_map (sent_last file.load) t.sending
owners _ _ = []

abbrev owners_at : Rules → List String → ℕ → List ℕ
owners_at rules lines h = let d : Desk = (run_of rules lines).desk in owners d.scrap (task_at h d)

-- a sender whose open records all take the DataLoad for their last message
abbrev saved_as_last : ℕ → Outgoing → Outgoing
saved_as_last ref (outgoing.Open x) = outgoing.Open (record x { last = ref })
saved_as_last ref r = r

abbrev saves_all : Desk → Task → SaveFile → Split Flex → Granted Handled
saves_all d t a source =
    let n : ℕ = length source.here.bytes in do
      sent ← send_letter (load_letter t.handle a n) (wider (scrap_shortage n d) d)
      Ok (
        with_sending t.handle (map (saved_as_last (next_ref d)))
            (record sent { scrap = Some (record { load = next_ref d; bytes = source.here.bytes }) }),
        outcome.Saved n (next_ref d),
      )

abbrev answers_all : Desk → Task → Parcel → Option Sending → Handled
answers_all d t m None = ignored d
answers_all d t m (Some x) =
    let a : SaveFile = record { transfer = x; to = m.message.from; answers = m.message.my_ref } in
    or_else (slot_block x.anchor t.slot >>= saves_all d t a) (refused d t x)

abbrev saved_for_all : Rules
saved_for_all = record landed {
  answers_ack = λ d t m. answers_all d t m (open_of (sender.asks_for m.message.from m.message.your_ref) t.sending);
}

-- two open transfers of one sender, the first of which is asked for a file
abbrev one_file : List String
one_file = "task a 100 file" ∷ "task b 100" ∷ "alloc a 0 1" ∷ "alloc a 1 1" ∷ "save a 0 b x" ∷ "save a 1 b y" ∷ "poll b"
    ∷ "poll b" ∷ "poll a" ∷ "poll a" ∷ "poll b" ∷ "poll a" ∷ []

right_owner : owners_at landed one_file 1 ≡ 1 ∷ []
unfolding computing_script hex_on_literals
right_owner = refl

wrong_owner : owners_at saved_for_all one_file 1 ≡ 1 ∷ 2 ∷ []
unfolding computing_script hex_on_literals
wrong_owner = refl

-- ---- its DataLoad

-- of the scrap file, where there is one, whether its DataLoad is queued or held
abbrev pub waits_for_load : Desk → Option Bool
waits_for_load d = option_map (λ (file : Scrap). post_is_live file.load d.post) d.scrap

-- a file that is saved, and its recipient's end
abbrev saved_file : List String
saved_file = "task a 100 file" ∷ "task b 100" ∷ "alloc a 0 1" ∷ "save a 0 b x" ∷ "poll b" ∷ "poll a" ∷ "poll a" ∷ "poll b"
    ∷ "poll a" ∷ []

right_load : waits_for_load (after fresh (script saved_file)) ≡ Some true
unfolding computing_script hex_on_literals
right_load = refl

-- the DataLoad is on its way back
right_return : waits_for_load (after fresh (script (saved_file ++ "kill b" ∷ []))) ≡ Some true
unfolding computing_script hex_on_literals
right_return = refl

-- and then the file is given up
right_end : waits_for_load (after fresh (script (saved_file ++ "kill b" ∷ "poll a" ∷ []))) ≡ None
unfolding computing_script hex_on_literals
right_end = refl

-- a poll that keeps the scrap file whatever message it takes
abbrev polled_with_file : ℕ → Desk → Desk
polled_with_file h d = with_post (post_poll h d.post).0 d

wrong_load : waits_for_load (polled_with_file 1 (after fresh (script (saved_file ++ "kill b" ∷ [])))) ≡ Some false
unfolding computing_script hex_on_literals
wrong_load = refl
