-- Runs with one definition changed, on which a law fails: so the laws say something of each of these definitions.
use Rattle.rh_safety.proofs.Common.{◌≡◌, refl, ℕ, ◌+◌, Bool, true, false, not, ◌&&◌, nat_le, nat_lt, ◌==◌, if◌then◌else◌, List, [], ◌∷◌, length, take, drop}
use Rattle.rh_safety.proofs.Common.{find, Option, Some, None, Ok, list_any, filter_map, option_map, hex_on_literals, String, NoTask, BadRange, Busy, NoRoom}
use Rattle.rh_safety.proofs.Common.{AnchorInUse, Command, EventCode, User, Recorded, Acknowledge, Body, Sending, Asked, Outgoing, Incoming, Granted, ◌>>=◌}
use Rattle.rh_safety.proofs.Common.{◌>>◌, refuse_if, found_or, or_else, Split, Flex, flex_address, slot_alloc, slot_block, slot_claim, Parcel, post_poll}
use Rattle.rh_safety.proofs.Common.{fetch_letter, transmit_letter, load_letter, out_id, in_id, is_open, is_full, with_id, open_of, buffer_at, free_anchor}
use Rattle.rh_safety.proofs.Common.{Desk, Task, Scrap, next_ref, free_pages, has_name, named, task_at, with_task, with_slot, with_sending, with_taking}
use Rattle.rh_safety.proofs.Common.{with_delivered, send_letter, Answer, Handled, ignored, refused, scrap_shortage, wider, perform_send, perform_take}
use Rattle.rh_safety.proofs.Common.{Transmit, Part, SaveFile, Claim, LoadFile, is_deaf, appended, loaded, answers_none, delivered, bounced_to, save, cancel_in}
use Rattle.rh_safety.proofs.Common.{step, Offers, Edits}
use Rattle.std.specs.List.{list_all}
use Rattle.rh_defs.specs.declared.refusal.Refusal.TheVariants.{NotOpen}
use Rattle.rh_defs.specs.declared.command.Command.TheVariants as command
use Rattle.rh_defs.specs.declared.message.Body.TheVariants as body
use Rattle.rh_defs.specs.declared.reply.Reply.TheVariants as reply
use Rattle.rh_defs.specs.declared.reply.Outcome.TheVariants as outcome
use Rattle.rh_defs.specs.declared.transfer.Outgoing.TheVariants as outgoing
use Rattle.rh_defs.specs.declared.transfer.Incoming.TheVariants as incoming
use Rattle.rh_defs.specs.Letters.{save_letter}
use Rattle.rh_defs.specs.Records.{is_source, one_more, asking_of}
use Rattle.rh_defs.specs.Sender as sender
use Rattle.rh_defs.specs.Receiver as receiver
use Rattle.rh_defs.specs.Places.{written_in}
use Rattle.rh_defs.specs.OutgoingEvents.{is_bad_range}
use Rattle.rh_defs.specs.IncomingEvents.{end_failed}
use Rattle.rh_defs.specs.declared.raw_command.RawCommand.TheVariants as raw
use Rattle.rh_defs.specs.AnyMessage.{as_read}
use Rattle.rh_defs.specs.Commands.{event}
use Rattle.rh_defs.specs.RawCommands.{send, spool, transfer}
use Rattle.rh_defs.specs.RawTasks.{is_raw, is_raw_at}
use Rattle.std.specs.Prelude.{unwrap_or}
use Rattle.rh_defs.specs.Inner.Computing.{computing_script}
use Rattle.rh_safety.specs.Offered.{offers_next}
use Rattle.rh_safety.specs.Held.{edits_next, held_of}
use Rattle.rh_safety.specs.Buffers.{bytes_of_buffer}
use Rattle.rh_safety.proofs.SafetyRows.{fresh, script}

-- the definitions that may be changed
pub record Rules : Type 0 where
  pub answers_fetch : Desk → Task → Parcel → ℕ → ℕ → Handled
  pub takes_save : Desk → Task → Parcel → Handled
  pub answers_ack : Desk → Task → Parcel → Handled
  pub takes_file : Desk → Task → Parcel → Handled
  pub saves : Desk → List ℕ → ℕ → List ℕ → List ℕ → Granted Answer
  pub cancels : Desk → List ℕ → Option ℕ → Granted Answer
  pub sends : Desk → List ℕ → Bool → ℕ → ℕ → ℕ → List ℕ → Granted Answer
  pub transfers : Desk → List ℕ → ℕ → ℕ → ℕ → ℕ → Granted Answer
  pub spools : Desk → List ℕ → ℕ → ℕ → ℕ → Granted Answer

abbrev pub landed : Rules
landed = record {
  answers_fetch = λ d t m buffer amount. perform_send d t (sender.on_fetch m.message.from m.message.my_ref
      m.message.your_ref buffer amount t.sending);
  takes_save = λ d t m. perform_take d t
      (receiver.flagged (is_raw_at m.message.from d) (receiver.on_save (is_deaf t.manner) m.message.from m.message.my_ref t.taking));
  answers_ack = λ d t m. perform_send d t (sender.on_ack m.message.from m.message.my_ref m.message.your_ref t.sending);
  takes_file = λ d t m. perform_take d t (receiver.on_load m.message.from m.message.my_ref m.message.your_ref t.taking);
  saves = save;
  cancels = cancel_in;
  sends = send;
  transfers = transfer;
  spools = spool;
}

-- ---- runs by rules

abbrev came_by : Rules → Desk → Task → Parcel → Body → Handled
came_by rules d t m (body.DataSave file) = rules.takes_save d t m
came_by rules d t m (body.DataSaveAck file) = rules.answers_ack d t m
came_by rules d t m (body.DataLoad file) = rules.takes_file d t m
came_by rules d t m (body.DataLoadAck file) = delivered d t m (body.DataLoadAck file)
came_by rules d t m (body.RamFetch buffer amount) = if answers_none t.manner then ignored d else rules.answers_fetch d
    t m buffer amount
came_by rules d t m (body.RamTransmit buffer n) = delivered d t m (body.RamTransmit buffer n)
came_by rules d t m (body.Other o) = ignored d

abbrev handled_by : Rules → Desk → Task → Parcel → EventCode → Handled
handled_by rules d t m User = came_by rules d t m m.message.body
handled_by rules d t m Recorded = came_by rules d t m m.message.body
handled_by rules d t m Acknowledge = bounced_to d t m m.message.body

abbrev taken_by : Rules → Desk → Task → Option Parcel → Answer
taken_by rules d t None = (d, reply.NoEvent)
taken_by rules d t (Some m) =
    event (as_read m) (if is_raw t.manner then (d, outcome.Taken) else handled_by rules d t (as_read m) m.code)

abbrev polled_by : Rules → Desk → List ℕ → Granted Answer
polled_by rules d name = named name d >>= λ t. Ok (taken_by rules (with_delivered (post_poll t.handle d.post).0 d) t
    (post_poll t.handle d.post).1)

abbrev pub step_by : Rules → Desk → Command → Answer
step_by rules d (command.Save name k to leaf) = or_else (rules.saves d name k to leaf) (λ refusal.
    (d, reply.Refused refusal))
step_by rules d (command.Poll name) = or_else (polled_by rules d name) (λ refusal. (d, reply.Refused refusal))
step_by rules d (command.CancelIn name id) = or_else (rules.cancels d name id) (λ refusal. (d, reply.Refused refusal))
step_by rules d (command.Raw (raw.Send name recorded h ref a bytes)) =
    or_else (rules.sends d name recorded h ref a (unwrap_or bytes [])) (λ refusal. (d, reply.Refused refusal))
step_by rules d (command.Raw (raw.Transfer name x h y n)) =
    or_else (rules.transfers d name x h y n) (λ refusal. (d, reply.Refused refusal))
step_by rules d (command.Raw (raw.Spool name k h ref)) =
    or_else (rules.spools d name k h ref) (λ refusal. (d, reply.Refused refusal))
step_by rules d c = step d c

-- the desk, the offers and the edits after commands
pub record Run : Type 0 where
  pub desk : Desk
  pub offers : Offers
  pub edits : Edits

abbrev next_by : Rules → Run → Command → Run
next_by rules r c =
    let a : Answer = step_by rules r.desk c in
    record { desk = a.0; offers = offers_next r.offers r.desk c a.1; edits = edits_next r.edits r.desk c a.1 }

abbrev run_by : Rules → Run → List Command → Run
run_by rules r [] = r
run_by rules r (c ∷ commands) = run_by rules (next_by rules r c) commands

abbrev pub run_of : Rules → List String → Run
run_of rules lines = run_by rules (record { desk = fresh; offers = λ id. None; edits = λ h id. false }) (script lines)

-- what the task holds of a transfer, and what that offered
abbrev pub held_offered : Rules → List String → ℕ → ℕ → Option (List ℕ) × Option (List ℕ)
held_offered rules lines id h = let r = run_of rules lines in (
  held_of (task_at h r.desk) id (r.edits h id),
  r.offers id,
)

-- the outgoing records of a task, and what a transfer offered
abbrev sent_offered : Rules → List String → ℕ → ℕ → List Outgoing × Option (List ℕ)
sent_offered rules lines id h = let r = run_of rules lines in (sending_of (task_at h r.desk), r.offers id)
  where
    sending_of : Option Task → List Outgoing
    sending_of None = []
    sending_of (Some t) = t.sending

-- ---- a sender that answers any fetch from its recipient

abbrev any_fetch : Rules
any_fetch = record landed {
  answers_fetch = λ d t m buffer amount. perform_send d t (option_map (sender.transmit_for m.message.from
      m.message.my_ref buffer amount) (open_of (λ x. m.message.from == x.recipient && nat_le 1 amount) t.sending));
}

-- a fetch, and its copy
abbrev twice_fetched : List String
twice_fetched = "task a 4" ∷ "task b 4" ∷ "alloc a 0 6" ∷ "put a 0 0 010203040506" ∷ "save a 0 b doc" ∷ "poll b"
    ∷ "repeat b" ∷ "poll a" ∷ "poll a" ∷ "poll b" ∷ []

right_fetch : held_offered landed twice_fetched 1 2 ≡ (Some (1 ∷ 2 ∷ 3 ∷ 4 ∷ []), Some (1 ∷ 2 ∷ 3 ∷ 4 ∷ 5 ∷ 6 ∷ []))
unfolding computing_script hex_on_literals
right_fetch = refl

wrong_fetch : held_offered any_fetch twice_fetched 1 2 ≡ (
  Some (5 ∷ 6 ∷ 3 ∷ 4 ∷ []),
  Some (1 ∷ 2 ∷ 3 ∷ 4 ∷ 5 ∷ 6 ∷ []),
)
unfolding computing_script hex_on_literals
wrong_fetch = refl

-- ---- a sender that counts itself done when it sends

-- the transmit, with another record after it, by what goes out, the file's length and the transmit's ref
abbrev transmits_to : (Transmit → Part → ℕ → ℕ → Outgoing) → Desk → Task → Transmit → Split Flex → Granted Handled
transmits_to record_after d t a source =
    let p : Part = sender.next_part a (length source.here.bytes) in
    let place : ℕ = flex_address t.slot source.before + p.offset in do
      r ← found_or (task_at a.transfer.recipient d) NoTask
      refuse_if (is_bad_range t r a.buffer a.room place p.n) BadRange
      sent ← send_letter (transmit_letter t.handle a p) d
      Ok (
        with_sending t.handle (with_id out_id a.transfer.id (record_after a p (length source.here.bytes) (next_ref d)))
            (with_task r.handle (λ r. record r {
              slot = written_in a.buffer (take p.n (drop p.offset source.here.bytes)) (buffer_at a.buffer a.room r.slot)
                  r.slot;
            }) sent),
        outcome.Sent p.n (next_ref d),
      )

abbrev answers_to : (Transmit → Part → ℕ → ℕ → Outgoing) → Desk → Task → Parcel → ℕ → ℕ → Option Sending → Handled
answers_to record_after d t m buffer amount None = ignored d
answers_to record_after d t m buffer amount (Some x) =
    let a : Transmit = record { transfer = x; to = m.message.from; answers = m.message.my_ref; buffer = buffer; room = amount } in
    or_else (slot_block x.anchor t.slot >>= transmits_to record_after d t a) (refused d t x)

-- the record that a fetch is for
abbrev asked : Parcel → ℕ → Task → Option Sending
asked m amount t = open_of (sender.would_answer m.message.from m.message.your_ref amount) t.sending

abbrev done_when_sent : Rules
done_when_sent = record landed {
  answers_fetch = λ d t m buffer amount.
      answers_to (λ a p size ref. outgoing.Done a.transfer.id (p.offset + p.n)) d t m buffer amount (asked m amount t);
}

abbrev first_buffer : List String
first_buffer = "task a 4" ∷ "task b 4" ∷ "alloc a 0 6" ∷ "put a 0 0 010203040506" ∷ "save a 0 b doc" ∷ "poll b"
    ∷ "poll a" ∷ []

right_count : sent_offered landed first_buffer 1 1 ≡ (
  outgoing.Open (record {
    id = 1;
    recipient = 2;
    anchor = 0;
    count = 4;
    last = 3;
  }) ∷ [],
  Some (1 ∷ 2 ∷ 3 ∷ 4 ∷ 5 ∷ 6 ∷ []),
)
unfolding computing_script hex_on_literals
right_count = refl

wrong_count : sent_offered done_when_sent first_buffer 1 1 ≡ (
  outgoing.Done 1 4 ∷ [],
  Some (1 ∷ 2 ∷ 3 ∷ 4 ∷ 5 ∷ 6 ∷ []),
)
unfolding computing_script hex_on_literals
wrong_count = refl

-- ---- a sender for which a full last buffer ends the transfer

abbrev record_ended : Transmit → Part → ℕ → ℕ → Outgoing
record_ended a p size ref =
    if p.offset + p.n == size then outgoing.Done a.transfer.id (p.offset + p.n)
    else outgoing.Open (record a.transfer { count = p.offset + p.n; last = ref })

abbrev full_ends : Rules
full_ends = record landed {
  answers_fetch = λ d t m buffer amount. answers_to record_ended d t m buffer amount (asked m amount t);
}

-- the records of sender and receiver
abbrev ends_of : Rules → List String → List Outgoing × List Incoming
ends_of rules lines = let r = run_of rules lines in (sending_of (task_at 1 r.desk), taking_of (task_at 2 r.desk))
  where
    sending_of : Option Task → List Outgoing
    sending_of None = []
    sending_of (Some t) = t.sending

    taking_of : Option Task → List Incoming
    taking_of None = []
    taking_of (Some t) = t.taking

-- four bytes by a buffer of four: after the save 2 * 1 + 3 polls in turn, none of which is refused anything
abbrev one_buffer : List String
one_buffer = "task a 4" ∷ "task b 4" ∷ "alloc a 0 4" ∷ "save a 0 b doc" ∷ "poll b" ∷ "poll a" ∷ "poll b" ∷ "poll a"
    ∷ "poll b" ∷ []

right_end : ends_of landed one_buffer ≡ (outgoing.Done 1 4 ∷ [], incoming.Done 1 0 4 ∷ [])
unfolding computing_script hex_on_literals
right_end = refl

wrong_end : ends_of full_ends one_buffer ≡ (
  outgoing.Done 1 4 ∷ [],
  incoming.Fetching (record {
    id = 1;
    sender = 1;
    anchor = 0;
    buffer = 0x8114;
    count = 4;
    fetch = 4;
    raw = false;
  }) ∷ [],
)
unfolding computing_script hex_on_literals
wrong_end = refl

-- ---- a save of a document that grows

abbrev saves_document : Desk → List ℕ → ℕ → List ℕ → List ℕ → Granted Answer
saves_document d name k to leaf = do
  t ← named name d
  b ← slot_block k t.slot
  refuse_if (list_any (is_source k) t.sending) Busy
  refuse_if (is_full is_open t.sending) Busy
  r ← found_or (find (has_name to) d.tasks) NoTask
  sent ← send_letter (save_letter t.handle r.handle (length b.here.bytes) leaf) d
  Ok (with_sending t.handle (sender.sending_offered (next_ref d) r.handle k) sent, reply.Sent (next_ref d))

abbrev save_of_a_document : Rules
save_of_a_document = record landed { saves = saves_document }

-- b saves on to c what it fetches from a
abbrev saved_while_fetched : List String
saved_while_fetched =
    "task a 4" ∷ "task b 4" ∷ "task c 10" ∷ "alloc a 0 6" ∷ "put a 0 0 010203040506" ∷ "save a 0 b doc"
    ∷ "poll b" ∷ "poll a" ∷ "poll b" ∷ "save b 0 c doc" ∷ "poll a" ∷ "poll b" ∷ "poll c" ∷ "poll b" ∷ "poll c"
    ∷ []

wrong_save : held_offered save_of_a_document saved_while_fetched 5 3 ≡ (
  Some (1 ∷ 2 ∷ 3 ∷ 4 ∷ 5 ∷ 6 ∷ []),
  Some (1 ∷ 2 ∷ 3 ∷ 4 ∷ []),
)
unfolding computing_script hex_on_literals
wrong_save = refl

right_save : held_offered landed saved_while_fetched 5 3 ≡ (None, None)
unfolding computing_script hex_on_literals
right_save = refl

-- b saves on to c what it asks a for
abbrev saved_while_asked : List String
saved_while_asked =
    "task a 100 file" ∷ "task b 100" ∷ "task c 100" ∷ "alloc a 0 3" ∷ "put a 0 0 010203" ∷ "save a 0 b doc"
    ∷ "poll b" ∷ "poll a" ∷ "poll a" ∷ "poll b" ∷ "save b 0 c doc" ∷ "poll a" ∷ "poll b" ∷ "poll c" ∷ "poll b"
    ∷ "poll c" ∷ []

wrong_asked : held_offered save_of_a_document saved_while_asked 4 3 ≡ (Some (1 ∷ 2 ∷ 3 ∷ []), Some [])
unfolding computing_script hex_on_literals
wrong_asked = refl

right_asked : held_offered landed saved_while_asked 4 3 ≡ (None, None)
unfolding computing_script hex_on_literals
right_asked = refl

-- ---- a scrap file of any transfer

abbrev saves_over : Desk → Task → SaveFile → Split Flex → Granted Handled
saves_over d t a source =
    let n : ℕ = length source.here.bytes in
    let more : ℕ = scrap_shortage n d in
    let file : Scrap = record { load = next_ref d; bytes = source.here.bytes } in do
      sent ← send_letter (load_letter t.handle a n) (wider more d)
      refuse_if (nat_lt (free_pages d) more) NoRoom
      Ok (
        with_sending t.handle (sender.saved a (next_ref d)) (record sent { scrap = Some file }),
        outcome.Saved n
            (next_ref d),
      )

abbrev answers_over : Desk → Task → Parcel → Option Sending → Handled
answers_over d t m None = ignored d
answers_over d t m (Some x) =
    let a : SaveFile = record { transfer = x; to = m.message.from; answers = m.message.my_ref } in
    or_else (slot_block x.anchor t.slot >>= saves_over d t a) (refused d t x)

abbrev loads_any : Desk → Task → Parcel → Option Asked → Option Scrap → Handled
loads_any d t m None file = ignored d
loads_any d t m (Some q) None = ignored d
loads_any d t m (Some q) (Some file) =
    let a : LoadFile = record { transfer = q; to = m.message.from; answers = m.message.my_ref } in
    or_else (appended d t q.anchor file.bytes >>= λ longer. Ok (loaded (record longer { scrap = None }) t a
    (length file.bytes)))
    (λ refusal. (with_taking t.handle (receiver.abandoned q 0) d, outcome.Refused refusal))

abbrev any_scrap_file : Rules
any_scrap_file = record landed {
  answers_ack = λ d t m. answers_over d t m (open_of (sender.asks_for m.message.from m.message.your_ref) t.sending);
  takes_file = λ d t m. loads_any d t m (asking_of (receiver.is_load m.message.from m.message.your_ref) t.taking) d.scrap;
}

-- two files for one task, by the scrap file
abbrev two_files : List String
two_files =
    "task a 100 file" ∷ "task b 100" ∷ "task c 100 file" ∷ "alloc a 0 1" ∷ "put a 0 0 07" ∷ "alloc c 0 1"
    ∷ "put c 0 0 08" ∷ "save a 0 b x" ∷ "save c 0 b y" ∷ "poll b" ∷ "poll b"
    ∷ "poll a" ∷ "poll a" ∷ "poll c" ∷ "poll c" ∷ "poll b" ∷ "poll b" ∷ "poll a" ∷ "poll c" ∷ "poll b" ∷ []

wrong_file : held_offered any_scrap_file two_files 1 2 ≡ (Some (8 ∷ []), Some (7 ∷ []))
unfolding computing_script hex_on_literals
wrong_file = refl

right_file : held_offered landed two_files 1 2 ≡ (Some (7 ∷ []), Some (7 ∷ []))
unfolding computing_script hex_on_literals
right_file = refl

-- ---- buffers that go too early

abbrev is_held_for : ℕ → ℕ → Incoming → Bool
is_held_for id address (incoming.Fetching f) = f.id == id && f.buffer == address
is_held_for id address (incoming.Draining f) = f.id == id && f.buffer == address
is_held_for id address _ = false

abbrev has_bytes : ℕ → Option (List ℕ) → Bool
has_bytes n None = false
has_bytes n (Some bytes) = nat_le n (length bytes)

-- whether the task holds the buffer for the transfer
abbrev holds_for : ℕ → ℕ → Option Task → ℕ → Bool
holds_for address n None id = true
holds_for address n (Some u) id = list_any (is_held_for id address) u.taking && has_bytes n (bytes_of_buffer u.slot
    address)

-- the ids of the open records that would answer a fetch
abbrev ids_of : Parcel → ℕ → Option Task → List ℕ
ids_of m n None = []
ids_of m n (Some t) = if answers_none t.manner then [] else filter_map answering t.sending
  where
    answering : Outgoing → Option ℕ
    answering (outgoing.Open x) = if sender.would_answer m.message.from m.message.your_ref n x then Some x.id else None
    answering _ = None

abbrev names_held : Desk → Parcel → EventCode → Body → Bool
names_held d m Recorded (body.RamFetch address n) = list_all (holds_for address n (task_at m.message.from d))
    (ids_of m n (task_at m.to d))
names_held d m _ _ = true

-- whether each queued fetch that would be answered names a buffer that its sender holds
abbrev has_buffers : Desk → Bool
has_buffers d = list_all (λ (m : Parcel). names_held d m m.code m.message.body) d.post.queued

-- a cancel that frees the buffer at once
abbrev freed : Incoming → Task → Desk → Desk
freed (incoming.Fetching f) t d = end_failed d t f
freed r t d = with_taking t.handle (with_id in_id (in_id r) (receiver.cancelled r)) d

abbrev cancels_at_once : Desk → List ℕ → Option ℕ → Granted Answer
cancels_at_once d name id = do
  t ← named name d
  r ← found_or (find (receiver.is_wanted id) t.taking) NotOpen
  Ok (freed r t d, reply.Done)

abbrev early_free : Rules
early_free = record landed { cancels = cancels_at_once }

abbrev cancelled_fetch : List String
cancelled_fetch = "task a 100" ∷ "task b 100" ∷ "alloc a 0 5" ∷ "save a 0 b doc" ∷ "poll b" ∷ "cancel b in" ∷ []

wrong_cancel : has_buffers (run_of early_free cancelled_fetch).desk ≡ false
unfolding computing_script hex_on_literals
wrong_cancel = refl

right_cancel : has_buffers (run_of landed cancelled_fetch).desk ≡ true
unfolding computing_script hex_on_literals
right_cancel = refl

-- a receiver for which a transfer that drains is over
abbrev is_busy_record : Incoming → Bool
is_busy_record (incoming.Fetching f) = true
is_busy_record (incoming.Asking q) = true
is_busy_record _ = false

abbrev accepts : Desk → Task → Claim → Granted Handled
accepts d t a = do
  k ← found_or (free_anchor t.slot) AnchorInUse
  b ← slot_claim (free_pages d) t.buffer t.slot
  p ← slot_alloc (free_pages (with_slot t.handle b.0 d)) k 0 b.0
  sent ← send_letter (fetch_letter t.handle (receiver.first_fetch a b.1 t.buffer)) (with_slot t.handle p.0 d)
  Ok (
    with_taking t.handle
        (one_more is_busy_record (incoming.Fetching (receiver.new_taking a k b.1 (next_ref d)))) sent,
    outcome.Fetch (next_ref d),
  )

abbrev takes_while_draining : Desk → Task → Parcel → Handled
takes_while_draining d t m =
    let a : Claim = record { id = m.message.my_ref; sender = m.message.from; raw = is_raw_at m.message.from d } in
    if not (is_deaf t.manner) && not (is_full is_busy_record t.taking) then or_else (accepts d t a) (λ refusal.
    ignored d)
    else ignored d

abbrev draining_takes : Rules
draining_takes = record landed { takes_save = takes_while_draining }

-- eight transfers that drain, and a ninth
abbrev nine_transfers : List String
nine_transfers =
    "task a 10" ∷ "task b 10" ∷ "task c 10" ∷ "alloc a 0 1" ∷ "alloc a 1 1" ∷ "alloc a 2 1" ∷ "alloc a 3 1"
    ∷ "alloc a 4 1" ∷ "alloc a 5 1" ∷ "alloc a 6 1" ∷ "alloc a 7 1" ∷ "alloc c 0 1"
    ∷ "save a 0 b x" ∷ "save a 1 b x" ∷ "save a 2 b x" ∷ "save a 3 b x" ∷ "save a 4 b x" ∷ "save a 5 b x"
    ∷ "save a 6 b x" ∷ "save a 7 b x"
    ∷ "poll b" ∷ "poll b" ∷ "poll b" ∷ "poll b" ∷ "poll b" ∷ "poll b" ∷ "poll b" ∷ "poll b"
    ∷ "cancel b in" ∷ "cancel b in" ∷ "cancel b in" ∷ "cancel b in" ∷ "cancel b in" ∷ "cancel b in"
    ∷ "cancel b in" ∷ "cancel b in"
    ∷ "save c 0 b y" ∷ "poll b" ∷ []

wrong_draining : has_buffers (run_of draining_takes nine_transfers).desk ≡ false
unfolding computing_script hex_on_literals
wrong_draining = refl

right_draining : has_buffers (run_of landed nine_transfers).desk ≡ true
unfolding computing_script hex_on_literals
right_draining = refl
