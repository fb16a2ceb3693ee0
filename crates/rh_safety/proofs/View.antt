-- What is seen of the desk: tasks as maps by handle, slots as maps by anchor and by address.
use Rattle.std.specs.Prelude.{ℕ, ◌-◌, true, false, ◌==◌, if◌then◌else◌, List, [], ◌∷◌, map, find, Option, Some, None}
use Rattle.std.specs.Option.{option_map}
use Rattle.rh_defs.specs.Blocks.{block_bytes}
use Rattle.rh_defs.specs.Slot.{Flex, Slot, heap_start}
use Rattle.rh_defs.specs.Messages.{Parcel, action_of}
use Rattle.rh_defs.specs.Post.{held_by}
use Rattle.rh_defs.specs.declared.message.Body.{Body}
use Rattle.rh_defs.specs.declared.message.Body.TheVariants as body
use Rattle.rh_defs.specs.declared.message.Letter.{Letter}
use Rattle.rh_defs.specs.Records.{most_records}
use Rattle.rh_defs.specs.Desk.{Desk, Task, Scrap}
use Rattle.rh_defs.specs.IncomingEvents.{is_deaf}
use Rattle.rh_defs.specs.RawTasks.{is_raw}
use Rattle.rh_defs.specs.Transfer.{answers_none}
use Rattle.rh_safety.proofs.Ends as ram
use Rattle.rh_safety.proofs.Sight as sight

-- ---- messages

-- the address that a message names; a message about a file names none
abbrev pub address_in : Body → ℕ
address_in (body.RamFetch buffer length) = buffer
address_in (body.RamTransmit buffer written) = buffer
address_in _ = 0

-- the number of bytes that a message speaks of
abbrev pub amount_in : Body → ℕ
amount_in (body.DataSave f) = f.size
amount_in (body.DataSaveAck f) = 0
amount_in (body.DataLoad f) = f.size
amount_in (body.DataLoadAck f) = f.size
amount_in (body.RamFetch buffer length) = length
amount_in (body.RamTransmit buffer written) = written
amount_in (body.Other o) = 0

-- a message without its block
abbrev pub seen_parcel : Parcel → ram.Message
seen_parcel p = record {
  code = p.code;
  to = p.to;
  letter = record {
    from = p.message.from;
    me = p.message.my_ref;
    answers = p.message.your_ref;
    kind = action_of p.message.body;
    address = address_in p.message.body;
    amount = amount_in p.message.body;
  };
}

-- a letter with its ref
abbrev pub seen_letter : Letter → ℕ → ram.Message
seen_letter l ref = record {
  code = l.code;
  to = l.to;
  letter = record {
    from = l.from;
    me = ref;
    answers = l.your_ref;
    kind = action_of l.body;
    address = address_in l.body;
    amount = amount_in l.body;
  };
}

-- the letter that a task sent last
abbrev pub seen_last : Letter × ℕ → ram.Message
seen_last p = seen_letter p.0 p.1

-- the scrap file
abbrev pub seen_scrap : Scrap → sight.Scrap
seen_scrap file = record { load = file.load; bytes = file.bytes }

-- ---- slots

-- the bytes of the block of an anchor
abbrev pub flex_map : List Flex → ℕ → Option (List ℕ)
flex_map [] k = None
flex_map (b ∷ blocks) k = if b.anchor == k then Some b.bytes else flex_map blocks k

-- the blocks of a slot by anchor
abbrev pub blocks_of : Slot → ℕ → Option (List ℕ)
blocks_of s = flex_map s.blocks

-- the bytes of the block of the C heap at an address
abbrev pub buffers_of : Slot → ℕ → Option (List ℕ)
buffers_of s address = block_bytes (address - heap_start) s.heap

-- ---- the desk

-- a field of a task, with what stands where there is none
abbrev pub of : {A : Type 0} → (Task → A) → A → Option Task → A
of f d None = d
of f d (Some t) = f t

-- the live task of a handle
abbrev pub task_of : ℕ → List Task → Option Task
task_of h tasks = find (λ t. t.handle == h) tasks

-- a field of the task of each handle
abbrev pub field : {A : Type 0} → (Task → A) → A → List Task → ℕ → A
field f d tasks h = of f d (task_of h tasks)

-- the desk as the reduced one
abbrev pub view : Desk → sight.Desk
view d = record {
  most = most_records;
  live = field (λ t. true) false d.tasks;
  buf = field (λ t. t.buffer) 1 d.tasks;
  deaf = field (λ t. is_deaf t.manner) false d.tasks;
  file = field (λ t. answers_none t.manner) false d.tasks;
  raw = field (λ t. is_raw t.manner) false d.tasks;
  block = field (λ t. blocks_of t.slot) (λ a. None) d.tasks;
  heap = field (λ t. buffers_of t.slot) (λ a. None) d.tasks;
  sending = field (λ t. t.sending) [] d.tasks;
  taking = field (λ t. t.taking) [] d.tasks;
  last = field (λ t. option_map seen_last t.last_sent) None d.tasks;
  queue = map seen_parcel d.post.queued;
  held = λ h. option_map seen_parcel (held_by h d.post.seats);
  scrap = option_map seen_scrap d.scrap;
  next_handle = d.next_handle;
  next_ref = d.post.next_ref;
}
