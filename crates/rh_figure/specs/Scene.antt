-- What a picture is drawn from: a desk after a command, and what is kept of the desk before it. Read Share first.
-- d is a desk, c the command, t a task, h a handle, s a share of the pool, b what is kept, x the whole scene.
use Rattle.std.specs.Prelude.{ℕ, ◌+◌, ℤ, pos, negsuc, ◌==◌, nat_le, nat_lt, ◌&&◌, ◌||◌, Bool, true, false, if◌then◌else◌, List, [], ◌∷◌, ◌++◌, map, filter}
use Rattle.std.specs.Prelude.{find, Option, Some, None}
use Rattle.std.specs.List.{flat_map}
use Rattle.std.specs.Option.{option_map}
use Rattle.rh_defs.specs.declared.command.Command.{Command}
use Rattle.rh_defs.specs.declared.command.Command.TheVariants as command
use Rattle.rh_defs.specs.declared.reply.Reply.{Reply}
use Rattle.rh_defs.specs.declared.reply.Reply.TheVariants as reply
use Rattle.rh_defs.specs.declared.raw_command.RawCommand.TheVariants as raw
use Rattle.rh_defs.specs.declared.question.BlockItem.{BlockItem}
use Rattle.rh_defs.specs.declared.question.SegmentItem.{SegmentItem}
use Rattle.rh_defs.specs.declared.question.SegmentItem.TheVariants as segment
use Rattle.rh_defs.specs.declared.message.Action.{Action}
use Rattle.rh_defs.specs.declared.message.Body.{Body}
use Rattle.rh_defs.specs.declared.message.Body.TheVariants.{RamFetch, RamTransmit}
use Rattle.rh_defs.specs.declared.message.Letter.{Letter}
use Rattle.rh_defs.specs.declared.message.MessageItem.{MessageItem}
use Rattle.rh_defs.specs.Messages.{Parcel, action_of}
use Rattle.rh_defs.specs.Post.{Seat, held_by}
use Rattle.rh_defs.specs.Desk.{Desk, Task, has_name, task_at, free_pages, next_ref}
use Rattle.rh_defs.specs.Questions.{block_items}
use Rattle.rh_defs.specs.Order.{is_to, with_queue}
use Rattle.rh_defs.specs.Named.{name_in}
use Rattle.rh_defs.specs.Commands.{is_refused}
use Rattle.rh_figure.specs.Share.{Holding, Share, holdings}
use Rattle.rh_figure.specs.HeapSegments.{segment_seen, found_size}
use Rattle.rh_figure.specs.declared.heap_effect.HeapEffect.{HeapEffect}
use Rattle.rh_figure.specs.declared.heap_effect.HeapEffect.TheVariants.{Nothing, Claimed, Released, Resized}

-- ---- the messages of a desk

-- a message that waits, or is held
abbrev pub seen_item : Bool → Parcel → MessageItem
seen_item held p = record {
  block = p.block;
  to = p.to;
  from = p.message.from;
  my_ref = p.message.my_ref;
  action = action_of p.message.body;
  code = p.code;
  held = held;
}

abbrev pub held_list : Option Parcel → List Parcel
held_list None = []
held_list (Some p) = p ∷ []

-- the messages that wait, task by task
abbrev pub waiting_on : Desk → List Parcel
waiting_on d = flat_map (λ (s : Seat). filter (is_to s.handle) d.post.queued) d.post.seats

-- the messages that are held
abbrev pub held_on : Desk → List Parcel
held_on d = flat_map (λ (s : Seat). held_list s.holds) d.post.seats

-- those that wait, and then those that are held
abbrev pub message_items : Desk → List MessageItem
message_items d = map (seen_item false) (waiting_on d) ++ map (seen_item true) (held_on d)

-- ---- before the command

-- The handle, blocks, length of the C heap and held ref are those of the task that the command names; all are 0 or none
-- where it names no live one. The size is that of the heap's block that the command names, the ref acknowledged that of
-- the message that it acknowledges if it is granted: 0 for none. The messages are all.
pub record Before : Type 0 where
  pub handle : ℕ
  pub blocks : List BlockItem
  pub heap_end : ℕ
  pub held : ℕ
  pub acknowledged : ℕ
  pub size : ℕ
  pub messages : List MessageItem
  pub holdings : List Holding
  pub free : ℕ
  pub next_ref : ℕ

-- the live task that a command names
abbrev pub task_in : Option Command → Desk → Option Task
task_in None d = None
task_in (Some c) d = named_in (name_in c)
  where
    named_in : Option (List ℕ) → Option Task
    named_in None = None
    named_in (Some name) = find (has_name name) d.tasks

-- the ref of a message that may be there, else 0
abbrev pub ref_of : Option Parcel → ℕ
ref_of None = 0
ref_of (Some p) = p.message.my_ref

-- the ref that a task may hold, else 0
abbrev pub held_in : Desk → Option Task → ℕ
held_in d None = 0
held_in d (Some t) = ref_of (held_by t.handle d.post.seats)

-- by the ref acknowledged, and the size
abbrev pub before_task : ℕ → ℕ → Desk → Option Task → Before
before_task ref n d None = record {
  handle = 0;
  blocks = [];
  heap_end = 0;
  held = 0;
  acknowledged = ref;
  size = n;
  messages = message_items d;
  holdings = holdings d;
  free = free_pages d;
  next_ref = next_ref d;
}
before_task ref n d (Some t) = record {
  handle = t.handle;
  blocks = block_items t.slot;
  heap_end = t.slot.heap.end;
  held = ref_of (held_by t.handle d.post.seats);
  acknowledged = ref;
  size = n;
  messages = message_items d;
  holdings = holdings d;
  free = free_pages d;
  next_ref = next_ref d;
}

-- the handle of a task that may be there, else 0
abbrev pub handle_of : Option Task → ℕ
handle_of None = 0
handle_of (Some t) = t.handle

-- the size of the heap's block that a command names, 0 where it names none
abbrev pub size_named : ℕ → Option Command → Desk → ℕ
size_named h (Some (command.Release name a)) d = found_size (segment_seen h a d)
size_named h (Some (command.Resize name a delta)) d = found_size (segment_seen h a d)
size_named h (Some (command.RmaFree a)) d = found_size (segment_seen 0 a d)
size_named h (Some (command.RmaResize a delta)) d = found_size (segment_seen 0 a d)
size_named h _ d = 0

-- the ref of the message that a command acknowledges, by that of the one that its task holds
abbrev pub acknowledged_by : Option Command → ℕ → ℕ
acknowledged_by (Some (command.Raw (raw.Ack name))) held = held
acknowledged_by _ held = 0

-- what is kept of a desk before a command, or before a bad line
abbrev pub before_of : Desk → Option Command → Before
before_of d c = before_task
    (acknowledged_by c (held_in d (task_in c d))) (size_named (handle_of (task_in c d)) c d) d (task_in c d)

-- ---- what the command did

-- What a command did that nothing in the desk behind it tells: a task began with a handle, or ended; budging is on or
-- off, and was; an area got so many bytes, or lost them; one was made, of at most so many pages, or taken away; a task
-- gave a transfer up; bytes went into a flex block from an offset on, or to an address of a task; so many went from an
-- address of a task to one of the task with a handle; a task acknowledged the message with a ref.
pub data Effect : Type 0 where
  NoEffect : Effect
  Begun : List ℕ → ℕ → Effect
  Ended : List ℕ → Effect
  Budging : List ℕ → Bool → Bool → Effect
  Longer : ℕ → ℕ → Effect
  Shorter : ℕ → ℕ → Effect
  Made : ℕ → ℕ → Effect
  Removed : ℕ → Effect
  GivenUp : List ℕ → Effect
  Written : ℕ → ℕ → List ℕ → Effect
  Stored : List ℕ → ℕ → List ℕ → Effect
  Copied : List ℕ → ℕ → ℕ → ℕ → ℕ → Effect
  Acknowledged : List ℕ → ℕ → Effect

-- The task that it names, its effect, what became of a heap's block, the task and anchor of the flex block that it wrote
-- to, the task and address of a block of a C heap, the address of a block of the module area, the letter that was sent
-- with its ref, and the ref and action of the message that was taken.
pub record Marks : Type 0 where
  pub handle : ℕ
  pub effect : Effect
  pub heap_effect : HeapEffect
  pub put : Option (ℕ × ℕ)
  pub heap : ℕ × ℕ
  pub module_block : ℕ
  pub sent : Option (Letter × ℕ)
  pub taken : Option (ℕ × Action)

abbrev pub no_marks : Marks
no_marks = record {
  handle = 0;
  effect = NoEffect;
  heap_effect = Nothing;
  put = None;
  heap = (0, 0);
  module_block = 0;
  sent = None;
  taken = None;
}

-- whether a command asks, and changes nothing
abbrev pub is_question : Command → Bool
is_question (command.Ask q) = true
is_question _ = false

-- whether the step can't have changed the desk: a bad line, a question, a refusal
abbrev pub is_still : Option Command → Reply → Bool
is_still None r = true
is_still (Some c) r = is_question c || is_refused r

-- the last letter of the task, if the command sent it
abbrev pub sent_by : Before → Option Task → Option (Letter × ℕ)
sent_by b None = None
sent_by b (Some t) = if_new t.last_sent
  where
    if_new : Option (Letter × ℕ) → Option (Letter × ℕ)
    if_new None = None
    if_new (Some sent) = if sent.1 == b.next_ref then Some sent else None

-- a task, and an address in its slot
abbrev pub SlotPlace : Type 0
SlotPlace = ℕ × ℕ

-- a spot where some bytes are
abbrev pub where_some : ℕ → SlotPlace → Option SlotPlace
where_some n spot = if nat_lt 0 n then Some spot else None

-- the spot that a letter's bytes go to
abbrev pub spot_of : Letter → Option SlotPlace
spot_of l = in_body l.body
  where
    in_body : Body → Option SlotPlace
    in_body (RamFetch buffer n) = Some (l.from, buffer)
    in_body (RamTransmit buffer n) = where_some n (l.to, buffer)
    in_body _ = None

abbrev pub spot_sent : Option (Letter × ℕ) → Option SlotPlace
spot_sent None = None
spot_sent (Some sent) = spot_of sent.0

-- a spot, where a poll took a message: a letter that a line sends moves no bytes
abbrev pub spot_taken : Option (ℕ × Action) → Option SlotPlace → Option SlotPlace
spot_taken None spot = None
spot_taken (Some taken) spot = spot

-- where a command of a task with code of its own puts bytes, else another spot
abbrev pub spot_by : ℕ → Command → Option SlotPlace → Option SlotPlace
spot_by h (command.Raw (raw.Write name a bytes)) other = Some (h, a)
spot_by h (command.Raw (raw.Transfer name a to place n)) other = where_some n (to, place)
spot_by h _ other = other

-- the block of a C heap that is at a spot
abbrev pub used_at : ℕ → Option SegmentItem → ℕ × ℕ
used_at h (Some (segment.Used address size)) = (h, address)
used_at h _ = (0, 0)

abbrev pub heap_block_in : Desk → Option SlotPlace → ℕ × ℕ
heap_block_in d None = (0, 0)
heap_block_in d (Some spot) = used_at spot.0 (segment_seen spot.0 spot.1 d)

-- whether a flex block has the byte at an address
abbrev pub covers_address : ℕ → BlockItem → Bool
covers_address a b = nat_le b.address a && nat_lt a (b.address + b.size)

-- the flex block that is at a spot, by its task and anchor
abbrev pub flex_of : SlotPlace → Option Task → Option (ℕ × ℕ)
flex_of spot None = None
flex_of spot (Some t) = option_map (λ (b : BlockItem). (spot.0, b.anchor)) (find (covers_address spot.1) (block_items t.slot))

abbrev pub flex_block_in : Desk → Option SlotPlace → Option (ℕ × ℕ)
flex_block_in d None = None
flex_block_in d (Some spot) = flex_of spot (task_at spot.0 d)

-- the block of a C heap that a command made or changed, else another one
abbrev pub heap_mark : ℕ → Command → Reply → ℕ × ℕ → ℕ × ℕ
heap_mark h (command.Claim name n) (reply.Block address) other = (h, address)
heap_mark h (command.Resize name a delta) (reply.Block address) other = (h, address)
heap_mark h _ _ other = other

abbrev pub module_mark : Command → Reply → ℕ
module_mark (command.RmaClaim n) (reply.Block address) = address
module_mark (command.RmaResize a delta) (reply.Block address) = address
module_mark _ _ = 0

-- the flex block that a command put bytes into by its anchor, else another one
abbrev pub put_mark : ℕ → Command → Option (ℕ × ℕ) → Option (ℕ × ℕ)
put_mark h (command.Put name k offset bytes) other = Some (h, k)
put_mark h _ other = other

-- an area that got bytes, or lost them
abbrev pub moved_effect : ℕ → ℤ → ℕ → Effect
moved_effect k (pos by) n = Longer k n
moved_effect k (negsuc by) n = Shorter k n

abbrev pub effect_of : Command → Reply → Effect
effect_of (command.Task name buffer manner) (reply.Started handle) = Begun name handle
effect_of (command.Kill name) r = Ended name
effect_of (command.Budge name on) (reply.WasBudging was) = Budging name was on
effect_of (command.Area k delta) (reply.Moved n) = moved_effect k delta n
effect_of (command.Make most) (reply.Made k) = Made k most
effect_of (command.Remove k) r = Removed k
effect_of (command.CancelIn name id) r = GivenUp name
effect_of (command.CancelOut name id) r = GivenUp name
effect_of (command.Put name k offset bytes) r = Written k offset bytes
effect_of (command.Raw (raw.Write name a bytes)) r = Stored name a bytes
effect_of (command.Raw (raw.Transfer name a to place n)) r = Copied name n a to place
effect_of (command.Raw (raw.Ack name)) (reply.Answering ref) = Acknowledged name ref
effect_of _ _ = NoEffect

-- what became of a heap's block, by the handle of the task that the command names
abbrev pub heap_effect_of : ℕ → Command → Reply → HeapEffect
heap_effect_of h (command.Claim name n) (reply.Block a) = Claimed h a
heap_effect_of h (command.Release name a) r = Released h a
heap_effect_of h (command.Resize name a delta) (reply.Block b) = Resized h a b
heap_effect_of h (command.RmaClaim n) (reply.Block a) = Claimed 0 a
heap_effect_of h (command.RmaFree a) r = Released 0 a
heap_effect_of h (command.RmaResize a delta) (reply.Block b) = Resized 0 a b
heap_effect_of h _ _ = Nothing

abbrev pub taken_mark : Reply → Option (ℕ × Action)
taken_mark (reply.Event code action mine yours outcome) = Some (mine, action)
taken_mark _ = None

-- where a command put bytes, by its reply and the desk after it
abbrev pub spot_put : Desk → Before → Command → Reply → Option SlotPlace
spot_put d b c r = spot_by b.handle c (spot_taken (taken_mark r) (spot_sent (sent_by b (task_at b.handle d))))

abbrev pub marks_for : Desk → Before → Command → Reply → Marks
marks_for d b c r = record {
  handle = b.handle;
  effect = effect_of c r;
  heap_effect = heap_effect_of b.handle c r;
  put = put_mark b.handle c (flex_block_in d (spot_put d b c r));
  heap = heap_mark b.handle c r (heap_block_in d (spot_put d b c r));
  module_block = module_mark c r;
  sent = sent_by b (task_at b.handle d);
  taken = taken_mark r;
}

-- what a command did, by its reply and the desk after it
abbrev pub marks_of : Desk → Before → Option Command → Reply → Marks
marks_of d b None r = no_marks
marks_of d b (Some c) r = if is_still (Some c) r then no_marks else marks_for d b c r

-- ---- the scene

-- A desk without its queue, and of the queue the messages that wait for each handle, in their order. The order of
-- messages to different tasks is seen by nobody.
pub record Scene : Type 0 where
  pub desk : Desk
  pub waits : ℕ → List Parcel
  pub share : Share
  pub before : Before
  pub marks : Marks

abbrev pub scene_of : Desk → Share → Before → Marks → Scene
scene_of d s b m = record {
  desk = with_queue [] d;
  waits = λ h. filter (is_to h) d.post.queued;
  share = s;
  before = b;
  marks = m;
}

-- all messages that wait, task by task
abbrev pub waiting : Scene → List Parcel
waiting x = flat_map (λ (s : Seat). x.waits s.handle) x.desk.post.seats

-- all messages that wait or are held
abbrev pub live : Scene → List Parcel
live x = waiting x ++ flat_map (λ (s : Seat). held_list s.holds) x.desk.post.seats

-- the message in a block of the module area
abbrev pub message_of_scene : Scene → ℕ → Option Parcel
message_of_scene x block = find (λ (p : Parcel). p.block == block) (live x)
