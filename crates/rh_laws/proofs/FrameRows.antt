-- Worked runs of what commands leave of other tasks, and runs with one definition changed, on which frame_law fails.
use Rattle.rh_laws.proofs.Common.{◌≡◌, ℕ, List, [], ◌∷◌, ◌++◌, Option, Some, None, map, refl, sym, ap, ◌∙◌, subst, inl, inr, nat_lt, codes, filter}
use Rattle.rh_laws.proofs.Common.{find, false, Ok, option_map, hex_on_literals, String, NotOpen, Reply, Taking, Incoming, Granted, ◌>>=◌, found_or, or_else}
use Rattle.rh_laws.proofs.Common.{Segment, Used, in_id, with_id, Desk, Task, named, task_at, with_taking, Answer, kill, after, step, Has, has_of, fresh}
use Rattle.rh_laws.proofs.Common.{script, Rules, landed, run_of}
use Rattle.rh_defs.specs.declared.reply.Reply.TheVariants as reply
use Rattle.rh_defs.specs.declared.command.Command.TheVariants as command
use Rattle.rh_defs.specs.declared.transfer.Incoming.TheVariants as incoming
use Rattle.rh_defs.specs.Receiver as receiver
use Rattle.rh_defs.specs.IncomingEvents.{end_failed}
use Rattle.rh_defs.specs.Inner.Computing.{computing_script}
use Rattle.rh_safety.specs.TaskRecords.{HoldsOne}
use Rattle.rh_laws.specs.Frame.{FillsBuffer, actor, sent_in}

-- ---- a fetch that is answered

-- six bytes are offered to a task whose buffers have five, in blocks of twelve; it asks for them
abbrev fetched : List String
fetched = "task a 4" ∷ "task b 5" ∷ "task c 4" ∷ "alloc a 0 6" ∷ "put a 0 0 010203040506" ∷ "alloc b 7 2"
    ∷ "save a 0 b doc" ∷ "poll b" ∷ []

abbrev at_fetch : Desk
at_fetch = after fresh (script fetched)

-- the task with the segments in its C heap
abbrev with_segments : List Segment → Task → Task
with_segments segments t = record t { slot = record t.slot { heap = record t.slot.heap { segments = segments } } }

-- the poll fills the first five bytes of the buffer, and nothing else of the task that asked is changed
filled_front : task_at 2 (step at_fetch (command.Poll (codes "a"))).0 ≡
    option_map (with_segments (Used (1 ∷ 2 ∷ 3 ∷ 4 ∷ 5 ∷ 0 ∷ 0 ∷ 0 ∷ 0 ∷ 0 ∷ 0 ∷ 0 ∷ []) ∷ [])) (task_at 2 at_fetch)
unfolding computing_script hex_on_literals
filled_front = refl

five_sent : sent_in (step at_fetch (command.Poll (codes "a"))).1 ≡ Some 5
unfolding computing_script hex_on_literals
five_sent = refl

-- a third task is as it was
third_left : task_at 3 (step at_fetch (command.Poll (codes "a"))).0 ≡ task_at 3 at_fetch
unfolding computing_script hex_on_literals
third_left = refl

-- whose commands are
actors : actor (command.Free (codes "b") 7) at_fetch ∷ actor (command.Free (codes "d") 7) at_fetch
    ∷ actor (command.Make 1) at_fetch ∷ [] ≡ Some 2 ∷ None ∷ None ∷ []
unfolding computing_script hex_on_literals
actors = refl

-- ---- a cancel that frees the buffer at once

abbrev freed : Incoming → Task → Desk → Desk
freed (incoming.Fetching f) t d = end_failed d t f
freed r t d = with_taking t.handle (with_id in_id (in_id r) (receiver.cancelled r)) d

abbrev cancels_at_once : Desk → List ℕ → Option ℕ → Granted Answer
cancels_at_once d name id = do
  t ← named name d
  r ← found_or (find (receiver.is_wanted id) t.taking) NotOpen
  Ok (freed r t d, reply.Done)

abbrev early_free : Rules
early_free = record landed { cancels = cancels_at_once }

-- the blocks of a task's C heap, and its records of transfers that come in
abbrev heap_and_records : Rules → List String → Option (List Segment × List Incoming)
heap_and_records rules lines = option_map (λ (t : Task). (t.slot.heap.segments, t.taking)) (task_at 2 (run_of rules lines).desk)

-- the receiver gives the transfer up, and claims a block of its own
abbrev claimed : List String
claimed = "task a 4" ∷ "task b 4" ∷ "alloc a 0 6" ∷ "put a 0 0 010203040506" ∷ "save a 0 b doc" ∷ "poll b" ∷ "cancel b in"
    ∷ "claim b 4" ∷ []

wrong_before : heap_and_records early_free claimed ≡ Some (Used (0 ∷ 0 ∷ 0 ∷ 0 ∷ []) ∷ [], incoming.Failed 1 0 0 ∷ [])
unfolding computing_script hex_on_literals
wrong_before = refl

-- the sender's poll writes into that block, though the receiver holds no buffer
wrong_buffer : heap_and_records early_free (claimed ++ "poll a" ∷ []) ≡
    Some (Used (1 ∷ 2 ∷ 3 ∷ 4 ∷ []) ∷ [], incoming.Failed 1 0 0 ∷ [])
unfolding computing_script hex_on_literals
wrong_buffer = refl

-- a transfer that drains keeps its buffer, and the block that was claimed is another
right_buffer : heap_and_records landed (claimed ++ "poll a" ∷ []) ≡ Some (
  Used (1 ∷ 2 ∷ 3 ∷ 4 ∷ []) ∷ Used (0 ∷ 0 ∷ 0 ∷ 0 ∷ []) ∷ [],
  incoming.Draining (record {
    id = 1;
    sender = 1;
    anchor = 0;
    buffer = 0x8114;
    count = 0;
    fetch = 2;
    raw = false;
  }) ∷ [],
)
unfolding computing_script hex_on_literals
right_buffer = refl

-- no buffer is filled of a task whose records have all ended
wrong_law : (sender t : Task) (h : ℕ) (now : Option Task) (said : Reply) → t.taking ≡ incoming.Failed 1 0 0 ∷ [] →
    FillsBuffer sender h (Some t) now said → ⊥
wrong_law sender t h now said ended w = none w.receiver (let z : t ≡ w.receiver = let y = w.was in cc in
    ap (λ (u : Task). u.taking) (sym z) ∙ ended) w.into w.holds
  where
    none : (u : Task) → u.taking ≡ incoming.Failed 1 0 0 ∷ [] → (f : Taking) → HoldsOne u f → ⊥
    none u e f (inl has) = elim (subst (λ (ws : List Incoming). Has (incoming.Fetching f) ws) e (has_of u.taking (incoming.Fetching f)
        has)) [ inl same ↦ cc | inr rest ↦ rest ]
    none u e f (inr has) = elim (subst (λ (ws : List Incoming). Has (incoming.Draining f) ws) e (has_of u.taking (incoming.Draining f)
        has)) [ inl same ↦ cc | inr rest ↦ rest ]

-- ---- a kill that ends the tasks of lower handles too

abbrev kills_lower : Desk → List ℕ → Granted Answer
kills_lower d name = do
  t ← named name d
  killed ← kill d name
  Ok (record killed.0 { tasks = filter (λ (other : Task). nat_lt t.handle other.handle) d.tasks }, reply.Done)

abbrev two_tasks : List String
two_tasks = "task a 4" ∷ "task b 4" ∷ []

-- the names of the live tasks after b was killed
abbrev left_by : (Desk → List ℕ → Granted Answer) → List (List ℕ)
left_by kills = let d : Desk = after fresh (script two_tasks) in
    map (λ (t : Task). t.name) (or_else (kills d (codes "b")) (λ refusal. (d, reply.Refused refusal))).0.tasks

wrong_kill : left_by kills_lower ≡ []
unfolding computing_script hex_on_literals
wrong_kill = refl

right_kill : left_by kill ≡ codes "a" ∷ []
unfolding computing_script hex_on_literals
right_kill = refl
