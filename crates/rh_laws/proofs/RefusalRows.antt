-- Worked rows of the table of refusals, and commands that ask in another order or ask too little, of which the law doesn't hold.
use Rattle.rh_laws.proofs.Common.{◌≡◌, refl, ℕ, ◌+◌, ℤ, pos, Bool, true, false, ◌&&◌, ◌==◌, List, [], ◌∷◌, ◌++◌, length, map, filter, find, replicate, codes}
use Rattle.rh_laws.proofs.Common.{Option, Some, None, Ok, String, Refusal, NoName, NoBlock, AnchorInUse, NotABlock, Busy, NotOpen, NothingSent, BadRange}
use Rattle.rh_laws.proofs.Common.{BadSize, NoTask, NoBudge, NoRoom, Command, Granted, ◌>>=◌, ◌>>◌, refuse_if, found_or, or_else, moved, length_with}
use Rattle.rh_laws.proofs.Common.{lacks_room, slot_free, slot_mid, Desk, free_pages, has_name, idle_block, named, next_ref, send_letter, with_sending}
use Rattle.rh_laws.proofs.Common.{with_slot, Answer, save_letter, step, start_with, after, script}
use Rattle.rh_defs.specs.declared.refusal.Refusal.TheVariants.{NameInUse, TooManyTasks, NoHandles, NoFile, NotYours, ExcessiveShrink, NoRefs, QueueFull}
use Rattle.rh_defs.specs.declared.refusal.Refusal.TheVariants.{NoArea, TooManyAreas, NoNumbers, TooBig}
use Rattle.rh_defs.specs.declared.reply.Reply.TheVariants as reply
use Rattle.rh_defs.specs.declared.command.Command.TheVariants as command
use Rattle.rh_defs.specs.declared.command.Manner.TheVariants as manner
use Rattle.rh_defs.specs.Sender as sender
use Rattle.rh_defs.specs.Runs.{start}
use Rattle.rh_defs.specs.Inner.Computing.{computing_script}
use Rattle.rh_laws.specs.RefusalOrder.{RefusalRow, first_refusal, refusal_number, refusal_in}
use Rattle.rh_laws.specs.Conditions.{conditions}

-- ---- what the table says along a run

-- a line, and the refusal that the table is to say; none where the command is granted
abbrev Said : Type 0
Said = String × Option Refusal

abbrev is_same : Option Refusal → Option Refusal → Bool
is_same None None = true
is_same (Some a) (Some b) = refusal_number a == refusal_number b
is_same _ _ = false

abbrev agrees : Desk → List Command → List (Option Refusal) → Bool
agrees d [] [] = true
agrees d (c ∷ commands) (r ∷ refusals) = is_same (first_refusal (conditions d c)) r && agrees (step d c).0 commands refusals
agrees d _ _ = false

-- the table says this of each line, from a desk on
abbrev says : Desk → List Said → Bool
says d rows = agrees d (script (map (λ (row : Said). row.0) rows)) (map (λ (row : Said). row.1) rows)

-- names, files, anchors, and what was never sent
names_and_files : says (start 64 ((codes "f", 1 ∷ 2 ∷ 3 ∷ []) ∷ [])) (
    ("task a 100", None)
    ∷ ("load a 0 f", None)
    ∷ ("show a 0", None)
    ∷ ("load a 1 g", Some NoFile)
    ∷ ("load a 0 f", Some AnchorInUse)
    ∷ ("load z 0 f", Some NoName)
    ∷ ("task a 5", Some NameInUse)
    ∷ ("free a 9", Some NoBlock)
    ∷ ("repeat a", Some NothingSent)
    ∷ ("save a 0 q doc", Some NoTask) ∷ []
    ) ≡ true
unfolding computing_script
names_and_files = refl

-- blocks of a slot, ranges, and a heap that may not grow
slots : says (start 64 []) (
    ("task a 100", None)
    ∷ ("alloc a 0 5", None)
    ∷ ("alloc a 1 5", None)
    ∷ ("alloc a 1 5", Some AnchorInUse)
    ∷ ("free a 0", None)
    ∷ ("mid a 1 2 -2", None)
    ∷ ("mid a 1 1 -2", Some BadRange)
    ∷ ("mid a 1 3 2", None)
    ∷ ("mid a 1 6 1", Some BadRange)
    ∷ ("claim a 10", None)
    ∷ ("claim a 10", None)
    ∷ ("resize a &8114 1", None)
    ∷ ("resize a &8134 8", None)
    ∷ ("resize a &8124 -12", Some BadSize)
    ∷ ("resize a &8124 -1", None)
    ∷ ("release a &8118", Some NotABlock)
    ∷ ("claim a 0", Some BadSize)
    ∷ ("budge a off", None)
    ∷ ("claim a 4000", Some NoBudge) ∷ []
    ) ≡ true
unfolding computing_script
slots = refl

-- a pool of 8 pages, whole or a byte too small
whole_pool : (says (start 8 []) (("task a 100", None) ∷ ("alloc a 0 24568", None) ∷ ("claim a 4000", Some NoRoom) ∷ []) ≡ true)
    × (says (start 8 []) (("task a 100", None) ∷ ("alloc a 0 24569", Some NoRoom) ∷ []) ≡ true)
unfolding computing_script
whole_pool = (refl, refl)

-- blocks that a transfer uses, and cancels
transfers : says (start 64 []) (
    ("task a 100", None)
    ∷ ("task b 100", None)
    ∷ ("alloc a 0 5", None)
    ∷ ("save a 0 b doc", None)
    ∷ ("free a 0", Some Busy)
    ∷ ("save a 0 b x", Some Busy)
    ∷ ("cancel a out", None)
    ∷ ("cancel a out", Some NotOpen)
    ∷ ("free a 0", None)
    ∷ ("poll b", None)
    ∷ ("extend b 0 9", Some Busy)
    ∷ ("release b &8114", Some Busy)
    ∷ ("cancel b in", None)
    ∷ ("extend b 0 9", None)
    ∷ ("cancel b in", Some NotOpen)
    ∷ ("release b &8114", Some Busy)
    ∷ ("kill b", None)
    ∷ ("kill b", Some NoName) ∷ []
    ) ≡ true
unfolding computing_script
transfers = refl

-- the module area, which holds a message
module_area : says (start 8 []) (
    ("task a 100", None)
    ∷ ("area 3 1", None)
    ∷ ("alloc a 0 5", None)
    ∷ ("rma claim 4076", None)
    ∷ ("save a 0 a doc", None)
    ∷ ("area 1 -4096", Some ExcessiveShrink)
    ∷ ("rma free &1801004", Some NotYours)
    ∷ ("rma free &1800014", None)
    ∷ ("rma free &1800014", Some NotABlock)
    ∷ ("rma claim 0", Some BadSize)
    ∷ ("rma claim 2147483647", Some NoRoom) ∷ []
    ) ≡ true
unfolding computing_script
module_area = refl

-- areas made at run
made_areas : says (start 8 []) (
    ("task a 100", None)
    ∷ ("make 2", None)
    ∷ ("area 256 4096", None)
    ∷ ("area 256 4097", Some TooBig)
    ∷ ("area 256 4096", None)
    ∷ ("area 256 -8193", Some ExcessiveShrink)
    ∷ ("area 256 16385", Some NoRoom)
    ∷ ("make 1", None)
    ∷ ("remove 256", None)
    ∷ ("remove 256", Some NoArea)
    ∷ ("area 256 99999", Some NoArea)
    ∷ ("area 6 -1", Some NoArea) ∷ []
    ) ≡ true
unfolding computing_script
made_areas = refl

-- handles, refs and numbers that are used up
used_up : (says (start_with 64 [] 4294967295 4294967295) (
    ("task a 100", None)
    ∷ ("task b 100", Some NoHandles)
    ∷ ("alloc a 0 5", None)
    ∷ ("save a 0 a doc", None)
    ∷ ("repeat a", Some NoRefs) ∷ []
    ) ≡ true)
    × (says (record (start 64 []) { next_area = 65535 }) (("make 1", None) ∷ ("make 1", Some NoNumbers) ∷ []) ≡ true)
unfolding computing_script
used_up = (refl, refl)

-- 32 tasks, 32 made areas, and 256 messages
abbrev told_after : Desk → List Command → Command → Option Refusal
told_after d commands c = first_refusal (conditions (after d commands) c)

abbrev numbered : ℕ → List ℕ → List Command
numbered n [] = []
numbered n (x ∷ xs) = command.Task (116 ∷ (65 + n) ∷ []) 100 manner.Plain ∷ numbered (n + 1) xs

abbrev sent_once : List Command
sent_once = script ("task a 100" ∷ "task b 100" ∷ "alloc a 0 5" ∷ "save a 0 b doc" ∷ [])

full : (told_after (start 64 []) (numbered 0 (replicate 31 0)) (command.Task (codes "z") 100 manner.Plain) ≡ None)
    × (told_after (start 64 []) (numbered 0 (replicate 32 0)) (command.Task (codes "z") 100 manner.Plain) ≡ Some TooManyTasks)
    × (told_after (start 64 []) (replicate 31 (command.Make 1)) (command.Make 1) ≡ None)
    × (told_after (start 64 []) (replicate 32 (command.Make 1)) (command.Make 1) ≡ Some TooManyAreas)
    × (told_after (start 64 []) (sent_once ++ replicate 254 (command.Repeat (codes "a"))) (command.Repeat (codes "a")) ≡ None)
    × (told_after (start 64 []) (sent_once ++ replicate 255 (command.Repeat (codes "a"))) (command.Repeat (codes "a")) ≡ Some QueueFull)
unfolding computing_script
full = (refl, refl, refl, refl, refl, refl)

-- ---- several conditions at once

-- all refusals whose conditions hold
abbrev all_refusals : List RefusalRow → List Refusal
all_refusals rows = map (λ (row : RefusalRow). row.0) (filter (λ (row : RefusalRow). row.1) rows)

-- a block that is busy, offered to no task where no ref is left; and a range outside a block that has no room to grow
abbrev busy_source : Desk
busy_source = after (start_with 64 [] 1 4294967295) (script ("task a 100" ∷ "task b 100" ∷ "alloc a 0 5" ∷ "save a 0 b x" ∷ []))

abbrev save_to_none : Command
save_to_none = command.Save (codes "a") 0 (codes "q") (codes "x")

abbrev small_pool : Desk
small_pool = after (start 8 []) (script ("task a 100" ∷ "alloc a 0 5" ∷ []))

abbrev far_outside : Command
far_outside = command.Mid (codes "a") 0 9 (pos 100000)

several : (all_refusals (conditions busy_source save_to_none) ≡ Busy ∷ NoTask ∷ NoRefs ∷ [])
    × (refusal_in (step busy_source save_to_none).1 ≡ Some Busy)
    × (all_refusals (conditions small_pool far_outside) ≡ BadRange ∷ NoRoom ∷ [])
    × (refusal_in (step small_pool far_outside).1 ≡ Some BadRange)
unfolding computing_script
several = (refl, refl, refl, refl)

-- ---- changed commands

abbrev answered : Desk → Granted Answer → Option Refusal
answered d g = refusal_in (or_else g (λ r. (d, reply.Refused r))).1

-- a save that asks for its recipient before its block
abbrev recipient_first : Desk → List ℕ → ℕ → List ℕ → List ℕ → Granted Answer
recipient_first d name k to leaf = do
  t ← named name d
  r ← found_or (find (has_name to) d.tasks) NoTask
  b ← idle_block k t
  sent ← send_letter (save_letter t.handle r.handle (length b.here.bytes) leaf) d
  Ok (with_sending t.handle (sender.sending_offered (next_ref d) r.handle k) sent, reply.Sent (next_ref d))

wrong_save : answered busy_source (recipient_first busy_source (codes "a") 0 (codes "q") (codes "x")) ≡ Some NoTask
unfolding computing_script
wrong_save = refl

-- a mid that asks for room before the range
abbrev room_first : Desk → List ℕ → ℕ → ℕ → ℤ → Granted Answer
room_first d name k offset by = do
  t ← named name d
  b ← idle_block k t
  refuse_if (lacks_room (free_pages d) (length_with b (moved (length b.here.bytes) by) t.slot) t.slot) NoRoom
  s ← slot_mid (free_pages d) k offset by t.slot
  Ok (with_slot t.handle s d, reply.Done)

wrong_mid : answered small_pool (room_first small_pool (codes "a") 0 9 (pos 100000)) ≡ Some NoRoom
unfolding computing_script
wrong_mid = refl

-- a free that doesn't ask whether a transfer uses the block
abbrev free_any : Desk → List ℕ → ℕ → Granted Answer
free_any d name k = do
  t ← named name d
  s ← slot_free k t.slot
  Ok (with_slot t.handle s d, reply.Done)

wrong_free : (answered busy_source (free_any busy_source (codes "a") 0) ≡ None)
    × (first_refusal (conditions busy_source (command.Free (codes "a") 0)) ≡ Some Busy)
unfolding computing_script
wrong_free = (refl, refl)
