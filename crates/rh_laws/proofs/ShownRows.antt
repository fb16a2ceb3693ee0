-- Worked runs of what tasks may show, and a block that has what its pages had, on which shown_law fails.
use Rattle.rh_laws.proofs.Common.{[], after, all_in_range, AllByRecursion, Answer, Command, Desk, false, Flex, free_pages, fresh, Granted}
use Rattle.rh_laws.proofs.Common.{hex_on_literals, in_range, length, List, map, named, None, Ok, Option, or_else, Parcel, refl, Scrap, script, slot_alloc}
use Rattle.rh_laws.proofs.Common.{slot_put, Some, String, subst, Task, task_at, true, with_slot, ℕ, ◌%◌, ◌++◌, ◌>>=◌, ◌∷◌, ◌≡◌}
use Rattle.rh_defs.specs.declared.command.Command.TheVariants as command
use Rattle.rh_defs.specs.declared.reply.Reply.TheVariants as reply
use Rattle.rh_defs.specs.Runs.{start}
use Rattle.rh_defs.specs.Inner.Computing.{computing_script}
use Rattle.rh_safety.proofs.SafetyRows.{prefixes}
use Rattle.rh_laws.specs.Renaming.{renamed_command}
use Rattle.rh_laws.specs.MayShow.{AreAmong, may_show, ShowsOwn}

-- the bytes of each flex block of the live task with a handle
abbrev blocks_at : Option Task → List (List ℕ)
blocks_at None = []
blocks_at (Some t) = map (λ (b : Flex). b.bytes) t.slot.blocks

abbrev blocks_of_two : Desk → List (List ℕ)
blocks_of_two d = blocks_at (task_at 2 d)

-- what the tasks with handles 1 to 3 may show after each command
abbrev may_show_each : List String → List (List (List ℕ))
may_show_each lines = map (λ commands. map (may_show fresh commands) (1 ∷ 2 ∷ 3 ∷ [])) (prefixes (script lines))

-- a puts two bytes, and offers them to b; while that goes on a put of a is refused
abbrev offered_once : List String
offered_once = "task a 4" ∷ "task b 4" ∷ "alloc a 0 3" ∷ "put a 0 0 0708" ∷ "save a 0 b x" ∷ "put a 0 0 06" ∷ "poll b" ∷ "poll a"
    ∷ "put a 0 0 09" ∷ "kill a" ∷ "poll b" ∷ "task c 4" ∷ "alloc c 0 2" ∷ []

each_may_show : may_show_each offered_once ≡
    ((0 ∷ []) ∷ (0 ∷ []) ∷ (0 ∷ []) ∷ [])
    ∷ ((0 ∷ []) ∷ (0 ∷ []) ∷ (0 ∷ []) ∷ [])
    ∷ ((0 ∷ []) ∷ (0 ∷ []) ∷ (0 ∷ []) ∷ [])
    ∷ ((0 ∷ 7 ∷ 8 ∷ []) ∷ (0 ∷ []) ∷ (0 ∷ []) ∷ [])
    ∷ ((0 ∷ 7 ∷ 8 ∷ []) ∷ (0 ∷ 7 ∷ 8 ∷ 0 ∷ []) ∷ (0 ∷ []) ∷ [])
    ∷ ((0 ∷ 7 ∷ 8 ∷ []) ∷ (0 ∷ 7 ∷ 8 ∷ 0 ∷ []) ∷ (0 ∷ []) ∷ [])
    ∷ ((0 ∷ 7 ∷ 8 ∷ []) ∷ (0 ∷ 7 ∷ 8 ∷ 0 ∷ []) ∷ (0 ∷ []) ∷ [])
    ∷ ((0 ∷ 7 ∷ 8 ∷ []) ∷ (0 ∷ 7 ∷ 8 ∷ 0 ∷ []) ∷ (0 ∷ []) ∷ [])
    ∷ ((0 ∷ 7 ∷ 8 ∷ 9 ∷ []) ∷ (0 ∷ 7 ∷ 8 ∷ 0 ∷ []) ∷ (0 ∷ []) ∷ [])
    ∷ ((0 ∷ 7 ∷ 8 ∷ 9 ∷ []) ∷ (0 ∷ 7 ∷ 8 ∷ 0 ∷ []) ∷ (0 ∷ []) ∷ [])
    ∷ ((0 ∷ 7 ∷ 8 ∷ 9 ∷ []) ∷ (0 ∷ 7 ∷ 8 ∷ 0 ∷ []) ∷ (0 ∷ []) ∷ [])
    ∷ ((0 ∷ 7 ∷ 8 ∷ 9 ∷ []) ∷ (0 ∷ 7 ∷ 8 ∷ 0 ∷ []) ∷ (0 ∷ []) ∷ [])
    ∷ ((0 ∷ 7 ∷ 8 ∷ 9 ∷ []) ∷ (0 ∷ 7 ∷ 8 ∷ 0 ∷ []) ∷ (0 ∷ []) ∷ [])
    ∷ []
unfolding computing_script hex_on_literals
each_may_show = refl

b_has : blocks_of_two (after fresh (script offered_once)) ≡ (7 ∷ 8 ∷ 0 ∷ []) ∷ []
unfolding computing_script hex_on_literals
b_has = refl

-- the first task loads a file of two bytes
loaded : may_show (start 64 ((102 ∷ [], 5 ∷ 6 ∷ []) ∷ [])) (script ("task a 4" ∷ "load a 0 f" ∷ [])) 1 ≡ 0 ∷ 5 ∷ 6 ∷ []
unfolding computing_script hex_on_literals
loaded = refl

-- a, which answers no fetch, is asked for a file: the scrap file waits for b with bytes that b may show
abbrev filed_once : Desk
filed_once =
    after fresh (script ("task a 4 file" ∷ "task b 4" ∷ "alloc a 0 2" ∷ "put a 0 0 0708" ∷ "save a 0 b x" ∷ "poll b" ∷ "poll a" ∷ "poll b"
    ∷ "poll a" ∷ "poll b" ∷ "poll a" ∷ []))

abbrev load_and_bytes : Option Scrap → List ℕ
load_and_bytes None = []
load_and_bytes (Some file) = file.load ∷ file.bytes

file_bytes : load_and_bytes filed_once.scrap ≡ 4 ∷ 7 ∷ 8 ∷ []
unfolding computing_script hex_on_literals
file_bytes = refl

load_waits : map (λ (p : Parcel). p.message.my_ref ∷ p.to ∷ []) filed_once.post.queued ≡ (4 ∷ 2 ∷ []) ∷ []
unfolding computing_script hex_on_literals
load_waits = refl

-- ---- marks

-- a and b put one byte, 7, each under a mark of its own, and b is offered a's
abbrev marked : List Command
marked =
    script ("task a 4" ∷ "task b 4" ∷ "alloc a 0 2" ∷ "alloc b 1 2" ∷ [])
    ++ (command.Put (97 ∷ []) 0 0 (1007 ∷ 1008 ∷ []) ∷ command.Put (98 ∷ []) 1 0 (2007 ∷ 2009 ∷ [])
    ∷ script ("save a 0 b x" ∷ "poll b" ∷ "poll a" ∷ "poll b" ∷ []))

in_range_marked : all_in_range marked ≡ true
unfolding computing_script hex_on_literals in_range
in_range_marked = refl

marks_of_b : may_show fresh marked 2 ≡ 0 ∷ 2007 ∷ 2009 ∷ 1007 ∷ 1008 ∷ []
unfolding computing_script hex_on_literals
marks_of_b = refl

-- the marks that b has, and the bytes
marks_had : blocks_of_two (after fresh marked) ≡ (2007 ∷ 2009 ∷ []) ∷ (1007 ∷ 1008 ∷ []) ∷ []
unfolding computing_script hex_on_literals
marks_had = refl

bytes_had : blocks_of_two (after fresh (map (renamed_command (λ mark. mark % 1000)) marked)) ≡ (7 ∷ 9 ∷ []) ∷ (7 ∷ 8 ∷ []) ∷ []
unfolding computing_script hex_on_literals
bytes_had = refl

-- ---- a block that has what its pages had

-- a block on top of the task's slot with bytes that were left there
abbrev wrong_alloc : Desk → List ℕ → ℕ → List ℕ → Granted Answer
wrong_alloc d name k there = do
  t ← named name d
  p ← slot_alloc (free_pages d) k (length there) t.slot
  s ← slot_put k 0 there p.0
  Ok (with_slot t.handle s d, reply.Block p.1)

-- a had two bytes in its block, and ended
abbrev ended : List String
ended = "task a 4" ∷ "alloc a 0 3" ∷ "put a 0 0 0708" ∷ "kill a" ∷ "task b 4" ∷ []

abbrev wrong_desk : Desk
wrong_desk =
    let d : Desk = after fresh (script ended) in
    (or_else (wrong_alloc d (98 ∷ []) 0 (7 ∷ 8 ∷ 0 ∷ [])) (λ refusal. (d, reply.Refused refusal))).0

wrong_blocks : blocks_of_two wrong_desk ≡ (7 ∷ 8 ∷ 0 ∷ []) ∷ []
unfolding computing_script hex_on_literals
wrong_blocks = refl

new_may : may_show fresh (script ended) 2 ≡ 0 ∷ []
unfolding computing_script hex_on_literals
new_may = refl

-- so the law fails of it
wrong_law : ShowsOwn wrong_desk (may_show fresh (script ended)) → ⊥
wrong_law shows = by (task_at 2 wrong_desk) refl wrong_blocks
  where
    of_blocks : (bs : List Flex) → map (λ (b : Flex). b.bytes) bs ≡ (7 ∷ 8 ∷ 0 ∷ []) ∷ [] →
        AllByRecursion (λ (b : Flex). AreAmong (may_show fresh (script ended) 2) b.bytes) bs → ⊥
    of_blocks [] q all = absurd cc
    of_blocks (b ∷ bs) q all =
        let is : b.bytes ≡ 7 ∷ 8 ∷ 0 ∷ [] = cc in
        let old : AreAmong (0 ∷ []) (7 ∷ 8 ∷ 0 ∷ []) = subst (λ bytes. AreAmong (0 ∷ []) bytes) is
        (subst (λ list. AreAmong list b.bytes) new_may all.0) in
        let z : false ≡ true = old.0 in cc

    by : (v : Option Task) → task_at 2 wrong_desk ≡ v → blocks_at v ≡ (7 ∷ 8 ∷ 0 ∷ []) ∷ [] → ⊥
    by None at q = absurd cc
    by (Some t) at q = of_blocks t.slot.blocks q (shows.blocks 2 t at)
