-- A task's beginning.
use Rattle.rh_tasks.proofs.Common.{◌≡◌, ℕ, ◌+◌, ◌<◌, ◌≤◌, ◌^◌, Bool, true, false, refl, ap, sym, ◌∙◌, arith, List, [], ◌∷◌, ◌++◌, length, map, None, Ok, Err}
use Rattle.rh_tasks.proofs.Common.{IsNone, nat_lt, list_any, length-map, Memory, OnlyArea, open_below, FileList, MAX_AREAS, Refusal, NoRoom, ◌>>=◌, refuse_if}
use Rattle.rh_tasks.proofs.Common.{outcome_of, in_range, Desk, IsSlotIn, slot_in, IsQueue, joined_chains, Seat, MadeArea, Kept, the_module, task_of, desk_of}
use Rattle.rh_tasks.proofs.Common.{is_named}
use Rattle.rh_tasks.proofs.Common.{IsWorld, begins, ends, past, stops, granted-same, le-true, le-false, done-refused, free-is, few-made, granted-keeps}
use Rattle.rh_defs.specs.declared.command.Manner.{Manner}
use Rattle.rh_defs.specs.declared.command.Command.TheVariants as command
use Rattle.rh_defs.specs.declared.refusal.Refusal.TheVariants.{NameInUse, TooManyTasks, NoHandles}
use Rattle.rh_defs.specs.declared.reply.Reply.TheVariants as reply
use Rattle.rh_defs.specs.Slot as plain
use Rattle.rh_defs.specs.Post as post
use Rattle.rh_defs.specs.Desk.{most_tasks}
use Rattle.rh_defs.specs.Commands.{start_task}
use Rattle.rh_slot.specs.declared.slot.Slot.{Slot}
use Rattle.rh_tasks.proofs.Finding.{named-any}
use Rattle.rh_tasks.proofs.Joins.{joined-desk, joined-world}

begun-if : (b : Bool) → Ok tt ≡ outcome_of (refuse_if b NoRoom >>= λ _. Ok plain.new_slot) → (refuse_if b NoRoom >>= λ _. Ok plain.new_slot) ≡ Ok plain.new_slot
unfolding ◌>>=◌ refuse_if
begun-if true e = absurd (cc)
begun-if false e = refl

-- a slot that began is a new one
pub begun : (free : ℕ) → Ok tt ≡ outcome_of (plain.slot_begin free) → plain.slot_begin free ≡ Ok plain.new_slot
unfolding plain.slot_begin
begun free e = begun-if (nat_lt free (plain.slot_pages plain.new_slot)) e

module _ {m : Memory} {seats : List Seat} {made : List MadeArea} {files : FileList} {kept : Kept} (name : List ℕ) (buffer : ℕ) (manner : Manner)
    (w : IsWorld m seats made files kept) where
  abbrev d : Desk
  d = desk_of m seats made files kept

  pub name-in-use : list_any (is_named name) seats ≡ true → start_task d name buffer manner ≡ Err NameInUse
  unfolding start_task
  name-in-use h = stops _ _ _ (sym (named-any m name seats) ∙ h)

  module _ (unused : list_any (is_named name) seats ≡ false) where
    pub too-many : most_tasks ≤ length seats → start_task d name buffer manner ≡ Err TooManyTasks
    unfolding start_task
    too-many many = past _ _ _ (sym (named-any m name seats) ∙ unused) (stops _ _ _
        (le-true most_tasks (length (map (task_of m) seats)) (omega (arith, many, length-map seats (task_of m)))))

    module _ (few : length seats < most_tasks) where
      few-tasks : length (map (task_of m) seats) < most_tasks
      few-tasks = omega (arith, few, length-map seats (task_of m))

      -- one more area can be opened
      pub can-open : open_below m.area MAX_AREAS < MAX_AREAS
      can-open = omega (arith, w.areas.count, few, few-made w)

      pub no-handles : 2 ^ 32 ≤ kept.next.handle → start_task d name buffer manner ≡ Err NoHandles
      unfolding start_task
      no-handles used = past _ _ _ (sym (named-any m name seats) ∙ unused)
          (past _ _ _ (le-false most_tasks _ few-tasks) (stops _ _ _ (le-true (2 ^ 32) kept.next.handle used)))

      module _ (some : kept.next.handle < 2 ^ 32) where
        pub no-room : {r : Refusal} → Err r ≡ outcome_of (plain.slot_begin m.free) → start_task d name buffer manner ≡ Err r
        unfolding start_task
        no-room e =
            past _ _ _ (sym (named-any m name seats) ∙ unused) (past _ _ _ (le-false most_tasks _ few-tasks)
            (past _ _ _ (le-false (2 ^ 32) kept.next.handle some)
            (ends _ (ap plain.slot_begin (free-is w) ∙ done-refused (plain.slot_begin m.free) e))))

        module _ {n : Memory} (slot : Slot) (is : slot_in n slot ≡ plain.new_slot) (begins_so : Ok tt ≡ outcome_of (plain.slot_begin m.free))
            (none : IsNone (m.area slot.area.0)) (low : slot.area.0 < MAX_AREAS) (only : OnlyArea m n slot.area.0) (still : IsSlotIn n slot) where
          abbrev seat : Seat
          seat = record { handle = kept.next.handle; name = name; buffer = buffer; manner = manner; slot = slot; sending = []; taking = []; last_sent = None }

          abbrev then : Kept
          then = record kept { next = record kept.next { handle = kept.next.handle + 1 }; queue = joined_chains kept.next.handle kept.queue }

          pub start-done : start_task d name buffer manner ≡ Ok (desk_of n (seats ++ seat ∷ []) made files then, reply.Started kept.next.handle)
          unfolding start_task task_of
          start-done =
              past _ _ _ (sym (named-any m name seats) ∙ unused) (past _ _ _ (le-false most_tasks _ few-tasks)
              (past _ _ _ (le-false (2 ^ 32) kept.next.handle some)
              (begins _ (ap plain.slot_begin (free-is w) ∙ begun m.free begins_so)
              (granted-same (sym (joined-desk seat w none low only still (kept.next.handle + 1)
              ∙ ap (λ (s : plain.Slot). let e : Desk = record (desk_of n (seats ++ seat ∷ []) made files then) {
                tasks = map (task_of m) seats ++ record (task_of n seat) { slot = s } ∷ [];
                post = post.post_join kept.next.handle d.post;
                areas = d.areas;
                made = d.made;
                pool = d.pool;
                scrap = d.scrap;
              } in e) is)) refl))))

          pub start-world : (IsQueue n the_module kept.queue → IsQueue n the_module (joined_chains kept.next.handle kept.queue))
              → in_range (command.Task name buffer manner) ≡ true → IsWorld n (seats ++ seat ∷ []) made files then
          start-world joins ranged = joined-world seat w none low only still (kept.next.handle + 1) joins
              (granted-keeps d _ (command.Task name buffer manner) (reply.Started kept.next.handle) start-done ranged w.desk)
