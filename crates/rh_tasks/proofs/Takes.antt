-- The next message for a task, taken from the queue.
use Rattle.rh_tasks.proofs.Common.{◌≡◌, ℕ, ◌≤◌, ◌<◌, true, false, cond, refl, ap, sym, subst, ◌∙◌, arith, List, [], ◌∷◌, length, Option, map, ◌==◌}
use Rattle.rh_tasks.proofs.Common.{option_map, get_or, set, length-map, Memory, bytes, OnlyArea-self, FileList, Post, post_poll, Desk, Task, edit_task}
use Rattle.rh_tasks.proofs.Common.{with_task, with_delivered, IsDesk, IsReordered, IsSlotIn, Answers, Chains, HasEntry, SpellsPostIn, Seat, MadeArea, ScrapFile}
use Rattle.rh_tasks.proofs.Common.{Kept, the_module, scrap_size, HasSlot, task_of, desk_of, IsWorld, IsAt, Sits, set_same, all-at, cons, mapped-is, Moves}
use Rattle.rh_defs.specs.declared.message.Event.{Event}
use Rattle.rh_defs.specs.Post.{put_down}
use Rattle.rh_defs.proofs.Desks.{answered-keeps, with_delivered-keeps}
use Rattle.rh_defs.proofs.PostKeeps.{post_poll-kept, put_down-sent, same-sent}
use Rattle.rh_wimp.specs.QueueCalls.{LeavesChains}
use Rattle.rh_wimp.specs.Chains.{event_as}
use Rattle.rh_tasks.specs.View.{kept_file}
use Rattle.rh_tasks.proofs.Posts.{is-post, has-entry}
use Rattle.rh_tasks.proofs.Deaths.{scrap-kept, kept-fits}
use Rattle.rh_tasks.proofs.Sends.{desk_then, sent-alike, sent-world}

-- an edit that changes nothing
unedited : (h : ℕ) (tasks : List Task) → edit_task h (λ t. t) tasks ≡ tasks
unedited h [] = refl
unedited h (t ∷ tasks) =
    elim (t.handle == h) as (λ b. cond b (t ∷ tasks) (t ∷ edit_task h (λ x. x) tasks) ≡ t ∷ tasks) [ true ↦ refl | false ↦ cons refl (unedited h tasks) ]

module _ {m : Memory} {seats : List Seat} {made : List MadeArea} {files : FileList} {kept : Kept}
    (w : IsWorld m seats made files kept) where
  abbrev d : Desk
  d = desk_of m seats made files kept

  -- a place that the desk has
  pub seat-in : {i : ℕ} {s : Seat} → i < length (map (task_of m) seats) → get_or seats i s ≡ s → Sits seats i s
  seat-in inside is = record { inside = omega (arith, inside, length-map seats (task_of m)); is = is }

  module _ {i : ℕ} {s : Seat} (at : Sits seats i s) where
    pub seat-live : HasEntry s.handle kept.queue
    seat-live = has-entry w at

    -- the task there has the handle
    same-handle : (t : Task) → IsAt i t d → s.handle ≡ t.handle
    unfolding task_of
    same-handle t there = ap (λ (x : Task). x.handle) (mapped-is (task_of m) seats i s t at there)

    pub event-is : (event : Option Event) → Answers m the_module kept.queue (λ post. option_map (event_as true) (post_poll s.handle post).1) event
        → (t : Task) → IsAt i t d → event ≡ option_map (event_as true) (post_poll t.handle d.post).1
    event-is event a t there =
        a d.post (is-post w) ∙ ap (λ h. option_map (event_as true) (post_poll h d.post).1) (same-handle t there)

    module _ {n : Memory} {k : Chains} {next : Post → Post} (l : LeavesChains m n the_module kept.queue k next) where
      abbrev pub post_after : Post
      post_after = next d.post

      abbrev pub file_after : Option ScrapFile
      file_after = kept_file post_after kept.scrap

      has : IsSlotIn m s.slot
      has = all-at (HasSlot m) seats i s w.areas.slots at

      stays : Moves m m s s (λ t. t)
      stays = record { handle = refl; area = refl; still = has; only = OnlyArea-self m s.slot.area.0 has.opened; task = refl }

      fits : scrap_size file_after ≤ length (bytes m 5)
      fits = kept-fits post_after kept.scrap _ w.scrap

      after : Desk
      after = with_delivered post_after d

      abbrev then : Desk
      then = desk_then w at stays l file_after fits

      then-is : then ≡ after
      unfolding after with_delivered with_task
      then-is = rw (unedited s.handle (map (task_of m) seats), scrap-kept m post_after kept.scrap) refl

      abbrev pub kept_then : Kept
      kept_then = record kept { queue = k; scrap = file_after }

      -- the post that the queue spells then
      pub spells-after : SpellsPostIn n the_module k post_after
      spells-after = l.spells d.post (is-post w)

      module _ (good : IsDesk (with_delivered (next d.post) d)) where
        then-desk : IsDesk then
        unfolding after
        then-desk = subst IsDesk (sym then-is) good

        pub delivered-world : IsWorld n seats made files kept_then
        delivered-world =
            subst (λ (l : List Seat). IsWorld n l made files kept_then) (set_same seats i s at) (sent-world w at stays l file_after fits then-desk)

        pub delivered-here : IsReordered (with_delivered post_after d) (desk_of n seats made files kept_then)
        unfolding after
        delivered-here =
            subst (λ (l : List Seat). IsReordered (with_delivered post_after d) (desk_of n l made files kept_then)) (set_same seats i s at)
            (subst (λ (x : Desk). IsReordered x (desk_of n (set seats i s) made files kept_then)) then-is
            (sent-alike w at stays l file_after fits then-desk))

    -- ---- a poll

    good-poll : IsDesk (with_delivered (post_poll s.handle d.post).0 d)
    good-poll = with_delivered-keeps (post_poll s.handle d.post).0 d (post_poll-kept s.handle d.post w.desk.post) w.desk

    module _ {n : Memory} {k : Chains} (l : LeavesChains m n the_module kept.queue k (λ post. (post_poll s.handle post).0)) where
      pub taken-world : IsWorld n seats made files (kept_then l)
      taken-world = delivered-world l good-poll

      pub taken-alike : (t : Task) → IsAt i t d → IsReordered (with_delivered (post_poll t.handle d.post).0 d) (desk_of n seats made files (kept_then l))
      taken-alike t there =
          subst (λ h. IsReordered (with_delivered (post_poll h d.post).0 d) (desk_of n seats made files (kept_then l))) (same-handle t there)
          (delivered-here l good-poll)

    -- ---- what a task holds is put down

    pub good-answer : IsDesk (with_delivered (put_down s.handle d.post) d)
    good-answer = answered-keeps (put_down s.handle d.post) d (put_down-sent 0 s.handle d.post d.post (same-sent 0 d.post w.desk.post)) w.desk
