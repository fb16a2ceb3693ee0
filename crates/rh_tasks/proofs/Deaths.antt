-- A task's end.
use Rattle.rh_tasks.proofs.Common.{◌≡◌, ◌≢◌, ℕ, ◌+◌, ◌<◌, ◌≤◌, true, false, cond, refl, ap, sym, subst, ◌∙◌, arith, List, length, map, filter, not, ◌==◌}
use Rattle.rh_tasks.proofs.Common.{Option, Some, None, Ok, remove, option_map, Memory, IsOpen, OnlyArea, bytes, closed, total, FileList, in_range, Heap, Post}
use Rattle.rh_tasks.proofs.Common.{Desk, Task, Made, Scrap, task_pages, used_pages, with_delivered, IsDesk, IsReordered, with_queue, MAX_AREAS, IsQueue}
use Rattle.rh_tasks.proofs.Common.{Chains, SpellsPostIn, post_in, Seat, MadeArea, ScrapFile, Kept, the_module, scrap_from, scrap_size, scrap_of, slot_area}
use Rattle.rh_tasks.proofs.Common.{made_area, Avoids, HasSlot, HasAreas, desk_of, task_of, made_of, fixed_pages, IsWorld, FoundSeat, begins, Sits, all-at}
use Rattle.rh_tasks.proofs.Common.{avoids-below, sits, named-is, Stay, tasks-stay, mades-stay, fixed-stay, post-stays, queue-stays, scrap-stays, scrap-fits}
use Rattle.rh_tasks.proofs.Common.{granted-keeps, same-desk}
use Rattle.rh_defs.proofs.MemoryLaws.{free-closed, pages-closed}
use Rattle.rh_defs.specs.declared.reply.Reply.TheVariants as reply
use Rattle.rh_defs.specs.declared.command.Command.TheVariants as command
use Rattle.rh_defs.specs.Post.{post_is_live, post_death}
use Rattle.rh_defs.specs.Desk.{kept_scrap}
use Rattle.rh_defs.specs.Commands.{kill}
use Rattle.rh_wimp.specs.QueueCalls.{LeavesChains}
use Rattle.rh_wimp.proofs.PostCalls.{IsRequeued, post_in-requeued, spells-stays}
use Rattle.rh_tasks.specs.View.{kept_file}
use Rattle.rh_tasks.proofs.Frames.{bytes-stay, heap-stays}
use Rattle.rh_tasks.proofs.Worlds.{handles}
use Rattle.rh_tasks.proofs.Posts.{smaller, is-post, module-length, end-is}
use Rattle.rh_tasks.proofs.Fixed.{changed-areas, fixed-rest}
use Rattle.rh_tasks.proofs.Joins.{closed-stay, high, off-mades, left-tasks, left-areas, left-pages}
use Rattle.rh_tasks.proofs.Reorders.{desk-reordered}

-- the scrap file that is kept is the desk's
pub scrap-kept : (m : Memory) (post : Post) (scrap : Option ScrapFile) → scrap_of m (kept_file post scrap) ≡ kept_scrap post (scrap_of m scrap)
unfolding scrap_of
scrap-kept m post None = refl
scrap-kept m post (Some file) =
    let has : ScrapFile → Option Scrap = λ x. Some (scrap_from (bytes m 5) x) in
    elim (post_is_live file.load post) as (λ b. option_map (scrap_from (bytes m 5)) (cond b (Some file) None) ≡ cond b (has file) None)
    [ true ↦ refl | false ↦ refl ]

pub kept-fits : (post : Post) (scrap : Option ScrapFile) (n : ℕ) → scrap_size scrap ≤ n → scrap_size (kept_file post scrap) ≤ n
kept-fits post None n fits = fits
kept-fits post (Some file) n fits =
    elim (post_is_live file.load post) as (λ b. scrap_size (cond b (Some file) None) ≤ n) [ true ↦ fits | false ↦ omega arith ]

module _ {m n : Memory} {seats : List Seat} {made : List MadeArea} {files : FileList} {kept : Kept} {name : List ℕ} {i : ℕ} {s : Seat} {k : Chains}
    (w : IsWorld m seats made files kept) (f : FoundSeat name seats i s) (low : s.slot.area.0 < MAX_AREAS)
    (l : LeavesChains m n the_module kept.queue k (post_death s.handle)) where
  abbrev id : ℕ
  id = s.slot.area.0

  abbrev p : Memory
  p = closed n id

  abbrev d : Desk
  d = desk_of m seats made files kept

  abbrev pub death : Post
  death = post_death s.handle (post_in m the_module kept.queue)

  -- what is kept
  abbrev pub then : Kept
  then = record kept { queue = k; scrap = kept_file death kept.scrap }

  -- what the definition gives
  abbrev dead : Desk
  dead = record (with_delivered death d) { tasks = filter (λ (t : Task). not (t.handle == s.handle)) d.tasks }

  abbrev now : Desk
  now = desk_of p (remove seats i) made files then

  kill-is : kill d name ≡ Ok (dead, reply.Done)
  unfolding kill task_of
  kill-is = begins _ (named-is m made files kept f) refl

  module-only : OnlyArea m n 1
  module-only = l.only

  beside : Stay m n 1
  beside = record { others = module-only.others }

  areas-then : HasAreas n seats made
  areas-then = changed-areas w.areas (omega arith) module-only l.still.area

  at : Sits seats i s
  at = sits f

  closes : Stay n p id
  closes = closed-stay n id

  not-module : 1 ≢ id
  not-module q = absurd (omega (arith, high areas-then at low))

  not-scrap : 5 ≢ id
  not-scrap q = absurd (omega (arith, high areas-then at low))

  off-seats : Avoids 1 (map slot_area seats)
  off-seats = avoids-below slot_area 6 1 seats (omega arith) w.areas.slots_above

  off-made : Avoids 1 (map made_area made)
  off-made = avoids-below made_area 6 1 made (omega arith) w.areas.made_above

  tasks-are : map (task_of p) (remove seats i) ≡ dead.tasks
  unfolding with_delivered
  tasks-are = left-tasks areas-then at low (handles w) ∙ ap (filter (λ (t : Task). not (t.handle == s.handle))) (tasks-stay seats beside off-seats)

  areas-are : fixed_pages p ≡ fixed_pages m
  areas-are = fixed-stay closes (high areas-then at low) ∙ fixed-rest beside

  made-are : map (made_of p) made ≡ map (made_of m) made
  made-are = mades-stay made closes (off-mades areas-then at low) ∙ mades-stay made beside off-made

  scrap-is : scrap_of p then.scrap ≡ kept_scrap death d.scrap
  scrap-is =
      scrap-kept p death kept.scrap
      ∙ ap (kept_scrap death) (scrap-stays kept.scrap closes not-scrap ∙ scrap-stays kept.scrap beside (λ q. absurd (omega arith)))

  dead-kept : in_range (command.Kill name) ≡ true → IsDesk dead
  dead-kept ranged = granted-keeps d dead (command.Kill name) reply.Done kill-is ranged w.desk

  module _ (ranged : in_range (command.Kill name) ≡ true) where
    post-is : IsRequeued death (post_in n the_module k)
    unfolding with_delivered
    post-is =
        post_in-requeued n the_module k death (smaller w module-only) l.still.area (l.spells (post_in m the_module kept.queue) (is-post w))
        (dead-kept ranged).post.held

    post-now : IsRequeued death (post_in p the_module k)
    post-now = subst (IsRequeued death) (sym (post-stays k closes not-module)) post-is

    now-is : now ≡ with_queue (post_in p the_module k).queued dead
    unfolding with_delivered
    now-is = same-desk d tasks-are post-now.rest areas-are made-are (pages-closed n id ∙ module-only.pages) scrap-is

    pub reordered : IsReordered dead now
    unfolding with_delivered
    reordered = record { same = post-now.same; rest = now-is }

    is-desk : IsDesk now
    is-desk = desk-reordered dead now reordered (dead-kept ranged)

    now-ledger : p.free + used_pages now ≡ p.pages
    now-ledger =
        omega (
          arith,
          w.ledger,
          module-only.ledger,
          module-only.pages,
          module-length w,
          end-is p k,
          l.still.area.spells.whole,
          ap (λ (b : List ℕ). length b) (bytes-stay 1 closes not-module),
          ap (λ (h : Heap). h.end) (heap-stays closes not-module),
          is-desk.post.heap.whole,
          left-pages areas-then at low,
          free-closed n id,
          pages-closed n id,
          ap (total task_pages) (tasks-stay seats beside off-seats),
          ap (total (λ x. x)) areas-are,
          ap (total (λ (x : Made). x.pages)) made-are,
        )

    pub kill-world : IsWorld p (remove seats i) made files then
    kill-world = record {
      desk = is-desk;
      areas = left-areas areas-then at low;
      queue = queue-stays closes not-module l.still;
      scrap = scrap-fits then.scrap closes not-scrap (scrap-fits then.scrap beside (λ q. absurd (omega arith)) (kept-fits death kept.scrap _ w.scrap));
      ledger = now-ledger;
    }

    pub kill-done : (e : Desk) × ((kill d name ≡ Ok (e, reply.Done)) × IsReordered e now)
    kill-done = (dead, (kill-is, reordered))

  -- the slot's area is open still
  pub slot-open : IsOpen n id
  slot-open = (all-at (HasSlot n) seats i s areas-then.slots at).opened

  pub queue-then : IsQueue p the_module k
  queue-then = queue-stays closes not-module l.still

  -- the post that the queue spells once the slot's area is closed
  pub spells-death : SpellsPostIn p the_module k death
  spells-death = spells-stays n p the_module k death (closes.others 1 not-module) (l.spells (post_in m the_module kept.queue) (is-post w))
