-- A world whose queue has changed, and beside it what is kept of one task.
use Rattle.rh_tasks.proofs.Common.{◌≡◌, ℕ, ◌+◌, ◌≤◌, ap, ◌∙◌, arith, List, length, map, Option, set, Memory, OnlyArea, bytes, total, FileList, Post, Desk}
use Rattle.rh_tasks.proofs.Common.{Task, Made, task_pages, used_pages, with_task, IsDesk, IsReordered, with_queue, Chains, post_in, Seat, MadeArea, ScrapFile}
use Rattle.rh_tasks.proofs.Common.{Kept, the_module, scrap_size, scrap_of, slot_area, made_area, HasAreas, desk_of, task_of, made_of, IsWorld, Sits}
use Rattle.rh_tasks.proofs.Common.{avoids-below, Stay, tasks-stay, mades-stay, scrap-stays, scrap-fits, same-desk, Moves, moved-desk}
use Rattle.rh_wimp.specs.QueueCalls.{LeavesChains}
use Rattle.rh_wimp.proofs.PostCalls.{IsRequeued, post_in-requeued}
use Rattle.rh_tasks.proofs.Posts.{smaller, is-post, module-length, end-is}
use Rattle.rh_tasks.proofs.Fixed.{changed-areas, fixed-rest}
use Rattle.rh_tasks.proofs.Moves.{moved-areas, moved-ledger}
use Rattle.rh_tasks.proofs.Reorders.{desk-reordered}

module _ {m n : Memory} {seats : List Seat} {made : List MadeArea} {files : FileList} {kept : Kept} {i : ℕ} {s t : Seat} {edit : Task → Task} {k : Chains}
    {next : Post → Post}
    (w : IsWorld m seats made files kept) (at : Sits seats i s) (moves : Moves m m s t edit) (l : LeavesChains m n the_module kept.queue k next)
    (scrap : Option ScrapFile) (fits : scrap_size scrap ≤ length (bytes m 5)) where
  abbrev d : Desk
  d = desk_of m seats made files kept

  -- the seats, and what is kept
  abbrev pub seats_then : List Seat
  seats_then = set seats i t

  abbrev pub then : Kept
  then = record kept { queue = k; scrap = scrap }

  abbrev pub post_then : Post
  post_then = next (post_in m the_module kept.queue)

  -- the desk but for the order of its messages
  abbrev pub desk_then : Desk
  desk_then = record (with_task s.handle edit d) { post = post_then; scrap = scrap_of m scrap }

  abbrev now : Desk
  now = desk_of n seats_then made files then

  module-only : OnlyArea m n 1
  module-only = l.only

  beside : Stay m n 1
  beside = record { others = module-only.others }

  edited-areas : HasAreas m seats_then made
  edited-areas = moved-areas w at moves

  areas-then : HasAreas n seats_then made
  areas-then = changed-areas edited-areas (omega arith) module-only l.still.area

  tasks-are : map (task_of n) seats_then ≡ map (task_of m) seats_then
  tasks-are = tasks-stay seats_then beside (avoids-below slot_area 6 1 seats_then (omega arith) edited-areas.slots_above)

  made-are : map (made_of n) made ≡ map (made_of m) made
  made-are = mades-stay made beside (avoids-below made_area 6 1 made (omega arith) w.areas.made_above)

  module _ (is : IsDesk desk_then) where
    post-is : IsRequeued post_then (post_in n the_module k)
    post-is = post_in-requeued n the_module k post_then (smaller w module-only) l.still.area (l.spells (post_in m the_module kept.queue) (is-post w))
        is.post.held

    edited : map (task_of m) seats_then ≡ (with_task s.handle edit d).tasks
    edited = ap (λ (x : Desk). x.tasks) (moved-desk w at moves)

    now-is : now ≡ with_queue (post_in n the_module k).queued desk_then
    unfolding with_task
    now-is = same-desk d (tasks-are ∙ edited) post-is.rest (fixed-rest beside) made-are module-only.pages (scrap-stays scrap beside (λ q. absurd (omega arith)))

    pub sent-alike : IsReordered desk_then now
    sent-alike = record { same = post-is.same; rest = now-is }

    is-desk : IsDesk now
    is-desk = desk-reordered desk_then now sent-alike is

    now-ledger : n.free + used_pages now ≡ n.pages
    now-ledger =
        omega (
          arith,
          moved-ledger w at moves,
          module-only.ledger,
          module-only.pages,
          module-length w,
          end-is n k,
          l.still.area.spells.whole,
          is-desk.post.heap.whole,
          ap (total task_pages) tasks-are,
          ap (total (λ x. x)) (fixed-rest beside),
          ap (total (λ (x : Made). x.pages)) made-are,
        )

    pub sent-world : IsWorld n seats_then made files then
    sent-world = record {
      desk = is-desk;
      areas = areas-then;
      queue = l.still;
      scrap = scrap-fits scrap beside (λ q. absurd (omega arith)) fits;
      ledger = now-ledger;
    }
