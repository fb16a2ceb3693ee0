-- The post of a world, which its queue and its module area spell.
use Rattle.rh_tasks.proofs.Common.{◌≡◌, ◌≢◌, ℕ, zero, suc, ◌*◌, ◌<◌, refl, ap, sym, subst, ◌∙◌, arith, List, [], ◌∷◌, ◌++◌, length, map, None, map-append}
use Rattle.rh_tasks.proofs.Common.{length-map, PAGE, Memory, OnlyArea, bytes, FileList, Heap, Parcel, Post, Desk, Task, module_heap_in, Chains, HasEntry}
use Rattle.rh_tasks.proofs.Common.{SpellsPostIn}
use Rattle.rh_tasks.proofs.Common.{joined_chains, post_in, Seat, MadeArea, Kept, the_module, task_of, desk_of, Avoids, IsWorld, Sits}
use Rattle.rh_defs.specs.Blocks.{poked}
use Rattle.rh_defs.specs.Bytes.{word_bytes}
use Rattle.rh_defs.specs.Post.{Seat as PostSeat, post_join}
use Rattle.rh_defs.specs.Desk.{module_pages}
use Rattle.rh_defs.specs.Laws.{seat_handles, task_handles}
use Rattle.rh_wimp.specs.declared.chain.Entry.{Entry}
use Rattle.rh_wimp.specs.QueueCalls.{handles_of}
use Rattle.rh_wimp.specs.Chains.{SeatRow, entry_at, row_parcels}
use Rattle.rh_wimp.specs.QueueLaws.{IsSmallModule}
use Rattle.rh_wimp.specs.PostIn.{row_in, rows_in, seat_of, chains_of, parcels_of, unlinked, post_of}
use Rattle.rh_wimp.proofs.PostCalls.{post_in-spelled}
use Rattle.rh_tasks.proofs.Worlds.{rise-below}

-- ---- where the heap ends

unlinked-end : (ps : List Parcel) (h : Heap) → (unlinked ps h).end ≡ h.end
unlinked-end [] h = refl
unlinked-end (p ∷ ps) h = unlinked-end ps (poked p.block 0 (word_bytes 0) h)

pub end-is : (m : Memory) (q : Chains) → (post_in m the_module q).heap.end ≡ (module_heap_in m the_module).end
unfolding post_of
end-is m q = unlinked-end (parcels_of (rows_in (module_heap_in m the_module) q)) (module_heap_in m the_module)

-- ---- a handle more, with no messages

abbrev new_row : ℕ → SeatRow
new_row h = record { handle = h; chain = []; held = None }

more-chains : (h : ℕ) (rows : List SeatRow) → chains_of (rows ++ new_row h ∷ []) ≡ chains_of rows
more-chains h [] = refl
more-chains h (r ∷ rows) = ap (λ l. r.chain ++ l) (more-chains h rows)

more-parcels : (h : ℕ) (rows : List SeatRow) → parcels_of (rows ++ new_row h ∷ []) ≡ parcels_of rows
more-parcels h [] = refl
more-parcels h (r ∷ rows) = ap (λ l. row_parcels r ++ l) (more-parcels h rows)

abbrev new_entry : ℕ → Entry
new_entry h = record { handle = h; first = 0; last = 0; held = 0 }

same-post : {seats seats' : List PostSeat} {queued queued' : List Parcel} {heap heap' : Heap} {ref : ℕ} → seats ≡ seats' → queued ≡ queued' → heap ≡ heap'
    → (let x : Post = record { seats = seats; queued = queued; heap = heap; next_ref = ref } in x) ≡
    (let y : Post = record { seats = seats'; queued = queued'; heap = heap'; next_ref = ref } in y)
same-post p q r = cc

pub post-joins : (m : Memory) (q : Chains) (h : ℕ) → post_in m the_module (joined_chains h q) ≡ post_join h (post_in m the_module q)
unfolding post_of post_join
post-joins m q h =
    let heap = module_heap_in m the_module in
    let rows = rows_in heap q in
    let e : rows_in heap (joined_chains h q) ≡ rows ++ new_row h ∷ [] = map-append (row_in heap) q.entries (new_entry h ∷ []) in
    same-post (ap (map seat_of) e ∙ map-append seat_of rows (new_row h ∷ [])) (ap chains_of e ∙ more-chains h rows)
    (ap (λ l. unlinked (parcels_of l) heap) e ∙ ap (λ l. unlinked l heap) (more-parcels h rows))

-- ---- whose handles the queue has

entry-handles : (h : Heap) (es : List Entry) → map (λ (s : PostSeat). s.handle) (map seat_of (map (row_in h) es)) ≡ map (λ (e : Entry). e.handle) es
entry-handles h [] = refl
entry-handles h (e ∷ es) = ap (λ l. e.handle ∷ l) (entry-handles h es)

post-handles : (m : Memory) (q : Chains) → seat_handles (post_in m the_module q).seats ≡ handles_of q
unfolding post_of
post-handles m q = entry-handles (module_heap_in m the_module) q.entries

task-handles : (m : Memory) (seats : List Seat) → task_handles (map (task_of m) seats) ≡ map (λ (s : Seat). s.handle) seats
unfolding task_of
task-handles m [] = refl
task-handles m (s ∷ seats) = ap (λ l. s.handle ∷ l) (task-handles m seats)

avoided : (k : ℕ) (es : List Entry) (i : ℕ) → Avoids k (map (λ (e : Entry). e.handle) es) → i < length es → (entry_at es i).handle ≢ k
avoided k [] i off inside = absurd (omega arith)
avoided k (e ∷ es) zero off inside = off.0
avoided k (e ∷ es) (suc i) off inside = avoided k es i off.1 (omega arith)

same-place : (es : List Entry) (seats : List Seat) (i : ℕ) (s : Seat) → map (λ (e : Entry). e.handle) es ≡ map (λ (x : Seat). x.handle) seats
    → Sits seats i s → (entry_at es i).handle ≡ s.handle
same-place es [] i s e at = absurd (omega (arith, at.inside))
same-place [] (x ∷ seats) i s e at = absurd cc
same-place (y ∷ es) (x ∷ seats) zero s e at = let first : y.handle ≡ x.handle = cc in first ∙ ap (λ (z : Seat). z.handle) at.is
same-place (y ∷ es) (x ∷ seats) (suc i) s e at =
    let rest : map (λ (e : Entry). e.handle) es ≡ map (λ (x : Seat). x.handle) seats = cc in
    same-place es seats i s rest (record { inside = omega (arith, at.inside); is = at.is })

module _ {m : Memory} {seats : List Seat} {made : List MadeArea} {files : FileList} {kept : Kept} (w : IsWorld m seats made files kept) where
  abbrev d : Desk
  d = desk_of m seats made files kept

  -- the module area's length
  pub module-length : PAGE * module_pages d ≡ length (bytes m 1)
  module-length = omega (arith, end-is m kept.queue, w.areas.module_area.spells.whole, w.desk.post.heap.whole)

  pub small : IsSmallModule m the_module
  small = omega (arith, module-length, w.desk.pages, w.desk.pool)

  pub smaller : {n : Memory} → OnlyArea m n 1 → IsSmallModule n the_module
  smaller only = omega (arith, module-length, w.desk.pool, w.ledger, only.ledger)

  pub is-post : SpellsPostIn m the_module kept.queue (post_in m the_module kept.queue)
  is-post = post_in-spelled m the_module kept.queue small w.queue

  -- the live handles are the tasks'
  pub queue-handles : handles_of kept.queue ≡ map (λ (s : Seat). s.handle) seats
  queue-handles = sym (post-handles m kept.queue) ∙ w.desk.seats ∙ task-handles m seats

  pub few-entries : length kept.queue.entries ≡ length seats
  few-entries =
      sym (length-map kept.queue.entries (λ (e : Entry). e.handle)) ∙ ap length queue-handles ∙ length-map seats (λ (s : Seat). s.handle)

  -- the next handle isn't live
  pub new-handle : HasEntry kept.next.handle kept.queue → ⊥
  unfolding task_of
  new-handle has =
      let off : Avoids kept.next.handle (map (λ (s : Seat). s.handle) seats) =
      (rise-below (λ (t : Task). t.handle) (task_of m) (λ (s : Seat). s.handle) (λ s. refl) 0 kept.next.handle seats w.desk.handles).1 in
      avoided kept.next.handle kept.queue.entries has.0 (subst (Avoids kept.next.handle) (sym queue-handles) off) has.1.0 has.1.1

  -- a seat's handle is live
  pub has-entry : {i : ℕ} {s : Seat} → Sits seats i s → HasEntry s.handle kept.queue
  has-entry {i} {s} at = (i, (omega (arith, few-entries, at.inside), same-place kept.queue.entries seats i s queue-handles at))
