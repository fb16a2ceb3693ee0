-- Each command, step by step; and what follows of every run.
use Rattle.rh_defs.proofs.Common.{◌≡◌, ◌≢◌, ℕ, ◌+◌, ◌*◌, ◌/◌, ◌≤◌, ◌<◌, ◌^◌, Bool, true, false, cond, refl, ap, sym, subst, ◌∙◌, arith, List, [], ◌∷◌, ◌++◌}
use Rattle.rh_defs.proofs.Common.{length, length-append, map, Option, Some, None, Ok, ℤ, pos, negsuc, ◌&&◌, ◌==◌, nat_lt, not, find, filter, slice_index}
use Rattle.rh_defs.proofs.Common.{AllByRecursion, ltb-false, eqb-true, eqb-false, anchor_count, Command, Granted, page_size, total, changed_length, Parcel}
use Rattle.rh_defs.proofs.Common.{Post}
use Rattle.rh_defs.proofs.Common.{post_poll, post_death, post_join, Desk, Task, free_pages, named, with_delivered, nat_tests, Answer, scrap_area}
use Rattle.rh_defs.proofs.Common.{file_length, asked, step}
use Rattle.rh_defs.proofs.Common.{start_with, IsDesk}
use Rattle.std.proofs.lemmas.List.{map-append, length-map}
use Rattle.std.specs.List.{list_all}
use borrow.Author.Tests.{ltb-true, leb-false}
use Rattle.rh_defs.specs.declared.command.Command.TheVariants as command
use Rattle.rh_defs.specs.Forms.{first_made}
use Rattle.rh_defs.specs.Range.{in_range, all_in_range}
use Rattle.rh_defs.specs.Files.{FileList}
use Rattle.rh_defs.specs.Desk.{Made, most_tasks, task_pages, used_pages, with_task, with_taking, module_area}
use Rattle.rh_defs.specs.Commands.{start_task, kill, alloc, load, put, free, extend, mid, claim, release, resize, budge, least_length}
use Rattle.rh_defs.specs.Commands.{shrinks_below, pages_after, change_module, change_pages, is_numbered, with_pages, change_made, change_area, make, remove}
use Rattle.rh_defs.specs.Commands.{own_block, rma_claim, rma_free, rma_resize, save, repeat, poll, poll_taken, cancel_in, cancel_out, change, is_refused}
use Rattle.rh_defs.specs.Commands.{after_letter, with_released}
use Rattle.rh_defs.specs.Runs.{after}
use Rattle.rh_defs.specs.Laws.{Rise, IsStart, AreMade, task_handles, seat_handles}
use Rattle.rh_defs.proofs.Chains.{OnGrant, granted, refused, granted-then, granted-with, granted-past, chosen, found_or-grants, or_else-keeps}
use Rattle.rh_defs.proofs.Cuts.{total-append}
use Rattle.rh_defs.proofs.Lists.{append-all, filter-all, filter-total, filter-length, map-filter, rise-append, rise-filter, rise-same, some-is}
use Rattle.rh_defs.proofs.ModuleKeeps.{module_claim-grants, module_free-grants, module_resize-grants, module_change-grants, changed-whole}
use Rattle.rh_defs.proofs.PostKeeps.{post_poll-kept, post_death-kept, post_join-is, post_join-handles, post_join-end}
use Rattle.rh_defs.proofs.SlotKeeps.{slot_begin-grants, slot_alloc-grants, slot_free-grants, slot_extend-grants, slot_mid-grants, slot_put-grants}
use Rattle.rh_defs.proofs.SlotKeeps.{slot_claim-grants, slot_release-grants, slot_resize-grants, without_buffer-kept}
use Rattle.rh_defs.proofs.Desks.{IsTask, HasSlot, named-task, with_slot-keeps, with_sending-keeps, with_taking-keeps, roomed-after, kept_scrap-less}
use Rattle.rh_defs.proofs.Desks.{with_delivered-keeps, send_letter-keeps, with_module-keeps, areas-keep, with_task-keeps, after_answer-keeps}
use Rattle.rh_defs.proofs.Transfers.{IsAfter, received-keeps}
use Rattle.rh_defs.specs.declared.command.Manner.{Manner}
use Rattle.rh_defs.specs.declared.transfer.Taking.{Taking}
use Rattle.rh_defs.specs.declared.transfer.Incoming.{Incoming}
use Rattle.rh_defs.specs.declared.reply.Reply.TheVariants as reply
use Rattle.rh_defs.specs.AnyMessage.{as_read}
use Rattle.rh_defs.specs.RawTasks.{is_raw}
use Rattle.rh_defs.specs.Transfer.{received}
use Rattle.rh_defs.specs.IncomingEvents.{without_buffer}
use Rattle.rh_defs.specs.Order.{SameForEach, with_queue, IsReordered, StepsAlike, IgnoresOrder}
use Rattle.rh_defs.proofs.Follows.{Follows, follows-same, follows-then, follows-less, or_else-follows, chosen-both}
use Rattle.rh_defs.proofs.Orders.{post_poll-alike, post_death-alike}
use Rattle.rh_defs.proofs.QuestionLaws.{asked-requeued}
use Rattle.rh_defs.proofs.OrderSteps.{Alike, SaidAlike, follows-desk, send_letter-alike, with_delivered-alike, polled-alike, killed-alike, own_block-same}
use Rattle.rh_defs.proofs.OrderSteps.{said-alike}
use Rattle.rh_defs.proofs.OrderSteps.{after_letter-alike}
use Rattle.rh_defs.proofs.RawSteps.{raw-does}
use Rattle.rh_defs.proofs.Changes.{IsOnMemory, Changed, in_areas, in_made, in_module, in_nothing, IsAnswer, answer-is, Does, anything, known-step, step-then}
use Rattle.rh_defs.proofs.Changes.{equal-step, past, otherwise, done, in-slot, in-module}

-- what a command keeps
abbrev pub Keeps : Desk → Granted Answer → Type 0
Keeps d r = IsDesk d → OnGrant IsAnswer r

-- ---- parts of commands

-- a desk with one more task
with_new_task-keeps : (d : Desk) (t : Task) → t.handle ≡ d.next_handle → length d.tasks < most_tasks → d.next_handle < 2 ^ 32 → task_pages t ≤ free_pages d
    → HasSlot t → IsDesk d → IsDesk (record d { tasks = d.tasks ++ t ∷ []; post = post_join d.next_handle d.post; next_handle = d.next_handle + 1 })
with_new_task-keeps d t next few more room slot is =
    let handles : seat_handles (post_join d.next_handle d.post).seats ≡ task_handles (d.tasks ++ t ∷ []) =
    post_join-handles d.next_handle d.post ∙ ap (λ hs. hs ++ d.next_handle ∷ []) is.seats ∙ ap (λ h. task_handles d.tasks ++ h ∷ []) (sym next)
    ∙ sym (map-append (λ (t : Task). t.handle) d.tasks (t ∷ [])) in
    record {
      pool = is.pool;
      pages = omega (arith, is.pages, room, total-append task_pages d.tasks (t ∷ []), ap (λ n. n / page_size) (post_join-end d.next_handle d.post));
      handles = rise-append (λ (t : Task). t.handle) 0 d.next_handle d.tasks t is.handles next;
      last = omega (arith, more);
      few = omega (arith, few, length-append d.tasks (t ∷ []));
      slots = append-all HasSlot d.tasks t is.slots slot;
      seats = handles;
      post = post_join-is d.next_handle d.post is.post;
      areas = is.areas;
      made = is.made;
      scrap = is.scrap;
    }

-- other made areas
made-keep : (made : List Made) (next : ℕ) (d : Desk) → used_pages (record d { made = made; next_area = next }) ≤ d.pool → AreMade next made → IsDesk d
    → IsDesk (record d { made = made; next_area = next })
made-keep made next d room are is = record {
  pool = is.pool;
  pages = room;
  handles = is.handles;
  last = is.last;
  few = is.few;
  slots = is.slots;
  seats = is.seats;
  post = is.post;
  areas = is.areas;
  made = are;
  scrap = is.scrap;
}

-- a task stays one where messages went out of the post
delivered-task : (p : Post) (d : Desk) (t : Task) → IsTask d t → IsTask (with_delivered p d) t
unfolding with_delivered
delivered-task p d t task = record { found = task.found; slot = task.slot }

-- the pages of an area after a change: free ones suffice, and it keeps what it must
record PagesFit (free least pages n : ℕ) : Type 0 where
  room : n ≤ free + pages
  enough : least ≤ page_size * n

pages_after-grants : (free least pages : ℕ) (delta : ℤ) → least ≤ page_size * pages → OnGrant (PagesFit free least pages) (pages_after free least pages delta)
unfolding pages_after
pages_after-grants free least pages delta enough =
    granted-past _ _ _ λ low. granted-past _ _ _ λ room.
    let whole = changed-whole (page_size * pages) delta (omega arith) in
    granted (record { room = omega (arith, whole, ltb-false _ _ room); enough = omega (arith, whole, kept delta low) })
  where
    kept : (delta : ℤ) → shrinks_below least (page_size * pages) delta ≡ false → least ≤ changed_length (page_size * pages) delta
    kept (pos by) e = omega (arith, enough)
    kept (negsuc by) e = omega (arith, ltb-false _ _ e)

-- ---- made areas, one of which changes

module _ (k n : ℕ) where
  changed-numbers : (made : List Made) → map (λ (m : Made). m.number) (map (with_pages k n) made) ≡ map (λ (m : Made). m.number) made
  changed-numbers [] = refl
  changed-numbers (m ∷ made) =
      elim (is_numbered k m) as (λ b. (let r : Made = cond b (record m { pages = n }) m in r.number) ∷ map (λ (m : Made). m.number)
      (map (with_pages k n) made) ≡ m.number ∷ map (λ (m : Made). m.number) made)
      [ true ↦ ap (λ ns. m.number ∷ ns) (changed-numbers made) | false ↦ ap (λ ns. m.number ∷ ns) (changed-numbers made) ]

  -- areas of greater numbers stay
  others-stay : (least next : ℕ) (made : List Made) → k < least → Rise (λ (m : Made). m.number) least next made → map (with_pages k n) made ≡ made
  others-stay least next [] low up = refl
  others-stay least next (m ∷ made) low up =
      let other : (m.number == k) ≡ false = apart m.number (omega (arith, low, up.0)) in
      ap (λ (b : Bool). cond b (record m { pages = n }) m ∷ map (with_pages k n) made) other
      ∙ ap (λ ms. m ∷ ms) (others-stay (m.number + 1) next made (omega (arith, low, up.0)) up.1)
    where
      apart : (a : ℕ) → k < a → (a == k) ≡ false
      apart a h = grind arith

  changed-pages : (least next : ℕ) (made : List Made) (m : Made) → Rise (λ (m : Made). m.number) least next made → find (is_numbered k) made ≡ Some m
      → total (λ (m : Made). m.pages) (map (with_pages k n) made) + m.pages ≡ total (λ (m : Made). m.pages) made + n
  changed-pages least next [] m up e = absurd cc
  changed-pages least next (x ∷ made) m up e = go (x.number == k) refl e (changed-pages (x.number + 1) next made m up.1)
    where
      go : (b : Bool) → (x.number == k) ≡ b → cond b (Some x) (find (is_numbered k) made) ≡ Some m
          → (find (is_numbered k) made ≡ Some m → total (λ (m : Made). m.pages) (map (with_pages k n) made) + m.pages ≡ total (λ (m : Made). m.pages) made + n)
          → total (λ (m : Made). m.pages) (cond b (record x { pages = n }) x ∷ map (with_pages k n) made) + m.pages ≡
          (x.pages + total (λ (m : Made). m.pages) made) + n
      go true e q rest =
          let same : x ≡ m = cc in
          let stay = others-stay (x.number + 1) next made (omega (arith, eqb-true _ _ e)) up.1 in
          omega (arith, ap (λ (m : Made). m.pages) same, ap (total (λ (m : Made). m.pages)) stay)
      go false e q rest = omega (arith, rest q)

  changed-sizes : (least next : ℕ) (made : List Made) (m : Made) → Rise (λ (m : Made). m.number) least next made → find (is_numbered k) made ≡ Some m
      → n ≤ m.most → AllByRecursion (λ (m : Made). m.pages ≤ m.most) made → AllByRecursion (λ (m : Made). m.pages ≤ m.most) (map (with_pages k n) made)
  changed-sizes least next [] m up e small all = tt
  changed-sizes least next (x ∷ made) m up e small all = go (x.number == k) refl e (λ q. changed-sizes (x.number + 1) next made m up.1 q small all.1)
    where
      go : (b : Bool) → (x.number == k) ≡ b → cond b (Some x) (find (is_numbered k) made) ≡ Some m
          → (find (is_numbered k) made ≡ Some m → AllByRecursion (λ (m : Made). m.pages ≤ m.most) (map (with_pages k n) made))
          → AllByRecursion (λ (m : Made). m.pages ≤ m.most) (cond b (record x { pages = n }) x ∷ map (with_pages k n) made)
      go true e q rest =
          let same : x ≡ m = cc in (
            omega (arith, small, ap (λ (m : Made). m.most) same),
            subst (AllByRecursion (λ (m : Made). m.pages ≤ m.most)) (sym (others-stay (x.number + 1) next made (omega (arith, eqb-true _ _ e)) up.1)) all.1,
          )
      go false e q rest = (all.0, rest q)

poll_taken-keeps : (d : Desk) (t : Task) (o : Option Parcel) → IsTask d t → IsDesk d → IsAnswer (poll_taken d t o)
unfolding poll_taken
poll_taken-keeps d t None task is = answer-is is
poll_taken-keeps d t (Some m) task is =
    let after : IsAfter (received d t (as_read m)) = received-keeps d t (as_read m) task is in answer-is after.desk

-- after a letter, whatever the manner
after_letter-keeps : (manner : Manner) (d : Desk) → IsDesk d → IsDesk (after_letter manner d)
after_letter-keeps manner d is = chosen IsDesk (is_raw manner) _ _ (after_answer-keeps d is) is

module _ (d : Desk) where
  -- ---- tasks

  -- the dead task's seat, messages and pages go
  kill-keeps : (name : List ℕ) → Keeps d (kill d name)
  unfolding kill with_delivered
  kill-keeps name is =
      granted-with _ (named-task name d is) λ t task.
      let other : Task → Bool = λ (u : Task). not (u.handle == t.handle) in
      let dead = post_death-kept t.handle d.post is.post in
      granted (answer-is (record {
        pool = is.pool;
        pages = omega (arith, is.pages, ap (λ n. n / page_size) dead.end, filter-total task_pages other d.tasks);
        handles = rise-filter (λ (u : Task). u.handle) other 0 d.next_handle d.tasks is.handles;
        last = is.last;
        few = omega (arith, is.few, filter-length other d.tasks);
        slots = filter-all HasSlot other d.tasks is.slots;
        seats =
            dead.handles ∙ ap (filter (λ a. not (a == t.handle))) is.seats
            ∙ sym (map-filter (λ (u : Task). u.handle) (λ a. not (a == t.handle)) d.tasks);
        post = dead.post;
        areas = is.areas;
        made = is.made;
        scrap = omega (arith, is.scrap, kept_scrap-less (post_death t.handle d.post) d.scrap);
      }))

  -- ---- messages

  poll-keeps : (name : List ℕ) → Keeps d (poll d name)
  unfolding poll
  poll-keeps name is =
      granted-with _ (named-task name d is) λ t task.
      let kept = post_poll-kept t.handle d.post is.post in
      granted (poll_taken-keeps (with_delivered (post_poll t.handle d.post).0 d) t (post_poll t.handle d.post).1
      (delivered-task (post_poll t.handle d.post).0 d t task)
      (with_delivered-keeps (post_poll t.handle d.post).0 d kept is))

  -- ---- areas

  change_module-keeps : (delta : ℤ) → Keeps d (change_module d delta)
  unfolding change_module
  change_module-keeps delta is =
      granted-with _ (module_change-grants (free_pages d) delta d.post.heap is.post.heap) λ c fills.
      granted (answer-is (with_module-keeps c.0 d fills is))

  change_pages-keeps : (k : ℕ) (delta : ℤ) → k < length d.areas → module_area ≢ k → Keeps d (change_pages d k delta)
  unfolding change_pages
  change_pages-keeps k delta below other is =
      granted-with _ (pages_after-grants (free_pages d) (least_length k d) (slice_index d.areas k) delta (enough (k == scrap_area) refl)) λ n fits.
      granted (answer-is (areas-keep k n d below other fits.room fits.enough is))
    where
      enough : (b : Bool) → (k == scrap_area) ≡ b → cond b (file_length d.scrap) 0 ≤ page_size * slice_index d.areas k
      enough true e = omega (arith, is.scrap, ap (slice_index d.areas) (eqb-true _ _ e))
      enough false e = omega arith

  change_made-keeps : (k : ℕ) (delta : ℤ) → Keeps d (change_made d k delta)
  unfolding change_made
  change_made-keeps k delta is =
      granted-with _ (found_or-grants (λ m. find (is_numbered k) d.made ≡ Some m) (find (is_numbered k) d.made) _ (some-is (find (is_numbered k) d.made)))
      λ m found.
      granted-with _ (pages_after-grants (free_pages d) 0 m.pages delta (omega arith)) λ n fits.
      granted-past _ _ _ λ big.
      granted (answer-is (made-keep (map (with_pages k n) d.made) d.next_area d
      (omega (arith, is.pages, fits.room, changed-pages k n first_made d.next_area d.made m is.made.numbers found))
      (record {
        few = omega (arith, is.made.few, length-map d.made (with_pages k n));
        numbers = rise-same (λ (m : Made). m.number) first_made d.next_area d.made (map (with_pages k n) d.made) (changed-numbers k n d.made) is.made.numbers;
        last = is.made.last;
        sizes = changed-sizes k n first_made d.next_area d.made m is.made.numbers found (ltb-false _ _ big) is.made.sizes;
      }) is))

  change_area-keeps : (k : ℕ) (delta : ℤ) → Keeps d (change_area d k delta)
  change_area-keeps k delta is = go (k == module_area) (nat_lt k (length d.areas)) refl refl
    where
      go : (a b : Bool) → (k == module_area) ≡ a → nat_lt k (length d.areas) ≡ b
          → OnGrant IsAnswer (cond a (change_module d delta) (cond b (change_pages d k delta) (change_made d k delta)))
      go true b e f = change_module-keeps delta is
      go false true e f = change_pages-keeps k delta (ltb-true _ _ f) (λ q. eqb-false _ _ e (sym q)) is
      go false false e f = change_made-keeps k delta is

  make-keeps : (most : ℕ) → Keeps d (make d most)
  unfolding make
  make-keeps most is =
      let a : Made = record { number = d.next_area; most = most; pages = 0 } in
      granted-past _ _ _ λ few. granted-past _ _ _ λ more.
      granted (answer-is (made-keep (d.made ++ a ∷ []) (d.next_area + 1) d
      (omega (arith, is.pages, total-append (λ (m : Made). m.pages) d.made (a ∷ [])))
      (record {
        few = omega (arith, leb-false _ _ few, length-append d.made (a ∷ []));
        numbers = rise-append (λ (m : Made). m.number) first_made d.next_area d.made a is.made.numbers refl;
        last = omega (arith, ltb-false _ _ more);
        sizes = append-all (λ (m : Made). m.pages ≤ m.most) d.made a is.made.sizes (omega arith);
      }) is))

  remove-keeps : (k : ℕ) → Keeps d (remove d k)
  unfolding remove
  remove-keeps k is =
      let other : Made → Bool = λ (m : Made). not (is_numbered k m) in
      granted-then _ _ λ m found.
      granted (answer-is (made-keep (filter other d.made) d.next_area d
      (omega (arith, is.pages, filter-total (λ (m : Made). m.pages) other d.made))
      (record {
        few = omega (arith, is.made.few, filter-length other d.made);
        numbers = rise-filter (λ (m : Made). m.number) other first_made d.next_area d.made is.made.numbers;
        last = is.made.last;
        sizes = filter-all (λ (m : Made). m.pages ≤ m.most) other d.made is.made.sizes;
      }) is))

-- ---- one command

-- the anchor of a command in range is one
anchor-below : (name : List ℕ) (k n : ℕ) → in_range (command.Alloc name k n) ≡ true → k < anchor_count
unfolding in_range
anchor-below name k n h = grind (arith, nat_tests)

load-below : (name : List ℕ) (k : ℕ) (file : List ℕ) → in_range (command.Load name k file) ≡ true → k < anchor_count
unfolding in_range
load-below name k file h = grind (arith, nat_tests)

module _ (d : Desk) (queue : List Parcel) (same : SameForEach d.post.queued queue) where
  -- the end of a cancel, by whether a buffer goes
  let-go : (h : ℕ) (edit : List Incoming → List Incoming) (name : List ℕ) (id : Option ℕ) (o : Option Taking)
      → Does (command.CancelIn name id) d (Ok (with_taking h edit (with_released h o d), reply.Done))
      (Ok (with_taking h edit (with_released h o (with_queue queue d)), reply.Done))
  unfolding with_task
  let-go h edit name id None = otherwise _ queue same refl (λ run. with_taking-keeps h edit d run.desk) (λ on. on)
  let-go h edit name id (Some f) =
      otherwise _ queue same refl
      (λ run. with_taking-keeps h edit _
      (with_task-keeps h (λ t. record t { slot = without_buffer f.buffer t.slot }) d (λ t. refl)
      (λ t slot. without_buffer-kept f.buffer t.slot slot) run.desk))
      (λ on. on)

  -- what is shown of each command
  does : (c : Command) → Does c d (change d c) (change (with_queue queue d) c)
  unfolding start_task post_join kill named with_delivered alloc with_task load put free extend mid claim release resize budge save poll cancel_in
      cancel_out repeat change_module change_pages change_made make remove rma_claim rma_free rma_resize
  does (command.Task name buffer manner) =
      past _ _ _ _ λ new. past _ _ _ _ λ few. past _ _ _ _ λ more.
      known-step _ _ _ (λ run. slot_begin-grants (free_pages d)) λ s e fits.
      otherwise _ queue same refl
      (λ run. with_new_task-keeps d _ refl (leb-false _ _ few) (leb-false _ _ more) (fits run).0 (fits run).1 run.desk) (λ on. on)
  does (command.Kill name) = record {
    alike = follows-same _ _ _ λ t. Follows.both (killed-alike _ _ refl (with_delivered-alike d queue (post_death-alike t.handle d.post queue same)));
    keeps = λ run. kill-keeps d name run.desk;
    changes = λ on. absurd on;
  }
  does (command.Alloc name k n) =
      known-step _ _ _ (λ run. named-task name d run.desk) λ t e task.
      known-step _ _ _ (λ run. slot_alloc-grants (free_pages d) k n t.slot (anchor-below name k n run.ranged) (task run).slot) λ p f fits.
      in-slot d queue same t p.0 refl e refl (λ run. with_slot-keeps d t p.0 (task run) (fits run) run.desk)
  does (command.Load name k file) =
      known-step _ _ _ (λ run. named-task name d run.desk) λ t e task. step-then _ _ _ λ entry found.
      known-step _ _ _ (λ run. slot_alloc-grants (free_pages d) k (length entry.1) t.slot (load-below name k file run.ranged) (task run).slot) λ p f first.
      known-step _ _ _ (λ run. slot_put-grants 0 k 0 entry.1 p.0 (first run).slot) λ s g second.
      in-slot d queue same t s refl e refl (λ run. with_slot-keeps d t s (task run) (roomed-after (first run) (second run)) run.desk)
  does (command.Put name k offset bytes) =
      known-step _ _ _ (λ run. named-task name d run.desk) λ t e task. step-then _ _ _ λ b idle.
      known-step _ _ _ (λ run. slot_put-grants (free_pages d) k offset bytes t.slot (task run).slot) λ s f fits.
      in-slot d queue same t s refl e refl (λ run. with_slot-keeps d t s (task run) (fits run) run.desk)
  does (command.Free name k) =
      known-step _ _ _ (λ run. named-task name d run.desk) λ t e task. step-then _ _ _ λ b idle.
      known-step _ _ _ (λ run. slot_free-grants (free_pages d) k t.slot (task run).slot) λ s f fits.
      in-slot d queue same t s refl e refl (λ run. with_slot-keeps d t s (task run) (fits run) run.desk)
  does (command.Extend name k n) =
      known-step _ _ _ (λ run. named-task name d run.desk) λ t e task. step-then _ _ _ λ b idle.
      known-step _ _ _ (λ run. slot_extend-grants (free_pages d) k n t.slot (task run).slot) λ s f fits.
      in-slot d queue same t s refl e refl (λ run. with_slot-keeps d t s (task run) (fits run) run.desk)
  does (command.Mid name k offset by) =
      known-step _ _ _ (λ run. named-task name d run.desk) λ t e task. step-then _ _ _ λ b idle.
      known-step _ _ _ (λ run. slot_mid-grants (free_pages d) k offset by t.slot (task run).slot) λ s f fits.
      in-slot d queue same t s refl e refl (λ run. with_slot-keeps d t s (task run) (fits run) run.desk)
  does (command.Claim name n) =
      known-step _ _ _ (λ run. named-task name d run.desk) λ t e task.
      known-step _ _ _ (λ run. slot_claim-grants (free_pages d) n t.slot (task run).slot) λ p f fits.
      in-slot d queue same t p.0 refl e refl (λ run. with_slot-keeps d t p.0 (task run) (fits run) run.desk)
  does (command.Release name address) =
      known-step _ _ _ (λ run. named-task name d run.desk) λ t e task. step-then _ _ _ λ b idle.
      known-step _ _ _ (λ run. slot_release-grants (free_pages d) address t.slot (task run).slot) λ s f fits.
      in-slot d queue same t s refl e refl (λ run. with_slot-keeps d t s (task run) (fits run) run.desk)
  does (command.Resize name address delta) =
      known-step _ _ _ (λ run. named-task name d run.desk) λ t e task. step-then _ _ _ λ b idle.
      known-step _ _ _ (λ run. slot_resize-grants (free_pages d) address delta t.slot (task run).slot) λ p f fits.
      in-slot d queue same t p.0 refl e refl (λ run. with_slot-keeps d t p.0 (task run) (fits run) run.desk)
  does (command.Budge name on) =
      known-step _ _ _ (λ run. named-task name d run.desk) λ t e task.
      in-slot d queue same t (record t.slot { budging = on }) refl e refl
      (λ run. with_slot-keeps d t (record t.slot { budging = on }) (task run)
      (record { room = omega arith; slot = record { heap = (task run).slot.heap; anchors = (task run).slot.anchors } }) run.desk)
  does (command.Save name k to leaf) =
      step-then _ _ _ λ t e. step-then _ _ _ λ b idle. past _ _ _ _ λ few. step-then _ _ _ λ r live.
      record {
        alike = follows-desk _ _ (send_letter-alike _ d queue same) λ sent q s. follows-then _ _ _ (Follows.both (SaidAlike.said _ q _ s refl));
        keeps = λ run.
            granted-with _ (send_letter-keeps _ d run.desk) λ sent ok. granted-past _ _ _ λ kind.
            granted (answer-is (with_sending-keeps t.handle _ sent ok.desk));
        changes = λ on. absurd on;
      }
  does (command.Poll name) = record {
    alike = follows-same _ _ _ λ t. Follows.both (polled-alike d queue t (post_poll-alike t.handle d.post queue same));
    keeps = λ run. poll-keeps d name run.desk;
    changes = λ on. absurd on;
  }
  does (command.CancelIn name id) =
      step-then _ _ _ λ t e. step-then _ _ _ λ records meant. let-go t.handle (λ _. records) name id _
  does (command.CancelOut name id) =
      step-then _ _ _ λ t e. step-then _ _ _ λ records meant.
      otherwise _ queue same refl (λ run. with_sending-keeps t.handle _ d run.desk) (λ on. on)
  does (command.Repeat name) =
      step-then _ _ _ λ t e. step-then _ _ _ λ last there.
      record {
        alike = follows-desk _ _ (send_letter-alike _ d queue same) λ sent q s.
            Follows.both (said-alike _ refl (after_letter-alike t.manner sent q s));
        keeps = λ run. granted-with _ (send_letter-keeps _ d run.desk) λ sent ok. granted (answer-is (after_letter-keeps t.manner sent ok.desk));
        changes = λ on. absurd on;
      }
  does (command.Area k delta) =
      let P = OnGrant (Changed (command.Area k delta) d) in
      record {
        alike =
            chosen-both (Follows SaidAlike) (k == module_area) _ _ _ _ (follows-same _ _ _ λ c. Follows.both (SaidAlike.said _ queue _ same refl))
            (chosen-both (Follows SaidAlike) (nat_lt k (length d.areas)) _ _ _ _ (follows-same _ _ _ λ n. Follows.both (SaidAlike.said _ queue _ same refl))
            (follows-same _ _ _ λ m. follows-same _ _ _ λ n. follows-then _ _ _ (Follows.both (SaidAlike.said _ queue _ same refl))));
        keeps = λ run. change_area-keeps d k delta run.desk;
        changes = λ on.
            chosen P (k == module_area) _ _ (granted-then _ _ λ c e. granted (in_module c.0 refl))
            (chosen P (nat_lt k (length d.areas)) _ _ (granted-then _ _ λ n e. granted (in_areas _ refl))
            (granted-then _ _ λ m e. granted-then _ _ λ n f. granted-past _ _ _ λ big. granted (in_made _ refl)));
      }
  does (command.Make most) = record {
    alike = follows-then _ _ _ (follows-then _ _ _ (Follows.both (SaidAlike.said _ queue _ same refl)));
    keeps = λ run. make-keeps d most run.desk;
    changes = λ on. absurd on;
  }
  does (command.Remove k) = record {
    alike = follows-same _ _ _ λ m. Follows.both (SaidAlike.said _ queue _ same refl);
    keeps = λ run. remove-keeps d k run.desk;
    changes = λ on. granted-then _ _ λ m e. granted (in_made _ refl);
  }
  does (command.RmaClaim n) =
      known-step _ _ _ (λ run. module_claim-grants (free_pages d) n d.post.heap run.desk.post.heap) λ c e fills.
      in-module d queue same c.0 refl (λ run. with_module-keeps c.0 d (fills run) run.desk)
  does (command.RmaFree address) =
      equal-step _ _ _ _ (own_block-same address d queue same) (λ run. anything (own_block address d)) λ b own known.
      known-step _ _ _ (λ run. module_free-grants (free_pages d) _ d.post.heap run.desk.post.heap) λ h e fills.
      in-module d queue same h refl (λ run. with_module-keeps h d (fills run) run.desk)
  does (command.RmaResize address delta) =
      equal-step _ _ _ _ (own_block-same address d queue same) (λ run. anything (own_block address d)) λ b own known.
      known-step _ _ _ (λ run. module_resize-grants (free_pages d) _ delta d.post.heap run.desk.post.heap) λ c e fills.
      in-module d queue same c.0 refl (λ run. with_module-keeps c.0 d (fills run) run.desk)
  does (command.Raw c) = raw-does d queue same c
  does (command.Ask q) =
      equal-step _ _ _ _ (asked-requeued queue d q) (λ run. anything (asked d q)) λ told e known.
      done d queue same d same refl (λ run. run.desk) (in_nothing refl)

-- a queue is in its own order
in-order : (queue : List Parcel) → SameForEach queue queue
in-order queue = record { each = λ h. refl }

-- what is shown of a command on one desk
shown : (d : Desk) (c : Command) → Does c d (change d c) (change d c)
shown d c = does d d.post.queued (in-order d.post.queued) c

pub change-keeps : (d : Desk) (c : Command) → in_range c ≡ true → Keeps d (change d c)
change-keeps d c h is = (shown d c).keeps (record { ranged = h; desk = is })

pub step-keeps : (d : Desk) (c : Command) → in_range c ≡ true → IsDesk d → IsDesk (step d c).0
step-keeps d c h is =
    let answer : IsAnswer (step d c) = or_else-keeps IsAnswer _ (change-keeps d c h is) (λ refusal. answer-is is) in
    answer.desk

-- what holds of each desk and reply that a change of memory leaves holds of all such commands
pub granted-on : {P : Answer → Type 0} (d : Desk) (c : Command) → IsOnMemory c → ((a : Answer) → Changed c d a → P a) → OnGrant P (change d c)
granted-on d c is holds = go ((shown d c).changes is) holds
  where
    go : {Q P : Answer → Type 0} {r : Granted Answer} → OnGrant Q r → ((a : Answer) → Q a → P a) → OnGrant P r
    go (granted {x = x} q) holds = granted (holds x q)
    go refused holds = refused

-- no command that is granted answers that it was refused
pub never-refused : (d : Desk) (c : Command) → OnGrant (λ (a : Answer). is_refused a.1 ≡ false) (change d c)
never-refused d c = go (shown d c).alike
  where
    go : {g h : Granted Answer} → Follows SaidAlike g h → OnGrant (λ (a : Answer). is_refused a.1 ≡ false) g
    go (Follows.both (SaidAlike.said d queue r same other)) = granted other
    go Follows.neither = refused

-- ---- two desks that differ in the order of messages to different tasks alone

step-alike : (d : Desk) (queue : List Parcel) → SameForEach d.post.queued queue → (c : Command) → Alike (step d c) (step (with_queue queue d) c)
step-alike d queue same c = or_else-follows Alike _ _ (follows-less less (does d queue same c).alike) (λ refusal. Alike.alike d queue _ same)
  where
    less : (x y : Answer) → SaidAlike x y → Alike x y
    less _ _ (SaidAlike.said d queue r same other) = Alike.alike d queue r same

-- what is alike has the same reply, and desks that differ in that order alone
answers-alike : {x y : Answer} → Alike x y → (y.1 ≡ x.1) × IsReordered x.0 y.0
answers-alike (Alike.alike d queue x same) = (refl, record { same = same; rest = refl })

pub order-ignored : IgnoresOrder
order-ignored a b c is =
    let pair = answers-alike (step-alike a b.post.queued is.same c) in
    let one : StepsAlike a (with_queue b.post.queued a) c = record { reply = pair.0; desks = pair.1 } in
    subst (λ (e : Desk). StepsAlike a e c) (sym is.rest) one

-- ---- every run

pub after-is : (d : Desk) (commands : List Command) → all_in_range commands ≡ true → IsDesk d → IsDesk (after d commands)
after-is d [] h is = is
after-is d (c ∷ commands) h is =
    let both = first_and (in_range c) (list_all in_range commands) h in
    after-is (step d c).0 commands both.1 (step-keeps d c both.0 is)
  where
    first_and : (a b : Bool) → (a && b) ≡ true → (a ≡ true) × (b ≡ true)
    first_and true true h = (refl, refl)
    first_and true false h = absurd cc
    first_and false b h = absurd cc

pub start-is : (pool handle ref : ℕ) (files : FileList) → IsStart pool handle ref → IsDesk (start_with pool files handle ref)
start-is pool handle ref files from = record {
  pool = from.most;
  pages = omega (arith, from.least);
  handles = omega arith;
  last = omega (arith, from.last_handle);
  few = omega arith;
  slots = tt;
  seats = refl;
  post = record {
    heap = record { heap = record { tidy = tt; fits = omega arith; multiple = omega arith }; whole = omega arith };
    few = omega arith;
    refs = omega (arith, from.last_ref);
    queued = tt;
    held = tt;
  };
  areas = record { six = refl; module_area = refl };
  made = record { few = omega arith; numbers = omega arith; last = omega arith; sizes = tt };
  scrap = omega arith;
}
