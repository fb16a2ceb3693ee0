-- What each edit of a desk keeps.
use Rattle.rh_defs.proofs.Common.{◌≡◌, ◌≢◌, ℕ, ◌+◌, ◌*◌, ◌/◌, ◌≤◌, ◌<◌, Bool, true, false, cond, refl, ap, sym, subst, ◌∙◌, arith, List, [], ◌∷◌, length, map}
use Rattle.rh_defs.proofs.Common.{Option, Some, None, IfSome, ◌==◌, find, slice_index, slice_set, AllByRecursion, eqb-true, eqb-false, Letter, Incoming}
use Rattle.rh_defs.proofs.Common.{total, page_size, Heap, Slot, IsSlot, slot_pages, Post, Desk, Task, Scrap, free_pages, named, with_delivered, file_length}
use Rattle.rh_defs.proofs.Common.{scrap_area, IsDesk}
use Rattle.std.proofs.lemmas.List.{length-map, length-set, get_or-set_same, get_or-set_other}
use Rattle.rh_defs.specs.declared.refusal.Refusal.TheVariants.{NoName}
use Rattle.rh_defs.specs.declared.transfer.Outgoing.{Outgoing}
use Rattle.rh_defs.specs.Post.{post_is_live}
use Rattle.rh_defs.specs.Desk.{task_pages, used_pages, has_name, edit_task, with_task, with_slot, with_sending, with_taking, with_module, with_post}
use Rattle.rh_defs.specs.Desk.{kept_scrap, send_letter}
use Rattle.rh_defs.specs.Commands.{least_length}
use Rattle.rh_defs.specs.RawCommands.{after_answer}
use Rattle.rh_defs.specs.Laws.{IsPost, task_handles}
use Rattle.rh_defs.proofs.Chains.{OnGrant, granted, granted-with, found_or-grants}
use Rattle.rh_defs.proofs.Lists.{find-all, number-finds, rise-same, total-set}
use Rattle.rh_defs.proofs.ModuleKeeps.{Fills}
use Rattle.rh_defs.proofs.PostKeeps.{PostKept, PostSent, same-sent, post_send-grants}
use Rattle.rh_defs.proofs.SlotKeeps.{IsRoomed, IsKept, kept-same}

-- ---- tasks

-- what holds of a task's slot
abbrev pub HasSlot : Task → Type 0
HasSlot t = IsSlot t.slot

-- the desk's task of its handle
pub record IsTask (d : Desk) (t : Task) : Type 0 where
  pub found : find (λ (u : Task). u.handle == t.handle) d.tasks ≡ Some t
  pub slot : IsSlot t.slot

pub named-task : (name : List ℕ) (d : Desk) → IsDesk d → OnGrant (IsTask d) (named name d)
unfolding named
named-task name d is = found_or-grants (IsTask d) (find (has_name name) d.tasks) NoName (go (find (has_name name) d.tasks) refl)
  where
    go : (o : Option Task) → find (has_name name) d.tasks ≡ o → IfSome o (IsTask d)
    go None e = tt
    go (Some t) e = record {
      found = number-finds (λ (u : Task). u.handle) (has_name name) 0 d.next_handle d.tasks t is.handles e;
      slot = subst (λ o. IfSome o HasSlot) e (find-all HasSlot (has_name name) d.tasks is.slots);
    }

-- other tasks with the same handles
pub tasks-keep : (tasks : List Task) (d : Desk) → used_pages (record d { tasks = tasks }) ≤ d.pool → task_handles tasks ≡ task_handles d.tasks
    → AllByRecursion HasSlot tasks → IsDesk d → IsDesk (record d { tasks = tasks })
tasks-keep tasks d room handles slots is = record {
  pool = is.pool;
  pages = room;
  handles = rise-same (λ (t : Task). t.handle) 0 d.next_handle d.tasks tasks handles is.handles;
  last = is.last;
  few = omega (arith, is.few, length-map tasks (λ (t : Task). t.handle), length-map d.tasks (λ (t : Task). t.handle), ap length handles);
  slots = slots;
  seats = is.seats ∙ sym handles;
  post = is.post;
  areas = is.areas;
  made = is.made;
  scrap = is.scrap;
}

module _ (h : ℕ) (edit : Task → Task) where
  edit-all : ((t : Task) → HasSlot t → HasSlot (edit t)) → (tasks : List Task) → AllByRecursion HasSlot tasks → AllByRecursion HasSlot (edit_task h edit tasks)
  edit-all keeps [] all = tt
  edit-all keeps (t ∷ tasks) all =
      elim (t.handle == h) as (λ b. AllByRecursion HasSlot (cond b (edit t ∷ tasks) (t ∷ edit_task h edit tasks)))
      [ true ↦ (keeps t all.0, all.1) | false ↦ (all.0, edit-all keeps tasks all.1) ]

  edit-handles : ((t : Task) → (edit t).handle ≡ t.handle) → (tasks : List Task) → task_handles (edit_task h edit tasks) ≡ task_handles tasks
  edit-handles keeps [] = refl
  edit-handles keeps (t ∷ tasks) =
      elim (t.handle == h) as (λ b. task_handles (cond b (edit t ∷ tasks) (t ∷ edit_task h edit tasks)) ≡ t.handle ∷ task_handles tasks)
      [ true ↦ ap (λ a. a ∷ task_handles tasks) (keeps t) | false ↦ ap (λ hs. t.handle ∷ hs) (edit-handles keeps tasks) ]

  edit-less : ((t : Task) → HasSlot t → task_pages (edit t) ≤ task_pages t) → (tasks : List Task) → AllByRecursion HasSlot tasks
      → total task_pages (edit_task h edit tasks) ≤ total task_pages tasks
  edit-less less [] all = omega arith
  edit-less less (t ∷ tasks) all =
      elim (t.handle == h) as (λ b. total task_pages (cond b (edit t ∷ tasks) (t ∷ edit_task h edit tasks)) ≤ task_pages t + total task_pages tasks)
      [ true ↦ omega (arith, less t all.0) | false ↦ omega (arith, edit-less less tasks all.1) ]

  edit-pages : (tasks : List Task) (t : Task) → find (λ (u : Task). u.handle == h) tasks ≡ Some t
      → total task_pages (edit_task h edit tasks) + task_pages t ≡ total task_pages tasks + task_pages (edit t)
  edit-pages [] t is = absurd cc
  edit-pages (x ∷ tasks) t is =
      elim (x.handle == h) as (λ b. cond b (Some x) (find (λ (u : Task). u.handle == h) tasks) ≡ Some t
      → total task_pages (cond b (edit x ∷ tasks) (x ∷ edit_task h edit tasks)) + task_pages t ≡ (task_pages x + total task_pages tasks) + task_pages
      (edit t)) [
        | true ↦ λ (q : Some x ≡ Some t). (let e : x ≡ t = cc in omega (arith, ap task_pages e, ap (λ y. task_pages (edit y)) e))
        | false ↦ λ (q : find (λ (u : Task). u.handle == h) tasks ≡ Some t). omega (arith, edit-pages tasks t q)
      ] is

-- a task edited so that it takes no page
pub with_task-keeps : (h : ℕ) (edit : Task → Task) (d : Desk) → ((t : Task) → (edit t).handle ≡ t.handle)
    → ((t : Task) → IsSlot t.slot → IsKept t.slot (edit t).slot) → IsDesk d → IsDesk (with_task h edit d)
unfolding with_task
with_task-keeps h edit d same keeps is =
    let less = edit-less h edit (λ t slot. (keeps t slot).pages) d.tasks is.slots in
    tasks-keep (edit_task h edit d.tasks) d (omega (arith, is.pages, less)) (edit-handles h edit same d.tasks)
    (edit-all h edit (λ t slot. (keeps t slot).slot) d.tasks is.slots) is

-- other records of transfers
pub with_sending-keeps : (h : ℕ) (edit : List Outgoing → List Outgoing) (d : Desk) → IsDesk d → IsDesk (with_sending h edit d)
with_sending-keeps h edit d is = with_task-keeps h (λ t. record t { sending = edit t.sending }) d (λ t. refl) (λ t slot. kept-same t.slot slot) is

pub with_taking-keeps : (h : ℕ) (edit : List Incoming → List Incoming) (d : Desk) → IsDesk d → IsDesk (with_taking h edit d)
with_taking-keeps h edit d is = with_task-keeps h (λ t. record t { taking = edit t.taking }) d (λ t. refl) (λ t slot. kept-same t.slot slot) is

-- another slot for a task takes the room that the slot says
pub with_slot-pages : (d : Desk) (t : Task) (s : Slot) → IsTask d t → used_pages (with_slot t.handle s d) + slot_pages t.slot ≡ used_pages d + slot_pages s
unfolding with_task
with_slot-pages d t s task = omega (arith, edit-pages t.handle (λ t. record t { slot = s }) d.tasks t task.found)

pub with_slot-keeps : (d : Desk) (t : Task) (s : Slot) → IsTask d t → IsRoomed (free_pages d) t.slot s → IsDesk d → IsDesk (with_slot t.handle s d)
unfolding with_task
with_slot-keeps d t s task fits is =
    tasks-keep (edit_task t.handle (λ t. record t { slot = s }) d.tasks) d
    (omega (arith, is.pages, fits.room, edit-pages t.handle (λ t. record t { slot = s }) d.tasks t task.found))
    (edit-handles t.handle (λ t. record t { slot = s }) (λ t. refl) d.tasks)
    (edit-all t.handle (λ t. record t { slot = s }) (λ t _. fits.slot) d.tasks is.slots) is

-- a slot after another, in what the first one left
pub roomed-then : (d : Desk) (t : Task) (s new : Slot) → IsTask d t → IsDesk d → IsRoomed (free_pages d) t.slot s
    → IsRoomed (free_pages (with_slot t.handle s d)) s new → IsRoomed (free_pages d) t.slot new
unfolding with_task
roomed-then d t s new task is first second =
    record { room = omega (arith, is.pages, first.room, second.room, with_slot-pages d t s task); slot = second.slot }

-- a slot after another that takes no more pages
pub roomed-after : {free : ℕ} {old s new : Slot} → IsRoomed free old s → IsRoomed 0 s new → IsRoomed free old new
roomed-after first second = record { room = omega (arith, first.room, second.room); slot = second.slot }

-- ---- the post and the module area

-- another post with the same seats
posted-keeps : (p : Post) (o : Option Scrap) (d : Desk) → p.heap.end / page_size ≤ free_pages d + d.post.heap.end / page_size
    → task_handles d.tasks ≡ map (λ s. s.handle) p.seats → IsPost p → file_length o ≤ file_length d.scrap → IsDesk d
    → IsDesk (record d { post = p; scrap = o })
posted-keeps p o d room handles post file is = record {
  pool = is.pool;
  pages = omega (arith, is.pages, room);
  handles = is.handles;
  last = is.last;
  few = is.few;
  slots = is.slots;
  seats = sym handles;
  post = post;
  areas = is.areas;
  made = is.made;
  scrap = omega (arith, is.scrap, file);
}

-- a scrap file that is kept, or given up
pub kept_scrap-less : (p : Post) (o : Option Scrap) → file_length (kept_scrap p o) ≤ file_length o
kept_scrap-less p None = omega arith
kept_scrap-less p (Some file) =
    elim (post_is_live file.load p) as (λ b. file_length (cond b (Some file) None) ≤ length file.bytes) [ true ↦ omega arith | false ↦ omega arith ]

-- a post that messages went out of
pub with_delivered-keeps : (p : Post) (d : Desk) → PostKept 0 d.post p → IsDesk d → IsDesk (with_delivered p d)
unfolding with_delivered
with_delivered-keeps p d kept is =
    posted-keeps p (kept_scrap p d.scrap) d (omega (arith, ap (λ n. n / page_size) kept.end)) (sym is.seats ∙ sym kept.handles) kept.post.is
    (kept_scrap-less p d.scrap) is

-- a post in which a message was answered
pub answered-keeps : (p : Post) (d : Desk) → PostSent 0 d.post p → IsDesk d → IsDesk (with_delivered p d)
unfolding with_delivered
answered-keeps p d sent is =
    posted-keeps p (kept_scrap p d.scrap) d (omega (arith, sent.room)) (sym is.seats ∙ sym sent.handles) sent.post (kept_scrap-less p d.scrap) is

-- after a letter a scrap file is kept, or given up
pub after_answer-keeps : (d : Desk) → IsDesk d → IsDesk (after_answer d)
after_answer-keeps d is = answered-keeps d.post d (same-sent 0 d.post is.post) is

with_task-areas : (h : ℕ) (edit : Task → Task) (d : Desk) → (with_task h edit d).areas ≡ d.areas
unfolding with_task
with_task-areas h edit d = refl

-- a desk after a letter: its areas are the same
pub record IsSent (old new : Desk) : Type 0 where
  pub desk : IsDesk new
  pub areas : new.areas ≡ old.areas

pub send_letter-keeps : (l : Letter) (d : Desk) → IsDesk d → OnGrant (IsSent d) (send_letter l d)
unfolding send_letter
send_letter-keeps l d is =
    granted-with _ (post_send-grants (free_pages d) l d.post is.post) λ sent kept.
    granted (record {
      desk = with_task-keeps l.from (λ t. record t { last_sent = Some (l, sent.1) }) (with_post sent.0 d) (λ t. refl) (λ t slot. kept-same t.slot slot)
          (posted-keeps sent.0 d.scrap d kept.room (sym is.seats ∙ sym kept.handles) kept.post (omega arith) is);
      areas = with_task-areas l.from (λ t. record t { last_sent = Some (l, sent.1) }) (with_post sent.0 d);
    })

-- another heap in the module area
pub with_module-keeps : (h : Heap) (d : Desk) → Fills (free_pages d) d.post.heap h → IsDesk d → IsDesk (with_module h d)
with_module-keeps h d fills is =
    posted-keeps (record d.post { heap = h }) d.scrap d fills.room (sym is.seats)
    (record { heap = fills.fills; few = is.post.few; refs = is.post.refs; queued = is.post.queued; held = is.post.held }) (omega arith) is

-- ---- areas

-- other pages of one of the six areas that isn't the module area
pub areas-keep : (k n : ℕ) (d : Desk) → k < length d.areas → (1 ≡ k → ⊥) → n ≤ free_pages d + slice_index d.areas k → least_length k d ≤ page_size * n
    → IsDesk d
    → IsDesk (record d { areas = slice_set d.areas k n })
areas-keep k n d below other room least is = record {
  pool = is.pool;
  pages = omega (arith, is.pages, room, total-set d.areas k n below);
  handles = is.handles;
  last = is.last;
  few = is.few;
  slots = is.slots;
  seats = is.seats;
  post = is.post;
  areas = record { six = length-set d.areas k n ∙ is.areas.six; module_area = get_or-set_other d.areas k 1 n 0 other ∙ is.areas.module_area };
  made = is.made;
  scrap = go (k == scrap_area) refl least;
}
  where
    go : (b : Bool) → (k == scrap_area) ≡ b → cond b (file_length d.scrap) 0 ≤ page_size * n
        → file_length d.scrap ≤ page_size * slice_index (slice_set d.areas k n) scrap_area
    go true e h =
        let same : k ≡ scrap_area = eqb-true _ _ e in
        omega (arith, h, subst (λ a. slice_index (slice_set d.areas k n) a ≡ n) same (get_or-set_same d.areas k n 0 below))
    go false e h =
        let apart : scrap_area ≢ k = λ q. eqb-false _ _ e (sym q) in
        omega (arith, is.scrap, get_or-set_other d.areas k scrap_area n 0 apart)
