-- Bytes that are written into the slot of the task at a place, and tasks that are edited.
use Rattle.rh_tasks.proofs.Common.{◌≡◌, ◌⊎◌, inl, inr, ℕ, ◌+◌, ◌-◌, ◌<◌, ◌≤◌, true, false, cond, refl, ap, sym, subst, ◌∙◌, arith, List, [], ◌∷◌, length}
use Rattle.rh_tasks.proofs.Common.{Some, Ok, Err, is_some, slice_get, map, take, drop, ◌==◌, ◌&&◌, ◌||◌, option_map, get_or, set, cases_eq, length-map}
use Rattle.rh_tasks.proofs.Common.{slice_get-map, slice_get-get_or, slice_get_within, Letter, part, Granted, ◌>>=◌, no_answer, FileList, Memory}
use Rattle.rh_tasks.proofs.Common.{bytes, Split, Flex, slot_block, holds, buffer_at, overlap, Post, post_send, Desk, Task, free_pages}
use Rattle.rh_tasks.proofs.Common.{edit_task, with_task, with_post, send_letter, IsDesk, IsReordered, is_bad_range, length-part, IsSlotIn, slot_in}
use Rattle.rh_tasks.proofs.Common.{LeavesSlotIn}
use Rattle.rh_tasks.proofs.Common.{Seat, MadeArea, Kept, HasSlot, slot_area, task_of, desk_of, IsWorld, IsAt, IsPortion, Sits, all-at, set_same, Moves}
use Rattle.rh_tasks.proofs.Common.{moved-desk, moved-world, mapped-at, mapped-is}
use Rattle.rh_defs.specs.declared.transfer_action.Transmit.{Transmit}
use Rattle.rh_defs.specs.declared.transfer_action.Part.{Part}
use Rattle.rh_defs.specs.Slot as plain
use Rattle.rh_defs.specs.Places.{written_in}
use Rattle.rh_defs.proofs.Desks.{with_task-keeps}
use Rattle.rh_defs.proofs.SlotKeeps.{written_in-kept}
use Rattle.rh_tasks.proofs.Fetches.{one-member, apart-at, test-same}
use Rattle.rh_tasks.proofs.Sources.{Portioned, portioned, portion-inside, portion-bytes, in-reach, ranges-apart}

-- ---- bytes written into the slot of the task at a place

-- a task with bytes written into its slot
abbrev pub with_written : ℕ → ℕ → List ℕ → Task → Task
with_written address room bytes r = record r { slot = written_in address bytes (buffer_at address room r.slot) r.slot }

module _ {m n : Memory} {seats : List Seat} {made : List MadeArea} {files : FileList} {kept : Kept} {j : ℕ} {s : Seat}
    (w : IsWorld m seats made files kept) (at : Sits seats j s) (address room : ℕ) (bytes : List ℕ) (few : length bytes ≤ room)
    (l : LeavesSlotIn m n s.slot (no_answer (Ok (written_in address bytes (buffer_at address room (slot_in m s.slot)) (slot_in m s.slot)))) (Ok tt)) where
  abbrev old : Desk
  old = desk_of m seats made files kept

  abbrev edit : Task → Task
  edit r = with_written address room bytes r

  moves : Moves m n s s edit
  unfolding task_of
  moves = record {
    handle = refl;
    area = refl;
    still = l.still;
    only = l.only;
    task = ap (λ (x : plain.Slot). let t : Task = record (task_of m s) { slot = x } in t) l.slot;
  }

  same : set seats j s ≡ seats
  same = set_same seats j s at

  pub written-desk : desk_of n seats made files kept ≡ with_task s.handle edit old
  written-desk = ap (λ (x : List Seat). desk_of n x made files kept) (sym same) ∙ moved-desk w at moves

  written-is : IsDesk (desk_of n (set seats j s) made files kept)
  written-is = subst IsDesk (sym (moved-desk w at moves)) (with_task-keeps s.handle edit old (λ r. refl)
      (λ r slot. written_in-kept address room bytes r.slot few slot) w.desk)

  pub written-world : IsWorld n seats made files kept
  written-world = subst (λ (x : List Seat). IsWorld n x made files kept) same (moved-world w at moves written-is)

  pub written-as : (h : ℕ) (other : List ℕ) → s.handle ≡ h → bytes ≡ other → desk_of n seats made files kept ≡ with_task h (with_written address room other) old
  written-as h other p q = written-desk ∙ ap (λ k. with_task k edit old) p ∙ ap (λ b. with_task h (with_written address room b) old) q

-- ---- a portion that is written into a buffer in reach

module _ {m : Memory} {seats : List Seat} {made : List MadeArea} {files : FileList} {kept : Kept} {i j : ℕ} {a b : Seat}
    (w : IsWorld m seats made files kept) (at : Sits seats i a) (bt : Sits seats j b) (x : Transmit) (p : Part) (address size buffer room place : ℕ)
    (given : (t : Task) → IsAt i t (desk_of m seats made files kept) → IsPortion t x address size p)
    (near : (t r : Task) → IsAt i t (desk_of m seats made files kept) → IsAt j r (desk_of m seats made files kept)
    → is_bad_range t r buffer room address p.n ≡ false)
    (fits : p.n ≤ room) (none : p.n ≡ 0 → place ≡ 0) (some : 0 < p.n → place ≡ address - 32768) where
  the-portion : IsPortion (task_of m a) x address size p
  the-portion = given (task_of m a) (mapped-at (task_of m) seats i a at)

  ported : Portioned m a.slot x.transfer.anchor p.offset p.n place the-portion.source
  unfolding task_of
  ported = portioned m a.slot the-portion refl place none some

  has : IsSlotIn m a.slot
  has = all-at (HasSlot m) seats i a w.areas.slots at

  reached : is_bad_range (task_of m a) (task_of m b) buffer room address p.n ≡ false
  reached = near (task_of m a) (task_of m b) (mapped-at (task_of m) seats i a at) (mapped-at (task_of m) seats j b bt)

  pub from-inside : place + p.n ≤ length (bytes m a.slot.area.0)
  from-inside = portion-inside has ported

  pub to-reach : (is_some (buffer_at buffer room (slot_in m b.slot)) || holds buffer room (slot_in m b.slot)) ≡ true
  unfolding task_of
  to-reach =
      in-reach (is_some (buffer_at buffer room (slot_in m b.slot))) (holds buffer room (slot_in m b.slot))
      (a.handle == b.handle && overlap buffer room address p.n) reached

  own-apart : i ≡ j → (place + p.n ≤ buffer - 32768) ⊎ (buffer - 32768 + p.n ≤ place)
  unfolding task_of
  own-apart e =
      let P : ℕ → Type 0 = λ k. get_or seats k b ≡ b in
      let one : a ≡ b = one-member seats i a b at (subst P (sym e) bt.is) in
      let Q : Seat → Type 0 = λ y. is_bad_range (task_of m a) (task_of m y) buffer room address p.n ≡ false in
      let R : ℕ → Type 0 = λ k. is_bad_range (task_of m a) (task_of m a) buffer room k p.n ≡ false in
      ranges-apart has ported buffer room fits (a.handle == a.handle) (test-same a.handle a.handle refl)
      (subst R the-portion.address_is (subst Q (sym one) reached))

  pub from-apart : a.slot.area.0 ≡ b.slot.area.0 → (place + p.n ≤ buffer - 32768) ⊎ (buffer - 32768 + p.n ≤ place)
  from-apart q = elim (cases_eq i j) [ inl e ↦ own-apart e | inr ne ↦ absurd (apart-at slot_area seats i j a b w.areas.slots_apart at bt ne q) ]

  abbrev written : List ℕ
  written = part (bytes m a.slot.area.0) place p.n

  few : length written ≤ room
  few = omega (arith, length-part (bytes m a.slot.area.0) place p.n, fits)

  module _ {o : Memory} (l : LeavesSlotIn m o b.slot (no_answer (Ok (written_in buffer written (buffer_at buffer room (slot_in m b.slot)) (slot_in m b.slot))))
      (Ok tt)) where
    pub wrote-world : IsWorld o seats made files kept
    wrote-world = written-world w bt buffer room written few l

    pub wrote-desk : (t r : Task) (source : Split Flex) → IsAt i t (desk_of m seats made files kept) → IsAt j r (desk_of m seats made files kept)
        → slot_block x.transfer.anchor t.slot ≡ Ok source
        → desk_of o seats made files kept ≡ with_task r.handle (with_written buffer room (take p.n (drop p.offset source.here.bytes)))
        (desk_of m seats made files kept)
    unfolding task_of
    wrote-desk t r source ti rj e =
        let P : Task → Type 0 = λ u. slot_block x.transfer.anchor u.slot ≡ Ok the-portion.source in
        let there : slot_block x.transfer.anchor t.slot ≡ Ok the-portion.source = subst P (mapped-is (task_of m) seats i a t at ti) the-portion.block in
        let one : source ≡ the-portion.source = (let both = sym e ∙ there in cc) in
        let own : b.handle ≡ r.handle = ap (λ (u : Task). u.handle) (mapped-is (task_of m) seats j b r bt rj) in
        written-as w bt buffer room written few l r.handle (take p.n (drop p.offset source.here.bytes)) own
        (portion-bytes has ported ∙ ap (λ (c : Split Flex). take p.n (drop p.offset c.here.bytes)) (sym one))

-- ---- tasks that are edited

edited-key : {K : Type 0} (key : Task → K) (h : ℕ) (edit : Task → Task) (tasks : List Task) → ((t : Task) → key (edit t) ≡ key t)
    → map key (edit_task h edit tasks) ≡ map key tasks
edited-key key h edit [] e = refl
edited-key {K} key h edit (t ∷ tasks) e =
    elim (t.handle == h) as (λ b. map key (cond b (edit t ∷ tasks) (t ∷ edit_task h edit tasks)) ≡ key t ∷ map key tasks) [
      | true ↦ ap (λ k. k ∷ map key tasks) (e t)
      | false ↦ ap (λ ks. key t ∷ ks) (edited-key key h edit tasks e)
    ]

-- two desks whose tasks differ in nothing that is looked at
pub record KeyAlike {K : Type 0} (key : Task → K) (a b : Desk) : Type 0 where
  pub keys : map key b.tasks ≡ map key a.tasks

module _ {K : Type 0} (key : Task → K) where
  pub alike-edited : (h : ℕ) (edit : Task → Task) (d : Desk) → ((t : Task) → key (edit t) ≡ key t) → KeyAlike key d (with_task h edit d)
  unfolding with_task
  alike-edited h edit d e = record { keys = edited-key key h edit d.tasks e }

  pub alike-reordered : {a b : Desk} → IsReordered a b → KeyAlike key a b
  alike-reordered r = record { keys = ap (λ (d : Desk). map key d.tasks) r.rest }

  pub alike-both : {a b c : Desk} → KeyAlike key a b → KeyAlike key b c → KeyAlike key a c
  alike-both p q = record { keys = q.keys ∙ p.keys }

  sent-alike : (l : Letter) (d e : Desk) (g : Granted (Post × ℕ)) → ((t : Task) (x : Letter × ℕ) → key (record t { last_sent = Some x }) ≡ key t)
      → (g >>= (λ sent. Ok (with_task l.from (λ t. record t { last_sent = Some (l, sent.1) }) (with_post sent.0 d)))) ≡ Ok e → KeyAlike key d e
  unfolding ◌>>=◌ with_task
  sent-alike l d e (Err r) f q = absurd (cc)
  sent-alike l d e (Ok sent) f q =
      let x : Desk = with_task l.from (λ t. record t { last_sent = Some (l, sent.1) }) (with_post sent.0 d) in
      let is : x ≡ e = cc in
      record {
        keys = ap (λ (y : Desk). map key y.tasks) (sym is) ∙ edited-key key l.from (λ t. record t { last_sent = Some (l, sent.1) }) d.tasks
            (λ t. f t (l, sent.1));
      }

  pub alike-sent : (l : Letter) (d e : Desk) → ((t : Task) (x : Letter × ℕ) → key (record t { last_sent = Some x }) ≡ key t) → send_letter l d ≡ Ok e
      → KeyAlike key d e
  unfolding send_letter
  alike-sent l d e f q = sent-alike l d e (post_send (free_pages d) l d.post) f q

  module _ {a b : Desk} (alike : KeyAlike key a b) where
    pub alike-length : length b.tasks ≡ length a.tasks
    alike-length = sym (length-map b.tasks key) ∙ ap length alike.keys ∙ length-map a.tasks key

    pub alike-at : (i : ℕ) (t u : Task) → slice_get a.tasks i ≡ Some t → slice_get b.tasks i ≡ Some u → key u ≡ key t
    alike-at i t u p q =
        let left : slice_get (map key a.tasks) i ≡ Some (key t) = slice_get-map key a.tasks i ∙ ap (option_map key) p in
        let right : slice_get (map key b.tasks) i ≡ Some (key u) = slice_get-map key b.tasks i ∙ ap (option_map key) q in
        let both : Some (key u) ≡ Some (key t) = sym right ∙ ap (λ ks. slice_get ks i) alike.keys ∙ left in
        cc

-- the task of another desk at a place, alike in what is looked at
pub record Seen {K : Type 0} (key : Task → K) (d : Desk) (i : ℕ) (t : Task) : Type 0 where
  pub task : Task
  pub at : IsAt i task d
  pub alike : key task ≡ key t

pub seen : {K : Type 0} (key : Task → K) {a b : Desk} → KeyAlike key a b → (i : ℕ) (t : Task) → IsAt i t a → Seen key b i t
seen key {a} {b} k i t at =
    let inside : i < length b.tasks = omega (arith, slice_get_within a.tasks i t at, alike-length key k) in
    let there = slice_get-get_or b.tasks i t inside in
    record { task = get_or b.tasks i t; at = there; alike = alike-at key k i t (get_or b.tasks i t) at there }
