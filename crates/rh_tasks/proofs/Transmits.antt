-- The actions of a transfer that goes out, on desks alone.
use Rattle.rh_tasks.proofs.Common.{◌≡◌, ℕ, ◌+◌, Bool, true, false, refl, ap, sym, subst, ◌∙◌, List, [], ◌∷◌, length, Some, None, Ok, Err, is_some, not}
use Rattle.rh_tasks.proofs.Common.{take, drop, ◌==◌, ◌&&◌, ◌||◌, position, get_or, eqb-true, slice_get-get_or, Refusal, NoTask, BadRange, Letter}
use Rattle.rh_tasks.proofs.Common.{Outcome, Sending, Granted, ◌>>=◌, ◌>>◌, refuse_if, found_or, or_else, FileList, Memory, Split, Flex, flex_address}
use Rattle.rh_tasks.proofs.Common.{slot_block, holds}
use Rattle.rh_tasks.proofs.Common.{buffer_at, overlap, Desk, Task, next_ref, task_at, with_task, with_sending, send_letter, IsReordered, Handled}
use Rattle.rh_tasks.proofs.Common.{is_bad_range, refused, Seat, MadeArea, Kept, task_of, desk_of, IsWorld, IsAt, IsPortion}
use Rattle.rh_tasks.proofs.Common.{begins, ends, past, stops, Sits, mapped-at, task-found, edit-alike}
use Rattle.std.proofs.lemmas.List.Quantifiers.{position-Some}
use Rattle.std.proofs.lemmas.Option.{get_or_from_slice_get}
use Rattle.rh_defs.specs.declared.reply.Outcome.TheVariants as outcome
use Rattle.rh_defs.specs.Slot as plain
use Rattle.rh_defs.specs.Letters.{transmit_letter}
use Rattle.rh_defs.specs.OutgoingEvents.{transmit, send_with, perform_send}
use Rattle.rh_defs.specs.Sender as sender
use Rattle.rh_defs.specs.declared.transfer_action.Transmit.{Transmit}
use Rattle.rh_defs.specs.declared.transfer_action.Part.{Part}
use Rattle.rh_defs.specs.declared.transfer_action.SendAction.{SendAction}
use Rattle.rh_defs.specs.declared.transfer_action.SendAction.TheVariants as action
use Rattle.rh_tasks.specs.Inner.PollSteps.{transmitted, sent_by}
use Rattle.rh_tasks.proofs.Finding.{find-none, find-map}
use Rattle.rh_tasks.proofs.Writes.{with_written, KeyAlike, alike-reordered, alike-both, alike-sent, seen}
use Rattle.rh_tasks.proofs.Dues.{records_of, edited-records}

-- ---- the task with a handle

-- the desk's task of the handle, at its place
pub record Meant (d : Desk) (j h : ℕ) : Type 0 where
  pub task : Task
  pub at : IsAt j task d
  pub found : task_at h d ≡ Some task

-- the seat with the handle
pub record SeatOf (seats : List Seat) (j h : ℕ) : Type 0 where
  pub seat : Seat
  pub sits : Sits seats j seat
  pub handle : seat.handle ≡ h

seat-of : (seats : List Seat) (h j : ℕ) → position (λ (s : Seat). s.handle == h) seats ≡ Some j → SeatOf seats j h
seat-of [] h j e = absurd (cc)
seat-of (x ∷ seats) h j e =
    let f = position-Some (λ (s : Seat). s.handle == h) (x ∷ seats) j x e in
    let there : Seat = get_or (x ∷ seats) j x in
    record {
      seat = there;
      sits = record { inside = f.0; is = get_or_from_slice_get (x ∷ seats) j there there (slice_get-get_or (x ∷ seats) j x f.0) };
      handle = eqb-true _ _ f.1;
    }

module _ {m : Memory} {seats : List Seat} {made : List MadeArea} {files : FileList} {kept : Kept} (w : IsWorld m seats made files kept) (h : ℕ) where
  abbrev desk : Desk
  desk = desk_of m seats made files kept

  pub nobody-with : position (λ (s : Seat). s.handle == h) seats ≡ None → task_at h desk ≡ None
  unfolding task_of
  nobody-with e = find-map (task_of m) (λ (t : Task). t.handle == h) seats (find-none (λ (s : Seat). s.handle == h) seats e)

  pub somebody-with : (j : ℕ) → position (λ (s : Seat). s.handle == h) seats ≡ Some j → Meant desk j h
  unfolding task_of
  somebody-with j e =
      let s = seat-of seats h j e in
      let at : IsAt j (task_of m s.seat) desk = mapped-at (task_of m) seats j s.seat s.sits in
      let P : ℕ → Type 0 = λ k. task_at k desk ≡ Some (task_of m s.seat) in
      record { task = task_of m s.seat; at = at; found = subst P s.handle (task-found desk j (task_of m s.seat) w.desk at) }

-- what was handled, and the desk like it
pub handles-alike : {after : Handled} {d new : Desk} {o : Outcome} → after ≡ (d, o) → IsReordered d new → (o ≡ after.1) × IsReordered after.0 new
handles-alike {after} {d} {new} {o} e r = (ap (λ (p : Handled). p.1) (sym e), subst (λ x. IsReordered x new) (ap (λ (p : Handled). p.0) (sym e)) r)

-- ---- what the next steps see of a task: its handle and its slot, and its records

abbrev pub pair_of : Task → ℕ × plain.Slot
pair_of t = (t.handle, t.slot)

pub sent-pairs : (l : Letter) (d e new : Desk) → send_letter l d ≡ Ok e → IsReordered e new → KeyAlike pair_of d new
sent-pairs l d e new q r = alike-both pair_of (alike-sent pair_of l d e (λ t x. refl) q) (alike-reordered pair_of r)

pub portion-seen : {t u : Task} {a : Transmit} {address size : ℕ} {p : Part} → pair_of u ≡ pair_of t → IsPortion t a address size p
    → IsPortion u a address size p
portion-seen {t} {u} {a} {address} {size} {p} e b =
    let same : t.slot ≡ u.slot = ap (λ (q : ℕ × plain.Slot). q.1) (sym e) in
    record {
      source = b.source;
      block = subst (λ s. slot_block a.transfer.anchor s ≡ Ok b.source) same b.block;
      size_is = b.size_is;
      address_is = b.address_is ∙ ap (λ s. flex_address s b.source.before + p.offset) same;
      part_is = b.part_is;
    }

block-seen : (t u : Task) {a : Transmit} {address size : ℕ} {p : Part} → pair_of u ≡ pair_of t → (b : IsPortion t a address size p)
    → slot_block a.transfer.anchor u.slot ≡ Ok b.source
block-seen t u {a} e b = subst (λ s. slot_block a.transfer.anchor s ≡ Ok b.source) (ap (λ (q : ℕ × plain.Slot). q.1) (sym e)) b.block

pub reach-seen : (t u r s : Task) (buffer amount address n : ℕ) → pair_of u ≡ pair_of t → pair_of s ≡ pair_of r
    → is_bad_range u s buffer amount address n ≡ is_bad_range t r buffer amount address n
reach-seen t u r s buffer amount address n e f =
    let F : ℕ × plain.Slot → ℕ × plain.Slot → Bool =
    λ p q. not (is_some (buffer_at buffer amount q.1)) && (not (holds buffer amount q.1) || (p.0 == q.0 && overlap buffer amount address n)) in
    ap (λ p. F p (pair_of s)) e ∙ ap (F (pair_of t)) f

module _ {d e f : Desk} (k : KeyAlike pair_of d e) (i j : ℕ) {t r : Task} (ti : IsAt i t d) (rj : IsAt j r d) {a : Transmit} {address size : ℕ}
    {p : Part} (b : IsPortion t a address size p) (buffer room : ℕ)
    (wrote : (t r : Task) (source : Split Flex) → IsAt i t e → IsAt j r e → slot_block a.transfer.anchor t.slot ≡ Ok source
    → f ≡ with_task r.handle (with_written buffer room (take p.n (drop p.offset source.here.bytes))) e) where
  abbrev edit : Task → Task
  edit u = with_written buffer room (take p.n (drop p.offset b.source.here.bytes)) u

  pub wrote-is : f ≡ with_task r.handle edit e
  wrote-is =
      let x = seen pair_of k i t ti in
      let y = seen pair_of k j r rj in
      wrote x.task y.task b.source x.at y.at (block-seen t x.task x.alike b) ∙ ap (λ (q : ℕ × plain.Slot). with_task q.0 edit e) y.alike

  pub wrote-records : KeyAlike records_of d e → KeyAlike records_of d f
  wrote-records sent = alike-both records_of sent (edited-records r.handle edit (λ u. refl) wrote-is)

-- ---- a transmit

module _ (d : Desk) (t : Task) (a : Transmit) where
  abbrev given : Granted Handled
  given = transmitted d t a

  pub transmit-missing : {e : Refusal} → slot_block a.transfer.anchor t.slot ≡ Err e → given ≡ Err e
  transmit-missing q = ends _ q

  module _ {address size : ℕ} {p : Part} (b : IsPortion t a address size p) where
    -- the transmit is sent, and a part of the source is written
    abbrev after_sent : Part → ℕ → Task → Desk → Handled
    after_sent k ref r sent = (
      with_sending t.handle (sender.sent a k ref)
          (with_task r.handle (with_written a.buffer a.room (take k.n (drop k.offset b.source.here.bytes))) sent),
      outcome.Sent k.n ref,
    )

    -- the definition's steps, by the part
    abbrev steps : Part → Granted Handled
    steps k =
        found_or (task_at a.transfer.recipient d) NoTask >>= λ r.
        refuse_if (is_bad_range t r a.buffer a.room (flex_address t.slot b.source.before + k.offset) k.n) BadRange
        >> (send_letter (transmit_letter t.handle a k) d >>= λ sent. Ok (after_sent k (next_ref d) r sent))

    steps-are : given ≡ steps p
    unfolding transmit
    steps-are = begins _ b.block (ap (λ k. steps (sender.next_part a k)) (sym b.size_is) ∙ ap steps (sym b.part_is))

    pub transmit-nobody : task_at a.transfer.recipient d ≡ None → given ≡ Err NoTask
    unfolding found_or
    transmit-nobody q = steps-are ∙ ends _ (ap (λ o. found_or o NoTask) q)

    module _ (r : Task) (found : task_at a.transfer.recipient d ≡ Some r) where
      there : found_or (task_at a.transfer.recipient d) NoTask ≡ Ok r
      unfolding found_or
      there = ap (λ o. found_or o NoTask) found

      out-same : is_bad_range t r a.buffer a.room (flex_address t.slot b.source.before + p.offset) p.n ≡ is_bad_range t r a.buffer a.room address p.n
      out-same = ap (λ k. is_bad_range t r a.buffer a.room k p.n) (sym b.address_is)

      pub transmit-far : true ≡ is_bad_range t r a.buffer a.room address p.n → given ≡ Err BadRange
      transmit-far q = steps-are ∙ begins _ there (stops _ BadRange _ (out-same ∙ sym q))

      module _ (near : false ≡ is_bad_range t r a.buffer a.room address p.n) where
        pub transmit-refused : {e : Refusal} → send_letter (transmit_letter t.handle a p) d ≡ Err e → given ≡ Err e
        transmit-refused q = steps-are ∙ begins _ there (past _ BadRange _ (out-same ∙ sym near) (ends _ q))

        transmit-done : {sent : Desk} → send_letter (transmit_letter t.handle a p) d ≡ Ok sent → given ≡ Ok (after_sent p (next_ref d) r sent)
        transmit-done q = steps-are ∙ begins _ there (past _ BadRange _ (out-same ∙ sym near) (begins _ q refl))

        pub transmit-whole : {ref : ℕ} {sent e f new : Desk} → ref ≡ next_ref d → send_letter (transmit_letter t.handle a p) d ≡ Ok sent
            → IsReordered sent e
            → f ≡ with_task r.handle (with_written a.buffer a.room (take p.n (drop p.offset b.source.here.bytes))) e
            → new ≡ with_sending t.handle (sender.sent a (sender.next_part a size) ref) f
            → (y : Desk) × ((given ≡ Ok (y, outcome.Sent p.n ref)) × IsReordered y new)
        transmit-whole {ref} {sent} {e} {f} {new} is q alike wrote recorded =
            let after = after_sent p ref r sent in
            let edits = edit-alike t.handle (λ u. record u { sending = sender.sent a p ref u.sending })
            (edit-alike r.handle (with_written a.buffer a.room (take p.n (drop p.offset b.source.here.bytes))) alike) in
            let same = recorded ∙ ap (λ k. with_sending t.handle (sender.sent a k ref) f) (sym b.part_is)
            ∙ ap (λ y. with_sending t.handle (sender.sent a p ref) y) wrote in (
              after.0,
              (
                transmit-done q ∙ ap (λ k. let g : Granted Handled = Ok (after_sent p k r sent) in g) (sym is),
                subst (IsReordered after.0) (sym same) edits,
              ),
            )

-- ---- all was loaded

module _ (d : Desk) (t : Task) (x : Sending) where
  pub load-done : {source : Split Flex} → slot_block x.anchor t.slot ≡ Ok source
      → sent_by d t (action.Finish x) ≡ Ok (with_sending t.handle (sender.sending_loaded x (length source.here.bytes)) d, outcome.Done)
  unfolding send_with
  load-done e = begins _ e refl

  pub load-refused : {r : Refusal} → slot_block x.anchor t.slot ≡ Err r → sent_by d t (action.Finish x) ≡ Err r
  load-refused e = ends _ e

-- ---- an action

module _ (d : Desk) (t : Task) (a : SendAction) where
  pub action-done : {after : Handled} → sent_by d t a ≡ Ok after → perform_send d t (Some a) ≡ after
  unfolding perform_send or_else
  action-done e = rw e refl

  pub action-refused : {r : Refusal} → sent_by d t a ≡ Err r → perform_send d t (Some a) ≡ refused d t (sender.transfer_of a) r
  unfolding perform_send or_else
  action-refused e = rw e refl
