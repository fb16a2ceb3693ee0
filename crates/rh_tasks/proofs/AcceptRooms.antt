-- Whether a DataSave is taken, by what the task's slot and the queue answer.
use Rattle.rh_tasks.proofs.Common.{◌≡◌, ℕ, ◌-◌, ◌≤◌, ◌<◌, false, ap, sym, ◌∙◌, arith, List, inl, inr, Ok, Err, is_ok, nat_le, cases_lt, Memory, FileList}
use Rattle.rh_tasks.proofs.Common.{Letter, Refusal, Granted, slot_take_pages, fetch_letter, post_send_pages, Desk, Task, accept, slot_in}
use Rattle.rh_tasks.proofs.Common.{Answers, Seat, MadeArea, Kept, the_module, task_of, desk_of, IsWorld, IsAt, IsFreeAnchor, Sits, le-true, le-false, free-is}
use Rattle.rh_defs.specs.declared.transfer_action.Claim.{Claim}
use Rattle.rh_defs.specs.Receiver.{first_fetch}
use Rattle.rh_tasks.proofs.Posts.{is-post}
use Rattle.rh_tasks.proofs.Slides.{seat-is}
use Rattle.rh_tasks.proofs.Accepts.{the_fetch, accept-no_buffer, accept-no_fetch, accept-fits, accept-lacks}

module _ {o : Memory} {seats : List Seat} {made : List MadeArea} {files : FileList} {kept : Kept} {i : ℕ} {s : Seat}
    (w : IsWorld o seats made files kept) (at : Sits seats i s) (claim : Claim) where
  abbrev d : Desk
  d = desk_of o seats made files kept

  -- the fetch, as it would be sent with a buffer anywhere
  abbrev own_fetch : Letter
  own_fetch = fetch_letter s.handle (first_fetch claim 0 s.buffer)

  module _ (t : Task) (k : ℕ) (here : IsAt i t d) (free : IsFreeAnchor k t.slot) where
    take-here : {g : Granted ℕ} → g ≡ slot_take_pages s.buffer (slot_in o s.slot) → slot_take_pages t.buffer t.slot ≡ g
    unfolding task_of
    take-here e = ap (λ (x : Task). slot_take_pages x.buffer x.slot) (sym (seat-is w at t here)) ∙ sym e

    fetch-here : own_fetch ≡ the_fetch d t claim 0
    unfolding task_of
    fetch-here = ap (λ (x : Task). fetch_letter x.handle (first_fetch claim 0 x.buffer)) (seat-is w at t here)

    send-here : {g : Granted ℕ} {letter : Letter} → letter ≡ own_fetch → Answers o the_module kept.queue (post_send_pages letter) g
        → post_send_pages (the_fetch d t claim 0) d.post ≡ g
    send-here e a = ap (λ l. post_send_pages l d.post) (sym (e ∙ fetch-here)) ∙ sym (a d.post (is-post w))

    pub room-no_buffer : {r : Refusal} → Err r ≡ slot_take_pages s.buffer (slot_in o s.slot) → false ≡ is_ok (accept d t claim)
    room-no_buffer e = sym (accept-no_buffer d i t claim k w.desk here free (take-here e))

    pub room-no_fetch : {r : Refusal} {letter : Letter} → letter ≡ own_fetch → Answers o the_module kept.queue (post_send_pages letter) (Err r)
        → false ≡ is_ok (accept d t claim)
    room-no_fetch e a = sym (accept-no_fetch d i t claim k w.desk here free (send-here e a))

    module _ {pages more n : ℕ} {letter : Letter} (take : Ok pages ≡ slot_take_pages s.buffer (slot_in o s.slot)) (same : letter ≡ own_fetch)
        (send : Answers o the_module kept.queue (post_send_pages letter) (Ok more)) (free-are : n ≡ o.free) where
      pub room-rest : pages ≤ n → nat_le more (n - pages) ≡ is_ok (accept d t claim)
      room-rest a = elim (cases_lt (n - pages) more) [
        | inl short ↦ le-false more (n - pages) short
            ∙ sym (accept-lacks d i t claim k w.desk here free (take-here take) (send-here same send) (omega (arith, a, short, free-are, free-is w)))
        | inr room ↦ le-true more (n - pages) room
            ∙ sym (accept-fits d i t claim k w.desk here free (take-here take) (send-here same send) (omega (arith, a, room, free-are, free-is w)))
      ]

      pub room-short : n < pages → nat_le pages n ≡ is_ok (accept d t claim)
      room-short a =
          le-false pages n a ∙ sym (accept-lacks d i t claim k w.desk here free (take-here take) (send-here same send) (omega (arith, a, free-are, free-is w)))
