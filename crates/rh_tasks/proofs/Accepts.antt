-- A DataSave that is taken: a buffer, an empty document and a fetch, all granted or none.
use Rattle.rh_tasks.proofs.Common.{◌≡◌, ℕ, ◌+◌, ◌-◌, ◌≤◌, ◌<◌, Bool, true, false, refl, ap, ◌∙◌, arith, inl, inr, Some, Ok, Err, is_ok, cases_lt, Letter}
use Rattle.rh_tasks.proofs.Common.{Refusal, NoRoom, Granted, ◌>>=◌, found_or, pages_for, need, claim_growing, Slot, slot_length, slot_alloc, slot_claim}
use Rattle.rh_tasks.proofs.Common.{slot_take_pages, fetch_letter, Post, post_send, post_send_pages, Desk, Task, next_ref, free_pages, with_task}
use Rattle.rh_tasks.proofs.Common.{with_slot, with_taking, with_post, send_letter, Handled, accept, IsDesk, IsAt, IsFreeAnchor, begins, ends}
use Rattle.rh_defs.specs.declared.refusal.Refusal.TheVariants.{AnchorInUse}
use Rattle.rh_defs.specs.declared.reply.Outcome.TheVariants as outcome
use Rattle.rh_defs.specs.declared.transfer_action.Claim.{Claim}
use Rattle.rh_defs.specs.Slot.{flex_weight, slot_pages}
use Rattle.rh_defs.specs.Receiver as receiver
use Rattle.rh_defs.proofs.Desks.{with_slot-pages}
use Rattle.rh_defs.proofs.ModuleKeeps.{claim_growing-end}
use Rattle.rh_defs.proofs.SlotRooms.{length-with_zeros, pages-with_heap}
use Rattle.rh_tasks.proofs.SendRooms.{where_free, sent_post, send-refused, send-fits, send-lacks, fetch-pages}
use Rattle.rh_tasks.proofs.Rooms.{free-given, free-lacking, claimed, both_pages, claim-by_pages, take-is, documented, alloc-by_pages, unused-above}
use Rattle.rh_tasks.proofs.Rooms.{anchor-unused}
use Rattle.rh_tasks.proofs.Slides.{at-task}

-- ---- chains that are granted or refused

pub ok-begins : {A B : Type 0} {first : Granted A} {a : A} {b : Bool} (next : A → Granted B) → first ≡ Ok a → is_ok (next a) ≡ b → is_ok (first >>= next) ≡ b
unfolding ◌>>=◌
ok-begins next e h = rw e h

pub ok-ends : {A B : Type 0} {first : Granted A} {r : Refusal} (next : A → Granted B) → first ≡ Err r → is_ok (first >>= next) ≡ false
unfolding ◌>>=◌
ok-ends next e = rw e refl

pub ok-never : {A B : Type 0} (first : Granted A) (next : A → Granted B) → ((a : A) → is_ok (next a) ≡ false) → is_ok (first >>= next) ≡ false
unfolding ◌>>=◌
ok-never (Ok a) next h = h a
ok-never (Err r) next h = refl

-- ---- the steps

module _ (d : Desk) (t : Task) (claim : Claim) where
  abbrev pub the_fetch : ℕ → Letter
  the_fetch buffer = fetch_letter t.handle (receiver.first_fetch claim buffer t.buffer)

  -- what is left to do once the letter is sent, once the document is there, and once the buffer is
  module _ (k : ℕ) where
    abbrev pub after_fetch : Slot × ℕ → Desk → Granted Handled
    after_fetch b sent =
        Ok (with_taking t.handle (receiver.taking_claimed claim k b.1 (next_ref d)) sent, outcome.Fetch (next_ref d))

    abbrev pub after_document : Slot × ℕ → Slot × ℕ → Granted Handled
    after_document b p = send_letter (the_fetch b.1) (with_slot t.handle p.0 d) >>= after_fetch b

    abbrev pub after_buffer : Slot × ℕ → Granted Handled
    after_buffer b = slot_alloc (free_pages (with_slot t.handle b.0 d)) k 0 b.0 >>= after_document b

    module _ (free : IsFreeAnchor k t.slot) where
      pub accept-is : accept d t claim ≡ (slot_claim (free_pages d) t.buffer t.slot >>= after_buffer)
      unfolding accept found_or
      accept-is = begins _ (ap (λ o. found_or o AnchorInUse) free.is) refl

-- ---- the letter

-- the desk once the letter is sent
abbrev pub sent_desk : Letter → Desk → Post × ℕ → Desk
sent_desk l d sent = with_task l.from (λ t. record t { last_sent = Some (l, sent.1) }) (with_post sent.0 d)

pub letter-sent : (l : Letter) (d : Desk) (sent : Post × ℕ) → post_send (free_pages d) l d.post ≡ Ok sent → send_letter l d ≡ Ok (sent_desk l d sent)
unfolding send_letter
letter-sent l d sent e = begins _ e refl

pub letter-refused : (l : Letter) (d : Desk) {r : Refusal} → post_send (free_pages d) l d.post ≡ Err r → send_letter l d ≡ Err r
unfolding send_letter
letter-refused l d e = ends _ e

module _ (h : ℕ) (s : Slot) (l : Letter) (d : Desk) where
  slot-post : (with_slot h s d).post ≡ d.post
  unfolding with_task
  slot-post = refl

  there : {g : Granted (Post × ℕ)} → post_send (free_pages (with_slot h s d)) l d.post ≡ g
      → post_send (free_pages (with_slot h s d)) l (with_slot h s d).post ≡ g
  there e = ap (post_send (free_pages (with_slot h s d)) l) slot-post ∙ e

  pub fetch-refused : {r : Refusal} → post_send_pages l d.post ≡ Err r → send_letter l (with_slot h s d) ≡ Err r
  fetch-refused e = letter-refused l (with_slot h s d) (there (send-refused (free_pages (with_slot h s d)) l d.post e))

  module _ {more : ℕ} (needs : post_send_pages l d.post ≡ Ok more) where
    pub fetch-fits : more ≤ free_pages (with_slot h s d) → send_letter l (with_slot h s d) ≡ Ok (sent_desk l (with_slot h s d) (sent_post l d.post))
    fetch-fits room = letter-sent l (with_slot h s d) (sent_post l d.post) (there (send-fits (free_pages (with_slot h s d)) l d.post needs room))

    pub fetch-lacks : free_pages (with_slot h s d) < more → send_letter l (with_slot h s d) ≡ Err NoRoom
    fetch-lacks short = letter-refused l (with_slot h s d) (there (send-lacks (free_pages (with_slot h s d)) l d.post needs short))

-- ---- the room

module _ (d : Desk) (i : ℕ) (t : Task) (claim : Claim) (k : ℕ) (is : IsDesk d) (at : IsAt i t d) (free : IsFreeAnchor k t.slot) where
  abbrev b : Slot × ℕ
  b = claimed t.buffer t.slot

  abbrev p : Slot × ℕ
  p = documented k b.0

  abbrev shortage : ℕ
  shortage = need t.buffer t.slot.heap

  abbrev document_pages : ℕ
  document_pages = pages_for (slot_length b.0 + flex_weight 0) - slot_pages b.0

  buffer-pages : slot_pages b.0 ≡ slot_pages t.slot + pages_for shortage
  buffer-pages = pages-with_heap shortage (claim_growing t.buffer t.slot.heap).heap t.slot (claim_growing-end t.buffer t.slot.heap)

  both-are : both_pages t.buffer t.slot ≡ pages_for shortage + document_pages
  both-are = omega (arith, buffer-pages, claim_growing-end t.buffer t.slot.heap)

  document-pages : slot_pages p.0 ≡ slot_pages t.slot + both_pages t.buffer t.slot
  document-pages = omega (arith, buffer-pages, both-are, length-with_zeros k 0 b.0)

  free-with : (s : Slot) → free_pages (with_slot t.handle s d) ≡ (free_pages d + slot_pages t.slot) - slot_pages s
  unfolding with_task
  free-with s = omega (arith, is.pages, with_slot-pages d t s (at-task d i t is at))

  -- the buffer
  buffer-fits : {pages : ℕ} → slot_take_pages t.buffer t.slot ≡ Ok pages → pages_for shortage ≤ free_pages d → slot_claim (free_pages d) t.buffer t.slot ≡ Ok b
  buffer-fits take room = claim-by_pages (free_pages d) t.buffer t.slot ∙ begins _ take (free-given (free_pages d) (pages_for shortage) b room)

  document-unused : slot_alloc (free_pages (with_slot t.handle b.0 d)) k 0 b.0 ≡ where_free (free_pages (with_slot t.handle b.0 d)) p document_pages
  document-unused = alloc-by_pages (free_pages (with_slot t.handle b.0 d)) k b.0
      (unused-above k (claim_growing t.buffer t.slot.heap).heap t.slot (anchor-unused k t.slot free))

  abbrev letter : Letter
  letter = the_fetch d t claim 0

  abbrev fetch : Letter
  fetch = the_fetch d t claim b.1

  accepted : accept d t claim ≡ (slot_claim (free_pages d) t.buffer t.slot >>= after_buffer d t claim k)
  accepted = accept-is d t claim k free

  pub accept-no_buffer : {r : Refusal} → slot_take_pages t.buffer t.slot ≡ Err r → is_ok (accept d t claim) ≡ false
  accept-no_buffer e = ap is_ok accepted ∙ ok-ends (after_buffer d t claim k) (claim-by_pages (free_pages d) t.buffer t.slot ∙ ends _ e)

  pub accept-no_fetch : {r : Refusal} → post_send_pages letter d.post ≡ Err r → is_ok (accept d t claim) ≡ false
  accept-no_fetch e =
      ap is_ok accepted ∙ ok-never _ (after_buffer d t claim k) λ b1. ok-never _ (after_document d t claim k b1) λ p1.
      ok-ends (after_fetch d t claim k b1)
      (fetch-refused t.handle p1.0 (the_fetch d t claim b1.1) d (fetch-pages t.handle claim b1.1 0 t.buffer d.post ∙ e))

  module _ {pages more : ℕ} (take : slot_take_pages t.buffer t.slot ≡ Ok pages) (send : post_send_pages letter d.post ≡ Ok more) where
    needs : post_send_pages fetch d.post ≡ Ok more
    needs = fetch-pages t.handle claim b.1 0 t.buffer d.post ∙ send

    pages-are : pages ≡ pages_for shortage + document_pages
    pages-are = take-is t.buffer pages t.slot take ∙ both-are

    pub accept-fits : pages + more ≤ free_pages d → is_ok (accept d t claim) ≡ true
    accept-fits room =
        ap is_ok accepted
        ∙ ok-begins (after_buffer d t claim k) (buffer-fits take (omega (arith, pages-are, room)))
        (ok-begins (after_document d t claim k b) (document-unused ∙ free-given _ document_pages p
        (omega (arith, pages-are, room, free-with b.0, buffer-pages)))
        (ok-begins (after_fetch d t claim k b) (fetch-fits t.handle p.0 fetch d needs (omega (arith, pages-are, room, free-with p.0, document-pages, both-are)))
        refl))

    pub accept-lacks : free_pages d < pages + more → is_ok (accept d t claim) ≡ false
    accept-lacks short = ap is_ok accepted ∙ elim (cases_lt (free_pages d) (pages_for shortage)) [
      | inl few ↦ ok-ends (after_buffer d t claim k) (claim-by_pages (free_pages d) t.buffer t.slot
          ∙ begins _ take (free-lacking (free_pages d) (pages_for shortage) b few))
      | inr some ↦ ok-begins (after_buffer d t claim k) (buffer-fits take some) (elim (cases_lt (free_pages (with_slot t.handle b.0 d)) document_pages) [
        | inl few ↦ ok-ends (after_document d t claim k b) (document-unused ∙ free-lacking _ document_pages p few)
        | inr more-are ↦ ok-begins (after_document d t claim k b) (document-unused ∙ free-given _ document_pages p more-are)
            (ok-ends (after_fetch d t claim k b) (fetch-lacks t.handle p.0 fetch d needs
            (omega (arith, pages-are, short, some, more-are, free-with b.0, free-with p.0, buffer-pages, document-pages, both-are))))
      ])
    ]
