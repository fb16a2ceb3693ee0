-- The steps by which a DataSave is taken, once all of them are known to be granted.
use Rattle.rh_tasks.proofs.Common.{◌≡◌, ℕ, ◌<◌, Bool, true, false, refl, ap, sym, subst, ◌∙◌, inl, inr, List, [], ◌∷◌, length, Option, Some, None, Result, Ok}
use Rattle.rh_tasks.proofs.Common.{Err, IsOk, IsErr, is_ok, is_err, slice_get, cases_eq, slice_get_within, Memory, FileList, Letter, Refusal}
use Rattle.rh_tasks.proofs.Common.{Granted, ◌>>=◌, found_or, Slot, slot_alloc, slot_claim, fetch_letter, Desk, Task, next_ref}
use Rattle.rh_tasks.proofs.Common.{free_pages, edit_task, with_task, with_slot, with_taking, send_letter, Handled, accept, IsDesk, IsReordered, slot_in, Seat}
use Rattle.rh_tasks.proofs.Common.{MadeArea, Shown, Kept, task_of, shown_of, IsWorld, IsAt, IsFreeAnchor, Becomes, Sends, Sits, begins, ends, if_same}
use Rattle.rh_tasks.proofs.Common.{if_apart, reordered-at, edit-alike}
use Rattle.rh_defs.specs.declared.refusal.Refusal.TheVariants.{AnchorInUse}
use Rattle.rh_defs.specs.declared.reply.Outcome.TheVariants as outcome
use Rattle.rh_defs.specs.declared.transfer_action.Claim.{Claim}
use Rattle.rh_defs.specs.declared.transfer_action.TakeAction.{TakeAction}
use Rattle.rh_defs.specs.Places.{free_anchor}
use Rattle.rh_defs.specs.Receiver as receiver
use Rattle.rh_ram.specs.Due.{is_take_due}
use Rattle.rh_tasks.specs.Inner.PollSteps.{CanTake, Claims, with_document}
use Rattle.rh_tasks.proofs.Places.{edited-at, edited-is, one-at}
use Rattle.rh_tasks.proofs.Buffers.{seat-task, seat-handle, seat-buffer, seat-there}
use Rattle.rh_tasks.proofs.Accepts.{ok-begins, ok-ends, the_fetch, after_fetch, after_document, after_buffer, accept-is, sent_desk}

-- ---- chains

no-refusal : {A B : Type 0} {first : Granted A} {r : Refusal} (next : A → Granted B) → is_ok (first >>= next) ≡ true → first ≡ Err r → ⊥
no-refusal next ok e = let q = ok-ends next e in cc

still-ok : {A B : Type 0} {first : Granted A} {a : A} (next : A → Granted B) → is_ok (first >>= next) ≡ true → first ≡ Ok a → is_ok (next a) ≡ true
still-ok next ok e = sym (ok-begins next e refl) ∙ ok

map-refused : {A B : Type 0} {r : Refusal} (f : A → B) (g : Granted A) → (g >>= (λ x. let y : Granted B = Ok (f x) in y)) ≡ Err r → g ≡ Err r
unfolding ◌>>=◌
map-refused f (Ok x) e = absurd cc
map-refused f (Err q) e = cc

-- what was granted, of what it was made
record Made {A B : Type 0} (f : A → B) (g : Granted A) (y : B) : Type 0 where
  pub from : A
  pub granted : g ≡ Ok from
  pub is : y ≡ f from

map-granted : {A B : Type 0} {y : B} (f : A → B) (g : Granted A) → (g >>= (λ x. let z : Granted B = Ok (f x) in z)) ≡ Ok y → Made f g y
unfolding ◌>>=◌
map-granted {y} f (Ok x) e = let same : f x ≡ y = cc in record { from = x; granted = refl; is = sym same }
map-granted f (Err q) e = absurd cc

-- ---- a task that is edited twice

twice : (h : ℕ) (f g : Task → Task) → ((t : Task) → (g t).handle ≡ t.handle) → (tasks : List Task)
    → edit_task h f (edit_task h g tasks) ≡ edit_task h (λ t. f (g t)) tasks
twice h f g keeps [] = refl
twice h f g keeps (t ∷ tasks) = elim (cases_eq t.handle h) [
  | inl e ↦ ap (edit_task h f) (if_same t.handle h (g t ∷ tasks) (t ∷ edit_task h g tasks) e)
      ∙ if_same (g t).handle h (f (g t) ∷ tasks) (g t ∷ edit_task h f tasks) (keeps t ∙ e)
      ∙ sym (if_same t.handle h (f (g t) ∷ tasks) (t ∷ edit_task h (λ x. f (g x)) tasks) e)
  | inr ne ↦ ap (edit_task h f) (if_apart t.handle h (g t ∷ tasks) (t ∷ edit_task h g tasks) ne)
      ∙ if_apart t.handle h (f t ∷ edit_task h g tasks) (t ∷ edit_task h f (edit_task h g tasks)) ne
      ∙ ap (λ (l : List Task). t ∷ l) (twice h f g keeps tasks)
      ∙ sym (if_apart t.handle h (f (g t) ∷ tasks) (t ∷ edit_task h (λ x. f (g x)) tasks) ne)
]

-- the last slot stays
pub last-slot : (h : ℕ) (s first : Slot) (d : Desk) → with_slot h s (with_slot h first d) ≡ with_slot h s d
unfolding with_task
last-slot h s first d =
    ap (λ (l : List Task). let x : Desk = record d { tasks = l } in x) (twice h (λ t. record t { slot = s }) (λ t. record t { slot = first }) (λ t. refl)
    d.tasks)

-- ---- what is known before the first step

-- the task's handle is h, its receive buffer n bytes long, k its lowest anchor without a block, and all is granted
pub record CanAccept (v : Shown) (i : ℕ) (t : Task) (claim : Claim) (k h n : ℕ) : Type 0 where
  pub is : IsDesk v.desk
  pub here : IsAt i t v.desk
  pub free : IsFreeAnchor k t.slot
  pub own : h ≡ t.handle
  pub room : n ≡ t.buffer
  pub ok : is_ok (accept v.desk t claim) ≡ true

module _ {o : Memory} {seats : List Seat} {made : List MadeArea} {files : FileList} {kept : Kept} {i : ℕ} {s : Seat} {v : Shown}
    (w : IsWorld o seats made files kept) (at : Sits seats i s) (view : shown_of o seats made files kept ≡ v) where
  module _ (t : Task) (at-v : IsAt i t v.desk) where
    own-slot : slot_in o s.slot ≡ t.slot
    unfolding task_of
    own-slot = ap (λ (x : Task). x.slot) (seat-task w view at at-v)

    own-anchor : {k : ℕ} → Some k ≡ free_anchor (slot_in o s.slot) → IsFreeAnchor k t.slot
    own-anchor {k} e = subst (IsFreeAnchor k) own-slot (record { is = sym e })

  -- no anchor is free
  pub accept-no_anchor : (t : Task) (claim : Claim) → IsAt i t v.desk → None ≡ free_anchor (slot_in o s.slot) → IsErr (accept v.desk t claim)
  unfolding accept found_or
  accept-no_anchor t claim at-v e =
      ap is_err (ends _ (ap (λ x. found_or (free_anchor x) AnchorInUse) (sym (own-slot t at-v)) ∙ ap (λ (x : Option ℕ). found_or x AnchorInUse) (sym e)))

  module _ {k : ℕ} {has : Bool} (claim : Claim) (anchor : Some k ≡ free_anchor (slot_in o s.slot))
      (says : (t : Task) (k : ℕ) → IsAt i t v.desk → IsFreeAnchor k t.slot → has ≡ is_ok (accept v.desk t claim)) where
    pub accept-no_room : (t : Task) → IsAt i t v.desk → has ≡ false → IsErr (accept v.desk t claim)
    accept-no_room t here refused = not-ok (accept v.desk t claim) (sym (says t k here (own-anchor t here anchor)) ∙ refused)
      where
        not-ok : {A : Type 0} (g : Granted A) → is_ok g ≡ false → IsErr g
        not-ok (Ok a) e = absurd cc
        not-ok (Err r) e = refl

    pub can-accept : (t : Task) → IsAt i t v.desk → has ≡ true → CanAccept v i t claim k s.handle s.buffer
    can-accept t here granted = record {
      is = subst (λ (x : Shown). IsDesk x.desk) view w.desk;
      here = here;
      free = own-anchor t here anchor;
      own = seat-handle w view at here;
      room = seat-buffer w view at here;
      ok = sym (says t k here (own-anchor t here anchor)) ∙ granted;
    }

    pub can-accept-own : has ≡ true → CanAccept v i (task_of o s) claim k s.handle s.buffer
    can-accept-own granted = can-accept (task_of o s) (seat-there w view at) granted

-- ---- the steps

-- the desk has the buffer
pub record HasBuffer (v v1 : Shown) (t : Task) (a : ℕ) : Type 0 where
  pub slot : Slot
  pub granted : slot_claim (free_pages v.desk) t.buffer t.slot ≡ Ok (slot, a)
  pub desk : v1.desk ≡ with_slot t.handle slot v.desk

-- and the document
pub record HasDocument (v v2 : Shown) (t : Task) (k : ℕ) (slot : Slot) : Type 0 where
  pub placed : Slot × ℕ
  pub granted : slot_alloc (free_pages (with_slot t.handle slot v.desk)) k 0 slot ≡ Ok placed
  pub desk : v2.desk ≡ with_slot t.handle placed.0 v.desk

-- and the letter is sent
pub record HasFetch (v2 v3 : Shown) (l : Letter) (ref : ℕ) : Type 0 where
  pub sent : Desk
  pub ref_is : ref ≡ next_ref v2.desk
  pub granted : send_letter l v2.desk ≡ Ok sent
  pub alike : IsReordered sent v3.desk

module _ {v : Shown} {i : ℕ} {t : Task} {claim : Claim} {k h n : ℕ} (can : CanAccept v i t claim k h n) where
  all-ok : is_ok (slot_claim (free_pages v.desk) t.buffer t.slot >>= after_buffer v.desk t claim k) ≡ true
  all-ok = ap is_ok (sym (accept-is v.desk t claim k can.free)) ∙ can.ok

  same-claim : {g : Granted (Slot × ℕ)} → slot_claim (free_pages v.desk) n t.slot ≡ g → slot_claim (free_pages v.desk) t.buffer t.slot ≡ g
  same-claim e = ap (λ x. slot_claim (free_pages v.desk) x t.slot) (sym can.room) ∙ e

  pub buffer-must : (v1 : Shown) (r : Result ℕ Refusal) → Claims t.handle (slot_claim (free_pages v.desk) n t.slot) v v1 r → IsOk r
  buffer-must v1 (Ok a) c = refl
  buffer-must v1 (Err e) c = absurd (no-refusal (after_buffer v.desk t claim k) all-ok (same-claim c.0))

  pub buffer-got : {v1 : Shown} {a : ℕ} (r : Result ℕ Refusal) → Claims t.handle (slot_claim (free_pages v.desk) n t.slot) v v1 r → r ≡ Ok a
      → HasBuffer v v1 t a
  buffer-got {a} (Ok x) c e =
      let same : x ≡ a = cc in
      record { slot = c.0; granted = same-claim c.1.0 ∙ ap (λ y. let g : Granted (Slot × ℕ) = Ok (c.0, y) in g) same; desk = c.1.1 }
  buffer-got (Err x) c e = absurd cc

  module _ {v1 : Shown} {a : ℕ} (one : HasBuffer v v1 t a) where
    abbrev pub with_buffer : Task
    with_buffer = record t { slot = one.slot }

    document-ok : is_ok (after_buffer v.desk t claim k (one.slot, a)) ≡ true
    document-ok = still-ok (after_buffer v.desk t claim k) all-ok one.granted

    pub buffer-at : IsAt i with_buffer v1.desk
    buffer-at = subst (IsAt i with_buffer) (sym one.desk) (edited-is v.desk i t (λ x. record x { slot = one.slot }) can.is can.here)

    pub buffer-place : i < length v1.desk.tasks
    buffer-place = slice_get_within v1.desk.tasks i with_buffer buffer-at

    same-document : {g : Granted Desk} → with_document v1.desk with_buffer k ≡ g → with_document (with_slot t.handle one.slot v.desk) with_buffer k ≡ g
    same-document e = ap (λ x. with_document x with_buffer k) (sym one.desk) ∙ e

    pub document-must : (v2 : Shown) (r : Result (Unit {0}) Refusal) → Becomes (with_document v1.desk with_buffer k) v1 v2 r → IsOk r
    document-must v2 (Ok u) c = refl
    document-must v2 (Err e) c = absurd (no-refusal (after_document v.desk t claim k (one.slot, a)) document-ok (map-refused _ _ (same-document c.0)))

    pub document-got : {v2 : Shown} {u : Unit {0}} (r : Result (Unit {0}) Refusal) → Becomes (with_document v1.desk with_buffer k) v1 v2 r → r ≡ Ok u
        → HasDocument v v2 t k one.slot
    document-got (Ok x) c e =
        let made = map-granted (λ (p : Slot × ℕ). with_slot t.handle p.0 (with_slot t.handle one.slot v.desk)) _ (same-document c) in
        record { placed = made.from; granted = made.granted; desk = made.is ∙ last-slot t.handle made.from.0 one.slot v.desk }
    document-got (Err x) c e = absurd cc

    module _ {v2 : Shown} (two : HasDocument v v2 t k one.slot) {l : Letter} (is : l ≡ fetch_letter h (receiver.first_fetch claim a n)) where
      abbrev with_both : Task
      with_both = record t { slot = two.placed.0 }

      same : l ≡ the_fetch v.desk t claim a
      same = is ∙ ap (λ x. fetch_letter x (receiver.first_fetch claim a n)) can.own
          ∙ ap (λ x. fetch_letter t.handle (receiver.first_fetch claim a x)) can.room

      fetch-ok : is_ok (after_document v.desk t claim k (one.slot, a) two.placed) ≡ true
      fetch-ok = still-ok (after_document v.desk t claim k (one.slot, a)) document-ok two.granted

      both-at : IsAt i with_both v2.desk
      both-at = subst (IsAt i with_both) (sym two.desk) (edited-is v.desk i t (λ x. record x { slot = two.placed.0 }) can.is can.here)

      from-own : l.from ≡ t.handle
      from-own = ap (λ (x : Letter). x.from) same

      pub fetch-from : (x : Task) × (IsAt i x v2.desk × (l.from ≡ x.handle))
      fetch-from = (with_both, (both-at, from-own))

      same-send : {g : Granted Desk} → send_letter l v2.desk ≡ g → send_letter (the_fetch v.desk t claim a) (with_slot t.handle two.placed.0 v.desk) ≡ g
      same-send e = ap (λ x. send_letter (the_fetch v.desk t claim a) x) (sym two.desk) ∙ ap (λ x. send_letter x v2.desk) (sym same) ∙ e

      pub fetch-must : (v3 : Shown) (r : Result ℕ Refusal) → Sends l v2 v3 r → IsOk r
      fetch-must v3 (Ok x) c = refl
      fetch-must v3 (Err e) c = absurd (no-refusal (after_fetch v.desk t claim k (one.slot, a)) fetch-ok (same-send c.0))

      pub fetch-got : {v3 : Shown} {ref : ℕ} (r : Result ℕ Refusal) → Sends l v2 v3 r → r ≡ Ok ref → HasFetch v2 v3 l ref
      fetch-got {ref} (Ok x) c e = let q : x ≡ ref = cc in record { sent = c.1.0; ref_is = sym q ∙ c.0; granted = c.1.1.0; alike = c.1.1.1 }
      fetch-got (Err x) c e = absurd cc

      module _ {v3 : Shown} {ref : ℕ} (three : HasFetch v2 v3 l ref) where
        -- the task once the letter is sent
        record Sent : Type 0 where
          pub task : Task
          pub at : IsAt i task v3.desk
          pub handle : task.handle ≡ t.handle
          pub taking : task.taking ≡ t.taking

        sent-task : Sent
        unfolding send_letter with_task
        sent-task =
            let made = map-granted (sent_desk l v2.desk) _ three.granted in
            let last : Task → Task = λ x. record x { last_sent = Some (l, made.from.1) } in
            let both : Task → Task = λ x. record x { slot = two.placed.0; last_sent = Some (l, made.from.1) } in
            let tasks : three.sent.tasks ≡ edit_task t.handle both v.desk.tasks =
            ap (λ (x : Desk). x.tasks) made.is ∙ ap (λ h. edit_task h last v2.desk.tasks) from-own
            ∙ ap (λ (x : Desk). edit_task t.handle last x.tasks) two.desk
            ∙ twice t.handle last (λ x. record x { slot = two.placed.0 }) (λ x. refl) v.desk.tasks in
            record {
              task = both t;
              at = reordered-at three.sent v3.desk i (both t) three.alike (ap (λ (l : List Task). slice_get l i) tasks
                  ∙ edited-at t.handle both 0 v.desk.next_handle v.desk.tasks i t can.is.handles can.here refl);
              handle = refl;
              taking = refl;
            }

        pub sent-place : i < length v3.desk.tasks
        sent-place = slice_get_within v3.desk.tasks i sent-task.task sent-task.at

        pub sent-due : (act : TakeAction) → is_take_due act t.taking ≡ true → CanTake i act v3.desk
        sent-due act due x at-x =
            ap (λ (y : Task). is_take_due act y.taking) (one-at v3.desk i x sent-task.task at-x sent-task.at) ∙ ap (is_take_due act) sent-task.taking ∙ due

        next-same : ref ≡ next_ref v.desk
        unfolding with_task
        next-same = three.ref_is ∙ ap next_ref two.desk

        pub accept-done : (v4 : Shown) → ((x : Task) → IsAt i x v3.desk → v4.desk ≡ with_taking x.handle (receiver.taking_claimed claim k a ref) v3.desk)
            → (x : Desk) × ((accept v.desk t claim ≡ Ok (x, outcome.Fetch ref)) × IsReordered x v4.desk)
        accept-done v4 recorded =
            let begun : ℕ → Desk → Desk = λ r. with_taking t.handle (receiver.taking_claimed claim k a r) in
            let desk : v4.desk ≡ begun ref v3.desk =
            recorded sent-task.task sent-task.at ∙ ap (λ h. with_taking h (receiver.taking_claimed claim k a ref) v3.desk) sent-task.handle in
            let granted : accept v.desk t claim ≡ Ok (begun (next_ref v.desk) three.sent, outcome.Fetch (next_ref v.desk)) =
            accept-is v.desk t claim k can.free
            ∙ begins (after_buffer v.desk t claim k) one.granted (begins (after_document v.desk t claim k (one.slot, a)) two.granted
            (begins (after_fetch v.desk t claim k (one.slot, a)) (same-send three.granted) refl)) in (
              begun ref three.sent,
              (
                granted ∙ ap (λ r. let g : Granted Handled = Ok (begun r three.sent, outcome.Fetch r) in g) (sym next-same),
                subst (IsReordered (begun ref three.sent)) (sym desk) (edit-alike t.handle _ three.alike),
              ),
            )
