-- What is known of a desk beside the bytes that were moved to buffers, and of the task that a command names.
use Rattle.rh_laws.proofs.Common.{◌≡◌, ◌≢◌, ℕ, true, false, List, [], Option, Some, None, refl, sym, ap, ◌∙◌, subst, ◌⊎◌, inl, inr, find, Ok}
use Rattle.rh_laws.proofs.Common.{option_map, eqb_tells, Reply, Incoming, Taking, Sending, Outgoing, OnGrant, granted, IsDesk, Slot, Desk, Task}
use Rattle.rh_laws.proofs.Common.{has_name, named, task_at, with_slot, Answer, at_place, Edits, Has, Active, Offers, contains_of, none_some}
use Rattle.rh_laws.proofs.Common.{put_other, found_name, fits, Fits, the_task, Same, field_is, buffers_of, view}
use Rattle.rh_defs.specs.declared.transfer.Incoming.TheVariants as incoming
use Rattle.rh_defs.specs.declared.transfer.Outgoing.TheVariants as outgoing
use Rattle.rh_defs.specs.RawTasks.{is_raw}
use Rattle.rh_safety.specs.RawIds.{Gave}
use Rattle.rh_safety.specs.TaskRecords.{HoldsOne, IsRecorded}
use Rattle.rh_safety.proofs.Keeps.{Stands as Known}
use Rattle.rh_safety.proofs.RecordLaws.{are_recorded, has_no_records}
use Rattle.rh_laws.specs.Contents.{Contents, filled_with}
use Rattle.rh_laws.specs.Frame.{handle_of}
use Rattle.rh_laws.proofs.AccountPolls.{Stands, stands-slot}
use Rattle.rh_laws.proofs.ContentPolls.{Kept}
use Rattle.rh_laws.proofs.ContentRecords.{Filled, none-filled, same-filled}

-- ---- what holds of a desk

-- each buffer has the bytes that were moved there
pub record Holds (g : Contents) (d : Desk) : Type 0 where
  pub offers : Offers
  pub edits : Edits
  pub gave : Gave
  pub known : Known offers edits gave (view d)
  pub is : IsDesk d
  pub each : (h : ℕ) (t : Task) → task_at h d ≡ Some t → Filled (g h) (buffers_of t.slot) t.taking

-- the buffers of a handle's task after an answer
pub record Own (g : Contents) (k : Option ℕ) (a : Answer) : Type 0 where
  pub own : (h : ℕ) (t : Task) → k ≡ Some h → task_at h a.0 ≡ Some t → Filled (g h) (buffers_of t.slot) t.taking

-- the buffers of each task after it
abbrev pub Each : Contents → Answer → Type 0
Each r a = (h : ℕ) (t : Task) → task_at h a.0 ≡ Some t → Filled (r h) (buffers_of t.slot) t.taking

-- other handles' rows are as they were
pub filled-other : (g : Contents) (k id : ℕ) (bytes : List ℕ) (h : ℕ) → h ≢ k → filled_with g k id bytes h ≡ g h
filled-other g k id bytes h ne = put_other g k (at_place (g k) id bytes) h ne

-- whose a handle is
pub whose : (k : Option ℕ) (h : ℕ) → (k ≡ Some h) ⊎ (k ≢ Some h)
whose None h = inr (λ q. none_some None refl q)
whose (Some k) h = elim (eqb_tells k h) [ inl a ↦ inl (ap Some a.1) | inr a ↦ inr (λ q. a.1 (let z : k ≡ h = cc in z)) ]

module _ {g : Contents} {d : Desk} (w : Holds g d) where
  pub fit : Fits d
  fit = fits d w.is

  -- ---- records of a task

  module _ (t : Task) (there : task_at t.handle d ≡ Some t) where
    pub recorded : IsRecorded d t
    recorded = are_recorded w.gave d w.known.good t.handle t there

    pub seen : (v : Incoming) → Has v t.taking → Has v ((view d).taking t.handle)
    seen v has = subst (λ (ws : List Incoming). Has v ws) (sym (field_is (λ y. y.taking) [] t.handle d.tasks t there)) has

    pub holds-one : (k : Taking) → Active t.taking k → HoldsOne t k
    holds-one k (inl has) = inl (contains_of t.taking (incoming.Fetching k) has)
    holds-one k (inr has) = inr (contains_of t.taking (incoming.Draining k) has)

    -- a buffer is of one record
    pub apart : (j k : Taking) → Has (incoming.Fetching j) t.taking → Active t.taking k → j.buffer ≡ k.buffer → j.id ≡ k.id
    apart j k has active same = recorded.owners j k (holds-one j (inl has)) (holds-one k active) same

    -- an open record's transfer has no buffer that fetches from a task with code of its own
    pub not-theirs : (s : ℕ) (x : Sending) → Has (outgoing.Open x) ((view d).sending s) → (k : Taking) → Active t.taking k → k.id ≡ x.id →
        (j : Taking) → Has (incoming.Fetching j) t.taking → j.raw ≡ true → j.buffer ≢ k.buffer
    not-theirs s x out k active same j has its buffer =
        let theirs : w.gave j.id ≡ true = sym (w.known.raws.flags t.handle j (seen (incoming.Fetching j) has)) ∙ its in
        let mine : w.gave x.id ≡ false = w.known.raws.outs s (outgoing.Open x) out in
        let z : true ≡ false = sym theirs ∙ ap w.gave (apart j k has active buffer ∙ same) ∙ mine in
        absurd (cc)

    -- a task with code of its own has none
    pub none-of : is_raw t.manner ≡ true → (r : ℕ → List ℕ) (m : ℕ → Option (List ℕ)) → Filled r m t.taking
    none-of its r m = none-filled (has_no_records d w.known t.handle t there its).1

  pub sending-has : (t : Task) → task_at t.handle d ≡ Some t → (v : Outgoing) → Has v t.sending → Has v ((view d).sending t.handle)
  sending-has t there v has = subst (λ (vs : List Outgoing). Has v vs) (sym (field_is (λ y. y.sending) [] t.handle d.tasks t there)) has

  -- ---- the task that was named

  module _ (name : List ℕ) (t : Task) (q : named name d ≡ Ok t) where
    pub there : task_at t.handle d ≡ Some t
    there = the_task d name t fit q

    pub found : find (has_name name) d.tasks ≡ Some t
    found = found_name d name t q

    pub stand : Stands t.handle d t.slot t.taking
    stand = record { task = t; there = there; slot = refl; taking = refl }

    pub counted : Filled (g t.handle) (buffers_of t.slot) t.taking
    counted = w.each t.handle t there

    pub kept-own : (r : Contents) (a : Answer) (ws : List Incoming) → Kept (r t.handle) t.handle a.0 ws → Own r (handle_of name d) a
    kept-own r a ws k = record {
      own = λ h u named_h at_.
          let one : Some t.handle ≡ Some h = sym (ap (option_map (λ (y : Task). y.handle)) found) ∙ named_h in
          let same : t.handle ≡ h = cc in
          let other : Some k.stands.task ≡ Some u = sym k.stands.there ∙ ap (λ j. task_at j a.0) same ∙ at_ in
          let that : k.stands.task ≡ u = cc in
          let slot : k.slot ≡ u.slot = sym k.stands.slot ∙ ap (λ (y : Task). y.slot) that in
          let taking : ws ≡ u.taking = sym k.stands.taking ∙ ap (λ (y : Task). y.taking) that in
          subst (λ j. Filled (r j) (buffers_of u.slot) u.taking) same
          (subst (λ (s : Slot). Filled (r t.handle) (buffers_of s) u.taking) slot
          (subst (λ vs. Filled (r t.handle) (buffers_of k.slot) vs) taking k.all));
    }

    -- another slot with these buffers
    pub slot-own : (s : Slot) (r : Reply) → Filled (g t.handle) (buffers_of s) t.taking → OnGrant (Own g (handle_of name d)) (Ok (with_slot t.handle s d, r))
    slot-own s r all = granted (kept-own g (with_slot t.handle s d, r) t.taking (record { slot = s; stands = stands-slot s stand; all = all }))

    pub same-own : (s : Slot) (r : Reply) → Same (buffers_of s) (buffers_of t.slot) → OnGrant (Own g (handle_of name d)) (Ok (with_slot t.handle s d, r))
    same-own s r same = slot-own s r (same-filled counted same)

    -- the same slot and records
    pub left-own : (a : Answer) → Stands t.handle a.0 t.slot t.taking → Own g (handle_of name d) a
    left-own a stands = kept-own g a t.taking (record { slot = t.slot; stands = stands; all = counted })
