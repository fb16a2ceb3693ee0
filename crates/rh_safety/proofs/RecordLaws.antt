-- Records of live tasks stand in order, and what they name is there.
use Rattle.rh_safety.proofs.Common.{◌≡◌, ℕ, ◌+◌, ◌≤◌, ◌<◌, Bool, true, List, [], ◌∷◌, length, take, Option, Some, None, refl, sym, ap, ◌∙◌, subst, inl, inr}
use Rattle.rh_safety.proofs.Common.{arith, list_any, Sending, Taking, Asked, Outgoing, Incoming, in_id, out_id, Desk, Task, task_at, Active, Has, Ascend}
use Rattle.rh_safety.proofs.Common.{has_of, is_equal, length_take, Good, Offered, field_is, view, blocks_of, buffers_of}
use Rattle.rh_defs.specs.declared.transfer.Outgoing.TheVariants as outgoing
use Rattle.rh_defs.specs.declared.transfer.Incoming.TheVariants as incoming
use Rattle.rh_defs.specs.Records.{is_buffer_of, is_document, is_source}
use Rattle.rh_defs.specs.Desk.{is_busy_block, is_busy_buffer}
use Rattle.rh_defs.specs.Laws.{Rise}
use Rattle.rh_safety.specs.Offered.{bytes_of_block}
use Rattle.rh_safety.specs.Buffers.{bytes_of_buffer}
use Rattle.rh_safety.specs.TaskRecords.{HasNoRecords, HoldsOne, HasFlexBlock, HasBuffer, Measures, IsRecorded, AreRecorded}
use Rattle.rh_safety.proofs.SeenDocuments.{buffer_is}
use Rattle.rh_safety.specs.RawIds.{Gave}
use Rattle.rh_defs.specs.RawTasks.{is_raw}
use Rattle.rh_safety.proofs.Common.{false, live_of}
use Rattle.rh_safety.proofs.Keeps.{Stands}
use Rattle.rh_safety.proofs.Masks.{masked}
use Rattle.rh_safety.proofs.SeenLaws.{block_is}
use Rattle.rh_safety.proofs.SeenFiles.{one_of, passes}

-- ---- ids

-- ids that go up and were given
rises : {A : Type 0} (number : A → ℕ) (least next : ℕ) (xs : List A) → least ≤ next → ((x : A) → Has x xs → least ≤ number x)
    → ((x : A) → Has x xs → number x < next) → Ascend number xs → Rise number least next xs
rises number least next [] room low high up = room
rises number least next (x ∷ xs) room low high up = (
  low x (inl refl),
  rises number (number x + 1) next xs (let z = high x (inl refl) in omega arith) (λ y has. let z = up.0 y has in omega arith)
      (λ y has. high y (inr has)) up.1,
)

-- ---- a test that some record passes

-- the record that passes
module _ {o : Offered} {e : ℕ → ℕ → Bool} (R : Gave) (d : Desk) (g : Good o e (masked R (view d))) (h : ℕ) (t : Task) (at : task_at h d ≡ Some t) where
  -- what is seen of the task
  sends : (view d).sending h ≡ t.sending
  sends = field_is (λ y. y.sending) [] h d.tasks t at

  takes : (view d).taking h ≡ t.taking
  takes = field_is (λ y. y.taking) [] h d.tasks t at

  out : (v : Outgoing) → Has v t.sending → Has v ((view d).sending h)
  out v has = subst (λ (y : List Outgoing). Has v y) (sym sends) has

  into : (w : Incoming) → Has w t.taking → Has w ((view d).taking h)
  into w has = subst (λ (y : List Incoming). Has w y) (sym takes) has

  block : (k : ℕ) (bytes : List ℕ) → (view d).block h k ≡ Some bytes → bytes_of_block t.slot k ≡ Some bytes
  block k bytes q =
      sym (block_is t.slot k)
      ∙ ap (λ (f : ℕ → Option (List ℕ)). f k) (sym (field_is (λ y. blocks_of y.slot) (λ a. None) h d.tasks t at)) ∙ q

  buffer : (address : ℕ) (bytes : List ℕ) → (view d).heap h address ≡ Some bytes → bytes_of_buffer t.slot address ≡ Some bytes
  buffer address bytes q =
      buffer_is address t.slot
      ∙ ap (λ (f : ℕ → Option (List ℕ)). f address) (sym (field_is (λ y. buffers_of y.slot) (λ a. None) h d.tasks t at)) ∙ q

  -- ---- one record

  source : (x : Sending) → Has (outgoing.Open x) t.sending → HasFlexBlock t x.anchor x.count
  source x has =
      let s = g.inv.outs.source h x (out (outgoing.Open x) has) in
      record { bytes = s.all; there = block x.anchor s.all s.there; size = s.fits }

  fetched : (f : Taking) → Has (incoming.Fetching f) t.taking → Measures t f.anchor f.count
  fetched f has =
      let s = g.inv.ins.good h (incoming.Fetching f) (into (incoming.Fetching f) has) tt in
      record { bytes = take f.count s.all; there = block f.anchor (take f.count s.all) s.there; size = length_take f.count s.all s.fits }

  asked : (q : Asked) → Has (incoming.Asking q) t.taking → Measures t q.anchor 0
  asked q has =
      let s = g.inv.ins.good h (incoming.Asking q) (into (incoming.Asking q) has) tt in
      record { bytes = take 0 s.all; there = block q.anchor (take 0 s.all) s.there; size = refl }

  active : (f : Taking) → HoldsOne t f → Active ((view d).taking h) f
  active f (inl has) = inl (into (incoming.Fetching f) (has_of t.taking (incoming.Fetching f) has))
  active f (inr has) = inr (into (incoming.Draining f) (has_of t.taking (incoming.Draining f) has))

  room : (f : Taking) → Active ((view d).taking h) f → HasBuffer t f.buffer t.buffer
  room f is =
      let s = g.inv.ins.buffer h f is in
      record {
        bytes = s.bytes;
        there = buffer f.buffer s.bytes s.there;
        size = subst (λ n. n ≤ length s.bytes) (field_is (λ y. y.buffer) 1 h d.tasks t at) s.size;
      }

  -- ---- busy blocks

  measured : (k n : ℕ) → Measures t k n → HasFlexBlock t k 0
  measured k n m = record { bytes = m.bytes; there = m.there; size = omega arith }

  of_source : (k : ℕ) (v : Outgoing) → Has v t.sending → is_source k v ≡ true → HasFlexBlock t k 0
  of_source k (outgoing.Open x) has is =
      let s = source x has in
      subst (λ a. HasFlexBlock t a 0) (is_equal x.anchor k is) (record { bytes = s.bytes; there = s.there; size = omega arith })
  of_source k (outgoing.Done i n) has is = absurd cc
  of_source k (outgoing.Failed i n) has is = absurd cc

  of_document : (k : ℕ) (w : Incoming) → Has w t.taking → is_document k w ≡ true → HasFlexBlock t k 0
  of_document k (incoming.Fetching f) has is = subst (λ a. HasFlexBlock t a 0) (is_equal f.anchor k is) (measured f.anchor f.count (fetched f has))
  of_document k (incoming.Asking q) has is = subst (λ a. HasFlexBlock t a 0) (is_equal q.anchor k is) (measured q.anchor 0 (asked q has))
  of_document k _ has is = absurd cc

  busy_block : (k : ℕ) → is_busy_block k t ≡ true → HasFlexBlock t k 0
  busy_block k is = elim (one_of (list_any (is_source k) t.sending) (list_any (is_document k) t.taking) is) [
    | inl s ↦ let r = passes (is_source k) t.sending s in of_source k r.0 r.1.0 r.1.1
    | inr s ↦ let r = passes (is_document k) t.taking s in of_document k r.0 r.1.0 r.1.1
  ]

  held_buffer : (address : ℕ) (f : Taking) → Active ((view d).taking h) f → f.buffer ≡ address → HasBuffer t address 0
  held_buffer address f is same =
      let s = room f is in
      subst (λ a. HasBuffer t a 0) same (record { bytes = s.bytes; there = s.there; size = omega arith })

  of_buffer : (address : ℕ) (w : Incoming) → Has w t.taking → is_buffer_of address w ≡ true → HasBuffer t address 0
  of_buffer address (incoming.Fetching f) has is = held_buffer address f (inl (into (incoming.Fetching f) has)) (is_equal f.buffer address is)
  of_buffer address (incoming.Draining f) has is = held_buffer address f (inr (into (incoming.Draining f) has)) (is_equal f.buffer address is)
  of_buffer address _ has is = absurd cc

  busy_buffer : (address : ℕ) → is_busy_buffer address t ≡ true → HasBuffer t address 0
  busy_buffer address is = let r = passes (is_buffer_of address) t.taking is in of_buffer address r.0 r.1.0 r.1.1

  pub recorded : IsRecorded d t
  recorded = record {
    few_out = subst (λ (vs : List Outgoing). length vs ≤ 8) sends (g.inv.few.outs h);
    few_in = subst (λ (ws : List Incoming). length ws ≤ 8) takes (g.inv.few.ins h);
    ids_out = rises out_id 0 d.post.next_ref t.sending (omega arith) (λ x has. omega arith) (λ x has. g.inv.order.out_below h x (out x has))
        (subst (λ (vs : List Outgoing). Ascend out_id vs) sends (g.inv.order.outs h));
    ids_in = rises in_id 0 d.post.next_ref t.taking (omega arith) (λ x has. omega arith) (λ x has. g.inv.order.in_below h x (into x has))
        (subst (λ (ws : List Incoming). Ascend in_id ws) takes (g.inv.order.ins h));
    busy_blocks = busy_block;
    busy_buffers = busy_buffer;
    sources = λ x has. source x (has_of t.sending (outgoing.Open x) has);
    asking = λ q has. asked q (has_of t.taking (incoming.Asking q) has);
    fetching = λ f has. fetched f (has_of t.taking (incoming.Fetching f) has);
    rooms = λ f holds. room f (active f holds);
    owners = λ f k holds_f holds_k same. g.inv.ins.buffers h f k (active f holds_f) (active k holds_k) same;
  }

pub are_recorded : {o : Offered} {e : ℕ → ℕ → Bool} (R : Gave) (d : Desk) → Good o e (masked R (view d)) → AreRecorded d
are_recorded R d g h t at = recorded R d g h t at

-- ---- tasks with code of their own

pub has_no_records : {o : Offered} {e : ℕ → ℕ → Bool} {R : Gave} (d : Desk) → Stands o e R (view d) → HasNoRecords d
has_no_records d g h t at its =
    let live = live_of d h t at in
    let theirs : g.coded h ≡ true = sym (g.raws.manners h live) ∙ field_is (λ y. is_raw y.manner) false h d.tasks t at ∙ its in (
      sym (field_is (λ y. y.sending) [] h d.tasks t at) ∙ g.raws.none_out h theirs,
      sym (field_is (λ y. y.taking) [] h d.tasks t at) ∙ g.raws.none_in h theirs,
    )
