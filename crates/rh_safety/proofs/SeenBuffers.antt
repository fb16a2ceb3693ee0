-- Queued fetches name buffers that are held.
use Rattle.rh_safety.proofs.Common.{◌≡◌, ℕ, ◌≤◌, Bool, true, false, List, [], length, Option, None, sym, ap, ◌∙◌, subst, inl, inr, Incoming, Outgoing}
use Rattle.rh_safety.proofs.Common.{action_of, answers_none, Desk, view, seen_parcel, address_in, amount_in, buffers_of, Has, has_of, Offered, field_is, queued}
use Rattle.rh_safety.proofs.Common.{refl}
use Rattle.rh_defs.specs.declared.transfer.Incoming.TheVariants as incoming
use Rattle.rh_defs.specs.declared.transfer.Outgoing.TheVariants as outgoing
use Rattle.rh_defs.specs.Sender as sender
use Rattle.rh_defs.specs.RawTasks.{is_raw}
use Rattle.rh_safety.specs.Buffers.{HasBuffers}
use Rattle.rh_safety.specs.RawIds.{Gave}
use Rattle.rh_safety.proofs.Keeps.{Stands}
use Rattle.rh_safety.proofs.Masks.{mask_same, masked, masked_message}
use Rattle.rh_safety.proofs.Basics.{contains_of}
use Rattle.rh_safety.proofs.Runs.{holds_buffer}
use Rattle.rh_safety.proofs.SeenFiles.{has_map}
use Rattle.rh_safety.proofs.SeenDocuments.{buffer_is}

pub has_buffers : {o : Offered} {e : ℕ → ℕ → Bool} {R : Gave} (d : Desk) → Stands o e R (view d) → HasBuffers d
has_buffers {R = R} d g m t u x address n a plays =
    let here = has_map (masked_message R) (seen_parcel m) (view d).queue (has_map seen_parcel m d.post.queued (has_of d.post.queued m a.queued)) in
    let live = field_is (λ y. true) false m.message.from d.tasks u a.sender_is in
    let mine : R m.message.my_ref ≡ false =
    g.raws.letters _ (queued (masked_message R (seen_parcel m)) here refl) ∙ sym (g.raws.manners m.message.from live) ∙
    field_is (λ y. is_raw y.manner) false m.message.from d.tasks u a.sender_is ∙ plays in
    let l = (seen_parcel m).letter in
    let at_ : l.address ≡ address = ap address_in a.fetch in
    let size : l.amount ≡ n = ap amount_in a.fetch in
    let h = holds_buffer g.good (seen_parcel m) x
    (subst (λ y. Has y (masked R (view d)).queue) (mask_same R (seen_parcel m) mine) here)
    a.recorded (ap action_of a.fetch)
    (subst (λ (xs : List Outgoing). Has (outgoing.Open x) xs) (sym (field_is (λ y. y.sending) [] m.to d.tasks t
    a.recipient_is)) (has_of t.sending (outgoing.Open x) a.open_))
    (subst (λ k. sender.would_answer m.message.from m.message.your_ref k x ≡ true) (sym size) a.answered)
    live
    (field_is (λ y. answers_none y.manner) false m.to d.tasks t a.recipient_is ∙ a.answers) in
    let takes : (view d).taking m.message.from ≡ u.taking = field_is (λ y. y.taking) [] m.message.from d.tasks u
    a.sender_is in
    record {
      taking = h.taking;
      is_held = elim h.is_active [
        | inl q ↦ inl (contains_of u.taking (incoming.Fetching h.taking) (subst (λ (ws : List Incoming).
            Has (incoming.Fetching h.taking) ws) takes q))
        | inr q ↦ inr (contains_of u.taking (incoming.Draining h.taking) (subst (λ (ws : List Incoming).
            Has (incoming.Draining h.taking) ws) takes q))
      ];
      same_id = h.same_id;
      names = h.names ∙ at_;
      bytes = h.bytes;
      there = buffer_is address u.slot ∙ ap (buffers_of u.slot) (sym at_) ∙ ap (λ (f : ℕ → Option (List ℕ)).
          f l.address) (sym (field_is (λ y. buffers_of y.slot) (λ a. None) m.message.from d.tasks u a.sender_is)) ∙
          h.there;
      room = subst (λ k. k ≤ length h.bytes) size h.fits;
    }
