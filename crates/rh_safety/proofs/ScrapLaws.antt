-- The scrap file's DataLoad is live, and was sent last by one transfer at most.
use Rattle.rh_safety.proofs.Common.{◌≡◌, ℕ, Bool, false, List, [], refl, sym, ap, ◌∙◌, subst, inl, inr, Some, option_map, Sending, Outgoing, Parcel, Desk}
use Rattle.rh_safety.proofs.Common.{view, seen_parcel, seen_scrap, Letter, Message, Has, has_of, Offered, Knows, queued, kept, IsLive, waits, rests, Good}
use Rattle.rh_safety.proofs.Common.{field_is, Scrap}
use Rattle.rh_defs.specs.declared.transfer.Outgoing.TheVariants as outgoing
use Rattle.rh_defs.specs.Runs.{start_with, after}
use Rattle.rh_safety.specs.Counts.{AlwaysCounts}
use Rattle.rh_safety.specs.RawIds.{Gave, is_raw_id}
use Rattle.rh_safety.specs.ScrapFile.{HasOneOwner, IsLast, IsLiveMessage, OwnsScrapFile, Passes}
use Rattle.rh_safety.proofs.Sight as sight
use Rattle.rh_safety.proofs.SeenFiles.{has_map, seen_live}
use Rattle.rh_safety.proofs.Masks.{mask_of, mask_same, mask_some, masked, masked_message, masked_scrap}
use Rattle.rh_safety.proofs.SeenLaws.{stands_after}

-- a message that is queued or held
record IsKnown (D : sight.Desk) (ref : ℕ) : Type 0 where
  letter : Letter
  known : Knows D letter
  me : letter.me ≡ ref

live_known : (D : sight.Desk) (ref : ℕ) → IsLive D.queue D.held ref → IsKnown D ref
live_known D ref (waits m has same) = record { letter = m.letter; known = queued m has refl; me = same }
live_known D ref (rests h m is same) = record { letter = m.letter; known = kept h m is refl; me = same }

unmask_live : (R : Gave) (D : sight.Desk) (ref : ℕ) → IsLive (masked R D).queue (masked R D).held ref → IsLive D.queue D.held ref
unmask_live R D ref (waits m has same) =
    let w = mask_of R D.queue m has in waits w.0 w.1.0 (ap (λ (y : Message). y.letter.me) w.1.1 ∙ same)
unmask_live R D ref (rests h m is same) =
    let w = mask_some R (D.held h) m is in rests h w.0 w.1.0 (ap (λ (y : Message). y.letter.me) w.1.1 ∙ same)

message_known : (R : Gave) (d : Desk) (p : Parcel) → IsLiveMessage d.post p →
    Knows (masked R (view d)) (masked_message R (seen_parcel p)).letter
message_known R d p (inl has) =
    queued (masked_message R (seen_parcel p)) (has_map (masked_message R) (seen_parcel p) (view d).queue
    (has_map seen_parcel p d.post.queued (has_of d.post.queued p has))) refl
message_known R d p (inr holds) =
    kept holds.0 (masked_message R (seen_parcel p)) (ap (λ v. option_map (masked_message R) (option_map seen_parcel v)) holds.1) refl

module _ {o : Offered} {e : ℕ → ℕ → Bool} (R : Gave) (d : Desk) (g : Good o e (masked R (view d))) (ref : ℕ) where
  seen_last : (h : ℕ) (x : Sending) → IsLast d h x ref → Has (outgoing.Open x) ((view d).sending h)
  seen_last h x w = subst (λ (y : List Outgoing). Has (outgoing.Open x) y)
      (sym (field_is (λ y. y.sending) [] h d.tasks w.task w.live)) (has_of w.task.sending (outgoing.Open x) w.open_)

  -- the task that sent the message
  sent_by : (l : IsKnown (masked R (view d)) ref) (h : ℕ) (x : Sending) → IsLast d h x ref → l.letter.from ≡ h
  sent_by l h x w = (g.inv.outs.letter l.letter l.known h x (seen_last h x w)).owner (l.me ∙ sym w.last)

  one_owner : IsKnown (masked R (view d)) ref → (h k : ℕ) (x y : Sending) → IsLast d h x ref → IsLast d k y ref → (h ≡ k) × (x.id ≡ y.id)
  one_owner l h k x y v w =
      let same : h ≡ k = sym (sent_by l h x v) ∙ sent_by l k y w in
      let here : Has (outgoing.Open y) ((view d).sending h) = subst (λ j. Has (outgoing.Open y) ((view d).sending j))
      (sym same) (seen_last k y w) in
      (same, g.inv.outs.lasts h x y (seen_last h x v) here (v.last ∙ sym w.last))

owns_scrap_file : {o : Offered} {e : ℕ → ℕ → Bool} (R : Gave) (d : Desk) → Good o e (masked R (view d)) → (file : Scrap) →
    d.scrap ≡ Some file → R file.load ≡ false →
    HasOneOwner d file × ((p : Parcel) → IsLiveMessage d.post p → R p.message.my_ref ≡ false → Passes file p)
owns_scrap_file R d g file q mine =
    let seen : masked_scrap R (view d).scrap ≡ Some (seen_scrap file) =
    ap (λ v. masked_scrap R (option_map seen_scrap v)) q ∙ (rw mine refl) in
    let live = (g.inv.files (seen_scrap file) seen).live in
    let one : HasOneOwner d file = record {
      given = g.inv.loads.load_below (seen_scrap file) seen;
      live = seen_live d.post file.load (unmask_live R (view d) file.load live);
      loads = λ p is me. ap (λ (y : Message). y.letter.kind) (sym (mask_same R (seen_parcel p) (ap R me ∙ mine))) ∙
          (g.inv.files (seen_scrap file) seen).kinds (masked_message R (seen_parcel p)).letter (message_known R d p is) me;
      one = one_owner R d g file.load (live_known (masked R (view d)) file.load live);
    } in (
      one,
      λ p is own answers. (g.inv.files (seen_scrap file) seen).unanswered (masked_message R (seen_parcel p)).letter
          (message_known R d p is) (ap (λ (y : Message). y.letter.answers) (mask_same R (seen_parcel p) own) ∙ answers),
    )

pub always_owns_scrap_file : AlwaysCounts OwnsScrapFile
always_owns_scrap_file pool handle ref files cs from ranged file q mine =
    owns_scrap_file (is_raw_id (start_with pool files handle ref) cs) (after (start_with pool files handle ref) cs)
    (stands_after pool handle ref files cs from ranged).good file q mine
