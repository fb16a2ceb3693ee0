-- What a poll does to the post, as what is seen of it.
use Rattle.rh_safety.proofs.Common.{◌≡◌, ℕ, Bool, true, false, List, [], ◌∷◌, ◌++◌, Option, Some, None, refl, sym, ap, ◌∙◌, subst, inl, inr, if◌then◌else◌}
use Rattle.rh_safety.proofs.Common.{map, option_map, eqb_tells, EventCode, User, Recorded, Acknowledge, Parcel, is_recorded, Seat, Post, has_seat, held_by}
use Rattle.rh_safety.proofs.Common.{with_held, without_block, bounce_held, taken_from, post_poll, Desk, with_post, with_delivered, view, seen_parcel}
use Rattle.rh_safety.proofs.Common.{seen_scrap, Message, put, none_some, Fits}
use Rattle.rh_defs.specs.Post.{behind_first, first_for, taken}
use Rattle.rh_safety.proofs.Ends as post
use Rattle.rh_safety.proofs.Sight as sight
use Rattle.rh_safety.proofs.SeenSends.{held_put, held_got, seats_held, held_seen}
use Rattle.rh_safety.proofs.SeenPosts.{bounced_leads, live_bounced, kept_is, with_scrap}

-- ---- the bounce

returned_post : (d : Desk) (h : ℕ) (o : Option Parcel) → Fits d → held_by h d.post.seats ≡ o →
    view (with_post (bounce_held h o d.post) d) ≡ sight.returned (view d) h (option_map seen_parcel o)
returned_post d h None f e = refl
returned_post d h (Some m) f e =
    let q : Post = record d.post { seats = with_held h None d.post.seats } in
    let w = bounced_leads m q in
    λ i. record (view d) {
      queue = (w.queued ∙ ap (λ (g : ℕ → Bool). map seen_parcel d.post.queued ++ sight.back g (seen_parcel m))
          (λ j k. (seats_held h None d.post.seats k ∙ f.seats k) j)) i;
      held = λ k. (ap (λ (z : List Seat). held_seen z k) w.seats ∙ ap (option_map seen_parcel)
          (held_put h d.post.seats k) ∙
          elim (eqb_tells k h) as (λ _. option_map seen_parcel (put (λ j. held_by j d.post.seats) h None k) ≡ put
          (held_seen d.post.seats) h None k) [ inl b ↦ rw b.0 refl | inr b ↦ rw b.0 refl ]) i;
      next_ref = w.next i;
    }

-- ---- the taking

-- the first message for a handle, and those left
record IsFirst (h : ℕ) (q : List Parcel) (t : Parcel × List Parcel) : Type 0 where
  pub first : post.first_for h (map seen_parcel q) ≡ Some (seen_parcel t.0)
  pub rest : map seen_parcel t.1 ≡ post.without_first h (map seen_parcel q)

behind_is : (m : Parcel) (o : Option (Parcel × List Parcel)) (t : Parcel × List Parcel) → behind_first m o ≡ Some t →
    (s : Parcel × List Parcel) × (o ≡ Some s) × ((s.0, m ∷ s.1) ≡ t)
behind_is m None t q = absurd (none_some None refl q)
behind_is m (Some s) t q = (
  s,
  refl,
  let z : Some (s.0, m ∷ s.1) ≡ Some t = q in
      (let y : ◌≡◌ {A = Parcel × List Parcel} (s.0, m ∷ s.1) t = cc in y),
)

first_found : (h : ℕ) (q : List Parcel) (t : Parcel × List Parcel) → first_for h q ≡ Some t → IsFirst h q t
first_found h [] t e = absurd (none_some None refl e)
first_found h (m ∷ q) t e = elim (eqb_tells m.to h) [
  | inl w ↦
      let z : Some (m, q) ≡ Some t = rw w.0 at e in
      let same : ◌≡◌ {A = Parcel × List Parcel} (m, q) t = cc in
      subst (IsFirst h (m ∷ q)) same (record { first = rw w.0 refl; rest = rw w.0 refl })
  | inr w ↦
      let b = behind_is m (first_for h q) t (rw w.0 at e) in
      let r = first_found h q b.0 b.1 in
      subst (IsFirst h (m ∷ q)) b.2 (record {
        first = rw w.0 r.first;
        rest = rw w.0 (ap (λ (z : List Message).
            seen_parcel m ∷ z) r.rest);
      })
]

none_behind : (m : Parcel) (o : Option (Parcel × List Parcel)) → behind_first m o ≡ None → o ≡ None
none_behind m None q = refl
none_behind m (Some s) q = absurd (none_some None refl (sym q))

none_first : (h : ℕ) (q : List Parcel) → first_for h q ≡ None → post.first_for h (map seen_parcel q) ≡ None
none_first h [] e = refl
none_first h (m ∷ q) e = elim (eqb_tells m.to h) [
  | inl w ↦ absurd (none_some None refl (sym (rw w.0 at e)))
  | inr w ↦ rw w.0 (none_first h q (none_behind m (first_for h q) (rw w.0 at e)))
]

-- what is picked, if anything is
abbrev pub picked_by : ℕ → Option Message → sight.Desk → sight.Desk
picked_by h None d = d
picked_by h (Some m) d = sight.picked d h m m.code

picked_code : (d : Desk) (h : ℕ) (t : Parcel × List Parcel) (c : EventCode) → first_for h d.post.queued ≡ Some t →
    has_seat h d.post.seats ≡ true →
    view (with_post (if is_recorded c then record d.post { seats = with_held h (Some t.0) d.post.seats; queued = t.1 }
    else without_block t.0 (record d.post { queued = t.1 })) d) ≡ sight.picked (view d) h (seen_parcel t.0) c
picked_code d h t User e live = ap (λ (z : List Message). record (view d) { queue = z }) (first_found h d.post.queued
    t e).rest
picked_code d h t Acknowledge e live = ap (λ (z : List Message). record (view d) { queue = z }) (first_found h
    d.post.queued t e).rest
picked_code d h t Recorded e live = λ i. record (view d) {
  queue = (first_found h d.post.queued t e).rest i;
  held = λ k. (ap (option_map seen_parcel) (held_got h (Some t.0) d.post.seats live k) ∙
      elim (eqb_tells k h) as (λ _. option_map seen_parcel (put (λ j. held_by j d.post.seats) h (Some t.0) k) ≡ put
      (held_seen d.post.seats) h (Some (seen_parcel t.0)) k) [ inl b ↦ rw b.0 refl | inr b ↦ rw b.0 refl ]) i;
}

-- ---- a poll's post

-- the desk that was polled, and what was taken
pub record IsTaken (d : Desk) (h : ℕ) (p : Post × Option Parcel) : Type 0 where
  pub lost : Bool
  pub first : post.first_for h (sight.lost_if lost (sight.returned (view d) h ((view d).held h))).queue ≡
      option_map seen_parcel p.1
  pub seen : view (with_delivered p.0 d) ≡ picked_by h (option_map seen_parcel p.1) (sight.lost_if lost
      (sight.returned (view d) h ((view d).held h)))
  pub seats : (k : ℕ) → has_seat k p.0.seats ≡ has_seat k d.post.seats

pub lost_queue : (b : Bool) (d : sight.Desk) → (sight.lost_if b d).queue ≡ d.queue
lost_queue true d = refl
lost_queue false d = refl

-- the scrap file may go before the taking or after it
lost_before : (h : ℕ) (v : Option Message) (d : sight.Desk) →
    with_scrap None (picked_by h v d) ≡ picked_by h v (sight.lost d)
lost_before h None d = refl
lost_before h (Some m) d = go m.code
  where
    go : (c : EventCode) → with_scrap None (sight.picked d h m c) ≡ sight.picked (sight.lost d) h m c
    go User = refl
    go _ = refl

module _ (d : Desk) (h : ℕ) (f : Fits d) (live : (view d).live h ≡ true) where
  abbrev before : Post
  before = bounce_held h (held_by h d.post.seats) d.post

  seen_before : view (with_post before d) ≡ sight.returned (view d) h ((view d).held h)
  seen_before = returned_post d h (held_by h d.post.seats) f refl

  live_before : has_seat h before.seats ≡ true
  live_before = live_bounced h (held_by h d.post.seats) d.post h ∙ f.seats h ∙ live

  -- the post that is left, whatever becomes of the scrap file
  record IsPicked (p : Post × Option Parcel) : Type 0 where
    pub first : post.first_for h (map seen_parcel before.queued) ≡ option_map seen_parcel p.1
    pub seen : view (with_post p.0 d) ≡ picked_by h (option_map seen_parcel p.1) (view (with_post before d))
    pub seats : (k : ℕ) → has_seat k p.0.seats ≡ has_seat k d.post.seats

  seats_after : (t : Parcel × List Parcel) (c : EventCode) (k : ℕ) →
      has_seat k (if is_recorded c then record before { seats = with_held h (Some t.0) before.seats; queued = t.1 }
      else without_block t.0 (record before { queued = t.1 })).seats ≡ has_seat k before.seats
  seats_after t User k = refl
  seats_after t Recorded k = seats_held h (Some t.0) before.seats k
  seats_after t Acknowledge k = refl

  picked_some : (v : Option (Parcel × List Parcel)) → first_for h before.queued ≡ v → IsPicked (taken_from h v before)
  picked_some None e = record {
    first = none_first h before.queued e;
    seen = refl;
    seats = λ k. live_bounced h
        (held_by h d.post.seats) d.post k;
  }
  picked_some (Some t) e = record {
    first = (first_found h before.queued t e).first;
    seen = picked_code (with_post before d) h t t.0.code e live_before;
    seats = λ k. seats_after t t.0.code k ∙ live_bounced h (held_by h d.post.seats) d.post k;
  }

  pub poll_taken_is : IsTaken d h (post_poll h d.post)
  unfolding post_poll with_delivered
  poll_taken_is =
      let p = taken h before in
      let w : IsPicked p = picked_some (first_for h before.queued) refl in
      let r = sight.returned (view d) h ((view d).held h) in
      let first : post.first_for h r.queue ≡ option_map seen_parcel p.1 = ap (λ (y : sight.Desk). post.first_for h
      y.queue) (sym seen_before) ∙ w.first in
      let seen : view (with_post p.0 d) ≡ picked_by h (option_map seen_parcel p.1) r = w.seen ∙
      ap (picked_by h (option_map seen_parcel p.1)) seen_before in
      elim (kept_is p.0 d.scrap) as (λ _. IsTaken d h p) [
        | inl kept ↦ record {
          lost = false;
          first = first;
          seen = ap (λ v. with_scrap (option_map seen_scrap v) (view (with_post p.0 d))) kept ∙ seen;
          seats = w.seats;
        }
        | inr gone ↦ record {
          lost = true;
          first = first;
          seen = ap (λ v. with_scrap (option_map seen_scrap v) (view (with_post p.0 d))) gone ∙ ap (with_scrap None)
              seen ∙ lost_before h (option_map seen_parcel p.1) r;
          seats = w.seats;
        }
      ]
