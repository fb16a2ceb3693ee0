-- The live handles of a post after each call on it.
use Rattle.rh_defs.proofs.Common.{◌≡◌, ℕ, Bool, true, false, cond, eqb, List, [], ◌∷◌, ◌++◌, map, refl, ap, ◌∙◌, Option, Some, None, Ok, Err, filter, not}
use Rattle.rh_defs.proofs.Common.{◌==◌, Granted, ◌>>=◌, ◌>>◌, left_of, poked, Heap, module_claim, Parcel, is_recorded, parcel_bytes, parcel_size, Seat, Post}
use Rattle.rh_defs.proofs.Common.{has_seat, with_held, held_by, answers_held, put_down, queued_in, posted, sendable, message_of, post_send, as_returned}
use Rattle.rh_defs.proofs.Common.{bounced, bounce_held, without_block, first_for, taken_from, post_poll, bounce_all, post_death, Letter}
use Rattle.rh_defs.specs.Inner.PostHandles.{post_handles}

abbrev seat_handles : List Seat → List ℕ
seat_handles seats = map (λ (s : Seat). s.handle) seats

pub with_held-handles : (h : ℕ) (o : Option Parcel) (seats : List Seat) → seat_handles (with_held h o seats) ≡ seat_handles seats
with_held-handles h o [] = refl
with_held-handles h o (s ∷ seats) =
    elim (eqb s.handle h) as (λ t. seat_handles (cond t (record s { holds = o } ∷ seats) (s ∷ with_held h o seats)) ≡ seat_handles (s ∷ seats)) [
      | true ↦ refl
      | false ↦ ap (λ l. s.handle ∷ l) (with_held-handles h o seats)
    ]

posted-handles : (l : Letter) (there : Heap × ℕ) (post : Post) → post_handles (posted l there post) ≡ post_handles post
posted-handles l there post = elim (answers_held l.your_ref (held_by l.from post.seats)) as
    (λ t. post_handles (cond t (put_down l.from (queued_in l there post)) (queued_in l there post)) ≡ post_handles post) [
      | true ↦ with_held-handles l.from None post.seats
      | false ↦ refl
    ]

pub post_send-handles : (free : ℕ) (l : Letter) (post : Post) → post_handles (left_of post (post_send free l post)) ≡ post_handles post
unfolding post_send ◌>>◌ ◌>>=◌
post_send-handles free l post = go (sendable l post) (module_claim free (parcel_size (message_of l 0)) post.heap)
  where
    go : (s : Granted (Unit {0})) (g : Granted (Heap × ℕ))
        → post_handles (left_of {B = ℕ} post (s >> (g >>= (λ there. Ok (posted l there post, post.next_ref))))) ≡ post_handles post
    go (Err r) g = refl
    go (Ok u) (Err r) = refl
    go (Ok u) (Ok there) = posted-handles l there post

pub bounced-handles : (p : Parcel) (post : Post) → post_handles (bounced p post) ≡ post_handles post
bounced-handles p post = elim (has_seat p.message.from post.seats) as (λ t. post_handles
    (cond t (record post { queued = post.queued ++ as_returned p ∷ []; heap = poked p.block 0 (parcel_bytes 0 (as_returned p)) post.heap })
    (without_block p post)) ≡ post_handles post) [ true ↦ refl | false ↦ refl ]

held_bounced-handles : (h : ℕ) (o : Option Parcel) (post : Post) → post_handles (bounce_held h o post) ≡ post_handles post
held_bounced-handles h None post = refl
held_bounced-handles h (Some p) post = bounced-handles p (record post { seats = with_held h None post.seats }) ∙ with_held-handles h None post.seats

taken-handles : (h : ℕ) (o : Option (Parcel × List Parcel)) (post : Post) → post_handles (taken_from h o post).0 ≡ post_handles post
taken-handles h None post = refl
taken-handles h (Some t) post = elim (is_recorded t.0.code) as (λ b. post_handles
    (cond b (record post { queued = t.1; seats = with_held h (Some t.0) post.seats }) (without_block t.0 (record post { queued = t.1 }))) ≡ post_handles
    post) [
      | true ↦ with_held-handles h (Some t.0) post.seats
      | false ↦ refl
    ]

pub post_poll-handles : (h : ℕ) (post : Post) → post_handles (post_poll h post).0 ≡ post_handles post
unfolding post_poll
post_poll-handles h post =
    let before : Post = bounce_held h (held_by h post.seats) post in
    taken-handles h (first_for h before.queued) before ∙ held_bounced-handles h (held_by h post.seats) post

all_bounced-handles : (queue : List Parcel) (post : Post) → post_handles (bounce_all queue post) ≡ post_handles post
all_bounced-handles [] post = refl
all_bounced-handles (p ∷ queue) post = all_bounced-handles queue (cond (is_recorded p.code) (bounced p post) (without_block p post)) ∙ one (is_recorded p.code)
  where
    one : (t : Bool) → post_handles (cond t (bounced p post) (without_block p post)) ≡ post_handles post
    one true = bounced-handles p post
    one false = refl

seats_but-handles : (h : ℕ) (seats : List Seat)
    → seat_handles (filter (λ (s : Seat). not (s.handle == h)) seats) ≡ filter (λ x. not (x == h)) (seat_handles seats)
seats_but-handles h [] = refl
seats_but-handles h (s ∷ seats) = elim (not (eqb s.handle h)) as (λ t. seat_handles
    (cond t (s ∷ filter (λ (s : Seat). not (s.handle == h)) seats) (filter (λ (s : Seat). not (s.handle == h)) seats)) ≡ cond t
    (s.handle ∷ filter (λ x. not (x == h)) (seat_handles seats)) (filter (λ x. not (x == h)) (seat_handles seats))) [
      | true ↦ ap (λ l. s.handle ∷ l) (seats_but-handles h seats)
      | false ↦ seats_but-handles h seats
    ]

pub post_death-handles : (h : ℕ) (post : Post) → post_handles (post_death h post) ≡ filter (λ x. not (x == h)) (post_handles post)
unfolding post_death
post_death-handles h post =
    all_bounced-handles (filter (λ (p : Parcel). p.to == h) post.queued)
    (bounce_held h (held_by h post.seats)
    (record post { seats = filter (λ (s : Seat). not (s.handle == h)) post.seats; queued = filter (λ (p : Parcel). not (p.to == h)) post.queued }))
    ∙ held_bounced-handles h (held_by h post.seats)
    (record post { seats = filter (λ (s : Seat). not (s.handle == h)) post.seats; queued = filter (λ (p : Parcel). not (p.to == h)) post.queued })
    ∙ seats_but-handles h post.seats
