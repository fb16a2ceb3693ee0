-- A post whose dying task loses its messages one by one, and then its seat.
use Rattle.rh_wimp.proofs.Common.{◌≡◌, ℕ, ◌≢◌, inl, inr, Bool, true, false, cond, eqb, List, [], ◌∷◌, ◌++◌, refl, sym, ap, ◌∙◌, append-nil, cases_eq}
use Rattle.rh_wimp.proofs.Common.{filter-append, Option, Some, None, filter, not, ◌==◌, poked, Parcel, is_recorded, parcel_bytes, Seat, Post, has_seat}
use Rattle.rh_wimp.proofs.Common.{held_by, with_held, as_returned, bounced, bounce_held, without_block, post_death, cond_true, cond_false, eqb_same}
use Rattle.rh_wimp.proofs.Common.{eqb_apart, ended_from, lifted, queue_to, settled_from, without_seat}
use Rattle.rh_defs.specs.Post.{bounce_all}
use Rattle.rh_wimp.specs.Inner.Deaths.{bounced_from, rest_of_death}
use Rattle.rh_wimp.proofs.PollLaws.{bounced-seats}
use Rattle.rh_wimp.proofs.TakeLaws.{FirstFor, rest_of}

abbrev pub seats_but : ℕ → List Seat → List Seat
seats_but h seats = filter (λ (s : Seat). not (s.handle == h)) seats

abbrev pub queue_but : ℕ → List Parcel → List Parcel
queue_but h queue = filter (λ (p : Parcel). not (p.to == h)) queue

-- ---- seats without one
-- the dead one isn't live
seat-gone : (h : ℕ) (seats : List Seat) → has_seat h (seats_but h seats) ≡ false
seat-gone h [] = refl
seat-gone h (s ∷ seats) = go (eqb s.handle h) refl (seat-gone h seats)
  where
    go : (t : Bool) → eqb s.handle h ≡ t → has_seat h (seats_but h seats) ≡ false
        → has_seat h (cond (not t) (s ∷ seats_but h seats) (seats_but h seats)) ≡ false
    go true e f = f
    go false e f = cond_false (eqb s.handle h) _ _ e ∙ f

-- the others are as before
pub seat-other : (h y : ℕ) (seats : List Seat) → y ≢ h → has_seat y (seats_but h seats) ≡ has_seat y seats
seat-other h y [] ne = refl
seat-other h y (s ∷ seats) ne = elim (cases_eq s.handle h) [
  | inl e ↦ ap (λ t. has_seat y (cond (not t) (s ∷ seats_but h seats) (seats_but h seats))) (eqb_same s.handle h e) ∙ seat-other h y seats ne
      ∙ sym (cond_false (eqb s.handle y) _ _ (eqb_apart s.handle y (λ z. ne (sym z ∙ e))))
  | inr n ↦ ap (λ t. has_seat y (cond (not t) (s ∷ seats_but h seats) (seats_but h seats))) (eqb_apart s.handle h n)
      ∙ ap (cond (eqb s.handle y) true) (seat-other h y seats ne)
]

-- what the dead one held is of no account
held-dropped : (h : ℕ) (o : Option Parcel) (seats : List Seat) → seats_but h (with_held h o seats) ≡ seats_but h seats
held-dropped h o [] = refl
held-dropped h o (s ∷ seats) = go (eqb s.handle h) refl (held-dropped h o seats)
  where
    go : (t : Bool) → eqb s.handle h ≡ t → seats_but h (with_held h o seats) ≡ seats_but h seats
        → seats_but h (cond t (record s { holds = o } ∷ seats) (s ∷ with_held h o seats)) ≡ cond (not t) (s ∷ seats_but h seats) (seats_but h seats)
    go true e f = cond_false (not (eqb s.handle h)) _ _ (ap not e)
    go false e f = cond_true (not (eqb s.handle h)) _ _ (ap not e) ∙ ap (λ l. s ∷ l) f

none-to-hold : (h : ℕ) (o : Option Parcel) (seats : List Seat) → with_held h o (seats_but h seats) ≡ seats_but h seats
none-to-hold h o [] = refl
none-to-hold h o (s ∷ seats) = go (eqb s.handle h) refl (none-to-hold h o seats)
  where
    go : (t : Bool) → eqb s.handle h ≡ t → with_held h o (seats_but h seats) ≡ seats_but h seats
        → with_held h o (cond (not t) (s ∷ seats_but h seats) (seats_but h seats)) ≡ cond (not t) (s ∷ seats_but h seats) (seats_but h seats)
    go true e f = f
    go false e f = cond_false (eqb s.handle h) _ _ e ∙ ap (λ l. s ∷ l) f

-- ---- one bounce, with the seat still there and without it
abbrev queued_more : Parcel → Post → Post
queued_more p post = record post { queued = post.queued ++ as_returned p ∷ []; heap = poked p.block 0 (parcel_bytes 0 (as_returned p)) post.heap }

pub from-itself : (h : ℕ) (p : Parcel) (post : Post) → p.message.from ≡ h → bounced p (without_seat h post) ≡ without_block p (without_seat h post)
from-itself h p post e =
    cond_false (has_seat p.message.from (seats_but h post.seats)) _ _ (ap (λ y. has_seat y (seats_but h post.seats)) e ∙ seat-gone h post.seats)

away-more : (h : ℕ) (p : Parcel) (queue : List Parcel) → p.message.from ≢ h
    → queue_but h (queue ++ as_returned p ∷ []) ≡ queue_but h queue ++ as_returned p ∷ []
away-more h p queue ne =
    filter-append (λ (r : Parcel). not (r.to == h)) queue (as_returned p ∷ [])
    ∙ ap (λ l. queue_but h queue ++ l) (cond_true (not (eqb p.message.from h)) _ _ (ap not (eqb_apart p.message.from h ne)))

pub without-bounced : (h : ℕ) (p : Parcel) (post : Post) → p.message.from ≢ h → without_seat h (bounced p post) ≡ bounced p (without_seat h post)
without-bounced h p post ne = go (has_seat p.message.from post.seats) refl
  where
    same : has_seat p.message.from (seats_but h post.seats) ≡ has_seat p.message.from post.seats
    same = seat-other h p.message.from post.seats ne

    go : (t : Bool) → has_seat p.message.from post.seats ≡ t → without_seat h (bounced p post) ≡ bounced p (without_seat h post)
    go true e =
        ap (without_seat h) (cond_true (has_seat p.message.from post.seats) (queued_more p post) (without_block p post) e)
        ∙ ap (λ (l : List Parcel). let k : Post =
        record { seats = seats_but h post.seats; queued = l; heap = poked p.block 0 (parcel_bytes 0 (as_returned p)) post.heap; next_ref = post.next_ref } in
        k) (away-more h p post.queued ne)
        ∙ sym (cond_true (has_seat p.message.from (seats_but h post.seats)) (queued_more p (without_seat h post)) (without_block p (without_seat h post))
        (same ∙ e))
    go false e =
        ap (without_seat h) (cond_false (has_seat p.message.from post.seats) (queued_more p post) (without_block p post) e)
        ∙ sym (cond_false (has_seat p.message.from (seats_but h post.seats)) (queued_more p (without_seat h post)) (without_block p (without_seat h post))
        (same ∙ e))

pub queue-bounced : (h : ℕ) (p : Parcel) (post : Post) → p.message.from ≢ h → queue_to h (bounced p post).queued ≡ queue_to h post.queued
queue-bounced h p post ne =
    elim (has_seat p.message.from post.seats) as (λ t. queue_to h (cond t (queued_more p post) (without_block p post)).queued ≡ queue_to h post.queued) [
      | true ↦ filter-append (λ (r : Parcel). r.to == h) post.queued (as_returned p ∷ [])
          ∙ ap (λ l. queue_to h post.queued ++ l) (cond_false (eqb p.message.from h) _ _ (eqb_apart p.message.from h ne)) ∙ append-nil (queue_to h post.queued)
      | false ↦ refl
    ]

-- a message bounces alike, whether the dying task's seat is still there or not
pub rest-bounced : (h : ℕ) (p : Parcel) (post : Post)
    → rest_of_death h (bounced_from h p post) ≡ bounce_all (queue_to h post.queued) (bounced p (without_seat h post))
rest-bounced h p post = elim (cases_eq p.message.from h) [
  | inl e ↦ ap (rest_of_death h) (cond_true (eqb p.message.from h) (without_block p post) (bounced p post) (eqb_same p.message.from h e))
      ∙ ap (bounce_all (queue_to h post.queued)) (sym (from-itself h p post e))
  | inr ne ↦ ap (rest_of_death h) (cond_false (eqb p.message.from h) (without_block p post) (bounced p post) (eqb_apart p.message.from h ne))
      ∙ ap (λ l. bounce_all l (without_seat h (bounced p post))) (queue-bounced h p post ne)
      ∙ ap (bounce_all (queue_to h post.queued)) (without-bounced h p post ne)
]

pub queue-from : (h : ℕ) (p : Parcel) (post : Post) → queue_to h (bounced_from h p post).queued ≡ queue_to h post.queued
queue-from h p post = elim (cases_eq p.message.from h) [
  | inl e ↦ ap (λ (k : Post). queue_to h k.queued) (cond_true (eqb p.message.from h) (without_block p post) (bounced p post) (eqb_same p.message.from h e))
  | inr ne ↦ ap (λ (k : Post). queue_to h k.queued) (cond_false (eqb p.message.from h) (without_block p post) (bounced p post)
      (eqb_apart p.message.from h ne)) ∙ queue-bounced h p post ne
]

pub seats-from : (h : ℕ) (p : Parcel) (post : Post) → (bounced_from h p post).seats ≡ post.seats
seats-from h p post =
    elim (eqb p.message.from h) as (λ t. (cond t (without_block p post) (bounced p post)).seats ≡ post.seats) [ true ↦ refl | false ↦ bounced-seats p post ]

-- ---- the message that is held
pub death-settled : (h : ℕ) (post : Post) → post_death h post ≡ rest_of_death h (settled_from h (held_by h post.seats) post)
unfolding post_death
death-settled h post = go (held_by h post.seats)
  where
    go : (o : Option Parcel) → bounce_all (queue_to h post.queued) (bounce_held h o (without_seat h post)) ≡ rest_of_death h (settled_from h o post)
    go None = refl
    go (Some p) =
        ap (λ (ss : List Seat). bounce_all (queue_to h post.queued) (bounced p
        (let k : Post = record { seats = ss; queued = queue_but h post.queued; heap = post.heap; next_ref = post.next_ref } in k)))
        (none-to-hold h None post.seats ∙ sym (held-dropped h None post.seats))
        ∙ sym (rest-bounced h p (lifted h post))

-- ---- one message that was queued
pub death-step : (h : ℕ) (post : Post) (p : Parcel) (rest : List Parcel) → FirstFor h post.queued p rest
    → rest_of_death h (ended_from h p (rest_of rest post)) ≡ rest_of_death h post
death-step h post p rest w = go (is_recorded p.code) refl
  where
    all-are : rest_of_death h post ≡ bounce_all (queue_to h rest) (cond (is_recorded p.code) (bounced p (without_seat h (rest_of rest post)))
        (without_block p (without_seat h (rest_of rest post))))
    all-are =
        ap (λ l. bounce_all l (without_seat h post)) w.same
        ∙ ap (λ (l : List Parcel). let k : Post = record { seats = seats_but h post.seats; queued = l; heap = post.heap; next_ref = post.next_ref } in
        bounce_all (queue_to h rest) (cond (is_recorded p.code) (bounced p k) (without_block p k))) w.away

    go : (t : Bool) → is_recorded p.code ≡ t → rest_of_death h (ended_from h p (rest_of rest post)) ≡ rest_of_death h post
    go true e =
        ap (rest_of_death h) (cond_true (is_recorded p.code) (bounced_from h p (rest_of rest post)) (without_block p (rest_of rest post)) e)
        ∙ rest-bounced h p (rest_of rest post)
        ∙ sym (all-are ∙ ap (bounce_all (queue_to h rest)) (cond_true (is_recorded p.code) (bounced p (without_seat h (rest_of rest post)))
        (without_block p (without_seat h (rest_of rest post))) e))
    go false e =
        ap (rest_of_death h) (cond_false (is_recorded p.code) (bounced_from h p (rest_of rest post)) (without_block p (rest_of rest post)) e)
        ∙ sym (all-are ∙ ap (bounce_all (queue_to h rest)) (cond_false (is_recorded p.code) (bounced p (without_seat h (rest_of rest post)))
        (without_block p (without_seat h (rest_of rest post))) e))

pub queue-ended : (h : ℕ) (p : Parcel) (post : Post) → queue_to h (ended_from h p post).queued ≡ queue_to h post.queued
queue-ended h p post = elim (is_recorded p.code) as (λ t. queue_to h (cond t (bounced_from h p post) (without_block p post)).queued ≡ queue_to h post.queued)
    [ true ↦ queue-from h p post | false ↦ refl ]

pub seats-ended : (h : ℕ) (p : Parcel) (post : Post) → (ended_from h p post).seats ≡ post.seats
seats-ended h p post = elim (is_recorded p.code) as (λ t. (cond t (bounced_from h p post) (without_block p post)).seats ≡ post.seats)
    [ true ↦ seats-from h p post | false ↦ refl ]
