-- How many live messages have a ref: none has one that was not given, and no two have the same, whatever a post goes through.
use Rattle.rh_safety.proofs.Common.{◌≡◌, ◌≢◌, ℕ, ◌+◌, ◌≤◌, ◌<◌, true, false, cond, refl, ap, ◌∙◌, arith, List, [], ◌∷◌, ◌++◌, inl, inr, Option, Some, None}
use Rattle.rh_safety.proofs.Common.{IfSome, ◌==◌, if◌then◌else◌, filter, map, not, eqb_tells, leb_tells, total, Heap, Parcel, is_recorded, Seat, Post}
use Rattle.rh_safety.proofs.Common.{has_seat, held_by, with_held, post_join, answers_held, put_down, queued_in, without_block, bounced, bounce_held}
use Rattle.rh_safety.proofs.Common.{taken_from, post_poll, bounce_all, post_death, Desk, next_ref}
use Rattle.std.specs.List.{AllByRecursion, flat_map}
use Rattle.rh_defs.specs.declared.message.Letter.{Letter}
use Rattle.rh_defs.specs.Blocks.{poked}
use Rattle.rh_defs.specs.Messages.{parcel_bytes}
use Rattle.rh_defs.specs.Post.{posted, parcel_of, as_returned, behind_first, first_for}
use Rattle.rh_defs.proofs.Cuts.{total-append}
use Rattle.rh_safety.specs.Refs.{AllDiffer, HaveOwnRefs, held_refs, live_refs, ref_of}

-- ---- counts

-- 1 for the ref, and 0 for any other
abbrev one_if : ℕ → ℕ → ℕ
one_if ref n = if n == ref then 1 else 0

abbrev in_parcel : ℕ → Parcel → ℕ
in_parcel ref p = one_if ref (ref_of p)

abbrev in_hand : ℕ → Option Parcel → ℕ
in_hand ref None = 0
in_hand ref (Some p) = in_parcel ref p

abbrev in_queue : ℕ → List Parcel → ℕ
in_queue ref queue = total (in_parcel ref) queue

abbrev in_seats : ℕ → List Seat → ℕ
in_seats ref seats = total (λ (s : Seat). in_hand ref s.holds) seats

-- how many live messages have the ref
abbrev pub live_with : ℕ → Post → ℕ
live_with ref post = in_queue ref post.queued + in_seats ref post.seats

-- one message at most has a ref, and none has one that wasn't given
pub record OneEach (post : Post) : Type 0 where
  pub one : (ref : ℕ) → live_with ref post ≤ 1
  pub given : (ref : ℕ) → post.next_ref ≤ ref → live_with ref post ≡ 0

-- no more messages of any ref, and the next ref as it was
pub record NoMore (old new : Post) : Type 0 where
  pub fewer : (ref : ℕ) → live_with ref new ≤ live_with ref old
  pub next : new.next_ref ≡ old.next_ref

pub no_more-one : {old new : Post} → NoMore old new → OneEach old → OneEach new
no_more-one less is = record {
  one = λ ref. omega (arith, less.fewer ref, is.one ref);
  given = λ ref up. omega (arith, less.fewer ref, is.given ref (omega (arith, up, less.next)));
}

-- ---- seats

module _ (ref h : ℕ) where
  with_held-refs : (held : Option Parcel) (seats : List Seat) →
      in_seats ref (with_held h held seats) + in_hand ref (held_by h seats) ≤ in_seats ref seats + in_hand ref held
  with_held-refs held [] = omega arith
  with_held-refs held (s ∷ seats) =
      elim (s.handle == h) as (λ b.
      in_seats ref (cond b (record s { holds = held } ∷ seats) (s ∷ with_held h held seats)) + in_hand ref (cond b s.holds (held_by h seats))
      ≤ (in_hand ref s.holds + in_seats ref seats) + in_hand ref held)
      [ true ↦ omega arith | false ↦ omega (arith, with_held-refs held seats) ]

  -- the seats of other handles
  abbrev others : List Seat → List Seat
  others seats = filter (λ (s : Seat). not (s.handle == h)) seats

  others-refs : (seats : List Seat) → in_seats ref (others seats) + in_hand ref (held_by h seats) ≤ in_seats ref seats
  others-refs [] = omega arith
  others-refs (s ∷ seats) =
      elim (s.handle == h) as (λ b.
      in_seats ref (cond (not b) (s ∷ others seats) (others seats)) + in_hand ref (cond b s.holds (held_by h seats))
      ≤ in_hand ref s.holds + in_seats ref seats)
      [ true ↦ omega (arith, others-refs seats) | false ↦ omega (arith, others-refs seats) ]

-- ---- queues

-- the messages for a handle, and those for others
abbrev own_of : ℕ → List Parcel → List Parcel
own_of h queue = filter (λ (p : Parcel). p.to == h) queue

abbrev rest_of : ℕ → List Parcel → List Parcel
rest_of h queue = filter (λ (p : Parcel). not (p.to == h)) queue

parted-refs : (ref h : ℕ) (queue : List Parcel) → in_queue ref (own_of h queue) + in_queue ref (rest_of h queue) ≤ in_queue ref queue
parted-refs ref h [] = omega arith
parted-refs ref h (p ∷ queue) =
    elim (p.to == h) as (λ b.
    in_queue ref (cond b (p ∷ own_of h queue) (own_of h queue)) + in_queue ref (cond (not b) (p ∷ rest_of h queue) (rest_of h queue))
    ≤ in_parcel ref p + in_queue ref queue)
    [ true ↦ omega (arith, parted-refs ref h queue) | false ↦ omega (arith, parted-refs ref h queue) ]

-- the first message for a handle, and the others
abbrev IsCut : ℕ → List Parcel → Parcel × List Parcel → Type 0
IsCut ref queue t = in_parcel ref t.0 + in_queue ref t.1 ≤ in_queue ref queue

first_for-refs : (ref h : ℕ) (queue : List Parcel) → IfSome (first_for h queue) (IsCut ref queue)
first_for-refs ref h [] = tt
first_for-refs ref h (p ∷ queue) =
    elim (p.to == h) as (λ b. IfSome (cond b (Some (p, queue)) (behind_first p (first_for h queue))) (IsCut ref (p ∷ queue)))
    [ true ↦ omega arith | false ↦ behind (first_for h queue) (first_for-refs ref h queue) ]
  where
    behind : (o : Option (Parcel × List Parcel)) → IfSome o (IsCut ref queue) → IfSome (behind_first p o) (IsCut ref (p ∷ queue))
    behind None is = tt
    behind (Some t) is = omega (arith, is)

-- ---- bounces

-- the post with the message at its end, as one that came back
abbrev back : Parcel → Post → Post
back p post = record post {
  queued = post.queued ++ as_returned p ∷ [];
  heap = poked p.block 0 (parcel_bytes 0 (as_returned p)) post.heap;
}

bounced-refs : (ref : ℕ) (p : Parcel) (post : Post) → live_with ref (bounced p post) ≤ live_with ref post + in_parcel ref p
bounced-refs ref p post =
    elim (has_seat p.message.from post.seats) as (λ b. live_with ref (cond b (back p post) (without_block p post)) ≤ live_with ref post + in_parcel ref p)
    [ true ↦ omega (arith, total-append (in_parcel ref) post.queued (as_returned p ∷ [])) | false ↦ omega arith ]

-- what was held elsewhere bounces
bounce_held-refs : (ref h : ℕ) (o : Option Parcel) (post : Post) → live_with ref (bounce_held h o post) ≤ live_with ref post + in_hand ref o
bounce_held-refs ref h None post = omega arith
bounce_held-refs ref h (Some p) post =
    omega (arith, bounced-refs ref p (record post { seats = with_held h None post.seats }), with_held-refs ref h None post.seats)

-- what the task holds bounces
own_bounce-refs : (ref h : ℕ) (o : Option Parcel) (post : Post) → held_by h post.seats ≡ o →
    live_with ref (bounce_held h o post) ≤ live_with ref post
own_bounce-refs ref h None post is = omega arith
own_bounce-refs ref h (Some p) post is =
    let here : in_hand ref (held_by h post.seats) ≡ in_parcel ref p = ap (in_hand ref) is in
    omega (arith, here, bounced-refs ref p (record post { seats = with_held h None post.seats }), with_held-refs ref h None post.seats)

bounce_all-refs : (ref : ℕ) (queue : List Parcel) (post : Post) → live_with ref (bounce_all queue post) ≤ live_with ref post + in_queue ref queue
bounce_all-refs ref [] post = omega arith
bounce_all-refs ref (p ∷ queue) post =
    elim (is_recorded p.code) as (λ b.
    live_with ref (bounce_all queue (cond b (bounced p post) (without_block p post))) ≤ live_with ref post + (in_parcel ref p + in_queue ref queue)) [
      | true ↦ omega (arith, bounce_all-refs ref queue (bounced p post), bounced-refs ref p post)
      | false ↦ omega (arith, bounce_all-refs ref queue (without_block p post))
    ]

-- ---- polls and deaths

taken_from-refs : (ref h : ℕ) (o : Option (Parcel × List Parcel)) (post : Post) → IfSome o (IsCut ref post.queued) →
    live_with ref (taken_from h o post).0 ≤ live_with ref post
taken_from-refs ref h None post is = omega arith
taken_from-refs ref h (Some t) post is =
    elim (is_recorded t.0.code) as (λ b.
    live_with ref (cond b (record post { queued = t.1; seats = with_held h (Some t.0) post.seats }) (without_block t.0 (record post { queued = t.1 })))
    ≤ live_with ref post)
    [ true ↦ omega (arith, is, with_held-refs ref h (Some t.0) post.seats) | false ↦ omega (arith, is) ]

pub poll-fewer : (ref h : ℕ) (post : Post) → live_with ref (post_poll h post).0 ≤ live_with ref post
unfolding post_poll
poll-fewer ref h post =
    let between : Post = bounce_held h (held_by h post.seats) post in
    omega (
      arith,
      taken_from-refs ref h (first_for h between.queued) between (first_for-refs ref h between.queued),
      own_bounce-refs ref h (held_by h post.seats) post refl,
    )

pub death-fewer : (ref h : ℕ) (post : Post) → live_with ref (post_death h post) ≤ live_with ref post
unfolding post_death
death-fewer ref h post =
    let rest : Post = record post {
      seats = filter (λ (s : Seat). not (s.handle == h)) post.seats;
      queued = filter (λ (p : Parcel). not (p.to == h)) post.queued;
    } in
    let own : List Parcel = filter (λ (p : Parcel). p.to == h) post.queued in
    omega (
      arith,
      bounce_all-refs ref own (bounce_held h (held_by h post.seats) rest),
      bounce_held-refs ref h (held_by h post.seats) rest,
      parted-refs ref h post.queued,
      others-refs ref h post.seats,
    )

-- ---- sends and joins

queued_in-one : (l : Letter) (there : Heap × ℕ) (post : Post) → OneEach post → OneEach (queued_in l there post)
queued_in-one l there post is =
    let p : Parcel = parcel_of l post.next_ref there.1 in
    let more : (ref : ℕ) → live_with ref (queued_in l there post) ≡ live_with ref post + one_if ref post.next_ref = λ ref.
    omega (arith, total-append (in_parcel ref) post.queued (p ∷ [])) in
    record {
      one = λ ref. elim (eqb_tells post.next_ref ref) [
        | inl w ↦ let new : one_if ref post.next_ref ≡ 1 = rw w.0 refl in omega (arith, more ref, new, is.given ref (omega (arith, w.1)))
        | inr w ↦ let old : one_if ref post.next_ref ≡ 0 = rw w.0 refl in omega (arith, more ref, old, is.one ref)
      ];
      given = λ ref up. elim (eqb_tells post.next_ref ref) [
        | inl w ↦ absurd (omega (arith, up, w.1))
        | inr w ↦ let old : one_if ref post.next_ref ≡ 0 = rw w.0 refl in omega (arith, more ref, old, is.given ref (omega (arith, up)))
      ];
    }

pub put_down-one : (h : ℕ) (post : Post) → OneEach post → OneEach (put_down h post)
put_down-one h post is = no_more-one (record { fewer = λ ref. omega (arith, with_held-refs ref h None post.seats); next = refl }) is

pub posted-one : (l : Letter) (there : Heap × ℕ) (post : Post) → OneEach post → OneEach (posted l there post)
posted-one l there post is =
    elim (answers_held l.your_ref (held_by l.from post.seats)) as (λ b. OneEach (cond b (put_down l.from (queued_in l there post)) (queued_in l there post)))
    [ true ↦ put_down-one l.from (queued_in l there post) (queued_in-one l there post is) | false ↦ queued_in-one l there post is ]

pub join-one : (h : ℕ) (post : Post) → OneEach post → OneEach (post_join h post)
unfolding post_join
join-one h post is = no_more-one (record {
  fewer = λ ref. omega (arith, total-append (λ (s : Seat). in_hand ref s.holds) post.seats (record { handle = h; holds = None } ∷ []));
  next = refl;
}) is

-- ---- the refs as a list

-- how often a number stands in a list
abbrev times : ℕ → List ℕ → ℕ
times n ns = total (one_if n) ns

queue-times : (ref : ℕ) (queue : List Parcel) → times ref (map ref_of queue) ≡ in_queue ref queue
queue-times ref [] = refl
queue-times ref (p ∷ queue) = ap (λ n. in_parcel ref p + n) (queue-times ref queue)

hand-times : (ref : ℕ) (o : Option Parcel) → times ref (held_refs o) ≡ in_hand ref o
hand-times ref None = refl
hand-times ref (Some p) = omega arith

seats-times : (ref : ℕ) (seats : List Seat) → times ref (flat_map (λ (s : Seat). held_refs s.holds) seats) ≡ in_seats ref seats
seats-times ref [] = refl
seats-times ref (s ∷ seats) =
    omega (
      arith,
      total-append (one_if ref) (held_refs s.holds) (flat_map (λ (s : Seat). held_refs s.holds) seats),
      hand-times ref s.holds,
      seats-times ref seats,
    )

pub live-times : (ref : ℕ) (post : Post) → times ref (live_refs post) ≡ live_with ref post
live-times ref post =
    omega (
      arith,
      total-append (one_if ref) (map ref_of post.queued) (flat_map (λ (s : Seat). held_refs s.holds) post.seats),
      queue-times ref post.queued,
      seats-times ref post.seats,
    )

-- a number that stands nowhere in a list
none-of : (n : ℕ) (ns : List ℕ) → times n ns ≡ 0 → AllByRecursion (λ m. m ≢ n) ns
none-of n [] none = tt
none-of n (m ∷ ns) none = elim (eqb_tells m n) [
  | inl w ↦ let one : one_if n m ≡ 1 = rw w.0 refl in absurd (omega (arith, none, one))
  | inr w ↦ (w.1, none-of n ns (omega (arith, none)))
]

here-once : (n : ℕ) (ns : List ℕ) → times n (n ∷ ns) ≡ times n ns + 1
here-once n ns = elim (eqb_tells n n) [
  | inl w ↦ let one : one_if n n ≡ 1 = rw w.0 refl in omega (arith, one)
  | inr w ↦ absurd (w.1 refl)
]

pub all-differ : (ns : List ℕ) → ((n : ℕ) → times n ns ≤ 1) → AllDiffer ns
all-differ [] once = tt
all-differ (n ∷ ns) once = (
  none-of n ns (omega (arith, once n, here-once n ns)),
  all-differ ns (λ m. omega (arith, once m)),
)

pub all-given : (next : ℕ) (ns : List ℕ) → ((n : ℕ) → next ≤ n → times n ns ≡ 0) → AllByRecursion (λ n. n < next) ns
all-given next [] none = tt
all-given next (n ∷ ns) none = (below, all-given next ns (λ m up. omega (arith, none m up)))
  where
    below : n < next
    below = elim (leb_tells next n) [ inl w ↦ absurd (omega (arith, none n w.1, here-once n ns)) | inr w ↦ w.1 ]

-- ---- the law

pub own-refs : (d : Desk) → OneEach d.post → HaveOwnRefs d
own-refs d is = record {
  differ = all-differ (live_refs d.post) (λ n. omega (arith, is.one n, live-times n d.post));
  given = all-given (next_ref d) (live_refs d.post) (λ n up. live-times n d.post ∙ is.given n up);
}
