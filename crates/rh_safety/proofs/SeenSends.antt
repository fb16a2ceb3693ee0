-- A letter sent, as what is seen of the desk.
use Rattle.rh_safety.proofs.Common.{◌≡◌, ℕ, ◌+◌, Bool, true, false, List, [], ◌∷◌, ◌++◌, Option, Some, None, refl, sym, ap, ◌∙◌, subst, inl, inr, arith}
use Rattle.rh_safety.proofs.Common.{if◌then◌else◌, nat_eq, map, Ok, Err, option_map, eqb_tells, Refusal, Granted, ◌>>=◌, or_else, Parcel, Seat, Post}
use Rattle.rh_safety.proofs.Common.{has_seat, held_by, with_held, answers_held, put_down, queued_in, post_send, new_slot, Desk, Task, with_task, with_post}
use Rattle.rh_safety.proofs.Common.{free_pages, send_letter, is_deaf, answers_none, view, seen_parcel, seen_letter, seen_last, blocks_of, buffers_of, Message}
use Rattle.rh_safety.proofs.Common.{put, Same, same_desk, slot_at}
use Rattle.rh_defs.specs.declared.message.Letter.{Letter}
use Rattle.rh_defs.specs.RawTasks.{is_raw}
use Rattle.rh_defs.specs.Module.{module_claim}
use Rattle.rh_defs.specs.Messages.{parcel_size}
use Rattle.rh_defs.specs.Post.{message_of, parcel_of, posted, sendable}
use Rattle.rh_safety.proofs.Sight as sight
use Rattle.rh_safety.proofs.SeenTasks.{change_other, change_here, unput, task_or, task_is}
use Rattle.rh_safety.proofs.SeenBlocks.{from_bind, from_test, ok_is}

pub map_append : {A B : Type 0} (f : A → B) (xs ys : List A) → map f (xs ++ ys) ≡ map f xs ++ map f ys
map_append f [] ys = refl
map_append f (x ∷ xs) ys = ap (λ z. f x ∷ z) (map_append f xs ys)

-- granted, or refused
pub by_grant : {A : Type 0} (P : A → Type 0) (g : Granted A) (instead : Refusal → A) → ((x : A) → g ≡ Ok x → P x) →
    ((r : Refusal) → g ≡ Err r → P (instead r)) → P (or_else g instead)
unfolding or_else
by_grant P (Ok x) instead f k = f x refl
by_grant P (Err r) instead f k = k r refl

-- a step that was granted, and the rest
pub with_step : {A B P : Type 0} (g : Granted A) (next : A → Granted B) (y : B) → (g >>= next) ≡ Ok y →
    ((x : A) → g ≡ Ok x → next x ≡ Ok y → P) → P
unfolding ◌>>=◌
with_step (Ok x) next y q k = k x refl q
with_step (Err r) next y q k = absurd (let z : Err r ≡ Ok y = q in (cc))

-- ---- messages held

-- a task lets go of what it holds
pub held_put : (h : ℕ) (seats : List Seat) (k : ℕ) →
    held_by k (with_held h None seats) ≡ put (λ j. held_by j seats) h None k
held_put h [] k = elim (eqb_tells k h) [ inl b ↦ rw b.0 refl | inr b ↦ rw b.0 refl ]
held_put h (s ∷ seats) k =
    elim (eqb_tells s.handle h) [
      | inl a ↦ elim (eqb_tells k h) [
        | inl b ↦ let c : nat_eq s.handle k ≡ true = grind (arith, eqb_tells s.handle k) in rw (a.0, b.0, c) refl
        | inr b ↦ let c : nat_eq s.handle k ≡ false = grind (arith, eqb_tells s.handle k) in rw (a.0, b.0, c) refl
      ]
      | inr a ↦ elim (eqb_tells s.handle k) [
        | inl b ↦ let c : nat_eq k h ≡ false = grind (arith, eqb_tells k h) in rw (a.0, b.0, c) refl
        | inr b ↦ rw (a.0, b.0) (held_put h seats k)
      ]
    ]

-- a live task holds a message
pub held_got : (h : ℕ) (v : Option Parcel) (seats : List Seat) → has_seat h seats ≡ true → (k : ℕ) →
    held_by k (with_held h v seats) ≡ put (λ j. held_by j seats) h v k
held_got h v [] q k = absurd (let z : Bool.false ≡ true = q in (cc))
held_got h v (s ∷ seats) q k =
    elim (eqb_tells s.handle h) [
      | inl a ↦ elim (eqb_tells k h) [
        | inl b ↦ let c : nat_eq s.handle k ≡ true = grind (arith, eqb_tells s.handle k) in rw (a.0, b.0, c) refl
        | inr b ↦ let c : nat_eq s.handle k ≡ false = grind (arith, eqb_tells s.handle k) in rw (a.0, b.0, c) refl
      ]
      | inr a ↦ elim (eqb_tells s.handle k) [
        | inl b ↦ let c : nat_eq k h ≡ false = grind (arith, eqb_tells k h) in rw (a.0, b.0, c) refl
        | inr b ↦ rw (a.0, b.0) (held_got h v seats (rw a.0 at q) k)
      ]
    ]

-- the same handles are live
pub seats_held : (h : ℕ) (v : Option Parcel) (seats : List Seat) (k : ℕ) →
    has_seat k (with_held h v seats) ≡ has_seat k seats
seats_held h v [] k = refl
seats_held h v (s ∷ seats) k =
    elim (eqb_tells s.handle h) [
      | inl a ↦ rw a.0 refl
      | inr a ↦ elim (eqb_tells s.handle k) [
        | inl b ↦ rw (a.0, b.0) refl
        | inr b ↦ rw (a.0, b.0) (seats_held h v seats k)
      ]
    ]

abbrev pub held_seen : List Seat → ℕ → Option Message
held_seen seats k = option_map seen_parcel (held_by k seats)

-- ---- a letter sent

pub record IsSent (l : Letter) (q p : Post) : Type 0 where
  pub queued : map seen_parcel p.queued ≡ map seen_parcel q.queued ++ seen_letter l q.next_ref ∷ []
  pub held : Same (held_seen p.seats) (put (held_seen q.seats) l.from (sight.still_held (held_seen q.seats l.from)
      l.your_ref))
  pub next : p.next_ref ≡ q.next_ref + 1

posted_is : (l : Letter) (there : _) (q : Post) (o : Option Parcel) → held_by l.from q.seats ≡ o →
    IsSent l q (if answers_held l.your_ref o then put_down l.from (queued_in l there q) else queued_in l there q)
posted_is l there q None e = record {
  queued = map_append seen_parcel q.queued (parcel_of l q.next_ref there.1 ∷ []);
  held = λ k. unput (held_seen q.seats) l.from (sight.still_held (held_seen q.seats l.from) l.your_ref) (rw e refl)
      k;
  next = refl;
}
posted_is l there q (Some p) e = elim (eqb_tells p.message.my_ref l.your_ref) as (λ _.
    IsSent l q (if nat_eq p.message.my_ref l.your_ref then put_down l.from (queued_in l there q) else queued_in
    l there q)) [
      | inl w ↦ rw w.0 (record {
        queued = map_append seen_parcel q.queued (parcel_of l q.next_ref there.1 ∷ []);
        held = λ k. ap (option_map seen_parcel) (held_put l.from q.seats k) ∙ elim (eqb_tells k l.from) [
          | inl b ↦ rw (
            b.0,
            e,
            w.0,
          ) refl
          | inr b ↦ rw b.0 refl
        ];
        next = refl;
      })
      | inr w ↦ rw w.0 (record {
        queued = map_append seen_parcel q.queued (parcel_of l q.next_ref there.1 ∷ []);
        held = λ k. unput (held_seen q.seats) l.from (sight.still_held (held_seen q.seats l.from) l.your_ref)
            (rw (e, w.0) refl) k;
        next = refl;
      })
    ]

pub record IsPosted (l : Letter) (q : Post) (p : Post × ℕ) : Type 0 where
  pub sent : IsSent l q p.0
  pub ref : p.1 ≡ q.next_ref

pub post_sent : (free : ℕ) (l : Letter) (q : Post) (p : Post × ℕ) → post_send free l q ≡ Ok p → IsPosted l q p
unfolding post_send
post_sent free l q p e =
    let w = from_bind (module_claim free (parcel_size (message_of l 0)) q.heap) (λ there. Ok (
      posted l there q,
      q.next_ref,
    )) p (from_test (sendable l q) _ p e) in
    subst (IsPosted l q) (ok_is (posted l w.value q, q.next_ref) p w.rest)
    (record { sent = posted_is l w.value q (held_by l.from q.seats) refl; ref = refl })

-- a letter sent from a desk
pub record IsSentOn (l : Letter) (d e : Desk) : Type 0 where
  pub after : Post
  pub sent : IsSent l d.post after
  pub same : with_task l.from (λ t. record t { last_sent = Some (l, d.post.next_ref) }) (with_post after d) ≡ e

pub letter_sent : (l : Letter) (d e : Desk) → send_letter l d ≡ Ok e → IsSentOn l d e
unfolding send_letter
letter_sent l d e q =
    let w = from_bind (post_send (free_pages d) l d.post) _ e q in
    let s = post_sent (free_pages d) l d.post w.value w.first in
    record {
      after = w.value.0;
      sent = s.sent;
      same = ap (λ n. with_task l.from (λ t. record t { last_sent = Some (l, n) }) (with_post w.value.0 d))
          (sym s.ref) ∙ ok_is _ e w.rest;
    }

sent_seen : (d : Desk) (l : Letter) (p : Post) → (view d).live l.from ≡ true → IsSent l d.post p →
    view (with_task l.from (λ y. record y { last_sent = Some (l, d.post.next_ref) }) (with_post p d)) ≡ sight.sent
    (view d) l.from (seen_letter l d.post.next_ref)
unfolding with_task
sent_seen d l p live w =
    let f : Task → Task = λ y. record y { last_sent = Some (l, d.post.next_ref) } in
    let h = l.from in
    let t = task_or d h in
    let is = task_is d h live in
    let d1 : sight.Desk = sight.sent (view d) l.from (seen_letter l d.post.next_ref) in
    let d0 : sight.Desk = record d1 {
      queue = map seen_parcel p.queued;
      held = held_seen p.seats;
      next_ref = p.next_ref;
    } in
    ◌∙◌ {c = d1}
    (same_desk d0 _ _ _ _ _ _ _ _ _ _
    (change_other (λ y. true) false h f (λ y. refl) (λ y. refl) d.tasks) (change_other (λ y. y.buffer) 1 h f (λ y.
    refl) (λ y. refl) d.tasks)
    (change_other (λ y. is_deaf y.manner) false h f (λ y. refl) (λ y. refl) d.tasks) (change_other (λ y. answers_none
    y.manner) false h f (λ y. refl) (λ y. refl) d.tasks)
    (change_other (λ y. is_raw y.manner) false h f (λ y. refl) (λ y. refl) d.tasks)
    (change_other (λ y. blocks_of y.slot) (λ a. None) h f (λ y. refl) (λ y. refl) d.tasks) (change_other (λ y.
    buffers_of y.slot) (λ a. None) h f (λ y. refl) (λ y. refl) d.tasks)
    (change_other (λ y. y.sending) [] h f (λ y. refl) (λ y. refl) d.tasks) (change_other (λ y. y.taking) [] h f (λ y.
    refl) (λ y. refl) d.tasks)
    (change_here (λ y. option_map seen_last y.last_sent) None h f (λ y. refl) d.tasks t is))
    (λ i. record d1 { queue = w.queued i; held = λ k. w.held k i; next_ref = w.next i })

-- what is seen after a letter was sent
pub sent_view : (d e : Desk) (l : Letter) → send_letter l d ≡ Ok e → (view d).live l.from ≡ true →
    view e ≡ sight.sent (view d) l.from (seen_letter l d.post.next_ref)
sent_view d e l q live =
    let w = letter_sent l d e q in
    subst (λ (y : Desk). view y ≡ sight.sent (view d) l.from (seen_letter l d.post.next_ref)) w.same (sent_seen d l
    w.after live w.sent)

-- slots stay
pub sent_slot : (d e : Desk) (l : Letter) → send_letter l d ≡ Ok e → (h : ℕ) → slot_at e h ≡ slot_at d h
unfolding with_task
sent_slot d e l q h =
    let w = letter_sent l d e q in
    subst (λ (y : Desk). slot_at y h ≡ slot_at d h) w.same (change_other (λ y. y.slot) new_slot l.from (λ y.
    record y { last_sent = Some (l, d.post.next_ref) }) (λ y. refl) (λ y. refl) d.tasks h)
