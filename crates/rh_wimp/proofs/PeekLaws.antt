-- What a poll would hand out.
use Rattle.rh_wimp.proofs.Common.{◌≡◌, ◌≢◌, ℕ, ◌<◌, inl, inr, Bool, true, false, cond, eqb, List, [], ◌∷◌, ◌++◌, length, refl, sym, ap, subst, ◌∙◌, eqb_tells}
use Rattle.rh_wimp.proofs.Common.{Option, Some, None, ◌==◌, if◌then◌else◌, poked, Heap, release_block, Parcel, parcel_bytes, Seat, Post, has_seat, held_by}
use Rattle.rh_wimp.proofs.Common.{with_held, holds_such, as_returned, bounce_held, first_for, taken, taken_from, post_poll, cond_true, cond_false, eqb_same}
use Rattle.rh_wimp.proofs.Common.{eqb_apart, Chains, Holds, ArePostChains, SeatRow, entry_at}
use Rattle.rh_defs.specs.Post.{behind_first}
use Rattle.rh_wimp.proofs.PostLaws.{held-at}
use Rattle.rh_wimp.proofs.SendLaws.{named, seated}

-- ---- the first message for a handle
abbrev pub front : ℕ → List Parcel → Option Parcel
front h [] = None
front h (p ∷ queue) = if p.to == h then Some p else front h queue

abbrev pub first_of : Option (Parcel × List Parcel) → Option Parcel
first_of None = None
first_of (Some t) = Some t.0

pub front-is : (h : ℕ) (queue : List Parcel) → first_of (first_for h queue) ≡ front h queue
front-is h [] = refl
front-is h (p ∷ queue) = go (p.to == h) (front-is h queue)
  where
    behind : (o : Option (Parcel × List Parcel)) → first_of (behind_first p o) ≡ first_of o
    behind None = refl
    behind (Some t) = refl

    go : (t : Bool) → first_of (first_for h queue) ≡ front h queue
        → first_of (cond t (Some (p, queue)) (behind_first p (first_for h queue))) ≡ cond t (Some p) (front h queue)
    go true e = refl
    go false e = behind (first_for h queue) ∙ e

taken-front : (h : ℕ) (post : Post) → (taken h post).1 ≡ front h post.queued
taken-front h post = go (first_for h post.queued) ∙ front-is h post.queued
  where
    go : (o : Option (Parcel × List Parcel)) → (taken_from h o post).1 ≡ first_of o
    go None = refl
    go (Some t) = refl

-- with more messages behind
front-before : (h : ℕ) (queue more : List Parcel) (p : Parcel) → front h queue ≡ Some p → front h (queue ++ more) ≡ Some p
front-before h [] more p e = absurd cc
front-before h (x ∷ queue) more p e = go (x.to == h) e (front-before h queue more p)
  where
    go : (t : Bool) → cond t (Some x) (front h queue) ≡ Some p → (front h queue ≡ Some p → front h (queue ++ more) ≡ Some p)
        → cond t (Some x) (front h (queue ++ more)) ≡ Some p
    go true e f = e
    go false e f = f e

front-behind : (h : ℕ) (queue more : List Parcel) → front h queue ≡ None → front h (queue ++ more) ≡ front h more
front-behind h [] more e = refl
front-behind h (x ∷ queue) more e = go (x.to == h) e (front-behind h queue more)
  where
    go : (t : Bool) → cond t (Some x) (front h queue) ≡ None → (front h queue ≡ None → front h (queue ++ more) ≡ front h more)
        → cond t (Some x) (front h (queue ++ more)) ≡ front h more
    go true e f = absurd cc
    go false e f = f e

-- ---- what bounces first
seat-stays : (x h : ℕ) (o : Option Parcel) (seats : List Seat) → has_seat x (with_held h o seats) ≡ has_seat x seats
seat-stays x h o [] = refl
seat-stays x h o (s ∷ seats) = go (s.handle == h) (seat-stays x h o seats)
  where
    go : (t : Bool) → has_seat x (with_held h o seats) ≡ has_seat x seats
        → has_seat x (cond t (record s { holds = o } ∷ seats) (s ∷ with_held h o seats)) ≡ has_seat x (s ∷ seats)
    go true e = refl
    go false e = ap (cond (s.handle == x) true) e

abbrev with_back : Bool → Parcel → List Parcel → List Parcel
with_back t p queue = cond t (queue ++ as_returned p ∷ []) queue

bounced-queue : (h : ℕ) (p : Parcel) (post : Post) → (bounce_held h (Some p) post).queued ≡ with_back (has_seat p.message.from post.seats) p post.queued
bounced-queue h p post =
    (elim (has_seat p.message.from (with_held h None post.seats)) as (λ t. (cond t
    (record post {
      seats = with_held h None post.seats;
      queued = post.queued ++ as_returned p ∷ [];
      heap = poked p.block 0 (parcel_bytes 0 (as_returned p)) post.heap;
    })
    (record post { seats = with_held h None post.seats; heap = release_block p.block post.heap })).queued
    ≡ with_back t p post.queued) [ true ↦ refl | false ↦ refl ])
    ∙ ap (λ t. with_back t p post.queued) (seat-stays p.message.from h None post.seats)

module _ (h : ℕ) (post : Post) where
  poll-is : (post_poll h post).1 ≡ front h (bounce_held h (held_by h post.seats) post).queued
  unfolding post_poll
  poll-is = taken-front h (bounce_held h (held_by h post.seats) post)

  -- the first message that waits, where there is one
  pub poll-waiting : (p : Parcel) → front h post.queued ≡ Some p → (post_poll h post).1 ≡ Some p
  poll-waiting p e = poll-is ∙ go (held_by h post.seats)
    where
      stays : (x : Parcel) (t : Bool) → front h (with_back t x post.queued) ≡ Some p
      stays x true = front-before h post.queued (as_returned x ∷ []) p e
      stays x false = e

      go : (o : Option Parcel) → front h (bounce_held h o post).queued ≡ Some p
      go None = e
      go (Some x) = ap (front h) (bounced-queue h x post) ∙ stays x (has_seat x.message.from post.seats)

  -- none, where none waits and none is held
  pub poll-nothing : front h post.queued ≡ None → held_by h post.seats ≡ None → (post_poll h post).1 ≡ None
  poll-nothing e f = poll-is ∙ ap (λ o. front h (bounce_held h o post).queued) f ∙ e

  module _ (x : Parcel) (e : front h post.queued ≡ None) (f : held_by h post.seats ≡ Some x) where
    behind-is : (post_poll h post).1 ≡ front h (with_back (has_seat x.message.from post.seats) x post.queued)
    behind-is = poll-is ∙ ap (λ o. front h (bounce_held h o post).queued) f ∙ ap (front h) (bounced-queue h x post)

    -- a message of the task's own that it holds comes back to it
    pub poll-own : x.message.from ≡ h → has_seat h post.seats ≡ true → (post_poll h post).1 ≡ Some (as_returned x)
    poll-own is live =
        behind-is
        ∙ ap (λ t. front h (with_back t x post.queued)) (ap (λ k. has_seat k post.seats) is ∙ live)
        ∙ front-behind h post.queued (as_returned x ∷ []) e
        ∙ cond_true (eqb x.message.from h) _ _ (eqb_same x.message.from h is)

    -- another's goes elsewhere
    pub poll-other : x.message.from ≢ h → (post_poll h post).1 ≡ None
    poll-other not = behind-is ∙ go (has_seat x.message.from post.seats)
      where
        go : (t : Bool) → front h (with_back t x post.queued) ≡ None
        go true = front-behind h post.queued (as_returned x ∷ []) e ∙ cond_false (eqb x.message.from h) _ _ (eqb_apart x.message.from h not)
        go false = e

-- ---- what a task holds
abbrev pub is_own : ℕ → Parcel → Bool
is_own h p = p.message.from == h

pub held-there : (h : Heap) (q : Chains) (post : Post) (x i : ℕ) → ArePostChains h q post → i < length q.entries → (entry_at q.entries i).handle ≡ x
    → Holds h (entry_at q.entries i).held (held_by x post.seats)
held-there h q post x i s lt e =
    let t = seated h q post i s lt in
    subst (Holds h (entry_at q.entries i).held) (sym (held-at post.seats i x (named h q post s) t.seat (sym t.handle ∙ e)))
    (subst (λ (r : SeatRow). Holds h (entry_at q.entries i).held r.held) t.row_is (s.rows.each i t.row).held)

-- a message of the task's own that it holds
pub record HoldsOwn (h : ℕ) (seats : List Seat) : Type 0 where
  pub parcel : Parcel
  pub held : held_by h seats ≡ Some parcel
  pub own : parcel.message.from ≡ h

pub own-held : (h : ℕ) (seats : List Seat) (t : Bool) → t ≡ holds_such (is_own h) (held_by h seats) → t ≡ true → HoldsOwn h seats
own-held h seats t e holds = go (held_by h seats) refl (sym e ∙ holds)
  where
    go : (o : Option Parcel) → held_by h seats ≡ o → holds_such (is_own h) o ≡ true → HoldsOwn h seats
    go None f own = absurd cc
    go (Some x) f own = elim (eqb_tells x.message.from h) [
      | inl u ↦ record { parcel = x; held = f; own = u.1 }
      | inr v ↦ absurd (let bad : true ≡ false = sym own ∙ v.0 in cc)
    ]

-- where nothing waits and the task holds none of its own, a poll hands out nothing
pub poll-none : (h : ℕ) (post : Post) (t : Bool) → front h post.queued ≡ None → t ≡ holds_such (is_own h) (held_by h post.seats) → t ≡ false
    → (post_poll h post).1 ≡ None
poll-none h post t e own lacks = go (held_by h post.seats) refl (sym own ∙ lacks)
  where
    go : (o : Option Parcel) → held_by h post.seats ≡ o → holds_such (is_own h) o ≡ false → (post_poll h post).1 ≡ None
    go None f own = poll-nothing h post e f
    go (Some x) f own = elim (eqb_tells x.message.from h) [
      | inl u ↦ absurd (let bad : true ≡ false = sym u.0 ∙ own in cc)
      | inr v ↦ poll-other h post x e f v.1
    ]
