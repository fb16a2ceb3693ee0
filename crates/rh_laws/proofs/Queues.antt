-- What holds of each queued message, where it holds of those that go back, holds of what a poll or a task's end leaves;
-- and where a letter stands that is sent.
use Rattle.rh_laws.proofs.Common.{◌≡◌, ◌⊎◌, ℕ, ◌+◌, ◌++◌, not, List, [], ◌∷◌, Option, Some, None, refl, sym, subst, ◌∙◌, inl, inr, ◌==◌, filter, IfSome}
use Rattle.rh_laws.proofs.Common.{Bool, true, false, if◌then◌else◌}
use Rattle.rh_laws.proofs.Common.{AllByRecursion, eqb_tells, Parcel, Post, Seat, as_returned, bounce_held, first_for, has_seat, held_by, post_poll}
use Rattle.rh_laws.proofs.Common.{taken_from, chosen, append-all, Letter, post_send, OnGrant, granted, granted-both, granted-then, any-grant}
use Rattle.rh_defs.specs.Messages.{is_recorded}
use Rattle.rh_defs.specs.Post.{behind_first, bounce_all, bounced, post_death, with_held, without_block, answers_held, parcel_of, put_down, queued_in}
use Rattle.rh_defs.proofs.Lists.{filter-all}

module _ (P : Parcel → Type 0) (back : (p : Parcel) → P (as_returned p)) where
  -- where it held of the queue it still does, and no ref was given
  pub record Left (old new : Post) : Type 0 where
    pub mail : AllByRecursion P old.queued → AllByRecursion P new.queued
    pub next : new.next_ref ≡ old.next_ref

  left-same : {old new : Post} → new.queued ≡ old.queued → new.next_ref ≡ old.next_ref → Left old new
  left-same q n = record { mail = λ all. subst (AllByRecursion P) (sym q) all; next = n }

  left-both : {old between new : Post} → Left old between → Left between new → Left old new
  left-both x y = record { mail = λ all. y.mail (x.mail all); next = y.next ∙ x.next }

  bounced-left : (p : Parcel) (post : Post) → Left post (bounced p post)
  bounced-left p post =
      chosen (Left post) (has_seat p.message.from post.seats) _ (without_block p post)
      (record { mail = λ all. append-all P post.queued _ all (back p); next = refl }) (left-same refl refl)

  pub bounce_held-left : (h : ℕ) (o : Option Parcel) (post : Post) → Left post (bounce_held h o post)
  bounce_held-left h None post = left-same refl refl
  bounce_held-left h (Some p) post =
      left-both (left-same {new = record post { seats = with_held h None post.seats }} refl refl) (bounced-left p _)

  bounce_all-left : (ps : List Parcel) (post : Post) → Left post (bounce_all ps post)
  bounce_all-left [] post = left-same refl refl
  bounce_all-left (p ∷ ps) post =
      left-both (chosen (Left post) (is_recorded p.code) (bounced p post) (without_block p post) (bounced-left p post)
      (left-same refl refl)) (bounce_all-left ps _)

  pub death-left : (h : ℕ) (post : Post) → Left post (post_death h post)
  unfolding post_death
  death-left h post =
      let rest : Post = record post {
        seats = filter (λ (s : Seat). not (s.handle == h)) post.seats;
        queued = filter (λ (p : Parcel). not (p.to == h)) post.queued;
      } in
      left-both (record { mail = λ all. filter-all P (λ (p : Parcel). not (p.to == h)) post.queued all; next = refl })
      (left-both (bounce_held-left h (held_by h post.seats) rest)
      (bounce_all-left (filter (λ (p : Parcel). p.to == h) post.queued) (bounce_held h (held_by h post.seats) rest)))

  -- a message that was taken is for the task, and it holds of it
  pub record IsMine (h : ℕ) (p : Parcel) : Type 0 where
    pub own : p.to ≡ h
    pub agrees : P p

  -- the first message for a handle, and the others
  pub record IsCut (h : ℕ) (t : Parcel × List Parcel) : Type 0 where
    pub first : IsMine h t.0
    rest : AllByRecursion P t.1

  pub first-cut : (h : ℕ) (ps : List Parcel) → AllByRecursion P ps → IfSome (first_for h ps) (IsCut h)
  first-cut h [] all = tt
  first-cut h (p ∷ ps) all = elim (eqb_tells p.to h) [
    | inl w ↦ rw w.0 (record { first = record { own = w.1; agrees = all.0 }; rest = all.1 })
    | inr w ↦ rw w.0 (behind (first_for h ps) (first-cut h ps all.1))
  ]
    where
      behind : (o : Option (Parcel × List Parcel)) → IfSome o (IsCut h) → IfSome (behind_first p o) (IsCut h)
      behind None is = tt
      behind (Some t) is = record { first = is.first; rest = (all.0, is.rest) }

  -- what a poll takes, and the post that it leaves
  pub record IsTaken (h : ℕ) (old : Post) (x : Post × Option Parcel) : Type 0 where
    pub left : Left old x.0
    pub mine : AllByRecursion P old.queued → IfSome x.1 (IsMine h)

  taken-is : (h : ℕ) (post : Post) (o : Option (Parcel × List Parcel)) → (AllByRecursion P post.queued → IfSome o (IsCut h)) →
      IsTaken h post (taken_from h o post)
  taken-is h post None cut = record { left = left-same refl refl; mine = λ all. tt }
  taken-is h post (Some t) cut = record {
    left = chosen (Left post) (is_recorded t.0.code) _ _ (record { mail = λ all. (cut all).rest; next = refl })
        (record { mail = λ all. (cut all).rest; next = refl });
    mine = λ all. (cut all).first;
  }

  pub poll-taken : (h : ℕ) (post : Post) → IsTaken h post (post_poll h post)
  unfolding post_poll
  poll-taken h post =
      let between : Post = bounce_held h (held_by h post.seats) post in
      let before = bounce_held-left h (held_by h post.seats) post in
      let w = taken-is h between (first_for h between.queued) (first-cut h between.queued) in
      record { left = left-both before w.left; mine = λ all. w.mine (before.mail all) }

-- ---- seats

module _ (P : Seat → Type 0) where
  -- the seat of a handle holds something else
  pub with_held-all : (h : ℕ) (o : Option Parcel) → ((s : Seat) → s.handle ≡ h → P (record s { holds = o })) → (ss : List Seat) →
      AllByRecursion P ss → AllByRecursion P (with_held h o ss)
  with_held-all h o new [] all = tt
  with_held-all h o new (s ∷ ss) all = elim (eqb_tells s.handle h) [
    | inl w ↦ rw w.0 (new s w.1, all.1)
    | inr w ↦ rw w.0 (all.0, with_held-all h o new ss all.1)
  ]

  -- so it is of what a handle holds
  pub held-by-all : (h : ℕ) (ss : List Seat) (p : Parcel) → AllByRecursion P ss → held_by h ss ≡ Some p →
      (s : Seat) × (P s × ((s.handle ≡ h) × (s.holds ≡ Some p)))
  held-by-all h [] p all q = absurd cc
  held-by-all h (s ∷ ss) p all q = elim (eqb_tells s.handle h) [
    | inl w ↦ (s, (all.0, (w.1, there w.0)))
    | inr w ↦ held-by-all h ss p all.1 (behind w.0)
  ]
    where
      there : (s.handle == h) ≡ true → s.holds ≡ Some p
      there e = subst (λ b. (if b then s.holds else held_by h ss) ≡ Some p) e q

      behind : (s.handle == h) ≡ false → held_by h ss ≡ Some p
      behind e = subst (λ b. (if b then s.holds else held_by h ss) ≡ Some p) e q

  module _ (empty : (s : Seat) → P (record s { holds = None })) where
    bounced-seats : (p : Parcel) (post : Post) → (bounced p post).seats ≡ post.seats
    bounced-seats p post =
        chosen (λ (x : Post). x.seats ≡ post.seats) (has_seat p.message.from post.seats) _ (without_block p post) refl refl

    bounce_held-all : (h : ℕ) (o : Option Parcel) (post : Post) → AllByRecursion P post.seats → AllByRecursion P (bounce_held h o post).seats
    bounce_held-all h None post all = all
    bounce_held-all h (Some p) post all =
        subst (AllByRecursion P) (sym (bounced-seats p (record post { seats = with_held h None post.seats })))
        (with_held-all h None (λ s here. empty s) post.seats all)

    bounce_all-seats : (ps : List Parcel) (post : Post) → (bounce_all ps post).seats ≡ post.seats
    bounce_all-seats [] post = refl
    bounce_all-seats (p ∷ ps) post =
        bounce_all-seats ps _
        ∙ chosen (λ (x : Post). x.seats ≡ post.seats) (is_recorded p.code) (bounced p post) (without_block p post) (bounced-seats p post) refl

    -- after a death
    pub death-seats : (h : ℕ) (post : Post) → AllByRecursion P post.seats → AllByRecursion P (post_death h post).seats
    unfolding post_death
    death-seats h post all =
        let rest : Post = record post {
          seats = filter (λ (s : Seat). not (s.handle == h)) post.seats;
          queued = filter (λ (p : Parcel). not (p.to == h)) post.queued;
        } in
        subst (AllByRecursion P) (sym (bounce_all-seats (filter (λ (p : Parcel). p.to == h) post.queued) (bounce_held h (held_by h post.seats) rest)))
        (bounce_held-all h (held_by h post.seats) rest (filter-all P (λ (s : Seat). not (s.handle == h)) post.seats all))

    taken-seats : (h : ℕ) (post : Post) (o : Option (Parcel × List Parcel)) →
        IfSome o (λ t. is_recorded t.0.code ≡ true → (s : Seat) → s.handle ≡ h → P (record s { holds = Some t.0 })) →
        AllByRecursion P post.seats → AllByRecursion P (taken_from h o post).0.seats
    taken-seats h post None new all = all
    taken-seats h post (Some t) new all = go (is_recorded t.0.code) refl
      where
        go : (b : Bool) → is_recorded t.0.code ≡ b → AllByRecursion P (taken_from h (Some t) post).0.seats
        go true e = rw e (with_held-all h (Some t.0) (new e) post.seats all)
        go false e = rw e all

    -- after a poll, where it is so of what the task then holds
    pub polled-seats : (h : ℕ) (post : Post) →
        IfSome (first_for h (bounce_held h (held_by h post.seats) post).queued)
        (λ t. is_recorded t.0.code ≡ true → (s : Seat) → s.handle ≡ h → P (record s { holds = Some t.0 })) →
        AllByRecursion P post.seats → AllByRecursion P (post_poll h post).0.seats
    unfolding post_poll
    polled-seats h post new all =
        let between : Post = bounce_held h (held_by h post.seats) post in
        taken-seats h between (first_for h between.queued) new (bounce_held-all h (held_by h post.seats) post all)

-- ---- letters

-- a letter that is sent stands at the queue's end, with the next ref
pub record IsSent (l : Letter) (post : Post) (x : Post × ℕ) : Type 0 where
  pub block : ℕ
  pub queued : x.0.queued ≡ post.queued ++ parcel_of l post.next_ref block ∷ []
  pub next : x.0.next_ref ≡ post.next_ref + 1
  pub ref : x.1 ≡ post.next_ref
  pub seats : (x.0.seats ≡ post.seats) ⊎ (x.0.seats ≡ with_held l.from None post.seats)

pub sent-is : (room : ℕ) (l : Letter) (post : Post) → OnGrant (IsSent l post) (post_send room l post)
unfolding post_send
sent-is room l post =
    granted-both _ (any-grant _) λ x u. granted-then _ _ λ there e.
    granted (chosen (λ (p : Post). IsSent l post (p, post.next_ref)) (answers_held l.your_ref (held_by l.from post.seats))
    (put_down l.from (queued_in l there post)) (queued_in l there post)
    (record { block = there.1; queued = refl; next = refl; ref = refl; seats = inr refl })
    (record { block = there.1; queued = refl; next = refl; ref = refl; seats = inl refl }))
