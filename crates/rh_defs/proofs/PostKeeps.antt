-- What sends, polls and deaths keep of a post.
use Rattle.rh_defs.proofs.Common.{◌≡◌, ℕ, ◌+◌, ◌/◌, ◌≤◌, ◌<◌, Bool, true, false, cond, refl, ap, sym, subst, ◌∙◌, arith, List, [], ◌∷◌, ◌++◌, length}
use Rattle.rh_defs.proofs.Common.{length-append, Option, Some, None, IfSome, ◌==◌, filter, not, ◌^◌, AllByRecursion, eqb-true, eqb-false, Letter, total}
use Rattle.rh_defs.proofs.Common.{page_size}
use Rattle.rh_defs.proofs.Common.{Heap, FillsPages, poked, Parcel, is_recorded, parcel_bytes, parcel_size, Seat, Post, has_seat, held_by, with_held}
use Rattle.rh_defs.proofs.Common.{post_join, answers_held, put_down, queued_in, posted, message_of, sendable, post_send, as_returned, without_block, bounced}
use Rattle.rh_defs.proofs.Common.{bounce_held, first_for, taken_from, post_poll, bounce_all, post_death}
use Rattle.std.proofs.lemmas.List.{map-append}
use borrow.Author.Tests.{leb-false}
use Rattle.rh_defs.specs.Post.{most_messages, count_held, live_count, release_held, parcel_of, behind_first}
use Rattle.rh_defs.specs.Laws.{IsQueued, IsHeld, HoldsOwn, IsPost, seat_handles}
use Rattle.rh_defs.proofs.Chains.{OnGrant, granted, granted-with, granted-both, granted-past, granted-last}
use Rattle.rh_defs.proofs.Cuts.{total-append}
use Rattle.rh_defs.proofs.Lists.{all-mono, append-all, filter-all, filter-passes, filter-both, map-filter}
use Rattle.rh_defs.proofs.ModuleKeeps.{Fills, module_claim-grants, released-fills, release-end, poked-fills}

-- how many messages seats hold
abbrev held_count : List Seat → ℕ
held_count seats = total (λ (s : Seat). count_held s.holds) seats

-- ---- seats

module _ (h : ℕ) (held : Option Parcel) where
  pub with_held-handles : (seats : List Seat) → seat_handles (with_held h held seats) ≡ seat_handles seats
  with_held-handles [] = refl
  with_held-handles (s ∷ seats) =
      elim (s.handle == h) as (λ b. seat_handles (cond b (record s { holds = held } ∷ seats) (s ∷ with_held h held seats)) ≡ s.handle ∷ seat_handles seats)
      [ true ↦ refl | false ↦ ap (λ hs. s.handle ∷ hs) (with_held-handles seats) ]

  pub with_held-seat : (a : ℕ) (seats : List Seat) → has_seat a (with_held h held seats) ≡ has_seat a seats
  with_held-seat a [] = refl
  with_held-seat a (s ∷ seats) =
      elim (s.handle == h) as (λ b. has_seat a (cond b (record s { holds = held } ∷ seats) (s ∷ with_held h held seats)) ≡ cond (s.handle == a) true
      (has_seat a seats))
      [ true ↦ refl | false ↦ ap (cond (s.handle == a) true) (with_held-seat a seats) ]

  pub with_held-count : (seats : List Seat) → held_count (with_held h held seats) + count_held (held_by h seats) ≤ held_count seats + count_held held
  with_held-count [] = omega arith
  with_held-count (s ∷ seats) =
      elim (s.handle == h) as (λ b. held_count (cond b (record s { holds = held } ∷ seats) (s ∷ with_held h held seats)) + count_held
      (cond b s.holds (held_by h seats)) ≤ (count_held s.holds + held_count seats) + count_held held)
      [ true ↦ omega arith | false ↦ omega (arith, with_held-count seats) ]

  pub with_held-own : (next : ℕ) (seats : List Seat) → IfSome held (IsHeld next h) → AllByRecursion (HoldsOwn next) seats
      → AllByRecursion (HoldsOwn next) (with_held h held seats)
  with_held-own next [] is all = tt
  with_held-own next (s ∷ seats) is all = go (s.handle == h) refl (with_held-own next seats is all.1)
    where
      go : (b : Bool) → (s.handle == h) ≡ b → AllByRecursion (HoldsOwn next) (with_held h held seats)
          → AllByRecursion (HoldsOwn next) (cond b (record s { holds = held } ∷ seats) (s ∷ with_held h held seats))
      go true e rest = (subst (λ a. IfSome held (IsHeld next a)) (sym (eqb-true _ _ e)) is, all.1)
      go false e rest = (all.0, rest)

pub held_by-own : (h next : ℕ) (seats : List Seat) → AllByRecursion (HoldsOwn next) seats → IfSome (held_by h seats) (IsHeld next h)
held_by-own h next [] all = tt
held_by-own h next (s ∷ seats) all = go (s.handle == h) refl (held_by-own h next seats all.1)
  where
    go : (b : Bool) → (s.handle == h) ≡ b → IfSome (held_by h seats) (IsHeld next h) → IfSome (cond b s.holds (held_by h seats)) (IsHeld next h)
    go true e rest = subst (λ a. IfSome s.holds (IsHeld next a)) (eqb-true _ _ e) all.0
    go false e rest = rest

-- later refs are given, too
own-later : (next later : ℕ) (seats : List Seat) → next ≤ later → AllByRecursion (HoldsOwn next) seats → AllByRecursion (HoldsOwn later) seats
own-later next later seats more all = all-mono (λ s own. one s.handle s.holds own) seats all
  where
    one : (h : ℕ) (o : Option Parcel) → IfSome o (IsHeld next h) → IfSome o (IsHeld later h)
    one h None is = tt
    one h (Some p) is = record { given = omega (arith, more, is.given); own = is.own; recorded = is.recorded }

queued-later : (next later : ℕ) (seats : List Seat) (queue : List Parcel) → next ≤ later → AllByRecursion (IsQueued next seats) queue
    → AllByRecursion (IsQueued later seats) queue
queued-later next later seats queue more all = all-mono (λ p is. record { given = omega (arith, more, is.given); live = is.live }) queue all

-- seats with the same handles
queued-with_held : (h : ℕ) (held : Option Parcel) (next : ℕ) (seats : List Seat) (queue : List Parcel) → AllByRecursion (IsQueued next seats) queue
    → AllByRecursion (IsQueued next (with_held h held seats)) queue
queued-with_held h held next seats queue all =
    all-mono (λ p is. record { given = is.given; live = with_held-seat h held p.to seats ∙ is.live }) queue all

-- ---- one edit after another

-- a post with room for so many messages more
pub record HasRoom (spare : ℕ) (post : Post) : Type 0 where
  pub is : IsPost post
  pub room : live_count post + spare ≤ most_messages

-- what an edit keeps
pub record PostKept (spare : ℕ) (old new : Post) : Type 0 where
  pub end : new.heap.end ≡ old.heap.end
  pub next : new.next_ref ≡ old.next_ref
  pub handles : seat_handles new.seats ≡ seat_handles old.seats
  pub post : HasRoom spare new

pub kept-same : (spare : ℕ) (post : Post) → HasRoom spare post → PostKept spare post post
kept-same spare post is = record { end = refl; next = refl; handles = refl; post = is }

pub kept-after : {n m : ℕ} {a b c : Post} → PostKept n a b → PostKept m b c → PostKept m a c
kept-after f g = record { end = g.end ∙ f.end; next = g.next ∙ f.next; handles = g.handles ∙ f.handles; post = g.post }

-- without a message's block
released-kept : (spare : ℕ) (p : Parcel) (post : Post) → HasRoom spare post → PostKept spare post (without_block p post)
released-kept spare p post has = record {
  end = release-end p.block post.heap;
  next = refl;
  handles = refl;
  post = record {
    is = record {
      heap = released-fills p.block post.heap has.is.heap;
      few = has.is.few;
      refs = has.is.refs;
      queued = has.is.queued;
      held = has.is.held;
    };
    room = has.room;
  };
}

-- with one message more
pub bounced-kept : (spare : ℕ) (p : Parcel) (post : Post) → p.message.my_ref < post.next_ref → HasRoom (spare + 1) post → PostKept spare post (bounced p post)
bounced-kept spare p post given has = go (has_seat p.message.from post.seats) refl
  where
    back : Post
    back = record post {
      queued = post.queued ++ as_returned p ∷ [];
      heap = poked p.block 0 (parcel_bytes 0 (as_returned p)) post.heap;
    }

    longer : length (post.queued ++ as_returned p ∷ []) ≡ length post.queued + 1
    longer = length-append post.queued (as_returned p ∷ [])

    go : (b : Bool) → has_seat p.message.from post.seats ≡ b → PostKept spare post (cond b back (without_block p post))
    go true live = record {
      end = refl;
      next = refl;
      handles = refl;
      post = record {
        is = record {
          heap = poked-fills p.block 0 (parcel_bytes 0 (as_returned p)) post.heap has.is.heap;
          few = omega (arith, has.room, longer);
          refs = has.is.refs;
          queued = append-all (IsQueued post.next_ref post.seats) post.queued (as_returned p) has.is.queued (record { given = given; live = live });
          held = has.is.held;
        };
        room = omega (arith, has.room, longer);
      };
    }
    go false e = released-kept spare p post (record { is = has.is; room = omega (arith, has.room) })

-- what the task held is held no more
unheld : (spare h : ℕ) (post : Post) → HasRoom spare post
    → HasRoom (spare + count_held (held_by h post.seats)) (record post { seats = with_held h None post.seats })
unheld spare h post has =
    let fewer = with_held-count h None post.seats in
    record {
      is = record {
        heap = has.is.heap;
        few = omega (arith, has.is.few, fewer);
        refs = has.is.refs;
        queued = queued-with_held h None post.next_ref post.seats post.queued has.is.queued;
        held = with_held-own h None post.next_ref post.seats tt has.is.held;
      };
      room = omega (arith, has.room, fewer);
    }

-- a message that was held bounces, where there is room for it
bounce-kept : (spare h : ℕ) (o : Option Parcel) (post : Post) → IfSome o (λ p. p.message.my_ref < post.next_ref) → HasRoom spare post
    → HasRoom (spare + count_held o) (record post { seats = with_held h None post.seats }) → PostKept spare post (bounce_held h o post)
bounce-kept spare h None post given has room = kept-same spare post has
bounce-kept spare h (Some p) post given has room =
    let one = bounced-kept spare p (record post { seats = with_held h None post.seats }) given room in
    record { end = one.end; next = one.next; handles = one.handles ∙ with_held-handles h None post.seats; post = one.post }

-- ---- polls

-- the first message of a queue for a handle
record IsFirst (P : Parcel → Type 0) (h : ℕ) (queue : List Parcel) (t : Parcel × List Parcel) : Type 0 where
  own : t.0.to ≡ h
  shorter : length t.1 + 1 ≡ length queue
  here : P t.0
  rest : AllByRecursion P t.1

first_for-is : (P : Parcel → Type 0) (h : ℕ) (queue : List Parcel) → AllByRecursion P queue → IfSome (first_for h queue) (IsFirst P h queue)
first_for-is P h [] all = tt
first_for-is P h (p ∷ queue) all = go (p.to == h) refl (first_for h queue) (first_for-is P h queue all.1)
  where
    behind : (o : Option (Parcel × List Parcel)) → IfSome o (IsFirst P h queue) → IfSome (behind_first p o) (IsFirst P h (p ∷ queue))
    behind None is = tt
    behind (Some t) is = record { own = is.own; shorter = omega (arith, is.shorter); here = is.here; rest = (all.0, is.rest) }

    go : (b : Bool) → (p.to == h) ≡ b → (o : Option (Parcel × List Parcel)) → IfSome o (IsFirst P h queue)
        → IfSome (cond b (Some (p, queue)) (behind_first p o)) (IsFirst P h (p ∷ queue))
    go true e o is = record { own = eqb-true _ _ e; shorter = omega arith; here = all.0; rest = all.1 }
    go false e o is = behind o is

-- the first message is taken: recorded it is held, else its block is released
taken_from-kept : (h : ℕ) (o : Option (Parcel × List Parcel)) (post : Post) → HasRoom 0 post
    → IfSome o (IsFirst (IsQueued post.next_ref post.seats) h post.queued) → PostKept 0 post (taken_from h o post).0
taken_from-kept h None post has is = kept-same 0 post has
taken_from-kept h (Some t) post has is = go (is_recorded t.0.code) refl
  where
    shorter : HasRoom 1 (record post { queued = t.1 })
    shorter = record {
      is = record {
        heap = has.is.heap;
        few = omega (arith, has.is.few, is.shorter);
        refs = has.is.refs;
        queued = is.rest;
        held = has.is.held;
      };
      room = omega (arith, has.is.few, is.shorter);
    }

    go : (b : Bool) → is_recorded t.0.code ≡ b
        → PostKept 0 post (cond b (record post { queued = t.1; seats = with_held h (Some t.0) post.seats })
        (without_block t.0 (record post { queued = t.1 })))
    go true e =
        let more = with_held-count h (Some t.0) post.seats in
        let own : IsHeld post.next_ref h t.0 = record { given = is.here.given; own = is.own; recorded = e } in
        record {
          end = refl;
          next = refl;
          handles = with_held-handles h (Some t.0) post.seats;
          post = record {
            is = record {
              heap = has.is.heap;
              few = omega (arith, has.is.few, is.shorter, more);
              refs = has.is.refs;
              queued = queued-with_held h (Some t.0) post.next_ref post.seats t.1 is.rest;
              held = with_held-own h (Some t.0) post.next_ref post.seats own has.is.held;
            };
            room = omega (arith, has.is.few, is.shorter, more);
          };
        }
    go false e =
        let one = released-kept 1 t.0 (record post { queued = t.1 }) shorter in
        record { end = one.end; next = one.next; handles = one.handles; post = record { is = one.post.is; room = omega (arith, one.post.room) } }

pub post_poll-kept : (h : ℕ) (post : Post) → IsPost post → PostKept 0 post (post_poll h post).0
unfolding post_poll
post_poll-kept h post is =
    let has : HasRoom 0 post = record { is = is; room = omega (arith, is.few) } in
    let given = mono (held_by h post.seats) (held_by-own h post.next_ref post.seats is.held) in
    let before = bounce-kept 0 h (held_by h post.seats) post given has (unheld 0 h post has) in
    let between : Post = bounce_held h (held_by h post.seats) post in
    kept-after before (taken_from-kept h (first_for h between.queued) between before.post
    (first_for-is (IsQueued between.next_ref between.seats) h between.queued before.post.is.queued))
  where
    mono : (o : Option Parcel) → IfSome o (IsHeld post.next_ref h) → IfSome o (λ p. p.message.my_ref < post.next_ref)
    mono None is = tt
    mono (Some p) is = is.given

-- ---- deaths

bounce_all-kept : (spare next : ℕ) (queue : List Parcel) (post : Post) → post.next_ref ≡ next → AllByRecursion (λ p. p.message.my_ref < next) queue
    → HasRoom (spare + length queue) post → PostKept spare post (bounce_all queue post)
bounce_all-kept spare next [] post e given has = kept-same spare post (record { is = has.is; room = omega (arith, has.room) })
bounce_all-kept spare next (p ∷ queue) post e given has = go (is_recorded p.code) (λ new. bounce_all-kept spare next queue new)
  where
    room : HasRoom ((spare + length queue) + 1) post
    room = record { is = has.is; room = omega (arith, has.room) }

    less : HasRoom (spare + length queue) post
    less = record { is = has.is; room = omega (arith, has.room) }

    here : p.message.my_ref < post.next_ref
    here = omega (arith, e, given.0)

    go : (b : Bool) → ((new : Post) → new.next_ref ≡ next → AllByRecursion (λ p. p.message.my_ref < next) queue → HasRoom (spare + length queue) new
        → PostKept spare new (bounce_all queue new)) → PostKept spare post (bounce_all queue (cond b (bounced p post) (without_block p post)))
    go true rest =
        let one = bounced-kept (spare + length queue) p post here room in
        kept-after one (rest (bounced p post) (one.next ∙ e) given.1 one.post)
    go false rest =
        let one = released-kept (spare + length queue) p post less in
        kept-after one (rest (without_block p post) (one.next ∙ e) given.1 one.post)

-- seats without those of a handle
module _ (h : ℕ) where
  other-seats : List Seat → List Seat
  other-seats seats = filter (λ (s : Seat). not (s.handle == h)) seats

  others-count : (seats : List Seat) → held_count (filter (λ (s : Seat). not (s.handle == h)) seats) + count_held (held_by h seats) ≤ held_count seats
  others-count [] = omega arith
  others-count (s ∷ seats) =
      elim (s.handle == h) as (λ b. held_count (cond (not b) (s ∷ filter (λ (s : Seat). not (s.handle == h)) seats)
      (filter (λ (s : Seat). not (s.handle == h)) seats)) + count_held (cond b s.holds (held_by h seats)) ≤ count_held s.holds + held_count seats)
      [ true ↦ omega (arith, others-count seats) | false ↦ omega (arith, others-count seats) ]

  others-seat : (a : ℕ) (seats : List Seat) → (a == h) ≡ false → has_seat a seats ≡ true → has_seat a (filter (λ (s : Seat). not (s.handle == h)) seats) ≡ true
  others-seat a [] ne live = live
  others-seat a (s ∷ seats) ne live = go (s.handle == h) (s.handle == a) refl refl live (others-seat a seats ne)
    where
      clash : s.handle ≡ h → s.handle ≡ a → ⊥
      clash p q = eqb-false _ _ ne (sym q ∙ p)

      go : (b c : Bool) → (s.handle == h) ≡ b → (s.handle == a) ≡ c → cond c true (has_seat a seats) ≡ true
          → (has_seat a seats ≡ true → has_seat a (filter (λ (s : Seat). not (s.handle == h)) seats) ≡ true)
          → has_seat a (cond (not b) (s ∷ filter (λ (s : Seat). not (s.handle == h)) seats) (filter (λ (s : Seat). not (s.handle == h)) seats)) ≡ true
      go true true e f live rest = absurd (clash (eqb-true _ _ e) (eqb-true _ _ f))
      go true false e f live rest = rest live
      go false true e f live rest = ap (λ c. cond c true (has_seat a (filter (λ (s : Seat). not (s.handle == h)) seats))) f
      go false false e f live rest = ap (λ c. cond c true (has_seat a (filter (λ (s : Seat). not (s.handle == h)) seats))) f ∙ rest live

-- a dead handle's end: what is left of the post
pub record PostDead (h : ℕ) (old new : Post) : Type 0 where
  pub end : new.heap.end ≡ old.heap.end
  pub handles : seat_handles new.seats ≡ filter (λ a. not (a == h)) (seat_handles old.seats)
  pub post : IsPost new

pub post_death-kept : (h : ℕ) (post : Post) → IsPost post → PostDead h post (post_death h post)
unfolding post_death
post_death-kept h post is =
    let first =
    bounce-kept (length own) h held base given less
    (record {
      is = (unheld (length own + count_held held) h base spare).is;
      room = (let r = (unheld (length own + count_held held) h base spare).room in omega (arith, r));
    }) in
    let all = bounce_all-kept 0 post.next_ref own (bounce_held h held base) first.next owned
    (record { is = first.post.is; room = omega (arith, first.post.room) }) in
    record {
      end = all.end ∙ first.end;
      handles = all.handles ∙ first.handles ∙ map-filter (λ (s : Seat). s.handle) (λ a. not (a == h)) post.seats;
      post = all.post.is;
    }
  where
    own : List Parcel
    own = filter (λ (p : Parcel). p.to == h) post.queued

    held : Option Parcel
    held = held_by h post.seats

    base : Post
    base = record post {
      seats = filter (λ (s : Seat). not (s.handle == h)) post.seats;
      queued = filter (λ (p : Parcel). not (p.to == h)) post.queued;
    }

    not_own : (b : Bool) → not b ≡ true → b ≡ false
    not_own true e = absurd cc
    not_own false e = refl

    base-is : IsPost base
    base-is = record {
      heap = is.heap;
      few = omega (arith, is.few, filter-both (λ (p : Parcel). p.to == h) post.queued, others-count h post.seats);
      refs = is.refs;
      queued = all-mono
          (λ p w. record { given = w.0.given; live = others-seat h p.to post.seats (not_own _ w.1) w.0.live })
          (filter (λ (p : Parcel). not (p.to == h)) post.queued)
          (filter-passes (IsQueued post.next_ref post.seats) (λ (p : Parcel). not (p.to == h)) post.queued is.queued);
      held = filter-all (HoldsOwn post.next_ref) (λ (s : Seat). not (s.handle == h)) post.seats is.held;
    }

    spare : HasRoom (length own + count_held held) base
    spare = record {
      is = base-is;
      room = omega (arith, is.few, filter-both (λ (p : Parcel). p.to == h) post.queued, others-count h post.seats);
    }

    less : HasRoom (length own) base
    less = record { is = base-is; room = omega (arith, spare.room) }

    mono : (o : Option Parcel) → IfSome o (IsHeld post.next_ref h) → IfSome o (λ p. p.message.my_ref < post.next_ref)
    mono None is = tt
    mono (Some p) is = is.given

    given : IfSome held (λ p. p.message.my_ref < post.next_ref)
    given = mono held (held_by-own h post.next_ref post.seats is.held)

    owned : AllByRecursion (λ p. p.message.my_ref < post.next_ref) own
    owned = all-mono (λ p w. w.given) own (filter-all (IsQueued post.next_ref post.seats) (λ (p : Parcel). p.to == h) post.queued is.queued)

-- ---- sends and joins

-- what a send leaves, where so many pages are free
pub record PostSent (free : ℕ) (old new : Post) : Type 0 where
  pub room : new.heap.end / page_size ≤ free + old.heap.end / page_size
  pub handles : seat_handles new.seats ≡ seat_handles old.seats
  pub post : IsPost new

-- what a letter can be sent by
pub record IsSendable (l : Letter) (post : Post) : Type 0 where
  pub live : has_seat l.to post.seats ≡ true
  pub refs : post.next_ref < 2 ^ 32
  pub few : live_count post < most_messages

pub sendable-grants : (l : Letter) (post : Post) → OnGrant (λ (u : Unit {0}). IsSendable l post) (sendable l post)
unfolding sendable
sendable-grants l post =
    granted-past _ _ _ λ live. granted-past _ _ _ λ refs. granted-last _ _ λ few.
    record { live = is_live _ live; refs = leb-false _ _ refs; few = leb-false _ _ few }
  where
    is_live : (b : Bool) → not b ≡ false → b ≡ true
    is_live true e = refl
    is_live false e = absurd cc

queued_in-sent : (free : ℕ) (l : Letter) (there : Heap × ℕ) (post : Post) → IsPost post → IsSendable l post → Fills free post.heap there.0
    → PostSent free post (queued_in l there post)
queued_in-sent free l there post is can fills =
    let p : Parcel = parcel_of l post.next_ref there.1 in
    let longer = length-append post.queued (p ∷ []) in
    record {
      room = fills.room;
      handles = refl;
      post = record {
        heap = poked-fills there.1 0 (parcel_bytes 0 p) there.0 fills.fills;
        few = omega (arith, can.few, longer);
        refs = omega (arith, can.refs);
        queued = append-all (IsQueued (post.next_ref + 1) post.seats) post.queued p
            (queued-later post.next_ref (post.next_ref + 1) post.seats post.queued (omega arith) is.queued)
            (record { given = omega arith; live = can.live });
        held = own-later post.next_ref (post.next_ref + 1) post.seats (omega arith) is.held;
      };
    }

-- the message that is answered is put down
pub put_down-sent : (free h : ℕ) (old post : Post) → PostSent free old post → PostSent free old (put_down h post)
put_down-sent free h old post sent =
    let fewer = with_held-count h None post.seats in
    let heap = release_held-kept (held_by h post.seats) post.heap sent.post.heap in
    record {
      room = omega (arith, sent.room, heap.1);
      handles = with_held-handles h None post.seats ∙ sent.handles;
      post = record {
        heap = heap.0;
        few = omega (arith, sent.post.few, fewer);
        refs = sent.post.refs;
        queued = queued-with_held h None post.next_ref post.seats post.queued sent.post.queued;
        held = with_held-own h None post.next_ref post.seats tt sent.post.held;
      };
    }
  where
    release_held-kept : (o : Option Parcel) (heap : Heap) → FillsPages heap → FillsPages (release_held o heap) × ((release_held o heap).end ≡ heap.end)
    release_held-kept None heap is = (is, refl)
    release_held-kept (Some p) heap is = (released-fills p.block heap is, release-end p.block heap)

posted-sent : (free : ℕ) (l : Letter) (there : Heap × ℕ) (post : Post) → IsPost post → IsSendable l post → Fills free post.heap there.0
    → PostSent free post (posted l there post)
posted-sent free l there post is can fills =
    let one = queued_in-sent free l there post is can fills in
    elim (answers_held l.your_ref (held_by l.from post.seats)) as (λ b. PostSent free post
    (cond b (put_down l.from (queued_in l there post)) (queued_in l there post)))
    [ true ↦ put_down-sent free l.from post (queued_in l there post) one | false ↦ one ]

-- nothing was sent
pub same-sent : (free : ℕ) (post : Post) → IsPost post → PostSent free post post
same-sent free post is = record { room = omega arith; handles = refl; post = is }

pub post_send-grants : (free : ℕ) (l : Letter) (post : Post) → IsPost post → OnGrant (λ (sent : Post × ℕ). PostSent free post sent.0) (post_send free l post)
unfolding post_send
post_send-grants free l post is =
    granted-both _ (sendable-grants l post) λ _ can.
    granted-with _ (module_claim-grants free (parcel_size (message_of l 0)) post.heap is.heap) λ there fills.
    granted (posted-sent free l there post is can fills)

-- a new seat
pub post_join-is : (h : ℕ) (post : Post) → IsPost post → IsPost (post_join h post)
unfolding post_join
post_join-is h post is = record {
  heap = is.heap;
  few = omega (arith, is.few, total-append (λ (s : Seat). count_held s.holds) post.seats (record { handle = h; holds = None } ∷ []));
  refs = is.refs;
  queued = all-mono (λ p w. record { given = w.given; live = joined p.to post.seats w.live }) post.queued is.queued;
  held = append-all (HoldsOwn post.next_ref) post.seats (record { handle = h; holds = None }) is.held tt;
}
  where
    joined : (a : ℕ) (seats : List Seat) → has_seat a seats ≡ true → has_seat a (seats ++ record { handle = h; holds = None } ∷ []) ≡ true
    joined a [] e = absurd cc
    joined a (s ∷ seats) e =
        elim (s.handle == a) as (λ b. cond b true (has_seat a seats) ≡ true
        → cond b true (has_seat a (seats ++ record { handle = h; holds = None } ∷ [])) ≡ true)
        [ true ↦ λ (q : true ≡ true). refl | false ↦ λ (q : has_seat a seats ≡ true). joined a seats q ] e

pub post_join-handles : (h : ℕ) (post : Post) → seat_handles (post_join h post).seats ≡ seat_handles post.seats ++ h ∷ []
unfolding post_join
post_join-handles h post = map-append (λ (s : Seat). s.handle) post.seats (record { handle = h; holds = None } ∷ [])

pub post_join-end : (h : ℕ) (post : Post) → (post_join h post).heap.end ≡ post.heap.end
unfolding post_join
post_join-end h post = refl
