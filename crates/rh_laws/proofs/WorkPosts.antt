-- What the post leaves to do: with each letter sent, each bounce and each message taken.
use Rattle.rh_laws.proofs.Common.{◌≡◌, ℕ, ◌+◌, ◌≤◌, true, List, [], ◌∷◌, ◌++◌, Option, Some, None, refl, sym, ap, subst, ◌∙◌, ◌⊎◌, inl, inr, arith}
use Rattle.rh_laws.proofs.Common.{if◌then◌else◌, nat_eq, IfSome, eq-eqb, eqb_tells, Body, EventCode, User, Recorded, Acknowledge, Letter, Heap, total, Parcel}
use Rattle.rh_laws.proofs.Common.{Post, Seat, as_returned, bounce_held, first_for, has_seat, held_by, post_poll, post_send, taken_from, OnGrant, chosen}
use Rattle.rh_laws.proofs.Common.{granted, granted-both, granted-then, none_some, any-grant}
use Rattle.rh_defs.specs.declared.message.Body.TheVariants as body
use Rattle.rh_defs.specs.AnyMessage.{read_body}
use Rattle.rh_defs.specs.Messages.{is_recorded}
use Rattle.rh_defs.specs.Post.{answers_held, behind_first, held_or_released, parcel_of, put_down, queued_in, with_held, without_block}
use Rattle.rh_defs.proofs.Cuts.{total-append}
use Rattle.rh_laws.specs.Progress.{held_work, parcel_work, post_work, work_ahead, work_back, work_queued}

-- ---- numbers

-- a message that is held leaves less than one on its way
pub back-less : (b : Body) → work_back b + 2 ≤ work_ahead b
back-less (body.DataSave file) = omega arith
back-less _ = omega arith

pub back-some : (b : Body) → 1 ≤ work_back b
back-some (body.DataSave file) = omega arith
back-some _ = omega arith

queued-most : (c : EventCode) (b : Body) → work_queued c b ≤ work_ahead b
queued-most User b = omega arith
queued-most Recorded b = omega arith
queued-most Acknowledge b = let z = back-less b in omega (arith, z)

pub queued-some : (c : EventCode) (b : Body) → 1 ≤ work_queued c b
queued-some User b = let z = back-less b in omega (arith, z)
queued-some Recorded b = let z = back-less b in omega (arith, z)
queued-some Acknowledge b = back-some b

-- what is held leaves something to do
pub held-some : (held : Option Parcel) → held_work held ≡ 0 → held ≡ None
held-some None e = refl
held-some (Some p) e = absurd (let z = back-some (read_body p.message.body) in omega (arith, z, e))

-- ---- seats

abbrev pub seats_work : List Seat → ℕ
seats_work seats = total (λ (s : Seat). held_work s.holds) seats

abbrev pub queue_work : List Parcel → ℕ
queue_work queue = total parcel_work queue

held-put : (h : ℕ) (v : Option Parcel) (s : Seat) (seats : List Seat) → s.handle ≡ h →
    held_by h (record s { holds = v } ∷ seats) ≡ v
held-put h v s seats same = let e : nat_eq s.handle h ≡ true = eq-eqb _ _ same in rw e refl

put-held : (h : ℕ) (v : Option Parcel) (seats : List Seat) →
    seats_work (with_held h v seats) + held_work (held_by h seats) ≤ seats_work seats + held_work (held_by h (with_held h v seats))
put-held h v [] = omega arith
put-held h v (s ∷ seats) = elim (eqb_tells s.handle h) [
  | inl w ↦ rw w.0 (let z = held-put h v s seats w.1 in rw z (omega arith))
  | inr w ↦ rw w.0 (rw w.0 (let z = put-held h v seats in omega (arith, z)))
]

held-none : (h : ℕ) (seats : List Seat) → held_by h (with_held h None seats) ≡ None
held-none h [] = refl
held-none h (s ∷ seats) = elim (eqb_tells s.handle h) [
  | inl w ↦ rw w.0 (held-put h None s seats w.1)
  | inr w ↦ rw w.0 (rw w.0 (held-none h seats))
]

held-got : (h : ℕ) (m : Parcel) (seats : List Seat) → held_by h seats ≡ None →
    (held_by h (with_held h (Some m) seats) ≡ None) ⊎ (held_by h (with_held h (Some m) seats) ≡ Some m)
held-got h m [] e = inl refl
held-got h m (s ∷ seats) e = elim (eqb_tells s.handle h) [
  | inl w ↦ rw w.0 (inr (held-put h (Some m) s seats w.1))
  | inr w ↦ rw w.0 (rw w.0 (held-got h m seats (rw w.0 at e)))
]

-- a seat that lets go of what it holds
let-go : (h : ℕ) (held : Option Parcel) (seats : List Seat) → held_by h seats ≡ held →
    seats_work (with_held h None seats) + held_work held ≤ seats_work seats
let-go h held seats e =
    let z = put-held h None seats in
    let none : held_work (held_by h (with_held h None seats)) ≡ 0 = ap held_work (held-none h seats) in
    let is : held_work (held_by h seats) ≡ held_work held = ap held_work e in
    omega (arith, z, none, is)

-- ---- a letter sent

-- the letter answers what is held, where something is
abbrev pub Lets : ℕ → Option Parcel → Type 0
Lets ref None = Unit {0}
Lets ref (Some p) = p.message.my_ref ≡ ref

-- what was held is let go, and the letter is more to do
pub record IsSent (l : Letter) (held : Option Parcel) (post : Post) (x : Post × ℕ) : Type 0 where
  pub work : post_work x.0 + held_work held ≤ post_work post + work_ahead (read_body l.body)
  pub next : x.0.next_ref ≡ post.next_ref + 1

more-queued : (queue : List Parcel) (p : Parcel) → queue_work (queue ++ p ∷ []) ≡ queue_work queue + parcel_work p
more-queued queue p = let z = total-append parcel_work queue (p ∷ []) in omega (arith, z)

posted-is : (l : Letter) (there : Heap × ℕ) (post : Post) (held : Option Parcel) → held_by l.from post.seats ≡ held →
    Lets l.your_ref held →
    IsSent l held post (if answers_held l.your_ref held then put_down l.from (queued_in l there post) else queued_in l there post, post.next_ref)
posted-is l there post None e lets = record {
  work = let y = more-queued post.queued (parcel_of l post.next_ref there.1) in let z = queued-most l.code (read_body l.body) in omega (arith, y, z);
  next = refl;
}
posted-is l there post (Some p) e lets =
    let same : nat_eq p.message.my_ref l.your_ref ≡ true = eq-eqb _ _ lets in
    rw same (record {
      work =
          let y = more-queued post.queued (parcel_of l post.next_ref there.1) in
          let z = queued-most l.code (read_body l.body) in
          let w = let-go l.from (Some p) post.seats e in
          omega (arith, y, z, w);
      next = refl;
    })

pub sent-is : (room : ℕ) (l : Letter) (held : Option Parcel) (post : Post) → held_by l.from post.seats ≡ held → Lets l.your_ref held →
    OnGrant (IsSent l held post) (post_send room l post)
unfolding post_send
sent-is room l held post e lets =
    granted-both _ (any-grant _) λ x u. granted-then _ _ λ there f.
    granted (subst (λ o. IsSent l held post (
      if answers_held l.your_ref o then put_down l.from (queued_in l there post)
          else queued_in l there post,
      post.next_ref,
    )) (sym e) (posted-is l there post held e lets))

-- ---- a bounce

abbrev one_if : Option Parcel → ℕ
one_if None = 0
one_if (Some p) = 1

-- what was held is held no more
record IsBounced (h : ℕ) (held : Option Parcel) (post x : Post) : Type 0 where
  work : post_work x + one_if held ≤ post_work post
  none : held_by h x.seats ≡ None
  next : x.next_ref ≡ post.next_ref

bounced-is : (h : ℕ) (held : Option Parcel) (post : Post) → held_by h post.seats ≡ held → IsBounced h held post (bounce_held h held post)
bounced-is h None post e = record { work = omega arith; none = e; next = refl }
bounced-is h (Some p) post e =
    let left : Post = record post { seats = with_held h None post.seats } in
    let w = let-go h (Some p) post.seats e in
    chosen (IsBounced h (Some p) post) (has_seat p.message.from left.seats) _ (without_block p left)
    (record {
      work = let y = more-queued post.queued (as_returned p) in omega (arith, y, w);
      none = held-none h post.seats;
      next = refl;
    })
    (record { work = omega (arith, w); none = held-none h post.seats; next = refl })

-- ---- a message taken

-- the first message for a handle, and the others
first-work : (h : ℕ) (queue : List Parcel) →
    IfSome (first_for h queue) (λ (t : Parcel × List Parcel). queue_work queue ≡ parcel_work t.0 + queue_work t.1)
first-work h [] = tt
first-work h (p ∷ queue) = elim (eqb_tells p.to h) [
  | inl w ↦ rw w.0 refl
  | inr w ↦ rw w.0 (behind (first_for h queue) (first-work h queue))
]
  where
    behind : (o : Option (Parcel × List Parcel)) → IfSome o (λ (t : Parcel × List Parcel). queue_work queue ≡ parcel_work t.0 + queue_work t.1) →
        IfSome (behind_first p o) (λ (t : Parcel × List Parcel). queue_work (p ∷ queue) ≡ parcel_work t.0 + queue_work t.1)
    behind None is = tt
    behind (Some t) is = omega (arith, is)

-- what the task holds is what it took, or nothing
pub record Took (h : ℕ) (m : Parcel) (post x : Post) : Type 0 where
  pub work : post_work x + parcel_work m ≤ post_work post + held_work (held_by h x.seats)
  pub room : held_work (held_by h x.seats) + 1 ≤ parcel_work m
  pub lets : Lets m.message.my_ref (held_by h x.seats)
  pub back : m.code ≡ Acknowledge → held_by h x.seats ≡ None
  pub next : x.next_ref ≡ post.next_ref

took-is : (h : ℕ) (m : Parcel) (queue : List Parcel) (post : Post) → queue_work post.queued ≡ parcel_work m + queue_work queue →
    held_by h post.seats ≡ None → Took h m post (held_or_released h m (record post { queued = queue }))
took-is h m queue post is none = by_code m.code refl
  where
    -- a post with the same seats
    free : (x : Post) → x.seats ≡ post.seats → x.queued ≡ queue → x.next_ref ≡ post.next_ref → Took h m post x
    free x same less next =
        let bare : held_by h x.seats ≡ None = ap (held_by h) same ∙ none in
        let zero : held_work (held_by h x.seats) ≡ 0 = ap held_work bare in
        let some = queued-some m.code (read_body m.message.body) in
        let seats : seats_work x.seats ≡ seats_work post.seats = ap seats_work same in
        let rest : queue_work x.queued ≡ queue_work queue = ap queue_work less in
        record {
          work = omega (arith, is, zero, seats, rest);
          room = omega (arith, zero, some);
          lets = subst (Lets m.message.my_ref) (sym bare) tt;
          back = λ q. bare;
          next = next;
        }

    holding : m.code ≡ Recorded → Took h m post (record post { queued = queue; seats = with_held h (Some m) post.seats })
    holding same =
        let seats : List Seat = with_held h (Some m) post.seats in
        let w = put-held h (Some m) post.seats in
        let zero : held_work (held_by h post.seats) ≡ 0 = ap held_work none in
        let recorded : parcel_work m ≡ work_ahead (read_body m.message.body) = ap (λ c. work_queued c (read_body m.message.body)) same in
        let y = back-less (read_body m.message.body) in
        record {
          work = omega (arith, is, w, zero);
          room = elim (held-got h m post.seats none) [
            | inl e ↦ let z : held_work (held_by h seats) ≡ 0 = ap held_work e in omega (arith, z, recorded, y)
            | inr e ↦ let z : held_work (held_by h seats) ≡ work_back (read_body m.message.body) + 1 = ap held_work e in omega (arith, z, recorded, y)
          ];
          lets = elim (held-got h m post.seats none) [
            | inl e ↦ subst (Lets m.message.my_ref) (sym e) tt
            | inr e ↦ subst (Lets m.message.my_ref) (sym e) refl
          ];
          back = λ q. let z : Recorded ≡ Acknowledge = sym same ∙ q in absurd cc;
          next = refl;
        }

    by_code : (c : EventCode) → m.code ≡ c →
        Took h m post (if is_recorded c then record post { queued = queue; seats = with_held h (Some m) post.seats }
        else without_block m (record post { queued = queue }))
    by_code User same = free (without_block m (record post { queued = queue })) refl refl refl
    by_code Recorded same = holding same
    by_code Acknowledge same = free (without_block m (record post { queued = queue })) refl refl refl

-- ---- a poll

-- nothing was held or queued for the task: the post is as it was
pub record IsIdle (h : ℕ) (post x : Post) : Type 0 where
  pub same : x ≡ post
  pub bare : held_by h post.seats ≡ None
  pub none : first_for h post.queued ≡ None

-- a message was taken; or what was held went back; or nothing was there
abbrev pub OfTaken : ℕ → Post → Post → Option Parcel → Type 0
OfTaken h post x (Some m) = Took h m post x
OfTaken h post x None = ((post_work x + 1 ≤ post_work post) × (x.next_ref ≡ post.next_ref)) ⊎ IsIdle h post x

pub polled-is : (h : ℕ) (post : Post) → OfTaken h post (post_poll h post).0 (post_poll h post).1
unfolding post_poll
polled-is h post = go (held_by h post.seats) refl
  where
    after : (held : Option Parcel) (between : Post) → IsBounced h held post between → (held ≡ None → between ≡ post) →
        held_by h post.seats ≡ held → (o : Option (Parcel × List Parcel)) → first_for h between.queued ≡ o →
        IfSome o (λ (t : Parcel × List Parcel). queue_work between.queued ≡ parcel_work t.0 + queue_work t.1) →
        OfTaken h post (taken_from h o between).0 (taken_from h o between).1
    after (Some p) between w same is None e cut = inl (w.work, w.next)
    after None between w same is None e cut = inr (record {
      same = same refl;
      bare = is;
      none = ap (λ (z : Post). first_for h z.queued) (sym (same refl)) ∙ e;
    })
    after held between w same is (Some t) e cut =
        let z = took-is h t.0 t.1 between cut w.none in
        let less = w.work in
        let more = z.work in
        record { work = omega (arith, less, more); room = z.room; lets = z.lets; back = z.back; next = z.next ∙ w.next }

    go : (held : Option Parcel) → held_by h post.seats ≡ held →
        OfTaken h post (taken_from h (first_for h (bounce_held h held post).queued) (bounce_held h held post)).0
        (taken_from h (first_for h (bounce_held h held post).queued) (bounce_held h held post)).1
    go held is = after held (bounce_held h held post) (bounced-is h held post is) (bare held) is _ refl
        (first-work h (bounce_held h held post).queued)
      where
        bare : (held : Option Parcel) → held ≡ None → bounce_held h held post ≡ post
        bare None e = refl
        bare (Some p) e = absurd (none_some None refl (sym e))
