-- What holds of each live message holds of what a poll, an answer or a task's end leaves; and a message stays live while others
-- are sent.
use Rattle.rh_laws.proofs.Common.{◌≡◌, ◌≢◌, ℕ, ◌++◌, ◌||◌, Bool, true, false, cond, not, List, [], ◌∷◌, Option, Some, None, refl, sym, ap}
use Rattle.rh_laws.proofs.Common.{◌∙◌, inl, inr, ◌==◌, filter, list_any, IfSome, AllByRecursion, eqb_tells, eq-eqb, Parcel, Post, Seat, Heap}
use Rattle.rh_laws.proofs.Common.{as_returned, bounce_held, first_for, has_seat, held_by, post_join, post_poll, taken_from, chosen, append-all, Letter}
use Rattle.std.proofs.lemmas.List.Folds.{list_any-append}
use Rattle.rh_defs.specs.declared.message.Message.{Message}
use Rattle.rh_defs.specs.Messages.{is_recorded}
use Rattle.rh_defs.specs.Post.{behind_first, bounce_all, bounced, holds_such, message_of, with_held, without_block, answers_held, parcel_of, put_down}
use Rattle.rh_defs.specs.Post.{posted, queued_in}
unfoldable use Rattle.rh_defs.specs.Post.{post_death, post_is_live}
use Rattle.rh_defs.proofs.Lists.{filter-all}
use Rattle.rh_laws.proofs.Queues.{with_held-all}

-- ---- what holds of each message

module _ (Q : Message → Type 0) where
  abbrev pub OfParcel : Parcel → Type 0
  OfParcel p = Q p.message

  abbrev pub OfSeat : Seat → Type 0
  OfSeat s = IfSome s.holds OfParcel

  -- so it is of each message that is queued or held
  pub record EachMail (post : Post) : Type 0 where
    pub queued : AllByRecursion OfParcel post.queued
    pub held : AllByRecursion OfSeat post.seats

  hand-mail : (h : ℕ) (o : Option Parcel) → IfSome o OfParcel → (ss : List Seat) → AllByRecursion OfSeat ss → AllByRecursion OfSeat (with_held h o ss)
  hand-mail h o q ss all = with_held-all OfSeat h o (λ s e. q) ss all

  pub held-mail : (h : ℕ) (ss : List Seat) → AllByRecursion OfSeat ss → IfSome (held_by h ss) OfParcel
  held-mail h [] all = tt
  held-mail h (s ∷ ss) all = elim (eqb_tells s.handle h) [ inl w ↦ rw w.0 all.0 | inr w ↦ rw w.0 (held-mail h ss all.1) ]

  bounced-mail : (p : Parcel) (post : Post) → OfParcel p → EachMail post → EachMail (bounced p post)
  bounced-mail p post q m =
      chosen EachMail (has_seat p.message.from post.seats) _ (without_block p post)
      (record { queued = append-all OfParcel post.queued (as_returned p) m.queued q; held = m.held })
      (record { queued = m.queued; held = m.held })

  bounce_held-mail : (h : ℕ) (o : Option Parcel) (post : Post) → IfSome o OfParcel → EachMail post → EachMail (bounce_held h o post)
  bounce_held-mail h None post q m = m
  bounce_held-mail h (Some p) post q m =
      bounced-mail p (record post { seats = with_held h None post.seats }) q
      (record { queued = m.queued; held = hand-mail h None tt post.seats m.held })

  bounce_all-mail : (ps : List Parcel) (post : Post) → AllByRecursion OfParcel ps → EachMail post → EachMail (bounce_all ps post)
  bounce_all-mail [] post all m = m
  bounce_all-mail (p ∷ ps) post all m =
      bounce_all-mail ps _ all.1 (chosen EachMail (is_recorded p.code) (bounced p post) (without_block p post)
      (bounced-mail p post all.0 m) (record { queued = m.queued; held = m.held }))

  -- the first message for a handle, and the others
  abbrev OfCut : Parcel × List Parcel → Type 0
  OfCut t = OfParcel t.0 × AllByRecursion OfParcel t.1

  first-mail : (h : ℕ) (ps : List Parcel) → AllByRecursion OfParcel ps → IfSome (first_for h ps) OfCut
  first-mail h [] all = tt
  first-mail h (p ∷ ps) all = elim (eqb_tells p.to h) [
    | inl w ↦ rw w.0 all
    | inr w ↦ rw w.0 (behind (first_for h ps) (first-mail h ps all.1))
  ]
    where
      behind : (o : Option (Parcel × List Parcel)) → IfSome o OfCut → IfSome (behind_first p o) OfCut
      behind None is = tt
      behind (Some t) is = (is.0, (all.0, is.1))

  taken-mail : (h : ℕ) (o : Option (Parcel × List Parcel)) (post : Post) → IfSome o OfCut → EachMail post →
      EachMail (taken_from h o post).0 × IfSome (taken_from h o post).1 OfParcel
  taken-mail h None post cut m = (m, tt)
  taken-mail h (Some t) post cut m = (
    chosen EachMail (is_recorded t.0.code) _ _ (record { queued = cut.1; held = hand-mail h (Some t.0) cut.0 post.seats m.held })
        (record { queued = cut.1; held = m.held }),
    cut.0,
  )

  -- after a poll, and of the message that it takes
  pub poll-mail : (h : ℕ) (post : Post) → EachMail post → EachMail (post_poll h post).0 × IfSome (post_poll h post).1 OfParcel
  unfolding post_poll
  poll-mail h post m =
      let between : Post = bounce_held h (held_by h post.seats) post in
      let z = bounce_held-mail h (held_by h post.seats) post (held-mail h post.seats m.held) m in
      taken-mail h (first_for h between.queued) between (first-mail h between.queued z.queued) z

  pub death-mail : (h : ℕ) (post : Post) → EachMail post → EachMail (post_death h post)
  unfolding post_death
  death-mail h post m =
      let own : List Parcel = filter (λ (p : Parcel). p.to == h) post.queued in
      let rest : Post = record post {
        seats = filter (λ (s : Seat). not (s.handle == h)) post.seats;
        queued = filter (λ (p : Parcel). not (p.to == h)) post.queued;
      } in
      bounce_all-mail own (bounce_held h (held_by h post.seats) rest) (filter-all OfParcel (λ (p : Parcel). p.to == h) post.queued m.queued)
      (bounce_held-mail h (held_by h post.seats) rest (held-mail h post.seats m.held) (record {
        queued = filter-all OfParcel (λ (p : Parcel). not (p.to == h)) post.queued m.queued;
        held = filter-all OfSeat (λ (s : Seat). not (s.handle == h)) post.seats m.held;
      }))

  pub put_down-mail : (h : ℕ) (post : Post) → EachMail post → EachMail (put_down h post)
  put_down-mail h post m = record { queued = m.queued; held = hand-mail h None tt post.seats m.held }

  pub join-mail : (h : ℕ) (post : Post) → EachMail post → EachMail (post_join h post)
  unfolding post_join
  join-mail h post m = record { queued = m.queued; held = append-all OfSeat post.seats (record { handle = h; holds = None }) m.held tt }

  queued_in-mail : (l : Letter) (there : Heap × ℕ) (post : Post) → Q (message_of l post.next_ref) → EachMail post → EachMail (queued_in l there post)
  queued_in-mail l there post q m = record {
    queued = append-all OfParcel post.queued (parcel_of l post.next_ref there.1) m.queued q;
    held = m.held;
  }

  pub posted-mail : (l : Letter) (there : Heap × ℕ) (post : Post) → Q (message_of l post.next_ref) → EachMail post → EachMail (posted l there post)
  posted-mail l there post q m =
      let z = queued_in-mail l there post q m in
      chosen EachMail (answers_held l.your_ref (held_by l.from post.seats)) (put_down l.from (queued_in l there post)) (queued_in l there post)
      (put_down-mail l.from (queued_in l there post) z) z

-- what holds of each message, where something else does
pub mail-as : (P Q : Message → Type 0) → ((m : Message) → P m → Q m) → (post : Post) → EachMail P post → EachMail Q post
mail-as P Q keeps post m = record { queued = queue post.queued m.queued; held = hands post.seats m.held }
  where
    queue : (ps : List Parcel) → AllByRecursion (OfParcel P) ps → AllByRecursion (OfParcel Q) ps
    queue [] all = tt
    queue (p ∷ ps) all = (keeps p.message all.0, queue ps all.1)

    hand : (o : Option Parcel) → IfSome o (OfParcel P) → IfSome o (OfParcel Q)
    hand None q = tt
    hand (Some p) q = keeps p.message q

    hands : (ss : List Seat) → AllByRecursion (OfSeat P) ss → AllByRecursion (OfSeat Q) ss
    hands [] all = tt
    hands (s ∷ ss) all = (hand s.holds all.0, hands ss all.1)

-- ---- a message that stays live

abbrev has_ref : ℕ → Parcel → Bool
has_ref n p = p.message.my_ref == n

abbrev in_hand : ℕ → Seat → Bool
in_hand n s = holds_such (has_ref n) s.holds

or-left : (a b : Bool) → a ≡ true → (a || b) ≡ true
or-left a b e = rw e refl

-- what a task lets go of has another ref
let-go : (n ref h : ℕ) → ref ≢ n → (ss : List Seat) → answers_held ref (held_by h ss) ≡ true → list_any (in_hand n) ss ≡ true →
    list_any (in_hand n) (with_held h None ss) ≡ true
let-go n ref h ne [] ans live = live
let-go n ref h ne (s ∷ ss) ans live = elim (eqb_tells s.handle h) [
  | inl w ↦ rw w.0 (other s.holds (rw w.0 at ans) live)
  | inr w ↦ rw w.0 (rest (in_hand n s) (let-go n ref h ne ss (rw w.0 at ans)) live)
]
  where
    other : (o : Option Parcel) → answers_held ref o ≡ true → (holds_such (has_ref n) o || list_any (in_hand n) ss) ≡ true → list_any (in_hand n) ss ≡ true
    other None a q = q
    other (Some p) a q = elim (eqb_tells p.message.my_ref n) [
      | inl e ↦ elim (eqb_tells p.message.my_ref ref) [
        | inl f ↦ absurd (ne (sym f.1 ∙ e.1))
        | inr f ↦ absurd (let z : false ≡ true = sym f.0 ∙ a in (cc))
      ]
      | inr e ↦ rw e.0 at q
    ]

    rest : (b : Bool) → (list_any (in_hand n) ss ≡ true → list_any (in_hand n) (with_held h None ss) ≡ true) → (b || list_any (in_hand n) ss) ≡ true →
        (b || list_any (in_hand n) (with_held h None ss)) ≡ true
    rest true go q = refl
    rest false go q = go q

-- with one message more in the queue
more-live : (n : ℕ) (l : Letter) (there : Heap × ℕ) (post : Post) → post_is_live n post ≡ true → post_is_live n (queued_in l there post) ≡ true
unfolding post_is_live
more-live n l there post live =
    rw (list_any-append (has_ref n) post.queued (parcel_of l post.next_ref there.1 ∷ [])) (by (list_any (has_ref n) post.queued) live)
  where
    by : (b : Bool) → (b || list_any (in_hand n) post.seats) ≡ true →
        ((b || list_any (has_ref n) (parcel_of l post.next_ref there.1 ∷ [])) || list_any (in_hand n) post.seats) ≡ true
    by true q = refl
    by false q = elim (list_any (has_ref n) (parcel_of l post.next_ref there.1 ∷ [])) as (λ c. (c || list_any (in_hand n) post.seats) ≡ true)
        [ true ↦ refl | false ↦ q ]

put_down-live : (n ref h : ℕ) (post : Post) → ref ≢ n → answers_held ref (held_by h post.seats) ≡ true → post_is_live n post ≡ true →
    post_is_live n (put_down h post) ≡ true
unfolding post_is_live
put_down-live n ref h post ne ans live = by (list_any (has_ref n) post.queued) live
  where
    by : (b : Bool) → (b || list_any (in_hand n) post.seats) ≡ true → (b || list_any (in_hand n) (with_held h None post.seats)) ≡ true
    by true q = refl
    by false q = let-go n ref h ne post.seats ans q

-- a letter that doesn't answer it is sent
pub posted-live : (n : ℕ) (l : Letter) (there : Heap × ℕ) (post : Post) → l.your_ref ≢ n → post_is_live n post ≡ true →
    post_is_live n (posted l there post) ≡ true
posted-live n l there post ne live = by (answers_held l.your_ref (held_by l.from post.seats)) refl
  where
    more : post_is_live n (queued_in l there post) ≡ true
    more = more-live n l there post live

    by : (b : Bool) → answers_held l.your_ref (held_by l.from post.seats) ≡ b →
        post_is_live n (cond b (put_down l.from (queued_in l there post)) (queued_in l there post)) ≡ true
    by true e = put_down-live n l.your_ref l.from (queued_in l there post) ne e more
    by false e = more

-- the letter itself is live then
pub own-live : (l : Letter) (there : Heap × ℕ) (post : Post) → post_is_live post.next_ref (posted l there post) ≡ true
unfolding post_is_live
own-live l there post =
    let p : Parcel = parcel_of l post.next_ref there.1 in
    let here : list_any (has_ref post.next_ref) (post.queued ++ p ∷ []) ≡ true =
    list_any-append (has_ref post.next_ref) post.queued (p ∷ []) ∙ last (list_any (has_ref post.next_ref) post.queued) in
    chosen (λ (x : Post). (list_any (has_ref post.next_ref) x.queued || list_any (in_hand post.next_ref) x.seats) ≡ true)
    (answers_held l.your_ref (held_by l.from post.seats)) (put_down l.from (queued_in l there post)) (queued_in l there post)
    (or-left _ _ here) (or-left _ _ here)
  where
    last : (b : Bool) → (b || list_any (has_ref post.next_ref) (parcel_of l post.next_ref there.1 ∷ [])) ≡ true
    last true = refl
    last false = let e : (post.next_ref == post.next_ref) ≡ true = eq-eqb _ _ refl in rw e refl

-- a new handle holds nothing
pub join-live : (n h : ℕ) (post : Post) → post_is_live n post ≡ true → post_is_live n (post_join h post) ≡ true
unfolding post_is_live post_join
join-live n h post live =
    rw (list_any-append (in_hand n) post.seats (record { handle = h; holds = None } ∷ []))
    (by (list_any (has_ref n) post.queued) (list_any (in_hand n) post.seats) live)
  where
    by : (b c : Bool) → (b || c) ≡ true → (b || (c || false)) ≡ true
    by true c q = refl
    by false true q = refl
    by false false q = q

-- nothing is live where nothing is queued or held
pub none-live : (n : ℕ) (post : Post) → post.queued ≡ [] → AllByRecursion (λ (s : Seat). s.holds ≡ None) post.seats → post_is_live n post ≡ false
unfolding post_is_live
none-live n post empty free = ap (λ ps. list_any (has_ref n) ps || list_any (in_hand n) post.seats) empty ∙ none post.seats free
  where
    none : (ss : List Seat) → AllByRecursion (λ (s : Seat). s.holds ≡ None) ss → list_any (in_hand n) ss ≡ false
    none [] all = refl
    none (s ∷ ss) all = let e : s.holds ≡ None = all.0 in rw e (none ss all.1)
