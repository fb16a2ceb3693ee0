-- What records wait for while messages are sent, go back and are taken, and while tasks begin and end.
use Rattle.rh_laws.proofs.Common.{Bool, Has, List, None, Option, Some, [], ap, arith, eqb_tells, false, if◌then◌else◌, inl, inr, none_some, put_other, put_same}
use Rattle.rh_laws.proofs.Common.{refl, subst, sym, true, ℕ, ◌++◌, ◌<◌, ◌==◌, ◌∙◌, ◌∷◌, ◌≡◌, ◌≢◌, ◌⊎◌}
use Rattle.rh_safety.proofs.Basics.{Has-append, Has-left, Has-right, first_has, without_has}
use Rattle.rh_safety.proofs.Ends.{Code, In, Letter, Message, Out, Plain, Recorded, Returned, first_for, in_id, put, without_first}
use Rattle.rh_safety.proofs.Filings.{live_sent}
use Rattle.rh_safety.proofs.Invariant.{IsLive, Knows, Unread}
use Rattle.rh_safety.proofs.Polls.{put_one}
use Rattle.rh_safety.proofs.Posts.{OneMore, back_has, back_held_codes, back_held_has, bounced_codes, bounced_has, for_others_has, picked_known, unheld}
use Rattle.rh_safety.proofs.SeenPosts.{with_scrap}
use Rattle.rh_safety.proofs.Sends.{still_is}
use Rattle.rh_safety.proofs.Sight.{Desk, Scrap, back, back_held, back_if_recorded, bounced_for, for_others, killed, picked, returned, sent, started}
use Rattle.rh_laws.proofs.RefsApart.{Holds}
use Rattle.rh_laws.proofs.Wants.{Answered, Asks, Onward, Same, Tells, Unanswered, WaitsFor, Want, Was, file, part, peer_of, ref_of, reply, still-asks}
use Rattle.rh_laws.proofs.Wants.{still-told}

-- a desk that keeps a scrap file whose DataLoad is there
abbrev pub KeepsFile : Desk → Desk → Type 0
KeepsFile d e = (f : Scrap) → d.scrap ≡ Some f → IsLive e.queue e.held f.load → e.scrap ≡ Some f

same : {d e : Desk} {h : ℕ} → e.buf h ≡ d.buf h → e.file h ≡ d.file h → Same d e h
same r f = record { room = r; no_fetch = f }

-- ---- what goes back goes to its sender

back-to : (b : Bool) (m y : Message) → Has y (if b then record { code = Returned; to = m.letter.from; letter = m.letter } ∷ [] else []) → y.to ≡ y.letter.from
back-to true m y (inl e) = ap (λ (z : Message). z.to) (sym e) ∙ ap (λ (z : Message). z.letter.from) e
back-to true m y (inr never) = absurd never
back-to false m y never = absurd never

held-to : (live : ℕ → Bool) (o : Option Message) (y : Message) → Has y (back_held live o) → y.to ≡ y.letter.from
held-to live None y never = absurd never
held-to live (Some m) y has = back-to (live m.letter.from) m y has

bounced-to : (live : ℕ → Bool) (k : ℕ) (q : List Message) (y : Message) → Has y (bounced_for live k q) → y.to ≡ y.letter.from
bounced-to live k [] y never = absurd never
bounced-to live k (x ∷ q) y has = elim (eqb_tells x.to k) [
  | inl z ↦ elim (Has-append y (back_if_recorded live x x.code) (bounced_for live k q) (rw z.0 at has)) [
    | inl a ↦ one x.code a
    | inr a ↦ bounced-to live k q y a
  ]
  | inr z ↦ bounced-to live k q y (rw z.0 at has)
]
  where
    one : (c : _) → Has y (back_if_recorded live x c) → y.to ≡ y.letter.from
    one Plain never = absurd never
    one Recorded a = back-to (live x.letter.from) x y a
    one Returned never = absurd never

-- ---- a task lets go of what it holds

pub returned-on : (d : Desk) (k : ℕ) (m : Message) → d.held k ≡ Some m → (w : Want) → Onward d (returned d k (Some m)) w
returned-on d k m is w = record {
  queue = λ y has me. elim (Has-append y d.queue (back d.live m) has) [
    | inl a ↦ Was.in_queue y a refl
    | inr a ↦ let z = back_has (d.live m.letter.from) m y a in Was.back_hand k m is z.1 z.0 (back-to (d.live m.letter.from) m y a)
  ];
  held = λ j y e me. Was.in_hand j (unheld d k j y e);
}

pub returned-waits : {h : ℕ} {w : Want} (d : Desk) (k : ℕ) (o : Option Message) → d.held k ≡ o → d.live h ≡ true → WaitsFor d h w →
    WaitsFor (returned d k o) h w
returned-waits d k None is live x = x
returned-waits {h} {w} d k (Some m) is live x = elim x [
  | inl u ↦ inl (still-asks (same refl refl) (returned-on d k m is w) (now u u.live) u)
  | inr a ↦ inr (still-told (same refl refl) a (λ f s l. s) (Has-left a.answer d.queue (back d.live m) a.queued))
]
  where
    now : Unanswered d h w → IsLive d.queue d.held (ref_of w) → IsLive (d.queue ++ back d.live m) (put d.held k None) (ref_of w)
    now u (IsLive.waits y has s) = IsLive.waits y (Has-left y d.queue (back d.live m) has) s
    now u (IsLive.rests j y e s) = elim (eqb_tells j k) [
      | inl z ↦
          let one : Some m ≡ Some y = sym is ∙ ap d.held (sym z.1) ∙ e in
          let same : m ≡ y = cc in
          let from : m.letter.from ≡ h = ap (λ (n : Message). n.letter.from) same ∙ (u.held j y e s).from in
          let there : d.live m.letter.from ≡ true = ap d.live from ∙ live in
          let gone : Message = record { code = Returned; to = m.letter.from; letter = m.letter } in
          IsLive.waits gone (Has-right gone d.queue (back d.live m) (rw there (inl refl))) (ap (λ (n : Message). n.letter.me) same ∙ s)
      | inr z ↦ IsLive.rests j y (put_other d.held k None j z.1 ∙ e) s
    ]

-- ---- a message is taken

-- the message is for the record of task h: it answers, or is the record's own that came back
pub data For (d : Desk) (m : Message) (h : ℕ) (w : Want) : Type 0 where
  answer : Unread m → m.letter.from ≡ peer_of w → m.letter.answers ≡ ref_of w → Tells w (d.buf h) (d.file h) d.scrap m → For d m h w
  own_back : m.code ≡ Returned → m.letter.me ≡ ref_of w → Asks w (d.buf h) (d.file h) m.letter → For d m h w

-- the record waits on, whether or not the message is its own, or it is due
pub data Then (d : Desk) (m : Message) (h : ℕ) (w : Want) : Type 0 where
  asking : Unanswered d h w → (m.letter.me ≡ ref_of w → (m.code ≡ Recorded) ×
      ((m.letter.from ≡ h) × ((m.to ≡ peer_of w) × Asks w (d.buf h) (d.file h) m.letter)))
      → Then d m h w
  told : Answered d h w → Then d m h w
  due : m.to ≡ h → For d m h w → Then d m h w

pub has-without : (k : ℕ) (q : List Message) (m y : Message) → first_for k q ≡ Some m → Has y q → Has y (without_first k q) ⊎ (y ≡ m)
has-without k [] m y e never = absurd never
has-without k (x ∷ q) m y e has = elim (eqb_tells x.to k) [
  | inl z ↦
      let one : x ≡ m = let s = rw z.0 at e in cc in
      elim has as (λ _. Has y (without_first k (x ∷ q)) ⊎ (y ≡ m)) [ inl a ↦ inr (sym a ∙ one) | inr a ↦ inl (rw z.0 a) ]
  | inr z ↦ elim has as (λ _. Has y (without_first k (x ∷ q)) ⊎ (y ≡ m)) [
    | inl a ↦ inl (rw z.0 (inl a))
    | inr a ↦ elim (has-without k q m y (rw z.0 at e) a) as (λ _. Has y (without_first k (x ∷ q)) ⊎ (y ≡ m)) [
      | inl b ↦ inl (rw z.0 (inr b))
      | inr b ↦ inr b
    ]
  ]
]

-- what is held once the message was taken: one more at most
pub record Picks (d : Desk) (k : ℕ) (m : Message) (hd : ℕ → Option Message) : Type 0 where
  pub one : OneMore d.held hd m
  pub mine : Holds d k m hd
  pub kept : (j : ℕ) (y : Message) → d.held j ≡ Some y → hd j ≡ Some y
  pub got : m.code ≡ Recorded → (j : ℕ) × (hd j ≡ Some m)

-- the desk once the task took it, with any scrap file
abbrev pub left_by : Desk → ℕ → (ℕ → Option Message) → Option Scrap → Desk
left_by d k hd sc = record d { queue = without_first k d.queue; held = hd; scrap = sc }

pub picks : (d : Desk) (k : ℕ) (m : Message) (c : Code) → m.code ≡ c → d.held k ≡ None →
    (hd : ℕ → Option Message) × (Picks d k m hd × ((sc : Option Scrap) → with_scrap sc (picked d k m c) ≡ left_by d k hd sc))
picks d k m Plain code bare = (
  d.held,
  (
    record {
      one = λ j y is. inl is;
      mine = λ j y is. inl is;
      kept = λ j y is. is;
      got = λ r. absurd (let z : Plain ≡ Recorded = sym code ∙ r in (cc));
    },
    λ sc. refl,
  ),
)
picks d k m Returned code bare = (
  d.held,
  (
    record {
      one = λ j y is. inl is;
      mine = λ j y is. inl is;
      kept = λ j y is. is;
      got = λ r. absurd (let z : Returned ≡ Recorded = sym code ∙ r in (cc));
    },
    λ sc. refl,
  ),
)
picks d k m Recorded code bare = (
  put d.held k (Some m),
  (
    record {
      one = put_one d k m;
      mine = λ j y is. elim (eqb_tells j k) [
        | inl z ↦
            let one : Some m ≡ Some y = sym (put_same d.held k (Some m)) ∙ subst (λ i. put d.held k (Some m) i ≡ Some y) z.1 is in
            let same : m ≡ y = cc in inr (z.1, (same, λ r. let c : Recorded ≡ Returned = sym code ∙ r in (cc)))
        | inr z ↦ inl (sym (put_other d.held k (Some m) j z.1) ∙ is)
      ];
      kept = λ j y is. elim (eqb_tells j k) [
        | inl z ↦ absurd (none_some (d.held k) bare (ap d.held (sym z.1) ∙ is))
        | inr z ↦ put_other d.held k (Some m) j z.1 ∙ is
      ];
      got = λ r. (k, put_same d.held k (Some m));
    },
    λ sc. refl,
  ),
)

module _ (d : Desk) (k : ℕ) (m : Message) (first : first_for k d.queue ≡ Some m) (hd : ℕ → Option Message) (sc : Option Scrap) (x : Picks d k m hd) where
  here : Has m d.queue
  here = (first_has k d.queue m first).0

  abbrev e : Desk
  e = left_by d k hd sc

  pub picked-letters : (l : Letter) → Knows e l → Knows d l
  picked-letters l kn = picked_known d k m hd here x.one l kn

  pub picked-on : (w : Want) → Onward d e w
  picked-on w = record {
    queue = λ y has me. Was.in_queue y (without_has k d.queue y has) refl;
    held = λ j y is me. elim (x.one j y is) [ inl a ↦ Was.in_hand j a | inr a ↦ Was.in_queue m here (sym a) ];
  }

  pub picked-waits : {h : ℕ} {w : Want} → KeepsFile d e → WaitsFor d h w → Then e m h w
  picked-waits {h} {w} keeps (inl u) = elim (eqb_tells m.letter.me (ref_of w)) [
    | inl me ↦ let o = u.queue m here me.1 in elim o.way [
      | inl way ↦
          let j = x.got way.0 in
          let v = still-asks (same refl refl) (picked-on w) (IsLive.rests j.0 m j.1 me.1) u in
          asking v (λ s. (way.0, (o.from, (way.1, o.asks))))
      | inr way ↦ due way.1 (own_back way.0 me.1 o.asks)
    ]
    | inr me ↦ asking (still-asks (same refl refl) (picked-on w) (now me.1 u.live) u) (λ s. absurd (me.1 s))
  ]
    where
      now : m.letter.me ≢ ref_of w → IsLive d.queue d.held (ref_of w) → IsLive e.queue e.held (ref_of w)
      now ne (IsLive.waits y has s) = elim (has-without k d.queue m y first has) [
        | inl a ↦ IsLive.waits y a s
        | inr a ↦ absurd (ne (ap (λ (z : Message). z.letter.me) (sym a) ∙ s))
      ]
      now ne (IsLive.rests j y is s) = IsLive.rests j y (x.kept j y is) s
  picked-waits {h} {w} keeps (inr a) = elim (has-without k d.queue m a.answer first a.queued) [
    | inl has ↦ told (still-told (same refl refl) a (λ f z load. keeps f z (IsLive.waits a.answer has (sym load))) has)
    | inr is ↦ let me : m ≡ a.answer = sym is in
        due (ap (λ (z : Message). z.to) me ∙ a.to)
        (answer (subst Unread is a.unread) (ap (λ (z : Message). z.letter.from) me ∙ a.from) (ap (λ (z : Message). z.letter.answers) me ∙ a.answers)
        (by w (subst (Tells w (d.buf h) (d.file h) d.scrap) is a.tells)))
  ]
    where
      by : (y : Want) → Tells y (d.buf h) (d.file h) d.scrap m → Tells y (d.buf h) (d.file h) sc m
      by (part ref peer buffer) t = t
      by (file ref peer) t =
          let j = x.got t.1.0 in
          (t.0, (t.1.0, (t.1.1.0, (keeps t.1.1.0 t.1.1.1.0 (IsLive.rests j.0 m j.1 (sym t.1.1.1.1)), t.1.1.1.1))))
      by (reply ref peer) t = t

-- ---- a task ends

pub has-others : (k : ℕ) (q : List Message) (y : Message) → Has y q → y.to ≢ k → Has y (for_others k q)
has-others k [] y never ne = absurd never
has-others k (x ∷ q) y has ne = elim (eqb_tells x.to k) [
  | inl z ↦ elim has as (λ _. Has y (for_others k (x ∷ q))) [
    | inl a ↦ absurd (ne (ap (λ (n : Message). n.to) (sym a) ∙ z.1))
    | inr a ↦ rw z.0 (has-others k q y a ne)
  ]
  | inr z ↦ elim has as (λ _. Has y (for_others k (x ∷ q))) [ inl a ↦ rw z.0 (inl a) | inr a ↦ rw z.0 (inr (has-others k q y a ne)) ]
]

has-bounced : (live : ℕ → Bool) (k : ℕ) (q : List Message) (y : Message) → Has y q → y.to ≡ k → y.code ≡ Recorded → live y.letter.from ≡ true →
    Has (record { code = Returned; to = y.letter.from; letter = y.letter }) (bounced_for live k q)
has-bounced live k [] y never to code from = absurd never
has-bounced live k (x ∷ q) y (inl e) to code from =
    let here : (x.to == k) ≡ true = elim (eqb_tells x.to k) [ inl z ↦ z.0 | inr z ↦ absurd (z.1 (ap (λ (n : Message). n.to) e ∙ to)) ] in
    let c : x.code ≡ Recorded = ap (λ (n : Message). n.code) e ∙ code in
    let f : live x.letter.from ≡ true = ap (λ (n : Message). live n.letter.from) e ∙ from in
    rw (here, c, f) (inl (ap (λ (n : Message). record { code = Returned; to = n.letter.from; letter = n.letter }) e))
has-bounced live k (x ∷ q) y (inr has) to code from =
    let z = has-bounced live k q y has to code from in
    elim (eqb_tells x.to k) [ inl s ↦ rw s.0 (Has-right _ (back_if_recorded live x x.code) _ z) | inr s ↦ rw s.0 z ]

pub killed-on : (d : Desk) (k : ℕ) (sc : Option Scrap) (w : Want) → Onward d (with_scrap sc (killed d k)) w
killed-on d k sc w = record {
  queue = λ y has me. elim (Has-append y (for_others k d.queue) (back_held (put d.live k false) (d.held k) ++ bounced_for (put d.live k false) k d.queue) has) [
    | inl a ↦ Was.in_queue y (for_others_has k d.queue y a) refl
    | inr a ↦ elim (Has-append y (back_held (put d.live k false) (d.held k)) (bounced_for (put d.live k false) k d.queue) a) [
      | inl b ↦
          let z = back_held_has (put d.live k false) (d.held k) y b in
          Was.back_hand k z.0 z.1 (sym z.2) (back_held_codes (put d.live k false) (d.held k) y b) (held-to (put d.live k false) (d.held k) y b)
      | inr b ↦
          let z = bounced_has (put d.live k false) k d.queue y b in
          Was.back_queue z.old z.there (sym z.letter) (bounced_codes (put d.live k false) k d.queue y b) (bounced-to (put d.live k false) k d.queue y b)
    ]
  ];
  held = λ j y e me. Was.in_hand j (unheld d k j y e);
}

pub killed-waits : {h : ℕ} {w : Want} (d : Desk) (k : ℕ) (sc : Option Scrap) → h ≢ k → d.live h ≡ true → KeepsFile d (with_scrap sc (killed d k)) →
    WaitsFor d h w → WaitsFor (with_scrap sc (killed d k)) h w
killed-waits {h} {w} d k sc ne live keeps x = elim x [
  | inl u ↦ inl (still-asks s (killed-on d k sc w) (now u u.live) u)
  | inr a ↦
      let has = Has-left a.answer (for_others k d.queue) (back_held others (d.held k) ++ bounced_for others k d.queue)
      (has-others k d.queue a.answer a.queued (λ to. ne (sym a.to ∙ to))) in
      inr (still-told s a (λ f z load. keeps f z (IsLive.waits a.answer has (sym load))) has)
]
  where
    others : ℕ → Bool
    others = put d.live k false

    s : Same d (with_scrap sc (killed d k)) h
    s = same (put_other d.buf k 1 h ne) (put_other d.file k false h ne)

    -- its sender is another task, which is live
    from-live : (y : Message) → y.letter.from ≡ h → others y.letter.from ≡ true
    from-live y from = ap others from ∙ put_other d.live k false h ne ∙ live

    now : Unanswered d h w → IsLive d.queue d.held (ref_of w) → IsLive (killed d k).queue (killed d k).held (ref_of w)
    now u (IsLive.waits y has e) = elim (eqb_tells y.to k) [
      | inl z ↦ let o = u.queue y has e in elim o.way [
        | inl way ↦ IsLive.waits _ (Has-right _ (for_others k d.queue) _ (Has-right _ (back_held others (d.held k)) _
            (has-bounced others k d.queue y has z.1 way.0 (from-live y o.from)))) e
        | inr way ↦ absurd (ne (sym way.1 ∙ z.1))
      ]
      | inr z ↦ IsLive.waits y (Has-left y (for_others k d.queue) _ (has-others k d.queue y has z.1)) e
    ]
    now u (IsLive.rests j y is e) = elim (eqb_tells j k) [
      | inl z ↦
          let held : d.held k ≡ Some y = ap d.held (sym z.1) ∙ is in
          let from = from-live y (u.held j y is e).from in
          let gone : Message = record { code = Returned; to = y.letter.from; letter = y.letter } in
          let back : Has gone (back_held others (d.held k)) = rw (held, from) (inl refl) in
          IsLive.waits gone (Has-right gone (for_others k d.queue) _ (Has-left gone (back_held others (d.held k)) _ back)) e
      | inr z ↦ IsLive.rests j y (put_other d.held k None j z.1 ∙ is) e
    ]

-- ---- a task begins

pub started-on : (d : Desk) (buf : ℕ) (deaf no_fetch raw : Bool) (w : Want) → Onward d (started d buf deaf no_fetch raw) w
started-on d buf deaf no_fetch raw w = record {
  queue = λ y has me. Was.in_queue y has refl;
  held = λ j y is me. Was.in_hand j is;
}

pub started-waits : {h : ℕ} {w : Want} (d : Desk) (buf : ℕ) (deaf no_fetch raw : Bool) → h ≢ d.next_handle → WaitsFor d h w →
    WaitsFor (started d buf deaf no_fetch raw) h w
started-waits {h} {w} d buf deaf no_fetch raw ne x = elim x [
  | inl u ↦ inl (still-asks s (started-on d buf deaf no_fetch raw w) u.live u)
  | inr a ↦ inr (still-told s a (λ f e l. e) a.queued)
]
  where
    s : Same d (started d buf deaf no_fetch raw) h
    s = same (put_other d.buf d.next_handle buf h ne) (put_other d.file d.next_handle no_fetch h ne)

-- ---- records are others, and a letter is sent, or not

-- the desk after it
abbrev pub posted : Desk → ℕ → Option Message → Desk
posted d k None = d
posted d k (Some l) = sent d k l

-- the id is an old one, or the one that the letter answers
abbrev pub OldId : Desk → Option Message → ℕ → Type 0
OldId d l i =
    ((s : ℕ) × ((u : In) × (Has u (d.taking s) × (in_id u ≡ i)))) ⊎ ((m : Message) × ((l ≡ Some m) × (i ≡ m.letter.answers)))

abbrev pub OldIds : Desk → (ℕ → List In) → Option Message → Type 0
OldIds d tk l = (r : ℕ) (v : In) → Has v (tk r) → OldId d l (in_id v)

module _ (d : Desk) (k : ℕ) (sd : ℕ → List Out) (tk : ℕ → List In) (bl hp : ℕ → ℕ → Option (List ℕ)) (sc : Option Scrap) where
  abbrev pub after : Option Message → Desk
  after l = record (posted d k l) { sending = sd; taking = tk; block = bl; heap = hp; scrap = sc }

  pub quiet-asks : {h : ℕ} {w : Want} → Unanswered d h w → Unanswered (after None) h w
  quiet-asks u = still-asks (same refl refl) (record {
    queue = λ y has me. Was.in_queue y has refl;
    held = λ j y is me. Was.in_hand j is;
  }) u.live u

  pub quiet-told : {h : ℕ} {w : Want} → (a : Answered d h w) → ((f : Scrap) → d.scrap ≡ Some f → f.load ≡ a.answer.letter.me → sc ≡ Some f) →
      Answered (after None) h w
  quiet-told a keeps = still-told (same refl refl) a keeps a.queued

  module _ (l : Message) (from : l.letter.from ≡ k) where
    pub sent-told : {h : ℕ} {w : Want} → (a : Answered d h w) → ((f : Scrap) → d.scrap ≡ Some f → f.load ≡ a.answer.letter.me → sc ≡ Some f) →
        Answered (after (Some l)) h w
    sent-told a keeps = still-told (same refl refl) a keeps (Has-left a.answer d.queue (l ∷ []) a.queued)

    -- the letter is new, and answers another ref
    pub sent-asks : {h : ℕ} {w : Want} → l.letter.me ≡ d.next_ref → ref_of w < d.next_ref → l.letter.answers ≢ ref_of w →
        Unanswered d h w → Unanswered (after (Some l)) h w
    sent-asks me below ne u = still-asks (same refl refl) (record {
      queue = λ y has e. elim (Has-append y d.queue (l ∷ []) has) [
        | inl a ↦ Was.in_queue y a refl
        | inr a ↦ elim a [ inl b ↦ absurd (let z = ap (λ (n : Message). n.letter.me) b in omega (arith, z, e, me, below)) | inr b ↦ absurd b ]
      ];
      held = λ j y is e. Was.in_hand j (still_is d k l.letter.answers j y is);
    }) (live_sent k l ne u.live) u
