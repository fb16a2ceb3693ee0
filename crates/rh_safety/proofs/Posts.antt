-- Repeats, bounces, deaths and new tasks keep the invariant.
use Rattle.rh_safety.proofs.Common.{◌≡◌, ◌≢◌, ℕ, ◌+◌, ◌<◌, Bool, true, false, List, [], ◌∷◌, ◌++◌, Option, Some, None, refl, sym, ap, ◌∙◌, subst, ◌⊎◌, inl}
use Rattle.rh_safety.proofs.Common.{inr, arith, if◌then◌else◌, eqb_tells, Code, Plain, Recorded, Letter, Message, Sending, Taking, Out, Open, In, Fetching}
use Rattle.rh_safety.proofs.Common.{Draining, out_id, in_id, in_anchor, Has, Active, put, without_first, first_for, sent, put_all, put_same, put_other}
use Rattle.rh_safety.proofs.Common.{none_some, Offered, queued, kept, latest, Knows, Unread, Order, Inv, LiveFile, known_by, IsWaiting, PendingAt, Good}
use Rattle.rh_safety.proofs.Common.{LetterCarries, HasBuffer}
use Rattle.rh_safety.proofs.Ends.{Returned}
use Rattle.rh_safety.proofs.Sight.{Desk, again, back, returned, for_others, back_if_recorded, bounced_for, back_held, killed, started}
use Rattle.rh_safety.proofs.Basics.{Has-append, without_has, pair_append}
use Rattle.rh_safety.proofs.Invariant.{Known, Offers, Rises, Waits}
use Rattle.rh_safety.proofs.Filings.{filed_fewer, filed_less, filed_sent}
use Rattle.rh_safety.proofs.Moves.{loads_other, loads_fewer, loads_less, letters_more, outs_more, ins_more, boths_more, letters_fewer, outs_fewer, ins_fewer}
use Rattle.rh_safety.proofs.Moves.{boths_fewer, letters_bump, outs_bump, ins_bump, at_put, none_left, outs_less, ins_less, boths_less}
use Rattle.rh_safety.proofs.Sends.{few_put, sent_knows, order_send, queue_below, put_ascends, waits_sent, waits_kept, Pending}

-- ---- repeats

pub copy_inv : {o : Offered} {e : ℕ → ℕ → Bool} {d : Desk} (h : ℕ) (m : Message) → m.letter.from ≡ h →
    Knows d m.letter → Offers o (again m d.next_ref).letter → Inv o e d → Inv o e (sent d h (again m d.next_ref))
copy_inv {o} {e} {d} h m own k of i =
    let n = again m d.next_ref in
    let b = i.letters.below m.letter k in
    record {
      letters = letters_more n.letter (sent_knows d h n own) (record {
        me = omega arith;
        answers = let u =
            b.answers in omega arith;
        from = b.from;
      }) of (letters_bump (omega arith) (omega arith) i.letters);
      outs = outs_more n.letter (sent_knows d h n own)
          (λ s x q. let w = i.outs.source s x q in record {
            owner = λ c. absurd (let u = w.below in omega arith);
            same_id = λ c f. absurd (let u = w.below in omega arith);
          })
          (outs_bump (omega arith) i.outs);
      ins = ins_more n.letter (sent_knows d h n own)
          (λ r t q. let w = i.ins.buffer r t q in record {
            owner = λ c. absurd (let u = w.below in omega arith);
            names = λ c f. absurd (let u = w.below in omega arith);
          })
          (λ r t q. record {
            carries = λ a c g. let z = (i.ins.carries m.letter k r t q).carries a c g in
                record {
                  all = z.all;
                  bytes = z.bytes;
                  offered = z.offered;
                  there = z.there;
                  same = z.same;
                  fits = z.fits;
                  short = z.short;
                };
          })
          (ins_bump (omega arith) i.ins);
      boths = boths_more n.letter (sent_knows d h n own)
          (λ s x q r t u. record { older = λ a c g y. (i.boths.older m.letter k s x q r t u).older a c g y })
          (λ s x q r t u. let w = i.outs.source s x q in record {
            same_id = λ a c g y. absurd (let z = w.below in omega arith);
            ahead = λ a c g y. absurd (let z = w.below in omega arith);
          }) i.boths;
      loads = loads_other n.letter (sent_knows d h n own) refl i.loads;
      files = filed_sent h n (sent_knows d h n own) refl i.loads.load_below (λ f u. (i.files f u).unanswered m.letter k) i.files;
      few = i.few;
      order = order_send n refl (queue_below i) i.order;
      alive = i.alive;
      positive = omega arith;
    }

pub copy_pending : {o : Offered} {e : ℕ → ℕ → Bool} {d : Desk} (h : ℕ) (m : Message) → m.letter.from ≡ h →
    Knows d m.letter → Inv o e d → Pending d → Pending (sent d h (again m d.next_ref))
copy_pending {o} {e} {d} h m own km i p s x q l k =
    let n = again m d.next_ref in
    let other = λ (j : ℕ) (u : Taking) (act : Active (d.taking j) u). let z : d.next_ref ≢ u.fetch = λ eq. let w =
    i.ins.buffer j u act in let b = w.below in omega arith in z in
    elim (sent_knows d h n own l k.known) [
      | inl a ↦ waits_sent d h n s l x (d.taking l.from) (d.buf l.from) (other l.from)
          (p s x q l (known_by k a))
      | inr a ↦ subst (λ z. Waits (sent d h n).queue (sent d h n).held s z x (d.taking z.from) (d.buf z.from)) (sym a)
          (let from : l.from ≡ m.letter.from = ap (λ (z : Letter). z.from) a in
          let w = waits_sent d h n s m.letter x (d.taking m.letter.from) (d.buf m.letter.from) (other m.letter.from)
          (p s x q m.letter (record {
            known = km;
            kind = ap (λ (z : Letter). z.kind) (sym a) ∙ k.kind;
            answers = ap (λ (z : Letter). z.answers) (sym a) ∙ k.answers;
            from = sym from ∙ k.from;
            live = ap d.live (sym from) ∙ k.live;
            fetches = k.fetches;
          })) in
          record {
            taking = w.taking;
            is_active = w.is_active;
            same_id = w.same_id;
            sender = w.sender;
            names = w.names;
            amount = w.amount;
            newer = w.newer;
            level = w.level;
            unread = λ y has r. let u = w.unread y has r in record {
              code = u.code;
              to = u.to;
              from = u.from;
              kind = u.kind;
              answers = u.answers;
            };
            free = w.free;
          })
    ]

-- ---- the queue

pub order_queue : {q : List Message} {sending : ℕ → List Out} {taking : ℕ → List In} {next : ℕ} (p : List Message) →
    Rises p → ((y : Message) → Has y p → Unread y → Has y q) → Order q sending taking next →
    Order p sending taking next
order_queue p up f i = record {
  rises = up;
  above = λ r w m a has un to. i.above r w m a (f m has un) un to;
  outs = i.outs;
  ins = i.ins;
  out_below = i.out_below;
  in_below = i.in_below;
}

rises_back : (ys : List Message) → ((y : Message) → Has y ys → y.code ≡ Returned) → Rises ys
rises_back [] f = tt
rises_back (y ∷ ys) f = (λ z h u v. absurd (u (f y (inl refl))), rises_back ys (λ z h. f z (inr h)))

rises_with : (q ys : List Message) → ((y : Message) → Has y ys → y.code ≡ Returned) → Rises q → Rises (q ++ ys)
rises_with q ys f up = pair_append (λ a b. Unread a → Unread b → a.letter.me < b.letter.me) q ys up (rises_back ys f)
    (λ x y h k u v. absurd (v (f y k)))

unread_with : (q ys : List Message) → ((y : Message) → Has y ys → y.code ≡ Returned) → (y : Message) →
    Has y (q ++ ys) → Unread y → Has y q
unread_with q ys f y h u = elim (Has-append y q ys h) [ inl a ↦ a | inr a ↦ absurd (u (f y a)) ]

rises_without : (h : ℕ) (q : List Message) → Rises q → Rises (without_first h q)
rises_without h [] up = up
rises_without h (x ∷ q) up = elim (eqb_tells x.to h) [
  | inl w ↦ rw w.0 up.1
  | inr w ↦ rw w.0 (
    λ y k.
        up.0 y (without_has h q y k),
    rises_without h q up.1,
  )
]

-- what is left after the first message for h, of those for h, is newer
pub first_below : (h : ℕ) (q : List Message) (m : Message) → first_for h q ≡ Some m → Rises q → (y : Message) →
    Has y (without_first h q) → y.to ≡ h → Unread m → Unread y → m.letter.me < y.letter.me
first_below h [] m e up y k to u v = absurd k
first_below h (x ∷ q) m e up y k to u v =
    elim (eqb_tells x.to h) [
      | inl w ↦
          let s : x ≡ m = let z = rw w.0 at e in cc in
          let has : Has y q = rw w.0 at k in
          subst (λ (z : Message). z.letter.me < y.letter.me) s (up.0 y has (subst (λ (z : Message). Unread z) (sym s)
          u) v)
      | inr w ↦ elim (let z : Has y (x ∷ without_first h q) = rw w.0 at k in z) [
        | inl s ↦ absurd (w.1 (ap (λ (z : Message). z.to) s ∙ to))
        | inr r ↦ first_below h q m (rw w.0 at e) up.1 y r to u v
      ]
    ]

-- fewer letters are known
pub fewer_inv : {o : Offered} {e : ℕ → ℕ → Bool} {d : Desk} (q : List Message) (hd la : ℕ → Option Message) →
    ((l : Letter) → Known q hd la l → Knows d l) → Rises q → ((y : Message) → Has y q → Unread y → Has y d.queue) →
    LiveFile (record d { queue = q; held = hd; last = la }) → Inv o e d → Inv o e (record d { queue = q; held = hd; last = la })
fewer_inv q hd la f up un live i = record {
  letters = letters_fewer f i.letters;
  outs = outs_fewer f i.outs;
  ins = ins_fewer f i.ins;
  boths = boths_fewer f i.boths;
  loads = loads_fewer f i.loads;
  files = filed_fewer f live i.files;
  few = i.few;
  order = order_queue q up un i.order;
  alive = i.alive;
  positive = i.positive;
}

-- ---- bounces at a poll

pub back_has : (b : Bool) (m y : Message) → Has y (if b then record {
  code = Returned;
  to = m.letter.from;
  letter = m.letter;
} ∷ [] else []) → (y.code ≡ Returned) × (y.letter ≡ m.letter)
back_has true m y (inl a) = (ap (λ (z : Message). z.code) (sym a), ap (λ (z : Message). z.letter) (sym a))
back_has true m y (inr a) = absurd a
back_has false m y a = absurd a

pub unheld : (d : Desk) (h k : ℕ) (y : Message) → put d.held h None k ≡ Some y → d.held k ≡ Some y
unheld d h k y = put_all (λ j z. z ≡ Some y → d.held j ≡ Some y) d.held h None (λ q. absurd (none_some None refl q))
    (λ j ne q. q) k

pub returned_known : (d : Desk) (h : ℕ) (m : Message) → d.held h ≡ Some m → (l : Letter) →
    Knows (returned d h (Some m)) l → Knows d l
returned_known d h m is l (queued y has eq) =
    elim (Has-append y d.queue (back d.live m) has) [
      | inl a ↦ queued y a eq
      | inr a ↦ kept h m is (sym (back_has (d.live m.letter.from) m y a).1 ∙ eq)
    ]
returned_known d h m is l (kept k y q eq) = kept k y (unheld d h k y q) eq
returned_known d h m is l (latest k y q eq) = latest k y q eq

back_codes : (d : Desk) (m y : Message) → Has y (back d.live m) → y.code ≡ Returned
back_codes d m y a = (back_has (d.live m.letter.from) m y a).0

pub returned_inv : {o : Offered} {e : ℕ → ℕ → Bool} {d : Desk} (h : ℕ) (m : Option Message) → d.held h ≡ m →
    LiveFile (returned d h m) → Inv o e d → Inv o e (returned d h m)
returned_inv h None is live i = i
returned_inv {o} {e} {d} h (Some m) is live i =
    fewer_inv (d.queue ++ back d.live m) (put d.held h None) d.last (returned_known d h m is) (rises_with d.queue
    (back d.live m) (back_codes d m) i.order.rises) (unread_with d.queue (back d.live m) (back_codes d m)) live i

-- fewer messages queued and held
pub waits_fewer : {q : List Message} {held : ℕ → Option Message} {s : ℕ} {l : Letter} {x : Sending} {ws : List In}
    {buf : ℕ} (p : List Message) (hd : ℕ → Option Message) →
    (w : Waits q held s l x ws buf) → ((y : Message) → Has y p → y.letter.me ≡ w.taking.fetch → IsWaiting y s l) →
    ((k : ℕ) (y : Message) → hd k ≡ Some y → y.letter.me ≢ w.taking.fetch) → Waits p hd s l x ws buf
waits_fewer p hd w f g = record {
  taking = w.taking;
  is_active = w.is_active;
  same_id = w.same_id;
  sender = w.sender;
  names = w.names;
  amount = w.amount;
  newer = w.newer;
  level = w.level;
  unread = f;
  free = g;
}

pub returned_pending : (d : Desk) (h : ℕ) (m : Option Message) → d.held h ≡ m → Pending d → Pending (returned d h m)
returned_pending d h None is p s x q l k = p s x q l k
returned_pending d h (Some m) is p s x q l k =
    let w = p s x q l (known_by k (returned_known d h m is l k.known)) in
    waits_fewer (d.queue ++ back d.live m) (put d.held h None) w
    (λ y has r. elim (Has-append y d.queue (back d.live m) has) [
      | inl a ↦ w.unread y a r
      | inr a ↦ absurd (w.free h m is (ap (λ (z : Letter). z.me) (sym (back_has (d.live m.letter.from) m y a).1) ∙ r))
    ])
    (λ b y r. w.free b y (unheld d h b y r))

pub returned_good : {o : Offered} {e : ℕ → ℕ → Bool} {d : Desk} (h : ℕ) (m : Option Message) → d.held h ≡ m →
    LiveFile (returned d h m) → Good o e d → Good o e (returned d h m)
returned_good h None is live g = g
returned_good {o} {e} {d} h (Some m) is live g = record {
  inv = returned_inv h (Some m) is live g.inv;
  pending = returned_pending d h (Some m) is g.pending;
  born = g.born;
}

-- ---- a message is taken from the queue

abbrev pub OneMore : (ℕ → Option Message) → (ℕ → Option Message) → Message → Type 0
OneMore held hd m = (k : ℕ) (y : Message) → hd k ≡ Some y → (held k ≡ Some y) ⊎ (m ≡ y)

pub picked_known : (d : Desk) (h : ℕ) (m : Message) (hd : ℕ → Option Message) → Has m d.queue → OneMore d.held hd m →
    (l : Letter) → Known (without_first h d.queue) hd d.last l → Knows d l
picked_known d h m hd here one l (queued y has eq) = queued y (without_has h d.queue y has) eq
picked_known d h m hd here one l (kept k y q eq) = elim (one k y q) [
  | inl a ↦ kept k y a eq
  | inr a ↦ queued m here
      (ap (λ (z : Message). z.letter) a ∙ eq)
]
picked_known d h m hd here one l (latest k y q eq) = latest k y q eq

pub picked_inv : {o : Offered} {e : ℕ → ℕ → Bool} {d : Desk} (h : ℕ) (m : Message) (hd : ℕ → Option Message) →
    Has m d.queue → OneMore d.held hd m → LiveFile (record d { queue = without_first h d.queue; held = hd }) → Inv o e d →
    Inv o e (record d { queue = without_first h d.queue; held = hd })
picked_inv {o} {e} {d} h m hd here one live i =
    fewer_inv (without_first h d.queue) hd d.last (picked_known d h m hd here one) (rises_without h d.queue
    i.order.rises) (λ y has u. without_has h d.queue y has) live i

-- the message taken is not one that record x of task s is to answer
abbrev pub NotFor : Desk → Message → ℕ → Sending → Type 0
NotFor d m s x = (l : Letter) → l.answers ≡ x.last → l.from ≡ x.recipient → 0 < l.amount → IsWaiting m s l →
    l.amount ≡ m.letter.amount → d.file s ≡ false → ⊥

pub picked_pending : {o : Offered} {e : ℕ → ℕ → Bool} {d : Desk} (h : ℕ) (m : Message) (hd : ℕ → Option Message) →
    Has m d.queue → OneMore d.held hd m → Inv o e d → (s : ℕ) (x : Sending) → NotFor d m s x → PendingAt d s x →
    PendingAt (record d { queue = without_first h d.queue; held = hd }) s x
picked_pending {o} {e} {d} h m hd here one i s x not_for p l k =
    let w = p l (known_by k (picked_known d h m hd here one l k.known)) in
    waits_fewer (without_first h d.queue) hd w
    (λ y has r. w.unread y (without_has h d.queue y has) r)
    (λ b y r eq. elim (one b y r) [
      | inl a ↦ w.free b y a eq
      | inr a ↦
          let wait = w.unread m here (ap (λ (z : Message). z.letter.me) a ∙ eq) in
          let from = wait.from in
          let live : d.live m.letter.from ≡ true = rw from k.live in
          let v = p m.letter (record {
            known = queued m here refl;
            kind = wait.kind;
            answers = wait.answers ∙ k.answers;
            from = from ∙ k.from;
            live = live;
            fetches = k.fetches;
          }) in
          let n : l.amount ≡ m.letter.amount = w.amount ∙ ap d.buf (sym from) ∙ sym v.amount in
          not_for l k.answers k.from (let y = w.amount in let z = i.ins.room l.from in omega arith) wait n k.fetches
    ])

-- ---- deaths

pub for_others_has : (h : ℕ) (q : List Message) (y : Message) → Has y (for_others h q) → Has y q
for_others_has h [] y a = a
for_others_has h (x ∷ q) y a =
    elim (eqb_tells x.to h) [
      | inl w ↦ inr (for_others_has h q y (rw w.0 at a))
      | inr w ↦ elim (let z : Has y (x ∷ for_others h q) = rw w.0 at a in z) [
        | inl s ↦ inl s
        | inr r ↦ inr
            (for_others_has h q y r)
      ]
    ]

pub record Bounced (h : ℕ) (q : List Message) (y : Message) : Type 0 where
  pub old : Message
  pub there : Has old q
  pub to : old.to ≡ h
  pub letter : old.letter ≡ y.letter

recorded_has : (live : ℕ → Bool) (m : Message) (c : Code) (y : Message) → Has y (back_if_recorded live m c) →
    m.letter ≡ y.letter
recorded_has live m Plain y a = absurd a
recorded_has live m Recorded y a = sym (back_has (live m.letter.from) m y a).1
recorded_has live m Returned y a = absurd a

later : (h : ℕ) (x : Message) (q : List Message) (y : Message) → Bounced h q y → Bounced h (x ∷ q) y
later h x q y b = record { old = b.old; there = inr b.there; to = b.to; letter = b.letter }

pub bounced_has : (live : ℕ → Bool) (h : ℕ) (q : List Message) (y : Message) → Has y (bounced_for live h q) → Bounced h q y
bounced_has live h [] y a = absurd a
bounced_has live h (x ∷ q) y a =
    elim (eqb_tells x.to h) [
      | inl w ↦ elim (Has-append y (back_if_recorded live x x.code) (bounced_for live h q) (rw w.0 at a)) [
        | inl b ↦ record { old = x; there = inl refl; to = w.1; letter = recorded_has live x x.code y b }
        | inr b ↦ later h x q y (bounced_has live h q y b)
      ]
      | inr w ↦ later h x q y (bounced_has live h q y (rw w.0 at a))
    ]

pub back_held_has : (live : ℕ → Bool) (o : Option Message) (y : Message) → Has y (back_held live o) →
    (m : Message) × (o ≡ Some m) × (m.letter ≡ y.letter)
back_held_has live None y a = absurd a
back_held_has live (Some m) y a = (m, refl, sym (back_has (live m.letter.from) m y a).1)

pub unlast : (d : Desk) (h k : ℕ) (y : Message) → put d.last h None k ≡ Some y → d.last k ≡ Some y
unlast d h k y = put_all (λ j z. z ≡ Some y → d.last j ≡ Some y) d.last h None (λ q. absurd (none_some None refl q))
    (λ j ne q. q) k

pub bounced_codes : (live : ℕ → Bool) (h : ℕ) (q : List Message) (y : Message) → Has y (bounced_for live h q) →
    y.code ≡ Returned
bounced_codes live h [] y a = absurd a
bounced_codes live h (x ∷ q) y a =
    elim (eqb_tells x.to h) [
      | inl w ↦ elim (Has-append y (back_if_recorded live x x.code) (bounced_for live h q) (rw w.0 at a)) [
        | inl b ↦ recorded_codes x.code b
        | inr b ↦ bounced_codes live h q y b
      ]
      | inr w ↦ bounced_codes live h q y (rw w.0 at a)
    ]
  where
    recorded_codes : (c : Code) → Has y (back_if_recorded live x c) → y.code ≡ Returned
    recorded_codes Plain b = absurd b
    recorded_codes Recorded b = (back_has (live x.letter.from) x y b).0
    recorded_codes Returned b = absurd b

pub back_held_codes : (live : ℕ → Bool) (o : Option Message) (y : Message) → Has y (back_held live o) → y.code ≡ Returned
back_held_codes live None y a = absurd a
back_held_codes live (Some m) y a = (back_has (live m.letter.from) m y a).0

rises_others : (h : ℕ) (q : List Message) → Rises q → Rises (for_others h q)
rises_others h [] up = up
rises_others h (x ∷ q) up = elim (eqb_tells x.to h) [
  | inl w ↦ rw w.0 (rises_others h q up.1)
  | inr w ↦ rw w.0 (
    λ y k.
        up.0 y (for_others_has h q y k),
    rises_others h q up.1,
  )
]

pub killed_known : (d : Desk) (h : ℕ) (l : Letter) → Knows (killed d h) l → Knows d l
killed_known d h l (queued y has eq) =
    let others = put d.live h false in
    elim (Has-append y (for_others h d.queue) (back_held others (d.held h) ++ bounced_for others h d.queue) has) [
      | inl a ↦ queued y (for_others_has h d.queue y a) eq
      | inr a ↦ elim (Has-append y (back_held others (d.held h)) (bounced_for others h d.queue) a) [
        | inl b ↦ let w = back_held_has others (d.held h) y b in kept h w.0 w.1 (w.2 ∙ eq)
        | inr b ↦ let w = bounced_has others h d.queue y b in queued w.old w.there (w.letter ∙ eq)
      ]
    ]
killed_known d h l (kept k y q eq) = kept k y (unheld d h k y q) eq
killed_known d h l (latest k y q eq) = latest k y (unlast d h k y q) eq

-- a record of the others
elsewhere : {A : Type 0} (old : ℕ → List A) (h s : ℕ) (w : A) → Has w (put old h [] s) → s ≢ h
elsewhere old h s w q = elim (at_put old h [] s w q) [ inl a ↦ absurd a.1 | inr a ↦ a.0 ]

active_elsewhere : (old : ℕ → List In) (h r : ℕ) (t : Taking) → Active (put old h [] r) t → r ≢ h
active_elsewhere old h r t (inl q) = elsewhere old h r (Fetching t) q
active_elsewhere old h r t (inr q) = elsewhere old h r (Draining t) q

active_still : (old : ℕ → List In) (h r : ℕ) (t : Taking) → r ≢ h → Active (old r) t → Active (put old h [] r) t
active_still old h r t ne act = subst (λ z. Active z t) (sym (put_other old h [] r ne)) act

-- a task has no records, and other blocks
order_blank : {q : List Message} {sending : ℕ → List Out} {taking : ℕ → List In} {next : ℕ} (h : ℕ) →
    Order q sending taking next → Order q (put sending h []) (put taking h []) next
order_blank {q} {sending} {taking} h i = record {
  rises = i.rises;
  above = λ r w m p. i.above r w m (none_left taking h r w p);
  outs = put_ascends out_id sending h [] i.outs tt;
  ins = put_ascends in_id taking h [] i.ins tt;
  out_below = λ s v p. i.out_below s v (none_left sending h s v p);
  in_below = λ s v p. i.in_below s v (none_left taking h s v p);
}

pub blank_inv : {o : Offered} {e : ℕ → ℕ → Bool} {d : Desk} (h buf : ℕ) (bl hp : ℕ → Option (List ℕ)) → 0 < buf →
    Inv o e d → Inv o e (record d {
      buf = put d.buf h buf;
      block = put d.block h bl;
      heap = put d.heap h hp;
      sending = put d.sending h [];
      taking = put d.taking h [];
    })
blank_inv {o} {e} {d} h buf bl hp pos i =
    let sd = put d.sending h [] in
    let tk = put d.taking h [] in
    let n = ins_less e tk (put d.block h bl) (put d.heap h hp) (none_left d.taking h)
    (record {
      before = λ r w q u. u;
      blocks = λ r w q u. ap (λ (f : ℕ → Option (List ℕ)). f (in_anchor w)) (put_other d.block h bl r
          (elsewhere d.taking h r w q));
      heaps = λ r t q. ap (λ (f : ℕ → Option (List ℕ)). f t.buffer) (put_other d.heap h hp r (active_elsewhere
          d.taking h r t q));
    }) i.ins in
    let same : (r : ℕ) (t : Taking) → Active (put d.taking h [] r) t → d.buf r ≡ put d.buf h buf r = λ r t q.
    sym (put_other d.buf h buf r (active_elsewhere d.taking h r t q)) in
    record {
      letters = i.letters;
      outs = outs_less sd (put d.block h bl) (none_left d.sending h) (λ s x q. ap (λ (f : ℕ → Option (List ℕ)).
          f x.anchor) (put_other d.block h bl s (elsewhere d.sending h s (Open x) q))) i.outs;
      ins = record {
        letter = n.letter;
        carries = λ l k r t q. subst (λ b. LetterCarries o l t (put d.heap h hp r) b) (same r t (inl q))
            (n.carries l k r t q);
        good = n.good;
        counted = n.counted;
        buffer = λ r t q. subst (λ b. HasBuffer t (put d.heap h hp r) b d.next_ref) (same r t q) (n.buffer r t q);
        buffers = n.buffers;
        documents = n.documents;
        room = λ r. put_all (λ j z. 0 < z) d.buf h buf pos (λ j ne. i.ins.room j) r;
      };
      boths = boths_less sd tk (none_left d.sending h) (none_left d.taking h) i.boths;
      loads = loads_less tk (none_left d.taking h) i.loads;
      files = filed_less tk (none_left d.taking h) i.files;
      few = record {
        outs = few_put d.sending h [] (omega arith) i.few.outs;
        ins = few_put d.taking h [] (omega arith) i.few.ins;
      };
      order = order_blank h i.order;
      alive = i.alive;
      positive = i.positive;
    }

pub killed_inv : {o : Offered} {e : ℕ → ℕ → Bool} {d : Desk} (h : ℕ) → LiveFile (killed d h) → Inv o e d → Inv o e (killed d h)
killed_inv {o} {e} {d} h live i =
    let others = put d.live h false in
    let ys = back_held others (d.held h) ++ bounced_for others h d.queue in
    let codes : (y : Message) → Has y ys → y.code ≡ Returned = λ y a. elim (Has-append y (back_held others (d.held h))
    (bounced_for others h d.queue) a) [
      | inl b ↦ back_held_codes others (d.held h) y b
      | inr b ↦ bounced_codes others h
          d.queue y b
    ] in
    let step1 = blank_inv h 1 (λ a. None) (λ a. None) (omega arith) i in
    let step2 = fewer_inv (for_others h d.queue ++ ys) (put d.held h None) (put d.last h None) (killed_known d h)
    (rises_with (for_others h d.queue) ys codes (rises_others h d.queue i.order.rises))
    (λ y has u. for_others_has h d.queue y (unread_with (for_others h d.queue) ys codes y has u)) live step1 in
    record {
      letters = step2.letters;
      outs = step2.outs;
      ins = step2.ins;
      boths = step2.boths;
      loads = step2.loads;
      files = step2.files;
      few = step2.few;
      order = step2.order;
      alive = λ k. put_all (λ j z. z ≡ true → j < d.next_handle) d.live h false (λ q. absurd (cc)) (λ j ne q.
          i.alive j q) k;
      positive = step2.positive;
    }

pub killed_pending : (d : Desk) (h : ℕ) → Pending d → Pending (killed d h)
killed_pending d h p s x q l k =
    let others = put d.live h false in
    let not_s : s ≢ h = elsewhere d.sending h s (Open x) q in
    let not_r : l.from ≢ h = λ eq. let z : Bool.false ≡ true = sym (put_same d.live h false) ∙ ap (put d.live h false)
    (sym eq) ∙ k.live in absurd (cc) in
    let w = p s x (none_left d.sending h s (Open x) q) l (record {
      known = killed_known d h l k.known;
      kind = k.kind;
      answers = k.answers;
      from = k.from;
      live = sym (put_other d.live h false l.from not_r) ∙ k.live;
      fetches = sym (put_other d.file h false s not_s) ∙ k.fetches;
    }) in
    let v = waits_fewer (killed d h).queue (put d.held h None) w
    (λ y has r. elim (Has-append y (for_others h d.queue) (back_held others (d.held h) ++ bounced_for others h
    d.queue) has) [
      | inl u ↦ w.unread y (for_others_has h d.queue y u) r
      | inr u ↦ elim (Has-append y (back_held others (d.held h)) (bounced_for others h d.queue) u) [
        | inl v ↦ let z = back_held_has others (d.held h) y v in absurd (w.free h z.0 z.1 (ap (λ (n : Letter). n.me)
            z.2 ∙ r))
        | inr v ↦ let z = bounced_has others h d.queue y v in let wait = w.unread z.old z.there (ap (λ (n : Letter).
            n.me) z.letter ∙ r) in absurd (not_s (sym wait.to ∙ z.to))
      ]
    ])
    (λ n y r. w.free n y (unheld d h n y r)) in
    rw (put_other d.buf h 1 l.from not_r) (waits_kept (d.taking l.from) (put d.taking h [] l.from) (λ t act z.
    active_still d.taking h l.from t not_r act) v)

-- ---- new tasks

pub started_known : (d : Desk) (buf : ℕ) (deaf file raw : Bool) (l : Letter) → Knows (started d buf deaf file raw) l → Knows d l
started_known d buf deaf file raw l (queued y has eq) = queued y has eq
started_known d buf deaf file raw l (kept k y q eq) = kept k y q eq
started_known d buf deaf file raw l (latest k y q eq) = latest k y (unlast d d.next_handle k y q) eq

pub started_inv : {o : Offered} {e : ℕ → ℕ → Bool} {d : Desk} (buf : ℕ) (deaf file raw : Bool) → 0 < buf → Inv o e d →
    Inv o e (started d buf deaf file raw)
started_inv {o} {e} {d} buf deaf file raw pos i =
    let h = d.next_handle in
    let step1 = blank_inv h buf (λ a. None) (λ a. None) pos i in
    let step2 = fewer_inv d.queue d.held (put d.last h None) (started_known d buf deaf file raw) i.order.rises (λ y has u.
    has) (λ f u. (i.files f u).live) step1 in
    record {
      letters = letters_bump (omega arith) (omega arith) step2.letters;
      outs = step2.outs;
      ins = step2.ins;
      boths = step2.boths;
      loads = step2.loads;
      files = step2.files;
      few = step2.few;
      order = step2.order;
      alive = λ k. put_all (λ j z. z ≡ true → j < h + 1) d.live h true (λ q. omega arith) (λ j ne q. let u =
          i.alive j q in omega arith) k;
      positive = step2.positive;
    }

pub started_pending : {o : Offered} {e : ℕ → ℕ → Bool} {d : Desk} (buf : ℕ) (deaf file raw : Bool) → Inv o e d →
    Pending d → Pending (started d buf deaf file raw)
started_pending {o} {e} {d} buf deaf file raw i p s x q l k =
    let h = d.next_handle in
    let old = started_known d buf deaf file raw l k.known in
    let b = i.letters.below l old in
    let ne : l.from ≢ h = λ z. let u = b.from in omega arith in
    let w = p s x (none_left d.sending h s (Open x) q) l (record {
      known = old;
      kind = k.kind;
      answers = k.answers;
      from = k.from;
      live = sym (put_other d.live h true l.from ne) ∙ k.live;
      fetches = sym (put_other d.file h file s (elsewhere d.sending h s (Open x) q)) ∙ k.fetches;
    }) in
    let v = waits_fewer d.queue d.held w w.unread w.free in
    rw (put_other d.buf h buf l.from ne) (waits_kept (d.taking l.from) (put d.taking h [] l.from) (λ t act z.
    active_still d.taking h l.from t ne act) v)
