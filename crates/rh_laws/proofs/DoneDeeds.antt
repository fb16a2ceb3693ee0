-- What a message that was handled leaves of transfers whose sender's record says Done.
use Rattle.rh_laws.proofs.Common.{Active, Ascend, Bool, Has, List, None, Option, Sending, Some, Taking, [], ap, arith, eqb_tells, false, inl, inr, none_some}
use Rattle.rh_laws.proofs.Common.{out_id}
use Rattle.rh_laws.proofs.Common.{refl, subst, sym, true, ℕ, ◌++◌, ◌+◌, ◌<◌, ◌∙◌, ◌∷◌, ◌≡◌, ◌≤◌, ◌⊎◌}
use Rattle.rh_safety.specs.RawIds.{Gave}
use Rattle.rh_safety.proofs.Basics.{Has-left, Has-right, one_of_id}
use Rattle.rh_safety.proofs.Ends.{Asking, DataLoadAck, DataSave, Draining, Fetching, In, In_done, In_failed, Kind, Letter, Message, Open, Out, Out_done}
use Rattle.rh_safety.proofs.Ends.{Out_failed, Plain, RamFetch, RamTransmit, Returned, in_id, is_going}
use Rattle.rh_safety.proofs.Invariant.{IsLive, Known, Knows, Unread}
use Rattle.rh_safety.proofs.Polls.{Waiter}
use Rattle.rh_safety.proofs.Sight.{Desk, Scrap, would_answer}
use Rattle.rh_laws.proofs.Dones.{AllEnd, Begun, Ends, Final, IsActive, IsFirst, IsQueued, Matched, Unbegun, ends-map}
use Rattle.rh_laws.proofs.PlayedDeeds.{Mute, Took, knows-after, sent-live}
use Rattle.rh_laws.proofs.WantDeeds.{Deed, Goes, Last, Meets, Origin, Replying, Turns, new, was}
use Rattle.rh_laws.proofs.WantEdits.{For, after, answer}
use Rattle.rh_laws.proofs.Wants.{HasWant, Want, part, want_in}

-- what is known of the message that task k took: nothing answers it, and no live message has its ref but what the task holds
pub record Heard (P : ℕ → Type 0) (R : Gave) (d : Desk) (k : ℕ) (m : Message) : Type 0 where
  pub lives : d.live k ≡ true
  pub plays : d.raw k ≡ false
  pub mute : (m.letter.kind ≡ DataLoadAck → ⊥) → R m.letter.me ≡ false → Mute R d m.letter.me
  -- an offer isn't answered before it is taken
  pub offer : Unread m → m.letter.kind ≡ DataSave → R m.letter.me ≡ false → (s n : ℕ) → Has (Out_done m.letter.me n) (d.sending s) → ⊥
  pub answers : Unread m → (x : Sending) → Has (Open x) (d.sending k) → m.letter.answers ≡ x.last → m.letter.from ≡ x.recipient → P x.id →
      IsLive d.queue d.held m.letter.answers → ⊥
  -- a fetch that a record answers is its receiver's own
  pub waiter : (x : Sending) → Has (Open x) (d.sending k) → m.letter.kind ≡ RamFetch → would_answer m.letter x ≡ true → d.file k ≡ false →
      d.live x.recipient ≡ true → Unread m → (r : ℕ) (w : In) → Has w (d.taking r) → in_id w ≡ x.id →
      (a : Waiter d k x m.letter) × (m.letter.me ≡ a.taking.fetch)
  -- where it tells that a file was loaded, the records of the transfer have ended
  pub told : Unread m → m.letter.kind ≡ DataLoadAck → (x : Sending) → Has (Open x) (d.sending k) → m.letter.answers ≡ x.last →
      m.letter.from ≡ x.recipient → (r : ℕ) (w : In) → Has w (d.taking r) → in_id w ≡ x.id → is_going w ≡ false
  pub home : (x : Sending) (r : ℕ) (w : In) → Has (Open x) (d.sending k) → Has w (d.taking r) → in_id w ≡ x.id → r ≡ x.recipient
  -- its bytes are no more than what a sender that says Done has sent
  pub carried : (f : Taking) → Has (Fetching f) (d.taking k) → m.letter.kind ≡ RamTransmit → Unread m → m.letter.from ≡ f.sender →
      m.letter.answers ≡ f.fetch → (s n : ℕ) → Has (Out_done f.id n) (d.sending s) → f.count + m.letter.amount ≤ n
  -- where it is theirs, no record comes in of a transfer to its sender
  pub nobody : Unread m → (x : Sending) → Has (Open x) (d.sending k) → m.letter.from ≡ x.recipient → R m.letter.me ≡ true → (r : ℕ) (w : In) → Has w
      (d.taking r) →
      in_id w ≡ x.id → ⊥
  -- whose message it is, whose a sender's letters are, and whose its transfers
  pub filler : Unread m → (f : Taking) → Has (Fetching f) (d.taking k) → m.letter.from ≡ f.sender → R f.id ≡ false → R m.letter.me ≡ false
  pub senders : (l : Letter) → Knows d l → (s : ℕ) (v : Out) → Has v (d.sending s) → l.from ≡ s → R l.me ≡ false
  pub out_ids : (s : ℕ) (v : Out) → Has v (d.sending s) → R (out_id v) ≡ false

-- what holds once the message was taken
pub record Taken (P : ℕ → Type 0) (C : ℕ → Bool) (R : Gave) (d : Desk) (k : ℕ) (m : Message) : Type 0 where
  pub unbegun : Unbegun P d
  pub first : IsFirst R d
  pub ends : AllEnd (λ y. Has y d.queue ⊎ (m ≡ y)) d
  pub heard : Heard P R d k m
  pub before : Took C R d k m
  pub outs : (s : ℕ) (v : Out) → Has v (d.sending s) → out_id v < d.next_ref
  pub ascends : (r : ℕ) → Ascend in_id (d.taking r)

want-going : (w : In) (v : Want) → want_in w ≡ Some v → is_going w ≡ true
want-going (Fetching f) v e = refl
want-going (Draining f) v e = refl
want-going (Asking q) v e = refl
want-going (In_done i a n) v e = absurd (none_some None refl e)
want-going (In_failed i a n) v e = absurd (none_some None refl e)

active-want : (w : In) (t : Taking) → IsActive w t → want_in w ≡ Some (part t.fetch t.sender t.buffer)
active-want w t (inl e) = ap want_in e
active-want w t (inr e) = ap want_in e

module _ {P : ℕ → Type 0} {C : ℕ → Bool} {R : Gave} (d : Desk) (k : ℕ) (m : Message) (p : Taken P C R d k m) (sd : ℕ → List Out) (tk : ℕ → List In)
    (bl hp : ℕ → ℕ → Option (List ℕ)) (sc : Option Scrap) where
  abbrev E : Option Message → Desk
  E l = after d k sd tk bl hp sc l

  h : Heard P R d k m
  h = p.heard

  -- an id that the message makes known as answered
  meets-spent : (i ref : ℕ) → Meets d k m i → i ≡ ref → P ref → (ref < d.next_ref) × (IsLive d.queue d.held ref → ⊥)
  meets-spent i ref x same of_p = (let z = p.outs k (Open x.one) x.has in let e = x.id in omega (arith, z, e, same), none)
    where
      none : IsLive d.queue d.held ref → ⊥
      none live = elim (eqb_tells x.one.last x.one.id) [
        | inl w ↦ h.answers x.unread x.one x.has x.answers x.from (subst P (sym same ∙ sym x.id) of_p)
            (subst (IsLive d.queue d.held) (sym same ∙ sym x.id ∙ sym w.1 ∙ sym x.answers) live)
        | inr w ↦ p.unbegun ref of_p live k (Open x.one) x.has (x.id ∙ same, w.1)
      ]

  begun-below : (ref s : ℕ) (v : Out) → Has v (d.sending s) → Begun ref v → ref < d.next_ref
  begun-below ref s (Open x) has b = let z = p.outs s (Open x) has in let e = b.0 in omega (arith, z, e)
  begun-below ref s (Out_done i n) has b = let z = p.outs s (Out_done i n) has in omega (arith, z, b)
  begun-below ref s (Out_failed i n) has b = absurd b

  -- the ids of such transfers were given before
  old-begun : (l : Option Message) → Deed d k m l sd tk sc → (ref s : ℕ) (v : Out) → Has v (sd s) → Begun ref v → ref < d.next_ref
  old-begun l x ref s v has b = elim (x.turns s v has) [ inl old ↦ begun-below ref s v old b | inr z ↦ by v z.1 b ]
    where
      met : (i : ℕ) → Meets d k m i → i ≡ ref → ref < d.next_ref
      met i y same = let z = p.outs k (Open y.one) y.has in let e = y.id in omega (arith, z, e, same)

      by : (u : Out) → Turns d k m l u → Begun ref u → ref < d.next_ref
      by (Open y) (inl offered) b = absurd (b.1 offered)
      by (Open y) (inr meets) b = met y.id meets b.0
      by (Out_done i n) turn b = met i turn.0 b
      by (Out_failed i n) turn b = absurd b

  begun : (l : Option Message) → Deed d k m l sd tk sc → (ref s : ℕ) (v : Out) → Has v (sd s) → Begun ref v → P ref → IsLive d.queue d.held ref → ⊥
  begun l x ref s v has b of_p live = elim (x.turns s v has) [
    | inl old ↦ p.unbegun ref of_p live s v old b
    | inr z ↦ by v z.1 b
  ]
    where
      by : (u : Out) → Turns d k m l u → Begun ref u → ⊥
      by (Open y) (inl offered) b = b.1 offered
      by (Open y) (inr meets) b = (meets-spent y.id ref meets b.0 of_p).1 live
      by (Out_done i n) turn b = (meets-spent i ref turn.0 b of_p).1 live
      by (Out_failed i n) turn b = b

  -- what is live then was so, or is new
  live-before : (l : Option Message) → Deed d k m l sd tk sc → (ref : ℕ) → IsLive (E l).queue (E l).held ref → (ref ≡ d.next_ref) ⊎ IsLive d.queue d.held ref
  live-before None x ref live = inr live
  live-before (Some n) x ref live = sent-live C R d k m p.before sd tk bl hp sc n (x.sends n refl) ref live

  -- of fewer transfers, or of one more that is offered now
  unbegun-after : {Q : ℕ → Type 0} → ((ref : ℕ) → ref < d.next_ref → Q ref → P ref) → (l : Option Message) → Deed d k m l sd tk sc → Unbegun Q (E l)
  unbegun-after less l x ref of_q live s v has b =
      let old = old-begun l x ref s v has b in
      elim (live-before l x ref live) [
        | inl now ↦ absurd (omega (arith, old, now))
        | inr there ↦ begun l x ref s v has b (less ref old of_q) there
      ]

  module _ (l : Option Message) (x : Deed d k m l sd tk sc) where
    knows-then : (a : Letter) → Knows (E l) a → Knows d a ⊎ ((n : Message) × ((l ≡ Some n) × (a ≡ n.letter)))
    knows-then = knows-after C R d k m p.before sd tk bl hp sc l x

    -- ---- a record's fetch is its task's first answer

    old-first : (r : ℕ) (t : Taking) → Active (d.taking r) t → R t.id ≡ false → t.fetch < d.next_ref → (a b : Letter) → Knows (E l) a → Knows (E l) b → b.me
        ≡ t.fetch →
        a.from ≡ r → a.answers ≡ b.answers → t.fetch ≤ a.me
    old-first r t act mine less a b ka kb me from same = elim (knows-then a ka) [
      | inr z ↦ let q = new-letter z in omega (arith, q, less)
      | inl ca ↦ elim (knows-then b kb) [
        | inl cb ↦ p.first r t act mine a b ca cb me from same
        | inr z ↦ absurd (let q = new-letter z in omega (arith, q, me, less))
      ]
    ]
      where
        new-letter : {c : Letter} → (n : Message) × ((l ≡ Some n) × (c ≡ n.letter)) → c.me ≡ d.next_ref
        new-letter z = ap (λ (y : Letter). y.me) z.1.1 ∙ (x.sends z.0 z.1.0).me

    new-first : (t : Taking) → t.fetch ≡ d.next_ref → Mute R d m.letter.me → Replying m l → (a b : Letter) → Knows (E l) a → Knows (E l) b →
        b.me ≡ t.fetch → a.from ≡ k → a.answers ≡ b.answers → t.fetch ≤ a.me
    new-first t ref mute rep a b ka kb me from same = elim (knows-then a ka) [
      | inr z ↦ let q = ap (λ (y : Letter). y.me) z.1.1 ∙ (x.sends z.0 z.1.0).me in omega (arith, q, ref)
      | inl ca ↦ elim (knows-then b kb) [
        | inl cb ↦ absurd (let z = p.before.below b cb in omega (arith, z, me, ref))
        | inr z ↦
            let own : R a.me ≡ false = p.before.played a ca (ap d.live from ∙ h.lives) (ap d.raw from ∙ h.plays) in
            absurd (mute.letters a ca own (same ∙ ap (λ (y : Letter). y.answers) z.1.1 ∙ rep z.0 z.1.0))
      ]
    ]

  first-after : (l : Option Message) → Deed d k m l sd tk sc → IsFirst R (E l)
  first-after l x r t act mine a b ka kb me from same = by act
    where
      of : (w : In) → IsActive w t → in_id w ≡ t.id → Has w (tk r) → (Has w (d.taking r) → Active (d.taking r) t) → t.fetch ≤ a.me
      of w is id has back = go (x.ins r w (part t.fetch t.sender t.buffer) has (active-want w t is))
        where
          go : Origin d k m l r (part t.fetch t.sender t.buffer) (Has w (d.taking r)) ((in_id w ≡ x.fresh) × Goes d k m l w) → t.fetch ≤ a.me
          go (was old other) =
              old-first l x r t (back old) mine (p.before.refs r (part t.fetch t.sender t.buffer)
              (HasWant.comes (record { one = w; has = old; wants = active-want w t is; id = refl }))) a b ka kb me from same
          go (new z own now) = goes now.1
            where
              now-first : Mute R d m.letter.me → Replying m l → t.fetch ≤ a.me
              now-first mute rep = new-first l x t z.ref mute rep a b ka kb me (from ∙ own) same

              goes : Goes d k m l w → t.fetch ≤ a.me
              goes (Goes.begins kind rep same un) =
                  now-first (h.mute (λ q. let y : DataSave ≡ DataLoadAck = sym kind ∙ q in (cc)) (ap R (sym same ∙ id) ∙ mine)) rep
              goes (Goes.fills f has_f same kind un from_f answers le rep) =
                  now-first (h.mute (λ q. let y : RamTransmit ≡ DataLoadAck = sym kind ∙ q in (cc))
                  (h.filler un f has_f from_f (ap R (sym same ∙ id) ∙ mine))) rep
              goes (Goes.asks_file f q asks has_f same kind code own_ref) = absurd (no_ask is)
                where
                  no_ask : IsActive w t → ⊥
                  no_ask (inl e) = let y : Fetching t ≡ Asking q = sym e ∙ asks in (cc)
                  no_ask (inr e) = let y : Draining t ≡ Asking q = sym e ∙ asks in (cc)

      by : Active (tk r) t → t.fetch ≤ a.me
      by (inl has) = of (Fetching t) (inl refl) refl has (λ o. inl o)
      by (inr has) = of (Draining t) (inr refl) refl has (λ o. inr o)

  -- ---- records of transfers whose sender says Done

  -- such a record doesn't go on
  never-goes : (l : Option Message) → Deed d k m l sd tk sc → (s i n : ℕ) (v : In) → Goes d k m l v → in_id v ≡ i → Has (Out_done i n) (sd s) → ⊥
  never-goes l x s i n v goes id done = elim (x.turns s (Out_done i n) done) [
    | inl old ↦ of_old old goes
    | inr z ↦ elim z.1.1 [
      | inl kind ↦ of_new DataLoadAck kind (λ y. absurd (cc)) (λ y. absurd (cc)) z.1.0.unread goes
      | inr la ↦ of_new RamFetch la.fetch (λ y. absurd (cc)) (λ y. absurd (cc)) z.1.0.unread goes
    ]
  ]
    where
      of_new : (j : Kind) → m.letter.kind ≡ j → (DataSave ≡ j → ⊥) → (RamTransmit ≡ j → ⊥) → Unread m → Goes d k m l v → ⊥
      of_new j is a b un (Goes.begins kind rep same u) = a (sym kind ∙ is)
      of_new j is a b un (Goes.fills f has same kind u from answers le rep) = b (sym kind ∙ is)
      of_new j is a b un (Goes.asks_file f q asks has same kind code me) = un code

      of_old : Has (Out_done i n) (d.sending s) → Goes d k m l v → ⊥
      of_old old (Goes.begins kind rep same un) =
          h.offer un kind (ap R (sym same ∙ id) ∙ h.out_ids s (Out_done i n) old) s n (subst (λ j. Has (Out_done j n) (d.sending s)) (sym id ∙ same) old)
      of_old old (Goes.fills f has same kind un from answers le rep) =
          let e = p.ends s i n k (Fetching f) old has (sym same ∙ id) in
          let c = h.carried f has kind un from answers s n (subst (λ j. Has (Out_done j n) (d.sending s)) (sym id ∙ same) old) in
          let short = e.1.1.short in
          let whole = e.1.1.whole in
          omega (arith, c, short, whole, le)
      of_old old (Goes.asks_file f q asks has same kind code me) =
          let e = p.ends s i n k (Fetching f) old has (sym same ∙ id) in
          let mine : R m.letter.me ≡ false = ap R me ∙
          p.before.own k (part f.fetch f.sender f.buffer) (HasWant.comes (record { one = Fetching f; has = has; wants = refl; id = refl })) in
          elim e.1.0 [
            | inl there ↦
                let kn : Knows d e.0.letter = Known.queued e.0 there refl in
                (h.mute (λ q. let y : RamFetch ≡ DataLoadAck = sym kind ∙ q in (cc)) mine).letters e.0.letter kn
                (h.senders e.0.letter kn s (Out_done i n) old e.1.1.from) (e.1.1.answers ∙ sym me)
            | inr one ↦ let y : Plain ≡ Returned = sym e.1.1.code ∙ ap (λ (z : Message). z.code) (sym one) ∙ code in (cc)
          ]

  room-same : (l : Option Message) (r : ℕ) → (E l).buf r ≡ d.buf r
  room-same None r = refl
  room-same (Some n) r = refl

  still-queued : (l : Option Message) (y : Message) → Has y d.queue → Has y (E l).queue
  still-queued None y has = has
  still-queued (Some n) y has = Has-left y d.queue (n ∷ []) has

  now-queued : (l : Option Message) (n : Message) → l ≡ Some n → Has n (E l).queue
  now-queued None n e = absurd (none_some None refl e)
  now-queued (Some o) n e = let one : o ≡ n = cc in subst (λ y. Has y (d.queue ++ o ∷ [])) one (Has-right o d.queue (o ∷ []) (inl refl))

  -- the last transmit of a record that waits for it
  last-ends : (l : Option Message) → Deed d k m l sd tk sc → (s i n r : ℕ) (w : In) → s ≡ k → (x : Meets d k m i) → Last d k m l x.one n →
      Has w (d.taking r) → in_id w ≡ i → Ends (IsQueued (E l)) ((E l).buf r) s r n w
  last-ends l x s i n r w own meets la has id = by a.is_active
    where
      y : Sending
      y = meets.one

      found : (a : Waiter d k y m.letter) × (m.letter.me ≡ a.taking.fetch)
      found = h.waiter y meets.has la.fetch la.would la.fetches la.lives meets.unread r w has (id ∙ sym meets.id)

      a : Waiter d k y m.letter
      a = found.0

      here : r ≡ y.recipient
      here = h.home y r w meets.has has (id ∙ sym meets.id)

      z : Message
      z = la.letter

      final : Final ((E l).buf r) s r n a.taking z
      final = record {
        sender = a.sender ∙ sym own;
        code = la.code;
        to = la.to ∙ meets.from ∙ sym here;
        from = (x.sends z la.is).from ∙ sym own;
        kind = la.kind;
        answers = la.answers ∙ found.1;
        address = la.address ∙ sym a.names;
        short = let less = la.short in let size = a.amount ∙ ap d.buf (sym here) ∙ sym (room-same l r) in omega (arith, less, size);
        whole = ap (λ c. c + z.letter.amount) (sym a.level) ∙ la.whole;
      }

      there : (m : Message) × (IsQueued (E l) m × Final ((E l).buf r) s r n a.taking m)
      there = (z, (now-queued l z la.is, final))

      same : (v : In) → Has v (d.taking y.recipient) → in_id v ≡ a.taking.id → v ≡ w
      same v q e = one_of_id in_id (d.taking r) v w (p.ascends r) (subst (λ j. Has v (d.taking j)) (sym here) q) has (e ∙ a.same_id ∙ meets.id ∙ sym id)

      by : Active (d.taking y.recipient) a.taking → Ends (IsQueued (E l)) ((E l).buf r) s r n w
      by (inl q) = subst (Ends (IsQueued (E l)) ((E l).buf r) s r n) (same (Fetching a.taking) q refl) there
      by (inr q) = subst (Ends (IsQueued (E l)) ((E l).buf r) s r n) (same (Draining a.taking) q refl) there

  -- one that waits
  waiting-ends : (l : Option Message) → Deed d k m l sd tk sc → (s i n r : ℕ) (w : In) → Has (Out_done i n) (sd s) → Has w (tk r) → in_id w ≡ i →
      (v : Want) → want_in w ≡ Some v → Ends (IsQueued (E l)) ((E l).buf r) s r n w
  waiting-ends l x s i n r w done has id v wants = go (x.ins r w v has wants)
    where
      go : Origin d k m l r v (Has w (d.taking r)) ((in_id w ≡ x.fresh) × Goes d k m l w) → Ends (IsQueued (E l)) ((E l).buf r) s r n w
      go (new z own now) = absurd (never-goes l x s i n w now.1 id done)
      go (was old other) = elim (x.turns s (Out_done i n) done) [
        | inl o ↦ ends-map w (room-same l r) kept (p.ends s i n r w o old id)
        | inr z ↦ elim z.1.1 [
          | inl kind ↦
              let c = z.1.0 in
              let ended = h.told c.unread kind c.one c.has c.answers c.from r w old (id ∙ sym c.id) in
              absurd (let q : false ≡ true = sym ended ∙ want-going w v wants in (cc))
          | inr la ↦ last-ends l x s i n r w z.0 z.1.0 la old id
        ]
      ]
        where
          kept : (t : Taking) → IsActive w t → (y : Message) → Final (d.buf r) s r n t y → Has y d.queue ⊎ (m ≡ y) → IsQueued (E l) y
          kept t is y fin (inl there) = still-queued l y there
          kept t is y fin (inr one) =
              let mine : part t.fetch t.sender t.buffer ≡ v = let q : Some (part t.fetch t.sender t.buffer) ≡ Some v = sym (active-want w t is) ∙ wants in cc in
              let to : r ≡ k = sym fin.to ∙ ap (λ (z : Message). z.to) (sym one) ∙ p.before.to in
              let final : Final (d.buf r) s r n t m = subst (Final (d.buf r) s r n t) (sym one) fin in
              absurd (other to (subst (For d m r) mine (answer (λ c. let q : Plain ≡ Returned = sym final.code ∙ c in (cc))
              (final.from ∙ sym final.sender) final.answers (final.kind, (final.address, let z = final.short in omega (arith, z))))))

  ends-after : (l : Option Message) → Deed d k m l sd tk sc → AllEnd (IsQueued (E l)) (E l)
  ends-after l x s i n r w done has id = by w refl
    where
      by : (v : In) → w ≡ v → Ends (IsQueued (E l)) ((E l).buf r) s r n w
      by (Fetching t) e = waiting-ends l x s i n r w done has id (part t.fetch t.sender t.buffer) (ap want_in e)
      by (Draining t) e = waiting-ends l x s i n r w done has id (part t.fetch t.sender t.buffer) (ap want_in e)
      by (Asking q) e = waiting-ends l x s i n r w done has id _ (ap want_in e)
      by (In_done j a c) e = subst (Ends (IsQueued (E l)) ((E l).buf r) s r n) (sym e) tt
      by (In_failed j a c) e = subst (Ends (IsQueued (E l)) ((E l).buf r) s r n) (sym e) tt

  pub deed-matched : {Q : ℕ → Type 0} → ((ref : ℕ) → ref < d.next_ref → Q ref → P ref) → (l : Option Message) → Deed d k m l sd tk sc → Matched Q R (E l)
  deed-matched less l x = record { unbegun = unbegun-after less l x; first = first-after l x; ends = ends-after l x }
