-- What records wait for beside tasks with code of their own: one that isn't theirs waits for a message that is live, or for an answer
-- that is queued. C says which handles are of tasks with code of their own, R which refs they gave.
use Rattle.rh_laws.proofs.Common.{Bool, Has, List, None, Option, Some, [], ap, arith, eqb_tells, false, inl, inr, map, none_some, put_same, refl, subst, sym}
use Rattle.rh_laws.proofs.Common.{true}
use Rattle.rh_laws.proofs.Common.{ℕ, ◌<◌, ◌≤◌, ◌∙◌, ◌∷◌, ◌≡◌, ◌≢◌, ◌⊎◌}
use Rattle.rh_safety.specs.RawIds.{Gave}
use Rattle.rh_safety.proofs.Basics.{Has-append, Has-right}
use Rattle.rh_safety.proofs.Ends.{In, Letter, Message, Out, in_id, put}
use Rattle.rh_safety.proofs.Invariant.{IsLive, Known, Knows, Unread}
use Rattle.rh_safety.proofs.Masks.{masked_message}
use Rattle.rh_safety.proofs.Sends.{sent_knows, still_is}
use Rattle.rh_safety.proofs.Sight.{Desk, Scrap, sent, still_held}
use Rattle.rh_laws.proofs.Wants.{Answered, HasWant, InWants, Ours, OutWants, Unanswered, WaitsFor, Want, Wants, peer_of, ref_of, want_in, want_out}
use Rattle.rh_laws.proofs.WantEdits.{For, Then, after, quiet-asks, quiet-told, sent-asks, sent-told}
use Rattle.rh_laws.proofs.WantDeeds.{Anew, Deed, IsSpent, Origin, Sends, new, was}

-- ---- what holds

-- no letter that isn't theirs answers the ref, and no record that comes in has it for an id
pub record Mute (R : Gave) (d : Desk) (ref : ℕ) : Type 0 where
  pub some : 0 < ref
  pub letters : (l : Letter) → Knows d l → R l.me ≡ false → l.answers ≢ ref
  pub ids : (r : ℕ) (v : In) → Has v (d.taking r) → in_id v ≢ ref

-- which handles are theirs, of live tasks, and of none that is to come
pub record Codes (C : ℕ → Bool) (d : Desk) : Type 0 where
  pub manners : (h : ℕ) → d.live h ≡ true → d.raw h ≡ C h
  pub unborn : (h : ℕ) → d.next_handle ≤ h → C h ≡ false

-- the record isn't of a transfer of theirs, and doesn't go out to one of them
abbrev pub Mine : (C : ℕ → Bool) (R : Gave) {ins : List In} {outs : List Out} {no_fetch : Bool} {w : Want} → HasWant ins outs no_fetch w → Type 0
Mine C R (HasWant.comes {i} x) = R i ≡ false
Mine C R {w = w} (HasWant.goes x) = C (peer_of w) ≡ false

pub record PlayedWait (C : ℕ → Bool) (R : Gave) (d : Desk) : Type 0 where
  pub waits : (h : ℕ) (w : Want) (x : Wants d h w) → Mine C R x → WaitsFor d h w
  pub apart : (h : ℕ) (w x : Want) (i j : ℕ) → InWants (d.taking h) w i → InWants (d.taking h) x j → ref_of w ≡ ref_of x → i ≡ j
  pub mute : (ref : ℕ) → R ref ≡ false → IsLive d.queue d.held ref → Mute R d ref
  pub seated : (k : ℕ) (m : Message) → d.held k ≡ Some m → m.to ≡ k
  pub codes : Codes C d
  pub senders : (l : Letter) → Knows d l → R l.me ≡ C l.from

-- what is queued is so where it is masked
pub mask-has : (R : Gave) (m : Message) (q : List Message) → Has m q → Has (masked_message R m) (map (masked_message R) q)
mask-has R m [] has = absurd has
mask-has R m (y ∷ q) (inl e) = inl (ap (masked_message R) e)
mask-has R m (y ∷ q) (inr has) = inr (mask-has R m q has)

-- ---- a message that task k took

-- a message that is answered is held no more
pub still-gone : (o : Option Message) (a : ℕ) (y : Message) → still_held o a ≡ Some y → y.letter.me ≢ a
still-gone None a y e = absurd (none_some None refl e)
still-gone (Some m) a y e = elim (eqb_tells m.letter.me a) [
  | inl w ↦ absurd (none_some None refl (rw w.0 at e))
  | inr w ↦ let same : m ≡ y = let z : Some m ≡ Some y = rw w.0 at e in cc in
      λ q. w.1 (ap (λ (z : Message). z.letter.me) same ∙ q)
]

pub record Took (C : ℕ → Bool) (R : Gave) (d : Desk) (k : ℕ) (m : Message) : Type 0 where
  pub waits : (h : ℕ) (w : Want) (x : Wants d h w) → Mine C R x → Then d m h w
  pub apart : (h : ℕ) (w x : Want) (i j : ℕ) → InWants (d.taking h) w i → InWants (d.taking h) x j → ref_of w ≡ ref_of x → i ≡ j
  pub to : m.to ≡ k
  pub below : (l : Letter) → Knows d l → l.me < d.next_ref
  pub mine : m.letter.me < d.next_ref
  pub answers : (l : Letter) → Knows d l → R l.me ≡ false → l.answers < d.next_ref
  pub played : (l : Letter) → Knows d l → d.live l.from ≡ true → d.raw l.from ≡ false → R l.me ≡ false
  pub refs : (h : ℕ) (w : Want) → Wants d h w → ref_of w < d.next_ref
  pub own : (h : ℕ) (w : Want) → Wants d h w → R (ref_of w) ≡ false
  pub ids : (h : ℕ) (v : In) → Has v (d.taking h) → in_id v < d.next_ref
  pub positive : 0 < d.next_ref
  pub mute : (ref : ℕ) → R ref ≡ false → IsLive d.queue d.held ref → Mute R d ref
  pub queue : Unread m → (y : Message) → Has y d.queue → y.letter.me ≢ m.letter.me
  pub hand : Unread m → (j : ℕ) (y : Message) → d.held j ≡ Some y → y.letter.me ≡ m.letter.me → j ≡ k
  pub seated : (j : ℕ) (y : Message) → d.held j ≡ Some y → y.to ≡ j
  pub codes : Codes C d
  pub senders : (l : Letter) → Knows d l → R l.me ≡ C l.from
  pub fresh : R d.next_ref ≡ false

module _ (C : ℕ → Bool) (R : Gave) (d : Desk) (k : ℕ) (m : Message) (b : Took C R d k m) (sd : ℕ → List Out) (tk : ℕ → List In)
    (bl hp : ℕ → ℕ → Option (List ℕ)) (sc : Option Scrap) where
  abbrev E : Option Message → Desk
  E l = after d k sd tk bl hp sc l

  kept-file : {h : ℕ} {w : Want} (l : Option Message) → Deed d k m l sd tk sc → (a : Answered d h w) → (f : Scrap) → d.scrap ≡ Some f →
      f.load ≡ a.answer.letter.me → sc ≡ Some f
  kept-file l x a f s load = elim (x.scrap f s) [ inl z ↦ z | inr z ↦ absurd (b.queue z.1 a.answer a.queued (sym load ∙ z.0)) ]

  -- a ref that is spent isn't live
  spent : (ref : ℕ) → IsSpent d ref → Mute R d ref → ⊥
  spent ref (IsSpent.none z) s = let q = s.some in omega (arith, q, z)
  spent ref (IsSpent.named r v has i) s = s.ids r v has i
  spent ref (IsSpent.answered l kn lives plays a) s = s.letters l kn (b.played l kn lives plays) a

  -- ---- a record that waited waits on

  old-waits : (l : Option Message) → Deed d k m l sd tk sc → (h : ℕ) (w : Want) (is : Wants d h w) → Mine C R is → (h ≡ k → For d m h w → ⊥) →
      WaitsFor (E l) h w
  old-waits None x h w is mine other = by (b.waits h w is mine)
    where
      by : Then d m h w → WaitsFor (E None) h w
      by (Then.asking u own) = inl (quiet-asks d k sd tk bl hp sc u)
      by (Then.told a) = inr (quiet-told d k sd tk bl hp sc a (kept-file None x a))
      by (Then.due to f) = absurd (other (sym to ∙ b.to) f)
  old-waits (Some n) x h w is mine other = by (b.waits h w is mine)
    where
      s : Sends d k m sc n
      s = x.sends n refl

      by : Then d m h w → WaitsFor (E (Some n)) h w
      by (Then.told a) = inr (sent-told d k sd tk bl hp sc n s.from a (kept-file (Some n) x a))
      by (Then.due to f) = absurd (other (sym to ∙ b.to) f)
      by (Then.asking u own) = elim s.answers [
        | inl z ↦ inl (other-asks (λ e. spent n.letter.answers z (subst (Mute R d) (sym e) (b.mute (ref_of w) (b.own h w is) u.live))))
        | inr r ↦ elim (eqb_tells n.letter.answers (ref_of w)) [
          | inl e ↦
              let o = own (sym r.answers ∙ e.1) in
              inr (record {
                answer = n;
                queued = Has-right n d.queue (n ∷ []) (inl refl);
                to = r.to ∙ o.1.0;
                from = s.from ∙ sym b.to ∙ o.1.1.0;
                answers = e.1;
                unread = r.unread;
                tells = r.tells w (d.buf h) (d.file h) o.1.1.1;
              })
          | inr e ↦ inl (other-asks e.1)
        ]
      ]
        where
          other-asks : n.letter.answers ≢ ref_of w → Unanswered (E (Some n)) h w
          other-asks ne = sent-asks d k sd tk bl hp sc n s.from s.me (b.refs h w is) ne u

  -- a new one waits for what the letter asks

  new-waits : (l : Option Message) → Deed d k m l sd tk sc → (h : ℕ) (w : Want) → h ≡ k → Anew d k l w → WaitsFor (E l) h w
  new-waits l x h w own a =
      subst (λ (o : Option Message). WaitsFor (E o) h w) (sym a.is) (subst (λ j. WaitsFor (E (Some n)) j w) (sym own) (inl here))
    where
      n : Message
      n = a.n

      now : ref_of w ≡ d.next_ref
      now = a.ref

      s : Sends d k m sc n
      s = x.sends n a.is

      mine : (y : Message) → n ≡ y → Ours (E (Some n)) k w y
      mine y e = subst (Ours (E (Some n)) k w) e (record { from = s.from; asks = a.asks; way = inl (a.code, a.to) })

      never : {A : Type 0} (y : Message) → Knows d y.letter → y.letter.me ≡ ref_of w → A
      never y kn e = absurd (let z = b.below y.letter kn in omega (arith, z, e, now))

      here : Unanswered (E (Some n)) k w
      here = record {
        live = IsLive.waits n (Has-right n d.queue (n ∷ []) (inl refl)) (s.me ∙ sym now);
        queue = λ y has e. elim (Has-append y d.queue (n ∷ []) has) [
          | inl a ↦ never y (Known.queued y a refl) e
          | inr a ↦ elim a [ inl c ↦ mine y c | inr c ↦ absurd c ]
        ];
        held = λ j y is e. never y (Known.kept j y (still_is d k n.letter.answers j y is) refl) e;
      }

  same-file : (l : Option Message) → (E l).file ≡ d.file
  same-file None = refl
  same-file (Some n) = refl

  waits-after : (l : Option Message) → Deed d k m l sd tk sc → (h : ℕ) (w : Want) (x : Wants (E l) h w) → Mine C R x → WaitsFor (E l) h w
  waits-after l x h w (HasWant.comes z) mine = by (x.ins h z.one w z.has z.wants)
    where
      by : {P : Type 0} → Origin d k m l h w (Has z.one (d.taking h)) P → WaitsFor (E l) h w
      by (was o other) = old-waits l x h w (HasWant.comes (record { one = z.one; has = o; wants = z.wants; id = z.id })) mine other
      by (new a own p) = new-waits l x h w own a
  waits-after l x h w (HasWant.goes z) mine =
      by (x.outs h z.one w z.has (ap (λ (f : ℕ → Bool). want_out (f h) z.one) (sym (same-file l)) ∙ z.wants))
    where
      by : Origin d k m l h w (OutWants (d.sending h) (d.file h) w) (Unit {0}) → WaitsFor (E l) h w
      by (was o other) = old-waits l x h w (HasWant.goes o) mine other
      by (new a own p) = new-waits l x h w own a

  -- ---- refs

  -- where no letter is new, what is live then was so
  module _ (n : Message) (s : Sends d k m sc n) where
    new-ref : (y : Message) → Has y (n ∷ []) → y.letter.me ≡ d.next_ref
    new-ref y (inl e) = ap (λ (z : Message). z.letter.me) (sym e) ∙ s.me
    new-ref y (inr never) = absurd never

    pub sent-live : (ref : ℕ) → IsLive (sent d k n).queue (sent d k n).held ref → (ref ≡ d.next_ref) ⊎ IsLive d.queue d.held ref
    sent-live ref (IsLive.waits y has me) = elim (Has-append y d.queue (n ∷ []) has) [
      | inl a ↦ inr (IsLive.waits y a me)
      | inr a ↦ inl (sym me ∙ new-ref y a)
    ]
    sent-live ref (IsLive.rests j y is me) = inr (IsLive.rests j y (still_is d k n.letter.answers j y is) me)

    replied : Unread m → n.letter.answers ≡ m.letter.me → IsLive (sent d k n).queue (sent d k n).held n.letter.answers → ⊥
    replied un a (IsLive.waits y has me) = elim (Has-append y d.queue (n ∷ []) has) [
      | inl g ↦ b.queue un y g (me ∙ a)
      | inr g ↦ let z = new-ref y g in let q = s.below in omega (arith, z, me, q)
    ]
    replied un a (IsLive.rests j y is me) =
        let here : j ≡ k = b.hand un j y (still_is d k n.letter.answers j y is) (me ∙ a) in
        still-gone (d.held k) n.letter.answers y (sym (put_same d.held k (still_held (d.held k) n.letter.answers)) ∙
        subst (λ i. put d.held k (still_held (d.held k) n.letter.answers) i ≡ Some y) here is) me

    -- the message that the letter answers is live no more
    quiet : R n.letter.answers ≡ false → IsLive (sent d k n).queue (sent d k n).held n.letter.answers → ⊥
    quiet mine live = elim s.answers [
      | inl z ↦ elim (sent-live n.letter.answers live) [
        | inl now ↦ let q = s.below in omega (arith, now, q)
        | inr old ↦ spent n.letter.answers z (b.mute n.letter.answers mine old)
      ]
      | inr r ↦ replied r.came r.answers live
    ]

  -- a letter that is known then
  pub knows-after : (l : Option Message) → Deed d k m l sd tk sc → (a : Letter) → Knows (E l) a → Knows d a ⊎ ((n : Message) × ((l ≡ Some n) × (a ≡ n.letter)))
  knows-after None x a kn = inl kn
  knows-after (Some n) x a kn = elim (sent_knows d k n (x.sends n refl).from a kn) [ inl c ↦ inl c | inr c ↦ inr (n, (refl, c)) ]

  -- a ref that is live then is new, or was live and isn't answered
  live-after : (l : Option Message) → Deed d k m l sd tk sc → (ref : ℕ) → R ref ≡ false → IsLive (E l).queue (E l).held ref →
      (ref ≡ d.next_ref) ⊎ (IsLive d.queue d.held ref × ((n : Message) → l ≡ Some n → n.letter.answers ≢ ref))
  live-after None x ref mine live = inr (live, λ n e. absurd (none_some None refl e))
  live-after (Some o) x ref mine live = elim (sent-live o (x.sends o refl) ref live) [
    | inl now ↦ inl now
    | inr old ↦ inr (
      old,
      λ n e same.
          let one : o ≡ n = cc in
          let here : o.letter.answers ≡ ref = ap (λ (z : Message). z.letter.answers) one ∙ same in
          quiet o (x.sends o refl) (ap R here ∙ mine) (subst (IsLive (sent d k o).queue (sent d k o).held) (sym here) live),
    )
  ]

  mute-after : (l : Option Message) → Deed d k m l sd tk sc → (ref : ℕ) → R ref ≡ false → IsLive (E l).queue (E l).held ref → Mute R (E l) ref
  mute-after l x ref mine live = elim (live-after l x ref mine live) [
    | inl now ↦ record {
      some = let z = b.positive in omega (arith, z, now);
      letters = λ a kn own e. elim (knows-after l x a kn) [
        | inl c ↦ let z = b.answers a c own in omega (arith, z, now, e)
        | inr c ↦ let z = (x.sends c.0 c.1.0).below in let q = ap (λ (y : Letter). y.answers) c.1.1 in omega (arith, z, now, e, q)
      ];
      ids = λ r v has e. elim (x.ids r v has) [
        | inl z ↦ let q = b.ids z.0 z.1.0 z.1.1.0 in let i = z.1.1.1 in omega (arith, q, i, now, e)
        | inr z ↦ let q = (x.sends z.0 z.1.0).below in let i = z.1.1 in omega (arith, q, i, now, e)
      ];
    }
    | inr old ↦ let s = b.mute ref mine old.0 in record {
      some = s.some;
      letters = λ a kn own e. elim (knows-after l x a kn) [
        | inl c ↦ s.letters a c own e
        | inr c ↦ old.1 c.0 c.1.0 (ap (λ (y : Letter). y.answers) (sym c.1.1) ∙ e)
      ];
      ids = λ r v has e. elim (x.ids r v has) [ inl z ↦ s.ids z.0 z.1.0 z.1.1.0 (z.1.1.1 ∙ e) | inr z ↦ old.1 z.0 z.1.0 (sym z.1.1 ∙ e) ];
    }
  ]

  -- ---- all of it

  seated-after : (l : Option Message) → (j : ℕ) (y : Message) → (E l).held j ≡ Some y → y.to ≡ j
  seated-after None j y is = b.seated j y is
  seated-after (Some n) j y is = b.seated j y (still_is d k n.letter.answers j y is)

  codes-after : (l : Option Message) → Codes C (E l)
  codes-after None = record { manners = b.codes.manners; unborn = b.codes.unborn }
  codes-after (Some n) = record { manners = b.codes.manners; unborn = b.codes.unborn }

  apart-after : (l : Option Message) → Deed d k m l sd tk sc → (h : ℕ) (w y : Want) (i j : ℕ) → InWants ((E l).taking h) w i →
      InWants ((E l).taking h) y j → ref_of w ≡ ref_of y → i ≡ j
  apart-after l x h w y i j p q e = sym p.id ∙ by (x.ins h p.one w p.has p.wants) (x.ins h q.one y q.has q.wants) ∙ q.id
    where
      old : {u : Want} (v : In) → Has v (d.taking h) → want_in v ≡ Some u → InWants (d.taking h) u (in_id v)
      old v has wants = record { one = v; has = has; wants = wants; id = refl }

      by : {A B : Type 0} → Origin d k m l h w (Has p.one (d.taking h)) ((in_id p.one ≡ x.fresh) × A) →
          Origin d k m l h y (Has q.one (d.taking h)) ((in_id q.one ≡ x.fresh) × B) → in_id p.one ≡ in_id q.one
      by (was o f) (was r g) = b.apart h w y _ _ (old p.one o p.wants) (old q.one r q.wants) e
      by (was o f) (new n own is) = absurd (let z = b.refs h w (HasWant.comes (old p.one o p.wants)) in let r = n.ref in omega (arith, z, e, r))
      by (new n own is) (was r g) = absurd (let z = b.refs h y (HasWant.comes (old q.one r q.wants)) in let q = n.ref in omega (arith, z, e, q))
      by (new n own is) (new n2 own2 is2) = is.0 ∙ sym is2.0

  -- the letter is of the task
  senders-after : C k ≡ false → (l : Option Message) → Deed d k m l sd tk sc → (a : Letter) → Knows (E l) a → R a.me ≡ C a.from
  senders-after mine l x a kn = elim (knows-after l x a kn) [
    | inl c ↦ b.senders a c
    | inr c ↦
        let s = x.sends c.0 c.1.0 in
        ap (λ (y : Letter). R y.me) c.1.1 ∙ ap R s.me ∙ b.fresh ∙ sym mine ∙ ap C (sym s.from) ∙ ap (λ (y : Letter). C y.from) (sym c.1.1)
  ]

  pub deed-played : C k ≡ false → (l : Option Message) → Deed d k m l sd tk sc → PlayedWait C R (E l)
  deed-played mine l x = record {
    waits = waits-after l x;
    apart = apart-after l x;
    mute = mute-after l x;
    seated = seated-after l;
    codes = codes-after l;
    senders = senders-after mine l x;
  }
