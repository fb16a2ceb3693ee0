-- What becomes of a transfer whose sender's record says Done: no live offer was answered, a record's fetch is the first that
-- its task sent in answer, and each record of the transfer has ended or has its last transmit in the queue.
use Rattle.rh_laws.proofs.Common.{Active, Has, Taking, ap, inl, inr, refl, subst, sym, false, ℕ, ◌+◌, ◌<◌, ◌∙◌, ◌≡◌, ◌≢◌, ◌≤◌, ◌⊎◌}
use Rattle.rh_safety.specs.RawIds.{Gave}
use Rattle.rh_safety.proofs.Ends.{Asking, Draining, Fetching, In, In_done, In_failed, Letter, Message, Open, Out, Out_done, Out_failed, Plain, RamTransmit}
use Rattle.rh_safety.proofs.Ends.{in_id}
use Rattle.rh_safety.proofs.Invariant.{IsLive, Knows}
use Rattle.rh_safety.proofs.Sight.{Desk}
use Rattle.rh_laws.proofs.Wants.{Onward, Was, part}

-- ---- what holds

-- the transfer with the id was answered: its record that goes out says Done, or its last message isn't the offer
abbrev pub Begun : ℕ → Out → Type 0
Begun i (Open x) = (x.id ≡ i) × (x.last ≢ x.id)
Begun i (Out_done j n) = j ≡ i
Begun i (Out_failed j n) = ⊥

-- no transfer of P that was answered has the ref of a live message for an id
abbrev pub Unbegun : (ℕ → Type 0) → Desk → Type 0
Unbegun P d = (ref : ℕ) → P ref → IsLive d.queue d.held ref → (s : ℕ) (v : Out) → Has v (d.sending s) → Begun ref v → ⊥

-- no letter of the task that answers what its record's fetch answers is older, where the transfer isn't theirs
abbrev pub IsFirst : Gave → Desk → Type 0
IsFirst R d =
    (r : ℕ) (t : Taking) → Active (d.taking r) t → R t.id ≡ false → (l k : Letter) → Knows d l → Knows d k → k.me ≡ t.fetch → l.from ≡ r →
    l.answers ≡ k.answers → t.fetch ≤ l.me

-- the message has the last bytes of the record's document, of n in all; room is the size of the task's buffers
pub record Final (room s r n : ℕ) (t : Taking) (m : Message) : Type 0 where
  pub sender : t.sender ≡ s
  pub code : m.code ≡ Plain
  pub to : m.to ≡ r
  pub from : m.letter.from ≡ s
  pub kind : m.letter.kind ≡ RamTransmit
  pub answers : m.letter.answers ≡ t.fetch
  pub address : m.letter.address ≡ t.buffer
  pub short : m.letter.amount < room
  pub whole : t.count + m.letter.amount ≡ n

-- a record of task r whose sender s says Done with n bytes has ended, or such a message that passes the test is for it
abbrev pub Ends : (Message → Type 0) → ℕ → ℕ → ℕ → ℕ → In → Type 0
Ends Q room s r n (Fetching t) = (m : Message) × (Q m × Final room s r n t m)
Ends Q room s r n (Draining t) = (m : Message) × (Q m × Final room s r n t m)
Ends Q room s r n (Asking q) = ⊥
Ends Q room s r n (In_done i a k) = Unit {0}
Ends Q room s r n (In_failed i a k) = Unit {0}

abbrev pub AllEnd : (Message → Type 0) → Desk → Type 0
AllEnd Q d = (s i n r : ℕ) (w : In) → Has (Out_done i n) (d.sending s) → Has w (d.taking r) → in_id w ≡ i → Ends Q (d.buf r) s r n w

abbrev pub IsQueued : Desk → Message → Type 0
IsQueued d m = Has m d.queue

-- P says which transfers were offered to a task that isn't theirs, R which refs are theirs
pub record Matched (P : ℕ → Type 0) (R : Gave) (d : Desk) : Type 0 where
  pub unbegun : Unbegun P d
  pub first : IsFirst R d
  pub ends : AllEnd (IsQueued d) d

-- of fewer transfers
pub matched-of : {P Q : ℕ → Type 0} {R : Gave} {d : Desk} → ((ref s : ℕ) (v : Out) → Has v (d.sending s) → Begun ref v → Q ref → P ref) →
    Matched P R d → Matched Q R d
matched-of less f = record { unbegun = λ ref q live s v has b. f.unbegun ref (less ref s v has b q) live s v has b; first = f.first; ends = f.ends }

-- the record has a buffer
abbrev pub IsActive : In → Taking → Type 0
IsActive w t = (w ≡ Fetching t) ⊎ (w ≡ Draining t)

pub ends-map : {P Q : Message → Type 0} {room new s r n : ℕ} (w : In) → new ≡ room →
    ((t : Taking) → IsActive w t → (m : Message) → Final room s r n t m → P m → Q m) → Ends P room s r n w → Ends Q new s r n w
ends-map {P} {Q} {room} {new} {s} {r} {n} w same f e = by w refl e
  where
    final : (t : Taking) → IsActive w t → (m : Message) × (P m × Final room s r n t m) → (m : Message) × (Q m × Final new s r n t m)
    final t is x = (x.0, (f t is x.0 x.1.1 x.1.0, subst (λ j. Final j s r n t x.0) (sym same) x.1.1))

    by : (v : In) → w ≡ v → Ends P room s r n v → Ends Q new s r n v
    by (Fetching t) is x = final t (inl is) x
    by (Draining t) is x = final t (inr is) x
    by (Asking q) is x = x
    by (In_done i a k) is x = tt
    by (In_failed i a k) is x = tt

-- ---- edits that send nothing

-- a record that comes in is as before, or was given up
pub data Like (u v : In) : Type 0 where
  unchanged : u ≡ v → Like u v
  drains : (f : Taking) → u ≡ Fetching f → v ≡ Draining f → Like u v
  fails : (i a n : ℕ) → in_id u ≡ i → v ≡ In_failed i a n → Like u v

pub like-id : {u v : In} → Like u v → in_id v ≡ in_id u
like-id (Like.unchanged e) = ap in_id (sym e)
like-id (Like.drains f e g) = ap in_id g ∙ ap in_id (sym e)
like-id (Like.fails i a n e g) = ap in_id g ∙ sym e

like-active : {u v : In} (t : Taking) → Like u v → IsActive v t → IsActive u t
like-active t (Like.unchanged e) (inl is) = inl (e ∙ is)
like-active t (Like.unchanged e) (inr is) = inr (e ∙ is)
like-active t (Like.drains f e g) (inl is) = absurd (let z : Draining f ≡ Fetching t = sym g ∙ is in (cc))
like-active t (Like.drains f e g) (inr is) = let z : Draining f ≡ Draining t = sym g ∙ is in let one : f ≡ t = cc in inl (e ∙ ap Fetching one)
like-active t (Like.fails i a n e g) (inl is) = absurd (let z : In_failed i a n ≡ Fetching t = sym g ∙ is in (cc))
like-active t (Like.fails i a n e g) (inr is) = absurd (let z : In_failed i a n ≡ Draining t = sym g ∙ is in (cc))

like-ends : (P : In → Type 0) {u v : In} → ((f : Taking) → P (Fetching f) → P (Draining f)) → ((i a n : ℕ) → P (In_failed i a n)) → Like u v → P u → P v
like-ends P drain fail (Like.unchanged e) x = subst P e x
like-ends P drain fail (Like.drains f e g) x = subst P (sym g) (drain f (subst P e x))
like-ends P drain fail (Like.fails i a c e g) x = subst P (sym g) (fail i a c)

-- the messages were there, or came back since; records are as before, or given up
pub record Edit (d e : Desk) : Type 0 where
  pub on : (ref : ℕ) → Onward d e (part ref 0 0)
  pub knows : (l : Letter) → Knows e l → Knows d l
  pub taking : (r : ℕ) (v : In) → Has v (e.taking r) → (u : In) × (Has u (d.taking r) × Like u v)
  pub sending : (s : ℕ) (v : Out) → Has v (e.sending s) → Has v (d.sending s) ⊎ ((i : ℕ) × ((n : ℕ) × (v ≡ Out_failed i n)))
  pub room : (r : ℕ) (v : In) → Has v (e.taking r) → e.buf r ≡ d.buf r
  pub stays : (r : ℕ) (v : In) → Has v (e.taking r) → (m : Message) → m.code ≡ Plain → m.to ≡ r → Has m d.queue → Has m e.queue

was-one : {d : Desk} {ref : ℕ} (m : Message) → m.letter.me ≡ ref → Was d m → IsLive d.queue d.held ref
was-one m me (Was.in_queue y has s) = IsLive.waits y has (ap (λ (z : Message). z.letter.me) (sym s) ∙ me)
was-one m me (Was.in_hand k is) = IsLive.rests k m is me
was-one m me (Was.back_queue y has l c to) = IsLive.waits y has (ap (λ (z : Letter). z.me) (sym l) ∙ me)
was-one m me (Was.back_hand k y is l c to) = IsLive.rests k y is (ap (λ (z : Letter). z.me) (sym l) ∙ me)

-- a ref of a live message was one
pub was-live : {d e : Desk} {ref : ℕ} → Onward d e (part ref 0 0) → IsLive e.queue e.held ref → IsLive d.queue d.held ref
was-live on (IsLive.waits m has me) = was-one m me (on.queue m has me)
was-live on (IsLive.rests j m is me) = was-one m me (on.held j m is me)

module _ {d e : Desk} (on : (ref : ℕ) → Onward d e (part ref 0 0)) (knows : (l : Letter) → Knows e l → Knows d l)
    (taking : (r : ℕ) (v : In) → Has v (e.taking r) → (u : In) × (Has u (d.taking r) × Like u v))
    (sending : (s : ℕ) (v : Out) → Has v (e.sending s) → Has v (d.sending s) ⊎ ((i : ℕ) × ((n : ℕ) × (v ≡ Out_failed i n)))) where
  pub edit-unbegun : {P : ℕ → Type 0} → Unbegun P d → Unbegun P e
  edit-unbegun unbegun ref p live s v has b = elim (sending s v has) [
    | inl z ↦ unbegun ref p (was-live (on ref) live) s v z b
    | inr z ↦ subst (Begun ref) z.1.1 b
  ]

  pub edit-first : (R : Gave) → IsFirst R d → IsFirst R e
  edit-first R first r t act mine l k kn_l kn_k me from same = first r t (old act) mine l k (knows l kn_l) (knows k kn_k) me from same
    where
      here : (v : In) → Has v (e.taking r) → IsActive v t → Active (d.taking r) t
      here v has is =
          let u = taking r v has in
          elim (like-active t u.1.1 is) [
            | inl z ↦ inl (subst (λ y. Has y (d.taking r)) z u.1.0)
            | inr z ↦ inr (subst (λ y. Has y (d.taking r)) z u.1.0)
          ]

      old : Active (e.taking r) t → Active (d.taking r) t
      old (inl has) = here (Fetching t) has (inl refl)
      old (inr has) = here (Draining t) has (inr refl)

pub edit-matched : {P : ℕ → Type 0} {R : Gave} {d e : Desk} → Edit d e → Matched P R d → Matched P R e
edit-matched {R = R} {d = d} {e = e} x f = record {
  unbegun = edit-unbegun x.on x.knows x.taking x.sending f.unbegun;
  first = edit-first x.on x.knows x.taking x.sending R f.first;
  ends = ends;
}
  where
    ends : AllEnd (IsQueued e) e
    ends s i n r w done has id = elim (x.sending s (Out_done i n) done) [
      | inl old ↦
          let u = x.taking r w has in
          let before = f.ends s i n r u.0 old u.1.0 (sym (like-id u.1.1) ∙ id) in
          ends-map w (x.room r w has) (λ t is m fin there. x.stays r w has m fin.code fin.to there)
          (like-ends (Ends (IsQueued d) (d.buf r) s r n) (λ f e. e) (λ i a c. tt) u.1.1 before)
      | inr z ↦ absurd (let e : Out_done i n ≡ Out_failed z.0 z.1.0 = z.1.1 in (cc))
    ]
