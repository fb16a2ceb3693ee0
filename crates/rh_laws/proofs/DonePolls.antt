-- What holds of transfers whose sender says Done once a poll took a message: the fetch that a record answers is its receiver's own.
use Rattle.rh_laws.proofs.Common.{Active, Bool, Edits, Good, Has, List, None, Offers, Option, Sending, Some, Taking, [], ap, arith, false, inl, inr, length}
use Rattle.rh_laws.proofs.Common.{map, refl}
use Rattle.rh_laws.proofs.Common.{option_map, same_value, subst, sym, true, ℕ, ◌+◌, ◌∙◌, ◌∷◌, ◌≡◌, ◌≤◌, ◌⊎◌}
use Rattle.rh_safety.specs.RawIds.{Gave}
use Rattle.rh_safety.proofs.Basics.{first_has}
use Rattle.rh_safety.proofs.Ends.{DataLoadAck, DataSave, Draining, Fetching, In, Letter, Message, Open, Out, Out_done, Out_failed, RamFetch, RamTransmit}
use Rattle.rh_safety.proofs.Ends.{Recorded}
use Rattle.rh_safety.proofs.Ends.{Returned, first_for, in_id, is_going}
use Rattle.rh_safety.proofs.Invariant.{IsLive, IsWaiting, Known, Knows, Rises, Unread, Waits}
use Rattle.rh_safety.proofs.Masks.{mask_knows, mask_same, masked, masked_letter, masked_message}
use Rattle.rh_safety.proofs.Polls.{Waiter, would_tells}
use Rattle.rh_safety.proofs.Posts.{first_below}
use Rattle.rh_safety.proofs.Raws.{Raws, mine_out}
use Rattle.rh_safety.proofs.SeenPosts.{with_scrap}
use Rattle.rh_safety.proofs.Sight.{Desk, Scrap, returned, would_answer}
use Rattle.rh_laws.specs.Addressed.{Addresses, From, Parties}
use Rattle.rh_laws.proofs.DoneDeeds.{Taken}
use Rattle.rh_laws.proofs.DoneEdits.{returned-queue}
use Rattle.rh_laws.proofs.Dones.{Ends, IsFirst, IsQueued, Like, Matched, Unbegun, edit-first, edit-unbegun, ends-map, unchanged, was-live}
use Rattle.rh_laws.proofs.PlayedDeeds.{Codes, Mute, PlayedWait, Took, mask-has}
use Rattle.rh_laws.proofs.WantEdits.{Picks, has-without, left_by, picked-letters, picked-on}
use Rattle.rh_laws.proofs.Wants.{Answered, HasWant, Onward, WaitsFor, part}

-- what is known of both ends: a record that comes in is of the recipient, and where that task tells that it loaded the file the
-- records of the transfer have ended; A says whom what was offered to, and so say open records and offers that are queued
pub record Pairs (A : Addresses) (R : Gave) (d : Desk) : Type 0 where
  pub home : (s : ℕ) (x : Sending) (r : ℕ) (w : In) → Has (Open x) (d.sending s) → Has w (d.taking r) → in_id w ≡ x.id → r ≡ x.recipient
  pub told : (m : Message) → Has m d.queue → Unread m → m.letter.kind ≡ DataLoadAck → R m.letter.me ≡ false → (s : ℕ) (x : Sending) →
      Has (Open x) (d.sending s) → m.letter.answers ≡ x.last → m.letter.from ≡ x.recipient → (r : ℕ) (w : In) → Has w (d.taking r) → in_id w ≡ x.id →
      is_going w ≡ false
  pub offered : (s : ℕ) (x : Sending) → Has (Open x) (d.sending s) → From (A x.id) s x.recipient
  pub offers : (m : Message) → Has m d.queue → Unread m → m.letter.kind ≡ DataSave → From (A m.letter.me) m.letter.from m.to

pub returned-pairs : {A : Addresses} {R : Gave} (d : Desk) (k : ℕ) (o : Option Message) → Pairs A R d → Pairs A R (returned d k o)
returned-pairs d k None p = p
returned-pairs d k (Some y) p = record {
  home = p.home;
  told = λ m has un. p.told m (returned-queue d k (Some y) m un has) un;
  offered = p.offered;
  offers = λ m has un. p.offers m (returned-queue d k (Some y) m un has) un;
}

-- the transfer was offered to a task that has no code of its own
pub record IsPlayed (A : Addresses) (C : ℕ → Bool) (ref : ℕ) : Type 0 where
  pub parties : Parties
  pub is : A ref ≡ Some parties
  pub played : C parties.receiver ≡ false

-- a queue that is masked rises
pub rises-masked : (R : Gave) (q : List Message) → Rises (map (masked_message R) q) → Rises q
rises-masked R [] up = tt
rises-masked R (m ∷ q) up = (λ y has. up.0 (masked_message R y) (mask-has R y q has), rises-masked R q up.1)

-- ---- the message

module _ (d : Desk) (k : ℕ) (m : Message) (first : first_for k d.queue ≡ Some m) (hd : ℕ → Option Message) (sc : Option Scrap) (x : Picks d k m hd) where
  abbrev after_it : Desk
  after_it = left_by d k hd sc

  on : (ref : ℕ) → Onward d after_it (part ref 0 0)
  on ref = picked-on d k m first hd sc x (part ref 0 0)

  letters : (l : Letter) → Knows after_it l → Knows d l
  letters = picked-letters d k m first hd sc x

  same_in : (r : ℕ) (v : In) → Has v (d.taking r) → (u : In) × (Has u (d.taking r) × Like u v)
  same_in r v has = (v, (has, unchanged refl))

  same_out : (s : ℕ) (v : Out) → Has v (d.sending s) → Has v (d.sending s) ⊎ ((i : ℕ) × ((n : ℕ) × (v ≡ Out_failed i n)))
  same_out s v has = inl has

  mute-then : {R : Gave} {ref : ℕ} → Mute R d ref → Mute R after_it ref
  mute-then s = record { some = s.some; letters = λ l kn. s.letters l (letters l kn); ids = s.ids }

  first-then : (R : Gave) → IsFirst R d → IsFirst R after_it
  first-then R = edit-first on letters same_in same_out R

  unbegun-then : {P : ℕ → Type 0} → Unbegun P d → Unbegun P after_it
  unbegun-then {P = P} = edit-unbegun on letters same_in same_out {P = P}

  ends-then : (s i n r : ℕ) (w : In) (room : ℕ) → Ends (IsQueued d) room s r n w → Ends (λ y. Has y after_it.queue ⊎ (m ≡ y)) room s r n w
  ends-then s i n r w room = ends-map w refl (λ t is y fin q. elim (has-without k d.queue m y first q) [ inl a ↦ inl a | inr a ↦ inr (sym a) ])

-- a task with no records took a message
pub passed-matched : {P : ℕ → Type 0} {R : Gave} (d : Desk) (k : ℕ) (m : Message) (first : first_for k d.queue ≡ Some m) (hd : ℕ → Option Message)
    (sc : Option Scrap) (x : Picks d k m hd) → ((w : In) → Has w (d.taking k) → ⊥) → Matched P R d → Matched P R (left_by d k hd sc)
passed-matched {R = R} d k m first hd sc x none f = record {
  unbegun = unbegun-then d k m first hd sc x f.unbegun;
  first = first-then d k m first hd sc x R f.first;
  ends = λ s i n r w done has id. ends-map w refl (λ t is y fin q. elim q [
    | inl a ↦ a
    | inr e ↦
        let to : k ≡ r = sym (first_has k d.queue m first).1 ∙ ap (λ (z : Message). z.to) e ∙ fin.to in
        absurd (none w (subst (λ j. Has w (d.taking j)) (sym to) has))
  ]) (ends-then d k m first hd sc x s i n r w (d.buf r) (f.ends s i n r w done has id));
}

module _ {o : Offers} {e : Edits} {A : Addresses} {C H : ℕ → Bool} {R : Gave} (d : Desk) (k : ℕ) (m : Message) (first : first_for k d.queue ≡ Some m)
    (hd : ℕ → Option Message) (sc : Option Scrap) (x : Picks d k m hd) (lives : d.live k ≡ true) (plays : d.raw k ≡ false)
    (f : Matched (IsPlayed A C) R d) (all : PlayedWait C R d) (g : Good o e (masked R (with_scrap sc d))) (raws : Raws R H o (masked R (with_scrap sc d)))
    (p : Pairs A R d) where
  here : Has m d.queue
  here = (first_has k d.queue m first).0

  known : Knows d m.letter
  known = Known.queued m here refl

  M : Desk
  M = masked R (with_scrap sc d)

  -- a letter as it is known where letters are masked
  masked-known : (l : Letter) → Knows d l → Knows M (masked_letter (R l.me) l)
  unfolding M
  masked-known l (Known.queued y has is) = mask_knows R (with_scrap sc d) l (Known.queued y has is)
  masked-known l (Known.kept j y held is) = mask_knows R (with_scrap sc d) l (Known.kept j y held is)
  masked-known l (Known.latest j y last is) = mask_knows R (with_scrap sc d) l (Known.latest j y last is)

  own-known : (l : Letter) → Knows d l → R l.me ≡ false → Knows M l
  own-known l kn own = subst (λ b. Knows M (masked_letter b l)) own (masked-known l kn)

  whose : (l : Letter) → Knows d l → R l.me ≡ H l.from
  unfolding M
  whose l kn = raws.letters _ (masked-known l kn)

  -- a task that has records has no code of its own
  sender-plays : (s : ℕ) (v : Out) → Has v (d.sending s) → H s ≡ false
  sender-plays s v has = mine_out (masked R (with_scrap sc d)) s v raws has

  -- whether the message is theirs
  two : (b : Bool) → R m.letter.me ≡ b → (R m.letter.me ≡ true) ⊎ (R m.letter.me ≡ false)
  two true e = inl e
  two false e = inr e

  -- where it is theirs, no record comes in of a transfer to its sender
  none-there : (y : Sending) → Has (Open y) (d.sending k) → m.letter.from ≡ y.recipient → R m.letter.me ≡ true → (r : ℕ) (w : In) → Has w (d.taking r) →
      in_id w ≡ y.id → ⊥
  none-there y has from theirs r w there id =
      let at : r ≡ m.letter.from = p.home k y r w has there id ∙ sym from in
      subst (Has w) (raws.none_in r (ap H at ∙ sym (whose m.letter known) ∙ theirs)) there

  module _ (y : Sending) (has : Has (Open y) (d.sending k)) (kind : m.letter.kind ≡ RamFetch) (would : would_answer m.letter y ≡ true)
      (fetches : d.file k ≡ false) (there : d.live y.recipient ≡ true) (un : Unread m) (mine : R m.letter.me ≡ false) where
    from : m.letter.from ≡ y.recipient
    from = (would_tells y m.letter would).from

    v : Waits (map (masked_message R) d.queue) (λ j. option_map (masked_message R) (d.held j)) k m.letter y (d.taking m.letter.from) (d.buf m.letter.from)
    unfolding M
    v = g.pending k y has m.letter (record {
      known = own-known m.letter known mine;
      kind = kind;
      answers = (would_tells y m.letter would).answers;
      from = from;
      live = subst (λ j. d.live j ≡ true) (sym from) there;
      fetches = fetches;
    })

    t : Taking
    t = v.taking

    abbrev waits_part : Type 0
    waits_part = WaitsFor d m.letter.from (part t.fetch t.sender t.buffer)

    -- the record's transfer isn't theirs
    own-id : R t.id ≡ false
    unfolding t
    own-id = ap R v.same_id ∙ raws.outs k (Open y) has

    own-fetch : R t.fetch ≡ false
    unfolding t
    own-fetch = raws.fetches m.letter.from t v.is_active

    waits : waits_part
    unfolding t v
    waits = by v.is_active
      where
        by : Active (d.taking m.letter.from) t → waits_part
        by (inl a) = all.waits m.letter.from _ (HasWant.comes (record { one = Fetching t; has = a; wants = refl; id = refl })) own-id
        by (inr a) = all.waits m.letter.from _ (HasWant.comes (record { one = Draining t; has = a; wants = refl; id = refl })) own-id

    -- no answer is queued, as the sender has sent nothing since
    unanswered : Answered d m.letter.from (part t.fetch t.sender t.buffer) → m.letter.me ≡ t.fetch
    unfolding t v M
    unanswered a =
        let kn : Knows d a.answer.letter = Known.queued a.answer a.queued refl in
        let own : R a.answer.letter.me ≡ false = whose a.answer.letter kn ∙ ap H (a.from ∙ v.sender) ∙ sender-plays k (Open y) has in
        let older = (g.inv.boths.older a.answer.letter (own-known a.answer.letter kn own) k y has m.letter.from t v.is_active).older a.tells.0
        (a.from ∙ v.sender) a.answers (sym v.same_id) in
        let newer = v.newer in
        let z = a.answers in
        absurd (omega (arith, older, newer, z))

    -- the record's own fetch is queued, and the first for the task
    own-live : IsLive d.queue d.held t.fetch → m.letter.me ≡ t.fetch
    unfolding t v M
    own-live (IsLive.rests j z is me) = absurd (v.free j (masked_message R z) (ap (option_map (masked_message R)) is) me)
    own-live (IsLive.waits z there me) =
        let own : masked_message R z ≡ z = mask_same R z (ap R me ∙ own-fetch) in
        let w : IsWaiting z k m.letter = subst (λ (q : Message). IsWaiting q k m.letter) own (v.unread (masked_message R z) (mask-has R z d.queue there) me) in
        elim (has-without k d.queue m z first there) [
          | inr same ↦ ap (λ (q : Message). q.letter.me) (sym same) ∙ me
          | inl left ↦
              let unread : Unread z = λ c. let q : Recorded ≡ Returned = sym w.code ∙ c in (cc) in
              let below = first_below k d.queue m first (rises-masked R d.queue g.inv.order.rises) z left w.to un unread in
              let least = f.first m.letter.from t v.is_active own-id m.letter z.letter known (Known.queued z there refl)
              me refl (sym w.answers) in
              absurd (omega (arith, below, least, me))
        ]

    own : m.letter.me ≡ t.fetch
    own = by waits
      where
        by : waits_part → m.letter.me ≡ t.fetch
        by (inl u) = own-live u.live
        by (inr a) = unanswered a

    waiter : (a : Waiter (left_by d k hd sc) k y m.letter) × (m.letter.me ≡ a.taking.fetch)
    unfolding t v
    waiter = (
      record {
        taking = t;
        is_active = subst (λ j. Active (d.taking j) t) from v.is_active;
        same_id = v.same_id;
        sender = v.sender;
        names = v.names;
        amount = v.amount ∙ ap d.buf from;
        newer = v.newer;
        level = v.level;
      },
      own,
    )

  carried : (c : Taking) → Has (Fetching c) (d.taking k) → m.letter.kind ≡ RamTransmit → Unread m → m.letter.from ≡ c.sender → m.letter.answers ≡ c.fetch →
      (s n : ℕ) → Has (Out_done c.id n) (d.sending s) → c.count + m.letter.amount ≤ n
  unfolding M
  carried c has kind un from answers s n done =
      let own : R m.letter.me ≡ false = whose m.letter known ∙ ap H from ∙ sym (raws.senders k c (inl has)) ∙ raws.outs s (Out_done c.id n) done in
      let a = (g.inv.ins.carries m.letter (own-known m.letter known own) k c has).carries kind answers from in
      let b = g.inv.outs.counted s c.id n done in
      let same : length a.all ≡ length b.all = ap (λ (z : List ℕ). length z) (same_value (o c.id) a.offered b.offered) in
      let fits = a.fits in
      let whole = b.whole in
      omega (arith, same, fits, whole)

  -- the offer is for a task that the desk plays, so nothing says that it was answered
  unanswered-offer : Codes C d → Unread m → m.letter.kind ≡ DataSave → (s n : ℕ) → Has (Out_done m.letter.me n) (d.sending s) → ⊥
  unanswered-offer codes un kind s n done =
      f.unbegun m.letter.me (record {
        parties = record { sender = m.letter.from; receiver = m.to };
        is = p.offers m here un kind;
        played = ap C (first_has k d.queue m first).1 ∙ sym (codes.manners k lives) ∙ plays;
      }) (IsLive.waits m here refl) s (Out_done m.letter.me n) done refl

  -- what a record's last message is answered by is live no more
  answered-gone : Unread m → (y : Sending) → Has (Open y) (d.sending k) → m.letter.answers ≡ y.last → m.letter.from ≡ y.recipient → IsPlayed A C y.id →
      (H m.letter.from ≡ true → C m.letter.from ≡ true) → IsLive d.queue d.held m.letter.answers → ⊥
  answered-gone un y has answers from played coded live = elim (two (R m.letter.me) refl) [
    | inl theirs ↦
        let to : C y.recipient ≡ false = ap (λ (z : Parties). C z.receiver) (same_value (A y.id) (p.offered k y has) played.is) ∙ played.played in
        let z : true ≡ false = sym (coded (sym (whose m.letter known) ∙ theirs)) ∙ ap C from ∙ to in (cc)
    | inr mine ↦
        let own : R m.letter.answers ≡ false = ap R answers ∙ raws.lasts k y has in
        (all.mute m.letter.answers own live).letters m.letter known mine refl
  ]

  pub taken-matched : (H m.letter.from ≡ true → C m.letter.from ≡ true) → Took C R (left_by d k hd sc) k m → Taken (IsPlayed A C) C R (left_by d k hd sc) k m
  taken-matched coded before = record {
    unbegun = unbegun-then d k m first hd sc x f.unbegun;
    first = first-then d k m first hd sc x R f.first;
    ends = λ s i n r w done has id. ends-then d k m first hd sc x s i n r w (d.buf r) (f.ends s i n r w done has id);
    heard = record {
      lives = lives;
      plays = plays;
      mute = λ kind mine. mute-then d k m first hd sc x (all.mute m.letter.me mine (IsLive.waits m here refl));
      offer = λ un kind mine s n done. unanswered-offer all.codes un kind s n done;
      answers = λ un y has answers from of_p live. answered-gone un y has answers from of_p coded
          (was-live (on d k m first hd sc x m.letter.answers) live);
      waiter = λ y has kind would fetches there un r w taken id. elim (two (R m.letter.me) refl) [
        | inl theirs ↦ absurd (none-there y has (would_tells y m.letter would).from theirs r w taken id)
        | inr mine ↦ waiter y has kind would fetches there un mine
      ];
      told = λ un kind y has answers from r w taken id. elim (two (R m.letter.me) refl) [
        | inl theirs ↦ absurd (none-there y has from theirs r w taken id)
        | inr mine ↦ p.told m here un kind mine k y has answers from r w taken id
      ];
      home = λ y r w has. p.home k y r w has;
      carried = carried;
      nobody = λ un y has from theirs r w. none-there y has from theirs r w;
      filler = λ un c has from mine. whose m.letter known ∙ ap H from ∙ sym (raws.senders k c (inl has)) ∙ mine;
      senders = λ l kn s v has from. whose l (letters d k m first hd sc x l kn) ∙ ap H from ∙ sender-plays s v has;
      out_ids = raws.outs;
    };
    before = before;
    outs = g.inv.order.out_below;
    ascends = g.inv.order.ins;
  }
