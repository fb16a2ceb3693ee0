-- What is known on a masked desk of tasks with code of their own, beside its invariant. R says of which refs they are the senders,
-- H which handles are theirs, o what each id offers: of theirs, what was taken so far.
use Rattle.rh_safety.proofs.Common.{◌≡◌, ◌≢◌, ℕ, ◌+◌, ◌≤◌, ◌<◌, Bool, true, false, List, [], ◌∷◌, ◌++◌, Option, Some, None, refl, sym, ap, ◌∙◌, subst}
use Rattle.rh_safety.proofs.Common.{◌⊎◌, inl, inr, arith, eqb_tells, DataSave, RamTransmit, Letter, Message, Sending, Taking, Asked, Out, Open, In}
use Rattle.rh_safety.proofs.Common.{Fetching, Draining, Asking, In_done, In_failed, out_id, in_id, is_growing, Has, Active, put, put_same, put_other, first_for}
use Rattle.rh_safety.proofs.Common.{with_id, without_first, Offered, Knows, queued, Counted, Unread, Inv}
use Rattle.rh_safety.specs.RawIds.{Gave}
use Rattle.rh_safety.specs.Counts.{counted_in}
use Rattle.rh_safety.proofs.Ends.{Kind}
use Rattle.rh_defs.specs.declared.message.Action.TheVariants as kind
use Rattle.rh_safety.proofs.Sight.{Desk, Scrap, back, back_held, bounced_for, for_others, killed, returned, sent, started}
use Rattle.rh_safety.proofs.Basics.{Has-append, first_has, without_has}
use Rattle.rh_safety.proofs.Invariant.{Rises}
use Rattle.rh_safety.proofs.Moves.{Lets, Fewer, Move, fewer_active, move_active, move_with, none_left}
use Rattle.rh_safety.proofs.Sends.{Quiet, sent_knows}
use Rattle.rh_safety.proofs.Posts.{OneMore, back_has, back_held_codes, bounced_codes, for_others_has, killed_known, picked_known, returned_known, started_known}
use Rattle.rh_safety.proofs.Masks.{foreign, masked, unmasked}
use Rattle.rh_safety.proofs.Strangers.{Alone, Holds_less, foreign_knows}

-- whether a kind is one of the six
abbrev pub is_known : Kind → Bool
is_known (kind.Other n) = false
is_known k = true

-- K are the letters known, q the queue
pub record RawParts (R : Gave) (H : ℕ → Bool) (o : Offered) (K : Letter → Type 0) (q : List Message) (live raw : ℕ → Bool)
    (sending : ℕ → List Out) (taking : ℕ → List In) (next handle : ℕ) : Type 0 where
  -- who sent which ref
  pub refs : (i : ℕ) → next ≤ i → R i ≡ false
  pub letters : (l : Letter) → K l → R l.me ≡ H l.from
  pub kinds : (l : Letter) → K l → is_known l.kind ≡ true
  -- a record that goes out, its last message, and the fetch and the DataSaveAck of one that comes in are the desk's
  pub outs : (s : ℕ) (v : Out) → Has v (sending s) → R (out_id v) ≡ false
  pub lasts : (s : ℕ) (x : Sending) → Has (Open x) (sending s) → R x.last ≡ false
  pub fetches : (r : ℕ) (t : Taking) → Active (taking r) t → R t.fetch ≡ false
  pub acks : (r : ℕ) (w : Asked) → Has (Asking w) (taking r) → R w.ack ≡ false
  -- a record that comes in is of its sender; none of theirs drains
  pub senders : (r : ℕ) (t : Taking) → Active (taking r) t → R t.id ≡ H t.sender
  pub flags : (r : ℕ) (t : Taking) → Has (Fetching t) (taking r) → t.raw ≡ R t.id
  pub drains : (r : ℕ) (t : Taking) → Has (Draining t) (taking r) → R t.id ≡ false
  pub askers : (r : ℕ) (w : Asked) → Has (Asking w) (taking r) → R w.id ≡ H w.sender
  -- what theirs offers was taken
  pub exact : (r : ℕ) (w : In) → Has w (taking r) → R (in_id w) ≡ true → Counted o (in_id w) (counted_in w)
  -- an id is of one task, and of no message that is to come
  pub one : (r s : ℕ) (v w : In) → Has v (taking r) → Has w (taking s) → in_id v ≡ in_id w → r ≡ s
  pub fresh : (r : ℕ) (w : In) (m : Message) → Has w (taking r) → Has m q → Unread m → in_id w ≢ m.letter.me
  -- they have no records, and their handles were given
  pub none_out : (h : ℕ) → H h ≡ true → sending h ≡ []
  pub none_in : (h : ℕ) → H h ≡ true → taking h ≡ []
  pub handles : (h : ℕ) → handle ≤ h → H h ≡ false
  pub manners : (h : ℕ) → live h ≡ true → raw h ≡ H h
  pub given : (r : ℕ) (t : Taking) → Active (taking r) t → t.sender < handle
  pub asked : (r : ℕ) (w : Asked) → Has (Asking w) (taking r) → w.sender < handle
  -- nothing was taken of a message of theirs that is to come
  pub empty : (m : Message) → Has m q → Unread m → R m.letter.me ≡ true → o m.letter.me ≡ Some []

abbrev pub Raws : Gave → (ℕ → Bool) → Offered → Desk → Type 0
Raws R H o d = RawParts R H o (Knows d) d.queue d.live d.raw d.sending d.taking d.next_ref d.next_handle

-- ---- fewer letters, messages and records

no_members : {A : Type 0} (xs : List A) → ((x : A) → Has x xs → ⊥) → xs ≡ []
no_members [] none = refl
no_members (x ∷ xs) none = absurd (none x (inl refl))

less_none : {A : Type 0} (old new : ℕ → List A) → Fewer old new → (h : ℕ) → old h ≡ [] → new h ≡ []
less_none old new fewer h none = no_members (new h) (λ x has. subst (λ xs. Has x xs) none (fewer h x has))

pub raws_less : {R : Gave} {H : ℕ → Bool} {o : Offered} {K L : Lets} {q p : List Message} {sending sd : ℕ → List Out}
    {taking tk : ℕ → List In} {live raw lv rw_ : ℕ → Bool} {next handle : ℕ} → ((l : Letter) → L l → K l) → ((y : Message) → Has y p → Unread y → Has y q) →
    Fewer sending sd → Fewer taking tk → ((h : ℕ) → lv h ≡ true → rw_ h ≡ H h) →
    RawParts R H o K q live raw sending taking next handle → RawParts R H o L p lv rw_ sd tk next handle
raws_less {sending = sending} {sd = sd} {taking = taking} {tk = tk} knows old fo fi manners w = record {
  refs = w.refs;
  letters = λ l k. w.letters l (knows l k);
  kinds = λ l k. w.kinds l (knows l k);
  outs = λ s v has. w.outs s v (fo s v has);
  lasts = λ s x has. w.lasts s x (fo s (Open x) has);
  fetches = λ r t has. w.fetches r t (fewer_active taking tk fi r t has);
  acks = λ r q has. w.acks r q (fi r (Asking q) has);
  senders = λ r t has. w.senders r t (fewer_active taking tk fi r t has);
  flags = λ r t has. w.flags r t (fi r (Fetching t) has);
  drains = λ r t has. w.drains r t (fi r (Draining t) has);
  askers = λ r q has. w.askers r q (fi r (Asking q) has);
  exact = λ r v has. w.exact r v (fi r v has);
  one = λ r s v u has there. w.one r s v u (fi r v has) (fi s u there);
  fresh = λ r v m has there un. w.fresh r v m (fi r v has) (old m there un) un;
  none_out = λ h theirs. less_none sending sd fo h (w.none_out h theirs);
  none_in = λ h theirs. less_none taking tk fi h (w.none_in h theirs);
  handles = w.handles;
  manners = manners;
  given = λ r t has. w.given r t (fewer_active taking tk fi r t has);
  asked = λ r q has. w.asked r q (fi r (Asking q) has);
  empty = λ m has un. w.empty m (old m has un) un;
}

-- ---- one letter more

-- with a new ref, of a task of H where R says so
pub raws_more : {R : Gave} {H : ℕ → Bool} {o : Offered} {K L : Lets} {q : List Message} {sending : ℕ → List Out}
    {taking : ℕ → List In} {live raw : ℕ → Bool} {next handle : ℕ} (m : Message) → ((l : Letter) → L l → K l ⊎ (l ≡ m.letter)) → m.letter.me ≡ next →
    H m.letter.from ≡ false → is_known m.letter.kind ≡ true → ((r : ℕ) (w : In) → Has w (taking r) → in_id w < next) →
    RawParts R H o K q live raw sending taking next handle → RawParts R H o L (q ++ m ∷ []) live raw sending taking (next + 1) handle
raws_more {R} {H} {q = q} {next = next} m knows me from known below w = record {
  refs = λ i le. w.refs i (omega (arith, le));
  letters = λ l k. elim (knows l k) [
    | inl a ↦ w.letters l a
    | inr a ↦ ap (λ (z : Letter). R z.me) a ∙ w.refs m.letter.me (omega (arith, me)) ∙ sym from ∙ ap (λ (z : Letter). H z.from) (sym a)
  ];
  kinds = λ l k. elim (knows l k) [ inl a ↦ w.kinds l a | inr a ↦ ap (λ (z : Letter). is_known z.kind) a ∙ known ];
  outs = w.outs;
  lasts = w.lasts;
  fetches = w.fetches;
  acks = w.acks;
  senders = w.senders;
  flags = w.flags;
  drains = w.drains;
  askers = w.askers;
  exact = w.exact;
  one = w.one;
  fresh = λ r v y has there un. elim (Has-append y q (m ∷ []) there) [
    | inl a ↦ w.fresh r v y has a un
    | inr a ↦ elim a [
      | inl b ↦ λ eq. let z = below r v has in let y : y.letter.me ≡ m.letter.me = ap (λ (z : Message). z.letter.me) (sym b) in
          omega (arith, z, y, eq, me)
      | inr b ↦ absurd b
    ]
  ];
  none_out = w.none_out;
  none_in = w.none_in;
  handles = w.handles;
  manners = w.manners;
  given = w.given;
  asked = w.asked;
  empty = λ y there un theirs. elim (Has-append y q (m ∷ []) there) [
    | inl a ↦ w.empty y a un theirs
    | inr a ↦ elim a [
      | inl b ↦ absurd (let z : true ≡ false = sym theirs ∙ ap (λ (z : Message). R z.letter.me) (sym b) ∙ w.refs m.letter.me (omega (arith, me)) in (cc))
      | inr b ↦ absurd b
    ]
  ];
}

-- ---- one record written anew

-- what is asked of one that goes out
abbrev pub OutFits : Gave → Out → Type 0
OutFits R (Open x) = R x.last ≡ false
OutFits R v = Unit {0}

pub raws_out : {R : Gave} {H : ℕ → Bool} {o : Offered} {K : Lets} {q : List Message} {sending : ℕ → List Out}
    {taking : ℕ → List In} {live raw : ℕ → Bool} {next handle : ℕ} (new : ℕ → List Out) (h : ℕ) (v : Out) → Move out_id sending new h v →
    R (out_id v) ≡ false → OutFits R v → H h ≡ false → RawParts R H o K q live raw sending taking next handle →
    RawParts R H o K q live raw new taking next handle
raws_out {R} {H} {sending = sending} new h v move id last mine w = record {
  refs = w.refs;
  letters = w.letters;
  kinds = w.kinds;
  outs = λ s u has. elim (move s u has) [ inl a ↦ w.outs s u a.0 | inr a ↦ ap (λ (z : Out). R (out_id z)) a.1 ∙ id ];
  lasts = λ s x has. elim (move s (Open x) has) [
    | inl a ↦ w.lasts s x a.0
    | inr a ↦ let z : OutFits R (Open x) = subst (OutFits R) (sym a.1) last in z
  ];
  fetches = w.fetches;
  acks = w.acks;
  senders = w.senders;
  flags = w.flags;
  drains = w.drains;
  askers = w.askers;
  exact = w.exact;
  one = w.one;
  fresh = w.fresh;
  none_out = λ k theirs. no_members (new k) (λ x has. elim (move k x has) [
    | inl a ↦ subst (λ xs. Has x xs) (w.none_out k theirs) a.0
    | inr a ↦ absurd (let z : true ≡ false = sym theirs ∙ ap H a.0 ∙ mine in (cc))
  ]);
  none_in = w.none_in;
  handles = w.handles;
  manners = w.manners;
  given = w.given;
  asked = w.asked;
  empty = w.empty;
}

-- what is asked of a record that comes in
abbrev pub InFits : Gave → (ℕ → Bool) → ℕ → In → Type 0
InFits R H handle (Fetching t) = (R t.fetch ≡ false) × (R t.id ≡ H t.sender) × (t.sender < handle) × (t.raw ≡ R t.id)
InFits R H handle (Draining t) = (R t.fetch ≡ false) × (R t.id ≡ H t.sender) × (t.sender < handle) × (R t.id ≡ false)
InFits R H handle (Asking q) = (R q.ack ≡ false) × (R q.id ≡ H q.sender) × (q.sender < handle)
InFits R H handle (In_done i a n) = Unit {0}
InFits R H handle (In_failed i a n) = Unit {0}

-- the record v of task h: its id is no other task's, and no message's that is to come
pub record NewIn (R : Gave) (H : ℕ → Bool) (o : Offered) (q : List Message) (taking : ℕ → List In) (handle h : ℕ) (v : In) : Type 0 where
  pub fits : InFits R H handle v
  pub exact : R (in_id v) ≡ true → Counted o (in_id v) (counted_in v)
  pub one : (r : ℕ) (w : In) → Has w (taking r) → in_id w ≡ in_id v → r ≡ h
  pub fresh : (m : Message) → Has m q → Unread m → in_id v ≢ m.letter.me
  pub mine : H h ≡ false

pub raws_grown : {R : Gave} {H : ℕ → Bool} {o p : Offered} {K : Lets} {q : List Message} {sending : ℕ → List Out}
    {taking : ℕ → List In} {live raw : ℕ → Bool} {next handle : ℕ} (new : ℕ → List In) (h : ℕ) (v : In) → Move in_id taking new h v →
    NewIn R H p q taking handle h v → ((r : ℕ) (u : In) → Has u (taking r) → (r ≡ h → in_id u ≢ in_id v) → R (in_id u) ≡ true → p (in_id u) ≡ o (in_id u)) →
    ((m : Message) → Has m q → Unread m → R m.letter.me ≡ true → p m.letter.me ≡ o m.letter.me) →
    RawParts R H o K q live raw sending taking next handle → RawParts R H p K q live raw sending new next handle
raws_grown {R} {H} {o} {p} {q = q} {taking = taking} {handle = handle} new h v move n others none w =
    let fits = λ (u : In) (e : u ≡ v). let z : InFits R H handle u = subst (InFits R H handle) (sym e) n.fits in z in
    let held = λ (t : Taking) (e : (Fetching t ≡ v) ⊎ (Draining t ≡ v)). elim e as (λ _. (R t.fetch ≡ false) × (R t.id ≡ H t.sender) × (t.sender < handle)) [
      | inl a ↦ let z : InFits R H handle (Fetching t) = fits (Fetching t) a in (z.0, z.1, z.2)
      | inr a ↦ let z : InFits R H handle (Draining t) = fits (Draining t) a in (z.0, z.1, z.2)
    ] in
    record {
      refs = w.refs;
      letters = w.letters;
      kinds = w.kinds;
      outs = w.outs;
      lasts = w.lasts;
      fetches = λ r t has. elim (move_active taking new h v move r t has) [ inl a ↦ w.fetches r t a.0 | inr a ↦ (held t a.1).0 ];
      acks = λ r u has. elim (move r (Asking u) has) [
        | inl a ↦ w.acks r u a.0
        | inr a ↦ let z : InFits R H handle (Asking u) = fits (Asking u) a.1 in z.0
      ];
      senders = λ r t has. elim (move_active taking new h v move r t has) [ inl a ↦ w.senders r t a.0 | inr a ↦ (held t a.1).1 ];
      flags = λ r t has. elim (move r (Fetching t) has) [
        | inl a ↦ w.flags r t a.0
        | inr a ↦ let z : InFits R H handle (Fetching t) = fits (Fetching t) a.1 in z.3
      ];
      drains = λ r t has. elim (move r (Draining t) has) [
        | inl a ↦ w.drains r t a.0
        | inr a ↦ let z : InFits R H handle (Draining t) = fits (Draining t) a.1 in z.3
      ];
      askers = λ r u has. elim (move r (Asking u) has) [
        | inl a ↦ w.askers r u a.0
        | inr a ↦ let z : InFits R H handle (Asking u) = fits (Asking u) a.1 in z.1
      ];
      exact = λ r u has theirs. elim (move r u has) [
        | inl a ↦ let z = w.exact r u a.0 theirs in record {
          all = z.all;
          offered = others r u a.0 a.1 theirs ∙ z.offered;
          whole = z.whole;
        }
        | inr a ↦ subst (λ z. Counted p (in_id z) (counted_in z)) (sym a.1) (n.exact (ap (λ (z : In). R (in_id z)) (sym a.1) ∙ theirs))
      ];
      one = λ r s u y has there eq. elim (move r u has) [
        | inl a ↦ elim (move s y there) [
          | inl b ↦ w.one r s u y a.0 b.0 eq
          | inr b ↦ n.one r u a.0 (eq ∙ ap in_id b.1) ∙ sym b.0
        ]
        | inr a ↦ elim (move s y there) [
          | inl b ↦ a.0 ∙ sym (n.one s y b.0 (sym eq ∙ ap in_id a.1))
          | inr b ↦ a.0 ∙ sym b.0
        ]
      ];
      fresh = λ r u m has there un. elim (move r u has) [
        | inl a ↦ w.fresh r u m a.0 there un
        | inr a ↦ λ eq. n.fresh m there un (ap in_id (sym a.1) ∙ eq)
      ];
      none_out = w.none_out;
      none_in = λ k theirs. no_members (new k) (λ x has. elim (move k x has) [
        | inl a ↦ subst (λ xs. Has x xs) (w.none_in k theirs) a.0
        | inr a ↦ absurd (let z : true ≡ false = sym theirs ∙ ap H a.0 ∙ n.mine in (cc))
      ]);
      handles = w.handles;
      manners = w.manners;
      given = λ r t has. elim (move_active taking new h v move r t has) [ inl a ↦ w.given r t a.0 | inr a ↦ (held t a.1).2 ];
      asked = λ r u has. elim (move r (Asking u) has) [
        | inl a ↦ w.asked r u a.0
        | inr a ↦ let z : InFits R H handle (Asking u) = fits (Asking u) a.1 in z.2
      ];
      empty = λ m has un theirs. none m has un theirs ∙ w.empty m has un theirs;
    }

-- the same, where no id offers anything else
pub raws_in : {R : Gave} {H : ℕ → Bool} {o : Offered} {K : Lets} {q : List Message} {sending : ℕ → List Out}
    {taking : ℕ → List In} {live raw : ℕ → Bool} {next handle : ℕ} (new : ℕ → List In) (h : ℕ) (v : In) → Move in_id taking new h v →
    NewIn R H o q taking handle h v → RawParts R H o K q live raw sending taking next handle → RawParts R H o K q live raw sending new next handle
raws_in new h v move n w = raws_grown new h v move n (λ r u has ne theirs. refl) (λ m has un theirs. refl) w

-- ---- what is offered

-- an id of theirs offers more, and its record counts it
pub raws_other : {R : Gave} {H : ℕ → Bool} {o p : Offered} {K : Lets} {q : List Message} {sending : ℕ → List Out}
    {taking : ℕ → List In} {live raw : ℕ → Bool} {next handle : ℕ} → ((r : ℕ) (w : In) → Has w (taking r) → R (in_id w) ≡ true → p (in_id w) ≡ o (in_id w)) →
    ((m : Message) → Has m q → Unread m → R m.letter.me ≡ true → p m.letter.me ≡ o m.letter.me) →
    RawParts R H o K q live raw sending taking next handle → RawParts R H p K q live raw sending taking next handle
raws_other same none w = record {
  refs = w.refs;
  letters = w.letters;
  kinds = w.kinds;
  outs = w.outs;
  lasts = w.lasts;
  fetches = w.fetches;
  acks = w.acks;
  senders = w.senders;
  flags = w.flags;
  drains = w.drains;
  askers = w.askers;
  exact = λ r v has theirs. let z = w.exact r v has theirs in record {
    all = z.all;
    offered = same r v has theirs ∙ z.offered;
    whole = z.whole;
  };
  one = w.one;
  fresh = w.fresh;
  none_out = w.none_out;
  none_in = w.none_in;
  handles = w.handles;
  manners = w.manners;
  given = w.given;
  asked = w.asked;
  empty = λ m has un theirs. none m has un theirs ∙ w.empty m has un theirs;
}

-- a task that has a record has no code of its own
pub mine_in : {R : Gave} {H : ℕ → Bool} {o : Offered} (d : Desk) (h : ℕ) (w : In) → Raws R H o d → Has w (d.taking h) → H h ≡ false
mine_in {H = H} d h w raws has = go (H h) refl
  where
    go : (b : Bool) → H h ≡ b → b ≡ false
    go true e = absurd (subst (λ xs. Has w xs) (raws.none_in h e) has)
    go false e = refl

pub mine_out : {R : Gave} {H : ℕ → Bool} {o : Offered} (d : Desk) (h : ℕ) (v : Out) → Raws R H o d → Has v (d.sending h) → H h ≡ false
mine_out {H = H} d h v raws has = go (H h) refl
  where
    go : (b : Bool) → H h ≡ b → b ≡ false
    go true e = absurd (subst (λ xs. Has v xs) (raws.none_out h e) has)
    go false e = refl

-- a record that comes in written anew, with its id
pub raws_renewed : {R : Gave} {H : ℕ → Bool} {o : Offered} (d : Desk) (h : ℕ) (w v : In) → Has w (d.taking h) → in_id v ≡ in_id w →
    InFits R H d.next_handle v → (R (in_id v) ≡ true → Counted o (in_id v) (counted_in v)) → Raws R H o d →
    Raws R H o (record d { taking = put d.taking h (with_id in_id (in_id w) v (d.taking h)) })
raws_renewed d h w v has same fits exact raws =
    raws_in (put d.taking h (with_id in_id (in_id w) v (d.taking h))) h v (move_with in_id d.taking h (in_id w) v same) (record {
      fits = fits;
      exact = exact;
      one = λ r u there eq. raws.one r h u w there has (eq ∙ same);
      fresh = λ m there un eq. raws.fresh h w m has there un (sym same ∙ eq);
      mine = mine_in d h w raws has;
    }) raws

-- a record of theirs that took more
pub raws_took : {R : Gave} {H : ℕ → Bool} {o : Offered} (d : Desk) (h : ℕ) (w v : In) (x : Option (List ℕ)) → Has w (d.taking h) → in_id v ≡ in_id w →
    InFits R H d.next_handle v → Counted (put o (in_id w) x) (in_id v) (counted_in v) → Raws R H o d →
    Raws R H (put o (in_id w) x) (record d { taking = put d.taking h (with_id in_id (in_id w) v (d.taking h)) })
raws_took {o = o} d h w v x has same fits counted raws =
    raws_grown (put d.taking h (with_id in_id (in_id w) v (d.taking h))) h v (move_with in_id d.taking h (in_id w) v same) (record {
      fits = fits;
      exact = λ theirs. counted;
      one = λ r u there eq. raws.one r h u w there has (eq ∙ same);
      fresh = λ m there un eq. raws.fresh h w m has there un (sym same ∙ eq);
      mine = mine_in d h w raws has;
    })
    (λ r u there ne theirs. put_other o (in_id w) x (in_id u) (λ eq. ne (raws.one r h u w there has eq) (eq ∙ sym same)))
    (λ m there un theirs. put_other o (in_id w) x m.letter.me (λ eq. raws.fresh h w m has there un (sym eq))) raws

-- one that goes out
pub raws_turned : {R : Gave} {H : ℕ → Bool} {o : Offered} (d : Desk) (h : ℕ) (w v : Out) → Has w (d.sending h) → out_id v ≡ out_id w →
    OutFits R v → Raws R H o d → Raws R H o (record d { sending = put d.sending h (with_id out_id (out_id w) v (d.sending h)) })
raws_turned {R} d h w v has same fits raws =
    raws_out (put d.sending h (with_id out_id (out_id w) v (d.sending h))) h v (move_with out_id d.sending h (out_id w) v same)
    (ap R same ∙ raws.outs h w has) fits (mine_out d h w raws has) raws

-- no fetch for a record of theirs is to be answered
pub theirs_quiet : {R : Gave} {H : ℕ → Bool} {o : Offered} (d : Desk) (h id : ℕ) → Raws R H o d → R id ≡ true → Quiet d h id
theirs_quiet {R} d h id raws theirs s x has l asks from same =
    let z : true ≡ false = sym theirs ∙ ap R (sym same) ∙ raws.outs s (Open x) has in (cc)

-- ids are below the next ref after a move
pub below_move : (taking : ℕ → List In) (next : ℕ) (new : ℕ → List In) (h : ℕ) (v : In) → Move in_id taking new h v → in_id v < next →
    ((r : ℕ) (w : In) → Has w (taking r) → in_id w < next) → (r : ℕ) (w : In) → Has w (new r) → in_id w < next
below_move taking next new h v move lt old r w has = elim (move r w has) [
  | inl a ↦ old r w a.0
  | inr a ↦ subst (λ (z : In). in_id z < next) (sym a.1) lt
]

-- the next ref isn't theirs yet
pub fresh_ref : {R : Gave} {H : ℕ → Bool} {o : Offered} (d : Desk) → Raws R H o d → R d.next_ref ≡ false
fresh_ref d raws = raws.refs d.next_ref (omega arith)

-- ---- edits of the post

-- a message that another task sends
pub raws_sent : {R : Gave} {H : ℕ → Bool} {o : Offered} (d : Desk) (h : ℕ) (m : Message) → m.letter.from ≡ h →
    m.letter.me ≡ d.next_ref → H h ≡ false → is_known m.letter.kind ≡ true → ((r : ℕ) (w : In) → Has w (d.taking r) → in_id w < d.next_ref) →
    Raws R H o d → Raws R H o (sent d h m)
raws_sent {H = H} d h m own me mine known below w = raws_more m (sent_knows d h m own) me (ap H own ∙ mine) known below w

pub raws_returned : {R : Gave} {H : ℕ → Bool} {o : Offered} (d : Desk) (h : ℕ) (v : Option Message) → d.held h ≡ v → Raws R H o d →
    Raws R H o (returned d h v)
raws_returned d h None is w = w
raws_returned d h (Some m) is w =
    raws_less (returned_known d h m is) (λ y has un. elim (Has-append y d.queue (back d.live m) has) [
      | inl a ↦ a
      | inr a ↦ absurd (un (back_has (d.live m.letter.from) m y a).0)
    ]) (λ s v has. has) (λ s v has. has) w.manners w

pub raws_picked : {R : Gave} {H : ℕ → Bool} {o : Offered} (d : Desk) (h : ℕ) (m : Message) (hd : ℕ → Option Message) → Has m d.queue →
    OneMore d.held hd m → Raws R H o d → Raws R H o (record d { queue = without_first h d.queue; held = hd })
raws_picked d h m hd here one w =
    raws_less (picked_known d h m hd here one) (λ y has un. without_has h d.queue y has) (λ s v has. has) (λ s v has. has) w.manners w

pub raws_killed : {R : Gave} {H : ℕ → Bool} {o : Offered} (d : Desk) (h : ℕ) → Raws R H o d → Raws R H o (killed d h)
raws_killed {H = H} d h w =
    raws_less (killed_known d h) unread (none_left d.sending h) (none_left d.taking h) manners w
  where
    unread : (y : Message) → Has y (killed d h).queue → Unread y → Has y d.queue
    unread y has un = elim (Has-append y (for_others h d.queue) (back_held (put d.live h false) (d.held h)
        ++ bounced_for (put d.live h false) h d.queue) has) [
          | inl a ↦ for_others_has h d.queue y a
          | inr a ↦ elim (Has-append y (back_held (put d.live h false) (d.held h)) (bounced_for (put d.live h false) h d.queue) a) [
            | inl b ↦ absurd (un (back_held_codes (put d.live h false) (d.held h) y b))
            | inr b ↦ absurd (un (bounced_codes (put d.live h false) h d.queue y b))
          ]
        ]

    manners : (k : ℕ) → put d.live h false k ≡ true → put d.raw h false k ≡ H k
    manners k live = elim (eqb_tells k h) [
      | inl a ↦ absurd (let z : false ≡ true = sym (put_same d.live h false) ∙ ap (put d.live h false) (sym a.1) ∙ live in (cc))
      | inr a ↦ put_other d.raw h false k a.1 ∙ w.manners k (sym (put_other d.live h false k a.1) ∙ live)
    ]

-- a new task, of whichever manner
pub raws_started : {R : Gave} {H : ℕ → Bool} {o : Offered} (d : Desk) (buf : ℕ) (deaf file raw : Bool) →
    ((l : Letter) → Knows d l → l.from < d.next_handle) → Raws R H o d →
    Raws R (put H d.next_handle raw) o (started d buf deaf file raw)
raws_started {R} {H} {o} d buf deaf file raw below w =
    let h = d.next_handle in
    let as_was : (k : ℕ) → k < h → H k ≡ put H h raw k = λ k lt. sym (put_other H h raw k (λ eq. omega (arith, lt, eq))) in
    let outs = none_left d.sending h in
    let ins = none_left d.taking h in
    let act : (r : ℕ) (t : Taking) → Active (put d.taking h [] r) t → Active (d.taking r) t = λ r t has.
    fewer_active d.taking (put d.taking h []) ins r t has in
    let knows = started_known d buf deaf file raw in
    record {
      refs = w.refs;
      letters = λ l k. w.letters l (knows l k) ∙ as_was l.from (below l (knows l k));
      kinds = λ l k. w.kinds l (knows l k);
      outs = λ s v has. w.outs s v (outs s v has);
      lasts = λ s x has. w.lasts s x (outs s (Open x) has);
      fetches = λ r t has. w.fetches r t (act r t has);
      acks = λ r q has. w.acks r q (ins r (Asking q) has);
      senders = λ r t has. w.senders r t (act r t has) ∙ as_was t.sender (w.given r t (act r t has));
      flags = λ r t has. w.flags r t (ins r (Fetching t) has);
      drains = λ r t has. w.drains r t (ins r (Draining t) has);
      askers = λ r q has. w.askers r q (ins r (Asking q) has) ∙ as_was q.sender (w.asked r q (ins r (Asking q) has));
      exact = λ r v has. w.exact r v (ins r v has);
      one = λ r s v u has there. w.one r s v u (ins r v has) (ins s u there);
      fresh = λ r v m has. w.fresh r v m (ins r v has);
      none_out = λ k theirs. elim (eqb_tells k h) [
        | inl a ↦ ap (put d.sending h []) a.1 ∙ put_same d.sending h []
        | inr a ↦ put_other d.sending h [] k a.1 ∙ w.none_out k (sym (put_other H h raw k a.1) ∙ theirs)
      ];
      none_in = λ k theirs. elim (eqb_tells k h) [
        | inl a ↦ ap (put d.taking h []) a.1 ∙ put_same d.taking h []
        | inr a ↦ put_other d.taking h [] k a.1 ∙ w.none_in k (sym (put_other H h raw k a.1) ∙ theirs)
      ];
      handles = λ k le. put_other H h raw k (λ eq. omega (arith, le, eq)) ∙ w.handles k (omega (arith, le));
      manners = λ k live. elim (eqb_tells k h) [
        | inl a ↦ ap (put d.raw h raw) a.1 ∙ put_same d.raw h raw ∙ sym (put_same H h raw) ∙ ap (put H h raw) (sym a.1)
        | inr a ↦ put_other d.raw h raw k a.1 ∙ w.manners k (sym (put_other d.live h true k a.1) ∙ live) ∙ sym (put_other H h raw k a.1)
      ];
      given = λ r t has. let z = w.given r t (act r t has) in omega (arith, z);
      asked = λ r q has. let z = w.asked r q (ins r (Asking q) has) in omega (arith, z);
      empty = w.empty;
    }

-- a message that a task with code of its own sends
pub raws_foreign : {R : Gave} {H : ℕ → Bool} {o : Offered} {e : ℕ → ℕ → Bool} (d : Desk) (h : ℕ) (m : Message) (hd : ℕ → Option Message) → Holds_less d hd
    → m.letter.from ≡ h → m.letter.me ≡ d.next_ref → H h ≡ true → is_known m.letter.kind ≡ true →
    Inv o e d → Raws R H o d → Raws (put R d.next_ref true) H (put o d.next_ref (Some [])) (foreign d h m hd)
raws_foreign {R} {H} {o} d h m hd fewer own me theirs known i w =
    let next = d.next_ref in
    let as_was : (k : ℕ) → k < next → put R next true k ≡ R k = λ k lt. put_other R next true k (λ eq. omega (arith, lt, eq)) in
    let knows = foreign_knows d h m hd fewer own in
    let queued_known : (y : Message) → Has y d.queue → Knows d y.letter = λ y a. queued y a refl in
    let fetch : (r : ℕ) (t : Taking) → Active (d.taking r) t → t.fetch < next = λ r t has. (i.ins.buffer r t has).below in
    let active : (r : ℕ) (t : Taking) → Active (d.taking r) t → t.id < next = λ r t has. elim has as (λ _. t.id < next) [
      | inl a ↦ i.order.in_below r (Fetching t) a
      | inr a ↦ i.order.in_below r (Draining t) a
    ] in
    record {
      refs = λ k le. put_other R next true k (λ eq. omega (arith, le, eq)) ∙ w.refs k (omega (arith, le));
      letters = λ l k. elim (knows l k) [
        | inl a ↦ as_was l.me (i.letters.below l a).me ∙ w.letters l a
        | inr a ↦ ap (λ (z : Letter). put R next true z.me) a ∙ ap (put R next true) me ∙ put_same R next true ∙ sym theirs ∙
            ap H (sym own) ∙ ap (λ (z : Letter). H z.from) (sym a)
      ];
      kinds = λ l k. elim (knows l k) [ inl a ↦ w.kinds l a | inr a ↦ ap (λ (z : Letter). is_known z.kind) a ∙ known ];
      outs = λ s u has. as_was (out_id u) (i.order.out_below s u has) ∙ w.outs s u has;
      lasts = λ s x has. as_was x.last (i.outs.source s x has).below ∙ w.lasts s x has;
      fetches = λ r t has. as_was t.fetch (fetch r t has) ∙ w.fetches r t has;
      acks = λ r q has. as_was q.ack (i.loads.ack_below r q has) ∙ w.acks r q has;
      senders = λ r t has. as_was t.id (active r t has) ∙ w.senders r t has;
      flags = λ r t has. w.flags r t has ∙ sym (as_was t.id (active r t (inl has)));
      drains = λ r t has. as_was t.id (active r t (inr has)) ∙ w.drains r t has;
      askers = λ r q has. as_was q.id (i.order.in_below r (Asking q) has) ∙ w.askers r q has;
      exact = λ r u has raw.
          let lt = i.order.in_below r u has in
          let z = w.exact r u has (sym (as_was (in_id u) lt) ∙ raw) in
          record {
            all = z.all;
            offered = put_other o next (Some []) (in_id u) (λ eq. omega (arith, lt, eq)) ∙ z.offered;
            whole = z.whole;
          };
      one = w.one;
      fresh = λ r u y has there un. elim (Has-append y d.queue (m ∷ []) there) [
        | inl a ↦ w.fresh r u y has a un
        | inr a ↦ elim a [
          | inl b ↦ λ eq. let z = i.order.in_below r u has in let y : y.letter.me ≡ m.letter.me = ap (λ (z : Message). z.letter.me) (sym b) in
              omega (arith, z, y, eq, me)
          | inr b ↦ absurd b
        ]
      ];
      none_out = w.none_out;
      none_in = w.none_in;
      handles = w.handles;
      manners = w.manners;
      given = w.given;
      asked = w.asked;
      empty = λ y there un raw. elim (Has-append y d.queue (m ∷ []) there) [
        | inl a ↦
            let lt = (i.letters.below y.letter (queued_known y a)).me in
            put_other o next (Some []) y.letter.me (λ eq. omega (arith, lt, eq)) ∙ w.empty y a un (sym (as_was y.letter.me lt) ∙ raw)
        | inr a ↦ elim a [
          | inl b ↦ ap (λ (z : Message). put o next (Some []) z.letter.me) (sym b) ∙ ap (put o next (Some [])) me ∙ put_same o next (Some [])
          | inr b ↦ absurd b
        ]
      ];
    }

-- ---- what follows

-- a letter of theirs is a DataSave on a masked desk
pub theirs_save : (R : Gave) (d : Desk) (l : Letter) → Knows (masked R d) l → R l.me ≡ true → l.kind ≡ DataSave
theirs_save R d l k theirs =
    let w = unmasked R d l k in
    let me : w.letter.me ≡ l.me = ap (λ (z : Letter). z.me) w.same in
    sym (ap (λ (z : Letter). z.kind) w.same) ∙ (let raw : R w.letter.me ≡ true = ap R me ∙ theirs in rw raw refl)

-- no other unread message has the ref of the first one for a handle
pub first_differs : (h : ℕ) (q : List Message) (m : Message) → first_for h q ≡ Some m → Rises q → (y : Message) →
    Has y (without_first h q) → Unread m → Unread y → y.letter.me ≢ m.letter.me
first_differs h [] m e up y k u v eq = k
first_differs h (x ∷ q) m e up y k u v eq = elim (eqb_tells x.to h) [
  | inl w ↦
      let s : x ≡ m = let z = rw w.0 at e in cc in
      let has : Has y q = rw w.0 at k in
      let less = up.0 y has (subst Unread (sym s) u) v in
      let same : x.letter.me ≡ m.letter.me = ap (λ (z : Message). z.letter.me) s in
      omega (arith, less, same, eq)
  | inr w ↦ elim (let z : Has y (x ∷ without_first h q) = rw w.0 at k in z) [
    | inl s ↦
        let there : Has m q = (first_has h q m (rw w.0 at e)).0 in
        let less = up.0 m there (subst Unread (sym s) v) u in
        let same : x.letter.me ≡ y.letter.me = ap (λ (z : Message). z.letter.me) s in
        omega (arith, less, same, eq)
    | inr r ↦ first_differs h q m (rw w.0 at e) up.1 y r u v eq
  ]
]

-- a record of theirs that grows is the one of its id
pub alone_is : (R : Gave) (H : ℕ → Bool) (o : Offered) (d : Desk) (h : ℕ) (w : In) → Raws R H o (masked R d) →
    Has w (d.taking h) → is_growing w ≡ true → R (in_id w) ≡ true →
    ((q : Asked) (f : Scrap) → Asking q ≡ w → (masked R d).scrap ≡ Some f → ⊥) → Alone (masked R d) h w
alone_is R H o d h w raws has growing theirs unsaved = record {
  has = has;
  growing = growing;
  one = λ r v there eq. raws.one r h v w there has eq;
  outs = λ s v there eq. let z : true ≡ false = sym theirs ∙ ap R (sym eq) ∙ raws.outs s v there in (cc);
  unsent = λ l t k is kind answers from.
      let mine : Has (Fetching t) (d.taking h) = subst (λ v. Has v (d.taking h)) (sym is) has in
      let raw : R t.id ≡ true = ap (λ (v : In). R (in_id v)) is ∙ theirs in
      let from_them : R l.me ≡ true = raws.letters l k ∙ ap H from ∙ sym (raws.senders h t (inl mine)) ∙ raw in
      let save = theirs_save R d l k from_them in
      let z : DataSave ≡ RamTransmit = sym save ∙ kind in (cc);
  unsaved = unsaved;
}
