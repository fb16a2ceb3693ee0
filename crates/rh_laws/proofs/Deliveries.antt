-- What holds of a run: to which transfer the messages of its two ends belong, and which transfers were loaded by whom.
use Rattle.rh_laws.proofs.Common.{◌≡◌, ℕ, ◌+◌, ◌≤◌, Bool, true, false, List, [], ◌∷◌, Option, Some, None, refl, sym, subst, ◌∙◌, inl, inr, arith, ◌==◌}
use Rattle.rh_laws.proofs.Common.{if◌then◌else◌, find, IfSome, AllByRecursion, eqb_tells, Body, EventCode, User, Recorded, Acknowledge, Letter, Outgoing}
use Rattle.rh_laws.proofs.Common.{Incoming, Taking, Parcel, Post, as_returned, Slot, Desk, Task, edit_task, free_pages, send_letter, with_delivered}
use Rattle.rh_laws.proofs.Common.{with_post, with_sending, with_slot, with_taking, with_task, taking_ended, OnGrant, granted, granted-with, all-mono}
use Rattle.rh_laws.proofs.Common.{append-all}
use Rattle.rh_laws.proofs.Common.{none_some, Has, at_place}
use Rattle.rh_defs.specs.AnyMessage.{read_body}
use Rattle.rh_defs.specs.declared.message.Body.TheVariants as body
use Rattle.rh_defs.specs.declared.transfer.Outgoing.TheVariants as outgoing
use Rattle.rh_defs.specs.declared.transfer.Incoming.TheVariants as incoming
use Rattle.rh_safety.specs.RawIds.{Gave}
use Rattle.rh_laws.proofs.Addresses.{CodeAgrees}
use Rattle.rh_laws.proofs.Queues.{Left, sent-is}

-- ---- what agrees

-- the transfer that the message of each ref belongs to, which task loaded the file of which transfer, and which refs
-- tasks with code of their own gave
pub record Marks : Type 0 where
  pub of_ref : ℕ → Option ℕ
  pub loaded : List (ℕ × ℕ)
  pub raw : Gave

-- the task loaded the transfer's file
abbrev pub Loaded : Marks → ℕ → ℕ → Type 0
Loaded a r id = Has (r, id) a.loaded

abbrev pub Unloaded : Marks → ℕ → ℕ → Type 0
Unloaded a r id = Loaded a r id → ⊥

-- the message of the ref belongs to the transfer, where it isn't theirs
abbrev pub IsOf : Marks → ℕ → ℕ → Type 0
IsOf a ref i = a.raw ref ≡ false → a.of_ref ref ≡ Some i

-- a message with these refs from a task: to what it belongs, and that a DataLoadAck's transfer was loaded by that task
abbrev pub Means : Marks → ℕ → ℕ → ℕ → Body → Type 0
Means a from my your (body.DataSave file) = Unit {0}
Means a from my your (body.DataSaveAck file) = a.of_ref my ≡ Some your
Means a from my your (body.DataLoad file) = (i : ℕ) × (a.of_ref my ≡ Some i) × IsOf a your i
Means a from my your (body.DataLoadAck file) = (i : ℕ) × IsOf a your i × Loaded a from i
Means a from my your (body.RamFetch buffer n) = Unit {0}
Means a from my your (body.RamTransmit buffer n) = Unit {0}
Means a from my your (body.Other o) = Unit {0}

-- so it is of those that the desk's own tasks sent
abbrev pub Says : Marks → ℕ → ℕ → ℕ → Body → Type 0
Says a from my your b = a.raw my ≡ false → Means a from my your b

-- one to a task that is not on its way back; none is of a transfer that its recipient loaded
pub record Comes (a : Marks) (to from my your : ℕ) (b : Body) : Type 0 where
  pub says : Says a from my your b
  pub apart : Unloaded a to my

abbrev pub ParcelAgrees : Marks → Parcel → Type 0
ParcelAgrees a p =
    CodeAgrees p.code (Comes a p.to p.message.from p.message.my_ref p.message.your_ref (read_body p.message.body))

pub back-agrees : (a : Marks) (p : Parcel) → ParcelAgrees a (as_returned p)
back-agrees a p = tt

-- what a task sent last
abbrev pub LastAgrees : Marks → ℕ → Option (Letter × ℕ) → Type 0
LastAgrees a h None = Unit {0}
LastAgrees a h (Some last) = Says a h last.1 last.0.your_ref (read_body last.0.body)

-- the last message of an open record belongs to its transfer
abbrev pub OutAgrees : Marks → Outgoing → Type 0
OutAgrees a (outgoing.Open x) = a.of_ref x.last ≡ Some x.id
OutAgrees a (outgoing.Done id n) = Unit {0}
OutAgrees a (outgoing.Failed id n) = Unit {0}

-- the record of a loaded transfer says Done
abbrev pub InAgrees : Marks → ℕ → Incoming → Type 0
InAgrees a h (incoming.Fetching f) = Unloaded a h f.id
InAgrees a h (incoming.Draining f) = Unloaded a h f.id
InAgrees a h (incoming.Asking q) = (a.of_ref q.ack ≡ Some q.id) × Unloaded a h q.id
InAgrees a h (incoming.Done id k n) = Unit {0}
InAgrees a h (incoming.Failed id k n) = Unloaded a h id

-- what of the records that come in is asked, by handle
abbrev pub Ins : Type 1
Ins = ℕ → Incoming → Type 0

-- what a task has of transfers, by its handle
pub record HandleAgrees (a : Marks) (I : Ins) (h : ℕ) (t : Task) : Type 0 where
  pub sent : LastAgrees a h t.last_sent
  pub outs : AllByRecursion (OutAgrees a) t.sending
  pub ins : AllByRecursion (I h) t.taking

-- the task of each handle and the queue agree, and nothing is of a ref that wasn't given
pub record AllAgree (a : Marks) (I : Ins) (next : ℕ) (tasks : List Task) (queued : List Parcel) : Type 0 where
  pub born : (i : ℕ) → next ≤ i → a.of_ref i ≡ None
  pub unloaded : (r i : ℕ) → next ≤ i → Unloaded a r i
  pub of_tasks : (h : ℕ) → IfSome (find (λ (t : Task). t.handle == h) tasks) (HandleAgrees a I h)
  pub mail : AllByRecursion (ParcelAgrees a) queued

abbrev pub AgreesBy : Marks → Ins → Desk → Type 0
AgreesBy a I d = AllAgree a I d.post.next_ref d.tasks d.post.queued

abbrev pub Agrees : Marks → Desk → Type 0
Agrees a d = AgreesBy a (InAgrees a) d

-- ---- more that is known

-- what was known of refs and loads still is, and a ref of theirs is theirs
pub record Grows (a b : Marks) : Type 0 where
  pub refs : (i j : ℕ) → a.of_ref i ≡ Some j → b.of_ref i ≡ Some j
  pub loads : (r i : ℕ) → Loaded a r i → Loaded b r i
  pub raws : (i : ℕ) → b.raw i ≡ false → a.raw i ≡ false

pub grows-same : (a : Marks) → Grows a a
grows-same a = record { refs = λ i j q. q; loads = λ r i has. has; raws = λ i q. q }

pub grows-both : {a b c : Marks} → Grows a b → Grows b c → Grows a c
grows-both x y = record {
  refs = λ i j q. y.refs i j (x.refs i j q);
  loads = λ r i has. y.loads r i (x.loads r i has);
  raws = λ i q. x.raws i (y.raws i q);
}

-- a ref that is given belongs to a transfer, or to none
abbrev pub marked : Marks → ℕ → Option ℕ → Marks
marked a ref v = record a { of_ref = at_place a.of_ref ref v }

pub marked-grows : (a : Marks) (ref : ℕ) (v : Option ℕ) → a.of_ref ref ≡ None → Grows a (marked a ref v)
marked-grows a ref v none = record {
  refs = λ i j q. elim (eqb_tells i ref) [
    | inl w ↦ absurd (none_some (a.of_ref ref) none (subst (λ k. a.of_ref k ≡ Some j) w.1 q))
    | inr w ↦ rw w.0 q
  ];
  loads = λ r i has. has;
  raws = λ i q. q;
}

-- a ref that a task with code of its own gave
abbrev pub given : Marks → ℕ → Marks
given a ref = record a { raw = at_place a.raw ref true }

given-here : (a : Marks) (ref : ℕ) → (given a ref).raw ref ≡ true
given-here a ref = elim (eqb_tells ref ref) [ inl w ↦ rw w.0 refl | inr w ↦ absurd (w.1 refl) ]

pub given-grows : (a : Marks) (ref : ℕ) → Grows a (given a ref)
given-grows a ref = record {
  refs = λ i j q. q;
  loads = λ r i has. has;
  raws = λ i q. not_there (i == ref) i q;
}
  where
    not_there : (b : Bool) (i : ℕ) → (if b then true else a.raw i) ≡ false → a.raw i ≡ false
    not_there true i q = absurd (let z : Bool.true ≡ false = q in (cc))
    not_there false i q = q

pub marked-here : (a : Marks) (ref : ℕ) (v : Option ℕ) → (marked a ref v).of_ref ref ≡ v
marked-here a ref v = elim (eqb_tells ref ref) [ inl w ↦ rw w.0 refl | inr w ↦ absurd (w.1 refl) ]

pub marked-born : (a : Marks) (next : ℕ) (v : Option ℕ) → ((i : ℕ) → next ≤ i → a.of_ref i ≡ None) →
    (i : ℕ) → next + 1 ≤ i → (marked a next v).of_ref i ≡ None
marked-born a next v born i low = elim (eqb_tells i next) [
  | inl w ↦ absurd (let e = w.1 in omega (arith, low, e))
  | inr w ↦ rw w.0 (born i (omega (arith, low)))
]

module _ (a b : Marks) (more : Grows a b) where
  of-grows : (ref i : ℕ) → IsOf a ref i → IsOf b ref i
  of-grows ref i is plays = more.refs ref i (is (more.raws ref plays))

  means-grows : (from my your : ℕ) (c : Body) → Means a from my your c → Means b from my your c
  means-grows from my your (body.DataSave file) is = tt
  means-grows from my your (body.DataSaveAck file) is = more.refs my _ is
  means-grows from my your (body.DataLoad file) is = (is.0, more.refs my _ is.1, of-grows your is.0 is.2)
  means-grows from my your (body.DataLoadAck file) is = (is.0, of-grows your is.0 is.1, more.loads from _ is.2)
  means-grows from my your (body.RamFetch buffer n) is = tt
  means-grows from my your (body.RamTransmit buffer n) is = tt
  means-grows from my your (body.Other o) is = tt

  pub says-grows : (from my your : ℕ) (c : Body) → Says a from my your c → Says b from my your c
  says-grows from my your c is plays = means-grows from my your c (is (more.raws my plays))

  last-grows : (h : ℕ) (last : Option (Letter × ℕ)) → LastAgrees a h last → LastAgrees b h last
  last-grows h None is = tt
  last-grows h (Some last) is = says-grows h last.1 last.0.your_ref (read_body last.0.body) is

  out-grows : (v : Outgoing) → OutAgrees a v → OutAgrees b v
  out-grows (outgoing.Open x) is = more.refs x.last _ is
  out-grows (outgoing.Done id n) is = tt
  out-grows (outgoing.Failed id n) is = tt

  module _ (I J : Ins) (ins : (h : ℕ) (w : Incoming) → I h w → J h w) where
    handle-grows : (h : ℕ) (t : Task) → HandleAgrees a I h t → HandleAgrees b J h t
    handle-grows h t is = record {
      sent = last-grows h t.last_sent is.sent;
      outs = all-mono out-grows t.sending is.outs;
      ins = all-mono (ins h) t.taking is.ins;
    }

    pub tasks-grow : (ts : List Task) → ((h : ℕ) → IfSome (find (λ (t : Task). t.handle == h) ts) (HandleAgrees a I h)) →
        (h : ℕ) → IfSome (find (λ (t : Task). t.handle == h) ts) (HandleAgrees b J h)
    tasks-grow ts all h = go (find (λ (t : Task). t.handle == h) ts) (all h)
      where
        go : (o : Option Task) → IfSome o (HandleAgrees a I h) → IfSome o (HandleAgrees b J h)
        go None is = tt
        go (Some t) is = handle-grows h t is

  module _ (ends : (r i : ℕ) → Loaded b r i → Loaded a r i) where
    pub in-grows : (h : ℕ) (w : Incoming) → InAgrees a h w → InAgrees b h w
    in-grows h (incoming.Fetching f) is = λ has. is (ends h f.id has)
    in-grows h (incoming.Draining f) is = λ has. is (ends h f.id has)
    in-grows h (incoming.Asking q) is = (more.refs q.ack _ is.0, λ has. is.1 (ends h q.id has))
    in-grows h (incoming.Done id k n) is = tt
    in-grows h (incoming.Failed id k n) is = λ has. is (ends h id has)

    parcel-grows : (p : Parcel) → ParcelAgrees a p → ParcelAgrees b p
    parcel-grows p is = by_code p.code (λ c. record {
      says = says-grows p.message.from p.message.my_ref p.message.your_ref (read_body p.message.body) c.says;
      apart = λ has. c.apart (ends p.to p.message.my_ref has);
    }) is
      where
        by_code : (c : EventCode) {P Q : Type 0} → (P → Q) → CodeAgrees c P → CodeAgrees c Q
        by_code User f is = f is
        by_code Recorded f is = f is
        by_code Acknowledge f is = tt

    pub mail-grows : (ps : List Parcel) → AllByRecursion (ParcelAgrees a) ps → AllByRecursion (ParcelAgrees b) ps
    mail-grows ps all = all-mono parcel-grows ps all

-- ---- desks

-- the task that is edited, and the others
module _ (P Q : ℕ → Task → Type 0) (h : ℕ) (f : Task → Task) (same : (t : Task) → (f t).handle ≡ t.handle)
    (keeps : (t : Task) → P h t → Q h (f t)) (others : (j : ℕ) → (j ≡ h → ⊥) → (t : Task) → P j t → Q j t) where
  other-task : (j : ℕ) → (j ≡ h → ⊥) → (o : Option Task) → IfSome o (P j) → IfSome o (Q j)
  other-task j other None is = tt
  other-task j other (Some t) is = others j other t is

  -- the first task, or one behind it
  abbrev FirstOr : Bool → Task → List Task → (Task → Type 0) → ℕ → Type 0
  FirstOr b t ts R j = IfSome (if b then Some t else find (λ (t : Task). t.handle == j) ts) R

  edited-at : (ts : List Task) (j : ℕ) → IfSome (find (λ (t : Task). t.handle == j) ts) (P j) →
      IfSome (find (λ (t : Task). t.handle == j) (edit_task h f ts)) (Q j)
  edited-at [] j is = tt
  edited-at (t ∷ ts) j is = elim (eqb_tells t.handle h) [
    | inl w ↦ rw w.0 (subst (λ k. FirstOr (k == j) (f t) ts (Q j) j) (sym (same t)) (first w.1))
    | inr w ↦ rw w.0 (elim (eqb_tells t.handle j) [
      | inl v ↦ rw v.0 (others j (λ here. w.1 (v.1 ∙ here)) t (at_first v.0))
      | inr v ↦ rw v.0 (edited-at ts j (behind v.0))
    ])
  ]
    where
      at_first : (t.handle == j) ≡ true → P j t
      at_first e = subst (λ b. FirstOr b t ts (P j) j) e is

      behind : (t.handle == j) ≡ false → IfSome (find (λ (t : Task). t.handle == j) ts) (P j)
      behind e = subst (λ b. FirstOr b t ts (P j) j) e is

      first : t.handle ≡ h → FirstOr (t.handle == j) (f t) ts (Q j) j
      first here = elim (eqb_tells t.handle j) [
        | inl v ↦ let mine : P h t = subst (λ k. P k t) (sym v.1 ∙ here) (at_first v.0) in
            rw v.0 (subst (λ k. Q k (f t)) (sym here ∙ v.1) (keeps t mine))
        | inr v ↦ rw v.0 (other-task j (λ there. v.1 (here ∙ sym there)) (find (λ (t : Task). t.handle == j) ts) (behind v.0))
      ]

module _ {a : Marks} {I : Ins} where
  pub task-agrees : (h : ℕ) (f : Task → Task) → ((t : Task) → (f t).handle ≡ t.handle) →
      ((t : Task) → HandleAgrees a I h t → HandleAgrees a I h (f t)) → (d : Desk) → AgreesBy a I d → AgreesBy a I (with_task h f d)
  unfolding with_task
  task-agrees h f same keeps d g = record {
    born = g.born;
    unloaded = g.unloaded;
    of_tasks = λ j. edited-at (HandleAgrees a I) (HandleAgrees a I) h f same keeps (λ k other t is. is) d.tasks j (g.of_tasks j);
    mail = g.mail;
  }

  pub slot-agrees : (h : ℕ) (s : Slot) (d : Desk) → AgreesBy a I d → AgreesBy a I (with_slot h s d)
  slot-agrees h s d g = task-agrees h (λ (t : Task). record t { slot = s }) (λ t. refl) (λ t is. record {
    sent = is.sent;
    outs = is.outs;
    ins = is.ins;
  }) d g

  pub outs-agree : (h : ℕ) (edit : List Outgoing → List Outgoing) →
      ((vs : List Outgoing) → AllByRecursion (OutAgrees a) vs → AllByRecursion (OutAgrees a) (edit vs)) →
      (d : Desk) → AgreesBy a I d → AgreesBy a I (with_sending h edit d)
  outs-agree h edit keeps d g = task-agrees h (λ (t : Task). record t { sending = edit t.sending }) (λ t. refl) (λ t is. record {
    sent = is.sent;
    outs = keeps t.sending is.outs;
    ins = is.ins;
  }) d g

  pub ins-agree : (h : ℕ) (edit : List Incoming → List Incoming) →
      ((ws : List Incoming) → AllByRecursion (I h) ws → AllByRecursion (I h) (edit ws)) →
      (d : Desk) → AgreesBy a I d → AgreesBy a I (with_taking h edit d)
  ins-agree h edit keeps d g = task-agrees h (λ (t : Task). record t { taking = edit t.taking }) (λ t. refl) (λ t is. record {
    sent = is.sent;
    outs = is.outs;
    ins = keeps t.taking is.ins;
  }) d g

  pub ended-agrees : (h : ℕ) (f : Taking) (edit : List Incoming → List Incoming) →
      ((ws : List Incoming) → AllByRecursion (I h) ws → AllByRecursion (I h) (edit ws)) → (d : Desk) → AgreesBy a I d →
      AgreesBy a I (taking_ended h f edit d)
  unfolding taking_ended
  ended-agrees h f edit keeps d g = ins-agree h edit keeps _ (task-agrees h _ (λ t. refl) (λ t is. record {
    sent = is.sent;
    outs = is.outs;
    ins = is.ins;
  }) d g)

  pub delivered-agrees : (p : Post) (d : Desk) → Left (ParcelAgrees a) (back-agrees a) d.post p → AgreesBy a I d →
      AgreesBy a I (with_delivered p d)
  unfolding with_delivered
  delivered-agrees p d left g = record {
    born = λ i low. g.born i (subst (λ n. n ≤ i) left.next low);
    unloaded = λ r i low. g.unloaded r i (subst (λ n. n ≤ i) left.next low);
    of_tasks = g.of_tasks;
    mail = left.mail g.mail;
  }

-- where no message came or went
pub still-agrees : {a : Marks} (p : Post) (d : Desk) → p.queued ≡ d.post.queued → p.next_ref ≡ d.post.next_ref →
    Agrees a d → Agrees a (with_delivered p d)
unfolding with_delivered
still-agrees {a} p d queued next g = record {
  born = λ i low. g.born i (subst (λ n. n ≤ i) next low);
  unloaded = λ r i low. g.unloaded r i (subst (λ n. n ≤ i) next low);
  of_tasks = g.of_tasks;
  mail = subst (AllByRecursion (ParcelAgrees a)) (sym queued) g.mail;
}

-- records that come in of one task written anew, where less is asked of them before
pub ins-become : {a : Marks} {I J : Ins} (h : ℕ) (edit : List Incoming → List Incoming) →
    ((ws : List Incoming) → AllByRecursion (I h) ws → AllByRecursion (J h) (edit ws)) →
    ((j : ℕ) → (j ≡ h → ⊥) → (w : Incoming) → I j w → J j w) → (d : Desk) → AgreesBy a I d → AgreesBy a J (with_taking h edit d)
unfolding with_task
ins-become {a} {I} {J} h edit keeps others d g = record {
  born = g.born;
  unloaded = g.unloaded;
  of_tasks = λ j. edited-at (HandleAgrees a I) (HandleAgrees a J) h (λ (t : Task). record t { taking = edit t.taking })
      (λ t. refl) (λ t is. record { sent = is.sent; outs = is.outs; ins = keeps t.taking is.ins })
      (λ k other t is. record { sent = is.sent; outs = is.outs; ins = all-mono (others k other) t.taking is.ins })
      d.tasks j (g.of_tasks j);
  mail = g.mail;
}

-- ---- letters

-- all that agrees, but that the next ref may belong to a transfer already, and what the letter says
pub record Ready (b : Marks) (J : Ins) (l : Letter) (d : Desk) : Type 0 where
  pub born : (i : ℕ) → d.post.next_ref + 1 ≤ i → b.of_ref i ≡ None
  pub unloaded : (r i : ℕ) → d.post.next_ref ≤ i → Unloaded b r i
  pub of_tasks : (h : ℕ) → IfSome (find (λ (t : Task). t.handle == h) d.tasks) (HandleAgrees b J h)
  pub mail : AllByRecursion (ParcelAgrees b) d.post.queued
  pub says : Says b l.from d.post.next_ref l.your_ref (read_body l.body)

module _ (b : Marks) (J : Ins) (l : Letter) (d : Desk) where
  code-agrees : (c : EventCode) {P : Type 0} → P → CodeAgrees c P
  code-agrees User p = p
  code-agrees Recorded p = p
  code-agrees Acknowledge p = tt

  pub letter-agrees : Ready b J l d → OnGrant (AgreesBy b J) (send_letter l d)
  unfolding send_letter
  letter-agrees is =
      granted-with _ (sent-is (free_pages d) l d.post) λ x w.
      granted (task-agrees l.from (λ (t : Task). record t { last_sent = Some (l, x.1) }) (λ t. refl) (λ t old. record {
        sent = subst (λ n. Says b l.from n l.your_ref (read_body l.body)) (sym w.ref) is.says;
        outs = old.outs;
        ins = old.ins;
      }) (with_post x.0 d) (record {
        born = λ i low. is.born i (subst (λ n. n ≤ i) w.next low);
        unloaded = λ r i low. let more : d.post.next_ref + 1 ≤ i = subst (λ n. n ≤ i) w.next low in
            is.unloaded r i (omega (arith, more));
        of_tasks = is.of_tasks;
        mail = subst (AllByRecursion (ParcelAgrees b)) (sym w.queued) (append-all (ParcelAgrees b) d.post.queued _ is.mail
            (code-agrees l.code (record { says = is.says; apart = is.unloaded l.to d.post.next_ref (omega arith) })));
      }))

-- a letter whose ref belongs to a transfer, or to none
pub marked-agrees : (a : Marks) (v : Option ℕ) (l : Letter) (d : Desk) →
    Says (marked a d.post.next_ref v) l.from d.post.next_ref l.your_ref (read_body l.body) → Agrees a d →
    OnGrant (Agrees (marked a d.post.next_ref v)) (send_letter l d)
marked-agrees a v l d says g =
    let b : Marks = marked a d.post.next_ref v in
    let more = marked-grows a d.post.next_ref v (g.born d.post.next_ref (omega arith)) in
    letter-agrees b (InAgrees b) l d (record {
      born = marked-born a d.post.next_ref v g.born;
      unloaded = g.unloaded;
      of_tasks = tasks-grow a b more (InAgrees a) (InAgrees b) (in-grows a b more (λ r i has. has)) d.tasks g.of_tasks;
      mail = mail-grows a b more (λ r i has. has) d.post.queued g.mail;
      says = says;
    })

-- a letter that belongs to none
pub plain-agrees : (a : Marks) (l : Letter) (d : Desk) → Says a l.from d.post.next_ref l.your_ref (read_body l.body) → Agrees a d →
    OnGrant (Agrees a) (send_letter l d)
plain-agrees a l d says g = letter-agrees a (InAgrees a) l d (record {
  born = λ i low. g.born i (omega (arith, low));
  unloaded = g.unloaded;
  of_tasks = g.of_tasks;
  mail = g.mail;
  says = says;
})

-- a letter of a task with code of its own, by which nothing is said
pub given-agrees : (a : Marks) (l : Letter) (d : Desk) → Agrees a d →
    OnGrant (Agrees (given a d.post.next_ref)) (send_letter l d)
given-agrees a l d g =
    let b : Marks = given a d.post.next_ref in
    let more = given-grows a d.post.next_ref in
    letter-agrees b (InAgrees b) l d (record {
      born = λ i low. g.born i (omega (arith, low));
      unloaded = g.unloaded;
      of_tasks = tasks-grow a b more (InAgrees a) (InAgrees b) (in-grows a b more (λ r i has. has)) d.tasks g.of_tasks;
      mail = mail-grows a b more (λ r i has. has) d.post.queued g.mail;
      says = λ plays. absurd (let z : Bool.true ≡ false = sym (given-here a d.post.next_ref) ∙ plays in (cc));
    })
