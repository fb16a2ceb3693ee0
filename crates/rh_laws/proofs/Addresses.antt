-- What holds of a run: each record, each DataSave that is queued and each that was sent last agree with what was offered.
use Rattle.rh_laws.proofs.Common.{◌≡◌, ℕ, ◌+◌, ◌≤◌, Bool, false, true, List, [], ◌∷◌, Option, Some, None, refl, sym, subst, inl, inr, arith, ◌==◌, nat_le}
use Rattle.rh_laws.proofs.Common.{AllByRecursion}
use Rattle.rh_laws.proofs.Common.{eqb_tells, Body, EventCode, User, Recorded, Acknowledge, Letter, Outgoing, Incoming, Taking, Parcel, Post, as_returned}
use Rattle.rh_laws.proofs.Common.{in_id, out_id, with_id, Slot, Desk, Task, edit_task, free_pages, send_letter, with_delivered, with_post, with_sending}
use Rattle.rh_laws.proofs.Common.{with_slot, with_taking, with_task, taking_ended, OnGrant, chosen, granted, granted-with, all-mono, append-all, Has, at_place}
use Rattle.rh_defs.specs.AnyMessage.{read_body}
use Rattle.rh_defs.specs.declared.message.Body.TheVariants as body
use Rattle.rh_defs.specs.declared.transfer.Outgoing.TheVariants as outgoing
use Rattle.rh_defs.specs.declared.transfer.Incoming.TheVariants as incoming
use Rattle.rh_defs.specs.Records.{dropped, one_more}
use Rattle.rh_safety.proofs.Acts.{is_back}
use Rattle.rh_laws.specs.Addressed.{Addresses, AgreesIn, AgreesOut, From, Parties}
use Rattle.rh_laws.proofs.Queues.{Left, sent-is}

-- ---- what agrees

-- a message with the ref, from the one task to the other: where it is a DataSave, that was offered so
abbrev pub BodyAgrees : Addresses → ℕ → ℕ → ℕ → Body → Type 0
BodyAgrees a s r ref (body.DataSave file) = From (a ref) s r
BodyAgrees a s r ref b = Unit {0}

-- one that goes back says nothing
abbrev pub CodeAgrees : EventCode → Type 0 → Type 0
CodeAgrees User agrees = agrees
CodeAgrees Recorded agrees = agrees
CodeAgrees Acknowledge agrees = Unit {0}

-- one that didn't come back
pub code-says : (c : EventCode) {P : Type 0} → CodeAgrees c P → is_back c ≡ false → P
code-says User p e = p
code-says Recorded p e = p
code-says Acknowledge p e = absurd (let z : true ≡ false = e in (cc))

abbrev pub ParcelAgrees : Addresses → Parcel → Type 0
ParcelAgrees a p = CodeAgrees p.code (BodyAgrees a p.message.from p.to p.message.my_ref (read_body p.message.body))

-- what a task sent last
abbrev pub LastAgrees : Addresses → ℕ → Option (Letter × ℕ) → Type 0
LastAgrees a h None = Unit {0}
LastAgrees a h (Some last) = BodyAgrees a h last.0.to last.1 (read_body last.0.body)

abbrev pub OutAgrees : Addresses → ℕ → Outgoing → Type 0
OutAgrees a h v = AgreesOut (a (out_id v)) h v

abbrev pub InAgrees : Addresses → ℕ → Incoming → Type 0
InAgrees a h w = AgreesIn (a (in_id w)) h w

abbrev pub OutsAgree : Addresses → ℕ → List Outgoing → Type 0
OutsAgree a h vs = AllByRecursion (OutAgrees a h) vs

abbrev pub InsAgree : Addresses → ℕ → List Incoming → Type 0
InsAgree a h ws = AllByRecursion (InAgrees a h) ws

-- what a task has of transfers, by its handle
pub record HandleAgrees (a : Addresses) (h : ℕ) (last : Option (Letter × ℕ)) (sending : List Outgoing) (taking : List Incoming) :
    Type 0 where
  pub sent : LastAgrees a h last
  pub outs : OutsAgree a h sending
  pub ins : InsAgree a h taking

abbrev pub TaskAgrees : Addresses → Task → Type 0
TaskAgrees a t = HandleAgrees a t.handle t.last_sent t.sending t.taking

-- all tasks and the queue agree, and no ref that wasn't given is of a transfer
pub record AllAgree (a : Addresses) (next : ℕ) (tasks : List Task) (queued : List Parcel) : Type 0 where
  pub born : (i : ℕ) → next ≤ i → a i ≡ None
  pub of_tasks : AllByRecursion (TaskAgrees a) tasks
  pub mail : AllByRecursion (ParcelAgrees a) queued

abbrev pub Agrees : Addresses → Desk → Type 0
Agrees a d = AllAgree a d.post.next_ref d.tasks d.post.queued

-- ---- one more transfer

-- what was addressed stays so
abbrev pub Extends : Addresses → Addresses → Type 0
Extends a b = (i : ℕ) (p : Parties) → a i ≡ Some p → b i ≡ Some p

-- a ref that was none's
pub new-extends : (a : Addresses) (ref : ℕ) (v : Option Parties) → a ref ≡ None → Extends a (at_place a ref v)
new-extends a ref v none i p q = elim (eqb_tells i ref) [
  | inl w ↦ let here : a ref ≡ Some p = subst (λ j. a j ≡ Some p) w.1 q in absurd cc
  | inr w ↦ rw w.0 q
]

-- refs that are given later are still none's
pub new-born : (a : Addresses) (next : ℕ) (v : Option Parties) → ((i : ℕ) → next ≤ i → a i ≡ None) →
    (i : ℕ) → next + 1 ≤ i → at_place a next v i ≡ None
new-born a next v born i low = elim (eqb_tells i next) [
  | inl w ↦ absurd (let e = w.1 in omega (arith, low, e))
  | inr w ↦ rw w.0 (born i (omega (arith, low)))
]

pub new-here : (a : Addresses) (ref : ℕ) (v : Option Parties) → at_place a ref v ref ≡ v
new-here a ref v = elim (eqb_tells ref ref) [ inl w ↦ rw w.0 refl | inr w ↦ absurd (w.1 refl) ]

module _ (a b : Addresses) (more : Extends a b) where
  body-extends : (s r ref : ℕ) (c : Body) → BodyAgrees a s r ref c → BodyAgrees b s r ref c
  body-extends s r ref (body.DataSave file) is = more ref _ is
  body-extends s r ref _ is = tt

  code-extends : (c : EventCode) {P Q : Type 0} → (P → Q) → CodeAgrees c P → CodeAgrees c Q
  code-extends User f is = f is
  code-extends Recorded f is = f is
  code-extends Acknowledge f is = tt

  parcel-extends : (p : Parcel) → ParcelAgrees a p → ParcelAgrees b p
  parcel-extends p is = code-extends p.code (body-extends p.message.from p.to p.message.my_ref (read_body p.message.body)) is

  last-extends : (h : ℕ) (last : Option (Letter × ℕ)) → LastAgrees a h last → LastAgrees b h last
  last-extends h None is = tt
  last-extends h (Some last) is = body-extends h last.0.to last.1 (read_body last.0.body) is

  out-extends : (h : ℕ) (v : Outgoing) → OutAgrees a h v → OutAgrees b h v
  out-extends h (outgoing.Open x) is = more x.id _ is
  out-extends h (outgoing.Done id n) is = (is.0, more id _ is.1)
  out-extends h (outgoing.Failed id n) is = (is.0, more id _ is.1)

  in-extends : (h : ℕ) (w : Incoming) → InAgrees a h w → InAgrees b h w
  in-extends h (incoming.Fetching f) is = more f.id _ is
  in-extends h (incoming.Draining f) is = more f.id _ is
  in-extends h (incoming.Asking q) is = more q.id _ is
  in-extends h (incoming.Done id k n) is = (is.0, more id _ is.1)
  in-extends h (incoming.Failed id k n) is = (is.0, more id _ is.1)

  task-extends : (t : Task) → TaskAgrees a t → TaskAgrees b t
  task-extends t is = record {
    sent = last-extends t.handle t.last_sent is.sent;
    outs = all-mono (out-extends t.handle) t.sending is.outs;
    ins = all-mono (in-extends t.handle) t.taking is.ins;
  }

  pub tasks-extend : (ts : List Task) → AllByRecursion (TaskAgrees a) ts → AllByRecursion (TaskAgrees b) ts
  tasks-extend ts all = all-mono task-extends ts all

  pub mail-extends : (ps : List Parcel) → AllByRecursion (ParcelAgrees a) ps → AllByRecursion (ParcelAgrees b) ps
  mail-extends ps all = all-mono parcel-extends ps all

-- ---- lists

-- a member of a list
pub all-has : {A : Type 0} (P : A → Type 0) (xs : List A) (x : A) → AllByRecursion P xs → Has x xs → P x
all-has P [] x all has = absurd has
all-has P (y ∷ xs) x all (inl same) = subst P same all.0
all-has P (y ∷ xs) x all (inr has) = all-has P xs x all.1 has

-- the task that is edited, and the others
pub all-edit : (P : Task → Type 0) (h : ℕ) (f : Task → Task) → ((t : Task) → t.handle ≡ h → P t → P (f t)) → (ts : List Task) →
    AllByRecursion P ts → AllByRecursion P (edit_task h f ts)
all-edit P h f keeps [] all = tt
all-edit P h f keeps (t ∷ ts) all = elim (eqb_tells t.handle h) [
  | inl w ↦ rw w.0 (keeps t w.1 all.0, all.1)
  | inr w ↦ rw w.0 (all.0, all-edit P h f keeps ts all.1)
]

-- a record written anew
pub all-with : {A : Type 0} (P : A → Type 0) (id_of : A → ℕ) (id : ℕ) (new : A) (xs : List A) → P new → AllByRecursion P xs →
    AllByRecursion P (with_id id_of id new xs)
all-with P id_of id new [] p all = tt
all-with P id_of id new (x ∷ xs) p all =
    (chosen P (id_of x == id) new x p all.0, all-with P id_of id new xs p all.1)

all-dropped : {A : Type 0} (P : A → Type 0) (lasts : A → Bool) (xs : List A) → AllByRecursion P xs → AllByRecursion P (dropped lasts xs)
all-dropped P lasts [] all = tt
all-dropped P lasts (x ∷ xs) all =
    chosen (AllByRecursion P) (lasts x) (x ∷ dropped lasts xs) xs (all.0, all-dropped P lasts xs all.1) all.1

-- one more record
pub all-more : {A : Type 0} (P : A → Type 0) (lasts : A → Bool) (new : A) (xs : List A) → P new → AllByRecursion P xs →
    AllByRecursion P (one_more lasts new xs)
all-more P lasts new xs p all =
    append-all P _ new (chosen (AllByRecursion P) (nat_le _ _) (dropped lasts xs) xs (all-dropped P lasts xs all) all) p

-- ---- desks

-- a message that goes back says nothing of whom it is for
pub back-agrees : (a : Addresses) (p : Parcel) → ParcelAgrees a (as_returned p)
back-agrees a p = tt

module _ {a : Addresses} where
  pub task-agrees : (h : ℕ) (f : Task → Task) → ((t : Task) → t.handle ≡ h → TaskAgrees a t → TaskAgrees a (f t)) → (d : Desk) →
      Agrees a d → Agrees a (with_task h f d)
  unfolding with_task
  task-agrees h f keeps d g = record { born = g.born; of_tasks = all-edit (TaskAgrees a) h f keeps d.tasks g.of_tasks; mail = g.mail }

  pub slot-agrees : (h : ℕ) (s : Slot) (d : Desk) → Agrees a d → Agrees a (with_slot h s d)
  slot-agrees h s d g = task-agrees h (λ (t : Task). record t { slot = s }) (λ t same is. is) d g

  pub outs-agree : (h : ℕ) (edit : List Outgoing → List Outgoing) → ((vs : List Outgoing) → OutsAgree a h vs → OutsAgree a h (edit vs)) →
      (d : Desk) → Agrees a d → Agrees a (with_sending h edit d)
  outs-agree h edit keeps d g =
      task-agrees h (λ (t : Task). record t { sending = edit t.sending }) (λ t same is. record {
        sent = is.sent;
        outs = subst (λ j. OutsAgree a j (edit t.sending)) (sym same) (keeps t.sending (subst (λ j. OutsAgree a j t.sending) same is.outs));
        ins = is.ins;
      }) d g

  pub ins-agree : (h : ℕ) (edit : List Incoming → List Incoming) → ((ws : List Incoming) → InsAgree a h ws → InsAgree a h (edit ws)) →
      (d : Desk) → Agrees a d → Agrees a (with_taking h edit d)
  ins-agree h edit keeps d g =
      task-agrees h (λ (t : Task). record t { taking = edit t.taking }) (λ t same is. record {
        sent = is.sent;
        outs = is.outs;
        ins = subst (λ j. InsAgree a j (edit t.taking)) (sym same) (keeps t.taking (subst (λ j. InsAgree a j t.taking) same is.ins));
      }) d g

  pub ended-agrees : (h : ℕ) (f : Taking) (edit : List Incoming → List Incoming) →
      ((ws : List Incoming) → InsAgree a h ws → InsAgree a h (edit ws)) → (d : Desk) → Agrees a d → Agrees a (taking_ended h f edit d)
  unfolding taking_ended
  ended-agrees h f edit keeps d g = ins-agree h edit keeps _ (task-agrees h _ (λ t same is. is) d g)

  pub delivered-agrees : (p : Post) (d : Desk) → Left (ParcelAgrees a) (back-agrees a) d.post p → Agrees a d → Agrees a (with_delivered p d)
  unfolding with_delivered
  delivered-agrees p d left g = record {
    born = λ i low. g.born i (subst (λ n. n ≤ i) left.next low);
    of_tasks = g.of_tasks;
    mail = left.mail g.mail;
  }

-- where no message came or went
pub still-agrees : {a : Addresses} (p : Post) (d : Desk) → p.queued ≡ d.post.queued → p.next_ref ≡ d.post.next_ref → Agrees a d →
    Agrees a (with_delivered p d)
unfolding with_delivered
still-agrees {a} p d queued next g = record {
  born = λ i low. g.born i (subst (λ n. n ≤ i) next low);
  of_tasks = g.of_tasks;
  mail = subst (AllByRecursion (ParcelAgrees a)) (sym queued) g.mail;
}

-- ---- letters

module _ (a b : Addresses) (more : Extends a b) (l : Letter) (d : Desk) where
  code-agrees : (c : EventCode) {P : Type 0} → P → CodeAgrees c P
  code-agrees User p = p
  code-agrees Recorded p = p
  code-agrees Acknowledge p = tt

  -- after a letter that agrees with what is then addressed
  pub letter-agrees : ((i : ℕ) → d.post.next_ref + 1 ≤ i → b i ≡ None) → BodyAgrees b l.from l.to d.post.next_ref (read_body l.body) → Agrees a d →
      OnGrant (Agrees b) (send_letter l d)
  unfolding send_letter
  letter-agrees born is g =
      granted-with _ (sent-is (free_pages d) l d.post) λ x w.
      granted (task-agrees l.from (λ (t : Task). record t { last_sent = Some (l, x.1) }) (λ t same old. record {
        sent = subst (λ j. BodyAgrees b j l.to x.1 (read_body l.body)) (sym same)
            (subst (λ n. BodyAgrees b l.from l.to n (read_body l.body)) (sym w.ref) is);
        outs = old.outs;
        ins = old.ins;
      }) (with_post x.0 d) (record {
        born = λ i low. born i (subst (λ n. n ≤ i) w.next low);
        of_tasks = tasks-extend a b more d.tasks g.of_tasks;
        mail = subst (AllByRecursion (ParcelAgrees b)) (sym w.queued) (append-all (ParcelAgrees b) d.post.queued _
            (mail-extends a b more d.post.queued g.mail) (code-agrees l.code is));
      }))

-- a letter that offers nothing
pub plain-agrees : {a : Addresses} (l : Letter) (d : Desk) → BodyAgrees a l.from l.to d.post.next_ref (read_body l.body) → Agrees a d →
    OnGrant (Agrees a) (send_letter l d)
plain-agrees {a} l d is g = letter-agrees a a (λ i p q. q) l d (λ i low. g.born i (omega (arith, low))) is g
