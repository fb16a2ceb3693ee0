-- No scrap file is left behind: what holds of the letters, the records and the messages beside it, edit by edit.
use Rattle.rh_laws.proofs.Common.{◌≡◌, ◌≢◌, ℕ, ◌+◌, ◌<◌, Bool, true, false, List, [], ◌∷◌, length, Option, Some, None, refl, sym, ap, subst, ◌∙◌}
use Rattle.rh_laws.proofs.Common.{inl, inr, arith, eqb_tells, IfSome, AllByRecursion, all-mono, none_some, Ok, Body, Post, Heap, Desk, Scrap, Task, edit_task}
use Rattle.rh_laws.proofs.Common.{free_pages, next_ref, send_letter, with_delivered, with_post, with_sending, with_taking, with_task, task_of, taking_ended}
use Rattle.rh_laws.proofs.Common.{appended, without_buffer, Letter, Slot, Taking, Incoming, Outgoing, in_id, OnGrant, granted, granted-then, granted-with}
use Rattle.rh_laws.proofs.Common.{granted-both, any-grant, post_send, held_by, chosen, if◌then◌else◌}
use Rattle.rh_defs.proofs.Chains.{grant-holds}
use Rattle.rh_defs.specs.declared.message.Body.TheVariants as body
use Rattle.rh_defs.specs.declared.message.Message.{Message}
use Rattle.rh_defs.specs.Desk.{kept_scrap, with_module}
use Rattle.rh_defs.specs.Letters.{file_of, scrap_name}
use Rattle.rh_defs.specs.Post.{answers_held, message_of, posted, put_down, queued_in}
unfoldable use Rattle.rh_defs.specs.Post.{post_is_live}
use Rattle.rh_defs.specs.RawTasks.{is_raw}
use Rattle.rh_laws.proofs.Addresses.{all-edit}
use Rattle.rh_laws.proofs.LiveMail.{EachMail, mail-as, own-live, posted-live, posted-mail}

-- ---- refs

-- what the DataLoad of a scrap file says
abbrev pub load_body : Scrap → Body
load_body file = body.DataLoad (file_of (length file.bytes) scrap_name)

-- a ref that was given, and that isn't the scrap file's
pub record IsFree (n : ℕ) (o : Option Scrap) (ref : ℕ) : Type 0 where
  pub given : ref < n
  pub other : (file : Scrap) → o ≡ Some file → ref ≢ file.load

-- a message whose ref was given; one of the scrap file's ref is its DataLoad
pub record IsFine (n : ℕ) (o : Option Scrap) (m : Message) : Type 0 where
  pub given : m.my_ref < n
  pub says : (file : Scrap) → o ≡ Some file → m.my_ref ≡ file.load → m.body ≡ load_body file

-- the last letter of a task without code of its own answers such a ref, and the ids of what comes in are such
pub record TaskRefs (R : ℕ → Type 0) (t : Task) : Type 0 where
  pub letter : is_raw t.manner ≡ false → IfSome t.last_sent (λ y. R y.0.your_ref)
  pub ids : AllByRecursion (λ w. R (in_id w)) t.taking

pub free-later : {n : ℕ} {o : Option Scrap} (ref : ℕ) → IsFree n o ref → IsFree (n + 1) o ref
free-later ref q = let z = q.given in record { given = omega (arith, z); other = q.other }

-- where there is no scrap file
pub none-free : {n : ℕ} (ref : ℕ) → ref < n → IsFree n None ref
none-free ref lt = record { given = lt; other = λ file e. absurd (none_some None refl e) }

-- before a scrap file of the next ref
new-free : {n : ℕ} (file : Scrap) → file.load ≡ n → (ref : ℕ) → ref < n → IsFree (n + 1) (Some file) ref
new-free {n} file is ref lt = record {
  given = omega (arith, lt);
  other = λ f e same. let z : file ≡ f = cc in let y : file.load ≡ f.load = ap (λ (x : Scrap). x.load) z in omega (arith, lt, is, y, same);
}

pub refs-one : (P R : ℕ → Type 0) → ((ref : ℕ) → P ref → R ref) → (t : Task) → TaskRefs P t → TaskRefs R t
refs-one P R keeps t q = record {
  letter = λ plain. some t.last_sent (q.letter plain);
  ids = all-mono (λ w. keeps (in_id w)) t.taking q.ids;
}
  where
    some : (v : Option (Letter × ℕ)) → IfSome v (λ y. P y.0.your_ref) → IfSome v (λ y. R y.0.your_ref)
    some None q = tt
    some (Some y) q = keeps y.0.your_ref q

pub refs-as : (P R : ℕ → Type 0) → ((ref : ℕ) → P ref → R ref) → (ts : List Task) → AllByRecursion (TaskRefs P) ts → AllByRecursion (TaskRefs R) ts
refs-as P R keeps ts all = all-mono (refs-one P R keeps) ts all

-- ---- desks

-- so it is of each task and message, with this next ref and scrap file
pub record Holds (n : ℕ) (o : Option Scrap) (d : Desk) : Type 0 where
  pub next : next_ref d ≡ n
  pub file : d.scrap ≡ o
  pub low : 0 < n
  pub given : (file : Scrap) → o ≡ Some file → (0 < file.load) × (file.load < n)
  pub refs : AllByRecursion (TaskRefs (IsFree n o)) d.tasks
  pub mail : EachMail (IsFine n o) d.post

-- and the scrap file's DataLoad is queued or held
pub record Stays (n : ℕ) (o : Option Scrap) (d : Desk) : Type 0 where
  pub holds : Holds n o d
  pub live : (file : Scrap) → o ≡ Some file → post_is_live file.load d.post ≡ true

pub record Kept (d : Desk) : Type 0 where
  pub next : ℕ
  pub file : Option Scrap
  pub stays : Stays next file d

pub kept : {n : ℕ} {o : Option Scrap} {d : Desk} → Stays n o d → Kept d
kept w = record { next = _; file = _; stays = w }

-- ---- other desks with these tasks and messages

pub bare-holds : {n : ℕ} {o : Option Scrap} (d e : Desk) → e.tasks ≡ d.tasks → e.post ≡ d.post → e.scrap ≡ d.scrap → Holds n o d → Holds n o e
bare-holds {n} {o} d e tasks post scrap w = record {
  next = ap (λ (p : Post). p.next_ref) post ∙ w.next;
  file = scrap ∙ w.file;
  low = w.low;
  given = w.given;
  refs = subst (AllByRecursion (TaskRefs (IsFree n o))) (sym tasks) w.refs;
  mail = subst (EachMail (IsFine n o)) (sym post) w.mail;
}

pub bare-stays : {n : ℕ} {o : Option Scrap} (d e : Desk) → e.tasks ≡ d.tasks → e.post ≡ d.post → e.scrap ≡ d.scrap → Stays n o d → Stays n o e
bare-stays d e tasks post scrap w = record {
  holds = bare-holds d e tasks post scrap w.holds;
  live = λ file q. subst (λ (p : Post). post_is_live file.load p ≡ true) (sym post) (w.live file q);
}

pub module-stays : {n : ℕ} {o : Option Scrap} (d : Desk) (h : Heap) → Stays n o d → Stays n o (with_module h d)
unfolding post_is_live
module-stays d h w = record {
  holds = record {
    next = w.holds.next;
    file = w.holds.file;
    low = w.holds.low;
    given = w.holds.given;
    refs = w.holds.refs;
    mail = record { queued = w.holds.mail.queued; held = w.holds.mail.held };
  };
  live = w.live;
}

-- ---- edits of tasks

-- the ids of records
abbrev pub Ids : ℕ → Option Scrap → List Incoming → Type 0
Ids n o ws = AllByRecursion (λ w. IsFree n o (in_id w)) ws

module _ {n : ℕ} {o : Option Scrap} where
  pub edit-stays : (h : ℕ) (f : Task → Task) → ((t : Task) → TaskRefs (IsFree n o) t → TaskRefs (IsFree n o) (f t)) → (d : Desk) → Stays n o d →
      Stays n o (with_task h f d)
  unfolding with_task
  edit-stays h f keeps d w = record {
    holds = record {
      next = w.holds.next;
      file = w.holds.file;
      low = w.holds.low;
      given = w.holds.given;
      refs = all-edit (TaskRefs (IsFree n o)) h f (λ t e. keeps t) d.tasks w.holds.refs;
      mail = w.holds.mail;
    };
    live = w.live;
  }

  pub slot-stays : (h : ℕ) (edit : Slot → Slot) (d : Desk) → Stays n o d → Stays n o (with_task h (λ (t : Task). record t { slot = edit t.slot }) d)
  slot-stays h edit d w = edit-stays h (λ (t : Task). record t { slot = edit t.slot }) (λ t q. record { letter = q.letter; ids = q.ids }) d w

  pub outs-stays : (h : ℕ) (edit : List Outgoing → List Outgoing) (d : Desk) → Stays n o d → Stays n o (with_sending h edit d)
  outs-stays h edit d w = edit-stays h (λ (t : Task). record t { sending = edit t.sending }) (λ t q. record { letter = q.letter; ids = q.ids }) d w

  pub ins-stays : (h : ℕ) (edit : List Incoming → List Incoming) → ((ws : List Incoming) → Ids n o ws → Ids n o (edit ws)) → (d : Desk) → Stays n o d →
      Stays n o (with_taking h edit d)
  ins-stays h edit keeps d w =
      edit-stays h (λ (t : Task). record t { taking = edit t.taking }) (λ t q. record { letter = q.letter; ids = keeps t.taking q.ids }) d w

  pub ended-stays : (h : ℕ) (f : Taking) (edit : List Incoming → List Incoming) → ((ws : List Incoming) → Ids n o ws → Ids n o (edit ws)) → (d : Desk) →
      Stays n o d → Stays n o (taking_ended h f edit d)
  unfolding taking_ended
  ended-stays h f edit keeps d w = ins-stays h edit keeps _ (slot-stays h (λ (s : Slot). without_buffer f.buffer s) d w)

  pub longer-stays : (d : Desk) {e : Desk} (t : Task) (k : ℕ) (bytes : List ℕ) → appended d t k bytes ≡ Ok e → Stays n o d → Stays n o e
  unfolding appended
  longer-stays d t k bytes q w = grant-holds edits q
    where
      edits : OnGrant (Stays n o) (appended d t k bytes)
      edits = granted-then _ _ λ document found. granted-then _ _ λ more e. granted-then _ _ λ s f. granted (slot-stays t.handle (λ old. s) d w)

  -- the scrap file is given up
  pub emptied : (d : Desk) → Stays n o d → Stays n None (record d { scrap = None })
  emptied d w = record {
    holds = record {
      next = w.holds.next;
      file = refl;
      low = w.holds.low;
      given = λ file e. absurd (none_some None refl e);
      refs = refs-as (IsFree n o) (IsFree n None) (λ ref q. none-free ref q.given) d.tasks w.holds.refs;
      mail =
          mail-as (IsFine n o) (IsFine n None) (λ m q. record { given = q.given; says = λ file e. absurd (none_some None refl e) }) d.post w.holds.mail;
    };
    live = λ file e. absurd (none_some None refl e);
  }

-- ---- a post out of which messages went

pub kept-tells : (p : Post) (o : Option Scrap) (file : Scrap) → kept_scrap p o ≡ Some file → (o ≡ Some file) × (post_is_live file.load p ≡ true)
kept-tells p None file e = absurd (none_some None refl e)
kept-tells p (Some g) file e = by (post_is_live g.load p) refl e
  where
    by : (b : Bool) → post_is_live g.load p ≡ b → (if b then Some g else None) ≡ Some file →
        (◌≡◌ {A = Option Scrap} (Some g) (Some file)) × (post_is_live file.load p ≡ true)
    by true q is = let same : g ≡ file = cc in (is, ap (λ (x : Scrap). post_is_live x.load p) (sym same) ∙ q)
    by false q is = absurd (none_some None refl is)

pub delivered-stays : {n : ℕ} {o : Option Scrap} (p : Post) (d : Desk) → Holds n o d → p.next_ref ≡ next_ref d → EachMail (IsFine n o) p →
    Stays n (kept_scrap p o) (with_delivered p d)
unfolding with_delivered
delivered-stays {n} {o} p d w same mail = record {
  holds = record {
    next = same ∙ w.next;
    file = ap (kept_scrap p) w.file;
    low = w.low;
    given = λ file e. w.given file (kept-tells p o file e).0;
    refs = refs-as (IsFree n o) (IsFree n (kept_scrap p o)) (λ ref q. record {
      given = q.given;
      other = λ file e. q.other file (kept-tells p o file e).0;
    }) d.tasks w.refs;
    mail = mail-as (IsFine n o) (IsFine n (kept_scrap p o)) (λ m q. record {
      given = q.given;
      says = λ file e. q.says file (kept-tells p o file e).0;
    }) p mail;
  };
  live = λ file e. (kept-tells p o file e).1;
}

-- ---- letters

-- a letter that was sent
pub record IsSent (l : Letter) (d e : Desk) : Type 0 where
  pub there : Heap × ℕ
  pub same : e ≡ with_task l.from (λ (t : Task). record t { last_sent = Some (l, next_ref d) }) (with_post (posted l there d.post) d)

pub record IsPosted (l : Letter) (post : Post) (x : Post × ℕ) : Type 0 where
  there : Heap × ℕ
  same : x ≡ (posted l there post, post.next_ref)

posted-is : (room : ℕ) (l : Letter) (post : Post) → OnGrant (IsPosted l post) (post_send room l post)
unfolding post_send
posted-is room l post =
    granted-both _ (any-grant _) λ x u. granted-then _ _ λ there e. granted (record { there = there; same = refl })

pub sent-is : (l : Letter) (d : Desk) → OnGrant (IsSent l d) (send_letter l d)
unfolding send_letter
sent-is l d =
    granted-with _ (posted-is (free_pages d) l d.post) λ x w.
    granted (record {
      there = w.there;
      same = ap (λ (y : Post × ℕ). with_task l.from (λ (t : Task). record t { last_sent = Some (l, y.1) }) (with_post y.0 d)) w.same;
    })

posted-next : (l : Letter) (there : Heap × ℕ) (post : Post) → (posted l there post).next_ref ≡ post.next_ref + 1
posted-next l there post =
    chosen (λ (x : Post). x.next_ref ≡ post.next_ref + 1) (answers_held l.your_ref (held_by l.from post.seats)) (put_down l.from (queued_in l there post))
    (queued_in l there post) refl refl

-- the tasks, where the sender has sent it
abbrev pub Sent : Letter → Desk → List Task
Sent l d = edit_task l.from (λ (t : Task). record t { last_sent = Some (l, next_ref d) }) d.tasks

-- the edit of one task
own-edit : (P : Task → Type 0) (h : ℕ) (f : Task → Task) (t : Task) → P (f t) → (ts : List Task) → task_of h ts ≡ Some t → AllByRecursion P ts →
    AllByRecursion P (edit_task h f ts)
own-edit P h f t p [] is all = tt
own-edit P h f t p (x ∷ ts) is all = elim (eqb_tells x.handle h) [
  | inl w ↦ rw w.0 (
    (let z : Some x ≡ Some t = rw w.0 at is in let same : x ≡ t = cc in subst (λ (y : Task). P (f y)) (sym same) p),
    all.1,
  )
  | inr w ↦ rw w.0 (all.0, own-edit P h f t p ts (rw w.0 at is) all.1)
]

-- the letter answers such a ref, or its sender has code of its own
pub any-sent : (P : ℕ → Type 0) (l : Letter) (d : Desk) → P l.your_ref → AllByRecursion (TaskRefs P) d.tasks → AllByRecursion (TaskRefs P) (Sent l d)
any-sent P l d q all =
    all-edit (TaskRefs P) l.from (λ (t : Task). record t { last_sent = Some (l, next_ref d) }) (λ t e r. record { letter = λ plain. q; ids = r.ids })
    d.tasks all

pub own-sent : (P : ℕ → Type 0) (l : Letter) (d : Desk) (t : Task) → task_of l.from d.tasks ≡ Some t → (is_raw t.manner ≡ false → P l.your_ref) →
    TaskRefs P t → AllByRecursion (TaskRefs P) d.tasks → AllByRecursion (TaskRefs P) (Sent l d)
own-sent P l d t is q own all =
    own-edit (TaskRefs P) l.from (λ (t : Task). record t { last_sent = Some (l, next_ref d) }) t (record { letter = q; ids = own.ids }) d.tasks is all

module _ {n : ℕ} {o : Option Scrap} (l : Letter) (d : Desk) where
  -- the new message has another ref than the scrap file's
  pub sent-holds : (e : Desk) → IsSent l d e → Holds n o d → AllByRecursion (TaskRefs (IsFree (n + 1) o)) (Sent l d) → Holds (n + 1) o e
  unfolding with_task
  sent-holds e s w refs = subst (Holds (n + 1) o) (sym s.same) (record {
    next = posted-next l s.there d.post ∙ ap (λ (k : ℕ). k + 1) w.next;
    file = w.file;
    low = omega arith;
    given = λ file q. let z = w.given file q in (z.0, (let y = z.1 in omega (arith, y)));
    refs = refs;
    mail = posted-mail (IsFine (n + 1) o) l s.there d.post new (mail-as (IsFine n o) (IsFine (n + 1) o) later d.post w.mail);
  })
    where
      later : (m : Message) → IsFine n o m → IsFine (n + 1) o m
      later m q = let z = q.given in record { given = omega (arith, z); says = q.says }

      new : IsFine (n + 1) o (message_of l d.post.next_ref)
      new = let z = w.next in record {
        given = omega (arith, z);
        says = λ file q same. absurd (let y = (w.given file q).1 in omega (arith, y, z, same));
      }

  -- a letter that doesn't answer the scrap file's DataLoad
  pub letter-stays : {e : Desk} → send_letter l d ≡ Ok e → Stays n o d → IsFree n o l.your_ref → Stays (n + 1) o e
  unfolding with_task
  letter-stays {e} q w free =
      let s = grant-holds (sent-is l d) q in
      let refs = refs-as (IsFree n o) (IsFree (n + 1) o) free-later d.tasks w.holds.refs in
      record {
        holds = sent-holds e s w.holds (any-sent (IsFree (n + 1) o) l d (free-later l.your_ref free) refs);
        live = λ file there. subst (λ (x : Desk). post_is_live file.load x.post ≡ true) (sym s.same)
            (posted-live file.load l s.there d.post (free.other file there) (w.live file there));
      }

  -- the DataLoad of a new scrap file
  pub filed-stays : (e : Desk) (file : Scrap) → IsSent l d e → o ≡ None → Holds n o d → file.load ≡ n → l.body ≡ load_body file →
      (AllByRecursion (TaskRefs (IsFree (n + 1) (Some file))) d.tasks → AllByRecursion (TaskRefs (IsFree (n + 1) (Some file))) (Sent l d)) →
      Stays (n + 1) (Some file) (record e { scrap = Some file })
  unfolding with_task
  filed-stays e file s none w is says sends =
      subst (λ (x : Desk). Stays (n + 1) (Some file) (record x { scrap = Some file })) (sym s.same) (record {
        holds = record {
          next = posted-next l s.there d.post ∙ ap (λ (k : ℕ). k + 1) w.next;
          file = refl;
          low = omega arith;
          given = λ f q. let z = load-of f q in let y = w.low in (omega (arith, z, is, y), omega (arith, z, is));
          refs = sends (refs-as (IsFree n o) (IsFree (n + 1) (Some file)) (λ ref q. new-free file is ref q.given) d.tasks w.refs);
          mail = posted-mail (IsFine (n + 1) (Some file)) l s.there d.post new (mail-as (IsFine n o) (IsFine (n + 1) (Some file)) old d.post w.mail);
        };
        live = λ f q.
            subst (λ (k : ℕ). post_is_live k (posted l s.there d.post) ≡ true) (w.next ∙ sym is ∙ load-of f q) (own-live l s.there d.post);
      })
    where
      load-of : (f : Scrap) → Some file ≡ Some f → file.load ≡ f.load
      load-of f q = let z : file ≡ f = cc in ap (λ (x : Scrap). x.load) z

      old : (m : Message) → IsFine n o m → IsFine (n + 1) (Some file) m
      old m q = let z = q.given in record {
        given = omega (arith, z);
        says = λ f e same. absurd (let y = load-of f e in omega (arith, z, y, is, same));
      }

      new : IsFine (n + 1) (Some file) (message_of l d.post.next_ref)
      new = let z = w.next in record {
        given = omega (arith, z);
        says = λ f e same. let y : file ≡ f = cc in says ∙ ap load_body y;
      }
