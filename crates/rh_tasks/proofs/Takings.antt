-- What comes in: the desk after each step of a transfer.
use Rattle.rh_tasks.proofs.Common.{◌≡◌, ℕ, zero, suc, ◌+◌, ◌<◌, true, false, cond, refl, ap, sym, subst, ◌∙◌, arith, List, [], ◌∷◌, length}
use Rattle.rh_tasks.proofs.Common.{Some, Ok, Err, ◌==◌, slice_get, slice_get_within, Letter, Refusal}
use Rattle.rh_tasks.proofs.Common.{Outcome, Incoming, Granted, ◌>>=◌, or_else, fetch_letter, first_bytes, Post, post_send, Slot}
use Rattle.rh_tasks.proofs.Common.{heap_block_at, Desk, Task, next_ref, free_pages, edit_task, with_task, with_slot, with_taking, with_post, send_letter}
use Rattle.rh_tasks.proofs.Common.{Handled, appended, IsReordered, OnGrant, Shown, IsAt, begins, ends}
use Rattle.rh_tasks.proofs.Common.{edit-alike, same-alike}
use Rattle.rh_defs.specs.declared.reply.Outcome.TheVariants as outcome
use Rattle.rh_defs.specs.declared.transfer.Taking.{Taking}
use Rattle.rh_defs.specs.declared.transfer.Incoming.TheVariants as incoming
use Rattle.rh_defs.specs.declared.transfer_action.Append.{Append}
use Rattle.rh_defs.specs.declared.transfer_action.Fetch.{Fetch}
use Rattle.rh_defs.specs.declared.transfer_action.Next.{Next}
use Rattle.rh_defs.specs.declared.transfer_action.Next.TheVariants as next
use Rattle.rh_defs.specs.declared.transfer_action.TakeAction.TheVariants as take
use Rattle.rh_defs.specs.Letters.{ack_letter}
use Rattle.rh_defs.specs.Records.{in_id, with_id}
use Rattle.rh_defs.specs.Receiver as receiver
use Rattle.rh_defs.specs.IncomingEvents.{without_buffer, taking_ended, end_failed, fetch_more, took, append, ask, take_with}
use Rattle.rh_defs.proofs.Chains.{granted, granted-then}
use Rattle.rh_tasks.specs.Inner.PollSteps.{Handles}
use Rattle.rh_tasks.proofs.Addresses.{grant-of}
use Rattle.rh_tasks.proofs.Places.{some-same}
use Rattle.rh_tasks.proofs.Writes.{KeyAlike}
use Rattle.rh_tasks.proofs.Dues.{records_of, edited-records}

-- ---- places

module _ (P : Task → Type 0) (h : ℕ) (edit : Task → Task) where
  -- what holds of a task and of the edited one
  after-edit : (tasks : List Task) (i : ℕ) (t : Task) → slice_get tasks i ≡ Some t → P t → P (edit t)
      → (u : Task) × ((slice_get (edit_task h edit tasks) i ≡ Some u) × P u)
  after-edit [] i t at p q = absurd (cc)
  after-edit (x ∷ tasks) zero t at p q =
      let same : x ≡ t = some-same at in
      elim (x.handle == h) as (λ b. (u : Task) × ((slice_get (cond b (edit x ∷ tasks) (x ∷ edit_task h edit tasks)) 0 ≡ Some u) × P u)) [
        | true ↦ (edit x, (refl, subst (λ y. P (edit y)) (sym same) q))
        | false ↦ (x, (refl, subst P (sym same) p))
      ]
  after-edit (x ∷ tasks) (suc i) t at p q =
      let rest = after-edit tasks i t at p q in
      elim (x.handle == h) as (λ b. (u : Task) × ((slice_get (cond b (edit x ∷ tasks) (x ∷ edit_task h edit tasks)) (suc i) ≡ Some u) × P u))
      [ true ↦ (t, (at, p)) | false ↦ rest ]

  pub at-edited : (d : Desk) (i : ℕ) (t : Task) → IsAt i t d → P t → P (edit t) → (u : Task) × (IsAt i u (with_task h edit d) × P u)
  unfolding with_task
  at-edited d i t at p q = after-edit d.tasks i t at p q

-- a task with the same handle
pub record IsLike (t u : Task) : Type 0 where
  pub handle : u.handle ≡ t.handle

like-self : (t : Task) → IsLike t t
like-self t = record { handle = refl }

-- such a task stands at the place
pub record Stands (i : ℕ) (t : Task) (d : Desk) : Type 0 where
  pub task : Task
  pub at : IsAt i task d
  pub like : IsLike t task

pub stands-edited : (d e : Desk) (i h : ℕ) (t : Task) (edit : Task → Task) → e ≡ with_task h edit d → ((u : Task) → IsLike u (edit u)) → IsAt i t d
    → Stands i t e
stands-edited d e i h t edit is like at =
    let u = at-edited (IsLike t) h edit d i t at (like-self t) (like t) in
    record { task = u.0; at = subst (IsAt i u.0) (sym is) u.1.0; like = u.1.1 }

pub inside : {d : Desk} {i : ℕ} {t : Task} → Stands i t d → i < length d.tasks
inside {d} {i} s = slice_get_within d.tasks i s.task s.at

stands-reordered : {d e : Desk} {i : ℕ} {t : Task} → IsReordered d e → Stands i t d → Stands i t e
stands-reordered {d} {e} {i} {t} r s = record { task = s.task; at = ap (λ (x : Desk). slice_get x.tasks i) r.rest ∙ s.at; like = s.like }

-- ---- a letter

sent-by : (l : Letter) (d e : Desk) (i : ℕ) (t : Task) (g : Granted (Post × ℕ))
    → (g >>= λ sent. let r : Granted Desk = Ok (with_task l.from (λ t. record t { last_sent = Some (l, sent.1) }) (with_post sent.0 d)) in r) ≡ Ok e
    → IsAt i t d → Stands i t e
unfolding ◌>>=◌
sent-by l d e i t (Err r) q at = absurd cc
sent-by l d e i t (Ok sent) q at =
    let is : e ≡ with_task l.from (λ t. record t { last_sent = Some (l, sent.1) }) (with_post sent.0 d) = cc in
    stands-edited (with_post sent.0 d) e i l.from t (λ t. record t { last_sent = Some (l, sent.1) }) is (λ u. record { handle = refl }) at

-- the sender's place stays
pub stands-sent : (l : Letter) (d e : Desk) {f : Desk} (i : ℕ) (t : Task) → send_letter l d ≡ Ok e → IsReordered e f → IsAt i t d → Stands i t f
unfolding send_letter
stands-sent l d e i t q r at = stands-reordered r (sent-by l d e i t (post_send (free_pages d) l d.post) q at)

-- ---- a transfer ends

abbrev pub dropped : ℕ → ℕ → Desk → Desk
dropped h buffer d = with_task h (λ t. record t { slot = without_buffer buffer t.slot }) d

pub stands-dropped : (d e : Desk) (i h buffer : ℕ) (t : Task) → e ≡ dropped h buffer d → IsAt i t d → Stands i t e
stands-dropped d e i h buffer t is at =
    stands-edited d e i h t (λ t. record t { slot = without_buffer buffer t.slot }) is (λ u. record { handle = refl }) at

pub dropped-records : {d e : Desk} (h buffer : ℕ) → e ≡ dropped h buffer d → KeyAlike records_of d e
dropped-records h buffer is = edited-records h (λ t. record t { slot = without_buffer buffer t.slot }) (λ t. refl) is

-- its buffer goes, and then its records are others
pub ended-is : (old mid new : Desk) (i : ℕ) (f : Taking) (edit : List Incoming → List Incoming) (t : Task) → IsAt i t old → mid ≡ dropped t.handle f.buffer old
    → ((u : Task) → IsAt i u mid → new ≡ with_taking u.handle edit mid) → new ≡ taking_ended t.handle f edit old
unfolding taking_ended
ended-is old mid new i f edit t at is recorded =
    let s = stands-dropped old mid i t.handle f.buffer t is at in
    recorded s.task s.at ∙ ap (λ h. with_taking h edit mid) s.like.handle ∙ ap (with_taking t.handle edit) is

-- ---- results

pub handles-as : {after : Handled} {o : Outcome} (new : Shown) (d : Desk) → after ≡ (d, o) → IsReordered d new.desk → Handles after new o
handles-as {after} {o} new d q r = let P : Handled → Type 0 = λ a. Handles a new o in subst P (sym q) (refl, r)

-- the transfer has failed, where nothing changed before
pub failed-as : {after : Handled} {o : Outcome} (old : Desk) (mid new : Shown) (i : ℕ) (t : Task) (f : Taking) (edit : List Incoming → List Incoming)
    → after ≡ (taking_ended t.handle f edit old, o) → IsAt i t old → mid.desk ≡ old
    → ((u : Task) → IsAt i u mid.desk → new.desk ≡ taking_ended u.handle f edit mid.desk) → Handles after new o
failed-as old mid new i t f edit q at same ended =
    let there : IsAt i t mid.desk = subst (IsAt i t) (sym same) at in
    handles-as new (taking_ended t.handle f edit old) q (same-alike (sym (ended t there ∙ ap (taking_ended t.handle f edit) same)))

-- none of the action's bytes are in the document
pub none-kept : (d : Desk) (t : Task) (a : Append) → taking_ended t.handle a.transfer (receiver.failed_with a 0) d ≡ end_failed d t a.transfer
none-kept d t a =
    let edit : ℕ → List Incoming → List Incoming = λ n records. with_id in_id a.transfer.id (incoming.Failed a.transfer.id a.transfer.anchor n) records in
    let same : a.transfer.count + 0 ≡ a.transfer.count = omega arith in
    ap (λ n. taking_ended t.handle a.transfer (edit n) d) same

-- ---- more bytes are asked for

module _ (a : Append) (b : Fetch) (old : Desk) (i : ℕ) {t : Task} {letter : Letter} {h : ℕ} (at : IsAt i t old) (handle : h ≡ t.handle)
    (letter-is : letter ≡ fetch_letter h b) where
  the-fetch : send_letter letter old ≡ send_letter (fetch_letter t.handle b) old
  the-fetch = ap (λ l. send_letter l old) (letter-is ∙ ap (λ k. fetch_letter k b) handle)

  pub fetch-refused : {r : Refusal} → send_letter letter old ≡ Err r → fetch_more old t a b ≡ Err r
  unfolding fetch_more
  fetch-refused q = ends _ (sym the-fetch ∙ q)

  pub fetch-done : (fetch : ℕ) (d mid new : Desk) → fetch ≡ next_ref old → send_letter letter old ≡ Ok d → IsReordered d mid
      → ((u : Task) → IsAt i u mid → new ≡ with_taking u.handle (receiver.fetched a fetch) mid)
      → (x : Desk) × ((fetch_more old t a b ≡ Ok (x, outcome.TookFull a.n fetch)) × IsReordered x new)
  unfolding fetch_more
  fetch-done fetch d mid new ref q r recorded =
      let s = stands-sent letter old d i t q r at in
      let then : ℕ → Granted Handled = λ k. Ok (with_taking t.handle (receiver.fetched a k) d, outcome.TookFull a.n k) in
      let is : new ≡ with_taking t.handle (receiver.fetched a fetch) mid =
      recorded s.task s.at ∙ ap (λ k. with_taking k (receiver.fetched a fetch) mid) s.like.handle in (
        with_taking t.handle (receiver.fetched a fetch) d,
        (
          begins _ (sym the-fetch ∙ q) (ap then (sym ref)),
          subst (IsReordered _) (sym is) (edit-alike t.handle (λ t. record t { taking = receiver.fetched a fetch t.taking }) r),
        ),
      )

-- ---- bytes were taken

module _ (d : Desk) (t : Task) (a : Append) where
  abbrev not_fetched : Refusal → Handled
  not_fetched refusal = (taking_ended t.handle a.transfer (receiver.failed_with a a.n) d, outcome.TookFailed a.n refusal)

  pub took-last : took d t a next.Finish ≡ (taking_ended t.handle a.transfer (receiver.finished a) d, outcome.TookLast a.n)
  unfolding took
  took-last = refl

  module _ (b : Fetch) where
    pub took-more : (x : Handled) → fetch_more d t a b ≡ Ok x → took d t a (next.Fetch b) ≡ x
    unfolding took or_else
    took-more x q = ap (λ g. or_else g not_fetched) q

    pub took-failed : (r : Refusal) → fetch_more d t a b ≡ Err r → took d t a (next.Fetch b) ≡ not_fetched r
    unfolding took or_else
    took-failed r q = ap (λ g. or_else g not_fetched) q

  -- the task's handle is all that counts
  pub took-like : (what : Next) (u : Task) → IsLike t u → took d u a what ≡ took d t a what
  unfolding took fetch_more
  took-like what u like = ap (λ h. took d (record t { handle = h }) a what) like.handle

-- what follows on the bytes, once it is known
pub as-next : (d : Desk) (t : Task) (a : Append) (new : Shown) {what : Next} {o : Outcome} → a.next ≡ what → Handles (took d t a what) new o
    → Handles (took d t a a.next) new o
as-next d t a new {what} {o} e h = subst (λ (x : Next). Handles (took d t a x) new o) (sym e) h

pub took-ended : (old mid : Desk) (new : Shown) (i : ℕ) (t : Task) (a : Append) → IsAt i t old → mid ≡ dropped t.handle a.transfer.buffer old
    → ((u : Task) → IsAt i u mid → new.desk ≡ with_taking u.handle (receiver.finished a) mid) → Handles (took old t a next.Finish) new (outcome.TookLast a.n)
took-ended old mid new i t a at is recorded =
    handles-as new (taking_ended t.handle a.transfer (receiver.finished a) old) (took-last old t a)
    (same-alike (sym (ended-is old mid new.desk i a.transfer (receiver.finished a) t at is recorded)))

-- ---- a transmit

appended-edits : (d : Desk) (t : Task) (k : ℕ) (xs : List ℕ) → OnGrant (λ (e : Desk). (s : Slot) × (e ≡ with_slot t.handle s d)) (appended d t k xs)
unfolding appended
appended-edits d t k xs = granted-then _ _ λ document _. granted-then _ _ λ longer _. granted-then _ _ λ s _. granted (s, refl)

pub stands-appended : (d e : Desk) (i : ℕ) (t : Task) (k : ℕ) (xs : List ℕ) → appended d t k xs ≡ Ok e → IsAt i t d → Stands i t e
stands-appended d e i t k xs q at =
    let s = grant-of (appended-edits d t k xs) q in
    stands-edited d e i t.handle t (λ t. record t { slot = s.0 }) s.1 (λ u. record { handle = refl }) at

pub appended-records : (d e : Desk) (t : Task) (k : ℕ) (xs : List ℕ) → appended d t k xs ≡ Ok e → KeyAlike records_of d e
appended-records d e t k xs q =
    let s = grant-of (appended-edits d t k xs) q in
    edited-records t.handle (λ u. record u { slot = s.0 }) (λ u. refl) s.1

module _ (d : Desk) (t : Task) (a : Append) where
  abbrev xs : List ℕ
  xs = first_bytes a.n (heap_block_at a.transfer.buffer t.slot)

  abbrev failed : Refusal → Handled
  failed refusal = (end_failed d t a.transfer, outcome.Refused refusal)

  pub taken-refused : (r : Refusal) → appended d t a.transfer.anchor xs ≡ Err r → append d t a ≡ failed r
  unfolding append ◌>>=◌ or_else
  taken-refused r q = ap (λ g. or_else (g >>= λ longer. Ok (took longer t a a.next)) failed) q

  pub taken-more : (longer : Desk) → appended d t a.transfer.anchor xs ≡ Ok longer → append d t a ≡ took longer t a a.next
  unfolding append ◌>>=◌ or_else
  taken-more longer q = ap (λ g. or_else (g >>= λ longer. Ok (took longer t a a.next)) failed) q

pub taken-on : {o : Outcome} (old : Desk) (longer new : Shown) (i : ℕ) (t : Task) (a : Append) → IsAt i t old
    → appended old t a.transfer.anchor (first_bytes a.n (heap_block_at a.transfer.buffer t.slot)) ≡ Ok longer.desk
    → ((u : Task) → IsAt i u longer.desk → Handles (took longer.desk u a a.next) new o) → Handles (append old t a) new o
taken-on {o} old longer new i t a at done h =
    let s = stands-appended old longer.desk i t a.transfer.anchor (first_bytes a.n (heap_block_at a.transfer.buffer t.slot)) done at in
    let P : Handled → Type 0 = λ x. Handles x new o in
    subst P (took-like longer.desk t a a.next s.task s.like ∙ sym (taken-more old t a longer.desk done)) (h s.task s.at)

-- ---- a file is asked for

module _ (f : Taking) (old : Desk) (i : ℕ) {t : Task} {letter : Letter} {h : ℕ} (at : IsAt i t old) (handle : h ≡ t.handle)
    (letter-is : letter ≡ ack_letter h f) where
  the-ack : send_letter letter old ≡ send_letter (ack_letter t.handle f) old
  the-ack = ap (λ l. send_letter l old) (letter-is ∙ ap (λ k. ack_letter k f) handle)

  pub ask-refused : {r : Refusal} → send_letter letter old ≡ Err r → ask old t f ≡ Err r
  unfolding ask
  ask-refused q = ends _ (sym the-ack ∙ q)

  pub ask-done : (ref : ℕ) (d mid next new : Desk) → ref ≡ next_ref old → send_letter letter old ≡ Ok d → IsReordered d mid
      → ((u : Task) → IsAt i u mid → next ≡ dropped u.handle f.buffer mid)
      → ((u : Task) → IsAt i u next → new ≡ with_taking u.handle (receiver.asking f ref) next)
      → (x : Desk) × ((ask old t f ≡ Ok (x, outcome.Asked ref)) × IsReordered x new)
  unfolding ask taking_ended
  ask-done ref d mid next new is q r drop recorded =
      let s = stands-sent letter old d i t q r at in
      let then : ℕ → Granted Handled = λ k. Ok (taking_ended t.handle f (receiver.asking f k) d, outcome.Asked k) in
      let end : new ≡ taking_ended t.handle f (receiver.asking f ref) mid =
      ended-is mid next new i f (receiver.asking f ref) s.task s.at (drop s.task s.at) recorded
      ∙ ap (λ k. taking_ended k f (receiver.asking f ref) mid) s.like.handle in (
        taking_ended t.handle f (receiver.asking f ref) d,
        (
          begins _ (sym the-ack ∙ q) (ap then (sym is)),
          subst (IsReordered _) (sym end)
              (edit-alike t.handle (λ t. record t { taking = receiver.asking f ref t.taking })
              (edit-alike t.handle (λ t. record t { slot = without_buffer f.buffer t.slot }) r)),
        ),
      )

module _ (d : Desk) (t : Task) (f : Taking) where
  abbrev not_asked : Refusal → Handled
  not_asked refusal = (end_failed d t f, outcome.Refused refusal)

  pub asked-done : (x : Handled) → ask d t f ≡ Ok x → take_with d t (take.AskForFile f) ≡ x
  unfolding take_with or_else
  asked-done x q = ap (λ g. or_else g not_asked) q

  pub asked-refused : (r : Refusal) → ask d t f ≡ Err r → take_with d t (take.AskForFile f) ≡ not_asked r
  unfolding take_with or_else
  asked-refused r q = ap (λ g. or_else g not_asked) q
