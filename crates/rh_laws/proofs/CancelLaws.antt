-- A cancel ends what waits for another task.
use Rattle.rh_laws.proofs.Common.{◌≡◌, ℕ, ◌+◌, ◌≤◌, Bool, true, false, List, [], ◌∷◌, Some, None, refl, sym, ap, ◌∙◌, subst}
use Rattle.rh_laws.proofs.Common.{inl, inr, arith, ◌==◌, if◌then◌else◌, find, eq-eqb, bytes_eq-Decides, Ok, Desk, Task, has_name, named, task_at, task_of}
use Rattle.rh_laws.proofs.Common.{with_taking, with_task, Answer, Sending, Taking, Asked, Incoming, Outgoing, cancel_in, cancel_out, step}
use Rattle.rh_laws.proofs.Common.{Has, contains_of, first_is, found_task, has_of, in_id, out_id, with_id, is_equal, open_of, same_value, Fits, fits, buffers_of}
use Rattle.rh_defs.specs.declared.command.Command.TheVariants as command
use Rattle.rh_defs.specs.declared.reply.Reply.TheVariants as reply
use Rattle.rh_defs.specs.declared.transfer.Incoming.TheVariants as incoming
use Rattle.rh_defs.specs.declared.transfer.Outgoing.TheVariants as outgoing
use Rattle.rh_defs.specs.Chain.{◌>>=◌, found_or, or_else}
use Rattle.rh_defs.specs.Commands.{with_released}
use Rattle.rh_defs.specs.IncomingEvents.{without_buffer}
use Rattle.rh_defs.specs.Laws.{Always, Rise}
use Rattle.rh_defs.specs.Receiver as receiver
use Rattle.rh_defs.specs.Receiver.{cancelled, is_wanted, let_go}
use Rattle.rh_defs.specs.Records.{is_meant}
use Rattle.rh_defs.specs.Sender as sender
use Rattle.rh_safety.specs.Names.{HaveOwnNames}
use Rattle.rh_safety.specs.TaskRecords.{AreRecorded, IsRecorded}
use Rattle.rh_safety.proofs.Basics.{open_is, put_same, with_old, with_puts}
use Rattle.rh_safety.proofs.NameLaws.{always_own_names}
use Rattle.rh_safety.proofs.RecordLaws.{are_recorded}
use Rattle.rh_safety.proofs.SeenDocuments.{buffer_is, rid_of}
use Rattle.rh_safety.proofs.SeenLaws.{always}
use Rattle.rh_laws.specs.Cancels.{CancelsEnd, EndsFetch, FailsIn, FailsOut}
use Rattle.rh_laws.proofs.FramePolls.{own-task}
use Rattle.rh_laws.proofs.ProgressLaws.{find-has, found-named}

-- ---- one record of an id

pub above : {A : Type 0} (f : A → ℕ) (least next : ℕ) (xs : List A) (x : A) → Rise f least next xs → Has x xs → least ≤ f x
above f least next [] x r has = absurd has
above f least next (y ∷ xs) x r (inl same) = subst (λ z. least ≤ f z) same r.0
above f least next (y ∷ xs) x r (inr has) = let z = above f (f y + 1) next xs x r.1 has in let w = r.0 in omega arith

pub one-of : {A : Type 0} (f : A → ℕ) (least next : ℕ) (xs : List A) (x y : A) → Rise f least next xs → Has x xs → Has y xs → f x ≡ f y → x ≡ y
one-of f least next [] x y r h k e = absurd h
one-of f least next (z ∷ xs) x y r (inl a) (inl b) e = sym a ∙ b
one-of f least next (z ∷ xs) x y r (inl a) (inr k) e =
    let u = above f (f z + 1) next xs y r.1 k in let v : f z ≡ f x = ap f a in absurd (omega arith)
one-of f least next (z ∷ xs) x y r (inr h) (inl b) e =
    let u = above f (f z + 1) next xs x r.1 h in let v : f z ≡ f y = ap f b in absurd (omega arith)
one-of f least next (z ∷ xs) x y r (inr h) (inr k) e = one-of f (f z + 1) next xs x y r.1 h k e

-- the only one that passes is found
find-only : {A : Type 0} (p : A → Bool) (xs : List A) (x : A) → Has x xs → p x ≡ true → ((y : A) → Has y xs → p y ≡ true → y ≡ x) →
    find p xs ≡ Some x
find-only p xs x has passes only =
    let w = find-has p xs x has passes in
    let is = first_is p xs w.0 w.1 in
    w.1 ∙ ap Some (only w.0 is.0 is.1)

open-has : (test : Sending → Bool) (xs : List Outgoing) (x : Sending) → Has (outgoing.Open x) xs → test x ≡ true →
    (y : Sending) × (open_of test xs ≡ Some y)
open-has test [] x has passes = absurd has
open-has test (outgoing.Open y ∷ xs) x has passes = go (test y) refl has (λ rest. open-has test xs x rest passes)
  where
    go : (b : Bool) → test y ≡ b → Has (outgoing.Open x) (outgoing.Open y ∷ xs) →
        (Has (outgoing.Open x) xs → (z : Sending) × (open_of test xs ≡ Some z)) →
        (z : Sending) × ((if b then Some y else open_of test xs) ≡ Some z)
    go true is any others = (y, refl)
    go false is (inl same) others = let e : y ≡ x = (let z : outgoing.Open y ≡ outgoing.Open x = same in cc) in
        absurd (let z : false ≡ true = sym is ∙ ap test e ∙ passes in cc)
    go false is (inr rest) others = others rest
open-has test (outgoing.Done i n ∷ xs) x (inl same) passes = absurd (let z : outgoing.Done i n ≡ outgoing.Open x = same in cc)
open-has test (outgoing.Done i n ∷ xs) x (inr has) passes = open-has test xs x has passes
open-has test (outgoing.Failed i n ∷ xs) x (inl same) passes = absurd (let z : outgoing.Failed i n ≡ outgoing.Open x = same in cc)
open-has test (outgoing.Failed i n ∷ xs) x (inr has) passes = open-has test xs x has passes

-- the record that is written anew is the only one of its id
written-one : {A : Type 0} (f : A → ℕ) (i : ℕ) (w : A) (xs : List A) → f w ≡ i → (v : A) → Has v (with_id f i w xs) → f v ≡ f w → v ≡ w
written-one f i w xs is v has same = elim (with_old f i w xs v has) [
  | inl other ↦ absurd (other.1 (same ∙ is))
  | inr now ↦ now
]

wanted-id : (i : ℕ) (w : Incoming) → is_wanted (Some i) w ≡ true → in_id w ≡ i
wanted-id i (incoming.Fetching f) q = is_equal f.id i q
wanted-id i (incoming.Asking x) q = is_equal x.id i q
wanted-id i (incoming.Draining f) q = absurd cc
wanted-id i (incoming.Done j k n) q = absurd cc
wanted-id i (incoming.Failed j k n) q = absurd cc

-- ---- a live task's cancels

module _ (d : Desk) (f : Fits d) (own : HaveOwnNames d) (h : ℕ) (t : Task) (at : task_at h d ≡ Some t) (r : IsRecorded d t) where
  its : Has t d.tasks × ((t.handle == h) ≡ true)
  its = first_is (λ (y : Task). y.handle == h) d.tasks t at

  handle : t.handle ≡ h
  handle = is_equal t.handle h its.1

  -- its name is no other's
  the-name : named t.name d ≡ Ok t
  the-name =
      let found = find-has (has_name t.name) d.tasks t its.0 ((bytes_eq-Decides t.name t.name).1 refl) in
      let there = found_task (has_name t.name) d.tasks found.0 f.handles found.1 in
      let name : found.0.name ≡ t.name = (bytes_eq-Decides found.0.name t.name).0 (first_is (has_name t.name) d.tasks found.0 found.1).1 in
      let same : found.0.handle ≡ h = own found.0.handle h found.0 t there at name in
      let here : task_of h d.tasks ≡ Some found.0 = subst (λ j. task_of j d.tasks ≡ Some found.0) same there in
      found-named d t.name t (found.1 ∙ ap Some (same_value (task_of h d.tasks) here at))

  -- ---- what comes in

  module _ (w : Incoming) (has : Has w t.taking) (wanted : is_wanted (Some (in_id w)) w ≡ true) where
    abbrev after_in : Desk
    after_in = with_taking t.handle (λ old. with_id in_id (in_id w) (cancelled w) t.taking) (with_released t.handle (let_go w) d)

    the-record : find (is_wanted (Some (in_id w))) t.taking ≡ Some w
    the-record = find-only (is_wanted (Some (in_id w))) t.taking w has wanted (λ y k p.
        one-of in_id 0 _ t.taking y w r.ids_in k has (wanted-id (in_id w) y p))

    cancels-in : step d (command.CancelIn t.name (Some (in_id w))) ≡ (after_in, reply.Done)
    unfolding cancel_in receiver.cancel_taking ◌>>=◌ found_or or_else
    cancels-in = let n = the-name in let e = the-record in rw n (rw e refl)

    abbrev renewed : Task → Task
    renewed u = record u { taking = with_id in_id (in_id w) (cancelled w) t.taking }

    -- the task once its slot is another
    ends-at : (d2 : Desk) (t2 : Task) (q : with_released t.handle (let_go w) d ≡ d2) → task_at h d2 ≡ Some t2 → t2.handle ≡ t.handle →
        in_id (cancelled w) ≡ in_id w →
        FailsIn (step d (command.CancelIn t.name (Some (in_id w)))) h
        (record t2 { taking = with_id in_id (in_id w) (cancelled w) t.taking }) (cancelled w)
    ends-at d2 t2 q there same is =
        subst (λ (a : Answer). FailsIn a h (record t2 { taking = with_id in_id (in_id w) (cancelled w) t.taking }) (cancelled w))
        (sym (cancels-in ∙ ap (λ (e : Desk). (with_taking t.handle (λ old. with_id in_id (in_id w) (cancelled w) t.taking) e, reply.Done)) q))
        (record {
          said = refl;
          live = subst (λ j. task_at h (with_task j renewed d2) ≡ Some (renewed t2)) same
              (own-task h renewed (λ y. refl) d2 t2 (same ∙ handle) there);
          has = contains_of _ (cancelled w) (with_puts in_id (in_id w) (cancelled w) t.taking w has refl);
          one = λ v k e. written-one in_id (in_id w) (cancelled w) t.taking is v (has_of _ v k) e;
        })

  abbrev shut : Taking → Task → Task
  shut x u = record u { slot = without_buffer x.buffer u.slot }

  ends-fetch : (x : Taking) → x.raw ≡ true → Has (incoming.Fetching x) t.taking →
      EndsFetch (step d (command.CancelIn t.name (Some x.id))) h x
  ends-fetch x flag has =
      let gone : cancelled (incoming.Fetching x) ≡ incoming.Failed x.id x.anchor x.count = rw flag refl in
      let released : with_released t.handle (let_go (incoming.Fetching x)) d ≡ with_task t.handle (shut x) d = rw flag refl in (
        record (shut x t) { taking = with_id in_id x.id (cancelled (incoming.Fetching x)) t.taking },
        subst (λ (v : Incoming). FailsIn (step d (command.CancelIn t.name (Some x.id))) h
            (record (shut x t) { taking = with_id in_id x.id (cancelled (incoming.Fetching x)) t.taking }) v) gone
            (ends-at (incoming.Fetching x) has (eq-eqb _ _ refl) (with_task t.handle (shut x) d) (shut x t) released
            (own-task h (shut x) (λ y. refl) d t handle at) refl (ap in_id gone)),
        buffer_is x.buffer (without_buffer x.buffer t.slot) ∙ (rid_of x.buffer t.slot).buffers x.buffer ∙ put_same (buffers_of t.slot) x.buffer None,
      )

  ends-asking : (q : Asked) → Has (incoming.Asking q) t.taking →
      (now : Task) × FailsIn (step d (command.CancelIn t.name (Some q.id))) h now (incoming.Failed q.id q.anchor 0)
  ends-asking q has = (_, ends-at (incoming.Asking q) has (eq-eqb _ _ refl) d t refl at refl refl)

  -- ---- what goes out

  module _ (x : Sending) (has : Has (outgoing.Open x) t.sending) where
    abbrev test : Sending → Bool
    test y = is_meant (Some x.id) y.id

    the-open : open_of test t.sending ≡ Some x
    the-open =
        let w = open-has test t.sending x has (eq-eqb _ _ refl) in
        let is = open_is test t.sending w.0 w.1 in
        let same : outgoing.Open w.0 ≡ outgoing.Open x =
        one-of out_id 0 _ t.sending (outgoing.Open w.0) (outgoing.Open x) r.ids_out is.0 has (is_equal w.0.id x.id is.1) in
        let e : w.0 ≡ x = cc in
        w.1 ∙ ap Some e

    abbrev leave : Task → Task
    leave u = record u { sending = with_id out_id x.id (outgoing.Failed x.id x.count) t.sending }

    cancels-out : step d (command.CancelOut t.name (Some x.id)) ≡ (with_task t.handle leave d, reply.Done)
    unfolding cancel_out sender.cancel_sending ◌>>=◌ found_or or_else
    cancels-out = let n = the-name in let e = the-open in rw n (rw e refl)

    ends-open : (now : Task) × FailsOut (step d (command.CancelOut t.name (Some x.id))) h now (outgoing.Failed x.id x.count)
    ends-open = (
      leave t,
      subst (λ (a : Answer). FailsOut a h (leave t) (outgoing.Failed x.id x.count)) (sym cancels-out) (record {
        said = refl;
        live = own-task h leave (λ y. refl) d t handle at;
        has = contains_of _ (outgoing.Failed x.id x.count) (with_puts out_id x.id (outgoing.Failed x.id x.count) t.sending (outgoing.Open x) has refl);
        one = λ v k e. written-one out_id x.id (outgoing.Failed x.id x.count) t.sending refl v (has_of _ v k) e;
      }),
    )

cancels-end : (d : Desk) → Fits d → HaveOwnNames d → AreRecorded d → CancelsEnd d
cancels-end d f own all = record {
  fetches = λ h t x at has raw. ends-fetch d f own h t at (all h t at) x raw (has_of t.taking (incoming.Fetching x) has);
  asks = λ h t q at has. ends-asking d f own h t at (all h t at) q (has_of t.taking (incoming.Asking q) has);
  sends = λ h t x at has. ends-open d f own h t at (all h t at) x (has_of t.sending (outgoing.Open x) has);
}

pub always-cancels-end : Always CancelsEnd
always-cancels-end pool handle ref files cs from ranged =
    cancels-end _ (always Fits (λ d w. fits d w.kept) pool handle ref files cs from ranged)
    (always_own_names pool handle ref files cs from ranged)
    (always AreRecorded (λ d w. are_recorded w.gave d w.stands.good) pool handle ref files cs from ranged)
