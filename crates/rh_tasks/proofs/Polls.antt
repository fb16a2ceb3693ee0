-- A poll: a message is taken, and then handled.
use Rattle.rh_tasks.proofs.Common.{
  ◌≡◌,
  ℕ,
  ◌<◌,
  Bool,
  true,
  false,
  if◌then◌else◌,
  refl,
  ap,
  sym,
  subst,
  ◌∙◌,
  arith,
  List,
  length,
  Option,
  None,
  Some,
  Ok,
  map,
  option_map,
  length-map,
  Memory,
}
use Rattle.rh_tasks.proofs.Common.{FileList, EventCode, Message, Outcome, Reply, Parcel, post_poll, Desk, Task, with_delivered, IsReordered, with_queue}
use Rattle.rh_tasks.proofs.Common.{Handled, Granted, Answer, Seat, MadeArea, Kept, task_of, desk_of, IsWorld, FoundSeat, IsAt, IsFor, begins, sits, named-is}
use Rattle.rh_tasks.proofs.Common.{mapped-at, reordered-at}
use Rattle.rh_defs.specs.declared.message.Event.{Event}
use Rattle.rh_defs.specs.declared.reply.Reply.TheVariants as reply
use Rattle.rh_defs.specs.declared.reply.Outcome.TheVariants.{Taken}
use Rattle.rh_defs.specs.AnyMessage.{as_read}
use Rattle.rh_defs.specs.Messages.{action_of}
use Rattle.rh_defs.specs.RawTasks.{is_raw}
use Rattle.rh_defs.specs.Commands.{poll, poll_taken}
use Rattle.rh_defs.specs.Transfer.{handled}
use Rattle.rh_defs.proofs.OrderSteps.{Alike, handled-alike}
use Rattle.rh_wimp.specs.Chains.{event_as}
use Rattle.rh_tasks.specs.Inner.PollSteps.{received_as}
use Rattle.rh_tasks.proofs.Reorders.{reordered-trans}

-- ---- an event is a parcel without its recipient and block

pub none-taken : (o : Option Parcel) → (let x : Option Event = None in x) ≡ option_map (event_as true) o → o ≡ None
none-taken None e = refl
none-taken (Some p) e = absurd cc

pub record IsTaken (o : Option Parcel) (code : EventCode) (message : Message) : Type 0 where
  pub parcel : Parcel
  pub is : o ≡ Some parcel
  pub code_is : parcel.code ≡ code
  pub message_is : (as_read parcel).message ≡ message

pub some-taken : (o : Option Parcel) (x : Event) → Some x ≡ option_map (event_as true) o → IsTaken o x.code x.message
some-taken None x e = absurd cc
some-taken (Some p) x e =
    let same : x ≡ event_as true p = cc in
    record { parcel = p; is = refl; code_is = sym (ap (λ (y : Event). y.code) same); message_is = sym (ap (λ (y : Event). y.message) same) }

-- ---- two desks that differ in the order of messages to different tasks alone

alike-handled : (a b : Handled) → Alike a b → (last : Desk) → IsReordered b.0 last → (b.1 ≡ a.1) × IsReordered a.0 last
alike-handled _ _ (Alike.alike d queue x same) last r =
    (refl, reordered-trans (let q : IsReordered d (with_queue queue d) = record { same = same; rest = refl } in q) r)

-- handled on the other desk, a message has the same outcome, and leaves again such a desk
pub handled-too : (d e : Desk) (t : Task) (p : Parcel) (code : EventCode) → IsReordered d e → (last : Desk) (outcome : Outcome)
    → outcome ≡ (handled e t p code).1 → IsReordered (handled e t p code).0 last
    → (outcome ≡ (handled d t p code).1) × IsReordered (handled d t p code).0 last
handled-too d e t p code r last outcome q h =
    let other : Desk = with_queue e.post.queued d in
    let there = subst (λ (x : Desk). IsReordered (handled x t p code).0 last) r.rest h in
    let both = alike-handled (handled d t p code) (handled other t p code) (handled-alike d e.post.queued t p code r.same) last there in
    (q ∙ ap (λ (x : Desk). (handled x t p code).1) r.rest ∙ both.0, both.1)

received-too : (d e : Desk) (t : Task) (p : Parcel) (code : EventCode) → IsReordered d e → (last : Desk) (outcome : Outcome)
    → outcome ≡ (received_as e t p code).1 → IsReordered (received_as e t p code).0 last
    → (outcome ≡ (received_as d t p code).1) × IsReordered (received_as d t p code).0 last
received-too d e t p code r last outcome = go (is_raw t.manner)
  where
    go : (b : Bool) → outcome ≡ (if b then (e, Taken) else handled e t p code).1
        → IsReordered (if b then (e, Taken) else handled e t p code).0 last
        → (outcome ≡ (if b then (d, Taken) else handled d t p code).1)
        × IsReordered (if b then (d, Taken) else handled d t p code).0 last
    go true q h = (q, reordered-trans r h)
    go false q h = handled-too d e t p code r last outcome q h

-- ---- the command

module _ {m : Memory} {seats : List Seat} {made : List MadeArea} {files : FileList} {kept : Kept} {name : List ℕ} {i : ℕ} {s : Seat}
    (w : IsWorld m seats made files kept) (f : FoundSeat name seats i s) where
  abbrev d : Desk
  d = desk_of m seats made files kept

  pub place-in : i < length (map (task_of m) seats)
  place-in = omega (arith, (sits f).inside, length-map seats (task_of m))

  pub task-there : IsAt i (task_of m s) (desk_of m seats made files kept)
  task-there = mapped-at (task_of m) seats i s (sits f)

  poll-is : poll (desk_of m seats made files kept) name ≡ Ok (poll_taken
      (with_delivered (post_poll s.handle (desk_of m seats made files kept).post).0 (desk_of m seats made files kept)) (task_of m s)
      (post_poll s.handle (desk_of m seats made files kept).post).1)
  unfolding poll task_of
  poll-is = begins _ (named-is m made files kept f) refl

  abbrev taken : Desk
  taken = with_delivered (post_poll s.handle (desk_of m seats made files kept).post).0 (desk_of m seats made files kept)

  -- the place is there still
  pub place-then : (last : Desk) → IsReordered taken last → i < length last.tasks
  unfolding with_delivered
  place-then last r = subst (λ (l : List Task). i < length l) (sym (ap (λ (x : Desk). x.tasks) r.rest)) place-in

  -- there was no message
  pub poll-none : (post_poll s.handle (desk_of m seats made files kept).post).1 ≡ None → (last : Desk) → IsReordered taken last
      → (x : Desk) × ((poll (desk_of m seats made files kept) name ≡ Ok (x, reply.NoEvent)) × IsReordered x last)
  unfolding poll_taken
  poll-none e last r = (taken, (poll-is ∙ ap (λ o. let a : Granted Answer = Ok (poll_taken taken (task_of m s) o) in a) e, r))

  module _ {code : EventCode} {message : Message} (e : IsTaken (post_poll s.handle (desk_of m seats made files kept).post).1 code message) where
    -- the parcel as it is read
    abbrev own_parcel : Parcel
    own_parcel = as_read e.parcel

    abbrev x : Handled
    x = received_as taken (task_of m s) own_parcel code

    abbrev reply_with : EventCode → Message → Outcome → Reply
    reply_with k y o = reply.Event k (action_of y.body) y.my_ref y.your_ref o

    there : (mid : Desk) → IsReordered taken mid → IsAt i (task_of m s) mid
    unfolding with_delivered
    there mid r = reordered-at taken mid i (task_of m s) r task-there

    -- a message was handled, on a desk that differs in that order alone
    pub poll-some : (mid last : Desk) (outcome : Outcome) → IsReordered taken mid
        → ((t : Task) (p : Parcel) → IsFor i t mid p message → (outcome ≡ (received_as mid t p code).1)
        × IsReordered (received_as mid t p code).0 last)
        → (y : Desk) × ((poll (desk_of m seats made files kept) name ≡ Ok (y, reply_with code message outcome)) × IsReordered y last)
    unfolding poll_taken
    poll-some mid last outcome r done =
        let own : IsFor i (task_of m s) mid own_parcel message = record { at = there mid r; message_is = e.message_is } in
        let q = done (task_of m s) own_parcel own in
        let h = received-too taken mid (task_of m s) own_parcel code r last outcome q.0 q.1 in
        let answer : EventCode → Answer =
        λ k. ((received_as taken (task_of m s) own_parcel k).0, reply_with k own_parcel.message (received_as taken (task_of m s) own_parcel k).1) in
        let by_code : answer e.parcel.code ≡ answer code = ap answer e.code_is in
        let by_message : answer code ≡ (x.0, reply_with code message x.1) =
        ap (λ y. let a : Answer = (x.0, reply_with code y x.1) in a) e.message_is in
        let by_outcome : (let a : Answer = (x.0, reply_with code message x.1) in a) ≡ (x.0, reply_with code message outcome) =
        ap (λ o. let a : Answer = (x.0, reply_with code message o) in a) (sym h.0) in
        let whole = by_code ∙ by_message ∙ by_outcome in (
          x.0,
          (
            poll-is ∙ ap (λ o. let a : Granted Answer = Ok (poll_taken taken (task_of m s) o) in a) e.is ∙ ap (λ a. let b : Granted Answer = Ok a in b)
                whole,
            h.1,
          ),
        )
