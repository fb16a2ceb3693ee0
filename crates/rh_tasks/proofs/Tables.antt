-- What a poll does with its message, by its action.
use Rattle.rh_tasks.proofs.Common.{
  ◌≡◌,
  ◌⊎◌,
  inl,
  inr,
  ℕ,
  true,
  false,
  refl,
  ap,
  sym,
  subst,
  ◌∙◌,
  List,
  Option,
  None,
  Some,
  IfSome,
  if◌then◌else◌,
  get_or,
  Memory,
  FileList,
  Incoming,
}
use Rattle.rh_tasks.proofs.Common.{EventCode, User, Message, Outcome, Parcel, Desk, Task, IsReordered, Handled, ignored}
use Rattle.rh_tasks.proofs.Common.{Bool, Seat, MadeArea, Kept, task_of, desk_of, IsWorld, IsFor, Sits, mapped-is}
use Rattle.rh_defs.specs.declared.message.Body.{Body}
use Rattle.rh_defs.specs.declared.message.Body.TheVariants.{DataSave, DataSaveAck, DataLoad, DataLoadAck, RamFetch, RamTransmit, Other}
use Rattle.rh_defs.specs.declared.message.EventCode.TheVariants.{Recorded, Acknowledge}
use Rattle.rh_defs.specs.declared.message.FileData.{FileData}
use Rattle.rh_defs.specs.declared.transfer_action.SendAction.{SendAction}
use Rattle.rh_defs.specs.declared.transfer_action.TakeAction.{TakeAction}
use Rattle.rh_defs.specs.declared.transfer_action.TakeAction.TheVariants as take
use Rattle.rh_defs.specs.declared.reply.Outcome.TheVariants.{Taken}
use Rattle.rh_defs.specs.RawTasks.{is_raw, is_raw_at}
use Rattle.rh_defs.specs.Sender as sender
use Rattle.rh_defs.specs.Receiver as receiver
use Rattle.rh_defs.specs.OutgoingEvents.{perform_send, fail_sending}
use Rattle.rh_defs.specs.IncomingEvents.{is_deaf, perform_take, ack_back}
use Rattle.rh_defs.specs.Transfer.{answers_none, delivered, bounced_to, handled}
use Rattle.rh_ram.specs.Due.{is_take_due}
use Rattle.rh_tasks.specs.Inner.PollSteps.{received_as}
use Rattle.rh_tasks.proofs.Places.{mapped-inside}

-- what was done gives the desk, but for the order of messages to different tasks, and the outcome
abbrev As : Handled → Desk → Outcome → Type 0
As after last outcome = (outcome ≡ after.1) × IsReordered after.0 last

-- an action that is due is due whoever sends
pub flagged-due : (raw : Bool) (o : Option TakeAction) (records : List Incoming) → IfSome o (λ a. is_take_due a records ≡ true)
    → IfSome (receiver.flagged raw o) (λ a. is_take_due a records ≡ true)
flagged-due raw None records h = tt
flagged-due raw (Some (take.Claim a)) records h = h
flagged-due raw (Some (take.Append a)) records h = h
flagged-due raw (Some (take.AskForFile f)) records h = h
flagged-due raw (Some (take.LoadFile a)) records h = h
flagged-due raw (Some (take.Release a)) records h = h

-- ---- by code

pub user-or-recorded : (d : Desk) (t : Task) (p : Parcel) (code : EventCode) → (code ≡ User) ⊎ (code ≡ Recorded) → (last : Desk) {outcome : Outcome}
    → As (delivered d t p p.message.body) last outcome → As (handled d t p code) last outcome
unfolding handled
user-or-recorded d t p code (inl e) last h = rw e h
user-or-recorded d t p code (inr e) last h = rw e h

pub acknowledged : (d : Desk) (t : Task) (p : Parcel) (code : EventCode) → code ≡ Acknowledge → (last : Desk) {outcome : Outcome}
    → As (bounced_to d t p p.message.body) last outcome → As (handled d t p code) last outcome
unfolding handled
acknowledged d t p code e last h = rw e h

-- ---- by action

module _ {d : Desk} {i : ℕ} {t : Task} {p : Parcel} {message : Message} (for : IsFor i t d p message) where
  delivered-as : {last : Desk} {outcome : Outcome} {b : Body} → message.body ≡ b → As (delivered d t p b) last outcome
      → As (delivered d t p p.message.body) last outcome
  delivered-as {last} {outcome} e h = subst (λ b. As (delivered d t p b) last outcome) (sym (ap (λ (x : Message). x.body) for.message_is ∙ e)) h

  back-as : {last : Desk} {outcome : Outcome} {b : Body} → message.body ≡ b → As (bounced_to d t p b) last outcome
      → As (bounced_to d t p p.message.body) last outcome
  back-as {last} {outcome} e h = subst (λ b. As (bounced_to d t p b) last outcome) (sym (ap (λ (x : Message). x.body) for.message_is ∙ e)) h

  -- a message of another kind came, or came back
  pub other-came : {last : Desk} {outcome : Outcome} {other : ℕ × List ℕ} → message.body ≡ Other other → As (ignored d) last outcome
      → As (delivered d t p p.message.body) last outcome
  unfolding delivered
  other-came e h = delivered-as e h

  pub other-back : {last : Desk} {outcome : Outcome} {other : ℕ × List ℕ} → message.body ≡ Other other → As (ignored d) last outcome
      → As (bounced_to d t p p.message.body) last outcome
  unfolding bounced_to
  other-back e h = back-as e h

  -- ---- messages that came back

  -- a message of the sender's came back
  pub sender-back : {last : Desk} {outcome : Outcome}
      → ((file : FileData) × (message.body ≡ DataSave file)) ⊎ (((file : FileData) × (message.body ≡ DataLoad file)) ⊎
      ((buffer : ℕ) × (n : ℕ) × (message.body ≡ RamTransmit buffer n)))
      → As (fail_sending d t (sender.on_sending_bounce message.my_ref t.sending)) last outcome → As (bounced_to d t p p.message.body) last outcome
  unfolding bounced_to
  sender-back {last} {outcome} k h = go k
    where
      own : As (fail_sending d t (sender.on_sending_bounce p.message.my_ref t.sending)) last outcome
      own = subst (λ (y : Message). As (fail_sending d t (sender.on_sending_bounce y.my_ref t.sending)) last outcome) (sym for.message_is) h

      go : ((file : FileData) × (message.body ≡ DataSave file)) ⊎ (((file : FileData) × (message.body ≡ DataLoad file)) ⊎
          ((buffer : ℕ) × (n : ℕ) × (message.body ≡ RamTransmit buffer n))) → As (bounced_to d t p p.message.body) last outcome
      go (inl k) = back-as k.1 own
      go (inr (inl k)) = back-as k.1 own
      go (inr (inr (buffer, n, e))) = back-as e own

  pub ack-back : {last : Desk} {outcome : Outcome} {file : FileData} → message.body ≡ DataSaveAck file
      → As (ack_back d t (receiver.on_ack_bounce message.my_ref t.taking)) last outcome → As (bounced_to d t p p.message.body) last outcome
  unfolding bounced_to
  ack-back {last} {outcome} e h =
      back-as e (subst (λ (y : Message). As (ack_back d t (receiver.on_ack_bounce y.my_ref t.taking)) last outcome) (sym for.message_is) h)

  pub load-ack-back : {last : Desk} {outcome : Outcome} {file : FileData} → message.body ≡ DataLoadAck file → As (ignored d) last outcome
      → As (bounced_to d t p p.message.body) last outcome
  unfolding bounced_to
  load-ack-back e h = back-as e h

-- ---- by the records of the seat that the task sits on

module _ {m : Memory} {seats : List Seat} {made : List MadeArea} {files : FileList} {kept : Kept} {i : ℕ} {s : Seat} {t : Task} {p : Parcel} {message : Message}
    (w : IsWorld m seats made files kept) (is : get_or seats i s ≡ s) (for : IsFor i t (desk_of m seats made files kept) p message) where
  abbrev d : Desk
  d = desk_of m seats made files kept

  sits : Sits seats i s
  sits = record { inside = mapped-inside (task_of m) seats i t for.at; is = is }

  -- what the seat and the message say is what the task and the parcel say
  meant : {B : Type 0} (f : Message → Task → B) → f message (task_of m s) ≡ f p.message t
  meant f = ap (λ x. f x (task_of m s)) (sym for.message_is) ∙ ap (f p.message) (mapped-is (task_of m) seats i s t sits for.at)

  -- an action by the seat's records is the task's
  sends : {last : Desk} {outcome : Outcome} {a : Option SendAction} (f : Message → Task → Option SendAction) → a ≡ f message (task_of m s)
      → As (perform_send d t a) last outcome → As (perform_send d t (f p.message t)) last outcome
  sends {last} {outcome} f q h = subst (λ x. As (perform_send d t x) last outcome) (q ∙ meant f) h

  takes : {last : Desk} {outcome : Outcome} {a : Option TakeAction} (f : Message → Task → Option TakeAction) → a ≡ f message (task_of m s)
      → As (perform_take d t a) last outcome → As (perform_take d t (f p.message t)) last outcome
  takes {last} {outcome} f q h = subst (λ x. As (perform_take d t x) last outcome) (q ∙ meant f) h

  -- ---- whether the task has code of its own

  manner-is : is_raw s.manner ≡ is_raw t.manner
  unfolding task_of
  manner-is = meant (λ y z. is_raw z.manner)

  pub taken-raw : {last : Desk} (code : EventCode) → is_raw s.manner ≡ true → IsReordered d last → As (received_as d t p code) last Taken
  taken-raw {last} code q r =
      subst (λ b. As (if b then (d, Taken) else handled d t p code) last Taken) (sym q ∙ manner-is) (refl, r)

  pub taken-played : {last : Desk} (code : EventCode) {said : Outcome} → is_raw s.manner ≡ false → As (handled d t p code) last said
      → As (received_as d t p code) last said
  taken-played {last} code {said} q h =
      subst (λ b. As (if b then (d, Taken) else handled d t p code) last said) (sym q ∙ manner-is) h

  -- ---- messages that came

  pub save-as : {last : Desk} {outcome : Outcome} {file : FileData} {deaf raw : Bool} {offer a : Option TakeAction} → message.body ≡ DataSave file
      → deaf ≡ is_deaf s.manner → offer ≡ receiver.on_save deaf message.from message.my_ref s.taking → raw ≡ is_raw_at message.from d
      → a ≡ receiver.flagged raw offer → As (perform_take d t a) last outcome → As (delivered d t p p.message.body) last outcome
  unfolding delivered task_of
  save-as {offer = offer} e k q r f h =
      delivered-as for e (takes (λ y z. receiver.flagged (is_raw_at y.from d) (receiver.on_save (is_deaf z.manner) y.from y.my_ref z.taking))
      (f ∙ ap (λ b. receiver.flagged b offer) r ∙ ap (receiver.flagged (is_raw_at message.from d))
      (q ∙ ap (λ b. receiver.on_save b message.from message.my_ref s.taking) k)) h)

  pub ack-as : {last : Desk} {outcome : Outcome} {file : FileData} {a : Option SendAction} → message.body ≡ DataSaveAck file
      → a ≡ sender.on_ack message.from message.my_ref message.your_ref s.sending → As (perform_send d t a) last outcome
      → As (delivered d t p p.message.body) last outcome
  unfolding delivered task_of
  ack-as e q h = delivered-as for e (sends (λ y z. sender.on_ack y.from y.my_ref y.your_ref z.sending) q h)

  pub load-as : {last : Desk} {outcome : Outcome} {file : FileData} {a : Option TakeAction} → message.body ≡ DataLoad file
      → a ≡ receiver.on_load message.from message.my_ref message.your_ref s.taking → As (perform_take d t a) last outcome
      → As (delivered d t p p.message.body) last outcome
  unfolding delivered task_of
  load-as e q h = delivered-as for e (takes (λ y z. receiver.on_load y.from y.my_ref y.your_ref z.taking) q h)

  pub load_ack-as : {last : Desk} {outcome : Outcome} {file : FileData} {a : Option SendAction} → message.body ≡ DataLoadAck file
      → a ≡ sender.on_load_ack message.from message.your_ref s.sending → As (perform_send d t a) last outcome → As (delivered d t p p.message.body) last outcome
  unfolding delivered task_of
  load_ack-as e q h = delivered-as for e (sends (λ y z. sender.on_load_ack y.from y.your_ref z.sending) q h)

  abbrev fetch_of : ℕ → ℕ → Message → Task → Handled
  fetch_of buffer amount y z =
      if answers_none z.manner then ignored d else perform_send d t (sender.on_fetch y.from y.my_ref y.your_ref buffer amount z.sending)

  -- the fetch isn't answered by a task of files
  pub fetch-ignored : {last : Desk} {outcome : Outcome} {buffer amount : ℕ} → message.body ≡ RamFetch buffer amount → answers_none s.manner ≡ true
      → As (ignored d) last outcome → As (delivered d t p p.message.body) last outcome
  unfolding delivered task_of
  fetch-ignored {last} {outcome} {buffer} {amount} e q h =
      let ignored_is : fetch_of buffer amount message (task_of m s) ≡ ignored d = rw q refl in
      delivered-as for e (subst (λ x. As x last outcome) (sym ignored_is ∙ meant (fetch_of buffer amount)) h)

  pub fetch-as : {last : Desk} {outcome : Outcome} {buffer amount : ℕ} {a : Option SendAction} → message.body ≡ RamFetch buffer amount
      → answers_none s.manner ≡ false → a ≡ sender.on_fetch message.from message.my_ref message.your_ref buffer amount s.sending
      → As (perform_send d t a) last outcome → As (delivered d t p p.message.body) last outcome
  unfolding delivered task_of
  fetch-as {last} {outcome} {buffer} {amount} {a} e n q h =
      let answered_is : fetch_of buffer amount message (task_of m s) ≡ perform_send d t a = rw (n, q) refl in
      delivered-as for e (subst (λ x. As x last outcome) (sym answered_is ∙ meant (fetch_of buffer amount)) h)

  pub bytes-as : {last : Desk} {outcome : Outcome} {buffer n : ℕ} {a : Option TakeAction} → message.body ≡ RamTransmit buffer n
      → a ≡ receiver.on_transmit s.buffer message.from message.my_ref message.your_ref buffer n s.taking
      → As (perform_take d t a) last outcome → As (delivered d t p p.message.body) last outcome
  unfolding delivered task_of
  bytes-as {buffer = buffer} {n = n} e q h =
      delivered-as for e (takes (λ y z. receiver.on_transmit z.buffer y.from y.my_ref y.your_ref buffer n z.taking) q h)

  -- ---- messages that came back

  pub fetch-back : {last : Desk} {outcome : Outcome} {buffer amount : ℕ} {a : Option TakeAction} → message.body ≡ RamFetch buffer amount
      → a ≡ receiver.on_taking_bounce message.my_ref s.taking → As (perform_take d t a) last outcome → As (bounced_to d t p p.message.body) last outcome
  unfolding bounced_to task_of
  fetch-back e q h = back-as for e (takes (λ y z. receiver.on_taking_bounce y.my_ref z.taking) q h)
