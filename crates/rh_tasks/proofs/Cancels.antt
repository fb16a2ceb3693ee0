-- Transfers that are given up.
use Rattle.rh_tasks.proofs.Common.{
  ◌≡◌,
  ℕ,
  refl,
  ap,
  sym,
  subst,
  ◌∙◌,
  List,
  Option,
  option_map,
  Some,
  None,
  Ok,
  Err,
  set,
  Memory,
  FileList,
  Refusal,
  Outgoing,
  Incoming,
}
use Rattle.rh_tasks.proofs.Common.{Granted, Task, with_task, with_taking, Answer, IsAt, mapped-at, mapped-is, result_or}
use Rattle.rh_tasks.proofs.Common.{Desk, Seat, MadeArea, Kept, Sits, task_of, desk_of, IsWorld, FoundSeat, set_same, begins, ends, granted-same, sits, named-is}
use Rattle.rh_defs.specs.declared.reply.Reply.TheVariants as reply
use Rattle.rh_defs.specs.Sender as sender
use Rattle.rh_defs.specs.Receiver as receiver
use Rattle.rh_defs.specs.Commands.{cancel_in, cancel_out, with_released}
use Rattle.rh_defs.specs.IncomingEvents.{without_buffer}
use Rattle.rh_defs.specs.declared.transfer.Taking.{Taking}
use Rattle.rh_tasks.proofs.Places.{edited-is}
use Rattle.rh_tasks.proofs.Saves.{edit-twice}
use Rattle.rh_tasks.proofs.SeatRecords as seat

-- a transfer's buffer
abbrev pub buffer_of : Taking → ℕ
buffer_of x = x.buffer

no-buffer : (o : Option Taking) → option_map buffer_of o ≡ None → o ≡ None
no-buffer None e = refl
no-buffer (Some x) e = absurd cc

one-buffer : (o : Option Taking) (b : ℕ) → option_map buffer_of o ≡ Some b → (x : Taking) × ((o ≡ Some x) × (x.buffer ≡ b))
one-buffer None b e = absurd cc
one-buffer (Some x) b e = (x, (refl, cc))

-- ---- in the records of the seat at a place alone

module _ {m : Memory} {seats : List Seat} {made : List MadeArea} {files : FileList} {kept : Kept} {i : ℕ} {s : Seat}
    (w : IsWorld m seats made files kept) (at : Sits seats i s) (id : Option ℕ) where
  abbrev taking_seat : List Incoming → Seat
  taking_seat records = record s { taking = records }

  pub taking-world : (records : List Incoming) → IsWorld m (set seats i (taking_seat records)) made files kept
  taking-world records = seat.taking-world w at (λ _. records) refl

  -- where it is refused the records stay
  pub taking-stay : {r : Refusal} {records : List Incoming} → receiver.cancel_taking id s.taking ≡ Err r
      → records ≡ result_or s.taking (receiver.cancel_taking id s.taking) → set seats i (taking_seat records) ≡ seats
  taking-stay {r} {records} given is =
      ap (set seats i) (ap taking_seat (is ∙ ap (result_or s.taking) given)) ∙ set_same seats i s at

  -- what is told of it by the task there
  pub releases : (t : Task) → IsAt i t (desk_of m seats made files kept)
      → option_map buffer_of (receiver.released_by id s.taking) ≡ option_map buffer_of (receiver.released_by id t.taking)
  unfolding task_of
  releases t there = ap (λ (x : Task). option_map buffer_of (receiver.released_by id x.taking)) (mapped-is (task_of m) seats i s t at there)

  pub gives-up : {records : List Incoming} → receiver.cancel_taking id s.taking ≡ Ok records → (t : Task) → IsAt i t (desk_of m seats made files kept)
      → (new : List Incoming) × ((receiver.cancel_taking id t.taking ≡ Ok new)
      × (desk_of m (set seats i (taking_seat records)) made files kept ≡ with_taking t.handle (λ _. new) (desk_of m seats made files kept)))
  unfolding task_of
  gives-up {records} given t there =
      let same : s.taking ≡ t.taking = ap (λ (x : Task). x.taking) (mapped-is (task_of m) seats i s t at there) in
      (records, (sym (ap (receiver.cancel_taking id) same) ∙ given, seat.taking-done w at (λ _. records) refl t there))

  pub gives-none : {r : Refusal} → receiver.cancel_taking id s.taking ≡ Err r → (t : Task) → IsAt i t (desk_of m seats made files kept)
      → receiver.cancel_taking id t.taking ≡ Err r
  unfolding task_of
  gives-none given t there = sym (ap (λ (x : Task). receiver.cancel_taking id x.taking) (mapped-is (task_of m) seats i s t at there)) ∙ given

-- ---- by name

module _ {m : Memory} {seats : List Seat} {made : List MadeArea} {files : FileList} {kept : Kept} {name : List ℕ} {i : ℕ} {s : Seat}
    (w : IsWorld m seats made files kept) (f : FoundSeat name seats i s) where
  abbrev d : Desk
  d = desk_of m seats made files kept

  -- a seat that is written anew as it was
  same-seat : (t : Seat) → t ≡ s → set seats i t ≡ seats
  same-seat t e = ap (set seats i) e ∙ set_same seats i s (sits f)

  -- ---- a transfer that comes in

  -- what is granted of it: first a buffer that goes, and then the records
  abbrev without : Option Taking → Desk
  without o = with_released s.handle o d

  given-in : (id : Option ℕ) {records : List Incoming} → receiver.cancel_taking id s.taking ≡ Ok records
      → cancel_in d name id ≡ Ok (with_taking s.handle (λ _. records) (without (receiver.released_by id s.taking)), reply.Done)
  unfolding cancel_in task_of
  given-in id given = begins _ (named-is m made files kept f) (begins _ given refl)

  -- no buffer goes
  pub cancel_in-done : (id : Option ℕ) {records : List Incoming} → receiver.cancel_taking id s.taking ≡ Ok records
      → option_map buffer_of (receiver.released_by id s.taking) ≡ None → {new : Desk} → new ≡ with_taking s.handle (λ _. records) d
      → cancel_in d name id ≡ Ok (new, reply.Done)
  cancel_in-done id {records} given gone is =
      let none = no-buffer (receiver.released_by id s.taking) gone in
      given-in id given ∙ ap (λ o. let g : Granted Answer = Ok (with_taking s.handle (λ _. records) (without o), reply.Done) in g) none
      ∙ granted-same (sym is) refl

  -- a buffer goes, after the record was written
  pub cancel_in-released : (id : Option ℕ) {records : List Incoming} → receiver.cancel_taking id s.taking ≡ Ok records → (b : ℕ)
      → option_map buffer_of (receiver.released_by id s.taking) ≡ Some b → {mid new : Desk} → mid ≡ with_taking s.handle (λ _. records) d
      → new ≡ with_task s.handle (λ t. record t { slot = without_buffer b t.slot }) mid → cancel_in d name id ≡ Ok (new, reply.Done)
  unfolding with_task
  cancel_in-released id {records} given b one {mid} first is =
      let w = one-buffer (receiver.released_by id s.taking) b one in
      let x = w.0 in
      let some = w.1.0 in
      let drop : Task → Task = λ t. record t { slot = without_buffer x.buffer t.slot } in
      let write : Task → Task = λ t. record t { taking = records } in
      let both = edit-twice s.handle drop write (λ t. refl) d.tasks in
      let back = edit-twice s.handle write drop (λ t. refl) d.tasks in
      given-in id given ∙ ap (λ o. let g : Granted Answer = Ok (with_taking s.handle (λ _. records) (without o), reply.Done) in g) some
      ∙ granted-same (ap (λ (tasks : List Task). let y : Desk = record d { tasks = tasks } in y) (both ∙ sym back) ∙ ap (with_task s.handle drop) (sym first)
      ∙ ap (λ k. with_task s.handle (λ t. record t { slot = without_buffer k t.slot }) mid) w.1.1 ∙ sym is) refl

  -- the task at the place then
  pub there-then : (records : List Incoming) → {mid : Desk} → mid ≡ with_taking s.handle (λ _. records) d
      → IsAt i (let t : Task = record (task_of m s) { taking = records } in t) mid
  unfolding task_of
  there-then records {mid} is =
      subst (IsAt i (let t : Task = record (task_of m s) { taking = records } in t)) (sym is)
      (edited-is d i (task_of m s) (λ t. record t { taking = records }) w.desk (mapped-at (task_of m) seats i s (sits f)))

  pub cancel_in-refused : (id : Option ℕ) {r : Refusal} → receiver.cancel_taking id s.taking ≡ Err r → cancel_in d name id ≡ Err r
  unfolding cancel_in task_of
  cancel_in-refused id e = begins _ (named-is m made files kept f) (ends _ e)

  -- ---- a transfer that goes out

  abbrev sending_seat : List Outgoing → Seat
  sending_seat records = record s { sending = records }

  pub sending-world : (records : List Outgoing) → IsWorld m (set seats i (sending_seat records)) made files kept
  sending-world records = seat.sending-world w (sits f) (λ _. records) refl

  pub cancel_out-done : (id : Option ℕ) {records : List Outgoing} → sender.cancel_sending id s.sending ≡ Ok records
      → cancel_out d name id ≡ Ok (desk_of m (set seats i (sending_seat records)) made files kept, reply.Done)
  unfolding cancel_out task_of
  cancel_out-done id {records} given =
      begins _ (named-is m made files kept f) (begins _ given (granted-same (sym (seat.sending-desk w (sits f) (λ _. records) refl)) refl))

  pub sending-stay : (id : Option ℕ) {r : Refusal} {records : List Outgoing} → sender.cancel_sending id s.sending ≡ Err r
      → records ≡ result_or s.sending (sender.cancel_sending id s.sending) → set seats i (sending_seat records) ≡ seats
  sending-stay id {r} {records} given is = same-seat (sending_seat records) (ap sending_seat (is ∙ ap (result_or s.sending) given))

  pub cancel_out-refused : (id : Option ℕ) {r : Refusal} → sender.cancel_sending id s.sending ≡ Err r → cancel_out d name id ≡ Err r
  unfolding cancel_out task_of
  cancel_out-refused id e = begins _ (named-is m made files kept f) (ends _ e)
