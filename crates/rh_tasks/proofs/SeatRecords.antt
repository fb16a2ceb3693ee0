-- The records of the task at a place, edited.
use Rattle.rh_tasks.proofs.Common.{◌≡◌, ℕ, ◌<◌, refl, ap, sym, subst, arith, true, ◌∙◌, Option, None, Some, IfSome, List, length, map, get_or}
use Rattle.rh_tasks.proofs.Common.{set, length-map, Memory, OnlyArea-self}
use Rattle.rh_tasks.proofs.Common.{FileList, Outgoing, Incoming, Desk, Task, with_sending, with_taking, IsDesk}
use Rattle.rh_tasks.proofs.Common.{IsSlotIn, Seat, MadeArea}
use Rattle.rh_tasks.proofs.Common.{Kept, HasSlot, task_of, desk_of, IsWorld, IsAt, Sits, all-at, mapped-at, mapped-is, Moves, moved-desk, moved-world}
use Rattle.rh_defs.specs.declared.transfer_action.SendAction.{SendAction}
use Rattle.rh_defs.specs.declared.transfer_action.TakeAction.{TakeAction}
use Rattle.rh_defs.proofs.Desks.{with_sending-keeps, with_taking-keeps}
use Rattle.rh_ram.specs.Due.{is_send_due, is_take_due}
use Rattle.rh_tasks.specs.Inner.PollSteps.{CanSend, CanTake}

-- ---- the task at a place

module _ {m : Memory} {seats : List Seat} {made : List MadeArea} {files : FileList} {kept : Kept}
    (w : IsWorld m seats made files kept) where
  abbrev d : Desk
  d = desk_of m seats made files kept

  -- a place that the desk has
  pub sits-in : {i : ℕ} {s : Seat} → i < length (map (task_of m) seats) → get_or seats i s ≡ s → Sits seats i s
  sits-in inside is = record { inside = omega (arith, inside, length-map seats (task_of m)); is = is }

  module _ {i : ℕ} {s : Seat} (at : Sits seats i s) where
    has : IsSlotIn m s.slot
    has = all-at (HasSlot m) seats i s w.areas.slots at

    -- the task there
    pub handle-at : (t : Task) → IsAt i t d → s.handle ≡ t.handle
    unfolding task_of
    handle-at t there = ap (λ (x : Task). x.handle) (mapped-is (task_of m) seats i s t at there)

    -- what holds of the task's records holds of the seat's
    pub sends-as : (P : List Outgoing → Type 0) (t : Task) → IsAt i t d → P t.sending → P s.sending
    unfolding task_of
    sends-as P t there p = subst (λ (x : Task). P x.sending) (sym (mapped-is (task_of m) seats i s t at there)) p

    pub takes-as : (P : List Incoming → Type 0) (t : Task) → IsAt i t d → P t.taking → P s.taking
    unfolding task_of
    takes-as P t there p = subst (λ (x : Task). P x.taking) (sym (mapped-is (task_of m) seats i s t at there)) p

    pub sends-own : (P : List Outgoing → Type 0) → ((t : Task) → IsAt i t d → P t.sending) → P s.sending
    unfolding task_of
    sends-own P all = all (task_of m s) (mapped-at (task_of m) seats i s at)

    pub takes-own : (P : List Incoming → Type 0) → ((t : Task) → IsAt i t d → P t.taking) → P s.taking
    unfolding task_of
    takes-own P all = all (task_of m s) (mapped-at (task_of m) seats i s at)

    -- an action that is due by the seat's records is due by the task's
    pub can-send : (a : SendAction) → is_send_due a s.sending ≡ true → CanSend i a d
    unfolding task_of
    can-send a due t there = subst (λ (x : Task). is_send_due a x.sending ≡ true) (mapped-is (task_of m) seats i s t at there) due

    pub can-take : (a : TakeAction) → is_take_due a s.taking ≡ true → CanTake i a d
    unfolding task_of
    can-take a due t there = subst (λ (x : Task). is_take_due a x.taking ≡ true) (mapped-is (task_of m) seats i s t at there) due

    pub can-send-if : (o : Option SendAction) → IfSome o (λ a. is_send_due a s.sending ≡ true) → IfSome o (λ a. CanSend i a d)
    can-send-if None h = tt
    can-send-if (Some a) h = can-send a h

    pub can-take-if : (o : Option TakeAction) → IfSome o (λ a. is_take_due a s.taking ≡ true) → IfSome o (λ a. CanTake i a d)
    can-take-if None h = tt
    can-take-if (Some a) h = can-take a h

    -- ---- transfers that go out

    module _ (edit : List Outgoing → List Outgoing) {records : List Outgoing} (is : records ≡ edit s.sending) where
      abbrev sending_seat : Seat
      sending_seat = record s { sending = records }

      sending-moves : Moves m m s sending_seat (λ t. record t { sending = edit t.sending })
      unfolding task_of
      sending-moves =
          record {
            handle = refl;
            area = refl;
            still = has;
            only = OnlyArea-self m s.slot.area.0 has.opened;
            task = ap (λ (l : List Outgoing). let t : Task = record (task_of m s) { sending = l } in t) is;
          }

      pub sending-desk : desk_of m (set seats i sending_seat) made files kept ≡ with_sending s.handle edit d
      sending-desk = moved-desk w at sending-moves

      pub sending-world : IsWorld m (set seats i sending_seat) made files kept
      sending-world = moved-world w at sending-moves (subst IsDesk (sym sending-desk) (with_sending-keeps s.handle edit d w.desk))

      pub sending-done : (t : Task) → IsAt i t d → desk_of m (set seats i sending_seat) made files kept ≡ with_sending t.handle edit d
      sending-done t there = sending-desk ∙ ap (λ h. with_sending h edit d) (handle-at t there)

    -- ---- transfers that come in

    module _ (edit : List Incoming → List Incoming) {records : List Incoming} (is : records ≡ edit s.taking) where
      abbrev taking_seat : Seat
      taking_seat = record s { taking = records }

      taking-moves : Moves m m s taking_seat (λ t. record t { taking = edit t.taking })
      unfolding task_of
      taking-moves =
          record {
            handle = refl;
            area = refl;
            still = has;
            only = OnlyArea-self m s.slot.area.0 has.opened;
            task = ap (λ (l : List Incoming). let t : Task = record (task_of m s) { taking = l } in t) is;
          }

      pub taking-desk : desk_of m (set seats i taking_seat) made files kept ≡ with_taking s.handle edit d
      taking-desk = moved-desk w at taking-moves

      pub taking-world : IsWorld m (set seats i taking_seat) made files kept
      taking-world = moved-world w at taking-moves (subst IsDesk (sym taking-desk) (with_taking-keeps s.handle edit d w.desk))

      pub taking-done : (t : Task) → IsAt i t d → desk_of m (set seats i taking_seat) made files kept ≡ with_taking t.handle edit d
      taking-done t there = taking-desk ∙ ap (λ h. with_taking h edit d) (handle-at t there)
