use Rattle.rh_tasks.proofs.Common.{sym, refl, reordered-refl}
use Rattle.rh_tasks.proofs.SeatRecords.{sits-in, can-send-if, can-take-if}
use Rattle.rh_tasks.proofs.Tables.{flagged-due, other-came, save-as, ack-as, load-as, load_ack-as, fetch-ignored, fetch-as, bytes-as}
use Rattle.rh_tasks.proofs.world.World.deliver.Goals as goal

pub perform_take-requires-clause-due : goal.perform_take-requires-clause-due
perform_take-requires-clause-due g c =
    let at = sits-in c.self.invariant (rw (← c.self.view_is) at c.requires) (sym c.index-seat.ensures) in
    rw (← c.self.view_is) (can-take-if c.self.invariant at c.flagged-action.result
    (rw c.flagged-action.ensures (flagged-due c.is_raw_at.result c.on_save-offer.result _ c.on_save-offer.ensures.due)))

pub returns-in-DataSave : goal.returns-in-DataSave
returns-in-DataSave g c = λ t m for.
    let own = rw (← c.self.view_is) at for in
    let h = rw (← c.self.view_is) at c.perform_take.ensures in
    let raw = rw (← c.self.view_is) at c.is_raw_at.ensures in
    rw (← c.self.view_is) (save-as c.self.invariant (sym c.index-seat.ensures) own c.in-DataSave.is c.is_deaf.ensures c.on_save-offer.ensures.action raw
    c.flagged-action.ensures (h t own.at))

pub perform_send-requires-clause-due : goal.perform_send-requires-clause-due
perform_send-requires-clause-due g c =
    let at = sits-in c.self.invariant (rw (← c.self.view_is) at c.requires) (sym c.index-seat.ensures) in
    rw (← c.self.view_is) (can-send-if c.self.invariant at c.on_ack-action.result c.on_ack-action.ensures.due)

pub returns-in-DataSaveAck : goal.returns-in-DataSaveAck
returns-in-DataSaveAck g c = λ t m for.
    let own = rw (← c.self.view_is) at for in
    let h = rw (← c.self.view_is) at c.perform_send.ensures in
    rw (← c.self.view_is) (ack-as c.self.invariant (sym c.index-seat.ensures) own c.in-DataSaveAck.is c.on_ack-action.ensures.action (h t own.at))

pub perform_take-requires-in-DataLoad-clause-due : goal.perform_take-requires-in-DataLoad-clause-due
perform_take-requires-in-DataLoad-clause-due g c =
    let at = sits-in c.self.invariant (rw (← c.self.view_is) at c.requires) (sym c.index-seat.ensures) in
    rw (← c.self.view_is) (can-take-if c.self.invariant at c.on_load-action.result c.on_load-action.ensures.due)

pub returns-in-DataLoad : goal.returns-in-DataLoad
returns-in-DataLoad g c = λ t m for.
    let own = rw (← c.self.view_is) at for in
    let h = rw (← c.self.view_is) at c.perform_take-in-DataLoad.ensures in
    rw (← c.self.view_is) (load-as c.self.invariant (sym c.index-seat.ensures) own c.in-DataLoad.is c.on_load-action.ensures.action (h t own.at))

pub perform_send-requires-in-DataLoadAck-clause-due : goal.perform_send-requires-in-DataLoadAck-clause-due
perform_send-requires-in-DataLoadAck-clause-due g c =
    let at = sits-in c.self.invariant (rw (← c.self.view_is) at c.requires) (sym c.index-seat.ensures) in
    rw (← c.self.view_is) (can-send-if c.self.invariant at c.on_load_ack-action.result c.on_load_ack-action.ensures.due)

pub returns-in-DataLoadAck : goal.returns-in-DataLoadAck
returns-in-DataLoadAck g c = λ t m for.
    let own = rw (← c.self.view_is) at for in
    let h = rw (← c.self.view_is) at c.perform_send-in-DataLoadAck.ensures in
    rw (← c.self.view_is) (load_ack-as c.self.invariant (sym c.index-seat.ensures) own c.in-DataLoadAck.is c.on_load_ack-action.ensures.action (h t own.at))

pub perform_send-requires-in-RamFetch-clause-due : goal.perform_send-requires-in-RamFetch-clause-due
perform_send-requires-in-RamFetch-clause-due g c =
    let at = sits-in c.self.invariant (rw (← c.self.view_is) at c.requires) (sym c.index-seat.ensures) in
    rw (← c.self.view_is) (can-send-if c.self.invariant at c.on_fetch-action.result c.on_fetch-action.ensures.due)

pub returns-else-answers_none : goal.returns-else-answers_none
returns-else-answers_none g c = λ t m for.
    let own = rw (← c.self.view_is) at for in
    let h = rw (← c.self.view_is) at c.perform_send-in-RamFetch.ensures in
    rw (← c.self.view_is) (fetch-as c.self.invariant (sym c.index-seat.ensures) own c.in-RamFetch.is
    (sym c.if-answers_none.ensures) c.on_fetch-action.ensures.action (h t own.at))

pub perform_take-requires-in-RamTransmit-clause-due : goal.perform_take-requires-in-RamTransmit-clause-due
perform_take-requires-in-RamTransmit-clause-due g c =
    let at = sits-in c.self.invariant (rw (← c.self.view_is) at c.requires) (sym c.index-seat.ensures) in
    rw (← c.self.view_is) (can-take-if c.self.invariant at c.on_transmit-action.result c.on_transmit-action.ensures.due)

pub returns-in-RamTransmit : goal.returns-in-RamTransmit
returns-in-RamTransmit g c = λ t m for.
    let own = rw (← c.self.view_is) at for in
    let h = rw (← c.self.view_is) at c.perform_take-in-RamTransmit.ensures in
    rw (← c.self.view_is) (bytes-as c.self.invariant (sym c.index-seat.ensures) own c.in-RamTransmit.is c.on_transmit-action.ensures.action (h t own.at))

pub returns-then-answers_none : goal.returns-then-answers_none
returns-then-answers_none g c = λ t m for.
    let own = rw (← c.self.view_is) at for in
    rw (← c.self.view_is) (fetch-ignored c.self.invariant (sym c.index-seat.ensures) own c.in-RamFetch.is (sym c.if-answers_none.ensures)
    (refl, reordered-refl _))

pub returns-in-Other : goal.returns-in-Other
returns-in-Other g c = λ t m for. other-came for c.in-Other.is (refl, reordered-refl _)
