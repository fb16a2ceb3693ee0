use Rattle.rh_tasks.proofs.Common.{sym, refl, reordered-refl}
use Rattle.rh_tasks.proofs.SeatRecords.{sits-in, can-take-if}
use Rattle.rh_tasks.proofs.Tables.{sender-back, ack-back, load-ack-back, fetch-back, other-back}
use Rattle.rh_tasks.proofs.world.World.bounce.Goals as goal

pub returns-in-DataSave : goal.returns-in-DataSave
returns-in-DataSave g c = λ t m for. sender-back for c.in-DataSave.is (c.fail_sending.ensures t for.at)

pub returns-in-DataSaveAck : goal.returns-in-DataSaveAck
returns-in-DataSaveAck g c = λ t m for. ack-back for c.in-DataSaveAck.is (c.ack_back.ensures t for.at)

pub returns-in-DataLoadAck : goal.returns-in-DataLoadAck
returns-in-DataLoadAck g c = λ t m for. load-ack-back for c.in-DataLoadAck.is (refl, reordered-refl _)

pub perform_take-requires-clause-due : goal.perform_take-requires-clause-due
perform_take-requires-clause-due g c =
    let at = sits-in c.self.invariant (rw (← c.self.view_is) at c.requires) (sym c.index-seat.ensures) in
    rw (← c.self.view_is) (can-take-if c.self.invariant at c.on_bounce-action.result c.on_bounce-action.ensures.due)

pub returns-in-RamFetch : goal.returns-in-RamFetch
returns-in-RamFetch g c = λ t m for.
    let own = rw (← c.self.view_is) at for in
    let h = rw (← c.self.view_is) at c.perform_take.ensures in
    rw (← c.self.view_is) (fetch-back c.self.invariant (sym c.index-seat.ensures) own c.in-RamFetch.is c.on_bounce-action.ensures.action (h t own.at))

pub returns-in-Other : goal.returns-in-Other
returns-in-Other g c = λ t m for. other-back for c.in-Other.is (refl, reordered-refl _)
