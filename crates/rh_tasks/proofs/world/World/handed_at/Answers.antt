use Rattle.rh_tasks.proofs.Common.{sym}
use Rattle.rh_tasks.proofs.Buffers.{sits-there}
use Rattle.rh_tasks.proofs.Hands.{handed-none, handed-some}
use Rattle.rh_tasks.proofs.Takes.{seat-live}
use Rattle.rh_tasks.proofs.world.World.handed_at.Goals as goal

pub returns-then-not-is_raw : goal.returns-then-not-is_raw
returns-then-not-is_raw g c = λ t there.
    let at = sits-there c.self.invariant c.self.view_is c.requires c.index-seat.ensures in
    handed-none c.self.invariant c.self.view_is at there (sym c.if-not-is_raw.ensures)

pub next_parts-requires-clause-live : goal.next_parts-requires-clause-live
next_parts-requires-clause-live g c =
    seat-live c.self.invariant (sits-there c.self.invariant c.self.view_is c.requires c.index-seat.ensures)

pub returns : goal.returns
returns g c = λ t there.
    let at = sits-there c.self.invariant c.self.view_is c.requires c.index-seat.ensures in
    handed-some c.self.invariant c.self.view_is at there (sym c.if-not-is_raw.ensures) c.next_parts.ensures
