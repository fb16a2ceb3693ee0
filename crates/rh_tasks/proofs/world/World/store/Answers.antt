use Rattle.rh_tasks.proofs.StandingLaws.{numbered, room-made, room-slots, stands-in}
use Rattle.rh_tasks.proofs.world.World.store.Goals as goal

pub push_made-requires : goal.push_made-requires
push_made-requires g c = room-made c.self.invariant _ c.push_fixed.ensures

pub push_slots-requires : goal.push_slots-requires
push_slots-requires g c = room-slots c.self.invariant _ _ c.push_fixed.ensures c.push_made.ensures

pub returns : goal.returns
returns g c =
    rw (← c.self.view_is, numbered c.self.invariant _ _ _ c.push_fixed.ensures c.push_made.ensures c.push_slots.ensures) (stands-in c.self.invariant)
