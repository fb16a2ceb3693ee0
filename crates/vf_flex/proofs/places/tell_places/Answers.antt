use Rattle.std.proofs.Common.{arith}
use Rattle.rh_lent_slot.specs.Slots.{lent_slot_in}
use Rattle.vf_flex.proofs.PlaceLaws.{none-told, told-more}
use Rattle.vf_flex.proofs.places.tell_places.Goals as goal

pub loop-anchor-init : goal.loop-anchor-init
loop-anchor-init c = none-told (lent_slot_in c.args.memory.now c.args.slot) c.args.places.now

pub loop-anchor-preserved : goal.loop-anchor-preserved
loop-anchor-preserved c =
    told-more (lent_slot_in c.args.memory.now c.args.slot) c.args.places.now c.loop-anchor.places c.loop-anchor.anchor c.place_of.result (omega arith)
    c.loop-anchor.invariant c.place_of.ensures
