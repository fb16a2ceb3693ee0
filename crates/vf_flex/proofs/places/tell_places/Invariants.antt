use Rattle.std.proofs.Common.{◌≡◌, ◌++◌, drop}
use Rattle.rh_lent_slot.specs.Slots.{lent_slot_in}
use Rattle.vf_flex.specs.SlotPlaces.{places_from}
use Rattle.vf_flex.proofs.places.tell_places.Given as goal

-- the places so far are told
abbrev pub invariant-loop-anchor : goal.invariant-loop-anchor
invariant-loop-anchor l = l.places ≡ places_from (lent_slot_in l.memory l.slot) 0 l.anchor ++ drop l.anchor l.initial.places
