use Rattle.rh_scene.proofs.Common.{◌≡◌, drop, filter}
use Rattle.rh_scene.specs.SightMessages.{items_behind, first_ref, waits_for}
use Rattle.rh_scene.proofs.Chains.{rest_behind}
use Rattle.rh_scene.proofs.message_list.next_behind.Given as goal

-- what is left has the message behind, at its front where the message was seen
abbrev pub invariant-loop-other : goal.invariant-loop-other
invariant-loop-other l =
    first_ref (rest_behind l.seen l.message.my_ref (filter (waits_for l.message.to) (drop l.other-index l.messages)))
    ≡ first_ref (items_behind l.message.my_ref (filter (waits_for l.message.to) l.messages))
