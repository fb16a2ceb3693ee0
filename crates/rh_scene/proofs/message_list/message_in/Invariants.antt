use Rattle.rh_scene.proofs.Common.{◌≡◌, drop, find, lies_in}
use Rattle.rh_scene.proofs.message_list.message_in.Given as goal

-- none so far lies in the block
abbrev pub invariant-loop-message : goal.invariant-loop-message
invariant-loop-message l =
    find (lies_in l.block) (drop l.message-index l.messages) ≡ find (lies_in l.block) l.messages
