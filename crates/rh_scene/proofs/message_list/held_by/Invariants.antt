use Rattle.rh_scene.proofs.Common.{◌≡◌, drop, find}
use Rattle.rh_scene.specs.SightMessages.{is_held_by}
use Rattle.rh_scene.proofs.message_list.held_by.Given as goal

-- the task holds none so far
abbrev pub invariant-loop-message : goal.invariant-loop-message
invariant-loop-message l =
    find (is_held_by l.handle) (drop l.message-index l.messages) ≡ find (is_held_by l.handle) l.messages
