use Rattle.rh_pictures.proofs.Common.{◌≡◌, ◌≤◌, ◌+◌, drop, filter, length}
use Rattle.rh_pictures.specs.Returns.{returns}
use Rattle.rh_pictures.proofs.walks.post_changes.count_returned.Given as goal

-- those of the messages from the place on are left
abbrev pub invariant-loop-message : goal.invariant-loop-message
invariant-loop-message l = record {
  value : l.count + length (filter (returns l.step.kept.now.messages) (drop l.message-index l.step.messages.now))
      ≡ length (filter (returns l.step.kept.now.messages) l.step.messages.now);
  few : l.count ≤ l.message-index;
}
