use Rattle.rh_pictures.proofs.Common.{◌≡◌, ◌≤◌, ◌+◌, drop, filter, length, scene_at}
use Rattle.rh_figure.specs.Changes.{has_vanished}
use Rattle.rh_pictures.proofs.walks.post_changes.count_vanished.Given as goal

-- those of the messages from the place on are left
abbrev pub invariant-loop-message : goal.invariant-loop-message
invariant-loop-message g l =
    let x = scene_at (g.S.Sight.desk l.sight) l.step in
    record {
      value : l.count + length (filter (has_vanished x) (drop l.message-index l.messages)) ≡ length (filter (has_vanished x) l.messages);
      few : l.count ≤ l.message-index;
    }
