use Rattle.rh_pictures.proofs.Common.{append-nil, append_assoc, flat_map-append}
use Rattle.rh_pictures.proofs.walks.post_changes.show_sent.Goals as goal

pub returns : goal.returns
returns g c = simp (
  flat_map-append g.A.Artist.change_text,
  c.show_taken_bytes.ensures,
  c.change.ensures,
  c.task_sends.ensures.value,
  c.who_of-from.ensures,
  c.action.ensures,
  c.who_of-to.ensures,
  append_assoc,
  append-nil,
)
