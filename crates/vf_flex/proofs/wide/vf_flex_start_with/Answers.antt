use Rattle.std.proofs.Common.{sym, ◌∙◌}
use Rattle.vf_flex.proofs.WideStarts.{few, count, room}
use Rattle.vf_flex.proofs.wide.vf_flex_start_with.Goals as goal

pub start-requires-clause-few : goal.start-requires-clause-few
start-requires-clause-few c = few _ _ (sym c.start_with_status-status.ensures ∙ c.if-status-eq-OK.true)

pub start-requires-clause-count : goal.start-requires-clause-count
start-requires-clause-count c = count _ _ (sym c.start_with_status-status.ensures ∙ c.if-status-eq-OK.true)

pub start-requires-clause-room : goal.start-requires-clause-room
start-requires-clause-room c = room _ _ (sym c.start_with_status-status.ensures ∙ c.if-status-eq-OK.true)
