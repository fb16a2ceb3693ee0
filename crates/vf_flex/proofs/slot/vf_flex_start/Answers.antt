use Rattle.std.proofs.Common.{length, sym, ◌∙◌}
use Rattle.vf_flex.proofs.Starts.{granted, most}
use Rattle.vf_flex.proofs.slot.vf_flex_start.Goals as goal

pub start-requires : goal.start-requires
start-requires c = most (length c.args.memory.now) (sym c.length_status-status.ensures ∙ c.if-status-ne-OK.false)

pub returns-in-Err-clause-status : goal.returns-in-Err-clause-status
returns-in-Err-clause-status c =
    absurd (granted (length c.args.memory.now) c.in-Err.refusal (sym c.length_status-status.ensures ∙ c.if-status-ne-OK.false)
    c.in-Err.ensures.answer)
