use Rattle.std.proofs.Common.{refl, sym, ap, ◌∙◌}
use Rattle.vf_flex.specs.SlotStatus.{found_status}
use Rattle.vf_flex.proofs.Images.{looked_at, not_done, passed_over}
use Rattle.vf_flex.proofs.image.image_status.Goals as goal

pub returns-then-status-ne-OK-clause-status : goal.returns-then-status-ne-OK-clause-status
returns-then-status-ne-OK-clause-status c =
    c.slot_status-status.ensures
    ∙ passed_over c.args.memory.now c.args.slot (λ z. c.if-status-ne-OK.true (c.slot_status-status.ensures ∙ z))

pub returns-in-Ok-clause-status : goal.returns-in-Ok-clause-status
returns-in-Ok-clause-status c =
    ap found_status c.in-Ok.ensures.fault
    ∙ sym (looked_at c.args.memory.now c.args.slot (sym c.slot_status-status.ensures ∙ c.if-status-ne-OK.false))

pub returns-in-Err-clause-status : goal.returns-in-Err-clause-status
returns-in-Err-clause-status c =
    c.fault_status.ensures ∙ ap found_status c.in-Err.ensures.fault
    ∙ sym (looked_at c.args.memory.now c.args.slot (sym c.slot_status-status.ensures ∙ c.if-status-ne-OK.false))

pub returns-in-Err-clause-slot : goal.returns-in-Err-clause-slot
returns-in-Err-clause-slot c = λ z. absurd (not_done c.in-Err.fault (sym c.fault_status.ensures ∙ z))

pub returns-in-Ok-clause-slot : goal.returns-in-Ok-clause-slot
returns-in-Ok-clause-slot c = λ z. (c.in-Ok.ensures.ok.0 refl).slot
