use Rattle.vf_desk.proofs.Common.{Some, ap, refl, subst, ◌∙◌, closed_status}
use Rattle.vf_desk.specs.DeskLines.{Replies}
use Rattle.vf_desk.proofs.LineLaws.{replies-closed}
use Rattle.vf_desk.proofs.lines.vf_desk_reply.Goals as goal

pub returns-in_default-clause-replies : goal.returns-in_default-clause-replies
returns-in_default-clause-replies c =
    subst (λ h. Replies h c.args.text.now c.args.text.now c.args.length.now c.args.length.now closed_status) c.in_default.ensures.taken (replies-closed refl)

pub returns-in_default-clause-same : goal.returns-in_default-clause-same
returns-in_default-clause-same c = c.in_default.ensures.left ∙ c.in_default.ensures.taken

pub returns-clause-replies : goal.returns-clause-replies
returns-clause-replies c = subst (λ h. Replies h c.args.text.now c.reply-status.new.text c.args.length.now c.reply-status.new.length c.reply-status.result)
    (ap Some c.deref_mut.ensures.value ∙ c.in-Some.ensures.taken) c.reply-status.ensures.replies

pub returns-clause-same : goal.returns-clause-same
returns-clause-same c = c.put.ensures ∙ (ap Some (c.reply-status.ensures.same ∙ c.deref_mut.ensures.value) ∙ c.in-Some.ensures.taken)
