use Rattle.std.proofs.Common.{Some, refl, sym, ap, ◌∙◌}
use Rattle.vf_desk.proofs.NextLaws.{next-closed}
use Rattle.vf_desk.proofs.SeenLaws.{empty-seen, in-handle}
use Rattle.vf_desk.proofs.next.vf_desk_next.Goals as goal

pub returns-in_default-clause-status : goal.returns-in_default-clause-status
returns-in_default-clause-status c = λ s seen. rw (next-closed refl s c.args.name.now (empty-seen (sym c.in_default.ensures.taken) s seen)) refl

pub returns-in_default-clause-message : goal.returns-in_default-clause-message
returns-in_default-clause-message c = λ s seen. rw (next-closed refl s c.args.name.now (empty-seen (sym c.in_default.ensures.taken) s seen)) refl

pub returns-in_default-clause-code : goal.returns-in_default-clause-code
returns-in_default-clause-code c = λ s seen. rw (next-closed refl s c.args.name.now (empty-seen (sym c.in_default.ensures.taken) s seen)) refl

pub returns-in_default-clause-same : goal.returns-in_default-clause-same
returns-in_default-clause-same c = c.in_default.ensures.left ∙ c.in_default.ensures.taken

pub returns-clause-status : goal.returns-clause-status
returns-clause-status c = in-handle (ap Some c.deref.ensures ∙ c.in-Some.ensures.taken) c.next-status.ensures.status

pub returns-clause-message : goal.returns-clause-message
returns-clause-message c = in-handle (ap Some c.deref.ensures ∙ c.in-Some.ensures.taken) c.next-status.ensures.message

pub returns-clause-code : goal.returns-clause-code
returns-clause-code c = in-handle (ap Some c.deref.ensures ∙ c.in-Some.ensures.taken) c.next-status.ensures.code

pub returns-clause-same : goal.returns-clause-same
returns-clause-same c = c.put.ensures ∙ c.in-Some.ensures.taken
