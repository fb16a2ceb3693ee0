use Rattle.vf_desk.proofs.Common.{Some, refl, sym, ap, ◌∙◌}
use Rattle.rh_defs.specs.declared.question.Question.TheVariants as question
use Rattle.vf_desk.proofs.FillLaws.{filled-none}
use Rattle.vf_desk.proofs.ListLaws.{listed-closed}
use Rattle.vf_desk.proofs.SeenLaws.{empty-seen, in-handle}
use Rattle.vf_desk.proofs.questions.put_segments.Goals as goal

pub returns-in_default-clause-same : goal.returns-in_default-clause-same
returns-in_default-clause-same c = c.in_default.ensures.left ∙ c.in_default.ensures.taken

pub returns-in_default-clause-list : goal.returns-in_default-clause-list
returns-in_default-clause-list c = λ s seen.
    rw (listed-closed refl s (question.Heap c.args.name.now) (empty-seen (sym c.in_default.ensures.taken) s seen)) (sym (filled-none c.args.segments.now))

pub returns-in_default-clause-count : goal.returns-in_default-clause-count
returns-in_default-clause-count c = λ s seen.
    rw (listed-closed refl s (question.Heap c.args.name.now) (empty-seen (sym c.in_default.ensures.taken) s seen)) refl

pub returns-clause-same : goal.returns-clause-same
returns-clause-same c = c.put.ensures ∙ c.in-Some.ensures.taken

pub returns-clause-list : goal.returns-clause-list
returns-clause-list c = in-handle (ap Some c.deref.ensures ∙ c.in-Some.ensures.taken) c.segments-n.ensures.list

pub returns-clause-count : goal.returns-clause-count
returns-clause-count c = in-handle (ap Some c.deref.ensures ∙ c.in-Some.ensures.taken) c.segments-n.ensures.count
