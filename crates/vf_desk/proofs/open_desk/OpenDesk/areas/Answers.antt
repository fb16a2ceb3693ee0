use Rattle.std.proofs.Common.{refl, sym}
use Rattle.rh_defs.specs.declared.question.Question.TheVariants as question
use Rattle.vf_desk.proofs.FillLaws.{filled-none}
use Rattle.vf_desk.proofs.ListLaws.{listed-closed, listed-open}
use Rattle.vf_desk.proofs.open_desk.OpenDesk.areas.Goals as goal

pub returns-in-Some-clause-list : goal.returns-in-Some-clause-list
returns-in-Some-clause-list c = λ s seen. rw (listed-open c.in-Some.is s question.Areas seen refl) c.list_areas.ensures.list

pub returns-in-Some-clause-count : goal.returns-in-Some-clause-count
returns-in-Some-clause-count c = λ s seen. rw (listed-open c.in-Some.is s question.Areas seen refl) c.list_areas.ensures.count

pub returns-in-None-clause-list : goal.returns-in-None-clause-list
returns-in-None-clause-list c = λ s seen. rw (listed-closed c.in-None.is s question.Areas seen) (sym (filled-none c.args.to.now))

pub returns-in-None-clause-count : goal.returns-in-None-clause-count
returns-in-None-clause-count c = λ s seen. rw (listed-closed c.in-None.is s question.Areas seen) refl
