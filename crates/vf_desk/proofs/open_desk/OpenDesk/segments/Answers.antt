use Rattle.std.proofs.Common.{refl, sym}
use Rattle.rh_defs.specs.declared.question.Question.TheVariants as question
use Rattle.vf_desk.proofs.FillLaws.{filled-none}
use Rattle.vf_desk.proofs.FormLaws.{a-name, no-name}
use Rattle.vf_desk.proofs.ListLaws.{listed-bad, listed-closed, listed-open}
use Rattle.vf_desk.proofs.open_desk.OpenDesk.segments.Goals as goal

pub returns-in_default-clause-list : goal.returns-in_default-clause-list
returns-in_default-clause-list c = λ s seen. rw (listed-closed c.in_default.is s (question.Heap c.args.name.now) seen) (sym (filled-none c.args.to.now))

pub returns-in_default-clause-count : goal.returns-in_default-clause-count
returns-in_default-clause-count c = λ s seen. rw (listed-closed c.in_default.is s (question.Heap c.args.name.now) seen) refl

pub returns-in_default-name_of-clause-list : goal.returns-in_default-name_of-clause-list
returns-in_default-name_of-clause-list c =
    λ s seen. rw (listed-bad s (question.Heap c.args.name.now) (no-name c.args.name.now c.in_default-name_of.ensures)) (sym (filled-none c.args.to.now))

pub returns-in_default-name_of-clause-count : goal.returns-in_default-name_of-clause-count
returns-in_default-name_of-clause-count c =
    λ s seen. rw (listed-bad s (question.Heap c.args.name.now) (no-name c.args.name.now c.in_default-name_of.ensures)) refl

pub returns-clause-list : goal.returns-clause-list
returns-clause-list c = λ s seen.
    let named = a-name c.args.name.now c.in-Some-name_of.name c.in-Some-name_of.ensures in
    rw (listed-open c.in-Some.is s (question.Heap c.args.name.now) seen named.1, ← named.0) c.list_segments.ensures.list

pub returns-clause-count : goal.returns-clause-count
returns-clause-count c = λ s seen.
    let named = a-name c.args.name.now c.in-Some-name_of.name c.in-Some-name_of.ensures in
    rw (listed-open c.in-Some.is s (question.Heap c.args.name.now) seen named.1, ← named.0) c.list_segments.ensures.count
