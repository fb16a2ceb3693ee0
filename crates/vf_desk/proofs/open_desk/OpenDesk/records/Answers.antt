use Rattle.std.proofs.Common.{refl, sym}
use Rattle.rh_defs.specs.declared.question.Question.TheVariants as question
use Rattle.vf_desk.proofs.FillLaws.{filled-none}
use Rattle.vf_desk.proofs.FormLaws.{a-name, no-name}
use Rattle.vf_desk.proofs.ListLaws.{listed-bad, listed-closed, listed-open}
use Rattle.vf_desk.proofs.open_desk.OpenDesk.records.Goals as goal

pub returns-in_default-clause-out : goal.returns-in_default-clause-out
returns-in_default-clause-out c = λ s seen. rw (listed-closed c.in_default.is s (question.Status c.args.name.now) seen) (sym (filled-none c.args.outgoing.now))

pub returns-in_default-clause-taken : goal.returns-in_default-clause-taken
returns-in_default-clause-taken c =
    λ s seen. rw (listed-closed c.in_default.is s (question.Status c.args.name.now) seen) (sym (filled-none c.args.incoming.now))

pub returns-in_default-clause-outs : goal.returns-in_default-clause-outs
returns-in_default-clause-outs c = λ s seen. rw (listed-closed c.in_default.is s (question.Status c.args.name.now) seen) refl

pub returns-in_default-clause-ins : goal.returns-in_default-clause-ins
returns-in_default-clause-ins c = λ s seen. rw (listed-closed c.in_default.is s (question.Status c.args.name.now) seen) refl

pub returns-in_default-name_of-clause-out : goal.returns-in_default-name_of-clause-out
returns-in_default-name_of-clause-out c = λ s seen. rw (listed-bad s (question.Status c.args.name.now)
    (no-name c.args.name.now c.in_default-name_of.ensures)) (sym (filled-none c.args.outgoing.now))

pub returns-in_default-name_of-clause-taken : goal.returns-in_default-name_of-clause-taken
returns-in_default-name_of-clause-taken c = λ s seen. rw (listed-bad s (question.Status c.args.name.now)
    (no-name c.args.name.now c.in_default-name_of.ensures)) (sym (filled-none c.args.incoming.now))

pub returns-in_default-name_of-clause-outs : goal.returns-in_default-name_of-clause-outs
returns-in_default-name_of-clause-outs c =
    λ s seen. rw (listed-bad s (question.Status c.args.name.now) (no-name c.args.name.now c.in_default-name_of.ensures)) refl

pub returns-in_default-name_of-clause-ins : goal.returns-in_default-name_of-clause-ins
returns-in_default-name_of-clause-ins c =
    λ s seen. rw (listed-bad s (question.Status c.args.name.now) (no-name c.args.name.now c.in_default-name_of.ensures)) refl

pub returns-clause-out : goal.returns-clause-out
returns-clause-out c = λ s seen.
    let named = a-name c.args.name.now c.in-Some-name_of.name c.in-Some-name_of.ensures in
    rw (listed-open c.in-Some.is s (question.Status c.args.name.now) seen named.1, ← named.0) c.list_records.ensures.out

pub returns-clause-taken : goal.returns-clause-taken
returns-clause-taken c = λ s seen.
    let named = a-name c.args.name.now c.in-Some-name_of.name c.in-Some-name_of.ensures in
    rw (listed-open c.in-Some.is s (question.Status c.args.name.now) seen named.1, ← named.0) c.list_records.ensures.taken

pub returns-clause-outs : goal.returns-clause-outs
returns-clause-outs c = λ s seen.
    let named = a-name c.args.name.now c.in-Some-name_of.name c.in-Some-name_of.ensures in
    rw (listed-open c.in-Some.is s (question.Status c.args.name.now) seen named.1, ← named.0) c.list_records.ensures.outs

pub returns-clause-ins : goal.returns-clause-ins
returns-clause-ins c = λ s seen.
    let named = a-name c.args.name.now c.in-Some-name_of.name c.in-Some-name_of.ensures in
    rw (listed-open c.in-Some.is s (question.Status c.args.name.now) seen named.1, ← named.0) c.list_records.ensures.ins
