use Rattle.vf_desk.proofs.Common.{sym, arith, tests}
use Rattle.rh_defs.specs.declared.question.Question.TheVariants as question
use Rattle.vf_desk.proofs.FillLaws.{filled-none}
use Rattle.vf_desk.proofs.FormLaws.{a-name, an-anchor, both-are, first-fails, no-anchor, no-name}
use Rattle.vf_desk.proofs.ListLaws.{listed-bad, listed-closed, listed-open}
use Rattle.vf_desk.proofs.open_desk.OpenDesk.bytes.Goals as goal

pub returns-in_default : goal.returns-in_default
returns-in_default c = λ s seen. rw (listed-closed c.in_default.is s (question.Show c.args.name.now c.args.anchor) seen) (sym (filled-none c.args.to.now))

pub returns-in_default-name_of : goal.returns-in_default-name_of
returns-in_default-name_of c = λ s seen. rw (listed-bad s (question.Show c.args.name.now c.args.anchor)
    (first-fails _ (no-name c.args.name.now c.in_default-name_of.ensures))) (sym (filled-none c.args.to.now))

pub returns-in_default-anchor_of : goal.returns-in_default-anchor_of
returns-in_default-anchor_of c = λ s seen.
    let named = a-name c.args.name.now c.in-Some-name_of.name c.in-Some-name_of.ensures in
    rw (listed-bad s (question.Show c.args.name.now c.args.anchor) (both-are named.1 (no-anchor c.args.anchor c.in_default-anchor_of.ensures)))
    (sym (filled-none c.args.to.now))

pub list_bytes-requires : goal.list_bytes-requires
list_bytes-requires c = let anchored = an-anchor c.args.anchor c.in-Some-anchor_of.anchor c.in-Some-anchor_of.ensures in grind (arith, tests)

pub returns : goal.returns
returns c = λ s seen.
    let named = a-name c.args.name.now c.in-Some-name_of.name c.in-Some-name_of.ensures in
    let anchored = an-anchor c.args.anchor c.in-Some-anchor_of.anchor c.in-Some-anchor_of.ensures in
    rw (listed-open c.in-Some.is s (question.Show c.args.name.now c.args.anchor) seen (both-are named.1 anchored.1), ← named.0, ← anchored.0)
    c.list_bytes.ensures
