use Rattle.rh_slot.proofs.Common.{refl, sym, ◌∙◌, BadSize, BadAnchor, SparePage}
use Rattle.rh_slot.proofs.ImageLaws.{refused}
use Rattle.rh_slot.proofs.ImageWalks.{ready, bad_size, bad_anchor, spare, all_right, no_fault, sums_are}
use Rattle.rh_slot.proofs.image.check_blocks.Goals as goal

pub row_from-requires-clause-within : goal.row_from-requires-clause-within
row_from-requires-clause-within c = (ready _ _ _ c.requires.length c.requires.heap c.word_in.ensures refl).within

pub row_from-requires-clause-whole : goal.row_from-requires-clause-whole
row_from-requires-clause-whole c = (ready _ _ _ c.requires.length c.requires.heap c.word_in.ensures refl).whole

pub returns-in_default-clause-ok : goal.returns-in_default-clause-ok
returns-in_default-clause-ok c = refused _ BadSize (bad_size _ _ (ready _ _ _ c.requires.length c.requires.heap c.word_in.ensures refl) c.in_default.ensures)

pub returns-in_default-clause-fault : goal.returns-in_default-clause-fault
returns-in_default-clause-fault c = sym (bad_size _ _ (ready _ _ _ c.requires.length c.requires.heap c.word_in.ensures refl) c.in_default.ensures)

pub returns-then-anchors_in_use-row-clause-ok : goal.returns-then-anchors_in_use-row-clause-ok
returns-then-anchors_in_use-row-clause-ok c = refused _ BadAnchor (bad_anchor _ _ (ready _ _ _ c.requires.length c.requires.heap c.word_in.ensures refl) _
    c.in-Some.ensures (λ e. c.if-anchors_in_use-row.true (c.anchors_in_use.ensures ∙ e)))

pub returns-then-anchors_in_use-row-clause-fault : goal.returns-then-anchors_in_use-row-clause-fault
returns-then-anchors_in_use-row-clause-fault c = sym (bad_anchor _ _ (ready _ _ _ c.requires.length c.requires.heap c.word_in.ensures refl) _
    c.in-Some.ensures (λ e. c.if-anchors_in_use-row.true (c.anchors_in_use.ensures ∙ e)))

pub returns-then-unused-ge-PAGE-clause-ok : goal.returns-then-unused-ge-PAGE-clause-ok
returns-then-unused-ge-PAGE-clause-ok c =
    refused _ SparePage (spare _ _ (ready _ _ _ c.requires.length c.requires.heap c.word_in.ensures refl) _ c.in-Some.ensures
    (sym c.anchors_in_use.ensures ∙ c.if-anchors_in_use-row.false) c.if-unused-ge-PAGE.true)

pub returns-then-unused-ge-PAGE-clause-fault : goal.returns-then-unused-ge-PAGE-clause-fault
returns-then-unused-ge-PAGE-clause-fault c =
    sym (spare _ _ (ready _ _ _ c.requires.length c.requires.heap c.word_in.ensures refl) _ c.in-Some.ensures
    (sym c.anchors_in_use.ensures ∙ c.if-anchors_in_use-row.false) c.if-unused-ge-PAGE.true)

pub returns-clause-ok : goal.returns-clause-ok
returns-clause-ok c =
    let i = all_right _ _ (ready _ _ _ c.requires.length c.requires.heap c.word_in.ensures refl) _ c.in-Some.ensures
    (sym c.anchors_in_use.ensures ∙ c.if-anchors_in_use-row.false) c.if-unused-ge-PAGE.false in
    (λ _. i, λ _. refl)

pub returns-clause-sums : goal.returns-clause-sums
returns-clause-sums c = sums_are _ _ (ready _ _ _ c.requires.length c.requires.heap c.word_in.ensures refl) _ c.in-Some.ensures _ c.requires.sums

pub returns-clause-fault : goal.returns-clause-fault
returns-clause-fault c =
    sym (no_fault _ _ (ready _ _ _ c.requires.length c.requires.heap c.word_in.ensures refl) _ c.in-Some.ensures
    (sym c.anchors_in_use.ensures ∙ c.if-anchors_in_use-row.false) c.if-unused-ge-PAGE.false)
