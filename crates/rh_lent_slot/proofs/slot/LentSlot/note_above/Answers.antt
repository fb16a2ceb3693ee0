use Rattle.rh_lent_slot.proofs.Common.{arith, lent_slot_bytes, lent_slot_in}
use Rattle.rh_slot.proofs.FlexLaws.{leads}
use Rattle.rh_lent_slot.proofs.NotedLaws.{notes_above, notes_none, whole_above}
use Rattle.rh_lent_slot.proofs.slot.LentSlot.note_above.Goals as goal

pub returns-then-address-eq0-clause-first : goal.returns-then-address-eq0-clause-first
returns-then-address-eq0-clause-first c =
    notes_none (lent_slot_bytes c.args.bytes.now c.args.self) (lent_slot_in c.args.bytes.now c.args.self) c.args.anchor
    ((leads _ _ _ _ _ c.requires.slot.spells.words c.requires.anchor (let v = c.anchor.view_is in omega arith)
    c.word_in-address.ensures).0 c.if-address-eq0.true)

pub overflow_sub-place : goal.overflow_sub-place
overflow_sub-place c =
    let v = c.anchor.view_is in
    let x = (leads _ _ _ _ _ c.requires.slot.spells.words c.requires.anchor (omega arith) c.word_in-address.ensures).1 c.if-address-eq0.false in
    omega (arith, x.least)

pub overflow_sub-place-2 : goal.overflow_sub-place-2
overflow_sub-place-2 c =
    let v = c.anchor.view_is in
    let x = (leads _ _ _ _ _ c.requires.slot.spells.words c.requires.anchor (omega arith) c.word_in-address.ensures).1 c.if-address-eq0.false in
    omega (arith, x.least)

pub word_in-size-requires : goal.word_in-size-requires
word_in-size-requires c =
    let v = c.anchor.view_is in
    let x = (leads _ _ _ _ _ c.requires.slot.spells.words c.requires.anchor (omega arith) c.word_in-address.ensures).1 c.if-address-eq0.false in
    omega (arith, x.within)

pub note_at-requires-clause-whole : goal.note_at-requires-clause-whole
note_at-requires-clause-whole c =
    let v = c.anchor.view_is in
    let x = (leads _ _ _ _ _ c.requires.slot.spells.words c.requires.anchor (omega arith) c.word_in-address.ensures).1 c.if-address-eq0.false in
    let h = c.requires.slot.spells.words.heap.heap.multiple in
    whole_above _ _ _ _ _ (omega (arith, h)) (x.found _ c.word_in-size.ensures) c.flex_weight.ensures

pub returns-clause-first : goal.returns-clause-first
returns-clause-first c =
    let v = c.anchor.view_is in
    let x = (leads _ _ _ _ _ c.requires.slot.spells.words c.requires.anchor (omega arith) c.word_in-address.ensures).1 c.if-address-eq0.false in
    notes_above _ _ _ _ _ _ _ c.requires.slot.spells.words (x.found _ c.word_in-size.ensures) (let w = c.flex_weight.ensures in omega arith)
    c.note_at.ensures
