use Rattle.std.proofs.Common.{arith}
use Rattle.rh_slot.proofs.FlexLaws.{leads}
use Rattle.rh_slot.proofs.slot.Slot.locate.Goals as goal

pub returns-then-address-eq0 : goal.returns-then-address-eq0
returns-then-address-eq0 g c =
    (leads _ _ _ _ _ c.requires.slot.spells.words c.requires.anchor c.word_place.ensures c.read-address.ensures.value).0 c.if-address-eq0.true

pub overflow_sub-place : goal.overflow_sub-place
overflow_sub-place g c =
    let x = (leads _ _ _ _ _ c.requires.slot.spells.words c.requires.anchor c.word_place.ensures c.read-address.ensures.value).1 c.if-address-eq0.false in
    omega (arith, x.least)

pub overflow_sub-place-2 : goal.overflow_sub-place-2
overflow_sub-place-2 g c =
    let x = (leads _ _ _ _ _ c.requires.slot.spells.words c.requires.anchor c.word_place.ensures c.read-address.ensures.value).1 c.if-address-eq0.false in
    omega (arith, x.least)

pub read-size-requires-clause-within : goal.read-size-requires-clause-within
read-size-requires-clause-within g c =
    let x = (leads _ _ _ _ _ c.requires.slot.spells.words c.requires.anchor c.word_place.ensures c.read-address.ensures.value).1 c.if-address-eq0.false in
    omega (arith, x.within)

pub returns : goal.returns
returns g c =
    ((leads _ _ _ _ _ c.requires.slot.spells.words c.requires.anchor c.word_place.ensures c.read-address.ensures.value).1 c.if-address-eq0.false).found _
    c.read-size.ensures.value
