use Rattle.std.proofs.Common.{sym, arith}
use Rattle.rh_heap.proofs.IndexLaws.{marked, size_room, link_of, link_room, link_fits, found_touching, found_clear}
use Rattle.rh_heap.proofs.span.indexed.spot_at.Goals as goal

pub read-size-requires-clause-within : goal.read-size-requires-clause-within
read-size-requires-clause-within g c =
    let s = c.requires.span.spells in
    let r = size_room _ _ _ s _ (marked _ _ _ c.requires.starts c.requires.multiple c.requires.marked) in
    omega (arith, r, s.heap.fits, s.within)

pub link_before-from-requires-clause-within : goal.link_before-from-requires-clause-within
link_before-from-requires-clause-within g c =
    let s = c.requires.span.spells in
    let r = size_room _ _ _ s _ (marked _ _ _ c.requires.starts c.requires.multiple c.requires.marked) in
    omega (arith, r, s.heap.fits, c.requires.starts.long)

pub ends_at-requires-clause-within : goal.ends_at-requires-clause-within
ends_at-requires-clause-within g c =
    let s = c.requires.span.spells in
    let u = marked _ _ _ c.requires.starts c.requires.multiple c.requires.marked in
    let r = size_room _ _ _ s _ u in
    let k = link_of _ _ c.requires.starts s.heap.tidy u.before _ u.is _ u.place _ c.link_before-from.ensures in
    omega (arith, (link_room _ _ _ s _ u _ k).0, r, s.heap.fits, s.within)

pub ends_at-requires-clause-below : goal.ends_at-requires-clause-below
ends_at-requires-clause-below g c =
    let s = c.requires.span.spells in
    let u = marked _ _ _ c.requires.starts c.requires.multiple c.requires.marked in
    let k = link_of _ _ c.requires.starts s.heap.tidy u.before _ u.is _ u.place _ c.link_before-from.ensures in
    link_fits _ _ _ s _ u _ k

pub returns-then-ends_at : goal.returns-then-ends_at
returns-then-ends_at g c =
    let s = c.requires.span.spells in
    let u = marked _ _ _ c.requires.starts c.requires.multiple c.requires.marked in
    let k = link_of _ _ c.requires.starts s.heap.tidy u.before _ u.is _ u.place _ c.link_before-from.ensures in
    found_touching _ _ _ s _ u _ c.requires.starts _ _ _ k (sym c.read-size.ensures.value) (c.ends_at.ensures.touches c.if-ends_at.true)
    c.link_before-link.ensures

pub returns-else-ends_at : goal.returns-else-ends_at
returns-else-ends_at g c =
    let s = c.requires.span.spells in
    let u = marked _ _ _ c.requires.starts c.requires.multiple c.requires.marked in
    let k = link_of _ _ c.requires.starts s.heap.tidy u.before _ u.is _ u.place _ c.link_before-from.ensures in
    found_clear _ _ _ s _ u _ _ k (sym c.read-size.ensures.value) (c.ends_at.ensures.apart c.if-ends_at.false)
