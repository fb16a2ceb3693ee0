use Rattle.rh_heap.proofs.Common.{arith, Edited-both, Edited-wider}
use Rattle.rh_heap.proofs.ResizeLaws.{into, widen_bounds, widen_is_stretch, widen_spells}
use Rattle.rh_heap.proofs.span.resize.widen.Goals as goal

pub follow-next-requires-clause-within : goal.follow-next-requires-clause-within
follow-next-requires-clause-within g c =
    let b = widen_bounds _ _ _ _ c.requires.span.spells c.requires.found _ c.requires.multiple _
    (into _ _ _ _ c.requires.span.spells c.requires.found _ _ c.requires.way) in
    let s = c.requires.span.spells in
    omega (arith, b.inside, b.least, s.heap.fits, s.within)

pub lengthen-requires-clause-longer : goal.lengthen-requires-clause-longer
lengthen-requires-clause-longer g c =
    let b = widen_bounds _ _ _ _ c.requires.span.spells c.requires.found _ c.requires.multiple _
    (into _ _ _ _ c.requires.span.spells c.requires.found _ _ c.requires.way) in
    omega (arith, b.longer)

pub lengthen-requires-clause-within : goal.lengthen-requires-clause-within
lengthen-requires-clause-within g c =
    let b = widen_bounds _ _ _ _ c.requires.span.spells c.requires.found _ c.requires.multiple _
    (into _ _ _ _ c.requires.span.spells c.requires.found _ _ c.requires.way) in
    let s = c.requires.span.spells in
    omega (arith, b.inside, b.fits, s.heap.fits, s.within)

pub overflow_add-spot : goal.overflow_add-spot
overflow_add-spot g c =
    let b = widen_bounds _ _ _ _ c.requires.span.spells c.requires.found _ c.requires.multiple _
    (into _ _ _ _ c.requires.span.spells c.requires.found _ _ c.requires.way) in
    let s = c.requires.span.spells in
    omega (arith, b.inside, b.fits, s.heap.fits, s.within, g.met.S.Words.small c.args.store.now c.args.span.area.0)

pub overflow_add-upper-2 : goal.overflow_add-upper-2
overflow_add-upper-2 g c =
    let b = widen_bounds _ _ _ _ c.requires.span.spells c.requires.found _ c.requires.multiple _
    (into _ _ _ _ c.requires.span.spells c.requires.found _ _ c.requires.way) in
    let s = c.requires.span.spells in
    omega (arith, b.inside, s.heap.fits, s.within, g.met.S.Words.small c.args.store.now c.args.span.area.0)

pub returns-clause-only : goal.returns-clause-only
returns-clause-only g c =
    let b = widen_bounds _ _ _ _ c.requires.span.spells c.requires.found _ c.requires.multiple _
    (into _ _ _ _ c.requires.span.spells c.requires.found _ _ c.requires.way) in
    let s = c.requires.span.spells in
    let i = b.inside in
    let f = b.fits in
    let fit = s.heap.fits in
    Edited-both _ _ _ _ _ _ (Edited-wider _ _ _ _ _ _ _ c.lengthen.ensures.only (omega arith) (omega arith))
    (Edited-wider _ _ _ _ _ _ _ c.settle.ensures.only (omega arith) (omega arith))

pub settle-requires-clause-stretch : goal.settle-requires-clause-stretch
settle-requires-clause-stretch g c =
    widen_is_stretch _ _ _ _ c.requires.span.spells c.requires.found _ c.requires.multiple _
    (into _ _ _ _ c.requires.span.spells c.requires.found _ _ c.requires.way) _ _
    c.follow-next.ensures c.lengthen.ensures.only.outside c.lengthen.ensures.size c.lengthen.ensures.block

pub returns-clause-spells : goal.returns-clause-spells
returns-clause-spells g c =
    widen_spells _ _ _ _ c.requires.span.spells c.requires.found _ c.requires.multiple _
    (into _ _ _ _ c.requires.span.spells c.requires.found _ _ c.requires.way) _ _ _
    c.follow-next.ensures c.lengthen.ensures.only.outside c.lengthen.ensures.size c.lengthen.ensures.block c.settle.ensures.settles
