use Rattle.rh_tasks.proofs.Common.{◌∙◌, arith, module_start, module_heap_in, the_module}
use Rattle.rh_tasks.proofs.SegmentItems.{items_from, small_from}
use Rattle.rh_tasks.proofs.SightLaws.{module-items}
use Rattle.rh_tasks.proofs.world.World.module_segments.Goals as goal

pub segment_items-requires-clause-small : goal.segment_items-requires-clause-small
segment_items-requires-clause-small g c =
    let is = c.self.invariant.areas.module_area in
    rw (c.deref.ensures.0, c.segments_from-segments.ensures)
    (small_from c.args.place (module_heap_in (g.S.Words.memory c.self.inside.store) the_module)
    (omega (arith, is.spells.spells.heap.fits, is.spells.whole, g.met.S.Words.small c.self.inside.store 1)))

pub returns : goal.returns
returns g c =
    rw (← c.self.view_is, c.segment_items.ensures, c.deref.ensures.0, c.segments_from-segments.ensures)
    (items_from module_start c.args.place (module_heap_in (g.S.Words.memory c.self.inside.store) the_module)
    ∙ module-items c.self.invariant module_start c.args.place)
