use Rattle.rh_script.proofs.Common.{◌∙◌, arith, heap_of_named}
use Rattle.rh_script.proofs.SegmentLemmas.{walk_none, batch_ends, batch_more, batch_none}
use Rattle.rh_script.proofs.segments.print_segments.Goals as goal

pub places-init : goal.places-init
places-init g c = record { walked = walk_none _ _; items_are = c.segments_of.ensures.items }

pub place_behind-place-requires-clause-low : goal.place_behind-place-requires-clause-low
place_behind-place-requires-clause-low g c =
    let e = batch_ends (heap_of_named c.args.name.now c.args.world.now.desk) c.places.place c.deref.result.now c.in-Some.last.now
    c.segments_of.ensures.heap c.places.invariant.walked (c.deref.ensures.0 ∙ c.places.invariant.items_are) c.in-Some.ensures.value in
    omega (arith, e.low)

pub place_behind-place-requires-clause-small : goal.place_behind-place-requires-clause-small
place_behind-place-requires-clause-small g c =
    let e = batch_ends (heap_of_named c.args.name.now c.args.world.now.desk) c.places.place c.deref.result.now c.in-Some.last.now
    c.segments_of.ensures.heap c.places.invariant.walked (c.deref.ensures.0 ∙ c.places.invariant.items_are) c.in-Some.ensures.value in
    omega (arith, e.within, c.segments_of.ensures.short)

pub places-smaller : goal.places-smaller
places-smaller g c =
    let e = batch_ends (heap_of_named c.args.name.now c.args.world.now.desk) c.places.place c.deref.result.now c.in-Some.last.now
    c.segments_of.ensures.heap c.places.invariant.walked (c.deref.ensures.0 ∙ c.places.invariant.items_are) c.in-Some.ensures.value in
    omega (arith, e.low, e.within, c.place_behind-place.ensures)

pub places-preserved : goal.places-preserved
places-preserved g c = record {
  walked = batch_more (heap_of_named c.args.name.now c.args.world.now.desk) c.places.place _ c.deref.result.now c.in-Some.last.now
      c.segments_of.ensures.heap c.places.invariant.walked (c.deref.ensures.0 ∙ c.places.invariant.items_are) c.in-Some.ensures.value
      c.place_behind-place.ensures (rw (c.deref.ensures.0, ← c.deref-in-Some.ensures.0) (rw c.new.ensures at c.print_items.ensures));
  items_are = c.segments_of-in-Some.ensures.items;
}

pub returns : goal.returns
returns g c =
    batch_none (heap_of_named c.args.name.now c.args.world.now.desk) c.places.place c.deref.result.now c.segments_of.ensures.heap
    c.places.invariant.walked (c.deref.ensures.0 ∙ c.places.invariant.items_are) c.in_default.ensures.value
