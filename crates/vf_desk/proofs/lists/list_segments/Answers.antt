use Rattle.std.proofs.Common.{◌∙◌, ap, arith, refl, sym}
use Rattle.vf_desk.proofs.Common.{map, filled_from}
use Rattle.vf_desk.specs.DeskItems.{as_segment}
use Rattle.vf_desk.proofs.FillLaws.{from-none}
use Rattle.rh_script.specs.NamedSlots.{heap_of_named}
use Rattle.rh_script.proofs.ReadLemmas.{named_is_slot, named_is_short}
use Rattle.rh_tasks.specs.WorldLists.{segment_items_at}
use Rattle.vf_desk.proofs.SegmentLaws.{batch-ends, batch-more, batch-none, segments-listed, walk-none, walked-few}
use Rattle.vf_desk.proofs.lists.list_segments.Goals as goal

pub places-init : goal.places-init
places-init c = walk-none _ _

pub place_behind-place-requires-clause-low : goal.place_behind-place-requires-clause-low
place_behind-place-requires-clause-low c =
    let h = heap_of_named c.args.name.now c.args.world.now.desk in
    let is = (named_is_slot c.args.name.now c.args.world.now.desk c.recall_spelling.ensures.desk.slots).heap in
    let e = batch-ends h c.places.place c.places.count c.args.to.now c.places.to is c.places.invariant
    (segment_items_at c.places.place h) c.in-Some.found.last refl c.in-Some.ensures.run.1 in
    omega (arith, e.low)

pub place_behind-place-requires-clause-small : goal.place_behind-place-requires-clause-small
place_behind-place-requires-clause-small c =
    let h = heap_of_named c.args.name.now c.args.world.now.desk in
    let is = (named_is_slot c.args.name.now c.args.world.now.desk c.recall_spelling.ensures.desk.slots).heap in
    let e = batch-ends h c.places.place c.places.count c.args.to.now c.places.to is c.places.invariant
    (segment_items_at c.places.place h) c.in-Some.found.last refl c.in-Some.ensures.run.1 in
    omega (arith, e.within, named_is_short c.args.name.now c.args.world.now.desk c.recall_spelling.ensures.desk)

pub places-smaller : goal.places-smaller
places-smaller c =
    let h = heap_of_named c.args.name.now c.args.world.now.desk in
    let is = (named_is_slot c.args.name.now c.args.world.now.desk c.recall_spelling.ensures.desk.slots).heap in
    let e = batch-ends h c.places.place c.places.count c.args.to.now c.places.to is c.places.invariant
    (segment_items_at c.places.place h) c.in-Some.found.last refl c.in-Some.ensures.run.1 in
    omega (arith, e.low, e.within, c.place_behind-place.ensures)

pub overflow_add-count : goal.overflow_add-count
overflow_add-count c =
    let h = heap_of_named c.args.name.now c.args.world.now.desk in
    let is = (named_is_slot c.args.name.now c.args.world.now.desk c.recall_spelling.ensures.desk.slots).heap in
    let more = batch-more h c.places.place c.places.count c.args.to.now c.places.to is c.places.invariant
    (segment_items_at c.places.place h) c.in-Some.found.last refl c.in-Some.ensures.run.1
    c.place_behind-place.result c.list_run.new.to c.place_behind-place.ensures c.list_run.ensures.list in
    let few = walked-few h c.place_behind-place.result _ c.args.to.now c.list_run.new.to is more in
    omega (arith, few, c.in-Some.ensures.run.0, named_is_short c.args.name.now c.args.world.now.desk c.recall_spelling.ensures.desk)

pub places-preserved : goal.places-preserved
places-preserved c =
    let h = heap_of_named c.args.name.now c.args.world.now.desk in
    let is = (named_is_slot c.args.name.now c.args.world.now.desk c.recall_spelling.ensures.desk.slots).heap in
    rw (c.in-Some.ensures.run.0) (batch-more h c.places.place c.places.count c.args.to.now c.places.to is c.places.invariant
    (segment_items_at c.places.place h) c.in-Some.found.last refl c.in-Some.ensures.run.1
    c.place_behind-place.result c.list_run.new.to c.place_behind-place.ensures c.list_run.ensures.list)

pub returns-clause-list : goal.returns-clause-list
returns-clause-list c =
    let h = heap_of_named c.args.name.now c.args.world.now.desk in
    let is = (named_is_slot c.args.name.now c.args.world.now.desk c.recall_spelling.ensures.desk.slots).heap in
    let all = batch-none h c.places.place c.places.count c.args.to.now c.places.to is c.places.invariant c.in_default.ensures.run in
    rw (segments-listed c.args.world.now.desk c.args.name.now) (c.list_run.ensures.list
    ∙ ap (λ items. filled_from c.places.count (map as_segment items) c.places.to) (sym c.in_default.ensures.run)
    ∙ from-none c.places.count c.places.to ∙ all.0)

pub returns-clause-count : goal.returns-clause-count
returns-clause-count c =
    let h = heap_of_named c.args.name.now c.args.world.now.desk in
    let is = (named_is_slot c.args.name.now c.args.world.now.desk c.recall_spelling.ensures.desk.slots).heap in
    rw (segments-listed c.args.world.now.desk c.args.name.now)
    (batch-none h c.places.place c.places.count c.args.to.now c.places.to is c.places.invariant c.in_default.ensures.run).1
