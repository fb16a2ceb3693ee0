use Rattle.rh_scene.proofs.Common.{◌∙◌, ◌-◌, length, ap, arith, slice_get, heap_start_of}
use Rattle.rh_scene.proofs.Heaps.{census-is, comes-next, comes-parts, counted-all, counted-more, counted-none, counted-so, seen, start-small, stepped, told}
use Rattle.rh_scene.proofs.walk.take_census.Goals as goal

pub places-init : goal.places-init
places-init g c = λ rest w. counted-none (told (heap_start_of c.args.heap) w c.segments-items.ensures)

pub overflow_add-count : goal.overflow_add-count
overflow_add-count g c =
    let r = c.requires in
    let k = c.places.invariant r.0 r.1 in
    let here = c.in-Some.ensures.value ∙ ap (λ xs. slice_get xs (length xs - 1)) c.deref.ensures.0 in
    let s = stepped r.1 k 0 c.in-Some.last.now (seen c.recall_desk.ensures c.args.heap r.1.heap r.1.is) here in
    omega (arith, s.few, c.len.ensures.value)

pub place_behind-end-requires-clause-low : goal.place_behind-end-requires-clause-low
place_behind-end-requires-clause-low g c =
    let r = c.requires in
    let k = c.places.invariant r.0 r.1 in
    let here = c.in-Some.ensures.value ∙ ap (λ xs. slice_get xs (length xs - 1)) c.deref.ensures.0 in
    let s = stepped r.1 k 0 c.in-Some.last.now (seen c.recall_desk.ensures c.args.heap r.1.heap r.1.is) here in
    s.low

pub place_behind-end-requires-clause-small : goal.place_behind-end-requires-clause-small
place_behind-end-requires-clause-small g c =
    let r = c.requires in
    let k = c.places.invariant r.0 r.1 in
    let here = c.in-Some.ensures.value ∙ ap (λ xs. slice_get xs (length xs - 1)) c.deref.ensures.0 in
    let s = stepped r.1 k 0 c.in-Some.last.now (seen c.recall_desk.ensures c.args.heap r.1.heap r.1.is) here in
    omega (arith, s.small, start-small c.args.heap)

pub segments-items-requires-in-Some : goal.segments-items-requires-in-Some
segments-items-requires-in-Some g c =
    let r = c.requires in
    let k = c.places.invariant r.0 r.1 in
    let here = c.in-Some.ensures.value ∙ ap (λ xs. slice_get xs (length xs - 1)) c.deref.ensures.0 in
    comes-parts (comes-next r.1 k c.place_behind-end.result c.in-Some.last.now here c.place_behind-end.ensures)

pub places-smaller : goal.places-smaller
places-smaller g c =
    let r = c.requires in
    let k = c.places.invariant r.0 r.1 in
    let here = c.in-Some.ensures.value ∙ ap (λ xs. slice_get xs (length xs - 1)) c.deref.ensures.0 in
    let s = stepped r.1 k c.place_behind-end.result c.in-Some.last.now (seen c.recall_desk.ensures c.args.heap r.1.heap r.1.is) here in
    omega (arith, s.goes c.place_behind-end.ensures, s.within c.place_behind-end.ensures)

pub places-preserved : goal.places-preserved
places-preserved g c = λ rest w.
    let k = c.places.invariant rest w in
    let here = c.in-Some.ensures.value ∙ ap (λ xs. slice_get xs (length xs - 1)) c.deref.ensures.0 in
    counted-so c.places.count c.places.items.items (counted-more w k c.place_behind-end.result c.in-Some.last.now c.segments-items-in-Some.result.items here
    c.place_behind-end.ensures c.segments-items-in-Some.ensures) c.len.ensures.value

pub returns : goal.returns
returns g c = λ rest w.
    let k = c.places.invariant rest w in
    let none = c.in_default.ensures.value ∙ ap (λ xs. slice_get xs (length xs - 1)) c.deref.ensures.0 in
    census-is c.args.place rest (counted-all w k none)
