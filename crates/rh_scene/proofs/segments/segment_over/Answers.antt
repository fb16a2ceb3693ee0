use Rattle.rh_scene.proofs.Common.{◌∙◌, ◌+◌, ◌-◌, ◌<◌, Option, IfSome, length, find, ap, sym, refl, subst, arith, slice_get, heap_seen, heap_start_of}
use Rattle.rh_scene.proofs.Common.{SegmentItem, item_end, total, size_of}
use Rattle.rh_figure.specs.HeapSegments.{ends_behind}
use Rattle.rh_scene.proofs.Heaps.{comes-next, comes-parts, counted-all, counted-more, counted-none, room, seen, start-small, stepped, told}
use Rattle.rh_scene.proofs.Holders.{if-some, some-of}
use Rattle.rh_scene.proofs.PieceWalks.{comes-at}
use Rattle.rh_scene.proofs.SegmentFinds.{ends-within, looked-all, looked-found, looked-more, none-of}
use Rattle.rh_scene.proofs.segments.segment_over.Goals as goal

pub segments-items-requires : goal.segments-items-requires
segments-items-requires g c =
    let r = some-of (heap_seen c.args.heap (g.S.Sight.desk c.args.sight.now)) c.requires in
    comes-parts (comes-at r.0 0 16 r.1 refl)

pub places-init : goal.places-init
places-init g c = λ h e.
    record { count = 0; counted = counted-none (told (heap_start_of c.args.heap) (comes-at h 0 16 e refl) c.segments-items.ensures); so_far = refl }

pub returns-then-is_some-clause-value : goal.returns-then-is_some-clause-value
returns-then-is_some-clause-value g c =
    if-some (heap_seen c.args.heap (g.S.Sight.desk c.args.sight.now)) _
    (λ h e. looked-found (c.places.invariant h e) c.first_behind-found.result (sym c.is_some.ensures ∙ c.if-is_some.true)
    (c.first_behind-found.ensures ∙ ap (find (ends_behind c.args.address)) c.deref-in-Some.ensures.0))

pub returns-then-is_some-clause-small : goal.returns-then-is_some-clause-small
returns-then-is_some-clause-small g c =
    let a = c.args.address in
    let r = some-of (heap_seen c.args.heap (g.S.Sight.desk c.args.sight.now)) c.requires in
    let is = looked-found (c.places.invariant r.0 r.1) c.first_behind-found.result (sym c.is_some.ensures ∙ c.if-is_some.true)
    (c.first_behind-found.ensures ∙ ap (find (ends_behind a)) c.deref-in-Some.ensures.0) in
    let w = comes-at r.0 0 16 r.1 refl in
    let s = seen c.recall_desk.ensures c.args.heap w.heap w.is in
    let fits = (room w s).fits in
    let few = s.few in
    let low = start-small c.args.heap in
    let all : heap_start_of c.args.heap + 16 + total size_of r.0.segments < 33554432 = omega arith in
    let P : Option SegmentItem → Type 0 = λ o. IfSome o (λ i. (a < item_end i) × (item_end i < 33554432)) in
    subst P (sym is) (ends-within a (heap_start_of c.args.heap + 16) 33554432 r.0.segments all)

pub place_behind-place-requires-clause-low : goal.place_behind-place-requires-clause-low
place_behind-place-requires-clause-low g c =
    let r = some-of (heap_seen c.args.heap (g.S.Sight.desk c.args.sight.now)) c.requires in
    let w = comes-at r.0 0 16 r.1 refl in
    let k = (c.places.invariant r.0 r.1).counted in
    let here = c.in-Some.ensures.value ∙ ap (λ xs. slice_get xs (length xs - 1)) c.deref.ensures.0 in
    let s = stepped w k 0 c.in-Some.last.now (seen c.recall_desk.ensures c.args.heap w.heap w.is) here in
    s.low

pub place_behind-place-requires-clause-small : goal.place_behind-place-requires-clause-small
place_behind-place-requires-clause-small g c =
    let r = some-of (heap_seen c.args.heap (g.S.Sight.desk c.args.sight.now)) c.requires in
    let w = comes-at r.0 0 16 r.1 refl in
    let k = (c.places.invariant r.0 r.1).counted in
    let here = c.in-Some.ensures.value ∙ ap (λ xs. slice_get xs (length xs - 1)) c.deref.ensures.0 in
    let s = stepped w k 0 c.in-Some.last.now (seen c.recall_desk.ensures c.args.heap w.heap w.is) here in
    omega (arith, s.small, start-small c.args.heap)

pub segments-items-requires-in-Some : goal.segments-items-requires-in-Some
segments-items-requires-in-Some g c =
    let r = some-of (heap_seen c.args.heap (g.S.Sight.desk c.args.sight.now)) c.requires in
    let w = comes-at r.0 0 16 r.1 refl in
    let k = (c.places.invariant r.0 r.1).counted in
    let here = c.in-Some.ensures.value ∙ ap (λ xs. slice_get xs (length xs - 1)) c.deref.ensures.0 in
    comes-parts (comes-next w k c.place_behind-place.result c.in-Some.last.now here c.place_behind-place.ensures)

pub places-smaller : goal.places-smaller
places-smaller g c =
    let r = some-of (heap_seen c.args.heap (g.S.Sight.desk c.args.sight.now)) c.requires in
    let w = comes-at r.0 0 16 r.1 refl in
    let k = (c.places.invariant r.0 r.1).counted in
    let here = c.in-Some.ensures.value ∙ ap (λ xs. slice_get xs (length xs - 1)) c.deref.ensures.0 in
    let s = stepped w k c.place_behind-place.result c.in-Some.last.now (seen c.recall_desk.ensures c.args.heap w.heap w.is) here in
    omega (arith, s.goes c.place_behind-place.ensures, s.within c.place_behind-place.ensures)

pub places-preserved : goal.places-preserved
places-preserved g c = λ h e.
    let k = c.places.invariant h e in
    let here = c.in-Some.ensures.value ∙ ap (λ xs. slice_get xs (length xs - 1)) c.deref.ensures.0 in
    let found = c.first_behind-found.ensures ∙ ap (find (ends_behind c.args.address)) c.deref-in-Some.ensures.0 in
    looked-more k (sym found ∙ none-of c.first_behind-found.result (sym c.is_some.ensures ∙ c.if-is_some.false))
    (counted-more (comes-at h 0 16 e refl) k.counted c.place_behind-place.result c.in-Some.last.now c.segments-items-in-Some.result.items here
    c.place_behind-place.ensures c.segments-items-in-Some.ensures)

pub returns-clause-value : goal.returns-clause-value
returns-clause-value g c =
    let none = c.in_default.ensures.value ∙ ap (λ xs. slice_get xs (length xs - 1)) c.deref.ensures.0 in
    if-some (heap_seen c.args.heap (g.S.Sight.desk c.args.sight.now)) _
    (λ h e. let k = c.places.invariant h e in looked-all k (counted-all (comes-at h 0 16 e refl) k.counted none).0)
